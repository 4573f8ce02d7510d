-- The steps of redo.
use Rattle.std.proofs.Common.{◌≡◌, ⊎_elim, inl, inr, ◌⊎◌, ℕ, ◌+◌, ◌<◌, ◌≤◌, List, [], ◌∷◌, ◌++◌, take, drop, filter_map, Result, Ok, Err, OnErr, refl, sym, ap, ◌∙◌, subst, arith}
use Rattle.std.proofs.Math.Seq.{take-add}
use Rattle.std.specs.List.{AllByRecursion}
use Rattle.std.proofs.lemmas.List.{map-append}
use Rattle.std.proofs.lemmas.List.Elements.{filter_map-append}
use Rattle.std.proofs.lemmas.List.Sums.{fold-append}
use Rattle.rdf_types.specs.declared.records.Change.{Change}
use Rattle.rdf_types.specs.declared.records.Stamped.{Stamped}
use Rattle.rdf_disk.specs.Files.{Disk, Contents}
use Rattle.rdf_disk.specs.Outcomes.{Durably}
use Rattle.rdf_gatelog.specs.declared.fault.LogFault.{LogFault}
use Rattle.rdf_gatelog.specs.declared.fault.LogFault.TheVariants.{Damaged}
use Rattle.rdf_model.specs.Volumes.{Rows}
use Rattle.rdf_model.specs.Window.{records}
use Rattle.rdf_volume.specs.Changes.{change_on, changes_on, changed, with_change}
use Rattle.rdf_volume.specs.Standing.{StandsFor, StandsForEither}
use Rattle.rdf_volume.specs.StandingLaws.{stands_same}
use Rattle.rdf_types.specs.Entries.{before}
use Rattle.updaters.specs.Applied.{applied, StandsApplied, changes_by}
use Rattle.rdf_types.specs.EntryLaws.{before_twice}

-- ---- what redo has done so far

-- a batch more
pub changes_more : (vol : ℕ) (entries : List Stamped) (done n : ℕ) (batch : List Change) → batch ≡ changes_on vol (records (take n (drop done entries))) →
    changes_on vol (records (take (done + n) entries)) ≡ changes_on vol (records (take done entries)) ++ batch
changes_more vol entries done n batch is =
    ap (λ (l : List Stamped). changes_on vol (records l)) (take-add done n entries)
    ∙ ap (filter_map (change_on vol)) (map-append (λ (s : Stamped). s.rec) (take done entries) (take n (drop done entries)))
    ∙ filter_map-append (change_on vol) (records (take done entries)) (records (take n (drop done entries)))
    ∙ ap (λ (cs : List Change). changes_on vol (records (take done entries)) ++ cs) (sym is)

pub rows_more : (vol : ℕ) (entries : List Stamped) (done n : ℕ) (first rows : Rows) (batch : List Change) → rows ≡ changed first (changes_on vol (records (take done entries))) → batch ≡ changes_on vol (records (take n (drop done entries))) →
    changed rows batch ≡ changed first (changes_on vol (records (take (done + n) entries)))
rows_more vol entries done n first rows batch so_far is =
    ap (λ (r : Rows). changed r batch) so_far
    ∙ sym (fold-append with_change first (changes_on vol (records (take done entries))) batch)
    ∙ ap (changed first) (sym (changes_more vol entries done n batch is))

-- the rows after some entries, as those below a position
pub rows_below : (vol : ℕ) (entries : List Stamped) (done at : ℕ) (first rows : Rows) → rows ≡ changed first (changes_on vol (records (take done entries))) → before at entries ≡ take done entries → rows ≡ applied vol entries at first
rows_below vol entries done at first rows so_far cut = so_far ∙ ap (λ (l : List Stamped). changed first (changes_on vol (records l))) (sym cut)

-- ---- what is durable

module _ (vol : ℕ) (entries : List Stamped) (p upto : ℕ) (first : Rows) where
  pub stands_applied : (at : ℕ) (rows : Rows) (disk : Disk) → p ≤ at → at ≤ upto → rows ≡ applied vol entries at first → Durably disk (StandsFor rows at) → Durably disk (StandsApplied vol entries p upto first)
  stands_applied at rows disk behind within is durably c may = record { reached = at; behind = behind; within = within; stands = subst (λ (r : Rows). StandsFor r at c) is (durably c may) }

  pub either_applied : (at next : ℕ) (rows more : Rows) (disk : Disk) → p ≤ at → at ≤ upto → p ≤ next → next ≤ upto → rows ≡ applied vol entries at first → more ≡ applied vol entries next first →
      Durably disk (StandsForEither rows at more next) → Durably disk (StandsApplied vol entries p upto first)
  either_applied at next rows more disk behind within later no_further is more_is durably c may =
      ⊎_elim
      (λ (old : StandsFor rows at c). record { reached = at; behind = behind; within = within; stands = subst (λ (r : Rows). StandsFor r at c) is old })
      (λ (new : StandsFor more next c). record { reached = next; behind = later; within = no_further; stands = subst (λ (r : Rows). StandsFor r next c) more_is new })
      (durably c may)

  -- the entries below the end alone
  pub stands_in_all : (disk : Disk) (all : List Stamped) → entries ≡ before upto all → Durably disk (StandsApplied vol entries p upto first) → Durably disk (StandsApplied vol all p upto first)
  stands_in_all disk all is durably c may =
      let h : StandsApplied vol entries p upto first c = durably c may in
      record {
        reached = h.reached;
        behind = h.behind;
        within = h.within;
        stands = subst (λ (l : List Stamped). StandsFor (changed first (changes_on vol (records l))) h.reached c) (ap (before h.reached) is ∙ before_twice h.reached upto all h.within) h.stands;
      }

-- a fault that is passed on names the file that it named
pub passed_names : {T U : Type 0} (Holds : ℕ → Type 0) (r : Result T LogFault) (y x : LogFault) → r ≡ Err y → y ≡ x → ((damaged at : ℕ) → (let told : Result U LogFault = Err x in told) ≡ Err (Damaged damaged at) → Holds damaged)
    → (damaged at : ℕ) → r ≡ Err (Damaged damaged at) → Holds damaged
passed_names {T = T} {U = U} Holds r y x is same names damaged at e = names damaged at (ap (λ (f : LogFault). let told : Result U LogFault = Err f in told) (sym same ∙ same_fault (sym is ∙ e)))
  where
    same_fault : {f g : LogFault} → (let told : Result T LogFault = Err f in told) ≡ Err g → f ≡ g
    same_fault h = cc

-- ---- one step

-- a step that leaves its restart point where it was has no images
pub empty_step : (at : ℕ) (images : List Stamped) → AllByRecursion (λ s. (at ≤ s.pos) × (s.pos < at)) images → changes_by images ≡ []
empty_step at [] h = refl
empty_step at (s ∷ rest) h = absurd (omega (arith, h.0.0, h.0.1))

pub nothing_applied : (at upto : ℕ) (images : List Stamped) (rows : Rows) → at ≡ upto → AllByRecursion (λ s. (at ≤ s.pos) × (s.pos < upto)) images → rows ≡ changed rows (changes_by images)
nothing_applied at upto images rows same between =
    sym (ap (changed rows) (empty_step at images (subst (λ (end : ℕ). AllByRecursion (λ s. (at ≤ s.pos) × (s.pos < end)) images) (sym same) between)))

-- the whole batch stands where the restart point shows it
pub whole_batch : (disk : Disk) (rows : Rows) (at now upto : ℕ) (images : List Stamped) (batch : List Change) → batch ≡ changes_by images → AllByRecursion (λ s. (at ≤ s.pos) × (s.pos < upto)) images →
    (now ≡ at) ⊎ Durably disk (StandsFor (changed rows batch) upto) → Durably disk (StandsForEither rows at (changed rows batch) upto) → now ≡ upto → Durably disk (StandsFor (changed rows (changes_by images)) upto)
whole_batch disk rows at now upto images batch is between known either same =
    elim known [
      | inl kept ↦ λ c may.
          let point : at ≡ upto = sym kept ∙ same in
          ⊎_elim
          (λ (old : StandsFor rows at c). stands_same rows (changed rows (changes_by images)) at upto c (nothing_applied at upto images rows point between) point old)
          (λ (new : StandsFor (changed rows batch) upto c). subst (λ (cs : List Change). StandsFor (changed rows cs) upto c) is new)
          (either c may)
      | inr durably ↦ λ c may. subst (λ (cs : List Change). StandsFor (changed rows cs) upto c) is (durably c may)
    ]

pub on_err_both : {T E : Type 0} {X Y Z : Type 0} (r : Result T E) → (X → Y → Z) → OnErr r X → OnErr r Y → OnErr r Z
on_err_both (Ok x) f h k = tt
on_err_both (Err e) f h k = f h k
