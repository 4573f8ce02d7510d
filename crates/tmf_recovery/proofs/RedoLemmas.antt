-- The steps of redo.
use Rattle.std.proofs.Common.{◌≡◌, ⊎_elim, ℕ, ◌+◌, ◌<◌, ◌≤◌, max, List, [], ◌∷◌, ◌++◌, length, take, drop, map, refl, sym, ap, ◌∙◌, subst, arith, length-take, length-drop, take-append-drop}
use Rattle.std.proofs.Math.Seq.{take-add}
use Rattle.std.proofs.lemmas.List.{map-id, take_all, take-take, drop_all, drop-append-le}
use Rattle.std.proofs.lemmas.List.Elements.{filter_map-append}
use Rattle.std.proofs.lemmas.List.Sums.{fold-append}
use Rattle.rdf_types.specs.declared.records.Change.{Change}
use Rattle.rdf_types.specs.declared.records.Record.{Record}
use Rattle.rdf_disk.specs.Files.{Disk}
use Rattle.rdf_disk.specs.Outcomes.{Durably}
use Rattle.rdf_model.specs.Contents.{Contents, nothing}
use Rattle.rdf_model.specs.Trail.{raw, after_record}
use Rattle.rdf_model.specs.Volumes.{Rows, AreOn}
use Rattle.rdf_volume.specs.Changes.{change_on, changes_on, changed, with_change}
use Rattle.rdf_volume.specs.Standing.{StandsFor, StandsForEither}
use Rattle.tmf_recovery.specs.Redone.{redone, StandsRedone}

-- ---- one batch

-- the changes of a batch, as those of the records left
pub batch_of : (vol n : ℕ) (part rest : List Record) (batch : List Change) → part ≡ rest → batch ≡ changes_on vol (map (λ r. r) (take n part)) → batch ≡ changes_on vol (take n rest)
batch_of vol n part rest batch same is = is ∙ ap (changes_on vol) (map-id (take n part)) ∙ ap (λ (l : List Record). changes_on vol (take n l)) same

-- ---- what redo has done so far

-- a batch more
redone_more : (vol : ℕ) (trail : List Record) (p at n : ℕ) (first rows : Rows) (batch : List Change) → p ≤ at → at ≤ length trail → rows ≡ redone vol trail p at first → batch ≡ changes_on vol (take n (drop at trail))
    → changed rows batch ≡ redone vol trail p (at + n) first
redone_more vol trail p at n first rows batch from within so_far is =
    let pieces : drop p (take (at + n) trail) ≡ drop p (take at trail) ++ take n (drop at trail) = ap (drop p) (take-add at n trail) ∙ drop-append-le p (take at trail) (take n (drop at trail)) (omega (arith, length-take at trail)) in
    let changes : changes_on vol (drop p (take (at + n) trail)) ≡ changes_on vol (drop p (take at trail)) ++ batch =
    ap (changes_on vol) pieces ∙ filter_map-append (change_on vol) (drop p (take at trail)) (take n (drop at trail)) ∙ ap (λ (cs : List Change). changes_on vol (drop p (take at trail)) ++ cs) (sym is) in
    ap (λ (r : Rows). changed r batch) so_far
    ∙ sym (fold-append with_change first (changes_on vol (drop p (take at trail))) batch)
    ∙ ap (changed first) (sym changes)

-- a batch of so many records was read behind what redo has done so far
pub record HasRead (vol : ℕ) (trail : List Record) (p at n : ℕ) (first rows : Rows) (batch : List Change) : Type 0 where
  pub from : p ≤ at
  pub upto : at + n ≤ length trail
  pub more : changed rows batch ≡ redone vol trail p (at + n) first

pub read_more : (vol : ℕ) (trail : List Record) (p at n q : ℕ) (first rows : Rows) (part : List Record) (batch : List Change) → at ≡ q → at < length trail → part ≡ drop at trail → p ≤ q → rows ≡ redone vol trail p q first
    → n ≤ length part → batch ≡ changes_on vol (map (λ r. r) (take n part)) → HasRead vol trail p at n first rows batch
read_more vol trail p at n q first rows part batch at_is below left from so_far within is =
    let so : rows ≡ redone vol trail p at first = subst (λ (k : ℕ). rows ≡ redone vol trail p k first) (sym at_is) so_far in
    let behind : p ≤ at = omega (arith, from, at_is) in
    let few : n ≤ length (drop at trail) = subst (λ (l : List Record). n ≤ length l) left within in
    record {
      from = behind;
      upto = omega (arith, few, length-drop at trail, below);
      more = redone_more vol trail p at n first rows batch behind (omega (arith, below)) so (batch_of vol n part (drop at trail) batch left is);
    }

-- nothing is left
pub none_past : (vol : ℕ) (trail : List Record) (at : ℕ) → length trail ≤ at → changes_on vol (drop at trail) ≡ []
none_past vol trail at past = ap (changes_on vol) (drop_all at trail past)

pub none_left : (vol : ℕ) (trail : List Record) (at n : ℕ) (batch : List Change) → batch ≡ changes_on vol (take n (drop at trail)) → n ≡ length (drop at trail) → batch ≡ [] → changes_on vol (drop at trail) ≡ []
none_left vol trail at n batch is all empty_ =
    ap (changes_on vol) (sym (take_all n (drop at trail) (omega (arith, all)))) ∙ sym is ∙ empty_

-- ---- what is durable

module _ (vol : ℕ) (trail : List Record) (p : ℕ) (first : Rows) where
  pub stands_redone : (q : ℕ) (rows : Rows) (disk : Disk) → p ≤ q → q ≤ max p (length trail) → rows ≡ redone vol trail p q first → Durably disk (StandsFor rows q) → Durably disk (StandsRedone vol trail p first)
  stands_redone q rows disk from upto is durably c may = record { q = q; from = from; upto = upto; stands = subst (λ (r : Rows). StandsFor r q c) is (durably c may) }

  pub either_redone : (at q : ℕ) (rows more : Rows) (disk : Disk) → p ≤ at → at ≤ q → q ≤ max p (length trail) → rows ≡ redone vol trail p at first → more ≡ redone vol trail p q first
      → Durably disk (StandsForEither rows at more q) → Durably disk (StandsRedone vol trail p first)
  either_redone at q rows more disk from on upto is more_is durably c may =
      ⊎_elim
      (λ (before : StandsFor rows at c). record { q = at; from = from; upto = omega arith; stands = subst (λ (r : Rows). StandsFor r at c) is before })
      (λ (after : StandsFor more q c). record { q = q; from = omega arith; upto = upto; stands = subst (λ (r : Rows). StandsFor r q c) more_is after })
      (durably c may)

-- ---- what redo shows

abbrev pub ImagesChange : Type 0
ImagesChange = (vol : ℕ) (files : Contents) (rows : Rows) (trail : List Record) → AreOn vol files rows → AreOn vol (raw files trail) (changed rows (changes_on vol trail))

pub redone_shows : ImagesChange → (vol : ℕ) (trail : List Record) (p q : ℕ) (rows : Rows) → p ≤ q → AreOn vol (raw nothing (take p trail)) rows → AreOn vol (raw nothing (take q trail)) (redone vol trail p q rows)
redone_shows law vol trail p q rows from shows =
    let first : take p (take q trail) ≡ take p trail = take-take p q trail from in
    let parts : take q trail ≡ take p trail ++ drop p (take q trail) = sym (take-append-drop p (take q trail)) ∙ ap (λ (rs : List Record). rs ++ drop p (take q trail)) first in
    let folded : raw nothing (take q trail) ≡ raw (raw nothing (take p trail)) (drop p (take q trail)) = ap (raw nothing) parts ∙ fold-append after_record nothing (take p trail) (drop p (take q trail)) in
    subst (λ (files : Contents). AreOn vol files (redone vol trail p q rows)) (sym folded) (law vol (raw nothing (take p trail)) rows (drop p (take q trail)) shows)

pub left_shows : ImagesChange → (vol : ℕ) (trail : List Record) (q : ℕ) (rows : Rows) → changes_on vol (drop q trail) ≡ [] → AreOn vol (raw nothing (take q trail)) rows → AreOn vol (raw nothing trail) rows
left_shows law vol trail q rows none shows =
    let folded : raw nothing trail ≡ raw (raw nothing (take q trail)) (drop q trail) = ap (raw nothing) (sym (take-append-drop q trail)) ∙ fold-append after_record nothing (take q trail) (drop q trail) in
    let all = law vol (raw nothing (take q trail)) rows (drop q trail) shows in
    subst (λ (files : Contents). AreOn vol files rows) (sym folded) (subst (λ (cs : List Change). AreOn vol (raw (raw nothing (take q trail)) (drop q trail)) (changed rows cs)) none all)

abbrev pub Shows : Type 0
Shows = (vol : ℕ) (trail : List Record) (p q : ℕ) (rows : Rows) → p ≤ q → AreOn vol (raw nothing (take p trail)) rows → AreOn vol (raw nothing (take q trail)) (redone vol trail p q rows)

abbrev pub LeftShows : Type 0
LeftShows = (vol : ℕ) (trail : List Record) (q : ℕ) (rows : Rows) → changes_on vol (drop q trail) ≡ [] → AreOn vol (raw nothing (take q trail)) rows → AreOn vol (raw nothing trail) rows

-- a volume that showed a prefix shows the trail, and the prefix up to its restart point
pub shows_all : Shows → LeftShows → (vol : ℕ) (trail records : List Record) (p q : ℕ) (first rows : Rows) → records ≡ trail → p ≤ q → rows ≡ redone vol records p q first → changes_on vol (drop q records) ≡ []
    → AreOn vol (raw nothing (take p trail)) first → AreOn vol (raw nothing (take q trail)) rows × AreOn vol (raw nothing trail) rows
shows_all shows left_over vol trail records p q first rows same from is none before =
    let is_here : rows ≡ redone vol trail p q first = subst (λ (ts : List Record). rows ≡ redone vol ts p q first) same is in
    let none_here : changes_on vol (drop q trail) ≡ [] = subst (λ (ts : List Record). changes_on vol (drop q ts) ≡ []) same none in
    let part : AreOn vol (raw nothing (take q trail)) rows = subst (λ (r : Rows). AreOn vol (raw nothing (take q trail)) r) (sym is_here) (shows vol trail p q first from before) in
    (part, left_over vol trail q rows none_here part)

pub no_items : {X : Type 0} (xs : List X) → length xs ≡ 0 → xs ≡ []
no_items [] none = refl
no_items (x ∷ xs) none = absurd (omega arith)
