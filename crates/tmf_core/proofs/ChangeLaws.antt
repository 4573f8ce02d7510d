-- What the steps of a change leave of the store.
use Rattle.std.proofs.Common.{◌≡◌, ◌≢◌, inl, inr, ℕ, zero, suc, ◌≤◌, ◌<◌, true, false, cond, List, [], ◌∷◌, ◌++◌, length, take, Option, Some, IfSome, Vec, Result, Ok, Err, OnOk, OnErr, refl, sym, ap, ◌∙◌, subst, arith, append-nil, length-append}
use Rattle.std.specs.Prelude.{slice_get}
use Rattle.std.specs.List.{AllByRecursion}
use Rattle.std.specs.declared.alloc.Global.{Global}
use Rattle.std.proofs.lemmas.List.{take-append-le}
use Rattle.std.proofs.lemmas.Option.{IfSome_then}
use Rattle.rdf_types.specs.declared.records.Change.{Change}
use Rattle.rdf_types.specs.declared.records.Record.{Record}
use Rattle.rdf_types.specs.declared.records.Record.TheVariants.{Image}
use Rattle.rdf_types.specs.declared.records.RecKey.{RecKey}
use Rattle.rdf_types.specs.Places.{same_place, same_place-is}
use Rattle.rdf_disk.specs.Files.{Disk, Contents}
use Rattle.rdf_disk.specs.Outcomes.{Durably, MayAll}
use Rattle.rdf_model.specs.Contents.{Contents as Values, nothing, with_value, place}
use Rattle.rdf_model.specs.Trail.{raw, after_record}
use Rattle.rdf_model.specs.Volumes.{Rows, AreOn}
use Rattle.rdf_model.specs.SearchLaws.{raw-more}
use Rattle.audit_trail.specs.InUse.{trail_of, disk_of as trail_disk, IsInUse}
use Rattle.audit_trail.specs.Spelled.{Spells, SpellsEither, IsAlone}
use Rattle.rdf_volume.specs.declared.volume.Volume.{Volume}
use Rattle.rdf_volume.specs.Views.{rows_of, restart_of, disk_of, InUse}
use Rattle.rdf_volume.specs.Changes.{with_change}
use Rattle.rdf_volume.specs.Standing.{StandsForEither}
use Rattle.tmf_core.specs.declared.store.Store.{Store}
use Rattle.tmf_core.specs.Stores.{trail_in, IsPlaced, Shows, Stored, SpellsSome, StandsWithin, Left, Applied, NotApplied}
use Rattle.tmf_core.specs.LeftLaws.{LawSpells, LawStands, volume_stands, volumes_stand}
use Rattle.tmf_core.proofs.StoreLaws.{each_set, length_set}

take_whole : (xs : List Record) → take (length xs) xs ≡ xs
take_whole [] = refl
take_whole (x ∷ xs) = ap (λ (l : List Record). x ∷ l) (take_whole xs)

abbrev pub LawChange : Type 0
LawChange = (vol : ℕ) (files : Values) (rows : Rows) (c : Change) → AreOn vol files rows → AreOn vol (with_value files (place vol c.file c.key) c.after) (with_change rows c)

-- a volume shows the same after an image of another volume
shows_other : {D : Type 0} (files : D → Disk) (trail : List Record) (t : ℕ) (k : RecKey) (before after : Option (List ℕ)) (v : ℕ) (volume : Volume D) → v ≢ k.vol → Shows files trail v volume →
    Shows files (trail ++ Image t k.vol k.file k.key before after ∷ []) v volume
shows_other files trail t k before after v volume other s = record {
  in_use = s.in_use;
  shows = λ q is. s.shows q is ∙ sym (ap (λ f. f q) (raw-more nothing trail (Image t k.vol k.file k.key before after)) ∙ ap (λ b. cond b after (raw nothing trail q)) (apart q is));
  behind = let len = length-append trail (Image t k.vol k.file k.key before after ∷ []) in omega (arith, len, s.behind);
  stood = subst (λ l. AreOn v (raw nothing l) (rows_of volume)) (sym (take-append-le (restart_of volume) trail (Image t k.vol k.file k.key before after ∷ []) s.behind)) s.stood;
}
  where
    apart : (q : RecKey) → q.vol ≡ v → same_place q (place k.vol k.file k.key) ≡ false
    apart q is = elim (same_place q (place k.vol k.file k.key)) as (λ m. same_place q (place k.vol k.file k.key) ≡ m → m ≡ false) [
      | true ↦ λ e. absurd (other (sym is ∙ ap (λ (p : RecKey). p.vol) (same_place-is q (place k.vol k.file k.key) e)))
      | false ↦ λ e. refl
    ] refl

module _ {D : Type 0} (files : D → Disk) (spells : LawSpells) (stands : LawStands files) where
  -- the record was not added, or was
  pub left_append : (s : Store D) → Stored files s → (new : Store D) (r : Record) → new.volumes ≡ s.volumes → Durably (files (trail_disk new.trail)) (SpellsEither (trail_in s) r) → Left files (trail_in s) (r ∷ []) new
  left_append s h new r same either = record {
    kept = zero;
    few = omega arith;
    spells = λ c may. one_of c (either c may);
    volume = subst (λ (vs : Vec (Volume D) Global). (v : ℕ) → IfSome (slice_get vs.items v) (λ volume. Durably (files (disk_of volume)) (StandsWithin v (trail_in s ++ [])))) (sym same) (volumes_stand files spells stands s h);
  }
    where
      one_of : (c : Contents) → SpellsEither (trail_in s) r c → SpellsSome (trail_in s) (r ∷ []) zero c
      one_of c (inl a) = (zero, (omega arith, omega arith, subst (λ t. Spells t c) (sym (append-nil (trail_in s))) a))
      one_of c (inr b) = (suc zero, (omega arith, omega arith, b))

  -- the record was added, and each volume stands as before
  module _ (s : Store D) (h : Stored files s) (t : ℕ) (k : RecKey) (before after : Option (List ℕ)) (change : Change) (change_is : change ≡ record { file = k.file; key = k.key; after = after }) (there : k.vol < length s.volumes.items)
      (one : Store D) (trail_is : trail_in one ≡ trail_in s ++ Image t k.vol k.file k.key before after ∷ []) (same : one.volumes ≡ s.volumes)
      (in_use : IsInUse one.trail (files (trail_disk one.trail))) (alone : IsAlone (files (trail_disk one.trail))) where
    pub may_apply : IfSome (slice_get one.volumes.items k.vol) (λ volume. InUse files volume)
    may_apply = subst (λ (vs : Vec (Volume D) Global). IfSome (slice_get vs.items k.vol) (λ volume. InUse files volume)) (sym same)
        (IfSome_then (slice_get s.volumes.items k.vol) {P = λ volume. Shows files (trail_in s) k.vol volume} {Q = λ volume. InUse files volume} (h.volume k.vol) (λ volume shows. shows.in_use))

    was_shown : (was : Volume D) → slice_get one.volumes.items k.vol ≡ Some was → Shows files (trail_in s) k.vol was
    was_shown was is = subst (λ (o : Option (Volume D)). IfSome o (λ volume. Shows files (trail_in s) k.vol volume)) (ap (λ (vs : Vec (Volume D) Global). slice_get vs.items k.vol) (sym same) ∙ is) (h.volume k.vol)

    now_on : (was : Volume D) → Shows files (trail_in s) k.vol was → LawChange → AreOn k.vol (raw nothing (trail_in s ++ Image t k.vol k.file k.key before after ∷ [])) (with_change (rows_of was) change)
    now_on was shown law =
        subst (λ (f : Values). AreOn k.vol f (with_change (rows_of was) change)) (sym (raw-more nothing (trail_in s) (Image t k.vol k.file k.key before after)))
        (subst (λ (c : Change). AreOn k.vol (with_value (raw nothing (trail_in s)) (place k.vol c.file c.key) c.after) (with_change (rows_of was) change)) change_is (law k.vol (raw nothing (trail_in s)) (rows_of was) change shown.shows))

    others : (v : ℕ) → IfSome (slice_get one.volumes.items v) (λ volume. v ≢ k.vol → Shows files (trail_in s ++ Image t k.vol k.file k.key before after ∷ []) v volume)
    others v = subst (λ (vs : Vec (Volume D) Global). IfSome (slice_get vs.items v) (λ volume. v ≢ k.vol → Shows files (trail_in s ++ Image t k.vol k.file k.key before after ∷ []) v volume)) (sym same)
        (IfSome_then (slice_get s.volumes.items v) {P = λ volume. Shows files (trail_in s) v volume} {Q = λ volume. v ≢ k.vol → Shows files (trail_in s ++ Image t k.vol k.file k.key before after ∷ []) v volume} (h.volume v) (λ volume shows ne. shows_other files (trail_in s) t k before after v volume ne shows))

    placed_more : (n : ℕ) (xs : List Record) → k.vol < n → AllByRecursion (λ x. IsPlaced n x) xs → AllByRecursion (λ x. IsPlaced n x) (xs ++ Image t k.vol k.file k.key before after ∷ [])
    placed_more n [] here h = (here, tt)
    placed_more n (x ∷ xs) here h = (h.0, placed_more n xs here h.1)

    pub stored_after : LawChange → (two : Store D) → two.trail ≡ one.trail → Applied files k.vol change one two → Stored files two × (trail_in two ≡ trail_in s ++ Image t k.vol k.file k.key before after ∷ [])
    stored_after law two kept done = (
      record {
        in_use = subst (λ a. IsInUse a (files (trail_disk a))) (sym kept) in_use;
        alone = subst (λ a. IsAlone (files (trail_disk a))) (sym kept) alone;
        volume = λ v. subst (λ l. IfSome (slice_get two.volumes.items v) (λ volume. Shows files l v volume)) (sym now_is)
            (subst (λ (vs : List (Volume D)). IfSome (slice_get vs v) (λ volume. Shows files (trail_in s ++ Image t k.vol k.file k.key before after ∷ []) v volume)) (sym done.volumes)
            (each_set (λ i volume. Shows files (trail_in s ++ Image t k.vol k.file k.key before after ∷ []) i volume) one.volumes.items k.vol done.is others here v));
        placed = subst (λ l. AllByRecursion (λ x. IsPlaced (length two.volumes.items) x) l) (sym now_is)
            (subst (λ n. AllByRecursion (λ x. IsPlaced n x) (trail_in s ++ Image t k.vol k.file k.key before after ∷ [])) many (placed_more (length s.volumes.items) (trail_in s) there h.placed));
      },
      now_is,
    )
      where
        now_is : trail_in two ≡ trail_in s ++ Image t k.vol k.file k.key before after ∷ []
        now_is = ap (λ a. trail_of a) kept ∙ trail_is

        many : length s.volumes.items ≡ length two.volumes.items
        many = ap (λ (vs : Vec (Volume D) Global). length vs.items) (sym same) ∙ length_set one.volumes.items k.vol done.is ∙ ap (λ (vs : List (Volume D)). length vs) (sym done.volumes)

        shown : Shows files (trail_in s) k.vol done.was
        shown = was_shown done.was done.was_there

        point : restart_of done.is ≡ length (trail_in s ++ Image t k.vol k.file k.key before after ∷ [])
        point = done.restart ∙ ap (λ l. length l) trail_is

        on : AreOn k.vol (raw nothing (trail_in s ++ Image t k.vol k.file k.key before after ∷ [])) (rows_of done.is)
        on = subst (λ rows. AreOn k.vol (raw nothing (trail_in s ++ Image t k.vol k.file k.key before after ∷ [])) rows) (sym done.rows) (now_on done.was shown law)

        here : Shows files (trail_in s ++ Image t k.vol k.file k.key before after ∷ []) k.vol done.is
        here = record {
          in_use = done.in_use;
          shows = on;
          behind = omega (arith, point);
          stood = subst (λ l. AreOn k.vol (raw nothing l) (rows_of done.is)) (sym (ap (λ n. take n (trail_in s ++ Image t k.vol k.file k.key before after ∷ [])) point ∙ take_whole (trail_in s ++ Image t k.vol k.file k.key before after ∷ []))) on;
        }

    pub left_apply : LawChange → (two : Store D) → two.trail ≡ one.trail → NotApplied files k.vol change one two → Left files (trail_in s) (Image t k.vol k.file k.key before after ∷ []) two
    left_apply law two kept done = record {
      kept = suc zero;
      few = omega arith;
      spells = λ c may. (
        suc zero,
        (
          omega arith,
          omega arith,
          subst (λ l. Spells l c) trail_is
              (spells one.trail.log.end (trail_in one) (files (trail_disk one.trail)) in_use.log in_use.records alone c (subst (λ a. MayAll (files (trail_disk a)) c) kept may)),
        ),
      );
      volume = λ v. subst (λ (vs : List (Volume D)). IfSome (slice_get vs v) (λ volume. Durably (files (disk_of volume)) (StandsWithin v (trail_in s ++ Image t k.vol k.file k.key before after ∷ [])))) (sym done.volumes)
          (each_set (λ i volume. Durably (files (disk_of volume)) (StandsWithin i (trail_in s ++ Image t k.vol k.file k.key before after ∷ []))) one.volumes.items k.vol done.is
          (λ i. IfSome_then (slice_get one.volumes.items i) {P = λ volume. i ≢ k.vol → Shows files (trail_in s ++ Image t k.vol k.file k.key before after ∷ []) i volume} {Q = λ volume. i ≢ k.vol → Durably (files (disk_of volume)) (StandsWithin i (trail_in s ++ Image t k.vol k.file k.key before after ∷ []))} (others i) (λ volume f ne. volume_stands files spells stands (trail_in s ++ Image t k.vol k.file k.key before after ∷ []) i volume (f ne)))
          (λ c may. either c (done.stands c may)) v);
    }
      where
        shown : Shows files (trail_in s) k.vol done.was
        shown = was_shown done.was done.was_there

        longer : length (trail_in s) ≤ length (trail_in s ++ Image t k.vol k.file k.key before after ∷ [])
        longer = let len = length-append (trail_in s) (Image t k.vol k.file k.key before after ∷ []) in omega (arith, len)

        either : (c : Contents) → StandsForEither (rows_of done.was) (restart_of done.was) (with_change (rows_of done.was) change) (length (trail_in one)) c → StandsWithin k.vol (trail_in s ++ Image t k.vol k.file k.key before after ∷ []) c
        either c (inl a) = (
          restart_of done.was,
          (
            rows_of done.was,
            (
              omega (arith, longer, shown.behind),
              subst (λ l. AreOn k.vol (raw nothing l) (rows_of done.was)) (sym (take-append-le (restart_of done.was) (trail_in s) (Image t k.vol k.file k.key before after ∷ []) shown.behind)) shown.stood,
              a,
            ),
          ),
        )
        either c (inr b) = (
          length (trail_in one),
          (
            with_change (rows_of done.was) change,
            (
              omega (arith, ap (λ l. length l) trail_is),
              subst (λ l. AreOn k.vol (raw nothing l) (with_change (rows_of done.was) change)) (sym (ap (λ n. take n (trail_in s ++ Image t k.vol k.file k.key before after ∷ [])) (ap (λ l. length l) trail_is) ∙ take_whole (trail_in s ++ Image t k.vol k.file k.key before after ∷ [])))
                  (now_on done.was shown law),
              b,
            ),
          ),
        )

-- an outcome changes no volume
module _ (r : Record) (still : (f : Values) → after_record f r ≡ f) (is_placed : (n : ℕ) → IsPlaced n r) where
  shows_outcome : {D : Type 0} (files : D → Disk) (trail : List Record) (v : ℕ) (volume : Volume D) → Shows files trail v volume → Shows files (trail ++ r ∷ []) v volume
  shows_outcome files trail v volume s = record {
    in_use = s.in_use;
    shows = λ q is. s.shows q is ∙ sym (ap (λ f. f q) (raw-more nothing trail r ∙ still (raw nothing trail)));
    behind = let len = length-append trail (r ∷ []) in omega (arith, len, s.behind);
    stood = subst (λ l. AreOn v (raw nothing l) (rows_of volume)) (sym (take-append-le (restart_of volume) trail (r ∷ []) s.behind)) s.stood;
  }

  placed_outcome : (n : ℕ) (xs : List Record) → AllByRecursion (λ x. IsPlaced n x) xs → AllByRecursion (λ x. IsPlaced n x) (xs ++ r ∷ [])
  placed_outcome n [] h = (is_placed n, tt)
  placed_outcome n (x ∷ xs) h = (h.0, placed_outcome n xs h.1)

  pub ended_with : {D : Type 0} (files : D → Disk) (s : Store D) (one : Store D) → Stored files s → trail_in one ≡ trail_in s ++ r ∷ [] → one.volumes ≡ s.volumes → IsInUse one.trail (files (trail_disk one.trail)) → IsAlone (files (trail_disk one.trail)) → Stored files one
  ended_with {D = D} files s one h trail_is same in_use alone = record {
    in_use = in_use;
    alone = alone;
    volume = λ v. subst (λ l. IfSome (slice_get one.volumes.items v) (λ volume. Shows files l v volume)) (sym trail_is)
        (subst (λ (vs : Vec (Volume D) Global). IfSome (slice_get vs.items v) (λ volume. Shows files (trail_in s ++ r ∷ []) v volume)) (sym same)
        (IfSome_then (slice_get s.volumes.items v) {P = λ volume. Shows files (trail_in s) v volume} {Q = λ volume. Shows files (trail_in s ++ r ∷ []) v volume} (h.volume v) (λ volume shows. shows_outcome files (trail_in s) v volume shows)));
    placed = subst (λ l. AllByRecursion (λ x. IsPlaced (length one.volumes.items) x) l) (sym trail_is)
        (subst (λ (vs : Vec (Volume D) Global). AllByRecursion (λ x. IsPlaced (length vs.items) x) (trail_in s ++ r ∷ [])) (sym same) (placed_outcome (length s.volumes.items) (trail_in s) h.placed));
  }

  -- the answer of an append of an outcome, as that of the call
  pub outcome_ok : {D T E : Type 0} (files : D → Disk) (s : Store D) (one : Store D) (a : Result T E) → Stored files s → OnOk a (trail_in one ≡ trail_in s ++ r ∷ []) → one.volumes ≡ s.volumes →
      OnOk a (IsInUse one.trail (files (trail_disk one.trail))) → OnOk a (IsAlone (files (trail_disk s.trail)) → IsAlone (files (trail_disk one.trail))) → OnOk a (Stored files one)
  outcome_ok files s one (Ok x) h trail_is same in_use alone = ended_with files s one h trail_is same in_use (alone h.alone)
  outcome_ok files s one (Err e) h trail_is same in_use alone = tt

pub outcome_err : {D T E : Type 0} (files : D → Disk) (spells : LawSpells) (stands : LawStands files) (s : Store D) (r : Record) (one : Store D) (a : Result T E) → Stored files s → one.volumes ≡ s.volumes →
    OnErr a (IsAlone (files (trail_disk s.trail)) → Durably (files (trail_disk one.trail)) (SpellsEither (trail_in s) r)) → OnErr a (Left files (trail_in s) (r ∷ []) one)
outcome_err files spells stands s r one (Ok x) h same either = tt
outcome_err files spells stands s r one (Err e) h same either = left_append files spells stands s h one r same (either h.alone)
