-- What one call on one volume leaves of the store.
use Rattle.std.proofs.Common.{◌≡◌, ◌≢◌, ℕ, zero, suc, ◌≤◌, List, [], ◌∷◌, ◌++◌, length, take, map, Option, Some, None, IfSome, Vec, Ok, Err, refl, sym, ap, ◌∙◌, subst, arith}
use Rattle.std.specs.Prelude.{slice_get}
use Rattle.std.specs.List.{slice_set, AllByRecursion}
use Rattle.std.specs.Option.{option_map}
use Rattle.std.specs.Vec.{with_item}
use Rattle.std.specs.declared.alloc.Global.{Global}
use Rattle.std.proofs.lemmas.List.{length-map}
use Rattle.std.proofs.lemmas.Option.{IfSome_then, slice_get_within}
use Rattle.rdf_types.specs.declared.records.Change.{Change}
use Rattle.rdf_types.specs.declared.records.Record.{Record}
use Rattle.rdf_disk.specs.Files.{Disk}
use Rattle.rdf_disk.specs.Counts.{Counts, Ending, Causes}
use Rattle.rdf_disk.specs.Counts.Ending.{Fine}
use Rattle.rdf_disk.specs.Outcomes.{Durably}
use Rattle.rdf_gatelog.specs.LogCauses.{ending_of_fault}
use Rattle.rdf_gatelog.specs.declared.fault.LogFault.{LogFault}
use Rattle.rdf_model.specs.Contents.{nothing}
use Rattle.rdf_model.specs.Trail.{raw}
use Rattle.rdf_model.specs.Volumes.{Rows, AreOn}
use Rattle.audit_trail.specs.InUse.{disk_of as trail_disk}
use Rattle.audit_trail.specs.Spelled.{Spells}
use Rattle.rdf_volume.specs.declared.volume.Volume.{Volume}
use Rattle.rdf_volume.specs.Views.{rows_of, restart_of, disk_of, InUse, Unchanged}
use Rattle.rdf_volume.specs.Changes.{with_change}
use Rattle.rdf_volume.specs.Standing.{StandsFor, StandsForEither}
use Rattle.node_faults.specs.declared.NodeFault.{NodeFault}
use Rattle.node_faults.specs.Faults.{fault_at, ending_at}
use Rattle.node_faults.specs.FaultLaws.{ending_here, ending_elsewhere, fault_named}
use Rattle.tmf_core.specs.declared.store.Store.{Store}
use Rattle.tmf_core.specs.Stores.{trail_in, shown_by, IsPlaced, Shows, Stored, StandsWithin, Left, Applied, NotApplied, Looked, counts_at, CausesIf, CausedBy}
use Rattle.tmf_core.specs.LeftLaws.{LawSpells, LawStands, volume_stands}
use Rattle.tmf_core.specs.CauseLaws.{same_counts, set_counts}

stripped : {X : Type 0} (A : Type 0) (Q : X → Type 0) (o : Option X) → A → IfSome o (λ x. A → Q x) → IfSome o Q
stripped A Q None a h = tt
stripped A Q (Some x) a h = h a

-- what holds of each element but one, and of what is put in its place
pub each_set : {X : Type 0} (Q : ℕ → X → Type 0) (xs : List X) (i : ℕ) (w : X) → ((v : ℕ) → IfSome (slice_get xs v) (λ x. v ≢ i → Q v x)) → Q i w → (v : ℕ) → IfSome (slice_get (slice_set xs i w) v) (λ x. Q v x)
each_set Q [] i w others here v = tt
each_set Q (x ∷ xs) zero w others here zero = here
each_set Q (x ∷ xs) zero w others here (suc v) = stripped (suc v ≢ zero) (Q (suc v)) (slice_get xs v) (λ e. absurd (omega arith)) (others (suc v))
each_set Q (x ∷ xs) (suc i) w others here zero = others zero (λ e. absurd (omega arith))
each_set Q (x ∷ xs) (suc i) w others here (suc v) =
    each_set (λ k. Q (suc k)) xs i w (λ k. IfSome_then (slice_get xs k) {P = λ y. suc k ≢ suc i → Q (suc k) y} {Q = λ y. k ≢ i → Q (suc k) y} (others (suc k)) (λ y h ne. h (λ e. ne (omega arith)))) here v

pub length_set : {X : Type 0} (xs : List X) (i : ℕ) (w : X) → length xs ≡ length (slice_set xs i w)
length_set [] i w = refl
length_set (x ∷ xs) zero w = refl
length_set (x ∷ xs) (suc i) w = ap (λ n. suc n) (length_set xs i w)

-- the volume that is called may be used, where that of the place may
pub usable : {D : Type 0} (files : D → Disk) (s : Store D) (v n : ℕ) (was : Volume D) → n ≡ v → slice_get s.volumes.items n ≡ Some was → IfSome (slice_get s.volumes.items v) (λ volume. InUse files volume) → InUse files was
usable {D = D} files s v n was same there may = subst (λ (o : Option (Volume D)). IfSome o (λ volume. InUse files volume)) (ap (λ i. slice_get s.volumes.items i) (sym same) ∙ there) may

module _ {D : Type 0} (files : D → Disk) (s : Store D) (h : Stored files s) (n : ℕ) (was : Volume D) (there : slice_get s.volumes.items n ≡ Some was) where
  -- what the volume that is called shows
  pub called : Shows files (trail_in s) n was
  called = subst (λ (o : Option (Volume D)). IfSome o (λ volume. Shows files (trail_in s) n volume)) there (h.volume n)

  -- a call of it that is done, and shows the same, leaves a store that may be used
  pub stored_still : (is : Volume D) (volumes : Vec (Volume D) Global) → volumes.items ≡ slice_set s.volumes.items n is → InUse files is → rows_of is ≡ rows_of was → restart_of is ≡ restart_of was → Stored files (record { trail = s.trail; volumes = volumes })
  stored_still is volumes set_is in_use rows restart = record {
    in_use = h.in_use;
    alone = h.alone;
    volume = λ v. subst (λ (vs : List (Volume D)). IfSome (slice_get vs v) (λ volume. Shows files (trail_in s) v volume)) (sym set_is)
        (each_set (λ k volume. Shows files (trail_in s) k volume) s.volumes.items n is
        (λ k. IfSome_then (slice_get s.volumes.items k) {P = λ volume. Shows files (trail_in s) k volume} {Q = λ volume. k ≢ n → Shows files (trail_in s) k volume} (h.volume k) (λ volume shows ne. shows)) here v);
    placed = subst (λ k. AllByRecursion (λ r. IsPlaced k r) (trail_in s)) (length_set s.volumes.items n is ∙ ap (λ (vs : List (Volume D)). length vs) (sym set_is)) h.placed;
  }
    where
      here : Shows files (trail_in s) n is
      here = record {
        in_use = in_use;
        shows = subst (λ (m : Rows). AreOn n (raw nothing (trail_in s)) m) (sym rows) called.shows;
        behind = subst (λ p. p ≤ length (trail_in s)) (sym restart) called.behind;
        stood = subst (λ (m : Rows). AreOn n (raw nothing (take (restart_of is) (trail_in s))) m) (sym rows) (subst (λ p. AreOn n (raw nothing (take p (trail_in s))) (rows_of was)) (sym restart) called.stood);
      }

-- a trail as a first part and the rest of it
whole_more : (trail more all : List Record) → all ≡ trail ++ more → all ≡ trail ++ take (length more) more
whole_more trail more all is = is ∙ ap (λ (l : List Record). trail ++ l) (sym (take_all more))
  where
    take_all : (xs : List Record) → take (length xs) xs ≡ xs
    take_all [] = refl
    take_all (x ∷ xs) = ap (λ (l : List Record). x ∷ l) (take_all xs)

module _ {D : Type 0} (files : D → Disk) (spells : LawSpells) (stands : LawStands files) where
  -- a volume was looked at or checkpointed, and its disk stands for the same
  pub left_after : (s : Store D) (n : ℕ) (was is : Volume D) (volumes : Vec (Volume D) Global) → Stored files s → volumes.items ≡ slice_set s.volumes.items n is → slice_get s.volumes.items n ≡ Some was →
      Durably (files (disk_of is)) (StandsFor (rows_of was) (restart_of was)) → (trail more : List Record) → trail_in s ≡ trail ++ more → Left files trail more (record { trail = s.trail; volumes = volumes })
  left_after s n was is volumes h set_is was_there same trail more all_is = record {
    kept = length more;
    few = omega arith;
    spells = λ c may. (length more, (omega arith, omega arith, subst (λ t. Spells t c) whole (spells s.trail.log.end (trail_in s) (files (trail_disk s.trail)) h.in_use.log h.in_use.records h.alone c may)));
    volume = λ v. subst (λ (vs : List (Volume D)). IfSome (slice_get vs v) (λ volume. Durably (files (disk_of volume)) (StandsWithin v (trail ++ take (length more) more)))) (sym set_is)
        (each_set (λ k volume. Durably (files (disk_of volume)) (StandsWithin k (trail ++ take (length more) more))) s.volumes.items n is
        (λ k. IfSome_then (slice_get s.volumes.items k) {P = λ volume. Shows files (trail_in s) k volume} {Q = λ volume. k ≢ n → Durably (files (disk_of volume)) (StandsWithin k (trail ++ take (length more) more))} (h.volume k)
        (λ volume shows ne. subst (λ t. Durably (files (disk_of volume)) (StandsWithin k t)) whole (volume_stands files spells stands (trail_in s) k volume shows)))
        (subst (λ t. Durably (files (disk_of is)) (StandsWithin n t)) whole here) v);
  }
    where
      whole : trail_in s ≡ trail ++ take (length more) more
      whole = whole_more trail more (trail_in s) all_is

      shown : Shows files (trail_in s) n was
      shown = called files s h n was was_there

      here : Durably (files (disk_of is)) (StandsWithin n (trail_in s))
      here = λ c may. (restart_of was, (rows_of was, (shown.behind, shown.stood, same c may)))

no_some : {X : Type 0} (x : X) → None ≡ Some x → ⊥
no_some x e = cc

-- what the volumes show after one of them was looked at
same_shown : {D : Type 0} (vs : List (Volume D)) (n : ℕ) (was is : Volume D) → slice_get vs n ≡ Some was → Unchanged was is → map (λ v. shown_by v) (slice_set vs n is) ≡ map (λ v. shown_by v) vs
same_shown [] n was is there same = absurd (no_some was there)
same_shown {D = D} (x ∷ vs) zero was is there same = ap (λ s. s ∷ map (λ v. shown_by v) vs) ((λ i. record { rows = same.rows i; restart = same.restart i; batches = same.batches i; file = same.file i }) ∙ ap (λ (v : Volume D). shown_by v) (some_same was x (sym there)))
  where
    some_same : {X : Type 0} (a b : X) → Some a ≡ Some b → a ≡ b
    some_same a b e = cc
same_shown (x ∷ vs) (suc n) was is there same = ap (λ l. shown_by x ∷ l) (same_shown vs n was is there same)

pub looked : {D : Type 0} (s : Store D) (n : ℕ) (was is : Volume D) → slice_get s.volumes.items n ≡ Some was → Unchanged was is → Looked s (record { trail = s.trail; volumes = with_item s.volumes n is })
looked {D = D} s n was is there same =
    let shown = same_shown s.volumes.items n was is there same in
    record {
      trail = refl;
      many = sym (length-map (slice_set s.volumes.items n is) (λ (v : Volume D). shown_by v)) ∙ ap length shown ∙ length-map s.volumes.items (λ (v : Volume D). shown_by v);
      shown = shown;
    }

-- the counts after one volume was called, by how the call ended for each disk
counted : {D : Type 0} (counts : D → Counts) (endings : ℕ → Ending) (s : Store D) (n : ℕ) (was is : Volume D) (volumes : Vec (Volume D) Global) → volumes.items ≡ slice_set s.volumes.items n is → slice_get s.volumes.items n ≡ Some was →
    Causes (endings (suc n)) (counts (disk_of was)) (counts (disk_of is)) → ((d : ℕ) → d ≢ suc n → endings d ≡ Fine) → (disk : ℕ) → CausesIf (endings disk) (counts_at counts s disk) (counts_at counts (record { trail = s.trail; volumes = volumes }) disk)
counted counts endings s n was is volumes set_is there cause others zero = same_counts (endings zero) (counts_at counts s zero) (others zero (λ e. absurd (omega arith)))
counted {D = D} counts endings s n was is volumes set_is there cause others (suc v) =
    subst (λ (vs : List (Volume D)). CausesIf (endings (suc v)) (option_map (λ x. counts (disk_of x)) (slice_get s.volumes.items v)) (option_map (λ x. counts (disk_of x)) (slice_get vs v))) (sym set_is)
    (set_counts counts (λ k. endings (suc k)) s.volumes.items n was is there cause (λ k ne. others (suc k) (λ e. ne (omega arith))) v)

-- a call on one volume that ended by a fault
pub caused : {D : Type 0} (counts : D → Counts) (s : Store D) (n d : ℕ) (was is : Volume D) (volumes : Vec (Volume D) Global) (f : LogFault) (fault : NodeFault) → d ≡ suc n → fault ≡ fault_at d f →
    volumes.items ≡ slice_set s.volumes.items n is → slice_get s.volumes.items n ≡ Some was → Causes (ending_of_fault f) (counts (disk_of was)) (counts (disk_of is)) → CausedBy {T = Unit {0}} counts (Err fault) s (record { trail = s.trail; volumes = volumes })
caused counts s n d was is volumes f fault d_is said set_is there cause =
    let fault_is : fault ≡ fault_at (suc n) f = said ∙ ap (λ m. fault_at m f) d_is in
    let few = slice_get_within s.volumes.items n was there in (
      fault_named (suc n) (suc (length s.volumes.items)) f fault fault_is (omega (arith, few)),
      counted counts (λ k. ending_at k fault) s n was is volumes set_is there (subst (λ e. Causes e (counts (disk_of was)) (counts (disk_of is))) (sym (ap (ending_at (suc n)) fault_is ∙ ending_here (suc n) f)) cause)
          (λ k ne. ap (ending_at k) fault_is ∙ ending_elsewhere k (suc n) f (λ e. ne (sym e))),
    )

-- a call on one volume that ended well
pub caused_fine : {D : Type 0} (counts : D → Counts) (s : Store D) (n : ℕ) (was is : Volume D) (volumes : Vec (Volume D) Global) → volumes.items ≡ slice_set s.volumes.items n is → slice_get s.volumes.items n ≡ Some was →
    counts (disk_of is) ≡ counts (disk_of was) → CausedBy {T = Unit {0}} counts (Ok tt) s (record { trail = s.trail; volumes = volumes })
caused_fine counts s n was is volumes set_is there same = (tt, counted counts (λ k. Fine) s n was is volumes set_is there same (λ k ne. refl))

pub applied : {D : Type 0} (files : D → Disk) (s : Store D) (v n : ℕ) (change : Change) (was is : Volume D) (volumes : Vec (Volume D) Global) → n ≡ v → slice_get s.volumes.items n ≡ Some was → volumes.items ≡ slice_set s.volumes.items n is →
    InUse files is → rows_of is ≡ with_change (rows_of was) change → restart_of is ≡ length (trail_in s) → Applied files v change s (record { trail = s.trail; volumes = volumes })
applied files s v n change was is volumes same there set_is in_use rows restart = record {
  was = was;
  is = is;
  was_there = ap (λ i. slice_get s.volumes.items i) (sym same) ∙ there;
  volumes = set_is ∙ ap (λ i. slice_set s.volumes.items i is) same;
  in_use = in_use;
  rows = rows;
  restart = restart;
}

pub not_applied : {D : Type 0} (files : D → Disk) (s : Store D) (v n : ℕ) (change : Change) (was is : Volume D) (volumes : Vec (Volume D) Global) (restart : ℕ) → n ≡ v → slice_get s.volumes.items n ≡ Some was →
    volumes.items ≡ slice_set s.volumes.items n is → restart ≡ length (trail_in s) → Durably (files (disk_of is)) (StandsForEither (rows_of was) (restart_of was) (with_change (rows_of was) change) restart) →
    NotApplied files v change s (record { trail = s.trail; volumes = volumes })
not_applied files s v n change was is volumes restart same there set_is end stands = record {
  was = was;
  is = is;
  was_there = ap (λ i. slice_get s.volumes.items i) (sym same) ∙ there;
  volumes = set_is ∙ ap (λ i. slice_set s.volumes.items i is) same;
  stands = subst (λ m. Durably (files (disk_of is)) (StandsForEither (rows_of was) (restart_of was) (with_change (rows_of was) change) m)) end stands;
}
