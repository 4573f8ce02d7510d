-- What the disks stand for where a line is cut off.
use Rattle.std.proofs.Common.{◌≡◌, ◌==◌, Bool, true, false, if◌then◌else◌, ℕ, zero, suc, ◌≤◌, ◌<◌, List, [], ◌∷◌, ◌++◌, length, take, drop, Option, Some, None, IfSome, refl, sym, ap, ◌∙◌, subst, arith}
use Rattle.std.specs.Prelude.{slice_get}
use Rattle.std.specs.Option.{option_map}
use Rattle.std.proofs.lemmas.List.{append_assoc, append-nil, take-append-le, take-append-drop, length-map, length-append}
use Rattle.std.proofs.lemmas.Option.{slice_get-map}
use Rattle.rdf_types.specs.declared.layout.Layout.{Layout}
use Rattle.rdf_types.specs.declared.records.Record.{Record}
use Rattle.rdf_disk.specs.Files.{Disk, Contents}
use Rattle.rdf_disk.specs.Counts.{Counts, fused}
use Rattle.rdf_disk.specs.Outcomes.{Durably, MayAll}
use Rattle.rdf_model.specs.Contents.{nothing}
use Rattle.rdf_model.specs.Trail.{raw}
use Rattle.rdf_model.specs.Volumes.{AreOn}
use Rattle.audit_trail.specs.Spelled.{Spells}
use Rattle.rdf_volume.specs.declared.volume.Volume.{Volume}
use Rattle.rdf_volume.specs.Views.{disk_of}
use Rattle.tmf_core.specs.Stores.{Left, SpellsSome, StandsWithin}
use Rattle.tmf_core.specs.declared.store.Store.{Store}
use Rattle.tmf_core.specs.Disks.{disks_of}
use Rattle.tmf_core.specs.States.{FusedAt}
use Rattle.rdf_core.specs.Effects.{after_parts}
use Rattle.rdf_core.specs.Primary.{Primary, grown, with_record, primary_fallen}
use Rattle.rdf_primary.specs.Standing.{IsTrailOf, DiskStandsFor, MayBe, ContentsStandFor, SomeStandsFor}
use Rattle.rdf_primary.proofs.Trails.{trail_first}
use Rattle.node_disks.specs.CutLaws.{there_is}

parts_many : (a : Primary) (rs : List Record) → length (grown a rs) ≡ length rs
parts_many a [] = refl
parts_many a (r ∷ rest) = ap suc (parts_many (with_record a r) rest)

none_taken : (n : ℕ) → (let none : List Record = [] in take n none ≡ none)
none_taken n = grind arith

-- the trail after some of the records
part_trail : (a : Primary) (rs : List Record) (n : ℕ) → (after_parts a (grown a rs) n).trail ≡ a.trail ++ take n rs
part_trail a [] n = sym (ap (λ (l : List Record). a.trail ++ l) (none_taken n) ∙ append-nil a.trail)
part_trail a (r ∷ rest) zero = sym (append-nil a.trail)
part_trail a (r ∷ rest) (suc n) = part_trail (with_record a r) rest n ∙ append_assoc a.trail (r ∷ []) (take n rest)

-- what stands within a trail stands within a longer one
pub within_longer : (v : ℕ) (xs ys : List Record) (c : Contents) → StandsWithin v xs c → StandsWithin v (xs ++ ys) c
within_longer v xs ys c (p, (rows, (behind, stood, stands))) =
    (p, (rows, (grind (arith, length-append), subst (λ (t : List Record). AreOn v (raw nothing t) rows) (sym (take-append-le p xs ys behind)) stood, stands)))

-- a part of the records is the start of a greater part
more_of : (k n : ℕ) (xs more : List Record) → k ≤ n → (rest : List Record) × (xs ++ take n more ≡ (xs ++ take k more) ++ rest)
more_of k n xs more few = (drop k (take n more), sym (append_assoc xs (take k more) (drop k (take n more)) ∙ ap (λ (l : List Record). xs ++ l) (ap (λ (l : List Record). l ++ drop k (take n more)) (shorter k n more few) ∙ take-append-drop k (take n more))))
  where
    shorter : (k n : ℕ) (l : List Record) → k ≤ n → take k l ≡ take k (take n l)
    shorter zero n l h = refl
    shorter (suc k) zero l h = absurd (omega arith)
    shorter (suc k) (suc n) [] h = refl
    shorter (suc k) (suc n) (x ∷ l) h = ap (λ m. x ∷ m) (shorter k n l (omega arith))

down_stands : (layout : Layout) (rise : ℕ) (x : Primary) (held : ℕ → Contents) (trail : List Record) → x.trail ≡ trail → IsTrailOf layout trail → Spells trail (held zero) →
    ((v : ℕ) → v < layout.volumes → StandsWithin v trail (held (suc v))) → ContentsStandFor layout (primary_fallen rise x) held
down_stands layout rise x held trail is of spells within = record {
  trail = subst (λ (t : List Record). IsTrailOf layout t) (sym is) of;
  disk = at;
}
  where
    at : (i : ℕ) → i ≤ layout.volumes → DiskStandsFor (primary_fallen rise x) i (held i)
    at zero few = subst (λ (t : List Record). Spells t (held zero)) (sym is) spells
    at (suc v) few = subst (λ (t : List Record). StandsWithin v t (held (suc v))) (sym is) (within v (omega arith))

module _ {D : Type 0} (files : D → Disk) (layout : Layout) (s : Store D) (sized : layout.volumes ≡ length s.volumes.items) where
  -- what is left after a fault stands for some first ones of the records
  pub left_stands : (a : Primary) (rise : ℕ) (more : List Record) → IsTrailOf layout (a.trail ++ more) → Left files a.trail more s →
      SomeStandsFor files layout (length (grown a more)) (λ n. primary_fallen rise (after_parts a (grown a more) n)) (disks_of s.trail s.volumes.items)
  left_stands a rise more of left = record {
    count = ap suc (length-map s.volumes.items (λ volume. disk_of volume) ∙ sym sized);
    some = λ held may. found held may (left.spells (held zero) (may zero));
  }
    where
      found : (held : ℕ → Contents) → MayBe files (disks_of s.trail s.volumes.items) held → SpellsSome a.trail more left.kept (held zero) →
          (n : ℕ) × ((n ≤ length (grown a more)) × ContentsStandFor layout (primary_fallen rise (after_parts a (grown a more) n)) held)
      found held may (k, (some, few, spells)) = (
        k,
        (
          subst (λ m. k ≤ m) (sym (parts_many a more)) few,
          down_stands layout rise (after_parts a (grown a more) k) held (a.trail ++ take k more) (part_trail a more k)
              (trail_first layout (a.trail ++ take k more) (drop k more) (subst (λ (t : List Record). IsTrailOf layout t) whole of)) spells volume,
        ),
      )
        where
          whole : a.trail ++ more ≡ (a.trail ++ take k more) ++ drop k more
          whole = ap (λ (l : List Record). a.trail ++ l) (sym (take-append-drop k more)) ∙ sym (append_assoc a.trail (take k more) (drop k more))

          longer : (v : ℕ) (c : Contents) → StandsWithin v (a.trail ++ take left.kept more) c → StandsWithin v (a.trail ++ take k more) c
          longer v c h =
              let m = more_of left.kept k a.trail more some in
              subst (λ (t : List Record). StandsWithin v t c) (sym m.1) (within_longer v (a.trail ++ take left.kept more) m.0 c h)

          volume : (v : ℕ) → v < layout.volumes → StandsWithin v (a.trail ++ take k more) (held (suc v))
          volume v few =
              let one = there_is s.volumes.items v (subst (λ n. v < n) sized few) in
              let is = slice_get-map (λ volume. disk_of volume) s.volumes.items v ∙ ap (λ o. option_map (λ volume. disk_of volume) o) one.1 in
              let stands = subst (λ (o : Option (Volume D)). IfSome o (λ volume. Durably (files (disk_of volume)) (StandsWithin v (a.trail ++ take left.kept more)))) one.1 (left.volume v) in
              longer v (held (suc v)) (stands (held (suc v)) (subst (λ (o : Option D). IfSome o (λ d. MayAll (files d) (held (suc v)))) is (may (suc v))))

-- no fuse loses or adds a volume
pub fused_volumes : {D : Type 0} (counts : D → Counts) (disk : ℕ) (old new : Store D) → FusedAt counts disk old new → length new.volumes.items ≡ length old.volumes.items
fused_volumes {D = D} counts disk old new is = each old.volumes.items new.volumes.items (λ v. suc v == disk) (λ v. is (suc v))
  where
    none_is : (b : Bool) → (let none : Option Counts = None in (if b then option_map fused none else none) ≡ none)
    none_is true = refl
    none_is false = refl

    some_is : (b : Bool) (c : Counts) → (let some : Option Counts = Some c in None ≡ (if b then option_map fused some else some)) → ⊥
    some_is true c e = cc
    some_is false c e = cc

    each : (xs ys : List (Volume D)) (b : ℕ → Bool) → ((v : ℕ) → option_map (λ volume. counts (disk_of volume)) (slice_get ys v) ≡ (if b v then option_map fused (option_map (λ volume. counts (disk_of volume)) (slice_get xs v)) else option_map (λ volume. counts (disk_of volume)) (slice_get xs v))) → length ys ≡ length xs
    each [] [] b h = refl
    each [] (y ∷ ys) b h = none (counts (disk_of y)) (h zero ∙ none_is (b zero))
      where
        none : (c : Counts) → (let some : Option Counts = Some c in some ≡ None) → suc (length ys) ≡ zero
        none c g = cc
    each (x ∷ xs) [] b h = absurd (some_is (b zero) (counts (disk_of x)) (h zero))
    each (x ∷ xs) (y ∷ ys) b h = ap suc (each xs ys (λ v. b (suc v)) (λ v. h (suc v)))
