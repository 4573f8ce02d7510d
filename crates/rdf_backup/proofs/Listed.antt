-- The part of a trail, as a list by position.
use Rattle.std.proofs.Common.{◌≡◌, ℕ, zero, suc, ◌+◌, ◌-◌, ◌<◌, ◌≤◌, if◌then◌else◌, Bool, true, false, List, [], ◌∷◌, length, take, drop, filter, Option, Some, None, refl, sym, ap, ap₂, ◌∙◌, arith}
use Rattle.std.specs.Prelude.{slice_get, get_or}
use Rattle.std.proofs.lemmas.List.{length-drop, length-take}
use Rattle.rdf_types.specs.declared.layout.Layout.{Layout}
use Rattle.rdf_types.specs.declared.records.Record.{Record}
use Rattle.rdf_types.specs.declared.records.Record.TheVariants.{Image, Commit, Abort}
use Rattle.rdf_types.specs.declared.records.Stamped.{Stamped}
use Rattle.rdf_model.specs.Window.{concerns, stamped, part}
use Rattle.image_disks.specs.Values.{at_pos, listed}
use Rattle.image_disks.specs.Held.{is_kept, only_if, concerned}
use Rattle.image_trails.specs.Memory.{plan_of}
use Rattle.rdf_core.specs.Layouts.{protects}

only_same : (p q : Record → Bool) → ((r : Record) → p r ≡ q r) → (o : Option Record) → only_if p o ≡ only_if q o
only_same p q same None = refl
only_same p q same (Some r) = ap (λ (b : Bool). if b then Some r else None) (same r)

kept_is : (layout : Layout) (r : Record) → is_kept ((plan_of layout).home r) ≡ concerns (protects layout) r
kept_is layout (Image txn vol file key before after) =
    elim (get_or layout.protect vol false) as (λ b. is_kept (if b then Some (get_or layout.trail_of vol 0) else None) ≡ b) [
      | true ↦ refl
      | false ↦ refl
    ]
kept_is layout (Commit txn) = refl
kept_is layout (Abort txn) = refl

taken_at : {X : Type 0} (n : ℕ) (xs : List X) (i : ℕ) → i < n → slice_get (take n xs) i ≡ slice_get xs i
taken_at zero xs i h = absurd (omega (arith, h))
taken_at (suc n) [] i h = refl
taken_at (suc n) (x ∷ xs) zero h = refl
taken_at (suc n) (x ∷ xs) (suc i) h = taken_at n xs i (omega (arith, h))

dropped_at : {X : Type 0} (n : ℕ) (xs : List X) (i : ℕ) → slice_get (drop n xs) i ≡ slice_get xs (n + i)
dropped_at {X = X} zero xs i = ap (λ (k : ℕ). slice_get xs k) (let e : i ≡ 0 + i = omega arith in e)
dropped_at {X = X} (suc n) [] i = none i ∙ sym (none (suc n + i))
  where
    none : (k : ℕ) → (let nil : List X = [] in slice_get nil k ≡ None)
    none zero = refl
    none (suc k) = refl
dropped_at (suc n) (x ∷ xs) i = dropped_at n xs i ∙ ap (λ (k : ℕ). slice_get (x ∷ xs) k) (let e : suc (n + i) ≡ suc n + i = omega arith in e)

first_listed : (b : Bool) (at : ℕ) (x : Record) (rest : List Stamped) → (if b then record { pos = at; rec = x } ∷ rest else rest) ≡ at_pos at (if b then Some x else None) rest
first_listed true at x rest = refl
first_listed false at x rest = refl

-- the records that pass, with their positions
stamped_listed : (test : Record → Bool) (f : ℕ → Option Record) (xs : List Record) (at : ℕ) → ((i : ℕ) → i < length xs → f (at + i) ≡ only_if test (slice_get xs i)) →
    filter (λ s. test s.rec) (stamped at xs) ≡ listed f at (length xs)
stamped_listed test f [] at same = refl
stamped_listed test f (x ∷ xs) at same =
    first_listed (test x) at x (filter (λ s. test s.rec) (stamped (suc at) xs))
    ∙ ap₂ (λ (o : Option Record) (l : List Stamped). at_pos at o l) (sym here)
    (stamped_listed test f xs (suc at) (λ i below. ap (λ (k : ℕ). f k) (let e : suc at + i ≡ at + suc i = omega arith in e) ∙ same (suc i) (omega (arith, below)))
    ∙ ap (λ (k : ℕ). listed f k (length xs)) (let e : suc at ≡ at + 1 = omega arith in e))
  where
    here : f at ≡ (if test x then Some x else None)
    here = ap (λ (k : ℕ). f k) (let e : at ≡ at + 0 = omega arith in e) ∙ same zero (omega arith)

-- the part of a trail on so many positions is the list of what concerns the protected volumes there
pub part_listed : (layout : Layout) (trail : List Record) (from to : ℕ) → from ≤ to → to ≤ length trail →
    part (protects layout) from (take to trail) ≡ listed (λ i. concerned (plan_of layout) trail i) from (to - from)
part_listed layout trail from to order few =
    stamped_listed (concerns (protects layout)) (λ i. concerned (plan_of layout) trail i) (drop from (take to trail)) from same
    ∙ ap (λ (k : ℕ). listed (λ i. concerned (plan_of layout) trail i) from k) many
  where
    many : length (drop from (take to trail)) ≡ to - from
    many = omega (arith, length-drop from (take to trail), length-take to trail, few)

    same : (i : ℕ) → i < length (drop from (take to trail)) → concerned (plan_of layout) trail (from + i) ≡ only_if (concerns (protects layout)) (slice_get (drop from (take to trail)) i)
    same i below =
        let within : from + i < to = omega (arith, many, below, order) in
        ap (λ (o : Option Record). only_if (λ r. is_kept ((plan_of layout).home r)) o) (sym (dropped_at from (take to trail) i ∙ taken_at to trail (from + i) within))
        ∙ only_same (λ r. is_kept ((plan_of layout).home r)) (concerns (protects layout)) (kept_is layout) (slice_get (drop from (take to trail)) i)
