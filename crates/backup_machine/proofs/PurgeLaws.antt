-- Which generations a purge drops, one after another.
use Rattle.std.proofs.Common.{◌≡◌, ℕ, zero, suc, ◌+◌, ◌-◌, nat_lt, nat_le, ◌&&◌, if◌then◌else◌, ◌≤◌, ◌<◌, Bool, true, false, List, [], ◌∷◌, length, drop, map, Option, Some, None, refl, sym, ap, ◌∙◌, arith, length-drop}
use Rattle.std.proofs.lemmas.Bool.Decides.{nat_tests}
use Rattle.std.proofs.lemmas.List.{drop-drop}
use Rattle.rdf_core.specs.Effects.{after_parts, after_all}
use Rattle.rdf_types.specs.declared.layout.Layout.{Layout}
use Rattle.rdf_types.specs.declared.records.Record.{Record}
use Rattle.rdf_core.specs.Backup.{Backup, drops, floor_of, points_in, purge_parts}
use Rattle.backup_machine.specs.Budgets.{after_some, is_spent, without}
use Rattle.backup_machine.specs.Purged.{may_go}
use Rattle.backup_machine.proofs.BudgetLaws.{one_part}

-- as many go as starts are missing
count_all : (retain floor : ℕ) (starts : List ℕ) → length (drops retain floor starts) + length (after_all starts (drops retain floor starts)) ≡ length starts
count_all retain floor [] = omega arith
count_all retain floor (s ∷ []) = omega arith
count_all retain floor (s ∷ t ∷ more) =
    elim (nat_lt retain (length (s ∷ t ∷ more)) && nat_le t floor) as (λ c. length (if c then (t ∷ more) ∷ drops retain floor (t ∷ more) else []) + length (after_all (s ∷ t ∷ more) (if c then (t ∷ more) ∷ drops retain floor (t ∷ more) else [])) ≡ length (s ∷ t ∷ more)) [
      | true ↦ one_more _ _ _ (count_all retain floor (t ∷ more))
      | false ↦ omega arith
    ]
  where
    one_more : (a b n : ℕ) → a + b ≡ n → suc a + b ≡ suc n
    one_more a b n h = omega (arith, h)

pub count_dropped : (retain floor : ℕ) (starts left : List ℕ) (most : Option ℕ) → left ≡ after_some starts (drops retain floor starts) most → most ≡ None → length starts - length left ≡ length (drops retain floor starts)
count_dropped retain floor starts left None is h =
    let e = ap (λ (l : List ℕ). length l) is in
    let f = count_all retain floor starts in
    omega (arith, e, f)
count_dropped retain floor starts left (Some n) is h = cc

abbrev pub with_starts : Backup → List ℕ → Backup
with_starts b starts = record b { starts = starts }

-- the parts of a purge, by the starts that they leave
with_dropped : (b : Backup) (starts : List ℕ) (parts : List (List ℕ)) (most : Option ℕ) →
    after_some (with_starts b starts) (map (λ l. with_starts b l) parts) most ≡ with_starts b (after_some starts parts most)
with_dropped b starts parts None = all starts parts
  where
    all : (starts : List ℕ) (parts : List (List ℕ)) → after_all (with_starts b starts) (map (λ l. with_starts b l) parts) ≡ with_starts b (after_all starts parts)
    all starts [] = refl
    all starts (p ∷ parts) = all p parts
with_dropped b starts parts (Some n) = some starts parts n
  where
    some : (starts : List ℕ) (parts : List (List ℕ)) (n : ℕ) → after_parts (with_starts b starts) (map (λ l. with_starts b l) parts) n ≡ with_starts b (after_parts starts parts n)
    some starts [] n = refl
    some starts (p ∷ parts) zero = refl
    some starts (p ∷ parts) (suc n) = some p parts n

-- what a purge leaves, from the starts that it leaves
pub purged_is : (layout : Layout) (trail : List Record) (b old : Backup) (starts : List ℕ) (floor : ℕ) (most : Option ℕ) → b ≡ old → floor ≡ floor_of layout trail (points_in layout trail b.volumes) b →
    starts ≡ after_some b.starts (drops layout.retain floor b.starts) most → with_starts b starts ≡ after_some old (purge_parts layout trail (points_in layout trail old.volumes) old) most
purged_is layout trail b old starts floor most e floor_is is =
    ap (with_starts b) is
    ∙ sym (with_dropped b b.starts (drops layout.retain floor b.starts) most)
    ∙ ap (λ (f : ℕ). after_some b (map (λ l. with_starts b l) (drops layout.retain f b.starts)) most) floor_is
    ∙ ap (λ (x : Backup). after_some x (purge_parts layout trail (points_in layout trail x.volumes) x) most) e

-- where no generation may go
pub too_few : (retain floor : ℕ) (starts : List ℕ) → length starts < 2 → false ≡ may_go retain floor starts
too_few retain floor [] few = refl
too_few retain floor (s ∷ []) few = refl
too_few retain floor (s ∷ t ∷ more) few = absurd (omega (arith, few))

pub all_retained : (retain floor : ℕ) (starts : List ℕ) → length starts ≤ retain → false ≡ may_go retain floor starts
all_retained retain floor [] few = refl
all_retained retain floor (s ∷ []) few = refl
all_retained retain floor (s ∷ t ∷ more) few =
    let no : nat_lt retain (length (s ∷ t ∷ more)) ≡ false = grind (arith, nat_tests, few) in
    sym (ap (λ (b : Bool). b && nat_le t floor) no)

-- one generation more goes
pub one_goes : (retain floor : ℕ) (starts : List ℕ) (most : Option ℕ) → is_spent most ≡ false → may_go retain floor starts ≡ true →
    after_some starts (drops retain floor starts) most ≡ after_some (drop 1 starts) (drops retain floor (drop 1 starts)) (without most 1)
one_goes retain floor [] most left may = cc
one_goes retain floor (s ∷ []) most left may = cc
one_goes retain floor (s ∷ t ∷ more) most left may =
    ap (λ (b : Bool). after_some (s ∷ t ∷ more) (if b then (t ∷ more) ∷ drops retain floor (t ∷ more) else []) most) may
    ∙ one_part (s ∷ t ∷ more) (t ∷ more) (drops retain floor (t ∷ more)) most left

pub one_further : (gone retain floor : ℕ) (starts : List ℕ) (most : Option ℕ) → is_spent most ≡ false → may_go retain floor (drop gone starts) ≡ true →
    after_some (drop gone starts) (drops retain floor (drop gone starts)) most ≡ after_some (drop (gone + 1) starts) (drops retain floor (drop (gone + 1) starts)) (without most 1)
one_further gone retain floor starts most left may =
    one_goes retain floor (drop gone starts) most left may
    ∙ ap (λ (l : List ℕ). after_some l (drops retain floor l) (without most 1)) (drop-drop 1 gone starts)

-- where a generation may go, one stands behind it
pub one_stands : (gone retain floor : ℕ) (starts : List ℕ) → may_go retain floor (drop gone starts) ≡ true → gone + 1 ≤ length starts
one_stands gone retain floor starts may =
    let some = some_left (drop gone starts) may in
    omega (arith, some, length-drop gone starts)
  where
    some_left : (l : List ℕ) → may_go retain floor l ≡ true → 1 ≤ length l
    some_left [] h = cc
    some_left (s ∷ rest) h = omega arith
