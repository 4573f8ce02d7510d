-- Shipments as parts of the trail, and the notes of what they bring.
use Rattle.std.proofs.Common.{◌≡◌, ℕ, zero, suc, ◌+◌, ◌-◌, ◌<◌, ◌≤◌, nat_le, if◌then◌else◌, Bool, true, List, [], ◌∷◌, ◌++◌, length, take, drop, get_or, fold, Option, Some, None, refl, sym, ap, ◌∙◌, subst, arith}
use Rattle.std.proofs.lemmas.Bool.{le-leb, lt-leb}
use Rattle.std.proofs.lemmas.List.{drop_more}
use Rattle.rdf_types.specs.declared.layout.Layout.{Layout}
use Rattle.rdf_types.specs.declared.records.Record.{Record}
use Rattle.rdf_types.specs.declared.records.Stamped.{Stamped}
use Rattle.rdf_model.specs.Window.{part}
use Rattle.open_txns.specs.Noted.{noted, all_noted}
use Rattle.image_disks.specs.Blocks.{found, AreEntries}
use Rattle.image_disks.specs.Values.{Value, Shipment, received, kept, merged, at_pos, listed}
use Rattle.image_disks.specs.Held.{Holds, IsPartOf, concerned}
use Rattle.image_trails.specs.Memory.{plan_of}
use Rattle.rdf_core.specs.Layouts.{protects}
use Rattle.rdf_backup.specs.Parts.{PartIsPart, PartIsWhole, KeptIsPart, noted_since}
use Rattle.image_disks.specs.ListLaws.{listed_same, found_listed, entries_listed, listed_found, listed_split}
use Rattle.rdf_backup.proofs.Listed.{part_listed}

pub part_is_part : PartIsPart
part_is_part layout trail from to order few = (
  record {
    long = few;
    part = λ i above below. ap (λ (l : List Stamped). found l i) is ∙ found_listed (λ i. concerned (plan_of layout) trail i) from (to - from) i above (omega (arith, below, order));
  },
  subst (λ (l : List Stamped). AreEntries (λ r. true) from to l) (sym is) (entries_listed (λ i. concerned (plan_of layout) trail i) from (to - from) to (omega (arith, order))),
)
  where
    is : part (protects layout) from (take to trail) ≡ listed (λ i. concerned (plan_of layout) trail i) from (to - from)
    is = part_listed layout trail from to order few

-- the entries of a shipment that is the trail's part, by position
pub ship_listed : (layout : Layout) (trail : List Record) (ship : Shipment) → ship.from ≤ ship.to → IsPartOf (plan_of layout) trail ship → AreEntries (λ r. true) ship.from ship.to ship.part →
    ship.part ≡ listed (λ i. concerned (plan_of layout) trail i) ship.from (ship.to - ship.from)
ship_listed layout trail ship order is es =
    sym (listed_found (ship.to - ship.from) ship.part ship.from ship.to (omega (arith, order)) es)
    ∙ listed_same (λ i. found ship.part i) (λ i. concerned (plan_of layout) trail i) ship.from (ship.to - ship.from) (λ i above below. is.part i above (omega (arith, below, order)))

pub part_is_whole : PartIsWhole
part_is_whole layout trail ship order is es = ship_listed layout trail ship order is es ∙ sym (part_listed layout trail ship.from ship.to order is.long)

-- what image trails keep from a position on
pub since_is_part : (layout : Layout) (trail : List Record) (v : Value) (from : ℕ) → Holds (plan_of layout) trail v → kept v ≤ from → from ≤ received v →
    listed (merged v) from (received v - from) ≡ part (protects layout) from (take (received v) trail)
since_is_part layout trail v from holds low order =
    listed_same (λ i. merged v i) (λ i. concerned (plan_of layout) trail i) from (received v - from) (λ i above below. holds.part i (omega (arith, low, above)) (omega (arith, below, order)))
    ∙ sym (part_listed layout trail from (received v) order (holds.long 0 (omega arith) refl))

pub kept_is_part : KeptIsPart
kept_is_part layout trail v holds order = since_is_part layout trail v (kept v) holds (omega arith) order

-- notes

noted_append : (at : ℕ) (opens : List (ℕ × ℕ)) (xs ys : List Stamped) → noted_since at opens (xs ++ ys) ≡ noted_since at (noted_since at opens xs) ys
noted_append at opens [] ys = refl
noted_append at opens (s ∷ xs) ys = noted_append at (if nat_le at s.pos then noted opens s.pos s.rec else opens) xs ys

fold_append : (opens : List (ℕ × ℕ)) (xs ys : List Stamped) → fold (λ opens s. noted opens s.pos s.rec) opens (xs ++ ys) ≡ fold (λ opens s. noted opens s.pos s.rec) (fold (λ opens s. noted opens s.pos s.rec) opens xs) ys
fold_append opens [] ys = refl
fold_append opens (s ∷ xs) ys = fold_append (noted opens s.pos s.rec) xs ys

-- entries below the position are not noted
noted_low : (f : ℕ → Option Record) (at : ℕ) (opens : List (ℕ × ℕ)) (a m : ℕ) → a + m ≤ at → noted_since at opens (listed f a m) ≡ opens
noted_low f at opens a zero few = refl
noted_low f at opens a (suc m) few = first (f a) ∙ noted_low f at opens (a + 1) m (omega (arith, few))
  where
    first : (x : Option Record) → noted_since at opens (at_pos a x (listed f (a + 1) m)) ≡ noted_since at opens (listed f (a + 1) m)
    first None = refl
    first (Some r) = ap (λ (b : Bool). noted_since at (if b then noted opens a r else opens) (listed f (a + 1) m)) (lt-leb at a (omega (arith, few)))

-- and those from it on are
high_step : (at : ℕ) (opens : List (ℕ × ℕ)) (a : ℕ) (x : Option Record) (rest : List Stamped) → at ≤ a →
    ((o : List (ℕ × ℕ)) → noted_since at o rest ≡ fold (λ opens s. noted opens s.pos s.rec) o rest) → noted_since at opens (at_pos a x rest) ≡ fold (λ opens s. noted opens s.pos s.rec) opens (at_pos a x rest)
high_step at opens a None rest h more = more opens
high_step at opens a (Some r) rest h more = ap (λ (b : Bool). noted_since at (if b then noted opens a r else opens) rest) (le-leb at a h) ∙ more (noted opens a r)

noted_high : (f : ℕ → Option Record) (at n : ℕ) (a : ℕ) → at ≤ a → (opens : List (ℕ × ℕ)) → noted_since at opens (listed f a n) ≡ fold (λ opens s. noted opens s.pos s.rec) opens (listed f a n)
noted_high f at zero a h opens = refl
noted_high f at (suc n) a h opens = high_step at opens a (f a) (listed f (a + 1) n) h (noted_high f at n (a + 1) (omega (arith, h)))

-- one turn of the loop that notes
pub noted_turn : (at : ℕ) (opens : List (ℕ × ℕ)) (xs : List Stamped) (i : ℕ) (x : Stamped) → i < length xs → x ≡ get_or xs i x →
    noted_since at (if nat_le at x.pos then noted opens x.pos x.rec else opens) (drop (i + 1) xs) ≡ noted_since at opens (drop i xs)
noted_turn at opens xs i x h e = ap (λ (l : List Stamped). noted_since at opens l) (sym (drop_more xs i x h ∙ ap (λ (y : Stamped). y ∷ drop (i + 1) xs) (sym e)))

-- the notes of what is new in a shipment lead from the open transactions of one prefix to those of a longer one
pub noted_more : (f : ℕ → Option Record) (start at from to : ℕ) (opens : List (ℕ × ℕ)) → start ≤ at → from ≤ at → at ≤ to → opens ≡ all_noted (listed f start (at - start)) →
    noted_since at opens (listed f from (to - from)) ≡ all_noted (listed f start (to - start))
noted_more f start at from to opens early joins order is =
    ap (λ (l : List Stamped). noted_since at opens l) (listed_split f from at to joins order)
    ∙ noted_append at opens (listed f from (at - from)) (listed f at (to - at))
    ∙ ap (λ (o : List (ℕ × ℕ)). noted_since at o (listed f at (to - at))) (noted_low f at opens from (at - from) (omega (arith, joins)))
    ∙ noted_high f at (to - at) at (omega arith) opens
    ∙ ap (λ (o : List (ℕ × ℕ)). fold (λ opens s. noted opens s.pos s.rec) o (listed f at (to - at))) is
    ∙ sym (fold_append [] (listed f start (at - start)) (listed f at (to - at)))
    ∙ ap (λ (l : List Stamped). all_noted l) (sym (listed_split f start at to early order))
