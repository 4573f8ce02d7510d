-- Lists by position: their parts, what is found in them, and their first entries that rise.
use Rattle.std.proofs.Common.{◌≡◌, ℕ, zero, suc, ◌+◌, ◌-◌, ◌<◌, ◌≤◌, ◌&&◌, nat_lt, nat_le, if◌then◌else◌, Bool, true, false, List, [], ◌∷◌, ◌++◌, length, take, Option, Some, None, refl, ap, ap₂, ◌∙◌, min, arith}
use Rattle.std.proofs.Math.Seq.{take-append-add}
use Rattle.std.proofs.lemmas.Bool.{lt-ltb, le-ltb, le-leb, ltb-true, leb-true}
use Rattle.std.proofs.Math.Bool.{and-false}
use Rattle.rdf_types.specs.declared.records.Record.{Record}
use Rattle.rdf_types.specs.declared.records.Stamped.{Stamped}
use Rattle.rdf_codec.specs.Ships.{RiseWithin}
use Rattle.image_disks.specs.Blocks.{Plan}
use Rattle.image_disks.specs.Values.{Value, Shipment, at_pos, listed, received, kept, merged}
use Rattle.image_disks.specs.Held.{Holds, IsPartOf}
use Rattle.image_disks.specs.BlockLaws.{entries_rise}
use Rattle.image_disks.specs.ListLaws.{entries_listed, listed_split, found_listed}
use Rattle.copyaudit.specs.Copying.{part_of, first_rising}

and_left : (p q : Bool) → (p && q) ≡ true → p ≡ true
and_left true q h = refl
and_left false q h = h

and_right : (p q : Bool) → (p && q) ≡ true → q ≡ true
and_right true q h = h
and_right false q h = cc

-- the test of the first entry that rises
pub within : (from at to : ℕ) → from ≤ at → at < to → (nat_le from at && nat_lt at to) ≡ true
within from at to h g = ap₂ (λ (p q : Bool). p && q) (le-leb from at h) (lt-ltb at to g)

past : (from at to : ℕ) → to ≤ at → (nat_le from at && nat_lt at to) ≡ false
past from at to h = ap (λ (q : Bool). nat_le from at && q) (le-ltb at to h) ∙ and-false (nat_le from at)

-- they rise
pub first_rises : (from to : ℕ) (l : List Stamped) → RiseWithin from to (first_rising from to l)
first_rises from to [] = tt
first_rises from to (s ∷ rest) = one (nat_le from s.pos && nat_lt s.pos to) refl (first_rises (s.pos + 1) to rest)
  where
    one : (b : Bool) → (nat_le from s.pos && nat_lt s.pos to) ≡ b → RiseWithin (s.pos + 1) to (first_rising (s.pos + 1) to rest) → RiseWithin from to (if b then s ∷ first_rising (s.pos + 1) to rest else [])
    one true e h = (leb-true from s.pos (and_left (nat_le from s.pos) (nat_lt s.pos to) e), ltb-true s.pos to (and_right (nat_le from s.pos) (nat_lt s.pos to) e), h)
    one false e h = tt

-- the first entry stands at the position or behind it
abbrev StartsAt : ℕ → List Stamped → Type 0
StartsAt to [] = Unit {0}
StartsAt to (z ∷ zs) = to ≤ z.pos

-- entries that rise, before such, are the first that do
first_kept : (from to : ℕ) (xs zs : List Stamped) → RiseWithin from to xs → StartsAt to zs → first_rising from to (xs ++ zs) ≡ xs
first_kept from to [] [] rise start = refl
first_kept from to [] (z ∷ zs) rise start = ap (λ (b : Bool). if b then z ∷ first_rising (z.pos + 1) to zs else []) (past from z.pos to start)
first_kept from to (x ∷ xs) zs rise start =
    ap (λ (b : Bool). if b then x ∷ first_rising (x.pos + 1) to (xs ++ zs) else []) (within from x.pos to rise.0 rise.1)
    ∙ ap (λ (l : List Stamped). x ∷ l) (first_kept (x.pos + 1) to xs zs rise.2 start)

starts_take : (n to : ℕ) (l : List Stamped) → StartsAt to l → StartsAt to (take n l)
starts_take zero to l h = tt
starts_take (suc n) to [] h = tt
starts_take (suc n) to (z ∷ zs) h = h

starts_earlier : (low to : ℕ) (l : List Stamped) → low ≤ to → StartsAt to l → StartsAt low l
starts_earlier low to [] h s = tt
starts_earlier low to (z ∷ zs) h s = omega (arith, h, s)

-- lists by position

starts_pos : (x : Option Record) (at : ℕ) (rest : List Stamped) → StartsAt (at + 1) rest → StartsAt at (at_pos at x rest)
starts_pos None at rest h = starts_earlier at (at + 1) rest (omega arith) h
starts_pos (Some r) at rest h = omega arith

listed_starts : (f : ℕ → Option Record) (at n : ℕ) → StartsAt at (listed f at n)
listed_starts f at zero = tt
listed_starts f at (suc n) = starts_pos (f at) at (listed f (at + 1) n) (listed_starts f (at + 1) n)

listed_rise : (f : ℕ → Option Record) (at n to : ℕ) → at + n ≤ to → RiseWithin at to (listed f at n)
listed_rise f at n to few = entries_rise (λ r. true) at to (listed f at n) (entries_listed f at n to few)

few_pos : (x : Option Record) (at n : ℕ) (rest : List Stamped) → length rest ≤ n → length (at_pos at x rest) ≤ suc n
few_pos None at n rest h = omega (arith, h)
few_pos (Some r) at n rest h = omega (arith, h)

listed_few : (f : ℕ → Option Record) (at n : ℕ) → length (listed f at n) ≤ n
listed_few f at zero = omega arith
listed_few f at (suc n) = few_pos (f at) at n (listed f (at + 1) n) (listed_few f (at + 1) n)

take_past : (n : ℕ) (xs ys : List Stamped) → length xs ≤ n → take n (xs ++ ys) ≡ xs ++ take (n - length xs) ys
take_past n xs ys h = ap (λ (k : ℕ). take k (xs ++ ys)) (let e : n ≡ length xs + (n - length xs) = omega (arith, h) in e) ∙ take-append-add xs ys (n - length xs)

-- of 64 entries from a position on, those below a position that is no further on than 64 are all that there are
pub listed_first : (f : ℕ → Option Record) (from to upto : ℕ) → from ≤ to → to ≤ upto → to ≤ from + 64 → first_rising from to (take 64 (listed f from (upto - from))) ≡ listed f from (to - from)
listed_first f from to upto order few near =
    ap (λ (l : List Stamped). first_rising from to (take 64 l)) (listed_split f from to upto order few)
    ∙ ap (λ (l : List Stamped). first_rising from to l) (take_past 64 (listed f from (to - from)) (listed f to (upto - to)) (omega (arith, listed_few f from (to - from), near)))
    ∙ first_kept from to (listed f from (to - from)) (take (64 - length (listed f from (to - from))) (listed f to (upto - to)))
    (listed_rise f from (to - from) to (omega (arith, order))) (starts_take (64 - length (listed f from (to - from))) to (listed f to (upto - to)) (listed_starts f to (upto - to)))

-- a message from trails that hold a trail is a part of it
pub part_held : (plan : Plan) (trail : List Record) (lead : Value) (from to : ℕ) → plan.used 0 ≡ true → kept lead ≤ from → from ≤ to → to ≤ received lead → Holds plan trail lead → IsPartOf plan trail (part_of lead from to)
part_held plan trail lead from to used above order few h = record {
  long = omega (arith, few, h.long 0 (omega arith) used);
  part = λ i low high. found_listed (merged lead) from (to - from) i low (omega (arith, high, order)) ∙ h.part i (omega (arith, above, low)) (omega (arith, high, few));
}

-- a message from what was read and cut off for it
pub message_is : (lead : Value) (from to : ℕ) (part entries : List Stamped) → to ≡ min (from + 64) (received lead) → from < received lead → entries ≡ take 64 (listed (merged lead) from (received lead - from)) → part ≡ first_rising from to entries
    → ◌≡◌ {A = Shipment} (record { from = from; to = to; part = part }) (part_of lead from (min (from + 64) (received lead)))
message_is lead from to part entries to_is some entries_are part_is =
    ap (λ (l : List Stamped). let ship : Shipment = record { from = from; to = to; part = l } in ship)
    (part_is ∙ ap (λ (l : List Stamped). first_rising from to l) entries_are ∙ listed_first (merged lead) from to (received lead) (omega (arith, to_is, some)) (omega (arith, to_is)) (omega (arith, to_is)))
    ∙ ap (λ (n : ℕ). part_of lead from n) to_is
