-- The part of a trail on some of its positions.
use Rattle.std.proofs.Common.{◌≡◌, ℕ, suc, ◌+◌, ◌<◌, ◌≤◌, Bool, true, false, cond, List, [], ◌∷◌, length, take, drop, min, filter, Option, Some, ap, sym, subst, ◌∙◌, arith, length-drop, length-take}
use Rattle.std.proofs.lemmas.Bool.{lt-ltb}
use Rattle.std.proofs.lemmas.List.{drop-take, take_min}
use Rattle.rdf_types.specs.declared.records.Record.{Record}
use Rattle.rdf_types.specs.declared.records.Stamped.{Stamped}
use Rattle.rdf_model.specs.Window.{stamped, concerns, part}
use Rattle.rdf_codec.specs.declared.ships.Ship.{Ship}
use Rattle.rdf_codec.specs.declared.messages.Message.{Message}
use Rattle.rdf_codec.specs.declared.messages.Message.TheVariants as message
use Rattle.rdf_codec.specs.Ships.{RiseWithin, HasShipSpelling}
use Rattle.extractor.specs.Extract.{Progress, extract, next_message}

-- entries that rise from a position on rise from an earlier one on too
rise_earlier : (low from high : ℕ) (entries : List Stamped) → low ≤ from → RiseWithin from high entries → RiseWithin low high entries
rise_earlier low from high [] le h = tt
rise_earlier low from high (s ∷ entries) le h = (omega (arith, h.0), h.1, h.2)

-- with a first entry, or without it
first_rises : (chosen : Bool) (at high : ℕ) (r : Record) (entries : List Stamped) → at < high → RiseWithin (suc at) high entries
    → RiseWithin at high (cond chosen (record { pos = at; rec = r } ∷ entries) entries)
first_rises true at high r entries lt h = (omega arith, lt, subst (λ (low : ℕ). RiseWithin low high entries) (omega arith) h)
first_rises false at high r entries lt h = rise_earlier at (suc at) high entries (omega arith) h

-- what is chosen of records that stand one behind the other rises
rises : (test : Stamped → Bool) (at high : ℕ) (trail : List Record) → at + length trail ≤ high → RiseWithin at high (filter test (stamped at trail))
rises test at high [] le = tt
rises test at high (r ∷ rest) le =
    first_rises (test (record { pos = at; rec = r })) at high r (filter test (stamped (suc at) rest)) (omega (arith, le))
    (rises test (suc at) high rest (omega (arith, le)))

-- the part of a trail on 1 to 64 positions has a spelling
pub spelled : (protects : ℕ → Bool) (trail : List Record) (from to : ℕ) → from < to → to ≤ from + 64 → to ≤ length trail → HasShipSpelling (extract protects trail from to)
spelled protects trail from to lt few le = record {
  some = lt;
  few = few;
  rise = rises (λ s. concerns protects s.rec) from to (drop from (take to trail)) (omega (arith, length-drop from (take to trail), length-take to trail));
}

-- the records between two positions, cut off in front or behind first
between : (trail : List Record) (from most : ℕ) → take most (drop from trail) ≡ drop from (take (min (from + most) (length trail)) trail)
between trail from most = sym (drop-take from most trail) ∙ ap (drop from) (sym (take_min (from + most) trail))

-- what concerns the protected volumes among the next records is the part of the trail on their positions
part_between : (protects : ℕ → Bool) (trail : List Record) (from most to : ℕ) → to ≡ min (from + most) (length trail)
    → filter (λ s. concerns protects s.rec) (stamped from (take most (drop from trail))) ≡ part protects from (take to trail)
part_between protects trail from most to e =
    ap (λ l. filter (λ s. concerns protects s.rec) (stamped from l)) (between trail from most)
    ∙ ap (λ n. part protects from (take n trail)) (sym e)

-- the next shipment, from what was read and chosen for it
pub ship_is : (protects : ℕ → Bool) (trail : List Record) (from most to : ℕ) (entries : List Stamped) → to ≡ min (from + most) (length trail)
    → entries ≡ filter (λ s. concerns protects s.rec) (stamped from (take most (drop from trail)))
    → ◌≡◌ {A = Ship} (record { from = from; to = to; part = entries }) (extract protects trail from to)
ship_is protects trail from most to entries e k =
    ap (λ (l : List Stamped). let ship : Ship = record { from = from; to = to; part = l } in ship) (k ∙ part_between protects trail from most to e)

-- and the message of it
pub message_is : (protects : ℕ → Bool) (trail : List Record) (most to : ℕ) (p : Progress) (entries : List Stamped) → p.next < length trail → to ≡ min (p.next + most) (length trail)
    → entries ≡ filter (λ s. concerns protects s.rec) (stamped p.next (take most (drop p.next trail)))
    → ◌≡◌ {A = Option Message} (Some (message.Ship (record { from = p.next; to = to; part = entries }))) (next_message protects trail most p)
message_is protects trail most to p entries lt e k =
    rw (lt-ltb p.next (length trail) lt, ← e) (ap (λ ship. Some (message.Ship ship)) (ship_is protects trail p.next most to entries e k))
