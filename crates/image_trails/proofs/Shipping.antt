-- The records of a shipment, and where a trail's part of it begins.
use Rattle.std.proofs.Common.{◌≡◌, ℕ, ◌<◌, ◌≤◌, max, Bool, true, false, ◌&&◌, nat_lt, if◌then◌else◌, List, get_or, refl, sym, ◌∙◌, inr, subst, arith}
use Rattle.std.proofs.lemmas.Bool.Decides.{nat_tests}
use Rattle.rdf_types.specs.declared.records.Stamped.{Stamped}
use Rattle.rdf_disk.specs.Files.{Disk}
use Rattle.rdf_codec.specs.declared.ships.Ship.{Ship}
use Rattle.rdf_codec.specs.Ships.{RiseWithin, HasShipSpelling}
use Rattle.image_disks.specs.Blocks.{Plan, keeps, kept_of}
use Rattle.image_disks.specs.Values.{Shipment, Alike, received, written, is_behind, with_block}
use Rattle.image_disks.specs.Spelled.{block_of}
use Rattle.image_disks.specs.BlockLaws.{kept_entries, rise_entries, entries_rise}
use Rattle.image_disks.specs.Held.{StandingIsOrderly}
use Rattle.image_disks.specs.ValueLaws.{alike_itself}
use Rattle.image_trails.specs.declared.memory.Memory.{Memory}
use Rattle.image_trails.specs.Memory.{IsInUse, plan_in, value_in, files_of}
use Rattle.image_trails.specs.InUseLaws.{means_plain}
use Rattle.image_trails.proofs.InUse.{four_tops, get_or_any}

-- the block of a trail begins at its top
pub next_is_top : StandingIsOrderly → (m : Memory) (old : Disk) → IsInUse block_of m old → (t : ℕ) → t < 4 → (plan_in m).used t ≡ true → (x : ℕ) → x ≡ max (received (value_in m)) ((value_in m).top t) → x ≡ get_or m.tops.items t x
next_is_top standing_is_orderly m old use_ t tl used x is =
    let orderly = standing_is_orderly block_of (plan_in m) use_.logs (value_in m) refl (means_plain block_of (plan_in m) use_.logs (files_of m.generations) (value_in m) use_.means) in
    let ahead : received (value_in m) ≤ (value_in m).top t = orderly.ahead t tl used in
    let same : x ≡ (value_in m).top t = omega (arith, is, ahead) in
    same ∙ get_or_any m.tops.items t 0 x (omega (arith, four_tops m, tl))

-- what a trail keeps of a shipment, from there on, can be spelled
pub kept_spelled : (plan : Plan) (t top : ℕ) (ship : Ship) (part : List Stamped) → HasShipSpelling ship → ship.from ≤ top → top < ship.to → part ≡ kept_of plan t top ship.part
    → HasShipSpelling (record { from = top; to = ship.to; part = part })
kept_spelled plan t top ship part spelled above some is = record {
  some = some;
  few = omega (arith, spelled.few, above);
  rise = subst (RiseWithin top ship.to) (sym is) (entries_rise (keeps plan t) top ship.to (kept_of plan t top ship.part) (kept_entries plan t top ship.from top ship.to ship.part (rise_entries ship.from ship.to ship.part spelled.rise) (inr (omega arith))));
}

-- a trail that isn't behind has nothing to write
pub nothing_written : StandingIsOrderly → (m : Memory) (old : Disk) → IsInUse block_of m old → (t : ℕ) → t < 4 → (plan_in m).used t ≡ true → (x : ℕ) → x ≡ max (received (value_in m)) ((value_in m).top t)
    → (ship : Shipment) → ship.to ≤ x → Alike (value_in m) (written (plan_in m) ship t (value_in m))
nothing_written standing_is_orderly m old use_ t tl used x is ship reached =
    let v = value_in m in
    let plan = plan_in m in
    let top_is : x ≡ v.top t = next_is_top standing_is_orderly m old use_ t tl used x is ∙ get_or_any m.tops.items t x 0 (omega (arith, four_tops m, tl)) in
    let not : is_behind plan t ship v ≡ false = not_less (plan.used t) (v.top t) ship.to (omega (arith, top_is, reached)) in
    subst (λ (b : Bool). Alike v (if b then with_block plan t ship v else v)) (sym not) (alike_itself v)
  where
    not_less : (b : Bool) (a n : ℕ) → n ≤ a → (b && nat_lt a n) ≡ false
    not_less true a n h = grind (arith, nat_tests)
    not_less false a n h = refl
