-- What stands is orderly, and a drop holds what was held.
use Rattle.std.proofs.Common.{◌≡◌, ℕ, ◌≤◌, Bool, false, nat_lt, if◌then◌else◌, List, [], ◌∷◌, Option, None, refl, sym, ◌∙◌, ap, ap₂, arith}
use Rattle.std.proofs.lemmas.Bool.{le-ltb}
use Rattle.rdf_types.specs.declared.records.Record.{Record}
use Rattle.image_disks.specs.Blocks.{Block, Plan, found, entries}
use Rattle.image_disks.specs.Values.{first_of, rest_of, second_of, or_else}
use Rattle.image_disks.specs.Standing.{Gen, first_start, AreGens, entry_of}
use Rattle.image_disks.specs.Held.{DropHolds, StandingIsOrderly}
use Rattle.image_disks.specs.StandingLaws.{last_gen}
use Rattle.image_disks.specs.BlockLaws.{if_both}

entry_unused : (plan : Plan) (older : List Gen) (last : Gen) (t i : ℕ) → AreGens plan older last → plan.used t ≡ false → entry_of older last t i ≡ None
entry_unused plan [] last t i gens unused = ap (λ (l : List Block). found (entries l) i) (gens.unused t unused)
entry_unused plan (g ∷ older) last t i gens unused =
    ap₂ (λ (x y : Option Record). if nat_lt i (first_start older last) then x else y) (ap (λ (l : List Block). found (entries l) i) (gens.0.unused t unused)) (entry_unused plan older last t i gens.3 unused)
    ∙ if_both (nat_lt i (first_start older last)) None

pub standing_is_orderly : StandingIsOrderly
standing_is_orderly block_of plan logs v used (older, last, s, alike) = record {
  ahead = λ t tl tu. omega (arith, (last_gen plan older last s.gens).no_shorter t tl tu, alike.top 0 (omega arith), alike.top t tl);
  empty = λ t i tl tu. sym (alike.entry t i tl) ∙ entry_unused plan older last t i s.gens tu;
}

first_rest : (l : List ℕ) → first_of (rest_of l) ≡ second_of l
first_rest [] = refl
first_rest (s ∷ rest) = refl

pub drop_holds : DropHolds
drop_holds plan trail v h rises within = record {
  long = h.long;
  part = λ i above below.
      let second : second_of v.starts ≤ i = omega (arith, above, first_rest v.starts) in
      ap (λ (b : Bool). or_else (if b then None else v.entry 0 i) (or_else (if b then None else v.entry 1 i) (or_else (if b then None else v.entry 2 i) (if b then None else v.entry 3 i)))) (le-ltb i (second_of v.starts) second)
      ∙ h.part i (omega (arith, rises, second)) below;
  ahead = λ t i tl tu above below.
      ap (λ (b : Bool). if b then None else v.entry t i) (le-ltb i (second_of v.starts) (omega (arith, within, above))) ∙ h.ahead t i tl tu above below;
}
