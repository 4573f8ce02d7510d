-- The blocks of a trail's file, read one after another.
use Rattle.rdf_gatelog.specs.declared.fault.LogFault.{LogFault}
use Rattle.rdf_gatelog.specs.declared.fault.LogFault.TheVariants.{Damaged}
use Rattle.std.proofs.lemmas.List.{append-nil, drop_more}
use Rattle.std.specs.List.{list_all}
use Rattle.std.specs.declared.alloc.Global.{Global}
use Rattle.std.proofs.Common.{◌≡◌, ℕ, zero, suc, ◌+◌, ◌<◌, ◌≤◌, Option, Some, None, IfSome, IfNone, Result, Err, Bool, true, false, ◌&&◌, List, [], ◌∷◌, ◌++◌, length, drop, get_or, map, Vec, refl, sym, ◌∙◌, ap, ap₂, subst, arith, append_assoc}
use Rattle.rdf_types.specs.declared.records.Record.{Record}
use Rattle.rdf_types.specs.declared.records.Stamped.{Stamped}
use Rattle.rdf_types.specs.declared.records.Phase.{Phase}
use Rattle.rdf_codec.specs.declared.ships.Ship.{Ship as CodecShip}
use Rattle.rdf_codec.specs.Ships.{RiseWithin, IsShip}
use Rattle.rdf_gatelog.specs.LogLaws.{block_place}
use Rattle.rdf_gatelog.specs.Log.{open_blocks}
use Rattle.rdf_gatelog.specs.Parsed.{lists_of as payloads_in}
use Rattle.image_disks.specs.Blocks.{Block, Start, Ship, Mark, Unspelled, Plan, keeps, AreEntries, entries, end_after, phase_after, AreInPlace}
use Rattle.image_disks.specs.Flaws.{IsFirstMisplaced}
use Rattle.image_disks.specs.Spelled.{block_of}
use Rattle.image_disks.specs.BlockLaws.{end_after-more, phase_after-more, entries-more, in_place-more}
use Rattle.image_trails.specs.declared.said.Said.{Said}
use Rattle.image_trails.specs.Reading.{IsReadOf, Follows}

both_true : (a b : Bool) → (a && b) ≡ true → (a ≡ true) × (b ≡ true)
both_true true b e = (refl, e)
both_true false b e = cc

pub all_kept : (may : Record → Bool) (from to : ℕ) (part : List Stamped) → AreEntries may from to part → list_all (λ s. may s.rec) part ≡ true
all_kept may from to [] es = refl
all_kept may from to (s ∷ part) es = ap₂ (λ (a b : Bool). a && b) es.2 (all_kept may (s.pos + 1) to part es.3)

pub kept_all : (may : Record → Bool) (from to : ℕ) (part : List Stamped) → RiseWithin from to part → list_all (λ s. may s.rec) part ≡ true → AreEntries may from to part
kept_all may from to [] rise all = tt
kept_all may from to (s ∷ part) rise all = let both = both_true (may s.rec) (list_all (λ s. may s.rec) part) all in (rise.0, rise.1, both.0, kept_all may (s.pos + 1) to part rise.2 both.1)

-- the last of some blocks in their place is in its place
pub last_in_place : (plan : Plan) (t at : ℕ) (bs : List Block) (b : Block) → AreInPlace plan t at (bs ++ b ∷ []) → AreInPlace plan t (end_after at bs) (b ∷ [])
last_in_place plan t at [] b here = here
last_in_place plan t at (Start start q ∷ rest) b here = absurd here
last_in_place plan t at (Ship from to part ∷ rest) b here = last_in_place plan t to rest b here.3
last_in_place plan t at (Mark q ∷ rest) b here = last_in_place plan t at rest b here.2
last_in_place plan t at (Unspelled ∷ rest) b here = absurd here

map-push : (ps : List (List ℕ)) (p : List ℕ) → map block_of (ps ++ p ∷ []) ≡ map block_of ps ++ block_of p ∷ []
map-push [] p = refl
map-push (q ∷ ps) p = ap (λ (l : List Block). block_of q ∷ l) (map-push ps p)

-- so many payloads are read, which say this; the next block begins at that place
pub record IsReadSoFar (plan : Plan) (t start : ℕ) (phase : Phase) (place : ℕ) (payloads : List (Vec ℕ Global)) (i at : ℕ) (said : Said) : Type 0 where
  pub done : List (List ℕ)
  pub split : payloads_in payloads ≡ done ++ payloads_in (drop i payloads)
  pub read : IsReadOf plan t start phase (map block_of done) said
  pub place_is : at ≡ place + length (open_blocks done)

pub none_read : (plan : Plan) (t place : ℕ) (payloads : List (Vec ℕ Global)) (said : Said) → said.part.items ≡ [] → IsReadSoFar plan t said.end said.phase place payloads 0 place said
none_read plan t place payloads said empty = record {
  done = [];
  split = refl;
  read = record { in_place = tt; end_is = refl; phase_is = refl; part_is = empty };
  place_is = omega arith;
}

module _ (plan : Plan) (t start : ℕ) (phase : Phase) (place : ℕ) (payloads : List (Vec ℕ Global)) (i at : ℕ) (said : Said) (r : IsReadSoFar plan t start phase place payloads i at said)
    (item : Vec ℕ Global) (below : i < length payloads) (is : item ≡ get_or payloads i item) where
  here : payloads_in payloads ≡ r.done ++ item.items ∷ payloads_in (drop (i + 1) payloads)
  here =
      let next : drop i payloads ≡ item ∷ drop (i + 1) payloads = drop_more payloads i item below ∙ ap (λ (x : Vec ℕ Global). x ∷ drop (i + 1) payloads) (sym is) in
      r.split ∙ ap (λ (vs : List (Vec ℕ Global)). r.done ++ payloads_in vs) next

  -- the block lies within all blocks
  pub block_within : at + (5 + length item.items) + length (open_blocks (payloads_in (drop (i + 1) payloads))) ≡ place + length (open_blocks (payloads_in payloads))
  block_within =
      omega (arith, block_place r.done item.items (payloads_in (drop (i + 1) payloads)), ap (λ (ps : List (List ℕ)). length (open_blocks ps)) here, r.place_is)

  -- the payload's block was in its place
  pub one_read : (next_at : ℕ) (next : Said) → next_at ≡ at + (5 + length item.items) → Follows plan t said (block_of item.items) next → IsReadSoFar plan t start phase place payloads (i + 1) next_at next
  one_read next_at next moved f =
      let b = block_of item.items in
      let bs = map block_of r.done in
      let all = map-push r.done item.items in
      record {
        done = r.done ++ item.items ∷ [];
        split = here ∙ sym (append_assoc r.done (item.items ∷ []) (payloads_in (drop (i + 1) payloads)));
        read = record {
          in_place = subst (AreInPlace plan t start) (sym all) (in_place-more plan t start bs b r.read.in_place (subst (λ (n : ℕ). AreInPlace plan t n (b ∷ [])) r.read.end_is f.in_place));
          end_is = f.end_is ∙ ap (λ (n : ℕ). end_after n (b ∷ [])) r.read.end_is ∙ sym (end_after-more start bs b) ∙ ap (end_after start) (sym all);
          phase_is = f.phase_is ∙ ap (λ (p : Phase). phase_after p (b ∷ [])) r.read.phase_is ∙ sym (phase_after-more phase bs b) ∙ ap (phase_after phase) (sym all);
          part_is = f.part_is ∙ ap (λ (l : List Stamped). l ++ entries (b ∷ [])) r.read.part_is ∙ sym (entries-more bs b) ∙ ap entries (sym all);
        };
        place_is = omega (arith, moved, r.place_is, block_place r.done item.items []);
      }

  -- the payload's block wasn't
  pub first_misplaced : (AreInPlace plan t said.end (block_of item.items ∷ []) → ⊥) → IsFirstMisplaced block_of plan t start place (payloads_in payloads) at
  first_misplaced not = record {
    before = r.done;
    payload = item.items;
    behind = payloads_in (drop (i + 1) payloads);
    payloads_are = here;
    at_is = r.place_is;
    so_far = r.read.in_place;
    no_further = λ all. not (subst (λ (n : ℕ). AreInPlace plan t n (block_of item.items ∷ [])) (sym r.read.end_is)
        (last_in_place plan t start (map block_of r.done) (block_of item.items) (subst (AreInPlace plan t start) (map-push r.done item.items) all)));
  }

-- all of them are read
pub all_read : (plan : Plan) (t start : ℕ) (phase : Phase) (place : ℕ) (payloads : List (Vec ℕ Global)) (i at : ℕ) (said : Said) → IsReadSoFar plan t start phase place payloads i at said → drop i payloads ≡ []
    → IsReadOf plan t start phase (map block_of (payloads_in payloads)) said
all_read plan t start phase place payloads i at said r behind =
    let whole : r.done ≡ payloads_in payloads = sym (r.split ∙ ap (λ (vs : List (Vec ℕ Global)). r.done ++ payloads_in vs) behind ∙ append-nil r.done) in
    subst (λ (ps : List (List ℕ)). IsReadOf plan t start phase (map block_of ps) said) whole r.read

pub behind_all : (payloads : List (Vec ℕ Global)) (i : ℕ) → length payloads ≤ i → drop i payloads ≡ []
behind_all [] zero h = refl
behind_all [] (suc i) h = refl
behind_all (p ∷ ps) zero h = absurd (omega (arith, h))
behind_all (p ∷ ps) (suc i) h = behind_all ps i (omega (arith, h))

pub told_place : {T : Type 0} (file at f a : ℕ) → ◌≡◌ {A = Result T LogFault} (Err (Damaged file at)) (Err (Damaged f a)) → (f ≡ file) × (at ≡ a)
told_place file at f a e = let both : (file ≡ f) × (at ≡ a) = (cc, cc) in (sym both.0, both.1)

pub none_found : (plan : Plan) (t : ℕ) (before : Said) (p item : List ℕ) → p ≡ item → (found : Option Said) → found ≡ None → IfNone found (AreInPlace plan t before.end (block_of p ∷ []) → ⊥) → AreInPlace plan t before.end (block_of item ∷ []) → ⊥
none_found plan t before p item same None is not here = not (subst (λ (x : List ℕ). AreInPlace plan t before.end (block_of x ∷ [])) (sym same) here)
none_found plan t before p item same (Some s) is not here = cc

pub some_found : (plan : Plan) (t : ℕ) (before : Said) (p item : List ℕ) → p ≡ item → (found : Option Said) (next : Said) → found ≡ Some next → IfSome found (λ s. Follows plan t before (block_of p) s) → Follows plan t before (block_of item) next
some_found plan t before p item same found next is f = subst (λ (x : List ℕ). Follows plan t before (block_of x) next) same (subst (λ (o : Option Said). IfSome o (λ s. Follows plan t before (block_of p) s)) is f)

-- a Ship more
pub ship_follows : (plan : Plan) (t : ℕ) (before said : Said) (ship : CodecShip) → IsShip ship → ship.from ≡ before.end → list_all (λ s. keeps plan t s.rec) ship.part ≡ true → said.end ≡ ship.to → said.phase ≡ before.phase
    → said.part.items ≡ before.part.items ++ ship.part → Follows plan t before (Ship ship.from ship.to ship.part) said
ship_follows plan t before said ship is joins all end phase part = record {
  in_place = (joins, is.spelled.some, kept_all (keeps plan t) ship.from ship.to ship.part is.spelled.rise all, tt);
  end_is = end;
  phase_is = phase;
  part_is = part ∙ ap (λ (l : List Stamped). before.part.items ++ l) (sym (append-nil ship.part));
}

pub both_values : (b : Bool) → b ≡ true → b ≡ false → ⊥
both_values b is_so not_so = cc
