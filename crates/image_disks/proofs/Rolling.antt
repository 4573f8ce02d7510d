-- A new generation on the disk.
use Rattle.std.proofs.Common.{◌≡◌, ◌≢◌, inl, inr, ℕ, ◌+◌, ◌<◌, ◌≤◌, Bool, nat_lt, if◌then◌else◌, List, [], ◌∷◌, ◌++◌, Option, Some, None, refl, sym, ◌∙◌, ap, ap₂, subst, arith}
use Rattle.std.proofs.lemmas.Bool.{cases_eq, ne_eqb}
use Rattle.rdf_types.specs.declared.records.Record.{Record}
use Rattle.rdf_types.specs.declared.records.Phase.{Phase}
use Rattle.rdf_types.specs.declared.records.Phase.TheVariants.{Running, Taking, Taken}
use Rattle.rdf_gatelog.specs.Logs.{payloads_at, pushed}
use Rattle.rdf_gatelog.specs.RestLaws.{with_same, with_other}
use Rattle.image_disks.specs.Blocks.{Block, Start, Ship, Mark, Unspelled, Plan, end_after, phase_after, IsPhaseAt, AreInPlace}
use Rattle.image_disks.specs.Values.{received}
use Rattle.image_disks.specs.Standing.{Gen, file_of, all_blocks, end_of, IsGen, spelled, IsOn, IsNumberOf, IsUnborn}
use Rattle.image_disks.specs.Steps.{RollMeans}
use Rattle.image_disks.specs.StandingLaws.{last_gen, number_below, file_differs-trail, all_on-beside}
use Rattle.image_disks.specs.GenLaws.{gens-then, on-then, is_number-then, is_number-last, entry-then, starts-then, masters-then}

-- a phase stays within what is received
phase_later : (a b : ℕ) (p : Phase) → a ≤ b → IsPhaseAt a p → IsPhaseAt b p
phase_later a b Running le here = tt
phase_later a b Taking le here = tt
phase_later a b (Taken upto) le here = omega (arith, here)

pub phase_fits : (plan : Plan) (t at : ℕ) (p : Phase) (bs : List Block) → IsPhaseAt at p → AreInPlace plan t at bs → IsPhaseAt (end_after at bs) (phase_after p bs)
phase_fits plan t at p [] here place = here
phase_fits plan t at p (Start start q ∷ rest) here place = absurd place
phase_fits plan t at p (Ship from to part ∷ rest) here place = phase_fits plan t to p rest (phase_later at to p (omega (arith, place.0, place.1)) here) place.3
phase_fits plan t at p (Mark q ∷ rest) here place = phase_fits plan t at q rest place.1 place.2
phase_fits plan t at p (Unspelled ∷ rest) here place = absurd place

-- the generation behind the last one
abbrev pub next_gen : Gen → Gen
next_gen last = record { number = last.number + 1; start = end_of last 0; phase = phase_after last.phase (last.blocks 0); blocks = λ t. [] }

next_is_gen : (plan : Plan) (last : Gen) → last.number < 1000000000 → IsGen plan last → IsGen plan (next_gen last)
next_is_gen plan last more g = record {
  few = omega (arith, more);
  phase = phase_fits plan 0 last.start last.phase (last.blocks 0) g.phase (g.in_place 0);
  in_place = λ t. tt;
  no_shorter = λ t tl tu. omega arith;
  unused = λ t tu. refl;
}

pub roll_means : RollMeans
roll_means block_of plan logs v p used more is master seconds masters (older, last, s, alike, files) =
    let file : ℕ = file_of (v.last + 1) 0 in
    let x : Option (List (List ℕ)) = Some (payloads_at (logs file) ++ p ∷ []) in
    let number : last.number + 1 ≡ v.last + 1 = ap (λ (n : ℕ). n + 1) alike.last in
    let top_is : end_of last 0 ≡ received v = alike.top 0 (omega arith) in
    let one : x ≡ Some (p ∷ []) = ap (λ (y : Option (List (List ℕ))). Some (payloads_at y ++ p ∷ [])) master in
    let free : IsNumberOf (v.last + 1) older last → ⊥ = λ h. omega (arith, number_below plan older last (v.last + 1) s.gens h, alike.last) in
    let here : IsOn block_of plan (pushed logs file p) (next_gen last) = λ t tl tu.
    subst (λ (n : ℕ). spelled block_of (pushed logs file p (file_of n t)) ≡ Some (all_blocks (next_gen last) t)) (sym number)
    (elim (cases_eq t 0) [
      | inl first ↦ subst (λ (w : ℕ). spelled block_of (pushed logs file p (file_of (v.last + 1) w)) ≡ Some (all_blocks (next_gen last) w)) (sym first)
          (ap (spelled block_of) (with_same logs file x ∙ one) ∙ ap (λ (b : Block). Some (b ∷ [])) (is ∙ ap₂ Start (sym top_is) (sym alike.phase)))
      | inr second ↦ ap (spelled block_of) (with_other logs file x (file_of (v.last + 1) t) (file_differs-trail (v.last + 1) t 0 second) ∙ seconds t tl second tu)
          ∙ ap (λ (b : Bool). Some (if b then Start (next_gen last).start (next_gen last).phase ∷ [] else [])) (sym (ne_eqb t 0 second))
    ]) in (
      older ++ last ∷ [],
      next_gen last,
      record {
        gens = gens-then plan older last (next_gen last) s.gens (next_is_gen plan last (omega (arith, more, alike.last)) (last_gen plan older last s.gens)) (omega arith) refl;
        on = on-then block_of plan (pushed logs file p) older last (next_gen last) (all_on-beside block_of plan logs (v.last + 1) 0 (omega arith) x older last free s.on) here;
        unborn = λ k not.
            let other : file_of k 0 ≢ file = λ e. not (subst (λ (n : ℕ). IsNumberOf n (older ++ last ∷ []) (next_gen last)) (number ∙ same_number k (v.last + 1) e) (is_number-last older last (next_gen last))) in
            subst IsUnborn (sym (with_other logs file x (file_of k 0) other)) (s.unborn k (λ h. not (is_number-then k older last (next_gen last) h)));
      },
      record {
        starts = starts-then older last (end_of last 0) ∙ ap₂ (λ (l : List ℕ) (n : ℕ). l ++ n ∷ []) alike.starts top_is;
        last = number;
        phase = alike.phase;
        top = λ t tl. top_is;
        entry = λ t i tl. entry-then plan older last (next_gen last) t i s.gens refl ∙ ap₂ (λ (n : ℕ) (y : Option Record). if nat_lt i n then y else None) top_is (alike.entry t i tl);
      },
      masters-then older last (next_gen last) ∙ ap₂ (λ (l : List ℕ) (n : ℕ). l ++ file_of n 0 ∷ []) files number,
    )
  where
    same_number : (k n : ℕ) → file_of k 0 ≡ file_of n 0 → n ≡ k
    same_number k n e = omega arith
