use Rattle.std.proofs.Common.{◌≡◌, ℕ, ◌+◌, List, [], ◌∷◌, ◌++◌, length, sym, subst, ap, ◌∙◌, length-append, arith}
use Rattle.rdf_types.specs.declared.records.Stamped.{Stamped}
use Rattle.rdf_types.specs.Entries.{Rises}
use Rattle.rdf_types.specs.EntryLaws.{rises_append}
use Rattle.benches.proofs.boards.entries.Goals as goal

pub loop-pos-preserved : goal.loop-pos-preserved
loop-pos-preserved c =
    let pos = c.loop-pos.pos in
    let entry = c.in-Ok.entry in
    let at = c.in-Ok.ensures in
    let rises : Rises 0 (c.loop-pos.part.items ++ entry ∷ []) (pos + 1) = rises_append 0 c.loop-pos.part.items pos (entry ∷ []) (pos + 1) c.loop-pos.invariant.0 (omega arith, omega arith) in
    let count : length (c.loop-pos.part.items ++ entry ∷ []) ≡ pos + 1 = length-append c.loop-pos.part.items (entry ∷ []) ∙ ap (λ (n : ℕ). n + 1) c.loop-pos.invariant.1 in
    subst (λ (l : List Stamped). Rises 0 l (pos + 1) × (length l ≡ pos + 1)) (sym c.in_ok-push-in-Ok.ensures.items) (rises, count)
