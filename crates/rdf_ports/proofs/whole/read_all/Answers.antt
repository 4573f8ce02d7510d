use Rattle.std.proofs.Common.{◌≡◌, ℕ, ◌+◌, ◌++◌, List, length, drop, drop, ap, sym, ◌∙◌}
use Rattle.std.proofs.Math.Seq.{drop-append-add}
use Rattle.rdf_ports.proofs.whole.read_all.Goals as goal

-- what was taken last follows what is held
taken : (held left old new : List ℕ) (k : ℕ) → held ++ left ≡ old → new ≡ drop k left → new ≡ drop (length held + k) old
taken held left old new k e h = h ∙ sym (drop-append-add held left k) ∙ ap (drop (length held + k)) e

pub returns-in_err-read_piece-clause-took : goal.returns-in_err-read_piece-clause-took
returns-in_err-read_piece-clause-took g c tells =
    let t = c.in_err-read_piece.ensures.took tells in
    (length c.loop-held.held.items + t.0, t.1, taken _ _ _ _ t.0 (c.loop-held.invariant.same tells) t.2)
