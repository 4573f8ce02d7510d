use Rattle.std.proofs.Common.{List, sym, subst}
use Rattle.std.specs.List.{AllZip}
use Rattle.rdf_types.specs.Entries.{Rises}
use Rattle.rdf_types.specs.declared.records.Stamped.{Stamped}
use Rattle.image_board.proofs.board.Board.reserve.Goals as goal

pub invariant_of-self : goal.invariant_of-self
invariant_of-self g c =
    let b = c.self.inside in
    subst (λ (l : List Stamped). Rises b.start l b.end × AllZip (λ first now. g.N.Note.fits first l b.end now) b.first.value.items b.notes.items) (sym c.reserve.ensures.items) c.self.invariant
