use Rattle.std.proofs.Common.{List, sym, subst}
use Rattle.std.specs.List.{AllZip}
use Rattle.image_board.specs.Boards.{Published}
use Rattle.image_board.proofs.board.Board.notes.Goals as goal

pub returns-clause-fit : goal.returns-clause-fit
returns-clause-fit g c =
    let b = c.self.inside in
    subst (λ (l : List g.row.N.Denot). AllZip (λ first now. g.N.Note.fits first c.args.self.now.items c.args.self.now.end now) c.args.self.now.firsts l) (sym c.deref.ensures.value)
    (subst (λ (s : Published g.row.N.Denot). AllZip (λ first now. g.N.Note.fits first s.items s.end now) s.firsts b.notes.items) c.self.view_is c.self.invariant.1)
