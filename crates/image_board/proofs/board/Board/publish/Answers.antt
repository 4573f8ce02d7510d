use Rattle.std.proofs.Common.{List, sym, subst}
use Rattle.std.specs.List.{AllZip}
use Rattle.rdf_types.specs.declared.records.Stamped.{Stamped}
use Rattle.rdf_types.specs.Entries.{Rises}
use Rattle.rdf_types.specs.EntryLaws.{rises_append}
use Rattle.image_board.specs.Boards.{Published}
use Rattle.image_board.specs.NoteLaws.{zip_weaker}
use Rattle.image_board.proofs.board.Board.publish.Goals as goal

pub invariant_of-self : goal.invariant_of-self
invariant_of-self g c =
    let b = c.self.inside in
    let part = c.args.part.items in
    let behind : Rises b.end part c.args.end = subst (λ (s : Published g.row.N.Denot). Rises s.end part c.args.end) (sym c.self.view_is) c.requires.rises in
    let fits = zip_weaker (λ first now. g.N.Note.fits first b.entries.items b.end now) _ (λ first now fit. g.N.Note.lasts first now b.entries.items part b.end c.args.end fit behind) b.first.value.items b.notes.items c.self.invariant.1 in
    subst (λ (l : List Stamped). Rises b.start l c.args.end × AllZip (λ first now. g.N.Note.fits first l c.args.end now) b.first.value.items b.notes.items) (sym c.push_all.ensures.items)
    (rises_append b.start b.entries.items b.end part c.args.end c.self.invariant.0 behind, fits)
