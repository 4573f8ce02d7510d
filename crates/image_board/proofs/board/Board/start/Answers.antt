use Rattle.std.proofs.Common.{◌≡◌, List, sym, subst}
use Rattle.std.specs.List.{AllZip}
use Rattle.image_board.specs.NoteLaws.{zip_itself}
use Rattle.image_board.proofs.board.Board.start.Goals as goal

pub invariant_of-result : goal.invariant_of-result
invariant_of-result g c =
    let fits = zip_itself (λ first now. g.N.Note.fits first c.args.part.items c.args.end now) (λ n. g.N.Note.begins n c.args.part.items c.args.end) c.args.notes.items in
    let kept : c.of-first.result.value.items ≡ c.args.notes.items = λ i. (c.of-first.ensures i).items in
    (c.requires.rises, subst (λ (l : List g.row.N.Denot). AllZip (λ first now. g.N.Note.fits first c.args.part.items c.args.end now) l c.args.notes.items) (sym kept) fits)
