use Rattle.std.proofs.Common.{◌≡◌, get_or, sym, subst, slice_get, IfSome}
use Rattle.image_board.specs.Boards.{Published}
use Rattle.image_board.specs.NoteLaws.{zip_put, zip_there}
use Rattle.image_board.proofs.board.Board.replace_note.Goals as goal

pub invariant_of-self : goal.invariant_of-self
invariant_of-self g c =
    let b = c.self.inside in
    let fits = subst (λ (s : Published g.row.N.Denot). IfSome (slice_get s.firsts c.args.place) (λ first. g.N.Note.fits first s.items s.end c.args.note)) (sym c.self.view_is) c.requires.fits in
    let put = subst (λ n. IfSome (slice_get b.first.value.items c.args.place) (λ first. g.N.Note.fits first b.entries.items b.end n)) (sym c.replace.ensures.after) fits in
    (c.self.invariant.0, zip_put (λ first now. g.N.Note.fits first b.entries.items b.end now) b.first.value.items b.notes.items c.args.place c.replace.new.dest c.args.note c.self.invariant.1 put)

pub returns-clause-taken : goal.returns-clause-taken
returns-clause-taken g c =
    let b = c.self.inside in let note = c.replace.result in
    let is : note ≡ get_or b.notes.items c.args.place note = subst (λ n. n ≡ get_or b.notes.items c.args.place n) (sym c.replace.ensures.value) c.index_mut.ensures.value in
    subst (λ (s : Published g.row.N.Denot). IfSome (slice_get s.firsts c.args.place) (λ first. g.N.Note.fits first s.items s.end note)) c.self.view_is
    (zip_there (λ first now. g.N.Note.fits first b.entries.items b.end now) b.first.value.items b.notes.items c.args.place note c.self.invariant.1 is)
