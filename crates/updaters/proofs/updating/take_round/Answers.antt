use Rattle.std.proofs.Common.{◌∙◌, ℕ, ap, arith}
use Rattle.rdf_types.specs.EntryLaws.{rises_le}
use Rattle.image_board.specs.Entries.{images_between}
use Rattle.updaters.proofs.Looking.{later_on, applied_none, applied_later, applied_once, found_in, rises_later, may_follow}
use Rattle.updaters.proofs.updating.take_round.Goals as goal

pub look-pass-requires-clause-seen : goal.look-pass-requires-clause-seen
look-pass-requires-clause-seen g c =
    let story = c.args.board_pass.story in
    may_follow g.D.Disk.tells g.D.Disk.files g.D.Disk.counts c.args.board.now.first.firsts c.args.place c.args.vol c.args.seat.now.first.volume story.entries story.number c.args.seen c.requires.noted c.requires.seen

pub returns-in-Err-clause-applied : goal.returns-in-Err-clause-applied
returns-in-Err-clause-applied g c =
    let seen = c.look-pass.ensures.pass.seen in
    applied_none c.args.vol c.look-pass.result.pass.story c.args.vol_pass c.requires.writer.0 c.requires.writer.1
    (omega (arith, c.requires.from.1, c.requires.from.2, rises_le c.args.board_pass.story.number seen.later c.look-pass.result.pass.story.number seen.rises))

pub returns-then-piece-from-clause-applied : goal.returns-then-piece-from-clause-applied
returns-then-piece-from-clause-applied g c =
    let seen = c.look-pass.ensures.pass.seen in
    applied_none c.args.vol c.look-pass.result.pass.story c.args.vol_pass c.requires.writer.0 c.requires.writer.1
    (omega (arith, c.requires.from.1, c.requires.from.2, rises_le c.args.board_pass.story.number seen.later c.look-pass.result.pass.story.number seen.rises))

pub returns-clause-board : goal.returns-clause-board
returns-clause-board g c = later_on _ _ _ c.look-pass.ensures.pass c.apply-board_pass.ensures.board

pub returns-clause-rises : goal.returns-clause-rises
returns-clause-rises g c = rises_later c.args.board.now.first.start c.look-pass.result.pass.story c.apply-board_pass.result.board_pass.story c.look-pass.ensures.rises c.apply-board_pass.ensures.board.seen

pub returns-clause-applied : goal.returns-clause-applied
returns-clause-applied g c =
    let story = c.look-pass.result.pass.story in
    let found = found_in _ c.look-pass.result.piece c.in-Ok.piece c.look-pass.ensures.found c.in-Ok.is in
    let are = c.deref.ensures.value ∙ found.images ∙ ap (λ (k : ℕ). images_between c.args.vol k c.in-Ok.piece.upto story.entries) c.requires.from.2 in
    applied_later c.args.vol story c.apply-board_pass.result.board_pass.story c.args.vol_pass c.apply-board_pass.result.vol_pass
    (applied_once c.args.vol c.in-Ok.piece.upto story c.args.vol_pass c.apply-board_pass.result.vol_pass c.deref.result.now c.apply-board_pass.result.fault
    (omega (arith, c.requires.from.2, found.behind)) found.within are c.apply-board_pass.ensures.seat c.apply-board_pass.ensures.adds)
    c.apply-board_pass.ensures.board.seen
