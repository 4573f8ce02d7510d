use Rattle.std.proofs.Common.{refl, ap, subst, ◌∙◌, arith}
use Rattle.seated_lock.specs.declared.story.Story.{Story}
use Rattle.seated_lock.specs.Passes.{Seeing, with_story}
use Rattle.seated_lock.specs.StoryLaws.{begins_itself}
use Rattle.updaters.specs.Turns.{HasApplied}
use Rattle.updaters.proofs.Looking.{later_on, applied_none, applied_on}
use Rattle.updaters.proofs.updating.updater_loop.Goals as goal

pub loop-init : goal.loop-init
loop-init g c =
    let same = c.number-from.ensures.same in
    let story = c.number-from.ensures.writer c.requires.writer.0 in (
      record { lock = refl; seats = refl; writes = refl; seen = begins_itself c.args.board_pass.story },
      (
        applied_none c.args.vol c.args.board_pass.story c.number-from.new.pass (ap (λ (q : Seeing). q.writes) same ∙ c.requires.writer.0) (ap (λ (s : Story). s.ended) story ∙ c.requires.writer.1)
            (omega (arith, c.requires.from.1, ap (λ (s : Story). s.number) story)),
        (c.number-from.ensures.seen.1, tt),
      ),
    )

pub loop-preserved : goal.loop-preserved
loop-preserved g c =
    let round = c.take_round-later_board.ensures in (
      later_on _ _ _ c.loop.invariant.0 round.board,
      (
        applied_on c.args.vol c.args.board.now.first.start c.loop.board_pass.story c.take_round-later_board.result.board_pass.story _ c.loop.vol_pass _ c.loop.invariant.1.0 round.board.seen round.rises round.applied,
        (round.from c.in-None-end.is, round.seen),
      ),
    )

pub returns-in-Some-end-clause-board : goal.returns-in-Some-end-clause-board
returns-in-Some-end-clause-board g c = later_on _ _ _ c.loop.invariant.0 c.take_round-later_board.ensures.board

pub returns-in-Some-end-clause-applied : goal.returns-in-Some-end-clause-applied
returns-in-Some-end-clause-applied g c =
    let round = c.take_round-later_board.ensures in
    subst (λ (q : Seeing). HasApplied c.args.vol c.take_round-later_board.result.board_pass.story q c.take_round-later_board.result.vol_pass) (c.number-from.ensures.same ∙ ap (λ (s : Story). with_story c.args.vol_pass s) (c.number-from.ensures.writer c.requires.writer.0))
    (applied_on c.args.vol c.args.board.now.first.start c.loop.board_pass.story c.take_round-later_board.result.board_pass.story _ c.loop.vol_pass _ c.loop.invariant.1.0 round.board.seen round.rises round.applied)
