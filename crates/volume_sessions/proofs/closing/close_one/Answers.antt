use Rattle.std.proofs.Common.{◌≡◌, ◌||◌, Bool, MatchOption, refl, sym, ap, ◌∙◌, subst, arith}
use Rattle.rdf_types.specs.EntryLaws.{rises_le}
use Rattle.rdf_volume.specs.Views.{restart_of}
use Rattle.seated_lock.specs.declared.story.Story.{Story}
use Rattle.seated_lock.specs.Stories.{Begins}
use Rattle.seated_lock.specs.Passes.{Seeing}
use Rattle.volume_sessions.specs.Watching.{IsOwn}
use Rattle.volume_sessions.specs.Leaving.{HasCome}
use Rattle.volume_sessions.proofs.Ends.{IsClosed, has_come, at_end}
use Rattle.volume_sessions.proofs.closing.close_one.Goals as goal

pub returns-clause-left : goal.returns-clause-left
returns-clause-left g c =
    let b = c.args.pass.story in let now = c.close-volume.result in let place = c.args.place in
    let own = subst (λ o. MatchOption o ⊥ (IsOwn c.args.seat (restart_of place.last.value))) c.own_of-own.ensures c.requires.place.own in
    let whole : c.join-pass.result.story ≡ b = c.join-pass.ensures.writer.0 c.requires.pass.1 in
    let writes = ap (λ (p : Seeing). p.writes) c.join-pass.ensures.both ∙ ap (λ (x : Bool). x || c.args.ended.board_pass.writes) c.requires.pass.1 in
    let whole2 : c.join-pass-2.result.story ≡ b = c.join-pass-2.ensures.writer.0 writes ∙ whole in
    let story : c.join-vol_pass.result.story ≡ c.args.ended.vol_pass.story = c.join-vol_pass.ensures.writer.0 c.requires.ended.writes in
    let seen = c.join-vol_pass.ensures.seen.1 in
    let le = rises_le c.own_of-own.result.story.number seen.later c.join-vol_pass.result.story.number seen.rises in
    let stood = c.close-volume.ensures in
    let closed : IsClosed g.D.Disk.tells g.D.Disk.files g.D.Disk.counts place.vol c.args.board.now.first.start b c.args.seat.first place.last.value c.join-vol_pass.result.story now = record {
      sits = stood;
      begins = subst (λ (s : Story). Begins now.board.story s) whole2 c.join-pass-2.ensures.seen.1;
      rises = c.requires.rises;
      vol_is = c.requires.place.vol;
      rose = c.requires.place.rose;
      so_far = (let at = stood.1 in omega (arith, own.so_far, le, at));
    } in
    let begun = subst (λ (s : Story). Begins c.args.ended.board_pass.story s) whole c.join-pass.ensures.seen.1 in
    subst (λ a. HasCome g.D.Disk.tells g.D.Disk.files g.D.Disk.counts place.vol b.entries b.number place.last.value a now.volume) (sym c.answer_of-answer.ensures)
    (has_come g.D.Disk.tells g.D.Disk.files g.D.Disk.counts place.vol c.args.board.now.first.start b c.args.seat.first place.last.value c.join-vol_pass.result.story now closed c.in_use_stands.ensures now.failed c.args.ended.end refl
    (λ e. at_end c.args.ended.board_pass.story c.args.ended.vol_pass.story b (restart_of now.volume) (c.requires.ended.drained e) begun (stood.1 ∙ ap (λ (s : Story). s.number) story)))
