use Rattle.std.proofs.Common.{sym, subst}
use Rattle.rdf_types.specs.Entries.{Rises}
use Rattle.seated_lock.specs.declared.story.Story.{Story}
use Rattle.volume_sessions.specs.Shown.{Key}
use Rattle.volume_sessions.proofs.Begun.{own_places, fresh_starts}
use Rattle.volume_sessions.proofs.running.run_opened.Goals as goal

pub close_back-volumes-requires-clause-places : goal.close_back-volumes-requires-clause-places
close_back-volumes-requires-clause-places g c = own_places g.D.Disk.tells g.D.Disk.files g.D.Disk.counts c.args.board.now.id c.args.pass c.args.lists.seats.items c.args.lists.places.items c.requires.places

pub close_back-volumes-requires-clause-starts : goal.close_back-volumes-requires-clause-starts
close_back-volumes-requires-clause-starts g c = fresh_starts c.args.board.now c.args.lists.seats.items c.args.lists.starts.items c.requires.starts

pub close_back-volumes-requires-in-Err-with_capacity-clause-places : goal.close_back-volumes-requires-in-Err-with_capacity-clause-places
close_back-volumes-requires-in-Err-with_capacity-clause-places g c = own_places g.D.Disk.tells g.D.Disk.files g.D.Disk.counts c.args.board.now.id c.args.pass c.args.lists.seats.items c.args.lists.places.items c.requires.places

pub close_back-volumes-requires-in-Err-with_capacity-clause-starts : goal.close_back-volumes-requires-in-Err-with_capacity-clause-starts
close_back-volumes-requires-in-Err-with_capacity-clause-starts g c = fresh_starts c.args.board.now c.args.lists.seats.items c.args.lists.starts.items c.requires.starts

pub close_all-requires-clause-rises : goal.close_all-requires-clause-rises
close_all-requires-clause-rises g c =
    let driven = c.drive_beside-ends.ensures.driven in let over = driven.over in
    subst (λ (s : Story). Rises c.args.board.now.first.start s.entries s.number) (sym over.story) (subst (λ (k : Key g.row.D.Denot). Rises k.board.first.start driven.closed.entries driven.closed.end) driven.same over.rises)
