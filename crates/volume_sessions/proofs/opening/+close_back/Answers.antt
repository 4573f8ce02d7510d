use Rattle.std.proofs.Common.{rules, arith}
use Rattle.std.proofs.lemmas.Slice.Zip.{AllZip-long}
use Rattle.volume_sessions.specs.Rising.{IsAsGiven}
use Rattle.volume_sessions.specs.Opening.{HasOwn, IsFresh, put_in}
use Rattle.updater_pool.specs.ZipLaws.{zip_behind}
use Rattle.volume_sessions.proofs.Zips.{zip_taken}
use Rattle.volume_sessions.proofs.opening.+close_back.Goals as goal

pub unreachable-requires : goal.unreachable-requires
unreachable-requires g t c =
    omega (arith, AllZip-long HasOwn c.args.lists.seats.items c.args.lists.places.items c.requires.places, c.in-Some.ensures.cases, c.in-None-pop.ensures.cases)

pub unreachable-requires-in-None-pop-2 : goal.unreachable-requires-in-None-pop-2
unreachable-requires-in-None-pop-2 g t c =
    omega (arith, AllZip-long IsFresh c.args.lists.seats.items c.args.lists.starts.items c.requires.starts, c.in-Some.ensures.cases, c.in-None-pop-2.ensures.cases)

pub close_back-back-requires : goal.close_back-back-requires
close_back-back-requires g t c κs within =
    let places = zip_taken HasOwn _ _ _ _ c.in-Some.seat c.in-Some-pop.place c.in-Some.ensures.items c.in-Some-pop.ensures.items c.requires.places in
    let starts = zip_taken IsFresh _ _ _ _ c.in-Some.seat c.in-Some-pop-2.start c.in-Some.ensures.items c.in-Some-pop-2.ensures.items c.requires.starts in
    (search rules, (search rules, (search rules, (places.0, (starts.0, search rules)))))

pub undo_one-requires-clause-place : goal.undo_one-requires-clause-place
undo_one-requires-clause-place g t c =
    let places = zip_taken HasOwn _ _ _ _ c.in-Some.seat c.in-Some-pop.place c.in-Some.ensures.items c.in-Some-pop.ensures.items c.requires.places in
    places.1

pub undo_one-requires-clause-start : goal.undo_one-requires-clause-start
undo_one-requires-clause-start g t c =
    let starts = zip_taken IsFresh _ _ _ _ c.in-Some.seat c.in-Some-pop-2.start c.in-Some.ensures.items c.in-Some-pop-2.ensures.items c.requires.starts in
    starts.1

pub returns-clause-back : goal.returns-clause-back
returns-clause-back g t c =
    zip_behind (λ seat back. IsAsGiven g.D.Disk.tells g.D.Disk.files g.D.Disk.counts (put_in seat) back) _ c.pop.new.self.items _ c.close_back-back.result.items c.in-Some.seat c.undo_one.result c.in-Some.ensures.items c.push_reserved.ensures.items c.close_back-back.ensures.back c.undo_one.ensures
