use Rattle.std.proofs.Common.{rules, ◌≡◌, refl, arith}
use Rattle.std.proofs.lemmas.Slice.Zip.{AllZip-long}
use Rattle.volume_sessions.specs.Workers.{MayUpdate}
use Rattle.volume_sessions.specs.Opening.{MayStart}
use Rattle.updater_pool.specs.ZipLaws.{zip_behind}
use Rattle.volume_sessions.proofs.Zips.{zip_taken, all_behind}
use Rattle.volume_sessions.proofs.running.+updaters_of.Goals as goal

pub unreachable-requires : goal.unreachable-requires
unreachable-requires g t c =
    let few = c.in-Some.ensures.cases.1 in
    omega (arith, AllZip-long (MayStart c.args.board.now) c.args.seats.now c.args.starts.items c.requires.starts, few, c.in-None-pop.ensures.cases)

pub updaters_of-all-requires : goal.updaters_of-all-requires
updaters_of-all-requires g t c κs within =
    let starts = zip_taken (MayStart c.args.board.now) _ _ _ _ c.in-Some.parts.0.now c.in-Some-pop.start c.in-Some.ensures.cases.0 c.in-Some-pop.ensures.items c.requires.starts in
    (search rules, (search rules, (search rules, (search rules, (starts.0, search rules)))))

pub returns-clause-made : goal.returns-clause-made
returns-clause-made g t c =
    zip_behind (λ seat w. (w.seat.now ≡ seat) × (w.board.now.id ≡ c.args.board.now.id)) _ c.in-Some.parts.1.now _ c.updaters_of-all.result.items c.in-Some.parts.0.now _ c.in-Some.ensures.cases.0 c.push_reserved.ensures.items c.updaters_of-all.ensures.made (refl, refl)

pub returns-clause-ready : goal.returns-clause-ready
returns-clause-ready g t c =
    let starts = zip_taken (MayStart c.args.board.now) _ _ _ _ c.in-Some.parts.0.now c.in-Some-pop.start c.in-Some.ensures.cases.0 c.in-Some-pop.ensures.items c.requires.starts in
    all_behind (λ w. MayUpdate w.board.now w.seat.now w.vol w.place w.board_pass w.vol_pass) _ c.updaters_of-all.result.items _ c.push_reserved.ensures.items c.updaters_of-all.ensures.ready starts.1.0
