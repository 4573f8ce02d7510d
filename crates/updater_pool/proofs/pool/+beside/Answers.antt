use Rattle.std.proofs.Common.{rules, IfSome, subst, sym}
use Rattle.std.proofs.lemmas.List.Elements.{All-pop}
use Rattle.updater_pool.proofs.Zips.{zip_popped, refused_is}
use Rattle.updater_pool.proofs.pool.+beside.Goals as goal

pub returns-in-Ok-clause-outs : goal.returns-in-Ok-clause-outs
returns-in-Ok-clause-outs g t c =
    zip_popped g.W.Worker.works _ _ _ c.in-Some.worker _ _ _ c.pop.ensures.items c.in-Some.is c.beside-outs.ensures.outs (search rules) c.push_reserved.ensures.items

pub returns-in-Err-clause-outs : goal.returns-in-Err-clause-outs
returns-in-Err-clause-outs g t c =
    zip_popped g.W.Worker.works _ _ _ c.in-Some.worker _ _ _ c.pop.ensures.items c.in-Some.is c.beside-outs-in-Err.ensures.outs (search rules) c.push_reserved-in-Err.ensures.items

pub beside-outs-requires-in-Err-clause-workers : goal.beside-outs-requires-in-Err-clause-workers
beside-outs-requires-in-Err-clause-workers g t c κs within = (All-pop g.W.Worker.ready _ _ _ c.pop.ensures.items c.requires.workers).0

pub run-requires : goal.run-requires
run-requires g t c κs within =
    let all = All-pop g.W.Worker.ready _ _ _ c.pop.ensures.items c.requires.workers in
    let own = subst (λ r. IfSome r g.W.Worker.ready) c.in-Some.is all.1 in
    let told = refused_is _ _ c.in-Err.refused c.spawn_scoped_with.ensures.err c.in-Err.is in
    (search rules, (search rules, subst g.W.Worker.ready (sym told) own))
