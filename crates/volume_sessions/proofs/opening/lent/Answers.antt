use Rattle.std.proofs.Common.{rules, ap, arith}
use Rattle.rdf_types.specs.EntryLaws.{rises_le}
use Rattle.seated_lock.specs.Passes.{Seeing}
use Rattle.volume_sessions.proofs.opening.lent.Goals as goal

pub returns-clause-given : goal.returns-clause-given
returns-clause-given g c =
    let begins = c.join.ensures.seen.0 in
    let le = rises_le c.split-one.result.story.number begins.later c.join.result.story.number begins.rises in
    let from = ap (λ (p : Seeing). p.story.number) c.split-one.ensures.given in
    (search rules, search rules, omega (arith, le, from))
