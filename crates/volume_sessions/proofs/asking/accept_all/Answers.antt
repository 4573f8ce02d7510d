use Rattle.std.proofs.Common.{◌≡◌, ◌+◌, suc, List, set, get_or, refl, ap, ◌∙◌, subst, arith}
use Rattle.volume_sessions.specs.declared.watch.Place.{Place}
use Rattle.volume_sessions.specs.Watching.{accepted}
use Rattle.volume_sessions.proofs.Noted.{done, done_next, done_all}
use Rattle.volume_sessions.proofs.asking.accept_all.Goals as goal

pub loop-at-init : goal.loop-at-init
loop-at-init g c = refl

pub loop-at-preserved : goal.loop-at-preserved
loop-at-preserved g c =
    let first = c.args.places.now.items in let at = c.loop-at.at in let inv = c.loop-at.invariant in let old = c.index_mut.result.now in let new = c.accept.new.place in
    let is : old ≡ get_or (done accepted at first) at old = subst (λ (l : List (Place g.row.D.Denot)). old ≡ get_or l at old) inv c.index_mut.ensures.value in
    let next = ap (λ (l : List (Place g.row.D.Denot)). set l at new) inv ∙ done_next accepted at first new old (omega (arith, c.loop-at-test.true, c.len-at-end.ensures)) is c.accept.ensures in
    let one : suc at ≡ at + 1 = omega arith in
    subst (λ n. set c.loop-at.places.items at new ≡ done accepted n first) one next

pub returns : goal.returns
returns g c =
    let first = c.args.places.now.items in
    c.loop-at.invariant ∙ done_all accepted c.loop-at.at first (omega (arith, c.loop-at-test.false, c.loop-at.auto.at-end, c.len-at-end.ensures))
