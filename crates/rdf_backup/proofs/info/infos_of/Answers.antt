use Rattle.std.proofs.Common.{◌∙◌, ℕ, List, Bool, false, get_or, sym, ap}
use Rattle.rdf_backup.proofs.Infos.{infos_step, infos_end}
use Rattle.rdf_backup.proofs.info.infos_of.Goals as goal

pub loop-number-preserved : goal.loop-number-preserved
loop-number-preserved g c =
    let l = c.args.layout.now in
    c.loop-number.invariant
    ∙ infos_step l.trail_of l.protect c.args.volumes.now c.loop-number.number c.loop-number.infos.items c.push.new.self.items _ _ c.restart_point.result c.index-volumes-number.result
    (c.requires.many ∙ sym l.a_trail_each) (c.requires.many ∙ sym l.a_flag_each) c.loop-number-test.true
    (ap (λ (xs : List ℕ). get_or xs c.loop-number.number 0) c.numbers-trails.ensures) (ap (λ (xs : List Bool). get_or xs c.loop-number.number false) c.flags-flags.ensures) c.restart_point.ensures c.index-volumes-number.is c.in_ok-push.ensures.items

pub returns : goal.returns
returns g c =
    let l = c.args.layout.now in
    sym (c.loop-number.invariant ∙ infos_end l.trail_of l.protect c.args.volumes.now c.loop-number.number c.loop-number.infos.items (c.requires.many ∙ sym l.a_trail_each) c.loop-number-test.false)
