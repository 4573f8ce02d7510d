use Rattle.std.proofs.Common.{◌≤◌, ◌<◌, ◌∙◌, ℕ, Ok, Err, Result, sym, ap, ap₂, subst}
use Rattle.std.proofs.lemmas.Result.{err_from_is_err_and}
use Rattle.node_faults.specs.declared.NodeFault.{NodeFault}
use Rattle.image_disks.specs.Values.{received}
use Rattle.image_trails.specs.Memory.{shipment}
use Rattle.image_trails.specs.Trails.{trails_value}
use Rattle.receiver.specs.Receiving.{Takes}
use Rattle.plan_lang.specs.declared.lines.Line.TheVariants as line
use Rattle.rdf_backup.specs.Parts.{noted_since}
use Rattle.rdf_backup.specs.Replies.{EndsTrails}
use Rattle.rdf_backup.proofs.Delivering.{has_moved, unnoted_ends, unstored_ends, noted_goes}
use Rattle.rdf_backup.proofs.delivery.store.Goals as goal

pub returns-in_err-note_since-in-Ok-clause-ends : goal.returns-in_err-note_since-in-Ok-clause-ends
returns-in_err-note_since-in-Ok-clause-ends g c = λ tells old trails txns w node k running serves brings.
    let ship = c.args.ship.now in
    let p = err_from_is_err_and c.from_residual.result c.from_residual.ensures.1 in
    let took = subst (λ t. Takes g.D.Disk.tells g.D.Disk.files g.D.Disk.counts (shipment ship) t (Ok c.in-Ok.n) c.on_ship.new.trails) (sym trails) c.in-Ok.ensures in
    subst (λ (r : Result ℕ NodeFault). EndsTrails g.D.Disk.files w (line.Deliver node k) r old c.on_ship.new.trails c.note_since.new.txns) (sym p.1)
    (unnoted_ends g.D.Disk.files w node k old serves ship c.requires.spelled brings running (subst (λ t. ship.from ≤ received (trails_value t)) (sym trails) c.requires.joins)
    (subst (λ t. received (trails_value t) < ship.to) (sym trails) c.requires.more) tells g.D.Disk.counts c.in-Ok.n c.on_ship.new.trails took)

pub returns-in_ok-note_since-in-Ok-clause-ends : goal.returns-in_ok-note_since-in-Ok-clause-ends
returns-in_ok-note_since-in-Ok-clause-ends g c = λ tells old trails txns w node k running serves brings new trails_new txns_new volumes.
    let ship = c.args.ship.now in
    let took = subst (λ t. Takes g.D.Disk.tells g.D.Disk.files g.D.Disk.counts (shipment ship) t (Ok c.in-Ok.n) c.on_ship.new.trails) (sym trails) c.in-Ok.ensures in
    noted_goes g.D.Disk.files w node k old serves ship c.requires.spelled brings running (subst (λ t. ship.from ≤ received (trails_value t)) (sym trails) c.requires.joins)
    (subst (λ t. received (trails_value t) < ship.to) (sym trails) c.requires.more) tells g.D.Disk.counts c.in-Ok.n c.on_ship.new.trails took c.note_since.new.txns
    (c.in_ok-note_since-in-Ok.ensures ∙ ap₂ (λ at part. noted_since at c.args.txns.now part) (c.received-at.ensures ∙ ap (λ t. received (trails_value t)) (sym trails)) c.as_slice.ensures
    ∙ ap (λ x. noted_since (received (trails_value old.trails)) x ship.part) (sym txns))
    new trails_new txns_new volumes

pub returns-in-Err-Log-clause-ends : goal.returns-in-Err-Log-clause-ends
returns-in-Err-Log-clause-ends g c = λ tells old trails txns w node k running serves brings.
    let ship = c.args.ship.now in
    let took = subst (λ t. Takes g.D.Disk.tells g.D.Disk.files g.D.Disk.counts (shipment ship) t (Err c.in-Err-Log.field-0) c.on_ship.new.trails) (sym trails) c.in-Err-Log.ensures in
    unstored_ends g.D.Disk.files w node k old serves ship c.requires.spelled brings running (subst (λ t. ship.from ≤ received (trails_value t)) (sym trails) c.requires.joins)
    (subst (λ t. received (trails_value t) < ship.to) (sym trails) c.requires.more) tells g.D.Disk.counts c.one_value.ensures c.in-Err-Log.field-0 c.on_ship.new.trails took

pub returns-in_ok-note_since-in-Ok-clause-moved : goal.returns-in_ok-note_since-in-Ok-clause-moved
returns-in_ok-note_since-in-Ok-clause-moved g c = λ tells.
    has_moved g.row.D.Denot c.args.trails.now.memory.layout (shipment c.args.ship.now) (trails_value c.args.trails.now) (trails_value c.on_ship.new.trails) c.requires.more (c.in-Ok.ensures.value tells)
