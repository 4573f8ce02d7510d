use Rattle.std.proofs.lemmas.Result.{IfOk-weaker, IfErr-weaker}
use Rattle.std.proofs.Common.{◌++◌, map}
use Rattle.audit_trail.specs.InUse.{trail_of, disk_of as trail_disk}
use Rattle.rdf_volume.specs.Views.{disk_of}
use Rattle.node_disks.specs.Opening.{IsNotWhole}
use Rattle.node_disks.specs.OpeningLaws.{each_where}
use Rattle.tmf_core.specs.Stores.{StandsWithin}
use Rattle.rdf_disk.specs.Outcomes.{Durably}
use Rattle.rdf_primary.specs.Opening.{IsJoined}
use Rattle.rdf_primary.specs.Restarting.{AreUp, AreDown}
use Rattle.rdf_primary.proofs.OpeningLaws.{reopened_up}
use Rattle.rdf_primary.proofs.restart.reopened.Goals as goal

pub open_rest-opening-requires-clause-ready : goal.open_rest-opening-requires-clause-ready
open_rest-opening-requires-clause-ready g c = each_where g.D.Disk.tells (λ v d. Durably (g.D.Disk.files d) (StandsWithin v (trail_of c.args.trail))) c.args.disks.items (λ tells. (c.requires.ready tells).stood)

pub returns : goal.returns
returns g c =
    let o = c.open_rest-opening.result in
    record {
      ok = IfOk-weaker c.joined.result (IsJoined g.D.Disk.tells g.D.Disk.files c.args.trail o) (AreUp g.D.Disk.tells g.D.Disk.files g.D.Disk.counts c.args.trail c.args.disks.items)
          (λ s h. reopened_up g.D.Disk.tells g.D.Disk.files c.args.trail o s h g.D.Disk.counts c.args.disks.items c.open_rest-opening.ensures.opens c.requires.ready) c.joined.ensures.ok;
      err = IfErr-weaker c.joined.result (IsNotWhole (trail_disk c.args.trail) (map (λ volume. disk_of volume) o.opened.items ++ o.left.items) o.fault) (AreDown g.D.Disk.tells g.D.Disk.files g.D.Disk.counts c.args.trail c.args.disks.items)
          (λ shut h. record { volumes = o.opened.items; left = o.left.items; why = o.fault; opened = c.open_rest-opening.ensures.opens; not = h }) c.joined.ensures.err;
    }
