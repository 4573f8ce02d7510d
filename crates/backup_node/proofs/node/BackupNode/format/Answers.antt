use Rattle.std.proofs.Common.{None, sym, ap, subst, Some, ◌∙◌}
use Rattle.rdf_types.specs.declared.layout.Layout.{Layout}
use Rattle.rdf_core.specs.State.{blank_backup}
use Rattle.rdf_backup.specs.States.{disks_in}
use Rattle.node_disks.specs.PairLaws.{formatted_on}
use Rattle.node_faults.specs.Openings.{AreCaused}
use Rattle.backup_node.specs.Nodes.{IsLaid}
use Rattle.backup_node.proofs.node.BackupNode.format.Goals as goal

pub up-requires : goal.up-requires
up-requires g c = record {
  runs = record {
    runs = c.in-Ok.ensures.usable;
    sized = ap (λ (y : Layout). y.volumes) c.in-Ok.ensures.laid;
    on = formatted_on g.D.Disk.counts c.args.disks.items (disks_in c.in-Ok.backup) c.in-Ok.ensures.cause c.requires.on;
  };
}

pub returns-in-Ok : goal.returns-in-Ok
returns-in-Ok g c = record {
  at = λ tells trail legal. c.up.ensures.at c.args.layout.now trail (blank_backup c.args.layout.now)
      (record { laid = c.in-Ok.ensures.laid; state = sym c.in-Ok.ensures.state; serves = c.in-Ok.ensures.serves tells trail legal });
  serves = c.up.ensures.serves;
  sized = c.up.ensures.sized;
  named_so = c.up.ensures.named;
  phase = c.up.ensures.phase ∙ ap (λ p. Some p) c.in-Ok.ensures.phase;
  laid = subst (λ y. IsLaid y c.up.result) c.in-Ok.ensures.laid c.up.ensures.laid;
  cause = subst (λ ds. AreCaused g.D.Disk.counts None c.args.disks.items ds) (sym c.up.ensures.disks) c.in-Ok.ensures.cause;
}
