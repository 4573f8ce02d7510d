-- Copies of audit from another node.
use Rattle.std.proofs.Common.{◌≡◌, Some, None}
use Rattle.rdf_types.specs.declared.layout.Layout.{Layout}
use Rattle.rdf_types.specs.declared.records.Node.{Node}
use Rattle.rdf_disk.specs.Files.{Disk}
use Rattle.rdf_disk.specs.declared.disk.Disk.{Ghosts}
use Rattle.plan_lang.specs.declared.lines.Line.TheVariants as line
use Rattle.rdf_core.specs.declared.replies.NoWhy.TheVariants as no
use Rattle.rdf_core.specs.Backup.{Backup as State, Around, backup_refusal}
use Rattle.rdf_backup.specs.declared.backup.Backup.{Backup}
use Rattle.backup_node.specs.declared.node.BackupNode.{BackupNode}
use Rattle.backup_node.specs.Nodes.{IsUpAt}
use Rattle.backup_node.specs.Lines.{FromLead}
use Rattle.backup_node.proofs.LineLaws.{lead_off}
use Rattle.backup_node.proofs.NodeLaws.{is_up, off_at, up_at}

module _ {D : Type 0} {d : Ghosts D} (files : D → Disk) (layout : Layout) (w : Around) (lead : BackupNode D d) (from : FromLead files lead layout w) where
  -- the other node is down
  pub lead_down : lead.backup ≡ None → (b : State) (p : Backup D d) (name node : Node) → IsUpAt files layout w.trail b p → backup_refusal layout w b (line.CopyAudit name node) ≡ Some no.Down
  lead_down none b p name node u = lead_off layout w b name node (is_up files layout w.trail b p u) (off_at files layout w.trail w.lead lead none from).down

  -- it is up
  pub lead_up : (q : Backup D d) → lead.backup ≡ Some q → IsUpAt files layout w.trail w.lead q
  lead_up q here = up_at files layout w.trail w.lead lead q here from
