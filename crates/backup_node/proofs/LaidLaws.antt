-- The layout of a node that is up.
use Rattle.std.proofs.Common.{◌≡◌, Option, Some, None, Result, Ok, Err, sym, ◌∙◌, subst}
use Rattle.std.specs.Prelude.{MatchOption}
use Rattle.rdf_types.specs.declared.layout.Layout.{Layout}
use Rattle.rdf_disk.specs.Files.{Disk}
use Rattle.rdf_disk.specs.Counts.{Counts}
use Rattle.rdf_disk.specs.declared.disk.Disk.{Ghosts}
use Rattle.node_faults.specs.declared.NodeFault.{NodeFault}
use Rattle.rdf_core.specs.declared.replies.Reply.{Reply}
use Rattle.rdf_backup.specs.declared.backup.Backup.{Backup}
use Rattle.rdf_backup.specs.States.{layout_of}
use Rattle.backup_node.specs.declared.node.BackupNode.{BackupNode}
use Rattle.backup_node.specs.Nodes.{IsLaid}
use Rattle.backup_node.specs.Lines.{Settles}

module _ {D : Type 0} {d : Ghosts D} (layout : Layout) (n : BackupNode D d) where
  abbrev By : Option (Backup D d) → Type 0
  By o = MatchOption o (Unit {0}) (λ b. layout_of b ≡ layout)

  pub laid_up : (p : Backup D d) → n.backup ≡ Some p → layout_of p ≡ layout → IsLaid layout n
  laid_up p e h = subst (λ (o : Option (Backup D d)). By o) (sym e) h

  pub laid_off : n.backup ≡ None → IsLaid layout n
  laid_off e = subst (λ (o : Option (Backup D d)). By o) (sym e) tt

  pub laid_of : (p : Backup D d) → n.backup ≡ Some p → IsLaid layout n → layout_of p ≡ layout
  laid_of p e h = subst (λ (o : Option (Backup D d)). By o) e h

-- a line on a backup that was up
module _ {D : Type 0} {d : Ghosts D} (tells : Type 0) (files : D → Disk) (counts : D → Counts) (o n : BackupNode D d) (old new : Backup D d) where
  pub settled_laid : (r x : Result Reply NodeFault) → Settles tells files counts o.name new r x n → layout_of new ≡ layout_of old → (layout : Layout) → IsLaid layout (record o { backup = Some old }) → IsLaid layout n
  settled_laid (Ok reply) x s same layout h = laid_up layout n new s.1 (same ∙ h)
  settled_laid (Err why) x s same layout h = laid_off layout n s.1

-- two nodes of one layout
pub laid_alike : {D : Type 0} {d : Ghosts D} (layout : Layout) (lag lead : BackupNode D d) (p : Backup D d) → lag.backup ≡ Some p → IsLaid layout lag → IsLaid layout lead → IsLaid (layout_of p) lead
laid_alike layout lag lead p e h k = subst (λ y. IsLaid y lead) (sym (laid_of layout lag p e h)) k
