-- The nodes: how many disks each has.
use Rattle.std.proofs.Common.{◌≡◌, suc, true, false, List, [], ◌++◌, length, Option, Some, None, ap, ◌∙◌}
use Rattle.std.specs.Prelude.{MatchOption}
use Rattle.std.proofs.lemmas.List.{length-map}
use Rattle.rdf_types.specs.declared.records.Node.{Node}
use Rattle.rdf_disk.specs.Files.{Disk}
use Rattle.rdf_disk.specs.Counts.{Counts}
use Rattle.rdf_disk.specs.declared.disk.Disk.{Ghosts}
use Rattle.rdf_core.specs.RowLaws.{of_backup}
use Rattle.rdf_core.specs.Sessions.{is_backup_node}
use Rattle.rdf_volume.specs.Views.{disk_of}
use Rattle.rdf_primary.specs.declared.primary.Primary.{Primary}
use Rattle.rdf_backup.specs.declared.backup.Backup.{Backup}
use Rattle.primary_node.specs.declared.node.PrimaryNode.{PrimaryNode}
use Rattle.primary_node.specs.Nodes.{disks_at, disks_among, HasLayout, MayRest, MayRun, MayServe}
use Rattle.backup_node.specs.declared.node.BackupNode.{BackupNode}
use Rattle.backup_node.specs.Nodes as backup
use Rattle.rdf_system.specs.declared.system.System.{System}
use Rattle.rdf_system.specs.OnNodes.{site_at}
use Rattle.rdf_system.specs.States.{disks_of_node, site_disks}

module _ {D : Type 0} {d : Ghosts D} (tells : Type 0) (files : D → Disk) (counts : D → Counts) where
  -- the primary's has one for audit, and one for each volume
  pub node_many : (n : PrimaryNode D d) → MayServe tells files counts n → length (disks_at n) ≡ suc n.volumes
  node_many n serves = go n.primary serves
    where
      go : (o : Option (Primary D d)) → MatchOption o (MayRest tells files counts n.volumes n.disks.items) (λ p. MayRun tells files counts n.volumes p × (n.lost ≡ false) × HasLayout n.volumes) → length (disks_among o n.disks.items) ≡ suc n.volumes
      go None h = h.many
      go (Some p) h = ap suc (length-map p.tmf.store.volumes.items (λ volume. disk_of volume) ∙ h.0.sized)

  -- a backup's has one for image trails, and one for each volume
  pub backup_many : (n : BackupNode D d) → backup.MayServe tells files counts n → length (backup.disks_at n) ≡ suc n.volumes
  backup_many n serves = go n.backup serves
    where
      go : (o : Option (Backup D d)) → MatchOption o (backup.MayRest counts n.volumes n.disks.items) (λ b. backup.MayRun tells files counts n.volumes b) → length (backup.disks_among o n.disks.items) ≡ suc n.volumes
      go None h = h.many
      go (Some b) h = ap suc (length-map b.volumes.items (λ volume. disk_of volume) ∙ b.sized ∙ h.sized)

-- the disks of a backup's place are those of its site
pub disks_there : {D : Type 0} {d : Ghosts D} (sys : System D d) (node : Node) → is_backup_node node ≡ true → disks_of_node sys node ≡ site_disks (site_at sys node)
disks_there {D} sys node e = ap (λ (xs : List D). xs ++ site_disks (site_at sys node)) (of_backup node (disks_at sys.primary) [] e)
