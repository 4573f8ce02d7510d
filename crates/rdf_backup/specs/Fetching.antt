-- What the lines that copy audit from another backup, and those that purge, are asked to do.
use Rattle.std.specs.Prelude.{◌≡◌, ◌-◌, ℕ, List, Result, map}
use Rattle.rdf_types.specs.declared.records.Node.{Node}
use Rattle.rdf_types.specs.declared.records.Stamped.{Stamped}
use Rattle.rdf_disk.specs.Files.{Disk}
use Rattle.rdf_disk.specs.declared.disk.Disk.{Ghosts}
use Rattle.plan_lang.specs.declared.lines.Line.TheVariants as line
use Rattle.open_txns.specs.Noted.{low_of}
use Rattle.image_disks.specs.Values.{received, merged, listed}
use Rattle.node_faults.specs.declared.NodeFault.{NodeFault}
use Rattle.rdf_volume.specs.Views.{restart_of}
use Rattle.rdf_core.specs.declared.replies.Reply.{Reply}
use Rattle.rdf_core.specs.Layouts.{least}
use Rattle.rdf_core.specs.Backup.{Around, points_in}
use Rattle.rdf_backup.specs.declared.backup.Backup.{Backup}
use Rattle.rdf_backup.specs.States.{layout_of, value_of, state_of, Serves}
use Rattle.rdf_backup.specs.Replies.{Ends}

-- how many positions more the other backup has received
abbrev pub received_more : {D : Type 0} {d : Ghosts D} → Backup D d → Backup D d → ℕ
received_more lead b = received (value_of lead) - received (value_of b)

-- the other backup's images at the positions that it has received more
abbrev pub images_more : {D : Type 0} {d : Ghosts D} → Backup D d → Backup D d → List Stamped
images_more lead b = listed (merged (value_of lead)) (received (value_of b)) (received_more lead b)

-- whatever the line of a copy has around it, as long as both backups serve the trail, it ends as a copy does
abbrev pub EndsCopy : {D : Type 0} {d : Ghosts D} → (D → Disk) → Backup D d → Result Reply NodeFault → Backup D d → Backup D d → Type 0
EndsCopy files lead result old new = (w : Around) (node from : Node) (stops : ℕ) → w.lead ≡ state_of stops lead → Serves files w.trail lead → Serves files w.trail old →
    Ends files w (line.CopyAudit node from) result old new

-- the same of a fetch of these images, which are those that the other backup has more
abbrev pub EndsFetch : {D : Type 0} {d : Ghosts D} → (D → Disk) → Backup D d → List Stamped → Result Reply NodeFault → Backup D d → Backup D d → Type 0
EndsFetch files lead images result old new = (w : Around) (node from : Node) (stops : ℕ) → w.lead ≡ state_of stops lead → Serves files w.trail lead → Serves files w.trail old →
    images ≡ images_more lead old → Ends files w (line.CopyAudit node from) result old new

-- the least of the restart points of the protected volumes and the low position
abbrev pub lowest_needed : {D : Type 0} {d : Ghosts D} → Backup D d → ℕ
lowest_needed b = least (layout_of b).protect (map (λ volume. restart_of volume) b.volumes.items) (low_of b.txns (received (value_of b)))

-- whatever the line of a purge has around it, as long as the points are those of its volumes and it serves the trail, it ends as a purge does
abbrev pub EndsPurge : {D : Type 0} {d : Ghosts D} → (D → Disk) → Result Reply NodeFault → Backup D d → Backup D d → Type 0
EndsPurge files result old new = (w : Around) (node : Node) → w.points ≡ points_in (layout_of old) w.trail (state_of 0 old).volumes → Serves files w.trail old →
    Ends files w (line.Purge node) result old new
