-- Lines that take a node down, and a message that is not there.
use Rattle.std.proofs.Common.{◌≡◌, ℕ, not, Option, Some, None, refl, sym, ap, ◌∙◌}
use Rattle.std.specs.Prelude.{unwrap_or, map}
use Rattle.rdf_types.specs.declared.layout.Layout.{Layout}
use Rattle.rdf_types.specs.declared.records.Node.{Node}
use Rattle.rdf_types.specs.declared.records.Phase.{Phase}
use Rattle.rdf_disk.specs.Files.{Disk}
use Rattle.rdf_disk.specs.Counts.{Counts}
use Rattle.rdf_disk.specs.declared.disk.Disk.{Ghosts}
use Rattle.plan_lang.specs.declared.lines.Line.TheVariants as line
use Rattle.rdf_core.specs.declared.replies.NoWhy.{NoWhy}
use Rattle.rdf_core.specs.declared.replies.NoWhy.TheVariants as no
use Rattle.rdf_core.specs.declared.replies.Reply.TheVariants.{Done}
use Rattle.rdf_core.specs.Effects.{when}
use Rattle.rdf_core.specs.Backup.{Backup as State, Around, backup_refusal, deliver_refusal}
use Rattle.rdf_backup.specs.declared.backup.Backup.{Backup}
use Rattle.rdf_volume.specs.Views.{restart_of}
use Rattle.rdf_backup.specs.States.{state_of, value_of, disks_in}
use Rattle.rdf_backup.specs.Replies.{not_running}
use Rattle.rdf_backup.specs.Standing.{BackupStandsFor}
use Rattle.rdf_backup.specs.Restarting.{AreAtZero}
use Rattle.node_disks.specs.Cuts.{AreCut}
use Rattle.backup_node.specs.declared.node.BackupNode.{BackupNode}
use Rattle.backup_node.specs.Nodes.{IsAt, IsUpAt}
use Rattle.backup_node.specs.Lines.{Follows, Breaks}
use Rattle.backup_node.proofs.LineLaws.{missed}
use Rattle.backup_node.proofs.StandLaws.{cut_keeps}
use Rattle.backup_node.proofs.NodeLaws.{up_at, up_stands, up_zero, is_up, done_follows, gone_at, breaks_first}

module _ {D : Type 0} {d : Ghosts D} (files : D → Disk) (layout : Layout) (w : Around) (b : State) (rise : ℕ) (old new : BackupNode D d) (at : IsAt files layout w.trail b old) where
  -- the backup goes down
  module _ (p : Backup D d) (was : old.backup ≡ Some p) (is : new.backup ≡ None) (tells : Type 0) (counts : D → Counts) (they : tells) (cut : AreCut tells files counts (disks_in p) new.disks.items) where
    u : IsUpAt files layout w.trail b p
    u = up_at files layout w.trail b old p was at

    stood : BackupStandsFor files layout w.trail b new.disks.items
    stood = cut_keeps tells files counts they layout w.trail b (disks_in p) new.disks.items cut (up_stands files layout w.trail b p u)

    zeros : AreAtZero layout b.volumes
    zeros = up_zero files layout w.trail b p u

    pub cut_done : Follows files layout w old.name b (line.Cut old.name) rise Done new
    cut_done = done_follows files layout w old.name b (line.Cut old.name) rise Done new (ap (λ x. when (not x) no.Down) (is_up files layout w.trail b p u)) refl (gone_at files layout w.trail b new is stood zeros b.stops) refl

    -- by want of memory, in a line that uses no disk
    pub info_breaks : Breaks files layout w b (line.Info old.name) new
    info_breaks = breaks_first files layout w old.name b (line.Info old.name) new is stood zeros refl

-- a backup that is up does not find a message that is not there
pub miss_refused : {D : Type 0} {d : Ghosts D} (files : D → Disk) (layout : Layout) (w : Around) (b : State) (p : Backup D d) (name : Node) (k : ℕ) → IsUpAt files layout w.trail b p → w.message ≡ None → (ph : Phase) → ph ≡ (value_of p).phase →
    (why : NoWhy) → why ≡ unwrap_or (not_running ph) no.Message → backup_refusal layout w b (line.Deliver name k) ≡ Some why
miss_refused files layout w b p name k u none ph is why says =
    ap (λ (s : State). deliver_refusal s w.message) u.state
    ∙ ap (λ (m : Option (ℕ × ℕ)). deliver_refusal (state_of b.stops p) m) none
    ∙ missed (value_of p).phase (map (λ volume. restart_of volume) p.volumes.items) (state_of b.stops p).received
    ∙ ap (λ (x : Phase). Some (unwrap_or (not_running x) no.Message)) (sym is)
    ∙ ap (λ (x : NoWhy). Some x) (sym says)
