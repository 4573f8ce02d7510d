-- A session of a backup's node begins or is refused.
use Rattle.std.proofs.Common.{◌≡◌, ◌≢◌, ℕ, List, ◌∷◌, [], Some, None, refl, sym, ap, ◌∙◌}
use Rattle.std.specs.Prelude.{map}
use Rattle.rdf_types.specs.declared.layout.Layout.{Layout}
use Rattle.rdf_types.specs.declared.records.Node.{Node}
use Rattle.rdf_types.specs.declared.records.Phase.{Phase}
use Rattle.rdf_types.specs.declared.records.Phase.TheVariants as phase
use Rattle.rdf_disk.specs.Files.{Disk}
use Rattle.rdf_disk.specs.declared.disk.Disk.{Ghosts}
use Rattle.plan_lang.specs.declared.lines.Line.TheVariants as line
use Rattle.image_disks.specs.Values.{received}
use Rattle.rdf_volume.specs.Views.{restart_of}
use Rattle.rdf_core.specs.declared.replies.NoWhy.TheVariants as no
use Rattle.rdf_core.specs.declared.replies.Reply.{Reply}
use Rattle.rdf_core.specs.declared.replies.Reply.TheVariants.{Number, Stopped}
use Rattle.rdf_core.specs.Effects.{when, first}
use Rattle.rdf_core.specs.Backup.{Backup as State, Around, backup_refusal, needs_running, is_taking, is_taken}
use Rattle.rdf_backup.specs.declared.backup.Backup.{Backup}
use Rattle.rdf_backup.specs.States.{value_of, volumes_by}
use Rattle.rdf_backup.specs.Replies.{not_running}
use Rattle.backup_node.specs.declared.node.BackupNode.{BackupNode}
use Rattle.backup_node.specs.Nodes.{IsAt, IsUpAt}
use Rattle.backup_node.specs.Lines.{Follows, begun}
use Rattle.backup_node.proofs.NodeLaws.{up_at, refused_follows, done_follows}

pub begun_plain : (ph : Phase) (n : ℕ) (name : Node) → begun ph n ≢ Stopped name
begun_plain phase.Running n name e = cc
begun_plain phase.Taking n name e = cc
begun_plain (phase.Taken upto) n name e = cc

-- a backup that is up refuses what only one that runs does
pub unrunning : (ph : Phase) (points : List ℕ) → first (None ∷ when (is_taking (volumes_by ph points)) no.Taking ∷ when (is_taken (volumes_by ph points)) no.Taken ∷ []) ≡ not_running ph
unrunning phase.Running points = refl
unrunning phase.Taking points = refl
unrunning (phase.Taken upto) points = refl

module _ {D : Type 0} {d : Ghosts D} (files : D → Disk) (layout : Layout) (w : Around) (b : State) (rise : ℕ) (n : BackupNode D d) (at : IsAt files layout w.trail b n) where
  -- the backup is up, of that phase, and has received so far
  pub session_up : (p : Backup D d) → n.backup ≡ Some p → (ph : Phase) (r : ℕ) → ph ≡ (value_of p).phase → r ≡ received (value_of p) → Follows files layout w n.name b (line.Session n.name) rise (begun ph r) n
  session_up p here ph r ph_is r_is = by ph (refused ∙ ap not_running (sym ph_is))
    where
      u : IsUpAt files layout w.trail b p
      u = up_at files layout w.trail b n p here at

      refused : backup_refusal layout w b (line.Session n.name) ≡ not_running (value_of p).phase
      refused = ap (λ (s : State). needs_running s) u.state ∙ unrunning (value_of p).phase (map (λ volume. restart_of volume) p.volumes.items)

      by : (x : Phase) → backup_refusal layout w b (line.Session n.name) ≡ not_running x → Follows files layout w n.name b (line.Session n.name) rise (begun x r) n
      by phase.Running e = done_follows files layout w n.name b (line.Session n.name) rise (Number r) n e (ap (λ (m : ℕ). let reply : Reply = Number m in reply) (r_is ∙ sym (ap (λ (s : State). s.received) u.state))) at refl
      by phase.Taking e = refused_follows files layout w n.name b (line.Session n.name) rise no.Taking n e at
      by (phase.Taken upto) e = refused_follows files layout w n.name b (line.Session n.name) rise no.Taken n e at
