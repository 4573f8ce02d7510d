-- How the volumes of an open session rise, and what a read of it answers.
use Rattle.std.specs.Prelude.{◌≡◌, ℕ, ◌≤◌, true, false, nat_lt, if◌then◌else◌, List, length, take, IsTrue}
use Rattle.rdf_types.specs.declared.layout.Layout.{Layout}
use Rattle.rdf_types.specs.declared.records.RecKey.{RecKey}
use Rattle.rdf_types.specs.declared.records.Record.{Record}
use Rattle.rdf_model.specs.Contents.{nothing}
use Rattle.rdf_model.specs.Trail.{raw}
use Rattle.by_node.specs.Each.{at}
use Rattle.rdf_core.specs.declared.replies.NoWhy.TheVariants as no
use Rattle.rdf_core.specs.declared.replies.Reply.{Reply}
use Rattle.rdf_core.specs.declared.replies.Reply.TheVariants.{No}
use Rattle.rdf_core.specs.Layouts.{protects, point_of}
use Rattle.rdf_core.specs.Backup.{Backup, Running, points_in, read_reply, with_volumes}
use Rattle.rdf_core.specs.Sessions.{Open, Opened, has_halted, is_backup_node}
use Rattle.rdf_core.specs.State.{State, with_backup}
use Rattle.rdf_core.specs.Run.{Drifts}

-- each protected volume has risen, to at most what was received, and the others stay
pub record HaveRisenTo (layout : Layout) (received : ℕ) (old new : List ℕ) : Type 0 where
  pub many : length new ≡ length old
  pub rise : (v : ℕ) → IsTrue (protects layout v) → (point_of old v ≤ point_of new v) × (point_of new v ≤ received)
  pub stay : (v : ℕ) → protects layout v ≡ false → point_of new v ≡ point_of old v

-- what updaters may make of a backup: its volumes have risen
pub record HasRisen (layout : Layout) (b new : Backup) : Type 0 where
  pub points : List ℕ
  pub now_points : List ℕ
  pub was : b.volumes ≡ Running points
  pub rise : HaveRisenTo layout b.received points now_points
  pub is : new ≡ with_volumes b (Running now_points)

-- what a read answers of a backup that runs
abbrev pub read_answer : Layout → List Record → Backup → RecKey → Reply
read_answer layout trail b key =
    if nat_lt key.vol layout.volumes
    then (let p = point_of (points_in layout trail b.volumes) key.vol in read_reply p (raw nothing (take p trail) key))
    else No no.Volume

-- in an open session, where no volume's disk has stopped, all volumes may rise so between two lines
abbrev pub VolumesRise : Type 0
VolumesRise = (layout : Layout) (s : State) (o : Opened) (new : Backup) → s.session ≡ Open o → is_backup_node o.node ≡ true → ((v : ℕ) → has_halted o v ≡ false) →
    HasRisen layout (at s.backups o.node) new → Drifts layout s (with_backup s o.node new)
