-- What a read in a session, and the end of one, leave of a backup.
use Rattle.std.specs.Prelude.{◌≡◌, ℕ, zero, suc, Bool, false, List, length}
use Rattle.rdf_types.specs.declared.layout.Layout.{Layout}
use Rattle.rdf_types.specs.declared.records.RecKey.{RecKey}
use Rattle.rdf_types.specs.declared.records.Record.{Record}
use Rattle.rdf_disk.specs.Files.{Disk, Contents}
use Rattle.rdf_disk.specs.declared.disk.Disk.{Ghosts}
use Rattle.image_disks.specs.Values.{received}
use Rattle.rdf_core.specs.declared.replies.Reply.{Reply}
use Rattle.rdf_core.specs.Backup.{Backup as State}
use Rattle.rdf_core.specs.Layouts.{protects, points_at}
use Rattle.rdf_core.specs.Lines.{with_points}
use Rattle.rdf_core.specs.Rising.{HasRisen, read_answer}
use Rattle.rdf_backup.specs.declared.backup.Backup.{Backup}
use Rattle.rdf_backup.specs.Standing.{MayBe, ContentsStandFor}
use Rattle.rdf_backup.specs.States.{layout_of, value_of, state_of, Serves, Stands}

-- whatever stops leave of the disks stands for the backup, with its volumes risen
pub record SomeRisen {D : Type 0} (files : D → Disk) (layout : Layout) (trail : List Record) (b : State) (disks : List D) : Type 0 where
  pub count : length disks ≡ suc layout.volumes
  pub some : (held : ℕ → Contents) → MayBe files disks held → (new : State) × (HasRisen layout b new × ContentsStandFor layout trail new held)

-- a row was read of the backup, whose volumes had risen by then
pub record HasRead {D : Type 0} {d : Ghosts D} (files : D → Disk) (trail : List Record) (key : RecKey) (reply : Reply) (old new : Backup D d) : Type 0 where
  pub rise : (stops : ℕ) → HasRisen (layout_of old) (state_of stops old) (state_of stops new)
  pub says : reply ≡ read_answer (layout_of old) trail (state_of 0 new) key
  pub laid : layout_of new ≡ layout_of old
  pub serves : Serves files trail new
  pub stands : Stands files trail new

-- each protected volume shows all that was received
pub record HasCaughtUp {D : Type 0} {d : Ghosts D} (files : D → Disk) (trail : List Record) (old new : Backup D d) : Type 0 where
  pub state : (stops : ℕ) → state_of stops new ≡ with_points (state_of stops old) (points_at (layout_of old) (received (value_of old)))
  pub laid : layout_of new ≡ layout_of old
  pub serves : Serves files trail new
  pub stands : Stands files trail new

-- the disk of that number is of a protected volume
abbrev pub is_of_protected : Layout → ℕ → Bool
is_of_protected layout zero = false
is_of_protected layout (suc v) = protects layout v
