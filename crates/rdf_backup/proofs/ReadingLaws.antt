-- What a read of a session answers and leaves.
use Rattle.std.proofs.Common.{◌≡◌, ℕ, ◌<◌, ◌≤◌, Bool, false, if◌then◌else◌, List, take, Some, Result, Err, refl, sym, ap, ◌∙◌, subst}
use Rattle.std.proofs.lemmas.Bool.{lt-ltb, le-ltb}
use Rattle.std.specs.Prelude.{slice_get}
use Rattle.rdf_types.specs.declared.records.Phase.TheVariants as phase
use Rattle.rdf_types.specs.declared.records.RecKey.{RecKey}
use Rattle.rdf_types.specs.declared.records.Record.{Record}
use Rattle.rdf_disk.specs.Files.{Disk}
use Rattle.rdf_disk.specs.declared.disk.Disk.{Ghosts}
use Rattle.rdf_gatelog.specs.declared.fault.LogFault.{LogFault}
use Rattle.rdf_gatelog.specs.declared.fault.LogFault.TheVariants as log
use Rattle.rdf_gatelog.specs.LogCauses.{NotDamaged}
use Rattle.rdf_model.specs.Contents.{nothing}
use Rattle.rdf_model.specs.Trail.{raw}
use Rattle.rdf_volume.specs.declared.volume.Volume.{Volume}
use Rattle.rdf_volume.specs.Views.{rows_of, restart_of}
use Rattle.rdf_core.specs.declared.replies.NoWhy.TheVariants as no
use Rattle.rdf_core.specs.declared.replies.Reply.{Reply}
use Rattle.rdf_core.specs.declared.replies.Reply.TheVariants.{No, Absent}
use Rattle.rdf_core.specs.Layouts.{protects, point_of}
use Rattle.rdf_core.specs.Backup.{read_reply}
use Rattle.rdf_core.specs.Rising.{read_answer}
use Rattle.rdf_backup.specs.declared.backup.Backup.{Backup}
use Rattle.rdf_backup.specs.States.{layout_of, value_of, Serves}
use Rattle.rdf_backup.specs.Standing.{IsShownIf}
use Rattle.rdf_backup.specs.Rising.{HasRead}
use Rattle.rdf_backup.proofs.Looking.{point_is}
use Rattle.rdf_backup.proofs.RisingStates.{points_by, at_points, shown_at, none_risen, has_read}
use Rattle.node_disks.specs.CutLaws.{there_is}

err_is : {U : Type 0} (f g : LogFault) → ◌≡◌ {A = Result U LogFault} (Err f) (Err g) → f ≡ g
err_is f g e = cc

-- a fault is the same for any answer
pub other_answer : {T U : Type 0} (f : LogFault) → NotDamaged {T = T} (Err f) → NotDamaged {T = U} (Err f)
other_answer {T = T} f h file at e = h file at (ap (λ (x : LogFault). let r : Result T LogFault = Err x in r) (err_is f (log.Damaged file at) e))

module _ {D : Type 0} {d : Ghosts D} (files : D → Disk) (trail : List Record) (old : Backup D d) (runs : (value_of old).phase ≡ phase.Running) (serves : Serves files trail old) (key : RecKey) where
  abbrev answer : List ℕ → Reply
  answer points = read_answer (layout_of old) trail (at_points files trail old runs serves 0 points) key

  abbrev old_points : List ℕ
  old_points = points_by files trail old runs serves old.volumes.items

  still_read : (reply : Reply) → reply ≡ answer old_points → HasRead files trail key reply old old
  still_read reply says = has_read files trail old runs serves old refl refl 0 (none_risen files trail old runs serves) key reply serves.usable.volume says

  -- there is no such volume
  pub no_volume : (layout_of old).volumes ≤ key.vol → HasRead files trail key (No no.Volume) old old
  no_volume far = still_read (No no.Volume)
      (sym (ap (λ (c : Bool). let p = point_of old_points key.vol in if c then read_reply p (raw nothing (take p trail) key) else No no.Volume) (le-ltb key.vol (layout_of old).volumes far)))

  answer_there : (points : List ℕ) (p : ℕ) → key.vol < (layout_of old).volumes → point_of points key.vol ≡ p → answer points ≡ read_reply p (raw nothing (take p trail) key)
  answer_there points p within is =
      ap (λ (c : Bool). let p = point_of points key.vol in if c then read_reply p (raw nothing (take p trail) key) else No no.Volume) (lt-ltb key.vol (layout_of old).volumes within)
      ∙ ap (λ (p : ℕ). read_reply p (raw nothing (take p trail) key)) is

  -- a volume that is not protected has no rows
  pub nothing_there : key.vol < (layout_of old).volumes → protects (layout_of old) key.vol ≡ false → HasRead files trail key (Absent 0) old old
  nothing_there within off = still_read (Absent 0) (sym (answer_there old_points 0 within at_zero))
    where
      was : (volume : Volume D) × (slice_get old.volumes.items key.vol ≡ Some volume)
      was = there_is old.volumes.items key.vol (subst (λ n. key.vol < n) (sym old.sized) within)

      at_zero : point_of old_points key.vol ≡ 0
      at_zero = point_is old.volumes.items key.vol was.0 was.1
          ∙ (subst (λ c. IsShownIf c (layout_of old) trail (at_points files trail old runs serves 0 old_points) key.vol (rows_of was.0) (restart_of was.0)) off (shown_at files trail old runs serves key.vol was.0 was.1)).1
