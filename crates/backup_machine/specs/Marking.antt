-- The marks of a takeover.
use Rattle.std.specs.Prelude.{◌≡◌, ℕ, Bool, true, false, ◌==◌}
use Rattle.rdf_core.specs.Backup.{Volumes, Running, Taking, Taken}
use Rattle.backup_machine.specs.declared.volumes.VolumesState.{VolumesState}
use Rattle.backup_machine.specs.declared.volumes.VolumesState.TheVariants as state
use Rattle.backup_machine.specs.declared.backup.BackupState.{BackupState}

-- all of the prefix is taken
abbrev pub has_taken : ℕ → Volumes → Bool
has_taken received (Running points) = false
has_taken received Taking = false
has_taken received (Taken upto) = upto == received

-- a takeover has begun and has not ended
abbrev pub is_begun : VolumesState → Bool
is_begun (state.Running points) = false
is_begun state.Taking = true
is_begun (state.Taken upto) = false

-- volumes once a takeover has begun
abbrev pub begun : VolumesState → VolumesState
begun (state.Running points) = state.Taking
begun state.Taking = state.Taking
begun (state.Taken upto) = state.Taking

-- the volumes are as they were with their low position, or under the takeover, or taken with this low position
pub data AreMarked (low received : ℕ) (old : VolumesState) (old_low : ℕ) : VolumesState → ℕ → Type 0 where
  AsBefore : AreMarked low received old old_low old old_low
  Begun : (at : ℕ) → AreMarked low received old old_low state.Taking at
  Ended : AreMarked low received old old_low (state.Taken received) low

-- a backup with some of the marks
pub record IsMarked (low : ℕ) (old new : BackupState) : Type 0 where
  pub received : new.received ≡ old.received
  pub noted : new.noted ≡ old.noted
  pub opens : new.opens ≡ old.opens
  pub volumes : AreMarked low old.received old.volumes old.low new.volumes new.low
