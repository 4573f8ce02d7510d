-- A backup that received more.
use Rattle.std.specs.Prelude.{◌≡◌, ℕ, ◌≤◌, List, ◌++◌}
use Rattle.backup_machine.specs.declared.backup.BackupState.{BackupState}

-- more is received, and generations are added
pub record IsLonger (old new : BackupState) : Type 0 where
  pub received : old.received ≤ new.received
  pub more : List ℕ
  pub starts : new.starts ≡ old.starts ++ more
  pub up : new.up ≡ old.up
  pub volumes : new.volumes ≡ old.volumes
  pub stops : new.stops ≡ old.stops
  pub noted : new.noted ≡ old.noted
  pub opens : new.opens ≡ old.opens
  pub low : new.low ≡ old.low
