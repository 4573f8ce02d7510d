-- The state of a node's transactions.
use Rattle.std.specs.Prelude.{◌≡◌, ◌==◌, ℕ, Bool, true, false, List, length, if◌then◌else◌}
use Rattle.std.specs.Option.{option_map}
use Rattle.std.specs.Ordering.{nat_cmp}
use Rattle.std.specs.FinMap as map
use Rattle.std.specs.FinSet as set
use Rattle.rdf_types.specs.declared.records.Record.{Record}
use Rattle.rdf_disk.specs.Files.{Disk}
use Rattle.rdf_disk.specs.Counts.{Counts, fused}
use Rattle.rdf_model.specs.Running.{IsRunning}
use Rattle.active_txns.specs.Tells.{Tells}
use Rattle.tmf_core.specs.Stores.{trail_in, Stored, counts_at}
use Rattle.tmf_core.specs.declared.store.Store.{Store}
use Rattle.rdf_disk.specs.declared.disk.Disk.{Ghosts}
use Rattle.tmf_core.specs.declared.tmf.Tmf.{Tmf}

-- the records of the audit trail
abbrev pub tmf_trail : {D : Type 0} {d : Ghosts D} → Tmf D d → List Record
tmf_trail s = trail_in s.store

-- the active transactions
abbrev pub tmf_active : {D : Type 0} {d : Ghosts D} → Tmf D d → set.FinSet nat_cmp
tmf_active s = set.from_list (map.keys s.txns.active)

-- how many volumes there are
abbrev pub tmf_volumes : {D : Type 0} {d : Ghosts D} → Tmf D d → ℕ
tmf_volumes s = length s.store.volumes.items

-- an earlier call ended by a fault of the node
abbrev pub is_down : {D : Type 0} {d : Ghosts D} → Tmf D d → Bool
is_down s = s.down

-- the trail and the volumes may be used, the trail is legal, and what is kept in memory tells of it
pub record Runs {D : Type 0} {d : Ghosts D} (files : D → Disk) (s : Tmf D d) : Type 0 where
  pub stored : Stored files s.store
  pub running : IsRunning (tmf_trail s) (tmf_active s)
  pub tells : Tells s.txns (tmf_trail s) (tmf_active s)

-- unless it is down, it runs
abbrev pub RunsUnlessDown : {D : Type 0} {d : Ghosts D} → (D → Disk) → Tmf D d → Type 0
RunsUnlessDown files s = is_down s ≡ false → Runs files s

-- it runs with this trail and these active transactions
pub record RunsWith {D : Type 0} {d : Ghosts D} (files : D → Disk) (trail : List Record) (active : set.FinSet nat_cmp) (s : Tmf D d) : Type 0 where
  pub runs : Runs files s
  pub trail_is : tmf_trail s ≡ trail
  pub active_is : tmf_active s ≡ active

-- nothing has changed: it shows the same trail and the same active transactions
pub record Stays {D : Type 0} {d : Ghosts D} (files : D → Disk) (old new : Tmf D d) : Type 0 where
  pub down : is_down old ≡ true → new ≡ old
  pub up : is_down old ≡ false → RunsWith files (tmf_trail old) (tmf_active old) new

-- one disk was given a fuse, and the counts of each other disk stay
abbrev pub FusedAt : {D : Type 0} → (D → Counts) → ℕ → Store D → Store D → Type 0
FusedAt counts disk old new = (d : ℕ) → counts_at counts new d ≡ (if d == disk then option_map fused (counts_at counts old d) else counts_at counts old d)
