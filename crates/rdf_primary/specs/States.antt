-- The primary as the machine has it.
use Rattle.std.specs.Prelude.{◌≡◌, ℕ, false, List}
use Rattle.rdf_types.specs.declared.layout.Layout.{Layout}
use Rattle.rdf_disk.specs.Files.{Disk}
use Rattle.rdf_disk.specs.declared.disk.Disk.{Ghosts}
use Rattle.tmf_core.specs.States.{tmf_trail, tmf_active, tmf_volumes, is_down, Runs}
use Rattle.tmf_core.specs.Disks.{disks_of}
use Rattle.rdf_core.specs.declared.events.Standing.TheVariants.{Up}
use Rattle.rdf_core.specs.Primary.{Primary as State}
use Rattle.rdf_primary.specs.declared.primary.Primary.{Primary}

-- the state of a primary that is up: its disks stopped so often before
abbrev pub state_of : {D : Type 0} {d : Ghosts D} → ℕ → Primary D d → State
state_of stops s = record { trail = tmf_trail s.tmf; active = tmf_active s.tmf; standing = Up; stops = stops }

-- the disks, in their order
abbrev pub disks_in : {D : Type 0} {d : Ghosts D} → Primary D d → List D
disks_in s = disks_of s.tmf.store.trail s.tmf.store.volumes.items

-- it has the volumes of the layout
abbrev pub IsLaidOut : {D : Type 0} {d : Ghosts D} → Layout → Primary D d → Type 0
IsLaidOut layout s = layout.volumes ≡ tmf_volumes s.tmf

-- no call has ended by a fault of the node yet
abbrev pub IsUp : {D : Type 0} {d : Ghosts D} → Primary D d → Type 0
IsUp s = is_down s.tmf ≡ false

-- its trail and its volumes may be used, and what is kept in memory tells of them
abbrev pub IsRunning : {D : Type 0} {d : Ghosts D} → (D → Disk) → Primary D d → Type 0
IsRunning files s = Runs files s.tmf
