-- How the disk of image trails in use is tied to what is kept of it in memory.
use Rattle.std.specs.Prelude.{◌≡◌, ℕ, ◌+◌, ◌<◌, ◌≤◌, Bool, true, false, ◌||◌, ◌==◌, if◌then◌else◌, List, [], map, get_or, Option, Some, None, Vec}
use Rattle.std.specs.List.{list_any}
use Rattle.std.specs.declared.alloc.Global.{Global}
use Rattle.std.specs.declared.collections.VecDeque.{VecDeque}
use Rattle.rdf_types.specs.declared.layout.Layout.{Layout}
use Rattle.rdf_types.specs.declared.records.Record.{Record}
use Rattle.rdf_types.specs.declared.records.Record.TheVariants.{Image, Commit, Abort}
use Rattle.rdf_types.specs.declared.records.Stamped.{Stamped}
use Rattle.rdf_disk.specs.Files.{Disk}
use Rattle.rdf_gatelog.specs.Logs.{Logs, Rests, IsOpenIn}
use Rattle.image_trails.specs.declared.memory.Generation.{Generation}
use Rattle.rdf_codec.specs.declared.ships.Ship.{Ship}
use Rattle.image_trails.specs.declared.memory.Memory.{Memory}
use Rattle.image_disks.specs.Blocks.{Block, Plan, found, AreEntries}
use Rattle.image_disks.specs.Values.{Value, Shipment}
use Rattle.image_disks.specs.Standing.{MeansBy, file_of}

abbrev pub shipment : Ship → Shipment
shipment ship = record { from = ship.from; to = ship.to; part = ship.part }

-- an image on a protected volume goes to the volume's trail, an outcome to the master
abbrev pub home_of : List ℕ → List Bool → Record → Option ℕ
home_of trail_of protect (Image txn vol file key before after) = if get_or protect vol false then Some (get_or trail_of vol 0) else None
home_of trail_of protect (Commit txn) = Some 0
home_of trail_of protect (Abort txn) = Some 0

-- the master has files, and so has each secondary that some volume is assigned to
abbrev pub has_files : List ℕ → ℕ → Bool
has_files trail_of t = (t == 0) || list_any (λ n. n == t) trail_of

-- how a layout keeps a backup's audit
abbrev pub plan_of : Layout → Plan
plan_of layout = record { home = home_of layout.trail_of layout.protect; used = has_files layout.trail_of; extent = layout.extent }

abbrev pub plan_in : Memory → Plan
plan_in m = plan_of m.layout

-- where the generations start
abbrev pub starts_of : VecDeque Generation Global → List ℕ
starts_of generations = map (λ g. g.start) generations.items

-- the numbers of their masters' files
abbrev pub files_of : VecDeque Generation Global → List ℕ
files_of generations = map (λ g. g.master) generations.items

-- the entries of each trail
abbrev pub lists_of : Vec (VecDeque Stamped Global) Global → List (List Stamped)
lists_of lists = map (λ v. v.items) lists.items

-- what the memory says that the disk stands for
abbrev pub value_in : Memory → Value
value_in m = record {
  starts = starts_of m.generations;
  last = m.last;
  phase = m.phase;
  top = λ t. get_or m.tops.items t 0;
  entry = λ t i. found (get_or (lists_of m.entries) t []) i;
}

-- The disk is logs at rest that stand for what the memory says. The last generation's files are open, and none are behind them.
-- The positions of each trail's list rise and stay below its top.
pub record IsInUse (block_of : List ℕ → Block) (m : Memory) (disk : Disk) : Type 0 where
  pub logs : Logs
  pub rests : Rests logs disk
  pub means : MeansBy block_of (plan_in m) logs (files_of m.generations) (value_in m)
  pub opened : (t : ℕ) → t < 4 → (plan_in m).used t ≡ true → IsOpenIn logs (file_of m.last t) (get_or m.ends.items t 0)
  pub above : (f : ℕ) → file_of (m.last + 1) 0 ≤ f → logs f ≡ None
  pub rising : (t : ℕ) → t < 4 → AreEntries (λ r. true) 0 (get_or m.tops.items t 0) (get_or (lists_of m.entries) t [])
