-- Opening an image disk: what is in memory once the generations below a number are read, and which files are left.
use Rattle.std.specs.Prelude.{◌≡◌, ◌≢◌, ◌⊎◌, ℕ, ◌+◌, ◌/◌, ◌%◌, ◌<◌, ◌≤◌, Bool, true, false, ◌&&◌, nat_lt, List, [], ◌∷◌, ◌++◌, filter, map, get_or, slice_set, Option, Some, None, Result, Ok, Err}
use Rattle.std.specs.List.Sorted.{IsNonDecreasingBy}
use Rattle.rdf_types.specs.declared.records.Phase.{Phase}
use Rattle.rdf_disk.specs.Files.{Disk, Contents}
use Rattle.rdf_gatelog.specs.declared.fault.LogFault.{LogFault}
use Rattle.rdf_gatelog.specs.declared.fault.LogFault.TheVariants.{Damaged}
use Rattle.rdf_gatelog.specs.Logs.{Logs, Reads, Rests, IsOpenIn}
use Rattle.image_disks.specs.Blocks.{Plan, AreEntries, end_after, IsPhaseAt}
use Rattle.image_disks.specs.Flaws.{IsFlawIn}
use Rattle.image_disks.specs.Values.{Alike, received}
use Rattle.image_disks.specs.Spelled.{block_of}
use Rattle.image_disks.specs.Standing.{Gen, file_of, AreGens, AreOn, value_of, masters_of, IsNumberOf, IsUnborn, MeansBy, most_generations}
use Rattle.image_trails.specs.declared.memory.Memory.{Memory}
use Rattle.image_trails.specs.declared.said.Said.{Said}
use Rattle.image_trails.specs.declared.open.ImageShut.{ImageShut}
use Rattle.image_trails.specs.declared.trails.ImageTrails.{ImageTrails}
use Rattle.image_trails.specs.Reading.{IsReadOf}
use Rattle.image_trails.specs.Memory.{plan_in, value_in, starts_of, files_of, lists_of}

-- a generation more, as its Start says, and nothing from there on
pub record HasBegun (number start : ℕ) (phase : Phase) (old new : Memory) : Type 0 where
  pub layout : new.layout ≡ old.layout
  pub starts : starts_of new.generations ≡ starts_of old.generations ++ start ∷ []
  pub files : files_of new.generations ≡ files_of old.generations ++ file_of number 0 ∷ []
  pub last : new.last ≡ number
  pub phase_is : new.phase ≡ phase
  pub tops : (t : ℕ) → t < 4 → get_or new.tops.items t 0 ≡ start
  pub lists : (t : ℕ) → IsNonDecreasingBy (λ s. s.pos) (get_or (lists_of old.entries) t []) → get_or (lists_of new.entries) t [] ≡ filter (λ s. nat_lt s.pos start) (get_or (lists_of old.entries) t [])

-- what a trail's file of the last generation says was added
pub record HasTaken (t : ℕ) (said : Said) (end : ℕ) (old new : Memory) : Type 0 where
  pub layout : new.layout ≡ old.layout
  pub starts : starts_of new.generations ≡ starts_of old.generations
  pub files : files_of new.generations ≡ files_of old.generations
  pub last : new.last ≡ old.last
  pub phase_is : new.phase ≡ said.phase
  pub tops : new.tops.items ≡ slice_set old.tops.items t said.end
  pub ends : new.ends.items ≡ slice_set old.ends.items t end
  pub lists : lists_of new.entries ≡ slice_set (lists_of old.entries) t (get_or (lists_of old.entries) t [] ++ said.part.items)

-- the blocks of a trail's file were read from the start on, each in its place, and what they say was added
pub record HasRead (logs : Logs) (number start t : ℕ) (payloads : List (List ℕ)) (old new : Memory) : Type 0 where
  pub said : Said
  pub end : ℕ
  pub read : IsReadOf (plan_in old) t start old.phase (map block_of payloads) said
  pub taken : HasTaken t said end old new
  pub opened : IsOpenIn logs (file_of number t) end

-- a secondary's file was read; it isn't shorter than the master's
pub record HasSecond (logs : Logs) (number start t : ℕ) (old new : Memory) : Type 0 where
  pub payloads : List (List ℕ)
  pub there : logs (file_of number t) ≡ Some payloads
  pub read : HasRead logs number start t payloads old new
  pub no_shorter : received (value_in old) ≤ end_after start (map block_of payloads)

-- the same where the trail has files; else nothing changes
abbrev pub IsSecondRead : Logs → ℕ → ℕ → ℕ → Memory → Memory → Type 0
IsSecondRead logs number start t old new = (((plan_in old).used t ≡ true) × HasSecond logs number start t old new) ⊎ (((plan_in old).used t ≡ false) × (new ≡ old))

-- these are the generations that stand below that number, and the memory says what they stand for
pub record IsReadSo (plan : Plan) (logs : Logs) (n : ℕ) (older : List Gen) (last : Gen) (m : Memory) : Type 0 where
  pub gens : AreGens plan older last
  pub on : AreOn block_of plan logs older last
  pub unborn : (k : ℕ) → k < n → (IsNumberOf k older last → ⊥) → IsUnborn (logs (file_of k 0))
  pub below : last.number < n
  pub alike : Alike (value_of older last) (value_in m)
  pub masters : masters_of older last ≡ files_of m.generations
  pub opened : (t : ℕ) → t < 4 → plan.used t ≡ true → IsOpenIn logs (file_of m.last t) (get_or m.ends.items t 0)
  pub rising : (t : ℕ) → t < 4 → AreEntries (λ r. true) 0 (get_or m.tops.items t 0) (get_or (lists_of m.entries) t [])

-- no generation stands below that number, and the memory has none
pub record IsNothingRead (logs : Logs) (n : ℕ) (m : Memory) : Type 0 where
  pub unborn : (k : ℕ) → k < n → IsUnborn (logs (file_of k 0))
  pub none : m.generations.items ≡ []
  pub lists : (t : ℕ) → get_or (lists_of m.entries) t [] ≡ []

-- the generations below that number were read
abbrev pub IsReadUpTo : Plan → Logs → ℕ → Memory → Type 0
IsReadUpTo plan logs n m = IsNothingRead logs n m ⊎ ((older : List Gen) × ((last : Gen) × IsReadSo plan logs n older last m))

-- where those below a number were read, those below the next one are
abbrev pub ReadsNext : Plan → Logs → ℕ → Memory → Memory → Type 0
ReadsNext plan logs n old new = IsReadUpTo plan logs n old → IsReadUpTo plan logs (n + 1) new

-- where the answer tells damage, it is a flaw of these logs
abbrev pub TellsFlaw : {T : Type 0} → Plan → Logs → Result T LogFault → Type 0
TellsFlaw plan logs result = (f at : ℕ) → result ≡ Err (Damaged f at) → IsFlawIn block_of plan logs f at

-- a generation with this number, start and phase may stand behind those in memory
pub record MayFollow (number start : ℕ) (phase : Phase) (m : Memory) : Type 0 where
  pub few : number ≤ most_generations
  pub in_time : IsPhaseAt start phase
  pub joins : (m.generations.items ≡ []) ⊎ (received (value_in m) ≡ start)

-- the files belong to the generations from the one number on and below the other
abbrev pub AreWithin : ℕ → ℕ → Logs → Type 0
AreWithin first end logs = (m : ℕ) → (m < file_of first 0) ⊎ (file_of end 0 ≤ m) → logs m ≡ None

-- this is the lowest file, or file 0 where there is none
pub record IsLowest (low : ℕ) (logs : Logs) : Type 0 where
  pub least : (m : ℕ) → logs m ≢ None → (low ≤ m) × (logs low ≢ None)
  pub blank : ((m : ℕ) → logs m ≡ None) → low ≡ 0

-- a master has a block
abbrev pub is_born : Option (List (List ℕ)) → Bool
is_born None = false
is_born (Some []) = false
is_born (Some (payload ∷ payloads)) = true

-- the file belongs to a trail that has files, in a generation that stands
abbrev pub is_needed : Plan → Logs → ℕ → Bool
is_needed plan logs file = plan.used (file % 4) && is_born (logs (file_of (file / 4) 0))

-- each file is as it was, but that some are gone which aren't needed
abbrev pub IsPruned : Plan → Logs → Logs → Type 0
IsPruned plan logs x = (m : ℕ) → (x m ≡ logs m) ⊎ ((x m ≡ None) × (is_needed plan logs m ≡ false))

-- the contents are the logs, but that some files are gone which aren't needed
abbrev pub ReadsPruned : Plan → Logs → Contents → Type 0
ReadsPruned plan logs c = (x : Logs) × Reads x c × IsPruned plan logs x

-- the disk rests as these logs, without the files below that number that aren't needed
pub record RestsPruned (plan : Plan) (logs : Logs) (upto : ℕ) (disk : Disk) : Type 0 where
  pub left : Logs
  pub rests : Rests left disk
  pub pruned : IsPruned plan logs left
  pub gone : (m : ℕ) → m < upto → is_needed plan logs m ≡ false → left m ≡ None

-- The logs stand for what the memory says. The last generation's files end where it says, and none behind them is needed.
pub record IsDiskRead (plan : Plan) (logs : Logs) (m : Memory) : Type 0 where
  pub means : MeansBy block_of plan logs (files_of m.generations) (value_in m)
  pub opened : (t : ℕ) → t < 4 → plan.used t ≡ true → IsOpenIn logs (file_of m.last t) (get_or m.ends.items t 0)
  pub rising : (t : ℕ) → t < 4 → AreEntries (λ r. true) 0 (get_or m.tops.items t 0) (get_or (lists_of m.entries) t [])
  pub above : (f : ℕ) → file_of (m.last + 1) 0 ≤ f → is_needed plan logs f ≡ false

-- the disk that an opening hands back
abbrev pub disk_in : {D : Type 0} → Result (ImageTrails D) (ImageShut D) → D
disk_in (Ok trails) = trails.disk
disk_in (Err shut) = shut.disk
