-- The files of a generation that is begun, and of one that is dropped.
use Rattle.std.specs.Prelude.{◌≡◌, ◌⊎◌, ℕ, ◌+◌, ◌≤◌, if◌then◌else◌, List, [], ◌∷◌, Some, None}
use Rattle.rdf_disk.specs.Files.{Disk, Contents}
use Rattle.rdf_disk.specs.Outcomes.{MayAll}
use Rattle.rdf_gatelog.specs.Logs.{Logs, Reads, with_log, pushed}
use Rattle.image_disks.specs.Blocks.{Plan}
use Rattle.image_disks.specs.Spelled.{block_of}
use Rattle.image_disks.specs.Standing.{StandsFor}
use Rattle.image_disks.specs.Values.{fresh}

-- there are no files from that number on
abbrev pub IsFreeFrom : ℕ → Logs → Type 0
IsFreeFrom from logs = (f : ℕ) → from ≤ f → logs f ≡ None

-- with a log without blocks for that trail, where it has files
abbrev pub with_trail : Plan → ℕ → ℕ → Logs → Logs
with_trail plan master t logs = if plan.used t then with_log logs (master + t) (Some []) else logs

-- without that trail's file, where it has files
abbrev pub without_trail : Plan → ℕ → ℕ → Logs → Logs
without_trail plan master t logs = if plan.used t then with_log logs (master + t) None else logs

-- the secondaries of a new generation
abbrev pub with_seconds : Plan → ℕ → Logs → Logs
with_seconds plan master logs = with_trail plan master 3 (with_trail plan master 2 (with_trail plan master 1 logs))

-- a new generation: its secondaries, its master, and there the Start
abbrev pub begun : Plan → ℕ → List ℕ → Logs → Logs
begun plan master start logs = pushed (with_log (with_seconds plan master logs) master (Some [])) master start

-- what is there before the Start, from the first secondary on
abbrev pub before_start : Plan → ℕ → Logs → List Logs
before_start plan master logs =
    logs
    ∷ with_trail plan master 1 logs
    ∷ with_trail plan master 2 (with_trail plan master 1 logs)
    ∷ with_seconds plan master logs
    ∷ with_log (with_seconds plan master logs) master (Some [])
    ∷ []

-- what is there once the first master is gone, until its secondaries are
abbrev pub after_drop : Plan → ℕ → Logs → List Logs
after_drop plan master logs =
    with_log logs master None
    ∷ without_trail plan master 1 (with_log logs master None)
    ∷ without_trail plan master 2 (without_trail plan master 1 (with_log logs master None))
    ∷ without_trail plan master 3 (without_trail plan master 2 (without_trail plan master 1 (with_log logs master None)))
    ∷ []

-- without a generation's files
abbrev pub dropped_files : Plan → ℕ → Logs → Logs
dropped_files plan master logs = without_trail plan master 3 (without_trail plan master 2 (without_trail plan master 1 (with_log logs master None)))

-- the contents are one of these
abbrev pub ReadsOne : List Logs → Contents → Type 0
ReadsOne [] c = ⊥
ReadsOne (logs ∷ rest) c = Reads logs c ⊎ ReadsOne rest c

-- no file of the contents has a block
abbrev pub HasNoBlocks : Contents → Type 0
HasNoBlocks c = (logs : Logs) × Reads logs c × ((m : ℕ) → (logs m ≡ None) ⊎ (logs m ≡ Some []))

-- what image trails that aren't made leave: what there might have been before, files without blocks, or trails without records
abbrev pub WasOrBegun : Plan → ℕ → Disk → Contents → Type 0
WasOrBegun plan start old c = MayAll old c ⊎ (HasNoBlocks c ⊎ StandsFor block_of plan (fresh start) c)
