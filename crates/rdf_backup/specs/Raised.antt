-- Volumes that are brought on by their images, in Running.
use Rattle.std.specs.Prelude.{◌≡◌, ℕ, ◌≤◌, ◌<◌, Bool, true, false, List, take, slice_get, IfSome, IsTrue}
use Rattle.rdf_types.specs.declared.layout.Layout.{Layout}
use Rattle.rdf_types.specs.declared.records.Record.{Record}
use Rattle.rdf_types.specs.declared.records.Stamped.{Stamped}
use Rattle.rdf_disk.specs.Files.{Disk, Contents}
use Rattle.rdf_disk.specs.Outcomes.{Durably}
use Rattle.rdf_model.specs.Contents.{nothing}
use Rattle.rdf_model.specs.Trail.{raw}
use Rattle.rdf_model.specs.Volumes.{Rows, AreOn}
use Rattle.rdf_model.specs.Window.{part}
use Rattle.rdf_volume.specs.declared.volume.Volume.{Volume}
use Rattle.rdf_volume.specs.Standing.{StandsFor}
use Rattle.rdf_volume.specs.Views.{rows_of, restart_of, disk_of}
use Rattle.rdf_core.specs.Layouts.{protects}
use Rattle.rdf_backup.specs.Replies.{IfBoth}

-- a protected volume shows the raw contents at its restart point, and the entries are the trail's part from that point or an earlier one up to another position
pub record MayRise (layout : Layout) (trail : List Record) (v upto : ℕ) (entries : List Stamped) (rows : Rows) (at : ℕ) : Type 0 where
  pub start : ℕ
  pub on : IsTrue (protects layout v)
  pub early : start ≤ at
  pub within : at ≤ upto
  pub entries_are : entries ≡ part (protects layout) start (take upto trail)
  pub shows : AreOn v (raw nothing (take at trail)) rows

-- the contents stand for a volume that has come from one position to one up to another, and shows the raw contents there
pub record StandsRisen (trail : List Record) (v from upto : ℕ) (c : Contents) : Type 0 where
  pub rows : Rows
  pub at : ℕ
  pub behind : from ≤ at
  pub within : at ≤ upto
  pub shows : AreOn v (raw nothing (take at trail)) rows
  pub stands : StandsFor rows at c

-- what has become of the rows and the restart point of a volume: a protected one has risen, and one below that number to the end; another one is as it was
abbrev pub RoseIf : Bool → List Record → ℕ → ℕ → ℕ → Rows → ℕ → Rows → ℕ → Type 0
RoseIf true trail done upto v was from rows at = (from ≤ at) × (at ≤ upto) × (v < done → at ≡ upto) × AreOn v (raw nothing (take at trail)) rows
RoseIf false trail done upto v was from rows at = (rows ≡ was) × (at ≡ from)

-- the volumes have risen from what they were first; those below that number to the end
abbrev pub AreRisen : {D : Type 0} → Layout → List Record → ℕ → ℕ → List (Volume D) → List (Volume D) → Type 0
AreRisen layout trail done upto first now = (i : ℕ) → IfBoth (λ was is. RoseIf (protects layout i) trail done upto i (rows_of was) (restart_of was) (rows_of is) (restart_of is)) (slice_get first i) (slice_get now i)

-- what the contents of a volume's disk stand for where it may have risen
abbrev pub StandsRaised : Bool → List Record → ℕ → ℕ → Rows → ℕ → Contents → Type 0
StandsRaised true trail upto v was from c = StandsRisen trail v from upto c
StandsRaised false trail upto v was from c = StandsFor was from c

-- and what each volume's disk durably stands for
abbrev pub AreLeftRisen : {D : Type 0} → (D → Disk) → Layout → List Record → ℕ → List (Volume D) → List (Volume D) → Type 0
AreLeftRisen files layout trail upto first now = (i : ℕ) → IfBoth (λ was is. Durably (files (disk_of is)) (StandsRaised (protects layout i) trail upto i (rows_of was) (restart_of was))) (slice_get first i) (slice_get now i)

-- the entries are the trail's part up to a position, from one on that no protected volume lies behind
pub record AreBehind {D : Type 0} (layout : Layout) (trail : List Record) (upto : ℕ) (entries : List Stamped) (volumes : List (Volume D)) : Type 0 where
  pub start : ℕ
  pub entries_are : entries ≡ part (protects layout) start (take upto trail)
  pub early : (i : ℕ) → IsTrue (protects layout i) → IfSome (slice_get volumes i) (λ volume. start ≤ restart_of volume)
