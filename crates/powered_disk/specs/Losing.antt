-- How a folder in memory loses its power, and which of its calls fail.
use Rattle.std.specs.Prelude.{ℕ, List, map, true}
use Rattle.rdf_disk.specs.declared.fault.Tear.{Tear}
use Rattle.rdf_disk.specs.declared.fault.Tear.TheVariants.{Lose as TearLose, Keep as TearKeep, Mix as TearMix}
use Rattle.folder_disk.specs.declared.fault.FolderFault.{FolderFault}
use Rattle.folder_disk.specs.declared.fault.FolderFault.TheVariants.{Failed}
use Rattle.memory_folder.specs.declared.losses.Loss.{Loss}
use Rattle.memory_folder.specs.declared.losses.Loss.TheVariants.{Keep, Lose, Mix}

-- what is lost by the tear of a fuse
abbrev pub loss_by : Tear → Loss
loss_by TearLose = Lose
loss_by TearKeep = Keep
loss_by TearMix = Mix true

-- the calls of these numbers fail
abbrev pub failures : List ℕ → List (ℕ × FolderFault)
failures calls = map (λ (call : ℕ). (call, Failed)) calls
