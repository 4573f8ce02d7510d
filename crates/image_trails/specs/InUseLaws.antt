-- Laws of image trails in use.
use Rattle.std.proofs.Common.{ℕ, List}
use Rattle.rdf_disk.specs.Files.{Disk}
use Rattle.rdf_disk.specs.Outcomes.{Durably}
use Rattle.rdf_gatelog.specs.Logs.{Logs, Rests}
use Rattle.rdf_gatelog.specs.RestLaws.{rests_durably}
use Rattle.image_disks.specs.Blocks.{Block, Plan}
use Rattle.image_disks.specs.Values.{Value}
use Rattle.image_disks.specs.Standing.{Means, MeansBy, StandsFor}
use Rattle.image_trails.specs.declared.memory.Memory.{Memory}
use Rattle.image_trails.specs.Memory.{IsInUse, plan_in, value_in, files_of}

-- what logs mean, whatever the files of the masters are
pub means_plain : (block_of : List ℕ → Block) (plan : Plan) (logs : Logs) (masters : List ℕ) (v : Value) → MeansBy block_of plan logs masters v → Means block_of plan logs v
means_plain block_of plan logs masters v (older, last, s, a, files) = (older, last, s, a)

-- a disk at rest durably stands for what its logs mean
pub durably_stands : (block_of : List ℕ → Block) (plan : Plan) (logs : Logs) (v : Value) (disk : Disk) → Rests logs disk → Means block_of plan logs v → Durably disk (StandsFor block_of plan v)
durably_stands block_of plan logs v disk rests means c may = (logs, rests_durably logs disk rests c may, means)

-- a disk in use durably stands for its value
pub in_use_durably : (block_of : List ℕ → Block) (m : Memory) (disk : Disk) → IsInUse block_of m disk → Durably disk (StandsFor block_of (plan_in m) (value_in m))
in_use_durably block_of m disk use_ = durably_stands block_of (plan_in m) use_.logs (value_in m) disk use_.rests (means_plain block_of (plan_in m) use_.logs (files_of m.generations) (value_in m) use_.means)
