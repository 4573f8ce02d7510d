-- What leaves a run no other end than that all is done, or that memory is wanting.
use Rattle.std.specs.Prelude.{◌≡◌, ℕ, ◌≤◌, Bool, true, false, List, length}
use Rattle.rdf_types.specs.declared.layout.Layout.{Layout}
use Rattle.rdf_types.specs.declared.records.Node.{Node}
use Rattle.rdf_disk.specs.Counts.{Counts}
use Rattle.node_disks.specs.Cuts.{IfBoth}
use Rattle.plan_lang.specs.declared.lines.Plan.{Plan}
use Rattle.plan_lang.specs.PlanText.{IsPlan}
use Rattle.plan_lang.specs.Grammar.{Reads}
use Rattle.rdf_system.specs.declared.racks.Racks.{Racks}
use Rattle.rdf_system.specs.Place.{is_used, disk_at}
use Rattle.rdf_run.specs.declared.status.Status.{Status}
use Rattle.rdf_run.specs.declared.status.Status.TheVariants.{Done, BadWords, BadPlan, ReadFault, WriteFault, DeviceFault, NoMemory, Damaged, NotBlank, TooLong, StoppedEarly}
use Rattle.rdf_run.specs.Quietly.{IsStill}

-- the disk was on, and neither failed nor stopped
pub record WasWell (old new : Counts) : Type 0 where
  pub on : old.off ≡ false
  pub faults : IsStill old.faults new.faults
  pub stops : IsStill old.stops new.stops

-- so was each disk that is used
abbrev pub WereWell : {D : Type 0} → (D → Counts) → Layout → Racks D → Racks D → Type 0
WereWell counts layout racks now_racks = (node : Node) (i : ℕ) → is_used layout node i ≡ true → IfBoth (λ x y. WasWell (counts x) (counts y)) (disk_at racks node i) (disk_at now_racks node i)

-- all is done, or memory is wanting
abbrev pub EndsWell : Status → Type 0
EndsWell Done = Unit {0}
EndsWell NoMemory = Unit {0}
EndsWell BadWords = ⊥
EndsWell (BadPlan line why) = ⊥
EndsWell ReadFault = ⊥
EndsWell WriteFault = ⊥
EndsWell (DeviceFault node disk) = ⊥
EndsWell (Damaged node disk file at) = ⊥
EndsWell (NotBlank node disk) = ⊥
EndsWell TooLong = ⊥
EndsWell (StoppedEarly node disk) = ⊥

-- the source has a plan, and no more bytes than one may have
pub record HasPlan (fuses : Bool) (left : List ℕ) (plan : Plan) : Type 0 where
  pub is : IsPlan plan
  pub few : length left ≤ 1048576
  pub reads : Reads fuses left plan
