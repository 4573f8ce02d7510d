-- What the calls of the program come to, each as one record.
use Rattle.std.specs.Prelude.{◌≡◌, ◌⊎◌, ℕ, ◌<◌, ◌≤◌, Bool, true, false, List, length, drop, is_some, Option, Some, None}
use Rattle.rdf_types.specs.declared.records.Node.{Node}
use Rattle.rdf_disk.specs.Files.{Disk}
use Rattle.rdf_disk.specs.Counts.{Counts}
use Rattle.plan_lang.specs.declared.lines.Plan.{Plan}
use Rattle.plan_lang.specs.declared.why.PlanWhy.{PlanWhy}
use Rattle.plan_gen.specs.Generated.{generated_plan}
use Rattle.command_words.specs.Forms.{Form, Predict, Make}
use Rattle.rdf_system.specs.declared.racks.Racks.{Racks}
use Rattle.rdf_system.specs.Place.{disk_at}
use Rattle.rdf_system.specs.Starting.{AreBlank}
use Rattle.rdf_monitor.specs.Output.{texts_out}
use Rattle.rdf_run.specs.declared.status.Status.{Status}
use Rattle.rdf_run.specs.declared.status.Status.TheVariants.{BadWords, BadPlan, NoMemory, TooLong}
use Rattle.rdf_run.specs.Statuses.{SourceAfter, SinkAfter, IsBegun, IsUnbegun, IsSound, UsesNoDisk}
use Rattle.rdf_run.specs.Returned.{AllReturn}
use Rattle.rdf_run.specs.Plans.{RunsPlan, HadBadPlan}
use Rattle.rdf_run.specs.Commands.{AsksRun, PredictsPlan, knows_fuses}
use Rattle.rdf_run.specs.Making.{MakesPlan}
use Rattle.rdf_run.specs.Quietly.{IsStill}
use Rattle.rdf_run.specs.Completeness.{WereWell, EndsWell, HasPlan}

-- what a call comes to for the source of its plan, by its status
pub record TakesPlan {S : Type 0} (tells : Type 0) (left : S → List ℕ) (faults : S → ℕ) (fuses : Bool) (status : Status) (old new : S) : Type 0 where
  -- of a bad plan: the source had at most as many bytes as a plan may have, the named line is the first bad one, with that fault, and nothing is left
  pub bad_plan : tells → (line : ℕ) (why : PlanWhy) → status ≡ BadPlan line why → HadBadPlan fuses line why (left old) (left new)
  -- of one that is too long: it had more bytes
  pub too_long : tells → status ≡ TooLong → 1048576 < length (left old)
  -- at every status at most one byte more than a plan may have was taken
  pub took : tells → (k : ℕ) × (k ≤ 1048577) × (left new ≡ drop k (left old))
  -- its count of faults rose exactly where the status says that it failed
  pub source : SourceAfter status (faults old) (faults new)

-- what a call comes to for its sink, and for the disks of all places
pub record Returns {D : Type 0} (tells : Type 0) (counts : D → Counts) (status : Status) (faults now_faults : ℕ) (old new : Node → ℕ → Option D) : Type 0 where
  -- the sink's count of faults rose exactly where the status says that it failed
  pub sink : SinkAfter status faults now_faults
  -- Every disk comes back in its place; none but the one that the status names failed or stopped. In a takeover or a session of a backup, where that is the backup's, some behind it may have failed as well;
  -- and in a session of a backup, where the sink failed or a disk of the primary, some of the backup's.
  pub disks : AllReturn counts status old new
  -- over disks that tell nothing is damaged
  pub sound : tells → IsSound status

-- a plan of the source was performed, broken off or refused; or there was no memory for it, and the sink and the racks are as they were
abbrev pub Runs : {S K D : Type 0} → Type 0 → (S → List ℕ) → Type 0 → (K → List ℕ) → Type 0 → (D → Disk) → (D → Counts) → Status → S → S → K → K → Racks D → Racks D → Type 0
Runs source_tells left sink_tells written tells files counts status plan now_plan out now_out racks now_racks =
    ((p : Plan) × RunsPlan (texts_out sink_tells (written out) (written now_out)) source_tells tells files counts p status (left plan) (left now_plan) racks now_racks)
    ⊎ ((status ≡ NoMemory) × (now_out ≡ out) × (now_racks ≡ racks))

-- a plan of the source was predicted; or there was no memory for it, and the sink is as it was
abbrev pub Predicts : {S K : Type 0} → Type 0 → (S → List ℕ) → Type 0 → (K → List ℕ) → Status → S → S → K → K → Type 0
Predicts source_tells left sink_tells written status plan now_plan out now_out =
    ((p : Plan) × PredictsPlan source_tells sink_tells p status (left plan) (left now_plan) (written out) (written now_out))
    ⊎ ((status ≡ NoMemory) × (now_out ≡ out))

-- what the program does for what its words ask, whatever comes of it
pub record Obeys {S K D : Type 0} (source_tells : Type 0) (left : S → List ℕ) (source_faults : S → ℕ) (sink_tells : Type 0) (written : K → List ℕ) (sink_faults : K → ℕ)
    (tells : Type 0) (files : D → Disk) (counts : D → Counts) (asked : Option Form) (status : Status) (plan now_plan : S) (out now_out : K) (racks now_racks : Racks D) : Type 0 where
  -- `run`: the plan was performed, broken off or refused. Or there was no memory for it.
  pub performs : AsksRun asked → IsBegun status → Runs source_tells left sink_tells written tells files counts status plan now_plan out now_out racks now_racks
  -- `predict`: the plan was predicted, and no disk is touched. Or there was no memory for it.
  pub predicts : asked ≡ Some Predict → IsBegun status → Predicts source_tells left sink_tells written status plan now_plan out now_out
  pub diskless : asked ≡ Some Predict → UsesNoDisk status × (now_racks ≡ racks)
  -- `make`: the generated plan was performed, broken off or refused, without a look at the source. Or there was no memory for it.
  pub makes : (seed txns : ℕ) → asked ≡ Some (Make seed txns) →
      MakesPlan sink_tells tells files counts (generated_plan seed txns) status (written out) (written now_out) racks now_racks × (now_plan ≡ plan)
  -- a call that ends before its disks are looked at leaves the sink and the racks as they were
  pub unbegun : IsUnbegun status → (now_out ≡ out) × (now_racks ≡ racks)
  -- bad words are told exactly where the words are none that the program takes; then the source is as it was
  pub bad_words : status ≡ BadWords → (asked ≡ None) × (now_plan ≡ plan)
  pub known_words : (status ≡ BadWords → ⊥) → is_some asked ≡ true
  -- what it takes from the source
  pub takes : TakesPlan source_tells left source_faults (knows_fuses asked) status plan now_plan
  -- how the sink and the disks come back
  pub returns : Returns tells counts status (sink_faults out) (sink_faults now_out) (disk_at racks) (disk_at now_racks)

-- where all is done, or memory is wanting, and nothing else comes
pub record IsComplete {S K D : Type 0} (source_tells : Type 0) (left : S → List ℕ) (source_faults : S → ℕ) (sink_faults : K → ℕ)
    (tells : Type 0) (files : D → Disk) (counts : D → Counts) (asked : Option Form) (status : Status) (plan now_plan : S) (out now_out : K) (racks now_racks : Racks D) : Type 0 where
  -- `run`: the source has a plan, the disks that it uses are blank, on, and do not fail or stop, and source and sink do not fail
  pub completes_run : source_tells → tells → AsksRun asked → IsStill (source_faults plan) (source_faults now_plan) → IsStill (sink_faults out) (sink_faults now_out) →
      (p : Plan) → HasPlan true (left plan) p → AreBlank files p.layout (disk_at racks) → WereWell counts p.layout racks now_racks → EndsWell status
  -- `predict`: the source has a plan without fuses, and source and sink do not fail, whatever the disks are
  pub completes_predict : source_tells → asked ≡ Some Predict → IsStill (source_faults plan) (source_faults now_plan) → IsStill (sink_faults out) (sink_faults now_out) →
      (p : Plan) → HasPlan false (left plan) p → EndsWell status
  -- `make`: the disks that the generated plan uses are blank, on, and do not fail or stop, and the sink does not fail, whatever the source is
  pub completes_make : tells → (seed txns : ℕ) → asked ≡ Some (Make seed txns) → IsStill (sink_faults out) (sink_faults now_out) →
      AreBlank files (generated_plan seed txns).layout (disk_at racks) → WereWell counts (generated_plan seed txns).layout racks now_racks → EndsWell status
