-- A plan that was refused or performed ended so that a plan was found.
use Rattle.std.proofs.Common.{◌≡◌, ◌⊎◌, inl, inr, ℕ, ◌≤◌, true, List, [], length, Option, Some, None, refl, sym, subst}
use Rattle.rdf_types.specs.declared.records.Node.{Node}
use Rattle.rdf_disk.specs.Files.{Disk}
use Rattle.rdf_disk.specs.Counts.{Counts}
use Rattle.plan_lang.specs.declared.lines.Plan.{Plan}
use Rattle.rdf_system.specs.declared.racks.Racks.{Racks}
use Rattle.rdf_system.specs.declared.fault.StartFault.{StartFault}
use Rattle.rdf_system.specs.declared.fault.StartFault.TheVariants as start
use Rattle.rdf_run.specs.declared.status.Status.{Status}
use Rattle.rdf_run.specs.declared.status.Status.TheVariants as status
use Rattle.rdf_run.specs.declared.run_fault.RunFault.{RunFault}
use Rattle.rdf_run.specs.declared.run_fault.RunFault.TheVariants as run
use Rattle.rdf_run.specs.RunFaults.{status_of_run}
use Rattle.plan_lang.specs.declared.why.PlanWhy.{PlanWhy}
use Rattle.plan_lang.specs.Grammar.{Reads}
use Rattle.rdf_run.specs.Statuses.{IsUnbegun, IsBadPlan, SourceAfter, UsesNoDisk, SinkAfter, IsSound, status_of_source}
use Rattle.rdf_run.specs.Returned.{ReturnIn, NoneFailed, AllReturn}
use Rattle.rdf_run.specs.Calls.{Returns}
use Rattle.rdf_ports.specs.declared.whole.ReadAllFault.{ReadAllFault}
use Rattle.rdf_ports.specs.declared.whole.ReadAllFault.TheVariants as read
use Rattle.rdf_run.proofs.Returns.{returned_same}
use Rattle.rdf_run.specs.Plans.{IsRefused, IsPerformed, RunsBytes, RunsPlan, status_of_start}
use Rattle.rdf_monitor.specs.Output.{Output}
use Rattle.rdf_run.specs.Going.{ByStatus}

refused_begun : (why : StartFault) → IsUnbegun (status_of_start why) → ⊥
refused_begun (start.NotBlank node disk) u = u
refused_begun (start.Stopped node disk) u = u
refused_begun (start.Failed node disk) u = u
refused_begun start.NoMemory u = u

by_status_begun : (s : Status) (a b c : Type 0) → ByStatus s a b c → IsUnbegun s → ⊥
by_status_begun status.Done a b c h u = u
by_status_begun status.WriteFault a b c h u = u
by_status_begun (status.DeviceFault node disk) a b c h u = u
by_status_begun status.NoMemory a b c h u = u
by_status_begun (status.Damaged node disk file at) a b c h u = u
by_status_begun status.BadWords a b c h u = h
by_status_begun status.ReadFault a b c h u = h
by_status_begun (status.NotBlank node disk) a b c h u = h
by_status_begun status.TooLong a b c h u = h
by_status_begun (status.StoppedEarly node disk) a b c h u = h
by_status_begun (status.BadPlan line why) a b c h u = h

pub ends_begun : {D : Type 0} (out : Output) (tells : Type 0) (files : D → Disk) (counts : D → Counts) (plan : Plan) (s : Status) (racks now_racks : Racks D) →
    IsRefused out tells files counts plan.layout s racks now_racks ⊎ IsPerformed out tells files counts plan s racks now_racks → IsUnbegun s → ⊥
ends_begun out tells files counts plan s racks now_racks (inl h) u = refused_begun h.why (subst (λ (x : Status). IsUnbegun x) h.is u)
ends_begun out tells files counts plan s racks now_racks (inr h) u = by_status_begun s _ _ _ h.ends u

-- the bytes were all that a source had
pub lift_bytes : {D : Type 0} (out : Output) (source_tells tells : Type 0) (files : D → Disk) (counts : D → Counts) (s : Status) (bytes left now_left : List ℕ) (racks now_racks : Racks D) →
    RunsBytes out tells files counts s bytes racks now_racks → (source_tells → length left ≤ 1048576) → (source_tells → bytes ≡ left) → (source_tells → now_left ≡ []) →
    (p : Plan) × RunsPlan out source_tells tells files counts p s left now_left racks now_racks
lift_bytes out source_tells tells files counts s bytes left now_left racks now_racks r few is all =
    (r.plan, record { took = record { is = r.is; few = few; reads = λ t. subst (λ (b : List ℕ). Reads true b r.plan) (is t) r.reads; all = all }; ends = r.ends })

-- the source did not fail
pub source_after : (s : Status) (n m : ℕ) → (IsUnbegun s → IsBadPlan s) → m ≡ n → SourceAfter s n m
source_after status.ReadFault n m not e = absurd (not tt)
source_after status.Done n m not e = e
source_after status.BadWords n m not e = e
source_after status.WriteFault n m not e = e
source_after (status.DeviceFault node disk) n m not e = e
source_after status.NoMemory n m not e = e
source_after (status.Damaged node disk file at) n m not e = e
source_after (status.NotBlank node disk) n m not e = e
source_after status.TooLong n m not e = e
source_after (status.StoppedEarly node disk) n m not e = e
source_after (status.BadPlan line why) n m not e = e

-- however the run was ended
pub off_by : (fault : RunFault) (P Q : Type 0) → (Q → P) → Q → ByStatus (status_of_run fault) (Unit {0}) P Q
off_by (run.Write met) P Q f q = f q
off_by run.NoMemory P Q f q = q
off_by (run.Failed node disk) P Q f q = q
off_by (run.Damaged node disk file at) P Q f q = q

pub off_so : (s : Status) (P Q R : Type 0) → (P → Q) → ByStatus s (Unit {0}) P R → ByStatus s (Unit {0}) Q R
off_so status.Done P Q R f h = tt
off_so status.WriteFault P Q R f h = f h
off_so (status.DeviceFault node disk) P Q R f h = h
off_so status.NoMemory P Q R f h = h
off_so (status.Damaged node disk file at) P Q R f h = h
off_so status.BadWords P Q R f h = h
off_so status.ReadFault P Q R f h = h
off_so (status.NotBlank node disk) P Q R f h = h
off_so status.TooLong P Q R f h = h
off_so (status.StoppedEarly node disk) P Q R f h = h
off_so (status.BadPlan line why) P Q R f h = h

-- a plan was found, so none is bad
pub ends_not_bad : {D : Type 0} (out : Output) (tells : Type 0) (files : D → Disk) (counts : D → Counts) (plan : Plan) (s : Status) (racks now_racks : Racks D) →
    IsRefused out tells files counts plan.layout s racks now_racks ⊎ IsPerformed out tells files counts plan s racks now_racks → (line : ℕ) (why : PlanWhy) → s ≡ status.BadPlan line why → ⊥
ends_not_bad out tells files counts plan s racks now_racks ends line why e = ends_begun out tells files counts plan s racks now_racks ends (subst (λ (x : Status). IsUnbegun x) (sym e) tt)

-- ---- statuses that tell of no disk

module _ {D : Type 0} (counts : D → Counts) where
  pub none_told : (s : Status) → UsesNoDisk s → (x y : Node → ℕ → Option D) → NoneFailed counts x y → AllReturn counts s x y
  none_told status.Done u x y fine = record { session = None; of_backup = refl; each = fine }
  none_told status.BadWords u x y fine = record { session = None; of_backup = refl; each = fine }
  none_told (status.BadPlan line why) u x y fine = record { session = None; of_backup = refl; each = fine }
  none_told status.ReadFault u x y fine = record { session = None; of_backup = refl; each = fine }
  none_told status.WriteFault u x y fine = record { session = None; of_backup = refl; each = fine }
  none_told status.NoMemory u x y fine = record { session = None; of_backup = refl; each = fine }
  none_told status.TooLong u x y fine = record { session = None; of_backup = refl; each = fine }
  none_told _ u x y fine = absurd u

  -- the disks come back as they were
  pub all_back : (s : Status) → UsesNoDisk s → (x : Node → ℕ → Option D) → AllReturn counts s x x
  all_back s u x = none_told s u x x (λ node i. returned_same counts (x node i) (x node i) refl)

  -- all lines were answered
  fine_in : (of : Option Node) (x y : Node → ℕ → Option D) → ReturnIn counts of status.Done x y → NoneFailed counts x y
  fine_in None x y h = h
  fine_in (Some n) x y h = h

  pub done_fine : (x y : Node → ℕ → Option D) → AllReturn counts status.Done x y → NoneFailed counts x y
  done_fine x y h = fine_in h.session x y h.each

  -- with the sink
  pub returns_back : (tells : Type 0) (s : Status) (n m : ℕ) → UsesNoDisk s → SinkAfter s n m → IsSound s → (x : Node → ℕ → Option D) → Returns tells counts s n m x x
  returns_back tells s n m u sink sound x = record { sink = sink; disks = all_back s u x; sound = λ t. sound }

  -- the source was not read
  pub source_returns : (tells : Type 0) (f : ReadAllFault) (n : ℕ) (x : Node → ℕ → Option D) → Returns tells counts (status_of_source f) n n x x
  source_returns tells read.Failed n x = returns_back tells status.ReadFault n n tt refl tt x
  source_returns tells read.TooLong n x = returns_back tells status.TooLong n n tt refl tt x
  source_returns tells read.NoMemory n x = returns_back tells status.NoMemory n n tt refl tt x

-- a status that tells of no disk is sound
pub diskless_sound : (s : Status) → UsesNoDisk s → IsSound s
diskless_sound status.Done u = tt
diskless_sound status.BadWords u = tt
diskless_sound (status.BadPlan line why) u = tt
diskless_sound status.ReadFault u = tt
diskless_sound status.WriteFault u = tt
diskless_sound status.NoMemory u = tt
diskless_sound status.TooLong u = tt
diskless_sound _ u = absurd u
