-- All backups agree on the racks, by the law that they agree in every run.
use Rattle.std.proofs.Common.{◌≡◌, ℕ, zero, suc, ◌<◌, ◌≤◌, Bool, true, List, [], ◌∷◌, ◌++◌, length, take, Option, Some, None, refl, ap, ◌∙◌, subst, arith}
use Rattle.std.specs.Prelude.{slice_get, IfSome}
use Rattle.std.specs.Option.{IsSomeAnd}
use Rattle.rdf_types.specs.declared.layout.Layout.{Layout}
use Rattle.rdf_types.specs.declared.records.Node.{Node}
use Rattle.rdf_types.specs.declared.records.Node.TheVariants.{A, B}
use Rattle.rdf_types.specs.declared.records.Record.{Record}
use Rattle.rdf_disk.specs.Files.{Disk, Contents}
use Rattle.rdf_disk.specs.Counts.{Counts}
use Rattle.rdf_disk.specs.Outcomes.{Durably}
use Rattle.audit_trail.specs.Spelled.{Spells}
use Rattle.rdf_backup.specs.Standing as backup
use Rattle.rdf_backup.specs.Standing.{BackupStandsFor, TrailsStandFor, VolumeStandsFor, IsShownIf}
use Rattle.plan_lang.specs.declared.lines.Line.{Line}
use Rattle.plan_lang.specs.declared.lines.Plan.{Plan}
use Rattle.plan_lang.specs.PlanText.{IsPlan}
use Rattle.rdf_core.specs.SoundLaws.{flag_within}
use Rattle.rdf_core.specs.declared.replies.Reply.{Reply}
use Rattle.rdf_core.specs.Agreement.{AreRepaired, IsTakenAt}
use Rattle.rdf_core.specs.Backup.{Backup, Volumes, Taken, phase_of}
use Rattle.rdf_core.specs.Layouts.{protects}
use Rattle.by_node.specs.Each.{at}
use Rattle.rdf_core.specs.State.{State}
use Rattle.rdf_system.specs.declared.racks.Racks.{Racks}
use Rattle.rdf_system.specs.Place.{IsFull, disk_at, disks_in}
use Rattle.rdf_system.specs.Starting.{AreBlank}
use Rattle.rdf_system.specs.States.{RacksStandFor}
use Rattle.rdf_monitor.specs.Output.{Output}
use Rattle.rdf_run.proofs.Quietly.{QuietLaws, quiet_after}
use Rattle.rdf_run.specs.declared.status.Status.{Status}
use Rattle.rdf_run.specs.declared.status.Status.TheVariants as status
use Rattle.rdf_run.specs.Statuses.{NamesUsedDisk}
use Rattle.rdf_run.specs.Going.{ByStatus, RanTo, BrokeIn}
use Rattle.rdf_run.specs.Plans.{AreOff, AreOffOrSpared, IsPerformed}
use Rattle.rdf_run.specs.Agreeing.{StandsAt, HasReceived, HasCommitted, HoldsCommitted, AreAgreed, AllHadReceived, AgreeIf, PlanEnds, AgreesAfter}
use Rattle.rdf_run.proofs.Left.{BackupsAgree, TakeoversTell, EventsGoOn, AllTaken, left_taken}
use Rattle.std.proofs.lemmas.Bool.{true≢false}

-- a disk among the first so many, which are all there
there : {D : Type 0} (P : D → Type 0) (disks : List D) (n i : ℕ) → length (take n disks) ≡ n → i < n → IfSome (slice_get (take n disks) i) P → IsSomeAnd (slice_get disks i) P
there P disks zero i many lt h = absurd (omega arith)
there P [] (suc n) i many lt h = absurd (none many)
  where
    none : 0 ≡ suc n → ⊥
    none e = cc
there P (d ∷ disks) (suc n) zero many lt h = h
there P (d ∷ disks) (suc n) (suc i) many lt h = there P disks n i (omega (arith, many)) (omega arith) h

-- what is durable goes on with what follows from it
stands_so : {D : Type 0} (files : D → Disk) (P Q : Contents → Type 0) (place : Option D) → ((c : Contents) → P c → Q c) → StandsAt files P place → StandsAt files Q place
stands_so files P Q None f h = absurd h
stands_so files P Q (Some d) f h = λ c may. f c (h c may)

module _ (layout : Layout) (trail : List Record) (m : ℕ) (b : Backup) (taken : IsTakenAt m b) where
  received_is : (c : Contents) → TrailsStandFor layout trail b c → HasReceived layout m c
  received_is c h = (h.value, (h.tells.received_is ∙ taken.received, h.tells.phase_is ∙ ap phase_of taken.volumes, h.stands))

  committed_is : (v : ℕ) → protects layout v ≡ true → (c : Contents) → VolumeStandsFor layout trail b v c → HasCommitted trail m v c
  committed_is v protected c h =
      let shown : IsShownIf true layout trail b v h.rows h.at = subst (λ (p : Bool). IsShownIf p layout trail b v h.rows h.at) protected h.shows in
      let now : backup.IsProtected layout trail b (Taken m) v h.rows h.at = subst (λ (of : Volumes). backup.IsProtected layout trail b of v h.rows h.at) taken.volumes shown in
      (h.rows, (h.at, (now.1, h.stands)))

  -- the disks of a backup that was taken over
  holds : {D : Type 0} (files : D → Disk) (disks : List D) → BackupStandsFor files layout trail b (take (suc layout.volumes) disks) → HoldsCommitted files layout trail m (λ i. slice_get disks i)
  holds files disks h = record {
    image = stands_so files (TrailsStandFor layout trail b) (HasReceived layout m) (slice_get disks 0) received_is
        (there (λ d. Durably (files d) (TrailsStandFor layout trail b)) disks (suc layout.volumes) 0 h.count (omega arith) (h.disk 0));
    volumes = λ v protected.
        let few : v < length layout.protect = flag_within layout.protect v protected in
        stands_so files (VolumeStandsFor layout trail b v) (HasCommitted trail m v) (slice_get disks (suc v)) (committed_is v protected)
        (there (λ d. Durably (files d) (VolumeStandsFor layout trail b v)) disks (suc layout.volumes) (suc v) h.count (omega (arith, few, layout.a_flag_each)) (h.disk (suc v)));
  }

-- racks that stand for a state of which all backups were taken over
agreed : {D : Type 0} (files : D → Disk) (layout : Layout) (racks : Racks D) (m : ℕ) (s : State) → RacksStandFor files layout s racks → AllTaken layout m s.backups → AreAgreed files layout s.primary.trail m racks
agreed files layout racks m s stands taken = record {
  spelled = there (λ d. Durably (files d) (Spells s.primary.trail)) (disks_in racks A) (suc layout.volumes) 0 stands.primary.count (omega arith) (stands.primary.disk 0);
  within = subst (λ n. n ≤ length s.primary.trail) (taken B refl).received (stands.backup B refl).sound.within;
  backups = λ node known. holds layout s.primary.trail m (at s.backups node) (taken node known) files (disks_in racks node) (stands.backup node known);
}

had_all : (told : TakeoversTell) (layout : Layout) (lead : Node) (m : ℕ) (lines : List Line) (replies : List Reply) (done : AreRepaired layout lead m lines replies) → AllHadReceived layout lead m lines replies done
had_all told layout lead m lines replies done = λ node known last run. told layout lines replies last run node (done.first node known).0 (done.first node known).1

-- by the lines that were answered, and their replies
agree_if : {D : Type 0} (law : BackupsAgree) (told : TakeoversTell) (files : D → Disk) (layout : Layout) (lines : List Line) (replies : List Reply) (racks : Racks D) (stops : Node → ℕ) →
    RanTo layout lines replies (λ s. RacksStandFor files layout s racks) stops → AgreeIf files layout lines replies racks
agree_if law told files layout lines replies racks stops ran = λ lead m done.
    (had_all told layout lead m lines replies done, (ran.state.primary.trail, agreed files layout racks m ran.state ran.at (law layout lines replies ran.state lead m ran.run done)))

-- the same where the next line was broken off
agree_broken : {D : Type 0} (law : BackupsAgree) (told : TakeoversTell) (goes_on : EventsGoOn) (files : D → Disk) (layout : Layout) (lines : List Line) (replies : List Reply) (l : Line) (racks : Racks D) (stops : Node → ℕ) →
    BrokeIn layout lines replies l (λ s. RacksStandFor files layout s racks) stops → AgreeIf files layout lines replies racks
agree_broken law told goes_on files layout lines replies l racks stops broke = λ lead m done. (
  had_all told layout lead m lines replies done,
  (
    broke.left.primary.trail,
    agreed files layout racks m broke.left broke.at
        (left_taken law goes_on layout lines replies broke.state l broke.run broke.allowed lead m done broke.left broke.leaves),
  ),
)

module _ {D : Type 0} (law : BackupsAgree) (told : TakeoversTell) (goes_on : EventsGoOn) (quiet : QuietLaws) (out : Output) (tells : Type 0) (files : D → Disk) (counts : D → Counts) (plan : Plan) (is : IsPlan plan) (racks now_racks : Racks D) (full : IsFull racks) where
  -- after a run over all lines, or before one that was broken off, or up to the one whose reply was not written
  agrees_after : (s : Status) (ends : PlanEnds out tells files counts plan s racks now_racks) → tells → AgreesAfter out tells files counts plan s racks now_racks ends
  agrees_after status.Done ends t = agree_if law told files plan.layout plan.lines ends.replies now_racks _ (ends.went.run t)
  agrees_after status.WriteFault ends t =
      agree_if law told files plan.layout (ends.before ++ ends.line ∷ []) (ends.replies ++ ends.reply ∷ []) now_racks _ (ends.went.run t)
  agrees_after (status.DeviceFault node disk) ends t = agree_broken law told goes_on files plan.layout ends.before ends.replies ends.line now_racks _ (ends.went.run t)
  agrees_after status.NoMemory ends t = agree_broken law told goes_on files plan.layout ends.before ends.replies ends.line now_racks _ (ends.went.run t)
  agrees_after (status.Damaged node disk file at) ends t = agree_broken law told goes_on files plan.layout ends.before ends.replies ends.line now_racks _ (ends.went.run t)
  agrees_after status.BadWords ends t = tt
  agrees_after status.ReadFault ends t = tt
  agrees_after (status.NotBlank node disk) ends t = tt
  agrees_after status.TooLong ends t = tt
  agrees_after (status.StoppedEarly node disk) ends t = tt
  agrees_after (status.BadPlan line why) ends t = tt

  pub performed : (s : Status) → (tells → AreBlank files plan.layout (disk_at racks)) → NamesUsedDisk plan.layout s → ByStatus s (Unit {0}) (AreOffOrSpared counts plan.layout (disk_at racks) now_racks) (AreOff counts plan.layout now_racks) →
      PlanEnds out tells files counts plan s racks now_racks → IsPerformed out tells files counts plan s racks now_racks
  performed s blank named off ends = record { blank = blank; named = named; off = off; ends = ends; agree = λ t. agrees_after s ends t; quiet = λ t none. quiet_after quiet out tells files counts plan s racks now_racks full ends t none }
