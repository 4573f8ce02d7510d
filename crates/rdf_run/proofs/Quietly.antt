-- A run over disks that did not stop is one without stops.
use Rattle.std.proofs.Common.{◌≡◌, ◌≢◌, ℕ, zero, suc, ◌+◌, ◌<◌, Bool, true, false, ◌&&◌, List, [], ◌∷◌, ◌++◌, Option, Some, None, refl, sym, ap, ap₂, ◌∙◌, if◌then◌else◌, arith}
use Rattle.std.proofs.lemmas.Bool.{true≢false}
use Rattle.std.proofs.Common.{lt-ltb}
use Rattle.rdf_types.specs.declared.layout.Layout.{Layout}
use Rattle.rdf_types.specs.declared.records.Node.{Node}
use Rattle.rdf_types.specs.declared.records.Node.TheVariants.{A}
use Rattle.rdf_disk.specs.Files.{Disk}
use Rattle.rdf_disk.specs.Counts.{Counts}
use Rattle.plan_lang.specs.declared.lines.Line.{Line}
use Rattle.plan_lang.specs.declared.lines.Plan.{Plan}
use Rattle.node_disks.specs.Cuts.{IfBoth}
use Rattle.quiet_runs.specs.Quiet.{QuietRun, NoneStopped}
use Rattle.quiet_runs.specs.Told.{TakeoversAreOk, CopiesAreOk, NoneNamesStop}
use Rattle.rdf_core.specs.declared.replies.Reply.{Reply}
use Rattle.rdf_core.specs.Allowed.{is_node}
use Rattle.rdf_core.specs.Effects.{count_u64}
use Rattle.rdf_core.specs.Run.{Run}
use Rattle.rdf_core.specs.State.{State}
use Rattle.rdf_monitor.specs.Output.{Output}
use Rattle.rdf_system.specs.declared.racks.Racks.{Racks}
use Rattle.rdf_system.specs.Lines.{stops_in}
use Rattle.rdf_system.specs.Place.{AtEach, IfUsed, IsFull, is_used, disk_at}
use Rattle.rdf_run.specs.declared.status.Status.{Status}
use Rattle.rdf_run.specs.declared.status.Status.TheVariants as status
use Rattle.rdf_run.specs.Agreeing.{PlanEnds}
use Rattle.rdf_run.specs.Going.{Went, RanTo}
use Rattle.rdf_run.specs.Judging.{Anyhow}
use Rattle.rdf_run.specs.Quietly.{IsStill, NoneStops, RanQuietly, QuietAfter}
use Rattle.rdf_run.specs.Rising.{RoseBy, CountsRose, fuses_given, sum_below, sums_of}
use Rattle.rdf_run.proofs.Returns.{racks_there}
use Rattle.by_node.specs.Each.{at}
use Rattle.rdf_core.specs.RowLaws.{of_backup}

-- the laws of runs without stops
pub record QuietLaws : Type 0 where
  pub quiet : (layout : Layout) (lines : List Line) (replies : List Reply) (last : State) → Run layout lines replies last → NoneStopped last → QuietRun layout lines replies last
  pub no_stop : (layout : Layout) (lines : List Line) (replies : List Reply) (last : State) → QuietRun layout lines replies last → NoneNamesStop replies
  pub takeovers : (layout : Layout) (lines : List Line) (replies : List Reply) (last : State) → QuietRun layout lines replies last → TakeoversAreOk lines replies
  pub copies : (layout : Layout) (lines : List Line) (replies : List Reply) (last : State) → QuietRun layout lines replies last → CopiesAreOk lines replies

pub quiet_laws : ((layout : Layout) (lines : List Line) (replies : List Reply) (last : State) → Run layout lines replies last → NoneStopped last → QuietRun layout lines replies last) →
    ((layout : Layout) (lines : List Line) (replies : List Reply) (last : State) → QuietRun layout lines replies last → NoneNamesStop replies) →
    ((layout : Layout) (lines : List Line) (replies : List Reply) (last : State) → QuietRun layout lines replies last → TakeoversAreOk lines replies) →
    ((layout : Layout) (lines : List Line) (replies : List Reply) (last : State) → QuietRun layout lines replies last → CopiesAreOk lines replies) → QuietLaws
quiet_laws quiet no_stop takeovers copies = record { quiet = quiet; no_stop = no_stop; takeovers = takeovers; copies = copies }

-- a count of stops that is still rose by none
rose_none : (more old new : ℕ) → RoseBy more old new → IsStill old new → more ≡ 0
rose_none more old new r s =
    let by = r.by (omega (arith, s.0, s.1)) in
    omega (arith, s.0, by)

-- numbers that are all 0
sum_none : (n : ℕ) (f : ℕ → ℕ) → ((i : ℕ) → i < n → f i ≡ 0) → sum_below n f ≡ 0
sum_none zero f h = refl
sum_none (suc n) f h =
    let before : sum_below n f ≡ 0 = sum_none n f (λ i lt. h i (omega (arith, lt))) in
    let last : f n ≡ 0 = h n (omega arith) in
    ap₂ (λ x y. x + y) before last

module _ {D : Type 0} (counts : D → Counts) (layout : Layout) (racks now_racks : Racks D) (full : IsFull racks) (none : NoneStops counts layout racks now_racks) where
  -- one used disk did not stop
  no_stop_at : (used : Bool) (fuses stops : ℕ) (x y : Option D) → used ≡ true → x ≢ None → IfBoth (λ a b. IfUsed used (λ p q. CountsRose fuses stops (counts p) (counts q)) a b) x y →
      IfBoth (λ a b. IsStill (counts a).stops (counts b).stops) x y → stops ≡ 0
  no_stop_at used fuses stops None y e there h s = absurd (there refl)
  no_stop_at used fuses stops (Some a) None e there h s = absurd h
  no_stop_at true fuses stops (Some a) (Some b) e there h s = rose_none stops (counts a).stops (counts b).stops h.stops_are s
  no_stop_at false fuses stops (Some a) (Some b) e there h s = absurd (true≢false (sym e))

  module _ (fuses stops : Node → ℕ → ℕ) (rose : AtEach (λ node i x y. IfUsed (is_used layout node i) (λ a b. CountsRose (fuses node i) (stops node i) (counts a) (counts b)) x y) (disk_at racks) (disk_at now_racks)) where
    at_used : (node : Node) (i : ℕ) → is_used layout node i ≡ true → stops node i ≡ 0
    at_used node i used = no_stop_at (is_used layout node i) (fuses node i) (stops node i) (disk_at racks node i) (disk_at now_racks node i) used (racks_there racks layout full node i used) (rose node i) (none node i used)

    -- so none of a node's did
    no_sum : (node : Node) → sums_of layout stops node ≡ 0
    no_sum node = by_node (is_node layout node) refl
      where
        by_node : (b : Bool) → is_node layout node ≡ b → sum_below (if b then suc layout.volumes else 0) (stops node) ≡ 0
        by_node false e = refl
        by_node true e = sum_none (suc layout.volumes) (stops node) (λ i lt. at_used node i (ap₂ (λ x y. x && y) e (lt-ltb i (suc layout.volumes) lt)))

  -- the run counts no stop
  ran_quietly : QuietLaws → (all : Bool) (tells : Type 0) (lines : List Line) (replies : List Reply) (IsAt : State → Type 0) → Went all tells counts layout lines replies (disk_at racks) (disk_at now_racks) (RanTo layout lines replies IsAt) Anyhow → tells → RanQuietly layout lines replies
  ran_quietly laws all tells lines replies IsAt went t =
      let ran : RanTo layout lines replies IsAt (sums_of layout went.stops) = went.run t in
      let zeros : (node : Node) → stops_in ran.state node ≡ 0 = λ node. ran.stops_are node ∙ ap count_u64 (no_sum (λ m k. fuses_given m k lines replies) went.stops went.disks node) in
      let quiet : QuietRun layout lines replies ran.state = laws.quiet layout lines replies ran.state ran.run (record { primary = zeros A; backups = λ node backup. sym (of_backup node ran.state.primary.stops (at ran.state.backups node).stops backup) ∙ zeros node }) in
      record {
        state = ran.state;
        run = quiet;
        no_stop = laws.no_stop layout lines replies ran.state quiet;
        takeovers = laws.takeovers layout lines replies ran.state quiet;
        copies = laws.copies layout lines replies ran.state quiet;
      }

-- however the lines of a plan ended
pub quiet_after : {D : Type 0} (laws : QuietLaws) (out : Output) (tells : Type 0) (files : D → Disk) (counts : D → Counts) (plan : Plan) (s : Status) (racks now_racks : Racks D) → IsFull racks →
    (ends : PlanEnds out tells files counts plan s racks now_racks) → tells → NoneStops counts plan.layout racks now_racks → QuietAfter out tells files counts plan s racks now_racks ends
quiet_after laws out tells files counts plan status.Done racks now_racks full ends t none = ran_quietly counts plan.layout racks now_racks full none laws true tells plan.lines ends.replies _ ends.went t
quiet_after laws out tells files counts plan status.WriteFault racks now_racks full ends t none =
    ran_quietly counts plan.layout racks now_racks full none laws false tells (ends.before ++ ends.line ∷ []) (ends.replies ++ ends.reply ∷ []) _ ends.went t
quiet_after laws out tells files counts plan (status.DeviceFault node disk) racks now_racks full ends t none = tt
quiet_after laws out tells files counts plan status.NoMemory racks now_racks full ends t none = tt
quiet_after laws out tells files counts plan (status.Damaged node disk file at) racks now_racks full ends t none = tt
quiet_after laws out tells files counts plan status.BadWords racks now_racks full ends t none = tt
quiet_after laws out tells files counts plan (status.BadPlan line why) racks now_racks full ends t none = tt
quiet_after laws out tells files counts plan status.ReadFault racks now_racks full ends t none = tt
quiet_after laws out tells files counts plan (status.NotBlank node disk) racks now_racks full ends t none = tt
quiet_after laws out tells files counts plan status.TooLong racks now_racks full ends t none = tt
quiet_after laws out tells files counts plan (status.StoppedEarly node disk) racks now_racks full ends t none = tt
