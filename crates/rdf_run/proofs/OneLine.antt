-- A run over lines of the system with one line more, and with one that is broken off.
use Rattle.std.proofs.Common.{◌≡◌, ◌≢◌, ℕ, ◌+◌, true, false, List, [], ◌∷◌, ◌++◌, Option, None, Result, Ok, Err, refl, sym, subst}
use Rattle.rdf_types.specs.declared.layout.Layout.{Layout}
use Rattle.rdf_types.specs.declared.records.Node.{Node}
use Rattle.rdf_disk.specs.Files.{Disk}
use Rattle.rdf_disk.specs.Counts.{Counts}
use Rattle.rdf_disk.specs.declared.disk.Disk.{Ghosts}
use Rattle.plan_lang.specs.declared.lines.Line.{Line}
use Rattle.plan_lang.specs.Sessions.{fits_session, session_behind}
use Rattle.node_faults.specs.declared.NodeFault.TheVariants as fault
use Rattle.rdf_core.specs.declared.replies.Reply.{Reply}
use Rattle.rdf_core.specs.declared.replies.Reply.TheVariants.{Done}
use Rattle.rdf_core.specs.Allowed.{has_names}
use Rattle.rdf_core.specs.Effects.{count_u64}
use Rattle.rdf_core.specs.State.{State}
use Rattle.rdf_system.specs.declared.fault.StepFault.{StepFault}
use Rattle.rdf_system.specs.declared.system.System.{System}
use Rattle.rdf_system.specs.Lines.{Leaves, Performs, FailsBy, IsFused, ends_on, stops_in}
use Rattle.rdf_system.specs.Place.{IfUsed, is_used}
use Rattle.rdf_system.specs.Sessions.{node_of, used_by}
use Rattle.rdf_system.specs.Stances.{IsJudged, IsMoved, StandsAs}
use Rattle.rdf_system.specs.States.{disk_of, layout_of, IsAtState, DisksStandFor}
use Rattle.rdf_run.specs.Going.{Went, RanTo, BrokeIn}
use Rattle.rdf_run.specs.Judging.{Anyhow}
use Rattle.rdf_run.specs.Replies.{MayGet}
use Rattle.rdf_run.specs.Rising.{CountsRose, disks_many, sums_of}
use Rattle.rdf_run.proofs.Judged.{judges_on, went_anyhow}
use Rattle.rdf_run.proofs.LineCounts.{LineStops, rises_by, may_count}
use Rattle.rdf_run.proofs.Places.{at_each_same, if_used_same}
use Rattle.rdf_run.proofs.Rises.{one_some, rose_none, sum_below-none}
use Rattle.rdf_run.proofs.Runs.{RunLaws}
use Rattle.rdf_run.proofs.Steps as run

-- no stop more
pub leaves_none : {D : Type 0} {d : Ghosts D} (files : D → Disk) (layout : Layout) (s : State) (l : Line) (counted : State) (new : System D d) → Leaves files layout s l counted (λ node. 0) new → Leaves files layout s l counted (sums_of layout (λ node i. 0)) new
leaves_none files layout s l counted new h = record {
  mid = h.mid;
  drifts = h.drifts;
  left = h.left;
  leaves = h.leaves;
  stands = h.stands;
  stops = λ node n e. subst (λ k. stops_in h.left node ≡ count_u64 (n + k)) (sym (sum_below-none (disks_many layout node))) (h.stops node n e);
}

module _ {D : Type 0} {d : Ghosts D} (laws : RunLaws) (tells : Type 0) (files : D → Disk) (counts : D → Counts) (layout : Layout) (lines : List Line) (replies : List Reply) (l : Line) (start : Node → ℕ → Option D) (old new : System D d)
    (laid : layout_of old ≡ layout) (went : Went true tells counts layout lines replies start (disk_of old) (RanTo layout lines replies (λ s. IsAtState files layout s old)) (StandsAs old)) where
  abbrev At : State → Type 0
  At s = IsAtState files layout s old

  module _ (reply : Reply) (performs : tells → Performs files l (Ok reply) old new) (ls : LineStops counts (layout_of old) (disk_of old) (disk_of new) (used_by old.session l) l reply) (fused : IsFused counts l (Ok reply) old new) where
    -- the line was answered
    pub went_on : MayGet (session_behind None lines) l reply → IsJudged l (Ok reply) old → IsMoved l (Ok reply) old new →
        Went true tells counts layout (lines ++ l ∷ []) (replies ++ reply ∷ []) start (disk_of new) (RanTo layout (lines ++ l ∷ []) (replies ++ reply ∷ []) (λ s. IsAtState files layout s new)) (StandsAs new)
    went_on kind judged moved = run.went_on laws tells files counts layout lines replies l start old new laid (used_by old.session l) At (StandsAs old) went reply (λ t s rise some falls at. performs t layout s rise some falls at) ls fused
        kind (λ s. IsAtState files layout s new) (λ t s mid next at drifts step now. now) (StandsAs new) (judges_on layout l reply old new laid judged moved)

    -- the same, however the nodes stand then
    pub went_half : MayGet (session_behind None lines) l reply → IsJudged l (Ok reply) old → IsMoved l (Ok reply) old new →
        Went true tells counts layout (lines ++ l ∷ []) (replies ++ reply ∷ []) start (disk_of new) (RanTo layout (lines ++ l ∷ []) (replies ++ reply ∷ []) (λ s. IsAtState files layout s new)) Anyhow
    went_half kind judged moved = went_anyhow true tells counts layout (lines ++ l ∷ []) (replies ++ reply ∷ []) start (disk_of new) (RanTo layout (lines ++ l ∷ []) (replies ++ reply ∷ []) (λ s. IsAtState files layout s new)) (StandsAs new) (went_on kind judged moved)

    -- the line was performed, and there was no memory for its reply
    pub broke_after : layout_of new ≡ layout_of old → has_names (layout_of old) l ≡ true → fits_session (node_of old.session) l ≡ true → reply ≢ Done →
        Went false tells counts layout lines replies start (disk_of new) (BrokeIn layout lines replies l (λ s. DisksStandFor files layout s new)) Anyhow
    broke_after same names fits ne = run.broke_after laws tells files counts layout lines replies l start old new laid (used_by old.session l) At (StandsAs old) went reply (λ t s rise some falls at. performs t layout s rise some falls at) ls fused
        new same names fits (λ t s at. at) ne (λ node i. 0)
        (at_each_same (λ node i a b. IfUsed (is_used layout node i) (λ p q. CountsRose 0 0 (counts p) (counts q)) a b) (disk_of new) (disk_of new) (λ node i. refl)
        (λ node i a. if_used_same (is_used layout node i) (λ p q. CountsRose 0 0 (counts p) (counts q)) a (record { fuses_are = refl; stops_are = rose_none (counts a).stops (counts a).stops refl })))
        (λ t. let f = run.follows laws tells files counts layout lines replies l start old new laid (used_by old.session l) At (StandsAs old) went reply (λ t s rise some falls at. performs t layout s rise some falls at) ls fused t in
        leaves_none files layout (went.run t).state l f.next new (f.leaves ne))

  -- the line was broken off by a fault of a node
  pub broke_off : (why : StepFault) (fails : FailsBy counts l why.node why.fault old new) → (tells → Performs files l (Err why) old new) → ((disk : ℕ) → why.fault ≢ fault.Stopped disk) → IsFused counts l (Err why) old new → has_names (layout_of old) l ≡ true → fits_session (node_of old.session) l ≡ true →
      Went false tells counts layout lines replies start (disk_of new) (BrokeIn layout lines replies l (λ s. DisksStandFor files layout s new)) Anyhow
  broke_off why fails performs never fused names fits = run.broke_off laws tells files counts layout lines replies l start old new laid (used_by old.session l) At (StandsAs old) went (ends_on why.node fails.2.0) fails.2.1.1 (Err why) not_done fused names fits (λ t s at. at)
      (λ t s falls at. performs t layout s 1 one_some falls at (sums_of layout (rises_by counts (layout_of old) (disk_of old) (disk_of new) (ends_on why.node fails.2.0)))
      (may_count counts (layout_of old) (disk_of old) (disk_of new) l why.node why.fault fails.2.0 (disks_many layout) never fails.2.1.0))
    where
      not_done : (let result : Result Reply StepFault = Err why in result ≢ Ok Done)
      not_done e = cc
