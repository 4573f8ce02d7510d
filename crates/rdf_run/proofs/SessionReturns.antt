-- How the end of a session went for each disk that comes back.
use Rattle.std.proofs.Common.{◌≡◌, ◌≢◌, ℕ, suc, ◌<◌, Bool, true, false, not, ◌&&◌, ◌||◌, ◌==◌, nat_lt, Some, None, Result, Ok, Err, refl, sym, ◌∙◌, subst, if◌then◌else◌, arith}
use Rattle.std.specs.Prelude.{IfErr}
use Rattle.std.proofs.lemmas.Bool.{true≢false, eqb-true, ltb-true}
use Rattle.std.proofs.lemmas.Bool.Decides.{nat_tests}
use Rattle.rdf_types.specs.declared.records.Node.{Node}
use Rattle.rdf_types.specs.declared.records.Node.TheVariants.{A, B, C}
use Rattle.rdf_disk.specs.Counts.{Counts, Ending}
use Rattle.rdf_disk.specs.Counts.Ending.{Fine, Stop, Fault}
use Rattle.rdf_disk.specs.declared.disk.Disk.{Ghosts}
use Rattle.plan_lang.specs.declared.lines.Line.{Line}
use Rattle.plan_lang.specs.LineText.{same_node}
use Rattle.node_faults.specs.declared.NodeFault.{NodeFault}
use Rattle.node_faults.specs.declared.NodeFault.TheVariants as fault
use Rattle.node_faults.specs.Faults.{ending_at, ending_for, IsNamed}
use Rattle.node_disks.specs.Counting.{Tells}
use Rattle.rdf_backup.specs.Beside.{EndsBeside, IsFirst}
use Rattle.rdf_backup.specs.FirstFaults.{rank}
use Rattle.rdf_core.specs.declared.replies.Reply.{Reply}
use Rattle.rdf_core.specs.Allowed.{is_node}
use Rattle.rdf_system.specs.declared.fault.StepFault.{StepFault}
use Rattle.rdf_system.specs.declared.system.System.{System}
use Rattle.rdf_system.specs.Closing.{ends_of_both, Answers, IsCausedInSession}
use Rattle.rdf_system.specs.Place.{IfUsed, is_used}
use Rattle.rdf_system.specs.States.{disk_of, layout_of}
use Rattle.rdf_run.specs.Returned.{EndedSo, ReturnIn, NoneFailed, may_fail}
use Rattle.rdf_run.specs.RunFaults.{fault_at_node, status_of_run}
use Rattle.rdf_run.specs.declared.status.Status.TheVariants.{DeviceFault, WriteFault}
use Rattle.rdf_run.proofs.LineCounts.{Each}
use Rattle.rdf_run.proofs.Places.{if_both_so, if_used_so}
use Rattle.rdf_run.proofs.Rises.{one_some}
use Rattle.rdf_run.proofs.Returns.{returned_by, same_faults, not_failed, no_less, has_failed, named_used, used_place}

fine_no_fault : Fine ≢ Fault
fine_no_fault e = cc

-- ---- one place, by tests on it

-- A disk of the session's node is told: none before it on that node failed, and none of the primary.
told_here : (primary here named behind : Bool) (e other : Ending) (a b : Counts) → primary ≡ false → (named ≡ true → e ≡ Fault) → (named ≡ false → behind ≡ false → e ≢ Fault) → other ≢ Fault →
    Tells (if here then e else other) a b → EndedSo ((primary && here) || (not primary && here && behind)) (if here && named then Fault else Fine) a b
told_here true here named behind e other a b is first before none t = absurd (true≢false is)
told_here false false named behind e other a b is first before none t = not_failed other a b none t
told_here false true true behind e other a b is first before none t = has_failed behind a b (subst (λ (k : Ending). Tells k a b) (first refl) t)
told_here false true false false e other a b is first before none t = not_failed e a b (before refl refl) t
told_here false true false true e other a b is first before none t = no_less e a b t

-- A disk of the primary is told: those of the session's node may have failed as well.
told_primary : (here primary named behind : Bool) (e : Ending) (a b : Counts) → (here ≡ true → primary ≡ false) →
    Tells (if here then e else (if primary then (if named then Fault else Fine) else Fine)) a b → EndedSo ((true && here) || (not true && primary && behind)) (if primary && named then Fault else Fine) a b
told_primary true true named behind e a b apart t = absurd (true≢false (apart refl))
told_primary true false named behind e a b apart t = no_less e a b t
told_primary false false named behind e a b apart t = t.0
told_primary false true true behind e a b apart t = has_failed false a b t
told_primary false true false behind e a b apart t = t.0

-- the sink failed: disks of the session's node may have failed
told_sink : (here : Bool) (e other : Ending) (a b : Counts) → other ≢ Fault → Tells (if here then e else other) a b → EndedSo ((true && here) || false) Fine a b
told_sink true e other a b none t = no_less e a b t
told_sink false e other a b none t = not_failed other a b none t

-- what is not of the session's node is the primary's, or well
other_fine : (primary : Bool) (e : Ending) → e ≢ Fault → (if primary then e else Fine) ≢ Fault
other_fine true e ne = ne
other_fine false e ne = fine_no_fault

-- a backup's disks are none of the primary's
apart_from : (name node : Node) → same_node name A ≡ false → same_node name node ≡ true → same_node A node ≡ false
apart_from name A away here = absurd (true≢false (sym here ∙ away))
apart_from name B away here = refl
apart_from name C away here = refl

-- a fault that is none of a disk fails none
no_fault_at : (why : NodeFault) → 0 < rank why → (i : ℕ) → ending_at i why ≢ Fault
no_fault_at (fault.Failed disk) lt i = absurd (omega (arith, lt))
no_fault_at (fault.Stopped disk) lt i = elim (disk == i) as (λ b. (if b then Stop else Fine) ≢ Fault) [ true ↦ (λ e. cc) | false ↦ (λ e. cc) ]
no_fault_at fault.NoMemory lt i = fine_no_fault
no_fault_at (fault.Damaged disk file at) lt i = fine_no_fault

-- the ranks of faults that are none of a disk that failed
two_some : 0 < 2
two_some = omega arith

three_some : 0 < 3
three_some = omega arith

first_no_fault : (why : NodeFault) (ends : ℕ → Ending) → 0 < rank why → IsFirst why ends → (i : ℕ) → ends i ≢ Fault
first_no_fault (fault.Failed disk) ends lt h i = absurd (omega (arith, lt))
first_no_fault (fault.Stopped disk) ends lt h i = h.1 i
first_no_fault fault.NoMemory ends lt h i = h i
first_no_fault (fault.Damaged disk file at) ends lt h i = h i

-- where what the session's node met does not come before such a fault, none of its disks failed
unfailed : (met : Result (Unit {0}) NodeFault) (ends : ℕ → Ending) → EndsBeside met ends → (least : ℕ) → 0 < least → IfErr met (λ other. nat_lt (rank other) least ≡ false) → (i : ℕ) → ends i ≢ Fault
unfailed (Ok x) ends fine least some later i = λ e. fine_no_fault (sym (fine i) ∙ e)
unfailed (Err why) ends first least some later i = first_no_fault why ends (above (rank why) least some later) first i
  where
    above : (m n : ℕ) → 0 < n → nat_lt m n ≡ false → 0 < m
    above m n lt less = grind (arith, nat_tests)

module _ {D : Type 0} {d : Ghosts D} (counts : D → Counts) (name : Node) (away : same_node name A ≡ false) (old new : System D d) where
  abbrev EndsAs : Result (Unit {0}) NodeFault → (ℕ → Ending) → Type 0
  EndsAs line ends = Each counts (layout_of old) (disk_of old) (disk_of new) (λ node i a b. Tells (ends_of_both name line ends node i) (counts a) (counts b))

  abbrev There : Type 0
  There = (node : Node) (i : ℕ) → is_used (layout_of old) node i ≡ true → disk_of old node i ≢ None

  -- no disk failed, where none of the session's node did and none of the primary
  pub none_told : (line : Result (Unit {0}) NodeFault) (ends : ℕ → Ending) → ((i : ℕ) → ends i ≢ Fault) → ((i : ℕ) → ending_for i line ≢ Fault) → EndsAs line ends → NoneFailed counts (disk_of old) (disk_of new)
  none_told line ends here there each = same_faults counts (layout_of old) (disk_of old) (disk_of new) (ends_of_both name line ends) (λ node i. at_place (same_node name node) (same_node A node) i) each
    where
      at_place : (b p : Bool) (i : ℕ) → (if b then ends i else (if p then ending_for i line else Fine)) ≢ Fault
      at_place true p i = here i
      at_place false p i = other_fine p (ending_for i line) (there i)

  -- the sink failed, whatever disks of the session's node met
  pub sink_told : (line : Result (Unit {0}) NodeFault) (ends : ℕ → Ending) → ((i : ℕ) → ending_for i line ≢ Fault) → EndsAs line ends → There → ReturnIn counts (Some name) WriteFault (disk_of old) (disk_of new)
  sink_told line ends none each there node i = returned_by counts (is_used (layout_of old) node i) ((true && same_node name node) || false) Fine (disk_of old node i) (disk_of new node i)
      (if_both_so (λ a b. IfUsed (is_used (layout_of old) node i) (λ p q. Tells (ends_of_both name line ends node i) (counts p) (counts q)) a b) (λ a b. IfUsed (is_used (layout_of old) node i) (λ p q. EndedSo ((true && same_node name node) || false) Fine (counts p) (counts q)) a b) (disk_of old node i) (disk_of new node i)
      (λ a b. if_used_so (is_used (layout_of old) node i) (λ p q. Tells (ends_of_both name line ends node i) (counts p) (counts q)) (λ p q. EndedSo ((true && same_node name node) || false) Fine (counts p) (counts q)) a b
      (λ t. told_sink (same_node name node) (ends i) (if same_node A node then ending_for i line else Fine) (counts a) (counts b) (other_fine (same_node A node) (ending_for i line) (none i)) t)) (each node i))
      (λ unused. refl) (there node i)

  -- a disk of the session's node failed, and none of the primary
  node_told : (disk : ℕ) (line : Result (Unit {0}) NodeFault) (ends : ℕ → Ending) → is_used (layout_of old) name disk ≡ true → IsFirst (fault.Failed disk) ends → ((i : ℕ) → ending_for i line ≢ Fault) → EndsAs line ends → There →
      ReturnIn counts (Some name) (DeviceFault name disk) (disk_of old) (disk_of new)
  node_told disk line ends used first none each there node i = returned_by counts (is_used (layout_of old) node i) (may_fail (Some name) (DeviceFault name disk) node i) (if same_node name node && disk == i then Fault else Fine) (disk_of old node i) (disk_of new node i)
      (if_both_so (λ a b. IfUsed (is_used (layout_of old) node i) (λ p q. Tells (ends_of_both name line ends node i) (counts p) (counts q)) a b)
      (λ a b. IfUsed (is_used (layout_of old) node i) (λ p q. EndedSo (may_fail (Some name) (DeviceFault name disk) node i) (if same_node name node && disk == i then Fault else Fine) (counts p) (counts q)) a b) (disk_of old node i) (disk_of new node i)
      (λ a b. if_used_so (is_used (layout_of old) node i) (λ p q. Tells (ends_of_both name line ends node i) (counts p) (counts q)) (λ p q. EndedSo (may_fail (Some name) (DeviceFault name disk) node i) (if same_node name node && disk == i then Fault else Fine) (counts p) (counts q)) a b
      (λ t. told_here (same_node name A) (same_node name node) (disk == i) (nat_lt disk i) (ends i) (if same_node A node then ending_for i line else Fine) (counts a) (counts b) away
      (λ here. subst (λ n. ends n ≡ Fault) (eqb-true disk i here) first.0) (λ other before. first.1 i (below disk i other before)) (other_fine (same_node A node) (ending_for i line) (none i)) t)) (each node i))
      (λ unused. named_used Fault (layout_of old) name node disk i used unused) (there node i)
    where
      below : (m n : ℕ) → (m == n) ≡ false → nat_lt m n ≡ false → n < m
      below m n other before = grind (arith, nat_tests)

  -- a disk of the primary failed
  primary_told : (disk : ℕ) (ends : ℕ → Ending) → is_used (layout_of old) A disk ≡ true → EndsAs (Err (fault.Failed disk)) ends → There → ReturnIn counts (Some name) (DeviceFault A disk) (disk_of old) (disk_of new)
  primary_told disk ends used each there node i = returned_by counts (is_used (layout_of old) node i) (may_fail (Some name) (DeviceFault A disk) node i) (if same_node A node && disk == i then Fault else Fine) (disk_of old node i) (disk_of new node i)
      (if_both_so (λ a b. IfUsed (is_used (layout_of old) node i) (λ p q. Tells (ends_of_both name (Err (fault.Failed disk)) ends node i) (counts p) (counts q)) a b)
      (λ a b. IfUsed (is_used (layout_of old) node i) (λ p q. EndedSo (may_fail (Some name) (DeviceFault A disk) node i) (if same_node A node && disk == i then Fault else Fine) (counts p) (counts q)) a b) (disk_of old node i) (disk_of new node i)
      (λ a b. if_used_so (is_used (layout_of old) node i) (λ p q. Tells (ends_of_both name (Err (fault.Failed disk)) ends node i) (counts p) (counts q)) (λ p q. EndedSo (may_fail (Some name) (DeviceFault A disk) node i) (if same_node A node && disk == i then Fault else Fine) (counts p) (counts q)) a b
      (λ t. told_primary (same_node name node) (same_node A node) (disk == i) (nat_lt disk i) (ends i) (counts a) (counts b) (apart_from name node away) t)) (each node i))
      (λ unused. named_used Fault (layout_of old) A node disk i used unused) (there node i)

  -- a fault of the session's node is told
  at_node : (why : NodeFault) (line : Result (Unit {0}) NodeFault) (ends : ℕ → Ending) → is_node (layout_of old) name ≡ true → IsNamed (suc (layout_of old).volumes) why → IsFirst why ends → ((i : ℕ) → ending_for i line ≢ Fault) → EndsAs line ends → There →
      ReturnIn counts (Some name) (status_of_run (fault_at_node name why)) (disk_of old) (disk_of new)
  at_node (fault.Failed disk) line ends has few first none each there = node_told disk line ends (used_place (layout_of old) name disk has few) first none each there
  at_node (fault.Stopped disk) line ends has few first none each there = none_told line ends first.1 none each
  at_node fault.NoMemory line ends has few first none each there = none_told line ends first none each
  at_node (fault.Damaged disk file at) line ends has few first none each there = none_told line ends first none each

  -- a fault of the primary is told, and none of the session's node comes before it
  at_primary : (why : NodeFault) (met : Result (Unit {0}) NodeFault) (ends : ℕ → Ending) → is_node (layout_of old) A ≡ true → IsNamed (suc (layout_of old).volumes) why → EndsBeside met ends → IfErr met (λ other. nat_lt (rank other) (rank why) ≡ false) → EndsAs (Err why) ends → There →
      ReturnIn counts (Some name) (status_of_run (fault_at_node A why)) (disk_of old) (disk_of new)
  at_primary (fault.Failed disk) met ends has few beside later each there = primary_told disk ends (used_place (layout_of old) A disk has few) each there
  at_primary (fault.Stopped disk) met ends has few beside later each there = none_told (Err (fault.Stopped disk)) ends (unfailed met ends beside 3 three_some later) (no_fault_at (fault.Stopped disk) three_some) each
  at_primary fault.NoMemory met ends has few beside later each there = none_told (Err fault.NoMemory) ends (unfailed met ends beside 2 two_some later) (no_fault_at fault.NoMemory two_some) each
  at_primary (fault.Damaged disk file at) met ends has few beside later each there = none_told (Err (fault.Damaged disk file at)) ends (unfailed met ends beside 1 one_some later) (no_fault_at (fault.Damaged disk file at) one_some) each

  -- no disk failed over a line that was answered at the end of its session
  pub returned_told : (l : Line) (reply : Reply) → IsCausedInSession counts name l (Ok reply) old new → NoneFailed counts (disk_of old) (disk_of new)
  returned_told l reply h = by_answer h.line h.met h.answers h.beside h.each
    where
      by_answer : (line met : Result (Unit {0}) NodeFault) → Answers name line met (Ok reply) → EndsBeside met h.ends → EndsAs line h.ends → NoneFailed counts (disk_of old) (disk_of new)
      by_answer (Ok x) (Ok y) ne beside each = none_told (Ok x) h.ends (λ i e. fine_no_fault (sym (beside i) ∙ e)) (λ i. fine_no_fault) each
      by_answer (Ok x) (Err why) is beside each =
          let stop : IsFirst (fault.Stopped is.1.0) h.ends = subst (λ (f : NodeFault). IsFirst f h.ends) is.1.1 beside in
          none_told (Ok x) h.ends stop.1 (λ i. fine_no_fault) each
      by_answer (Err why) met never beside each = absurd never

  -- so the disks come back where that fault is told
  abbrev Goal : StepFault → Type 0
  Goal f = ReturnIn counts (Some name) (status_of_run (fault_at_node f.node f.fault)) (disk_of old) (disk_of new)

  -- the fault that a line was broken off by, or that the session's end told before it
  pub returned_off_told : (l : Line) (told : StepFault) → is_node (layout_of old) name ≡ true → is_node (layout_of old) A ≡ true → (h : IsCausedInSession counts name l (Err told) old new) → There →
      ReturnIn counts (Some name) (status_of_run (fault_at_node told.node told.fault)) (disk_of old) (disk_of new)
  returned_off_told l told has primary h there = by_answer h.line h.met h.answers h.met_named h.beside h.each h.named.1
    where
      few_of : {f : StepFault} → told ≡ f → IsNamed (suc (layout_of old).volumes) told.fault → IsNamed (suc (layout_of old).volumes) f.fault
      few_of e few = subst (λ (k : StepFault). IsNamed (suc (layout_of old).volumes) k.fault) e few

      by_order : (why met : NodeFault) (b : Bool) → nat_lt (rank met) (rank why) ≡ b → told ≡ (if b then record { node = name; fault = met } else record { node = A; fault = why }) → IsNamed (suc (layout_of old).volumes) met → IsFirst met h.ends → EndsAs (Err why) h.ends →
          IsNamed (suc (layout_of old).volumes) told.fault → Goal told
      by_order why met true e is named beside each few =
          subst (λ (f : StepFault). Goal f) (sym is) (at_node met (Err why) h.ends has named beside (no_fault_at why (above (rank met) (rank why) e)) each there)
        where
          above : (m n : ℕ) → nat_lt m n ≡ true → 0 < n
          above m n q = omega (arith, ltb-true m n q)
      by_order why met false e is named beside each few =
          subst (λ (f : StepFault). Goal f) (sym is) (at_primary why (Err met) h.ends primary (few_of is few) beside e each there)

      by_answer : (line met : Result (Unit {0}) NodeFault) → Answers name line met (Err told) → IfErr met (λ why. IsNamed (suc (layout_of old).volumes) why) → EndsBeside met h.ends → EndsAs line h.ends → IsNamed (suc (layout_of old).volumes) told.fault → Goal told
      by_answer (Ok x) (Ok y) never named beside each few = absurd never
      by_answer (Ok x) (Err why) is named beside each few = subst (λ (f : StepFault). Goal f) (sym is.0) (at_node why (Ok x) h.ends has named beside (λ i. fine_no_fault) each there)
      by_answer (Err why) (Ok y) is named beside each few = subst (λ (f : StepFault). Goal f) (sym is) (at_primary why (Ok y) h.ends primary (few_of is few) beside tt each there)
      by_answer (Err why) (Err met) is named beside each few = by_order why met (nat_lt (rank met) (rank why)) refl is named beside each few
