-- The counts of the disks over the end of a session, where several of its node may have stopped or failed.
use Rattle.std.proofs.Common.{◌≡◌, ◌≢◌, ◌⊎◌, inl, inr, ℕ, zero, suc, ◌+◌, Bool, true, false, Option, Some, Result, Ok, Err, refl, sym, ap, ap₂, ◌∙◌, subst, if◌then◌else◌}
use Rattle.std.specs.Prelude.{IsTrue, IfErr}
use Rattle.std.proofs.lemmas.Bool.{true≢false}
use Rattle.rdf_types.specs.declared.records.Node.{Node}
use Rattle.rdf_types.specs.declared.records.Node.TheVariants.{A}
use Rattle.rdf_disk.specs.Counts.{Counts, Ending}
use Rattle.rdf_disk.specs.Counts.Ending.{Fine, Stop, Fault}
use Rattle.rdf_disk.specs.declared.disk.Disk.{Ghosts}
use Rattle.plan_lang.specs.declared.lines.Line.{Line}
use Rattle.plan_lang.specs.LineText.{same_node}
use Rattle.node_faults.specs.declared.NodeFault.{NodeFault}
use Rattle.node_faults.specs.declared.NodeFault.TheVariants as fault
use Rattle.node_faults.specs.Faults.{ending_for, IsNamed}
use Rattle.node_disks.specs.Counting.{Tells}
use Rattle.rdf_backup.specs.Beside.{EndsBeside, IsFirst}
use Rattle.rdf_backup.specs.Rising.{is_of_protected}
use Rattle.rdf_core.specs.declared.replies.Reply.{Reply}
use Rattle.rdf_core.specs.declared.replies.Reply.TheVariants.{Stopped}
use Rattle.rdf_core.specs.Allowed.{is_node}
use Rattle.rdf_core.specs.Layouts.{protects}
use Rattle.rdf_core.specs.SessionLaws.{node_same}
use Rattle.rdf_core.specs.Step.{is_of_session}
use Rattle.rdf_system.specs.declared.fault.StepFault.{StepFault}
use Rattle.rdf_system.specs.declared.system.System.{System}
use Rattle.rdf_system.specs.Closing.{ends_of_both, Answers, IsCausedInSession, MayCountIn}
use Rattle.rdf_system.specs.Lines.{ends_on}
use Rattle.rdf_system.specs.States.{disk_of, layout_of}
use Rattle.rdf_run.specs.Rising.{sum_below, disks_many, sums_of}
use Rattle.rdf_run.specs.StopsTold.{uses_of, NoneStopped}
use Rattle.rdf_run.proofs.Rises.{one_some, sum_below-none, sum_below-zero}
use Rattle.rdf_run.proofs.LineCounts.{Each, each_so, none_stops, stops_by, none_by, rises_by, LineStops, not_counted, stopped_stops, no_stop}

-- where nothing was met at the primary, only the disks of the session's node count
no_line : (here primary : Bool) (e : Ending) → (if here then e else (if primary then Fine else Fine)) ≡ (if here then e else Fine)
no_line true primary e = refl
no_line false true e = refl
no_line false false e = refl

-- where nothing was met at all, none does
no_ends : (here primary : Bool) (e : Ending) → e ≡ Fine → (if here then e else (if primary then Fine else Fine)) ≡ Fine
no_ends true primary e is = is
no_ends false true e is = refl
no_ends false false e is = refl

fine_no_stop : Fine ≢ Stop
fine_no_stop e = cc

fault_stop : Fault ≢ Stop
fault_stop e = cc

stop_fine : Stop ≢ Fine
stop_fine e = cc

module _ {D : Type 0} {d : Ghosts D} (counts : D → Counts) (name : Node) (l : Line) (old new : System D d) where
  abbrev EndsAs : Result (Unit {0}) NodeFault → (ℕ → Ending) → Type 0
  EndsAs line ends = Each counts (layout_of old) (disk_of old) (disk_of new) (λ node i a b. Tells (ends_of_both name line ends node i) (counts a) (counts b))

  on_name : (ends : ℕ → Ending) → EndsAs (Ok tt) ends → Each counts (layout_of old) (disk_of old) (disk_of new) (λ node i a b. Tells (ends_on name ends node i) (counts a) (counts b))
  on_name ends h = each_so counts (layout_of old) (disk_of old) (disk_of new) (λ node i a b. Tells (ends_of_both name (Ok tt) ends node i) (counts a) (counts b)) (λ node i a b. Tells (ends_on name ends node i) (counts a) (counts b))
      (λ node i a b t. subst (λ (e : Ending). Tells e (counts a) (counts b)) (no_line (same_node name node) (same_node A node) (ends i)) t) h

  on_none : (ends : ℕ → Ending) → ((i : ℕ) → ends i ≡ Fine) → EndsAs (Ok tt) ends → Each counts (layout_of old) (disk_of old) (disk_of new) (λ node i a b. Tells Fine (counts a) (counts b))
  on_none ends fine h = each_so counts (layout_of old) (disk_of old) (disk_of new) (λ node i a b. Tells (ends_of_both name (Ok tt) ends node i) (counts a) (counts b)) (λ node i a b. Tells Fine (counts a) (counts b))
      (λ node i a b t. subst (λ (e : Ending). Tells e (counts a) (counts b)) (no_ends (same_node name node) (same_node A node) (ends i) (fine i)) t) h

  -- by how much the stops rose over a line that is answered at the end of its session
  pub told_stops : (reply : Reply) → is_node (layout_of old) name ≡ true → ((of : Node) → uses_of l ≡ Some of → name ≡ of) → IsCausedInSession counts name l (Ok reply) old new → LineStops counts (layout_of old) (disk_of old) (disk_of new) (Some name) l reply
  told_stops reply has own h = by_answer h.line h.met h.answers h.met_named h.beside h.each
    where
      some_is : (of : Node) → (let o : Option Node = Some name in o ≡ Some of) → name ≡ of
      some_is of e = cc

      by_answer : (line met : Result (Unit {0}) NodeFault) → Answers name line met (Ok reply) → IfErr met (λ why. IsNamed (suc (layout_of old).volumes) why) → EndsBeside met h.ends → EndsAs line h.ends → LineStops counts (layout_of old) (disk_of old) (disk_of new) (Some name) l reply
      by_answer (Ok x) (Ok y) ne named beside each = record {
        rise = 1;
        some = one_some;
        more = λ node i. 0;
        disks = none_stops counts (layout_of old) (disk_of old) (disk_of new) (on_none h.ends beside each);
        told = NoneStopped (λ node i. refl) (λ node of. subst (λ (n : Node). reply ≢ Stopped n) (own node of) ne);
        sums = λ near node. sum_below-none (disks_many (layout_of old) node)
            ∙ ap (λ b. if b then 1 else 0) (sym (not_counted counts (layout_of old) (disk_of old) (disk_of new) (Some name) reply node (λ of is. subst (λ (n : Node). reply ≢ Stopped n) (some_is of is) ne)));
      }
      by_answer (Ok x) (Err why) is named beside each =
          let stop : IsFirst (fault.Stopped is.1.0) h.ends = subst (λ (f : NodeFault). IsFirst f h.ends) is.1.1 beside in
          stopped_stops counts (layout_of old) (disk_of old) (disk_of new) (Some name) l reply name (λ e. refl) is.0 is.1.0 h.ends has (subst (λ (f : NodeFault). IsNamed (suc (layout_of old).volumes) f) is.1.1 named) stop.0 (on_name h.ends each)
      by_answer (Err why) met never named beside each = absurd never

  -- how the disk at each place ended
  abbrev pub told_ends : (result : Result Reply StepFault) → IsCausedInSession counts name l result old new → Node → ℕ → Ending
  told_ends result h = ends_of_both name h.line h.ends

  -- a line that met no stop at the primary stops no disk there
  line_no_stop : (line : Result (Unit {0}) NodeFault) → IfErr line (λ why. (disk : ℕ) → why ≢ fault.Stopped disk) → (i : ℕ) → ending_for i line ≢ Stop
  line_no_stop (Ok x) never i = fine_no_stop
  line_no_stop (Err why) never i = no_stop counts (layout_of old) (disk_of old) (disk_of new) why never i

  -- no disk of the node counts a stop, or one of them did not end well
  some_stop : (node : Node) (ends : ℕ → Ending) (n : ℕ) → (sum_below n (λ i. stops_by counts (layout_of old) (disk_of old) (disk_of new) (ends i) (disk_of old node i) (disk_of new node i)) ≡ 0) ⊎ ((i : ℕ) × (ends i ≢ Fine))
  some_stop node ends zero = inl refl
  some_stop node ends (suc n) = by_end (ends n) refl (some_stop node ends n)
    where
      f : ℕ → ℕ
      f i = stops_by counts (layout_of old) (disk_of old) (disk_of new) (ends i) (disk_of old node i) (disk_of new node i)

      by_end : (e : Ending) → ends n ≡ e → (sum_below n f ≡ 0) ⊎ ((i : ℕ) × (ends i ≢ Fine)) → (sum_below n f + f n ≡ 0) ⊎ ((i : ℕ) × (ends i ≢ Fine))
      by_end e is (inr some) = inr some
      by_end Fine is (inl none) = inl (ap₂ (λ a b. a + b) none (none_by counts (layout_of old) (disk_of old) (disk_of new) (ends n) (disk_of old node n) (disk_of new node n) (λ h. fine_no_stop (sym is ∙ h))))
      by_end Fault is (inl none) = inl (ap₂ (λ a b. a + b) none (none_by counts (layout_of old) (disk_of old) (disk_of new) (ends n) (disk_of old node n) (disk_of new node n) (λ h. fault_stop (sym is ∙ h))))
      by_end Stop is (inl none) = inr (n, (λ h. stop_fine (sym is ∙ h)))

  -- so the stops are none, or those of the session's node, which has a protected volume unless the line works its image trails
  pub told_count : (result : Result Reply StepFault) (h : IsCausedInSession counts name l result old new) → MayCountIn (layout_of old) name l (sums_of (layout_of old) (rises_by counts (layout_of old) (disk_of old) (disk_of new) (told_ends result h)))
  told_count result h node = by_same (same_node name node) refl
    where
      many : ℕ
      many = disks_many (layout_of old) node

      by_line : (primary : Bool) → sum_below many (λ i. stops_by counts (layout_of old) (disk_of old) (disk_of new) (if primary then ending_for i h.line else Fine) (disk_of old node i) (disk_of new node i)) ≡ 0
      by_line true = sum_below-zero many (λ i. stops_by counts (layout_of old) (disk_of old) (disk_of new) (ending_for i h.line) (disk_of old node i) (disk_of new node i))
          (λ i. none_by counts (layout_of old) (disk_of old) (disk_of new) (ending_for i h.line) (disk_of old node i) (disk_of new node i) (line_no_stop h.line h.line_unstopped i))
      by_line false = sum_below-none many

      protected_or : (i : ℕ) → (is_of_session l ≡ true) ⊎ (is_of_protected (layout_of old) i ≡ true) → (is_of_session l ≡ true) ⊎ ((vol : ℕ) × IsTrue (protects (layout_of old) vol))
      protected_or i (inl e) = inl e
      protected_or zero (inr e) = absurd (true≢false (sym e))
      protected_or (suc v) (inr e) = inr (v, e)

      by_some : name ≡ node → (sum_below many (λ i. stops_by counts (layout_of old) (disk_of old) (disk_of new) (h.ends i) (disk_of old node i) (disk_of new node i)) ≡ 0) ⊎ ((i : ℕ) × (h.ends i ≢ Fine)) →
          (sum_below many (λ i. stops_by counts (layout_of old) (disk_of old) (disk_of new) (h.ends i) (disk_of old node i) (disk_of new node i)) ≡ 0) ⊎ ((node ≡ name) × ((is_of_session l ≡ true) ⊎ ((vol : ℕ) × IsTrue (protects (layout_of old) vol))))
      by_some is (inl none) = inl none
      by_some is (inr some) = inr (sym is, protected_or some.0 (h.volumes some.0 some.1))

      by_same : (b : Bool) → same_node name node ≡ b →
          (sum_below many (λ i. stops_by counts (layout_of old) (disk_of old) (disk_of new) (if b then h.ends i else (if same_node A node then ending_for i h.line else Fine)) (disk_of old node i) (disk_of new node i)) ≡ 0)
          ⊎ ((node ≡ name) × ((is_of_session l ≡ true) ⊎ ((vol : ℕ) × IsTrue (protects (layout_of old) vol))))
      by_same true e = by_some (node_same name node e) (some_stop node h.ends many)
      by_same false e = inl (by_line (same_node A node))
