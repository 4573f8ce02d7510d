-- The lines of a session that was begun, as they were driven in it.
use Rattle.std.proofs.Common.{◌≡◌, false, ◌≢◌, ℕ, List, Option, None, Some, Result, sym, ap, ◌∙◌, subst}
use Rattle.std.specs.Prelude.{IfSome}
use Rattle.rdf_types.specs.declared.records.Node.{Node}
use Rattle.rdf_disk.specs.Files.{Disk}
use Rattle.rdf_disk.specs.Counts.{Counts}
use Rattle.rdf_disk.specs.declared.disk.Disk.{Ghosts}
use Rattle.plan_lang.specs.declared.lines.Line.{Line}
use Rattle.node_faults.specs.declared.NodeFault.{NodeFault}
use Rattle.node_faults.specs.declared.NodeFault.TheVariants as fault
use Rattle.rdf_core.specs.declared.replies.Reply.{Reply}
use Rattle.rdf_monitor.specs.Output.{Output}
use Rattle.rdf_system.specs.declared.session.SessionState.TheVariants as system
use Rattle.rdf_system.specs.declared.system.System.{System}
use Rattle.rdf_system.specs.declared.fault.StepFault.{StepFault}
use Rattle.rdf_system.specs.declared.opened.Broken.{Broken}
use Rattle.rdf_system.specs.declared.opened.Broken.TheVariants as broken
use Rattle.rdf_system.specs.Closing.{HasRunIn, first_of_both}
use Rattle.rdf_run.specs.Behind.{first_behind}
use Rattle.rdf_system.specs.Opened.{OpenView, IsOpenAt, MayOpen}
use Rattle.rdf_system.specs.Sessions.{node_of}
use Rattle.rdf_run.specs.Stretches.{Drove, HasDriven}
use Rattle.rdf_run.specs.declared.session_lines.Met.{Met}
use Rattle.rdf_run.specs.declared.session_lines.Met.TheVariants as met

same_name : (x y : Node) → system.Open x false ≡ system.Open y false → x ≡ y
same_name x y e = cc

-- the value in a place that is filled
pub in_place : {X : Type 0} (o : Option X) (x : X) → o ≡ Some x → (P : X → Type 0) → IfSome o P → P x
in_place o x is P h = subst (λ k. IfSome k P) is h

-- and what is of the value is of what stands there
pub of_value : {X : Type 0} (o : Option X) (x : X) → o ≡ Some x → (P : X → Type 0) → P x → IfSome o P
of_value o x e P p = subst (λ y. IfSome y P) (sym e) p

-- the node of a session that may be begun
pub open_node : {D : Type 0} {d : Ghosts D} (name : Node) (sys : System D d) → MayOpen name sys → node_of sys.session ≡ Some name
open_node name sys may = ap node_of may.open_is

module _ {D O X : Type 0} {d : Ghosts D} (given : O → O → Output) (faults : O → ℕ) (tells : Type 0) (files : D → Disk) (counts : D → Counts) (node : Node) (lines : List Line) (answered : ℕ) (ended : Met) (told : Result Reply NodeFault) (out now_out : O) (old new : System D d)
    (drives : OpenView D d → X → OpenView D d → Type 0) (x : X) (may : MayOpen node old) where
  pub has_driven : HasRunIn tells files counts drives x told old new → ((opened closed : OpenView D d) → drives opened x closed → IsOpenAt tells files counts opened → opened.session.met ≡ None → Drove given faults tells files counts lines answered ended out now_out opened closed) →
      HasDriven given faults tells files counts node lines answered ended told out now_out old new
  has_driven h drove_by = record {
    opened = h.opened;
    closed = h.closed;
    begins = h.begins;
    named = ap (λ n. n.name) h.lent ∙ same_name h.opened.node.name node (sym h.begins.is_open.open_is ∙ h.begins.session_is ∙ may.open_is);
    lent = h.lent;
    drove = drove;
    closes = h.closes drove.still_open;
  }
    where
      drove : Drove given faults tells files counts lines answered ended out now_out h.opened h.closed
      drove = drove_by h.opened h.closed h.driven h.begins.is_open h.begins.unmet

-- a line of the primary or of the sender's side was broken off by a fault that is no stop
pub line_unstopped : (m : Met) (why : Broken) (f r : StepFault) (node : Node) (told : Result Reply NodeFault) → m ≡ met.Broken why → why ≡ broken.Line f → ((disk : ℕ) → IfSome (first_behind m node told) (λ x. x.fault ≢ fault.Stopped disk)) → r ≡ first_of_both f node told →
    (disk : ℕ) → r.fault ≢ fault.Stopped disk
line_unstopped m why f r node told is why_is never r_is disk =
    subst (λ (x : StepFault). x.fault ≢ fault.Stopped disk) (sym r_is) (subst (λ (k : Met). IfSome (first_behind k node told) (λ x. x.fault ≢ fault.Stopped disk)) (is ∙ ap (λ (k : Broken). met.Broken k) why_is) (never disk))
