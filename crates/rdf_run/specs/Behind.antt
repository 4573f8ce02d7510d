-- Why a run ends with a session, by how its lines came to their end and what is told then.
use Rattle.std.specs.Prelude.{◌≡◌, ℕ, ◌<◌, ◌≤◌, Bool, true, false, List, length, take, drop, Option, Some, None, Result, Ok, Err}
use Rattle.rdf_types.specs.declared.records.Node.{Node}
use Rattle.rdf_types.specs.declared.records.Node.TheVariants.{A}
use Rattle.node_faults.specs.declared.NodeFault.{NodeFault}
use Rattle.node_faults.specs.declared.NodeFault.TheVariants as node
use Rattle.plan_lang.specs.declared.lines.Line.{Line}
use Rattle.plan_lang.specs.Sessions.{session_behind, KeepSessions}
use Rattle.rdf_core.specs.declared.replies.Reply.{Reply}
use Rattle.rdf_core.specs.declared.replies.Reply.TheVariants.{Stopped}
use Rattle.rdf_monitor.specs.declared.fault.AnswerFault.TheVariants as answer
use Rattle.rdf_system.specs.declared.fault.StepFault.{StepFault}
use Rattle.rdf_system.specs.declared.opened.Broken.TheVariants as broken
use Rattle.rdf_system.specs.Closing.{first_of_both}
use Rattle.rdf_run.specs.declared.run_fault.RunFault.{RunFault}
use Rattle.rdf_run.specs.declared.run_fault.RunFault.TheVariants as run
use Rattle.rdf_run.specs.declared.session_lines.Met.{Met}
use Rattle.rdf_run.specs.declared.session_lines.Met.TheVariants as met
use Rattle.rdf_run.specs.RunFaults.{fault_of_node}

-- something was met in the session: a disk of its node stopped, or it is a fault
abbrev pub has_met : Result Reply NodeFault → Bool
has_met (Ok (Stopped named)) = true
has_met (Ok _) = false
has_met (Err why) = true

-- there was no memory for the text of a reply
abbrev pub no_text : StepFault
no_text = record { node = A; fault = node.NoMemory }

-- the first fault, where a line of the primary or of the sender's side was broken off, or a reply was not written for want of memory
abbrev pub first_behind : Met → Node → Result Reply NodeFault → Option StepFault
first_behind (met.Broken (broken.Line why)) name told = Some (first_of_both why name told)
first_behind (met.Unwritten answer.NoMemory) name told = Some (first_of_both no_text name told)
first_behind _ name told = None

-- why the run ends; where it does not, the next line is answered by what is told
abbrev pub fault_behind : Met → Node → Result Reply NodeFault → Option RunFault
fault_behind met.End name told = None
fault_behind (met.Broken (broken.Own why)) name told = None
fault_behind (met.Broken (broken.Line why)) name told = Some (fault_of_node (first_of_both why name told))
fault_behind (met.Unwritten answer.Write) name told = Some (run.Write (has_met told))
fault_behind (met.Unwritten answer.NoMemory) name told = Some (fault_of_node (first_of_both no_text name told))
fault_behind met.Unbegun name told = Some run.NoMemory

-- some lines of a session of the node were answered, so that this session is open now, or none
pub record GoesBehind (node : Node) (of : Option Node) (lines : List Line) (answered : ℕ) : Type 0 where
  pub some : 0 < answered
  pub within : answered ≤ length lines
  pub behind : session_behind (Some node) (take answered lines) ≡ of
  pub sessions : KeepSessions of (drop answered lines)
