-- Which reply the system gives to a line, whatever its disks tell.
use Rattle.std.specs.Prelude.{◌≡◌, ◌⊎◌, ℕ, true, false, Bool, Option, Some, None, Result, Ok, Err, IfOk}
use Rattle.rdf_types.specs.declared.records.Node.{Node}
use Rattle.rdf_disk.specs.declared.disk.Disk.{Ghosts}
use Rattle.plan_lang.specs.declared.lines.Line.{Line}
use Rattle.plan_lang.specs.declared.lines.Line.TheVariants as line
use Rattle.node_faults.specs.declared.NodeFault.{NodeFault}
use Rattle.rdf_core.specs.declared.replies.NoWhy.{NoWhy}
use Rattle.rdf_core.specs.declared.replies.NoWhy.TheVariants as no
use Rattle.rdf_core.specs.declared.replies.Reply.{Reply}
use Rattle.rdf_core.specs.declared.replies.Reply.TheVariants.{No, Stopped}
use Rattle.rdf_core.specs.Allowed.{is_backup}
use Rattle.rdf_primary.specs.declared.primary.Primary.{Primary}
use Rattle.rdf_backup.specs.Refusals.{IsCount, IsNumber}
use Rattle.primary_node.specs.declared.node.PrimaryNode.{PrimaryNode}
use Rattle.primary_node.specs.Kinds as primary
use Rattle.primary_node.specs.Lines.{why_off}
use Rattle.backup_node.specs.declared.node.BackupNode.{BackupNode}
use Rattle.backup_node.specs.Kinds as backup
use Rattle.backup_node.specs.Kinds.{state_at}
use Rattle.senders.specs.Sending.{IsOfSend}
use Rattle.rdf_system.specs.declared.fault.StepFault.{StepFault}
use Rattle.rdf_system.specs.declared.session.SessionState.{SessionState}
use Rattle.rdf_system.specs.declared.session.SessionState.TheVariants as system
use Rattle.rdf_system.specs.declared.system.System.{System}
use Rattle.rdf_system.specs.OnNodes.{is_on_primary, is_of_sender, is_done_by, site_at}
use Rattle.rdf_system.specs.Sessions.{used_by, why_of}

-- the answer as the node that did the line gave it
abbrev pub as_node : Result Reply StepFault → Result Reply NodeFault
as_node (Ok reply) = Ok reply
as_node (Err why) = Err why.fault

-- ---- the sender's side

-- why a primary that is not up refuses a line on the sender's side
abbrev pub bar_by : {D : Type 0} {d : Ghosts D} → Option (Primary D d) → Bool → Option NoWhy
bar_by None lost = Some (why_off lost)
bar_by (Some p) lost = None

abbrev pub bar_of : {D : Type 0} {d : Ghosts D} → PrimaryNode D d → Option NoWhy
bar_of n = bar_by n.primary n.lost

-- what such a line says where the primary is up
abbrev pub SaysSender : Line → Reply → Type 0
SaysSender (line.Send node most) reply = IsOfSend reply
SaysSender (line.Rewind node) reply = IsCount reply
SaysSender (line.Ack node) reply = (reply ≡ No no.Down) ⊎ IsCount reply
SaysSender _ reply = ⊥

-- that refusal is the answer, or where there is none this is said
abbrev pub IsBarred : Option NoWhy → (Reply → Type 0) → Result Reply StepFault → Type 0
IsBarred None says result = IfOk result says
IsBarred (Some why) says result = result ≡ Ok (No why)

-- ---- sessions

-- a read and the end of a session that was refused, or in which a disk stopped: its node is down
abbrev pub IsQuiet : SessionState → Line → Reply → Type 0
IsQuiet (system.Refused of bar) (line.Read node key) reply = (reply ≡ No (why_of bar)) ⊎ (reply ≡ No no.Down)
IsQuiet (system.Refused of bar) line.End reply = reply ≡ No (why_of bar)
IsQuiet (system.Open of true) (line.Read node key) reply = reply ≡ No no.Down
IsQuiet (system.Open of true) line.End reply = reply ≡ Stopped of
IsQuiet session l reply = ⊥

-- at the end of a session on that node, which had received so much: that number, to the line `end`; or that it stopped, to that line or the one that met it
pub data IsTold {D : Type 0} {d : Ghosts D} (name : Node) (received : ℕ) (l : Line) (reply : Reply) (old : System D d) : Type 0 where
  Received : (is : l ≡ line.End) (number : IsNumber received reply) → IsTold name received l reply old
  Halted : (stops : reply ≡ Stopped name) (of : (used_by old.session l ≡ Some name) ⊎ (l ≡ line.End)) → IsTold name received l reply old

-- ---- the whole

-- a line is answered by the primary's node, by that of a backup that the layout has, on the sender's side, in a session without a node, or at the end of one whose node was up
pub data IsReplied {D : Type 0} {d : Ghosts D} (l : Line) (result : Result Reply StepFault) (old new : System D d) : Type 0 where
  ByPrimary : (on : is_on_primary l ≡ true) (kinds : primary.IsReplied l (as_node result) old.primary) → IsReplied l result old new
  ByBackup : (name : Node) (placed : is_backup old.layout name ≡ true) (on : is_done_by name l) (was now : BackupNode D d) (there : (site_at old name).node ≡ Some was) (behind : (site_at new name).node ≡ Some now) (kinds : backup.IsReplied l (as_node result) was now) → IsReplied l result old new
  BySender : (on : is_of_sender l ≡ true) (kinds : IsBarred (bar_of old.primary) (λ reply. SaysSender l reply) result) → IsReplied l result old new
  BySession : (reply : Reply) (is : result ≡ Ok reply) (kinds : IsQuiet old.session l reply) → IsReplied l result old new
  AtEnd : (name : Node) (opened : old.session ≡ system.Open name false) (was : BackupNode D d) (there : (site_at old name).node ≡ Some was) (up : (state_at was).up ≡ true) (kinds : IfOk result (λ reply. IsTold name (state_at was).received l reply old)) → IsReplied l result old new
