-- No line that is refused or done is answered that a node stopped.
use Rattle.std.proofs.Common.{◌≡◌, ◌≢◌, ℕ, Bool, true, false, nat_lt, List, length, Option, Some, None, Result, Ok, if◌then◌else◌, sym, ◌∙◌, subst}
use Rattle.rdf_types.specs.declared.layout.Layout.{Layout}
use Rattle.rdf_types.specs.declared.records.Node.{Node}
use Rattle.rdf_types.specs.declared.records.Phase.{Phase}
use Rattle.rdf_model.specs.Trail.{raw}
use Rattle.rdf_model.specs.Contents.{nothing}
use Rattle.plan_lang.specs.declared.lines.Line.{Line}
use Rattle.plan_lang.specs.declared.lines.Line.TheVariants as line
use Rattle.rdf_core.specs.declared.events.Standing.{Standing}
use Rattle.rdf_core.specs.declared.events.Standing.TheVariants.{Up, Down, Lost}
use Rattle.rdf_core.specs.declared.replies.NoWhy.{NoWhy}
use Rattle.rdf_core.specs.declared.replies.Reply.{Reply}
use Rattle.rdf_core.specs.declared.replies.Reply.TheVariants.{Sent, NoneSent, No, NodeDown, BackupUp, Stopped}
use Rattle.rdf_core.specs.Effects.{count_u32, IsDone}
use Rattle.rdf_core.specs.Primary.{Primary, got, primary_status, primary_says}
use Rattle.rdf_core.specs.Backup.{Backup, Around, backup_says}
use Rattle.rdf_core.specs.Sender.{Sender, send_end, send_reply}

-- equal answers tell the same
pub ok_is : {E : Type 0} (r q : Reply) → (let x : Result Reply E = Ok r in x) ≡ Ok q → r ≡ q
ok_is r q e = cc

-- and that the same node stopped
pub stopped_is : (m n : Node) → Stopped m ≡ Stopped n → m ≡ n
stopped_is m n e = cc

got_unstopped : (node : Node) (o : Option (List ℕ)) → Stopped node ≢ got o
got_unstopped node None e = cc
got_unstopped node (Some value) e = cc

standing_unstopped : (node : Node) (s : Standing) (a : Primary) → Stopped node ≢ primary_status s a
standing_unstopped node Up a e = cc
standing_unstopped node Down a e = cc
standing_unstopped node Lost a e = cc

status_unstopped : (node : Node) (up : Bool) (p : Phase) (received kept generations running : ℕ) → Stopped node ≢ (if up then BackupUp p received kept generations running else NodeDown)
status_unstopped node true p received kept generations running e = cc
status_unstopped node false p received kept generations running e = cc

pub send_unstopped : (node : Node) (len most : ℕ) (s : Sender) → Stopped node ≢ send_reply len most s
send_unstopped node len most s = by (nat_lt s.next len)
  where
    by : (b : Bool) → Stopped node ≢ (if b then Sent (count_u32 (length s.sent)) s.next (send_end len most s) else NoneSent)
    by true e = cc
    by false e = cc

-- none that is done on the primary
pub primary_unstopped : (a : Primary) (l : Line) (node : Node) → primary_says a l (Stopped node) → ⊥
primary_unstopped a (line.Begin t) node e = cc
primary_unstopped a (line.Insert t k value) node e = cc
primary_unstopped a (line.Update t k value) node e = cc
primary_unstopped a (line.Delete t k) node e = cc
primary_unstopped a (line.Get t k) node e = got_unstopped node (raw nothing a.trail k) e
primary_unstopped a (line.Commit t) node e = cc
primary_unstopped a (line.Abort t) node e = cc
primary_unstopped a line.Lose node e = cc
primary_unstopped a (line.List of vol) node (rows, e, are) = cc
primary_unstopped a (line.Status of) node e = standing_unstopped node a.standing a e
primary_unstopped a (line.Fuse of disk calls tear) node e = cc
primary_unstopped a (line.Cut of) node e = cc
primary_unstopped a (line.Restart of) node e = cc
primary_unstopped a _ node e = e

-- nor on a backup
pub backup_unstopped : (layout : Layout) (w : Around) (b : Backup) (l : Line) (node : Node) → backup_says layout w b l (Stopped node) → ⊥
backup_unstopped layout w b (line.Deliver of k) node e = cc
backup_unstopped layout w b (line.Session of) node e = cc
backup_unstopped layout w b (line.Purge of) node e = cc
backup_unstopped layout w b (line.Takeover of) node e = cc
backup_unstopped layout w b (line.CopyAudit of from) node e = cc
backup_unstopped layout w b (line.List of vol) node (rows, e, are) = cc
backup_unstopped layout w b (line.Info of) node e = cc
backup_unstopped layout w b (line.Status of) node e = status_unstopped node b.up _ _ _ _ _ e
backup_unstopped layout w b (line.Fuse of disk calls tear) node e = cc
backup_unstopped layout w b (line.Cut of) node e = cc
backup_unstopped layout w b (line.Restart of) node e = cc
backup_unstopped layout w b _ node e = e

-- and so none that is refused or done
pub done_unstopped : {X : Type 0} (r : Option NoWhy) (keep : NoWhy → X) (end : X) (says : Reply → Type 0) (reply : Reply) (new : X) → ((node : Node) → says (Stopped node) → ⊥) → IsDone r keep end says reply new → (node : Node) → reply ≢ Stopped node
done_unstopped None keep end says reply new never d node e = never node (subst says e d.0)
done_unstopped (Some why) keep end says reply new never d node e = refused why (sym d.0 ∙ e)
  where
    refused : (w : NoWhy) → No w ≢ Stopped node
    refused w f = cc
