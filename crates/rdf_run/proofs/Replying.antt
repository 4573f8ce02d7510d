-- A reply that the system gives is one that its line may get.
use Rattle.std.proofs.Common.{◌≡◌, ◌≢◌, inl, inr, ℕ, Bool, true, false, not, nat_lt, List, [], ◌∷◌, ◌++◌, length, Option, Some, None, is_some, Result, Ok, refl, sym, ap, ◌∙◌, subst}
use Rattle.std.specs.Prelude.{MatchOption, if◌then◌else◌}
use Rattle.std.proofs.lemmas.Bool.{true≢false}
use Rattle.std.proofs.lemmas.Option.{none-some, same_Some}
use Rattle.rdf_types.specs.declared.layout.Layout.{Layout}
use Rattle.rdf_types.specs.declared.records.Node.{Node}
use Rattle.rdf_types.specs.declared.records.Node.TheVariants.{A, B, C}
use Rattle.rdf_types.specs.declared.records.RecKey.{RecKey}
use Rattle.rdf_disk.specs.declared.disk.Disk.{Ghosts}
use Rattle.plan_lang.specs.declared.lines.Line.{Line}
use Rattle.plan_lang.specs.declared.lines.Line.TheVariants as line
use Rattle.plan_lang.specs.Sessions.{session_after, session_behind}
use Rattle.node_faults.specs.declared.NodeFault.{NodeFault}
use Rattle.rdf_core.specs.StopLaws.{ok_is}
use Rattle.rdf_core.specs.declared.replies.NoWhy.{NoWhy}
use Rattle.rdf_core.specs.declared.replies.NoWhy.TheVariants as no
use Rattle.rdf_core.specs.declared.replies.Reply.{Reply}
use Rattle.rdf_core.specs.declared.replies.Reply.TheVariants.{Done, Number, Got, Sent, NoneSent, Holds, Absent, Rows, Info, PrimaryUp, BackupUp, NodeDown, Stopped, No}
use Rattle.rdf_core.specs.Backup.{Backup as State, Volumes, Running, Taking, Taken, needs_up, needs_running, needs_taken, needs_volumes, is_taking, is_taken, kept_of, listed_at, phase_of}
use Rattle.rdf_core.specs.Allowed.{is_backup}
use Rattle.rdf_core.specs.Effects.{when, first, count_u32}
use Rattle.rdf_core.specs.Step.{disks_of}
use Rattle.rdf_primary.specs.Kinds as asked
use Rattle.rdf_backup.specs.declared.backup.Backup.{Backup}
use Rattle.rdf_backup.specs.Refusals.{IsReadOf, IsStatus}
use Rattle.rdf_primary.specs.declared.primary.Primary.{Primary}
use Rattle.primary_node.specs.declared.node.PrimaryNode.{PrimaryNode}
use Rattle.primary_node.specs.Kinds as primary
use Rattle.primary_node.specs.Lines.{why_off, status_off}
use Rattle.backup_node.specs.declared.node.BackupNode.{BackupNode}
use Rattle.backup_node.specs.Kinds as backup
use Rattle.backup_node.specs.Kinds.{IsJudgedAt, IsSaid, MayFetch, MayInform, MayRead, MaySay, MayTake, own_refusal, state_at}
use Rattle.rdf_system.specs.declared.session.Bar.{Bar}
use Rattle.rdf_system.specs.declared.session.Bar.TheVariants as bars
use Rattle.rdf_system.specs.declared.session.SessionState.{SessionState}
use Rattle.rdf_system.specs.declared.session.SessionState.TheVariants as system
use Rattle.rdf_system.specs.declared.system.System.{System}
use Rattle.rdf_system.specs.Kinds.{IsBarred, IsQuiet, IsReplied, SaysSender, ByPrimary, ByBackup, BySender, BySession, AtEnd, Received, Halted, bar_by, bar_of}
use Rattle.rdf_system.specs.OnNodes.{is_on_primary, is_of_sender, is_done_by}
use Rattle.rdf_system.specs.Sessions.{node_of, used_by, why_of}
use Rattle.rdf_run.specs.Replies.{IsBackup, MayRefuse, MayTellStop, MayGet, AllGet}

-- where the session of this node is open, or none
module _ (session : Option Node) where
  -- the line gets what is said to be the reply
  as_said : (l : Line) (r q : Reply) → r ≡ q → MayGet session l q → MayGet session l r
  as_said l r q e h = subst (λ (x : Reply). MayGet session l x) (sym e) h

  -- it stops the node whose disks it uses
  stops_used : (l : Line) (of : Node) → disks_of l ≡ Some of → MayTellStop session l of
  stops_used (line.Read n key) of e = absurd (none-some of e)
  stops_used line.End of e = absurd (none-some of e)
  stops_used l of e = e

  abbrev IsGot : Line → Option Reply → Type 0
  IsGot l o = MatchOption o (Unit {0}) (λ r. MayGet session l r)

  abbrev IsRefused : Line → Option NoWhy → Type 0
  IsRefused l o = MatchOption o (Unit {0}) (λ why. MayRefuse l why)

  -- ---- the primary's node

  of_place : (l : Line) (needs : Bool) (why : NoWhy) → asked.IsOfPlace needs why → MayRefuse l no.Txn → MayRefuse l no.Volume → ((by : ℕ) → MayRefuse l (no.Locked by)) → (needs ≡ false → MayRefuse l no.Exists) → (needs ≡ true → MayRefuse l no.Missing) → MayRefuse l why
  of_place l needs no.Txn h txn volume locked exists missing = txn
  of_place l needs no.Volume h txn volume locked exists missing = volume
  of_place l needs (no.Locked by) h txn volume locked exists missing = locked by
  of_place l needs no.Exists h txn volume locked exists missing = exists h
  of_place l needs no.Missing h txn volume locked exists missing = missing h
  of_place l needs _ h txn volume locked exists missing = absurd h

  one_refused : (l : Line) (why of : NoWhy) → why ≡ of → MayRefuse l of → MayRefuse l why
  one_refused l why of e h = subst (λ (w : NoWhy). MayRefuse l w) (sym e) h

  asked_refused : (l : Line) (why : NoWhy) → asked.MayRefuse l why → MayRefuse l why
  asked_refused (line.Begin t) why e = one_refused (line.Begin t) why no.Used e tt
  asked_refused (line.Insert t k value) why h = of_place (line.Insert t k value) false why h tt tt (λ by. tt) (λ e. tt) (λ e. absurd (true≢false (sym e)))
  asked_refused (line.Update t k value) why h = of_place (line.Update t k value) true why h tt tt (λ by. tt) (λ e. absurd (true≢false e)) (λ e. tt)
  asked_refused (line.Delete t k) why h = of_place (line.Delete t k) true why h tt tt (λ by. tt) (λ e. absurd (true≢false e)) (λ e. tt)
  asked_refused (line.Get t k) why h = of_place (line.Get t k) true why h tt tt (λ by. tt) (λ e. absurd (true≢false e)) (λ e. tt)
  asked_refused (line.Commit t) why e = one_refused (line.Commit t) why no.Txn e tt
  asked_refused (line.Abort t) why e = one_refused (line.Abort t) why no.Txn e tt
  asked_refused (line.List node vol) why e = one_refused (line.List node vol) why no.Volume e tt
  asked_refused _ why h = absurd h

  asked_got : (l : Line) (reply : Reply) → is_on_primary l ≡ true → primary.MayReply l reply → MayGet session l reply
  asked_got l (Stopped node) on h = stops_used l node (h.1 ∙ ap (λ (m : Node). Some m) (sym h.0))
  asked_got l (No why) on h = asked_refused l why h
  asked_got (line.Begin t) Done on h = tt
  asked_got (line.Insert t k value) (Number n) on h = tt
  asked_got (line.Update t k value) (Number n) on h = tt
  asked_got (line.Delete t k) (Number n) on h = tt
  asked_got (line.Get t k) (Got value) on h = tt
  asked_got (line.Commit t) (Number n) on h = tt
  asked_got (line.Abort t) (Number n) on h = tt
  asked_got (line.List node vol) (Rows at rows) on h = tt
  asked_got (line.Status A) (PrimaryUp len active) on h = tt
  asked_got (line.Status B) (PrimaryUp len active) on h = absurd (true≢false (sym on))
  asked_got (line.Status C) (PrimaryUp len active) on h = absurd (true≢false (sym on))
  asked_got (line.Restart node) (Number n) on h = tt
  asked_got _ _ on h = absurd h

  module _ {D : Type 0} {d : Ghosts D} (n : PrimaryNode D d) where
    unless_got : (l : Line) (r : Reply) → MayGet session l r → IsGot l (primary.unless_up n r)
    unless_got l r h = by (is_some n.primary)
      where
        by : (b : Bool) → IsGot l (if b then None else Some r)
        by true = tt
        by false = h

    off_got : (l : Line) → MayRefuse l no.Lost → MayRefuse l no.Down → IsGot l (primary.unless_up n (No (why_off n.lost)))
    off_got l lost down = unless_got l (No (why_off n.lost)) (by n.lost)
      where
        by : (b : Bool) → MayGet session l (No (why_off b))
        by true = lost
        by false = down

    own_got : (l : Line) → is_on_primary l ≡ true → IsGot l (primary.own_reply n l)
    own_got (line.Begin t) on = off_got (line.Begin t) tt tt
    own_got (line.Insert t k value) on = off_got (line.Insert t k value) tt tt
    own_got (line.Update t k value) on = off_got (line.Update t k value) tt tt
    own_got (line.Delete t k) on = off_got (line.Delete t k) tt tt
    own_got (line.Get t k) on = off_got (line.Get t k) tt tt
    own_got (line.Commit t) on = off_got (line.Commit t) tt tt
    own_got (line.Abort t) on = off_got (line.Abort t) tt tt
    own_got (line.List A vol) on = off_got (line.List A vol) tt tt
    own_got (line.Status A) on = unless_got (line.Status A) (status_off n.lost) (by n.lost)
      where
        by : (b : Bool) → MayGet session (line.Status A) (status_off b)
        by true = tt
        by false = tt
    own_got (line.Fuse A disk calls tear) on = by n.lost (nat_lt n.volumes disk)
      where
        by : (a b : Bool) → IsGot (line.Fuse A disk calls tear) (Some (if a then No no.Lost else (if b then No no.Volume else Done)))
        by true b = tt
        by false true = tt
        by false false = tt
    own_got (line.Cut A) on = by (is_some n.primary) n.lost
      where
        by : (a b : Bool) → IsGot (line.Cut A) (Some (if a then Done else No (why_off b)))
        by true b = tt
        by false true = tt
        by false false = tt
    own_got (line.Restart A) on = by n.lost (is_some n.primary)
      where
        by : (a b : Bool) → IsGot (line.Restart A) (if a then Some (No no.Lost) else (if b then Some (No no.Up) else None))
        by true b = tt
        by false true = tt
        by false false = tt
    own_got line.Lose on = by n.lost
      where
        by : (b : Bool) → IsGot line.Lose (Some (if b then No no.Lost else Done))
        by true = tt
        by false = tt
    own_got _ on = absurd (true≢false (sym on))

    primary_got : (l : Line) → is_on_primary l ≡ true → (reply : Reply) → primary.IsReplied l (Ok reply) n → MayGet session l reply
    primary_got l on reply h = by (primary.own_reply n l) (own_got l on) h
      where
        by : (o : Option Reply) → IsGot l o → MatchOption o (primary.MayReply l reply) (λ r. (let x : Result Reply NodeFault = Ok reply in x) ≡ Ok r) → MayGet session l reply
        by None got k = asked_got l reply on k
        by (Some r) got e = as_said l reply r (ok_is reply r e) got

  -- ---- a backup's node

  when_refused : (l : Line) (b : Bool) (why : NoWhy) → MayRefuse l why → IsRefused l (when b why)
  when_refused l true why h = h
  when_refused l false why h = tt

  first_refused : (l : Line) (o : Option NoWhy) (rest : List (Option NoWhy)) → IsRefused l o → IsRefused l (first rest) → IsRefused l (first (o ∷ rest))
  first_refused l None rest h more = more
  first_refused l (Some why) rest h more = h

  off_refused : (l : Line) (b : State) → MayRefuse l no.Down → IsRefused l (needs_up b)
  off_refused l b down = when_refused l (not b.up) no.Down down

  taking_refused : (l : Line) (b : State) → MayRefuse l no.Down → MayRefuse l no.Taking → IsRefused l (needs_volumes b)
  taking_refused l b down taking = first_refused l (needs_up b) (when (is_taking b.volumes) no.Taking ∷ []) (off_refused l b down)
      (first_refused l (when (is_taking b.volumes) no.Taking) [] (when_refused l (is_taking b.volumes) no.Taking taking) tt)

  running_refused : (l : Line) (b : State) → MayRefuse l no.Down → MayRefuse l no.Taking → MayRefuse l no.Taken → IsRefused l (needs_running b)
  running_refused l b down taking taken = first_refused l (needs_up b) (when (is_taking b.volumes) no.Taking ∷ when (is_taken b.volumes) no.Taken ∷ []) (off_refused l b down)
      (first_refused l (when (is_taking b.volumes) no.Taking) (when (is_taken b.volumes) no.Taken ∷ []) (when_refused l (is_taking b.volumes) no.Taking taking)
      (first_refused l (when (is_taken b.volumes) no.Taken) [] (when_refused l (is_taken b.volumes) no.Taken taken) tt))

  copy_refused : (node from : Node) (volumes : Volumes) → IsRefused (line.CopyAudit node from) (needs_taken volumes)
  copy_refused node from (Running points) = tt
  copy_refused node from Taking = tt
  copy_refused node from (Taken upto) = tt

  said_got : (l : Line) (a : Option NoWhy) (says : Reply → Type 0) (reply : Reply) → IsRefused l a → (says reply → MayGet session l reply) → IsSaid a (λ r. says r) reply → MayGet session l reply
  said_got l None says reply refused may h = may h
  said_got l (Some why) says reply refused may e = as_said l reply (No why) e refused

  count_got : (l : Line) (reply : Reply) (n : ℕ) → reply ≡ Number n → MayGet session l (Number n) → MayGet session l reply
  count_got l reply n e h = as_said l reply (Number n) e h

  take_got : (node : Node) (k received : ℕ) (reply : Reply) → MayTake received reply → MayGet session (line.Deliver node k) reply
  take_got node k received (Number n) h = tt
  take_got node k received (No (no.Gap at)) h = tt
  take_got node k received _ h = absurd h

  fetch_got : (node from : Node) (received : ℕ) (reply : Reply) → MayFetch received reply → MayGet session (line.CopyAudit node from) reply
  fetch_got node from received (Number n) h = tt
  fetch_got node from received (No no.Running) h = tt
  fetch_got node from received (No no.Taking) h = tt
  fetch_got node from received (No (no.Purged at)) h = tt
  fetch_got node from received _ h = absurd h

  read_got : (node : Node) (key : RecKey) (protected : Bool) (at : ℕ) (reply : Reply) → IsReadOf protected at reply → MayGet session (line.Read node key) reply
  read_got node key true at reply (None, e) = as_said (line.Read node key) reply (Absent at) e tt
  read_got node key true at reply (Some value, e) = as_said (line.Read node key) reply (Holds at value) e tt
  read_got node key false at reply e = as_said (line.Read node key) reply (Absent 0) e tt

  status_got : (node : Node) (b : State) (reply : Reply) → IsBackup node → IsStatus b reply → MayGet session (line.Status node) reply
  status_got node b reply own (unended, e) = by b.up e
    where
      by : (up : Bool) → reply ≡ (if up then BackupUp (phase_of b.volumes) b.received (kept_of b) (count_u32 (length b.starts)) unended else NodeDown) → MayGet session (line.Status node) reply
      by true f = as_said (line.Status node) reply (BackupUp (phase_of b.volumes) b.received (kept_of b) (count_u32 (length b.starts)) unended) f own
      by false f = as_said (line.Status node) reply NodeDown f tt

  -- the layout's backups are no primary
  own_backup : (layout : Layout) (name : Node) → is_backup layout name ≡ true → IsBackup name
  own_backup layout A placed = absurd (true≢false (sym placed))
  own_backup layout B placed = tt
  own_backup layout C placed = tt

  module _ {D : Type 0} {d : Ghosts D} (was now : BackupNode D d) (name : Node) (own : IsBackup name) where
    is_other : (node : Node) → node ≡ name → IsBackup node
    is_other node e = subst (λ (n : Node). IsBackup n) (sym e) own

    own_refused : (l : Line) → is_done_by name l → IsRefused l (own_refusal was l)
    own_refused (line.Deliver node k) on = running_refused (line.Deliver node k) (state_at was) tt tt tt
    own_refused (line.Purge node) on = taking_refused (line.Purge node) (state_at was) tt tt
    own_refused (line.Takeover node) on = off_refused (line.Takeover node) (state_at was) tt
    own_refused (line.CopyAudit node from) on = off_refused (line.CopyAudit node from) (state_at was) tt
    own_refused (line.Session node) on = running_refused (line.Session node) (state_at was) tt tt tt
    own_refused (line.Read node key) on = first_refused (line.Read node key) (needs_running (state_at was)) (when (not (nat_lt key.vol was.volumes)) no.Volume ∷ []) (running_refused (line.Read node key) (state_at was) tt tt tt)
        (first_refused (line.Read node key) (when (not (nat_lt key.vol was.volumes)) no.Volume) [] (when_refused (line.Read node key) (not (nat_lt key.vol was.volumes)) no.Volume tt) tt)
    own_refused (line.List node vol) on = first_refused (line.List node vol) (needs_volumes (state_at was)) (when (not (nat_lt vol was.volumes)) no.Volume ∷ []) (taking_refused (line.List node vol) (state_at was) tt (is_other node on))
        (first_refused (line.List node vol) (when (not (nat_lt vol was.volumes)) no.Volume) [] (when_refused (line.List node vol) (not (nat_lt vol was.volumes)) no.Volume tt) tt)
    own_refused (line.Info node) on = taking_refused (line.Info node) (state_at was) tt tt
    own_refused (line.Fuse node disk calls tear) on = when_refused (line.Fuse node disk calls tear) (nat_lt was.volumes disk) no.Volume tt
    own_refused (line.Cut node) on = off_refused (line.Cut node) (state_at was) tt
    own_refused (line.Restart node) on = when_refused (line.Restart node) (state_at was).up no.Up tt
    own_refused _ on = tt

    read_shown : (node : Node) (key : RecKey) (o q : Option (Backup D d)) (reply : Reply) → MayRead key o q reply → MayGet session (line.Read node key) reply
    read_shown node key (Some p) (Some q) reply h = read_got node key _ _ reply h
    read_shown node key (Some p) None reply h = absurd h
    read_shown node key None (Some q) reply h = absurd h
    read_shown node key None None reply h = absurd h

    info_got : (node : Node) (o : Option (Backup D d)) (reply : Reply) → MayInform o reply → MayGet session (line.Info node) reply
    info_got node (Some p) reply e = as_said (line.Info node) reply (Info _) e tt
    info_got node None reply h = absurd h

    say_got : (l : Line) (reply : Reply) → is_done_by name l → MaySay was now l reply → MayGet session l reply
    say_got (line.Deliver node k) reply on (inl e) = as_said (line.Deliver node k) reply (No no.Message) e tt
    say_got (line.Deliver node k) reply on (inr h) = take_got node k (state_at was).received reply h
    say_got (line.Purge node) reply on (k, e) = count_got (line.Purge node) reply k e tt
    say_got (line.Takeover node) reply on (inl e) = as_said (line.Takeover node) reply (No no.PrimaryUp) e tt
    say_got (line.Takeover node) reply on (inr e) = count_got (line.Takeover node) reply (state_at was).received e tt
    say_got (line.CopyAudit node from) reply on (inl e) = as_said (line.CopyAudit node from) reply (No no.Down) e tt
    say_got (line.CopyAudit node from) reply on (inr h) = said_got (line.CopyAudit node from) (needs_taken (state_at was).volumes) (λ r. MayFetch (state_at was).received r) reply (copy_refused node from (state_at was).volumes)
        (λ m. fetch_got node from (state_at was).received reply m) h
    say_got (line.Session node) reply on e = count_got (line.Session node) reply (state_at was).received e tt
    say_got (line.Read node key) reply on h = read_shown node key was.backup now.backup reply h
    say_got (line.List node vol) reply on (rows, e) = as_said (line.List node vol) reply (Rows (listed_at (state_at was).volumes vol) rows) e tt
    say_got (line.Info node) reply on h = info_got node was.backup reply h
    say_got (line.Status node) reply on h = status_got node (state_at was) reply (is_other node on) h
    say_got (line.Fuse node disk calls tear) reply on e = as_said (line.Fuse node disk calls tear) reply Done e tt
    say_got (line.Cut node) reply on e = as_said (line.Cut node) reply Done e tt
    say_got (line.Restart node) reply on e = count_got (line.Restart node) reply (state_at now).received e tt
    say_got _ reply on h = absurd h

    backup_got : (l : Line) (reply : Reply) → is_done_by name l → backup.IsReplied l (Ok reply) was now → MayGet session l reply
    backup_got l reply on h = by (own_refusal was l) (own_refused l on) h
      where
        by : (a : Option NoWhy) → IsRefused l a → IsJudgedAt was.name l a (λ r. MaySay was now l r) (Ok reply) → MayGet session l reply
        by None refused (inl s) = say_got l reply on s
        by None refused (inr s) = as_said l reply (Stopped was.name) s.0 (stops_used l was.name s.1)
        by (Some why) refused e = as_said l reply (No why) (ok_is reply (No why) e) refused

  -- ---- the sender's side

  send_got : (node : Node) (most : ℕ) (reply : Reply) → SaysSender (line.Send node most) reply → MayGet session (line.Send node most) reply
  send_got node most (Sent k from to) h = tt
  send_got node most NoneSent h = tt
  send_got node most _ h = absurd h

  sender_got : (l : Line) (reply : Reply) → SaysSender l reply → MayGet session l reply
  sender_got (line.Send node most) reply h = send_got node most reply h
  sender_got (line.Rewind node) reply (k, e) = count_got (line.Rewind node) reply k e tt
  sender_got (line.Ack node) reply (inl e) = as_said (line.Ack node) reply (No no.Down) e tt
  sender_got (line.Ack node) reply (inr (k, e)) = count_got (line.Ack node) reply k e tt
  sender_got _ reply h = absurd h

  module _ {D : Type 0} {d : Ghosts D} (n : PrimaryNode D d) where
    bar_refused : (l : Line) → MayRefuse l no.Lost → MayRefuse l no.Down → IsRefused l (bar_of n)
    bar_refused l lost down = by n.primary n.lost
      where
        by : (o : Option (Primary D d)) (b : Bool) → IsRefused l (bar_by o b)
        by None true = lost
        by None false = down
        by (Some p) b = tt

    sender_refused : (l : Line) → is_of_sender l ≡ true → IsRefused l (bar_of n)
    sender_refused (line.Send node most) on = bar_refused (line.Send node most) tt tt
    sender_refused (line.Rewind node) on = bar_refused (line.Rewind node) tt tt
    sender_refused (line.Ack node) on = bar_refused (line.Ack node) tt tt
    sender_refused _ on = absurd (true≢false (sym on))

  barred_got : (l : Line) (o : Option NoWhy) (reply : Reply) → IsRefused l o → IsBarred o (λ r. SaysSender l r) (Ok reply) → MayGet session l reply
  barred_got l None reply refused h = sender_got l reply h
  barred_got l (Some why) reply refused e = as_said l reply (No why) (ok_is reply (No why) e) refused

  -- ---- sessions

  read_barred : (node : Node) (key : RecKey) (bar : Bar) → MayRefuse (line.Read node key) (why_of bar)
  read_barred node key bars.Down = tt
  read_barred node key bars.Taking = tt
  read_barred node key bars.Taken = tt

  end_barred : (bar : Bar) → MayRefuse line.End (why_of bar)
  end_barred bars.Down = tt
  end_barred bars.Taking = tt
  end_barred bars.Taken = tt

  quiet_got : (ss : SessionState) (l : Line) (reply : Reply) → node_of ss ≡ session → IsQuiet ss l reply → MayGet session l reply
  quiet_got (system.Refused of bar) (line.Read node key) reply is (inl e) = as_said (line.Read node key) reply (No (why_of bar)) e (read_barred node key bar)
  quiet_got (system.Refused of bar) (line.Read node key) reply is (inr e) = as_said (line.Read node key) reply (No no.Down) e tt
  quiet_got (system.Refused of bar) line.End reply is e = as_said line.End reply (No (why_of bar)) e (end_barred bar)
  quiet_got (system.Open of true) (line.Read node key) reply is e = as_said (line.Read node key) reply (No no.Down) e tt
  quiet_got (system.Open of true) line.End reply is e = as_said line.End reply (Stopped of) e (sym is)
  quiet_got ss l reply is h = absurd h

  stops_in_session : (ss : SessionState) (l : Line) (of : Node) → node_of ss ≡ Some of → node_of ss ≡ session → used_by ss l ≡ Some of → MayTellStop session l of
  stops_in_session ss (line.Read node key) of held is e = sym (same_Some node of e)
  stops_in_session ss line.End of held is e = sym is ∙ held
  stops_in_session ss l of held is e = e

  -- ---- the system

  -- whatever node did the line
  pub replied_kind : {D : Type 0} {d : Ghosts D} (l : Line) (reply : Reply) (old new : System D d) → node_of old.session ≡ session → IsReplied l (Ok reply) old new → MayGet session l reply
  replied_kind l reply old new is (ByPrimary on kinds) = primary_got old.primary l on reply kinds
  replied_kind l reply old new is (ByBackup name placed on was now there behind kinds) = backup_got was now name (own_backup old.layout name placed) l reply on kinds
  replied_kind l reply old new is (BySender on kinds) = barred_got l (bar_of old.primary) reply (sender_refused old.primary l on) kinds
  replied_kind l reply old new is (BySession r same kinds) = as_said l reply r (ok_is reply r same) (quiet_got old.session l r is kinds)
  replied_kind l reply old new is (AtEnd name opened was there up (Received same number)) = subst (λ (k : Line). MayGet session k reply) (sym same) (count_got line.End reply (state_at was).received number tt)
  replied_kind l reply old new is (AtEnd name opened was there up (Halted stops (inl of))) = as_said l reply (Stopped name) stops (stops_in_session old.session l name (ap node_of opened) is of)
  replied_kind l reply old new is (AtEnd name opened was there up (Halted stops (inr same))) = as_said l reply (Stopped name) stops (subst (λ (k : Line). MayTellStop session k name) (sym same) (sym is ∙ ap node_of opened))

-- a line that does not end a session may get the same, whatever session is open
pub any_session : (session other : Option Node) (l : Line) (reply : Reply) → l ≢ line.End → MayGet session l reply → MayGet other l reply
any_session session other l (Stopped node) ne h = by l ne h
  where
    by : (k : Line) → k ≢ line.End → MayTellStop session k node → MayTellStop other k node
    by (line.Read of key) un g = g
    by line.End un g = absurd (un refl)
    by k un g = g
any_session session other l (No why) ne h = h
any_session session other l _ ne h = h

-- with one line more
pub all_get_on : (session : Option Node) (lines : List Line) (replies : List Reply) (l : Line) (reply : Reply) → AllGet session lines replies → MayGet (session_behind session lines) l reply → AllGet session (lines ++ l ∷ []) (replies ++ reply ∷ [])
all_get_on session [] [] l reply none h = (h, tt)
all_get_on session [] (r ∷ replies) l reply all h = absurd all
all_get_on session (k ∷ lines) [] l reply all h = absurd all
all_get_on session (k ∷ lines) (r ∷ replies) l reply all h = (all.0, all_get_on (session_after session k) lines replies l reply all.1 h)
