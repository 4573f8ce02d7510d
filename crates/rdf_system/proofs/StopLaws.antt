-- A reply that a node stopped, by the kinds of replies of each line.
use Rattle.std.proofs.Common.{◌≡◌, ◌⊎◌, inl, inr, ℕ, Bool, true, false, nat_lt, length, Option, Some, None, is_some, Result, Ok, refl, sym, ap, ◌∙◌, subst}
use Rattle.std.specs.Prelude.{MatchOption, if◌then◌else◌}
use Rattle.rdf_types.specs.declared.records.Node.{Node}
use Rattle.rdf_types.specs.declared.records.Node.TheVariants.{A}
use Rattle.rdf_types.specs.declared.records.RecKey.{RecKey}
use Rattle.rdf_disk.specs.Counts.{Counts}
use Rattle.rdf_disk.specs.declared.disk.Disk.{Ghosts}
use Rattle.plan_lang.specs.declared.lines.Line.{Line}
use Rattle.plan_lang.specs.declared.lines.Line.TheVariants as line
use Rattle.node_faults.specs.declared.NodeFault.{NodeFault}
use Rattle.node_faults.specs.declared.NodeFault.TheVariants as fault
use Rattle.rdf_core.specs.StopLaws.{ok_is, stopped_is}
use Rattle.rdf_core.specs.declared.replies.NoWhy.{NoWhy}
use Rattle.rdf_core.specs.declared.replies.NoWhy.TheVariants as no
use Rattle.rdf_core.specs.declared.replies.Reply.{Reply}
use Rattle.rdf_core.specs.declared.replies.Reply.TheVariants.{BackupUp, Done, NodeDown, NodeLost, No, Number, Stopped}
use Rattle.rdf_core.specs.Backup.{Backup as State, needs_taken, kept_of, phase_of}
use Rattle.rdf_core.specs.Effects.{count_u32}
use Rattle.rdf_core.specs.Step.{disks_of}
use Rattle.rdf_backup.specs.declared.backup.Backup.{Backup}
use Rattle.rdf_backup.specs.Refusals.{IsReadOf, IsStatus}
use Rattle.primary_node.specs.declared.node.PrimaryNode.{PrimaryNode}
use Rattle.primary_node.specs.Kinds as primary
use Rattle.primary_node.specs.Lines.{why_off, status_off}
use Rattle.backup_node.specs.declared.node.BackupNode.{BackupNode}
use Rattle.backup_node.specs.Kinds as backup
use Rattle.backup_node.specs.Kinds.{IsJudgedAt, IsSaid, MayFetch, MayInform, MayRead, MaySay, own_refusal, state_at}
use Rattle.rdf_system.specs.declared.session.SessionState.{SessionState}
use Rattle.rdf_system.specs.declared.session.SessionState.TheVariants as system
use Rattle.rdf_system.specs.declared.system.System.{System}
use Rattle.rdf_system.specs.Kinds.{IsBarred, IsQuiet, IsReplied, SaysSender, ByPrimary, ByBackup, BySender, BySession, AtEnd, Received, Halted, bar_of}
use Rattle.rdf_system.specs.Lines.{FailsBy, ReplyCaused}
use Rattle.rdf_system.specs.Sessions.{used_by, why_of}
use Rattle.rdf_system.proofs.PlaceLaws.{none_some}

no_is : (why : NoWhy) (node : Node) → No why ≡ Stopped node → ⊥
no_is why node e = cc

some_reply : (r q : Reply) → (let x : Option Reply = Some r in x) ≡ Some q → r ≡ q
some_reply r q e = cc

-- ---- the primary's node

abbrev IsPlain : Option Reply → Type 0
IsPlain o = MatchOption o (Unit {0}) (λ r. (node : Node) → r ≡ Stopped node → ⊥)

done_plain : (node : Node) → Done ≡ Stopped node → ⊥
done_plain node e = cc

lost_plain : (node : Node) → NodeLost ≡ Stopped node → ⊥
lost_plain node e = cc

down_plain : (node : Node) → NodeDown ≡ Stopped node → ⊥
down_plain node e = cc

module _ {D : Type 0} {d : Ghosts D} (n : PrimaryNode D d) where
  unless_plain : (r : Reply) → ((node : Node) → r ≡ Stopped node → ⊥) → IsPlain (primary.unless_up n r)
  unless_plain r plain = by (is_some n.primary)
    where
      by : (b : Bool) → IsPlain (if b then None else Some r)
      by true = tt
      by false = plain

  own_plain : (l : Line) → IsPlain (primary.own_reply n l)
  own_plain line.Lose = by n.lost
    where
      by : (b : Bool) → IsPlain (Some (if b then No no.Lost else Done))
      by true = no_is no.Lost
      by false = done_plain
  own_plain (line.Cut node) = by (is_some n.primary)
    where
      by : (b : Bool) → IsPlain (Some (if b then Done else No (why_off n.lost)))
      by true = done_plain
      by false = no_is (why_off n.lost)
  own_plain (line.Fuse node disk calls tear) = by n.lost (nat_lt n.volumes disk)
    where
      by : (a b : Bool) → IsPlain (Some (if a then No no.Lost else (if b then No no.Volume else Done)))
      by true b = no_is no.Lost
      by false true = no_is no.Volume
      by false false = done_plain
  own_plain (line.Restart node) = by n.lost (is_some n.primary)
    where
      by : (a b : Bool) → IsPlain (if a then Some (No no.Lost) else (if b then Some (No no.Up) else None))
      by true b = no_is no.Lost
      by false true = no_is no.Up
      by false false = tt
  own_plain (line.Status node) = unless_plain (status_off n.lost) (by n.lost)
    where
      by : (b : Bool) (node : Node) → status_off b ≡ Stopped node → ⊥
      by true = lost_plain
      by false = down_plain
  own_plain _ = unless_plain (No (why_off n.lost)) (no_is (why_off n.lost))

  pub primary_stops : (l : Line) (node : Node) → primary.IsReplied l (Ok (Stopped node)) n → (node ≡ A) × (disks_of l ≡ Some A)
  primary_stops l node h = by (primary.own_reply n l) (own_plain l) h
    where
      by : (o : Option Reply) → IsPlain o → MatchOption o (primary.MayReply l (Stopped node)) (λ reply. (let x : Result Reply NodeFault = Ok (Stopped node) in x) ≡ Ok reply) → (node ≡ A) × (disks_of l ≡ Some A)
      by None plain k = k
      by (Some r) plain k = absurd (plain node (sym (ok_is (Stopped node) r k)))

-- ---- a backup's node

said_plain : (a : Option NoWhy) (says : Reply → Type 0) (node : Node) → (says (Stopped node) → ⊥) → IsSaid a (λ r. says r) (Stopped node) → ⊥
said_plain None says node plain h = plain h
said_plain (Some why) says node plain h = no_is why node (sym h)

number_plain : (n : ℕ) (node : Node) → Stopped node ≡ Number n → ⊥
number_plain n node e = cc

read_plain : (protected : Bool) (at : ℕ) (node : Node) → IsReadOf protected at (Stopped node) → ⊥
read_plain true at node (None, e) = cc
read_plain true at node (Some value, e) = cc
read_plain false at node e = cc

status_plain : (b : State) (node : Node) → IsStatus b (Stopped node) → ⊥
status_plain b node (unended, e) = by b.up e
  where
    by : (up : Bool) → Stopped node ≡ (if up then BackupUp (phase_of b.volumes) b.received (kept_of b) (count_u32 (length b.starts)) unended else NodeDown) → ⊥
    by true f = cc
    by false f = down_plain node (sym f)

module _ {D : Type 0} {d : Ghosts D} (was now : BackupNode D d) where
  info_said : (o : Option (Backup D d)) (node : Node) → MayInform o (Stopped node) → ⊥
  info_said (Some p) node e = cc
  info_said None node h = h

  read_said : (key : RecKey) (o q : Option (Backup D d)) (node : Node) → MayRead key o q (Stopped node) → ⊥
  read_said key (Some p) (Some q) node h = read_plain _ _ node h
  read_said key (Some p) None node h = h
  read_said key None (Some q) node h = h
  read_said key None None node h = h

  say_plain : (l : Line) (node : Node) → MaySay was now l (Stopped node) → ⊥
  say_plain (line.Deliver n k) node (inl e) = no_is no.Message node (sym e)
  say_plain (line.Deliver n k) node (inr h) = h
  say_plain (line.Purge n) node (k, e) = number_plain k node e
  say_plain (line.Takeover n) node (inl e) = no_is no.PrimaryUp node (sym e)
  say_plain (line.Takeover n) node (inr e) = number_plain (state_at was).received node e
  say_plain (line.CopyAudit n from) node (inl e) = no_is no.Down node (sym e)
  say_plain (line.CopyAudit n from) node (inr h) = said_plain (needs_taken (state_at was).volumes) (λ r. MayFetch (state_at was).received r) node (λ f. f) h
  say_plain (line.Session n) node e = number_plain (state_at was).received node e
  say_plain (line.Read n key) node h = read_said key was.backup now.backup node h
  say_plain (line.List n vol) node (rows, e) = cc
  say_plain (line.Info n) node h = info_said was.backup node h
  say_plain (line.Status n) node h = status_plain (state_at was) node h
  say_plain (line.Fuse n disk calls tear) node e = done_plain node (sym e)
  say_plain (line.Cut n) node e = done_plain node (sym e)
  say_plain (line.Restart n) node e = number_plain (state_at now).received node e
  say_plain _ node h = h

  backup_stops : (l : Line) (node : Node) → backup.IsReplied l (Ok (Stopped node)) was now → (node ≡ was.name) × (disks_of l ≡ Some was.name)
  backup_stops l node h = by (own_refusal was l) h
    where
      by : (a : Option NoWhy) → IsJudgedAt was.name l a (λ reply. MaySay was now l reply) (Ok (Stopped node)) → (node ≡ was.name) × (disks_of l ≡ Some was.name)
      by None (inl s) = absurd (say_plain l node s)
      by None (inr s) = (stopped_is node was.name s.0, s.1)
      by (Some why) e = absurd (no_is why node (sym (ok_is (Stopped node) (No why) e)))

-- ---- the system

used_so : (session : SessionState) (l : Line) (of node : Node) → node ≡ of → disks_of l ≡ Some of → used_by session l ≡ Some node
used_so session (line.Read n key) of node same e = none_some e
used_so session line.End of node same e = none_some e
used_so session l of node same e = e ∙ ap (λ (m : Node). Some m) (sym same)

sender_plain : (l : Line) (node : Node) → SaysSender l (Stopped node) → ⊥
sender_plain (line.Send n most) node h = h
sender_plain (line.Rewind n) node (k, e) = number_plain k node e
sender_plain (line.Ack n) node (inl e) = no_is no.Down node (sym e)
sender_plain (line.Ack n) node (inr (k, e)) = number_plain k node e
sender_plain _ node h = h

pub bar_plain : (o : Option NoWhy) (l : Line) (node : Node) → IsBarred o (λ r. SaysSender l r) (Ok (Stopped node)) → ⊥
bar_plain None l node h = sender_plain l node h
bar_plain (Some why) l node e = no_is why node (sym (ok_is (Stopped node) (No why) e))

quiet_ends : (session : SessionState) (l : Line) (node : Node) → IsQuiet session l (Stopped node) → l ≡ line.End
quiet_ends (system.Refused of bar) (line.Read n key) node (inl e) = absurd (no_is (why_of bar) node (sym e))
quiet_ends (system.Refused of bar) (line.Read n key) node (inr e) = absurd (no_is no.Down node (sym e))
quiet_ends (system.Refused of bar) line.End node e = refl
quiet_ends (system.Open of true) (line.Read n key) node e = absurd (no_is no.Down node (sym e))
quiet_ends (system.Open of true) line.End node e = refl
quiet_ends session l node e = absurd e

module _ {D : Type 0} {d : Ghosts D} (l : Line) (node : Node) (old new : System D d) where
  -- it is of the one whose disks the line uses, or comes at the end of a session
  pub stop_named : IsReplied l (Ok (Stopped node)) old new → (used_by old.session l ≡ Some node) ⊎ (l ≡ line.End)
  stop_named (ByPrimary on kinds) = let s = primary_stops old.primary l node kinds in inl (used_so old.session l A node s.0 s.1)
  stop_named (ByBackup name placed on was now there behind kinds) = let s = backup_stops was now l node kinds in inl (used_so old.session l was.name node s.0 s.1)
  stop_named (BySender on kinds) = absurd (bar_plain (bar_of old.primary) l node kinds)
  stop_named (BySession reply is kinds) = inr (quiet_ends old.session l node (subst (λ (r : Reply). IsQuiet old.session l r) (sym (ok_is (Stopped node) reply is)) kinds))
  stop_named (AtEnd name opened was there up (Received is number)) = inr is
  stop_named (AtEnd name opened was there up (Halted stops (inl of))) = inl (of ∙ ap (λ (m : Node). Some m) (sym (stopped_is node name stops)))
  stop_named (AtEnd name opened was there up (Halted stops (inr is))) = inr is

  -- and so a disk of it stopped, but there
  pub stop_caused : (counts : D → Counts) → IsReplied l (Ok (Stopped node)) old new → ReplyCaused counts l (Stopped node) old new → (l ≡ line.End) ⊎ ((disk : ℕ) × FailsBy counts l node (fault.Stopped disk) old new)
  stop_caused counts kinds (inr (named, (ended, (is, (disk, fails))))) = inr (disk, subst (λ (m : Node). FailsBy counts l m (fault.Stopped disk) old new) (sym (stopped_is node named is)) fails)
  stop_caused counts kinds (inl (none, plain)) = by (stop_named kinds)
    where
      by : (used_by old.session l ≡ Some node) ⊎ (l ≡ line.End) → (l ≡ line.End) ⊎ ((disk : ℕ) × FailsBy counts l node (fault.Stopped disk) old new)
      by (inl used) = absurd (plain node used refl)
      by (inr is) = inl is
