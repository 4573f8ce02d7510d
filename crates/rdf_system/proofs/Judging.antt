-- What a line is answered for how the nodes stand.
use Rattle.std.proofs.Common.{◌≡◌, ◌⊎◌, inl, inr, ℕ, ◌-◌, ◌||◌, Bool, true, false, not, nat_lt, List, [], ◌∷◌, map, if◌then◌else◌, Option, Some, None, is_some, Result, Ok, Err, IfOk, refl, sym, ap, ◌∙◌, subst}
use Rattle.std.specs.Prelude.{MatchOption}
use Rattle.std.proofs.lemmas.Option.{none-some, same_Some}
use Rattle.rdf_types.specs.declared.layout.Layout.{Layout}
use Rattle.rdf_types.specs.declared.records.Node.{Node}
use Rattle.rdf_types.specs.declared.records.Node.TheVariants.{A, B, C}
use Rattle.rdf_types.specs.declared.records.Phase.{Phase}
use Rattle.rdf_types.specs.declared.records.Phase.TheVariants as phase
use Rattle.rdf_types.specs.declared.records.RecKey.{RecKey}
use Rattle.rdf_disk.specs.Files.{Disk}
use Rattle.rdf_disk.specs.Counts.{Counts}
use Rattle.rdf_disk.specs.declared.disk.Disk.{Ghosts}
use Rattle.by_node.specs.Each.{Each, at, at-map_each, map_each, map_each-with_at, with_at, with_at-still}
use Rattle.plan_lang.specs.declared.lines.Line.{Line}
use Rattle.plan_lang.specs.declared.lines.Line.TheVariants as line
use Rattle.plan_lang.specs.LineText.{same_node}
use Rattle.node_faults.specs.declared.NodeFault.{NodeFault}
use Rattle.rdf_core.specs.StopLaws.{ok_is}
use Rattle.rdf_core.specs.declared.events.Standing.{Standing}
use Rattle.rdf_core.specs.declared.events.Standing.TheVariants as standing
use Rattle.rdf_core.specs.declared.replies.NoWhy.{NoWhy}
use Rattle.rdf_core.specs.declared.replies.NoWhy.TheVariants as no
use Rattle.rdf_core.specs.declared.replies.Reply.{Reply}
use Rattle.rdf_core.specs.declared.replies.Reply.TheVariants.{Done, Number, PrimaryUp, NodeDown, NodeLost, Stopped, No}
use Rattle.rdf_core.specs.Allowed.{is_backup}
use Rattle.rdf_core.specs.Backup.{needs_up, needs_running, needs_taken, needs_volumes, is_taking, is_taken, read_reply}
use Rattle.rdf_core.specs.Effects.{when, first}
use Rattle.rdf_core.specs.Layouts.{protects}
use Rattle.rdf_core.specs.Primary.{is_lost}
use Rattle.rdf_core.specs.Step.{disks_of, is_of_session}
use Rattle.rdf_primary.specs.Kinds as asked
use Rattle.rdf_primary.specs.declared.primary.Primary.{Primary}
use Rattle.primary_node.specs.declared.node.PrimaryNode.{PrimaryNode}
use Rattle.primary_node.specs.Kinds as primary
use Rattle.primary_node.specs.Moves.{standing_at, standing_by}
use Rattle.primary_node.specs.Nodes.{HasLayout, MayRest, MayRun, MayServe}
use Rattle.rdf_backup.specs.declared.backup.Backup.{Backup}
use Rattle.rdf_backup.specs.Copying.{not_taken}
use Rattle.rdf_backup.specs.Refusals.{IsCount, IsNumber, IsReadOf, IsStatus}
use Rattle.rdf_backup.specs.Replies.{not_running}
use Rattle.rdf_backup.specs.StandingLaws.{phase_by}
use Rattle.rdf_backup.specs.States.{layout_of as backup_layout, value_of, state_of, volumes_by}
use Rattle.rdf_volume.specs.Views.{restart_of}
use Rattle.backup_node.specs.declared.node.BackupNode.{BackupNode}
use Rattle.backup_node.specs.Kinds as backup
use Rattle.backup_node.specs.Kinds.{IsCopied, IsJudgedAt, IsSaid, IsTakenOver, MayRead, MaySay, MayTake, state_among, state_at}
use Rattle.backup_node.specs.Moves.{phase_among, phase_at}
use Rattle.backup_node.specs.Open.{Runs}
use Rattle.senders.specs.Sending.{IsOfSend}
use Rattle.rdf_system.specs.declared.fault.StepFault.{StepFault}
use Rattle.rdf_system.specs.declared.session.SessionState.{SessionState}
use Rattle.rdf_system.specs.declared.session.SessionState.TheVariants as system
use Rattle.rdf_system.specs.declared.site.Site.{Site}
use Rattle.rdf_system.specs.declared.system.System.{System}
use Rattle.rdf_system.specs.Closing.{behind_told, told_by}
use Rattle.rdf_system.specs.Kinds.{IsBarred, SaysSender, bar_by, bar_of}
use Rattle.rdf_system.specs.Moves.{MovesAt, phase_in, phase_of}
use Rattle.rdf_system.specs.NodeLines.{with_site}
use Rattle.rdf_system.specs.Noting.{behind, is_stop_of, noted}
use Rattle.rdf_system.specs.OnNodes.{is_of_backup, is_of_sender, is_on_primary, site_at}
use Rattle.rdf_system.specs.Sessions.{node_of, IsPlacedAt}
use Rattle.rdf_system.specs.Opened.{MayOpen}
use Rattle.rdf_system.specs.Stances.{Stances, IsHeld, IsHeldBy, IsJudgedBy, IsUnbarred, TellsPhase, TellsStanding, bar_in, down_by, is_by_stance, off_by, refusal_for, running_by, stances_of, taken_by, taking_by}
use Rattle.rdf_system.proofs.PlaceLaws.{none_some, not_so}
use Rattle.rdf_system.proofs.StopLaws.{bar_plain, primary_stops}

unbarred : (r q : Reply) → r ≡ q → IsUnbarred q → IsUnbarred r
unbarred r q e h = subst (λ (x : Reply). IsUnbarred x) (sym e) h

counted : (reply : Reply) → IsCount reply → IsUnbarred reply
counted reply h = unbarred reply (Number h.0) h.1 tt

numbered : (n : ℕ) (reply : Reply) → IsNumber n reply → IsUnbarred reply
numbered n reply h = unbarred reply (Number n) h tt

-- where another refusal is the same one
said_as : (a b : Option NoWhy) (Free : Reply → Type 0) (reply : Reply) → b ≡ a → IsSaid a Free reply → IsSaid b Free reply
said_as a b Free reply e h = subst (λ (x : Option NoWhy). IsSaid x Free reply) (sym e) h

-- ---- the primary's node

of_place : (needs : Bool) (why : NoWhy) → asked.IsOfPlace needs why → is_by_stance why ≡ false
of_place needs no.Txn h = refl
of_place needs no.Volume h = refl
of_place needs (no.Locked by) h = refl
of_place needs no.Exists h = refl
of_place needs no.Missing h = refl
of_place needs _ h = absurd h

asked_unbarred : (l : Line) (why : NoWhy) → asked.MayRefuse l why → is_by_stance why ≡ false
asked_unbarred (line.Begin t) why e = ap is_by_stance e
asked_unbarred (line.Insert t k value) why h = of_place false why h
asked_unbarred (line.Update t k value) why h = of_place true why h
asked_unbarred (line.Delete t k) why h = of_place true why h
asked_unbarred (line.Get t k) why h = of_place true why h
asked_unbarred (line.Commit t) why e = ap is_by_stance e
asked_unbarred (line.Abort t) why e = ap is_by_stance e
asked_unbarred (line.List node vol) why e = ap is_by_stance e
asked_unbarred _ why h = absurd h

may_unbarred : (l : Line) (reply : Reply) → primary.MayReply l reply → IsUnbarred reply
may_unbarred l (No why) h = asked_unbarred l why h
may_unbarred l _ h = tt

up_told : (reply : Reply) → primary.MayReply (line.Status A) reply → TellsStanding standing.Up reply
up_told (Stopped node) h = absurd (none-some A h.1)
up_told (No why) h = absurd h
up_told (PrimaryUp len active) h = tt
up_told _ h = absurd h

-- it is off just as its lines are barred
off_is : {D : Type 0} {d : Ghosts D} (o : Option (Primary D d)) (lost : Bool) → off_by (standing_by o lost) ≡ bar_by o lost
off_is None true = refl
off_is None false = refl
off_is (Some p) lost = refl

-- one that is up is not lost
abbrev pub UnlostUp : {D : Type 0} {d : Ghosts D} → PrimaryNode D d → Type 0
UnlostUp n = MatchOption n.primary (Unit {0}) (λ p. n.lost ≡ false)

pub unlost : {D : Type 0} {d : Ghosts D} (tells : Type 0) (files : D → Disk) (counts : D → Counts) (n : PrimaryNode D d) → MayServe tells files counts n → UnlostUp n
unlost {D} {d} tells files counts n serves = by n.primary serves
  where
    by : (o : Option (Primary D d)) → MatchOption o (MayRest tells files counts n.volumes n.disks.items) (λ p. MayRun tells files counts n.volumes p × (n.lost ≡ false) × HasLayout n.volumes) → MatchOption o (Unit {0}) (λ p. n.lost ≡ false)
    by None h = tt
    by (Some p) h = h.1

-- and it is lost just where it says so
pub lost_is : {D : Type 0} {d : Ghosts D} (n : PrimaryNode D d) → UnlostUp n → is_lost (standing_at n) ≡ n.lost
lost_is {D} {d} n unlost = by n.primary n.lost unlost
  where
    by : (o : Option (Primary D d)) (lost : Bool) → MatchOption o (Unit {0}) (λ p. lost ≡ false) → is_lost (standing_by o lost) ≡ lost
    by None true h = refl
    by None false h = refl
    by (Some p) lost h = sym h

module _ {D : Type 0} {d : Ghosts D} (n : PrimaryNode D d) (phases : Each (Option Phase)) (session : SessionState) where
  abbrev Stand : Standing → Stances
  Stand st = record { primary = st; phases = phases; session = session }

  abbrev Node_of : Option (Primary D d) → Bool → PrimaryNode D d
  Node_of o lost = record n { primary = o; lost = lost }

  -- one that is up
  up_judged : (p : Primary D d) (l : Line) → is_on_primary l ≡ true → (reply : Reply) → primary.IsReplied l (Ok reply) (Node_of (Some p) false) → IsJudgedBy (Stand standing.Up) l reply
  up_judged p line.Lose on reply h = unbarred reply Done (ok_is reply Done h) tt
  up_judged p (line.Cut A) on reply h = unbarred reply Done (ok_is reply Done h) tt
  up_judged p (line.Fuse A disk calls tear) on reply h = by (nat_lt n.volumes disk) h
    where
      by : (b : Bool) → (let x : Result Reply NodeFault = Ok reply in x) ≡ Ok (if b then No no.Volume else Done) → IsUnbarred reply
      by true e = unbarred reply (No no.Volume) (ok_is reply (No no.Volume) e) refl
      by false e = unbarred reply Done (ok_is reply Done e) tt
  up_judged p (line.Restart A) on reply h = ok_is reply (No no.Up) h
  up_judged p (line.Status A) on reply h = up_told reply h
  up_judged p (line.List A vol) on reply h = may_unbarred (line.List A vol) reply h
  up_judged p (line.Begin t) on reply h = may_unbarred (line.Begin t) reply h
  up_judged p (line.Insert t k value) on reply h = may_unbarred (line.Insert t k value) reply h
  up_judged p (line.Update t k value) on reply h = may_unbarred (line.Update t k value) reply h
  up_judged p (line.Delete t k) on reply h = may_unbarred (line.Delete t k) reply h
  up_judged p (line.Get t k) on reply h = may_unbarred (line.Get t k) reply h
  up_judged p (line.Commit t) on reply h = may_unbarred (line.Commit t) reply h
  up_judged p (line.Abort t) on reply h = may_unbarred (line.Abort t) reply h
  up_judged p _ on reply h = not_so on

  -- one that is lost
  lost_judged : (l : Line) → is_on_primary l ≡ true → (reply : Reply) → primary.IsReplied l (Ok reply) (Node_of None true) → IsJudgedBy (Stand standing.Lost) l reply
  lost_judged line.Lose on reply h = ok_is reply (No no.Lost) h
  lost_judged (line.Cut A) on reply h = ok_is reply (No no.Lost) h
  lost_judged (line.Fuse A disk calls tear) on reply h = ok_is reply (No no.Lost) h
  lost_judged (line.Restart A) on reply h = ok_is reply (No no.Lost) h
  lost_judged (line.Status A) on reply h = subst (λ (r : Reply). TellsStanding standing.Lost r) (sym (ok_is reply NodeLost h)) tt
  lost_judged (line.List A vol) on reply h = ok_is reply (No no.Lost) h
  lost_judged (line.Begin t) on reply h = ok_is reply (No no.Lost) h
  lost_judged (line.Insert t k value) on reply h = ok_is reply (No no.Lost) h
  lost_judged (line.Update t k value) on reply h = ok_is reply (No no.Lost) h
  lost_judged (line.Delete t k) on reply h = ok_is reply (No no.Lost) h
  lost_judged (line.Get t k) on reply h = ok_is reply (No no.Lost) h
  lost_judged (line.Commit t) on reply h = ok_is reply (No no.Lost) h
  lost_judged (line.Abort t) on reply h = ok_is reply (No no.Lost) h
  lost_judged _ on reply h = not_so on

  -- one that is down
  down_judged : (l : Line) → is_on_primary l ≡ true → (reply : Reply) → primary.IsReplied l (Ok reply) (Node_of None false) → IsJudgedBy (Stand standing.Down) l reply
  down_judged line.Lose on reply h = unbarred reply Done (ok_is reply Done h) tt
  down_judged (line.Cut A) on reply h = ok_is reply (No no.Down) h
  down_judged (line.Fuse A disk calls tear) on reply h = by (nat_lt n.volumes disk) h
    where
      by : (b : Bool) → (let x : Result Reply NodeFault = Ok reply in x) ≡ Ok (if b then No no.Volume else Done) → IsUnbarred reply
      by true e = unbarred reply (No no.Volume) (ok_is reply (No no.Volume) e) refl
      by false e = unbarred reply Done (ok_is reply Done e) tt
  down_judged (line.Restart A) on reply h = may_unbarred (line.Restart A) reply h
  down_judged (line.Status A) on reply h = subst (λ (r : Reply). TellsStanding standing.Down r) (sym (ok_is reply NodeDown h)) tt
  down_judged (line.List A vol) on reply h = ok_is reply (No no.Down) h
  down_judged (line.Begin t) on reply h = ok_is reply (No no.Down) h
  down_judged (line.Insert t k value) on reply h = ok_is reply (No no.Down) h
  down_judged (line.Update t k value) on reply h = ok_is reply (No no.Down) h
  down_judged (line.Delete t k) on reply h = ok_is reply (No no.Down) h
  down_judged (line.Get t k) on reply h = ok_is reply (No no.Down) h
  down_judged (line.Commit t) on reply h = ok_is reply (No no.Down) h
  down_judged (line.Abort t) on reply h = ok_is reply (No no.Down) h
  down_judged _ on reply h = not_so on

  pub primary_judged : UnlostUp n → (l : Line) → is_on_primary l ≡ true → (reply : Reply) → primary.IsReplied l (Ok reply) n → IsJudgedBy (Stand (standing_at n)) l reply
  primary_judged unlost l on reply h = by n.primary n.lost unlost h
    where
      by : (o : Option (Primary D d)) (lost : Bool) → MatchOption o (Unit {0}) (λ p. lost ≡ false) → primary.IsReplied l (Ok reply) (Node_of o lost) → IsJudgedBy (Stand (standing_by o lost)) l reply
      by None true f k = lost_judged l on reply k
      by None false f k = down_judged l on reply k
      by (Some p) true f k = not_so (sym f)
      by (Some p) false f k = up_judged p l on reply k

-- ---- the sender's side

of_send : (reply : Reply) → IsOfSend reply → IsUnbarred reply
of_send (No why) h = absurd h
of_send _ h = tt

-- what is said of an acknowledgement, by how the primary and its backup stand
abbrev pub IsAckTold : Stances → Line → Reply → Type 0
IsAckTold s (line.Ack node) reply = IsSaid (refusal_for s (line.Ack node)) IsUnbarred reply
IsAckTold s _ reply = Unit {0}

module _ {D : Type 0} {d : Ghosts D} (n : PrimaryNode D d) (phases : Each (Option Phase)) (session : SessionState) where
  abbrev Sides : Stances
  Sides = record { primary = standing_at n; phases = phases; session = session }

  plainly : (l : Line) (reply : Reply) → ((r : Reply) → SaysSender l r → IsUnbarred r) → IsBarred (bar_of n) (λ r. SaysSender l r) (Ok reply) → IsSaid (off_by (standing_at n)) IsUnbarred reply
  plainly l reply says h = said_as (bar_of n) (off_by (standing_at n)) IsUnbarred reply (off_is n.primary n.lost) (by (bar_of n) h)
    where
      reply_is : (r q : Reply) → (let x : Result Reply StepFault = Ok r in x) ≡ Ok q → r ≡ q
      reply_is r q e = cc

      by : (o : Option NoWhy) → IsBarred o (λ r. SaysSender l r) (Ok reply) → IsSaid o IsUnbarred reply
      by None k = says reply k
      by (Some why) k = reply_is reply (No why) k

  -- an acknowledgement that the primary refuses, and one by how its backup stands
  pub ack_barred : (node : Node) (why : NoWhy) → bar_of n ≡ Some why → IsAckTold Sides (line.Ack node) (No why)
  ack_barred node why e = subst (λ (o : Option NoWhy). IsSaid (first (o ∷ down_by (at phases node) ∷ [])) IsUnbarred (No why)) (sym (off_is n.primary n.lost ∙ e)) refl

  by_backup : (node : Node) (reply : Reply) → bar_of n ≡ None → (p : Option Phase) → p ≡ at phases node → IsSaid (first (None ∷ down_by p ∷ [])) IsUnbarred reply → IsAckTold Sides (line.Ack node) reply
  by_backup node reply e p is h = subst (λ (o : Option NoWhy). IsSaid (first (o ∷ down_by (at phases node) ∷ [])) IsUnbarred reply) (sym (off_is n.primary n.lost ∙ e))
      (subst (λ (q : Option Phase). IsSaid (first (None ∷ down_by q ∷ [])) IsUnbarred reply) is h)

  pub ack_up : (node : Node) (reply : Reply) (k : ℕ) → reply ≡ Number k → bar_of n ≡ None → (p : Option Phase) → p ≡ at phases node → true ≡ is_some p → IsAckTold Sides (line.Ack node) reply
  ack_up node reply k told e p is up = by_backup node reply e p is (by p up)
    where
      by : (q : Option Phase) → true ≡ is_some q → IsSaid (first (None ∷ down_by q ∷ [])) IsUnbarred reply
      by None f = not_so (sym f)
      by (Some ph) f = unbarred reply (Number k) told tt

  pub ack_down : (node : Node) → bar_of n ≡ None → (p : Option Phase) → p ≡ at phases node → false ≡ is_some p → IsAckTold Sides (line.Ack node) (No no.Down)
  ack_down node e p is down = by_backup node (No no.Down) e p is (by p down)
    where
      by : (q : Option Phase) → false ≡ is_some q → IsSaid (first (None ∷ down_by q ∷ [])) IsUnbarred (No no.Down)
      by None f = refl
      by (Some ph) f = not_so f

  pub sender_judged : (l : Line) → is_of_sender l ≡ true → (reply : Reply) → IsAckTold Sides l reply → IsBarred (bar_of n) (λ r. SaysSender l r) (Ok reply) → IsJudgedBy Sides l reply
  sender_judged (line.Send node most) on reply acks h = plainly (line.Send node most) reply (λ r k. of_send r k) h
  sender_judged (line.Rewind node) on reply acks h = plainly (line.Rewind node) reply (λ r k. counted r k) h
  sender_judged (line.Ack node) on reply acks h = acks
  sender_judged _ on reply acks h = not_so on

-- ---- a backup's node

abbrev points_of : {D : Type 0} {d : Ghosts D} → Backup D d → List ℕ
points_of b = map (λ volume. restart_of volume) b.volumes.items

down_is : {D : Type 0} {d : Ghosts D} (o : Option (Backup D d)) (p : Option Phase) → p ≡ phase_among o → down_by p ≡ needs_up (state_among o)
down_is None p e = ap down_by e
down_is (Some b) p e = ap down_by e

taking_is : {D : Type 0} {d : Ghosts D} (o : Option (Backup D d)) (p : Option Phase) → p ≡ phase_among o → taking_by p ≡ needs_volumes (state_among o)
taking_is None p e = ap taking_by e
taking_is (Some b) p e = ap taking_by e ∙ by (value_of b).phase
  where
    by : (ph : Phase) → taking_by (Some ph) ≡ first (None ∷ when (is_taking (volumes_by ph (points_of b))) no.Taking ∷ [])
    by phase.Running = refl
    by phase.Taking = refl
    by (phase.Taken upto) = refl

running_is : {D : Type 0} {d : Ghosts D} (o : Option (Backup D d)) (p : Option Phase) → p ≡ phase_among o → running_by p ≡ needs_running (state_among o)
running_is None p e = ap running_by e
running_is (Some b) p e = ap running_by e ∙ by (value_of b).phase
  where
    by : (ph : Phase) → not_running ph ≡ first (None ∷ when (is_taking (volumes_by ph (points_of b))) no.Taking ∷ when (is_taken (volumes_by ph (points_of b))) no.Taken ∷ [])
    by phase.Running = refl
    by phase.Taking = refl
    by (phase.Taken upto) = refl

up_is : {D : Type 0} {d : Ghosts D} (o : Option (Backup D d)) (p : Option Phase) → p ≡ phase_among o → is_some p ≡ (state_among o).up
up_is None p e = ap is_some e
up_is (Some b) p e = ap is_some e

-- what is judged by a refusal that is one for how the nodes stand
judged_said : (name : Node) (l : Line) (a b : Option NoWhy) (says : Reply → Type 0) (reply : Reply) → b ≡ a → ((r : Reply) → says r → IsUnbarred r) → IsJudgedAt name l a says (Ok reply) → IsSaid b IsUnbarred reply
judged_said name l a b says reply e free h = said_as a b IsUnbarred reply e (by a h)
  where
    by : (o : Option NoWhy) → IsJudgedAt name l o says (Ok reply) → IsSaid o IsUnbarred reply
    by None (inl k) = free reply k
    by None (inr k) = unbarred reply (Stopped name) k.0 tt
    by (Some why) k = ok_is reply (No why) k

-- by one, and behind it another refusal
judged_behind : (name : Node) (l : Line) (a b : Option NoWhy) (x : Bool) (other : NoWhy) → is_by_stance other ≡ false → (says : Reply → Type 0) (reply : Reply) → b ≡ a → ((r : Reply) → says r → IsUnbarred r) → IsJudgedAt name l (first (a ∷ when x other ∷ [])) says (Ok reply) → IsSaid b IsUnbarred reply
judged_behind name l a b x other plain says reply e free h = said_as a b IsUnbarred reply e (by a x h)
  where
    by : (o : Option NoWhy) (y : Bool) → IsJudgedAt name l (first (o ∷ when y other ∷ [])) says (Ok reply) → IsSaid o IsUnbarred reply
    by (Some why) y k = ok_is reply (No why) k
    by None true k = unbarred reply (No other) (ok_is reply (No other) k) plain
    by None false (inl k) = free reply k
    by None false (inr k) = unbarred reply (Stopped name) k.0 tt

-- by none of them
judged_free : (name : Node) (l : Line) (x : Bool) (other : NoWhy) → is_by_stance other ≡ false → (says : Reply → Type 0) (reply : Reply) → ((r : Reply) → says r → IsUnbarred r) → IsJudgedAt name l (when x other) says (Ok reply) → IsUnbarred reply
judged_free name l true other plain says reply free k = unbarred reply (No other) (ok_is reply (No other) k) plain
judged_free name l false other plain says reply free (inl k) = free reply k
judged_free name l false other plain says reply free (inr k) = unbarred reply (Stopped name) k.0 tt

delivered : (at : ℕ) (reply : Reply) → (reply ≡ No no.Message) ⊎ MayTake at reply → IsUnbarred reply
delivered at reply (inl e) = unbarred reply (No no.Message) e refl
delivered at (Number n) (inr h) = tt
delivered at (No (no.Gap from)) (inr h) = refl
delivered at _ (inr h) = absurd h

-- a node that runs
runs_phase : {D : Type 0} {d : Ghosts D} (n : BackupNode D d) → Runs n → phase_at n ≡ Some phase.Running
runs_phase {D} {d} n runs = by n.backup runs
  where
    by : (o : Option (Backup D d)) → MatchOption o ⊥ (λ b. (value_of b).phase ≡ phase.Running) → phase_among o ≡ Some phase.Running
    by None h = absurd h
    by (Some b) h = ap (λ (p : Phase). Some p) h

-- how the nodes stand, one of them at this phase
module _ {D : Type 0} {d : Ghosts D} (s : Stances) (layout : Layout) (name : Node) (placed : is_backup layout name ≡ true) (n now : BackupNode D d) (stand : at s.phases name ≡ phase_at n) where
  here : (node : Node) → node ≡ name → at s.phases node ≡ phase_among n.backup
  here node own = ap (λ (m : Node). at s.phases m) own ∙ stand

  never_a : {X : Type 0} → A ≡ name → X
  never_a e = not_so (subst (λ (m : Node). is_backup layout m ≡ true) (sym e) placed)

  told_phase : (p : Option Phase) (o : Option (Backup D d)) (reply : Reply) → p ≡ phase_among o → (l : Line) (name : Node) → disks_of l ≡ None → IsJudgedAt name l None (λ r. IsStatus (state_among o) r) (Ok reply) → TellsPhase p reply
  told_phase p o reply e l name none (inl h) = subst (λ (q : Option Phase). TellsPhase q reply) (sym e) (by o h)
    where
      by : (x : Option (Backup D d)) → IsStatus (state_among x) reply → TellsPhase (phase_among x) reply
      by None k = subst (λ (r : Reply). TellsPhase None r) (sym k.1) tt
      by (Some b) k = subst (λ (r : Reply). TellsPhase (Some (value_of b).phase) r) (sym k.1) (sym (phase_by (value_of b).phase (points_of b)))
  told_phase p o reply e l name none (inr h) = absurd (none-some name (sym none ∙ h.1))

  informed : (o : Option (Backup D d)) (reply : Reply) → backup.MayInform o reply → IsUnbarred reply
  informed None reply h = absurd h
  informed (Some b) reply h = unbarred reply _ h tt

  read_shown : (o q : Option (Backup D d)) (key : RecKey) (reply : Reply) → MayRead key o q reply → IsUnbarred reply
  read_shown (Some b) (Some c) key reply h = by (protects (backup_layout b) key.vol) _ h
    where
      told : (at : ℕ) (value : Option (List ℕ)) → IsUnbarred (read_reply at value)
      told at None = tt
      told at (Some v) = tt

      by : (own : Bool) (at : ℕ) → IsReadOf own at reply → IsUnbarred reply
      by true at k = unbarred reply (read_reply at k.0) k.1 (told at k.0)
      by false at k = unbarred reply (read_reply 0 None) k tt
  read_shown (Some b) None key reply h = absurd h
  read_shown None (Some c) key reply h = absurd h
  read_shown None None key reply h = absurd h

  -- a line that the node does, but a read, a copy and a takeover
  pub backup_judged : (l : Line) → is_of_backup name l → ((from : Node) → l ≡ line.CopyAudit name from → ⊥) → (l ≡ line.Takeover name → ⊥) → (reply : Reply) → backup.IsReplied l (Ok reply) n now → IsJudgedBy s l reply
  backup_judged (line.Deliver node k) own copies takes reply h = judged_said n.name (line.Deliver node k) (needs_running (state_at n)) (running_by (at s.phases node)) (λ r. MaySay n now (line.Deliver node k) r) reply (running_is n.backup (at s.phases node) (here node own)) (λ r x. delivered (state_at n).received r x) h
  backup_judged (line.Purge node) own copies takes reply h = judged_said n.name (line.Purge node) (needs_volumes (state_at n)) (taking_by (at s.phases node)) (λ r. MaySay n now (line.Purge node) r) reply (taking_is n.backup (at s.phases node) (here node own)) (λ r x. counted r x) h
  backup_judged (line.Info node) own copies takes reply h = judged_said n.name (line.Info node) (needs_volumes (state_at n)) (taking_by (at s.phases node)) (λ r. MaySay n now (line.Info node) r) reply (taking_is n.backup (at s.phases node) (here node own)) (λ r x. informed n.backup r x) h
  backup_judged (line.List A vol) own copies takes reply h = never_a own
  backup_judged (line.List B vol) own copies takes reply h = judged_behind n.name (line.List B vol) (needs_volumes (state_at n)) (taking_by (at s.phases B)) (not (nat_lt vol n.volumes)) no.Volume refl (λ r. MaySay n now (line.List B vol) r) reply (taking_is n.backup (at s.phases B) (here B own)) (λ r x. unbarred r _ x.1 tt) h
  backup_judged (line.List C vol) own copies takes reply h = judged_behind n.name (line.List C vol) (needs_volumes (state_at n)) (taking_by (at s.phases C)) (not (nat_lt vol n.volumes)) no.Volume refl (λ r. MaySay n now (line.List C vol) r) reply (taking_is n.backup (at s.phases C) (here C own)) (λ r x. unbarred r _ x.1 tt) h
  backup_judged (line.Status A) own copies takes reply h = never_a own
  backup_judged (line.Status B) own copies takes reply h = told_phase (at s.phases B) n.backup reply (here B own) (line.Status B) n.name refl h
  backup_judged (line.Status C) own copies takes reply h = told_phase (at s.phases C) n.backup reply (here C own) (line.Status C) n.name refl h
  backup_judged (line.Fuse A disk calls tear) own copies takes reply h = never_a own
  backup_judged (line.Fuse B disk calls tear) own copies takes reply h = judged_free n.name (line.Fuse B disk calls tear) (nat_lt n.volumes disk) no.Volume refl (λ r. r ≡ Done) reply (λ r x. unbarred r Done x tt) h
  backup_judged (line.Fuse C disk calls tear) own copies takes reply h = judged_free n.name (line.Fuse C disk calls tear) (nat_lt n.volumes disk) no.Volume refl (λ r. r ≡ Done) reply (λ r x. unbarred r Done x tt) h
  backup_judged (line.Cut A) own copies takes reply h = never_a own
  backup_judged (line.Cut B) own copies takes reply h = judged_said n.name (line.Cut B) (needs_up (state_at n)) (down_by (at s.phases B)) (λ r. r ≡ Done) reply (down_is n.backup (at s.phases B) (here B own)) (λ r x. unbarred r Done x tt) h
  backup_judged (line.Cut C) own copies takes reply h = judged_said n.name (line.Cut C) (needs_up (state_at n)) (down_by (at s.phases C)) (λ r. r ≡ Done) reply (down_is n.backup (at s.phases C) (here C own)) (λ r x. unbarred r Done x tt) h
  backup_judged (line.Restart A) own copies takes reply h = never_a own
  backup_judged (line.Restart B) own copies takes reply h = judged_said n.name (line.Restart B) (when (state_at n).up no.Up) (when (is_some (at s.phases B)) no.Up) (λ r. MaySay n now (line.Restart B) r) reply (ap (λ (b : Bool). when b no.Up) (up_is n.backup (at s.phases B) (here B own))) (λ r x. numbered _ r x) h
  backup_judged (line.Restart C) own copies takes reply h = judged_said n.name (line.Restart C) (when (state_at n).up no.Up) (when (is_some (at s.phases C)) no.Up) (λ r. MaySay n now (line.Restart C) r) reply (ap (λ (b : Bool). when b no.Up) (up_is n.backup (at s.phases C) (here C own))) (λ r x. numbered _ r x) h
  backup_judged (line.Takeover node) own copies takes reply h = absurd (takes (ap (λ (m : Node). line.Takeover m) own))
  backup_judged (line.CopyAudit node from) own copies takes reply h = absurd (copies from (ap (λ (m : Node). line.CopyAudit m from) own))
  backup_judged _ own copies takes reply h = absurd own

  -- a session
  pub session_judged : (reply : Reply) → backup.IsReplied (line.Session name) (Ok reply) n now → IsJudgedBy s (line.Session name) reply
  session_judged reply h = judged_said n.name (line.Session name) (needs_running (state_at n)) (running_by (at s.phases name)) (λ r. MaySay n now (line.Session name) r) reply (running_is n.backup (at s.phases name) stand) (λ r x. numbered _ r x) h

  -- a read of a session that was not refused, on a node that runs
  pub read_judged : (key : RecKey) (reply : Reply) → Runs n → bar_in s.session ≡ None → backup.IsReplied (line.Read name key) (Ok reply) n now → IsJudgedBy s (line.Read name key) reply
  read_judged key reply runs unrefused h = subst (λ (o : Option Phase). IsSaid (first (down_by o ∷ bar_in s.session ∷ [])) IsUnbarred reply) (sym there)
      (subst (λ (b : Option NoWhy). IsSaid (first (None ∷ b ∷ [])) IsUnbarred reply) (sym unrefused)
      (subst (λ (o : Option Phase). IsSaid (running_by o) IsUnbarred reply) there
      (judged_behind n.name (line.Read name key) (needs_running (state_at n)) (running_by (at s.phases name)) (not (nat_lt key.vol n.volumes)) no.Volume refl (λ r. MaySay n now (line.Read name key) r) reply (running_is n.backup (at s.phases name) stand) (λ r x. read_shown n.backup now.backup key r x) h)))
    where
      there : at s.phases name ≡ Some phase.Running
      there = stand ∙ runs_phase n runs

  -- a takeover, where the primary is lost or not
  pub takeover_judged : (lost : Bool) → is_lost s.primary ≡ lost → (reply : Reply) → IsTakenOver lost (Ok reply) n → IsJudgedBy s (line.Takeover name) reply
  takeover_judged lost is reply h = judged_said n.name (line.Takeover n.name) (first (needs_up (state_at n) ∷ when (not lost) no.PrimaryUp ∷ [])) (first (down_by (at s.phases name) ∷ when (not (is_lost s.primary)) no.PrimaryUp ∷ [])) (λ r. IsNumber (state_at n).received r) reply
      (ap (λ (o : Option NoWhy). first (o ∷ when (not (is_lost s.primary)) no.PrimaryUp ∷ [])) (down_is n.backup (at s.phases name) stand) ∙ ap (λ (b : Bool). first (needs_up (state_at n) ∷ when (not b) no.PrimaryUp ∷ [])) is) (λ r x. numbered _ r x) h

-- a copy, from the node of another backup
copy_said : (name : Node) (l : Line) (a b : Option NoWhy) (x : Bool) (other : NoWhy) → is_by_stance other ≡ false → (says : Reply → Type 0) (reply : Reply) → ((r : Reply) → says r → IsUnbarred r) → IsJudgedAt name l (first (a ∷ b ∷ when x other ∷ [])) says (Ok reply) → IsSaid (first (a ∷ b ∷ [])) IsUnbarred reply
copy_said name l (Some why) b x other plain says reply free h = ok_is reply (No why) h
copy_said name l None (Some why) x other plain says reply free h = ok_is reply (No why) h
copy_said name l None None true other plain says reply free h = judged_free name l true other plain says reply free h
copy_said name l None None false other plain says reply free h = judged_free name l false other plain says reply free h

taken_is : (ph : Phase) (points : List ℕ) → not_taken ph ≡ needs_taken (volumes_by ph points)
taken_is phase.Running points = refl
taken_is phase.Taking points = refl
taken_is (phase.Taken upto) points = refl

pub copy_judged : {D : Type 0} {d : Ghosts D} (s : Stances) (name from : Node) (n lead : BackupNode D d) → at s.phases name ≡ phase_at n → at s.phases from ≡ phase_at lead → (reply : Reply) → IsCopied from lead (Ok reply) n → IsJudgedBy s (line.CopyAudit name from) reply
copy_judged {D} {d} s name from n lead stand far reply h = subst (λ (p : Option Phase). Says p (at s.phases from)) (sym stand) (subst (λ (q : Option Phase). Says (phase_at n) q) (sym far) (by n.backup lead.backup h))
  where
    l : Line
    l = line.CopyAudit n.name from

    Says : Option Phase → Option Phase → Type 0
    Says p q = IsSaid (first (down_by p ∷ down_by q ∷ taken_by p ∷ taken_by q ∷ [])) IsUnbarred reply

    by : (o m : Option (Backup D d)) → IsCopied from (record lead { backup = m }) (Ok reply) (record n { backup = o }) → Says (phase_among o) (phase_among m)
    by None m k = ok_is reply (No no.Down) k
    by (Some b) None k = ok_is reply (No no.Down) k
    by (Some b) (Some c) k = subst (λ (x : Option NoWhy). IsSaid (first (None ∷ None ∷ x ∷ not_taken (value_of c).phase ∷ [])) IsUnbarred reply) (sym (taken_is (value_of b).phase (points_of b)))
        (subst (λ (y : Option NoWhy). IsSaid (first (None ∷ None ∷ needs_taken (volumes_by (value_of b).phase (points_of b)) ∷ y ∷ [])) IsUnbarred reply) (sym (taken_is (value_of c).phase (points_of c)))
        (copy_said n.name (line.CopyAudit n.name from) (needs_taken (state_of 0 b).volumes) (needs_taken (state_of 0 c).volumes) _ (no.Purged (state_of 0 b).received) refl (λ r. IsNumber ((state_of 0 c).received - (state_of 0 b).received) r) reply (λ r x. numbered _ r x) k))

-- ---- the session behind a line

-- where no backup's node is told to have stopped, none is noted in it
unstopped_noted : (layout : Layout) (ss : SessionState) (reply : Reply) → IsPlacedAt layout (node_of ss) → ((node : Node) → reply ≡ Stopped node → node ≡ A) → ss ≡ noted ss reply
unstopped_noted layout system.Closed reply placed told = refl
unstopped_noted layout (system.Refused node bar) reply placed told = refl
unstopped_noted layout (system.Open node stopped) reply placed told = ap (λ (b : Bool). system.Open node b) (or_none stopped (is_stop_of node reply) (by reply told))
  where
    or_none : (a b : Bool) → b ≡ false → a ≡ (a || b)
    or_none true b e = refl
    or_none false b e = sym e

    apart : (x : Node) → is_backup layout x ≡ true → same_node x A ≡ false
    apart A e = not_so e
    apart B e = refl
    apart C e = refl

    by : (r : Reply) → ((of : Node) → r ≡ Stopped of → of ≡ A) → is_stop_of node r ≡ false
    by (Stopped of) h = ap (λ (m : Node). same_node node m) (h of refl) ∙ apart node placed
    by _ h = refl

-- a line on the primary
pub session_on_primary : {D : Type 0} {d : Ghosts D} (n : PrimaryNode D d) (layout : Layout) (ss : SessionState) (l : Line) → IsPlacedAt layout (node_of ss) → is_on_primary l ≡ true → (reply : Reply) → primary.IsReplied l (Ok reply) n → ss ≡ behind ss l reply
session_on_primary n layout ss l placed on reply h = unstopped_noted layout ss reply placed (λ node e. (primary_stops n l node (subst (λ (r : Reply). primary.IsReplied l (Ok r) n) e h)).0) ∙ noted_is l on
  where
    noted_is : (k : Line) → is_on_primary k ≡ true → noted ss reply ≡ behind ss k reply
    noted_is (line.Session node) e = not_so e
    noted_is line.End e = not_so e
    noted_is _ e = refl

-- one on the sender's side
pub session_of_sender : (layout : Layout) (ss : SessionState) (l : Line) → IsPlacedAt layout (node_of ss) → is_of_sender l ≡ true → (o : Option NoWhy) (reply : Reply) → IsBarred o (λ r. SaysSender l r) (Ok reply) → ss ≡ behind ss l reply
session_of_sender layout ss l placed on o reply h = unstopped_noted layout ss reply placed (λ node e. absurd (bar_plain o l node (subst (λ (r : Reply). IsBarred o (λ q. SaysSender l q) (Ok r)) e h))) ∙ noted_is l on
  where
    noted_is : (k : Line) → is_of_sender k ≡ true → noted ss reply ≡ behind ss k reply
    noted_is (line.Session node) e = not_so e
    noted_is line.End e = not_so e
    noted_is _ e = refl

-- one that is answered at the end of a session
pub told_behind : (ss : SessionState) (l : Line) (r : Result Reply NodeFault) → IfOk r (λ reply. behind_told ss l r ≡ behind ss l reply)
told_behind ss l (Err why) = tt
told_behind ss l (Ok reply) = refl

-- ---- how the nodes are moved

-- each backup's, by its name
pub each_moves : {D : Type 0} {d : Ghosts D} (l : Line) (reply : Reply) (old new : System D d) (name : Node) → MovesAt name l reply (phase_of old name) (phase_of new name) → MovesAt name l reply (at (stances_of old).phases name) (at (stances_of new).phases name)
each_moves l reply old new A h = h
each_moves l reply old new B h = h
each_moves l reply old new C h = h

-- the phase of a backup
pub phase_there : {D : Type 0} {d : Ghosts D} (sys : System D d) (name : Node) (n : BackupNode D d) → (site_at sys name).node ≡ Some n → at (stances_of sys).phases name ≡ phase_at n
phase_there sys name n is = at-map_each (λ site. phase_in site.node) sys.sites name ∙ ap phase_in is

-- a node runs where it stands as one that does
pub runs_on : {D : Type 0} {d : Ghosts D} (old new : BackupNode D d) → phase_at new ≡ phase_at old → Runs old → Runs new
runs_on {D} {d} old new same runs = by old.backup new.backup same runs
  where
    some_is : (p q : Phase) → (let x : Option Phase = Some p in x) ≡ Some q → p ≡ q
    some_is p q e = cc

    none_is : {X : Type 0} (q : Phase) → (let x : Option Phase = None in x) ≡ Some q → X
    none_is q e = absurd cc

    by : (o m : Option (Backup D d)) → phase_among m ≡ phase_among o → MatchOption o ⊥ (λ b. (value_of b).phase ≡ phase.Running) → MatchOption m ⊥ (λ b. (value_of b).phase ≡ phase.Running)
    by None m e h = absurd h
    by (Some b) None e h = none_is (value_of b).phase e
    by (Some b) (Some c) e h = some_is (value_of c).phase (value_of b).phase e ∙ h

-- and it does where that is its phase in memory
runs_at : {D : Type 0} {d : Ghosts D} (o : Option (BackupNode D d)) → phase_in o ≡ Some phase.Running → MatchOption o ⊥ Runs
runs_at {D} {d} None e = none_some e
runs_at {D} {d} (Some n) e = by n.backup e
  where
    some_is : (p q : Phase) → (let x : Option Phase = Some p in x) ≡ Some q → p ≡ q
    some_is p q f = cc

    by : (o : Option (Backup D d)) → phase_among o ≡ Some phase.Running → MatchOption o ⊥ (λ b. (value_of b).phase ≡ phase.Running)
    by None f = none_some f
    by (Some b) f = some_is (value_of b).phase phase.Running f

-- so a session in which no disk stopped may be begun
pub may_open : {D : Type 0} {d : Ghosts D} (sys : System D d) (node : Node) → sys.session ≡ system.Open node false → IsHeld (stances_of sys) → MayOpen node sys
may_open sys node open_is held = record {
  open_is = open_is;
  runs = runs_at (site_at sys node).node (sym (at-map_each (λ site. phase_in site.node) sys.sites node) ∙ subst (λ (ss : SessionState). IsHeldBy (stances_of sys).phases ss) open_is held);
}

-- a node in its place that stands as that one did
pub stands_with : {D : Type 0} {d : Ghosts D} (sys : System D d) (name : Node) (site : Site D d) → phase_in site.node ≡ phase_of sys name → stances_of (with_site sys name site sys.session) ≡ stances_of sys
stands_with {D} {d} sys name site phase = λ i. record {
  primary = standing_at sys.primary;
  phases = phases i;
  session = sys.session;
}
  where
    phase_at_site : Site D d → Option Phase
    phase_at_site x = phase_in x.node

    phases : map_each phase_at_site (with_at sys.sites name site) ≡ map_each phase_at_site sys.sites
    phases = map_each-with_at phase_at_site sys.sites name site ∙ with_at-still (map_each phase_at_site sys.sites) name (phase_at_site site) (phase ∙ sym (at-map_each phase_at_site sys.sites name))

-- ---- lines of an open session that were broken off

-- a delivery, a purge or a read of the node
abbrev pub HaltsIn : Node → Line → Type 0
HaltsIn name (line.Deliver node k) = node ≡ name
HaltsIn name (line.Purge node) = node ≡ name
HaltsIn name (line.Read node key) = node ≡ name
HaltsIn name _ = ⊥

pub halts_own : (name : Node) (l : Line) → is_of_session l ≡ true → disks_of l ≡ Some name → HaltsIn name l
halts_own name (line.Deliver node k) on of = same_Some node name of
halts_own name (line.Purge node) on of = same_Some node name of
halts_own name _ on of = not_so on

-- is answered that the node stopped, where its backup runs and the session was not refused
pub halted_judged : (s : Stances) (name : Node) → at s.phases name ≡ Some phase.Running → bar_in s.session ≡ None → (l : Line) → HaltsIn name l → (r : Result Reply NodeFault) → IfOk r (λ reply. reply ≡ Stopped name) → IfOk r (λ reply. IsJudgedBy s l reply)
halted_judged s name runs unrefused l own (Err why) h = tt
halted_judged s name runs unrefused l own (Ok reply) h = subst (λ (r : Reply). IsJudgedBy s l r) (sym h) (by l own)
  where
    there : (node : Node) → node ≡ name → at s.phases node ≡ Some phase.Running
    there node e = ap (λ (m : Node). at s.phases m) e ∙ runs

    by : (k : Line) → HaltsIn name k → IsJudgedBy s k (Stopped name)
    by (line.Deliver node k) e = subst (λ (p : Option Phase). IsSaid (running_by p) IsUnbarred (Stopped name)) (sym (there node e)) tt
    by (line.Purge node) e = subst (λ (p : Option Phase). IsSaid (taking_by p) IsUnbarred (Stopped name)) (sym (there node e)) tt
    by (line.Read node key) e = subst (λ (p : Option Phase). IsSaid (first (down_by p ∷ bar_in s.session ∷ [])) IsUnbarred (Stopped name)) (sym (there node e)) (subst (λ (b : Option NoWhy). IsSaid (first (None ∷ b ∷ [])) IsUnbarred (Stopped name)) (sym unrefused) tt)
    by _ e = absurd e

-- the end of a session that was not refused
pub end_judged : (s : Stances) (name : Node) (at : ℕ) (unmet : Type 0) → bar_in s.session ≡ None → (r : Result Reply NodeFault) → IfOk r (λ reply. (unmet × IsNumber at reply) ⊎ (reply ≡ Stopped name)) → IfOk r (λ reply. IsJudgedBy s line.End reply)
end_judged s name at unmet unrefused (Err why) says = tt
end_judged s name at unmet unrefused (Ok reply) says = subst (λ (b : Option NoWhy). IsSaid b IsUnbarred reply) (sym unrefused) (by says)
  where
    by : (unmet × IsNumber at reply) ⊎ (reply ≡ Stopped name) → IsUnbarred reply
    by (inl h) = numbered at reply h.1
    by (inr h) = unbarred reply (Stopped name) h tt

-- what is told by a node
pub told_so : (name : Node) (P : Reply → Type 0) (r : Result Reply NodeFault) → IfOk r P → IfOk (told_by name r) P
told_so name P (Err why) h = tt
told_so name P (Ok reply) h = h
