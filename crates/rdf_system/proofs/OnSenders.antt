-- A line on the sender's side of a backup as what the system does.
use Rattle.std.proofs.Common.{◌≡◌, inl, ℕ, ◌&&◌, if◌then◌else◌, Bool, true, false, not, List, [], ◌∷◌, length, Option, Some, None, Ok, Err, refl, sym, ap, ◌∙◌, subst}
use Rattle.rdf_types.specs.declared.layout.Layout.{Layout}
use Rattle.rdf_types.specs.declared.records.Node.{Node}
use Rattle.rdf_types.specs.declared.records.Node.TheVariants.{A}
use Rattle.rdf_types.specs.declared.records.Record.{Record}
use Rattle.rdf_disk.specs.Files.{Disk}
use Rattle.rdf_disk.specs.Counts.{Counts, Ending}
use Rattle.rdf_disk.specs.Counts.Ending.{Fine}
use Rattle.rdf_disk.specs.declared.disk.Disk.{Ghosts}
use Rattle.plan_lang.specs.declared.lines.Line.{Line}
use Rattle.plan_lang.specs.declared.lines.Line.TheVariants as line
use Rattle.node_faults.specs.declared.NodeFault.TheVariants.{NoMemory}
use Rattle.node_faults.specs.declared.NodeFault.TheVariants as fault
use Rattle.node_disks.specs.Counting.{Tells, is_fuse}
use Rattle.rdf_core.specs.declared.replies.NoWhy.{NoWhy}
use Rattle.rdf_core.specs.declared.replies.Reply.{Reply}
use Rattle.rdf_core.specs.declared.replies.Reply.TheVariants.{No}
use Rattle.plan_lang.specs.Sessions.{fits_session}
use Rattle.rdf_core.specs.Allowed.{has_names}
use Rattle.rdf_core.specs.declared.replies.NoWhy.TheVariants.{Down}
use Rattle.rdf_core.specs.Backup.{needs_up as backup_needs_up}
use Rattle.rdf_core.specs.Effects.{IsDone, when, first, Whole}
use Rattle.rdf_core.specs.Lines.{refusal, after, says}
use Rattle.rdf_core.specs.Primary.{needs_up}
use Rattle.rdf_core.specs.Sender.{Sender, send_reply, after_send, after_ack}
use Rattle.plan_lang.specs.LineText.{same_node}
use Rattle.by_node.specs.Each.{Each, at, with_at}
use Rattle.rdf_core.specs.State.{State}
use Rattle.rdf_core.specs.Step.{StepEnds, Goes, disks_of}
use Rattle.senders.specs.Sending.{Sending, AreSenders}
use Rattle.rdf_system.specs.declared.system.System.{System}
use Rattle.rdf_system.specs.Place.{is_used}
use Rattle.rdf_system.specs.States.{MayServe, IsAtState, DisksStandFor, disk_of}
use Rattle.rdf_system.specs.NodeLines.{is_of_sender}
use Rattle.rdf_system.specs.Kinds.{IsBarred, SaysSender, bar_of, BySender}
use Rattle.rdf_system.specs.Sessions.{node_of, used_by}
use Rattle.rdf_system.specs.AllowedLaws.{allowed_at}
use Rattle.rdf_system.specs.Lines.{fuses_of, Before, Follows, Does, EachUsed, ends_on, is_done}
use Rattle.rdf_system.proofs.Answering.{follows}
use Rattle.rdf_system.proofs.Leaving.{counts_none, keeps_more}
use Rattle.rdf_system.proofs.NearLines.{told}
use Rattle.rdf_system.proofs.Telling.{near_sender, used_near}
use Rattle.rdf_system.proofs.Moving.{stays}
use Rattle.rdf_system.proofs.PlaceLaws.{not_so}
use Rattle.primary_node.specs.Moves.{standing_at}
use Rattle.rdf_system.specs.Stances.{stances_of}
use Rattle.rdf_system.proofs.Judging.{IsAckTold, sender_judged, session_of_sender}
use Rattle.rdf_system.proofs.MovedLaws.{off_sender, primary_stays, stays_of_sender}

-- such a line uses no disk

pub uses_none : (l : Line) → is_of_sender l ≡ true → disks_of l ≡ None
uses_none (line.Send node most) e = refl
uses_none (line.Rewind node) e = refl
uses_none (line.Ack node) e = refl
uses_none _ e = not_so e

goes : (layout : Layout) (s : State) (l : Line) → is_of_sender l ≡ true → Goes layout s l []
goes layout s (line.Send node most) e = tt
goes layout s (line.Rewind node) e = tt
goes layout s (line.Ack node) e = tt
goes layout s _ e = not_so e

no_fuse : (l : Line) → is_of_sender l ≡ true → (node : Node) (i : ℕ) (c : Counts) → c.fuses ≡ fuses_of l node i c
no_fuse (line.Send of most) e node i c = refl
no_fuse (line.Rewind of) e node i c = refl
no_fuse (line.Ack of) e node i c = refl
no_fuse _ e node i c = not_so e

only_none : (l : Line) → is_of_sender l ≡ true → (node : Node) → disks_of l ≡ Some node → node ≡ A
only_none l e node of = none (sym (uses_none l e) ∙ of)
  where
    none : None ≡ Some node → node ≡ A
    none f = cc

refused_step : (layout : Layout) (s : State) (l : Line) (why : NoWhy) → is_of_sender l ≡ true → refusal layout s l ≡ Some why → StepEnds layout s l (No why) s
refused_step layout s (line.Send node most) why e r = ([], tt, Whole (subst (λ (o : Option NoWhy). IsDone o (λ w. s) (after layout [] s (line.Send node most)) (says layout [] s (line.Send node most)) (No why) s) (sym r) (refl, refl)))
refused_step layout s (line.Rewind node) why e r = ([], tt, Whole (subst (λ (o : Option NoWhy). IsDone o (λ w. s) (after layout [] s (line.Rewind node)) (says layout [] s (line.Rewind node)) (No why) s) (sym r) (refl, refl)))
refused_step layout s (line.Ack node) why e r = ([], tt, Whole (subst (λ (o : Option NoWhy). IsDone o (λ w. s) (after layout [] s (line.Ack node)) (says layout [] s (line.Ack node)) (No why) s) (sym r) (refl, refl)))
refused_step layout s _ why e r = not_so e

done_step : (layout : Layout) (s : State) (l : Line) (reply : Reply) → is_of_sender l ≡ true → refusal layout s l ≡ None → says layout [] s l reply → StepEnds layout s l reply (after layout [] s l)
done_step layout s (line.Send node most) reply e r d = ([], tt, Whole (subst (λ (o : Option NoWhy). IsDone o (λ w. s) (after layout [] s (line.Send node most)) (says layout [] s (line.Send node most)) reply (after layout [] s (line.Send node most))) (sym r) (d, refl)))
done_step layout s (line.Rewind node) reply e r d = ([], tt, Whole (subst (λ (o : Option NoWhy). IsDone o (λ w. s) (after layout [] s (line.Rewind node)) (says layout [] s (line.Rewind node)) reply (after layout [] s (line.Rewind node))) (sym r) (d, refl)))
done_step layout s (line.Ack node) reply e r d = ([], tt, Whole (subst (λ (o : Option NoWhy). IsDone o (λ w. s) (after layout [] s (line.Ack node)) (says layout [] s (line.Ack node)) reply (after layout [] s (line.Ack node))) (sym r) (d, refl)))
done_step layout s _ reply e r d = not_so e

-- the state after it
sent_after : (layout : Layout) (s : State) (l : Line) → is_of_sender l ≡ true → (after layout [] s l ≡ record s { senders = (after layout [] s l).senders })
sent_after layout s (line.Send node most) e = refl
sent_after layout s (line.Rewind node) e = refl
sent_after layout s (line.Ack node) e = refl
sent_after layout s _ e = not_so e

-- the refusals of an ack: the primary's, then the backup's

pub ack_off : (layout : Layout) (s : State) (node : Node) (why : NoWhy) → needs_up s.primary ≡ Some why → refusal layout s (line.Ack node) ≡ Some why
ack_off layout s node why e = ap (λ (o : Option NoWhy). first (o ∷ backup_needs_up (at s.backups node) ∷ [])) e

ack_behind : (layout : Layout) (s : State) (node : Node) (up : Bool) → needs_up s.primary ≡ None → (at s.backups node).up ≡ up → refusal layout s (line.Ack node) ≡ first (None ∷ when (not up) Down ∷ [])
ack_behind layout s node up e f = ap (λ (o : Option NoWhy). first (o ∷ backup_needs_up (at s.backups node) ∷ [])) e ∙ ap (λ (b : Bool). first (None ∷ when (not b) Down ∷ [])) f

pub ack_down : (layout : Layout) (s : State) (node : Node) → needs_up s.primary ≡ None → (at s.backups node).up ≡ false → refusal layout s (line.Ack node) ≡ Some Down
ack_down layout s node e f = ack_behind layout s node false e f

pub ack_free : (layout : Layout) (s : State) (node : Node) → needs_up s.primary ≡ None → (at s.backups node).up ≡ true → refusal layout s (line.Ack node) ≡ None
ack_free layout s node e f = ack_behind layout s node true e f

-- what was sent of a trail that is the primary's
module _ (node : Node) (most : ℕ) (machine : Each Sender) (old ss : Sending) (reply : Reply) (laid lay : Layout) (e : laid ≡ lay) (held trail : List Record) (f : held ≡ trail) (h : AreSenders lay trail machine old) where
  sent_before : AreSenders laid held machine old
  sent_before = subst (λ (x : Layout). AreSenders x held machine old) (sym e) (subst (λ (t : List Record). AreSenders lay t machine old) (sym f) h)

  pub sent_said : ((senders : Each Sender) → AreSenders laid held senders old → reply ≡ send_reply (length held) most (at senders node)) → reply ≡ send_reply (length trail) most (at machine node)
  sent_said r = r machine sent_before ∙ ap (λ (t : List Record). send_reply (length t) most (at machine node)) f

  pub sent_now : ((senders : Each Sender) → AreSenders laid held senders old → AreSenders laid held (with_at senders node (after_send (length held) most (at senders node))) ss) →
      AreSenders lay trail (with_at machine node (after_send (length trail) most (at machine node))) ss
  sent_now o = subst (λ (x : Layout). AreSenders x trail (with_at machine node (after_send (length trail) most (at machine node))) ss) e
      (subst (λ (t : List Record). AreSenders laid t (with_at machine node (after_send (length t) most (at machine node))) ss) f (o machine sent_before))

-- what was acknowledged
pub acked_now : (layout : Layout) (trail : List Record) (node : Node) (machine : Each Sender) (ss : Sending) (n m : ℕ) → n ≡ m → AreSenders layout trail (with_at machine node (after_ack n (at machine node))) ss → AreSenders layout trail (with_at machine node (after_ack m (at machine node))) ss
acked_now layout trail node machine ss n m e h = subst (λ k. AreSenders layout trail (with_at machine node (after_ack k (at machine node))) ss) e h

-- a line on the sender's side is barred, or says what it says
pub bars : (o : Option NoWhy) (l : Line) (why : NoWhy) → o ≡ Some why → IsBarred o (λ r. SaysSender l r) (Ok (No why))
bars o l why e = subst (λ (x : Option NoWhy). IsBarred x (λ r. SaysSender l r) (Ok (No why))) (sym e) refl

pub says_so : (o : Option NoWhy) (l : Line) (reply : Reply) → o ≡ None → SaysSender l reply → IsBarred o (λ r. SaysSender l r) (Ok reply)
says_so o l reply e h = subst (λ (x : Option NoWhy). IsBarred x (λ r. SaysSender l r) (Ok reply)) (sym e) h

module _ {D : Type 0} {d : Ghosts D} (tells : Type 0) (files : D → Disk) (counts : D → Counts) (old : System D d) (serves : MayServe tells files counts old)
    (stands : tells → (layout : Layout) (s : State) → IsAtState files layout s old → DisksStandFor files layout s old) (l : Line) (on : is_of_sender l ≡ true) (named : has_names old.layout l ≡ true) (fits : fits_session (node_of old.session) l ≡ true) where
  each_still : (R : Node → ℕ → D → D → Type 0) → ((node : Node) (i : ℕ) (x : D) → R node i x x) → (ss : Sending) → EachUsed R old (record old { senders = ss })
  each_still R f ss node i = stays (λ a b. R node i a b) (is_used old.layout node i) (disk_of old node i) (f node i)

  serves_on : (ss : Sending) → MayServe tells files counts (record old { senders = ss })
  serves_on ss = record {
    whole = record { many = serves.whole.many; sized = serves.whole.sized; sites = serves.whole.sites; shelf = serves.whole.shelf; session = serves.whole.session };
    primary = serves.primary;
    sites = serves.sites;
  }

  disks_stand : (ss : Sending) (layout : Layout) (s : State) (machine : Each Sender) → DisksStandFor files layout s old → DisksStandFor files layout (record s { senders = machine }) (record old { senders = ss })
  disks_stand ss layout s machine h = record { laid = h.laid; primary = h.primary; sites = h.sites }

  at_state : (ss : Sending) (layout : Layout) (s : State) (machine : Each Sender) → IsAtState files layout s old → AreSenders layout s.primary.trail machine ss → IsAtState files layout (record s { senders = machine }) (record old { senders = ss })
  at_state ss layout s machine is sent = record { laid = is.laid; primary = is.primary; senders = sent; sites = is.sites; session = is.session }

  -- the line was answered: its step is one of the machine, after which the senders are these
  pub sender_answers : (reply : Reply) (ss : Sending) → IsBarred (bar_of old.primary) (λ r. SaysSender l r) (Ok reply) → IsAckTold (stances_of old) l reply →
      (tells → (layout : Layout) (s : State) → IsAtState files layout s old → (machine : Each Sender) × AreSenders layout s.primary.trail machine ss × StepEnds layout s l reply (record s { senders = machine })) →
      Does tells files counts l (Ok reply) old (record old { senders = ss })
  sender_answers reply ss kinds acks did = record {
    performs = λ t layout s rise some risen is. answered t layout s rise is;
    keeps = record {
      serves = serves_on ss;
      laid = refl;
      cause = inl (each_still (λ node i x y. Tells Fine (counts x) (counts y)) (λ node i x. (refl, refl)) ss, λ node of e. no_node node (sym (used_near old.session l (near_sender l on)) ∙ of));
      sound = λ t layout s is. tt;
      fuses = inl (each_still (λ node i x y. (counts y).fuses ≡ (counts x).fuses) (λ node i x. refl) ss, no_fuse_done l on reply);
      unused = λ node i e. refl;
      kinds = BySender on kinds;
      judged = sender_judged old.primary (stances_of old).phases old.session l on reply acks kinds;
      moved = record {
        primary = primary_stays l reply (standing_at old.primary) (off_sender l on);
        phases = λ name placed. stays_of_sender l on name reply (at (stances_of old).phases name);
        session = session_of_sender old.layout old.session l serves.whole.session on (bar_of old.primary) reply kinds;
      };
    };
  }
    where
      no_node : (node : Node) → disks_of l ≡ Some node → ⊥
      no_node node of = never (sym (uses_none l on) ∙ of)
        where
          never : None ≡ Some node → ⊥
          never f = cc

      no_fuse_done : (k : Line) → is_of_sender k ≡ true → (r : Reply) → (is_fuse k && is_done (Ok r)) ≡ false
      no_fuse_done (line.Send node most) e r = refl
      no_fuse_done (line.Rewind node) e r = refl
      no_fuse_done (line.Ack node) e r = refl
      no_fuse_done _ e r = not_so e

      answered : tells → (layout : Layout) (s : State) (rise : ℕ) → IsAtState files layout s old → Follows files layout s (used_by old.session l) l rise reply (record old { senders = ss })
      answered t layout s rise is =
          let m = did t layout s is in
          follows files layout s old.session l rise reply (record s { senders = m.0 }) (record old { senders = ss }) A (near_sender l on) (only_none l on)
          (λ node far. refl) (inl (λ e. no_node A (told layout s l reply (record s { senders = m.0 }) (near_sender l on) m.2 A e), refl)) (allowed_at l is named fits, m.2) (at_state ss layout s m.0 is m.1) (disks_stand ss layout s m.0 (stands t layout s is))

  -- it was refused
  pub sender_refused : (why : NoWhy) → IsBarred (bar_of old.primary) (λ r. SaysSender l r) (Ok (No why)) → IsAckTold (stances_of old) l (No why) → (tells → (layout : Layout) (s : State) → IsAtState files layout s old → refusal layout s l ≡ Some why) → Does tells files counts l (Ok (No why)) old old
  sender_refused why kinds acks refuses = sender_answers (No why) old.senders kinds acks (λ t layout s is. (s.senders, is.senders, refused_step layout s l why on (refuses t layout s is)))

  -- it was done
  pub sender_did : (reply : Reply) (ss : Sending) → IsBarred (bar_of old.primary) (λ r. SaysSender l r) (Ok reply) → IsAckTold (stances_of old) l reply →
      (tells → (layout : Layout) (s : State) → IsAtState files layout s old → (refusal layout s l ≡ None) × says layout [] s l reply × AreSenders layout s.primary.trail (after layout [] s l).senders ss) →
      Does tells files counts l (Ok reply) old (record old { senders = ss })
  sender_did reply ss kinds acks did = sender_answers reply ss kinds acks (λ t layout s is. let h = did t layout s is in
      ((after layout [] s l).senders, h.2, subst (λ (x : State). StepEnds layout s l reply x) (sent_after layout s l on) (done_step layout s l reply on h.0 h.1)))

  failed : bar_of old.primary ≡ None → Does tells files counts l (Err (record { node = A; fault = NoMemory })) old old
  failed up = record {
    performs = λ t layout s rise some risen is more may. record { mid = s; drifts = ([], refl); left = s; leaves = Before refl; stands = stands t layout s is; stops = keeps_more more s s (counts_none l A more may refl) (λ node n e. e) };
    keeps = record {
      serves = serves;
      laid = refl;
      cause = ((refl, tt, (λ i. Fine, (inl (λ i. refl), each_still (λ node i x y. Tells (ends_on A (λ j. Fine) node i) (counts x) (counts y)) (λ node i x. ended node i x) old.senders))), λ disk e. never disk e);
      sound = λ t layout s is. refl;
      fuses = inl (each_still (λ node i x y. (counts y).fuses ≡ (counts x).fuses) (λ node i x. refl) old.senders, no_fuse_err l on);
      unused = λ node i e. refl;
      kinds = BySender on (subst (λ (o : Option NoWhy). IsBarred o (λ r. SaysSender l r) (Err (record { node = A; fault = NoMemory }))) (sym up) tt);
      judged = tt;
      moved = tt;
    };
  }
    where
      ended : (node : Node) (i : ℕ) (x : D) → Tells (ends_on A (λ j. Fine) node i) (counts x) (counts x)
      ended node i x = subst (λ (ending : Ending). Tells ending (counts x) (counts x)) (sym (either_fine (same_node A node))) (refl, refl)
        where
          either_fine : (b : Bool) → (if b then Fine else Fine) ≡ Fine
          either_fine true = refl
          either_fine false = refl

      never : (disk : ℕ) → NoMemory ≡ fault.Stopped disk → ⊥
      never disk e = cc

      no_fuse_err : (k : Line) → is_of_sender k ≡ true → (is_fuse k && false) ≡ false
      no_fuse_err (line.Send node most) e = refl
      no_fuse_err (line.Rewind node) e = refl
      no_fuse_err (line.Ack node) e = refl
      no_fuse_err _ e = not_so e

  -- there was no memory for the message
  pub sender_fails : bar_of old.primary ≡ None → (ss : Sending) → ss ≡ old.senders → Does tells files counts l (Err (record { node = A; fault = NoMemory })) old (record old { senders = ss })
  sender_fails up ss e = subst (λ (x : Sending). Does tells files counts l (Err (record { node = A; fault = NoMemory })) old (record old { senders = x })) (sym e) (failed up)
