-- The replies of a backup's node to each kind of line, and what its refusals leave.
use Rattle.std.proofs.Common.{◌≡◌, ◌⊎◌, inl, inr, ℕ, ◌<◌, ◌≤◌, max, Bool, true, false, not, nat_lt, List, [], ◌∷◌, Option, Some, None, is_some, IfSome, Result, Ok, Err, IfOk, refl, sym, ap, ◌∙◌, subst, arith}
use Rattle.std.specs.Prelude.{unwrap_or, map}
use Rattle.rdf_types.specs.declared.records.Node.{Node}
use Rattle.rdf_types.specs.declared.records.Phase.{Phase}
use Rattle.rdf_types.specs.declared.records.Phase.TheVariants as phase
use Rattle.rdf_types.specs.declared.records.RecKey.{RecKey}
use Rattle.rdf_disk.specs.Files.{Disk}
use Rattle.rdf_disk.specs.Counts.{Counts}
use Rattle.rdf_disk.specs.declared.disk.Disk.{Ghosts}
use Rattle.rdf_disk.specs.declared.fault.Tear.{Tear}
use Rattle.plan_lang.specs.declared.lines.Line.{Line}
use Rattle.plan_lang.specs.declared.lines.Line.TheVariants as line
use Rattle.node_faults.specs.declared.NodeFault.{NodeFault}
use Rattle.node_faults.specs.declared.NodeFault.TheVariants as fault
use Rattle.image_disks.specs.Values.{received}
use Rattle.image_trails.specs.declared.trails.ImageTrails.{ImageTrails}
use Rattle.image_trails.specs.Trails.{trails_value}
use Rattle.rdf_volume.specs.Views.{restart_of}
use Rattle.rdf_core.specs.declared.replies.NoWhy.{NoWhy}
use Rattle.rdf_core.specs.declared.replies.NoWhy.TheVariants as no
use Rattle.rdf_core.specs.declared.replies.Reply.{Reply}
use Rattle.rdf_core.specs.declared.replies.Reply.TheVariants.{Done, NodeDown, No, Number, Stopped}
use Rattle.rdf_core.specs.Effects.{when, first}
use Rattle.rdf_core.specs.Backup.{deliver_refusal, list_refusal, copy_refusal, cannot_take, is_taking, needs_running, needs_volumes, needs_taken, kept_of, listed_at}
use Rattle.rdf_core.specs.Layouts.{protects}
use Rattle.rdf_core.specs.Step.{disks_of}
use Rattle.rdf_backup.specs.declared.backup.Backup.{Backup}
use Rattle.rdf_backup.specs.Fetching.{received_more}
use Rattle.rdf_backup.specs.Refusals.{IsRefusal, IsJudged, AnswersUnless, IsNumber, IsCount, AreRowsAt, IsInfo, read_refusal}
use Rattle.rdf_backup.specs.Replies.{not_running}
use Rattle.rdf_backup.specs.Sessions.{Open, IsReadAt}
use Rattle.rdf_backup.specs.States.{layout_of, value_of, state_of, volumes_by}
use Rattle.node_disks.specs.Cuts.{IfBoth}
use Rattle.backup_node.specs.declared.node.BackupNode.{BackupNode}
use Rattle.backup_node.specs.Kinds.{IsCopied, IsDelivered, IsTakenOver, IsJudgedAt, IsKept, IsReplied, IsSaid, MayFetch, MaySay, MayTake, own_refusal, state_among, state_at}
use Rattle.backup_node.specs.Lines.{Settles, begun, stop_told}
use Rattle.backup_node.specs.Open.{in_open}
use Rattle.backup_node.proofs.LineLaws.{is_above, is_within, missed}
use Rattle.backup_node.proofs.NodeLaws.{told_as}
use Rattle.backup_node.proofs.SessionLaws.{unrunning}

-- ---- refusals

some_is : (v w : NoWhy) → (let x : Option NoWhy = Some v in x) ≡ Some w → v ≡ w
some_is v w e = cc

none_is : (w : NoWhy) → (let x : Option NoWhy = None in x) ≡ Some w → ⊥
none_is w e = cc

-- what is judged, but for what a refusal leaves
pub judged_so : {X : Type 0} (a : Option NoWhy) (says : Reply → Type 0) (r : Result Reply NodeFault) (old new : X) → IsJudged a says r old new → AnswersUnless a says r
judged_so None says r old new h = h
judged_so (Some why) says r old new h = h.0

-- what refuses a line behind one refusal may be said of it
said_by : (other : NoWhy) (c : Option NoWhy) (says Says : Reply → Type 0) (r : Result Reply NodeFault) → ((reply : Reply) → says reply → Says reply) → ((why : NoWhy) → c ≡ Some why → Says (No why)) → AnswersUnless c says r → IfOk r (λ reply. (reply ≡ No other) ⊎ Says reply)
said_by other (Some why) says Says r said refused h = subst (λ (x : Result Reply NodeFault). IfOk x (λ reply. (reply ≡ No other) ⊎ Says reply)) (sym h) (inr (refused why refl))
said_by other None says Says (Ok reply) said refused h = inr (said reply h)
said_by other None says Says (Err why) said refused h = tt

said_behind : (other : NoWhy) (a : Option NoWhy) (rest : List (Option NoWhy)) (says Says : Reply → Type 0) (r : Result Reply NodeFault) → ((reply : Reply) → says reply → Says reply) → ((why : NoWhy) → first rest ≡ Some why → Says (No why)) →
    AnswersUnless (first (a ∷ rest)) says r → IfOk r (λ reply. (reply ≡ No other) ⊎ IsSaid a (λ x. Says x) reply)
said_behind other (Some why) rest says Says r said refused h = subst (λ (x : Result Reply NodeFault). IfOk x (λ reply. (reply ≡ No other) ⊎ (reply ≡ No why))) (sym h) (inr refl)
said_behind other None rest says Says r said refused h = said_by other (first rest) says Says r said refused h

-- and so where that one refusal is a refusal of the line's own
unless_behind : (a : Option NoWhy) (rest : List (Option NoWhy)) (says Says : Reply → Type 0) (r : Result Reply NodeFault) → ((reply : Reply) → says reply → Says reply) → ((why : NoWhy) → first rest ≡ Some why → Says (No why)) → AnswersUnless (first (a ∷ rest)) says r → AnswersUnless a Says r
unless_behind (Some why) rest says Says r said refused h = h
unless_behind None rest says Says r said refused h = by (first rest) refused h r refl
  where
    by : (c : Option NoWhy) → ((why : NoWhy) → c ≡ Some why → Says (No why)) → AnswersUnless c says r → (q : Result Reply NodeFault) → q ≡ r → IfOk r (λ reply. Says reply)
    by (Some why) refused h q is = subst (λ (x : Result Reply NodeFault). IfOk x (λ reply. Says reply)) (sym h) (refused why refl)
    by None refused h (Ok reply) is = subst (λ (x : Result Reply NodeFault). IfOk x (λ y. Says y)) is (said reply (subst (λ (x : Result Reply NodeFault). IfOk x (λ y. says y)) (sym is) h))
    by None refused h (Err why) is = subst (λ (x : Result Reply NodeFault). IfOk x (λ y. Says y)) is tt

-- a message that begins behind what was received
gap_taken : (test : Bool) (at : ℕ) (why : NoWhy) → first (when test (no.Gap at) ∷ []) ≡ Some why → MayTake at (No why)
gap_taken true at why e = subst (λ (w : NoWhy). MayTake at (No w)) (some_is (no.Gap at) why e) refl
gap_taken false at why e = absurd (none_is why e)

-- audit that is kept no longer
purged_fetched : (test : Bool) (at : ℕ) (why : NoWhy) → when test (no.Purged at) ≡ Some why → MayFetch at (No why)
purged_fetched true at why e = subst (λ (w : NoWhy). MayFetch at (No w)) (some_is (no.Purged at) why e) refl
purged_fetched false at why e = absurd (none_is why e)

-- another backup that has not taken over
untaken_fetched : (ph : Phase) (points : List ℕ) (at : ℕ) (why : NoWhy) → needs_taken (volumes_by ph points) ≡ Some why → MayFetch at (No why)
untaken_fetched phase.Running points at why e = subst (λ (w : NoWhy). MayFetch at (No w)) (some_is no.Running why e) tt
untaken_fetched phase.Taking points at why e = subst (λ (w : NoWhy). MayFetch at (No w)) (some_is no.Taking why e) tt
untaken_fetched (phase.Taken upto) points at why e = absurd (none_is why e)

-- or the one or the other
either_fetched : (c p : Option NoWhy) (at : ℕ) → ((why : NoWhy) → c ≡ Some why → MayFetch at (No why)) → ((why : NoWhy) → p ≡ Some why → MayFetch at (No why)) → (why : NoWhy) → first (c ∷ p ∷ []) ≡ Some why → MayFetch at (No why)
either_fetched (Some w) p at other gone why e = other why e
either_fetched None (Some w) at other gone why e = gone why e
either_fetched None None at other gone why e = absurd (none_is why e)

within_max : (m n : ℕ) → m ≤ max m n
within_max m n = omega arith

taken_in : (at to : ℕ) (reply : Reply) → IsNumber (max at to) reply → MayTake at reply
taken_in at to reply h = subst (λ (x : Reply). MayTake at x) (sym h) (within_max at to)

fetched : (at n : ℕ) (reply : Reply) → IsNumber n reply → MayFetch at reply
fetched at n reply h = subst (λ (x : Reply). MayFetch at x) (sym h) tt

-- a number is no refusal
pub number_done : (r : Result Reply NodeFault) (n : ℕ) → IfOk r (λ reply. IsNumber n reply) → IsRefusal r → ⊥
number_done (Ok reply) n h (why, e) = never (sym h ∙ e)
  where
    never : Number n ≡ No why → ⊥
    never f = cc
number_done (Err fault) n h e = e

-- nor is it that a line is done
pub done_kept : IsRefusal (let r : Result Reply NodeFault = Ok Done in r) → ⊥
done_kept (why, e) = never e
  where
    never : Done ≡ No why → ⊥
    never f = cc

-- nor is a fault as it is told
pub told_done : (name : Node) (why : NodeFault) (y : Result Reply NodeFault) → y ≡ stop_told name why → IsRefusal y → ⊥
told_done name why y is h = by why (subst (λ (x : Result Reply NodeFault). IsRefusal x) is h)
  where
    no_stop : (word : NoWhy) → Stopped name ≡ No word → ⊥
    no_stop word e = cc

    by : (w : NodeFault) → IsRefusal (stop_told name w) → ⊥
    by (fault.Stopped disk) (word, e) = no_stop word e
    by (fault.Failed disk) g = g
    by fault.NoMemory g = g
    by (fault.Damaged disk file at) g = g

-- ---- what a refusal leaves

module _ {D : Type 0} {d : Ghosts D} where
  pub kept_same : (l : Line) (n : BackupNode D d) → IsKept l n n
  kept_same (line.Purge node) n = record { rest = refl; trails = same n.backup }
    where
      same : (o : Option (Backup D d)) → IfBoth (λ (p q : Backup D d). q.trails ≡ p.trails) o o
      same None = tt
      same (Some p) = refl
  kept_same _ n = refl

  pub kept_so : (l : Line) (old new : BackupNode D d) → new ≡ old → IsKept l old new
  kept_so l old new same = subst (λ (m : BackupNode D d). IsKept l old m) (sym same) (kept_same l old)

  -- a line on a backup that was up: a fault is no refusal
  pub settled_still : (tells : Type 0) (files : D → Disk) (counts : D → Counts) (o n : BackupNode D d) (old new : Backup D d) (r x : Result Reply NodeFault) → Settles tells files counts o.name new r x n → IfOk r (λ reply. n ≡ record o { backup = Some new }) →
      (IsRefusal r → new ≡ old) → IsRefusal x → n ≡ record o { backup = Some old }
  settled_still tells files counts o n old new (Ok reply) x s stays refused h =
      stays ∙ ap (λ (b : Backup D d). let m : BackupNode D d = record o { backup = Some b } in m) (refused (subst (λ (y : Result Reply NodeFault). IsRefusal y) s.0 h))
  settled_still tells files counts o n old new (Err why) x s stays refused h = absurd (told_done o.name why x s.0 h)

-- ---- replies

-- what is said of a message where there is one
pub sent_of : {X : Type 0} (P : X → Type 0) {o : Option X} {x : X} → o ≡ Some x → IfSome o P → P x
sent_of {X = X} P {o = o} {x = x} is h = subst (λ (y : Option X). IfSome y P) is h

-- a fault as it is told says nothing, or that the node stopped
pub told_judged : (name : Node) (l : Line) (says : Reply → Type 0) (why : NodeFault) (y : Result Reply NodeFault) → y ≡ stop_told name why → disks_of l ≡ Some name → IsJudgedAt name l None says y
told_judged name l says why y is of = told_as (λ z. IsJudgedAt name l None says z) name why y is (inr (refl, of)) (λ e. tt)

-- the restart points in memory
abbrev points_in : {D : Type 0} {d : Ghosts D} → Backup D d → List ℕ
points_in p = map (λ volume. restart_of volume) p.volumes.items

told : (v w : NoWhy) → v ≡ w → No v ≡ No w
told v w e = ap (λ (x : NoWhy). let reply : Reply = No x in reply) e

module _ {D : Type 0} {d : Ghosts D} (n : BackupNode D d) where
  -- a node refuses for how it stands
  pub refused_replied : (l : Line) (why : NoWhy) → own_refusal n l ≡ Some why → IsReplied l (Ok (No why)) n n
  refused_replied l why e = subst (λ (a : Option NoWhy). IsJudgedAt n.name l a (λ reply. MaySay n n l reply) (Ok (No why))) (sym e) refl

  -- one that is down
  pub down_replied : (l : Line) → None ≡ n.backup → own_refusal (record n { backup = None }) l ≡ Some no.Down → IsReplied l (Ok (No no.Down)) n n
  down_replied l off e = refused_replied l no.Down (subst (λ (o : Option (Backup D d)). own_refusal (record n { backup = o }) l ≡ Some no.Down) off e)

  -- one is given a fuse, whether it is up or down
  pub beyond_replied : (disk calls : ℕ) (tear : Tear) → n.volumes < disk → IsReplied (line.Fuse n.name disk calls tear) (Ok (No no.Volume)) n n
  beyond_replied disk calls tear far = refused_replied (line.Fuse n.name disk calls tear) no.Volume (ap (λ x. when x no.Volume) (is_above n.volumes disk far))

  pub fuse_replied : (m : BackupNode D d) (disk calls : ℕ) (tear : Tear) → disk ≤ n.volumes → IsReplied (line.Fuse n.name disk calls tear) (Ok Done) n m
  fuse_replied m disk calls tear there = subst (λ (x : Bool). IsJudgedAt n.name (line.Fuse n.name disk calls tear) (when x no.Volume) (λ reply. reply ≡ Done) (Ok Done)) (sym (is_within disk n.volumes there)) (inl refl)

  abbrev Said : (k : ℕ) → Backup D d → Option NoWhy → NoWhy → Type 0
  Said k p a why = IsJudgedAt n.name (line.Deliver n.name k) a (λ reply. (reply ≡ No no.Message) ⊎ MayTake (received (value_of p)) reply) (Ok (No why))

  abbrev Begun : Backup D d → Option NoWhy → Reply → Type 0
  Begun p a answer = IsJudgedAt n.name (line.Session n.name) a (λ reply. IsNumber (received (value_of p)) reply) (Ok answer)

  -- a backup that is up, and a message that is not there
  pub miss_replied : (p : Backup D d) (k : ℕ) (ph : Phase) → ph ≡ (value_of p).phase → (why : NoWhy) → why ≡ unwrap_or (not_running ph) no.Message → IsReplied (line.Deliver n.name k) (Ok (No why)) (record n { backup = Some p }) (record n { backup = Some p })
  miss_replied p k ph is why says = subst (λ (a : Option NoWhy). Said k p a why) (sym (unrunning (value_of p).phase (points_in p))) (subst (λ (x : Phase). Said k p (not_running x) why) is (by ph why says))
    where
      by : (x : Phase) (w : NoWhy) → w ≡ unwrap_or (not_running x) no.Message → Said k p (not_running x) w
      by phase.Running w e = inl (inl (told w no.Message e))
      by phase.Taking w e = ap (λ (v : NoWhy). let y : Result Reply NodeFault = Ok (No v) in y) e
      by (phase.Taken upto) w e = ap (λ (v : NoWhy). let y : Result Reply NodeFault = Ok (No v) in y) e

  -- a session is asked of one that is up
  pub begun_replied : (p : Backup D d) → n.backup ≡ Some p → (ph : Phase) (r : ℕ) → ph ≡ (value_of p).phase → r ≡ received (value_of p) → (reply : Reply) → reply ≡ begun ph r → IsReplied (line.Session n.name) (Ok reply) n n
  begun_replied p here ph r is got reply says =
      subst (λ (o : Option (Backup D d)). IsReplied (line.Session n.name) (Ok reply) (record n { backup = o }) (record n { backup = o })) (sym here)
      (subst (λ (x : Reply). IsReplied (line.Session n.name) (Ok x) (record n { backup = Some p }) (record n { backup = Some p })) (sym says)
      (subst (λ (a : Option NoWhy). Begun p a (begun ph r)) (sym (unrunning (value_of p).phase (points_in p))) (subst (λ (x : Phase). Begun p (not_running x) (begun ph r)) is (by ph))))
    where
      by : (x : Phase) → IsJudgedAt n.name (line.Session n.name) (not_running x) (λ reply. IsNumber (received (value_of p)) reply) (Ok (begun x r))
      by phase.Running = inl (ap (λ (m : ℕ). let answer : Reply = Number m in answer) got)
      by phase.Taking = refl
      by (phase.Taken upto) = refl

  -- one that is up is cut
  pub cut_replied : (p : Backup D d) → Some p ≡ n.backup → (m : BackupNode D d) → IsReplied (line.Cut n.name) (Ok Done) n m
  cut_replied p was m = subst (λ (o : Option (Backup D d)). IsReplied (line.Cut n.name) (Ok Done) (record n { backup = o }) m) was (inl refl)

  -- the status of one that is down
  pub status_replied : None ≡ n.backup → IsReplied (line.Status n.name) (Ok NodeDown) n n
  status_replied off = subst (λ (o : Option (Backup D d)). IsReplied (line.Status n.name) (Ok NodeDown) (record n { backup = o }) (record n { backup = o })) off (inl (0, refl))

  -- what one that is up has in memory of its volumes, or that memory is lacking
  pub info_replied : (E : Type 0) (p : Backup D d) (reply : Reply) → AnswersUnless {E = E} (needs_volumes (state_of 0 p)) (λ r. IsInfo p r) (Ok reply) → IsReplied (line.Info n.name) (Ok reply) (record n { backup = Some p }) (record n { backup = Some p })
  info_replied E p reply h = by (needs_volumes (state_of 0 p)) h
    where
      ok_is : (r q : Reply) → (let x : Result Reply E = Ok r in x) ≡ Ok q → r ≡ q
      ok_is r q e = cc

      by : (a : Option NoWhy) → AnswersUnless {E = E} a (λ r. IsInfo p r) (Ok reply) → IsJudgedAt n.name (line.Info n.name) a (λ r. IsInfo p r) (Ok reply)
      by None said = inl said
      by (Some why) e = ap (λ (r : Reply). let x : Result Reply NodeFault = Ok r in x) (ok_is reply (No why) e)

  pub uninformed : {E : Type 0} (p : Backup D d) (why : E) (m : BackupNode D d) → AnswersUnless (needs_volumes (state_of 0 p)) (λ r. IsInfo p r) (Err why) → IsReplied (line.Info n.name) (Err fault.NoMemory) (record n { backup = Some p }) m
  uninformed {E = E} p why m h = by (needs_volumes (state_of 0 p)) h
    where
      never : (w : NoWhy) → (let x : Result Reply E = Err why in x) ≡ Ok (No w) → ⊥
      never w e = cc

      by : (a : Option NoWhy) → AnswersUnless a (λ r. IsInfo p r) (Err why) → IsJudgedAt n.name (line.Info n.name) a (λ r. IsInfo p r) (Err fault.NoMemory)
      by None said = tt
      by (Some w) e = absurd (never w e)

  -- a restart of one that is up
  pub up_replied : is_some n.backup ≡ true → IsReplied (line.Restart n.name) (Ok (No no.Up)) n n
  up_replied up = refused_replied (line.Restart n.name) no.Up (ap (λ x. when x no.Up) (by n.backup up))
    where
      by : (o : Option (Backup D d)) → is_some o ≡ true → (state_among o).up ≡ true
      by None e = cc
      by (Some p) e = refl

  -- and of one that is down
  pub reopened_replied : (q : Result Reply NodeFault) (m : BackupNode D d) → n.backup ≡ None → IsJudgedAt n.name (line.Restart n.name) None (λ reply. IsNumber (state_at m).received reply) q → IsReplied (line.Restart n.name) q n m
  reopened_replied q m none h = subst (λ (o : Option (Backup D d)). IsReplied (line.Restart n.name) q (record n { backup = o }) m) (sym none) h

-- a message that is there, of that range
delivered : {D : Type 0} {d : Ghosts D} (p : Backup D d) (from to : ℕ) (r : Result Reply NodeFault) → AnswersUnless (deliver_refusal (state_of 0 p) (Some (from, to))) (λ reply. IsNumber (max (received (value_of p)) to) reply) r →
    AnswersUnless (needs_running (state_of 0 p)) (λ reply. (reply ≡ No no.Message) ⊎ MayTake (received (value_of p)) reply) r
delivered p from to r h = unless_behind (needs_running (state_of 0 p)) (cannot_take (received (value_of p)) (Some (from, to)) ∷ []) (λ reply. IsNumber (max (received (value_of p)) to) reply) (λ reply. (reply ≡ No no.Message) ⊎ MayTake (received (value_of p)) reply) r
    (λ reply e. inr (taken_in (received (value_of p)) to reply e)) (λ why e. inr (gap_taken (nat_lt (received (value_of p)) from) (received (value_of p)) why e)) h

-- what a line on a backup that was up came to, as its node tells it
module _ {D : Type 0} {d : Ghosts D} (tells : Type 0) (files : D → Disk) (counts : D → Counts) (o n : BackupNode D d) (old new : Backup D d) (r x : Result Reply NodeFault) (settles : Settles tells files counts o.name new r x n) where
  abbrev was : BackupNode D d
  was = record o { backup = Some old }

  settled_by : (q : Result Reply NodeFault) → Settles tells files counts o.name new q x n → (l : Line) (a : Option NoWhy) (says : Reply → Type 0) → disks_of l ≡ Some o.name → AnswersUnless a says q → IsJudgedAt o.name l a says x
  settled_by (Ok reply) s l None says of h = subst (λ (y : Result Reply NodeFault). IsJudgedAt o.name l None says y) (sym s.0) (inl h)
  settled_by (Ok reply) s l (Some why) says of h = s.0 ∙ h
  settled_by (Err fault) s l None says of h = told_judged o.name l says fault x s.0 of
  settled_by (Err fault) s l (Some why) says of h = absurd (never h)
    where
      never : (let y : Result Reply NodeFault = Err fault in y) ≡ Ok (No why) → ⊥
      never e = cc

  pub settled_judged : (l : Line) (a : Option NoWhy) (says : Reply → Type 0) → disks_of l ≡ Some o.name → AnswersUnless a says r → IsJudgedAt o.name l a says x
  settled_judged l a says of h = settled_by r settles l a says of h

  pub purge_replied : IsJudged (needs_volumes (state_of 0 old)) IsCount r old new → IsReplied (line.Purge o.name) x was n
  purge_replied h = settled_judged (line.Purge o.name) (needs_volumes (state_of 0 old)) (λ reply. IsCount reply) refl (judged_so (needs_volumes (state_of 0 old)) (λ reply. IsCount reply) r old new h)

  pub list_replied : (vol : ℕ) → (layout_of old).volumes ≡ o.volumes → IsJudged (list_refusal (layout_of old) (state_of 0 old) vol) (AreRowsAt (listed_at (state_of 0 old).volumes vol)) r old new → IsReplied (line.List o.name vol) x was n
  list_replied vol sized h = subst (λ (v : ℕ). IsJudgedAt o.name (line.List o.name vol) (first (needs_volumes (state_of 0 old) ∷ when (not (nat_lt vol v)) no.Volume ∷ [])) (λ reply. AreRowsAt (listed_at (state_of 0 old).volumes vol) reply) x) sized
      (settled_judged (line.List o.name vol) (list_refusal (layout_of old) (state_of 0 old) vol) (λ reply. AreRowsAt (listed_at (state_of 0 old).volumes vol) reply) refl
      (judged_so (list_refusal (layout_of old) (state_of 0 old) vol) (λ reply. AreRowsAt (listed_at (state_of 0 old).volumes vol) reply) r old new h))

  pub deliver_replied : (k from to : ℕ) → IsJudged (deliver_refusal (state_of 0 old) (Some (from, to))) (IsNumber (max (received (value_of old)) to)) r old new → IsReplied (line.Deliver o.name k) x was n
  deliver_replied k from to h = settled_judged (line.Deliver o.name k) (needs_running (state_of 0 old)) (λ reply. MaySay was n (line.Deliver o.name k) reply) refl
      (delivered old from to r (judged_so (deliver_refusal (state_of 0 old) (Some (from, to))) (λ reply. IsNumber (max (received (value_of old)) to) reply) r old new h))

  pub copy_replied : (from : Node) (lead : Backup D d) → IsJudged (copy_refusal (state_of 0 old) (state_of 0 lead)) (IsNumber (received_more lead old)) r old new → IsReplied (line.CopyAudit o.name from) x was n
  copy_replied from lead h = settled_judged (line.CopyAudit o.name from) None (λ reply. MaySay was n (line.CopyAudit o.name from) reply) refl
      (said_behind no.Down (needs_taken (state_of 0 old).volumes) (needs_taken (state_of 0 lead).volumes ∷ when (nat_lt (received (value_of old)) (kept_of (state_of 0 lead))) (no.Purged (received (value_of old))) ∷ [])
      (λ reply. IsNumber (received_more lead old) reply) (λ reply. MayFetch (received (value_of old)) reply) r (λ reply e. fetched (received (value_of old)) (received_more lead old) reply e)
      (either_fetched (needs_taken (state_of 0 lead).volumes) (when (nat_lt (received (value_of old)) (kept_of (state_of 0 lead))) (no.Purged (received (value_of old)))) (received (value_of old))
      (λ why e. untaken_fetched (value_of lead).phase (points_in lead) (received (value_of old)) why e)
      (λ why e. purged_fetched (nat_lt (received (value_of old)) (kept_of (state_of 0 lead))) (received (value_of old)) why e))
      (judged_so (copy_refusal (state_of 0 old) (state_of 0 lead)) (λ reply. IsNumber (received_more lead old) reply) r old new h))

  pub takeover_replied : IfOk r (IsNumber (received (value_of old))) → IsReplied (line.Takeover o.name) x was n
  takeover_replied h = settled_judged (line.Takeover o.name) None (λ reply. MaySay was n (line.Takeover o.name) reply) refl (by r h)
    where
      by : (q : Result Reply NodeFault) → IfOk q (IsNumber (received (value_of old))) → IfOk q (λ reply. MaySay was n (line.Takeover o.name) reply)
      by (Ok reply) e = inr e
      by (Err why) e = tt

-- ---- by what is around the node

module _ {D : Type 0} {d : Ghosts D} (n : BackupNode D d) where
  -- a node that is down
  pub down_judged : None ≡ n.backup → (k : ℕ) (range : Option (ℕ × ℕ)) → IsDelivered k range (Ok (No no.Down)) n
  down_judged off k range = subst (λ (o : Option (Backup D d)). IsDelivered k range (Ok (No no.Down)) (record n { backup = o })) off refl

  pub down_taken : None ≡ n.backup → (lost : Bool) → IsTakenOver lost (Ok (No no.Down)) n
  down_taken off lost = subst (λ (o : Option (Backup D d)). IsTakenOver lost (Ok (No no.Down)) (record n { backup = o })) off refl

  pub down_copied : None ≡ n.backup → (from : Node) (lead : BackupNode D d) → IsCopied from lead (Ok (No no.Down)) n
  down_copied off from lead = subst (λ (o : Option (Backup D d)). IsCopied from lead (Ok (No no.Down)) (record n { backup = o })) off refl

  module _ (p : Backup D d) (was : Some p ≡ n.backup) where
    -- one that is up, where the message is not there
    pub miss_judged : (k : ℕ) (range : Option (ℕ × ℕ)) → range ≡ None → (ph : Phase) → ph ≡ (value_of p).phase → (why : NoWhy) → why ≡ unwrap_or (not_running ph) no.Message → IsDelivered k range (Ok (No why)) n
    miss_judged k range none ph is why says = subst (λ (o : Option (Backup D d)). IsDelivered k range (Ok (No why)) (record n { backup = o })) was
        (subst (λ (m : Option (ℕ × ℕ)). IsDelivered k m (Ok (No why)) (record n { backup = Some p })) (sym none)
        (subst (λ (a : Option NoWhy). IsJudgedAt n.name (line.Deliver n.name k) a (λ reply. IsNumber (received (value_of p)) reply) (Ok (No why))) (sym (missed (value_of p).phase (points_in p) (received (value_of p))))
        (ap (λ (w : NoWhy). let y : Result Reply NodeFault = Ok (No w) in y) (says ∙ ap (λ (x : Phase). unwrap_or (not_running x) no.Message) is))))

    -- the primary is not lost
    pub kept_taken : (lost : Bool) → lost ≡ false → IsTakenOver lost (Ok (No no.PrimaryUp)) n
    kept_taken lost e = subst (λ (o : Option (Backup D d)). IsTakenOver lost (Ok (No no.PrimaryUp)) (record n { backup = o })) was (subst (λ (b : Bool). IsTakenOver b (Ok (No no.PrimaryUp)) (record n { backup = Some p })) (sym e) refl)

    -- the other node is down
    pub lead_copied : (from : Node) (lead : BackupNode D d) → lead.backup ≡ None → IsCopied from lead (Ok (No no.Down)) n
    lead_copied from lead off = subst (λ (o : Option (Backup D d)). IsCopied from lead (Ok (No no.Down)) (record n { backup = o })) was
        (subst (λ (o : Option (Backup D d)). IsCopied from (record lead { backup = o }) (Ok (No no.Down)) (record n { backup = Some p })) (sym off) refl)

-- what it came to on a backup that was up
module _ {D : Type 0} {d : Ghosts D} (tells : Type 0) (files : D → Disk) (counts : D → Counts) (o n : BackupNode D d) (old new : Backup D d) (was : Some old ≡ o.backup) (r x : Result Reply NodeFault) (settles : Settles tells files counts o.name new r x n) where
  pub deliver_judged : (k from to : ℕ) (range : Option (ℕ × ℕ)) → range ≡ Some (from, to) → IsJudged (deliver_refusal (state_of 0 old) (Some (from, to))) (IsNumber (max (received (value_of old)) to)) r old new → IsDelivered k range x o
  deliver_judged k from to range is h = subst (λ (b : Option (Backup D d)). IsDelivered k range x (record o { backup = b })) was
      (subst (λ (m : Option (ℕ × ℕ)). IsDelivered k m x (record o { backup = Some old })) (sym is)
      (settled_judged tells files counts o n old new r x settles (line.Deliver o.name k) (deliver_refusal (state_of 0 old) (Some (from, to))) (λ reply. IsNumber (max (received (value_of old)) to) reply) refl
      (judged_so (deliver_refusal (state_of 0 old) (Some (from, to))) (λ reply. IsNumber (max (received (value_of old)) to) reply) r old new h)))

  pub takeover_judged : (lost : Bool) → lost ≡ true → IfOk r (IsNumber (received (value_of old))) → IsTakenOver lost x o
  takeover_judged lost e h = subst (λ (b : Option (Backup D d)). IsTakenOver lost x (record o { backup = b })) was
      (subst (λ (b : Bool). IsTakenOver b x (record o { backup = Some old })) (sym e)
      (settled_judged tells files counts o n old new r x settles (line.Takeover o.name) None (λ reply. IsNumber (received (value_of old)) reply) refl h))

  pub copy_judged : (from : Node) (lead : BackupNode D d) (other : Backup D d) → lead.backup ≡ Some other → IsJudged (copy_refusal (state_of 0 old) (state_of 0 other)) (IsNumber (received_more other old)) r old new → IsCopied from lead x o
  copy_judged from lead other here h = subst (λ (b : Option (Backup D d)). IsCopied from lead x (record o { backup = b })) was
      (subst (λ (b : Option (Backup D d)). IsCopied from (record lead { backup = b }) x (record o { backup = Some old })) (sym here)
      (settled_judged tells files counts o n old new r x settles (line.CopyAudit o.name from) (copy_refusal (state_of 0 old) (state_of 0 other)) (λ reply. IsNumber (received_more other old) reply) refl
      (judged_so (copy_refusal (state_of 0 old) (state_of 0 other)) (λ reply. IsNumber (received_more other old) reply) r old new h)))

-- ---- lines of an open session

module _ {D : Type 0} {d : Ghosts D} (n : BackupNode D d) (old new : Open D d) (reply : Reply) where
  abbrev answer : Result Reply NodeFault
  answer = Ok reply

  answered : (l : Line) (a : Option NoWhy) (says : Reply → Type 0) → AnswersUnless a says answer → IsJudgedAt n.name l a says answer
  answered l None says h = inl h
  answered l (Some why) says h = h

  pub open_still : (IsRefusal answer → new ≡ old) → IsRefusal answer → in_open new n ≡ in_open old n
  open_still refused h = ap (λ (o : Open D d). in_open o n) (refused h)

  pub open_delivered : (k from to : ℕ) → IsJudged (deliver_refusal (state_of 0 old.shown) (Some (from, to))) (IsNumber (max (received (value_of old.shown)) to)) answer old new → IsReplied (line.Deliver n.name k) answer (in_open old n) (in_open new n)
  open_delivered k from to h = answered (line.Deliver n.name k) (needs_running (state_of 0 old.shown)) (λ x. (x ≡ No no.Message) ⊎ MayTake (received (value_of old.shown)) x) (delivered old.shown from to answer (judged_so (deliver_refusal (state_of 0 old.shown) (Some (from, to))) (λ x. IsNumber (max (received (value_of old.shown)) to) x) answer old new h))

  pub open_read : (key : RecKey) → (layout_of old.shown).volumes ≡ n.volumes → IsJudged (read_refusal (layout_of old.shown) (state_of 0 old.shown) key.vol) (IsReadAt (protects (layout_of old.shown) key.vol) key.vol new) answer old new →
      IsReplied (line.Read n.name key) answer (in_open old n) (in_open new n)
  open_read key sized h = subst (λ (v : ℕ). IsJudgedAt n.name (line.Read n.name key) (first (needs_running (state_of 0 old.shown) ∷ when (not (nat_lt key.vol v)) no.Volume ∷ [])) (λ x. IsReadAt (protects (layout_of old.shown) key.vol) key.vol new x) answer) sized
      (answered (line.Read n.name key) (read_refusal (layout_of old.shown) (state_of 0 old.shown) key.vol) (λ x. IsReadAt (protects (layout_of old.shown) key.vol) key.vol new x)
      (judged_so (read_refusal (layout_of old.shown) (state_of 0 old.shown) key.vol) (λ x. IsReadAt (protects (layout_of old.shown) key.vol) key.vol new x) answer old new h))

  -- a purge, behind what its volumes rose
  module _ (mid : Open D d) (trails : mid.shown.trails ≡ old.shown.trails) where
    abbrev taking : Phase → List ℕ → Option NoWhy
    taking ph points = first (None ∷ when (is_taking (volumes_by ph points)) no.Taking ∷ [])

    no_matter : (ph : Phase) (points more : List ℕ) → taking ph points ≡ taking ph more
    no_matter phase.Running points more = refl
    no_matter phase.Taking points more = refl
    no_matter (phase.Taken upto) points more = refl

    same_judged : needs_volumes (state_of 0 mid.shown) ≡ needs_volumes (state_of 0 old.shown)
    same_judged = no_matter (value_of mid.shown).phase (points_in mid.shown) (points_in old.shown) ∙ ap (λ (t : ImageTrails D). taking (trails_value t).phase (points_in old.shown)) trails

    pub open_purged : IsJudged (needs_volumes (state_of 0 mid.shown)) IsCount answer mid new → IsReplied (line.Purge n.name) answer (in_open old n) (in_open new n)
    open_purged h = answered (line.Purge n.name) (needs_volumes (state_of 0 old.shown)) (λ x. IsCount x)
        (subst (λ (a : Option NoWhy). AnswersUnless a (λ x. IsCount x) answer) same_judged (judged_so (needs_volumes (state_of 0 mid.shown)) (λ x. IsCount x) answer mid new h))

    pub open_kept : (IsRefusal answer → new ≡ mid) → IsRefusal answer → IsKept (line.Purge n.name) (in_open old n) (in_open new n)
    open_kept refused h = record { rest = refl; trails = ap (λ (o : Open D d). o.shown.trails) (refused h) ∙ trails }

-- a delivery that was answered
pub open_kinds : {D : Type 0} {d : Ghosts D} (n : BackupNode D d) (old new : Open D d) (result : Result Reply NodeFault) (k from to : ℕ) → IsJudged (deliver_refusal (state_of 0 old.shown) (Some (from, to))) (IsNumber (max (received (value_of old.shown)) to)) result old new →
    IfOk result (λ reply. IsReplied (line.Deliver n.name k) (Ok reply) (in_open old n) (in_open new n))
open_kinds n old new (Ok reply) k from to h = open_delivered n old new reply k from to h
open_kinds n old new (Err why) k from to h = tt
