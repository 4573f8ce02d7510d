-- A session on a node begins, and ends.
use Rattle.std.proofs.Common.{◌≡◌, ◌≢◌, ◌⊎◌, inl, inr, ℕ, zero, suc, ◌+◌, ◌<◌, ◌≤◌, true, false, List, [], ◌∷◌, length, map, Option, Some, None, IfSome, Result, Ok, Err, IfOk, OnOk, IsTrue, refl, sym, ap, ap₂, ◌∙◌, subst}
use Rattle.std.specs.Prelude.{slice_get}
use Rattle.rdf_types.specs.declared.layout.Layout.{Layout}
use Rattle.rdf_types.specs.declared.records.Node.{Node}
use Rattle.rdf_types.specs.declared.records.Phase.{Phase}
use Rattle.rdf_types.specs.declared.records.Record.{Record}
use Rattle.rdf_disk.specs.Files.{Disk, Contents}
use Rattle.rdf_disk.specs.Counts.{Counts, Ending, Causes}
use Rattle.rdf_disk.specs.declared.disk.Disk.{Ghosts}
use Rattle.plan_lang.specs.declared.lines.Line.{Line}
use Rattle.plan_lang.specs.declared.lines.Line.TheVariants as line
use Rattle.node_faults.specs.declared.NodeFault.{NodeFault}
use Rattle.node_faults.specs.declared.NodeFault.TheVariants as fault
use Rattle.node_faults.specs.Faults.{ending_for, IsNamed, NamesOwn}
use Rattle.image_disks.specs.Values.{received}
use Rattle.image_trails.specs.declared.trails.ImageTrails.{ImageTrails}
use Rattle.image_trails.specs.Trails.{trails_disk, trails_layout, trails_value, AreInUse}
use Rattle.rdf_volume.specs.declared.volume.Volume.{Volume}
use Rattle.rdf_volume.specs.Views.{restart_of, disk_of, InUse}
use Rattle.rdf_core.specs.declared.replies.Reply.{Reply}
use Rattle.rdf_core.specs.declared.replies.Reply.TheVariants.{Number, Stopped}
use Rattle.rdf_core.specs.Effects.{after_parts, reaches_disks, count_u64, Cut}
use Rattle.rdf_core.specs.Backup.{Backup as State, Around, is_running, points_in, backup_refusal, backup_fallen}
use Rattle.rdf_core.specs.Layouts.{protects}
use Rattle.rdf_core.specs.Step.{disks_of as used_by, is_of_session}
use Rattle.rdf_backup.specs.declared.backup.Backup.{Backup}
use Rattle.rdf_backup.specs.declared.session.Met.{Met}
use Rattle.rdf_backup.specs.declared.session.Met.TheVariants as met
use Rattle.rdf_backup.specs.Answers.{IsPlain}
use Rattle.rdf_backup.specs.Beside.{CausedBeside}
use Rattle.rdf_backup.specs.Disks.{disks_of}
use Rattle.rdf_backup.specs.Restarting.{AreAtZero}
use Rattle.rdf_backup.specs.Standing.{ContentsStandFor}
use Rattle.rdf_backup.specs.Replies as replies
use Rattle.rdf_backup.specs.Replies.{parts_of}
use Rattle.rdf_backup.specs.SessionLaws as laws
use Rattle.rdf_backup.specs.SessionLaws.{around_now, GoesBy, SomeBroken, AreBrokenAt}
use Rattle.rdf_backup.specs.Sessions.{Open, IsGoing, HasCome, HasRun, IsUnbegun, SessionEnds, Begins, LeavesTrails, OnlyProtected, CausedInSession, trails_answer}
use Rattle.rdf_backup.specs.States.{layout_of, value_of, state_by, state_of, volumes_by, disks_in, MayUse, AreOver}
use Rattle.rdf_backup.specs.StandingLaws.{disks_many}
use Rattle.node_disks.specs.Counting.{Tells}
use Rattle.node_disks.specs.Cuts.{Each, AreCut}
use Rattle.node_disks.specs.CutLaws.{held, held_before}
use Rattle.node_disks.specs.CountLaws.{still_on}
use Rattle.backup_node.specs.declared.node.BackupNode.{BackupNode}
use Rattle.backup_node.specs.Nodes.{IsAt, IsUpAt, AreOn, MayRun, MayServe, disks_at, disks_among}
use Rattle.backup_node.specs.Lines.{Settles, IsFused, IsCaused, Follows, Breaks, Ends, stop_told}
use Rattle.backup_node.specs.Closing.{FailsInSession, KeepsInSession, IsCausedInSession, BeginsAt, IsAsBefore, EndsRisen, EndsAt, EndsUnmet, EndsBrokenOff, EndsAtRead, HasRunAt}
use Rattle.backup_node.proofs.LineLaws.{deliver_stays, purge_stays, StaysIn}
use Rattle.backup_node.proofs.LaidLaws.{laid_up, laid_of, settled_laid}
use Rattle.backup_node.proofs.StandLaws.{each_of, left_stands}
use Rattle.backup_node.proofs.NodeLaws.{at_up, at_off, up_at, up_zero, told_as}
use Rattle.backup_node.proofs.EndLaws.{first_cause, ends_tell}
use Rattle.backup_node.proofs.OpenLaws.{come_so}
use Rattle.backup_node.proofs.SettleLaws.{was_up, each_off, each_up, each_was, serves_up, settled_stays, settled_sound}
use Rattle.backup_node.proofs.RestartLaws.{number_no}
use Rattle.backup_node.proofs.RisingLaws.{risen_zero, read_told, caught_told, fell_told}
use Rattle.backup_node.specs.Moves.{phase_among, Stays}
use Rattle.backup_node.proofs.MovedLaws.{kept_moved, settled_moved}

none_some : (m : Met) → (let x : Option Met = None in x) ≡ Some m → ⊥
none_some m e = cc

-- each element of two lists of which something is said, mapped
mapped_by : {X Y : Type 0} (f : X → Y) (R : Y → Y → Type 0) (xs ys : List X) → ((i : ℕ) → replies.IfBoth (λ x y. R (f x) (f y)) (slice_get xs i) (slice_get ys i)) → (i : ℕ) → replies.IfBoth R (slice_get (map f xs) i) (slice_get (map f ys) i)
mapped_by f R [] [] h i = tt
mapped_by f R [] (y ∷ ys) h i = absurd (h 0)
mapped_by f R (x ∷ xs) [] h i = absurd (h 0)
mapped_by f R (x ∷ xs) (y ∷ ys) h zero = h 0
mapped_by f R (x ∷ xs) (y ∷ ys) h (suc i) = mapped_by f R xs ys (λ k. h (suc k)) i

-- ---- the beginning

-- a backup with the same image trails, volumes and open transactions
module _ {D : Type 0} {d : Ghosts D} (files : D → Disk) (old new : Backup D d) (trails : new.trails ≡ old.trails) (items : new.volumes.items ≡ old.volumes.items) where
  laid_alike : layout_of new ≡ layout_of old
  laid_alike = ap (λ (t : ImageTrails D). trails_layout t) trails

  state_alike : (stops : ℕ) → state_of stops new ≡ state_of stops old
  state_alike stops = ap₂ (λ (t : ImageTrails D) (l : List (Volume D)). state_by stops (trails_value t) l) trails items

  disks_alike : disks_in new ≡ disks_in old
  disks_alike = ap₂ (λ (t : ImageTrails D) (l : List (Volume D)). disks_of t l) trails items

  usable_alike : MayUse files old → MayUse files new
  usable_alike h = record {
    trails = subst (λ (t : ImageTrails D). AreInUse files t) (sym trails) h.trails;
    volume = subst (λ (l : List (Volume D)). (v : ℕ) → IfSome (slice_get l v) (λ volume. InUse files volume)) (sym items) h.volume;
  }

  up_alike : (txns : new.txns ≡ old.txns) (layout : Layout) (trail : List Record) (b : State) → IsUpAt files layout trail b old → IsUpAt files layout trail b new
  up_alike txns layout trail b u = record {
    laid = laid_alike ∙ u.laid;
    state = u.state ∙ sym (state_alike b.stops);
    serves = record {
      usable = usable_alike u.serves.usable;
      over = subst (λ (t : ImageTrails D). AreOver (trails_layout t) trail (trails_value t) new.volumes.items new.txns) (sym trails)
          (subst (λ (l : List (Volume D)). AreOver (layout_of old) trail (value_of old) l new.txns) (sym items)
          (subst (λ (o : List (ℕ × ℕ)). AreOver (layout_of old) trail (value_of old) old.volumes.items o) (sym txns) u.serves.over));
    };
  }

  -- a session that came from the one came from the other
  come_alike : (counts : D → Counts) (o : Open D d) → HasCome counts old o → HasCome counts new o
  come_alike counts o h = record {
    laid = h.laid ∙ sym laid_alike;
    phase = h.phase ∙ ap (λ (t : ImageTrails D). (trails_value t).phase) (sym trails);
    volumes = subst (λ (l : List (Volume D)). (v : ℕ) → replies.IfBoth (λ x y. counts (disk_of y) ≡ counts (disk_of x)) (slice_get l v) (slice_get o.shown.volumes.items v)) (sym items) h.volumes;
    trails = subst (λ (t : ImageTrails D). Causes (ending_for 0 (trails_answer o.met)) (counts (trails_disk t)) (counts o.disk)) (sym trails) h.trails;
    own = h.own;
    sound = h.sound;
  }

module _ {D : Type 0} {d : Ghosts D} (tells : Type 0) (files : D → Disk) (counts : D → Counts) (n : BackupNode D d) (up : Backup D d) (here : n.backup ≡ Some up) (serves : MayServe tells files counts n) where
  run : MayRun tells files counts n.volumes up
  run = was_up n tells files counts up here serves

  -- the session shows the node as it was
  pub begins_at : (opened : Open D d) → Begins tells files up opened → BeginsAt tells files counts n opened
  begins_at opened h = record {
    at = λ t layout trail b at. up_alike files up opened.shown h.trails h.volumes h.txns layout trail b (up_at files layout trail b n up here at);
    fed = λ t layout trail b at. h.fed t trail (up_at files layout trail b n up here at).serves;
    disks = disks_alike files up opened.shown h.trails h.volumes ∙ sym (ap (λ (o : Option (Backup D d)). disks_among o n.disks.items) here);
    phase = ap (λ (t : ImageTrails D). Some (trails_value t).phase) h.trails ∙ sym (ap (λ (o : Option (Backup D d)). phase_among o) here);
    serves = record {
      runs = λ t. usable_alike files up opened.shown h.trails h.volumes (run.runs t);
      sized = ap (λ (y : Layout). y.volumes) (laid_alike files up opened.shown h.trails h.volumes) ∙ run.sized;
      on = subst (λ (l : List D). AreOn counts l) (sym (disks_alike files up opened.shown h.trails h.volumes)) run.on;
    };
    laid = λ layout l. laid_alike files up opened.shown h.trails h.volumes ∙ laid_of layout n up here l;
    unmet = h.met;
    since = come_so tells files counts opened (h.disk ∙ sym (ap (λ (t : ImageTrails D). trails_disk t) h.trails)) h.met;
  }

  counts_same : (back : Backup D d) → IsUnbegun tells files counts up back → Each (λ i x y. counts y ≡ counts x) (disks_in up) (disks_in back)
  counts_same back h = each_of (λ i x y. counts y ≡ counts x) (disks_in up) (disks_in back) at
    where
      at : (i : ℕ) → replies.IfBoth (λ x y. counts y ≡ counts x) (slice_get (disks_in up) i) (slice_get (disks_in back) i)
      at zero = ap (λ (t : ImageTrails D). counts (trails_disk t)) h.trails
      at (suc v) = mapped_by (λ volume. disk_of volume) (λ x y. counts y ≡ counts x) up.volumes.items back.volumes.items h.counts_are v

  -- it was not begun
  pub as_before : (new : BackupNode D d) (back : Backup D d) → new.backup ≡ Some back → new.volumes ≡ n.volumes → new.name ≡ n.name → IsUnbegun tells files counts up back → IsAsBefore tells files counts n new
  as_before new back there sized named h =
      let same = counts_same back h in
      record {
        at = λ t layout trail b at.
            let u = up_at files layout trail b n up here at in
            at_up files layout trail b new back there (record { laid = h.laid ∙ u.laid; state = u.state ∙ sym (h.same b.stops); serves = h.serves t trail u.serves });
        serves = serves_up new tells files counts n.volumes back there sized (record {
          runs = h.usable;
          sized = ap (λ (y : Layout). y.volumes) h.laid ∙ run.sized;
          on = still_on counts (disks_in up) (disks_in back) same run.on;
        });
        sized = sized;
        named = named;
        phase = ap (λ (o : Option (Backup D d)). phase_among o) there ∙ ap (λ (t : ImageTrails D). Some (trails_value t).phase) h.trails ∙ sym (ap (λ (o : Option (Backup D d)). phase_among o) here);
        laid = λ layout l. laid_up layout new back there (h.laid ∙ laid_of layout n up here l);
        counts_are = each_was n up here (λ i x y. counts y ≡ counts x) (disks_at new) (each_up new back there (λ i x y. counts y ≡ counts x) (disks_in up) same);
      }

-- ---- the end

-- a line was broken off, and the node is down
module _ {D : Type 0} {d : Ghosts D} (tells : Type 0) (files : D → Disk) (counts : D → Counts) (they : tells) (old : List D) (new : BackupNode D d) (none : new.backup ≡ None) (cut : AreCut tells files counts old new.disks.items) (layout : Layout) (count : length old ≡ suc layout.volumes) where
  abbrev left : ℕ → Contents
  left = held tells files counts they old new.disks.items cut

  broke : (v : Around) (name : Node) (next : State) (l : Line) (rise done : ℕ) (why : NodeFault) (told : Result Reply NodeFault) → 0 < rise → told ≡ stop_told name why → used_by l ≡ Some name → AreAtZero layout next.volumes → StaysIn layout v next l →
      backup_refusal layout v next l ≡ None → done ≤ length (parts_of layout v next l) → ((k : ℕ) → ContentsStandFor layout v.trail (backup_fallen k (after_parts next (parts_of layout v next l) done)) left) → Ends files layout v name next l rise told new
  broke v name next l rise done why told some is of zeros stays unrefused few stands = told_as (λ x. Ends files layout v name next l rise x new) name why told is stops (λ f. breaks)
    where
      at : (k : ℕ) → IsAt files layout v.trail (backup_fallen k (after_parts next (parts_of layout v next l) done)) new
      at k = at_off files layout v.trail (backup_fallen k (after_parts next (parts_of layout v next l) done)) new none (record {
        down = refl;
        stands = left_stands tells files counts they old new.disks.items cut layout v.trail (backup_fallen k (after_parts next (parts_of layout v next l) done)) count (stands k);
        at_zero = (stays done).1 zeros;
      })

      unused : (let x : Option Node = None in x) ≡ Some name → ⊥
      unused e = cc

      breaks : Breaks files layout v next l new
      breaks = record { done = done; few = few; at = at; before = λ e. absurd (unused (sym e ∙ of)); unrefused = λ e. unrefused }

      stops : Follows files layout v name next l rise (Stopped name) new
      stops = record {
        next = backup_fallen rise (after_parts next (parts_of layout v next l) done);
        step = Cut name of done (record { may = subst (λ o. IsTrue (reaches_disks o)) (sym unrefused) refl; few = few; says = refl; rise = rise; some = some; leaves = refl });
        at = at rise;
        stops = inr (refl, ap (λ m. count_u64 (m + rise)) (stays done).0);
      }

  -- its volumes had risen
  pub broke_risen : (w : Around) (name : Node) (b : State) (l : Line) (rise : ℕ) (why : NodeFault) (told : Result Reply NodeFault) → 0 < rise → told ≡ stop_told name why → used_by l ≡ Some name → is_of_session l ≡ true → AreAtZero layout b.volumes → AreBrokenAt layout w l b left →
      EndsRisen files layout w name b l rise told new
  broke_risen w name b (line.Deliver node k) rise why told some is of session zeros a = record {
    next = a.next;
    rise_is = a.rise_is;
    ends = broke w name a.next (line.Deliver node k) rise a.done why told some is of (risen_zero layout b a.next a.rise_is zeros) (deliver_stays layout w a.next node k) a.unrefused a.few a.stands;
  }
  broke_risen w name b (line.Purge node) rise why told some is of session zeros a = record {
    next = a.next;
    rise_is = a.rise_is;
    ends = broke (around_now layout w a.next) name a.next (line.Purge node) rise a.done why told some is of (risen_zero layout b a.next a.rise_is zeros) (purge_stays layout (around_now layout w a.next) a.next node) a.unrefused a.few a.stands;
  }
  broke_risen w name b _ rise why told some is of session zeros a = absurd (other session)
    where
      other : false ≡ true → ⊥
      other e = cc

module _ {D : Type 0} {d : Ghosts D} (tells : Type 0) (files : D → Disk) (counts : D → Counts) (n new : BackupNode D d) (closed : Open D d) (back : Backup D d) (goes : IsGoing tells files closed) (told : Result Reply NodeFault) where
  abbrev Ended : Result Reply NodeFault → Type 0
  Ended r = SessionEnds tells files counts closed r back

  abbrev Settled : Result Reply NodeFault → Type 0
  Settled r = Settles tells files counts n.name back r told new

  runs : tells → (layout : Layout) (trail : List Record) (b : State) → IsUpAt files layout trail b closed.shown → is_running b.volumes ≡ true
  runs t layout trail b u = ap (λ (s : State). is_running s.volumes) u.state ∙ ap (λ (p : Phase). is_running (volumes_by p (map (λ volume. restart_of volume) closed.shown.volumes.items))) (goes.running t)

  leaves : (m : Option Met) → closed.met ≡ m → LeavesTrails m → LeavesTrails closed.met
  leaves m is h = subst (λ (x : Option Met). LeavesTrails x) (sym is) h

  -- nothing was met
  ends_unmet : laws.EndsRisen d tells files counts → tells → closed.met ≡ None → (r : Result Reply NodeFault) → Ended r → Settled r → EndsUnmet files closed told n new
  ends_unmet law t none (Ok reply) e s = λ layout trail b rise some fed u.
      caught_told files layout trail b closed.shown u back new n.name rise told (s.0 ∙ ap (λ (x : Reply). let y : Result Reply NodeFault = Ok x in y) e.says) (runs t layout trail b u) s.1 (e.caught t trail u.serves fed)
  ends_unmet law t none (Err why) e s = λ layout trail b rise some fed u.
      fell_told files layout trail b closed.shown u back new tells counts t s.1 s.2 (law trail closed (Err why) back t goes e u.serves fed (leaves None none tt)) n.name rise why told s.0 (e.own (leaves None none tt))

  -- a read met a volume's fault
  ends_read : laws.EndsRisen d tells files counts → tells → closed.met ≡ Some met.Volume → (r : Result Reply NodeFault) → Ended r → Settled r → EndsAtRead files closed told n new
  ends_read law t is (Ok reply) e s = absurd (none_some met.Volume (sym e.unmet ∙ is))
  ends_read law t is (Err why) e s = λ layout trail key b rise some on fed u.
      read_told files layout trail b closed.shown u back new tells counts t s.1 s.2 (law trail closed (Err why) back t goes e u.serves fed (leaves (Some met.Volume) is tt)) key n.name rise why told s.0 (subst (λ y. IsTrue (protects y key.vol)) (sym u.laid) on)

  goes_by : (layout : Layout) (w : Around) (b : State) (l : Line) → IsUpAt files layout w.trail b closed.shown → GoesBy layout w b l → GoesBy (layout_of closed.shown) w (state_of 0 closed.shown) l
  goes_by layout w b (line.Purge node) u h = h ∙ ap (λ (s : State). points_in layout w.trail s.volumes) u.state ∙ ap (λ (y : Layout). points_in y w.trail (state_of 0 closed.shown).volumes) (sym u.laid)
  goes_by layout w b _ u h = tt

  -- a delivery or a purge was broken off
  ends_broken : laws.EndsBroken d tells files counts → tells → (what : NodeFault) → closed.met ≡ Some (met.Trails what) → (r : Result Reply NodeFault) → Ended r → Settled r → EndsBrokenOff files closed told n new
  ends_broken law t what is (Ok reply) e s = absurd (none_some (met.Trails what) (sym e.unmet ∙ is))
  ends_broken law t what is (Err why) e s = λ layout w b l rise some session of by fed u broken.
      let h : SomeBroken files layout w l b (disks_in back) = subst (λ y. SomeBroken files y w l b (disks_in back)) u.laid (subst (λ x. SomeBroken files (layout_of closed.shown) w l x (disks_in back)) (sym u.state)
      (law w l closed (Err why) back t goes e u.serves fed session (goes_by layout w b l u by) broken b.stops)) in
      broke_risen tells files counts t (disks_in back) new s.1 s.2 layout h.count w n.name b l rise why told some s.0 of session (up_zero files layout w.trail b closed.shown u)
      (h.some (held tells files counts t (disks_in back) new.disks.items s.2) (held_before tells files counts t (disks_in back) new.disks.items s.2))

  ends_stopped : closed.met ≢ None → (r : Result Reply NodeFault) → Ended r → Settled r → IfOk told (λ reply. reply ≡ Stopped n.name)
  ends_stopped met (Ok reply) e s = absurd (met e.unmet)
  ends_stopped met (Err why) e s = told_as (λ x. IfOk x (λ reply. reply ≡ Stopped n.name)) n.name why told s.0 refl (λ f. tt)

  abbrev MayEndBy : Reply → Type 0
  MayEndBy reply = ((closed.met ≡ None) × (reply ≡ Number (received (value_of closed.shown)))) ⊎ (reply ≡ Stopped n.name)

  ends_says : (r : Result Reply NodeFault) → Ended r → Settled r → IfOk told (λ reply. MayEndBy reply)
  ends_says (Ok reply) e s = subst (λ (x : Result Reply NodeFault). IfOk x (λ y. MayEndBy y)) (sym s.0) (inl (e.unmet, e.says))
  ends_says (Err why) e s = told_as (λ x. IfOk x (λ y. MayEndBy y)) n.name why told s.0 (inr refl) (λ f. tt)

  pub ends_at : laws.EndsRisen d tells files counts → laws.EndsBroken d tells files counts → (r : Result Reply NodeFault) → Ended r → Settled r → EndsAt tells files closed told n new
  ends_at risen broken r e s = record {
    unmet = λ t none. ends_unmet risen t none r e s;
    broken = λ t what is. ends_broken broken t what is r e s;
    read = λ t is. ends_read risen t is r e s;
    stopped = λ met. ends_stopped met r e s;
    says = ends_says r e s;
  }

  plain_end : (r : Result Reply NodeFault) (k : ℕ) → IfOk r (λ reply. reply ≡ Number k) → IsPlain r
  plain_end (Ok reply) k h = λ name e. number_no k name (sym h ∙ e)
  plain_end (Err why) k h = tt

  abbrev Only : (ℕ → Ending) → Type 0
  Only = OnlyProtected (layout_of closed.shown) closed.met

  -- a fault at the end is told
  told_at_end : (why : NodeFault) (o : BackupNode D d) → FailsInSession counts Only why o new → IsCausedInSession counts Only (stop_told o.name why) o new
  told_at_end (fault.Stopped disk) o h = inr (refl, (disk, h))
  told_at_end (fault.Failed disk) o h = (h, λ disk e. absurd cc)
  told_at_end fault.NoMemory o h = (h, λ disk e. absurd cc)
  told_at_end (fault.Damaged disk file at) o h = (h, λ disk e. absurd cc)

  as_session : (o : BackupNode D d) (reply : Reply) → IsCaused counts (line.Takeover n.name) (Ok reply) o new → reply ≢ Stopped o.name → IsCausedInSession counts Only (Ok reply) o new
  as_session o reply (inl h) plain = inl h
  as_session o reply (inr h) plain = absurd (plain h.0)

  no_fuse : (o : BackupNode D d) (x : Result Reply NodeFault) → IsFused counts (line.Takeover n.name) x o new → Each (λ i x y. (counts y).fuses ≡ (counts x).fuses) (disks_at o) (disks_at new)
  no_fuse o x (inl h) = h.0
  no_fuse o x (inr h) = h.1

  beside_of : (r : Result Reply NodeFault) (layout : Layout) (m : Option Met) (was : Backup D d) → CausedInSession counts layout m r was back → CausedBeside counts r was back
  beside_of r layout m was (ends, (first, only, each)) = (ends, (first, each))

  module _ (was : Backup D d) (serves : MayServe tells files counts (record n { backup = Some was })) where
    abbrev o : BackupNode D d
    o = record n { backup = Some was }

    caused_in : (r : Result Reply NodeFault) → CausedInSession counts (layout_of closed.shown) closed.met r was back → Settled r → NamesOwn (layout_of was).volumes r → ((reply : Reply) → r ≡ Ok reply → reply ≢ Stopped n.name) → IsCaused counts (line.Takeover n.name) told o new → IsCausedInSession counts Only told o new
    caused_in (Ok reply) (ends, (first, only, each)) s fine plain h = subst (λ (x : Result Reply NodeFault). IsCausedInSession counts Only x o new) (sym s.0)
        (as_session o reply (subst (λ (x : Result Reply NodeFault). IsCaused counts (line.Takeover n.name) x o new) s.0 h) (plain reply refl))
    caused_in (Err why) (ends, (first, only, each)) s fine plain h = subst (λ (x : Result Reply NodeFault). IsCausedInSession counts Only x o new) (sym s.0) (told_at_end why o (
      subst (λ m. IsNamed m why) (sym (disks_many was)) fine,
      (
        ends,
        (
          first,
          only,
          each_off new s.1 (λ i x y. Tells (ends i) (counts x) (counts y)) (disks_in was)
              (ends_tell counts ends (disks_in was) (disks_in back) (each_of (λ i x y. Causes (ends i) (counts x) (counts y)) (disks_in was) (disks_in back) each) tells files new.disks.items s.2 serves.on),
        ),
      ),
    ))

  plain_of : (r : Result Reply NodeFault) (k : ℕ) → IfOk r (λ reply. reply ≡ Number k) → (reply : Reply) → r ≡ Ok reply → reply ≢ Stopped n.name
  plain_of (Ok reply) k h other e f = number_no k n.name (sym h ∙ ok_is reply other e ∙ f)
    where
      ok_is : (p q : Reply) → (let r : Result Reply NodeFault = Ok p in r) ≡ Ok q → p ≡ q
      ok_is p q g = cc
  plain_of (Err why) k h other e f = absurd cc

  same_phase : (r : Result Reply NodeFault) (p q k : Phase) → IfOk r (λ reply. p ≡ q) → q ≡ k → OnOk r (p ≡ k)
  same_phase (Ok reply) p q k e f = e ∙ f
  same_phase (Err why) p q k e f = tt

  -- what the node keeps
  pub ends_keeps : (r : Result Reply NodeFault) → Ended r → Settled r → new.volumes ≡ n.volumes → new.name ≡ n.name → (was : Backup D d) → HasCome counts was closed → MayServe tells files counts (record n { backup = Some was }) → KeepsInSession tells files counts Only told (record n { backup = Some was }) new
  ends_keeps r e s sized called was come serves =
      let c = e.cause was come in
      let own = subst (λ (y : Layout). NamesOwn y.volumes r) come.laid e.named in
      let plain = plain_end r (received (value_of closed.shown)) e.says in
      let k = settled_stays tells files counts n new was back (line.Takeover n.name) refl serves sized called r told s (first_cause counts true refl r was back (beside_of r (layout_of closed.shown) closed.met was c)) e.usable own plain in
      record {
        serves = k.serves;
        sized = k.sized;
        named = k.named;
        cause = caused_in was serves r c s own (plain_of r (received (value_of closed.shown)) e.says) k.cause;
        fuses = no_fuse (record n { backup = Some was }) told k.fuses;
        moved = settled_moved Stays (λ m o. refl) tells files counts n.name (Some (value_of was).phase) back new r told s
            (kept_moved r (value_of was).phase (value_of back).phase plain (same_phase r _ _ _ e.phase come.phase));
      }

-- the whole of a session
pub has_run : {D O : Type 0} {d : Ghosts D} (tells : Type 0) (files : D → Disk) (counts : D → Counts) (drives : Open D d → O → Open D d → Type 0) (out : O) (end told : Result Reply NodeFault) (n new : BackupNode D d) (up back : Backup D d) → n.backup ≡ Some up → MayServe tells files counts n →
    HasRun tells files counts drives out end up back → Settles tells files counts n.name back end told new → new.volumes ≡ n.volumes → new.name ≡ n.name → laws.EndsRisen d tells files counts → laws.EndsBroken d tells files counts → HasRunAt tells files counts drives out told n new
has_run tells files counts drives out end told n new up back here serves h s sized called risen broken = record {
  opened = h.opened;
  closed = h.closed;
  begins = begins_at tells files counts n up here serves h.opened h.begins;
  driven = h.driven;
  goes = h.goes;
  comes = come_alike files up h.opened.shown h.begins.trails h.begins.volumes counts h.closed h.comes;
  ends = ends_at tells files counts n new h.closed back h.goes told risen broken end h.ends s;
  keeps = ends_keeps tells files counts n new h.closed back h.goes told end h.ends s sized called;
  laid = λ layout l. settled_laid tells files counts n new up back end told s (h.ends.laid ∙ h.comes.laid) layout (laid_of layout n up here l);
  sound = λ t. settled_sound tells files counts n new up back end told s (h.ends.sound t);
}
