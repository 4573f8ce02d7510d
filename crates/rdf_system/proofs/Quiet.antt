-- A line in a session that calls no disk, as what the system does.
use Rattle.std.proofs.Common.{◌≡◌, ◌≢◌, ◌⊎◌, inl, inr, ℕ, ◌+◌, ◌&&◌, Bool, true, false, if◌then◌else◌, [], Option, Some, None, Ok, refl, sym, ap, ◌∙◌, subst, is_some, ◌∷◌}
use Rattle.rdf_types.specs.declared.layout.Layout.{Layout}
use Rattle.rdf_types.specs.declared.records.Node.{Node}
use Rattle.rdf_types.specs.declared.records.Phase.{Phase}
use Rattle.rdf_core.specs.RowLaws.{put_back}
use Rattle.rdf_types.specs.declared.records.RecKey.{RecKey}
use Rattle.rdf_disk.specs.Files.{Disk}
use Rattle.rdf_disk.specs.Counts.{Counts}
use Rattle.rdf_disk.specs.Counts.Ending.{Fine}
use Rattle.rdf_disk.specs.declared.disk.Disk.{Ghosts}
use Rattle.plan_lang.specs.declared.lines.Line.{Line}
use Rattle.plan_lang.specs.declared.lines.Line.TheVariants as line
use Rattle.plan_lang.specs.Sessions.{fits_session}
use Rattle.node_disks.specs.Counting.{Tells, is_fuse}
use Rattle.rdf_core.specs.declared.replies.NoWhy.{NoWhy}
use Rattle.rdf_core.specs.declared.replies.NoWhy.TheVariants as no
use Rattle.rdf_core.specs.declared.replies.Reply.{Reply}
use Rattle.rdf_core.specs.declared.replies.Reply.TheVariants.{No, Stopped}
use Rattle.rdf_core.specs.Allowed.{has_names}
use Rattle.rdf_core.specs.Backup.{Backup, with_up}
use Rattle.rdf_core.specs.Effects.{count_u64, first}
use Rattle.rdf_core.specs.Sessions.{Session, Closed, Refused, Open}
use Rattle.plan_lang.specs.LineText.{same_node}
use Rattle.by_node.specs.Each.{Each, at, at-map_each}
use Rattle.rdf_core.specs.State.{State, with_backup, with_session}
use Rattle.rdf_core.specs.SessionLaws.{same_self}
use Rattle.rdf_core.specs.Step.{StepEnds}
use Rattle.rdf_system.specs.declared.session.Bar.{Bar}
use Rattle.rdf_system.specs.declared.session.SessionState.{SessionState}
use Rattle.rdf_system.specs.declared.session.SessionState.TheVariants as system
use Rattle.rdf_system.specs.declared.system.System.{System}
use Rattle.rdf_system.specs.Kinds.{IsQuiet, BySession}
use Rattle.rdf_system.specs.Place.{is_used}
use Rattle.rdf_system.specs.Noting.{behind, noted}
use Rattle.rdf_system.specs.Sessions.{node_of, used_by, running_in, ended_by, why_of, IsPlacedAt, IsSession}
use Rattle.rdf_system.specs.States.{MayServe, IsAtState, DisksStandFor, disk_of}
use Rattle.rdf_system.specs.AllowedLaws.{allowed_at}
use Rattle.rdf_system.specs.Lines.{stops_in, counts_stop, is_done, Before, EachUsed, Follows, Does}
use Rattle.rdf_system.proofs.SessionReads.{OpenIn, open_in}
use Rattle.rdf_system.proofs.Leaving.{keeps_all}
use Rattle.rdf_system.proofs.Moving.{stays}
use Rattle.rdf_system.proofs.Reading.{end_stopped, ends_refused, read_barred, read_down}
use Rattle.rdf_system.proofs.PlaceLaws.{none_some, not_so, some_none}
use Rattle.primary_node.specs.Moves.{standing_at}
use Rattle.rdf_system.specs.Moves.{phase_in, phase_of}
use Rattle.rdf_system.specs.Stances.{IsHeld, IsHeldBy, IsJudgedBy, IsUnbarred, bar_in, down_by, stances_of}
use Rattle.rdf_system.proofs.MovedLaws.{off_quiet, primary_stays, stays_quiet}
use Rattle.backup_node.specs.Kinds.{IsSaid}

and_false : (a : Bool) → (a && false) ≡ false
and_false true = refl
and_false false = refl

-- no stop is counted where the reply is none
no_count : (used : Option Node) (why : NoWhy) (node : Node) → counts_stop used node (No why) ≡ false
no_count None why node = refl
no_count (Some u) why node = and_false (same_node u node)

module _ {D : Type 0} {d : Ghosts D} {tells : Type 0} {files : D → Disk} {counts : D → Counts} {old : System D d} (serves : MayServe tells files counts old) (stands : tells → (layout : Layout) (s : State) → IsAtState files layout s old → DisksStandFor files layout s old)
    (l : Line) (plain : is_fuse l ≡ false) (ss : SessionState) where
  abbrev New : System D d
  New = record old { session = ss }

  each_still : (R : Node → ℕ → D → D → Type 0) → ((node : Node) (i : ℕ) (x : D) → R node i x x) → EachUsed R old New
  each_still R f node i = stays (λ a b. R node i a b) (is_used old.layout node i) (disk_of old node i) (f node i)

  serves_on : IsPlacedAt old.layout (node_of ss) → MayServe tells files counts New
  serves_on p = record {
    whole = record { many = serves.whole.many; sized = serves.whole.sized; sites = serves.whole.sites; shelf = serves.whole.shelf; session = p };
    primary = serves.primary;
    sites = serves.sites;
  }

  same_disks : (layout : Layout) (s : State) → DisksStandFor files layout s old → DisksStandFor files layout s New
  same_disks layout s h = record { laid = h.laid; primary = h.primary; sites = h.sites }

  -- the machine's step leaves all but the session
  pub quiet_answers : has_names old.layout l ≡ true → fits_session (node_of old.session) l ≡ true → (reply : Reply) → IsPlacedAt old.layout (node_of ss) → ss ≡ behind old.session l reply → ((node : Node) → used_by old.session l ≡ Some node → reply ≢ Stopped node) → ((node : Node) → reply ≡ Stopped node → l ≡ line.End) →
      ((node : Node) → counts_stop (used_by old.session l) node reply ≡ false) → IsQuiet old.session l reply → IsJudgedBy (stances_of old) l reply →
      (tells → (layout : Layout) (s : State) → IsAtState files layout s old → (session : Session) × ((StepEnds layout s l reply (with_session s session)) × IsSession layout s.backups session ss)) → Does tells files counts l (Ok reply) old New
  quiet_answers names fits reply placed after none at_end uncounted kinds judged did = record {
    performs = λ t layout s rise some risen is. answered t layout s rise is;
    keeps = record {
      serves = serves_on placed;
      laid = refl;
      cause = inl (each_still (λ node i x y. Tells Fine (counts x) (counts y)) (λ node i x. (refl, refl)), none);
      sound = λ t layout s is. tt;
      fuses = inl (each_still (λ node i x y. (counts y).fuses ≡ (counts x).fuses) (λ node i x. refl), ap (λ (b : Bool). b && is_done (Ok reply)) plain);
      unused = λ node i e. refl;
      kinds = BySession reply refl kinds;
      judged = judged;
      moved = record {
        primary = primary_stays l reply (standing_at old.primary) (off_quiet old.session l reply kinds);
        phases = λ name placed. stays_quiet old.session l reply kinds name (at (stances_of old).phases name);
        session = after;
      };
    };
  }
    where
      answered : tells → (layout : Layout) (s : State) (rise : ℕ) → IsAtState files layout s old → Follows files layout s (used_by old.session l) l rise reply New
      answered t layout s rise is = let m = did t layout s is in record {
        mid = s;
        drifts = ([], refl);
        next = with_session s m.0;
        step = (allowed_at l is names fits, m.1.0);
        at = record { laid = is.laid; primary = is.primary; senders = is.senders; sites = is.sites; session = m.1.1 };
        stops = λ node. sym (ap (λ (x : Bool). if x then count_u64 (stops_in s node + rise) else stops_in s node) (uncounted node));
        told = λ node e. inr (at_end node e);
        leaves = λ ne. record { mid = s; drifts = ([], refl); left = s; leaves = Before refl; stands = same_disks layout s (stands t layout s is); stops = keeps_all (with_session s m.0) s (λ node n e. e) };
      }

-- in a session that was refused

module _ {D : Type 0} {d : Ghosts D} {tells : Type 0} {files : D → Disk} {counts : D → Counts} {old : System D d} (serves : MayServe tells files counts old) (stands : tells → (layout : Layout) (s : State) → IsAtState files layout s old → DisksStandFor files layout s old) where
  refused_in : (layout : Layout) (backups : Each Backup) (session : Session) (ss : SessionState) (node : Node) (bar : Bar) → ss ≡ system.Refused node bar → IsSession layout backups session ss → (of : Node) × (session ≡ Refused of (why_of bar))
  refused_in layout backups session ss node bar e h = go session (subst (λ (x : SessionState). IsSession layout backups session x) e h)
    where
      go : (x : Session) → IsSession layout backups x (system.Refused node bar) → (of : Node) × (x ≡ Refused of (why_of bar))
      go Closed k = absurd k
      go (Refused of reason) k = (of, ap (λ (r : NoWhy). Refused of r) k.1)
      go (Open o) k = absurd k

  never_told : {X : Type 0} (why : NoWhy) (node : Node) → No why ≡ Stopped node → X
  never_told why node e = absurd cc

  quiet_at : (l : Line) (reply : Reply) (ss : SessionState) → old.session ≡ ss → IsQuiet ss l reply → IsQuiet old.session l reply
  quiet_at l reply ss e h = subst (λ (x : SessionState). IsQuiet x l reply) (sym e) h

  -- a read of a session that was refused is answered so, but on a node that is down
  refused_judged : (node : Node) (key : RecKey) (bar : Bar) (said : NoWhy) (p : Option Phase) (b : Option NoWhy) → b ≡ Some (why_of bar) → ((is_some p ≡ true) × (said ≡ why_of bar)) ⊎ ((is_some p ≡ false) × (said ≡ no.Down)) → IsSaid (first (down_by p ∷ b ∷ [])) IsUnbarred (No said)
  refused_judged node key bar said p b is told = subst (λ (x : Option NoWhy). IsSaid (first (down_by p ∷ x ∷ [])) IsUnbarred (No said)) (sym is) (by p told)
    where
      by : (q : Option Phase) → ((is_some q ≡ true) × (said ≡ why_of bar)) ⊎ ((is_some q ≡ false) × (said ≡ no.Down)) → IsSaid (first (down_by q ∷ Some (why_of bar) ∷ [])) IsUnbarred (No said)
      by None (inl h) = not_so h.0
      by None (inr h) = ap (λ (w : NoWhy). let r : Reply = No w in r) h.1
      by (Some ph) (inl h) = ap (λ (w : NoWhy). let r : Reply = No w in r) h.1
      by (Some ph) (inr h) = not_so (sym h.0)

  -- a read on a node that is down
  down_judged : (p : Option Phase) (b : Option NoWhy) → p ≡ None → IsSaid (first (down_by p ∷ b ∷ [])) IsUnbarred (No no.Down)
  down_judged p b is = subst (λ (q : Option Phase). IsSaid (first (down_by q ∷ b ∷ [])) IsUnbarred (No no.Down)) (sym is) refl

  -- no stop is noted by a refusal
  still_noted : (ss : SessionState) (why : NoWhy) → ss ≡ noted ss (No why)
  still_noted system.Closed why = refl
  still_noted (system.Refused node bar) why = refl
  still_noted (system.Open node true) why = refl
  still_noted (system.Open node false) why = refl

  -- a read that is refused
  told_no : (node : Node) (key : RecKey) (why : NoWhy) → node_of old.session ≡ Some node → IsQuiet old.session (line.Read node key) (No why) → IsJudgedBy (stances_of old) (line.Read node key) (No why) → (tells → (layout : Layout) (s : State) → IsAtState files layout s old → StepEnds layout s (line.Read node key) (No why) s) → Does tells files counts (line.Read node key) (Ok (No why)) old old
  told_no node key why here kinds judged step = quiet_answers serves stands (line.Read node key) refl old.session (subst (IsPlacedAt old.layout) here serves.whole.session)
      (subst (λ (x : Option Node). fits_session x (line.Read node key) ≡ true) (sym here) (same_self node)) (No why) serves.whole.session (still_noted old.session why) (λ n f. λ g. never_told why n g) (λ n g. never_told why n g) (λ n. no_count (Some node) why n) kinds judged
      (λ t layout s is. (s.session, (step t layout s is, is.session)))

  pub read_refused : (node of : Node) (key : RecKey) (bar : Bar) (said : NoWhy) → node_of old.session ≡ Some node → old.session ≡ system.Refused of bar → IsQuiet (system.Refused of bar) (line.Read node key) (No said) → ((is_some (phase_of old node) ≡ true) × (said ≡ why_of bar)) ⊎ ((is_some (phase_of old node) ≡ false) × (said ≡ no.Down)) →
      (tells → (layout : Layout) (s : State) → IsAtState files layout s old → (((at s.backups node).up ≡ true) × (said ≡ why_of bar)) ⊎ (((at s.backups node).up ≡ false) × (said ≡ no.Down))) → Does tells files counts (line.Read node key) (Ok (No said)) old old
  read_refused node of key bar said here e kinds told how = told_no node key said here (quiet_at (line.Read node key) (No said) (system.Refused of bar) e kinds) (refused_judged node key bar said (at (stances_of old).phases node) (bar_in old.session) (ap bar_in e) (subst (λ (p : Option Phase). ((is_some p ≡ true) × (said ≡ why_of bar)) ⊎ ((is_some p ≡ false) × (said ≡ no.Down))) (sym (at-map_each (λ site. phase_in site.node) old.sites node)) told)) (λ t layout s is. step layout s is (how t layout s is))
    where
      step : (layout : Layout) (s : State) → IsAtState files layout s old → (((at s.backups node).up ≡ true) × (said ≡ why_of bar)) ⊎ (((at s.backups node).up ≡ false) × (said ≡ no.Down)) → StepEnds layout s (line.Read node key) (No said) s
      step layout s is (inl h) = let m = refused_in layout s.backups s.session old.session of bar e is.session in subst (λ (r : NoWhy). StepEnds layout s (line.Read node key) (No r) s) (sym h.1) (read_barred layout s node m.0 (why_of bar) key h.0 m.1)
      step layout s is (inr h) = subst (λ (r : NoWhy). StepEnds layout s (line.Read node key) (No r) s) (sym h.1) (read_down layout s node key h.0)

  -- a session may end
  ends_in : (of : Node) → node_of old.session ≡ Some of → fits_session (node_of old.session) line.End ≡ true
  ends_in of here = subst (λ (x : Option Node). fits_session x line.End ≡ true) (sym here) refl

  -- the end of a session that is refused
  told_end : (of : Node) (why : NoWhy) → node_of old.session ≡ Some of → IsQuiet old.session line.End (No why) → IsSaid (bar_in old.session) IsUnbarred (No why) → (tells → (layout : Layout) (s : State) → IsAtState files layout s old → StepEnds layout s line.End (No why) (with_session s Closed)) → Does tells files counts line.End (Ok (No why)) old (record old { session = system.Closed })
  told_end of why here kinds judged step = quiet_answers serves stands line.End refl system.Closed refl (ends_in of here) (No why) tt refl (λ n f. λ g. never_told why n g) (λ n g. never_told why n g) (λ n. no_count (used_by old.session line.End) why n) kinds judged
      (λ t layout s is. (Closed, (step t layout s is, tt)))

  pub end_refused : (of : Node) (bar : Bar) (said : NoWhy) → old.session ≡ system.Refused of bar → said ≡ why_of bar → Does tells files counts line.End (Ok (No said)) old (record old { session = system.Closed })
  end_refused of bar said e same = told_end of said (ap node_of e) (quiet_at line.End (No said) (system.Refused of bar) e (ap (λ (w : NoWhy). let r : Reply = No w in r) same))
      (subst (λ (b : Option NoWhy). IsSaid b IsUnbarred (No said)) (sym (ap bar_in e)) (ap (λ (w : NoWhy). let r : Reply = No w in r) same)) (λ t layout s is.
      let m = refused_in layout s.backups s.session old.session of bar e is.session in
      subst (λ (w : NoWhy). StepEnds layout s line.End (No w) (with_session s Closed)) (sym same)
      (subst (λ (x : Session). StepEnds layout (with_session s x) line.End (No (why_of bar)) (with_session s Closed)) (sym m.1) (ends_refused layout s m.0 (why_of bar))))

  -- a session that is open where no lines go over threads had a stop
  pub stopped_is : (of : Node) (stopped : Bool) → running_in old.session ≡ None → old.session ≡ system.Open of stopped → old.session ≡ system.Open of true
  stopped_is of true idle e = e
  stopped_is of false idle e = some_none (sym (ap running_in e) ∙ idle)

  -- a read in it finds the node down
  pub read_of_stopped : (node of : Node) (key : RecKey) → IsHeld (stances_of old) → old.session ≡ system.Open of true → node_of old.session ≡ Some node → Does tells files counts (line.Read node key) (Ok (No no.Down)) old old
  read_of_stopped node of key held e here = told_no node key no.Down here (quiet_at (line.Read node key) (No no.Down) (system.Open of true) e refl)
      (down_judged (at (stances_of old).phases node) (bar_in old.session) (ap (λ (n : Node). at (stances_of old).phases n) (sym is) ∙ subst (λ (ss : SessionState). IsHeldBy (stances_of old).phases ss) e held)) (λ t layout s here_at.
      let m : OpenIn layout s of true = open_in layout s of true old.session e here_at.session in
      read_down layout s node key (subst (λ (n : Node). (at s.backups n).up ≡ false) is m.open_is.up))
    where
      some_is : Some of ≡ Some node → of ≡ node
      some_is f = cc

      is : of ≡ node
      is = some_is (sym (ap node_of e) ∙ here)

  -- the end of an open session in which a disk stopped
  pub end_of_stopped : (node : Node) → old.session ≡ system.Open node true → Does tells files counts line.End (Ok (Stopped node)) old (record old { session = system.Closed })
  end_of_stopped node e = quiet_answers serves stands line.End refl system.Closed refl (ends_in node (ap node_of e)) (Stopped node) tt refl (λ n f. none_used (sym (ap ended_by e) ∙ f)) (λ n g. refl) (λ n. ap (λ (u : Option Node). counts_stop u n (Stopped node)) (ap ended_by e)) (quiet_at line.End (Stopped node) (system.Open node true) e refl) (subst (λ (b : Option NoWhy). IsSaid b IsUnbarred (Stopped node)) (sym (ap bar_in e)) tt)
      (λ t layout s is. (Closed, (step layout s is, tt)))
    where
      none_used : {X : Type 0} {n : Node} → (let x : Option Node = None in x) ≡ Some n → X
      none_used {n = n} f = none_some f

      -- the node is down already
      down_again : (s : State) (n : Node) → (at s.backups n).up ≡ false → with_session (with_backup s n (with_up (at s.backups n) false)) Closed ≡ with_session s Closed
      down_again s n down = ap (λ (x : Bool). with_session (with_backup s n (with_up (at s.backups n) x)) Closed) (sym down) ∙ ap (λ (x : State). with_session x Closed) (put_back s n)

      step : (layout : Layout) (s : State) → IsAtState files layout s old → StepEnds layout s line.End (Stopped node) (with_session s Closed)
      step layout s is = let m : OpenIn layout s node true = open_in layout s node true old.session e is.session in
          subst (λ (x : State). StepEnds layout s line.End (Stopped node) x) (down_again s node m.open_is.up) (end_stopped layout s m.session m.is node m.open_is.node_is m.open_is.placed m.open_is.met)
