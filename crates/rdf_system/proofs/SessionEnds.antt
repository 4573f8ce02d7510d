-- The end of an open session, and the line that opens one, as what the system does.
use Rattle.std.proofs.Common.{◌≡◌, inl, inr, ℕ, ◌+◌, ◌<◌, Bool, true, false, not, List, [], ◌∷◌, length, Option, Some, None, Result, Ok, Err, IsTrue, refl, sym, ap, ◌∙◌, subst}
use Rattle.std.proofs.lemmas.List.{length-map}
use Rattle.rdf_types.specs.declared.layout.Layout.{Layout}
use Rattle.rdf_types.specs.declared.records.Node.{Node}
use Rattle.rdf_types.specs.declared.records.Record.{Record}
use Rattle.rdf_disk.specs.Files.{Disk}
use Rattle.rdf_disk.specs.Counts.{Counts}
use Rattle.rdf_disk.specs.declared.disk.Disk.{Ghosts}
use Rattle.plan_lang.specs.declared.lines.Line.{Line}
use Rattle.plan_lang.specs.declared.lines.Line.TheVariants as line
use Rattle.node_faults.specs.declared.NodeFault.{NodeFault}
use Rattle.rdf_core.specs.StopLaws.{stopped_is}
use Rattle.rdf_core.specs.SessionLaws.{none_met}
use Rattle.rdf_core.specs.declared.replies.NoWhy.{NoWhy}
use Rattle.rdf_core.specs.declared.replies.NoWhy.TheVariants as no
use Rattle.rdf_core.specs.declared.replies.Reply.{Reply}
use Rattle.rdf_core.specs.declared.replies.Reply.TheVariants.{No, Number, Stopped}
use Rattle.plan_lang.specs.Sessions.{fits_session}
use Rattle.rdf_core.specs.Allowed.{is_backup, allowed}
use Rattle.rdf_core.specs.Run.{Drifts}
use Rattle.rdf_core.specs.Backup.{Backup, Volumes, Running, Taking, Taken, Around, is_running, needs_running, is_taking, is_taken, kept_of, points_in, backup_fallen}
use Rattle.rdf_core.specs.Effects.{count_u64, first, when, IsDone, Whole, Cut}
use Rattle.rdf_core.specs.Layouts.{protects}
use Rattle.rdf_core.specs.Rising.{HasRisen}
use Rattle.rdf_core.specs.Sessions.{Session, Closed, Refused, Open, Opened, opened, with_halt, is_backup_node}
use Rattle.rdf_core.specs.Sound.{AreSound}
use Rattle.by_node.specs.Each.{Each, at}
use Rattle.rdf_core.specs.State.{State, with_backup, with_session}
use Rattle.rdf_core.specs.Step.{StepEnds, BackupStep, halted_backup}
use Rattle.backup_node.specs.Nodes.{IsAt as BackupIsAt}
use Rattle.backup_node.specs.Lines as backup
use Rattle.backup_node.specs.Rising.{FellRisen, caught_up}
use Rattle.rdf_system.specs.declared.session.SessionState.{SessionState}
use Rattle.rdf_system.specs.declared.session.SessionState.TheVariants as system
use Rattle.rdf_system.specs.AllowedLaws.{allowed_at, line_allowed}
use Rattle.rdf_system.specs.declared.site.Site.{Site}
use Rattle.rdf_system.specs.declared.system.System.{System}
use Rattle.rdf_system.specs.Sessions.{node_of, used_by, ended_by, as_bar, why_of, IsPlacedAt, IsOpen, IsSession}
use Rattle.rdf_system.specs.States.{MayServe, IsAtState}
use Rattle.rdf_system.specs.NodeLines.{SiteDoes}
use Rattle.rdf_system.specs.Lines.{Before, Follows, Performs, Does}
use Rattle.rdf_system.specs.Noting.{begun, begun_node}
use Rattle.rdf_system.proofs.Falling.{site_turned}
use Rattle.rdf_system.proofs.Judging.{phase_there, session_judged}
use Rattle.rdf_system.proofs.SessionReads.{Laws, OpenIn, open_in, risen_stops}
use Rattle.rdf_system.proofs.OnSite.{Asked, about, site_at, with_site, here, turned, was_at, site_answers, site_fails}
use Rattle.rdf_system.proofs.SiteStates.{Beside, Turned, rests, now_stands, then_stands, stands_sound, leave_at, leave_plain, follow_at}
use Rattle.rdf_system.proofs.Reading.{drift_halted, drift_risen, end_halted, end_well}
use Rattle.rdf_system.proofs.PlaceLaws.{backup_node_is, not_so, none_some, some_none}
use Rattle.rdf_system.specs.Stances.{stances_of}
use Rattle.rdf_core.specs.RowLaws.{put_back}

-- the end of an open session

module _ {D : Type 0} {d : Ghosts D} {tells : Type 0} {files : D → Disk} {counts : D → Counts} {old : System D d} (name : Node) (site : Site D d) (serves : MayServe tells files counts old) (placed : is_backup old.layout name ≡ true)
    (open_is : old.session ≡ system.Open name false) (beside : tells → Beside files old) (laws : Laws) where
  used_is : used_by old.session line.End ≡ Some name
  used_is = ap ended_by open_is

  module _ (turned : Turned tells files old name site) (t : tells) (layout : Layout) (s : State) (is : IsAtState files layout s old) where
    abbrev b : Backup
    b = at s.backups name

    pub opened_is : OpenIn layout s name false
    opened_is = open_in layout s name false old.session open_is is.session

    abbrev o : Opened
    o = opened_is.session

    abbrev k : IsOpen layout s.backups o name false
    k = opened_is.open_is

    backup_is : is_backup_node name ≡ true
    backup_is = backup_node_is old.layout name placed

    may : (mid : State) → Drifts layout s mid → allowed layout mid.session line.End ≡ true
    may mid drifts = line_allowed layout s mid old.session line.End refl (subst (λ (x : SessionState). fits_session (node_of x) line.End ≡ true) (sym open_is) refl) is.session drifts

    only_here : (node : Node) → used_by old.session line.End ≡ Some node → node ≡ name
    only_here node e = some_is node (sym used_is ∙ e)
      where
        some_is : (node : Node) → Some name ≡ Some node → node ≡ name
        some_is node e = cc

    -- each volume has risen to what was received
    pub end_good : (reply : Reply) (rise : ℕ) → reply ≡ Number b.received → HasRisen layout b (caught_up layout b) → BackupIsAt files layout s.primary.trail (caught_up layout b) turned.now →
        Follows files layout s (used_by old.session line.End) line.End rise reply (with_site old name site system.Closed)
    end_good reply rise e r h = follow_at turned layout s (rests name is) system.Closed (used_by old.session line.End) only_here rise reply s ([], refl) (caught_up layout b) Closed
        (may s ([], refl), subst (λ (x : Reply). StepEnds layout s line.End x (with_session (with_backup s name (caught_up layout b)) Closed)) (sym e) (end_well layout s o opened_is.is name k.node_is backup_is k.met)) h tt
        (inl ((λ f. never (sym e ∙ f)), refl)) (λ node f. absurd (never (sym e ∙ f)))
        (λ ne. leave_at turned layout s (rests name is) system.Closed (beside t) (caught_up layout b) (caught_up layout b) Closed (Open o) (with_session (with_backup s name (caught_up layout b)) (Open o))
        (drift_risen layout s o opened_is.is name k.node_is backup_is k.met laws.rise (caught_up layout b) r) (Before refl) (now_stands turned layout s (rests name is) t (caught_up layout b) h) (λ n f. f))
      where
        never : {node : Node} → Number b.received ≡ Stopped node → ⊥
        never f = cc

    -- the disk of a volume stopped
    pub end_cut : (reply : Reply) (rise vol : ℕ) → 0 < rise → reply ≡ Stopped name → IsTrue (protects layout vol) → FellRisen files layout s.primary.trail b rise turned.now → Follows files layout s (used_by old.session line.End) line.End rise reply (with_site old name site system.Closed)
    end_cut reply rise vol some e p f =
        let m : State = with_session (with_backup s name (halted_backup rise f.next)) (Open (with_halt o vol)) in
        let drift : Drifts layout s m = drift_halted layout s o opened_is.is name k.node_is backup_is k.met laws.rise laws.stop laws.join f.next rise vol p some f.rise_is in
        follow_at turned layout s (rests name is) system.Closed (used_by old.session line.End) only_here rise reply m drift (backup_fallen rise f.next) Closed
        (may m drift, subst (λ (x : Reply). StepEnds layout m line.End x (with_session (with_backup s name (backup_fallen rise f.next)) Closed)) (sym e) (end_halted layout s o opened_is.is name k.node_is backup_is f.next rise vol p k.many)) f.at tt
        (inr (e, ap (λ n. count_u64 (n + rise)) (risen_stops layout b f.next f.rise_is))) (λ node g. used_is ∙ ap (λ (n : Node). Some n) (stopped_is name node (sym e ∙ g)))
        (λ ne. leave_at turned layout s (rests name is) system.Closed (beside t) (backup_fallen rise f.next) (halted_backup rise f.next) Closed (Open (with_halt o vol)) m drift (Before refl)
        (site_turned files layout s.primary.trail f.next.up (count_u64 (f.next.stops + rise)) (backup_fallen rise f.next) site (now_stands turned layout s (rests name is) t (backup_fallen rise f.next) f.at)) (λ n g. g))

-- the line that opens one

-- where nothing refuses it, the backup is up and runs
runs_now : (up : Bool) (volumes : Volumes) → first (when (not up) no.Down ∷ when (is_taking volumes) no.Taking ∷ when (is_taken volumes) no.Taken ∷ []) ≡ None → (up ≡ true) × (is_running volumes ≡ true)
runs_now true (Running points) e = (refl, refl)
runs_now true Taking e = some_none e
runs_now true (Taken upto) e = some_none e
runs_now false volumes e = some_none e

-- nothing but these refuses a session
barred_so : (b : Backup) (why : NoWhy) → needs_running b ≡ Some why → why ≡ why_of (as_bar why)
barred_so b why e = by b.up b.volumes e
  where
    kept : (of : NoWhy) → of ≡ why_of (as_bar of) → Some of ≡ Some why → why ≡ why_of (as_bar why)
    kept of same f = subst (λ (w : NoWhy). w ≡ why_of (as_bar w)) (some_is f) same
      where
        some_is : Some of ≡ Some why → of ≡ why
        some_is g = cc

    by : (up : Bool) (volumes : Volumes) → first (when (not up) no.Down ∷ when (is_taking volumes) no.Taking ∷ when (is_taken volumes) no.Taken ∷ []) ≡ Some why → why ≡ why_of (as_bar why)
    by false volumes f = kept no.Down refl f
    by true (Running points) f = none_some f
    by true Taking f = kept no.Taking refl f
    by true (Taken upto) f = kept no.Taken refl f

whole_points : (layout : Layout) (trail : List Record) (received kept : ℕ) (volumes : Volumes) → is_running volumes ≡ true → AreSound layout trail received kept volumes → length (points_in layout trail volumes) ≡ length layout.protect
whole_points layout trail received kept (Running points) e h = h.whole
whole_points layout trail received kept Taking e h = not_so e
whole_points layout trail received kept (Taken upto) e h = not_so e

module _ {D : Type 0} {d : Ghosts D} {tells : Type 0} {files : D → Disk} {counts : D → Counts} {old : System D d} (name : Node) (site : Site D d) (Holds : Layout → Around → Backup → Type 0) (serves : MayServe tells files counts old) (placed : is_backup old.layout name ≡ true)
    (fits : fits_session (node_of old.session) (line.Session name) ≡ true) (beside : tells → Beside files old) (suits : tells → (layout : Layout) (s : State) → IsAtState files layout s old → Holds layout (about layout s (line.Session name)) (at s.backups name)) where
  abbrev l : Line
  l = line.Session name

  none_is : {X : Type 0} {node : Node} → (let x : Option Node = None in x) ≡ Some node → X
  none_is {node = node} e = none_some e

  asked_session : (result : Result Reply NodeFault) → SiteDoes tells files counts old.layout (backup.PerformsWhere files Holds l result) l result (site_at old name) site → Asked tells files counts old name (backup.PerformsWhere files Holds l result) l result site
  asked_session result does = record {
    serves = serves;
    placed = placed;
    only = λ node e. none_is e;
    ended = λ e. absurd (never e);
    own = tt;
    on = refl;
    does = does;
  }
    where
      never : l ≡ line.End → ⊥
      never e = cc

  module _ {result : Result Reply NodeFault} (asked : Asked tells files counts old name (backup.PerformsWhere files Holds l result) l result site) (t : tells) (layout : Layout) (s : State) (is : IsAtState files layout s old) where
    abbrev it : Backup
    it = at s.backups name

    same_but : (session : Session) → with_session (with_backup s name it) session ≡ with_session s session
    same_but session = ap (λ (x : State). with_session x session) (put_back s name)

    -- it leaves the backup, and the session is this one
    session_follows : (reply : Reply) (rise : ℕ) (new : Backup) (session : Session) → new ≡ it → ((node : Node) → reply ≡ Stopped node → ⊥) → StepEnds layout s l reply (with_session s session) → IsSession layout s.backups session (begun name reply) →
        BackupIsAt files layout s.primary.trail new (here asked).now → Follows files layout s (used_by old.session l) l rise reply (with_site old name site (begun name reply))
    session_follows reply rise new session e none step of h =
        let g : BackupIsAt files layout s.primary.trail it (here asked).now = subst (λ (x : Backup). BackupIsAt files layout s.primary.trail x (here asked).now) e h in
        follow_at (turned asked) layout s (rests name is) (begun name reply) (used_by old.session l) (λ node e. none_is e) rise reply s ([], refl) it session (allowed_at l is placed fits, subst (λ (x : State). StepEnds layout s l reply x) (sym (same_but session)) step) g
        (subst (λ (x : Each Backup). IsSession layout x session (begun name reply)) (sym (ap (λ (x : State). x.backups) (put_back s name))) of)
        (inl (none name, refl)) (λ node f. absurd (none node f))
        (λ ne. leave_at (turned asked) layout s (rests name is) (begun name reply) (beside t) it it session s.session s ([], refl) (Before (same_but s.session)) (now_stands (turned asked) layout s (rests name is) t it g) (λ n f. f))

    session_done : (reply : Reply) (rise : ℕ) (new : Backup) → BackupIsAt files layout s.primary.trail new (here asked).now → (r : Option NoWhy) → needs_running it ≡ r → IsDone r (λ why. it) it (λ (x : Reply). x ≡ Number it.received) reply new →
        Follows files layout s (used_by old.session l) l rise reply (with_site old name site (begun name reply))
    session_done reply rise new h (Some why) e d = session_follows reply rise new (Refused name why) d.1 (λ node f. never (sym d.0 ∙ f))
        (subst (λ (x : Reply). StepEnds layout s l x (with_session s (Refused name why))) (sym d.0) ([], tt, Whole (subst (λ (o : Option NoWhy). IsDone o (λ w. with_session s (Refused name w)) (with_session s (Open (opened name (points_in layout s.primary.trail it.volumes)))) (λ (x : Reply). x ≡ Number it.received) (No why) (with_session s (Refused name why))) (sym e) (refl, refl))))
        (subst (λ (x : Reply). IsSession layout s.backups (Refused name why) (begun name x)) (sym d.0) (refl, barred_so it why e)) h
      where
        never : {node : Node} → No why ≡ Stopped node → ⊥
        never f = cc
    session_done reply rise new h None e d = session_follows reply rise new (Open o) d.1 (λ node f. never (sym d.0 ∙ f))
        (subst (λ (x : Reply). StepEnds layout s l x (with_session s (Open o))) (sym d.0) ([], tt, Whole (subst (λ (r : Option NoWhy). IsDone r (λ w. with_session s (Refused name w)) (with_session s (Open o)) (λ (x : Reply). x ≡ Number it.received) (Number it.received) (with_session s (Open o))) (sym e) (refl, refl))))
        (subst (λ (x : Reply). IsSession layout s.backups (Open o) (begun name x)) (sym d.0) open_now_is) h
      where
        o : Opened
        o = opened name (points_in layout s.primary.trail it.volumes)

        never : {node : Node} → Number it.received ≡ Stopped node → ⊥
        never f = cc

        on : (it.up ≡ true) × (is_running it.volumes ≡ true)
        on = runs_now it.up it.volumes e

        open_now_is : IsOpen layout s.backups o name false
        open_now_is = record {
          node_is = refl;
          placed = backup_node_is old.layout name placed;
          many = length-map (points_in layout s.primary.trail it.volumes) (λ (p : ℕ). false) ∙ whole_points layout s.primary.trail it.received (kept_of it) it.volumes on.1 (stands_sound (turned asked) layout s (rests name is) t it (subst (λ (x : Backup). BackupIsAt files layout s.primary.trail x (here asked).now) d.1 h)).volumes;
          met = none_met (points_in layout s.primary.trail it.volumes);
          up = on.0;
          runs = on.1;
        }

    session_ends : (reply : Reply) (rise : ℕ) → backup.Follows files layout (about layout s l) name it l rise reply (here asked).now → Follows files layout s (used_by old.session l) l rise reply (with_site old name site (begun name reply))
    session_ends reply rise f = go f.step
      where
        go : BackupStep layout (about layout s l) it l reply f.next → Follows files layout s (used_by old.session l) l rise reply (with_site old name site (begun name reply))
        go (Whole done) = session_done reply rise f.next f.at (needs_running it) refl done
        go (Cut node of done off) = none_is of

  pub session_answers : (reply : Reply) → SiteDoes tells files counts old.layout (backup.PerformsWhere files Holds l (Ok reply)) l (Ok reply) (site_at old name) site → Does tells files counts l (Ok reply) old (with_site old name site (begun name reply))
  session_answers reply does = site_answers reply asked (begun name reply) (subst (λ (x : Option Node). IsPlacedAt old.layout x) (sym (begun_node name reply)) placed) refl
      (session_judged (stances_of old) old.layout name placed (here asked).was (here asked).now (phase_there old name (here asked).was (here asked).was-is) reply (here asked).does.kinds) performs
    where
      asked : Asked tells files counts old name (backup.PerformsWhere files Holds l (Ok reply)) l (Ok reply) site
      asked = asked_session (Ok reply) does

      performs : tells → Performs files l (Ok reply) old (with_site old name site (begun name reply))
      performs t layout s rise some risen is = session_ends asked t layout s is reply rise
          (subst (λ (n : Node). backup.Follows files layout (about layout s l) n (at s.backups name) l rise reply (here asked).now) (here asked).of.named
          ((here asked).does.performs t layout (about layout s l) (at s.backups name) rise some (suits t layout s is) (was_at asked layout s is)))

  pub session_fails : (why : NodeFault) → SiteDoes tells files counts old.layout (backup.PerformsWhere files Holds l (Err why)) l (Err why) (site_at old name) site → Does tells files counts l (Err (record { node = name; fault = why })) old (with_site old name site old.session)
  session_fails why does = site_fails why asked performs
    where
      asked : Asked tells files counts old name (backup.PerformsWhere files Holds l (Err why)) l (Err why) site
      asked = asked_session (Err why) does

      performs : tells → Performs files l (Err (record { node = name; fault = why })) old (with_site old name site old.session)
      performs t layout s rise some risen is more count = leave_plain (turned asked) layout s (rests name is) old.session (beside t) more count refl (at s.backups name) s.session s ([], refl) (Before (same_but asked t layout s is s.session))
          (then_stands (turned asked) layout s (rests name is) (((here asked).does.performs t layout (about layout s l) (at s.backups name) rise some (suits t layout s is) (was_at asked layout s is)).before refl)) (λ n e. e)
