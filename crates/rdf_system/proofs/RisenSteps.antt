-- Steps of the machine from a state in whose session volumes rose, as steps from the state before.
use Rattle.std.proofs.Common.{◌≡◌, ℕ, ◌+◌, true, false, if◌then◌else◌, List, Option, Some, None, refl, sym, ap, ◌∙◌, subst, arith}
use Rattle.rdf_types.specs.declared.layout.Layout.{Layout}
use Rattle.rdf_types.specs.declared.records.Node.{Node}
use Rattle.rdf_types.specs.declared.records.Node.TheVariants.{B}
use Rattle.rdf_disk.specs.Files.{Disk}
use Rattle.rdf_disk.specs.Counts.{Counts}
use Rattle.rdf_disk.specs.declared.disk.Disk.{Ghosts}
use Rattle.plan_lang.specs.LineText.{same_node}
use Rattle.plan_lang.specs.declared.lines.Line.{Line}
use Rattle.plan_lang.specs.declared.lines.Line.TheVariants as line
use Rattle.rdf_core.specs.declared.replies.Reply.{Reply}
use Rattle.rdf_core.specs.Backup.{Backup, Volumes, Running, Around, backup_refusal, deliver_refusal, needs_volumes, with_volumes, points_in}
use Rattle.rdf_core.specs.Effects.{count_u64}
use Rattle.rdf_core.specs.Rising.{HasRisen}
use Rattle.rdf_core.specs.Run.{Drifts}
use Rattle.rdf_core.specs.SessionLaws.{same_self}
use Rattle.rdf_core.specs.Allowed.{is_backup, has_names}
use Rattle.rdf_core.specs.Sessions.{Session, Open, Opened}
use Rattle.rdf_core.specs.Sound.{HaveRisen, NoneHasFallen}
use Rattle.by_node.specs.Each.{at, with_at, at-with_at, with_at-keeps}
use Rattle.rdf_core.specs.State.{State, with_backup, with_session, by_node}
use Rattle.rdf_core.specs.Step.{BackupStep, disks_of, is_of_session}
use Rattle.rdf_backup.specs.Replies.{BreaksTrails}
use Rattle.rdf_backup.specs.States.{state_of}
use Rattle.backup_node.specs.declared.node.BackupNode.{BackupNode}
use Rattle.backup_node.specs.Closing.{around_at}
use Rattle.backup_node.specs.Lines as backup
use Rattle.rdf_system.specs.declared.session.SessionState.{SessionState}
use Rattle.rdf_system.specs.declared.session.SessionState.TheVariants as system
use Rattle.rdf_system.specs.declared.system.System.{System}
use Rattle.rdf_system.specs.Lines.{stops_in, counts_stop, Follows, Leaves}
use Rattle.rdf_system.specs.Noting.{noted}
use Rattle.rdf_system.specs.AllowedLaws.{line_allowed}
use Rattle.rdf_system.specs.Sessions.{node_of, used_by, IsSession}
use Rattle.rdf_system.specs.States.{IsAtState, IsAtSite}
use Rattle.rdf_system.proofs.OnLines.{Lifts, LiftsCut, PresentGo, answered, broken_off}
use Rattle.rdf_system.proofs.PlaceLaws.{not_so}
use Rattle.rdf_system.proofs.Reading.{Joins, drift_risen}
use Rattle.rdf_system.proofs.ShownSites.{up_at}
use Rattle.rdf_system.proofs.SiteParts.{stays}
use Rattle.backup_node.specs.Nodes.{IsUpAt, IsAt as BackupIsAt}
use Rattle.rdf_system.specs.declared.site.Site.{Site}
use Rattle.rdf_system.specs.NodeLines.{is_of_backup, about, with_site, site_at}
use Rattle.rdf_system.specs.Opened.{OpenView, shown, IsOpenAt}
use Rattle.rdf_system.proofs.ClosedLeft.{fine, is_up, opened_is, placed_too}
use Rattle.rdf_system.proofs.SessionReads.{Laws, open_now, risen_runs, risen_stops, risen_up}
use Rattle.rdf_system.proofs.SiteStates.{Beside, Rests, Turned, at_state, rests}
use Rattle.plan_lang.specs.Sessions.{fits_session}
use Rattle.rdf_core.specs.NodeLaws.{at_other}

-- ---- from the state between to the state before

module _ {D : Type 0} {d : Ghosts D} (files : D → Disk) (layout : Layout) (s mid : State) (l : Line) (new : System D d) (join : Joins) (drifts : Drifts layout s mid) (same : (node : Node) → stops_in mid node ≡ stops_in s node) where
  leaves_over : (counted : State) (more : Node → ℕ) → Leaves files layout mid l counted more new → Leaves files layout s l counted more new
  leaves_over counted more h = record { mid = h.mid; drifts = join layout s mid h.mid drifts h.drifts; left = h.left; leaves = h.leaves; stands = h.stands; stops = h.stops }

  pub leaves_from : (more : Node → ℕ) → Leaves files layout mid l mid more new → Leaves files layout s l s more new
  leaves_from more h = record {
    mid = h.mid;
    drifts = join layout s mid h.mid drifts h.drifts;
    left = h.left;
    leaves = h.leaves;
    stands = h.stands;
    stops = λ node n e. h.stops node n (same node ∙ e);
  }

  pub follows_from : (used : Option Node) (rise : ℕ) (reply : Reply) → Follows files layout mid used l rise reply new → Follows files layout s used l rise reply new
  follows_from used rise reply f = record {
    mid = f.mid;
    drifts = join layout s mid f.mid drifts f.drifts;
    next = f.next;
    step = f.step;
    at = f.at;
    stops = λ node. subst (λ n. stops_in f.next node ≡ (if counts_stop used node reply then count_u64 (n + rise) else n)) (same node) (f.stops node);
    told = f.told;
    leaves = λ ne. leaves_over f.next (λ node. 0) (f.leaves ne);
  }

-- volumes that rise count no stops
pub stops_same : (s : State) (name : Node) (next : Backup) (session : Session) → next.stops ≡ (at s.backups name).stops → (node : Node) → stops_in (with_session (with_backup s name next) session) node ≡ stops_in s node
stops_same s name next session e node = ap (λ (n : ℕ). by_node node s.primary.stops n) (with_at-keeps (λ of (x : Backup). x.stops ≡ (at s.backups of).stops) s.backups name next (λ of. refl) e node)

-- no point of it has fallen
pub none_fell : (layout : Layout) (s : State) (o : Opened) (name : Node) (next : Backup) → o.node ≡ name → HasRisen layout (at s.backups name) next → NoneHasFallen layout s (Open o) → NoneHasFallen layout (with_session (with_backup s name next) (Open o)) (Open o)
none_fell layout s o name next of rise h = subst (λ (n : Node). HaveRisen layout o (at s.backups n).volumes → HaveRisen layout o (at (with_at s.backups name next) n).volumes) (sym of) here h
  where
    here : HaveRisen layout o (at s.backups name).volumes → HaveRisen layout o (at (with_at s.backups name next) name).volumes
    here k = subst (λ (b : Backup). HaveRisen layout o b.volumes) (sym (at-with_at s.backups name next)) (subst (λ (b : Backup). HaveRisen layout o b.volumes) (sym rise.is)
        (λ v p. let was = subst (λ (x : Volumes). HaveRisen layout o x) rise.was k in let low = was v p in let up = (rise.rise.rise v p).0 in omega (arith, low, up)))

-- the rest of the system is as it was
pub rests_with : {D : Type 0} {d : Ghosts D} {files : D → Disk} {layout : Layout} (s : State) (name : Node) (next : Backup) (session : Session) {old : System D d} → Rests files layout s name old → Rests files layout (with_session (with_backup s name next) session) name old
rests_with {files = files} {layout = layout} s name next session {old = old} is = record {
  laid = is.laid;
  primary = is.primary;
  senders = is.senders;
  others = λ node far. subst (λ (b : Backup). IsAtSite files layout s.primary.trail b (site_at old node)) (sym (at_other s.backups name next node far)) (is.others node far);
}

-- ---- a delivery or a purge at the state between

-- it does not ask for the lead of a copy
abbrev with_lead : Around → Backup → Around
with_lead w lead = record w { lead = lead }

module _ (layout : Layout) (w : Around) (lead : Backup) (name : Node) (b : Backup) where
  step_lead : (l : Line) (reply : Reply) (new : Backup) → is_of_session l ≡ true → BackupStep layout w b l reply new → BackupStep layout (with_lead w lead) b l reply new
  step_lead (line.Deliver node k) reply new on step = step
  step_lead (line.Purge node) reply new on step = step
  step_lead _ reply new on step = not_so on

  follows_lead : {D : Type 0} {d : Ghosts D} (files : D → Disk) (l : Line) (rise : ℕ) (reply : Reply) (new : BackupNode D d) → is_of_session l ≡ true → backup.Follows files layout w name b l rise reply new → backup.Follows files layout (with_lead w lead) name b l rise reply new
  follows_lead files l rise reply new on f = record { next = f.next; step = step_lead l reply f.next on f.step; at = f.at; stops = f.stops }

  breaks_lead : {D : Type 0} {d : Ghosts D} (files : D → Disk) (l : Line) (new : BackupNode D d) → is_of_session l ≡ true → backup.Breaks files layout w b l new → backup.Breaks files layout (with_lead w lead) b l new
  breaks_lead files (line.Deliver node k) new on f = record { done = f.done; few = f.few; at = f.at; before = f.before; unrefused = λ e. not_so e }
  breaks_lead files (line.Purge node) new on f = record { done = f.done; few = f.few; at = f.at; before = f.before; unrefused = λ e. not_so e }
  breaks_lead files _ new on f = not_so on

-- what is around the line there
about_between : (layout : Layout) (s : State) (name : Node) (next : Backup) (session : Session) (l : Line) → is_of_session l ≡ true → is_of_backup name l →
    about layout (with_session (with_backup s name next) session) l ≡ with_lead (around_at layout (about layout s l) next l) (at (with_at s.backups name next) B)
about_between layout s name next session (line.Deliver node k) on of = refl
about_between layout s name next session (line.Purge node) on of = subst (λ (n : Node). about layout (with_session (with_backup s name next) session) (line.Purge n) ≡ with_lead (around_at layout (about layout s (line.Purge n)) next (line.Purge n)) (at (with_at s.backups name next) B)) (sym of) (go name)
  where
    go : (n : Node) → about layout (with_session (with_backup s n next) session) (line.Purge n) ≡ with_lead (around_at layout (about layout s (line.Purge n)) next (line.Purge n)) (at (with_at s.backups n next) B)
    go n = ap (λ (x : Backup). let w : Around = record (about layout (with_session (with_backup s n next) session) (line.Purge n)) { points = points_in layout s.primary.trail x.volumes } in w) (at-with_at s.backups n next)
about_between layout s name next session _ on of = not_so on

-- and nothing refuses it there, where nothing did before
running_deliver : (b : Backup) (m : Option (ℕ × ℕ)) (p q : List ℕ) → b.volumes ≡ Running p → deliver_refusal (with_volumes b (Running q)) m ≡ deliver_refusal b m
running_deliver b m p q e = ap (λ (v : Volumes). deliver_refusal (with_volumes b v) m) (sym e)

running_purge : (b : Backup) (p q : List ℕ) → b.volumes ≡ Running p → needs_volumes (with_volumes b (Running q)) ≡ needs_volumes b
running_purge b p q e = ap (λ (v : Volumes). needs_volumes (with_volumes b v)) (sym e)

refusal_between : (layout : Layout) (w : Around) (b next : Backup) (l : Line) → is_of_session l ≡ true → HasRisen layout b next → (lead : Backup) → backup_refusal layout (with_lead (around_at layout w next l) lead) next l ≡ backup_refusal layout w b l
refusal_between layout w b next (line.Deliver node k) on r lead = ap (λ (x : Backup). deliver_refusal x w.message) r.is ∙ running_deliver b w.message r.points r.now_points r.was
refusal_between layout w b next (line.Purge node) on r lead = ap (λ (x : Backup). needs_volumes x) r.is ∙ running_purge b r.points r.now_points r.was
refusal_between layout w b next _ on r lead = not_so on

-- a line of the session's image trails is one of its node
pub own_line : (name : Node) (l : Line) → is_of_session l ≡ true → disks_of l ≡ Some name → is_of_backup name l
own_line name (line.Deliver node k) on of = same of
  where
    same : Some node ≡ Some name → node ≡ name
    same e = cc
own_line name (line.Purge node) on of = same of
  where
    same : Some node ≡ Some name → node ≡ name
    same e = cc
own_line name _ on of = not_so on

-- the layout has the node that it names
own_names : (layout : Layout) (name : Node) (l : Line) → is_of_session l ≡ true → is_of_backup name l → is_backup layout name ≡ true → has_names layout l ≡ true
own_names layout name (line.Deliver node k) on of placed = ap (is_backup layout) of ∙ placed
own_names layout name (line.Purge node) on of placed = ap (is_backup layout) of ∙ placed
own_names layout name _ on of placed = not_so on

-- it stands in the session
pub own_fits : (ss : SessionState) (name : Node) (l : Line) → ss ≡ system.Open name false → is_of_session l ≡ true → is_of_backup name l → fits_session (node_of ss) l ≡ true
own_fits ss name (line.Deliver node k) e on of = ap (λ (x : SessionState). fits_session (node_of x) (line.Deliver node k)) e ∙ ap (λ (n : Node). same_node name n) of ∙ same_self name
own_fits ss name (line.Purge node) e on of = ap (λ (x : SessionState). fits_session (node_of x) (line.Purge node)) e ∙ ap (λ (n : Node). same_node name n) of ∙ same_self name
own_fits ss name _ e on of = not_so on

-- ---- what the node came to from the state between

module _ {D : Type 0} {d : Ghosts D} {tells : Type 0} {files : D → Disk} {counts : D → Counts} {x : OpenView D d} (is_open : IsOpenAt tells files counts x) (laws : Laws) {site : Site D d} (turned : Turned tells files (shown x) x.node.name site) where
  abbrev name : Node
  name = x.node.name

  -- the system with what the node came to
  abbrev behind : SessionState → System D d
  behind ss = with_site (shown x) name site ss

  module _ (t : tells) (layout : Layout) (s : State) (is : IsAtState files layout s (shown x)) (next : Backup) (rise_is : HasRisen layout (at s.backups name) next) where
    abbrev o : Opened
    o = (opened_is is_open layout s is).session

    -- the state behind what rose
    abbrev pub between : State
    between = with_session (with_backup s name next) (Open o)

    pub drifts : Drifts layout s between
    drifts = drift_risen layout s o (opened_is is_open layout s is).is name (opened_is is_open layout s is).open_is.node_is (placed_too is_open layout s is) (fine is_open layout s is) laws.rise next rise_is

    there : Rests files layout between name (shown x)
    there = rests_with s name next (Open o) (rests name is)

    session_there : IsSession layout between.backups (Open o) x.system.session
    session_there = subst (λ (ss : SessionState). IsSession layout between.backups (Open o) ss) (sym is_open.open_is)
        (open_now layout s.backups o name next false (opened_is is_open layout s is).open_is.node_is (placed_too is_open layout s is) (opened_is is_open layout s is).open_is.many (fine is_open layout s is)
        (risen_up layout (at s.backups name) next rise_is ∙ is_up is_open layout s is) (risen_runs layout (at s.backups name) next rise_is))

    pub counted : (node : Node) → stops_in between node ≡ stops_in s node
    counted = stops_same s name next (Open o) (risen_stops layout (at s.backups name) next rise_is)

    -- where the node is up there, so is the system
    pub between_at : BackupIsAt files layout s.primary.trail next turned.now → IsAtState files layout between (behind x.system.session)
    between_at h = at_state turned layout s (rests name is) x.system.session next (Open o) session_there h

    abbrev here : Backup
    here = at between.backups name

    here_is : here ≡ next
    here_is = at-with_at s.backups name next

    module _ (beside : tells → Beside files (shown x)) (lifts : Lifts) (cuts : LiftsCut) (go_by : PresentGo) (l : Line) (session : is_of_session l ≡ true) (of : disks_of l ≡ Some name) where
      on : is_of_backup name l
      on = own_line name l session of

      abbrev lead : Backup
      lead = at (with_at s.backups name next) B

      around_is : about layout between l ≡ with_lead (around_at layout (about layout s l) next l) lead
      around_is = about_between layout s name next (Open o) l session on

      -- it was answered, or cut off
      pub answered_there : (reply : Reply) (rise : ℕ) → NoneHasFallen layout s s.session → backup.Follows files layout (around_at layout (about layout s l) next l) name next l rise reply turned.now → Follows files layout s (used_by x.system.session l) l rise reply (behind (noted x.system.session reply))
      answered_there reply rise none f = follows_from files layout s between l (behind (noted x.system.session reply)) laws.join drifts counted (used_by x.system.session l) rise reply
          (answered turned l on layout between there
          (line_allowed layout s between x.system.session l (own_names layout name l session on (subst (λ (y : Layout). is_backup y name ≡ true) is.laid is_open.placed)) (own_fits x.system.session name l is_open.open_is session on) is.session drifts)
          session_there reply rise t (beside t) lifts cuts (go_by layout between l fallen) (stays x.system.session name l on (own_fits x.system.session name l is_open.open_is session on))
          (subst (λ (w : Around). backup.Follows files layout w name here l rise reply turned.now) (sym around_is)
          (subst (λ (b : Backup). backup.Follows files layout (with_lead (around_at layout (about layout s l) next l) lead) name b l rise reply turned.now) (sym here_is)
          (follows_lead layout (around_at layout (about layout s l) next l) lead name next files l rise reply turned.now session f))))
        where
          fallen : NoneHasFallen layout between (Open o)
          fallen = none_fell layout s o name next (opened_is is_open layout s is).open_is.node_is rise_is (subst (λ (y : Session). NoneHasFallen layout s y) (opened_is is_open layout s is).is none)

      -- it was broken off by a fault
      pub broken_there : BreaksTrails files (about layout s l) l x.session.shown x.session.disk → (more : Node → ℕ) → ((node : Node) → same_node name node ≡ false → more node ≡ 0) → backup.Breaks files layout (around_at layout (about layout s l) next l) next l turned.now → Leaves files layout s l s more (behind x.system.session)
      broken_there left more far f = leaves_from files layout s between l (behind x.system.session) laws.join drifts counted more
          (broken_off turned l on layout between there t (beside t) x.system.session
          (subst (λ (w : Around). backup.Breaks files layout w here l turned.now) (sym around_is)
          (subst (λ (b : Backup). backup.Breaks files layout (with_lead (around_at layout (about layout s l) next l) lead) b l turned.now) (sym here_is)
          (breaks_lead layout (around_at layout (about layout s l) next l) lead name next files l turned.now session f)))
          more far of
          (ap (λ (w : Around). backup_refusal layout w here l) around_is
          ∙ ap (λ (b : Backup). backup_refusal layout (with_lead (around_at layout (about layout s l) next l) lead) b l) here_is
          ∙ refusal_between layout (about layout s l) (at s.backups name) next l session rise_is lead ∙ unrefused))
        where
          u : IsUpAt files layout s.primary.trail (at s.backups name) x.session.shown
          u = up_at x.node x.system files layout s x.session is

          unrefused : backup_refusal layout (about layout s l) (at s.backups name) l ≡ None
          unrefused = ap (λ (b : Backup). backup_refusal layout (about layout s l) b l) u.state ∙ ap (λ (y : Layout). backup_refusal y (about layout s l) (state_of (at s.backups name).stops x.session.shown) l) (sym u.laid) ∙ left.unrefused (at s.backups name).stops
