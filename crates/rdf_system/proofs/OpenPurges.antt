-- A purge of an open session: answered, as what the system does as the session shows it, and broken off, behind what its volumes rose.
use Rattle.std.proofs.Common.{◌≡◌, Option, Some, Ok, refl, sym, ap, ◌∙◌, subst}
use Rattle.rdf_types.specs.declared.layout.Layout.{Layout}
use Rattle.rdf_types.specs.declared.records.Node.{Node}
use Rattle.rdf_disk.specs.Files.{Disk}
use Rattle.rdf_disk.specs.Counts.{Counts}
use Rattle.rdf_disk.specs.declared.disk.Disk.{Ghosts}
use Rattle.plan_lang.specs.declared.lines.Line.{Line}
use Rattle.plan_lang.specs.declared.lines.Line.TheVariants as line
use Rattle.node_disks.specs.CutLaws.{same_length}
use Rattle.rdf_core.specs.declared.replies.Reply.{Reply}
use Rattle.rdf_core.specs.Backup.{Backup as State}
use Rattle.rdf_core.specs.Rising.{HasRisen}
use Rattle.by_node.specs.Each.{at}
use Rattle.rdf_core.specs.State.{State as Whole}
use Rattle.rdf_backup.specs.Sessions.{Open, HasRisenOpen}
use Rattle.rdf_backup.specs.States.{layout_of as backup_layout, state_of}
use Rattle.backup_node.specs.declared.node.BackupNode.{BackupNode}
use Rattle.backup_node.specs.Nodes.{disks_at as backup_disks, IsUpAt}
use Rattle.backup_node.specs.Open.{in_open, PurgedAt, PurgesIn, IsRisen}
use Rattle.rdf_system.proofs.Judging.{backup_judged, phase_there}
use Rattle.rdf_system.specs.declared.site.Site.{Site}
use Rattle.rdf_system.specs.declared.system.System.{System}
use Rattle.rdf_system.specs.Lines.{EachUsed, IsCaused, Keeps}
use Rattle.rdf_system.specs.NodeLines.{BackupDoes, about, with_site}
use Rattle.rdf_system.specs.Noting.{noted, noted_node}
use Rattle.rdf_system.specs.OpenLines.{DoesOpen, PerformsFed, HasDrifted}
use Rattle.rdf_system.specs.Opened.{OpenView, shown, shown_in, IsOpenAt, IsFedAt}
use Rattle.rdf_system.specs.Sessions.{IsPlacedAt}
use Rattle.rdf_system.specs.States.{IsNodeOf, MayServe, IsAtState}
use Rattle.rdf_system.proofs.Moving.{each_used}
use Rattle.rdf_system.proofs.OnLines.{Lifts, LiftsCut, PresentGo}
use Rattle.rdf_system.proofs.OnSite.{Asked, Beside, here, turned, was_at, site_keeps}
use Rattle.rdf_system.proofs.OpenKeeps.{left_it}
use Rattle.rdf_system.proofs.OpenOwn.{site, site_did}
use Rattle.rdf_system.proofs.RisenSteps.{between, drifts, counted, between_at, answered_there}
use Rattle.rdf_system.proofs.SessionReads.{Laws}
use Rattle.rdf_system.proofs.ShownSites.{node_is, node_serves, site_shown, shown_behind, up_at}
use Rattle.rdf_system.proofs.SiteDisks.{Swapped, moves, serves_on}
use Rattle.rdf_system.proofs.SiteStates.{Turned}
use Rattle.rdf_system.proofs.SiteValues.{NodesStand, site_stands}
use Rattle.rdf_system.specs.Stances.{stances_of}

-- ---- it was answered

module _ {D : Type 0} {d : Ghosts D} {tells : Type 0} {files : D → Disk} {counts : D → Counts} (x : OpenView D d) (is_open : IsOpenAt tells files counts x) (new : Open D d) (stand : NodesStand d files) (others : tells → Beside files (shown x)) (laws : Laws) (lifts : Lifts) (cuts : LiftsCut) (go_by : PresentGo) (reply : Reply) where
  abbrev name : Node
  name = x.node.name

  abbrev l : Line
  l = line.Purge name

  -- how the node does it
  abbrev Goes : BackupNode D d → BackupNode D d → Type 0
  Goes = PurgesIn files x.session reply

  abbrev After : System D d
  After = with_site (shown x) name (site x is_open new stand) (noted x.system.session reply)

  module _ (does : BackupDoes tells files counts x.system.layout Goes l (Ok reply) (in_open x.session x.node) (in_open new x.node)) where
    asked : Asked tells files counts (shown x) name Goes l (Ok reply) (site x is_open new stand)
    asked = record {
      serves = is_open.serves;
      placed = is_open.placed;
      only = λ node e. some_is node e;
      ended = λ e. absurd (never e);
      own = tt;
      on = refl;
      does = site_did x is_open new stand Goes l (Ok reply) does;
    }
      where
        some_is : (node : Node) → Some name ≡ Some node → node ≡ name
        some_is node e = cc

        never : l ≡ line.End → ⊥
        never e = cc

    kept : Keeps tells files counts (IsCaused counts l (Ok reply) (shown x) After) l (Ok reply) (shown x) After
    kept = site_keeps reply asked (noted x.system.session reply) (subst (λ (o : Option Node). IsPlacedAt x.system.layout o) (sym (noted_node x.system.session reply)) is_open.serves.whole.session) refl
        (backup_judged (stances_of (shown x)) (shown x).layout name is_open.placed (in_open x.session x.node) (in_open new x.node) (phase_there (shown x) name (in_open x.session x.node) (ap (λ (s : Site D d). s.node) (site_shown x.node x.system x.session))) l refl (λ from e. cc) (λ e. cc) reply does.kinds)

    goes : tells → PerformsFed files x.session l (Ok reply) (shown x) After
    goes t layout s rise some risen fed is = answered_there is_open laws (turned asked) t layout s is how.next how.rise_is others lifts cuts go_by l refl refl reply rise risen how.follows
      where
        how : PurgedAt files layout (about layout s l) name (at s.backups name) rise reply (here asked).now
        how = subst (λ (n : Node). PurgedAt files layout (about layout s l) n (at s.backups name) rise reply (here asked).now) (here asked).of.named
            ((here asked).does.performs t layout (about layout s l) (at s.backups name) rise some fed (was_at asked layout s is))

    pub purge_open : DoesOpen tells files counts l (Ok reply) x (record { session = new; node = x.node; system = record x.system { session = noted x.system.session reply } })
    purge_open = record {
      performs = λ t. subst (λ (y : System D d). PerformsFed files x.session l (Ok reply) (shown x) y) behind_is (goes t);
      keeps = subst (λ (y : System D d). Keeps tells files counts (IsCaused counts l (Ok reply) (shown x) y) l (Ok reply) (shown x) y) behind_is kept;
    }
      where
        behind_is : After ≡ shown_in new x.node (record x.system { session = noted x.system.session reply })
        behind_is = shown_behind x.node x.system x.session new (noted x.system.session reply)

-- ---- its volumes have risen, and it was broken off

module _ {D : Type 0} {d : Ghosts D} {tells : Type 0} {files : D → Disk} {counts : D → Counts} (x : OpenView D d) (is_open : IsOpenAt tells files counts x) (new : Open D d) (stand : NodesStand d files) (r : IsRisen tells files counts x.node x.session new) (laws : Laws) where
  was_of : IsNodeOf x.system.layout x.node.name (in_open x.session x.node)
  was_of = node_is x.node x.system tells files counts x.session is_open.serves

  swapped : Swapped tells files counts (shown x) x.node.name (in_open x.session x.node) (in_open new x.node) (site x is_open new stand)
  swapped = record {
    serves = is_open.serves;
    placed = is_open.placed;
    was-is = ap (λ (s : Site D d). s.node) (site_shown x.node x.system x.session);
    now-is = refl;
    was_serves = node_serves x.node x.system tells files counts x.session is_open.serves;
    was_of = was_of;
    now_serves = r.serves;
    now_of = record { placed = was_of.placed; named = was_of.named; sized = was_of.sized; laid = r.laid ∙ was_of.laid };
    same = same_length (λ i p q. counts q ≡ counts p) (backup_disks (in_open x.session x.node)) (backup_disks (in_open new x.node)) r.counts_are;
    spare = ap (λ (s : Site D d). s.spare) (sym (site_shown x.node x.system x.session));
    room = ap (λ (s : Site D d). s.room) (sym (site_shown x.node x.system x.session));
  }

  abbrev turned_so : Turned tells files (shown x) x.node.name (site x is_open new stand)
  turned_so = record { placed = is_open.placed; now = in_open new x.node; now-is = refl; stands = λ t. site_stands files stand (site x is_open new stand) }

  behind_is : with_site (shown x) x.node.name (site x is_open new stand) x.system.session ≡ shown (left_it x new)
  behind_is = shown_behind x.node x.system x.session new x.system.session

  pub risen_serves : MayServe tells files counts (shown (left_it x new))
  risen_serves = subst (λ (y : System D d). MayServe tells files counts y) behind_is (serves_on swapped x.system.session is_open.serves.whole.session)

  pub risen_disks : EachUsed (λ node i p q. counts q ≡ counts p) (shown x) (shown (left_it x new))
  risen_disks = subst (λ (y : System D d). EachUsed (λ node i p q. counts q ≡ counts p) (shown x) y) behind_is
      (each_used x.node.name (backup_disks (in_open x.session x.node)) (backup_disks (in_open new x.node)) (shown x) (with_site (shown x) x.node.name (site x is_open new stand) x.system.session) (moves swapped x.system.session)
      (λ node i p q. counts q ≡ counts p) (λ i p q. counts q ≡ counts p) (λ i p q k. k) (λ node far i p. refl) r.counts_are)

  -- what its node is at then
  abbrev at_node : Whole → State
  at_node s = state_of (at s.backups x.node.name).stops new.shown

  pub risen_at : tells → (layout : Layout) (s : Whole) → IsAtState files layout s (shown x) → IsFedAt s x → HasDrifted files layout s (left_it x new)
  risen_at t layout s is fed = record {
    next = between is_open laws turned_so t layout s is (at_node s) rise_is;
    drifts = drifts is_open laws turned_so t layout s is (at_node s) rise_is;
    stops = counted is_open laws turned_so t layout s is (at_node s) rise_is;
    at = subst (λ (y : System D d). IsAtState files layout (between is_open laws turned_so t layout s is (at_node s) rise_is) y) behind_is (between_at is_open laws turned_so t layout s is (at_node s) rise_is up);
    fed = h.fed;
  }
    where
      u : IsUpAt files layout s.primary.trail (at s.backups x.node.name) x.session.shown
      u = up_at x.node x.system files layout s x.session is

      h : HasRisenOpen files s.primary.trail x.session new
      h = r.risen t s.primary.trail u.serves fed

      rise_is : HasRisen layout (at s.backups x.node.name) (at_node s)
      rise_is = subst (λ (y : Layout). HasRisen y (at s.backups x.node.name) (at_node s)) u.laid (subst (λ (b : State). HasRisen (backup_layout x.session.shown) b (at_node s)) (sym u.state) (h.rise (at s.backups x.node.name).stops))

      up : IsUpAt files layout s.primary.trail (at_node s) new.shown
      up = record { laid = r.laid ∙ u.laid; state = refl; serves = h.serves }
