-- The sites of a system as an open session shows it.
use Rattle.std.proofs.Common.{◌≡◌, ◌⊎◌, inl, inr, ℕ, true, false, List, Option, Some, None, is_some, refl, sym, ap, ◌∙◌, subst}
use Rattle.std.specs.Prelude.{MatchOption}
use Rattle.rdf_types.specs.declared.layout.Layout.{Layout}
use Rattle.rdf_types.specs.declared.records.Node.{Node}
use Rattle.rdf_types.specs.declared.records.Record.{Record}
use Rattle.rdf_disk.specs.Files.{Disk}
use Rattle.rdf_disk.specs.Counts.{Counts}
use Rattle.rdf_disk.specs.declared.disk.Disk.{Ghosts}
use Rattle.plan_lang.specs.LineText.{same_node}
use Rattle.rdf_core.specs.Allowed.{is_backup}
use Rattle.image_disks.specs.Values.{received}
use Rattle.rdf_core.specs.Backup.{Backup}
use Rattle.by_node.specs.Each.{Each, at, at-with_at, with_at-again}
use Rattle.rdf_core.specs.NodeLaws.{at_other}
use Rattle.rdf_core.specs.State.{State, blank_backup}
use Rattle.rdf_backup.specs.declared.backup.Backup.{Backup as Part}
use Rattle.rdf_backup.specs.Sessions.{Open}
use Rattle.rdf_backup.specs.States.{value_of, state_of}
use Rattle.backup_node.specs.declared.node.BackupNode.{BackupNode}
use Rattle.backup_node.specs.Moves.{phase_among}
use Rattle.backup_node.specs.Nodes.{IsAt as BackupIsAt, IsUpAt, MayServe as NodeMayServe}
use Rattle.backup_node.specs.Open.{in_open}
use Rattle.rdf_system.specs.declared.session.SessionState.{SessionState}
use Rattle.rdf_system.specs.declared.site.Site.{Site}
use Rattle.rdf_system.specs.declared.system.System.{System}
use Rattle.rdf_system.specs.Moves.{phase_in}
use Rattle.rdf_system.specs.NodeLines.{site_at, with_site, HasReceived}
use Rattle.rdf_system.specs.Opened.{site_in, shown_in, MayLend}
use Rattle.rdf_system.specs.States.{MayServe, SiteMayServe, IsAtSite, IsAtState, IsNodeOf, IsWholeSite}
use Rattle.rdf_system.proofs.PlaceLaws.{some_none}
use Rattle.rdf_system.proofs.Telling.{either, same_is}

module _ {D : Type 0} {d : Ghosts D} (n : BackupNode D d) (sys : System D d) where
  -- a site with the node as the session shows it
  abbrev pub lent_site : Open D d → Site D d → Site D d
  lent_site o site = site_in o n site

  pub site_shown : (o : Open D d) → site_at (shown_in o n sys) n.name ≡ lent_site o (site_at sys n.name)
  site_shown o = at-with_at sys.sites n.name (lent_site o (site_at sys n.name))

  -- any site in its place
  pub shown_with : (o : Open D d) (site : Site D d) (ss : SessionState) → with_site (shown_in o n sys) n.name site ss ≡ record (with_site sys n.name site sys.session) { session = ss }
  shown_with o site ss = ap (λ (sites : Each (Site D d)). let x : System D d = record sys { sites = sites; session = ss } in x) (with_at-again sys.sites n.name (lent_site o (site_at sys n.name)) site)

  -- another session in its place, and what the system notes of it
  pub shown_behind : (o p : Open D d) (ss : SessionState) → with_site (shown_in o n sys) n.name (lent_site p (site_at sys n.name)) ss ≡ shown_in p n (record sys { session = ss })
  shown_behind o p ss = shown_with o (lent_site p (site_at sys n.name)) ss

  -- what may be used of the system may be used of the node
  pub node_serves : (tells : Type 0) (files : D → Disk) (counts : D → Counts) (o : Open D d) → MayServe tells files counts (shown_in o n sys) → NodeMayServe tells files counts (in_open o n)
  node_serves tells files counts o serves = subst (λ (x : Site D d). SiteMayServe tells files counts x) (site_shown o) (serves.sites n.name)

  -- it is the layout's node of that name
  pub node_is : (tells : Type 0) (files : D → Disk) (counts : D → Counts) (o : Open D d) → MayServe tells files counts (shown_in o n sys) → IsNodeOf sys.layout n.name (in_open o n)
  node_is tells files counts o serves = (subst (λ (x : Site D d). IsWholeSite sys.layout n.name x) (site_shown o) (serves.whole.sites n.name)).node

  -- the backup that is shown is up at the state that the system is at
  pub up_at : (files : D → Disk) (layout : Layout) (s : State) (o : Open D d) → IsAtState files layout s (shown_in o n sys) → IsUpAt files layout s.primary.trail (at s.backups n.name) o.shown
  up_at files layout s o is = subst (λ (x : Site D d). IsAtSite files layout s.primary.trail (at s.backups n.name) x) (site_shown o) (is.sites n.name)

-- the node is up just where it has a phase
pub up_there : {D : Type 0} {d : Ghosts D} (b : Option (Part D d)) → is_some (phase_among b) ≡ is_some b
up_there None = refl
up_there (Some p) = refl

-- how far a backup is that the layout has

-- the node that is out of its site is the session's
module _ {D : Type 0} {d : Ghosts D} {tells : Type 0} {files : D → Disk} {counts : D → Counts} (n : BackupNode D d) (sys : System D d) (o : Open D d) (lends : MayLend tells files counts n sys) (name : Node) (placed : is_backup sys.layout name ≡ true) where
  near_is : (site_at sys name).node ≡ None → n.name ≡ name
  near_is e = go (either (same_node n.name name))
    where
      go : ((same_node n.name name ≡ true) ⊎ (same_node n.name name ≡ false)) → n.name ≡ name
      go (inl near) = same_is n.name name near
      go (inr far) = absurd (subst (λ (x : Option (BackupNode D d)). MatchOption x ⊥ (λ other. Unit {0})) e (lends.others name placed far))

  far_is : (other : BackupNode D d) → (site_at sys name).node ≡ Some other → same_node n.name name ≡ false
  far_is other e = go (either (same_node n.name name))
    where
      go : ((same_node n.name name ≡ true) ⊎ (same_node n.name name ≡ false)) → same_node n.name name ≡ false
      go (inl near) = some_none (sym e ∙ ap (λ (m : Node). (site_at sys m).node) (sym (same_is n.name name near)) ∙ lends.away)
      go (inr far) = far

  -- a node at its site is at the state that the system is at
  other_at : (layout : Layout) (s : State) (other : BackupNode D d) → (site_at sys name).node ≡ Some other → IsAtState files layout s (shown_in o n sys) → BackupIsAt files layout s.primary.trail (at s.backups name) other
  other_at layout s other e is = subst (λ (x : Option (BackupNode D d)). MatchOption x ((at s.backups name) ≡ blank_backup layout) (BackupIsAt files layout s.primary.trail (at s.backups name))) e
      (subst (λ (x : Site D d). IsAtSite files layout s.primary.trail (at s.backups name) x) (at_other sys.sites n.name (site_in o n (site_at sys n.name)) name (far_is other e)) (is.sites name))

  pub other_received : (other : BackupNode D d) (r : Option ℕ) → (site_at sys name).node ≡ Some other → is_some r ≡ is_some other.backup → (tells → (layout : Layout) (trail : List Record) (b : Backup) → BackupIsAt files layout trail b other → MatchOption r (b.up ≡ false) (λ m. (b.up ≡ true) × (m ≡ b.received))) →
      HasReceived tells files name r (shown_in o n sys)
  other_received other r e up h = record {
    up = up ∙ sym (up_there other.backup) ∙ ap (λ (x : Option (BackupNode D d)). is_some (phase_in x)) (sym (ap (λ (x : Site D d). x.node) (at_other sys.sites n.name (site_in o n (site_at sys n.name)) name (far_is other e)) ∙ e));
    so_far = λ t layout s is. h t layout s.primary.trail (at s.backups name) (other_at layout s other e is);
  }

  own_at : (m : ℕ) → (site_at sys name).node ≡ None → (tells → m ≡ received (value_of o.shown)) → tells → (layout : Layout) (s : State) → IsAtState files layout s (shown_in o n sys) → ((at s.backups name).up ≡ true) × (m ≡ (at s.backups name).received)
  own_at m e h t layout s is =
      let near : n.name ≡ name = near_is e in
      let up : (at s.backups name) ≡ state_of (at s.backups name).stops o.shown = subst (λ (x : Node). (at s.backups x) ≡ state_of (at s.backups x).stops o.shown) near
      (up_at n sys files layout s o is).state in
      (ap (λ (b : Backup). b.up) up, h t ∙ sym (ap (λ (b : Backup). b.received) up))

  pub own_received : (m : ℕ) → (site_at sys name).node ≡ None → (tells → m ≡ received (value_of o.shown)) → HasReceived tells files name (Some m) (shown_in o n sys)
  own_received m e h = record {
    up = ap (λ (x : Site D d). is_some (phase_in x.node)) (sym (ap (λ (x : Node). site_at (shown_in o n sys) x) (sym (near_is e)) ∙ site_shown n sys o));
    so_far = λ t layout s is. own_at m e h t layout s is;
  }
