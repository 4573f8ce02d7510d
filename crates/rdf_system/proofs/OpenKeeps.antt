-- What a line on the session's own node leaves of the session and of what lies beside it.
use Rattle.std.proofs.Common.{◌≡◌, Bool, true, false, Option, Some, None, refl, sym, ap, ◌∙◌, subst}
use Rattle.by_node.specs.Each.{with_at, at, at-map_each}
use Rattle.rdf_disk.specs.Files.{Disk}
use Rattle.rdf_disk.specs.Counts.{Counts}
use Rattle.rdf_disk.specs.declared.disk.Disk.{Ghosts}
use Rattle.plan_lang.specs.declared.lines.Line.{Line}
use Rattle.plan_lang.specs.declared.lines.Line.TheVariants as line
use Rattle.plan_lang.specs.Sessions.{goes_in}
use Rattle.node_disks.specs.CutLaws.{each_same}
use Rattle.rdf_types.specs.declared.layout.Layout.{Layout}
use Rattle.rdf_types.specs.declared.records.Node.{Node}
use Rattle.rdf_types.specs.declared.records.Phase.{Phase}
use Rattle.rdf_types.specs.declared.records.Phase.TheVariants.{Running}
use Rattle.rdf_core.specs.State.{State}
use Rattle.rdf_core.specs.declared.replies.Reply.{Reply}
use Rattle.rdf_core.specs.declared.replies.Reply.TheVariants.{Stopped}
use Rattle.rdf_backup.specs.declared.backup.Backup.{Backup}
use Rattle.rdf_backup.specs.Sessions.{Open, HasCome}
use Rattle.rdf_backup.specs.States.{value_of}
use Rattle.backup_node.specs.Open.{in_open, Runs}
use Rattle.rdf_system.proofs.Judging.{stands_with}
use Rattle.rdf_system.specs.declared.session.SessionState.{SessionState}
use Rattle.rdf_system.specs.declared.session.SessionState.TheVariants as system
use Rattle.rdf_system.specs.declared.system.System.{System}
use Rattle.rdf_system.specs.Lines.{EachUsed}
use Rattle.rdf_system.specs.NodeLines.{site_at}
use Rattle.rdf_system.specs.Noting.{behind, noted}
use Rattle.rdf_system.specs.OpenLines.{IsOwnLine, KeepsLent}
use Rattle.rdf_system.specs.Opened.{OpenView, shown, MayLend, IsOpenAt}
use Rattle.rdf_system.specs.Place.{IfUsed, is_used}
use Rattle.rdf_system.specs.States.{disks_of_node, layout_of, MayServe, IsAtState}
use Rattle.rdf_system.proofs.ShownSites.{lent_site, shown_behind, site_shown}
use Rattle.rdf_system.specs.Moves.{phase_in, MovesAt}
use Rattle.rdf_system.specs.Stances.{stances_of, MovesTo}
use Rattle.rdf_system.proofs.PlaceLaws.{some_none}
use Rattle.rdf_system.proofs.Telling.{no_stop_is, same_is}
use Rattle.rdf_system.specs.declared.site.Site.{Site}

-- a line of the session's node but its first and its last one notes a stop
behind_own : (ss : SessionState) (l : Line) (reply : Reply) → IsOwnLine l → behind ss l reply ≡ noted ss reply
behind_own ss (line.Deliver node k) reply own = refl
behind_own ss (line.Read node key) reply own = refl
behind_own ss (line.Purge node) reply own = refl
behind_own ss _ reply own = absurd own

-- one that was answered while the node runs on did not stop it
none_stopped : (name : Node) (l : Line) (reply : Reply) (p q : Option Phase) → IsOwnLine l → goes_in name l ≡ true → MovesAt name l reply p q → q ≡ Some Running → (node : Node) → reply ≡ Stopped node → ⊥
none_stopped name l reply p q own fits moves runs node e = some_none (sym runs ∙ by l own fits (subst (λ (r : Reply). MovesAt name l r p q) e moves))
  where
    by : (k : Line) → IsOwnLine k → goes_in name k ≡ true → MovesAt name k (Stopped node) p q → q ≡ None
    by (line.Deliver of k) o f m = m.0 (sym (same_is name of f))
    by (line.Read of key) o f m = m.0 (sym (same_is name of f))
    by (line.Purge of) o f m = m.0 (sym (same_is name of f))
    by _ o f m = absurd o

-- the backup of a session runs as it is shown
pub runs_there : {D : Type 0} {d : Ghosts D} (x : OpenView D d) → Runs (in_open x.session x.node) → at (stances_of (shown x)).phases x.node.name ≡ Some Running
runs_there x runs = at-map_each (λ site. phase_in site.node) (shown x).sites x.node.name ∙ ap (λ site. phase_in site.node) (site_shown x.node x.system x.session) ∙ ap (λ p. Some p) runs

-- with another session, and what the system notes of it
abbrev pub noted_it : {D : Type 0} {d : Ghosts D} → OpenView D d → Open D d → SessionState → OpenView D d
noted_it x new ss = record { session = new; node = x.node; system = record x.system { session = ss } }

abbrev pub left_it : {D : Type 0} {d : Ghosts D} → OpenView D d → Open D d → OpenView D d
left_it x new = record { session = new; node = x.node; system = x.system }

-- the system over a backup that is shown
abbrev over : {D : Type 0} {d : Ghosts D} → OpenView D d → Backup D d → System D d
over x b = record x.system { sites = with_at x.system.sites x.node.name (record (site_at x.system x.node.name) { node = Some (record x.node { backup = Some b }) }) }

-- no stop is noted by a line of the session's node that was answered while its backup runs on
pub session_still : {D : Type 0} {d : Ghosts D} {tells : Type 0} {files : D → Disk} {counts : D → Counts} (x : OpenView D d) (new : Open D d) → IsOpenAt tells files counts x → Runs (in_open new x.node) → (l : Line) (reply : Reply) → IsOwnLine l → goes_in x.node.name l ≡ true →
    MovesTo (shown x).layout l reply (stances_of (shown x)) (stances_of (shown (noted_it x new (behind x.system.session l reply)))) → behind x.system.session l reply ≡ x.system.session
session_still x new is_open runs l reply own fits moved = behind_own x.system.session l reply own ∙ ap (λ (ss : SessionState). noted ss reply) is_open.open_is ∙ ap (λ (b : Bool). system.Open x.node.name b) (no_stop_is x.node.name reply none) ∙ sym is_open.open_is
  where
    none : (of : Node) → reply ≡ Stopped of → ⊥
    none = none_stopped x.node.name l reply (at (stances_of (shown x)).phases x.node.name) (at (stances_of (shown (noted_it x new (behind x.system.session l reply)))).phases x.node.name) own fits (moved.phases x.node.name is_open.placed)
        (runs_there (noted_it x new (behind x.system.session l reply)) runs)

-- where the same is shown

module _ {D : Type 0} {d : Ghosts D} (x : OpenView D d) (new : Open D d) (same : new.shown ≡ x.session.shown) where
  pub serves_left : (tells : Type 0) (files : D → Disk) (counts : D → Counts) → MayServe tells files counts (shown x) → MayServe tells files counts (shown (left_it x new))
  serves_left tells files counts serves = subst (λ (b : Backup D d). MayServe tells files counts (over x b)) (sym same) serves

  pub at_left : (files : D → Disk) (layout : Layout) (s : State) → IsAtState files layout s (shown x) → IsAtState files layout s (shown (left_it x new))
  at_left files layout s is = subst (λ (b : Backup D d). IsAtState files layout s (over x b)) (sym same) is

  pub was_left : (files : D → Disk) (layout : Layout) (s : State) → IsAtState files layout s (shown (left_it x new)) → IsAtState files layout s (shown x)
  was_left files layout s is = subst (λ (b : Backup D d). IsAtState files layout s (over x b)) same is

  pub disks_left : (counts : D → Counts) → EachUsed (λ node i p q. counts q ≡ counts p) (shown x) (shown (left_it x new))
  disks_left counts = subst (λ (b : Backup D d). EachUsed (λ node i p q. counts q ≡ counts p) (shown x) (over x b)) (sym same)
      (λ node. each_same (λ i p q. IfUsed (is_used (layout_of (shown x)) node i) (λ a b. counts b ≡ counts a) p q) (disks_of_node (shown x) node) (λ i p. by_use (is_used (layout_of (shown x)) node i) p))
    where
      by_use : (u : Bool) (p : D) → IfUsed u (λ a b. counts b ≡ counts a) p p
      by_use true p = refl
      by_use false p = refl

module _ {D : Type 0} {d : Ghosts D} {tells : Type 0} {files : D → Disk} {counts : D → Counts} (x : OpenView D d) (new : Open D d) where
  pub keeps_left : MayLend tells files counts x.node x.system → ((first : Backup D d) → HasCome counts first x.session → HasCome counts first new) → KeepsLent tells files counts x (left_it x new)
  keeps_left lends comes = record { lends = lends; lent = refl; laid = refl; placed = refl; comes = comes }

  module _ (is_open : IsOpenAt tells files counts x) (since : HasCome counts new.shown new) (phase : (value_of new.shown).phase ≡ (value_of x.session.shown).phase) where
    -- the session is open behind the line
    pub open_left : MayServe tells files counts (shown (left_it x new)) → IsOpenAt tells files counts (left_it x new)
    open_left serves = record {
      serves = serves;
      open_is = is_open.open_is;
      placed = is_open.placed;
      runs = phase ∙ is_open.runs;
      since = since;
    }

-- and the nodes stand as they did where its phase is shown on
pub shown_stands : {D : Type 0} {d : Ghosts D} (x : OpenView D d) (new : Open D d) → (value_of new.shown).phase ≡ (value_of x.session.shown).phase → stances_of (shown (left_it x new)) ≡ stances_of (shown x)
shown_stands {D} {d} x new phase = ap (λ (y : System D d). stances_of y) (sym (shown_behind x.node x.system x.session new x.system.session))
    ∙ stands_with (shown x) x.node.name (lent_site x.node x.system new (site_at x.system x.node.name))
    (ap (λ p. Some p) phase ∙ sym (ap (λ (site : Site D d). phase_in site.node) (site_shown x.node x.system x.session)))
