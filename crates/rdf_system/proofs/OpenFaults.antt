-- A line on the session's own node that met a fault, by its kind.
use Rattle.std.proofs.Common.{◌≡◌, ℕ, true, List, [], Option, Some, Err, refl, sym, ap, subst}
use Rattle.rdf_types.specs.declared.layout.Layout.{Layout}
use Rattle.rdf_types.specs.declared.records.Node.{Node}
use Rattle.rdf_disk.specs.Files.{Disk}
use Rattle.rdf_disk.specs.Counts.{Counts}
use Rattle.rdf_disk.specs.declared.disk.Disk.{Ghosts}
use Rattle.plan_lang.specs.declared.lines.Line.{Line}
use Rattle.plan_lang.specs.declared.lines.Line.TheVariants as line
use Rattle.plan_lang.specs.Sessions.{goes_in}
use Rattle.node_faults.specs.declared.NodeFault.{NodeFault}
use Rattle.by_node.specs.Each.{at}
use Rattle.rdf_core.specs.State.{State}
use Rattle.rdf_backup.specs.declared.backup.Backup.{Backup}
use Rattle.rdf_backup.specs.Replies.{BreaksTrails}
use Rattle.rdf_backup.specs.Sessions.{Open, IsFed}
use Rattle.rdf_backup.specs.States.{value_of}
use Rattle.rdf_system.specs.NodeLines.{about}
use Rattle.rdf_system.specs.OpenLines.{IsOwnLine, HasDrifted, MeetsFor, MeetsOpen}
use Rattle.rdf_system.specs.Opened.{OpenView, shown, IsOpenAt, IsFedAt}
use Rattle.rdf_system.specs.States.{MayServe, IsAtState}
use Rattle.rdf_system.proofs.OpenFeeds.{IsSuited, own_fed}
use Rattle.rdf_system.proofs.OpenKeeps.{serves_left, shown_stands, at_left, was_left, disks_left}
use Rattle.rdf_system.proofs.OpenPurges.{risen_at, risen_disks, risen_serves}
use Rattle.rdf_system.proofs.SessionReads.{Laws}
use Rattle.rdf_system.proofs.ShownSites.{up_at}
use Rattle.rdf_system.proofs.SiteValues.{NodesStand}
use Rattle.rdf_system.proofs.Telling.{same_is}

module _ {D : Type 0} {d : Ghosts D} {tells : Type 0} {files : D → Disk} {counts : D → Counts} (x : OpenView D d) (is_open : IsOpenAt tells files counts x) (new : Open D d) (stand : NodesStand d files) (laws : Laws) (message : Option (List ℕ)) (why : NodeFault) where
  -- the rest of the system stays beside the session as it is then
  abbrev pub met_it : OpenView D d
  met_it = record { session = new; node = x.node; system = x.system }

  -- where the same is shown
  same_drifted : new.shown ≡ x.session.shown → (tells → (layout : Layout) (s : State) → IsAtState files layout s (shown x) → IsFedAt s x → IsFed s.primary.trail new) →
      tells → (layout : Layout) (s : State) → IsAtState files layout s (shown x) → IsFedAt s x → HasDrifted files layout s met_it
  same_drifted same fed t layout s is was = record { next = s; drifts = ([], refl); stops = λ node. refl; at = at_left x new same files layout s is; fed = fed t layout s is was }

  -- the system may be used as it is shown then
  pub own_serves : (l : Line) → IsOwnLine l → goes_in x.node.name l ≡ true → MeetsFor tells files counts message l (Err why) x.node x.session new → MayServe tells files counts (shown met_it)
  own_serves (line.Deliver node k) own e meets = serves_left x new (meets (sym (same_is x.node.name node e))).broken.shown tells files counts is_open.serves
  own_serves (line.Purge node) own e meets = risen_serves x is_open new stand (meets (sym (same_is x.node.name node e))).risen laws
  own_serves (line.Read node key) own e meets = serves_left x new (meets (sym (same_is x.node.name node e))).broken.shown tells files counts is_open.serves
  own_serves _ own e meets = absurd own

  pub own_meets : (l : Line) → IsOwnLine l → goes_in x.node.name l ≡ true → IsSuited tells files x message l → (value_of new.shown).phase ≡ (value_of x.session.shown).phase → MeetsFor tells files counts message l (Err why) x.node x.session new → MeetsOpen tells files counts why l x met_it
  own_meets (line.Deliver node k) own e suits phase meets =
      let same : node ≡ x.node.name = sym (same_is x.node.name node e) in
      let m = meets same in
      record {
        shows = m.broken.shown;
        drifted = same_drifted m.broken.shown (own_fed x is_open new message (Err why) (line.Deliver node k) own e suits meets);
        disks = disks_left x new m.broken.shown counts;
        rest = refl;
        stands = shown_stands x new phase;
        met = (refl, ap (λ (n : Node). Some n) same, m.broken.met);
        left = λ t layout s is. let was = was_left x new m.broken.shown files layout s is in
            subst (λ (b : Backup D d). BreaksTrails files (about layout s (line.Deliver node k)) (line.Deliver node k) b new.disk) (sym m.broken.shown)
            (m.left t layout (about layout s (line.Deliver node k)) (at s.backups x.node.name) (suits t layout s was) (up_at x.node x.system files layout s x.session was));
      }
  own_meets (line.Purge node) own e suits phase meets =
      let same : node ≡ x.node.name = sym (same_is x.node.name node e) in
      let m = meets same in
      record {
        shows = tt;
        drifted = risen_at x is_open new stand m.risen laws;
        disks = risen_disks x is_open new stand m.risen laws;
        rest = refl;
        stands = shown_stands x new phase;
        met = (refl, ap (λ (n : Node). Some n) same, m.met);
        left = λ t layout s is. subst (λ (k : Node). BreaksTrails files (about layout s (line.Purge k)) (line.Purge k) new.shown new.disk) (sym same)
            (m.left t layout (about layout s (line.Purge x.node.name)) (at s.backups x.node.name) refl (up_at x.node x.system files layout s new is));
      }
  own_meets (line.Read node key) own e suits phase meets =
      let same : node ≡ x.node.name = sym (same_is x.node.name node e) in
      let m = meets same in
      record {
        shows = m.broken.shown;
        drifted = same_drifted m.broken.shown (own_fed x is_open new message (Err why) (line.Read node key) own e suits meets);
        disks = disks_left x new m.broken.shown counts;
        rest = refl;
        stands = shown_stands x new phase;
        met = (same, m.broken.met);
        left = λ t layout s is. m.left t layout (about layout s (line.Read node key)) (at s.backups x.node.name) tt (up_at x.node x.system files layout s x.session (was_left x new m.broken.shown files layout s is));
      }
  own_meets _ own e suits phase meets = absurd own
