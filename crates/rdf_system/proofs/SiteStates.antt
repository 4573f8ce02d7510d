-- The node of one backup changed at its site, and the rest of the system did not: the states, and what is left.
use Rattle.std.proofs.Common.{◌≡◌, ◌≢◌, ◌⊎◌, inl, inr, ℕ, ◌+◌, ◌&&◌, Bool, true, false, List, Option, Some, refl, sym, ap, ◌∙◌, subst}
use Rattle.std.specs.Prelude.{MatchOption}
use Rattle.rdf_types.specs.declared.layout.Layout.{Layout}
use Rattle.rdf_types.specs.declared.records.Node.{Node}
use Rattle.rdf_types.specs.declared.records.Record.{Record}
use Rattle.rdf_disk.specs.Files.{Disk}
use Rattle.rdf_disk.specs.declared.disk.Disk.{Ghosts}
use Rattle.plan_lang.specs.LineText.{same_node}
use Rattle.plan_lang.specs.declared.lines.Line.{Line}
use Rattle.rdf_core.specs.declared.replies.Reply.{Reply}
use Rattle.rdf_core.specs.declared.replies.Reply.TheVariants.{Done, Stopped}
use Rattle.rdf_core.specs.Allowed.{is_backup}
use Rattle.rdf_core.specs.Backup.{Backup as State}
use Rattle.rdf_core.specs.Effects.{count_u64}
use Rattle.rdf_core.specs.Primary.{Primary as Part}
use Rattle.rdf_core.specs.Run.{Drifts}
use Rattle.rdf_core.specs.Sessions.{Session}
use Rattle.rdf_core.specs.Sound.{IsSound}
use Rattle.by_node.specs.Each.{at, with_at, at-with_at}
use Rattle.rdf_core.specs.NodeLaws.{at_other, put_both}
use Rattle.rdf_core.specs.RowLaws.{of_backup, put_back}
use Rattle.rdf_core.specs.State.{State as Whole, with_backup, with_session, blank_backup, by_node}
use Rattle.rdf_core.specs.Step.{Step}
use Rattle.rdf_primary.specs.Standing.{PrimaryStandsFor}
use Rattle.rdf_backup.specs.Beside.{is_beside}
use Rattle.rdf_backup.specs.Standing.{BackupStandsFor}
use Rattle.primary_node.specs.Nodes.{disks_at, IsAt}
use Rattle.backup_node.specs.declared.node.BackupNode.{BackupNode}
use Rattle.backup_node.specs.Nodes.{disks_at as backup_disks, IsAt as BackupIsAt}
use Rattle.backup_node.specs.Lines as backup
use Rattle.senders.specs.Sending.{AreSenders}
use Rattle.rdf_system.specs.declared.session.SessionState.{SessionState}
use Rattle.rdf_system.specs.declared.site.Site.{Site}
use Rattle.rdf_system.specs.declared.system.System.{System}
use Rattle.rdf_system.specs.Sessions.{IsSession}
use Rattle.rdf_system.specs.States.{layout_of, IsAtState, IsAtSite, SiteStandsFor, DisksStandFor}
use Rattle.rdf_system.specs.NodeLines.{site_at, with_site}
use Rattle.rdf_system.specs.Lines.{stops_in, is_beside_at, MayCount, MayLeave, CountsMore, Leaves, Follows}
use Rattle.rdf_system.proofs.Leaving.{counts_far, counts_none, none_more}
use Rattle.rdf_system.proofs.OnPrimary.{Stands}
use Rattle.rdf_system.proofs.PlaceLaws.{backup_node_is}
use Rattle.rdf_system.proofs.Telling.{same_is, either, count_stops}

-- what the disks of the nodes stand for, and how the other nodes stand
pub record Beside {D : Type 0} {d : Ghosts D} (files : D → Disk) (old : System D d) : Type 0 where
  pub a : (layout : Layout) (a : Part) → IsAt files layout a old.primary → PrimaryStandsFor files layout a (disks_at old.primary)
  pub sites : (node : Node) → Stands files (site_at old node)

-- a backup's node works the volumes beside each other where the line says so
pub beside_is : (layout : Layout) (name : Node) → is_backup layout name ≡ true → (l : Line) → is_beside_at name l ≡ is_beside l
beside_is layout name e l = ap (λ (b : Bool). b && is_beside l) (backup_node_is layout name e)

-- the site of that backup is this one, whose disks stand for what its node is at
pub record Turned {D : Type 0} {d : Ghosts D} (tells : Type 0) (files : D → Disk) (old : System D d) (name : Node) (site : Site D d) : Type 0 where
  pub placed : is_backup old.layout name ≡ true
  pub now : BackupNode D d
  pub now-is : site.node ≡ Some now
  pub stands : tells → (layout : Layout) (trail : List Record) (b : State) → IsAtSite files layout trail b site → SiteStandsFor files layout trail b site

-- the system is at that state, whatever it is at this backup, and whatever its session
pub record Rests {D : Type 0} {d : Ghosts D} (files : D → Disk) (layout : Layout) (s : Whole) (name : Node) (old : System D d) : Type 0 where
  pub laid : layout_of old ≡ layout
  pub primary : IsAt files layout s.primary old.primary
  pub senders : AreSenders layout s.primary.trail s.senders old.senders
  pub others : (node : Node) → same_node name node ≡ false → IsAtSite files layout s.primary.trail (at s.backups node) (site_at old node)

pub rests : {D : Type 0} {d : Ghosts D} {files : D → Disk} {layout : Layout} {s : Whole} {old : System D d} (name : Node) → IsAtState files layout s old → Rests files layout s name old
rests name is = record { laid = is.laid; primary = is.primary; senders = is.senders; others = λ node far. is.sites node }

module _ {D : Type 0} {d : Ghosts D} {tells : Type 0} {files : D → Disk} {old : System D d} {name : Node} {site : Site D d} (turned : Turned tells files old name site) (layout : Layout) (s : Whole) (is : Rests files layout s name old) where
  now_at : (b : State) → BackupIsAt files layout s.primary.trail b turned.now → IsAtSite files layout s.primary.trail b site
  now_at b h = subst (λ (o : Option (BackupNode D d)). MatchOption o (b ≡ blank_backup layout) (BackupIsAt files layout s.primary.trail b)) (sym turned.now-is) h

  -- the site's disks stand for what it is at
  pub now_stands : tells → (b : State) → BackupIsAt files layout s.primary.trail b turned.now → SiteStandsFor files layout s.primary.trail b site
  now_stands t b h = turned.stands t layout s.primary.trail b (now_at b h)

  -- so the backup is sound
  pub stands_sound : tells → (b : State) → BackupIsAt files layout s.primary.trail b turned.now → IsSound layout s.primary.trail b
  stands_sound t b h = (subst (λ (o : Option (BackupNode D d)). MatchOption o (Unit {0}) (λ n. BackupStandsFor files layout s.primary.trail b (backup_disks n))) turned.now-is (now_stands t b h)).sound

  -- and for what its node's disks stand for
  pub then_stands : {b : State} → BackupStandsFor files layout s.primary.trail b (backup_disks turned.now) → SiteStandsFor files layout s.primary.trail b site
  then_stands {b = b} h = subst (λ (o : Option (BackupNode D d)). MatchOption o (Unit {0}) (λ n. BackupStandsFor files layout s.primary.trail b (backup_disks n))) (sym turned.now-is) h

  -- stops are counted of this backup alone
  others : (b : State) (session : Session) (node : Node) → same_node name node ≡ false → stops_in (with_session (with_backup s name b) session) node ≡ stops_in s node
  others b session node far = ap (λ (x : State). by_node node s.primary.stops x.stops) (at_other s.backups name b node far)

  stops_were : stops_in s name ≡ (at s.backups name).stops
  stops_were = of_backup name s.primary.stops (at s.backups name).stops (backup_node_is old.layout name turned.placed)

  stops_are : (b : State) (session : Session) → stops_in (with_session (with_backup s name b) session) name ≡ b.stops
  stops_are b session = of_backup name s.primary.stops (at (with_at s.backups name b) name).stops (backup_node_is old.layout name turned.placed) ∙ ap (λ (x : State). x.stops) (at-with_at s.backups name b)

  -- so many more of it, and none of another node
  pub counts_more : (more : Node → ℕ) → ((node : Node) → same_node name node ≡ false → more node ≡ 0) → (b left : State) (session now : Session) → ((n : ℕ) → b.stops ≡ count_u64 n → left.stops ≡ count_u64 (n + more name)) →
      CountsMore more (with_session (with_backup s name b) session) (with_session (with_backup s name left) now)
  counts_more more none b left session now h node n e = go (either (same_node name node))
    where
      own : stops_in (with_session (with_backup s name b) session) name ≡ count_u64 n → stops_in (with_session (with_backup s name left) now) name ≡ count_u64 (n + more name)
      own g = stops_are left now ∙ h n (sym (stops_are b session) ∙ g)

      go : ((same_node name node ≡ true) ⊎ (same_node name node ≡ false)) → stops_in (with_session (with_backup s name left) now) node ≡ count_u64 (n + more node)
      go (inl near) = subst (λ (x : Node). stops_in (with_session (with_backup s name b) session) x ≡ count_u64 n → stops_in (with_session (with_backup s name left) now) x ≡ count_u64 (n + more x)) (same_is name node near) own e
      go (inr far) = others left now node far ∙ sym (others b session node far) ∙ e ∙ sym (none_more n (more node) (none node far))

  module _ (ss : SessionState) where
    pub at_state : (b : State) (session : Session) → IsSession layout (with_at s.backups name b) session ss → BackupIsAt files layout s.primary.trail b turned.now →
        IsAtState files layout (with_session (with_backup s name b) session) (with_site old name site ss)
    at_state b session of h = record {
      laid = is.laid;
      primary = is.primary;
      senders = is.senders;
      sites = put_both (λ node. IsAtSite files layout s.primary.trail) s.backups old.sites name b site is.others (now_at b h);
      session = of;
    }

    pub disks_stand : Beside files old → (b : State) (session : Session) → SiteStandsFor files layout s.primary.trail b site → DisksStandFor files layout (with_session (with_backup s name b) session) (with_site old name site ss)
    disks_stand beside b session h = record {
      laid = is.laid;
      primary = beside.a layout s.primary is.primary;
      sites = put_both (λ node. SiteStandsFor files layout s.primary.trail) s.backups old.sites name b site (λ node far. beside.sites node layout s.primary.trail (at s.backups node) (is.others node far)) h;
    }

    module _ {l : Line} where
      -- what the line may leave, where so many stops were counted, and so many more are
      pub leave_more : Beside files old → (more : Node → ℕ) → ((node : Node) → same_node name node ≡ false → more node ≡ 0) → (counted left : State) (counted_session session : Session) (mid : Whole) → Drifts layout s mid →
          MayLeave layout mid l (with_session (with_backup s name left) session) → SiteStandsFor files layout s.primary.trail left site → ((n : ℕ) → counted.stops ≡ count_u64 n → left.stops ≡ count_u64 (n + more name)) →
          Leaves files layout s l (with_session (with_backup s name counted) counted_session) more (with_site old name site ss)
      leave_more beside more none counted left counted_session session mid drifts may stands stops = record {
        mid = mid;
        drifts = drifts;
        left = with_session (with_backup s name left) session;
        leaves = may;
        stands = disks_stand beside left session stands;
        stops = counts_more more none counted left counted_session session stops;
      }

      pub leave_at : Beside files old → (counted left : State) (counted_session session : Session) (mid : Whole) → Drifts layout s mid → MayLeave layout mid l (with_session (with_backup s name left) session) →
          SiteStandsFor files layout s.primary.trail left site → ((n : ℕ) → counted.stops ≡ count_u64 n → left.stops ≡ count_u64 n) →
          Leaves files layout s l (with_session (with_backup s name counted) counted_session) (λ node. 0) (with_site old name site ss)
      leave_at beside counted left counted_session session mid drifts may stands stops = leave_more beside (λ node. 0) (λ node far. refl) counted left counted_session session mid drifts may stands (λ n e. stops n e ∙ sym (none_more n 0 refl))

      -- the same of a line that was broken off, with so many stops of this backup more
      pub leave_far : Beside files old → (more : Node → ℕ) → ((node : Node) → same_node name node ≡ false → more node ≡ 0) → (left : State) (session : Session) (mid : Whole) → Drifts layout s mid → MayLeave layout mid l (with_session (with_backup s name left) session) →
          SiteStandsFor files layout s.primary.trail left site → ((n : ℕ) → (at s.backups name).stops ≡ count_u64 n → left.stops ≡ count_u64 (n + more name)) → Leaves files layout s l s more (with_site old name site ss)
      leave_far beside more none left session mid drifts may stands stops = subst (λ (x : Whole). Leaves files layout s l (with_session x s.session) more (with_site old name site ss)) (put_back s name)
          (leave_more beside more none (at s.backups name) left s.session session mid drifts may stands stops)

      pub leave_off : Beside files old → (more : Node → ℕ) → MayCount l name more → (left : State) (session : Session) (mid : Whole) → Drifts layout s mid → MayLeave layout mid l (with_session (with_backup s name left) session) →
          SiteStandsFor files layout s.primary.trail left site → ((n : ℕ) → (at s.backups name).stops ≡ count_u64 n → left.stops ≡ count_u64 (n + more name)) → Leaves files layout s l s more (with_site old name site ss)
      leave_off beside more count left session mid drifts may stands stops = leave_far beside more (counts_far l name more count) left session mid drifts may stands stops

      -- and of one that works no volumes beside each other
      pub leave_plain : Beside files old → (more : Node → ℕ) → MayCount l name more → is_beside l ≡ false → (left : State) (session : Session) (mid : Whole) → Drifts layout s mid → MayLeave layout mid l (with_session (with_backup s name left) session) →
          SiteStandsFor files layout s.primary.trail left site → ((n : ℕ) → (at s.backups name).stops ≡ count_u64 n → left.stops ≡ count_u64 n) → Leaves files layout s l s more (with_site old name site ss)
      leave_plain beside more count plain left session mid drifts may stands stops = leave_off beside more count left session mid drifts may stands
          (λ n e. stops n e ∙ sym (none_more n (more name) (counts_none l name more count (beside_is old.layout name turned.placed l ∙ plain) name)))

      -- the line was answered, which uses the disks of no other node
      pub follow_at : (used : Option Node) → ((node : Node) → used ≡ Some node → node ≡ name) → (rise : ℕ) (reply : Reply) (mid : Whole) → Drifts layout s mid → (b : State) (session : Session) → Step layout mid l reply (with_session (with_backup s name b) session) → BackupIsAt files layout s.primary.trail b turned.now →
          IsSession layout (with_at s.backups name b) session ss → backup.CountsStops name reply rise (at s.backups name) b → ((node : Node) → reply ≡ Stopped node → used ≡ Some node) →
          (reply ≢ Done → Leaves files layout s l (with_session (with_backup s name b) session) (λ node. 0) (with_site old name site ss)) → Follows files layout s used l rise reply (with_site old name site ss)
      follow_at used only rise reply mid drifts b session step h of stops told leaves = record {
        mid = mid;
        drifts = drifts;
        next = with_session (with_backup s name b) session;
        step = step;
        at = at_state b session of h;
        stops = count_stops name reply rise s (with_session (with_backup s name b) session) used only (told name) (others b session) (counted stops);
        told = λ node e. inl (told node e);
        leaves = leaves;
      }
        where
          counted : backup.CountsStops name reply rise (at s.backups name) b →
              ((reply ≢ Stopped name) × (stops_in (with_session (with_backup s name b) session) name ≡ stops_in s name)) ⊎ ((reply ≡ Stopped name) × (stops_in (with_session (with_backup s name b) session) name ≡ count_u64 (stops_in s name + rise)))
          counted (inl k) = inl (k.0, stops_are b session ∙ k.1 ∙ sym stops_were)
          counted (inr k) = inr (k.0, stops_are b session ∙ k.1 ∙ ap (λ n. count_u64 (n + rise)) (sym stops_were))
