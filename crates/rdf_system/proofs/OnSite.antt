-- A line that one backup's node does, as what the system does: the disks place by place, and the whole of it.
use Rattle.std.proofs.Common.{◌≡◌, inl, inr, ℕ, ◌&&◌, ◌==◌, if◌then◌else◌, Bool, true, false, length, Option, Some, None, Result, Ok, Err, refl, sym, ap, ◌∙◌, subst}
use Rattle.std.specs.Prelude.{MatchOption}
use Rattle.rdf_types.specs.declared.layout.Layout.{Layout}
use Rattle.rdf_types.specs.declared.records.Node.{Node}
use Rattle.rdf_disk.specs.Files.{Disk}
use Rattle.rdf_disk.specs.Counts.{Counts, fused}
use Rattle.rdf_disk.specs.declared.disk.Disk.{Ghosts}
use Rattle.plan_lang.specs.declared.lines.Line.{Line}
use Rattle.plan_lang.specs.declared.lines.Line.TheVariants as line
use Rattle.node_faults.specs.declared.NodeFault.{NodeFault}
use Rattle.node_disks.specs.Cuts.{IfBoth}
use Rattle.node_disks.specs.Counting as counting
use Rattle.node_disks.specs.CutLaws.{same_length}
use Rattle.rdf_core.specs.declared.replies.Reply.{Reply}
use Rattle.rdf_core.specs.Allowed.{is_backup}
use Rattle.plan_lang.specs.LineText.{same_node}
use Rattle.by_node.specs.Each.{at, at-with_at}
use Rattle.rdf_core.specs.State.{State as Whole, blank_backup}
use Rattle.rdf_backup.specs.Beside.{is_beside}
use Rattle.backup_node.specs.declared.node.BackupNode.{BackupNode}
use Rattle.backup_node.specs.Nodes.{disks_at as backup_disks, IsAt as BackupIsAt, MayServe as BackupMayServe}
use Rattle.backup_node.specs.Lines as backup
use Rattle.rdf_system.specs.declared.session.SessionState.{SessionState}
use Rattle.rdf_system.specs.declared.site.Site.{Site}
use Rattle.rdf_system.specs.declared.system.System.{System}
use Rattle.rdf_system.specs.Sessions.{node_of, used_by, IsPlacedAt}
use Rattle.rdf_system.specs.States.{MayServe, SiteMayServe, IsAtState, IsNodeOf, IsWholeSite}
pub use Rattle.rdf_system.specs.NodeLines.{BackupDoes, SiteDoes, about, site_at, with_site}
use Rattle.rdf_system.specs.NodeLines.{AtBackup}
use Rattle.rdf_system.specs.OnNodes.{is_done_by}
use Rattle.rdf_system.specs.Kinds.{ByBackup}
use Rattle.rdf_system.specs.Lines.{fuses_of, is_beside_at, Performs, IsCaused, Keeps, Does}
use Rattle.rdf_system.proofs.Moving.{CausesAt, FailsAt, unused_stay, fail_by, reply_caused, reply_fused, fault_fused}
use Rattle.rdf_system.proofs.PlaceLaws.{not_so}
use Rattle.rdf_system.proofs.SiteDisks.{Swapped, moves, serves_on}
pub use Rattle.rdf_system.proofs.PlaceLaws.{backup_node_is}
pub use Rattle.rdf_system.proofs.SiteStates.{Beside, Turned, beside_is}
use Rattle.primary_node.specs.Moves.{standing_at}
use Rattle.rdf_system.specs.Moves.{MovesAt}
use Rattle.rdf_system.specs.Noting.{behind}
use Rattle.rdf_system.specs.Stances.{IsJudgedBy, stances_of}
use Rattle.rdf_system.proofs.Judging.{each_moves}
use Rattle.rdf_system.proofs.MovedLaws.{same_owner, off_primary, primary_stays, here_in, site_moves}
use Rattle.rdf_core.specs.SessionLaws.{same_self}

-- a fuse is one of a disk of the node
abbrev pub IsOwnFuse : Node → Line → Type 0
IsOwnFuse name (line.Fuse node disk calls tear) = node ≡ name
IsOwnFuse name _ = Unit {0}

-- fuses of the node's disks, and of the others'
fuses_here : (name : Node) (l : Line) → IsOwnFuse name l → (i : ℕ) (c : Counts) → counting.fuses_of l i c ≡ fuses_of l name i c
fuses_here name (line.Fuse node disk calls tear) e i c = sym (ap (λ (b : Bool). if b && i == disk then (fused c).fuses else c.fuses) (ap (λ (x : Node). same_node x name) e ∙ same_self name))
fuses_here name _ e i c = refl

fuses_far : (name : Node) (l : Line) → IsOwnFuse name l → (node : Node) → same_node name node ≡ false → (i : ℕ) (c : Counts) → c.fuses ≡ fuses_of l node i c
fuses_far name (line.Fuse of disk calls tear) e node far i c = sym (ap (λ (b : Bool). if b && i == disk then (fused c).fuses else c.fuses) (ap (λ (x : Node). same_node x node) e ∙ far))
fuses_far name _ e node far i c = refl

-- where the rest stays, so does the session, and another one may be noted
pub rest_session : {D : Type 0} {d : Ghosts D} (name : Node) (old new : System D d) → new ≡ with_site old name (site_at new name) old.session → new.session ≡ old.session
rest_session {D = D} {d = d} name old new e = ap (λ (x : System D d). x.session) e

pub rest_noted : {D : Type 0} {d : Ghosts D} (name : Node) (old new : System D d) (ss : SessionState) → new ≡ with_site old name (site_at new name) old.session → with_site old name (site_at new name) ss ≡ record new { session = ss }
rest_noted {D = D} {d = d} name old new ss e = sym (ap (λ (x : System D d). let y : System D d = record x { session = ss } in y) e)

-- the site of that backup was lent, and its node did the line there
pub at_backup : {D : Type 0} {d : Ghosts D} {tells : Type 0} {files : D → Disk} {counts : D → Counts} {P : BackupNode D d → BackupNode D d → Type 0} (l : Line) (result : Result Reply NodeFault) (old : System D d) (name : Node) (was now : Site D d) →
    was ≡ site_at old name → SiteDoes tells files counts old.layout P l result was now → AtBackup tells files counts P name l result old (with_site old name now old.session)
at_backup {D} {d} {tells} {files} {counts} {P} l result old name was now is does = record {
  does = subst (λ (x : Site D d). SiteDoes tells files counts old.layout P l result (site_at old name) x) (sym (at-with_at old.sites name now)) (subst (λ (x : Site D d). SiteDoes tells files counts old.layout P l result x now) is does);
  rest = ap (λ (x : Site D d). with_site old name x old.session) (sym (at-with_at old.sites name now));
}

-- the node at the site, before and behind the line
pub record AtSite {D : Type 0} {d : Ghosts D} (tells : Type 0) (files : D → Disk) (counts : D → Counts) (layout : Layout) (P : BackupNode D d → BackupNode D d → Type 0) (l : Line) (result : Result Reply NodeFault) (name : Node) (old new : Site D d) : Type 0 where
  pub was : BackupNode D d
  pub was-is : old.node ≡ Some was
  pub now : BackupNode D d
  pub now-is : new.node ≡ Some now
  pub does : BackupDoes tells files counts layout P l result was now
  pub serves : BackupMayServe tells files counts was
  pub of : IsNodeOf layout name was

pub at_site : {D : Type 0} {d : Ghosts D} (tells : Type 0) (files : D → Disk) (counts : D → Counts) (layout : Layout) (P : BackupNode D d → BackupNode D d → Type 0) (l : Line) (result : Result Reply NodeFault) (name : Node) (old new : Site D d) →
    is_backup layout name ≡ true → SiteMayServe tells files counts old → IsWholeSite layout name old → SiteDoes tells files counts layout P l result old new → AtSite tells files counts layout P l result name old new
at_site {D = D} {d = d} tells files counts layout P l result name old new placed serves whole does = go old.node new.node refl refl serves whole.node does.node
  where
    none : is_backup layout name ≡ false → AtSite tells files counts layout P l result name old new
    none e = not_so (sym e ∙ placed)

    go : (o o' : Option (BackupNode D d)) → old.node ≡ o → new.node ≡ o' → MatchOption o (Unit {0}) (BackupMayServe tells files counts) → MatchOption o (is_backup layout name ≡ false) (IsNodeOf layout name) →
        IfBoth (λ x y. BackupDoes tells files counts layout P l result x y) o o' → AtSite tells files counts layout P l result name old new
    go None o' e f s w h = none w
    go (Some x) None e f s w h = absurd h
    go (Some x) (Some y) e f s w h = record { was = x; was-is = e; now = y; now-is = f; does = h; serves = s; of = w }

-- a line on a backup leaves as many disks
fused_many : {D : Type 0} {d : Ghosts D} (counts : D → Counts) (l : Line) (r : Result Reply NodeFault) (old new : BackupNode D d) → backup.IsFused counts l r old new → length (backup_disks new) ≡ length (backup_disks old)
fused_many counts l r old new (inl h) = same_length (λ i x y. (counts y).fuses ≡ (counts x).fuses) (backup_disks old) (backup_disks new) h.0
fused_many counts l r old new (inr h) = same_length (λ i x y. (counts y).fuses ≡ counting.fuses_of l i (counts x)) (backup_disks old) (backup_disks new) h.1

-- a line that a backup's node did: only disks of this node may stop in it
pub record Asked {D : Type 0} {d : Ghosts D} (tells : Type 0) (files : D → Disk) (counts : D → Counts) (old : System D d) (name : Node) (P : BackupNode D d → BackupNode D d → Type 0) (l : Line) (result : Result Reply NodeFault) (site : Site D d) : Type 0 where
  pub serves : MayServe tells files counts old
  pub placed : is_backup old.layout name ≡ true
  pub only : (node : Node) → used_by old.session l ≡ Some node → node ≡ name
  pub ended : l ≡ line.End → used_by old.session l ≡ Some name
  pub own : IsOwnFuse name l
  pub on : is_done_by name l
  pub does : SiteDoes tells files counts old.layout P l result (site_at old name) site

module _ {D : Type 0} {d : Ghosts D} {tells : Type 0} {files : D → Disk} {counts : D → Counts} {old : System D d} {name : Node} {P : BackupNode D d → BackupNode D d → Type 0} {l : Line} {result : Result Reply NodeFault} {site : Site D d}
    (asked : Asked tells files counts old name P l result site) where
  pub here : AtSite tells files counts old.layout P l result name (site_at old name) site
  here = at_site tells files counts old.layout P l result name (site_at old name) site asked.placed (asked.serves.sites name) (asked.serves.whole.sites name) asked.does

  same : length (backup_disks here.now) ≡ length (backup_disks here.was)
  same = fused_many counts l result here.was here.now here.does.fuses

  -- the node at the site, and its disks
  pub swapped : Swapped tells files counts old name here.was here.now site
  swapped = record {
    serves = asked.serves;
    placed = asked.placed;
    was-is = here.was-is;
    now-is = here.now-is;
    was_serves = here.serves;
    was_of = here.of;
    now_serves = here.does.serves;
    now_of = record { placed = asked.placed; named = here.does.named ∙ here.of.named; sized = here.does.sized ∙ here.of.sized; laid = here.does.laid here.of.laid };
    same = same;
    spare = asked.does.spare;
    room = asked.does.room;
  }

  -- it changed
  abbrev pub turned : Turned tells files old name site
  turned = record { placed = asked.placed; now = here.now; now-is = here.now-is; stands = asked.does.stands }

  -- the node was at the state of its backup
  pub was_at : (layout : Layout) (s : Whole) → IsAtState files layout s old → BackupIsAt files layout s.primary.trail (at s.backups name) here.was
  was_at layout s is = subst (λ (o : Option (BackupNode D d)). MatchOption o ((at s.backups name) ≡ blank_backup layout) (BackupIsAt files layout s.primary.trail (at s.backups name))) here.was-is (is.sites name)

-- the node at the site behind a line
site_now : {D : Type 0} {d : Ghosts D} (old : System D d) (site : Site D d) (ss : SessionState) (name : Node) → (site_at (with_site old name site ss) name).node ≡ site.node
site_now {D} {d} old site ss name = ap (λ (x : Site D d). x.node) (at-with_at old.sites name site)

-- the whole of it

module _ {D : Type 0} {d : Ghosts D} {tells : Type 0} {files : D → Disk} {counts : D → Counts} {old : System D d} {name : Node} {P : BackupNode D d → BackupNode D d → Type 0} {l : Line} {site : Site D d} where
  -- what the whole keeps where the line was answered
  pub site_keeps : (reply : Reply) (asked : Asked tells files counts old name P l (Ok reply) site) (ss : SessionState) → IsPlacedAt old.layout (node_of ss) → ss ≡ behind old.session l reply → IsJudgedBy (stances_of old) l reply →
      Keeps tells files counts (IsCaused counts l (Ok reply) old (with_site old name site ss)) l (Ok reply) old (with_site old name site ss)
  site_keeps reply asked ss placed session judged =
      let h = here asked in
      let m = moves (swapped asked) ss in
      record {
        serves = serves_on (swapped asked) ss placed;
        laid = m.laid;
        cause = reply_caused name (backup_disks h.was) (backup_disks h.now) old (with_site old name site ss) m counts l reply asked.only asked.ended (caused h);
        sound = λ t layout s is. tt;
        fuses = reply_fused name (backup_disks h.was) (backup_disks h.now) old (with_site old name site ss) m counts l reply (fuses_here name l asked.own) (fuses_far name l asked.own) h.does.fuses;
        unused = unused_stay name (backup_disks h.was) (backup_disks h.now) old (with_site old name site ss) m (same asked);
        kinds = ByBackup name asked.placed asked.on h.was h.now h.was-is (site_now old site ss name ∙ h.now-is) h.does.kinds;
        judged = judged;
        moved = record {
          primary = primary_stays l reply (standing_at old.primary) (off_primary old.layout l name asked.placed asked.on);
          phases = λ other placed. each_moves l reply old (with_site old name site ss) other (site_moves old name site ss l reply (λ of own. same_owner l name of asked.on own)
              (here_in old name site ss h.was h.now h.was-is h.now-is (λ p q. MovesAt name l reply p q) (λ own. h.does.moved, λ never. absurd (never asked.on))) other);
          session = session;
        };
      }
    where
      caused : (h : AtSite tells files counts old.layout P l (Ok reply) name (site_at old name) site) → CausesAt counts (is_beside_at name l) name reply (backup_disks h.was) (backup_disks h.now)
      caused h = subst (λ (b : Bool). CausesAt counts b name reply (backup_disks h.was) (backup_disks h.now)) (sym (beside_is old.layout name asked.placed l))
          (subst (λ (n : Node). CausesAt counts (is_beside l) n reply (backup_disks h.was) (backup_disks h.now)) h.of.named h.does.cause)

  pub site_answers : (reply : Reply) (asked : Asked tells files counts old name P l (Ok reply) site) (ss : SessionState) → IsPlacedAt old.layout (node_of ss) → ss ≡ behind old.session l reply → IsJudgedBy (stances_of old) l reply →
      (tells → Performs files l (Ok reply) old (with_site old name site ss)) → Does tells files counts l (Ok reply) old (with_site old name site ss)
  site_answers reply asked ss placed session judged performs = record { performs = performs; keeps = site_keeps reply asked ss placed session judged }

  -- a fault of the node leaves the session
  pub site_fails : (why : NodeFault) (asked : Asked tells files counts old name P l (Err why) site) → (tells → Performs files l (Err (record { node = name; fault = why })) old (with_site old name site old.session)) →
      Does tells files counts l (Err (record { node = name; fault = why })) old (with_site old name site old.session)
  site_fails why asked performs =
      let h = here asked in
      let m = moves (swapped asked) old.session in
      record {
        performs = performs;
        keeps = record {
          serves = serves_on (swapped asked) old.session asked.serves.whole.session;
          laid = m.laid;
          cause = (
            fail_by name (backup_disks h.was) (backup_disks h.now) old (with_site old name site old.session) m counts l why
                (subst (λ (b : Bool). FailsAt counts b why (backup_disks h.was) (backup_disks h.now)) (sym (beside_is old.layout name asked.placed l)) h.does.cause.0),
            h.does.cause.1,
          );
          sound = λ t layout s is. h.does.sound t layout s.primary.trail (at s.backups name) (was_at asked layout s is);
          fuses = fault_fused name (backup_disks h.was) (backup_disks h.now) old (with_site old name site old.session) m counts l why _ h.does.fuses;
          unused = unused_stay name (backup_disks h.was) (backup_disks h.now) old (with_site old name site old.session) m (same asked);
          kinds = ByBackup name asked.placed asked.on h.was h.now h.was-is (site_now old site old.session name ∙ h.now-is) h.does.kinds;
          judged = tt;
          moved = tt;
        };
      }
