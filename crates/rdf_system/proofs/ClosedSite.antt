-- The node whose session ended is at its site again: its disks and the counts of all disks, and what the system keeps.
use Rattle.std.proofs.Common.{◌≡◌, ◌≢◌, ◌⊎◌, inl, inr, ℕ, suc, ◌&&◌, Bool, true, false, if◌then◌else◌, List, length, Option, Some, None, Result, Ok, Err, IfErr, IfOk, refl, sym, ap, ◌∙◌, subst}
use Rattle.rdf_types.specs.declared.layout.Layout.{Layout}
use Rattle.rdf_types.specs.declared.records.Node.{Node}
use Rattle.rdf_types.specs.declared.records.Node.TheVariants.{A}
use Rattle.rdf_disk.specs.Files.{Disk}
use Rattle.rdf_disk.specs.Counts.{Counts, Ending}
use Rattle.rdf_disk.specs.Counts.Ending.{Fine}
use Rattle.rdf_disk.specs.declared.disk.Disk.{Ghosts}
use Rattle.plan_lang.specs.LineText.{same_node}
use Rattle.plan_lang.specs.declared.lines.Line.{Line}
use Rattle.plan_lang.specs.declared.lines.Line.TheVariants as line
use Rattle.node_faults.specs.declared.NodeFault.{NodeFault}
use Rattle.node_faults.specs.declared.NodeFault.TheVariants as fault
use Rattle.node_faults.specs.Faults.{ending_for, IsSound as NodeIsSound, IsNamed}
use Rattle.node_disks.specs.Cuts.{Each}
use Rattle.node_disks.specs.CutLaws.{same_length}
use Rattle.node_disks.specs.Counting.{Tells, is_fuse}
use Rattle.image_disks.specs.Values.{received}
use Rattle.rdf_core.specs.declared.replies.Reply.{Reply}
use Rattle.rdf_core.specs.declared.replies.Reply.TheVariants.{Stopped}
use Rattle.rdf_core.specs.Allowed.{is_node}
use Rattle.rdf_core.specs.SessionLaws.{same_self}
use Rattle.rdf_core.specs.Step.{is_of_session}
use Rattle.rdf_backup.specs.declared.session.Met.{Met}
use Rattle.rdf_backup.specs.Beside.{EndsBeside}
use Rattle.rdf_backup.specs.Refusals.{IsNumber}
use Rattle.rdf_backup.specs.Rising.{is_of_protected}
use Rattle.rdf_backup.specs.Sessions.{LeavesTrails, OnlyProtected}
use Rattle.rdf_backup.specs.States.{layout_of as laid_of, value_of}
use Rattle.backup_node.specs.declared.node.BackupNode.{BackupNode}
use Rattle.backup_node.specs.Nodes.{disks_at as backup_disks, IsLaid}
use Rattle.backup_node.specs.Closing.{EndsAt, KeepsInSession}
use Rattle.backup_node.specs.Closing as node
use Rattle.backup_node.specs.Open.{in_open}
use Rattle.backup_node.specs.Moves.{phase_at, Stays, Moves as MovesNode}
use Rattle.backup_node.specs.MoveLaws.{moves_stopped}
use Rattle.rdf_system.specs.declared.fault.StepFault.{StepFault}
use Rattle.rdf_system.specs.declared.session.SessionState.{SessionState}
use Rattle.rdf_system.specs.declared.site.Site.{Site}
use Rattle.rdf_system.specs.declared.system.System.{System}
use Rattle.rdf_system.specs.Closing.{Answers, IsCausedInSession, ends_of_both, told_by}
use Rattle.rdf_system.specs.Kinds.{IsTold, Received, Halted, AtEnd}
use Rattle.rdf_system.specs.Lines.{EachUsed, IsSound, LeavesUnused, is_done, Keeps}
use Rattle.rdf_system.specs.NodeLines.{site_at, with_site}
use Rattle.rdf_system.specs.Noting.{behind as behind_line}
use Rattle.rdf_system.specs.Opened.{OpenView, shown, IsOpenAt}
use Rattle.rdf_system.specs.Sessions.{node_of, used_by, IsPlacedAt}
use Rattle.rdf_system.specs.States.{IsNodeOf, MayServe}
use Rattle.rdf_system.proofs.Moving.{Moves, each_used, unused_stay}
use Rattle.rdf_system.proofs.PlaceLaws.{is_placed}
use Rattle.rdf_system.proofs.SessionReads.{Laws}
use Rattle.rdf_system.proofs.ShownSites.{node_is, node_serves, site_shown}
use Rattle.rdf_system.proofs.SiteDisks.{Swapped, moves, serves_on}
use Rattle.rdf_system.proofs.SiteStates.{Beside, Turned}
use Rattle.rdf_system.proofs.SiteValues.{NodesStand, site_stands}
use Rattle.rdf_system.proofs.Telling.{either}
use Rattle.primary_node.specs.Moves.{standing_at}
use Rattle.rdf_system.specs.Moves.{MovesAt}
use Rattle.rdf_system.specs.Stances.{IsJudged, IsMoved, MovesTo, stances_of}
use Rattle.rdf_system.proofs.Judging.{each_moves}
use Rattle.rdf_system.proofs.MovedLaws.{same_owner, off_primary, primary_stays, here_in, site_moves}
use Rattle.rdf_system.specs.OnNodes.{is_on_primary, is_done_by}

-- An open session ended so, and its node is this one now.
pub record Ended {D : Type 0} {d : Ghosts D} (tells : Type 0) (files : D → Disk) (counts : D → Counts) (x : OpenView D d) (told : Result Reply NodeFault) (now : BackupNode D d) : Type 0 where
  pub is_open : IsOpenAt tells files counts x
  pub ends : EndsAt tells files x.session told x.node now
  pub keeps : KeepsInSession tells files counts (OnlyProtected (laid_of x.session.shown) x.session.met) told (in_open x.session x.node) now
  pub laid : IsLaid x.system.layout now
  pub sound : tells → NodeIsSound told
  pub stand : NodesStand d files
  pub beside : tells → Beside files (shown x)
  pub laws : Laws

-- how the disks of the node ended, and what that comes to
pub record EndedSo {D : Type 0} (counts : D → Counts) (name : Node) (many : ℕ) (May : (ℕ → Ending) → Type 0) (told : Result Reply NodeFault) (was now : List D) : Type 0 where
  pub met : Result (Unit {0}) NodeFault
  pub ends : ℕ → Ending
  pub beside : EndsBeside met ends
  pub may : May ends
  pub each : Each (λ i x y. Tells (ends i) (counts x) (counts y)) was now
  pub answers : (let ok : Result (Unit {0}) NodeFault = Ok tt in Answers name ok met (told_by name told))
  pub named : IfErr told (λ why. IsNamed many why)
  pub met_named : IfErr met (λ why. IsNamed many why)

ended_so : {D : Type 0} {d : Ghosts D} (counts : D → Counts) (layout : Layout) (m : Option Met) (told : Result Reply NodeFault) (was now : BackupNode D d) → node.IsCausedInSession counts (OnlyProtected layout m) told was now →
    EndedSo counts was.name (length (backup_disks was)) (OnlyProtected layout m) told (backup_disks was) (backup_disks now)
ended_so counts layout m (Ok reply) was now (inl (none, ne)) = record { met = Ok tt; ends = λ i. Fine; beside = λ i. refl; may = λ leaves i off. refl; each = none; answers = ne; named = tt; met_named = tt }
ended_so counts layout m (Ok reply) was now (inr (is, (disk, (named, (ends, (first, may, each)))))) =
    record { met = Err (fault.Stopped disk); ends = ends; beside = first; may = may; each = each; answers = (is, (disk, refl)); named = tt; met_named = named }
ended_so counts layout m (Err why) was now ((named, (ends, (first, may, each))), never) = record { met = Err why; ends = ends; beside = first; may = may; each = each; answers = (refl, never); named = named; met_named = named }

-- a fault of the session's node is one of the system
told_named : (layout : Layout) (name : Node) (many : ℕ) (told : Result Reply NodeFault) → is_node layout name ≡ true → many ≡ suc layout.volumes → IfErr told (λ why. IsNamed many why) → IfErr (told_by name told) (λ why. (is_node layout why.node ≡ true) × IsNamed (suc layout.volumes) why.fault)
told_named layout name many (Ok reply) there is h = tt
told_named layout name many (Err why) there is h = (there, subst (λ k. IsNamed k why) is h)

pub met_there : {many volumes : ℕ} (met : Result (Unit {0}) NodeFault) → many ≡ suc volumes → IfErr met (λ why. IsNamed many why) → IfErr met (λ why. IsNamed (suc volumes) why)
met_there (Ok y) is h = tt
met_there (Err why) is h = subst (λ k. IsNamed k why) is h

pub told_sound : (name : Node) (told : Result Reply NodeFault) → NodeIsSound told → IsSound (told_by name told)
told_sound name (Ok reply) h = tt
told_sound name (Err why) h = h

-- the disks of another node, where nothing was met at the primary
none_there : (node : Node) (i : ℕ) → (let ok : Result (Unit {0}) NodeFault = Ok tt in (if same_node A node then ending_for i ok else Fine) ≡ Fine)
none_there node i = go (same_node A node)
  where
    go : (b : Bool) → (if b then Fine else Fine) ≡ Fine
    go true = refl
    go false = refl

module _ {D : Type 0} {d : Ghosts D} {tells : Type 0} {files : D → Disk} {counts : D → Counts} {x : OpenView D d} {told : Result Reply NodeFault} {now : BackupNode D d} (ended : Ended tells files counts x told now) where
  abbrev pub site : Site D d
  site = record (site_at x.system x.node.name) { node = Some now }

  was_of : IsNodeOf x.system.layout x.node.name (in_open x.session x.node)
  was_of = node_is x.node x.system tells files counts x.session ended.is_open.serves

  pub swapped : Swapped tells files counts (shown x) x.node.name (in_open x.session x.node) now site
  swapped = record {
    serves = ended.is_open.serves;
    placed = ended.is_open.placed;
    was-is = ap (λ (s : Site D d). s.node) (site_shown x.node x.system x.session);
    now-is = refl;
    was_serves = node_serves x.node x.system tells files counts x.session ended.is_open.serves;
    was_of = was_of;
    now_serves = ended.keeps.serves;
    now_of = record { placed = ended.is_open.placed; named = ended.keeps.named; sized = ended.keeps.sized ∙ was_of.sized; laid = ended.laid };
    same = same_length (λ i a b. (counts b).fuses ≡ (counts a).fuses) (backup_disks (in_open x.session x.node)) (backup_disks now) ended.keeps.fuses;
    spare = ap (λ (s : Site D d). s.spare) (sym (site_shown x.node x.system x.session));
    room = ap (λ (s : Site D d). s.room) (sym (site_shown x.node x.system x.session));
  }

  abbrev pub turned : Turned tells files (shown x) x.node.name site
  turned = record { placed = ended.is_open.placed; now = now; now-is = refl; stands = λ t. site_stands files ended.stand site }

  -- how the disks of the node ended
  abbrev pub So : Type 0
  So = EndedSo counts x.node.name (length (backup_disks (in_open x.session x.node))) (OnlyProtected (laid_of x.session.shown) x.session.met) told (backup_disks (in_open x.session x.node)) (backup_disks now)

  pub so : So
  so = ended_so counts (laid_of x.session.shown) x.session.met told (in_open x.session x.node) now ended.keeps.cause

  module _ (ss : SessionState) where
    -- the system behind it, with this session noted
    abbrev pub behind : System D d
    behind = with_site (shown x) x.node.name site ss

    pub moved : Moves x.node.name (backup_disks (in_open x.session x.node)) (backup_disks now) (shown x) behind
    moved = moves swapped ss

    pub session_behind : behind.session ≡ ss
    session_behind = refl

    -- where nothing was met at the primary
    pub ends_each : EachUsed (λ node i a b. (let ok : Result (Unit {0}) NodeFault = Ok tt in Tells (ends_of_both x.node.name ok so.ends node i) (counts a) (counts b))) (shown x) behind
    ends_each = each_used x.node.name (backup_disks (in_open x.session x.node)) (backup_disks now) (shown x) behind moved (λ node i a b. (let ok : Result (Unit {0}) NodeFault = Ok tt in Tells (ends_of_both x.node.name ok so.ends node i) (counts a) (counts b)))
        (λ i a b. Tells (so.ends i) (counts a) (counts b))
        (λ i a b k. subst (λ (t : Bool). Tells (if t then so.ends i else (let ok : Result (Unit {0}) NodeFault = Ok tt in (if same_node A x.node.name then ending_for i ok else Fine))) (counts a) (counts b)) (sym (same_self x.node.name)) k)
        (λ node far i a. subst (λ (t : Bool). Tells (if t then so.ends i else (let ok : Result (Unit {0}) NodeFault = Ok tt in (if same_node A node then ending_for i ok else Fine))) (counts a) (counts a)) (sym far)
        (subst (λ (e : Ending). Tells e (counts a) (counts a)) (sym (none_there node i)) (refl, refl)))
        so.each

    -- only disks that may have
    pub only_these : (l : Line) → (LeavesTrails x.session.met ⊎ (is_of_session l ≡ true)) → (i : ℕ) → so.ends i ≢ Fine → (is_of_session l ≡ true) ⊎ (is_of_protected x.system.layout i ≡ true)
    only_these l (inr on) i ne = inl on
    only_these l (inl leaves) i ne = go (either (is_of_protected x.system.layout i))
      where
        go : ((is_of_protected x.system.layout i ≡ true) ⊎ (is_of_protected x.system.layout i ≡ false)) → (is_of_session l ≡ true) ⊎ (is_of_protected x.system.layout i ≡ true)
        go (inl on) = inr on
        go (inr off) = absurd (ne (so.may leaves i (subst (λ (y : Layout). is_of_protected y i ≡ false) (sym was_of.laid) off)))

    pub caused_so : (l : Line) → (LeavesTrails x.session.met ⊎ (is_of_session l ≡ true)) → IsCausedInSession counts x.node.name l (told_by x.node.name told) (shown x) behind
    caused_so l leaves = record {
      line = Ok tt;
      met = so.met;
      answers = so.answers;
      named = told_named x.system.layout x.node.name (length (backup_disks (in_open x.session x.node))) told (is_placed x.system.layout x.node.name ended.is_open.placed) moved.many so.named;
      line_unstopped = tt;
      met_named = met_there so.met moved.many so.met_named;
      ends = so.ends;
      beside = so.beside;
      volumes = only_these l leaves;
      each = ends_each;
    }

    pub serves_behind : IsPlacedAt x.system.layout (node_of ss) → MayServe tells files counts behind
    serves_behind placed = serves_on swapped ss placed

    -- no fuse was given
    pub fuses_behind : EachUsed (λ node i a b. (counts b).fuses ≡ (counts a).fuses) (shown x) behind
    fuses_behind = each_used x.node.name (backup_disks (in_open x.session x.node)) (backup_disks now) (shown x) behind moved (λ node i a b. (counts b).fuses ≡ (counts a).fuses) (λ i a b. (counts b).fuses ≡ (counts a).fuses) (λ i a b k. k) (λ node far i a. refl) ended.keeps.fuses

    pub unused_behind : LeavesUnused (shown x) behind
    unused_behind = unused_stay x.node.name (backup_disks (in_open x.session x.node)) (backup_disks now) (shown x) behind moved swapped.same

    -- what the system keeps from the session on
    pub closed_keeps : (l : Line) (result : Result Reply StepFault) → IsPlacedAt x.system.layout (node_of ss) → is_fuse l ≡ false → (tells → IsSound result) → (Cause : Type 0) → Cause → IfOk result (λ reply. IsTold x.node.name (received (value_of x.session.shown)) l reply (shown x)) →
        IsJudged l result (shown x) → IsMoved l result (shown x) behind → Keeps tells files counts Cause l result (shown x) behind
    closed_keeps l result placed unfused sound Cause cause kinds judged moves_by = record {
      serves = serves_behind placed;
      laid = moved.laid;
      cause = cause;
      sound = λ t layout s is. sound t;
      fuses = inl (fuses_behind, ap (λ (t : Bool). t && is_done result) unfused);
      unused = unused_behind;
      kinds = AtEnd x.node.name ended.is_open.open_is (in_open x.session x.node) swapped.was-is refl kinds;
      judged = judged;
      moved = moves_by;
    }

    -- how the line that is answered there moves the nodes
    abbrev pub Stands : Reply → Type 0
    Stands reply = Stays reply (phase_at (in_open x.session x.node)) (phase_at now)

    moves_behind : (l : Line) (reply : Reply) → is_on_primary l ≡ false → ((other : Node) → is_done_by other l → x.node.name ≡ other) → MovesAt x.node.name l reply (phase_at (in_open x.session x.node)) (phase_at now) → ss ≡ behind_line x.system.session l reply → MovesTo (shown x).layout l reply (stances_of (shown x)) (stances_of behind)
    moves_behind l reply off owner here session = record {
      primary = primary_stays l reply (standing_at (shown x).primary) off;
      phases = λ other placed. each_moves l reply (shown x) behind other (site_moves (shown x) x.node.name site ss l reply owner (here_in (shown x) x.node.name site ss (in_open x.session x.node) now swapped.was-is refl (λ p q. MovesAt x.node.name l reply p q) here) other);
      session = session_behind ∙ session;
    }

    -- the line `end`
    pub end_moves : (r : Result Reply NodeFault) → IfOk r Stands → IfOk r (λ reply. ((x.session.met ≡ None) × IsNumber (received (value_of x.session.shown)) reply) ⊎ (reply ≡ Stopped x.node.name)) → IfOk r (λ reply. ss ≡ behind_line x.system.session line.End reply) → IsMoved line.End (told_by x.node.name r) (shown x) behind
    end_moves (Ok reply) stands (inl h) session = moves_behind line.End reply refl (λ other own. absurd own) (λ own. absurd own, λ never. inl (subst (λ (a : Reply). Stands a) h.1 stands)) session
    end_moves (Ok reply) stands (inr h) session = moves_behind line.End reply refl (λ other own. absurd own) (λ own. absurd own, λ never. inr (h, subst (λ (a : Reply). Stands a) h stands)) session
    end_moves (Err why) stands h session = tt

    -- and one that was broken off
    pub halted_moves : (l : Line) → is_done_by x.node.name l → (r : Result Reply NodeFault) → IfOk r Stands → IfOk r (λ reply. reply ≡ Stopped x.node.name) → IfOk r (λ reply. ss ≡ behind_line x.system.session l reply) → IsMoved l (told_by x.node.name r) (shown x) behind
    halted_moves l on (Ok reply) stands h session = moves_behind l reply (off_primary (shown x).layout l x.node.name ended.is_open.placed on) (λ other own. same_owner l x.node.name other on own) (
      λ own. subst (λ (a : Reply). MovesNode l a (phase_at (in_open x.session x.node)) (phase_at now)) (sym h) (subst (λ p. MovesNode l (Stopped x.node.name) (phase_at (in_open x.session x.node)) p) (sym (subst (λ (a : Reply). Stands a) h stands)) (moves_stopped l x.node.name (phase_at (in_open x.session x.node)))),
      λ never. absurd (never on),
    ) session
    halted_moves l on (Err why) stands h session = tt

-- what is told at the end of a session
module _ {D : Type 0} {d : Ghosts D} {tells : Type 0} {files : D → Disk} {counts : D → Counts} {x : OpenView D d} {told : Result Reply NodeFault} {now : BackupNode D d} (ended : Ended tells files counts x told now) where
  abbrev so_far : ℕ
  so_far = received (value_of x.session.shown)

  -- to the line `end`
  pub end_told : (r : Result Reply NodeFault) → IfOk r (λ reply. ((x.session.met ≡ None) × IsNumber so_far reply) ⊎ (reply ≡ Stopped x.node.name)) → IfOk (told_by x.node.name r) (λ reply. IsTold x.node.name so_far line.End reply (shown x))
  end_told (Ok reply) (inl h) = Received refl h.1
  end_told (Ok reply) (inr h) = Halted h (inr refl)
  end_told (Err why) h = tt

  -- and to a line that was broken off
  pub halted_told : (l : Line) → used_by x.system.session l ≡ Some x.node.name → (r : Result Reply NodeFault) → IfOk r (λ reply. reply ≡ Stopped x.node.name) → IfOk (told_by x.node.name r) (λ reply. IsTold x.node.name so_far l reply (shown x))
  halted_told l of (Ok reply) h = Halted h (inl of)
  halted_told l of (Err why) h = tt
