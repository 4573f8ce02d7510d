-- The lines that change one backup alone, as what the system does.
use Rattle.std.proofs.lemmas.Bool.{or_right}
use Rattle.std.proofs.Common.{◌≡◌, ◌≢◌, ◌⊎◌, inl, inr, ℕ, ◌+◌, ◌≤◌, Bool, true, false, not, ◌||◌, List, [], length, map, Option, Some, None, Result, Ok, Err, IsTrue, refl, sym, ap, ◌∙◌, subst, arith}
use Rattle.rdf_types.specs.declared.layout.Layout.{Layout}
use Rattle.rdf_types.specs.declared.records.Node.{Node}
use Rattle.rdf_disk.specs.Files.{Disk}
use Rattle.rdf_disk.specs.Counts.{Counts}
use Rattle.rdf_disk.specs.declared.disk.Disk.{Ghosts}
use Rattle.plan_lang.specs.declared.lines.Line.{Line}
use Rattle.plan_lang.specs.declared.lines.Line.TheVariants as line
use Rattle.plan_lang.specs.Sessions.{fits_session}
use Rattle.node_faults.specs.declared.NodeFault.{NodeFault}
use Rattle.rdf_core.specs.StopLaws.{stopped_is}
use Rattle.rdf_core.specs.declared.replies.NoWhy.{NoWhy}
use Rattle.rdf_core.specs.declared.replies.Reply.{Reply}
use Rattle.rdf_core.specs.declared.replies.Reply.TheVariants.{Done, Stopped}
use Rattle.rdf_core.specs.Allowed.{is_backup, has_names, allowed}
use Rattle.rdf_core.specs.Backup.{Backup, Around, backup_refusal, backup_parts, backup_after, backup_says, backup_fallen, is_running}
use Rattle.rdf_core.specs.Effects.{after_parts, parts_unless, reaches_disks, count_u64, IsDone, IsCutOff, Whole, Cut}
use Rattle.rdf_core.specs.Happens.{points_for, parts_of}
use Rattle.rdf_core.specs.Lines.{around}
use Rattle.rdf_core.specs.Sessions.{Session, Closed, Refused, Open, is_backup_node, with_cut}
use Rattle.plan_lang.specs.LineText.{same_node}
use Rattle.rdf_core.specs.Sound.{NoneHasFallen}
use Rattle.by_node.specs.Each.{Each, at, with_at, at-with_at}
use Rattle.rdf_core.specs.State.{State, with_backup, with_session, fallen}
use Rattle.rdf_core.specs.Step.{Step, BackupStep, Goes, disks_of, is_for_backup, is_of_session}
use Rattle.rdf_core.specs.PartLaws.{map_parts, all_done}
use Rattle.rdf_backup.specs.Beside.{is_beside}
use Rattle.rdf_backup.specs.Replies.{parts_of as backup_parts_of}
use Rattle.backup_node.specs.Nodes.{IsAt as BackupIsAt}
use Rattle.backup_node.specs.Lines as backup
use Rattle.rdf_system.specs.declared.session.SessionState.{SessionState}
use Rattle.rdf_system.specs.declared.session.SessionState.TheVariants as system
use Rattle.rdf_system.specs.declared.site.Site.{Site}
use Rattle.rdf_system.specs.declared.system.System.{System}
use Rattle.rdf_system.specs.Sessions.{node_of, used_by, IsPlacedAt, IsSession}
use Rattle.rdf_system.specs.States.{MayServe, IsAtState, SiteStandsFor}
use Rattle.rdf_system.specs.NodeLines.{is_of_backup, SiteDoes}
use Rattle.rdf_system.specs.OnNodes.{is_done_by}
use Rattle.rdf_system.specs.AllowedLaws.{allowed_at}
use Rattle.rdf_system.specs.Lines.{MayCount, MayLeave, Before, Within, Leaves, Follows, Performs, Does}
use Rattle.rdf_system.specs.Noting.{is_stop_of, noted, noted_node, behind}
use Rattle.rdf_system.proofs.Falling.{site_falls, site_turned}
use Rattle.rdf_system.proofs.Leaving.{counts_far, fell_counted, fell_more, none_reaches}
use Rattle.rdf_system.proofs.OnSite.{Asked, about, site_at, with_site, here, turned, was_at, site_answers, site_fails}
use Rattle.rdf_system.proofs.PlaceLaws.{backup_node_is, not_so, some_none, none_some}
use Rattle.rdf_core.specs.SessionLaws.{same_self}
use Rattle.rdf_system.proofs.SiteStates.{Beside, Turned, Rests, rests, now_stands, then_stands, leave_at, leave_far, leave_plain, follow_at}
use Rattle.rdf_system.proofs.SiteParts.{Stays, StaysOn, after_on, after_stop, behind_is, done_no_stop, done_on, for_backup, lifted_parts, lifted_refusal, no_end, only_name, own_fuse, stays, used_of, uses}
use Rattle.rdf_system.proofs.Telling.{either, no_stop_is, stop_of}
use Rattle.rdf_system.specs.Stances.{IsJudgedBy, stances_of}
use Rattle.std.proofs.lemmas.List.{length-map}
use Rattle.rdf_core.specs.RowLaws.{put_back, fallen_again}

-- what a backup does for a line on it alone is a step of the whole
abbrev pub Lifts : Type 0
Lifts = (layout : Layout) (points : List ℕ) (s : State) (node : Node) (l : Line) (reply : Reply) (new : Backup) → IsTrue (allowed layout s.session l) → is_backup_node node ≡ true → is_for_backup node l ≡ true → Goes layout s l points →
    IsDone (backup_refusal layout (around points s l) (at s.backups node) l) (λ why. at s.backups node) (backup_after layout (around points s l) (at s.backups node) l) (backup_says layout (around points s l) (at s.backups node) l) reply new →
    Step layout s l reply (with_backup s node new)

-- and what a stop leaves of it
abbrev pub LiftsCut : Type 0
LiftsCut = (layout : Layout) (points : List ℕ) (s : State) (node : Node) (l : Line) (done : ℕ) (reply : Reply) (new : Backup) → IsTrue (allowed layout s.session l) → is_backup_node node ≡ true → is_for_backup node l ≡ true → Goes layout s l points → disks_of l ≡ Some node →
    IsCutOff node backup_fallen (at s.backups node) (backup_refusal layout (around points s l) (at s.backups node) l) (backup_parts layout (around points s l) (at s.backups node) l) done reply new →
    Step layout s l reply (with_session (with_backup s node new) (with_cut s.session node))

-- a purge may go by the present restart points
abbrev pub PresentGo : Type 0
PresentGo = (layout : Layout) (s : State) (l : Line) → NoneHasFallen layout s s.session → Goes layout s l (points_for layout s l)

-- the session behind the line, as the machine and as the system have it

right_false : (a b : Bool) → b ≡ false → (a || b) ≡ a
right_false true b e = refl
right_false false b e = e

left_true : (a b : Bool) → a ≡ true → (a || b) ≡ true
left_true true b e = refl
left_true false b e = not_so e

some_is : (a b : Node) → Some a ≡ Some b → a ≡ b
some_is a b e = cc

-- a line that was refused or done leaves it
session_done : (layout : Layout) (backups : Each Backup) (name : Node) (b : Backup) (l : Line) (reply : Reply) (session : Session) (ss : SessionState) → Stays ss name l → IsSession layout backups session ss → (is_of_session l ≡ true → StaysOn (at backups name) b) →
    ((of : Node) → reply ≡ Stopped of → ⊥) → IsSession layout (with_at backups name b) session (noted ss reply)
session_done layout backups name b l reply Closed system.Closed st h on none = tt
session_done layout backups name b l reply (Refused of reason) (system.Refused node why) st h on none = h
session_done layout backups name b l reply (Open o) (system.Open node stopped) (inl e) h on none = absurd cc
session_done layout backups name b l reply (Open o) (system.Open node stopped) (inr k) h on none =
    let s : StaysOn (at backups name) b = on k.0 in
    let n : node ≡ name = some_is node name k.1 in
    record {
      node_is = h.node_is;
      placed = h.placed;
      many = h.many;
      met = h.met ∙ sym (right_false stopped (is_stop_of node reply) (no_stop_is node reply none));
      up = ap (λ (x : Node). (at (with_at backups name b) x).up) n ∙ ap (λ (x : Backup). x.up) (at-with_at backups name b) ∙ s.up ∙ sym (ap (λ (x : Node). (at backups x).up) n) ∙ h.up
          ∙ sym (ap not (right_false stopped (is_stop_of node reply) (no_stop_is node reply none)));
      runs = ap (λ (x : Node). is_running (at (with_at backups name b) x).volumes) n ∙ ap (λ (x : Backup). is_running x.volumes) (at-with_at backups name b) ∙ ap is_running s.volumes ∙ sym (ap (λ (x : Node). is_running (at backups x).volumes) n) ∙ h.runs;
    }
session_done layout backups name b l reply _ _ st h on none = absurd h

-- one that a stop cut off is noted in it
session_cut : (layout : Layout) (backups : Each Backup) (name : Node) (b : Backup) (l : Line) (reply : Reply) (session : Session) (ss : SessionState) → Stays ss name l → IsSession layout backups session ss → (is_of_session l ≡ true → b.up ≡ false × (b.volumes ≡ (at backups name).volumes)) →
    reply ≡ Stopped name → IsSession layout (with_at backups name b) (with_cut session name) (noted ss reply)
session_cut layout backups name b l reply Closed system.Closed st h on told = tt
session_cut layout backups name b l reply (Refused of reason) (system.Refused node why) st h on told = h
session_cut layout backups name b l reply (Open o) (system.Open node stopped) (inl e) h on told = absurd cc
session_cut layout backups name b l reply (Open o) (system.Open node stopped) (inr k) h on told =
    let s = on k.0 in
    let n : node ≡ name = some_is node name k.1 in
    let stop : (stopped || is_stop_of node reply) ≡ true = or_right stopped (is_stop_of node reply) (ap (λ (x : Node). is_stop_of x reply) n ∙ stop_of name reply told) in
    record {
      node_is = h.node_is;
      placed = h.placed;
      many = h.many;
      met = left_true (same_node o.node name || o.cut) _ (left_true (same_node o.node name) o.cut (ap (λ (x : Node). same_node x name) (h.node_is ∙ n) ∙ same_self name)) ∙ sym stop;
      up = ap (λ (x : Node). (at (with_at backups name b) x).up) n ∙ ap (λ (x : Backup). x.up) (at-with_at backups name b) ∙ s.0 ∙ sym (ap not stop);
      runs = ap (λ (x : Node). is_running (at (with_at backups name b) x).volumes) n ∙ ap (λ (x : Backup). is_running x.volumes) (at-with_at backups name b) ∙ ap is_running s.1 ∙ sym (ap (λ (x : Node). is_running (at backups x).volumes) n) ∙ h.runs;
    }
session_cut layout backups name b l reply _ _ st h on told = absurd h

-- what a fall without a stop leaves of a line that is done is what it leaves of all of its parts

fall_again : (layout : Layout) (w : Around) (b : Backup) (l : Line) → backup_fallen 0 (backup_after layout w b l) ≡ backup_fallen 0 (after_parts b (backup_parts layout w b l) (length (backup_parts layout w b l)))
fall_again layout w b (line.Restart node) = refl
fall_again layout w b (line.Cut node) = refl
fall_again layout w b l = ap (backup_fallen 0) (sym (all_done b (backup_parts layout w b l)))

-- a line that uses no disk and was not answered `ok` leaves the backup
still_there : (layout : Layout) (w : Around) (b : Backup) (l : Line) (reply : Reply) (new : Backup) → disks_of l ≡ None → reply ≢ Done → backup_says layout w b l reply → new ≡ backup_after layout w b l → new ≡ b
still_there layout w b (line.Cut node) reply new none ne says e = absurd (ne says)
still_there layout w b (line.Deliver node k) reply new none ne says e = some_none none
still_there layout w b (line.Takeover node) reply new none ne says e = some_none none
still_there layout w b (line.Purge node) reply new none ne says e = some_none none
still_there layout w b (line.Restart node) reply new none ne says e = some_none none
still_there layout w b (line.CopyAudit node from) reply new none ne says e = some_none none
still_there layout w b _ reply new none ne says e = e

-- a line that works volumes beside each other uses disks
uses_beside : (l : Line) → disks_of l ≡ None → is_beside l ≡ false
uses_beside (line.Takeover node) none = some_none none
uses_beside _ none = refl

module _ {D : Type 0} {d : Ghosts D} {tells : Type 0} {files : D → Disk} {old : System D d} {name : Node} {site : Site D d} (turned : Turned tells files old name site) (l : Line) (on : is_of_backup name l) (layout : Layout) (s : State) (is : Rests files layout s name old) where
  abbrev b : Backup
  b = at s.backups name

  abbrev bs : List Backup
  bs = backup_parts_of layout (about layout s l) b l

  backup_is : is_backup_node name ≡ true
  backup_is = backup_node_is old.layout name turned.placed

  -- what a stop leaves, with some first ones of the parts
  abbrev left_at : ℕ → ℕ → State
  left_at n done = with_session (with_backup s name (backup_fallen n (after_parts b bs done))) (with_cut s.session name)

  left_is : disks_of l ≡ Some name → (n done : ℕ) → left_at n done ≡ fallen name n (after_parts s (parts_of layout s l) done)
  left_is of n done = sym (
      ap (λ (xs : List State). fallen name n (after_parts s xs done)) (lifted_parts layout s name l backup_is on)
      ∙ ap (λ (x : State). fallen name n (after_parts x (map (with_backup s name) bs) done)) (sym (put_back s name))
      ∙ ap (fallen name n) (map_parts (with_backup s name) b bs done)
      ∙ fallen_again s name n (after_parts b bs done) backup_is
      )

  few_left : disks_of l ≡ Some name → (done : ℕ) → done ≤ length bs → done ≤ length (parts_of layout s l)
  few_left of done few = subst (λ (xs : List State). done ≤ length xs) (sym (lifted_parts layout s name l backup_is on)) (subst (λ n. done ≤ n) (sym (length-map bs (with_backup s name))) few)

  -- where no state or phase of a node refuses the line
  may_leave : disks_of l ≡ Some name → IsTrue (reaches_disks (backup_refusal layout (about layout s l) b l)) → (n done : ℕ) → done ≤ length bs → MayLeave layout s l (left_at n done)
  may_leave of reaches n done few = Within name of (subst (λ (o : Option NoWhy). IsTrue (reaches_disks o)) (sym (lifted_refusal layout s name l backup_is on)) reaches) done (few_left of done few) n (left_is of n done)

  before : MayLeave layout s l (with_session (with_backup s name b) s.session)
  before = Before (ap (λ (x : State). with_session x s.session) (put_back s name))

  counted_left : (done rise n : ℕ) → b.stops ≡ count_u64 n → (backup_fallen rise (after_parts b bs done)).stops ≡ count_u64 (n + rise)
  counted_left done rise n e = ap (λ k. count_u64 (k + rise)) (after_stop layout (about layout s l) b l done) ∙ fell_more b.stops n rise e

  -- broken off by a fault where nothing refuses it, with so many stops of this node more
  pub broken_off : tells → Beside files old → (ss : SessionState) → backup.Breaks files layout (about layout s l) b l turned.now →
      (more : Node → ℕ) → ((node : Node) → same_node name node ≡ false → more node ≡ 0) → disks_of l ≡ Some name → backup_refusal layout (about layout s l) b l ≡ None → Leaves files layout s l s more (with_site old name site ss)
  broken_off t beside ss f more none of e = leave_far turned layout s is ss beside more none (backup_fallen (more name) (after_parts b bs f.done)) (with_cut s.session name) s ([], refl)
      (may_leave of (none_reaches (backup_refusal layout (about layout s l) b l) e) (more name) f.done f.few) (now_stands turned layout s is t (backup_fallen (more name) (after_parts b bs f.done)) (f.at (more name))) (counted_left f.done (more name))

  -- broken off by a fault: one that works volumes beside each other was not refused
  broken : tells → Beside files old → (ss : SessionState) → backup.Breaks files layout (about layout s l) b l turned.now →
      (more : Node → ℕ) → MayCount l name more → Leaves files layout s l s more (with_site old name site ss)
  broken t beside ss f more count = go (uses name l on)
    where
      stands_fallen : (rise : ℕ) → SiteStandsFor files layout s.primary.trail (backup_fallen rise (after_parts b bs f.done)) site
      stands_fallen rise = now_stands turned layout s is t (backup_fallen rise (after_parts b bs f.done)) (f.at rise)

      -- a line that is refused has no parts, and the disks stand for the backup up or down
      stands_before : (why : NoWhy) → backup_refusal layout (about layout s l) b l ≡ Some why → SiteStandsFor files layout s.primary.trail b site
      stands_before why e = site_turned files layout s.primary.trail b.up b.stops (backup_fallen 0 b) site
          (subst (λ (xs : List Backup). SiteStandsFor files layout s.primary.trail (backup_fallen 0 (after_parts b xs f.done)) site) (ap (λ (r : Option NoWhy). parts_unless r (backup_parts layout (about layout s l) b l)) e) (stands_fallen 0))

      plain : (why : NoWhy) → backup_refusal layout (about layout s l) b l ≡ Some why → is_beside l ≡ false
      plain why e = elim (either (is_beside l)) [ inl t ↦ none_some (sym (f.unrefused t) ∙ e) | inr n ↦ n ]

      by_refusal : disks_of l ≡ Some name → (r : Option NoWhy) → backup_refusal layout (about layout s l) b l ≡ r → Leaves files layout s l s more (with_site old name site ss)
      by_refusal of None e = broken_off t beside ss f more (counts_far l name more count) of e
      by_refusal of (Some why) e = leave_plain turned layout s is ss beside more count (plain why e) b s.session s ([], refl) before (stands_before why e) (λ n e. e)

      go : ((disks_of l ≡ Some name) ⊎ (disks_of l ≡ None)) → Leaves files layout s l s more (with_site old name site ss)
      go (inl of) = by_refusal of (backup_refusal layout (about layout s l) b l) refl
      go (inr none) = leave_plain turned layout s is ss beside more count (uses_beside l none) b s.session s ([], refl) before (then_stands turned layout s is (f.before none)) (λ n e. e)

  module _ (reply : Reply) (new : Backup) (told_at : tells) (beside : Beside files old) (at_new : BackupIsAt files layout s.primary.trail new turned.now) (ss : SessionState) where
    new_stands : SiteStandsFor files layout s.primary.trail new site
    new_stands = now_stands turned layout s is told_at new at_new

    -- it left the backup
    left_before : (session : Session) → new ≡ b → Leaves files layout s l (with_session (with_backup s name new) session) (λ node. 0) (with_site old name site ss)
    left_before session e = leave_at turned layout s is ss beside new b session s.session s ([], refl) before (subst (λ (x : Backup). SiteStandsFor files layout s.primary.trail x site) e new_stands) (λ n f. ap (λ (x : Backup). x.stops) (sym e) ∙ f)

    -- refused or done
    left_done : (session : Session) → reply ≢ Done → (r : Option NoWhy) → backup_refusal layout (about layout s l) b l ≡ r → IsDone r (λ why. b) (backup_after layout (about layout s l) b l) (backup_says layout (about layout s l) b l) reply new →
        Leaves files layout s l (with_session (with_backup s name new) session) (λ node. 0) (with_site old name site ss)
    left_done session ne (Some why) e d = left_before session d.1
    left_done session ne None e d = go (uses name l on)
      where
        parts_are : bs ≡ backup_parts layout (about layout s l) b l
        parts_are = ap (λ (r : Option NoWhy). parts_unless r (backup_parts layout (about layout s l) b l)) e

        all : backup_fallen 0 new ≡ backup_fallen 0 (after_parts b bs (length bs))
        all = ap (backup_fallen 0) d.1 ∙ fall_again layout (about layout s l) b l ∙ ap (λ (xs : List Backup). backup_fallen 0 (after_parts b xs (length xs))) (sym parts_are)

        go : ((disks_of l ≡ Some name) ⊎ (disks_of l ≡ None)) → Leaves files layout s l (with_session (with_backup s name new) session) (λ node. 0) (with_site old name site ss)
        go (inr none) = left_before session (still_there layout (about layout s l) b l reply new none ne d.0 d.1)
        go (inl of) = leave_at turned layout s is ss beside new (backup_fallen 0 (after_parts b bs (length bs))) session (with_cut s.session name) s ([], refl) (may_leave of (none_reaches (backup_refusal layout (about layout s l) b l) e) 0 (length bs) (omega arith))
            (subst (λ (x : Backup). SiteStandsFor files layout s.primary.trail x site) all (site_falls files layout s.primary.trail 0 new site new_stands))
            (λ n f. ap (λ (x : Backup). x.stops) (sym all) ∙ fell_counted new.stops n f)

    -- cut off by a stop
    left_cut : (session : Session) → disks_of l ≡ Some name → (done : ℕ) → IsCutOff name backup_fallen b (backup_refusal layout (about layout s l) b l) (backup_parts layout (about layout s l) b l) done reply new →
        Leaves files layout s l (with_session (with_backup s name new) session) (λ node. 0) (with_site old name site ss)
    left_cut session of done off = leave_at turned layout s is ss beside new (backup_fallen off.rise (after_parts b bs done)) session (with_cut s.session name) s ([], refl) (may_leave of off.may off.rise done off.few)
        (subst (λ (x : Backup). SiteStandsFor files layout s.primary.trail x site) off.leaves new_stands) (λ n f. ap (λ (x : Backup). x.stops) (sym off.leaves) ∙ f)

  -- answered
  pub answered : IsTrue (allowed layout s.session l) → IsSession layout s.backups s.session old.session → (reply : Reply) (rise : ℕ) → tells → Beside files old → Lifts → LiftsCut → Goes layout s l (points_for layout s l) → Stays old.session name l → backup.Follows files layout (about layout s l) name b l rise reply turned.now →
      Follows files layout s (used_by old.session l) l rise reply (with_site old name site (noted old.session reply))
  answered may session reply rise t beside lifts cuts goes st f = go f.next f.step f.at f.stops
    where
      only : (node : Node) → used_by old.session l ≡ Some node → node ≡ name
      only node e = only_name name l on node (sym (used_of old.session name l on) ∙ e)

      told : (new : Backup) → BackupStep layout (about layout s l) b l reply new → (node : Node) → reply ≡ Stopped node → used_by old.session l ≡ Some node
      told new (Whole done) node e = absurd (done_no_stop layout (about layout s l) b l reply new done node e)
      told new (Cut by of done off) node e = used_of old.session name l on ∙ of ∙ ap (λ (n : Node). Some n) (stopped_is by node (sym off.says ∙ e))

      go : (new : Backup) → BackupStep layout (about layout s l) b l reply new → BackupIsAt files layout s.primary.trail new turned.now → backup.CountsStops name reply rise b new →
          Follows files layout s (used_by old.session l) l rise reply (with_site old name site (noted old.session reply))
      go new (Whole done) h stops = follow_at turned layout s is (noted old.session reply) (used_by old.session l) only rise reply s ([], refl) new s.session
          (lifts layout (points_for layout s l) s name l reply new may backup_is (for_backup name l on) goes done) h
          (session_done layout s.backups name new l reply s.session old.session st session (λ e. done_on layout (about layout s l) b l reply new e done) (λ of e. done_no_stop layout (about layout s l) b l reply new done of e))
          stops (told new (Whole done)) (λ ne. left_done reply new t beside h (noted old.session reply) s.session ne (backup_refusal layout (about layout s l) b l) refl done)
      go new (Cut by of done off) h stops = here (subst (λ (n : Node). disks_of l ≡ Some n) own of)
          (subst (λ (n : Node). IsCutOff n backup_fallen b (backup_refusal layout (about layout s l) b l) (backup_parts layout (about layout s l) b l) done reply new) own off)
        where
          own : by ≡ name
          own = only_name name l on by of

          here : disks_of l ≡ Some name → IsCutOff name backup_fallen b (backup_refusal layout (about layout s l) b l) (backup_parts layout (about layout s l) b l) done reply new →
              Follows files layout s (used_by old.session l) l rise reply (with_site old name site (noted old.session reply))
          here of off = follow_at turned layout s is (noted old.session reply) (used_by old.session l) only rise reply s ([], refl) new (with_cut s.session name)
              (cuts layout (points_for layout s l) s name l done reply new may backup_is (for_backup name l on) goes of off) h
              (session_cut layout s.backups name new l reply s.session old.session st session (λ e. (ap (λ (x : Backup). x.up) off.leaves, ap (λ (x : Backup). x.volumes) off.leaves ∙ (after_on layout (about layout s l) b l e done).volumes)) off.says)
              stops (told new (Cut name of done off)) (λ ne. left_cut reply new t beside h (noted old.session reply) (with_cut s.session name) of done off)

-- a line that changes the backup alone is one that its node does
done_on_it : (name : Node) (l : Line) → is_of_backup name l → is_done_by name l
done_on_it name (line.Session node) on = absurd on
done_on_it name (line.Read node key) on = absurd on
done_on_it name _ on = on

-- the whole of it

module _ {D : Type 0} {d : Ghosts D} {tells : Type 0} {files : D → Disk} {counts : D → Counts} {old : System D d} (name : Node) (Holds : Layout → Around → Backup → Type 0) {l : Line} {site : Site D d}
    (on : is_of_backup name l) (serves : MayServe tells files counts old) (placed : is_backup old.layout name ≡ true) (names : has_names old.layout l ≡ true) (fits : fits_session (node_of old.session) l ≡ true) (beside : tells → Beside files old)
    (suits : tells → (layout : Layout) (s : State) → IsAtState files layout s old → Holds layout (about layout s l) (at s.backups name)) where
  pub asked_for : (result : Result Reply NodeFault) → SiteDoes tells files counts old.layout (backup.PerformsWhere files Holds l result) l result (site_at old name) site → Asked tells files counts old name (backup.PerformsWhere files Holds l result) l result site
  asked_for result does = record {
    serves = serves;
    placed = placed;
    only = λ node e. only_name name l on node (sym (used_of old.session name l on) ∙ e);
    ended = λ e. absurd (no_end name l on e);
    own = own_fuse name l on;
    on = done_on_it name l on;
    does = does;
  }

  pub plain_answers : (reply : Reply) → IsJudgedBy (stances_of old) l reply → Lifts → LiftsCut → PresentGo → SiteDoes tells files counts old.layout (backup.PerformsWhere files Holds l (Ok reply)) l (Ok reply) (site_at old name) site →
      Does tells files counts l (Ok reply) old (with_site old name site (behind old.session l reply))
  plain_answers reply judged lifts cuts go_by does = subst (λ (x : SessionState). Does tells files counts l (Ok reply) old (with_site old name site x)) (sym (behind_is old.session name l reply on))
      (site_answers reply asked (noted old.session reply) (subst (λ (o : Option Node). IsPlacedAt old.layout o) (sym (noted_node old.session reply)) serves.whole.session)
      (sym (behind_is old.session name l reply on)) judged performs)
    where
      asked : Asked tells files counts old name (backup.PerformsWhere files Holds l (Ok reply)) l (Ok reply) site
      asked = asked_for (Ok reply) does

      performs : tells → Performs files l (Ok reply) old (with_site old name site (noted old.session reply))
      performs t layout s rise some risen is = answered (turned asked) l on layout s (rests name is) (allowed_at l is names fits) is.session reply rise t (beside t) lifts cuts (go_by layout s l risen) (stays old.session name l on fits)
          (subst (λ (n : Node). backup.Follows files layout (about layout s l) n (at s.backups name) l rise reply (here asked).now) (here asked).of.named
          ((here asked).does.performs t layout (about layout s l) (at s.backups name) rise some (suits t layout s is) (was_at asked layout s is)))

  pub plain_fails : (why : NodeFault) → SiteDoes tells files counts old.layout (backup.PerformsWhere files Holds l (Err why)) l (Err why) (site_at old name) site → Does tells files counts l (Err (record { node = name; fault = why })) old (with_site old name site old.session)
  plain_fails why does = site_fails why asked performs
    where
      asked : Asked tells files counts old name (backup.PerformsWhere files Holds l (Err why)) l (Err why) site
      asked = asked_for (Err why) does

      performs : tells → Performs files l (Err (record { node = name; fault = why })) old (with_site old name site old.session)
      performs t layout s rise some risen is = broken (turned asked) l on layout s (rests name is) t (beside t) old.session
          ((here asked).does.performs t layout (about layout s l) (at s.backups name) rise some (suits t layout s is) (was_at asked layout s is))
