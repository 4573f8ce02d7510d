-- A line on the primary, or its restart, as what the system does.
use Rattle.std.proofs.Common.{◌≡◌, inl, inr, ℕ, suc, ◌+◌, ◌≤◌, ◌&&◌, ◌==◌, if◌then◌else◌, Bool, true, false, List, [], ◌++◌, length, Option, Some, None, Result, Ok, Err, IsTrue, refl, sym, ap, ◌∙◌, subst}
use Rattle.rdf_types.specs.declared.layout.Layout.{Layout}
use Rattle.rdf_types.specs.declared.records.Node.{Node}
use Rattle.rdf_types.specs.declared.records.Node.TheVariants.{A, B, C}
use Rattle.rdf_types.specs.declared.records.Record.{Record}
use Rattle.rdf_model.specs.Contents.{nothing}
use Rattle.rdf_model.specs.Legal.{Legal}
use Rattle.rdf_disk.specs.Files.{Disk}
use Rattle.rdf_disk.specs.Counts.{Counts, fused}
use Rattle.rdf_disk.specs.declared.disk.Disk.{Ghosts}
use Rattle.plan_lang.specs.declared.lines.Line.{Line}
use Rattle.plan_lang.specs.declared.lines.Line.TheVariants as line
use Rattle.node_faults.specs.declared.NodeFault.{NodeFault}
use Rattle.node_disks.specs.Counting as counting
use Rattle.node_disks.specs.CutLaws.{same_length}
use Rattle.rdf_core.specs.declared.replies.NoWhy.{NoWhy}
use Rattle.rdf_core.specs.declared.replies.NoWhy.TheVariants as no
use Rattle.rdf_core.specs.declared.replies.Reply.{Reply}
use Rattle.rdf_core.specs.declared.replies.Reply.TheVariants.{Number, No, Stopped}
use Rattle.rdf_core.specs.Agreement.{is_ok}
use Rattle.plan_lang.specs.Sessions.{fits_session}
use Rattle.rdf_core.specs.Allowed.{has_names, allowed}
use Rattle.rdf_core.specs.Backup.{Backup}
use Rattle.rdf_core.specs.Effects.{after_parts, parts_unless, reaches_disks, count_u64, IsDone, IsCutOff, Whole as Ended, Cut}
use Rattle.rdf_core.specs.Lines.{restarted}
use Rattle.rdf_core.specs.Happens.{parts_of}
use Rattle.rdf_core.specs.Primary.{Primary as State, primary_refusal, primary_parts, primary_after, primary_says, primary_fallen}
use Rattle.rdf_core.specs.Sender.{Sender, forgotten}
use Rattle.plan_lang.specs.LineText.{same_node}
use Rattle.by_node.specs.Each.{Each, at, map_each}
use Rattle.rdf_core.specs.State.{State as Whole, with_primary, fallen}
use Rattle.rdf_core.specs.Step.{Step, PrimaryStep, disks_of, is_for_primary}
use Rattle.rdf_core.specs.GrowthLaws.{Grows, parts_stops}
use Rattle.rdf_core.specs.RowLaws.{of_backup}
use Rattle.rdf_core.specs.Sessions.{is_backup_node}
use Rattle.rdf_core.specs.PartLaws.{map_parts}
use Rattle.rdf_primary.specs.Replies.{NoneEarly, primary_parts_of}
use Rattle.rdf_primary.specs.Standing.{PrimaryStandsFor}
use Rattle.primary_node.specs.declared.node.PrimaryNode.{PrimaryNode}
use Rattle.primary_node.specs.Nodes.{disks_at, IsAt}
use Rattle.primary_node.specs.Lines as primary
use Rattle.senders.specs.Sending.{Sending, AreSenders}
use Rattle.rdf_system.specs.declared.site.Site.{Site}
use Rattle.rdf_system.specs.declared.system.System.{System}
use Rattle.rdf_system.specs.States.{MayServe, IsAtState, IsAtSite, SiteStandsFor, DisksStandFor, disks_of_node, site_disks}
use Rattle.rdf_system.specs.NodeLines.{is_on_primary, site_at, PrimaryDoes}
use Rattle.rdf_system.specs.Kinds.{ByPrimary}
use Rattle.rdf_system.specs.Sessions.{node_of, used_by}
use Rattle.rdf_system.specs.AllowedLaws.{allowed_at}
use Rattle.rdf_system.specs.Lines.{stops_in, fuses_of, Before, Within, MayCount, Leaves, Follows, Does}
use Rattle.rdf_system.proofs.NearLines.{lifted_parts, lifted_refusal, only_a, uses_a}
use Rattle.rdf_system.proofs.Leaving.{KeepsStops, counts_none, fell_counted, keeps_more}
use Rattle.rdf_system.proofs.Telling.{near_primary, no_end, step_grows, some_grow, used_near}
use Rattle.rdf_system.proofs.Answering.{follows}
use Rattle.rdf_system.proofs.NodeLaws.{node_many}
use Rattle.rdf_system.proofs.Moving.{Moves, causes_one, fails_one, many_stay, unused_stay, fail_by, reply_caused, reply_fused, fault_fused}
use Rattle.std.proofs.lemmas.List.{length-map}
use Rattle.rdf_system.proofs.PlaceLaws.{backup_beside, not_so}
use Rattle.primary_node.specs.Moves.{standing_at}
use Rattle.rdf_system.specs.Stances.{stances_of}
use Rattle.rdf_system.proofs.Judging.{primary_judged, session_on_primary, unlost}
use Rattle.rdf_system.proofs.MovedLaws.{primary_moves, stays_on_primary}

-- what a site is at over a trail it is at over a longer one
abbrev pub Longer : {D : Type 0} {d : Ghosts D} → (D → Disk) → Site D d → Type 0
Longer files site = (layout : Layout) (trail more : List Record) (b : Backup) → Legal nothing (trail ++ more) → IsAtSite files layout trail b site → IsAtSite files layout (trail ++ more) b site

-- the disks of a site stand for what it is at
abbrev pub Stands : {D : Type 0} {d : Ghosts D} → (D → Disk) → Site D d → Type 0
Stands files site = (layout : Layout) (trail : List Record) (b : Backup) → IsAtSite files layout trail b site → SiteStandsFor files layout trail b site

-- the senders over a trail are those over a longer one
abbrev pub SendersLonger : Type 0
SendersLonger = (layout : Layout) (trail more : List Record) (machine : Each Sender) (sending : Sending) → AreSenders layout trail machine sending → AreSenders layout (trail ++ more) machine sending

-- a step of the primary alone is one of the whole
abbrev pub Lifts : Type 0
Lifts = (layout : Layout) (s : Whole) (l : Line) (reply : Reply) (new : State) → IsTrue (allowed layout s.session l) → is_for_primary l ≡ true → PrimaryStep layout s.primary l reply new → Step layout s l reply (with_primary s new)

-- a restart that is done, refused, or cut off is a step of the whole
abbrev pub LiftsDone : Type 0
LiftsDone = (layout : Layout) (s : Whole) (reply : Reply) → IsTrue (allowed layout s.session (line.Restart A)) → primary_refusal layout s.primary (line.Restart A) ≡ None → primary_says s.primary (line.Restart A) reply → Step layout s (line.Restart A) reply (restarted s (line.Restart A))

abbrev pub LiftsRefused : Type 0
LiftsRefused = (layout : Layout) (s : Whole) (why : NoWhy) → IsTrue (allowed layout s.session (line.Restart A)) → primary_refusal layout s.primary (line.Restart A) ≡ Some why → Step layout s (line.Restart A) (No why) s

abbrev pub LiftsCut : Type 0
LiftsCut = (layout : Layout) (s : Whole) (done : ℕ) (reply : Reply) (new : State) → IsTrue (allowed layout s.session (line.Restart A)) →
    IsCutOff A primary_fallen s.primary (primary_refusal layout s.primary (line.Restart A)) (primary_parts s.primary (line.Restart A)) done reply new → Step layout s (line.Restart A) reply (with_primary s new)

-- what only a volume can tell is no state of a node
early_reaches : (r : Option NoWhy) → NoneEarly r → IsTrue (reaches_disks r)
early_reaches (Some no.Lost) h = not_so h
early_reaches (Some no.Down) h = not_so h
early_reaches (Some no.Up) h = not_so h
early_reaches (Some no.PrimaryUp) h = not_so h
early_reaches (Some no.Running) h = not_so h
early_reaches (Some no.Taking) h = not_so h
early_reaches (Some no.Taken) h = not_so h
early_reaches _ h = refl

-- fuses of the primary's disks
fuses_here : (l : Line) → is_on_primary l ≡ true → (i : ℕ) (c : Counts) → counting.fuses_of l i c ≡ fuses_of l A i c
fuses_here (line.Fuse A disk calls tear) e i c = refl
fuses_here (line.Fuse B disk calls tear) e i c = not_so e
fuses_here (line.Fuse C disk calls tear) e i c = not_so e
fuses_here _ e i c = refl

fuses_far : (l : Line) → is_on_primary l ≡ true → (node : Node) → same_node A node ≡ false → (i : ℕ) (c : Counts) → c.fuses ≡ fuses_of l node i c
fuses_far (line.Fuse A disk calls tear) e node far i c = sym (ap (λ (b : Bool). if b && i == disk then (fused c).fuses else c.fuses) far)
fuses_far (line.Fuse B disk calls tear) e node far i c = not_so e
fuses_far (line.Fuse C disk calls tear) e node far i c = not_so e
fuses_far _ e node far i c = refl

-- a restart by its reply

number_is : (n : ℕ) (reply : Reply) → reply ≡ Number n → is_ok reply ≡ true
number_is n reply e = ap is_ok e

no_such : {X : Type 0} (why : NoWhy) (reply : Reply) → reply ≡ No why → is_ok reply ≡ true → X
no_such why reply e f = not_so (sym (ap is_ok e) ∙ f)

no_stop : {X : Type 0} (node : Node) (reply : Reply) → reply ≡ Stopped node → is_ok reply ≡ true → X
no_stop node reply e f = not_so (sym (ap is_ok e) ∙ f)

true_false : {X : Type 0} (b : Bool) → b ≡ true → b ≡ false → X
true_false b t f = not_so (sym f ∙ t)

-- one that is told by a number is done
restart_did : (layout : Layout) (s : Whole) (reply : Reply) (next : State) → IsTrue (allowed layout s.session (line.Restart A)) → LiftsDone → is_ok reply ≡ true → PrimaryStep layout s.primary (line.Restart A) reply next → Step layout s (line.Restart A) reply (record (restarted s (line.Restart A)) { primary = next })
restart_did layout s reply next may lifts ok (Cut node of done off) = no_stop node reply off.says ok
restart_did layout s reply next may lifts ok (Ended d) = go (primary_refusal layout s.primary (line.Restart A)) refl d
  where
    go : (o : Option NoWhy) → primary_refusal layout s.primary (line.Restart A) ≡ o → IsDone o (λ why. s.primary) (primary_after s.primary (line.Restart A)) (primary_says s.primary (line.Restart A)) reply next →
        Step layout s (line.Restart A) reply (record (restarted s (line.Restart A)) { primary = next })
    go None e f = subst (λ (a : State). Step layout s (line.Restart A) reply (record (restarted s (line.Restart A)) { primary = a })) (sym f.1) (lifts layout s reply may e f.0)
    go (Some why) e f = no_such why reply f.0 ok

-- any other changed the primary alone
restart_other : (layout : Layout) (s : Whole) (reply : Reply) (next : State) → IsTrue (allowed layout s.session (line.Restart A)) → LiftsRefused → LiftsCut → is_ok reply ≡ false → PrimaryStep layout s.primary (line.Restart A) reply next → Step layout s (line.Restart A) reply (with_primary s next)
restart_other layout s reply next may refuses cuts other (Cut node of done off) =
    cuts layout s done reply next may (subst (λ (n : Node). IsCutOff n primary_fallen s.primary (primary_refusal layout s.primary (line.Restart A)) (primary_parts s.primary (line.Restart A)) done reply next) (only_a (line.Restart A) refl node of) off)
restart_other layout s reply next may refuses cuts other (Ended d) = go (primary_refusal layout s.primary (line.Restart A)) refl d
  where
    go : (o : Option NoWhy) → primary_refusal layout s.primary (line.Restart A) ≡ o → IsDone o (λ why. s.primary) (primary_after s.primary (line.Restart A)) (primary_says s.primary (line.Restart A)) reply next → Step layout s (line.Restart A) reply (with_primary s next)
    go None e f = true_false (is_ok reply) (number_is _ reply f.0) other
    go (Some why) e f = subst (λ (r : Reply). Step layout s (line.Restart A) r (with_primary s next)) (sym f.0) (subst (λ (a : State). Step layout s (line.Restart A) (No why) (with_primary s a)) (sym f.1) (refuses layout s why may e))

-- a line leaves as many disks
fused_many : {D : Type 0} {d : Ghosts D} (counts : D → Counts) (l : Line) (r : Result Reply NodeFault) (old new : PrimaryNode D d) → primary.IsFused counts l r old new → length (disks_at new) ≡ length (disks_at old)
fused_many counts l r old new (inl h) = same_length (λ i x y. (counts y).fuses ≡ (counts x).fuses) (disks_at old) (disks_at new) h.0
fused_many counts l r old new (inr h) = same_length (λ i x y. (counts y).fuses ≡ counting.fuses_of l i (counts x)) (disks_at old) (disks_at new) h.1

module _ {D : Type 0} {d : Ghosts D} (tells : Type 0) (files : D → Disk) (counts : D → Counts) (old : System D d) (serves : MayServe tells files counts old)
    (longer : tells → (node : Node) → Longer files (site_at old node)) (stand : tells → (node : Node) → Stands files (site_at old node)) (senders_longer : SendersLonger)
    (l : Line) (on : is_on_primary l ≡ true) (result : Result Reply NodeFault) (p : PrimaryNode D d) (does : PrimaryDoes tells files counts l result old.primary p) (ss : Sending) where
  abbrev After : System D d
  After = record old { primary = p; senders = ss }

  moves : Moves A (disks_at old.primary) (disks_at p) old After
  moves = record {
    laid = refl;
    there = refl;
    many = node_many tells files counts old.primary serves.primary ∙ ap suc serves.whole.sized;
    spare = site_disks (site_at old A);
    before = refl;
    behind = refl;
    others = others;
  }
    where
      others : (node : Node) → same_node A node ≡ false → disks_of_node After node ≡ disks_of_node old node
      others node e = ap (λ (xs : List D). xs ++ site_disks (site_at old node)) (of_backup node (disks_at p) [] (backup_beside node e) ∙ sym (of_backup node (disks_at old.primary) [] (backup_beside node e)))

  same : length (disks_at p) ≡ length (disks_at old.primary)
  same = fused_many counts l result old.primary p does.does.fuses

  serves_on : MayServe tells files counts After
  serves_on = record {
    whole = record {
      many = λ node. many_stay A (disks_at old.primary) (disks_at p) old After moves same node ∙ serves.whole.many node;
      sized = does.does.sized ∙ serves.whole.sized;
      sites = serves.whole.sites;
      shelf = serves.whole.shelf;
      session = serves.whole.session;
    };
    primary = does.does.serves;
    sites = serves.sites;
  }

  module _ (t : tells) (layout : Layout) (s : Whole) (is : IsAtState files layout s old) (a : State) (grows : Grows s.primary.trail a.trail) (is_at : IsAt files layout a p) where
    stands_a : PrimaryStandsFor files layout a (disks_at p)
    stands_a = does.stands t layout a is_at

    over_more : (site : Site D d) (b : Backup) → Longer files site → IsAtSite files layout s.primary.trail b site → IsAtSite files layout a.trail b site
    over_more site b law h = subst (λ (r : List Record). IsAtSite files layout r b site) (sym grows.1)
        (law layout s.primary.trail grows.0 b (subst (λ (r : List Record). Legal nothing r) grows.1 stands_a.trail.legal) h)

    sent_more : (machine : Each Sender) (sending : Sending) → AreSenders layout s.primary.trail machine sending → AreSenders layout a.trail machine sending
    sent_more machine sending h = subst (λ (r : List Record). AreSenders layout r machine sending) (sym grows.1) (senders_longer layout s.primary.trail grows.0 machine sending h)

    -- the disks of all nodes, where the primary is at that state
    disks_stand : (next : Whole) → next.primary ≡ a → next.backups ≡ s.backups → DisksStandFor files layout next After
    disks_stand next pe be = record {
      laid = is.laid;
      primary = subst (λ (x : State). PrimaryStandsFor files layout x (disks_at p)) (sym pe) stands_a;
      sites = λ node. subst (λ (x : Each Backup). SiteStandsFor files layout next.primary.trail (at x node) (site_at old node)) (sym be)
          (subst (λ (x : State). SiteStandsFor files layout x.trail (at s.backups node) (site_at old node)) (sym pe) (stand t node layout a.trail (at s.backups node) (over_more (site_at old node) (at s.backups node) (longer t node) (is.sites node))));
    }

    -- the system is at the state, whose senders are these
    at_state : (machine : Each Sender) → AreSenders layout s.primary.trail machine ss → IsAtState files layout (record s { primary = a; senders = machine }) After
    at_state machine sent = record {
      laid = is.laid;
      primary = is_at;
      senders = sent_more machine ss sent;
      sites = λ node. over_more (site_at old node) (at s.backups node) (longer t node) (is.sites node);
      session = is.session;
    }

    -- a line that was answered
    answered : (rise : ℕ) (reply : Reply) (machine : Each Sender) → AreSenders layout s.primary.trail machine ss → Step layout s l reply (record s { primary = a; senders = machine }) → primary.CountsStops reply rise s.primary a →
        Follows files layout s (used_by old.session l) l rise reply After
    answered rise reply machine sent step stops = follows files layout s old.session l rise reply (record s { primary = a; senders = machine }) After A (near_primary l on) (only_a l on) others stops step
        (at_state machine sent) (disks_stand (record s { primary = a; senders = machine }) refl refl)
      where
        others : (node : Node) → same_node A node ≡ false → stops_in (record s { primary = a; senders = machine }) node ≡ stops_in s node
        others node e = of_backup node a.stops (at s.backups node).stops (backup_beside node e) ∙ sym (of_backup node s.primary.stops (at s.backups node).stops (backup_beside node e))

  -- what is left where it was broken off
  module _ (t : tells) (layout : Layout) (s : Whole) (is : IsAtState files layout s old) (f : primary.Breaks files layout s.primary l p) where
    part_left : fallen A 0 (after_parts s (parts_of layout s l) f.done) ≡ with_primary s (primary_fallen 0 (after_parts s.primary (primary_parts_of layout s.primary l) f.done))
    part_left = ap (λ (xs : List Whole). fallen A 0 (after_parts s xs f.done)) (lifted_parts layout s l on) ∙ ap (fallen A 0) (map_parts (with_primary s) s.primary (primary_parts_of layout s.primary l) f.done)

    few_left : f.done ≤ length (parts_of layout s l)
    few_left = subst (λ (xs : List Whole). f.done ≤ length xs) (sym (lifted_parts layout s l on)) (subst (λ n. f.done ≤ n) (sym (length-map (primary_parts_of layout s.primary l) (with_primary s))) f.few)

    keeps : KeepsStops s (with_primary s (primary_fallen 0 (after_parts s.primary (primary_parts_of layout s.primary l) f.done)))
    keeps node n = go (is_backup_node node)
      where
        unless_stops : (r : Option NoWhy) → (after_parts s.primary (parts_unless r (primary_parts s.primary l)) f.done).stops ≡ s.primary.stops
        unless_stops r = parts_stops s.primary r _ f.done

        go : (b : Bool) → (if b then (at s.backups node).stops else s.primary.stops) ≡ count_u64 n →
            (if b then (at s.backups node).stops else (primary_fallen 0 (after_parts s.primary (primary_parts_of layout s.primary l) f.done)).stops) ≡ count_u64 n
        go false e = ap (λ k. count_u64 (k + 0)) (unless_stops (primary_refusal layout s.primary l)) ∙ fell_counted s.primary.stops n e
        go true e = e

    left_within : disks_of l ≡ Some A → (more : Node → ℕ) → MayCount l A more → Leaves files layout s l s more After
    left_within of more may = record {
      mid = s;
      drifts = ([], refl);
      left = with_primary s (primary_fallen 0 (after_parts s.primary (primary_parts_of layout s.primary l) f.done));
      leaves = Within A of (subst (λ (o : Option NoWhy). IsTrue (reaches_disks o)) (sym (lifted_refusal layout s l on)) (early_reaches (primary_refusal layout s.primary l) f.unrefused)) f.done few_left 0 (sym part_left);
      stands = disks_stand t layout s is (primary_fallen 0 (after_parts s.primary (primary_parts_of layout s.primary l) f.done)) (some_grow (primary_refusal layout s.primary l) s.primary l f.done) f.at
          (with_primary s (primary_fallen 0 (after_parts s.primary (primary_parts_of layout s.primary l) f.done))) refl refl;
      stops = keeps_more more s (with_primary s (primary_fallen 0 (after_parts s.primary (primary_parts_of layout s.primary l) f.done))) (counts_none l A more may refl) keeps;
    }

    left_before : disks_of l ≡ None → (more : Node → ℕ) → MayCount l A more → Leaves files layout s l s more After
    left_before none more may = record {
      mid = s;
      drifts = ([], refl);
      left = s;
      leaves = Before refl;
      stands = record { laid = is.laid; primary = f.before none; sites = λ node. stand t node layout s.primary.trail (at s.backups node) (is.sites node) };
      stops = keeps_more more s s (counts_none l A more may refl) (λ node n e. e);
    }

    broken : (more : Node → ℕ) → MayCount l A more → Leaves files layout s l s more After
    broken more may = elim (uses_a l on) [ inl of ↦ left_within of more may | inr none ↦ left_before none more may ]

-- the whole of it

module _ {D : Type 0} {d : Ghosts D} (tells : Type 0) (files : D → Disk) (counts : D → Counts) (old : System D d) (serves : MayServe tells files counts old)
    (longer : tells → (node : Node) → Longer files (site_at old node)) (stand : tells → (node : Node) → Stands files (site_at old node)) (senders_longer : SendersLonger)
    (l : Line) (on : is_on_primary l ≡ true) (p : PrimaryNode D d) where
  module _ (reply : Reply) (does : PrimaryDoes tells files counts l (Ok reply) old.primary p) (named : has_names old.layout l ≡ true) (fits : fits_session (node_of old.session) l ≡ true) where
    -- an answer of the primary, where its step is one of the whole with these senders
    does_ok : (ss : Sending) (machine : Each Sender → Each Sender) →
        ((layout : Layout) (trail : List Record) (senders : Each Sender) → AreSenders layout trail senders old.senders → AreSenders layout trail (machine senders) ss) →
        ((layout : Layout) (s : Whole) (a : State) → IsTrue (allowed layout s.session l) → PrimaryStep layout s.primary l reply a → Step layout s l reply (record s { primary = a; senders = machine s.senders })) →
        Does tells files counts l (Ok reply) old (record old { primary = p; senders = ss })
    does_ok ss machine sent step = record {
      performs = λ t layout s rise some risen is. let f : primary.Follows files layout s.primary l rise reply p = does.does.performs t layout s.primary rise some is.primary in
          answered tells files counts old serves longer stand senders_longer l on (Ok reply) p does ss t layout s is f.next (step_grows layout s.primary l reply f.next f.step) f.at rise reply (machine s.senders) (sent layout s.primary.trail s.senders is.senders)
          (step layout s f.next (allowed_at l is named fits) f.step) f.stops;
      keeps = record {
        serves = serves_on tells files counts old serves longer stand senders_longer l on (Ok reply) p does ss;
        laid = refl;
        cause = reply_caused A (disks_at old.primary) (disks_at p) old (record old { primary = p; senders = ss }) (moves tells files counts old serves longer stand senders_longer l on (Ok reply) p does ss) counts l reply (λ node e. only_a l on node (sym (used_near old.session l (near_primary l on)) ∙ e)) (λ e. absurd (no_end l (near_primary l on) e))
            (causes_one counts (disks_at old.primary) (disks_at p) false A reply does.does.cause);
        sound = λ t layout s is. tt;
        fuses = reply_fused A (disks_at old.primary) (disks_at p) old (record old { primary = p; senders = ss }) (moves tells files counts old serves longer stand senders_longer l on (Ok reply) p does ss) counts l reply (fuses_here l on) (fuses_far l on) does.does.fuses;
        unused = unused_stay A (disks_at old.primary) (disks_at p) old (record old { primary = p; senders = ss }) (moves tells files counts old serves longer stand senders_longer l on (Ok reply) p does ss)
            (same tells files counts old serves longer stand senders_longer l on (Ok reply) p does ss);
        kinds = ByPrimary on does.does.kinds;
        judged = primary_judged old.primary (stances_of old).phases old.session (unlost tells files counts old.primary serves.primary) l on reply does.does.kinds;
        moved = record {
          primary = primary_moves l reply (standing_at old.primary) (standing_at p) on does.does.moved;
          phases = λ name placed. stays_on_primary old.layout l on name placed reply (at (stances_of old).phases name);
          session = session_on_primary old.primary old.layout old.session l serves.whole.session on reply does.does.kinds;
        };
      };
    }

    -- a line on the primary alone
    pub primary_answers : Lifts → is_for_primary l ≡ true → Does tells files counts l (Ok reply) old (record old { primary = p })
    primary_answers lifts own = does_ok old.senders (λ senders. senders) (λ layout trail senders h. h) (λ layout s a may step. lifts layout s l reply a may own step)

  -- a fault of the node
  pub primary_fails : (why : NodeFault) → PrimaryDoes tells files counts l (Err why) old.primary p → Does tells files counts l (Err (record { node = A; fault = why })) old (record old { primary = p })
  primary_fails why does = record {
    performs = λ t layout s rise some risen is. broken tells files counts old serves longer stand senders_longer l on (Err why) p does old.senders t layout s is (does.does.performs t layout s.primary rise some is.primary);
    keeps = record {
      serves = serves_on tells files counts old serves longer stand senders_longer l on (Err why) p does old.senders;
      laid = refl;
      cause = (fail_by A (disks_at old.primary) (disks_at p) old (record old { primary = p }) (moves tells files counts old serves longer stand senders_longer l on (Err why) p does old.senders) counts l why (fails_one counts (disks_at old.primary) (disks_at p) false why does.does.cause.0), does.does.cause.1);
      sound = λ t layout s is. does.does.sound t;
      fuses = fault_fused A (disks_at old.primary) (disks_at p) old (record old { primary = p }) (moves tells files counts old serves longer stand senders_longer l on (Err why) p does old.senders) counts l why _ does.does.fuses;
      unused = unused_stay A (disks_at old.primary) (disks_at p) old (record old { primary = p }) (moves tells files counts old serves longer stand senders_longer l on (Err why) p does old.senders)
          (same tells files counts old serves longer stand senders_longer l on (Err why) p does old.senders);
      kinds = ByPrimary on does.does.kinds;
      judged = tt;
      moved = tt;
    };
  }

-- a restart of the primary
module _ {D : Type 0} {d : Ghosts D} (tells : Type 0) (files : D → Disk) (counts : D → Counts) (old : System D d) (serves : MayServe tells files counts old)
    (longer : tells → (node : Node) → Longer files (site_at old node)) (stand : tells → (node : Node) → Stands files (site_at old node)) (senders_longer : SendersLonger)
    (fits : fits_session (node_of old.session) (line.Restart A) ≡ true) (p : PrimaryNode D d) (reply : Reply) (does : PrimaryDoes tells files counts (line.Restart A) (Ok reply) old.primary p) where
  -- one that is done forgets the senders' places
  pub restart_done : LiftsDone → is_ok reply ≡ true → (ss : Sending) →
      ((layout : Layout) (trail : List Record) (senders : Each Sender) → AreSenders layout trail senders old.senders → AreSenders layout trail (map_each forgotten senders) ss) →
      Does tells files counts (line.Restart A) (Ok reply) old (record old { primary = p; senders = ss })
  restart_done lifts ok ss sent = does_ok tells files counts old serves longer stand senders_longer (line.Restart A) refl p reply does refl fits ss (map_each forgotten) sent
      (λ layout s a may step. restart_did layout s reply a may lifts ok step)

  -- any other keeps them
  pub restart_kept : LiftsRefused → LiftsCut → is_ok reply ≡ false → Does tells files counts (line.Restart A) (Ok reply) old (record old { primary = p })
  restart_kept refuses cuts other = does_ok tells files counts old serves longer stand senders_longer (line.Restart A) refl p reply does refl fits old.senders (λ senders. senders) (λ layout trail senders h. h)
      (λ layout s a may step. restart_other layout s reply a may refuses cuts other step)
