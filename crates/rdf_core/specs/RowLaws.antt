-- A line on one part alone: its row on the whole is the row of the part, lifted.
use Rattle.std.proofs.Common.{◌≡◌, ℕ, true, List, [], map, Option, Some, if◌then◌else◌, refl, sym, ap, ◌∙◌, subst}
use Rattle.rdf_types.specs.declared.layout.Layout.{Layout}
use Rattle.rdf_types.specs.declared.records.Node.{Node}
use Rattle.rdf_types.specs.declared.records.Node.TheVariants.{A}
use Rattle.plan_lang.specs.LineText.{same_node}
use Rattle.plan_lang.specs.declared.lines.Line.{Line}
use Rattle.plan_lang.specs.declared.lines.Line.TheVariants as line
use Rattle.by_node.specs.Each.{Each, at, with_at, at-with_at, with_at-again, with_at-still}
use Rattle.rdf_core.specs.declared.replies.NoWhy.{NoWhy}
use Rattle.rdf_core.specs.declared.replies.Reply.{Reply}
use Rattle.rdf_core.specs.Effects.{IsDone, IsCutOff, Whole, Cut}
use Rattle.rdf_core.specs.Rule.{Rule, Says, lift}
use Rattle.rdf_core.specs.Primary.{Primary, primary_rule, primary_parts, primary_refusal, primary_fallen}
use Rattle.rdf_core.specs.Backup.{Backup, backup_rule, list_rule, status_rule, fuse_rule, cut_rule, restart_rule, backup_fallen}
use Rattle.rdf_core.specs.Sessions.{Session, is_backup_node, with_cut}
use Rattle.rdf_core.specs.State.{State, with_primary, with_backup, with_session, by_node, fallen}
use Rattle.rdf_core.specs.SessionLaws.{node_same}
use Rattle.rdf_core.specs.Lines.{around, kept, refusal, rule, parts, after, says, on_primary, on_backup, restarted}
use Rattle.rdf_core.specs.Step.{Goes, PrimaryStep, StepEnds, disks_of, is_for_primary, is_for_backup}
use Rattle.rdf_core.specs.GrowthLaws.{parts_are}
use Rattle.rdf_core.specs.PartLaws.{lift_done, lift_cut, sink_done, sink_cut}

-- a backup that is put in where it stands changes nothing
pub put_back : (s : State) (node : Node) → with_backup s node (at s.backups node) ≡ s
put_back s node = ap (λ (each : Each Backup). record s { backups = each }) (with_at-still s.backups node (at s.backups node) refl)

-- of a backup that is put in and then changed the change stays
pub changed_again : (s : State) (node : Node) (b : Backup) (f : Backup → Backup) (session : Session) → with_session (with_backup (with_backup s node b) node (f (at (with_at s.backups node b) node))) session ≡ with_session (with_backup s node (f b)) session
changed_again s node b f session =
    ap (λ (x : Backup). with_session (with_backup (with_backup s node b) node (f x)) session) (at-with_at s.backups node b)
    ∙ ap (λ (each : Each Backup). let x : State = record { primary = s.primary; senders = s.senders; backups = each; session = session } in x) (with_at-again s.backups node b (f b))

-- what is of a backup, of the node of one
pub of_backup : {X : Type 0} (node : Node) (x y : X) → is_backup_node node ≡ true → by_node node x y ≡ y
of_backup {X} node x y e = ap (λ b. if b then y else x) e

module _ (layout : Layout) (points : List ℕ) (s : State) where
  -- the row of a line on the primary
  pub primary_row : (l : Line) → is_for_primary l ≡ true → rule layout points s l ≡ lift (with_primary s) (primary_rule s.primary l)
  primary_row (line.Begin t) e = refl
  primary_row (line.Insert t k value) e = refl
  primary_row (line.Update t k value) e = refl
  primary_row (line.Delete t k) e = refl
  primary_row (line.Get t k) e = refl
  primary_row (line.Commit t) e = refl
  primary_row (line.Abort t) e = refl
  primary_row line.Lose e = refl
  primary_row (line.List A vol) e = refl
  primary_row (line.Status A) e = refl
  primary_row (line.Fuse A disk calls tear) e = refl
  primary_row (line.Cut A) e = refl
  primary_row _ e = cc

  -- a purge alone asks for restart points
  pub primary_goes : (l : Line) → is_for_primary l ≡ true → Goes layout s l points
  primary_goes (line.Purge node) e = cc
  primary_goes _ e = tt

  module _ (node : Node) (backup : is_backup_node node ≡ true) where
    abbrev IsRow : Line → Type 0
    IsRow l = rule layout points s l ≡ lift (with_backup s node) (backup_rule layout (around points s l) (at s.backups node) l)

    moved : (of : Node) (of_node : Node → Line) → same_node node of ≡ true → IsRow (of_node node) → IsRow (of_node of)
    moved of of_node e h = subst (λ n. IsRow (of_node n)) (node_same node of e) h

    -- a row that leaves the backup as it was
    looks : (on_a on_b : Rule State) → on_b.after ≡ s → (let r : Rule State = by_node node on_a on_b in record r { after = s }) ≡ on_b
    looks on_a on_b e = ap (λ (r : Rule State). record r { after = s }) (of_backup node on_a on_b backup) ∙ ap (λ (x : State). record on_b { after = x }) (sym e)

    -- and of one on a backup
    pub backup_row : (l : Line) → is_for_backup node l ≡ true → IsRow l
    backup_row (line.Deliver of k) e = moved of (λ n. line.Deliver n k) e refl
    backup_row (line.Purge of) e = moved of (λ n. line.Purge n) e refl
    backup_row (line.Takeover of) e = moved of (λ n. line.Takeover n) e refl
    backup_row (line.CopyAudit of from) e = moved of (λ n. line.CopyAudit n from) e refl
    backup_row (line.List of vol) e = moved of (λ n. line.List n vol) e
        (looks (on_primary s (line.List node vol)) (on_backup s node (list_rule layout s.primary.trail vol)) (put_back s node))
    backup_row (line.Info of) e = moved of (λ n. line.Info n) e (ap (λ (x : State). record (on_backup s node (λ b. backup_rule layout (around points s (line.Info node)) b (line.Info node))) { after = x }) (sym (put_back s node)))
    backup_row (line.Status of) e = moved of (λ n. line.Status n) e
        (looks (on_primary s (line.Status node)) (on_backup s node (status_rule layout s.primary.trail)) (put_back s node))
    backup_row (line.Fuse of disk calls tear) e = moved of (λ n. line.Fuse n disk calls tear) e
        (looks (on_primary s (line.Fuse node disk calls tear)) (on_backup s node (fuse_rule layout disk)) (put_back s node))
    backup_row (line.Cut of) e = moved of (λ n. line.Cut n) e (of_backup node (on_primary s (line.Cut node)) (on_backup s node cut_rule) backup)
    backup_row (line.Restart of) e = moved of (λ n. line.Restart n) e
        (of_backup node (record (on_primary s (line.Restart node)) { after = restarted s (line.Restart node) }) (on_backup s node restart_rule) backup)
    backup_row _ e = cc

-- no row is refused by the points that a purge goes by
refused_same : (layout : Layout) (points : List ℕ) (s : State) (b : Backup) (l : Line) → (backup_rule layout (around [] s l) b l).refusal layout ≡ (backup_rule layout (around points s l) b l).refusal layout
refused_same layout points s b (line.Begin t) = refl
refused_same layout points s b _ = refl

-- a line on one part leaves the state as it was where it is refused
primary_kept : (s : State) (l : Line) (why : NoWhy) → is_for_primary l ≡ true → kept s l why ≡ s
primary_kept s (line.Session node) why e = cc
primary_kept s line.End why e = cc
primary_kept s _ why e = refl

backup_kept : (s : State) (node : Node) (l : Line) (why : NoWhy) → is_for_backup node l ≡ true → kept s l why ≡ s
backup_kept s node (line.Session of) why e = cc
backup_kept s node line.End why e = cc
backup_kept s node _ why e = refl

module _ (layout : Layout) (points : List ℕ) (s : State) (l : Line) where
  -- the refusal is that of the part
  pub primary_refused : is_for_primary l ≡ true → refusal layout s l ≡ (primary_rule s.primary l).refusal layout
  primary_refused e = ap (λ (r : Rule State). r.refusal layout) (primary_row layout [] s l e)

  pub backup_refused : (node : Node) → is_backup_node node ≡ true → is_for_backup node l ≡ true → refusal layout s l ≡ (backup_rule layout (around points s l) (at s.backups node) l).refusal layout
  backup_refused node n e = ap (λ (r : Rule State). r.refusal layout) (backup_row layout [] s node n l e) ∙ refused_same layout points s (at s.backups node) l

  -- what a part does is what the whole does
  module _ {X : Type 0} (f : X → State) (old : X) (row : Rule X) (reply : Reply) (new : X) where
    done : refusal layout s l ≡ row.refusal layout → rule layout points s l ≡ lift f row → ((why : NoWhy) → kept s l why ≡ f old) → IsDone (row.refusal layout) (λ why. old) row.after (Says row.answer) reply new →
        IsDone (refusal layout s l) (kept s l) (after layout points s l) (says layout points s l) reply (f new)
    done refused row_is keeps d =
        subst (λ (o : Option NoWhy). IsDone o (kept s l) (after layout points s l) (says layout points s l) reply (f new)) (sym refused)
        (subst (λ (r : Rule State). IsDone (row.refusal layout) (kept s l) r.after (Says r.answer) reply (f new)) (sym row_is)
        (lift_done f (row.refusal layout) (λ why. old) (kept s l) keeps row.after (Says row.answer) reply new d))

  pub primary_done : (reply : Reply) (new : Primary) → is_for_primary l ≡ true →
      (let r = primary_rule s.primary l in IsDone (r.refusal layout) (λ why. s.primary) r.after (Says r.answer) reply new) →
      IsDone (refusal layout s l) (kept s l) (after layout points s l) (says layout points s l) reply (with_primary s new)
  primary_done reply new e d = done (with_primary s) s.primary (primary_rule s.primary l) reply new (primary_refused e) (primary_row layout points s l e) (λ why. primary_kept s l why e) d

  pub backup_done : (node : Node) (reply : Reply) (new : Backup) → is_backup_node node ≡ true → is_for_backup node l ≡ true →
      (let b = at s.backups node in let r = backup_rule layout (around points s l) b l in IsDone (r.refusal layout) (λ why. b) r.after (Says r.answer) reply new) →
      IsDone (refusal layout s l) (kept s l) (after layout points s l) (says layout points s l) reply (with_backup s node new)
  backup_done node reply new n e d =
      done (with_backup s node) (at s.backups node) (backup_rule layout (around points s l) (at s.backups node) l) reply new (backup_refused node n e) (backup_row layout points s node n l e)
      (λ why. backup_kept s node l why e ∙ sym (put_back s node)) d

-- a line on the primary uses a disk of the primary, or none
pub primary_uses : (l : Line) → is_for_primary l ≡ true → (node : Node) → disks_of l ≡ Some node → node ≡ A
primary_uses (line.List A vol) e node of = cc
primary_uses _ e node of = cc

-- where the primary falls the rest stays
fallen_a : (s : State) (node : Node) → node ≡ A → (n : ℕ) (a : Primary) → fallen node n (with_primary s a) ≡ with_primary s (primary_fallen n a)
fallen_a s node is n a = ap (λ (x : Node). fallen x n (with_primary s a)) is

module _ (layout : Layout) (points : List ℕ) (s : State) (l : Line) (near : is_for_primary l ≡ true) where
  -- the durable parts are those of the primary
  pub primary_lifted : parts layout points s l ≡ map (with_primary s) (primary_parts s.primary l)
  primary_lifted = ap (λ (r : Rule State). r.parts) (primary_row layout points s l near) ∙ ap (map (with_primary s)) (parts_are s.primary l)

  -- what the primary does in such a line, the whole does
  pub primary_ends : (reply : Reply) (new : Primary) → PrimaryStep layout s.primary l reply new → StepEnds layout s l reply (with_primary s new)
  primary_ends reply new (Whole d) = (points, primary_goes layout points s l near, Whole (primary_done layout points s l reply new near d))
  primary_ends reply new (Cut node of done off) = (
    points,
    primary_goes layout points s l near,
    Cut node of done
        (subst (λ (o : Option NoWhy). IsCutOff node (fallen node) s o (parts layout points s l) done reply (with_primary s new)) (sym (primary_refused layout points s l near))
        (subst (λ (xs : List State). IsCutOff node (fallen node) s (primary_refusal layout s.primary l) xs done reply (with_primary s new)) (sym primary_lifted)
        (lift_cut (with_primary s) node primary_fallen (fallen node) (fallen_a s node (primary_uses l near node of)) s.primary (primary_refusal layout s.primary l) (primary_parts s.primary l) done reply new off))),
  )

  -- and what the whole has done, the primary has, and the rest stays
  pub primary_sinks : (reply : Reply) (next : State) → IsDone (refusal layout s l) (kept s l) (after layout points s l) (says layout points s l) reply next →
      (a : Primary) × (next ≡ with_primary s a) × (let r = primary_rule s.primary l in IsDone (r.refusal layout) (λ why. s.primary) r.after (Says r.answer) reply a)
  primary_sinks reply next d =
      let row = primary_rule s.primary l in
      sink_done (with_primary s) (row.refusal layout) (λ why. s.primary) (kept s l) (λ why. primary_kept s l why near) row.after (Says row.answer) reply next
      (subst (λ (r : Rule State). IsDone (row.refusal layout) (kept s l) r.after (Says r.answer) reply next) (primary_row layout points s l near)
      (subst (λ (o : Option NoWhy). IsDone o (kept s l) (after layout points s l) (says layout points s l) reply next) (primary_refused layout points s l near) d))

-- a step of the whole by such a line is one of the primary, and the rest stays
pub primary_did : (layout : Layout) (s : State) (l : Line) (reply : Reply) (next : State) → is_for_primary l ≡ true → StepEnds layout s l reply next → (a : Primary) × (next ≡ with_primary s a) × PrimaryStep layout s.primary l reply a
primary_did layout s l reply next near (points, goes, Whole d) =
    let did = primary_sinks layout points s l near reply next d in
    (did.0, did.1, Whole did.2)
primary_did layout s l reply next near (points, goes, Cut node of done off) =
    let did = sink_cut (with_primary s) node primary_fallen (fallen node) (fallen_a s node (primary_uses l near node of)) s.primary (primary_refusal layout s.primary l) (primary_parts s.primary l) done reply next
    (subst (λ (xs : List State). IsCutOff node (fallen node) s (primary_refusal layout s.primary l) xs done reply next) (primary_lifted layout points s l near)
    (subst (λ (o : Option NoWhy). IsCutOff node (fallen node) s o (parts layout points s l) done reply next) (primary_refused layout points s l near) off)) in
    (did.0, did.1, Cut node of done did.2)

-- a backup that was put in and then stopped
pub fallen_again : (s : State) (node : Node) (n : ℕ) (b : Backup) → is_backup_node node ≡ true → fallen node n (with_backup s node b) ≡ with_session (with_backup s node (backup_fallen n b)) (with_cut s.session node)
fallen_again s node n b e =
    of_backup node (with_primary (with_backup s node b) (primary_fallen n s.primary)) (with_session (with_backup (with_backup s node b) node (backup_fallen n (at (with_at s.backups node b) node))) (with_cut s.session node)) e
    ∙ changed_again s node b (backup_fallen n) (with_cut s.session node)
