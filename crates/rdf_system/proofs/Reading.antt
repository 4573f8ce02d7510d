-- A read in an open session, and its end, as steps of the machine.
use Rattle.std.proofs.lemmas.Bool.{or_right}
use Rattle.std.proofs.Common.{◌≡◌, ◌⊎◌, inl, inr, ℕ, ◌<◌, Bool, true, false, not, nat_lt, List, [], ◌∷◌, length, get_or, set, take, Option, Some, None, IsTrue, if◌then◌else◌, refl, sym, ap, ◌∙◌, subst, arith}
use Rattle.std.specs.List.{list_any}
use Rattle.std.proofs.lemmas.List.{get_or-set_same, length-set}
use Rattle.std.proofs.lemmas.List.Folds.{list_any_at}
use Rattle.std.proofs.lemmas.Bool.Decides.{nat_tests}
use Rattle.rdf_types.specs.declared.layout.Layout.{Layout}
use Rattle.rdf_types.specs.declared.records.Node.{Node}
use Rattle.rdf_types.specs.declared.records.RecKey.{RecKey}
use Rattle.rdf_model.specs.Contents.{nothing}
use Rattle.rdf_model.specs.Trail.{raw}
use Rattle.plan_lang.specs.declared.lines.Line.TheVariants as line
use Rattle.rdf_core.specs.SoundLaws.{flag_within}
use Rattle.rdf_core.specs.declared.replies.NoWhy.{NoWhy}
use Rattle.rdf_core.specs.declared.replies.NoWhy.TheVariants as no
use Rattle.rdf_core.specs.declared.replies.Reply.{Reply}
use Rattle.rdf_core.specs.declared.replies.Reply.TheVariants.{No, Number, Stopped}
use Rattle.rdf_core.specs.Backup.{Backup, points_in, read_reply, with_up, backup_fallen}
use Rattle.rdf_core.specs.Effects.{when, first, IsDone, Whole}
use Rattle.rdf_core.specs.Layouts.{protects, points_at, point_of}
use Rattle.rdf_core.specs.Lines.{with_points, session_refusal, read_says, after_read, kept}
use Rattle.rdf_core.specs.Rising.{HasRisen, VolumesRise, read_answer}
use Rattle.rdf_core.specs.Run.{Drifts}
use Rattle.rdf_core.specs.SessionLaws.{none_halted}
use Rattle.rdf_core.specs.Sessions.{Session, Closed, Refused, Open, Opened, has_halted, met_stop, with_halt, with_seen, is_backup_node}
use Rattle.by_node.specs.Each.{at, with_at, at-with_at}
use Rattle.rdf_core.specs.State.{State, with_backup, with_session}
use Rattle.rdf_core.specs.Step.{StepEnds, after_halt, halted_backup}
use Rattle.rdf_system.proofs.Telling.{either}
use Rattle.rdf_system.proofs.PlaceLaws.{not_so}
use Rattle.rdf_core.specs.RowLaws.{changed_again}

-- stops of volumes

-- a protected volume is one of the layout's
pub below_flags : (layout : Layout) (v : ℕ) → IsTrue (protects layout v) → v < length layout.protect
below_flags layout v h = flag_within layout.protect v h

pub is_volume : (layout : Layout) (v : ℕ) → IsTrue (protects layout v) → nat_lt v layout.volumes ≡ true
is_volume layout v h = decided v layout.volumes (subst (λ n. v < n) layout.a_flag_each (below_flags layout v h))
  where
    decided : (a b : ℕ) → a < b → nat_lt a b ≡ true
    decided a b h = grind (arith, nat_tests)

-- a stop of a volume is noted
pub halt_noted : (o : Opened) (v : ℕ) → v < length o.halted → has_halted (with_halt o v) v ≡ true
halt_noted o v few = get_or-set_same o.halted v true false few

pub halt_met : (o : Opened) (v : ℕ) → v < length o.halted → met_stop (with_halt o v) ≡ true
halt_met o v few = or_right o.cut (list_any (λ h. h) (set o.halted v true)) (list_any_at (λ h. h) (set o.halted v true) v false (subst (λ n. v < n) (sym (length-set o.halted v true)) few) (get_or-set_same o.halted v true false few))

-- a session that is open, and its backup behind volumes that rose, and behind a stop of one of them

abbrev pub opened_at : State → Opened → State
opened_at t o = with_session t (Open o)

abbrev pub risen_at : State → Opened → Backup → State
risen_at t o b = with_session (with_backup t o.node b) (Open o)

abbrev pub halted_at : State → Opened → Backup → ℕ → ℕ → State
halted_at t o b rise vol = with_session (with_backup t o.node (halted_backup rise b)) (Open (with_halt o vol))

pub halt_is : (t : State) (o : Opened) (b : Backup) (rise vol : ℕ) → after_halt rise (risen_at t o b) (Open o) vol ≡ halted_at t o b rise vol
halt_is t o b rise vol = changed_again t o.node b (halted_backup rise) (Open (with_halt o vol))

-- a stop of a volume's disk may happen in an open session
abbrev pub Halts : Type 0
Halts = (layout : Layout) (s : State) (o : Opened) (vol rise : ℕ) → s.session ≡ Open o → IsTrue (protects layout vol) → has_halted o vol ≡ false → is_backup_node o.node ≡ true → 0 < rise → Drifts layout s (after_halt rise s (Open o) vol)

-- what may happen between two lines may happen in parts
abbrev pub Joins : Type 0
Joins = (layout : Layout) (old mid new : State) → Drifts layout old mid → Drifts layout mid new → Drifts layout old new

module _ (layout : Layout) (t : State) (o : Opened) (placed : is_backup_node o.node ≡ true) (fine : met_stop o ≡ false) where
  pub rises_to : VolumesRise → (b : Backup) → HasRisen layout (at t.backups o.node) b → Drifts layout (opened_at t o) (risen_at t o b)
  rises_to rise b h = rise layout (opened_at t o) o b refl placed (none_halted o fine) h

  pub halts_at : VolumesRise → Halts → Joins → (b : Backup) (rise vol : ℕ) → HasRisen layout (at t.backups o.node) b → IsTrue (protects layout vol) → 0 < rise → Drifts layout (opened_at t o) (halted_at t o b rise vol)
  halts_at rises halts joins b rise vol h p some = joins layout (opened_at t o) (risen_at t o b) (halted_at t o b rise vol) (rises_to rises b h)
      (subst (λ (x : State). Drifts layout (risen_at t o b) x) (halt_is t o b rise vol) (halts layout (risen_at t o b) o vol rise refl p (none_halted o fine vol) placed some))

-- the refusals of a read

read_done : (layout : Layout) (up : Bool) (key : RecKey) (v : Bool) (b : Bool) (keep : NoWhy → State) (after : State) (says : Reply → Type 0) (reply : Reply) (new : State) → b ≡ up → nat_lt key.vol layout.volumes ≡ v →
    IsDone (first (when (not up) no.Down ∷ None ∷ when (not v) no.Volume ∷ [])) keep after says reply new → IsDone (first (when (not b) no.Down ∷ None ∷ when (not (nat_lt key.vol layout.volumes)) no.Volume ∷ [])) keep after says reply new
read_done layout up key v b keep after says reply new e f h = subst (λ (x : Bool). IsDone (first (when (not x) no.Down ∷ None ∷ when (not (nat_lt key.vol layout.volumes)) no.Volume ∷ [])) keep after says reply new) (sym e)
    (subst (λ (x : Bool). IsDone (first (when (not up) no.Down ∷ None ∷ when (not x) no.Volume ∷ [])) keep after says reply new) (sym f) h)

-- what a read leaves of the session
pub record ReadOn (layout : Layout) (t : State) (o : Opened) (b : Backup) (node : Node) (key : RecKey) (reply : Reply) : Type 0 where
  pub behind : Opened
  pub node_same : behind.node ≡ o.node
  pub halted_same : behind.halted ≡ o.halted
  pub cut_same : behind.cut ≡ o.cut
  pub step : StepEnds layout (with_session (with_backup t node b) (Open o)) (line.Read node key) reply (with_session (with_backup t node b) (Open behind))

module _ (layout : Layout) (t : State) (began seen : List ℕ) (halted : List Bool) (cut : Bool) (b : Backup) (key : RecKey) where
  abbrev Of : Node → Opened
  Of node = record { node = node; began = began; seen = seen; halted = halted; cut = cut }

  -- the backup, as it stands there
  abbrev own : Node → Backup → Backup
  own node x = at (with_at t.backups node x) node

  abbrev point : Node → Backup → ℕ
  point node x = point_of (points_in layout t.primary.trail (own node x).volumes) key.vol

  -- one that is answered, by whether there is the volume
  pub read_on : (node : Node) → b.up ≡ true → get_or halted key.vol false ≡ false → (reply : Reply) → reply ≡ read_answer layout t.primary.trail b key → ReadOn layout t (Of node) b node key reply
  read_on node up runs reply says = go (either (nat_lt key.vol layout.volumes))
    where
      is : own node b ≡ b
      is = at-with_at t.backups node b

      up_there : (own node b).up ≡ true
      up_there = ap (λ (x : Backup). x.up) is ∙ up

      says_there : reply ≡ read_answer layout t.primary.trail (own node b) key
      says_there = says ∙ ap (λ (x : Backup). read_answer layout t.primary.trail x key) (sym is)

      go : ((nat_lt key.vol layout.volumes ≡ true) ⊎ (nat_lt key.vol layout.volumes ≡ false)) → ReadOn layout t (Of node) b node key reply
      go (inl v) = record {
        behind = with_seen (Of node) key.vol (point node b);
        node_same = refl;
        halted_same = refl;
        cut_same = refl;
        step = (
          [],
          tt,
          Whole (read_done layout true key true (own node b).up (kept (risen_at t (Of node) b) (line.Read node key)) (after_read layout (risen_at t (Of node) b) key (Open (Of node))) (read_says layout (risen_at t (Of node) b) key (Open (Of node))) reply (with_session (with_backup t node b) (Open (with_seen (Of node) key.vol (point node b)))) up_there v (
            says_there ∙ ap (λ (x : Bool). if x then read_reply (point node b) (raw nothing (take (point node b) t.primary.trail) key) else No no.Volume) v ∙ sym (ap (λ (x : Bool). if x then Stopped node else read_reply (point node b) (raw nothing (take (point node b) t.primary.trail) key)) runs),
            sym (ap (λ (x : Bool). if x then with_backup (risen_at t (Of node) b) node (with_up (own node b) false) else with_session (risen_at t (Of node) b) (Open (with_seen (Of node) key.vol (point node b)))) runs),
          )),
        );
      }
      go (inr v) = record {
        behind = Of node;
        node_same = refl;
        halted_same = refl;
        cut_same = refl;
        step = (
          [],
          tt,
          Whole (read_done layout true key false (own node b).up (kept (risen_at t (Of node) b) (line.Read node key)) (after_read layout (risen_at t (Of node) b) key (Open (Of node))) (read_says layout (risen_at t (Of node) b) key (Open (Of node))) reply (risen_at t (Of node) b) up_there v
              (says_there ∙ ap (λ (x : Bool). if x then read_reply (point node b) (raw nothing (take (point node b) t.primary.trail) key) else No no.Volume) v, refl)),
        );
      }

  -- one whose volume's disk stopped takes the node down
  pub read_stops : (node : Node) → b.up ≡ true → (rise : ℕ) → nat_lt key.vol layout.volumes ≡ true → get_or (set halted key.vol true) key.vol false ≡ true →
      StepEnds layout (halted_at t (Of node) b rise key.vol) (line.Read node key) (Stopped node) (with_session (with_backup t node (backup_fallen rise b)) (Open (with_halt (Of node) key.vol)))
  read_stops node up rise v h =
      let m : State = halted_at t (Of node) b rise key.vol in
      let at_it : Backup = own node (halted_backup rise b) in
      let read : ℕ = point node (halted_backup rise b) in
      let up_there : at_it.up ≡ true = ap (λ (x : Backup). x.up) (at-with_at t.backups node (halted_backup rise b)) ∙ up in (
        [],
        tt,
        Whole (read_done layout true key true at_it.up (kept m (line.Read node key)) (after_read layout m key (Open (with_halt (Of node) key.vol))) (read_says layout m key (Open (with_halt (Of node) key.vol))) (Stopped node) (with_session (with_backup t node (backup_fallen rise b)) (Open (with_halt (Of node) key.vol))) up_there v (
          sym (ap (λ (x : Bool). if x then Stopped node else read_reply read (raw nothing (take read t.primary.trail) key)) h),
          sym (changed_again t node (halted_backup rise b) (λ x. with_up x false) (Open (with_halt (Of node) key.vol)))
              ∙ sym (ap (λ (x : Bool). if x then with_backup m node (with_up at_it false) else with_session m (Open (with_seen (with_halt (Of node) key.vol) key.vol read))) h),
        )),
      )

-- a node that is down refuses a read, whatever the session
pub read_down : (layout : Layout) (s : State) (node : Node) (key : RecKey) → (at s.backups node).up ≡ false → StepEnds layout s (line.Read node key) (No no.Down) s
read_down layout s node key e = ([], tt, Whole (down (at s.backups node).up (session_refusal s.session) (when (not (nat_lt key.vol layout.volumes)) no.Volume) (after_read layout s key s.session) (read_says layout s key s.session) e))
  where
    down : (up : Bool) (r v : Option NoWhy) (after : State) (says : Reply → Type 0) → up ≡ false → IsDone (first (when (not up) no.Down ∷ r ∷ v ∷ [])) (λ why. s) after says (No no.Down) s
    down true r v after says f = not_so (sym f)
    down false r v after says f = (refl, refl)

-- one that is up refuses it as the session was refused
pub read_barred : (layout : Layout) (s : State) (node of : Node) (why : NoWhy) (key : RecKey) → (at s.backups node).up ≡ true → s.session ≡ Refused of why → StepEnds layout s (line.Read node key) (No why) s
read_barred layout s node of why key e f = ([], tt, Whole (barred (at s.backups node).up (session_refusal s.session) (when (not (nat_lt key.vol layout.volumes)) no.Volume) (after_read layout s key s.session) (read_says layout s key s.session) e (ap session_refusal f)))
  where
    barred : (up : Bool) (r v : Option NoWhy) (after : State) (says : Reply → Type 0) → up ≡ true → r ≡ Some why → IsDone (first (when (not up) no.Down ∷ r ∷ v ∷ [])) (λ w. s) after says (No why) s
    barred false r v after says g h = not_so g
    barred true r v after says g h = subst (λ (x : Option NoWhy). IsDone (first (None ∷ x ∷ v ∷ [])) (λ w. s) after says (No why) s) (sym h) (refl, refl)

-- the end of a session

-- one in which no disk stopped
pub ends_well : (layout : Layout) (t : State) (o : Opened) → met_stop o ≡ false →
    StepEnds layout (opened_at t o) line.End (Number (at t.backups o.node).received) (with_session (with_backup t o.node (with_points (at t.backups o.node) (points_at layout (at t.backups o.node).received))) Closed)
ends_well layout t o e = (
  [],
  tt,
  Whole (
    sym (ap (λ (x : Bool). if x then Stopped o.node else Number (at t.backups o.node).received) e),
    sym (ap (λ (x : Bool). if x then with_session (with_backup (opened_at t o) o.node (with_up (at t.backups o.node) false)) Closed else with_session (with_backup (opened_at t o) o.node (with_points (at t.backups o.node) (points_at layout (at t.backups o.node).received))) Closed) e),
  ),
)

-- one in which a disk stopped
pub ends_stopped : (layout : Layout) (t : State) (o : Opened) → met_stop o ≡ true → StepEnds layout (opened_at t o) line.End (Stopped o.node) (with_session (with_backup t o.node (with_up (at t.backups o.node) false)) Closed)
ends_stopped layout t o e = (
  [],
  tt,
  Whole (
    sym (ap (λ (x : Bool). if x then Stopped o.node else Number (at t.backups o.node).received) e),
    sym (ap (λ (x : Bool). if x then with_session (with_backup (opened_at t o) o.node (with_up (at t.backups o.node) false)) Closed else with_session (with_backup (opened_at t o) o.node (with_points (at t.backups o.node) (points_at layout (at t.backups o.node).received))) Closed) e),
  ),
)

-- one that was refused
pub ends_refused : (layout : Layout) (t : State) (of : Node) (why : NoWhy) → StepEnds layout (with_session t (Refused of why)) line.End (No why) (with_session t Closed)
ends_refused layout t of why = ([], tt, Whole (refl, refl))

-- one in which the disk of a volume stopped just before
pub ends_halted : (layout : Layout) (t : State) (o : Opened) (b : Backup) (rise vol : ℕ) → vol < length o.halted → StepEnds layout (halted_at t o b rise vol) line.End (Stopped o.node) (with_session (with_backup t o.node (backup_fallen rise b)) Closed)
ends_halted layout t o b rise vol few = subst (λ (x : State). StepEnds layout (halted_at t o b rise vol) line.End (Stopped o.node) x) (changed_again t o.node (halted_backup rise b) (λ x. with_up x false) Closed) (ends_stopped layout (halted_at t o b rise vol) (with_halt o vol) (halt_met o vol few))

-- the same of a state and of the name of the session's node

module _ (layout : Layout) (s : State) (o : Opened) (is : s.session ≡ Open o) (name : Node) (of : o.node ≡ name) (placed : is_backup_node name ≡ true) where
  at_s : opened_at s o ≡ s
  at_s = ap (λ (x : Session). with_session s x) (sym is)

  placed_too : is_backup_node o.node ≡ true
  placed_too = ap is_backup_node of ∙ placed

  module _ (fine : met_stop o ≡ false) where
    pub drift_risen : VolumesRise → (b : Backup) → HasRisen layout (at s.backups name) b → Drifts layout s (with_session (with_backup s name b) (Open o))
    drift_risen rise b = subst (λ (x : Node). HasRisen layout (at s.backups x) b → Drifts layout s (with_session (with_backup s x b) (Open o))) of
        (λ h. subst (λ (x : State). Drifts layout x (risen_at s o b)) at_s (rises_to layout s o placed_too fine rise b h))

    pub drift_halted : VolumesRise → Halts → Joins → (b : Backup) (rise vol : ℕ) → IsTrue (protects layout vol) → 0 < rise → HasRisen layout (at s.backups name) b → Drifts layout s (with_session (with_backup s name (halted_backup rise b)) (Open (with_halt o vol)))
    drift_halted rises halts joins b rise vol p some = subst (λ (x : Node). HasRisen layout (at s.backups x) b → Drifts layout s (with_session (with_backup s x (halted_backup rise b)) (Open (with_halt o vol)))) of
        (λ h. subst (λ (x : State). Drifts layout x (halted_at s o b rise vol)) at_s (halts_at layout s o placed_too fine rises halts joins b rise vol h p some))

    pub reads_on : (b : Backup) (key : RecKey) (reply : Reply) → b.up ≡ true → reply ≡ read_answer layout s.primary.trail b key → ReadOn layout s o b name key reply
    reads_on b key reply up says = subst (λ (x : Node). ReadOn layout s o b x key reply) of (read_on layout s o.began o.seen o.halted o.cut b key o.node up (none_halted o fine key.vol) reply says)

    pub end_well : StepEnds layout s line.End (Number (at s.backups name).received) (with_session (with_backup s name (with_points (at s.backups name) (points_at layout (at s.backups name).received))) Closed)
    end_well = subst (λ (x : Node). StepEnds layout s line.End (Number (at s.backups x).received) (with_session (with_backup s x (with_points (at s.backups x) (points_at layout (at s.backups x).received))) Closed)) of
        (subst (λ (x : State). StepEnds layout x line.End (Number (at s.backups o.node).received) (with_session (with_backup s o.node (with_points (at s.backups o.node) (points_at layout (at s.backups o.node).received))) Closed)) at_s (ends_well layout s o fine))

  pub read_halts : (b : Backup) (rise : ℕ) (key : RecKey) → b.up ≡ true → IsTrue (protects layout key.vol) → length o.halted ≡ length layout.protect →
      StepEnds layout (with_session (with_backup s name (halted_backup rise b)) (Open (with_halt o key.vol))) (line.Read name key) (Stopped name) (with_session (with_backup s name (backup_fallen rise b)) (Open (with_halt o key.vol)))
  read_halts b rise key up p many = subst (λ (x : Node). StepEnds layout (with_session (with_backup s x (halted_backup rise b)) (Open (with_halt o key.vol))) (line.Read x key) (Stopped x) (with_session (with_backup s x (backup_fallen rise b)) (Open (with_halt o key.vol)))) of
      (read_stops layout s o.began o.seen o.halted o.cut b key o.node up rise (is_volume layout key.vol p) (halt_noted o key.vol (subst (λ n. key.vol < n) (sym many) (below_flags layout key.vol p))))

  pub end_stopped : met_stop o ≡ true → StepEnds layout s line.End (Stopped name) (with_session (with_backup s name (with_up (at s.backups name) false)) Closed)
  end_stopped met = subst (λ (x : Node). StepEnds layout s line.End (Stopped x) (with_session (with_backup s x (with_up (at s.backups x) false)) Closed)) of
      (subst (λ (x : State). StepEnds layout x line.End (Stopped o.node) (with_session (with_backup s o.node (with_up (at s.backups o.node) false)) Closed)) at_s (ends_stopped layout s o met))

  pub end_halted : (b : Backup) (rise vol : ℕ) → IsTrue (protects layout vol) → length o.halted ≡ length layout.protect →
      StepEnds layout (with_session (with_backup s name (halted_backup rise b)) (Open (with_halt o vol))) line.End (Stopped name) (with_session (with_backup s name (backup_fallen rise b)) Closed)
  end_halted b rise vol p many = subst (λ (x : Node). StepEnds layout (with_session (with_backup s x (halted_backup rise b)) (Open (with_halt o vol))) line.End (Stopped x) (with_session (with_backup s x (backup_fallen rise b)) Closed)) of
      (ends_halted layout s o b rise vol (subst (λ n. vol < n) (sym many) (below_flags layout vol p)))
