-- The volumes of an open session rise one after another.
use Rattle.std.proofs.Common.{◌≡◌, ℕ, zero, suc, ◌+◌, ◌≤◌, Bool, true, false, inl, inr, List, [], ◌∷◌, length, take, IsTrue, refl, sym, ap, ◌∙◌, subst, arith, add-one}
use Rattle.std.proofs.lemmas.Bool.{true≢false}
use Rattle.std.proofs.lemmas.List.{take_all}
use Rattle.rdf_types.specs.declared.layout.Layout.{Layout}
use Rattle.rdf_types.specs.declared.records.Node.{Node}
use Rattle.rdf_types.specs.declared.records.Node.TheVariants.{A, B, C}
use Rattle.rdf_core.specs.RowLaws.{put_back}
use Rattle.rdf_core.specs.declared.events.Event.TheVariants as event
use Rattle.rdf_core.specs.Backup.{Backup, Volumes, Running, Taking, Taken, points_in, with_volumes}
use Rattle.rdf_core.specs.Layouts.{point_of, protects}
use Rattle.rdf_core.specs.Run.{CanMove, Drifts, after_move}
use Rattle.rdf_core.specs.Sessions.{Session, Closed, Refused, Open, Opened, has_halted}
use Rattle.by_node.specs.Each.{at, at-with_at}
use Rattle.rdf_core.specs.State.{State, with_backup}
use Rattle.rdf_core.specs.Step.{CanApply, MayApply, moved_backup, with_point, after_apply}
use Rattle.rdf_run.specs.Predicted.{risen_to, risen_in}
use Rattle.rdf_run.specs.ComingUp.{AreWithin, CanRise, ComesUp}
use Rattle.rdf_run.proofs.Points.{one_set, none_set, next_point, none_risen}

same_most : (a b : ℕ) → a ≤ b → b ≤ a → a ≡ b
same_most a b l m = omega (arith, l, m)

twice : (s : State) (node : Node) (b : Backup) (v : Volumes) (vol upto : ℕ) →
    with_backup (with_backup s node (with_volumes b v)) node (moved_backup (at (with_backup s node (with_volumes b v)).backups node) vol upto) ≡ with_backup s node (with_volumes b (with_point v vol upto))
twice s A b v vol upto = refl
twice s B b v vol upto = refl
twice s C b v vol upto = refl

module _ (layout : Layout) (s : State) (o : Opened) (b : Backup) (is_open : s.session ≡ Open o) where
  -- the volumes of the open session's backup stand so
  abbrev having : Volumes → State
  having v = with_backup s o.node (with_volumes b v)

  at_having : (v : Volumes) → at (having v).backups o.node ≡ with_volumes b v
  at_having v = at-with_at s.backups o.node (with_volumes b v)

  moves : (v : Volumes) (vol upto : ℕ) → after_move 1 (having v) (event.Apply vol upto) ≡ having (with_point v vol upto)
  moves v vol upto = ap (λ session. after_apply (having v) session vol upto) is_open ∙ twice s o.node b v vol upto

  can_move : (v : Volumes) (vol upto : ℕ) → IsTrue (protects layout vol) → has_halted o vol ≡ false → point_of (points_in layout s.primary.trail v) vol ≤ upto → upto ≤ b.received → CanMove layout (having v) (event.Apply vol upto)
  can_move v vol upto p h low high =
      subst (λ (x : Session). CanApply layout (having v) x vol upto) (sym is_open)
      (record {
        protected = p;
        runs = h;
        rises = subst (λ (x : Backup). point_of (points_in layout s.primary.trail x.volumes) vol ≤ upto) (sym (at_having v)) low;
        within = subst (λ (x : Backup). upto ≤ x.received) (sym (at_having v)) high;
      })

  may_apply : (v : Volumes) (vol upto : ℕ) → CanMove layout (having v) (event.Apply vol upto) → MayApply layout (having v) o vol upto
  may_apply v vol upto m = subst (λ (x : Session). CanApply layout (having v) x vol upto) is_open m

  high_is : (v : Volumes) (vol upto : ℕ) → CanMove layout (having v) (event.Apply vol upto) → upto ≤ b.received
  high_is v vol upto m = subst (λ (x : Backup). upto ≤ x.received) (at_having v) (may_apply v vol upto m).within

  abbrev stood : Volumes → ℕ → State
  stood v n = having (risen_to (take n layout.protect) b.received v)

  module _ (none : (v : ℕ) → has_halted o v ≡ false) where
    can_next : (points : List ℕ) (n : ℕ) → AreWithin layout b.received (Running points) → protects layout n ≡ true → CanMove layout (stood (Running points) n) (event.Apply n b.received)
    can_next points n w p =
        can_move (risen_to (take n layout.protect) b.received (Running points)) n b.received p (none n)
        (subst (λ m. m ≤ b.received) (sym (next_point layout.protect n b.received points)) (w n p)) (omega arith)

    next_is : (points : List ℕ) (n : ℕ) → protects layout n ≡ true → after_move 1 (stood (Running points) n) (event.Apply n b.received) ≡ stood (Running points) (suc n)
    next_is points n p = moves (risen_to (take n layout.protect) b.received (Running points)) n b.received ∙ ap (λ xs. having (Running xs)) (sym (one_set layout.protect n b.received points p))

    next_stays : (points : List ℕ) (n : ℕ) → protects layout n ≡ false → stood (Running points) n ≡ stood (Running points) (suc n)
    next_stays points n p = ap (λ xs. having (Running xs)) (sym (none_set layout.protect n b.received points p))

    -- a volume that comes up as far as it may stands at all that was received
    comes : (points : List ℕ) (n : ℕ) (new : State) → AreWithin layout b.received (Running points) → protects layout n ≡ true → ComesUp layout (stood (Running points) n) n new → new ≡ stood (Running points) (suc n)
    comes points n new w p (inl h) = absurd (h.none b.received (can_next points n w p))
    comes points n new w p (inr h) =
        h.is
        ∙ ap (λ m. after_move 1 (stood (Running points) n) (event.Apply n m))
        (same_most h.upto b.received (high_is (risen_to (take n layout.protect) b.received (Running points)) n h.upto h.can) (h.most b.received (can_next points n w p)))
        ∙ next_is points n p

    -- one that is not protected stays
    rests : (points : List ℕ) (n : ℕ) (new : State) → protects layout n ≡ false → ComesUp layout (stood (Running points) n) n new → new ≡ stood (Running points) (suc n)
    rests points n new p (inl h) = h.is ∙ next_stays points n p
    rests points n new p (inr h) = absurd (true≢false (sym (may_apply (risen_to (take n layout.protect) b.received (Running points)) n h.upto h.can).protected ∙ p))

    next : (v : Volumes) (n : ℕ) (new : State) → AreWithin layout b.received v → ComesUp layout (stood v n) n new → new ≡ stood v (suc n)
    next (Running points) n new w h = elim (protects layout n) as (λ m. protects layout n ≡ m → new ≡ stood (Running points) (suc n)) [
      | true ↦ λ p. comes points n new w p h
      | false ↦ λ p. rests points n new p h
    ] refl
    next Taking n new w (inl h) = h.is
    next Taking n new w (inr h) = h.is ∙ moves Taking n h.upto
    next (Taken u) n new w (inl h) = h.is
    next (Taken u) n new w (inr h) = h.is ∙ moves (Taken u) n h.upto

    one_drift : (v : Volumes) (n : ℕ) → AreWithin layout b.received v → Drifts layout (stood v n) (stood v (suc n))
    one_drift (Running points) n w = elim (protects layout n) as (λ m. protects layout n ≡ m → Drifts layout (stood (Running points) n) (stood (Running points) (suc n))) [
      | true ↦ λ p. (event.Apply n b.received ∷ [], (can_next points n w p, (1, (omega arith, sym (next_is points n p)))))
      | false ↦ λ p. ([], sym (next_stays points n p))
    ] refl
    one_drift Taking n w = ([], refl)
    one_drift (Taken u) n w = ([], refl)

    drift : ((old mid new : State) → Drifts layout old mid → Drifts layout mid new → Drifts layout old new) → (v : Volumes) (n : ℕ) → AreWithin layout b.received v → Drifts layout (having v) (stood v n)
    drift join v zero w = ([], ap having (none_risen b.received v))
    drift join v (suc n) w = join (having v) (stood v n) (stood v (suc n)) (drift join v n w) (one_drift v n w)

-- over any session

pub none_in : (s : State) (session : Session) → risen_in [] s session ≡ s
none_in s Closed = refl
none_in s (Refused of why) = refl
none_in s (Open o) = ap (λ v. with_backup s o.node (with_volumes (at s.backups o.node) v)) (none_risen (at s.backups o.node).received (at s.backups o.node).volumes) ∙ put_back s o.node

pub session_kept : (flags : List Bool) (s : State) (session : Session) → (risen_in flags s session).session ≡ s.session
session_kept flags s Closed = refl
session_kept flags s (Refused of why) = refl
session_kept flags s (Open o) = refl

-- without an open session nothing moves
unmoved : (layout : Layout) (s : State) (session : Session) (n : ℕ) (new : State) → s.session ≡ session → ((vol to : ℕ) → CanApply layout s session vol to → ⊥) → ComesUp layout s n new → new ≡ s
unmoved layout s session n new e none (inl h) = h.is
unmoved layout s session n new e none (inr h) = absurd (none n h.upto (subst (λ (x : Session). CanApply layout s x n h.upto) e h.can))

-- one volume more has come up
pub one_more : (layout : Layout) (s : State) (session : Session) (n : ℕ) (new : State) → s.session ≡ session → CanRise layout s session → ComesUp layout (risen_in (take n layout.protect) s session) n new →
    new ≡ risen_in (take (n + 1) layout.protect) s session
one_more layout s Closed n new e c h = unmoved layout s Closed n new e (λ vol to x. x) h
one_more layout s (Refused of why) n new e c h = unmoved layout s (Refused of why) n new e (λ vol to x. x) h
one_more layout s (Open o) n new e c h =
    next layout s o (at s.backups o.node) e c.0 (at s.backups o.node).volumes n new c.1 h
    ∙ ap (λ m. risen_in (take m layout.protect) s (Open o)) (sym (add-one n))

-- all have
pub all_risen : (layout : Layout) (s : State) (session : Session) (n : ℕ) → length layout.protect ≤ n → risen_in (take n layout.protect) s session ≡ risen_in layout.protect s session
all_risen layout s session n l = ap (λ flags. risen_in flags s session) (take_all n layout.protect l)

-- that is what may happen between two lines
pub rise_drifts : (layout : Layout) → ((old mid new : State) → Drifts layout old mid → Drifts layout mid new → Drifts layout old new) → (s : State) (session : Session) → s.session ≡ session → CanRise layout s session →
    Drifts layout s (risen_in layout.protect s session)
rise_drifts layout join s Closed e c = ([], refl)
rise_drifts layout join s (Refused of why) e c = ([], refl)
rise_drifts layout join s (Open o) e c =
    subst (λ (x : State). Drifts layout x (risen_in layout.protect s (Open o))) (put_back s o.node)
    (subst (λ (x : State). Drifts layout (with_backup s o.node (at s.backups o.node)) x) (all_risen layout s (Open o) (length layout.protect) (omega arith))
    (drift layout s o (at s.backups o.node) e c.0 join (at s.backups o.node).volumes (length layout.protect) c.1))
