-- The volumes of an open session rise one after another, and what happens between two lines may happen in parts.
use Rattle.std.proofs.Common.{◌≡◌, ◌≢◌, ◌==◌, ℕ, zero, suc, ◌<◌, ◌≤◌, true, false, inl, inr, List, [], ◌∷◌, ◌++◌, length, slice_set, IsTrue, refl, sym, ap, ◌∙◌, subst, arith}
use Rattle.std.proofs.lemmas.List.{length-set, get_or_past, get_or-set_same, get_or-set_other}
use Rattle.std.proofs.lemmas.Bool.Decides.{nat_tests}
use Rattle.rdf_types.specs.declared.layout.Layout.{Layout}
use Rattle.rdf_types.specs.declared.records.Node.{Node}
use Rattle.plan_lang.specs.declared.lines.Line.{Line}
use Rattle.by_node.specs.Each.{at, Each, with_at, at-with_at, with_at-again, with_at-still}
use Rattle.rdf_core.specs.declared.events.Event.{Event}
use Rattle.rdf_core.specs.declared.events.Event.TheVariants as event
use Rattle.rdf_core.specs.declared.replies.Reply.{Reply}
use Rattle.rdf_core.specs.Layouts.{protects, point_of}
use Rattle.rdf_core.specs.Backup.{Backup, Running, points_in, with_volumes}
use Rattle.rdf_core.specs.Sessions.{Session, Open, Opened, has_halted}
use Rattle.rdf_core.specs.State.{State, with_backup, with_session, blank}
use Rattle.rdf_core.specs.Step.{moved_backup, after_halt}
use Rattle.rdf_core.specs.Run.{after_move, Moves, Drifts, RunsFrom, Run}
use Rattle.rdf_core.specs.Rising.{HaveRisenTo, HasRisen, VolumesRise}
use Rattle.rdf_core.proofs.Risen.{set_or_not}
use Rattle.rdf_core.specs.Sessions.{is_backup_node}

-- in parts

moves_join : (layout : Layout) (events more : List Event) (old mid new : State) → Moves layout old events mid → Moves layout mid more new → Moves layout old (events ++ more) new
moves_join layout [] more old mid new m n = subst (λ (x : State). Moves layout x more new) m n
moves_join layout (e ∷ events) more old mid new m n = (m.0, (m.1.0, (m.1.1.0, moves_join layout events more (after_move m.1.0 old e) mid new m.1.1.1 n)))

pub drifts_join : (layout : Layout) (old mid new : State) → Drifts layout old mid → Drifts layout mid new → Drifts layout old new
drifts_join layout old mid new d e = (d.0 ++ e.0, moves_join layout d.0 e.0 old mid new d.1 e.1)

runs_drift : (layout : Layout) (lines : List Line) (replies : List Reply) (old mid new : State) → RunsFrom layout old lines replies mid → Drifts layout mid new → RunsFrom layout old lines replies new
runs_drift layout [] [] old mid new r d = drifts_join layout old mid new r d
runs_drift layout [] (x ∷ replies) old mid new r d = absurd r
runs_drift layout (k ∷ lines) [] old mid new r d = absurd r
runs_drift layout (k ∷ lines) (x ∷ replies) old mid new r d = (r.0, r.1, r.2, r.3, runs_drift layout lines replies r.1 mid new r.4 d)

pub run_drifts : (layout : Layout) (lines : List Line) (replies : List Reply) (s new : State) → Run layout lines replies s → Drifts layout s new → Run layout lines replies new
run_drifts layout lines replies s new r d = runs_drift layout lines replies (blank layout) s new r d

-- the disk of a volume stops

pub drifts_stop : (layout : Layout) (s : State) (o : Opened) (vol rise : ℕ) → s.session ≡ Open o → IsTrue (protects layout vol) → has_halted o vol ≡ false → is_backup_node o.node ≡ true → 0 < rise →
    Drifts layout s (after_halt rise s (Open o) vol)
drifts_stop layout s o vol rise e p h of up =
    subst (λ (x : Session). Drifts layout (with_session s x) (after_halt rise s (Open o) vol)) (sym e)
    (event.Halt vol ∷ [], ((p, h, of), (rise, (up, refl))))

-- the points while the volumes from a number on have risen

record Remain (layout : Layout) (received below : ℕ) (now end : List ℕ) : Type 0 where
  goes : HaveRisenTo layout received now end
  within : below ≤ length now
  same : (v : ℕ) → below ≤ v → point_of now v ≡ point_of end v

same_points : (xs ys : List ℕ) → length ys ≡ length xs → ((v : ℕ) → point_of xs v ≡ point_of ys v) → xs ≡ ys
same_points [] [] e h = refl
same_points [] (y ∷ ys) e h = absurd (omega arith)
same_points (x ∷ xs) [] e h = absurd (omega arith)
same_points (x ∷ xs) (y ∷ ys) e h =
    let first : x ≡ y = h 0 in
    let rest : xs ≡ ys = same_points xs ys (omega arith) (λ v. h (suc v)) in
    cc

at_first : (layout : Layout) (received : ℕ) (now end : List ℕ) → HaveRisenTo layout received now end → Remain layout received (length now) now end
at_first layout received now end h = record {
  goes = h;
  within = omega arith;
  same = λ v l. get_or_past now v 0 l ∙ sym (get_or_past end v 0 (subst (λ n. n ≤ v) (sym h.many) l));
}

at_last : (layout : Layout) (received : ℕ) (now end : List ℕ) → Remain layout received 0 now end → end ≡ now
at_last layout received now end r = sym (same_points now end r.goes.many (λ v. r.same v (omega arith)))

-- the volume below rises
risen_more : (layout : Layout) (received n : ℕ) (now end : List ℕ) → Remain layout received (suc n) now end → Remain layout received n (slice_set now n (point_of end n)) end
risen_more layout received n now end r = record {
  goes = record {
    many = r.goes.many ∙ sym (length-set now n (point_of end n));
    rise = λ v p. (
      elim (set_or_not now n v (point_of end n)) [
        | inl e ↦ subst (λ m. m ≤ point_of end v) (sym e) (r.goes.rise v p).0
        | inr e ↦ subst (λ m. m ≤ point_of end v) (sym e.1) (subst (λ m. point_of end n ≤ point_of end m) e.0 (itself (point_of end n)))
      ],
      (r.goes.rise v p).1,
    );
    stay = λ v p. elim (set_or_not now n v (point_of end n)) [
      | inl e ↦ r.goes.stay v p ∙ sym e
      | inr e ↦ sym (e.1 ∙ ap (point_of end) e.0)
    ];
  };
  within = subst (λ m. n ≤ m) (sym (length-set now n (point_of end n))) (less n (length now) r.within);
  same = λ v l. elim (v == n) as (λ m. (v == n) ≡ m → point_of (slice_set now n (point_of end n)) v ≡ point_of end v) [
    | true ↦ λ e. subst (λ m. point_of (slice_set now n (point_of end n)) m ≡ point_of end m) (sym (is_it v n e)) (get_or-set_same now n (point_of end n) 0 r.within)
    | false ↦ λ e. get_or-set_other now n v (point_of end n) 0 (apart v n e) ∙ r.same v (above v n e l)
  ] refl;
}
  where
    itself : (a : ℕ) → a ≤ a
    itself a = omega arith

    less : (a b : ℕ) → suc a ≤ b → a ≤ b
    less a b h = omega (arith, h)

    is_it : (a b : ℕ) → (a == b) ≡ true → a ≡ b
    is_it a b h = grind (arith, nat_tests)

    apart : (a b : ℕ) → (a == b) ≡ false → a ≢ b
    apart a b h = λ g. grind (arith, nat_tests)

    above : (a b : ℕ) → (a == b) ≡ false → b ≤ a → suc b ≤ a
    above a b h l = let g : a ≢ b = apart a b h in omega (arith, g, l)

-- the volume below is not protected, and stays
stayed_more : (layout : Layout) (received n : ℕ) (now end : List ℕ) → protects layout n ≡ false → Remain layout received (suc n) now end → Remain layout received n now end
stayed_more layout received n now end p r = record {
  goes = r.goes;
  within = less n (length now) r.within;
  same = λ v l. elim (v == n) as (λ m. (v == n) ≡ m → point_of now v ≡ point_of end v) [
    | true ↦ λ e. subst (λ m. point_of now m ≡ point_of end m) (sym (is_it v n e)) (sym (r.goes.stay n p))
    | false ↦ λ e. r.same v (above v n e l)
  ] refl;
}
  where
    less : (a b : ℕ) → suc a ≤ b → a ≤ b
    less a b h = omega (arith, h)

    is_it : (a b : ℕ) → (a == b) ≡ true → a ≡ b
    is_it a b h = grind (arith, nat_tests)

    above : (a b : ℕ) → (a == b) ≡ false → b ≤ a → suc b ≤ a
    above a b h l = grind (arith, nat_tests)

-- the state while they rise

twice : (each : Each Backup) (node : Node) (b : Backup) (points : List ℕ) (vol upto : ℕ) →
    with_at each node (with_volumes b (Running (slice_set points vol upto))) ≡
    with_at (with_at each node (with_volumes b (Running points))) node (moved_backup (at (with_at each node (with_volumes b (Running points))) node) vol upto)
twice each node b points vol upto =
    sym (with_at-again each node (with_volumes b (Running points)) (with_volumes b (Running (slice_set points vol upto))))
    ∙ ap (λ x. with_at (with_at each node (with_volumes b (Running points))) node (moved_backup x vol upto)) (sym (at-with_at each node (with_volumes b (Running points))))

module _ (layout : Layout) (s : State) (o : Opened) (runs : (v : ℕ) → has_halted o v ≡ false) where
  -- the session is open, with these backups
  abbrev over : Each Backup → State
  over each = record { primary = s.primary; senders = s.senders; backups = each; session = Open o }

  -- the session's backup has these points
  abbrev having : List ℕ → State
  having points = over (with_at s.backups o.node (with_volumes (at s.backups o.node) (Running points)))

  rise_one : (points : List ℕ) (vol upto : ℕ) → IsTrue (protects layout vol) → point_of points vol ≤ upto → upto ≤ (at s.backups o.node).received →
      Drifts layout (having points) (having (slice_set points vol upto))
  rise_one points vol upto p up w =
      let e : at (having points).backups o.node ≡ with_volumes (at s.backups o.node) (Running points) = at-with_at s.backups o.node (with_volumes (at s.backups o.node) (Running points)) in (
        event.Apply vol upto ∷ [],
        (
          record {
            protected = p;
            runs = runs vol;
            rises = subst (λ (b : Backup). point_of (points_in layout s.primary.trail b.volumes) vol ≤ upto) (sym e) up;
            within = subst (λ (b : Backup). upto ≤ b.received) (sym e) w;
          },
          (1, (omega arith, ap over (twice s.backups o.node (at s.backups o.node) points vol upto))),
        ),
      )

  rise_below : (n : ℕ) (points end : List ℕ) → Remain layout (at s.backups o.node).received n points end → Drifts layout (having points) (having end)
  rise_below zero points end r = ([], ap having (at_last layout (at s.backups o.node).received points end r))
  rise_below (suc n) points end r =
      elim (protects layout n) as (λ m. protects layout n ≡ m → Drifts layout (having points) (having end)) [
        | true ↦ λ e. drifts_join layout (having points) (having (slice_set points n (point_of end n))) (having end)
            (rise_one points n (point_of end n) e (r.goes.rise n e).0 (r.goes.rise n e).1)
            (rise_below n (slice_set points n (point_of end n)) end (risen_more layout (at s.backups o.node).received n points end r))
        | false ↦ λ e. rise_below n points end (stayed_more layout (at s.backups o.node).received n points end e r)
      ] refl

  rise_all : (new : Backup) → HasRisen layout (at s.backups o.node) new → Drifts layout (over s.backups) (over (with_at s.backups o.node new))
  rise_all new h =
      subst (λ (b : Backup). Drifts layout (over s.backups) (over (with_at s.backups o.node b))) (sym h.is)
      (subst (λ (each : Each Backup). Drifts layout (over each) (having h.now_points)) (with_at-still s.backups o.node (with_volumes (at s.backups o.node) (Running h.points)) (ap (with_volumes (at s.backups o.node)) (sym h.was)))
      (rise_below (length h.points) h.points h.now_points (at_first layout (at s.backups o.node).received h.points h.now_points h.rise)))

pub volumes_rise : VolumesRise
volumes_rise = λ layout s o new e of runs h.
    subst (λ (x : Session). Drifts layout (with_session s x) (with_backup (with_session s x) o.node new)) (sym e) (rise_all layout s o runs new h)
