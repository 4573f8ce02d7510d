-- All backups agree.
use Rattle.std.proofs.Common.{◌≡◌, ℕ, ◌≤◌, ◌<◌, max, nat_le, IsTrue, true, false, ◌&&◌, ◌==◌, ◌⊎◌, inl, inr, List, [], ◌∷◌, Option, Some, None, if◌then◌else◌, refl, sym, ap, ◌∙◌, subst, arith}
use Rattle.std.proofs.lemmas.Bool.Decides.{nat_tests}
use Rattle.std.proofs.lemmas.Bool.{and_parts}
use Rattle.rdf_types.specs.declared.layout.Layout.{Layout}
use Rattle.rdf_types.specs.declared.records.Node.{Node}
use Rattle.plan_lang.specs.declared.lines.Line.{Line}
use Rattle.plan_lang.specs.declared.lines.Line.TheVariants as line
use Rattle.by_node.specs.Each.{at, Each, at-with_at}
use Rattle.rdf_core.specs.SoundLaws.{at_or_below}
use Rattle.rdf_core.specs.declared.events.Event.{Event}
use Rattle.rdf_core.specs.declared.replies.NoWhy.{NoWhy}
use Rattle.rdf_core.specs.declared.replies.Reply.{Reply}
use Rattle.rdf_core.specs.declared.replies.Reply.TheVariants.{No, Number, Stopped}
use Rattle.rdf_core.specs.Effects.{after_all, Whole, Cut}
use Rattle.rdf_core.specs.Backup.{Backup, Taken, is_running, takeover_parts, copy_parts}
use Rattle.plan_lang.specs.LineText.{same_node}
use Rattle.rdf_core.specs.State.{State, blank}
use Rattle.rdf_core.specs.Allowed.{is_backup}
use Rattle.rdf_core.specs.Lines.{refusal, kept, after, says}
use Rattle.rdf_core.specs.Step.{Step, StepEnds}
use Rattle.rdf_core.specs.Run.{CanMove, Drifts, RunsFrom, Run, after_move}
use Rattle.rdf_core.specs.Agreement.{number_told, takeover_ok, or_later, first_takeover, IfTold, HadReceived, is_number, is_ok, takes_with, takes, copies, come, repaired, AreRepaired, IsTakenAt}
use Rattle.rdf_core.proofs.Ages.{Ages, copy_reaches}
use Rattle.rdf_core.specs.AgreementLaws.{taken_over}
use Rattle.rdf_core.proofs.Steps.{AllAge, step_ages, move_ages}
use Rattle.rdf_core.proofs.RunLaws as runs
use Rattle.rdf_core.specs.PartLaws.{refused_or_done}
use Rattle.rdf_core.specs.SessionLaws.{node_same}

-- what every step keeps, a run keeps

module _ (layout : Layout) (P : Each Backup → Type 0) (keeps : (old new : Each Backup) → AllAge layout old new → P old → P new) where
  moved : (rise : ℕ) (s : State) (e : Event) → CanMove layout s e → P s.backups → P (after_move rise s e).backups
  moved rise s e can p = keeps s.backups (after_move rise s e).backups (move_ages layout rise s e) p

  pub drifts_keep : (old new : State) → Drifts layout old new → P old.backups → P new.backups
  drifts_keep old new d p = runs.drifts_keep (λ (s : State). P s.backups) layout moved old new d p

  pub step_keeps : (old : State) (l : Line) (reply : Reply) (new : State) → Step layout old l reply new → P old.backups → P new.backups
  step_keeps old l reply new s p = keeps old.backups new.backups (step_ages layout old l reply new s) p

  pub run_keeps : (lines : List Line) (replies : List Reply) (old last : State) → RunsFrom layout old lines replies last → P old.backups → P last.backups
  run_keeps lines replies old last r p = runs.run_keeps (λ (s : State). P s.backups) layout moved step_keeps lines replies old last r p

-- a mark that stands, or was passed

pub record Holds (m : ℕ) (b : Backup) : Type 0 where
  pub reached : m ≤ b.received
  pub marked : (b.volumes ≡ Taken m) ⊎ (m < b.received)

itself : (n : ℕ) → n ≤ n
itself n = omega arith

below : (m x y : ℕ) → m < x → x ≤ y → m < y
below m x y h g = omega (arith, h, g)

holds_ages : (m : ℕ) (lead b new : Backup) → Ages lead b new → Holds m b → Holds m new
holds_ages m lead b new a h = record {
  reached = at_or_below m b.received new.received h.reached a.rises;
  marked = elim h.marked [
    | inl mark ↦ a.holds m mark h.reached
    | inr past ↦ inr (below m b.received new.received past a.rises)
  ];
}

abbrev pub HoldsAt : Node → ℕ → Each Backup → Type 0
HoldsAt node m each = Holds m (at each node)

holds_kept : (layout : Layout) (node : Node) (m : ℕ) (old new : Each Backup) → AllAge layout old new → HoldsAt node m old → HoldsAt node m new
holds_kept layout node m old new a h = holds_ages m (at old (a node).from) (at old node) (at new node) (a node).ages h

abbrev pub ReachedAt : Node → ℕ → Each Backup → Type 0
ReachedAt node m each = m ≤ (at each node).received

reached_kept : (layout : Layout) (node : Node) (m : ℕ) (old new : Each Backup) → AllAge layout old new → ReachedAt node m old → ReachedAt node m new
reached_kept layout node m old new a h = at_or_below m (at old node).received (at new node).received h (a node).ages.rises

-- what an ok tells

-- an ok to a takeover: the whole prefix is taken
pub ok_taken : (layout : Layout) (old : State) (node : Node) (reply : Reply) (new : State) (n : ℕ) → StepEnds layout old (line.Takeover node) reply new → number_told reply ≡ Some n →
    IsTakenAt n (at new.backups node) × ((at old.backups node).received ≡ n)
ok_taken layout old node reply new n (points, goes, Cut node' of done off) e = absurd (stopped node' (sym (ap number_told off.says) ∙ e))
  where
    stopped : (of : Node) → number_told (Stopped of) ≡ Some n → ⊥
    stopped of f = cc
ok_taken layout old node reply new n (points, goes, Whole d) e =
    elim (refused_or_done (refusal layout old (line.Takeover node)) (kept old (line.Takeover node)) (after layout points old (line.Takeover node)) (says layout points old (line.Takeover node)) reply new d) [
      | inl ref ↦ absurd (refused ref.0 (sym (ap number_told ref.1) ∙ e))
      | inr did ↦
          let number : (at old.backups node).received ≡ n = some_is (at old.backups node).received n (sym (ap number_told did.1) ∙ e) in (
            subst (λ (s : State). IsTakenAt n (at s.backups node)) (sym did.2)
                (subst (λ (b : Backup). IsTakenAt n b) (sym (at-with_at old.backups node (after_all (at old.backups node) (takeover_parts (at old.backups node)))))
                (subst (λ m. IsTakenAt m (after_all (at old.backups node) (takeover_parts (at old.backups node)))) number (taken_over (at old.backups node) (at old.backups node).volumes refl))),
            number,
          )
    ]
  where
    refused : (why : NoWhy) → number_told (No why) ≡ Some n → ⊥
    refused why f = cc

    some_is : (x y : ℕ) → number_told (Number x) ≡ Some y → x ≡ y
    some_is x y f = cc

is_ok-number : (reply : Reply) → is_ok reply ≡ true → (n : ℕ) × (number_told reply ≡ Some n)
is_ok-number (Number n) e = (n, refl)
is_ok-number _ e = cc

-- an ok to a copy: the one has all that the other had
pub ok_copied : (layout : Layout) (old : State) (node from : Node) (reply : Reply) (new : State) → StepEnds layout old (line.CopyAudit node from) reply new → is_ok reply ≡ true →
    (at old.backups from).received ≤ (at new.backups node).received
ok_copied layout old node from reply new (points, goes, Cut node' of done off) e = absurd (stopped node' (sym (ap is_ok off.says) ∙ e))
  where
    stopped : (of : Node) → is_ok (Stopped of) ≡ true → ⊥
    stopped of f = cc
ok_copied layout old node from reply new (points, goes, Whole d) e =
    elim (refused_or_done (refusal layout old (line.CopyAudit node from)) (kept old (line.CopyAudit node from)) (after layout points old (line.CopyAudit node from)) (says layout points old (line.CopyAudit node from)) reply new d) [
      | inl ref ↦ absurd (refused ref.0 (sym (ap is_ok ref.1) ∙ e))
      | inr did ↦
          subst (λ (s : State). (at old.backups from).received ≤ (at s.backups node).received) (sym did.2)
          (subst (λ (b : Backup). (at old.backups from).received ≤ b.received) (sym (at-with_at old.backups node (after_all (at old.backups node) (copy_parts layout (at old.backups node) (at old.backups from)))))
          (copy_reaches layout (at old.backups from) (at old.backups node)))
    ]
  where
    refused : (why : NoWhy) → is_ok (No why) ≡ true → ⊥
    refused why f = cc

-- the number of a takeover's ok, for any line
pub told : (layout : Layout) (old : State) (l : Line) (reply : Reply) (new : State) (of : Node) (n : ℕ) → Step layout old l reply new → takeover_ok of l reply ≡ Some n →
    IsTakenAt n (at new.backups of) × ((at old.backups of).received ≡ n)
told layout old (line.Takeover node) reply new of n s e =
    elim (same_node of node) as (λ m. same_node of node ≡ m → (if m then number_told reply else None) ≡ Some n → IsTakenAt n (at new.backups of) × ((at old.backups of).received ≡ n)) [
      | true ↦ λ f g. subst (λ x. IsTakenAt n (at new.backups x) × ((at old.backups x).received ≡ n)) (sym (node_same of node f)) (ok_taken layout old node reply new n s.1 g)
      | false ↦ λ f g. absurd (none g)
    ] refl e
  where
    none : (let x : Option ℕ = None in x) ≡ Some n → ⊥
    none g = cc
told layout old _ reply new of n s e = cc

-- the first ok to a takeover tells what the node had received as that takeover began
pub first_tells : (layout : Layout) (old : State) (lines : List Line) (replies : List Reply) (last : State) (run : RunsFrom layout old lines replies last) (of : Node) (n : ℕ) →
    first_takeover of lines replies ≡ Some n → HadReceived of n layout old lines replies last run
first_tells layout old [] [] last run of n first = tt
first_tells layout old [] (reply ∷ replies) last run of n first = tt
first_tells layout old (l ∷ lines) [] last run of n first = tt
first_tells layout old (l ∷ lines) (reply ∷ replies) last run of n first =
    elim (takeover_ok of l reply) as (λ x. takeover_ok of l reply ≡ x → or_later x (first_takeover of lines replies) ≡ Some n →
    IfTold x ((at run.0.backups of).received ≡ n) (HadReceived of n layout run.1 lines replies last run.4)) [
      | None ↦ λ is later. first_tells layout run.1 lines replies last run.4 of n later
      | Some m ↦ λ is here. (told layout run.0 l reply run.1 of m run.3 is).1 ∙ number m here
    ] refl first
  where
    number : (m : ℕ) → or_later (Some m) (first_takeover of lines replies) ≡ Some n → m ≡ n
    number m e = cc

-- the first takeovers, and how far all backups are

-- so much is at most this number, or at most what one of the layout received whose first takeover is not answered
abbrev pub IsHigh : Layout → ℕ → (Node → Option ℕ) → Each Backup → ℕ → Type 0
IsHigh layout m firsts each r = (r ≤ m) ⊎ ((other : Node) × (is_backup layout other ≡ true) × (firsts other ≡ None) × (r ≤ (at each other).received))

-- a backup whose first takeover was answered has begun one, and received no more
pub record IsMet (layout : Layout) (m : ℕ) (firsts : Node → Option ℕ) (each : Each Backup) (node : Node) : Type 0 where
  pub begun : is_running (at each node).volumes ≡ false
  pub high : IsHigh layout m firsts each (at each node).received

abbrev pub AreMet : Layout → ℕ → (Node → Option ℕ) → Each Backup → Type 0
AreMet layout m firsts each = (node : Node) (n : ℕ) → is_backup layout node ≡ true → firsts node ≡ Some n → IsMet layout m firsts each node

lower : (layout : Layout) (m : ℕ) (firsts : Node → Option ℕ) (each : Each Backup) (r x : ℕ) → r ≤ x → IsHigh layout m firsts each x → IsHigh layout m firsts each r
lower layout m firsts each r x l (inl h) = inl (at_or_below r x m l h)
lower layout m firsts each r x l (inr h) = inr (h.0, h.1, h.2, at_or_below r x (at each h.0).received l h.3)

-- what was the higher of two
either : (r x y : ℕ) → r ≤ max x y → (r ≤ x) ⊎ (r ≤ y)
either r x y h = elim (nat_le x y) as (λ b. nat_le x y ≡ b → (r ≤ x) ⊎ (r ≤ y)) [ true ↦ λ e. inr (right e) | false ↦ λ e. inl (left e) ] refl
  where
    right : nat_le x y ≡ true → r ≤ y
    right e = grind (arith, nat_tests)

    left : nat_le x y ≡ false → r ≤ x
    left e = grind (arith, nat_tests)

module _ (layout : Layout) (m : ℕ) (firsts : Node → Option ℕ) where
  -- what led a backup is that high too
  lead_high : (old : Each Backup) (from : Node) → is_backup layout from ≡ true → AreMet layout m firsts old → IsHigh layout m firsts old (at old from).received
  lead_high old from known met = elim (firsts from) as (λ t. firsts from ≡ t → IsHigh layout m firsts old (at old from).received) [
    | None ↦ λ e. inr (from, known, e, itself (at old from).received)
    | Some n ↦ λ e. (met from n known e).high
  ] refl

  -- and stays so as they age
  high_kept : (old new : Each Backup) (r : ℕ) → AllAge layout old new → IsHigh layout m firsts old r → IsHigh layout m firsts new r
  high_kept old new r a (inl h) = inl h
  high_kept old new r a (inr h) = inr (h.0, h.1, h.2, at_or_below r (at old h.0).received (at new h.0).received h.3 (a h.0).ages.rises)

  met_kept : (old new : Each Backup) → AllAge layout old new → AreMet layout m firsts old → AreMet layout m firsts new
  met_kept old new a met node n known is = record {
    begun = (a node).ages.stays (met node n known is).begun;
    high = high_kept old new (at new node).received a (
        elim (either (at new node).received (at old node).received (at old (a node).from).received ((a node).ages.bounded (met node n known is).begun)) [
          | inl l ↦ lower layout m firsts old (at new node).received (at old node).received l (met node n known is).high
          | inr l ↦ lower layout m firsts old (at new node).received (at old (a node).from).received l (lead_high old (a node).from ((a node).known known) met)
        ]);
  }

  -- answers to takeovers are noted
  module _ (told : Node → Option ℕ) (each : Each Backup) (taken : (node : Node) (n : ℕ) → told node ≡ Some n → IsTakenAt n (at each node))
      (bound : (node : Node) (n : ℕ) → is_backup layout node ≡ true → or_later (firsts node) (told node) ≡ Some n → n ≤ m) where
    abbrev noted : Node → Option ℕ
    noted node = or_later (firsts node) (told node)

    high_noted : (r : ℕ) → IsHigh layout m firsts each r → IsHigh layout m noted each r
    high_noted r (inl h) = inl h
    high_noted r (inr h) = elim (told h.0) as (λ t. told h.0 ≡ t → IsHigh layout m noted each r) [
      | None ↦ λ e. inr (h.0, h.1, ap (λ f. or_later f (told h.0)) h.2 ∙ e, h.3)
      | Some n ↦ λ e. inl (reaches r (at each h.0).received n h.3 (taken h.0 n e).received (bound h.0 n h.1 (ap (λ f. or_later f (told h.0)) h.2 ∙ e)))
    ] refl
      where
        reaches : (r x n : ℕ) → r ≤ x → x ≡ n → n ≤ m → r ≤ m
        reaches r x n a b c = omega (arith, a, b, c)

    met_noted : AreMet layout m firsts each → AreMet layout m noted each
    met_noted met node n known is = elim (firsts node) as (λ f. firsts node ≡ f → or_later f (told node) ≡ Some n → IsMet layout m noted each node) [
      | Some k ↦ λ e g. record { begun = (met node k known e).begun; high = high_noted (at each node).received (met node k known e).high }
      | None ↦ λ e g. record { begun = ap is_running (taken node n g).volumes; high = inl (exactly_at (at each node).received n (taken node n g).received (bound node n known is)) }
    ] refl is
      where
        exactly_at : (r n : ℕ) → r ≡ n → n ≤ m → r ≤ m
        exactly_at r n a b = omega (arith, a, b)

or_later-more : (f t r : Option ℕ) → or_later (or_later f t) r ≡ or_later f (or_later t r)
or_later-more None t r = refl
or_later-more (Some n) t r = refl

or_later-none : (f : Option ℕ) → or_later f None ≡ f
or_later-none None = refl
or_later-none (Some n) = refl

-- where the number is the first one, it is still with more to come
or_later-some : (f r : Option ℕ) (n : ℕ) → f ≡ Some n → or_later f r ≡ Some n
or_later-some f r n e = ap (λ x. or_later x r) e

pub run_met : (layout : Layout) (m : ℕ) (lines : List Line) (replies : List Reply) (old last : State) (firsts : Node → Option ℕ) → RunsFrom layout old lines replies last →
    ((node : Node) (n : ℕ) → is_backup layout node ≡ true → or_later (firsts node) (first_takeover node lines replies) ≡ Some n → n ≤ m) → AreMet layout m firsts old.backups →
    AreMet layout m (λ node. or_later (firsts node) (first_takeover node lines replies)) last.backups
run_met layout m [] [] old last firsts r bound met =
    subst (λ (f : Node → Option ℕ). AreMet layout m f last.backups) (λ i node. sym (or_later-none (firsts node)) i) (drifts_keep layout (AreMet layout m firsts) (met_kept layout m firsts) old last r met)
run_met layout m [] (reply ∷ replies) old last firsts r bound met = absurd r
run_met layout m (l ∷ lines) [] old last firsts r bound met = absurd r
run_met layout m (l ∷ lines) (reply ∷ replies) old last firsts r bound met =
    subst (λ (f : Node → Option ℕ). AreMet layout m f last.backups) (λ i node. or_later-more (firsts node) (told_now node) (first_takeover node lines replies) i)
    (run_met layout m lines replies r.1 last (λ node. or_later (firsts node) (told_now node)) r.4
    (λ node n known e. bound node n known (sym (or_later-more (firsts node) (told_now node) (first_takeover node lines replies)) ∙ e))
    (met_noted layout m firsts told_now r.1.backups (λ node n e. (told layout r.0 l reply r.1 node n r.3 e).0)
    (λ node n known e. bound node n known (sym (or_later-more (firsts node) (told_now node) (first_takeover node lines replies)) ∙ or_later-some (or_later (firsts node) (told_now node)) (first_takeover node lines replies) n e))
    (step_keeps layout (AreMet layout m firsts) (met_kept layout m firsts) r.0 l reply r.1 r.3 (drifts_keep layout (AreMet layout m firsts) (met_kept layout m firsts) old r.0 r.2 met))))
  where
    told_now : Node → Option ℕ
    told_now node = takeover_ok node l reply

-- the three answers, one after another

taken_holds : (n : ℕ) (b : Backup) → IsTakenAt n b → Holds n b
taken_holds n b t = record { reached = exact n b.received t.received; marked = inl t.volumes }
  where
    exact : (x r : ℕ) → r ≡ x → x ≤ r
    exact x r e = omega (arith, e)

-- the lead holds the mark m, and the other one a mark at or above it
abbrev pub BothHold : Node → Node → ℕ → Each Backup → Type 0
BothHold oth lead m each = HoldsAt lead m each × ((k : ℕ) × (m ≤ k) × HoldsAt oth k each)

both_kept : (layout : Layout) (oth lead : Node) (m : ℕ) (old new : Each Backup) → AllAge layout old new → BothHold oth lead m old → BothHold oth lead m new
both_kept layout oth lead m old new a h = (holds_kept layout lead m old new a h.0, (h.1.0, h.1.1, holds_kept layout oth h.1.0 old new a h.1.2))

abbrev pub Led : Node → Node → ℕ → Each Backup → Type 0
Led oth lead m each = HoldsAt lead m each × ReachedAt oth m each

led_kept : (layout : Layout) (oth lead : Node) (m : ℕ) (old new : Each Backup) → AllAge layout old new → Led oth lead m old → Led oth lead m new
led_kept layout oth lead m old new a h = (holds_kept layout lead m old new a h.0, reached_kept layout oth m old new a h.1)

takes-number : (of : Node) (l : Line) (reply : Reply) → takes of l reply ≡ true → (n : ℕ) × (takeover_ok of l reply ≡ Some n)
takes-number of (line.Takeover node) reply e =
    let parts = and_parts (same_node of node) (is_ok reply) e in
    let number = is_ok-number reply parts.1 in
    (number.0, ap (λ b. if b then number_told reply else None) parts.0 ∙ number.1)
takes-number of _ reply e = cc

third : (oth lead : Node) (m : ℕ) (layout : Layout) (lines : List Line) (replies : List Reply) (old last : State) → RunsFrom layout old lines replies last →
    come (takes oth ∷ []) lines replies ≡ true → Led oth lead m old.backups → BothHold oth lead m last.backups
third oth lead m layout [] replies old last r e h = cc
third oth lead m layout (l ∷ lines) [] old last r e h = cc
third oth lead m layout (l ∷ lines) (reply ∷ replies) old last r e h =
    elim (takes oth l reply) as (λ b. takes oth l reply ≡ b → (if b then come [] lines replies else come (takes oth ∷ []) lines replies) ≡ true → BothHold oth lead m last.backups) [
      | true ↦ λ f g. let n = takes-number oth l reply f in let t = told layout r.0 l reply r.1 oth n.0 r.3 n.1 in
          run_keeps layout (BothHold oth lead m) (both_kept layout oth lead m) lines replies r.1 last r.4
          (after.0, (n.0, level m (at r.1.backups oth).received n.0 t.0.received after.1, taken_holds n.0 (at r.1.backups oth) t.0))
      | false ↦ λ f g. third oth lead m layout lines replies r.1 last r.4 g after
    ] refl e
  where
    after : Led oth lead m r.1.backups
    after = step_keeps layout (Led oth lead m) (led_kept layout oth lead m) r.0 l reply r.1 r.3 (drifts_keep layout (Led oth lead m) (led_kept layout oth lead m) old r.0 r.2 h)

    level : (m r n : ℕ) → r ≡ n → m ≤ r → m ≤ n
    level m r n e h = omega (arith, e, h)

copied : (oth lead : Node) (m : ℕ) (layout : Layout) (old new : State) (l : Line) (reply : Reply) → Step layout old l reply new → copies oth lead l reply ≡ true → HoldsAt lead m old.backups → ReachedAt oth m new.backups
copied oth lead m layout old new (line.CopyAudit node from) reply s e h =
    let front = and_parts (same_node oth node && same_node lead from) (is_ok reply) e in
    let nodes = and_parts (same_node oth node) (same_node lead from) front.0 in
    subst (λ x. ReachedAt x m new.backups) (sym (node_same oth node nodes.0))
    (at_or_below m (at old.backups from).received (at new.backups node).received
    (subst (λ x. m ≤ (at old.backups x).received) (node_same lead from nodes.1) h.reached)
    (ok_copied layout old node from reply new s.1 front.1))
copied oth lead m layout old new _ reply s e h = cc

second : (oth lead : Node) (m : ℕ) (layout : Layout) (lines : List Line) (replies : List Reply) (old last : State) → RunsFrom layout old lines replies last →
    come (copies oth lead ∷ takes oth ∷ []) lines replies ≡ true → HoldsAt lead m old.backups → BothHold oth lead m last.backups
second oth lead m layout [] replies old last r e h = cc
second oth lead m layout (l ∷ lines) [] old last r e h = cc
second oth lead m layout (l ∷ lines) (reply ∷ replies) old last r e h =
    elim (copies oth lead l reply) as (λ b. copies oth lead l reply ≡ b → (if b then come (takes oth ∷ []) lines replies else come (copies oth lead ∷ takes oth ∷ []) lines replies) ≡ true → BothHold oth lead m last.backups) [
      | true ↦ λ f g. third oth lead m layout lines replies r.1 last r.4 g (after, copied oth lead m layout r.0 r.1 l reply r.3 f before)
      | false ↦ λ f g. second oth lead m layout lines replies r.1 last r.4 g after
    ] refl e
  where
    before : HoldsAt lead m r.0.backups
    before = drifts_keep layout (HoldsAt lead m) (holds_kept layout lead m) old r.0 r.2 h

    after : HoldsAt lead m r.1.backups
    after = step_keeps layout (HoldsAt lead m) (holds_kept layout lead m) r.0 l reply r.1 r.3 before

with-number : (t : Option ℕ) (m : ℕ) → is_number t m ≡ true → t ≡ Some m
with-number None m e = cc
with-number (Some n) m e = ap Some (same n m e)
  where
    same : (n m : ℕ) → (n == m) ≡ true → n ≡ m
    same n m f = grind (arith, nat_tests)

pub repaired_hold : (oth lead : Node) (m : ℕ) (layout : Layout) (lines : List Line) (replies : List Reply) (old last : State) → RunsFrom layout old lines replies last →
    repaired oth lead m lines replies ≡ true → BothHold oth lead m last.backups
repaired_hold oth lead m layout [] replies old last r e = cc
repaired_hold oth lead m layout (l ∷ lines) [] old last r e = cc
repaired_hold oth lead m layout (l ∷ lines) (reply ∷ replies) old last r e =
    elim (takes_with lead m l reply) as (λ b. takes_with lead m l reply ≡ b → (if b then come (copies oth lead ∷ takes oth ∷ []) lines replies else repaired oth lead m lines replies) ≡ true → BothHold oth lead m last.backups) [
      | true ↦ λ f g. second oth lead m layout lines replies r.1 last r.4 g
          (taken_holds m (at r.1.backups lead) (told layout r.0 l reply r.1 lead m r.3 (with-number (takeover_ok lead l reply) m f)).0)
      | false ↦ λ f g. repaired_hold oth lead m layout lines replies r.1 last r.4 g
    ] refl e

-- a takeover of the lead with the number: it holds the mark
led_holds : (lead : Node) (m : ℕ) (layout : Layout) (lines : List Line) (replies : List Reply) (old last : State) → RunsFrom layout old lines replies last →
    come (takes_with lead m ∷ []) lines replies ≡ true → HoldsAt lead m last.backups
led_holds lead m layout [] replies old last r e = cc
led_holds lead m layout (l ∷ lines) [] old last r e = cc
led_holds lead m layout (l ∷ lines) (reply ∷ replies) old last r e =
    elim (takes_with lead m l reply) as (λ b. takes_with lead m l reply ≡ b → (if b then come [] lines replies else come (takes_with lead m ∷ []) lines replies) ≡ true → HoldsAt lead m last.backups) [
      | true ↦ λ f g. run_keeps layout (HoldsAt lead m) (holds_kept layout lead m) lines replies r.1 last r.4
          (taken_holds m (at r.1.backups lead) (told layout r.0 l reply r.1 lead m r.3 (with-number (takeover_ok lead l reply) m f)).0)
      | false ↦ λ f g. led_holds lead m layout lines replies r.1 last r.4 g
    ] refl e

-- together

exactly : (k m : ℕ) (b : Backup) → Holds k b → m ≤ k → b.received ≤ m → IsTakenAt m b
exactly k m b h l u = record {
  received = meets k m b.received h.reached l u;
  volumes = elim h.marked [
    | inl mark ↦ mark ∙ ap Taken (same k m b.received h.reached l u)
    | inr past ↦ absurd (never k m b.received past l u)
  ];
}
  where
    meets : (k m r : ℕ) → k ≤ r → m ≤ k → r ≤ m → r ≡ m
    meets k m r a b c = omega (arith, a, b, c)

    same : (k m r : ℕ) → k ≤ r → m ≤ k → r ≤ m → k ≡ m
    same k m r a b c = omega (arith, a, b, c)

    never : (k m r : ℕ) → k < r → m ≤ k → r ≤ m → ⊥
    never k m r a b c = omega (arith, a, b, c)

pub backups_agree : (layout : Layout) (lines : List Line) (replies : List Reply) (last : State) (lead : Node) (m : ℕ) → Run layout lines replies last → AreRepaired layout lead m lines replies →
    (node : Node) → IsTrue (is_backup layout node) → IsTakenAt m (at last.backups node)
backups_agree layout lines replies last lead m r done node known =
    elim (same_node node lead) as (λ b. same_node node lead ≡ b → IsTakenAt m (at last.backups node)) [
      | true ↦ λ e. exactly m m (at last.backups node) (subst (λ n. HoldsAt n m last.backups) (sym (node_same node lead e)) (led_holds lead m layout lines replies (blank layout) last r done.led)) (itself m) within
      | false ↦ λ e. let h = repaired_hold node lead m layout lines replies (blank layout) last r (done.others node known e) in exactly h.1.0 m (at last.backups node) h.1.2 h.1.1 within
    ] refl
  where
    bound : (of : Node) (n : ℕ) → is_backup layout of ≡ true → first_takeover of lines replies ≡ Some n → n ≤ m
    bound of n at e = let f = done.first of at in subst (λ k. k ≤ m) (is_some f.0 n (sym f.1 ∙ e)) f.2
      where
        is_some : (x y : ℕ) → Some x ≡ Some y → x ≡ y
        is_some x y g = cc

    met : AreMet layout m (λ of. first_takeover of lines replies) last.backups
    met = run_met layout m lines replies (blank layout) last (λ of. None) r bound (λ of n at e. absurd (no_first n e))
      where
        no_first : (n : ℕ) → (let x : Option ℕ = None in x) ≡ Some n → ⊥
        no_first n e = cc

    -- all of them have answered
    low : IsHigh layout m (λ of. first_takeover of lines replies) last.backups (at last.backups node).received → (at last.backups node).received ≤ m
    low (inl h) = h
    low (inr h) = absurd (no_none (done.first h.0 h.1).0 (sym (done.first h.0 h.1).1 ∙ h.2))
      where
        no_none : (n : ℕ) → Some n ≡ (let x : Option ℕ = None in x) → ⊥
        no_none n e = cc

    within : (at last.backups node).received ≤ m
    within = low (met node (done.first node known).0 known (done.first node known).1).high
