-- What may happen between two lines leaves the primary, and each backup beside the session's.
use Rattle.std.proofs.Common.{◌≡◌, ℕ, false, List, [], ◌∷◌, refl, sym, ap, ◌∙◌, subst}
use Rattle.rdf_types.specs.declared.layout.Layout.{Layout}
use Rattle.rdf_types.specs.declared.records.Node.{Node}
use Rattle.plan_lang.specs.LineText.{same_node}
use Rattle.rdf_core.specs.MoveLaws.{move_primary, apply_session}
use Rattle.rdf_core.specs.declared.events.Event.{Event}
use Rattle.rdf_core.specs.declared.events.Event.TheVariants as event
use Rattle.rdf_core.specs.Run.{Moves, Drifts, after_move}
use Rattle.rdf_core.specs.Backup.{Backup}
use Rattle.rdf_core.specs.Sessions.{Session, Closed, Refused, Open, Opened, with_halt}
use Rattle.by_node.specs.Each.{Each, at, with_at}
use Rattle.rdf_core.specs.NodeLaws.{at_other}
use Rattle.rdf_core.specs.State.{State}
use Rattle.rdf_core.specs.Step.{after_apply, after_halt, moved_backup, halted_backup}

moves_primary : (layout : Layout) (old : State) (events : List Event) (new : State) → Moves layout old events new → new.primary ≡ old.primary
moves_primary layout old [] new h = ap (λ (s : State). s.primary) h
moves_primary layout old (e ∷ events) new h = moves_primary layout (after_move h.1.0 old e) events new h.1.1.1 ∙ move_primary h.1.0 old e

pub drifts_primary : (layout : Layout) (old new : State) → Drifts layout old new → new.primary ≡ old.primary
drifts_primary layout old new h = moves_primary layout old h.0 new h.1

-- the backups beside the session's

-- the session is of this node, where one is open
abbrev pub IsOf : Node → Session → Type 0
IsOf name session = (o : Opened) → session ≡ Open o → o.node ≡ name

with_beside : (backups : Each Backup) (of name : Node) (x : Backup) → of ≡ name → (node : Node) → same_node name node ≡ false → at (with_at backups of x) node ≡ at backups node
with_beside backups of name x e node far = at_other backups of x node (ap (λ (n : Node). same_node n node) e ∙ far)

applied_beside : (name : Node) (s : State) (session : Session) (vol upto : ℕ) → IsOf name session → (node : Node) → same_node name node ≡ false → at (after_apply s session vol upto).backups node ≡ at s.backups node
applied_beside name s Closed vol upto of node far = refl
applied_beside name s (Refused on why) vol upto of node far = refl
applied_beside name s (Open o) vol upto of node far = with_beside s.backups o.node name (moved_backup (at s.backups o.node) vol upto) (of o refl) node far

halted_beside : (name : Node) (rise : ℕ) (s : State) (session : Session) (vol : ℕ) → IsOf name session → (node : Node) → same_node name node ≡ false → at (after_halt rise s session vol).backups node ≡ at s.backups node
halted_beside name rise s Closed vol of node far = refl
halted_beside name rise s (Refused on why) vol of node far = refl
halted_beside name rise s (Open o) vol of node far = with_beside s.backups o.node name (halted_backup rise (at s.backups o.node)) (of o refl) node far

halted_of : (name : Node) (rise : ℕ) (s : State) (session : Session) (vol : ℕ) → s.session ≡ session → IsOf name session → IsOf name (after_halt rise s session vol).session
halted_of name rise s Closed vol is of o e = of o (sym is ∙ e)
halted_of name rise s (Refused node why) vol is of o e = of o (sym is ∙ e)
halted_of name rise s (Open p) vol is of o e = sym (ap (λ (x : Opened). x.node) (same e)) ∙ of p refl
  where
    same : Open (with_halt p vol) ≡ Open o → with_halt p vol ≡ o
    same f = cc

moved_of : (name : Node) (rise : ℕ) (s : State) (e : Event) → IsOf name s.session → IsOf name (after_move rise s e).session
moved_of name rise s (event.Apply vol upto) of = subst (λ (x : Session). IsOf name x) (sym (apply_session s s.session vol upto)) of
moved_of name rise s (event.Halt vol) of = halted_of name rise s s.session vol refl of
moved_of name rise s _ of = of

moved_beside : (name : Node) (rise : ℕ) (s : State) (e : Event) → IsOf name s.session → (node : Node) → same_node name node ≡ false → at (after_move rise s e).backups node ≡ at s.backups node
moved_beside name rise s (event.Apply vol upto) of = applied_beside name s s.session vol upto of
moved_beside name rise s (event.Halt vol) of = halted_beside name rise s s.session vol of
moved_beside name rise s _ of = λ node far. refl

moves_beside : (layout : Layout) (name : Node) (old : State) (events : List Event) (new : State) → IsOf name old.session → Moves layout old events new → (node : Node) → same_node name node ≡ false → at new.backups node ≡ at old.backups node
moves_beside layout name old [] new of h node far = ap (λ (s : State). at s.backups node) h
moves_beside layout name old (e ∷ events) new of h node far = moves_beside layout name (after_move h.1.0 old e) events new (moved_of name h.1.0 old e of) h.1.1.1 node far ∙ moved_beside name h.1.0 old e of node far

pub drifts_beside : (layout : Layout) (name : Node) (old new : State) → IsOf name old.session → Drifts layout old new → (node : Node) → same_node name node ≡ false → at new.backups node ≡ at old.backups node
drifts_beside layout name old new of h = moves_beside layout name old h.0 new of h.1
