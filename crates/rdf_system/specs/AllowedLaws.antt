-- A line whose words the layout knows and that fits the system's session is one that a plan may have where the machine is.
use Rattle.std.proofs.Common.{◌≡◌, ℕ, true, List, [], ◌∷◌, Option, Some, refl, sym, ap, ◌∙◌, subst}
use Rattle.rdf_types.specs.declared.layout.Layout.{Layout}
use Rattle.rdf_types.specs.declared.records.Node.{Node}
use Rattle.rdf_disk.specs.Files.{Disk}
use Rattle.rdf_disk.specs.declared.disk.Disk.{Ghosts}
use Rattle.plan_lang.specs.declared.lines.Line.{Line}
use Rattle.plan_lang.specs.Sessions.{fits_session}
use Rattle.rdf_core.specs.declared.events.Event.{Event}
use Rattle.rdf_core.specs.declared.events.Event.TheVariants as event
use Rattle.rdf_core.specs.Allowed.{has_names, allowed, open_node}
use Rattle.rdf_core.specs.Backup.{Backup}
use Rattle.rdf_core.specs.Sessions.{Session, Closed, Refused, Open}
use Rattle.by_node.specs.Each.{Each}
use Rattle.rdf_core.specs.State.{State}
use Rattle.rdf_core.specs.Step.{after_apply, after_halt}
use Rattle.rdf_core.specs.Run.{after_move, Moves, Drifts}
use Rattle.rdf_system.specs.declared.session.SessionState.{SessionState}
use Rattle.rdf_system.specs.declared.session.SessionState.TheVariants as system
use Rattle.rdf_system.specs.declared.system.System.{System}
use Rattle.rdf_system.specs.Sessions.{node_of, IsSession}
use Rattle.rdf_system.specs.States.{layout_of, IsAtState}
use Rattle.std.proofs.lemmas.Bool.{and_from}

-- what happens between two lines leaves the session open
apply_node : (s : State) (session : Session) (vol upto : ℕ) → open_node (after_apply s session vol upto).session ≡ open_node s.session
apply_node s Closed vol upto = refl
apply_node s (Refused of why) vol upto = refl
apply_node s (Open o) vol upto = refl

halt_node : (rise : ℕ) (s : State) (session : Session) (vol : ℕ) → s.session ≡ session → open_node (after_halt rise s session vol).session ≡ open_node s.session
halt_node rise s Closed vol e = refl
halt_node rise s (Refused of why) vol e = refl
halt_node rise s (Open o) vol e = sym (ap open_node e)

move_node : (rise : ℕ) (s : State) (e : Event) → open_node (after_move rise s e).session ≡ open_node s.session
move_node rise s (event.Apply vol upto) = apply_node s s.session vol upto
move_node rise s (event.Halt vol) = halt_node rise s s.session vol refl
move_node rise s _ = refl

moves_node : (layout : Layout) (events : List Event) (old new : State) → Moves layout old events new → open_node new.session ≡ open_node old.session
moves_node layout [] old new m = ap (λ (s : State). open_node s.session) m
moves_node layout (e ∷ events) old new m = moves_node layout events (after_move m.1.0 old e) new m.1.1.1 ∙ move_node m.1.0 old e

session_node : (layout : Layout) (backups : Each Backup) (session : Session) (now : SessionState) → IsSession layout backups session now → node_of now ≡ open_node session
session_node layout backups Closed system.Closed h = refl
session_node layout backups (Refused of why) (system.Refused node reason) h = ap (λ n. Some n) (sym h.0)
session_node layout backups (Open o) (system.Open node stopped) h = ap (λ n. Some n) (sym h.node_is)
session_node layout backups _ _ h = absurd h

-- the line may stand where it does, also behind what may happen before it
pub line_allowed : (layout : Layout) (s mid : State) (session : SessionState) (l : Line) → has_names layout l ≡ true → fits_session (node_of session) l ≡ true → IsSession layout s.backups s.session session → Drifts layout s mid →
    allowed layout mid.session l ≡ true
line_allowed layout s mid session l names fits is d =
    and_from (has_names layout l) (fits_session (open_node mid.session) l) names
    (subst (λ (of : Option Node). fits_session of l ≡ true) (session_node layout s.backups s.session session is ∙ sym (moves_node layout d.0 s mid d.1)) fits)

-- also where the system is
pub allowed_at : {D : Type 0} {d : Ghosts D} {files : D → Disk} {layout : Layout} {s : State} {sys : System D d} (l : Line) → IsAtState files layout s sys → has_names (layout_of sys) l ≡ true →
    fits_session (node_of sys.session) l ≡ true → allowed layout s.session l ≡ true
allowed_at {layout = layout} {s = s} {sys = sys} l is names fits =
    line_allowed layout s s sys.session l (subst (λ (of : Layout). has_names of l ≡ true) is.laid names) fits is.session ([], refl)
