-- What a move of a volume of the open session leaves.
use Rattle.std.proofs.Common.{◌≡◌, ℕ, refl}
use Rattle.rdf_core.specs.declared.events.Event.{Event}
use Rattle.rdf_core.specs.declared.events.Event.TheVariants as event
use Rattle.rdf_core.specs.Sessions.{Session, Closed, Refused, Open}
use Rattle.rdf_core.specs.State.{State}
use Rattle.rdf_core.specs.Step.{after_apply, after_halt}
use Rattle.rdf_core.specs.Run.{after_move}

-- the primary
pub apply_primary : (s : State) (session : Session) (vol upto : ℕ) → (after_apply s session vol upto).primary ≡ s.primary
apply_primary s Closed vol upto = refl
apply_primary s (Refused of why) vol upto = refl
apply_primary s (Open o) vol upto = refl

pub halt_primary : (rise : ℕ) (s : State) (session : Session) (vol : ℕ) → (after_halt rise s session vol).primary ≡ s.primary
halt_primary rise s Closed vol = refl
halt_primary rise s (Refused of why) vol = refl
halt_primary rise s (Open o) vol = refl

pub move_primary : (rise : ℕ) (s : State) (e : Event) → (after_move rise s e).primary ≡ s.primary
move_primary rise s (event.Apply vol upto) = apply_primary s s.session vol upto
move_primary rise s (event.Halt vol) = halt_primary rise s s.session vol
move_primary rise s _ = refl

-- and the session, where the volume rises
pub apply_session : (s : State) (session : Session) (vol upto : ℕ) → (after_apply s session vol upto).session ≡ s.session
apply_session s Closed vol upto = refl
apply_session s (Refused of why) vol upto = refl
apply_session s (Open o) vol upto = refl
