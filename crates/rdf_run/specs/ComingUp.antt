-- How volumes of an open session come up to what was received.
use Rattle.std.specs.Prelude.{◌≡◌, ℕ, ◌≤◌, false, ◌⊎◌, IsTrue}
use Rattle.rdf_types.specs.declared.layout.Layout.{Layout}
use Rattle.rdf_core.specs.declared.events.Event.TheVariants as event
use Rattle.rdf_core.specs.Backup.{Volumes, Running, Taking, Taken}
use Rattle.rdf_core.specs.Layouts.{point_of, protects}
use Rattle.rdf_core.specs.Run.{CanMove, after_move}
use Rattle.rdf_core.specs.Sessions.{Session, Closed, Refused, Open, has_halted}
use Rattle.by_node.specs.Each.{at}
use Rattle.rdf_core.specs.State.{State}

-- protected volumes that run stand at most at what was received
abbrev pub AreWithin : Layout → ℕ → Volumes → Type 0
AreWithin layout received (Running points) = (v : ℕ) → IsTrue (protects layout v) → point_of points v ≤ received
AreWithin layout received Taking = Unit {0}
AreWithin layout received (Taken upto) = Unit {0}

-- and in the open session the disk of none of them stopped
abbrev pub CanRise : Layout → State → Session → Type 0
CanRise layout s Closed = Unit {0}
CanRise layout s (Refused node why) = Unit {0}
CanRise layout s (Open o) = ((v : ℕ) → has_halted o v ≡ false) × AreWithin layout (at s.backups o.node).received (at s.backups o.node).volumes

-- the volume came up to the greatest position to which it may
pub record Rises (layout : Layout) (old : State) (vol : ℕ) (new : State) : Type 0 where
  pub upto : ℕ
  pub can : CanMove layout old (event.Apply vol upto)
  pub most : (to : ℕ) → CanMove layout old (event.Apply vol to) → to ≤ upto
  pub is : new ≡ after_move 1 old (event.Apply vol upto)

-- the volume may not move, and stays
pub record Stays (layout : Layout) (old : State) (vol : ℕ) (new : State) : Type 0 where
  pub none : (to : ℕ) → CanMove layout old (event.Apply vol to) → ⊥
  pub is : new ≡ old

abbrev pub ComesUp : Layout → State → ℕ → State → Type 0
ComesUp layout old vol new = Stays layout old vol new ⊎ Rises layout old vol new
