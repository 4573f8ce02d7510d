-- What the positions of a backup keep to, whatever happens.
use Rattle.std.specs.Prelude.{◌≡◌, ℕ, ◌<◌, ◌≤◌, max, List, [], ◌∷◌, length, take, IsTrue}
use Rattle.rdf_types.specs.declared.layout.Layout.{Layout}
use Rattle.rdf_types.specs.declared.records.Node.{Node}
use Rattle.rdf_types.specs.declared.records.Record.{Record}
use Rattle.rdf_model.specs.Window as window
use Rattle.by_node.specs.Each.{at}
use Rattle.rdf_core.specs.Layouts.{protects, point_of}
use Rattle.rdf_core.specs.State.{State}
use Rattle.rdf_core.specs.Sessions.{Session, Closed, Refused, Open, Opened}
use Rattle.rdf_core.specs.Backup.{Backup, Volumes, Running, Taking, Taken, kept_of}

-- each protected volume stands from the first kept position up to the received one
pub record ArePoints (layout : Layout) (received kept : ℕ) (points : List ℕ) : Type 0 where
  pub whole : length points ≡ length layout.protect
  pub low : (v : ℕ) → IsTrue (protects layout v) → kept ≤ point_of points v
  pub high : (v : ℕ) → IsTrue (protects layout v) → point_of points v ≤ received

-- the same of the volumes in each phase
abbrev pub AreSound : Layout → List Record → ℕ → ℕ → Volumes → Type 0
AreSound layout trail received kept (Running points) = ArePoints layout received kept points
AreSound layout trail received kept Taking = Unit {0}
AreSound layout trail received kept (Taken upto) = (upto ≤ received) × ((v : ℕ) → IsTrue (protects layout v) → kept ≤ window.low (protects layout) (take upto trail))

-- the received prefix is one of the trail, and what is kept reaches down to the low position and to each restart point
pub record IsSound (layout : Layout) (trail : List Record) (b : Backup) : Type 0 where
  pub within : b.received ≤ length trail
  pub some : 0 < length b.starts
  pub low : kept_of b ≤ window.low (protects layout) (take b.received trail)
  pub volumes : AreSound layout trail b.received (kept_of b) b.volumes

-- what a purge may take for the restart points: for each protected volume at most the present one
abbrev pub AreBelow : Layout → List ℕ → List ℕ → Type 0
AreBelow layout points now = (v : ℕ) → IsTrue (protects layout v) → point_of points v ≤ point_of now v

-- each message that was sent ends within the trail
abbrev pub EndWithin : ℕ → List (ℕ × ℕ) → Type 0
EndWithin len [] = Unit {0}
EndWithin len (range ∷ sent) = (range.1 ≤ len) × EndWithin len sent

-- each backup is sound, and nothing was sent that is not in the trail
pub record AllSound (layout : Layout) (s : State) : Type 0 where
  pub backups : (node : Node) → IsSound layout s.primary.trail (at s.backups node)
  pub sent : (node : Node) → EndWithin (length s.primary.trail) (at s.senders node).sent

-- the points of running volumes lie at or above those of the session's line and those that were read in it
abbrev pub HaveRisen : Layout → Opened → Volumes → Type 0
HaveRisen layout o (Running points) = (v : ℕ) → IsTrue (protects layout v) → max (point_of o.began v) (point_of o.seen v) ≤ point_of points v
HaveRisen layout o Taking = Unit {0}
HaveRisen layout o (Taken upto) = Unit {0}

-- no point of the open session's backup has fallen in it
abbrev pub NoneHasFallen : Layout → State → Session → Type 0
NoneHasFallen layout s Closed = Unit {0}
NoneHasFallen layout s (Refused node why) = Unit {0}
NoneHasFallen layout s (Open o) = HaveRisen layout o (at s.backups o.node).volumes
