-- What is predicted of a plan: its lines are done whole, one after another, and the volumes of an open session stand at all that was received before each line that goes by where they stand.
use Rattle.std.specs.Prelude.{◌≡◌, ℕ, Bool, true, false, List, [], ◌∷◌, if◌then◌else◌, IsTrue}
use Rattle.rdf_types.specs.declared.layout.Layout.{Layout}
use Rattle.plan_lang.specs.declared.lines.Line.{Line}
use Rattle.plan_lang.specs.declared.lines.Line.TheVariants as line
use Rattle.rdf_core.specs.declared.replies.Reply.{Reply}
use Rattle.rdf_core.specs.Allowed.{allowed}
use Rattle.rdf_core.specs.Backup.{Backup, Volumes, Running, Taking, Taken, with_volumes}
use Rattle.rdf_core.specs.Sessions.{Session, Closed, Refused, Open}
use Rattle.by_node.specs.Each.{at}
use Rattle.rdf_core.specs.State.{State, blank, with_backup}
use Rattle.rdf_core.specs.Happens.{Does}

-- the points of volumes, once those with a flag stand at a position
abbrev pub points_with : List Bool → ℕ → List ℕ → List ℕ
points_with [] at points = points
points_with (flag ∷ more) at [] = []
points_with (flag ∷ more) at (p ∷ points) = (if flag then at else p) ∷ points_with more at points

-- the same of volumes that run
abbrev pub risen_to : List Bool → ℕ → Volumes → Volumes
risen_to flags at (Running points) = Running (points_with flags at points)
risen_to flags at Taking = Taking
risen_to flags at (Taken upto) = Taken upto

-- the backup, once these volumes stand at all that it received
abbrev pub risen : List Bool → Backup → Backup
risen flags b = with_volumes b (risen_to flags b.received b.volumes)

-- the state, once these volumes of the open session's backup do; a session that was refused has no volumes
abbrev pub risen_in : List Bool → State → Session → State
risen_in flags s Closed = s
risen_in flags s (Refused node why) = s
risen_in flags s (Open o) = with_backup s o.node (risen flags (at s.backups o.node))

-- a line that goes by where the volumes stand
abbrev pub goes_by_points : Line → Bool
goes_by_points (line.Read node key) = true
goes_by_points (line.Purge node) = true
goes_by_points line.End = true
goes_by_points _ = false

-- the state in which a line is done: before one that goes by where the volumes stand, the protected ones of the open session have risen
abbrev pub before : Layout → State → Line → State
before layout s l = if goes_by_points l then risen_in layout.protect s s.session else s

-- from this state on, the lines are ones that a plan may have there, and are done whole, one after another, with these replies
abbrev pub Foretold : Layout → State → List Line → List Reply → State → Type 0
Foretold layout s [] [] last = last ≡ s
Foretold layout s (l ∷ lines) (reply ∷ replies) last =
    (next : State) × IsTrue (allowed layout s.session l) × Does layout (before layout s l) l reply next × Foretold layout next lines replies last
Foretold layout s [] (reply ∷ replies) last = ⊥
Foretold layout s (l ∷ lines) [] last = ⊥

-- the replies that are predicted of the lines
abbrev pub Predicted : Layout → List Line → List Reply → Type 0
Predicted layout lines replies = (last : State) × Foretold layout (blank layout) lines replies last

-- the line may stand there and was done, with a reply that was written so
pub record IsAnswered (layout : Layout) (old : State) (l : Line) (new : State) (IsWritten : Reply → Type 0) : Type 0 where
  pub reply : Reply
  pub may : IsTrue (allowed layout old.session l)
  pub does : Does layout (before layout old l) l reply new
  pub written : IsWritten reply
