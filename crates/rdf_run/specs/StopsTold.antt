-- Which stops of disks the replies to lines tell of, whatever the disks hold.
use Rattle.std.specs.Prelude.{◌≡◌, ◌≢◌, ◌⊎◌, ℕ, ◌+◌, ◌<◌, ◌≤◌, Bool, true, false, List, [], ◌∷◌, Option, Some, if◌then◌else◌}
use Rattle.rdf_types.specs.declared.layout.Layout.{Layout}
use Rattle.rdf_types.specs.declared.records.Node.{Node}
use Rattle.plan_lang.specs.declared.lines.Line.{Line}
use Rattle.plan_lang.specs.declared.lines.Line.TheVariants as line
use Rattle.plan_lang.specs.LineText.{same_node}
use Rattle.rdf_core.specs.declared.replies.Reply.{Reply}
use Rattle.rdf_core.specs.declared.replies.Reply.TheVariants.{Stopped}
use Rattle.rdf_core.specs.Step.{disks_of}
use Rattle.rdf_system.specs.Lines.{counts_stop}
use Rattle.rdf_system.specs.Place.{is_used}

-- the node whose disks a line uses, but at the end of a session: a read uses those of its session
abbrev pub uses_of : Line → Option Node
uses_of (line.Read node key) = Some node
uses_of l = disks_of l

-- So many stops of each disk came with a line that was answered so: none, and the reply does not tell that the node stopped whose disks the line uses; or some of one node's, at least one of them of a used disk, and the reply tells that this node stopped.
pub data LineTold (layout : Layout) (l : Line) (reply : Reply) (stops : Node → ℕ → ℕ) : Type 0 where
  NoneStopped : (none : (node : Node) (i : ℕ) → stops node i ≡ 0) (untold : (node : Node) → uses_of l ≡ Some node → reply ≢ Stopped node) → LineTold layout l reply stops
  SomeStopped : (node : Node) (told : reply ≡ Stopped node) (disk : ℕ) (used : is_used layout node disk ≡ true) (some : 0 < stops node disk)
      (alone : (other : Node) (i : ℕ) → same_node node other ≡ false → stops other i ≡ 0) → LineTold layout l reply stops

-- so many came with lines that were answered so, those of each line taken together
abbrev pub AreTold : Layout → List Line → List Reply → (Node → ℕ → ℕ) → Type 0
AreTold layout [] [] stops = (node : Node) (i : ℕ) → stops node i ≡ 0
AreTold layout (l ∷ lines) (reply ∷ replies) stops = (first : Node → ℕ → ℕ) × ((others : Node → ℕ → ℕ) × (LineTold layout l reply first × (AreTold layout lines replies others × ((node : Node) (i : ℕ) → stops node i ≡ first node i + others node i))))
AreTold layout [] (reply ∷ replies) stops = ⊥
AreTold layout (l ∷ lines) [] stops = ⊥

-- all of so many stops came with these lines, or some of them
abbrev pub AreToldOf : (all : Bool) → Layout → List Line → List Reply → (Node → ℕ → ℕ) → Type 0
AreToldOf true layout lines replies stops = AreTold layout lines replies stops
AreToldOf false layout lines replies stops = (told : Node → ℕ → ℕ) × (AreTold layout lines replies told × ((node : Node) (i : ℕ) → told node i ≤ stops node i))

-- how many lines that use disks of the node were answered that it stopped
abbrev pub stops_answered : Node → List Line → List Reply → ℕ
stops_answered node [] replies = 0
stops_answered node (l ∷ lines) [] = 0
stops_answered node (l ∷ lines) (reply ∷ replies) = (if counts_stop (uses_of l) node reply then 1 else 0) + stops_answered node lines replies

-- a reply tells that the node stopped
abbrev pub TellsStop : Node → List Reply → Type 0
TellsStop node [] = ⊥
TellsStop node (reply ∷ replies) = (reply ≡ Stopped node) ⊎ TellsStop node replies
