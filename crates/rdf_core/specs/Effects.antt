-- How a line may end on a part of the state: its first refusal, its durable parts, its effect.
use Rattle.std.specs.Prelude.{◌≡◌, ℕ, zero, suc, ◌<◌, ◌≤◌, ◌-◌, ◌^◌, min, Bool, true, false, List, [], ◌∷◌, length, Option, Some, None, if◌then◌else◌, IsTrue}
use Rattle.rdf_types.specs.declared.records.Node.{Node}
use Rattle.rdf_core.specs.declared.replies.NoWhy.{NoWhy}
use Rattle.rdf_core.specs.declared.replies.NoWhy.TheVariants.{Lost, Down, Up, PrimaryUp, Running, Taking, Taken}
use Rattle.rdf_core.specs.declared.replies.Reply.{Reply}
use Rattle.rdf_core.specs.declared.replies.Reply.TheVariants.{No, Stopped}

-- a refusal, where the test holds
abbrev pub when : Bool → NoWhy → Option NoWhy
when test why = if test then Some why else None

-- the first refusal that applies
abbrev pub first : List (Option NoWhy) → Option NoWhy
first [] = None
first (None ∷ rest) = first rest
first (Some why ∷ rest) = Some why

-- what stands after so many of the durable parts, each given by what it leaves
abbrev pub after_parts : {X : Type 0} → X → List X → ℕ → X
after_parts old [] n = old
after_parts old (x ∷ parts) zero = old
after_parts old (x ∷ parts) (suc n) = after_parts x parts n

-- what stands after all of them
abbrev pub after_all : {X : Type 0} → X → List X → X
after_all old [] = old
after_all old (x ∷ parts) = after_all x parts

-- the line is refused, or done
abbrev pub IsDone : {X : Type 0} → Option NoWhy → (NoWhy → X) → X → (Reply → Type 0) → Reply → X → Type 0
IsDone None kept after says reply new = says reply × (new ≡ after)
IsDone (Some why) kept after says reply new = (reply ≡ No why) × (new ≡ kept why)

-- the refusal speaks of the state or the phase of a node
abbrev pub is_of_node : NoWhy → Bool
is_of_node Lost = true
is_of_node Down = true
is_of_node Up = true
is_of_node PrimaryUp = true
is_of_node Running = true
is_of_node Taking = true
is_of_node Taken = true
is_of_node _ = false

-- no state or phase of a node refuses the line
abbrev pub reaches_disks : Option NoWhy → Bool
reaches_disks None = true
reaches_disks (Some why) = if is_of_node why then false else true

-- the durable parts: a refused line has none
abbrev pub parts_unless : {X : Type 0} → Option NoWhy → List X → List X
parts_unless None parts = parts
parts_unless (Some why) parts = []

-- stops of disks of the node cut the line off after so many of its durable parts
pub record IsCutOff {X : Type 0} (node : Node) (fall : ℕ → X → X) (old : X) (refused : Option NoWhy) (parts : List X) (done : ℕ) (reply : Reply) (new : X) : Type 0 where
  pub may : IsTrue (reaches_disks refused)
  pub few : done ≤ length (parts_unless refused parts)
  pub says : reply ≡ Stopped node
  pub rise : ℕ
  pub some : 0 < rise
  pub leaves : new ≡ fall rise (after_parts old (parts_unless refused parts) done)

-- how a line ends that uses a disk of this node, or of none: it is refused or done, or stops of disks of that node cut it off
pub data Ends {X : Type 0} (used : Option Node) (fall : Node → ℕ → X → X) (old : X) (refused : Option NoWhy) (kept : NoWhy → X) (parts : List X) (after : X) (says : Reply → Type 0) (reply : Reply) (new : X) : Type 0 where
  Whole : (done : IsDone refused kept after says reply new) → Ends used fall old refused kept parts after says reply new
  Cut : (node : Node) (of : used ≡ Some node) (done : ℕ) (off : IsCutOff node (fall node) old refused parts done reply new) → Ends used fall old refused kept parts after says reply new

-- a count that stands still at the end of its type
abbrev pub count_u64 : ℕ → ℕ
count_u64 n = min n (2 ^ 64 - 1)

-- and a smaller one
abbrev pub count_u32 : ℕ → ℕ
count_u32 n = min n (2 ^ 32 - 1)
