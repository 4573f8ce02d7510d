-- By how much the counts of disks rose in a run.
use Rattle.std.specs.Prelude.{◌≡◌, ℕ, zero, suc, ◌+◌, ◌<◌, ◌≤◌, min, Bool, false, ◌&&◌, ◌==◌, List, [], ◌∷◌, if◌then◌else◌}
use Rattle.rdf_types.specs.Counts.{most}
use Rattle.rdf_types.specs.declared.layout.Layout.{Layout}
use Rattle.rdf_types.specs.declared.records.Node.{Node}
use Rattle.rdf_disk.specs.Counts.{Counts}
use Rattle.plan_lang.specs.declared.lines.Line.{Line}
use Rattle.plan_lang.specs.declared.lines.Line.TheVariants as line
use Rattle.rdf_core.specs.declared.replies.Reply.{Reply}
use Rattle.rdf_core.specs.declared.replies.Reply.TheVariants.{Done}
use Rattle.rdf_core.specs.Allowed.{is_node}
use Rattle.plan_lang.specs.LineText.{same_node}

-- a count after so many more; it stands still at its type's end
abbrev pub counted_up : ℕ → ℕ → ℕ
counted_up n zero = n
counted_up n (suc k) = min (n + suc k) most

-- the line was answered that it is done, and gave the disk a fuse
abbrev pub gives_fuse : Node → ℕ → Line → Reply → Bool
gives_fuse node i (line.Fuse named disk calls tear) Done = same_node named node && i == disk
gives_fuse node i _ _ = false

-- how many of these lines, answered so, gave the disk a fuse
abbrev pub fuses_given : Node → ℕ → List Line → List Reply → ℕ
fuses_given node i [] replies = 0
fuses_given node i (l ∷ lines) [] = 0
fuses_given node i (l ∷ lines) (reply ∷ replies) = (if gives_fuse node i l reply then 1 else 0) + fuses_given node i lines replies

-- the count of stops rose by this number, unless it stands at its type's end
pub record RoseBy (more old new : ℕ) : Type 0 where
  pub no_less : old ≤ new
  pub by : new < most → new ≡ old + more

-- the counts of a disk that was given so many fuses and had so many stops
pub record CountsRose (fuses stops : ℕ) (old new : Counts) : Type 0 where
  pub fuses_are : new.fuses ≡ counted_up old.fuses fuses
  pub stops_are : RoseBy stops old.stops new.stops

-- the numbers of the disks below n, taken together
abbrev pub sum_below : ℕ → (ℕ → ℕ) → ℕ
sum_below zero f = 0
sum_below (suc n) f = sum_below n f + f n

-- how many disks of a node are used
abbrev pub disks_many : Layout → Node → ℕ
disks_many layout node = if is_node layout node then suc layout.volumes else 0

-- the numbers of the used disks of each node, taken together
abbrev pub sums_of : Layout → (Node → ℕ → ℕ) → Node → ℕ
sums_of layout stops node = sum_below (disks_many layout node) (stops node)
