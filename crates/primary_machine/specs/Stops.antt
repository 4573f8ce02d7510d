-- A line of which a stop of the primary leaves the first durable parts.
use Rattle.std.specs.Prelude.{ℕ, ◌≤◌, Bool, true, false, length, IsTrue}
use Rattle.rdf_types.specs.declared.layout.Layout.{Layout}
use Rattle.plan_lang.specs.declared.lines.Line.{Line}
use Rattle.plan_lang.specs.declared.lines.Line.TheVariants as line
use Rattle.rdf_core.specs.Effects.{reaches_disks, parts_unless, after_parts}
use Rattle.rdf_core.specs.Primary.{Primary, primary_refusal, primary_parts, primary_fallen}

-- the line reaches the disks, and has so many durable parts
pub record CanCut (layout : Layout) (a : Primary) (l : Line) (done : ℕ) : Type 0 where
  pub reaches : IsTrue (reaches_disks (primary_refusal layout a l))
  pub few : done ≤ length (parts_unless (primary_refusal layout a l) (primary_parts a l))

-- the primary after the first parts of the line, and down
abbrev pub first_parts : Layout → Primary → Line → ℕ → Primary
first_parts layout a l done = primary_fallen 1 (after_parts a (parts_unless (primary_refusal layout a l) (primary_parts a l)) done)

-- a line that adds one record at most
abbrev pub adds_record : Line → Bool
adds_record (line.Insert t k value) = true
adds_record (line.Update t k value) = true
adds_record (line.Delete t k) = true
adds_record (line.Commit t) = true
adds_record _ = false

-- a line whose durable parts are a backout
abbrev pub is_backout : Line → Bool
is_backout (line.Abort t) = true
is_backout (line.Restart node) = true
is_backout _ = false
