-- A row of the table of lines: what refuses a line, its durable parts, its effect and its answer.
use Rattle.std.specs.Prelude.{◌≡◌, ℕ, List, [], map, Option}
use Rattle.rdf_types.specs.declared.layout.Layout.{Layout}
use Rattle.rdf_types.specs.declared.records.Row.{Row}
use Rattle.rdf_model.specs.Contents.{Contents}
use Rattle.rdf_core.specs.declared.replies.NoWhy.{NoWhy}
use Rattle.rdf_core.specs.declared.replies.Reply.{Reply}
use Rattle.rdf_core.specs.declared.replies.Reply.TheVariants.{Rows}
use Rattle.rdf_core.specs.Effects.{after_all}
use Rattle.rdf_core.specs.Rows.{AreRowsOf}

-- what a line that is not refused is answered: this reply; the rows of a volume of these contents; or nothing, where it has no row
pub data Answer : Type 0 where
  Tells : (reply : Reply) → Answer
  Lists : (at vol : ℕ) (contents : Contents) → Answer
  Nothing : Answer

-- the reply is that answer
abbrev pub Says : Answer → Reply → Type 0
Says (Tells told) reply = reply ≡ told
Says (Lists at vol contents) reply = (rows : List Row) × (reply ≡ Rows at rows) × AreRowsOf vol contents rows
Says Nothing reply = ⊥

-- the row of a line on an X: its first refusal over a layout, its durable parts in order, each as what it leaves, what the whole line leaves, and its answer
pub record Rule (X : Type 0) : Type 0 where
  pub refusal : Layout → Option NoWhy
  pub parts : List X
  pub after : X
  pub answer : Answer

-- a row without durable parts
abbrev pub in_memory : {X : Type 0} → Option NoWhy → X → Answer → Rule X
in_memory refusal after answer = record { refusal = λ _. refusal; parts = []; after = after; answer = answer }

-- a row that does its durable parts and nothing besides, from what stood before
abbrev pub stores : {X : Type 0} → X → Option NoWhy → List X → Answer → Rule X
stores old refusal parts answer = record { refusal = λ _. refusal; parts = parts; after = after_all old parts; answer = answer }

-- the row of a part, on the whole that has it
abbrev pub lift : {X Y : Type 0} → (X → Y) → Rule X → Rule Y
lift f r = record { refusal = r.refusal; parts = map f r.parts; after = f r.after; answer = r.answer }
