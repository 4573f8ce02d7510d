-- The rule of a lock's table.
use Rattle.std.specs.Prelude.{◌≡◌, ℕ, ◌+◌, ◌%◌, ◌<◌, ◌≤◌, ◌⊎◌, List, [], ◌∷◌, Bool, true, false, Some}
use Rattle.std.specs.Prelude as std
use mathlib.Core.Option.{Option, none, some}
use base.Stored.{Gv}
use lib.ListN.{get_elem?}
use Rattle.atomic_table.specs.Table.{State}
use Rattle.seated_lock.specs.declared.story.Story.{Story}
use Rattle.seated_lock.specs.declared.rule.Stage.{Stage}
use Rattle.seated_lock.specs.declared.rule.Stage.TheVariants.{Idle, Waiting, Holding}
use Rattle.seated_lock.specs.declared.rule.View.{View}
use Rattle.seated_lock.specs.declared.rule.Mark.{Mark}
use Rattle.rdf_types.specs.Entries.{Rises}
use Rattle.seated_lock.specs.Stories.{Begins, untold}

-- a sum over all views
abbrev pub tally : (View → ℕ) → List View → ℕ
tally f [] = 0
tally f (v ∷ vs) = f v + tally f vs

abbrev pub seats_of : View → ℕ
seats_of v = v.seats

-- 1 where it is so
abbrev pub one : Bool → ℕ
one true = 1
one false = 0

abbrev pub writes_of : View → ℕ
writes_of v = one v.writes

abbrev pub has_ticket : Stage → ℕ
has_ticket Idle = 0
has_ticket Waiting = 1
has_ticket Holding = 1

abbrev pub tickets_of : View → ℕ
tickets_of v = has_ticket v.stage

abbrev pub marked : Gv → Mark
marked g = record { nothing = tt; code = g }

-- the first view of a lock
abbrev pub maker : Gv → ℕ → ℕ → View
maker g n seats = record { seen = untold n; beside = untold n; writes = true; turns = 0; seats = seats; stage = Idle; ticket = 0; clash = false; origin = marked g }

module _ {V : Type 0} (stands : V → Story → V → Type 0) (reach : V → ℕ) where
  -- the value stands for the story of the first value, up to its number
  abbrev pub StandsFor : V → Story → V → Type 0
  StandsFor first story value = stands first story value × (reach value ≡ story.number)

-- what the rule says of one view. A view that a join has spent has no seat
pub record Knows {S : Type 0} (origin : Gv) (story : Story) (drawn served : ℕ) (homes : List (Option S)) (v : View) : Type 0 where
  pub seen : 0 < v.seats → Begins v.seen story
  pub beside : 0 < v.seats → Begins v.beside story
  pub origin_is : 0 < v.seats → v.origin.code ≡ origin
  pub whole : v.writes ≡ true → v.seen ≡ story
  pub writes : one v.writes ≤ v.seats
  pub clash : v.clash ≡ false
  pub queues : has_ticket v.stage ≤ v.seats
  pub ticket : has_ticket v.stage ≡ 1 → (served ≤ v.ticket) × (v.ticket < drawn)
  pub holds : v.stage ≡ Holding → (v.ticket ≡ served) × (v.seen ≡ story) × (homes ≡ none ∷ [])

module _ {V : Type 0} (stands : V → Story → V → Type 0) (reach : V → ℕ) (first : V) (story : Story) where
  -- the value is at home and stands for the story, or the slot is out with a seat that says so
  abbrev pub Slot : List (Option (std.Option V)) → List View → Type 0
  Slot homes views = ((x : V) × (homes ≡ some (Some x) ∷ []) × StandsFor stands reach first story x) ⊎ ((i : ℕ) × (v : View) × (homes ≡ none ∷ []) × (get_elem? views i ≡ some v) × (v.stage ≡ Holding))

-- tickets are counted without end here, and modulo 2^64 in the words
pub record IsKept {V : Type 0} (code : V → Gv) (stands : V → Story → V → Type 0) (reach : V → ℕ) (first : V) (seats : ℕ) (s : State (std.Option V) View) : Type 0 where
  pub story : Story
  pub drawn : ℕ
  pub served : ℕ
  pub words : s.words ≡ story.number ∷ drawn % 18446744073709551616 ∷ served % 18446744073709551616 ∷ []
  pub few : seats < 4294967296
  pub rises : Rises (reach first) story.entries story.number
  pub all_seats : tally seats_of s.views ≡ seats
  pub one_writes : tally writes_of s.views ≡ 1
  pub queue : served + tally tickets_of s.views ≡ drawn
  pub each : (i : ℕ) (v : View) → get_elem? s.views i ≡ some v → Knows (code first) story drawn served s.homes v
  pub apart : (i j : ℕ) (v w : View) → get_elem? s.views i ≡ some v → get_elem? s.views j ≡ some w → has_ticket v.stage ≡ 1 → has_ticket w.stage ≡ 1 → v.ticket ≡ w.ticket → i ≡ j
  pub slot : Slot stands reach first story s.homes s.views
