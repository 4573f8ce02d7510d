-- What an image disk stands for, and what each durable part of a call makes of it. The trails are numbered 0, the master, to 3.
use Rattle.std.specs.Prelude.{◌≡◌, ℕ, zero, suc, ◌+◌, ◌-◌, ◌<◌, Bool, ◌&&◌, ◌==◌, nat_le, nat_lt, if◌then◌else◌, List, [], ◌∷◌, ◌++◌, Option, Some, None}
use Rattle.rdf_types.specs.declared.records.Record.{Record}
use Rattle.rdf_types.specs.declared.records.Stamped.{Stamped}
use Rattle.rdf_types.specs.declared.records.Phase.{Phase}
use Rattle.rdf_types.specs.declared.records.Phase.TheVariants.{Running}
use Rattle.image_disks.specs.Blocks.{Plan, found, kept_of}

-- The starts of the generations, the last one's number, the phase, and by trail its top and what stands at each position.
-- The master's top is the received position. What a secondary has from there on is ahead.
pub record Value : Type 0 where
  pub starts : List ℕ
  pub last : ℕ
  pub phase : Phase
  pub top : ℕ → ℕ
  pub entry : ℕ → ℕ → Option Record

abbrev pub received : Value → ℕ
received v = v.top 0

abbrev pub first_of : List ℕ → ℕ
first_of [] = 0
first_of (s ∷ rest) = s

-- where the kept part begins
abbrev pub kept : Value → ℕ
kept v = first_of v.starts

abbrev pub last_of : List ℕ → ℕ
last_of [] = 0
last_of (s ∷ []) = s
last_of (s ∷ t ∷ rest) = last_of (t ∷ rest)

abbrev pub or_else : Option Record → Option Record → Option Record
or_else None y = y
or_else (Some r) y = Some r

-- what the kept part has at that position: of two entries the one of the lower trail
abbrev pub merged : Value → ℕ → Option Record
merged v i = or_else (v.entry 0 i) (or_else (v.entry 1 i) (or_else (v.entry 2 i) (v.entry 3 i)))

-- a shipment, or a part of one
pub record Shipment : Type 0 where
  pub from : ℕ
  pub to : ℕ
  pub part : List Stamped

-- the values are alike, as far as there are trails
pub record Alike (v w : Value) : Type 0 where
  pub starts : v.starts ≡ w.starts
  pub last : v.last ≡ w.last
  pub phase : v.phase ≡ w.phase
  pub top : (t : ℕ) → t < 4 → v.top t ≡ w.top t
  pub entry : (t i : ℕ) → t < 4 → v.entry t i ≡ w.entry t i

abbrev pub marked : Phase → Value → Value
marked phase v = record v { phase = phase }

-- the trail has a file, and ends before the shipment does
abbrev pub is_behind : Plan → ℕ → Shipment → Value → Bool
is_behind plan t ship v = plan.used t && nat_lt (v.top t) ship.to

-- after the block of one trail
abbrev pub with_block : Plan → ℕ → Shipment → Value → Value
with_block plan t ship v = record v {
  top = λ u. if u == t then ship.to else v.top u;
  entry = λ u i. if (u == t) && nat_le (v.top t) i then found (kept_of plan t (v.top t) ship.part) i else v.entry u i;
}

-- after one trail's part of a shipment: it has nothing to write where it isn't behind
abbrev pub written : Plan → Shipment → ℕ → Value → Value
written plan ship t v = if is_behind plan t ship v then with_block plan t ship v else v

-- a new image disk, whose trails begin there
abbrev pub fresh : ℕ → Value
fresh start = record { starts = start ∷ []; last = 0; phase = Running; top = λ t. start; entry = λ t i. None }

-- a new generation begins before the next shipment
abbrev pub rolls : Plan → Value → Bool
rolls plan v = nat_le plan.extent (received v - last_of v.starts) && nat_lt v.last 1000000000

-- after a new generation began
abbrev pub rolled : Value → Value
rolled v = record {
  starts = v.starts ++ received v ∷ [];
  last = v.last + 1;
  phase = v.phase;
  top = λ t. received v;
  entry = λ t i. if nat_lt i (received v) then v.entry t i else None;
}

-- after the first generation is dropped
abbrev pub second_of : List ℕ → ℕ
second_of [] = 0
second_of (s ∷ rest) = first_of rest

abbrev pub rest_of : List ℕ → List ℕ
rest_of [] = []
rest_of (s ∷ rest) = rest

abbrev pub dropped : Value → Value
dropped v = record v {
  starts = rest_of v.starts;
  entry = λ t i. if nat_lt i (second_of v.starts) then None else v.entry t i;
}

abbrev pub ready : Plan → Value → Value
ready plan v = if rolls plan v then rolled v else v

-- the value after each of these trails' parts, one after the other
abbrev pub each_written : Plan → Shipment → List ℕ → Value → List Value
each_written plan ship [] v = []
each_written plan ship (t ∷ ts) v = written plan ship t v ∷ each_written plan ship ts (written plan ship t v)

abbrev pub all_written : Plan → Shipment → List ℕ → Value → Value
all_written plan ship [] v = v
all_written plan ship (t ∷ ts) v = all_written plan ship ts (written plan ship t v)

-- the secondaries before the master
abbrev pub in_turn : List ℕ
in_turn = 1 ∷ 2 ∷ 3 ∷ 0 ∷ []

-- what a store passes through: what was, the new generation, and each trail's part
abbrev pub stages : Plan → Shipment → Value → List Value
stages plan ship v = v ∷ ready plan v ∷ each_written plan ship in_turn (ready plan v)

abbrev pub stored : Plan → Shipment → Value → Value
stored plan ship v = all_written plan ship in_turn (ready plan v)

-- after a shipment: one with nothing new changes nothing
abbrev pub took : Plan → Shipment → Value → Value
took plan ship v = if nat_lt (received v) ship.to then stored plan ship v else v

-- the entry at a position before other ones
abbrev pub at_pos : ℕ → Option Record → List Stamped → List Stamped
at_pos i None rest = rest
at_pos i (Some r) rest = record { pos = i; rec = r } ∷ rest

-- what there is at so many positions
abbrev pub listed : (ℕ → Option Record) → ℕ → ℕ → List Stamped
listed entry from zero = []
listed entry from (suc n) = at_pos from (entry from) (listed entry (from + 1) n)
