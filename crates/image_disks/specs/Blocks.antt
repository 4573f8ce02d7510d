-- The blocks of image files, and what stands in a file of them.
use Rattle.std.specs.Prelude.{◌≡◌, ℕ, ◌+◌, ◌<◌, ◌≤◌, Bool, true, false, ◌&&◌, ◌==◌, nat_le, if◌then◌else◌, List, [], ◌∷◌, ◌++◌, filter, Option, Some, None}
use Rattle.rdf_types.specs.declared.records.Record.{Record}
use Rattle.rdf_types.specs.declared.records.Stamped.{Stamped}
use Rattle.rdf_types.specs.declared.records.Phase.{Phase}
use Rattle.rdf_types.specs.declared.records.Phase.TheVariants.{Running, Taking, Taken}

-- a block, or a payload that spells none
pub data Block : Type 0 where
  Start : (start : ℕ) (phase : Phase) → Block
  Ship : (from to : ℕ) (part : List Stamped) → Block
  Mark : (phase : Phase) → Block
  Unspelled : Block

-- Which trail keeps a record, where one does; which trails have files, the master (0) among them; and how long a generation is.
pub record Plan : Type 0 where
  pub home : Record → Option ℕ
  pub used : ℕ → Bool
  pub extent : ℕ

abbrev pub is_at : Option ℕ → ℕ → Bool
is_at None t = false
is_at (Some h) t = h == t

-- the trail keeps the record
abbrev pub keeps : Plan → ℕ → Record → Bool
keeps plan t r = is_at (plan.home r) t

-- the first entry at that position
abbrev pub found : List Stamped → ℕ → Option Record
found [] i = None
found (s ∷ rest) i = if s.pos == i then Some s.rec else found rest i

-- positions that rise strictly from the one on and stay below the other, and records that pass
abbrev pub AreEntries : (Record → Bool) → ℕ → ℕ → List Stamped → Type 0
AreEntries may from to [] = Unit {0}
AreEntries may from to (s ∷ rest) = (from ≤ s.pos) × (s.pos < to) × (may s.rec ≡ true) × AreEntries may (s.pos + 1) to rest

-- what a trail keeps of a shipment's entries, from a position on
abbrev pub kept_of : Plan → ℕ → ℕ → List Stamped → List Stamped
kept_of plan t from part = filter (λ s. keeps plan t s.rec && nat_le from s.pos) part

-- the entries of a file's blocks
abbrev pub entries : List Block → List Stamped
entries [] = []
entries (Start start phase ∷ rest) = entries rest
entries (Ship from to part ∷ rest) = part ++ entries rest
entries (Mark phase ∷ rest) = entries rest
entries (Unspelled ∷ rest) = entries rest

-- where the last Ship ends, or where the file starts
abbrev pub end_after : ℕ → List Block → ℕ
end_after at [] = at
end_after at (Start start phase ∷ rest) = end_after at rest
end_after at (Ship from to part ∷ rest) = end_after to rest
end_after at (Mark phase ∷ rest) = end_after at rest
end_after at (Unspelled ∷ rest) = end_after at rest

-- the last phase written, or the one before
abbrev pub phase_after : Phase → List Block → Phase
phase_after phase [] = phase
phase_after phase (Start start q ∷ rest) = phase_after q rest
phase_after phase (Ship from to part ∷ rest) = phase_after phase rest
phase_after phase (Mark q ∷ rest) = phase_after q rest
phase_after phase (Unspelled ∷ rest) = phase_after phase rest

-- a takeover ends no later than this
abbrev pub IsPhaseAt : ℕ → Phase → Type 0
IsPhaseAt at Running = Unit {0}
IsPhaseAt at Taking = Unit {0}
IsPhaseAt at (Taken upto) = upto ≤ at

-- Each block is in the grammar of its place in a file of this trail, which ends there so far. A master's Start isn't among them.
abbrev pub AreInPlace : Plan → ℕ → ℕ → List Block → Type 0
AreInPlace plan t at [] = Unit {0}
AreInPlace plan t at (Start start phase ∷ rest) = ⊥
AreInPlace plan t at (Ship from to part ∷ rest) = (from ≡ at) × (from < to) × AreEntries (keeps plan t) from to part × AreInPlace plan t to rest
AreInPlace plan t at (Mark phase ∷ rest) = (t ≡ 0) × IsPhaseAt at phase × AreInPlace plan t at rest
AreInPlace plan t at (Unspelled ∷ rest) = ⊥
