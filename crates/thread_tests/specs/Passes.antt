-- What becomes of a pass that has turns.
use Rattle.std.specs.Prelude.{◌≡◌, ℕ, Bool, true, false}
use Rattle.seated_lock.specs.declared.story.Story.{Story}
use Rattle.seated_lock.specs.Passes.{LockId, Seeing}

-- the pass after turns: of the same lock, with as many seats, and it writes where it wrote
abbrev pub IsStill : Seeing → Seeing → Type 0
IsStill p q = (q.lock ≡ p.lock) × (q.writes ≡ p.writes) × (q.seats ≡ p.seats)

-- a pass of the lock; one that is to raise the number writes, and the number is 0
abbrev pub MayTurn : LockId → Bool → Seeing → Type 0
MayTurn id raises p = (p.lock ≡ id) × (raises ≡ true → (p.writes ≡ true) × (p.story.number ≡ 0) × (p.story.ended ≡ false))

-- the story with that number
abbrev pub numbered : Story → ℕ → Story
numbered s n = record s { number = n }
