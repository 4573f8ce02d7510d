-- The open transactions of the records that were noted.
use Rattle.std.specs.Prelude.{◌≡◌, ℕ, Bool, false, not, ◌==◌, List, [], ◌∷◌, ◌++◌, Option, Some, None, if◌then◌else◌, filter, filter_map, fold}
use Rattle.std.specs.List.{list_any}
use Rattle.std.specs.Map.{remove_entry}
use Rattle.rdf_types.specs.declared.records.Record.{Record}
use Rattle.rdf_types.specs.declared.records.Record.TheVariants.{Image, Commit, Abort}
use Rattle.rdf_types.specs.declared.records.Stamped.{Stamped}
use Rattle.rdf_model.specs.Trail.{txn_of, is_ended}
use Rattle.rdf_model.specs.Window.{records}

-- the transaction of an image that stands at the position, where it has no outcome in the trail
abbrev pub image_at : List Record → ℕ → Record → Option (ℕ × ℕ)
image_at trail pos (Image txn vol file key before after) = if is_ended txn trail then None else Some (txn, pos)
image_at trail pos (Commit txn) = None
image_at trail pos (Abort txn) = None

-- the same of a record with its position
abbrev pub open_image : List Record → Stamped → Option (ℕ × ℕ)
open_image trail s = image_at trail s.pos s.rec

-- the first entry of each transaction
abbrev pub firsts : List (ℕ × ℕ) → List (ℕ × ℕ)
firsts [] = []
firsts (e ∷ es) = e ∷ filter (λ x. not (x.0 == e.0)) (firsts es)

-- the open transactions of the notes in the order of their first images, each with the position of that
abbrev pub open_txns : List Stamped → List (ℕ × ℕ)
open_txns notes = firsts (filter_map (open_image (records notes)) notes)

-- no record of a transaction follows its outcome
abbrev pub ProperAfter : List Stamped → List Stamped → Type 0
ProperAfter before [] = Unit {0}
ProperAfter before (s ∷ rest) = (is_ended (txn_of s.rec) (records before) ≡ false) × ProperAfter (before ++ s ∷ []) rest

-- whether the transaction is one of them
abbrev pub has_txn : List (ℕ × ℕ) → ℕ → Bool
has_txn opens t = list_any (λ e. t == e.0) opens

-- the position of the first image of the first of them, or the end
abbrev pub low_of : List (ℕ × ℕ) → ℕ → ℕ
low_of [] end = end
low_of (e ∷ es) end = e.1

-- what one more note makes of the open transactions
abbrev pub noted : List (ℕ × ℕ) → ℕ → Record → List (ℕ × ℕ)
noted opens pos (Image txn vol file key before after) = if has_txn opens txn then opens else opens ++ (txn, pos) ∷ []
noted opens pos (Commit txn) = remove_entry (λ k. txn == k) opens
noted opens pos (Abort txn) = remove_entry (λ k. txn == k) opens

-- what the notes make of them, one after another
abbrev pub all_noted : List Stamped → List (ℕ × ℕ)
all_noted notes = fold (λ opens s. noted opens s.pos s.rec) [] notes
