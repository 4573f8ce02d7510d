-- The first before image of each place, as images are gone over.
use Rattle.std.specs.Prelude.{◌≡◌, ℕ, Bool, List, Option, Some, None, if◌then◌else◌}
use Rattle.std.specs.FinMap.{get}
use Rattle.rdf_types.specs.declared.records.Change.{Change}
use Rattle.rdf_types.specs.declared.records.Record.{Record}
use Rattle.rdf_types.specs.declared.records.RecKey.{RecKey}
use Rattle.rdf_model.specs.Trail.{is_change, before_of}
use Rattle.active_txns.specs.Founds.{FirstBefore}

-- the first, or the second where there is none
abbrev pub or_first : {X : Type 0} → Option X → Option X → Option X
or_first None second = second
or_first (Some x) second = Some x

-- the before value of the place in the record, where it is an image of it by one of these transactions
abbrev pub before_in : (ℕ → Bool) → RecKey → Record → Option (Option (List ℕ))
before_in who q rec = if is_change who q rec then Some (before_of rec) else None

-- an image on the volume by one of these transactions is noted
pub record NotesImage (vol : ℕ) (who : ℕ → Bool) (rec : Record) (old new : FirstBefore) : Type 0 where
  pub here : (q : RecKey) → q.vol ≡ vol → get new q ≡ or_first (get old q) (before_in who q rec)
  pub elsewhere : (q : RecKey) → (q.vol ≡ vol → ⊥) → get new q ≡ get old q

-- the place and its value, as a change of the place's volume
abbrev pub as_change : RecKey × Option (List ℕ) → Change
as_change e = record { file = e.0.file; key = e.0.key; after = e.1 }
