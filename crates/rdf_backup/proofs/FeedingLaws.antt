-- What the updaters of a session are fed, and where their volumes are.
use Rattle.std.proofs.Common.{◌≡◌, ℕ, suc, ◌+◌, ◌≤◌, max, nat_le, if◌then◌else◌, Bool, true, false, List, [], ◌∷◌, length, refl, ap, ◌∙◌, arith}
use Rattle.std.proofs.lemmas.Bool.{lt-ltb}
use Rattle.rdf_types.specs.declared.records.Stamped.{Stamped}
use Rattle.rdf_types.specs.Entries.{RiseFrom, Rises, since, before}
use Rattle.rdf_types.specs.EntryLaws.{rise_low, rise_since, before_since, rises_between}
use Rattle.rdf_codec.specs.Ships.{RiseWithin}

-- ---- the entries of a shipment

within_from : (low high : ℕ) (l : List Stamped) → RiseWithin low high l → RiseFrom low l
within_from low high [] h = tt
within_from low high (s ∷ l) h = (h.0, within_from (s.pos + 1) high l h.2)

pub within_rises : (low high : ℕ) (l : List Stamped) → RiseWithin low high l → RiseFrom 0 l
within_rises low high l h = rise_low 0 low l (omega arith) (within_from low high l h)

within_below : (low high top : ℕ) (l : List Stamped) → high ≤ top → RiseWithin low high l → before top l ≡ l
within_below low high top [] le h = refl
within_below low high top (s ∷ l) le h =
    ap (λ (b : Bool). if b then s ∷ before top l else before top l) (lt-ltb s.pos top (omega (arith, le, h.1))) ∙ ap (λ (r : List Stamped). s ∷ r) (within_below (s.pos + 1) high top l le h.2)

-- those from a position on rise from there
pub within_since : (low high from : ℕ) (l : List Stamped) → RiseWithin low high l → Rises from (since from l) (max high from)
within_since low high from l h =
    rises_between from (since from l) (max high from) (omega arith) (rise_since from 0 l (within_rises low high l h))
    (before_since from (max high from) l ∙ ap (λ r. since from r) (within_below low high (max high from) l (omega arith) h))

-- as many at the most as there are positions
length_within : (low high : ℕ) (l : List Stamped) → low ≤ high → RiseWithin low high l → length l + low ≤ high
length_within low high [] le h = omega (arith, le)
length_within low high (s ∷ l) le h = let rest = length_within (s.pos + 1) high l (omega (arith, h.1)) h.2 in omega (arith, rest, h.0)

fewer : (from : ℕ) (l : List Stamped) → length (since from l) ≤ length l
fewer from [] = omega arith
fewer from (s ∷ l) = elim (nat_le from s.pos) as (λ b. length (if b then s ∷ since from l else since from l) ≤ suc (length l)) [
  | true ↦ omega (arith, fewer from l)
  | false ↦ omega (arith, fewer from l)
]

pub within_few : (low high from : ℕ) (l : List Stamped) → RiseWithin low high l → length (since from l) + low ≤ max low high
within_few low high from [] h = omega arith
within_few low high from (s ∷ l) h = let all = length_within low high (s ∷ l) (omega (arith, h.0, h.1)) h in let f = fewer from (s ∷ l) in omega (arith, all, f)
