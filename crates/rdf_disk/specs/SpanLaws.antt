-- Laws of the files' numbers on a disk.
use Rattle.std.proofs.Common.{◌≡◌, ◌≢◌, ◌⊎◌, inl, inr, ⊎_elim, ℕ, ◌<◌, ◌≤◌, List, Option, None, Some, refl, arith}
use Rattle.rdf_disk.specs.Files.{Disk, IsSpan}

seen_cases : (x : Option (List ℕ)) → (x ≡ None) ⊎ (x ≢ None)
seen_cases None = inl refl
seen_cases (Some b) = inr (λ is. cc)

-- no file stands outside of the span
pub outside : (disk : Disk) (low above m : ℕ) → IsSpan disk low above → (m < low) ⊎ (above ≤ m) → (disk m).seen ≡ None
outside disk low above m span out =
    elim (seen_cases (disk m).seen) [
      | inl none ↦ none
      | inr there ↦ absurd (let within = span.within m there in let l : low ≤ m = within.0 in let h : m < above = within.1 in ⊎_elim (λ (o : m < low). omega arith) (λ (o : above ≤ m). omega arith) out)
    ]
