-- Laws of takeovers.
use Rattle.std.proofs.Common.{◌≡◌, ℕ, true, false, ◌==◌, [], ◌∷◌, map, if◌then◌else◌, refl, ap, ◌∙◌, arith}
use Rattle.std.proofs.lemmas.Bool.Decides.{nat_tests}
use Rattle.rdf_core.specs.Agreement.{IsTakenAt}
use Rattle.rdf_core.specs.Effects.{after_all}
use Rattle.rdf_core.specs.Backup.{Backup, Volumes, Running, Taking, Taken, marks, with_volumes}

-- a whole takeover ends with the mark of the received prefix
pub taken_over : (b : Backup) (v : Volumes) → b.volumes ≡ v → IsTakenAt b.received (after_all b (map (with_volumes b) (marks b.received v)))
taken_over b (Running points) e = record { received = refl; volumes = refl }
taken_over b Taking e = record { received = refl; volumes = refl }
taken_over b (Taken u) e =
    elim (u == b.received) as (λ m. (u == b.received) ≡ m → IsTakenAt b.received (after_all b (map (with_volumes b) (if m then [] else Taking ∷ Taken b.received ∷ [])))) [
      | true ↦ λ f. record { received = refl; volumes = e ∙ ap Taken (same u b.received f) }
      | false ↦ λ f. record { received = refl; volumes = refl }
    ] refl
  where
    same : (x y : ℕ) → (x == y) ≡ true → x ≡ y
    same x y f = grind (arith, nat_tests)
