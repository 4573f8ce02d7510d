-- Volumes that are taken over.
use Rattle.std.proofs.Common.{◌≡◌, ◌≢◌, ℕ, zero, suc, Bool, true, false, List, [], ◌∷◌, Option, Some, None, IfSome, refl, sym, subst, arith}
use Rattle.std.specs.Prelude.{slice_get}
use Rattle.std.specs.List.{slice_set}
use Rattle.rdf_types.specs.declared.layout.Layout.{Layout}
use Rattle.rdf_types.specs.declared.records.Record.{Record}
use Rattle.rdf_disk.specs.Files.{Disk}
use Rattle.rdf_disk.specs.Outcomes.{Durably}
use Rattle.rdf_volume.specs.declared.volume.Volume.{Volume}
use Rattle.rdf_volume.specs.Views.{rows_of, restart_of, disk_of, InUse}
use Rattle.rdf_core.specs.Layouts.{protects}
use Rattle.rdf_core.specs.Backup.{Backup as State}
use Rattle.rdf_volume.specs.StandingLaws.{in_use_durably}
use Rattle.rdf_backup.specs.declared.audit.KeptAudit.{KeptAudit}
use Rattle.rdf_backup.specs.Standing.{IsShownIf, IsShown, VolumeStandsFor}
use Rattle.rdf_backup.specs.Taking.{IsKeptBy, taking, taken, AreShown, AreLeft, AreInUse}
use Rattle.rdf_backup.proofs.TakingLaws.{shows_protected, protected_shown, taken_fits, FitsTaken}

-- what holds of each other element, and of what is put in the place of one
pub set_other : {X : Type 0} (Q : ℕ → X → Type 0) (xs : List X) (i : ℕ) (w : X) → ((v : ℕ) → v ≢ i → IfSome (slice_get xs v) (λ x. Q v x)) → Q i w → (v : ℕ) → IfSome (slice_get (slice_set xs i w) v) (λ x. Q v x)
set_other Q [] i w each here v = tt
set_other Q (x ∷ xs) zero w each here zero = here
set_other Q (x ∷ xs) zero w each here (suc v) = each (suc v) (λ e. absurd (omega (arith, e)))
set_other Q (x ∷ xs) (suc i) w each here zero = each zero (λ e. absurd (omega (arith, e)))
set_other Q (x ∷ xs) (suc i) w each here (suc v) = set_other (λ k. Q (suc k)) xs i w (λ k ne. each (suc k) (λ e. ne (omega (arith, e)))) here v

pub each_both : {X : Type 0} (P Q R : X → Type 0) (o : Option X) → ((x : X) → P x → Q x → R x) → IfSome o P → IfSome o Q → IfSome o R
each_both P Q R None f h g = tt
each_both P Q R (Some x) f h g = f x h g

module _ {D : Type 0} (layout : Layout) (trail : List Record) (b : State) where
  abbrev Shown : State → ℕ → Volume D → Type 0
  Shown x i volume = IsShown layout trail x i (rows_of volume) (restart_of volume)

  -- a volume that is not protected is shown in any state
  pub unprotected : (x y : State) (i : ℕ) (volume : Volume D) → protects layout i ≡ false → Shown x i volume → Shown y i volume
  unprotected x y i volume off h = subst (λ p. IsShownIf p layout trail y i (rows_of volume) (restart_of volume)) (sym off) (subst (λ p. IsShownIf p layout trail x i (rows_of volume) (restart_of volume)) off h)

  -- whatever is taken over fits, too
  pub still_fits : FitsTaken → (audit : KeptAudit) → IsKeptBy layout trail b audit → (i : ℕ) (volume : Volume D) → Shown (taken b) i volume → Shown (taking b) i volume
  still_fits law audit is i volume h = by_case (protects layout i) refl
    where
      by_case : (p : Bool) → protects layout i ≡ p → Shown (taking b) i volume
      by_case true on = shows_protected layout trail (taking b) i (rows_of volume) (restart_of volume) on
          (taken_fits layout trail b audit is i on law (rows_of volume) (restart_of volume) (protected_shown layout trail (taken b) i (rows_of volume) (restart_of volume) on h))
      by_case false off = unprotected (taken b) (taking b) i volume off h

  pub in_use_left : (files : D → Disk) (x : State) (i : ℕ) (volume : Volume D) → InUse files volume → Shown x i volume → Durably (files (disk_of volume)) (VolumeStandsFor layout trail x i)
  in_use_left files x i volume use_ h c may = record {
    rows = rows_of volume;
    at = restart_of volume;
    shows = h;
    stands = in_use_durably files volume use_ c may;
  }

  -- the disks where all are taken over
  pub left_taken : FitsTaken → (audit : KeptAudit) → IsKeptBy layout trail b audit → (files : D → Disk) (volumes : List (Volume D)) → AreInUse files volumes → AreShown layout trail (taken b) volumes → AreLeft files layout trail b volumes
  left_taken law audit is files volumes use_ h i =
      each_both (λ volume. InUse files volume) (Shown (taken b) i) (λ volume. Durably (files (disk_of volume)) (VolumeStandsFor layout trail (taking b) i)) (slice_get volumes i)
      (λ volume u g. in_use_left files (taking b) i volume u (still_fits law audit is i volume g)) (use_ i) (h i)

-- a volume of the list may be used
pub in_use_there : {D : Type 0} (files : D → Disk) (volumes : List (Volume D)) (n : ℕ) (was : Volume D) → slice_get volumes n ≡ Some was → AreInUse files volumes → InUse files was
in_use_there {D = D} files volumes n was there use_ = subst (λ (o : Option (Volume D)). IfSome o (λ volume. InUse files volume)) there (use_ n)

pub in_use_set : {D : Type 0} (files : D → Disk) (volumes : List (Volume D)) (n : ℕ) (is : Volume D) → AreInUse files volumes → InUse files is → AreInUse files (slice_set volumes n is)
in_use_set files volumes n is h here = set_other (λ i volume. InUse files volume) volumes n is (λ v other. h v) here
