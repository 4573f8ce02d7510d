-- Laws of the causes of a call on a store.
use Rattle.std.proofs.Common.{◌≡◌, ◌≢◌, ℕ, zero, suc, List, [], ◌∷◌, length, Option, Some, None, Result, refl, sym, ap, subst, arith}
use Rattle.std.specs.Prelude.{slice_get}
use Rattle.std.specs.List.{slice_set}
use Rattle.std.specs.Option.{option_map}
use Rattle.rdf_disk.specs.Counts.{Counts, Ending, Causes}
use Rattle.rdf_disk.specs.Counts.Ending.{Fine}
use Rattle.rdf_volume.specs.declared.volume.Volume.{Volume}
use Rattle.rdf_volume.specs.Views.{disk_of}
use Rattle.node_faults.specs.declared.NodeFault.{NodeFault}
use Rattle.node_faults.specs.Faults.{ending_for}
use Rattle.tmf_core.specs.declared.store.Store.{Store}
use Rattle.tmf_core.specs.Stores.{CausesIf, CausedBy}

-- counts that stay are those of a call that ended well
pub same_counts : (ending : Ending) (o : Option Counts) → ending ≡ Fine → CausesIf ending o o
same_counts ending None fine = refl
same_counts ending (Some c) fine = subst (λ e. Causes e c c) (sym fine) refl

-- a call on one volume, whose counts tell how it ended for that volume, ended well for each other one
pub set_counts : {D : Type 0} (counts : D → Counts) (endings : ℕ → Ending) (vs : List (Volume D)) (n : ℕ) (was is : Volume D) → slice_get vs n ≡ Some was → Causes (endings n) (counts (disk_of was)) (counts (disk_of is)) →
    ((v : ℕ) → v ≢ n → endings v ≡ Fine) → (v : ℕ) → CausesIf (endings v) (option_map (λ x. counts (disk_of x)) (slice_get vs v)) (option_map (λ x. counts (disk_of x)) (slice_get (slice_set vs n is) v))
set_counts counts endings [] n was is there cause others v = cc
set_counts counts endings (x ∷ vs) zero was is there cause others zero = subst (λ y. Causes (endings zero) (counts (disk_of y)) (counts (disk_of is))) (some_same was x (sym there)) cause
  where
    some_same : {X : Type 0} (a b : X) → Some a ≡ Some b → a ≡ b
    some_same a b e = cc
set_counts counts endings (x ∷ vs) zero was is there cause others (suc v) = same_counts (endings (suc v)) (option_map (λ x. counts (disk_of x)) (slice_get vs v)) (others (suc v) (λ e. absurd (omega arith)))
set_counts counts endings (x ∷ vs) (suc n) was is there cause others zero = same_counts (endings zero) (Some (counts (disk_of x))) (others zero (λ e. absurd (omega arith)))
set_counts counts endings (x ∷ vs) (suc n) was is there cause others (suc v) = set_counts counts (λ k. endings (suc k)) vs n was is there cause (λ k ne. others (suc k) (λ e. ne (omega arith))) v

-- no call loses or adds a volume
pub same_volumes : {D T : Type 0} (counts : D → Counts) (r : Result T NodeFault) (old new : Store D) → CausedBy counts r old new → length new.volumes.items ≡ length old.volumes.items
same_volumes {D = D} counts r old new cause = each old.volumes.items new.volumes.items (λ v. ending_for (suc v) r) (λ v. cause.1 (suc v))
  where
    seen : Volume D → Counts
    seen volume = counts (disk_of volume)

    each : (xs ys : List (Volume D)) (e : ℕ → Ending) → ((v : ℕ) → CausesIf (e v) (option_map (λ volume. counts (disk_of volume)) (slice_get xs v)) (option_map (λ volume. counts (disk_of volume)) (slice_get ys v))) → length ys ≡ length xs
    each [] [] e h = refl
    each [] (y ∷ ys) e h = none (counts (disk_of y)) (h zero)
      where
        none : (c : Counts) → (let some : Option Counts = Some c in some ≡ None) → suc (length ys) ≡ zero
        none c g = cc
    each (x ∷ xs) [] e h = absurd (h zero)
    each (x ∷ xs) (y ∷ ys) e h = ap suc (each xs ys (λ v. e (suc v)) (λ v. h (suc v)))
