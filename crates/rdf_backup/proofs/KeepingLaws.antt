-- How the disks of a backup ended in a line that works its volumes beside each other.
use Rattle.std.proofs.Common.{◌≡◌, ℕ, zero, suc, List, ◌∷◌, map, Result, Ok, Err, refl, sym, ap, ◌∙◌, subst, arith}
use Rattle.std.specs.Prelude.{slice_get}
use Rattle.rdf_disk.specs.Counts.{Counts, Causes, Ending}
use Rattle.rdf_disk.specs.Counts.Ending.{Fine}
use Rattle.rdf_gatelog.specs.declared.fault.LogFault.{LogFault}
use Rattle.rdf_gatelog.specs.LogCauses.{ending_of_fault}
use Rattle.rdf_volume.specs.declared.volume.Volume.{Volume}
use Rattle.rdf_volume.specs.Views.{disk_of}
use Rattle.node_faults.specs.declared.NodeFault.{NodeFault}
use Rattle.node_faults.specs.Faults.{fault_at, ending_at, ending_for}
use Rattle.node_faults.specs.FaultLaws.{ending_here, ending_elsewhere}
use Rattle.rdf_backup.specs.Replies.{IfBoth}
use Rattle.rdf_backup.specs.Beside.{EndsBeside}
use Rattle.rdf_backup.specs.BesideLaws.{one_first, one_beside}
use Rattle.rdf_backup.specs.Walks.{KeepsVolumesBeside}
use Rattle.rdf_backup.proofs.Looking.{same_counts}
use Rattle.rdf_backup.proofs.TakeoverCauses.{then_caused, volumes_caused}

module _ {D T : Type 0} (counts : D → Counts) (r : Result T NodeFault) where
  abbrev Ended : List D → List D → Type 0
  Ended old new = (ends : ℕ → Ending) × (EndsBeside r ends × ((i : ℕ) → IfBoth (λ x y. Causes (ends i) (counts x) (counts y)) (slice_get old i) (slice_get new i)))

  -- by the disk that the fault names
  pub alone : (old new : List D) → ((i : ℕ) → IfBoth (λ x y. Causes (ending_for i r) (counts x) (counts y)) (slice_get old i) (slice_get new i)) → Ended old new
  alone old new h = (λ i. ending_for i r, (one_beside r (λ i. ending_for i r) (λ i. refl), h))

  -- no disk was called
  pub still : (old : List D) → ((i : ℕ) → ending_for i r ≡ Fine) → Ended old old
  still old fine = alone old old (λ i. same_counts counts (ending_for i r) (slice_get old i) (fine i))

  -- a fault that is passed on
  pub passed_on : (f g : NodeFault) (old new : List D) → r ≡ Err f → f ≡ g → ((i : ℕ) → IfBoth (λ x y. Causes (ending_at i g) (counts x) (counts y)) (slice_get old i) (slice_get new i)) → Ended old new
  passed_on f g old new is same h = (λ i. ending_at i g, (subst (λ (a : Result T NodeFault). EndsBeside a (λ i. ending_at i g)) (sym (is ∙ ap (λ e. let a : Result T NodeFault = Err e in a) same)) (one_first g (λ i. ending_at i g) (λ i. refl)), h))

  module _ (x y : D) (olds news : List (Volume D)) where
    -- of the volumes
    pub by_volumes : (f g : NodeFault) → r ≡ Err f → f ≡ g → counts y ≡ counts x → KeepsVolumesBeside {T = Unit {0}} counts (Err g) olds news → Ended (x ∷ map (λ volume. disk_of volume) olds) (y ∷ map (λ volume. disk_of volume) news)
    by_volumes f g is same first h = (
      h.ends,
      (
        subst (λ (a : Result T NodeFault). EndsBeside a h.ends) (sym (is ∙ ap (λ e. let a : Result T NodeFault = Err e in a) same)) h.beside,
        volumes_caused counts h.ends x y (map (λ volume. disk_of volume) olds) (map (λ volume. disk_of volume) news) first h.first h.cause,
      ),
    )

    -- the volumes ended well, and then disk 0 so
    pub then_first : KeepsVolumesBeside {T = Unit {0}} counts (Ok tt) olds news → Causes (ending_for 0 r) (counts x) (counts y) → ((i : ℕ) → ending_for (suc i) r ≡ Fine) → Ended (x ∷ map (λ volume. disk_of volume) olds) (y ∷ map (λ volume. disk_of volume) news)
    then_first h first fine = alone (x ∷ map (λ volume. disk_of volume) olds) (y ∷ map (λ volume. disk_of volume) news) at
      where
        at : (i : ℕ) → IfBoth (λ a b. Causes (ending_for i r) (counts a) (counts b)) (slice_get (x ∷ map (λ volume. disk_of volume) olds) i) (slice_get (y ∷ map (λ volume. disk_of volume) news) i)
        at zero = first
        at (suc i) = subst (λ e. IfBoth (λ a b. Causes e (counts a) (counts b)) (slice_get (map (λ volume. disk_of volume) olds) i) (slice_get (map (λ volume. disk_of volume) news) i)) (h.beside (suc i) ∙ sym (fine i)) (h.cause i)

  -- behind a call in which no count rose
  pub then_ended : (old between new : List D) → ((i : ℕ) → IfBoth (λ x y. counts y ≡ counts x) (slice_get old i) (slice_get between i)) → Ended between new → Ended old new
  then_ended old between new h g = (g.0, (g.1.0, then_caused counts g.0 old between new h g.1.1))

-- a fault of disk 0
pub first_here : (fault : LogFault) (said : NodeFault) (a b : Counts) → said ≡ fault_at 0 fault → Causes (ending_of_fault fault) a b → Causes (ending_at 0 said) a b
first_here fault said a b is h = subst (λ e. Causes e a b) (sym (ap (λ f. ending_at 0 f) is ∙ ending_here 0 fault)) h

pub first_alone : (fault : LogFault) (said : NodeFault) → said ≡ fault_at 0 fault → (i : ℕ) → ending_at (suc i) said ≡ Fine
first_alone fault said is i = ap (λ f. ending_at (suc i) f) is ∙ ending_elsewhere (suc i) 0 fault (λ e. absurd (omega (arith, e)))
