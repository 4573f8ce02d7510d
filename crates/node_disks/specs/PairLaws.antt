-- Laws of the disks of a node that is opened, beside each as it was.
use Rattle.std.proofs.Common.{◌≡◌, ℕ, zero, suc, ◌≤◌, List, [], ◌∷◌, Option, None, sym, ap, ◌∙◌, subst}
use Rattle.rdf_types.specs.Counts.{Rose}
use Rattle.rdf_disk.specs.Counts.{Counts, Ending, turned_off}
use Rattle.rdf_disk.specs.Counts.Ending.{Fine, Stop, Fault}
use Rattle.node_faults.specs.declared.NodeFault.{NodeFault}
use Rattle.node_faults.specs.Openings.{Pairs, IsCaused, AreCaused, Rises, AreOn}
use Rattle.node_disks.specs.Cuts.{Each}
use Rattle.node_disks.specs.Counting.{Tells}
use Rattle.node_disks.specs.CountLaws.{still_on}

later : {D : Type 0} (Goes : ℕ → Option NodeFault → D → D → Type 0) (n : ℕ) (why : Option NodeFault) (xs ys : List D) → Pairs Goes (suc n) why xs ys → Pairs (λ k. Goes (suc k)) n why xs ys
later Goes n why [] [] h = tt
later Goes n why [] (y ∷ ys) h = absurd h
later Goes n why (x ∷ xs) [] h = absurd h
later Goes n why (x ∷ xs) (y ∷ ys) h = (h.0, later Goes (suc n) why xs ys h.1)

-- each disk that was opened is related to the one at its place
pub pairs_each : {D : Type 0} (Goes : ℕ → Option NodeFault → D → D → Type 0) (why : Option NodeFault) (xs ys : List D) → Pairs Goes zero why xs ys → Each (λ i x y. Goes i why x y) xs ys
pairs_each Goes why [] [] h i = tt
pairs_each Goes why [] (y ∷ ys) h i = absurd h
pairs_each Goes why (x ∷ xs) [] h i = absurd h
pairs_each Goes why (x ∷ xs) (y ∷ ys) h zero = h.0
pairs_each Goes why (x ∷ xs) (y ∷ ys) h (suc i) = pairs_each (λ k. Goes (suc k)) why xs ys (later Goes zero why xs ys h.1) i

-- disks that were on, and were opened without a fault, are on
pub formatted_on : {D : Type 0} (counts : D → Counts) (xs ys : List D) → AreCaused counts None xs ys → AreOn counts xs → AreOn counts ys
formatted_on counts xs ys caused on = still_on counts xs ys (pairs_each (IsCaused counts) None xs ys caused) on

-- a disk that was turned on, had this ending and was turned off again counts what the ending tells
pub raised_cut : (e : Ending) (c m n : Counts) → Rises e c m → n ≡ turned_off m → Tells e c n
raised_cut Fine c m n h is = (ap (λ k. k.faults) is ∙ h.0, ap (λ k. k.stops) is ∙ h.1)
raised_cut Stop c m n h is = (ap (λ k. k.faults) is ∙ h.0, subst (λ s. c.stops ≤ s) (sym (ap (λ k. k.stops) is)) h.1, subst (λ s. Rose c.stops s) (sym (ap (λ k. k.stops) is)) h.2)
raised_cut Fault c m n h is = (subst (λ s. c.faults ≤ s) (sym (ap (λ k. k.faults) is)) h.0, subst (λ s. Rose c.faults s) (sym (ap (λ k. k.faults) is)) h.1, ap (λ k. k.stops) is ∙ h.2)

-- and was given no fuse
pub raised_fuses : (e : Ending) (c m : Counts) → Rises e c m → m.fuses ≡ c.fuses
raised_fuses Fine c m h = h.2
raised_fuses Stop c m h = h.3
raised_fuses Fault c m h = h.3
