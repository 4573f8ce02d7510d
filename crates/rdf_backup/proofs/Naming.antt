-- A fault names the disk that it came from.
use Rattle.std.proofs.Common.{◌≡◌, ℕ, suc, ◌≤◌, Result, Ok, Err, IfErr, refl, sym, ap, ◌∙◌, subst, arith}
use Rattle.rdf_disk.specs.Counts.Ending.{Fine}
use Rattle.node_faults.specs.declared.NodeFault.{NodeFault}
use Rattle.node_faults.specs.Faults.{ending_for, IsNamed, NamesOwn}
use Rattle.node_faults.specs.FaultLaws.{named_more, fine_behind}

-- a fault that is passed on
pub passed_named : {T : Type 0} (many : ℕ) (r : Result T NodeFault) (f g : NodeFault) → r ≡ Err f → f ≡ g → IsNamed many g → IfErr r (λ why. IsNamed many why)
passed_named {T = T} many r f g is same h = subst (λ (a : Result T NodeFault). IfErr a (λ why. IsNamed many why)) (sym (is ∙ ap (λ e. let a : Result T NodeFault = Err e in a) same)) h

-- one of as many volumes
pub passed_own : {T : Type 0} (few volumes : ℕ) (r : Result T NodeFault) (f g : NodeFault) → few ≡ volumes → r ≡ Err f → f ≡ g → IsNamed (suc few) g → NamesOwn volumes r
passed_own few volumes r f g many is same h = passed_named (suc volumes) r f g is same (subst (λ n. IsNamed (suc n) g) many h)

-- a fault of disk 0 is one of the backup's
pub first_own : {T : Type 0} (volumes : ℕ) (r : Result T NodeFault) → IfErr r (λ why. IsNamed 1 why) → NamesOwn volumes r
first_own volumes (Ok x) h = tt
first_own volumes (Err f) h = named_more 1 (suc volumes) f (omega arith) h

-- a call ended well for a disk behind those that its fault names
pub ends_behind : {T : Type 0} (many i : ℕ) (r : Result T NodeFault) → IfErr r (λ why. IsNamed many why) → many ≤ i → ending_for i r ≡ Fine
ends_behind many i (Ok x) h far = refl
ends_behind many i (Err f) h far = fine_behind many i f h far
