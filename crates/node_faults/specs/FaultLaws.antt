-- Laws of the fault of one disk.
use Rattle.std.proofs.Common.{◌≡◌, ◌≢◌, ℕ, ◌<◌, ◌≤◌, if◌then◌else◌, refl, sym, ap, subst, arith}
use Rattle.std.proofs.lemmas.Bool.{eq-eqb, ne_eqb}
use Rattle.rdf_disk.specs.Counts.Ending.{Fine, Stop, Fault}
use Rattle.rdf_gatelog.specs.declared.fault.LogFault.{LogFault}
use Rattle.rdf_gatelog.specs.declared.fault.LogFault.TheVariants as log
use Rattle.rdf_gatelog.specs.LogCauses.{ending_of_fault}
use Rattle.node_faults.specs.declared.NodeFault.{NodeFault}
use Rattle.node_faults.specs.declared.NodeFault.TheVariants as node
use Rattle.node_faults.specs.Faults.{fault_at, ending_at, IsNamed}

-- a call with a fault of a disk ended for that disk as the fault says
pub ending_here : (n : ℕ) (fault : LogFault) → ending_at n (fault_at n fault) ≡ ending_of_fault fault
ending_here n log.Stopped = ap (λ b. if b then Stop else Fine) (eq-eqb n n refl)
ending_here n log.Failed = ap (λ b. if b then Fault else Fine) (eq-eqb n n refl)
ending_here n log.NoMemory = refl
ending_here n (log.Damaged file at) = refl

-- and for each other disk it ended well
pub ending_elsewhere : (i n : ℕ) (fault : LogFault) → n ≢ i → ending_at i (fault_at n fault) ≡ Fine
ending_elsewhere i n log.Stopped other = ap (λ b. if b then Stop else Fine) (ne_eqb n i other)
ending_elsewhere i n log.Failed other = ap (λ b. if b then Fault else Fine) (ne_eqb n i other)
ending_elsewhere i n log.NoMemory other = refl
ending_elsewhere i n (log.Damaged file at) other = refl

-- a fault of a disk that is one of so many is named so
pub fault_named : (n many : ℕ) (fault : LogFault) (said : NodeFault) → said ≡ fault_at n fault → n < many → IsNamed many said
fault_named n many fault said is few = subst (λ f. IsNamed many f) (sym is) (by_case fault)
  where
    by_case : (f : LogFault) → IsNamed many (fault_at n f)
    by_case log.Stopped = few
    by_case log.Failed = few
    by_case log.NoMemory = tt
    by_case (log.Damaged file at) = few

-- it is one of more disks too
pub named_more : (few many : ℕ) (fault : NodeFault) → few ≤ many → IsNamed few fault → IsNamed many fault
named_more few many (node.Stopped d) more h = omega (arith, more, h)
named_more few many (node.Failed d) more h = omega (arith, more, h)
named_more few many node.NoMemory more h = tt
named_more few many (node.Damaged d file at) more h = omega (arith, more, h)

-- for a disk behind these a call with that fault ended well
pub fine_behind : (many i : ℕ) (fault : NodeFault) → IsNamed many fault → many ≤ i → ending_at i fault ≡ Fine
fine_behind many i (node.Stopped d) h far = ap (λ b. if b then Stop else Fine) (ne_eqb d i (λ e. absurd (omega (arith, h, far, e))))
fine_behind many i (node.Failed d) h far = ap (λ b. if b then Fault else Fine) (ne_eqb d i (λ e. absurd (omega (arith, h, far, e))))
fine_behind many i node.NoMemory h far = refl
fine_behind many i (node.Damaged d file at) h far = refl
