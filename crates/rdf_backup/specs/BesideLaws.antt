-- Laws of calls that may end for several disks otherwise than well.
use Rattle.std.proofs.Common.{◌≡◌, ◌≢◌, ℕ, ◌<◌, ◌==◌, Bool, true, if◌then◌else◌, Result, Ok, Err, inl, inr, refl, sym, ap, ◌∙◌, arith}
use Rattle.std.proofs.lemmas.Bool.{eq-eqb, ne_eqb}
use Rattle.rdf_disk.specs.Counts.{Ending}
use Rattle.rdf_disk.specs.Counts.Ending.{Fine, Stop, Fault}
use Rattle.node_faults.specs.declared.NodeFault.{NodeFault}
use Rattle.node_faults.specs.declared.NodeFault.TheVariants as fault
use Rattle.node_faults.specs.Faults.{ending_at, ending_for}
use Rattle.rdf_backup.specs.Beside.{IsFirst, MayEnd, EndsBeside}

-- where the named disk alone ended otherwise than well, the fault is the first
here : (disk : ℕ) (e : Ending) → (if disk == disk then e else Fine) ≡ e
here disk e = ap (λ b. if b then e else Fine) (eq-eqb disk disk refl)

elsewhere : (disk i : ℕ) (e : Ending) → i < disk → (if disk == i then e else Fine) ≡ Fine
elsewhere disk i e less = ap (λ b. if b then e else Fine) (ne_eqb disk i (λ same. absurd (omega (arith, less, same))))

by_test : (b : Bool) (e f : Ending) → e ≢ f → Fine ≢ f → (if b then e else Fine) ≢ f
by_test true e f ne fine = ne
by_test _ e f ne fine = fine

fine_fault : Fine ≢ Fault
fine_fault e = cc

stop_fault : Stop ≢ Fault
stop_fault e = cc

pub one_first : (why : NodeFault) (ends : ℕ → Ending) → ((i : ℕ) → ends i ≡ ending_at i why) → IsFirst why ends
one_first (fault.Failed disk) ends same = (same disk ∙ here disk Fault, λ i less e. fine_fault (sym (same i ∙ elsewhere disk i Fault less) ∙ e))
one_first (fault.Damaged disk file at) ends same = λ i e. fine_fault (sym (same i) ∙ e)
one_first fault.NoMemory ends same = λ i e. fine_fault (sym (same i) ∙ e)
one_first (fault.Stopped disk) ends same = (same disk ∙ here disk Stop, λ i e. by_test (disk == i) Stop Fault stop_fault fine_fault (sym (same i) ∙ e), λ i less. same i ∙ elsewhere disk i Stop less)

-- so it is in each way a line may end
pub may_first : (beside : Bool) (why : NodeFault) (ends : ℕ → Ending) → MayEnd beside why ends → IsFirst why ends
may_first beside why ends h = elim h [ inl same ↦ one_first why ends same | inr several ↦ several.1 ]

-- a call that ended for one disk alone otherwise than well
pub one_beside : {T : Type 0} (result : Result T NodeFault) (ends : ℕ → Ending) → ((i : ℕ) → ends i ≡ ending_for i result) → EndsBeside result ends
one_beside (Ok x) ends same = same
one_beside (Err why) ends same = one_first why ends same
