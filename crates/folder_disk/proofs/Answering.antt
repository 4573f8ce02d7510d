-- The answer of a disk has the cause of the answer behind it.
use Rattle.std.proofs.Common.{◌≡◌, ℕ, Result, Ok, Err, sym, subst}
use Rattle.rdf_disk.specs.declared.fault.DiskFault.{DiskFault}
use Rattle.rdf_disk.specs.declared.fault.DiskFault.TheVariants.{Stopped}
use Rattle.folder_disk.specs.declared.call_fault.CallFault.{CallFault}
use Rattle.folder_disk.specs.declared.call_fault.CallFault.TheVariants.{Failed, NoMemory}
use Rattle.folder_disk.specs.Meters.{answer_of}
use Rattle.folder_disk.specs.Causes.{HasCause, is_fault, is_failed}
use Rattle.folder_disk.proofs.Causing.{none_refused}

pub answer_caused : {T : Type 0} (answer : Result T CallFault) (result : Result T DiskFault) (a b : ℕ) → result ≡ answer_of answer → HasCause (is_failed answer) a b → HasCause (is_fault result) a b
answer_caused (Ok x) result a b is cause = subst (λ (r : _). HasCause (is_fault r) a b) (sym is) cause
answer_caused (Err Failed) result a b is cause = subst (λ (r : _). HasCause (is_fault r) a b) (sym is) cause
answer_caused (Err NoMemory) result a b is cause = subst (λ (r : _). HasCause (is_fault r) a b) (sym is) cause

pub stop_caused : {T : Type 0} (result : Result T DiskFault) (a : ℕ) → result ≡ Err Stopped → HasCause (is_fault result) a a
stop_caused result a is = subst (λ (r : _). HasCause (is_fault r) a a) (sym is) (none_refused a)
