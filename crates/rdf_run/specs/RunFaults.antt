-- The faults that end a run over lines, as statuses.
use Rattle.std.specs.Prelude.{ℕ, false, Option, Result, Ok, Err}
use Rattle.rdf_types.specs.declared.records.Node.{Node}
use Rattle.rdf_disk.specs.Counts.{Counts}
use Rattle.node_faults.specs.declared.NodeFault.{NodeFault}
use Rattle.node_faults.specs.declared.NodeFault.TheVariants as node
use Rattle.rdf_system.specs.declared.fault.StepFault.{StepFault}
use Rattle.rdf_run.specs.Returned.{NoneFailed}
use Rattle.rdf_run.specs.declared.run_fault.RunFault.{RunFault}
use Rattle.rdf_run.specs.declared.run_fault.RunFault.TheVariants as run
use Rattle.rdf_run.specs.declared.status.Status.{Status}
use Rattle.rdf_run.specs.declared.status.Status.TheVariants.{Done, WriteFault, DeviceFault, NoMemory, Damaged}

abbrev pub fault_at_node : Node → NodeFault → RunFault
fault_at_node named (node.Stopped disk) = run.NoMemory
fault_at_node named (node.Failed disk) = run.Failed named disk
fault_at_node named node.NoMemory = run.NoMemory
fault_at_node named (node.Damaged disk file at) = run.Damaged named disk file at

-- a fault that broke a line off; a disk that stopped breaks none off
abbrev pub fault_of_node : StepFault → RunFault
fault_of_node f = fault_at_node f.node f.fault

abbrev pub status_of_run : RunFault → Status
status_of_run (run.Write met) = WriteFault
status_of_run run.NoMemory = NoMemory
status_of_run (run.Failed node disk) = DeviceFault node disk
status_of_run (run.Damaged node disk file at) = Damaged node disk file at

-- the status of a run that goes on, or was ended
abbrev pub status_in : {T : Type 0} → Result T RunFault → Status
status_in (Ok x) = Done
status_in (Err fault) = status_of_run fault

-- where the sink failed and nothing was met in a session that was open then, no disk failed
abbrev pub Spares : {D T : Type 0} → (D → Counts) → Result T RunFault → (Node → ℕ → Option D) → (Node → ℕ → Option D) → Type 0
Spares counts (Err (run.Write false)) old new = NoneFailed counts old new
Spares counts _ old new = Unit {0}
