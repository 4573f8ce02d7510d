-- What a primary does for a line.
use Rattle.std.specs.Prelude.{◌≡◌, None, Result, OnOk, IfOk, IfErr}
use Rattle.rdf_disk.specs.Files.{Disk}
use Rattle.rdf_disk.specs.Counts.{Counts}
use Rattle.rdf_disk.specs.declared.disk.Disk.{Ghosts}
use Rattle.plan_lang.specs.declared.lines.Line.{Line}
use Rattle.node_faults.specs.declared.NodeFault.{NodeFault}
use Rattle.node_faults.specs.declared.NodeFault.TheVariants.{NoMemory}
use Rattle.node_faults.specs.Faults.{IsSound}
use Rattle.tmf_core.specs.Stores.{CausedBy}
use Rattle.rdf_core.specs.declared.replies.Reply.{Reply}
use Rattle.rdf_core.specs.Step.{disks_of}
use Rattle.rdf_primary.specs.declared.primary.Primary.{Primary}
use Rattle.rdf_primary.specs.States.{IsUp}
use Rattle.rdf_primary.specs.Replies.{Ends, IsNoStop, Keeps, WasLooked}
use Rattle.rdf_primary.specs.Kinds.{MayAnswer}

-- what a primary that is up does for a line, whatever it answers, and the causes of that
pub record Does {D : Type 0} {d : Ghosts D} (tells : Type 0) (files : D → Disk) (counts : D → Counts) (l : Line) (result : Result Reply NodeFault) (old new : Primary D d) : Type 0 where
  -- it is answered as the machine has it, or broken off
  pub ends : tells → Ends files l result old new
  -- an answer leaves it up
  pub up : OnOk result (IsUp new)
  -- each fault is of one of its disks, and has its cause in the counts of that disk
  pub cause : CausedBy counts result old.tmf.store new.tmf.store
  -- over disks that tell no damage is told
  pub sound : tells → IsSound result
  -- no answer is that the node stopped
  pub plain : IsNoStop result
  -- a refusal leaves what it found, over any disks
  pub kept : Keeps WasLooked result old new
  -- it is refused for a reason of its own kind, or gets its own kind of reply
  pub kinds : IfOk result (λ reply. MayAnswer l reply)
  -- a line that uses no disk ends by a fault only for want of memory
  pub memory : disks_of l ≡ None → IfErr result (λ fault. fault ≡ NoMemory)
  -- and leaves the disks as they were
  pub still : disks_of l ≡ None → new.tmf.store ≡ old.tmf.store
