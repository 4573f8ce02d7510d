-- How lines move a backup's node.
use Rattle.std.proofs.Common.{◌≡◌, ℕ, Option, Some, None, Result, Ok, Err, IfOk, OnOk, refl, sym, ap, ◌∙◌, subst}
use Rattle.rdf_types.specs.declared.records.Node.{Node}
use Rattle.rdf_types.specs.declared.records.Phase.{Phase}
use Rattle.rdf_types.specs.declared.records.Phase.TheVariants.{Taken}
use Rattle.rdf_disk.specs.Files.{Disk}
use Rattle.rdf_disk.specs.Counts.{Counts}
use Rattle.rdf_disk.specs.declared.disk.Disk.{Ghosts}
use Rattle.node_faults.specs.declared.NodeFault.{NodeFault}
use Rattle.node_faults.specs.declared.NodeFault.TheVariants as fault
use Rattle.rdf_core.specs.StopLaws.{ok_is}
use Rattle.rdf_core.specs.declared.replies.Reply.{Reply}
use Rattle.rdf_core.specs.declared.replies.Reply.TheVariants.{Stopped}
use Rattle.rdf_backup.specs.declared.backup.Backup.{Backup}
use Rattle.rdf_backup.specs.Answers.{IsNoStop, IsPlain}
use Rattle.rdf_backup.specs.Refusals.{IsNumber}
use Rattle.rdf_backup.specs.States.{value_of}
use Rattle.backup_node.specs.declared.node.BackupNode.{BackupNode}
use Rattle.backup_node.specs.Lines.{Settles, stop_told}
use Rattle.backup_node.specs.Moves.{phase_among, phase_at, Stays, TakesOver}

-- a reply that tells of no stop leaves it
pub stays_so : (reply : Reply) (old new : Option Phase) → IsNoStop reply → new ≡ old → Stays reply old new
stays_so (Stopped node) old new plain same = absurd (plain node refl)
stays_so _ old new plain same = same

never_ok : (why : NodeFault) (reply : Reply) → (let r : Result Reply NodeFault = Err why in r) ≡ Ok reply → ⊥
never_ok why reply e = cc

-- an answer of a backup that keeps its phase
pub kept_moved : (r : Result Reply NodeFault) (old new : Phase) → IsPlain r → OnOk r (new ≡ old) → (reply : Reply) → r ≡ Ok reply → Stays reply (Some old) (Some new)
kept_moved (Ok given) old new plain same reply is = subst (λ (a : Reply). Stays a (Some old) (Some new)) (ok_is given reply is) (stays_so given (Some old) (Some new) plain (ap (λ p. Some p) same))
kept_moved (Err why) old new plain same reply is = absurd (never_ok why reply is)

-- and of one that took over
pub taken_moved : (r : Result Reply NodeFault) (k : ℕ) (old : Option Phase) (new : Phase) → OnOk r (new ≡ Taken k) → IfOk r (IsNumber k) → (reply : Reply) → r ≡ Ok reply → TakesOver reply old (Some new)
taken_moved (Ok given) k old new taken told reply is = subst (λ (a : Reply). TakesOver a old (Some new)) (sym told ∙ ok_is given reply is) (ap (λ p. Some p) taken)
taken_moved (Err why) k old new taken told reply is = absurd (never_ok why reply is)

module _ (M : Reply → Option Phase → Option Phase → Type 0) (stopped : (name : Node) (old : Option Phase) → M (Stopped name) old None) where
  -- a fault that took the node down
  pub told_moved : (name : Node) (why : NodeFault) (old new : Option Phase) → new ≡ None → IfOk (stop_told name why) (λ reply. M reply old new)
  told_moved name (fault.Stopped disk) old new down = subst (λ p. M (Stopped name) old p) (sym down) (stopped name old)
  told_moved name (fault.Failed disk) old new down = tt
  told_moved name fault.NoMemory old new down = tt
  told_moved name (fault.Damaged disk file at) old new down = tt

  -- a line on a backup that was up
  pub settled_moved : {D : Type 0} {d : Ghosts D} (tells : Type 0) (files : D → Disk) (counts : D → Counts) (name : Node) (old : Option Phase) (up : Backup D d) (n : BackupNode D d) (r x : Result Reply NodeFault) → Settles tells files counts name up r x n →
      ((reply : Reply) → r ≡ Ok reply → M reply old (Some (value_of up).phase)) → IfOk x (λ reply. M reply old (phase_at n))
  settled_moved {D = D} {d = d} tells files counts name old up n (Ok reply) x s moved = subst (λ (y : Result Reply NodeFault). IfOk y (λ reply. M reply old (phase_at n))) (sym s.0)
      (subst (λ (o : Option (Backup D d)). M reply old (phase_among o)) (sym s.1) (moved reply refl))
  settled_moved {D = D} {d = d} tells files counts name old up n (Err why) x s moved = subst (λ (y : Result Reply NodeFault). IfOk y (λ reply. M reply old (phase_at n))) (sym s.0)
      (told_moved name why old (phase_at n) (ap (λ (o : Option (Backup D d)). phase_among o) s.1))
