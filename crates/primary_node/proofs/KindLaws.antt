-- The replies of the primary's node to each kind of line.
use Rattle.std.proofs.Common.{◌≡◌, ℕ, ◌⊎◌, inl, inr, Bool, false, Option, Some, None, Result, Ok, IfOk, refl, sym, ap, ◌∙◌, subst}
use Rattle.rdf_types.specs.declared.records.Node.TheVariants.{A}
use Rattle.rdf_disk.specs.declared.disk.Disk.{Ghosts}
use Rattle.plan_lang.specs.declared.lines.Line.{Line}
use Rattle.plan_lang.specs.declared.lines.Line.TheVariants as line
use Rattle.node_faults.specs.declared.NodeFault.{NodeFault}
use Rattle.node_faults.specs.declared.NodeFault.TheVariants as fault
use Rattle.rdf_core.specs.declared.replies.NoWhy.{NoWhy}
use Rattle.rdf_core.specs.declared.replies.Reply.{Reply}
use Rattle.rdf_core.specs.declared.replies.Reply.TheVariants.{No, Number, Stopped}
use Rattle.rdf_core.specs.Step.{disks_of}
use Rattle.rdf_primary.specs.declared.primary.Primary.{Primary}
use Rattle.rdf_primary.specs.Replies.{IsAnswered, Keeps, WasLooked as PrimaryLooked}
use Rattle.rdf_primary.specs.Kinds.{MayAnswer}
use Rattle.primary_node.specs.declared.node.PrimaryNode.{PrimaryNode}
use Rattle.primary_node.specs.Lines.{NeedsUp, why_off, stop_told, WasLooked}
use Rattle.primary_node.specs.Kinds.{MayReply, IsReplied}
use Rattle.primary_node.proofs.NodeLaws.{uses}

abbrev refused_by : NoWhy → Result Reply NodeFault
refused_by why = Ok (No why)

-- what a primary that is up answers
answered_reply : (l : Line) (reply : Reply) → IsAnswered l → MayAnswer l reply → MayReply l reply
answered_reply l (Stopped node) h m = absurd m
answered_reply (line.Restart node) (Number n) h m = tt
answered_reply l reply h m = m

module _ {D : Type 0} {d : Ghosts D} (n : PrimaryNode D d) where
  -- a primary that is up is asked
  up_replied : (p : Primary D d) (l : Line) (result : Result Reply NodeFault) → IsAnswered l → IfOk result (λ reply. MayReply l reply) → IsReplied l result (record n { primary = Some p })
  up_replied p (line.Begin t) result h m = m
  up_replied p (line.Insert t k value) result h m = m
  up_replied p (line.Update t k value) result h m = m
  up_replied p (line.Delete t k) result h m = m
  up_replied p (line.Get t k) result h m = m
  up_replied p (line.Commit t) result h m = m
  up_replied p (line.Abort t) result h m = m
  up_replied p (line.List node vol) result h m = m
  up_replied p (line.Status node) result h m = m
  up_replied p _ result h m = absurd h

  pub goes_replied : (p : Primary D d) (l : Line) (reply : Reply) → IsAnswered l → MayAnswer l reply → IsReplied l (Ok reply) (record n { primary = Some p })
  goes_replied p l reply h m = up_replied p l (Ok reply) h (answered_reply l reply h m)

  pub told_replied : (p : Primary D d) (l : Line) (why : NodeFault) (result : Result Reply NodeFault) → result ≡ stop_told why → IsAnswered l → (disks_of l ≡ None → why ≡ fault.NoMemory) →
      IsReplied l result (record n { primary = Some p })
  told_replied p l why result is h memory = up_replied p l result h (subst (λ (r : Result Reply NodeFault). IfOk r (λ reply. MayReply l reply)) (sym is) (by_why why (uses l h) memory))
    where
      by_why : (w : NodeFault) → (disks_of l ≡ None) ⊎ (disks_of l ≡ Some A) → (disks_of l ≡ None → w ≡ fault.NoMemory) → IfOk (stop_told w) (λ reply. MayReply l reply)
      by_why (fault.Stopped disk) (inl none) m = absurd (not_stopped (m none))
        where
          not_stopped : fault.Stopped disk ≡ fault.NoMemory → ⊥
          not_stopped e = cc
      by_why (fault.Stopped disk) (inr of) m = (refl, of)
      by_why (fault.Failed disk) of m = tt
      by_why fault.NoMemory of m = tt
      by_why (fault.Damaged disk file at) of m = tt

  -- a node that is not up refuses what needs one that is
  pub off_replied : (l : Line) (why : NoWhy) → NeedsUp l → n.primary ≡ None → why ≡ why_off n.lost → IsReplied l (Ok (No why)) n
  off_replied l why h none is = subst (λ (o : Option (Primary D d)). IsReplied l (Ok (No why)) (record n { primary = o })) (sym none) (by_line l h)
    where
      told : refused_by why ≡ refused_by (why_off n.lost)
      told = ap (λ w. refused_by w) is

      by_line : (m : Line) → NeedsUp m → IsReplied m (Ok (No why)) (record n { primary = None })
      by_line (line.Begin t) h = told
      by_line (line.Insert t k value) h = told
      by_line (line.Update t k value) h = told
      by_line (line.Delete t k) h = told
      by_line (line.Get t k) h = told
      by_line (line.Commit t) h = told
      by_line (line.Abort t) h = told
      by_line (line.List node vol) h = told
      by_line _ h = absurd h

  -- a node that was down is opened again, or not
  reopened_replied : (result : Result Reply NodeFault) → n.primary ≡ None → n.lost ≡ false → IfOk result (λ reply. MayReply (line.Restart A) reply) → IsReplied (line.Restart A) result n
  reopened_replied result none not_lost m = subst (λ (o : Option (Primary D d)). IsReplied (line.Restart A) result (record n { primary = o })) (sym none)
      (subst (λ (b : Bool). IsReplied (line.Restart A) result (record n { primary = None; lost = b })) (sym not_lost) m)

  pub numbered_replied : (many : ℕ) → n.primary ≡ None → n.lost ≡ false → IsReplied (line.Restart A) (Ok (Number many)) n
  numbered_replied many none not_lost = reopened_replied (Ok (Number many)) none not_lost tt

  pub shut_replied : (why : NodeFault) (result : Result Reply NodeFault) → result ≡ stop_told why → n.primary ≡ None → n.lost ≡ false → IsReplied (line.Restart A) result n
  shut_replied why result is none not_lost = reopened_replied result none not_lost (subst (λ (r : Result Reply NodeFault). IfOk r (λ reply. MayReply (line.Restart A) reply)) (sym is) (by_why why))
    where
      by_why : (w : NodeFault) → IfOk (stop_told w) (λ reply. MayReply (line.Restart A) reply)
      by_why (fault.Stopped disk) = (refl, refl)
      by_why (fault.Failed disk) = tt
      by_why fault.NoMemory = tt
      by_why (fault.Damaged disk file at) = tt

-- what a primary that was asked keeps, its node keeps
pub goes_kept : {D : Type 0} {d : Ghosts D} (n : PrimaryNode D d) (p q : Primary D d) (result : Result Reply NodeFault) → Keeps PrimaryLooked result p q → Keeps WasLooked result (record n { primary = Some p }) (record n { primary = Some q })
goes_kept {D = D} {d = d} n p q result k = record {
  still = λ why is early. ap (λ (x : Primary D d). let m : PrimaryNode D d = record n { primary = Some x } in m) (k.still why is early);
  looked = λ why is shown. record { was = p; is = q; was_up = refl; is_up = refl; looked = k.looked why is shown; rest = refl };
}

-- a fault of the node is no refusal
pub told_kept : {D : Type 0} {d : Ghosts D} (old new : PrimaryNode D d) (why : NodeFault) (result : Result Reply NodeFault) → result ≡ stop_told why → Keeps WasLooked result old new
told_kept old new why result is = record {
  still = λ word e early. absurd (never why word (sym is ∙ e));
  looked = λ word e shown. absurd (never why word (sym is ∙ e));
}
  where
    never : (w : NodeFault) (word : NoWhy) → stop_told w ≡ Ok (No word) → ⊥
    never (fault.Stopped disk) word e = cc
    never (fault.Failed disk) word e = cc
    never fault.NoMemory word e = cc
    never (fault.Damaged disk file at) word e = cc
