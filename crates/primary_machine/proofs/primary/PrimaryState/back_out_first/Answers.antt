use Rattle.std.proofs.Common.{◌+◌, Some, fold, sym, subst, arith}
use Rattle.rdf_model.specs.Lines.{after_abort}
use Rattle.rdf_core.specs.declared.events.Standing.{Standing}
use Rattle.rdf_core.specs.Proper.{IsProperAt, legal_of}
use Rattle.primary_machine.proofs.AddedLaws.{kept_adds, adds_none, aborts_add, adds_on, cut_legal}
use Rattle.primary_machine.proofs.primary.PrimaryState.back_out_first.Goals as goal

pub invariant_of-self-2 : goal.invariant_of-self-2
invariant_of-self-2 c =
    let a = c.self.inside in
    let trail = a.trail.items in
    let most = c.len.result + c.args.done in
    let ts = c.args.txns.now in
    record {
      kept = kept_adds trail c.back_out.new.trail.items a.places c.back_out.new.places a.used
          (adds_on c.back_out.result (Some most) trail c.back_out.new.trail.items (fold after_abort trail ts) (omega (arith, c.len.ensures, a.trail.ok.0)) (aborts_add trail trail ts (adds_none trail)) c.back_out.ensures.ok c.back_out.ensures.err)
          c.self.invariant.kept c.back_out.ensures.last;
      found = c.back_out.ensures.found;
      proper = subst (λ (s : Standing). IsProperAt s c.back_out.new.trail.items c.note_stop.new.active) (sym c.note_stop.ensures.standing)
          (cut_legal c.abort_is_legal.ensures most trail c.back_out.new.trail.items ts (legal_of a.standing trail a.active c.self.invariant.proper) c.in_ok-back_out.ensures.ok, c.note_stop.ensures.active);
    }
