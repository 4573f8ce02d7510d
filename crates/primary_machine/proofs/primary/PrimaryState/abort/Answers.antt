use Rattle.std.proofs.Common.{List, sym}
use Rattle.rdf_types.specs.declared.records.Record.{Record}
use Rattle.rdf_model.specs.Lines.{after_abort}
use Rattle.plan_lang.specs.declared.lines.Line.TheVariants as line
use Rattle.primary_machine.proofs.KeptLaws.{open_told, ended_proper}
use Rattle.primary_machine.proofs.primary.PrimaryState.abort.Goals as goal

pub append_abort-requires-clause-opened : goal.append_abort-requires-clause-opened
append_abort-requires-clause-opened c = open_told c.self.inside.trail.items c.self.inside.active c.self.inside.standing c.self.inside.stops c.self.inside.places c.self.inside.used c.self.inside.founds c.args.self.now c.args.txn c.self.view_is c.in_default.ensures c.self.invariant

pub invariant_of-self-2 : goal.invariant_of-self-2
invariant_of-self-2 c =
    let a = c.self.inside in
    let t = c.args.txn in
    record {
      kept = c.in_ok-append_abort.ensures.kept;
      found = c.in_ok-append_abort.ensures.found;
      proper = ended_proper (λ (trail : List Record). after_abort trail t) a.trail.items _ a.active _ a.standing a.stops c.args.self.now t c.self.view_is
          (c.line_keeps_proper.ensures c.args.layout.now c.args.self.now (line.Abort t) (sym c.in_default.ensures)) c.self.invariant.proper c.in_ok-append_abort.ensures.ok c.remove.ensures;
    }
