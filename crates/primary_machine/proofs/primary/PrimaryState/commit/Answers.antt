use Rattle.std.proofs.Common.{List, sym, subst}
use Rattle.rdf_types.specs.declared.records.Record.{Record}
use Rattle.rdf_model.specs.Lines.{after_commit}
use Rattle.plan_lang.specs.declared.lines.Line.TheVariants as line
use Rattle.primary_machine.specs.Kept.{AreKept}
use Rattle.primary_machine.proofs.KeptLaws.{kept_commit, open_told, ended_proper}
use Rattle.primary_machine.proofs.primary.PrimaryState.commit.Goals as goal

pub append_commit-requires-clause-opened : goal.append_commit-requires-clause-opened
append_commit-requires-clause-opened c = open_told c.self.inside.trail.items c.self.inside.active c.self.inside.standing c.self.inside.stops c.self.inside.places c.self.inside.used c.self.inside.founds c.args.self.now c.args.txn c.self.view_is c.in_default.ensures c.self.invariant

pub invariant_of-self-2 : goal.invariant_of-self-2
invariant_of-self-2 c =
    let a = c.self.inside in
    let t = c.args.txn in
    record {
      kept = subst (λ (x : List Record). AreKept x a.places a.used) (sym c.in_ok-append_commit.ensures.ok)
          (kept_commit a.trail.items a.places a.used t (open_told a.trail.items a.active a.standing a.stops a.places a.used a.founds c.args.self.now t c.self.view_is c.in_default.ensures c.self.invariant) c.self.invariant.kept);
      found = c.in_ok-append_commit.ensures.found;
      proper = ended_proper (λ (trail : List Record). after_commit trail t) a.trail.items _ a.active _ a.standing a.stops c.args.self.now t c.self.view_is
          (c.line_keeps_proper.ensures c.args.layout.now c.args.self.now (line.Commit t) (sym c.in_default.ensures)) c.self.invariant.proper c.in_ok-append_commit.ensures.ok c.remove.ensures;
    }
