use Rattle.std.proofs.Common.{◌≡◌, true, Option, ◌+◌, drop, refl, sym, ap, ◌∙◌, subst, arith}
use Rattle.std.proofs.lemmas.Bool.{and_from}
use Rattle.std.proofs.lemmas.List.{take_all}
use Rattle.rdf_types.specs.declared.records.Node.{Node}
use Rattle.plan_lang.specs.declared.lines.Line.{Line}
use Rattle.plan_lang.specs.Sessions.{KeepSessions, fits_session}
use Rattle.rdf_core.specs.Allowed.{has_names, open_node}
use Rattle.rdf_core.specs.State.{State}
use Rattle.rdf_run.proofs.ForetoldLoop.{begun, more_done, ended, ended_short, ended_writing}
use Rattle.rdf_run.proofs.LineLaws.{next_kept}
use Rattle.rdf_run.proofs.ForetoldRuns.{can_rise, line_leads, none_stopped}
use Rattle.rdf_run.proofs.foretelling.predict_lines.Goals as goal

pub loop-line-init : goal.loop-line-init
loop-line-init g c = record {
  so_far = begun g.K.Sink.tells c.args.layout.now (g.K.Sink.written c.args.out.now) c.args.machine.now.state c.requires.blank;
  layout = c.requires.same;
  sessions = subst (λ (s : State). KeepSessions (open_node s.session) c.args.lines.now) (sym c.requires.blank) c.requires.sessions;
  sink = refl;
}

pub loop-line-preserved : goal.loop-line-preserved
loop-line-preserved g c =
    let inv = c.loop-line.invariant in
    let a = c.in-Ok.ensures.ok in record {
      so_far = more_done g.K.Sink.tells c.args.layout.now c.args.lines.now c.loop-line.line-index c.line-item.result c.loop-line-test.true c.line-item.is
          (g.K.Sink.written c.args.out.now) (g.K.Sink.written c.loop-line.out) (g.K.Sink.written c.predict_line.new.out) c.loop-line.machine.state c.predict_line.new.machine.state inv.so_far a;
      layout = c.in-Ok.ensures.layout ∙ inv.layout;
      sessions = subst (λ (of : Option Node). KeepSessions of (drop (c.loop-line.line-index + 1) c.args.lines.now))
          (sym (line_leads c.args.layout.now c.loop-line.machine.state c.line-item.result a.reply c.predict_line.new.machine.state a.does).node)
          (next_kept (open_node c.loop-line.machine.state.session) c.args.lines.now c.loop-line.line-index c.line-item.result c.loop-line-test.true c.line-item.is inv.sessions).1;
      sink = c.in-Ok.ensures.sink ∙ inv.sink;
    }

pub predict_line-requires-clause-same : goal.predict_line-requires-clause-same
predict_line-requires-clause-same g c = c.loop-line.invariant.layout

pub predict_line-requires-clause-can : goal.predict_line-requires-clause-can
predict_line-requires-clause-can g c =
    let so = c.loop-line.invariant.so_far in
    can_rise c.args.layout.now c.loop-line.machine.state c.loop-line.machine.state.session
    (c.positions_sound.ensures c.args.layout.now _ so.replies c.loop-line.machine.state (c.predictions_run.ensures c.args.layout.now _ so.replies c.loop-line.machine.state so.foretold))
    (none_stopped c.args.layout.now c.loop-line.machine.state _ so.replies so.foretold)

pub predict_line-requires-clause-allowed : goal.predict_line-requires-clause-allowed
predict_line-requires-clause-allowed g c =
    and_from (has_names c.args.layout.now c.line-item.result) (fits_session (open_node c.loop-line.machine.state.session) c.line-item.result)
    (subst (λ (l : Line). has_names c.args.layout.now l ≡ true) (sym c.line-item.is) (c.requires.names c.loop-line.line-index c.line-item.result c.loop-line-test.true))
    (next_kept (open_node c.loop-line.machine.state.session) c.args.lines.now c.loop-line.line-index c.line-item.result c.loop-line-test.true c.line-item.is c.loop-line.invariant.sessions).0

pub returns-in-Err-clause-part : goal.returns-in-Err-clause-part
returns-in-Err-clause-part g c = λ t e.
    ended_writing g.K.Sink.tells c.args.layout.now c.args.lines.now c.loop-line.line-index c.line-item.result c.loop-line-test.true c.line-item.is
    (g.K.Sink.written c.args.out.now) (g.K.Sink.written c.loop-line.out) (g.K.Sink.written c.predict_line.new.out) c.loop-line.machine.state c.predict_line.new.machine.state c.loop-line.invariant.so_far t (c.in-Err.ensures.part e)

pub returns-in-Err-clause-memory : goal.returns-in-Err-clause-memory
returns-in-Err-clause-memory g c = λ t e.
    ended_short g.K.Sink.tells c.args.layout.now c.args.lines.now c.loop-line.line-index (g.K.Sink.written c.args.out.now) (g.K.Sink.written c.loop-line.out) (g.K.Sink.written c.predict_line.new.out)
    c.loop-line.machine.state (ap g.K.Sink.written (c.in-Err.ensures.unwritten e)) t c.loop-line.invariant.so_far

pub returns-clause-ok : goal.returns-clause-ok
returns-clause-ok g c = λ t.
    ended g.K.Sink.tells c.args.layout.now c.args.lines.now c.loop-line.line-index (g.K.Sink.written c.args.out.now) (g.K.Sink.written c.loop-line.out) c.loop-line.machine.state
    (take_all c.loop-line.line-index c.args.lines.now (omega (arith, c.loop-line-test.false))) t c.loop-line.invariant.so_far
