use Rattle.std.proofs.Common.{◌≡◌, drop, take}
use Rattle.plan_lang.specs.Sessions.{KeepSessions}
use Rattle.rdf_run.proofs.ForetoldLoop.{SoFar}
use Rattle.rdf_core.specs.Allowed.{open_node}
use Rattle.rdf_run.proofs.foretelling.predict_lines.Given as goal

abbrev pub invariant-loop-line : goal.invariant-loop-line
invariant-loop-line g l = record {
  so_far : SoFar g.K.Sink.tells l.layout (take l.line-index l.lines) (g.K.Sink.written l.fn.out) (g.K.Sink.written l.out) l.machine.state;
  layout : l.machine.layout ≡ l.layout;
  sessions : KeepSessions (open_node l.machine.state.session) (drop l.line-index l.lines);
  sink : g.K.Sink.faults l.out ≡ g.K.Sink.faults l.fn.out;
}
