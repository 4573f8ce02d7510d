use Rattle.std.proofs.Common.{◌+◌, refl, sym, ap, ◌∙◌, arith}
use Rattle.rdf_backup.specs.Sessions.{open_of}
use Rattle.rdf_system.specs.Opened.{view_of}
use Rattle.rdf_run.proofs.OpenLoop.{begun, may_go, done_on, unwritten_so, broken_so, ended_so, end_is, no_end, never_out}
use Rattle.rdf_run.proofs.Runs.{run_laws}
use Rattle.rdf_run.proofs.session_lines.SessionLinesStretch.run.Goals as goal

pub loop-line-init : goal.loop-line-init
loop-line-init g c = record {
  same = refl;
  goes = c.requires.goes;
  trails = refl;
  txns = refl;
  places = refl;
  done = begun g.A.Answering.given g.A.Answering.faults g.D.Disk.tells g.D.Disk.files g.D.Disk.counts c.args.self.lines.now c.args.self.out.now (view_of (open_of c.args.session.now) c.args.beside.now) c.requires.lends c.requires.ready.sessions;
}

pub loop-line-preserved : goal.loop-line-preserved
loop-line-preserved g c =
    let inv = c.loop-line.invariant in
    record {
      same = ap (λ n. n + 1) inv.same;
      goes = c.open_line.ensures.goes;
      trails = c.open_line.ensures.same_trails ∙ inv.trails;
      txns = c.open_line.ensures.same_txns ∙ inv.txns;
      places = c.open_line.ensures.same_places ∙ inv.places;
      done = done_on g.A.Answering.given g.A.Answering.faults g.D.Disk.tells g.D.Disk.files g.D.Disk.counts c.args.self.lines.now c.args.self.out.now (view_of (open_of c.args.session.now) c.args.beside.now)
          c.loop-line.answered c.loop-line.out (view_of (open_of c.loop-line.session) c.loop-line.beside) inv.done c.loop-line.line-index inv.same c.line-item.result c.loop-line-test.true c.line-item.is
          (run_laws c.volumes_move.ensures.go_on c.step_goes_on.ensures c.no_point_falls.ensures) g.met.A.Answering.joins (no_end c.line-item.result (sym c.is_end.ensures ∙ c.if-is_end.false))
          c.in-Ok.reply c.take.new.out (view_of (open_of c.open_line.new.session) c.open_line.new.beside) c.in-Ok.ensures.keeps c.in-Ok.ensures.does c.in-Ok-take.ensures.ok c.in-Ok-take.ensures.faults;
    }

pub open_line-requires-clause-goes : goal.open_line-requires-clause-goes
open_line-requires-clause-goes g c = c.loop-line.invariant.goes

pub open_line-requires-clause-lends : goal.open_line-requires-clause-lends
open_line-requires-clause-lends g c = c.loop-line.invariant.done.keeps.lends

pub open_line-requires-clause-fits : goal.open_line-requires-clause-fits
open_line-requires-clause-fits g c =
    let inv = c.loop-line.invariant in
    may_go g.A.Answering.given g.A.Answering.faults g.D.Disk.tells g.D.Disk.files g.D.Disk.counts c.args.self.lines.now c.args.self.out.now (view_of (open_of c.args.session.now) c.args.beside.now)
    c.loop-line.answered c.loop-line.out (view_of (open_of c.loop-line.session) c.loop-line.beside) inv.done c.loop-line.line-index inv.same c.line-item.result c.loop-line-test.true c.line-item.is
    c.requires.ready (no_end c.line-item.result (sym c.is_end.ensures ∙ c.if-is_end.false))

pub returns-then-is_end-clause-goes : goal.returns-then-is_end-clause-goes
returns-then-is_end-clause-goes g c = c.loop-line.invariant.goes

pub returns-then-is_end-clause-same_trails : goal.returns-then-is_end-clause-same_trails
returns-then-is_end-clause-same_trails g c = c.loop-line.invariant.trails

pub returns-then-is_end-clause-same_txns : goal.returns-then-is_end-clause-same_txns
returns-then-is_end-clause-same_txns g c = c.loop-line.invariant.txns

pub returns-then-is_end-clause-same_places : goal.returns-then-is_end-clause-same_places
returns-then-is_end-clause-same_places g c = c.loop-line.invariant.places

pub returns-then-is_end-clause-keeps : goal.returns-then-is_end-clause-keeps
returns-then-is_end-clause-keeps g c = c.loop-line.invariant.done.keeps

pub returns-then-is_end-clause-drives : goal.returns-then-is_end-clause-drives
returns-then-is_end-clause-drives g c =
    let inv = c.loop-line.invariant in (
      refl,
      λ at unmet. ended_so g.A.Answering.given g.A.Answering.faults g.D.Disk.tells g.D.Disk.files g.D.Disk.counts c.args.self.lines.now c.args.self.out.now (view_of (open_of c.args.session.now) c.args.beside.now)
          c.loop-line.answered c.loop-line.out (view_of (open_of c.loop-line.session) c.loop-line.beside) inv.done c.loop-line.line-index inv.same c.line-item.result c.loop-line-test.true c.line-item.is
          (end_is c.line-item.result (sym c.is_end.ensures ∙ c.if-is_end.true)) at unmet,
    )

pub returns-in-Err-clause-drives : goal.returns-in-Err-clause-drives
returns-in-Err-clause-drives g c =
    let inv = c.loop-line.invariant in (
      refl,
      λ at unmet. broken_so g.A.Answering.given g.A.Answering.faults g.D.Disk.tells g.D.Disk.files g.D.Disk.counts c.args.self.lines.now c.args.self.out.now (view_of (open_of c.args.session.now) c.args.beside.now)
          c.loop-line.answered c.loop-line.out (view_of (open_of c.loop-line.session) c.loop-line.beside) inv.done c.loop-line.line-index inv.same c.line-item.result c.loop-line-test.true c.line-item.is
          (run_laws c.volumes_move.ensures.go_on c.step_goes_on.ensures c.no_point_falls.ensures) g.met.A.Answering.joins (no_end c.line-item.result (sym c.is_end.ensures ∙ c.if-is_end.false))
          c.in-Err.why (view_of (open_of c.open_line.new.session) c.open_line.new.beside) c.in-Err.ensures.does at unmet,
    )

pub returns-in-Err-take-clause-drives : goal.returns-in-Err-take-clause-drives
returns-in-Err-take-clause-drives g c =
    let inv = c.loop-line.invariant in (
      refl,
      λ at unmet. unwritten_so g.A.Answering.given g.A.Answering.faults g.D.Disk.tells g.D.Disk.files g.D.Disk.counts c.args.self.lines.now c.args.self.out.now (view_of (open_of c.args.session.now) c.args.beside.now)
          c.loop-line.answered c.loop-line.out (view_of (open_of c.loop-line.session) c.loop-line.beside) inv.done c.loop-line.line-index inv.same c.line-item.result c.loop-line-test.true c.line-item.is
          (run_laws c.volumes_move.ensures.go_on c.step_goes_on.ensures c.no_point_falls.ensures) g.met.A.Answering.joins (no_end c.line-item.result (sym c.is_end.ensures ∙ c.if-is_end.false))
          c.in-Ok.reply c.take.new.out (view_of (open_of c.open_line.new.session) c.open_line.new.beside) c.in-Err-take.fault c.take.result c.in-Err-take.is c.in-Ok.ensures.does
          c.take.ensures.part c.take.ensures.unwritten c.take.ensures.done c.take.ensures.number c.take.ensures.faults at unmet,
    )

pub unreachable-requires : goal.unreachable-requires
unreachable-requires g c = never_out (view_of (open_of c.args.session.now) c.args.beside.now).node.name c.args.self.lines.now c.loop-line.answered (omega (arith, c.loop-line.invariant.same)) c.loop-line.invariant.done.rest

pub overflow_add-answered : goal.overflow_add-answered
overflow_add-answered g c = omega (arith, c.loop-line.invariant.same)
