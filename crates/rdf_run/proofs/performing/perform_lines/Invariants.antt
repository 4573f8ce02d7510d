use Rattle.std.proofs.Common.{◌≡◌, ◌-◌, length, take}
use Rattle.rdf_core.specs.State.{State}
use Rattle.rdf_system.specs.Sessions.{node_of}
use Rattle.rdf_system.specs.Stances.{StandsAs}
use Rattle.rdf_system.specs.States.{disk_of, layout_of, MayServe, IsAtState}
use Rattle.rdf_run.specs.Going.{Completes, FitFrom}
use Rattle.rdf_run.proofs.performing.perform_lines.Given as goal

abbrev pub invariant-loop-answered : goal.invariant-loop-answered
invariant-loop-answered g l = record {
  so_far : Completes (g.A.Answering.given l.fn.out l.out) g.D.Disk.tells g.D.Disk.counts (layout_of l.fn.system) (take l.answered l.lines) (disk_of l.fn.system) (disk_of l.system) (λ (s : State). IsAtState g.D.Disk.files (layout_of l.fn.system) s l.system) (StandsAs l.system);
  serves : MayServe g.D.Disk.tells g.D.Disk.files g.D.Disk.counts l.system;
  laid : layout_of l.system ≡ layout_of l.fn.system;
  faults : g.A.Answering.faults l.out ≡ g.A.Answering.faults l.fn.out;
  fits : FitFrom (layout_of l.fn.system) (node_of l.system.session) l.lines l.answered;
}

-- each round answers a line
abbrev pub decreases-loop-answered : goal.decreases-loop-answered
decreases-loop-answered g l = length l.lines - l.answered
