use Rattle.std.proofs.Common.{◌≡◌}
use Rattle.rdf_backup.specs.Sessions.{MayGoOn, open_of, trails_name, txns_name, places_of}
use Rattle.rdf_system.specs.Opened.{view_of}
use Rattle.rdf_run.proofs.OpenLoop.{HasDone}
use Rattle.rdf_run.proofs.session_lines.SessionLinesStretch.run.Given as goal

abbrev pub invariant-loop-line : goal.invariant-loop-line
invariant-loop-line g l = record {
  same : l.answered ≡ l.line-index;
  goes : MayGoOn g.D.Disk.tells g.D.Disk.files l.session;
  trails : trails_name l.session ≡ trails_name l.fn.session;
  txns : txns_name l.session ≡ txns_name l.fn.session;
  places : places_of l.session ≡ places_of l.fn.session;
  done : HasDone g.A.Answering.given g.A.Answering.faults g.D.Disk.tells g.D.Disk.files g.D.Disk.counts l.lines l.answered l.fn.self.out.now l.out (view_of (open_of l.fn.session) l.fn.beside) (view_of (open_of l.session) l.beside);
}
