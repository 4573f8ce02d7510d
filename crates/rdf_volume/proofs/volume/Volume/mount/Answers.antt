use Rattle.std.proofs.Common.{ℕ, Result, Err, rules, sym, ◌∙◌, ap, subst}
use Rattle.rdf_disk.specs.Outcomes.{seen_of}
use Rattle.rdf_gatelog.specs.declared.fault.LogFault.{LogFault}
use Rattle.rdf_volume.specs.declared.mount.Whole.{Whole}
use Rattle.rdf_volume.specs.InUse.{IsTabled, counted}
use Rattle.rdf_volume.proofs.FlawLaws.{no_flaw}
use Rattle.rdf_volume.proofs.volume.Volume.mount.Goals as goal

pub returns-in-Ok : goal.returns-in-Ok
returns-in-Ok g c = record {
  ok = λ tells rows restart s.
      let t = c.in-Ok.ensures.ok tells s.0 s.1.0 rows restart s.1.1 in
      (subst (λ (n : ℕ). IsTabled (g.D.Disk.files c.open.new.disk) c.in-Ok.whole.log.file c.in-Ok.whole.log.end c.in-Ok.whole.read.table c.in-Ok.whole.read.restart n) (sym c.min.ensures) t.tabled, t.rows_are, t.restart_is);
  counted = λ tells file batches rows restart s.
      let t = c.in-Ok.ensures.ok tells file batches rows restart s in
      (t.file_is, c.min.ensures ∙ ap counted t.batches_are);
  keeps = search rules;
  damaged = search rules;
  whole = search rules;
  on = search rules;
  counts = search rules;
  cause = search rules;
}

pub returns-in-Err : goal.returns-in-Err
returns-in-Err g c = record { ok = search rules; counted = search rules; keeps = search rules; damaged = λ tells file at is. c.in-Err.ensures.damaged tells file at (ap (λ (e : LogFault). let r : Result Whole LogFault = Err e in r) is); whole = λ tells rows restart file at s is. no_flaw (seen_of (g.D.Disk.files c.args.disk)) rows restart file at s (c.in-Err.ensures.damaged tells file at (ap (λ (e : LogFault). let r : Result Whole LogFault = Err e in r) is)); on = search rules; counts = search rules; cause = search rules }
