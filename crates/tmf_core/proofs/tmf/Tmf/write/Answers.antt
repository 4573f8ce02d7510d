use Rattle.std.proofs.Common.{rules, sym}
use Rattle.tmf_core.proofs.TmfLaws.{not_done, refused_first, fell, ended_before}
use Rattle.tmf_core.proofs.tmf.Tmf.write.Goals as goal

pub returns-in-Some : goal.returns-in-Some
returns-in-Some g c = record {
  does = not_done g.D.Disk.tells g.D.Disk.files g.D.Disk.counts _ _ _ _ _ c.args.self.now c.in-Some.refusal (λ tells. refused_first _ _ c.in-Some.refusal (c.in-Some.ensures.judged tells)) c.requires.runs c.in-Some.ensures.plain (c.in-Some.ensures.kinds c.args.needs);
  says = tt;
}

pub returns-in-Err : goal.returns-in-Err
returns-in-Err g c = record {
  does = fell g.D.Disk.tells g.D.Disk.files g.D.Disk.counts _ _ _ _ _ c.args.self.now c.fall-in-Err.new.self c.fall-in-Err.result c.in-Err.fault c.fall-in-Err.ensures.told (sym c.in_default.ensures.plain.told) c.fall-in-Err.ensures.down
      (λ tells. sym (c.in_default.ensures.judged tells))
      (λ tells. ended_before g.D.Disk.files c.args.self.now.store c.value_at.new.self c.fall-in-Err.new.self.store _ (c.in-Err.ensures.err tells) c.fall-in-Err.ensures.store) (search rules) (search rules) (search rules);
  says = tt;
}
