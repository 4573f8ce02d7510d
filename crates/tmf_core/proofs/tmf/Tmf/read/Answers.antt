use Rattle.std.proofs.Common.{true}
use Rattle.tmf_core.proofs.TmfLaws.{not_done, refused_first}
use Rattle.tmf_core.proofs.tmf.Tmf.read.Goals as goal

pub returns-in-Some-clause-does : goal.returns-in-Some-clause-does
returns-in-Some-clause-does g c = not_done g.D.Disk.tells g.D.Disk.files g.D.Disk.counts _ _ _ _ _ c.args.self.now c.in-Some.refusal (λ tells. refused_first _ _ c.in-Some.refusal (c.in-Some.ensures.judged tells)) c.requires.runs c.in-Some.ensures.plain (c.in-Some.ensures.kinds true)
