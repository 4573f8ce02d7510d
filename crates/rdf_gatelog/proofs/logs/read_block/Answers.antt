use Rattle.std.proofs.Common.{[]}
use Rattle.std.proofs.lemmas.Result.{IfOk-weaker}
use Rattle.rdf_gatelog.specs.RestLaws.{rests_open}
use Rattle.rdf_gatelog.proofs.ReadLaws.{looked_rests}
use Rattle.rdf_gatelog.proofs.logs.read_block.Goals as goal

pub returns-clause-ok : goal.returns-clause-ok
returns-clause-ok g c = λ tells. IfOk-weaker c.read_block.result _ _ (λ block is logs payload rests o at.
    is o.payloads payload (rests_open logs c.args.log.now.file c.args.log.now.end [] (g.D.Disk.files c.args.disk.now) (g.D.Disk.files c.args.disk.now) rests o) at) (c.read_block.ensures.ok tells)

pub returns-clause-rests : goal.returns-clause-rests
returns-clause-rests g c = λ tells logs rests. looked_rests c.read_block.result logs (g.D.Disk.files c.args.disk.now) (g.D.Disk.files c.read_block.new.disk) (c.read_block.ensures.files tells) rests
