use Rattle.std.proofs.Common.{arith, ap}
use Rattle.std.proofs.lemmas.Result.{IfOk-weaker}
use Rattle.rdf_gatelog.specs.LogPlace.{LogPlace}
use Rattle.rdf_gatelog.proofs.ReadLaws.{stands, before_end, none_damaged}
use Rattle.rdf_gatelog.proofs.log.LogFile.read_block.Goals as goal

pub returns-then-at-end-clause-sound : goal.returns-then-at-end-clause-sound
returns-then-at-end-clause-sound g c = λ tells f p is.
    let there = c.requires.block tells in
    let near = before_end c.args.self.now.file c.args.self.now.end there.0 (g.D.Disk.files c.args.disk.now) c.args.at there.2.0 there.1 there.2.1 in
    absurd (omega (arith, near, c.end.ensures, c.if-at-end.true))

pub returns-clause-ok : goal.returns-clause-ok
returns-clause-ok g c = rw (← c.self.view_is) (λ tells. IfOk-weaker c.block_there.result _ _
    (λ block is payloads payload rest at. is payload (stands c.self.inside.file c.self.inside.end payloads (g.D.Disk.files c.args.disk.now) c.args.at payload rest at
    (omega (arith, ap (λ (l : LogPlace). l.end) c.self.view_is, c.end.ensures, c.end.type_inv))))
    (c.block_there.ensures.ok tells))

pub returns-clause-sound : goal.returns-clause-sound
returns-clause-sound g c = λ tells.
    let there = rw (← c.self.view_is) at (c.requires.block tells) in
    none_damaged c.self.inside.file c.self.inside.end there.0 (g.D.Disk.files c.args.disk.now) c.args.at there.2.0 c.block_there.result (c.block_there.ensures.sound tells) there.1 there.2.1
    (omega (arith, ap (λ (l : LogPlace). l.end) c.self.view_is, c.end.ensures, c.end.type_inv))
