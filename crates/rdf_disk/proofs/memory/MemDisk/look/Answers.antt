use Rattle.std.proofs.Common.{◌≡◌, subst}
use Rattle.rdf_disk.specs.declared.memory_meter.Turn.{Turn}
use Rattle.rdf_disk.specs.MemoryDisks.{tells_of, settled_after}
use Rattle.rdf_disk.proofs.MemoryDisksLaws.{looks_as, causes_of}
use Rattle.rdf_disk.proofs.memory.MemDisk.look.Goals as goal

pub returns-clause-files : goal.returns-clause-files
returns-clause-files c =
    looks_as c.end.result c.args.self.now c.end.new.self c.end.ensures.counted
    (λ n. subst (λ (t : Turn). tells_of c.end.new.self n ≡ settled_after t (tells_of c.args.self.now n)) c.turn-turn.ensures (c.end.ensures.told n))

pub returns-clause-cause : goal.returns-clause-cause
returns-clause-cause c = causes_of c.end.result c.args.self.now.meter c.end.new.self.meter c.end.ensures.counted
