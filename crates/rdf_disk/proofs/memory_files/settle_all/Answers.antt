use Rattle.rdf_disk.proofs.MemoryFilesLaws.{settling_start, settling_step}
use Rattle.rdf_disk.proofs.memory_files.settle_all.Goals as goal

pub loop-file-init : goal.loop-file-init
loop-file-init c = settling_start c.args.tear c.args.files.now c.args.changed.now.items c.requires

pub loop-file-preserved : goal.loop-file-preserved
loop-file-preserved c =
    settling_step c.args.tear c.args.files.now c.loop-file.files c.settle_one.new.files c.loop-file.changed.items c.pop.new.self.items c.in-Some.file c.in-Some.ensures.items c.loop-file.invariant c.settle_one.ensures.tells c.settle_one.ensures.none
