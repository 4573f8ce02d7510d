use Rattle.std.proofs.lemmas.List.Elements.{All-from_recursion}
use Rattle.rdf_backup.specs.Taking.{MayTake}
use Rattle.rdf_backup.proofs.WorkedLaws.{all_ready, ended_fit, have_taken}
use Rattle.rdf_backup.proofs.beside.work_beside.Goals as goal

pub run-ended-requires-clause-ready : goal.run-ended-requires-clause-ready
run-ended-requires-clause-ready g c κs within = All-from_recursion (λ w. MayTake g.D.Disk.tells g.D.Disk.files w.audit.now w.answer w.volume) c.take_out-workers.result.0.items
    (all_ready g.D.Disk.tells g.D.Disk.files g.D.Disk.counts (λ w. w.audit.now) (λ w. w.vol) (λ w. w.answer) (λ w. w.volume) c.args.audit.now c.args.flags.now c.args.volumes.now.items c.take_out-workers.result.0.items c.take_out-workers.result.1.items c.take_out-workers.ensures.parted c.requires.ready.rising c.requires.ready.in_use)

pub put_back-requires-clause-fits : goal.put_back-requires-clause-fits
put_back-requires-clause-fits g c = ended_fit g.D.Disk.tells g.D.Disk.files g.D.Disk.counts (λ w. w.audit.now) (λ w. w.vol) (λ w. w.answer) (λ w. w.volume) c.args.audit.now c.args.flags.now c.args.volumes.now.items c.take_out-workers.result.0.items c.take_out-workers.result.1.items c.take_out-workers.ensures.parted
    c.run-ended.result.items c.run-ended.ensures.ran

pub returns : goal.returns
returns g c = have_taken g.D.Disk.tells g.D.Disk.files g.D.Disk.counts (λ w. w.audit.now) (λ w. w.vol) (λ w. w.answer) (λ w. w.volume) c.args.audit.now c.args.flags.now c.args.volumes.now.items c.take_out-workers.result.0.items c.take_out-workers.result.1.items c.take_out-workers.ensures.parted
    c.run-ended.result.items c.run-ended.ensures.ran c.put_back.new.volumes.items c.put_back.result c.put_back.ensures.volumes c.put_back.ensures.first
