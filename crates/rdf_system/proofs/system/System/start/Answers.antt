use Rattle.rdf_disk.specs.Counts.Ending.{Fine}
use Rattle.rdf_system.specs.Shelved.{disks_on}
use Rattle.rdf_system.proofs.BackLaws.{as_many, refused, started, not_started, blank_ok}
use Rattle.rdf_system.proofs.system.System.start.Goals as goal

pub returns-in-Some-clause-back : goal.returns-in-Some-clause-back
returns-in-Some-clause-back g c =
    refused g.D.Disk.counts c.args.layout.now c.args.racks (disks_on c.shelved-shelves.result) c.shelved-shelves.ensures.places g.D.Disk.tells g.D.Disk.files c.in-Some.fault (disks_on c.first_refused.new.shelves) c.in-Some.ensures.looked c.shelved-shelves.ensures.many
    c.not_started.result.fault c.not_started.ensures.fault c.not_started.result.racks c.not_started.ensures.places c.not_started.ensures.full

pub make_ready-requires-clause-many : goal.make_ready-requires-clause-many
make_ready-requires-clause-many g c = as_many g.D.Disk.counts c.args.layout.now (disks_on c.shelved-shelves.result) (disks_on c.first_refused.new.shelves) (λ of i. Fine) c.in_default-first_refused.ensures.looked.came c.shelved-shelves.ensures.many

pub returns-clause-came : goal.returns-clause-came
returns-clause-came g c = started g.D.Disk.counts c.args.layout.now c.args.racks (disks_on c.shelved-shelves.result) c.shelved-shelves.ensures.places (disks_on c.first_refused.new.shelves) c.in_default-first_refused.ensures.looked.came c.make_ready.result c.make_ready.ensures.came

pub returns-clause-back : goal.returns-clause-back
returns-clause-back g c = not_started g.D.Disk.counts c.args.layout.now c.args.racks (disks_on c.shelved-shelves.result) c.shelved-shelves.ensures.places (disks_on c.first_refused.new.shelves) c.in_default-first_refused.ensures.looked.came
    g.D.Disk.tells g.D.Disk.files c.make_ready.result c.make_ready.ensures.back c.in_default-first_refused.ensures.looked.judged

pub returns-clause-blank : goal.returns-clause-blank
returns-clause-blank g c = λ tells. blank_ok g.D.Disk.counts c.args.layout.now c.args.racks (disks_on c.shelved-shelves.result) c.shelved-shelves.ensures.places g.D.Disk.files c.make_ready.result (c.in_default-first_refused.ensures.looked.judged tells)
