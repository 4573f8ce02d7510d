use Rattle.std.proofs.Common.{◌<◌, length, refl, sym, ◌∙◌, arith}
use Rattle.rdf_types.specs.declared.records.Node.TheVariants.{A, B, C}
use Rattle.rdf_system.specs.Shelved.{disks_on}
use Rattle.rdf_system.proofs.AllLooks.{first_refuses, second_refuses, two_looked, third_looked}
use Rattle.rdf_system.proofs.looks.first_refused.Goals as goal

pub first_refused_of-requires-clause-there : goal.first_refused_of-requires-clause-there
first_refused_of-requires-clause-there g c = let many = c.requires.many A in omega (arith, many, c.args.layout.now.few_volumes)

pub first_refused_of-requires-2-clause-there : goal.first_refused_of-requires-2-clause-there
first_refused_of-requires-2-clause-there g c = let there : c.args.layout.now.volumes < length c.args.shelves.now.b.items = let many = c.requires.many B in omega (arith, many, c.args.layout.now.few_volumes) in there

pub first_refused_of-requires-3-clause-there : goal.first_refused_of-requires-3-clause-there
first_refused_of-requires-3-clause-there g c = let there : c.args.layout.now.volumes < length c.args.shelves.now.c.items = let many = c.requires.many C in omega (arith, many, c.args.layout.now.few_volumes) in there

pub returns-in-Some-clause-looked : goal.returns-in-Some-clause-looked
returns-in-Some-clause-looked g c = first_refuses g.D.Disk.tells g.D.Disk.files g.D.Disk.counts c.args.layout.now (disks_on c.args.shelves.now)
    (disks_on (record { a = c.first_refused_of.new.disks; b = c.args.shelves.now.b; c = c.args.shelves.now.c; shelf = c.args.shelves.now.shelf })) c.in-Some.fault c.in-Some.ensures refl refl

pub returns-in-Some-first_refused_of-clause-looked : goal.returns-in-Some-first_refused_of-clause-looked
returns-in-Some-first_refused_of-clause-looked g c = second_refuses g.D.Disk.tells g.D.Disk.files g.D.Disk.counts c.args.layout.now (disks_on c.args.shelves.now)
    (disks_on (record { a = c.first_refused_of.new.disks; b = c.first_refused_of-2.new.disks; c = c.args.shelves.now.c; shelf = c.args.shelves.now.shelf })) c.in-Some-first_refused_of.fault c.in_default.ensures c.in-Some-first_refused_of.ensures refl

pub returns-then-not-has_backup-clause-looked : goal.returns-then-not-has_backup-clause-looked
returns-then-not-has_backup-clause-looked g c = two_looked g.D.Disk.tells g.D.Disk.files g.D.Disk.counts c.args.layout.now (disks_on c.args.shelves.now)
    (disks_on (record { a = c.first_refused_of.new.disks; b = c.first_refused_of-2.new.disks; c = c.args.shelves.now.c; shelf = c.args.shelves.now.shelf })) c.in_default.ensures c.in_default-first_refused_of.ensures
    (sym c.has_backup.ensures ∙ c.if-not-has_backup.true) refl

pub returns-clause-looked : goal.returns-clause-looked
returns-clause-looked g c = third_looked g.D.Disk.tells g.D.Disk.files g.D.Disk.counts c.args.layout.now (disks_on c.args.shelves.now)
    (disks_on (record { a = c.first_refused_of.new.disks; b = c.first_refused_of-2.new.disks; c = c.first_refused_of-3.new.disks; shelf = c.args.shelves.now.shelf })) c.in_default.ensures c.in_default-first_refused_of.ensures
    c.first_refused_of-3.result (sym c.has_backup.ensures ∙ c.if-not-has_backup.false) c.first_refused_of-3.ensures
