use Rattle.folder_disk.proofs.Removing.{none_left, others_left}
use Rattle.folder_disk.proofs.numbers.drop_number.Goals as goal

pub returns-clause-gone : goal.returns-clause-gone
returns-clause-gone c = none_left c.args.number c.args.numbers.now.items _ c.without.ensures

pub returns-clause-others : goal.returns-clause-others
returns-clause-others c m other = others_left m c.args.number c.args.numbers.now.items _ other c.without.ensures
