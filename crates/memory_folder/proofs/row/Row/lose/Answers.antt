use Rattle.memory_folder.specs.Fakes.{name_of}
use Rattle.memory_folder.proofs.Mixing.{lost_rested}
use Rattle.memory_folder.proofs.row.Row.lose.Goals as goal

-- src/row.rt:221:13
pub returns-then-self : goal.returns-then-self
returns-then-self c = lost_rested c.args.loss c.args.self.now (name_of c.keep.new.self) c.if-self.true c.keep.ensures
