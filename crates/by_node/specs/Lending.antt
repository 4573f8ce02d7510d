-- What becomes of what each node has, once that of one is lent and written.
use Rattle.std.specs.Borrow.{Lends, MutBor, Fml, RattleType}
use Rattle.rdf_types.specs.declared.records.Node.{Node}
use Rattle.by_node.specs.contracts.ByNode.{the_row}
use Rattle.by_node.specs.Each.{Each, with_at}

abbrev pub LendsOf : (V : RattleType) → MutBor (Each V.Denot) → Node → MutBor V.Denot → Fml
LendsOf V each node r = Lends (the_row V) V each r (with_at each.now node)
