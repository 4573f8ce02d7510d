-- What was sent to each node, in the order of the numbers.
use Rattle.std.specs.Prelude.{ℕ, List, [], ◌∷◌, ◌++◌}
use Rattle.rdf_types.specs.declared.records.Node.{Node}
use Rattle.by_node.specs.Each.{Each, at, with_at}

-- the messages to each node
abbrev pub Posted : Type 0
Posted = Each (List (List ℕ))

-- one message more to a node
abbrev pub with_message : Node → List ℕ → Posted → Posted
with_message node bytes posted = with_at posted node (at posted node ++ bytes ∷ [])
