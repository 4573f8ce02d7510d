-- Names and faults, as they are shown.
use Rattle.std.specs.Prelude.{ℕ, List, ◌++◌, codes, decimal}
use Rattle.rdf_types.specs.declared.records.Node.{Node}
use Rattle.rdf_types.specs.declared.records.Node.TheVariants.{A, B, C}
use Rattle.rdf_types.specs.declared.names.NameFault.{NameFault}
use Rattle.rdf_types.specs.declared.names.NameFault.TheVariants.{Empty, TooLong, BadByte, NoMemory}

-- a node's letter
abbrev pub node_text : Node → List ℕ
node_text A = codes "a"
node_text B = codes "b"
node_text C = codes "c"

-- why bytes are no name, key or value
abbrev pub name_fault_text : NameFault → List ℕ
name_fault_text Empty = codes "empty"
name_fault_text (TooLong limit) = codes "longer than " ++ decimal limit ++ codes " bytes"
name_fault_text (BadByte at) = codes "bad byte at " ++ decimal at
name_fault_text NoMemory = codes "no memory"
