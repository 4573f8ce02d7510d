-- The bytes of each class of texts.
use Rattle.std.specs.Prelude.{ℕ, Bool}
use Rattle.rdf_types.specs.declared.text.Class.{Class}
use Rattle.rdf_types.specs.declared.text.Class.TheVariants.{Name, Printable}
use Rattle.rdf_types.specs.Limits.{is_name_byte, is_text_byte}

-- whether a byte is of the class
abbrev pub class_of : Class → ℕ → Bool
class_of Name = is_name_byte
class_of Printable = is_text_byte
