-- The rows that a reply lists.
use Rattle.std.specs.Prelude.{◌≡◌, ℕ, List}
use Rattle.rdf_types.specs.declared.records.Row.{Row}
use Rattle.rdf_model.specs.Contents.{Contents}
use Rattle.rdf_model.specs.Volumes.{Rows, AreOn}
use Rattle.rdf_model.specs.Rows.{list_of}

-- the rows are those of the contents on the volume, in the order of file and key
pub record AreRowsOf (vol : ℕ) (files : Contents) (rows : List Row) : Type 0 where
  pub map_of : Rows
  pub on : AreOn vol files map_of
  pub listed : rows ≡ list_of map_of
