-- How the logic stores the rows that a volume shows.
use Rattle.std.specs.Coded.{Coded, coded×, coded_ℕ, coded_list}
use Rattle.std.specs.FinMap as map
use Rattle.rdf_model.specs.Volumes.{Rows}

-- a map of rows, by its entries
abbrev pub rows_code : Coded Rows
rows_code = map.code (coded× (coded_list coded_ℕ) (coded_list coded_ℕ)) (coded_list coded_ℕ)
