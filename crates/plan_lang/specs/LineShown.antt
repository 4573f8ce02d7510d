-- The line that is shown by one whose texts still stand in the plan.
use Rattle.rdf_types.specs.declared.records.RecKey.{RecKey}
use Rattle.plan_lang.specs.declared.lines.Line.{Line}
use Rattle.plan_lang.specs.declared.lines.Line.TheVariants as line
use Rattle.plan_lang.specs.declared.line_at.PlaceAt.{PlaceAt}
use Rattle.plan_lang.specs.declared.line_at.LineAt.{LineAt}
use Rattle.plan_lang.specs.declared.line_at.LineAt.TheVariants as at

-- the place whose texts still stand in the plan
abbrev pub place_of : PlaceAt → RecKey
place_of p = record { vol = p.vol; file = p.file.now; key = p.key.now }

-- the line whose texts still stand in the plan
abbrev pub line_of : LineAt → Line
line_of (at.Insert t place value) = line.Insert t (place_of place) value.now
line_of (at.Update t place value) = line.Update t (place_of place) value.now
line_of (at.Delete t place) = line.Delete t (place_of place)
line_of (at.Get t place) = line.Get t (place_of place)
line_of (at.Read node place) = line.Read node (place_of place)
line_of (at.Plain l) = l
