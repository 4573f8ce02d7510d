-- What an index of a trail means.
use Rattle.std.specs.Prelude.{List}
use Rattle.rdf_types.specs.declared.records.Record.{Record}
use Rattle.rdf_machine.specs.Images.{AreImages}
use Rattle.rdf_machine.specs.declared.index.TrailIndex.{TrailIndex}

-- the index is of the trail: each place has the positions of its images in some first records
abbrev pub IsIndexOf : List Record → TrailIndex → Type 0
IsIndexOf trail index = AreImages trail index.noted index.images
