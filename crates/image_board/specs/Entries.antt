-- The images of one volume among entries.
use Rattle.std.specs.Prelude.{ℕ, List, filter}
use Rattle.rdf_types.specs.declared.records.Stamped.{Stamped}
use Rattle.rdf_types.specs.Entries.{since, before}
use Rattle.rdf_model.specs.Window.{is_image_on}

-- the images of one volume
abbrev pub own : ℕ → List Stamped → List Stamped
own vol part = filter (λ s. is_image_on vol s.rec) part

-- its images from one position to below another
abbrev pub images_between : ℕ → ℕ → ℕ → List Stamped → List Stamped
images_between vol from upto part = own vol (before upto (since from part))
