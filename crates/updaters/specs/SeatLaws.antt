-- Laws of images that are applied one part after the other.
use Rattle.std.proofs.Common.{◌≡◌, List, ◌++◌, filter_map, sym, ap, ◌∙◌}
use Rattle.std.proofs.lemmas.List.{map-append}
use Rattle.std.proofs.lemmas.List.Elements.{filter_map-append}
use Rattle.std.proofs.lemmas.List.Sums.{fold-append}
use Rattle.rdf_types.specs.declared.records.Stamped.{Stamped}
use Rattle.rdf_model.specs.Volumes.{Rows}
use Rattle.rdf_model.specs.Window.{records}
use Rattle.rdf_volume.specs.Changes.{changed, with_change, change_by}
use Rattle.updaters.specs.Applied.{changes_by}
use Rattle.updaters.specs.Seats.{with_images}

-- images behind others
pub more_images : (rows : Rows) (a b : List Stamped) → with_images (with_images rows a) b ≡ with_images rows (a ++ b)
more_images rows a b =
    sym (fold-append with_change rows (changes_by a) (changes_by b))
    ∙ ap (changed rows) (sym (ap (filter_map change_by) (map-append (λ (s : Stamped). s.rec) a b) ∙ filter_map-append change_by (records a) (records b)))
