-- The disks of a backup, in their order.
use Rattle.std.specs.Prelude.{List, ◌∷◌, map}
use Rattle.image_trails.specs.declared.trails.ImageTrails.{ImageTrails}
use Rattle.image_trails.specs.Trails.{trails_disk}
use Rattle.rdf_volume.specs.declared.volume.Volume.{Volume}
use Rattle.rdf_volume.specs.Views.{disk_of}

-- the disk of the image trails and those of the volumes
abbrev pub disks_of : {D : Type 0} → ImageTrails D → List (Volume D) → List D
disks_of trails volumes = trails_disk trails ∷ map (λ volume. disk_of volume) volumes
