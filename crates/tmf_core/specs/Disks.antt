-- The disks of a node, in their order.
use Rattle.std.specs.Prelude.{List, ◌∷◌, map}
use Rattle.audit_trail.specs.declared.trail.AuditTrail.{AuditTrail}
use Rattle.audit_trail.specs.InUse.{disk_of as trail_disk}
use Rattle.rdf_volume.specs.declared.volume.Volume.{Volume}
use Rattle.rdf_volume.specs.Views.{disk_of}

-- the trail's disk and those of the volumes
abbrev pub disks_of : {D : Type 0} → AuditTrail D → List (Volume D) → List D
disks_of trail volumes = trail_disk trail ∷ map (λ volume. disk_of volume) volumes
