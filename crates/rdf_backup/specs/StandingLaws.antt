-- Laws of what a backup stands for.
use Rattle.std.proofs.Common.{◌≡◌, ℕ, zero, suc, ◌≤◌, Bool, true, false, List, length, take, map, Option, Some, None, IfSome, refl, sym, ap, ◌∙◌, subst}
use Rattle.std.specs.Prelude.{slice_get}
use Rattle.std.proofs.lemmas.List.{length-map}
use Rattle.std.proofs.lemmas.Option.{IfSome_then}
use Rattle.rdf_types.specs.declared.layout.Layout.{Layout}
use Rattle.rdf_types.specs.declared.records.Phase.{Phase}
use Rattle.rdf_types.specs.declared.records.Phase.TheVariants as phase
use Rattle.rdf_types.specs.declared.records.Record.{Record}
use Rattle.rdf_disk.specs.Files.{Disk}
use Rattle.rdf_disk.specs.Outcomes.{Durably}
use Rattle.rdf_disk.specs.declared.disk.Disk.{Ghosts}
use Rattle.rdf_model.specs.Volumes.{Rows, shown}
use Rattle.rdf_model.specs.Window.{Fits}
use Rattle.image_disks.specs.Spelled.{block_of}
use Rattle.image_disks.specs.Values.{Value}
use Rattle.image_trails.specs.InUseLaws.{in_use_durably as trails_durably}
use Rattle.rdf_volume.specs.declared.volume.Volume.{Volume}
use Rattle.rdf_volume.specs.Views.{rows_of, restart_of, disk_of, InUse}
use Rattle.rdf_volume.specs.StandingLaws.{in_use_durably}
use Rattle.node_disks.specs.OpeningLaws.{each_mapped}
use Rattle.rdf_core.specs.Layouts.{protects}
use Rattle.rdf_core.specs.Backup.{Backup as State, Volumes, Running, Taking, Taken, phase_of, kept_of}
use Rattle.rdf_backup.specs.declared.backup.Backup.{Backup}
use Rattle.rdf_backup.specs.Standing.{IsValueOf, IsProtected, IsShownIf, IsShown, DiskStandsFor}
use Rattle.rdf_backup.specs.States.{volumes_by, state_by, state_of, layout_of, value_of, disks_in, Serves, Stands}

both : {X : Type 0} (P Q : X → Type 0) (o : Option X) → IfSome o P → IfSome o Q → IfSome o (λ x. P x × Q x)
both P Q None h g = tt
both P Q (Some x) h g = (h, g)

-- the phase of volumes with these points is the one that they were made of
pub phase_by : (p : Phase) (points : List ℕ) → p ≡ phase_of (volumes_by p points)
phase_by phase.Running points = refl
phase_by phase.Taking points = refl
phase_by (phase.Taken upto) points = refl

-- what image trails tell of the state that is made of it
pub tells_by : {D : Type 0} (stops : ℕ) (v : Value) (volumes : List (Volume D)) → IsValueOf (state_by stops v volumes) v
tells_by stops v volumes = record { received_is = refl; starts_are = refl; number_is = refl; phase_is = phase_by v.phase (map (λ volume. restart_of volume) volumes) }

-- a protected volume of a backup shows the same by another state with the same positions
protected_again : (layout : Layout) (trail : List Record) (b other : State) (vs : Volumes) (i : ℕ) (rows : Rows) (at : ℕ) → kept_of other ≡ kept_of b → other.received ≡ b.received →
    IsProtected layout trail b vs i rows at → IsProtected layout trail other vs i rows at
protected_again layout trail b other (Running points) i rows at kept received h = h
protected_again layout trail b other Taking i rows at kept received h = (
  subst (λ n. n ≤ at) (sym kept) h.0,
  subst (λ n. at ≤ n) (sym received) h.1,
  subst (λ n. Fits i (take n trail) at (shown rows)) (sym received) h.2,
)
protected_again layout trail b other (Taken upto) i rows at kept received h = h

-- and so does any volume
pub shown_again : (layout : Layout) (trail : List Record) (b other : State) (i : ℕ) (rows : Rows) (at : ℕ) → other.volumes ≡ b.volumes → kept_of other ≡ kept_of b → other.received ≡ b.received →
    IsShown layout trail b i rows at → IsShown layout trail other i rows at
shown_again layout trail b other i rows at volumes kept received h = by_case (protects layout i) h
  where
    by_case : (p : Bool) → IsShownIf p layout trail b i rows at → IsShownIf p layout trail other i rows at
    by_case true g = subst (λ vs. IsProtected layout trail other vs i rows at) (sym volumes) (protected_again layout trail b other b.volumes i rows at kept received g)
    by_case false g = g

-- there are as many disks as the layout says
pub disks_many : {D : Type 0} {d : Ghosts D} (s : Backup D d) → length (disks_in s) ≡ suc (layout_of s).volumes
disks_many s = ap suc (length-map s.volumes.items (λ volume. disk_of volume) ∙ s.sized)

-- a backup that serves over a trail durably stands for itself on its disks
pub serving_stands : {D : Type 0} {d : Ghosts D} (files : D → Disk) (trail : List Record) (s : Backup D d) → Serves files trail s → Stands files trail s
serving_stands {D = D} files trail s serves stops = record {
  legal = serves.over.legal;
  sound = serves.over.sound stops;
  count = disks_many s;
  disk = at;
}
  where
    one : (v : ℕ) (volume : Volume D) → IsShown (layout_of s) trail (state_of 0 s) v (rows_of volume) (restart_of volume) × InUse files volume →
        Durably (files (disk_of volume)) (DiskStandsFor (layout_of s) trail (state_of stops s) (suc v))
    one v volume h = λ c may. record {
      rows = rows_of volume;
      at = restart_of volume;
      shows = shown_again (layout_of s) trail (state_of 0 s) (state_of stops s) v (rows_of volume) (restart_of volume) refl refl refl h.0;
      stands = in_use_durably files volume h.1 c may;
    }

    at : (i : ℕ) → IfSome (slice_get (disks_in s) i) (λ d. Durably (files d) (DiskStandsFor (layout_of s) trail (state_of stops s) i))
    at zero = λ c may. record {
      value = value_of s;
      stands = trails_durably block_of s.trails.memory (files s.trails.disk) serves.usable.trails c may;
      tells = tells_by stops (value_of s) s.volumes.items;
      holds = serves.over.holds;
    }
    at (suc v) = each_mapped (λ volume. disk_of volume) (λ i d. Durably (files d) (DiskStandsFor (layout_of s) trail (state_of stops s) (suc i))) s.volumes.items (λ i. IfSome_then (slice_get s.volumes.items i)
        (both (λ volume. IsShown (layout_of s) trail (state_of 0 s) i (rows_of volume) (restart_of volume)) (λ volume. InUse files volume) (slice_get s.volumes.items i) (serves.over.shown i) (serves.usable.volume i)) (one i)) v
