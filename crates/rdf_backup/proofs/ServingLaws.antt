-- States that show, and serve, the same.
use Rattle.std.proofs.Common.{◌≡◌, ℕ, Bool, true, false, List, IfSome, sym, ap₂, subst}
use Rattle.std.specs.Prelude.{slice_get}
use Rattle.rdf_types.specs.declared.layout.Layout.{Layout}
use Rattle.rdf_types.specs.declared.records.Record.{Record}
use Rattle.rdf_disk.specs.Files.{Disk}
use Rattle.rdf_disk.specs.declared.disk.Disk.{Ghosts}
use Rattle.rdf_model.specs.Volumes.{Rows}
use Rattle.image_disks.specs.Spelled.{block_of}
use Rattle.image_trails.specs.Memory.{IsInUse, value_in}
use Rattle.rdf_volume.specs.Views.{InUse}
use Rattle.rdf_core.specs.Layouts.{protects}
use Rattle.rdf_core.specs.Backup.{Backup as State, Running}
use Rattle.rdf_backup.specs.declared.backup.Backup.{Backup}
use Rattle.rdf_backup.specs.Standing.{IsProtected, IsShownIf, IsShown}
use Rattle.rdf_backup.specs.States.{state_by, state_of, layout_of, value_of, AreOver, Serves}

-- a volume of a backup in Running shows the same by any other state in Running with the same points
pub shown_running : (layout : Layout) (trail : List Record) (b other : State) (points : List ℕ) (i : ℕ) (rows : Rows) (at : ℕ) → b.volumes ≡ Running points → other.volumes ≡ Running points →
    IsShown layout trail b i rows at → IsShown layout trail other i rows at
shown_running layout trail b other points i rows at running runs h = by_case (protects layout i) h
  where
    by_case : (p : Bool) → IsShownIf p layout trail b i rows at → IsShownIf p layout trail other i rows at
    by_case true g =
        let here : IsProtected layout trail b (Running points) i rows at = subst (λ vs. IsProtected layout trail b vs i rows at) running g in
        subst (λ vs. IsProtected layout trail other vs i rows at) (sym runs) here
    by_case false g = g

-- the same image trails, volumes and open transactions
module _ {D : Type 0} {d : Ghosts D} (files : D → Disk) (trail : List Record) (old new : Backup D d) (trails : new.trails ≡ old.trails) (volumes : new.volumes ≡ old.volumes) (txns : new.txns ≡ old.txns) where
  pub serves_same : Serves files trail old → Serves files trail new
  serves_same h = record {
    usable = record {
      trails = subst (λ t. IsInUse block_of t.memory (files t.disk)) (sym trails) h.usable.trails;
      volume = subst (λ vs. (v : ℕ) → IfSome (slice_get vs.items v) (λ volume. InUse files volume)) (sym volumes) h.usable.volume;
    };
    over = subst (λ t. AreOver t.memory.layout trail (value_in t.memory) new.volumes.items new.txns) (sym trails)
        (subst (λ vs. AreOver (layout_of old) trail (value_of old) vs.items new.txns) (sym volumes) (subst (λ o. AreOver (layout_of old) trail (value_of old) old.volumes.items o) (sym txns) h.over));
  }

  pub state_same : (stops : ℕ) → state_of stops new ≡ state_of stops old
  state_same stops = ap₂ (λ t vs. state_by stops (value_in t.memory) vs.items) trails volumes
