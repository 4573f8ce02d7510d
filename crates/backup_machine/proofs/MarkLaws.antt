-- The marks of a takeover, one after another.
use Rattle.std.proofs.Common.{◌≡◌, ℕ, List, take, refl, sym, ap, ◌∙◌, subst, arith}
use Rattle.rdf_types.specs.declared.layout.Layout.{Layout}
use Rattle.rdf_types.specs.declared.records.Record.{Record}
use Rattle.rdf_model.specs.Window.{part, low}
use Rattle.open_txns.specs.Noted.{all_noted}
use Rattle.rdf_core.specs.Layouts.{protects}
use Rattle.backup_machine.specs.declared.backup.BackupState.{BackupState}
use Rattle.backup_machine.specs.declared.volumes.VolumesState.{VolumesState}
use Rattle.backup_machine.specs.declared.volumes.VolumesState.TheVariants as state
use Rattle.backup_machine.specs.Kept.{IsKept, IsLowAt}
use Rattle.backup_machine.specs.Marking.{AreMarked, AsBefore, Begun, Ended, IsMarked, begun}

begun_marked : (low received at : ℕ) (v : VolumesState) → AreMarked low received v at (begun v) at
begun_marked low received at (state.Running points) = Begun at
begun_marked low received at state.Taking = Begun at
begun_marked low received at (state.Taken upto) = Begun at

pub as_before : (low : ℕ) (b : BackupState) → IsMarked low b b
as_before low b = record { received = refl; noted = refl; opens = refl; volumes = AsBefore }

pub once_begun : (low : ℕ) (b mid : BackupState) → mid ≡ record b { volumes = begun b.volumes } → IsMarked low b mid
once_begun low b mid e = subst (IsMarked low b) (sym e) (record { received = refl; noted = refl; opens = refl; volumes = begun_marked low b.received b.low b.volumes })

pub once_ended : (low : ℕ) (b mid : BackupState) → mid ≡ record b { volumes = begun b.volumes } → IsMarked low b (record mid { volumes = state.Taken mid.received; low = low })
once_ended low b mid e = subst (λ (x : BackupState). IsMarked low b (record x { volumes = state.Taken x.received; low = low })) (sym e) (record { received = refl; noted = refl; opens = refl; volumes = Ended })

-- what is kept, with marks of what was received
pub marked_kept : (layout : Layout) (trail : List Record) (at : ℕ) (a b : BackupState) → at ≡ low (protects layout) (take a.received trail) → IsKept layout trail a → IsMarked at a b → IsKept layout trail b
marked_kept layout trail at a b is k m = record {
  early = omega (arith, k.early, m.received, m.noted);
  opens = m.opens ∙ k.opens ∙ ap (λ (n : ℕ). all_noted (part (protects layout) 0 (take n trail))) (sym m.noted);
  low = lows b.volumes b.low m.volumes;
}
  where
    lows : (v : VolumesState) (n : ℕ) → AreMarked at a.received a.volumes a.low v n → IsLowAt layout trail v n
    lows _ _ AsBefore = k.low
    lows _ _ (Begun n) = tt
    lows _ _ Ended = is
