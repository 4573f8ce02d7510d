-- What the disks of a backup's node stand for, through cuts and a trail that grows.
use Rattle.std.proofs.Common.{◌≡◌, ℕ, zero, suc, ◌≤◌, Bool, false, List, [], ◌∷◌, ◌++◌, length, Option, Some, None, IfSome, refl, ◌∙◌, subst, arith}
use Rattle.std.specs.Prelude.{slice_get, get_or, map}
use Rattle.rdf_types.specs.declared.layout.Layout.{Layout}
use Rattle.rdf_types.specs.declared.records.Record.{Record}
use Rattle.rdf_types.specs.declared.records.Phase.{Phase}
use Rattle.rdf_types.specs.declared.records.Phase.TheVariants as phase
use Rattle.rdf_disk.specs.declared.disk.Disk.{Ghosts}
use Rattle.rdf_disk.specs.Files.{Disk, Contents}
use Rattle.rdf_disk.specs.Counts.{Counts}
use Rattle.rdf_disk.specs.Outcomes.{Durably, Narrows}
use Rattle.rdf_model.specs.Contents.{nothing}
use Rattle.rdf_model.specs.Legal.{Legal}
use Rattle.rdf_core.specs.Backup.{Backup as State}
use Rattle.rdf_core.specs.Sound.{IsSound}
use Rattle.rdf_core.specs.SoundLaws.{sound_longer}
use Rattle.rdf_backup.specs.Replies as replies
use Rattle.rdf_volume.specs.declared.volume.Volume.{Volume}
use Rattle.rdf_volume.specs.Views.{rows_of, restart_of}
use Rattle.rdf_core.specs.Layouts.{protects}
use Rattle.rdf_core.specs.Rising.{HasRisen}
use Rattle.rdf_backup.specs.Rising.{SomeRisen}
use Rattle.rdf_backup.specs.declared.backup.Backup.{Backup}
use Rattle.rdf_backup.specs.States.{layout_of, state_of, value_of, volumes_by, Serves}
use Rattle.rdf_backup.specs.Restarting.{AreAtZero}
use Rattle.rdf_backup.specs.Standing.{IsShown, IsShownIf, DiskStandsFor, ContentsStandFor, BackupStandsFor, SomeStandsFor}
use Rattle.rdf_backup.specs.StandingLaws.{shown_again}
use Rattle.rdf_backup.specs.GrowthLaws.{disk_longer}
use Rattle.node_disks.specs.Cuts.{IfBoth, Each, IsCut, AreCut}
use Rattle.node_disks.specs.CutLaws.{same_length, still_durably, where_there, cut_narrows, held, held_before, held_after, some_so}

-- disks in pairs, by their places
pub each_of : {X : Type 0} (R : ℕ → X → X → Type 0) (xs ys : List X) → ((i : ℕ) → replies.IfBoth (R i) (slice_get xs i) (slice_get ys i)) → Each R xs ys
each_of {X = X} R xs ys h = λ i. go i (slice_get xs i) (slice_get ys i) (h i)
  where
    go : (i : ℕ) (x y : Option X) → replies.IfBoth (R i) x y → IfBoth (R i) x y
    go i None None p = tt
    go i None (Some y) p = absurd p
    go i (Some x) None p = absurd p
    go i (Some x) (Some y) p = p

-- a backup that is up or down, and stopped so often
abbrev pub turned : Bool → ℕ → State → State
turned up stops b = record b { up = up; stops = stops }

module _ (layout : Layout) (trail : List Record) (b : State) (up : Bool) (stops : ℕ) where
  disk_turned : (i : ℕ) (c : Contents) → DiskStandsFor layout trail b i c → DiskStandsFor layout trail (turned up stops b) i c
  disk_turned zero c h = record { value = h.value; stands = h.stands; tells = record { received_is = h.tells.received_is; starts_are = h.tells.starts_are; number_is = h.tells.number_is; phase_is = h.tells.phase_is }; holds = h.holds }
  disk_turned (suc v) c h = record { rows = h.rows; at = h.at; shows = shown_again layout trail b (turned up stops b) v h.rows h.at refl refl refl h.shows; stands = h.stands }

  sound_turned : IsSound layout trail b → IsSound layout trail (turned up stops b)
  sound_turned s = record { within = s.within; some = s.some; low = s.low; volumes = s.volumes }

module _ {D : Type 0} (files : D → Disk) (layout : Layout) (trail : List Record) (b : State) where
  -- the disks stand for it whether it is up or not
  pub stands_turned : (up : Bool) (stops : ℕ) (disks : List D) → BackupStandsFor files layout trail b disks → BackupStandsFor files layout trail (turned up stops b) disks
  stands_turned up stops disks h = record {
    legal = h.legal;
    sound = sound_turned layout trail b up stops h.sound;
    count = h.count;
    disk = λ i. some_so (λ d. Durably (files d) (DiskStandsFor layout trail b i)) (λ d. Durably (files d) (DiskStandsFor layout trail (turned up stops b) i)) (slice_get disks i)
        (λ d stands c may. disk_turned layout trail b up stops i c (stands c may)) (h.disk i);
  }

  -- and over a longer trail that is legal
  pub stands_on : (more : List Record) (disks : List D) → Legal nothing (trail ++ more) → BackupStandsFor files layout trail b disks → BackupStandsFor files layout (trail ++ more) b disks
  stands_on more disks legal h = record {
    legal = legal;
    sound = sound_longer layout trail more b h.sound;
    count = h.count;
    disk = λ i. some_so (λ d. Durably (files d) (DiskStandsFor layout trail b i)) (λ d. Durably (files d) (DiskStandsFor layout (trail ++ more) b i)) (slice_get disks i)
        (λ d stands c may. disk_longer layout trail more b i c h.sound (stands c may)) (h.disk i);
  }

  -- disks of which no more may be left than before go on to stand for it
  pub still_stands : (old new : List D) → Each (λ i x y. (m : ℕ) → Narrows (files x m) (files y m)) old new → BackupStandsFor files layout trail b old → BackupStandsFor files layout trail b new
  still_stands old new narrow h = record {
    legal = h.legal;
    sound = h.sound;
    count = same_length (λ i x y. (m : ℕ) → Narrows (files x m) (files y m)) old new narrow ∙ h.count;
    disk = still_durably files (λ i c. DiskStandsFor layout trail b i c) old new narrow h.disk;
  }

-- once they are cut they go on to stand for it
pub cut_keeps : {D : Type 0} (tells : Type 0) (files : D → Disk) (counts : D → Counts) → tells → (layout : Layout) (trail : List Record) (b : State) (old new : List D) → AreCut tells files counts old new →
    BackupStandsFor files layout trail b old → BackupStandsFor files layout trail b new
cut_keeps tells files counts they layout trail b old new cut = still_stands files layout trail b old new (cut_narrows tells files counts they old new cut)

-- what may be left of disks that are cut, and so what is left
module _ {D : Type 0} (tells : Type 0) (files : D → Disk) (counts : D → Counts) (they : tells) (old new : List D) (cut : AreCut tells files counts old new) (layout : Layout) (trail : List Record) where
  pub left_stands : (b : State) → length old ≡ suc layout.volumes → ContentsStandFor layout trail b (held tells files counts they old new cut) → BackupStandsFor files layout trail b new
  left_stands b count h =
      let many = same_length (λ i x y. IsCut tells files counts x y) old new cut ∙ count in
      record {
        legal = h.legal;
        sound = h.sound;
        count = many;
        disk = λ i. where_there new i (λ d. Durably (files d) (DiskStandsFor layout trail b i))
            (λ few. held_after tells files counts they old new cut i (DiskStandsFor layout trail b i) (h.disk i (omega (arith, few, many))));
      }

  -- stands for one of these
  pub some_left : (most : ℕ) (states : ℕ → State) → SomeStandsFor files layout trail most states old → (n : ℕ) × ((n ≤ most) × BackupStandsFor files layout trail (states n) new)
  some_left most states s =
      let f = s.some (held tells files counts they old new cut) (held_before tells files counts they old new cut) in
      (f.0, (f.1.0, left_stands (states f.0) s.count f.1.1))

  -- has risen to some points
  pub risen_left : (b : State) → SomeRisen files layout trail b old → (next : State) × (HasRisen layout b next × BackupStandsFor files layout trail next new)
  risen_left b s =
      let f = s.some (held tells files counts they old new cut) (held_before tells files counts they old new cut) in
      (f.0, (f.1.0, left_stands f.0 s.count f.1.1))

-- a volume of a backup that serves stands at 0 where it is not protected
module _ {D : Type 0} {d : Ghosts D} (files : D → Disk) (trail : List Record) (p : Backup D d) (serves : Serves files trail p) where
  first_zero : (vs : List (Volume D)) (v : ℕ) → IfSome (slice_get vs v) (λ volume. restart_of volume ≡ 0) → get_or (map (λ volume. restart_of volume) vs) v 0 ≡ 0
  first_zero [] v h = refl
  first_zero (x ∷ vs) zero h = h
  first_zero (x ∷ vs) (suc v) h = first_zero vs v h

  unprotected : (v : ℕ) → protects (layout_of p) v ≡ false → IfSome (slice_get p.volumes.items v) (λ volume. restart_of volume ≡ 0)
  unprotected v off = some_so (λ volume. IsShown (layout_of p) trail (state_of 0 p) v (rows_of volume) (restart_of volume)) (λ volume. restart_of volume ≡ 0) (slice_get p.volumes.items v)
      (λ volume shown. (subst (λ b. IsShownIf b (layout_of p) trail (state_of 0 p) v (rows_of volume) (restart_of volume)) off shown).1) (serves.over.shown v)

  pub serving_zero : (stops : ℕ) → AreAtZero (layout_of p) (state_of stops p).volumes
  serving_zero stops = go (value_of p).phase
    where
      go : (ph : Phase) → AreAtZero (layout_of p) (volumes_by ph (map (λ volume. restart_of volume) p.volumes.items))
      go phase.Running = λ v off. first_zero p.volumes.items v (unprotected v off)
      go phase.Taking = tt
      go (phase.Taken upto) = tt
