-- Laws of a backup over a trail that grows.
use Rattle.std.proofs.Common.{◌≡◌, ℕ, zero, suc, ◌+◌, ◌<◌, ◌≤◌, Bool, true, false, List, [], ◌∷◌, ◌++◌, length, length-append, take, Option, IsTrue, refl, sym, ap, ◌∙◌, subst, arith}
use Rattle.std.specs.Prelude.{slice_get}
use Rattle.std.proofs.lemmas.List.{take-append-le}
use Rattle.std.proofs.lemmas.Option.{IfSome_then}
use Rattle.rdf_types.specs.declared.layout.Layout.{Layout}
use Rattle.rdf_types.specs.declared.records.Record.{Record}
use Rattle.rdf_disk.specs.Files.{Disk, Contents}
use Rattle.rdf_disk.specs.declared.disk.Disk.{Ghosts}
use Rattle.rdf_model.specs.Contents.{nothing}
use Rattle.rdf_model.specs.Trail.{raw, committed}
use Rattle.rdf_model.specs.Legal.{Legal}
use Rattle.rdf_model.specs.Volumes.{Rows, AreOn, shown}
use Rattle.rdf_model.specs.Window.{low, part, Fits}
use Rattle.open_txns.specs.Noted.{all_noted}
use Rattle.image_disks.specs.Blocks.{keeps}
use Rattle.image_disks.specs.Values.{Value, received}
use Rattle.image_disks.specs.Held.{Holds, only_if, is_kept}
use Rattle.image_trails.specs.Memory.{plan_of}
use Rattle.rdf_volume.specs.declared.volume.Volume.{Volume}
use Rattle.rdf_volume.specs.Views.{rows_of, restart_of}
use Rattle.rdf_core.specs.Layouts.{protects, point_of}
use Rattle.rdf_core.specs.Backup.{Backup as State, Volumes, Running, Taking, Taken, kept_of}
use Rattle.rdf_core.specs.Sound.{AreSound, IsSound}
use Rattle.rdf_core.specs.SoundLaws.{sound_longer, at_or_below}
use Rattle.rdf_backup.specs.declared.backup.Backup.{Backup}
use Rattle.rdf_backup.specs.Standing.{IsProtected, IsShownIf, IsShown, DiskStandsFor}
use Rattle.rdf_backup.specs.States.{state_by, layout_of, value_of, AreOver, Serves}

same_at : (xs ys : List Record) (i : ℕ) → i < length xs → slice_get (xs ++ ys) i ≡ slice_get xs i
same_at [] ys i h = absurd (omega (arith, h))
same_at (x ∷ xs) ys zero h = refl
same_at (x ∷ xs) ys (suc i) h = same_at xs ys i (omega (arith, h))

module _ (layout : Layout) (trail more : List Record) where
  -- the same prefix
  same_prefix : (n : ℕ) → n ≤ length trail → take n trail ≡ take n (trail ++ more)
  same_prefix n few = sym (take-append-le n trail more few)

  holds_longer : (v : Value) → Holds (plan_of layout) trail v → Holds (plan_of layout) (trail ++ more) v
  holds_longer v h = record {
    long = λ t small used. subst (λ n. v.top t ≤ n) (sym (length-append trail more)) (added (v.top t) (length trail) (length more) (h.long t small used));
    part = λ i above below. h.part i above below ∙ ap (λ (o : Option Record). only_if (λ r. is_kept ((plan_of layout).home r)) o) (sym (same_at trail more i (before i (received v) (length trail) below (h.long 0 (omega arith) refl))));
    ahead = λ t i small used above below. h.ahead t i small used above below ∙ ap (λ (o : Option Record). only_if (keeps (plan_of layout) t) o) (sym (same_at trail more i (before i (v.top t) (length trail) below (h.long t small used))));
  }
    where
      added : (a b c : ℕ) → a ≤ b → a ≤ b + c
      added a b c h = omega (arith, h)

      before : (i a b : ℕ) → i < a → a ≤ b → i < b
      before i a b h g = omega (arith, h, g)

  protected_longer : (b : State) (vs : Volumes) (i : ℕ) (rows : Rows) (at : ℕ) → b.received ≤ length trail → AreSound layout trail b.received (kept_of b) vs → IsTrue (protects layout i) → IsProtected layout trail b vs i rows at → IsProtected layout (trail ++ more) b vs i rows at
  protected_longer b (Running points) i rows at within sound on h =
      (h.0, subst (λ t. AreOn i (raw nothing t) rows) (same_prefix at (subst (λ n. n ≤ length trail) (sym h.0) (at_or_below (point_of points i) b.received (length trail) (sound.high i on) within))) h.1)
  protected_longer b Taking i rows at within sound on h = (h.0, h.1, subst (λ t. Fits i t at (shown rows)) (same_prefix b.received within) h.2)
  protected_longer b (Taken upto) i rows at within sound on h =
      let same = same_prefix upto (at_or_below upto b.received (length trail) sound.0 within) in
      (h.0 ∙ ap (λ t. low (protects layout) t) same, subst (λ t. AreOn i (committed nothing t) rows) same h.1)

  shown_longer : (b : State) → IsSound layout trail b → (i : ℕ) (rows : Rows) (at : ℕ) → IsShown layout trail b i rows at → IsShown layout (trail ++ more) b i rows at
  shown_longer b sound i rows at h = by_case (protects layout i) refl h
    where
      by_case : (p : Bool) → protects layout i ≡ p → IsShownIf p layout trail b i rows at → IsShownIf p layout (trail ++ more) b i rows at
      by_case true on g = protected_longer b b.volumes i rows at sound.within sound.volumes on g
      by_case false off g = g

  -- the contents of a disk stand for the backup over a longer trail too
  pub disk_longer : (b : State) (i : ℕ) (c : Contents) → IsSound layout trail b → DiskStandsFor layout trail b i c → DiskStandsFor layout (trail ++ more) b i c
  disk_longer b zero c sound h = record { value = h.value; stands = h.stands; tells = h.tells; holds = holds_longer h.value h.holds }
  disk_longer b (suc v) c sound h = record { rows = h.rows; at = h.at; shows = shown_longer b sound v h.rows h.at h.shows; stands = h.stands }

  -- what is over a trail is over a longer trail that is legal
  over_longer : {D : Type 0} (v : Value) (volumes : List (Volume D)) (opens : List (ℕ × ℕ)) → Legal nothing (trail ++ more) → AreOver layout trail v volumes opens → AreOver layout (trail ++ more) v volumes opens
  over_longer v volumes opens legal h = record {
    legal = legal;
    sound = λ stops. sound_longer layout trail more (state_by stops v volumes) (h.sound stops);
    holds = holds_longer v h.holds;
    shown = λ i. IfSome_then (slice_get volumes i) {P = λ volume. IsShown layout trail (state_by 0 v volumes) i (rows_of volume) (restart_of volume)} {Q = λ volume. IsShown layout (trail ++ more) (state_by 0 v volumes) i (rows_of volume) (restart_of volume)} (h.shown i)
        (λ volume g. shown_longer (state_by 0 v volumes) (h.sound 0) i (rows_of volume) (restart_of volume) g);
    open_ones = record {
      start = h.open_ones.start;
      early = subst (λ t. h.open_ones.start ≤ low (protects layout) t) (same_prefix (received v) (h.sound 0).within) h.open_ones.early;
      noted = subst (λ t. opens ≡ all_noted (part (protects layout) h.open_ones.start t)) (same_prefix (received v) (h.sound 0).within) h.open_ones.noted;
    };
  }

-- a backup that serves over a trail serves over a longer trail that is legal
pub serves_longer : {D : Type 0} {d : Ghosts D} (files : D → Disk) (trail more : List Record) (s : Backup D d) → Legal nothing (trail ++ more) → Serves files trail s → Serves files (trail ++ more) s
serves_longer files trail more s legal h = record { usable = h.usable; over = over_longer (layout_of s) trail more (value_of s) s.volumes.items s.txns legal h.over }
