-- A backup over blank disks.
use Rattle.std.proofs.Common.{◌≡◌, ℕ, zero, suc, ◌<◌, ◌≤◌, Bool, true, false, if◌then◌else◌, List, [], ◌∷◌, length, map, take, Option, Some, None, IfSome, refl, sym, ap, ap₂, ◌∙◌, subst, arith}
use Rattle.std.specs.Prelude.{slice_get}
use Rattle.std.specs.FinMap.{empty, get-empty}
use Rattle.std.proofs.lemmas.List.{length-map}
use Rattle.rdf_types.specs.Places.{row_cmp}
use Rattle.rdf_types.specs.declared.layout.Layout.{Layout}
use Rattle.rdf_types.specs.declared.records.Record.{Record}
use Rattle.rdf_disk.specs.Files.{Disk}
use Rattle.rdf_disk.specs.Counts.{Counts}
use Rattle.rdf_disk.specs.declared.disk.Disk.{Ghosts}
use Rattle.rdf_model.specs.Contents.{nothing}
use Rattle.rdf_model.specs.Trail.{raw}
use Rattle.rdf_model.specs.Legal.{Legal}
use Rattle.rdf_model.specs.Volumes.{Rows, AreOn, shown}
use Rattle.rdf_model.specs.Window.{part}
use Rattle.open_txns.specs.Noted.{all_noted}
use Rattle.image_disks.specs.Spelled.{block_of}
use Rattle.image_disks.specs.Values.{Alike, fresh, received}
use Rattle.image_disks.specs.Held.{Holds}
use Rattle.image_trails.specs.Memory.{IsInUse, plan_of, value_in}
use Rattle.image_trails.specs.declared.trails.ImageTrails.{ImageTrails}
use Rattle.rdf_volume.specs.declared.volume.Volume.{Volume}
use Rattle.rdf_volume.specs.Views.{rows_of, restart_of, disk_of, InUse}
use Rattle.node_faults.specs.Openings.{IsCaused, AreOn as AllOn}
use Rattle.node_disks.specs.declared.opening.Opening.{Opening}
use Rattle.node_disks.specs.Opening.{AreOpened}
use Rattle.node_disks.specs.OpeningLaws.{all_open, each_mapped, pairs_whole}
use Rattle.node_disks.specs.Formatting.{IsNewVolume, IsNotNew}
use Rattle.rdf_core.specs.Layouts.{protects, points_at, point_of}
use Rattle.rdf_core.specs.Backup.{Running}
use Rattle.rdf_core.specs.State.{blank_backup}
use Rattle.rdf_core.specs.Sound.{IsSound}
use Rattle.rdf_core.specs.SoundLaws.{points_at-of}
use Rattle.rdf_backup.specs.declared.backup.Backup.{Backup}
use Rattle.rdf_backup.specs.Opening.{IsNewTrails, IsFormatted}
use Rattle.rdf_backup.specs.Restarting.{IsMadeOf}
use Rattle.rdf_backup.specs.Standing.{IsProtected, IsShownIf, IsShown}
use Rattle.rdf_backup.specs.States.{volumes_by, state_of, layout_of, value_of, disks_in, AreOver, Serves}
use Rattle.rdf_backup.specs.StandingLaws.{serving_stands}
use Rattle.rdf_backup.proofs.Delivering.{state_from}

-- the volume has no rows, and its restart point is 0
record IsEmpty {D : Type 0} (volume : Volume D) : Type 0 where
  rows : rows_of volume ≡ empty
  restart : restart_of volume ≡ 0

-- the restart points of volumes without rows
zero_points : {D : Type 0} (vs : List (Volume D)) (protect : List Bool) → length vs ≡ length protect → ((v : ℕ) → IfSome (slice_get vs v) (λ volume. IsEmpty volume)) →
    map (λ volume. restart_of volume) vs ≡ map (λ p. if p then 0 else 0) protect
zero_points [] [] many none = refl
zero_points [] (p ∷ ps) many none = absurd (omega (arith, many))
zero_points (v ∷ vs) [] many none = absurd (omega (arith, many))
zero_points (v ∷ vs) (p ∷ ps) many none = ap₂ (λ (n : ℕ) (ns : List ℕ). n ∷ ns) ((none zero).restart ∙ sym (same p 0)) (zero_points vs ps (omega (arith, many)) (λ k. none (suc k)))
  where
    same : (p : Bool) (n : ℕ) → (if p then n else n) ≡ n
    same true n = refl
    same false n = refl

-- a state in which nothing was received is sound
blank_sound : (layout : Layout) (trail : List Record) (stops : ℕ) → IsSound layout trail (record (blank_backup layout) { stops = stops })
blank_sound layout trail stops = record {
  within = omega arith;
  some = omega arith;
  low = omega arith;
  volumes = record {
    whole = length-map layout.protect (λ p. if p then 0 else 0);
    low = λ v on. omega arith;
    high = λ v on. at_zero (point_of (points_at layout 0) v) (points_at-of layout 0 v on);
  };
}
  where
    at_zero : (n : ℕ) → n ≡ 0 → n ≤ 0
    at_zero n e = omega (arith, e)

module _ {D : Type 0} {d : Ghosts D} (tells : Type 0) (files : D → Disk) (counts : D → Counts) (layout : Layout) (all disks : List D) (x : D) (split : all ≡ x ∷ disks) (trails : ImageTrails D) (new : IsNewTrails tells files counts layout x trails)
    (o : Opening D (Volume D)) (is : AreOpened (λ n. IsNewVolume tells files counts) (λ n. IsNotNew counts) 0 disks o.opened.items o.left.items o.fault) (b : Backup D d) (joined : IsMadeOf trails o [] b) where
  each_new : (Q : Volume D → Type 0) → ((y : D) (volume : Volume D) → IsNewVolume tells files counts y volume → Q volume) → (v : ℕ) → IfSome (slice_get o.opened.items v) Q
  each_new Q f = all_open (λ n. IsNewVolume tells files counts) (λ n. IsNotNew counts) (λ v volume. Q volume) disks o.opened.items o.left.items o.fault (λ i y volume h. f y volume h) is

  format_laid : layout_of b ≡ layout
  format_laid = ap (λ t. t.memory.layout) joined.trails_are ∙ new.laid

  disks_are : disks_in b ≡ trails.disk ∷ map (λ volume. disk_of volume) o.opened.items
  disks_are = ap₂ (λ t vs. t.disk ∷ map (λ volume. disk_of volume) vs.items) joined.trails_are joined.volumes_are

  all_on : AllOn counts (trails.disk ∷ map (λ volume. disk_of volume) o.opened.items)
  all_on zero = new.on
  all_on (suc i) = each_mapped (λ volume. disk_of volume) (λ j disk. (counts disk).off ≡ false) o.opened.items (each_new (λ volume. (counts (disk_of volume)).off ≡ false) (λ y volume h. h.on)) i

  fresh_value : Alike (value_of b) (fresh 0)
  fresh_value = subst (λ t. Alike (value_in t.memory) (fresh 0)) (sym joined.trails_are) new.value

  none_there : (v : ℕ) → IfSome (slice_get b.volumes.items v) (λ volume. IsEmpty volume)
  none_there v = subst (λ vs. IfSome (slice_get vs.items v) (λ volume. IsEmpty volume)) (sym joined.volumes_are) (each_new (λ volume. IsEmpty volume) (λ y volume h. record { rows = h.rows; restart = h.restart }) v)

  points : map (λ volume. restart_of volume) b.volumes.items ≡ points_at layout 0
  points = zero_points b.volumes.items layout.protect (b.sized ∙ ap (λ (l : Layout). l.volumes) format_laid ∙ sym layout.a_flag_each) none_there

  runs : volumes_by (value_of b).phase (map (λ volume. restart_of volume) b.volumes.items) ≡ Running (points_at layout 0)
  runs = ap₂ (λ p (ns : List ℕ). volumes_by p ns) fresh_value.phase points

  blank_state : (stops : ℕ) → state_of stops b ≡ record (blank_backup layout) { stops = stops }
  blank_state stops = state_from (record (blank_backup layout) { stops = stops }) stops (value_of b) b.volumes.items refl refl (sym runs)
      (record { received_is = fresh_value.top 0 (omega arith); starts_are = fresh_value.starts; number_is = fresh_value.last; phase_is = fresh_value.phase })

  module _ (told : tells) (trail : List Record) (legal : Legal nothing trail) where
    holds : Holds (plan_of layout) trail (value_of b)
    holds = record {
      long = λ t small used. subst (λ n. n ≤ length trail) (sym (fresh_value.top t small)) (omega arith);
      part = λ i above below. absurd (none_below i (received (value_of b)) (fresh_value.top 0 (omega arith)) below);
      ahead = λ t i small used above below. absurd (none_below i ((value_of b).top t) (fresh_value.top t small) below);
    }
      where
        none_below : (i n : ℕ) → n ≡ 0 → i < n → ⊥
        none_below i n e h = omega (arith, e, h)

    none_shown : (rows : Rows) (at : ℕ) (v : ℕ) → rows ≡ empty → at ≡ 0 → AreOn v (raw nothing (take at trail)) rows
    none_shown rows at v none first = λ q on. ap (λ m. shown m q) none ∙ get-empty row_cmp (q.file, q.key) ∙ ap (λ n. raw nothing (take n trail) q) (sym first)

    one_shown : (v : ℕ) (volume : Volume D) → IsEmpty volume → IsShown layout trail (state_of 0 b) v (rows_of volume) (restart_of volume)
    one_shown v volume none = by_case (protects layout v) refl
      where
        by_case : (p : Bool) → protects layout v ≡ p → IsShownIf p layout trail (state_of 0 b) v (rows_of volume) (restart_of volume)
        by_case true on =
            let here : IsProtected layout trail (state_of 0 b) (Running (points_at layout 0)) v (rows_of volume) (restart_of volume) =
            (none.restart ∙ sym (points_at-of layout 0 v on), none_shown (rows_of volume) (restart_of volume) v none.rows none.restart) in
            subst (λ vs. IsProtected layout trail (state_of 0 b) vs v (rows_of volume) (restart_of volume)) (sym runs) here
        by_case false off = (none.rows, none.restart)

    each : (P Q : Volume D → Type 0) (o : Option (Volume D)) → ((x : Volume D) → P x → Q x) → IfSome o P → IfSome o Q
    each P Q None f h = tt
    each P Q (Some x) f h = f x h

    over : AreOver layout trail (value_of b) b.volumes.items b.txns
    over = record {
      legal = legal;
      sound = λ stops. subst (λ s. IsSound layout trail s) (sym (blank_state stops)) (blank_sound layout trail stops);
      holds = holds;
      shown = λ v. each (λ volume. IsEmpty volume) (λ volume. IsShown layout trail (state_of 0 b) v (rows_of volume) (restart_of volume)) (slice_get b.volumes.items v) (one_shown v) (none_there v);
      open_ones = record {
        start = 0;
        early = omega arith;
        noted = joined.txns_are ∙ ap (λ n. all_noted (part (protects layout) 0 (take n trail))) (sym (fresh_value.top 0 (omega arith)));
      };
    }

    format_serves : Serves files trail b
    format_serves = record {
      usable = record {
        trails = subst (λ t. IsInUse block_of t.memory (files t.disk)) (sym joined.trails_are) (new.in_use told);
        volume = λ v. subst (λ vs. IfSome (slice_get vs.items v) (λ volume. InUse files volume)) (sym joined.volumes_are) (each_new (λ volume. InUse files volume) (λ y volume h. h.in_use told) v);
      };
      over = subst (λ l. AreOver l trail (value_of b) b.volumes.items b.txns) (sym format_laid) over;
    }

  -- it has received nothing, over all disks
  pub formatted : IsFormatted tells files counts layout all b
  formatted = record {
    state = blank_state 0;
    phase = fresh_value.phase;
    laid = format_laid;
    on = subst (λ (l : List D). AllOn counts l) (sym disks_are) all_on;
    usable = λ t. (format_serves t [] tt).usable;
    serves = λ t trail legal. format_serves t trail legal;
    stands = λ t trail legal. serving_stands files trail b (format_serves t trail legal);
    cause = pairs_whole (λ n. IsNewVolume tells files counts) (λ n. IsNotNew counts) (λ volume. disk_of volume) (IsCaused counts) (λ n y volume h. h.counts_are) all disks (disks_in b) x trails.disk o.opened.items o.left.items o.fault split disks_are joined.no_fault new.counts_are is;
  }
