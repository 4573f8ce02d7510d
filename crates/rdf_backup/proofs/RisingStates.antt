-- A backup in Running whose volumes have risen.
use Rattle.std.proofs.Common.{◌≡◌, ℕ, zero, suc, ◌<◌, ◌≤◌, min, nat_lt, Bool, true, false, if◌then◌else◌, List, [], ◌∷◌, length, take, map, get_or, Option, Some, None, IfSome, refl, sym, ap, ap₂, ◌∙◌, subst, arith, IsTrue}
use Rattle.std.proofs.lemmas.Bool.{ltb-true}
use Rattle.std.specs.Prelude.{slice_get}
use Rattle.std.specs.Option.{option_map}
use Rattle.std.specs.FinMap.{empty}
use Rattle.std.proofs.lemmas.Bool.Decides.{nat_tests}
use Rattle.std.proofs.lemmas.List.{length-map}
use Rattle.std.proofs.lemmas.Option.{slice_get-map}
use Rattle.rdf_types.specs.declared.records.Phase.TheVariants as phase
use Rattle.rdf_types.specs.declared.records.RecKey.{RecKey}
use Rattle.rdf_types.specs.declared.records.Record.{Record}
use Rattle.rdf_disk.specs.Files.{Disk, Contents}
use Rattle.rdf_disk.specs.Outcomes.{Durably, MayAll}
use Rattle.rdf_disk.specs.declared.disk.Disk.{Ghosts}
use Rattle.rdf_model.specs.Contents.{nothing}
use Rattle.rdf_model.specs.Trail.{raw}
use Rattle.rdf_model.specs.Volumes.{Rows, AreOn}
use Rattle.image_disks.specs.Spelled.{block_of}
use Rattle.image_disks.specs.Values.{received}
use Rattle.image_trails.specs.Memory.{IsInUse, value_in}
use Rattle.image_trails.specs.InUseLaws.{in_use_durably as trails_durably}
use Rattle.rdf_volume.specs.declared.volume.Volume.{Volume}
use Rattle.rdf_volume.specs.Standing.{StandsFor}
use Rattle.rdf_volume.specs.Views.{rows_of, restart_of, disk_of}
use Rattle.rdf_core.specs.SoundLaws.{at_or_below}
use Rattle.rdf_core.specs.declared.replies.Reply.{Reply}
use Rattle.rdf_core.specs.Layouts.{protects, point_of, points_at, least}
use Rattle.rdf_core.specs.Backup.{Backup as State, Running, with_volumes, kept_of}
use Rattle.rdf_core.specs.Lines.{with_points}
use Rattle.rdf_core.specs.Sound.{IsSound, ArePoints, AreSound}
use Rattle.rdf_core.specs.Rising.{HaveRisenTo, HasRisen, read_answer}
use Rattle.rdf_backup.specs.declared.backup.Backup.{Backup}
use Rattle.rdf_backup.specs.Standing.{IsProtected, IsShownIf, IsShown, DiskStandsFor, ContentsStandFor}
use Rattle.rdf_backup.specs.States.{volumes_by, state_by, state_of, layout_of, value_of, AreOver, Serves}
use Rattle.rdf_backup.specs.Disks.{disks_of}
use Rattle.rdf_backup.specs.Replies.{IfBoth}
use Rattle.rdf_backup.specs.Taking.{AreInUse}
use Rattle.rdf_backup.specs.Raised.{RoseIf, AreRisen, StandsRaised, AreLeftRisen}
use Rattle.rdf_backup.specs.Rising.{SomeRisen, HasRead, HasCaughtUp}
use Rattle.rdf_backup.proofs.Looking.{point_is}
use Rattle.rdf_backup.specs.StandingLaws.{serving_stands}
use Rattle.rdf_backup.proofs.RisingLists.{both_at}
use Rattle.node_disks.specs.CutLaws.{there_is}

-- lists by places

-- what is shown of each there_is that is there
if_there : {X : Type 0} (xs : List X) (i : ℕ) (P : X → Type 0) → ((x : X) → slice_get xs i ≡ Some x → P x) → IfSome (slice_get xs i) P
if_there {X = X} xs i P f = go (slice_get xs i) refl
  where
    go : (o : Option X) → slice_get xs i ≡ o → IfSome o P
    go None e = tt
    go (Some x) e = f x e

-- lists of which each there_is of the one stands beside one of the other are as long
pub as_many : {X : Type 0} (R : ℕ → X → X → Type 0) (xs ys : List X) → ((i : ℕ) → IfBoth (R i) (slice_get xs i) (slice_get ys i)) → length ys ≡ length xs
as_many R [] [] h = refl
as_many R [] (y ∷ ys) h = absurd (h 0)
as_many R (x ∷ xs) [] h = absurd (h 0)
as_many R (x ∷ xs) (y ∷ ys) h = ap suc (as_many (λ i. R (suc i)) xs ys (λ i. h (suc i)))

-- the points of two such lists
points_both : {D : Type 0} (R : ℕ → Volume D → Volume D → Type 0) (C : ℕ → ℕ → Type 0) (xs ys : List (Volume D)) (v : ℕ) → C 0 0 → ((x y : Volume D) → R v x y → C (restart_of x) (restart_of y)) → ((i : ℕ) → IfBoth (R i) (slice_get xs i) (slice_get ys i)) →
    C (point_of (map (λ volume. restart_of volume) xs) v) (point_of (map (λ volume. restart_of volume) ys) v)
points_both R C [] [] v zeros f h = zeros
points_both R C [] (y ∷ ys) v zeros f h = absurd (h 0)
points_both R C (x ∷ xs) [] v zeros f h = absurd (h 0)
points_both R C (x ∷ xs) (y ∷ ys) zero zeros f h = f x y (h 0)
points_both R C (x ∷ xs) (y ∷ ys) (suc v) zeros f h = points_both (λ i. R (suc i)) C xs ys v zeros f (λ i. h (suc i))

-- a point for each number below another one, as a list
with_first : (Good : ℕ → ℕ → Type 0) (n : ℕ) → (p : ℕ) × Good zero p → (points : List ℕ) × (length points ≡ n) × ((v : ℕ) → v < n → Good (suc v) (point_of points v)) →
    (points : List ℕ) × (length points ≡ suc n) × ((v : ℕ) → v < suc n → Good v (point_of points v))
with_first Good n first rest = (first.0 ∷ rest.0, ap suc rest.1, at)
  where
    at : (v : ℕ) → v < suc n → Good v (point_of (first.0 ∷ rest.0) v)
    at zero h = first.1
    at (suc v) h = rest.2 v (omega (arith, h))

choose : (Good : ℕ → ℕ → Type 0) (n : ℕ) → ((v : ℕ) → v < n → (p : ℕ) × Good v p) → (points : List ℕ) × (length points ≡ n) × ((v : ℕ) → v < n → Good v (point_of points v))
choose Good zero f = ([], refl, (λ v h. absurd (omega (arith, h))))
choose Good (suc n) f = with_first Good n (f zero (omega arith)) (choose (λ v. Good (suc v)) n (λ v h. f (suc v) (omega (arith, h))))

beyond : (points : List ℕ) (v : ℕ) → length points ≤ v → point_of points v ≡ 0
beyond [] v h = refl
beyond (p ∷ points) zero h = absurd (omega (arith, h))
beyond (p ∷ points) (suc v) h = beyond points v (omega (arith, h))

-- a flag that stands is one of the list
flag_there : (flags : List Bool) (v : ℕ) → IsTrue (get_or flags v false) → v < length flags
flag_there [] v h = absurd (differ h)
  where
    differ : false ≡ true → ⊥
    differ e = cc
flag_there (f ∷ flags) zero h = omega arith
flag_there (f ∷ flags) (suc v) h = omega (arith, flag_there flags v h)

lt_not : (a b : ℕ) → nat_lt a b ≡ false → b ≤ a
lt_not a b h = grind (arith, nat_tests, h)

pub least_high : (flags : List Bool) (points : List ℕ) (end low : ℕ) → length points ≡ length flags → low ≤ end → ((v : ℕ) → IsTrue (get_or flags v false) → low ≤ point_of points v) → low ≤ least flags points end
least_high [] points end low many h each = h
least_high (f ∷ flags) [] end low many h each = absurd (omega (arith, many))
least_high (true ∷ flags) (p ∷ points) end low many h each = both_low p (least flags points end) (each 0 refl) (least_high flags points end low (omega (arith, many)) h (λ v on. each (suc v) on))
  where
    both_low : (a b : ℕ) → low ≤ a → low ≤ b → low ≤ (min a b)
    both_low a b h g = omega (arith, h, g)
least_high (false ∷ flags) (p ∷ points) end low many h each = least_high flags points end low (omega (arith, many)) h (λ v on. each (suc v) on)

module _ {D : Type 0} {d : Ghosts D} (files : D → Disk) (trail : List Record) (old : Backup D d) (runs : (value_of old).phase ≡ phase.Running) (serves : Serves files trail old) where
  abbrev pub end : ℕ
  end = received (value_of old)

  abbrev pub points_by : List (Volume D) → List ℕ
  points_by volumes = map (λ volume. restart_of volume) volumes

  abbrev pub Rose : ℕ → ℕ → Volume D → Volume D → Type 0
  Rose done i was is = RoseIf (protects (layout_of old) i) trail done end i (rows_of was) (restart_of was) (rows_of is) (restart_of is)

  -- the state with volumes at these points
  abbrev pub at_points : ℕ → List ℕ → State
  at_points stops points = record { up = true; received = end; starts = (value_of old).starts; number = (value_of old).last; volumes = Running points; stops = stops }

  pub old_state : (stops : ℕ) → state_of stops old ≡ at_points stops (points_by old.volumes.items)
  old_state stops = ap (λ p. let s : State = record { up = true; received = end; starts = (value_of old).starts; number = (value_of old).last; volumes = volumes_by p (points_by old.volumes.items); stops = stops } in s) runs

  pub old_sound : (stops : ℕ) → IsSound (layout_of old) trail (at_points stops (points_by old.volumes.items))
  old_sound stops = subst (λ s. IsSound (layout_of old) trail s) (old_state stops) (serves.over.sound stops)

  many_volumes : length (points_by old.volumes.items) ≡ (layout_of old).volumes
  many_volumes = length-map old.volumes.items (λ volume. restart_of volume) ∙ old.sized

  abbrev pub WasShown : ℕ → Volume D → Type 0
  WasShown i volume = IsShownIf (protects (layout_of old) i) (layout_of old) trail (at_points 0 (points_by old.volumes.items)) i (rows_of volume) (restart_of volume)

  was_shown : (i : ℕ) → IfSome (slice_get old.volumes.items i) (λ volume. WasShown i volume)
  was_shown i = subst (λ s. IfSome (slice_get old.volumes.items i) (λ volume. IsShown (layout_of old) trail s i (rows_of volume) (restart_of volume))) (old_state 0) (serves.over.shown i)

  pub shown_at : (i : ℕ) (x : Volume D) → slice_get old.volumes.items i ≡ Some x → WasShown i x
  shown_at i x there = subst (λ (o : Option (Volume D)). IfSome o (λ volume. WasShown i volume)) there (was_shown i)

  -- a protected volume is one of the layout
  pub flag_below : (v : ℕ) → IsTrue (protects (layout_of old) v) → v < (layout_of old).volumes
  flag_below v on = subst (λ n. v < n) (layout_of old).a_flag_each (flag_there (layout_of old).protect v on)

  -- none has risen yet
  pub none_risen : AreRisen (layout_of old) trail 0 end old.volumes.items old.volumes.items
  none_risen i = by_place (slice_get old.volumes.items i) refl
    where
      one : (x : Volume D) → slice_get old.volumes.items i ≡ Some x → (p : Bool) → protects (layout_of old) i ≡ p → IsShownIf p (layout_of old) trail (at_points 0 (points_by old.volumes.items)) i (rows_of x) (restart_of x) →
          RoseIf p trail 0 end i (rows_of x) (restart_of x) (rows_of x) (restart_of x)
      one x there true on h =
          (omega arith, subst (λ n. n ≤ end) (point_is old.volumes.items i x there) ((old_sound 0).volumes.high i on), (λ lt. absurd (omega (arith, lt))), h.1)
      one x there false off h = (refl, refl)

      by_place : (o : Option (Volume D)) → slice_get old.volumes.items i ≡ o → IfBoth (λ was is. Rose 0 i was is) o o
      by_place None e = tt
      by_place (Some x) e = one x e (protects (layout_of old) i) refl (shown_at i x e)

  -- the least point is a kept position
  pub least_kept : kept_of (at_points 0 []) ≤ end → kept_of (at_points 0 []) ≤ least (layout_of old).protect (points_by old.volumes.items) end
  least_kept h = least_high (layout_of old).protect (points_by old.volumes.items) end (kept_of (at_points 0 [])) (old_sound 0).volumes.whole h (λ v on. (old_sound 0).volumes.low v on)

  module _ (new : Backup D d) (trails : new.trails ≡ old.trails) (txns : new.txns ≡ old.txns) where
    laid_same : layout_of new ≡ layout_of old
    laid_same = ap (λ t. t.memory.layout) trails

    new_state : (stops : ℕ) → state_of stops new ≡ at_points stops (points_by new.volumes.items)
    new_state stops =
        ap (λ t. let s : State = record { up = true; received = received (value_in t.memory); starts = (value_in t.memory).starts; number = (value_in t.memory).last; volumes = volumes_by (value_in t.memory).phase (points_by new.volumes.items); stops = stops } in s) trails
        ∙ ap (λ p. let s : State = record { up = true; received = end; starts = (value_of old).starts; number = (value_of old).last; volumes = volumes_by p (points_by new.volumes.items); stops = stops } in s) runs

    module _ (done : ℕ) (risen : AreRisen (layout_of old) trail done end old.volumes.items new.volumes.items) where
      point_pair : (C : ℕ → ℕ → Type 0) (v : ℕ) → C 0 0 → ((x y : Volume D) → Rose done v x y → C (restart_of x) (restart_of y)) → C (point_of (points_by old.volumes.items) v) (point_of (points_by new.volumes.items) v)
      point_pair C v zeros f = points_both (Rose done) C old.volumes.items new.volumes.items v zeros f risen

      protected_rose : (v : ℕ) (x y : Volume D) → IsTrue (protects (layout_of old) v) → Rose done v x y → RoseIf true trail done end v (rows_of x) (restart_of x) (rows_of y) (restart_of y)
      protected_rose v x y on r = subst (λ p. RoseIf p trail done end v (rows_of x) (restart_of x) (rows_of y) (restart_of y)) on r

      other_rose : (v : ℕ) (x y : Volume D) → protects (layout_of old) v ≡ false → Rose done v x y → RoseIf false trail done end v (rows_of x) (restart_of x) (rows_of y) (restart_of y)
      other_rose v x y off r = subst (λ p. RoseIf p trail done end v (rows_of x) (restart_of x) (rows_of y) (restart_of y)) off r

      have_risen : HaveRisenTo (layout_of old) end (points_by old.volumes.items) (points_by new.volumes.items)
      have_risen = record {
        many = length-map new.volumes.items (λ volume. restart_of volume) ∙ as_many (Rose done) old.volumes.items new.volumes.items risen ∙ sym (length-map old.volumes.items (λ volume. restart_of volume));
        rise = λ v on. point_pair (λ a b. (a ≤ b) × (b ≤ end)) v (omega arith, omega arith) (λ x y r. ((protected_rose v x y on r).0, (protected_rose v x y on r).1));
        stay = λ v off. point_pair (λ a b. b ≡ a) v refl (λ x y r. (other_rose v x y off r).1);
      }

      -- the volumes have risen
      pub has_risen : (stops : ℕ) → HasRisen (layout_of old) (state_of stops old) (state_of stops new)
      has_risen stops = record {
        points = points_by old.volumes.items;
        now_points = points_by new.volumes.items;
        was = ap (λ s. s.volumes) (old_state stops);
        rise = have_risen;
        is = new_state stops ∙ ap (λ (s : State). with_volumes s (Running (points_by new.volumes.items))) (sym (old_state stops));
      }

      new_sound : (stops : ℕ) → IsSound (layout_of old) trail (at_points stops (points_by new.volumes.items))
      new_sound stops =
          let s = old_sound stops in
          record {
            within = s.within;
            some = s.some;
            low = s.low;
            volumes = record {
              whole = have_risen.many ∙ s.volumes.whole;
              low = λ v on. at_or_below (kept_of (at_points 0 [])) (point_of (points_by old.volumes.items) v) (point_of (points_by new.volumes.items) v) (s.volumes.low v on) (have_risen.rise v on).0;
              high = λ v on. (have_risen.rise v on).1;
            };
          }

      now_shown : (i : ℕ) → IfSome (slice_get new.volumes.items i) (λ volume. IsShown (layout_of old) trail (at_points 0 (points_by new.volumes.items)) i (rows_of volume) (restart_of volume))
      now_shown i = if_there new.volumes.items i (λ volume. IsShown (layout_of old) trail (at_points 0 (points_by new.volumes.items)) i (rows_of volume) (restart_of volume)) one
        where
          by_case : (x y : Volume D) → slice_get new.volumes.items i ≡ Some y → (p : Bool) → IsShownIf p (layout_of old) trail (at_points 0 (points_by old.volumes.items)) i (rows_of x) (restart_of x) →
              RoseIf p trail done end i (rows_of x) (restart_of x) (rows_of y) (restart_of y) → IsShownIf p (layout_of old) trail (at_points 0 (points_by new.volumes.items)) i (rows_of y) (restart_of y)
          by_case x y there true h r = (sym (point_is new.volumes.items i y there), r.3)
          by_case x y there false h r = (r.0 ∙ h.0, r.1 ∙ h.1)

          one : (y : Volume D) → slice_get new.volumes.items i ≡ Some y → IsShown (layout_of old) trail (at_points 0 (points_by new.volumes.items)) i (rows_of y) (restart_of y)
          one y there =
              let b = both_at (Rose done i) (slice_get old.volumes.items i) (slice_get new.volumes.items i) y there (risen i) in
              by_case b.0 y there (protects (layout_of old) i) (shown_at i b.0 b.1) b.2

      by_old : (stops : ℕ) → state_by stops (value_of old) new.volumes.items ≡ at_points stops (points_by new.volumes.items)
      by_old stops = ap (λ p. let s : State = record { up = true; received = end; starts = (value_of old).starts; number = (value_of old).last; volumes = volumes_by p (points_by new.volumes.items); stops = stops } in s) runs

      over : AreOver (layout_of old) trail (value_of old) new.volumes.items new.txns
      over = record {
        legal = serves.over.legal;
        sound = λ stops. subst (λ s. IsSound (layout_of old) trail s) (sym (by_old stops)) (new_sound stops);
        holds = serves.over.holds;
        shown = λ i. subst (λ s. IfSome (slice_get new.volumes.items i) (λ volume. IsShown (layout_of old) trail s i (rows_of volume) (restart_of volume))) (sym (by_old 0)) (now_shown i);
        open_ones = record { start = serves.over.open_ones.start; early = serves.over.open_ones.early; noted = txns ∙ serves.over.open_ones.noted };
      }

      -- it serves on
      pub risen_serves : AreInUse files new.volumes.items → Serves files trail new
      risen_serves inside = record {
        usable = record {
          trails = subst (λ t. IsInUse block_of t.memory (files t.disk)) (sym trails) serves.usable.trails;
          volume = inside;
        };
        over = subst (λ t. AreOver t.memory.layout trail (value_in t.memory) new.volumes.items new.txns) (sym trails) over;
      }

      -- all of them are at the end
      pub caught_up : length new.volumes.items ≤ done → AreInUse files new.volumes.items → HasCaughtUp files trail old new
      caught_up all inside = record {
        state = λ stops. new_state stops ∙ ap (λ points. at_points stops points) points_are ∙ ap (λ (s : State). with_points s (points_at (layout_of old) end)) (sym (old_state stops));
        laid = laid_same;
        serves = risen_serves inside;
        stands = serving_stands files trail new (risen_serves inside);
      }
        where
          points_from : (flags : List Bool) (ys : List (Volume D)) → length ys ≡ length flags → ((i : ℕ) → IfSome (slice_get ys i) (λ y. restart_of y ≡ (if get_or flags i false then end else 0))) →
              points_by ys ≡ map (λ protect. if protect then end else 0) flags
          points_from [] [] many each = refl
          points_from [] (y ∷ ys) many each = absurd (omega (arith, many))
          points_from (f ∷ flags) [] many each = absurd (omega (arith, many))
          points_from (f ∷ flags) (y ∷ ys) many each = ap₂ (λ (p : ℕ) (ps : List ℕ). p ∷ ps) (each 0) (points_from flags ys (omega (arith, many)) (λ i. each (suc i)))

          by_case : (i : ℕ) (x y : Volume D) → i < done → (p : Bool) → IsShownIf p (layout_of old) trail (at_points 0 (points_by old.volumes.items)) i (rows_of x) (restart_of x) →
              RoseIf p trail done end i (rows_of x) (restart_of x) (rows_of y) (restart_of y) → restart_of y ≡ (if p then end else 0)
          by_case i x y lt true h r = r.2 lt
          by_case i x y lt false h r = r.1 ∙ h.1

          within : (ys : List (Volume D)) (i : ℕ) (y : Volume D) → slice_get ys i ≡ Some y → i < length ys
          within [] i y there = absurd (none_some y there)
            where
              none_some : (y : Volume D) → None ≡ Some y → ⊥
              none_some y e = cc
          within (z ∷ ys) zero y there = omega arith
          within (z ∷ ys) (suc i) y there = omega (arith, within ys i y there)

          one : (i : ℕ) (y : Volume D) → slice_get new.volumes.items i ≡ Some y → restart_of y ≡ (if protects (layout_of old) i then end else 0)
          one i y there =
              let b = both_at (Rose done i) (slice_get old.volumes.items i) (slice_get new.volumes.items i) y there (risen i) in
              by_case i b.0 y (omega (arith, all, within new.volumes.items i y there)) (protects (layout_of old) i) (shown_at i b.0 b.1) b.2

          points_are : points_by new.volumes.items ≡ points_at (layout_of old) end
          points_are = points_from (layout_of old).protect new.volumes.items
              (sym (length-map new.volumes.items (λ volume. restart_of volume)) ∙ have_risen.many ∙ (old_sound 0).volumes.whole)
              (λ i. if_there new.volumes.items i (λ y. restart_of y ≡ (if protects (layout_of old) i then end else 0)) (one i))

      -- a read
      pub has_read : (key : RecKey) (reply : Reply) → AreInUse files new.volumes.items → reply ≡ read_answer (layout_of old) trail (at_points 0 (points_by new.volumes.items)) key → HasRead files trail key reply old new
      has_read key reply inside says = record {
        rise = has_risen;
        says = says ∙ ap (λ s. read_answer (layout_of old) trail s key) (sym (new_state 0));
        laid = laid_same;
        serves = risen_serves inside;
        stands = serving_stands files trail new (risen_serves inside);
      }

  -- what stops leave
  module _ (volumes : List (Volume D)) (left : AreLeftRisen files (layout_of old) trail end old.volumes.items volumes) where
    abbrev Left : ℕ → Volume D → Volume D → Type 0
    Left i was is = Durably (files (disk_of is)) (StandsRaised (protects (layout_of old) i) trail end i (rows_of was) (restart_of was))

    -- where a volume stands by its contents
    abbrev StandsAtIf : Bool → ℕ → ℕ → Rows → Contents → Type 0
    StandsAtIf true v p rows c = (point_of (points_by old.volumes.items) v ≤ p) × (p ≤ end) × AreOn v (raw nothing (take p trail)) rows × StandsFor rows p c
    StandsAtIf false v p rows c = (rows ≡ empty) × (p ≡ 0) × (p ≡ point_of (points_by old.volumes.items) v) × StandsFor rows p c

    abbrev Good : (ℕ → Contents) → ℕ → ℕ → Type 0
    Good held v p = (rows : Rows) × StandsAtIf (protects (layout_of old) v) v p rows (held (suc v))

    many_new : length volumes ≡ (layout_of old).volumes
    many_new = as_many Left old.volumes.items volumes left ∙ old.sized

    -- these may be the contents of the volumes' disks
    abbrev pub MayHold : (ℕ → Contents) → Type 0
    MayHold held = (v : ℕ) → IfSome (slice_get (map (λ volume. disk_of volume) volumes) v) (λ disk. MayAll (files disk) (held (suc v)))

    good : (held : ℕ → Contents) → MayHold held → (v : ℕ) → v < (layout_of old).volumes → (p : ℕ) × Good held v p
    good held may v few = by_case (protects (layout_of old) v) (shown_at v b.0 b.1) (b.2 (held (suc v)) may_v)
      where
        found : (y : Volume D) × (slice_get volumes v ≡ Some y)
        found = there_is volumes v (omega (arith, few, many_new))

        b : (x : Volume D) × (slice_get old.volumes.items v ≡ Some x) × Left v x found.0
        b = both_at (Left v) (slice_get old.volumes.items v) (slice_get volumes v) found.0 found.1 (left v)

        may_v : MayAll (files (disk_of found.0)) (held (suc v))
        may_v = subst (λ (o : Option D). IfSome o (λ disk. MayAll (files disk) (held (suc v)))) (slice_get-map (λ volume. disk_of volume) volumes v ∙ ap (λ (o : Option (Volume D)). option_map (λ volume. disk_of volume) o) found.1) (may v)

        same : restart_of b.0 ≡ point_of (points_by old.volumes.items) v
        same = sym (point_is old.volumes.items v b.0 b.1)

        by_case : (c : Bool) → IsShownIf c (layout_of old) trail (at_points 0 (points_by old.volumes.items)) v (rows_of b.0) (restart_of b.0) → StandsRaised c trail end v (rows_of b.0) (restart_of b.0) (held (suc v)) →
            (p : ℕ) × ((rows : Rows) × StandsAtIf c v p rows (held (suc v)))
        by_case true h s = (s.at, (s.rows, (subst (λ n. n ≤ s.at) same s.behind, s.within, s.shows, s.stands)))
        by_case false h s = (restart_of b.0, (rows_of b.0, (h.0, h.1, same, s)))

    abbrev chosen : (held : ℕ → Contents) → MayHold held → (points : List ℕ) × (length points ≡ (layout_of old).volumes) × ((v : ℕ) → v < (layout_of old).volumes → Good held v (point_of points v))
    chosen held may = choose (Good held) (layout_of old).volumes (good held may)

    module _ (held : ℕ → Contents) (may : MayHold held) where
      -- the points that the contents tell
      pub points : List ℕ
      points = (chosen held may).0

      many_points : length points ≡ (layout_of old).volumes
      unfolding points choose
      many_points = (chosen held may).1

      at_point : (v : ℕ) → v < (layout_of old).volumes → Good held v (point_of points v)
      unfolding points choose
      at_point v few = (chosen held may).2 v few

      stay : (v : ℕ) → protects (layout_of old) v ≡ false → point_of points v ≡ point_of (points_by old.volumes.items) v
      stay v off = by_test (nat_lt v (layout_of old).volumes) refl
        where
          by_test : (c : Bool) → nat_lt v (layout_of old).volumes ≡ c → point_of points v ≡ point_of (points_by old.volumes.items) v
          by_test true e =
              let g = at_point v (ltb-true v (layout_of old).volumes e) in
              (subst (λ c. StandsAtIf c v (point_of points v) g.0 (held (suc v))) off g.1).2
          by_test false e =
              let far = lt_not v (layout_of old).volumes e in
              beyond points v (omega (arith, far, many_points)) ∙ sym (beyond (points_by old.volumes.items) v (omega (arith, far, many_volumes)))

      rise : (v : ℕ) → IsTrue (protects (layout_of old) v) → (point_of (points_by old.volumes.items) v ≤ point_of points v) × (point_of points v ≤ end)
      rise v on =
          let g = at_point v (flag_below v on) in
          let s = subst (λ c. StandsAtIf c v (point_of points v) g.0 (held (suc v))) on g.1 in
          (s.0, s.1)

      -- the volumes have risen to them
      pub have_come : HaveRisenTo (layout_of old) end (points_by old.volumes.items) points
      have_come = record { many = many_points ∙ sym many_volumes; rise = rise; stay = stay }

      pub rose_to : (stops : ℕ) → HasRisen (layout_of old) (state_of stops old) (with_volumes (state_of stops old) (Running points))
      rose_to stops = record { points = points_by old.volumes.items; now_points = points; was = ap (λ s. s.volumes) (old_state stops); rise = have_come; is = refl }

      -- a backup that has received as much is sound with these points
      pub sound_there : (x : State) → x.volumes ≡ Running (points_by old.volumes.items) → end ≤ x.received → IsSound (layout_of old) trail x → IsSound (layout_of old) trail (with_volumes x (Running points))
      sound_there x is more s = record {
        within = s.within;
        some = s.some;
        low = s.low;
        volumes =
            let was : ArePoints (layout_of old) x.received (kept_of x) (points_by old.volumes.items) = subst (λ vs. AreSound (layout_of old) trail x.received (kept_of x) vs) is s.volumes in
            record {
              whole = many_points ∙ sym (layout_of old).a_flag_each;
              low = λ v on. at_or_below (kept_of x) (point_of (points_by old.volumes.items) v) (point_of points v) (was.low v on) (rise v on).0;
              high = λ v on. at_or_below (point_of points v) end x.received (rise v on).1 more;
            };
      }

      -- and the contents of each volume's disk stand for any backup with these points
      pub volume_there : (x : State) → x.volumes ≡ Running points → (v : ℕ) → v < (layout_of old).volumes → DiskStandsFor (layout_of old) trail x (suc v) (held (suc v))
      volume_there x is v few =
          let g = at_point v few in
          record {
            rows = g.0;
            at = point_of points v;
            shows = by_case (protects (layout_of old) v) g.0 g.1;
            stands = stands_by (protects (layout_of old) v) g.0 g.1;
          }
        where
          by_case : (c : Bool) (rows : Rows) → StandsAtIf c v (point_of points v) rows (held (suc v)) → IsShownIf c (layout_of old) trail x v rows (point_of points v)
          by_case true rows s = subst (λ vs. IsProtected (layout_of old) trail x vs v rows (point_of points v)) (sym is) (refl, s.2)
          by_case false rows s = (s.0, s.1)

          stands_by : (c : Bool) (rows : Rows) → StandsAtIf c v (point_of points v) rows (held (suc v)) → StandsFor rows (point_of points v) (held (suc v))
          stands_by true rows s = s.3
          stands_by false rows s = s.3

      stands : MayAll (files old.trails.disk) (held zero) → (stops : ℕ) → ContentsStandFor (layout_of old) trail (with_volumes (state_of stops old) (Running points)) held
      stands may_trails stops = record {
        legal = serves.over.legal;
        sound = sound_there (state_of stops old) (ap (λ s. s.volumes) (old_state stops)) (omega arith) (serves.over.sound stops);
        disk = at;
      }
        where
          at : (i : ℕ) → i ≤ (layout_of old).volumes → DiskStandsFor (layout_of old) trail (with_volumes (state_of stops old) (Running points)) i (held i)
          at zero few = record {
            value = value_of old;
            stands = trails_durably block_of old.trails.memory (files old.trails.disk) serves.usable.trails (held zero) may_trails;
            tells = record { received_is = refl; starts_are = refl; number_is = refl; phase_is = runs };
            holds = serves.over.holds;
          }
          at (suc v) few = volume_there (with_volumes (state_of stops old) (Running points)) refl v (omega (arith, few))

    -- as many disks are there
    pub as_many_disks : length (disks_of old.trails volumes) ≡ suc (layout_of old).volumes
    as_many_disks = ap suc (length-map volumes (λ volume. disk_of volume) ∙ many_new)

    -- whatever stops leave, the volumes have risen
    pub some_risen : (stops : ℕ) → SomeRisen files (layout_of old) trail (state_of stops old) (disks_of old.trails volumes)
    some_risen stops = record {
      count = as_many_disks;
      some = λ held may. let each : MayHold held = λ v. may (suc v) in (with_volumes (state_of stops old) (Running (points held each)), (rose_to held each stops, stands held each (may zero) stops));
    }
