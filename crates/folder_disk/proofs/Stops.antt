-- A stop of a disk over a folder.
use Rattle.std.proofs.Common.{◌≡◌, ℕ, Bool, true, false, List, [], ◌∷◌, length, Option, Some, None, Result, Err, refl, sym, ◌∙◌, ap, subst, arith}
use Rattle.rdf_disk.specs.declared.fault.DiskFault.{DiskFault}
use Rattle.rdf_disk.specs.declared.fault.DiskFault.TheVariants.{Stopped}
use Rattle.rdf_disk.specs.Files.{FileState, bytes_of, settled, touched, gone}
use Rattle.rdf_disk.specs.Outcomes.{IsRewritten, OutcomeOf, IsOutcome, SettlesIn}
use Rattle.rdf_disk.specs.Calls.{AllSettle, Looks, Syncs, Writes, Removes}
use Rattle.folder_disk.specs.Names.{Names, LeftIf, IsLeft, is_whole}
use Rattle.folder_disk.specs.Tracked.{files_if}

abbrev pub IsSound : Names → Type 0
IsSound names = (m : ℕ) → IsOutcome (names m).file (names m).file.seen

rewritten_self : (w : ℕ × ℕ) (removed : Bool) (b : List ℕ) → IsRewritten (w ∷ []) removed b b
rewritten_self w true b = record { no_shorter = omega arith; no_longer = omega arith; same = λ i below out. refl }
rewritten_self w false b = record { no_shorter = omega arith; no_longer = omega arith; same = λ i below out. refl }

-- what may be left may be left with a write more
pub outcome_touched : (w : ℕ × ℕ) (ws : List (ℕ × ℕ)) (removed : Bool) (safe x : Option (List ℕ)) → OutcomeOf ws removed safe x → OutcomeOf (w ∷ ws) removed safe x
outcome_touched w [] false None None is = λ e. refl
outcome_touched w [] false (Some b) None is = λ e. sym is
outcome_touched w [] false None (Some b) is = cc
outcome_touched w [] false (Some b) (Some c) is = subst (λ (y : Option (List ℕ)). IsRewritten (w ∷ []) false b (bytes_of y)) (sym is) (rewritten_self w false b)
outcome_touched w [] true safe None is = λ e. cc
outcome_touched w [] true safe (Some b) is = subst (λ (y : Option (List ℕ)). IsRewritten (w ∷ []) true (bytes_of y) b) (sym is) (rewritten_self w true b)
outcome_touched w (v ∷ ws) removed safe None is = is
outcome_touched w (v ∷ ws) removed safe (Some b) is = record {
  no_shorter = is.no_shorter;
  no_longer = omega (arith, is.no_longer);
  same = λ i below out. is.same i below out.1;
}

-- and with a removal more
outcome_unlinked : (ws : List (ℕ × ℕ)) (removed : Bool) (safe : Option (List ℕ)) (b : List ℕ) → OutcomeOf ws removed safe (Some b) → OutcomeOf ws true safe (Some b)
outcome_unlinked [] false safe b is = sym is
outcome_unlinked [] true safe b is = is
outcome_unlinked (v ∷ ws) removed safe b is = record { no_shorter = omega arith; no_longer = is.no_longer; same = is.same }

outcome_gone_parts : (seen safe : Option (List ℕ)) (ws : List (ℕ × ℕ)) (removed : Bool) →
    let f : FileState = record { seen = seen; safe = safe; writes = ws; removed = removed } in IsOutcome f seen → IsOutcome (gone f seen) seen
outcome_gone_parts None safe ws removed is = is
outcome_gone_parts (Some b) safe ws removed is = outcome_unlinked ws removed safe b is

outcome_gone : (f : FileState) → IsOutcome f f.seen → IsOutcome (gone f f.seen) f.seen
outcome_gone f is = outcome_gone_parts f.seen f.safe f.writes f.removed is

-- what a read gives may be left, whether the disk is on or off
seen_may : (off : Bool) (names : Names) → IsSound names → (m : ℕ) → IsOutcome (files_if off names m) (files_if off names m).seen
seen_may true names sound m = refl
seen_may false names sound m = sound m

after_stop : (off : Bool) (names : Names) (m : ℕ) → files_if true names m ≡ settled (files_if off names m).seen
after_stop true names m = refl
after_stop false names m = refl

all_settle : (off : Bool) (names : Names) → IsSound names → AllSettle (files_if off names) (files_if true names)
all_settle off names sound m = ((files_if off names m).seen, seen_may off names sound m, after_stop off names m)

module _ (off now : Bool) (names : Names) (is : now ≡ true) (sound : IsSound names) where
  settles : AllSettle (files_if off names) (files_if now names)
  settles = subst (λ (b : Bool). AllSettle (files_if off names) (files_if b names)) (sym is) (all_settle off names sound)

  pub looks_stopped : {T : Type 0} (r : Result T DiskFault) → r ≡ Err Stopped → Looks r (files_if off names) (files_if now names)
  looks_stopped r same = subst (λ (y : _). Looks y (files_if off names) (files_if now names)) (sym same) settles

  pub syncs_stopped : {T : Type 0} (r : Result T DiskFault) → r ≡ Err Stopped → Syncs r (files_if off names) (files_if now names)
  syncs_stopped r same = subst (λ (y : _). Syncs y (files_if off names) (files_if now names)) (sym same) settles

  pub writes_stopped : {T : Type 0} (file at : ℕ) (bytes : List ℕ) (r : Result T DiskFault) → r ≡ Err Stopped → Writes file at bytes r (files_if off names) (files_if now names)
  writes_stopped file at bytes r same =
      let f : FileState = files_if off names file in
      let w : ℕ × ℕ = (at, length bytes) in
      let settled_in : SettlesIn file (files_if off names) (files_if now names) (touched f at (length bytes) f.seen) = record {
        this = (f.seen, outcome_touched w f.writes f.removed f.safe f.seen (seen_may off names sound file), ap (λ (b : Bool). files_if b names file) is ∙ after_stop off names file);
        others = λ m other. settles m;
      } in
      subst (λ (y : _). Writes file at bytes y (files_if off names) (files_if now names)) (sym same) settled_in

  pub removes_stopped : {T : Type 0} (file : ℕ) (r : Result T DiskFault) → r ≡ Err Stopped → Removes file r (files_if off names) (files_if now names)
  removes_stopped file r same =
      let f : FileState = files_if off names file in
      let settled_in : SettlesIn file (files_if off names) (files_if now names) (gone f f.seen) = record {
        this = (f.seen, outcome_gone f (seen_may off names sound file), ap (λ (b : Bool). files_if b names file) is ∙ after_stop off names file);
        others = λ m other. settles m;
      } in
      subst (λ (y : _). Removes file y (files_if off names) (files_if now names)) (sym same) settled_in

-- what a loss of power leaves of a folder's file is an outcome of the disk's
left_if : (b : Bool) (f : FileState) → IsOutcome f f.seen → (x : Option (List ℕ)) → LeftIf b f x → IsOutcome f x
left_if true f sound x is = subst (λ (y : Option (List ℕ)). IsOutcome f y) (sym is) sound
left_if false f sound x is = is

pub left_is_outcome : (off : Bool) (names : Names) → off ≡ false → IsSound names → (m : ℕ) (x : Option (List ℕ)) → IsLeft (names m) x → IsOutcome (files_if off names m) x
left_is_outcome off names on sound m x left =
    subst (λ (b : Bool). IsOutcome (files_if b names m) x) (sym on) (left_if (is_whole (names m)) (names m).file (sound m) x left)
