-- What a backout does to the last images, and how it is taken back.
use Rattle.std.specs.Prelude.{◌≡◌, ◌≤◌, ℕ, Bool, true, false, nat_le, List, [], ◌∷◌, ◌++◌, length, take, Option, Some, None, is_some, Result, OnOk, if◌then◌else◌}
use Rattle.std.specs.List.{AllByRecursion}
use Rattle.std.specs.List.Sorted.{IsStrictlySortedBy}
use Rattle.std.specs.Ordering.{nat_cmp}
use Rattle.std.specs.FinMap as map
use Rattle.rdf_types.specs.declared.records.RecKey.{RecKey}
use Rattle.rdf_types.specs.declared.records.Record.{Record}
use Rattle.rdf_types.specs.declared.records.Record.TheVariants.{Image, Commit, Abort}
use Rattle.rdf_model.specs.Trail.{is_open}
use Rattle.rdf_model.specs.Lines.{put_back}
use Rattle.active_txns.specs.Founds.{Founds, found_at}
use Rattle.primary_machine.specs.declared.places.Last.{Last}
use Rattle.primary_machine.specs.Kept.{Lasts, AreLast}

-- the place has this last image again, or none
abbrev pub set_again : Lasts → RecKey → Option Last → Lasts
set_again lasts k None = map.remove lasts k
set_again lasts k (Some last) = if is_some (map.get lasts k) then map.insert lasts k last else lasts

-- each of these places has again what it had, the latest first
abbrev pub all_again : Lasts → List (RecKey × Option Last) → Lasts
all_again lasts [] = lasts
all_again lasts (e ∷ log) = set_again (all_again lasts log) e.0 e.1

-- records were appended, and the last images can be set back to those before
pub record IsOnWay (old : List Record) (before : Lasts) (trail : List Record) (lasts : Lasts) (log : List (RecKey × Option Last)) : Type 0 where
  pub last : AreLast trail lasts
  pub more : List Record
  pub longer : trail ≡ old ++ more
  pub again : all_again lasts log ≡ before

-- whatever trail and last images the log led back to, it leads back to them again
abbrev pub StaysOnWay : List Record → Lasts → List (RecKey × Option Last) → List Record → Lasts → List (RecKey × Option Last) → Type 0
StaysOnWay trail lasts log trail_now lasts_now log_now = (old : List Record) (before : Lasts) → IsOnWay old before trail lasts log → IsOnWay old before trail_now lasts_now log_now

-- the same of a longer trail alone
abbrev pub KeepsWay : List Record → List Record → Type 0
KeepsWay trail now = (old : List Record) (before lasts : Lasts) (log : List (RecKey × Option Last)) → IsOnWay old before trail lasts log → IsOnWay old before now lasts log

-- the first records of a trail that is cut off at a length, or all of it
abbrev pub cut_at : Option ℕ → List Record → List Record
cut_at None trail = trail
cut_at (Some most) trail = take most trail

-- the trail is no longer than that
abbrev pub Fits : Option ℕ → List Record → Type 0
Fits None trail = Unit {0}
Fits (Some most) trail = length trail ≤ most

-- where the log leads back, and the trail fits: done, it is this whole trail, cut off at the length
abbrev pub BacksOut : {T E : Type 0} → Option ℕ → List Record → List Record → Lasts → List (RecKey × Option Last) → Result T E → List Record → Type 0
BacksOut most whole trail lasts log result new = (old : List Record) (before : Lasts) → IsOnWay old before trail lasts log → Fits most trail → OnOk result (new ≡ cut_at most whole)

-- no record more has room
abbrev pub is_full : Option ℕ → List Record → Bool
is_full None trail = false
is_full (Some most) trail = nat_le most (length trail)

-- each place set back to what the transaction found there, and its abort
abbrev pub backed_out : Founds → List Record → ℕ → List Record
backed_out founds trail t = put_back t trail (map.entries (found_at founds t)) ++ Abort t ∷ []

-- what transactions found, without one that the record aborts
abbrev pub without_aborted : Founds → Record → Founds
without_aborted founds (Image txn vol file key before after) = founds
without_aborted founds (Commit txn) = founds
without_aborted founds (Abort txn) = map.remove founds txn

-- open transactions, by rising number
pub record AreOpen (trail : List Record) (txns : List ℕ) : Type 0 where
  pub rising : IsStrictlySortedBy nat_cmp txns
  pub opened : AllByRecursion (λ t. is_open t trail ≡ true) txns
