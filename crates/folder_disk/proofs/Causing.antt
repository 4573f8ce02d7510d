-- Refusals of a folder, counted through calls one after the other.
use Rattle.std.proofs.Common.{◌≡◌, ◌≢◌, ℕ, ◌+◌, ◌≤◌, ◌<◌, ◌==◌, not, Bool, true, false, List, length, None, Result, Ok, Err, if◌then◌else◌, refl, sym, ◌∙◌, ap, subst, arith}
use Rattle.std.proofs.Common.{nat_lt, nat_eq, get_or}
use Rattle.std.proofs.lemmas.Bool.{eq-eqb}
use Rattle.std.proofs.lemmas.List.Folds.{list_any_at}
use Rattle.std.proofs.lemmas.Bool.Decides.{nat_tests}
use Rattle.rdf_types.specs.Counts.{most, Rose}
use Rattle.folder_disk.specs.declared.fault.FolderFault.{FolderFault}
use Rattle.folder_disk.specs.declared.fault.FolderFault.TheVariants.{NotFound, Interrupted, Refused, Failed, NoMemory}
use Rattle.folder_disk.specs.declared.call_fault.CallFault.{CallFault}
use Rattle.folder_disk.specs.Names.{Names, Name, AreAll, Still, Opens, lost_by, is_lost_by, is_want, refused_for, missed_for, one_more, is_unfilled, unfilled_by}
use Rattle.folder_disk.specs.Causes.{HasCause, is_failed, is_failed_by, told_of}

-- one call was refused
pub one_refused : (failed : Bool) (a b : ℕ) → b ≡ one_more a → HasCause failed a b
one_refused failed a b is = subst (λ (c : ℕ). HasCause failed a c) (sym is) (elim (nat_lt a most) as (λ t. nat_lt a most ≡ t → HasCause failed a (if t then a + 1 else a)) [
  | true ↦ λ t. record { no_less = omega arith; rose = λ e below. omega arith }
  | false ↦ λ t. let high : most ≤ a = grind (arith, nat_tests, t) in record { no_less = omega arith; rose = λ e below. absurd (omega (arith, high, below)) }
] refl)

pub none_refused : (a : ℕ) → HasCause false a a
none_refused a = record { no_less = omega arith; rose = λ e below. cc }

none_so : (a b : ℕ) → b ≡ a → HasCause false a b
none_so a b is = subst (λ (c : ℕ). HasCause false a c) (sym is) (none_refused a)

-- a call behind a change that was asked for was refused, and found its memory
pub late_refused : (e : FolderFault) (failed : Bool) (a b : ℕ) → is_want e ≡ false → b ≡ refused_for e a → HasCause failed a b
late_refused NotFound failed a b not is = one_refused failed a b is
late_refused Interrupted failed a b not is = one_refused failed a b is
late_refused Refused failed a b not is = one_refused failed a b is
late_refused Failed failed a b not is = one_refused failed a b is
late_refused NoMemory failed a b not is = cc

-- the same where it did not miss a file
pub late_missed : (e : FolderFault) (failed : Bool) (a b : ℕ) → e ≢ NotFound → is_want e ≡ false → b ≡ missed_for e a → HasCause failed a b
late_missed NotFound failed a b there not is = absurd (there refl)
late_missed Interrupted failed a b there not is = one_refused failed a b is
late_missed Refused failed a b there not is = one_refused failed a b is
late_missed Failed failed a b there not is = one_refused failed a b is
late_missed NoMemory failed a b there not is = cc

-- what is told of a call that was refused
told_by : (r : CallFault) (e : FolderFault) (a b : ℕ) → r ≡ told_of e → HasCause (is_failed_by (told_of e)) a b → HasCause (is_failed_by r) a b
told_by r e a b told is = subst (λ (d : CallFault). HasCause (is_failed_by d) a b) (sym told) is

told_missed_so : (e : FolderFault) (a b : ℕ) → e ≢ NotFound → b ≡ missed_for e a → HasCause (is_failed_by (told_of e)) a b
told_missed_so NotFound a b there is = absurd (there refl)
told_missed_so Interrupted a b there is = one_refused true a b is
told_missed_so Refused a b there is = one_refused true a b is
told_missed_so Failed a b there is = one_refused true a b is
told_missed_so NoMemory a b there is = none_so a b is

told_refused_so : (e : FolderFault) (a b : ℕ) → b ≡ refused_for e a → HasCause (is_failed_by (told_of e)) a b
told_refused_so NotFound a b is = one_refused true a b is
told_refused_so Interrupted a b is = one_refused true a b is
told_refused_so Refused a b is = one_refused true a b is
told_refused_so Failed a b is = one_refused true a b is
told_refused_so NoMemory a b is = none_so a b is

pub told_refused : (r : CallFault) (e : FolderFault) (a b : ℕ) → r ≡ told_of e → b ≡ refused_for e a → HasCause (is_failed_by r) a b
told_refused r e a b told is = told_by r e a b told (told_refused_so e a b is)

pub told_missed : (r : CallFault) (e : FolderFault) (a b : ℕ) → r ≡ told_of e → e ≢ NotFound → b ≡ missed_for e a → HasCause (is_failed_by r) a b
told_missed r e a b told there is = told_by r e a b told (told_missed_so e a b there is)

not_missed : (e : FolderFault) (n : Name) → Opens (Err e) n → n.file.seen ≢ None → e ≢ NotFound
not_missed NotFound n opens there = absurd (there opens)
not_missed Interrupted n opens there = λ e. cc
not_missed Refused n opens there = λ e. cc
not_missed Failed n opens there = λ e. cc
not_missed NoMemory n opens there = λ e. cc

-- a file that is there is not missed
pub told_opened : (r : CallFault) (e : FolderFault) (n : Name) (a b : ℕ) → r ≡ told_of e → Opens (Err e) n → n.file.seen ≢ None → b ≡ missed_for e a → HasCause (is_failed_by r) a b
told_opened r e n a b told opens there is = told_missed r e a b told (not_missed e n opens there) is

-- an error that was passed on has its cause
pub passed_failed : {T : Type 0} (r : Result T CallFault) (e came : CallFault) (a b : ℕ) → r ≡ Err e → e ≡ came → HasCause (is_failed_by came) a b → HasCause (is_failed r) a b
passed_failed {T = T} r e came a b is same cause = subst (λ (x : Result T CallFault). HasCause (is_failed x) a b) (sym is) (told_so e came a b same cause)
  where
    told_so : (e came : CallFault) (a b : ℕ) → e ≡ came → HasCause (is_failed_by came) a b → HasCause (is_failed_by e) a b
    told_so e came a b same cause = subst (λ (x : CallFault). HasCause (is_failed_by x) a b) (sym same) cause

-- what failed before is why, whatever came behind it
pub failed_before : (failed : Bool) (a b c : ℕ) → HasCause true a b → HasCause false b c → HasCause failed a c
failed_before failed a b c was is = record { no_less = omega (arith, was.no_less, is.no_less); rose = λ e below. omega (arith, was.rose refl below, is.no_less) }

-- the refusals that came are refusals, whatever is made of them
pub no_failure : (failed : Bool) (a b : ℕ) → HasCause failed a b → HasCause false a b
no_failure failed a b is = record { no_less = is.no_less; rose = λ e below. cc }

pub any_failure : (failed : Bool) (a b : ℕ) → HasCause true a b → HasCause failed a b
any_failure failed a b is = record { no_less = is.no_less; rose = λ e. is.rose refl }

-- calls before it had theirs
pub cause_behind : (failed : Bool) (a b c : ℕ) → HasCause false a b → HasCause failed b c → HasCause failed a c
cause_behind failed a b c before is = record { no_less = omega (arith, before.no_less, is.no_less); rose = λ e below. behind (is.rose e) below }
  where
    behind : Rose b c → a < most → a < c
    behind rose below = elim (nat_lt b most) as (λ t. nat_lt b most ≡ t → a < c) [
      | true ↦ λ t. omega (arith, before.no_less, rose (grind (arith, nat_tests, t)))
      | false ↦ λ t. let high : most ≤ b = grind (arith, nat_tests, t) in omega (arith, below, high, is.no_less)
    ] refl

-- so often was a call made that was interrupted each time
pub turn_refused : (turn : ℕ) (a b c : ℕ) → HasCause (nat_lt 0 turn) a b → c ≡ one_more b → HasCause (nat_lt 0 (turn + 1)) a c
turn_refused turn a b c was is = cause_behind (nat_lt 0 (turn + 1)) a b c (no_failure (nat_lt 0 turn) a b was) (one_refused (nat_lt 0 (turn + 1)) b c is)

-- and then once more, with this end
pub turns_end : (turn : ℕ) (failed : Bool) (a b c : ℕ) → HasCause (nat_lt 0 turn) a b → HasCause failed b c → HasCause failed a c
turns_end turn failed a b c was is = cause_behind failed a b c (no_failure (nat_lt 0 turn) a b was) is

-- a write of some bytes that wrote none of them
pub short_refused : (k n : ℕ) (failed : Bool) (a b : ℕ) → k ≡ 0 → 0 < n → HasCause (is_unfilled {E = FolderFault} (Ok k) n) a b → HasCause failed a b
short_refused k n failed a b none some is =
    let short : is_unfilled {E = FolderFault} (Ok k) n ≡ true = unfilled k n none some in
    record { no_less = is.no_less; rose = λ e. is.rose short }
  where
    unfilled : (k n : ℕ) → k ≡ 0 → 0 < n → is_unfilled {E = FolderFault} (Ok k) n ≡ true
    unfilled k n none some =
        let full : (n == 0) ≡ false = grind (arith, nat_tests) in
        subst (λ (i : ℕ). is_unfilled {E = FolderFault} (Ok i) n ≡ true) (sym none) (ap (λ (t : Bool). not t) full)

pub unfilled_refused : (answer : Result ℕ FolderFault) (n : ℕ) (a b : ℕ) → b ≡ unfilled_by answer n a → HasCause (is_unfilled answer n) a b
unfilled_refused answer n a b = by (is_unfilled answer n)
  where
    by : (t : Bool) → b ≡ (if t then one_more a else a) → HasCause t a b
    by true is = one_refused true a b is
    by false is = subst (λ (c : ℕ). HasCause false a c) (sym is) (none_refused a)

-- a sync that was refused is what was lost
pub lost_same : (e : FolderFault) (lost now : Bool) → lost ≡ false → now ≡ lost_by {T = Unit} (Err e) lost → now ≡ is_lost_by e
lost_same NotFound lost now good is = is ∙ good
lost_same Interrupted lost now good is = is
lost_same Refused lost now good is = is
lost_same Failed lost now good is = is ∙ good
lost_same NoMemory lost now good is = is ∙ good

-- a file that was found is there
pub found_there : (first now : Names) (numbers : List ℕ) (i : ℕ) → i < length numbers → AreAll numbers first → Still first now → (now (get_or numbers i 0)).file.seen ≢ None
found_there first now numbers i below all still =
    let m : ℕ = get_or numbers i 0 in
    subst (λ (n : Name). n.file.seen ≢ None) (sym (still m)) (all.there m (list_any_at (nat_eq m) numbers i 0 below (eq-eqb m m refl)))
