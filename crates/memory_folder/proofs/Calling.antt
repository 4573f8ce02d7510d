-- What each call of a folder in memory is by the rules.
use Rattle.std.proofs.Common.{◌≡◌, ◌≢◌, ◌==◌, not, inl, inr, ℕ, ◌+◌, ◌-◌, ◌^◌, ◌<◌, ◌≤◌, min, nat_lt, zero, suc, if◌then◌else◌, Bool, true, false, List, [], ◌∷◌, length, Option, Some, None, Ok, Err, refl, sym, ◌∙◌, ap, subst, arith}
use Rattle.std.proofs.lemmas.Bool.{cases_eq, ne_eqb}
use Rattle.std.proofs.lemmas.Bool.Decides.{nat_tests}
use Rattle.std.specs.Option.{option_map}
use Rattle.rdf_types.specs.Counts.{most}
use Rattle.folder_disk.specs.declared.fault.FolderFault.{FolderFault}
use Rattle.folder_disk.specs.declared.fault.FolderFault.TheVariants.{NotFound, Interrupted, Refused, Failed, NoMemory}
use Rattle.folder_disk.specs.Names.{Name, Names, Still, ChangesName, IsAsked, asked, filled, unmade, made, one_more, is_want, refused_for, missed_for, unfilled_by, Opens, Makes, Fills, Unmakes, FlushesTo, Enters}
use Rattle.folder_disk.specs.TornLaws.{torn_same}

-- a file that has no length isn't there
pub none_of : (x : Option (List ℕ)) → option_map length x ≡ None → x ≡ None
none_of None is = refl
none_of (Some b) is = cc

pub some_of : (x : Option (List ℕ)) (n : ℕ) → option_map length x ≡ Some n → x ≢ None
some_of None n is = cc
some_of (Some b) n is = λ e. cc

pub opens_refused : (e : FolderFault) (n : Name) → e ≢ NotFound → Opens (Err e) n
opens_refused NotFound n not = absurd (not refl)
opens_refused Interrupted n not = tt
opens_refused Refused n not = tt
opens_refused Failed n not = tt
opens_refused NoMemory n not = tt

-- the name of a file that is as it was
pub unchanged : (file : ℕ) (a b : Names) → ChangesName file a b (a file) → Still a b
unchanged file a b did m = elim (cases_eq m file) [
  | inl same ↦ ap (λ (k : ℕ). b k) same ∙ did.this ∙ ap (λ (k : ℕ). a k) (sym same)
  | inr other ↦ did.others m other
]

pub still_after : (a b c : Names) → Still a b → Still b c → Still a c
still_after a b c one two m = two m ∙ one m

pub asked_after : (file at len : ℕ) (a b c : Names) → Still a b → ChangesName file b c (asked (b file) at len) → ChangesName file a c (asked (a file) at len)
asked_after file at len a b c one two = record {
  this = two.this ∙ ap (λ (n : Name). asked n at len) (one file);
  others = λ m other. two.others m other ∙ one m;
}

pub fills_refused : (e : FolderFault) (file at : ℕ) (bytes : List ℕ) (old new : Names) → e ≢ Interrupted → ChangesName file old new (filled (old file) (old file).file.seen) → Fills (Err e) file at bytes old new
fills_refused Interrupted file at bytes old new not did = absurd (not refl)
fills_refused NotFound file at bytes old new not did = ((old file).file.seen, torn_same at (length bytes) (old file).file.seen, did)
fills_refused Refused file at bytes old new not did = ((old file).file.seen, torn_same at (length bytes) (old file).file.seen, did)
fills_refused Failed file at bytes old new not did = ((old file).file.seen, torn_same at (length bytes) (old file).file.seen, did)
fills_refused NoMemory file at bytes old new not did = ((old file).file.seen, torn_same at (length bytes) (old file).file.seen, did)

pub fills_interrupted : (e : FolderFault) (file at : ℕ) (bytes : List ℕ) (old new : Names) → e ≡ Interrupted → Still old new → Fills (Err e) file at bytes old new
fills_interrupted e file at bytes old new is still = subst (λ (f : FolderFault). Fills (Err f) file at bytes old new) (sym is) still

pub asked_less : (ws : List (ℕ × ℕ)) (at n len : ℕ) → n ≤ len → IsAsked ws at len → IsAsked ws at n
asked_less [] at n len less is = is
asked_less (w ∷ ws) at n len less is = (is.0, omega (arith, is.1, less))

pub unmakes_refused : (e : FolderFault) (file : ℕ) (old new : Names) → e ≢ NotFound → ChangesName file old new (unmade (old file) (old file).file.seen) → Unmakes (Err e) file old new
unmakes_refused NotFound file old new not did = absurd (not refl)
unmakes_refused Interrupted file old new not did = ((old file).file.seen, inl refl, did)
unmakes_refused Refused file old new not did = ((old file).file.seen, inl refl, did)
unmakes_refused Failed file old new not did = ((old file).file.seen, inl refl, did)
unmakes_refused NoMemory file old new not did = ((old file).file.seen, inl refl, did)

pub flushes_refused : (lost : Bool) (e : FolderFault) (file : ℕ) (is : Name) (old new : Names) → Still old new → FlushesTo lost (Err e) file is old new
flushes_refused true e file is old new still = still
flushes_refused false e file is old new still = still

pub enters_refused : (lost : Bool) (e : FolderFault) (old new : Names) → Still old new → Enters lost (Err e) old new
enters_refused true e old new still = still
enters_refused false e old new still = still

pub flushes_lost : (lost : Bool) (file : ℕ) (is : Name) (old new : Names) → lost ≡ true → Still old new → FlushesTo lost (Ok tt) file is old new
flushes_lost true file is old new on still = still
flushes_lost false file is old new on still = cc

pub enters_lost : (lost : Bool) (old new : Names) → lost ≡ true → Still old new → Enters lost (Ok tt) old new
enters_lost true old new is still = still
enters_lost false old new is still = cc

pub enters_done : (lost : Bool) (old new : Names) → lost ≡ false → ((m : ℕ) → new m ≡ record (old m) { moved = false }) → Enters lost (Ok tt) old new
enters_done false old new is done = done
enters_done true old new is done = cc

-- a making that was refused
pub not_made : (e : FolderFault) (file : ℕ) (old new : Names) → Still old new → Makes (Err e) file old new
not_made e file old new still = inl still

pub made_though : (e : FolderFault) (file : ℕ) (old new : Names) → ChangesName file old new (made (old file)) → Makes (Err e) file old new
made_though e file old new did = inr did

-- a count that stays at its end
pub counted : (n m : ℕ) → n < 2 ^ 64 → m ≡ min (n + 1) (2 ^ 64 - 1) → m ≡ one_more n
counted n m fits is = is ∙ (elim (nat_lt n most) as (λ t. nat_lt n most ≡ t → min (n + 1) (2 ^ 64 - 1) ≡ (if t then n + 1 else n)) [
  | true ↦ λ t. let below : n < most = grind (arith, nat_tests, t) in omega (arith, below)
  | false ↦ λ t. let high : most ≤ n = grind (arith, nat_tests, t) in omega (arith, high, fits)
] refl)

-- a call that is refused
pub refused_so : (e : FolderFault) (n : ℕ) → is_want e ≡ false → one_more n ≡ refused_for e n
refused_so NotFound n not = refl
refused_so Interrupted n not = refl
refused_so Refused n not = refl
refused_so Failed n not = refl
refused_so NoMemory n not = cc

-- one that looks for a file, and is refused
pub missed_so : (e : FolderFault) (n : ℕ) → e ≢ NotFound → is_want e ≡ false → one_more n ≡ missed_for e n
missed_so NotFound n there not = absurd (there refl)
missed_so Interrupted n there not = refl
missed_so Refused n there not = refl
missed_so Failed n there not = refl
missed_so NoMemory n there not = cc

-- a piece of a write that has some bytes is no refusal
pub filled_so : (k n piece m : ℕ) → k ≡ min n piece → 0 < piece → m ≡ unfilled_by (Ok k) n m
filled_so zero n piece m is some =
    let none : n ≡ 0 = omega (arith, is, some) in
    subst (λ (i : ℕ). m ≡ unfilled_by (Ok 0) i m) (sym none) refl
filled_so (suc k) n piece m is some = ap (λ (b : Bool). if (if b then not (n == 0) else false) then one_more m else m) (sym (ne_eqb (suc k) 0 (λ e. absurd (omega arith))))
