-- Which files a sync of their data alone makes durable.
use Rattle.std.proofs.Common.{◌≡◌, ◌≢◌, inl, inr, ℕ, ◌+◌, ◌≤◌, Bool, true, false, true≢false, if◌then◌else◌, List, length, nat_eq, take, Option, Some, None, Result, Ok, Err, refl, sym, ◌∙◌, ap, subst, arith}
use Rattle.std.proofs.lemmas.Bool.{cases_eq}
use Rattle.std.proofs.lemmas.List.{length-take}
use Rattle.std.proofs.lemmas.Option.{none-some}
use Rattle.std.specs.List.{list_any}
use Rattle.rdf_disk.specs.Files.{bytes_of, patched, IsTornFile}
use Rattle.rdf_disk.specs.OutcomeLaws.{length-patched}
use Rattle.folder_disk.specs.declared.fault.FolderFault.{FolderFault}
use Rattle.folder_disk.specs.declared.fault.FolderFault.TheVariants.{NotFound, Interrupted, Refused, Failed, NoMemory}
use Rattle.folder_disk.specs.Names.{Name, Names, Still, ChangesName, is_as_long, is_steady, is_dirty, flushed, flushed_if, entered, rested, rested_if, asked, asked_away, filled, Flushes, FlushesData, FlushesTo, Fills, Makes}
use Rattle.folder_disk.specs.SteadyLaws.{long_self}
use Rattle.folder_disk.specs.Tracked.{AreIn, AreListed, AreFlushed, AreSteady, Reaches, IsNoted, IsUnlinked, MayBeGone}

-- a file that is steady is made durable by its data alone
pub data_flushes : (lost : Bool) (r : Result Unit FolderFault) (file : ℕ) (old new : Names) → is_steady (old file) ≡ true → FlushesData lost r file old new → Flushes lost r file old new
data_flushes lost r file old new steady did = subst (λ (n : Name). FlushesTo lost r file n old new) (ap (λ (b : Bool). flushed_if b (old file)) steady) did

pub steady_still : (old new : Names) (numbers : List ℕ) → Still old new → AreSteady old numbers → AreSteady new numbers
steady_still old new numbers still was m out = ap is_steady (still m) ∙ was m out

-- one file changed, and its number is among those, or it is still steady
pub steady_changed : (file : ℕ) (old new : Names) (is : Name) (numbers : List ℕ) → ChangesName file old new is → (list_any (nat_eq file) numbers ≡ false → is_steady is ≡ true) → AreSteady old numbers → AreSteady new numbers
steady_changed file old new is numbers did so was m out = elim (cases_eq m file) [
  | inl same ↦ subst (λ (k : ℕ). is_steady (new k) ≡ true) (sym same) (ap is_steady did.this ∙ so (subst (λ (k : ℕ). list_any (nat_eq k) numbers ≡ false) same out))
  | inr other ↦ ap is_steady (did.others m other) ∙ was m out
]

pub steady_flushed : (file : ℕ) (old new : Names) (numbers : List ℕ) → ChangesName file old new (flushed (old file)) → AreSteady old numbers → AreSteady new numbers
steady_flushed file old new numbers did was = steady_changed file old new (flushed (old file)) numbers did (λ out. was file out) was

pub steady_asked : (file at len : ℕ) (old new : Names) (numbers : List ℕ) → ChangesName file old new (asked (old file) at len) → AreSteady old numbers → AreSteady new numbers
steady_asked file at len old new numbers did was = steady_changed file old new (asked (old file) at len) numbers did (λ out. was file out) was

-- a change of a file whose number is among those, whatever it does
steady_others : (file : ℕ) (old new : Names) (numbers : List ℕ) → list_any (nat_eq file) numbers ≡ true → ((m : ℕ) → m ≢ file → new m ≡ old m) → AreSteady old numbers → AreSteady new numbers
steady_others file old new numbers among others was m out = elim (cases_eq m file) [
  | inl same ↦ absurd (true≢false (sym among ∙ subst (λ (k : ℕ). list_any (nat_eq k) numbers ≡ false) same out))
  | inr other ↦ ap is_steady (others m other) ∙ was m out
]

pub steady_asked_away : (file : ℕ) (old new : Names) (numbers : List ℕ) → list_any (nat_eq file) numbers ≡ true → ChangesName file old new (asked_away (old file)) → AreSteady old numbers → AreSteady new numbers
steady_asked_away file old new numbers among did was = steady_others file old new numbers among did.others was

pub steady_unlinked : (file : ℕ) (old new : Names) (numbers : List ℕ) → list_any (nat_eq file) numbers ≡ true → IsUnlinked file old new → AreSteady old numbers → AreSteady new numbers
steady_unlinked file old new numbers among did was = steady_others file old new numbers among did.others was

pub steady_gone : (file : ℕ) (old new : Names) (numbers : List ℕ) → list_any (nat_eq file) numbers ≡ true → MayBeGone file old new → AreSteady old numbers → AreSteady new numbers
steady_gone file old new numbers among did was = steady_others file old new numbers among did.others was

pub steady_made : (r : Result Unit FolderFault) (file : ℕ) (old new : Names) (numbers : List ℕ) → list_any (nat_eq file) numbers ≡ true → Makes r file old new → AreSteady old numbers → AreSteady new numbers
steady_made (Ok x) file old new numbers among did was = steady_others file old new numbers among did.others was
steady_made (Err e) file old new numbers among did was = elim did [
  | inl still ↦ steady_still old new numbers still was
  | inr made ↦ steady_others file old new numbers among made.others was
]

-- a list that goes on to have them
pub steady_more : (names : Names) (numbers more : List ℕ) → AreIn numbers more → AreSteady names numbers → AreSteady names more
steady_more names numbers more kept was m out = was m (below (list_any (nat_eq m) numbers) refl)
  where
    below : (b : Bool) → list_any (nat_eq m) numbers ≡ b → list_any (nat_eq m) numbers ≡ false
    below false is = is
    below true is = absurd (true≢false (sym (kept m is) ∙ out))

-- a write within a file leaves it as long
long_torn : (at n : ℕ) (seen x safe : Option (List ℕ)) → Reaches seen (at + n) → IsTornFile at n seen x → is_as_long seen safe ≡ true → is_as_long x safe ≡ true
long_torn at n None x safe reach torn long = absurd reach
long_torn at n (Some b) None safe reach torn long = absurd (none-some b (sym torn))
long_torn at n (Some b) (Some c) None reach torn long = long
long_torn at n (Some b) (Some c) (Some s) reach torn long =
    let same : length c ≡ length b = omega (arith, reach, torn.no_shorter, torn.no_longer) in
    ap (λ (k : ℕ). nat_eq k (length s)) same ∙ long

long_filled : (at : ℕ) (part bytes : List ℕ) (seen safe : Option (List ℕ)) → length part ≤ length bytes → Reaches seen (at + length bytes) → is_as_long seen safe ≡ true → is_as_long (Some (patched (bytes_of seen) at part)) safe ≡ true
long_filled at part bytes None safe less reach long = absurd reach
long_filled at part bytes (Some b) None less reach long = long
long_filled at part bytes (Some b) (Some s) less reach long =
    let within : at ≤ length b = omega (arith, reach) in
    let same : length (patched b at part) ≡ length b = omega (arith, reach, less, length-patched b at (length part) within part refl) in
    ap (λ (k : ℕ). nat_eq k (length s)) same ∙ long

steady_parts : (moved removed long now : Bool) → (long ≡ true → now ≡ true) → (if moved then false else (if removed then false else long)) ≡ true → (if moved then false else (if removed then false else now)) ≡ true
steady_parts true removed long now so is = is
steady_parts false true long now so is = is
steady_parts false false long now so is = so is

module _ (file at : ℕ) (bytes : List ℕ) (old new : Names) (numbers : List ℕ) (noted : IsNoted numbers file (old file).file.seen (at + length bytes)) (was : AreSteady old numbers) where
  changed : (x : Option (List ℕ)) → (Reaches (old file).file.seen (at + length bytes) → is_as_long (old file).file.seen (old file).file.safe ≡ true → is_as_long x (old file).file.safe ≡ true) → ChangesName file old new (filled (old file) x) → AreSteady new numbers
  changed x long did = steady_changed file old new (filled (old file) x) numbers did
      (λ out. steady_parts (old file).moved (old file).file.removed (is_as_long (old file).file.seen (old file).file.safe) (is_as_long x (old file).file.safe) (long (noted out)) (was file out))
      was

  torn : (x : Option (List ℕ)) → IsTornFile at (length bytes) (old file).file.seen x → ChangesName file old new (filled (old file) x) → AreSteady new numbers
  torn x is did = changed x (λ reach. long_torn at (length bytes) (old file).file.seen x (old file).file.safe reach is) did

  pub steady_filled : (r : Result ℕ FolderFault) → Fills r file at bytes old new → AreSteady new numbers
  steady_filled (Ok k) (less, did) = changed (Some (patched (bytes_of (old file).file.seen) at (take k bytes))) (λ reach. long_filled at (take k bytes) bytes (old file).file.seen (old file).file.safe (omega (arith, less, length-take k bytes)) reach) did
  steady_filled (Err NotFound) (x, is, did) = torn x is did
  steady_filled (Err Interrupted) still = steady_still old new numbers still was
  steady_filled (Err Refused) (x, is, did) = torn x is did
  steady_filled (Err Failed) (x, is, did) = torn x is did
  steady_filled (Err NoMemory) (x, is, did) = torn x is did

-- what is noted of a file stays so
pub noted_still : (file end : ℕ) (numbers same : List ℕ) (a b : Names) → same ≡ numbers → Still a b → IsNoted numbers file (a file).file.seen end → IsNoted same file (b file).file.seen end
noted_still file end numbers same a b is still noted out =
    subst (λ (n : Name). Reaches n.file.seen end) (sym (still file)) (noted (ap (λ (l : List ℕ). list_any (nat_eq file) l) (sym is) ∙ out))

-- once nothing of a file waits for a sync it is steady
rested_steady : (n : Name) → is_dirty n ≡ false → is_steady (rested (entered n)) ≡ true
rested_steady n is = subst (λ (b : Bool). is_steady (rested_if (if b then false else true) (entered n)) ≡ true) (sym is) (long_self n.file.seen)

entered_steady : (n : Name) → is_steady n ≡ true → is_steady (entered n) ≡ true
entered_steady n is = entered_parts n.moved n.file.removed (is_as_long n.file.seen n.file.safe) is
  where
    entered_parts : (moved removed long : Bool) → (if moved then false else (if removed then false else long)) ≡ true → (if removed then false else long) ≡ true
    entered_parts true removed long is = absurd (true≢false (sym is))
    entered_parts false removed long is = is

pub steady_entered : (old new : Names) (numbers : List ℕ) → ((m : ℕ) → new m ≡ entered (old m)) → AreSteady old numbers → AreSteady new numbers
steady_entered old new numbers did was m out = ap is_steady (did m) ∙ entered_steady (old m) (was m out)

pub steady_rested : (a b c : Names) (written numbers : List ℕ) → AreListed a written → AreFlushed a written → ((m : ℕ) → b m ≡ entered (a m)) → ((m : ℕ) → c m ≡ rested (b m)) → AreSteady c numbers
steady_rested a b c written numbers listed flushed entered_so rested_so m out =
    ap is_steady (rested_so m ∙ ap rested (entered_so m)) ∙ rested_steady (a m) (clean (list_any (nat_eq m) written) refl)
  where
    clean : (t : Bool) → list_any (nat_eq m) written ≡ t → is_dirty (a m) ≡ false
    clean true is = flushed m is
    clean false is = listed m is
