-- A removal that was asked for, as the calls of a disk have it.
use Rattle.std.proofs.lemmas.Bool.Decides.{nat_tests}
use Rattle.std.proofs.lemmas.Map.Views.{any-filter_same}
use Rattle.std.proofs.Common.{◌≡◌, ◌≢◌, ◌⊎◌, ◌==◌, inl, inr, ℕ, ◌-◌, ◌^◌, Bool, true, false, not, List, filter, nat_eq, Option, Some, None, Ok, Err, refl, sym, ◌∙◌, ap, subst, arith}
use Rattle.std.proofs.lemmas.Bool.{cases_eq}
use Rattle.std.specs.List.{list_any}
use Rattle.rdf_disk.specs.declared.fault.DiskFault.TheVariants.{Failed as DiskFailed}
use Rattle.rdf_disk.specs.Files.{Disk, FileState, ChangesFile, settled, gone}
use Rattle.rdf_disk.specs.Calls.{Removes}
use Rattle.folder_disk.specs.Names.{Names, Name, ChangesName, Still, asked_away, unmade, is_dirty, dirty_if}
use Rattle.folder_disk.specs.Tracked.{files_of, reseen, AreListed, IsUnlinked}

pub unlinked_done : (file : ℕ) (old new : Names) → ChangesName file old new (unmade (old file) None) → IsUnlinked file old new
unlinked_done file old new did = record { this = ap (λ (n : Name). n.file) did.this; others = did.others }

pub unlinked_none : (file : ℕ) (old new : Names) → (old file).file.seen ≡ None → Still old new → IsUnlinked file old new
unlinked_none file old new none still = record {
  this = ap (λ (n : Name). n.file) (still file) ∙ ap (λ (x : Option (List ℕ)). reseen (old file).file x) none;
  others = λ m other. still m;
}

-- the list of files that wait for a sync goes on to be one
pub listed_unlinked : (file : ℕ) (old new : Names) (numbers fewer : List ℕ) → AreListed old numbers → IsUnlinked file old new → ((m : ℕ) → m ≢ file → list_any (nat_eq m) fewer ≡ list_any (nat_eq m) numbers) → AreListed new fewer
listed_unlinked file old new numbers fewer listed did kept m not = elim (cases_eq m file) [
  | inl same ↦ subst (λ (k : ℕ). is_dirty (new k) ≡ false) (sym same) (ap (λ (f : FileState). dirty_if f.seen (new file).dirty) did.this)
  | inr other ↦ ap is_dirty (did.others m other) ∙ listed m (sym (kept m other) ∙ not)
]

pub gone_still : (file : ℕ) (d : Disk) → (x : Option (List ℕ)) × ((x ≡ (d file).seen) ⊎ (x ≡ None)) × ChangesFile file d d (reseen (d file) x)
gone_still file d = ((d file).seen, inl refl, record { this = refl; others = λ m other. refl })

pub gone_unlinked : (file : ℕ) (old new : Names) → IsUnlinked file old new → ChangesFile file (files_of old) (files_of new) (reseen (files_of old file) None)
gone_unlinked file old new did = record { this = did.this; others = λ m other. ap (λ (n : Name). n.file) (did.others m other) }

none_of : (x y : Option (List ℕ)) → y ≡ None → ((x ≡ y) ⊎ (x ≡ None)) → x ≡ None
none_of x y is (inl same) = same ∙ is
none_of x y is (inr none) = none

-- a file that is removed, or seems to be, by its parts
gone_parts : (seen x safe : Option (List ℕ)) (writes : List (ℕ × ℕ)) (removed : Bool) → ((x ≡ seen) ⊎ (x ≡ None)) →
    let f : FileState = record { seen = seen; safe = safe; writes = writes; removed = removed } in reseen (gone f seen) x ≡ gone f x
gone_parts None x safe writes removed one = ap (λ (y : Option (List ℕ)). record { seen = y; safe = safe; writes = writes; removed = removed }) (none_of x None refl one)
gone_parts (Some bytes) x safe writes removed one = refl

gone_seen : (f : FileState) (x : Option (List ℕ)) → ((x ≡ f.seen) ⊎ (x ≡ None)) → reseen (gone f f.seen) x ≡ gone f x
gone_seen f x one = gone_parts f.seen x f.safe f.writes f.removed one

gone_keeps : (f : FileState) → (gone f f.seen).seen ≡ f.seen
gone_keeps f = keeps f.seen f.safe f.writes f.removed
  where
    keeps : (seen safe : Option (List ℕ)) (writes : List (ℕ × ℕ)) (removed : Bool) → (gone (record { seen = seen; safe = safe; writes = writes; removed = removed }) seen).seen ≡ seen
    keeps None safe writes removed = refl
    keeps (Some bytes) safe writes removed = refl

module _ (file : ℕ) (old mid new : Names) (ask : ChangesName file old mid (asked_away (old file))) where
  same : (mid file).file ≡ gone (old file).file (old file).file.seen
  same = ap (λ (n : Name). n.file) ask.this

  changes : (x : Option (List ℕ)) → ((x ≡ (old file).file.seen) ⊎ (x ≡ None)) → ChangesFile file (files_of mid) (files_of new) (reseen (files_of mid file) x) → ChangesFile file (files_of old) (files_of new) (gone (files_of old file) x)
  changes x one did = record {
    this = did.this ∙ ap (λ (f : FileState). reseen f x) same ∙ gone_seen (old file).file x one;
    others = λ m other. did.others m other ∙ ap (λ (n : Name). n.file) (ask.others m other);
  }

  pub removes_ok : ChangesFile file (files_of mid) (files_of new) (reseen (files_of mid file) None) → Removes {T = Unit} file (Ok tt) (files_of old) (files_of new)
  removes_ok did = changes None (inr refl) did

  pub removes_failed : (x : Option (List ℕ)) × ((x ≡ (files_of mid file).seen) ⊎ (x ≡ None)) × ChangesFile file (files_of mid) (files_of new) (reseen (files_of mid file) x) → Removes {T = Unit} file (Err DiskFailed) (files_of old) (files_of new)
  removes_failed (x, one, did) =
      let was : (x ≡ (old file).file.seen) ⊎ (x ≡ None) = elim one [
        | inl here ↦ inl (here ∙ ap (λ (f : FileState). f.seen) same ∙ gone_keeps (old file).file)
        | inr none ↦ inr none
      ] in
      (x, was, changes x was did)

pub removes_none : (file : ℕ) (d : Disk) → file ≡ 2 ^ 32 - 1 → d (2 ^ 32 - 1) ≡ settled None → Removes {T = Unit} file (Ok tt) d d
removes_none file d is none =
    let here : d file ≡ settled None = ap (λ (m : ℕ). d m) is ∙ none in
    record { this = subst (λ (f : FileState). f ≡ gone f None) (sym here) refl; others = λ m other. refl }

-- of a number that is taken out of a list none is left, and of each other all
pub none_left : (n : ℕ) (xs ys : List ℕ) → ys ≡ filter (λ k. not (k == n)) xs → list_any (nat_eq n) ys ≡ false
none_left n xs ys is = ap (λ (l : List ℕ). list_any (nat_eq n) l) is ∙ any-filter_same (nat_eq n) (λ k. not (k == n)) false out xs
  where
    out : (k : ℕ) → nat_eq n k ≡ true → not (k == n) ≡ false
    out k e = let same : (k == n) ≡ true = grind (arith, nat_tests, e) in ap not same

pub others_left : (m n : ℕ) (xs ys : List ℕ) → m ≢ n → ys ≡ filter (λ k. not (k == n)) xs → list_any (nat_eq m) ys ≡ list_any (nat_eq m) xs
others_left m n xs ys other is = ap (λ (l : List ℕ). list_any (nat_eq m) l) is ∙ any-filter_same (nat_eq m) (λ k. not (k == n)) true stays xs
  where
    stays : (k : ℕ) → nat_eq m k ≡ true → not (k == n) ≡ true
    stays k e = let differs : (k == n) ≡ false = grind (arith, nat_tests, e, other) in ap not differs
