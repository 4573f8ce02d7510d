-- Files made durable one by one.
use Rattle.std.proofs.Common.{◌||◌, ◌≡◌, ◌≢◌, inl, inr, ℕ, ◌+◌, ◌<◌, true, false, List, length, nat_eq, take, get_or, Option, Some, None, refl, sym, ◌∙◌, ap, subst, arith}
use Rattle.std.proofs.lemmas.Bool.{cases_eq, or_cases}
use Rattle.std.proofs.lemmas.Bool.Decides.{nat_tests}
use Rattle.std.proofs.lemmas.List.Folds.{list_any_more}
use Rattle.std.specs.List.{list_any}
use Rattle.rdf_disk.specs.Calls.{Same}
use Rattle.folder_disk.specs.Names.{Names, Name, ChangesName, flushed, is_dirty, dirty_if}
use Rattle.folder_disk.specs.Tracked.{AreFlushed, files_of}

-- what was made durable so far; a read gives what it gave
pub record IsFlushing (first now : Names) (numbers : List ℕ) : Type 0 where
  pub files : Same (files_of first) (files_of now)
  pub flushed : AreFlushed now numbers

dirty_none : (x : Option (List ℕ)) → dirty_if x false ≡ false
dirty_none None = refl
dirty_none (Some bytes) = refl

pub flushing_start : (first : Names) (numbers : List ℕ) → IsFlushing first first (take 0 numbers)
flushing_start first numbers = record { files = λ m. refl; flushed = λ m is. cc }

clean_flushed : (n : Name) → is_dirty (flushed n) ≡ false
clean_flushed n = dirty_none n.file.seen

pub flushing_step : (first old new : Names) (numbers : List ℕ) (i : ℕ) → i < length numbers → IsFlushing first old (take i numbers) → ChangesName (get_or numbers i 0) old new (flushed (old (get_or numbers i 0))) → IsFlushing first new (take (i + 1) numbers)
flushing_step first old new numbers i below was did =
    let file : ℕ = get_or numbers i 0 in
    record {
      files = λ m. elim (cases_eq m file) [
        | inl same ↦ subst (λ (k : ℕ). (new k).file ≡ (first k).file) (sym same) (ap (λ (n : Name). n.file) did.this ∙ was.files file)
        | inr other ↦ ap (λ (n : Name). n.file) (did.others m other) ∙ was.files m
      ];
      flushed = λ m is. elim (cases_eq m file) [
        | inl same ↦ subst (λ (k : ℕ). is_dirty (new k) ≡ false) (sym same) (ap is_dirty did.this ∙ clean_flushed (old file))
        | inr other ↦ ap is_dirty (did.others m other) ∙ was.flushed m (before m other is)
      ];
    }
  where
    before : (m : ℕ) → m ≢ get_or numbers i 0 → list_any (nat_eq m) (take (i + 1) numbers) ≡ true → list_any (nat_eq m) (take i numbers) ≡ true
    before m other is =
        let more : list_any (nat_eq m) (take (i + 1) numbers) ≡ (list_any (nat_eq m) (take i numbers) || nat_eq m (get_or numbers i 0)) = list_any_more (nat_eq m) numbers i 0 below in
        elim (or_cases (list_any (nat_eq m) (take i numbers)) (nat_eq m (get_or numbers i 0)) (sym more ∙ is)) [
          | inl was ↦ was
          | inr same ↦ grind (arith, nat_tests)
        ]
