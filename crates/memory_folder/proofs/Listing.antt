-- The numbers of the files that are there.
use Rattle.std.proofs.Common.{◌≡◌, ◌≢◌, inl, inr, ◌||◌, ℕ, ◌+◌, ◌<◌, ◌≤◌, ◌++◌, Bool, true, false, nat_eq, length, List, [], ◌∷◌, None, sym, ◌∙◌, ap, subst, arith}
use Rattle.std.proofs.lemmas.Bool.{cases_eq, cases_lt, or_cases, or_parts}
use Rattle.std.proofs.Math.Bool.{or-false}
use Rattle.std.proofs.lemmas.Bool.Decides.{nat_tests}
use Rattle.std.proofs.lemmas.List.Folds.{list_any-append}
use Rattle.std.specs.List.{list_any}
use Rattle.folder_disk.specs.Names.{Name, Names, AreAll}
use Rattle.memory_folder.specs.Fakes.{IsNoted, name_at, none_past}
use Rattle.memory_folder.specs.declared.row.Row.{Row}

-- the files below a number are noted
pub record AreNoted (names : Names) (place : ℕ) (numbers : List ℕ) : Type 0 where
  pub there : (m : ℕ) → list_any (nat_eq m) numbers ≡ true → (m < place) × ((names m).file.seen ≢ None)
  pub all : (m : ℕ) → m < place → list_any (nat_eq m) numbers ≡ false → (names m).file.seen ≡ None

pub noted_start : (names : Names) → AreNoted names 0 []
noted_start names = record { there = λ m is. cc; all = λ m below. absurd (omega (arith, below)) }

one_more : (m place : ℕ) (numbers : List ℕ) → list_any (nat_eq m) (numbers ++ place ∷ []) ≡ (list_any (nat_eq m) numbers || nat_eq m place)
one_more m place numbers = list_any-append (nat_eq m) numbers (place ∷ []) ∙ ap (λ (b : Bool). list_any (nat_eq m) numbers || b) (or-false (nat_eq m place))

pub noted_step : (names : Names) (place : ℕ) (old new : List ℕ) → AreNoted names place old → IsNoted names place old new → AreNoted names (place + 1) new
noted_step names place old new was (inl (here, is)) = record {
  there = λ m any. elim (or_cases (list_any (nat_eq m) old) (nat_eq m place) (sym (one_more m place old) ∙ ap (λ (l : List ℕ). list_any (nat_eq m) l) (sym is) ∙ any)) [
    | inl among ↦ let h = was.there m among in (omega (arith, h.0), h.1)
    | inr same ↦ let e : m ≡ place = grind (arith, nat_tests) in (omega (arith, e), subst (λ (k : ℕ). (names k).file.seen ≢ None) (sym e) here)
  ];
  all = λ m below none.
      let both = or_parts (list_any (nat_eq m) old) (nat_eq m place) (sym (one_more m place old) ∙ ap (λ (l : List ℕ). list_any (nat_eq m) l) (sym is) ∙ none) in
      let other : m ≢ place = grind (arith, nat_tests) in
      was.all m (omega (arith, below, other)) both.0;
}
noted_step names place old new was (inr (gone, is)) = record {
  there = λ m any. let h = was.there m (ap (λ (l : List ℕ). list_any (nat_eq m) l) (sym is) ∙ any) in (omega (arith, h.0), h.1);
  all = λ m below none. elim (cases_eq m place) [
    | inl same ↦ subst (λ (k : ℕ). (names k).file.seen ≡ None) (sym same) gone
    | inr other ↦ was.all m (omega (arith, below, other)) (ap (λ (l : List ℕ). list_any (nat_eq m) l) (sym is) ∙ none)
  ];
}

pub all_noted : (rows : List Row) (place : ℕ) (numbers : List ℕ) → length rows ≤ place → AreNoted (name_at rows) place numbers → AreAll numbers (name_at rows)
all_noted rows place numbers past was = record {
  there = λ m any. (was.there m any).1;
  all = λ m none. elim (cases_lt m place) [
    | inl below ↦ was.all m below none
    | inr above ↦ ap (λ (n : Name). n.file.seen) (none_past rows m (omega (arith, past, above)))
  ];
}
