-- The files of a disk in memory, settled one by one.
use Rattle.std.proofs.Common.{◌≡◌, ◌≢◌, inl, inr, ℕ, ◌-◌, ◌^◌, false, List, [], ◌∷◌, ◌++◌, length, nat_eq, Option, Some, None, refl, sym, ◌∙◌, ap, subst, arith}
use Rattle.std.proofs.lemmas.Bool.{cases_eq}
use Rattle.std.proofs.lemmas.Bool.Decides.{nat_tests}
use Rattle.std.specs.Ordering.{nat_cmp}
use Rattle.std.specs.Option.{is_some}
use Rattle.std.specs.List.{list_any}
use Rattle.std.specs.BTreeMap.{BTreeMap, get}
use Rattle.rdf_disk.specs.declared.fault.Tear.{Tear}
use Rattle.rdf_disk.specs.declared.fault.Tear.TheVariants.{Lose, Keep, Mix}
use Rattle.rdf_disk.specs.MemoryChanges.{Change, Told, quiet, left_by, done, IsTold}
use Rattle.rdf_disk.specs.MemoryFiles.{told_if, told_at, AreListed, TellsOf}
use Rattle.rdf_disk.specs.declared.memory_entry.Entry.{Entry}

told_if_is : (o : Option Entry) → IsTold (told_if o)
told_if_is None = record { done = refl; begins = tt }
told_if_is (Some e) = e.sound.told

pub told_at_is : (files : BTreeMap ℕ Entry) (n : ℕ) → IsTold (told_at files n)
told_at_is files n = told_if_is (get nat_cmp files n)

pub left_quiet : (tear : Tear) (x : Option (List ℕ)) → left_by tear (quiet x) ≡ x
left_quiet Lose x = refl
left_quiet Keep x = refl
left_quiet Mix x = refl

-- a file without changes is what any stop leaves of it
still_parts : (tear : Tear) (cs : List Change) (seen safe : Option (List ℕ)) → seen ≡ done cs safe → length cs ≡ 0 → let t : Told = record { seen = seen; safe = safe; changes = cs } in t ≡ quiet (left_by tear t)
still_parts Lose [] seen safe is none = ap (λ (x : Option (List ℕ)). record { seen = x; safe = safe; changes = [] }) is
still_parts Keep [] seen safe is none = ap (λ (x : Option (List ℕ)). record { seen = x; safe = safe; changes = [] }) is
still_parts Mix [] seen safe is none = ap (λ (x : Option (List ℕ)). record { seen = x; safe = safe; changes = [] }) is
still_parts tear (c ∷ cs) seen safe is none = absurd (omega arith)

pub still : (tear : Tear) (t : Told) → IsTold t → length t.changes ≡ 0 → t ≡ quiet (left_by tear t)
still tear t is none = still_parts tear t.changes t.seen t.safe is.done none

any_push : (n x : ℕ) (xs : List ℕ) → list_any (nat_eq n) xs ≡ false → n ≢ x → list_any (nat_eq n) (xs ++ x ∷ []) ≡ false
any_push n x [] not other = grind (arith, nat_tests)
any_push n x (y ∷ xs) not other = let rest = any_push n x xs in grind (arith, nat_tests)

-- what was settled so far, and what each file is to become
pub record IsSettling (tear : Tear) (start now : BTreeMap ℕ Entry) (numbers : List ℕ) : Type 0 where
  pub settled : (n : ℕ) → list_any (nat_eq n) numbers ≡ false → told_at now n ≡ quiet (left_by tear (told_at start n))
  pub left : (n : ℕ) → left_by tear (told_at now n) ≡ left_by tear (told_at start n)
  pub none : is_some (get nat_cmp start (2 ^ 32 - 1)) ≡ false → is_some (get nat_cmp now (2 ^ 32 - 1)) ≡ false

pub settling_start : (tear : Tear) (files : BTreeMap ℕ Entry) (numbers : List ℕ) → AreListed files numbers → IsSettling tear files files numbers
settling_start tear files numbers listed = record {
  settled = λ n not. still tear (told_at files n) (told_at_is files n) (listed n not);
  left = λ n. refl;
  none = λ is. is;
}

pub settling_step : (tear : Tear) (start old new : BTreeMap ℕ Entry) (all rest : List ℕ) (file : ℕ) → all ≡ rest ++ file ∷ [] → IsSettling tear start old all → TellsOf file (told_at old) (told_at new) (quiet (left_by tear (told_at old file)))
    → (is_some (get nat_cmp old (2 ^ 32 - 1)) ≡ false → is_some (get nat_cmp new (2 ^ 32 - 1)) ≡ false) → IsSettling tear start new rest
settling_step tear start old new all rest file split s tells none = record {
  settled = λ n not. elim (cases_eq n file) [
    | inl same ↦ subst (λ (m : ℕ). told_at new m ≡ quiet (left_by tear (told_at start m))) (sym same) (tells.this ∙ ap (λ (x : Option (List ℕ)). quiet x) (s.left file))
    | inr other ↦ tells.others n other ∙ s.settled n (subst (λ (l : List ℕ). list_any (nat_eq n) l ≡ false) (sym split) (any_push n file rest not other))
  ];
  left = λ n. elim (cases_eq n file) [
    | inl same ↦ subst (λ (m : ℕ). left_by tear (told_at new m) ≡ left_by tear (told_at start m)) (sym same) (ap (λ (t : Told). left_by tear t) tells.this ∙ left_quiet tear (left_by tear (told_at old file)) ∙ s.left file)
    | inr other ↦ ap (λ (t : Told). left_by tear t) (tells.others n other) ∙ s.left n
  ];
  none = λ is. none (s.none is);
}

-- with all changes done a file is what a read gives
pub kept_is_seen : (old new : BTreeMap ℕ Entry) → ((n : ℕ) → told_at new n ≡ quiet (left_by Keep (told_at old n))) → (n : ℕ) → told_at new n ≡ quiet (told_at old n).seen
kept_is_seen old new kept n = kept n ∙ ap (λ (x : Option (List ℕ)). quiet x) (sym (told_at_is old n).done)
