-- The lowest and the highest number of a file that is there, by the entries that a loop has still to see.
use Rattle.std.proofs.Common.{◌≡◌, ◌≢◌, inl, inr, ℕ, ◌<◌, true, false, List, [], ◌∷◌, ◌++◌, length, Option, Some, None, refl, sym, ◌∙◌, ap, subst, arith}
use Rattle.std.proofs.lemmas.Bool.{cases_eq, cases_Bool}
use Rattle.std.proofs.lemmas.Bool.Decides.{nat_tests}
use Rattle.std.proofs.lemmas.List.{map-append}
use Rattle.std.proofs.lemmas.List.Elements.{All-head, All-tail, All-pop}
use Rattle.std.proofs.lemmas.Option.{none-some}
use Rattle.std.proofs.lemmas.Map.Entries.{lookup_tail}
use Rattle.std.proofs.lemmas.Map.Keys.{sorted_tail}
use Rattle.std.proofs.lemmas.Map.Lookups.{exact_unsigned}
use Rattle.std.proofs.lemmas.Map.Views.{All-after_first, All-before_last}
use Rattle.std.specs.declared.cmp.Ordering.{Ordering}
use Rattle.std.specs.declared.cmp.Ordering.TheVariants.{Less, Equal, Greater}
use Rattle.std.specs.Ordering.{nat_cmp, is_eq}
use Rattle.std.specs.Option.{is_some, option_map}
use Rattle.std.specs.List.{All, AllByRecursion}
use Rattle.std.specs.List.Sorted.{IsStrictlySortedBy}
use Rattle.std.specs.Map.{lookup, keys_of}
use Rattle.std.specs.BTreeMap.{BTreeMap, get, is_at}
use Rattle.rdf_disk.specs.MemoryFiles.{told_if, told_at, IsLowest, IsHighest}
use Rattle.rdf_disk.specs.declared.memory_entry.Entry.{Entry}

-- whether a file is among the entries
abbrev has : ℕ → List (ℕ × Entry) → Type 0
has m es = is_some (lookup (is_at (nat_cmp m)) es) ≡ true

-- the entries of rest are still to be seen, in order, and each file that is there is among them
pub record IsLeft (files : BTreeMap ℕ Entry) (rest : List (ℕ × Entry)) : Type 0 where
  pub found : All (λ e. get nat_cmp files e.0 ≡ Some e.1) rest
  pub ordered : IsStrictlySortedBy nat_cmp (keys_of rest)
  pub there : (m : ℕ) → (told_at files m).seen ≢ None → is_some (lookup (is_at (nat_cmp m)) rest) ≡ true

equal_from : (o : Ordering) → is_eq o ≡ true → o ≡ Equal
equal_from Less is = cc
equal_from Equal is = refl
equal_from Greater is = cc

apart : (m n : ℕ) → m ≢ n → is_at (nat_cmp m) n ≡ false
apart m n other = elim (cases_Bool (is_at (nat_cmp m) n)) [
  | inl is ↦ absurd (other (exact_unsigned m n (equal_from (nat_cmp m n) is)))
  | inr not ↦ not
]

below : (m n : ℕ) → nat_cmp m n ≡ Less → m < n
below m n is = grind (arith, nat_tests)

-- what holds of each key holds of a file that is among the entries
of_key : (P : ℕ → Type 0) (es : List (ℕ × Entry)) (m : ℕ) → All P (keys_of es) → has m es → P m
of_key P [] m all in_it = cc
of_key P (e ∷ es) m all in_it = elim (cases_Bool (is_at (nat_cmp m) e.0)) [
  | inl is ↦ subst P (sym (exact_unsigned m e.0 (equal_from (nat_cmp m e.0) is))) (All-head P e.0 (keys_of es) all)
  | inr not ↦ of_key P es m (All-tail P e.0 (keys_of es) all) (ap (λ (o : Option Entry). is_some o) (sym (lookup_tail (is_at (nat_cmp m)) e es not)) ∙ in_it)
]

absent : (o : Option Entry) → is_some o ≡ false → (told_if o).seen ≡ None
absent None is = refl
absent (Some e) is = cc

start_there : (files : BTreeMap ℕ Entry) (m : ℕ) → (told_at files m).seen ≢ None → has m files.entries
start_there files m there = elim (cases_Bool (is_some (get nat_cmp files m))) [
  | inl is ↦ is
  | inr not ↦ absurd (there (absent (get nat_cmp files m) not))
]

pub left_start : (files : BTreeMap ℕ Entry) (rest : List (ℕ × Entry)) → rest ≡ files.entries → All (λ e. get nat_cmp files e.0 ≡ Some e.1) files.entries → IsStrictlySortedBy nat_cmp (keys_of files.entries) → IsLeft files rest
left_start files rest is found ordered =
    subst (λ (l : List (ℕ × Entry)). IsLeft files l) (sym is) (record { found = found; ordered = ordered; there = start_there files })

-- nothing is left, so no file is there
pub left_none : (files : BTreeMap ℕ Entry) (rest : List (ℕ × Entry)) → rest ≡ [] → IsLeft files rest → (m : ℕ) → (told_at files m).seen ≡ None
left_none files rest is s m = seen_none (told_at files m).seen (λ there. no_entry (subst (λ (l : List (ℕ × Entry)). has m l) is (s.there m there)))
  where
    no_entry : has m [] → ⊥
    no_entry h = cc

    seen_none : (x : Option (List ℕ)) → (x ≢ None → ⊥) → x ≡ None
    seen_none None never = refl
    seen_none (Some b) never = absurd (never (λ e. none-some b (sym e)))

-- of each end: what the first of rest tells, the rest without it, and that it is the lowest
pub first_found : (files : BTreeMap ℕ Entry) (all rest : List (ℕ × Entry)) (n : ℕ) (e : Entry) → all ≡ (n, e) ∷ rest → IsLeft files all → get nat_cmp files n ≡ Some e
first_found files all rest n e split s =
    All-head (λ f. get nat_cmp files f.0 ≡ Some f.1) (n, e) rest (subst (λ (l : List (ℕ × Entry)). All (λ f. get nat_cmp files f.0 ≡ Some f.1) l) split s.found)

other_than : (files : BTreeMap ℕ Entry) (m n : ℕ) → (told_at files m).seen ≢ None → (told_at files n).seen ≡ None → m ≢ n
other_than files m n there gone same = there (ap (λ (k : ℕ). (told_at files k).seen) same ∙ gone)

pub left_after_first : (files : BTreeMap ℕ Entry) (all rest : List (ℕ × Entry)) (n : ℕ) (e : Entry) → all ≡ (n, e) ∷ rest → IsLeft files all → (told_at files n).seen ≡ None → IsLeft files rest
left_after_first files all rest n e split s gone =
    let t = subst (λ (l : List (ℕ × Entry)). IsLeft files l) split s in
    record {
      found = All-tail (λ f. get nat_cmp files f.0 ≡ Some f.1) (n, e) rest t.found;
      ordered = sorted_tail nat_cmp n (keys_of rest) t.ordered;
      there = λ m there. ap (λ (o : Option Entry). is_some o) (sym (lookup_tail (is_at (nat_cmp m)) (n, e) rest (apart m n (other_than files m n there gone)))) ∙ t.there m there;
    }

pub lowest_first : (files : BTreeMap ℕ Entry) (all rest : List (ℕ × Entry)) (n : ℕ) (e : Entry) → all ≡ (n, e) ∷ rest → IsLeft files all → (told_at files n).seen ≢ None → IsLowest (told_at files) n
lowest_first files all rest n e split s held =
    let t = subst (λ (l : List (ℕ × Entry)). IsLeft files l) split s in
    record {
      there = held;
      least = λ m there. elim (cases_eq m n) [
        | inl same ↦ omega arith
        | inr other ↦
            let later : n < m = below n m (of_key (λ k. nat_cmp n k ≡ Less) rest m (All-after_first nat_cmp n (keys_of rest) t.ordered)
            (ap (λ (o : Option Entry). is_some o) (sym (lookup_tail (is_at (nat_cmp m)) (n, e) rest (apart m n other))) ∙ t.there m there)) in
            omega arith
      ];
    }

-- the same from the other end
lookup_front : (es : List (ℕ × Entry)) (n : ℕ) (e : Entry) (m : ℕ) → is_at (nat_cmp m) n ≡ false → lookup (is_at (nat_cmp m)) (es ++ (n, e) ∷ []) ≡ lookup (is_at (nat_cmp m)) es
lookup_front [] n e m not = lookup_tail (is_at (nat_cmp m)) (n, e) [] not
lookup_front (f ∷ es) n e m not = elim (cases_Bool (is_at (nat_cmp m) f.0)) [
  | inl is ↦ rw is refl
  | inr past ↦ lookup_tail (is_at (nat_cmp m)) f (es ++ (n, e) ∷ []) past ∙ lookup_front es n e m not ∙ sym (lookup_tail (is_at (nat_cmp m)) f es past)
]

all_front : (P : ℕ → Type 0) (xs : List ℕ) (y : ℕ) → AllByRecursion P (xs ++ y ∷ []) → AllByRecursion P xs
all_front P [] y h = tt
all_front P (x ∷ xs) y h = (h.0, all_front P xs y h.1)

sorted_front : (xs : List ℕ) (y : ℕ) → IsStrictlySortedBy nat_cmp (xs ++ y ∷ []) → IsStrictlySortedBy nat_cmp xs
unfolding IsStrictlySortedBy
sorted_front [] y h = tt
sorted_front (x ∷ xs) y h = (all_front (λ k. nat_cmp x k ≡ Less) xs y h.0, sorted_front xs y h.1)

keys_last : (rest : List (ℕ × Entry)) (n : ℕ) (e : Entry) → IsStrictlySortedBy nat_cmp (keys_of (rest ++ (n, e) ∷ [])) → IsStrictlySortedBy nat_cmp (keys_of rest ++ n ∷ [])
keys_last rest n e h = subst (λ (l : List ℕ). IsStrictlySortedBy nat_cmp l) (map-append (λ (f : ℕ × Entry). f.0) rest ((n, e) ∷ [])) h

pub last_found : (files : BTreeMap ℕ Entry) (all rest : List (ℕ × Entry)) (n : ℕ) (e : Entry) → all ≡ rest ++ (n, e) ∷ [] → IsLeft files all → get nat_cmp files n ≡ Some e
last_found files all rest n e split s =
    (All-pop (λ f. get nat_cmp files f.0 ≡ Some f.1) all rest (Some (n, e)) split s.found).1

pub left_before_last : (files : BTreeMap ℕ Entry) (all rest : List (ℕ × Entry)) (n : ℕ) (e : Entry) → all ≡ rest ++ (n, e) ∷ [] → IsLeft files all → (told_at files n).seen ≡ None → IsLeft files rest
left_before_last files all rest n e split s gone =
    let t = subst (λ (l : List (ℕ × Entry)). IsLeft files l) split s in
    record {
      found = (All-pop (λ f. get nat_cmp files f.0 ≡ Some f.1) (rest ++ (n, e) ∷ []) rest (Some (n, e)) refl t.found).0;
      ordered = sorted_front (keys_of rest) n (keys_last rest n e t.ordered);
      there = λ m there. ap (λ (o : Option Entry). is_some o) (sym (lookup_front rest n e m (apart m n (other_than files m n there gone)))) ∙ t.there m there;
    }

pub highest_last : (files : BTreeMap ℕ Entry) (all rest : List (ℕ × Entry)) (n : ℕ) (e : Entry) → all ≡ rest ++ (n, e) ∷ [] → IsLeft files all → (told_at files n).seen ≢ None → IsHighest (told_at files) n
highest_last files all rest n e split s held =
    let t = subst (λ (l : List (ℕ × Entry)). IsLeft files l) split s in
    record {
      there = held;
      greatest = λ m there. elim (cases_eq m n) [
        | inl same ↦ omega arith
        | inr other ↦
            let earlier : m < n = below m n (of_key (λ k. nat_cmp k n ≡ Less) rest m (All-before_last nat_cmp (keys_of rest) n (keys_last rest n e t.ordered))
            (ap (λ (o : Option Entry). is_some o) (sym (lookup_front rest n e m (apart m n other))) ∙ t.there m there)) in
            omega arith
      ];
    }

pub there_from : (x : Option (List ℕ)) → is_some (option_map (λ (l : List ℕ). length l) x) ≡ true → x ≢ None
there_from None is = cc
there_from (Some b) is = λ e. none-some b (sym e)

pub gone_from : (x : Option (List ℕ)) → is_some (option_map (λ (l : List ℕ). length l) x) ≡ false → x ≡ None
gone_from None is = refl
gone_from (Some b) is = cc

some_from : (o : Option Entry) → (told_if o).seen ≢ None → is_some o ≡ true
some_from None there = absurd (there refl)
some_from (Some e) there = refl
