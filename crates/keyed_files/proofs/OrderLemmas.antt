-- The first row, and the first one above a place.
use Rattle.std.proofs.Common.{◌≡◌, ℕ, Bool, true, false, cond, T, ◌&&◌, List, [], ◌∷◌, ◌++◌, Option, Some, None, MatchOption, option_map, is_some, map, filter, slice_get, refl, sym, ap, ◌∙◌, subst}
use Rattle.std.specs.declared.cmp.Ordering.TheVariants.{Less, Equal, Greater}
use Rattle.std.specs.Ordering.{is_lt, is_eq, ordering_then}
use Rattle.std.specs.Option.{option_and_then}
use Rattle.std.specs.List.{AllByRecursion}
use Rattle.std.specs.Cmp.{tied_itself}
use Rattle.std.specs.Cmp.Lexicographic.{nat_list_cmp_total}
use Rattle.std.specs.FinMap.{get, find, entries, entries_sorted, get-entries, get-from_entries}
use Rattle.std.specs.FinMap.Entries.{below_all, is_sorted, same_entries}
use Rattle.std.proofs.Math.Bool.{and-true}
use Rattle.std.proofs.lemmas.List.Elements.{filter-append}
use Rattle.std.proofs.lemmas.Map.Lookups.{exact_bytes}
use Rattle.rdf_types.specs.Places.{row_cmp, row_cmp_total, row_cmp_exact}
use Rattle.rdf_types.specs.MapViews.{entries_found}
use Rattle.keyed_files.specs.Joined.{Keys, Files, row_of, rows_of, joined, AllFilled, above, first_of, own_above}
use Rattle.keyed_files.specs.RowsAbove.{rows_above}
use Rattle.std.proofs.Math.Facts.{and_yes, yes_and}
use Rattle.keyed_files.proofs.JoinedLemmas.{text, none_above}
use Rattle.keyed_files.proofs.StepLemmas.{is_less, further}

-- what an iterator gives first
pub head_shown : {A B : Type 0} (f : A → B) (o : Option A) (xs ys : List B) → MatchOption o ((xs ≡ []) × (ys ≡ [])) (λ x. xs ≡ f x ∷ ys) → option_map f o ≡ slice_get xs 0
head_shown f None xs ys h = ap (λ l. slice_get l 0) (sym h.0)
head_shown f (Some x) xs ys h = ap (λ l. slice_get l 0) (sym h)

pub above_range : {X : Type 0} (key : List ℕ) (es : List (List ℕ × X)) → filter (λ e. is_lt (text key e.0) && true) es ≡ filter (λ e. is_lt (text key e.0)) es
above_range key es = λ i. filter (λ e. and-true (is_lt (text key e.0)) i) es

-- the rows of a file stand in order before all rows above it
below_tagged : (file key : List ℕ) (es : List (List ℕ × List ℕ)) (rest : List ((List ℕ × List ℕ) × List ℕ)) →
    T (below_all text key es) → T (below_all row_cmp (file, key) rest) → T (below_all row_cmp (file, key) (map (row_of file) es ++ rest))
below_tagged file key [] rest h g = g
below_tagged file key (e ∷ es) rest h g =
    yes_and _ _ (subst (λ r. T (is_lt (ordering_then r (text key e.0)))) (sym (tied_itself nat_list_cmp_total file)) (and_yes _ _ h).0)
    (below_tagged file key es rest (and_yes _ _ h).1 g)

below_others : (file key other : List ℕ) (es : List (List ℕ × List ℕ)) (rest : List ((List ℕ × List ℕ) × List ℕ)) →
    text file other ≡ Less → T (below_all row_cmp (file, key) rest) → T (below_all row_cmp (file, key) (map (row_of other) es ++ rest))
below_others file key other [] rest h g = g
below_others file key other (e ∷ es) rest h g =
    yes_and _ _ (subst (λ r. T (is_lt (ordering_then r (text key e.0)))) (sym h) tt) (below_others file key other es rest h g)

below_rows : (file key : List ℕ) (fs : List (List ℕ × Keys)) → T (below_all text file fs) → T (below_all row_cmp (file, key) (rows_of fs))
below_rows file key [] h = tt
below_rows file key (f ∷ fs) h = below_others file key f.0 (entries f.1) (rows_of fs) (is_less _ (and_yes _ _ h).0) (below_rows file key fs (and_yes _ _ h).1)

sorted_tagged : (file : List ℕ) (es : List (List ℕ × List ℕ)) (rest : List ((List ℕ × List ℕ) × List ℕ)) →
    T (is_sorted text es) → T (is_sorted row_cmp rest) → ((key : List ℕ) → T (below_all row_cmp (file, key) rest)) → T (is_sorted row_cmp (map (row_of file) es ++ rest))
sorted_tagged file [] rest h g over = g
sorted_tagged file (e ∷ es) rest h g over =
    yes_and _ _ (below_tagged file e.0 es rest (and_yes _ _ h).0 (over e.0)) (sorted_tagged file es rest (and_yes _ _ h).1 g over)

sorted_rows : (fs : List (List ℕ × Keys)) → T (is_sorted text fs) → T (is_sorted row_cmp (rows_of fs))
sorted_rows [] h = tt
sorted_rows (f ∷ fs) h = sorted_tagged f.0 (entries f.1) (rows_of fs) (entries_sorted f.1) (sorted_rows fs (and_yes _ _ h).1) (λ key. below_rows f.0 key fs (and_yes _ _ h).0)

-- the rows of each file in turn are the rows in order
pub entries-joined : (files : Files) → entries (joined files) ≡ rows_of (entries files)
entries-joined files =
    same_entries row_cmp row_cmp_total row_cmp_exact (entries (joined files)) (rows_of (entries files)) (entries_sorted (joined files)) (sorted_rows (entries files) (entries_sorted files))
    (λ q. sym (get-entries (joined files) q) ∙ get-from_entries row_cmp_total (rows_of (entries files)) q)

abbrev IsFilled : List ℕ × Keys → Type 0
IsFilled f = is_some (slice_get (entries f.1) 0) ≡ true

filled_each : (files : Files) → AllFilled files → (fs : List (List ℕ × Keys)) → AllByRecursion (λ f. find text f.0 (entries files) ≡ Some f.1) fs → AllByRecursion IsFilled fs
filled_each files all [] h = tt
filled_each files all (f ∷ fs) h = (all f.0 f.1 (get-entries files f.0 ∙ h.0), filled_each files all fs h.1)

filled_some : (p : List ℕ × Keys → Bool) (fs : List (List ℕ × Keys)) → AllByRecursion IsFilled fs → AllByRecursion IsFilled (filter p fs)
filled_some p [] h = tt
filled_some p (f ∷ fs) h = elim (p f) as (λ b. AllByRecursion IsFilled (cond b (f ∷ filter p fs) (filter p fs))) [
  | true ↦ (h.0, filled_some p fs h.1)
  | false ↦ filled_some p fs h.1
]

head_tagged : (file : List ℕ) (es : List (List ℕ × List ℕ)) (rest : List ((List ℕ × List ℕ) × List ℕ)) → is_some (slice_get es 0) ≡ true →
    slice_get (map (row_of file) es ++ rest) 0 ≡ option_map (row_of file) (slice_get es 0)
head_tagged file [] rest h = cc
head_tagged file (e ∷ es) rest h = refl

head_rows : (fs : List (List ℕ × Keys)) → AllByRecursion IsFilled fs → slice_get (rows_of fs) 0 ≡ option_and_then first_of (slice_get fs 0)
head_rows [] h = refl
head_rows (f ∷ fs) h = head_tagged f.0 (entries f.1) (rows_of fs) h.0

-- the first row of all is the first one of the first file
pub first_joined : (files : Files) → AllFilled files → slice_get (entries (joined files)) 0 ≡ option_and_then first_of (slice_get (entries files) 0)
first_joined files all =
    ap (λ es. slice_get es 0) (entries-joined files)
    ∙ head_rows (entries files) (filled_each files all (entries files) (entries_found text nat_list_cmp_total exact_bytes files))

above_less : (q : List ℕ × List ℕ) (file : List ℕ) (es : List (List ℕ × List ℕ)) → text q.0 file ≡ Less → filter (λ e. is_lt (row_cmp q e.0)) (map (row_of file) es) ≡ map (row_of file) es
above_less q file [] h = refl
above_less q file (e ∷ es) h =
    ap (λ r. cond (is_lt (ordering_then r (text q.1 e.0))) (row_of file e ∷ filter (λ e. is_lt (row_cmp q e.0)) (map (row_of file) es)) (filter (λ e. is_lt (row_cmp q e.0)) (map (row_of file) es))) h
    ∙ ap (λ xs. row_of file e ∷ xs) (above_less q file es h)

above_greater : (q : List ℕ × List ℕ) (file : List ℕ) (es : List (List ℕ × List ℕ)) → text q.0 file ≡ Greater → filter (λ e. is_lt (row_cmp q e.0)) (map (row_of file) es) ≡ []
above_greater q file [] h = refl
above_greater q file (e ∷ es) h =
    ap (λ r. cond (is_lt (ordering_then r (text q.1 e.0))) (row_of file e ∷ filter (λ e. is_lt (row_cmp q e.0)) (map (row_of file) es)) (filter (λ e. is_lt (row_cmp q e.0)) (map (row_of file) es))) h
    ∙ above_greater q file es h

above_equal : (q : List ℕ × List ℕ) (file : List ℕ) (es : List (List ℕ × List ℕ)) → text q.0 file ≡ Equal →
    filter (λ e. is_lt (row_cmp q e.0)) (map (row_of file) es) ≡ map (row_of file) (filter (λ e. is_lt (text q.1 e.0)) es)
above_equal q file [] h = refl
above_equal q file (e ∷ es) h =
    ap (λ r. cond (is_lt (ordering_then r (text q.1 e.0))) (row_of file e ∷ filter (λ e. is_lt (row_cmp q e.0)) (map (row_of file) es)) (filter (λ e. is_lt (row_cmp q e.0)) (map (row_of file) es))) h
    ∙ elim (is_lt (text q.1 e.0)) as (λ b. cond b (row_of file e ∷ filter (λ e. is_lt (row_cmp q e.0)) (map (row_of file) es)) (filter (λ e. is_lt (row_cmp q e.0)) (map (row_of file) es))
    ≡ map (row_of file) (cond b (e ∷ filter (λ e. is_lt (text q.1 e.0)) es) (filter (λ e. is_lt (text q.1 e.0)) es))) [
      | true ↦ ap (λ xs. row_of file e ∷ xs) (above_equal q file es h)
      | false ↦ above_equal q file es h
    ]

above_rows : (q : List ℕ × List ℕ) (fs : List (List ℕ × Keys)) → T (is_sorted text fs) →
    filter (λ e. is_lt (row_cmp q e.0)) (rows_of fs) ≡ own_above q (find text q.0 fs) ++ rows_of (filter (λ f. is_lt (text q.0 f.0)) fs)
above_rows q [] h = refl
above_rows q (f ∷ fs) h =
    let p : (List ℕ × List ℕ) × List ℕ → Bool = λ e. is_lt (row_cmp q e.0) in
    let later = filter (λ (g : List ℕ × Keys). is_lt (text q.0 g.0)) fs in
    let own = map (row_of f.0) (entries f.1) in
    filter-append p own (rows_of fs)
    ∙ ap (λ xs. filter p own ++ xs) (above_rows q fs (and_yes _ _ h).1)
    ∙ elim (text q.0 f.0) as (λ r. text q.0 f.0 ≡ r → filter p own ++ (own_above q (find text q.0 fs) ++ rows_of later)
    ≡ own_above q (cond (is_eq r) (Some f.1) (find text q.0 fs)) ++ rows_of (cond (is_lt r) (f ∷ later) later)) [
      | Less ↦ λ e.
          let none : find text q.0 fs ≡ None = none_above q.0 fs (further text nat_list_cmp_total q.0 f.0 fs e (and_yes _ _ h).0) in
          ap (λ xs. xs ++ (own_above q (find text q.0 fs) ++ rows_of later)) (above_less q f.0 (entries f.1) e)
          ∙ ap (λ o. own ++ (own_above q o ++ rows_of later)) none
          ∙ sym (ap (λ o. own_above q o ++ (own ++ rows_of later)) none)
      | Equal ↦ λ e.
          let none : find text q.0 fs ≡ None = ap (λ k. find text k fs) (exact_bytes q.0 f.0 e) ∙ none_above f.0 fs (and_yes _ _ h).0 in
          ap (λ xs. xs ++ (own_above q (find text q.0 fs) ++ rows_of later)) (above_equal q f.0 (entries f.1) e)
          ∙ ap (λ o. map (row_of f.0) (above f.1 q.1) ++ (own_above q o ++ rows_of later)) none
          ∙ ap (λ k. map (row_of k) (above f.1 q.1) ++ rows_of later) (sym (exact_bytes q.0 f.0 e))
      | Greater ↦ λ e. ap (λ xs. xs ++ (own_above q (find text q.0 fs) ++ rows_of later)) (above_greater q f.0 (entries f.1) e)
    ] refl

rows_above_are : (files : Files) (q : List ℕ × List ℕ) → rows_above (joined files) q ≡ own_above q (get files q.0) ++ rows_of (above files q.0)
rows_above_are files q =
    ap (filter (λ e. is_lt (row_cmp q e.0))) (entries-joined files) ∙ above_rows q (entries files) (entries_sorted files)
    ∙ ap (λ o. own_above q o ++ rows_of (above files q.0)) (sym (get-entries files q.0))

first_part : {X : Type 0} (xs ys : List X) (x : X) → slice_get xs 0 ≡ Some x → slice_get (xs ++ ys) 0 ≡ Some x
first_part [] ys x h = cc
first_part (z ∷ xs) ys x h = h

no_part : {X : Type 0} (xs ys : List X) → slice_get xs 0 ≡ None → slice_get (xs ++ ys) 0 ≡ slice_get ys 0
no_part [] ys h = refl
no_part (z ∷ xs) ys h = cc

-- the next row of the same file
pub next_own : (files : Files) (q : List ℕ × List ℕ) (e : (List ℕ × List ℕ) × List ℕ) → slice_get (own_above q (get files q.0)) 0 ≡ Some e → slice_get (rows_above (joined files) q) 0 ≡ Some e
next_own files q e own = ap (λ xs. slice_get xs 0) (rows_above_are files q) ∙ first_part (own_above q (get files q.0)) (rows_of (above files q.0)) e own

-- where there is none, the next row is the first one of the next file
pub next_other : (files : Files) (q : List ℕ × List ℕ) → AllFilled files → slice_get (own_above q (get files q.0)) 0 ≡ None →
    slice_get (rows_above (joined files) q) 0 ≡ option_and_then first_of (slice_get (above files q.0) 0)
next_other files q all over =
    ap (λ xs. slice_get xs 0) (rows_above_are files q) ∙ no_part (own_above q (get files q.0)) (rows_of (above files q.0)) over
    ∙ head_rows (above files q.0) (filled_some (λ f. is_lt (text q.0 f.0)) (entries files)
    (filled_each files all (entries files) (entries_found text nat_list_cmp_total exact_bytes files)))

tagged_head : (file : List ℕ) (es : List (List ℕ × List ℕ)) → option_map (row_of file) (slice_get es 0) ≡ slice_get (map (row_of file) es) 0
tagged_head file [] = refl
tagged_head file (e ∷ es) = refl

pub own_found : (q : List ℕ × List ℕ) (keys : Keys) → option_map (row_of q.0) (slice_get (above keys q.1) 0) ≡ slice_get (own_above q (Some keys)) 0
own_found q keys = tagged_head q.0 (above keys q.1)

-- nothing found first, or something
pub none_next : {A : Type 0} (f : A → List ℕ × Keys) (o : Option A) (x : Option (List ℕ × Keys)) → o ≡ None → option_map f o ≡ x → None ≡ option_and_then first_of x
none_next f o x e h = ap (λ p. option_and_then first_of (option_map f p)) (sym e) ∙ ap (option_and_then first_of) h

pub some_next : {A : Type 0} (f : A → List ℕ × Keys) (o : Option A) (a : A) (x : Option (List ℕ × Keys)) → o ≡ Some a → option_map f o ≡ x → first_of (f a) ≡ option_and_then first_of x
some_next f o a x e h = ap (λ p. option_and_then first_of (option_map f p)) (sym e) ∙ ap (option_and_then first_of) h

pub tagged : {A : Type 0} (pair : A → List ℕ × List ℕ) (file : List ℕ) (o : Option A) → option_map (λ e. row_of file (pair e)) o ≡ option_map (row_of file) (option_map pair o)
tagged pair file None = refl
tagged pair file (Some e) = refl
