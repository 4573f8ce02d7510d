-- The open transactions after one more note.
use Rattle.std.proofs.Common.{◌≡◌, ℕ, Bool, true, false, not, cond, ◌&&◌, ◌||◌, ◌==◌, List, [], ◌∷◌, ◌++◌, Some, None, filter, filter_map, fold, refl, sym, ap, ◌∙◌, subst, arith, append-nil, append_assoc}
use Rattle.std.specs.List.{cons_option}
use Rattle.std.specs.Map.{remove_entry}
use Rattle.std.proofs.lemmas.Bool.{eqb-true, or_parts, or_from}
use Rattle.std.proofs.lemmas.Bool.Decides.{nat_tests}
use Rattle.std.proofs.lemmas.List.Elements.{filter-append, filter_map-append}
use Rattle.rdf_types.specs.declared.records.Record.{Record}
use Rattle.rdf_types.specs.declared.records.Record.TheVariants.{Image, Commit, Abort}
use Rattle.rdf_types.specs.declared.records.Stamped.{Stamped}
use Rattle.rdf_model.specs.Trail.{txn_of, has_image, is_open, is_ended, is_outcome_of}
use Rattle.rdf_model.specs.Window.{records}
use Rattle.rdf_model.specs.SearchLaws.{is_ended-more}
use Rattle.open_txns.specs.Noted.{image_at, open_image, firsts, open_txns, all_noted, ProperAfter, has_txn, noted}

abbrev pub Entries : Type 0
Entries = List (ℕ × ℕ)

abbrev pub without : ℕ → Entries → Entries
without t es = filter (λ e. not (e.0 == t)) es

has-without : (t x : ℕ) (es : Entries) → (t == x) ≡ false → has_txn (without x es) t ≡ has_txn es t
has-without t x [] h = refl
has-without t x (e ∷ es) h =
    elim (e.0 == x) as (λ m. (e.0 == x) ≡ m → has_txn (cond (not m) (e ∷ without x es) (without x es)) t ≡ ((t == e.0) || has_txn es t)) [
      | true ↦ λ s. has-without t x es h ∙ ap (λ m. m || has_txn es t) (sym (apart s))
      | false ↦ λ s. ap (λ m. (t == e.0) || m) (has-without t x es h)
    ] refl
  where
    apart : (e.0 == x) ≡ true → (t == e.0) ≡ false
    apart s = subst (λ n. (t == n) ≡ false) (sym (eqb-true e.0 x s)) h

gone : (x : ℕ) (es : Entries) → has_txn (without x es) x ≡ false
gone x [] = refl
gone x (e ∷ es) =
    elim (e.0 == x) as (λ m. (e.0 == x) ≡ m → has_txn (cond (not m) (e ∷ without x es) (without x es)) x ≡ false) [
      | true ↦ λ s. gone x es
      | false ↦ λ s. or_from (x == e.0) (has_txn (without x es) x) (grind (arith, nat_tests)) (gone x es)
    ] refl

pub turned : (a b : ℕ) → (a == b) ≡ (b == a)
turned a b = grind (arith, nat_tests)

pub without-absent : (t : ℕ) (es : Entries) → has_txn es t ≡ false → without t es ≡ es
without-absent t [] h = refl
without-absent t (e ∷ es) h =
    let parts = or_parts (t == e.0) (has_txn es t) h in
    ap (λ m. cond (not m) (e ∷ without t es) (without t es)) (turned e.0 t ∙ parts.0) ∙ ap (λ xs. e ∷ xs) (without-absent t es parts.1)

without-without : (t x : ℕ) (es : Entries) → without t (without x es) ≡ without x (without t es)
without-without t x [] = refl
without-without t x (e ∷ es) =
    elim (e.0 == x) as (λ m. (e.0 == x) ≡ m → without t (cond (not m) (e ∷ without x es) (without x es)) ≡ without x (cond (not (e.0 == t)) (e ∷ without t es) (without t es))) [
      | true ↦ λ s. elim (e.0 == t) as (λ n. without t (without x es) ≡ without x (cond (not n) (e ∷ without t es) (without t es))) [
        | true ↦ without-without t x es
        | false ↦ without-without t x es ∙ sym (ap (λ m. cond (not m) (e ∷ without x (without t es)) (without x (without t es))) s)
      ]
      | false ↦ λ s. elim (e.0 == t) as (λ n. cond (not n) (e ∷ without t (without x es)) (without t (without x es)) ≡ without x (cond (not n) (e ∷ without t es) (without t es))) [
        | true ↦ without-without t x es
        | false ↦ ap (λ xs. e ∷ xs) (without-without t x es) ∙ sym (ap (λ m. cond (not m) (e ∷ without x (without t es)) (without x (without t es))) s)
      ]
    ] refl

-- one more entry
firsts-push : (es : Entries) (t p : ℕ) → firsts (es ++ (t, p) ∷ []) ≡ cond (has_txn (firsts es) t) (firsts es) (firsts es ++ (t, p) ∷ [])
firsts-push [] t p = refl
firsts-push (x ∷ es) t p =
    ap (λ f. x ∷ without x.0 f) (firsts-push es t p)
    ∙ elim (t == x.0) as (λ m. (t == x.0) ≡ m → x ∷ without x.0 (cond (has_txn (firsts es) t) (firsts es) (firsts es ++ (t, p) ∷ []))
    ≡ cond (m || has_txn (without x.0 (firsts es)) t) (x ∷ without x.0 (firsts es)) (x ∷ (without x.0 (firsts es) ++ (t, p) ∷ []))) [
      | true ↦ λ s. elim (has_txn (firsts es) t) as (λ n. x ∷ without x.0 (cond n (firsts es) (firsts es ++ (t, p) ∷ [])) ≡ x ∷ without x.0 (firsts es)) [
        | true ↦ refl
        | false ↦ ap (λ f. x ∷ f) (filter-append (λ e. not (e.0 == x.0)) (firsts es) ((t, p) ∷ [])
            ∙ ap (λ m. without x.0 (firsts es) ++ cond (not m) ((t, p) ∷ []) []) s ∙ append-nil (without x.0 (firsts es)))
      ]
      | false ↦ λ s. sym (ap (λ m. cond m (x ∷ without x.0 (firsts es)) (x ∷ (without x.0 (firsts es) ++ (t, p) ∷ []))) (has-without t x.0 (firsts es) s)
          ∙ split (has_txn (firsts es) t) s)
    ] refl
  where
    split : (n : Bool) → (t == x.0) ≡ false → cond n (x ∷ without x.0 (firsts es)) (x ∷ (without x.0 (firsts es) ++ (t, p) ∷ [])) ≡ x ∷ without x.0 (cond n (firsts es) (firsts es ++ (t, p) ∷ []))
    split true s = refl
    split false s = ap (λ f. x ∷ f) (sym (filter-append (λ e. not (e.0 == x.0)) (firsts es) ((t, p) ∷ [])
        ∙ ap (λ m. without x.0 (firsts es) ++ cond (not m) ((t, p) ∷ []) []) s))

-- one transaction less
firsts-without : (t : ℕ) (es : Entries) → firsts (without t es) ≡ without t (firsts es)
firsts-without t [] = refl
firsts-without t (x ∷ es) =
    elim (x.0 == t) as (λ m. (x.0 == t) ≡ m → firsts (cond (not m) (x ∷ without t es) (without t es)) ≡ cond (not m) (x ∷ without t (without x.0 (firsts es))) (without t (without x.0 (firsts es)))) [
      | true ↦ λ s. firsts-without t es ∙ sym (without-absent t (without t (firsts es)) (gone t (firsts es)))
          ∙ ap (λ n. without t (without n (firsts es))) (sym (eqb-true x.0 t s))
      | false ↦ λ s. ap (λ f. x ∷ without x.0 f) (firsts-without t es) ∙ ap (λ f. x ∷ f) (without-without x.0 t (firsts es))
    ] refl

has-fewer : (t x : ℕ) (es : Entries) → has_txn es t ≡ false → has_txn (without x es) t ≡ false
has-fewer t x [] h = refl
has-fewer t x (e ∷ es) h =
    elim (e.0 == x) as (λ m. has_txn (cond (not m) (e ∷ without x es) (without x es)) t ≡ false) [
      | true ↦ has-fewer t x es (or_parts (t == e.0) (has_txn es t) h).1
      | false ↦ or_from (t == e.0) (has_txn (without x es) t) (or_parts (t == e.0) (has_txn es t) h).0 (has-fewer t x es (or_parts (t == e.0) (has_txn es t) h).1)
    ]

abbrev pub Apart : Entries → Type 0
Apart [] = Unit {0}
Apart (e ∷ es) = (has_txn es e.0 ≡ false) × Apart es

Apart-without : (x : ℕ) (es : Entries) → Apart es → Apart (without x es)
Apart-without x [] h = tt
Apart-without x (e ∷ es) h =
    elim (e.0 == x) as (λ m. Apart (cond (not m) (e ∷ without x es) (without x es))) [
      | true ↦ Apart-without x es h.1
      | false ↦ (has-fewer e.0 x es h.0, Apart-without x es h.1)
    ]

pub Apart-firsts : (es : Entries) → Apart (firsts es)
Apart-firsts [] = tt
Apart-firsts (x ∷ es) = (gone x.0 (firsts es), Apart-without x.0 (firsts es) (Apart-firsts es))

pub remove-apart : (t : ℕ) (es : Entries) → Apart es → remove_entry (λ k. t == k) es ≡ without t es
remove-apart t [] h = refl
remove-apart t (e ∷ es) h =
    elim (t == e.0) as (λ m. (t == e.0) ≡ m → cond m es (e ∷ remove_entry (λ k. t == k) es) ≡ cond (not (e.0 == t)) (e ∷ without t es) (without t es)) [
      | true ↦ λ s. sym (without-absent t es (subst (λ n. has_txn es n ≡ false) (sym (eqb-true t e.0 s)) h.0))
          ∙ sym (ap (λ m. cond (not m) (e ∷ without t es) (without t es)) (turned e.0 t ∙ s))
      | false ↦ λ s. ap (λ xs. e ∷ xs) (remove-apart t es h.1) ∙ sym (ap (λ m. cond (not m) (e ∷ without t es) (without t es)) (turned e.0 t ∙ s))
    ] refl

remove-firsts : (t : ℕ) (es : Entries) → remove_entry (λ k. t == k) (firsts es) ≡ firsts (without t es)
remove-firsts t es = remove-apart t (firsts es) (Apart-firsts es) ∙ sym (firsts-without t es)

same_image : (old new : List Record) → ((u : ℕ) → is_ended u new ≡ is_ended u old) → (pos : ℕ) (r : Record) → image_at new pos r ≡ image_at old pos r
same_image old new e pos (Image u v f k b a) = ap (λ m. cond m None (Some (u, pos))) (e u)
same_image old new e pos (Commit u) = refl
same_image old new e pos (Abort u) = refl

image_less : (t u pos : ℕ) (a : Bool) (xs ys : Entries) → ys ≡ without t xs →
    cons_option (cond (a || (t == u)) None (Some (u, pos))) ys ≡ without t (cons_option (cond a None (Some (u, pos))) xs)
image_less t u pos true xs ys e = e
image_less t u pos false xs ys e =
    elim (t == u) as (λ m. (t == u) ≡ m → cons_option (cond m None (Some (u, pos))) ys ≡ cond (not (u == t)) ((u, pos) ∷ without t xs) (without t xs)) [
      | true ↦ λ s. e ∙ sym (ap (λ m. cond (not m) ((u, pos) ∷ without t xs) (without t xs)) (turned u t ∙ s))
      | false ↦ λ s. ap (λ zs. (u, pos) ∷ zs) e ∙ sym (ap (λ m. cond (not m) ((u, pos) ∷ without t xs) (without t xs)) (turned u t ∙ s))
    ] refl

one_less : (t : ℕ) (old new : List Record) → ((u : ℕ) → is_ended u new ≡ (is_ended u old || (t == u))) → (pos : ℕ) (r : Record) (xs ys : Entries) → ys ≡ without t xs →
    cons_option (image_at new pos r) ys ≡ without t (cons_option (image_at old pos r) xs)
one_less t old new e pos (Commit u) xs ys h = h
one_less t old new e pos (Abort u) xs ys h = h
one_less t old new e pos (Image u v f k b a) xs ys h = ap (λ m. cons_option (cond m None (Some (u, pos))) ys) (e u) ∙ image_less t u pos (is_ended u old) xs ys h

all_less : (t : ℕ) (old new : List Record) → ((u : ℕ) → is_ended u new ≡ (is_ended u old || (t == u))) → (notes : List Stamped) → filter_map (open_image new) notes ≡ without t (filter_map (open_image old) notes)
all_less t old new e [] = refl
all_less t old new e (s ∷ notes) = one_less t old new e s.pos s.rec (filter_map (open_image old) notes) (filter_map (open_image new) notes) (all_less t old new e notes)

or_no : (b : Bool) → (b || (false || false)) ≡ b
or_no b = grind arith

or_one : (a b : Bool) → (a || (b || false)) ≡ (a || b)
or_one a b = grind arith

pub records-more : (notes : List Stamped) (s : Stamped) → records (notes ++ s ∷ []) ≡ records notes ++ s.rec ∷ []
records-more [] s = refl
records-more (x ∷ notes) s = ap (λ ys. x.rec ∷ ys) (records-more notes s)

-- an outcome takes its transaction away
closes : (t : ℕ) (notes : List Stamped) (pos : ℕ) (r : Record) → ((u : ℕ) → is_outcome_of u r ≡ (t == u)) → ((trail : List Record) → image_at trail pos r ≡ None) →
    remove_entry (λ k. t == k) (open_txns notes) ≡ firsts (filter_map (open_image (records notes ++ r ∷ [])) (notes ++ record { pos = pos; rec = r } ∷ []))
closes t notes pos r out none =
    remove-firsts t (filter_map (open_image (records notes)) notes)
    ∙ ap firsts (sym (all_less t (records notes) (records notes ++ r ∷ []) (λ u. is_ended-more u (records notes) r ∙ ap (λ m. is_ended u (records notes) || (m || false)) (out u) ∙ or_one (is_ended u (records notes)) (t == u)) notes)
    ∙ sym (append-nil (filter_map (open_image (records notes ++ r ∷ [])) notes))
    ∙ ap (λ o. filter_map (open_image (records notes ++ r ∷ [])) notes ++ cons_option o []) (sym (none (records notes ++ r ∷ [])))
    ∙ sym (filter_map-append (open_image (records notes ++ r ∷ [])) notes (record { pos = pos; rec = r } ∷ [])))

note_at : (notes : List Stamped) (pos : ℕ) (r : Record) → is_ended (txn_of r) (records notes) ≡ false →
    noted (open_txns notes) pos r ≡ firsts (filter_map (open_image (records notes ++ r ∷ [])) (notes ++ record { pos = pos; rec = r } ∷ []))
note_at notes pos (Commit t) e = closes t notes pos (Commit t) (λ u. refl) (λ trail. refl)
note_at notes pos (Abort t) e = closes t notes pos (Abort t) (λ u. refl) (λ trail. refl)
note_at notes pos (Image t v f k b a) e =
    let r : Record = Image t v f k b a in
    let new : List Record = records notes ++ r ∷ [] in
    let same : (u : ℕ) → is_ended u new ≡ is_ended u (records notes) = λ u. is_ended-more u (records notes) r ∙ or_no (is_ended u (records notes)) in
    sym (firsts-push (filter_map (open_image (records notes)) notes) t pos)
    ∙ ap firsts (ap (λ (xs : Entries). xs ++ (t, pos) ∷ []) (sym (λ i. filter_map (λ s. same_image (records notes) new same s.pos s.rec i) notes))
    ∙ ap (λ m. filter_map (open_image new) notes ++ cons_option (cond m None (Some (t, pos))) []) (sym (same t ∙ e))
    ∙ sym (filter_map-append (open_image new) notes (record { pos = pos; rec = r } ∷ [])))

note_more : (notes : List Stamped) (s : Stamped) → is_ended (txn_of s.rec) (records notes) ≡ false → noted (open_txns notes) s.pos s.rec ≡ open_txns (notes ++ s ∷ [])
note_more notes s e = note_at notes s.pos s.rec e ∙ ap (λ trail. firsts (filter_map (open_image trail) (notes ++ s ∷ []))) (sym (records-more notes s))

all_from : (before rest : List Stamped) → ProperAfter before rest → fold (λ opens s. noted opens s.pos s.rec) (open_txns before) rest ≡ open_txns (before ++ rest)
all_from before [] h = ap open_txns (sym (append-nil before))
all_from before (s ∷ rest) h =
    ap (λ o. fold (λ opens x. noted opens x.pos x.rec) o rest) (note_more before s h.0)
    ∙ all_from (before ++ s ∷ []) rest h.1 ∙ ap open_txns (append_assoc before (s ∷ []) rest)

pub noted_are_open : (notes : List Stamped) → ProperAfter [] notes → all_noted notes ≡ open_txns notes
noted_are_open notes h = all_from [] notes h

pub has-firsts : (t : ℕ) (es : Entries) → has_txn (firsts es) t ≡ has_txn es t
has-firsts t [] = refl
has-firsts t (x ∷ es) =
    elim (t == x.0) as (λ m. (t == x.0) ≡ m → (m || has_txn (without x.0 (firsts es)) t) ≡ (m || has_txn es t)) [
      | true ↦ λ s. refl
      | false ↦ λ s. has-without t x.0 (firsts es) s ∙ has-firsts t es
    ] refl

open_one : (t u : ℕ) (ended now : Bool) (pos : ℕ) (es : Entries) (h : Bool) → (u ≡ t → ended ≡ now) → has_txn es t ≡ (h && not now) →
    has_txn (cons_option (cond ended None (Some (u, pos))) es) t ≡ (((u == t) || h) && not now)
open_one t u true now pos es h e is = is ∙ both_ended (u == t) (λ s. sym (e (eqb-true u t s)))
  where
    both_ended : (m : Bool) → (m ≡ true → now ≡ true) → (h && not now) ≡ ((m || h) && not now)
    both_ended m f = grind arith
open_one t u false now pos es h e is = ap (λ m. m || has_txn es t) (turned t u) ∙ ap (λ m. (u == t) || m) is ∙ both_open (u == t) (λ s. sym (e (eqb-true u t s)))
  where
    both_open : (m : Bool) → (m ≡ true → now ≡ false) → (m || (h && not now)) ≡ ((m || h) && not now)
    both_open m f = grind arith

has-image : (t : ℕ) (trail : List Record) (pos : ℕ) (r : Record) (es : Entries) (rest : List Record) → has_txn es t ≡ (has_image t rest && not (is_ended t trail)) →
    has_txn (cons_option (image_at trail pos r) es) t ≡ (has_image t (r ∷ rest) && not (is_ended t trail))
has-image t trail pos (Commit u) es rest e = e
has-image t trail pos (Abort u) es rest e = e
has-image t trail pos (Image u v f k b a) es rest e = open_one t u (is_ended u trail) (is_ended t trail) pos es (has_image t rest) (λ s. ap (λ n. is_ended n trail) s) e

has-images : (t : ℕ) (trail : List Record) (notes : List Stamped) → has_txn (filter_map (open_image trail) notes) t ≡ (has_image t (records notes) && not (is_ended t trail))
has-images t trail [] = refl
has-images t trail (s ∷ notes) = has-image t trail s.pos s.rec (filter_map (open_image trail) notes) (records notes) (has-images t trail notes)

opens-has : (notes : List Stamped) (t : ℕ) → has_txn (open_txns notes) t ≡ is_open t (records notes)
opens-has notes t = has-firsts t (filter_map (open_image (records notes)) notes) ∙ has-images t (records notes) notes

pub open_ones : (notes : List Stamped) (t : ℕ) → ProperAfter [] notes → has_txn (all_noted notes) t ≡ is_open t (records notes)
open_ones notes t h = ap (λ os. has_txn os t) (noted_are_open notes h) ∙ opens-has notes t
