-- What marks mean, as they are looked up, added, ended and dropped.
use Rattle.std.proofs.Common.{◌≡◌, ◌≤◌, ◌<◌, ◌+◌, ℕ, zero, suc, Bool, true, false, not, cond, ◌&&◌, ◌||◌, ◌==◌, List, [], ◌∷◌, ◌++◌, length, nat_lt, Option, Some, None, is_some, unwrap_or, MatchOption, filter, refl, sym, ap, ◌∙◌, subst, arith, true≢false}
use Rattle.std.specs.List.{cons_option, IsDistinct, AllByRecursion, position, position_or_len, slice_get}
use Rattle.std.specs.Option.{option_map}
use Rattle.std.specs.Map.{lookup, remove_entry, keys_of, values_of}
use Rattle.std.proofs.lemmas.Bool.{eqb-true, or_parts}
use Rattle.std.proofs.lemmas.List.Elements.{filter_map-append}
use Rattle.indexmap.specs.IndexMap.{set_value_at}
use Rattle.open_txns.specs.Marks.{Marks, open_mark, open_marks, first_open, IsOpenAt}
use Rattle.open_txns.specs.Noted.{has_txn, low_of}

-- whether the mark that was found is of an open transaction
abbrev pub open_value : Option (Option ℕ) → Bool
open_value None = false
open_value (Some v) = is_some v

has-mark : (t : ℕ) (e : ℕ × Option ℕ) (os : List (ℕ × ℕ)) → has_txn (cons_option (open_mark e) os) t ≡ ((is_some e.1 && (t == e.0)) || has_txn os t)
has-mark t e os =
    elim e.1 as (λ v. has_txn (cons_option (option_map (λ pos. (e.0, pos)) v) os) t ≡ ((is_some v && (t == e.0)) || has_txn os t)) [
      | Some p ↦ refl
      | None ↦ refl
    ]

no_mark : (v m h : Bool) → m ≡ false → ((v && m) || h) ≡ h
no_mark v m h e = grind arith

own_mark : (v m h : Bool) → m ≡ true → h ≡ false → ((v && m) || h) ≡ v
own_mark v m h e f = grind arith

has-later : (v m h : Bool) → h ≡ true → ((v && m) || h) ≡ true
has-later v m h e = grind arith

has-here : (v m h : Bool) → v ≡ true → m ≡ true → ((v && m) || h) ≡ true
has-here v m h e f = grind arith

apart : (t : ℕ) (es : Marks) → AllByRecursion (λ k. (t == k) ≡ false) (keys_of es) → has_txn (open_marks es) t ≡ false
apart t [] h = refl
apart t (e ∷ es) h = has-mark t e (open_marks es) ∙ no_mark (is_some e.1) (t == e.0) (has_txn (open_marks es) t) h.0 ∙ apart t es h.1

-- where each transaction has one mark, the mark that is found says whether it is open
pub has-found : (t : ℕ) (es : Marks) → IsDistinct ◌==◌ (keys_of es) → has_txn (open_marks es) t ≡ open_value (lookup (λ k. t == k) es)
unfolding IsDistinct
has-found t [] h = refl
has-found t (e ∷ es) h =
    has-mark t e (open_marks es)
    ∙ elim (t == e.0) as (λ m. (t == e.0) ≡ m → ((is_some e.1 && (t == e.0)) || has_txn (open_marks es) t) ≡ open_value (cond m (Some e.1) (lookup (λ k. t == k) es))) [
      | true ↦ λ s. own_mark (is_some e.1) (t == e.0) (has_txn (open_marks es) t) s (subst (λ n. has_txn (open_marks es) n ≡ false) (sym (eqb-true t e.0 s)) (apart e.0 es h.0))
      | false ↦ λ s. no_mark (is_some e.1) (t == e.0) (has_txn (open_marks es) t) s ∙ has-found t es h.1
    ] refl

place-open : (t : ℕ) (es : Marks) → open_value (lookup (λ k. t == k) es) ≡ true → IsOpenAt t es (position_or_len (λ k. t == k) (keys_of es))
place-open t [] h = absurd (true≢false (sym h))
place-open t (e ∷ es) h =
    elim (t == e.0) as (λ m. (t == e.0) ≡ m → open_value (cond m (Some e.1) (lookup (λ k. t == k) es)) ≡ true →
    IsOpenAt t (e ∷ es) (cond (not m) (1 + position_or_len (λ k. t == k) (keys_of es)) zero)) [
      | true ↦ λ s l. (s, l)
      | false ↦ λ s l.
          let next : suc (position_or_len (λ k. t == k) (keys_of es)) ≡ 1 + position_or_len (λ k. t == k) (keys_of es) = omega arith in
          subst (IsOpenAt t (e ∷ es)) next (s, place-open t es l)
    ] refl h

found_place : (p : ℕ → Bool) (ks : List ℕ) (at : ℕ) → Some at ≡ position p ks → position_or_len p ks ≡ at
found_place p ks at h = found (nat_lt (position_or_len p ks) (length ks)) h
  where
    found : (m : Bool) → Some at ≡ cond m (Some (position_or_len p ks)) None → position_or_len p ks ≡ at
    found true e = sym (ap (λ o. unwrap_or o 0) e)
    found false e = absurd (true≢false (ap is_some e))

pub placed-open : (t : ℕ) (es : Marks) (at : ℕ) (v : Option ℕ) → Some at ≡ position (λ k. t == k) (keys_of es) →
    Some v ≡ lookup (λ k. t == k) es → true ≡ is_some v → IsOpenAt t es at
placed-open t es at v h l s = subst (IsOpenAt t es) (found_place (λ k. t == k) (keys_of es) at h) (place-open t es (sym (ap open_value l) ∙ sym s))

pub within : (t : ℕ) (es : Marks) (at : ℕ) → IsOpenAt t es at → at < length es
within t [] at h = absurd h
within t (e ∷ es) zero h = omega arith
within t (e ∷ es) (suc at) h = let r : at < length es = within t es at h.1 in omega arith

pub has-placed : (t : ℕ) (es : Marks) (at : ℕ) → IsOpenAt t es at → has_txn (open_marks es) t ≡ true
has-placed t [] at h = absurd h
has-placed t (e ∷ es) zero h = has-mark t e (open_marks es) ∙ has-here (is_some e.1) (t == e.0) (has_txn (open_marks es) t) h.1 h.0
has-placed t (e ∷ es) (suc at) h = has-mark t e (open_marks es) ∙ has-later (is_some e.1) (t == e.0) (has_txn (open_marks es) t) (has-placed t es at h.1)

-- the mark without its position
pub marks-ended : (t : ℕ) (es : Marks) (at : ℕ) → IsOpenAt t es at → open_marks (set_value_at es at None) ≡ remove_entry (λ k. t == k) (open_marks es)
marks-ended t [] at h = absurd h
marks-ended t (e ∷ es) zero h =
    elim e.1 as (λ v. is_some v ≡ true → open_marks es ≡ remove_entry (λ k. t == k) (cons_option (option_map (λ pos. (e.0, pos)) v) (open_marks es))) [
      | Some p ↦ λ s. sym (ap (λ m. cond m (open_marks es) ((e.0, p) ∷ remove_entry (λ k. t == k) (open_marks es))) h.0)
      | None ↦ λ s. absurd (true≢false (sym s))
    ] h.1
marks-ended t (e ∷ es) (suc at) h =
    elim e.1 as (λ v. cons_option (option_map (λ pos. (e.0, pos)) v) (open_marks (set_value_at es at None)) ≡ remove_entry (λ k. t == k) (cons_option (option_map (λ pos. (e.0, pos)) v) (open_marks es))) [
      | Some p ↦ ap (λ os. (e.0, p) ∷ os) (marks-ended t es at h.1) ∙ sym (ap (λ m. cond m (open_marks es) ((e.0, p) ∷ remove_entry (λ k. t == k) (open_marks es))) h.0)
      | None ↦ marks-ended t es at h.1
    ]

pub first-ended : (es : Marks) (at : ℕ) → first_open es ≤ first_open (set_value_at es at None)
first-ended [] at = omega arith
first-ended (e ∷ es) zero = elim (is_some e.1) as (λ m. cond m zero (suc (first_open es)) ≤ suc (first_open es)) [ true ↦ omega arith | false ↦ omega arith ]
first-ended (e ∷ es) (suc at) =
    let r : first_open es ≤ first_open (set_value_at es at None) = first-ended es at in
    elim (is_some e.1) as (λ m. cond m zero (suc (first_open es)) ≤ cond m zero (suc (first_open (set_value_at es at None)))) [ true ↦ omega arith | false ↦ omega arith ]

pub absent_removed : (t : ℕ) (os : List (ℕ × ℕ)) → has_txn os t ≡ false → os ≡ remove_entry (λ k. t == k) os
absent_removed t [] h = refl
absent_removed t (o ∷ os) h =
    let parts = or_parts (t == o.0) (has_txn os t) h in
    ap (λ xs. o ∷ xs) (absent_removed t os parts.1) ∙ sym (ap (λ m. cond m os (o ∷ remove_entry (λ k. t == k) os)) parts.0)

pub length-removed : (t : ℕ) (os : List (ℕ × ℕ)) → has_txn os t ≡ true → suc (length (remove_entry (λ k. t == k) os)) ≡ length os
length-removed t [] h = absurd (true≢false (sym h))
length-removed t (o ∷ os) h =
    elim (t == o.0) as (λ m. (m || has_txn os t) ≡ true → suc (length (cond m os (o ∷ remove_entry (λ k. t == k) os))) ≡ suc (length os)) [
      | true ↦ λ s. refl
      | false ↦ λ s. ap suc (length-removed t os s)
    ] h

-- the first open transaction
pub open_at_least : (es : Marks) (at : ℕ) (v : Option ℕ) → slice_get (values_of es) at ≡ Some v → true ≡ is_some v → first_open es ≤ at
open_at_least [] at v h s = omega arith
open_at_least (e ∷ es) zero v h s = rw (ap (λ o. open_value o) h ∙ sym s) (omega arith)
open_at_least (e ∷ es) (suc at) v h s =
    let r : first_open es ≤ at = open_at_least es at v h s in
    elim (is_some e.1) as (λ m. cond m zero (suc (first_open es)) ≤ suc at) [ true ↦ omega arith | false ↦ omega arith ]

pub ended_before : (es : Marks) (at : ℕ) (v : Option ℕ) → slice_get (values_of es) at ≡ Some v → false ≡ is_some v → at ≤ first_open es → suc at ≤ first_open es
ended_before [] at v h s b = absurd (true≢false (sym (ap is_some h)))
ended_before (e ∷ es) zero v h s b = rw (ap (λ o. open_value o) h ∙ sym s) (omega arith)
ended_before (e ∷ es) (suc at) v h s b =
    elim (is_some e.1) as (λ m. suc at ≤ cond m zero (suc (first_open es)) → suc (suc at) ≤ cond m zero (suc (first_open es))) [
      | true ↦ λ c. absurd (omega (arith, c))
      | false ↦ λ c. let d : at ≤ first_open es = omega (arith, c) in let r : suc at ≤ first_open es = ended_before es at v h s d in omega (arith, r)
    ] b

pub first_within : (es : Marks) → first_open es ≤ length es
first_within [] = omega arith
first_within (e ∷ es) =
    let r : first_open es ≤ length es = first_within es in
    elim (is_some e.1) as (λ m. cond m zero (suc (first_open es)) ≤ suc (length es)) [ true ↦ omega arith | false ↦ omega arith ]

pub low_found : (es : Marks) (v : Option ℕ) (end : ℕ) → slice_get (values_of es) (first_open es) ≡ Some v → unwrap_or v end ≡ low_of (open_marks es) end
low_found [] v end h = absurd (true≢false (sym (ap is_some h)))
low_found (e ∷ es) v end h =
    elim e.1 as (λ w. slice_get (w ∷ values_of es) (cond (is_some w) zero (suc (first_open es))) ≡ Some v → unwrap_or v end ≡ low_of (cons_option (option_map (λ pos. (e.0, pos)) w) (open_marks es)) end) [
      | Some p ↦ λ s. sym (ap (λ o. unwrap_or (unwrap_or o None) end) s)
      | None ↦ λ s. low_found es v end s
    ] h

pub low_none : (es : Marks) (end : ℕ) → length es ≤ first_open es → end ≡ low_of (open_marks es) end
low_none [] end h = refl
low_none (e ∷ es) end h =
    elim e.1 as (λ w. suc (length es) ≤ cond (is_some w) zero (suc (first_open es)) → end ≡ low_of (cons_option (option_map (λ pos. (e.0, pos)) w) (open_marks es)) end) [
      | Some p ↦ λ s. absurd (omega (arith, s))
      | None ↦ λ s. let d : length es ≤ first_open es = omega (arith, s) in low_none es end d
    ] h

-- one mark more
pub marks-added : (es : Marks) (t p : ℕ) → open_marks (es ++ (t, Some p) ∷ []) ≡ open_marks es ++ (t, p) ∷ []
marks-added es t p = filter_map-append open_mark es ((t, Some p) ∷ [])

pub first-added : (es : Marks) (t p : ℕ) → first_open (es ++ (t, Some p) ∷ []) ≡ first_open es
first-added [] t p = refl
first-added (e ∷ es) t p = ap (λ n. cond (is_some e.1) zero (suc n)) (first-added es t p)

-- the marks of ended transactions are dropped
abbrev pub swept : Marks → Marks
swept es = filter (λ e. is_some e.1) es

pub first-swept : (es : Marks) → first_open (swept es) ≡ 0
first-swept [] = refl
first-swept (e ∷ es) =
    elim (is_some e.1) as (λ m. is_some e.1 ≡ m → first_open (cond m (e ∷ swept es) (swept es)) ≡ 0) [
      | true ↦ λ s. ap (λ m. cond m zero (suc (first_open (swept es)))) s
      | false ↦ λ s. first-swept es
    ] refl

pub marks-swept : (es : Marks) → open_marks (swept es) ≡ open_marks es
marks-swept [] = refl
marks-swept (e ∷ es) =
    elim (is_some e.1) as (λ m. is_some e.1 ≡ m → open_marks (cond m (e ∷ swept es) (swept es)) ≡ cons_option (open_mark e) (open_marks es)) [
      | true ↦ λ s. ap (λ os. cons_option (open_mark e) os) (marks-swept es)
      | false ↦ λ s. marks-swept es ∙ unmarked e.1 s
    ] refl
  where
    unmarked : (v : Option ℕ) → is_some v ≡ false → open_marks es ≡ cons_option (option_map (λ pos. (e.0, pos)) v) (open_marks es)
    unmarked (Some p) s = absurd (true≢false s)
    unmarked None s = refl

length-kept : (t : ℕ) (v : Option ℕ) (os : List (ℕ × ℕ)) → is_some v ≡ true → length (cons_option (option_map (λ pos. (t, pos)) v) os) ≡ suc (length os)
length-kept t (Some p) os s = refl
length-kept t None os s = absurd (true≢false (sym s))

pub length-swept : (es : Marks) → length (open_marks (swept es)) ≡ length (swept es)
length-swept [] = refl
length-swept (e ∷ es) =
    elim (is_some e.1) as (λ m. is_some e.1 ≡ m → length (open_marks (cond m (e ∷ swept es) (swept es))) ≡ length (cond m (e ∷ swept es) (swept es))) [
      | true ↦ λ s. length-kept e.0 e.1 (open_marks (swept es)) s ∙ ap suc (length-swept es)
      | false ↦ λ s. length-swept es
    ] refl

pub absent-swept : (t : ℕ) (es : Marks) → has_txn (open_marks es) t ≡ false → lookup (λ k. t == k) (swept es) ≡ None
absent-swept t [] h = refl
absent-swept t (e ∷ es) h =
    let parts = or_parts (is_some e.1 && (t == e.0)) (has_txn (open_marks es) t) (sym (has-mark t e (open_marks es)) ∙ h) in
    elim (is_some e.1) as (λ m. is_some e.1 ≡ m → lookup (λ k. t == k) (cond m (e ∷ swept es) (swept es)) ≡ None) [
      | true ↦ λ s. ap (λ m. cond m (Some e.1) (lookup (λ k. t == k) (swept es))) (other (is_some e.1) (t == e.0) s parts.0) ∙ absent-swept t es parts.1
      | false ↦ λ s. absent-swept t es parts.1
    ] refl
  where
    other : (v m : Bool) → v ≡ true → (v && m) ≡ false → m ≡ false
    other v m e f = grind arith

pub absent_found : (o : Option (Option ℕ)) → is_some o ≡ false → open_value o ≡ false
absent_found (Some v) h = absurd (true≢false h)
absent_found None h = refl

pub found_open : (t : ℕ) (es : Marks) (o : Option ℕ) → MatchOption o (has_txn (open_marks es) t ≡ false) (IsOpenAt t es) → is_some o ≡ has_txn (open_marks es) t
found_open t es (Some at) h = sym (has-placed t es at h)
found_open t es None h = sym h
