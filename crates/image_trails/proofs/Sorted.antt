-- Lists of entries whose positions rise.
use Rattle.std.proofs.Common.{◌≡◌, ◌≢◌, inl, inr, ℕ, zero, suc, ◌+◌, ◌-◌, ◌<◌, ◌≤◌, Bool, true, false, nat_le, nat_lt, not, if◌then◌else◌, List, [], ◌∷◌, ◌++◌, length, take, drop, filter, get_or, set, map, Option, Some, None, refl, sym, ◌∙◌, ap, ap₂, subst, arith, append_assoc, drop-cons}
use Rattle.std.specs.declared.alloc.Global.{Global}
use Rattle.std.specs.declared.collections.VecDeque.{VecDeque}
use Rattle.std.proofs.lemmas.List.{append-nil, map-set, get_or-map, length-map, get_or-set_same, get_or-set_other}
use Rattle.std.specs.List.Sorted.{IsNonDecreasingBy}
use Rattle.std.proofs.Math.Seq.{take-append_seam}
use Rattle.std.proofs.lemmas.Bool.{cases_eq, le-leb, leb-true, lt-ltb, le-ltb, ltb-true, ltb-false}
use Rattle.std.proofs.lemmas.Bool.Decides.{nat_tests}
use Rattle.rdf_types.specs.declared.records.Record.{Record}
use Rattle.rdf_types.specs.declared.records.Stamped.{Stamped}
use Rattle.rdf_types.specs.Filters.{drop_filter}
use Rattle.rdf_types.specs.Entries.{Rises}
use Rattle.rdf_types.specs.EntryLaws.{rises_append}
use Rattle.image_disks.specs.Blocks.{found, AreEntries}
use Rattle.image_disks.specs.Values.{listed, at_pos}
use Rattle.image_disks.specs.ListLaws.{found_same, found_other, entries_low}
use Rattle.image_trails.specs.Lists.{IsBare, IsNext, IsPast}

-- what is found in a list of which the entries at some positions are left
pub found_kept : (p : ℕ → Bool) (l : List Stamped) (i : ℕ) → found (filter (λ s. p s.pos) l) i ≡ (if p i then found l i else None)
found_kept p [] i = elim (p i) as (λ b. found [] i ≡ (if b then found [] i else None)) [ true ↦ refl | false ↦ refl ]
found_kept p (s ∷ rest) i =
    let left : List Stamped = filter (λ (x : Stamped). p x.pos) rest in
    elim (cases_eq s.pos i) [
      | inl same ↦
          let here : p i ≡ p s.pos = ap p (sym same) in
          elim (p s.pos) as (λ b. p s.pos ≡ b → found (if b then s ∷ left else left) i ≡ (if p i then found (s ∷ rest) i else None)) [
            | true ↦ λ e. found_same s left i same ∙ sym (ap (λ (b : Bool). if b then found (s ∷ rest) i else None) (here ∙ e) ∙ found_same s rest i same)
            | false ↦ λ e. found_kept p rest i ∙ ap (λ (b : Bool). if b then found rest i else None) (here ∙ e) ∙ sym (ap (λ (b : Bool). if b then found (s ∷ rest) i else None) (here ∙ e))
          ] refl
      | inr differs ↦
          let tail = found_kept p rest i ∙ ap (λ (x : Option Record). if p i then x else None) (sym (found_other s rest i differs)) in
          elim (p s.pos) as (λ b. found (if b then s ∷ left else left) i ≡ (if p i then found (s ∷ rest) i else None)) [
            | true ↦ found_other s left i differs ∙ tail
            | false ↦ tail
          ]
    ]

pub found_from : (at : ℕ) (l : List Stamped) (i : ℕ) → at ≤ i → found (filter (λ s. nat_le at s.pos) l) i ≡ found l i
found_from at l i above = found_kept (λ n. nat_le at n) l i ∙ ap (λ (b : Bool). if b then found l i else None) (le-leb at i above)

-- lists of entries: looser bounds, parts, and one after the other
pub entries_any : (may : Record → Bool) (from to : ℕ) (l : List Stamped) → AreEntries may from to l → AreEntries (λ r. true) from to l
entries_any may from to [] es = tt
entries_any may from to (s ∷ rest) es = (es.0, es.1, refl, entries_any may (s.pos + 1) to rest es.3)

pub entries_append : (may : Record → Bool) (from mid to : ℕ) (l part : List Stamped) → from ≤ mid → mid ≤ to → AreEntries may from mid l → AreEntries may mid to part → AreEntries may from to (l ++ part)
entries_append may from mid to [] part le fits es more = entries_low may from mid to part le more
entries_append may from mid to (s ∷ rest) part le fits es more = (es.0, omega (arith, es.1, fits), es.2, entries_append may (s.pos + 1) mid to rest part (omega (arith, es.1)) fits es.3 more)

pub entries_kept : (may : Record → Bool) (p : ℕ → Bool) (from to : ℕ) (l : List Stamped) → AreEntries may from to l → AreEntries may from to (filter (λ s. p s.pos) l)
entries_kept may p from to [] es = tt
entries_kept may p from to (s ∷ rest) es =
    let later : AreEntries may (s.pos + 1) to (filter (λ (x : Stamped). p x.pos) rest) = entries_kept may p (s.pos + 1) to rest es.3 in
    elim (p s.pos) as (λ b. AreEntries may from to (if b then s ∷ filter (λ (x : Stamped). p x.pos) rest else filter (λ (x : Stamped). p x.pos) rest)) [
      | true ↦ (es.0, es.1, es.2, later)
      | false ↦ entries_low may from (s.pos + 1) to (filter (λ (x : Stamped). p x.pos) rest) (omega (arith, es.0)) later
    ]

pub entries_cut : (may : Record → Bool) (at from to : ℕ) (l : List Stamped) → AreEntries may from to l → AreEntries may from at (filter (λ s. nat_lt s.pos at) l)
entries_cut may at from to [] es = tt
entries_cut may at from to (s ∷ rest) es =
    let later : AreEntries may (s.pos + 1) at (filter (λ (x : Stamped). nat_lt x.pos at) rest) = entries_cut may at (s.pos + 1) to rest es.3 in
    elim (nat_lt s.pos at) as (λ b. nat_lt s.pos at ≡ b → AreEntries may from at (if b then s ∷ filter (λ (x : Stamped). nat_lt x.pos at) rest else filter (λ (x : Stamped). nat_lt x.pos at) rest)) [
      | true ↦ λ e. (es.0, grind (arith, nat_tests, e), es.2, later)
      | false ↦ λ e. entries_low may from (s.pos + 1) at (filter (λ (x : Stamped). nat_lt x.pos at) rest) (omega (arith, es.0)) later
    ] refl

-- their positions rise
pos_no_less : (may : Record → Bool) (from to : ℕ) (l : List Stamped) → AreEntries may from to l → (j : ℕ) (d : Stamped) → j < length l → from ≤ (get_or l j d).pos
pos_no_less may from to [] es j d below = absurd (omega (arith, below))
pos_no_less may from to (s ∷ rest) es zero d below = es.0
pos_no_less may from to (s ∷ rest) es (suc j) d below = omega (arith, es.0, pos_no_less may (s.pos + 1) to rest es.3 j d (omega (arith, below)))

pub positions_rise : (may : Record → Bool) (from to : ℕ) (l : List Stamped) → AreEntries may from to l → IsNonDecreasingBy (λ s. s.pos) l
positions_rise may from to [] es i j d le below = absurd (omega (arith, below))
positions_rise may from to (s ∷ rest) es zero zero d le below = omega arith
positions_rise may from to (s ∷ rest) es zero (suc j) d le below = omega (arith, pos_no_less may (s.pos + 1) to rest es.3 j d (omega (arith, below)))
positions_rise may from to (s ∷ rest) es (suc i) zero d le below = absurd (omega (arith, le))
positions_rise may from to (s ∷ rest) es (suc i) (suc j) d le below = positions_rise may (s.pos + 1) to rest es.3 i j d (omega (arith, le)) (omega (arith, below))

-- nothing is found under the positions of a list
found_under : (l : List Stamped) (i : ℕ) → ((j : ℕ) (d : Stamped) → j < length l → i < (get_or l j d).pos) → found l i ≡ None
found_under [] i under = refl
found_under (s ∷ rest) i under =
    found_other s rest i (λ e. omega (arith, e, under zero s (omega arith))) ∙ found_under rest i (λ j d below. under (suc j) d (omega (arith, below)))

head_passes : (p : Stamped → Bool) (l : List Stamped) (e : Stamped) (rest : List Stamped) → filter p l ≡ e ∷ rest → p e ≡ true
head_passes p [] e rest is = cc
head_passes p (x ∷ l) e rest is =
    elim (p x) as (λ b. p x ≡ b → (if b then x ∷ filter p l else filter p l) ≡ e ∷ rest → p e ≡ true) [
      | true ↦ λ t q. let same : x ≡ e = cc in ap p (sym same) ∙ t
      | false ↦ λ t q. head_passes p l e rest q
    ] refl is

-- the entry at the place where those from a position on begin
module _ (l : List Stamped) (at n : ℕ) (rises : IsNonDecreasingBy (λ s. s.pos) l) (from : drop n l ≡ filter (λ s. nat_le at s.pos) l) where
  pub none_from : length l ≤ n → (i : ℕ) → at ≤ i → found l i ≡ None
  none_from beyond i above = sym (found_from at l i above) ∙ ap (λ (x : List Stamped). found x i) (sym from ∙ drop_beyond n l beyond)
    where
      drop_beyond : (n : ℕ) (l : List Stamped) → length l ≤ n → drop n l ≡ []
      drop_beyond zero [] h = refl
      drop_beyond zero (x ∷ l) h = absurd (omega (arith, h))
      drop_beyond (suc n) [] h = refl
      drop_beyond (suc n) (x ∷ l) h = drop_beyond n l (omega (arith, h))

  module _ (e : Stamped) (below : n < length l) (is : e ≡ get_or l n e) where
    split : drop n l ≡ e ∷ drop (suc n) l
    split = drop-cons l n e below ∙ ap (λ (x : Stamped). x ∷ drop (suc n) l) (sym is)

    pub first_behind : at ≤ e.pos
    first_behind = leb-true at e.pos (head_passes (λ (s : Stamped). nat_le at s.pos) l e (drop (suc n) l) (sym from ∙ split))

    pub first_here : found l e.pos ≡ Some e.rec
    first_here = sym (found_from at l e.pos first_behind) ∙ ap (λ (x : List Stamped). found x e.pos) (sym from ∙ split) ∙ found_same e (drop (suc n) l) e.pos refl

    pub none_before : (i : ℕ) → at ≤ i → i < e.pos → found l i ≡ None
    none_before i above under =
        sym (found_from at l i above) ∙ ap (λ (x : List Stamped). found x i) (sym from)
        ∙ found_under (drop n l) i (λ j d jl.
        let place : get_or (drop n l) j d ≡ get_or l (n + j) d = get_or-dropped n l j d in
        let low : e.pos ≤ (get_or l (n + j) d).pos = le_from e.pos (get_or l n d).pos (get_or l (n + j) d).pos (ap (λ (s : Stamped). s.pos) (is ∙ any_default l n e d below)) (rises n (n + j) d (omega arith) (omega (arith, length_dropped n l, jl, below))) in
        subst (λ (s : Stamped). i < s.pos) (sym place) (omega (arith, low, under)))
      where
        le_from : (a b c : ℕ) → a ≡ b → b ≤ c → a ≤ c
        le_from a b c h k = omega arith

        get_or-dropped : (n : ℕ) (l : List Stamped) (j : ℕ) (d : Stamped) → get_or (drop n l) j d ≡ get_or l (n + j) d
        get_or-dropped zero l j d = ap (λ (k : ℕ). get_or l k d) (zero_left j)
          where
            zero_left : (j : ℕ) → j ≡ 0 + j
            zero_left j = omega arith
        get_or-dropped (suc n) [] j d = nothing_at (suc n + j) d j
          where
            nothing_at : (k : ℕ) (d : Stamped) (j : ℕ) → get_or [] j d ≡ get_or [] k d
            nothing_at k d j = nil j d ∙ sym (nil k d)
              where
                nil : (j : ℕ) (d : Stamped) → get_or [] j d ≡ d
                nil zero d = refl
                nil (suc j) d = refl
        get_or-dropped (suc n) (x ∷ l) j d = get_or-dropped n l j d ∙ shift (n + j) (suc n + j) (omega arith)
          where
            shift : (k m : ℕ) → m ≡ suc k → get_or l k d ≡ get_or (x ∷ l) m d
            shift k m h = ap (λ (m : ℕ). get_or (x ∷ l) m d) (sym h)

        any_default : (l : List Stamped) (n : ℕ) (d e : Stamped) → n < length l → get_or l n d ≡ get_or l n e
        any_default [] n d e h = absurd (omega (arith, h))
        any_default (x ∷ l) zero d e h = refl
        any_default (x ∷ l) (suc n) d e h = any_default l n d e (omega (arith, h))

        length_dropped : (n : ℕ) (l : List Stamped) → length (drop n l) ≡ length l - n
        length_dropped zero l = omega arith
        length_dropped (suc n) [] = omega arith
        length_dropped (suc n) (x ∷ l) = omega (arith, length_dropped n l)

-- the entries from a place on are those from a position on, where all before it are below the position and no others are
pub flipped : (a b : ℕ) → nat_le b a ≡ not (nat_lt a b)
flipped a b = grind (arith, nat_tests)

pub from_place : (l : List Stamped) (at n : ℕ) → IsPast n at l → n ≤ length l → ((i : ℕ) (s : Stamped) → n ≤ i → i < length l → at ≤ (get_or l i s).pos) → drop n l ≡ filter (λ s. nat_le at s.pos) l
from_place l at n past within behind =
    drop_filter (λ (s : Stamped). nat_lt s.pos at) (λ (s : Stamped). nat_le at s.pos) (λ s. flipped s.pos at) l n
    (λ i s low below. lt-ltb (get_or l i s).pos at (past i s below (omega (arith, below, within)))) (λ i s low below. le-ltb (get_or l i s).pos at (behind i s low below)) within

-- lists by position
pub listed_bare : (f : ℕ → Option Record) (at n : ℕ) → ((i : ℕ) → at ≤ i → i < at + n → f i ≡ None) → listed f at n ≡ []
listed_bare f at zero none = refl
listed_bare f at (suc n) none =
    ap (λ (x : Option Record). at_pos at x (listed f (at + 1) n)) (none at (omega arith) (omega arith))
    ∙ listed_bare f (at + 1) n (λ i above below. none i (omega (arith, above)) (omega (arith, below)))

pub listed_next : (f : ℕ → Option Record) (s : Stamped) (k all n at : ℕ) → at + k ≡ s.pos → all ≡ k + n + 1 → ((i : ℕ) → at ≤ i → i < s.pos → f i ≡ None) → f s.pos ≡ Some s.rec
    → listed f at all ≡ s ∷ listed f (s.pos + 1) n
listed_next f s k zero n at place total none here = absurd (omega (arith, total))
listed_next f s zero (suc m) n at place total none here =
    let e : at ≡ s.pos = omega (arith, place) in
    let e2 : m ≡ n = omega (arith, total) in
    ap (λ (x : Option Record). at_pos at x (listed f (at + 1) m)) (ap f e ∙ here)
    ∙ ap₂ (λ (a b : ℕ). record { pos = a; rec = s.rec } ∷ listed f (a + 1) b) e e2
listed_next f s (suc k) (suc m) n at place total none here =
    ap (λ (x : Option Record). at_pos at x (listed f (at + 1) m)) (none at (omega arith) (omega (arith, place)))
    ∙ listed_next f s k m n (at + 1) (omega (arith, place)) (omega (arith, total)) (λ i above below. none i (omega (arith, above)) below) here

-- a list of lists with one of them changed
abbrev pub each : List (VecDeque Stamped Global) → ℕ → List Stamped
each xs t = get_or (map (λ v. v.items) xs) t []

pub each_same : (xs : List (VecDeque Stamped Global)) (i : ℕ) (y : VecDeque Stamped Global) → i < length xs → each (set xs i y) i ≡ y.items
each_same xs i y below =
    let items : VecDeque Stamped Global → List Stamped = λ v. v.items in
    ap (λ (l : List (List Stamped)). get_or l i []) (map-set items xs i y) ∙ get_or-set_same (map items xs) i y.items [] (omega (arith, length-map xs items, below))

pub each_other : (xs : List (VecDeque Stamped Global)) (i t : ℕ) (y : VecDeque Stamped Global) → t ≢ i → each (set xs i y) t ≡ each xs t
each_other xs i t y differs =
    let items : VecDeque Stamped Global → List Stamped = λ v. v.items in
    ap (λ (l : List (List Stamped)). get_or l t []) (map-set items xs i y) ∙ get_or-set_other (map items xs) i t y.items [] differs

pub each_at : (xs : List (VecDeque Stamped Global)) (i : ℕ) (d : VecDeque Stamped Global) → i < length xs → (get_or xs i d).items ≡ each xs i
each_at xs i d below =
    let items : VecDeque Stamped Global → List Stamped = λ v. v.items in
    sym (get_or-map items xs i d [] below)

each_beyond : (xs : List (VecDeque Stamped Global)) (t : ℕ) → length xs ≤ t → each xs t ≡ []
each_beyond [] zero beyond = refl
each_beyond [] (suc t) beyond = refl
each_beyond (x ∷ xs) zero beyond = absurd (omega (arith, beyond))
each_beyond (x ∷ xs) (suc t) beyond = each_beyond xs t (omega (arith, beyond))

-- a change of each list, as far as there are lists
pub each_all : (Q : List Stamped → Type 0) (f : List Stamped → List Stamped) (xs ys : List (VecDeque Stamped Global)) (n : ℕ) → f [] ≡ [] → length xs ≤ n → length ys ≡ length xs
    → ((t : ℕ) → t < n → Q (each xs t) → each ys t ≡ f (each xs t)) → (t : ℕ) → Q (each xs t) → each ys t ≡ f (each xs t)
each_all Q f xs ys n none long same done t q =
    elim (nat_lt t n) as (λ b. nat_lt t n ≡ b → each ys t ≡ f (each xs t)) [
      | true ↦ λ e. done t (ltb-true t n e) q
      | false ↦ λ e. each_beyond ys t (omega (arith, ltb-false t n e, long, same)) ∙ sym (ap f (each_beyond xs t (omega (arith, ltb-false t n e, long))) ∙ none)
    ] refl

-- one list more of a loop over them
pub each_step : (Q : List Stamped → Type 0) (f : List Stamped → List Stamped) (xs ys : List (VecDeque Stamped Global)) (i : ℕ) (d y : VecDeque Stamped Global) → i < length ys → (Q (get_or ys i d).items → y.items ≡ f (get_or ys i d).items)
    → ((t : ℕ) → t < i → Q (each xs t) → each ys t ≡ f (each xs t)) → ((t : ℕ) → i ≤ t → each ys t ≡ each xs t) → (t : ℕ) → t < i + 1 → Q (each xs t) → each (set ys i y) t ≡ f (each xs t)
each_step Q f xs ys i d y below changed done left t near q =
    elim (cases_eq t i) [
      | inl same ↦
          let here : (get_or ys i d).items ≡ each xs i = each_at ys i d below ∙ left i (omega arith) in
          let q2 : Q (get_or ys i d).items = subst Q (ap (each xs) same ∙ sym here) q in
          subst (λ (k : ℕ). each (set ys i y) k ≡ f (each xs k)) (sym same) (each_same ys i y below ∙ changed q2 ∙ ap f here)
      | inr other ↦ each_other ys i t y other ∙ done t (omega (arith, near, other)) q
    ]

pub each_left : (xs ys : List (VecDeque Stamped Global)) (i : ℕ) (y : VecDeque Stamped Global) → ((t : ℕ) → i ≤ t → each ys t ≡ each xs t) → (t : ℕ) → i + 1 ≤ t → each (set ys i y) t ≡ each xs t
each_left xs ys i y left t far = each_other ys i t y (λ e. omega (arith, e, far)) ∙ left t (omega (arith, far))

-- copies so far, and the rest by position
module _ (f : ℕ → Option Record) (from at below most : ℕ) (es : List Stamped) (so_far : listed f from (below - from) ≡ es ++ listed f at (below - at)) where
  gathered_whole : IsBare f at below → listed f from (below - from) ≡ es
  gathered_whole bare = so_far ∙ ap (λ (l : List Stamped). es ++ l) (listed_bare f at (below - at) (λ i above under. bare i above (omega (arith, above, under)))) ∙ append-nil es

  pub gathered_all : IsBare f at below → length es ≤ most → es ≡ take most (listed f from (below - from))
  gathered_all bare few = sym (ap (take most) (gathered_whole bare) ∙ take_whole most es few)
    where
      take_whole : (n : ℕ) (l : List Stamped) → length l ≤ n → take n l ≡ l
      take_whole zero [] h = refl
      take_whole zero (x ∷ l) h = absurd (omega (arith, h))
      take_whole (suc n) [] h = refl
      take_whole (suc n) (x ∷ l) h = ap (λ (k : List Stamped). x ∷ k) (take_whole n l (omega (arith, h)))

  pub gathered_most : length es ≡ most → es ≡ take most (listed f from (below - from))
  gathered_most full = sym (ap (take most) so_far ∙ subst (λ (n : ℕ). take n (es ++ listed f at (below - at)) ≡ es) full (take-append_seam es (listed f at (below - at))))

  pub gathered_more : (s t : Stamped) → t ≡ s → IsNext f at below s → listed f from (below - from) ≡ (es ++ t ∷ []) ++ listed f (s.pos + 1) (below - (s.pos + 1))
  gathered_more s t same next =
      so_far
      ∙ ap (λ (l : List Stamped). es ++ l) (listed_next f s (s.pos - at) (below - at) (below - (s.pos + 1)) at (omega (arith, next.behind)) (omega (arith, next.behind, next.within)) next.none next.here
      ∙ ap (λ (x : Stamped). x ∷ listed f (s.pos + 1) (below - (s.pos + 1))) (sym same))
      ∙ sym (append_assoc es (t ∷ []) (listed f (s.pos + 1) (below - (s.pos + 1))))

-- entries that rise, with one behind them
pub rises_with : (low at : ℕ) (es : List Stamped) (s : Stamped) → Rises low es at → at ≤ s.pos → Rises low (es ++ s ∷ []) (s.pos + 1)
rises_with low at es s rise behind = rises_append low es at (s ∷ []) (s.pos + 1) rise (behind, omega arith)

-- what stands before a position stands before a later one
pub past_later : (place at next : ℕ) (l : List Stamped) → IsPast place at l → at ≤ next → IsPast place next l
past_later place at next l past later i s before within = omega (arith, past i s before within, later)

-- a list that is shorter behind a cut than the cut allows is whole
pub below_limit : (most : ℕ) (l : List Stamped) → length (take most l) < most → take most l ≡ l
below_limit zero l short = absurd (omega (arith, short))
below_limit (suc most) [] short = refl
below_limit (suc most) (x ∷ l) short = ap (λ (k : List Stamped). x ∷ k) (below_limit most l (omega (arith, short)))
