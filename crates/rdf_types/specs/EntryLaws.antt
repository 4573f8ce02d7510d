-- Laws of entries whose positions rise strictly.
use Rattle.std.proofs.Common.{◌≡◌, ℕ, zero, suc, ◌+◌, ◌<◌, ◌≤◌, Bool, true, false, nat_le, nat_lt, if◌then◌else◌, List, [], ◌∷◌, ◌++◌, length, take, drop, filter, get_or, refl, sym, ◌∙◌, ap, arith}
use Rattle.std.specs.List.Sorted.{IsNonDecreasingBy}
use Rattle.std.proofs.lemmas.Bool.{lt-ltb, le-ltb, ltb-true, ltb-false, leb-true}
use Rattle.rdf_types.specs.declared.records.Stamped.{Stamped}
use Rattle.rdf_types.specs.Filters.{filter_none, length_filter}
use Rattle.rdf_types.specs.Entries.{RiseFrom, Rises, since, before}

-- ---- positions that rise from one on

-- they do not fall
pub no_less : (at : ℕ) (l : List Stamped) → RiseFrom at l → (j : ℕ) (d : Stamped) → j < length l → at ≤ (get_or l j d).pos
no_less at [] rise j d below = absurd (omega (arith, below))
no_less at (s ∷ rest) rise zero d below = rise.0
no_less at (s ∷ rest) rise (suc j) d below = omega (arith, rise.0, no_less (s.pos + 1) rest rise.1 j d (omega (arith, below)))

pub not_falling : (at : ℕ) (l : List Stamped) → RiseFrom at l → IsNonDecreasingBy (λ s. s.pos) l
not_falling at [] rise i j d le below = absurd (omega (arith, below))
not_falling at (s ∷ rest) rise zero zero d le below = omega arith
not_falling at (s ∷ rest) rise zero (suc j) d le below = omega (arith, no_less (s.pos + 1) rest rise.1 j d (omega (arith, below)))
not_falling at (s ∷ rest) rise (suc i) zero d le below = absurd (omega (arith, le))
not_falling at (s ∷ rest) rise (suc i) (suc j) d le below = not_falling (s.pos + 1) rest rise.1 i j d (omega (arith, le)) (omega (arith, below))

-- they rise from a lower one on
pub rise_low : (low at : ℕ) (l : List Stamped) → low ≤ at → RiseFrom at l → RiseFrom low l
rise_low low at [] le rise = tt
rise_low low at (s ∷ rest) le rise = (omega (arith, le, rise.0), rise.1)

pub rise_all : (at : ℕ) (l : List Stamped) → RiseFrom at l → RiseFrom 0 l
rise_all at l rise = rise_low 0 at l (omega arith) rise

-- so do those of some of the entries
pub rise_kept : (p : Stamped → Bool) (at : ℕ) (l : List Stamped) → RiseFrom at l → RiseFrom at (filter p l)
rise_kept p at [] rise = tt
rise_kept p at (s ∷ rest) rise =
    let later : RiseFrom (s.pos + 1) (filter p rest) = rise_kept p (s.pos + 1) rest rise.1 in
    elim (p s) as (λ b. RiseFrom at (if b then s ∷ filter p rest else filter p rest)) [
      | true ↦ (rise.0, later)
      | false ↦ rise_low at (s.pos + 1) (filter p rest) (omega (arith, rise.0)) later
    ]

-- the entries from a position on rise from there
pub rise_since : (p at : ℕ) (l : List Stamped) → RiseFrom at l → RiseFrom p (since p l)
rise_since p at [] rise = tt
rise_since p at (s ∷ rest) rise =
    elim (nat_le p s.pos) as (λ b. nat_le p s.pos ≡ b → RiseFrom p (if b then s ∷ since p rest else since p rest)) [
      | true ↦ λ e. (leb-true p s.pos e, rise_kept (λ x. nat_le p x.pos) (s.pos + 1) rest rise.1)
      | false ↦ λ e. rise_since p (s.pos + 1) rest rise.1
    ] refl

-- nothing stands below where the list begins
pub none_before : (at : ℕ) (l : List Stamped) → RiseFrom at l → before at l ≡ []
none_before at l rise = filter_none (λ s. nat_lt s.pos at) l (λ i d below. le-ltb (get_or l i d).pos at (no_less at l rise i d below))

-- ---- the entries below a position

-- below one that is below another
pub before_twice : (p q : ℕ) (l : List Stamped) → p ≤ q → before p (before q l) ≡ before p l
before_twice p q [] le = refl
before_twice p q (s ∷ rest) le =
    elim (nat_lt s.pos q) as (λ b. nat_lt s.pos q ≡ b → before p (if b then s ∷ before q rest else before q rest) ≡ before p (s ∷ rest)) [
      | true ↦ λ e. ap (λ (l : List Stamped). if nat_lt s.pos p then s ∷ l else l) (before_twice p q rest le)
      | false ↦ λ e. before_twice p q rest le ∙ sym (ap (λ (b : Bool). if b then s ∷ before p rest else before p rest) (le-ltb s.pos p (omega (arith, ltb-false s.pos q e, le))))
    ] refl

-- below that of an entry stand those before it
pub before_entry : (at : ℕ) (l : List Stamped) (i : ℕ) (d : Stamped) → i < length l → RiseFrom at l → before (get_or l i d).pos l ≡ take i l
before_entry at [] i d below rise = absurd (omega (arith, below))
before_entry at (s ∷ rest) zero d below rise = none_before s.pos (s ∷ rest) (omega arith, rise.1)
before_entry at (s ∷ rest) (suc i) d below rise =
    let more : s.pos + 1 ≤ (get_or rest i d).pos = no_less (s.pos + 1) rest rise.1 i d (omega (arith, below)) in
    ap (λ (b : Bool). if b then s ∷ before (get_or rest i d).pos rest else before (get_or rest i d).pos rest) (lt-ltb s.pos (get_or rest i d).pos (omega (arith, more)))
    ∙ ap (λ (l : List Stamped). s ∷ l) (before_entry (s.pos + 1) rest i d (omega (arith, below)) rise.1)

head_below : (s : Stamped) (l m : List Stamped) (b : Bool) → (if b then s ∷ l else l) ≡ s ∷ m → length l ≤ length m → b ≡ true
head_below s l m true e few = refl
head_below s l m false e few = absurd (omega (arith, ap (λ (k : List Stamped). length k) e, few))

rest_below : (s : Stamped) (l m : List Stamped) (b : Bool) → (if b then s ∷ l else l) ≡ s ∷ m → length l ≤ length m → l ≡ m
rest_below s l m true e few = ap (λ (k : List Stamped). drop 1 k) e
rest_below s l m false e few = absurd (omega (arith, ap (λ (k : List Stamped). length k) e, few))

-- an entry of a list that ends below a position
pub entry_below : (end : ℕ) (l : List Stamped) (i : ℕ) (d : Stamped) → i < length l → before end l ≡ l → (get_or l i d).pos < end
entry_below end [] i d below all = absurd (omega (arith, below))
entry_below end (s ∷ rest) zero d below all = ltb-true s.pos end (head_below s (before end rest) rest (nat_lt s.pos end) all (length_filter (λ x. nat_lt x.pos end) rest))
entry_below end (s ∷ rest) (suc i) d below all = entry_below end rest i d (omega (arith, below)) (rest_below s (before end rest) rest (nat_lt s.pos end) all (length_filter (λ x. nat_lt x.pos end) rest))

-- those from one position on, and those below another: in either order
pub before_since : (p q : ℕ) (l : List Stamped) → before q (since p l) ≡ since p (before q l)
before_since p q [] = refl
before_since p q (s ∷ rest) =
    let ih = before_since p q rest in
    elim (nat_le p s.pos) as (λ b. nat_le p s.pos ≡ b → before q (if b then s ∷ since p rest else since p rest) ≡ since p (if nat_lt s.pos q then s ∷ before q rest else before q rest)) [
      | true ↦ λ e. elim (nat_lt s.pos q) as (λ b. (if b then s ∷ before q (since p rest) else before q (since p rest)) ≡ since p (if b then s ∷ before q rest else before q rest)) [
        | true ↦ ap (λ (l : List Stamped). s ∷ l) ih ∙ ap (λ (b : Bool). if b then s ∷ since p (before q rest) else since p (before q rest)) (sym e)
        | false ↦ ih
      ]
      | false ↦ λ e. elim (nat_lt s.pos q) as (λ b. before q (since p rest) ≡ since p (if b then s ∷ before q rest else before q rest)) [
        | true ↦ ih ∙ ap (λ (b : Bool). if b then s ∷ since p (before q rest) else since p (before q rest)) (sym e)
        | false ↦ ih
      ]
    ] refl

-- ---- positions that lie from one number to below another

pub rises_low : (low at : ℕ) (l : List Stamped) (high : ℕ) → low ≤ at → Rises at l high → Rises low l high
rises_low low at [] high le h = omega (arith, le, h)
rises_low low at (e ∷ es) high le h = (omega (arith, le, h.0), h.1)

pub rises_le : (low : ℕ) (l : List Stamped) (high : ℕ) → Rises low l high → low ≤ high
rises_le low [] high h = h
rises_le low (e ∷ es) high h = omega (arith, h.0, rises_le (suc e.pos) es high h.1)

-- one list behind another
pub rises_append : (low : ℕ) (xs : List Stamped) (mid : ℕ) (ys : List Stamped) (high : ℕ) → Rises low xs mid → Rises mid ys high → Rises low (xs ++ ys) high
rises_append low [] mid ys high h k = rises_low low mid ys high h k
rises_append low (x ∷ xs) mid ys high h k = (h.0, rises_append (suc x.pos) xs mid ys high h.1 k)

-- they rise from the lower number on
pub rises_from : (low : ℕ) (l : List Stamped) (high : ℕ) → Rises low l high → RiseFrom low l
rises_from low [] high h = tt
rises_from low (s ∷ rest) high h = (h.0, rise_low (s.pos + 1) (suc s.pos) rest (omega arith) (rises_from (suc s.pos) rest high h.1))

-- and all of them lie below the higher one
pub rises_below : (low : ℕ) (l : List Stamped) (high : ℕ) → Rises low l high → before high l ≡ l
rises_below low [] high h = refl
rises_below low (s ∷ rest) high h =
    let under : suc s.pos ≤ high = rises_le (suc s.pos) rest high h.1 in
    ap (λ (b : Bool). if b then s ∷ before high rest else before high rest) (lt-ltb s.pos high (omega (arith, under)))
    ∙ ap (λ (l : List Stamped). s ∷ l) (rises_below (suc s.pos) rest high h.1)

-- what rises from a number on and lies below another
pub rises_between : (low : ℕ) (l : List Stamped) (high : ℕ) → low ≤ high → RiseFrom low l → before high l ≡ l → Rises low l high
rises_between low [] high le rise all = le
rises_between low (s ∷ rest) high le rise all =
    let under = entry_below high (s ∷ rest) zero s (omega arith) all in
    let others = rest_below s (before high rest) rest (nat_lt s.pos high) all (length_filter (λ x. nat_lt x.pos high) rest) in
    (rise.0, rises_low (suc s.pos) (s.pos + 1) rest high (omega arith) (rises_between (s.pos + 1) rest high (omega (arith, under)) rise.1 others))
