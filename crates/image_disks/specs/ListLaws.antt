-- Laws of lists of entries, and of lists by position.
use Rattle.std.proofs.Common.{◌≡◌, ◌≢◌, ℕ, zero, suc, ◌+◌, ◌-◌, ◌<◌, ◌≤◌, nat_lt, if◌then◌else◌, Bool, true, false, List, [], ◌∷◌, ◌++◌, Option, Some, None, refl, sym, ap, ap₂, ◌∙◌, subst, arith}
use Rattle.std.proofs.lemmas.Bool.{eq-eqb, ne_eqb, ltb-true, ltb-false}
use Rattle.rdf_types.specs.declared.records.Record.{Record}
use Rattle.rdf_types.specs.declared.records.Stamped.{Stamped}
use Rattle.image_disks.specs.Blocks.{found, AreEntries}
use Rattle.image_disks.specs.Values.{at_pos, listed}
use Rattle.image_disks.specs.BlockLaws.{found_before}

-- ---- entries

-- the first one is found at its position
pub found_same : (s : Stamped) (rest : List Stamped) (i : ℕ) → s.pos ≡ i → found (s ∷ rest) i ≡ Some s.rec
found_same s rest i e = ap (λ (b : Bool). if b then Some s.rec else found rest i) (eq-eqb s.pos i e)

-- and elsewhere what the others have
pub found_other : (s : Stamped) (rest : List Stamped) (i : ℕ) → s.pos ≢ i → found (s ∷ rest) i ≡ found rest i
found_other s rest i e = ap (λ (b : Bool). if b then Some s.rec else found rest i) (ne_eqb s.pos i e)

-- entries from a position on are entries from a lower one on
pub entries_low : (may : Record → Bool) (low from to : ℕ) (l : List Stamped) → low ≤ from → AreEntries may from to l → AreEntries may low to l
entries_low may low from to [] le es = tt
entries_low may low from to (s ∷ rest) le es = (omega (arith, le, es.0), es.1, es.2, es.3)

-- ---- lists by position

-- two lists by position are the same where the entries are
pub listed_same : (f g : ℕ → Option Record) (at n : ℕ) → ((i : ℕ) → at ≤ i → i < at + n → f i ≡ g i) → listed f at n ≡ listed g at n
listed_same f g at zero same = refl
listed_same f g at (suc n) same =
    ap₂ (λ (x : Option Record) (l : List Stamped). at_pos at x l) (same at (omega arith) (omega arith))
    (listed_same f g (at + 1) n (λ i above below. same i (omega (arith, above)) (omega (arith, below))))

pos_other : (x : Option Record) (at : ℕ) (rest : List Stamped) (i : ℕ) → at ≢ i → found (at_pos at x rest) i ≡ found rest i
pos_other None at rest i h = refl
pos_other (Some r) at rest i h = ap (λ (b : Bool). if b then Some r else found rest i) (ne_eqb at i h)

pos_same : (x : Option Record) (at : ℕ) (rest : List Stamped) → found rest at ≡ None → found (at_pos at x rest) at ≡ x
pos_same None at rest h = h
pos_same (Some r) at rest h = ap (λ (b : Bool). if b then Some r else found rest at) (eq-eqb at at refl)

found_below : (f : ℕ → Option Record) (at n i : ℕ) → i < at → found (listed f at n) i ≡ None
found_below f at zero i low = refl
found_below f at (suc n) i low = pos_other (f at) at (listed f (at + 1) n) i (λ q. absurd (omega (arith, low, q))) ∙ found_below f (at + 1) n i (omega (arith, low))

-- what is found in a list by position
pub found_listed : (f : ℕ → Option Record) (at n i : ℕ) → at ≤ i → i < at + n → found (listed f at n) i ≡ f i
found_listed f at zero i above below = absurd (omega (arith, above, below))
found_listed f at (suc n) i above below =
    elim (nat_lt at i) as (λ b. nat_lt at i ≡ b → found (listed f at (suc n)) i ≡ f i) [
      | true ↦ λ e. let lt : at < i = ltb-true at i e in
          pos_other (f at) at (listed f (at + 1) n) i (λ q. absurd (omega (arith, lt, q))) ∙ found_listed f (at + 1) n i (omega (arith, lt)) (omega (arith, below))
      | false ↦ λ e. let same : at ≡ i = omega (arith, above, ltb-false at i e) in
          subst (λ (k : ℕ). found (listed f at (suc n)) k ≡ f k) same (pos_same (f at) at (listed f (at + 1) n) (found_below f (at + 1) n at (omega arith)))
    ] refl

pos_entries : (x : Option Record) (at to : ℕ) (rest : List Stamped) → at < to → AreEntries (λ r. true) (at + 1) to rest → AreEntries (λ r. true) at to (at_pos at x rest)
pos_entries None at to rest h es = entries_low (λ r. true) at (at + 1) to rest (omega arith) es
pos_entries (Some r) at to rest h es = (omega arith, h, refl, es)

-- the positions of a list by position rise
pub entries_listed : (f : ℕ → Option Record) (at n to : ℕ) → at + n ≤ to → AreEntries (λ r. true) at to (listed f at n)
entries_listed f at zero to few = tt
entries_listed f at (suc n) to few = pos_entries (f at) at to (listed f (at + 1) n) (omega (arith, few)) (entries_listed f (at + 1) n to (omega (arith, few)))

listed_none : (at n : ℕ) → listed (λ i. found [] i) at n ≡ []
listed_none at zero = refl
listed_none at (suc n) = listed_none (at + 1) n

-- entries whose positions rise are the list of what is found in them
pub listed_found : (n : ℕ) (l : List Stamped) (at to : ℕ) → to ≡ at + n → AreEntries (λ r. true) at to l → listed (λ i. found l i) at n ≡ l
listed_found n [] at to e es = listed_none at n
listed_found zero (s ∷ rest) at to e es = absurd (omega (arith, e, es.0, es.1))
listed_found (suc n) (s ∷ rest) at to e es =
    elim (nat_lt at s.pos) as (λ b. nat_lt at s.pos ≡ b → listed (λ i. found (s ∷ rest) i) at (suc n) ≡ s ∷ rest) [
      | true ↦ λ t. let lt : at < s.pos = ltb-true at s.pos t in
          let later : AreEntries (λ r. true) (at + 1) to (s ∷ rest) = (omega (arith, lt), es.1, es.2, es.3) in
          ap (λ (x : Option Record). at_pos at x (listed (λ i. found (s ∷ rest) i) (at + 1) n)) (found_before (λ r. true) (at + 1) to (s ∷ rest) at later (omega arith))
          ∙ listed_found n (s ∷ rest) (at + 1) to (omega (arith, e)) later
      | false ↦ λ t. let same : at ≡ s.pos = omega (arith, es.0, ltb-false at s.pos t) in
          let behind : s.pos + 1 ≡ at + 1 = omega (arith, same) in
          ap (λ (x : Option Record). at_pos at x (listed (λ i. found (s ∷ rest) i) (at + 1) n)) (found_same s rest at (sym same))
          ∙ ap₂ (λ (p : ℕ) (l : List Stamped). let s : Stamped = record { pos = p; rec = s.rec } in s ∷ l) same
          (listed_same (λ i. found (s ∷ rest) i) (λ i. found rest i) (at + 1) n (λ i above below. found_other s rest i (λ q. absurd (omega (arith, same, above, q))))
          ∙ listed_found n rest (at + 1) to (omega (arith, e)) (subst (λ (k : ℕ). AreEntries (λ r. true) k to rest) behind es.3))
    ] refl

-- a list by position in two parts
pub listed_more : (f : ℕ → Option Record) (at m n : ℕ) → listed f at (m + n) ≡ listed f at m ++ listed f (at + m) n
listed_more f at zero n = ap₂ (λ (k a : ℕ). listed f a k) (let e : 0 + n ≡ n = omega arith in e) (let e : at ≡ at + 0 = omega arith in e)
listed_more f at (suc m) n =
    ap (λ (k : ℕ). listed f at k) (let e : suc m + n ≡ suc (m + n) = omega arith in e)
    ∙ ap (λ (l : List Stamped). at_pos at (f at) l) (listed_more f (at + 1) m n ∙ ap (λ (k : ℕ). listed f (at + 1) m ++ listed f k n) (let e : at + 1 + m ≡ at + suc m = omega arith in e))
    ∙ pos_append (f at) at (listed f (at + 1) m) (listed f (at + suc m) n)
  where
    pos_append : (x : Option Record) (at : ℕ) (xs ys : List Stamped) → at_pos at x (xs ++ ys) ≡ at_pos at x xs ++ ys
    pos_append None at xs ys = refl
    pos_append (Some r) at xs ys = refl

-- from one position to another, by one between
pub listed_split : (f : ℕ → Option Record) (a b c : ℕ) → a ≤ b → b ≤ c → listed f a (c - a) ≡ listed f a (b - a) ++ listed f b (c - b)
listed_split f a b c h g =
    ap (λ (k : ℕ). listed f a k) (let e : c - a ≡ (b - a) + (c - b) = omega (arith, h, g) in e)
    ∙ listed_more f a (b - a) (c - b)
    ∙ ap (λ (k : ℕ). listed f a (b - a) ++ listed f k (c - b)) (let e : a + (b - a) ≡ b = omega (arith, h) in e)
