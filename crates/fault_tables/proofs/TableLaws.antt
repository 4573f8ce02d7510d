-- What a table has after each step of making it.
use Rattle.std.proofs.Common.{◌≡◌, ◌⊎◌, ◌↔◌, inl, inr, ℕ, ◌+◌, ◌<◌, List, [], ◌∷◌, ◌++◌, map, Option, Some, None, IfSome, sym, ap, subst, arith}
use Rattle.std.specs.List.{Contains}
use Rattle.std.proofs.lemmas.Bool.{cases_eq}
use Rattle.std.proofs.lemmas.List.Elements.{Contains-append_left, Contains-append_right, Contains-push, Contains-push_cases, Contains-append_cases}
use Rattle.rdf_disk.specs.declared.fault.Tear.{Tear}
use Rattle.rdf_disk.specs.declared.fault.Tear.TheVariants.{Lose, Keep, Mix}
use Rattle.fault_tables.specs.declared.Row.{Row}
use Rattle.fault_tables.specs.declared.Stop.{Stop}
use Rattle.fault_tables.specs.Tables.{rows_of}

abbrev stop_at : ℕ → Tear → Stop
stop_at n t = record { calls = n; tear = t }

-- the stops after n calls, behind those after fewer
abbrev pub three : List Stop → ℕ → List Stop
three xs n = ((xs ++ stop_at n Lose ∷ []) ++ stop_at n Keep ∷ []) ++ stop_at n Mix ∷ []

three_old : (xs : List Stop) (n : ℕ) (s : Stop) → Contains xs s → Contains (three xs n) s
three_old xs n s has = Contains-append_left _ _ s (Contains-append_left _ _ s (Contains-append_left xs _ s has))

three_new : (xs : List Stop) (n : ℕ) (t : Tear) → Contains (three xs n) (stop_at n t)
three_new xs n Lose = Contains-append_left _ _ _ (Contains-append_left _ _ _ (Contains-push xs (stop_at n Lose)))
three_new xs n Keep = Contains-append_left _ _ _ (Contains-push (xs ++ stop_at n Lose ∷ []) (stop_at n Keep))
three_new xs n Mix = Contains-push ((xs ++ stop_at n Lose ∷ []) ++ stop_at n Keep ∷ []) (stop_at n Mix)

below_one : (xs : List Stop) (n : ℕ) (t : Tear) (s : Stop) → ((s : Stop) → Contains xs s → s.calls < n + 1) → Contains (xs ++ stop_at n t ∷ []) s → s.calls < n + 1
below_one xs n t s below has = elim (Contains-push_cases xs (stop_at n t) s has) [
  | inl old ↦ below s old
  | inr is ↦ let same : n ≡ s.calls = ap (λ (x : Stop). x.calls) is in omega arith
]

pub three_more : (xs : List Stop) (n : ℕ) → ((s : Stop) → Contains xs s ↔ (s.calls < n)) → (s : Stop) → Contains (three xs n) s ↔ (s.calls < n + 1)
three_more xs n here s = (
  below_one _ n Mix s (λ s2. below_one _ n Keep s2 (λ s3. below_one xs n Lose s3 (λ s4 has. let old = (here s4).0 has in omega (arith, old)))),
  λ below. elim (cases_eq s.calls n) [
    | inl is ↦ subst (λ (x : Stop). Contains (three xs n) x) (ap (λ (k : ℕ). stop_at k s.tear) (sym is)) (three_new xs n s.tear)
    | inr other ↦ three_old xs n s ((here s).1 (omega arith))
  ],
)

none_has : {X : Type 0} (q : X) → Contains [] q → ⊥
none_has q (k, below, is) = omega (arith, below)

cons_cases : {X : Type 0} (x : X) (xs : List X) (q : X) → Contains (x ∷ xs) q → (x ≡ q) ⊎ Contains xs q
cons_cases x xs q has = elim (Contains-append_cases (x ∷ []) xs q has) [
  | inl first ↦ elim (Contains-push_cases [] x q first) [
    | inl none ↦ absurd (none_has q none)
    | inr is ↦ inl is
  ]
  | inr rest ↦ inr rest
]

cons_first : {X : Type 0} (x : X) (xs : List X) → Contains (x ∷ xs) x
cons_first x xs = Contains-append_left (x ∷ []) xs x (Contains-push [] x)

cons_rest : {X : Type 0} (x : X) (xs : List X) (q : X) → Contains xs q → Contains (x ∷ xs) q
cons_rest x xs q has = Contains-append_right (x ∷ []) xs q has

map_has : (f : Stop → Row) (xs : List Stop) (s : Stop) → Contains xs s → Contains (map f xs) (f s)
map_has f [] s has = absurd (none_has s has)
map_has f (x ∷ xs) s has = elim (cons_cases x xs s has) [
  | inl is ↦ subst (λ (y : Stop). Contains (f x ∷ map f xs) (f y)) is (cons_first (f x) (map f xs))
  | inr rest ↦ cons_rest (f x) (map f xs) (f s) (map_has f xs s rest)
]

map_from : (f : Stop → Row) (xs : List Stop) (r : Row) → Contains (map f xs) r → (s : Stop) × Contains xs s × (f s ≡ r)
map_from f [] r has = absurd (none_has r has)
map_from f (x ∷ xs) r has = elim (cons_cases (f x) (map f xs) r has) [
  | inl is ↦ (x, cons_first x xs, is)
  | inr rest ↦ let back = map_from f xs r rest in (back.0, cons_rest x xs back.0 back.1, back.2)
]

abbrev Again : ℕ → Row → Type 0
Again limit row = IfSome row.restart (λ stop. stop.calls < limit)

abbrev twice : Stop → Stop → Row
twice step stop = record { step = step; restart = Some stop }

module _ (step : Stop) (again : List Stop) (limit : ℕ) (all : (s : Stop) → Contains again s ↔ (s.calls < limit)) where
  rows_are : (row : Row) → Contains (rows_of step again) row → (step ≡ row.step) × Again limit row
  rows_are row has = elim (cons_cases (record { step = step; restart = None }) (map (twice step) again) row has) [
    | inl is ↦ (ap (λ (r : Row). r.step) is, subst (Again limit) is tt)
    | inr rest ↦ let from = map_from (twice step) again row rest in (ap (λ (r : Row). r.step) from.2, subst (Again limit) from.2 ((all from.0).0 from.1))
  ]

  rows_have : (x : Option Stop) → IfSome x (λ stop. stop.calls < limit) → Contains (rows_of step again) (record { step = step; restart = x })
  rows_have None fits = cons_first (record { step = step; restart = None }) (map (twice step) again)
  rows_have (Some s) fits = cons_rest (record { step = step; restart = None }) (map (twice step) again) (twice step s) (map_has (twice step) again s ((all s).1 fits))

  pub rows_more : (xs : List Row) (past : List Stop) → ((row : Row) → Contains xs row ↔ (Contains past row.step × Again limit row))
      → (row : Row) → Contains (xs ++ rows_of step again) row ↔ (Contains (past ++ step ∷ []) row.step × Again limit row)
  rows_more xs past here row = (
    λ has. elim (Contains-append_cases xs (rows_of step again) row has) [
      | inl old ↦ let was = (here row).0 old in (Contains-append_left past (step ∷ []) row.step was.0, was.1)
      | inr new ↦ let is = rows_are row new in (subst (λ (s : Stop). Contains (past ++ step ∷ []) s) is.0 (Contains-push past step), is.1)
    ],
    λ (has, fits). elim (Contains-push_cases past step row.step has) [
      | inl old ↦ Contains-append_left xs (rows_of step again) row ((here row).1 (old, fits))
      | inr is ↦ Contains-append_right xs (rows_of step again) row (subst (λ (s : Stop). Contains (rows_of step again) (record { step = s; restart = row.restart })) is (rows_have row.restart fits))
    ],
  )
