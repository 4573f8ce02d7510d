-- Elements of a list that are set apart by flags, and put back.
use Rattle.std.proofs.Common.{◌≡◌, ℕ, zero, suc, ◌+◌, ◌<◌, ◌≤◌, Bool, true, false, List, [], ◌∷◌, ◌++◌, length, map, drop, get_or, IfSome, Result, Ok, Err, refl, sym, ap, ◌∙◌, subst, arith, append_assoc}
use Rattle.std.specs.Prelude.{slice_get}
use Rattle.std.specs.List.{AllZip, AllByRecursion}
use Rattle.std.proofs.lemmas.List.{drop_more, drop_all, append-nil}
use Rattle.node_faults.specs.declared.NodeFault.{NodeFault}
use Rattle.rdf_backup.specs.FirstFaults.{Answer, answer_at, earlier, first_fault}
use Rattle.rdf_backup.specs.Parting.{Parted, Fits, merged, spread, IfCome}

pub next_flag : (flags : List Bool) (n : ℕ) (b : Bool) → n < length flags → get_or flags n false ≡ b → drop n flags ≡ b ∷ drop (n + 1) flags
next_flag flags n b within is = drop_more flags n false within ∙ ap (λ c. c ∷ drop (n + 1) flags) is

-- one element more is taken out of its place
module _ {X W : Type 0} (R : ℕ → X → W → Type 0) (T : List W → List X → Type 0) (n : ℕ) (flags : List Bool) (xs rest : List X) (x : X) (done : List W) (apart : List X) (is : xs ≡ x ∷ rest) (sized : length xs + n ≡ length flags)
    (before : (ws : List W) (others : List X) → Parted R n (drop n flags) xs ws others → T (done ++ ws) (apart ++ others)) where
  within : n < length flags
  within = omega (arith, sized, ap (λ l. length l) is)

  same_next : (ws : List W) (others : List X) → Parted R (n + 1) (drop (n + 1) flags) rest ws others → Parted R (suc n) (drop (n + 1) flags) rest ws others
  same_next ws others h = subst (λ k. Parted R k (drop (n + 1) flags) rest ws others) (let e : n + 1 ≡ suc n = omega arith in e) h

  pub out_flagged : get_or flags n false ≡ true → (w : W) (now : List W) → now ≡ done ++ w ∷ [] → R n x w → (ws : List W) (others : List X) → Parted R (n + 1) (drop (n + 1) flags) rest ws others → T (now ++ ws) (apart ++ others)
  out_flagged on w now is_now r ws others h = subst (λ l. T l (apart ++ others)) (sym (ap (λ l. l ++ ws) is_now ∙ append_assoc done (w ∷ []) ws))
      (before (w ∷ ws) others (subst (λ fs. Parted R n fs xs (w ∷ ws) others) (sym (next_flag flags n true within on)) (subst (λ l. Parted R n (true ∷ drop (n + 1) flags) l (w ∷ ws) others) (sym is) (r, same_next ws others h))))

  pub out_other : get_or flags n false ≡ false → (now : List X) → now ≡ apart ++ x ∷ [] → (ws : List W) (others : List X) → Parted R (n + 1) (drop (n + 1) flags) rest ws others → T (done ++ ws) (now ++ others)
  out_other off now is_now ws others h = subst (λ l. T (done ++ ws) l) (sym (ap (λ l. l ++ others) is_now ∙ append_assoc apart (x ∷ []) others))
      (before ws (x ∷ others) (subst (λ fs. Parted R n fs xs ws (x ∷ others)) (sym (next_flag flags n false within off)) (subst (λ l. Parted R n (false ∷ drop (n + 1) flags) l ws (x ∷ others)) (sym is) (refl, same_next ws others h))))

-- all are taken out
pub out_done : {X W : Type 0} (R : ℕ → X → W → Type 0) (T : List W → List X → Type 0) (n : ℕ) (flags : List Bool) (xs : List X) (done : List W) (apart : List X) → length flags ≤ n → length xs + n ≡ length flags →
    ((ws : List W) (others : List X) → Parted R n (drop n flags) xs ws others → T (done ++ ws) (apart ++ others)) → T done apart
out_done R T n flags [] done apart all sized before =
    subst (λ l. T l apart) (append-nil done) (subst (λ l. T (done ++ []) l) (append-nil apart) (before [] [] (subst (λ fs. Parted R n fs [] [] []) (sym (drop_all n flags all)) tt)))
out_done R T n flags (x ∷ xs) done apart all sized before = absurd (omega (arith, all, sized))

-- from the elements and what was made of them to what came of that
pub parted_then : {X V W : Type 0} (R : ℕ → X → V → Type 0) (S : V → W → Type 0) (T : ℕ → X → W → Type 0) → ((n : ℕ) (x : X) (v : V) (w : W) → R n x v → S v w → T n x w) → (n : ℕ) (flags : List Bool) (xs : List X) (vs : List V) (ws : List W) (others : List X) →
    Parted R n flags xs vs others → AllZip S vs ws → Parted T n flags xs ws others
parted_then R S T f n [] [] [] [] [] h g = tt
parted_then R S T f n [] [] [] [] (y ∷ others) h g = absurd h
parted_then R S T f n [] [] [] (w ∷ ws) others h g = absurd g
parted_then R S T f n [] [] (v ∷ vs) ws others h g = absurd h
parted_then R S T f n [] (x ∷ xs) vs ws others h g = absurd h
parted_then R S T f n (true ∷ flags) [] vs ws others h g = absurd h
parted_then R S T f n (true ∷ flags) (x ∷ xs) [] ws others h g = absurd h
parted_then R S T f n (true ∷ flags) (x ∷ xs) (v ∷ vs) [] others h g = absurd g
parted_then R S T f n (true ∷ flags) (x ∷ xs) (v ∷ vs) (w ∷ ws) others h g = (f n x v w h.0 g.0, parted_then R S T f (suc n) flags xs vs ws others h.1 g.1)
parted_then R S T f n (false ∷ flags) [] vs ws others h g = absurd h
parted_then R S T f n (false ∷ flags) (x ∷ xs) vs ws [] h g = absurd h
parted_then R S T f n (false ∷ flags) (x ∷ xs) vs ws (y ∷ others) h g = (h.0, parted_then R S T f (suc n) flags xs vs ws others h.1 g)

-- each of the one list, by recursion
pub parted_all : {X W : Type 0} (R : ℕ → X → W → Type 0) (P : X → Type 0) (Q : W → Type 0) → ((n : ℕ) (x : X) (w : W) → R n x w → P x → Q w) → (n : ℕ) (flags : List Bool) (xs : List X) (ws : List W) (others : List X) →
    Parted R n flags xs ws others → ((i : ℕ) → IfSome (slice_get xs i) P) → AllByRecursion Q ws
parted_all R P Q f n [] [] [] others h each = tt
parted_all R P Q f n [] [] (w ∷ ws) others h each = absurd h
parted_all R P Q f n [] (x ∷ xs) ws others h each = absurd h
parted_all R P Q f n (true ∷ flags) [] ws others h each = absurd h
parted_all R P Q f n (true ∷ flags) (x ∷ xs) [] others h each = tt
parted_all R P Q f n (true ∷ flags) (x ∷ xs) (w ∷ ws) others h each = (f n x w h.0 (each zero), parted_all R P Q f (suc n) flags xs ws others h.1 (λ i. each (suc i)))
parted_all R P Q f n (false ∷ flags) [] ws others h each = absurd h
parted_all R P Q f n (false ∷ flags) (x ∷ xs) ws [] h each = absurd h
parted_all R P Q f n (false ∷ flags) (x ∷ xs) ws (y ∷ others) h each = parted_all R P Q f (suc n) flags xs ws others h.1 (λ i. each (suc i))

module _ {X W : Type 0} (T : ℕ → Answer → X → X → Type 0) (element_of : W → X) (answer_of : W → Answer) where
  abbrev answers : List Bool → List W → List Answer
  answers flags ws = spread (Ok tt) flags (map answer_of ws)

  abbrev AtPlace : ℕ → List Bool → List X → List W → List X → ℕ → Type 0
  AtPlace k flags xs ws others i = IfCome T k (get_or flags i false) (get_or (answers flags ws) i (Ok tt)) (slice_get xs i) (slice_get (merged flags (map element_of ws) others) i)

  next_place : (n i : ℕ) → suc n + i ≡ n + suc i
  next_place n i = omega arith

  first_place : (n : ℕ) → n ≡ n + zero
  first_place n = omega arith

  abbrev Ended : ℕ → List Bool → List X → List W → List X → Type 0
  Ended n flags xs ws others = Parted (λ k x w. T k (answer_of w) x (element_of w)) n flags xs ws others

  at : (n : ℕ) (flags : List Bool) (xs : List X) (ws : List W) (others : List X) → Ended n flags xs ws others → (i : ℕ) → AtPlace (n + i) flags xs ws others i
  at n [] [] [] [] h i = refl
  at n [] [] [] (y ∷ others) h i = absurd h
  at n [] [] (w ∷ ws) others h i = absurd h
  at n [] (x ∷ xs) ws others h i = absurd h
  at n (true ∷ flags) [] ws others h i = absurd h
  at n (true ∷ flags) (x ∷ xs) [] others h i = absurd h
  at n (true ∷ flags) (x ∷ xs) (w ∷ ws) others h zero = subst (λ k. T k (answer_of w) x (element_of w)) (first_place n) h.0
  at n (true ∷ flags) (x ∷ xs) (w ∷ ws) others h (suc i) = subst (λ k. AtPlace k flags xs ws others i) (next_place n i) (at (suc n) flags xs ws others h.1 i)
  at n (false ∷ flags) [] ws others h i = absurd h
  at n (false ∷ flags) (x ∷ xs) ws [] h i = absurd h
  at n (false ∷ flags) (x ∷ xs) ws (y ∷ others) h zero = (h.0, refl)
  at n (false ∷ flags) (x ∷ xs) ws (y ∷ others) h (suc i) = subst (λ k. AtPlace k flags xs ws others i) (next_place n i) (at (suc n) flags xs ws others h.1 i)

  zero_place : (i : ℕ) → 0 + i ≡ i
  zero_place i = omega arith

  -- each element, by its place
  pub have_come : (flags : List Bool) (xs : List X) (ws : List W) (others : List X) → Ended 0 flags xs ws others → (i : ℕ) → AtPlace i flags xs ws others i
  have_come flags xs ws others h i = subst (λ k. AtPlace k flags xs ws others i) (zero_place i) (at 0 flags xs ws others h i)

-- the lists are as long as the flags say
pub parted_fits : {X W : Type 0} (R : ℕ → X → W → Type 0) (n : ℕ) (flags : List Bool) (xs : List X) (ws : List W) (others : List X) → Parted R n flags xs ws others → Fits flags ws others
parted_fits R n [] [] [] [] h = tt
parted_fits R n [] [] [] (y ∷ others) h = h
parted_fits R n [] [] (w ∷ ws) others h = absurd h
parted_fits R n [] (x ∷ xs) ws others h = absurd h
parted_fits R n (true ∷ flags) [] ws others h = absurd h
parted_fits R n (true ∷ flags) (x ∷ xs) [] others h = absurd h
parted_fits R n (true ∷ flags) (x ∷ xs) (w ∷ ws) others h = parted_fits R (suc n) flags xs ws others h.1
parted_fits R n (false ∷ flags) [] ws others h = absurd h
parted_fits R n (false ∷ flags) (x ∷ xs) ws [] h = absurd h
parted_fits R n (false ∷ flags) (x ∷ xs) ws (y ∷ others) h = parted_fits R (suc n) flags xs ws others h.1

-- the elements below a place are put back, and these are left; in the end the elements and the answer are those
pub record Back {X W : Type 0} (element_of : W → X) (answer_of : W → Answer) (n : ℕ) (flags : List Bool) (done : List X) (first : Result (Unit {0}) NodeFault) (ws : List W) (others : List X) (all : List X) (end : Result (Unit {0}) NodeFault) : Type 0 where
  pub fits : Fits flags ws others
  pub elements : done ++ merged flags (map element_of ws) others ≡ all
  pub answer : first_fault (suc n) first (spread (Ok tt) flags (map answer_of ws)) ≡ end

earlier_none : (first : Result (Unit {0}) NodeFault) → earlier first (Ok tt) ≡ first
earlier_none (Ok x) = refl
earlier_none (Err f) = refl

module _ {X W : Type 0} (element_of : W → X) (answer_of : W → Answer) (n : ℕ) (flags more : List Bool) (done : List X) (first : Result (Unit {0}) NodeFault) (all : List X) (end : Result (Unit {0}) NodeFault) where
  next : suc n ≡ n + 1
  next = omega arith

  pub back_flagged : (ws rest : List W) (w : W) (others now : List X) (last : Result (Unit {0}) NodeFault) → flags ≡ true ∷ more → ws ≡ w ∷ rest → now ≡ done ++ element_of w ∷ [] → last ≡ earlier first (answer_at (n + 1) (answer_of w)) →
      Back element_of answer_of n flags done first ws others all end → Back element_of answer_of (n + 1) more now last rest others all end
  back_flagged ws rest w others now last on is is_now is_last h = subst (λ k. Back element_of answer_of k more now last rest others all end) next (record {
    fits = before.fits;
    elements = ap (λ l. l ++ merged more (map element_of rest) others) is_now ∙ append_assoc done (element_of w ∷ []) (merged more (map element_of rest) others) ∙ before.elements;
    answer = ap (λ f. first_fault (suc (suc n)) f (spread (Ok tt) more (map answer_of rest))) (is_last ∙ ap (λ k. earlier first (answer_at k (answer_of w))) (sym next)) ∙ before.answer;
  })
    where
      before : Back element_of answer_of n (true ∷ more) done first (w ∷ rest) others all end
      before = subst (λ l. Back element_of answer_of n (true ∷ more) done first l others all end) is (subst (λ fs. Back element_of answer_of n fs done first ws others all end) on h)

  pub back_other : (ws : List W) (others rest now : List X) (y : X) → flags ≡ false ∷ more → others ≡ y ∷ rest → now ≡ done ++ y ∷ [] → Back element_of answer_of n flags done first ws others all end →
      Back element_of answer_of (n + 1) more now first ws rest all end
  back_other ws others rest now y off is is_now h = subst (λ k. Back element_of answer_of k more now first ws rest all end) next (record {
    fits = before.fits;
    elements = ap (λ l. l ++ merged more (map element_of ws) rest) is_now ∙ append_assoc done (y ∷ []) (merged more (map element_of ws) rest) ∙ before.elements;
    answer = ap (λ f. first_fault (suc (suc n)) f (spread (Ok tt) more (map answer_of ws))) (sym (earlier_none first)) ∙ before.answer;
  })
    where
      before : Back element_of answer_of n (false ∷ more) done first ws (y ∷ rest) all end
      before = subst (λ l. Back element_of answer_of n (false ∷ more) done first ws l all end) is (subst (λ fs. Back element_of answer_of n fs done first ws others all end) off h)
