-- Laws of disks beside the ones at their places before, and of what a cut leaves of them.
use Rattle.std.proofs.Common.{◌≡◌, ◌≢◌, inr, ℕ, zero, suc, ◌<◌, List, [], ◌∷◌, length, get_or, set, Option, Some, None, IfSome, refl, sym, ap, subst, arith}
use Rattle.std.specs.Prelude.{slice_get}
use Rattle.rdf_disk.specs.Files.{Disk, Contents}
use Rattle.rdf_disk.specs.Counts.{Counts}
use Rattle.rdf_disk.specs.Outcomes.{Durably, May, MayAll, Narrows}
use Rattle.rdf_disk.specs.OutcomeLaws.{may-settled, durably_narrows, settle_narrows}
use Rattle.node_disks.specs.Cuts.{IfBoth, Each, IsCut, AreCut}

-- at a place within a list there is an element
pub there_is : {X : Type 0} (xs : List X) (v : ℕ) → v < length xs → (x : X) × (slice_get xs v ≡ Some x)
there_is [] v h = absurd (omega (arith, h))
there_is (x ∷ xs) zero h = (x, refl)
there_is (x ∷ xs) (suc v) h = there_is xs v (omega (arith, h))

-- what follows of something that is there
pub some_so : {X : Type 0} (P Q : X → Type 0) (o : Option X) → ((x : X) → P x → Q x) → IfSome o P → IfSome o Q
some_so P Q None f h = tt
some_so P Q (Some x) f h = f x h

-- what follows where both are there, or neither
pub both_so : {X : Type 0} (R Q : X → X → Type 0) (o p : Option X) → ((x y : X) → R x y → Q x y) → IfBoth R o p → IfBoth Q o p
both_so R Q None None f h = tt
both_so R Q None (Some y) f h = absurd h
both_so R Q (Some x) None f h = absurd h
both_so R Q (Some x) (Some y) f h = f x y h

-- and so of the second what follows of the first
pub both_some : {X : Type 0} (R : X → X → Type 0) (P Q : X → Type 0) (o p : Option X) → ((x y : X) → R x y → P x → Q y) → IfBoth R o p → IfSome o P → IfSome p Q
both_some R P Q None None f h k = tt
both_some R P Q None (Some y) f h k = absurd h
both_some R P Q (Some x) None f h k = absurd h
both_some R P Q (Some x) (Some y) f h k = f x y h k

-- what is related to the first of two is related to the second
pub both_then : {X : Type 0} (R Q S : X → X → Type 0) → ((x y z : X) → R x y → Q y z → S x z) → (a b c : Option X) → IfBoth R a b → IfBoth Q b c → IfBoth S a c
both_then R Q S f None None None h g = tt
both_then R Q S f None None (Some z) h g = absurd g
both_then R Q S f None (Some y) c h g = absurd h
both_then R Q S f (Some x) None c h g = absurd h
both_then R Q S f (Some x) (Some y) None h g = absurd g
both_then R Q S f (Some x) (Some y) (Some z) h g = f x y z h g

-- there are as many disks as before
pub same_length : {X : Type 0} (R : ℕ → X → X → Type 0) (xs ys : List X) → Each R xs ys → length ys ≡ length xs
same_length R [] [] h = refl
same_length R [] (y ∷ ys) h = absurd (h zero)
same_length R (x ∷ xs) [] h = absurd (h zero)
same_length R (x ∷ xs) (y ∷ ys) h = ap suc (same_length (λ i. R (suc i)) xs ys (λ i. h (suc i)))

-- a relation that follows from two, one after the other
pub each_then : {X : Type 0} (R S T : ℕ → X → X → Type 0) (xs ys zs : List X) → ((i : ℕ) (x y z : X) → R i x y → S i y z → T i x z) → Each R xs ys → Each S ys zs → Each T xs zs
each_then {X = X} R S T xs ys zs f h k = λ i. go i (slice_get xs i) (slice_get ys i) (slice_get zs i) (h i) (k i)
  where
    go : (i : ℕ) (x y z : Option X) → IfBoth (R i) x y → IfBoth (S i) y z → IfBoth (T i) x z
    go i None None None p q = tt
    go i None None (Some z) p q = absurd q
    go i None (Some y) z p q = absurd p
    go i (Some x) None z p q = absurd p
    go i (Some x) (Some y) None p q = absurd q
    go i (Some x) (Some y) (Some z) p q = f i x y z p q

-- a weaker relation holds too
pub each_so : {X : Type 0} (R T : ℕ → X → X → Type 0) (xs ys : List X) → ((i : ℕ) (x y : X) → R i x y → T i x y) → Each R xs ys → Each T xs ys
each_so {X = X} R T xs ys f h = λ i. go i (slice_get xs i) (slice_get ys i) (h i)
  where
    go : (i : ℕ) (x y : Option X) → IfBoth (R i) x y → IfBoth (T i) x y
    go i None None p = tt
    go i None (Some y) p = absurd p
    go i (Some x) None p = absurd p
    go i (Some x) (Some y) p = f i x y p

-- disks that stay are related to themselves
pub each_same : {X : Type 0} (R : ℕ → X → X → Type 0) (xs : List X) → ((i : ℕ) (x : X) → R i x x) → Each R xs xs
each_same {X = X} R xs f = λ i. go i (slice_get xs i)
  where
    go : (i : ℕ) (x : Option X) → IfBoth (R i) x x
    go i None = tt
    go i (Some x) = f i x

-- what holds of each of the disks afterwards
pub each_after : {X : Type 0} (R : ℕ → X → X → Type 0) (P Q : ℕ → X → Type 0) (xs ys : List X) → ((i : ℕ) (x y : X) → R i x y → P i x → Q i y) → Each R xs ys → ((i : ℕ) → IfSome (slice_get xs i) (λ x. P i x)) → (i : ℕ) → IfSome (slice_get ys i) (λ y. Q i y)
each_after {X = X} R P Q xs ys f h k = λ i. go i (slice_get xs i) (slice_get ys i) (h i) (k i)
  where
    go : (i : ℕ) (x y : Option X) → IfBoth (R i) x y → IfSome x (λ a. P i a) → IfSome y (λ a. Q i a)
    go i None None p q = tt
    go i None (Some y) p q = absurd p
    go i (Some x) None p q = tt
    go i (Some x) (Some y) p q = f i x y p q

-- a relation that follows from another with a fact of each disk before
pub each_with : {X : Type 0} (R T : ℕ → X → X → Type 0) (P : ℕ → X → Type 0) (xs ys : List X) → ((i : ℕ) (x y : X) → P i x → R i x y → T i x y) → ((i : ℕ) → IfSome (slice_get xs i) (λ x. P i x)) → Each R xs ys → Each T xs ys
each_with {X = X} R T P xs ys f k h = λ i. go i (slice_get xs i) (slice_get ys i) (k i) (h i)
  where
    go : (i : ℕ) (x y : Option X) → IfSome x (λ a. P i a) → IfBoth (R i) x y → IfBoth (T i) x y
    go i None None q p = tt
    go i None (Some y) q p = absurd p
    go i (Some x) None q p = absurd p
    go i (Some x) (Some y) q p = f i x y q p

-- one disk put in the place of another, and the others as they were
pub each_put : {X : Type 0} (R : ℕ → X → X → Type 0) (xs : List X) (n : ℕ) (w d : X) → n < length xs → ((i : ℕ) (x : X) → i ≢ n → R i x x) → R n (get_or xs n d) w → Each R xs (set xs n w)
each_put R [] n w d h f k i = absurd (omega arith)
each_put R (x ∷ xs) zero w d h f k zero = k
each_put R (x ∷ xs) zero w d h f k (suc i) = each_same (λ j. R (suc j)) xs (λ j y. f (suc j) y (λ e. absurd (omega (arith, e)))) i
each_put R (x ∷ xs) (suc n) w d h f k zero = f zero x (λ e. absurd (omega (arith, e)))
each_put R (x ∷ xs) (suc n) w d h f k (suc i) = each_put (λ j. R (suc j)) xs n w d (omega arith) (λ j y e. f (suc j) y (λ s. e (omega (arith, s)))) k i

-- the place that was given a disk has it
pub set_here : {X : Type 0} (ys : List X) (n : ℕ) (w : X) → n < length ys → slice_get (set ys n w) n ≡ Some w
set_here [] n w h = absurd (omega arith)
set_here (y ∷ ys) zero w h = refl
set_here (y ∷ ys) (suc n) w h = set_here ys n w (omega arith)

-- each other place has what it had
pub set_else : {X : Type 0} (ys : List X) (n i : ℕ) (w : X) → i ≢ n → slice_get (set ys n w) i ≡ slice_get ys i
set_else [] n i w h = refl
set_else (y ∷ ys) zero zero w h = absurd (h refl)
set_else (y ∷ ys) zero (suc i) w h = refl
set_else (y ∷ ys) (suc n) zero w h = refl
set_else (y ∷ ys) (suc n) (suc i) w h = set_else ys n i w (λ e. h (ap suc e))

-- what holds of a disk that is there holds of it if there is one
pub where_there : {X : Type 0} (xs : List X) (i : ℕ) (Q : X → Type 0) → (i < length xs → IfSome (slice_get xs i) Q) → IfSome (slice_get xs i) Q
where_there [] i Q f = tt
where_there (x ∷ xs) zero Q f = f (omega arith)
where_there (x ∷ xs) (suc i) Q f = where_there xs i Q (λ h. f (omega arith))

-- disks that are cut
module _ {D : Type 0} (tells : Type 0) (files : D → Disk) (counts : D → Counts) (yes : tells) (old new : List D) (cut : AreCut tells files counts old new) where
  -- no more may be left of its files than before
  pub cut_narrows : Each (λ i x y. (m : ℕ) → Narrows (files x m) (files y m)) old new
  cut_narrows = each_so (λ i x y. IsCut tells files counts x y) (λ i x y. (m : ℕ) → Narrows (files x m) (files y m)) old new (λ i x y h. settle_narrows (files x) (files y) (h.settles yes)) cut

  held_of : (x y : Option D) → IfBoth (IsCut tells files counts) x y → Contents
  held_of None None h = λ m. None
  held_of None (Some y) h = λ m. None
  held_of (Some x) None h = λ m. None
  held_of (Some x) (Some y) h = λ m. (h.settles yes m).0

  -- what each disk holds after the cut
  pub held : ℕ → Contents
  held i = held_of (slice_get old i) (slice_get new i) (cut i)

  -- it might have been left before
  pub held_before : (i : ℕ) → IfSome (slice_get old i) (λ x. MayAll (files x) (held i))
  unfolding held_of held
  held_before = λ i. go (slice_get old i) (slice_get new i) (cut i)
    where
      go : (x y : Option D) (h : IfBoth (IsCut tells files counts) x y) → IfSome x (λ d. MayAll (files d) (held_of x y h))
      go None None h = tt
      go None (Some y) h = absurd h
      go (Some x) None h = absurd h
      go (Some x) (Some y) h = λ m. inr (h.settles yes m).1

  -- what holds of it holds durably after the cut
  pub held_after : (i : ℕ) (P : Contents → Type 0) → P (held i) → IfSome (slice_get new i) (λ d. Durably (files d) P)
  unfolding held_of held
  held_after i P = go (slice_get old i) (slice_get new i) (cut i)
    where
      go : (x y : Option D) (h : IfBoth (IsCut tells files counts) x y) → P (held_of x y h) → IfSome y (λ d. Durably (files d) P)
      go None None h p = tt
      go None (Some y) h p = absurd h
      go (Some x) None h p = tt
      go (Some x) (Some y) h p = λ c may. subst P (sym (is c may)) p
        where
          at : (c : Contents) → MayAll (files y) c → (m : ℕ) → c m ≡ (h.settles yes m).0
          at c may m = may-settled (h.settles yes m).0 (c m) (subst (λ f. May f (c m)) (h.settles yes m).2 (may m))

          is : (c : Contents) → MayAll (files y) c → c ≡ (λ m. (h.settles yes m).0)
          is c may = λ j m. at c may m j

-- disks of which no more may be left than before durably stand for what they stood for
pub still_durably : {D : Type 0} (files : D → Disk) (P : ℕ → Contents → Type 0) (old new : List D) → Each (λ i x y. (m : ℕ) → Narrows (files x m) (files y m)) old new →
    ((i : ℕ) → IfSome (slice_get old i) (λ x. Durably (files x) (P i))) → (i : ℕ) → IfSome (slice_get new i) (λ x. Durably (files x) (P i))
still_durably files P old new narrow = each_after (λ i x y. (m : ℕ) → Narrows (files x m) (files y m)) (λ i x. Durably (files x) (P i)) (λ i x. Durably (files x) (P i)) old new
    (λ i x y narrows stands c may. durably_narrows (P i) (files x) (files y) stands narrows c may) narrow
