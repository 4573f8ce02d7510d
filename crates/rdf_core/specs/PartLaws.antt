-- Laws of the durable parts of a line, and of how it ends.
use Rattle.std.proofs.Common.{◌≡◌, ℕ, zero, suc, ◌+◌, ◌-◌, ◌^◌, ◌≤◌, arith, min, ◌⊎◌, inl, inr, List, [], ◌∷◌, ◌++◌, map, Option, Some, None, refl, sym, ap, ◌∙◌, subst, length}
use Rattle.rdf_core.specs.Effects.{after_parts, after_all, parts_unless, IsDone, IsCutOff, first, count_u64}
use Rattle.rdf_types.specs.declared.records.Node.{Node}
use Rattle.rdf_core.specs.declared.replies.NoWhy.{NoWhy}
use Rattle.rdf_core.specs.declared.replies.Reply.{Reply}
use Rattle.rdf_core.specs.declared.replies.Reply.TheVariants.{No}
use Rattle.std.proofs.lemmas.List.{length-map}

-- the first refusal of a list, where it applies
pub first_some : (r : Option NoWhy) (rest : List (Option NoWhy)) (why : NoWhy) → r ≡ Some why → first (r ∷ rest) ≡ Some why
first_some r rest why e = ap (λ (o : Option NoWhy). first (o ∷ rest)) e

-- a count that stands still at its end goes on from there
pub counted_more : (n m : ℕ) → count_u64 (count_u64 n + m) ≡ count_u64 (n + m)
counted_more n m = twice n m (2 ^ 64 - 1)
  where
    twice : (n m k : ℕ) → min (min n k + m) k ≡ min (n + m) k
    twice n m k = omega arith

-- where none of the parts is done, all is as it was
pub none_done : {X : Type 0} (old : X) (parts : List X) → after_parts old parts 0 ≡ old
none_done old [] = refl
none_done old (x ∷ parts) = refl

-- where as many are done as there are, all are
pub all_done : {X : Type 0} (old : X) (parts : List X) → after_parts old parts (length parts) ≡ after_all old parts
all_done old [] = refl
all_done old (x ∷ parts) = all_done x parts

-- each of the values has the property
abbrev pub Every : {X : Type 0} → (X → Type 0) → List X → Type 0
Every P [] = Unit {0}
Every P (x ∷ xs) = P x × Every P xs

-- what holds before, and of each part, holds after some of the parts
pub every_parts : {X : Type 0} (P : X → Type 0) (old : X) (parts : List X) (n : ℕ) → P old → Every P parts → P (after_parts old parts n)
every_parts P old [] n o e = o
every_parts P old (x ∷ parts) zero o e = o
every_parts P old (x ∷ parts) (suc n) o e = every_parts P x parts n e.0 e.1

-- and after all of them
pub every_all : {X : Type 0} (P : X → Type 0) (old : X) (parts : List X) → P old → Every P parts → P (after_all old parts)
every_all P old [] o e = o
every_all P old (x ∷ parts) o e = every_all P x parts e.0 e.1

-- it holds of each in two lists, one behind the other
pub every_append : {X : Type 0} (P : X → Type 0) (xs ys : List X) → Every P xs → Every P ys → Every P (xs ++ ys)
every_append P [] ys e f = f
every_append P (x ∷ xs) ys e f = (e.0, every_append P xs ys e.1 f)

-- it holds of each value of a function that keeps to it
pub every_map : {X Y : Type 0} (P : X → Type 0) (Q : Y → Type 0) (f : X → Y) (xs : List X) → ((x : X) → P x → Q (f x)) → Every P xs → Every Q (map f xs)
every_map P Q f [] g e = tt
every_map P Q f (x ∷ xs) g e = (g x e.0, every_map P Q f xs g e.1)

-- and where the function gives no other values
pub every_image : {X Y : Type 0} (Q : Y → Type 0) (f : X → Y) (xs : List X) → ((x : X) → Q (f x)) → Every Q (map f xs)
every_image Q f [] g = tt
every_image Q f (x ∷ xs) g = (g x, every_image Q f xs g)

-- each has what follows from the property
pub every_weaker : {X : Type 0} (P Q : X → Type 0) (xs : List X) → ((x : X) → P x → Q x) → Every P xs → Every Q xs
every_weaker P Q [] g e = tt
every_weaker P Q (x ∷ xs) g e = (g x e.0, every_weaker P Q xs g e.1)

-- a line was refused, or done
pub refused_or_done : {X : Type 0} (r : Option NoWhy) (keep : NoWhy → X) (end : X) (says : Reply → Type 0) (reply : Reply) (new : X) → IsDone r keep end says reply new →
    ((why : NoWhy) × (reply ≡ No why) × (new ≡ keep why)) ⊎ ((r ≡ None) × says reply × (new ≡ end))
refused_or_done None keep end says reply new d = inr (refl, d.0, d.1)
refused_or_done (Some why) keep end says reply new d = inl (why, d.0, d.1)

-- a part of a state, and the state with it
module _ {X Y : Type 0} (f : X → Y) where
  -- a line that is done on the part is done on the whole
  pub lift_done : (r : Option NoWhy) (keep : NoWhy → X) (keep' : NoWhy → Y) → ((why : NoWhy) → keep' why ≡ f (keep why)) → (end : X) (says : Reply → Type 0) (reply : Reply) (new : X) → IsDone r keep end says reply new →
      IsDone r keep' (f end) says reply (f new)
  lift_done None keep keep' h end says reply new d = (d.0, ap f d.1)
  lift_done (Some why) keep keep' h end says reply new d = (d.0, ap f d.1 ∙ sym (h why))

  -- and what is done on the whole is done on the part
  pub sink_done : (r : Option NoWhy) (keep : NoWhy → X) (keep' : NoWhy → Y) → ((why : NoWhy) → keep' why ≡ f (keep why)) → (end : X) (says : Reply → Type 0) (reply : Reply) (next : Y) → IsDone r keep' (f end) says reply next →
      (new : X) × (next ≡ f new) × IsDone r keep end says reply new
  sink_done None keep keep' h end says reply next d = (end, d.1, (d.0, refl))
  sink_done (Some why) keep keep' h end says reply next d = (keep why, d.1 ∙ h why, (d.0, refl))

  -- after some of the parts
  pub map_parts : (old : X) (xs : List X) (n : ℕ) → after_parts (f old) (map f xs) n ≡ f (after_parts old xs n)
  map_parts old [] n = refl
  map_parts old (x ∷ xs) zero = refl
  map_parts old (x ∷ xs) (suc n) = map_parts x xs n

  -- the parts, unless the line is refused
  pub map_unless : (r : Option NoWhy) (xs : List X) → parts_unless r (map f xs) ≡ map f (parts_unless r xs)
  map_unless None xs = refl
  map_unless (Some why) xs = refl

  -- a line that is cut off on the part is cut off on the whole
  pub lift_cut : (node : Node) (fall : ℕ → X → X) (fall' : ℕ → Y → Y) → ((n : ℕ) (x : X) → fall' n (f x) ≡ f (fall n x)) → (old : X) (r : Option NoWhy) (xs : List X) (done : ℕ) (reply : Reply) (new : X) →
      IsCutOff node fall old r xs done reply new → IsCutOff node fall' (f old) r (map f xs) done reply (f new)
  lift_cut node fall fall' h old r xs done reply new c = record {
    may = c.may;
    few = subst (λ (ys : List Y). done ≤ length ys) (sym (map_unless r xs)) (subst (λ n. done ≤ n) (sym (length-map (parts_unless r xs) f)) c.few);
    says = c.says;
    rise = c.rise;
    some = c.some;
    leaves = ap f c.leaves ∙ sym (h c.rise (after_parts old (parts_unless r xs) done)) ∙ ap (fall' c.rise) (sym (map_parts old (parts_unless r xs) done)) ∙ ap (λ (ys : List Y). fall' c.rise (after_parts (f old) ys done)) (sym (map_unless r xs));
  }

  -- and what is cut off on the whole is cut off on the part
  pub sink_cut : (node : Node) (fall : ℕ → X → X) (fall' : ℕ → Y → Y) → ((n : ℕ) (x : X) → fall' n (f x) ≡ f (fall n x)) → (old : X) (r : Option NoWhy) (xs : List X) (done : ℕ) (reply : Reply) (next : Y) →
      IsCutOff node fall' (f old) r (map f xs) done reply next → (new : X) × (next ≡ f new) × IsCutOff node fall old r xs done reply new
  sink_cut node fall fall' h old r xs done reply next c = (
    fall c.rise (after_parts old (parts_unless r xs) done),
    c.leaves ∙ ap (λ (ys : List Y). fall' c.rise (after_parts (f old) ys done)) (map_unless r xs) ∙ ap (fall' c.rise) (map_parts old (parts_unless r xs) done) ∙ h c.rise (after_parts old (parts_unless r xs) done),
    record {
      may = c.may;
      few = subst (λ n. done ≤ n) (length-map (parts_unless r xs) f) (subst (λ (ys : List Y). done ≤ length ys) (map_unless r xs) c.few);
      says = c.says;
      rise = c.rise;
      some = c.some;
      leaves = refl;
    },
  )

-- the state after the parts of two lists
pub all_append : {X : Type 0} (b : X) (xs ys : List X) → after_all b (xs ++ ys) ≡ after_all (after_all b xs) ys
all_append b [] ys = refl
all_append b (x ∷ xs) ys = all_append x xs ys
