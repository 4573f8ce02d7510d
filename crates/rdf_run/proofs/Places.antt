-- Disks place by place, through one change and another.
use Rattle.std.proofs.Common.{◌≡◌, ℕ, Bool, true, false, Option, Some, None, refl, sym, ◌∙◌, subst}
use Rattle.rdf_types.specs.declared.records.Node.{Node}
use Rattle.node_disks.specs.Cuts.{IfBoth}
use Rattle.rdf_system.specs.Place.{AtEach, IfUsed}

module _ {D : Type 0} where
  if_both_then : (R S T : D → D → Type 0) (x y z : Option D) → ((a b c : D) → R a b → S b c → T a c) → IfBoth R x y → IfBoth S y z → IfBoth T x z
  if_both_then R S T None None None f p q = tt
  if_both_then R S T (Some a) (Some b) (Some c) f p q = f a b c p q
  if_both_then R S T None None (Some c) f p q = absurd q
  if_both_then R S T (Some a) (Some b) None f p q = absurd q
  if_both_then R S T _ _ z f p q = absurd p

  pub if_both_so : (R T : D → D → Type 0) (x y : Option D) → ((a b : D) → R a b → T a b) → IfBoth R x y → IfBoth T x y
  if_both_so R T None None f p = tt
  if_both_so R T (Some a) (Some b) f p = f a b p
  if_both_so R T _ _ f p = absurd p

  if_both_two : (R S T : D → D → Type 0) (x y : Option D) → ((a b : D) → R a b → S a b → T a b) → IfBoth R x y → IfBoth S x y → IfBoth T x y
  if_both_two R S T None None f p q = tt
  if_both_two R S T (Some a) (Some b) f p q = f a b p q
  if_both_two R S T _ _ f p q = absurd p

  -- one after the other
  pub at_each_then : (R S T : Node → ℕ → D → D → Type 0) (x y z : Node → ℕ → Option D) → ((node : Node) (i : ℕ) (a b c : D) → R node i a b → S node i b c → T node i a c) → AtEach R x y → AtEach S y z → AtEach T x z
  at_each_then R S T x y z f p q = λ node i. if_both_then (R node i) (S node i) (T node i) (x node i) (y node i) (z node i) (f node i) (p node i) (q node i)

  pub at_each_so : (R T : Node → ℕ → D → D → Type 0) (x y : Node → ℕ → Option D) → ((node : Node) (i : ℕ) (a b : D) → R node i a b → T node i a b) → AtEach R x y → AtEach T x y
  at_each_so R T x y f p = λ node i. if_both_so (R node i) (T node i) (x node i) (y node i) (f node i) (p node i)

  -- two facts of the same change
  pub at_each_two : (R S T : Node → ℕ → D → D → Type 0) (x y : Node → ℕ → Option D) → ((node : Node) (i : ℕ) (a b : D) → R node i a b → S node i a b → T node i a b) → AtEach R x y → AtEach S x y → AtEach T x y
  at_each_two R S T x y f p q = λ node i. if_both_two (R node i) (S node i) (T node i) (x node i) (y node i) (f node i) (p node i) (q node i)

  -- places that stay
  pub at_each_same : (R : Node → ℕ → D → D → Type 0) (x y : Node → ℕ → Option D) → ((node : Node) (i : ℕ) → y node i ≡ x node i) → ((node : Node) (i : ℕ) (a : D) → R node i a a) → AtEach R x y
  at_each_same R x y e f = λ node i. subst (λ (o : Option D). IfBoth (R node i) (x node i) o) (sym (e node i)) (same (R node i) (x node i) (f node i))
    where
      same : (Q : D → D → Type 0) (o : Option D) → ((a : D) → Q a a) → IfBoth Q o o
      same Q None g = tt
      same Q (Some a) g = g a

  -- of a disk that is used, or is as it was
  pub if_used_then : (u : Bool) (R S T : D → D → Type 0) (a b c : D) → (R a b → S b c → T a c) → IfUsed u R a b → IfUsed u S b c → IfUsed u T a c
  if_used_then true R S T a b c f p q = f p q
  if_used_then false R S T a b c f p q = q ∙ p

  pub if_used_so : (u : Bool) (R T : D → D → Type 0) (a b : D) → (R a b → T a b) → IfUsed u R a b → IfUsed u T a b
  if_used_so true R T a b f p = f p
  if_used_so false R T a b f p = p

  pub if_used_two : (u : Bool) (R S T : D → D → Type 0) (a b : D) → (R a b → S a b → T a b) → IfUsed u R a b → IfUsed u S a b → IfUsed u T a b
  if_used_two true R S T a b f p q = f p q
  if_used_two false R S T a b f p q = p

  pub if_used_same : (u : Bool) (R : D → D → Type 0) (a : D) → R a a → IfUsed u R a a
  if_used_same true R a r = r
  if_used_same false R a r = refl
