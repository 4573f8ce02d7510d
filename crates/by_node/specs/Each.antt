-- What each node has, by its name. No other file names the nodes for it.
use Rattle.std.proofs.Common.{◌≡◌, refl, ap}
use Rattle.rdf_types.specs.declared.records.Node.{Node}
use Rattle.rdf_types.specs.declared.records.Node.TheVariants.{A, B, C}

-- one for each
pub record Each (X : Type 0) : Type 0 where
  pub a : X
  pub b : X
  pub c : X

-- that of a node
abbrev pub at : {X : Type 0} → Each X → Node → X
at each A = each.a
at each B = each.b
at each C = each.c

-- with another one of the node
abbrev pub with_at : {X : Type 0} → Each X → Node → X → Each X
with_at each A x = record { a = x; b = each.b; c = each.c }
with_at each B x = record { a = each.a; b = x; c = each.c }
with_at each C x = record { a = each.a; b = each.b; c = x }

-- the same one for each
abbrev pub every : {X : Type 0} → X → Each X
every x = record { a = x; b = x; c = x }

-- what a function makes of each
abbrev pub map_each : {X Y : Type 0} → (X → Y) → Each X → Each Y
map_each f each = record { a = f each.a; b = f each.b; c = f each.c }

-- what was put in is the node's
pub at-with_at : {X : Type 0} (each : Each X) (node : Node) (x : X) → at (with_at each node x) node ≡ x
at-with_at each A x = refl
at-with_at each B x = refl
at-with_at each C x = refl

-- of two that are put in the later one stays
pub with_at-again : {X : Type 0} (each : Each X) (node : Node) (x y : X) → with_at (with_at each node x) node y ≡ with_at each node y
with_at-again each A x y = refl
with_at-again each B x y = refl
with_at-again each C x y = refl

-- what the node had already changes nothing
pub with_at-still : {X : Type 0} (each : Each X) (node : Node) (x : X) → x ≡ at each node → with_at each node x ≡ each
with_at-still each A x e = ap (with_at each A) e
with_at-still each B x e = ap (with_at each B) e
with_at-still each C x e = ap (with_at each C) e

-- what holds of each, and of what is put in, holds of each again
pub with_at-keeps : {X : Type 0} (P : Node → X → Type 0) (each : Each X) (node : Node) (x : X) → ((of : Node) → P of (at each of)) → P node x → (of : Node) → P of (at (with_at each node x) of)
with_at-keeps P each A x all one A = one
with_at-keeps P each A x all one B = all B
with_at-keeps P each A x all one C = all C
with_at-keeps P each B x all one A = all A
with_at-keeps P each B x all one B = one
with_at-keeps P each B x all one C = all C
with_at-keeps P each C x all one A = all A
with_at-keeps P each C x all one B = all B
with_at-keeps P each C x all one C = one

-- what is of every one is of each
pub at-every : {X : Type 0} (x : X) (node : Node) → at (every x) node ≡ x
at-every x A = refl
at-every x B = refl
at-every x C = refl

-- what a function makes of each is what it makes of the node's
pub at-map_each : {X Y : Type 0} (f : X → Y) (each : Each X) (node : Node) → at (map_each f each) node ≡ f (at each node)
at-map_each f each A = refl
at-map_each f each B = refl
at-map_each f each C = refl

-- and so with another one of the node
pub map_each-with_at : {X Y : Type 0} (f : X → Y) (each : Each X) (node : Node) (x : X) → map_each f (with_at each node x) ≡ with_at (map_each f each) node (f x)
map_each-with_at f each A x = refl
map_each-with_at f each B x = refl
map_each-with_at f each C x = refl
