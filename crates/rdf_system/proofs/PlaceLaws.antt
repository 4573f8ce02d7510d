-- Disks place by place.
use Rattle.std.proofs.Common.{◌≡◌, ℕ, zero, suc, ◌<◌, ◌≤◌, ◌&&◌, Bool, true, false, nat_lt, List, [], ◌∷◌, ◌++◌, length, refl, sym, subst, arith, Some, None}
use Rattle.std.proofs.lemmas.Option.{none-some}
use Rattle.std.proofs.lemmas.Bool.{ltb-true, true≢false}
use Rattle.std.specs.Prelude.{slice_get}
use Rattle.std.proofs.lemmas.Bool.Decides.{nat_tests}
use Rattle.rdf_types.specs.declared.layout.Layout.{Layout}
use Rattle.rdf_types.specs.declared.records.Node.{Node}
use Rattle.rdf_types.specs.declared.records.Node.TheVariants.{A, B, C}
use Rattle.plan_lang.specs.LineText.{same_node}
pub use Rattle.rdf_core.specs.AllowedLaws.{is_placed}
use Rattle.rdf_core.specs.Allowed.{is_backup, is_node}
use Rattle.rdf_core.specs.Sessions.{is_backup_node}
use Rattle.node_disks.specs.Cuts.{Each}
use Rattle.node_disks.specs.CutLaws.{each_same}
use Rattle.rdf_system.specs.Place.{IfUsed, is_used}

-- what holds in no case
pub not_so : {X : Type 0} → false ≡ true → X
not_so e = absurd (true≢false (sym e))

pub none_some : {X A : Type 0} {a : A} → None ≡ Some a → X
none_some {a = a} e = absurd (none-some a e)

pub some_none : {X A : Type 0} {a : A} → Some a ≡ None → X
some_none {a = a} e = absurd (none-some a (sym e))

-- a list whose first elements changed, and others behind them
pub joined_each : {X : Type 0} (R T : ℕ → X → X → Type 0) (xs ys rest : List X) → Each R xs ys → ((i : ℕ) (x y : X) → i < length xs → R i x y → T i x y) → ((i : ℕ) (x : X) → length xs ≤ i → T i x x) → Each T (xs ++ rest) (ys ++ rest)
joined_each R T [] [] rest h f g i = each_same T rest (λ j x. g j x (omega arith)) i
joined_each R T [] (y ∷ ys) rest h f g i = absurd (h zero)
joined_each R T (x ∷ xs) [] rest h f g i = absurd (h zero)
joined_each R T (x ∷ xs) (y ∷ ys) rest h f g zero = f zero x y (omega arith) (h zero)
joined_each R T (x ∷ xs) (y ∷ ys) rest h f g (suc i) = joined_each (λ j. R (suc j)) (λ j. T (suc j)) xs ys rest (λ j. h (suc j)) (λ j a b few. f (suc j) a b (omega (arith, few))) (λ j a far. g (suc j) a (omega (arith, far))) i

-- the others are as they were
pub beyond_same : {X : Type 0} (xs ys rest : List X) → length ys ≡ length xs → (i : ℕ) → length xs ≤ i → slice_get (ys ++ rest) i ≡ slice_get (xs ++ rest) i
beyond_same [] [] rest e i far = refl
beyond_same [] (y ∷ ys) rest e i far = absurd (omega arith)
beyond_same (x ∷ xs) [] rest e i far = absurd (omega arith)
beyond_same (x ∷ xs) (y ∷ ys) rest e zero far = absurd (omega arith)
beyond_same (x ∷ xs) (y ∷ ys) rest e (suc i) far = beyond_same xs ys rest (omega arith) i (omega arith)

pub below : (i n : ℕ) → i < n → nat_lt i n ≡ true
below i n few = grind (arith, nat_tests)

pub not_below : (i n : ℕ) → n ≤ i → nat_lt i n ≡ false
not_below i n far = grind (arith, nat_tests)

pub is_not_below : (i n : ℕ) → nat_lt i n ≡ false → n ≤ i
is_not_below i n test = grind (arith, nat_tests)

module _ {D : Type 0} (R : D → D → Type 0) (x y : D) where
  pub used : (b : Bool) → b ≡ true → R x y → IfUsed b R x y
  used b e h = subst (λ t. IfUsed t R x y) (sym e) h

  pub unused : (b : Bool) → b ≡ false → y ≡ x → IfUsed b R x y
  unused b e h = subst (λ t. IfUsed t R x y) (sym e) h

-- a disk that is as it was, used or not
pub if_same : {D : Type 0} (R : D → D → Type 0) (b : Bool) (x : D) → R x x → IfUsed b R x x
if_same R true x h = h
if_same R false x h = refl

pub at_three : (P : Node → Type 0) → P A → P B → P C → (node : Node) → P node
at_three P a b c A = a
at_three P a b c B = b
at_three P a b c C = c

-- which disks of a node of the layout are used
module _ (layout : Layout) (node : Node) (placed : is_node layout node ≡ true) where
  pub used_below : (i : ℕ) → i < suc layout.volumes → is_used layout node i ≡ true
  used_below i few = subst (λ b. (b && nat_lt i (suc layout.volumes)) ≡ true) (sym placed) (below i (suc layout.volumes) few)

  pub unused_beyond : (i : ℕ) → suc layout.volumes ≤ i → is_used layout node i ≡ false
  unused_beyond i far = subst (λ b. (b && nat_lt i (suc layout.volumes)) ≡ false) (sym placed) (not_below i (suc layout.volumes) far)

  pub below_used : (i : ℕ) → is_used layout node i ≡ true → i < suc layout.volumes
  below_used i inside = ltb-true i (suc layout.volumes) (subst (λ b. (b && nat_lt i (suc layout.volumes)) ≡ true) placed inside)

-- a node that the layout does not have uses none
pub never_used : (layout : Layout) (node : Node) → is_node layout node ≡ false → (i : ℕ) → is_used layout node i ≡ false
never_used layout node absent i = subst (λ b. (b && nat_lt i (suc layout.volumes)) ≡ false) (sym absent) refl

pub at_two : (P : Node → Type 0) → P B → P C → (node : Node) → is_backup_node node ≡ true → P node
at_two P b c A e = not_so e
at_two P b c B e = b
at_two P b c C e = c

pub by_kind : (P : Node → Type 0) → P A → ((node : Node) → is_backup_node node ≡ true → P node) → (node : Node) → P node
by_kind P a b A = a
by_kind P a b B = b B refl
by_kind P a b C = b C refl

pub backup_node_is : (layout : Layout) (name : Node) → is_backup layout name ≡ true → is_backup_node name ≡ true
backup_node_is layout A e = e
backup_node_is layout B e = refl
backup_node_is layout C e = refl

pub backup_beside : (node : Node) → same_node A node ≡ false → is_backup_node node ≡ true
backup_beside A e = not_so (sym e)
backup_beside B e = refl
backup_beside C e = refl

pub beside_a : (layout : Layout) (name : Node) → is_backup layout name ≡ true → same_node A name ≡ false
beside_a layout A e = not_so e
beside_a layout B e = refl
beside_a layout C e = refl

pub is_absent : (layout : Layout) (node : Node) → is_backup_node node ≡ true → is_backup layout node ≡ false → is_node layout node ≡ false
is_absent layout A backup e = not_so backup
is_absent layout B backup e = e
is_absent layout C backup e = e
