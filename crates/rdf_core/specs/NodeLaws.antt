-- Laws of what is of the primary or of a backup, and of what each node has.
use Rattle.std.proofs.Common.{◌≡◌, true, false, if◌then◌else◌, refl}
use Rattle.rdf_types.specs.declared.records.Node.{Node}
use Rattle.rdf_types.specs.declared.records.Node.TheVariants.{A, B, C}
use Rattle.plan_lang.specs.LineText.{same_node}
use Rattle.by_node.specs.Each.{Each, at, with_at}
use Rattle.rdf_core.specs.Sessions.{is_backup_node}
use Rattle.rdf_core.specs.State.{by_node}

-- what holds of what is of the primary, and of what is of a backup, holds of a node's
pub by_node-keeps : {X : Type 0} (P : X → Type 0) (node : Node) (x y : X) → P x → P y → P (by_node node x y)
by_node-keeps {X} P node x y of_primary of_backup = elim (is_backup_node node) as (λ b. P (if b then y else x)) [ true ↦ of_backup | false ↦ of_primary ]

-- another node has what it had
pub at_other : {X : Type 0} (each : Each X) (node : Node) (x : X) (of : Node) → same_node node of ≡ false → at (with_at each node x) of ≡ at each of
at_other each A x A far = cc
at_other each A x B far = refl
at_other each A x C far = refl
at_other each B x A far = refl
at_other each B x B far = cc
at_other each B x C far = refl
at_other each C x A far = refl
at_other each C x B far = refl
at_other each C x C far = cc

-- what holds of each other node, and of what is put in for one, holds of each
pub put_both : {X Y : Type 0} (P : Node → X → Y → Type 0) (xs : Each X) (ys : Each Y) (node : Node) (x : X) (y : Y) → ((of : Node) → same_node node of ≡ false → P of (at xs of) (at ys of)) → P node x y →
    (of : Node) → P of (at (with_at xs node x) of) (at (with_at ys node y) of)
put_both P xs ys A x y others one A = one
put_both P xs ys A x y others one B = others B refl
put_both P xs ys A x y others one C = others C refl
put_both P xs ys B x y others one A = others A refl
put_both P xs ys B x y others one B = one
put_both P xs ys B x y others one C = others C refl
put_both P xs ys C x y others one A = others A refl
put_both P xs ys C x y others one B = others B refl
put_both P xs ys C x y others one C = one

pub put_one : {X : Type 0} (P : Node → X → Type 0) (xs : Each X) (node : Node) (x : X) → ((of : Node) → same_node node of ≡ false → P of (at xs of)) → P node x → (of : Node) → P of (at (with_at xs node x) of)
put_one P xs node x others one = put_both (λ of a b. P of a) xs xs node x x others one
