-- How the counts of disks rose: one call after the other, and where a fault is of another node.
use Rattle.std.proofs.Common.{◌≡◌, ℕ, ◌&&◌, ◌==◌, if◌then◌else◌, Bool, true, false, List, Option, Some, None, refl, sym, ap, ◌∙◌, subst}
use Rattle.rdf_types.specs.declared.layout.Layout.{Layout}
use Rattle.rdf_types.specs.declared.records.Node.{Node}
use Rattle.rdf_disk.specs.Counts.{Counts, Ending, Causes}
use Rattle.rdf_disk.specs.Counts.Ending.{Fine, Stop, Fault}
use Rattle.plan_lang.specs.LineText.{same_node}
use Rattle.node_disks.specs.Cuts.{Each}
use Rattle.node_disks.specs.CutLaws.{each_so, each_same, each_then}
use Rattle.rdf_system.specs.declared.fault.StartFault.{StartFault}
use Rattle.rdf_system.specs.declared.fault.StartFault.TheVariants as start
use Rattle.rdf_system.specs.Place.{IfUsed, is_used}
use Rattle.rdf_system.specs.Starting.{Came, IfFound, IfOnlyLooked, NamesNode, ending_if_at, ending_of, ending_found}
use Rattle.rdf_system.proofs.PlaceLaws.{if_same}

-- where disks were only looked at, what follows
pub only_so : (found : Option StartFault) (P Q : Type 0) → (P → Q) → IfOnlyLooked found P → IfOnlyLooked found Q
only_so None P Q f h = f h
only_so (Some (start.NotBlank named disk)) P Q f h = f h
only_so (Some (start.Stopped named disk)) P Q f h = tt
only_so (Some (start.Failed named disk)) P Q f h = tt
only_so (Some start.NoMemory) P Q f h = tt

-- the disks of another node ended as ever
module _ (node other : Node) (apart : same_node node other ≡ false) where
  at_other : (e : Ending) (named : Node) (disk i : ℕ) → named ≡ node → ending_if_at e named disk other i ≡ Fine
  at_other e named disk i is = ap (λ m. if same_node m other && disk == i then e else Fine) is ∙ ap (λ b. if b && (disk == i) then e else Fine) apart

  pub fine_elsewhere : (why : StartFault) → NamesNode node why → (i : ℕ) → ending_of why other i ≡ Fine
  fine_elsewhere (start.NotBlank named disk) own i = refl
  fine_elsewhere (start.Stopped named disk) own i = at_other Stop named disk i own
  fine_elsewhere (start.Failed named disk) own i = at_other Fault named disk i own
  fine_elsewhere start.NoMemory own i = refl

  pub found_elsewhere : (found : Option StartFault) → IfFound (NamesNode node) found → (i : ℕ) → ending_found found other i ≡ Fine
  found_elsewhere None own i = refl
  found_elsewhere (Some why) own i = fine_elsewhere why own i

module _ {D : Type 0} (counts : D → Counts) (layout : Layout) (node : Node) where
  -- endings that are the same
  pub came_as : (from to : Node → ℕ → Ending) (xs ys : List D) → ((i : ℕ) → to node i ≡ from node i) → Each (Came counts layout from node) xs ys → Each (Came counts layout to node) xs ys
  came_as from to xs ys same h = each_so (Came counts layout from node) (Came counts layout to node) xs ys
      (λ i x y c. subst (λ e. IfUsed (is_used layout node i) (λ a b. Causes e (counts a) (counts b)) x y) (sym (same i)) c) h

  -- disks that stayed
  pub came_same : (endings : Node → ℕ → Ending) (xs : List D) → ((i : ℕ) → endings node i ≡ Fine) → Each (Came counts layout endings node) xs xs
  came_same endings xs fine = each_same (Came counts layout endings node) xs
      (λ i x. if_same (λ a b. Causes (endings node i) (counts a) (counts b)) (is_used layout node i) x (subst (λ e. Causes e (counts x) (counts x)) (sym (fine i)) refl))

  one_then : (b : Bool) (e : Ending) (x y z : D) → IfUsed b (λ a c. Causes Fine (counts a) (counts c)) x y → IfUsed b (λ a c. Causes e (counts a) (counts c)) y z → IfUsed b (λ a c. Causes e (counts a) (counts c)) x z
  one_then true e x y z p q = subst (λ c. Causes e c (counts z)) p q
  one_then false e x y z p q = q ∙ p

  -- disks that stayed at first
  pub came_then : (endings : Node → ℕ → Ending) (xs ys zs : List D) → Each (Came counts layout (λ of i. Fine) node) xs ys → Each (Came counts layout endings node) ys zs → Each (Came counts layout endings node) xs zs
  came_then endings xs ys zs first last = each_then (Came counts layout (λ of i. Fine) node) (Came counts layout endings node) (Came counts layout endings node) xs ys zs
      (λ i x y z p q. one_then (is_used layout node i) (endings node i) x y z p q) first last
