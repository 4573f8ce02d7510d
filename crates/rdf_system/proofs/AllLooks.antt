-- The looks at the disks of all nodes.
use Rattle.std.proofs.Common.{◌≡◌, ℕ, suc, true, false, List, Option, Some, None, IfSome, refl, sym, ◌∙◌, subst}
use Rattle.std.proofs.lemmas.Bool.{ltb-true}
use Rattle.std.specs.Prelude.{slice_get}
use Rattle.rdf_types.specs.declared.layout.Layout.{Layout}
use Rattle.rdf_types.specs.declared.records.Node.{Node}
use Rattle.rdf_types.specs.declared.records.Node.TheVariants.{A, B, C}
use Rattle.rdf_disk.specs.Files.{Disk}
use Rattle.rdf_disk.specs.Calls.{Same}
use Rattle.rdf_disk.specs.Counts.{Counts}
use Rattle.rdf_disk.specs.Counts.Ending.{Fine}
use Rattle.rdf_core.specs.Allowed.{is_node}
use Rattle.node_disks.specs.Cuts.{Each}
use Rattle.node_disks.specs.CutLaws.{each_same}
use Rattle.rdf_system.specs.declared.fault.StartFault.{StartFault}
use Rattle.rdf_system.specs.declared.fault.StartFault.TheVariants as start
use Rattle.rdf_system.specs.Place.{is_used}
use Rattle.rdf_system.specs.Starting.{AreBlankBelow, AreBlankBefore, AreLooked, AreAllLooked, AreReady, Came, IfFound, IsFound, IsFoundIn, IsJudged, IsJudgedIn, NamesNode, ending_of, ending_found}
use Rattle.audit_trail.specs.Spelled.{IsBlank}
use Rattle.rdf_system.proofs.PlaceLaws.{at_three, below_used, never_used}
use Rattle.rdf_system.proofs.CameLaws.{came_as, came_same, fine_elsewhere, found_elsewhere, only_so}

false_true : false ≡ true → ⊥
false_true e = cc

-- by the files of one node's disks, where those of the nodes before have none
module _ {D : Type 0} (files : D → Disk) (layout : Layout) (lists : Node → List D) (node : Node) (before : (j : ℕ) → AreBlankBelow files j (lists node) → AreBlankBefore files layout (λ n i. slice_get (lists n) i) node j) where
  judged_in : (why : StartFault) → NamesNode node why → IsJudgedIn files (lists node) why → IsJudged files layout (λ n i. slice_get (lists n) i) why
  judged_in (start.NotBlank named i) own h = subst (λ m. IsJudged files layout (λ n j. slice_get (lists n) j) (start.NotBlank m i)) (sym own) (record { has = h.0; before = before i h.1 })
  judged_in (start.Stopped named i) own h = subst (λ m. AreBlankBefore files layout (λ n j. slice_get (lists n) j) m i) (sym own) (before i h)
  judged_in (start.Failed named i) own h = subst (λ m. AreBlankBefore files layout (λ n j. slice_get (lists n) j) m i) (sym own) (before i h)
  judged_in start.NoMemory own h = tt

module _ {D : Type 0} (tells : Type 0) (files : D → Disk) (counts : D → Counts) (layout : Layout) (old new : Node → List D) where
  -- a used disk of the node has no file
  abbrev Blank : Node → Type 0
  Blank node = (i : ℕ) → is_used layout node i ≡ true → IfSome (slice_get (old node) i) (λ d. IsBlank (files d))

  blank_in : (node : Node) → is_node layout node ≡ true → AreBlankBelow files (suc layout.volumes) (old node) → Blank node
  blank_in node placed h i inside = h i (below_used layout node placed i inside)

  before_a : (j : ℕ) → AreBlankBelow files j (old A) → AreBlankBefore files layout (λ n i. slice_get (old n) i) A j
  before_a j h A i inside few = h i (ltb-true i j few)
  before_a j h B i inside few = absurd (false_true few)
  before_a j h C i inside few = absurd (false_true few)

  before_b : Blank A → (j : ℕ) → AreBlankBelow files j (old B) → AreBlankBefore files layout (λ n i. slice_get (old n) i) B j
  before_b a j h A i inside few = a i inside
  before_b a j h B i inside few = h i (ltb-true i j few)
  before_b a j h C i inside few = absurd (false_true few)

  before_c : Blank A → Blank B → (j : ℕ) → AreBlankBelow files j (old C) → AreBlankBefore files layout (λ n i. slice_get (old n) i) C j
  before_c a b j h A i inside few = a i inside
  before_c a b j h B i inside few = b i inside
  before_c a b j h C i inside few = h i (ltb-true i j few)

  -- disks at which nobody looked
  not_looked : (found : Option StartFault) (node : Node) → ((i : ℕ) → ending_found found node i ≡ Fine) → new node ≡ old node → Each (Came counts layout (ending_found found) node) (old node) (new node)
  not_looked found node fine same = subst (λ l. Each (Came counts layout (ending_found found) node) (old node) l) (sym same) (came_same counts layout node (ending_found found) (old node) fine)

  -- the files of the node's disks are as they were
  abbrev Still : Node → Type 0
  Still node = Each (λ i x y. Same (files x) (files y)) (old node) (new node)

  still_same : (node : Node) → new node ≡ old node → Still node
  still_same node same = subst (λ l. Each (λ i x y. Same (files x) (files y)) (old node) l) (sym same) (each_same (λ i x y. Same (files x) (files y)) (old node) (λ i x m. refl))

  no_more : (why : StartFault) → (let o : Option StartFault = Some why in o ≡ None) → ⊥
  no_more why e = cc

  -- a disk of the primary is refused
  pub first_refuses : (why : StartFault) → AreLooked tells files counts layout A (Some why) (old A) (new A) → new B ≡ old B → new C ≡ old C → AreAllLooked tells files counts layout (Some why) old new
  first_refuses why a b c = record {
    came = at_three (λ node. Each (Came counts layout (ending_of why) node) (old node) (new node)) a.came
        (not_looked (Some why) B (fine_elsewhere A B refl why a.own) b)
        (not_looked (Some why) C (fine_elsewhere A C refl why a.own) c);
    named = a.named;
    judged = λ t. judged_in files layout old A before_a why a.own (a.judged t);
    still = λ t. only_so (Some why) (Still A) ((node : Node) → Still node) (λ h. at_three Still h (still_same B b) (still_same C c)) (a.still t);
    ready = λ none. absurd (no_more why none);
  }

  -- a disk of the first backup is refused
  pub second_refuses : (why : StartFault) → AreLooked tells files counts layout A None (old A) (new A) → AreLooked tells files counts layout B (Some why) (old B) (new B) → new C ≡ old C → AreAllLooked tells files counts layout (Some why) old new
  second_refuses why a b c = record {
    came = at_three (λ node. Each (Came counts layout (ending_of why) node) (old node) (new node))
        (came_as counts layout A (λ n i. Fine) (ending_of why) (old A) (new A) (fine_elsewhere B A refl why b.own) a.came)
        b.came
        (not_looked (Some why) C (fine_elsewhere B C refl why b.own) c);
    named = b.named;
    judged = λ t. judged_in files layout old B (before_b (blank_in A refl (a.judged t))) why b.own (b.judged t);
    still = λ t. only_so (Some why) (Still B) ((node : Node) → Still node) (λ h. at_three Still (a.still t) h (still_same C c)) (b.still t);
    ready = λ none. absurd (no_more why none);
  }

  module _ (a : AreLooked tells files counts layout A None (old A) (new A)) (b : AreLooked tells files counts layout B None (old B) (new B)) where
    -- there is no second backup
    pub two_looked : is_node layout C ≡ false → new C ≡ old C → AreAllLooked tells files counts layout None old new
    two_looked absent c = record {
      came = at_three (λ node. Each (Came counts layout (ending_found None) node) (old node) (new node)) a.came b.came (not_looked None C (λ i. refl) c);
      named = tt;
      judged = λ t. at_three Blank (blank_in A refl (a.judged t)) (blank_in B refl (b.judged t)) (λ i inside. absurd (never i inside));
      still = λ t. at_three Still (a.still t) (b.still t) (still_same C c);
      ready = λ none. at_three (λ node. AreReady tells files counts layout node (new node)) (a.ready none) (b.ready none) (λ i inside. absurd (never i inside));
    }
      where
        never : (i : ℕ) → is_used layout C i ≡ true → ⊥
        never i inside = false_true (sym (never_used layout C absent i) ∙ inside)

    -- what the looks at the second backup tell
    pub third_looked : (found : Option StartFault) → is_node layout C ≡ true → AreLooked tells files counts layout C found (old C) (new C) → AreAllLooked tells files counts layout found old new
    third_looked found placed c = record {
      came = at_three (λ node. Each (Came counts layout (ending_found found) node) (old node) (new node))
          (came_as counts layout A (λ n i. Fine) (ending_found found) (old A) (new A) (found_elsewhere C A refl found c.own) a.came)
          (came_as counts layout B (λ n i. Fine) (ending_found found) (old B) (new B) (found_elsewhere C B refl found c.own) b.came)
          c.came;
      named = c.named;
      judged = λ t. judged found c.own (blank_in A refl (a.judged t)) (blank_in B refl (b.judged t)) (c.judged t);
      still = λ t. only_so found (Still C) ((node : Node) → Still node) (λ h. at_three Still (a.still t) (b.still t) h) (c.still t);
      ready = λ none. at_three (λ node. AreReady tells files counts layout node (new node)) (a.ready refl) (b.ready refl) (c.ready none);
    }
      where
        judged : (o : Option StartFault) → IfFound (NamesNode C) o → Blank A → Blank B → IsFoundIn files (suc layout.volumes) (old C) o → IsFound files layout (λ n i. slice_get (old n) i) o
        judged None own x y h = at_three Blank x y (blank_in C placed h)
        judged (Some why) own x y h = judged_in files layout old C (before_c x y) why own h
