-- Disks that come back because a node could not be made ready, and what the racks became.
use Rattle.std.proofs.Common.{◌≡◌, ℕ, List, Result, Ok, Err, Some, refl, sym, ◌∙◌, length, subst}
use Rattle.std.specs.Prelude.{IfOk, IfErr, slice_get}
use Rattle.rdf_types.specs.declared.layout.Layout.{Layout}
use Rattle.rdf_types.specs.declared.records.Node.{Node}
use Rattle.rdf_types.specs.declared.records.Node.TheVariants.{A, B, C}
use Rattle.rdf_disk.specs.Files.{Disk}
use Rattle.rdf_disk.specs.Calls.{Same}
use Rattle.rdf_disk.specs.Counts.{Counts, Ending}
use Rattle.rdf_disk.specs.Counts.Ending.{Fine}
use Rattle.rdf_disk.specs.declared.disk.Disk.{Ghosts}
use Rattle.node_disks.specs.Cuts.{Each}
use Rattle.node_disks.specs.CutLaws.{same_length}
use Rattle.rdf_system.specs.declared.fault.NotStarted.{NotStarted}
use Rattle.rdf_system.specs.declared.fault.StartFault.{StartFault}
use Rattle.rdf_system.specs.declared.fault.StartFault.TheVariants as start
use Rattle.rdf_system.specs.declared.racks.Racks.{Racks}
use Rattle.rdf_system.specs.declared.system.System.{System}
use Rattle.rdf_system.specs.Place.{AtEach, IsFull, disk_at, disks_in}
use Rattle.rdf_system.specs.States.{disk_of, disks_of_node}
use Rattle.rdf_system.specs.Starting.{AreAllLooked, AreBack, AreBlank, AreHandedBack, Came, FilesStay, IfOnlyLooked, IsJudged, IsNoFile, IsNotStarted, NamesUsed, ending_of}
use Rattle.rdf_system.proofs.PlaceLaws.{at_three}
use Rattle.rdf_system.proofs.CameLaws.{came_as, came_same, came_then, fine_elsewhere, only_so}
use Rattle.rdf_system.proofs.StartLaws.{judged_blank}

module _ {D : Type 0} (counts : D → Counts) (layout : Layout) (old new : Node → List D) where
  -- there are as many as before
  pub as_many : (endings : Node → ℕ → Ending) → ((node : Node) → Each (Came counts layout endings node) (old node) (new node)) → ((node : Node) → length (old node) ≡ 17) → (node : Node) → length (new node) ≡ 17
  as_many endings h many node = same_length (Came counts layout endings node) (old node) (new node) (h node) ∙ many node

  module _ (why : StartFault) where
    stayed : (node : Node) → new node ≡ old node → ((i : ℕ) → ending_of why node i ≡ Fine) → Each (Came counts layout (ending_of why) node) (old node) (new node)
    stayed node same fine = subst (λ l. Each (Came counts layout (ending_of why) node) (old node) l) (sym same) (came_same counts layout node (ending_of why) (old node) fine)

    -- the primary's could not be made ready
    pub back_first : AreHandedBack counts layout A why (old A) (new A) → new B ≡ old B → new C ≡ old C → (node : Node) → Each (Came counts layout (ending_of why) node) (old node) (new node)
    back_first a b c = at_three (λ node. Each (Came counts layout (ending_of why) node) (old node) (new node)) a.came (stayed B b (fine_elsewhere A B refl why a.own)) (stayed C c (fine_elsewhere A C refl why a.own))

    -- those of the first backup
    pub back_second : Each (Came counts layout (λ of i. Fine) A) (old A) (new A) → AreHandedBack counts layout B why (old B) (new B) → new C ≡ old C → (node : Node) → Each (Came counts layout (ending_of why) node) (old node) (new node)
    back_second a b c = at_three (λ node. Each (Came counts layout (ending_of why) node) (old node) (new node))
        (came_as counts layout A (λ of i. Fine) (ending_of why) (old A) (new A) (fine_elsewhere B A refl why b.own) a) b.came (stayed C c (fine_elsewhere B C refl why b.own))

    -- those of the second backup
    pub back_third : Each (Came counts layout (λ of i. Fine) A) (old A) (new A) → Each (Came counts layout (λ of i. Fine) B) (old B) (new B) → AreHandedBack counts layout C why (old C) (new C) →
        (node : Node) → Each (Came counts layout (ending_of why) node) (old node) (new node)
    back_third a b c = at_three (λ node. Each (Came counts layout (ending_of why) node) (old node) (new node))
        (came_as counts layout A (λ of i. Fine) (ending_of why) (old A) (new A) (fine_elsewhere C A refl why c.own) a)
        (came_as counts layout B (λ of i. Fine) (ending_of why) (old B) (new B) (fine_elsewhere C B refl why c.own) b) c.came

    -- as they are told
    pub told : ((node : Node) → Each (Came counts layout (ending_of why) node) (old node) (new node)) → NamesUsed layout why → IsNoFile why → ((node : Node) → length (old node) ≡ 17) →
        (said : StartFault) → said ≡ why → (racks : Racks D) → ((node : Node) → disks_in racks node ≡ new node) → (((node : Node) → length (new node) ≡ 17) → IsFull racks) → AreBack counts layout old said racks
    told h named no_file many said is racks places full = subst (λ w. AreBack counts layout old w racks) (sym is) (record {
      came = λ node. subst (λ l. Each (Came counts layout (ending_of why) node) (old node) l) (sym (places node)) (h node);
      full = full (as_many (ending_of why) h many);
      named = named;
      no_file = no_file;
    })

-- the racks, of which these lists are the disks, and what became of them
module _ {D : Type 0} (counts : D → Counts) (layout : Layout) (racks : Racks D) (lists : Node → List D) (from : (node : Node) → lists node ≡ disks_in racks node) where
  pub racks_went : (endings : Node → ℕ → Ending) (new : Node → List D) → ((node : Node) → Each (Came counts layout endings node) (lists node) (new node)) → AtEach (Came counts layout endings) (disk_at racks) (λ node i. slice_get (new node) i)
  racks_went endings new h node = subst (λ l. Each (Came counts layout endings node) l (new node)) (from node) (h node)

  -- by the files of these lists
  judged_racks : (files : D → Disk) (why : StartFault) → IsJudged files layout (λ node i. slice_get (lists node) i) why → IsJudged files layout (disk_at racks) why
  judged_racks files why h = subst (λ (f : Node → List D). IsJudged files layout (λ node i. slice_get (f node) i) why) (λ j node. from node j) h

  -- the files of the disks that come back, as they are told
  still_racks : (files : D → Disk) (new : Node → List D) (why : StartFault) (back : Racks D) → ((node : Node) → disks_in back node ≡ new node) →
      IfOnlyLooked (Some why) ((node : Node) → Each (λ i x y. Same (files x) (files y)) (lists node) (new node)) → FilesStay files why (disk_at racks) (disk_at back)
  still_racks files new why back places h =
      only_so (Some why) ((node : Node) → Each (λ i x y. Same (files x) (files y)) (lists node) (new node)) (AtEach (λ node i x y. Same (files x) (files y)) (disk_at racks) (disk_at back))
      (λ e node. subst (λ l. Each (λ i x y. Same (files x) (files y)) (disks_in racks node) l) (sym (places node)) (subst (λ l. Each (λ i x y. Same (files x) (files y)) l (new node)) (from node) (e node))) h

  pub blank_racks : (files : D → Disk) → AreBlank files layout (λ node i. slice_get (lists node) i) → AreBlank files layout (disk_at racks)
  blank_racks files h = subst (λ (f : Node → List D). AreBlank files layout (λ node i. slice_get (f node) i)) (λ j node. from node j) h

  -- the looks, and then the system or the racks that come back
  module _ {d : Ghosts D} (looked : Node → List D) (looks : (node : Node) → Each (Came counts layout (λ of i. Fine) node) (lists node) (looked node)) where
    pub started : (r : Result (System D d) (NotStarted D)) → IfOk r (λ sys. (node : Node) → Each (Came counts layout (λ of i. Fine) node) (looked node) (disks_of_node sys node)) → IfOk r (λ sys. AtEach (Came counts layout (λ of i. Fine)) (disk_at racks) (disk_of sys))
    started (Err shut) h = tt
    started (Ok sys) h = racks_went (λ of i. Fine) (disks_of_node sys) (λ node. came_then counts layout node (λ of i. Fine) (lists node) (looked node) (disks_of_node sys node) (looks node) (h node))

    -- no disk had a file, so none is told to have one
    pub not_started : (tells : Type 0) (files : D → Disk) (r : Result (System D d) (NotStarted D)) → IfErr r (λ no. AreBack counts layout looked no.fault no.racks) → (tells → AreBlank files layout (λ node i. slice_get (lists node) i)) →
        IfErr r (λ no. IsNotStarted tells files counts layout racks no.fault no.racks)
    not_started tells files (Ok sys) h blank = tt
    not_started tells files (Err shut) h blank = record {
      back = racks_went (ending_of shut.fault) (disks_in shut.racks) (λ node. came_then counts layout node (ending_of shut.fault) (lists node) (looked node) (disks_in shut.racks node) (looks node) (h.came node));
      full = h.full;
      named = h.named;
      judged = λ t. judged_blank files layout (disk_at racks) shut.fault h.no_file (blank_racks files (blank t));
      still = λ t. stays shut.fault h.no_file;
    }
      where
        stays : (why : StartFault) → IsNoFile why → FilesStay files why (disk_at racks) (disk_at shut.racks)
        stays (start.NotBlank named i) none = absurd none
        stays (start.Stopped named i) none = tt
        stays (start.Failed named i) none = tt
        stays start.NoMemory none = tt

  -- a disk was refused by the looks
  pub refused : (tells : Type 0) (files : D → Disk) (why : StartFault) (new : Node → List D) → AreAllLooked tells files counts layout (Some why) lists new → ((node : Node) → length (lists node) ≡ 17) →
      (said : StartFault) → said ≡ why → (back : Racks D) → ((node : Node) → disks_in back node ≡ new node) → (((node : Node) → length (new node) ≡ 17) → IsFull back) → IsNotStarted tells files counts layout racks said back
  refused tells files why new looked many said is back places full = subst (λ w. IsNotStarted tells files counts layout racks w back) (sym is) (record {
    back = racks_went (ending_of why) (disks_in back) (λ node. subst (λ l. Each (Came counts layout (ending_of why) node) (lists node) l) (sym (places node)) (looked.came node));
    full = full (as_many counts layout lists new (ending_of why) looked.came many);
    named = looked.named;
    judged = λ t. judged_racks files why (looked.judged t);
    still = λ t. still_racks files new why back places (looked.still t);
  })

  pub blank_ok : {d : Ghosts D} (files : D → Disk) (r : Result (System D d) (NotStarted D)) → AreBlank files layout (λ node i. slice_get (lists node) i) → IfOk r (λ sys. AreBlank files layout (disk_at racks))
  blank_ok files (Ok sys) blank = blank_racks files blank
  blank_ok files (Err shut) blank = tt
