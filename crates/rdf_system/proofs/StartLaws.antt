-- How the disks of a node are made ready.
use Rattle.std.proofs.Common.{◌≡◌, ℕ, zero, suc, ◌+◌, ◌<◌, ◌&&◌, ◌==◌, if◌then◌else◌, true, false, List, [], ◌∷◌, ◌++◌, length, take, drop, Option, Some, None, IfSome, refl, sym, ap, ◌∙◌, subst, arith}
use Rattle.std.specs.Prelude.{slice_get}
use Rattle.std.specs.List.{AllByRecursion}
use Rattle.std.proofs.lemmas.List.{take-append-drop}
use Rattle.rdf_types.specs.declared.layout.Layout.{Layout}
use Rattle.rdf_types.specs.declared.records.Node.{Node}
use Rattle.rdf_disk.specs.Files.{Disk}
use Rattle.rdf_disk.specs.Counts.{Counts, Ending, Causes}
use Rattle.rdf_disk.specs.Counts.Ending.{Fine, Stop, Fault}
use Rattle.audit_trail.specs.Spelled.{IsBlank}
use Rattle.node_faults.specs.declared.NodeFault.{NodeFault}
use Rattle.node_faults.specs.declared.NodeFault.TheVariants as fault
use Rattle.node_faults.specs.Faults.{ending_at, IsNamed}
use Rattle.node_faults.specs.Openings.{IsCaused, AreCaused}
use Rattle.rdf_core.specs.Allowed.{is_node}
use Rattle.plan_lang.specs.LineText.{same_node}
use Rattle.node_disks.specs.Cuts.{Each}
use Rattle.node_disks.specs.CutLaws.{each_so}
use Rattle.node_disks.specs.PairLaws.{pairs_each}
use Rattle.rdf_system.specs.declared.fault.StartFault.{StartFault}
use Rattle.rdf_system.specs.declared.fault.StartFault.TheVariants as start
use Rattle.rdf_system.specs.Place.{is_used}
use Rattle.rdf_system.specs.Starting.{AreBlank, AreHandedBack, Came, IsJudged, IsNoFile, IsReady, NamesNode, NamesUsed, ending_of, start_fault}
use Rattle.rdf_system.proofs.PlaceLaws.{joined_each, used, unused, used_below, unused_beyond}
use Rattle.rdf_core.specs.SessionLaws.{same_self}
use Rattle.rdf_system.proofs.CameLaws.{came_same}

-- disks that are ready have no file
pub all_blank : {D : Type 0} (tells : Type 0) (files : D → Disk) (counts : D → Counts) (xs : List D) → ((i : ℕ) → IfSome (slice_get xs i) (IsReady tells files counts)) → tells → AllByRecursion (λ d. IsBlank (files d)) xs
all_blank tells files counts [] h t = tt
all_blank tells files counts (x ∷ xs) h t = ((h zero).blank t, all_blank tells files counts xs (λ i. h (suc i)) t)

-- and are on
pub all_on : {D : Type 0} (tells : Type 0) (files : D → Disk) (counts : D → Counts) (xs : List D) → ((i : ℕ) → IfSome (slice_get xs i) (IsReady tells files counts)) → (i : ℕ) → IfSome (slice_get xs i) (λ d. (counts d).off ≡ false)
all_on {D = D} tells files counts xs h i = go (slice_get xs i) (h i)
  where
    go : (o : Option D) → IfSome o (IsReady tells files counts) → IfSome o (λ d. (counts d).off ≡ false)
    go None r = tt
    go (Some x) r = r.on

-- what holds of the first elements, of those that were split off
pub first_ready : {X : Type 0} (P : X → Type 0) (m : ℕ) (xs own : List X) → own ≡ take m xs → ((i : ℕ) → i < m → IfSome (slice_get xs i) P) → (i : ℕ) → IfSome (slice_get own i) P
first_ready {X = X} P m xs own is h = subst (λ l. (i : ℕ) → IfSome (slice_get l i) P) (sym is) (go m xs h)
  where
    go : (m : ℕ) (xs : List X) → ((i : ℕ) → i < m → IfSome (slice_get xs i) P) → (i : ℕ) → IfSome (slice_get (take m xs) i) P
    go zero xs h i = tt
    go (suc m) [] h i = tt
    go (suc m) (x ∷ xs) h zero = h zero (omega arith)
    go (suc m) (x ∷ xs) h (suc i) = go m xs (λ j few. h (suc j) (omega (arith, few))) i

-- the two parts of a list
pub two_parts : {X : Type 0} (n : ℕ) (all own rest : List X) → own ≡ take n all → rest ≡ drop n all → own ++ rest ≡ all
two_parts n all own rest first last = ap (λ l. l ++ rest) first ∙ ap (λ l. take n all ++ l) last ∙ take-append-drop n all

-- a fault of a node's disk ended for each of them as the start's fault says
ending_same : (node : Node) (why : NodeFault) (i : ℕ) → ending_at i why ≡ ending_of (start_fault node why) node i
ending_same node why i = go why
  where
    at_self : (ending : Ending) (disk : ℕ) → (if disk == i then ending else Fine) ≡ (if same_node node node && disk == i then ending else Fine)
    at_self ending disk = sym (ap (λ b. if b && (disk == i) then ending else Fine) (same_self node))

    go : (f : NodeFault) → ending_at i f ≡ ending_of (start_fault node f) node i
    go (fault.Stopped disk) = at_self Stop disk
    go (fault.Failed disk) = at_self Fault disk
    go fault.NoMemory = refl
    go (fault.Damaged disk file at) = refl

module _ {D : Type 0} (counts : D → Counts) (xs ys : List D) where
  -- the causes of an opening, disk by disk
  pub formatted : AreCaused counts None xs ys → Each (λ i x y. Causes Fine (counts x) (counts y)) xs ys
  formatted h = pairs_each (IsCaused counts) None xs ys h

  pub not_formatted : (node : Node) (why : NodeFault) → AreCaused counts (Some why) xs ys → Each (λ i x y. Causes (ending_of (start_fault node why) node i) (counts x) (counts y)) xs ys
  not_formatted node why h = each_so (λ i x y. IsCaused counts i (Some why) x y) (λ i x y. Causes (ending_of (start_fault node why) node i) (counts x) (counts y)) xs ys
      (λ i x y g. subst (λ n. Causes n (counts x) (counts y)) (ending_same node why i) g) (pairs_each (IsCaused counts) (Some why) xs ys h)

names_node : (node : Node) (why : NodeFault) → NamesNode node (start_fault node why)
names_node node (fault.Stopped disk) = refl
names_node node (fault.Failed disk) = refl
names_node node fault.NoMemory = tt
names_node node (fault.Damaged disk file at) = tt

finds_no_file : (node : Node) (why : NodeFault) → IsNoFile (start_fault node why)
finds_no_file node (fault.Stopped disk) = tt
finds_no_file node (fault.Failed disk) = tt
finds_no_file node fault.NoMemory = tt
finds_no_file node (fault.Damaged disk file at) = tt

module _ (layout : Layout) (node : Node) (placed : is_node layout node ≡ true) where
  -- a fault of a disk that there is
  names_used : (why : NodeFault) → IsNamed (suc layout.volumes) why → NamesUsed layout (start_fault node why)
  names_used (fault.Stopped disk) few = used_below layout node placed disk (omega (arith, few))
  names_used (fault.Failed disk) few = used_below layout node placed disk (omega (arith, few))
  names_used fault.NoMemory few = tt
  names_used (fault.Damaged disk file at) few = tt

  module _ {D : Type 0} (counts : D → Counts) (own spare : List D) (many : length own ≡ layout.volumes + 1) where
    -- the node's own disks went so, and those beside it are behind them
    pub came_behind : (endings : Node → ℕ → Ending) (new : List D) → Each (λ i x y. Causes (endings node i) (counts x) (counts y)) own new → Each (Came counts layout endings node) (own ++ spare) (new ++ spare)
    came_behind endings new h = joined_each (λ i x y. Causes (endings node i) (counts x) (counts y)) (Came counts layout endings node) own new spare h
        (λ i x y few c. used (λ a b. Causes (endings node i) (counts a) (counts b)) x y (is_used layout node i) (used_below layout node placed i (omega (arith, few, many))) c)
        (λ i x far. unused (λ a b. Causes (endings node i) (counts a) (counts b)) x x (is_used layout node i) (unused_beyond layout node placed i (omega (arith, far, many))) refl)

    -- they could not be made ready
    pub handed_back : (why : NodeFault) (said : StartFault) → said ≡ start_fault node why → (new now : List D) → now ≡ new ++ spare → Each (λ i x y. Causes (ending_of (start_fault node why) node i) (counts x) (counts y)) own new →
        IsNamed (suc layout.volumes) why → AreHandedBack counts layout node said (own ++ spare) now
    handed_back why said is new now order h named = subst (λ w. AreHandedBack counts layout node w (own ++ spare) now) (sym is) (record {
      came = subst (λ l. Each (Came counts layout (ending_of (start_fault node why)) node) (own ++ spare) l) (sym order) (came_behind (ending_of (start_fault node why)) new h);
      named = names_used why named;
      own = names_node node why;
      no_file = finds_no_file node why;
    })

-- nothing was done with the disks
pub kept_back : {D : Type 0} (counts : D → Counts) (layout : Layout) (node : Node) (disks : List D) → AreHandedBack counts layout node start.NoMemory disks disks
kept_back counts layout node disks = record { came = came_same counts layout node (ending_of start.NoMemory) disks (λ i. refl); named = tt; own = tt; no_file = tt }

-- where no disk had a file, none is told to have one
pub judged_blank : {D : Type 0} (files : D → Disk) (layout : Layout) (disk : Node → ℕ → Option D) (why : StartFault) → IsNoFile why → AreBlank files layout disk → IsJudged files layout disk why
judged_blank files layout disk (start.NotBlank named i) none blank = absurd none
judged_blank files layout disk (start.Stopped named i) none blank = λ of j inside before. blank of j inside
judged_blank files layout disk (start.Failed named i) none blank = λ of j inside before. blank of j inside
judged_blank files layout disk start.NoMemory none blank = tt
