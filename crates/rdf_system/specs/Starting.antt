-- How the system starts: the used disks are looked at until one is refused, and then they are made ready.
use Rattle.std.specs.Prelude.{◌≡◌, ◌≢◌, ℕ, suc, ◌+◌, ◌<◌, true, false, ◌&&◌, ◌==◌, List, length, slice_get, IfSome, Option, Some, None, if◌then◌else◌}
use Rattle.std.specs.Global.{Vec}
use Rattle.std.specs.Option.{IsSomeAnd}
use Rattle.rdf_types.specs.declared.layout.Layout.{Layout}
use Rattle.rdf_types.specs.declared.records.Node.{Node}
use Rattle.rdf_disk.specs.Files.{Disk}
use Rattle.rdf_disk.specs.declared.disk.Disk.{Ghosts}
use Rattle.rdf_disk.specs.Calls.{Same}
use Rattle.rdf_disk.specs.Counts.{Counts, Ending, Causes, Faulted, WasStopped}
use Rattle.rdf_disk.specs.Counts.Ending.{Fine, Stop, Fault}
use Rattle.audit_trail.specs.Spelled.{IsBlank}
use Rattle.node_faults.specs.declared.NodeFault.{NodeFault}
use Rattle.node_faults.specs.declared.NodeFault.TheVariants as fault
use Rattle.plan_lang.specs.LineText.{same_node}
use Rattle.rdf_core.specs.State.{blank}
use Rattle.node_disks.specs.Cuts.{Each}
use Rattle.rdf_system.specs.declared.fault.StartFault.{StartFault}
use Rattle.rdf_system.specs.declared.fault.StartFault.TheVariants as start
use Rattle.rdf_system.specs.declared.racks.Racks.{Racks}
use Rattle.rdf_system.specs.declared.system.System.{System}
use Rattle.rdf_system.specs.Place.{AtEach, HasRoom, IsFull, disk_at, disks_in, is_used, is_before, IfUsed}
use Rattle.rdf_system.specs.Sessions.{node_of}
use Rattle.rdf_system.specs.Stances.{stances_of, fresh}
use Rattle.rdf_system.specs.States.{layout_of, MayServe, IsAtState, IsStood}

-- that ending at the named place, and none elsewhere
abbrev pub ending_if_at : Ending → Node → ℕ → Node → ℕ → Ending
ending_if_at ending named disk node i = if same_node named node && disk == i then ending else Fine

-- how the start ended for the disk at a place, as far as its counts go
abbrev pub ending_of : StartFault → Node → ℕ → Ending
ending_of (start.NotBlank named disk) node i = Fine
ending_of (start.Stopped named disk) node i = ending_if_at Stop named disk node i
ending_of (start.Failed named disk) node i = ending_if_at Fault named disk node i
ending_of start.NoMemory node i = Fine

-- the same of the looks, which may have refused none
abbrev pub ending_found : Option StartFault → Node → ℕ → Ending
ending_found None node i = Fine
ending_found (Some why) node i = ending_of why node i

-- the counts of a used disk rose as the ending at its place says, and any other disk is as it was
abbrev pub Came : {D : Type 0} → (D → Counts) → Layout → (Node → ℕ → Ending) → Node → ℕ → D → D → Type 0
Came counts layout ending node i old new = IfUsed (is_used layout node i) (λ x y. Causes (ending node i) (counts x) (counts y)) old new

-- the named disk is one that is used
abbrev pub NamesUsed : Layout → StartFault → Type 0
NamesUsed layout (start.NotBlank named disk) = is_used layout named disk ≡ true
NamesUsed layout (start.Stopped named disk) = is_used layout named disk ≡ true
NamesUsed layout (start.Failed named disk) = is_used layout named disk ≡ true
NamesUsed layout start.NoMemory = Unit {0}

-- the fault names no disk of another node
abbrev pub NamesNode : Node → StartFault → Type 0
NamesNode node (start.NotBlank named disk) = named ≡ node
NamesNode node (start.Stopped named disk) = named ≡ node
NamesNode node (start.Failed named disk) = named ≡ node
NamesNode node start.NoMemory = Unit {0}

-- a fact of the fault, where there is one
abbrev pub IfFound : (StartFault → Type 0) → Option StartFault → Type 0
IfFound P None = Unit {0}
IfFound P (Some why) = P why

-- the disk has a file
abbrev pub HasFile : Disk → Type 0
HasFile disk = (m : ℕ) × ((disk m).seen ≢ None)

-- no disk that is used has a file
abbrev pub AreBlank : {D : Type 0} → (D → Disk) → Layout → (Node → ℕ → Option D) → Type 0
AreBlank files layout disk = (node : Node) (i : ℕ) → is_used layout node i ≡ true → IfSome (disk node i) (λ d. IsBlank (files d))

-- none of those before that place has one
abbrev pub AreBlankBefore : {D : Type 0} → (D → Disk) → Layout → (Node → ℕ → Option D) → Node → ℕ → Type 0
AreBlankBefore files layout disk node j = (of : Node) (i : ℕ) → is_used layout of i ≡ true → is_before of i node j ≡ true → IfSome (disk of i) (λ d. IsBlank (files d))

-- the disk at that place is the first of those that are used that has a file
pub record IsFirstWithFile {D : Type 0} (files : D → Disk) (layout : Layout) (disk : Node → ℕ → Option D) (node : Node) (j : ℕ) : Type 0 where
  pub has : IsSomeAnd (disk node j) (λ d. HasFile (files d))
  pub before : AreBlankBefore files layout disk node j

-- Why it was not started, by the files of the used disks: a disk is told not to be blank where it is the first of them that has a file.
-- Before a disk that stopped or failed none has one.
abbrev pub IsJudged : {D : Type 0} → (D → Disk) → Layout → (Node → ℕ → Option D) → StartFault → Type 0
IsJudged files layout disk (start.NotBlank named i) = IsFirstWithFile files layout disk named i
IsJudged files layout disk (start.Stopped named i) = AreBlankBefore files layout disk named i
IsJudged files layout disk (start.Failed named i) = AreBlankBefore files layout disk named i
IsJudged files layout disk start.NoMemory = Unit {0}

-- the same of the looks: where they refused no disk, none has a file
abbrev pub IsFound : {D : Type 0} → (D → Disk) → Layout → (Node → ℕ → Option D) → Option StartFault → Type 0
IsFound files layout disk None = AreBlank files layout disk
IsFound files layout disk (Some why) = IsJudged files layout disk why

-- a fact, where no disk was refused, or one that has a file: then disks were only looked at, and no look failed
abbrev pub IfOnlyLooked : Option StartFault → Type 0 → Type 0
IfOnlyLooked None P = P
IfOnlyLooked (Some (start.NotBlank named disk)) P = P
IfOnlyLooked (Some (start.Stopped named disk)) P = Unit {0}
IfOnlyLooked (Some (start.Failed named disk)) P = Unit {0}
IfOnlyLooked (Some start.NoMemory) P = Unit {0}

-- where a disk is told not to be blank, the files of each disk are as they were
abbrev pub FilesStay : {D : Type 0} → (D → Disk) → StartFault → (Node → ℕ → Option D) → (Node → ℕ → Option D) → Type 0
FilesStay files why old new = IfOnlyLooked (Some why) (AtEach (λ node i x y. Same (files x) (files y)) old new)

-- so many first disks of a node have no file
abbrev pub AreBlankBelow : {D : Type 0} → (D → Disk) → ℕ → List D → Type 0
AreBlankBelow files n disks = (i : ℕ) → i < n → IfSome (slice_get disks i) (λ d. IsBlank (files d))

-- the same by the files of one node's disks
abbrev pub IsJudgedIn : {D : Type 0} → (D → Disk) → List D → StartFault → Type 0
IsJudgedIn files disks (start.NotBlank named i) = IsSomeAnd (slice_get disks i) (λ d. HasFile (files d)) × AreBlankBelow files i disks
IsJudgedIn files disks (start.Stopped named i) = AreBlankBelow files i disks
IsJudgedIn files disks (start.Failed named i) = AreBlankBelow files i disks
IsJudgedIn files disks start.NoMemory = Unit {0}

abbrev pub IsFoundIn : {D : Type 0} → (D → Disk) → ℕ → List D → Option StartFault → Type 0
IsFoundIn files many disks None = AreBlankBelow files many disks
IsFoundIn files many disks (Some why) = IsJudgedIn files disks why

-- the disk may be used: it is on, and where it tells it has no file
pub record IsReady {D : Type 0} (tells : Type 0) (files : D → Disk) (counts : D → Counts) (disk : D) : Type 0 where
  pub on : (counts disk).off ≡ false
  pub blank : tells → IsBlank (files disk)

-- the used disks of the node may be used
abbrev pub AreReady : {D : Type 0} → (tells : Type 0) → (D → Disk) → (D → Counts) → Layout → Node → List D → Type 0
AreReady tells files counts layout node disks = (i : ℕ) → is_used layout node i ≡ true → IfSome (slice_get disks i) (IsReady tells files counts)

-- these are the used disks of a node, which may be used, and those beside them, with room for all
pub record ArePicked {D : Type 0} (tells : Type 0) (files : D → Disk) (counts : D → Counts) (layout : Layout) (own spare : List D) (into : Vec D) : Type 0 where
  pub many : length own ≡ layout.volumes + 1
  pub all : length own + length spare ≡ 17
  pub room : HasRoom 17 into
  pub ready : (i : ℕ) → IfSome (slice_get own i) (IsReady tells files counts)

-- a look that did not fail leaves the counts of the disk, and where it tells its files
abbrev pub LeftAlone : {D : Type 0} → (tells : Type 0) → (D → Disk) → (D → Counts) → D → D → Type 0
LeftAlone tells files counts old new = (counts new ≡ counts old) × (tells → Same (files old) (files new))

-- what a look at the disk of that number of the node tells
abbrev pub IsLooked : {D : Type 0} → (tells : Type 0) → (D → Disk) → (D → Counts) → Node → ℕ → Option StartFault → D → D → Type 0
IsLooked tells files counts node n None old new = LeftAlone tells files counts old new × IsReady tells files counts new × (tells → IsBlank (files old))
IsLooked tells files counts node n (Some (start.NotBlank named disk)) old new = (named ≡ node) × (disk ≡ n) × LeftAlone tells files counts old new × (tells → HasFile (files old))
IsLooked tells files counts node n (Some (start.Stopped named disk)) old new = (named ≡ node) × (disk ≡ n) × WasStopped (counts old) (counts new)
IsLooked tells files counts node n (Some (start.Failed named disk)) old new = (named ≡ node) × (disk ≡ n) × Faulted (counts old) (counts new)
IsLooked tells files counts node n (Some start.NoMemory) old new = counts new ≡ counts old

-- what the looks at the used disks of the node tell
pub record AreLooked {D : Type 0} (tells : Type 0) (files : D → Disk) (counts : D → Counts) (layout : Layout) (node : Node) (found : Option StartFault) (old new : List D) : Type 0 where
  pub came : Each (Came counts layout (ending_found found) node) old new
  pub named : IfFound (NamesUsed layout) found
  pub own : IfFound (NamesNode node) found
  pub judged : tells → IsFoundIn files (suc layout.volumes) old found
  pub still : tells → IfOnlyLooked found (Each (λ i x y. Same (files x) (files y)) old new)
  pub ready : found ≡ None → AreReady tells files counts layout node new

-- what the looks at the used disks of all nodes tell
pub record AreAllLooked {D : Type 0} (tells : Type 0) (files : D → Disk) (counts : D → Counts) (layout : Layout) (found : Option StartFault) (old new : Node → List D) : Type 0 where
  pub came : (node : Node) → Each (Came counts layout (ending_found found) node) (old node) (new node)
  pub named : IfFound (NamesUsed layout) found
  pub judged : tells → IsFound files layout (λ node i. slice_get (old node) i) found
  pub still : tells → IfOnlyLooked found ((node : Node) → Each (λ i x y. Same (files x) (files y)) (old node) (new node))
  pub ready : found ≡ None → (node : Node) → AreReady tells files counts layout node (new node)

-- a fault of the node's disks while they are made ready, as the start's
abbrev pub start_fault : Node → NodeFault → StartFault
start_fault node (fault.Stopped disk) = start.Stopped node disk
start_fault node (fault.Failed disk) = start.Failed node disk
start_fault node fault.NoMemory = start.NoMemory
start_fault node (fault.Damaged disk file at) = start.NoMemory

-- no disk has been found to have a file
abbrev pub IsNoFile : StartFault → Type 0
IsNoFile (start.NotBlank named disk) = ⊥
IsNoFile (start.Stopped named disk) = Unit {0}
IsNoFile (start.Failed named disk) = Unit {0}
IsNoFile start.NoMemory = Unit {0}

-- the disks of a node could not be made ready, and come back
pub record AreHandedBack {D : Type 0} (counts : D → Counts) (layout : Layout) (node : Node) (why : StartFault) (old new : List D) : Type 0 where
  pub came : Each (Came counts layout (ending_of why) node) old new
  pub named : NamesUsed layout why
  pub own : NamesNode node why
  pub no_file : IsNoFile why

-- the disks of these lists could not be made ready, and come back in whole racks
pub record AreBack {D : Type 0} (counts : D → Counts) (layout : Layout) (old : Node → List D) (why : StartFault) (racks : Racks D) : Type 0 where
  pub came : (node : Node) → Each (Came counts layout (ending_of why) node) (old node) (disks_in racks node)
  pub full : IsFull racks
  pub named : NamesUsed layout why
  pub no_file : IsNoFile why

-- the system of the layout was just started: it may be used, is at the machine's first state, where the run of no line leads, all of its nodes are up, each backup runs, and no session is open
pub record HasStarted {D : Type 0} {d : Ghosts D} (tells : Type 0) (files : D → Disk) (counts : D → Counts) (layout : Layout) (sys : System D d) : Type 0 where
  pub at : tells → IsAtState files layout (blank layout) sys
  pub serves : MayServe tells files counts sys
  pub laid : layout_of sys ≡ layout
  pub closed : node_of sys.session ≡ None
  pub stands : stances_of sys ≡ fresh layout
  pub stood : tells → IsStood files sys

-- the system was not started, for that reason: the racks come back with each disk in its place and the cause in its counts, the named disk is a used one, and files are as the reason says
pub record IsNotStarted {D : Type 0} (tells : Type 0) (files : D → Disk) (counts : D → Counts) (layout : Layout) (racks : Racks D) (why : StartFault) (now_racks : Racks D) : Type 0 where
  pub back : AtEach (Came counts layout (ending_of why)) (disk_at racks) (disk_at now_racks)
  pub full : IsFull now_racks
  pub named : NamesUsed layout why
  pub judged : tells → IsJudged files layout (disk_at racks) why
  pub still : tells → FilesStay files why (disk_at racks) (disk_at now_racks)
