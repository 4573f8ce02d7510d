-- What lines are answered by a primary, and what they leave.
use Rattle.std.specs.Prelude.{◌≡◌, ◌≢◌, ℕ, Bool, true, false, List, length, Option, Some, None, Result, Ok, Err}
use Rattle.rdf_types.specs.declared.layout.Layout.{Layout}
use Rattle.rdf_types.specs.declared.records.Node.TheVariants.{A}
use Rattle.rdf_disk.specs.Files.{Disk}
use Rattle.rdf_disk.specs.declared.disk.Disk.{Ghosts}
use Rattle.plan_lang.specs.declared.lines.Line.{Line}
use Rattle.plan_lang.specs.declared.lines.Line.TheVariants as line
use Rattle.node_faults.specs.declared.NodeFault.{NodeFault}
use Rattle.tmf_core.specs.States.{tmf_volumes}
use Rattle.tmf_core.specs.Answers.{IsLooked}
use Rattle.tmf_core.specs.declared.fault.TmfFault.{TmfFault}
use Rattle.tmf_core.specs.declared.fault.TmfFault.TheVariants as tmf
use Rattle.rdf_core.specs.declared.replies.NoWhy.{NoWhy}
use Rattle.rdf_core.specs.declared.replies.NoWhy.TheVariants as no
use Rattle.rdf_core.specs.declared.replies.Reply.{Reply}
use Rattle.rdf_core.specs.declared.replies.Reply.TheVariants.{No, Stopped}
use Rattle.rdf_core.specs.Effects.{IsDone, after_parts, parts_unless}
use Rattle.rdf_core.specs.Primary.{Primary as State, primary_refusal, primary_after, primary_says, primary_parts, primary_fallen}
use Rattle.rdf_primary.specs.declared.primary.Primary.{Primary}
use Rattle.rdf_primary.specs.States.{state_of, disks_in, IsLaidOut, IsRunning}
use Rattle.rdf_primary.specs.Standing.{PrimaryStandsFor, SomeStandsFor}

-- the word of a refusal
abbrev pub reason : TmfFault → NoWhy
reason tmf.Down = no.Down
reason tmf.TxnUsed = no.Used
reason tmf.NoTxn = no.Txn
reason tmf.NoVolume = no.Volume
reason (tmf.Locked by) = no.Locked by
reason tmf.Exists = no.Exists
reason tmf.Missing = no.Missing
reason (tmf.Node fault) = no.Down

-- what a call that is not done answers: a refusal is a reply, and a fault of the node is none
abbrev pub refused : TmfFault → Result Reply NodeFault
refused tmf.Down = Ok (No no.Down)
refused tmf.TxnUsed = Ok (No no.Used)
refused tmf.NoTxn = Ok (No no.Txn)
refused tmf.NoVolume = Ok (No no.Volume)
refused (tmf.Locked by) = Ok (No (no.Locked by))
refused tmf.Exists = Ok (No no.Exists)
refused tmf.Missing = Ok (No no.Missing)
refused (tmf.Node fault) = Err fault

-- what a line answers whose call answers so
abbrev pub told : {T : Type 0} → (T → Reply) → Result T TmfFault → Result Reply NodeFault
told reply (Ok x) = Ok (reply x)
told reply (Err why) = refused why

-- an answer is no reply that the node stopped
abbrev pub IsNoStop : Result Reply NodeFault → Type 0
IsNoStop (Ok reply) = reply ≢ Stopped A
IsNoStop (Err fault) = Unit {0}

-- a line that a primary answers while it is up: one of a transaction, or a list or the status of it
abbrev pub IsAnswered : Line → Type 0
IsAnswered (line.Begin t) = Unit {0}
IsAnswered (line.Insert t k value) = Unit {0}
IsAnswered (line.Update t k value) = Unit {0}
IsAnswered (line.Delete t k) = Unit {0}
IsAnswered (line.Get t k) = Unit {0}
IsAnswered (line.Commit t) = Unit {0}
IsAnswered (line.Abort t) = Unit {0}
IsAnswered (line.List node vol) = node ≡ A
IsAnswered (line.Status node) = node ≡ A
IsAnswered _ = ⊥

-- the line is refused and changes nothing, or it is done
abbrev pub Answers : {D : Type 0} {d : Ghosts D} → Line → Reply → Primary D d → Primary D d → Type 0
Answers l reply old new = (layout : Layout) (stops : ℕ) → IsLaidOut layout old →
    IsDone (primary_refusal layout (state_of stops old) l) (λ _. state_of stops old) (primary_after (state_of stops old) l) (primary_says (state_of stops old) l) reply (state_of stops new)

-- its disks stand for it as the machine has it
abbrev pub Stands : {D : Type 0} {d : Ghosts D} → (D → Disk) → Primary D d → Type 0
Stands files s = (layout : Layout) (stops : ℕ) → IsLaidOut layout s → PrimaryStandsFor files layout (state_of stops s) (disks_in s)

-- the durable parts of the line, none where it is refused
abbrev pub primary_parts_of : Layout → State → Line → List State
primary_parts_of layout a l = parts_unless (primary_refusal layout a l) (primary_parts a l)

-- a refusal by what a volume shows at a place: a disk is asked for it, and every other one is judged in memory
abbrev pub is_by_volume : NoWhy → Bool
is_by_volume no.Exists = true
is_by_volume no.Missing = true
is_by_volume _ = false

-- nothing that is judged in memory refuses a line
abbrev pub NoneEarly : Option NoWhy → Type 0
NoneEarly None = Unit {0}
NoneEarly (Some why) = is_by_volume why ≡ true

-- A line that is refused by what is judged in memory changes nothing at all.
-- One that is refused by what a volume shows leaves what a look at a volume leaves.
pub record Keeps {X : Type 0} (Looked : X → X → Type 0) (result : Result Reply NodeFault) (old new : X) : Type 0 where
  pub still : (why : NoWhy) → result ≡ Ok (No why) → is_by_volume why ≡ false → new ≡ old
  pub looked : (why : NoWhy) → result ≡ Ok (No why) → is_by_volume why ≡ true → Looked old new

-- a volume of a primary was looked at: its trail and its transactions are as before, and each of its volumes shows the same
abbrev pub WasLooked : {D : Type 0} {d : Ghosts D} → Primary D d → Primary D d → Type 0
WasLooked old new = IsLooked old.tmf new.tmf

-- Nothing that is judged in memory refuses the line.
-- Whatever stops leave of the disks stands for what some first ones of the line's durable parts leave, and the primary is down.
pub record Breaks {D : Type 0} {d : Ghosts D} (files : D → Disk) (l : Line) (old new : Primary D d) : Type 0 where
  pub unrefused : (layout : Layout) (stops : ℕ) → IsLaidOut layout old → NoneEarly (primary_refusal layout (state_of stops old) l)
  pub stands : (layout : Layout) (stops rise : ℕ) → IsLaidOut layout old →
      SomeStandsFor files layout (length (primary_parts_of layout (state_of stops old) l)) (λ n. primary_fallen rise (after_parts (state_of stops old) (primary_parts_of layout (state_of stops old) l) n)) (disks_in new)

-- a line that is done, or is refused: its answer, and that the primary runs on with its volumes, and its disks stand for it
pub record Goes {D : Type 0} {d : Ghosts D} (files : D → Disk) (l : Line) (reply : Reply) (old new : Primary D d) : Type 0 where
  pub answers : Answers l reply old new
  pub sized : tmf_volumes new.tmf ≡ tmf_volumes old.tmf
  pub runs : IsRunning files new
  pub stands : Stands files new

-- how a line ends
abbrev pub Ends : {D : Type 0} {d : Ghosts D} → (D → Disk) → Line → Result Reply NodeFault → Primary D d → Primary D d → Type 0
Ends files l (Ok reply) old new = Goes files l reply old new
Ends files l (Err fault) old new = Breaks files l old new
