-- Which lines are refused, whatever the disks tell.
use Rattle.std.specs.Prelude.{◌≡◌, ℕ, not, true, false, nat_lt, Bool, List, [], ◌∷◌, length, map, Option, Some, None, Result, Ok, Err, IfOk, if◌then◌else◌}
use Rattle.rdf_types.specs.declared.layout.Layout.{Layout}
use Rattle.rdf_types.specs.declared.records.Row.{Row}
use Rattle.rdf_disk.specs.declared.disk.Disk.{Ghosts}
use Rattle.node_faults.specs.declared.NodeFault.{NodeFault}
use Rattle.rdf_volume.specs.Views.{restart_of}
use Rattle.rdf_core.specs.declared.replies.NoWhy.{NoWhy}
use Rattle.rdf_core.specs.declared.replies.NoWhy.TheVariants as no
use Rattle.rdf_core.specs.declared.replies.Reply.{Reply}
use Rattle.rdf_core.specs.declared.replies.Reply.TheVariants.{No, Number, Rows, Info, BackupUp, NodeDown}
use Rattle.rdf_core.specs.Effects.{when, first, count_u32}
use Rattle.rdf_core.specs.Backup.{Backup as State, needs_running, kept_of, phase_of, read_reply, volume_infos}
use Rattle.rdf_backup.specs.declared.backup.Backup.{Backup}
use Rattle.rdf_backup.specs.States.{layout_of}

-- the answer is a refusal
abbrev pub IsRefusal : Result Reply NodeFault → Type 0
IsRefusal (Ok reply) = (why : NoWhy) × (reply ≡ No why)
IsRefusal (Err fault) = ⊥

-- what has a first refusal is answered by that and changes nothing; what has none is answered so, or ends by a fault
abbrev pub IsJudged : {X : Type 0} → Option NoWhy → (Reply → Type 0) → Result Reply NodeFault → X → X → Type 0
IsJudged None says result old new = IfOk result says
IsJudged (Some why) says result old new = (result ≡ Ok (No why)) × (new ≡ old)

-- that refusal is the answer; where there is none it is answered so, or ends by a fault
abbrev pub AnswersUnless : {E : Type 0} → Option NoWhy → (Reply → Type 0) → Result Reply E → Type 0
AnswersUnless None says result = IfOk result says
AnswersUnless (Some why) says result = result ≡ Ok (No why)

-- the first refusal of a read
abbrev pub read_refusal : Layout → State → ℕ → Option NoWhy
read_refusal layout b vol = first (needs_running b ∷ when (not (nat_lt vol layout.volumes)) no.Volume ∷ [])

-- the reply is that number
abbrev pub IsNumber : ℕ → Reply → Type 0
IsNumber n reply = reply ≡ Number n

-- the reply is some number
abbrev pub IsCount : Reply → Type 0
IsCount reply = (n : ℕ) × (reply ≡ Number n)

-- the reply is rows, at that position
abbrev pub AreRowsAt : ℕ → Reply → Type 0
AreRowsAt at reply = (rows : List Row) × (reply ≡ Rows at rows)

-- the reply is what stands at a place: of a protected volume at that position, of another one nothing at 0
abbrev pub IsReadOf : Bool → ℕ → Reply → Type 0
IsReadOf true at reply = (value : Option (List ℕ)) × (reply ≡ read_reply at value)
IsReadOf false at reply = reply ≡ read_reply 0 None

-- the reply is how the backup stands, with some number of transactions without outcome
abbrev pub IsStatus : State → Reply → Type 0
IsStatus b reply = (unended : ℕ) × (reply ≡ (if b.up then BackupUp (phase_of b.volumes) b.received (kept_of b) (count_u32 (length b.starts)) unended else NodeDown))

-- the reply is what the backup has in memory of each volume
abbrev pub IsInfo : {D : Type 0} {d : Ghosts D} → Backup D d → Reply → Type 0
IsInfo p reply = reply ≡ Info (volume_infos (layout_of p).trail_of (layout_of p).protect (map (λ volume. restart_of volume) p.volumes.items))
