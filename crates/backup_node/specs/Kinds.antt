-- Which reply a backup's node gives to a line, whatever its disks tell, and what a refusal leaves.
use Rattle.std.specs.Prelude.{◌≡◌, ◌⊎◌, ℕ, ◌-◌, ◌≤◌, max, not, false, nat_lt, Bool, List, [], ◌∷◌, map, Option, Some, None, Result, Ok, IfOk}
use Rattle.rdf_types.specs.declared.records.Node.{Node}
use Rattle.rdf_types.specs.declared.records.RecKey.{RecKey}
use Rattle.rdf_disk.specs.declared.disk.Disk.{Ghosts}
use Rattle.rdf_codec.specs.declared.ships.Ship.{Ship}
use Rattle.plan_lang.specs.declared.lines.Line.{Line}
use Rattle.plan_lang.specs.declared.lines.Line.TheVariants as line
use Rattle.node_faults.specs.declared.NodeFault.{NodeFault}
use Rattle.rdf_volume.specs.Views.{restart_of}
use Rattle.rdf_core.specs.declared.replies.NoWhy.{NoWhy}
use Rattle.rdf_core.specs.declared.replies.NoWhy.TheVariants as no
use Rattle.rdf_core.specs.declared.replies.Reply.{Reply}
use Rattle.rdf_core.specs.declared.replies.Reply.TheVariants.{Done, Number, No, Stopped}
use Rattle.rdf_core.specs.Effects.{when, first}
use Rattle.rdf_core.specs.Backup.{Backup as State, Taking, copy_refusal, deliver_refusal, takeover_refusal, needs_up, needs_running, needs_volumes, needs_taken, listed_at}
use Rattle.rdf_core.specs.Layouts.{protects, point_of}
use Rattle.rdf_core.specs.Step.{disks_of}
use Rattle.rdf_backup.specs.declared.backup.Backup.{Backup}
use Rattle.rdf_backup.specs.Refusals.{IsNumber, IsCount, AreRowsAt, IsReadOf, IsStatus, IsInfo}
use Rattle.rdf_backup.specs.States.{layout_of, state_of}
use Rattle.rdf_wire.specs.Shipping.{IsSent}
use Rattle.node_disks.specs.Cuts.{IfBoth}
use Rattle.backup_node.specs.declared.node.BackupNode.{BackupNode}

-- ---- how the node stands

-- the backup as the machine has it, by what is in memory: of one that is down no more than that
abbrev pub state_among : {D : Type 0} {d : Ghosts D} → Option (Backup D d) → State
state_among None = record { up = false; received = 0; starts = []; number = 0; volumes = Taking; stops = 0 }
state_among (Some p) = state_of 0 p

abbrev pub state_at : {D : Type 0} {d : Ghosts D} → BackupNode D d → State
state_at n = state_among n.backup

-- the first refusal of a line for how its node stands, as its row has it; any other stands behind these
abbrev pub own_refusal : {D : Type 0} {d : Ghosts D} → BackupNode D d → Line → Option NoWhy
own_refusal n (line.Deliver node k) = needs_running (state_at n)
own_refusal n (line.Purge node) = needs_volumes (state_at n)
own_refusal n (line.Takeover node) = needs_up (state_at n)
own_refusal n (line.CopyAudit node from) = needs_up (state_at n)
own_refusal n (line.Session node) = needs_running (state_at n)
own_refusal n (line.Read node key) = first (needs_running (state_at n) ∷ when (not (nat_lt key.vol n.volumes)) no.Volume ∷ [])
own_refusal n (line.List node vol) = first (needs_volumes (state_at n) ∷ when (not (nat_lt vol n.volumes)) no.Volume ∷ [])
own_refusal n (line.Info node) = needs_volumes (state_at n)
own_refusal n (line.Fuse node disk calls tear) = when (nat_lt n.volumes disk) no.Volume
own_refusal n (line.Cut node) = needs_up (state_at n)
own_refusal n (line.Restart node) = when (state_at n).up no.Up
own_refusal n _ = None

-- ---- what else it may say

-- that refusal is the reply, or where there is none this is said of it
abbrev pub IsSaid : Option NoWhy → (Reply → Type 0) → Reply → Type 0
IsSaid None says reply = says reply
IsSaid (Some why) says reply = reply ≡ No why

-- a message was taken in, which leaves no less received, or it begins behind what was received
abbrev pub MayTake : ℕ → Reply → Type 0
MayTake received (Number n) = received ≤ n
MayTake received (No (no.Gap at)) = at ≡ received
MayTake received _ = ⊥

-- audit was fetched from another backup that is up, or that one has not taken over, or keeps no longer what is lacking
abbrev pub MayFetch : ℕ → Reply → Type 0
MayFetch received (Number n) = Unit {0}
MayFetch received (No no.Running) = Unit {0}
MayFetch received (No no.Taking) = Unit {0}
MayFetch received (No (no.Purged at)) = at ≡ received
MayFetch received _ = ⊥

-- what stands at a place of a volume, at its restart point behind the read where that is protected
abbrev pub MayRead : {D : Type 0} {d : Ghosts D} → RecKey → Option (Backup D d) → Option (Backup D d) → Reply → Type 0
MayRead key (Some p) (Some q) reply = IsReadOf (protects (layout_of p) key.vol) (point_of (map (λ volume. restart_of volume) q.volumes.items) key.vol) reply
MayRead key _ _ reply = ⊥

-- what is in memory of each volume
abbrev pub MayInform : {D : Type 0} {d : Ghosts D} → Option (Backup D d) → Reply → Type 0
MayInform (Some p) reply = IsInfo p reply
MayInform None reply = ⊥

-- the replies to a line that its node does not refuse so, where it is left so
abbrev pub MaySay : {D : Type 0} {d : Ghosts D} → BackupNode D d → BackupNode D d → Line → Reply → Type 0
MaySay old new (line.Deliver node k) reply = (reply ≡ No no.Message) ⊎ MayTake (state_at old).received reply
MaySay old new (line.Purge node) reply = IsCount reply
MaySay old new (line.Takeover node) reply = (reply ≡ No no.PrimaryUp) ⊎ IsNumber (state_at old).received reply
MaySay old new (line.CopyAudit node from) reply = (reply ≡ No no.Down) ⊎ IsSaid (needs_taken (state_at old).volumes) (λ r. MayFetch (state_at old).received r) reply
MaySay old new (line.Session node) reply = IsNumber (state_at old).received reply
MaySay old new (line.Read node key) reply = MayRead key old.backup new.backup reply
MaySay old new (line.List node vol) reply = AreRowsAt (listed_at (state_at old).volumes vol) reply
MaySay old new (line.Info node) reply = MayInform old.backup reply
MaySay old new (line.Status node) reply = IsStatus (state_at old) reply
MaySay old new (line.Fuse node disk calls tear) reply = reply ≡ Done
MaySay old new (line.Cut node) reply = reply ≡ Done
MaySay old new (line.Restart node) reply = IsNumber (state_at new).received reply
MaySay old new _ reply = ⊥

-- that refusal is the answer; where there is none this is said of a reply, or it is that this node stopped, in a line that uses its disks
abbrev pub IsJudgedAt : Node → Line → Option NoWhy → (Reply → Type 0) → Result Reply NodeFault → Type 0
IsJudgedAt name l None says result = IfOk result (λ reply. says reply ⊎ ((reply ≡ Stopped name) × (disks_of l ≡ Some name)))
IsJudgedAt name l (Some why) says result = result ≡ Ok (No why)

-- a line is answered so
abbrev pub IsReplied : {D : Type 0} {d : Ghosts D} → Line → Result Reply NodeFault → BackupNode D d → BackupNode D d → Type 0
IsReplied l result old new = IsJudgedAt old.name l (own_refusal old l) (λ reply. MaySay old new l reply) result

-- ---- by what is around the node

-- the message of these bytes is a shipment of that range, or there is none
abbrev pub IsOfRange : Option (List ℕ) → Option (ℕ × ℕ) → Type 0
IsOfRange None range = range ≡ None
IsOfRange (Some bytes) range = (ship : Ship) × IsSent bytes ship × (range ≡ Some (ship.from, ship.to))

-- how far is received behind a message of that range
abbrev pub taken_to : ℕ → Option (ℕ × ℕ) → ℕ
taken_to received None = received
taken_to received (Some range) = max received range.1

-- a delivery of a message of that range is answered as its row has it
abbrev pub IsDelivered : {D : Type 0} {d : Ghosts D} → ℕ → Option (ℕ × ℕ) → Result Reply NodeFault → BackupNode D d → Type 0
IsDelivered k range result n = IsJudgedAt n.name (line.Deliver n.name k) (deliver_refusal (state_at n) range) (λ reply. IsNumber (taken_to (state_at n).received range) reply) result

-- and a takeover, where the primary is lost or not
abbrev pub IsTakenOver : {D : Type 0} {d : Ghosts D} → Bool → Result Reply NodeFault → BackupNode D d → Type 0
IsTakenOver lost result n = IsJudgedAt n.name (line.Takeover n.name) (takeover_refusal lost (state_at n)) (λ reply. IsNumber (state_at n).received reply) result

-- and a copy from another node
abbrev pub IsCopied : {D : Type 0} {d : Ghosts D} → Node → BackupNode D d → Result Reply NodeFault → BackupNode D d → Type 0
IsCopied from lead result n = IsJudgedAt n.name (line.CopyAudit n.name from) (copy_refusal (state_at n) (state_at lead)) (λ reply. IsNumber ((state_at lead).received - (state_at n).received) reply) result

-- ---- what a refusal leaves

-- the image trails stay, and nothing but the volumes may have changed
pub record HasOnlyRisen {D : Type 0} {d : Ghosts D} (old new : BackupNode D d) : Type 0 where
  pub rest : record new { backup = old.backup } ≡ old
  pub trails : IfBoth (λ (p q : Backup D d). q.trails ≡ p.trails) old.backup new.backup

-- the node is as it was; a purge of a session may find that its volumes have risen
abbrev pub IsKept : {D : Type 0} {d : Ghosts D} → Line → BackupNode D d → BackupNode D d → Type 0
IsKept (line.Purge node) old new = HasOnlyRisen old new
IsKept l old new = new ≡ old
