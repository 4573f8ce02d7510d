-- A backup: its state, and the lines on it. What a line needs of the rest of the system is an argument.
use Rattle.std.specs.Prelude.{ℕ, zero, suc, ◌+◌, ◌-◌, Bool, true, false, not, ◌&&◌, ◌==◌, nat_lt, nat_le, min, List, [], ◌∷◌, ◌++◌, length, take, map, get_or, Option, Some, None, if◌then◌else◌}
use Rattle.std.specs.FinSet as set
use Rattle.rdf_types.specs.declared.layout.Layout.{Layout}
use Rattle.rdf_types.specs.declared.records.Phase.{Phase}
use Rattle.rdf_types.specs.declared.records.Phase.TheVariants as phase
use Rattle.rdf_types.specs.declared.records.Record.{Record}
use Rattle.rdf_model.specs.Contents.{Contents, nothing}
use Rattle.rdf_model.specs.Trail.{raw, committed}
use Rattle.rdf_model.specs.Window.{low, open_on}
use Rattle.plan_lang.specs.declared.lines.Line.{Line}
use Rattle.plan_lang.specs.declared.lines.Line.TheVariants as line
use Rattle.by_node.specs.Each.{at}
use Rattle.rdf_core.specs.declared.replies.VolInfo.{VolInfo}
use Rattle.rdf_core.specs.declared.replies.NoWhy.{NoWhy}
use Rattle.rdf_core.specs.declared.replies.NoWhy.TheVariants as no
use Rattle.rdf_core.specs.declared.replies.Reply.{Reply}
use Rattle.rdf_core.specs.declared.replies.Reply.TheVariants.{Done, Number, Info, BackupUp, NodeDown, Holds, Absent}
use Rattle.rdf_core.specs.Effects.{when, first, after_all, count_u32, count_u64}
use Rattle.rdf_core.specs.Layouts.{protects, points_at, point_of, least}
use Rattle.rdf_core.specs.Rule.{Rule, Tells, Lists, Nothing, Says, in_memory, stores}

-- how far the volumes are: in Running each has its restart point, in Taking nothing is said of them, in Taken all have what was committed up to a position
pub data Volumes : Type 0 where
  Running : (points : List ℕ) → Volumes
  Taking : Volumes
  Taken : (upto : ℕ) → Volumes

-- whether it runs, the received prefix, the start of each generation, the number of the last one, how far the volumes are, and how often a disk of it stopped
pub record Backup : Type 0 where
  pub up : Bool
  pub received : ℕ
  pub starts : List ℕ
  pub number : ℕ
  pub volumes : Volumes
  pub stops : ℕ

-- its phase, as replies tell it
abbrev pub phase_of : Volumes → Phase
phase_of (Running points) = phase.Running
phase_of Taking = phase.Taking
phase_of (Taken upto) = phase.Taken upto

-- no takeover has begun
abbrev pub is_running : Volumes → Bool
is_running (Running points) = true
is_running Taking = false
is_running (Taken upto) = false

-- a takeover has begun and not ended
abbrev pub is_taking : Volumes → Bool
is_taking (Running points) = false
is_taking Taking = true
is_taking (Taken upto) = false

-- a takeover has ended
abbrev pub is_taken : Volumes → Bool
is_taken (Running points) = false
is_taken Taking = false
is_taken (Taken upto) = true

-- the restart point of each volume
abbrev pub points_in : Layout → List Record → Volumes → List ℕ
points_in layout trail (Running points) = points
points_in layout trail Taking = []
points_in layout trail (Taken upto) = points_at layout (low (protects layout) (take upto trail))

-- the first position that it keeps
abbrev pub kept_of : Backup → ℕ
kept_of b = get_or b.starts 0 0

-- durable parts

-- where the last generation starts
abbrev pub last_start : List ℕ → ℕ
last_start starts = get_or starts (length starts - 1) 0

-- the last generation is long enough for a new one
abbrev pub is_due : Layout → Backup → Bool
is_due layout b = nat_le layout.extent (b.received - last_start b.starts) && nat_lt b.number 1000000000

-- a new generation begins
abbrev pub rolled : Backup → Backup
rolled b = record b { starts = b.starts ++ b.received ∷ []; number = b.number + 1 }

-- a block is stored, up to the position
abbrev pub stored : ℕ → Backup → Backup
stored to b = record b { received = to }

-- a message up to a position is stored: the new generation where due, the block
abbrev pub store_parts : Layout → ℕ → Backup → List Backup
store_parts layout to b =
    if nat_lt b.received to
    then (if is_due layout b then rolled b ∷ stored to (rolled b) ∷ [] else stored to b ∷ [])
    else []

-- of `deliver`, of the message of that range, where there is one
abbrev pub deliver_parts : Layout → Option (ℕ × ℕ) → Backup → List Backup
deliver_parts layout None b = []
deliver_parts layout (Some range) b = store_parts layout range.1 b

-- the ends of messages of 64 positions, the last one of what is left; the first number is at least that of the messages
abbrev pub ends : ℕ → ℕ → ℕ → List ℕ
ends zero from upto = []
ends (suc n) from upto = if nat_lt from upto then min (from + 64) upto ∷ ends n (min (from + 64) upto) upto else []

-- messages up to these positions are stored, one after another
abbrev pub stores_parts : Layout → List ℕ → Backup → List Backup
stores_parts layout [] b = []
stores_parts layout (to ∷ more) b = store_parts layout to b ++ stores_parts layout more (after_all b (store_parts layout to b))

-- of `copyaudit` from the other
abbrev pub copy_parts : Layout → Backup → Backup → List Backup
copy_parts layout lag lead = stores_parts layout (ends (lead.received - lag.received) lag.received lead.received) lag

-- the starts after each generation that goes: more than the retained ones stand, and the second starts at or below the floor
abbrev pub drops : ℕ → ℕ → List ℕ → List (List ℕ)
drops retain floor [] = []
drops retain floor (s ∷ []) = []
drops retain floor (s ∷ t ∷ more) = if nat_lt retain (length (s ∷ t ∷ more)) && nat_le t floor then (t ∷ more) ∷ drops retain floor (t ∷ more) else []

-- no start above it may go: the least of these points and the low position
abbrev pub floor_of : Layout → List Record → List ℕ → Backup → ℕ
floor_of layout trail points b = least layout.protect points (low (protects layout) (take b.received trail))

-- of `purge` by these restart points
abbrev pub purge_parts : Layout → List Record → List ℕ → Backup → List Backup
purge_parts layout trail points b = map (λ starts. record b { starts = starts }) (drops layout.retain (floor_of layout trail points b) b.starts)

-- its volumes come to be so
abbrev pub with_volumes : Backup → Volumes → Backup
with_volumes b volumes = record b { volumes = volumes }

-- the marks of a takeover
abbrev pub marks : ℕ → Volumes → List Volumes
marks received (Running points) = Taking ∷ Taken received ∷ []
marks received Taking = Taken received ∷ []
marks received (Taken upto) = if upto == received then [] else Taking ∷ Taken received ∷ []

-- of `takeover`
abbrev pub takeover_parts : Backup → List Backup
takeover_parts b = map (with_volumes b) (marks b.received b.volumes)

-- the backup after so many stops of disks of it
abbrev pub backup_fallen : ℕ → Backup → Backup
backup_fallen n b = record b { up = false; stops = count_u64 (b.stops + n) }

-- what replies show

-- what a volume of the backup shows
abbrev pub shown_on : Layout → List Record → Volumes → ℕ → Contents
shown_on layout trail (Running points) vol = raw nothing (take (point_of points vol) trail)
shown_on layout trail Taking vol = nothing
shown_on layout trail (Taken upto) vol = if protects layout vol then committed nothing (take upto trail) else nothing

-- the position that a list tells
abbrev pub listed_at : Volumes → ℕ → ℕ
listed_at (Running points) vol = point_of points vol
listed_at Taking vol = 0
listed_at (Taken upto) vol = upto

-- what stands at a place after so many records
abbrev pub read_reply : ℕ → Option (List ℕ) → Reply
read_reply at None = Absent at
read_reply at (Some value) = Holds at value

-- each volume's trail, whether it is protected, and its restart point
abbrev pub volume_infos : List ℕ → List Bool → List ℕ → List VolInfo
volume_infos [] protect points = []
volume_infos (trail ∷ trails) [] points = []
volume_infos (trail ∷ trails) (p ∷ protect) [] = record { trail = trail; protect = p; at = 0 } ∷ volume_infos trails protect []
volume_infos (trail ∷ trails) (p ∷ protect) (at ∷ points) = record { trail = trail; protect = p; at = at } ∷ volume_infos trails protect points

-- what is told of each volume
abbrev pub info : Layout → List Record → Backup → Reply
info layout trail b = Info (volume_infos layout.trail_of layout.protect (points_in layout trail b.volumes))

-- how the backup stands
abbrev pub backup_status : Layout → List Record → Backup → Reply
backup_status layout trail b =
    if b.up
    then BackupUp (phase_of b.volumes) b.received (kept_of b) (count_u32 (length b.starts)) (count_u32 (set.len (open_on (protects layout) (take b.received trail))))
    else NodeDown

-- refusals

-- the backup must be up
abbrev pub needs_up : Backup → Option NoWhy
needs_up b = when (not b.up) no.Down

-- it must be up, and no takeover of it begun
abbrev pub needs_running : Backup → Option NoWhy
needs_running b = first (needs_up b ∷ when (is_taking b.volumes) no.Taking ∷ when (is_taken b.volumes) no.Taken ∷ [])

-- it must be up, and in the midst of no takeover, in which nothing is said of its volumes
abbrev pub needs_volumes : Backup → Option NoWhy
needs_volumes b = first (needs_up b ∷ when (is_taking b.volumes) no.Taking ∷ [])

-- a takeover of it must have ended
abbrev pub needs_taken : Volumes → Option NoWhy
needs_taken (Running points) = Some no.Running
needs_taken Taking = Some no.Taking
needs_taken (Taken upto) = None

-- no such message, or it begins above the received prefix
abbrev pub cannot_take : ℕ → Option (ℕ × ℕ) → Option NoWhy
cannot_take received None = Some no.Message
cannot_take received (Some range) = when (nat_lt received range.0) (no.Gap received)

-- of `deliver`, of the message of that range, where there is one
abbrev pub deliver_refusal : Backup → Option (ℕ × ℕ) → Option NoWhy
deliver_refusal b message = first (needs_running b ∷ cannot_take b.received message ∷ [])

-- of `takeover`, where the primary is lost or not
abbrev pub takeover_refusal : Bool → Backup → Option NoWhy
takeover_refusal lost b = first (needs_up b ∷ when (not lost) no.PrimaryUp ∷ [])

-- of `copyaudit`
abbrev pub copy_refusal : Backup → Backup → Option NoWhy
copy_refusal lag lead =
    first (needs_up lag ∷ needs_up lead ∷ needs_taken lag.volumes ∷ needs_taken lead.volumes ∷ when (nat_lt lag.received (kept_of lead)) (no.Purged lag.received) ∷ [])

-- of `list`
abbrev pub list_refusal : Layout → Backup → ℕ → Option NoWhy
list_refusal layout b vol = first (needs_volumes b ∷ when (not (nat_lt vol layout.volumes)) no.Volume ∷ [])

-- the backup, up or down
abbrev pub with_up : Backup → Bool → Backup
with_up b up = record b { up = up }

-- the rows of lines on a backup: what a line needs of the rest of the system is an argument

-- `deliver` of the message of that range, where there is one
abbrev pub deliver_rule : Layout → Option (ℕ × ℕ) → Backup → Rule Backup
deliver_rule layout message b =
    stores b (deliver_refusal b message) (deliver_parts layout message b) (Tells (Number (after_all b (deliver_parts layout message b)).received))

-- `purge` over the primary's trail, by these restart points
abbrev pub purge_rule : Layout → List Record → List ℕ → Backup → Rule Backup
purge_rule layout trail points b = stores b (needs_volumes b) (purge_parts layout trail points b) (Tells (Number (length (purge_parts layout trail points b))))

-- `takeover`, where the primary is lost or not
abbrev pub takeover_rule : Bool → Backup → Rule Backup
takeover_rule lost b = stores b (takeover_refusal lost b) (takeover_parts b) (Tells (Number b.received))

-- `copyaudit` from this other backup
abbrev pub copy_rule : Layout → Backup → Backup → Rule Backup
copy_rule layout lead b = stores b (copy_refusal b lead) (copy_parts layout b lead) (Tells (Number (lead.received - b.received)))

-- `session`, as far as the backup goes
abbrev pub session_rule : Backup → Rule Backup
session_rule b = in_memory (needs_running b) b (Tells (Number b.received))

-- `list` of a volume
abbrev pub list_rule : Layout → List Record → ℕ → Backup → Rule Backup
list_rule layout trail vol b = in_memory (list_refusal layout b vol) b (Lists (listed_at b.volumes vol) vol (shown_on layout trail b.volumes vol))

-- the rows that a list tells
abbrev pub says_rows : Layout → List Record → Backup → ℕ → Reply → Type 0
says_rows layout trail b vol reply = Says (list_rule layout trail vol b).answer reply

-- `info`
abbrev pub info_rule : Layout → List Record → Backup → Rule Backup
info_rule layout trail b = in_memory (needs_volumes b) b (Tells (info layout trail b))

-- `status`
abbrev pub status_rule : Layout → List Record → Backup → Rule Backup
status_rule layout trail b = in_memory None b (Tells (backup_status layout trail b))

-- `fuse` of a disk
abbrev pub fuse_rule : Layout → ℕ → Backup → Rule Backup
fuse_rule layout disk b = in_memory (when (nat_lt layout.volumes disk) no.Volume) b (Tells Done)

-- `cut`
abbrev pub cut_rule : Backup → Rule Backup
cut_rule b = in_memory (needs_up b) (with_up b false) (Tells Done)

-- `restart`
abbrev pub restart_rule : Backup → Rule Backup
restart_rule b = in_memory (when b.up no.Up) (with_up b true) (Tells (Number b.received))

-- what a line on a backup needs of the rest: the primary's trail, whether the primary is lost, the range of the message, the backup that a copy comes from, and the restart points that a purge goes by
pub record Around : Type 0 where
  pub trail : List Record
  pub lost : Bool
  pub message : Option (ℕ × ℕ)
  pub lead : Backup
  pub points : List ℕ

-- the row of each line on the backup; any other has no answer
abbrev pub backup_rule : Layout → Around → Backup → Line → Rule Backup
backup_rule layout w b (line.Deliver node k) = deliver_rule layout w.message b
backup_rule layout w b (line.Purge node) = purge_rule layout w.trail w.points b
backup_rule layout w b (line.Takeover node) = takeover_rule w.lost b
backup_rule layout w b (line.CopyAudit node from) = copy_rule layout w.lead b
backup_rule layout w b (line.Session node) = session_rule b
backup_rule layout w b (line.List node vol) = list_rule layout w.trail vol b
backup_rule layout w b (line.Info node) = info_rule layout w.trail b
backup_rule layout w b (line.Status node) = status_rule layout w.trail b
backup_rule layout w b (line.Fuse node disk calls tear) = fuse_rule layout disk b
backup_rule layout w b (line.Cut node) = cut_rule b
backup_rule layout w b (line.Restart node) = restart_rule b
backup_rule layout w b _ = in_memory None b Nothing

-- the first refusal of a line on the backup
abbrev pub backup_refusal : Layout → Around → Backup → Line → Option NoWhy
backup_refusal layout w b l = (backup_rule layout w b l).refusal layout

-- its durable parts, each as what it leaves
abbrev pub backup_parts : Layout → Around → Backup → Line → List Backup
backup_parts layout w b l = (backup_rule layout w b l).parts

-- the backup after it
abbrev pub backup_after : Layout → Around → Backup → Line → Backup
backup_after layout w b l = (backup_rule layout w b l).after

-- the reply to it, where it is not refused
abbrev pub backup_says : Layout → Around → Backup → Line → Reply → Type 0
backup_says layout w b l reply = Says (backup_rule layout w b l).answer reply
