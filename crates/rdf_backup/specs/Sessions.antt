-- Sessions of a backup: an open one as contracts see it, what each call of one leaves, and how one ends.
use Rattle.std.specs.Prelude.{◌≡◌, ◌≢◌, ◌≤◌, ℕ, false, Bool, List, map, slice_get, Option, Some, None, Result, Ok, Err, IfOk, IfErr}
use Rattle.std.specs.List.{AllZip}
use Rattle.std.specs.Vec.{with_items}
use Rattle.std.specs.Borrow.{GName}
use Rattle.std.proofs.Common.{sym, ◌∙◌}
use Rattle.rdf_types.specs.declared.layout.Layout.{Layout}
use Rattle.rdf_types.specs.declared.records.Node.{Node}
use Rattle.rdf_types.specs.declared.records.Phase.TheVariants as phase
use Rattle.rdf_types.specs.declared.records.RecKey.{RecKey}
use Rattle.rdf_types.specs.declared.records.Record.{Record}
use Rattle.rdf_types.specs.declared.records.Stamped.{Stamped}
use Rattle.rdf_types.specs.Entries.{Rises}
use Rattle.rdf_disk.specs.Files.{Disk}
use Rattle.rdf_disk.specs.Counts.{Counts, Ending, Causes}
use Rattle.rdf_disk.specs.Counts.Ending.{Fine}
use Rattle.rdf_disk.specs.declared.disk.Disk.{Ghosts}
use Rattle.plan_lang.specs.declared.lines.Line.{Line}
use Rattle.plan_lang.specs.declared.lines.Line.TheVariants as line
use Rattle.node_faults.specs.declared.NodeFault.{NodeFault}
use Rattle.node_faults.specs.declared.NodeFault.TheVariants.{NoMemory}
use Rattle.node_faults.specs.Faults.{ending_for, IsSound, IsNamed, NamesOwn}
use Rattle.image_disks.specs.Values.{received}
use Rattle.image_trails.specs.declared.trails.ImageTrails.{ImageTrails}
use Rattle.image_trails.specs.Trails.{trails_disk}
use Rattle.rdf_volume.specs.declared.volume.Volume.{Volume}
use Rattle.rdf_volume.specs.Views.{restart_of, disk_of}
use Rattle.rdf_core.specs.declared.replies.NoWhy.TheVariants as no
use Rattle.rdf_core.specs.declared.replies.Reply.{Reply}
use Rattle.rdf_core.specs.declared.replies.Reply.TheVariants.{Number, No}
use Rattle.rdf_core.specs.Layouts.{point_of}
use Rattle.rdf_core.specs.Backup.{Around, points_in, needs_volumes}
use Rattle.rdf_core.specs.Rising.{HasRisen}
use Rattle.volume_sessions.specs.Shown.{Key, Shown}
use Rattle.volume_sessions.specs.Rising.{IsAsGiven}
use Rattle.volume_sessions.specs.Leaving.{IsOpened, HasLeft}
use Rattle.volume_sessions.specs.declared.placed.Placed.{Placed}
use Rattle.volume_sessions.specs.declared.placed.Left.{Left}
use Rattle.rdf_backup.specs.declared.backup.Backup.{Backup}
use Rattle.rdf_backup.specs.declared.session.Session.{Session}
use Rattle.rdf_backup.specs.declared.session.Met.{Met}
use Rattle.rdf_backup.specs.declared.session.Met.TheVariants as met
use Rattle.rdf_backup.specs.States.{layout_of, value_of, state_of, disks_in, MayUse, Serves, Stands}
use Rattle.rdf_backup.specs.Replies.{IfBoth, Goes, BreaksTrails}
use Rattle.rdf_backup.specs.Answers.{IsPlain}
use Rattle.rdf_backup.specs.Refusals.{IsRefusal, IsReadOf, IsJudged, IsCount}
use Rattle.rdf_backup.specs.Beside.{EndsBeside}
use Rattle.rdf_backup.specs.Keeping.{KeepsLine}
use Rattle.rdf_backup.specs.Parting.{AllFlagged, Parted, merged}
use Rattle.rdf_backup.specs.Raised.{AreBehind, AreLeftRisen}
use Rattle.rdf_backup.specs.Rising.{HasRead, HasCaughtUp, is_of_protected}

-- ---- an open session

-- An open session as contracts see it. The backup is shown as a value that no memory holds: the image trails and the open transactions as they stood behind the last line that was answered, each protected volume as it was last looked at, each other one as it is. Beside it stand the disk of the image trails as it is now, the entries that the updaters were given, and what was met.
pub record Open (D : Type 0) (d : Ghosts D) : Type 0 where
  pub shown : Backup D d
  pub disk : D
  pub entries : List Stamped
  pub met : Option Met

-- the volumes in their places: those that are flagged as they were last looked at, and the others
abbrev pub looked_at : {D : Type 0} → List Bool → List (Placed D) → List (Volume D) → List (Volume D)
looked_at flags placed apart = merged flags (map (λ p. p.volume) placed) apart

-- image trails by a layout: their own, which stays in a session
abbrev pub trails_by : {D : Type 0} → Layout → ImageTrails D → ImageTrails D
trails_by layout t = record t { memory = record t.memory { layout = layout } }

-- the backup as it is shown
abbrev pub shown_in : {D : Type 0} {d : Ghosts D} → Session D d → Backup D d
shown_in s =
    let volumes = with_items s.first.value.volumes (looked_at s.flags.now s.watch.volumes s.apart.value.items) in
    record s.first.value {
      trails = trails_by s.first.value.trails.memory.layout s.trails_shown.value;
      volumes = volumes;
      txns = s.txns_shown.value;
      sized = sym volumes.ok.0 ∙ s.first.value.volumes.ok.0 ∙ s.first.value.sized;
      roomy = s.first.value.roomy;
    }

-- the session
abbrev pub open_of : {D : Type 0} {d : Ghosts D} → Session D d → Open D d
open_of s = record { shown = shown_in s; disk = trails_disk s.trails.now; entries = s.watch.entries; met = s.met }

-- with another watch
abbrev pub with_watch : {D : Type 0} {d : Ghosts D} → Session D d → Shown D → Session D d
with_watch s watch = record s { watch = watch }

-- which image trails and which open transactions it holds
abbrev pub trails_name : {D : Type 0} {d : Ghosts D} → Session D d → GName
trails_name s = s.trails.ghost_name

abbrev pub txns_name : {D : Type 0} {d : Ghosts D} → Session D d → GName
txns_name s = s.txns.ghost_name

-- which volumes take part in it, from which backup on
pub record Places (D : Type 0) (d : Ghosts D) : Type 0 where
  pub first : Backup D d
  pub flags : List Bool
  pub apart : List (Volume D)
  pub key : Key D

abbrev pub places_of : {D : Type 0} {d : Ghosts D} → Session D d → Places D d
places_of s = record { first = s.first.value; flags = s.flags.now; apart = s.apart.value.items; key = s.watch.key }

-- the updaters were given the trail's part up to all that is shown to be received, from a position on that no protected volume lies behind
pub record IsFed {D : Type 0} {d : Ghosts D} (trail : List Record) (o : Open D d) : Type 0 where
  pub behind : AreBehind (layout_of o.shown) trail (received (value_of o.shown)) o.entries o.shown.volumes.items
  pub open behind use *
  pub within : start ≤ received (value_of o.shown)

-- what was met leaves the image trails' disk: nothing, or a volume's fault
abbrev pub LeavesTrails : Option Met → Type 0
LeavesTrails None = Unit {0}
LeavesTrails (Some (met.Trails fault)) = ⊥
LeavesTrails (Some met.Volume) = Unit {0}

-- what is shown may be used and runs; and unless the image trails' disk met something it is that of the image trails that are shown
pub record IsGoing {D : Type 0} {d : Ghosts D} (tells : Type 0) (files : D → Disk) (o : Open D d) : Type 0 where
  pub usable : tells → MayUse files o.shown
  pub running : tells → (value_of o.shown).phase ≡ phase.Running
  pub disk_is : LeavesTrails o.met → o.disk ≡ trails_disk o.shown.trails

-- a volume's place in a session: with its number
abbrev pub IsPlaceOf : {D : Type 0} → ℕ → Volume D → Placed D → Type 0
IsPlaceOf n volume placed = (placed.volume ≡ volume) × (placed.vol ≡ n)

-- A session may go on: it goes so, no room of the board is out, the board ends where what is shown was received, and each protected volume has its place.
pub record MayGoOn {D : Type 0} {d : Ghosts D} (tells : Type 0) (files : D → Disk) (s : Session D d) : Type 0 where
  pub going : IsGoing tells files (open_of s)
  pub unlent : s.watch.lent ≡ false
  pub rises : Rises s.watch.start s.watch.entries s.watch.end
  pub end_is : tells → s.end ≡ received (value_of (shown_in s))
  pub upto : s.watch.end ≡ s.end
  pub laid : s.trails.now.memory.layout ≡ layout_of (shown_in s)
  pub flags_are : s.flags.now ≡ (layout_of (shown_in s)).protect
  pub parted : Parted IsPlaceOf 0 s.flags.now (looked_at s.flags.now s.watch.volumes s.apart.value.items) s.watch.volumes s.apart.value.items
  pub trails_are : s.met ≡ None → s.trails.now ≡ (shown_in s).trails
  pub txns_are : s.met ≡ None → s.txns.now ≡ s.txns_shown.value

-- ---- what was met

-- what was met, as an answer of the image trails' disk: of a volume's fault its seat tells, at the end
abbrev pub trails_answer : Option Met → Result (Unit {0}) NodeFault
trails_answer None = Ok tt
trails_answer (Some (met.Trails fault)) = Err fault
trails_answer (Some met.Volume) = Ok tt

-- From that backup on a session came to this. The layout and the phase stayed, and so did the counts of the volumes' disks, as they are shown; those of the image trails' disk tell of the fault that was met there, which names no other disk, and of nothing else.
pub record HasCome {D : Type 0} {d : Ghosts D} (counts : D → Counts) (first : Backup D d) (o : Open D d) : Type 0 where
  pub laid : layout_of o.shown ≡ layout_of first
  pub phase : (value_of o.shown).phase ≡ (value_of first).phase
  pub volumes : (v : ℕ) → IfBoth (λ x y. counts (disk_of y) ≡ counts (disk_of x)) (slice_get first.volumes.items v) (slice_get o.shown.volumes.items v)
  pub trails : Causes (ending_for 0 (trails_answer o.met)) (counts (trails_disk first.trails)) (counts o.disk)
  pub own : IfErr (trails_answer o.met) (λ why. IsNamed 1 why)
  pub sound : IsSound (trails_answer o.met)

-- ---- the lines of a session

-- once something was met a line does nothing, and its answer is that the node is down
abbrev pub IsShut : {D : Type 0} {d : Ghosts D} → Result Reply NodeFault → Open D d → Open D d → Type 0
IsShut result old new = old.met ≢ None → (result ≡ Ok (No no.Down)) × (new ≡ old)

-- A line met something: no more is shown than before, and no entry was published. A fault of the image trails has its cause in the counts of their disk; a volume's leaves that disk as it was.
pub record HasMet {D : Type 0} {d : Ghosts D} (counts : D → Counts) (what : Met) (old new : Open D d) : Type 0 where
  pub shown : new.shown ≡ old.shown
  pub entries : new.entries ≡ old.entries
  pub met : new.met ≡ Some what
  pub cause : Causes (ending_for 0 (trails_answer (Some what))) (counts old.disk) (counts new.disk)
  pub own : IfErr (trails_answer (Some what)) (λ why. IsNamed 1 why)

-- What a line of a session keeps. A refusal leaves all as it was; what is done leaves a backup as a line does; a fault is met.
pub record KeepsSession {D : Type 0} {d : Ghosts D} (tells : Type 0) (files : D → Disk) (counts : D → Counts) (meets : NodeFault → Met) (result : Result Reply NodeFault) (old new : Open D d) : Type 0 where
  pub shut : IsShut result old new
  pub done : old.met ≡ None → IfOk result (λ reply. KeepsLine tells files counts (let r : Result Reply NodeFault = Ok reply in r) old.shown new.shown × (new.met ≡ None))
  pub broken : old.met ≡ None → IfErr result (λ why. HasMet counts (meets why) old new)
  pub refused : IsRefusal result → new ≡ old
  pub laid : layout_of new.shown ≡ layout_of old.shown
  pub named : NamesOwn (layout_of old.shown).volumes result
  -- from any backup that the session came from, so that one call after the other adds up
  pub comes : (first : Backup D d) → HasCome counts first old → HasCome counts first new
  pub plain : IsPlain result

-- how a line of a session ends
abbrev pub EndsOpen : {D : Type 0} {d : Ghosts D} → (D → Disk) → Around → Line → Result Reply NodeFault → Open D d → Open D d → Type 0
EndsOpen files w l (Ok reply) old new = Goes files w l reply old.shown new.shown × (IsFed w.trail old → IsFed w.trail new)
EndsOpen files w l (Err why) old new = BreaksTrails files w l old.shown new.disk

-- what a read answers: what stands at a place, of a protected volume at its restart point as it is shown then
abbrev pub IsReadAt : {D : Type 0} {d : Ghosts D} → Bool → ℕ → Open D d → Reply → Type 0
IsReadAt protected vol new = IsReadOf protected (point_of (map (λ volume. restart_of volume) new.shown.volumes.items) vol)

-- how a read of a session goes, where it is no fault
pub record ReadsOpen {D : Type 0} {d : Ghosts D} (files : D → Disk) (trail : List Record) (key : RecKey) (reply : Reply) (old new : Open D d) : Type 0 where
  pub read : HasRead files trail key reply old.shown new.shown
  pub open read use *
  pub fed : IsFed trail new

-- The volumes have risen from one session to the other, over that trail: the backup serves on, and its updaters are fed on.
pub record HasRisenOpen {D : Type 0} {d : Ghosts D} (files : D → Disk) (trail : List Record) (old new : Open D d) : Type 0 where
  pub rise : (stops : ℕ) → HasRisen (layout_of old.shown) (state_of stops old.shown) (state_of stops new.shown)
  pub serves : Serves files trail new.shown
  pub stands : Stands files trail new.shown
  pub fed : IsFed trail new

-- What is shown of each volume is what its updater has noted of it. The image trails stay, and so do the counts of all disks, and what was met; and where something was met before, nothing changes.
pub record RisesOpen {D : Type 0} {d : Ghosts D} (tells : Type 0) (files : D → Disk) (counts : D → Counts) (old new : Open D d) : Type 0 where
  pub shut : old.met ≢ None → new ≡ old
  pub trails : new.shown.trails ≡ old.shown.trails
  pub disk : new.disk ≡ old.disk
  pub met : new.met ≡ old.met
  pub usable : tells → MayUse files new.shown
  pub counts_are : (i : ℕ) → IfBoth (λ x y. counts y ≡ counts x) (slice_get (disks_in old.shown) i) (slice_get (disks_in new.shown) i)
  pub comes : (first : Backup D d) → HasCome counts first old → HasCome counts first new
  pub risen : tells → old.met ≡ None → (trail : List Record) → Serves files trail old.shown → IsFed trail old → HasRisenOpen files trail old new

-- A purge of a session: the volumes have risen, and then it goes by the restart points that they have.
pub record PurgesOpen {D : Type 0} {d : Ghosts D} (tells : Type 0) (files : D → Disk) (counts : D → Counts) (result : Result Reply NodeFault) (old new : Open D d) : Type 0 where
  pub mid : Open D d
  pub going : IsGoing tells files mid
  pub rises : RisesOpen tells files counts old mid
  pub keeps : KeepsSession tells files counts (λ why. met.Trails why) result mid new
  pub ends : tells → mid.met ≡ None → (w : Around) (node : Node) → w.points ≡ points_in (layout_of mid.shown) w.trail (state_of 0 mid.shown).volumes → Serves files w.trail mid.shown →
      EndsOpen files w (line.Purge node) result mid new
  pub judged : mid.met ≡ None → IsJudged (needs_volumes (state_of 0 mid.shown)) IsCount result mid new

-- ---- the beginning and the end

-- the session begins with the backup as it is
pub record Begins {D : Type 0} {d : Ghosts D} (tells : Type 0) (files : D → Disk) (old : Backup D d) (opened : Open D d) : Type 0 where
  pub trails : opened.shown.trails ≡ old.trails
  pub volumes : opened.shown.volumes.items ≡ old.volumes.items
  pub txns : opened.shown.txns ≡ old.txns
  pub disk : opened.disk ≡ trails_disk old.trails
  pub met : opened.met ≡ None
  pub fed : tells → (trail : List Record) → Serves files trail old → IsFed trail opened

-- the answer at the end: the first of the faults; want of memory where a line met a volume's fault that no seat keeps; or else what was received
abbrev pub end_of : Result (Unit {0}) NodeFault → Option Met → ℕ → Result Reply NodeFault
end_of (Err fault) met received = Err fault
end_of (Ok x) None received = Ok (Number received)
end_of (Ok x) (Some what) received = Err NoMemory

-- unless the image trails' disk met something only disks of protected volumes ended otherwise than well
abbrev pub OnlyProtected : Layout → Option Met → (ℕ → Ending) → Type 0
OnlyProtected layout met ends = LeavesTrails met → (i : ℕ) → is_of_protected layout i ≡ false → ends i ≡ Fine

-- the counts of each disk rose as the session ended for it; as many disks are there as before
abbrev pub CausedInSession : {D T : Type 0} {d : Ghosts D} → (D → Counts) → Layout → Option Met → Result T NodeFault → Backup D d → Backup D d → Type 0
CausedInSession counts layout met result old new = (ends : ℕ → Ending) × (EndsBeside result ends × OnlyProtected layout met ends × ((i : ℕ) → IfBoth (λ x y. Causes (ends i) (counts x) (counts y)) (slice_get (disks_in old) i) (slice_get (disks_in new) i)))

-- How a session ends that came to this. Where nothing was met each protected volume is brought to all that was received, and the answer is that position. Else the first of all faults is answered, and each protected volume's disk durably stands for what it has risen to, up to what was received behind the last line that was answered.
pub record SessionEnds {D : Type 0} {d : Ghosts D} (tells : Type 0) (files : D → Disk) (counts : D → Counts) (closed : Open D d) (end : Result Reply NodeFault) (new : Backup D d) : Type 0 where
  pub disk : trails_disk new.trails ≡ closed.disk
  pub laid : layout_of new ≡ layout_of closed.shown
  pub phase : IfOk end (λ reply. (value_of new).phase ≡ (value_of closed.shown).phase)
  pub unmet : IfOk end (λ reply. closed.met ≡ None)
  pub says : IfOk end (λ reply. reply ≡ Number (received (value_of closed.shown)))
  pub usable : tells → IfOk end (λ reply. MayUse files new)
  pub caught : tells → (trail : List Record) → Serves files trail closed.shown → IsFed trail closed → IfOk end (λ reply. HasCaughtUp files trail closed.shown new)
  pub left : tells → (trail : List Record) → Serves files trail closed.shown → IsFed trail closed →
      IfErr end (λ why. AreLeftRisen files (layout_of closed.shown) trail (received (value_of closed.shown)) closed.shown.volumes.items new.volumes.items)
  pub cause : (was : Backup D d) → HasCome counts was closed → CausedInSession counts (layout_of closed.shown) closed.met end was new
  pub named : NamesOwn (layout_of closed.shown).volumes end
  -- unless the image trails' disk met something a fault of a disk is of a protected volume
  pub own : LeavesTrails closed.met → (i : ℕ) → is_of_protected (layout_of closed.shown) i ≡ false → ending_for i end ≡ Fine
  pub sound : tells → IsSound end

-- A session was driven from a backup on, and then it ended: that relation holds of the session as it was opened, of what came out, and of the session as it was left.
pub record HasRun {D O : Type 0} {d : Ghosts D} (tells : Type 0) (files : D → Disk) (counts : D → Counts) (drives : Open D d → O → Open D d → Type 0) (out : O) (end : Result Reply NodeFault) (old new : Backup D d) : Type 0 where
  pub opened : Open D d
  pub closed : Open D d
  pub begins : Begins tells files old opened
  pub driven : drives opened out closed
  pub goes : IsGoing tells files closed
  pub comes : HasCome counts old closed
  pub ends : SessionEnds tells files counts closed end new

-- a session was not begun: the backup is as it was, but for where its volumes stand in memory
pub record IsUnbegun {D : Type 0} {d : Ghosts D} (tells : Type 0) (files : D → Disk) (counts : D → Counts) (old new : Backup D d) : Type 0 where
  pub usable : tells → MayUse files new
  pub laid : layout_of new ≡ layout_of old
  pub same : (stops : ℕ) → state_of stops new ≡ state_of stops old
  pub serves : tells → (trail : List Record) → Serves files trail old → Serves files trail new
  pub trails : new.trails ≡ old.trails
  pub counts_are : (v : ℕ) → IfBoth (λ x y. counts (disk_of y) ≡ counts (disk_of x)) (slice_get old.volumes.items v) (slice_get new.volumes.items v)

-- ---- inside of a session

-- a session may be opened over these volumes and this board
pub record MayOpen {D : Type 0} {d : Ghosts D} (tells : Type 0) (files : D → Disk) (first : Backup D d) (flags : List Bool) (apart : List (Volume D)) (end : ℕ) (trails : ImageTrails D) (txns : List (ℕ × ℕ)) (watch : Shown D) : Type 0 where
  pub usable : tells → MayUse files first
  pub running : (value_of first).phase ≡ phase.Running
  pub trails_are : trails ≡ first.trails
  pub txns_are : txns ≡ first.txns
  pub flags_are : flags ≡ (layout_of first).protect
  pub parted : Parted IsPlaceOf 0 flags first.volumes.items watch.volumes apart
  pub unlent : watch.lent ≡ false
  pub rises : Rises watch.start watch.entries watch.end
  pub upto : watch.end ≡ end
  pub end_is : end ≡ received (value_of first)

-- the updaters are fed the trail's part from the beginning on
abbrev pub IsFedBy : {D : Type 0} {d : Ghosts D} → List Stamped → List Record → Backup D d → Type 0
IsFedBy entries trail first = (b : AreBehind (layout_of first) trail (received (value_of first)) entries first.volumes.items) × (b.start ≤ received (value_of first))

-- a session may begin with these volumes and entries: those that are protected lie from the one position to the other, and so do the entries, which go up to what was received
pub record MayBegin {D : Type 0} {d : Ghosts D} (tells : Type 0) (files : D → Disk) (first : Backup D d) (flags : List Bool) (start : ℕ) (entries : List Stamped) (end : ℕ) : Type 0 where
  pub flags_are : flags ≡ (layout_of first).protect
  pub end_is : end ≡ received (value_of first)
  pub rises : Rises start entries end
  pub enter : AllFlagged (λ v. (start ≤ restart_of v) × (restart_of v ≤ end)) flags first.volumes.items
  pub fed : tells → (trail : List Record) → Serves files trail first → IsFedBy entries trail first

-- what was driven inside of a session, from the watch that was lent to the one that came back
pub record HasDriven {D O : Type 0} {d : Ghosts D} (tells : Type 0) (files : D → Disk) (counts : D → Counts) (drives : Open D d → O → Open D d → Type 0) (first : Backup D d) (flags : List Bool) (apart : List (Volume D)) (old : Shown D)
    (out : O) (met : Option Met) (trails : ImageTrails D) (txns : List (ℕ × ℕ)) (new : Shown D) : Type 0 where
  pub opened : Open D d
  pub closed : Session D d
  pub trails_shown : opened.shown.trails ≡ first.trails
  pub volumes_shown : opened.shown.volumes.items ≡ first.volumes.items
  pub txns_shown : opened.shown.txns ≡ first.txns
  pub disk_is : opened.disk ≡ trails_disk first.trails
  pub entries_are : opened.entries ≡ old.entries
  pub unmet : opened.met ≡ None
  pub driven : drives opened out (open_of closed)
  pub comes : (was : Backup D d) → HasCome counts was opened → HasCome counts was (open_of closed)
  pub goes : MayGoOn tells files closed
  pub first_is : closed.first.value ≡ first
  pub flags_are : closed.flags.now ≡ flags
  pub apart_is : closed.apart.value.items ≡ apart
  pub watch_is : closed.watch ≡ new
  pub met_is : closed.met ≡ met
  pub trails_are : closed.trails.now ≡ trails
  pub txns_are : closed.txns.now ≡ txns

-- what became of a session that was begun: it was driven, and each volume came back with what came of it
pub record HasRunInside {D O : Type 0} {d : Ghosts D} (tells : Type 0) (files : D → Disk) (counts : D → Counts) (drives : Open D d → O → Open D d → Type 0) (first : Backup D d) (flags : List Bool) (apart : List (Volume D))
    (placed : List (Placed D)) (start : ℕ) (entries : List Stamped) (end : ℕ) (ended : List (Left D)) (out : O) (met : Option Met) (trails : ImageTrails D) (txns : List (ℕ × ℕ)) : Type 0 where
  pub opened : Shown D
  pub closed : Shown D
  pub opens : IsOpened placed start entries end opened
  pub driven : HasDriven tells files counts drives first flags apart opened out met trails txns closed
  pub lefts : AllZip (HasLeft tells files counts closed.entries closed.end) closed.volumes ended

-- and of one that was not begun
pub record IsGivenBack {D H : Type 0} (tells : Type 0) (files : D → Disk) (counts : D → Counts) (placed back : List (Placed D)) (here now : H) (old new : ImageTrails D) (was is : List (ℕ × ℕ)) : Type 0 where
  pub here_is : now ≡ here
  pub given : AllZip (IsAsGiven tells files counts) placed back
  pub trails_are : new ≡ old
  pub txns_are : is ≡ was
