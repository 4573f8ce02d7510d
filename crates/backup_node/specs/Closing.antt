-- How a session on a node begins and ends.
use Rattle.std.specs.Prelude.{◌≡◌, ◌≢◌, ◌⊎◌, ◌<◌, ℕ, true, List, length, Some, None, Result, Ok, Err, IfOk, IsTrue}
use Rattle.rdf_types.specs.declared.layout.Layout.{Layout}
use Rattle.rdf_types.specs.declared.records.Node.{Node}
use Rattle.rdf_types.specs.declared.records.RecKey.{RecKey}
use Rattle.rdf_types.specs.declared.records.Record.{Record}
use Rattle.rdf_disk.specs.Files.{Disk}
use Rattle.rdf_disk.specs.Counts.{Counts, Ending}
use Rattle.rdf_disk.specs.declared.disk.Disk.{Ghosts}
use Rattle.plan_lang.specs.declared.lines.Line.{Line}
use Rattle.plan_lang.specs.declared.lines.Line.TheVariants as line
use Rattle.node_faults.specs.declared.NodeFault.{NodeFault}
use Rattle.node_faults.specs.declared.NodeFault.TheVariants as fault
use Rattle.node_faults.specs.Faults.{IsSound, IsNamed}
use Rattle.image_disks.specs.Values.{received}
use Rattle.rdf_core.specs.declared.replies.Reply.{Reply}
use Rattle.rdf_core.specs.declared.replies.Reply.TheVariants.{Stopped}
use Rattle.rdf_core.specs.Backup.{Backup as State, Around, points_in}
use Rattle.rdf_core.specs.Layouts.{protects}
use Rattle.rdf_core.specs.Rising.{HasRisen}
use Rattle.rdf_core.specs.Step.{disks_of, is_of_session}
use Rattle.rdf_backup.specs.declared.backup.Backup.{Backup}
use Rattle.rdf_backup.specs.declared.session.Met.TheVariants as met
use Rattle.rdf_backup.specs.Beside.{IsFirst}
use Rattle.rdf_backup.specs.Refusals.{IsNumber}
use Rattle.rdf_backup.specs.Replies.{BreaksTrails}
use Rattle.rdf_backup.specs.SessionLaws.{GoesBy}
use Rattle.rdf_backup.specs.Sessions.{Open, IsFed, IsGoing, OnlyProtected, HasCome}
use Rattle.rdf_backup.specs.States.{layout_of, value_of}
use Rattle.node_disks.specs.Counting.{Tells}
use Rattle.node_disks.specs.Cuts.{Each}
use Rattle.backup_node.specs.declared.node.BackupNode.{BackupNode}
use Rattle.backup_node.specs.Nodes.{disks_at, IsAt, IsLaid, MayServe}
use Rattle.backup_node.specs.Lines.{NoneFails, Ends}
use Rattle.backup_node.specs.Rising.{ReadEnds, EndEnds}
use Rattle.backup_node.specs.Moves.{phase_at, Stays}
use Rattle.backup_node.specs.Open.{in_open}

-- ---- what the disks count

-- That fault has its cause in the counts of the node's disks, of which several may have stopped or failed in a session, and is the first of these. So they may have ended by what was met before.
abbrev pub FailsInSession : {D : Type 0} {d : Ghosts D} → (D → Counts) → ((ℕ → Ending) → Type 0) → NodeFault → BackupNode D d → BackupNode D d → Type 0
FailsInSession counts May why old new = IsNamed (length (disks_at old)) why × ((ends : ℕ → Ending) × (IsFirst why ends × May ends × Each (λ i x y. Tells (ends i) (counts x) (counts y)) (disks_at old) (disks_at new)))

-- a reply that the node stopped has its cause in the counts of a disk, and at any other reply none failed or stopped
abbrev pub ReplyCausedInSession : {D : Type 0} {d : Ghosts D} → (D → Counts) → ((ℕ → Ending) → Type 0) → Reply → BackupNode D d → BackupNode D d → Type 0
ReplyCausedInSession counts May reply old new = (NoneFails counts old new × (reply ≢ Stopped old.name)) ⊎ ((reply ≡ Stopped old.name) × ((disk : ℕ) × FailsInSession counts May (fault.Stopped disk) old new))

-- every answer at the end of a session has its cause, and no fault is that a disk stopped: that is a reply
abbrev pub IsCausedInSession : {D : Type 0} {d : Ghosts D} → (D → Counts) → ((ℕ → Ending) → Type 0) → Result Reply NodeFault → BackupNode D d → BackupNode D d → Type 0
IsCausedInSession counts May (Ok reply) old new = ReplyCausedInSession counts May reply old new
IsCausedInSession counts May (Err why) old new = FailsInSession counts May why old new × ((disk : ℕ) → why ≢ fault.Stopped disk)

-- what a node keeps at the end of a session: as at a line, but that several of its disks may have stopped or failed; it was given no fuse, and stands as it did unless it stopped
pub record KeepsInSession {D : Type 0} {d : Ghosts D} (tells : Type 0) (files : D → Disk) (counts : D → Counts) (May : (ℕ → Ending) → Type 0) (told : Result Reply NodeFault) (old new : BackupNode D d) : Type 0 where
  pub serves : MayServe tells files counts new
  pub sized : new.volumes ≡ old.volumes
  pub named : new.name ≡ old.name
  pub cause : IsCausedInSession counts May told old new
  pub fuses : Each (λ i x y. (counts y).fuses ≡ (counts x).fuses) (disks_at old) (disks_at new)
  pub moved : IfOk told (λ reply. Stays reply (phase_at old) (phase_at new))

-- ---- the beginning

-- the session shows the node as it was
pub record BeginsAt {D : Type 0} {d : Ghosts D} (tells : Type 0) (files : D → Disk) (counts : D → Counts) (old : BackupNode D d) (opened : Open D d) : Type 0 where
  pub at : tells → (layout : Layout) (trail : List Record) (b : State) → IsAt files layout trail b old → IsAt files layout trail b (in_open opened old)
  pub fed : tells → (layout : Layout) (trail : List Record) (b : State) → IsAt files layout trail b old → IsFed trail opened
  pub disks : disks_at (in_open opened old) ≡ disks_at old
  pub phase : phase_at (in_open opened old) ≡ phase_at old
  pub serves : MayServe tells files counts (in_open opened old)
  pub laid : (layout : Layout) → IsLaid layout old → IsLaid layout (in_open opened old)
  pub unmet : opened.met ≡ None
  pub since : HasCome counts opened.shown opened

-- the session was not begun: the node is as it was, but for where its volumes stand in memory
pub record IsAsBefore {D : Type 0} {d : Ghosts D} (tells : Type 0) (files : D → Disk) (counts : D → Counts) (old new : BackupNode D d) : Type 0 where
  pub at : tells → (layout : Layout) (trail : List Record) (b : State) → IsAt files layout trail b old → IsAt files layout trail b new
  pub serves : MayServe tells files counts new
  pub sized : new.volumes ≡ old.volumes
  pub named : new.name ≡ old.name
  pub phase : phase_at new ≡ phase_at old
  pub laid : (layout : Layout) → IsLaid layout old → IsLaid layout new
  pub counts_are : Each (λ i x y. counts y ≡ counts x) (disks_at old) (disks_at new)

-- ---- the end

-- what a line goes by that is answered at the end of its session: a purge by the present restart points of that backup
abbrev pub around_at : Layout → Around → State → Line → Around
around_at layout w b (line.Purge node) = record w { points = points_in layout w.trail b.volumes }
around_at layout w b _ = w

-- a line that was broken off ends on a backup whose volumes had risen by then
pub record EndsRisen {D : Type 0} {d : Ghosts D} (files : D → Disk) (layout : Layout) (w : Around) (name : Node) (b : State) (l : Line) (rise : ℕ) (told : Result Reply NodeFault) (new : BackupNode D d) : Type 0 where
  pub next : State
  pub rise_is : HasRisen layout b next
  pub ends : Ends files layout (around_at layout w next l) name next l rise told new

-- nothing was met: each protected volume is brought to all that was received, as by the line `end`
abbrev pub EndsUnmet : {D : Type 0} {d : Ghosts D} → (D → Disk) → Open D d → Result Reply NodeFault → BackupNode D d → BackupNode D d → Type 0
EndsUnmet files closed told old new = (layout : Layout) (trail : List Record) (b : State) (rise : ℕ) → 0 < rise → IsFed trail closed → IsAt files layout trail b (in_open closed old) → EndEnds files layout trail old.name b rise told new

-- a delivery or a purge was broken off
abbrev pub EndsBrokenOff : {D : Type 0} {d : Ghosts D} → (D → Disk) → Open D d → Result Reply NodeFault → BackupNode D d → BackupNode D d → Type 0
EndsBrokenOff files closed told old new = (layout : Layout) (w : Around) (b : State) (l : Line) (rise : ℕ) → 0 < rise → is_of_session l ≡ true → disks_of l ≡ Some old.name → GoesBy layout w b l → IsFed w.trail closed → IsAt files layout w.trail b (in_open closed old) →
    BreaksTrails files w l closed.shown closed.disk → EndsRisen files layout w old.name b l rise told new

-- a read was broken off, by a fault that a volume's seat keeps
abbrev pub EndsAtRead : {D : Type 0} {d : Ghosts D} → (D → Disk) → Open D d → Result Reply NodeFault → BackupNode D d → BackupNode D d → Type 0
EndsAtRead files closed told old new = (layout : Layout) (trail : List Record) (key : RecKey) (b : State) (rise : ℕ) → 0 < rise → IsTrue (protects layout key.vol) → IsFed trail closed → IsAt files layout trail b (in_open closed old) → ReadEnds files layout trail key old.name b rise told new

-- how a session ends on its node, by what was met in it: once something was met no line is answered but that the node stopped; over any disks the reply is how far was received, where nothing was met, or that
pub record EndsAt {D : Type 0} {d : Ghosts D} (tells : Type 0) (files : D → Disk) (closed : Open D d) (told : Result Reply NodeFault) (old new : BackupNode D d) : Type 0 where
  pub unmet : tells → closed.met ≡ None → EndsUnmet files closed told old new
  pub broken : tells → (why : NodeFault) → closed.met ≡ Some (met.Trails why) → EndsBrokenOff files closed told old new
  pub read : tells → closed.met ≡ Some met.Volume → EndsAtRead files closed told old new
  pub stopped : closed.met ≢ None → IfOk told (λ reply. reply ≡ Stopped old.name)
  pub says : IfOk told (λ reply. ((closed.met ≡ None) × IsNumber (received (value_of closed.shown)) reply) ⊎ (reply ≡ Stopped old.name))

-- A session was driven on a node, and then it ended, and this was told: that relation holds of the session as it was opened, of what came out, and of the session as it was left. What the node keeps is said from each backup that the session came from, as from the one that was shown last.
pub record HasRunAt {D O : Type 0} {d : Ghosts D} (tells : Type 0) (files : D → Disk) (counts : D → Counts) (drives : Open D d → O → Open D d → Type 0) (out : O) (told : Result Reply NodeFault) (old new : BackupNode D d) : Type 0 where
  pub opened : Open D d
  pub closed : Open D d
  pub begins : BeginsAt tells files counts old opened
  pub driven : drives opened out closed
  pub goes : IsGoing tells files closed
  pub comes : HasCome counts opened.shown closed
  pub ends : EndsAt tells files closed told old new
  pub keeps : (was : Backup D d) → HasCome counts was closed → MayServe tells files counts (record old { backup = Some was }) → KeepsInSession tells files counts (OnlyProtected (layout_of closed.shown) closed.met) told (record old { backup = Some was }) new
  pub laid : (layout : Layout) → IsLaid layout old → IsLaid layout new
  pub sound : tells → IsSound told
