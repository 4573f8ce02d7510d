-- The disks of a primary, opened.
use Rattle.std.proofs.Common.{◌≡◌, ℕ, ◌≤◌, max, List, [], ◌∷◌, length, map, take, Option, None, IfSome, Result, Ok, Err, IfOk, IfErr, sym, ap, ◌∙◌, subst, arith}
use Rattle.std.specs.Prelude.{slice_get, MatchResult}
use Rattle.std.specs.FinMap.{empty, get-empty}
use Rattle.std.specs.List.{AllByRecursion}
use Rattle.rdf_types.specs.Places.{row_cmp}
use Rattle.rdf_types.specs.declared.records.Record.{Record}
use Rattle.rdf_disk.specs.Counts.{Counts, Ending, turned_on}
use Rattle.rdf_disk.specs.Files.{Disk, Contents}
use Rattle.rdf_disk.specs.Outcomes.{Durably, Keeps}
use Rattle.rdf_disk.specs.Counts.Ending.{Fine, Stop, Fault}
use Rattle.tmf_core.specs.Stores.{Shows}
use Rattle.rdf_disk.specs.declared.disk.Disk.{Ghosts}
use Rattle.rdf_model.specs.Contents.{nothing}
use Rattle.rdf_model.specs.Legal.{Legal}
use Rattle.rdf_model.specs.Trail.{raw, open_in}
use Rattle.rdf_model.specs.Volumes.{Rows, AreOn, shown}
use Rattle.audit_trail.specs.declared.trail.AuditTrail.{AuditTrail}
use Rattle.audit_trail.specs.Flaws.{NotDamage}
use Rattle.audit_trail.specs.InUse.{trail_of, disk_of as trail_disk, IsInUse}
use Rattle.audit_trail.specs.Spelled.{IsAlone, Spells, SameTrail}
use Rattle.rdf_gatelog.specs.declared.fault.LogFault.{LogFault}
use Rattle.rdf_gatelog.specs.LogCauses.{ending_of_fault}
use Rattle.node_faults.specs.declared.NodeFault.{NodeFault}
use Rattle.node_faults.specs.Openings.{Rises}
use Rattle.rdf_volume.specs.declared.volume.Volume.{Volume}
use Rattle.rdf_volume.specs.Standing.{StandsFor, SameVolume}
use Rattle.rdf_volume.specs.Views.{rows_of, restart_of, disk_of, InUse}
use Rattle.rdf_volume.specs.StandingLaws.{in_use_durably}
use Rattle.node_disks.specs.declared.opening.NotOpened.{NotOpened}
use Rattle.node_disks.specs.declared.opening.Opening.{Opening}
use Rattle.node_disks.specs.Opening.{AreOpened}
use Rattle.node_disks.specs.OpeningLaws.{none_left, many_open, all_open}
use Rattle.tmf_recovery.specs.Redone.{redone, StandsRedone}
use Rattle.tmf_core.specs.Stores.{Shows, StandsWithin}
use Rattle.tmf_core.specs.declared.store.Store.{Store}
use Rattle.tmf_core.specs.Stores.{Stored, IsPlaced}
use Rattle.tmf_core.specs.declared.tmf.Tmf.{Tmf}
use Rattle.tmf_core.specs.States.{RunsWith}
use Rattle.tmf_core.specs.Disks.{disks_of}
use Rattle.rdf_primary.specs.Opening.{IsBehind, IsOldVolume, IsShutVolume, MayReopen, IsJoined}
use Rattle.rdf_primary.specs.Restarting.{AreUp}

-- a volume without rows shows what stands after no record
pub shows_none : {D : Type 0} (files : D → Disk) (v : ℕ) (volume : Volume D) → InUse files volume → rows_of volume ≡ empty → restart_of volume ≡ 0 → Shows files [] v volume
shows_none files v volume in_use rows restart = record {
  in_use = in_use;
  shows = λ q on. ap (λ m. shown m q) rows ∙ get-empty row_cmp (q.file, q.key);
  behind = grind arith;
  stood = λ q on. ap (λ m. shown m q) rows ∙ get-empty row_cmp (q.file, q.key) ∙ ap (λ (t : List Record). raw nothing t q) (sym (none_taken (restart_of volume)));
}
  where
    none_taken : (n : ℕ) → (let none : List Record = [] in take n none ≡ none)
    none_taken n = grind arith

pub trail_kept : (trail : List Record) (x y : Disk) → Keeps SameTrail x y → Durably x (Spells trail) → Durably y (Spells trail)
trail_kept trail x y keeps h d may =
    let k = keeps d may in
    k.2.trail trail (h k.0 k.1)

pub volume_kept : (v : ℕ) (trail : List Record) (x y : Disk) → Keeps SameVolume x y → Durably x (StandsWithin v trail) → Durably y (StandsWithin v trail)
volume_kept v trail x y keeps h d may =
    let k = keeps d may in
    let s = h k.0 k.1 in
    (s.0, (s.1.0, (s.1.1.0, s.1.1.1, k.2 s.1.0 s.0 s.1.1.2)))

-- what a mount finds of a volume that stood for something
pub mounted_behind : {D : Type 0} (files : D → Disk) (trail : List Record) (v : ℕ) (seen : Contents) (volume : Volume D) →
    ((rows : Rows) (restart : ℕ) → StandsFor rows restart seen → InUse files volume × (rows_of volume ≡ rows) × (restart_of volume ≡ restart)) → StandsWithin v trail seen → IsBehind files trail v volume
mounted_behind files trail v seen volume found s =
    let f = found s.1.0 s.0 s.1.1.2 in
    record {
      in_use = f.0;
      behind = subst (λ n. n ≤ length trail) (sym f.2) s.1.1.0;
      stood = subst (λ (n : ℕ). AreOn v (raw nothing (take n trail)) (rows_of volume)) (sym f.2) (subst (λ (r : Rows). AreOn v (raw nothing (take s.0 trail)) r) (sym f.1) s.1.1.1);
    }

-- a volume that is redone to the trail's end shows what stands after it
pub redone_shows : {D : Type 0} (files : D → Disk) (trail : List Record) (v : ℕ) (old new : Volume D) → IsBehind files trail v old → InUse files new →
    (AreOn v (raw nothing (take (restart_of old) trail)) (rows_of old) → AreOn v (raw nothing (take (restart_of new) trail)) (rows_of new) × AreOn v (raw nothing trail) (rows_of new)) →
    restart_of new ≤ max (restart_of old) (length trail) → Shows files trail v new
redone_shows files trail v old new b in_use shows upto =
    let s = shows b.stood in
    record {
      in_use = in_use;
      shows = s.1;
      behind = let behind = b.behind in omega (arith, behind, upto);
      stood = s.0;
    }

-- redo that was cut off leaves what stood after some prefix
pub left_redone : (disk : Disk) (trail : List Record) (v p : ℕ) (rows : Rows) →
    ((vol : ℕ) (trail : List Record) (p q : ℕ) (rows : Rows) → p ≤ q → AreOn vol (raw nothing (take p trail)) rows → AreOn vol (raw nothing (take q trail)) (redone vol trail p q rows)) →
    p ≤ length trail → AreOn v (raw nothing (take p trail)) rows → Durably disk (StandsRedone v trail p rows) → Durably disk (StandsWithin v trail)
left_redone disk trail v p rows law behind stood h c may =
    let r = h c may in
    let upto = r.upto in
    (r.q, (redone v trail p r.q rows, (omega (arith, behind, upto), law v trail p r.q rows r.from stood, r.stands)))

-- the disk of a volume that shows what stands after the trail
pub shown_within : {D : Type 0} (files : D → Disk) (trail : List Record) (v : ℕ) (volume : Volume D) → Shows files trail v volume → Durably (files (disk_of volume)) (StandsWithin v trail)
shown_within files trail v volume h = λ c may. (
  restart_of volume,
  (rows_of volume, (h.behind, h.stood, in_use_durably files volume h.in_use c may)),
)

-- a disk that was turned on, and then rose, rose
rises_turned : (e : Ending) (c n : Counts) → Rises e (turned_on c) n → Rises e c n
rises_turned Fine c n h = h
rises_turned Stop c n h = h
rises_turned Fault c n h = h

-- a volume that was mounted over a disk that was turned on, and then brought to the trail's end, or not
pub caught : {D : Type 0} (tells : Type 0) (files : D → Disk) (counts : D → Counts) (trail : List Record) (v : ℕ) (x : D) (m : Counts) (r : Result (Volume D) (NotOpened D)) → m ≡ turned_on (counts x) → (tells → IfOk r (Shows files trail v)) →
    IfOk r (λ new. counts (disk_of new) ≡ m) → (tells → IfErr r (λ shut. Durably (files shut.disk) (StandsWithin v trail))) → IfErr r (λ shut. Rises (ending_of_fault shut.fault) m (counts shut.disk)) → IfErr r (λ shut. NotDamage shut.fault) →
    MatchResult r (IsOldVolume tells files counts trail v x) (λ shut. IsShutVolume tells files counts trail v x shut.disk shut.fault)
caught tells files counts trail v x m (Ok new) on shows same keeps cause sound = record { shows = shows; turned = same ∙ on }
caught tells files counts trail v x m (Err shut) on shows same keeps cause sound = record {
  keeps = keeps;
  cause = rises_turned (ending_of_fault shut.fault) (counts x) (counts shut.disk) (subst (λ c. Rises (ending_of_fault shut.fault) c (counts shut.disk)) on cause);
  sound = λ t. sound;
}

module _ {D : Type 0} {d : Ghosts D} (tells : Type 0) (files : D → Disk) (trail : AuditTrail D) (o : Opening D (Volume D)) (s : Tmf D d) (is : IsJoined tells files trail o s) where
  -- the disks of what was joined
  pub joined_disks : disks_of s.store.trail s.store.volumes.items ≡ trail_disk trail ∷ map (λ volume. disk_of volume) o.opened.items
  joined_disks = ap (λ (t : Store D). disks_of t.trail t.volumes.items) is.store

  -- it runs, over a legal trail whose images are on the volumes
  pub joined_runs : tells → IsInUse trail (files (trail_disk trail)) → IsAlone (files (trail_disk trail)) → Legal nothing (trail_of trail) → AllByRecursion (λ r. IsPlaced (length o.opened.items) r) (trail_of trail) →
      ((v : ℕ) → IfSome (slice_get o.opened.items v) (λ volume. Shows files (trail_of trail) v volume)) → RunsWith files (trail_of trail) (open_in (trail_of trail)) s
  joined_runs t in_use alone legal placed shown = is.runs t legal (subst (λ (s : Store D). Stored files s) (sym is.store) (record { in_use = in_use; alone = alone; volume = shown; placed = placed }))

  -- all disks of a primary that was down are open
  pub reopened_up : (counts : D → Counts) (disks : List D) → AreOpened (IsOldVolume tells files counts (trail_of trail)) (IsShutVolume tells files counts (trail_of trail)) 0 disks o.opened.items o.left.items o.fault → (tells → MayReopen files trail disks) →
      AreUp tells files counts trail disks s
  reopened_up counts disks opened ready = record {
    up = is.up;
    trail = ap (λ (t : Store D). t.trail) is.store;
    opened = subst (λ (vs : List (Volume D)). AreOpened Opens Fails 0 disks vs [] None) (sym (ap (λ (t : Store D). t.volumes.items) is.store))
        (subst (λ (f : Option NodeFault). AreOpened Opens Fails 0 disks o.opened.items [] f) is.no_fault (subst (λ (l : List D). AreOpened Opens Fails 0 disks o.opened.items l o.fault) (none_left Opens Fails 0 disks o.opened.items o.left.items o.fault is.no_fault opened) opened));
    runs = λ t.
        let r = ready t in
        joined_runs t r.in_use r.alone r.legal (subst (λ n. AllByRecursion (λ rec. IsPlaced n rec) (trail_of trail)) (sym (many_open Opens Fails 0 disks o.opened.items o.left.items o.fault is.no_fault opened)) r.placed)
        (all_open Opens Fails (λ v volume. Shows files (trail_of trail) v volume) disks o.opened.items o.left.items o.fault (λ i x v h. h.shows t) opened);
  }
    where
      Opens : ℕ → D → Volume D → Type 0
      Opens = IsOldVolume tells files counts (trail_of trail)

      Fails : ℕ → D → D → LogFault → Type 0
      Fails = IsShutVolume tells files counts (trail_of trail)
