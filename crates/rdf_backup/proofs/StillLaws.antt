-- A backup that no takeover is under way of: what its volumes show, and what its disks stand for where a line is cut off.
use Rattle.std.proofs.Common.{◌≡◌, ◌≢◌, ℕ, zero, suc, ◌<◌, ◌≤◌, Bool, true, false, List, length, map, Option, IfSome, refl, sym, ap, ◌∙◌, subst, arith}
use Rattle.std.specs.Prelude.{slice_get}
use Rattle.std.specs.Option.{option_map}
use Rattle.std.proofs.lemmas.Option.{slice_get-map}
use Rattle.rdf_types.specs.declared.layout.Layout.{Layout}
use Rattle.rdf_types.specs.declared.records.Phase.{Phase}
use Rattle.rdf_types.specs.declared.records.Phase.TheVariants as phase
use Rattle.rdf_types.specs.declared.records.Record.{Record}
use Rattle.rdf_disk.specs.Files.{Disk, Contents}
use Rattle.rdf_disk.specs.Outcomes.{MayAll}
use Rattle.rdf_disk.specs.declared.disk.Disk.{Ghosts}
use Rattle.rdf_model.specs.Volumes.{Rows}
use Rattle.plan_lang.specs.declared.lines.Line.{Line}
use Rattle.rdf_volume.specs.declared.volume.Volume.{Volume}
use Rattle.rdf_volume.specs.Views.{rows_of, restart_of, disk_of, InUse}
use Rattle.rdf_core.specs.Effects.{after_parts}
use Rattle.rdf_core.specs.Layouts.{protects}
use Rattle.rdf_core.specs.Backup.{Backup as State, Around, Volumes, Running, Taking, Taken, backup_fallen}
use Rattle.rdf_core.specs.Sound.{IsSound}
use Rattle.rdf_volume.specs.StandingLaws.{in_use_durably}
use Rattle.rdf_core.specs.PartLaws.{Every, every_parts}
use Rattle.rdf_backup.specs.declared.backup.Backup.{Backup}
use Rattle.rdf_backup.specs.Standing.{IsProtected, IsShownIf, IsShown, DiskStandsFor, MayBe, ContentsStandFor, SomeStandsFor}
use Rattle.rdf_backup.specs.States.{volumes_by, state_of, layout_of, value_of, disks_in, Serves}
use Rattle.rdf_backup.specs.Replies.{parts_of, BreaksTrails, Breaks}
use Rattle.rdf_backup.specs.StandingLaws.{disks_many}
use Rattle.rdf_backup.proofs.Breaking.{Reached, reached_some, fallen_sound, fallen_tells}
use Rattle.node_disks.specs.CutLaws.{there_is}

pub not_taking : (p : Phase) (points : List ℕ) → p ≢ phase.Taking → volumes_by p points ≢ Taking
not_taking phase.Running points h e = cc
not_taking phase.Taking points h e = h refl
not_taking (phase.Taken upto) points h e = cc

protected_still : (layout : Layout) (trail : List Record) (b other : State) (vs : Volumes) (i : ℕ) (rows : Rows) (at : ℕ) → vs ≢ Taking → IsProtected layout trail b vs i rows at → IsProtected layout trail other vs i rows at
protected_still layout trail b other (Running points) i rows at still h = h
protected_still layout trail b other Taking i rows at still h = absurd (still refl)
protected_still layout trail b other (Taken upto) i rows at still h = h

-- a volume shows the same by any other state with the same volumes
pub shown_still : (layout : Layout) (trail : List Record) (b other : State) (i : ℕ) (rows : Rows) (at : ℕ) → b.volumes ≢ Taking → other.volumes ≡ b.volumes → IsShown layout trail b i rows at → IsShown layout trail other i rows at
shown_still layout trail b other i rows at still same h = by_case (protects layout i) h
  where
    by_case : (p : Bool) → IsShownIf p layout trail b i rows at → IsShownIf p layout trail other i rows at
    by_case true g = subst (λ vs. IsProtected layout trail other vs i rows at) (sym same) (protected_still layout trail b other b.volumes i rows at still g)
    by_case false g = g

module _ {D : Type 0} {d : Ghosts D} (files : D → Disk) (w : Around) (l : Line) (old new : Backup D d) (serves : Serves files w.trail old) (still : (value_of old).phase ≢ phase.Taking)
    (volumes : new.volumes ≡ old.volumes)
    (keep : (stops : ℕ) → Every (λ x. (x.volumes ≡ (state_of stops old).volumes) × IsSound (layout_of old) w.trail x) (parts_of (layout_of old) w (state_of stops old) l))
    (reached : (stops : ℕ) (c : Contents) → MayAll (files new.trails.disk) c → Reached (layout_of old) w.trail (state_of stops old) (parts_of (layout_of old) w (state_of stops old) l) c) where
  abbrev points : List ℕ
  points = map (λ volume. restart_of volume) old.volumes.items

  -- the state after so many of the parts
  abbrev after : ℕ → ℕ → State
  after stops n = after_parts (state_of stops old) (parts_of (layout_of old) w (state_of stops old) l) n

  -- it has the volumes, and is sound
  kept : (stops n : ℕ) → ((after stops n).volumes ≡ (state_of stops old).volumes) × IsSound (layout_of old) w.trail (after stops n)
  kept stops n = every_parts (λ x. (x.volumes ≡ (state_of stops old).volumes) × IsSound (layout_of old) w.trail x) (state_of stops old) (parts_of (layout_of old) w (state_of stops old) l) n
      (refl, serves.over.sound stops) (keep stops)

  -- a volume's disk, which the line does not change
  volume : (held : ℕ → Contents) → MayBe files (disks_in new) held → (x : State) → x.volumes ≡ (state_of 0 old).volumes → (v : ℕ) → v < length old.volumes.items → DiskStandsFor (layout_of old) w.trail x (suc v) (held (suc v))
  volume held may x is v within =
      let one = there_is old.volumes.items v within in
      let same = slice_get-map (λ volume. disk_of volume) old.volumes.items v ∙ ap (λ o. option_map (λ volume. disk_of volume) o) one.1 in
      let here = subst (λ vs. IfSome (slice_get (map (λ volume. disk_of volume) vs.items) v) (λ disk. MayAll (files disk) (held (suc v)))) volumes (may (suc v)) in
      let use_ = subst (λ (o : Option (Volume D)). IfSome o (λ volume. InUse files volume)) one.1 (serves.usable.volume v) in
      let shown = subst (λ (o : Option (Volume D)). IfSome o (λ volume. IsShown (layout_of old) w.trail (state_of 0 old) v (rows_of volume) (restart_of volume))) one.1 (serves.over.shown v) in
      record {
        rows = rows_of one.0;
        at = restart_of one.0;
        shows = shown_still (layout_of old) w.trail (state_of 0 old) x v (rows_of one.0) (restart_of one.0) (not_taking (value_of old).phase points still) is shown;
        stands = in_use_durably files one.0 use_ (held (suc v))
            (subst (λ (o : Option D). IfSome o (λ disk. MayAll (files disk) (held (suc v)))) same here);
      }

  -- a line that leaves the volumes is cut off, where disk 0 tells some first ones of the parts
  pub some_stand_still : (stops rise : ℕ) → SomeStandsFor files (layout_of old) w.trail (length (parts_of (layout_of old) w (state_of stops old) l)) (λ n. backup_fallen rise (after stops n)) (disks_in new)
  some_stand_still stops rise = record {
    count = subst (λ vs. suc (length (map (λ volume. disk_of volume) vs.items)) ≡ suc (layout_of old).volumes) (sym volumes) (disks_many old);
    some = λ held may. found held may (reached stops (held 0) (may 0));
  }
    where
      found : (held : ℕ → Contents) → MayBe files (disks_in new) held → Reached (layout_of old) w.trail (state_of stops old) (parts_of (layout_of old) w (state_of stops old) l) (held 0) →
          (n : ℕ) × ((n ≤ length (parts_of (layout_of old) w (state_of stops old) l)) × ContentsStandFor (layout_of old) w.trail (backup_fallen rise (after stops n)) held)
      found held may (x, (stands, holds, (n, (few, tells)))) = (
        n,
        (few, record { legal = serves.over.legal; sound = fallen_sound (layout_of old) w.trail rise (after stops n) (kept stops n).1; disk = at }),
      )
        where
          at : (i : ℕ) → i ≤ (layout_of old).volumes → DiskStandsFor (layout_of old) w.trail (backup_fallen rise (after stops n)) i (held i)
          at zero small = record { value = x; stands = stands; tells = fallen_tells rise (after stops n) x tells; holds = holds }
          at (suc v) small = volume held may (backup_fallen rise (after stops n)) (kept stops n).0 v (subst (λ k. v < k) (sym old.sized) (omega (arith, small)))

-- a line that is broken off breaks the backup, whose volumes it leaves
pub breaks_by : {D : Type 0} {d : Ghosts D} (files : D → Disk) (w : Around) (l : Line) (old new : Backup D d) → Serves files w.trail old → (value_of old).phase ≡ phase.Running → new.volumes ≡ old.volumes → BreaksTrails files w l old new.trails.disk → Breaks files w l old new
breaks_by files w l old new serves running volumes b = record {
  unrefused = b.unrefused;
  stands = some_stand_still files w l old new serves (λ taking. never (sym running ∙ taking)) volumes b.keep (λ stops c may. reached_some (layout_of old) w.trail (state_of stops old) (parts_of (layout_of old) w (state_of stops old) l) 0 c (b.stands stops 0 c may));
}
  where
    never : phase.Running ≡ phase.Taking → ⊥
    never e = cc
