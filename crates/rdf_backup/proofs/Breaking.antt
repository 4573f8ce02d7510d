-- What the disks stand for where a line is cut off.
use Rattle.std.proofs.Common.{◌≡◌, ℕ, List, None}
use Rattle.rdf_types.specs.declared.layout.Layout.{Layout}
use Rattle.rdf_types.specs.declared.records.Record.{Record}
use Rattle.rdf_disk.specs.Files.{Disk, Contents}
use Rattle.rdf_disk.specs.Outcomes.{MayAll}
use Rattle.rdf_disk.specs.declared.disk.Disk.{Ghosts}
use Rattle.plan_lang.specs.declared.lines.Line.{Line}
use Rattle.image_disks.specs.Spelled.{block_of}
use Rattle.image_disks.specs.Values.{Value}
use Rattle.image_disks.specs.Standing.{StandsFor as StandsForValue}
use Rattle.image_disks.specs.Held.{Holds}
use Rattle.image_trails.specs.Memory.{plan_of}
use Rattle.rdf_core.specs.Effects.{after_parts}
use Rattle.rdf_core.specs.Backup.{Backup as State, Around, backup_refusal, backup_fallen}
use Rattle.rdf_core.specs.Sound.{IsSound}
use Rattle.rdf_core.specs.PartLaws.{Every}
use Rattle.rdf_backup.specs.declared.backup.Backup.{Backup}
use Rattle.rdf_backup.specs.Standing.{IsValueOf}
use Rattle.rdf_backup.specs.States.{state_of, layout_of}
use Rattle.rdf_backup.specs.Replies.{parts_of, TellsSome, BreaksTrails}
use Rattle.rdf_backup.proofs.Storing.{IsPartway}

-- the contents of disk 0 hold the trail, and tell so many first ones of the parts
abbrev pub Reached : Layout → List Record → State → List State → Contents → Type 0
Reached layout trail b parts c = (x : Value) × (StandsForValue block_of (plan_of layout) x c × Holds (plan_of layout) trail x × IsPartway b parts x)

-- so do contents that stand for what these leave, whatever the count of stops
pub reached_some : (layout : Layout) (trail : List Record) (b : State) (parts : List State) (rise : ℕ) (c : Contents) → TellsSome layout trail b parts rise c → Reached layout trail b parts c
reached_some layout trail b parts rise c (n, (few, t)) =
    (t.value, (t.stands, t.holds, (n, (few, record { received_is = t.tells.received_is; starts_are = t.tells.starts_are; number_is = t.tells.number_is; phase_is = t.tells.phase_is }))))

pub fallen_sound : (layout : Layout) (trail : List Record) (rise : ℕ) (b : State) → IsSound layout trail b → IsSound layout trail (backup_fallen rise b)
fallen_sound layout trail rise b s = record { within = s.within; some = s.some; low = s.low; volumes = s.volumes }

pub fallen_tells : (rise : ℕ) (b : State) (v : Value) → IsValueOf b v → IsValueOf (backup_fallen rise b) v
fallen_tells rise b v h = record { received_is = h.received_is; starts_are = h.starts_are; number_is = h.number_is; phase_is = h.phase_is }

pub some_reached : (layout : Layout) (trail : List Record) (b : State) (parts : List State) (rise : ℕ) (c : Contents) → Reached layout trail b parts c → TellsSome layout trail b parts rise c
some_reached layout trail b parts rise c (x, (stands, holds, (n, (few, tells)))) = (n, (few, record { value = x; stands = stands; tells = fallen_tells rise (after_parts b parts n) x tells; holds = holds }))

-- a line is broken off where its image trails' disk is left so
pub broken_off : {D : Type 0} {d : Ghosts D} (files : D → Disk) (w : Around) (l : Line) (old : Backup D d) (disk : D) → ((stops : ℕ) → backup_refusal (layout_of old) w (state_of stops old) l ≡ None) →
    ((stops : ℕ) → Every (λ x. (x.volumes ≡ (state_of stops old).volumes) × IsSound (layout_of old) w.trail x) (parts_of (layout_of old) w (state_of stops old) l)) →
    ((stops : ℕ) (c : Contents) → MayAll (files disk) c → Reached (layout_of old) w.trail (state_of stops old) (parts_of (layout_of old) w (state_of stops old) l) c) → BreaksTrails files w l old disk
broken_off files w l old disk unrefused keep reached = record {
  unrefused = unrefused;
  keep = keep;
  stands = λ stops rise c may. some_reached (layout_of old) w.trail (state_of stops old) (parts_of (layout_of old) w (state_of stops old) l) rise c (reached stops c may);
}
