-- What the disks of a backup stand for where a session of it ended by a fault.
use Rattle.std.proofs.Common.{◌≡◌, ℕ, zero, suc, ◌≤◌, true, List, [], ◌∷◌, map, None, Result, Ok, Err, IfErr, refl, sym, ap, ◌∙◌, subst, arith}
use Rattle.rdf_types.specs.declared.layout.Layout.{Layout}
use Rattle.rdf_types.specs.declared.records.Phase.TheVariants as phase
use Rattle.rdf_disk.specs.Files.{Disk, Contents}
use Rattle.rdf_disk.specs.Counts.{Counts}
use Rattle.rdf_disk.specs.Outcomes.{MayAll}
use Rattle.rdf_disk.specs.declared.disk.Disk.{Ghosts}
use Rattle.plan_lang.specs.declared.lines.Line.{Line}
use Rattle.node_faults.specs.declared.NodeFault.{NodeFault}
use Rattle.image_disks.specs.Values.{received}
use Rattle.image_trails.specs.Trails.{trails_disk}
use Rattle.rdf_volume.specs.Views.{disk_of}
use Rattle.rdf_core.specs.declared.replies.Reply.{Reply}
use Rattle.rdf_core.specs.Effects.{after_parts}
use Rattle.rdf_core.specs.Backup.{Backup as State, Around, Running, with_volumes, phase_of, backup_refusal, backup_fallen}
use Rattle.rdf_core.specs.PartLaws.{Every, every_parts}
use Rattle.rdf_core.specs.Rising.{HasRisen}
use Rattle.rdf_core.specs.Sound.{IsSound}
use Rattle.rdf_core.specs.Step.{is_of_session}
use Rattle.rdf_backup.specs.declared.backup.Backup.{Backup}
use Rattle.rdf_backup.specs.Raised.{AreLeftRisen}
use Rattle.rdf_backup.specs.Replies.{parts_of, TellsSome, BreaksTrails}
use Rattle.rdf_backup.specs.Rising.{SomeRisen}
use Rattle.rdf_backup.specs.SessionLaws.{GoesBy, AreBrokenAt, EndsRisen, EndsBroken}
use Rattle.rdf_backup.specs.Standing.{TrailsStandFor, DiskStandsFor, MayBe, ContentsStandFor}
use Rattle.rdf_backup.specs.States.{layout_of, value_of, state_of, disks_in, Serves}
use Rattle.rdf_backup.proofs.Breaking.{fallen_sound}
use Rattle.rdf_backup.proofs.RisenParts.{GoesOn, line_goes}
use Rattle.rdf_backup.proofs.RisingStates.{at_points, points_by, old_state, MayHold, points, have_come, rose_to, sound_there, volume_there, as_many_disks, some_risen}

-- of an answer that is an error
if_err : (e : Result Reply NodeFault) (P Q : Type 0) → (P → Q) → IfErr e (λ why. P) → IfErr e (λ why. Q)
if_err (Ok x) P Q f h = tt
if_err (Err why) P Q f h = f h

pub ends_risen : {D : Type 0} (d : Ghosts D) (tells : Type 0) (files : D → Disk) (counts : D → Counts) → EndsRisen d tells files counts
ends_risen d tells files counts trail closed end new t goes ends serves fed leaves = if_err end _ _
    (λ left stops. subst (λ x. SomeRisen files (layout_of closed.shown) trail (state_of stops closed.shown) (x ∷ map (λ volume. disk_of volume) new.volumes.items)) (sym (ends.disk ∙ goes.disk_is leaves))
    (some_risen files trail closed.shown (goes.running t) serves new.volumes.items left stops)) (ends.left t trail serves fed)

module _ {D : Type 0} {d : Ghosts D} (files : D → Disk) (w : Around) (l : Line) (of : is_of_session l ≡ true) (old : Backup D d) (runs : (value_of old).phase ≡ phase.Running) (serves : Serves files w.trail old) (disk : D) (broke : BreaksTrails files w l old disk)
    (by : GoesBy (layout_of old) w (state_of 0 old) l) (new : Backup D d) (disk_is : trails_disk new.trails ≡ disk) (left : AreLeftRisen files (layout_of old) w.trail (received (value_of old)) old.volumes.items new.volumes.items)
    (stops : ℕ) (held : ℕ → Contents) (may : MayBe files (disks_in new) held) where
  abbrev layout : Layout
  layout = layout_of old

  abbrev each : MayHold files w.trail old runs serves new.volumes.items left held
  each = λ v. may (suc v)

  -- the points that the volumes have risen to
  abbrev risen : List ℕ
  risen = points files w.trail old runs serves new.volumes.items left held each

  abbrev was : State
  was = at_points files w.trail old runs serves stops (points_by files w.trail old runs serves old.volumes.items)

  abbrev next : State
  next = with_volumes was (Running risen)

  same : state_of stops old ≡ was
  same = old_state files w.trail old runs serves stops

  goes : GoesOn layout w (received (value_of old)) (value_of old).last stops (value_of old).starts (points_by files w.trail old runs serves old.volumes.items) risen l
  goes = line_goes layout w (received (value_of old)) (value_of old).last stops (value_of old).starts (points_by files w.trail old runs serves old.volumes.items) risen l of
      (subst (λ b. GoesBy layout w b l) (old_state files w.trail old runs serves 0) by) (have_come files w.trail old runs serves new.volumes.items left held each)
      (subst (λ b. backup_refusal layout w b l ≡ None) same (broke.unrefused stops))

  abbrev parts : List State
  parts = parts_of layout w was l

  keep : Every (λ x. (x.volumes ≡ was.volumes) × IsSound layout w.trail x) parts
  keep = subst (λ b. Every (λ x. (x.volumes ≡ b.volumes) × IsSound layout w.trail x) (parts_of layout w b l)) same (broke.keep stops)

  found : TellsSome layout w.trail was parts 0 (held 0)
  found = subst (λ b. TellsSome layout w.trail b (parts_of layout w b l) 0 (held 0)) same (broke.stands stops 0 (held 0) (subst (λ x. MayAll (files x) (held 0)) disk_is (may 0)))

  abbrev done : ℕ
  done = found.0

  abbrev there : State
  there = after_parts was parts done

  there_volumes : there.volumes ≡ Running (points_by files w.trail old runs serves old.volumes.items)
  there_volumes = every_parts (λ x. x.volumes ≡ was.volumes) was parts done refl (every_first parts keep)
    where
      every_first : (xs : List State) → Every (λ x. (x.volumes ≡ was.volumes) × IsSound layout w.trail x) xs → Every (λ x. x.volumes ≡ was.volumes) xs
      every_first [] e = tt
      every_first (x ∷ xs) e = (e.0.0, every_first xs e.1)

  there_sound : IsSound layout w.trail there
  there_sound = (every_parts (λ x. (x.volumes ≡ was.volumes) × IsSound layout w.trail x) was parts done (refl, subst (λ b. IsSound layout w.trail b) same (serves.over.sound stops)) keep).1

  there_more : received (value_of old) ≤ there.received
  there_more = every_parts (λ x. received (value_of old) ≤ x.received) was parts done (omega arith) goes.grows

  -- the backup with its volumes risen, and so many parts behind
  abbrev behind : State
  behind = with_volumes there (Running risen)

  behind_sound : IsSound layout w.trail behind
  behind_sound = sound_there files w.trail old runs serves new.volumes.items left held each there there_volumes there_more there_sound

  trails_behind : (rise : ℕ) → TrailsStandFor layout w.trail (backup_fallen rise behind) (held 0)
  trails_behind rise =
      let t = found.1.1 in
      record {
        value = t.value;
        stands = t.stands;
        tells = record { received_is = t.tells.received_is; starts_are = t.tells.starts_are; number_is = t.tells.number_is; phase_is = t.tells.phase_is ∙ ap (λ vs. phase_of vs) there_volumes };
        holds = t.holds;
      }

  stands : (rise : ℕ) → ContentsStandFor layout w.trail (backup_fallen rise behind) held
  stands rise = record { legal = serves.over.legal; sound = fallen_sound layout w.trail rise behind behind_sound; disk = at }
    where
      at : (i : ℕ) → i ≤ layout.volumes → DiskStandsFor layout w.trail (backup_fallen rise behind) i (held i)
      at zero few = trails_behind rise
      at (suc v) few = volume_there files w.trail old runs serves new.volumes.items left held each (backup_fallen rise behind) refl v (omega (arith, few))

  broken_at : AreBrokenAt layout w l was held
  broken_at = record {
    next = next;
    rise_is = subst (λ b. HasRisen layout b (with_volumes b (Running risen))) same (rose_to files w.trail old runs serves new.volumes.items left held each stops);
    unrefused = goes.unrefused;
    done = done;
    few = goes.few done found.1.0;
    stands = λ rise. subst (λ x. ContentsStandFor layout w.trail (backup_fallen rise x) held) (sym (goes.after done found.1.0)) (stands rise);
  }

  pub are_broken : AreBrokenAt (layout_of old) w l (state_of stops old) held
  are_broken = subst (λ b. AreBrokenAt layout w l b held) (sym same) broken_at

pub ends_broken : {D : Type 0} (d : Ghosts D) (tells : Type 0) (files : D → Disk) (counts : D → Counts) → EndsBroken d tells files counts
ends_broken d tells files counts w l closed end new t goes ends serves fed of by broke = if_err end _ _
    (λ left stops. record {
      count = as_many_disks files w.trail closed.shown (goes.running t) serves new.volumes.items left;
      some = λ held may. are_broken files w l of closed.shown (goes.running t) serves closed.disk broke by new ends.disk left stops held may;
    }) (ends.left t w.trail serves fed)
