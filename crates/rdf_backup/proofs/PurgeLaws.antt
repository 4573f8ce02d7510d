-- How a purge ends.
use Rattle.std.proofs.Common.{◌≡◌, ◌≢◌, ℕ, zero, suc, ◌<◌, ◌≤◌, if◌then◌else◌, Bool, true, false, List, [], ◌∷◌, length, take, map, get_or, Option, None, IfSome, refl, sym, ap, ap₂, ◌∙◌, subst, arith}
use Rattle.std.specs.Prelude.{slice_get}
use Rattle.std.proofs.lemmas.List.{length-map}
use Rattle.rdf_types.specs.declared.layout.Layout.{Layout}
use Rattle.rdf_types.specs.declared.records.Node.{Node}
use Rattle.rdf_types.specs.declared.records.Phase.{Phase}
use Rattle.rdf_types.specs.declared.records.Phase.TheVariants as phase
use Rattle.rdf_disk.specs.Files.{Disk, Contents}
use Rattle.rdf_disk.specs.Outcomes.{Durably}
use Rattle.rdf_disk.specs.declared.disk.Disk.{Ghosts}
use Rattle.rdf_model.specs.Window.{low, part}
use Rattle.open_txns.specs.Noted.{all_noted, low_of}
use Rattle.plan_lang.specs.declared.lines.Line.TheVariants as line
use Rattle.image_disks.specs.Spelled.{block_of}
use Rattle.image_disks.specs.Values.{Alike, received}
use Rattle.image_disks.specs.Standing.{OneValue}
use Rattle.image_disks.specs.Held.{Holds}
use Rattle.image_disks.specs.ValueLaws.{alike_sym}
use Rattle.image_trails.specs.Keeps.{StandsHolding}
use Rattle.image_trails.specs.Memory.{IsInUse, plan_of}
use Rattle.purger.specs.Purging.{gone, without, StandsWithout}
use Rattle.rdf_volume.specs.declared.volume.Volume.{Volume}
use Rattle.rdf_volume.specs.Views.{rows_of, restart_of, InUse}
use Rattle.rdf_core.specs.declared.replies.NoWhy.{NoWhy}
use Rattle.rdf_core.specs.declared.replies.NoWhy.TheVariants as no
use Rattle.rdf_core.specs.declared.replies.Reply.{Reply}
use Rattle.rdf_core.specs.declared.replies.Reply.TheVariants.{No, Number}
use Rattle.rdf_core.specs.Effects.{IsDone, after_parts, after_all, parts_unless}
use Rattle.rdf_core.specs.Layouts.{protects, point_of, points_at, least}
use Rattle.rdf_core.specs.Backup.{Backup as State, Around, points_in, floor_of, drops, purge_parts, backup_refusal, backup_after, backup_says}
use Rattle.rdf_core.specs.Sound.{IsSound}
use Rattle.rdf_core.specs.PartLaws.{Every, every_all, every_image, all_done}
use Rattle.rdf_core.specs.SoundLaws.{sound_purge, points_at-of, flag_within}
use Rattle.rdf_backup.specs.declared.backup.Backup.{Backup}
use Rattle.rdf_backup.specs.Standing.{IsValueOf, IsProtected, IsShown}
use Rattle.rdf_backup.specs.States.{volumes_by, state_of, layout_of, value_of, AreOver, Serves}
use Rattle.rdf_backup.specs.Replies.{parts_of, Breaks, BreaksTrails, Goes}
use Rattle.rdf_backup.proofs.RefusalLaws.{purge_barred, purge_free}
use Rattle.rdf_backup.specs.StandingLaws.{phase_by, tells_by, serving_stands}
use Rattle.rdf_backup.proofs.Storing.{IsPartway, tells_alike, partway_alike}
use Rattle.rdf_backup.proofs.Breaking.{Reached, broken_off}
use Rattle.node_disks.specs.CutLaws.{there_is, some_so as each}
use Rattle.rdf_backup.proofs.Delivering.{state_from, refused_goes}
use Rattle.rdf_backup.proofs.Looking.{point_is}
use Rattle.rdf_backup.proofs.TakingLaws.{protected_shown}
use Rattle.rdf_backup.proofs.Telling.{PrefixIsLegal, LegalIsProper}
use Rattle.rdf_backup.proofs.AuditLaws.{LowOfNotes, LowOfPart, low_is}
use Rattle.rdf_backup.proofs.StillLaws.{not_taking, shown_still, some_stand_still}
use Rattle.rdf_backup.proofs.DropLaws.{left, with_starts, less_tells, as_many, each_left, drops_partway, least_same}

both_every : (P Q : State → Type 0) (xs : List State) → Every P xs → Every Q xs → Every (λ x. P x × Q x) xs
both_every P Q [] h g = tt
both_every P Q (x ∷ xs) h g = ((h.0, g.0), both_every P Q xs h.1 g.1)

module _ {D : Type 0} {d : Ghosts D} (files : D → Disk) (w : Around) (node : Node) (old : Backup D d) (serves : Serves files w.trail old) where
  abbrev state : ℕ → State
  state stops = state_of stops old

  abbrev layout : Layout
  layout = layout_of old

  abbrev points : List ℕ
  points = map (λ volume. restart_of volume) old.volumes.items

  -- a takeover under way refuses it
  pub purge_refused : (value_of old).phase ≡ phase.Taking → (new : Backup D d) → new.trails ≡ old.trails → new.volumes ≡ old.volumes → new.txns ≡ old.txns → Goes files w (line.Purge node) (No no.Taking) old new
  purge_refused taking new trails volumes txns = refused_goes files w node 0 old serves (line.Purge node) new no.Taking (λ stops. purge_barred old stops taking) trails volumes txns

  module _ (still : (value_of old).phase ≢ phase.Taking) (points_are : w.points ≡ points_in layout w.trail (state 0).volumes) where
    none_refuses : (stops : ℕ) → backup_refusal layout w (state stops) (line.Purge node) ≡ None
    none_refuses stops = purge_free old stops still

    parts_are : (stops : ℕ) → parts_of layout w (state stops) (line.Purge node) ≡ purge_parts layout w.trail w.points (state stops)
    parts_are stops = ap (λ (o : Option NoWhy). parts_unless o (purge_parts layout w.trail w.points (state stops))) (none_refuses stops)

    -- a protected volume that is taken over has the low position
    taken_point : (upto v : ℕ) → (value_of old).phase ≡ phase.Taken upto → protects layout v ≡ true → point_of points v ≡ low (protects layout) (take upto w.trail)
    taken_point upto v ended on =
        let within = subst (λ n. v < n) (layout.a_flag_each ∙ sym old.sized) (flag_within layout.protect v on) in
        let one = there_is old.volumes.items v within in
        let shown = subst (λ (o : Option (Volume D)). IfSome o (λ volume. IsShown layout w.trail (state 0) v (rows_of volume) (restart_of volume))) one.1 (serves.over.shown v) in
        let here = protected_shown layout w.trail (state 0) v (rows_of one.0) (restart_of one.0) on shown in
        point_is old.volumes.items v one.0 one.1 ∙ (subst (λ p. IsProtected layout w.trail (state 0) (volumes_by p points) v (rows_of one.0) (restart_of one.0)) ended here).0

    same_points : (end : ℕ) → least layout.protect points end ≡ least layout.protect w.points end
    same_points end = by_case (value_of old).phase refl still ∙ ap (λ ps. least layout.protect ps end) (sym points_are)
      where
        by_case : (p : Phase) → (value_of old).phase ≡ p → p ≢ phase.Taking → least layout.protect points end ≡ least layout.protect (points_in layout w.trail (volumes_by p points)) end
        by_case phase.Running is h = refl
        by_case phase.Taking is h = absurd (h refl)
        by_case (phase.Taken upto) is h =
            let at = low (protects layout) (take upto w.trail) in
            least_same layout.protect points (points_at layout at) end (length-map old.volumes.items (λ volume. restart_of volume) ∙ old.sized ∙ sym layout.a_flag_each) (length-map layout.protect (λ protect. if protect then at else 0))
            (λ v on. taken_point upto v is on ∙ sym (points_at-of layout at v on))

    -- the floor of the machine
    floor_is : (floor lowest : ℕ) → floor ≡ least layout.protect points lowest → lowest ≡ low (protects layout) (take (received (value_of old)) w.trail) → floor ≡ floor_of layout w.trail w.points (state 0)
    floor_is floor lowest is low_is = is ∙ ap (λ n. least layout.protect points n) low_is ∙ same_points (low (protects layout) (take (received (value_of old)) w.trail))

    -- as it is found from what is in memory
    pub floor_found : PrefixIsLegal → LegalIsProper → LowOfNotes → LowOfPart → (floor : ℕ) → floor ≡ least layout.protect points (low_of old.txns (received (value_of old))) → floor ≡ floor_of layout w.trail w.points (state 0)
    floor_found prefix proper notes of_part floor is = floor_is floor (low_of old.txns (received (value_of old))) is (low_is files w.trail old serves prefix proper notes of_part)

    module _ (retain floor : ℕ) (retain_is : retain ≡ layout.retain) (floor_same : floor ≡ floor_of layout w.trail w.points (state 0)) where
      some : 1 ≤ layout.retain
      some = omega (arith, layout.some_retained)

      abbrev spec_floor : ℕ
      spec_floor = floor_of layout w.trail w.points (state 0)

      many_is : gone retain floor (value_of old).starts ≡ gone layout.retain spec_floor (value_of old).starts
      many_is = ap₂ (λ r f. gone r f (value_of old).starts) retain_is floor_same

      keep : (stops : ℕ) → Every (λ x. (x.volumes ≡ (state stops).volumes) × IsSound layout w.trail x) (parts_of layout w (state stops) (line.Purge node))
      keep stops = subst (λ parts. Every (λ x. (x.volumes ≡ (state stops).volumes) × IsSound layout w.trail x) parts) (sym (parts_are stops))
          (both_every (λ x. x.volumes ≡ (state stops).volumes) (IsSound layout w.trail) (purge_parts layout w.trail w.points (state stops))
          (every_image (λ (x : State). x.volumes ≡ (state stops).volumes) (λ starts. with_starts (state stops) starts) (drops layout.retain spec_floor (value_of old).starts) (λ starts. refl))
          (sound_purge layout w.trail w.points (state stops) (λ v on. subst (λ ps. point_of ps v ≤ point_of (points_in layout w.trail (state 0).volumes) v) (sym points_are) (omega arith)) (serves.over.sound stops)))

      reached : (stops : ℕ) (c : Contents) → StandsWithout block_of (plan_of layout) (gone retain floor (value_of old).starts) (value_of old) c → StandsHolding block_of (plan_of layout) (λ records. Holds (plan_of layout) records (value_of old)) c → OneValue →
          Reached layout w.trail (state stops) (parts_of layout w (state stops) (line.Purge node)) c
      reached stops c cut held one =
          let same = one block_of (plan_of layout) (without cut.0 (value_of old)) held.0 c refl cut.2 held.1 in (
            held.0,
            (
              held.1,
              held.2 w.trail serves.over.holds,
              partway_alike (state stops) (parts_of layout w (state stops) (line.Purge node)) (without cut.0 (value_of old)) held.0 same
                  (subst (λ parts. IsPartway (state stops) parts (without cut.0 (value_of old))) (sym (parts_are stops))
                  (drops_partway layout.retain spec_floor some (state stops) cut.0 (value_of old) (subst (λ n. cut.0 ≤ n) many_is cut.1) (tells_by stops (value_of old) old.volumes.items))),
            ),
          )

      -- it was cut off
      pub purge_breaks : OneValue → (new : Backup D d) → new.volumes ≡ old.volumes → Durably (files new.trails.disk) (StandsWithout block_of (plan_of layout) (gone retain floor (value_of old).starts) (value_of old)) →
          Durably (files new.trails.disk) (StandsHolding block_of (plan_of layout) (λ records. Holds (plan_of layout) records (value_of old))) → Breaks files w (line.Purge node) old new
      purge_breaks one new volumes without_some held_ = record { unrefused = none_refuses; stands = some_stand_still files w (line.Purge node) old new serves still volumes keep (λ stops c may. reached stops c (without_some c may) (held_ c may) one) }

      pub purge_broken : OneValue → (disk : D) → Durably (files disk) (StandsWithout block_of (plan_of layout) (gone retain floor (value_of old).starts) (value_of old)) →
          Durably (files disk) (StandsHolding block_of (plan_of layout) (λ records. Holds (plan_of layout) records (value_of old))) → BreaksTrails files w (line.Purge node) old disk
      purge_broken one disk without_some held_ = broken_off files w (line.Purge node) old disk none_refuses keep (λ stops c may. reached stops c (without_some c may) (held_ c may) one)

      -- it is done
      after_is : (stops : ℕ) → after_all (state stops) (purge_parts layout w.trail w.points (state stops)) ≡ with_starts (state stops) (left (gone layout.retain spec_floor (value_of old).starts) (value_of old).starts)
      after_is stops =
          let parts = purge_parts layout w.trail w.points (state stops) in
          sym (all_done (state stops) parts)
          ∙ ap (λ n. after_parts (state stops) parts n) (as_many layout.retain spec_floor some (state stops) (value_of old).starts)
          ∙ each_left layout.retain spec_floor some (state stops) (value_of old).starts (gone layout.retain spec_floor (value_of old).starts) (omega arith)

      module _ (new : Backup D d) (alike : Alike (value_of new) (without (gone retain floor (value_of old).starts) (value_of old))) (laid : layout_of new ≡ layout_of old) (in_use : IsInUse block_of new.trails.memory (files new.trails.disk))
          (holds : Holds (plan_of layout) w.trail (value_of new)) (volumes : new.volumes ≡ old.volumes) (txns : new.txns ≡ old.txns) where
        abbrev went : ℕ
        went = gone layout.retain spec_floor (value_of old).starts

        alike_now : Alike (value_of new) (without went (value_of old))
        alike_now = subst (λ n. Alike (value_of new) (without n (value_of old))) many_is alike

        told : (stops : ℕ) → IsValueOf (with_starts (state stops) (left went (value_of old).starts)) (value_of new)
        told stops = tells_alike (with_starts (state stops) (left went (value_of old).starts)) (without went (value_of old)) (value_of new) (alike_sym (value_of new) (without went (value_of old)) alike_now)
            (less_tells (state stops) went (value_of old) (tells_by stops (value_of old) old.volumes.items))

        kept_volumes : volumes_by (value_of old).phase points ≡ volumes_by (value_of new).phase (map (λ volume. restart_of volume) new.volumes.items)
        kept_volumes = ap₂ (λ p (vs : List (Volume D)). volumes_by p (map (λ volume. restart_of volume) vs)) (phase_by (value_of old).phase points ∙ sym (told 0).phase_is) (ap (λ vs. vs.items) (sym volumes))

        new_state : (stops : ℕ) → state_of stops new ≡ after_all (state stops) (purge_parts layout w.trail w.points (state stops))
        new_state stops = state_from (with_starts (state stops) (left went (value_of old).starts)) stops (value_of new) new.volumes.items refl refl kept_volumes (told stops) ∙ sym (after_is stops)

        pub same_received : received (value_of new) ≡ received (value_of old)
        same_received = (told 0).received_is

        over : AreOver layout w.trail (value_of new) new.volumes.items new.txns
        over = record {
          legal = serves.over.legal;
          sound = λ stops. subst (λ x. IsSound layout w.trail x) (sym (new_state stops))
              (every_all (IsSound layout w.trail) (state stops) (purge_parts layout w.trail w.points (state stops)) (serves.over.sound stops)
              (sound_purge layout w.trail w.points (state stops) (λ v on. subst (λ ps. point_of ps v ≤ point_of (points_in layout w.trail (state 0).volumes) v) (sym points_are) (omega arith)) (serves.over.sound stops)));
          holds = holds;
          shown = λ i. subst (λ vs. IfSome (slice_get vs.items i) (λ volume. IsShown layout w.trail (state_of 0 new) i (rows_of volume) (restart_of volume))) (sym volumes)
              (each (λ (volume : Volume D). IsShown layout w.trail (state 0) i (rows_of volume) (restart_of volume)) (λ volume. IsShown layout w.trail (state_of 0 new) i (rows_of volume) (restart_of volume)) (slice_get old.volumes.items i)
              (λ volume h. shown_still layout w.trail (state 0) (state_of 0 new) i (rows_of volume) (restart_of volume) (not_taking (value_of old).phase points still) (sym kept_volumes) h) (serves.over.shown i));
          open_ones = record {
            start = serves.over.open_ones.start;
            early = subst (λ n. serves.over.open_ones.start ≤ low (protects layout) (take n w.trail)) (sym same_received) serves.over.open_ones.early;
            noted = txns ∙ subst (λ n. old.txns ≡ all_noted (part (protects layout) serves.over.open_ones.start (take n w.trail))) (sym same_received) serves.over.open_ones.noted;
          };
        }

        serving : Serves files w.trail new
        serving = record {
          usable = record {
            trails = in_use;
            volume = subst (λ vs. (i : ℕ) → IfSome (slice_get vs.items i) (λ volume. InUse files volume)) (sym volumes) serves.usable.volume;
          };
          over = subst (λ l. AreOver l w.trail (value_of new) new.volumes.items new.txns) (sym laid) over;
        }

        pub purge_goes : (n : ℕ) → n ≡ gone retain floor (value_of old).starts → Goes files w (line.Purge node) (Number n) old new
        purge_goes n is = record {
          answers = λ stops. subst (λ (o : Option NoWhy). IsDone o (λ _. state stops) (backup_after layout w (state stops) (line.Purge node)) (backup_says layout w (state stops) (line.Purge node)) (Number n) (state_of stops new))
              (sym (none_refuses stops)) (ap (λ m. let r : Reply = Number m in r) (is ∙ many_is ∙ sym (as_many layout.retain spec_floor some (state stops) (value_of old).starts)), new_state stops);
          laid = laid;
          serves = serving;
          stands = serving_stands files w.trail new serving;
        }
