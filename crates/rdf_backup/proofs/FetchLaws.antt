-- How a copy from another backup ends.
use Rattle.std.proofs.Common.{◌≡◌, ◌≢◌, ℕ, suc, ◌-◌, ◌<◌, ◌≤◌, max, nat_lt, List, length, take, map, Option, Some, None, IfSome, Result, Err, refl, sym, ap, ap₂, ◌∙◌, subst, arith}
use Rattle.std.proofs.lemmas.Bool.{lt-ltb, le-ltb}
use Rattle.std.specs.Prelude.{slice_get}
use Rattle.std.proofs.lemmas.List.{length-take}
use Rattle.rdf_types.specs.declared.layout.Layout.{Layout}
use Rattle.rdf_types.specs.declared.records.Node.{Node}
use Rattle.rdf_types.specs.declared.records.Phase.{Phase}
use Rattle.rdf_types.specs.declared.records.Phase.TheVariants as phase
use Rattle.rdf_types.specs.declared.records.Stamped.{Stamped}
use Rattle.rdf_disk.specs.Files.{Disk, Contents}
use Rattle.rdf_disk.specs.Outcomes.{Durably, MayAll}
use Rattle.rdf_disk.specs.declared.disk.Disk.{Ghosts}
use Rattle.rdf_model.specs.Window.{low, part}
use Rattle.rdf_model.specs.LowLaws.{low_rises}
use Rattle.rdf_model.specs.LowLaws.{low_within}
use Rattle.plan_lang.specs.declared.lines.Line.{Line}
use Rattle.plan_lang.specs.declared.lines.Line.TheVariants as line
use Rattle.open_txns.specs.Noted.{all_noted}
use Rattle.image_disks.specs.Spelled.{block_of}
use Rattle.image_disks.specs.Values.{Alike, received, kept, merged, listed}
use Rattle.image_disks.specs.Standing.{StandsFor as StandsForValue, StandsForOne, OneValue}
use Rattle.image_disks.specs.Held.{Holds, concerned}
use Rattle.image_disks.specs.ValueLaws.{alike_sym}
use Rattle.image_trails.specs.Keeps.{StandsHolding}
use Rattle.image_trails.specs.Memory.{IsInUse, plan_of}
use Rattle.image_trails.specs.InUseLaws.{in_use_durably as trails_durably}
use Rattle.copyaudit.specs.Copying.{copied, copy_stages, message_ends, BothHold, IsPurgedRightly, IsPurged, IsBroken}
use Rattle.copyaudit.specs.declared.CopyFault.{CopyFault}
use Rattle.copyaudit.specs.declared.CopyFault.TheVariants as copy
use Rattle.node_faults.specs.declared.NodeFault.{NodeFault}
use Rattle.node_faults.specs.Faults.{fault_at, NamesOwn}
use Rattle.node_faults.specs.FaultLaws.{fault_named}
use Rattle.rdf_volume.specs.declared.volume.Volume.{Volume}
use Rattle.rdf_volume.specs.Views.{rows_of, restart_of, InUse}
use Rattle.rdf_core.specs.declared.replies.NoWhy.{NoWhy}
use Rattle.rdf_core.specs.declared.replies.NoWhy.TheVariants as no
use Rattle.rdf_core.specs.declared.replies.Reply.{Reply}
use Rattle.rdf_core.specs.declared.replies.Reply.TheVariants.{No, Number, Stopped}
use Rattle.rdf_core.specs.Effects.{IsDone, when, first, after_all, parts_unless}
use Rattle.rdf_core.specs.Layouts.{protects}
use Rattle.rdf_core.specs.Backup.{Backup as State, Around, phase_of, ends, stores_parts, copy_parts, copy_refusal, backup_refusal, backup_after, backup_says}
use Rattle.rdf_core.specs.Sound.{IsSound}
use Rattle.rdf_core.specs.PartLaws.{Every, every_all}
use Rattle.node_disks.specs.CutLaws.{some_so as each}
use Rattle.rdf_backup.specs.declared.backup.Backup.{Backup}
use Rattle.rdf_backup.specs.Copying.{not_taken, not_copied}
use Rattle.rdf_backup.specs.Parts.{noted_since}
use Rattle.rdf_backup.specs.Standing.{IsValueOf, IsShown}
use Rattle.rdf_backup.specs.States.{volumes_by, state_of, layout_of, value_of, AreOpen, AreOver, Serves}
use Rattle.rdf_backup.specs.Replies.{parts_of, Breaks, Goes, Ends}
use Rattle.rdf_backup.specs.Answers.{IsPlain}
use Rattle.image_disks.specs.ListLaws.{listed_same}
use Rattle.rdf_backup.proofs.Listed.{part_listed}
use Rattle.rdf_backup.proofs.PartLaws.{noted_more}
use Rattle.rdf_backup.proofs.RefusalLaws.{copy_barred, lead_barred, copying_is}
use Rattle.rdf_backup.specs.StandingLaws.{phase_by, tells_by, serving_stands}
use Rattle.rdf_backup.proofs.Storing.{tells_alike, partway_alike, partway_none, partway_all}
use Rattle.rdf_backup.proofs.Breaking.{Reached}
use Rattle.rdf_backup.proofs.Delivering.{state_from, refused_goes}
use Rattle.rdf_backup.proofs.StillLaws.{not_taking, shown_still, some_stand_still}
use Rattle.rdf_backup.proofs.CopyLaws.{Keeps, copied_tells, copied_keeps, copy_reached, copy_keep}

-- the first position that is not received, as it is found from what is in memory
pub is_behind : (first at found kept : ℕ) → first < found → first ≡ at → found ≡ kept → at < kept
is_behind first at found kept h e f = omega (arith, h, e, f)

pub not_behind : (first at found kept : ℕ) → found ≤ first → first ≡ at → found ≡ kept → kept ≤ at
not_behind first at found kept h e f = omega (arith, h, e, f)

-- a phase in which audit is copied is no takeover under way
pub still_if : (p : Phase) → not_taken p ≡ None → p ≢ phase.Taking
still_if phase.Running is e = cc
still_if phase.Taking is e = cc
still_if (phase.Taken upto) is e = cc

-- what the answer to a copy that was not made names
pub not_copied_named : (volumes : ℕ) (f : CopyFault) → NamesOwn volumes (not_copied f)
not_copied_named volumes (copy.Purged first) = tt
not_copied_named volumes (copy.Log f) = fault_named 0 (suc volumes) f (fault_at 0 f) refl (omega arith)

pub not_copied_plain : (f : CopyFault) → IsPlain (not_copied f)
not_copied_plain (copy.Purged first) = λ node e. other e
  where
    other : {node : Node} → No (no.Purged first) ≡ Stopped node → ⊥
    other e = cc
not_copied_plain (copy.Log f) = tt

module _ {D : Type 0} {d : Ghosts D} (files : D → Disk) (w : Around) (node from : Node) (old lead : Backup D d) (k : ℕ) (lead_is : w.lead ≡ state_of k lead) (serves : Serves files w.trail old) where
  abbrev state : ℕ → State
  state stops = state_of stops old

  abbrev layout : Layout
  layout = layout_of old

  abbrev points : List ℕ
  points = map (λ volume. restart_of volume) old.volumes.items

  abbrev copies : Line
  copies = line.CopyAudit node from

  -- a fault of the node
  pub fell : (r : Result Reply NodeFault) (fault : NodeFault) (new : Backup D d) → r ≡ Err fault → Breaks files w copies old new → Ends files w copies r old new
  fell r fault new is h = subst (λ (r : Result Reply NodeFault). Ends files w copies r old new) (sym is) h

  -- the backup has not taken over
  pub lag_untaken : (why : NoWhy) → not_taken (value_of old).phase ≡ Some why → (new : Backup D d) → new.trails ≡ old.trails → new.volumes ≡ old.volumes → new.txns ≡ old.txns → Goes files w copies (No why) old new
  lag_untaken why is new trails volumes txns = refused_goes files w node 0 old serves copies new why
      (λ stops. ap (λ x. copy_refusal (state stops) x) lead_is ∙ copy_barred old lead stops k why is) trails volumes txns

  module _ (taken : not_taken (value_of old).phase ≡ None) where
    -- the other one has not
    pub lead_untaken : (why : NoWhy) → not_taken (value_of lead).phase ≡ Some why → (new : Backup D d) → new.trails ≡ old.trails → new.volumes ≡ old.volumes → new.txns ≡ old.txns → Goes files w copies (No why) old new
    lead_untaken why is new trails volumes txns = refused_goes files w node 0 old serves copies new why
        (λ stops. ap (λ x. copy_refusal (state stops) x) lead_is ∙ lead_barred old lead stops k why taken is) trails volumes txns

    module _ (lead_taken : not_taken (value_of lead).phase ≡ None) where
      abbrev at : ℕ
      at = received (value_of old)

      -- only what is purged is refused
      refusal_is : (stops : ℕ) → backup_refusal layout w (state stops) copies ≡ when (nat_lt at (kept (value_of lead))) (no.Purged at)
      refusal_is stops =
          ap (λ x. copy_refusal (state stops) x) lead_is ∙ copying_is old lead stops k taken lead_taken

      pub purged_goes : (told : ℕ) → at < kept (value_of lead) → told ≡ at → (new : Backup D d) → new.trails ≡ old.trails → new.volumes ≡ old.volumes → new.txns ≡ old.txns → Goes files w copies (No (no.Purged told)) old new
      purged_goes told behind is new trails volumes txns = subst (λ n. Goes files w copies (No (no.Purged n)) old new) (sym is)
          (refused_goes files w node 0 old serves copies new (no.Purged at) (λ stops. refusal_is stops ∙ ap (λ c. when c (no.Purged at)) (lt-ltb at (kept (value_of lead)) behind)) trails volumes txns)

      module _ (joins : kept (value_of lead) ≤ at) where
        none_refuses : (stops : ℕ) → backup_refusal layout w (state stops) copies ≡ None
        none_refuses stops = refusal_is stops ∙ ap (λ c. when c (no.Purged at)) (le-ltb at (kept (value_of lead)) joins)

        abbrev lead_end : ℕ
        lead_end = received (value_of lead)

        abbrev copy_ends : List ℕ
        copy_ends = ends (lead_end - at) at lead_end

        abbrev stored_parts : ℕ → List State
        stored_parts stops = stores_parts layout copy_ends (state stops)

        copy_is : (stops : ℕ) → copy_parts layout (state stops) w.lead ≡ stored_parts stops
        copy_is stops = ap (λ (x : State). copy_parts layout (state stops) x) lead_is

        parts_are : (stops : ℕ) → parts_of layout w (state stops) copies ≡ stored_parts stops
        parts_are stops = ap (λ (o : Option NoWhy). parts_unless o (copy_parts layout (state stops) w.lead)) (none_refuses stops) ∙ copy_is stops

        module _ (lead_serves : Serves files w.trail lead) (same : layout_of lead ≡ layout_of old) where
          lead_within : lead_end ≤ length w.trail
          lead_within = (lead_serves.over.sound 0).within

          lead_holds : Holds (plan_of layout) w.trail (value_of lead)
          lead_holds = subst (λ l. Holds (plan_of l) w.trail (value_of lead)) same lead_serves.over.holds

          every_part : (stops : ℕ) → Every (λ x. (x.volumes ≡ (state stops).volumes) × IsSound layout w.trail x) (stored_parts stops)
          every_part stops = copy_keep layout (value_of lead) lead_end w.trail lead_within (lead_end - at) at (state stops) (state stops) refl (serves.over.sound stops)

          keep : (stops : ℕ) → Every (λ x. (x.volumes ≡ (state stops).volumes) × IsSound layout w.trail x) (parts_of layout w (state stops) copies)
          keep stops = subst (λ parts. Every (λ x. (x.volumes ≡ (state stops).volumes) × IsSound layout w.trail x) parts) (sym (parts_are stops)) (every_part stops)

          -- it ends by a fault, where the contents of disk 0 tell some first ones of the parts
          breaks : (new : Backup D d) → new.volumes ≡ old.volumes → ((stops : ℕ) (c : Contents) → MayAll (files new.trails.disk) c → Reached layout w.trail (state stops) (stored_parts stops) c) → Breaks files w copies old new
          breaks new volumes reached = record {
            unrefused = none_refuses;
            stands = some_stand_still files w copies old new serves (still_if (value_of old).phase taken) volumes keep
                (λ stops c may. subst (λ parts. Reached layout w.trail (state stops) parts c) (sym (parts_are stops)) (reached stops c may));
          }

          -- a store was broken off
          pub copy_breaks : OneValue → (new : Backup D d) → new.volumes ≡ old.volumes → Durably (files new.trails.disk) (StandsForOne block_of (plan_of layout) (copy_stages (plan_of layout) (value_of lead) (message_ends (value_of lead) (value_of old)) (value_of old))) →
              Durably (files new.trails.disk) (StandsHolding block_of (plan_of layout) (BothHold (plan_of layout) (value_of lead) (value_of old))) → Breaks files w copies old new
          copy_breaks one new volumes err left = breaks new volumes (λ stops c may.
              let staged = copy_reached layout (value_of lead) lead_end (lead_end - at) at (state stops) (value_of old) c refl (tells_by stops (value_of old) old.volumes.items) (err c may) in
              let held = left c may in
              let alike = one block_of (plan_of layout) staged.0 held.0 c refl staged.1.0 held.1 in (
                held.0,
                (held.1, held.2 w.trail (lead_holds, serves.over.holds), partway_alike (state stops) (stored_parts stops) staged.0 held.0 alike staged.1.1),
              ))

          module _ (new : Backup D d) (laid : layout_of new ≡ layout_of old) (in_use : IsInUse block_of new.trails.memory (files new.trails.disk))
              (value : Alike (value_of new) (copied (plan_of layout) (value_of lead) (message_ends (value_of lead) (value_of old)) (value_of old)))
              (held : BothHold (plan_of layout) (value_of lead) (value_of old) w.trail → Holds (plan_of layout) w.trail (value_of new)) (volumes : new.volumes ≡ old.volumes) where
            holds : Holds (plan_of layout) w.trail (value_of new)
            holds = held (lead_holds, serves.over.holds)

            abbrev after : ℕ → State
            after stops = after_all (state stops) (stored_parts stops)

            told : (stops : ℕ) → IsValueOf (after stops) (value_of new)
            told stops = tells_alike (after stops) (copied (plan_of layout) (value_of lead) (message_ends (value_of lead) (value_of old)) (value_of old)) (value_of new)
                (alike_sym (value_of new) (copied (plan_of layout) (value_of lead) (message_ends (value_of lead) (value_of old)) (value_of old)) value)
                (copied_tells layout (value_of lead) lead_end (lead_end - at) at (state stops) (value_of old) refl (tells_by stops (value_of old) old.volumes.items))

            -- all of it was stored, but memory was wanting for its notes
            pub copied_breaks : Breaks files w copies old new
            copied_breaks = breaks new volumes (λ stops c may. (
              value_of new,
              (
                subst (λ (l : Layout). StandsForValue block_of (plan_of l) (value_of new) c) laid (trails_durably block_of new.trails.memory (files new.trails.disk) in_use c may),
                holds,
                partway_all (state stops) (stored_parts stops) (value_of new) (told stops),
              ),
            ))

            keeps : (stops : ℕ) → Keeps (state stops) (after stops)
            keeps stops = copied_keeps layout (value_of lead) lead_end (lead_end - at) at (state stops) refl

            new_phase : (value_of new).phase ≡ (value_of old).phase
            new_phase = (told 0).phase_is ∙ ap (λ vs. phase_of vs) (keeps 0).volumes ∙ sym (phase_by (value_of old).phase points)

            kept_volumes : volumes_by (value_of old).phase points ≡ volumes_by (value_of new).phase (map (λ volume. restart_of volume) new.volumes.items)
            kept_volumes = ap₂ (λ p (vs : List (Volume D)). volumes_by p (map (λ volume. restart_of volume) vs)) (sym new_phase) (ap (λ vs. vs.items) (sym volumes))

            -- the state that the copy leaves
            new_state : (stops : ℕ) → state_of stops new ≡ after stops
            new_state stops = state_from (after stops) stops (value_of new) new.volumes.items (keeps stops).up (keeps stops).stops ((keeps stops).volumes ∙ kept_volumes) (told stops)

            module _ (upto : received (value_of new) ≡ max at lead_end) (entries : List Stamped) (entries_are : entries ≡ listed (merged (value_of lead)) at (lead_end - at)) (noted : new.txns ≡ noted_since at old.txns entries) where
              abbrev to : ℕ
              to = max at lead_end

              to_within : to ≤ length w.trail
              to_within = omega (arith, lead_within, (serves.over.sound 0).within)

              at_most : (a b c : ℕ) → a ≤ b → b ≤ c → a ≤ c
              at_most a b c h g = omega (arith, h, g)

              start_within : (start : ℕ) → start ≤ low (protects layout) (take at w.trail) → start ≤ at
              start_within start h = at_most start (length (take at w.trail)) at (at_most start (low (protects layout) (take at w.trail)) (length (take at w.trail)) h (low_within (protects layout) (take at w.trail))) (omega (arith, length-take at w.trail))

              new_entries : entries ≡ listed (λ i. concerned (plan_of layout) w.trail i) at (to - at)
              new_entries =
                  entries_are
                  ∙ listed_same (λ i. merged (value_of lead) i) (λ i. concerned (plan_of layout) w.trail i) at (lead_end - at) (λ i above below. lead_holds.part i (at_most (kept (value_of lead)) at i joins above) (omega (arith, below, above)))
                  ∙ ap (λ n. listed (λ i. concerned (plan_of layout) w.trail i) at n) (let e : lead_end - at ≡ to - at = omega arith in e)

              -- the open transactions after the notes
              opened : AreOpen layout w.trail (received (value_of new)) new.txns
              opened =
                  let o = serves.over.open_ones in
                  let early = start_within o.start o.early in
                  let within = (serves.over.sound 0).within in
                  let order : at ≤ to = omega arith in
                  record {
                    start = o.start;
                    early = subst (λ n. o.start ≤ low (protects layout) (take n w.trail)) (sym upto) (at_most o.start (low (protects layout) (take at w.trail)) (low (protects layout) (take to w.trail)) o.early
                        (low_rises (protects layout) w.trail at to order to_within));
                    noted = subst (λ n. new.txns ≡ all_noted (part (protects layout) o.start (take n w.trail))) (sym upto)
                        (noted
                        ∙ ap (λ (l : List Stamped). noted_since at old.txns l) new_entries
                        ∙ noted_more (λ i. concerned (plan_of layout) w.trail i) o.start at at to old.txns early (omega arith) order (o.noted ∙ ap (λ l. all_noted l) (part_listed layout w.trail o.start at early within))
                        ∙ ap (λ l. all_noted l) (sym (part_listed layout w.trail o.start to (at_most o.start at to early order) to_within)));
                  }

              over : AreOver layout w.trail (value_of new) new.volumes.items new.txns
              over = record {
                legal = serves.over.legal;
                sound = λ stops. subst (λ x. IsSound layout w.trail x) (sym (new_state stops))
                    (every_all (λ x. (x.volumes ≡ (state stops).volumes) × IsSound layout w.trail x) (state stops) (stored_parts stops) (refl, serves.over.sound stops) (every_part stops)).1;
                holds = holds;
                shown = λ i. subst (λ vs. IfSome (slice_get vs.items i) (λ volume. IsShown layout w.trail (state_of 0 new) i (rows_of volume) (restart_of volume))) (sym volumes)
                    (each (λ (volume : Volume D). IsShown layout w.trail (state 0) i (rows_of volume) (restart_of volume)) (λ volume. IsShown layout w.trail (state_of 0 new) i (rows_of volume) (restart_of volume)) (slice_get old.volumes.items i)
                    (λ volume h. shown_still layout w.trail (state 0) (state_of 0 new) i (rows_of volume) (restart_of volume) (not_taking (value_of old).phase points (still_if (value_of old).phase taken)) (sym kept_volumes) h) (serves.over.shown i));
                open_ones = opened;
              }

              serving : Serves files w.trail new
              serving = record {
                usable = record {
                  trails = in_use;
                  volume = subst (λ vs. (i : ℕ) → IfSome (slice_get vs.items i) (λ volume. InUse files volume)) (sym volumes) serves.usable.volume;
                };
                over = subst (λ l. AreOver l w.trail (value_of new) new.volumes.items new.txns) (sym laid) over;
              }

              pub copied_goes : (n : ℕ) → n ≡ lead_end - at → Goes files w copies (Number n) old new
              copied_goes n is = record {
                answers = λ stops. subst (λ (o : Option NoWhy). IsDone o (λ _. state stops) (backup_after layout w (state stops) copies) (backup_says layout w (state stops) copies) (Number n) (state_of stops new))
                    (sym (none_refuses stops))
                    (ap (λ m. let r : Reply = Number m in r) (is ∙ sym (ap (λ (x : State). x.received - at) lead_is)), new_state stops ∙ sym (ap (λ parts. after_all (state stops) parts) (copy_is stops)));
                laid = laid;
                serves = serving;
                stands = serving_stands files w.trail new serving;
              }

      -- the copy was not made
      pub not_copied_ends : OneValue → (fault : CopyFault) (r : Result Reply NodeFault) (new : Backup D d) → Serves files w.trail lead → layout_of lead ≡ layout_of old → r ≡ not_copied fault → new.volumes ≡ old.volumes → new.txns ≡ old.txns →
          IsPurgedRightly at (kept (value_of lead)) (Err fault) → (IsPurged (Err fault) → new.trails ≡ old.trails) →
          (IsBroken (Err fault) → Durably (files new.trails.disk) (StandsForOne block_of (plan_of layout) (copy_stages (plan_of layout) (value_of lead) (message_ends (value_of lead) (value_of old)) (value_of old)))) →
          (IsBroken (Err fault) → Durably (files new.trails.disk) (StandsHolding block_of (plan_of layout) (BothHold (plan_of layout) (value_of lead) (value_of old)))) → Ends files w copies r old new
      not_copied_ends one fault r new lead_serves same is volumes txns refusal purged err left = subst (λ (r : Result Reply NodeFault). Ends files w copies r old new) (sym is) (by_case fault refusal purged err left)
        where
          by_case : (f : CopyFault) → IsPurgedRightly at (kept (value_of lead)) (Err f) → (IsPurged (Err f) → new.trails ≡ old.trails) →
              (IsBroken (Err f) → Durably (files new.trails.disk) (StandsForOne block_of (plan_of layout) (copy_stages (plan_of layout) (value_of lead) (message_ends (value_of lead) (value_of old)) (value_of old)))) →
              (IsBroken (Err f) → Durably (files new.trails.disk) (StandsHolding block_of (plan_of layout) (BothHold (plan_of layout) (value_of lead) (value_of old)))) → Ends files w copies (not_copied f) old new
          by_case (copy.Purged told) h g e l = purged_goes told h.0 h.1 new (g tt) volumes txns
          by_case (copy.Log f) h g e l = copy_breaks h lead_serves same one new volumes (e tt) (l tt)

      -- memory was wanting before anything was called
      pub unread_breaks : kept (value_of lead) ≤ at → Serves files w.trail lead → layout_of lead ≡ layout_of old → Breaks files w copies old old
      unread_breaks joins lead_serves same = breaks joins lead_serves same old refl (λ stops c may. (
        value_of old,
        (
          trails_durably block_of old.trails.memory (files old.trails.disk) serves.usable.trails c may,
          serves.over.holds,
          partway_none (state stops) (stores_parts layout (ends (received (value_of lead) - at) at (received (value_of lead))) (state stops)) (value_of old) (tells_by stops (value_of old) old.volumes.items),
        ),
      ))
