-- How a delivery ends.
use Rattle.std.proofs.Common.{◌≡◌, ℕ, ◌<◌, ◌≤◌, max, nat_lt, Bool, true, not, List, [], length, take, map, Option, Some, None, IfSome, Result, Ok, Err, if◌then◌else◌, refl, sym, ap, ap₂, ◌∙◌, subst, arith}
use Rattle.std.proofs.lemmas.Bool.{lt-ltb, le-ltb}
use Rattle.std.specs.Prelude.{slice_get}
use Rattle.std.proofs.lemmas.List.{length-take}
use Rattle.rdf_types.specs.declared.layout.Layout.{Layout}
use Rattle.rdf_types.specs.declared.records.Node.{Node}
use Rattle.rdf_types.specs.declared.records.Phase.TheVariants as phase
use Rattle.rdf_types.specs.declared.records.Record.{Record}
use Rattle.rdf_types.specs.declared.records.Stamped.{Stamped}
use Rattle.rdf_disk.specs.Files.{Disk, Contents}
use Rattle.rdf_disk.specs.Outcomes.{Durably, MayAll}
use Rattle.rdf_disk.specs.declared.disk.Disk.{Ghosts}
use Rattle.rdf_model.specs.Window.{low, part, is_kept_image}
use Rattle.rdf_model.specs.Trail.{is_ended}
use Rattle.rdf_model.specs.LowLaws.{low_rises}
use Rattle.rdf_model.specs.LowLaws.{place_in}
use Rattle.rdf_codec.specs.declared.ships.Ship.{Ship}
use Rattle.rdf_codec.specs.Ships.{HasShipSpelling}
use Rattle.plan_lang.specs.declared.lines.Line.{Line}
use Rattle.plan_lang.specs.declared.lines.Line.TheVariants as line
use Rattle.open_txns.specs.Noted.{all_noted}
use Rattle.image_disks.specs.Spelled.{block_of}
use Rattle.image_disks.specs.Values.{Value, Shipment, Alike, received, stages, took}
use Rattle.image_disks.specs.Values.{stored as stored_value}
use Rattle.image_disks.specs.Standing.{StandsFor as StandsForValue, StandsForOne, OneValue}
use Rattle.image_disks.specs.Held.{Holds, IsPartOf, concerned}
use Rattle.image_trails.specs.Keeps.{StandsHolding}
use Rattle.image_trails.specs.Memory.{IsInUse, plan_of, shipment}
use Rattle.image_disks.specs.ValueLaws.{alike_sym}
use Rattle.image_disks.specs.BlockLaws.{rise_entries}
use Rattle.image_trails.specs.InUseLaws.{in_use_durably as trails_durably}
use Rattle.receiver.specs.Receiving.{Takes}
use Rattle.receiver.specs.declared.ReceiveFault.{ReceiveFault}
use Rattle.image_trails.specs.declared.trails.ImageTrails.{ImageTrails}
use Rattle.rdf_disk.specs.Counts.{Counts}
use Rattle.node_faults.specs.declared.NodeFault.{NodeFault}
use Rattle.rdf_volume.specs.declared.volume.Volume.{Volume}
use Rattle.rdf_volume.specs.Views.{rows_of, restart_of, InUse}
use Rattle.rdf_core.specs.declared.replies.NoWhy.{NoWhy}
use Rattle.rdf_core.specs.declared.replies.NoWhy.TheVariants as no
use Rattle.rdf_core.specs.declared.replies.Reply.{Reply}
use Rattle.rdf_core.specs.declared.replies.Reply.TheVariants.{No, Number}
use Rattle.rdf_core.specs.Effects.{IsDone, when, after_all, parts_unless}
use Rattle.rdf_core.specs.Layouts.{protects}
use Rattle.rdf_core.specs.Backup.{Backup as State, Around, Volumes, Running, stored, store_parts, deliver_parts, phase_of, deliver_refusal, backup_refusal, backup_after, backup_says}
use Rattle.rdf_core.specs.Sound.{IsSound}
use Rattle.rdf_core.specs.PartLaws.{Every, every_all}
use Rattle.rdf_core.specs.SoundLaws.{sound_store}
use Rattle.rdf_backup.specs.declared.backup.Backup.{Backup}
use Rattle.rdf_backup.specs.Parts.{noted_since}
use Rattle.rdf_backup.specs.Standing.{IsValueOf, IsShown}
use Rattle.rdf_backup.specs.States.{volumes_by, state_by, state_of, layout_of, value_of, AreOpen, AreOver, Serves}
use Rattle.rdf_backup.specs.Replies.{Brings, HasMoved, parts_of, BreaksTrails, Breaks, Goes, Ends}
use Rattle.rdf_backup.proofs.RefusalLaws.{delivery_is}
use Rattle.rdf_backup.proofs.PartLaws.{ship_listed, noted_more}
use Rattle.rdf_backup.proofs.Listed.{part_listed}
use Rattle.rdf_backup.specs.StandingLaws.{phase_by, tells_by, serving_stands}
use Rattle.rdf_backup.proofs.ServingLaws.{shown_running, serves_same, state_same}
use Rattle.rdf_backup.proofs.Storing.{tells_alike, partway_alike, partway_none, partway_all, IsPartway, begun, after_store, none_parts, stored_tells, stage_of, stored_stays, parts_keep}
use Rattle.rdf_backup.proofs.Breaking.{Reached, broken_off}

abbrev made : Bool → ℕ → List ℕ → ℕ → Volumes → ℕ → State
made u r ss n vs k = record { up = u; received = r; starts = ss; number = n; volumes = vs; stops = k }

-- a state by its parts
pub state_from : {D : Type 0} (x : State) (stops : ℕ) (v : Value) (volumes : List (Volume D)) → x.up ≡ true → x.stops ≡ stops → x.volumes ≡ volumes_by v.phase (map (λ volume. restart_of volume) volumes) → IsValueOf x v → state_by stops v volumes ≡ x
state_from x stops v volumes up same shown h =
    ap (λ u. made u (received v) v.starts v.last (volumes_by v.phase (map (λ volume. restart_of volume) volumes)) stops) (sym up)
    ∙ ap (λ r. made x.up r v.starts v.last (volumes_by v.phase (map (λ volume. restart_of volume) volumes)) stops) h.received_is
    ∙ ap (λ ss. made x.up x.received ss v.last (volumes_by v.phase (map (λ volume. restart_of volume) volumes)) stops) h.starts_are
    ∙ ap (λ n. made x.up x.received x.starts n (volumes_by v.phase (map (λ volume. restart_of volume) volumes)) stops) h.number_is
    ∙ ap (λ vs. made x.up x.received x.starts x.number vs stops) (sym shown)
    ∙ ap (λ k. made x.up x.received x.starts x.number x.volumes k) (sym same)

-- what is new in a shipment moves the image trails to its end, and leaves their phase
pub has_moved : (D : Type 0) (layout : Layout) (ship : Shipment) (v new : Value) → received v < ship.to → Alike new (took (plan_of layout) ship v) → HasMoved ship.to v new
has_moved D layout ship v new more value = record {
  received_is = told.received_is;
  phase_is = told.phase_is ∙ ap (λ vs. phase_of vs) (stored_stays layout ship b).volumes ∙ sym (phase_by v.phase []);
}
  where
    b : State
    b = state_by 0 v (let none : List (Volume D) = [] in none)

    behind : nat_lt (received v) ship.to ≡ true
    behind = lt-ltb (received v) ship.to more

    alike : Alike (stored_value (plan_of layout) ship v) new
    alike = alike_sym new (stored_value (plan_of layout) ship v) (subst (λ c. Alike new (if c then stored_value (plan_of layout) ship v else v)) behind value)

    told : IsValueOf (stored ship.to (begun layout ship b)) new
    told = subst (λ x. IsValueOf x new) (after_store layout ship b behind) (tells_alike (after_all b (store_parts layout ship.to b)) (stored_value (plan_of layout) ship v) new alike (stored_tells layout ship b v (tells_by 0 v (let none : List (Volume D) = [] in none)) behind))

module _ {D : Type 0} {d : Ghosts D} (files : D → Disk) (w : Around) (node : Node) (k : ℕ) (old : Backup D d) (serves : Serves files w.trail old) where
  abbrev points : List ℕ
  points = map (λ volume. restart_of volume) old.volumes.items

  -- a refused line changes nothing
  pub refused_goes : (l : Line) (new : Backup D d) (why : NoWhy) → ((stops : ℕ) → backup_refusal (layout_of old) w (state_of stops old) l ≡ Some why) →
      new.trails ≡ old.trails → new.volumes ≡ old.volumes → new.txns ≡ old.txns → Goes files w l (No why) old new
  refused_goes l new why is trails volumes txns = record {
    answers = λ stops. subst (λ (o : Option NoWhy). IsDone o (λ _. state_of stops old) (backup_after (layout_of old) w (state_of stops old) l) (backup_says (layout_of old) w (state_of stops old) l) (No why) (state_of stops new))
        (sym (is stops)) (refl, state_same files w.trail old new trails volumes txns stops);
    laid = ap (λ t. t.memory.layout) trails;
    serves = serves_same files w.trail old new trails volumes txns serves;
    stands = serving_stands files w.trail new (serves_same files w.trail old new trails volumes txns serves);
  }

  pub kept_out : (ship : Ship) → Brings (layout_of old) w ship → (why : NoWhy) → ((stops : ℕ) → deliver_refusal (state_of stops old) (Some (ship.from, ship.to)) ≡ Some why) → Goes files w (line.Deliver node k) (No why) old old
  kept_out ship brings why is = refused_goes (line.Deliver node k) old why (λ stops. ap (λ m. deliver_refusal (state_of stops old) m) brings.range ∙ is stops) refl refl refl

  -- a fault of the node
  pub faulted : (r : Result Reply NodeFault) (fault : NodeFault) (new : Backup D d) → r ≡ Err fault → Breaks files w (line.Deliver node k) old new → Ends files w (line.Deliver node k) r old new
  faulted r fault new is h = subst (λ (r : Result Reply NodeFault). Ends files w (line.Deliver node k) r old new) (sym is) h

  module _ (ship : Ship) (spelled : HasShipSpelling ship) (brings : Brings (layout_of old) w ship) (running : (value_of old).phase ≡ phase.Running) where
    abbrev v : Value
    v = value_of old

    abbrev after : ℕ → State
    after stops = after_all (state_of stops old) (deliver_parts (layout_of old) w.message (state_of stops old))

    runs : volumes_by v.phase points ≡ Running points
    runs = ap (λ p. volumes_by p points) running

    -- in Running only a gap is refused
    refusal_is : (stops : ℕ) → backup_refusal (layout_of old) w (state_of stops old) (line.Deliver node k) ≡ when (nat_lt (received v) ship.from) (no.Gap (received v))
    refusal_is stops =
        ap (λ m. deliver_refusal (state_of stops old) m) brings.range ∙ delivery_is old stops ship.from ship.to running

    none_refuses : ship.from ≤ received v → (stops : ℕ) → backup_refusal (layout_of old) w (state_of stops old) (line.Deliver node k) ≡ None
    none_refuses joins stops = refusal_is stops ∙ ap (λ c. when c (no.Gap (received v))) (le-ltb (received v) ship.from joins)

    -- what is delivered is what is stored
    after_is : (stops : ℕ) → after stops ≡ after_all (state_of stops old) (store_parts (layout_of old) ship.to (state_of stops old))
    after_is stops = ap (λ m. after_all (state_of stops old) (deliver_parts (layout_of old) m (state_of stops old))) brings.range

    parts_are : ship.from ≤ received v → (stops : ℕ) → parts_of (layout_of old) w (state_of stops old) (line.Deliver node k) ≡ store_parts (layout_of old) ship.to (state_of stops old)
    parts_are joins stops = ap₂ (λ (o : Option NoWhy) (m : Option (ℕ × ℕ)). parts_unless o (deliver_parts (layout_of old) m (state_of stops old))) (none_refuses joins stops) brings.range

    every_unless : (P : State → Type 0) (o : Option NoWhy) (parts : List State) → Every P parts → Every P (parts_unless o parts)
    every_unless P None parts h = h
    every_unless P (Some why) parts h = tt

    keep : (stops : ℕ) → Every (λ x. (x.volumes ≡ (state_of stops old).volumes) × IsSound (layout_of old) w.trail x) (parts_of (layout_of old) w (state_of stops old) (line.Deliver node k))
    keep stops = every_unless (λ x. (x.volumes ≡ (state_of stops old).volumes) × IsSound (layout_of old) w.trail x) (backup_refusal (layout_of old) w (state_of stops old) (line.Deliver node k)) (deliver_parts (layout_of old) w.message (state_of stops old))
        (subst (λ m. Every (λ x. (x.volumes ≡ (state_of stops old).volumes) × IsSound (layout_of old) w.trail x) (deliver_parts (layout_of old) m (state_of stops old))) (sym brings.range)
        (parts_keep (layout_of old) (shipment ship) (state_of stops old) w.trail brings.part.long (serves.over.sound stops)))

    -- it ends by a fault, where the contents of disk 0 tell some first ones of the parts
    breaks : ship.from ≤ received v → (disk : D) → ((stops : ℕ) (c : Contents) → MayAll (files disk) c → Reached (layout_of old) w.trail (state_of stops old) (parts_of (layout_of old) w (state_of stops old) (line.Deliver node k)) c) →
        BreaksTrails files w (line.Deliver node k) old disk
    breaks joins disk reached = broken_off files w (line.Deliver node k) old disk (none_refuses joins) keep reached

    -- nothing was stored
    pub unread_breaks : ship.from ≤ received v → BreaksTrails files w (line.Deliver node k) old old.trails.disk
    unread_breaks joins = breaks joins old.trails.disk (λ stops c may. (
      v,
      (
        trails_durably block_of old.trails.memory (files old.trails.disk) serves.usable.trails c may,
        serves.over.holds,
        partway_none (state_of stops old) (parts_of (layout_of old) w (state_of stops old) (line.Deliver node k)) v (tells_by stops v old.volumes.items),
      ),
    ))

    -- nothing of it is new
    pub known_goes : (told : ℕ) → ship.to ≤ received v → told ≡ received v → Goes files w (line.Deliver node k) (Number told) old old
    known_goes told old_news is = record {
      answers = λ stops. subst (λ (o : Option NoWhy). IsDone o (λ _. state_of stops old) (after stops) (λ reply. reply ≡ Number (after stops).received) (Number told) (state_of stops old))
          (sym (none_refuses (omega (arith, old_news, spelled.some)) stops))
          (ap (λ n. let r : Reply = Number n in r) (is ∙ ap (λ (x : State). x.received) (sym (same stops))), sym (same stops));
      laid = refl;
      serves = serves;
      stands = serving_stands files w.trail old serves;
    }
      where
        same : (stops : ℕ) → after stops ≡ state_of stops old
        same stops = after_is stops ∙ ap (λ parts. after_all (state_of stops old) parts) (none_parts (layout_of old) (shipment ship) (state_of stops old) (le-ltb (received v) ship.to old_news))

    module _ (joins : ship.from ≤ received v) (more : received v < ship.to) where
      behind : nat_lt (received v) ship.to ≡ true
      behind = lt-ltb (received v) ship.to more

      -- the store ended by a fault
      pub store_breaks : OneValue → (disk : D) → Durably (files disk) (StandsForOne block_of (plan_of (layout_of old)) (stages (plan_of (layout_of old)) (shipment ship) v)) →
          Durably (files disk) (StandsHolding block_of (plan_of (layout_of old)) (λ records. IsPartOf (plan_of (layout_of old)) records (shipment ship) × Holds (plan_of (layout_of old)) records v)) → BreaksTrails files w (line.Deliver node k) old disk
      store_breaks one disk err left = breaks joins disk (λ stops c may.
          let staged = stage_of (layout_of old) (shipment ship) (state_of stops old) v c (tells_by stops v old.volumes.items) behind (err c may) in
          let held = left c may in
          let same = one block_of (plan_of (layout_of old)) staged.0 held.0 c refl staged.1.0 held.1 in (
            held.0,
            (
              held.1,
              held.2 w.trail (brings.part, serves.over.holds),
              subst (λ parts. IsPartway (state_of stops old) parts held.0) (sym (parts_are joins stops)) (partway_alike (state_of stops old) (store_parts (layout_of old) ship.to (state_of stops old)) staged.0 held.0 same staged.1.1),
            ),
          ))

      module _ (new : Backup D d) (laid : layout_of new ≡ layout_of old) (in_use : IsInUse block_of new.trails.memory (files new.trails.disk)) (value : Alike (value_of new) (took (plan_of (layout_of old)) (shipment ship) v))
          (held : (records : List Record) → IsPartOf (plan_of (layout_of old)) records (shipment ship) × Holds (plan_of (layout_of old)) records v → Holds (plan_of (layout_of old)) records (value_of new)) (volumes : new.volumes ≡ old.volumes) where
        alike : Alike (stored_value (plan_of (layout_of old)) (shipment ship) v) (value_of new)
        alike = alike_sym (value_of new) (stored_value (plan_of (layout_of old)) (shipment ship) v) (subst (λ c. Alike (value_of new) (if c then stored_value (plan_of (layout_of old)) (shipment ship) v else v)) behind value)

        tells : (stops : ℕ) → IsValueOf (after_all (state_of stops old) (store_parts (layout_of old) ship.to (state_of stops old))) (value_of new)
        tells stops = tells_alike (after_all (state_of stops old) (store_parts (layout_of old) ship.to (state_of stops old))) (stored_value (plan_of (layout_of old)) (shipment ship) v) (value_of new) alike
            (stored_tells (layout_of old) (shipment ship) (state_of stops old) v (tells_by stops v old.volumes.items) behind)

        -- all of it was stored, but memory was wanting for its notes
        pub stored_breaks : BreaksTrails files w (line.Deliver node k) old new.trails.disk
        stored_breaks = breaks joins new.trails.disk (λ stops c may. (
          value_of new,
          (
            subst (λ (l : Layout). StandsForValue block_of (plan_of l) (value_of new) c) laid (trails_durably block_of new.trails.memory (files new.trails.disk) in_use c may),
            held w.trail (brings.part, serves.over.holds),
            subst (λ parts. IsPartway (state_of stops old) parts (value_of new)) (sym (parts_are joins stops)) (partway_all (state_of stops old) (store_parts (layout_of old) ship.to (state_of stops old)) (value_of new) (tells stops)),
          ),
        ))

        stored_is : (stops : ℕ) → after_all (state_of stops old) (store_parts (layout_of old) ship.to (state_of stops old)) ≡ stored ship.to (begun (layout_of old) (shipment ship) (state_of stops old))
        stored_is stops = after_store (layout_of old) (shipment ship) (state_of stops old) behind

        told : (stops : ℕ) → IsValueOf (stored ship.to (begun (layout_of old) (shipment ship) (state_of stops old))) (value_of new)
        told stops = subst (λ x. IsValueOf x (value_of new)) (stored_is stops) (tells stops)

        new_received : received (value_of new) ≡ ship.to
        new_received = (told 0).received_is

        new_phase : (value_of new).phase ≡ v.phase
        new_phase = (told 0).phase_is ∙ ap (λ vs. phase_of vs) (stored_stays (layout_of old) (shipment ship) (state_of 0 old)).volumes ∙ sym (phase_by v.phase points)

        kept : volumes_by v.phase points ≡ volumes_by (value_of new).phase (map (λ volume. restart_of volume) new.volumes.items)
        kept = ap₂ (λ p (vs : List (Volume D)). volumes_by p (map (λ volume. restart_of volume) vs)) (sym new_phase) (ap (λ vs. vs.items) (sym volumes))

        -- the state that the store leaves
        new_state : (stops : ℕ) → state_of stops new ≡ after_all (state_of stops old) (store_parts (layout_of old) ship.to (state_of stops old))
        new_state stops =
            let stays = stored_stays (layout_of old) (shipment ship) (state_of stops old) in
            state_from (stored ship.to (begun (layout_of old) (shipment ship) (state_of stops old))) stops (value_of new) new.volumes.items stays.up stays.stops (stays.volumes ∙ kept) (told stops) ∙ sym (stored_is stops)

        -- the open transactions after the notes
        opened : new.txns ≡ noted_since (received v) old.txns ship.part → AreOpen (layout_of old) w.trail (received (value_of new)) new.txns
        opened noted =
            let o = serves.over.open_ones in
            let early = start_within o.start o.early in
            let within = (serves.over.sound 0).within in
            record {
              start = o.start;
              early = subst (λ n. o.start ≤ low (protects (layout_of old)) (take n w.trail)) (sym new_received) (at_most o.start (low (protects (layout_of old)) (take (received v) w.trail)) (low (protects (layout_of old)) (take ship.to w.trail)) o.early
                  (low_rises (protects (layout_of old)) w.trail (received v) ship.to (omega (arith, more)) brings.part.long));
              noted = subst (λ n. new.txns ≡ all_noted (part (protects (layout_of old)) o.start (take n w.trail))) (sym new_received)
                  (noted
                  ∙ ap (λ (l : List Stamped). noted_since (received v) old.txns l) (ship_listed (layout_of old) w.trail (shipment ship) (omega (arith, spelled.some)) brings.part (rise_entries ship.from ship.to ship.part spelled.rise))
                  ∙ noted_more (λ i. concerned (plan_of (layout_of old)) w.trail i) o.start (received v) ship.from ship.to old.txns early joins (omega (arith, more)) (o.noted ∙ ap (λ l. all_noted l) (part_listed (layout_of old) w.trail o.start (received v) early within))
                  ∙ ap (λ l. all_noted l) (sym (part_listed (layout_of old) w.trail o.start ship.to (omega (arith, early, more)) brings.part.long)));
            }
          where
            at_most : (a b c : ℕ) → a ≤ b → b ≤ c → a ≤ c
            at_most a b c h g = omega (arith, h, g)

            below : (a b c e : ℕ) → a ≤ b → b ≤ c → c ≤ e → a ≤ e
            below a b c e h g i = omega (arith, h, g, i)

            start_within : (start : ℕ) → start ≤ low (protects (layout_of old)) (take (received v) w.trail) → start ≤ received v
            start_within start h = below start (low (protects (layout_of old)) (take (received v) w.trail)) (length (take (received v) w.trail)) (received v) h
                (place_in (is_kept_image (protects (layout_of old)) (λ t. not (is_ended t (take (received v) w.trail)))) (take (received v) w.trail)) (omega (arith, length-take (received v) w.trail))

        over : new.txns ≡ noted_since (received v) old.txns ship.part → AreOver (layout_of old) w.trail (value_of new) new.volumes.items new.txns
        over noted = record {
          legal = serves.over.legal;
          sound = λ stops. subst (λ x. IsSound (layout_of old) w.trail x) (sym (new_state stops))
              (every_all (IsSound (layout_of old) w.trail) (state_of stops old) (store_parts (layout_of old) ship.to (state_of stops old)) (serves.over.sound stops)
              (sound_store (layout_of old) w.trail (state_of stops old) ship.to brings.part.long (serves.over.sound stops)));
          holds = held w.trail (brings.part, serves.over.holds);
          shown = λ i. subst (λ vs. IfSome (slice_get vs.items i) (λ volume. IsShown (layout_of old) w.trail (state_of 0 new) i (rows_of volume) (restart_of volume))) (sym volumes)
              (each (λ volume. IsShown (layout_of old) w.trail (state_of 0 old) i (rows_of volume) (restart_of volume)) (λ volume. IsShown (layout_of old) w.trail (state_of 0 new) i (rows_of volume) (restart_of volume)) (slice_get old.volumes.items i)
              (λ volume h. shown_running (layout_of old) w.trail (state_of 0 old) (state_of 0 new) points i (rows_of volume) (restart_of volume) runs (sym kept ∙ runs) h) (serves.over.shown i));
          open_ones = opened noted;
        }
          where
            each : (P Q : Volume D → Type 0) (o : Option (Volume D)) → ((x : Volume D) → P x → Q x) → IfSome o P → IfSome o Q
            each P Q None f h = tt
            each P Q (Some x) f h = f x h

        -- all of it is stored and noted
        pub stored_goes : (n : ℕ) → n ≡ max (received v) ship.to → new.txns ≡ noted_since (received v) old.txns ship.part → Goes files w (line.Deliver node k) (Number n) old new
        stored_goes n is noted = record {
          answers = λ stops. subst (λ (o : Option NoWhy). IsDone o (λ _. state_of stops old) (after stops) (λ reply. reply ≡ Number (after stops).received) (Number n) (state_of stops new))
              (sym (none_refuses joins stops))
              (ap (λ m. let r : Reply = Number m in r) (is ∙ greater ∙ sym (ap (λ (x : State). x.received) (after_is stops ∙ stored_is stops))), new_state stops ∙ sym (after_is stops));
          laid = laid;
          serves = serving;
          stands = serving_stands files w.trail new serving;
        }
          where
            greater : max (received v) ship.to ≡ ship.to
            greater = omega (arith, more)

            serving : Serves files w.trail new
            serving = record {
              usable = record {
                trails = in_use;
                volume = subst (λ vs. (i : ℕ) → IfSome (slice_get vs.items i) (λ volume. InUse files volume)) (sym volumes) serves.usable.volume;
              };
              over = subst (λ l. AreOver l w.trail (value_of new) new.volumes.items new.txns) (sym laid) (over noted);
            }

    -- what the receiver makes of the image trails, and then the notes
    module _ (joins : ship.from ≤ received v) (more : received v < ship.to) {T : Type 0} (tells : T) (counts : D → Counts) where
      -- a backup with other image trails of its layout
      abbrev with_trails : (t : ImageTrails D) → t.memory.layout ≡ layout_of old → Backup D d
      with_trails t laid = record old { trails = t; sized = old.sized ∙ sym (ap (λ l. l.volumes) laid) }

      pub unnoted_ends : (n : ℕ) (t : ImageTrails D) → Takes T files counts (shipment ship) old.trails (Ok n) t → BreaksTrails files w (line.Deliver node k) old t.disk
      unnoted_ends n t takes = stored_breaks joins more (with_trails t takes.layout) takes.layout (takes.ok tells) (takes.value tells) (takes.held tells) refl

      pub unstored_ends : OneValue → (fault : ReceiveFault) (t : ImageTrails D) → Takes T files counts (shipment ship) old.trails (Err fault) t → BreaksTrails files w (line.Deliver node k) old t.disk
      unstored_ends one fault t takes = store_breaks joins more one t.disk (takes.err tells) (takes.left tells)

      pub noted_goes : (n : ℕ) (t : ImageTrails D) → Takes T files counts (shipment ship) old.trails (Ok n) t → (txns : List (ℕ × ℕ)) → txns ≡ noted_since (received v) old.txns ship.part →
          (new : Backup D d) → new.trails ≡ t → new.txns ≡ txns → new.volumes ≡ old.volumes → Goes files w (line.Deliver node k) (Number n) old new
      noted_goes n t takes txns noted new trails_are txns_are volumes =
          let now = subst (λ x. Takes T files counts (shipment ship) old.trails (Ok n) x) (sym trails_are) takes in
          stored_goes joins more new now.layout (now.ok tells) (now.value tells) (now.held tells) volumes n now.answer (txns_are ∙ noted)
