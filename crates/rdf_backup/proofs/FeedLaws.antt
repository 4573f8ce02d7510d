-- A delivery in a session: what is stored, and what the updaters are then fed.
use Rattle.std.proofs.Common.{◌≡◌, ℕ, zero, suc, ◌+◌, ◌-◌, ◌<◌, ◌≤◌, max, nat_le, if◌then◌else◌, Bool, List, [], ◌∷◌, ◌++◌, length, take, Option, Some, None, IfSome, Ok, refl, sym, ap, ap₂, ◌∙◌, subst, arith}
use Rattle.std.specs.Prelude.{slice_get}
use Rattle.std.specs.Borrow.{MutBor}
use Rattle.std.specs.declared.snapshot.Snapshot.{Snapshot}
use Rattle.std.proofs.lemmas.Bool.{lt-leb, le-leb}
use Rattle.std.proofs.lemmas.List.Elements.{filter-append}
use Rattle.rdf_types.specs.declared.layout.Layout.{Layout}
use Rattle.rdf_types.specs.declared.records.Node.{Node}
use Rattle.rdf_types.specs.declared.records.Record.{Record}
use Rattle.rdf_types.specs.declared.records.Stamped.{Stamped}
use Rattle.rdf_types.specs.Entries.{Rises, since}
use Rattle.rdf_types.specs.EntryLaws.{rises_append}
use Rattle.rdf_disk.specs.Files.{Disk}
use Rattle.rdf_disk.specs.Counts.{Counts}
use Rattle.rdf_disk.specs.declared.disk.Disk.{Ghosts}
use Rattle.rdf_model.specs.Window.{part}
use Rattle.rdf_codec.specs.declared.ships.Ship.{Ship}
use Rattle.rdf_codec.specs.Ships.{HasShipSpelling}
use Rattle.plan_lang.specs.declared.lines.Line.TheVariants as line
use Rattle.image_disks.specs.Values.{received, at_pos, listed}
use Rattle.image_disks.specs.Held.{IsPartOf, concerned}
use Rattle.image_disks.specs.ListLaws.{listed_split}
use Rattle.image_disks.specs.BlockLaws.{rise_entries}
use Rattle.image_trails.specs.declared.trails.ImageTrails.{ImageTrails}
use Rattle.image_trails.specs.Memory.{plan_of, shipment}
use Rattle.image_trails.specs.Trails.{trails_layout, trails_value, trails_disk, AreInUse}
use Rattle.node_faults.specs.declared.NodeFault.{NodeFault}
use Rattle.volume_sessions.specs.Shown.{Shown, with_back, with_published}
use Rattle.rdf_volume.specs.declared.volume.Volume.{Volume}
use Rattle.rdf_volume.specs.Views.{disk_of, InUse}
use Rattle.rdf_core.specs.declared.replies.Reply.TheVariants.{Number}
use Rattle.rdf_core.specs.Layouts.{protects}
use Rattle.rdf_core.specs.Backup.{Around}
use Rattle.rdf_backup.specs.declared.backup.Backup.{Backup}
use Rattle.rdf_backup.specs.declared.session.Session.{Session}
use Rattle.rdf_backup.specs.declared.session.Met.{Met}
use Rattle.rdf_backup.specs.States.{layout_of, value_of, MayUse}
use Rattle.rdf_backup.specs.Replies.{IfBoth, Brings, HasMoved, EndsTrails, EndsTrails}
use Rattle.rdf_backup.specs.Raised.{AreBehind}
use Rattle.rdf_backup.specs.Sessions.{trails_by, shown_in, open_of, with_watch, IsFed, MayGoOn, KeepsSession, EndsOpen}
use Rattle.rdf_backup.proofs.Listed.{part_listed}
use Rattle.rdf_backup.proofs.PartLaws.{ship_listed}
use Rattle.rdf_backup.proofs.OpenLaws.{by_own, same_counts, keeps_done}

-- ---- a longer part of a trail

-- no entry stands so low, and all stand so high
since_low : (f : ℕ → Option Record) (at a m : ℕ) → a + m ≤ at → since at (listed f a m) ≡ []
since_low f at a zero few = refl
since_low f at a (suc m) few = first (f a) ∙ since_low f at (a + 1) m (omega (arith, few))
  where
    first : (x : Option Record) → since at (at_pos a x (listed f (a + 1) m)) ≡ since at (listed f (a + 1) m)
    first None = refl
    first (Some r) = ap (λ (b : Bool). if b then record { pos = a; rec = r } ∷ since at (listed f (a + 1) m) else since at (listed f (a + 1) m)) (lt-leb at a (omega (arith, few)))

since_high : (f : ℕ → Option Record) (at a n : ℕ) → at ≤ a → since at (listed f a n) ≡ listed f a n
since_high f at a zero h = refl
since_high f at a (suc n) h = first (f a) ∙ ap (λ l. at_pos a (f a) l) (since_high f at (a + 1) n (omega (arith, h)))
  where
    first : (x : Option Record) → since at (at_pos a x (listed f (a + 1) n)) ≡ at_pos a x (since at (listed f (a + 1) n))
    first None = refl
    first (Some r) = ap (λ (b : Bool). if b then record { pos = a; rec = r } ∷ since at (listed f (a + 1) n) else since at (listed f (a + 1) n)) (le-leb at a h)

since_split : (f : ℕ → Option Record) (from at to : ℕ) → from ≤ at → at ≤ to → since at (listed f from (to - from)) ≡ listed f at (to - at)
since_split f from at to joins order =
    ap (λ l. since at l) (listed_split f from at to joins order)
    ∙ filter-append (λ (s : Stamped). nat_le at s.pos) (listed f from (at - from)) (listed f at (to - at))
    ∙ ap₂ (λ (x y : List Stamped). x ++ y) (since_low f at from (at - from) (omega (arith, joins))) (since_high f at at (to - at) (omega arith))

-- the part up to a position, and then what is new in a shipment that joins
pub longer_part : (layout : Layout) (trail : List Record) (ship : Ship) → HasShipSpelling ship → IsPartOf (plan_of layout) trail (shipment ship) → (start at : ℕ) → start ≤ at → ship.from ≤ at → at ≤ ship.to → (entries : List Stamped) →
    entries ≡ part (protects layout) start (take at trail) → entries ++ since at ship.part ≡ part (protects layout) start (take ship.to trail)
longer_part layout trail ship spelled brings start at early joins order entries is =
    ap₂ (λ (x y : List Stamped). x ++ y) (is ∙ part_listed layout trail start at early below)
    (ap (λ l. since at l) (ship_listed layout trail (shipment ship) (omega (arith, spelled.some)) brings (rise_entries ship.from ship.to ship.part spelled.rise)) ∙ since_split f ship.from at ship.to joins order)
    ∙ sym (listed_split f start at ship.to early order) ∙ sym (part_listed layout trail start ship.to (omega (arith, early, order)) brings.long)
  where
    f : ℕ → Option Record
    f i = concerned (plan_of layout) trail i

    below : at ≤ length trail
    below = omega (arith, order, brings.long)

-- ---- stored, noted and published

module _ {D : Type 0} {d : Ghosts D} (tells : Type 0) (files : D → Disk) (counts : D → Counts) (s : Session D d) (goes : MayGoOn tells files (with_watch s (with_back s.watch))) (unmet : s.met ≡ None) (ship : Ship)
    (joins : ship.from ≤ received (trails_value s.trails.now)) (more : received (trails_value s.trails.now) < ship.to)
    (a : Snapshot (ImageTrails D)) (b : Snapshot (List (ℕ × ℕ))) (end : ℕ) (trails : MutBor (ImageTrails D)) (txns : MutBor (List (ℕ × ℕ)))
    (a_is : a.value ≡ trails.now) (b_is : b.value ≡ txns.now) (end_is : end ≡ max ship.to s.end) (laid : trails_layout trails.now ≡ trails_layout s.trails.now)
    (new_part : List Stamped) (rises : Rises s.end new_part (max ship.to s.end)) (watch : Shown D) (published : watch ≡ with_published s.watch new_part end) where
  abbrev old : Backup D d
  old = shown_in s

  abbrev next : Session D d
  next = record s { trails_shown = a; txns_shown = b; watch = watch; end = end; trails = trails; txns = txns }

  old_trails : s.trails.now ≡ old.trails
  old_trails = goes.trails_are unmet

  abbrev layout : Layout
  layout = layout_of old

  new_trails : (shown_in next).trails ≡ trails.now
  new_trails = ap (λ t. trails_by layout t) a_is ∙ sym (by_own layout trails.now (laid ∙ ap (λ t. trails_layout t) old_trails))

  same_volumes : (shown_in next).volumes ≡ old.volumes
  same_volumes = ap (λ (x : Shown D). (shown_in (record s { watch = x })).volumes) published

  received_old : received (trails_value s.trails.now) ≡ received (value_of old)
  received_old = ap (λ t. received (trails_value t)) old_trails

  module _ (ok : tells → AreInUse files trails.now) (moved : tells → HasMoved ship.to (trails_value s.trails.now) (trails_value trails.now)) where
    usable : tells → MayUse files (shown_in next)
    usable t = record {
      trails = subst (λ x. AreInUse files x) (sym new_trails) (ok t);
      volume = subst (λ vs. (v : ℕ) → IfSome (slice_get vs.items v) (λ volume. InUse files volume)) (sym same_volumes) (goes.going.usable t).volume;
    }

    received_new : tells → received (value_of (shown_in next)) ≡ ship.to
    received_new t = ap (λ x. received (trails_value x)) new_trails ∙ (moved t).received_is

    at_end : tells → end ≡ ship.to
    at_end t = omega (arith, end_is, goes.end_is t, received_old, more)

    pub goes_fed : MayGoOn tells files next
    goes_fed = subst (λ (x : Shown D). (tells → MayUse files (shown_in (record next { watch = x }))) → MayGoOn tells files (record next { watch = x })) (sym published) (λ use_. record {
      going = record {
        usable = use_;
        running = λ t. ap (λ x. (trails_value x).phase) new_trails ∙ (moved t).phase_is ∙ ap (λ x. (trails_value x).phase) old_trails ∙ goes.going.running t;
        disk_is = λ none. ap (λ x. trails_disk x) (sym new_trails);
      };
      unlent = refl;
      rises = rises_append s.watch.start s.watch.entries s.watch.end new_part end goes.rises (subst (λ n. Rises s.watch.end new_part n) (sym end_is) (subst (λ n. Rises n new_part (max ship.to s.end)) (sym goes.upto) rises));
      end_is = λ t. at_end t ∙ sym (received_new t);
      upto = refl;
      laid = laid ∙ goes.laid;
      flags_are = goes.flags_are;
      parted = goes.parted;
      trails_are = λ none. sym new_trails;
      txns_are = λ none. sym b_is;
    }) usable

    abbrev Same : Volume D → Volume D → Type 0
    Same x y = counts (disk_of y) ≡ counts (disk_of x)

    counts_so : (first : List (Volume D)) → ((v : ℕ) → IfBoth Same (slice_get first v) (slice_get old.volumes.items v)) → (v : ℕ) → IfBoth Same (slice_get first v) (slice_get (shown_in next).volumes.items v)
    counts_so first h = subst (λ vs. (v : ℕ) → IfBoth Same (slice_get first v) (slice_get vs.items v)) (sym same_volumes) h

    pub keeps_fed : (meets : NodeFault → Met) (n : ℕ) → counts (trails_disk trails.now) ≡ counts (trails_disk s.trails.now) → (trails_value trails.now).phase ≡ (trails_value s.trails.now).phase → KeepsSession tells files counts meets (Ok (Number n)) (open_of s) (open_of next)
    keeps_fed meets n same phase_is = keeps_done tells files counts meets (Number n) (open_of s) (open_of next) unmet unmet (λ node e. cc) (λ why e. cc) usable refl (ap (λ x. trails_disk x) old_trails) (ap (λ x. trails_disk x) (sym new_trails)) same
        (counts_so old.volumes.items (same_counts counts old.volumes.items)) counts_so (ap (λ x. (trails_value x).phase) new_trails ∙ phase_is ∙ ap (λ x. (trails_value x).phase) old_trails)

    pub ends_fed : HasShipSpelling ship → new_part ≡ since s.end ship.part → (w : Around) (node : Node) (k n : ℕ) → (t : tells) → Brings layout w ship → EndsTrails files w (line.Deliver node k) (Ok n) old trails.now txns.now →
        EndsOpen files w (line.Deliver node k) (Ok (Number n)) (open_of s) (open_of next)
    ends_fed spelled part_is w node k n t brings ends = (ends (shown_in next) new_trails b_is same_volumes, fed)
      where
        at_old : s.end ≡ received (value_of old)
        at_old = goes.end_is t

        fed : IsFed w.trail (open_of s) → IsFed w.trail (open_of next)
        fed f = record {
          behind = subst (λ r. AreBehind layout w.trail r watch.entries (shown_in next).volumes.items) (sym (received_new t))
              (subst (λ vs. AreBehind layout w.trail ship.to watch.entries vs.items) (sym same_volumes)
              (record { start = f.start; entries_are = ap (λ (x : Shown D). x.entries) published ∙ ap (λ l. s.watch.entries ++ l) part_is ∙ longer s.end at_old; early = f.early }));
          within = omega (arith, f.within, received_new t, received_old, more);
        }
          where
            longer : (at : ℕ) → at ≡ received (value_of old) → s.watch.entries ++ since at ship.part ≡ part (protects layout) f.start (take ship.to w.trail)
            longer at is = longer_part layout w.trail ship spelled brings.part f.start at (omega (arith, f.within, is)) (omega (arith, joins, received_old, is)) (omega (arith, more, received_old, is)) s.watch.entries
                (f.entries_are ∙ ap (λ n. part (protects layout) f.start (take n w.trail)) (sym is))
