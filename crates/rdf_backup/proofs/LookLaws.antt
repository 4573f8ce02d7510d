-- A row that is read in a session.
use Rattle.std.proofs.lemmas.Option.{same_Some}
use Rattle.std.proofs.Common.{◌≡◌, ℕ, zero, suc, ◌+◌, ◌<◌, ◌≤◌, Bool, true, false, List, [], ◌∷◌, length, map, take, filter, get_or, Option, Some, None, IfSome, IsTrue, Ok, if◌then◌else◌, refl, sym, ap, ◌∙◌, subst, arith}
use Rattle.std.specs.Prelude.{slice_get, slice_set}
use Rattle.std.proofs.lemmas.Bool.{lt-ltb}
use Rattle.rdf_types.specs.declared.layout.Layout.{Layout}
use Rattle.rdf_types.specs.declared.records.Phase.TheVariants as phase
use Rattle.rdf_types.specs.declared.records.RecKey.{RecKey}
use Rattle.rdf_types.specs.declared.records.Record.{Record}
use Rattle.rdf_types.specs.declared.records.Stamped.{Stamped}
use Rattle.rdf_types.specs.Entries.{since, before}
use Rattle.rdf_disk.specs.Files.{Disk}
use Rattle.rdf_disk.specs.Counts.{Counts}
use Rattle.rdf_disk.specs.declared.disk.Disk.{Ghosts}
use Rattle.rdf_model.specs.Contents.{nothing}
use Rattle.rdf_model.specs.Trail.{raw}
use Rattle.rdf_model.specs.Volumes.{Rows}
use Rattle.rdf_model.specs.Window.{records, is_image_on}
use Rattle.rdf_volume.specs.Changes.{changed, changes_on}
use Rattle.rdf_volume.specs.declared.volume.Volume.{Volume}
use Rattle.rdf_volume.specs.Views.{rows_of, restart_of, disk_of, InUse}
use Rattle.updaters.specs.Applied.{applied, changes_by}
use Rattle.updaters.specs.Seats.{with_images}
use Rattle.image_board.specs.Entries.{images_between}
use Rattle.image_disks.specs.Values.{received}
use Rattle.node_faults.specs.declared.NodeFault.{NodeFault}
use Rattle.volume_sessions.specs.declared.placed.Placed.{Placed}
use Rattle.volume_sessions.specs.Shown.{Shown}
use Rattle.volume_sessions.specs.Rising.{Rose as RoseBy, HasRead as HasReadRow, IsPlaced}
use Rattle.rdf_core.specs.declared.replies.NoWhy.{NoWhy}
use Rattle.rdf_core.specs.declared.replies.NoWhy.TheVariants as no
use Rattle.rdf_types.specs.declared.records.Node.{Node}
use Rattle.rdf_core.specs.declared.replies.Reply.{Reply}
use Rattle.rdf_core.specs.declared.replies.Reply.TheVariants.{No, Stopped}
use Rattle.rdf_core.specs.Layouts.{protects, point_of}
use Rattle.rdf_core.specs.Backup.{read_reply}
use Rattle.rdf_core.specs.Rising.{read_answer}
use Rattle.rdf_backup.specs.declared.backup.Backup.{Backup}
use Rattle.rdf_backup.specs.declared.session.Session.{Session}
use Rattle.rdf_backup.specs.declared.session.Met.{Met}
use Rattle.rdf_backup.specs.States.{layout_of, value_of, MayUse, Serves}
use Rattle.rdf_backup.specs.Replies.{IfBoth}
use Rattle.rdf_backup.specs.Parting.{Parted}
use Rattle.rdf_backup.specs.Feeding.{flagged}
use Rattle.rdf_backup.specs.Raised.{MayRise, RoseIf, AreRisen}
use Rattle.rdf_backup.specs.Sessions.{LeavesTrails, looked_at, shown_in, open_of, IsPlaceOf, IsFed, MayGoOn, KeepsSession, IsReadAt, ReadsOpen}
use Rattle.rdf_backup.proofs.Looking.{point_is}
use Rattle.rdf_backup.proofs.TakingLists.{set_other, in_use_set}
use Rattle.rdf_backup.proofs.RisingLaws.{AppliedShows, risen_to}
use Rattle.rdf_backup.proofs.RisingLists.{set_both, may_rise}
use Rattle.rdf_backup.proofs.RisingStates.{points_by, at_points, none_risen, flag_below, has_read}
use Rattle.rdf_backup.proofs.PlaceLaws.{Here, placed_there, looked_set, parted_set}
use Rattle.rdf_backup.proofs.OpenLaws.{shown_items, goes_shown, same_counts, keeps_done}

pub some_within : {X : Type 0} (xs : List X) (i : ℕ) (x : X) → slice_get xs i ≡ Some x → i < length xs
some_within [] i x e = absurd (none_some x e)
  where
    none_some : {X : Type 0} (y : X) → None ≡ Some y → ⊥
    none_some y h = cc
some_within (y ∷ xs) zero x e = omega arith
some_within (y ∷ xs) (suc i) x e = omega (arith, some_within xs i x e)

get_set : {X : Type 0} (xs : List X) (n : ℕ) (was is : X) → slice_get xs n ≡ Some was → slice_get (slice_set xs n is) n ≡ Some is
get_set [] n was is there = absurd (none_some was there)
  where
    none_some : {X : Type 0} (y : X) → None ≡ Some y → ⊥
    none_some y h = cc
get_set (x ∷ xs) zero was is there = refl
get_set (x ∷ xs) (suc n) was is there = get_set xs n was is there

-- a row is no stop, and no refusal
read_plain : (p : ℕ) (o : Option (List ℕ)) (node : Node) → read_reply p o ≡ Stopped node → ⊥
read_plain p None node e = cc
read_plain p (Some x) node e = cc

read_yes : (p : ℕ) (o : Option (List ℕ)) (why : NoWhy) → read_reply p o ≡ No why → ⊥
read_yes p None why e = cc
read_yes p (Some x) why e = cc

-- a premise of what holds of an element that is there
if_so : {X : Type 0} (P : Type 0) (Q : X → Type 0) (o : Option X) → (P → IfSome o Q) → IfSome o (λ x. P → Q x)
if_so P Q None h = tt
if_so P Q (Some x) h = h

so_then : {X : Type 0} (P : Type 0) (Q : X → Type 0) (o : Option X) → IfSome o (λ x. P → Q x) → P → IfSome o Q
so_then P Q None h p = tt
so_then P Q (Some x) h p = h p

-- ---- images applied, as what updaters make of a volume

-- the law of updaters
abbrev pub StepApplies : Type 0
StepApplies = (vol : ℕ) (entries : List Stamped) → changes_by (filter (λ s. is_image_on vol s.rec) entries) ≡ changes_on vol (records entries)

pub images_applied : StepApplies → (v from to : ℕ) (rows : Rows) (entries : List Stamped) → with_images rows (images_between v from to entries) ≡ applied v (since from entries) to rows
images_applied step v from to rows entries = ap (λ cs. changed rows cs) (step v (before to (since from entries)))

-- a volume that has risen by the entries may rise further
pub rise_on : {D : Type 0} (tells : Type 0) (files : D → Disk) (counts : D → Counts) → AppliedShows → StepApplies → (layout : Layout) (trail : List Record) (v upto : ℕ) (entries : List Stamped) (old new : Volume D) →
    MayRise layout trail v upto entries (rows_of old) (restart_of old) → RoseBy tells files counts v entries upto old new → MayRise layout trail v upto entries (rows_of new) (restart_of new)
rise_on tells files counts law step layout trail v upto entries old new may rose =
    risen_to layout trail v upto entries law (rows_of old) (rows_of new) (restart_of old) (restart_of new) (restart_of new) may rose.behind rose.within
    (rose.rows ∙ images_applied step v (restart_of old) (restart_of new) (rows_of old) entries) refl

module _ {D : Type 0} {d : Ghosts D} (tells : Type 0) (files : D → Disk) (counts : D → Counts) (s : Session D d) (goes : MayGoOn tells files s) (v : ℕ) (on : get_or s.flags.now v false ≡ true) where
  abbrev old : Backup D d
  old = shown_in s

  abbrev xs : List (Volume D)
  xs = looked_at s.flags.now s.watch.volumes s.apart.value.items

  items_are : old.volumes.items ≡ xs
  items_are = shown_items s goes.flags_are goes.parted

  abbrev at : ℕ
  at = flagged (take v s.flags.now)

  zero_more : (n : ℕ) → 0 + n ≡ n
  zero_more n = omega arith

  protected : protects (layout_of old) v ≡ true
  protected = ap (λ fs. get_or fs v false) (sym goes.flags_are) ∙ on

  -- it has a place there
  pub placed : (place : ℕ) → place ≡ at → IsPlaced v place s.watch
  placed place is =
      let h = placed_there s.flags.now xs s.watch.volumes s.apart.value.items v goes.parted on in
      (h.0, subst (λ k. slice_get s.watch.volumes k ≡ Some h.0) (sym is) h.1.0, h.1.1 ∙ zero_more v)

  module _ (key : RecKey) (key_is : key.vol ≡ v) (value : Option (List ℕ)) (watch : Shown D) (r : HasReadRow tells files counts at key value s.watch watch) where
    abbrev next : Session D d
    next = record s { watch = watch }

    abbrev seen : Placed D
    seen = record { vol = r.was.vol; volume = r.now }

    abbrev seen_watch : Shown D
    seen_watch = record s.watch { volumes = slice_set s.watch.volumes at seen }

    abbrev seen_next : Session D d
    seen_next = record s { watch = seen_watch }

    here : Here 0 s.flags.now xs s.watch.volumes v
    here = placed_there s.flags.now xs s.watch.volumes s.apart.value.items v goes.parted on

    was_is : here.0 ≡ r.was
    was_is = same_Some here.0 r.was (sym here.1.0 ∙ r.there)

    was_vol : r.was.vol ≡ 0 + v
    was_vol = ap (λ p. p.vol) (sym was_is) ∙ here.1.1

    -- the volume that was shown
    was_there : slice_get old.volumes.items v ≡ Some r.was.volume
    was_there = ap (λ l. slice_get l v) items_are ∙ here.1.2 ∙ ap (λ (p : Placed D). Some p.volume) was_is

    xs_next : looked_at s.flags.now (slice_set s.watch.volumes at seen) s.apart.value.items ≡ slice_set xs v r.now
    xs_next = looked_set 0 s.flags.now xs s.watch.volumes s.apart.value.items v seen goes.parted on

    parted_next : Parted IsPlaceOf 0 s.flags.now (looked_at s.flags.now (slice_set s.watch.volumes at seen) s.apart.value.items) (slice_set s.watch.volumes at seen) s.apart.value.items
    parted_next = subst (λ l. Parted IsPlaceOf 0 s.flags.now l (slice_set s.watch.volumes at seen) s.apart.value.items) (sym xs_next) (parted_set 0 s.flags.now xs s.watch.volumes s.apart.value.items v seen goes.parted on was_vol)

    items_seen : (shown_in seen_next).volumes.items ≡ slice_set old.volumes.items v r.now
    items_seen = shown_items seen_next goes.flags_are parted_next ∙ xs_next ∙ ap (λ l. slice_set l v r.now) (sym items_are)

    pub items_next : (shown_in next).volumes.items ≡ slice_set old.volumes.items v r.now
    items_next = subst (λ (x : Shown D). (shown_in (record s { watch = x })).volumes.items ≡ slice_set old.volumes.items v r.now) (sym r.new_is) items_seen

    usable_next : tells → MayUse files (shown_in next)
    usable_next t = record {
      trails = (goes.going.usable t).trails;
      volume = subst (λ vs. (i : ℕ) → IfSome (slice_get vs i) (λ volume. InUse files volume)) (sym items_next) (in_use_set files old.volumes.items v r.now (goes.going.usable t).volume (r.rose.in_use t));
    }

    -- the session may go on
    pub goes_next : MayGoOn tells files next
    goes_next = subst (λ (x : Shown D). (tells → MayUse files (shown_in (record s { watch = x }))) → MayGoOn tells files (record s { watch = x })) (sym r.new_is)
        (λ usable. goes_shown tells files s (slice_set s.watch.volumes at seen) s.watch.noted goes usable parted_next) usable_next

    abbrev Same : Volume D → Volume D → Type 0
    Same x y = counts (disk_of y) ≡ counts (disk_of x)

    -- the counts of its disk have not changed
    counts_next : (first : List (Volume D)) → ((i : ℕ) → IfBoth Same (slice_get first i) (slice_get old.volumes.items i)) → (i : ℕ) → IfBoth Same (slice_get first i) (slice_get (shown_in next).volumes.items i)
    counts_next first h = subst (λ l. (i : ℕ) → IfBoth Same (slice_get first i) (slice_get l i)) (sym items_next)
        (set_both (λ i. Same) (λ i. Same) first old.volumes.items v r.now (λ i x y other e. e)
        (λ x y there e. r.rose.counts_are ∙ ap (λ (volume : Volume D). counts (disk_of volume)) (same_Some r.was.volume y (sym was_there ∙ there)) ∙ e) h)

    -- the position that is told
    pub point_told : (point : ℕ) → IfSome (slice_get watch.volumes at) (λ was. point ≡ restart_of was.volume) → point ≡ restart_of r.now
    point_told point h = subst (λ (o : Option (Placed D)). IfSome o (λ was. point ≡ restart_of was.volume)) (ap (λ (x : Shown D). slice_get x.volumes at) r.new_is ∙ get_set s.watch.volumes at r.was seen r.there) h

    point_next : point_of (map (λ volume. restart_of volume) (shown_in next).volumes.items) v ≡ restart_of r.now
    point_next = ap (λ vs. point_of (map (λ volume. restart_of volume) vs) v) items_next ∙ point_is (slice_set old.volumes.items v r.now) v r.now (get_set old.volumes.items v r.was.volume r.now was_there)

    pub says_next : (reply : Reply) → reply ≡ read_reply (restart_of r.now) value → IsReadAt true key.vol (open_of next) reply
    says_next reply is = (value, is ∙ ap (λ p. read_reply p value) (sym point_next ∙ ap (λ k. point_of (map (λ volume. restart_of volume) (shown_in next).volumes.items) k) (sym key_is)))

    pub keeps_next : s.met ≡ None → (meets : NodeFault → Met) (reply : Reply) → reply ≡ read_reply (restart_of r.now) value → KeepsSession tells files counts meets (Ok reply) (open_of s) (open_of next)
    keeps_next none meets reply is = let leaves = subst (λ m. LeavesTrails m) (sym none) tt in keeps_done tells files counts meets reply (open_of s) (open_of next) none none (λ node e. read_plain (restart_of r.now) value node (sym is ∙ e)) (λ why e. read_yes (restart_of r.now) value why (sym is ∙ e))
        usable_next refl (goes.going.disk_is leaves) (goes.going.disk_is leaves) refl (counts_next old.volumes.items (same_counts counts old.volumes.items)) counts_next refl

    abbrev Rise : List Record → ℕ → Volume D → Volume D → Type 0
    Rise trail i x y = RoseIf (protects (layout_of old) i) trail 0 (received (value_of old)) i (rows_of x) (restart_of x) (rows_of y) (restart_of y)

    pub reads_next : AppliedShows → StepApplies → tells → (trail : List Record) → Serves files trail old → IsFed trail (open_of s) → (reply : Reply) → reply ≡ read_reply (restart_of r.now) value → ReadsOpen files trail key reply (open_of s) (open_of next)
    reads_next law step t trail serves fed reply is = record { read = has_read files trail old runs serves (shown_in next) refl refl 0 risen key reply (usable_next t).volume (is ∙ said); fed = fed_next }
      where
        runs : (value_of old).phase ≡ phase.Running
        runs = goes.going.running t

        may : MayRise (layout_of old) trail v (received (value_of old)) s.watch.entries (rows_of r.was.volume) (restart_of r.was.volume)
        may = may_rise (layout_of old) trail (received (value_of old)) s.watch.entries 0 v old.volumes.items old.volumes.items r.was.volume protected fed.behind (none_risen files trail old runs serves) was_there

        rose : RoseBy tells files counts v s.watch.entries (received (value_of old)) r.was.volume r.now
        rose = subst (λ n. RoseBy tells files counts v s.watch.entries n r.was.volume r.now) (goes.upto ∙ goes.end_is t) (subst (λ k. RoseBy tells files counts k s.watch.entries s.watch.end r.was.volume r.now) key_is r.rose)

        rises : MayRise (layout_of old) trail v (received (value_of old)) s.watch.entries (rows_of r.now) (restart_of r.now)
        rises = rise_on tells files counts law step (layout_of old) trail v (received (value_of old)) s.watch.entries r.was.volume r.now may rose

        one : (x y : Volume D) → slice_get old.volumes.items v ≡ Some y → Rise trail v x y → Rise trail v x r.now
        one x y there h =
            let same = ap (λ (volume : Volume D). restart_of volume) (same_Some y r.was.volume (sym there ∙ was_there)) in
            let was : RoseIf true trail 0 (received (value_of old)) v (rows_of x) (restart_of x) (rows_of y) (restart_of y) = subst (λ p. RoseIf p trail 0 (received (value_of old)) v (rows_of x) (restart_of x) (rows_of y) (restart_of y)) protected h in
            subst (λ p. RoseIf p trail 0 (received (value_of old)) v (rows_of x) (restart_of x) (rows_of r.now) (restart_of r.now)) (sym protected)
            (omega (arith, was.0, same, rose.behind), rises.within, (λ less. absurd (omega (arith, less))), rises.shows)

        risen : AreRisen (layout_of old) trail 0 (received (value_of old)) old.volumes.items (shown_in next).volumes.items
        risen = subst (λ l. AreRisen (layout_of old) trail 0 (received (value_of old)) old.volumes.items l) (sym items_next)
            (set_both (Rise trail) (Rise trail) old.volumes.items old.volumes.items v r.now (λ i x y other h. h) one (none_risen files trail old runs serves))

        row : value ≡ raw nothing (take (restart_of r.now) trail) key
        row = r.value_is t ∙ rises.shows key key_is

        within : key.vol < (layout_of old).volumes
        within = subst (λ k. k < (layout_of old).volumes) (sym key_is) (flag_below files trail old runs serves v protected)

        points : List ℕ
        points = points_by files trail old runs serves (shown_in next).volumes.items

        point : point_of points key.vol ≡ restart_of r.now
        point = ap (λ k. point_of points k) key_is ∙ point_next

        said : read_reply (restart_of r.now) value ≡ read_answer (layout_of old) trail (at_points files trail old runs serves 0 (points_by files trail old runs serves (shown_in next).volumes.items)) key
        said = ap (λ (o : Option (List ℕ)). read_reply (restart_of r.now) o) row
            ∙ sym (ap (λ (c : Bool). let p = point_of points key.vol in if c then read_reply p (raw nothing (take p trail) key) else No no.Volume) (lt-ltb key.vol (layout_of old).volumes within)
            ∙ ap (λ (p : ℕ). read_reply p (raw nothing (take p trail) key)) point)

        early : (i : ℕ) → IsTrue (protects (layout_of old) i) → IfSome (slice_get (slice_set old.volumes.items v r.now) i) (λ volume. fed.start ≤ restart_of volume)
        early i on_i = so_then (IsTrue (protects (layout_of old) i)) (λ (volume : Volume D). fed.start ≤ restart_of volume) (slice_get (slice_set old.volumes.items v r.now) i)
            (set_other (λ k volume. IsTrue (protects (layout_of old) k) → fed.start ≤ restart_of volume) old.volumes.items v r.now
            (λ k other. if_so (IsTrue (protects (layout_of old) k)) (λ (volume : Volume D). fed.start ≤ restart_of volume) (slice_get old.volumes.items k) (fed.early k)) (λ o. omega (arith, may_early, rose.behind)) i) on_i
          where
            may_early : fed.start ≤ restart_of r.was.volume
            may_early = subst (λ (o : Option (Volume D)). IfSome o (λ volume. fed.start ≤ restart_of volume)) was_there (fed.early v protected)

        fed_next : IsFed trail (open_of next)
        fed_next = record {
          behind = record {
            start = fed.start;
            entries_are = ap (λ (x : Shown D). x.entries) r.new_is ∙ fed.entries_are;
            early = subst (λ l. (i : ℕ) → IsTrue (protects (layout_of old) i) → IfSome (slice_get l i) (λ volume. fed.start ≤ restart_of volume)) (sym items_next) early;
          };
          within = fed.within;
        }
