-- One volume of a backup was looked at, and shows the same as before.
use Rattle.std.proofs.Common.{◌≡◌, ◌≢◌, ℕ, zero, suc, ◌<◌, ◌≤◌, ◌==◌, Bool, true, false, if◌then◌else◌, List, [], ◌∷◌, length, take, map, Option, Some, None, IfSome, refl, sym, ap, ap₂, ◌∙◌, subst, arith}
use Rattle.std.specs.Prelude.{slice_get}
use Rattle.std.specs.List.{slice_set}
use Rattle.std.specs.Option.{option_map}
use Rattle.std.specs.FinMap.{get-empty}
use Rattle.std.proofs.lemmas.Bool.{eq-eqb, ne_eqb}
use Rattle.std.proofs.lemmas.Option.{slice_get-map, same_Some}
use Rattle.rdf_types.specs.Places.{row_cmp}
use Rattle.rdf_types.specs.declared.layout.Layout.{Layout}
use Rattle.rdf_types.specs.declared.records.Node.{Node}
use Rattle.rdf_types.specs.declared.records.Phase.{Phase}
use Rattle.rdf_types.specs.declared.records.Phase.TheVariants as phase
use Rattle.rdf_types.specs.declared.records.Record.{Record}
use Rattle.rdf_types.specs.declared.records.Row.{Row}
use Rattle.rdf_disk.specs.Files.{Disk, Contents}
use Rattle.rdf_disk.specs.Counts.{Counts, Causes, Ending, fused}
use Rattle.rdf_disk.specs.Counts.Ending.{Fine}
use Rattle.rdf_disk.specs.Outcomes.{Durably, MayAll}
use Rattle.rdf_disk.specs.declared.disk.Disk.{Ghosts}
use Rattle.rdf_gatelog.specs.declared.fault.LogFault.{LogFault}
use Rattle.rdf_gatelog.specs.LogCauses.{ending_of_fault}
use Rattle.rdf_model.specs.Contents.{nothing}
use Rattle.rdf_model.specs.Trail.{raw, committed}
use Rattle.rdf_model.specs.Volumes.{Rows, AreOn, shown}
use Rattle.rdf_model.specs.Rows.{list_of}
use Rattle.plan_lang.specs.declared.lines.Line.TheVariants as line
use Rattle.image_disks.specs.Spelled.{block_of}
use Rattle.image_disks.specs.Values.{Value, received}
use Rattle.image_trails.specs.declared.trails.ImageTrails.{ImageTrails}
use Rattle.image_trails.specs.Memory.{IsInUse, value_in}
use Rattle.image_trails.specs.InUseLaws.{in_use_durably as trails_durably}
use Rattle.rdf_volume.specs.declared.volume.Volume.{Volume}
use Rattle.rdf_volume.specs.Views.{rows_of, restart_of, disk_of, InUse, Unchanged}
use Rattle.rdf_volume.specs.Standing.{StandsFor}
use Rattle.rdf_volume.specs.StandingLaws.{in_use_durably}
use Rattle.node_faults.specs.declared.NodeFault.{NodeFault}
use Rattle.node_faults.specs.Faults.{fault_at, ending_at}
use Rattle.rdf_core.specs.declared.replies.NoWhy.{NoWhy}
use Rattle.rdf_core.specs.declared.replies.Reply.{Reply}
use Rattle.rdf_core.specs.declared.replies.Reply.TheVariants.{Rows as RowsReply}
use Rattle.rdf_core.specs.Effects.{IsDone, first, after_parts, parts_unless}
use Rattle.rdf_core.specs.Layouts.{protects, point_of}
use Rattle.rdf_core.specs.Backup.{Backup as State, Around, backup_refusal, backup_says, shown_on, listed_at, backup_fallen}
use Rattle.rdf_core.specs.Sound.{IsSound}
use Rattle.rdf_backup.specs.declared.backup.Backup.{Backup}
use Rattle.rdf_backup.specs.Standing.{IsShownIf, IsShown, DiskStandsFor, MayBe, SomeStandsFor}
use Rattle.rdf_backup.specs.States.{volumes_by, state_by, state_of, layout_of, value_of, disks_in, AreOver, Serves}
use Rattle.rdf_backup.specs.Disks.{disks_of}
use Rattle.rdf_backup.specs.Replies.{IfBoth, Goes, Breaks}
use Rattle.rdf_backup.proofs.RefusalLaws.{list_there}
use Rattle.node_faults.specs.FaultLaws.{ending_here, ending_elsewhere}
use Rattle.rdf_backup.specs.StandingLaws.{tells_by, shown_again, disks_many, serving_stands}

-- what a line needs of the rest, where only the trail is asked for
abbrev pub over_trail : List Record → State → Around
over_trail trail b = record { trail = trail; lost = false; message = None; lead = b; points = [] }

-- what holds of each element, and of what is put in the place of one
each_set : {X : Type 0} (Q : ℕ → X → Type 0) (xs : List X) (i : ℕ) (w : X) → ((v : ℕ) → IfSome (slice_get xs v) (λ x. Q v x)) → Q i w → (v : ℕ) → IfSome (slice_get (slice_set xs i w) v) (λ x. Q v x)
each_set Q [] i w each here v = tt
each_set Q (x ∷ xs) zero w each here zero = here
each_set Q (x ∷ xs) zero w each here (suc v) = each (suc v)
each_set Q (x ∷ xs) (suc i) w each here zero = each zero
each_set Q (x ∷ xs) (suc i) w each here (suc v) = each_set (λ k. Q (suc k)) xs i w (λ k. each (suc k)) here v

-- a list in which one element is replaced by one that maps to the same
map_set : {X Y : Type 0} (f : X → Y) (xs : List X) (i : ℕ) (was is : X) → slice_get xs i ≡ Some was → f is ≡ f was → map f (slice_set xs i is) ≡ map f xs
map_set f [] i was is there same = refl
map_set f (x ∷ xs) zero was is there same = ap (λ y. y ∷ map f xs) (same ∙ ap f (sym (same_Some x was there)))
map_set f (x ∷ xs) (suc i) was is there same = ap (λ ys. f x ∷ ys) (map_set f xs i was is there same)

-- the state is the same where one volume has the same restart point
pub state_set : {D : Type 0} (stops : ℕ) (v : Value) (vs : List (Volume D)) (n : ℕ) (was is : Volume D) → slice_get vs n ≡ Some was → restart_of is ≡ restart_of was → state_by stops v (slice_set vs n is) ≡ state_by stops v vs
state_set stops v vs n was is there same = ap (λ (points : List ℕ). let s : State = record { up = true; received = received v; starts = v.starts; number = v.last; volumes = volumes_by v.phase points; stops = stops } in s)
    (map_set (λ volume. restart_of volume) vs n was is there same)

-- the point of a volume
pub point_is : {D : Type 0} (volumes : List (Volume D)) (i : ℕ) (was : Volume D) → slice_get volumes i ≡ Some was → point_of (map (λ volume. restart_of volume) volumes) i ≡ restart_of was
point_is [] i was there = cc
point_is (x ∷ xs) zero was there = ap (λ volume. restart_of volume) (same_Some x was there)
point_is (x ∷ xs) (suc i) was there = point_is xs i was there

module _ {D : Type 0} {d : Ghosts D} (files : D → Disk) (w : Around) (old new : Backup D d) (n : ℕ) (was is : Volume D) (there : slice_get old.volumes.items n ≡ Some was)
    (set_is : new.volumes.items ≡ slice_set old.volumes.items n is) (trails : new.trails ≡ old.trails) (txns : new.txns ≡ old.txns) (same : Unchanged was is) where
  abbrev by_points : ℕ → List ℕ → State
  by_points stops points = record { up = true; received = (value_of old).top 0; starts = (value_of old).starts; number = (value_of old).last; volumes = volumes_by (value_of old).phase points; stops = stops }

  points_same : map (λ volume. restart_of volume) new.volumes.items ≡ map (λ volume. restart_of volume) old.volumes.items
  points_same = ap (λ vs. map (λ volume. restart_of volume) vs) set_is ∙ map_set (λ volume. restart_of volume) old.volumes.items n was is there same.restart

  -- the state is the same
  pub looked_state : (stops : ℕ) → state_of stops new ≡ state_of stops old
  looked_state stops = ap₂ (λ t (points : List ℕ). let s : State = record { up = true; received = (value_in t.memory).top 0; starts = (value_in t.memory).starts; number = (value_in t.memory).last; volumes = volumes_by (value_in t.memory).phase points; stops = stops } in s) trails points_same

  pub looked_laid : layout_of new ≡ layout_of old
  looked_laid = ap (λ t. t.memory.layout) trails

  module _ (serves : Serves files w.trail old) where
    abbrev Shown : ℕ → Volume D → Type 0
    Shown v volume = IsShown (layout_of old) w.trail (state_of 0 old) v (rows_of volume) (restart_of volume)

    was_shown : Shown n was
    was_shown = subst (λ (o : Option (Volume D)). IfSome o (λ volume. Shown n volume)) there (serves.over.shown n)

    is_shown : Shown n is
    is_shown = subst (λ rows. IsShown (layout_of old) w.trail (state_of 0 old) n rows (restart_of is)) (sym same.rows) (subst (λ at. IsShown (layout_of old) w.trail (state_of 0 old) n (rows_of was) at) (sym same.restart) was_shown)

    over : AreOver (layout_of old) w.trail (value_of old) new.volumes.items new.txns
    over = record {
      legal = serves.over.legal;
      sound = λ stops. subst (λ points. IsSound (layout_of old) w.trail (by_points stops points)) (sym points_same) (serves.over.sound stops);
      holds = serves.over.holds;
      shown = λ v. subst (λ points. IfSome (slice_get new.volumes.items v) (λ volume. IsShown (layout_of old) w.trail (by_points 0 points) v (rows_of volume) (restart_of volume))) (sym points_same)
          (subst (λ vs. IfSome (slice_get vs v) (λ volume. Shown v volume)) (sym set_is) (each_set (λ k volume. Shown k volume) old.volumes.items n is serves.over.shown is_shown v));
      open_ones = record { start = serves.over.open_ones.start; early = serves.over.open_ones.early; noted = txns ∙ serves.over.open_ones.noted };
    }

    -- it serves on
    pub looked_serves : InUse files is → Serves files w.trail new
    looked_serves in_use = record {
      usable = record {
        trails = subst (λ t. IsInUse block_of t.memory (files t.disk)) (sym trails) serves.usable.trails;
        volume = λ v. subst (λ vs. IfSome (slice_get vs v) (λ volume. InUse files volume)) (sym set_is) (each_set (λ k volume. InUse files volume) old.volumes.items n is serves.usable.volume in_use v);
      };
      over = subst (λ t. AreOver t.memory.layout w.trail (value_in t.memory) new.volumes.items new.txns) (sym trails) over;
    }

    -- what each volume's disk durably stands for
    abbrev Stands : ℕ → Volume D → Type 0
    Stands v volume = (rows : Rows) × ((at : ℕ) × (IsShown (layout_of old) w.trail (state_of 0 old) v rows at × Durably (files (disk_of volume)) (StandsFor rows at)))

    in_use_stands : (v : ℕ) (o : Option (Volume D)) → IfSome o (λ volume. Shown v volume) → IfSome o (λ volume. InUse files volume) → IfSome o (λ volume. Stands v volume)
    in_use_stands v None h g = tt
    in_use_stands v (Some volume) h g = (
      rows_of volume,
      (
        restart_of volume,
        (h, λ c may. in_use_durably files volume g c may),
      ),
    )

    each_stands : Durably (files (disk_of is)) (StandsFor (rows_of was) (restart_of was)) → (v : ℕ) → IfSome (slice_get new.volumes.items v) (λ volume. Stands v volume)
    each_stands stands v = subst (λ vs. IfSome (slice_get vs v) (λ volume. Stands v volume)) (sym set_is)
        (each_set (λ k volume. Stands k volume) old.volumes.items n is (λ k. in_use_stands k (slice_get old.volumes.items k) (serves.over.shown k) (serves.usable.volume k)) (rows_of was, (restart_of was, (was_shown, stands))) v)

    -- a look that failed leaves what was, and the backup is down
    looked_some : Durably (files (disk_of is)) (StandsFor (rows_of was) (restart_of was)) → (stops rise most : ℕ) → SomeStandsFor files (layout_of old) w.trail most (λ k. backup_fallen rise (state_of stops old)) (disks_in new)
    looked_some stands stops rise most = record {
      count = disks_many new ∙ ap (λ (l : Layout). suc l.volumes) looked_laid;
      some = λ held may. (
        0,
        (
          omega arith,
          record {
            legal = serves.over.legal;
            sound = let s = serves.over.sound stops in record { within = s.within; some = s.some; low = s.low; volumes = s.volumes };
            disk = at held may;
          },
        ),
      );
    }
      where
        here : (held : ℕ → Contents) (v : ℕ) (o : Option (Volume D)) → IfSome o (λ volume. Stands v volume) → IfSome (option_map (λ volume. disk_of volume) o) (λ disk. MayAll (files disk) (held (suc v))) → (o ≡ None → ⊥) →
            DiskStandsFor (layout_of old) w.trail (backup_fallen rise (state_of stops old)) (suc v) (held (suc v))
        here held v None h may some = absurd (some refl)
        here held v (Some volume) h may some = record {
          rows = h.0;
          at = h.1.0;
          shows = shown_again (layout_of old) w.trail (state_of 0 old) (backup_fallen rise (state_of stops old)) v h.0 h.1.0 refl refl refl h.1.1.0;
          stands = h.1.1.1 (held (suc v)) may;
        }

        some_there : (v : ℕ) (vs : List (Volume D)) → v < length vs → slice_get vs v ≡ None → ⊥
        some_there v [] h e = omega (arith, h)
        some_there zero (x ∷ vs) h e = cc
        some_there (suc v) (x ∷ vs) h e = some_there v vs (omega (arith, h)) e

        many : length new.volumes.items ≡ (layout_of old).volumes
        many = new.sized ∙ ap (λ (l : Layout). l.volumes) looked_laid

        at : (held : ℕ → Contents) → MayBe files (disks_in new) held → (i : ℕ) → i ≤ (layout_of old).volumes → DiskStandsFor (layout_of old) w.trail (backup_fallen rise (state_of stops old)) i (held i)
        at held may zero few = record {
          value = value_of old;
          stands = trails_durably block_of old.trails.memory (files old.trails.disk) serves.usable.trails (held zero) (subst (λ t. MayAll (files t.disk) (held zero)) trails (may zero));
          tells = let t = tells_by stops (value_of old) old.volumes.items in record { received_is = t.received_is; starts_are = t.starts_are; number_is = t.number_is; phase_is = t.phase_is };
          holds = serves.over.holds;
        }
        at held may (suc v) few = here held v (slice_get new.volumes.items v) (each_stands stands v)
            (subst (λ (o : Option D). IfSome o (λ disk. MayAll (files disk) (held (suc v)))) (slice_get-map (λ volume. disk_of volume) new.volumes.items v) (may (suc v)))
            (λ e. some_there v new.volumes.items (omega (arith, few, many)) e)

    module _ (node : Node) (vol : ℕ) (here : n ≡ vol) (still : (value_of old).phase ≢ phase.Taking) (within : vol < (layout_of old).volumes) where
      none_refuses : (stops : ℕ) → backup_refusal (layout_of old) w (state_of stops old) (line.List node vol) ≡ None
      none_refuses stops = list_there old stops vol still within

      pub looked_breaks : Durably (files (disk_of is)) (StandsFor (rows_of was) (restart_of was)) → Breaks files w (line.List node vol) old new
      looked_breaks stands = record {
        unrefused = none_refuses;
        stands = λ stops rise. subst (λ (o : Option NoWhy). SomeStandsFor files (layout_of old) w.trail (length (parts_unless o none)) (λ k. backup_fallen rise (after_parts (state_of stops old) (parts_unless o none) k)) (disks_in new))
            (sym (none_refuses stops)) (looked_some stands stops rise 0);
      }
        where
          none : List State
          none = []

      -- the rows that are shown
      shows_rows : (p : Phase) (rows : Rows) (at : ℕ) → p ≢ phase.Taking → point_of (map (λ volume. restart_of volume) old.volumes.items) vol ≡ at →
          IsShown (layout_of old) w.trail (record (state_of 0 old) { volumes = volumes_by p (map (λ volume. restart_of volume) old.volumes.items) }) vol rows at →
          AreOn vol (shown_on (layout_of old) w.trail (volumes_by p (map (λ volume. restart_of volume) old.volumes.items)) vol) rows
      shows_rows p rows at ready point h = by_case (protects (layout_of old) vol) refl p ready h
        where
          points : List ℕ
          points = map (λ volume. restart_of volume) old.volumes.items

          by_case : (c : Bool) → protects (layout_of old) vol ≡ c → (p : Phase) → p ≢ phase.Taking →
              IsShownIf c (layout_of old) w.trail (record (state_of 0 old) { volumes = volumes_by p (map (λ volume. restart_of volume) old.volumes.items) }) vol rows at →
              AreOn vol (shown_on (layout_of old) w.trail (volumes_by p (map (λ volume. restart_of volume) old.volumes.items)) vol) rows
          by_case c on phase.Taking r g = absurd (r refl)
          by_case true on phase.Running r g = subst (λ k. AreOn vol (raw nothing (take k w.trail)) rows) (sym point) g.1
          by_case true on (phase.Taken upto) r g = subst (λ c. AreOn vol (if c then committed nothing (take upto w.trail) else nothing) rows) (sym on) g.1
          by_case false on phase.Running r g = λ q there. ap (λ m. shown m q) g.0 ∙ get-empty row_cmp (q.file, q.key) ∙ ap (λ k. raw nothing (take k w.trail) q) (sym (point ∙ g.1))
          by_case false on (phase.Taken upto) r g = subst (λ c. AreOn vol (if c then committed nothing (take upto w.trail) else nothing) rows) (sym on) (λ q there. ap (λ m. shown m q) g.0 ∙ get-empty row_cmp (q.file, q.key))

      pub looked_goes : InUse files is → (at : ℕ) (rows : List Row) → at ≡ listed_at (state_of 0 old).volumes vol → rows ≡ list_of (rows_of was) → Goes files w (line.List node vol) (RowsReply at rows) old new
      looked_goes in_use at rows point listed = record {
        answers = λ stops. subst (λ (o : Option NoWhy). IsDone o (λ _. state_of stops old) (state_of stops old) (backup_says (layout_of old) w (state_of stops old) (line.List node vol)) (RowsReply at rows) (state_of stops new)) (sym (none_refuses stops))
            ((rows, ap (λ k. let r : Reply = RowsReply k rows in r) point, record { map_of = rows_of was; on = shows_rows (value_of old).phase (rows_of was) (restart_of was) still (subst (λ k. point_of (map (λ volume. restart_of volume) old.volumes.items) k ≡ restart_of was) here (point_is old.volumes.items n was there)) (subst (λ k. Shown k was) here was_shown); listed = listed }), looked_state stops);
        laid = looked_laid;
        serves = looked_serves in_use;
        stands = serving_stands files w.trail new (looked_serves in_use);
      }

-- the cause of an answer that speaks of one volume's disk

pub same_counts : {D : Type 0} (counts : D → Counts) (ending : Ending) (o : Option D) → ending ≡ Fine → IfBoth (λ x y. Causes ending (counts x) (counts y)) o o
same_counts counts ending None fine = tt
same_counts counts ending (Some x) fine = subst (λ e. Causes e (counts x) (counts x)) (sym fine) refl

pub set_counts : {D : Type 0} (counts : D → Counts) (endings : ℕ → Ending) (vs : List (Volume D)) (n : ℕ) (was is : Volume D) → slice_get vs n ≡ Some was → Causes (endings n) (counts (disk_of was)) (counts (disk_of is)) →
    ((v : ℕ) → v ≢ n → endings v ≡ Fine) → (v : ℕ) → IfBoth (λ x y. Causes (endings v) (counts x) (counts y)) (slice_get (map (λ volume. disk_of volume) vs) v) (slice_get (map (λ volume. disk_of volume) (slice_set vs n is)) v)
set_counts counts endings [] n was is there cause others v = tt
set_counts counts endings (x ∷ vs) zero was is there cause others zero = subst (λ y. Causes (endings zero) (counts (disk_of y)) (counts (disk_of is))) (same_Some was x (sym there)) cause
set_counts counts endings (x ∷ vs) zero was is there cause others (suc v) = same_counts counts (endings (suc v)) (slice_get (map (λ volume. disk_of volume) vs) v) (others (suc v) (λ e. absurd (omega (arith, e))))
set_counts counts endings (x ∷ vs) (suc n) was is there cause others zero = subst (λ e. Causes e (counts (disk_of x)) (counts (disk_of x))) (sym (others zero (λ e. absurd (omega (arith, e))))) refl
set_counts counts endings (x ∷ vs) (suc n) was is there cause others (suc v) = set_counts counts (λ k. endings (suc k)) vs n was is there cause (λ k ne. others (suc k) (λ e. ne (omega (arith, e)))) v

pub looked_caused : {D : Type 0} (counts : D → Counts) (endings : ℕ → Ending) (trails : ImageTrails D) (vs : List (Volume D)) (n : ℕ) (was is : Volume D) → slice_get vs n ≡ Some was → endings zero ≡ Fine → Causes (endings (suc n)) (counts (disk_of was)) (counts (disk_of is)) →
    ((v : ℕ) → v ≢ n → endings (suc v) ≡ Fine) → (i : ℕ) → IfBoth (λ x y. Causes (endings i) (counts x) (counts y)) (slice_get (disks_of trails vs) i) (slice_get (disks_of trails (slice_set vs n is)) i)
looked_caused counts endings trails vs n was is there first cause others zero = subst (λ e. Causes e (counts trails.disk) (counts trails.disk)) (sym first) refl
looked_caused counts endings trails vs n was is there first cause others (suc v) = set_counts counts (λ k. endings (suc k)) vs n was is there cause others v

-- a fault of one volume's disk
module _ (n m : ℕ) (fault : LogFault) (said : NodeFault) (is : said ≡ fault_at m fault) (same : m ≡ suc n) where
  pub fault_here : ending_at (suc n) said ≡ ending_of_fault fault
  fault_here = ap (λ f. ending_at (suc n) f) (is ∙ ap (λ k. fault_at k fault) same) ∙ ending_here (suc n) fault

  pub fault_elsewhere : (i : ℕ) → i ≢ suc n → ending_at i said ≡ Fine
  fault_elsewhere i other = ap (λ f. ending_at i f) is ∙ ending_elsewhere i m fault (λ e. other (omega (arith, e, same)))

-- a fuse of one volume's disk
same_fused : {D : Type 0} (counts : D → Counts) (b : Bool) (o : Option D) → b ≡ false → IfBoth (λ x y. counts y ≡ (if b then fused (counts x) else counts x)) o o
same_fused counts b None off = tt
same_fused counts b (Some x) off = sym (ap (λ (b : Bool). if b then fused (counts x) else counts x) off)

set_fused : {D : Type 0} (counts : D → Counts) (test : ℕ → Bool) (vs : List (Volume D)) (n : ℕ) (was is : Volume D) → slice_get vs n ≡ Some was → test n ≡ true → ((k : ℕ) → k ≢ n → test k ≡ false) → counts (disk_of is) ≡ fused (counts (disk_of was)) →
    (v : ℕ) → IfBoth (λ x y. counts y ≡ (if test v then fused (counts x) else counts x)) (slice_get (map (λ volume. disk_of volume) vs) v) (slice_get (map (λ volume. disk_of volume) (slice_set vs n is)) v)
set_fused counts test [] n was is there on off rose v = tt
set_fused counts test (x ∷ vs) zero was is there on off rose zero =
    rose ∙ ap (λ volume. fused (counts (disk_of volume))) (sym (same_Some x was there)) ∙ sym (ap (λ (b : Bool). if b then fused (counts (disk_of x)) else counts (disk_of x)) on)
set_fused counts test (x ∷ vs) zero was is there on off rose (suc v) = same_fused counts (test (suc v)) (slice_get (map (λ volume. disk_of volume) vs) v) (off (suc v) (λ e. absurd (omega (arith, e))))
set_fused counts test (x ∷ vs) (suc n) was is there on off rose zero = sym (ap (λ (b : Bool). if b then fused (counts (disk_of x)) else counts (disk_of x)) (off zero (λ e. absurd (omega (arith, e)))))
set_fused counts test (x ∷ vs) (suc n) was is there on off rose (suc v) = set_fused counts (λ k. test (suc k)) vs n was is there on (λ k ne. off (suc k) (λ e. ne (omega (arith, e)))) rose v

pub volume_fused : {D : Type 0} (counts : D → Counts) (trails : ImageTrails D) (vs : List (Volume D)) (n disk : ℕ) (was is : Volume D) → slice_get vs n ≡ Some was → disk ≡ suc n → counts (disk_of is) ≡ fused (counts (disk_of was)) →
    (i : ℕ) → IfBoth (λ x y. counts y ≡ (if i == disk then fused (counts x) else counts x)) (slice_get (disks_of trails vs) i) (slice_get (disks_of trails (slice_set vs n is)) i)
volume_fused counts trails vs n disk was is there same rose zero = sym (ap (λ (b : Bool). if b then fused (counts trails.disk) else counts trails.disk) (ne_eqb zero disk (λ e. absurd (omega (arith, e, same)))))
volume_fused counts trails vs n disk was is there same rose (suc v) =
    set_fused counts (λ k. suc k == disk) vs n was is there (eq-eqb (suc n) disk (sym same)) (λ k ne. ne_eqb (suc k) disk (λ e. ne (omega (arith, e, same)))) rose v
