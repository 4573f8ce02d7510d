-- A backup that was down, over all its disks.
use Rattle.std.proofs.Common.{◌≡◌, ℕ, zero, suc, ◌+◌, ◌-◌, ◌≤◌, Bool, true, false, nat_le, List, [], ◌∷◌, ◌++◌, length, map, take, fold, get_or, Option, Some, None, IfSome, if◌then◌else◌, refl, sym, ap, ap₂, ◌∙◌, subst, arith}
use Rattle.std.specs.Prelude.{slice_get}
use Rattle.std.proofs.lemmas.Bool.Decides.{nat_tests}
use Rattle.std.proofs.lemmas.List.{length-take, take_all}
use Rattle.rdf_types.specs.declared.layout.Layout.{Layout}
use Rattle.rdf_types.specs.declared.records.Record.{Record}
use Rattle.rdf_types.specs.declared.records.Stamped.{Stamped}
use Rattle.rdf_disk.specs.Files.{Disk}
use Rattle.rdf_disk.specs.Counts.{Counts}
use Rattle.rdf_disk.specs.Outcomes.{Durably, seen_of}
use Rattle.rdf_disk.specs.declared.disk.Disk.{Ghosts}
use Rattle.rdf_gatelog.specs.declared.fault.LogFault.{LogFault}
use Rattle.rdf_gatelog.specs.declared.fault.LogFault.TheVariants as log
use Rattle.rdf_model.specs.Window.{low, part}
use Rattle.rdf_model.specs.LowLaws.{low_within}
use Rattle.open_txns.specs.Noted.{noted, all_noted}
use Rattle.image_disks.specs.Spelled.{block_of}
use Rattle.image_disks.specs.Standing.{StandsFor as StandsForValue}
use Rattle.image_disks.specs.Values.{Value, received, kept, merged, listed, at_pos, first_of}
use Rattle.image_disks.specs.Held.{Holds}
use Rattle.image_trails.specs.declared.trails.ImageTrails.{ImageTrails}
use Rattle.image_trails.specs.Memory.{IsInUse, plan_of, value_in}
use Rattle.rdf_volume.specs.declared.volume.Volume.{Volume}
use Rattle.rdf_volume.specs.Views.{rows_of, restart_of, disk_of, InUse}
use Rattle.node_faults.specs.declared.NodeFault.{NodeFault}
use Rattle.node_faults.specs.declared.NodeFault.TheVariants as node
use Rattle.node_faults.specs.declared.Shut.{Shut}
use Rattle.node_faults.specs.Faults.{fault_at, IsNamed}
use Rattle.node_faults.specs.Openings.{IsNoDamage, Pairs, Rises, IsRaised, AreRaised, AreOn}
use Rattle.node_faults.specs.PairLaws.{no_damage}
use Rattle.node_disks.specs.Cuts.{Each}
use Rattle.node_disks.specs.CutLaws.{same_length, each_after, some_so}
use Rattle.node_disks.specs.PairLaws.{pairs_each}
use Rattle.node_disks.specs.declared.opening.Opening.{Opening}
use Rattle.node_disks.specs.Opening.{AreOpened, HasNotBegun, IsNotWhole}
use Rattle.node_disks.specs.OpeningLaws.{no_memory, rises_on, each_first, each_mapped, all_open, each_behind, first_named, first_told, whole_named, whole_told, pairs_whole, pairs_begun, pairs_first, pairs_not_whole}
use Rattle.rdf_core.specs.Layouts.{protects, point_of}
use Rattle.rdf_core.specs.Backup.{Backup as State, Volumes, Running, Taking, Taken, kept_of, phase_of}
use Rattle.rdf_core.specs.Sound.{IsSound, AreSound}
use Rattle.rdf_backup.proofs.RefusalLaws.{first_start}
use Rattle.rdf_backup.specs.declared.backup.Backup.{Backup}
use Rattle.rdf_backup.specs.Damage.{IsVolumeFlaw, IsFlawIn}
use Rattle.rdf_backup.specs.Opening.{IsOldTrails, IsShutTrails, IsOldVolume, IsShutVolume, IsOpenAgain, IsStillDown}
use Rattle.rdf_backup.specs.Parts.{KeptIsPart, noted_since}
use Rattle.rdf_backup.specs.Standing.{IsValueOf, IsProtected, IsShownIf, IsShown, TrailsStandFor, VolumeStandsFor, DiskStandsFor, BackupStandsFor}
use Rattle.rdf_backup.specs.States.{volumes_by, state_of, layout_of, value_of, disks_in, MayUse, AreOver}
use Rattle.rdf_backup.specs.Restarting.{KeepsStanding, AreAtZero, IsUpAgain, HasSpan, IsMadeOf}
use Rattle.rdf_backup.specs.StandingLaws.{shown_again}
use Rattle.rdf_backup.proofs.Delivering.{state_from}
use Rattle.rdf_backup.proofs.ReopeningLaws.{found_stands}

one_more : (at : ℕ) (r : Option Record) (rest : List Stamped) (n : ℕ) → length rest ≤ n → length (at_pos at r rest) ≤ suc n
one_more at None rest n few = omega (arith, few)
one_more at (Some r) rest n few = omega (arith, few)

-- no more entries than positions
listed_few : (f : ℕ → Option Record) (from n : ℕ) → length (listed f from n) ≤ n
listed_few f from zero = omega arith
listed_few f from (suc n) = one_more from (f from) (listed f (from + 1) n) n (listed_few f (from + 1) n)

pub listed_whole : (f : ℕ → Option Record) (from n : ℕ) → take n (listed f from n) ≡ listed f from n
listed_whole f from n = take_all n (listed f from n) (listed_few f from n)

least : (n : ℕ) → nat_le 0 n ≡ true
least n = grind (arith, nat_tests)

-- all entries are noted from position 0 on
pub noted_whole : (opens : List (ℕ × ℕ)) (entries : List Stamped) → noted_since 0 opens entries ≡ fold (λ (o : List (ℕ × ℕ)) (s : Stamped). noted o s.pos s.rec) opens entries
noted_whole opens [] = refl
noted_whole opens (s ∷ rest) =
    ap (λ (b : Bool). noted_since 0 (if b then noted opens s.pos s.rec else opens) rest) (least s.pos) ∙ noted_whole (noted opens s.pos s.rec) rest

-- what the image trails tell of the positions that the backup keeps
pub spans : (b : State) (v : Value) (from upto : ℕ) → IsValueOf b v → from ≡ kept v → upto ≡ received v → HasSpan b from upto
spans b v from upto value is_from is_upto = record { from = sym (first_start v.starts b (sym value.starts_are)) ∙ sym is_from; upto = sym value.received_is ∙ sym is_upto }

-- the restart points are these
points_are : {D : Type 0} (ws : List (Volume D)) (points : List ℕ) → length ws ≡ length points → ((i : ℕ) → IfSome (slice_get ws i) (λ volume. restart_of volume ≡ point_of points i)) → map (λ volume. restart_of volume) ws ≡ points
points_are [] [] many h = refl
points_are [] (p ∷ points) many h = absurd (omega (arith, many))
points_are (w ∷ ws) [] many h = absurd (omega (arith, many))
points_are (w ∷ ws) (p ∷ points) many h = ap₂ (λ (n : ℕ) (ns : List ℕ). n ∷ ns) (h zero) (points_are ws points (omega (arith, many)) (λ i. h (suc i)))

-- the volumes are as far as they were
volumes_again : {D : Type 0} (files : D → Disk) (layout : Layout) (trail : List Record) (b : State) (vs : Volumes) (ws : List (Volume D)) → length ws ≡ layout.volumes → b.volumes ≡ vs → AreSound layout trail b.received (kept_of b) vs → AreAtZero layout vs →
    ((i : ℕ) → IfSome (slice_get ws i) (λ volume. InUse files volume × IsShown layout trail b i (rows_of volume) (restart_of volume))) → volumes_by (phase_of vs) (map (λ volume. restart_of volume) ws) ≡ vs
volumes_again {D = D} files layout trail b (Running points) ws many is sound zeros h =
    ap (λ (ns : List ℕ). Running ns) (points_are ws points (many ∙ sym layout.a_flag_each ∙ sym sound.whole)
    (λ i. some_so (λ volume. InUse files volume × IsShown layout trail b i (rows_of volume) (restart_of volume)) (λ volume. restart_of volume ≡ point_of points i) (slice_get ws i) (λ volume f. at i volume (protects layout i) refl f.1) (h i)))
  where
    at : (i : ℕ) (volume : Volume D) (p : Bool) → protects layout i ≡ p → IsShown layout trail b i (rows_of volume) (restart_of volume) → restart_of volume ≡ point_of points i
    at i volume true on s =
        let t = subst (λ (q : Bool). IsShownIf q layout trail b i (rows_of volume) (restart_of volume)) on s in
        let u = subst (λ (w : Volumes). IsProtected layout trail b w i (rows_of volume) (restart_of volume)) is t in
        u.0
    at i volume false off s =
        let t = subst (λ (q : Bool). IsShownIf q layout trail b i (rows_of volume) (restart_of volume)) off s in
        t.1 ∙ sym (zeros i off)
volumes_again files layout trail b Taking ws many is sound zeros h = refl
volumes_again files layout trail b (Taken upto) ws many is sound zeros h = refl

-- the same backup, up, after other stops
sound_up : (layout : Layout) (trail : List Record) (b : State) (stops : ℕ) → IsSound layout trail b → IsSound layout trail (record b { up = true; stops = stops })
sound_up layout trail b stops s = record { within = s.within; some = s.some; low = s.low; volumes = s.volumes }

module _ {D : Type 0} {d : Ghosts D} (files : D → Disk) (layout : Layout) (trail : List Record) (b : State) (trails : ImageTrails D) (o : Opening D (Volume D)) (opens : List (ℕ × ℕ)) (new : Backup D d) (made : IsMadeOf trails o opens new)
    (laid : trails.memory.layout ≡ layout) where
  made_laid : layout_of new ≡ layout
  made_laid = ap (λ (t : ImageTrails D). t.memory.layout) made.trails_are ∙ laid

  module _ (all rest : List D) (first : D) (split : all ≡ first ∷ rest) (stands : BackupStandsFor files layout trail b all) (in_use : IsInUse block_of trails.memory (files trails.disk))
      (found : (i : ℕ) → IfSome (slice_get o.opened.items i) (λ volume. InUse files volume × IsShown layout trail b i (rows_of volume) (restart_of volume))) where
    each : (i : ℕ) → IfSome (slice_get new.volumes.items i) (λ volume. InUse files volume × IsShown layout trail b i (rows_of volume) (restart_of volume))
    each i = subst (λ vs. IfSome (slice_get vs.items i) (λ volume. InUse files volume × IsShown layout trail b i (rows_of volume) (restart_of volume))) (sym made.volumes_are) (found i)

    made_usable : MayUse files new
    made_usable = record {
      trails = subst (λ (t : ImageTrails D). IsInUse block_of t.memory (files t.disk)) (sym made.trails_are) in_use;
      volume = λ i. some_so (λ volume. InUse files volume × IsShown layout trail b i (rows_of volume) (restart_of volume)) (λ volume. InUse files volume) (slice_get new.volumes.items i) (λ volume f. f.0) (each i);
    }

    module _ (zeros : AreAtZero layout b.volumes) (value : IsValueOf b (value_in trails.memory)) (holds : Holds (plan_of layout) trail (value_in trails.memory))
        (law : KeptIsPart) (noted_are : opens ≡ all_noted (listed (merged (value_in trails.memory)) (kept (value_in trails.memory)) (received (value_in trails.memory) - kept (value_in trails.memory)))) where
      value_now : IsValueOf b (value_of new)
      value_now = subst (λ (t : ImageTrails D). IsValueOf b (value_in t.memory)) (sym made.trails_are) value

      far : volumes_by (value_of new).phase (map (λ volume. restart_of volume) new.volumes.items) ≡ b.volumes
      far =
          ap (λ p. volumes_by p (map (λ volume. restart_of volume) new.volumes.items)) value_now.phase_is
          ∙ volumes_again files layout trail b b.volumes new.volumes.items (new.sized ∙ ap (λ (l : Layout). l.volumes) made_laid) refl stands.sound.volumes zeros each

      state_now : (stops : ℕ) → state_of stops new ≡ record b { up = true; stops = stops }
      state_now stops = state_from (record b { up = true; stops = stops }) stops (value_of new) new.volumes.items refl refl (sym far)
          (record { received_is = value_now.received_is; starts_are = value_now.starts_are; number_is = value_now.number_is; phase_is = value_now.phase_is })

      early : kept (value_in trails.memory) ≡ kept_of b
      early = first_start (value_in trails.memory).starts b (sym value.starts_are)

      rising : kept (value_in trails.memory) ≤ received (value_in trails.memory)
      rising =
          let few = low_within (protects layout) (take b.received trail) in
          let most = length-take b.received trail in
          let down = stands.sound.low in
          omega (arith, early, down, few, most, value.received_is)

      over : AreOver layout trail (value_of new) new.volumes.items new.txns
      over = record {
        legal = stands.legal;
        sound = λ stops. subst (λ (s : State). IsSound layout trail s) (sym (state_now stops)) (sound_up layout trail b stops stands.sound);
        holds = subst (λ (t : ImageTrails D). Holds (plan_of layout) trail (value_in t.memory)) (sym made.trails_are) holds;
        shown = λ i. some_so (λ volume. InUse files volume × IsShown layout trail b i (rows_of volume) (restart_of volume)) (λ volume. IsShown layout trail (state_of 0 new) i (rows_of volume) (restart_of volume)) (slice_get new.volumes.items i)
            (λ volume f. subst (λ (s : State). IsShown layout trail s i (rows_of volume) (restart_of volume)) (sym (state_now 0)) (shown_again layout trail b (record b { up = true; stops = 0 }) i (rows_of volume) (restart_of volume) refl refl refl f.1)) (each i);
        open_ones = record {
          start = kept (value_in trails.memory);
          early = subst (λ (n : ℕ). kept (value_in trails.memory) ≤ n) (ap (λ n. low (protects layout) (take n trail)) (sym value_now.received_is)) (subst (λ (n : ℕ). n ≤ low (protects layout) (take b.received trail)) (sym early) stands.sound.low);
          noted = made.txns_are ∙ noted_are ∙ ap (λ (ps : List Stamped). all_noted ps) (law layout trail (value_in trails.memory) holds rising) ∙ ap (λ (n : ℕ). all_noted (part (protects layout) (kept (value_in trails.memory)) (take n trail))) (ap (λ (t : ImageTrails D). received (value_in t.memory)) (sym made.trails_are));
        };
      }

      up_again : IsUpAgain files trail b new
      up_again = record {
        state = state_now b.stops;
        serves = record {
          usable = made_usable;
          over = subst (λ (l : Layout). AreOver l trail (value_of new) new.volumes.items new.txns) (sym made_laid) over;
        };
      }

-- disks that stand each for what it stood for stand for the same backup
stands_on : {D : Type 0} (files : D → Disk) (layout : Layout) (trail : List Record) (b : State) (old new : List D) → BackupStandsFor files layout trail b old → Each (λ i x y. KeepsStanding files layout i x y) old new → BackupStandsFor files layout trail b new
stands_on files layout trail b old new stands each = record {
  legal = stands.legal;
  sound = stands.sound;
  count = same_length (λ i x y. KeepsStanding files layout i x y) old new each ∙ stands.count;
  disk = each_after (λ i x y. KeepsStanding files layout i x y) (λ i x. Durably (files x) (DiskStandsFor layout trail b i)) (λ i y. Durably (files y) (DiskStandsFor layout trail b i)) old new (λ i x y keeps h. keeps trail b h) each stands.disk;
}

-- disks that were opened by places, where what each stood for it stands for
kept_on : {D : Type 0} (files : D → Disk) (layout : Layout) (trail : List Record) (b : State) (why : Option NodeFault) (old new : List D) → Pairs (λ n f x y. KeepsStanding files layout n x y) 0 why old new → BackupStandsFor files layout trail b old → BackupStandsFor files layout trail b new
kept_on files layout trail b why old new pairs stands = stands_on files layout trail b old new stands (pairs_each (λ n f x y. KeepsStanding files layout n x y) why old new pairs)

module _ {D : Type 0} (files : D → Disk) (layout : Layout) (all rest : List D) (first : D) (split : all ≡ first ∷ rest) where
  first_stood : (trail : List Record) (b : State) → BackupStandsFor files layout trail b all → Durably (files first) (TrailsStandFor layout trail b)
  first_stood trail b stands = subst (λ (l : List D). (i : ℕ) → IfSome (slice_get l i) (λ d. Durably (files d) (DiskStandsFor layout trail b i))) split stands.disk zero

  others_stood : (trail : List Record) (b : State) → BackupStandsFor files layout trail b all → (i : ℕ) → IfSome (slice_get rest i) (λ d. Durably (files d) (VolumeStandsFor layout trail b i))
  others_stood trail b stands = each_behind (λ i d. Durably (files d) (DiskStandsFor layout trail b i)) all rest first split stands.disk

  -- damage of a volume that could not be opened is a flaw of its disk
  volume_flawed : (value : Value) → StandsForValue block_of (plan_of layout) value (seen_of (files first)) → (i : ℕ) (x : D) (fault : LogFault) → slice_get rest i ≡ Some x →
      IsVolumeFlaw (protects layout i) (kept value) (received value) (seen_of (files x)) fault → IsFlawIn files layout all (fault_at (suc i) fault)
  volume_flawed value stands i x log.Stopped there h = tt
  volume_flawed value stands i x log.Failed there h = tt
  volume_flawed value stands i x log.NoMemory there h = tt
  volume_flawed value stands i x (log.Damaged file at) there h = subst (λ (l : List D). IsFlawIn files layout l (node.Damaged (suc i) file at)) (sym split)
      (record { first = first; is_first = refl; disk = x; there = there; flaw = (value, stands, h) })

  trails_flawed : (tells : Type 0) (counts : D → Counts) (y : D) (fault : LogFault) → tells → IsShutTrails tells files counts layout first y fault → IsFlawIn files layout all (fault_at 0 fault)
  trails_flawed tells counts y log.Stopped t h = tt
  trails_flawed tells counts y log.Failed t h = tt
  trails_flawed tells counts y log.NoMemory t h = tt
  trails_flawed tells counts y (log.Damaged file at) t h = subst (λ (l : List D). IsFlawIn files layout l (node.Damaged 0 file at)) (sym split)
      (record { first = first; is_first = refl; disk = first; there = refl; flaw = h.damaged t file at refl })

-- the image trails could not be opened
pub begun_down : {D : Type 0} (tells : Type 0) (files : D → Disk) (counts : D → Counts) (layout : Layout) (disks : List D) (shut : Shut D) → HasNotBegun (IsShutTrails tells files counts layout) disks shut → IsStillDown tells files counts layout disks shut
begun_down tells files counts layout disks shut not = record {
  err = λ t trail b stands. kept_on files layout trail b (Some shut.fault) disks shut.disks.items
      (pairs_begun (λ n e x y. KeepsStanding files layout n x y) (λ n x trail b h. h) (IsShutTrails tells files counts layout) disks shut (λ x y fault h. h.keeps t) not) stands;
  cause = pairs_begun (λ n e x y. Rises e (counts x) (counts y)) (λ n x. (refl, refl, refl)) (IsShutTrails tells files counts layout) disks shut (λ x y fault h. h.cause) not;
  named = first_named (IsShutTrails tells files counts layout) disks shut not (suc layout.volumes) (omega arith);
  sound = λ t trail b stands. first_told (IsShutTrails tells files counts layout) disks shut not (λ f. IsNoDamage (Some f)) no_memory
      (λ x y rest fault split h. no_damage 0 fault (fault_at 0 fault) refl (h.sound t trail b (first_stood files layout disks rest x split trail b stands)));
  damaged = λ t. first_told (IsShutTrails tells files counts layout) disks shut not (λ f. IsFlawIn files layout disks f) tt (λ x y rest fault split h. trails_flawed files layout disks rest x split tells counts y fault t h);
}

module _ {D : Type 0} (tells : Type 0) (files : D → Disk) (counts : D → Counts) (layout : Layout) (disks rest : List D) (first : D) (split : disks ≡ first ∷ rest) (many : length disks ≡ layout.volumes + 1)
    (trails : ImageTrails D) (old : IsOldTrails tells files counts layout first trails) where
  -- the image trails were opened, and then there was no memory
  pub memory_down : (shut : Shut D) → shut.disks.items ≡ trails.disk ∷ rest → shut.fault ≡ node.NoMemory → IsStillDown tells files counts layout disks shut
  memory_down shut back why = record {
    err = λ t trail b stands. kept_on files layout trail b (Some node.NoMemory) disks shut.disks.items
        (pairs_first (λ n e x y. KeepsStanding files layout n x y) (λ n x trail b h. h) disks rest shut.disks.items first trails.disk split back (old.stands t)) stands;
    cause = subst (λ f. AreRaised counts (Some f) disks shut.disks.items) (sym why)
        (pairs_first (λ n e x y. Rises e (counts x) (counts y)) (λ n x. (refl, refl, refl)) disks rest shut.disks.items first trails.disk split back (rises_on (counts first) (counts trails.disk) old.turned));
    named = subst (λ f. IsNamed (suc layout.volumes) f) (sym why) tt;
    sound = λ t trail b stands. subst (λ f. IsNoDamage (Some f)) (sym why) no_memory;
    damaged = λ t. subst (λ f. IsFlawIn files layout disks f) (sym why) tt;
  }

  module _ (from upto : ℕ) (is_from : from ≡ kept (value_in trails.memory)) (is_upto : upto ≡ received (value_in trails.memory)) (o : Opening D (Volume D))
      (is : AreOpened (IsOldVolume tells files counts layout) (IsShutVolume tells files counts layout from upto) 0 rest o.opened.items o.left.items o.fault) where
    abbrev Opens : ℕ → D → Volume D → Type 0
    Opens = IsOldVolume tells files counts layout

    abbrev Fails : ℕ → D → D → LogFault → Type 0
    Fails = IsShutVolume tells files counts layout from upto

    abbrev back : List D
    back = map (λ volume. disk_of volume) o.opened.items ++ o.left.items

    there : (trail : List Record) (b : State) → BackupStandsFor files layout trail b disks → (i : ℕ) (x : D) → slice_get rest i ≡ Some x → Durably (files x) (VolumeStandsFor layout trail b i)
    there trail b stands i x e = subst (λ (p : Option D). IfSome p (λ d. Durably (files d) (VolumeStandsFor layout trail b i))) e (others_stood files layout disks rest first split trail b stands i)

    -- a volume could not be opened
    pub made_down : (shut : Shut D) → IsNotWhole trails.disk back o.fault shut → IsStillDown tells files counts layout disks shut
    made_down shut not = record {
      err = λ t trail b stands. kept_on files layout trail b (Some shut.fault) disks shut.disks.items
          (pairs_not_whole (λ n e x y. KeepsStanding files layout n x y) (λ n x trail b h. h) Opens Fails (λ volume. disk_of volume) (λ n x volume h trail b stood. found_stands files layout n volume trail b (h.found t trail b stood)) (λ n x y fault h. h.keeps t)
          disks rest first trails.disk o.opened.items o.left.items o.fault shut split (old.stands t) is not) stands;
      cause = pairs_not_whole (λ n e x y. Rises e (counts x) (counts y)) (λ n x. (refl, refl, refl)) Opens Fails (λ volume. disk_of volume) (λ n x volume h. rises_on (counts x) (counts (disk_of volume)) h.turned) (λ n x y fault h. h.cause)
          disks rest first trails.disk o.opened.items o.left.items o.fault shut split (rises_on (counts first) (counts trails.disk) old.turned) is not;
      named = whole_named Opens Fails trails.disk rest o.opened.items o.left.items back o.fault is shut not (suc layout.volumes) (let more = ap (λ (l : List D). length l) split in omega (arith, many, more));
      sound = λ t trail b stands.
          let told = old.found t trail b (first_stood files layout disks rest first split trail b stands) in
          whole_told Opens Fails trails.disk rest o.opened.items o.left.items back o.fault is shut not (λ f. IsNoDamage (Some f)) no_memory
          (λ i x y fault e h. no_damage (suc i) fault (fault_at (suc i) fault) refl (h.sound t trail b (spans b (value_in trails.memory) from upto told.0 is_from is_upto) stands.sound (there trail b stands i x e)));
      damaged = λ t. whole_told Opens Fails trails.disk rest o.opened.items o.left.items back o.fault is shut not (λ f. IsFlawIn files layout disks f) tt
          (λ i x y fault e h. volume_flawed files layout disks rest first split (value_in trails.memory) (old.value t) i x fault e
          (subst (λ n. IsVolumeFlaw (protects layout i) n (received (value_in trails.memory)) (seen_of (files x)) fault) is_from (subst (λ n. IsVolumeFlaw (protects layout i) from n (seen_of (files x)) fault) is_upto (h.damaged t))));
    }

    module _ {d : Ghosts D} (opens : List (ℕ × ℕ)) (new : Backup D d) (made : IsMadeOf trails o opens new) (law : KeptIsPart)
        (noted_are : tells → IsInUse block_of trails.memory (files trails.disk) → opens ≡ all_noted (listed (merged (value_in trails.memory)) (kept (value_in trails.memory)) (received (value_in trails.memory) - kept (value_in trails.memory)))) where
      disks_are : disks_in new ≡ trails.disk ∷ map (λ volume. disk_of volume) o.opened.items
      disks_are = ap₂ (λ t vs. t.disk ∷ map (λ volume. disk_of volume) vs.items) made.trails_are made.volumes_are

      found : tells → (trail : List Record) (b : State) → BackupStandsFor files layout trail b disks → (i : ℕ) → IfSome (slice_get o.opened.items i) (λ volume. InUse files volume × IsShown layout trail b i (rows_of volume) (restart_of volume))
      found t trail b stands = each_first Opens Fails (λ i x. Durably (files x) (VolumeStandsFor layout trail b i)) (λ i volume. InUse files volume × IsShown layout trail b i (rows_of volume) (restart_of volume)) rest o.opened.items o.left.items o.fault
          (λ i x volume stood h. h.found t trail b stood) is (others_stood files layout disks rest first split trail b stands)

      all_on : AreOn counts (trails.disk ∷ map (λ volume. disk_of volume) o.opened.items)
      all_on zero = ap (λ c. c.off) old.turned
      all_on (suc i) = each_mapped (λ volume. disk_of volume) (λ j disk. (counts disk).off ≡ false) o.opened.items
          (all_open Opens Fails (λ j volume. (counts (disk_of volume)).off ≡ false) rest o.opened.items o.left.items o.fault (λ j x volume h. ap (λ c. c.off) h.turned) is) i

      -- all disks are open
      pub made_up : IsOpenAgain tells files counts layout disks new
      made_up = record {
        ok = λ t trail b stands zeros.
            let told = old.found t trail b (first_stood files layout disks rest first split trail b stands) in
            up_again files layout trail b trails o opens new made old.laid disks rest first split stands (old.in_use t) (found t trail b stands) zeros told.0 told.1 law (noted_are t (old.in_use t));
        usable = λ t trail b stands. made_usable files layout trail b trails o opens new made old.laid disks rest first split stands (old.in_use t) (found t trail b stands);
        laid = ap (λ (t : ImageTrails D). t.memory.layout) made.trails_are ∙ old.laid;
        on = subst (λ (l : List D). AreOn counts l) (sym disks_are) all_on;
        cause = pairs_whole Opens Fails (λ volume. disk_of volume) (IsRaised counts) (λ n x volume h. rises_on (counts x) (counts (disk_of volume)) h.turned) disks rest (disks_in new) first trails.disk o.opened.items o.left.items o.fault split disks_are made.no_fault
            (rises_on (counts first) (counts trails.disk) old.turned) is;
      }
