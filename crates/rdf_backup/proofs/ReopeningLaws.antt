-- A disk of a backup that was down, turned on and opened.
use Rattle.std.proofs.Common.{◌≡◌, ℕ, ◌≤◌, Bool, true, false, ◌&&◌, nat_le, List, take, refl, sym, ap, ap₂, ◌∙◌, subst, inl, inr, arith}
use Rattle.std.proofs.lemmas.Bool.{eq-eqb, le-leb, true≢false, and_from}
use Rattle.std.proofs.lemmas.List.{length-take}
use Rattle.rdf_types.specs.declared.layout.Layout.{Layout}
use Rattle.rdf_types.specs.declared.records.Record.{Record}
use Rattle.rdf_disk.specs.Calls.{Same}
use Rattle.rdf_disk.specs.Counts.{Counts, turned_on}
use Rattle.rdf_disk.specs.Files.{Disk, Contents}
use Rattle.rdf_disk.specs.Outcomes.{Durably, Keeps, seen_of}
use Rattle.rdf_gatelog.specs.declared.fault.LogFault.{LogFault}
use Rattle.rdf_gatelog.specs.declared.fault.LogFault.TheVariants as log
use Rattle.rdf_model.specs.Volumes.{Rows}
use Rattle.rdf_model.specs.LowLaws.{low_within}
use Rattle.image_disks.specs.Spelled.{block_of}
use Rattle.image_disks.specs.Values.{Value, Alike}
use Rattle.image_disks.specs.Standing.{StandsFor as StandsForValue, SameValues}
use Rattle.image_disks.specs.Held.{Holds}
use Rattle.image_disks.specs.ValueLaws.{holds_alike}
use Rattle.image_trails.specs.Memory.{plan_of}
use Rattle.rdf_volume.specs.declared.volume.Volume.{Volume}
use Rattle.rdf_volume.specs.Flaws.{IsFlaw}
use Rattle.rdf_volume.specs.Standing.{StandsFor, StandsBy, SameVolume}
use Rattle.rdf_volume.specs.Views.{rows_of, restart_of, file_of, disk_of, InUse}
use Rattle.rdf_volume.specs.StandingLaws.{in_use_durably}
use Rattle.node_disks.specs.OpeningLaws.{seen_now, rises_on}
use Rattle.rdf_core.specs.Layouts.{protects}
use Rattle.rdf_core.specs.Backup.{Backup as State, Volumes, Running, Taking, Taken, kept_of}
use Rattle.rdf_core.specs.Sound.{AreSound, IsSound}
use Rattle.rdf_backup.specs.Damage.{IsOutOfPlace, IsVolumeFlaw}
use Rattle.rdf_backup.specs.Opening.{IsOldVolume, IsShutVolume}
use Rattle.rdf_backup.specs.Standing.{IsValueOf, IsProtected, IsShownIf, IsShown, TrailsStandFor, VolumeStandsFor}
use Rattle.rdf_backup.specs.Restarting.{IsFound, HasSpan, is_in_place}

-- what image trails that were opened tell and hold
pub found_trails : (layout : Layout) (m : Value) (x y : Disk) → Same x y → ((v : Value) → StandsForValue block_of (plan_of layout) v (seen_of y) → Alike m v) → (trail : List Record) (b : State) →
    Durably x (TrailsStandFor layout trail b) → IsValueOf b m × Holds (plan_of layout) trail m
found_trails layout m x y same only trail b h =
    let s = seen_now (TrailsStandFor layout trail b) x y same h in
    let a = only s.value s.stands in (
      record {
        received_is = a.top 0 (omega arith) ∙ s.tells.received_is;
        starts_are = a.starts ∙ s.tells.starts_are;
        number_is = a.last ∙ s.tells.number_is;
        phase_is = a.phase ∙ s.tells.phase_is;
      },
      holds_alike (plan_of layout) trail s.value m (record { starts = sym a.starts; last = sym a.last; phase = sym a.phase; top = λ t few. sym (a.top t few); entry = λ t i few. sym (a.entry t i few) }) s.holds,
    )

pub trails_kept : (layout : Layout) (trail : List Record) (b : State) (x y : Disk) → Keeps (SameValues block_of (plan_of layout)) x y → Durably x (TrailsStandFor layout trail b) → Durably y (TrailsStandFor layout trail b)
trails_kept layout trail b x y keeps h d may =
    let k = keeps d may in
    let s = h k.0 k.1 in
    record { value = s.value; stands = k.2 s.value s.stands; tells = s.tells; holds = s.holds }

pub volume_kept : (layout : Layout) (trail : List Record) (b : State) (v : ℕ) (x y : Disk) → Keeps SameVolume x y → Durably x (VolumeStandsFor layout trail b v) → Durably y (VolumeStandsFor layout trail b v)
volume_kept layout trail b v x y keeps h d may =
    let k = keeps d may in
    let s = h k.0 k.1 in
    record { rows = s.rows; at = s.at; shows = s.shows; stands = k.2 s.rows s.at s.stands }

module _ {D : Type 0} (files : D → Disk) (layout : Layout) (v : ℕ) (volume : Volume D) where
  -- what a mount finds of a volume that stood for something
  pub mounted_found : (x y : Disk) → Same x y → ((rows : Rows) (restart : ℕ) → StandsFor rows restart (seen_of y) → InUse files volume × (rows_of volume ≡ rows) × (restart_of volume ≡ restart)) →
      (trail : List Record) (b : State) → Durably x (VolumeStandsFor layout trail b v) → InUse files volume × IsShown layout trail b v (rows_of volume) (restart_of volume)
  mounted_found x y same found trail b h =
      let s = seen_now (VolumeStandsFor layout trail b v) x y same h in
      let f = found s.rows s.at s.stands in (
        f.0,
        subst (λ (n : ℕ). IsShown layout trail b v (rows_of volume) n) (sym f.2) (subst (λ (r : Rows). IsShown layout trail b v r s.at) (sym f.1) s.shows),
      )

  -- its disk stands for what it shows
  pub found_stands : (trail : List Record) (b : State) → InUse files volume × IsShown layout trail b v (rows_of volume) (restart_of volume) → Durably (files (disk_of volume)) (VolumeStandsFor layout trail b v)
  found_stands trail b h c may = record {
    rows = rows_of volume;
    at = restart_of volume;
    shows = h.1;
    stands = in_use_durably files volume h.0 c may;
  }

-- the restart point of a protected volume that is shown stands on what is kept
protected_placed : (layout : Layout) (trail : List Record) (b : State) (vs : Volumes) (v : ℕ) (rows : Rows) (at : ℕ) → AreSound layout trail b.received (kept_of b) vs → protects layout v ≡ true →
    IsProtected layout trail b vs v rows at → (kept_of b ≤ at) × (at ≤ b.received)
protected_placed layout trail b (Running points) v rows at sound on h = (subst (λ n. kept_of b ≤ n) (sym h.0) (sound.low v on), subst (λ n. n ≤ b.received) (sym h.0) (sound.high v on))
protected_placed layout trail b Taking v rows at sound on h = (h.0, h.1)
protected_placed layout trail b (Taken upto) v rows at sound on h = (
  subst (λ n. kept_of b ≤ n) (sym h.0) (sound.1 v on),
  let few = low_within (protects layout) (take upto trail) in
      let most = length-take upto trail in
      omega (arith, h.0, few, most, sound.0),
)

-- the restart point of a volume that is shown is in its place
pub shown_placed : (layout : Layout) (trail : List Record) (b : State) (v : ℕ) (rows : Rows) (at kept received : ℕ) (protected : Bool) → protects layout v ≡ protected → HasSpan b kept received → IsSound layout trail b →
    IsShown layout trail b v rows at → is_in_place protected kept received at ≡ true
shown_placed layout trail b v rows at kept received true on span sound h =
    let p = protected_placed layout trail b b.volumes v rows at sound.volumes on (subst (λ (p : Bool). IsShownIf p layout trail b v rows at) on h) in
    and_from (nat_le kept at) (nat_le at received) (le-leb kept at (subst (λ n. n ≤ at) span.from p.0)) (le-leb at received (subst (λ n. at ≤ n) span.upto p.1))
shown_placed layout trail b v rows at kept received false off span sound h =
    let p = subst (λ (p : Bool). IsShownIf p layout trail b v rows at) off h in
    eq-eqb at 0 p.1

-- damage of a volume that was not opened is a flaw
pub flaw_of : (protected : Bool) (kept received : ℕ) (c : Contents) (f : LogFault) → ((file at : ℕ) → f ≡ log.Damaged file at → IsFlaw c file at) → IsVolumeFlaw protected kept received c f
flaw_of protected kept received c log.Stopped h = tt
flaw_of protected kept received c log.Failed h = tt
flaw_of protected kept received c log.NoMemory h = tt
flaw_of protected kept received c (log.Damaged file at) h = inl (h file at refl)

-- a volume that was opened, whose restart point is out of place
pub out_of_place : (protected : Bool) (from upto : ℕ) (c : Contents) (file restart : ℕ) → ((own batches : ℕ) (rows : Rows) (at : ℕ) → StandsBy own batches rows at c → (file ≡ own) × (restart ≡ at)) → is_in_place protected from upto restart ≡ false →
    IsOutOfPlace protected from upto c file 0
out_of_place protected from upto c file restart told out = record {
  out = λ own batches rows at stands. let t = told own batches rows at stands in (t.0, ap (λ n. is_in_place protected from upto n) (sym t.1) ∙ out);
  at_is = refl;
}

-- A volume was mounted over a disk that was turned on. It is the volume that the disk stood for, and whatever is judged of its restart point is told.
module _ {D : Type 0} (tells : Type 0) (files : D → Disk) (counts : D → Counts) (layout : Layout) (v kept received : ℕ) (x : D) (volume : Volume D) (turned : counts (disk_of volume) ≡ turned_on (counts x)) (found : tells → IsFound files layout v x volume) where
  pub old_volume : (new : Volume D) → new ≡ volume → IsOldVolume tells files counts layout v x new
  old_volume new same = subst (λ (w : Volume D). IsOldVolume tells files counts layout v x w) (sym same) (record { found = found; turned = turned })

  pub shut_volume : (protected : Bool) (y : D) (fault : LogFault) → protected ≡ protects layout v →
      (tells → (own batches : ℕ) (rows : Rows) (restart : ℕ) → StandsBy own batches rows restart (seen_of (files x)) → (file_of volume ≡ own) × (restart_of volume ≡ restart)) →
      (y ≡ disk_of volume) × (fault ≡ log.Damaged (file_of volume) 0) × (is_in_place protected kept received (restart_of volume) ≡ false) → IsShutVolume tells files counts layout kept received v x y fault
  shut_volume protected y fault on told h = subst (λ (d : D). IsShutVolume tells files counts layout kept received v x d fault) (sym h.0) (subst (λ f. IsShutVolume tells files counts layout kept received v x (disk_of volume) f) (sym h.1) (record {
    keeps = λ t trail b stood. found_stands files layout v volume trail b (found t trail b stood);
    cause = rises_on (counts x) (counts (disk_of volume)) turned;
    sound = λ t trail b span sound stood file at e.
        true≢false (sym (shown_placed layout trail b v (rows_of volume) (restart_of volume) kept received protected (sym on) span sound (found t trail b stood).1) ∙ h.2);
    damaged = λ t. subst (λ p. IsVolumeFlaw p kept received (seen_of (files x)) (log.Damaged (file_of volume) 0)) on (inr (out_of_place protected kept received (seen_of (files x)) (file_of volume) (restart_of volume) (told t) h.2));
  }))
