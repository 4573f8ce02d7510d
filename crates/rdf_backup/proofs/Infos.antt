-- What a backup tells of each volume.
use Rattle.std.proofs.Common.{◌≡◌, ◌≢◌, ℕ, zero, suc, ◌+◌, ◌<◌, ◌≤◌, Bool, true, false, if◌then◌else◌, List, [], ◌∷◌, ◌++◌, length, take, drop, get_or, map, Option, Some, None, IfSome, Result, Ok, refl, sym, ap, ap₂, ◌∙◌, subst, arith}
use Rattle.std.specs.Prelude.{slice_get}
use Rattle.std.proofs.lemmas.List.{append_assoc, append-nil, drop_more}
use Rattle.rdf_types.specs.declared.layout.Layout.{Layout}
use Rattle.rdf_types.specs.declared.records.Node.{Node}
use Rattle.rdf_types.specs.declared.records.Phase.{Phase}
use Rattle.rdf_types.specs.declared.records.Phase.TheVariants as phase
use Rattle.rdf_disk.specs.Files.{Disk}
use Rattle.rdf_disk.specs.declared.disk.Disk.{Ghosts}
use Rattle.rdf_model.specs.Window.{low}
use Rattle.plan_lang.specs.declared.lines.Line.TheVariants as line
use Rattle.rdf_volume.specs.declared.volume.Volume.{Volume}
use Rattle.rdf_volume.specs.Views.{rows_of, restart_of}
use Rattle.rdf_core.specs.declared.replies.VolInfo.{VolInfo}
use Rattle.rdf_core.specs.declared.replies.NoWhy.{NoWhy}
use Rattle.rdf_core.specs.declared.replies.NoWhy.TheVariants as no
use Rattle.rdf_core.specs.declared.replies.Reply.{Reply}
use Rattle.rdf_core.specs.declared.replies.Reply.TheVariants.{No, Info}
use Rattle.rdf_core.specs.Effects.{IsDone}
use Rattle.rdf_core.specs.Layouts.{protects}
use Rattle.rdf_core.specs.Backup.{Around, volume_infos, points_in, info, needs_volumes}
use Rattle.rdf_backup.specs.declared.backup.Backup.{Backup}
use Rattle.rdf_backup.specs.Standing.{IsShownIf, IsShown}
use Rattle.rdf_backup.specs.States.{volumes_by, state_of, layout_of, value_of, Serves}
use Rattle.rdf_backup.specs.Replies.{Goes}
use Rattle.rdf_backup.specs.Refusals.{AnswersUnless, IsInfo}
use Rattle.rdf_backup.specs.StandingLaws.{serving_stands}
use Rattle.rdf_backup.proofs.Delivering.{refused_goes}
use Rattle.rdf_backup.proofs.RefusalLaws.{purge_barred, purge_free}

-- what is told from a volume on
abbrev pub infos_from : {D : Type 0} → ℕ → List ℕ → List Bool → List (Volume D) → List VolInfo
infos_from i trails flags volumes = volume_infos (drop i trails) (drop i flags) (map (λ volume. restart_of volume) (drop i volumes))

-- one volume more
pub infos_turn : {D : Type 0} (trails : List ℕ) (flags : List Bool) (volumes : List (Volume D)) (i : ℕ) (trail : ℕ) (flag : Bool) (volume : Volume D) → i < length trails → i < length flags → i < length volumes →
    trail ≡ get_or trails i trail → flag ≡ get_or flags i flag → volume ≡ get_or volumes i volume →
    infos_from i trails flags volumes ≡ record { trail = trail; protect = flag; at = restart_of volume } ∷ infos_from (i + 1) trails flags volumes
infos_turn {D = D} trails flags volumes i trail flag volume a b c e f g =
    ap₂ (λ (ts : List ℕ) (fs : List Bool). volume_infos ts fs (map (λ volume. restart_of volume) (drop i volumes))) (drop_more trails i trail a ∙ ap (λ (t : ℕ). t ∷ drop (i + 1) trails) (sym e)) (drop_more flags i flag b ∙ ap (λ (t : Bool). t ∷ drop (i + 1) flags) (sym f))
    ∙ ap (λ (vs : List (Volume D)). volume_infos (trail ∷ drop (i + 1) trails) (flag ∷ drop (i + 1) flags) (map (λ volume. restart_of volume) vs)) (drop_more volumes i volume c ∙ ap (λ (v : Volume D). v ∷ drop (i + 1) volumes) (sym g))

default_at : {X : Type 0} (xs : List X) (i : ℕ) (d x : X) → i < length xs → x ≡ get_or xs i d → x ≡ get_or xs i x
default_at [] i d x h e = absurd (omega (arith, h))
default_at (y ∷ xs) zero d x h e = e
default_at (y ∷ xs) (suc i) d x h e = default_at xs i d x (omega (arith, h)) e

-- one turn of the loop
pub infos_step : {D : Type 0} (trails : List ℕ) (flags : List Bool) (volumes : List (Volume D)) (i : ℕ) (made items : List VolInfo) (trail : ℕ) (flag : Bool) (at : ℕ) (volume : Volume D) → length volumes ≡ length trails → length volumes ≡ length flags → i < length volumes →
    trail ≡ get_or trails i 0 → flag ≡ get_or flags i false → at ≡ restart_of volume → volume ≡ get_or volumes i volume → items ≡ made ++ record { trail = trail; protect = flag; at = at } ∷ [] →
    made ++ infos_from i trails flags volumes ≡ items ++ infos_from (i + 1) trails flags volumes
infos_step trails flags volumes i made items trail flag at volume many each within a b c e pushed =
    ap (λ (l : List VolInfo). made ++ l) (infos_turn trails flags volumes i trail flag volume (omega (arith, many, within)) (omega (arith, each, within)) within
    (default_at trails i 0 trail (omega (arith, many, within)) a) (default_at flags i false flag (omega (arith, each, within)) b) e)
    ∙ ap (λ (k : ℕ). made ++ record { trail = trail; protect = flag; at = k } ∷ infos_from (i + 1) trails flags volumes) (sym c)
    ∙ sym (append_assoc made (record { trail = trail; protect = flag; at = at } ∷ []) (infos_from (i + 1) trails flags volumes))
    ∙ ap (λ (l : List VolInfo). l ++ infos_from (i + 1) trails flags volumes) (sym pushed)

-- none is left
pub infos_end : {D : Type 0} (trails : List ℕ) (flags : List Bool) (volumes : List (Volume D)) (i : ℕ) (made : List VolInfo) → length volumes ≡ length trails → length volumes ≤ i → made ++ infos_from i trails flags volumes ≡ made
infos_end trails flags volumes i made many done = ap (λ (ts : List ℕ). made ++ volume_infos ts (drop i flags) (map (λ volume. restart_of volume) (drop i volumes))) (none_left trails i (omega (arith, many, done))) ∙ append-nil made
  where
    none_left : (xs : List ℕ) (i : ℕ) → length xs ≤ i → drop i xs ≡ []
    none_left [] zero h = refl
    none_left [] (suc i) h = refl
    none_left (x ∷ xs) zero h = absurd (omega (arith, h))
    none_left (x ∷ xs) (suc i) h = none_left xs i (omega (arith, h))

-- a list of points by protection
points_by : {D : Type 0} (protect : List Bool) (n : ℕ) (vs : List (Volume D)) → length vs ≡ length protect → ((v : ℕ) → IfSome (slice_get vs v) (λ volume. restart_of volume ≡ (if get_or protect v false then n else 0))) →
    map (λ volume. restart_of volume) vs ≡ map (λ p. if p then n else 0) protect
points_by [] n [] many each = refl
points_by (p ∷ ps) n [] many each = absurd (omega (arith, many))
points_by [] n (v ∷ vs) many each = absurd (omega (arith, many))
points_by (p ∷ ps) n (v ∷ vs) many each = ap₂ (λ (m : ℕ) (ms : List ℕ). m ∷ ms) (each zero) (points_by ps n vs (omega (arith, many)) (λ k. each (suc k)))

-- what is told, over any disks
module _ {D : Type 0} {d : Ghosts D} (old : Backup D d) where
  pub infos_are : (infos made : List VolInfo) (l : Layout) (volumes : List (Volume D)) → infos ≡ made → made ≡ volume_infos l.trail_of l.protect (map (λ volume. restart_of volume) volumes) → volumes ≡ old.volumes.items → l ≡ layout_of old →
      infos ≡ volume_infos (layout_of old).trail_of (layout_of old).protect (map (λ volume. restart_of volume) old.volumes.items)
  infos_are infos made l volumes is told shown laid = is ∙ told ∙ ap₂ (λ (x : Layout) (vs : List (Volume D)). volume_infos x.trail_of x.protect (map (λ volume. restart_of volume) vs)) laid shown

  abbrev Said : {E : Type 0} → Option NoWhy → Result Reply E → Type 0
  Said o result = AnswersUnless o (λ r. IsInfo old r) result

  pub taking_said : (E : Type 0) → (value_of old).phase ≡ phase.Taking → Said {E = E} (needs_volumes (state_of 0 old)) (Ok (No no.Taking))
  taking_said E taking = subst (λ (o : Option NoWhy). Said {E = E} o (Ok (No no.Taking))) (sym (purge_barred old 0 taking)) refl

  pub info_said : (E : Type 0) → (value_of old).phase ≢ phase.Taking → (infos : List VolInfo) → infos ≡ volume_infos (layout_of old).trail_of (layout_of old).protect (map (λ volume. restart_of volume) old.volumes.items) → Said {E = E} (needs_volumes (state_of 0 old)) (Ok (Info infos))
  info_said E still infos is = subst (λ (o : Option NoWhy). Said {E = E} o (Ok (Info infos))) (sym (purge_free old 0 still)) (ap (λ (l : List VolInfo). let r : Reply = Info l in r) is)

module _ {D : Type 0} {d : Ghosts D} (files : D → Disk) (w : Around) (node : Node) (old : Backup D d) (serves : Serves files w.trail old) where
  many : length old.volumes.items ≡ length (layout_of old).protect
  many = old.sized ∙ sym (layout_of old).a_flag_each

  each : (P Q : Volume D → Type 0) (o : Option (Volume D)) → ((x : Volume D) → P x → Q x) → IfSome o P → IfSome o Q
  each P Q None f h = tt
  each P Q (Some x) f h = f x h

  -- the points that the machine tells are the restart points
  told : (p : Phase) → p ≢ phase.Taking → ((v : ℕ) → IfSome (slice_get old.volumes.items v) (λ volume. IsShown (layout_of old) w.trail (record (state_of 0 old) { volumes = volumes_by p (map (λ volume. restart_of volume) old.volumes.items) }) v (rows_of volume) (restart_of volume))) →
      points_in (layout_of old) w.trail (volumes_by p (map (λ volume. restart_of volume) old.volumes.items)) ≡ map (λ volume. restart_of volume) old.volumes.items
  told phase.Running still shown = refl
  told phase.Taking still shown = absurd (still refl)
  told (phase.Taken upto) still shown = sym (points_by (layout_of old).protect (low (protects (layout_of old)) (take upto w.trail)) old.volumes.items many
      (λ v. each (λ volume. IsShown (layout_of old) w.trail (record (state_of 0 old) { volumes = volumes_by (phase.Taken upto) (map (λ volume. restart_of volume) old.volumes.items) }) v (rows_of volume) (restart_of volume))
      (λ volume. restart_of volume ≡ (if get_or (layout_of old).protect v false then low (protects (layout_of old)) (take upto w.trail) else 0)) (slice_get old.volumes.items v) (λ volume h. one v volume (protects (layout_of old) v) h) (shown v)))
    where
      one : (v : ℕ) (volume : Volume D) (c : Bool) → IsShownIf c (layout_of old) w.trail (record (state_of 0 old) { volumes = volumes_by (phase.Taken upto) (map (λ volume. restart_of volume) old.volumes.items) }) v (rows_of volume) (restart_of volume) →
          restart_of volume ≡ (if c then low (protects (layout_of old)) (take upto w.trail) else 0)
      one v volume true h = h.0
      one v volume false h = h.1

  pub info_refused : (value_of old).phase ≡ phase.Taking → Goes files w (line.Info node) (No no.Taking) old old
  info_refused taking = refused_goes files w node 0 old serves (line.Info node) old no.Taking
      (λ stops. purge_barred old stops taking) refl refl refl

  pub info_goes : (value_of old).phase ≢ phase.Taking → (infos : List VolInfo) → infos ≡ volume_infos (layout_of old).trail_of (layout_of old).protect (map (λ volume. restart_of volume) old.volumes.items) →
      Goes files w (line.Info node) (Info infos) old old
  info_goes still infos is = record {
    answers = λ stops. subst (λ (o : Option NoWhy). IsDone o (λ _. state_of stops old) (state_of stops old) (λ reply. reply ≡ info (layout_of old) w.trail (state_of stops old)) (Info infos) (state_of stops old)) (sym (purge_free old stops still))
        (ap (λ (l : List VolInfo). let r : Reply = Info l in r) (is ∙ ap (λ (points : List ℕ). volume_infos (layout_of old).trail_of (layout_of old).protect points) (sym (told (value_of old).phase still serves.over.shown))), refl);
    laid = refl;
    serves = serves;
    stands = serving_stands files w.trail old serves;
  }
