-- The marks of a takeover, and what it leaves where it is cut off.
use Rattle.std.proofs.Common.{◌≡◌, ◌≢◌, ℕ, zero, suc, ◌<◌, ◌≤◌, ◌==◌, if◌then◌else◌, Bool, true, false, List, [], ◌∷◌, length, map, Option, None, IfSome, refl, sym, ap, ◌∙◌, subst, arith, ◌⊎◌, inl, inr, ⊎_elim}
use Rattle.std.specs.Prelude.{slice_get}
use Rattle.std.specs.Option.{option_map}
use Rattle.std.proofs.lemmas.Bool.{eqb-true}
use Rattle.std.proofs.lemmas.List.{length-map}
use Rattle.std.proofs.lemmas.Option.{slice_get-map}
use Rattle.rdf_types.specs.declared.layout.Layout.{Layout}
use Rattle.rdf_types.specs.declared.records.Node.{Node}
use Rattle.rdf_types.specs.declared.records.Phase.{Phase}
use Rattle.rdf_types.specs.declared.records.Record.{Record}
use Rattle.rdf_disk.specs.Files.{Disk, Contents}
use Rattle.rdf_disk.specs.Outcomes.{Durably, MayAll}
use Rattle.rdf_disk.specs.declared.disk.Disk.{Ghosts}
use Rattle.rdf_model.specs.Contents.{nothing}
use Rattle.rdf_model.specs.Legal.{Legal}
use Rattle.plan_lang.specs.declared.lines.Line.TheVariants as line
use Rattle.image_disks.specs.Spelled.{block_of}
use Rattle.image_disks.specs.Values.{Value, received, marked}
use Rattle.image_disks.specs.Standing.{StandsFor as StandsForValue, StandsEither, OneValue}
use Rattle.image_disks.specs.Held.{Holds}
use Rattle.image_trails.specs.declared.trails.ImageTrails.{ImageTrails}
use Rattle.image_trails.specs.Keeps.{StandsHolding}
use Rattle.image_trails.specs.Memory.{plan_of}
use Rattle.rdf_volume.specs.declared.volume.Volume.{Volume}
use Rattle.rdf_volume.specs.Views.{disk_of}
use Rattle.rdf_core.specs.declared.replies.NoWhy.{NoWhy}
use Rattle.rdf_core.specs.declared.replies.Reply.{Reply}
use Rattle.rdf_core.specs.declared.replies.Reply.TheVariants.{Number}
use Rattle.rdf_core.specs.Effects.{IsDone, after_parts, after_all, parts_unless}
use Rattle.rdf_core.specs.Backup.{Backup as State, Around, Volumes, Running, Taking, Taken, phase_of, with_volumes, marks, takeover_parts, takeover_refusal, backup_refusal, backup_after, backup_says, backup_fallen}
use Rattle.rdf_core.specs.Sound.{IsSound}
use Rattle.rdf_core.specs.PartLaws.{none_done}
use Rattle.rdf_backup.specs.declared.backup.Backup.{Backup}
use Rattle.rdf_backup.specs.Disks.{disks_of}
use Rattle.rdf_backup.specs.Standing.{IsValueOf, VolumeStandsFor, DiskStandsFor, MayBe, ContentsStandFor, SomeStandsFor}
use Rattle.rdf_backup.specs.States.{state_of, layout_of, value_of, disks_in, Serves}
use Rattle.rdf_backup.specs.Replies.{parts_of, Breaks, Goes}
use Rattle.rdf_backup.specs.Taking.{taking, taken}
use Rattle.rdf_backup.specs.StandingLaws.{shown_again, serving_stands}
use Rattle.rdf_backup.proofs.Storing.{tells_alike}
use Rattle.rdf_backup.proofs.Breaking.{fallen_sound, fallen_tells}
use Rattle.node_disks.specs.CutLaws.{there_is}

-- the marks, by what was there before

module _ (b : State) where
  abbrev parts_by : Volumes → List State
  parts_by vs = map (λ v. with_volumes b v) (marks b.received vs)

  as_it_is : (vs : Volumes) → vs ≡ b.volumes → with_volumes b vs ≡ b
  as_it_is vs is = ap (λ v. with_volumes b v) is

  -- all of them leave the backup taken over
  pub all_marked : (vs : Volumes) → vs ≡ b.volumes → after_all b (parts_by vs) ≡ taken b
  all_marked (Running points) is = refl
  all_marked Taking is = refl
  all_marked (Taken upto) is = by_case (upto == b.received) refl
    where
      by_case : (c : Bool) → (upto == b.received) ≡ c → after_all b (map (λ v. with_volumes b v) (if c then [] else Taking ∷ Taken b.received ∷ [])) ≡ taken b
      by_case true same = sym (as_it_is (Taken upto) is) ∙ ap (λ n. with_volumes b (Taken n)) (eqb-true upto b.received same)
      by_case false other = refl

  -- and some of them leave it so, or under way, unless it was taken over
  pub some_marked : (vs : Volumes) → vs ≡ b.volumes → vs ≢ Taken b.received → (n : ℕ) → n ≤ 1 →
      (m : ℕ) × ((m ≤ length (parts_by vs)) × (after_parts b (parts_by vs) m ≡ after_parts (taking b) (taken b ∷ []) n))
  some_marked (Running points) is other n few = (suc n, (omega (arith, few), refl))
  some_marked Taking is other n few = (n, (few, ap (λ x. after_parts x (taken b ∷ []) n) (sym (as_it_is Taking is))))
  some_marked (Taken upto) is other n few = by_case (upto == b.received) refl
    where
      by_case : (c : Bool) → (upto == b.received) ≡ c → (m : ℕ) × ((m ≤ length (map (λ v. with_volumes b v) (if c then [] else Taking ∷ Taken b.received ∷ []))) × (after_parts b (map (λ v. with_volumes b v) (if c then [] else Taking ∷ Taken b.received ∷ [])) m ≡ after_parts (taking b) (taken b ∷ []) n))
      by_case true same = absurd (other (ap (λ n. Taken n) (eqb-true upto b.received same)))
      by_case false ne = (suc n, (omega (arith, few), refl))

-- a takeover changes nothing that makes a backup sound
pub taking_sound : (layout : Layout) (trail : List Record) (b : State) → IsSound layout trail b → IsSound layout trail (taking b)
taking_sound layout trail b h = record { within = h.within; some = h.some; low = h.low; volumes = tt }

pub taken_sound : (layout : Layout) (trail : List Record) (b : State) → IsSound layout trail b → IsSound layout trail (taken b)
taken_sound layout trail b h = record { within = h.within; some = h.some; low = h.low; volumes = (omega arith, λ v on. h.low) }

-- what a mark makes of what image trails tell
pub marked_tells : (b : State) (v : Value) (p : Phase) (vs : Volumes) → p ≡ phase_of vs → IsValueOf b v → IsValueOf (with_volumes b vs) (marked p v)
marked_tells b v p vs is h = record { received_is = h.received_is; starts_are = h.starts_are; number_is = h.number_is; phase_is = is }

-- contents that stand for a state
pub contents_stand : (layout : Layout) (trail : List Record) (x : State) (held : ℕ → Contents) → Legal nothing trail → IsSound layout trail x → DiskStandsFor layout trail x 0 (held 0) → ((v : ℕ) → v < layout.volumes → VolumeStandsFor layout trail x v (held (suc v))) → ContentsStandFor layout trail x held
contents_stand layout trail x held legal sound first volumes = record { legal = legal; sound = sound; disk = at }
  where
    at : (i : ℕ) → i ≤ layout.volumes → DiskStandsFor layout trail x i (held i)
    at zero few = first
    at (suc v) few = volumes v (omega (arith, few))

contents_fallen : (layout : Layout) (trail : List Record) (x : State) (held : ℕ → Contents) (rise : ℕ) → ContentsStandFor layout trail x held → ContentsStandFor layout trail (backup_fallen rise x) held
contents_fallen layout trail x held rise h = record { legal = h.legal; sound = fallen_sound layout trail rise x h.sound; disk = λ i few. at i (h.disk i few) }
  where
    at : (i : ℕ) → DiskStandsFor layout trail x i (held i) → DiskStandsFor layout trail (backup_fallen rise x) i (held i)
    at zero g = record { value = g.value; stands = g.stands; tells = fallen_tells rise x g.value g.tells; holds = g.holds }
    at (suc v) g = record { rows = g.rows; at = g.at; shows = shown_again layout trail x (backup_fallen rise x) v g.rows g.at refl refl refl g.shows; stands = g.stands }

-- a volume's contents, where each volume's disk durably stands so
pub volume_held : {D : Type 0} (files : D → Disk) (layout : Layout) (trail : List Record) (x : State) (trails : ImageTrails D) (volumes : List (Volume D)) (held : ℕ → Contents) → MayBe files (disks_of trails volumes) held →
    ((i : ℕ) → IfSome (slice_get volumes i) (λ volume. Durably (files (disk_of volume)) (VolumeStandsFor layout trail x i))) → (v : ℕ) → v < length volumes → VolumeStandsFor layout trail x v (held (suc v))
volume_held {D = D} files layout trail x trails volumes held may each v within =
    let one = there_is volumes v within in
    let same = slice_get-map (λ volume. disk_of volume) volumes v ∙ ap (λ o. option_map (λ volume. disk_of volume) o) one.1 in
    let here = subst (λ (o : Option (Volume D)). IfSome o (λ volume. Durably (files (disk_of volume)) (VolumeStandsFor layout trail x v))) one.1 (each v) in
    here (held (suc v)) (subst (λ (o : Option D). IfSome o (λ disk. MayAll (files disk) (held (suc v)))) same (may (suc v)))

-- what a mark that ended by a fault leaves on disk 0: what was told before, or the mark
pub marked_or_not : OneValue → (layout : Layout) (trail : List Record) (b : State) (v : Value) (p : Phase) (vs : Volumes) (c : Contents) → p ≡ phase_of vs → IsValueOf b v → Holds (plan_of layout) trail v →
    StandsEither block_of (plan_of layout) v (marked p v) c → StandsHolding block_of (plan_of layout) (λ records. Holds (plan_of layout) records v) c →
    DiskStandsFor layout trail b 0 c ⊎ DiskStandsFor layout trail (with_volumes b vs) 0 c
marked_or_not one layout trail b v p vs c is tells holds either held =
    ⊎_elim (λ (s : StandsForValue block_of (plan_of layout) v c). inl (told b v s tells))
    (λ (s : StandsForValue block_of (plan_of layout) (marked p v) c). inr (told (with_volumes b vs) (marked p v) s (marked_tells b v p vs is tells))) either
  where
    told : (x : State) (y : Value) → StandsForValue block_of (plan_of layout) y c → IsValueOf x y → DiskStandsFor layout trail x 0 c
    told x y s t = record {
      value = held.0;
      stands = held.1;
      tells = tells_alike x y held.0 (one block_of (plan_of layout) y held.0 c refl s held.1) t;
      holds = held.2 trail holds;
    }

module _ {D : Type 0} {d : Ghosts D} (files : D → Disk) (w : Around) (node : Node) (lost : w.lost ≡ true) (old : Backup D d) where
  abbrev state : ℕ → State
  state stops = state_of stops old

  unrefused : (stops : ℕ) → backup_refusal (layout_of old) w (state stops) (line.Takeover node) ≡ None
  unrefused stops = ap (λ l. takeover_refusal l (state stops)) lost

  parts_are : (stops : ℕ) → parts_of (layout_of old) w (state stops) (line.Takeover node) ≡ takeover_parts (state stops)
  parts_are stops = ap (λ (o : Option NoWhy). parts_unless o (takeover_parts (state stops))) (unrefused stops)

  -- whatever stops leave stands for what was, for a takeover under way, or for one that has ended
  abbrev Left : (ℕ → Contents) → State → Type 0
  Left held b = ContentsStandFor (layout_of old) w.trail b held ⊎ (ContentsStandFor (layout_of old) w.trail (taking b) held ⊎ ContentsStandFor (layout_of old) w.trail (taken b) held)

  pub left_breaks : (new : Backup D d) → length new.volumes.items ≡ (layout_of old).volumes → ((stops : ℕ) → (state stops).volumes ≢ Taken (received (value_of old))) →
      ((stops : ℕ) (held : ℕ → Contents) → MayBe files (disks_in new) held → Left held (state stops)) → Breaks files w (line.Takeover node) old new
  left_breaks new many other left = record {
    unrefused = unrefused;
    stands = λ stops rise. subst (λ (parts : List State). SomeStandsFor files (layout_of old) w.trail (length parts) (λ n. backup_fallen rise (after_parts (state stops) parts n)) (disks_in new)) (sym (parts_are stops))
        (record { count = counted; some = λ held may. found stops rise held (left stops held may) });
  }
    where
      counted : length (disks_in new) ≡ suc (layout_of old).volumes
      counted = ap suc (length-map new.volumes.items (λ volume. disk_of volume) ∙ many)

      at_state : (stops rise : ℕ) (held : ℕ → Contents) (x : State) (m : ℕ) → m ≤ length (takeover_parts (state stops)) → after_parts (state stops) (takeover_parts (state stops)) m ≡ x → ContentsStandFor (layout_of old) w.trail x held →
          (n : ℕ) × ((n ≤ length (takeover_parts (state stops))) × ContentsStandFor (layout_of old) w.trail (backup_fallen rise (after_parts (state stops) (takeover_parts (state stops)) n)) held)
      at_state stops rise held x m few is h = (m, (few, contents_fallen (layout_of old) w.trail (after_parts (state stops) (takeover_parts (state stops)) m) held rise (subst (λ s. ContentsStandFor (layout_of old) w.trail s held) (sym is) h)))

      found : (stops rise : ℕ) (held : ℕ → Contents) → Left held (state stops) →
          (n : ℕ) × ((n ≤ length (takeover_parts (state stops))) × ContentsStandFor (layout_of old) w.trail (backup_fallen rise (after_parts (state stops) (takeover_parts (state stops)) n)) held)
      found stops rise held some =
          let first = some_marked (state stops) (state stops).volumes refl (other stops) 0 (omega arith) in
          let second = some_marked (state stops) (state stops).volumes refl (other stops) 1 (omega arith) in
          ⊎_elim (λ (h : ContentsStandFor (layout_of old) w.trail (state stops) held). at_state stops rise held (state stops) 0 (omega arith) (none_done (state stops) (takeover_parts (state stops))) h)
          (λ (g : ContentsStandFor (layout_of old) w.trail (taking (state stops)) held ⊎ ContentsStandFor (layout_of old) w.trail (taken (state stops)) held).
          ⊎_elim (λ (h : ContentsStandFor (layout_of old) w.trail (taking (state stops)) held). at_state stops rise held (taking (state stops)) first.0 first.1.0 first.1.1 h)
          (λ (h : ContentsStandFor (layout_of old) w.trail (taken (state stops)) held). at_state stops rise held (taken (state stops)) second.0 second.1.0 second.1.1 h) g) some

  -- the takeover is done
  pub done_goes : (new : Backup D d) (told : ℕ) → told ≡ received (value_of old) → layout_of new ≡ layout_of old → Serves files w.trail new → ((stops : ℕ) → state_of stops new ≡ taken (state stops)) → Goes files w (line.Takeover node) (Number told) old new
  done_goes new told is laid serves same = record {
    answers = λ stops. subst (λ (o : Option NoWhy). IsDone o (λ _. state stops) (backup_after (layout_of old) w (state stops) (line.Takeover node)) (backup_says (layout_of old) w (state stops) (line.Takeover node)) (Number told) (state_of stops new))
        (sym (unrefused stops)) (ap (λ n. let r : Reply = Number n in r) is, same stops ∙ sym (all_marked (state stops) (state stops).volumes refl));
    laid = laid;
    serves = serves;
    stands = serving_stands files w.trail new serves;
  }
