-- How a takeover ends.
use Rattle.std.proofs.Common.{◌≡◌, ◌≢◌, ℕ, ◌<◌, ◌≤◌, true, List, [], ◌∷◌, length, take, map, Option, None, IfSome, Result, Ok, Err, refl, sym, ap, ◌∙◌, subst, arith, ◌⊎◌, inl, inr, ⊎_elim}
use Rattle.std.specs.Prelude.{slice_get}
use Rattle.rdf_types.specs.declared.layout.Layout.{Layout}
use Rattle.rdf_types.specs.declared.records.Node.{Node}
use Rattle.rdf_types.specs.declared.records.Phase.{Phase}
use Rattle.rdf_types.specs.declared.records.Phase.TheVariants as phase
use Rattle.rdf_types.specs.declared.records.Record.{Record}
use Rattle.rdf_disk.specs.Files.{Disk, Contents}
use Rattle.rdf_disk.specs.Outcomes.{Durably, MayAll}
use Rattle.rdf_disk.specs.declared.disk.Disk.{Ghosts}
use Rattle.rdf_model.specs.Window.{low, part}
use Rattle.open_txns.specs.Noted.{all_noted}
use Rattle.plan_lang.specs.declared.lines.Line.TheVariants as line
use Rattle.image_disks.specs.Spelled.{block_of}
use Rattle.image_disks.specs.Values.{Value, Alike, received, marked}
use Rattle.image_disks.specs.Standing.{StandsEither, OneValue}
use Rattle.image_disks.specs.Held.{Holds}
use Rattle.image_disks.specs.ValueLaws.{alike_sym}
use Rattle.image_trails.specs.declared.trails.ImageTrails.{ImageTrails}
use Rattle.image_trails.specs.Keeps.{StandsHolding}
use Rattle.image_trails.specs.Memory.{IsInUse, plan_of}
use Rattle.image_trails.specs.InUseLaws.{in_use_durably as trails_durably}
use Rattle.rdf_volume.specs.declared.volume.Volume.{Volume}
use Rattle.rdf_volume.specs.Views.{rows_of, restart_of, disk_of, InUse}
use Rattle.node_faults.specs.declared.NodeFault.{NodeFault}
use Rattle.rdf_core.specs.declared.replies.Reply.{Reply}
use Rattle.rdf_core.specs.declared.replies.Reply.TheVariants.{Number}
use Rattle.rdf_core.specs.Effects.{IsDone, after_parts, parts_unless}
use Rattle.rdf_core.specs.declared.replies.NoWhy.{NoWhy}
use Rattle.rdf_core.specs.Layouts.{protects}
use Rattle.rdf_core.specs.Backup.{Backup as State, Around, Volumes, Taking, Taken, phase_of, kept_of, with_volumes, takeover_parts, takeover_refusal, backup_refusal, backup_after, backup_says, backup_fallen}
use Rattle.rdf_core.specs.Sound.{IsSound}
use Rattle.node_disks.specs.CutLaws.{some_so as each}
use Rattle.rdf_backup.specs.declared.backup.Backup.{Backup}
use Rattle.rdf_backup.specs.declared.audit.KeptAudit.{KeptAudit}
use Rattle.rdf_backup.specs.Disks.{disks_of}
use Rattle.rdf_backup.specs.Standing.{IsValueOf, IsShown, VolumeStandsFor, DiskStandsFor, MayBe, ContentsStandFor, SomeStandsFor}
use Rattle.rdf_backup.specs.States.{volumes_by, state_by, state_of, layout_of, value_of, disks_in, AreOver, Serves}
use Rattle.rdf_backup.specs.Replies.{parts_of, Breaks, Goes, Ends}
use Rattle.rdf_backup.specs.Taking.{IsKeptBy, taking, taken, AreShown, AreLeft, AreInUse}
use Rattle.rdf_backup.specs.StandingLaws.{phase_by, tells_by, shown_again}
use Rattle.rdf_backup.proofs.Storing.{tells_alike}
use Rattle.rdf_backup.proofs.Delivering.{state_from}
use Rattle.rdf_backup.proofs.TakingLaws.{may_be_taken, FitsTaken}
use Rattle.rdf_backup.proofs.TakingLists.{each_both, in_use_left, left_taken}
use Rattle.rdf_backup.proofs.MarkLaws.{all_marked, some_marked, taking_sound, taken_sound, marked_tells, contents_stand, volume_held, marked_or_not, left_breaks, done_goes}

-- a mark is made
marked_value : {D : Type 0} {d : Ghosts D} (old : Backup D d) (value : Value) (p : Phase) (vs : Volumes) → ((points : List ℕ) → volumes_by p points ≡ vs) → Alike value (marked p (value_of old)) → (stops : ℕ) → IsValueOf (with_volumes (state_of stops old) vs) value
marked_value old value p vs by alike stops = tells_alike (with_volumes (state_of stops old) vs) (marked p (value_of old)) value (alike_sym value (marked p (value_of old)) alike)
    (marked_tells (state_of stops old) (value_of old) p vs (phase_by p [] ∙ ap (λ v. phase_of v) (by [])) (tells_by stops (value_of old) old.volumes.items))

pub marked_state : {D : Type 0} {d : Ghosts D} (old : Backup D d) (value : Value) (volumes : List (Volume D)) (p : Phase) (vs : Volumes) → ((points : List ℕ) → volumes_by p points ≡ vs) → Alike value (marked p (value_of old)) → (stops : ℕ) →
    state_by stops value volumes ≡ with_volumes (state_of stops old) vs
marked_state old value volumes p vs by alike stops =
    state_from (with_volumes (state_of stops old) vs) stops value volumes refl refl (sym (by points) ∙ ap (λ q. volumes_by q points) (sym alike.phase)) (marked_value old value p vs by alike stops)
  where
    points : List ℕ
    points = map (λ volume. restart_of volume) volumes

module _ {D : Type 0} {d : Ghosts D} (old new : Backup D d) (p : Phase) (vs : Volumes) (by : (points : List ℕ) → volumes_by p points ≡ vs) (alike : Alike (value_of new) (marked p (value_of old))) where
  state_now : (stops : ℕ) → state_of stops new ≡ with_volumes (state_of stops old) vs
  state_now stops = marked_state old (value_of new) new.volumes.items p vs by alike stops

  same_received : received (value_of new) ≡ received (value_of old)
  same_received = alike.top 0 (omega arith)

  pub marked_serves : (files : D → Disk) (trail : List Record) → layout_of new ≡ layout_of old → Serves files trail old → IsInUse block_of new.trails.memory (files new.trails.disk) → AreInUse files new.volumes.items → Holds (plan_of (layout_of old)) trail (value_of new) →
      ((stops : ℕ) → IsSound (layout_of old) trail (with_volumes (state_of stops old) vs)) →
      ((i : ℕ) → IfSome (slice_get new.volumes.items i) (λ volume. IsShown (layout_of old) trail (with_volumes (state_of 0 old) vs) i (rows_of volume) (restart_of volume))) → new.txns ≡ old.txns → Serves files trail new
  marked_serves files trail laid serves in_use volumes holds sound shown txns = record {
    usable = record { trails = in_use; volume = volumes };
    over = subst (λ l. AreOver l trail (value_of new) new.volumes.items new.txns) (sym laid) over;
  }
    where
      over : AreOver (layout_of old) trail (value_of new) new.volumes.items new.txns
      over = record {
        legal = serves.over.legal;
        sound = λ stops. subst (λ s. IsSound (layout_of old) trail s) (sym (state_now stops)) (sound stops);
        holds = holds;
        shown = λ i. subst (λ s. IfSome (slice_get new.volumes.items i) (λ volume. IsShown (layout_of old) trail s i (rows_of volume) (restart_of volume))) (sym (state_now 0)) (shown i);
        open_ones = record {
          start = serves.over.open_ones.start;
          early = subst (λ n. serves.over.open_ones.start ≤ low (protects (layout_of old)) (take n trail)) (sym same_received) serves.over.open_ones.early;
          noted = txns ∙ subst (λ n. old.txns ≡ all_noted (part (protects (layout_of old)) serves.over.open_ones.start (take n trail))) (sym same_received) serves.over.open_ones.noted;
        };
      }

not_by : (p : Phase) (points : List ℕ) (r : ℕ) → p ≢ phase.Taken r → volumes_by p points ≢ Taken r
not_by phase.Running points r h e = cc
not_by phase.Taking points r h e = cc
not_by (phase.Taken upto) points r h e = h (ap (λ n. phase.Taken n) (let f : upto ≡ r = cc in f))

-- not all is taken over
pub not_taken : {D : Type 0} {d : Ghosts D} (old : Backup D d) → (value_of old).phase ≢ phase.Taken (received (value_of old)) → (stops : ℕ) → (state_of stops old).volumes ≢ Taken (received (value_of old))
not_taken old other stops = not_by (value_of old).phase (map (λ volume. restart_of volume) old.volumes.items) (received (value_of old)) other

-- the volumes of a backup may be taken over
pub shown_taking : {D : Type 0} {d : Ghosts D} → FitsTaken → (files : D → Disk) (trail : List Record) (old : Backup D d) → Serves files trail old → (i : ℕ) → IfSome (slice_get old.volumes.items i) (λ volume. IsShown (layout_of old) trail (taking (state_of 0 old)) i (rows_of volume) (restart_of volume))
shown_taking {D = D} law files trail old serves i = each (λ (volume : Volume D). IsShown (layout_of old) trail (state_of 0 old) i (rows_of volume) (restart_of volume)) (λ volume. IsShown (layout_of old) trail (taking (state_of 0 old)) i (rows_of volume) (restart_of volume)) (slice_get old.volumes.items i)
    (λ volume h. may_be_taken (layout_of old) trail (state_of 0 old) law serves.over.legal (serves.over.sound 0) i (rows_of volume) (restart_of volume) h) (serves.over.shown i)

-- a fault of the node
pub failed : {D : Type 0} {d : Ghosts D} (files : D → Disk) (w : Around) (node : Node) (old new : Backup D d) (r : Result Reply NodeFault) (fault : NodeFault) → r ≡ Err fault → Breaks files w (line.Takeover node) old new → Ends files w (line.Takeover node) r old new
failed files w node old new r fault is h = subst (λ (r : Result Reply NodeFault). Ends files w (line.Takeover node) r old new) (sym is) h

-- the volumes of a backup in any state that they show
module _ {D : Type 0} {d : Ghosts D} (law : FitsTaken) (files : D → Disk) (w : Around) (node : Node) (lost : w.lost ≡ true) (old : Backup D d) (serves : Serves files w.trail old) where
  abbrev state : ℕ → State
  state stops = state_of stops old

  abbrev layout : Layout
  layout = layout_of old

  -- how often disks stopped says nothing of volumes
  again : (x y : State) (v : ℕ) (c : Contents) → y.volumes ≡ x.volumes → kept_of y ≡ kept_of x → y.received ≡ x.received → VolumeStandsFor layout w.trail x v c → VolumeStandsFor layout w.trail y v c
  again x y v c volumes kept same h = record { rows = h.rows; at = h.at; shows = shown_again layout w.trail x y v h.rows h.at volumes kept same h.shows; stands = h.stands }

  abbrev Each : State → List (Volume D) → Type 0
  Each x volumes = (i : ℕ) → IfSome (slice_get volumes i) (λ volume. Durably (files (disk_of volume)) (VolumeStandsFor layout w.trail x i))

  each_again : (x y : State) (volumes : List (Volume D)) → y.volumes ≡ x.volumes → kept_of y ≡ kept_of x → y.received ≡ x.received → Each x volumes → Each y volumes
  each_again x y volumes same kept received h i = each (λ volume. Durably (files (disk_of volume)) (VolumeStandsFor layout w.trail x i)) (λ volume. Durably (files (disk_of volume)) (VolumeStandsFor layout w.trail y i)) (slice_get volumes i)
      (λ volume g c may. again x y i c same kept received (g c may)) (h i)

  abbrev Shown : State → List (Volume D) → Type 0
  Shown x volumes = (i : ℕ) → IfSome (slice_get volumes i) (λ volume. IsShown layout w.trail x i (rows_of volume) (restart_of volume))

  shown_each : (x : State) (volumes : List (Volume D)) → AreInUse files volumes → Shown x volumes → Each x volumes
  shown_each x volumes use_ h i = each_both (λ volume. InUse files volume) (λ volume. IsShown layout w.trail x i (rows_of volume) (restart_of volume)) (λ volume. Durably (files (disk_of volume)) (VolumeStandsFor layout w.trail x i)) (slice_get volumes i)
      (λ volume u g. in_use_left layout w.trail (state 0) files x i volume u g) (use_ i) (h i)

  old_each : (stops : ℕ) → Each (state stops) old.volumes.items
  old_each stops = each_again (state 0) (state stops) old.volumes.items refl refl refl (shown_each (state 0) old.volumes.items serves.usable.volume serves.over.shown)

  taking_each : (stops : ℕ) → Each (taking (state stops)) old.volumes.items
  taking_each stops = each_again (taking (state 0)) (taking (state stops)) old.volumes.items refl refl refl (shown_each (taking (state 0)) old.volumes.items serves.usable.volume (shown_taking law files w.trail old serves))

  -- the contents stand for a state, where those of disk 0 and each volume's disk do
  stand_for : (x : State) (trails : ImageTrails D) (volumes : List (Volume D)) (held : ℕ → Contents) → length volumes ≡ layout.volumes → IsSound layout w.trail x → MayBe files (disks_of trails volumes) held → DiskStandsFor layout w.trail x 0 (held 0) → Each x volumes →
      ContentsStandFor layout w.trail x held
  stand_for x trails volumes held many sound may first each_one = contents_stand layout w.trail x held serves.over.legal sound first
      (λ v within. volume_held files layout w.trail x trails volumes held may each_one v (subst (λ n. v < n) (sym many) within))

  -- disk 0 as it was
  first_old : (stops : ℕ) (c : Contents) → MayAll (files old.trails.disk) c → DiskStandsFor layout w.trail (state stops) 0 c
  first_old stops c may = record {
    value = value_of old;
    stands = trails_durably block_of old.trails.memory (files old.trails.disk) serves.usable.trails c may;
    tells = tells_by stops (value_of old) old.volumes.items;
    holds = serves.over.holds;
  }

  -- the mark of a takeover under way is not made
  pub taking_breaks : OneValue → (new : Backup D d) → (value_of old).phase ≢ phase.Taken (received (value_of old)) → new.volumes ≡ old.volumes →
      Durably (files new.trails.disk) (StandsEither block_of (plan_of layout) (value_of old) (marked phase.Taking (value_of old))) →
      Durably (files new.trails.disk) (StandsHolding block_of (plan_of layout) (λ records. Holds (plan_of layout) records (value_of old))) → Breaks files w (line.Takeover node) old new
  taking_breaks one new other volumes either held_ = left_breaks files w node lost old new many (λ stops. not_taken old other stops)
      (λ stops held may. left stops held may)
    where
      many : length new.volumes.items ≡ layout.volumes
      many = ap (λ vs. length vs.items) volumes ∙ old.sized

      left : (stops : ℕ) (held : ℕ → Contents) → MayBe files (disks_in new) held →
          ContentsStandFor layout w.trail (state stops) held ⊎ (ContentsStandFor layout w.trail (taking (state stops)) held ⊎ ContentsStandFor layout w.trail (taken (state stops)) held)
      left stops held may =
          let here = subst (λ vs. MayBe files (disks_of new.trails vs.items) held) volumes may in
          ⊎_elim (λ (g : DiskStandsFor layout w.trail (state stops) 0 (held 0)). inl (stand_for (state stops) new.trails old.volumes.items held old.sized (serves.over.sound stops) here g (old_each stops)))
          (λ (g : DiskStandsFor layout w.trail (taking (state stops)) 0 (held 0)). inr (inl (stand_for (taking (state stops)) new.trails old.volumes.items held old.sized (taking_sound layout w.trail (state stops) (serves.over.sound stops)) here g (taking_each stops))))
          (marked_or_not one layout w.trail (state stops) (value_of old) phase.Taking Taking (held 0) refl (tells_by stops (value_of old) old.volumes.items) serves.over.holds (either (held 0) (may 0)) (held_ (held 0) (may 0)))

  module _ (is_taking : (value_of old).phase ≡ phase.Taking) where
    abbrev points_now : List ℕ
    points_now = map (λ volume. restart_of volume) old.volumes.items

    -- it is one under way
    pub under_way : (stops : ℕ) → state stops ≡ taking (state stops)
    under_way stops = ap (λ p. with_volumes (state stops) (volumes_by p points_now)) is_taking

    not_ended : (stops : ℕ) → (state stops).volumes ≢ Taken (received (value_of old))
    not_ended stops e = by_volumes (state stops).volumes (ap (λ s. s.volumes) (under_way stops)) e
      where
        by_volumes : (vs : Volumes) → vs ≡ Taking → vs ≢ Taken (received (value_of old))
        by_volumes vs g e = cc

    abbrev Left : ℕ → (ℕ → Contents) → Type 0
    Left stops held = ContentsStandFor layout w.trail (state stops) held ⊎ (ContentsStandFor layout w.trail (taking (state stops)) held ⊎ ContentsStandFor layout w.trail (taken (state stops)) held)

    -- no volume was called
    pub unread_breaks : (new : Backup D d) → length new.volumes.items ≡ length old.volumes.items → disks_in new ≡ disks_in old → Breaks files w (line.Takeover node) old new
    unread_breaks new many same = left_breaks files w node lost old new (many ∙ old.sized) not_ended
        (λ stops held may. let was = subst (λ ds. MayBe files ds held) same may in inl (stand_for (state stops) old.trails old.volumes.items held old.sized (serves.over.sound stops) was (first_old stops (held 0) (was 0)) (old_each stops)))

    taking_left : (new : Backup D d) → length new.volumes.items ≡ layout.volumes → AreLeft files layout w.trail (state 0) new.volumes.items →
        (stops : ℕ) (held : ℕ → Contents) → MayBe files (disks_in new) held → DiskStandsFor layout w.trail (taking (state stops)) 0 (held 0) → ContentsStandFor layout w.trail (taking (state stops)) held
    taking_left new many left stops held may first = stand_for (taking (state stops)) new.trails new.volumes.items held many (taking_sound layout w.trail (state stops) (serves.over.sound stops)) may first
        (each_again (taking (state 0)) (taking (state stops)) new.volumes.items refl refl refl left)

    -- a volume was not taken over
    pub volume_breaks : (new : Backup D d) → new.trails.disk ≡ old.trails.disk → length new.volumes.items ≡ length old.volumes.items → AreLeft files layout w.trail (state 0) new.volumes.items → Breaks files w (line.Takeover node) old new
    volume_breaks new disk same left = left_breaks files w node lost old new (same ∙ old.sized) not_ended
        (λ stops held may. inr (inl (taking_left new (same ∙ old.sized) left stops held may
        (subst (λ s. DiskStandsFor layout w.trail s 0 (held 0)) (under_way stops) (first_old stops (held 0) (subst (λ x. MayAll (files x) (held 0)) disk (may 0)))))))

    module _ (audit : KeptAudit) (is : IsKeptBy layout w.trail (state 0) audit) (new : Backup D d) (same : length new.volumes.items ≡ length old.volumes.items) (in_use : AreInUse files new.volumes.items)
        (done : AreShown layout w.trail (taken (state 0)) new.volumes.items) (upto : ℕ) (upto_is : upto ≡ received (value_of old)) where
      abbrev end : Volumes
      end = Taken (received (value_of old))

      phase_is : phase.Taken upto ≡ phase_of end
      phase_is = ap (λ n. phase.Taken n) upto_is

      -- all volumes are taken over, but the mark is not made
      pub mark_breaks : OneValue → Durably (files new.trails.disk) (StandsEither block_of (plan_of layout) (value_of old) (marked (phase.Taken upto) (value_of old))) →
          Durably (files new.trails.disk) (StandsHolding block_of (plan_of layout) (λ records. Holds (plan_of layout) records (value_of old))) → Breaks files w (line.Takeover node) old new
      mark_breaks one either held_ = left_breaks files w node lost old new (same ∙ old.sized) not_ended (λ stops held may. left stops held may)
        where
          left : (stops : ℕ) (held : ℕ → Contents) → MayBe files (disks_in new) held → Left stops held
          left stops held may =
              ⊎_elim (λ (g : DiskStandsFor layout w.trail (taking (state stops)) 0 (held 0)). inr (inl (taking_left new (same ∙ old.sized)
              (left_taken layout w.trail (state 0) law audit is files new.volumes.items in_use done) stops held may g)))
              (λ (g : DiskStandsFor layout w.trail (taken (state stops)) 0 (held 0)). inr (inr (stand_for (taken (state stops)) new.trails new.volumes.items held (same ∙ old.sized) (taken_sound layout w.trail (state stops) (serves.over.sound stops)) may g
              (each_again (taken (state 0)) (taken (state stops)) new.volumes.items refl refl refl (shown_each (taken (state 0)) new.volumes.items in_use done)))))
              (marked_or_not one layout w.trail (taking (state stops)) (value_of old) (phase.Taken upto) end (held 0) phase_is
              (subst (λ s. IsValueOf s (value_of old)) (under_way stops) (tells_by stops (value_of old) old.volumes.items)) serves.over.holds (either (held 0) (may 0)) (held_ (held 0) (may 0)))

      -- the mark is made
      pub mark_goes : IsInUse block_of new.trails.memory (files new.trails.disk) → Alike (value_of new) (marked (phase.Taken upto) (value_of old)) → layout_of new ≡ layout_of old → Holds (plan_of layout) w.trail (value_of new) → new.txns ≡ old.txns →
          Goes files w (line.Takeover node) (Number upto) old new
      mark_goes trails alike laid holds txns = done_goes files w node lost old new upto upto_is laid
          (marked_serves old new (phase.Taken upto) end by alike files w.trail laid serves trails in_use holds (λ stops. taken_sound layout w.trail (state stops) (serves.over.sound stops)) done txns)
          (λ stops. marked_state old (value_of new) new.volumes.items (phase.Taken upto) end by alike stops)
        where
          by : (points : List ℕ) → volumes_by (phase.Taken upto) points ≡ end
          by points = ap (λ n. Taken n) upto_is

-- a takeover that is under way
pub is_under_way : {D : Type 0} {d : Ghosts D} (old : Backup D d) → (value_of old).phase ≡ phase.Taking → (stops : ℕ) → state_of stops old ≡ taking (state_of stops old)
is_under_way old is stops = ap (λ p. with_volumes (state_of stops old) (volumes_by p (map (λ volume. restart_of volume) old.volumes.items))) is

-- from a takeover under way to the line as a whole
module _ {D : Type 0} {d : Ghosts D} (files : D → Disk) (w : Around) (node : Node) (lost : w.lost ≡ true) (old between new : Backup D d) (laid : layout_of between ≡ layout_of old)
    (under_way_now : (stops : ℕ) → state_of stops between ≡ taking (state_of stops old)) where
  abbrev before : ℕ → State
  before stops = state_of stops old

  unrefused : (b : State) → takeover_refusal true b ≡ None → backup_refusal (layout_of old) w b (line.Takeover node) ≡ None
  unrefused b h = ap (λ l. takeover_refusal l b) lost ∙ h

  abbrev IsDoneOn : Layout → State → Reply → State → Type 0
  IsDoneOn l b reply x = IsDone (backup_refusal l w b (line.Takeover node)) (λ _. b) (backup_after l w b (line.Takeover node)) (backup_says l w b (line.Takeover node)) reply x

  done : (stops : ℕ) (reply : Reply) (x : State) → IsDoneOn (layout_of between) (state_of stops between) reply x → IsDoneOn (layout_of old) (before stops) reply x
  done stops reply x h =
      let on_old : IsDoneOn (layout_of old) (state_of stops between) reply x = subst (λ l. IsDoneOn l (state_of stops between) reply x) laid h in
      let on_taking : IsDoneOn (layout_of old) (taking (before stops)) reply x = subst (λ b. IsDoneOn (layout_of old) b reply x) (under_way_now stops) on_old in
      let both = subst (λ (o : Option NoWhy). IsDone o (λ _. taking (before stops)) (backup_after (layout_of old) w (taking (before stops)) (line.Takeover node)) (backup_says (layout_of old) w (taking (before stops)) (line.Takeover node)) reply x)
      (unrefused (taking (before stops)) refl) on_taking in
      subst (λ (o : Option NoWhy). IsDone o (λ _. before stops) (backup_after (layout_of old) w (before stops) (line.Takeover node)) (backup_says (layout_of old) w (before stops) (line.Takeover node)) reply x)
      (sym (unrefused (before stops) refl)) (both.0, both.1 ∙ sym (all_marked (before stops) (before stops).volumes refl))

  then_goes : (reply : Reply) → Goes files w (line.Takeover node) reply between new → Goes files w (line.Takeover node) reply old new
  then_goes reply h = record {
    answers = λ stops. done stops reply (state_of stops new) (h.answers stops);
    laid = h.laid ∙ laid;
    serves = h.serves;
    stands = h.stands;
  }

  module _ (other : (stops : ℕ) → (before stops).volumes ≢ Taken (received (value_of old))) where
    abbrev parts : Layout → State → List State
    parts l b = parts_of l w b (line.Takeover node)

    abbrev SomeStands : Layout → State → List State → ℕ → Type 0
    SomeStands l b after rise = SomeStandsFor files l w.trail (length after) (λ n. backup_fallen rise (after_parts b after n)) (disks_in new)

    parts_are : (b : State) → takeover_refusal true b ≡ None → parts (layout_of old) b ≡ takeover_parts b
    parts_are b h = ap (λ (o : Option NoWhy). parts_unless o (takeover_parts b)) (unrefused b h)

    then_stands : (stops rise : ℕ) → SomeStands (layout_of between) (state_of stops between) (parts (layout_of between) (state_of stops between)) rise → SomeStands (layout_of old) (before stops) (parts (layout_of old) (before stops)) rise
    then_stands stops rise h =
        let on_old : SomeStands (layout_of old) (state_of stops between) (parts (layout_of old) (state_of stops between)) rise = subst (λ l. SomeStands l (state_of stops between) (parts l (state_of stops between)) rise) laid h in
        let on_taking : SomeStands (layout_of old) (taking (before stops)) (parts (layout_of old) (taking (before stops))) rise = subst (λ b. SomeStands (layout_of old) b (parts (layout_of old) b) rise) (under_way_now stops) on_old in
        let one : SomeStands (layout_of old) (taking (before stops)) (taken (before stops) ∷ []) rise = subst (λ (l : List State). SomeStands (layout_of old) (taking (before stops)) l rise) (parts_are (taking (before stops)) refl) on_taking in
        subst (λ (l : List State). SomeStands (layout_of old) (before stops) l rise) (sym (parts_are (before stops) refl)) (record { count = one.count; some = λ held may. found held (one.some held may) })
      where
        found : (held : ℕ → Contents) → (n : ℕ) × ((n ≤ 1) × ContentsStandFor (layout_of old) w.trail (backup_fallen rise (after_parts (taking (before stops)) (taken (before stops) ∷ []) n)) held) →
            (n : ℕ) × ((n ≤ length (takeover_parts (before stops))) × ContentsStandFor (layout_of old) w.trail (backup_fallen rise (after_parts (before stops) (takeover_parts (before stops)) n)) held)
        found held (n, (few, stands)) =
            let way = some_marked (before stops) (before stops).volumes refl (other stops) n few in
            (way.0, (way.1.0, subst (λ x. ContentsStandFor (layout_of old) w.trail (backup_fallen rise x) held) (sym way.1.1) stands))

    then_breaks : Breaks files w (line.Takeover node) between new → Breaks files w (line.Takeover node) old new
    then_breaks h = record { unrefused = λ stops. unrefused (before stops) refl; stands = λ stops rise. then_stands stops rise (h.stands stops rise) }

    pub then_ends : (result : Result Reply NodeFault) → Ends files w (line.Takeover node) result between new → Ends files w (line.Takeover node) result old new
    then_ends (Ok reply) h = then_goes reply h
    then_ends (Err fault) h = then_breaks h

-- nothing is left to take over
module _ {D : Type 0} {d : Ghosts D} (files : D → Disk) (w : Around) (node : Node) (lost : w.lost ≡ true) (old : Backup D d) (serves : Serves files w.trail old) where
  pub known_goes : (told : ℕ) → told ≡ received (value_of old) → (value_of old).phase ≡ phase.Taken (received (value_of old)) → Goes files w (line.Takeover node) (Number told) old old
  known_goes told is ended = done_goes files w node lost old old told is refl serves
      (λ stops. ap (λ p. with_volumes (state_of stops old) (volumes_by p (map (λ volume. restart_of volume) old.volumes.items))) ended)
