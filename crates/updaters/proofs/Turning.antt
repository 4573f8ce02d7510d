-- What a turn makes of a seat and its story.
use Rattle.std.proofs.Common.{◌≡◌, ⊎_elim, inl, inr, ◌⊎◌, ℕ, ◌-◌, ◌<◌, ◌≤◌, ◌||◌, Bool, true, false, List, [], ◌++◌, Option, Some, None, Result, Ok, Err, IfOk, refl, sym, ap, ap₂, ◌∙◌, subst, le_refl, arith}
use Rattle.std.proofs.Math.Bool.{or-false}
use Rattle.rdf_types.specs.declared.records.Stamped.{Stamped}
use Rattle.rdf_types.specs.Entries.{Rises}
use Rattle.rdf_types.specs.EntryLaws.{rises_le, rises_from}
use Rattle.rdf_disk.specs.Files.{Disk}
use Rattle.rdf_disk.specs.Counts.{Counts, Causes}
use Rattle.rdf_disk.specs.Outcomes.{Durably}
use Rattle.rdf_gatelog.specs.declared.fault.LogFault.{LogFault}
use Rattle.rdf_gatelog.specs.LogCauses.{ending, ending_of_fault}
use Rattle.rdf_model.specs.Volumes.{Rows}
use Rattle.rdf_volume.specs.Standing.{StandsFor, StandsForEither}
use Rattle.rdf_volume.specs.Views.{rows_of, restart_of, disk_of, InUse}
use Rattle.rdf_volume.specs.declared.volume.Volume.{Volume}
use Rattle.seated_lock.specs.declared.story.Story.{Story}
use Rattle.seated_lock.specs.Stories.{Begins, with_more}
use Rattle.seated_lock.specs.StoryLaws.{begins_itself}
use Rattle.seated_lock.specs.Rules.{StandsFor as Stands}
use Rattle.seated_lock.specs.Passes.{Seeing, LockId, with_seats, given_pass, joined_pass}
use Rattle.image_board.specs.Entries.{images_between}
use Rattle.image_board.specs.ImageLaws.{images_stay, images_split, images_rise, no_images}
use Rattle.updaters.specs.declared.seat.VolumeSeat.{VolumeSeat}
use Rattle.updaters.specs.SeatLaws.{more_images}
use Rattle.updaters.specs.Rising.{Rose}
use Rattle.updaters.specs.RiseLaws.{rose_later}
use Rattle.updaters.specs.Seats.{with_images, IsWell, IsSeated, Sits, told_of}
use Rattle.updaters.specs.Turns.{IsLater, HasAdvanced, HasBroken, Advances, Added, IsFit, IsShown, fault_of, done_of}

-- equal stories
same_story : (a b : Story) → a.entries ≡ b.entries → a.number ≡ b.number → a.ended ≡ b.ended → a ≡ b
same_story a b e n d = λ i. record { entries = e i; number = n i; ended = d i }

either_same : (disk : Disk) (a b c d : Rows) (p q u : ℕ) → a ≡ b → p ≡ q → c ≡ d → Durably disk (StandsForEither a p c u) → Durably disk (StandsForEither b q d u)
either_same disk a b c d p q u e f g h =
    subst (λ (r : Rows). Durably disk (StandsForEither b q r u)) g (subst (λ (k : ℕ). Durably disk (StandsForEither b k c u)) f (subst (λ (r : Rows). Durably disk (StandsForEither r p c u)) e h))

-- the holder's pass, of which a split went to the seat, joined with the one that lay there
pub joined_later : (mine kept old joined : Seeing) → kept ≡ with_seats mine (mine.seats - 1) → joined ≡ joined_pass kept old joined.story → old.writes ≡ false → old.seats ≡ 1 → 1 < mine.seats → Begins kept.story joined.story → IsLater mine joined
joined_later mine kept old joined kept_is joined_is reader one some seen = record {
  lock = ap (λ (q : Seeing). q.lock) joined_is ∙ ap (λ (q : Seeing). q.lock) kept_is;
  seats = omega (arith, ap (λ (q : Seeing). q.seats) joined_is, ap (λ (q : Seeing). q.seats) kept_is, one, some);
  writes = ap (λ (q : Seeing). q.writes) joined_is ∙ ap (λ (b : Bool). kept.writes || b) reader ∙ or-false kept.writes ∙ ap (λ (q : Seeing). q.writes) kept_is;
  seen = subst (λ (q : Seeing). Begins q.story joined.story) kept_is seen;
}

some_none : (why : LogFault) → Some why ≡ None → ⊥
some_none why e = cc

-- a seat with another volume and fault
abbrev pub with_volume : {D : Type 0} → VolumeSeat D → VolumeSeat D → VolumeSeat D
with_volume was now = record was { volume = now.volume; failed = now.failed }

module _ {D : Type 0} (tells : Type 0) (files : D → Disk) (counts : D → Counts) where
  -- A turn on a seat that stood for the story and had not failed. It leaves a pass of the board there that has seen the story b. Joined, this and the one that lay there before have seen the whole.
  pub record IsTurn (first : VolumeSeat D) (story : Story) (was now : VolumeSeat D) (b whole : Story) (at : ℕ) : Type 0 where
    pub stood : Stands (Sits tells files counts) (λ s. restart_of s.volume) first story was
    pub fit : was.failed ≡ None
    pub old_seen : Begins was.board.story whole
    pub own_seen : Begins b whole
    pub board : now.board ≡ record { lock = first.board.lock; story = b; writes = false; turns = 0; seats = 1 }
    pub vol : now.vol ≡ first.vol
    pub stops_before : now.stops_before ≡ first.stops_before
    pub faults_before : now.faults_before ≡ first.faults_before
    pub rises : Rises at b.entries b.number

  -- what a turn leaves that is to apply images up to a position
  pub record Tells (first : VolumeSeat D) (story : Story) (now : VolumeSeat D) (images : List Stamped) (upto : ℕ) (fault : Option LogFault) : Type 0 where
    pub sits : Sits tells files counts first (told_of first now) now
    pub begins : Begins story (told_of first now)
    pub added : Added fault story images upto (told_of first now)

  -- what a turn leaves that applies none, where the seat's new pass has seen the story b: the volume's story stays
  pub record Stays (first : VolumeSeat D) (story : Story) (now : VolumeSeat D) (b : Story) : Type 0 where
    pub within : story.number ≤ b.number
    pub entries : story.entries ≡ images_between first.vol (restart_of first.volume) story.number b.entries
    pub sits : Sits tells files counts first story now

  -- the calls that make up a turn: the volume is used, a split of the holder's pass takes the place of the seat's, and that is joined with what is left of it
  pub turn_is : (first held was mid : VolumeSeat D) (story : Story) (mine kept given dest old joined : Seeing) (id : LockId) (n at : ℕ) →
      was ≡ held → Stands (Sits tells files counts) (λ s. restart_of s.volume) first story held → held.failed ≡ None → mid ≡ with_volume was mid →
      kept ≡ with_seats mine n → given ≡ given_pass mine → dest ≡ given → old ≡ mid.board → Begins kept.story joined.story × Begins old.story joined.story →
      mine.lock ≡ id → first.board.lock ≡ id → Rises at mine.story.entries mine.story.number → IsTurn first story was (record mid { board = dest }) mine.story joined.story at
  turn_is first held was mid story mine kept given dest old joined id n at is stood fit same kept_is given_is put taken seen lock board_is rises = record {
    stood = here;
    fit = ap (λ (s : VolumeSeat D). s.failed) is ∙ fit;
    old_seen = subst (λ (q : Seeing). Begins q.story joined.story) (taken ∙ ap (λ (s : VolumeSeat D). s.board) same) seen.1;
    own_seen = subst (λ (q : Seeing). Begins q.story joined.story) kept_is seen.0;
    board = put ∙ given_is ∙ ap (λ (l : LockId). record { lock = l; story = mine.story; writes = false; turns = 0; seats = 1 }) (lock ∙ sym board_is);
    vol = ap (λ (s : VolumeSeat D). s.vol) same ∙ here.0.vol;
    stops_before = ap (λ (s : VolumeSeat D). s.stops_before) same ∙ here.0.stops_before;
    faults_before = ap (λ (s : VolumeSeat D). s.faults_before) same ∙ here.0.faults_before;
    rises = rises;
  }
    where
      here : Stands (Sits tells files counts) (λ s. restart_of s.volume) first story was
      here = subst (λ (s : VolumeSeat D). Stands (Sits tells files counts) (λ x. restart_of x.volume) first story s) (sym is) stood

  -- a seat that keeps no fault has a volume that has come from the first one, by what its pass and so the whole has seen
  pub rose_by : (first now : VolumeSeat D) (vol : ℕ) (story b whole : Story) → Sits tells files counts first story now → now.failed ≡ None → now.board.story ≡ b → Begins b whole → first.vol ≡ vol →
      Rose tells files counts vol whole.entries whole.number first.volume now.volume
  rose_by first now vol story b whole sits fit shows begins vol_is =
      let well : IsWell tells files counts first.volume story.entries now.volume = subst (λ (f : Option LogFault). IsSeated tells files counts first.vol now.board.story first.volume story.entries f now.volume) fit sits.state in
      rose_later tells files counts vol b whole first.volume now.volume begins (record {
        behind = sits.behind;
        within = omega (arith, sits.seen, ap (λ (s : Story). s.number) shows);
        rows = well.rows ∙ ap (with_images (rows_of first.volume))
            (sits.entries ∙ ap (λ (s : Story). images_between first.vol (restart_of first.volume) (restart_of now.volume) s.entries) shows ∙ ap (λ (v : ℕ). images_between v (restart_of first.volume) (restart_of now.volume) b.entries) vol_is);
        in_use = well.in_use;
        counts_are = well.counts_are;
      })

  -- an answer without a fault leaves none
  pub fit_after : (images : List Stamped) (upto : ℕ) (result : Result (Unit {0}) LogFault) (was now : VolumeSeat D) → Advances tells files images upto result was now → fault_of result ≡ None → now.failed ≡ None
  fit_after images upto (Ok x) was now adv e = adv.fit
  fit_after images upto (Err why) was now adv e = absurd (some_none why e)

  module _ (first : VolumeSeat D) (story : Story) (was now : VolumeSeat D) (b whole : Story) (at : ℕ) (t : IsTurn first story was now b whole at) where
    shows : now.board.story ≡ b
    shows = ap (λ (q : Seeing). q.story) t.board

    -- the seat's old pass had seen no more than is seen now, where the new one reaches the joined one's end
    within : b ≡ whole → story.number ≤ b.number
    within is = omega (arith, t.stood.1, t.stood.0.seen, rises_le was.board.story.number t.old_seen.later whole.number t.old_seen.rises, ap (λ (s : Story). s.number) is)

    old_entries : story.number ≤ b.number → story.entries ≡ images_between first.vol (restart_of first.volume) story.number b.entries
    old_entries hi =
        t.stood.0.entries ∙ ap (λ (k : ℕ). images_between first.vol (restart_of first.volume) k was.board.story.entries) t.stood.1
        ∙ sym (images_stay first.vol (restart_of first.volume) story.number was.board.story whole t.old_seen (omega (arith, t.stood.1, t.stood.0.seen)))
        ∙ images_stay first.vol (restart_of first.volume) story.number b whole t.own_seen hi

    told_entries : (m : ℕ) → restart_of now.volume ≡ m → (told_of first now).entries ≡ images_between first.vol (restart_of first.volume) m b.entries
    told_entries m h = ap₂ (λ (k : ℕ) (s : Story). images_between first.vol (restart_of first.volume) k s.entries) h shows

    -- where the restart point did not move, neither did the story
    kept_story : story.number ≤ b.number → restart_of now.volume ≡ story.number → told_of first now ≡ story
    kept_story hi h = same_story (told_of first now) story (told_entries story.number h ∙ sym (old_entries hi)) h (sym t.stood.0.lasts)

    well : IsWell tells files counts first.volume story.entries was.volume
    well = subst (λ (f : Option LogFault). IsSeated tells files counts first.vol was.board.story first.volume story.entries f was.volume) t.fit t.stood.0.state

    module _ (upto : ℕ) (images : List Stamped) (lo : story.number ≤ upto) (hi : upto ≤ b.number) (images_are : images ≡ images_between first.vol story.number upto b.entries) where
      old_within : story.number ≤ b.number
      old_within = omega (arith, lo, hi)

      grown : restart_of now.volume ≡ upto → told_of first now ≡ with_more story images upto
      grown h =
          same_story (told_of first now) (with_more story images upto)
          (told_entries upto h
          ∙ images_split first.vol (restart_of first.volume) story.number upto at b.entries (omega (arith, t.stood.0.behind, t.stood.1)) lo (rises_from at b.entries b.number t.rises)
          ∙ ap₂ (λ (x y : List Stamped). x ++ y) (sym (old_entries old_within)) (sym images_are))
          h (sym t.stood.0.lasts)

      begins_kept : restart_of now.volume ≡ story.number → Begins story (told_of first now)
      begins_kept h = subst (λ (s : Story). Begins story s) (sym (kept_story old_within h)) (begins_itself story)

      begins_grown : restart_of now.volume ≡ upto → Begins story (told_of first now)
      begins_grown h = subst (λ (s : Story). Begins story s) (sym (grown h)) (record {
        later = images;
        entries = refl;
        rises = subst (λ (l : List Stamped). Rises story.number l upto) (sym images_are) (images_rise first.vol story.number upto at b.entries (rises_from at b.entries b.number t.rises) lo);
        ended = λ e. absurd (differs story.ended t.stood.0.lasts e);
      })
        where
          differs : (x : Bool) → x ≡ false → x ≡ true → ⊥
          differs x f t = cc

      grown_rows : with_images (rows_of was.volume) images ≡ with_images (rows_of first.volume) (story.entries ++ images)
      grown_rows = ap (λ (r : Rows). with_images r images) well.rows ∙ more_images (rows_of first.volume) story.entries images

      sits_so : restart_of now.volume ≤ upto → story.number ≤ restart_of now.volume → IsSeated tells files counts first.vol now.board.story first.volume (told_of first now).entries now.failed now.volume → Sits tells files counts first (told_of first now) now
      sits_so below above state = record {
        vol = t.vol;
        stops_before = t.stops_before;
        faults_before = t.faults_before;
        lasts = refl;
        lock = ap (λ (q : Seeing). q.lock) t.board;
        seats = ap (λ (q : Seeing). q.seats) t.board;
        reader = ap (λ (q : Seeing). q.writes) t.board;
        seen = omega (arith, below, hi, ap (λ (s : Story). s.number) shows);
        behind = omega (arith, above, t.stood.0.behind, t.stood.1);
        entries = refl;
        state = state;
      }

      advanced : HasAdvanced tells files images upto was now → counts (disk_of now.volume) ≡ counts (disk_of was.volume) → Tells first story now images upto None
      advanced adv cause = record {
        sits = sits_so (omega (arith, adv.restart)) (omega (arith, adv.restart, lo))
            (subst (λ (f : Option LogFault). IsSeated tells files counts first.vol now.board.story first.volume (told_of first now).entries f now.volume) (sym adv.fit) (record {
              in_use = adv.in_use;
              rows = adv.rows ∙ grown_rows ∙ ap (λ (s : Story). with_images (rows_of first.volume) s.entries) (sym (grown adv.restart));
              counts_are = cause ∙ well.counts_are;
            }));
        begins = begins_grown adv.restart;
        added = grown adv.restart;
      }

      broken_kept : (why : LogFault) → HasBroken tells files images upto why was now → Causes (ending_of_fault why) (counts (disk_of was.volume)) (counts (disk_of now.volume)) → restart_of now.volume ≡ restart_of was.volume → Tells first story now images upto (Some why)
      broken_kept why adv cause h =
          let m : restart_of now.volume ≡ story.number = h ∙ t.stood.1 in
          let entries : (told_of first now).entries ≡ story.entries = ap (λ (s : Story). s.entries) (kept_story old_within m) in
          let batch : images ≡ images_between first.vol (restart_of now.volume) upto now.board.story.entries = images_are ∙ ap₂ (λ (k : ℕ) (s : Story). images_between first.vol k upto s.entries) (sym m) (sym shows) in
          record {
            sits = sits_so (omega (arith, m, lo)) (omega (arith, m))
                (subst (λ (f : Option LogFault). IsSeated tells files counts first.vol now.board.story first.volume (told_of first now).entries f now.volume) (sym adv.failed) (record {
                  upto = upto;
                  behind = omega (arith, m, lo);
                  within = omega (arith, hi, ap (λ (s : Story). s.number) shows);
                  stands = λ it. either_same (files (disk_of now.volume)) (rows_of was.volume) (with_images (rows_of first.volume) (told_of first now).entries) (with_images (rows_of was.volume) images)
                      (with_images (rows_of first.volume) ((told_of first now).entries ++ images_between first.vol (restart_of now.volume) upto now.board.story.entries)) (restart_of was.volume) (restart_of now.volume) upto
                      (well.rows ∙ ap (with_images (rows_of first.volume)) (sym entries)) (sym h) (grown_rows ∙ ap₂ (λ (x y : List Stamped). with_images (rows_of first.volume) (x ++ y)) (sym entries) batch) (adv.either it);
                  cause = subst (λ (c : Counts). Causes (ending_of_fault why) c (counts (disk_of now.volume))) well.counts_are cause;
                  sound = adv.sound;
                }));
            begins = begins_kept m;
            added = inl (kept_story old_within m);
          }

      broken_grown : (why : LogFault) → HasBroken tells files images upto why was now → Causes (ending_of_fault why) (counts (disk_of was.volume)) (counts (disk_of now.volume)) → restart_of now.volume ≡ upto → Tells first story now images upto (Some why)
      broken_grown why adv cause h =
          let entries : (told_of first now).entries ≡ story.entries ++ images = ap (λ (s : Story). s.entries) (grown h) in
          record {
            sits = sits_so (omega (arith, h)) (omega (arith, h, lo))
                (subst (λ (f : Option LogFault). IsSeated tells files counts first.vol now.board.story first.volume (told_of first now).entries f now.volume) (sym adv.failed) (record {
                  upto = restart_of now.volume;
                  behind = le_refl (restart_of now.volume);
                  within = omega (arith, h, hi, ap (λ (s : Story). s.number) shows);
                  stands = λ it c may. inl (subst (λ (k : ℕ). StandsFor (with_images (rows_of first.volume) (told_of first now).entries) k c) (sym h)
                      (subst (λ (r : Rows). StandsFor r upto c) (grown_rows ∙ ap (with_images (rows_of first.volume)) (sym entries)) (adv.known it h c may)));
                  cause = subst (λ (c : Counts). Causes (ending_of_fault why) c (counts (disk_of now.volume))) well.counts_are cause;
                  sound = adv.sound;
                }));
            begins = begins_grown h;
            added = inr (grown h);
          }

      pub turn_tells : (result : Result (Unit {0}) LogFault) → Advances tells files images upto result was now → Causes (ending result) (counts (disk_of was.volume)) (counts (disk_of now.volume)) → Tells first story now images upto (fault_of result)
      turn_tells (Ok x) adv cause = advanced adv cause
      turn_tells (Err why) adv cause = ⊎_elim (λ h. broken_kept why adv cause h) (λ h. broken_grown why adv cause h) adv.point

    pub turn_stays : b ≡ whole → (result : Result (Unit {0}) LogFault) → Advances tells files [] story.number result was now → Causes (ending result) (counts (disk_of was.volume)) (counts (disk_of now.volume)) → restart_of now.volume ≡ story.number → Stays first story now b
    turn_stays is result adv cause point =
        let hi = within is in
        record {
          within = hi;
          entries = old_entries hi;
          sits = subst (λ (s : Story). Sits tells files counts first s now) (kept_story hi point)
              (turn_tells story.number [] (le_refl story.number) hi (sym (no_images first.vol story.number b.entries)) result adv cause).sits;
        }

-- what a step does is said of the volume and its fault alone
pub advances_on : {D : Type 0} (tells : Type 0) (files : D → Disk) (images : List Stamped) (upto : ℕ) (result : Result (Unit {0}) LogFault) (old new now : VolumeSeat D) →
    now.volume ≡ new.volume → now.failed ≡ new.failed → Advances tells files images upto result old new → Advances tells files images upto result old now
advances_on tells files images upto (Ok x) old new now v f adv = record {
  fit = f ∙ adv.fit;
  in_use = λ it. subst (λ x. InUse files x) (sym v) (adv.in_use it);
  rows = ap (λ x. rows_of x) v ∙ adv.rows;
  restart = ap (λ x. restart_of x) v ∙ adv.restart;
}
advances_on tells files images upto (Err why) old new now v f adv = record {
  failed = f ∙ adv.failed;
  point = subst (λ x. (restart_of x ≡ restart_of old.volume) ⊎ (restart_of x ≡ upto)) (sym v) adv.point;
  either = λ it. subst (λ x. Durably (files (disk_of x)) (StandsForEither (rows_of old.volume) (restart_of old.volume) (with_images (rows_of old.volume) images) upto)) (sym v) (adv.either it);
  known = λ it e. subst (λ x. Durably (files (disk_of x)) (StandsFor (with_images (rows_of old.volume) images) upto)) (sym v) (adv.known it (sym (ap (λ x. restart_of x) v) ∙ e));
  sound = adv.sound;
}

-- where a read found a value the volume is well
pub well_where : {T D : Type 0} (tells : Type 0) (files : D → Disk) (counts : D → Counts) (first : VolumeSeat D) (board story : Story) (k : ℕ) (result : Result T LogFault) (was mid : VolumeSeat D) (seen : Volume D) →
    Advances tells files [] k (done_of result) was mid → IsSeated tells files counts first.vol board first.volume story.entries mid.failed mid.volume → restart_of mid.volume ≡ story.number → seen ≡ mid.volume →
    IfOk result (λ _. IsShown tells files counts first story seen)
well_where tells files counts first board story k (Ok x) was mid seen adv seated at same =
    subst (λ v. IsShown tells files counts first story v) (sym same) (subst (λ f. IsSeated tells files counts first.vol board first.volume story.entries f mid.volume) adv.fit seated, at)
well_where tells files counts first board story k (Err why) was mid seen adv seated at same = tt

-- the volume of a seat that keeps no fault may be used
pub fit_in_use : {D : Type 0} (tells : Type 0) (files : D → Disk) (counts : D → Counts) (first value now : VolumeSeat D) (story : Story) → IsFit tells files counts first story value → now ≡ value → tells → InUse files now.volume
fit_in_use {D = D} tells files counts first value now story is same it =
    let well : IsWell tells files counts first.volume story.entries value.volume =
    subst (λ (f : Option LogFault). IsSeated tells files counts first.vol value.board.story first.volume story.entries f value.volume) is.fit is.value.0.state in
    subst (λ (s : VolumeSeat D). InUse files s.volume) (sym same) (well.in_use it)
