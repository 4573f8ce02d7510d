-- A place of a watch in which a turn is taken.
use Rattle.std.proofs.Common.{◌≡◌, ℕ, ◌<◌, List, length, map, set, slice_get, Option, Some, Result, Ok, Err, IfOk, IfErr, get_or, refl, sym, ap, ◌∙◌, subst, arith}
use Rattle.std.proofs.Math.Seq.{map-set_same}
use Rattle.std.proofs.lemmas.List.{length-map, map-set, set-get_or, get_or-map}
use Rattle.std.proofs.lemmas.Option.{slice_get_read, slice_get_within, get_or_from_slice_get}
use Rattle.std.proofs.lemmas.Slice.Zip.{AllZip-long}
use Rattle.rdf_types.specs.declared.records.RecKey.{RecKey}
use Rattle.rdf_disk.specs.Files.{Disk}
use Rattle.rdf_disk.specs.Counts.{Counts}
use Rattle.rdf_gatelog.specs.declared.fault.LogFault.{LogFault}
use Rattle.seated_lock.specs.Passes.{Seeing, Lock}
use Rattle.image_board.specs.Boards.{Published}
use Rattle.updaters.specs.declared.note.VolumeNote.{VolumeNote}
use Rattle.updaters.specs.declared.seat.VolumeSeat.{VolumeSeat}
use Rattle.volume_sessions.specs.declared.watch.Place.{Place}
use Rattle.volume_sessions.specs.declared.placed.Placed.{Placed}
use Rattle.volume_sessions.specs.Shown.{Shown, placed_by, noted_by, shown_by}
use Rattle.volume_sessions.specs.Rising.{Rose, SeesRow, HasRead, IsPlaced}
use Rattle.volume_sessions.specs.Watching.{IsHereOrAway, IsPlaceOf, IsWatching}
use Rattle.image_board.specs.NoteLaws.{zip_set}
use Rattle.volume_sessions.proofs.Points.{beside, place_there}

some_inj : {A : Type 0} (x y : A) (o : Option A) → o ≡ Some x → o ≡ Some y → x ≡ y
some_inj x y o e f = cc

module _ {D : Type 0} (tells : Type 0) (files : D → Disk) (counts : D → Counts) (board : Lock (Published (VolumeNote D))) (seats : List (Lock (VolumeSeat D))) (away : Option Seeing) (seen : Seeing) (places : List (Place D)) (s : Shown D) where
  -- a place that is asked for is there, and so is its seat
  pub spot_there : (vol k : ℕ) → shown_by board seats away seen places ≡ s → IsPlaced vol k s → k < length places
  spot_there vol k view asked =
      let within = slice_get_within s.volumes k asked.0 asked.1 in
      let many : length places ≡ length s.volumes = sym (length-map places placed_by) ∙ ap (λ (x : Shown D). length x.volumes) view in
      omega (arith, within, many)

  pub seat_there : (k : ℕ) → IsWatching tells files counts board seats away seen places → k < length places → k < length seats
  seat_there k w within = let long = AllZip-long (IsPlaceOf tells files counts board.id seen) seats places w.places_are in omega (arith, within, long)

  -- what is there is what was asked for
  pub spot_is : (vol k : ℕ) (r : Place D) → shown_by board seats away seen places ≡ s → IsPlaced vol k s → r ≡ get_or places k r → (asked : Placed D) × (slice_get s.volumes k ≡ Some asked) × (asked ≡ placed_by r) × (r.vol ≡ vol)
  spot_is vol k r view asked is =
      let at = slice_get_read places (length places) k r refl (spot_there vol k view asked) is in
      let same = some_inj asked.0 (placed_by r) (slice_get s.volumes k) asked.1 (place_there board seats away seen places s k r view at) in
      (asked.0, asked.1, same, sym (ap (λ (p : Placed D). p.vol) same) ∙ asked.2)

  pub spot_of : (k : ℕ) (r : Place D) (d : Lock (VolumeSeat D)) (pass : Seeing) → IsWatching tells files counts board seats away seen places → away ≡ Some pass → k < length places → r ≡ get_or places k r → d ≡ get_or seats k d → IsPlaceOf tells files counts board.id pass d r
  spot_of k r d pass w is within at seat =
      let stood = beside (IsPlaceOf tells files counts board.id seen) seats places k r w.places_are (slice_get_read places (length places) k r refl within at) in
      let here : pass ≡ seen = subst (λ o. IsHereOrAway o seen) is w.here in
      subst (λ (p : Seeing). IsPlaceOf tells files counts board.id p d r) (sym here) (subst (λ (l : Lock (VolumeSeat D)). IsPlaceOf tells files counts board.id seen l r) (sym (seat ∙ get_or_from_slice_get seats k stood.0 d stood.1)) stood.2)

  -- a turn was taken there, and the pass has come back
  pub spot_new : (k : ℕ) (new : Place D) (d : Lock (VolumeSeat D)) (pass back : Seeing) → IsWatching tells files counts board seats away seen places → away ≡ Some pass → back ≡ pass → d ≡ get_or seats k d → IsPlaceOf tells files counts board.id pass d new →
      IsWatching tells files counts board seats (Some back) seen (set places k new)
  spot_new k new d pass back w is same seat placed =
      let here : pass ≡ seen = subst (λ o. IsHereOrAway o seen) is w.here in
      record {
        here = same ∙ here;
        lock = w.lock;
        writes = w.writes;
        lasts = w.lasts;
        some = w.some;
        empty = w.empty;
        rises = w.rises;
        places_are = zip_set (IsPlaceOf tells files counts board.id seen) seats places k new d w.places_are (λ _. subst (λ (l : Lock (VolumeSeat D)). IsPlaceOf tells files counts board.id seen l new) seat (subst (λ (p : Seeing). IsPlaceOf tells files counts board.id p d new) here placed));
        firsts = w.firsts;
      }

  shown_new : (k : ℕ) (old new : Place D) (pass back : Seeing) → shown_by board seats away seen places ≡ s → away ≡ Some pass → old ≡ get_or places k old → noted_by new ≡ noted_by old →
      shown_by board seats (Some back) seen (set places k new) ≡ record s { volumes = set s.volumes k (placed_by new) }
  shown_new k old new pass back view is at same =
      ap (λ (l : List (Placed D)). record (shown_by board seats (Some back) seen places) { volumes = l; noted = map noted_by (set places k new) }) (map-set placed_by places k new)
      ∙ ap (λ (l : List (Placed D)). record (shown_by board seats (Some back) seen places) { volumes = set (map placed_by places) k (placed_by new); noted = l }) (map-set_same noted_by places k new old (same ∙ ap noted_by at))
      ∙ ap (λ (o : Option Seeing). record (shown_by board seats o seen places) { volumes = set (map placed_by places) k (placed_by new) }) (sym is)
      ∙ ap (λ (x : Shown D). record x { volumes = set x.volumes k (placed_by new) }) view

  pub found_row : (k : ℕ) (old new : Place D) (pass back : Seeing) (key : RecKey) (result : Result (Option (List ℕ)) LogFault) → shown_by board seats away seen places ≡ s → away ≡ Some pass → IsWatching tells files counts board seats away seen places → IsPlaced key.vol k s → old ≡ get_or places k old → new.vol ≡ old.vol → noted_by new ≡ noted_by old →
      IfOk result (SeesRow tells files counts pass.story key old.last.value new.last.value) → IfOk result (λ value. HasRead tells files counts k key value s (shown_by board seats (Some back) seen (set places k new)))
  found_row k old new pass back key (Err e) view is w asked at vol noted sees = tt
  found_row k old new pass back key (Ok value) view is w asked at vol noted sees =
      let spot = spot_is key.vol k old view asked at in
      let here : pass ≡ seen = subst (λ o. IsHereOrAway o seen) is w.here in
      let row = subst (λ (x : Shown D). Rose tells files counts key.vol x.entries x.end old.last.value new.last.value) view (subst (λ (p : Seeing). Rose tells files counts key.vol p.story.entries p.story.number old.last.value new.last.value) here sees.rose) in
      record {
        was = spot.0;
        now = new.last.value;
        there = spot.1;
        new_is = shown_new k old new pass back view is at noted ∙ ap (λ (v : ℕ). record s { volumes = set s.volumes k (record { vol = v; volume = new.last.value }) }) (vol ∙ sym (ap (λ (p : Placed D). p.vol) spot.2));
        rose = subst (λ (p : Placed D). Rose tells files counts key.vol s.entries s.end p.volume new.last.value) (sym spot.2) row;
        value_is = sees.value_is;
      }

  pub found_none : (k : ℕ) (old new : Place D) (pass back : Seeing) (result : Result (Option (List ℕ)) LogFault) → shown_by board seats away seen places ≡ s → away ≡ Some pass → old ≡ get_or places k old → new.vol ≡ old.vol → noted_by new ≡ noted_by old → IfErr result (λ _. new.last ≡ old.last) →
      k < length places → IfErr result (λ _. shown_by board seats (Some back) seen (set places k new) ≡ s)
  found_none k old new pass back (Ok x) view is at vol noted same within = tt
  found_none k old new pass back (Err e) view is at vol noted same within =
      let shows : placed_by new ≡ get_or (map placed_by places) k (placed_by old) = (λ i. record { vol = vol i; volume = (same i).value }) ∙ ap placed_by at ∙ sym (get_or-map placed_by places k old (placed_by old) within) in
      shown_new k old new pass back view is at noted
      ∙ ap (λ (x : Shown D). record s { volumes = set x.volumes k (placed_by new) }) (sym view)
      ∙ ap (λ (p : Placed D). record s { volumes = set (map placed_by places) k p }) shows
      ∙ ap (λ (l : List (Placed D)). record s { volumes = l }) (set-get_or (map placed_by places) k (placed_by old))
      ∙ ap (λ (x : Shown D). record s { volumes = x.volumes }) view
