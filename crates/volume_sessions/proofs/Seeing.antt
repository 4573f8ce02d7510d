-- What a watch still knows once more was seen.
use Rattle.std.proofs.Common.{◌≡◌, ℕ, Bool, true, false, List, [], ◌∷◌, ◌++◌, Option, Some, None, IfSome, refl, sym, ap, ◌∙◌, subst, append-nil, le_refl, arith}
use Rattle.std.specs.List.{AllZip}
use Rattle.rdf_types.specs.declared.records.Stamped.{Stamped}
use Rattle.rdf_types.specs.Entries.{Rises}
use Rattle.rdf_types.specs.EntryLaws.{rises_append}
use Rattle.rdf_disk.specs.Files.{Disk}
use Rattle.rdf_disk.specs.Counts.{Counts}
use Rattle.seated_lock.specs.declared.story.Story.{Story}
use Rattle.seated_lock.specs.Stories.{Begins, Grows, over}
use Rattle.seated_lock.specs.StoryLaws.{begins_itself}
use Rattle.seated_lock.specs.Passes.{Seeing, Lock, LockId, with_story, one_turn_more}
use Rattle.seated_lock.specs.Rules.{StandsFor as Stands}
use Rattle.image_board.specs.Boards.{Published, Shows, closed}
use Rattle.updaters.specs.declared.note.VolumeNote.{VolumeNote}
use Rattle.updaters.specs.declared.seat.VolumeSeat.{VolumeSeat}
use Rattle.updaters.specs.RiseLaws.{rose_later, ahead_later}
use Rattle.updaters.specs.declared.note.SeenVolume.{SeenVolume}
use Rattle.volume_sessions.specs.declared.watch.Place.{Place}
use Rattle.volume_sessions.specs.declared.watch.Room.{Room}
use Rattle.volume_sessions.specs.Shown.{Shown, HasRoom, shown, shown_by}
use Rattle.volume_sessions.specs.Watching.{IsHereOrAway, IsKept, IsPlaceOf, IsWatching, IsOver, StandsAs}

never : (x : Bool) → x ≡ true → x ≡ false → ⊥
never x f t = cc

-- entries that come behind those of a story that has not ended
pub more_begins : (seen story : Story) (part : List Stamped) → story.entries ≡ seen.entries ++ part → Rises seen.number part story.number → seen.ended ≡ false → Begins seen story
more_begins seen story part entries rises lasts = record { later = part; entries = entries; rises = rises; ended = λ e. absurd (never seen.ended e lasts) }

kept_later : {D : Type 0} (tells : Type 0) (files : D → Disk) (counts : D → Counts) (seen now : Seeing) (seat : Lock (VolumeSeat D)) (own : Option Seeing) (vol : ℕ) (o : Option (SeenVolume D)) → Begins seen.story now.story →
    IfSome o (IsKept tells files counts seen seat own vol) → IfSome o (IsKept tells files counts now seat own vol)
kept_later tells files counts seen now seat own vol None begins is = tt
kept_later tells files counts seen now seat own vol (Some s) begins is = record { ahead = ahead_later tells files counts vol seat.first.volume seen.story now.story s begins is.ahead; so_far = is.so_far }

place_later : {D : Type 0} (tells : Type 0) (files : D → Disk) (counts : D → Counts) (board : LockId) (seen now : Seeing) (seat : Lock (VolumeSeat D)) (place : Place D) → Begins seen.story now.story →
    IsPlaceOf tells files counts board seen seat place → IsPlaceOf tells files counts board now seat place
place_later tells files counts board seen now seat place begins is = record {
  own = is.own;
  all_seats = is.all_seats;
  vol = is.vol;
  board_is = is.board_is;
  rose = rose_later tells files counts place.vol seen.story now.story seat.first.volume place.last.value begins is.rose;
  point_is = is.point_is;
  noted = kept_later tells files counts seen now seat place.own place.vol place.noted begins is.noted;
}

pub places_later : {D : Type 0} (tells : Type 0) (files : D → Disk) (counts : D → Counts) (board : LockId) (seen now : Seeing) (seats : List (Lock (VolumeSeat D))) (places : List (Place D)) → Begins seen.story now.story →
    AllZip (IsPlaceOf tells files counts board seen) seats places → AllZip (IsPlaceOf tells files counts board now) seats places
places_later tells files counts board seen now [] [] begins all = all
places_later tells files counts board seen now [] (p ∷ ps) begins all = all
places_later tells files counts board seen now (s ∷ ss) [] begins all = all
places_later tells files counts board seen now (s ∷ ss) (p ∷ ps) begins all =
    (place_later tells files counts board seen now s p begins all.0, places_later tells files counts board seen now ss ps begins all.1)

-- the pass has come back with more seen
pub watching_on : {D : Type 0} (tells : Type 0) (files : D → Disk) (counts : D → Counts) (board : Lock (Published (VolumeNote D))) (seats : List (Lock (VolumeSeat D))) (away : Option Seeing) (seen hold pass now : Seeing) (story : Story) (places : List (Place D)) →
    IsWatching tells files counts board seats away seen places → now ≡ pass → pass ≡ with_story hold story → hold.lock ≡ board.id → hold.seats ≡ seen.seats → hold.writes ≡ true → Begins seen.story story → story.ended ≡ false → Rises board.first.start story.entries story.number →
    IsWatching tells files counts board seats (Some pass) now places
watching_on tells files counts board seats away seen hold pass now story places w is back lock many writes begins lasts rises =
    let same : with_story hold story ≡ now = sym (is ∙ back) in
    let known : IsWatching tells files counts board seats (Some (with_story hold story)) (with_story hold story) places = record {
      here = refl;
      lock = lock;
      writes = writes;
      lasts = lasts;
      some = omega (arith, w.some, many);
      empty = w.empty;
      rises = rises;
      places_are = places_later tells files counts board.id seen (with_story hold story) seats places begins w.places_are;
      firsts = w.firsts;
    } in
    subst (λ (p : Seeing). IsWatching tells files counts board seats (Some p) now places) (sym back) (subst (λ (n : Seeing). IsWatching tells files counts board seats (Some (with_story hold story)) n places) same known)

-- a room of what a watch shows
pub room_of : {D : Type 0} (board : Lock (Published (VolumeNote D))) (seats : List (Lock (VolumeSeat D))) (away : Option Seeing) (seen : Seeing) (places : List (Place D)) (s : Shown D) (room : Room D) → shown_by board seats away seen places ≡ s → HasRoom s room →
    HasRoom (shown_by board seats away seen places) room
room_of board seats away seen places s room view has = subst (λ x. HasRoom x room) (sym view) has

-- a board that shows what a pass has seen, and more
pub board_shows : {N : Type 0} (first value now : Published N) (entries part : List Stamped) (number upto : ℕ) → first.items ≡ [] → value.start ≡ first.start → value.items ≡ entries → Rises first.start entries number → Rises number part upto →
    now.start ≡ value.start → now.items ≡ value.items ++ part → now.end ≡ upto → now.firsts ≡ first.firsts → Stands Shows (λ b. b.end) first (shown now) now
board_shows first value now entries part number upto empty start items rises more s i e firsts = (
  record {
    start = s ∙ start;
    items = sym (ap (λ (l : List Stamped). l ++ now.items) empty);
    ended = refl;
    rises = subst (λ (k : ℕ). Rises k now.items now.end) (sym (s ∙ start)) (subst (λ (l : List Stamped). Rises first.start l now.end) (sym (i ∙ ap (λ (l : List Stamped). l ++ part) items)) (subst (λ (k : ℕ). Rises first.start (entries ++ part) k) (sym e) (rises_append first.start entries number part upto rises more)));
    firsts = firsts;
  },
  refl,
)

-- what a clause says of what a watch shows, by its fields
pub rises_here : {D : Type 0} (board : Lock (Published (VolumeNote D))) (seats : List (Lock (VolumeSeat D))) (away : Option Seeing) (seen : Seeing) (places : List (Place D)) (s : Shown D) (part : List Stamped) (upto : ℕ) → shown_by board seats away seen places ≡ s → Rises s.end part upto →
    Rises seen.story.number part upto
rises_here board seats away seen places s part upto view rises = subst (λ (x : Shown _). Rises x.end part upto) (sym view) rises

-- a room has come back, with entries behind those of before
pub room_back : {D : Type 0} (tells : Type 0) (files : D → Disk) (counts : D → Counts) (board : Lock (Published (VolumeNote D))) (seats : List (Lock (VolumeSeat D))) (away : Option Seeing) (seen pass now : Seeing) (places : List (Place D)) (s : Shown D) (room : Room D) (b : Published (VolumeNote D)) (part : List Stamped) →
    shown_by board seats away seen places ≡ s → HasRoom s room → IsWatching tells files counts board seats away seen places → now ≡ pass → pass ≡ with_story room.turn.hold (shown b) →
    b.items ≡ room.turn.value.items ++ part → b.finished ≡ room.turn.value.finished → Rises seen.story.number part b.end →
    IsWatching tells files counts board seats (Some pass) now places
room_back tells files counts board seats away seen pass now places s room b part view has w is back items finished rises =
    let here = room_of board seats away seen places s room view has in
    let entries : b.items ≡ seen.story.entries ++ part = items ∙ ap (λ (l : List Stamped). l ++ part) here.items in
    watching_on tells files counts board seats away seen room.turn.hold pass now (shown b) places w is back here.lock here.seats here.writes
    (more_begins seen.story (shown b) part entries rises w.lasts) (finished ∙ here.unfinished)
    (subst (λ (l : List Stamped). Rises board.first.start l b.end) (sym entries) (rises_append board.first.start seen.story.entries seen.story.number part b.end w.rises rises))

-- a turn of the writer on the board, which then stands as the watch has it
record At {D : Type 0} (board : Lock (Published (VolumeNote D))) (seen hold : Seeing) (value : Published (VolumeNote D)) : Type 0 where
  lock : hold.lock ≡ board.id
  seats : hold.seats ≡ seen.seats
  writes : hold.writes ≡ true
  story : hold.story ≡ seen.story
  items : value.items ≡ seen.story.entries
  end_is : value.end ≡ seen.story.number
  lasts : value.finished ≡ false

turn_at : {D : Type 0} (tells : Type 0) (files : D → Disk) (counts : D → Counts) (board : Lock (Published (VolumeNote D))) (seats : List (Lock (VolumeSeat D))) (away : Option Seeing) (seen pass hold : Seeing) (places : List (Place D)) (value : Published (VolumeNote D)) →
    IsWatching tells files counts board seats away seen places → away ≡ Some pass → hold ≡ one_turn_more pass hold.story → (pass.writes ≡ true → hold.story ≡ pass.story) → Stands Shows (λ b. b.end) board.first hold.story value → At board seen hold value
turn_at tells files counts board seats away seen pass hold places value w is one writer stood =
    let here : pass ≡ seen = subst (λ o. IsHereOrAway o seen) is w.here in
    let told : hold.story ≡ seen.story = writer (ap (λ (p : Seeing). p.writes) here ∙ w.writes) ∙ ap (λ (p : Seeing). p.story) here in
    record {
      lock = ap (λ (p : Seeing). p.lock) one ∙ ap (λ (p : Seeing). p.lock) here ∙ w.lock;
      seats = ap (λ (p : Seeing). p.seats) one ∙ ap (λ (p : Seeing). p.seats) here;
      writes = ap (λ (p : Seeing). p.writes) one ∙ ap (λ (p : Seeing). p.writes) here ∙ w.writes;
      story = told;
      items = stood.0.items ∙ ap (λ (l : List Stamped). l ++ hold.story.entries) w.empty ∙ ap (λ (t : Story). t.entries) told;
      end_is = stood.1 ∙ ap (λ (t : Story). t.number) told;
      lasts = stood.0.ended ∙ ap (λ (t : Story). t.ended) told ∙ w.lasts;
    }

-- a turn was taken and ended, in which the board stayed as it was
pub took_back : {D : Type 0} (tells : Type 0) (files : D → Disk) (counts : D → Counts) (board : Lock (Published (VolumeNote D))) (seats : List (Lock (VolumeSeat D))) (away : Option Seeing) (seen pass hold back now : Seeing) (places : List (Place D)) (value after : Published (VolumeNote D)) →
    IsWatching tells files counts board seats away seen places → away ≡ Some pass → hold ≡ one_turn_more pass hold.story → (pass.writes ≡ true → hold.story ≡ pass.story) → Stands Shows (λ b. b.end) board.first hold.story value →
    after.items ≡ value.items → after.end ≡ value.end → after.finished ≡ value.finished → now ≡ back → back ≡ with_story hold (shown after) → IsWatching tells files counts board seats (Some back) now places
took_back tells files counts board seats away seen pass hold back now places value after w is one writer stood items upto finished same end =
    let at = turn_at tells files counts board seats away seen pass hold places value w is one writer stood in
    let entries : after.items ≡ seen.story.entries = items ∙ at.items in
    let number : after.end ≡ seen.story.number = upto ∙ at.end_is in
    watching_on tells files counts board seats away seen hold back now (shown after) places w same end at.lock at.seats at.writes
    (more_begins seen.story (shown after) [] (entries ∙ sym (append-nil seen.story.entries)) (omega (arith, number)) w.lasts)
    (finished ∙ at.lasts)
    (subst (λ (l : List Stamped). Rises board.first.start l after.end) (sym entries) (subst (λ (k : ℕ). Rises board.first.start seen.story.entries k) (sym number) w.rises))

-- and what the pass then shows
pub back_shows : {D : Type 0} (tells : Type 0) (files : D → Disk) (counts : D → Counts) (board : Lock (Published (VolumeNote D))) (seats : List (Lock (VolumeSeat D))) (away : Option Seeing) (seen pass hold back now : Seeing) (places : List (Place D)) (value after : Published (VolumeNote D)) →
    IsWatching tells files counts board seats away seen places → away ≡ Some pass → hold ≡ one_turn_more pass hold.story → (pass.writes ≡ true → hold.story ≡ pass.story) → Stands Shows (λ b. b.end) board.first hold.story value →
    after.items ≡ value.items → after.end ≡ value.end → now ≡ back → back ≡ with_story hold (shown after) → (now.seats ≡ seen.seats) × (now.story.entries ≡ seen.story.entries) × (now.story.number ≡ seen.story.number)
back_shows tells files counts board seats away seen pass hold back now places value after w is one writer stood items upto same end =
    let at = turn_at tells files counts board seats away seen pass hold places value w is one writer stood in
    let told = same ∙ end in
    (ap (λ (p : Seeing). p.seats) told ∙ at.seats, ap (λ (p : Seeing). p.story.entries) told ∙ items ∙ at.items, ap (λ (p : Seeing). p.story.number) told ∙ upto ∙ at.end_is)

-- in a turn the board stands as the pass has seen it
pub stands_as : {D : Type 0} (tells : Type 0) (files : D → Disk) (counts : D → Counts) (board : Lock (Published (VolumeNote D))) (seats : List (Lock (VolumeSeat D))) (away : Option Seeing) (seen pass hold : Seeing) (places : List (Place D)) (value : Published (VolumeNote D)) →
    IsWatching tells files counts board seats away seen places → away ≡ Some pass → hold ≡ one_turn_more pass hold.story → (pass.writes ≡ true → hold.story ≡ pass.story) → Stands Shows (λ b. b.end) board.first hold.story value → StandsAs seen.story value
stands_as tells files counts board seats away seen pass hold places value w is one writer stood =
    let at = turn_at tells files counts board seats away seen pass hold places value w is one writer stood in
    (at.items, at.end_is)

-- the board was finished in a turn
pub over_in : {D : Type 0} (tells : Type 0) (files : D → Disk) (counts : D → Counts) (board : Lock (Published (VolumeNote D))) (seats : List (Lock (VolumeSeat D))) (away : Option Seeing) (seen pass hold back : Seeing) (places : List (Place D)) (value after : Published (VolumeNote D)) (s : Shown D) →
    shown_by board seats away seen places ≡ s → IsWatching tells files counts board seats away seen places → away ≡ Some pass → hold ≡ one_turn_more pass hold.story → (pass.writes ≡ true → hold.story ≡ pass.story) → Stands Shows (λ b. b.end) board.first hold.story value →
    after ≡ closed value → back ≡ with_story hold (shown after) → IsOver tells files counts s back places
over_in tells files counts board seats away seen pass hold back places value after s view w is one writer stood end done =
    let at = turn_at tells files counts board seats away seen pass hold places value w is one writer stood in
    let told : shown after ≡ over seen.story = ap shown end ∙ (λ i. record { entries = at.items i; number = at.end_is i; ended = true }) in
    let back_is : with_story hold (over seen.story) ≡ back = sym (done ∙ ap (with_story hold) told) in
    subst (λ (x : Shown _). IsOver tells files counts x back places) view (subst (λ (p : Seeing). IsOver tells files counts (shown_by board seats away seen places) p places) back_is
    record {
      lock = at.lock;
      writes = at.writes;
      story = refl;
      rises = w.rises;
      volumes = refl;
      places_are = places_later tells files counts board.id seen (with_story hold (over seen.story)) seats places (more_begins seen.story (over seen.story) [] (sym (append-nil seen.story.entries)) (le_refl seen.story.number) w.lasts) w.places_are;
    })

-- a board that shows what it did, with other notes
pub shown_stands : {N : Type 0} (first value now : Published N) (story : Story) → first.items ≡ [] → Stands Shows (λ b. b.end) first story value → now.start ≡ value.start → now.items ≡ value.items → now.end ≡ value.end → now.firsts ≡ value.firsts →
    Stands Shows (λ b. b.end) first (shown now) now
shown_stands first value now story empty stood s i e f = (
  record {
    start = s ∙ stood.0.start;
    items = sym (ap (λ (l : List Stamped). l ++ now.items) empty);
    ended = refl;
    rises = subst (λ (k : ℕ). Rises k now.items now.end) (sym s) (subst (λ (l : List Stamped). Rises value.start l now.end) (sym i) (subst (λ (k : ℕ). Rises value.start value.items k) (sym e) stood.0.rises));
    firsts = f ∙ stood.0.firsts;
  },
  refl,
)

-- and the story does not grow
pub shown_grows : {N : Type 0} (hold : Seeing) (first value now : Published N) → first.items ≡ [] → Stands Shows (λ b. b.end) first hold.story value → now.items ≡ value.items → now.end ≡ value.end → now.finished ≡ value.finished → Grows hold.writes hold.story (shown now)
shown_grows hold first value now empty stood i e f =
    let entries : now.items ≡ hold.story.entries = i ∙ stood.0.items ∙ ap (λ (l : List Stamped). l ++ hold.story.entries) empty in
    let told : shown now ≡ hold.story = λ k. record { entries = entries k; number = (e ∙ stood.1) k; ended = (f ∙ stood.0.ended) k } in
    record { begins = subst (λ (s : Story). Begins hold.story s) (sym told) (begins_itself hold.story); same = λ _. told }
