-- Locks as they are opened and closed again, one after the other.
use Rattle.std.proofs.Common.{◌≡◌, ℕ, ◌≤◌, List, [], ◌∷◌, ◌++◌, map, length, get_or, ◌<◌, false, slice_get, Some, None, MatchOption, IfSome, Result, Ok, Err, IfErr, le_refl, refl, sym, ap, ◌∙◌, subst, arith}
use Rattle.std.specs.List.{All, AllZip, AllByRecursion}
use Rattle.std.proofs.lemmas.List.Elements.{recursion_from_All}
use Rattle.std.proofs.lemmas.List.{map-append, length-append, get_or_append_left}
use Rattle.std.proofs.lemmas.Option.{slice_get-get_or, slice_get_within, get_or_from_slice_get}
use Rattle.std.proofs.Math.Seq.{get_or-append_seam}
use Rattle.rdf_disk.specs.Files.{Disk}
use Rattle.rdf_disk.specs.Counts.{Counts}
use Rattle.rdf_volume.specs.Views.{rows_of, restart_of, InUse}
use Rattle.rdf_volume.specs.declared.volume.Volume.{Volume}
use Rattle.seated_lock.specs.declared.story.Story.{Story}
use Rattle.seated_lock.specs.Stories.{Begins, untold}
use Rattle.seated_lock.specs.StoryLaws.{begins_itself}
use Rattle.seated_lock.specs.Rules.{StandsFor as Stands}
use Rattle.seated_lock.specs.Passes.{Seeing, Lock, LockId, with_seats, given_pass, makers_pass}
use Rattle.image_board.specs.Boards.{Published}
use Rattle.image_board.specs.ImageLaws.{no_images}
use Rattle.updaters.specs.declared.note.VolumeNote.{VolumeNote}
use Rattle.updaters.specs.declared.seat.VolumeSeat.{VolumeSeat}
use Rattle.updaters.specs.Seats.{Sits, IsSeated, with_images}
use Rattle.volume_sessions.specs.declared.opening.Start.{Start}
use Rattle.volume_sessions.specs.declared.opening.Opened.{Opened}
use Rattle.volume_sessions.specs.declared.placed.NotBegun.{NotBegun}
use Rattle.volume_sessions.specs.declared.placed.Placed.{Placed}
use Rattle.volume_sessions.specs.declared.watch.Place.{Place}
use Rattle.volume_sessions.specs.Shown.{placed_by}
use Rattle.volume_sessions.specs.Rising.{Rose, IsAsGiven}
use Rattle.volume_sessions.specs.Watching.{IsOwn, IsKept, IsPlaceOf, IsFirst}
use Rattle.volume_sessions.specs.Opening.{IsFresh, HasOwn, MayStart, HasOpened, AreNoted, IsPutAs, put_in}
use Rattle.updaters.specs.Rising.{IsNotedAt}
use Rattle.volume_sessions.proofs.Seeing.{places_later}
use Rattle.volume_sessions.proofs.Points.{beside_left}
use Rattle.updater_pool.specs.ZipLaws.{zip_behind}
use Rattle.volume_sessions.proofs.Zips.{zip_mapped, zip_unmapped}
use Rattle.image_board.specs.NoteLaws.{zip_weaker}

pub as_given : {D : Type 0} (tells : Type 0) (files : D → Disk) (counts : D → Counts) (p : Placed D) → (tells → InUse files p.volume) → IsAsGiven tells files counts p p
as_given tells files counts p in_use = record { vol = refl; rows = refl; restart = refl; in_use = in_use; counts_are = refl }

-- a seat that was closed before anybody had a turn
pub closed_fresh : {D : Type 0} (tells : Type 0) (files : D → Disk) (counts : D → Counts) (first now : VolumeSeat D) (story : Story) (at : ℕ) → Stands (Sits tells files counts) (λ s. restart_of s.volume) first story now → story ≡ untold (restart_of first.volume) → now.failed ≡ None →
    IsAsGiven tells files counts (record { vol = first.vol; volume = first.volume }) (record { vol = now.vol; volume = now.volume })
closed_fresh tells files counts first now story at stood fresh well =
    let is = subst (λ f. IsSeated tells files counts first.vol now.board.story first.volume story.entries f now.volume) well stood.0.state in
    record {
      vol = stood.0.vol;
      rows = is.rows ∙ ap (λ (s : Story). with_images (rows_of first.volume) s.entries) fresh;
      restart = stood.1 ∙ ap (λ (s : Story). s.number) fresh;
      in_use = is.in_use;
      counts_are = is.counts_are;
    }

-- the places and passes of what was opened serve to close it again
pub own_places : {D : Type 0} (tells : Type 0) (files : D → Disk) (counts : D → Counts) (board : LockId) (seen : Seeing) (seats : List (Lock (VolumeSeat D))) (places : List (Place D)) → AllZip (IsPlaceOf tells files counts board seen) seats places → AllZip HasOwn seats places
own_places tells files counts board seen seats places all = zip_weaker (IsPlaceOf tells files counts board seen) HasOwn (λ seat place is. (is.own, is.all_seats)) seats places all

pub fresh_starts : {D : Type 0} (board : Lock (Published (VolumeNote D))) (seats : List (Lock (VolumeSeat D))) (starts : List Start) → AllZip (MayStart board) seats starts → AllZip IsFresh seats starts
fresh_starts board seats starts all = zip_weaker (MayStart board) IsFresh (λ seat start may. may.1) seats starts all

-- one lock more is open
pub opened_more : {D : Type 0} (tells : Type 0) (files : D → Disk) (counts : D → Counts) (board : Lock (Published (VolumeNote D))) (pass seen : Seeing) (n : ℕ) (whole rest : List (Placed D)) (placed : Placed D) (lists new : Opened D) (seat : Lock (VolumeSeat D)) (place : Place D) (start : Start) →
    HasOpened tells files counts board pass rest lists → seen ≡ with_seats pass n → whole ≡ rest ++ placed ∷ [] → IsPlaceOf tells files counts board.id seen seat place → MayStart board seat start → put_in seat ≡ placed → placed_by place ≡ placed →
    new.seats.items ≡ lists.seats.items ++ seat ∷ [] → new.places.items ≡ lists.places.items ++ place ∷ [] → new.starts.items ≡ lists.starts.items ++ start ∷ [] → new.given.items ≡ lists.given.items →
    HasOpened tells files counts board pass whole new
opened_more tells files counts board pass seen n whole rest placed lists new seat place start has same all is may put shows seats places starts given = record {
  places = zip_behind (IsPlaceOf tells files counts board.id pass) _ lists.seats.items _ lists.places.items seat place seats places has.places
      (places_later tells files counts board.id seen pass (seat ∷ []) (place ∷ []) (subst (λ (p : Seeing). Begins p.story pass.story) (sym same) (begins_itself pass.story)) (is, tt)).0;
  starts = zip_behind (MayStart board) _ lists.seats.items _ lists.starts.items seat start seats starts has.starts may;
  put = all ∙ ap (λ (l : List (Placed _)). l ++ placed ∷ []) has.put ∙ ap (λ (p : Placed _). map put_in lists.seats.items ++ p ∷ []) (sym put) ∙ sym (ap (map put_in) seats ∙ map-append put_in lists.seats.items (seat ∷ []));
  shown = all ∙ ap (λ (l : List (Placed _)). l ++ placed ∷ []) has.shown ∙ ap (λ (p : Placed _). map placed_by lists.places.items ++ p ∷ []) (sym shows) ∙ sym (ap (map placed_by) places ∙ map-append placed_by lists.places.items (place ∷ []));
  none_left = given ∙ has.none_left;
}

-- all that was open was closed again, and one that was refused came back
pub back_all : {D : Type 0} (tells : Type 0) (files : D → Disk) (counts : D → Counts) (whole rest : List (Placed D)) (placed : Placed D) (seats : List (Lock (VolumeSeat D))) (back all : List (Placed D)) (refused : Placed D) →
    whole ≡ rest ++ placed ∷ [] → rest ≡ map put_in seats → AllZip (λ seat b. IsAsGiven tells files counts (put_in seat) b) seats back → refused ≡ placed → (tells → InUse files placed.volume) → all ≡ back ++ refused ∷ [] →
    AllZip (IsAsGiven tells files counts) whole all
back_all tells files counts whole rest placed seats back all refused e put zip same in_use f =
    zip_behind (IsAsGiven tells files counts) whole rest all back placed refused e f
    (subst (λ l. AllZip (IsAsGiven tells files counts) l back) (sym put) (zip_mapped (IsAsGiven tells files counts) put_in seats back zip))
    (subst (λ p. IsAsGiven tells files counts placed p) (sym same) (as_given tells files counts placed in_use))

-- a seat to which nothing was done stands for its own story
pub sits_fresh : {D : Type 0} (tells : Type 0) (files : D → Disk) (counts : D → Counts) (seat : VolumeSeat D) → seat.failed ≡ None → seat.board.seats ≡ 1 → seat.board.writes ≡ false → restart_of seat.volume ≤ seat.board.story.number → (tells → InUse files seat.volume) →
    Sits tells files counts seat (untold (restart_of seat.volume)) seat
sits_fresh tells files counts seat fit one reader seen in_use = record {
  vol = refl;
  stops_before = refl;
  faults_before = refl;
  lasts = refl;
  lock = refl;
  seats = one;
  reader = reader;
  seen = seen;
  behind = le_refl (restart_of seat.volume);
  entries = sym (no_images seat.vol (restart_of seat.volume) seat.board.story.entries);
  state = subst (λ f. IsSeated tells files counts seat.vol seat.board.story seat.volume [] f seat.volume) (sym fit) (record { in_use = in_use; rows = refl; counts_are = refl });
}

-- a place that was made with its seat
pub place_fresh : {D : Type 0} (tells : Type 0) (files : D → Disk) (counts : D → Counts) (board : LockId) (seen : Seeing) (seat : Lock (VolumeSeat D)) (value : VolumeSeat D) (place : Place D) (own vol_pass : Seeing) (n : ℕ) → seat.first ≡ value → seat.seats ≡ 2 → value.vol ≡ place.vol → value.volume ≡ place.last.value →
    value.board.lock ≡ board → place.own ≡ Some own → own ≡ given_pass vol_pass → vol_pass ≡ makers_pass seat.id n 2 → restart_of place.last.value ≡ n → place.point ≡ restart_of place.last.value → restart_of place.last.value ≤ seen.story.number → (tells → InUse files place.last.value) → place.noted ≡ None →
    IsPlaceOf tells files counts board seen seat place
place_fresh tells files counts board seen seat value place own vol_pass n first many vol volume board_is mine given made at point within in_use none =
    let is : own ≡ given_pass (makers_pass seat.id n 2) = given ∙ ap given_pass made in
    let v = place.last.value in
    let begun : seat.first.volume ≡ v = ap (λ (s : VolumeSeat _). s.volume) first ∙ volume in
    record {
      own = subst (λ o. MatchOption o ⊥ (IsOwn seat (restart_of v))) (sym mine) (record {
        lock = ap (λ (p : Seeing). p.lock) is;
        reader = ap (λ (p : Seeing). p.writes) is;
        seats = ap (λ (p : Seeing). p.seats) is;
        so_far = (let number = ap (λ (p : Seeing). p.story.number) is in omega (arith, number, at));
      });
      all_seats = many;
      vol = ap (λ (s : VolumeSeat _). s.vol) first ∙ vol;
      board_is = ap (λ (s : VolumeSeat _). s.board.lock) first ∙ board_is;
      rose = subst (λ (u : Volume _). Rose tells files counts place.vol seen.story.entries seen.story.number u v) (sym begun) (record {
        behind = le_refl (restart_of v);
        within = within;
        rows = ap (with_images (rows_of v)) (sym (no_images place.vol (restart_of v) seen.story.entries));
        in_use = in_use;
        counts_are = refl;
      });
      point_is = point;
      noted = subst (λ o. IfSome o (IsKept tells files counts seen seat place.own place.vol)) (sym none) tt;
    }

pub all_given : {D : Type 0} (tells : Type 0) (files : D → Disk) (counts : D → Counts) (l : List (Placed D)) → (tells → All (λ p. InUse files p.volume) l) → AllZip (IsAsGiven tells files counts) l l
all_given tells files counts l in_use = each l (λ it. recursion_from_All (λ p. InUse files p.volume) l (in_use it))
  where
    each : (l : List (Placed _)) → (tells → AllByRecursion (λ p. InUse files p.volume) l) → AllZip (IsAsGiven tells files counts) l l
    each [] in_use = tt
    each (p ∷ ps) in_use = (as_given tells files counts p (λ it. (in_use it).0), each ps (λ it. (in_use it).1))

-- the places by the pass that is left once each lock is open
pub opened_places : {D : Type 0} (tells : Type 0) (files : D → Disk) (counts : D → Counts) (board : Lock (Published (VolumeNote D))) (old new : Seeing) (n : ℕ) (volumes : List (Placed D)) (opened : Opened D) → HasOpened tells files counts board old volumes opened → new ≡ with_seats old n →
    AllZip (IsPlaceOf tells files counts board.id new) opened.seats.items opened.places.items
opened_places tells files counts board old new n volumes opened has same =
    places_later tells files counts board.id old new opened.seats.items opened.places.items (subst (λ (p : Seeing). Begins old.story p.story) (sym same) (begins_itself old.story)) has.places

-- what came back of what was put into the seats
pub back_given : {D I T : Type 0} (tells : Type 0) (files : D → Disk) (counts : D → Counts) (inside : I) (volumes : List (Placed D)) (seats : List (Lock (VolumeSeat D))) (result : Result T (NotBegun D I)) → volumes ≡ map put_in seats →
    IfErr result (λ n. (n.inside ≡ inside) × AllZip (λ seat back. IsAsGiven tells files counts (put_in seat) back) seats n.volumes.items) → IfErr result (λ n. (n.inside ≡ inside) × AllZip (IsAsGiven tells files counts) volumes n.volumes.items)
back_given tells files counts inside volumes seats (Ok x) put back = tt
back_given tells files counts inside volumes seats (Err n) put back =
    (back.0, subst (λ l. AllZip (IsAsGiven tells files counts) l n.volumes.items) (sym put) (zip_mapped (IsAsGiven tells files counts) put_in seats n.volumes.items back.1))

-- the notes of volumes that are still to be opened, and of the last of them
pub noted_less : {D : Type 0} (firsts : List (VolumeNote D)) (whole rest : List (Placed D)) (placed : Placed D) → whole ≡ rest ++ placed ∷ [] → AreNoted firsts whole → AreNoted firsts rest
noted_less firsts whole rest placed e all k p at =
    let within = slice_get_within rest k p at in
    let more : k < length (rest ++ placed ∷ []) = (let long = length-append rest (placed ∷ []) in omega (arith, within, long)) in
    all k p (ap (λ l. slice_get l k) e ∙ slice_get-get_or (rest ++ placed ∷ []) k p more ∙ ap Some (get_or_append_left rest (placed ∷ []) p k within ∙ get_or_from_slice_get rest k p p at))

pub noted_last : {D : Type 0} (firsts : List (VolumeNote D)) (whole rest : List (Placed D)) (placed : Placed D) (k : ℕ) → whole ≡ rest ++ placed ∷ [] → k ≡ length rest → AreNoted firsts whole → IsNotedAt firsts k placed.vol placed.volume
noted_last firsts whole rest placed k e last all =
    let more : k < length (rest ++ placed ∷ []) = (let long = length-append rest (placed ∷ []) in omega (arith, last, long)) in
    all k placed (ap (λ l. slice_get l k) e ∙ slice_get-get_or (rest ++ placed ∷ []) k placed more ∙ ap Some (ap (λ n. get_or (rest ++ placed ∷ []) n placed) last ∙ get_or-append_seam rest placed [] placed))

-- the notes of these volumes
pub are_noted : {D : Type 0} (firsts : List (VolumeNote D)) (volumes given : List (Placed D)) → given ≡ volumes → AllZip IsPutAs volumes firsts → AreNoted firsts given
are_noted firsts volumes given e all k p at =
    let there = beside_left IsPutAs volumes firsts k p all (ap (λ l. slice_get l k) (sym e) ∙ at) in
    record { note = there.0; there = there.1; is = there.2 }

-- and so of the seats that these were put into
pub are_firsts : {D : Type 0} (firsts : List (VolumeNote D)) (volumes given : List (Placed D)) (seats : List (Lock (VolumeSeat D))) → given ≡ volumes → given ≡ map put_in seats → AllZip IsPutAs volumes firsts → AllZip IsFirst seats firsts
are_firsts firsts volumes given seats e put all = zip_unmapped IsPutAs put_in seats firsts (subst (λ l. AllZip IsPutAs l firsts) (sym e ∙ put) all)
