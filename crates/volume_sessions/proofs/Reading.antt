-- What a turn of the calling thread on a volume tells.
use Rattle.std.proofs.Common.{◌≡◌, ℕ, List, Option, Some, None, MatchOption, IfSome, refl, sym, ap, ◌∙◌, subst, arith}
use Rattle.std.specs.FinMap.{get}
use Rattle.rdf_types.specs.declared.records.RecKey.{RecKey}
use Rattle.rdf_types.specs.Entries.{Rises}
use Rattle.rdf_types.specs.EntryLaws.{rises_le}
use Rattle.rdf_disk.specs.Files.{Disk}
use Rattle.rdf_disk.specs.Counts.{Counts}
use Rattle.rdf_volume.specs.Views.{rows_of, restart_of}
use Rattle.rdf_volume.specs.declared.volume.Volume.{Volume}
use Rattle.seated_lock.specs.Passes.{Seeing, Lock, LockId}
use Rattle.updaters.specs.declared.seat.VolumeSeat.{VolumeSeat}
use Rattle.updaters.specs.Seats.{row_at}
use Rattle.updaters.specs.Turns.{HasSeen, IsShown, IsLater}
use Rattle.volume_sessions.specs.declared.watch.Place.{Place}
use Rattle.volume_sessions.specs.Shown.{noted_in}
use Rattle.volume_sessions.specs.Rising.{Rose, SeesRow}
use Rattle.volume_sessions.specs.Watching.{IsOwn, IsKept, IsPlaceOf, kept_in, with_seen}
use Rattle.updaters.specs.declared.note.SeenVolume.{SeenVolume}
use Rattle.image_board.specs.declared.remembered.Remembered.{Remembered}
use Rattle.volume_sessions.proofs.Rises.{rose_first, rose_on}

-- the pass that a place has
pub own_of : {D : Type 0} (tells : Type 0) (files : D → Disk) (counts : D → Counts) (board : LockId) (seen : Seeing) (seat : Lock (VolumeSeat D)) (place : Place D) (own : Seeing) → IsPlaceOf tells files counts board seen seat place → place.own ≡ Some own → IsOwn seat (restart_of place.last.value) own
own_of tells files counts board seen seat place own is at = subst (λ o. MatchOption o ⊥ (IsOwn seat (restart_of place.last.value))) at is.own

-- the pass after a turn
pub own_later : {D : Type 0} (seat : Lock (VolumeSeat D)) (upto : ℕ) (own later : Seeing) → IsOwn seat upto own → IsLater own later → IsOwn seat upto later
own_later seat upto own later is l = record {
  lock = l.lock ∙ is.lock;
  reader = l.writes ∙ is.reader;
  seats = l.seats ∙ is.seats;
  so_far = (let le = rises_le own.story.number l.seen.later later.story.number l.seen.rises in omega (arith, is.so_far, le));
}

-- a row was found, in a turn that saw the volume so
pub sees_row : {D : Type 0} (tells : Type 0) (files : D → Disk) (counts : D → Counts) (board : LockId) (seen : Seeing) (seat : Lock (VolumeSeat D)) (place : Place D) (own later : Seeing) (start : ℕ) (key : RecKey) (value : Option (List ℕ)) (now : Volume D) →
    IsPlaceOf tells files counts board seen seat place → place.own ≡ Some own → place.vol ≡ key.vol → Rises start seen.story.entries seen.story.number → IsLater own later →
    HasSeen seat.first seen.story later.story → IsShown tells files counts seat.first later.story now → (tells → value ≡ row_at (rows_of seat.first.volume) later.story.entries key) →
    SeesRow tells files counts seen.story key place.last.value now value
sees_row tells files counts board seen seat place own later start key value now is at vol rises l has shown found =
    let mine = own_later seat (restart_of place.last.value) own later (own_of tells files counts board seen seat place own is at) l in
    let numbered : seat.first.vol ≡ key.vol = is.vol ∙ vol in
    let first = rose_first tells files counts key.vol seat.first seen.story later.story now numbered has shown in
    let last = subst (λ (v : ℕ). Rose tells files counts v seen.story.entries seen.story.number seat.first.volume place.last.value) vol is.rose in
    record {
      rose = rose_on tells files counts key.vol start seen.story.number seen.story.entries seat.first.volume place.last.value now rises last first (omega (arith, mine.so_far, shown.1));
      value_is = λ t. found t ∙ ap (λ r. get r (key.file, key.key)) (sym shown.0.rows);
    }

-- what was asked for, by the pass after a turn
kept_later : {D : Type 0} (tells : Type 0) (files : D → Disk) (counts : D → Counts) (seen : Seeing) (seat : Lock (VolumeSeat D)) (vol : ℕ) (own later : Seeing) (s : SeenVolume D) → IsKept tells files counts seen seat (Some own) vol s → IsLater own later → IsKept tells files counts seen seat (Some later) vol s
kept_later tells files counts seen seat vol own later s is l = record {
  ahead = is.ahead;
  so_far = (let le = rises_le own.story.number l.seen.later later.story.number l.seen.rises in omega (arith, is.so_far, le));
}

pub all_later : {D : Type 0} (tells : Type 0) (files : D → Disk) (counts : D → Counts) (seen : Seeing) (seat : Lock (VolumeSeat D)) (vol : ℕ) (own later : Seeing) (o : Option (SeenVolume D)) → IfSome o (IsKept tells files counts seen seat (Some own) vol) → IsLater own later →
    IfSome o (IsKept tells files counts seen seat (Some later) vol)
all_later tells files counts seen seat vol own later None is l = tt
all_later tells files counts seen seat vol own later (Some s) is l = kept_later tells files counts seen seat vol own later s is l

-- what is kept as asked for, where a volume is seen anew
kept_so : {D : Type 0} (tells : Type 0) (files : D → Disk) (counts : D → Counts) (seen : Seeing) (seat : Lock (VolumeSeat D)) (vol : ℕ) (own later : Seeing) (last : Remembered (Volume D)) (point : ℕ) (o : Option (SeenVolume D)) →
    IsOwn seat (restart_of last.value) own → point ≡ restart_of last.value → Rose tells files counts vol seen.story.entries seen.story.number seat.first.volume last.value → IfSome o (IsKept tells files counts seen seat (Some own) vol) → IsLater own later →
    IsKept tells files counts seen seat (Some later) vol (kept_in o last point)
kept_so tells files counts seen seat vol own later last point None mine at rose is l =
    kept_later tells files counts seen seat vol own later (record { volume = last; point = point }) (record { ahead = record { point_is = at; rose = rose }; so_far = (let far = mine.so_far in omega (arith, at, far)) }) l
kept_so tells files counts seen seat vol own later last point (Some s) mine at rose is l = kept_later tells files counts seen seat vol own later s is l

-- and that it shows what was asked for before
pub kept_same : {D : Type 0} (o : Option (SeenVolume D)) (last : Remembered (Volume D)) (point : ℕ) → (kept_in o last point).volume.value ≡ noted_in o last.value
kept_same None last point = refl
kept_same (Some s) last point = refl

-- the place after a turn that found no fault
pub place_seen : {D : Type 0} (tells : Type 0) (files : D → Disk) (counts : D → Counts) (board : LockId) (seen : Seeing) (seat : Lock (VolumeSeat D)) (place : Place D) (own later : Seeing) (volume : Remembered (Volume D)) (point : ℕ) → IsPlaceOf tells files counts board seen seat place → place.own ≡ Some own →
    IsLater own later → HasSeen seat.first seen.story later.story → IsShown tells files counts seat.first later.story volume.value → point ≡ restart_of volume.value → IsPlaceOf tells files counts board seen seat (with_seen (record place { own = Some later }) volume point)
place_seen tells files counts board seen seat place own later volume point is at l has shown point_is =
    let mine = own_of tells files counts board seen seat place own is at in
    let kept = subst (λ o. IfSome place.noted (IsKept tells files counts seen seat o place.vol)) at is.noted in
    record {
      own = record { lock = l.lock ∙ mine.lock; reader = l.writes ∙ mine.reader; seats = l.seats ∙ mine.seats; so_far = omega (arith, shown.1) };
      all_seats = is.all_seats;
      vol = is.vol;
      board_is = is.board_is;
      rose = rose_first tells files counts place.vol seat.first seen.story later.story volume.value is.vol has shown;
      point_is = point_is;
      noted = kept_so tells files counts seen seat place.vol own later place.last place.point place.noted mine is.point_is is.rose kept l;
    }
