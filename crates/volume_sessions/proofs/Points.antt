-- Places of a watch by their numbers.
use Rattle.std.proofs.Common.{◌≡◌, ℕ, ◌<◌, List, length, map, slice_get, Option, Some, None, IfSome, MatchOption, get_or, refl, sym, ap, ◌∙◌, subst, arith}
use Rattle.std.specs.List.{AllZip}
use Rattle.std.specs.Option.{IsSomeAnd}
use Rattle.std.proofs.lemmas.Option.{slice_get-map, slice_get_read}
use Rattle.std.proofs.lemmas.Slice.Zip.{AllZip-left, AllZip-right}
use Rattle.std.proofs.lemmas.List.{length-map}
use Rattle.rdf_disk.specs.Files.{Disk}
use Rattle.rdf_disk.specs.Counts.{Counts}
use Rattle.rdf_volume.specs.Views.{restart_of}
use Rattle.rdf_volume.specs.declared.volume.Volume.{Volume}
use Rattle.seated_lock.specs.Passes.{Seeing, Lock}
use Rattle.image_board.specs.Boards.{Published}
use Rattle.updaters.specs.declared.note.SeenVolume.{SeenVolume}
use Rattle.updaters.specs.declared.note.VolumeNote.{VolumeNote}
use Rattle.updaters.specs.declared.seat.VolumeSeat.{VolumeSeat}
use Rattle.volume_sessions.specs.declared.watch.Place.{Place}
use Rattle.volume_sessions.specs.Shown.{Shown, placed_by, noted_by, noted_in, shown_by}
use Rattle.volume_sessions.specs.Watching.{IsKept, IsPlaceOf, IsWatching, point_in}

some_and : {A : Type 0} (o : Option A) (P : A → Type 0) → IsSomeAnd o P → (x : A) × (o ≡ Some x) × P x
some_and None P h = absurd h
some_and (Some x) P h = (x, refl, h)

-- the one of the first list that stands beside one of the second
pub beside : {A B : Type 0} (Q : A → B → Type 0) (xs : List A) (ys : List B) (k : ℕ) (y : B) → AllZip Q xs ys → slice_get ys k ≡ Some y → (x : A) × (slice_get xs k ≡ Some x) × Q x y
beside Q xs ys k y all at =
    some_and (slice_get xs k) (λ x. Q x y) (subst (λ o. MatchOption o (Unit {0}) (λ z. IsSomeAnd (slice_get xs k) (λ x. Q x z))) at (AllZip-right Q xs ys all k))

-- the one of the second list that stands beside one of the first
pub beside_left : {A B : Type 0} (Q : A → B → Type 0) (xs : List A) (ys : List B) (k : ℕ) (x : A) → AllZip Q xs ys → slice_get xs k ≡ Some x → (y : B) × (slice_get ys k ≡ Some y) × Q x y
beside_left Q xs ys k x all at =
    some_and (slice_get ys k) (λ y. Q x y) (subst (λ o. MatchOption o (Unit {0}) (λ z. IsSomeAnd (slice_get ys k) (Q z))) at (AllZip-left Q xs ys all k))

mapped_there : {A B : Type 0} (f : A → B) (xs : List A) (k : ℕ) (r : A) → slice_get xs k ≡ Some r → slice_get (map f xs) k ≡ Some (f r)
mapped_there f xs k r at = slice_get-map f xs k ∙ ap (λ o. option_map f o) at
  where
    option_map : {A B : Type 0} → (A → B) → Option A → Option B
    option_map f None = None
    option_map f (Some x) = Some (f x)

-- the place of that number, and what is shown of it
pub place_there : {D : Type 0} (board : Lock (Published (VolumeNote D))) (seats : List (Lock (VolumeSeat D))) (away : Option Seeing) (seen : Seeing) (places : List (Place D)) (s : Shown D) (k : ℕ) (r : Place D) → shown_by board seats away seen places ≡ s → slice_get places k ≡ Some r →
    slice_get s.volumes k ≡ Some (placed_by r)
place_there board seats away seen places s k r view at =
    ap (λ (x : Shown _). slice_get x.volumes k) (sym view) ∙ mapped_there placed_by places k r at

noted_there : {D : Type 0} (board : Lock (Published (VolumeNote D))) (seats : List (Lock (VolumeSeat D))) (away : Option Seeing) (seen : Seeing) (places : List (Place D)) (s : Shown D) (k : ℕ) (r : Place D) → shown_by board seats away seen places ≡ s → slice_get places k ≡ Some r →
    slice_get s.noted k ≡ Some (noted_by r)
noted_there board seats away seen places s k r view at = ap (λ (x : Shown _). slice_get x.noted k) (sym view) ∙ mapped_there noted_by places k r at

pub point_there : {D : Type 0} (tells : Type 0) (files : D → Disk) (counts : D → Counts) (board : Lock (Published (VolumeNote D))) (seats : List (Lock (VolumeSeat D))) (away : Option Seeing) (seen : Seeing) (places : List (Place D)) (s : Shown D) (k : ℕ) (r : Place D) →
    shown_by board seats away seen places ≡ s → IsWatching tells files counts board seats away seen places → r ≡ get_or places k r → k < length s.volumes → IfSome (slice_get s.volumes k) (λ was. r.point ≡ restart_of was.volume)
point_there tells files counts board seats away seen places s k r view w is within =
    let many : length places ≡ length s.volumes = sym (length-map places placed_by) ∙ ap (λ (x : Shown _). length x.volumes) view in
    let at = slice_get_read places (length places) k r refl (omega (arith, many, within)) is in
    let stood = beside (IsPlaceOf tells files counts board.id seen) seats places k r w.places_are at in
    subst (λ o. IfSome o (λ was. r.point ≡ restart_of was.volume)) (sym (place_there board seats away seen places s k r view at)) stood.2.point_is

kept_point : {D : Type 0} (tells : Type 0) (files : D → Disk) (counts : D → Counts) (seen : Seeing) (seat : Lock (VolumeSeat D)) (own : Option Seeing) (vol point : ℕ) (last : Volume D) (o : Option (SeenVolume D)) → point ≡ restart_of last → IfSome o (IsKept tells files counts seen seat own vol) →
    point_in o point ≡ restart_of (noted_in o last)
kept_point tells files counts seen seat own vol point last None at is = at
kept_point tells files counts seen seat own vol point last (Some s) at is = is.ahead.point_is

-- the same of what was asked for
pub noted_point : {D : Type 0} (tells : Type 0) (files : D → Disk) (counts : D → Counts) (board : Lock (Published (VolumeNote D))) (seats : List (Lock (VolumeSeat D))) (away : Option Seeing) (seen : Seeing) (places : List (Place D)) (s : Shown D) (k : ℕ) (r : Place D) →
    shown_by board seats away seen places ≡ s → IsWatching tells files counts board seats away seen places → r ≡ get_or places k r → k < length s.noted → IfSome (slice_get s.noted k) (λ was. point_in r.noted r.point ≡ restart_of was.volume)
noted_point tells files counts board seats away seen places s k r view w is within =
    let many : length places ≡ length s.noted = sym (length-map places noted_by) ∙ ap (λ (x : Shown _). length x.noted) view in
    let at = slice_get_read places (length places) k r refl (omega (arith, many, within)) is in
    let stood = beside (IsPlaceOf tells files counts board.id seen) seats places k r w.places_are at in
    subst (λ o. IfSome o (λ was. point_in r.noted r.point ≡ restart_of was.volume)) (sym (noted_there board seats away seen places s k r view at))
    (kept_point tells files counts seen stood.0 r.own r.vol r.point r.last.value r.noted stood.2.point_is stood.2.noted)
