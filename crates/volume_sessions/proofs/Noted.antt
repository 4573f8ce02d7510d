-- What was noted of volumes, asked for and accepted.
use Rattle.std.proofs.Common.{◌≡◌, ◌⊎◌, ⊎_elim, inl, inr, ℕ, zero, suc, ◌<◌, ◌≤◌, false, List, [], ◌∷◌, length, map, set, get_or, slice_get, Option, Some, None, MatchOption, IfSome, le_refl, refl, sym, ap, ◌∙◌, subst, arith}
use Rattle.std.specs.List.{All, AllZip, AllByRecursion}
use Rattle.std.proofs.lemmas.List.Elements.{recursion_from_All}
use Rattle.rdf_types.specs.declared.records.Stamped.{Stamped}
use Rattle.rdf_types.specs.Entries.{Rises}
use Rattle.rdf_disk.specs.Files.{Disk}
use Rattle.rdf_disk.specs.Counts.{Counts}
use Rattle.rdf_volume.specs.Views.{rows_of, restart_of}
use Rattle.rdf_volume.specs.declared.volume.Volume.{Volume}
use Rattle.seated_lock.specs.declared.story.Story.{Story}
use Rattle.seated_lock.specs.Passes.{Seeing, Lock, LockId}
use Rattle.image_board.specs.Boards.{Published}
use Rattle.image_board.specs.ImageLaws.{no_images}
use Rattle.updaters.specs.Seats.{with_images}
use Rattle.updaters.specs.Turns.{IsLater}
use Rattle.updaters.specs.Rising.{IsAhead, IsAheadOf, Fits, IsNotedAt}
use Rattle.updaters.specs.declared.note.SeenVolume.{SeenVolume}
use Rattle.updaters.specs.declared.note.VolumeNote.{VolumeNote}
use Rattle.updaters.specs.declared.seat.VolumeSeat.{VolumeSeat}
use Rattle.volume_sessions.specs.declared.watch.Place.{Place}
use Rattle.volume_sessions.specs.Shown.{Shown, placed_by, noted_by, noted_in, shown_by, is_away}
use Rattle.volume_sessions.specs.Rising.{Rose, AreRisen}
use Rattle.volume_sessions.specs.Watching.{IsOwn, IsKept, IsPlaceOf, IsWatching, IsAsked, accept_in, accepted}
use Rattle.volume_sessions.proofs.Reading.{own_later}
use Rattle.volume_sessions.proofs.Rises.{rose_on}

some_same : {A : Type 0} (o : Option A) (x y : A) → o ≡ Some x → o ≡ Some y → x ≡ y
some_same o x y e f = cc

-- of what is there
pub at_some : {A : Type 0} (P : A → Type 0) (o : Option A) (x : A) → o ≡ Some x → IfSome o P → P x
at_some P o x e is = subst (λ z. IfSome z P) e is

module _ {D : Type 0} (tells : Type 0) (files : D → Disk) (counts : D → Counts) where
  -- what may stand where a note was taken away
  pub gone_fits : (vol : ℕ) (entries : List Stamped) (end : ℕ) (o : Option (VolumeNote D)) → IfSome o (λ f. vol ≡ f.vol) → IfSome o (λ f. Fits tells files counts f entries end (record { vol = vol; seen = None }))
  gone_fits vol entries end None same = tt
  gone_fits vol entries end (Some f) same = inr (same, tt)

  -- what was taken away
  pub taken_seen : (entries : List Stamped) (end : ℕ) (note : VolumeNote D) (o : Option (VolumeNote D)) (t : Option (SeenVolume D)) → note.seen ≡ t → IfSome o (λ f. Fits tells files counts f entries end note) →
      IfSome t (λ s. IfSome o (λ f. (f.seen ≡ Some s) ⊎ IsAheadOf tells files counts f entries end s))
  taken_seen entries end note o None e fits = tt
  taken_seen entries end note None (Some s) e fits = tt
  taken_seen entries end note (Some f) (Some s) e (inl same) = inl (sym (ap (λ (n : VolumeNote D). n.seen) same) ∙ e)
  taken_seen entries end note (Some f) (Some s) e (inr is) = inr (at_some (IsAheadOf tells files counts f entries end) note.seen s e is.1)

  module _ (id : LockId) (seen : Seeing) (seat : Lock (VolumeSeat D)) (start : ℕ) (rises : Rises start seen.story.entries seen.story.number) (p : Place D) (is : IsPlaceOf tells files counts id seen seat p) where
    -- the pass, once it has looked how far the volume has come
    abbrev Looked : Option Seeing → ℕ → Type 0
    Looked own reached = MatchOption own ⊥ (λ now. IsOwn seat (restart_of p.last.value) now × (reached ≡ now.story.number))

    looked : (o own : Option Seeing) (reached : ℕ) → MatchOption o ⊥ (IsOwn seat (restart_of p.last.value)) → MatchOption o ⊥ (λ was. MatchOption own ⊥ (λ now. IsLater was now × (reached ≡ now.story.number))) → Looked own reached
    looked None own reached mine l = absurd l
    looked (Some was) None reached mine l = absurd l
    looked (Some was) (Some now) reached mine l = (own_later seat (restart_of p.last.value) was now mine l.0, l.1)

    own_so : (own : Option Seeing) (reached : ℕ) → Looked own reached → MatchOption own ⊥ (IsOwn seat (restart_of p.last.value))
    own_so None reached l = l
    own_so (Some now) reached l = l.0

    far_so : (own : Option Seeing) (reached k : ℕ) → Looked own reached → k ≤ reached → MatchOption own ⊥ (λ o. k ≤ o.story.number)
    far_so None reached k l le = l
    far_so (Some now) reached k l le = omega (arith, l.1, le)

    -- what was found on the board is of this volume, and it is beyond the first one where it is beyond the last
    found_ahead : (firsts : List (VolumeNote D)) (at : ℕ) (s : SeenVolume D) → IsNotedAt firsts at seat.first.vol seat.first.volume → p.point < s.point →
        IfSome (slice_get firsts at) (λ f. (f.seen ≡ Some s) ⊎ IsAheadOf tells files counts f seen.story.entries seen.story.number s) → IsAhead tells files counts p.vol seat.first.volume seen.story.entries seen.story.number s
    found_ahead firsts at s n beyond found =
        ⊎_elim (λ same. absurd (no_first same)) ahead (at_some (λ f. (f.seen ≡ Some s) ⊎ IsAheadOf tells files counts f seen.story.entries seen.story.number s) (slice_get firsts at) n.note n.there found)
      where
        no_first : n.note.seen ≡ Some s → ⊥
        no_first same =
            let one : n.is.seen ≡ s = some_same n.note.seen n.is.seen s n.is.there same in
            let point : s.point ≡ restart_of seat.first.volume = ap (λ (x : SeenVolume D). x.point) (sym one) ∙ n.is.is.point_is in
            let behind = is.rose.behind in let last = is.point_is in
            absurd (omega (arith, beyond, point, behind, last))

        ahead : IsAheadOf tells files counts n.note seen.story.entries seen.story.number s → IsAhead tells files counts p.vol seat.first.volume seen.story.entries seen.story.number s
        ahead of =
            let here = at_some (λ f. IsAhead tells files counts n.note.vol f.volume.value seen.story.entries seen.story.number s) n.note.seen n.is.seen n.is.there of in
            subst (λ (v : ℕ). IsAhead tells files counts v seat.first.volume seen.story.entries seen.story.number s) (n.is.vol_is ∙ is.vol)
            (subst (λ (x : Volume D). IsAhead tells files counts n.note.vol x seen.story.entries seen.story.number s) n.is.is.volume_is here)

    -- what is kept now
    kept_now : (own : Option Seeing) (reached : ℕ) (s : SeenVolume D) → Looked own reached → IsAhead tells files counts p.vol seat.first.volume seen.story.entries seen.story.number s → s.point ≤ reached → IsKept tells files counts seen seat own p.vol s
    kept_now own reached s l ahead le = record { ahead = ahead; so_far = far_so own reached s.point l le }

    rose_itself : Rose tells files counts p.vol seen.story.entries seen.story.number p.last.value p.last.value
    rose_itself = record {
      behind = le_refl (restart_of p.last.value);
      within = is.rose.within;
      rows = ap (with_images (rows_of p.last.value)) (sym (no_images p.vol (restart_of p.last.value) seen.story.entries));
      in_use = is.rose.in_use;
      counts_are = refl;
    }

    placed_so : (own : Option Seeing) (reached : ℕ) (o : Option (SeenVolume D)) → Looked own reached → IfSome o (IsKept tells files counts seen seat own p.vol) → IsPlaceOf tells files counts id seen seat (record p { own = own; noted = o })
    placed_so own reached o l kept = record { own = own_so own reached l; all_seats = is.all_seats; vol = is.vol; board_is = is.board_is; rose = is.rose; point_is = is.point_is; noted = kept }

    -- the place, once it was asked
    pub asked : (own : Option Seeing) (reached : ℕ) (found result : Option (SeenVolume D)) (firsts : List (VolumeNote D)) (at : ℕ) → MatchOption p.own ⊥ (λ was. MatchOption own ⊥ (λ now. IsLater was now × (reached ≡ now.story.number))) →
        IsNotedAt firsts at seat.first.vol seat.first.volume → IfSome found (λ s. IfSome (slice_get firsts at) (λ f. (f.seen ≡ Some s) ⊎ IsAheadOf tells files counts f seen.story.entries seen.story.number s)) →
        IfSome result (λ s. ((found ≡ Some s) ⊎ (p.noted ≡ Some s)) × (p.point < s.point) × (s.point ≤ reached)) →
        IsPlaceOf tells files counts id seen seat (record p { own = own; noted = result }) × IsAsked tells files counts seen.story (record p { own = own; noted = result })
    asked own reached found None firsts at l n noted chosen = (placed_so own reached None (looked p.own own reached is.own l) tt, rose_itself)
    asked own reached found (Some s) firsts at l n noted chosen =
        let mine = looked p.own own reached is.own l in
        let ahead : IsAhead tells files counts p.vol seat.first.volume seen.story.entries seen.story.number s =
        ⊎_elim (λ e. found_ahead firsts at s n chosen.1 (at_some (λ x. IfSome (slice_get firsts at) (λ f. (f.seen ≡ Some x) ⊎ IsAheadOf tells files counts f seen.story.entries seen.story.number x)) found s e noted))
        (λ e. (at_some (IsKept tells files counts seen seat p.own p.vol) p.noted s e is.noted).ahead) chosen.0 in
        let beyond = chosen.1 in let here = ahead.point_is in let last = is.point_is in (
          placed_so own reached (Some s) mine (kept_now own reached s mine ahead chosen.2),
          rose_on tells files counts p.vol start seen.story.number seen.story.entries seat.first.volume p.last.value s.volume.value rises is.rose ahead.rose (omega (arith, beyond, here, last)),
        )

  -- each volume that was asked for has risen
  pub risen_by : (story : Story) (places : List (Place D)) → All (IsAsked tells files counts story) places → AreRisen tells files counts story.entries story.number (map placed_by places) (map noted_by places)
  risen_by story places all = each places (recursion_from_All (IsAsked tells files counts story) places all)
    where
      each : (l : List (Place D)) → AllByRecursion (IsAsked tells files counts story) l → AreRisen tells files counts story.entries story.number (map placed_by l) (map noted_by l)
      each [] all = tt
      each (p ∷ ps) all = ((refl, all.0), each ps all.1)

  -- the place, once what was asked for is accepted
  accepted_place : (id : LockId) (seen : Seeing) (seat : Lock (VolumeSeat D)) (p : Place D) (o : Option (SeenVolume D)) → p.noted ≡ o → IsPlaceOf tells files counts id seen seat p → IsPlaceOf tells files counts id seen seat (accept_in p o)
  accepted_place id seen seat p None e is = is
  accepted_place id seen seat p (Some s) e is =
      let kept = at_some (IsKept tells files counts seen seat p.own p.vol) p.noted s e is.noted in
      record { own = own_for p.own is.own kept.so_far; all_seats = is.all_seats; vol = is.vol; board_is = is.board_is; rose = kept.ahead.rose; point_is = kept.ahead.point_is; noted = tt }
    where
      own_for : (o : Option Seeing) → MatchOption o ⊥ (IsOwn seat (restart_of p.last.value)) → MatchOption o ⊥ (λ q. s.point ≤ q.story.number) → MatchOption o ⊥ (IsOwn seat (restart_of s.volume.value))
      own_for None mine far = far
      own_for (Some q) mine far =
          let kept = at_some (IsKept tells files counts seen seat p.own p.vol) p.noted s e is.noted in
          let point = kept.ahead.point_is in
          record { lock = mine.lock; reader = mine.reader; seats = mine.seats; so_far = omega (arith, far, point) }

  pub accepted_places : (id : LockId) (seen : Seeing) (seats : List (Lock (VolumeSeat D))) (places : List (Place D)) → AllZip (IsPlaceOf tells files counts id seen) seats places → AllZip (IsPlaceOf tells files counts id seen) seats (map accepted places)
  accepted_places id seen [] [] all = all
  accepted_places id seen [] (p ∷ ps) all = absurd all
  accepted_places id seen (s ∷ ss) [] all = all
  accepted_places id seen (s ∷ ss) (p ∷ ps) all = (accepted_place id seen s p p.noted refl all.0, accepted_places id seen ss ps all.1)

-- the pass with other places of its seats
pub with_places : {D : Type 0} (tells : Type 0) (files : D → Disk) (counts : D → Counts) (board : Lock (Published (VolumeNote D))) (seats : List (Lock (VolumeSeat D))) (pass : Option Seeing) (seen : Seeing) (places new : List (Place D)) →
    IsWatching tells files counts board seats pass seen places → AllZip (IsPlaceOf tells files counts board.id seen) seats new → IsWatching tells files counts board seats pass seen new
with_places tells files counts board seats pass seen places new w are = record {
  here = w.here;
  lock = w.lock;
  writes = w.writes;
  lasts = w.lasts;
  some = w.some;
  empty = w.empty;
  rises = w.rises;
  places_are = are;
  firsts = w.firsts;
}

-- what is shown once all was asked
pub view_asked : {D : Type 0} (board : Lock (Published (VolumeNote D))) (seats : List (Lock (VolumeSeat D))) (away : Option Seeing) (seen now pass : Seeing) (places new : List (Place D)) (s : Shown D) → shown_by board seats away seen places ≡ s → s.lent ≡ false →
    now.seats ≡ seen.seats → now.story.entries ≡ seen.story.entries → now.story.number ≡ seen.story.number → map placed_by new ≡ map placed_by places → shown_by board seats (Some pass) now new ≡ record s { noted = map noted_by new }
view_asked {D = D} board seats away seen now pass places new s view free many entries number same =
    let here : false ≡ is_away away = sym (ap (λ (x : Shown D). x.lent) view ∙ free) in
    (λ i. record { key = record { board = board; seats = seats; own = many i }; start = board.first.start; entries = entries i; end = number i; volumes = same i; lent = here i; noted = map noted_by new })
    ∙ ap (λ (x : Shown D). record x { noted = map noted_by new }) view

placed_accepted : {D : Type 0} (p : Place D) (o : Option (SeenVolume D)) → placed_by (accept_in p o) ≡ record { vol = p.vol; volume = noted_in o p.last.value }
placed_accepted p None = refl
placed_accepted p (Some s) = refl

noted_accepted : {D : Type 0} (p : Place D) (o : Option (SeenVolume D)) → p.noted ≡ o → noted_by (accept_in p o) ≡ record { vol = p.vol; volume = noted_in o p.last.value }
noted_accepted {D = D} p None e = ap (λ (o : Option (SeenVolume D)). record { vol = p.vol; volume = noted_in o p.last.value }) e
noted_accepted p (Some s) e = refl

all_placed : {D : Type 0} (places : List (Place D)) → map placed_by (map accepted places) ≡ map noted_by places
all_placed [] = refl
all_placed (p ∷ ps) = λ i. placed_accepted p p.noted i ∷ all_placed ps i

all_noted : {D : Type 0} (places : List (Place D)) → map noted_by (map accepted places) ≡ map noted_by places
all_noted [] = refl
all_noted (p ∷ ps) = λ i. noted_accepted p p.noted refl i ∷ all_noted ps i

-- what is shown once that is accepted
pub view_accepted : {D : Type 0} (board : Lock (Published (VolumeNote D))) (seats : List (Lock (VolumeSeat D))) (away : Option Seeing) (seen : Seeing) (places new : List (Place D)) (s : Shown D) → shown_by board seats away seen places ≡ s → new ≡ map accepted places →
    shown_by board seats away seen new ≡ record s { volumes = s.noted }
view_accepted {D = D} board seats away seen places new s view e =
    ap (shown_by board seats away seen) e
    ∙ (λ i. record (shown_by board seats away seen places) { volumes = all_placed places i; noted = all_noted places i })
    ∙ ap (λ (x : Shown D). record x { volumes = x.noted }) view

-- ---- a list whose first elements were changed

abbrev pub done : {A : Type 0} → (A → A) → ℕ → List A → List A
done f zero xs = xs
done f (suc i) [] = []
done f (suc i) (x ∷ xs) = f x ∷ done f i xs

pub done_next : {A : Type 0} (f : A → A) (i : ℕ) (xs : List A) (y r : A) → i < length xs → r ≡ get_or (done f i xs) i r → y ≡ f r → set (done f i xs) i y ≡ done f (suc i) xs
done_next f zero [] y r within is e = absurd (omega (arith, within))
done_next f zero (x ∷ xs) y r within is e = ap (λ z. z ∷ xs) (e ∙ ap f is)
done_next f (suc i) [] y r within is e = absurd (omega (arith, within))
done_next f (suc i) (x ∷ xs) y r within is e = ap (λ l. f x ∷ l) (done_next f i xs y r (omega (arith, within)) is e)

pub done_all : {A : Type 0} (f : A → A) (n : ℕ) (xs : List A) → n ≡ length xs → done f n xs ≡ map f xs
done_all f zero [] e = refl
done_all f zero (x ∷ xs) e = absurd (omega (arith, e))
done_all f (suc n) [] e = absurd (omega (arith, e))
done_all f (suc n) (x ∷ xs) e = ap (λ l. f x ∷ l) (done_all f n xs (omega (arith, e)))
