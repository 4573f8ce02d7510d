-- What a look at the board tells, and what turns add up to.
use Rattle.std.proofs.Common.{◌≡◌, ℕ, ◌≤◌, true, List, [], ◌++◌, Result, Ok, Err, IfOk, refl, sym, ap, ◌∙◌, subst, arith}
use Rattle.rdf_types.specs.declared.records.Stamped.{Stamped}
use Rattle.seated_lock.specs.declared.story.Story.{Story}
use Rattle.seated_lock.specs.Stories.{Begins}
use Rattle.seated_lock.specs.Rules.{StandsFor}
use Rattle.rdf_types.specs.EntryLaws.{rises_le, rises_from, rises_append}
use Rattle.seated_lock.specs.StoryLaws.{begins_on}
use Rattle.image_board.specs.Boards.{Published}
use Rattle.image_board.specs.declared.pieces.Piece.{Piece}
use Rattle.image_board.specs.Boards.{Shows, IsPiece}
use Rattle.rdf_types.specs.Entries.{Rises}
use Rattle.image_board.specs.Entries.{images_between}
use Rattle.std.proofs.Common.{false, Option, Some, None, IfSome, slice_get, inr, ⊎_elim}
use Rattle.std.proofs.lemmas.List.{append-nil, append_assoc}
use Rattle.rdf_gatelog.specs.declared.fault.LogFault.{LogFault}
use Rattle.seated_lock.specs.Passes.{Seeing}
use Rattle.image_board.specs.ImageLaws.{images_stay, images_split, no_images}
use Rattle.updaters.specs.Turns.{IsFound, IsLater, HasApplied, Added}
use Rattle.seated_lock.specs.Stories.{with_more}
use Rattle.rdf_disk.specs.Files.{Disk}
use Rattle.rdf_disk.specs.Counts.{Counts}
use Rattle.rdf_volume.specs.Views.{restart_of}
use Rattle.rdf_volume.specs.declared.volume.Volume.{Volume}
use Rattle.updaters.specs.declared.note.SeenVolume.{SeenVolume}
use Rattle.updaters.specs.declared.note.VolumeNote.{VolumeNote}
use Rattle.updaters.specs.Rising.{Rose, IsAhead, IsAheadOf, Fits, MayFollow, IsNotedAt, IsSeen}
use Rattle.updaters.specs.RiseLaws.{ahead_of_later}

pub items_are : {N : Type 0} (first b : Published N) (story : Story) → StandsFor Shows (λ x. x.end) first story b → first.items ≡ [] → b.items ≡ story.entries
items_are first b story stood empty = stood.0.items ∙ ap (λ (l : List Stamped). l ++ story.entries) empty

pub rises_of : {N : Type 0} (first b : Published N) (story : Story) → StandsFor Shows (λ x. x.end) first story b → first.items ≡ [] → Rises first.start story.entries story.number
rises_of first b story stood empty =
    subst (λ (k : ℕ). Rises first.start story.entries k) stood.1
    (subst (λ (l : List Stamped). Rises first.start l b.end) (items_are first b story stood empty) (subst (λ (k : ℕ). Rises k b.items b.end) stood.0.start stood.0.rises))

-- what was seen later rises too
pub rises_later : (low : ℕ) (b c : Story) → Rises low b.entries b.number → Begins b c → Rises low c.entries c.number
rises_later low b c rise more =
    subst (λ (l : List Stamped). Rises low l c.number) (sym more.entries) (rises_append low b.entries b.number more.later c.number rise more.rises)

pub found_of : {N E : Type 0} (vol from : ℕ) (first b : Published N) (story : Story) (r : Result Piece E) → StandsFor Shows (λ x. x.end) first story b → first.items ≡ [] →
    IfOk r (IsPiece vol from 16 b) → IfOk r (IsFound vol from story)
found_of vol from first b story (Err e) stood empty h = tt
found_of vol from first b story (Ok piece) stood empty h = record {
  images = h.images ∙ ap (images_between vol from piece.upto) (items_are first b story stood empty);
  few = h.few;
  behind = h.behind;
  within = omega (arith, h.within, stood.1);
  ended = λ e. let over = h.ended e in (sym stood.0.ended ∙ over.0, over.1 ∙ stood.1);
}

-- a note was left on it
pub noted_shows : {N : Type 0} (first b left : Published N) (story : Story) → StandsFor Shows (λ x. x.end) first story b → left ≡ record b { notes = left.notes } → StandsFor Shows (λ x. x.end) first story left
noted_shows {N = N} first b left story stood same =
    subst (λ (x : Published N). StandsFor Shows (λ y. y.end) first story x) (sym same)
    (record { start = stood.0.start; items = stood.0.items; ended = stood.0.ended; rises = stood.0.rises; firsts = stood.0.firsts }, stood.1)

module _ {D : Type 0} (tells : Type 0) (files : D → Disk) (counts : D → Counts) where
  -- what was seen of the volume may be noted at its place
  pub may_follow : (firsts : List (VolumeNote D)) (place vol : ℕ) (volume : Volume D) (entries : List Stamped) (end : ℕ) (o : Option (SeenVolume D)) → IsNotedAt firsts place vol volume →
      IfSome o (IsAhead tells files counts vol volume entries end) → IfSome o (MayFollow tells files counts firsts place vol entries end)
  may_follow firsts place vol volume entries end None at is = tt
  may_follow firsts place vol volume entries end (Some s) at is =
      subst (λ o. IfSome o (λ f. (vol ≡ f.vol) × IsAheadOf tells files counts f entries end s)) (sym at.there) (
        sym at.is.vol_is,
        subst (λ o. IfSome o (λ f. IsAhead tells files counts at.note.vol f.volume.value entries end s)) (sym at.is.there)
            (subst (λ (v : ℕ). IsAhead tells files counts v at.is.seen.volume.value entries end s) (sym at.is.vol_is)
            (subst (λ (x : Volume D). IsAhead tells files counts vol x entries end s) (sym at.is.is.volume_is) is)),
      )

  follows : (vol : ℕ) (was story : Story) (s : SeenVolume D) (o : Option (VolumeNote D)) → Begins was story →
      IfSome o (λ f. (vol ≡ f.vol) × IsAheadOf tells files counts f was.entries was.number s) → IfSome o (λ f. (vol ≡ f.vol) × IsAheadOf tells files counts f story.entries story.number s)
  follows vol was story s None begins is = tt
  follows vol was story s (Some f) begins is = (is.0, ahead_of_later tells files counts f.vol f.seen was story s begins is.1)

  -- and so it may still where more stands on the board
  pub may_leave : (first b : Published (VolumeNote D)) (was story : Story) (vol place : ℕ) (o : Option (SeenVolume D)) → StandsFor Shows (λ x. x.end) first story b → first.items ≡ [] → Begins was story →
      IfSome o (MayFollow tells files counts first.firsts place vol was.entries was.number) → IfSome o (MayFollow tells files counts b.firsts place vol b.items b.end)
  may_leave first b was story vol place None stood empty begins is = tt
  may_leave first b was story vol place (Some s) stood empty begins is =
      subst (λ (l : List (VolumeNote D)). MayFollow tells files counts l place vol b.items b.end s) (sym stood.0.firsts)
      (subst (λ (l : List Stamped). MayFollow tells files counts first.firsts place vol l b.end s) (sym (items_are first b story stood empty))
      (subst (λ (k : ℕ). MayFollow tells files counts first.firsts place vol story.entries k s) (sym stood.1) (follows vol was story s (slice_get first.firsts place) begins is)))

  -- a note of it then fits
  pub fits_left : (vol : ℕ) (entries : List Stamped) (end : ℕ) (s : SeenVolume D) (o : Option (VolumeNote D)) → IfSome o (λ f. (vol ≡ f.vol) × IsAheadOf tells files counts f entries end s) →
      IfSome o (λ f. Fits tells files counts f entries end (record { vol = vol; seen = Some s }))
  fits_left vol entries end s None is = tt
  fits_left vol entries end s (Some f) is = inr is

  -- a volume that was seen where no fault was met
  pub seen_ahead : (vol : ℕ) (first volume : Volume D) (entries : List Stamped) (end : ℕ) (fault : Option LogFault) (o : Option (SeenVolume D)) → IfSome o (λ s. (fault ≡ None) × IsSeen volume s) →
      (fault ≡ None → Rose tells files counts vol entries end first volume) → IfSome o (IsAhead tells files counts vol first entries end)
  seen_ahead vol first volume entries end fault None made rose = tt
  seen_ahead vol first volume entries end fault (Some s) made rose = record {
    point_is = made.1.point_is ∙ ap (λ v. restart_of v) (sym made.1.volume_is);
    rose = subst (λ (v : Volume D). Rose tells files counts vol entries end first v) (sym made.1.volume_is) (rose made.0);
  }

pub later_on : (a b c : Seeing) → IsLater a b → IsLater b c → IsLater a c
later_on a b c x y = record { lock = y.lock ∙ x.lock; seats = y.seats ∙ x.seats; writes = y.writes ∙ x.writes; seen = begins_on a.story b.story c.story x.seen y.seen }

-- nothing was applied yet
pub applied_none : (v : ℕ) (board : Story) (p : Seeing) → p.writes ≡ true → p.story.ended ≡ false → p.story.number ≤ board.number → HasApplied v board p p
applied_none v board p writes lasts le = record {
  lock = refl;
  seats = refl;
  writer = writes;
  lasts = lasts;
  behind = omega arith;
  within = le;
  entries = sym (ap (λ (l : List Stamped). p.story.entries ++ l) (no_images v p.story.number board.entries) ∙ append-nil p.story.entries);
}

-- and when more of the board is seen
pub applied_later : (v : ℕ) (b c : Story) (p q : Seeing) → HasApplied v b p q → Begins b c → HasApplied v c p q
applied_later v b c p q h more = record {
  lock = h.lock;
  seats = h.seats;
  writer = h.writer;
  lasts = h.lasts;
  behind = h.behind;
  within = omega (arith, h.within, rises_le b.number more.later c.number more.rises);
  entries = h.entries ∙ ap (λ (l : List Stamped). p.story.entries ++ l) (sym (images_stay v p.story.number q.story.number b c more h.within));
}

-- a stretch more
pub applied_on : (v low : ℕ) (b c : Story) (p q r : Seeing) → HasApplied v b p q → Begins b c → Rises low c.entries c.number → HasApplied v c q r → HasApplied v c p r
applied_on v low b c p q r h more rise k =
    let so_far = applied_later v b c p q h more in
    record {
      lock = k.lock ∙ h.lock;
      seats = k.seats ∙ h.seats;
      writer = k.writer;
      lasts = k.lasts;
      behind = omega (arith, h.behind, k.behind);
      within = k.within;
      entries =
          k.entries ∙ ap (λ (l : List Stamped). l ++ images_between v q.story.number r.story.number c.entries) so_far.entries
          ∙ append_assoc p.story.entries (images_between v p.story.number q.story.number c.entries) (images_between v q.story.number r.story.number c.entries)
          ∙ ap (λ (l : List Stamped). p.story.entries ++ l) (sym (images_split v p.story.number q.story.number r.story.number low c.entries h.behind k.behind (rises_from low c.entries c.number rise)));
    }

-- a turn
pub applied_once : (v upto : ℕ) (b : Story) (p r : Seeing) (images : List Stamped) (fault : Option LogFault) → p.story.number ≤ upto → upto ≤ b.number → images ≡ images_between v p.story.number upto b.entries →
    (r.lock ≡ p.lock) × (r.seats ≡ p.seats) × (r.writes ≡ true) × (r.story.ended ≡ false) → Added fault p.story images upto r.story → HasApplied v b p r
applied_once v upto b p r images fault lo hi are same added = by_fault fault added
  where
    none : r.story ≡ p.story → HasApplied v b p r
    none kept =
        let number : r.story.number ≡ p.story.number = ap (λ (s : Story). s.number) kept in
        record {
          lock = same.0;
          seats = same.1;
          writer = same.2;
          lasts = same.3;
          behind = omega (arith, number);
          within = omega (arith, number, lo, hi);
          entries =
              ap (λ (s : Story). s.entries) kept ∙ sym (append-nil p.story.entries) ∙ ap (λ (l : List Stamped). p.story.entries ++ l) (sym (no_images v p.story.number b.entries))
              ∙ ap (λ (k : ℕ). p.story.entries ++ images_between v p.story.number k b.entries) (sym number);
        }

    some : r.story ≡ with_more p.story images upto → HasApplied v b p r
    some grown =
        let number : r.story.number ≡ upto = ap (λ (s : Story). s.number) grown in
        record {
          lock = same.0;
          seats = same.1;
          writer = same.2;
          lasts = same.3;
          behind = omega (arith, number, lo);
          within = omega (arith, number, hi);
          entries = ap (λ (s : Story). s.entries) grown ∙ ap (λ (l : List Stamped). p.story.entries ++ l) are ∙ ap (λ (k : ℕ). p.story.entries ++ images_between v p.story.number k b.entries) (sym number);
        }

    by_fault : (f : Option LogFault) → Added f p.story images upto r.story → HasApplied v b p r
    by_fault None a = some a
    by_fault (Some why) a = ⊎_elim none some a

pub found_in : {E : Type 0} (P : Piece → Type 0) (r : Result Piece E) (piece : Piece) → IfOk r P → r ≡ Ok piece → P piece
found_in P r piece h same = subst (λ x. IfOk x P) same h
