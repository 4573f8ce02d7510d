-- Laws of volumes that have come from what they were.
use Rattle.std.proofs.Common.{◌≡◌, ℕ, true, false, List, ◌++◌, Option, Some, None, IfSome, inl, inr, refl, sym, ap, ◌∙◌, arith}
use Rattle.rdf_types.specs.declared.records.Stamped.{Stamped}
use Rattle.rdf_types.specs.Entries.{Rises}
use Rattle.rdf_types.specs.EntryLaws.{rises_le}
use Rattle.rdf_disk.specs.Files.{Disk}
use Rattle.rdf_disk.specs.Counts.{Counts}
use Rattle.rdf_volume.specs.Views.{rows_of, restart_of}
use Rattle.rdf_volume.specs.declared.volume.Volume.{Volume}
use Rattle.seated_lock.specs.declared.story.Story.{Story}
use Rattle.seated_lock.specs.Stories.{Begins}
use Rattle.image_board.specs.ImageLaws.{images_stay}
use Rattle.updaters.specs.Seats.{with_images}
use Rattle.updaters.specs.Rising.{Rose, IsAhead, IsAheadOf, Fits}
use Rattle.updaters.specs.declared.note.SeenVolume.{SeenVolume}
use Rattle.updaters.specs.declared.note.VolumeNote.{VolumeNote}

-- what had risen by entries has risen by more of them
pub rose_later : {D : Type 0} (tells : Type 0) (files : D → Disk) (counts : D → Counts) (vol : ℕ) (seen story : Story) (old new : Volume D) → Begins seen story →
    Rose tells files counts vol seen.entries seen.number old new → Rose tells files counts vol story.entries story.number old new
rose_later tells files counts vol seen story old new begins rose =
    let le = rises_le seen.number begins.later story.number begins.rises in
    record {
      behind = rose.behind;
      within = omega (arith, rose.within, le);
      rows = rose.rows ∙ ap (with_images (rows_of old)) (sym (images_stay vol (restart_of old) (restart_of new) seen story begins rose.within));
      in_use = rose.in_use;
      counts_are = rose.counts_are;
    }

pub fits_itself : {D : Type 0} (tells : Type 0) (files : D → Disk) (counts : D → Counts) (first : VolumeNote D) (entries : List Stamped) (end : ℕ) → Fits tells files counts first entries end first
fits_itself tells files counts first entries end = inl refl

-- and so has what was seen
pub ahead_later : {D : Type 0} (tells : Type 0) (files : D → Disk) (counts : D → Counts) (vol : ℕ) (first : Volume D) (was story : Story) (seen : SeenVolume D) → Begins was story →
    IsAhead tells files counts vol first was.entries was.number seen → IsAhead tells files counts vol first story.entries story.number seen
ahead_later tells files counts vol first was story seen begins is = record { point_is = is.point_is; rose = rose_later tells files counts vol was story first seen.volume.value begins is.rose }

pub ahead_of_later : {D : Type 0} (tells : Type 0) (files : D → Disk) (counts : D → Counts) (vol : ℕ) (o : Option (SeenVolume D)) (was story : Story) (seen : SeenVolume D) → Begins was story →
    IfSome o (λ f. IsAhead tells files counts vol f.volume.value was.entries was.number seen) → IfSome o (λ f. IsAhead tells files counts vol f.volume.value story.entries story.number seen)
ahead_of_later tells files counts vol None was story seen begins is = tt
ahead_of_later tells files counts vol (Some f) was story seen begins is = ahead_later tells files counts vol f.volume.value was story seen begins is

note_later : {D : Type 0} (tells : Type 0) (files : D → Disk) (counts : D → Counts) (first : VolumeNote D) (o : Option (SeenVolume D)) (was story : Story) → Begins was story →
    IfSome o (IsAheadOf tells files counts first was.entries was.number) → IfSome o (IsAheadOf tells files counts first story.entries story.number)
note_later tells files counts first None was story begins is = tt
note_later tells files counts first (Some s) was story begins is = ahead_of_later tells files counts first.vol first.seen was story s begins is

never : false ≡ true → ⊥
never e = cc

pub fits_later : {D : Type 0} (tells : Type 0) (files : D → Disk) (counts : D → Counts) (first now : VolumeNote D) (entries more : List Stamped) (end upto : ℕ) → Fits tells files counts first entries end now → Rises end more upto →
    Fits tells files counts first (entries ++ more) upto now
fits_later tells files counts first now entries more end upto (inl same) rises = inl same
fits_later tells files counts first now entries more end upto (inr is) rises =
    let was : Story = record { entries = entries; number = end; ended = false } in
    let story : Story = record { entries = entries ++ more; number = upto; ended = false } in
    let begins : Begins was story = record { later = more; entries = refl; rises = rises; ended = λ e. absurd (never e) } in
    inr (is.0, note_later tells files counts first now.seen was story begins is.1)
