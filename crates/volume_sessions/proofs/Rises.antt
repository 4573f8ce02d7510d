-- How far a volume has come, seen from the one moment and from the other.
use Rattle.std.proofs.Common.{◌≡◌, ℕ, ◌≤◌, List, sym, ap, ◌∙◌, arith}
use Rattle.rdf_types.specs.declared.records.Stamped.{Stamped}
use Rattle.rdf_types.specs.Entries.{Rises}
use Rattle.rdf_types.specs.EntryLaws.{rises_from}
use Rattle.rdf_disk.specs.Files.{Disk}
use Rattle.rdf_disk.specs.Counts.{Counts}
use Rattle.rdf_model.specs.Volumes.{Rows}
use Rattle.rdf_volume.specs.Views.{rows_of, restart_of}
use Rattle.rdf_volume.specs.declared.volume.Volume.{Volume}
use Rattle.seated_lock.specs.declared.story.Story.{Story}
use Rattle.image_board.specs.Entries.{images_between}
use Rattle.image_board.specs.ImageLaws.{images_split}
use Rattle.updaters.specs.declared.seat.VolumeSeat.{VolumeSeat}
use Rattle.updaters.specs.Seats.{with_images}
use Rattle.updaters.specs.SeatLaws.{more_images}
use Rattle.updaters.specs.Turns.{HasSeen, IsShown}
use Rattle.volume_sessions.specs.Rising.{Rose}

-- the images of a stretch are those of its parts, one applied behind the other
pub rows_on : (vol p n q start number : ℕ) (entries : List Stamped) (rows : Rows) → Rises start entries number → p ≤ n → n ≤ q →
    with_images rows (images_between vol p q entries) ≡ with_images (with_images rows (images_between vol p n entries)) (images_between vol n q entries)
rows_on vol p n q start number entries rows rises pn nq =
    ap (with_images rows) (images_split vol p n q start entries pn nq (rises_from start entries number rises)) ∙ sym (more_images rows (images_between vol p n entries) (images_between vol n q entries))

-- from where it was first seen, and so from where it was seen later
pub rose_on : {D : Type 0} (tells : Type 0) (files : D → Disk) (counts : D → Counts) (vol start number : ℕ) (entries : List Stamped) (first last now : Volume D) → Rises start entries number →
    Rose tells files counts vol entries number first last → Rose tells files counts vol entries number first now → restart_of last ≤ restart_of now → Rose tells files counts vol entries number last now
rose_on tells files counts vol start number entries first last now rises before after le = record {
  behind = le;
  within = after.within;
  rows = after.rows ∙ rows_on vol (restart_of first) (restart_of last) (restart_of now) start number entries (rows_of first) rises before.behind le ∙ ap (λ (r : Rows). with_images r (images_between vol (restart_of last) (restart_of now) entries)) (sym before.rows);
  in_use = after.in_use;
  counts_are = after.counts_are ∙ sym before.counts_are;
}

-- a volume that is well, by what its story says
pub rose_first : {D : Type 0} (tells : Type 0) (files : D → Disk) (counts : D → Counts) (vol : ℕ) (first : VolumeSeat D) (board story : Story) (now : Volume D) → first.vol ≡ vol → HasSeen first board story → IsShown tells files counts first story now →
    Rose tells files counts vol board.entries board.number first.volume now
rose_first tells files counts vol first board story now number seen shown = record {
  behind = omega (arith, seen.behind, shown.1);
  within = omega (arith, seen.within, shown.1);
  rows = shown.0.rows ∙ ap (with_images (rows_of first.volume)) (seen.entries ∙ ap (λ (v : ℕ). images_between v (restart_of first.volume) story.number board.entries) number ∙ ap (λ (n : ℕ). images_between vol (restart_of first.volume) n board.entries) (sym shown.1));
  in_use = shown.0.in_use;
  counts_are = shown.0.counts_are;
}
