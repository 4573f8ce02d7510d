-- What came of a volume, by the value of its lock and the ends of the passes.
use Rattle.std.proofs.Common.{◌≡◌, ℕ, ◌≤◌, ⊎_elim, List, ◌++◌, Option, Some, None, refl, sym, ap, ◌∙◌, subst, arith}
use Rattle.rdf_types.specs.declared.records.Stamped.{Stamped}
use Rattle.rdf_types.specs.Entries.{Rises}
use Rattle.rdf_types.specs.EntryLaws.{rises_le, rises_from}
use Rattle.rdf_disk.specs.Files.{Disk, Contents}
use Rattle.rdf_disk.specs.Counts.{Counts, Causes}
use Rattle.rdf_disk.specs.Outcomes.{Durably}
use Rattle.rdf_gatelog.specs.declared.fault.LogFault.{LogFault}
use Rattle.rdf_gatelog.specs.declared.fault.LogFault.TheVariants.{Damaged, NoMemory}
use Rattle.rdf_gatelog.specs.LogCauses.{ending_of_fault}
use Rattle.rdf_model.specs.Volumes.{Rows}
use Rattle.rdf_volume.specs.Standing.{StandsFor}
use Rattle.rdf_volume.specs.Views.{rows_of, restart_of, disk_of, InUse}
use Rattle.rdf_volume.specs.declared.volume.Volume.{Volume}
use Rattle.seated_lock.specs.declared.story.Story.{Story}
use Rattle.seated_lock.specs.Stories.{Begins}
use Rattle.seated_lock.specs.Rules.{StandsFor as Stands}
use Rattle.image_board.specs.Entries.{images_between}
use Rattle.image_board.specs.ImageLaws.{images_stay, images_split}
use Rattle.updaters.specs.declared.seat.VolumeSeat.{VolumeSeat}
use Rattle.updaters.specs.declared.updating.UpdaterEnd.{UpdaterEnd}
use Rattle.updaters.specs.declared.updating.UpdaterEnd.TheVariants as updater
use Rattle.updaters.specs.Seats.{Sits, IsWell, HasFailed, IsSeated, with_images}
use Rattle.updaters.specs.Turns.{IsDrained}
use Rattle.volume_sessions.specs.Rising.{Rose, StandsAlong}
use Rattle.volume_sessions.specs.Leaving.{HasBroken, HasCome, answer_of}
use Rattle.volume_sessions.proofs.Rises.{rows_on, rose_on}

memory_damaged : (file at : ℕ) → NoMemory ≡ Damaged file at → ⊥
memory_damaged file at e = cc

module _ {D : Type 0} (tells : Type 0) (files : D → Disk) (counts : D → Counts) (vol start : ℕ) (board : Story) (first : VolumeSeat D) (last : Volume D) (story : Story) (now : VolumeSeat D) where
  -- what is known of a seat that was closed: it stands for its story, what its pass has seen begins the board's story, its number is that of the volume, and so far the volume was seen before
  pub record IsClosed : Type 0 where
    pub sits : Stands (Sits tells files counts) (λ s. restart_of s.volume) first story now
    pub begins : Begins now.board.story board
    pub rises : Rises start board.entries board.number
    pub vol_is : first.vol ≡ vol
    pub rose : Rose tells files counts vol board.entries board.number first.volume last
    pub so_far : restart_of last ≤ restart_of now.volume

  module _ (c : IsClosed) where
    within : restart_of now.volume ≤ board.number
    within = let le = rises_le now.board.story.number c.begins.later board.number c.begins.rises in omega (arith, c.sits.0.seen, le)

    -- the images in what the seat's pass has seen are those of the whole board
    told : story.entries ≡ images_between vol (restart_of first.volume) (restart_of now.volume) board.entries
    told =
        c.sits.0.entries ∙ ap (λ (v : ℕ). images_between v (restart_of first.volume) (restart_of now.volume) now.board.story.entries) c.vol_is
        ∙ sym (images_stay vol (restart_of first.volume) (restart_of now.volume) now.board.story board c.begins c.sits.0.seen)

    -- the rows up to a position, by how they stood when the volume was last seen
    along : (at : ℕ) → restart_of last ≤ at → with_images (rows_of first.volume) (images_between vol (restart_of first.volume) at board.entries) ≡ with_images (rows_of last) (images_between vol (restart_of last) at board.entries)
    along at le =
        rows_on vol (restart_of first.volume) (restart_of last) at start board.number board.entries (rows_of first.volume) c.rises c.rose.behind le
        ∙ ap (λ (r : Rows). with_images r (images_between vol (restart_of last) at board.entries)) (sym c.rose.rows)

    well : IsWell tells files counts first.volume story.entries now.volume → Rose tells files counts vol board.entries board.number last now.volume
    well is = rose_on tells files counts vol start board.number board.entries first.volume last now.volume c.rises c.rose record {
      behind = c.sits.0.behind;
      within = within;
      rows = is.rows ∙ ap (with_images (rows_of first.volume)) told;
      in_use = is.in_use;
      counts_are = is.counts_are;
    } c.so_far

    standing : (at : ℕ) (rows : Rows) (x : Contents) → restart_of last ≤ at → at ≤ board.number → rows ≡ with_images (rows_of last) (images_between vol (restart_of last) at board.entries) → StandsFor rows at x → StandsAlong vol board.entries board.number last x
    standing at rows x behind le is stands = record { at = at; behind = behind; within = le; stands = subst (λ (r : Rows). StandsFor r at x) is stands }

    -- no fault was met on it, but its updater found no memory
    forgone : ((v : Volume D) → InUse files v → Durably (files (disk_of v)) (StandsFor (rows_of v) (restart_of v))) → IsWell tells files counts first.volume story.entries now.volume → HasBroken tells files counts vol board.entries board.number last NoMemory now.volume
    forgone law is =
        let rose = well is in
        record {
          stands = λ t x may. standing (restart_of now.volume) (rows_of now.volume) x rose.behind rose.within rose.rows (law now.volume (rose.in_use t) x may);
          cause = rose.counts_are;
          sound = λ t file at e. memory_damaged file at e;
        }

    kept : (why : LogFault) → HasFailed tells files counts first.vol now.board.story first.volume story.entries why now.volume → HasBroken tells files counts vol board.entries board.number last why now.volume
    kept why is =
        let up = rises_le now.board.story.number c.begins.later board.number c.begins.rises in
        let here : with_images (rows_of first.volume) story.entries ≡ with_images (rows_of last) (images_between vol (restart_of last) (restart_of now.volume) board.entries) =
        ap (with_images (rows_of first.volume)) told ∙ along (restart_of now.volume) c.so_far in
        let more : images_between first.vol (restart_of now.volume) is.upto now.board.story.entries ≡ images_between vol (restart_of now.volume) is.upto board.entries =
        ap (λ (v : ℕ). images_between v (restart_of now.volume) is.upto now.board.story.entries) c.vol_is
        ∙ sym (images_stay vol (restart_of now.volume) is.upto now.board.story board c.begins is.within) in
        let both : story.entries ++ images_between first.vol (restart_of now.volume) is.upto now.board.story.entries ≡ images_between vol (restart_of first.volume) is.upto board.entries =
        ap (λ (l : List Stamped). l ++ images_between first.vol (restart_of now.volume) is.upto now.board.story.entries) told
        ∙ ap (λ (l : List Stamped). images_between vol (restart_of first.volume) (restart_of now.volume) board.entries ++ l) more
        ∙ sym (images_split vol (restart_of first.volume) (restart_of now.volume) is.upto start board.entries c.sits.0.behind is.behind (rises_from start board.entries board.number c.rises)) in
        let there = ap (with_images (rows_of first.volume)) both ∙ along is.upto (omega (arith, c.so_far, is.behind)) in
        record {
          stands = λ t x may. ⊎_elim (λ s. standing (restart_of now.volume) _ x c.so_far within here s) (λ s. standing is.upto _ x (omega (arith, c.so_far, is.behind)) (omega (arith, is.within, up)) there s) (is.stands t x may);
          cause = subst (λ k. Causes (ending_of_fault why) k (counts (disk_of now.volume))) (sym c.rose.counts_are) is.cause;
          sound = is.sound;
        }

    -- what came of it, by its answer
    pub has_come : ((v : Volume D) → InUse files v → Durably (files (disk_of v)) (StandsFor (rows_of v) (restart_of v))) → (failed : Option LogFault) (end : UpdaterEnd) → now.failed ≡ failed → (end ≡ updater.Drained → restart_of now.volume ≡ board.number) →
        HasCome tells files counts vol board.entries board.number last (answer_of failed end) now.volume
    has_come law (Some why) end is drained = kept why (subst (λ f. IsSeated tells files counts first.vol now.board.story first.volume story.entries f now.volume) is c.sits.0.state)
    has_come law None updater.Drained is drained = (well (subst (λ f. IsSeated tells files counts first.vol now.board.story first.volume story.entries f now.volume) is c.sits.0.state), drained refl)
    has_come law None updater.Stopped is drained = forgone law (subst (λ f. IsSeated tells files counts first.vol now.board.story first.volume story.entries f now.volume) is c.sits.0.state)
    has_come law None updater.Failed is drained = forgone law (subst (λ f. IsSeated tells files counts first.vol now.board.story first.volume story.entries f now.volume) is c.sits.0.state)
    has_come law None updater.NoMemory is drained = forgone law (subst (λ f. IsSeated tells files counts first.vol now.board.story first.volume story.entries f now.volume) is c.sits.0.state)
    has_come law None (updater.Damaged file at) is drained = forgone law (subst (λ f. IsSeated tells files counts first.vol now.board.story first.volume story.entries f now.volume) is c.sits.0.state)

-- an updater that has drained the board has come to its end
pub at_end : (ended now board : Story) (number : ℕ) → IsDrained ended now → Begins ended board → number ≡ now.number → number ≡ board.number
at_end ended now board number drained begins is = is ∙ drained.1 ∙ ap (λ (s : Story). s.number) (sym (begins.ended drained.0))
