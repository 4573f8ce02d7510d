-- Small values of the definitions, and a small run in which no disk stops.
use Rattle.std.proofs.Common.{◌≡◌, true, false, [], ◌∷◌, refl}
use Rattle.rdf_types.specs.declared.layout.Layout.{Layout}
use Rattle.rdf_types.specs.declared.records.Node.TheVariants.{A, B, C}
use Rattle.plan_lang.specs.declared.lines.Line.TheVariants as line
use Rattle.rdf_core.specs.declared.replies.NoWhy.TheVariants as no
use Rattle.rdf_core.specs.declared.replies.Reply.TheVariants.{Done, Number, No}
use Rattle.rdf_core.specs.Primary.{primary_after}
use Rattle.rdf_core.specs.Backup.{with_volumes, Taken}
use Rattle.rdf_core.specs.State.{State, blank, blank_primary, blank_backup, with_primary, with_backup}
use Rattle.quiet_runs.specs.Quiet.{QuietRun}
use Rattle.rdf_core.specs.Losses.{has_lost}
use Rattle.quiet_runs.specs.Told.{is_up_behind, has_taken_over}

cut_and_restarted : is_up_behind B (line.Cut B ∷ line.Restart B ∷ line.Cut C ∷ line.Cut A ∷ []) (Done ∷ Number 0 ∷ Done ∷ Done ∷ []) ≡ true
cut_and_restarted = refl

cut_off : is_up_behind C (line.Cut C ∷ line.Restart B ∷ []) (Done ∷ No no.Up ∷ []) ≡ false
cut_off = refl

lost_once : has_lost (line.Takeover B ∷ line.Lose ∷ []) (No no.PrimaryUp ∷ Done ∷ []) ≡ true
lost_once = refl

taken_by_one : has_taken_over C (line.Lose ∷ line.Takeover B ∷ []) (Done ∷ Number 0 ∷ []) ≡ false
taken_by_one = refl

-- the state behind a `lose`
abbrev lost : Layout → State
lost layout = with_primary (blank layout) (primary_after blank_primary line.Lose)

-- a takeover is refused, and done behind the `lose`
takes_over : (layout : Layout) →
    QuietRun layout (line.Takeover B ∷ line.Lose ∷ line.Takeover B ∷ []) (No no.PrimaryUp ∷ Done ∷ Number 0 ∷ []) (with_backup (lost layout) B (with_volumes (blank_backup layout) (Taken 0)))
takes_over layout = (
  blank layout,
  blank layout,
  ([], refl),
  record { may = refl; points = []; goes = tt; done = (refl, refl) },
  (
    blank layout,
    lost layout,
    ([], refl),
    record { may = refl; points = []; goes = tt; done = (refl, refl) },
    (lost layout, with_backup (lost layout) B (with_volumes (blank_backup layout) (Taken 0)), ([], refl), record { may = refl; points = []; goes = tt; done = (refl, refl) }, ([], refl)),
  ),
)
