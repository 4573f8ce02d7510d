use Rattle.std.proofs.Common.{◌∙◌, ◌≤◌, List, Bor, Result, sym, ap, subst}
use Rattle.rdf_types.specs.declared.records.Stamped.{Stamped}
use Rattle.rdf_types.specs.Entries.{RiseFrom, since, before}
use Rattle.rdf_disk.specs.Outcomes.{Durably}
use Rattle.rdf_disk.specs.AnswerLaws.{on_err}
use Rattle.rdf_gatelog.specs.declared.fault.LogFault.{LogFault}
use Rattle.rdf_volume.specs.Views.{disk_of, restart_of, rows_of, batches_of, file_of}
use Rattle.rdf_volume.specs.Changes.{changed}
use Rattle.rdf_volume.specs.StandingLaws.{in_use_durably}
use Rattle.updaters.specs.Calls.{Redoes}
use Rattle.updaters.specs.BatchLaws.{taken_rises}
use Rattle.takeover_undo.specs.Undo.{lent}
use Rattle.takeover_undo.specs.Undone.{StandsUndone}
use Rattle.rdf_backup.specs.Taking.{entries_of}
use Rattle.rdf_backup.proofs.TakingLaws.{on_err_so, on_ok_both, undo_lent, left_redo, left_redone, left_undo, taken_now}
use Rattle.rdf_backup.proofs.DamageLaws.{none_too_far, passed_sound, names_later}
use Rattle.std.proofs.lemmas.Result.{err_from_is_err_and}
use Rattle.rdf_backup.proofs.taking.take_over_volume.Given.{Over}
use Rattle.rdf_backup.proofs.taking.take_over_volume.Goals.{After-redo_part}
use Rattle.rdf_backup.proofs.taking.take_over_volume.Goals as goal

-- the redo, by what is kept of the audit
by_audit : (g : Over) (c : After-redo_part g) {r : Result (Unit {0}) LogFault} → Redoes g.D.Disk.tells g.D.Disk.files g.D.Disk.counts c.args.vol (before c.args.audit.now.upto (since (restart_of c.args.volume.now) (lent c.as_slice.result.now)))
    (since (restart_of c.args.volume.now) (lent c.as_slice.result.now)) c.args.audit.now.upto c.args.volume.now r c.redo_part.new.volume →
    Redoes g.D.Disk.tells g.D.Disk.files g.D.Disk.counts c.args.vol (before c.args.audit.now.upto (since (restart_of c.args.volume.now) (entries_of c.args.audit.now)))
    (since (restart_of c.args.volume.now) (entries_of c.args.audit.now)) c.args.audit.now.upto c.args.volume.now r c.redo_part.new.volume
by_audit g c {r} = subst (λ (l : List (Bor Stamped)). Redoes g.D.Disk.tells g.D.Disk.files g.D.Disk.counts c.args.vol (before c.args.audit.now.upto (since (restart_of c.args.volume.now) (lent l)))
    (since (restart_of c.args.volume.now) (lent l)) c.args.audit.now.upto c.args.volume.now r c.redo_part.new.volume) c.as_slice.ensures.value

pub redo_part-requires-clause-rising : goal.redo_part-requires-clause-rising
redo_part-requires-clause-rising g c = subst (λ (l : List (Bor Stamped)). RiseFrom 0 (lent l)) (sym c.as_slice.ensures.value) c.requires.rising

pub returns-in_err-redo_part-clause-err : goal.returns-in_err-redo_part-clause-err
returns-in_err-redo_part-clause-err g c = λ tells.
    let old = c.args.volume.now in
    on_err c.from_residual.result _ (λ layout trail b is on h.
    left_redo layout trail b c.args.audit.now is c.args.vol on (rows_of old) (restart_of old) h c.applied_fits.ensures (g.D.Disk.files (disk_of c.redo_part.new.volume))
    ((by_audit g (goal.at.returns-in_err-redo_part-clause-err g c).After-redo_part c.in_err-redo_part.ensures).err tells))

pub returns-in_err-undo-clause-err : goal.returns-in_err-undo-clause-err
returns-in_err-undo-clause-err g c = λ tells.
    let old = c.args.volume.now in
    let mid = c.redo_part.new.volume in
    let did = by_audit g (goal.at.returns-in_err-undo-clause-err g c).After-redo_part c.in_ok-redo_part.ensures in
    on_err c.from_residual-in_err-undo.result _ (λ layout trail b is on h.
    left_redone layout trail b c.args.audit.now is c.args.vol on (rows_of old) (restart_of old) h c.applied_fits.ensures (rows_of mid) (restart_of mid) did.rows did.restart
    (g.D.Disk.files (disk_of mid)) (in_use_durably g.D.Disk.files mid (did.ok tells)))

pub returns-clause-taken : goal.returns-clause-taken
returns-clause-taken g c =
    let old = c.args.volume.now in
    let mid = c.redo_part.new.volume in
    let new = c.undo_volume.new.volume in
    let did = by_audit g (goal.at.returns-clause-taken g c).After-redo_part c.in_ok-redo_part.ensures in
    on_ok_both c.undo_volume.result _ _ _ c.undo_volume.ensures.rows c.undo_volume.ensures.restart (λ rows point layout trail b is on h.
    taken_now layout trail b c.args.audit.now is c.args.vol on (rows_of old) (restart_of old) h c.applied_fits.ensures (rows_of mid) (restart_of mid) did.rows did.restart
    c.undone_shows_committed.ensures c.in_ok-undo.undo.items (undo_lent c.args.audit.now c.args.vol c.as_slice-2.result.now c.as_slice-2.ensures.value c.in_ok-undo.undo.items c.in_ok-undo.ensures is.ended)
    (rows_of new) (restart_of new) (rows ∙ ap (λ l. changed (rows_of mid) l) c.deref.ensures.value) point)

pub returns-clause-err : goal.returns-clause-err
returns-clause-err g c = λ tells.
    let old = c.args.volume.now in
    let mid = c.redo_part.new.volume in
    let new = c.undo_volume.new.volume in
    let did = by_audit g (goal.at.returns-clause-err g c).After-redo_part c.in_ok-redo_part.ensures in
    on_err_so c.undo_volume.result _ _ (c.undo_volume.ensures.err tells) (λ left layout trail b is on h.
    left_undo layout trail b c.args.audit.now is c.args.vol on (rows_of old) (restart_of old) h c.applied_fits.ensures (rows_of mid) (restart_of mid) did.rows did.restart
    c.undo_keeps_fit.ensures c.in_ok-undo.undo.items (undo_lent c.args.audit.now c.args.vol c.as_slice-2.result.now c.as_slice-2.ensures.value c.in_ok-undo.undo.items c.in_ok-undo.ensures is.ended)
    (g.D.Disk.files (disk_of new)) (subst (λ l. Durably (g.D.Disk.files (disk_of new)) (StandsUndone (rows_of mid) (restart_of mid) l c.args.audit.now.low)) c.deref.ensures.value left))

pub returns-in_err-redo_part-clause-damaged : goal.returns-in_err-redo_part-clause-damaged
returns-in_err-redo_part-clause-damaged g c =
    let p = err_from_is_err_and c.from_residual.result c.from_residual.ensures.1 in
    passed_sound g.D.Disk.tells c.args.audit.now.upto c.args.volume.now c.from_residual.result p.0 _ p.1 p.2 c.in_err-redo_part.ensures.sound c.in_err-redo_part.ensures.names

pub returns-clause-damaged : goal.returns-clause-damaged
returns-clause-damaged g c =
    let old = c.args.volume.now in
    let mid = c.redo_part.new.volume in
    let did = by_audit g (goal.at.returns-clause-damaged g c).After-redo_part c.in_ok-redo_part.ensures in
    let rises : file_of old ≤ file_of mid = taken_rises _ (file_of old, batches_of old) (file_of mid, batches_of mid) did.batches in
    none_too_far g.D.Disk.tells c.args.audit.now.upto old c.undo_volume.result c.undo_volume.ensures.sound (names_later old mid c.undo_volume.result rises c.undo_volume.ensures.names)
