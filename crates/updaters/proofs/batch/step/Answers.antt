use Rattle.std.proofs.Common.{◌≡◌, inl, List, rules, ◌∙◌, subst}
use Rattle.rdf_types.specs.declared.records.Change.{Change}
use Rattle.rdf_disk.specs.AnswerLaws.{on_err}
use Rattle.rdf_gatelog.specs.LogCauses.{NotDamaged}
use Rattle.rdf_volume.specs.Views.{disk_of, restart_of, rows_of}
use Rattle.rdf_volume.specs.Changes.{changed}
use Rattle.rdf_volume.specs.StandingLaws.{in_use_durably, stands_same}
use Rattle.updaters.specs.Applied.{changes_by}
use Rattle.updaters.specs.Calls.{Steps}
use Rattle.updaters.proofs.Redoing.{nothing_applied, whole_batch, on_err_both}
use Rattle.updaters.proofs.batch.step.Goals as goal

pub returns-in_err-batch-clause-steps : goal.returns-in_err-batch-clause-steps
returns-in_err-batch-clause-steps g c = record { does = record { ok = search rules; err = λ tells. on_err c.from_residual.result _ (λ x may. inl (in_use_durably g.D.Disk.files c.args.volume.now (c.requires.in_use tells) x may)); cause = search rules }; rows = search rules; restart = search rules; batches = search rules; file = search rules; point = search rules; sound = λ tells. calm; names = λ damaged at e. absurd (calm damaged at e) }
  where
    calm : NotDamaged c.from_residual.result
    calm = search rules

pub returns-in_err-batch-clause-known : goal.returns-in_err-batch-clause-known
returns-in_err-batch-clause-known g c = λ tells.
    let v = c.args.volume.now in
    on_err c.from_residual.result _
    (λ same x may.
    stands_same (rows_of v) (changed (rows_of v) (changes_by c.args.images.now)) (restart_of v) c.args.upto x (nothing_applied (restart_of v) c.args.upto c.args.images.now (rows_of v) same c.requires.between) same
    (in_use_durably g.D.Disk.files v (c.requires.in_use tells) x may))

pub returns-clause-steps : goal.returns-clause-steps
returns-clause-steps g c =
    subst (λ (cs : List Change). Steps g.D.Disk.tells g.D.Disk.files g.D.Disk.counts cs c.args.upto c.args.volume.now c.apply_batch.result c.apply_batch.new.volume) (c.deref.ensures.value ∙ c.in_ok-batch.ensures.value) c.apply_batch.ensures.steps

pub returns-clause-known : goal.returns-clause-known
returns-clause-known g c = λ tells.
    let v = c.args.volume.now in
    let changes_are : c.deref.result.now ≡ changes_by c.args.images.now = c.deref.ensures.value ∙ c.in_ok-batch.ensures.value in
    on_err_both c.apply_batch.result
    (λ known either same. whole_batch (g.D.Disk.files (disk_of c.apply_batch.new.volume)) (rows_of v) (restart_of v) (restart_of c.apply_batch.new.volume) c.args.upto c.args.images.now c.deref.result.now changes_are c.requires.between known either same)
    (c.apply_batch.ensures.known tells) (c.apply_batch.ensures.steps.err tells)
