use Rattle.std.proofs.Common.{◌++◌, ◌∷◌, [], ap, subst, ◌∙◌}
use Rattle.rdf_types.specs.declared.records.Record.{Record}
use Rattle.rdf_disk.specs.AnswerLaws.{on_err}
use Rattle.tmf_core.specs.Stores.{trail_in, Left}
use Rattle.tmf_core.specs.LeftLaws.{left_now}
use Rattle.tmf_core.proofs.ChangeLaws.{left_append, left_apply, stored_after}
use Rattle.tmf_core.proofs.store.Store.change.Goals as goal

pub returns-in_err-change-clause-err : goal.returns-in_err-change-clause-err
returns-in_err-change-clause-err g c = λ tells. on_err _ _ (left_now g.D.Disk.files c.in_use_is_durable.ensures c.in_use_stands.ensures c.args.self.now (c.requires.stored tells) _)

pub returns-in_err-rec-clause-err : goal.returns-in_err-rec-clause-err
returns-in_err-rec-clause-err g c = λ tells. on_err _ _ (left_now g.D.Disk.files c.in_use_is_durable.ensures c.in_use_stands.ensures c.args.self.now (c.requires.stored tells) _)

pub returns-in_err-append-clause-err : goal.returns-in_err-append-clause-err
returns-in_err-append-clause-err g c = λ tells.
    on_err _ _ (subst (λ (r : Record). Left g.D.Disk.files (trail_in c.args.self.now) (r ∷ []) c.append.new.self) c.in_ok-rec.ensures
    (left_append g.D.Disk.files c.in_use_is_durable.ensures c.in_use_stands.ensures c.args.self.now (c.requires.stored tells) c.append.new.self c.in_ok-rec.rec c.append.ensures.volumes (c.in_err-append.ensures.err tells (c.requires.stored tells).alone)))

pub returns-in_err-apply-clause-err : goal.returns-in_err-apply-clause-err
returns-in_err-apply-clause-err g c = λ tells.
    on_err _ _ (left_apply g.D.Disk.files c.in_use_is_durable.ensures c.in_use_stands.ensures c.args.self.now (c.requires.stored tells) c.args.txn c.args.key.now c.args.before c.args.after c.in_ok-change.change c.in_ok-change.ensures c.requires.there
    c.append.new.self (c.in_ok-append.ensures.ok ∙ ap (λ (r : Record). trail_in c.args.self.now ++ r ∷ []) c.in_ok-rec.ensures) c.append.ensures.volumes (c.in_ok-append.ensures.in_use tells) (c.in_ok-append.ensures.alone tells (c.requires.stored tells).alone)
    c.change_sets.ensures c.apply.new.self c.apply.ensures.trail (c.in_err-apply.ensures.err tells))

pub checkpoint-requires-clause-stored : goal.checkpoint-requires-clause-stored
checkpoint-requires-clause-stored g c = λ tells.
    (stored_after g.D.Disk.files c.in_use_is_durable.ensures c.in_use_stands.ensures c.args.self.now (c.requires.stored tells) c.args.txn c.args.key.now c.args.before c.args.after c.in_ok-change.change c.in_ok-change.ensures c.requires.there
    c.append.new.self (c.in_ok-append.ensures.ok ∙ ap (λ (r : Record). trail_in c.args.self.now ++ r ∷ []) c.in_ok-rec.ensures) c.append.ensures.volumes (c.in_ok-append.ensures.in_use tells) (c.in_ok-append.ensures.alone tells (c.requires.stored tells).alone)
    c.change_sets.ensures c.apply.new.self c.apply.ensures.trail (c.in_ok-apply.ensures.ok tells)).0
