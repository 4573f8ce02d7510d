use Rattle.std.proofs.Common.{◌≡◌, ◌∷◌, [], sym, ◌∙◌, append-nil}
use Rattle.std.proofs.lemmas.Result.{on_err_weaker}
use Rattle.rdf_types.specs.declared.records.Record.TheVariants.{Image}
use Rattle.rdf_model.specs.Lines.{put_back}
use Rattle.rdf_disk.specs.AnswerLaws.{on_err}
use Rattle.tmf_core.specs.Stores.{trail_in}
use Rattle.tmf_core.specs.LeftLaws.{left_within}
use Rattle.rdf_model.specs.EndLaws.{put_back_more}
use Rattle.tmf_core.proofs.Backs.{set_back}
use Rattle.tmf_core.proofs.backout.put_one_back.Goals as goal

pub returns-in_err-present-clause-err : goal.returns-in_err-present-clause-err
returns-in_err-present-clause-err g c = λ tells.
    let trail = trail_in c.args.store.now in
    let adds = put_back_more c.args.txn trail ((c.args.key.now, c.args.first) ∷ []) in
    on_err c.from_residual.result _
    (left_within g.D.Disk.files c.value_at.new.self trail trail [] [] adds.0 trail (put_back c.args.txn trail ((c.args.key.now, c.args.first) ∷ [])) (sym (append-nil trail)) (sym (append-nil trail)) adds.1
    (c.in_err-present.ensures.err tells trail [] (sym (append-nil trail))))

pub returns-clause-err : goal.returns-clause-err
returns-clause-err g c = λ tells.
    let trail = trail_in c.args.store.now in
    let now = trail_in c.value_at.new.self in
    let k = c.args.key.now in
    let whole = put_back c.args.txn trail ((k, c.args.first) ∷ []) in
    let now_is : now ≡ trail = (c.in_ok-present.ensures.ok tells).1 in
    on_err_weaker c.change.result
    (left_within g.D.Disk.files c.change.new.self trail now [] (Image c.args.txn k.vol k.file k.key c.in_ok-present.present c.args.first ∷ []) [] whole whole (now_is ∙ sym (append-nil trail))
    (set_back c.args.txn trail now k c.in_ok-present.present c.args.first now_is (c.in_ok-present.ensures.found tells) (sym c.same.ensures ∙ c.if-same.false)) (sym (append-nil whole)))
    (c.change.ensures.err tells)
