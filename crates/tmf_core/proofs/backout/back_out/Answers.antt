use Rattle.std.proofs.Common.{◌≡◌, ◌∷◌, ◌++◌, [], List, length, refl, sym, ap, ◌∙◌, subst, append-nil}
use Rattle.std.proofs.lemmas.Result.{on_err_weaker}
use Rattle.std.specs.FinMap.{entries}
use Rattle.rdf_types.specs.declared.records.Record.{Record}
use Rattle.rdf_types.specs.declared.records.Record.TheVariants.{Abort}
use Rattle.rdf_model.specs.Lines.{put_back, after_abort}
use Rattle.rdf_disk.specs.AnswerLaws.{on_err}
use Rattle.tmf_core.specs.Stores.{trail_in}
use Rattle.tmf_core.specs.Places.{AreIn}
use Rattle.tmf_core.specs.LeftLaws.{left_within}
use Rattle.rdf_model.specs.EndLaws.{put_back_more}
use Rattle.tmf_core.specs.PlaceLaws.{found_there}
use Rattle.tmf_core.proofs.Backs.{aborted}
use Rattle.tmf_core.proofs.backout.back_out.Goals as goal

pub put_all_back-requires-clause-there : goal.put_all_back-requires-clause-there
put_all_back-requires-clause-there g c = λ tells.
    let n = length c.args.store.now.volumes.items in
    subst (λ es. AreIn n es) (sym (c.requires.found tells).listed) (found_there n c.args.txn (trail_in c.args.store.now) (c.requires.stored tells).placed)

pub returns-in_err-put_all_back-clause-err : goal.returns-in_err-put_all_back-clause-err
returns-in_err-put_all_back-clause-err g c = λ tells.
    let trail = trail_in c.args.store.now in
    let whole = put_back c.args.txn trail (entries c.args.found) in
    let adds = put_back_more c.args.txn trail (entries c.args.found) in
    on_err c.from_residual.result _
    (left_within g.D.Disk.files c.put_all_back.new.store trail trail [] adds.0 (Abort c.args.txn ∷ []) whole (after_abort trail c.args.txn) (sym (append-nil trail)) adds.1
    (aborted trail c.args.txn c.args.found (c.requires.found tells) (sym c.is_empty.ensures ∙ c.if-is_empty.false)) (c.in_err-put_all_back.ensures.err tells adds.0 adds.1))

pub returns-clause-err : goal.returns-clause-err
returns-clause-err g c = λ tells.
    let trail = trail_in c.args.store.now in
    let now = trail_in c.put_all_back.new.store in
    let adds = put_back_more c.args.txn trail (entries c.args.found) in
    let now_is : now ≡ put_back c.args.txn trail (entries c.args.found) = (c.in_ok-put_all_back.ensures.ok tells).1 in
    let whole : List Record = now ++ Abort c.args.txn ∷ [] in
    on_err_weaker c.abort.result
    (left_within g.D.Disk.files c.abort.new.self trail now adds.0 (Abort c.args.txn ∷ []) [] whole (after_abort trail c.args.txn) (now_is ∙ adds.1) refl
    (aborted trail c.args.txn c.args.found (c.requires.found tells) (sym c.is_empty.ensures ∙ c.if-is_empty.false) ∙ ap (λ (l : List Record). l ++ Abort c.args.txn ∷ []) (sym now_is) ∙ sym (append-nil whole)))
    (c.abort.ensures.err tells)
