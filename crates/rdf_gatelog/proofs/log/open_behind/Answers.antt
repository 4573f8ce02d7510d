use Rattle.std.proofs.Common.{◌+◌, length, refl}
use Rattle.std.proofs.lemmas.Result.{err_from_is_err_and}
use Rattle.rdf_gatelog.proofs.AppendLaws.{exit_first, exit_first_sync, exit_second, exit_second_sync, exit_ok}
use Rattle.rdf_gatelog.proofs.log.open_behind.Goals as goal

pub returns-in_err-write-clause-files : goal.returns-in_err-write-clause-files
returns-in_err-write-clause-files g c = λ tells more are.
    let r = err_from_is_err_and c.from_residual.result c.from_residual.ensures.1 in
    exit_first c.args.file c.args.gate (c.args.gate + length c.args.blocks.now) more c.args.blocks.now are _ r.0 r.1 c.write.result _ _ (c.write.ensures.files tells)

pub returns-in_err-sync-clause-files : goal.returns-in_err-sync-clause-files
returns-in_err-sync-clause-files g c = λ tells more are.
    let r = err_from_is_err_and c.from_residual-in_err-sync.result c.from_residual-in_err-sync.ensures.1 in
    exit_first_sync c.args.file c.args.gate (c.args.gate + length c.args.blocks.now) more c.args.blocks.now are _ r.0 r.1 c.write.result c.sync.result _ _ _ (c.write.ensures.files tells) (c.sync.ensures.files tells)

pub returns-in_err-write-2-clause-files : goal.returns-in_err-write-2-clause-files
returns-in_err-write-2-clause-files g c = λ tells more are.
    let r = err_from_is_err_and c.from_residual-in_err-write-2.result c.from_residual-in_err-write-2.ensures.1 in
    exit_second c.args.file c.args.gate (c.args.gate + length c.args.blocks.now) more c.args.blocks.now are _ _ _ (c.in_ok-write.ensures.files tells) (c.in_ok-sync.ensures.files tells) _ r.0 r.1 c.write-2.result _ (c.write-2.ensures.files tells)

pub returns-in_err-sync-2-clause-files : goal.returns-in_err-sync-2-clause-files
returns-in_err-sync-2-clause-files g c = λ tells more are.
    let r = err_from_is_err_and c.from_residual-in_err-sync-2.result c.from_residual-in_err-sync-2.ensures.1 in
    exit_second_sync c.args.file c.args.gate (c.args.gate + length c.args.blocks.now) more c.args.blocks.now are _ _ _ (c.in_ok-write.ensures.files tells) (c.in_ok-sync.ensures.files tells) _ r.0 r.1 c.write-2.result c.sync-2.result _ _ (c.write-2.ensures.files tells) (c.sync-2.ensures.files tells)

pub returns-clause-files : goal.returns-clause-files
returns-clause-files g c = λ tells more are.
    exit_ok c.args.file c.args.gate (c.args.gate + length c.args.blocks.now) more c.args.blocks.now are _ _ _ (c.in_ok-write.ensures.files tells) (c.in_ok-sync.ensures.files tells) (tt {0}) _ _ refl (c.in_ok-write-2.ensures.files tells) (c.in_ok-sync-2.ensures.files tells)
