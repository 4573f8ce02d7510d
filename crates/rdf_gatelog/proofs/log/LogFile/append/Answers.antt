use Rattle.std.proofs.Common.{◌∙◌, ◌+◌, ◌∷◌, [], arith, length}
use Rattle.std.proofs.lemmas.Result.{err_from_is_err_and}
use Rattle.rdf_gatelog.proofs.AppendLaws.{appends_err, ended_at, one_behind, length-one_behind}
use Rattle.rdf_gatelog.proofs.log.LogFile.append.Goals as goal

pub returns-in_err-open_behind-clause-files : goal.returns-in_err-open_behind-clause-files
returns-in_err-open_behind-clause-files g c = λ tells.
    let r = err_from_is_err_and c.from_residual-in_err-open_behind.result c.from_residual-in_err-open_behind.ensures.1 in
    let are = one_behind c.args.payload.now c.deref.result.now c.requires.payload (c.deref.ensures.value ∙ c.in_ok-block.ensures) in
    let done = c.in_err-open_behind.ensures.files tells (c.args.payload.now ∷ []) are in
    rw (← c.self.view_is) (appends_err _ _ _ _ _ r.0 _ _ r.1 done.0 done.1)

pub returns-clause-files : goal.returns-clause-files
returns-clause-files g c = λ tells.
    let block_is = c.deref.ensures.value ∙ c.in_ok-block.ensures in
    let done = c.in_ok-open_behind.ensures.files tells (c.args.payload.now ∷ []) (one_behind c.args.payload.now c.deref.result.now c.requires.payload block_is) in
    rw (← c.self.view_is) (ended_at c.self.inside.file c.self.inside.end (c.self.inside.end + length c.deref.result.now) (c.self.inside.end + 5 + length c.args.payload.now) (c.args.payload.now ∷ []) (tt {0}) c.self.inside.end
    (g.D.Disk.files c.args.disk.now) (g.D.Disk.files c.open_behind.new.disk) (omega (arith, length-one_behind c.args.payload.now c.deref.result.now block_is)) done)
