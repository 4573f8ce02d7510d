use Rattle.std.proofs.Common.{◌∙◌, ◌+◌, ◌-◌, length, take, drop}
use Rattle.std.proofs.lemmas.List.{take_rest}
use Rattle.std.proofs.lemmas.Result.{err_from_is_err_and}
use Rattle.rdf_gatelog.specs.Parsed.{lists_of}
use Rattle.rdf_gatelog.proofs.AppendLaws.{appends_err, ended_at}
use Rattle.rdf_gatelog.proofs.WritingLaws.{all_behind, some_behind}
use Rattle.rdf_gatelog.proofs.log.LogFile.append_all.Goals as goal

pub open_behind-requires-clause-some : goal.open_behind-requires-clause-some
open_behind-requires-clause-some g c = some_behind (lists_of c.args.payloads.now) _ c.requires.payloads.some
    (all_behind (lists_of c.args.payloads.now) c.deref.result.now _ c.requires.payloads.fit c.requires.payloads.some (c.deref.ensures.value ∙ c.in_ok-blocks.ensures) (take_rest c.deref.result.now 1))

pub returns-in_err-open_behind-clause-files : goal.returns-in_err-open_behind-clause-files
returns-in_err-open_behind-clause-files g c = λ tells.
    let r = err_from_is_err_and c.from_residual-in_err-open_behind.result c.from_residual-in_err-open_behind.ensures.1 in
    let are = all_behind (lists_of c.args.payloads.now) c.deref.result.now _ c.requires.payloads.fit c.requires.payloads.some (c.deref.ensures.value ∙ c.in_ok-blocks.ensures) (take_rest c.deref.result.now 1) in
    let done = c.in_err-open_behind.ensures.files tells (lists_of c.args.payloads.now) are in
    rw (← c.self.view_is) (appends_err _ _ _ _ _ r.0 _ _ r.1 done.0 done.1)

pub returns-clause-files : goal.returns-clause-files
returns-clause-files g c = λ tells.
    let are = all_behind (lists_of c.args.payloads.now) c.deref.result.now _ c.requires.payloads.fit c.requires.payloads.some (c.deref.ensures.value ∙ c.in_ok-blocks.ensures) (take_rest c.deref.result.now 1) in
    let done = c.in_ok-open_behind.ensures.files tells (lists_of c.args.payloads.now) are in
    rw (← c.self.view_is) (ended_at c.self.inside.file c.self.inside.end (c.self.inside.end + length (take (length c.deref.result.now - 1) (drop 1 c.deref.result.now))) c.in-Some.end (lists_of c.args.payloads.now) (tt {0}) (tt {0})
    (g.D.Disk.files c.args.disk.now) (g.D.Disk.files c.open_behind.new.disk) c.in-Some.ensures.1 done)
