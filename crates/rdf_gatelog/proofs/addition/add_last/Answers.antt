use Rattle.std.proofs.Common.{◌∙◌, ◌+◌, ℕ, length, refl, Result, Err}
use Rattle.std.proofs.lemmas.Result.{err_from_is_err_and}
use Rattle.rdf_gatelog.specs.declared.fault.LogFault.{LogFault}
use Rattle.rdf_gatelog.specs.declared.fault.LogFault.TheVariants.{NoMemory}
use Rattle.rdf_gatelog.specs.AddingLaws.{no_gap}
use Rattle.rdf_gatelog.proofs.AdditionLaws.{finishes_nothing, finishes_broken, finishes_unsynced, finishes_shut, finishes_open_unsynced, finishes_all}
use Rattle.rdf_gatelog.proofs.addition.add_last.Goals as goal

pub returns-then-end-gt-MAX_END-clause-files : goal.returns-then-end-gt-MAX_END-clause-files
returns-then-end-gt-MAX_END-clause-files g c = λ tells.
    let short : Result ℕ LogFault = Err NoMemory in finishes_nothing (record { file = c.args.file; gate = c.args.gate; end = c.args.end }) (c.args.end + 5 + length c.args.last.now) c.args.last.now short NoMemory refl (g.D.Disk.files c.args.disk.now)

pub returns-in_err-block-clause-files : goal.returns-in_err-block-clause-files
returns-in_err-block-clause-files g c = λ tells.
    let r = err_from_is_err_and c.from_residual.result c.from_residual.ensures.1 in
    finishes_nothing (record { file = c.args.file; gate = c.args.gate; end = c.args.end }) (c.args.end + 5 + length c.args.last.now) c.args.last.now _ r.0 r.1 (g.D.Disk.files c.args.disk.now)

pub returns-in_err-write-clause-files : goal.returns-in_err-write-clause-files
returns-in_err-write-clause-files g c = λ tells.
    let r = err_from_is_err_and c.from_residual-in_err-write.result c.from_residual-in_err-write.ensures.1 in
    finishes_broken (record { file = c.args.file; gate = c.args.gate; end = c.args.end }) (c.args.end + 5 + length c.args.last.now) c.args.last.now _ r.0 r.1 c.deref.result.now c.write.result _ _ (c.write.ensures.files tells)

pub returns-in_err-sync-clause-files : goal.returns-in_err-sync-clause-files
returns-in_err-sync-clause-files g c = λ tells.
    let r = err_from_is_err_and c.from_residual-in_err-sync.result c.from_residual-in_err-sync.ensures.1 in
    finishes_unsynced (record { file = c.args.file; gate = c.args.gate; end = c.args.end }) (c.args.end + 5 + length c.args.last.now) c.args.last.now _ r.0 r.1 c.deref.result.now c.write.result c.sync.result _ _ _ (c.write.ensures.files tells) (c.sync.ensures.files tells)

pub returns-in_err-write-2-clause-files : goal.returns-in_err-write-2-clause-files
returns-in_err-write-2-clause-files g c = λ tells.
    let r = err_from_is_err_and c.from_residual-in_err-write-2.result c.from_residual-in_err-write-2.ensures.1 in
    finishes_shut (record { file = c.args.file; gate = c.args.gate; end = c.args.end }) (c.args.end + 5 + length c.args.last.now) c.args.last.now c.deref.result.now c.requires.payload (c.deref.ensures.value ∙ c.in_ok-block.ensures)
    _ _ _ (c.in_ok-write.ensures.files tells) (c.in_ok-sync.ensures.files tells) _ r.0 r.1 c.write-2.result _ (c.write-2.ensures.files tells)

pub returns-in_err-sync-2-clause-files : goal.returns-in_err-sync-2-clause-files
returns-in_err-sync-2-clause-files g c = λ tells.
    let r = err_from_is_err_and c.from_residual-in_err-sync-2.result c.from_residual-in_err-sync-2.ensures.1 in
    finishes_open_unsynced (record { file = c.args.file; gate = c.args.gate; end = c.args.end }) (c.args.end + 5 + length c.args.last.now) c.args.last.now c.deref.result.now c.requires.payload (c.deref.ensures.value ∙ c.in_ok-block.ensures)
    _ _ _ (c.in_ok-write.ensures.files tells) (c.in_ok-sync.ensures.files tells) _ r.0 r.1 c.write-2.result _ (c.write-2.ensures.files tells) c.sync-2.result _ (c.sync-2.ensures.files tells)

pub returns-clause-files : goal.returns-clause-files
returns-clause-files g c = λ tells.
    finishes_all (record { file = c.args.file; gate = c.args.gate; end = c.args.end }) (c.args.end + 5 + length c.args.last.now) c.args.last.now c.deref.result.now c.requires.payload (c.deref.ensures.value ∙ c.in_ok-block.ensures)
    _ _ _ (c.in_ok-write.ensures.files tells) (c.in_ok-sync.ensures.files tells) (c.args.end + 5 + length c.args.last.now) _ _ refl (c.in_ok-write-2.ensures.files tells) (c.in_ok-sync-2.ensures.files tells)

pub write-requires-clause-no_gap : goal.write-requires-clause-no_gap
write-requires-clause-no_gap g c = λ tells.
    let under = c.requires.adding tells in
    no_gap (record { file = c.args.file; gate = c.args.gate; end = c.args.end }) under.0 under.1 (g.D.Disk.files c.args.disk.now) under.2
