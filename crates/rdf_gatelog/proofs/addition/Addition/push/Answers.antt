use Rattle.std.proofs.Common.{◌∙◌, ◌+◌, ℕ, length, refl, Result, Err, subst, sym}
use Rattle.std.proofs.lemmas.Result.{err_from_is_err_and}
use Rattle.rdf_gatelog.specs.Adding.{AdditionPlace, IsAdding}
use Rattle.rdf_gatelog.specs.AddingLaws.{no_gap}
use Rattle.rdf_gatelog.proofs.AdditionLaws.{adds_nothing, adds_broken, adds_one}
use Rattle.rdf_gatelog.specs.declared.fault.LogFault.{LogFault}
use Rattle.rdf_gatelog.specs.declared.fault.LogFault.TheVariants.{NoMemory}
use Rattle.rdf_gatelog.proofs.addition.Addition.push.Goals as goal

pub returns-then-at-gt-MAX_END-clause-files : goal.returns-then-at-gt-MAX_END-clause-files
returns-then-at-gt-MAX_END-clause-files g c = λ tells. let short : Result ℕ LogFault = Err NoMemory in adds_nothing c.args.self.now c.args.self.now c.args.payload.now short NoMemory refl (g.D.Disk.files c.args.disk.now)

pub returns-in_err-block-clause-files : goal.returns-in_err-block-clause-files
returns-in_err-block-clause-files g c = λ tells.
    let r = err_from_is_err_and c.from_residual.result c.from_residual.ensures.1 in
    adds_nothing c.args.self.now c.args.self.now c.args.payload.now _ r.0 r.1 (g.D.Disk.files c.args.disk.now)

pub returns-in_err-write-clause-files : goal.returns-in_err-write-clause-files
returns-in_err-write-clause-files g c = λ tells.
    let r = err_from_is_err_and c.from_residual-in_err-write.result c.from_residual-in_err-write.ensures.1 in
    rw (← c.self.view_is) (adds_broken (record { file = c.self.inside.file; gate = c.self.inside.gate; end = c.self.inside.end }) _ c.args.payload.now _ r.0 r.1 c.deref.result.now c.write.result _ _ (c.write.ensures.files tells))

pub returns-clause-files : goal.returns-clause-files
returns-clause-files g c = λ tells.
    rw (← c.self.view_is) (adds_one (record { file = c.self.inside.file; gate = c.self.inside.gate; end = c.self.inside.end }) (c.self.inside.end + 5 + length c.args.payload.now) c.args.payload.now c.deref.result.now c.self.inside.end _ _
    c.requires.payload (c.deref.ensures.value ∙ c.in_ok-block.ensures) refl (c.in_ok-write.ensures.files tells))

pub write-requires-clause-no_gap : goal.write-requires-clause-no_gap
write-requires-clause-no_gap g c = λ tells.
    let under = c.requires.adding tells in
    no_gap (record { file = c.self.inside.file; gate = c.self.inside.gate; end = c.self.inside.end }) under.0 under.1 (g.D.Disk.files c.args.disk.now)
    (subst (λ (place : AdditionPlace). IsAdding place under.0 under.1 (g.D.Disk.files c.args.disk.now)) (sym c.self.view_is) under.2)
