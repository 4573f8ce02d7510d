use Rattle.std.proofs.Common.{ℕ, inl, inr, ◌∙◌, subst}
use Rattle.std.proofs.lemmas.Result.{err_from_is_err_and, IfOk-weaker}
use Rattle.rdf_disk.specs.AnswerLaws.{passed_on}
use Rattle.rdf_gatelog.specs.Log.{IsDamaged}
use Rattle.rdf_gatelog.specs.RestLaws.{keeps_trans}
use Rattle.rdf_volume.proofs.LookLaws.{looks_keep, damaged_back, ended_look, ended_misplaced}
use Rattle.rdf_volume.proofs.mount.look.Goals as goal

pub returns-in_err-looking-clause-damaged : goal.returns-in_err-looking-clause-damaged
returns-in_err-looking-clause-damaged g c = λ tells f at is.
    let r = err_from_is_err_and c.from_residual.result c.from_residual.ensures.1 in
    let damaged = c.in_err-looking.ensures.damaged tells f at (passed_on _ _ r.0 _ r.1 r.2 is) in
    (damaged.0, inl damaged.1)

pub returns-in_err-further-clause-keeps : goal.returns-in_err-further-clause-keeps
returns-in_err-further-clause-keeps g c = λ tells.
    keeps_trans (g.D.Disk.files c.args.disk.now) (g.D.Disk.files c.loop.disk) (g.D.Disk.files c.look_on.new.disk) (c.loop.invariant.keeps tells)
    (looks_keep c.look_on.result (g.D.Disk.files c.loop.disk) (g.D.Disk.files c.look_on.new.disk) (c.look_on.ensures.files tells))

pub returns-in_err-further-clause-damaged : goal.returns-in_err-further-clause-damaged
returns-in_err-further-clause-damaged g c = λ tells f at is.
    let r = err_from_is_err_and c.from_residual-in_err-further.result c.from_residual-in_err-further.ensures.1 in
    let looking = c.loop.invariant.looking tells in
    let damaged = c.in_err-further.ensures.damaged tells f at (passed_on _ _ r.0 _ r.1 r.2 is) looking.0 looking.1 in (
      damaged.0 ∙ c.loop.invariant.file,
      inl (
          damaged_back c.args.file at (g.D.Disk.files c.args.disk.now) (g.D.Disk.files c.loop.disk) (c.loop.invariant.opened tells)
          (subst (λ (m : ℕ). IsDamaged (g.D.Disk.files c.loop.disk m).seen at) c.loop.invariant.file damaged.1)
          ),
    )

pub returns-in-Ends-clause-ok : goal.returns-in-Ends-clause-ok
returns-in-Ends-clause-ok g c = λ tells.
    let looking = c.loop.invariant.looking tells in
    IfOk-weaker c.found_in.result _ _ (λ found is.
    ended_look c.args.file c.loop.looking.reader.file (g.D.Disk.files c.args.disk.now) (g.D.Disk.files c.loop.disk) (g.D.Disk.files c.look_on.new.disk) (c.loop.invariant.opened tells)
    (c.in_ok-further.ensures.files tells) looking.0 c.in_ok-further.field-0 (c.in_ok-further.ensures.ok tells looking.0 looking.1) c.in-Ends.log c.in-Ends.sight c.in-Ends.is
    c.in_ok-further.ensures.file c.loop.invariant.file found.log found.reading is.0 is.1) c.found_in.ensures.ok

pub returns-in-Ends-clause-damaged : goal.returns-in-Ends-clause-damaged
returns-in-Ends-clause-damaged g c = λ tells f at is.
    let looking = c.loop.invariant.looking tells in
    let lost = c.found_in.ensures.damaged f at is in (
      lost.0,
      inr (
          ended_misplaced c.args.file c.loop.looking.reader.file (g.D.Disk.files c.args.disk.now) (g.D.Disk.files c.loop.disk) (g.D.Disk.files c.look_on.new.disk) (c.loop.invariant.opened tells)
          (c.in_ok-further.ensures.files tells) looking.0 c.in_ok-further.field-0 (c.in_ok-further.ensures.ok tells looking.0 looking.1) c.in-Ends.log c.in-Ends.sight c.in-Ends.is
          c.in_ok-further.ensures.file c.loop.invariant.file at lost.1
          ),
    )
