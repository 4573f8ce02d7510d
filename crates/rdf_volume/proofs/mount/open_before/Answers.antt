use Rattle.std.proofs.Common.{◌≡◌, ◌≢◌, ℕ, ◌+◌, ◌-◌, None, inr, sym, subst, arith}
use Rattle.std.proofs.lemmas.Result.{err_from_is_err_and}
use Rattle.rdf_disk.specs.AnswerLaws.{passed_on}
use Rattle.rdf_disk.specs.Outcomes.{seen_of}
use Rattle.rdf_disk.specs.OutcomeLaws.{looks_narrows}
use Rattle.rdf_gatelog.specs.LogPlace.{LogPlace}
use Rattle.rdf_gatelog.specs.RestLaws.{narrow_keeps}
use Rattle.rdf_volume.specs.Flaws.{IsFlaw}
use Rattle.rdf_volume.specs.Opening.{IsTaken}
use Rattle.rdf_volume.proofs.AlikeLaws.{alike_same, flaw_back, keeps_volume, keeps_durably}
use Rattle.rdf_volume.proofs.TakingLaws.{no_base, taken_durably}
use Rattle.rdf_volume.proofs.OpeningLaws.{same_damage, told_there, look_flaw, look_unfinished, before_taken, before_stands}
use Rattle.rdf_volume.proofs.mount.open_before.Goals as goal

pub returns-in_err-len-clause-keeps : goal.returns-in_err-len-clause-keeps
returns-in_err-len-clause-keeps g c = λ tells. keeps_volume (g.D.Disk.files c.args.disk.now) (g.D.Disk.files c.len.new.self) (narrow_keeps (g.D.Disk.files c.args.disk.now) (g.D.Disk.files c.len.new.self) (looks_narrows c.len.result (g.D.Disk.files c.args.disk.now) (g.D.Disk.files c.len.new.self) (c.len.ensures.files tells)))

pub returns-then-is_none-clause-keeps : goal.returns-then-is_none-clause-keeps
returns-then-is_none-clause-keeps g c = λ tells. keeps_volume (g.D.Disk.files c.args.disk.now) (g.D.Disk.files c.len.new.self) (narrow_keeps (g.D.Disk.files c.args.disk.now) (g.D.Disk.files c.len.new.self) (looks_narrows c.len.result (g.D.Disk.files c.args.disk.now) (g.D.Disk.files c.len.new.self) (c.len.ensures.files tells)))

pub returns-in_err-found-clause-damaged : goal.returns-in_err-found-clause-damaged
returns-in_err-found-clause-damaged g c = λ tells f at is.
    let r = err_from_is_err_and c.from_residual-in_err-found.result c.from_residual-in_err-found.ensures.1 in
    let damaged = c.in_err-found.ensures.damaged tells f at (passed_on _ _ r.0 _ r.1 r.2 is) in
    let same = c.in_ok-len.ensures.files tells in
    let there : (g.D.Disk.files c.args.disk.now (c.args.newest - 1)).seen ≢ None = told_there (g.D.Disk.files c.args.disk.now (c.args.newest - 1)).seen c.in_ok-len.field-0 c.is_none.result (c.in_ok-len.ensures.ok tells) c.is_none.ensures c.if-is_none.false in
    flaw_back (seen_of (g.D.Disk.files c.args.disk.now)) (seen_of (g.D.Disk.files c.len.new.self)) f at (alike_same (g.D.Disk.files c.args.disk.now) (g.D.Disk.files c.len.new.self) same)
    (look_flaw (g.D.Disk.files c.len.new.self) (c.args.newest - 1) f at (λ gone. there ((alike_same (g.D.Disk.files c.args.disk.now) (g.D.Disk.files c.len.new.self) same (c.args.newest - 1)).same.absent_back gone)) damaged)

pub returns-in_default-clause-damaged : goal.returns-in_default-clause-damaged
returns-in_default-clause-damaged g c = λ tells f at is.
    let named = same_damage c.args.low 0 f at is in
    subst (λ (n : ℕ). IsFlaw (seen_of (g.D.Disk.files c.args.disk.now)) n at) named.0 (subst (λ (n : ℕ). IsFlaw (seen_of (g.D.Disk.files c.args.disk.now)) c.args.low n) named.1
    (inr (inr (no_base (g.D.Disk.files c.args.disk.now) c.args.low c.args.newest (c.requires.unfinished tells) (λ m ps is_before log.
    look_unfinished (g.D.Disk.files c.args.disk.now) (g.D.Disk.files c.len.new.self) (g.D.Disk.files c.look.new.disk) (c.args.newest - 1) c.in_ok-found.found.log.end c.in_ok-found.found.reading (c.in_ok-len.ensures.files tells) (c.in_ok-found.ensures.ok tells) c.in_default.ensures.none m ps (omega (arith, is_before)) log)))))

pub returns-in_err-discard-clause-keeps : goal.returns-in_err-discard-clause-keeps
returns-in_err-discard-clause-keeps g c =
    let before : c.args.newest - 1 + 1 ≡ c.args.newest = omega (arith, c.if-newest-low.false) in
    λ tells. keeps_durably (g.D.Disk.files c.args.disk.now) (g.D.Disk.files c.discard.new.disk) (λ rows restart s. before_stands (g.D.Disk.files c.args.disk.now) (g.D.Disk.files c.len.new.self) (g.D.Disk.files c.look.new.disk) (g.D.Disk.files c.discard.new.disk) c.args.low c.args.newest (c.args.newest - 1) before (c.requires.unfinished tells) c.in_ok-found.found.log c.in_ok-found.ensures.file c.in_ok-found.found.reading (c.in_ok-len.ensures.files tells) (c.in_ok-found.ensures.ok tells)
    c.in-Some.whole.read c.in-Some.ensures.some
    s.0 s.1.0 rows restart s.1.1 (c.in_err-discard.ensures.err_reads tells))

pub returns-clause-ok : goal.returns-clause-ok
returns-clause-ok g c =
    let before : c.args.newest - 1 + 1 ≡ c.args.newest = omega (arith, c.if-newest-low.false) in
    λ tells file batches rows restart s.
    subst (λ (p : LogPlace). IsTaken (g.D.Disk.files c.discard.new.disk) p.file p.end c.in-Some.whole.read.table c.in-Some.whole.read.restart c.in-Some.whole.read.batches file batches rows restart) (sym c.in-Some.ensures.log)
    (before_taken (g.D.Disk.files c.args.disk.now) (g.D.Disk.files c.len.new.self) (g.D.Disk.files c.look.new.disk) (g.D.Disk.files c.discard.new.disk) c.args.low c.args.newest (c.args.newest - 1) before (c.requires.unfinished tells) c.in_ok-found.found.log c.in_ok-found.ensures.file c.in_ok-found.found.reading (c.in_ok-len.ensures.files tells) (c.in_ok-found.ensures.ok tells)
    c.in-Some.whole.read c.in-Some.ensures.some
    file batches rows restart s (c.in_ok-discard.ensures.files tells))

pub returns-clause-keeps : goal.returns-clause-keeps
returns-clause-keeps g c =
    let before : c.args.newest - 1 + 1 ≡ c.args.newest = omega (arith, c.if-newest-low.false) in
    λ tells. keeps_durably (g.D.Disk.files c.args.disk.now) (g.D.Disk.files c.discard.new.disk) (λ rows restart s.
    taken_durably (g.D.Disk.files c.discard.new.disk) c.in_ok-found.found.log.file c.in_ok-found.found.log.end c.in-Some.whole.read.table c.in-Some.whole.read.restart c.in-Some.whole.read.batches s.0 s.1.0 rows restart
    (before_taken (g.D.Disk.files c.args.disk.now) (g.D.Disk.files c.len.new.self) (g.D.Disk.files c.look.new.disk) (g.D.Disk.files c.discard.new.disk) c.args.low c.args.newest (c.args.newest - 1) before (c.requires.unfinished tells) c.in_ok-found.found.log c.in_ok-found.ensures.file c.in_ok-found.found.reading (c.in_ok-len.ensures.files tells) (c.in_ok-found.ensures.ok tells)
    c.in-Some.whole.read c.in-Some.ensures.some
    s.0 s.1.0 rows restart s.1.1 (c.in_ok-discard.ensures.files tells)))
