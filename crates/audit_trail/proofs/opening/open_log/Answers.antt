use Rattle.std.proofs.Common.{◌≡◌, ℕ, ◌∙◌, ap, subst, arith, List, Vec}
use Rattle.std.specs.declared.alloc.Global.{Global}
use Rattle.std.proofs.lemmas.Result.{err_from_is_err_and}
use Rattle.rdf_disk.specs.OutcomeLaws.{looks_narrows}
use Rattle.rdf_disk.specs.AnswerLaws.{passed_on}
use Rattle.rdf_gatelog.specs.Log.{payloads_of}
use Rattle.rdf_gatelog.specs.Parsed.{lists_of}
use Rattle.audit_trail.specs.Flaws.{IsFirstNoRecord}
use Rattle.audit_trail.proofs.TrailLaws.{narrow_keeps, opening_keeps}
use Rattle.audit_trail.proofs.OpeningLaws.{log_flaw, record_flaw, only_after}
use Rattle.audit_trail.proofs.opening.open_log.Goals as goal

pub returns-in_err-low-clause-keeps : goal.returns-in_err-low-clause-keeps
returns-in_err-low-clause-keeps g c = λ tells.
    narrow_keeps (g.D.Disk.files c.args.disk.now) (g.D.Disk.files c.span.new.self) (looks_narrows c.span.result (g.D.Disk.files c.args.disk.now) (g.D.Disk.files c.span.new.self) (c.span.ensures.files tells))

pub returns-then-low-gt0-clause-keeps : goal.returns-then-low-gt0-clause-keeps
returns-then-low-gt0-clause-keeps g c = λ tells.
    narrow_keeps (g.D.Disk.files c.args.disk.now) (g.D.Disk.files c.span.new.self) (looks_narrows c.span.result (g.D.Disk.files c.args.disk.now) (g.D.Disk.files c.span.new.self) (c.span.ensures.files tells))

pub returns-in_err-log-clause-keeps : goal.returns-in_err-log-clause-keeps
returns-in_err-log-clause-keeps g c = λ tells.
    opening_keeps (g.D.Disk.files c.args.disk.now) (g.D.Disk.files c.span.new.self) (g.D.Disk.files c.mount.new.disk)
    (looks_narrows c.span.result (g.D.Disk.files c.args.disk.now) (g.D.Disk.files c.span.new.self) (c.span.ensures.files tells)) (c.mount.ensures.keeps tells)

pub returns-in_err-records-clause-keeps : goal.returns-in_err-records-clause-keeps
returns-in_err-records-clause-keeps g c = λ tells.
    opening_keeps (g.D.Disk.files c.args.disk.now) (g.D.Disk.files c.span.new.self) (g.D.Disk.files c.mount.new.disk)
    (looks_narrows c.span.result (g.D.Disk.files c.args.disk.now) (g.D.Disk.files c.span.new.self) (c.span.ensures.files tells)) (c.mount.ensures.keeps tells)

pub returns-clause-keeps : goal.returns-clause-keeps
returns-clause-keeps g c = λ tells.
    opening_keeps (g.D.Disk.files c.args.disk.now) (g.D.Disk.files c.span.new.self) (g.D.Disk.files c.mount.new.disk)
    (looks_narrows c.span.result (g.D.Disk.files c.args.disk.now) (g.D.Disk.files c.span.new.self) (c.span.ensures.files tells)) (c.mount.ensures.keeps tells)

pub returns-in_err-log-clause-damaged : goal.returns-in_err-log-clause-damaged
returns-in_err-log-clause-damaged g c = λ tells file at is.
    let r = err_from_is_err_and c.from_residual-in_err-log.result c.from_residual-in_err-log.ensures.1 in
    let first : c.in_ok-low.low ≡ 0 = omega (arith, c.if-low-gt0.false) in
    let damaged = c.in_err-log.ensures.damaged tells file at (passed_on _ _ r.0 _ r.1 r.2 is) in
    log_flaw (g.D.Disk.files c.args.disk.now) (g.D.Disk.files c.span.new.self) c.in_ok-low.low c.in_ok-low.above file at
    (c.in_ok-low.ensures.ok tells) (c.in_ok-low.ensures.files tells) first c.if-above-eq0.false damaged

pub returns-in_err-records-clause-damaged : goal.returns-in_err-records-clause-damaged
returns-in_err-records-clause-damaged g c = λ tells file at is.
    let r = err_from_is_err_and c.from_residual-in_err-records.result c.from_residual-in_err-records.ensures.1 in
    let damaged = c.in_err-records.ensures.damaged file at (passed_on _ _ r.0 _ r.1 r.2 is) in
    record_flaw (g.D.Disk.files c.args.disk.now) (g.D.Disk.files c.span.new.self) (payloads_of c.in_ok-log.payloads) file at
    (c.in_ok-low.ensures.files tells) (c.in_ok-log.ensures.files tells).stood
    (damaged.0, subst (λ (vs : List (Vec ℕ Global)). IsFirstNoRecord (lists_of vs) at) c.deref.ensures.value damaged.1)

pub returns-clause-only : goal.returns-clause-only
returns-clause-only g c = λ tells trail spells.
    only_after c.none_begins_another.ensures (g.D.Disk.files c.args.disk.now) (g.D.Disk.files c.span.new.self) (payloads_of c.in_ok-log.payloads) c.in_ok-records.records.items trail
    (c.in_ok-low.ensures.files tells) (c.in_ok-log.ensures.files tells).stood
    (c.in_ok-records.ensures.ok ∙ ap lists_of c.deref.ensures.value) c.in_ok-records.ensures.records spells
