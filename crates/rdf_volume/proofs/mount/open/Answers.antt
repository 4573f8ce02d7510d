use Rattle.std.proofs.Common.{◌≡◌, ℕ, ◌+◌, ◌-◌, sym, subst, arith}
use Rattle.std.proofs.lemmas.Result.{err_from_is_err_and, IfOk-weaker}
use Rattle.rdf_disk.specs.AnswerLaws.{passed_on}
use Rattle.rdf_disk.specs.Files.{IsSpan}
use Rattle.rdf_disk.specs.Outcomes.{seen_of}
use Rattle.rdf_disk.specs.OutcomeLaws.{looks_narrows}
use Rattle.rdf_gatelog.specs.LogPlace.{LogPlace}
use Rattle.rdf_gatelog.specs.RestLaws.{narrow_keeps, keeps_trans}
use Rattle.rdf_volume.specs.Opening.{IsTaken}
use Rattle.rdf_volume.proofs.AlikeLaws.{alike_same, alike_trans, reads_over, span_over, flaw_back, mounted_alike, mounted_settled, keeps_volume, keeps_volume_trans, keeps_durably}
use Rattle.rdf_volume.proofs.TakingLaws.{taken_durably}
use Rattle.rdf_volume.proofs.OpeningLaws.{look_flaw, still_unfinished, newest_taken, newest_stands}
use Rattle.rdf_volume.proofs.mount.open.Goals as goal

pub returns-in_err-low-clause-keeps : goal.returns-in_err-low-clause-keeps
returns-in_err-low-clause-keeps g c = λ tells. keeps_volume (g.D.Disk.files c.args.disk.now) (g.D.Disk.files c.span.new.self) (narrow_keeps (g.D.Disk.files c.args.disk.now) (g.D.Disk.files c.span.new.self) (looks_narrows c.span.result (g.D.Disk.files c.args.disk.now) (g.D.Disk.files c.span.new.self) (c.span.ensures.files tells)))

pub returns-then-above-eq0-clause-keeps : goal.returns-then-above-eq0-clause-keeps
returns-then-above-eq0-clause-keeps g c = λ tells. keeps_volume (g.D.Disk.files c.args.disk.now) (g.D.Disk.files c.span.new.self) (narrow_keeps (g.D.Disk.files c.args.disk.now) (g.D.Disk.files c.span.new.self) (looks_narrows c.span.result (g.D.Disk.files c.args.disk.now) (g.D.Disk.files c.span.new.self) (c.span.ensures.files tells)))

pub returns-in_err-found-clause-damaged : goal.returns-in_err-found-clause-damaged
returns-in_err-found-clause-damaged g c =
    let one : c.in_ok-low.above ≡ c.in_ok-low.above - 1 + 1 = omega (arith, c.if-above-eq0.false) in
    λ tells f at is.
    let r = err_from_is_err_and c.from_residual-in_err-found.result c.from_residual-in_err-found.ensures.1 in
    let damaged = c.in_err-found.ensures.damaged tells f at (passed_on _ _ r.0 _ r.1 r.2 is) in
    let same = c.in_ok-low.ensures.files tells in
    flaw_back (seen_of (g.D.Disk.files c.args.disk.now)) (seen_of (g.D.Disk.files c.span.new.self)) f at (alike_same (g.D.Disk.files c.args.disk.now) (g.D.Disk.files c.span.new.self) same)
    (look_flaw (g.D.Disk.files c.span.new.self) (c.in_ok-low.above - 1) f at (λ gone. (c.in_ok-low.ensures.ok tells).high_is (c.in_ok-low.above - 1) one ((alike_same (g.D.Disk.files c.args.disk.now) (g.D.Disk.files c.span.new.self) same (c.in_ok-low.above - 1)).same.absent_back gone)) damaged)

pub open_before-requires : goal.open_before-requires
open_before-requires g c = record {
  unfinished =
      let one : c.in_ok-low.above ≡ c.in_ok-low.above - 1 + 1 = omega (arith, c.if-above-eq0.false) in
      λ tells. record {
        settled = mounted_settled (c.in_ok-low.above - 1) c.in_ok-found.found.log.end (c.in_ok-found.ensures.ok tells).payloads (g.D.Disk.files c.span.new.self) (g.D.Disk.files c.look.new.disk) (c.in_ok-found.ensures.ok tells).mounted;
        span = span_over (g.D.Disk.files c.args.disk.now) (g.D.Disk.files c.look.new.disk) c.in_ok-low.low (c.in_ok-low.above - 1 + 1) (alike_trans (seen_of (g.D.Disk.files c.args.disk.now)) (seen_of (g.D.Disk.files c.span.new.self)) (seen_of (g.D.Disk.files c.look.new.disk)) (alike_same (g.D.Disk.files c.args.disk.now) (g.D.Disk.files c.span.new.self) (c.in_ok-low.ensures.files tells)) (mounted_alike (c.in_ok-low.above - 1) c.in_ok-found.found.log.end (c.in_ok-found.ensures.ok tells).payloads (g.D.Disk.files c.span.new.self) (g.D.Disk.files c.look.new.disk) (c.in_ok-found.ensures.ok tells).mounted)) (subst (λ (n : ℕ). IsSpan (g.D.Disk.files c.args.disk.now) c.in_ok-low.low n) one (c.in_ok-low.ensures.ok tells));
        stage = still_unfinished (g.D.Disk.files c.span.new.self) (g.D.Disk.files c.look.new.disk) (c.in_ok-low.above - 1) c.in_ok-found.found.log.end c.in_ok-found.found.reading (c.in_ok-found.ensures.ok tells) c.in_default.ensures.none;
      };
}

pub returns-in_default-clause-ok : goal.returns-in_default-clause-ok
returns-in_default-clause-ok g c = λ tells. IfOk-weaker c.open_before.result _ _ (λ whole holds file batches rows restart s.
    holds file batches rows restart (s.0, reads_over s.0 (seen_of (g.D.Disk.files c.args.disk.now)) (seen_of (g.D.Disk.files c.look.new.disk)) (alike_trans (seen_of (g.D.Disk.files c.args.disk.now)) (seen_of (g.D.Disk.files c.span.new.self)) (seen_of (g.D.Disk.files c.look.new.disk)) (alike_same (g.D.Disk.files c.args.disk.now) (g.D.Disk.files c.span.new.self) (c.in_ok-low.ensures.files tells)) (mounted_alike (c.in_ok-low.above - 1) c.in_ok-found.found.log.end (c.in_ok-found.ensures.ok tells).payloads (g.D.Disk.files c.span.new.self) (g.D.Disk.files c.look.new.disk) (c.in_ok-found.ensures.ok tells).mounted)) s.1, s.2)) (c.open_before.ensures.ok tells)

pub returns-in_default-clause-keeps : goal.returns-in_default-clause-keeps
returns-in_default-clause-keeps g c = λ tells. keeps_volume_trans (g.D.Disk.files c.args.disk.now) (g.D.Disk.files c.look.new.disk) (g.D.Disk.files c.open_before.new.disk)
    (keeps_volume (g.D.Disk.files c.args.disk.now) (g.D.Disk.files c.look.new.disk) (keeps_trans (g.D.Disk.files c.args.disk.now) (g.D.Disk.files c.span.new.self) (g.D.Disk.files c.look.new.disk) (narrow_keeps (g.D.Disk.files c.args.disk.now) (g.D.Disk.files c.span.new.self) (looks_narrows c.span.result (g.D.Disk.files c.args.disk.now) (g.D.Disk.files c.span.new.self) (c.span.ensures.files tells))) (c.look.ensures.keeps tells))) (c.open_before.ensures.keeps tells)

pub returns-in_default-clause-damaged : goal.returns-in_default-clause-damaged
returns-in_default-clause-damaged g c = λ tells f at is. flaw_back (seen_of (g.D.Disk.files c.args.disk.now)) (seen_of (g.D.Disk.files c.look.new.disk)) f at (alike_trans (seen_of (g.D.Disk.files c.args.disk.now)) (seen_of (g.D.Disk.files c.span.new.self)) (seen_of (g.D.Disk.files c.look.new.disk)) (alike_same (g.D.Disk.files c.args.disk.now) (g.D.Disk.files c.span.new.self) (c.in_ok-low.ensures.files tells)) (mounted_alike (c.in_ok-low.above - 1) c.in_ok-found.found.log.end (c.in_ok-found.ensures.ok tells).payloads (g.D.Disk.files c.span.new.self) (g.D.Disk.files c.look.new.disk) (c.in_ok-found.ensures.ok tells).mounted)) (c.open_before.ensures.damaged tells f at is)

pub returns-in_err-drop_before-clause-keeps : goal.returns-in_err-drop_before-clause-keeps
returns-in_err-drop_before-clause-keeps g c =
    let one : c.in_ok-low.above ≡ c.in_ok-low.above - 1 + 1 = omega (arith, c.if-above-eq0.false) in
    λ tells. keeps_durably (g.D.Disk.files c.args.disk.now) (g.D.Disk.files c.drop_before.new.disk) (λ rows restart s. newest_stands (g.D.Disk.files c.args.disk.now) (g.D.Disk.files c.span.new.self) (g.D.Disk.files c.look.new.disk) (g.D.Disk.files c.drop_before.new.disk) c.in_ok-low.low (c.in_ok-low.above - 1) (subst (λ (n : ℕ). IsSpan (g.D.Disk.files c.args.disk.now) c.in_ok-low.low n) one (c.in_ok-low.ensures.ok tells)) c.in_ok-found.found.log c.in_ok-found.ensures.file c.in_ok-found.found.reading (c.in_ok-low.ensures.files tells) (c.in_ok-found.ensures.ok tells)
    c.in-Some.whole.read c.in-Some.ensures.some
    s.0 s.1.0 rows restart s.1.1 c.in_err-drop_before.ensures.below (c.in_err-drop_before.ensures.err tells))

pub returns-clause-ok : goal.returns-clause-ok
returns-clause-ok g c =
    let one : c.in_ok-low.above ≡ c.in_ok-low.above - 1 + 1 = omega (arith, c.if-above-eq0.false) in
    λ tells file batches rows restart s.
    subst (λ (p : LogPlace). IsTaken (g.D.Disk.files c.drop_before.new.disk) p.file p.end c.in-Some.whole.read.table c.in-Some.whole.read.restart c.in-Some.whole.read.batches file batches rows restart) (sym c.in-Some.ensures.log)
    (newest_taken (g.D.Disk.files c.args.disk.now) (g.D.Disk.files c.span.new.self) (g.D.Disk.files c.look.new.disk) (g.D.Disk.files c.drop_before.new.disk) c.in_ok-low.low (c.in_ok-low.above - 1) (subst (λ (n : ℕ). IsSpan (g.D.Disk.files c.args.disk.now) c.in_ok-low.low n) one (c.in_ok-low.ensures.ok tells)) c.in_ok-found.found.log c.in_ok-found.ensures.file c.in_ok-found.found.reading (c.in_ok-low.ensures.files tells) (c.in_ok-found.ensures.ok tells)
    c.in-Some.whole.read c.in-Some.ensures.some
    file batches rows restart s (c.in_ok-drop_before.ensures.ok tells))

pub returns-clause-keeps : goal.returns-clause-keeps
returns-clause-keeps g c =
    let one : c.in_ok-low.above ≡ c.in_ok-low.above - 1 + 1 = omega (arith, c.if-above-eq0.false) in
    λ tells. keeps_durably (g.D.Disk.files c.args.disk.now) (g.D.Disk.files c.drop_before.new.disk) (λ rows restart s.
    taken_durably (g.D.Disk.files c.drop_before.new.disk) c.in_ok-found.found.log.file c.in_ok-found.found.log.end c.in-Some.whole.read.table c.in-Some.whole.read.restart c.in-Some.whole.read.batches s.0 s.1.0 rows restart
    (newest_taken (g.D.Disk.files c.args.disk.now) (g.D.Disk.files c.span.new.self) (g.D.Disk.files c.look.new.disk) (g.D.Disk.files c.drop_before.new.disk) c.in_ok-low.low (c.in_ok-low.above - 1) (subst (λ (n : ℕ). IsSpan (g.D.Disk.files c.args.disk.now) c.in_ok-low.low n) one (c.in_ok-low.ensures.ok tells)) c.in_ok-found.found.log c.in_ok-found.ensures.file c.in_ok-found.found.reading (c.in_ok-low.ensures.files tells) (c.in_ok-found.ensures.ok tells)
    c.in-Some.whole.read c.in-Some.ensures.some
    s.0 s.1.0 rows restart s.1.1 (c.in_ok-drop_before.ensures.ok tells)))
