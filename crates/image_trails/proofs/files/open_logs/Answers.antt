use Rattle.std.proofs.Common.{List, [], ◌∷◌, length, Option, refl, sym, ◌∙◌, ap, subst, arith, length-append}
use Rattle.image_trails.specs.declared.file_log.FileLog.{FileLog}
use Rattle.std.proofs.lemmas.Result.{err_from_is_err_and}
use Rattle.rdf_disk.specs.AnswerLaws.{passed_on}
use Rattle.rdf_gatelog.specs.RestLaws.{keeps_trans}
use Rattle.image_trails.proofs.FileReads.{IsOpenedSo, none_opened, one_opened, still_settled, all_rest, all_reads, all_within, damaged_before}
use Rattle.image_trails.proofs.files.open_logs.Goals as goal

pub loop-file-init : goal.loop-file-init
loop-file-init g c = record {
  counts = refl;
  count = omega (arith, ap length c.new-logs.ensures.items);
  files = λ tells. subst (λ (l : List (Option FileLog)). IsOpenedSo c.args.base l (g.D.Disk.files c.args.disk.now) (g.D.Disk.files c.args.disk.now)) (sym c.new-logs.ensures.items) (none_opened c.args.base (g.D.Disk.files c.args.disk.now));
}

pub open_log-requires : goal.open_log-requires
open_log-requires g c = record {
  settled = λ tells. still_settled c.args.base c.loop-file.logs.items (g.D.Disk.files c.args.disk.now) (g.D.Disk.files c.loop-file.disk) (c.loop-file.invariant.files tells) (c.requires.settled tells);
}

pub returns-in_err-open_log-clause-damaged : goal.returns-in_err-open_log-clause-damaged
returns-in_err-open_log-clause-damaged g c = λ tells f at is.
    let r = err_from_is_err_and c.from_residual.result c.from_residual.ensures.1 in
    damaged_before c.args.base c.loop-file.logs.items (g.D.Disk.files c.args.disk.now) (g.D.Disk.files c.loop-file.disk) (c.loop-file.invariant.files tells) f at
    (c.in_err-open_log.ensures.damaged tells f at (passed_on _ _ r.0 _ r.1 r.2 is))

pub returns-in_err-push-clause-keeps : goal.returns-in_err-push-clause-keeps
returns-in_err-push-clause-keeps g c = λ tells.
    keeps_trans (g.D.Disk.files c.args.disk.now) (g.D.Disk.files c.loop-file.disk) (g.D.Disk.files c.open_log.new.disk) (c.loop-file.invariant.files tells).keeps (c.in_ok-open_log.ensures.keeps tells)

pub loop-file-preserved : goal.loop-file-preserved
loop-file-preserved g c =
    let x = c.in_ok-open_log.field-0 in
    let items = c.in_ok-push.ensures.items in
    record {
      counts = c.in_ok-open_log.ensures.cause ∙ c.loop-file.invariant.counts;
      count = omega (arith, ap length items, length-append c.loop-file.logs.items (x ∷ []), c.loop-file.invariant.count);
      files = λ tells. subst (λ (l : List (Option FileLog)). IsOpenedSo c.args.base l (g.D.Disk.files c.args.disk.now) (g.D.Disk.files c.open_log.new.disk)) (sym items)
          (one_opened c.args.base c.loop-file.file c.loop-file.logs.items x (g.D.Disk.files c.args.disk.now) (g.D.Disk.files c.loop-file.disk) (g.D.Disk.files c.open_log.new.disk)
          c.loop-file.invariant.count (c.loop-file.invariant.files tells) (c.in_ok-open_log.ensures.ok tells) (c.in_ok-open_log.ensures.keeps tells));
    }

pub returns-clause-logs : goal.returns-clause-logs
returns-clause-logs g c = λ tells.
    let ordered = c.requires.ordered tells in
    let end = c.loop-file.auto.file-end ordered in
    let opened = c.loop-file.invariant.files tells in
    record {
      rests = all_rest c.args.base c.args.above c.loop-file.logs.items (g.D.Disk.files c.args.disk.now) (g.D.Disk.files c.loop-file.disk) opened (c.requires.settled tells) (c.requires.within tells) (omega (arith, c.loop-file-test.false, end, c.loop-file.invariant.count));
      reads = all_reads c.args.base c.args.above c.loop-file.logs.items (g.D.Disk.files c.args.disk.now) (g.D.Disk.files c.loop-file.disk) opened (c.requires.settled tells) (c.requires.within tells) (omega (arith, c.loop-file-test.false, end, c.loop-file.invariant.count));
      within = all_within c.args.base c.args.above c.loop-file.logs.items (omega (arith, c.loop-file-test.false, end, c.loop-file.invariant.count)) ordered;
    }
