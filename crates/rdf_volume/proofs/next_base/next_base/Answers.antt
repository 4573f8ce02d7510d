use Rattle.std.proofs.Common.{refl, ap}
use Rattle.std.proofs.lemmas.Result.{on_err_weaker, IfOk-weaker}
use Rattle.rdf_disk.specs.AnswerLaws.{on_err}
use Rattle.rdf_gatelog.specs.Adding.{AdditionPlace}
use Rattle.rdf_volume.proofs.FillingLaws.{fills_from}
use Rattle.rdf_volume.proofs.next_base.next_base.Goals as goal

pub start_base-requires-clause-in_use : goal.start_base-requires-clause-in_use
start_base-requires-clause-in_use g c = λ tells. let use_it = c.requires.in_use tells in (c.args.log.now.end, (c.args.table.now.shown.rows, (c.args.restart, (use_it.0, use_it.1.in_use))))

pub returns-in_err-next-clause-err : goal.returns-in_err-next-clause-err
returns-in_err-next-clause-err g c = λ tells. let use_it = c.requires.in_use tells in
    on_err c.from_residual.result _ (c.in_err-next.ensures.err tells c.args.log.now.end c.args.table.now.shown.rows c.args.restart use_it.0 use_it.1.in_use)

pub push_table-requires : goal.push_table-requires
push_table-requires g c = record {
  fills = λ tells. let use_it = c.requires.in_use tells in (
    record { file = c.args.log.now.file; rows = c.args.table.now.shown.rows; restart = c.args.restart },
    fills_from c.args.log.now c.args.table.now c.args.restart use_it.0 (g.D.Disk.files c.args.disk.now) (g.D.Disk.files c.start_base.new.disk) use_it.1 c.in_ok-next.next c.in_ok-next.ensures.file
        (c.in_ok-next.ensures.ok tells c.args.log.now.end c.args.table.now.shown.rows c.args.restart use_it.0 use_it.1.in_use) c.start-writer.result (ap (λ (p : AdditionPlace). p.file) c.start-writer.ensures.place)
        (λ logs. c.start-writer.ensures.none logs (g.D.Disk.files c.start_base.new.disk)),
  );
}

pub returns-in_err-push_table-clause-err : goal.returns-in_err-push_table-clause-err
returns-in_err-push_table-clause-err g c = λ tells. let use_it = c.requires.in_use tells in
    on_err c.from_residual-in_err-push_table.result _ (c.in_err-push_table.ensures.err tells (record { file = c.args.log.now.file; rows = c.args.table.now.shown.rows; restart = c.args.restart })
    (fills_from c.args.log.now c.args.table.now c.args.restart use_it.0 (g.D.Disk.files c.args.disk.now) (g.D.Disk.files c.start_base.new.disk) use_it.1 c.in_ok-next.next c.in_ok-next.ensures.file
    (c.in_ok-next.ensures.ok tells c.args.log.now.end c.args.table.now.shown.rows c.args.restart use_it.0 use_it.1.in_use) c.start-writer.result (ap (λ (p : AdditionPlace). p.file) c.start-writer.ensures.place)
    (λ logs. c.start-writer.ensures.none logs (g.D.Disk.files c.start_base.new.disk))))

pub finish_base-requires : goal.finish_base-requires
finish_base-requires g c = record {
  filled = λ tells. let use_it = c.requires.in_use tells in (
    record { file = c.args.log.now.file; rows = c.args.table.now.shown.rows; restart = c.args.restart },
    c.in_ok-push_table.ensures.ok tells (record { file = c.args.log.now.file; rows = c.args.table.now.shown.rows; restart = c.args.restart })
        (fills_from c.args.log.now c.args.table.now c.args.restart use_it.0 (g.D.Disk.files c.args.disk.now) (g.D.Disk.files c.start_base.new.disk) use_it.1 c.in_ok-next.next c.in_ok-next.ensures.file
        (c.in_ok-next.ensures.ok tells c.args.log.now.end c.args.table.now.shown.rows c.args.restart use_it.0 use_it.1.in_use) c.start-writer.result (ap (λ (p : AdditionPlace). p.file) c.start-writer.ensures.place)
        (λ logs. c.start-writer.ensures.none logs (g.D.Disk.files c.start_base.new.disk))),
  );
}

pub returns-clause-ok : goal.returns-clause-ok
returns-clause-ok g c = λ tells. let use_it = c.requires.in_use tells in
    IfOk-weaker c.finish_base.result _ _ (λ base holds.
    holds (record { file = c.args.log.now.file; rows = c.args.table.now.shown.rows; restart = c.args.restart }) refl
    (c.in_ok-push_table.ensures.ok tells (record { file = c.args.log.now.file; rows = c.args.table.now.shown.rows; restart = c.args.restart })
    (fills_from c.args.log.now c.args.table.now c.args.restart use_it.0 (g.D.Disk.files c.args.disk.now) (g.D.Disk.files c.start_base.new.disk) use_it.1 c.in_ok-next.next c.in_ok-next.ensures.file
    (c.in_ok-next.ensures.ok tells c.args.log.now.end c.args.table.now.shown.rows c.args.restart use_it.0 use_it.1.in_use) c.start-writer.result (ap (λ (p : AdditionPlace). p.file) c.start-writer.ensures.place)
    (λ logs. c.start-writer.ensures.none logs (g.D.Disk.files c.start_base.new.disk))))) (c.finish_base.ensures.ok tells)

pub returns-clause-err : goal.returns-clause-err
returns-clause-err g c = λ tells. let use_it = c.requires.in_use tells in
    on_err_weaker c.finish_base.result (λ holds.
    holds (record { file = c.args.log.now.file; rows = c.args.table.now.shown.rows; restart = c.args.restart }) refl
    (c.in_ok-push_table.ensures.ok tells (record { file = c.args.log.now.file; rows = c.args.table.now.shown.rows; restart = c.args.restart })
    (fills_from c.args.log.now c.args.table.now c.args.restart use_it.0 (g.D.Disk.files c.args.disk.now) (g.D.Disk.files c.start_base.new.disk) use_it.1 c.in_ok-next.next c.in_ok-next.ensures.file
    (c.in_ok-next.ensures.ok tells c.args.log.now.end c.args.table.now.shown.rows c.args.restart use_it.0 use_it.1.in_use) c.start-writer.result (ap (λ (p : AdditionPlace). p.file) c.start-writer.ensures.place)
    (λ logs. c.start-writer.ensures.none logs (g.D.Disk.files c.start_base.new.disk))))) (c.finish_base.ensures.err tells)
