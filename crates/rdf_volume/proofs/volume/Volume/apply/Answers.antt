use Rattle.std.proofs.Common.{inr, ◌+◌, rules}
use Rattle.rdf_disk.specs.AnswerLaws.{on_err}
use Rattle.rdf_volume.specs.Changes.{changed}
use Rattle.rdf_volume.specs.InUse.{counted}
use Rattle.rdf_volume.specs.StandingLaws.{file_durably}
use Rattle.rdf_volume.proofs.TableLaws.{table_on, tabled_as}
use Rattle.rdf_volume.proofs.volume.Volume.apply.Goals as goal

pub append_batch-requires-clause-in_use : goal.append_batch-requires-clause-in_use
append_batch-requires-clause-in_use g c = λ tells. (c.args.self.now.table.shown.rows, (c.args.self.now.restart, (c.args.self.now.batches, (c.requires.in_use tells).in_use)))

pub returns-in_err-append_batch : goal.returns-in_err-append_batch
returns-in_err-append_batch g c = record { does = record { ok = search rules; err = λ tells. on_err c.from_residual.result _ (c.in_err-append_batch.ensures.err tells c.args.self.now.table.shown.rows c.args.self.now.restart c.args.self.now.batches (c.requires.in_use tells).in_use); cause = search rules }; rows = search rules; restart = search rules; batches = search rules; file = search rules; kept = search rules; sound = search rules }

pub returns-in_err-set_all : goal.returns-in_err-set_all
returns-in_err-set_all g c = record { does = record { ok = search rules; err = λ tells. on_err c.from_residual-in_err-set_all.result _ (λ contents may. inr (file_durably (g.D.Disk.files c.append_batch.new.disk) c.append_batch.new.log.file c.append_batch.new.log.end (changed c.args.self.now.table.shown.rows c.args.batch.now) c.args.restart (counted (c.args.self.now.batches + 1)) (c.in_ok-append_batch.ensures.ok tells c.args.self.now.table.shown.rows c.args.self.now.restart c.args.self.now.batches (c.requires.in_use tells).in_use).0 contents may)); cause = search rules }; rows = search rules; restart = search rules; batches = search rules; file = search rules; kept = search rules; sound = search rules }

pub returns : goal.returns
returns g c = record {
  does = record {
    ok = λ tells.
        let u = c.requires.in_use tells in
        let w = c.in_ok-append_batch.ensures.ok tells c.args.self.now.table.shown.rows c.args.self.now.restart c.args.self.now.batches u.in_use in
        tabled_as (g.D.Disk.files c.append_batch.new.disk) c.append_batch.new.log.file c.append_batch.new.log.end c.set_all.new.self (changed c.args.self.now.table.shown.rows c.args.batch.now) c.args.restart (counted (c.args.self.now.batches + 1)) c.saturating_add-self.result
        c.in_ok-set_all.ensures.shown c.saturating_add-self.ensures w.0
        (table_on c.args.self.now.table c.set_all.new.self c.args.batch.now u.in_use.log.payloads w.0.log.payloads c.set_all.ensures.base.0 c.set_all.ensures.base.1 c.in_ok-set_all.ensures.shown c.in_ok-set_all.ensures.overlay w.1 u.table_is);
    err = search rules;
    cause = search rules;
  };
  rows = search rules;
  restart = search rules;
  batches = search rules;
  file = search rules;
  kept = search rules;
  sound = λ damaged at e. cc;
}
