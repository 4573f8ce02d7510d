use Rattle.std.proofs.Common.{refl}
use Rattle.rdf_types.specs.declared.records.Record.TheVariants.{Commit}
use Rattle.tmf_core.proofs.ChangeLaws.{outcome_ok, outcome_err}
use Rattle.tmf_core.proofs.store.Store.commit.Goals as goal

pub returns-clause-ok : goal.returns-clause-ok
returns-clause-ok g c = λ tells.
    outcome_ok (Commit c.args.txn) (λ f. refl) (λ n. tt) g.D.Disk.files c.args.self.now c.append.new.self c.append.result (c.requires.stored tells) c.append.ensures.ok c.append.ensures.volumes (c.append.ensures.in_use tells)
    (c.append.ensures.alone tells)

pub returns-clause-err : goal.returns-clause-err
returns-clause-err g c = λ tells.
    outcome_err g.D.Disk.files c.in_use_is_durable.ensures c.in_use_stands.ensures c.args.self.now (Commit c.args.txn) c.append.new.self c.append.result (c.requires.stored tells) c.append.ensures.volumes (c.append.ensures.err tells)
