use Rattle.std.proofs.Common.{rules, ◌∙◌}
use Rattle.std.specs.FinMap.{entries}
use Rattle.rdf_disk.specs.AnswerLaws.{on_err}
use Rattle.tmf_core.specs.Stores.{trail_in}
use Rattle.active_txns.specs.FoundLaws.{fewer}
use Rattle.tmf_core.proofs.Backs.{one_more, left_in_all}
use Rattle.tmf_core.proofs.backout.put_all_back.Goals as goal

pub returns-in_err-put_one_back-clause-err : goal.returns-in_err-put_one_back-clause-err
returns-in_err-put_one_back-clause-err g c = λ tells.
    let so_far = c.loop-key.invariant.so_far tells in
    on_err c.from_residual.result _
    (left_in_all g.D.Disk.files c.put_one_back.new.store c.args.txn (trail_in c.args.store.now) (trail_in c.loop-key.store) (entries c.args.found) (entries c.loop-key.found) (c.in-Some.key, c.in-Some.first) (entries c.pop.new.self) so_far.added
    so_far.ends c.in-Some.ensures.some (c.in_err-put_one_back.ensures.err tells))

pub loop-key-smaller : goal.loop-key-smaller
loop-key-smaller g c = fewer c.loop-key.found c.pop.new.self (c.in-Some.key, c.in-Some.first) c.in-Some.ensures.some

pub loop-key-preserved : goal.loop-key-preserved
loop-key-preserved g c = record {
  so_far = λ tells.
      one_more g.D.Disk.files c.args.txn c.args.store.now (entries c.args.found) c.loop-key.store (entries c.loop-key.found) (c.in-Some.key, c.in-Some.first) (entries c.pop.new.self) c.put_one_back.new.store (c.loop-key.invariant.so_far tells)
      c.in-Some.ensures.some (c.in_ok-put_one_back.ensures.ok tells) c.put_one_back.ensures.many;
  many = c.put_one_back.ensures.many ∙ c.loop-key.invariant.many;
  counts = search rules;
}
