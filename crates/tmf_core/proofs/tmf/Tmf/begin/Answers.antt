use Rattle.std.proofs.Common.{rules, refl, sym, ◌∙◌}
use Rattle.tmf_core.specs.LeftLaws.{left_store}
use Rattle.tmf_core.specs.States.{tmf_trail, tmf_active}
use Rattle.tmf_core.proofs.TmfLaws.{runs_with, fell}
use Rattle.tmf_core.proofs.tmf.Tmf.begin.Goals as goal

pub returns-in-Ok-clause-does : goal.returns-in-Ok-clause-does
returns-in-Ok-clause-does g c =
    let done = λ (tells : g.D.Disk.tells).
    let old = c.requires.runs tells c.if-self.false in
    let fresh = sym (c.is_used.ensures (tmf_trail c.args.self.now) (tmf_active c.args.self.now) old.tells) ∙ c.if-is_used.false in
    runs_with g.D.Disk.files _ _ _ refl old.stored (c.begin_runs.ensures (tmf_trail c.args.self.now) (tmf_active c.args.self.now) c.args.txn old.running fresh)
    (c.in-Ok.ensures.tells (tmf_trail c.args.self.now) (tmf_active c.args.self.now) old.tells fresh) in
    record {
      judged = search rules;
      leaves = done;
      runs = λ tells up. (done tells).runs;
      falls = search rules;
      kept = search rules;
      kinds = search rules;
      cause = search rules;
      sound = search rules;
    }

pub returns-in-Err-clause-does : goal.returns-in-Err-clause-does
returns-in-Err-clause-does g c = fell g.D.Disk.tells g.D.Disk.files g.D.Disk.counts _ _ _ _ _ c.args.self.now c.fall.new.self c.fall.result _ c.fall.ensures.told c.if-self.false c.fall.ensures.down (search rules)
    (λ tells. left_store g.D.Disk.files c.in_use_is_durable.ensures c.in_use_stands.ensures c.args.self.now.store c.fall.new.self.store (c.requires.runs tells c.if-self.false).stored _ c.fall.ensures.store)
    (search rules) (search rules) (search rules)
