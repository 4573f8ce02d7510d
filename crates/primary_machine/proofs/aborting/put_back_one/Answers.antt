use Rattle.std.proofs.Common.{◌≡◌, [], ◌∷◌, ◌++◌, OnOk, ap, subst}
use Rattle.std.specs.FinMap as map
use Rattle.rdf_types.specs.declared.records.Record.TheVariants.{Abort}
use Rattle.rdf_model.specs.Lines.{put_back}
use Rattle.active_txns.specs.Founds.{FirstBefore, found_or_none}
use Rattle.primary_machine.specs.Backouts.{cut_at}
use Rattle.primary_machine.proofs.CutLaws.{pushed_alone}
use Rattle.primary_machine.proofs.FoundLaws.{none_listed}
use Rattle.primary_machine.proofs.aborting.put_back_one.Goals as goal

pub returns-in-None-clause-ok : goal.returns-in-None-clause-ok
returns-in-None-clause-ok c = λ old before w f.
    pushed_alone c.push_abort.result c.args.most c.args.trail.now.items c.push_abort.new.trail.items c.args.founds.now c.args.txn (none_listed c.args.founds.now c.args.txn c.in-None.ensures) f c.push_abort.ensures.ok

pub returns-in-Some-clause-ok : goal.returns-in-Some-clause-ok
returns-in-Some-clause-ok c = λ old before w f.
    subst (λ (found : FirstBefore). OnOk c.put_back_and_abort.result (c.put_back_and_abort.new.trail.items ≡ cut_at c.args.most (put_back c.args.txn c.args.trail.now.items (map.entries found) ++ Abort c.args.txn ∷ [])))
    (ap found_or_none c.in-Some.ensures)
    (c.put_back_and_abort.ensures.ok old before w f)
