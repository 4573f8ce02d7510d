use Rattle.std.proofs.Common.{◌+◌, List, drop, fold, ap, sym, subst, ◌∙◌}
use Rattle.rdf_types.specs.declared.records.Record.{Record}
use Rattle.primary_machine.specs.Backouts.{Fits, cut_at, backed_out}
use Rattle.primary_machine.proofs.CutLaws.{cut_fits, fits_cut, cut_step, fold_grows, backed_out_grows, next_txn, last_txns}
use Rattle.primary_machine.proofs.aborting.put_all_back.Goals as goal

pub loop-txn-preserved : goal.loop-txn-preserved
loop-txn-preserved c = λ old before w.
    let h = c.loop-txn.invariant old before w in
    let founds = c.args.founds.now in
    let rest = drop (c.loop-txn.txn-index + 1) c.args.txns.now in (
      c.in_ok-put_back_one.ensures.way old before h.0,
      λ f.
          let g = h.1 f in
          let new = c.in_ok-put_back_one.ensures.ok old before h.0 g.0 in (
            subst (Fits c.args.most) (sym new) (fits_cut c.args.most _),
            cut_step c.args.most (λ (l : List Record). fold (backed_out founds) l rest) (backed_out founds c.loop-txn.trail.items c.txn-item.result) c.put_back_one.new.trail.items _ _ (fold_grows (backed_out founds) (backed_out_grows founds) rest) new
                (sym (ap (λ ts. cut_at c.args.most (fold (backed_out founds) c.loop-txn.trail.items ts)) (next_txn c.args.txns.now c.loop-txn.txn-index c.txn-item.result c.loop-txn-test.true c.txn-item.is)) ∙ g.1),
          ),
    )

pub returns-in_err-put_back_one-clause-way : goal.returns-in_err-put_back_one-clause-way
returns-in_err-put_back_one-clause-way c = λ old before w. c.in_err-put_back_one.ensures.way old before (c.loop-txn.invariant old before w).0

pub returns-clause-ok : goal.returns-clause-ok
returns-clause-ok c = λ old before w f.
    let g = (c.loop-txn.invariant old before w).1 f in
    sym (cut_fits c.args.most c.loop-txn.trail.items g.0)
    ∙ sym (ap (λ ts. cut_at c.args.most (fold (backed_out c.args.founds.now) c.loop-txn.trail.items ts)) (last_txns c.args.txns.now c.loop-txn.txn-index c.loop-txn-test.false)) ∙ g.1

pub returns-clause-way : goal.returns-clause-way
returns-clause-way c = λ old before w. (c.loop-txn.invariant old before w).0
