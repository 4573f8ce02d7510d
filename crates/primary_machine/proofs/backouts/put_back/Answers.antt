use Rattle.std.proofs.Common.{List, ap, sym, subst, ◌∙◌}
use Rattle.std.specs.FinMap as map
use Rattle.rdf_types.specs.declared.records.Record.{Record}
use Rattle.rdf_types.specs.Places.{place_cmp, place_cmp_total, place_cmp_exact}
use Rattle.rdf_types.specs.MapViews.{entries-ordered}
use Rattle.rdf_model.specs.Lines.{put_back}
use Rattle.primary_machine.specs.Backouts.{Fits, cut_at}
use Rattle.primary_machine.proofs.CutLaws.{cut_fits, fits_cut, cut_step, put_back_grows}
use Rattle.primary_machine.proofs.backouts.put_back.Goals as goal

pub loop-key-init : goal.loop-key-init
loop-key-init c = λ old before w. (
  w,
  λ h. (
    h,
    ap (λ es. cut_at c.args.most (put_back c.args.txn c.args.trail.now.items es)) (c.into_iter-key-iterator.ensures.into_iter_gives ∙ c.iter-key-items.ensures.rest
        ∙ sym (entries-ordered place_cmp place_cmp_total place_cmp_exact c.places.result.now.entries c.iter-key-items.ensures.ordered)
        ∙ ap map.entries c.places.ensures),
  ),
)

pub loop-key-preserved : goal.loop-key-preserved
loop-key-preserved c = λ old before w.
    let h = c.loop-key.invariant old before w in (
      c.in_ok-put_one_back.ensures.way old before h.0,
      λ f.
          let g = h.1 f in
          let new = c.in_ok-put_one_back.ensures.ok old before h.0 g.0 in (
            subst (Fits c.args.most) (sym new) (fits_cut c.args.most _),
            cut_step c.args.most (λ (l : List Record). put_back c.args.txn l c.next.new.self) c.loop-key.trail.items c.put_one_back.new.trail.items _ _ (put_back_grows c.args.txn c.next.new.self) new
                (sym (ap (λ es. cut_at c.args.most (put_back c.args.txn c.loop-key.trail.items es)) c.in-Some.ensures.steps) ∙ g.1),
          ),
    )

pub returns-in_err-put_one_back-clause-way : goal.returns-in_err-put_one_back-clause-way
returns-in_err-put_one_back-clause-way c = λ old before w. c.in_err-put_one_back.ensures.way old before (c.loop-key.invariant old before w).0

pub returns-clause-ok : goal.returns-clause-ok
returns-clause-ok c = λ old before w f.
    let g = (c.loop-key.invariant old before w).1 f in
    sym (cut_fits c.args.most c.loop-key.trail.items g.0) ∙ sym (ap (λ es. cut_at c.args.most (put_back c.args.txn c.loop-key.trail.items es)) c.in-None.ensures.steps.0) ∙ g.1

pub returns-clause-way : goal.returns-clause-way
returns-clause-way c = λ old before w. (c.loop-key.invariant old before w).0
