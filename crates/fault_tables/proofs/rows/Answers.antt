use Rattle.std.proofs.Common.{◌≡◌, ◌∙◌, ◌<◌, ◌↔◌, ◌+◌, List, ◌∷◌, [], ◌++◌, length, take, take_all, get_or, IfSome, subst, sym, arith}
use Rattle.std.specs.List.{Contains}
use Rattle.std.proofs.lemmas.List.{take_more}
use Rattle.fault_tables.specs.declared.Row.{Row}
use Rattle.fault_tables.specs.declared.Stop.{Stop}
use Rattle.fault_tables.specs.Tables.{rows_of}
use Rattle.rdf_disk.specs.declared.fault.Tear.TheVariants.{Lose}
use Rattle.fault_tables.proofs.TableLaws.{rows_more}
use Rattle.fault_tables.proofs.rows.Goals as goal

pub loop-step-preserved : goal.loop-step-preserved
loop-step-preserved c = λ row.
    let items = c.deref-step-items.result.now in
    let i = c.loop-step.step-index in
    let first : Stop = record { calls = 0; tear = Lose } in
    let here : i < length items = omega arith in
    let more : take (i + 1) items ≡ take i items ++ get_or items i first ∷ [] = take_more items i first here in
    let all : (s : Stop) → Contains c.deref.result.now s ↔ (s.calls < c.args.restart_limit) =
    subst (λ (l : List Stop). (s : Stop) → Contains l s ↔ (s.calls < c.args.restart_limit)) (sym c.deref.ensures.value) c.in_ok-again.ensures in
    subst (λ (l : List Row). Contains l row ↔ (Contains (take (i + 1) items) row.step × IfSome row.restart (λ stop. stop.calls < c.args.restart_limit))) (sym c.in_ok-add_rows.ensures)
    (subst (λ (past : List Stop). Contains (c.loop-step.table.items ++ rows_of (get_or items i first) c.deref.result.now) row ↔ (Contains past row.step × IfSome row.restart (λ stop. stop.calls < c.args.restart_limit))) (sym more)
    (rows_more (get_or items i first) c.deref.result.now c.args.restart_limit all c.loop-step.table.items (take i items) c.loop-step.invariant row))

pub returns : goal.returns
returns c = λ row.
    let items = c.deref-step-items.result.now in
    let whole : take c.loop-step.step-index items ≡ c.in_ok-first.first.items = take_all c.loop-step.step-index items (omega arith) ∙ c.deref-step-items.ensures.value in
    let got = c.loop-step.invariant row in
    let all = c.in_ok-first.ensures row.step in (
      λ has. let in_both = got.0 has in (all.0 (subst (λ (l : List Stop). Contains l row.step) whole in_both.0), in_both.1),
      λ fits. got.1 (subst (λ (l : List Stop). Contains l row.step) (sym whole) (all.1 fits.0), fits.1),
    )
