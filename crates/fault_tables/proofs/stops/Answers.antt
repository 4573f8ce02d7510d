use Rattle.std.proofs.Common.{◌≡◌, ◌∙◌, ◌<◌, ◌↔◌, ◌+◌, ℕ, List, ◌∷◌, [], ◌++◌, ap, subst, sym, arith}
use Rattle.std.specs.List.{Contains}
use Rattle.rdf_disk.specs.declared.fault.Tear.TheVariants.{Keep, Mix}
use Rattle.fault_tables.specs.declared.Stop.{Stop}
use Rattle.fault_tables.proofs.TableLaws.{three, three_more}
use Rattle.fault_tables.proofs.stops.Goals as goal

pub loop-calls-preserved : goal.loop-calls-preserved
loop-calls-preserved c = λ stop.
    let one = c.in_ok-push.ensures.items in
    let two = c.in_ok-push-2.ensures.items in
    let is : c.push-in-loop-calls-2.new.self.items ≡ three c.loop-calls.table.items c.loop-calls.calls =
    c.in_ok-push-3.ensures.items
    ∙ ap (λ (l : List Stop). l ++ record { calls = c.loop-calls.calls; tear = Mix } ∷ []) (two ∙ ap (λ (l : List Stop). l ++ record { calls = c.loop-calls.calls; tear = Keep } ∷ []) one) in
    subst (λ (l : List Stop). Contains l stop ↔ (stop.calls < c.loop-calls.calls + 1)) (sym is) (three_more c.loop-calls.table.items c.loop-calls.calls c.loop-calls.invariant stop)

pub returns : goal.returns
returns c = λ stop.
    let done : c.loop-calls.calls ≡ c.args.limit = omega arith in
    subst (λ (n : ℕ). Contains c.loop-calls.table.items stop ↔ (stop.calls < n)) done (c.loop-calls.invariant stop)
