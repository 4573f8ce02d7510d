use Rattle.std.proofs.Common.{◌≡◌, ℕ, ◌+◌, ◌-◌, List, ◌++◌, map, subst, sym, arith, get_or, []}
use Rattle.rdf_types.specs.declared.records.Stamped.{Stamped}
use Rattle.image_disks.specs.Values.{listed}
use Rattle.image_disks.specs.Blocks.{found}
use Rattle.image_trails.proofs.Sorted.{gathered_all, gathered_more}
use Rattle.image_trails.proofs.lists.gather.Goals as goal

pub returns-in-None : goal.returns-in-None
returns-in-None c = λ rises.
    gathered_all (found (get_or (map (λ v. v.items) c.args.lists.now) c.args.trail [])) c.args.from c.loop-entries.at c.args.below c.args.most c.loop-entries.entries.items (c.loop-entries.invariant.so_far rises)
    (c.in-None.ensures rises) (omega (arith, c.loop-entries.invariant.few, c.loop-entries.entries.ok.0))

pub loop-entries-preserved : goal.loop-entries-preserved
loop-entries-preserved c = record {
  few = omega (arith, c.loop-entries-test.true, c.len.ensures, c.in_ok-push-in-Some.ensures.len);
  so_far = λ rises.
      let f = found (get_or (map (λ v. v.items) c.args.lists.now) c.args.trail []) in
      let from = c.args.from in
      let below = c.args.below in
      let s = c.in-Some.entry.now in
      let next = c.in-Some.ensures rises in
      let here : c.saturating_add-at.result ≡ s.pos + 1 = omega (arith, c.saturating_add-at.ensures, next.within, c.ranges.below.fits) in
      subst (λ (at : ℕ). listed f from (below - from) ≡ c.push.new.self.items ++ listed f at (below - at)) (sym here)
      (subst (λ (l : List Stamped). listed f from (below - from) ≡ l ++ listed f (s.pos + 1) (below - (s.pos + 1))) (sym c.in_ok-push-in-Some.ensures.items)
      (gathered_more f from c.loop-entries.at below c.args.most c.loop-entries.entries.items (c.loop-entries.invariant.so_far rises) s c.in_ok-try_clone-in-Some.field-0 c.in_ok-try_clone-in-Some.ensures next));
}
