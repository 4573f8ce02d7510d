use Rattle.std.proofs.Common.{ℕ, ◌≡◌, ◌<◌, ◌-◌, List, IfOk, length, map, subst, ◌∙◌, arith, Bor, Result, Ok, Err, take, ap}
use Rattle.std.specs.declared.alloc.Global.{Global}
use Rattle.std.specs.declared.collections.VecDeque.{VecDeque}
use Rattle.rdf_types.specs.declared.records.Stamped.{Stamped}
use Rattle.image_disks.specs.Spelled.{block_of}
use Rattle.image_disks.specs.Values.{listed, merged}
use Rattle.image_trails.specs.Lists.{AllRise, all_of}
use Rattle.image_trails.specs.Memory.{value_in}
use Rattle.std.specs.declared.vec.Vec.{Vec}
use Rattle.std.proofs.lemmas.List.{length-map}
use Rattle.image_trails.proofs.Sorted.{below_limit}
use Rattle.image_trails.proofs.InUse.{lists_rise, four_tops, get_or_any}
use Rattle.image_trails.proofs.trails.ImageTrails.lent.Goals as goal

pub returns-clause-entries : goal.returns-clause-entries
returns-clause-entries g c = λ tells use_.
    let m = c.args.self.now.memory in
    let first : 0 < length m.tops.items = omega (arith, four_tops m) in
    let received_is = c.index.ensures ∙ get_or_any m.tops.items 0 c.index.result.now 0 first in
    let rises = lists_rise block_of m (g.D.Disk.files c.args.self.now.disk) use_ in
    subst (λ (n : ℕ). IfOk c.lend.result (λ e. map (λ s. s.now) e.items ≡ listed (merged (value_in m)) c.args.from (n - c.args.from))) received_is
    (all_lent c.lend.result (listed (merged (value_in m)) c.args.from (c.index.result.now - c.args.from))
    (subst (λ (l : List (VecDeque Stamped Global)). AllRise (map (λ v. v.items) l) → IfOk c.lend.result (λ e. map (λ s. s.now) e.items ≡ take 18446744073709551615 (listed (all_of (map (λ v. v.items) l)) c.args.from (c.index.result.now - c.args.from))))
    c.deref.ensures.value c.lend.ensures.entries rises))
  where
    all_lent : {E : Type 0} (r : Result (Vec (Bor Stamped) Global) E) (l : List Stamped) → IfOk r (λ e. map (λ s. s.now) e.items ≡ take 18446744073709551615 l) → IfOk r (λ e. map (λ s. s.now) e.items ≡ l)
    all_lent (Ok e) l is = is ∙ below_limit 18446744073709551615 l (omega (arith, ap (λ (k : List Stamped). length k) is, length-map e.items (λ (s : Bor Stamped). s.now), e.ok.0, e.ok.1, e.small))
    all_lent (Err e) l is = is
