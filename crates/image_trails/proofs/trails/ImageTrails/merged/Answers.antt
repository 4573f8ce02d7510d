use Rattle.std.proofs.Common.{ℕ, ◌≡◌, ◌<◌, ◌-◌, List, IfOk, length, take, map, subst, ◌∙◌, arith, Bor, ap}
use Rattle.std.specs.declared.alloc.Global.{Global}
use Rattle.std.specs.declared.collections.VecDeque.{VecDeque}
use Rattle.rdf_types.specs.declared.records.Stamped.{Stamped}
use Rattle.image_disks.specs.Spelled.{block_of}
use Rattle.image_disks.specs.Values.{listed, merged}
use Rattle.image_trails.specs.Lists.{AllRise, all_of}
use Rattle.image_trails.specs.Memory.{value_in}
use Rattle.image_trails.proofs.InUse.{lists_rise, four_tops, get_or_any}
use Rattle.image_trails.proofs.trails.ImageTrails.merged.Goals as goal

pub returns : goal.returns
returns g c = λ tells use_.
    let m = c.args.self.now.memory in
    let first : 0 < length m.tops.items = omega (arith, four_tops m) in
    let received_is = c.index.ensures ∙ get_or_any m.tops.items 0 c.index.result.now 0 first in
    let rises = lists_rise block_of m (g.D.Disk.files c.args.self.now.disk) use_ in
    let listed_is : map (λ (s : Bor Stamped). s.now) c.in_ok-lent.lent.items ≡ take c.args.most (listed (merged (value_in m)) c.args.from (c.index.result.now - c.args.from)) =
    subst (λ (l : List (VecDeque Stamped Global)). AllRise (map (λ v. v.items) l) → map (λ (s : Bor Stamped). s.now) c.in_ok-lent.lent.items ≡ take c.args.most (listed (all_of (map (λ v. v.items) l)) c.args.from (c.index.result.now - c.args.from)))
    c.deref.ensures.value c.in_ok-lent.ensures.entries rises in
    subst (λ (n : ℕ). IfOk c.copies_of.result (λ e. e.items ≡ take c.args.most (listed (merged (value_in m)) c.args.from (n - c.args.from)))) received_is
    (subst (λ (l : List Stamped). IfOk c.copies_of.result (λ e. e.items ≡ l)) (ap (λ (xs : List (Bor Stamped)). map (λ (s : Bor Stamped). s.now) xs) c.deref-2.ensures.value ∙ listed_is) c.copies_of.ensures)
