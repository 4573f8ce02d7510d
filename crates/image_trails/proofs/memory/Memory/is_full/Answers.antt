use Rattle.std.proofs.Common.{◌≡◌, ◌-◌, ◌<◌, Bool, true, ◌&&◌, nat_le, nat_lt, length, get_or, sym, ◌∙◌, ap, arith}
use Rattle.std.proofs.lemmas.Bool.{le-leb}
use Rattle.image_disks.specs.Values.{last_of}
use Rattle.image_trails.specs.Memory.{starts_of}
use Rattle.image_trails.proofs.InUse.{four_tops, get_or_any}
use Rattle.image_trails.proofs.memory.Memory.is_full.Goals as goal

pub returns : goal.returns
returns c =
    let m = c.args.self.now in
    let first : 0 < length m.tops.items = omega (arith, four_tops m) in
    let top_is : c.index.result.now ≡ get_or m.tops.items 0 0 = c.index.ensures ∙ get_or_any m.tops.items 0 c.index.result.now 0 first in
    let long : nat_le m.layout.extent (get_or m.tops.items 0 0 - last_of (starts_of m.generations)) ≡ true =
    le-leb m.layout.extent (get_or m.tops.items 0 0 - last_of (starts_of m.generations)) (omega (arith, top_is, c.last_start.ensures, c.saturating_sub-covered.ensures, c.if-covered-self.false)) in
    ap (λ (b : Bool). b && nat_lt m.last 1000000000) (sym long)
