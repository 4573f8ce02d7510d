use Rattle.std.proofs.Common.{◌≡◌, length, min, ap, sym, ◌∙◌}
use Rattle.std.specs.FinMap as map
use Rattle.std.specs.Ordering.{nat_cmp}
use Rattle.std.specs.Cmp.{nat_cmp_total}
use Rattle.std.proofs.lemmas.Map.Lookups.{exact_unsigned}
use Rattle.rdf_types.specs.MapViews.{entries-ordered}
use Rattle.active_txns.proofs.active.Active.count.Goals as goal

pub returns : goal.returns
returns c =
    let len_is : c.len.result ≡ map.len c.args.self.now =
    c.len.ensures.len
    ∙ ap length (sym (entries-ordered nat_cmp nat_cmp_total exact_unsigned c.self.inside.by_txn.entries c.len.ensures.ordered))
    ∙ sym (map.len-entries (map.from_entries c.self.inside.by_txn.entries))
    ∙ ap map.len c.self.view_is in
    c.min.ensures ∙ ap (λ n. min n 4294967295) len_is
