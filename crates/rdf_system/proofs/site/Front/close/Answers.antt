use Rattle.std.proofs.Common.{◌+◌, ◌++◌, List, length, sym, ap, ◌∙◌, arith}
use Rattle.std.proofs.lemmas.List.{length-append}
use Rattle.primary_node.specs.Nodes.{disks_at}
use Rattle.rdf_system.proofs.ShutLaws.{alone_is}
use Rattle.rdf_system.proofs.site.Front.close.Goals as goal

pub together-requires-clause-roomy : goal.together-requires-clause-roomy
together-requires-clause-roomy g c =
    let site = c.args.self.site in
    let own = disks_at c.args.self.node in
    let many = ap (λ (l : List g.row.D.Denot). length l + length site.spare.items) c.close.ensures ∙ sym (length-append own site.spare.items) ∙ ap (λ (l : List g.row.D.Denot). length l) (sym (alone_is own site.spare.items site.node c.requires.alone)) ∙ c.requires.many in
    omega (arith, many, c.requires.room.roomy)

pub returns : goal.returns
returns g c =
    let site = c.args.self.site in
    c.together.ensures ∙ ap (λ (l : List g.row.D.Denot). l ++ site.spare.items) c.close.ensures ∙ sym (alone_is (disks_at c.args.self.node) site.spare.items site.node c.requires.alone)
