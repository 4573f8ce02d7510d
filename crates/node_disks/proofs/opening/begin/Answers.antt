use Rattle.std.proofs.Common.{IfSome, subst}
use Rattle.std.specs.Prelude.{slice_get}
use Rattle.node_disks.specs.OpeningLaws.{split_first}
use Rattle.node_disks.proofs.opening.begin.Goals as goal

pub open-requires-clause-ready : goal.open-requires-clause-ready
open-requires-clause-ready g c =
    let split = split_first c.args.disks.items c.remove-first.new.self.items c.remove-first.result c.requires.some c.remove-first.ensures.value c.remove-first.ensures.items in
    subst (λ l. IfSome (slice_get l 0) (g.F.Opener.ready c.args.opener.now 0)) split c.requires.ready
