use Rattle.std.proofs.Common.{Option, inl, inr, refl, sym, ap, subst}
use Rattle.rdf_types.specs.declared.records.Node.{Node}
use Rattle.rdf_core.specs.declared.replies.NoWhy.{NoWhy}
use Rattle.rdf_core.specs.declared.replies.NoWhy.TheVariants.{Down}
use Rattle.rdf_core.specs.declared.replies.Reply.{Reply}
use Rattle.rdf_core.specs.declared.replies.Reply.TheVariants.{No}
use Rattle.rdf_system.specs.Sessions.{IsPlacedAt}
use Rattle.rdf_system.proofs.Quiet.{read_of_stopped, read_refused, stopped_is}
use Rattle.rdf_system.proofs.system.System.read.Goals as goal

pub received-requires-clause-placed : goal.received-requires-clause-placed
received-requires-clause-placed g c = subst (λ (o : Option Node). IsPlacedAt c.args.self.now.layout o) c.requires.open c.requires.serves.whole.session

pub returns-in-Some : goal.returns-in-Some
returns-in-Some g c = λ key. read_refused c.requires.serves c.stands.ensures c.args.node c.in-Refused.node key c.in-Refused.bar c.why.result c.requires.open c.in-Refused.is (inl (ap (λ (w : NoWhy). let r : Reply = No w in r) c.why.ensures))
    (inl (sym c.in-Some.ensures.up, c.why.ensures)) (λ t layout s is. inl ((c.in-Some.ensures.so_far t layout s is).0, c.why.ensures))

pub returns-in-None : goal.returns-in-None
returns-in-None g c = λ key. read_refused c.requires.serves c.stands.ensures c.args.node c.in-Refused.node key c.in-Refused.bar Down c.requires.open c.in-Refused.is (inr refl) (inr (sym c.in-None.ensures.up, refl)) (λ t layout s is. inr (c.in-None.ensures.so_far t layout s is, refl))

pub returns-in-Open : goal.returns-in-Open
returns-in-Open g c = λ key. read_of_stopped c.requires.serves c.stands.ensures c.args.node c.in-Open.node key c.requires.held (stopped_is c.requires.serves c.stands.ensures c.in-Open.node c.in-Open.stopped c.requires.idle c.in-Open.is) c.requires.open
