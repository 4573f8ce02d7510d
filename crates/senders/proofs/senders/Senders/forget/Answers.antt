use Rattle.std.proofs.Common.{ap, sym, subst, ◌∙◌}
use Rattle.by_node.specs.Each.{Each, every, map_each}
use Rattle.extractor.specs.Extract.{Progress}
use Rattle.rdf_core.specs.Sender.{forgotten}
use Rattle.senders.specs.Sending.{Sending, AreSenders}
use Rattle.senders.proofs.Messages.{forgotten_with}
use Rattle.senders.proofs.senders.Senders.forget.Goals as goal

pub returns : goal.returns
returns c = λ layout trail machine are.
    subst (λ (p : Each Progress). AreSenders layout trail (map_each forgotten machine) (record { progress = p; messages = c.self.inside.wire })) (sym (c.every-self-inside.ensures ∙ ap every c.new.ensures))
    (forgotten_with layout trail machine (record { progress = c.self.inside.extractors; messages = c.self.inside.wire }) (subst (λ (s : Sending). AreSenders layout trail machine s) (sym c.self.view_is) are))
