use Rattle.std.proofs.Common.{ap, sym, subst, ◌∙◌}
use Rattle.extractor.specs.Extract.{after_rewind as rewound}
use Rattle.senders.specs.Sending.{Sending, AreSenders}
use Rattle.senders.proofs.Messages.{rewound_with}
use Rattle.senders.proofs.senders.Senders.rewind.Goals as goal

pub returns-clause-done : goal.returns-clause-done
returns-clause-done c = λ layout trail machine are.
    rewound_with layout trail machine (record { progress = c.self.inside.extractors; messages = c.self.inside.wire }) c.args.node c.rewind.new.self (c.rewind.ensures ∙ ap rewound c.get_mut.ensures.value)
    (subst (λ (s : Sending). AreSenders layout trail machine s) (sym c.self.view_is) are)
