use Rattle.std.proofs.Common.{cond, [], ◌∷◌, ◌++◌, ap, sym, ◌∙◌}
use Rattle.rdf_types.specs.declared.records.Record.TheVariants.{Commit}
use Rattle.primary_machine.proofs.FoundLaws.{found_commit, by_parts}
use Rattle.primary_machine.proofs.images.append_commit.Goals as goal

pub returns-clause-found : goal.returns-clause-found
returns-clause-found c =
    let trail = c.args.trail.now.items in
    let t = c.args.txn in
    let opened = c.requires.opened ∙ sym c.contains.ensures ∙ c.if-not-contains.false in
    by_parts _ _ _ _ (c.in_ok-push.ensures.items ∙ sym (ap (λ b. cond b (trail ++ Commit t ∷ []) trail) opened)) c.take.ensures.after (found_commit trail c.args.founds.now t opened c.requires.found)
