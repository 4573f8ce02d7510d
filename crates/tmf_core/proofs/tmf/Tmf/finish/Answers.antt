use Rattle.std.proofs.Common.{rules, ◌≡◌, ◌∙◌, true, false, sym}
use Rattle.rdf_model.specs.Trail.{is_open}
use Rattle.tmf_core.specs.States.{tmf_trail, tmf_active}
use Rattle.tmf_core.proofs.TmfLaws.{runs_with, wrote}
use Rattle.tmf_core.proofs.EndLaws.{may_end, changed_open, commit_open, commit_closed}
use Rattle.tmf_core.proofs.tmf.Tmf.finish.Goals as goal

pub returns-then-not-changed : goal.returns-then-not-changed
returns-then-not-changed g c = wrote (λ tells.
    let old = c.requires.runs tells in
    let trail = tmf_trail c.args.self.now in
    let active = tmf_active c.args.self.now in
    let runs = may_end c.args.self.now c.args.txn (c.requires.active tells) in
    let closed : is_open c.args.txn trail ≡ false = sym (changed_open trail c.args.txn c.end.result (c.end.ensures.found trail active old.tells old.running runs)) ∙ sym c.has_changes-changed.ensures ∙ c.if-not-changed.true in
    runs_with g.D.Disk.files _ _ _ (commit_closed trail c.args.txn closed) old.stored (c.commit_runs.ensures trail active c.args.txn old.running) (c.end.ensures.commit trail active old.tells old.running runs)) (search rules) (search rules) (search rules)

pub returns : goal.returns
returns g c = wrote (λ tells.
    let old = c.requires.runs tells in
    let trail = tmf_trail c.args.self.now in
    let active = tmf_active c.args.self.now in
    let runs = may_end c.args.self.now c.args.txn (c.requires.active tells) in
    let opened : is_open c.args.txn trail ≡ true = sym (changed_open trail c.args.txn c.end.result (c.end.ensures.found trail active old.tells old.running runs)) ∙ sym c.has_changes-changed.ensures ∙ c.if-not-changed.false in
    runs_with g.D.Disk.files _ _ _ (c.in_ok-commit.ensures.trail ∙ commit_open trail c.args.txn opened) (c.in_ok-commit.ensures.ok tells) (c.commit_runs.ensures trail active c.args.txn old.running)
    (c.end.ensures.commit trail active old.tells old.running runs)) (search rules) (search rules) (search rules)
