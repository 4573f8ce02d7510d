use Rattle.std.proofs.Common.{rules, ◌≡◌, Option, List, ℕ, ◌∙◌, sym, refl, ap, subst}
use Rattle.std.specs.Option.{option_copied}
use Rattle.rdf_types.specs.declared.records.RecKey.{RecKey}
use Rattle.rdf_model.specs.Contents.{nothing}
use Rattle.rdf_model.specs.Trail.{raw}
use Rattle.rdf_model.specs.Lines.{after_change}
use Rattle.active_txns.specs.Tells.{Tells}
use Rattle.tmf_core.specs.LeftLaws.{left_store}
use Rattle.tmf_core.specs.States.{tmf_trail, tmf_active}
use Rattle.tmf_core.proofs.TmfLaws.{runs_with, wrote, wrote_not, may_use}
use Rattle.tmf_core.proofs.tmf.Tmf.put.Goals as goal

pub returns-in_err-place : goal.returns-in_err-place
returns-in_err-place g c = wrote_not c.from_residual.ensures.0 (λ tells. left_store g.D.Disk.files c.in_use_is_durable.ensures c.in_use_stands.ensures c.args.self.now.store _ (c.requires.runs tells).stored _ refl) (search rules) (search rules) (search rules)

pub returns-in_err-found : goal.returns-in_err-found
returns-in_err-found g c = wrote_not c.from_residual-in_err-found.ensures.0 (λ tells. left_store g.D.Disk.files c.in_use_is_durable.ensures c.in_use_stands.ensures c.args.self.now.store _ (c.requires.runs tells).stored _ refl) (search rules) (search rules) (search rules)

pub returns-in_err-after : goal.returns-in_err-after
returns-in_err-after g c = wrote_not c.from_residual-in_err-after.ensures.0 (λ tells. left_store g.D.Disk.files c.in_use_is_durable.ensures c.in_use_stands.ensures c.args.self.now.store _ (c.requires.runs tells).stored _ refl) (search rules) (search rules) (search rules)

pub returns-in_err-note : goal.returns-in_err-note
returns-in_err-note g c = wrote_not c.from_residual-in_err-note.ensures.0 (λ tells. left_store g.D.Disk.files c.in_use_is_durable.ensures c.in_use_stands.ensures c.args.self.now.store _ (c.requires.runs tells).stored _ refl) (search rules) (search rules) (search rules)

pub returns : goal.returns
returns g c = wrote (λ tells.
    let old = c.requires.runs tells in
    let trail = tmf_trail c.args.self.now in
    let active = tmf_active c.args.self.now in
    let may = may_use c.args.self.now c.args.txn c.args.key.now (c.requires.may tells) in
    let place_is : c.in_ok-place.place ≡ c.args.key.now = c.in_ok-place.ensures in
    let after_is = c.in_ok-after.ensures in
    runs_with g.D.Disk.files _ _ _
    ((c.in_ok-change.ensures.ok tells).1 ∙ ap (λ (a : Option (List ℕ)). after_change trail c.args.txn c.args.key.now a) after_is)
    (c.in_ok-change.ensures.ok tells).0
    (c.change_runs.ensures trail active c.args.txn c.args.key.now (option_copied c.args.after) old.running may.runs may.mine)
    (subst (λ (k : RecKey). Tells c.note.new.self (after_change trail c.args.txn k (option_copied c.args.after)) active) place_is
    (c.in_ok-note.ensures.tells trail active (option_copied c.args.after) old.tells old.running may.runs
    (c.in_ok-found.ensures ∙ c.as_ref.ensures.value ∙ c.requires.reads tells ∙ sym (ap (λ (k : RecKey). raw nothing trail k) place_is)))))
    (search rules) (search rules) (search rules)
