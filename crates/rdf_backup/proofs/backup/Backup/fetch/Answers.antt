use Rattle.std.proofs.Common.{rules, Result, ◌∙◌, refl, sym, subst, ap, ℕ, ◌-◌, IfOk}
use Rattle.std.proofs.lemmas.Result.{err_from_is_err_and}
use Rattle.node_faults.specs.Faults.{NamesOwn}
use Rattle.rdf_backup.specs.Parts.{noted_since}
use Rattle.rdf_backup.specs.Answers.{IsPlain}
use Rattle.rdf_backup.proofs.FetchLaws.{fell, copied_breaks, copied_goes, not_copied_ends, not_copied_named, not_copied_plain}
use Rattle.node_faults.specs.declared.NodeFault.{NodeFault}
use Rattle.rdf_core.specs.declared.replies.Reply.{Reply}
use Rattle.rdf_core.specs.declared.replies.Reply.TheVariants.{Number}
use Rattle.rdf_backup.specs.Refusals.{IsNumber}
use Rattle.rdf_backup.proofs.RefusalLaws.{unpurged}
use Rattle.image_disks.specs.Values.{received, kept}
use Rattle.rdf_backup.specs.States.{value_of}
use Rattle.rdf_backup.proofs.backup.Backup.fetch.Goals as goal

pub returns-in_err-note_since-in-Ok-clause-ends : goal.returns-in_err-note_since-in-Ok-clause-ends
returns-in_err-note_since-in-Ok-clause-ends g c = λ tells w node from stops lead_is lead_serves serves entries.
    let p = err_from_is_err_and c.from_residual.result c.from_residual.ensures.1 in
    fell g.D.Disk.files w node from c.args.self.now c.args.lead.now stops lead_is serves c.from_residual.result p.0 _ p.1
    (copied_breaks g.D.Disk.files w node from c.args.self.now c.args.lead.now stops lead_is serves c.requires.taken c.requires.lead_taken c.in-Ok.ensures.refusal lead_serves c.requires.same _ c.in-Ok.ensures.layout (c.in-Ok.ensures.ok tells) (c.in-Ok.ensures.value tells)
    (c.in-Ok.ensures.held tells w.trail) refl)

pub returns-in_ok-note_since-in-Ok-clause-ends : goal.returns-in_ok-note_since-in-Ok-clause-ends
returns-in_ok-note_since-in-Ok-clause-ends g c = λ tells w node from stops lead_is lead_serves serves entries.
    copied_goes g.D.Disk.files w node from c.args.self.now c.args.lead.now stops lead_is serves c.requires.taken c.requires.lead_taken c.in-Ok.ensures.refusal lead_serves c.requires.same _ c.in-Ok.ensures.layout (c.in-Ok.ensures.ok tells) (c.in-Ok.ensures.value tells)
    (c.in-Ok.ensures.held tells w.trail) refl (c.in-Ok.ensures.upto tells) c.args.part.now entries (c.in_ok-note_since-in-Ok.ensures ∙ ap (λ at. noted_since at c.args.self.now.txns c.args.part.now) c.received-at.ensures) c.in-Ok.n c.in-Ok.ensures.count

pub returns-in-Err-clause-ends : goal.returns-in-Err-clause-ends
returns-in-Err-clause-ends g c = λ tells w node from stops lead_is lead_serves serves entries.
    not_copied_ends g.D.Disk.files w node from c.args.self.now c.args.lead.now stops lead_is serves c.requires.taken c.requires.lead_taken c.one_value.ensures c.in-Err.fault c.not_copied.result _ lead_serves c.requires.same c.not_copied.ensures refl refl
    c.in-Err.ensures.refusal c.in-Err.ensures.purged (c.in-Err.ensures.err tells) (c.in-Err.ensures.left tells)

pub returns-in-Err-clause-keeps : goal.returns-in-Err-clause-keeps
returns-in-Err-clause-keeps g c =
    let volumes = c.args.self.now.trails.memory.layout.volumes in
    let named = subst (λ (r : Result Reply NodeFault). NamesOwn volumes r) (sym c.not_copied.ensures) (not_copied_named volumes c.in-Err.fault) in
    let plain = subst (λ (r : Result Reply NodeFault). IsPlain r) (sym c.not_copied.ensures) (not_copied_plain c.in-Err.fault) in
    search rules

pub returns-in_ok-note_since-in-Ok-clause-taken_in : goal.returns-in_ok-note_since-in-Ok-clause-taken_in
returns-in_ok-note_since-in-Ok-clause-taken_in g c = λ joins. ap (λ (n : ℕ). let s : Reply = Number n in s) c.in-Ok.ensures.count

pub returns-in-Err-clause-taken_in : goal.returns-in-Err-clause-taken_in
returns-in-Err-clause-taken_in g c = λ joins.
    let at = received (value_of c.args.self.now) in
    let says = IsNumber (received (value_of c.args.lead.now) - at) in
    subst (λ r. IfOk r says) (sym c.not_copied.ensures) (unpurged c.in-Err.fault at (kept (value_of c.args.lead.now)) says joins c.in-Err.ensures.refusal)
