use Rattle.std.proofs.Common.{◌∙◌, refl, sym, ap, Ok, Err}
use Rattle.rdf_types.specs.declared.layout.Layout.{Layout}
use Rattle.rdf_backup.specs.States.{value_of}
use Rattle.rdf_backup.proofs.DropLaws.{few_starts, all_told}
use Rattle.rdf_backup.proofs.PurgeLaws.{purge_refused, floor_found, purge_breaks, purge_goes}
use Rattle.rdf_core.specs.declared.replies.NoWhy.TheVariants as no
use Rattle.rdf_core.specs.declared.replies.Reply.TheVariants.{No, Number}
use Rattle.rdf_core.specs.Backup.{needs_volumes}
use Rattle.rdf_backup.specs.States.{state_of}
use Rattle.rdf_backup.specs.Refusals.{IsCount}
use Rattle.rdf_backup.proofs.RefusalLaws.{refused_so, let_through, number_is, purge_barred, purge_free}
use Rattle.rdf_backup.proofs.backup.Backup.purge.Goals as goal

pub returns-in-Taking-clause-ends : goal.returns-in-Taking-clause-ends
returns-in-Taking-clause-ends g c = λ tells w node points serves. purge_refused g.D.Disk.files w node c.args.self.now serves (sym c.phase.ensures ∙ c.in-Taking.is) _ refl refl refl

pub returns-in-Ok-clause-ends : goal.returns-in-Ok-clause-ends
returns-in-Ok-clause-ends g c = λ tells w node points serves.
    let old = c.args.self.now in
    let retain = c.layout.result.now.retain in
    purge_goes g.D.Disk.files w node c.args.self.now serves (λ taking. c.in_default.not-Taking (c.phase.ensures ∙ taking)) points retain c.purge_floor-floor.result (ap (λ (l : Layout). l.retain) c.layout.ensures)
    (floor_found g.D.Disk.files w node c.args.self.now serves (λ taking. c.in_default.not-Taking (c.phase.ensures ∙ taking)) points c.prefix_is_legal.ensures c.legal_is_proper.ensures c.low_of_notes.ensures c.low_of_part.ensures
    c.purge_floor-floor.result c.purge_floor-floor.ensures)
    _ (c.in-Ok.ensures.value tells) c.in-Ok.ensures.stays.layout (c.in-Ok.ensures.ok tells) (c.in-Ok.ensures.held tells w.trail serves.over.holds) refl refl
    c.from.result (c.from.ensures ∙ all_told c.in-Ok.n retain c.purge_floor-floor.result (value_of old).starts (few_starts old.trails.memory (g.D.Disk.files old.trails.disk) (c.requires.usable tells).trails) (c.in-Ok.ensures.count tells))

pub returns-in-Err-clause-ends : goal.returns-in-Err-clause-ends
returns-in-Err-clause-ends g c = λ tells w node points serves.
    purge_breaks g.D.Disk.files w node c.args.self.now serves (λ taking. c.in_default.not-Taking (c.phase.ensures ∙ taking)) points c.layout.result.now.retain c.purge_floor-floor.result (ap (λ (l : Layout). l.retain) c.layout.ensures)
    (floor_found g.D.Disk.files w node c.args.self.now serves (λ taking. c.in_default.not-Taking (c.phase.ensures ∙ taking)) points c.prefix_is_legal.ensures c.legal_is_proper.ensures c.low_of_notes.ensures c.low_of_part.ensures
    c.purge_floor-floor.result c.purge_floor-floor.ensures)
    c.one_value.ensures _ refl (c.in-Err.ensures.err tells) (c.in-Err.ensures.left tells)

pub returns-in-Taking-clause-judged : goal.returns-in-Taking-clause-judged
returns-in-Taking-clause-judged g c =
    let old = c.args.self.now in
    refused_so (needs_volumes (state_of 0 old)) no.Taking IsCount (Ok (No no.Taking)) old old (purge_barred old 0 (sym c.phase.ensures ∙ c.in-Taking.is)) refl refl

pub returns-in-Ok-clause-refused : goal.returns-in-Ok-clause-refused
returns-in-Ok-clause-refused g c = λ is. absurd (number_is c.from.result (Number c.from.result) is.0 refl is.1)

pub returns-in-Ok-clause-judged : goal.returns-in-Ok-clause-judged
returns-in-Ok-clause-judged g c =
    let_through (needs_volumes (state_of 0 c.args.self.now)) IsCount (Ok (Number c.from.result)) c.args.self.now _ (purge_free c.args.self.now 0 (λ taking. c.in_default.not-Taking (c.phase.ensures ∙ taking))) (c.from.result, refl)

pub returns-in-Err-clause-judged : goal.returns-in-Err-clause-judged
returns-in-Err-clause-judged g c =
    let_through (needs_volumes (state_of 0 c.args.self.now)) IsCount (Err c.at_disk.result) c.args.self.now _ (purge_free c.args.self.now 0 (λ taking. c.in_default.not-Taking (c.phase.ensures ∙ taking))) tt
