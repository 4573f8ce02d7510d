use Rattle.std.proofs.Common.{◌∙◌, refl, sym, arith}
use Rattle.rdf_types.specs.declared.records.Phase.TheVariants as phase
use Rattle.rdf_core.specs.Backup.{Taking}
use Rattle.rdf_backup.specs.States.{layout_of, state_of}
use Rattle.rdf_backup.proofs.MarkLaws.{taking_sound}
use Rattle.rdf_backup.proofs.TakeoverLaws.{is_under_way, marked_state, marked_serves, shown_taking, taking_breaks}
use Rattle.rdf_backup.proofs.backup.Backup.mark_taking.Goals as goal

pub returns-in-Taking-clause-state : goal.returns-in-Taking-clause-state
returns-in-Taking-clause-state g c = λ stops. is_under_way c.args.self.now (sym c.phase.ensures ∙ c.in-Taking.is) stops

pub returns-in-Ok-clause-serves : goal.returns-in-Ok-clause-serves
returns-in-Ok-clause-serves g c = λ tells trail serves.
    marked_serves c.args.self.now _ phase.Taking Taking (λ points. refl) c.in-Ok.ensures.value g.D.Disk.files trail c.in-Ok.ensures.stays.layout serves (c.in-Ok.ensures.ok tells) serves.usable.volume (c.in-Ok.ensures.held trail serves.over.holds)
    (λ stops. taking_sound (layout_of c.args.self.now) trail (state_of stops c.args.self.now) (serves.over.sound stops)) (shown_taking c.fits_taken.ensures g.D.Disk.files trail c.args.self.now serves) refl

pub returns-in-Ok-clause-state : goal.returns-in-Ok-clause-state
returns-in-Ok-clause-state g c = λ stops. marked_state c.args.self.now _ c.args.self.now.volumes.items phase.Taking Taking (λ points. refl) c.in-Ok.ensures.value stops

pub returns-in-Err-clause-breaks : goal.returns-in-Err-clause-breaks
returns-in-Err-clause-breaks g c = λ tells w node lost other serves.
    taking_breaks c.fits_taken.ensures g.D.Disk.files w node lost c.args.self.now serves c.one_value.ensures _ other refl (c.in-Err.ensures.err tells) (c.in-Err.ensures.left tells)

pub returns-in-Ok-clause-received : goal.returns-in-Ok-clause-received
returns-in-Ok-clause-received g c = c.in-Ok.ensures.value.top 0 (omega arith)
