use Rattle.std.proofs.Common.{◌+◌, arith, refl, ◌∙◌}
use Rattle.std.proofs.lemmas.Option.{slice_get_read}
use Rattle.std.specs.Vec.{with_item}
use Rattle.tmf_core.proofs.StoreLaws.{usable, applied, not_applied, caused, caused_fine}
use Rattle.tmf_core.proofs.store.Store.apply.Goals as goal

pub apply-requires-clause-in_use : goal.apply-requires-clause-in_use
apply-requires-clause-in_use g c = λ tells.
    usable g.D.Disk.files c.args.self.now c.args.vol c.number-number.result c.index_mut-volume.result.now c.number-number.ensures.value
    (slice_get_read c.args.self.now.volumes.items _ c.number-number.result c.index_mut-volume.result.now refl (omega (arith, c.requires.there, c.number-number.ensures.value)) c.index_mut-volume.ensures.value)
    (c.requires.in_use tells)

pub returns-in-Ok-clause-ok : goal.returns-in-Ok-clause-ok
returns-in-Ok-clause-ok g c = λ tells.
    applied g.D.Disk.files c.args.self.now c.args.vol c.number-number.result c.args.change c.index_mut-volume.result.now c.apply.new.self (with_item c.args.self.now.volumes c.number-number.result c.apply.new.self) c.number-number.ensures.value
    (slice_get_read c.args.self.now.volumes.items _ c.number-number.result c.index_mut-volume.result.now refl (omega (arith, c.requires.there, c.number-number.ensures.value)) c.index_mut-volume.ensures.value)
    refl (c.in-Ok.ensures.ok tells) c.in-Ok.ensures.rows (c.in-Ok.ensures.restart ∙ c.len-restart.ensures)

pub returns-in-Ok-clause-cause : goal.returns-in-Ok-clause-cause
returns-in-Ok-clause-cause g c =
    caused_fine g.D.Disk.counts c.args.self.now c.number-number.result c.index_mut-volume.result.now c.apply.new.self (with_item c.args.self.now.volumes c.number-number.result c.apply.new.self) refl
    (slice_get_read c.args.self.now.volumes.items _ c.number-number.result c.index_mut-volume.result.now refl (omega (arith, c.requires.there, c.number-number.ensures.value)) c.index_mut-volume.ensures.value)
    c.in-Ok.ensures.cause

pub returns-clause-err : goal.returns-clause-err
returns-clause-err g c = λ tells.
    not_applied g.D.Disk.files c.args.self.now c.args.vol c.number-number.result c.args.change c.index_mut-volume.result.now c.apply.new.self (with_item c.args.self.now.volumes c.number-number.result c.apply.new.self) c.len-restart.result c.number-number.ensures.value
    (slice_get_read c.args.self.now.volumes.items _ c.number-number.result c.index_mut-volume.result.now refl (omega (arith, c.requires.there, c.number-number.ensures.value)) c.index_mut-volume.ensures.value)
    refl c.len-restart.ensures (c.in-Err.ensures.err tells)

pub returns-clause-cause : goal.returns-clause-cause
returns-clause-cause g c =
    caused g.D.Disk.counts c.args.self.now c.number-number.result (c.number-number.result + 1) c.index_mut-volume.result.now c.apply.new.self (with_item c.args.self.now.volumes c.number-number.result c.apply.new.self) c.in-Err.fault c.at_disk.result (omega arith) c.at_disk.ensures refl
    (slice_get_read c.args.self.now.volumes.items _ c.number-number.result c.index_mut-volume.result.now refl (omega (arith, c.requires.there, c.number-number.ensures.value)) c.index_mut-volume.ensures.value)
    c.in-Err.ensures.cause
