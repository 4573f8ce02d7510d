use Rattle.std.proofs.Common.{subst}
use Rattle.std.proofs.lemmas.Result.{IfOk-weaker}
use Rattle.rdf_codec.specs.VolumeReading.{volume_block_of}
use Rattle.rdf_volume.specs.declared.reading.Reading.{Reading}
use Rattle.rdf_volume.specs.Readings.{IsRead}
use Rattle.rdf_volume.proofs.ReadingLaws.{no_block, spells, spells_none}
use Rattle.rdf_volume.proofs.reading.next_payload.Goals as goal

pub returns-in-Ok : goal.returns-in-Ok
returns-in-Ok c = IfOk-weaker c.next_behind.result _ _ (λ found holds before is at_is.
    holds before c.args.payload.now c.args.at (record { at_is = at_is; spelled = spells (volume_block_of c.args.payload.now) c.in-Ok.block (c.in-Ok.ensures {u = tt}).exact })
    (subst (λ (r : Reading). IsRead r before) c.in-Complete.is is)) c.next_behind.ensures

pub returns : goal.returns
returns c = λ before is at_is.
    no_block before c.args.payload.now c.in-Err.fault (spells_none (volume_block_of c.args.payload.now) c.in-Err.fault (c.in-Err.ensures {u = tt}).exact c.in_default.not-NoMemory)
