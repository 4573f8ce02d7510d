use Rattle.std.proofs.Common.{ap, ◌∙◌}
use Rattle.std.proofs.lemmas.Result.{IfOk-weaker}
use Rattle.rdf_codec.specs.VolumeReading.{volume_block_of}
use Rattle.keyed_blocks.proofs.IndexLaws.{same_rows}
use Rattle.keyed_blocks.proofs.row_blocks.rows_at.Goals as goal

pub returns-clause-ok : goal.returns-clause-ok
returns-clause-ok g c = λ tells. IfOk-weaker c.rows_of_payload.result _ _ (λ rows is payloads all rest at.
    same_rows c.deref.result.now at.payload rows.items all (c.deref.ensures.value ∙ c.in_ok-payload.ensures.ok tells payloads at.payload rest at.stands) is at.spelled)
    c.rows_of_payload.ensures.ok

pub returns-clause-sound : goal.returns-clause-sound
returns-clause-sound g c = λ tells.
    let h = c.requires.rows tells in
    c.rows_of_payload.ensures.sound h.rows (ap volume_block_of (c.deref.ensures.value ∙ c.in_ok-payload.ensures.ok tells h.payloads h.stands.payload h.at_rest h.stands.stands) ∙ h.stands.spelled)
