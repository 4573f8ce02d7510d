use Rattle.std.proofs.Common.{◌++◌, false, get_or, take, ap, ◌∙◌, sym, append_assoc}
use Rattle.std.specs.List.{flat_map, enumerate_from}
use Rattle.std.proofs.lemmas.List.{take_more, length-take-le}
use Rattle.rdf_core.specs.declared.replies.VolInfo.{VolInfo}
use Rattle.rdf_core.specs.Text.{volume_line}
use Rattle.rdf_monitor.proofs.LineLaws.{volumes_more}
use Rattle.rdf_monitor.proofs.texts.push_volumes.Goals as goal

pub loop-number-preserved : goal.loop-number-preserved
loop-number-preserved c =
    let volumes = c.args.volumes.now in
    let i = c.loop-number.number in
    let blank : VolInfo = record { trail = 0; protect = false; at = 0 } in
    let volume = get_or volumes i blank in
    c.in_ok-push_volume.ensures ∙ ap (λ l. l ++ volume_line (i, volume)) c.loop-number.invariant
    ∙ append_assoc c.args.lines.now.items (flat_map volume_line (enumerate_from 0 (take i volumes))) (volume_line (i, volume))
    ∙ ap (λ t. c.args.lines.now.items ++ t) (sym (volumes_more volumes i volume (take_more volumes i blank c.loop-number-test.true) (length-take-le i volumes c.loop-number.auto.number-end)))
