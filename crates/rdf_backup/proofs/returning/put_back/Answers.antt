use Rattle.std.proofs.Common.{rules, ◌+◌, ◌<◌, true, false, [], ◌∷◌, ◌++◌, drop, map, length, Ok, ap, ◌∙◌, arith}
use Rattle.std.proofs.lemmas.Grind.{common_steps}
use Rattle.rdf_backup.specs.FirstFaults.{answer_at, earlier, first_fault}
use Rattle.rdf_backup.specs.Parting.{merged, spread}
use Rattle.rdf_backup.proofs.PartingLaws.{next_flag, back_flagged, back_other}
use Rattle.rdf_backup.proofs.returning.put_back.Goals as goal

pub loop-number-preserved-then-not-flag : goal.loop-number-preserved-then-not-flag
loop-number-preserved-then-not-flag g c =
    let n = c.loop-number.number in
    let flags = c.args.flags.now in
    let within : n < length flags = omega (arith, c.loop-number-test.true) in
    record {
      room = (first_of (search rules, grind (arith, common_steps)), first_of (search rules, grind (arith, common_steps)));
      back = back_other (λ w. g.W.Returning.volume_of w) (λ w. g.W.Returning.answer_of w) n (drop n flags) (drop (n + 1) flags) c.loop-number.volumes.items c.loop-number.first (merged flags (map (λ w. g.W.Returning.volume_of w) c.args.ended.items) c.args.apart.items) (first_fault 1 c.args.met (spread (Ok tt) flags (map (λ w. g.W.Returning.answer_of w) c.args.ended.items)))
          c.loop-number.ended.items c.loop-number.apart.items c.take_first.new.list.items c.push_reserved.new.self.items c.take_first.result (next_flag flags n false within c.if-not-flag.true) c.take_first.ensures.first c.push_reserved.ensures.items c.loop-number.invariant.back;
    }

pub loop-number-preserved : goal.loop-number-preserved
loop-number-preserved g c =
    let n = c.loop-number.number in
    let flags = c.args.flags.now in
    let within : n < length flags = omega (arith, c.loop-number-test.true) in
    record {
      room = (first_of (search rules, grind (arith, common_steps)), first_of (search rules, grind (arith, common_steps)));
      back = back_flagged (λ w. g.W.Returning.volume_of w) (λ w. g.W.Returning.answer_of w) n (drop n flags) (drop (n + 1) flags) c.loop-number.volumes.items c.loop-number.first (merged flags (map (λ w. g.W.Returning.volume_of w) c.args.ended.items) c.args.apart.items) (first_fault 1 c.args.met (spread (Ok tt) flags (map (λ w. g.W.Returning.answer_of w) c.args.ended.items)))
          c.loop-number.ended.items c.take_first-in-loop-number.new.list.items c.take_first-in-loop-number.result c.loop-number.apart.items c.push_reserved-in-loop-number.new.self.items c.earlier-first.result (next_flag flags n true within c.if-not-flag.false) c.take_first-in-loop-number.ensures.first
          (c.push_reserved-in-loop-number.ensures.items ∙ ap (λ v. c.loop-number.volumes.items ++ v ∷ []) c.parts-volume.ensures.volume)
          (c.earlier-first.ensures ∙ ap (λ r. earlier c.loop-number.first r) (c.answer_at.ensures ∙ ap (λ a. answer_at (n + 1) a) c.parts-volume.ensures.answer)) c.loop-number.invariant.back;
    }
