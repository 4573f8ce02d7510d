use Rattle.std.proofs.Common.{◌≡◌, ◌<◌, ◌+◌, length, filter, min, arith, ap, subst, ◌∙◌, sym}
use Rattle.rdf_types.specs.declared.records.Stamped.{Stamped}
use Rattle.rdf_codec.specs.Ships.{HasShipSpelling}
use Rattle.rdf_model.specs.Window.{concerns}
use Rattle.audit_trail.specs.InUse.{trail_of}
use Rattle.extractor.specs.Extract.{Progress, protects}
use Rattle.extractor.proofs.Parts.{message_is, ship_is}
use Rattle.extractor.proofs.extractor.Extractor.build.Goals as goal

pub returns-clause-message : goal.returns-clause-message
returns-clause-message g c =
    let progress : Progress = record { next = c.self.inside.next; acked = c.self.inside.acked } in
    let lt : c.self.inside.next < length (trail_of c.args.trail.now) = omega arith in
    let end_is : c.min-to.result ≡ min (c.self.inside.next + c.args.most) (length (trail_of c.args.trail.now)) = omega arith in
    let test = λ (s : Stamped). concerns (protects c.args.layout.now) s.rec in
    rw (← c.self.view_is) (message_is (protects c.args.layout.now) (trail_of c.args.trail.now) c.args.most c.min-to.result progress c.new-part.result lt end_is
    (c.new-part.ensures ∙ c.keep_concerned.ensures ∙ ap (filter test) c.in_ok-part.ensures))

pub returns-clause-spelled : goal.returns-clause-spelled
returns-clause-spelled g c =
    let lt : c.self.inside.next < length (trail_of c.args.trail.now) = omega arith in
    let end_is : c.min-to.result ≡ min (c.self.inside.next + c.args.most) (length (trail_of c.args.trail.now)) = omega arith in
    let test = λ (s : Stamped). concerns (protects c.args.layout.now) s.rec in
    subst HasShipSpelling
    (sym (ship_is (protects c.args.layout.now) (trail_of c.args.trail.now) c.self.inside.next c.args.most c.min-to.result c.new-part.result end_is
    (c.new-part.ensures ∙ c.keep_concerned.ensures ∙ ap (filter test) c.in_ok-part.ensures)))
    (c.parts_are_spelled.ensures (protects c.args.layout.now) (trail_of c.args.trail.now) c.self.inside.next c.min-to.result (omega arith) (omega arith) (omega arith))
