use Rattle.std.proofs.Common.{refl}
use Rattle.machine_tests.proofs.WorkedTrails.{over_map, pushed, ended_trail, ended_is_legal}
use Rattle.machine_tests.proofs.tests.worked_trails.ended_trail.Goals as goal

pub returns : goal.returns
returns c =
    let p1 = pushed c.new-trail.ensures.items c.in_ok-image.ensures c.in_ok-push.ensures.items in
    let p2 = pushed p1 c.in_ok-image-2.ensures c.in_ok-push-2.ensures.items in
    let p3 = pushed p2 refl c.in_ok-push-3.ensures.items in
    let p4 = pushed p3 c.in_ok-image-3.ensures c.in_ok-push-4.ensures.items in
    let p5 = pushed p4 refl c.in_ok-push-5.ensures.items in
    over_map c.push-5.new.self.items ended_trail p5 ended_is_legal
