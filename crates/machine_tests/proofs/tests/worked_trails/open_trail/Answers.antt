use Rattle.machine_tests.proofs.WorkedTrails.{over_map, pushed, open_trail, open_is_legal}
use Rattle.machine_tests.proofs.tests.worked_trails.open_trail.Goals as goal

pub returns : goal.returns
returns c =
    let p1 = pushed c.new-trail.ensures.items c.in_ok-image.ensures c.in_ok-push.ensures.items in
    let p2 = pushed p1 c.in_ok-image-2.ensures c.in_ok-push-2.ensures.items in
    let p3 = pushed p2 c.in_ok-image-3.ensures c.in_ok-push-3.ensures.items in
    let p4 = pushed p3 c.in_ok-image-4.ensures c.in_ok-push-4.ensures.items in
    over_map c.push-4.new.self.items open_trail p4 open_is_legal
