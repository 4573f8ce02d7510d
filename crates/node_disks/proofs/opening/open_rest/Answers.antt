use Rattle.std.proofs.Common.{◌++◌, [], ◌∷◌, List, length, IfSome, arith, sym, ap, ◌∙◌, subst, append_assoc, append-nil, length-append}
use Rattle.std.proofs.lemmas.List.{nil_from_length}
use Rattle.std.specs.Prelude.{slice_get}
use Rattle.node_disks.specs.Opening.{AreOpened}
use Rattle.node_disks.specs.OpeningLaws.{all_there, many_open, none_left, at_end}
use Rattle.node_disks.proofs.opening.open_rest.Goals as goal

pub open_next-requires : goal.open_next-requires
open_next-requires g c =
    let inv = c.loop-disk.invariant in
    let Opens = g.O.Opener.opens c.args.opener.now in
    let Fails = g.O.Opener.fails c.args.opener.now in
    let ahead = inv.ahead ∙ ap (λ (l : List g.row.D.Denot). c.loop-disk.yielded ++ l) c.in-Some.ensures.steps.0 in
    let all = all_there Opens Fails 0 c.loop-disk.yielded c.loop-disk.opening.opened.items c.loop-disk.opening.left.items c.loop-disk.opening.fault inv.opens in
    let long = ap (λ (l : List g.row.D.Denot). length l) ahead ∙ length-append c.loop-disk.yielded (c.in-Some.disk ∷ c.next.new.self.rest.items) in
    let most = c.requires.few in
    let room = inv.room in
    let more = inv.more_room in
    record {
      few = omega (arith, all, long, most);
      room = omega (arith, all, long, room);
      more_room = omega (arith, all, long, more);
      ready = λ none.
          let many = many_open Opens Fails 0 c.loop-disk.yielded c.loop-disk.opening.opened.items c.loop-disk.opening.left.items c.loop-disk.opening.fault none inv.opens in
          subst (λ n. g.O.Opener.ready c.args.opener.now n c.in-Some.disk) (sym many)
          (at_end c.loop-disk.yielded c.next.new.self.rest.items c.in-Some.disk (g.O.Opener.ready c.args.opener.now)
          (subst (λ (l : List g.row.D.Denot). (v : _) → IfSome (slice_get l v) (g.O.Opener.ready c.args.opener.now v)) ahead c.requires.ready));
    }

pub loop-disk-preserved : goal.loop-disk-preserved
loop-disk-preserved g c =
    let inv = c.loop-disk.invariant in
    record {
      opens = c.open_next.ensures.opens c.loop-disk.yielded inv.opens;
      ahead = inv.ahead ∙ ap (λ (l : List g.row.D.Denot). c.loop-disk.yielded ++ l) c.in-Some.ensures.steps.0 ∙ sym (append_assoc c.loop-disk.yielded (c.in-Some.disk ∷ []) c.next.new.self.rest.items);
      room = let same = c.open_next.ensures.capacity in let room = inv.room in omega (arith, same, room);
      more_room = let same = c.open_next.ensures.more_capacity in let room = inv.more_room in omega (arith, same, room);
    }

pub returns : goal.returns
returns g c =
    let Opens = g.O.Opener.opens c.args.opener.now in
    let Fails = g.O.Opener.fails c.args.opener.now in
    let disks = c.args.disks.items in
    let o = c.loop-disk.opening in
    let nil = nil_from_length c.loop-disk.disk-iterator.rest.items (omega (arith, c.loop-disk.disk-iterator.rest.ok.0, (c.in-None.ensures {u = tt}).steps.0)) in
    let all = c.loop-disk.invariant.ahead ∙ ap (λ (l : List g.row.D.Denot). c.loop-disk.yielded ++ l) nil ∙ append-nil c.loop-disk.yielded in
    let opens = subst (λ (l : List g.row.D.Denot). AreOpened Opens Fails 0 l o.opened.items o.left.items o.fault) (sym all) c.loop-disk.invariant.opens in
    record {
      opens = opens;
      many = all_there Opens Fails 0 disks o.opened.items o.left.items o.fault opens;
      all = λ none. (none_left Opens Fails 0 disks o.opened.items o.left.items o.fault none opens, many_open Opens Fails 0 disks o.opened.items o.left.items o.fault none opens);
    }
