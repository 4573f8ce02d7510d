use Rattle.std.proofs.Common.{ℕ, ◌≡◌, ◌++◌, [], List, set, ◌∙◌, ap, get_or, refl, arith, subst, sym}
use Rattle.std.proofs.lemmas.List.{get_or-set_same, get_or-set_other}
use Rattle.rdf_disk.specs.AnswerLaws.{on_err}
use Rattle.rdf_gatelog.specs.Logs.{IsOpenIn}
use Rattle.rdf_types.specs.declared.records.Stamped.{Stamped}
use Rattle.image_disks.specs.Spelled.{block_of}
use Rattle.image_disks.specs.Blocks.{Ship, kept_of}
use Rattle.image_disks.specs.Standing.{file_of}
use Rattle.image_disks.specs.Values.{written}
use Rattle.image_disks.specs.ValueLaws.{alike_sym}
use Rattle.image_trails.specs.Memory.{plan_in, value_in, shipment, lists_of}
use Rattle.image_trails.specs.InUseLaws.{in_use_durably}
use Rattle.image_trails.proofs.Generating.{at_rest}
use Rattle.image_trails.proofs.InUse.{still_stands, in_use_more, either_more, four_ends}
use Rattle.image_trails.proofs.Writing.{here_is, block_means, block_alike, block_rises}
use Rattle.image_trails.proofs.Shipping.{kept_spelled, nothing_written}
use Rattle.image_trails.proofs.trails.ImageTrails.write.Goals as goal

pub returns-in_err-part-clause-err : goal.returns-in_err-part-clause-err
returns-in_err-part-clause-err g c = λ tells.
    let m = c.args.self.now.memory in
    on_err c.from_residual.result _ (still_stands block_of (plan_in m) (value_in m) (written (plan_in m) (shipment c.args.ship.now) c.args.trail (value_in m)) (g.D.Disk.files c.args.self.now.disk) (in_use_durably block_of m (g.D.Disk.files c.args.self.now.disk) (c.requires.in_use tells)))

pub returns-in_err-payload-clause-err : goal.returns-in_err-payload-clause-err
returns-in_err-payload-clause-err g c = λ tells.
    let m = c.args.self.now.memory in
    on_err c.from_residual-in_err-payload.result _ (still_stands block_of (plan_in m) (value_in m) (written (plan_in m) (shipment c.args.ship.now) c.args.trail (value_in m)) (g.D.Disk.files c.args.self.now.disk) (in_use_durably block_of m (g.D.Disk.files c.args.self.now.disk) (c.requires.in_use tells)))

pub returns-in_err-add_to-clause-err : goal.returns-in_err-add_to-clause-err
returns-in_err-add_to-clause-err g c = λ tells.
    let m = c.args.self.now.memory in
    on_err c.from_residual-in_err-add_to.result _ (still_stands block_of (plan_in m) (value_in m) (written (plan_in m) (shipment c.args.ship.now) c.args.trail (value_in m)) (g.D.Disk.files c.args.self.now.disk) (in_use_durably block_of m (g.D.Disk.files c.args.self.now.disk) (c.requires.in_use tells)))

pub append-requires-clause-at_rest : goal.append-requires-clause-at_rest
append-requires-clause-at_rest g c = λ tells.
    let m = c.args.self.now.memory in
    let old = g.D.Disk.files c.args.self.now.disk in
    let use_ = c.requires.in_use tells in
    let here = here_is c.standing_is_orderly.ensures m old use_ c.args.trail c.next_of-top.result c.is_used.result c.requires.trail c.next_of-top.ensures c.is_used.ensures c.if-not-is_used.false c.at-log.result c.index.result.now c.at-log.ensures c.index.ensures in
    at_rest use_.logs c.at-log.result.file c.at-log.result.end old use_.rests (subst (λ (f : ℕ). IsOpenIn use_.logs f c.at-log.result.end) (sym here.file_is) (subst (λ (e : ℕ). IsOpenIn use_.logs (file_of m.last c.args.trail) e) (sym here.end_is) (use_.opened c.args.trail c.requires.trail here.used)))

pub returns-in_err-append-clause-err : goal.returns-in_err-append-clause-err
returns-in_err-append-clause-err g c = λ tells.
    let m = c.args.self.now.memory in
    let old = g.D.Disk.files c.args.self.now.disk in
    let use_ = c.requires.in_use tells in
    let here = here_is c.standing_is_orderly.ensures m old use_ c.args.trail c.next_of-top.result c.is_used.result c.requires.trail c.next_of-top.ensures c.is_used.ensures c.if-not-is_used.false c.at-log.result c.index.result.now c.at-log.ensures c.index.ensures in
    let part_is = c.in_ok-part.ensures ∙ ap (kept_of (plan_in m) c.args.trail c.next_of-top.result) c.as_slice.ensures in
    let spells : block_of c.deref-2.result.now ≡ Ship c.next_of-top.result c.args.ship.now.to (kept_of (plan_in m) c.args.trail c.next_of-top.result c.args.ship.now.part) = ap block_of c.deref-2.ensures.value ∙ c.in_ok-payload.ensures.block ∙ ap (Ship c.next_of-top.result c.args.ship.now.to) (c.deref.ensures.value ∙ part_is) in
    on_err c.from_residual-in_err-append.result _ (either_more block_of m c.args.trail c.deref-2.result.now (written (plan_in m) (shipment c.args.ship.now) c.args.trail (value_in m)) old (g.D.Disk.files c.append.new.disk)
    c.at-log.result.file c.at-log.result.end c.requires.trail here.used here.file_is here.end_is (block_means m old use_ c.args.ship.now c.args.trail c.next_of-top.result c.at-log.result c.requires.trail here c.if-ship-top.false c.requires.spelled c.ship_means.ensures c.deref-2.result.now spells (c.requires.order tells)) use_ (c.in_err-append.ensures.err tells))

pub returns-clause-ok : goal.returns-clause-ok
returns-clause-ok g c = λ tells.
    let m = c.args.self.now.memory in
    let old = g.D.Disk.files c.args.self.now.disk in
    let use_ = c.requires.in_use tells in
    let here = here_is c.standing_is_orderly.ensures m old use_ c.args.trail c.next_of-top.result c.is_used.result c.requires.trail c.next_of-top.ensures c.is_used.ensures c.if-not-is_used.false c.at-log.result c.index.result.now c.at-log.ensures c.index.ensures in
    let part_is = c.in_ok-part.ensures ∙ ap (kept_of (plan_in m) c.args.trail c.next_of-top.result) c.as_slice.ensures in
    let spells : block_of c.deref-2.result.now ≡ Ship c.next_of-top.result c.args.ship.now.to (kept_of (plan_in m) c.args.trail c.next_of-top.result c.args.ship.now.part) = ap block_of c.deref-2.ensures.value ∙ c.in_ok-payload.ensures.block ∙ ap (Ship c.next_of-top.result c.args.ship.now.to) (c.deref.ensures.value ∙ part_is) in
    let w = written (plan_in m) (shipment c.args.ship.now) c.args.trail (value_in m) in
    let lists = c.in_ok-add_to.ensures.items ∙ ap (λ (l : List Stamped). set (lists_of m.entries) c.args.trail (get_or (lists_of m.entries) c.args.trail [] ++ l)) part_is in
    let alike = block_alike m old use_ c.args.ship.now c.args.trail c.next_of-top.result c.at-log.result c.requires.trail here c.if-ship-top.false c.requires.spelled (lists_of c.add_to.new.lists) lists in
    record {
      in_use = in_use_more block_of m c.args.trail c.deref-2.result.now w old (g.D.Disk.files c.append.new.disk)
          c.at-log.result.file c.at-log.result.end c.requires.trail here.used here.file_is here.end_is (block_means m old use_ c.args.ship.now c.args.trail c.next_of-top.result c.at-log.result c.requires.trail here c.if-ship-top.false c.requires.spelled c.ship_means.ensures c.deref-2.result.now spells (c.requires.order tells)) use_ _ c.append.new.log.end refl refl refl
          alike (block_rises m old use_ c.args.ship.now c.args.trail c.next_of-top.result c.at-log.result c.requires.trail here c.if-ship-top.false c.requires.spelled (lists_of c.add_to.new.lists) lists)
          (get_or-set_same m.ends.items c.args.trail c.end.result 0 (omega (arith, four_ends m, c.requires.trail)) ∙ c.end.ensures) (λ u other. get_or-set_other m.ends.items c.args.trail u c.end.result 0 other)
          (c.in_ok-append.ensures.ok tells);
      value = alike_sym w _ alike;
    }

pub returns-then-ship-top-clause-ok : goal.returns-then-ship-top-clause-ok
returns-then-ship-top-clause-ok g c = λ tells.
    let m = c.args.self.now.memory in
    record {
      in_use = c.requires.in_use tells;
      value = nothing_written c.standing_is_orderly.ensures m (g.D.Disk.files c.args.self.now.disk) (c.requires.in_use tells) c.args.trail c.requires.trail (sym c.is_used.ensures ∙ c.if-not-is_used.false) c.next_of-top.result c.next_of-top.ensures
          (shipment c.args.ship.now) c.if-ship-top.true;
    }

pub ship_payload-requires : goal.ship_payload-requires
ship_payload-requires g c =
    let m = c.args.self.now.memory in
    let ship = c.args.ship.now in
    kept_spelled (plan_in m) c.args.trail c.next_of-top.result ship c.deref.result.now c.requires.spelled (omega (arith, c.next_of-top.ensures, c.requires.joins)) c.if-ship-top.false
    (c.deref.ensures.value ∙ c.in_ok-part.ensures ∙ ap (kept_of (plan_in m) c.args.trail c.next_of-top.result) c.as_slice.ensures)
