use Rattle.std.proofs.Common.{ℕ, ◌≡◌, ◌≤◌, true, arith, subst, sym}
use Rattle.std.proofs.lemmas.Result.{on_err_weaker}
use Rattle.rdf_disk.specs.AnswerLaws.{on_err}
use Rattle.image_disks.specs.Spelled.{block_of}
use Rattle.image_disks.specs.Values.{ready}
use Rattle.image_disks.specs.ValueLaws.{rises_to}
use Rattle.image_disks.specs.BlockLaws.{rise_entries}
use Rattle.image_trails.specs.Memory.{plan_in, plan_of, value_in, shipment}
use Rattle.image_trails.proofs.Keeping.{plan_is, store_leaves, store_keeps}
use Rattle.image_trails.proofs.Storing.{first_at, ready_at, ready_left, written_at, written_left, at_ready, at_first, at_second, at_third, at_master}
use Rattle.image_trails.proofs.trails.ImageTrails.store.Goals as goal

pub returns-in_err-make_ready-clause-err : goal.returns-in_err-make_ready-clause-err
returns-in_err-make_ready-clause-err g c = λ tells.
    let ship = shipment c.args.ship.now in
    let at0 = first_at g.D.Disk.files c.args.self.now (c.requires.in_use tells) in
    on_err c.from_residual.result _ (at_ready (plan_in c.args.self.now.memory) ship (value_in c.args.self.now.memory) (g.D.Disk.files c.make_ready.new.self.disk)
    (ready_left g.D.Disk.files _ _ _ c.make_ready.new.self at0 (c.in_err-make_ready.ensures.err tells)))

pub returns-in_err-write-clause-err : goal.returns-in_err-write-clause-err
returns-in_err-write-clause-err g c = λ tells.
    let ship = shipment c.args.ship.now in
    let at0 = first_at g.D.Disk.files c.args.self.now (c.requires.in_use tells) in
    let at1 = ready_at g.D.Disk.files _ _ _ _ at0 c.make_ready.ensures.stays.layout (c.in_ok-make_ready.ensures.ok tells) in
    on_err c.from_residual-in_err-write.result _ (at_first (plan_in c.args.self.now.memory) ship (value_in c.args.self.now.memory) (g.D.Disk.files c.write.new.self.disk)
    (written_left g.D.Disk.files _ _ _ c.write.new.self at1 ship 1 (omega arith) (c.in_err-write.ensures.err tells)))

pub returns-in_err-write-2-clause-err : goal.returns-in_err-write-2-clause-err
returns-in_err-write-2-clause-err g c = λ tells.
    let ship = shipment c.args.ship.now in
    let at0 = first_at g.D.Disk.files c.args.self.now (c.requires.in_use tells) in
    let at1 = ready_at g.D.Disk.files _ _ _ _ at0 c.make_ready.ensures.stays.layout (c.in_ok-make_ready.ensures.ok tells) in
    let at2 = written_at g.D.Disk.files _ _ _ _ at1 ship 1 (omega arith) c.write.ensures.stays.layout (c.in_ok-write.ensures.ok tells) in
    on_err c.from_residual-in_err-write-2.result _ (at_second (plan_in c.args.self.now.memory) ship (value_in c.args.self.now.memory) (g.D.Disk.files c.write-2.new.self.disk)
    (written_left g.D.Disk.files _ _ _ c.write-2.new.self at2 ship 2 (omega arith) (c.in_err-write-2.ensures.err tells)))

pub returns-in_err-write-3-clause-err : goal.returns-in_err-write-3-clause-err
returns-in_err-write-3-clause-err g c = λ tells.
    let ship = shipment c.args.ship.now in
    let at0 = first_at g.D.Disk.files c.args.self.now (c.requires.in_use tells) in
    let at1 = ready_at g.D.Disk.files _ _ _ _ at0 c.make_ready.ensures.stays.layout (c.in_ok-make_ready.ensures.ok tells) in
    let at2 = written_at g.D.Disk.files _ _ _ _ at1 ship 1 (omega arith) c.write.ensures.stays.layout (c.in_ok-write.ensures.ok tells) in
    let at3 = written_at g.D.Disk.files _ _ _ _ at2 ship 2 (omega arith) c.write-2.ensures.stays.layout (c.in_ok-write-2.ensures.ok tells) in
    on_err c.from_residual-in_err-write-3.result _ (at_third (plan_in c.args.self.now.memory) ship (value_in c.args.self.now.memory) (g.D.Disk.files c.write-3.new.self.disk)
    (written_left g.D.Disk.files _ _ _ c.write-3.new.self at3 ship 3 (omega arith) (c.in_err-write-3.ensures.err tells)))

pub returns-in_err-write-4-clause-err : goal.returns-in_err-write-4-clause-err
returns-in_err-write-4-clause-err g c = λ tells.
    let ship = shipment c.args.ship.now in
    let at0 = first_at g.D.Disk.files c.args.self.now (c.requires.in_use tells) in
    let at1 = ready_at g.D.Disk.files _ _ _ _ at0 c.make_ready.ensures.stays.layout (c.in_ok-make_ready.ensures.ok tells) in
    let at2 = written_at g.D.Disk.files _ _ _ _ at1 ship 1 (omega arith) c.write.ensures.stays.layout (c.in_ok-write.ensures.ok tells) in
    let at3 = written_at g.D.Disk.files _ _ _ _ at2 ship 2 (omega arith) c.write-2.ensures.stays.layout (c.in_ok-write-2.ensures.ok tells) in
    let at4 = written_at g.D.Disk.files _ _ _ _ at3 ship 3 (omega arith) c.write-3.ensures.stays.layout (c.in_ok-write-3.ensures.ok tells) in
    on_err c.from_residual-in_err-write-4.result _ (at_master (plan_in c.args.self.now.memory) ship (value_in c.args.self.now.memory) (g.D.Disk.files c.write-4.new.self.disk)
    (written_left g.D.Disk.files _ _ _ c.write-4.new.self at4 ship 0 (omega arith) (c.in_err-write-4.ensures.err tells)))

pub write-requires-4-clause-order : goal.write-requires-4-clause-order
write-requires-4-clause-order g c = λ tells master u ul used second.
    let ship = shipment c.args.ship.now in
    let at0 = first_at g.D.Disk.files c.args.self.now (c.requires.in_use tells) in
    let at1 = ready_at g.D.Disk.files _ _ _ _ at0 c.make_ready.ensures.stays.layout (c.in_ok-make_ready.ensures.ok tells) in
    let at2 = written_at g.D.Disk.files _ _ _ _ at1 ship 1 (omega arith) c.write.ensures.stays.layout (c.in_ok-write.ensures.ok tells) in
    let at3 = written_at g.D.Disk.files _ _ _ _ at2 ship 2 (omega arith) c.write-2.ensures.stays.layout (c.in_ok-write-2.ensures.ok tells) in
    let at4 = written_at g.D.Disk.files _ _ _ _ at3 ship 3 (omega arith) c.write-3.ensures.stays.layout (c.in_ok-write-3.ensures.ok tells) in
    subst (λ (n : ℕ). ship.to ≤ n) (sym (at4.stand.value.top u ul)) (rises_to (plan_in c.args.self.now.memory) ship (ready (plan_in c.args.self.now.memory) (value_in c.args.self.now.memory)) u ul second (subst (λ b. (plan_of b).used u ≡ true) at4.laid used))

pub returns-clause-ok : goal.returns-clause-ok
returns-clause-ok g c = λ tells.
    let ship = shipment c.args.ship.now in
    let at0 = first_at g.D.Disk.files c.args.self.now (c.requires.in_use tells) in
    let at1 = ready_at g.D.Disk.files _ _ _ _ at0 c.make_ready.ensures.stays.layout (c.in_ok-make_ready.ensures.ok tells) in
    let at2 = written_at g.D.Disk.files _ _ _ _ at1 ship 1 (omega arith) c.write.ensures.stays.layout (c.in_ok-write.ensures.ok tells) in
    let at3 = written_at g.D.Disk.files _ _ _ _ at2 ship 2 (omega arith) c.write-2.ensures.stays.layout (c.in_ok-write-2.ensures.ok tells) in
    let at4 = written_at g.D.Disk.files _ _ _ _ at3 ship 3 (omega arith) c.write-3.ensures.stays.layout (c.in_ok-write-3.ensures.ok tells) in
    let at5 = written_at g.D.Disk.files _ _ _ _ at4 ship 0 (omega arith) c.write-4.ensures.stays.layout (c.in_ok-write-4.ensures.ok tells) in
    at5.stand

pub returns-in_err-make_ready-clause-left : goal.returns-in_err-make_ready-clause-left
returns-in_err-make_ready-clause-left g c = λ tells.
    on_err_weaker _ (store_leaves c.standing_is_orderly.ensures c.store_holds.ensures block_of c.args.self.now.memory (g.D.Disk.files c.args.self.now.disk) (shipment c.args.ship.now) (c.requires.in_use tells) (plan_is c.args.self.now.memory.layout)
    (rise_entries c.args.ship.now.from c.args.ship.now.to c.args.ship.now.part c.requires.spelled.rise) c.requires.joins c.requires.some (g.D.Disk.files c.make_ready.new.self.disk)) (returns-in_err-make_ready-clause-err g c tells)

pub returns-in_err-write-clause-left : goal.returns-in_err-write-clause-left
returns-in_err-write-clause-left g c = λ tells.
    on_err_weaker _ (store_leaves c.standing_is_orderly.ensures c.store_holds.ensures block_of c.args.self.now.memory (g.D.Disk.files c.args.self.now.disk) (shipment c.args.ship.now) (c.requires.in_use tells) (plan_is c.args.self.now.memory.layout)
    (rise_entries c.args.ship.now.from c.args.ship.now.to c.args.ship.now.part c.requires.spelled.rise) c.requires.joins c.requires.some (g.D.Disk.files c.write.new.self.disk)) (returns-in_err-write-clause-err g c tells)

pub returns-in_err-write-2-clause-left : goal.returns-in_err-write-2-clause-left
returns-in_err-write-2-clause-left g c = λ tells.
    on_err_weaker _ (store_leaves c.standing_is_orderly.ensures c.store_holds.ensures block_of c.args.self.now.memory (g.D.Disk.files c.args.self.now.disk) (shipment c.args.ship.now) (c.requires.in_use tells) (plan_is c.args.self.now.memory.layout)
    (rise_entries c.args.ship.now.from c.args.ship.now.to c.args.ship.now.part c.requires.spelled.rise) c.requires.joins c.requires.some (g.D.Disk.files c.write-2.new.self.disk)) (returns-in_err-write-2-clause-err g c tells)

pub returns-in_err-write-3-clause-left : goal.returns-in_err-write-3-clause-left
returns-in_err-write-3-clause-left g c = λ tells.
    on_err_weaker _ (store_leaves c.standing_is_orderly.ensures c.store_holds.ensures block_of c.args.self.now.memory (g.D.Disk.files c.args.self.now.disk) (shipment c.args.ship.now) (c.requires.in_use tells) (plan_is c.args.self.now.memory.layout)
    (rise_entries c.args.ship.now.from c.args.ship.now.to c.args.ship.now.part c.requires.spelled.rise) c.requires.joins c.requires.some (g.D.Disk.files c.write-3.new.self.disk)) (returns-in_err-write-3-clause-err g c tells)

pub returns-in_err-write-4-clause-left : goal.returns-in_err-write-4-clause-left
returns-in_err-write-4-clause-left g c = λ tells.
    on_err_weaker _ (store_leaves c.standing_is_orderly.ensures c.store_holds.ensures block_of c.args.self.now.memory (g.D.Disk.files c.args.self.now.disk) (shipment c.args.ship.now) (c.requires.in_use tells) (plan_is c.args.self.now.memory.layout)
    (rise_entries c.args.ship.now.from c.args.ship.now.to c.args.ship.now.part c.requires.spelled.rise) c.requires.joins c.requires.some (g.D.Disk.files c.write-4.new.self.disk)) (returns-in_err-write-4-clause-err g c tells)

pub returns-clause-held : goal.returns-clause-held
returns-clause-held g c = λ tells.
    store_keeps c.standing_is_orderly.ensures c.store_holds.ensures block_of c.args.self.now.memory (g.D.Disk.files c.args.self.now.disk) (shipment c.args.ship.now) (c.requires.in_use tells) (plan_is c.args.self.now.memory.layout)
    (rise_entries c.args.ship.now.from c.args.ship.now.to c.args.ship.now.part c.requires.spelled.rise) c.requires.joins c.requires.some _ (returns-clause-ok g c tells).value
