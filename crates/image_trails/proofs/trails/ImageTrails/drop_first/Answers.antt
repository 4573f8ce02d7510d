use Rattle.std.proofs.lemmas.Result.{on_err_weaker}
use Rattle.rdf_disk.specs.AnswerLaws.{on_err}
use Rattle.image_disks.specs.Spelled.{block_of}
use Rattle.image_disks.specs.Values.{dropped}
use Rattle.image_trails.specs.Memory.{plan_in, value_in, files_of}
use Rattle.image_trails.specs.Rolls.{HasDropped}
use Rattle.image_trails.proofs.Dropped.{first_gen, first_master, kept_stands, dropped_alike, dropped_in_use}
use Rattle.image_disks.specs.Held.{Holds}
use Rattle.image_disks.specs.ValueLaws.{alike_sym, holds_alike}
use Rattle.image_trails.proofs.Keeping.{either_holding, drop_keeps}
use Rattle.image_trails.proofs.trails.ImageTrails.drop_first.Goals as goal

pub returns-in_err-drop_generation-clause-err : goal.returns-in_err-drop_generation-clause-err
returns-in_err-drop_generation-clause-err g c = λ tells.
    let m = c.args.self.now.memory in
    let B = block_of in
    let use_ = c.requires.in_use tells in
    let f = first_gen B (plan_in m) use_.logs (files_of m.generations) (value_in m) c.requires.two use_.means in
    let master_is = first_master m.generations.items c.index.result.now c.requires.two c.index.ensures in
    on_err c.from_residual.result _ (kept_stands B (plan_in m) (value_in m) (files_of m.generations) c.index.result.now.master use_.logs f master_is (g.D.Disk.files c.drop_generation.new.disk) (c.in_err-drop_generation.ensures.err tells use_.logs use_.rests))

pub returns-clause-ok : goal.returns-clause-ok
returns-clause-ok g c = λ tells.
    let m = c.args.self.now.memory in
    let use_ = c.requires.in_use tells in
    let h = c.drop_first.ensures in
    let less : HasDropped m c.drop_first.new.self = record { layout = h.layout; starts = h.starts; files = h.files; last = h.last; phase = h.phase; tops = h.tops; ends = h.ends; lists = h.lists } in
    record {
      in_use = dropped_in_use block_of m c.drop_first.new.self (g.D.Disk.files c.args.self.now.disk) (g.D.Disk.files c.drop_generation.new.disk) c.index.result.now.master use_ c.requires.two less (first_master m.generations.items c.index.result.now c.requires.two c.index.ensures)
          (c.in_ok-drop_generation.ensures.ok tells use_.logs use_.rests);
      value = alike_sym (dropped (value_in m)) (value_in c.drop_first.new.self) (dropped_alike m c.drop_first.new.self less use_.rising);
    }

pub returns-in_err-drop_generation-clause-left : goal.returns-in_err-drop_generation-clause-left
returns-in_err-drop_generation-clause-left g c = λ tells.
    let m = c.args.self.now.memory in
    let use_ = c.requires.in_use tells in
    on_err_weaker _ (either_holding block_of (plan_in m) (λ trail. Holds (plan_in m) trail (value_in m)) (value_in m) (dropped (value_in m)) (g.D.Disk.files c.drop_generation.new.disk) (λ trail h. h)
    (λ trail h. drop_keeps c.drop_holds.ensures block_of (plan_in m) use_.logs (files_of m.generations) trail (value_in m) c.requires.two use_.means h)) (returns-in_err-drop_generation-clause-err g c tells)

pub returns-clause-held : goal.returns-clause-held
returns-clause-held g c = λ tells trail h.
    let m = c.args.self.now.memory in
    let use_ = c.requires.in_use tells in
    holds_alike (plan_in m) trail (dropped (value_in m)) (value_in c.drop_first.new.self) (alike_sym (value_in c.drop_first.new.self) (dropped (value_in m)) (returns-clause-ok g c tells).value)
    (drop_keeps c.drop_holds.ensures block_of (plan_in m) use_.logs (files_of m.generations) trail (value_in m) c.requires.two use_.means h)
