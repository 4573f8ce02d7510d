use Rattle.std.proofs.Common.{ℕ, ◌≡◌, ◌+◌, ◌*◌, ◌<◌, length, refl, ◌∙◌, ap, arith}
use Rattle.rdf_disk.specs.AnswerLaws.{on_err}
use Rattle.image_disks.specs.Spelled.{block_of}
use Rattle.image_disks.specs.Blocks.{Start}
use Rattle.image_disks.specs.Values.{received, rolled}
use Rattle.image_disks.specs.ValueLaws.{alike_sym}
use Rattle.image_trails.specs.Memory.{plan_in, value_in, files_of}
use Rattle.image_trails.specs.Rolls.{HasRolled}
use Rattle.image_trails.specs.InUseLaws.{in_use_durably}
use Rattle.image_trails.proofs.InUse.{still_stands, four_tops, get_or_any}
use Rattle.image_trails.proofs.Rolled.{left_stands, begun_stands, rolled_alike, rolled_in_use}
use Rattle.image_trails.proofs.trails.ImageTrails.roll.Goals as goal

pub returns-in_err-payload-clause-err : goal.returns-in_err-payload-clause-err
returns-in_err-payload-clause-err g c = λ tells.
    let m = c.args.self.now.memory in
    on_err c.from_residual.result _ (still_stands block_of (plan_in m) (value_in m) (rolled (value_in m)) (g.D.Disk.files c.args.self.now.disk) (in_use_durably block_of m (g.D.Disk.files c.args.self.now.disk) (c.requires.in_use tells)))

pub begin_generation-requires-clause-absent : goal.begin_generation-requires-clause-absent
begin_generation-requires-clause-absent g c = λ tells.
    let use_ = c.requires.in_use tells in
    (use_.logs, use_.rests, λ f far. use_.above f (omega (arith, far)))

pub returns-in_err-end-clause-err : goal.returns-in_err-end-clause-err
returns-in_err-end-clause-err g c = λ tells.
    let m = c.args.self.now.memory in
    let use_ = c.requires.in_use tells in
    let first : 0 < length m.tops.items = omega (arith, four_tops m) in
    let spells : block_of c.deref.result.now ≡ Start (received (value_in m)) m.phase = ap block_of c.deref.ensures.value ∙ c.in_ok-payload.ensures.block ∙ ap (λ (n : ℕ). Start n m.phase) (c.index-received.ensures ∙ get_or_any m.tops.items 0 c.index-received.result.now 0 first) in
    on_err c.from_residual-in_err-end.result _ (left_stands c.roll_means.ensures block_of (plan_in m) (value_in m) (files_of m.generations) (4 * m.last + 4) c.deref.result.now use_.logs (omega arith) refl c.requires.few spells use_.means (g.D.Disk.files c.begin_generation.new.disk) (c.in_err-end.ensures.err tells use_.logs use_.rests (λ f far. use_.above f (omega (arith, far)))))

pub returns-in_err-roll-clause-err : goal.returns-in_err-roll-clause-err
returns-in_err-roll-clause-err g c = λ tells.
    let m = c.args.self.now.memory in
    let use_ = c.requires.in_use tells in
    let first : 0 < length m.tops.items = omega (arith, four_tops m) in
    let spells : block_of c.deref.result.now ≡ Start (received (value_in m)) m.phase = ap block_of c.deref.ensures.value ∙ c.in_ok-payload.ensures.block ∙ ap (λ (n : ℕ). Start n m.phase) (c.index-received.ensures ∙ get_or_any m.tops.items 0 c.index-received.result.now 0 first) in
    on_err c.from_residual-in_err-roll.result _ (begun_stands c.roll_means.ensures block_of (plan_in m) (value_in m) (files_of m.generations) (4 * m.last + 4) c.deref.result.now use_.logs (omega arith) refl c.requires.few spells use_.means (g.D.Disk.files c.begin_generation.new.disk) (c.in_ok-end.ensures.ok tells use_.logs use_.rests (λ f far. use_.above f (omega (arith, far)))).0)

pub returns-clause-ok : goal.returns-clause-ok
returns-clause-ok g c = λ tells.
    let m = c.args.self.now.memory in
    let use_ = c.requires.in_use tells in
    let first : 0 < length m.tops.items = omega (arith, four_tops m) in
    let spells : block_of c.deref.result.now ≡ Start (received (value_in m)) m.phase = ap block_of c.deref.ensures.value ∙ c.in_ok-payload.ensures.block ∙ ap (λ (n : ℕ). Start n m.phase) (c.index-received.ensures ∙ get_or_any m.tops.items 0 c.index-received.result.now 0 first) in
    let h = c.in_ok-roll.ensures.rolled in
    let rolled_ : HasRolled m c.roll.new.self c.in_ok-end.end = record { starts = h.starts; files = h.files; last = h.last; phase = h.phase; tops = h.tops; master = h.master; seconds = h.seconds; lists = h.lists } in
    record {
      in_use = rolled_in_use c.roll_means.ensures block_of m c.roll.new.self (g.D.Disk.files c.args.self.now.disk) (g.D.Disk.files c.begin_generation.new.disk) (4 * m.last + 4) c.in_ok-end.end c.deref.result.now use_ c.roll.ensures.layout c.requires.few rolled_ (omega arith) spells
          (c.in_ok-end.ensures.ok tells use_.logs use_.rests (λ f far. use_.above f (omega (arith, far))));
      value = alike_sym (rolled (value_in m)) (value_in c.roll.new.self) (rolled_alike m c.roll.new.self c.in_ok-end.end rolled_ use_.rising);
    }
