use Rattle.std.proofs.Common.{ℕ, ◌≡◌, ◌<◌, ◌∙◌, ap, length, get_or, refl, arith, subst, sym}
use Rattle.std.proofs.lemmas.List.{get_or-set_same, get_or-set_other}
use Rattle.std.proofs.lemmas.Result.{on_err_weaker}
use Rattle.rdf_disk.specs.AnswerLaws.{on_err}
use Rattle.rdf_gatelog.specs.LogPlace.{LogPlace}
use Rattle.rdf_gatelog.specs.Logs.{IsOpenIn}
use Rattle.image_disks.specs.Spelled.{block_of}
use Rattle.image_disks.specs.Blocks.{Mark}
use Rattle.image_disks.specs.Values.{marked}
use Rattle.image_disks.specs.Standing.{file_of}
use Rattle.image_trails.specs.Memory.{plan_in, value_in, files_of}
use Rattle.image_trails.proofs.Generating.{at_rest}
use Rattle.image_disks.specs.Held.{Holds}
use Rattle.image_disks.specs.ValueLaws.{alike_itself}
use Rattle.image_trails.specs.InUseLaws.{in_use_durably}
use Rattle.image_trails.proofs.Keeping.{either_holding, mark_keeps}
use Rattle.image_trails.proofs.InUse.{still_stands, in_use_more, either_more, four_ends, get_or_any}
use Rattle.image_trails.proofs.trails.ImageTrails.mark.Goals as goal

pub returns-in_err-payload-clause-err : goal.returns-in_err-payload-clause-err
returns-in_err-payload-clause-err g c = λ tells.
    let m = c.args.self.now.memory in
    on_err c.from_residual.result _ (still_stands block_of (plan_in m) (value_in m) (marked c.args.phase (value_in m)) (g.D.Disk.files c.args.self.now.disk) (in_use_durably block_of m (g.D.Disk.files c.args.self.now.disk) (c.requires.in_use tells)))

pub append-requires-clause-at_rest : goal.append-requires-clause-at_rest
append-requires-clause-at_rest g c = λ tells.
    let m = c.args.self.now.memory in
    let below : 0 < length m.ends.items = omega (arith, four_ends m) in
    let use_ = c.requires.in_use tells in
    let file_is : c.at-log.result.file ≡ file_of m.last 0 = omega (arith, ap (λ (l : LogPlace). l.file) c.at-log.ensures) in
    let end_is : c.at-log.result.end ≡ get_or m.ends.items 0 0 = ap (λ (l : LogPlace). l.end) c.at-log.ensures ∙ c.index.ensures ∙ get_or_any m.ends.items 0 c.index.result.now 0 below in
    at_rest use_.logs c.at-log.result.file c.at-log.result.end (g.D.Disk.files c.args.self.now.disk) use_.rests (subst (λ (f : ℕ). IsOpenIn use_.logs f c.at-log.result.end) (sym file_is) (subst (λ (e : ℕ). IsOpenIn use_.logs (file_of m.last 0) e) (sym end_is) (use_.opened 0 (omega arith) refl)))

pub returns-in_err-append-clause-err : goal.returns-in_err-append-clause-err
returns-in_err-append-clause-err g c = λ tells.
    let m = c.args.self.now.memory in
    let below : 0 < length m.ends.items = omega (arith, four_ends m) in
    let spells : block_of c.deref.result.now ≡ Mark c.args.phase = ap block_of c.deref.ensures.value ∙ c.in_ok-payload.ensures.block in
    on_err c.from_residual-in_err-append.result _ (either_more block_of m 0 c.deref.result.now (marked c.args.phase (value_in m)) (g.D.Disk.files c.args.self.now.disk) (g.D.Disk.files c.append.new.disk)
    c.at-log.result.file c.at-log.result.end (omega arith) refl (omega (arith, ap (λ (l : LogPlace). l.file) c.at-log.ensures)) (ap (λ (l : LogPlace). l.end) c.at-log.ensures ∙ c.index.ensures ∙ get_or_any m.ends.items 0 c.index.result.now 0 below)
    (λ logs means. c.mark_means.ensures block_of (plan_in m) logs (value_in m) c.deref.result.now c.args.phase refl spells c.requires.phase (files_of m.generations) means)
    (c.requires.in_use tells) (c.in_err-append.ensures.err tells))

pub returns-clause-ok : goal.returns-clause-ok
returns-clause-ok g c = λ tells.
    let m = c.args.self.now.memory in
    let below : 0 < length m.ends.items = omega (arith, four_ends m) in
    let spells : block_of c.deref.result.now ≡ Mark c.args.phase = ap block_of c.deref.ensures.value ∙ c.in_ok-payload.ensures.block in
    in_use_more block_of m 0 c.deref.result.now (marked c.args.phase (value_in m)) (g.D.Disk.files c.args.self.now.disk) (g.D.Disk.files c.append.new.disk)
    c.at-log.result.file c.at-log.result.end (omega arith) refl (omega (arith, ap (λ (l : LogPlace). l.file) c.at-log.ensures)) (ap (λ (l : LogPlace). l.end) c.at-log.ensures ∙ c.index.ensures ∙ get_or_any m.ends.items 0 c.index.result.now 0 below)
    (λ logs means. c.mark_means.ensures block_of (plan_in m) logs (value_in m) c.deref.result.now c.args.phase refl spells c.requires.phase (files_of m.generations) means)
    (c.requires.in_use tells) _ c.append.new.log.end refl refl refl (alike_itself (marked c.args.phase (value_in m))) (c.requires.in_use tells).rising
    (get_or-set_same m.ends.items 0 c.end.result 0 below ∙ c.end.ensures) (λ u other. get_or-set_other m.ends.items 0 u c.end.result 0 other)
    (c.in_ok-append.ensures.ok tells)

pub returns-in_err-payload-clause-left : goal.returns-in_err-payload-clause-left
returns-in_err-payload-clause-left g c = λ tells.
    let m = c.args.self.now.memory in
    on_err_weaker _ (either_holding block_of (plan_in m) (λ trail. Holds (plan_in m) trail (value_in m)) (value_in m) (marked c.args.phase (value_in m)) (g.D.Disk.files c.args.self.now.disk) (λ trail h. h) (λ trail h. mark_keeps (plan_in m) trail c.args.phase (value_in m) h))
    (returns-in_err-payload-clause-err g c tells)

pub returns-in_err-append-clause-left : goal.returns-in_err-append-clause-left
returns-in_err-append-clause-left g c = λ tells.
    let m = c.args.self.now.memory in
    on_err_weaker _ (either_holding block_of (plan_in m) (λ trail. Holds (plan_in m) trail (value_in m)) (value_in m) (marked c.args.phase (value_in m)) (g.D.Disk.files c.append.new.disk) (λ trail h. h) (λ trail h. mark_keeps (plan_in m) trail c.args.phase (value_in m) h))
    (returns-in_err-append-clause-err g c tells)

pub returns-clause-held : goal.returns-clause-held
returns-clause-held g c = λ trail h. record { long = h.long; part = h.part; ahead = h.ahead }
