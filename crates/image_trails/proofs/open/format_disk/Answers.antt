use Rattle.std.proofs.Common.{◌≡◌, ◌<◌, length, refl, ◌∙◌, ap, arith}
use Rattle.std.proofs.lemmas.List.{get_or-set_same, get_or-set_other}
use Rattle.rdf_types.specs.declared.records.Phase.TheVariants.{Running}
use Rattle.rdf_disk.specs.Files.{settled}
use Rattle.rdf_disk.specs.AnswerLaws.{on_err}
use Rattle.rdf_gatelog.specs.Logs.{Rests, no_logs}
use Rattle.image_disks.specs.Spelled.{block_of}
use Rattle.image_disks.specs.Blocks.{Start}
use Rattle.image_trails.proofs.InUse.{four_ends}
use Rattle.image_trails.proofs.Formed.{fresh_alike, fresh_in_use}
use Rattle.image_trails.specs.Memory.{plan_of}
use Rattle.image_trails.proofs.Unmade.{unmade}
use Rattle.image_trails.proofs.open.format_disk.Goals as goal

pub begin_generation-requires-clause-absent : goal.begin_generation-requires-clause-absent
begin_generation-requires-clause-absent g c = λ tells.
    (no_logs, λ m. c.in_ok-settle.ensures.safe tells m ∙ ap settled (c.requires.blank tells m), λ f far. refl)

pub returns-clause-ok : goal.returns-clause-ok
returns-clause-ok g c = λ tells.
    let h = c.in_ok-memory.ensures in
    let m = c.in_ok-memory.memory in
    let B = block_of in
    let p = c.deref.result.now in
    let end = c.in_ok-end.end in
    let below : 0 < length m.ends.items = omega (arith, four_ends m) in
    let spells : B p ≡ Start c.args.start Running = ap B c.deref.ensures.value ∙ c.in_ok-payload.ensures.block in
    let rests : Rests no_logs (g.D.Disk.files c.settle.new.disk) = λ m. c.in_ok-settle.ensures.safe tells m ∙ ap settled (c.requires.blank tells m) in
    fresh_in_use B _ c.args.layout.now c.args.start end p (g.D.Disk.files c.begin_generation.new.disk) h.layout (fresh_alike m c.args.layout.now c.args.start h) h.files h.last
    (get_or-set_same m.ends.items 0 end 0 below) (λ t tl other. get_or-set_other m.ends.items 0 t end 0 other ∙ h.ends t tl) h.lists spells (c.in_ok-end.ensures.ok tells no_logs rests (λ f far. refl))

pub returns-clause-value : goal.returns-clause-value
returns-clause-value g c = fresh_alike c.in_ok-memory.memory c.args.layout.now c.args.start c.in_ok-memory.ensures

pub returns-in_err-end-clause-err : goal.returns-in_err-end-clause-err
returns-in_err-end-clause-err g c = λ tells.
    let B = block_of in
    let p = c.deref.result.now in
    let spells : B p ≡ Start c.args.start Running = ap B c.deref.ensures.value ∙ c.in_ok-payload.ensures.block in
    let rests : Rests no_logs (g.D.Disk.files c.settle.new.disk) = λ m. c.in_ok-settle.ensures.safe tells m ∙ ap settled (c.requires.blank tells m) in
    on_err c.from_residual-in_err-end.result _ (unmade (plan_of c.args.layout.now) c.args.start p (g.D.Disk.files c.args.disk.now) (g.D.Disk.files c.begin_generation.new.disk) spells
    (c.in_err-end.ensures.err tells no_logs rests (λ f far. refl)))
