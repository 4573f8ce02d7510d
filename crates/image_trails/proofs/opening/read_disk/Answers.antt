use Rattle.std.proofs.Common.{◌≡◌, ◌+◌, sym, ◌∙◌, ap, subst, rules}
use Rattle.std.proofs.lemmas.Result.{err_from_is_err_and}
use Rattle.rdf_disk.specs.AnswerLaws.{passed_on}
use Rattle.image_disks.specs.Blocks.{Plan}
use Rattle.image_disks.specs.Flaws.{IsFlawIn}
use Rattle.image_disks.specs.Spelled.{block_of}
use Rattle.image_trails.specs.DiskFiles.{logs_of}
use Rattle.image_trails.specs.Memory.{plan_in, plan_of}
use Rattle.image_trails.specs.Opening.{IsReadUpTo}
use Rattle.image_trails.proofs.BlockReads.{told_place}
use Rattle.image_trails.proofs.NextReads.{none_held, empty_read, none_stand, disk_read}
use Rattle.image_trails.proofs.opening.read_disk.Goals as goal

pub loop-number-init : goal.loop-number-init
loop-number-init c =
    let e = c.in_ok-memory.ensures in
    record { layout = e.layout; read = λ within. empty_read (plan_of c.args.layout.now) (logs_of c.args.files.now) c.args.first c.args.end c.args.layout.now c.in_ok-memory.memory e within }

pub returns-in_err-read_next-clause-damaged : goal.returns-in_err-read_next-clause-damaged
returns-in_err-read_next-clause-damaged c = λ within lowest f at is.
    let r = err_from_is_err_and c.from_residual-in_err-read_next.result c.from_residual-in_err-read_next.ensures.1 in
    let i = c.loop-number.invariant in
    let logs = logs_of c.args.files.now in
    let same : plan_in c.loop-number.memory ≡ plan_of c.args.layout.now = ap plan_of i.layout in
    subst (λ (p : Plan). IsFlawIn block_of p logs f at) same
    (c.in_err-read_next.ensures.damaged (subst (λ (p : Plan). IsReadUpTo p logs c.loop-number.number c.loop-number.memory) (sym same) (i.read within)) f at (passed_on _ _ r.0 _ r.1 r.2 is))

pub loop-number-preserved : goal.loop-number-preserved
loop-number-preserved c =
    let i = c.loop-number.invariant in
    let logs = logs_of c.args.files.now in
    let same : plan_in c.loop-number.memory ≡ plan_of c.args.layout.now = ap plan_of i.layout in
    record {
      layout = c.in_ok-read_next.ensures.layout ∙ i.layout;
      read = λ within. subst (λ (p : Plan). IsReadUpTo p logs (c.loop-number.number + 1) c.read_next.new.memory) same
          (c.in_ok-read_next.ensures.ok (subst (λ (p : Plan). IsReadUpTo p logs c.loop-number.number c.loop-number.memory) (sym same) (i.read within)));
    }

pub returns-then-is_empty-clause-damaged : goal.returns-then-is_empty-clause-damaged
returns-then-is_empty-clause-damaged c = λ within lowest f at is.
    let told = told_place c.args.low 0 f at is in
    none_stand (plan_of c.args.layout.now) (logs_of c.args.files.now) c.args.first c.args.end c.loop-number.number c.args.low c.loop-number.memory (c.loop-number.invariant.read within) (none_held c.loop-number.memory.generations c.is_empty.result c.is_empty.ensures c.if-is_empty.true) c.loop-number-test.false within lowest f at told.0 (sym told.1)

pub returns-clause-ok : goal.returns-clause-ok
returns-clause-ok c = λ within.
    disk_read (plan_of c.args.layout.now) (logs_of c.args.files.now) c.args.first c.args.end c.loop-number.number c.loop-number.memory (c.loop-number.invariant.read within) (search rules) c.loop-number-test.false within

pub returns-clause-layout : goal.returns-clause-layout
returns-clause-layout c = c.loop-number.invariant.layout
