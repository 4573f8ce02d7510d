use Rattle.std.proofs.Common.{ℕ, ◌*◌, refl, sym, subst}
use Rattle.rdf_types.specs.declared.records.Phase.{Phase}
use Rattle.rdf_gatelog.specs.Log.{payloads_of}
use Rattle.image_disks.specs.Flaws.{MayStart}
use Rattle.image_disks.specs.Spelled.{block_of}
use Rattle.image_trails.specs.DiskFiles.{logs_of}
use Rattle.image_trails.specs.Memory.{plan_in}
use Rattle.image_trails.proofs.BlockReads.{told_place}
use Rattle.image_trails.proofs.NextReads.{bad_start, none_start, some_start, same_start, follows_of}
use Rattle.image_trails.proofs.opening.read_next.Goals as goal

pub returns-in_default-2-clause-damaged : goal.returns-in_default-2-clause-damaged
returns-in_default-2-clause-damaged c = λ so_far f at is.
    let ps = payloads_of c.in-Some.log.now.payloads in
    let first = c.in-Some-first_payload.ensures.some in
    let told = told_place (4 * c.args.number) 0 f at is in
    bad_start (plan_in c.args.memory.now) (logs_of c.args.files.now) c.args.number f at ps c.in-Some-first_payload.first.now first.0 c.in-Some.ensures first.1 told.0 (sym told.1)
    (λ start phase e may. none_start c.in_ok-start.field-0 _ c.in_default-2.is c.in_ok-start.ensures.none start phase e)

pub returns-then-not-may_follow-clause-damaged : goal.returns-then-not-may_follow-clause-damaged
returns-then-not-may_follow-clause-damaged c = λ so_far f at is.
    let ps = payloads_of c.in-Some.log.now.payloads in
    let first = c.in-Some-first_payload.ensures.some in
    let told = told_place (4 * c.args.number) 0 f at is in
    let n = c.args.number in
    let logs = logs_of c.args.files.now in
    bad_start (plan_in c.args.memory.now) logs n f at ps c.in-Some-first_payload.first.now first.0 c.in-Some.ensures first.1 told.0 (sym told.1)
    (λ start phase e may.
    let same = same_start (block_of c.in-Some-first_payload.first.now) c.in-Some-2.start start c.in-Some-2.phase phase (some_start c.in_ok-start.field-0 c.in-Some-2.start c.in-Some-2.phase c.in-Some-first_payload.first.now c.in-Some-2.is c.in_ok-start.ensures.some) e in
    c.may_follow.ensures.no c.if-not-may_follow.true
    (follows_of (plan_in c.args.memory.now) logs n c.in-Some-2.start c.in-Some-2.phase c.args.memory.now refl so_far
    (subst (λ (s : ℕ). MayStart block_of logs n s c.in-Some-2.phase) (sym same.0) (subst (λ (p : Phase). MayStart block_of logs n start p) (sym same.1) may))))
