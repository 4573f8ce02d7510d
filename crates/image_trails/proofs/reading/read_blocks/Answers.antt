use Rattle.std.proofs.Common.{ℕ, ◌+◌, subst, arith, rules}
use Rattle.rdf_gatelog.specs.Parsed.{lists_of as payloads_in}
use Rattle.image_disks.specs.Flaws.{IsFirstMisplaced}
use Rattle.image_disks.specs.Spelled.{block_of}
use Rattle.image_trails.specs.Memory.{plan_of}
use Rattle.image_trails.proofs.BlockReads.{none_read, one_read, block_within, first_misplaced, all_read, told_place, behind_all, none_found, some_found}
use Rattle.image_trails.proofs.reading.read_blocks.Goals as goal

pub loop-payload-init : goal.loop-payload-init
loop-payload-init c = none_read (plan_of c.args.layout.now) c.args.trail c.args.place c.args.payloads.now c.args.said c.requires.empty

pub returns-in_default-clause-damaged : goal.returns-in_default-clause-damaged
returns-in_default-clause-damaged c = λ f at is.
    let plan = plan_of c.args.layout.now in
    let r = c.loop-payload in
    let told = told_place c.args.file r.at f at is in
    let not = none_found plan c.args.trail r.so_far c.deref.result.now c.payload-item.result.items c.deref.ensures.value c.in_ok-further.field-0 c.in_default.is c.in_ok-further.ensures.none in (
      told.0,
      subst (λ (n : ℕ). IsFirstMisplaced block_of plan c.args.trail c.args.said.end c.args.place (payloads_in c.args.payloads.now) n) told.1
          (first_misplaced plan c.args.trail c.args.said.end c.args.said.phase c.args.place c.args.payloads.now r.payload-index r.at r.so_far r.invariant c.payload-item.result (search rules) c.payload-item.is not),
    )

pub overflow_add-at-in-loop-payload : goal.overflow_add-at-in-loop-payload
overflow_add-at-in-loop-payload c =
    let r = c.loop-payload in
    omega (arith, block_within (plan_of c.args.layout.now) c.args.trail c.args.said.end c.args.said.phase c.args.place c.args.payloads.now r.payload-index r.at r.so_far r.invariant c.payload-item.result (search rules) c.payload-item.is, c.requires.small, c.len.ensures)

pub loop-payload-preserved : goal.loop-payload-preserved
loop-payload-preserved c =
    let plan = plan_of c.args.layout.now in
    let r = c.loop-payload in
    one_read plan c.args.trail c.args.said.end c.args.said.phase c.args.place c.args.payloads.now r.payload-index r.at r.so_far r.invariant c.payload-item.result (search rules) c.payload-item.is
    (r.at + (5 + c.len.result)) c.in-Some.further (omega (arith, c.len.ensures))
    (some_found plan c.args.trail r.so_far c.deref.result.now c.payload-item.result.items c.deref.ensures.value c.in_ok-further.field-0 c.in-Some.further c.in-Some.is c.in_ok-further.ensures.some)

pub returns-clause-ok : goal.returns-clause-ok
returns-clause-ok c =
    let r = c.loop-payload in
    all_read (plan_of c.args.layout.now) c.args.trail c.args.said.end c.args.said.phase c.args.place c.args.payloads.now r.payload-index r.at r.so_far r.invariant (behind_all c.args.payloads.now r.payload-index (search rules))
