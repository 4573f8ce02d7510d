use Rattle.std.proofs.Common.{ℕ, List, inl, length, map, Vec, sym, ◌∙◌, ap, subst, arith}
use Rattle.std.specs.declared.alloc.Global.{Global}
use Rattle.std.proofs.lemmas.Result.{err_from_is_err_and}
use Rattle.rdf_disk.specs.AnswerLaws.{passed_on}
use Rattle.rdf_gatelog.specs.Log.{open_blocks, payloads_of}
use Rattle.image_disks.specs.Blocks.{end_after}
use Rattle.image_disks.specs.Flaws.{IsFirstMisplaced}
use Rattle.image_disks.specs.Spelled.{block_of}
use Rattle.image_trails.specs.Memory.{plan_in}
use Rattle.image_trails.specs.DiskFiles.{logs_of}
use Rattle.image_trails.specs.Reading.{IsReadOf}
use Rattle.image_trails.proofs.InUse.{get_or_any, four_tops}
use Rattle.image_trails.proofs.GenerationReads.{second_misplaced}
use Rattle.image_trails.proofs.opening.read_second.Goals as goal

pub read_blocks-requires-clause-small : goal.read_blocks-requires-clause-small
read_blocks-requires-clause-small c =
    let log = c.in-Some.log.now in
    omega (arith, ap (λ (l : List (Vec ℕ Global)). length (open_blocks (map (λ p. p.items) l))) c.deref.ensures.value, log.ends_there, log.small)

pub returns-in_err-said-clause-damaged : goal.returns-in_err-said-clause-damaged
returns-in_err-said-clause-damaged c = λ phase rest has received f at is.
    let r = err_from_is_err_and c.from_residual.result c.from_residual.ensures.1 in
    let log = c.in-Some.log.now in
    let d = c.in_err-said.ensures.damaged f at (passed_on _ _ r.0 _ r.1 r.2 is) in
    second_misplaced (plan_in c.args.memory.now) (logs_of c.args.files.now) c.args.number c.args.start phase rest c.args.trail f at (payloads_of log.payloads) has c.requires.trail.0 c.requires.trail.1
    (sym c.is_used.ensures ∙ c.if-not-is_used.false) c.in-Some.ensures d.0
    (subst (λ (l : List (Vec ℕ Global)). IsFirstMisplaced block_of (plan_in c.args.memory.now) c.args.trail c.args.start 0 (map (λ p. p.items) l) at) c.deref.ensures.value d.1)

pub returns-clause-ok : goal.returns-clause-ok
returns-clause-ok c =
    let log = c.in-Some.log.now in
    let m = c.args.memory.now in
    let end_is = c.in_ok-said.ensures.ok.end_is ∙ ap (λ (l : List (Vec ℕ Global)). end_after c.args.start (map block_of (map (λ p. p.items) l))) c.deref.ensures.value in
    let top_is = c.index.ensures ∙ get_or_any m.tops.items 0 c.index.result.now 0 (omega (arith, four_tops m)) in
    inl (
      sym c.is_used.ensures ∙ c.if-not-is_used.false,
      record {
        payloads = payloads_of log.payloads;
        there = c.in-Some.ensures;
        read = record {
          said = c.in_ok-said.said;
          end = log.end;
          read = subst (λ (l : List (Vec ℕ Global)). IsReadOf (plan_in m) c.args.trail c.args.start m.phase (map block_of (map (λ p. p.items) l)) c.in_ok-said.said) c.deref.ensures.value c.in_ok-said.ensures.ok;
          taken = c.in_ok-take.ensures;
          opened = record { payloads = payloads_of log.payloads; there = c.in-Some.ensures; end_is = log.ends_there };
        };
        no_shorter = omega (arith, c.if-said-index.false, end_is, top_is);
      },
    )
