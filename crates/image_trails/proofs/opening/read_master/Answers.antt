use Rattle.std.proofs.Common.{ℕ, List, length, map, ap, subst, arith}
use Rattle.rdf_gatelog.specs.Log.{open_blocks, payloads_of}
use Rattle.image_disks.specs.Spelled.{block_of}
use Rattle.image_trails.specs.Memory.{plan_in}
use Rattle.image_trails.specs.Reading.{IsReadOf}
use Rattle.image_trails.proofs.GenerationReads.{rest_is, first_long}
use Rattle.image_trails.proofs.opening.read_master.Goals as goal

pub read_blocks-requires-clause-small : goal.read_blocks-requires-clause-small
read_blocks-requires-clause-small c =
    let log = c.args.log.now in
    let rest = rest_is log.payloads c.deref.result.now c.deref.ensures.value in
    let long = first_long log.payloads c.index.result.now c.requires.some c.index.ensures in
    omega (arith, ap (λ (l : List (List ℕ)). length (open_blocks l)) rest, long, c.len.ensures, log.ends_there, log.small)

pub returns-clause-ok : goal.returns-clause-ok
returns-clause-ok c = λ logs there.
    let log = c.args.log.now in
    let rest = rest_is log.payloads c.deref.result.now c.deref.ensures.value in
    record {
      said = c.in_ok-said.said;
      end = log.end;
      read = subst (λ (l : List (List ℕ)). IsReadOf (plan_in c.args.memory.now) 0 c.args.start c.args.memory.now.phase (map block_of l) c.in_ok-said.said) rest c.in_ok-said.ensures.ok;
      taken = c.in_ok-take.ensures;
      opened = record { payloads = payloads_of log.payloads; there = there; end_is = log.ends_there };
    }
