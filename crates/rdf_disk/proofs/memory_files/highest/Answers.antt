use Rattle.std.proofs.Common.{◌∙◌, ℕ, List, Option, length, sym, ap}
use Rattle.std.specs.Option.{is_some, option_map}
use Rattle.std.specs.declared.iter.Rev.{Rev}
use Rattle.rdf_disk.specs.MemoryFiles.{told_if, told_at}
use Rattle.rdf_disk.specs.declared.memory_entry.Entry.{Entry}
use Rattle.rdf_disk.proofs.MemorySpans.{left_start, left_none, last_found, left_before_last, highest_last, there_from, gone_from}
use Rattle.rdf_disk.proofs.memory_files.highest.Goals as goal

pub loop-number-init : goal.loop-number-init
loop-number-init c =
    left_start c.args.files.now c.into_iter-number-iterator.result.iter (ap (λ (r : Rev (List (ℕ × Entry))). r.iter) c.into_iter-number-iterator.ensures.into_iter_gives ∙ c.rev-number-items.ensures.source ∙ c.iter.ensures.rest)
    c.iter.ensures.found c.iter.ensures.ordered

pub returns-then-is_some-clause-some : goal.returns-then-is_some-clause-some
returns-then-is_some-clause-some c =
    let n = c.in-Some.number.now in
    let e = c.in-Some.entry.now in
    let found = last_found c.args.files.now c.loop-number.number-iterator.iter c.next.new.self.iter n e c.in-Some.ensures.steps c.loop-number.invariant in
    highest_last c.args.files.now c.loop-number.number-iterator.iter c.next.new.self.iter n e c.in-Some.ensures.steps c.loop-number.invariant
    (there_from (told_at c.args.files.now n).seen (ap (λ (o : Option Entry). is_some (option_map (λ (l : List ℕ). length l) (told_if o).seen)) found ∙ sym (ap (λ (o : Option ℕ). is_some o) c.len.ensures) ∙ sym c.is_some.ensures ∙ c.if-is_some.true))

pub loop-number-preserved : goal.loop-number-preserved
loop-number-preserved c =
    let n = c.in-Some.number.now in
    let e = c.in-Some.entry.now in
    let found = last_found c.args.files.now c.loop-number.number-iterator.iter c.next.new.self.iter n e c.in-Some.ensures.steps c.loop-number.invariant in
    left_before_last c.args.files.now c.loop-number.number-iterator.iter c.next.new.self.iter n e c.in-Some.ensures.steps c.loop-number.invariant
    (gone_from (told_at c.args.files.now n).seen (ap (λ (o : Option Entry). is_some (option_map (λ (l : List ℕ). length l) (told_if o).seen)) found ∙ sym (ap (λ (o : Option ℕ). is_some o) c.len.ensures) ∙ sym c.is_some.ensures ∙ c.if-is_some.false))

pub returns-clause-none : goal.returns-clause-none
returns-clause-none c = left_none c.args.files.now c.loop-number.number-iterator.iter c.in-None.ensures.steps.0 c.loop-number.invariant
