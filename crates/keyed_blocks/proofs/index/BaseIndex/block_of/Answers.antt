use Rattle.std.proofs.Common.{◌≡◌, ◌+◌, ◌-◌, ◌<◌, ap, arith, length, slice_get, Some, sym, inl, inr}
use Rattle.std.proofs.lemmas.Option.{slice_get_cases}
use Rattle.keyed_blocks.proofs.IndexLaws.{block_has, none_there, none_found, next_found, last_found}
use Rattle.keyed_blocks.proofs.index.BaseIndex.block_of.Goals as goal

pub returns-then-upto-eq0-clause-none : goal.returns-then-upto-eq0-clause-none
returns-then-upto-eq0-clause-none c = λ all payloads x.
    sym (none_there c.args.self.now all payloads x (c.args.file.now, c.args.key.now)
    (none_found c.args.self.now c.self.inside.entries.items c.deref.result.now c.self.view_is c.deref.ensures.value (c.args.file.now, c.args.key.now) c.entries_upto-upto.result c.entries_upto-upto.ensures.next
    (omega (arith, c.if-upto-eq0.true))))

pub returns-clause-some : goal.returns-clause-some
returns-clause-some c = λ all payloads x own here.
    let n = c.entries_upto-upto.result - 1 in
    let more : n + 1 ≡ c.entries_upto-upto.result = omega (arith, c.if-upto-eq0.false) in
    elim (slice_get_cases c.args.self.now n).1 [
      | inl there ↦ block_has c.args.self.now all payloads x (c.args.file.now, c.args.key.now) n there.0 there.2
          (last_found c.args.self.now c.self.inside.entries.items c.deref.result.now c.self.view_is c.deref.ensures.value (c.args.file.now, c.args.key.now) c.entries_upto-upto.result c.entries_upto-upto.ensures.last n there.0 more there.2)
          (next_found c.args.self.now c.self.inside.entries.items c.deref.result.now c.self.view_is c.deref.ensures.value (c.args.file.now, c.args.key.now) c.entries_upto-upto.result c.entries_upto-upto.ensures.next n more)
          own here
      | inr past ↦ absurd (omega (arith, past.0, c.entries_upto-upto.ensures.within, c.if-upto-eq0.false, ap length c.self.view_is, ap length c.deref.ensures.value))
    ]
