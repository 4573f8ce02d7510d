use Rattle.std.proofs.Common.{◌≡◌, ℕ, Bool, List, length, take, drop, sym, ◌∙◌, ap}
use Rattle.std.specs.Cmp.Lexicographic.{pointwise}
use Rattle.rdf_codec.specs.declared.index_entries.IndexEntry.{IndexEntry}
use Rattle.keyed_blocks.specs.Bases.{same_entry}
use Rattle.rdf_volume.proofs.ReadingLaws.{entries_misplaced, entries_read}
use Rattle.rdf_volume.proofs.reading.next_entries.Goals as goal

-- which of the entries that the slice has come next
looked : (entries list items : List IndexEntry) (listed : ℕ) (test : Bool) → list ≡ items → test ≡ pointwise same_entry entries (take (length entries) (drop listed list))
    → pointwise same_entry entries (take (length entries) (drop listed items)) ≡ test
looked entries list items listed test same is = ap (λ (es : List IndexEntry). pointwise same_entry entries (take (length entries) (drop listed es))) (sym same) ∙ sym is

pub returns-then-not-come_next : goal.returns-then-not-come_next
returns-then-not-come_next c = λ before payload at n is.
    entries_misplaced before payload at c.args.read is c.args.entries.now n c.requires.fills.some
    (looked c.args.entries.now c.deref.result.now c.args.read.entries.items c.args.read.listed c.come_next.result c.deref.ensures.value c.come_next.ensures ∙ c.if-not-come_next.true)

pub returns : goal.returns
returns c = λ before payload at n is.
    entries_read before payload at c.args.read is c.args.entries.now n c.requires.fills.some
    (looked c.args.entries.now c.deref.result.now c.args.read.entries.items c.args.read.listed c.come_next.result c.deref.ensures.value c.come_next.ensures ∙ c.if-not-come_next.false)
    c.in-Some.listed (c.in-Some.ensures {u = tt}).1
