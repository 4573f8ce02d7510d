use Rattle.std.proofs.Common.{◌≡◌, ◌<◌, ◌∙◌, ◌++◌, ◌∷◌, [], List, Vec, length, ap, sym, arith, length-append}
use Rattle.std.specs.declared.alloc.Global.{Global}
use Rattle.rdf_types.specs.declared.records.Change.{Change}
use Rattle.rdf_types.specs.declared.records.Record.{Record}
use Rattle.rdf_volume.specs.Changes.{change_on}
use Rattle.rdf_volume.proofs.ImageLaws.{made_more, made_same}
use Rattle.rdf_volume.proofs.images.next_batch.Goals.{in-Some+in_ok-push-in-Some, in-None}
use Rattle.rdf_volume.proofs.images.next_batch.Goals as goal

pub loop-i-preserved : goal.loop-i-preserved
loop-i-preserved g c =
    let inv = c.loop-i.invariant in
    let entry = c.index-entries-i.result in
    let below : c.loop-i.i < length c.args.entries.now = omega (arith, c.loop-i-test.true) in
    let made = c.in_ok-change.ensures ∙ ap (λ (r : Record). change_on c.args.vol r) c.held.ensures in
    elim c.match-branch-2.branch [
      | in-Some+in_ok-push-in-Some w ↦
          let same : c.match-branch-2.batch.items ≡ w.push.new.self.items = ap (λ (b : Vec Change Global). b.items) w.batch-is in
          let pushed : w.push.new.self.items ≡ c.loop-i.batch.items ++ w.in-Some.change ∷ [] = w.in_ok-push-in-Some.ensures.items in
          record {
            changes = same ∙ made_more (change_on c.args.vol) g.E.Entry.holds c.args.entries.now c.loop-i.i entry below c.index-entries-i.is c.loop-i.batch.items w.push.new.self.items w.in-Some.change inv.changes (sym w.in-Some.is ∙ made) pushed;
            few = omega (arith, ap (λ (cs : List Change). length cs) same, ap (λ (cs : List Change). length cs) pushed, length-append c.loop-i.batch.items (w.in-Some.change ∷ []), inv.few, c.if-len-eq-MOST.false, c.len.ensures);
          }
      | in-None w ↦
          let same : c.match-branch-2.batch.items ≡ c.loop-i.batch.items = ap (λ (b : Vec Change Global). b.items) w.batch-is in
          record {
            changes = same ∙ made_same (change_on c.args.vol) g.E.Entry.holds c.args.entries.now c.loop-i.i entry below c.index-entries-i.is c.loop-i.batch.items inv.changes (sym w.in-None.is ∙ made);
            few = omega (arith, ap (λ (cs : List Change). length cs) same, inv.few);
          }
    ]
