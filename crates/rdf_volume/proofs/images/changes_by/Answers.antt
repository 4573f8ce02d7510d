use Rattle.std.proofs.Common.{◌≡◌, ◌<◌, ◌∙◌, ◌++◌, ◌∷◌, [], List, Vec, length, ap, sym, arith, length-append}
use Rattle.std.specs.declared.alloc.Global.{Global}
use Rattle.rdf_types.specs.declared.records.Change.{Change}
use Rattle.rdf_volume.specs.Changes.{change_by}
use Rattle.rdf_volume.proofs.ImageLaws.{made_more, made_same}
use Rattle.rdf_volume.proofs.images.changes_by.Goals.{in-Some+in_ok-push-in-Some, in-None}
use Rattle.rdf_volume.proofs.images.changes_by.Goals as goal

pub loop-entry-preserved : goal.loop-entry-preserved
loop-entry-preserved g c =
    let inv = c.loop-entry.invariant in
    let entry = c.entry-item.result in
    let below : c.loop-entry.entry-index < length c.args.entries.now = omega (arith, c.loop-entry-test.true) in
    let made = c.in_ok-change.ensures ∙ ap change_by c.held.ensures in
    elim c.match-branch-3.branch [
      | in-Some+in_ok-push-in-Some w ↦
          let same : c.match-branch-3.changes.items ≡ w.push.new.self.items = ap (λ (b : Vec Change Global). b.items) w.changes-is in
          let pushed : w.push.new.self.items ≡ c.loop-entry.changes.items ++ w.in-Some.change ∷ [] = w.in_ok-push-in-Some.ensures.items in
          record {
            changes = same ∙ made_more change_by g.E.Entry.holds c.args.entries.now c.loop-entry.entry-index entry below c.entry-item.is c.loop-entry.changes.items w.push.new.self.items w.in-Some.change inv.changes (sym w.in-Some.is ∙ made) pushed;
            few = omega (arith, ap (λ (cs : List Change). length cs) same, ap (λ (cs : List Change). length cs) pushed, length-append c.loop-entry.changes.items (w.in-Some.change ∷ []), inv.few);
          }
      | in-None w ↦
          let same : c.match-branch-3.changes.items ≡ c.loop-entry.changes.items = ap (λ (b : Vec Change Global). b.items) w.changes-is in
          record {
            changes = same ∙ made_same change_by g.E.Entry.holds c.args.entries.now c.loop-entry.entry-index entry below c.entry-item.is c.loop-entry.changes.items inv.changes (sym w.in-None.is ∙ made);
            few = omega (arith, ap (λ (cs : List Change). length cs) same, inv.few);
          }
    ]
