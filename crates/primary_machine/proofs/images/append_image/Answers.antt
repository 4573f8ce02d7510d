use Rattle.std.proofs.Common.{List, [], ◌∷◌, ◌++◌, option_copied, ap, ◌∙◌}
use Rattle.std.specs.FinMap as map
use Rattle.std.specs.FinSet as set
use Rattle.rdf_types.specs.declared.records.RecKey.{RecKey}
use Rattle.rdf_types.specs.declared.records.Record.{Record}
use Rattle.rdf_types.specs.declared.records.Record.TheVariants.{Image}
use Rattle.primary_machine.specs.declared.places.Last.{Last}
use Rattle.primary_machine.proofs.KeptLaws.{kept_image, kept_by}
use Rattle.primary_machine.proofs.images.append_image.Goals as goal

pub returns-clause-kept : goal.returns-clause-kept
returns-clause-kept c =
    let trail = c.args.trail.now.items in
    let k = c.args.key.now in
    let last : Last = record { value = c.args.after; txn = c.args.txn } in
    let before = option_copied c.value.result in
    let e = c.push_reserved.ensures.items ∙ ap (λ (l : List Record). l ++ c.in_ok-record.record ∷ []) c.reserve.ensures.items ∙ ap (λ (r : Record). trail ++ r ∷ []) c.in_ok-record.ensures in
    let f = c.in_ok-note.ensures.places ∙ ap (λ (q : RecKey). map.insert c.args.places.now q last) c.in_ok-place.ensures in
    kept_by c.push_reserved.new.self.items (trail ++ Image c.args.txn k.vol k.file k.key before c.args.after ∷ []) c.note.new.places (map.insert c.args.places.now k last) c.note.new.used (set.insert c.args.used.now c.args.txn)
    e f c.in_ok-note.ensures.used (kept_image trail c.args.places.now c.args.used.now c.args.txn k before c.args.after c.requires)
