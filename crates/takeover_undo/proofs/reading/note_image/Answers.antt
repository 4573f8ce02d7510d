use Rattle.std.proofs.Common.{◌≡◌, ℕ, List, ap, ◌∙◌, sym, not, true, rules}
use Rattle.std.proofs.lemmas.Result.{on_ok_weaker}
use Rattle.rdf_model.specs.Contents.{place}
use Rattle.rdf_model.specs.Settled.{has}
use Rattle.active_txns.specs.Founds.{noted}
use Rattle.takeover_undo.proofs.Noting.{image_noted, Value}
use Rattle.takeover_undo.proofs.reading.note_image.Goals as goal

pub returns : goal.returns
returns c =
    let i = c.in-Image in
    let old = c.args.befores.now in
    let on_it : c.in-Image.on ≡ c.args.vol = search rules in
    let runs : not (has c.args.ended.now c.in-Image.txn) ≡ true = ap not (sym c.contains.ensures ∙ c.if-contains.false) in
    on_ok_weaker c.note.result
    (λ (done : c.note.new.self ≡ noted old (place c.args.vol c.in_ok-file.file c.in_ok-key.key) c.in_ok-before.before).
    image_noted c.args.vol (λ t. not (has c.args.ended.now t)) c.args.rec.now old i.txn i.on i.file i.key i.before i.after i.is c.note.new.self on_it runs
    (done ∙ ap (λ (f : List ℕ). noted old (place c.args.vol f c.in_ok-key.key) c.in_ok-before.before) c.in_ok-file.ensures ∙ ap (λ (k : List ℕ). noted old (place c.args.vol i.file k) c.in_ok-before.before) c.in_ok-key.ensures
    ∙ ap (λ (v : Value). noted old (place c.args.vol i.file i.key) v) (c.in_ok-before.ensures ∙ c.as_ref.ensures.value)))
    c.note.ensures.ok
