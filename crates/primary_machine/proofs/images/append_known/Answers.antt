use Rattle.std.proofs.Common.{List, [], ◌∷◌, ◌++◌, option_copied, sym, subst, ap, ◌∙◌}
use Rattle.std.specs.FinMap as map
use Rattle.rdf_types.specs.declared.records.RecKey.{RecKey}
use Rattle.rdf_types.specs.declared.records.Record.{Record}
use Rattle.rdf_types.specs.declared.records.Record.TheVariants.{Image}
use Rattle.primary_machine.specs.declared.places.Last.{Last}
use Rattle.primary_machine.specs.Kept.{Lasts, AreLast}
use Rattle.primary_machine.specs.Backouts.{set_again}
use Rattle.primary_machine.proofs.KeptLaws.{last_image}
use Rattle.primary_machine.proofs.BackoutLaws.{set_same, set_back}
use Rattle.primary_machine.proofs.images.append_known.Goals as goal

pub returns-in_err-record-clause-again : goal.returns-in_err-record-clause-again
returns-in_err-record-clause-again c = set_same c.args.places.now c.args.key.now

pub returns-in_err-place-clause-again : goal.returns-in_err-place-clause-again
returns-in_err-place-clause-again c = set_same c.args.places.now c.args.key.now

pub returns-in_err-reserve-clause-again : goal.returns-in_err-reserve-clause-again
returns-in_err-reserve-clause-again c = set_same c.args.places.now c.args.key.now

pub returns-in_err-set-clause-again : goal.returns-in_err-set-clause-again
returns-in_err-set-clause-again c =
    ap (λ m. set_again m c.args.key.now (map.get c.args.places.now c.args.key.now)) c.in_err-set.ensures.err ∙ set_same c.args.places.now c.args.key.now

pub returns-clause-last : goal.returns-clause-last
returns-clause-last c =
    let trail = c.args.trail.now.items in
    let k = c.args.key.now in
    let last : Last = record { value = c.args.after; txn = c.args.txn } in
    let before = option_copied c.value.result in
    let e = c.push_reserved.ensures.items ∙ ap (λ (l : List Record). l ++ c.in_ok-record.record ∷ []) c.reserve.ensures.items ∙ ap (λ (r : Record). trail ++ r ∷ []) c.in_ok-record.ensures in
    let f = c.in_ok-set.ensures.ok ∙ ap (λ (q : RecKey). map.insert c.args.places.now q last) c.in_ok-place.ensures in
    λ h. subst (λ (x : List Record). AreLast x c.set.new.self) (sym e)
    (subst (λ (m : Lasts). AreLast (trail ++ Image c.args.txn k.vol k.file k.key before c.args.after ∷ []) m) (sym f) (last_image trail c.args.places.now c.args.txn k before c.args.after h))

pub returns-clause-again : goal.returns-clause-again
returns-clause-again c =
    let last : Last = record { value = c.args.after; txn = c.args.txn } in
    ap (λ m. set_again m c.args.key.now (map.get c.args.places.now c.args.key.now)) (c.in_ok-set.ensures.ok ∙ ap (λ (q : RecKey). map.insert c.args.places.now q last) c.in_ok-place.ensures)
    ∙ set_back c.args.places.now c.args.key.now last
