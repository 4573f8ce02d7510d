use Rattle.std.proofs.Common.{sym, ◌∙◌}
use Rattle.primary_machine.specs.Kept.{value_in}
use Rattle.primary_machine.proofs.FoundLaws.{known_on, first_on, first_off}
use Rattle.primary_machine.proofs.images.append_noted.Goals as goal

pub returns-then-has_at-clause-found : goal.returns-then-has_at-clause-found
returns-then-has_at-clause-found c =
    known_on c.append_image.result c.args.trail.now.items c.append_image.new.trail.items c.args.founds.now c.args.txn c.args.key.now c.args.after
    c.append_image.ensures.ok c.append_image.ensures.err c.requires.running c.requires.found (sym c.has_at.ensures ∙ c.if-has_at.true)

pub returns-then-is_err-clause-found : goal.returns-then-is_err-clause-found
returns-then-is_err-clause-found c =
    first_off c.append_image-done.result c.args.trail.now.items c.append_image-done.new.trail.items c.args.founds.now c.note_found.new.founds c.forget.new.self c.args.txn c.args.key.now (value_in c.args.places.now c.args.key.now)
    c.append_image-done.ensures.err (c.if-is_err.ensures.value) c.requires.found (sym c.has_at.ensures ∙ c.if-has_at.false) c.in_ok-note_found.ensures.ok c.forget.ensures

pub returns-else-is_err-clause-found : goal.returns-else-is_err-clause-found
returns-else-is_err-clause-found c =
    first_on c.append_image-done.result c.args.trail.now.items c.append_image-done.new.trail.items c.args.founds.now c.note_found.new.founds c.args.txn c.args.key.now (value_in c.args.places.now c.args.key.now) c.args.after
    c.append_image-done.ensures.ok (c.if-is_err.ensures.value) c.requires.running c.requires.found (c.requires.kept.values c.args.key.now) c.in_ok-note_found.ensures.ok
