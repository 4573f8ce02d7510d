use Rattle.std.proofs.Common.{◌≡◌, ap, sym, subst, ◌∙◌, List, take, arith}
use Rattle.rdf_types.specs.declared.records.Stamped.{Stamped}
use Rattle.rdf_codec.specs.Ships.{RiseWithin}
use Rattle.image_trails.specs.Memory.{value_in}
use Rattle.copyaudit.specs.Copying.{first_rising}
use Rattle.copyaudit.proofs.Listing.{first_rises, message_is}
use Rattle.copyaudit.proofs.message.message_from.Goals as goal

pub returns-clause-spelled : goal.returns-clause-spelled
returns-clause-spelled g c =
    let cut : c.new.result ≡ first_rising c.args.from c.min-to.result c.in_ok-part.part.items =
    c.new.ensures ∙ c.truncate.ensures.items ∙ ap (λ (l : List Stamped). take c.rising-count.result l) (sym c.deref.ensures.value) ∙ c.rising-count.ensures ∙ ap (λ (l : List Stamped). first_rising c.args.from c.min-to.result l) c.deref.ensures.value in
    record {
      some = omega arith;
      few = omega arith;
      rise = subst (λ (l : List Stamped). RiseWithin c.args.from c.min-to.result l) (sym cut) (first_rises c.args.from c.min-to.result c.in_ok-part.part.items);
    }

pub returns-clause-part : goal.returns-clause-part
returns-clause-part g c = λ tells in_use.
    message_is (value_in c.args.lead.now.memory) c.args.from c.min-to.result c.new.result c.in_ok-part.part.items (omega arith) c.requires.some (c.in_ok-part.ensures tells in_use)
    (c.new.ensures ∙ c.truncate.ensures.items ∙ ap (λ (l : List Stamped). take c.rising-count.result l) (sym c.deref.ensures.value) ∙ c.rising-count.ensures ∙ ap (λ (l : List Stamped). first_rising c.args.from c.min-to.result l) c.deref.ensures.value)
