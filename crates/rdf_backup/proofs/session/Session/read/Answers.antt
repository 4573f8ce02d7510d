use Rattle.std.proofs.Common.{rules, ◌≡◌, ◌∙◌, Bool, false, List, length, get_or, Ok, refl, sym, ap, arith}
use Rattle.image_trails.specs.Trails.{trails_value}
use Rattle.rdf_core.specs.declared.replies.Reply.TheVariants.{No}
use Rattle.rdf_core.specs.Layouts.{protects}
use Rattle.rdf_backup.specs.declared.session.Met.TheVariants as met
use Rattle.rdf_backup.specs.States.{layout_of, state_of}
use Rattle.rdf_backup.specs.Replies.{not_running}
use Rattle.rdf_backup.specs.Refusals.{read_refusal}
use Rattle.rdf_backup.specs.Sessions.{open_of, shown_in, IsReadAt}
use Rattle.rdf_backup.proofs.OpenLaws.{keeps_same, none_met}
use Rattle.rdf_backup.proofs.RefusalLaws.{refused_so, read_barred}
use Rattle.rdf_backup.proofs.ReadingLaws.{no_volume, nothing_there}
use Rattle.rdf_backup.proofs.session.Session.read.Goals as goal

pub returns-in-Some-clause-keeps : goal.returns-in-Some-clause-keeps
returns-in-Some-clause-keeps g c =
    keeps_same g.D.Disk.tells g.D.Disk.files g.D.Disk.counts (λ why. met.Volume) (No c.in-Some.why) (open_of c.args.self.now) _ refl (λ node e. cc) c.requires.goes.going.usable
    (λ some. absurd (some (none_met c.args.self.now.met c.is_some.result c.is_some.ensures c.if-is_some.false)))

pub returns-in-Some-clause-judged : goal.returns-in-Some-clause-judged
returns-in-Some-clause-judged g c = λ none.
    let s = c.args.self.now in
    let old = shown_in s in
    let phase_is = c.phase.ensures ∙ ap (λ t. (trails_value t).phase) (c.requires.goes.trails_are none) in
    refused_so (read_refusal (layout_of old) (state_of 0 old) c.args.key.now.vol) c.in-Some.why (IsReadAt (protects (layout_of old) c.args.key.now.vol) c.args.key.now.vol (open_of s)) (Ok (No c.in-Some.why)) (open_of s) _
    (read_barred old 0 c.args.key.now.vol c.in-Some.why (sym (c.bar.ensures ∙ ap (λ p. not_running p) phase_is) ∙ c.in-Some.is)) refl refl

pub returns-then-number-self-clause-reads : goal.returns-then-number-self-clause-reads
returns-then-number-self-clause-reads g c = λ tells none trail serves fed.
    let s = c.args.self.now in
    let many = ap (λ (l : List Bool). length l) c.requires.goes.flags_are ∙ (layout_of (shown_in s)).a_flag_each in
    record { read = no_volume g.D.Disk.files trail (shown_in s) (c.requires.goes.going.running tells) serves c.args.key.now (omega (arith, many, c.number.ensures.value, c.if-number-self.true)); fed = fed }

pub returns-then-not-protected-clause-reads : goal.returns-then-not-protected-clause-reads
returns-then-not-protected-clause-reads g c = λ tells none trail serves fed.
    let s = c.args.self.now in
    let many = ap (λ (l : List Bool). length l) c.requires.goes.flags_are ∙ (layout_of (shown_in s)).a_flag_each in
    let off : c.takes_part-protected.result ≡ false = search rules in
    record {
      read = nothing_there g.D.Disk.files trail (shown_in s) (c.requires.goes.going.running tells) serves c.args.key.now (omega (arith, many, c.number.ensures.value, c.if-number-self.false))
          (ap (λ fs. get_or fs c.args.key.now.vol false) (sym c.requires.goes.flags_are) ∙ sym c.takes_part-protected.ensures ∙ off);
      fed = fed;
    }
