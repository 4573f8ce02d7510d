use Rattle.std.proofs.Common.{ℕ, List, Option, Some, Ok, refl, sym, ap, subst}
use Rattle.std.specs.Option.{option_copied}
use Rattle.plan_lang.specs.declared.lines.Line.TheVariants as lines
use Rattle.rdf_backup.specs.States.{layout_of}
use Rattle.rdf_backup.specs.Replies.{Brings}
use Rattle.rdf_core.specs.declared.replies.Reply.TheVariants.{No}
use Rattle.backup_node.specs.Kinds.{IsOfRange}
use Rattle.backup_node.specs.Lines.{Performs, Names, Does}
use Rattle.backup_node.proofs.LineLaws.{deliver_stays}
use Rattle.backup_node.proofs.DownLaws.{miss_refused}
use Rattle.backup_node.proofs.KindLaws.{deliver_judged, deliver_replied, down_judged, miss_judged, miss_replied, sent_of, settled_still}
use Rattle.backup_node.proofs.DoesLaws.{down_does, refuse_does, settled_line}
use Rattle.backup_node.proofs.node.BackupNode.deliver.Goals as goal

pub returns-in-None-clause-does : goal.returns-in-None-clause-does
returns-in-None-clause-does g c = λ k. down_does g.D.Disk.tells g.D.Disk.files g.D.Disk.counts c.args.self.now c.requires.serves (lines.Deliver c.args.self.now.name k) _ _ c.take.ensures.after c.in-None.ensures.value refl (λ layout w b. refl) refl

pub returns-in-Some-message-clause-does : goal.returns-in-Some-message-clause-does
returns-in-Some-message-clause-does g c = λ k.
    subst (λ (m : Option (List ℕ)). Does g.D.Disk.tells g.D.Disk.files g.D.Disk.counts (Performs g.D.Disk.files (Names m)) (lines.Deliver c.args.self.now.name k) c.settled.result c.args.self.now c.settled.new.self) (sym (ap (λ m. option_copied m) c.in-Some-message.is))
    (settled_line g.D.Disk.tells g.D.Disk.files g.D.Disk.counts c.args.self.now c.settled.new.self c.in-Some.backup c.deliver-outcome.new.self (lines.Deliver c.args.self.now.name k) refl c.in-Some.ensures.value c.requires.serves c.deliver-outcome.result c.settled.result c.settled.ensures.settles c.settled.ensures.sized c.settled.ensures.named
    c.deliver-outcome.ensures.keeps.cause c.deliver-outcome.ensures.keeps.usable c.deliver-outcome.ensures.keeps.named c.deliver-outcome.ensures.keeps.plain c.deliver-outcome.ensures.keeps.phase (λ reply p q h. h) c.deliver-outcome.ensures.keeps.laid (let s = sent_of _ c.in-Some-message.is c.requires.sent in (deliver_replied g.D.Disk.tells g.D.Disk.files g.D.Disk.counts c.args.self.now c.settled.new.self c.in-Some.backup c.deliver-outcome.new.self c.deliver-outcome.result c.settled.result c.settled.ensures.settles k s.0.from s.0.to (c.deliver-outcome.ensures.judged s.0 s.1)))
    _ (λ t. c.deliver-outcome.ensures.sound) (settled_still g.D.Disk.tells g.D.Disk.files g.D.Disk.counts c.args.self.now c.settled.new.self c.in-Some.backup c.deliver-outcome.new.self c.deliver-outcome.result c.settled.result c.settled.ensures.settles c.settled.ensures.stays c.deliver-outcome.ensures.refused) refl (λ w s. deliver_stays (layout_of c.in-Some.backup) w s c.args.self.now.name k)
    (λ t layout w b names u. c.deliver-outcome.ensures.ends t w names.0 c.args.self.now.name k names.1 u.serves (subst (λ y. Brings y w names.0) (sym u.laid) names.2)))

pub returns-in-None-message-clause-does : goal.returns-in-None-message-clause-does
returns-in-None-message-clause-does g c = λ k.
    subst (λ (m : Option (List ℕ)). Does g.D.Disk.tells g.D.Disk.files g.D.Disk.counts (Performs g.D.Disk.files (Names m)) (lines.Deliver c.args.self.now.name k) (Ok (No c.no_message-why.result)) c.args.self.now (record c.args.self.now { backup = Some c.in-Some.backup })) (sym (ap (λ m. option_copied m) c.in-None-message.is))
    (refuse_does g.D.Disk.tells g.D.Disk.files g.D.Disk.counts c.args.self.now c.requires.serves (lines.Deliver c.args.self.now.name k) _ c.in-Some.backup c.in-Some.ensures.value refl c.no_message-why.result (miss_replied c.args.self.now c.in-Some.backup k c.phase.result c.phase.ensures c.no_message-why.result c.no_message-why.ensures)
    (λ layout w b none u. miss_refused g.D.Disk.files layout w b c.in-Some.backup c.args.self.now.name k u none c.phase.result c.phase.ensures c.no_message-why.result c.no_message-why.ensures))

pub returns-in-None-clause-judged : goal.returns-in-None-clause-judged
returns-in-None-clause-judged g c = λ k range of. down_judged c.args.self.now c.in-None.ensures.value k range

pub returns-in-Some-message-clause-judged : goal.returns-in-Some-message-clause-judged
returns-in-Some-message-clause-judged g c = λ k range of. let s = subst (λ (m : Option (List ℕ)). IsOfRange m range) (ap (λ m. option_copied m) c.in-Some-message.is) of in deliver_judged g.D.Disk.tells g.D.Disk.files g.D.Disk.counts c.args.self.now c.settled.new.self c.in-Some.backup c.deliver-outcome.new.self c.in-Some.ensures.value c.deliver-outcome.result c.settled.result c.settled.ensures.settles k s.0.from s.0.to range s.2 (c.deliver-outcome.ensures.judged s.0 s.1)

pub returns-in-None-message-clause-judged : goal.returns-in-None-message-clause-judged
returns-in-None-message-clause-judged g c = λ k range of. miss_judged c.args.self.now c.in-Some.backup c.in-Some.ensures.value k range (subst (λ (m : Option (List ℕ)). IsOfRange m range) (ap (λ m. option_copied m) c.in-None-message.is) of) c.phase.result c.phase.ensures c.no_message-why.result c.no_message-why.ensures
