use Rattle.std.proofs.Common.{ℕ, List, Option, Ok, refl, sym, ap, ◌∙◌, subst}
use Rattle.std.specs.Option.{option_copied}
use Rattle.plan_lang.specs.declared.lines.Line.TheVariants as lines
use Rattle.rdf_core.specs.declared.replies.NoWhy.TheVariants as no
use Rattle.rdf_core.specs.declared.replies.Reply.TheVariants.{No}
use Rattle.rdf_backup.specs.declared.session.Met.TheVariants as met
use Rattle.rdf_backup.specs.Replies.{Brings}
use Rattle.rdf_backup.specs.Sessions.{open_of}
use Rattle.rdf_backup.specs.States.{layout_of}
use Rattle.backup_node.specs.Open.{ByMessage, MeetsTrails}
use Rattle.backup_node.proofs.LineLaws.{deliver_stays}
use Rattle.backup_node.proofs.KindLaws.{open_kinds, sent_of}
use Rattle.backup_node.proofs.RestartLaws.{none_there}
use Rattle.backup_node.proofs.OpenLaws.{some_there, stays, meets_trails, stays_none, stays_shut, meets_none}
use Rattle.backup_node.proofs.opening.deliver_in.Goals as goal

pub returns-in-Some-clause-stays : goal.returns-in-Some-clause-stays
returns-in-Some-clause-stays g c = stays g.D.Disk.tells g.D.Disk.files g.D.Disk.counts (λ why. met.Trails why) (open_of c.args.session.now) (open_of c.deliver.new.self) c.requires.goes.going c.deliver.ensures.goes.going c.deliver.result c.deliver.ensures.keeps

pub returns-in-Some-clause-meets : goal.returns-in-Some-clause-meets
returns-in-Some-clause-meets g c = λ unmet n k serves runs.
    subst (λ (m : Option (List ℕ)). MeetsTrails g.D.Disk.tells g.D.Disk.files g.D.Disk.counts (ByMessage m) (lines.Deliver n.name k) c.deliver.result n (open_of c.args.session.now) (open_of c.deliver.new.self)) (sym (ap (λ m. option_copied m) c.in-Some.is))
    (meets_trails g.D.Disk.tells g.D.Disk.files g.D.Disk.counts n (open_of c.args.session.now) (open_of c.deliver.new.self) serves unmet _ (lines.Deliver n.name k) refl refl (λ w s. deliver_stays (layout_of (open_of c.args.session.now).shown) w s n.name k) (λ reply p q h. h) c.deliver.result c.deliver.ensures.keeps
    (let s = sent_of _ c.in-Some.is c.requires.sent in open_kinds n (open_of c.args.session.now) (open_of c.deliver.new.self) c.deliver.result k s.0.from s.0.to (c.deliver.ensures.judged unmet s.0 s.1)) (λ t layout w b names u. c.deliver.ensures.ends t unmet w names.0 n.name k names.1 u.serves (subst (λ y. Brings y w names.0) (sym u.laid) names.2)))

pub returns-then-is_met-clause-stays : goal.returns-then-is_met-clause-stays
returns-then-is_met-clause-stays g c = stays_shut g.D.Disk.tells g.D.Disk.files g.D.Disk.counts (open_of c.args.session.now) (some_there (open_of c.args.session.now).met (sym c.is_met.ensures ∙ c.if-is_met.true))

pub returns-then-is_met-clause-meets : goal.returns-then-is_met-clause-meets
returns-then-is_met-clause-meets g c = λ unmet. absurd (some_there (open_of c.args.session.now).met (sym c.is_met.ensures ∙ c.if-is_met.true) unmet)

pub returns-else-is_met-clause-stays : goal.returns-else-is_met-clause-stays
returns-else-is_met-clause-stays g c =
    stays_none g.D.Disk.tells g.D.Disk.files g.D.Disk.counts (open_of c.args.session.now) c.requires.goes.going (none_there (open_of c.args.session.now).met (sym c.is_met.ensures ∙ c.if-is_met.false)) (No no.Message)

pub returns-else-is_met-clause-meets : goal.returns-else-is_met-clause-meets
returns-else-is_met-clause-meets g c = λ unmet n k serves runs.
    subst (λ (m : Option (List ℕ)). MeetsTrails g.D.Disk.tells g.D.Disk.files g.D.Disk.counts (ByMessage m) (lines.Deliver n.name k) (Ok (No no.Message)) n (open_of c.args.session.now) (open_of c.args.session.now)) (sym (ap (λ m. option_copied m) c.in-None.is))
    (meets_none g.D.Disk.tells g.D.Disk.files g.D.Disk.counts n (open_of c.args.session.now) serves c.requires.goes.going runs k)
