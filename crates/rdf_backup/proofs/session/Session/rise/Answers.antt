use Rattle.std.proofs.Common.{◌∙◌, sym, ap, subst}
use Rattle.volume_sessions.specs.Shown.{Shown}
use Rattle.volume_sessions.specs.Rising.{AreRisen}
use Rattle.rdf_backup.specs.Sessions.{open_of}
use Rattle.rdf_backup.proofs.NotedLaws.{some_met, rises_not, goes_noted, rises_noted}
use Rattle.rdf_backup.proofs.OpenLaws.{none_met}
use Rattle.rdf_backup.proofs.session.Session.rise.Goals as goal

pub accept-requires-clause-open : goal.accept-requires-clause-open
accept-requires-clause-open g c = ap (λ (x : Shown g.row.D.Denot). x.lent) c.ask.ensures.same ∙ c.requires.goes.unlent

pub accept-requires-clause-risen : goal.accept-requires-clause-risen
accept-requires-clause-risen g c =
    subst (λ (x : Shown g.row.D.Denot). AreRisen g.D.Disk.tells g.D.Disk.files g.D.Disk.counts x.entries x.end x.volumes c.ask.new.self.noted) (sym c.ask.ensures.same) c.ask.ensures.noted

pub returns-then-is_some-clause-rises : goal.returns-then-is_some-clause-rises
returns-then-is_some-clause-rises g c =
    rises_not g.D.Disk.tells g.D.Disk.files g.D.Disk.counts (open_of c.args.self.now) (some_met c.args.self.now.met (sym c.is_some.ensures ∙ c.if-is_some.true)) c.requires.goes.going.usable

pub returns-clause-goes : goal.returns-clause-goes
returns-clause-goes g c =
    goes_noted g.D.Disk.tells g.D.Disk.files g.D.Disk.counts c.args.self.now c.requires.goes (none_met c.args.self.now.met c.is_some.result c.is_some.ensures c.if-is_some.false) c.ask.new.self c.accept.new.self c.ask.ensures.same c.ask.ensures.noted c.accept.ensures

pub returns-clause-rises : goal.returns-clause-rises
returns-clause-rises g c =
    rises_noted g.D.Disk.tells g.D.Disk.files g.D.Disk.counts c.args.self.now c.requires.goes (none_met c.args.self.now.met c.is_some.result c.is_some.ensures c.if-is_some.false) c.ask.new.self c.accept.new.self c.ask.ensures.same c.ask.ensures.noted c.accept.ensures
    c.applied_shows.ensures c.step_applies.ensures
