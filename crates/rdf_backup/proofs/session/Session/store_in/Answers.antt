use Rattle.std.proofs.Common.{suc, refl, sym, ap, arith}
use Rattle.volume_sessions.specs.Shown.{Shown}
use Rattle.node_faults.specs.FaultLaws.{named_more}
use Rattle.rdf_backup.specs.declared.session.Met.TheVariants as met
use Rattle.rdf_backup.specs.States.{layout_of}
use Rattle.rdf_backup.specs.Sessions.{open_of, shown_in}
use Rattle.rdf_backup.proofs.OpenLaws.{keeps_met}
use Rattle.rdf_backup.proofs.FeedLaws.{goes_fed, keeps_fed, ends_fed}
use Rattle.rdf_backup.proofs.session.Session.store_in.Goals as goal

pub returns-in-Ok-clause-goes : goal.returns-in-Ok-clause-goes
returns-in-Ok-clause-goes g c =
    goes_fed g.D.Disk.tells g.D.Disk.files g.D.Disk.counts c.args.self.now c.requires.goes c.requires.unmet c.args.ship c.requires.joins c.requires.more c.of.result c.of-in-Ok.result c.max-upto.result (record c.args.self.now.trails { now = c.store.new.trails }) (record c.args.self.now.txns { now = c.store.new.txns }) c.of.ensures c.of-in-Ok.ensures
    c.max-upto.ensures c.in-Ok.ensures.laid c.new_part.result.items c.new_part.ensures.rises c.publish.new.self c.publish.ensures c.in-Ok.ensures.ok c.in-Ok.ensures.moved

pub returns-in-Ok-clause-keeps : goal.returns-in-Ok-clause-keeps
returns-in-Ok-clause-keeps g c =
    keeps_fed g.D.Disk.tells g.D.Disk.files g.D.Disk.counts c.args.self.now c.requires.goes c.requires.unmet c.args.ship c.requires.joins c.requires.more c.of.result c.of-in-Ok.result c.max-upto.result (record c.args.self.now.trails { now = c.store.new.trails }) (record c.args.self.now.txns { now = c.store.new.txns }) c.of.ensures c.of-in-Ok.ensures
    c.max-upto.ensures c.in-Ok.ensures.laid c.new_part.result.items c.new_part.ensures.rises c.publish.new.self c.publish.ensures c.in-Ok.ensures.ok c.in-Ok.ensures.moved (λ why. met.Trails why) c.in-Ok.n c.in-Ok.ensures.cause c.in-Ok.ensures.phase

pub returns-in-Ok-clause-ends : goal.returns-in-Ok-clause-ends
returns-in-Ok-clause-ends g c = λ tells w node k serves brings.
    ends_fed g.D.Disk.tells g.D.Disk.files g.D.Disk.counts c.args.self.now c.requires.goes c.requires.unmet c.args.ship c.requires.joins c.requires.more c.of.result c.of-in-Ok.result c.max-upto.result (record c.args.self.now.trails { now = c.store.new.trails }) (record c.args.self.now.txns { now = c.store.new.txns }) c.of.ensures c.of-in-Ok.ensures
    c.max-upto.ensures c.in-Ok.ensures.laid c.new_part.result.items c.new_part.ensures.rises c.publish.new.self c.publish.ensures c.in-Ok.ensures.ok c.in-Ok.ensures.moved c.requires.spelled c.new_part.ensures.new w node k c.in-Ok.n tells brings
    (c.in-Ok.ensures.ends tells (shown_in c.args.self.now) (sym (c.requires.goes.trails_are c.requires.unmet)) (sym (c.requires.goes.txns_are c.requires.unmet)) w node k (c.requires.goes.going.running tells) serves brings)

pub returns-in-Err-clause-keeps : goal.returns-in-Err-clause-keeps
returns-in-Err-clause-keeps g c =
    let s = c.args.self.now in
    keeps_met g.D.Disk.tells g.D.Disk.files g.D.Disk.counts (λ why. met.Trails why) c.in-Err.fault (open_of s) _ c.requires.unmet
    (record {
      shown = ap (λ (x : Shown g.row.D.Denot). shown_in (record s { watch = x })) c.give_back.ensures;
      entries = ap (λ (x : Shown g.row.D.Denot). x.entries) c.give_back.ensures;
      met = refl;
      cause = c.in-Err.ensures.cause;
      own = c.in-Err.ensures.own;
    })
    c.in-Err.ensures.sound (named_more 1 (suc (layout_of (shown_in s)).volumes) c.in-Err.fault (omega arith) c.in-Err.ensures.own)
