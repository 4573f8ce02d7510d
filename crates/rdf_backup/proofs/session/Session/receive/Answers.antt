use Rattle.std.proofs.Common.{◌≤◌, ◌∙◌, ℕ, refl, sym, ap, arith, subst}
use Rattle.volume_sessions.specs.Shown.{Shown}
use Rattle.image_disks.specs.Values.{received}
use Rattle.image_trails.specs.Trails.{trails_value, trails_disk}
use Rattle.plan_lang.specs.declared.lines.Line.TheVariants as line
use Rattle.node_faults.specs.declared.NodeFault.TheVariants.{NoMemory}
use Rattle.rdf_backup.specs.declared.session.Met.TheVariants as met
use Rattle.rdf_types.specs.declared.records.Node.{Node}
use Rattle.rdf_core.specs.Backup.{Around}
use Rattle.rdf_backup.specs.States.{layout_of, Serves}
use Rattle.rdf_backup.specs.Replies.{Brings, BreaksTrails}
use Rattle.rdf_backup.specs.Sessions.{open_of, shown_in, with_watch, KeepsSession, EndsOpen}
use Rattle.rdf_backup.proofs.OpenLaws.{keeps_met}
use Rattle.rdf_backup.proofs.Delivering.{known_goes, unread_breaks}
use Rattle.rdf_backup.proofs.session.Session.receive.Goals as goal

pub returns-then-ship-at-clause-ends : goal.returns-then-ship-at-clause-ends
returns-then-ship-at-clause-ends g c = λ tells w node k serves brings.
    let s = c.args.self.now in
    let is = ap (λ t. received (trails_value t)) (c.requires.goes.trails_are c.requires.unmet) in
    (known_goes g.D.Disk.files w node k (shown_in s) serves c.args.ship c.requires.spelled brings (c.requires.goes.going.running tells) c.received-at.result (omega (arith, is, c.received-at.ensures, c.if-ship-at.true)) (c.received-at.ensures ∙ is), λ fed. fed)

pub returns-in-Ok-clause-keeps : goal.returns-in-Ok-clause-keeps
returns-in-Ok-clause-keeps g c =
    let lent = (c.in-Ok.ensures {u = tt}).ok.2 in
    subst (λ (x : Shown g.row.D.Denot). KeepsSession g.D.Disk.tells g.D.Disk.files g.D.Disk.counts (λ why. met.Trails why) c.store_in.result (open_of (with_watch c.args.self.now x)) (open_of c.store_in.new.self)) lent c.store_in.ensures.keeps

pub returns-in-Ok-clause-ends : goal.returns-in-Ok-clause-ends
returns-in-Ok-clause-ends g c =
    subst (λ (x : Shown g.row.D.Denot). g.D.Disk.tells → (w : Around) (node : Node) (k : ℕ) → Serves g.D.Disk.files w.trail (shown_in (with_watch c.args.self.now x)) → Brings (layout_of (shown_in (with_watch c.args.self.now x))) w c.args.ship →
    EndsOpen g.D.Disk.files w (line.Deliver node k) c.store_in.result (open_of (with_watch c.args.self.now x)) (open_of c.store_in.new.self)) (c.in-Ok.ensures {u = tt}).ok.2 c.store_in.ensures.ends

pub returns-in-Err-clause-keeps : goal.returns-in-Err-clause-keeps
returns-in-Err-clause-keeps g c =
    let s = c.args.self.now in
    let same = (c.in-Err.ensures {u = tt}).refused in
    keeps_met g.D.Disk.tells g.D.Disk.files g.D.Disk.counts (λ why. met.Trails why) NoMemory (open_of s) _ c.requires.unmet
    (record {
      shown = ap (λ (x : Shown g.row.D.Denot). shown_in (record s { watch = x })) same;
      entries = ap (λ (x : Shown g.row.D.Denot). x.entries) same;
      met = refl;
      cause = refl;
      own = tt;
    })
    refl tt

pub returns-in-Err-clause-ends : goal.returns-in-Err-clause-ends
returns-in-Err-clause-ends g c = λ tells w node k serves brings.
    let s = c.args.self.now in
    subst (λ t. BreaksTrails g.D.Disk.files w (line.Deliver node k) (shown_in s) (trails_disk t)) (sym (c.requires.goes.trails_are c.requires.unmet))
    (unread_breaks g.D.Disk.files w node k (shown_in s) serves c.args.ship c.requires.spelled brings (c.requires.goes.going.running tells)
    (subst (λ t. c.args.ship.from ≤ received (trails_value t)) (c.requires.goes.trails_are c.requires.unmet) c.requires.joins))
