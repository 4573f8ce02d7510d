use Rattle.std.proofs.Common.{sym, ap, ◌∙◌, subst}
use Rattle.rdf_types.specs.declared.layout.Layout.{Layout}
use Rattle.rdf_types.specs.declared.records.Node.{Node}
use Rattle.rdf_system.specs.declared.system.System.{System}
use Rattle.rdf_system.specs.Closing.{HasRunIn, IsUnbegunIn}
use Rattle.rdf_system.proofs.SameOpen.{same_self}
use Rattle.rdf_system.proofs.SessionRuns.{ready_in, has_run_in, unbegun_back}
use Rattle.rdf_system.proofs.system.System.in_session.Goals as goal

pub in_session-requires-clause-ready : goal.in_session-requires-clause-ready
in_session-requires-clause-ready g c κs within = ready_in c.args.self c.args.node c.lend-lent.result c.requires.serves c.requires.placed c.lend-lent.ensures.was c.of.result.value c.of.ensures c.lend-lent.new.self c.lend-lent.ensures.rest
    (λ (layout : Layout) (node : Node). g.H.Stretch.Ready c.args.stretch layout node) c.requires.ready

pub stands-requires : goal.stands-requires
stands-requires g c =
    let h = c.in-Ok.ensures.runs in
    record { serves = (h.driven h.opened h.closed (same_self h.opened) (same_self h.closed)).0.lends.primary }

pub returns-in-Ok-clause-runs : goal.returns-in-Ok-clause-runs
returns-in-Ok-clause-runs g c =
    subst (λ (y : System g.row.D.Denot g.D.Disk). HasRunIn g.D.Disk.tells g.D.Disk.files g.D.Disk.counts (g.H.Stretch.Drives c.args.stretch g.D.Disk) c.in-Ok.ended.out.out c.in-Ok.ended.told c.args.self y) (sym c.put_back.ensures)
    (has_run_in c.args.self c.args.node c.lend-lent.result c.requires.serves c.requires.placed c.lend-lent.ensures.was c.requires.open c.nodes_stand.ensures c.nodes_go_on.ensures
    (record { rise = c.volumes_move.ensures.rise; stop = c.volumes_move.ensures.stop; join = c.volumes_move.ensures.join }) c.backup_lifts.ensures c.backup_cut_lifts.ensures c.present_points_go.ensures
    (record { system = c.lend-lent.new.self; lent = c.of.result }) c.in-Ok.ended.out.beside c.of.ensures c.lend-lent.ensures.rest (λ t. c.stands.ensures t)
    _ (g.H.Stretch.Drives c.args.stretch g.D.Disk) c.in-Ok.ended.out c.in-Ok.ended.out.out c.in-Ok.ended.told c.in_session.new.self c.in-Ok.ensures.runs (λ o p e. e o p (same_self o) (same_self p)))

pub returns-in-Err-clause-unbegun : goal.returns-in-Err-clause-unbegun
returns-in-Err-clause-unbegun g c =
    let e = c.in-Err.ensures.unbegun.0 in (
      ap (λ i. i.stretch) e,
      subst (λ (y : System g.row.D.Denot g.D.Disk). IsUnbegunIn g.D.Disk.tells g.D.Disk.files g.D.Disk.counts c.args.self y) (sym c.put_back-in-Err.ensures)
          (unbegun_back c.args.self c.args.node c.lend-lent.result c.requires.serves c.requires.placed c.lend-lent.ensures.was c.nodes_stand.ensures c.in_session.new.self c.in-Err.ensures.unbegun.1 c.in-Err.unbegun.here.beside.system (ap (λ i. i.beside.system) e ∙ c.lend-lent.ensures.rest)),
    )
