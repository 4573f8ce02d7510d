use Rattle.std.proofs.Common.{Ok, ◌∙◌, subst}
use Rattle.std.specs.Option.{option_copied}
use Rattle.rdf_backup.specs.Sessions.{open_of}
use Rattle.rdf_system.specs.declared.session.SessionState.{SessionState}
use Rattle.rdf_system.specs.OpenLines.{DoesOpen}
use Rattle.rdf_system.specs.Opened.{shown, view_of}
use Rattle.rdf_system.proofs.OpenFaults.{own_meets, own_serves}
use Rattle.rdf_system.proofs.OpenFeeds.{IsSuited, own_feeds}
use Rattle.rdf_system.proofs.OpenKeeps.{left_it, noted_it, keeps_left, open_left, session_still}
use Rattle.rdf_system.proofs.OpenMeets.{own_does}
use Rattle.rdf_system.proofs.SessionReads.{Laws}
use Rattle.rdf_system.proofs.ShownSites.{node_serves}
use Rattle.rdf_system.proofs.SiteValues.{beside}
use Rattle.rdf_system.proofs.Suiting.{own_suits}
use Rattle.rdf_system.proofs.open_lines.own_line.Goals as goal

pub returns-in-Ok-clause-keeps : goal.returns-in-Ok-clause-keeps
returns-in-Ok-clause-keeps g c =
    keeps_left (view_of (open_of c.args.session.now) c.args.beside.now) (open_of c.met_by.new.session) c.requires.lends c.met_by.ensures.stays.comes

pub returns-in-Err-clause-keeps : goal.returns-in-Err-clause-keeps
returns-in-Err-clause-keeps g c = keeps_left (view_of (open_of c.args.session.now) c.args.beside.now) (open_of c.met_by.new.session) c.requires.lends c.met_by.ensures.stays.comes

pub returns-in-Ok-clause-does : goal.returns-in-Ok-clause-does
returns-in-Ok-clause-does g c = λ unmet is_open.
    let x = view_of (open_of c.args.session.now) c.args.beside.now in
    let new = open_of c.met_by.new.session in
    let l = c.args.line.now in
    let serves = node_serves x.node x.system g.D.Disk.tells g.D.Disk.files g.D.Disk.counts x.session is_open.serves in
    let suited : IsSuited g.D.Disk.tells g.D.Disk.files x (option_copied c.message_for-message.result) c.args.line.now = λ t layout s is. own_suits (λ y. y.now) c.message_for-message.result c.part_is_part.ensures layout s x.system.layout x.node.name c.args.line.now is.laid c.requires.own c.requires.fits.fits
    (c.message_for-message.ensures.message layout s is.senders) in
    let noted = own_does x is_open new c.nodes_stand.ensures
    (λ t. beside g.D.Disk.files (shown x) (c.stands.ensures t) c.nodes_stand.ensures)
    (record { rise = c.volumes_move.ensures.rise; stop = c.volumes_move.ensures.stop; join = c.volumes_move.ensures.join }) c.backup_lifts.ensures c.backup_cut_lifts.ensures c.present_points_go.ensures
    (option_copied c.message_for-message.result) c.in-Ok.reply l c.requires.own c.requires.fits.fits suited (c.in-Ok.ensures.meets unmet x.node serves is_open.runs) in
    let phase = (c.in-Ok.ensures.stays.comes x.session.shown is_open.since).phase in
    let does : DoesOpen g.D.Disk.tells g.D.Disk.files g.D.Disk.counts l (Ok c.in-Ok.reply) x (left_it x new) =
    subst (λ (ss : SessionState). DoesOpen g.D.Disk.tells g.D.Disk.files g.D.Disk.counts l (Ok c.in-Ok.reply) x (noted_it x new ss)) (session_still x new is_open (phase ∙ is_open.runs) l c.in-Ok.reply c.requires.own c.requires.fits.fits noted.moved) noted in
    record {
      ends = record { does = does; feeds = own_feeds x is_open new (option_copied c.message_for-message.result) c.in-Ok.reply l c.requires.own c.requires.fits.fits suited (c.in-Ok.ensures.meets unmet x.node serves is_open.runs); unmet = c.in-Ok.ensures.stays.unmet unmet };
      still_open = open_left x new is_open (c.in-Ok.ensures.stays.since unmet) phase does.serves;
    }

pub returns-in-Err-clause-does : goal.returns-in-Err-clause-does
returns-in-Err-clause-does g c = λ unmet is_open.
    let x = view_of (open_of c.args.session.now) c.args.beside.now in
    let new = open_of c.met_by.new.session in
    let serves = node_serves x.node x.system g.D.Disk.tells g.D.Disk.files g.D.Disk.counts x.session is_open.serves in
    let suited : IsSuited g.D.Disk.tells g.D.Disk.files x (option_copied c.message_for-message.result) c.args.line.now = λ t layout s is. own_suits (λ y. y.now) c.message_for-message.result c.part_is_part.ensures layout s x.system.layout x.node.name c.args.line.now is.laid c.requires.own c.requires.fits.fits
    (c.message_for-message.ensures.message layout s is.senders) in
    let laws : Laws = record { rise = c.volumes_move.ensures.rise; stop = c.volumes_move.ensures.stop; join = c.volumes_move.ensures.join } in
    let met = c.in-Err.ensures.meets unmet x.node serves is_open.runs in
    record {
      ends = own_meets x is_open new c.nodes_stand.ensures laws (option_copied c.message_for-message.result) c.in-Err.fault c.args.line.now c.requires.own c.requires.fits.fits suited (c.in-Err.ensures.stays.comes x.session.shown is_open.since).phase met;
      still_open = open_left x new is_open (c.in-Err.ensures.stays.since unmet) (c.in-Err.ensures.stays.comes x.session.shown is_open.since).phase (own_serves x is_open new c.nodes_stand.ensures laws (option_copied c.message_for-message.result) c.in-Err.fault c.args.line.now c.requires.own c.requires.fits.fits met);
    }
