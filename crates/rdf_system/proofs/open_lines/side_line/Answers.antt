use Rattle.std.proofs.Common.{◌≡◌, true, sym, subst}
use Rattle.plan_lang.specs.declared.lines.Line.{Line}
use Rattle.rdf_backup.specs.Sessions.{open_of}
use Rattle.rdf_core.specs.Allowed.{has_names}
use Rattle.rdf_system.specs.declared.system.System.{System}
use Rattle.rdf_system.specs.NodeLines.{DoesBeside, HasReceived}
use Rattle.rdf_system.specs.Opened.{shown, view_of}
use Rattle.rdf_system.proofs.OpenKinds.{primary_of}
use Rattle.rdf_system.proofs.SiteValues.{beside_for}
use Rattle.rdf_system.proofs.open_lines.side_line.Goals as goal

pub returns-in-Send-clause-does : goal.returns-in-Send-clause-does
returns-in-Send-clause-does g c =
    subst (λ (l : Line). DoesBeside g.D.Disk.tells g.D.Disk.files g.D.Disk.counts (λ (sys : System g.row.D.Denot g.D.Disk). sys ≡ shown (view_of (open_of c.args.session.now) c.args.beside.now)) l c.sent.result c.args.beside.now.system c.sent.new.self) (sym c.in-Send.is)
    (beside_for (λ sys e. tt) c.sent.ensures)

pub returns-in-Rewind-clause-does : goal.returns-in-Rewind-clause-does
returns-in-Rewind-clause-does g c =
    subst (λ (l : Line). DoesBeside g.D.Disk.tells g.D.Disk.files g.D.Disk.counts (λ (sys : System g.row.D.Denot g.D.Disk). sys ≡ shown (view_of (open_of c.args.session.now) c.args.beside.now)) l c.rewound.result c.args.beside.now.system c.rewound.new.self) (sym c.in-Rewind.is)
    (beside_for (λ sys e. tt) c.rewound.ensures)

pub returns-in-Ack-clause-does : goal.returns-in-Ack-clause-does
returns-in-Ack-clause-does g c =
    subst (λ (l : Line). DoesBeside g.D.Disk.tells g.D.Disk.files g.D.Disk.counts (λ (sys : System g.row.D.Denot g.D.Disk). sys ≡ shown (view_of (open_of c.args.session.now) c.args.beside.now)) l c.acked.result c.args.beside.now.system c.acked.new.self) (sym c.in-Ack.is)
    (beside_for (λ sys e. subst (λ (x : System g.row.D.Denot g.D.Disk). HasReceived g.D.Disk.tells g.D.Disk.files c.in-Ack.node c.received_beside-received.result x) (sym e) c.received_beside-received.ensures) c.acked.ensures)

pub returns-in_default-clause-does : goal.returns-in_default-clause-does
returns-in_default-clause-does g c = beside_for (λ sys e. tt) c.at_primary.ensures

pub sent-requires-clause-names : goal.sent-requires-clause-names
sent-requires-clause-names g c = subst (λ (l : Line). has_names c.args.beside.now.system.layout l ≡ true) c.in-Send.is c.requires.fits.names

pub received_beside-received-requires-clause-placed : goal.received_beside-received-requires-clause-placed
received_beside-received-requires-clause-placed g c = subst (λ (l : Line). has_names c.args.beside.now.system.layout l ≡ true) c.in-Ack.is c.requires.fits.names

pub at_primary-requires-clause-own : goal.at_primary-requires-clause-own
at_primary-requires-clause-own g c = primary_of c.args.line.now c.requires.side (λ node most e. c.in_default.not-Send node most e) (λ node e. c.in_default.not-Rewind node e) (λ node e. c.in_default.not-Ack node e)
