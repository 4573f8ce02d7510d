use Rattle.std.proofs.Common.{◌∙◌, None, refl, ap}
use Rattle.image_trails.specs.Trails.{trails_disk}
use Rattle.rdf_backup.specs.declared.session.Session.{Session}
use Rattle.rdf_backup.specs.Sessions.{open_of}
use Rattle.rdf_backup.proofs.OpeningSession.{first_trails, first_items, may_begin}
use Rattle.rdf_backup.proofs.driving.drive_with.Goals as goal

pub drive-out-requires : goal.drive-out-requires
drive-out-requires g c =
    let s : Session g.row.D.Denot g.D.Disk = record { first = c.args.what.first; apart = c.args.what.apart; trails_shown = c.of.result; txns_shown = c.of-2.result; flags = c.args.what.flags; watch = c.args.watch; end = c.args.what.end; trails = c.args.what.trails; txns = c.args.what.txns; met = None } in
    record { ready = c.requires.ready; goes = may_begin g.D.Disk.tells g.D.Disk.files s c.requires.opens c.of.ensures c.of-2.ensures }

pub returns-clause-drives : goal.returns-clause-drives
returns-clause-drives g c =
    let s : Session g.row.D.Denot g.D.Disk = record { first = c.args.what.first; apart = c.args.what.apart; trails_shown = c.of.result; txns_shown = c.of-2.result; flags = c.args.what.flags; watch = c.args.watch; end = c.args.what.end; trails = c.args.what.trails; txns = c.args.what.txns; met = None } in
    record {
      opened = open_of s;
      closed = c.drive-out.new.session;
      trails_shown = first_trails g.D.Disk.tells g.D.Disk.files s c.requires.opens c.of.ensures c.of-2.ensures;
      volumes_shown = first_items g.D.Disk.tells g.D.Disk.files s c.requires.opens c.of.ensures c.of-2.ensures;
      txns_shown = c.of-2.ensures ∙ c.requires.opens.txns_are;
      disk_is = ap (λ t. trails_disk t) c.requires.opens.trails_are;
      entries_are = refl;
      unmet = refl;
      driven = c.drive-out.ensures.drives;
      comes = c.drive-out.ensures.comes;
      goes = c.drive-out.ensures.goes;
      first_is = ap (λ p. p.first) c.drive-out.ensures.same_places;
      flags_are = ap (λ p. p.flags) c.drive-out.ensures.same_places;
      apart_is = ap (λ p. p.apart) c.drive-out.ensures.same_places;
      watch_is = refl;
      met_is = refl;
      trails_are = refl;
      txns_are = refl;
    }
