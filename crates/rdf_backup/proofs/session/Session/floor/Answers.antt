use Rattle.std.proofs.Common.{◌∙◌, sym, ap, ap₂, map}
use Rattle.image_disks.specs.Values.{received}
use Rattle.image_trails.specs.Trails.{trails_value}
use Rattle.open_txns.specs.Noted.{low_of}
use Rattle.rdf_volume.specs.Views.{restart_of}
use Rattle.rdf_core.specs.Layouts.{least}
use Rattle.rdf_backup.specs.Feeding.{least_of}
use Rattle.rdf_backup.specs.Sessions.{IsPlaceOf, looked_at, shown_in}
use Rattle.rdf_backup.proofs.OpenLaws.{shown_items}
use Rattle.rdf_backup.proofs.PlaceLaws.{placed_many, least_placed}
use Rattle.rdf_backup.proofs.session.Session.floor.Goals as goal

pub least_shown-requires : goal.least_shown-requires
least_shown-requires g c =
    let s = c.args.self.now in
    let xs = looked_at s.flags.now s.watch.volumes s.apart.value.items in
    record { all = c.count_flagged.ensures ∙ placed_many IsPlaceOf 0 s.flags.now xs s.watch.volumes s.apart.value.items c.requires.goes.parted }

pub returns : goal.returns
returns g c =
    let s = c.args.self.now in
    let xs = looked_at s.flags.now s.watch.volumes s.apart.value.items in
    let low_is = c.low-low.ensures ∙ ap₂ (λ x r. low_of x r) (c.requires.goes.txns_are c.requires.unmet) (c.received.ensures ∙ ap (λ t. received (trails_value t)) (c.requires.goes.trails_are c.requires.unmet)) in
    c.least_shown.ensures ∙ ap (λ n. least_of n s.watch.volumes) low_is
    ∙ sym (least_placed 0 s.flags.now xs s.watch.volumes s.apart.value.items (low_of (shown_in s).txns (received (trails_value (shown_in s).trails))) c.requires.goes.parted)
    ∙ ap₂ (λ fs vs. least fs (map (λ volume. restart_of volume) vs) (low_of (shown_in s).txns (received (trails_value (shown_in s).trails)))) c.requires.goes.flags_are (sym (shown_items s c.requires.goes.flags_are c.requires.goes.parted))
