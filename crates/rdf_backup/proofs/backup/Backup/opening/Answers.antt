use Rattle.std.proofs.Common.{◌≤◌, ◌∙◌, ℕ, List, Bool, map, ap, subst}
use Rattle.rdf_types.specs.Entries.{Rises}
use Rattle.rdf_volume.specs.Views.{restart_of}
use Rattle.rdf_core.specs.Layouts.{least}
use Rattle.rdf_backup.specs.Parting.{AllFlagged}
use Rattle.rdf_backup.specs.States.{layout_of}
use Rattle.rdf_backup.proofs.AuditLaws.{since_entries}
use Rattle.rdf_backup.proofs.BeginningLaws.{flagged_at, least_low, least_high}
use Rattle.rdf_backup.proofs.backup.Backup.opening.Goals as goal

pub returns-clause-begins : goal.returns-clause-begins
returns-clause-begins g c =
    let old = c.args.self.now in
    let files = g.D.Disk.files in
    let from = c.least_point-start.result in
    let end = c.received-end.result in
    let is = c.least_point-start.ensures
    ∙ ap (λ (fs : List Bool). least fs (map (λ volume. restart_of volume) c.as_slice.result.now) end) (c.flags-flags.ensures ∙ c.in_ok-protection.ensures)
    ∙ ap (λ vs. least (layout_of old).protect (map (λ volume. restart_of volume) vs) end) c.as_slice.ensures.value
    ∙ ap (λ (n : ℕ). least (layout_of old).protect (map (λ volume. restart_of volume) old.volumes.items) n) c.received-end.ensures in
    let between = c.in_order.ensures.between c.if-not-in_order.false in
    let enter = subst (λ fs. AllFlagged (λ v. (from ≤ restart_of v) × (restart_of v ≤ end)) fs old.volumes.items) c.flags-flags.ensures
    (subst (λ vs. AllFlagged (λ v. (from ≤ restart_of v) × (restart_of v ≤ end)) c.flags-flags.result.now vs) c.as_slice-2.ensures.value between) in
    let own = subst (λ fs. AllFlagged (λ v. (from ≤ restart_of v) × (restart_of v ≤ end)) fs old.volumes.items) c.in_ok-protection.ensures enter in
    record {
      flags_are = c.in_ok-protection.ensures;
      end_is = c.received-end.ensures;
      rises = subst (λ l. Rises from l end) c.as_slice-3.ensures.value (c.in_order.ensures.rises c.if-not-in_order.false);
      enter = enter;
      fed = λ tells trail serves.
          let low = least_low files trail old c.requires.running serves from is in
          let high = least_high files trail old c.requires.running serves from is in (
            record {
              start = from;
              entries_are = since_entries files trail old serves c.in_ok-part.part.items from (c.in_ok-part.ensures.part tells serves.usable) low high;
              early = flagged_at (λ v. (from ≤ restart_of v) × (restart_of v ≤ end)) (λ v. from ≤ restart_of v) (λ v h. h.0) (layout_of old).protect old.volumes.items own;
            },
            high,
          );
    }
