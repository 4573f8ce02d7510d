use Rattle.std.proofs.Common.{◌∙◌, length, sym, ap, subst}
use Rattle.std.proofs.lemmas.List.Elements.{All-from_recursion}
use Rattle.rdf_volume.specs.Views.{InUse}
use Rattle.volume_sessions.specs.Rising.{MayEnter, IsAsGiven}
use Rattle.rdf_backup.specs.Sessions.{MayBegin}
use Rattle.rdf_backup.proofs.BeginningLaws.{as_flagged, placed_fit, few_placed, placed_enter, placed_used, may_open, run_fits, run_ends, fits_many, zip_fits, unbegun}
use Rattle.rdf_backup.proofs.driving.work.Goals as goal

pub run_over-requires-clause-few : goal.run_over-requires-clause-few
run_over-requires-clause-few g c κs within =
    let o = c.args.opening in
    let first = c.args.first.value in
    let fs = c.flags-flags.result.now in
    let begins = subst (λ l. MayBegin g.D.Disk.tells g.D.Disk.files first l o.start o.part.items o.end) (sym c.flags-flags.ensures) c.requires.begins in
    few_placed g.D.Disk.tells g.D.Disk.files first fs o.start o.part.items o.end begins c.requires.usable.1 c.requires.usable.0 c.args.volumes.now.items c.set_apart-placed.result.0.items c.set_apart-placed.result.1.items
    (ap (λ v. v.items) c.requires.same.1) c.set_apart-placed.ensures.parted

pub run_over-requires-clause-enter : goal.run_over-requires-clause-enter
run_over-requires-clause-enter g c κs within =
    let o = c.args.opening in
    let first = c.args.first.value in
    let fs = c.flags-flags.result.now in
    let begins = subst (λ l. MayBegin g.D.Disk.tells g.D.Disk.files first l o.start o.part.items o.end) (sym c.flags-flags.ensures) c.requires.begins in
    All-from_recursion (λ w. MayEnter o.start o.end w) c.set_apart-placed.result.0.items
    (placed_enter g.D.Disk.tells g.D.Disk.files first fs o.start o.part.items o.end begins c.requires.usable.1 c.requires.usable.0 c.args.volumes.now.items c.set_apart-placed.result.0.items c.set_apart-placed.result.1.items
    (ap (λ v. v.items) c.requires.same.1) c.set_apart-placed.ensures.parted)

pub run_over-requires-clause-in_use : goal.run_over-requires-clause-in_use
run_over-requires-clause-in_use g c κs within = λ tells.
    let o = c.args.opening in
    let first = c.args.first.value in
    let fs = c.flags-flags.result.now in
    let begins = subst (λ l. MayBegin g.D.Disk.tells g.D.Disk.files first l o.start o.part.items o.end) (sym c.flags-flags.ensures) c.requires.begins in
    All-from_recursion (λ w. InUse g.D.Disk.files w.volume) c.set_apart-placed.result.0.items
    (placed_used g.D.Disk.tells g.D.Disk.files first fs o.start o.part.items o.end begins c.requires.usable.1 c.requires.usable.0 c.args.volumes.now.items c.set_apart-placed.result.0.items c.set_apart-placed.result.1.items
    (ap (λ v. v.items) c.requires.same.1) c.set_apart-placed.ensures.parted tells)

pub run_over-requires-clause-opens : goal.run_over-requires-clause-opens
run_over-requires-clause-opens g c κs within = λ s opened.
    let o = c.args.opening in
    let first = c.args.first.value in
    let fs = c.flags-flags.result.now in
    let begins = subst (λ l. MayBegin g.D.Disk.tells g.D.Disk.files first l o.start o.part.items o.end) (sym c.flags-flags.ensures) c.requires.begins in
    may_open g.D.Disk.tells g.D.Disk.files first fs o.start o.part.items o.end begins c.requires.usable.1 c.requires.usable.0 c.args.volumes.now.items c.set_apart-placed.result.0.items c.set_apart-placed.result.1.items
    (ap (λ v. v.items) c.requires.same.1) c.set_apart-placed.ensures.parted c.of-aside.result.value.items (ap (λ v. v.items) c.of-aside.ensures) c.args.trails.now c.args.txns.now c.requires.same.0 c.requires.same.2 s opened

pub put_back-fault-requires-clause-fits : goal.put_back-fault-requires-clause-fits
put_back-fault-requires-clause-fits g c =
    run_fits g.D.Disk.tells g.D.Disk.files g.D.Disk.counts _ c.args.first.value c.flags-flags.result.now c.of-aside.result.value.items _ _ _ _ _ _ _ _ _ c.in-Ok.ensures.ran c.set_apart-placed.result.1.items (ap (λ v. v.items) c.of-aside.ensures)

pub returns-in-Ok-clause-many : goal.returns-in-Ok-clause-many
returns-in-Ok-clause-many g c =
    let o = c.args.opening in
    let first = c.args.first.value in
    let fs = c.flags-flags.result.now in
    let begins = subst (λ l. MayBegin g.D.Disk.tells g.D.Disk.files first l o.start o.part.items o.end) (sym c.flags-flags.ensures) c.requires.begins in
    let fits = run_fits g.D.Disk.tells g.D.Disk.files g.D.Disk.counts _ first fs c.of-aside.result.value.items _ _ _ _ _ _ _ _ _ c.in-Ok.ensures.ran c.set_apart-placed.result.1.items (ap (λ v. v.items) c.of-aside.ensures) in
    ap (λ l. length l) c.put_back-fault.ensures.volumes ∙ fits_many (λ l. l.volume) fs _ c.set_apart-placed.result.1.items fits
    ∙ as_flagged g.D.Disk.tells g.D.Disk.files first fs o.start o.part.items o.end begins c.requires.usable.1 c.requires.usable.0 c.args.volumes.now.items (ap (λ v. v.items) c.requires.same.1)

pub returns-in-Ok-clause-runs : goal.returns-in-Ok-clause-runs
returns-in-Ok-clause-runs g c = λ new trails items txns.
    let o = c.args.opening in
    let first = c.args.first.value in
    let fs = c.flags-flags.result.now in
    let begins = subst (λ l. MayBegin g.D.Disk.tells g.D.Disk.files first l o.start o.part.items o.end) (sym c.flags-flags.ensures) c.requires.begins in
    run_ends g.D.Disk.tells g.D.Disk.files g.D.Disk.counts _ first fs c.of-aside.result.value.items _ _ _ _ _ _ _ _ _ c.in-Ok.ensures.ran begins c.applied_shows.ensures c.step_applies.ensures
    c.received.result c.received.ensures c.trails_told.result c.put_back-fault.result c.told_end-end.result c.trails_told.ensures c.put_back-fault.ensures.first c.told_end-end.ensures
    c.set_apart-placed.result.1.items (ap (λ v. v.items) c.of-aside.ensures) new trails txns (items ∙ c.put_back-fault.ensures.volumes)

pub put_back-requires-clause-fits : goal.put_back-requires-clause-fits
put_back-requires-clause-fits g c =
    let o = c.args.opening in
    let first = c.args.first.value in
    let fs = c.flags-flags.result.now in
    let begins = subst (λ l. MayBegin g.D.Disk.tells g.D.Disk.files first l o.start o.part.items o.end) (sym c.flags-flags.ensures) c.requires.begins in
    zip_fits (IsAsGiven g.D.Disk.tells g.D.Disk.files g.D.Disk.counts) fs c.set_apart-placed.result.0.items _ c.set_apart-placed.result.1.items
    (placed_fit g.D.Disk.tells g.D.Disk.files first fs o.start o.part.items o.end begins c.requires.usable.1 c.requires.usable.0 c.args.volumes.now.items c.set_apart-placed.result.0.items c.set_apart-placed.result.1.items
    (ap (λ v. v.items) c.requires.same.1) c.set_apart-placed.ensures.parted) c.in-Err.ensures.not.given

pub returns-clause-many : goal.returns-clause-many
returns-clause-many g c =
    let o = c.args.opening in
    let first = c.args.first.value in
    let fs = c.flags-flags.result.now in
    let begins = subst (λ l. MayBegin g.D.Disk.tells g.D.Disk.files first l o.start o.part.items o.end) (sym c.flags-flags.ensures) c.requires.begins in
    let fits = zip_fits (IsAsGiven g.D.Disk.tells g.D.Disk.files g.D.Disk.counts) fs c.set_apart-placed.result.0.items _ c.set_apart-placed.result.1.items
    (placed_fit g.D.Disk.tells g.D.Disk.files first fs o.start o.part.items o.end begins c.requires.usable.1 c.requires.usable.0 c.args.volumes.now.items c.set_apart-placed.result.0.items c.set_apart-placed.result.1.items
    (ap (λ v. v.items) c.requires.same.1) c.set_apart-placed.ensures.parted) c.in-Err.ensures.not.given in
    ap (λ l. length l) c.put_back.ensures.volumes ∙ fits_many (λ w. w.volume) fs _ c.set_apart-placed.result.1.items fits
    ∙ as_flagged g.D.Disk.tells g.D.Disk.files first fs o.start o.part.items o.end begins c.requires.usable.1 c.requires.usable.0 c.args.volumes.now.items (ap (λ v. v.items) c.requires.same.1)

pub returns-clause-unbegun : goal.returns-clause-unbegun
returns-clause-unbegun g c = λ new trails items txns.
    let given = c.in-Err.ensures.not in (
      given.here_is,
      unbegun g.D.Disk.tells g.D.Disk.files g.D.Disk.counts c.flags-flags.result.now c.args.volumes.now.items c.set_apart-placed.result.1.items c.set_apart-placed.result.0.items _ c.args.first.value new c.requires.usable.1
          (ap (λ v. v.items) c.requires.same.1) c.set_apart-placed.ensures.parted given.given (trails ∙ given.trails_are ∙ c.requires.same.0) (txns ∙ given.txns_are ∙ c.requires.same.2) (items ∙ c.put_back.ensures.volumes),
    )
