use Rattle.std.proofs.Common.{rules, ◌≡◌, ◌+◌, suc, ◌∙◌, refl, sym, subst, arith, ℕ, ap}
use Rattle.std.proofs.lemmas.Grind.{common_steps}
use Rattle.std.proofs.lemmas.Option.{slice_get_read}
use Rattle.rdf_disk.specs.Counts.{Causes}
use Rattle.rdf_disk.specs.Counts.Ending.{Fine}
use Rattle.rdf_volume.specs.Views.{disk_of}
use Rattle.node_faults.specs.Faults.{ending_at}
use Rattle.node_faults.specs.FaultLaws.{fault_named}
use Rattle.rdf_backup.specs.States.{layout_of}
use Rattle.rdf_backup.proofs.TakingLists.{in_use_there, in_use_set}
use Rattle.rdf_backup.proofs.Looking.{looked_goes, looked_breaks, looked_caused, fault_here, fault_elsewhere}
use Rattle.rdf_core.specs.declared.replies.Reply.{Reply}
use Rattle.rdf_core.specs.declared.replies.Reply.TheVariants.{Rows}
use Rattle.rdf_backup.proofs.backup.Backup.rows.Goals as goal

pub scan-requires : goal.scan-requires
scan-requires g c = record {
  in_use = λ tells. in_use_there g.D.Disk.files c.args.self.now.volumes.items c.number-number.result c.index_mut-volume.result.now
      (slice_get_read c.args.self.now.volumes.items _ c.number-number.result c.index_mut-volume.result.now refl (omega (arith, c.requires.there, c.number-number.ensures.value)) c.index_mut-volume.ensures.value)
      (c.requires.usable tells).volume;
}

pub returns-in-Ok-clause-ends : goal.returns-in-Ok-clause-ends
returns-in-Ok-clause-ends g c = λ tells w node serves.
    looked_goes g.D.Disk.files w c.args.self.now _ c.number-number.result c.index_mut-volume.result.now c.scan.new.self
    (slice_get_read c.args.self.now.volumes.items _ c.number-number.result c.index_mut-volume.result.now refl (omega (arith, c.requires.there, c.number-number.ensures.value)) c.index_mut-volume.ensures.value)
    refl refl refl c.in-Ok.ensures.same serves node c.args.vol c.number-number.ensures.value c.requires.still (omega (arith, c.args.self.now.sized, c.requires.there))
    (c.in-Ok.ensures.ok tells) c.position-at.result c.new.result c.position-at.ensures (c.new.ensures ∙ c.in-Ok.ensures.rows tells)

pub returns-in-Err-clause-ends : goal.returns-in-Err-clause-ends
returns-in-Err-clause-ends g c = λ tells w node serves.
    looked_breaks g.D.Disk.files w c.args.self.now _ c.number-number.result c.index_mut-volume.result.now c.scan.new.self
    (slice_get_read c.args.self.now.volumes.items _ c.number-number.result c.index_mut-volume.result.now refl (omega (arith, c.requires.there, c.number-number.ensures.value)) c.index_mut-volume.ensures.value)
    refl refl refl c.in-Err.ensures.same serves node c.args.vol c.number-number.ensures.value c.requires.still (omega (arith, c.args.self.now.sized, c.requires.there))
    (c.in-Err.ensures.err tells)

pub returns-in-Ok-clause-keeps : goal.returns-in-Ok-clause-keeps
returns-in-Ok-clause-keeps g c = record { keeps = record { usable = λ tells. record { trails = (c.requires.usable tells).trails; volume = in_use_set g.D.Disk.files c.args.self.now.volumes.items c.number-number.result c.scan.new.self (c.requires.usable tells).volume (c.in-Ok.ensures.ok tells) }; laid = first_of (search rules, grind (arith, common_steps)); cause = looked_caused g.D.Disk.counts (λ i. Fine) c.args.self.now.trails c.args.self.now.volumes.items c.number-number.result c.index_mut-volume.result.now c.scan.new.self (slice_get_read c.args.self.now.volumes.items _ c.number-number.result c.index_mut-volume.result.now refl (omega (arith, c.requires.there, c.number-number.ensures.value)) c.index_mut-volume.ensures.value) refl c.in-Ok.ensures.cause (λ v other. refl); named = first_of (search rules, grind (arith, common_steps)) }; plain = first_of (search rules, grind (arith, common_steps)); phase = refl }

pub returns-in-Err-clause-keeps : goal.returns-in-Err-clause-keeps
returns-in-Err-clause-keeps g c =
    let n = c.number-number.result in
    let same : n + 1 ≡ suc n = omega arith in
    let elsewhere = fault_elsewhere n (n + 1) c.in-Err.fault c.at_disk.result c.at_disk.ensures same in
    record { keeps = record { usable = first_of (search rules, grind (arith, common_steps)); laid = first_of (search rules, grind (arith, common_steps)); cause = looked_caused g.D.Disk.counts (λ i. ending_at i c.at_disk.result) c.args.self.now.trails c.args.self.now.volumes.items n c.index_mut-volume.result.now c.scan.new.self (slice_get_read c.args.self.now.volumes.items _ n c.index_mut-volume.result.now refl (omega (arith, c.requires.there, c.number-number.ensures.value)) c.index_mut-volume.ensures.value) (elsewhere 0 (λ e. omega (arith, e))) (subst (λ e. Causes e (g.D.Disk.counts (disk_of c.index_mut-volume.result.now)) (g.D.Disk.counts (disk_of c.scan.new.self))) (sym (fault_here n (n + 1) c.in-Err.fault c.at_disk.result c.at_disk.ensures same)) c.in-Err.ensures.cause) (λ v other. elsewhere (suc v) (λ e. other (omega (arith, e)))); named = fault_named (n + 1) (suc (layout_of c.args.self.now).volumes) c.in-Err.fault c.at_disk.result c.at_disk.ensures (omega (arith, c.args.self.now.sized, c.requires.there, c.number-number.ensures.value)) }; plain = first_of (search rules, grind (arith, common_steps)); phase = tt }

pub returns-in-Ok-clause-shown : goal.returns-in-Ok-clause-shown
returns-in-Ok-clause-shown g c = (c.new.result, ap (λ (n : ℕ). let s : Reply = Rows n c.new.result in s) c.position-at.ensures)
