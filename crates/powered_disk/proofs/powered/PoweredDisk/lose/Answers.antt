use Rattle.std.proofs.Common.{◌∙◌, ap, subst, ℕ, List, Option}
use Rattle.rdf_disk.specs.Outcomes.{IsOutcome}
use Rattle.rdf_disk.specs.Calls.{AllSettle}
use Rattle.folder_disk.specs.Kept.{files_in}
use Rattle.folder_disk.specs.Names.{IsLeft}
use Rattle.folder_disk.specs.Tracked.{files_if}
use Rattle.folder_disk.specs.declared.meter.Meter.{Meter}
use Rattle.memory_folder.specs.Changes.{names_of}
use Rattle.memory_folder.specs.declared.folder.MemFolder.{MemFolder}
use Rattle.powered_disk.proofs.Powering.{lost_settles}
use Rattle.powered_disk.proofs.powered.PoweredDisk.lose.Goals as goal

-- src/powered.rt:70:5
pub returns-clause-files : goal.returns-clause-files
returns-clause-files c =
    let was = c.args.self.now.disk in
    let may : (m : ℕ) (x : Option (List ℕ)) → IsLeft (names_of c.into_folder-folder.result m) x → IsOutcome (files_in was m) x =
    λ m x left. subst (λ d. IsOutcome (files_in d m) x) c.replace.ensures.value (c.into_folder-folder.ensures.left tt (ap (λ d. d.meter.off) c.replace.ensures.value ∙ c.requires.on) m x left) in
    let cut : AllSettle (files_if c.at.result.meter.off (names_of c.lose_power.new.self)) (files_in c.cut.new.self) =
    subst (λ (f : MemFolder). AllSettle (files_if c.at.result.meter.off (names_of f)) (files_in c.cut.new.self)) c.at.ensures.folder (c.cut.ensures.files tt) in
    lost_settles c.args.self.now.loss (files_in was) (names_of c.into_folder-folder.result) (names_of c.lose_power.new.self) c.at.result.meter.off (files_in c.cut.new.self) may c.lose_power.ensures.names (ap (λ (m : Meter). m.off) c.at.ensures.counts) cut
