-- A write in pieces makes a file longer in none of them where it does not in the whole.
use Rattle.std.proofs.Common.{◌≡◌, ⊎_elim, ℕ, ◌+◌, ◌-◌, ◌<◌, ◌≤◌, List, length, take, drop, length-drop, Option, Some, None, refl, sym, subst, arith}
use Rattle.std.proofs.lemmas.List.{length-take}
use Rattle.rdf_disk.specs.Files.{Disk, FileState, bytes_of, patched}
use Rattle.rdf_disk.specs.OutcomeLaws.{length-patched}
use Rattle.folder_disk.specs.Tracked.{Reaches, IsNoted}
use Rattle.folder_disk.proofs.Filling.{IsFilling, either}

reaches_filled : (x : Option (List ℕ)) (end at : ℕ) (part : List ℕ) → at ≤ length (bytes_of x) → Reaches x end → Reaches (Some (patched (bytes_of x) at part)) end
reaches_filled None end at part within reach = absurd reach
reaches_filled (Some b) end at part within reach = omega (arith, reach, length-patched b at (length part) within part refl)

pub noted_filling : (file at : ℕ) (bytes : List ℕ) (done : ℕ) (numbers : List ℕ) (first now : Disk) → done ≤ length bytes → at ≤ length (bytes_of (first file).seen)
    → IsFilling file at bytes done first now → IsNoted numbers file (first file).seen (at + length bytes) → IsNoted numbers file (now file).seen (at + done + length (take (length bytes - done) (drop done bytes)))
noted_filling file at bytes done numbers first now within fits was noted out =
    let end : at + length bytes ≡ at + done + length (take (length bytes - done) (drop done bytes)) = omega (arith, within, length-take (length bytes - done) (drop done bytes), length-drop done bytes) in
    subst (λ (k : ℕ). Reaches (now file).seen k) end (⊎_elim (λ (none : done ≡ 0). begins none) (λ (some : 0 < done). goes_on some) (either done))
  where
    begins : done ≡ 0 → Reaches (now file).seen (at + length bytes)
    begins none = subst (λ (f : FileState). Reaches f.seen (at + length bytes)) (sym (was.none none file)) (noted out)

    goes_on : 0 < done → Reaches (now file).seen (at + length bytes)
    goes_on some = subst (λ (f : FileState). Reaches f.seen (at + length bytes)) (sym ((was.some some).this)) (reaches_filled (first file).seen (at + length bytes) at (take done bytes) fits (noted out))
