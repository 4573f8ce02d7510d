-- What image trails that aren't made leave.
use Rattle.std.proofs.Common.{◌≡◌, ◌⊎◌, inl, inr, ⊎_elim, ℕ, ◌+◌, true, false, ◌==◌, if◌then◌else◌, List, [], ◌∷◌, Some, None, refl}
use Rattle.rdf_disk.specs.Files.{Disk, Contents}
use Rattle.rdf_disk.specs.Outcomes.{Durably}
use Rattle.rdf_gatelog.specs.Logs.{Logs, Reads, no_logs, with_log}
use Rattle.rdf_types.specs.declared.records.Phase.TheVariants.{Running}
use Rattle.image_disks.specs.Blocks.{Plan, Start}
use Rattle.image_disks.specs.Spelled.{block_of}
use Rattle.image_disks.specs.Values.{fresh}
use Rattle.image_disks.specs.ValueLaws.{alike_itself}
use Rattle.image_trails.specs.Generations.{with_trail, with_seconds, begun, before_start, ReadsOne, HasNoBlocks, WasOrBegun}
use Rattle.image_trails.specs.InUseLaws.{means_plain}
use Rattle.image_trails.proofs.Formed.{fresh_means}

-- each log has no blocks
abbrev Bare : Logs → Type 0
Bare logs = (m : ℕ) → (logs m ≡ None) ⊎ (logs m ≡ Some [])

bare_with : (logs : Logs) (file : ℕ) → Bare logs → Bare (with_log logs file (Some []))
bare_with logs file bare m = elim (m == file) as (λ b. ((if b then Some [] else logs m) ≡ None) ⊎ ((if b then Some [] else logs m) ≡ Some [])) [ true ↦ inr refl | false ↦ bare m ]

bare_trail : (plan : Plan) (master t : ℕ) (logs : Logs) → Bare logs → Bare (with_trail plan master t logs)
bare_trail plan master t logs bare = elim (plan.used t) as (λ b. Bare (if b then with_log logs (master + t) (Some []) else logs)) [ true ↦ bare_with logs (master + t) bare | false ↦ bare ]

bare_before : (plan : Plan) (c : Contents) → ReadsOne (before_start plan 0 no_logs) c → HasNoBlocks c
bare_before plan c one =
    let b0 : Bare no_logs = λ m. inl refl in
    let l1 : Logs = with_trail plan 0 1 no_logs in
    let b1 = bare_trail plan 0 1 no_logs b0 in
    let l2 : Logs = with_trail plan 0 2 l1 in
    let b2 = bare_trail plan 0 2 l1 b1 in
    let l3 : Logs = with_seconds plan 0 no_logs in
    let b3 = bare_trail plan 0 3 l2 b2 in
    let l4 : Logs = with_log l3 0 (Some []) in
    let b4 = bare_with l3 0 b3 in
    ⊎_elim (λ (h : Reads no_logs c). (no_logs, h, b0))
    (λ (r : ReadsOne (l1 ∷ l2 ∷ l3 ∷ l4 ∷ []) c). ⊎_elim (λ (h : Reads l1 c). (l1, h, b1))
    (λ (r : ReadsOne (l2 ∷ l3 ∷ l4 ∷ []) c). ⊎_elim (λ (h : Reads l2 c). (l2, h, b2))
    (λ (r : ReadsOne (l3 ∷ l4 ∷ []) c). ⊎_elim (λ (h : Reads l3 c). (l3, h, b3))
    (λ (r : ReadsOne (l4 ∷ []) c). ⊎_elim (λ (h : Reads l4 c). (l4, h, b4)) (λ (none : ⊥). absurd none) r) r) r) r) one

pub unmade : (plan : Plan) (start : ℕ) (p : List ℕ) (old new : Disk) → block_of p ≡ Start start Running → Durably new (λ c. ReadsOne (before_start plan 0 no_logs) c ⊎ Reads (begun plan 0 p no_logs) c) → Durably new (WasOrBegun plan start old)
unmade plan start p old new spells left c may =
    ⊎_elim
    (λ (one : ReadsOne (before_start plan 0 no_logs) c). inr (inl (bare_before plan c one)))
    (λ (h : Reads (begun plan 0 p no_logs) c). inr (inr (begun plan 0 p no_logs, h, means_plain block_of plan (begun plan 0 p no_logs) (0 ∷ []) (fresh start) (fresh_means block_of plan start p spells (fresh start) (alike_itself (fresh start))))))
    (left c may)
