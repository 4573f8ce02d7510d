-- How the counts of disks rose in a takeover.
use Rattle.std.proofs.Common.{◌≡◌, ℕ, zero, suc, false, List, ◌∷◌, Option, Some, None, Err, refl, sym, ap, ◌∙◌, subst}
use Rattle.std.specs.Prelude.{slice_get}
use Rattle.rdf_disk.specs.Counts.{Counts, Causes, Ending}
use Rattle.rdf_disk.specs.Counts.Ending.{Fine}
use Rattle.rdf_gatelog.specs.declared.fault.LogFault.{LogFault}
use Rattle.rdf_gatelog.specs.LogCauses.{NotDamaged}
use Rattle.rdf_gatelog.specs.declared.fault.LogFault.TheVariants as log
use Rattle.node_faults.specs.declared.NodeFault.{NodeFault}
use Rattle.node_faults.specs.Faults.{fault_at, is_damage}
use Rattle.rdf_backup.specs.Replies.{IfBoth}

-- nothing, and then what an answer says
pub both_then : {D : Type 0} (counts : D → Counts) (e : Ending) (o p q : Option D) → IfBoth (λ x y. counts y ≡ counts x) o p → IfBoth (λ x y. Causes e (counts x) (counts y)) p q → IfBoth (λ x y. Causes e (counts x) (counts y)) o q
both_then counts e None None None h g = tt
both_then counts e None None (Some z) h g = absurd g
both_then counts e None (Some y) q h g = absurd h
both_then counts e (Some x) None q h g = absurd h
both_then counts e (Some x) (Some y) None h g = absurd g
both_then counts e (Some x) (Some y) (Some z) h g = subst (λ k. Causes e k (counts z)) h g

pub none_risen : {D : Type 0} (counts : D → Counts) (o : Option D) → IfBoth (λ x y. counts y ≡ counts x) o o
none_risen counts None = tt
none_risen counts (Some x) = refl

-- a step in which none rose, and then one of the whole
pub then_caused : {D : Type 0} (counts : D → Counts) (e : ℕ → Ending) (old between new : List D) → ((i : ℕ) → IfBoth (λ x y. counts y ≡ counts x) (slice_get old i) (slice_get between i)) →
    ((i : ℕ) → IfBoth (λ x y. Causes (e i) (counts x) (counts y)) (slice_get between i) (slice_get new i)) → (i : ℕ) → IfBoth (λ x y. Causes (e i) (counts x) (counts y)) (slice_get old i) (slice_get new i)
then_caused counts e old between new h g i = both_then counts (e i) (slice_get old i) (slice_get between i) (slice_get new i) (h i) (g i)

-- the volumes' disks alone were called
pub volumes_caused : {D : Type 0} (counts : D → Counts) (e : ℕ → Ending) (x y : D) (old new : List D) → counts y ≡ counts x → e 0 ≡ Fine → ((i : ℕ) → IfBoth (λ x y. Causes (e (suc i)) (counts x) (counts y)) (slice_get old i) (slice_get new i)) →
    (i : ℕ) → IfBoth (λ x y. Causes (e i) (counts x) (counts y)) (slice_get (x ∷ old) i) (slice_get (y ∷ new) i)
volumes_caused counts e x y old new same first each zero = subst (λ k. Causes k (counts x) (counts y)) (sym first) same
volumes_caused counts e x y old new same first each (suc i) = each i

-- a fault that tells of no damage of its disk tells of none of the node
pub sound_at : (n : ℕ) (fault : LogFault) (said : NodeFault) → said ≡ fault_at n fault → NotDamaged {T = Unit {0}} (Err fault) → is_damage said ≡ false
sound_at n fault said is h = ap (λ f. is_damage f) is ∙ by_case fault h
  where
    by_case : (f : LogFault) → NotDamaged {T = Unit {0}} (Err f) → is_damage (fault_at n f) ≡ false
    by_case log.Stopped g = refl
    by_case log.Failed g = refl
    by_case log.NoMemory g = refl
    by_case (log.Damaged file at) g = absurd (g file at refl)
