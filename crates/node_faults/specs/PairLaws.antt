-- Laws of disks that are opened, each with the one at its place afterwards.
use Rattle.std.proofs.Common.{◌≡◌, ℕ, suc, ◌+◌, ◌<◌, List, [], ◌∷◌, ◌++◌, length, Option, Some, None, refl, sym, ap, ◌∙◌, subst, arith}
use Rattle.rdf_disk.specs.Counts.{Counts, Causes}
use Rattle.rdf_disk.specs.Counts.Ending.{Fine}
use Rattle.rdf_gatelog.specs.declared.fault.LogFault.{LogFault}
use Rattle.rdf_gatelog.specs.declared.fault.LogFault.TheVariants as log
use Rattle.rdf_gatelog.specs.LogCauses.{ending_of_fault}
use Rattle.node_faults.specs.declared.NodeFault.{NodeFault}
use Rattle.node_faults.specs.declared.NodeFault.TheVariants as node
use Rattle.node_faults.specs.Faults.{fault_at}
use Rattle.node_faults.specs.FaultLaws.{ending_here, ending_elsewhere}
use Rattle.node_faults.specs.Openings.{IsNoDamage, ending_if, Pairs, IsCaused, AreCaused, Rises, IsRaised, AreRaised}

module _ {D : Type 0} (Goes : ℕ → Option NodeFault → D → D → Type 0) where
  -- one more disk behind the others
  pub pairs_last : (n : ℕ) (f : Option NodeFault) (xs ys : List D) (x y : D) → Pairs Goes n f xs ys → Goes (n + length xs) f x y → Pairs Goes n f (xs ++ x ∷ []) (ys ++ y ∷ [])
  pairs_last n f [] [] x y h g = (subst (λ m. Goes m f x y) (let e : n + 0 ≡ n = omega arith in e) g, tt)
  pairs_last n f [] (b ∷ ys) x y h g = absurd h
  pairs_last n f (a ∷ xs) [] x y h g = absurd h
  pairs_last n f (a ∷ xs) (b ∷ ys) x y h g = (h.0, pairs_last (suc n) f xs ys x y h.1 (subst (λ m. Goes m f x y) (let e : n + suc (length xs) ≡ suc n + length xs = omega arith in e) g))

  -- the same with another fault
  pub pairs_turn : (n : ℕ) (f g : Option NodeFault) (xs ys : List D) → ((i : ℕ) (x y : D) → i < n + length xs → Goes i f x y → Goes i g x y) → Pairs Goes n f xs ys → Pairs Goes n g xs ys
  pairs_turn n f g [] [] turn h = tt
  pairs_turn n f g [] (b ∷ ys) turn h = absurd h
  pairs_turn n f g (a ∷ xs) [] turn h = absurd h
  pairs_turn n f g (a ∷ xs) (b ∷ ys) turn h = (turn n a b (omega arith) h.0, pairs_turn (suc n) f g xs ys (λ i x y few. turn i x y (omega arith)) h.1)

  -- there are as many afterwards
  pub pairs_many : (n : ℕ) (f : Option NodeFault) (xs ys : List D) → Pairs Goes n f xs ys → length ys ≡ length xs
  pairs_many n f [] [] h = refl
  pairs_many n f [] (b ∷ ys) h = absurd h
  pairs_many n f (a ∷ xs) [] h = absurd h
  pairs_many n f (a ∷ xs) (b ∷ ys) h = ap suc (pairs_many (suc n) f xs ys h.1)

-- a disk for which nothing ended otherwise than well counts the same
pub same_caused : {D : Type 0} (counts : D → Counts) (n : ℕ) (f : Option NodeFault) (x : D) → ending_if n f ≡ Fine → IsCaused counts n f x x
same_caused counts n f x fine = subst (λ e. Causes e (counts x) (counts x)) (sym fine) refl

-- a fault of a later disk leaves what the counts tell of an earlier one
pub later_caused : {D : Type 0} (counts : D → Counts) (i n : ℕ) (fault : LogFault) (x y : D) → i < n → IsCaused counts i None x y → IsCaused counts i (Some (fault_at n fault)) x y
later_caused counts i n fault x y few g = subst (λ e. Causes e (counts x) (counts y)) (sym (ending_elsewhere i n fault (λ e. absurd (omega arith)))) g

-- the fault of a disk has its cause in the counts of that disk
pub here_caused : {D : Type 0} (counts : D → Counts) (n : ℕ) (fault : LogFault) (x y : D) → Causes (ending_of_fault fault) (counts x) (counts y) → IsCaused counts n (Some (fault_at n fault)) x y
here_caused counts n fault x y c = subst (λ e. Causes e (counts x) (counts y)) (sym (ending_here n fault)) c

-- want of memory leaves what the counts tell
pub caused_memory : {D : Type 0} (counts : D → Counts) (n : ℕ) (xs ys : List D) → Pairs (IsCaused counts) n None xs ys → Pairs (IsCaused counts) n (Some node.NoMemory) xs ys
caused_memory counts n [] [] h = tt
caused_memory counts n [] (y ∷ ys) h = absurd h
caused_memory counts n (x ∷ xs) [] h = absurd h
caused_memory counts n (x ∷ xs) (y ∷ ys) h = (h.0, caused_memory counts (suc n) xs ys h.1)

-- disks that were not called count the same
pub caused_none : {D : Type 0} (counts : D → Counts) (n : ℕ) (xs : List D) → Pairs (IsCaused counts) n None xs xs
caused_none counts n [] = tt
caused_none counts n (x ∷ xs) = (refl, caused_none counts (suc n) xs)

-- and so do those behind the first disk, where that one had a fault
pub caused_first : {D : Type 0} (counts : D → Counts) (fault : LogFault) (n : ℕ) (xs : List D) → 0 < n → Pairs (IsCaused counts) n (Some (fault_at 0 fault)) xs xs
caused_first counts fault n [] some = tt
caused_first counts fault n (x ∷ xs) some = (subst (λ e. Causes e (counts x) (counts x)) (sym (ending_elsewhere n 0 fault (λ e. absurd (omega arith)))) refl, caused_first counts fault (suc n) xs (omega arith))

-- the first disk had a fault, and the others were not called
pub first_failed : {D : Type 0} (counts : D → Counts) (fault : LogFault) (said : NodeFault) (first after : D) (all rest back : List D) → said ≡ fault_at 0 fault → all ≡ first ∷ rest → back ≡ after ∷ rest →
    Causes (ending_of_fault fault) (counts first) (counts after) → AreCaused counts (Some said) all back
first_failed {D = D} counts fault said first after all rest back is split backs cause =
    subst (λ (l : List D). AreCaused counts (Some said) l back) (sym split) (subst (λ (l : List D). AreCaused counts (Some said) (first ∷ rest) l) (sym backs)
    (subst (λ s. AreCaused counts (Some s) (first ∷ rest) (after ∷ rest)) (sym is) (here_caused counts 0 fault first after cause, caused_first counts fault 1 rest (omega arith))))

-- disks behind the first one, where that one had a fault
pub raised_others : {D : Type 0} (counts : D → Counts) (fault : LogFault) (n : ℕ) (xs : List D) → 0 < n → Pairs (IsRaised counts) n (Some (fault_at 0 fault)) xs xs
raised_others counts fault n [] some = tt
raised_others counts fault n (x ∷ xs) some = (
  subst (λ e. Rises e (counts x) (counts x)) (sym (ending_elsewhere n 0 fault (λ e. absurd (omega arith)))) (refl, refl, refl),
  raised_others counts fault (suc n) xs (omega arith),
)

-- the first disk, which may have been turned on, had a fault, and the others were not called
pub raised_first : {D : Type 0} (counts : D → Counts) (fault : LogFault) (said : NodeFault) (first after : D) (all rest back : List D) → said ≡ fault_at 0 fault → all ≡ first ∷ rest → back ≡ after ∷ rest →
    Rises (ending_of_fault fault) (counts first) (counts after) → AreRaised counts (Some said) all back
raised_first {D = D} counts fault said first after all rest back is split backs rises =
    subst (λ (l : List D). AreRaised counts (Some said) l back) (sym split) (subst (λ (l : List D). AreRaised counts (Some said) (first ∷ rest) l) (sym backs)
    (subst (λ (s : NodeFault). AreRaised counts (Some s) (first ∷ rest) (after ∷ rest)) (sym is) (subst (λ e. Rises e (counts first) (counts after)) (sym (ending_here 0 fault)) rises, raised_others counts fault 1 rest (omega arith))))

-- a fault of opening a disk that tells of no damage
pub no_damage : (n : ℕ) (fault : LogFault) (said : NodeFault) → said ≡ fault_at n fault → ((file at : ℕ) → fault ≡ log.Damaged file at → ⊥) → IsNoDamage (Some said)
no_damage n fault said is sound disk file at e = by_case fault sound (sym is ∙ same said (node.Damaged disk file at) e)
  where
    same : (a b : NodeFault) → (let o : Option NodeFault = Some a in o ≡ Some b) → a ≡ b
    same a b e = cc

    by_case : (f : LogFault) → ((file at : ℕ) → f ≡ log.Damaged file at → ⊥) → fault_at n f ≡ node.Damaged disk file at → ⊥
    by_case log.Stopped s e = cc
    by_case log.Failed s e = cc
    by_case log.NoMemory s e = cc
    by_case (log.Damaged f p) s e = s f p refl
