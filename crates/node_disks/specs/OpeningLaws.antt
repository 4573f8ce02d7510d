-- Laws of disks that are opened one after the other.
use Rattle.std.proofs.Common.{◌≡◌, inl, inr, ℕ, zero, suc, ◌+◌, ◌<◌, ◌≤◌, List, [], ◌∷◌, ◌++◌, length, map, take, Option, Some, None, IfSome, refl, sym, ap, ◌∙◌, subst, arith}
use Rattle.std.specs.List.{AllByRecursion}
use Rattle.std.specs.Prelude.{slice_get, get_or, drop}
use Rattle.rdf_disk.specs.Calls.{Same}
use Rattle.rdf_disk.specs.Files.{Disk, Contents}
use Rattle.rdf_disk.specs.Counts.{Counts, Ending, turned_on}
use Rattle.rdf_disk.specs.Outcomes.{Durably, May, seen_of}
use Rattle.rdf_disk.specs.Counts.Ending.{Fine}
use Rattle.rdf_gatelog.specs.declared.fault.LogFault.{LogFault}
use Rattle.rdf_gatelog.specs.LogCauses.{ending_of_fault}
use Rattle.node_faults.specs.declared.NodeFault.{NodeFault}
use Rattle.node_faults.specs.declared.NodeFault.TheVariants as node
use Rattle.node_faults.specs.declared.Shut.{Shut}
use Rattle.node_faults.specs.Faults.{fault_at, ending_at, IsNamed}
use Rattle.node_faults.specs.FaultLaws.{ending_here, ending_elsewhere, fault_named}
use Rattle.node_faults.specs.Openings.{IsNoDamage, ending_if, Pairs, Rises}
use Rattle.node_faults.specs.PairLaws.{pairs_turn}
use Rattle.node_disks.specs.Opening.{HasFault, AreOpened, HasNotBegun, IsNotWhole}

-- a disk with the same files durably stands for the same
pub durably_same : (P : Contents → Type 0) (x y : Disk) → Same x y → Durably x P → Durably y P
durably_same P x y same h c may = h c (λ m. subst (λ f. May f (c m)) (same m) (may m))

-- what it durably stands for is seen on it
pub seen_now : (P : Contents → Type 0) (x y : Disk) → Same x y → Durably x P → P (seen_of y)
seen_now P x y same h = h (seen_of y) (λ m. inl (ap (λ f. f.seen) (same m)))

-- and it shows what the other did
pub seen_same : (x y : Disk) → Same x y → seen_of y ≡ seen_of x
seen_same x y same = λ j m. ap (λ f. f.seen) (same m) j

-- a disk that was turned on counts no fault, stop or fuse more
pub rises_on : (a b : Counts) → b ≡ turned_on a → Rises Fine a b
rises_on a b turned = (ap (λ c. c.faults) turned, ap (λ c. c.stops) turned, ap (λ c. c.fuses) turned)

-- want of memory is no damage
pub no_memory : IsNoDamage (Some node.NoMemory)
no_memory disk file at e = no (same node.NoMemory (node.Damaged disk file at) e)
  where
    same : (a b : NodeFault) → (let o : Option NodeFault = Some a in o ≡ Some b) → a ≡ b
    same a b e = cc

    no : node.NoMemory ≡ node.Damaged disk file at → ⊥
    no e = cc

-- the first fault of some disks, whose places begin with n
pub record IsFaultAmong {D : Type 0} (Fails : ℕ → D → D → LogFault → Type 0) (n : ℕ) (xs : List D) (said : NodeFault) : Type 0 where
  pub place : ℕ
  pub disk : D
  pub after : D
  pub there : slice_get xs place ≡ Some disk
  pub fault : HasFault (Fails (n + place)) (suc (n + place)) disk after said

-- a disk that is there has a place among them
placed : {X : Type 0} (xs : List X) (i : ℕ) (x : X) → slice_get xs i ≡ Some x → i < length xs
placed [] i x h = absurd (no h)
  where
    no : None ≡ Some x → ⊥
    no e = cc
placed (y ∷ xs) zero x h = omega arith
placed (y ∷ xs) (suc i) x h = let few = placed xs i x h in omega (arith, few)

-- the first of some and the others
pub split_first : {X : Type 0} (xs rest : List X) (x : X) → 0 < length xs → x ≡ get_or xs 0 x → rest ≡ take 0 xs ++ drop 1 xs → xs ≡ x ∷ rest
split_first [] rest x many first behind = absurd (omega arith)
split_first (y ∷ ys) rest x many first behind = cc

-- what holds of each holds of the one behind some
pub at_end : {X : Type 0} (xs rest : List X) (x : X) (P : ℕ → X → Type 0) → ((i : ℕ) → IfSome (slice_get (xs ++ x ∷ rest) i) (P i)) → P (length xs) x
at_end [] rest x P h = h zero
at_end (y ∷ xs) rest x P h = at_end xs rest x (λ i. P (suc i)) (λ i. h (suc i))

-- of all that hold of all of them
pub each_of_all : {X : Type 0} (P : X → Type 0) (xs : List X) → AllByRecursion P xs → (i : ℕ) → IfSome (slice_get xs i) P
each_of_all P [] h i = tt
each_of_all P (x ∷ xs) h zero = h.0
each_of_all P (x ∷ xs) h (suc i) = each_of_all P xs h.1 i

-- what holds of each where something is told holds of each so
pub each_where : {X : Type 0} (T : Type 0) (P : ℕ → X → Type 0) (xs : List X) → (T → (i : ℕ) → IfSome (slice_get xs i) (P i)) → (i : ℕ) → IfSome (slice_get xs i) (λ x. T → P i x)
each_where T P [] h i = tt
each_where T P (x ∷ xs) h zero = λ t. h t zero
each_where T P (x ∷ xs) h (suc i) = each_where T (λ j. P (suc j)) xs (λ t j. h t (suc j)) i

-- nothing is asked of it
pub always : {X : Type 0} (o : Option X) → IfSome o (λ x. Unit {0})
always None = tt
always (Some x) = tt

-- what holds of each holds of the others behind the first
pub each_behind : {X : Type 0} (P : ℕ → X → Type 0) (all rest : List X) (x : X) → all ≡ x ∷ rest → ((i : ℕ) → IfSome (slice_get all i) (P i)) → (i : ℕ) → IfSome (slice_get rest i) (P (suc i))
each_behind {X = X} P all rest x split h i = subst (λ (l : List X). (i : ℕ) → IfSome (slice_get l i) (P i)) split h (suc i)

-- what holds of what is made of each
pub each_mapped : {X Y : Type 0} (f : X → Y) (P : ℕ → Y → Type 0) (xs : List X) → ((i : ℕ) → IfSome (slice_get xs i) (λ x. P i (f x))) → (i : ℕ) → IfSome (slice_get (map f xs) i) (P i)
each_mapped f P [] h i = tt
each_mapped f P (x ∷ xs) h zero = h zero
each_mapped f P (x ∷ xs) h (suc i) = each_mapped f (λ j. P (suc j)) xs (λ j. h (suc j)) i

module _ {D V : Type 0} (Opens : ℕ → D → V → Type 0) (Fails : ℕ → D → D → LogFault → Type 0) where
  -- one more disk is open
  pub one_opened : (n : ℕ) (xs : List D) (vs : List V) (left : List D) (x : D) (v : V) → AreOpened Opens Fails n xs vs left None → Opens (n + length xs) x v → AreOpened Opens Fails n (xs ++ x ∷ []) (vs ++ v ∷ []) left None
  one_opened n [] [] [] x v h g = (subst (λ m. Opens m x v) (let e : n + 0 ≡ n = omega arith in e) g, tt)
  one_opened n [] [] (y ∷ left) x v h g = absurd h
  one_opened n [] (w ∷ vs) left x v h g = absurd h
  one_opened n (a ∷ xs) [] [] x v h g = absurd h
  one_opened n (a ∷ xs) [] (y ∷ left) x v h g = absurd h
  one_opened n (a ∷ xs) (w ∷ vs) left x v h g = (h.0, one_opened (suc n) xs vs left x v h.1 (subst (λ m. Opens m x v) (let e : n + suc (length xs) ≡ suc n + length xs = omega arith in e) g))

  -- a disk could not be opened
  pub one_failed : (n : ℕ) (xs : List D) (vs : List V) (left : List D) (x y : D) (said : NodeFault) → AreOpened Opens Fails n xs vs left None → HasFault (Fails (n + length xs)) (suc (n + length xs)) x y said →
      AreOpened Opens Fails n (xs ++ x ∷ []) vs (left ++ y ∷ []) (Some said)
  one_failed n [] [] [] x y said h g = (subst (λ m. HasFault (Fails m) (suc m) x y said) (let e : n + 0 ≡ n = omega arith in e) g, refl)
  one_failed n [] [] (z ∷ left) x y said h g = absurd h
  one_failed n [] (w ∷ vs) left x y said h g = absurd h
  one_failed n (a ∷ xs) [] [] x y said h g = absurd h
  one_failed n (a ∷ xs) [] (z ∷ left) x y said h g = absurd h
  one_failed n (a ∷ xs) (w ∷ vs) left x y said h g = (h.0, one_failed (suc n) xs vs left x y said h.1 (subst (λ m. HasFault (Fails m) (suc m) x y said) (let e : n + suc (length xs) ≡ suc n + length xs = omega arith in e) g))

  -- a disk behind one that could not be opened
  pub one_kept : (n : ℕ) (xs : List D) (vs : List V) (left : List D) (x : D) (said : NodeFault) → AreOpened Opens Fails n xs vs left (Some said) → AreOpened Opens Fails n (xs ++ x ∷ []) vs (left ++ x ∷ []) (Some said)
  one_kept n [] [] [] x said h = absurd h
  one_kept n [] [] (z ∷ left) x said h = absurd h
  one_kept n [] (w ∷ vs) left x said h = absurd h
  one_kept n (a ∷ xs) [] [] x said h = absurd h
  one_kept n (a ∷ xs) [] (z ∷ left) x said h = (h.0, ap (λ l. l ++ x ∷ []) h.1)
  one_kept n (a ∷ xs) (w ∷ vs) left x said h = (h.0, one_kept (suc n) xs vs left x said h.1)

  -- where no disk had a fault all are open
  pub none_left : (n : ℕ) (xs : List D) (vs : List V) (left : List D) (why : Option NodeFault) → why ≡ None → AreOpened Opens Fails n xs vs left why → left ≡ []
  none_left n xs vs left why none is = go n xs vs left (subst (λ f. AreOpened Opens Fails n xs vs left f) none is)
    where
      go : (n : ℕ) (xs : List D) (vs : List V) (left : List D) → AreOpened Opens Fails n xs vs left None → left ≡ []
      go n [] [] [] h = refl
      go n [] [] (y ∷ left) h = absurd h
      go n [] (w ∷ vs) left h = absurd h
      go n (a ∷ xs) [] [] h = absurd h
      go n (a ∷ xs) [] (y ∷ left) h = absurd h
      go n (a ∷ xs) (w ∷ vs) left h = go (suc n) xs vs left h.1

  -- as many come back as there were
  pub all_there : (n : ℕ) (xs : List D) (vs : List V) (left : List D) (why : Option NodeFault) → AreOpened Opens Fails n xs vs left why → length vs + length left ≡ length xs
  all_there n [] [] [] None h = refl
  all_there n [] [] [] (Some said) h = absurd h
  all_there n [] [] (y ∷ left) why h = absurd h
  all_there n [] (w ∷ vs) left why h = absurd h
  all_there n (a ∷ xs) [] [] why h = absurd h
  all_there n (a ∷ xs) [] (y ∷ left) None h = absurd h
  all_there n (a ∷ xs) [] (y ∷ left) (Some said) h = let same = ap (λ (l : List D). length l) h.1 in omega (arith, same)
  all_there n (a ∷ xs) (w ∷ vs) left why h = let rest = all_there (suc n) xs vs left why h.1 in omega (arith, rest)

  -- so many are open
  pub many_open : (n : ℕ) (xs : List D) (vs : List V) (left : List D) (why : Option NodeFault) → why ≡ None → AreOpened Opens Fails n xs vs left why → length vs ≡ length xs
  many_open n xs vs left why none h =
      let all = all_there n xs vs left why h in
      let few = ap (λ (l : List D). length l) (none_left n xs vs left why none h) in
      omega (arith, all, few)

  -- which disk had the fault
  pub fault_among : (n : ℕ) (xs : List D) (vs : List V) (left : List D) (said : NodeFault) → AreOpened Opens Fails n xs vs left (Some said) → IsFaultAmong Fails n xs said
  fault_among n [] [] [] said h = absurd h
  fault_among n [] [] (y ∷ left) said h = absurd h
  fault_among n [] (w ∷ vs) left said h = absurd h
  fault_among n (a ∷ xs) [] [] said h = absurd h
  fault_among n (a ∷ xs) [] (y ∷ left) said h = record {
    place = 0;
    disk = a;
    after = y;
    there = refl;
    fault = subst (λ m. HasFault (Fails m) (suc m) a y said) (let e : n ≡ n + 0 = omega arith in e) h.0;
  }
  fault_among n (a ∷ xs) (w ∷ vs) left said h =
      let r = fault_among (suc n) xs vs left said h.1 in
      record {
        place = suc r.place;
        disk = r.disk;
        after = r.after;
        there = r.there;
        fault = subst (λ m. HasFault (Fails m) (suc m) r.disk r.after said) (let e : suc n + r.place ≡ n + suc r.place = omega arith in e) r.fault;
      }

  -- a fault is none of a disk before the first of them
  pub fine_before : (m n : ℕ) (xs : List D) (vs : List V) (left : List D) (why : Option NodeFault) → m ≤ n → AreOpened Opens Fails n xs vs left why → ending_if m why ≡ Fine
  fine_before m n xs vs left None low h = refl
  fine_before m n xs vs left (Some said) low h =
      let r = fault_among n xs vs left said h in
      ap (λ s. ending_at m s) r.fault.said_is ∙ ending_elsewhere m (suc (n + r.place)) r.fault.fault (λ e. absurd (omega (arith, low, e)))

  -- and of none behind the last
  pub named_among : (n many : ℕ) (xs : List D) (vs : List V) (left : List D) (said : NodeFault) → n + length xs < many → AreOpened Opens Fails n xs vs left (Some said) → IsNamed many said
  named_among n many xs vs left said more h =
      let r = fault_among n xs vs left said h in
      let few = placed xs r.place r.disk r.there in
      fault_named (suc (n + r.place)) many r.fault.fault said r.fault.said_is (omega (arith, more, few))

  -- what is told of each that is open, by what its disk was
  each_open : (n : ℕ) (P : ℕ → D → Type 0) (Q : ℕ → V → Type 0) (xs : List D) (vs : List V) (left : List D) (why : Option NodeFault) → ((i : ℕ) (x : D) (v : V) → P i x → Opens (n + i) x v → Q i v) →
      AreOpened Opens Fails n xs vs left why → ((i : ℕ) → IfSome (slice_get xs i) (λ x. P i x)) → (i : ℕ) → IfSome (slice_get vs i) (λ v. Q i v)
  each_open n P Q xs [] left why f h p i = tt
  each_open n P Q [] (w ∷ vs) left why f h p i = absurd h
  each_open n P Q (x ∷ xs) (w ∷ vs) left why f h p zero = f zero x w (p zero) (subst (λ m. Opens m x w) (let e : n ≡ n + 0 = omega arith in e) h.0)
  each_open n P Q (x ∷ xs) (w ∷ vs) left why f h p (suc i) =
      each_open (suc n) (λ j. P (suc j)) (λ j. Q (suc j)) xs vs left why (λ j y v q o. f (suc j) y v q (subst (λ m. Opens m y v) (let e : suc n + j ≡ n + suc j = omega arith in e) o)) h.1 (λ j. p (suc j)) i

  -- the same of all disks
  pub each_first : (P : ℕ → D → Type 0) (Q : ℕ → V → Type 0) (xs : List D) (vs : List V) (left : List D) (why : Option NodeFault) → ((i : ℕ) (x : D) (v : V) → P i x → Opens i x v → Q i v) →
      AreOpened Opens Fails 0 xs vs left why → ((i : ℕ) → IfSome (slice_get xs i) (λ x. P i x)) → (i : ℕ) → IfSome (slice_get vs i) (λ v. Q i v)
  each_first P Q xs vs left why f = each_open 0 P Q xs vs left why (λ i x v p o. f i x v p (subst (λ m. Opens m x v) (let e : 0 + i ≡ i = omega arith in e) o))

  -- what is told of each that is open
  pub all_open : (Q : ℕ → V → Type 0) (xs : List D) (vs : List V) (left : List D) (why : Option NodeFault) → ((i : ℕ) (x : D) (v : V) → Opens i x v → Q i v) → AreOpened Opens Fails 0 xs vs left why → (i : ℕ) → IfSome (slice_get vs i) (λ v. Q i v)
  all_open Q xs vs left why f h = each_first (λ i x. Unit {0}) Q xs vs left why (λ i x v u o. f i x v o) h (λ i. always (slice_get xs i))

  module _ (first : D) (xs : List D) (vs : List V) (left back : List D) (why : Option NodeFault) (is : AreOpened Opens Fails 0 xs vs left why) (shut : Shut D) (not : IsNotWhole first back why shut) where
    -- the fault is of a disk that is there
    pub whole_named : (many : ℕ) → length xs < many → IsNamed many shut.fault
    whole_named many more = elim not.fault [
      | inl some ↦ named_among 0 many xs vs left shut.fault (omega (arith, more)) (subst (λ w. AreOpened Opens Fails 0 xs vs left w) some is)
      | inr memory ↦ subst (λ f. IsNamed many f) (sym memory.1) tt
    ]

    -- what is told of the disk that had a fault of its own
    pub whole_told : (P : NodeFault → Type 0) → P node.NoMemory → ((i : ℕ) (x y : D) (fault : LogFault) → slice_get xs i ≡ Some x → Fails i x y fault → P (fault_at (suc i) fault)) → P shut.fault
    whole_told P memory f = elim not.fault [
      | inl some ↦ (
          let r = fault_among 0 xs vs left shut.fault (subst (λ w. AreOpened Opens Fails 0 xs vs left w) some is) in
          let h = subst (λ m. HasFault (Fails m) (suc m) r.disk r.after shut.fault) (let e : 0 + r.place ≡ r.place = omega arith in e) r.fault in
          subst (λ s. P s) (sym h.said_is) (f r.place r.disk r.after h.fault r.there h.fails)
          )
      | inr none ↦ subst (λ s. P s) (sym none.1) memory
    ]

-- disks of which none or just the first was called

module _ {D : Type 0} (Fails : D → D → LogFault → Type 0) (disks : List D) (shut : Shut D) (not : HasNotBegun Fails disks shut) where
  -- the fault is of the first disk
  pub first_named : (many : ℕ) → 0 < many → IsNamed many shut.fault
  first_named many some = elim not [
    | inl none ↦ subst (λ f. IsNamed many f) (sym none.1) tt
    | inr r ↦ fault_named 0 many r.fault.fault shut.fault r.fault.said_is some
  ]

  -- what is told of the first disk where it had a fault
  pub first_told : (P : NodeFault → Type 0) → P node.NoMemory → ((x y : D) (rest : List D) (fault : LogFault) → disks ≡ x ∷ rest → Fails x y fault → P (fault_at 0 fault)) → P shut.fault
  first_told P memory f = elim not [
    | inl none ↦ subst (λ s. P s) (sym none.1) memory
    | inr r ↦ subst (λ s. P s) (sym r.fault.said_is) (f r.disk r.after r.rest r.fault.fault r.split r.fault.fails)
  ]

-- what the pairs tell of the disks afterwards
pub pairs_after : {D : Type 0} (Goes : ℕ → Option NodeFault → D → D → Type 0) (Q : D → Type 0) (why : Option NodeFault) → ((n : ℕ) (x y : D) → Goes n why x y → Q y) → (n : ℕ) (xs ys : List D) → Pairs Goes n why xs ys → (i : ℕ) → IfSome (slice_get ys i) Q
pairs_after Goes Q why f n [] [] h i = tt
pairs_after Goes Q why f n [] (y ∷ ys) h i = absurd h
pairs_after Goes Q why f n (x ∷ xs) [] h i = absurd h
pairs_after Goes Q why f n (x ∷ xs) (y ∷ ys) h zero = f n x y h.0
pairs_after Goes Q why f n (x ∷ xs) (y ∷ ys) h (suc i) = pairs_after Goes Q why f (suc n) xs ys h.1 i

-- each disk that is open with the one at its place, where all are open
pub pairs_open : {D V : Type 0} (Opens : ℕ → D → V → Type 0) (Fails : ℕ → D → D → LogFault → Type 0) (disk_of : V → D) (Goes : ℕ → Option NodeFault → D → D → Type 0) → ((n : ℕ) (x : D) (v : V) → Opens n x v → Goes (suc n) None x (disk_of v)) →
    (n : ℕ) (xs : List D) (vs : List V) (left : List D) → AreOpened Opens Fails n xs vs left None → Pairs Goes (suc n) None xs (map disk_of vs)
pairs_open Opens Fails disk_of Goes f n [] [] left h = tt
pairs_open Opens Fails disk_of Goes f n [] (w ∷ vs) left h = absurd h
pairs_open Opens Fails disk_of Goes f n (x ∷ xs) [] [] h = absurd h
pairs_open Opens Fails disk_of Goes f n (x ∷ xs) [] (y ∷ left) h = absurd h
pairs_open Opens Fails disk_of Goes f n (x ∷ xs) (w ∷ vs) left h = (f n x w h.0, pairs_open Opens Fails disk_of Goes f (suc n) xs vs left h.1)

-- and the first of a node with it
pub pairs_whole : {D V : Type 0} (Opens : ℕ → D → V → Type 0) (Fails : ℕ → D → D → LogFault → Type 0) (disk_of : V → D) (Goes : ℕ → Option NodeFault → D → D → Type 0) → ((n : ℕ) (x : D) (v : V) → Opens n x v → Goes (suc n) None x (disk_of v)) →
    (all xs back : List D) (a b : D) (vs : List V) (left : List D) (why : Option NodeFault) → all ≡ a ∷ xs → back ≡ b ∷ map disk_of vs → why ≡ None → Goes 0 None a b → AreOpened Opens Fails 0 xs vs left why → Pairs Goes 0 None all back
pairs_whole {D = D} Opens Fails disk_of Goes f all xs back a b vs left why split is_back none first is =
    subst (λ (l : List D). Pairs Goes 0 None l back) (sym split) (subst (λ (l : List D). Pairs Goes 0 None (a ∷ xs) l) (sym is_back)
    (first, pairs_open Opens Fails disk_of Goes f 0 xs vs left (subst (λ w. AreOpened Opens Fails 0 xs vs left w) none is)))

-- each disk with the one at its place afterwards, by how the opening ended for it

module _ {D : Type 0} (G : ℕ → Ending → D → D → Type 0) (same : (n : ℕ) (x : D) → G n Fine x x) where
  abbrev Goes : ℕ → Option NodeFault → D → D → Type 0
  Goes n why x y = G n (ending_if n why) x y

  -- disks behind one that had a fault
  behind : (n m : ℕ) (said : NodeFault) (fault : LogFault) (xs : List D) → said ≡ fault_at m fault → m < n → Pairs Goes n (Some said) xs xs
  behind n m said fault [] is past = tt
  behind n m said fault (x ∷ xs) is past = (
    subst (λ e. G n e x x) (sym (ap (λ s. ending_at n s) is ∙ ending_elsewhere n m fault (λ e. absurd (omega (arith, past, e))))) (same n x),
    behind (suc n) m said fault xs is (omega (arith, past)),
  )

  -- disks that were not called for want of memory
  uncalled : (n : ℕ) (xs : List D) → Pairs Goes n (Some node.NoMemory) xs xs
  uncalled n [] = tt
  uncalled n (x ∷ xs) = (same n x, uncalled (suc n) xs)

  -- the first disk was opened, and then there was no memory
  pub pairs_first : (all rest back : List D) (a b : D) → all ≡ a ∷ rest → back ≡ b ∷ rest → G 0 Fine a b → Pairs Goes 0 (Some node.NoMemory) all back
  pairs_first all rest back a b split is first = subst (λ (l : List D). Pairs Goes 0 (Some node.NoMemory) l back) (sym split) (subst (λ (l : List D). Pairs Goes 0 (Some node.NoMemory) (a ∷ rest) l) (sym is) (first, uncalled 1 rest))

  -- the first one has a fault, or none was called
  pub pairs_begun : (Fails : D → D → LogFault → Type 0) (disks : List D) (shut : Shut D) → ((x y : D) (fault : LogFault) → Fails x y fault → G 0 (ending_of_fault fault) x y) → HasNotBegun Fails disks shut → Pairs Goes 0 (Some shut.fault) disks shut.disks.items
  pairs_begun Fails disks shut f not = elim not [
    | inl none ↦ subst (λ l. Pairs Goes 0 (Some shut.fault) disks l) (sym none.0) (subst (λ s. Pairs Goes 0 (Some s) disks disks) (sym none.1) (uncalled 0 disks))
    | inr r ↦ subst (λ l. Pairs Goes 0 (Some shut.fault) l shut.disks.items) (sym r.split) (subst (λ l. Pairs Goes 0 (Some shut.fault) (r.disk ∷ r.rest) l) (sym r.back) (
      subst (λ e. G 0 e r.disk r.after) (sym (ap (λ s. ending_at 0 s) r.fault.said_is ∙ ending_here 0 r.fault.fault)) (f r.disk r.after r.fault.fault r.fault.fails),
      behind 1 0 shut.fault r.fault.fault r.rest r.fault.said_is (omega arith),
    ))
  ]

  module _ {V : Type 0} (Opens : ℕ → D → V → Type 0) (Fails : ℕ → D → D → LogFault → Type 0) (disk_of : V → D)
      (opened : (n : ℕ) (x : D) (v : V) → Opens n x v → G (suc n) Fine x (disk_of v)) (failed : (n : ℕ) (x y : D) (fault : LogFault) → Fails n x y fault → G (suc n) (ending_of_fault fault) x y) where
    pairs_opened : (n : ℕ) (xs : List D) (vs : List V) (left : List D) (why : Option NodeFault) → AreOpened Opens Fails n xs vs left why → Pairs Goes (suc n) why xs (map disk_of vs ++ left)
    pairs_opened n [] [] [] None h = tt
    pairs_opened n [] [] [] (Some said) h = absurd h
    pairs_opened n [] [] (y ∷ left) why h = absurd h
    pairs_opened n [] (w ∷ vs) left why h = absurd h
    pairs_opened n (x ∷ xs) [] [] why h = absurd h
    pairs_opened n (x ∷ xs) [] (y ∷ left) None h = absurd h
    pairs_opened n (x ∷ xs) [] (y ∷ left) (Some said) h = (
      subst (λ e. G (suc n) e x y) (sym (ap (λ s. ending_at (suc n) s) h.0.said_is ∙ ending_here (suc n) h.0.fault)) (failed n x y h.0.fault h.0.fails),
      subst (λ (l : List D). Pairs Goes (suc (suc n)) (Some said) xs l) (sym h.1) (behind (suc (suc n)) (suc n) said h.0.fault xs h.0.said_is (omega arith)),
    )
    pairs_opened n (x ∷ xs) (w ∷ vs) left why h = (
      subst (λ e. G (suc n) e x (disk_of w)) (sym (fine_before Opens Fails (suc n) (suc n) xs vs left why (omega arith) h.1)) (opened n x w h.0),
      pairs_opened (suc n) xs vs left why h.1,
    )

    -- one behind the first could not be opened, or what is made of them found no memory
    pub pairs_not_whole : (all xs : List D) (a b : D) (vs : List V) (left : List D) (why : Option NodeFault) (shut : Shut D) → all ≡ a ∷ xs → G 0 Fine a b → AreOpened Opens Fails 0 xs vs left why → IsNotWhole b (map disk_of vs ++ left) why shut →
        Pairs Goes 0 (Some shut.fault) all shut.disks.items
    pairs_not_whole all xs a b vs left why shut split first is not = subst (λ (l : List D). Pairs Goes 0 (Some shut.fault) all l) (sym not.disks) (subst (λ (l : List D). Pairs Goes 0 (Some shut.fault) l back) (sym split) by_cause)
      where
        back : List D
        back = b ∷ map disk_of vs ++ left

        pairs : Pairs Goes 0 why (a ∷ xs) back
        pairs = (subst (λ e. G 0 e a b) (sym (fine_before Opens Fails 0 0 xs vs left why (omega arith) is)) first, pairs_opened 0 xs vs left why is)

        by_cause : Pairs Goes 0 (Some shut.fault) (a ∷ xs) back
        by_cause = elim not.fault [
          | inl some ↦ subst (λ w. Pairs Goes 0 w (a ∷ xs) back) some pairs
          | inr none ↦ subst (λ s. Pairs Goes 0 (Some s) (a ∷ xs) back) (sym none.1) (pairs_turn Goes 0 None (Some node.NoMemory) (a ∷ xs) back (λ i x y few g. g) (subst (λ w. Pairs Goes 0 w (a ∷ xs) back) none.0 pairs))
        ]
