-- Looks at disks, one after the other.
use Rattle.std.proofs.Common.{◌≡◌, ◌≢◌, inl, inr, ℕ, suc, ◌+◌, ◌<◌, ◌≤◌, ◌&&◌, ◌==◌, if◌then◌else◌, Bool, true, false, nat_lt, List, length, get_or, set, Option, Some, None, IfSome, refl, sym, ap, ◌∙◌, subst, arith}
use Rattle.std.specs.Prelude.{slice_get}
use Rattle.std.specs.Option.{IsSomeAnd}
use Rattle.std.proofs.lemmas.Bool.{cases_eq, cases_lt, ne_eqb, eq-eqb}
use Rattle.std.proofs.lemmas.Option.{slice_get-get_or}
use Rattle.rdf_types.specs.declared.layout.Layout.{Layout}
use Rattle.rdf_types.specs.declared.records.Node.{Node}
use Rattle.rdf_disk.specs.Files.{Disk, IsSpan}
use Rattle.rdf_disk.specs.Calls.{Same}
use Rattle.rdf_disk.specs.Counts.{Counts, Ending, Causes}
use Rattle.rdf_disk.specs.Counts.Ending.{Fine, Stop, Fault}
use Rattle.audit_trail.specs.Spelled.{IsBlank}
use Rattle.rdf_core.specs.Allowed.{is_node}
use Rattle.node_disks.specs.Cuts.{IfBoth, Each}
use Rattle.node_disks.specs.CutLaws.{each_so, each_then, each_put, set_here, set_else}
use Rattle.rdf_system.specs.declared.fault.StartFault.{StartFault}
use Rattle.rdf_system.specs.declared.fault.StartFault.TheVariants as start
use Rattle.rdf_system.specs.Place.{IfUsed, is_used}
use Rattle.rdf_system.specs.Starting.{AreBlankBelow, HasFile, IfOnlyLooked, IsJudgedIn, IsReady, IsLooked, AreLooked, LeftAlone, NamesNode, NamesUsed, ending_of, ending_if_at}
use Rattle.rdf_system.proofs.PlaceLaws.{below, not_below, used, unused, if_same, used_below, below_used, not_so}
use Rattle.rdf_core.specs.SessionLaws.{same_self}

-- the span of a disk that has no file
pub blank_span : (disk : Disk) (low above : ℕ) → IsSpan disk low above → above ≡ 0 → IsBlank disk
blank_span disk low above span none m = go (disk m).seen (λ there. (span.within m there).1)
  where
    not_none : (x : List ℕ) → (let s : Option (List ℕ) = Some x in s ≡ None) → ⊥
    not_none x e = cc

    go : (o : Option (List ℕ)) → (o ≢ None → m < above) → o ≡ None
    go None f = refl
    go (Some x) f = absurd (impossible (f (not_none x)))
      where
        impossible : m < above → ⊥
        impossible h = omega (arith, h, none)

-- what stood at a place that no look has changed yet
module _ {D : Type 0} (S : D → D → Type 0) (xs ys : List D) (n : ℕ) (same : Each (λ i x y. IfUsed (nat_lt i n) S x y) xs ys) (there : n < length ys) (d : D) (is : d ≡ get_or ys n d) where
  some_same : (y e : D) → (let s : Option D = Some y in s ≡ Some e) → y ≡ e
  some_same y e q = cc

  not_beyond : (e : D) → (let o : Option D = None in o ≡ Some e) → ⊥
  not_beyond e q = cc

  kept : (b : Bool) → b ≡ false → (x y : D) → IfUsed b S x y → y ≡ x
  kept true e x y h = not_so (sym e)
  kept false e x y h = h

  pub before_here : (P : D → Type 0) → P d → IsSomeAnd (slice_get xs n) P
  before_here P p = go (slice_get xs n) (slice_get ys n) (same n) (slice_get-get_or ys n d there)
    where
      go : (o q : Option D) → IfBoth (λ x y. IfUsed (nat_lt n n) S x y) o q → q ≡ Some (get_or ys n d) → IsSomeAnd o P
      go None None h e = absurd (not_beyond (get_or ys n d) e)
      go None (Some y) h e = absurd h
      go (Some x) None h e = absurd h
      go (Some x) (Some y) h e = subst P (is ∙ sym (some_same y (get_or ys n d) e) ∙ kept (nat_lt n n) (not_below n n (omega arith)) x y h) p

  pub if_here : (P : D → Type 0) → P d → IfSome (slice_get xs n) P
  if_here P p = go (slice_get xs n) (before_here P p)
    where
      go : (o : Option D) → IsSomeAnd o P → IfSome o P
      go None h = absurd h
      go (Some x) h = h

  -- the disk at that place changes, and the others go on as they were
  module _ (T : ℕ → D → D → Type 0) (R : D → D → Type 0) (w : D) (goes : R d w)
      (low : (i : ℕ) (x y : D) → i < n → S x y → T i x y) (here : (x : D) → R x w → T n x w) (high : (i : ℕ) (x : D) → n < i → T i x x) where
    abbrev Put : ℕ → D → D → Type 0
    Put i y z = (i ≢ n → z ≡ y) × (i ≡ n → R y z × (z ≡ w))

    put : Each Put ys (set ys n w)
    put = each_put Put ys n w d there (λ i x other. (λ e. refl, λ e. absurd (other e))) (λ e. absurd (e refl), λ e. (subst (λ x. R x w) is goes, refl))

    pub each_looked : Each T xs (set ys n w)
    each_looked = each_then (λ i x y. IfUsed (nat_lt i n) S x y) Put T xs ys (set ys n w) go same put
      where
        looked : (b : Bool) → b ≡ true → (x y : D) → IfUsed b S x y → S x y
        looked true e x y h = h
        looked false e x y h = not_so e

        at : (i : ℕ) → i ≡ n → (x y z : D) → y ≡ x → R y z → z ≡ w → T i x z
        at i e x y z yx r zw = subst (λ k. T k x z) (sym e) (subst (λ v. T n x v) (sym zw) (here x (subst (λ v. R x v) zw (subst (λ v. R v z) yx r))))

        go : (i : ℕ) (x y z : D) → IfUsed (nat_lt i n) S x y → Put i y z → T i x z
        go i x y z h p = elim (cases_lt i n) [
          | inl few ↦ low i x z few (subst (λ v. S x v) (sym (p.0 (λ e. absurd (lt_ne few e)))) (looked (nat_lt i n) (below i n few) x y h))
          | inr far ↦ elim (cases_eq i n) [
            | inl e ↦ let yx = kept (nat_lt i n) (not_below i n far) x y h in at i e x y z yx (p.1 e).0 (p.1 e).1
            | inr other ↦ subst (λ v. T i x v) (sym (p.0 other ∙ kept (nat_lt i n) (not_below i n far) x y h)) (high i x (above i far other))
          ]
        ]
          where
            lt_ne : i < n → i ≡ n → ⊥
            lt_ne f e = omega (arith, f, e)

            above : (k : ℕ) → n ≤ k → k ≢ n → n < k
            above k f o = omega (arith, f, o)

-- one disk more was looked at, and may be used
module _ {D : Type 0} (tells : Type 0) (files : D → Disk) (counts : D → Counts) (xs ys : List D) (n : ℕ) (same : Each (λ i x y. IfUsed (nat_lt i n) (LeftAlone tells files counts) x y) xs ys)
    (there : n < length ys) (d : D) (is : d ≡ get_or ys n d) (w : D) where
  pub looked_same : LeftAlone tells files counts d w → Each (λ i x y. IfUsed (nat_lt i (n + 1)) (LeftAlone tells files counts) x y) xs (set ys n w)
  looked_same h = each_looked (LeftAlone tells files counts) xs ys n same there d is (λ i x y. IfUsed (nat_lt i (n + 1)) (LeftAlone tells files counts) x y) (LeftAlone tells files counts) w h
      (λ i x y few e. used (LeftAlone tells files counts) x y (nat_lt i (n + 1)) (below i (n + 1) (omega (arith, few))) e)
      (λ x e. used (LeftAlone tells files counts) x w (nat_lt n (n + 1)) (below n (n + 1) (omega arith)) e)
      (λ i x far. unused (LeftAlone tells files counts) x x (nat_lt i (n + 1)) (not_below i (n + 1) (omega (arith, far))) refl)

  pub looked_blank : tells → (tells → IsBlank (files d)) → (tells → AreBlankBelow files n xs) → AreBlankBelow files (n + 1) xs
  looked_blank t blank were i few = elim (cases_eq i n) [
    | inl e ↦ subst (λ k. IfSome (slice_get xs k) (λ x. IsBlank (files x))) (sym e) (if_here (LeftAlone tells files counts) xs ys n same there d is (λ x. IsBlank (files x)) (blank t))
    | inr other ↦ were t i (lower other)
  ]
    where
      lower : i ≢ n → i < n
      lower o = omega (arith, few, o)

  -- the disk was refused, with that ending
  pub refused_came : (layout : Layout) (node : Node) → is_node layout node ≡ true → (endings : ℕ → Ending) → n ≤ layout.volumes → ((i : ℕ) → i ≢ n → endings i ≡ Fine) → Causes (endings n) (counts d) (counts w) →
      Each (λ i x y. IfUsed (is_used layout node i) (λ a b. Causes (endings i) (counts a) (counts b)) x y) xs (set ys n w)
  refused_came layout node placed endings within fine cause = each_looked (LeftAlone tells files counts) xs ys n same there d is (λ i x y. IfUsed (is_used layout node i) (λ a b. Causes (endings i) (counts a) (counts b)) x y) (λ a b. Causes (endings n) (counts a) (counts b)) w cause
      (λ i x y few e. used (λ a b. Causes (endings i) (counts a) (counts b)) x y (is_used layout node i) (used_below layout node placed i (omega (arith, few, within))) (stays i (λ q. absurd (omega (arith, few, q))) x y e.0))
      (λ x e. used (λ a b. Causes (endings n) (counts a) (counts b)) x w (is_used layout node n) (used_below layout node placed n (omega (arith, within))) e)
      (λ i x far. if_same (λ a b. Causes (endings i) (counts a) (counts b)) (is_used layout node i) x (stays i (λ q. absurd (omega (arith, far, q))) x x refl))
    where
      stays : (i : ℕ) → i ≢ n → (x y : D) → counts y ≡ counts x → Causes (endings i) (counts x) (counts y)
      stays i other x y e = subst (λ c. Causes c (counts x) (counts y)) (sym (fine i other)) e

  -- and was only looked at, as those before it
  pub refused_still : tells → Same (files d) (files w) → Each (λ i x y. Same (files x) (files y)) xs (set ys n w)
  refused_still t h = each_looked (LeftAlone tells files counts) xs ys n same there d is (λ i x y. Same (files x) (files y)) (λ a b. Same (files a) (files b)) w h
      (λ i x y few e. e.1 t)
      (λ x e. e)
      (λ i x far m. refl)

-- one more of the first elements
pub one_more : {X : Type 0} (P : X → Type 0) (ys : List X) (n : ℕ) (w : X) → n < length ys → P w → ((i : ℕ) → i < n → IfSome (slice_get ys i) P) → (i : ℕ) → i < n + 1 → IfSome (slice_get (set ys n w) i) P
one_more {X = X} P ys n w there p before i few = elim (cases_eq i n) [
  | inl e ↦ subst (λ k. IfSome (slice_get (set ys n w) k) P) (sym e) (subst (λ (o : Option X). IfSome o P) (sym (set_here ys n w there)) p)
  | inr other ↦ subst (λ (o : Option X). IfSome o P) (sym (set_else ys n i w other)) (before i (lower other))
]
  where
    lower : i ≢ n → i < n
    lower o = omega (arith, few, o)

-- the looks end with a disk that is refused
module _ {D : Type 0} (tells : Type 0) (files : D → Disk) (counts : D → Counts) (layout : Layout) (node : Node) (placed : is_node layout node ≡ true) (n : ℕ) (within : n ≤ layout.volumes) (xs ys : List D)
    (same : Each (λ i x y. IfUsed (nat_lt i n) (LeftAlone tells files counts) x y) xs ys) (were : tells → AreBlankBelow files n xs) (there : n < length ys) (d : D) (is : d ≡ get_or ys n d) (w : D) where
  no_more : (why : StartFault) → (let o : Option StartFault = Some why in o ≡ None) → ⊥
  no_more why e = cc

  made : (why : StartFault) → ((i : ℕ) → i ≢ n → ending_of why node i ≡ Fine) → Causes (ending_of why node n) (counts d) (counts w) → NamesUsed layout why → NamesNode node why → (tells → IsJudgedIn files xs why) →
      (tells → IfOnlyLooked (Some why) (Each (λ i x y. Same (files x) (files y)) xs (set ys n w))) → AreLooked tells files counts layout node (Some why) xs (set ys n w)
  made why fine cause named own judged still = record {
    came = refused_came tells files counts xs ys n same there d is w layout node placed (λ i. ending_of why node i) within fine cause;
    named = named;
    own = own;
    judged = judged;
    still = still;
    ready = λ none. absurd (no_more why none);
  }

  elsewhere : (e : Ending) (i : ℕ) → i ≢ n → ending_if_at e node n node i ≡ Fine
  elsewhere e i other = ap (λ b. if b && (n == i) then e else Fine) (same_self node) ∙ ap (λ b. if true && b then e else Fine) (ne_eqb n i (λ q. other (sym q)))

  at_it : (e : Ending) → ending_if_at e node n node n ≡ e
  at_it e = ap (λ b. if b && (n == n) then e else Fine) (same_self node) ∙ ap (λ b. if true && b then e else Fine) (eq-eqb n n refl)

  is_there : is_used layout node n ≡ true
  is_there = used_below layout node placed n (omega (arith, within))

  not_blank_is : (named : Node) (disk : ℕ) → named ≡ node → disk ≡ n → start.NotBlank node n ≡ start.NotBlank named disk
  not_blank_is named disk e q = ap (λ m. start.NotBlank m n) (sym e) ∙ ap (λ k. start.NotBlank named k) (sym q)

  stopped_is : (named : Node) (disk : ℕ) → named ≡ node → disk ≡ n → start.Stopped node n ≡ start.Stopped named disk
  stopped_is named disk e q = ap (λ m. start.Stopped m n) (sym e) ∙ ap (λ k. start.Stopped named k) (sym q)

  failed_is : (named : Node) (disk : ℕ) → named ≡ node → disk ≡ n → start.Failed node n ≡ start.Failed named disk
  failed_is named disk e q = ap (λ m. start.Failed m n) (sym e) ∙ ap (λ k. start.Failed named k) (sym q)

  pub refused_ends : (why : StartFault) → IsLooked tells files counts node n (Some why) d w → AreLooked tells files counts layout node (Some why) xs (set ys n w)
  refused_ends (start.NotBlank named disk) (at_node, here, stays, has) = subst (λ why. AreLooked tells files counts layout node (Some why) xs (set ys n w)) (not_blank_is named disk at_node here)
      (made (start.NotBlank node n) (λ i other. refl) stays.0 is_there refl (λ t. (before_here (LeftAlone tells files counts) xs ys n same there d is (λ x. HasFile (files x)) (has t), were t))
      (λ t. refused_still tells files counts xs ys n same there d is w t (stays.1 t)))
  refused_ends (start.Stopped named disk) (at_node, here, stopped) = subst (λ why. AreLooked tells files counts layout node (Some why) xs (set ys n w)) (stopped_is named disk at_node here)
      (made (start.Stopped node n) (λ i other. elsewhere Stop i other) (subst (λ c. Causes c (counts d) (counts w)) (sym (at_it Stop)) stopped) is_there refl were (λ t. tt))
  refused_ends (start.Failed named disk) (at_node, here, failed) = subst (λ why. AreLooked tells files counts layout node (Some why) xs (set ys n w)) (failed_is named disk at_node here)
      (made (start.Failed node n) (λ i other. elsewhere Fault i other) (subst (λ c. Causes c (counts d) (counts w)) (sym (at_it Fault)) failed) is_there refl were (λ t. tt))
  refused_ends start.NoMemory stays = made start.NoMemory (λ i other. refl) stays tt tt (λ t. tt) (λ t. tt)

-- no disk was refused
pub all_looked : {D : Type 0} (tells : Type 0) (files : D → Disk) (counts : D → Counts) (layout : Layout) (node : Node) → is_node layout node ≡ true → (n : ℕ) (xs ys : List D) → n ≡ layout.volumes + 1 →
    Each (λ i x y. IfUsed (nat_lt i n) (LeftAlone tells files counts) x y) xs ys → (tells → AreBlankBelow files n xs) → ((i : ℕ) → i < n → IfSome (slice_get ys i) (IsReady tells files counts)) → AreLooked tells files counts layout node None xs ys
all_looked {D = D} tells files counts layout node placed n xs ys e same were ready = record {
  came = subst (λ b. Each (λ i x y. IfUsed (b && nat_lt i (suc layout.volumes)) (λ a c. counts c ≡ counts a) x y) xs ys) (sym placed)
      (subst (λ k. Each (λ i x y. IfUsed (nat_lt i k) (λ a b. counts b ≡ counts a) x y) xs ys) is (each_so (λ i x y. IfUsed (nat_lt i n) (LeftAlone tells files counts) x y) (λ i x y. IfUsed (nat_lt i n) (λ a b. counts b ≡ counts a) x y) xs ys (λ i x y. counted (nat_lt i n) x y) same));
  named = tt;
  own = tt;
  judged = λ t. subst (λ k. AreBlankBelow files k xs) is (were t);
  still = λ t. each_so (λ i x y. IfUsed (nat_lt i n) (LeftAlone tells files counts) x y) (λ i x y. Same (files x) (files y)) xs ys (λ i x y. kept t (nat_lt i n) x y) same;
  ready = λ none i inside. let few = below_used layout node placed i inside in ready i (omega (arith, few, is));
}
  where
    is : n ≡ suc layout.volumes
    is = omega arith

    counted : (b : Bool) (x y : D) → IfUsed b (LeftAlone tells files counts) x y → IfUsed b (λ a c. counts c ≡ counts a) x y
    counted true x y h = h.0
    counted false x y h = h

    kept : tells → (b : Bool) (x y : D) → IfUsed b (LeftAlone tells files counts) x y → Same (files x) (files y)
    kept t true x y h = h.1 t
    kept t false x y h = λ m. ap (λ (v : D). files v m) h
