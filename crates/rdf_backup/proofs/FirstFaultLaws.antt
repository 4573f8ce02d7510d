-- The first of several faults.
use Rattle.std.proofs.Common.{◌≡◌, ◌≢◌, ℕ, zero, suc, ◌+◌, ◌-◌, ◌<◌, ◌≤◌, ◌==◌, nat_lt, Bool, true, false, if◌then◌else◌, List, [], ◌∷◌, get_or, Result, Ok, Err, IfErr, OnOk, refl, sym, ap, ◌∙◌, subst, arith, ◌⊎◌, inl, inr, ⊎_elim}
use Rattle.std.proofs.lemmas.Bool.{eq-eqb, ne_eqb}
use Rattle.std.proofs.lemmas.Bool.Decides.{nat_tests}
use Rattle.rdf_disk.specs.Counts.{Ending}
use Rattle.rdf_disk.specs.Counts.Ending.{Fine, Stop, Fault}
use Rattle.rdf_gatelog.specs.declared.fault.LogFault.{LogFault}
use Rattle.rdf_gatelog.specs.declared.fault.LogFault.TheVariants as log
use Rattle.rdf_gatelog.specs.LogCauses.{ending, ending_of_fault}
use Rattle.node_faults.specs.declared.NodeFault.{NodeFault}
use Rattle.node_faults.specs.declared.NodeFault.TheVariants as node
use Rattle.node_faults.specs.Faults.{fault_at, ending_for, IsNamed, NamesOwn}
use Rattle.node_faults.specs.FaultLaws.{fault_named}
use Rattle.rdf_backup.specs.Beside.{IsFirst, EndsBeside}
use Rattle.rdf_backup.specs.FirstFaults.{Answer, rank, earlier, answer_at, first_fault, ends_of}

abbrev Said : Type 0
Said = Result (Unit {0}) NodeFault

no_err : (f : NodeFault) → (let r : Said = Err f in r) ≡ Ok tt → ⊥
no_err f e = cc

no_pick : (f g : NodeFault) (b : Bool) → (let r : Said = (if b then Err g else Err f) in r) ≡ Ok tt → ⊥
no_pick f g true e = no_err g e
no_pick f g false e = no_err f e

-- where there is no fault, there was none before, and each answer is well
left_ok : (first next : Said) → earlier first next ≡ Ok tt → first ≡ Ok tt
left_ok (Ok x) next e = refl
left_ok (Err f) (Ok y) e = e
left_ok (Err f) (Err g) e = absurd (no_pick f g (nat_lt (rank g) (rank f)) e)

right_ok : (first : Said) (n : ℕ) (r : Answer) → earlier first (answer_at n r) ≡ Ok tt → r ≡ Ok tt
right_ok first n (Ok y) e = refl
right_ok (Ok x) n (Err f) e = absurd (no_err (fault_at n f) e)
right_ok (Err f) n (Err g) e = absurd (no_pick f (fault_at n g) (nat_lt (rank (fault_at n g)) (rank f)) e)

first_ok : (n : ℕ) (first : Said) (answers : List Answer) → first_fault n first answers ≡ Ok tt → first ≡ Ok tt
first_ok n first [] e = e
first_ok n first (r ∷ rest) e = left_ok first (answer_at n r) (first_ok (suc n) (earlier first (answer_at n r)) rest e)

pub all_ok : (n : ℕ) (first : Said) (answers : List Answer) → first_fault n first answers ≡ Ok tt → (k : ℕ) → get_or answers k (Ok tt) ≡ Ok tt
all_ok n first [] e k = refl
all_ok n first (r ∷ rest) e zero = right_ok first n r (first_ok (suc n) (earlier first (answer_at n r)) rest e)
all_ok n first (r ∷ rest) e (suc k) = all_ok (suc n) (earlier first (answer_at n r)) rest e k

pub on_ok_when : (r : Said) (P : Type 0) → (r ≡ Ok tt → P) → OnOk r P
on_ok_when (Ok x) P f = f refl
on_ok_when (Err e) P f = tt

-- what holds of each fault holds of the first
module _ (P : NodeFault → Type 0) where
  pick : (f g : NodeFault) (b : Bool) → P f → P g → IfErr (let r : Said = (if b then Err g else Err f) in r) P
  pick f g true h k = k
  pick f g false h k = h

  either : (first next : Said) → IfErr first P → IfErr next P → IfErr (earlier first next) P
  either (Ok x) next h k = k
  either (Err f) (Ok y) h k = h
  either (Err f) (Err g) h k = pick f g (nat_lt (rank g) (rank f)) h k

  pub every : (n : ℕ) (first : Said) (answers : List Answer) → IfErr first P → ((k disk : ℕ) → disk ≡ n + k → IfErr (answer_at disk (get_or answers k (Ok tt))) P) → IfErr (first_fault n first answers) P
  every n first [] h each = h
  every n first (r ∷ rest) h each = every (suc n) (earlier first (answer_at n r)) rest (either first (answer_at n r) h (each zero n (omega arith))) (λ k disk e. each (suc k) disk (omega (arith, e)))

-- how the disks ended
pub fine_fault : Fine ≢ Fault
fine_fault e = cc

fine_stop : Fine ≢ Stop
fine_stop e = cc

stop_fault : Stop ≢ Fault
stop_fault e = cc

choose : (P : Ending → Type 0) (b : Bool) (e f : Ending) → P e → P f → P (if b then e else f)
choose P true e f h g = h
choose P false e f h g = g

-- one disk more has ended so
abbrev put : ℕ → Ending → (ℕ → Ending) → ℕ → Ending
put n e ends i = if i == n then e else ends i

put_here : (n : ℕ) (e : Ending) (ends : ℕ → Ending) (i : ℕ) → i ≡ n → put n e ends i ≡ e
put_here n e ends i same = ap (λ b. if b then e else ends i) (eq-eqb i n same)

put_other : (n : ℕ) (e : Ending) (ends : ℕ → Ending) (i : ℕ) → i ≢ n → put n e ends i ≡ ends i
put_other n e ends i other = ap (λ b. if b then e else ends i) (ne_eqb i n other)

less_or_not : (i n : ℕ) → (i < n) ⊎ (n ≤ i)
less_or_not i n = by_test (nat_lt i n) refl
  where
    by_test : (b : Bool) → nat_lt i n ≡ b → (i < n) ⊎ (n ≤ i)
    by_test true t = inl (grind (arith, nat_tests, t))
    by_test false t = inr (grind (arith, nat_tests, t))

less_other : (i n : ℕ) → i < n → i ≢ n
less_other i n h e = absurd (omega (arith, h, e))

module _ (n : ℕ) (ends : ℕ → Ending) (fine : (i : ℕ) → n ≤ i → ends i ≡ Fine) where
  low : (d : ℕ) (e : Ending) → ends d ≡ e → Fine ≢ e → d < n
  low d e is other = ⊎_elim (λ (l : d < n). l) (λ (m : n ≤ d). absurd (other (sym (fine d m) ∙ is))) (less_or_not d n)

  none_failed : (e : Ending) → e ≢ Fault → ((i : ℕ) → ends i ≢ Fault) → (i : ℕ) → put n e ends i ≢ Fault
  none_failed e ne clear i = choose (λ f. f ≢ Fault) (i == n) e (ends i) ne (clear i)

  kept_failed : (e : Ending) (d : ℕ) → IsFirst (node.Failed d) ends → IsFirst (node.Failed d) (put n e ends)
  kept_failed e d h =
      let below = low d Fault h.0 fine_fault in
      (put_other n e ends d (less_other d n below) ∙ h.0, λ i less is. h.1 i less (sym (put_other n e ends i (less_other i n (let m : i < n = omega (arith, less, below) in m))) ∙ is))

  new_failed : ((i : ℕ) → ends i ≢ Fault) → IsFirst (node.Failed n) (put n Fault ends)
  new_failed clear = (put_here n Fault ends n refl, λ i less is. clear i (sym (put_other n Fault ends i (less_other i n less)) ∙ is))

  kept_stopped : (d : ℕ) → IsFirst (node.Stopped d) ends → IsFirst (node.Stopped d) (put n Stop ends)
  kept_stopped d h =
      let below = low d Stop h.0 fine_stop in
      (put_other n Stop ends d (less_other d n below) ∙ h.0, none_failed Stop stop_fault h.1, λ i less. put_other n Stop ends i (less_other i n (let m : i < n = omega (arith, less, below) in m)) ∙ h.2 i less)

  -- a fault behind another one
  both : (f : NodeFault) (g : LogFault) → IsFirst f ends → EndsBeside (earlier (Err f) (Err (fault_at n g))) (put n (ending_of_fault g) ends)
  both (node.Failed d) log.Stopped h = kept_failed Stop d h
  both (node.Failed d) log.Failed h = kept_failed Fault d h
  both (node.Failed d) log.NoMemory h = kept_failed Fine d h
  both (node.Failed d) (log.Damaged file at) h = kept_failed Fine d h
  both (node.Damaged d f a) log.Stopped h = none_failed Stop stop_fault h
  both (node.Damaged d f a) log.Failed h = new_failed h
  both (node.Damaged d f a) log.NoMemory h = none_failed Fine fine_fault h
  both (node.Damaged d f a) (log.Damaged file at) h = none_failed Fine fine_fault h
  both node.NoMemory log.Stopped h = none_failed Stop stop_fault h
  both node.NoMemory log.Failed h = new_failed h
  both node.NoMemory log.NoMemory h = none_failed Fine fine_fault h
  both node.NoMemory (log.Damaged file at) h = none_failed Fine fine_fault h
  both (node.Stopped d) log.Stopped h = kept_stopped d h
  both (node.Stopped d) log.Failed h = new_failed h.1
  both (node.Stopped d) log.NoMemory h = none_failed Fine fine_fault h.1
  both (node.Stopped d) (log.Damaged file at) h = none_failed Fine fine_fault h.1

  put_fine : (i : ℕ) → ends i ≡ put n Fine ends i
  put_fine i = ⊎_elim (λ (l : i < n). sym (put_other n Fine ends i (less_other i n l))) (λ (m : n ≤ i). fine i m ∙ sym (choose (λ e. e ≡ Fine) (i == n) Fine (ends i) refl (fine i m))) (less_or_not i n)

  -- the first fault
  only : (f : LogFault) → ((i : ℕ) → ends i ≡ Fine) → IsFirst (fault_at n f) (put n (ending_of_fault f) ends)
  only log.Stopped all = (put_here n Stop ends n refl, none_failed Stop stop_fault (λ i e. fine_fault (sym (all i) ∙ e)), λ i less. put_other n Stop ends i (less_other i n less) ∙ all i)
  only log.Failed all = new_failed (λ i e. fine_fault (sym (all i) ∙ e))
  only log.NoMemory all = none_failed Fine fine_fault (λ i e. fine_fault (sym (all i) ∙ e))
  only (log.Damaged file at) all = none_failed Fine fine_fault (λ i e. fine_fault (sym (all i) ∙ e))

  one_more : (first : Said) (r : Answer) → EndsBeside first ends → EndsBeside (earlier first (answer_at n r)) (put n (ending r) ends)
  one_more (Ok x) (Ok y) h = λ i. choose (λ e. e ≡ Fine) (i == n) Fine (ends i) refl (h i)
  one_more (Ok x) (Err f) h = only f h
  one_more (Err f) (Ok y) h = subst (λ e. IsFirst f e) (λ i x. put_fine x i) h
  one_more (Err f) (Err g) h = both f g h

-- the answer behind what was answered before, as the first of all endings
pub beside : (answers : List Answer) (n : ℕ) (first : Said) (ends to : ℕ → Ending) → EndsBeside first ends → ((i : ℕ) → n ≤ i → ends i ≡ Fine) → ((i : ℕ) → i < n → to i ≡ ends i) →
    ((k i : ℕ) → i ≡ n + k → to i ≡ ending (get_or answers k (Ok tt))) → EndsBeside (first_fault n first answers) to
beside [] n first ends to h fine below above = subst (λ e. EndsBeside first e) (λ i x. same x i) h
  where
    same : (i : ℕ) → ends i ≡ to i
    same i = ⊎_elim (λ (l : i < n). sym (below i l)) (λ (m : n ≤ i). fine i m ∙ sym (above (i - n) i (omega (arith, m)))) (less_or_not i n)
beside (r ∷ rest) n first ends to h fine below above =
    beside rest (suc n) (earlier first (answer_at n r)) (put n (ending r) ends) to (one_more n ends fine first r h)
    (λ i le. put_other n (ending r) ends i (λ e. absurd (omega (arith, le, e))) ∙ fine i (omega (arith, le))) under (λ k i e. above (suc k) i (omega (arith, e)))
  where
    under : (i : ℕ) → i < suc n → to i ≡ put n (ending r) ends i
    under i less = ⊎_elim (λ (l : i < n). below i l ∙ sym (put_other n (ending r) ends i (less_other i n l)))
        (λ (m : n ≤ i). above zero i (omega (arith, m, less)) ∙ sym (put_here n (ending r) ends i (let e : i ≡ n = omega (arith, m, less) in e))) (less_or_not i n)

-- the answer is the first fault of the disks
pub first_beside : (answers : List Answer) → EndsBeside (first_fault 1 (Ok tt) answers) (ends_of answers)
first_beside answers = beside answers 1 (Ok tt) (λ i. Fine) (ends_of answers) (λ i. refl) (λ i le. refl) (λ i less. zero_fine i less) (λ k i e. ap (λ m. ends_of answers m) (let s : i ≡ suc k = omega (arith, e) in s))
  where
    zero_fine : (i : ℕ) → i < 1 → ends_of answers i ≡ Fine
    zero_fine zero less = refl
    zero_fine (suc i) less = absurd (omega (arith, less))

-- it names no disk that ended well
pub own_at : (result : Said) (ends : ℕ → Ending) → EndsBeside result ends → (n : ℕ) → ends n ≡ Fine → ending_for n result ≡ Fine
own_at (Ok x) ends h n fine = refl
own_at (Err (node.Failed d)) ends h n fine = ap (λ b. if b then Fault else Fine) (ne_eqb d n (λ e. fine_fault (sym fine ∙ subst (λ m. ends m ≡ Fault) e h.0)))
own_at (Err (node.Stopped d)) ends h n fine = ap (λ b. if b then Stop else Fine) (ne_eqb d n (λ e. fine_stop (sym fine ∙ subst (λ m. ends m ≡ Stop) e h.0)))
own_at (Err node.NoMemory) ends h n fine = refl
own_at (Err (node.Damaged d file at)) ends h n fine = refl

-- the first fault of as many volumes, behind one of theirs, is one of theirs
pub own_named : (many : ℕ) (first : Said) (answers : List Answer) → NamesOwn many first → ((k : ℕ) → many ≤ k → get_or answers k (Ok tt) ≡ Ok tt) → NamesOwn many (first_fault 1 first answers)
own_named many first answers h beyond = every (λ why. IsNamed (suc many) why) 1 first answers h each
  where
    within : (k : ℕ) (r : Answer) → k < many → IfErr (answer_at (suc k) r) (λ why. IsNamed (suc many) why)
    within k (Ok x) few = tt
    within k (Err f) few = fault_named (suc k) (suc many) f (fault_at (suc k) f) refl (omega (arith, few))

    each : (k disk : ℕ) → disk ≡ 1 + k → IfErr (answer_at disk (get_or answers k (Ok tt))) (λ why. IsNamed (suc many) why)
    each k disk e = subst (λ d. IfErr (answer_at d (get_or answers k (Ok tt))) (λ why. IsNamed (suc many) why)) (let s : suc k ≡ disk = omega (arith, e) in s)
        (⊎_elim (λ (few : k < many). within k (get_or answers k (Ok tt)) few) (λ (far : many ≤ k). subst (λ r. IfErr (answer_at (suc k) r) (λ why. IsNamed (suc many) why)) (sym (beyond k far)) tt) (less_or_not k many))
