-- How the run ended for each disk that comes back.
use Rattle.std.proofs.Common.{◌≡◌, ◌≢◌, ◌⊎◌, inl, inr, ℕ, zero, suc, ◌<◌, ◌≤◌, Bool, true, false, not, ◌&&◌, ◌==◌, nat_lt, List, [], ◌∷◌, length, Option, Some, None, map, refl, sym, ap, ap₂, ◌∙◌, subst, if◌then◌else◌, arith}
use Rattle.std.specs.Prelude.{slice_get, IfSome}
use Rattle.std.proofs.lemmas.Bool.{eqb-true, true≢false, ltb-true, and_parts}
use Rattle.std.proofs.lemmas.Bool.Decides.{nat_tests}
use Rattle.std.specs.Global.{Vec}
use Rattle.rdf_types.specs.Counts.{Rose}
use Rattle.rdf_types.specs.declared.layout.Layout.{Layout}
use Rattle.rdf_types.specs.declared.records.Node.{Node}
use Rattle.rdf_types.specs.declared.records.Node.TheVariants.{A, B, C}
use Rattle.rdf_disk.specs.Files.{Disk}
use Rattle.rdf_disk.specs.declared.disk.Disk.{Ghosts}
use Rattle.rdf_disk.specs.Counts.{Counts, WasStopped, Causes, Ending, turned_off}
use Rattle.rdf_disk.specs.Counts.Ending.{Fine, Stop, Fault}
use Rattle.node_faults.specs.declared.NodeFault.{NodeFault}
use Rattle.node_faults.specs.declared.NodeFault.TheVariants as fault
use Rattle.node_faults.specs.Faults.{IsNamed}
use Rattle.plan_lang.specs.declared.lines.Line.{Line}
use Rattle.plan_lang.specs.declared.lines.Line.TheVariants as line
use Rattle.rdf_core.specs.declared.replies.Reply.{Reply}
use Rattle.rdf_core.specs.declared.replies.Reply.TheVariants.{Stopped}
use Rattle.rdf_core.specs.Allowed.{is_node}
use Rattle.plan_lang.specs.LineText.{same_node}
use Rattle.rdf_core.specs.SessionLaws.{node_same}
use Rattle.node_disks.specs.Cuts.{IfBoth}
use Rattle.node_disks.specs.Counting.{Tells}
use Rattle.rdf_system.specs.declared.racks.Racks.{Racks}
use Rattle.rdf_system.specs.declared.system.System.{System}
use Rattle.rdf_system.specs.Place.{IsFull, AtEach, IfUsed, is_used, items_in, disks_in, disk_at}
use Rattle.rdf_system.specs.States.{disks_of_node, disk_of, layout_of, WasCut, MayServe}
use Rattle.rdf_backup.specs.Beside.{IsFirst, MayEnd}
use Rattle.rdf_backup.specs.BesideLaws.{may_first}
use Rattle.rdf_system.specs.Lines.{ends_on, is_beside_at}
use Rattle.rdf_system.specs.declared.fault.StartFault.{StartFault}
use Rattle.rdf_system.specs.declared.fault.StartFault.TheVariants as start
use Rattle.rdf_system.specs.Starting.{Came, NamesUsed, ending_of}
use Rattle.rdf_run.specs.declared.run_fault.RunFault.{RunFault}
use Rattle.rdf_run.specs.declared.run_fault.RunFault.TheVariants as run
use Rattle.rdf_run.specs.RunFaults.{fault_at_node, status_of_run}
use Rattle.rdf_run.specs.declared.status.Status.TheVariants.{DeviceFault}
use Rattle.rdf_run.specs.Statuses.{ending_at, SinkAfter, IsSound, NamesUsedDisk}
use Rattle.rdf_run.specs.Plans.{status_of_start, AreOff}
use Rattle.rdf_run.specs.Returned.{EndedSo, Returned, is_behind}
use Rattle.rdf_run.proofs.Places.{if_both_so, if_used_so}

-- a disk that did not fail
same_ended : (behind : Bool) (a b : Counts) → b.faults ≡ a.faults → EndedSo behind Fine a b
same_ended false a b e = e
same_ended true a b e = omega (arith, e)

-- each used disk ended so, and where there is none, or none that is used, the run ended well
pub returned_by : {D : Type 0} (counts : D → Counts) (used behind : Bool) (e : Ending) (x y : Option D) → IfBoth (λ a b. IfUsed used (λ p q. EndedSo behind e (counts p) (counts q)) a b) x y →
    (used ≡ false → e ≡ Fine) → (used ≡ true → x ≢ None) → Returned counts behind e x y
returned_by counts true behind e None None h fine there = absurd (there refl refl)
returned_by counts false behind e None None h fine there = fine refl
returned_by counts true behind e (Some a) (Some b) h fine there = h
returned_by counts false behind e (Some a) (Some b) h fine there =
    subst (λ (k : Ending). EndedSo behind k (counts a) (counts b)) (sym (fine refl)) (same_ended behind (counts a) (counts b) (ap (λ d. (counts d).faults) h))
returned_by counts u behind e _ _ h fine there = absurd h

-- no disk failed
pub returned_fine : {D : Type 0} (counts : D → Counts) (used : Bool) (x y : Option D) → IfBoth (λ a b. IfUsed used (λ p q. (counts q).faults ≡ (counts p).faults) a b) x y → Returned counts false Fine x y
returned_fine counts u None None h = refl
returned_fine counts true (Some a) (Some b) h = h
returned_fine counts false (Some a) (Some b) h = ap (λ d. (counts d).faults) h
returned_fine counts u _ _ h = absurd h

pub returned_same : {D : Type 0} (counts : D → Counts) (x y : Option D) → y ≡ x → Returned counts false Fine x y
returned_same counts None y e = subst (λ o. Returned counts false Fine None o) (sym e) refl
returned_same counts (Some a) y e = subst (λ o. Returned counts false Fine (Some a) o) (sym e) refl

-- one after the other, where none failed first
ended_then : (behind : Bool) (e : Ending) → e ≢ Stop → (a b c : Counts) → b.faults ≡ a.faults → EndedSo behind e b c → EndedSo behind e a c
ended_then behind Stop ne a b c h k = absurd (ne refl)
ended_then false Fine ne a b c h k = k ∙ h
ended_then true Fine ne a b c h k = subst (λ n. n ≤ c.faults) h k
ended_then false Fault ne a b c h k = subst (λ n. (n ≤ c.faults) × Rose n c.faults) h k
ended_then true Fault ne a b c h k = subst (λ n. (n ≤ c.faults) × Rose n c.faults) h k

pub returned_then : {D : Type 0} (counts : D → Counts) (behind : Bool) (e : Ending) → e ≢ Stop → (x y z : Option D) → Returned counts false Fine x y → Returned counts behind e y z → Returned counts behind e x z
returned_then counts behind e ne None None None h k = k
returned_then counts behind e ne (Some a) (Some b) (Some c) h k = ended_then behind e ne (counts a) (counts b) (counts c) h k
returned_then counts behind e ne None None (Some c) h k = absurd k
returned_then counts behind e ne (Some a) (Some b) None h k = absurd k
returned_then counts behind e ne _ _ z h k = absurd h

-- of disks whose counts were the same
pub returned_from : {D : Type 0} (counts : D → Counts) (behind : Bool) (e : Ending) (used : Bool) (x y z : Option D) → IfBoth (λ a b. IfUsed used (λ p q. counts q ≡ counts p) a b) x y → Returned counts behind e y z → Returned counts behind e x z
returned_from counts behind e u None None z h k = k
returned_from counts behind e u (Some a) (Some b) None h k = absurd k
returned_from counts behind e true (Some a) (Some b) (Some c) h k = subst (λ (n : Counts). EndedSo behind e n (counts c)) h k
returned_from counts behind e false (Some a) (Some b) (Some c) h k = subst (λ (n : Counts). EndedSo behind e n (counts c)) (ap counts h) k
returned_from counts behind e u _ _ z h k = absurd h

-- and where none failed behind it
ended_on : (behind : Bool) (e : Ending) → e ≢ Stop → (a b c : Counts) → c.faults ≡ b.faults → EndedSo behind e a b → EndedSo behind e a c
ended_on behind Stop ne a b c is h = absurd (ne refl)
ended_on false Fine ne a b c is h = is ∙ h
ended_on true Fine ne a b c is h = subst (λ n. a.faults ≤ n) (sym is) h
ended_on false Fault ne a b c is h = subst (λ n. (a.faults ≤ n) × Rose a.faults n) (sym is) h
ended_on true Fault ne a b c is h = subst (λ n. (a.faults ≤ n) × Rose a.faults n) (sym is) h

pub returned_on : {D : Type 0} (counts : D → Counts) (behind : Bool) (e : Ending) → e ≢ Stop → (x y z : Option D) → Returned counts behind e x y → Returned counts false Fine y z → Returned counts behind e x z
returned_on counts behind e ne None None None h k = h
returned_on counts behind e ne (Some a) (Some b) (Some c) h k = ended_on behind e ne (counts a) (counts b) (counts c) k h
returned_on counts behind e ne None None (Some c) h k = absurd k
returned_on counts behind e ne (Some a) (Some b) None h k = absurd k
returned_on counts behind e ne _ _ z h k = absurd h

stopped_off : (a b c : Counts) → c ≡ turned_off b → WasStopped a b → WasStopped a c
stopped_off a b c is h = subst (λ (n : Counts). WasStopped a n) (sym is) (record { no_less = h.no_less; rose = h.rose; still = h.still; off = refl; faults = h.faults; fuses = h.fuses })

ended_off : (behind : Bool) (e : Ending) (a b c : Counts) → c ≡ turned_off b → EndedSo behind e a b → EndedSo behind e a c
ended_off false Fine a b c is h = ap (λ n. n.faults) is ∙ h
ended_off true Fine a b c is h = subst (λ n. a.faults ≤ n) (sym (ap (λ n. n.faults) is)) h
ended_off false Stop a b c is h = stopped_off a b c is h
ended_off true Stop a b c is h = stopped_off a b c is h
ended_off false Fault a b c is h = subst (λ n. (a.faults ≤ n) × Rose a.faults n) (sym (ap (λ n. n.faults) is)) h
ended_off true Fault a b c is h = subst (λ n. (a.faults ≤ n) × Rose a.faults n) (sym (ap (λ n. n.faults) is)) h

-- of disks that were then turned off, where they are used
pub returned_off : {D : Type 0} (counts : D → Counts) (behind : Bool) (e : Ending) (used : Bool) (x y z : Option D) → Returned counts behind e x y → IfBoth (λ a b. IfUsed used (λ p q. counts q ≡ turned_off (counts p)) a b) y z → Returned counts behind e x z
returned_off counts behind e u None None None h k = h
returned_off counts behind e true (Some a) (Some b) (Some c) h k = ended_off behind e (counts a) (counts b) (counts c) k h
returned_off counts behind e false (Some a) (Some b) (Some c) h k = subst (λ (n : Counts). EndedSo behind e (counts a) n) (sym (ap counts k)) h
returned_off counts behind e u None None (Some c) h k = absurd k
returned_off counts behind e u (Some a) (Some b) None h k = absurd k
returned_off counts behind e u _ _ z h k = absurd h

-- the ending at one place
ended_at : (e : Ending) (named node : Node) (disk i : ℕ) (P : Ending → Type 0) → ((same_node named node && disk == i) ≡ true → P e) → P Fine → P (if same_node named node && disk == i then e else Fine)
ended_at e named node disk i P f g = elim_at (same_node named node && disk == i) refl
  where
    elim_at : (b : Bool) → (same_node named node && disk == i) ≡ b → P (if b then e else Fine)
    elim_at true q = f q
    elim_at false q = g

-- a run over lines is not ended by a stop
pub run_no_stop : (f : RunFault) (node : Node) (i : ℕ) → ending_at (status_of_run f) node i ≢ Stop
run_no_stop (run.Write met) node i = λ e. cc
run_no_stop run.NoMemory node i = λ e. cc
run_no_stop (run.Failed named disk) node i = ended_at Fault named node disk i (λ e. e ≢ Stop) (λ q e. fault_no e) (λ e. fine_no e)
  where
    fault_no : Fault ≡ Stop → ⊥
    fault_no e = cc

    fine_no : Fine ≡ Stop → ⊥
    fine_no e = cc
run_no_stop (run.Damaged named disk file at) node i = λ e. cc

-- a disk for which a line did not end by a fault has not failed, and none has a fault less
pub not_failed : (e : Ending) (a b : Counts) → e ≢ Fault → Tells e a b → b.faults ≡ a.faults
not_failed Fine a b ne t = t.0
not_failed Stop a b ne t = t.0
not_failed Fault a b ne t = absurd (ne refl)

pub no_less : (e : Ending) (a b : Counts) → Tells e a b → a.faults ≤ b.faults
no_less Fine a b t = omega (arith, t.0)
no_less Stop a b t = omega (arith, t.0)
no_less Fault a b t = t.0

pub has_failed : (behind : Bool) (a b : Counts) → Tells Fault a b → EndedSo behind Fault a b
has_failed false a b t = (t.0, t.1)
has_failed true a b t = (t.0, t.1)

-- The named disk failed, none before it did, and those behind it may have, but at the primary. This goes by four tests: that the primary is named, that the place is on the named node, that it is the named disk's, and that it is behind that.
failed_at : (primary same named behind : Bool) (e : Ending) (a b : Counts) → (named ≡ true → e ≡ Fault) → (named ≡ false → behind ≡ false → e ≢ Fault) → (primary ≡ true → named ≡ false → e ≢ Fault) →
    Tells (if same then e else Fine) a b → EndedSo (not primary && same && behind) (if same && named then Fault else Fine) a b
failed_at true false named behind e a b here before alone t = t.0
failed_at false false named behind e a b here before alone t = t.0
failed_at true true true behind e a b here before alone t = has_failed false a b (subst (λ (k : Ending). Tells k a b) (here refl) t)
failed_at false true true behind e a b here before alone t = has_failed behind a b (subst (λ (k : Ending). Tells k a b) (here refl) t)
failed_at true true false behind e a b here before alone t = not_failed e a b (alone refl refl) t
failed_at false true false false e a b here before alone t = not_failed e a b (before refl refl) t
failed_at false true false true e a b here before alone t = no_less e a b t

-- a line works no volumes of the primary beside each other
alone_at : (named : Node) (l : Line) → same_node named A ≡ true → is_beside_at named l ≡ false
alone_at A l e = refl
alone_at B l e = absurd (true≢false (sym e))
alone_at C l e = absurd (true≢false (sym e))

-- so another disk of the primary than the named one did not fail
alone_fails : (beside : Bool) (disk : ℕ) (ends : ℕ → Ending) → MayEnd beside (fault.Failed disk) ends → beside ≡ false → (i : ℕ) → (disk == i) ≡ false → ends i ≢ Fault
alone_fails beside disk ends (inl same) off i other h = fine_no (sym (ap (λ b. if b then Fault else Fine) other) ∙ sym (same i) ∙ h)
  where
    fine_no : Fine ≡ Fault → ⊥
    fine_no e = cc
alone_fails beside disk ends (inr several) off i other h = true≢false (sym several.0 ∙ off)

-- a fault of a node, for the disk at a place, as the status tells it
pub told_at : (named : Node) (l : Line) (disk : ℕ) (ends : ℕ → Ending) → MayEnd (is_beside_at named l) (fault.Failed disk) ends → (node : Node) (i : ℕ) (a b : Counts) → Tells (ends_on named ends node i) a b →
    EndedSo (is_behind (DeviceFault named disk) node i) (if same_node named node && disk == i then Fault else Fine) a b
told_at named l disk ends may node i a b t =
    failed_at (same_node named A) (same_node named node) (disk == i) (nat_lt disk i) (ends i) a b
    (λ here. subst (λ n. ends n ≡ Fault) (eqb-true disk i here) first.0)
    (λ other before. first.1 i (below disk i other before))
    (λ primary other. alone_fails (is_beside_at named l) disk ends may (alone_at named l primary) i other)
    t
  where
    first : IsFirst (fault.Failed disk) ends
    first = may_first (is_beside_at named l) (fault.Failed disk) ends may

    below : (m n : ℕ) → (m == n) ≡ false → nat_lt m n ≡ false → n < m
    below m n other before = grind (arith, nat_tests)

pub used_place : (layout : Layout) (node : Node) (i : ℕ) → is_node layout node ≡ true → i < suc layout.volumes → is_used layout node i ≡ true
used_place layout node i has few = ap₂ (λ m n. m && n) has (below i (suc layout.volumes) few)
  where
    below : (j n : ℕ) → j < n → nat_lt j n ≡ true
    below j n lt = grind (arith, nat_tests)

-- the fault of a line names a disk that is used
pub names_used : (layout : Layout) (named : Node) (why : NodeFault) → is_node layout named ≡ true → IsNamed (suc layout.volumes) why → NamesUsedDisk layout (status_of_run (fault_at_node named why))
names_used layout named (fault.Stopped disk) is few = tt
names_used layout named (fault.Failed disk) is few = used_place layout named disk is few
names_used layout named fault.NoMemory is few = tt
names_used layout named (fault.Damaged disk file at) is few = used_place layout named disk is few

-- the named disk is used
pub named_used : (e : Ending) (layout : Layout) (named node : Node) (disk i : ℕ) → is_used layout named disk ≡ true → is_used layout node i ≡ false → (if same_node named node && disk == i then e else Fine) ≡ Fine
named_used e layout named node disk i used unused = ended_at e named node disk i (λ k. k ≡ Fine) (λ q. absurd (clash q)) refl
  where
    clash : (same_node named node && disk == i) ≡ true → ⊥
    clash q =
        let p = and_parts (same_node named node) (disk == i) q in
        let n : named ≡ node = node_same named node p.0 in
        let d : disk ≡ i = eqb-true disk i p.1 in
        let u : is_used layout node i ≡ true = subst (λ k. is_used layout node k ≡ true) d (subst (λ (m : Node). is_used layout m disk ≡ true) n used) in
        true≢false (sym u ∙ unused)

module _ {D : Type 0} (counts : D → Counts) (layout : Layout) (x y : Node → ℕ → Option D) where
  abbrev Each : (Node → ℕ → D → D → Type 0) → Type 0
  Each R = AtEach (λ node i a b. IfUsed (is_used layout node i) (λ p q. R node i p q) a b) x y

  -- none failed for which the line did not end by a fault
  pub same_faults : (e : Node → ℕ → Ending) → ((node : Node) (i : ℕ) → e node i ≢ Fault) → Each (λ node i a b. Tells (e node i) (counts a) (counts b)) → (node : Node) (i : ℕ) → Returned counts false Fine (x node i) (y node i)
  same_faults e ne h node i = returned_fine counts (is_used layout node i) (x node i) (y node i)
      (if_both_so (λ a b. IfUsed (is_used layout node i) (λ p q. Tells (e node i) (counts p) (counts q)) a b) (λ a b. IfUsed (is_used layout node i) (λ p q. (counts q).faults ≡ (counts p).faults) a b) (x node i) (y node i)
      (λ a b. if_used_so (is_used layout node i) (λ p q. Tells (e node i) (counts p) (counts q)) (λ p q. (counts q).faults ≡ (counts p).faults) a b (λ t. not_failed (e node i) (counts a) (counts b) (ne node i) t)) (h node i))

  none_fails : (named : Node) (ends : ℕ → Ending) → ((i : ℕ) → ends i ≢ Fault) → (node : Node) (i : ℕ) → ends_on named ends node i ≢ Fault
  none_fails named ends ne node i = elim (same_node named node) as (λ b. (if b then ends i else Fine) ≢ Fault) [ true ↦ ne i | false ↦ (λ e. cc) ]

  -- the fault of a line, which names a used disk, for the disk at each place
  pub returned_failing : (l : Line) (named : Node) (why : NodeFault) → is_node layout named ≡ true → ((disk : ℕ) → why ≢ fault.Stopped disk) → IsNamed (suc layout.volumes) why → (ends : ℕ → Ending) → MayEnd (is_beside_at named l) why ends →
      Each (λ node i a b. Tells (ends_on named ends node i) (counts a) (counts b)) → ((node : Node) (i : ℕ) → is_used layout node i ≡ true → x node i ≢ None) →
      (node : Node) (i : ℕ) → Returned counts (is_behind (status_of_run (fault_at_node named why)) node i) (ending_at (status_of_run (fault_at_node named why)) node i) (x node i) (y node i)
  returned_failing l named (fault.Stopped disk) is never few ends may h there node i = absurd (never disk refl)
  returned_failing l named (fault.Failed disk) is never few ends may h there node i =
      returned_by counts (is_used layout node i) (is_behind (DeviceFault named disk) node i) (if same_node named node && disk == i then Fault else Fine) (x node i) (y node i)
      (if_both_so (λ a b. IfUsed (is_used layout node i) (λ p q. Tells (ends_on named ends node i) (counts p) (counts q)) a b)
      (λ a b. IfUsed (is_used layout node i) (λ p q. EndedSo (is_behind (DeviceFault named disk) node i) (if same_node named node && disk == i then Fault else Fine) (counts p) (counts q)) a b) (x node i) (y node i)
      (λ a b. if_used_so (is_used layout node i) (λ p q. Tells (ends_on named ends node i) (counts p) (counts q)) (λ p q. EndedSo (is_behind (DeviceFault named disk) node i) (if same_node named node && disk == i then Fault else Fine) (counts p) (counts q)) a b
      (λ t. told_at named l disk ends may node i (counts a) (counts b) t)) (h node i))
      (λ unused. named_used Fault layout named node disk i (used_place layout named disk is few) unused)
      (there node i)
  returned_failing l named fault.NoMemory is never few ends may h there node i = same_faults (ends_on named ends) (none_fails named ends (may_first (is_beside_at named l) fault.NoMemory ends may)) h node i
  returned_failing l named (fault.Damaged disk file at) is never few ends may h there node i = same_faults (ends_on named ends) (none_fails named ends (may_first (is_beside_at named l) (fault.Damaged disk file at) ends may)) h node i

  -- no disk failed in a line that was answered, also where the reply is that a node stopped
  pub returned_reply : (used : Option Node) (l : Line) (reply : Reply) → (Each (λ node i a b. Tells Fine (counts a) (counts b)) × ((node : Node) → used ≡ Some node → reply ≢ Stopped node))
      ⊎ ((named : Node) × ((l ≡ line.End → used ≡ Some named) × ((reply ≡ Stopped named) × ((disk : ℕ) × ((is_node layout named ≡ true) × (disk < suc layout.volumes)
      × ((ends : ℕ → Ending) × (MayEnd (is_beside_at named l) (fault.Stopped disk) ends × Each (λ node i a b. Tells (ends_on named ends node i) (counts a) (counts b))))))))) →
      (node : Node) (i : ℕ) → Returned counts false Fine (x node i) (y node i)
  returned_reply used l reply (inl h) node i = same_faults (λ node i. Fine) (λ node i e. cc) h.0 node i
  returned_reply used l reply (inr h) node i =
      let fails = h.1.1.1.1 in
      same_faults (ends_on h.0 fails.2.0) (none_fails h.0 fails.2.0 (may_first (is_beside_at h.0 l) (fault.Stopped h.1.1.1.0) fails.2.0 fails.2.1.0).1) fails.2.1.1 node i

-- a place within a list has an element
pub some_at : {X : Type 0} (xs : List X) (i : ℕ) → i < length xs → slice_get xs i ≢ None
some_at [] i lt = absurd (omega arith)
some_at (x ∷ xs) zero lt = λ e. none e
  where
    none : {Y : Type 0} {y : Y} → (let o : Option Y = Some y in o ≡ None) → ⊥
    none e = cc
some_at (x ∷ xs) (suc i) lt = some_at xs i (omega arith)

-- the used disks of a system, and of racks, are there
pub system_there : {D : Type 0} {d : Ghosts D} (tells : Type 0) (files : D → Disk) (counts : D → Counts) (sys : System D d) → MayServe tells files counts sys → (node : Node) (i : ℕ) → is_used (layout_of sys) node i ≡ true → disk_of sys node i ≢ None
system_there tells files counts sys serves node i used =
    let p = and_parts (is_node (layout_of sys) node) (nat_lt i (suc (layout_of sys).volumes)) used in
    some_at (disks_of_node sys node) i (omega (arith, ltb-true i (suc (layout_of sys).volumes) p.1, serves.whole.many node, (layout_of sys).few_volumes))

backups_many : {D : Type 0} (all : List (Vec D)) → map (λ disks. length disks.items) all ≡ 17 ∷ 17 ∷ [] → (length (items_in (slice_get all 0)) ≡ 17) × (length (items_in (slice_get all 1)) ≡ 17)
backups_many [] e = absurd cc
backups_many (b ∷ []) e = absurd cc
backups_many (b ∷ c ∷ rest) e = (cc, cc)

racks_many : {D : Type 0} (racks : Racks D) → IsFull racks → (node : Node) → length (disks_in racks node) ≡ 17
racks_many racks full A = full.primary
racks_many racks full B = (backups_many racks.backups.items full.backups).0
racks_many racks full C = (backups_many racks.backups.items full.backups).1

pub racks_there : {D : Type 0} (racks : Racks D) (layout : Layout) → IsFull racks → (node : Node) (i : ℕ) → is_used layout node i ≡ true → disk_at racks node i ≢ None
racks_there racks layout full node i used =
    let p = and_parts (is_node layout node) (nat_lt i (suc layout.volumes)) used in
    some_at (disks_in racks node) i (omega (arith, ltb-true i (suc layout.volumes) p.1, racks_many racks full node, layout.few_volumes))

pub fine_no_stop : Fine ≢ Stop
fine_no_stop e = cc

ended_caused : (behind : Bool) (e : Ending) (a b : Counts) → Causes e a b → EndedSo behind e a b
ended_caused behind Fine a b h = same_ended behind a b (ap (λ c. c.faults) h)
ended_caused false Stop a b h = h
ended_caused true Stop a b h = h
ended_caused false Fault a b h = (h.no_less, h.rose)
ended_caused true Fault a b h = (h.no_less, h.rose)

module _ {D : Type 0} (counts : D → Counts) (layout : Layout) (x y : Node → ℕ → Option D) (there : (node : Node) (i : ℕ) → is_used layout node i ≡ true → x node i ≢ None) where
  came_so : (behind : Node → ℕ → Bool) (e : Node → ℕ → Ending) → AtEach (Came counts layout e) x y → ((node : Node) (i : ℕ) → is_used layout node i ≡ false → e node i ≡ Fine) → (node : Node) (i : ℕ) → Returned counts (behind node i) (e node i) (x node i) (y node i)
  came_so behind e h fine node i = returned_by counts (is_used layout node i) (behind node i) (e node i) (x node i) (y node i)
      (if_both_so (λ a b. IfUsed (is_used layout node i) (λ p q. Causes (e node i) (counts p) (counts q)) a b) (λ a b. IfUsed (is_used layout node i) (λ p q. EndedSo (behind node i) (e node i) (counts p) (counts q)) a b) (x node i) (y node i)
      (λ a b. if_used_so (is_used layout node i) (λ p q. Causes (e node i) (counts p) (counts q)) (λ p q. EndedSo (behind node i) (e node i) (counts p) (counts q)) a b (λ t. ended_caused (behind node i) (e node i) (counts a) (counts b) t)) (h node i))
      (fine node i) (there node i)

  -- the disks that were looked at and not made ready
  pub returned_refused : (why : StartFault) → NamesUsed layout why → AtEach (Came counts layout (ending_of why)) x y → (node : Node) (i : ℕ) → Returned counts (is_behind (status_of_start why) node i) (ending_at (status_of_start why) node i) (x node i) (y node i)
  returned_refused (start.NotBlank named disk) names h = came_so (λ node i. false) (λ node i. Fine) h (λ node i u. refl)
  returned_refused (start.Stopped named disk) names h = came_so (λ node i. false) (ending_of (start.Stopped named disk)) h (λ node i u. named_used Stop layout named node disk i names u)
  returned_refused (start.Failed named disk) names h = came_so (is_behind (DeviceFault named disk)) (ending_of (start.Failed named disk)) h (λ node i u. named_used Fault layout named node disk i names u)
  returned_refused start.NoMemory names h = came_so (λ node i. false) (λ node i. Fine) h (λ node i u. refl)

-- a start that was refused calls no sink and tells no damage
pub refused_sink : (why : StartFault) (n : ℕ) → SinkAfter (status_of_start why) n n
refused_sink (start.NotBlank node disk) n = refl
refused_sink (start.Stopped node disk) n = refl
refused_sink (start.Failed node disk) n = refl
refused_sink start.NoMemory n = refl

pub refused_sound : (why : StartFault) → IsSound (status_of_start why)
refused_sound (start.NotBlank node disk) = tt
refused_sound (start.Stopped node disk) = tt
refused_sound (start.Failed node disk) = tt
refused_sound start.NoMemory = tt

-- used disks that were cut are off
pub cut_off : {D : Type 0} (counts : D → Counts) (of layout : Layout) (x : Node → ℕ → Option D) (racks : Racks D) → of ≡ layout → AtEach (WasCut counts of) x (disk_at racks) → AreOff counts layout racks
cut_off {D = D} counts of layout x racks e h node i used = off_at (is_used of node i) (x node i) (disk_at racks node i) (subst (λ (l : Layout). is_used l node i ≡ true) (sym e) used) (h node i)
  where
    off_at : (u : Bool) (p q : Option D) → u ≡ true → IfBoth (λ a b. IfUsed u (λ c d. counts d ≡ turned_off (counts c)) a b) p q → IfSome q (λ d. (counts d).off ≡ true)
    off_at u None None is k = tt
    off_at u None (Some b) is k = absurd k
    off_at u (Some a) None is k = absurd k
    off_at true (Some a) (Some b) is k = ap (λ (n : Counts). n.off) k
    off_at false (Some a) (Some b) is k = absurd (true≢false (sym is))
