-- The counts of the disks over one line.
use Rattle.std.specs.Prelude.{nat_lt}
use Rattle.std.proofs.Common.{◌≡◌, ◌≢◌, ◌⊎◌, inl, inr, ℕ, suc, ◌<◌, Bool, true, false, ◌&&◌, ◌==◌, Option, Some, None, Result, Ok, refl, sym, ap, ◌∙◌, subst, if◌then◌else◌, arith}
use Rattle.std.proofs.lemmas.Bool.{true≢false, lt-ltb}
use Rattle.rdf_types.specs.declared.layout.Layout.{Layout}
use Rattle.rdf_types.specs.declared.records.Node.{Node}
use Rattle.rdf_types.specs.declared.records.Node.TheVariants.{A, B, C}
use Rattle.rdf_disk.specs.Counts.{Counts, Ending, fused}
use Rattle.rdf_disk.specs.Counts.Ending.{Fine, Stop, Fault}
use Rattle.plan_lang.specs.declared.lines.Line.{Line}
use Rattle.plan_lang.specs.declared.lines.Line.TheVariants as line
use Rattle.node_faults.specs.declared.NodeFault.{NodeFault}
use Rattle.node_faults.specs.declared.NodeFault.TheVariants as fault
use Rattle.node_faults.specs.Faults.{ending_at}
use Rattle.rdf_core.specs.declared.replies.Reply.{Reply}
use Rattle.rdf_core.specs.declared.replies.Reply.TheVariants.{Done, Stopped}
use Rattle.rdf_core.specs.Allowed.{is_node}
use Rattle.plan_lang.specs.LineText.{same_node}
use Rattle.rdf_core.specs.SessionLaws.{node_same}
use Rattle.node_disks.specs.Cuts.{IfBoth}
use Rattle.node_disks.specs.Counting.{Tells, is_fuse}
use Rattle.rdf_system.specs.declared.fault.StepFault.{StepFault}
use Rattle.rdf_system.specs.Place.{AtEach, IfUsed, is_used}
use Rattle.rdf_backup.specs.Beside.{MayEnd}
use Rattle.rdf_backup.specs.BesideLaws.{may_first}
use Rattle.rdf_system.specs.Lines.{ends_on, fuses_of, is_beside_at, is_done, counts_stop, MayCount}
use Rattle.rdf_system.specs.Noting.{is_stop_of}
use Rattle.rdf_run.specs.Rising.{counted_up, gives_fuse, RoseBy, CountsRose, sum_below, disks_many}
use Rattle.rdf_run.specs.StopsTold.{uses_of, LineTold, NoneStopped, SomeStopped}
use Rattle.rdf_run.proofs.Rises.{rose_none, rise_of, rose_some, sum_below-none, sum_below-some, sum_below-zero}
use Rattle.rdf_run.proofs.Places.{at_each_so, at_each_two, if_used_so, if_used_two}

-- the fuses that one line gives
abbrev pub given : Node → ℕ → Line → Reply → ℕ
given node i l reply = if gives_fuse node i l reply then 1 else 0

-- a line that is no fuse that is done gives none
no_gift : (node : Node) (i : ℕ) (l : Line) (reply : Reply) → (is_fuse l && is_done (Ok reply)) ≡ false → gives_fuse node i l reply ≡ false
no_gift node i (line.Fuse named disk calls tear) Done e = absurd (true≢false e)
no_gift node i _ _ e = refl

gift : (node : Node) (i : ℕ) (l : Line) (c : Counts) → fuses_of l node i c ≡ counted_up c.fuses (given node i l Done)
gift node i (line.Fuse named disk calls tear) c =
    elim (same_node named node && i == disk) as (λ b. (if b then (fused c).fuses else c.fuses) ≡ counted_up c.fuses (if b then 1 else 0)) [ true ↦ refl | false ↦ refl ]
gift node i _ c = refl

module _ {D : Type 0} (counts : D → Counts) (layout : Layout) (x y : Node → ℕ → Option D) where
  -- each used disk is so related to itself before, and any other is as it was
  abbrev pub Each : (Node → ℕ → D → D → Type 0) → Type 0
  Each R = AtEach (λ node i a b. IfUsed (is_used layout node i) (λ p q. R node i p q) a b) x y

  pub each_so : (R T : Node → ℕ → D → D → Type 0) → ((node : Node) (i : ℕ) (a b : D) → R node i a b → T node i a b) → Each R → Each T
  each_so R T f h = at_each_so (λ node i a b. IfUsed (is_used layout node i) (λ p q. R node i p q) a b) (λ node i a b. IfUsed (is_used layout node i) (λ p q. T node i p q) a b) x y
      (λ node i a b. if_used_so (is_used layout node i) (R node i) (T node i) a b (f node i a b)) h

  pub each_two : (R S T : Node → ℕ → D → D → Type 0) → ((node : Node) (i : ℕ) (a b : D) → R node i a b → S node i a b → T node i a b) → Each R → Each S → Each T
  each_two R S T f h k = at_each_two (λ node i a b. IfUsed (is_used layout node i) (λ p q. R node i p q) a b) (λ node i a b. IfUsed (is_used layout node i) (λ p q. S node i p q) a b) (λ node i a b. IfUsed (is_used layout node i) (λ p q. T node i p q) a b) x y
      (λ node i a b. if_used_two (is_used layout node i) (R node i) (S node i) (T node i) a b (f node i a b)) h k

  -- the fuses over a line that was answered
  abbrev Fuses : Line → Result Reply StepFault → Type 0
  Fuses l result = (Each (λ node i a b. (counts b).fuses ≡ (counts a).fuses) × ((is_fuse l && is_done result) ≡ false))
      ⊎ ((result ≡ Ok Done) × Each (λ node i a b. (counts b).fuses ≡ fuses_of l node i (counts a)))

  pub fuses_rise : (l : Line) (reply : Reply) → Fuses l (Ok reply) → Each (λ node i a b. (counts b).fuses ≡ counted_up (counts a).fuses (given node i l reply))
  fuses_rise l reply (inl h) = each_so (λ node i a b. (counts b).fuses ≡ (counts a).fuses) (λ node i a b. (counts b).fuses ≡ counted_up (counts a).fuses (given node i l reply))
      (λ node i a b e. subst (λ (g : Bool). (counts b).fuses ≡ counted_up (counts a).fuses (if g then 1 else 0)) (sym (no_gift node i l reply h.1)) e) h.0
  fuses_rise l reply (inr h) = each_so (λ node i a b. (counts b).fuses ≡ fuses_of l node i (counts a)) (λ node i a b. (counts b).fuses ≡ counted_up (counts a).fuses (given node i l reply))
      (λ node i a b e. subst (λ (r : Reply). (counts b).fuses ≡ counted_up (counts a).fuses (given node i l r)) (sym (reply_is reply h.0)) (e ∙ gift node i l (counts a))) h.1
    where
      reply_is : (r : Reply) → (let result : Result Reply StepFault = Ok r in result ≡ Ok Done) → r ≡ Done
      reply_is r e = cc

  -- a line that was not answered that it is done gives no fuse
  pub fuses_stay : (l : Line) (result : Result Reply StepFault) → result ≢ Ok Done → Fuses l result → Each (λ node i a b. (counts b).fuses ≡ (counts a).fuses)
  fuses_stay l result ne (inl h) = h.0
  fuses_stay l result ne (inr h) = absurd (ne h.0)

  -- a line that is no fuse gives none
  pub fuses_kept : (l : Line) (result : Result Reply StepFault) → is_fuse l ≡ false → Fuses l result → Each (λ node i a b. (counts b).fuses ≡ (counts a).fuses)
  fuses_kept l result none (inl h) = h.0
  fuses_kept l result none (inr h) = each_so (λ node i a b. (counts b).fuses ≡ fuses_of l node i (counts a)) (λ node i a b. (counts b).fuses ≡ (counts a).fuses) (λ node i a b e. e ∙ no_fuse l node i (counts a) none) h.1
    where
      no_fuse : (k : Line) (node : Node) (i : ℕ) (c : Counts) → is_fuse k ≡ false → fuses_of k node i c ≡ c.fuses
      no_fuse (line.Fuse named disk calls tear) node i c e = absurd (true≢false e)
      no_fuse _ node i c e = refl

  -- no disk stopped
  pub none_stops : Each (λ node i a b. Tells Fine (counts a) (counts b)) → Each (λ node i a b. RoseBy 0 (counts a).stops (counts b).stops)
  none_stops h = each_so (λ node i a b. Tells Fine (counts a) (counts b)) (λ node i a b. RoseBy 0 (counts a).stops (counts b).stops) (λ node i a b t. rose_none (counts a).stops (counts b).stops t.1) h

  -- by how much the stops of one disk rose
  pub gap : Option D → Option D → ℕ
  gap None q = 1
  gap (Some a) None = 1
  gap (Some a) (Some b) = rise_of (counts a).stops (counts b).stops

  some_gap : (p q : Option D) → 0 < gap p q
  unfolding gap
  some_gap None q = omega arith
  some_gap (Some a) None = omega arith
  some_gap (Some a) (Some b) = omega arith

  -- by how much those of a disk rose for which the line ended so
  abbrev pub stops_by : Ending → Option D → Option D → ℕ
  stops_by Fine p q = 0
  stops_by Stop p q = gap p q
  stops_by Fault p q = 0

  rose_by : (u : Bool) (e : Ending) (p q : Option D) → IfBoth (λ a b. IfUsed u (λ c d. Tells e (counts c) (counts d)) a b) p q →
      IfBoth (λ a b. IfUsed u (λ c d. RoseBy (stops_by e p q) (counts c).stops (counts d).stops) a b) p q
  unfolding gap
  rose_by u e None None h = tt
  rose_by u e None (Some b) h = absurd h
  rose_by u e (Some a) None h = absurd h
  rose_by u Fine (Some a) (Some b) h = if_used_so u (λ c d. Tells Fine (counts c) (counts d)) (λ c d. RoseBy 0 (counts c).stops (counts d).stops) a b (λ t. rose_none (counts a).stops (counts b).stops t.1) h
  rose_by u Stop (Some a) (Some b) h = if_used_so u (λ c d. Tells Stop (counts c) (counts d)) (λ c d. RoseBy (rise_of (counts a).stops (counts b).stops) (counts c).stops (counts d).stops) a b (λ t. rose_some (counts a).stops (counts b).stops t.1 t.2) h
  rose_by u Fault (Some a) (Some b) h = if_used_so u (λ c d. Tells Fault (counts c) (counts d)) (λ c d. RoseBy 0 (counts c).stops (counts d).stops) a b (λ t. rose_none (counts a).stops (counts b).stops t.2) h

  some_by : (e : Ending) (p q : Option D) → e ≡ Stop → 0 < stops_by e p q
  some_by e p q is = subst (λ (k : Ending). 0 < stops_by k p q) (sym is) (some_gap p q)

  pub none_by : (e : Ending) (p q : Option D) → e ≢ Stop → stops_by e p q ≡ 0
  none_by Fine p q ne = refl
  none_by Stop p q ne = absurd (ne refl)
  none_by Fault p q ne = refl

  abbrev pub Rises : (Node → ℕ → ℕ) → Node → ℕ → D → D → Type 0
  Rises more node i a b = RoseBy (more node i) (counts a).stops (counts b).stops

  -- by how much those of each disk rose, where the line ended so for it
  abbrev pub rises_by : (Node → ℕ → Ending) → Node → ℕ → ℕ
  rises_by e node i = stops_by (e node i) (x node i) (y node i)

  pub each_rises : (e : Node → ℕ → Ending) → Each (λ node i a b. Tells (e node i) (counts a) (counts b)) → Each (Rises (rises_by e))
  each_rises e h = λ node i. rose_by (is_used layout node i) (e node i) (x node i) (y node i) (h node i)

  pub rose_of : (fuses more : Node → ℕ → ℕ) → Each (λ node i a b. (counts b).fuses ≡ counted_up (counts a).fuses (fuses node i)) → Each (Rises more) →
      Each (λ node i a b. CountsRose (fuses node i) (more node i) (counts a) (counts b))
  rose_of fuses more h k = each_two (λ node i a b. (counts b).fuses ≡ counted_up (counts a).fuses (fuses node i)) (Rises more) (λ node i a b. CountsRose (fuses node i) (more node i) (counts a) (counts b))
      (λ node i a b p q. record { fuses_are = p; stops_are = q }) h k

  -- by how much the stops of the disks rose in a line: those of the node whose disks it uses, where the reply says that it has stopped, by so much together, and no other.
  -- The reply says it of that node alone, but at the end of a session.
  pub record LineStops (used : Option Node) (l : Line) (reply : Reply) : Type 0 where
    pub rise : ℕ
    pub some : 0 < rise
    pub more : Node → ℕ → ℕ
    pub disks : Each (Rises more)
    pub told : LineTold layout l reply more
    pub sums : ((node : Node) → reply ≡ Stopped node → (used ≡ Some node) ⊎ (l ≡ line.End)) → (node : Node) → sum_below (disks_many layout node) (more node) ≡ (if counts_stop used node reply then rise else 0)

  not_stop : (reply : Reply) (node : Node) → reply ≢ Stopped node → is_stop_of node reply ≡ false
  not_stop (Stopped of) node ne = by_same (same_node node of) refl
    where
      by_same : (b : Bool) → same_node node of ≡ b → b ≡ false
      by_same true e = absurd (ne (ap (λ n. Stopped n) (sym (node_same node of e))))
      by_same false e = refl
  not_stop _ node ne = refl

  -- where the node whose disks the line uses did not stop, no stop is counted
  pub not_counted : (used : Option Node) (reply : Reply) (node : Node) → ((of : Node) → used ≡ Some of → reply ≢ Stopped of) → counts_stop used node reply ≡ false
  not_counted None reply node ne = refl
  not_counted (Some of) reply node ne = by_same (same_node of node) refl
    where
      by_same : (b : Bool) → same_node of node ≡ b → (b && is_stop_of node reply) ≡ false
      by_same true e = not_stop reply node (λ q. ne of refl (q ∙ ap (λ n. Stopped n) (sym (node_same of node e))))
      by_same false e = refl

  same_turned : (m n : Node) → same_node m n ≡ same_node n m
  same_turned A A = refl
  same_turned A B = refl
  same_turned A C = refl
  same_turned B A = refl
  same_turned B B = refl
  same_turned B C = refl
  same_turned C A = refl
  same_turned C B = refl
  same_turned C C = refl

  same_twice : (m n : Node) → (same_node m n && same_node n m) ≡ same_node m n
  same_twice m n = ap (λ b. same_node m n && b) (same_turned n m) ∙ both_same (same_node m n)
    where
      both_same : (b : Bool) → (b && b) ≡ b
      both_same true = refl
      both_same false = refl

  -- the stops of a node's disks, taken together
  abbrev sum_at : Node → (ℕ → Ending) → ℕ
  sum_at node ends = sum_below (suc layout.volumes) (λ i. stops_by (ends i) (x node i) (y node i))

  -- those of each node, where the line ended so for the disks of the named one
  sum_named : (named : Node) (ends : ℕ → Ending) (node : Node) → is_node layout named ≡ true → sum_below (disks_many layout node) (rises_by (ends_on named ends) node) ≡ (if same_node named node then sum_at named ends else 0)
  sum_named named ends node has = by_same (same_node named node) refl
    where
      many : disks_many layout named ≡ suc layout.volumes
      many = ap (λ b. if b then suc layout.volumes else 0) has

      by_same : (b : Bool) → same_node named node ≡ b → sum_below (disks_many layout node) (λ i. stops_by (if b then ends i else Fine) (x node i) (y node i)) ≡ (if b then sum_at named ends else 0)
      by_same false e = sum_below-none (disks_many layout node)
      by_same true e =
          subst (λ (m : Node). sum_below (disks_many layout m) (λ i. stops_by (ends i) (x m i) (y m i)) ≡ sum_at named ends) (node_same named node e)
          (ap (λ n. sum_below n (λ i. stops_by (ends i) (x named i) (y named i))) many)

  -- at least one disk of the named node stopped
  pub stopped_stops : (used : Option Node) (l : Line) (reply : Reply) (named : Node) → (l ≡ line.End → used ≡ Some named) → reply ≡ Stopped named → (disk : ℕ) (ends : ℕ → Ending) → is_node layout named ≡ true → disk < suc layout.volumes → ends disk ≡ Stop →
      Each (λ node i a b. Tells (ends_on named ends node i) (counts a) (counts b)) → LineStops used l reply
  stopped_stops used l reply named at_end told disk ends has few stop each = record {
    rise = sum_at named ends;
    some = sum_below-some (suc layout.volumes) disk (λ i. stops_by (ends i) (x named i) (y named i)) few (some_by (ends disk) (x named disk) (y named disk) stop);
    more = rises_by (ends_on named ends);
    disks = each_rises (ends_on named ends) each;
    told = SomeStopped named told disk (ap (λ b. b && nat_lt disk (suc layout.volumes)) has ∙ lt-ltb disk (suc layout.volumes) few)
        (subst (λ b. 0 < stops_by (if b then ends disk else Fine) (x named disk) (y named disk)) (sym (same_self named)) (some_by (ends disk) (x named disk) (y named disk) stop))
        (λ other i e. ap (λ b. stops_by (if b then ends i else Fine) (x other i) (y other i)) e);
    sums = λ near node.
        sum_named named ends node has
        ∙ ap (λ b. if b then sum_at named ends else 0) (sym (same_twice named node))
        ∙ ap (λ (r : Reply). if same_node named node && is_stop_of node r then sum_at named ends else 0) (sym told)
        ∙ ap (λ (u : Option Node). if counts_stop u node reply then sum_at named ends else 0) (sym (used_is (near named told)));
  }
    where
      same_self : (n : Node) → same_node n n ≡ true
      same_self A = refl
      same_self B = refl
      same_self C = refl

      used_is : (used ≡ Some named) ⊎ (l ≡ line.End) → used ≡ Some named
      used_is (inl e) = e
      used_is (inr e) = at_end e

  pub line_stops : (used : Option Node) (l : Line) (reply : Reply) → ((node : Node) → uses_of l ≡ Some node → used ≡ Some node) → (Each (λ node i a b. Tells Fine (counts a) (counts b)) × ((node : Node) → used ≡ Some node → reply ≢ Stopped node))
      ⊎ ((named : Node) × ((l ≡ line.End → used ≡ Some named) × ((reply ≡ Stopped named) × ((disk : ℕ) × ((is_node layout named ≡ true) × (disk < suc layout.volumes)
      × ((ends : ℕ → Ending) × (MayEnd (is_beside_at named l) (fault.Stopped disk) ends × Each (λ node i a b. Tells (ends_on named ends node i) (counts a) (counts b))))))))) → LineStops used l reply
  line_stops used l reply uses (inl h) = record {
    rise = 1;
    some = omega arith;
    more = λ node i. 0;
    disks = none_stops h.0;
    told = NoneStopped (λ node i. refl) (λ node of. h.1 node (uses node of));
    sums = λ told node. sum_below-none (disks_many layout node) ∙ ap (λ b. if b then 1 else 0) (sym (not_counted used reply node h.1));
  }
  line_stops used l reply uses (inr h) =
      let fails = h.1.1.1.1 in
      stopped_stops used l reply h.0 h.1.0 h.1.1.0 h.1.1.1.0 fails.2.0 fails.0 fails.1 (may_first (is_beside_at h.0 l) (fault.Stopped h.1.1.1.0) fails.2.0 fails.2.1.0).0 fails.2.1.1

  -- a fault that is no stop stops no disk, but in a line that works volumes beside each other
  pub no_stop : (why : NodeFault) → ((disk : ℕ) → why ≢ fault.Stopped disk) → (i : ℕ) → ending_at i why ≢ Stop
  no_stop (fault.Stopped disk) never i = absurd (never disk refl)
  no_stop (fault.Failed disk) never i = elim (disk == i) as (λ b. (if b then Fault else Fine) ≢ Stop) [ true ↦ (λ e. cc) | false ↦ (λ e. cc) ]
  no_stop fault.NoMemory never i = λ e. cc
  no_stop (fault.Damaged disk file at) never i = λ e. cc

  -- so the stops of a line that was broken off are none, or of the named node
  pub may_count : (l : Line) (named : Node) (why : NodeFault) (ends : ℕ → Ending) (many : Node → ℕ) → ((disk : ℕ) → why ≢ fault.Stopped disk) → MayEnd (is_beside_at named l) why ends →
      MayCount l named (λ node. sum_below (many node) (rises_by (ends_on named ends) node))
  may_count l named why ends many never may node = by_same (same_node named node) refl
    where
      by_end : same_node named node ≡ true → MayEnd (is_beside_at named l) why ends → (sum_below (many node) (λ i. stops_by (ends i) (x node i) (y node i)) ≡ 0) ⊎ ((node ≡ named) × (is_beside_at named l ≡ true))
      by_end e (inl same) = inl (sum_below-zero (many node) (λ i. stops_by (ends i) (x node i) (y node i)) (λ i. none_by (ends i) (x node i) (y node i) (λ h. no_stop why never i (sym (same i) ∙ h))))
      by_end e (inr several) = inr (sym (node_same named node e), several.0)

      by_same : (b : Bool) → same_node named node ≡ b → (sum_below (many node) (λ i. stops_by (if b then ends i else Fine) (x node i) (y node i)) ≡ 0) ⊎ ((node ≡ named) × (is_beside_at named l ≡ true))
      by_same false e = inl (sum_below-none (many node))
      by_same true e = by_end e may
