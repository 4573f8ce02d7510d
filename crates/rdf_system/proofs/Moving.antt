-- A line that uses the disks of one node: the disks of all nodes, place by place, from those of that node.
use Rattle.std.proofs.lemmas.Bool.{and_from}
use Rattle.std.proofs.Common.{◌≡◌, ◌≢◌, ◌⊎◌, inl, inr, ℕ, suc, ◌+◌, ◌<◌, ◌≤◌, ◌&&◌, Bool, true, false, nat_lt, List, ◌++◌, length, Option, Some, None, Result, Ok, Err, if◌then◌else◌, refl, sym, ap, ◌∙◌, subst}
use Rattle.std.specs.Prelude.{slice_get}
use Rattle.std.proofs.lemmas.List.{length-append}
use Rattle.rdf_types.specs.declared.records.Node.{Node}
use Rattle.rdf_disk.specs.Counts.{Counts, Ending}
use Rattle.rdf_disk.specs.Counts.Ending.{Fine}
use Rattle.rdf_disk.specs.declared.disk.Disk.{Ghosts}
use Rattle.plan_lang.specs.declared.lines.Line.{Line}
use Rattle.plan_lang.specs.declared.lines.Line.TheVariants as line
use Rattle.node_faults.specs.declared.NodeFault.{NodeFault}
use Rattle.node_faults.specs.declared.NodeFault.TheVariants as fault
use Rattle.node_faults.specs.Faults.{ending_at, IsNamed}
use Rattle.rdf_backup.specs.Beside.{MayEnd}
use Rattle.node_disks.specs.Cuts.{IfBoth, Each}
use Rattle.node_disks.specs.Counting.{Tells, is_fuse}
use Rattle.node_disks.specs.Counting as counting
use Rattle.rdf_core.specs.declared.replies.Reply.{Reply}
use Rattle.rdf_core.specs.declared.replies.Reply.TheVariants.{Done, Stopped}
use Rattle.rdf_core.specs.Allowed.{is_node}
use Rattle.plan_lang.specs.LineText.{same_node}
use Rattle.rdf_system.specs.declared.fault.StepFault.{StepFault}
use Rattle.rdf_system.specs.declared.system.System.{System}
use Rattle.rdf_system.specs.Place.{IfUsed, is_used}
use Rattle.rdf_system.specs.Sessions.{used_by}
use Rattle.rdf_system.specs.States.{disk_of, disks_of_node, layout_of}
use Rattle.rdf_system.specs.Lines.{EachUsed, NoneFails, FailsBy, ReplyCaused, IsFused, LeavesUnused, is_beside_at, ends_on, fuses_of, is_done}
use Rattle.rdf_system.proofs.PlaceLaws.{joined_each, beyond_same, below, not_below, is_not_below, used, unused, if_same, not_so}
use Rattle.rdf_core.specs.SessionLaws.{same_self}
use Rattle.rdf_system.proofs.Telling.{same_is, either}

and_false : (b c : Bool) → c ≡ false → (b && c) ≡ false
and_false true c f = f
and_false false c f = refl

right_false : (b c : Bool) → b ≡ true → (b && c) ≡ false → c ≡ false
right_false true c e f = f
right_false false c e f = not_so e

-- a disk that is there goes so, or it is not used
pub stays : {D : Type 0} (R : D → D → Type 0) (b : Bool) (o : Option D) → ((x : D) → R x x) → IfBoth (λ x y. IfUsed b R x y) o o
stays R b None h = tt
stays R b (Some x) h = if_same R b x (h x)

-- the counts of a node's disks show the cause of that fault
abbrev pub FailsAt : {D : Type 0} → (D → Counts) → Bool → NodeFault → List D → List D → Type 0
FailsAt counts beside why own own' = IsNamed (length own) why × ((ends : ℕ → Ending) × (MayEnd beside why ends × Each (λ i x y. Tells (ends i) (counts x) (counts y)) own own'))

-- or of that reply
abbrev pub CausesAt : {D : Type 0} → (D → Counts) → Bool → Node → Reply → List D → List D → Type 0
CausesAt counts beside named reply own own' = (Each (λ i x y. Tells Fine (counts x) (counts y)) own own' × (reply ≢ Stopped named))
    ⊎ ((reply ≡ Stopped named) × ((disk : ℕ) × FailsAt counts beside (fault.Stopped disk) own own'))

-- one disk alone failed or stopped
module _ {D : Type 0} (counts : D → Counts) (own own' : List D) (beside : Bool) where
  pub fails_one : (why : NodeFault) → (IsNamed (length own) why × Each (λ i x y. Tells (ending_at i why) (counts x) (counts y)) own own') → FailsAt counts beside why own own'
  fails_one why h = (h.0, (λ i. ending_at i why, (inl (λ i. refl), h.1)))

  pub causes_one : (named : Node) (reply : Reply) →
      (Each (λ i x y. Tells Fine (counts x) (counts y)) own own' × (reply ≢ Stopped named)) ⊎ ((reply ≡ Stopped named) × ((disk : ℕ) × (IsNamed (length own) (fault.Stopped disk) × Each (λ i x y. Tells (ending_at i (fault.Stopped disk)) (counts x) (counts y)) own own'))) →
      CausesAt counts beside named reply own own'
  causes_one named reply (inl h) = inl h
  causes_one named reply (inr h) = inr (h.0, (h.1.0, fails_one (fault.Stopped h.1.0) h.1.1))

-- only the disks of one node change, and those beside it stay
pub record Moves {D : Type 0} {d : Ghosts D} (named : Node) (own own' : List D) (old new : System D d) : Type 0 where
  pub laid : layout_of new ≡ layout_of old
  pub there : is_node (layout_of old) named ≡ true
  pub many : length own ≡ suc (layout_of old).volumes
  pub spare : List D
  pub before : disks_of_node old named ≡ own ++ spare
  pub behind : disks_of_node new named ≡ own' ++ spare
  pub others : (node : Node) → same_node named node ≡ false → disks_of_node new node ≡ disks_of_node old node

module _ {D : Type 0} {d : Ghosts D} (named : Node) (own own' : List D) (old new : System D d) (moves : Moves named own own' old new) where
  -- each disk of the node went so
  own_each : (R : Node → ℕ → D → D → Type 0) (S : ℕ → D → D → Type 0) → ((i : ℕ) (x y : D) → S i x y → R named i x y) → Each S own own' →
      Each (λ i x y. IfUsed (is_used (layout_of old) named i) (λ a b. R named i a b) x y) (own ++ moves.spare) (own' ++ moves.spare)
  own_each R S f h = joined_each S (λ i x y. IfUsed (is_used (layout_of old) named i) (λ a b. R named i a b) x y) own own' moves.spare h
      (λ i x y few s. used (λ a b. R named i a b) x y (is_used (layout_of old) named i) (and_from (is_node (layout_of old) named) (nat_lt i (suc (layout_of old).volumes)) moves.there (below i (suc (layout_of old).volumes) (subst (λ n. i < n) moves.many few))) (f i x y s))
      (λ i x far. unused (λ a b. R named i a b) x x (is_used (layout_of old) named i) (and_false (is_node (layout_of old) named) (nat_lt i (suc (layout_of old).volumes)) (not_below i (suc (layout_of old).volumes) (subst (λ n. n ≤ i) moves.many far))) refl)

  own_used : (R : Node → ℕ → D → D → Type 0) (S : ℕ → D → D → Type 0) → ((i : ℕ) (x y : D) → S i x y → R named i x y) → Each S own own' →
      Each (λ i x y. IfUsed (is_used (layout_of old) named i) (λ a b. R named i a b) x y) (disks_of_node old named) (disks_of_node new named)
  own_used R S f h = subst (λ (xs : List D). Each (λ i x y. IfUsed (is_used (layout_of old) named i) (λ a b. R named i a b) x y) (disks_of_node old named) xs) (sym moves.behind)
      (subst (λ (xs : List D). Each (λ i x y. IfUsed (is_used (layout_of old) named i) (λ a b. R named i a b) x y) xs (own' ++ moves.spare)) (sym moves.before) (own_each R S f h))

  -- and those of the others stayed
  pub each_used : (R : Node → ℕ → D → D → Type 0) (S : ℕ → D → D → Type 0) → ((i : ℕ) (x y : D) → S i x y → R named i x y) → ((node : Node) → same_node named node ≡ false → (i : ℕ) (x : D) → R node i x x) → Each S own own' → EachUsed R old new
  each_used R S f g h node i = go (either (same_node named node))
    where
      far : same_node named node ≡ false → IfBoth (λ x y. IfUsed (is_used (layout_of old) node i) (λ a b. R node i a b) x y) (disk_of old node i) (disk_of new node i)
      far e = subst (λ (xs : List D). IfBoth (λ x y. IfUsed (is_used (layout_of old) node i) (λ a b. R node i a b) x y) (disk_of old node i) (slice_get xs i)) (sym (moves.others node e))
          (stays (λ a b. R node i a b) (is_used (layout_of old) node i) (disk_of old node i) (g node e i))

      go : ((same_node named node ≡ true) ⊎ (same_node named node ≡ false)) → IfBoth (λ x y. IfUsed (is_used (layout_of old) node i) (λ a b. R node i a b) x y) (disk_of old node i) (disk_of new node i)
      go (inl e) = subst (λ (n : Node). IfBoth (λ x y. IfUsed (is_used (layout_of old) n i) (λ a b. R n i a b) x y) (disk_of old n i) (disk_of new n i)) (same_is named node e) (own_used R S f h i)
      go (inr e) = far e

  pub many_stay : length own' ≡ length own → (node : Node) → length (disks_of_node new node) ≡ length (disks_of_node old node)
  many_stay same node = go (either (same_node named node))
    where
      here : length (disks_of_node new named) ≡ length (disks_of_node old named)
      here = ap (λ (xs : List D). length xs) moves.behind ∙ length-append own' moves.spare ∙ counted ∙ sym (length-append own moves.spare) ∙ sym (ap (λ (xs : List D). length xs) moves.before)
        where
          counted : length own' + length moves.spare ≡ length own + length moves.spare
          counted = ap (λ n. n + length moves.spare) same

      go : ((same_node named node ≡ true) ⊎ (same_node named node ≡ false)) → length (disks_of_node new node) ≡ length (disks_of_node old node)
      go (inl e) = subst (λ (n : Node). length (disks_of_node new n) ≡ length (disks_of_node old n)) (same_is named node e) here
      go (inr e) = ap (λ (xs : List D). length xs) (moves.others node e)

  pub unused_stay : length own' ≡ length own → LeavesUnused old new
  unused_stay same node i free = go (either (same_node named node))
    where
      here : is_used (layout_of old) named i ≡ false → disk_of new named i ≡ disk_of old named i
      here e = ap (λ (xs : List D). slice_get xs i) moves.behind ∙ beyond_same own own' moves.spare same i far ∙ sym (ap (λ (xs : List D). slice_get xs i) moves.before)
        where
          far : length own ≤ i
          far = subst (λ n. n ≤ i) (sym moves.many) (is_not_below i (suc (layout_of old).volumes) (right_false (is_node (layout_of old) named) (nat_lt i (suc (layout_of old).volumes)) moves.there e))

      go : ((same_node named node ≡ true) ⊎ (same_node named node ≡ false)) → disk_of new node i ≡ disk_of old node i
      go (inl e) = subst (λ (n : Node). is_used (layout_of old) n i ≡ false → disk_of new n i ≡ disk_of old n i) (same_is named node e) here free
      go (inr e) = ap (λ (xs : List D). slice_get xs i) (moves.others node e)

  module _ (counts : D → Counts) where
    still_fine : (x : D) → Tells Fine (counts x) (counts x)
    still_fine x = (refl, refl)

    none_fail : Each (λ i x y. Tells Fine (counts x) (counts y)) own own' → NoneFails counts old new
    none_fail h = each_used (λ node i x y. Tells Fine (counts x) (counts y)) (λ i x y. Tells Fine (counts x) (counts y)) (λ i x y k. k) (λ node far i x. still_fine x) h

    ending_here : (ends : ℕ → Ending) (i : ℕ) → ends_on named ends named i ≡ ends i
    ending_here ends i = ap (λ (b : Bool). if b then ends i else Fine) (same_self named)

    ends_each : (ends : ℕ → Ending) → Each (λ i x y. Tells (ends i) (counts x) (counts y)) own own' → EachUsed (λ node i x y. Tells (ends_on named ends node i) (counts x) (counts y)) old new
    ends_each ends h = each_used (λ node i x y. Tells (ends_on named ends node i) (counts x) (counts y)) (λ i x y. Tells (ends i) (counts x) (counts y))
        (λ i x y k. subst (λ (e : Ending). Tells e (counts x) (counts y)) (sym (ending_here ends i)) k)
        (λ node far i x. subst (λ (b : Bool). Tells (if b then ends i else Fine) (counts x) (counts x)) (sym far) (still_fine x)) h

    pub fail_by : (l : Line) (why : NodeFault) → FailsAt counts (is_beside_at named l) why own own' → FailsBy counts l named why old new
    fail_by l why h = (moves.there, subst (λ k. IsNamed k why) moves.many h.0, (h.1.0, (h.1.1.0, ends_each h.1.0 h.1.1.1)))

    pub reply_caused : (l : Line) (reply : Reply) → ((node : Node) → used_by old.session l ≡ Some node → node ≡ named) → (l ≡ line.End → used_by old.session l ≡ Some named) →
        CausesAt counts (is_beside_at named l) named reply own own' → ReplyCaused counts l reply old new
    reply_caused l reply on ended (inl h) = inl (none_fail h.0, λ node of. subst (λ (n : Node). reply ≢ Stopped n) (sym (on node of)) h.1)
    reply_caused l reply on ended (inr h) = inr (named, (ended, (h.0, (h.1.0, fail_by l (fault.Stopped h.1.0) h.1.1))))

    done_same : (reply : Reply) → counting.is_done (Ok reply) ≡ is_done (Ok reply)
    done_same Done = refl
    done_same _ = refl

    done_too : (reply : Reply) → ◌≡◌ {A = Result Reply NodeFault} (Ok reply) (Ok Done) → ◌≡◌ {A = Result Reply StepFault} (Ok reply) (Ok Done)
    done_too reply e = ap (λ (r : Reply). let o : Result Reply StepFault = Ok r in o) (is e)
      where
        is : ◌≡◌ {A = Result Reply NodeFault} (Ok reply) (Ok Done) → reply ≡ Done
        is f = cc

    none_fused : Each (λ i x y. (counts y).fuses ≡ (counts x).fuses) own own' → EachUsed (λ node i x y. (counts y).fuses ≡ (counts x).fuses) old new
    none_fused h = each_used (λ node i x y. (counts y).fuses ≡ (counts x).fuses) (λ i x y. (counts y).fuses ≡ (counts x).fuses) (λ i x y k. k) (λ node far i x. refl) h

    pub reply_fused : (l : Line) (reply : Reply) → ((i : ℕ) (c : Counts) → counting.fuses_of l i c ≡ fuses_of l named i c) → ((node : Node) → same_node named node ≡ false → (i : ℕ) (c : Counts) → c.fuses ≡ fuses_of l node i c) →
        (Each (λ i x y. (counts y).fuses ≡ (counts x).fuses) own own' × ((is_fuse l && counting.is_done (Ok reply)) ≡ false)) ⊎ ((◌≡◌ {A = Result Reply NodeFault} (Ok reply) (Ok Done)) × Each (λ i x y. (counts y).fuses ≡ counting.fuses_of l i (counts x)) own own') →
        IsFused counts l (Ok reply) old new
    reply_fused l reply here far (inl h) = inl (none_fused h.0, ap (λ b. is_fuse l && b) (sym (done_same reply)) ∙ h.1)
    reply_fused l reply here far (inr h) = inr (
      done_too reply h.0,
      each_used (λ node i x y. (counts y).fuses ≡ fuses_of l node i (counts x)) (λ i x y. (counts y).fuses ≡ counting.fuses_of l i (counts x))
          (λ i x y k. k ∙ here i (counts x)) (λ node away i x. far node away i (counts x)) h.1,
    )

    pub fault_fused : (l : Line) (why : NodeFault) (said : StepFault) →
        (Each (λ i x y. (counts y).fuses ≡ (counts x).fuses) own own' × ((is_fuse l && counting.is_done (Err why)) ≡ false)) ⊎ ((◌≡◌ {A = Result Reply NodeFault} (Err why) (Ok Done)) × Each (λ i x y. (counts y).fuses ≡ counting.fuses_of l i (counts x)) own own') →
        IsFused counts l (Err said) old new
    fault_fused l why said (inl h) = inl (none_fused h.0, h.1)
    fault_fused l why said (inr h) = absurd cc
