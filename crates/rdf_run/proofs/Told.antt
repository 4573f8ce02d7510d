-- The stops that replies tell of, with one line more, and taken together.
use Rattle.std.proofs.Common.{◌≡◌, inl, inr, ℕ, zero, suc, ◌+◌, ◌<◌, ◌≤◌, Bool, true, false, List, [], ◌∷◌, ◌++◌, Option, Some, None, refl, sym, ap, ◌∙◌, subst, if◌then◌else◌, arith}
use Rattle.std.proofs.lemmas.Bool.{true≢false, ltb-true, and_parts}
use Rattle.rdf_types.specs.declared.layout.Layout.{Layout}
use Rattle.rdf_types.specs.declared.records.Node.{Node}
use Rattle.plan_lang.specs.declared.lines.Line.{Line}
use Rattle.plan_lang.specs.LineText.{same_node}
use Rattle.rdf_core.specs.declared.replies.Reply.{Reply}
use Rattle.rdf_core.specs.declared.replies.Reply.TheVariants.{Stopped}
use Rattle.rdf_core.specs.Allowed.{is_node}
use Rattle.rdf_core.specs.SessionLaws.{node_same}
use Rattle.rdf_system.specs.Lines.{counts_stop}
use Rattle.rdf_system.specs.Noting.{is_stop_of}
use Rattle.rdf_run.specs.Rising.{sum_below, disks_many, sums_of}
use Rattle.rdf_run.specs.StopsTold.{uses_of, LineTold, NoneStopped, SomeStopped, AreTold, AreToldOf, stops_answered, TellsStop}
use Rattle.rdf_run.proofs.Rises.{sum_below-add, sum_below-some}

module _ (layout : Layout) where
  -- a line more was answered
  pub told_on : (lines : List Line) (replies : List Reply) (l : Line) (reply : Reply) (stops more : Node → ℕ → ℕ) → AreTold layout lines replies stops → LineTold layout l reply more →
      AreTold layout (lines ++ l ∷ []) (replies ++ reply ∷ []) (λ node i. stops node i + more node i)
  told_on [] [] l reply stops more none h = (more, (stops, (h, (none, λ node i. omega arith))))
  told_on [] (r ∷ replies) l reply stops more told h = absurd told
  told_on (k ∷ lines) [] l reply stops more told h = absurd told
  told_on (k ∷ lines) (r ∷ replies) l reply stops more told h =
      (told.0, ((λ node i. told.1.0 node i + more node i), (told.1.1.0, (told_on lines replies l reply told.1.0 more told.1.1.1.0 h, λ node i. let sum = told.1.1.1.1 node i in omega (arith, sum)))))

  -- they tell of some of as many stops or more
  pub told_some : (lines : List Line) (replies : List Reply) (stops later : Node → ℕ → ℕ) → ((node : Node) (i : ℕ) → stops node i ≤ later node i) → AreTold layout lines replies stops → AreToldOf false layout lines replies later
  told_some lines replies stops later few h = (stops, (h, few))

  -- ---- taken together

  -- a line that is counted has a stop of a disk of the node
  line_sum : (node : Node) (l : Line) (reply : Reply) (stops : Node → ℕ → ℕ) → LineTold layout l reply stops → (if counts_stop (uses_of l) node reply then 1 else 0) ≤ sums_of layout stops node
  line_sum node l reply stops h = by_count (counts_stop (uses_of l) node reply) refl
    where
      stop_is : (r : Reply) (of : Node) → is_stop_of of r ≡ true → r ≡ Stopped of
      stop_is (Stopped m) of e = ap (λ n. Stopped n) (sym (node_same of m e))
      stop_is _ of e = absurd (true≢false (sym e))

      used_is : (used : Option Node) → counts_stop used node reply ≡ true → (used ≡ Some node) × (reply ≡ Stopped node)
      used_is None e = absurd (true≢false (sym e))
      used_is (Some of) e = let p = and_parts (same_node of node) (is_stop_of node reply) e in (ap (λ n. Some n) (node_same of node p.0), stop_is reply node p.1)

      stopped_same : (m n : Node) → Stopped m ≡ Stopped n → m ≡ n
      stopped_same m n e = cc

      some : LineTold layout l reply stops → uses_of l ≡ Some node → reply ≡ Stopped node → 0 < sums_of layout stops node
      some (NoneStopped none untold) used told = absurd (untold node used told)
      some (SomeStopped named told disk used more alone) uses tells = subst (λ (n : Node). 0 < sums_of layout stops n) (stopped_same named node (sym told ∙ tells))
          (subst (λ b. 0 < sum_below (if b then suc layout.volumes else 0) (stops named)) (sym (and_parts (is_node layout named) _ used).0)
          (sum_below-some (suc layout.volumes) disk (stops named) (ltb-true disk (suc layout.volumes) (and_parts (is_node layout named) _ used).1) more))

      by_count : (b : Bool) → counts_stop (uses_of l) node reply ≡ b → (if b then 1 else 0) ≤ sums_of layout stops node
      by_count true e = let p = used_is (uses_of l) e in some h p.0 p.1
      by_count false e = omega arith

  pub told_sum : (lines : List Line) (replies : List Reply) (stops : Node → ℕ → ℕ) → AreTold layout lines replies stops → (node : Node) → stops_answered node lines replies ≤ sums_of layout stops node
  told_sum [] [] stops h node = omega arith
  told_sum [] (r ∷ replies) stops h node = absurd h
  told_sum (k ∷ lines) [] stops h node = absurd h
  told_sum (k ∷ lines) (r ∷ replies) stops h node =
      let first = line_sum node k r h.0 h.1.1.0 in
      let others = told_sum lines replies h.1.0 h.1.1.1.0 node in
      let sum = sum_same (disks_many layout node) (stops node) (λ i. h.0 node i + h.1.0 node i) (h.1.1.1.1 node) in
      let add = sum_below-add (disks_many layout node) (h.0 node) (h.1.0 node) in
      omega (arith, first, others, sum, add)
    where
      sum_same : (n : ℕ) (f g : ℕ → ℕ) → ((i : ℕ) → f i ≡ g i) → sum_below n f ≡ sum_below n g
      sum_same zero f g same = refl
      sum_same (suc n) f g same = let before = sum_same n f g same in let here = same n in omega (arith, before, here)

  -- a node of which no reply tells a stop had none
  pub untold_none : (lines : List Line) (replies : List Reply) (stops : Node → ℕ → ℕ) → AreTold layout lines replies stops → (node : Node) → (TellsStop node replies → ⊥) → (i : ℕ) → stops node i ≡ 0
  untold_none [] [] stops h node never i = h node i
  untold_none [] (r ∷ replies) stops h node never i = absurd h
  untold_none (k ∷ lines) [] stops h node never i = absurd h
  untold_none (k ∷ lines) (r ∷ replies) stops h node never i =
      let first = line_none h.1.1.0 in
      let others = untold_none lines replies h.1.0 h.1.1.1.0 node (λ t. never (inr t)) i in
      let sum = h.1.1.1.1 node i in
      omega (arith, first, others, sum)
    where
      line_none : LineTold layout k r h.0 → h.0 node i ≡ 0
      line_none (NoneStopped none untold) = none node i
      line_none (SomeStopped named told disk used some alone) = by_same (same_node named node) refl
        where
          by_same : (b : Bool) → same_node named node ≡ b → h.0 node i ≡ 0
          by_same true e = absurd (never (inl (told ∙ ap (λ n. Stopped n) (node_same named node e))))
          by_same false e = alone node i e
