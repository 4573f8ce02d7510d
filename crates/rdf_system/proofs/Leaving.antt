-- What a line that was broken off may leave, before its step or behind it.
use Rattle.std.proofs.Common.{◌≡◌, ◌≢◌, ◌⊎◌, inl, inr, ℕ, ◌+◌, if◌then◌else◌, Bool, true, false, List, [], ◌∷◌, ◌++◌, length, drop, map, Option, Some, None, IsTrue, refl, sym, ap, ap₂, ◌∙◌, subst, arith}
use Rattle.std.proofs.lemmas.List.{append_assoc, append-nil, length-map}
use Rattle.std.specs.FinSet as set
use Rattle.rdf_types.specs.declared.layout.Layout.{Layout}
use Rattle.rdf_types.specs.declared.records.Node.{Node}
use Rattle.rdf_types.specs.declared.records.Node.TheVariants.{A}
use Rattle.rdf_types.specs.declared.records.Record.{Record}
use Rattle.plan_lang.specs.declared.lines.Line.{Line}
use Rattle.plan_lang.specs.declared.lines.Line.TheVariants as line
use Rattle.plan_lang.specs.LineText.{same_node}
use Rattle.rdf_core.specs.declared.events.Standing.TheVariants.{Down}
use Rattle.rdf_core.specs.declared.replies.NoWhy.{NoWhy}
use Rattle.rdf_core.specs.declared.replies.Reply.{Reply}
use Rattle.rdf_core.specs.declared.replies.Reply.TheVariants.{Done}
use Rattle.rdf_core.specs.Effects.{after_parts, after_all, parts_unless, reaches_disks, count_u64, IsDone, IsCutOff, Whole, Cut}
use Rattle.rdf_core.specs.Primary.{Primary, primary_refusal, primary_parts, primary_after, primary_says, primary_fallen, trail_after, grown, with_record}
use Rattle.rdf_core.specs.Backup.{Backup, backup_fallen}
use Rattle.by_node.specs.Each.{Each, at}
use Rattle.rdf_core.specs.NodeLaws.{by_node-keeps, put_one}
use Rattle.rdf_core.specs.Sessions.{is_backup_node, with_cut}
use Rattle.rdf_core.specs.State.{State, with_primary, with_backup, with_session, fallen}
use Rattle.rdf_core.specs.Lines.{refusal, parts, after, says, restarted}
use Rattle.rdf_core.specs.Happens.{points_for, parts_of}
use Rattle.rdf_core.specs.Step.{StepEnds, disks_of, is_for_primary}
use Rattle.rdf_core.specs.PartLaws.{all_done, map_parts, refused_or_done, counted_more}
use Rattle.rdf_core.specs.RowLaws.{primary_lifted, primary_refused, primary_sinks, primary_uses}
use Rattle.rdf_core.specs.GrowthLaws.{Grows, after_trail, parts_stops, trail_grows, after_stops}
use Rattle.rdf_system.specs.Lines.{stops_in, is_beside_at, CountsMore, MayCount, MayLeave, Before, Within}
use Rattle.rdf_system.specs.NodeLines.{is_of_sender}
use Rattle.rdf_system.proofs.NearLines.{for_or_restart, near_sides, used_or_not}
use Rattle.rdf_system.proofs.Telling.{is_near}
use Rattle.rdf_system.proofs.PlaceLaws.{not_so, none_some}
use Rattle.rdf_core.specs.SessionLaws.{same_self}

-- each node is at the same, or fell once more without a stop that is counted
pub record AreLeft (next left : State) : Type 0 where
  pub primary : (left.primary ≡ next.primary) ⊎ (left.primary ≡ primary_fallen 0 next.primary)
  pub backups : (node : Node) → (at left.backups node ≡ at next.backups node) ⊎ (at left.backups node ≡ backup_fallen 0 (at next.backups node))

-- what may be left where the disks stand for what the step left
pub record Left (layout : Layout) (s : State) (l : Line) (next : State) : Type 0 where
  pub left : State
  pub leaves : MayLeave layout s l left
  pub are : AreLeft next left

-- counts

pub none_more : (n m : ℕ) → m ≡ 0 → count_u64 (n + m) ≡ count_u64 n
none_more n m e = ap (λ k. count_u64 k) same
  where
    same : n + m ≡ n
    same = omega (arith, e)

pub fell_more : (stops n m : ℕ) → stops ≡ count_u64 n → count_u64 (stops + m) ≡ count_u64 (n + m)
fell_more stops n m e = ap (λ k. count_u64 (k + m)) e ∙ counted_more n m

pub fell_counted : (stops n : ℕ) → stops ≡ count_u64 n → count_u64 (stops + 0) ≡ count_u64 n
fell_counted stops n e = fell_more stops n 0 e ∙ none_more n 0 refl

-- no stop is counted besides
abbrev pub KeepsStops : State → State → Type 0
KeepsStops s left = (node : Node) (n : ℕ) → stops_in s node ≡ count_u64 n → stops_in left node ≡ count_u64 n

pub keeps_more : (more : Node → ℕ) (s left : State) → ((node : Node) → more node ≡ 0) → KeepsStops s left → CountsMore more s left
keeps_more more s left none keeps node n e = keeps node n e ∙ sym (none_more n (more node) (none node))

pub keeps_all : (s left : State) → KeepsStops s left → CountsMore (λ node. 0) s left
keeps_all s left = keeps_more (λ node. 0) s left (λ node. refl)

-- more stops may be counted of the named node alone, and only in a line that works volumes beside each other
module _ (l : Line) (named : Node) (more : Node → ℕ) (may : MayCount l named more) where
  pub counts_none : is_beside_at named l ≡ false → (node : Node) → more node ≡ 0
  counts_none plain node = elim (may node) [ inl e ↦ e | inr h ↦ not_so (sym plain ∙ h.1) ]

  pub counts_far : (node : Node) → same_node named node ≡ false → more node ≡ 0
  counts_far node far = elim (may node) [ inl e ↦ e | inr h ↦ not_so (sym far ∙ (ap (λ (x : Node). same_node named x) h.0 ∙ same_self named)) ]

-- a fall without a stop keeps the counts
pub are_left_stops : (next left : State) → AreLeft next left → KeepsStops next left
are_left_stops next left h node n = go (is_backup_node node)
  where
    of_a : (left.primary ≡ next.primary) ⊎ (left.primary ≡ primary_fallen 0 next.primary) → next.primary.stops ≡ count_u64 n → left.primary.stops ≡ count_u64 n
    of_a (inl p) e = ap (λ (x : Primary). x.stops) p ∙ e
    of_a (inr p) e = ap (λ (x : Primary). x.stops) p ∙ fell_counted next.primary.stops n e

    of_one : (at left.backups node ≡ at next.backups node) ⊎ (at left.backups node ≡ backup_fallen 0 (at next.backups node)) → (at next.backups node).stops ≡ count_u64 n → (at left.backups node).stops ≡ count_u64 n
    of_one (inl p) e = ap (λ (x : Backup). x.stops) p ∙ e
    of_one (inr p) e = ap (λ (x : Backup). x.stops) p ∙ fell_counted (at next.backups node).stops n e

    go : (b : Bool) → (if b then (at next.backups node).stops else next.primary.stops) ≡ count_u64 n → (if b then (at left.backups node).stops else left.primary.stops) ≡ count_u64 n
    go false e = of_a h.primary e
    go true e = of_one (h.backups node) e

-- what is left is the state itself

pub same_left : (next left : State) → left ≡ next → AreLeft next left
same_left next left e = record { primary = inl (ap (λ (s : State). s.primary) e); backups = λ node. inl (ap (λ (s : State). at s.backups node) e) }

-- or one in which a node fell
fell_left : (node : Node) (next : State) → AreLeft next (fallen node 0 next)
fell_left node next = by_node-keeps (λ (x : State). AreLeft next x) node (with_primary next (primary_fallen 0 next.primary)) (with_session (with_backup next node (backup_fallen 0 (at next.backups node))) (with_cut next.session node))
    (record { primary = inr refl; backups = λ of. inl refl })
    (record {
      primary = inl refl;
      backups = put_one (λ of (x : Backup). (x ≡ at next.backups of) ⊎ (x ≡ backup_fallen 0 (at next.backups of))) next.backups node (backup_fallen 0 (at next.backups node)) (λ of far. inl refl) (inr refl);
    })

-- the records of a line, one after another

fallen_of : List Record → ℕ → Primary
fallen_of trail stops = record { trail = trail; active = set.empty; standing = Down; stops = stops }

-- a fall leaves only the trail and the stops
fallen_same : (n : ℕ) (x y : Primary) → x.trail ≡ y.trail → x.stops ≡ y.stops → primary_fallen n x ≡ primary_fallen n y
unfolding fallen_of
fallen_same n x y t s = ap₂ (λ trail stops. fallen_of trail (count_u64 (stops + n))) t s

grown_trail : (a : Primary) (rs : List Record) → (after_parts a (grown a rs) (length (grown a rs))).trail ≡ a.trail ++ rs
grown_trail a [] = sym (append-nil a.trail)
grown_trail a (r ∷ rest) = grown_trail (with_record a r) rest ∙ append_assoc a.trail (r ∷ []) rest

drop_length : (a more : List Record) → drop (length a) (a ++ more) ≡ more
drop_length [] more = refl
drop_length (r ∷ a) more = drop_length a more

parts_trail : (a : Primary) (l : Line) → (after_parts a (primary_parts a l) (length (primary_parts a l))).trail ≡ trail_after a.trail l
parts_trail a l =
    let g : Grows a.trail (trail_after a.trail l) = trail_grows a.trail l in
    grown_trail a (drop (length a.trail) (trail_after a.trail l))
    ∙ ap (λ (t : List Record). a.trail ++ drop (length a.trail) t) g.1
    ∙ ap (λ (t : List Record). a.trail ++ t) (drop_length a.trail g.0)
    ∙ sym g.1

-- all of a line's records make the primary after it, but for what a fall forgets
parts_reach : (a : Primary) (l : Line) → (primary_after a l).trail ≡ trail_after a.trail l → (primary_after a l).stops ≡ a.stops →
    primary_fallen 0 (primary_after a l) ≡ primary_fallen 0 (after_parts a (primary_parts a l) (length (primary_parts a l)))
parts_reach a l t s = fallen_same 0 (primary_after a l) (after_parts a (primary_parts a l) (length (primary_parts a l))) (t ∙ sym (parts_trail a l)) (s ∙ sym (parts_stops a None (drop (length a.trail) (trail_after a.trail l)) (length (primary_parts a l))))

-- a line that nothing refuses is refused by no state of a node
pub none_reaches : (r : Option NoWhy) → r ≡ None → IsTrue (reaches_disks r)
none_reaches r e = subst (λ (o : Option NoWhy). IsTrue (reaches_disks o)) (sym e) refl

-- a line that was cut off left some first ones of its parts
pub cut_left : (layout : Layout) (s : State) (l : Line) (node : Node) → disks_of l ≡ Some node → (ps : List State) → ps ≡ parts layout (points_for layout s l) s l → (done : ℕ) (reply : Reply) (next : State) →
    IsCutOff node (fallen node) s (refusal layout s l) ps done reply next → Left layout s l next
cut_left layout s l node of ps same done reply next off =
    let here : IsCutOff node (fallen node) s (refusal layout s l) (parts layout (points_for layout s l) s l) done reply next = subst (λ (xs : List State). IsCutOff node (fallen node) s (refusal layout s l) xs done reply next) same off in
    record { left = next; leaves = Within node of here.may done here.few here.rise here.leaves; are = same_left next next refl }

-- a line that was refused left all as it was
pub before_left : (layout : Layout) (s : State) (l : Line) (next : State) → next ≡ s → Left layout s l next
before_left layout s l next e = record { left = next; leaves = Before e; are = same_left next next refl }

-- a line of the senders leaves the nodes as they were
sent_left : (layout : Layout) (s : State) (l : Line) (next : State) → next.primary ≡ s.primary → next.backups ≡ s.backups → Left layout s l next
sent_left layout s l next p q = record { left = s; leaves = Before refl; are = record { primary = inl (sym p); backups = λ node. inl (ap (λ (x : Each Backup). at x node) (sym q)) } }

-- a line that is done left all of its parts
pub all_left : (layout : Layout) (s : State) (l : Line) (node : Node) → disks_of l ≡ Some node → refusal layout s l ≡ None → (next : State) → fallen node 0 next ≡ fallen node 0 (after_parts s (parts layout (points_for layout s l) s l) (length (parts layout (points_for layout s l) s l))) → Left layout s l next
all_left layout s l node of e next is = record {
  left = fallen node 0 next;
  leaves = Within node of (none_reaches (refusal layout s l) e) (length (parts_of layout s l)) (omega arith) 0
      (is ∙ sym (ap (λ (xs : List State). fallen node 0 (after_parts s xs (length xs))) (ap (λ (o : Option NoWhy). parts_unless o (parts layout (points_for layout s l) s l)) e)));
  are = fell_left node next;
}

-- a line on the primary that is done
module _ (layout : Layout) (s : State) (l : Line) (of : disks_of l ≡ Some A) (same : parts layout (points_for layout s l) s l ≡ map (with_primary s) (primary_parts s.primary l)) (t : (primary_after s.primary l).trail ≡ trail_after s.primary.trail l) (n : (primary_after s.primary l).stops ≡ s.primary.stops) where
  all_of_a : fallen A 0 (with_primary s (primary_after s.primary l)) ≡ fallen A 0 (after_parts s (parts layout (points_for layout s l) s l) (length (parts layout (points_for layout s l) s l)))
  all_of_a = ap (with_primary s) (parts_reach s.primary l t n)
      ∙ ap (fallen A 0) (sym (map_parts (with_primary s) s.primary (primary_parts s.primary l) (length (primary_parts s.primary l))))
      ∙ ap (λ k. fallen A 0 (after_parts s (map (with_primary s) (primary_parts s.primary l)) k)) (sym (length-map (primary_parts s.primary l) (with_primary s)))
      ∙ ap (λ (xs : List State). fallen A 0 (after_parts s xs (length xs))) (sym same)

-- a line on a backup that is done
module _ (layout : Layout) (s : State) (l : Line) (node : Node) (of : disks_of l ≡ Some node) (ps : List Backup) (same : parts layout (points_for layout s l) s l ≡ map (with_backup s node) ps) where
  pub all_of_backup : (self : with_backup s node (at s.backups node) ≡ s) → fallen node 0 (with_backup s node (after_all (at s.backups node) ps)) ≡ fallen node 0 (after_parts s (parts layout (points_for layout s l) s l) (length (parts layout (points_for layout s l) s l)))
  all_of_backup self = ap (λ (b : Backup). fallen node 0 (with_backup s node b)) (sym (all_done (at s.backups node) ps))
      ∙ ap (fallen node 0) (sym (map_parts (with_backup s node) (at s.backups node) ps (length ps)))
      ∙ ap (λ k. fallen node 0 (after_parts (with_backup s node (at s.backups node)) (map (with_backup s node) ps) k)) (sym (length-map ps (with_backup s node)))
      ∙ ap (λ (x : State). fallen node 0 (after_parts x (map (with_backup s node) ps) (length (map (with_backup s node) ps)))) self
      ∙ ap (λ (xs : List State). fallen node 0 (after_parts s xs (length xs))) (sym same)

pub no_node : {X : Type 0} (node : Node) → None ≡ Some node → X
no_node node e = none_some e

-- a restart forgets the senders, which a fall does not look at
restart_reach : (layout : Layout) (s : State) → AreLeft (restarted s (line.Restart A)) (with_primary s (primary_fallen 0 (primary_after s.primary (line.Restart A))))
restart_reach layout s = record { primary = inr refl; backups = λ node. inl refl }

restart_left : (layout : Layout) (s : State) (reply : Reply) (next : State) (r : Option NoWhy) → refusal layout s (line.Restart A) ≡ r → (says : Reply → Type 0) → IsDone r (λ why. s) (restarted s (line.Restart A)) says reply next → Left layout s (line.Restart A) next
restart_left layout s reply next (Some why) e says d = before_left layout s (line.Restart A) next d.1
restart_left layout s reply next None e says d = record {
  left = with_primary s (primary_fallen 0 (primary_after s.primary (line.Restart A)));
  leaves = Within A refl (none_reaches (refusal layout s (line.Restart A)) e) (length (parts_of layout s (line.Restart A))) (omega arith) 0
      (all_of_a layout s (line.Restart A) refl refl refl refl ∙ sym (ap (λ (xs : List State). fallen A 0 (after_parts s xs (length xs))) (ap (λ (o : Option NoWhy). parts_unless o (parts layout [] s (line.Restart A))) e)));
  are = subst (λ (x : State). AreLeft x (with_primary s (primary_fallen 0 (primary_after s.primary (line.Restart A))))) (sym d.1) (restart_reach layout s);
}

-- a line that changes the primary alone and uses no disk is told to be done, or leaves the primary as it was
quiet : (a : Primary) (l : Line) → is_for_primary l ≡ true → disks_of l ≡ None → ((reply : Reply) → primary_says a l reply → reply ≡ Done) ⊎ (primary_after a l ≡ a)
quiet a (line.Begin t) e none = inl (λ reply told. told)
quiet a line.Lose e none = inl (λ reply told. told)
quiet a (line.Status node) e none = inr refl
quiet a (line.Fuse node disk calls tear) e none = inl (λ reply told. told)
quiet a (line.Cut node) e none = inl (λ reply told. told)
quiet a _ e none = cc

primary_leaving : (layout : Layout) (s : State) (l : Line) (reply : Reply) (next : State) → is_for_primary l ≡ true → reply ≢ Done → StepEnds layout s l reply next → Left layout s l next
primary_leaving layout s l reply next on ne (points, goes, Whole d) =
    let did = primary_sinks layout points s l on reply next d in
    elim (refused_or_done (primary_refusal layout s.primary l) (λ why. s.primary) (primary_after s.primary l) (primary_says s.primary l) reply did.0 did.2) [
      | inl h ↦ before_left layout s l next (did.1 ∙ ap (with_primary s) h.2)
      | inr h ↦ elim (used_or_not A (disks_of l) (primary_uses l on)) [
        | inl of ↦ all_left layout s l A of (primary_refused layout [] s l on ∙ h.0) next
            (ap (fallen A 0) (did.1 ∙ ap (with_primary s) h.2) ∙ all_of_a layout s l of (primary_lifted layout (points_for layout s l) s l on) (after_trail s.primary l) (after_stops s.primary l))
        | inr none ↦ elim (quiet s.primary l on none) [
          | inl told ↦ absurd (ne (told reply h.1))
          | inr still ↦ before_left layout s l next (did.1 ∙ ap (with_primary s) (h.2 ∙ still))
        ]
      ]
    ]
primary_leaving layout s l reply next on ne (points, goes, Cut node of done off) =
    cut_left layout s l node of (parts layout points s l) (primary_lifted layout points s l on ∙ sym (primary_lifted layout (points_for layout s l) s l on)) done reply next off

restart_leaving : (layout : Layout) (s : State) (reply : Reply) (next : State) → StepEnds layout s (line.Restart A) reply next → Left layout s (line.Restart A) next
restart_leaving layout s reply next (points, goes, Whole d) = restart_left layout s reply next (refusal layout s (line.Restart A)) refl (says layout points s (line.Restart A)) d
restart_leaving layout s reply next (points, goes, Cut node used done off) = cut_left layout s (line.Restart A) node used (parts layout points s (line.Restart A)) refl done reply next off

-- it changes a sender
whole_sent : (layout : Layout) (s : State) (l : Line) (reply : Reply) (next : State) (r : Option NoWhy) (end : State) (says : Reply → Type 0) → end.primary ≡ s.primary → end.backups ≡ s.backups → IsDone r (λ why. s) end says reply next → Left layout s l next
whole_sent layout s l reply next None end says p q d = sent_left layout s l next (ap (λ (x : State). x.primary) d.1 ∙ p) (ap (λ (x : State). x.backups) d.1 ∙ q)
whole_sent layout s l reply next (Some why) end says p q d = before_left layout s l next d.1

sender_leaving : (layout : Layout) (s : State) (l : Line) (reply : Reply) (next : State) → is_of_sender l ≡ true → StepEnds layout s l reply next → Left layout s l next
sender_leaving layout s (line.Send of most) reply next e (points, goes, Whole d) = whole_sent layout s (line.Send of most) reply next (refusal layout s (line.Send of most)) (after layout points s (line.Send of most)) (says layout points s (line.Send of most)) refl refl d
sender_leaving layout s (line.Rewind of) reply next e (points, goes, Whole d) = whole_sent layout s (line.Rewind of) reply next (refusal layout s (line.Rewind of)) (after layout points s (line.Rewind of)) (says layout points s (line.Rewind of)) refl refl d
sender_leaving layout s (line.Ack of) reply next e (points, goes, Whole d) = whole_sent layout s (line.Ack of) reply next (refusal layout s (line.Ack of)) (after layout points s (line.Ack of)) (says layout points s (line.Ack of)) refl refl d
sender_leaving layout s (line.Send of most) reply next e (points, goes, Cut node used done off) = no_node node used
sender_leaving layout s (line.Rewind of) reply next e (points, goes, Cut node used done off) = no_node node used
sender_leaving layout s (line.Ack of) reply next e (points, goes, Cut node used done off) = no_node node used
sender_leaving layout s _ reply next e step = not_so e

-- whatever a line on the primary or the senders has come to without being answered that it is done, its disks stand for what may be left of it where it is broken off
pub leaving : (layout : Layout) (s : State) (l : Line) (reply : Reply) (next : State) → is_near l ≡ true → reply ≢ Done → StepEnds layout s l reply next → Left layout s l next
leaving layout s l reply next e ne step =
    elim (near_sides l e) [
      | inl on ↦ elim (for_or_restart l on) [
        | inl h ↦ primary_leaving layout s l reply next h ne step
        | inr h ↦ subst (λ (k : Line). Left layout s k next) (sym h) (restart_leaving layout s reply next (subst (λ (k : Line). StepEnds layout s k reply next) h step))
      ]
      | inr of ↦ sender_leaving layout s l reply next of step
    ]
