-- The restart of the primary's node.
use Rattle.std.proofs.Common.{◌≡◌, ◌≢◌, inr, ℕ, zero, suc, ◌+◌, ◌<◌, ◌≤◌, true, false, List, [], ◌∷◌, length, Option, Some, None, is_some, Result, refl, sym, ap, ◌∙◌, subst, arith}
use Rattle.std.specs.Prelude.{MatchOption, IsTrue}
use Rattle.rdf_types.specs.declared.layout.Layout.{Layout}
use Rattle.rdf_types.specs.declared.records.Node.TheVariants.{A}
use Rattle.rdf_disk.specs.Files.{Disk}
use Rattle.rdf_disk.specs.Counts.{Counts}
use Rattle.rdf_disk.specs.Counts.Ending.{Fine}
use Rattle.rdf_disk.specs.declared.disk.Disk.{Ghosts}
use Rattle.plan_lang.specs.declared.lines.Line.TheVariants as line
use Rattle.node_faults.specs.declared.NodeFault.{NodeFault}
use Rattle.node_faults.specs.declared.NodeFault.TheVariants as fault
use Rattle.node_faults.specs.Faults.{ending_at, IsNamed}
use Rattle.node_faults.specs.FaultLaws.{named_more}
use Rattle.rdf_core.specs.GrowthLaws.{parts_stops}
use Rattle.rdf_core.specs.declared.events.Standing.{Standing}
use Rattle.rdf_core.specs.declared.events.Standing.TheVariants.{Up, Down}
use Rattle.rdf_core.specs.declared.replies.NoWhy.{NoWhy}
use Rattle.rdf_core.specs.declared.replies.NoWhy.TheVariants as no
use Rattle.rdf_core.specs.declared.replies.Reply.{Reply}
use Rattle.rdf_core.specs.declared.replies.Reply.TheVariants.{No, Number, Stopped}
use Rattle.rdf_core.specs.Effects.{after_parts, when, first, count_u64, reaches_disks, Cut}
use Rattle.rdf_core.specs.Primary.{Primary as State, primary_refusal, primary_after, primary_fallen, is_lost, is_up}
use Rattle.rdf_primary.specs.declared.primary.Primary.{Primary}
use Rattle.rdf_primary.specs.Replies.{primary_parts_of, NoneEarly}
use Rattle.node_faults.specs.Openings.{Pairs, IsRaised}
use Rattle.rdf_primary.specs.Restarting.{StoodFor, StoodForSome, IsRestarted, BreaksUp}
use Rattle.node_disks.specs.PairLaws.{pairs_each, raised_cut, raised_fuses}
use Rattle.primary_node.specs.declared.node.PrimaryNode.{PrimaryNode}
use Rattle.primary_node.specs.Cuts.{Each, IsCut, AreCut}
use Rattle.primary_node.specs.Nodes.{IsAt, IsUpAt, IsOffAt, MayRest, MayServe, standing_off, disks_at, disks_among}
use Rattle.primary_node.specs.Lines.{Follows, Breaks, Ends, Tells, stop_told}
use Rattle.primary_node.proofs.CutLaws.{each_then, each_so, same_length, some_left}
use Rattle.primary_node.proofs.CauseLaws.{cut_off}
use Rattle.primary_node.proofs.NodeLaws.{at_up, at_off, off_at, refused_follows, done_follows}
use Rattle.primary_node.proofs.OffLaws.{lost_at}

abbrev refusal_at : Standing → Option NoWhy
refusal_at s = first (when (is_lost s) no.Lost ∷ when (is_up s) no.Up ∷ [])

module _ {D : Type 0} {d : Ghosts D} (files : D → Disk) (layout : Layout) (a : State) (rise : ℕ) (n : PrimaryNode D d) (at : IsAt files layout a n) where
  pub restart_lost : (tells : Type 0) (counts : D → Counts) → n.lost ≡ true → MayServe tells files counts n → Follows files layout a (line.Restart A) rise (No no.Lost) n
  restart_lost tells counts lost serves = refused_follows files layout a (line.Restart A) rise no.Lost n (ap refusal_at (lost_at n tells files counts layout a lost serves at)) at

  pub restart_up : is_some n.primary ≡ true → Follows files layout a (line.Restart A) rise (No no.Up) n
  restart_up up = refused_follows files layout a (line.Restart A) rise no.Up n (ap refusal_at (go n.primary up at)) at
    where
      go : (o : Option (Primary D d)) → is_some o ≡ true → MatchOption o (IsOffAt files layout a (standing_off n.lost) n.disks.items) (λ p. IsUpAt layout a p) → a.standing ≡ Up
      go None e h = cc
      go (Some p) e h = ap (λ (s : State). s.standing) h.state

  -- what a node that is down stood for
  pub stood_for : n.primary ≡ None → n.lost ≡ false → StoodFor files layout a n.disks.items
  stood_for none not_lost =
      let h = off_at files layout a n none at in
      record { down = h.stood ∙ ap standing_off not_lost; stands = h.stands }

-- the line is done
pub reopens : {D : Type 0} {d : Ghosts D} (files : D → Disk) (layout : Layout) (a : State) (rise : ℕ) (new : PrimaryNode D d) (p : Primary D d) (many : ℕ) → new.primary ≡ Some p → a.standing ≡ Down → IsRestarted files layout a many p →
    Follows files layout a (line.Restart A) rise (Number many) new
reopens files layout a rise new p many e down r = done_follows files layout a (line.Restart A) rise (Number many) new (ap refusal_at down) (ap (λ m. let reply : Reply = Number m in reply) r.says)
    (at_up files layout (primary_after a (line.Restart A)) new p e (record { laid = r.laid; state = sym r.state })) refl

-- a fault cut it off, and the disks are cut
module _ {D : Type 0} {d : Ghosts D} (tells : Type 0) (files : D → Disk) (counts : D → Counts) (they : tells) (layout : Layout) (a : State) (rise : ℕ) (shut : List D) (new : PrimaryNode D d) (cut : AreCut tells files counts shut new.disks.items)
    (broken : BreaksUp files layout a shut) (down : a.standing ≡ Down) (none : new.primary ≡ None) (not_lost : new.lost ≡ false) where
  abbrev most : ℕ
  most = length (primary_parts_of layout a (line.Restart A))

  abbrev fallen_at : ℕ → ℕ → State
  fallen_at many k = primary_fallen many (after_parts a (primary_parts_of layout a (line.Restart A)) k)

  fell : (many : ℕ) → (k : ℕ) × ((k ≤ most) × IsAt files layout (fallen_at many k) new)
  fell many =
      let s = some_left tells files counts they shut new.disks.items cut layout most (λ k. fallen_at many k) (broken many) in
      (s.0, (s.1.0, at_off files layout (fallen_at many s.0) new none (record { stood = sym (ap standing_off not_lost); none_active = refl; stands = s.1.1 })))

  breaks : Breaks files layout a (line.Restart A) new
  breaks =
      let f = fell 0 in
      record { unrefused = subst (λ o. NoneEarly o) (sym (ap refusal_at down)) tt; done = f.0; few = f.1.0; at = f.1.1; before = λ e. absurd (none_some e) }
    where
      none_some : Some A ≡ None → ⊥
      none_some e = cc

  stops : 0 < rise → Follows files layout a (line.Restart A) rise (Stopped A) new
  stops some =
      let f = fell rise in
      record {
        next = fallen_at rise f.0;
        step = Cut A refl f.0 (record { may = subst (λ o. IsTrue (reaches_disks o)) (sym (ap refusal_at down)) refl; few = f.1.0; says = refl; rise = rise; some = some; leaves = refl });
        at = f.1.1;
        stops = inr (refl, ap (λ m. count_u64 (m + rise)) (parts_stops a (primary_refusal layout a (line.Restart A)) _ f.0));
      }

  by_why : 0 < rise → (why : NodeFault) → Ends files layout a (line.Restart A) rise (stop_told why) new
  by_why some (fault.Stopped disk) = stops some
  by_why some (fault.Failed disk) = breaks
  by_why some fault.NoMemory = breaks
  by_why some (fault.Damaged disk file at) = breaks

  pub shut_ends : 0 < rise → (why : NodeFault) (r : Result Reply NodeFault) → r ≡ stop_told why → Ends files layout a (line.Restart A) rise r new
  shut_ends some why r is = subst (λ x. Ends files layout a (line.Restart A) rise x new) (sym is) (by_why some why)

-- its disks go on to stand for a primary that is down
shut_rests : {D : Type 0} (tells : Type 0) (files : D → Disk) (counts : D → Counts) (they : tells) (old shut new : List D) → StoodForSome files old → ((layout : Layout) (a : State) → StoodFor files layout a old → BreaksUp files layout a shut) →
    AreCut tells files counts shut new → StoodForSome files new
shut_rests tells files counts they old shut new (layout, (a, stood)) broken cut =
    let parts = primary_parts_of layout a (line.Restart A) in
    let s = some_left tells files counts they shut new cut layout (length parts) (λ k. primary_fallen 0 (after_parts a parts k)) (broken layout a stood 0) in
    (layout, (primary_fallen 0 (after_parts a parts s.0), record { down = refl; stands = s.1.1 }))

module _ {D : Type 0} (counts : D → Counts) where
  -- the counts of disks that are on again
  pub none_raised : (xs ys : List D) → Pairs (IsRaised counts) zero None xs ys → Each (λ i x y. Tells Fine (counts x) (counts y)) xs ys
  none_raised xs ys h = each_so (λ i x y. IsRaised counts i None x y) (λ i x y. Tells Fine (counts x) (counts y)) xs ys (λ i x y k. (k.0, k.1)) (pairs_each (IsRaised counts) None xs ys h)

  pub none_given : (xs ys : List D) → Pairs (IsRaised counts) zero None xs ys → Each (λ i x y. (counts y).fuses ≡ (counts x).fuses) xs ys
  none_given xs ys h = each_so (λ i x y. IsRaised counts i None x y) (λ i x y. (counts y).fuses ≡ (counts x).fuses) xs ys (λ i x y k. k.2) (pairs_each (IsRaised counts) None xs ys h)

  -- the counts of disks that are cut again
  module _ (tells : Type 0) (files : D → Disk) (why : NodeFault) (xs ys zs : List D) (raised : Pairs (IsRaised counts) zero (Some why) xs ys) (cut : AreCut tells files counts ys zs) where
    pub raised_fails : Each (λ i x z. Tells (ending_at i why) (counts x) (counts z)) xs zs
    raised_fails = each_then (λ i x y. IsRaised counts i (Some why) x y) (λ i y z. IsCut tells files counts y z) (λ i x z. Tells (ending_at i why) (counts x) (counts z)) xs ys zs
        (λ i x y z h k. raised_cut (ending_at i why) (counts x) (counts y) (counts z) h k.counts_are) (pairs_each (IsRaised counts) (Some why) xs ys raised) cut

    pub raised_fused : Each (λ i x z. (counts z).fuses ≡ (counts x).fuses) xs zs
    raised_fused = each_then (λ i x y. IsRaised counts i (Some why) x y) (λ i y z. IsCut tells files counts y z) (λ i x z. (counts z).fuses ≡ (counts x).fuses) xs ys zs
        (λ i x y z h k. ap (λ c. c.fuses) k.counts_are ∙ raised_fuses (ending_at i why) (counts x) (counts y) h) (pairs_each (IsRaised counts) (Some why) xs ys raised) cut

-- the disks of a node that is down, once they are cut again
pub shut_rest : {D : Type 0} (tells : Type 0) (files : D → Disk) (counts : D → Counts) (volumes : ℕ) (old shut new : List D) (why : NodeFault) → MayRest tells files counts volumes old → Pairs (IsRaised counts) zero (Some why) old shut →
    AreCut tells files counts shut new → (tells → (layout : Layout) (a : State) → StoodFor files layout a old → BreaksUp files layout a shut) → MayRest tells files counts volumes new
shut_rest tells files counts volumes old shut new why rests raised cut broken = record {
  many = same_length (λ i x y. IsCut tells files counts x y) shut new cut ∙ same_length (λ i x y. IsRaised counts i (Some why) x y) old shut (pairs_each (IsRaised counts) (Some why) old shut raised) ∙ rests.many;
  off = cut_off counts tells files shut new cut;
  stood = λ they. shut_rests tells files counts they old shut new (rests.stood they) (broken they) cut;
  laid = rests.laid;
}

pub number_no : (n : ℕ) → Number n ≢ Stopped A
number_no n e = cc

-- a fault names one of the disks of a node that is not up
pub named_off : {D : Type 0} {d : Ghosts D} (n : PrimaryNode D d) (why : NodeFault) (volumes : ℕ) → n.primary ≡ None → length n.disks.items ≡ suc n.volumes → volumes ≡ n.volumes → IsNamed (suc volumes) why → IsNamed (length (disks_at n)) why
named_off {D = D} {d = d} n why volumes none many laid named = subst (λ (o : Option (Primary D d)). IsNamed (length (disks_among o n.disks.items)) why) (sym none) (named_more (suc volumes) (length n.disks.items) why (omega (arith, many, laid)) named)
