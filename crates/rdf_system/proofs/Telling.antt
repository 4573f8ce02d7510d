-- Which node a reply tells to have stopped, what a line adds to the trail, and which stops are counted.
use Rattle.std.proofs.Common.{◌≡◌, ◌≢◌, ◌⊎◌, inl, inr, ℕ, ◌+◌, ◌&&◌, Bool, true, false, ◌||◌, List, length, drop, Option, Some, None, if◌then◌else◌, refl, sym, ap, ◌∙◌, subst}
pub use Rattle.std.proofs.lemmas.Bool.{cases_Bool as either}
use Rattle.rdf_types.specs.declared.layout.Layout.{Layout}
use Rattle.rdf_types.specs.declared.records.Node.{Node}
pub use Rattle.rdf_core.specs.SessionLaws.{node_same as same_is}
use Rattle.rdf_types.specs.declared.records.Record.{Record}
use Rattle.plan_lang.specs.declared.lines.Line.{Line}
use Rattle.plan_lang.specs.declared.lines.Line.TheVariants as line
use Rattle.rdf_core.specs.declared.replies.NoWhy.{NoWhy}
use Rattle.rdf_core.specs.declared.replies.Reply.{Reply}
use Rattle.rdf_core.specs.declared.replies.Reply.TheVariants.{Stopped}
use Rattle.rdf_core.specs.Effects.{after_parts, parts_unless, count_u64, IsDone, Whole, Cut}
use Rattle.rdf_core.specs.Primary.{Primary, primary_refusal, primary_parts, primary_after, primary_says, trail_after}
use Rattle.plan_lang.specs.LineText.{same_node}
use Rattle.rdf_core.specs.State.{State}
use Rattle.rdf_core.specs.Step.{PrimaryStep, disks_of}
use Rattle.rdf_core.specs.PartLaws.{Every, every_parts}
use Rattle.rdf_core.specs.GrowthLaws.{Grows, grows_not, trail_grows, parts_grow, after_trail}
use Rattle.rdf_core.specs.SessionLaws.{same_self}
use Rattle.rdf_system.specs.declared.session.SessionState.{SessionState}
use Rattle.rdf_system.specs.Sessions.{used_by}
use Rattle.rdf_system.specs.NodeLines.{is_on_primary, is_of_sender}
use Rattle.rdf_system.specs.Lines.{counts_stop, stops_in, CountsStops}
use Rattle.rdf_system.specs.Noting.{is_stop_of}

-- a line on the primary, or on the sender's side of a backup
abbrev pub is_near : Line → Bool
is_near l = is_on_primary l || is_of_sender l

pub near_primary : (l : Line) → is_on_primary l ≡ true → is_near l ≡ true
near_primary l e = ap (λ b. b || is_of_sender l) e

pub near_sender : (l : Line) → is_of_sender l ≡ true → is_near l ≡ true
near_sender l e = right (is_on_primary l) (is_of_sender l) e
  where
    right : (b c : Bool) → c ≡ true → (b || c) ≡ true
    right true c f = refl
    right false c f = f

-- what is open does not matter to the disks that such a line uses
pub used_near : (session : SessionState) (l : Line) → is_near l ≡ true → used_by session l ≡ disks_of l
used_near session (line.Read node key) e = cc
used_near session line.End e = cc
used_near session _ e = refl

pub no_end : (l : Line) → is_near l ≡ true → l ≡ line.End → ⊥
no_end l e f = never (sym (ap is_near f) ∙ e)
  where
    never : false ≡ true → ⊥
    never g = cc

-- where the reply is that no node stopped, no stop is noted
pub no_stop_is : (node : Node) (reply : Reply) → ((of : Node) → reply ≡ Stopped of → ⊥) → is_stop_of node reply ≡ false
no_stop_is node (Stopped of) h = absurd (h of refl)
no_stop_is node _ h = refl

-- a line that uses a disk of this node, or none, uses none of another node
pub only_used : (named : Node) (o : Option Node) → (o ≡ Some named) ⊎ (o ≡ None) → (node : Node) → o ≡ Some node → node ≡ named
only_used named o (inl e) node f = cc
only_used named o (inr e) node f = cc

-- what a line adds to the trail

pub after_grows : (a : Primary) (l : Line) → Grows a.trail (primary_after a l).trail
after_grows a l = subst (λ (t : List Record). Grows a.trail t) (sym (after_trail a l)) (trail_grows a.trail l)

pub unless_grow : (r : Option NoWhy) (a : Primary) (l : Line) → Every (λ (x : Primary). Grows a.trail x.trail) (parts_unless r (primary_parts a l))
unless_grow None a l = parts_grow a.trail a (drop (length a.trail) (trail_after a.trail l)) (grows_not a.trail)
unless_grow (Some why) a l = tt

pub some_grow : (r : Option NoWhy) (a : Primary) (l : Line) (done : ℕ) → Grows a.trail (after_parts a (parts_unless r (primary_parts a l)) done).trail
some_grow r a l done = every_parts (λ (x : Primary). Grows a.trail x.trail) a (parts_unless r (primary_parts a l)) done (grows_not a.trail) (unless_grow r a l)

pub step_grows : (layout : Layout) (a : Primary) (l : Line) (reply : Reply) (b : Primary) → PrimaryStep layout a l reply b → Grows a.trail b.trail
step_grows layout a l reply b (Whole done) = go (primary_refusal layout a l) (primary_says a l) done
  where
    go : (o : Option NoWhy) (say : Reply → Type 0) → IsDone o (λ why. a) (primary_after a l) say reply b → Grows a.trail b.trail
    go None say d = subst (λ (x : Primary). Grows a.trail x.trail) (sym d.1) (after_grows a l)
    go (Some why) say d = subst (λ (x : Primary). Grows a.trail x.trail) (sym d.1) (grows_not a.trail)
step_grows layout a l reply b (Cut node of done off) = subst (λ (x : Primary). Grows a.trail x.trail) (sym off.leaves) (some_grow (primary_refusal layout a l) a l done)

-- stops of the one node that a line is on

pub stop_is : (node : Node) (reply : Reply) → is_stop_of node reply ≡ true → reply ≡ Stopped node
stop_is node (Stopped of) e = ap (λ (n : Node). Stopped n) (sym (same_is node of e))
stop_is node _ e = cc

pub stop_of : (node : Node) (reply : Reply) → reply ≡ Stopped node → is_stop_of node reply ≡ true
stop_of node reply e = ap (λ (r : Reply). is_stop_of node r) e ∙ same_self node

pub true_false : (b : Bool) → b ≡ true → b ≡ false → ⊥
true_false b t f = cc

module _ (named : Node) (reply : Reply) (rise : ℕ) (s next : State) (used : Option Node)
    (only : (node : Node) → used ≡ Some node → node ≡ named) (told_own : reply ≡ Stopped named → used ≡ Some named)
    (others : (node : Node) → same_node named node ≡ false → stops_in next node ≡ stops_in s node)
    (own : ((reply ≢ Stopped named) × (stops_in next named ≡ stops_in s named)) ⊎ ((reply ≡ Stopped named) × (stops_in next named ≡ count_u64 (stops_in s named + rise)))) where
  own_stop : reply ≡ Stopped named → stops_in next named ≡ count_u64 (stops_in s named + rise)
  own_stop e = go own
    where
      go : ((reply ≢ Stopped named) × (stops_in next named ≡ stops_in s named)) ⊎ ((reply ≡ Stopped named) × (stops_in next named ≡ count_u64 (stops_in s named + rise))) → stops_in next named ≡ count_u64 (stops_in s named + rise)
      go (inl h) = absurd (h.0 e)
      go (inr h) = h.1

  own_none : (reply ≡ Stopped named → ⊥) → stops_in next named ≡ stops_in s named
  own_none no_stop = go own
    where
      go : ((reply ≢ Stopped named) × (stops_in next named ≡ stops_in s named)) ⊎ ((reply ≡ Stopped named) × (stops_in next named ≡ count_u64 (stops_in s named + rise))) → stops_in next named ≡ stops_in s named
      go (inl h) = h.1
      go (inr h) = absurd (no_stop h.0)

  -- the node itself
  at_own : (u : Option Node) → u ≡ used → stops_in next named ≡ (if counts_stop u named reply then count_u64 (stops_in s named + rise) else stops_in s named)
  at_own None e = own_none (λ f. never (e ∙ told_own f))
    where
      never : None ≡ Some named → ⊥
      never f = cc
  at_own (Some u) e = subst (λ (n : Node). stops_in next named ≡ (if same_node n named && is_stop_of named reply then count_u64 (stops_in s named + rise) else stops_in s named)) (sym (only u (sym e)))
      (subst (λ (b : Bool). stops_in next named ≡ (if b && is_stop_of named reply then count_u64 (stops_in s named + rise) else stops_in s named)) (sym (same_self named)) (go (either (is_stop_of named reply))))
    where
      go : ((is_stop_of named reply ≡ true) ⊎ (is_stop_of named reply ≡ false)) → stops_in next named ≡ (if is_stop_of named reply then count_u64 (stops_in s named + rise) else stops_in s named)
      go (inl t) = own_stop (stop_is named reply t) ∙ sym (ap (λ (x : Bool). if x then count_u64 (stops_in s named + rise) else stops_in s named) t)
      go (inr f) = own_none (λ e. true_false (is_stop_of named reply) (stop_of named reply e) f) ∙ sym (ap (λ (x : Bool). if x then count_u64 (stops_in s named + rise) else stops_in s named) f)

  -- another one
  at_other : (node : Node) → same_node named node ≡ false → (u : Option Node) → u ≡ used → stops_in next node ≡ (if counts_stop u node reply then count_u64 (stops_in s node + rise) else stops_in s node)
  at_other node far None e = others node far
  at_other node far (Some u) e = subst (λ (n : Node). stops_in next node ≡ (if same_node n node && is_stop_of node reply then count_u64 (stops_in s node + rise) else stops_in s node)) (sym (only u (sym e)))
      (subst (λ (b : Bool). stops_in next node ≡ (if b && is_stop_of node reply then count_u64 (stops_in s node + rise) else stops_in s node)) (sym far) (others node far))

  pub count_stops : CountsStops used reply rise s next
  count_stops node = go (either (same_node named node))
    where
      go : ((same_node named node ≡ true) ⊎ (same_node named node ≡ false)) → stops_in next node ≡ (if counts_stop used node reply then count_u64 (stops_in s node + rise) else stops_in s node)
      go (inl near) = subst (λ (n : Node). stops_in next n ≡ (if counts_stop used n reply then count_u64 (stops_in s n + rise) else stops_in s n)) (same_is named node near) (at_own used refl)
      go (inr far) = at_other node far used refl
