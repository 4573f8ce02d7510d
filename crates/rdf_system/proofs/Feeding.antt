-- What the lines of a session add to the primary's trail, with which its updaters are fed.
use Rattle.std.proofs.Common.{◌≡◌, ◌≢◌, ℕ, Bool, true, false, if◌then◌else◌, List, map, Option, Some, None, refl, sym, ◌∙◌, subst}
use Rattle.rdf_types.specs.declared.layout.Layout.{Layout}
use Rattle.rdf_types.specs.declared.records.Node.{Node}
use Rattle.rdf_types.specs.declared.records.RecKey.{RecKey}
use Rattle.rdf_types.specs.declared.records.Record.{Record}
use Rattle.plan_lang.specs.declared.lines.Line.{Line}
use Rattle.plan_lang.specs.declared.lines.Line.TheVariants as line
use Rattle.plan_lang.specs.Sessions.{goes_in}
use Rattle.rdf_core.specs.declared.replies.NoWhy.{NoWhy}
use Rattle.rdf_core.specs.declared.replies.Reply.{Reply}
use Rattle.rdf_core.specs.Backup.{Backup, backup_fallen}
use Rattle.rdf_core.specs.Effects.{after_parts, parts_unless, IsDone, Whole, Cut}
use Rattle.rdf_core.specs.GrowthLaws.{Grows, grows_not}
use Rattle.rdf_core.specs.Lines.{refusal, kept, parts, after, says, after_read}
use Rattle.rdf_core.specs.PartLaws.{Every, every_image, every_map, every_parts, map_unless}
use Rattle.rdf_core.specs.Primary.{Primary, primary_parts, primary_fallen}
use Rattle.rdf_core.specs.Run.{Drifts}
use Rattle.rdf_core.specs.Sessions.{Session, Closed, Refused, Open, has_halted, with_cut}
use Rattle.rdf_core.specs.State.{State, with_primary, with_backup, fallen, with_session}
use Rattle.rdf_core.specs.Step.{Step, StepEnds, disks_of}
use Rattle.rdf_system.specs.OpenLines.{IsOwnLine}
use Rattle.rdf_system.proofs.Drifting.{drifts_primary}
use Rattle.rdf_system.proofs.PlaceLaws.{not_so, none_some}
use Rattle.rdf_system.proofs.Telling.{after_grows, unless_grow}
use Rattle.by_node.specs.Each.{at}
use Rattle.rdf_core.specs.NodeLaws.{by_node-keeps}

-- the trail stays where a node falls, and where a session reads

fallen_trail : (node : Node) (n : ℕ) (s : State) → (fallen node n s).primary.trail ≡ s.primary.trail
fallen_trail node n s = by_node-keeps (λ (x : State). x.primary.trail ≡ s.primary.trail) node (with_primary s (primary_fallen n s.primary)) (with_session (with_backup s node (backup_fallen n (at s.backups node))) (with_cut s.session node)) refl refl

read_trail : (layout : Layout) (s : State) (key : RecKey) (session : Session) → (after_read layout s key session).primary.trail ≡ s.primary.trail
read_trail layout s key Closed = refl
read_trail layout s key (Refused of why) = refl
read_trail layout s key (Open o) = go (has_halted o key.vol) _ _ refl refl
  where
    go : (b : Bool) (x y : State) → x.primary.trail ≡ s.primary.trail → y.primary.trail ≡ s.primary.trail → (if b then x else y).primary.trail ≡ s.primary.trail
    go true x y e f = e
    go false x y e f = f

-- what is done of a line only adds to the trail

abbrev Longer : State → State → Type 0
Longer s x = Grows s.primary.trail x.primary.trail

after_longer : (layout : Layout) (points : List ℕ) (s : State) (of : Node) (l : Line) → goes_in of l ≡ true → l ≢ line.End → Longer s (after layout points s l)
after_longer layout points s of (line.Read node key) e ne = subst (λ (t : List Record). Grows s.primary.trail t) (sym (read_trail layout s key s.session)) (grows_not s.primary.trail)
after_longer layout points s of line.End e ne = absurd (ne refl)
after_longer layout points s of (line.Cut node) e ne = not_so e
after_longer layout points s of (line.Restart node) e ne = not_so e
after_longer layout points s of l e ne = after_grows s.primary l

kept_longer : (s : State) (of : Node) (l : Line) (why : NoWhy) → goes_in of l ≡ true → l ≢ line.End → Longer s (kept s l why)
kept_longer s of (line.Session node) why e ne = not_so e
kept_longer s of line.End why e ne = absurd (ne refl)
kept_longer s of _ why e ne = grows_not s.primary.trail

of_primary : (s : State) (l : Line) (r : Option NoWhy) → Every (Longer s) (parts_unless r (map (with_primary s) (primary_parts s.primary l)))
of_primary s l r = subst (λ (xs : List State). Every (Longer s) xs) (sym (map_unless (with_primary s) r (primary_parts s.primary l)))
    (every_map (λ (a : Primary). Grows s.primary.trail a.trail) (Longer s) (with_primary s) (parts_unless r (primary_parts s.primary l)) (λ a g. g) (unless_grow r s.primary l))

of_backup : (P : State → Type 0) (s : State) (node : Node) (xs : List Backup) → ((b : Backup) → P (with_backup s node b)) → (r : Option NoWhy) → Every P (parts_unless r (map (with_backup s node) xs))
of_backup P s node xs h None = every_image P (with_backup s node) xs h
of_backup P s node xs h (Some why) = tt

parts_longer : (layout : Layout) (points : List ℕ) (s : State) (of : Node) (l : Line) (r : Option NoWhy) → goes_in of l ≡ true → Every (Longer s) (parts_unless r (parts layout points s l))
parts_longer layout points s of (line.Begin t) r e = of_primary s (line.Begin t) r
parts_longer layout points s of (line.Insert t k value) r e = of_primary s (line.Insert t k value) r
parts_longer layout points s of (line.Update t k value) r e = of_primary s (line.Update t k value) r
parts_longer layout points s of (line.Delete t k) r e = of_primary s (line.Delete t k) r
parts_longer layout points s of (line.Get t k) r e = of_primary s (line.Get t k) r
parts_longer layout points s of (line.Commit t) r e = of_primary s (line.Commit t) r
parts_longer layout points s of (line.Abort t) r e = of_primary s (line.Abort t) r
parts_longer layout points s of (line.Send node most) r e = of_primary s (line.Send node most) r
parts_longer layout points s of (line.Rewind node) r e = of_primary s (line.Rewind node) r
parts_longer layout points s of (line.Ack node) r e = of_primary s (line.Ack node) r
parts_longer layout points s of (line.Deliver node k) r e = of_backup (Longer s) s node _ (λ b. grows_not s.primary.trail) r
parts_longer layout points s of (line.Read node key) r e = of_primary s (line.Read node key) r
parts_longer layout points s of (line.Purge node) r e = of_backup (Longer s) s node _ (λ b. grows_not s.primary.trail) r
parts_longer layout points s of line.End r e = of_primary s line.End r
parts_longer layout points s of _ r e = not_so e

step_longer : (layout : Layout) (s : State) (of : Node) (l : Line) (reply : Reply) (next : State) → goes_in of l ≡ true → l ≢ line.End → StepEnds layout s l reply next → Longer s next
step_longer layout s of l reply next e ne (points, goes, Whole done) = go (refusal layout s l) (says layout points s l) done
  where
    go : (o : Option NoWhy) (say : Reply → Type 0) → IsDone o (kept s l) (after layout points s l) say reply next → Longer s next
    go None say d = subst (λ (x : State). Longer s x) (sym d.1) (after_longer layout points s of l e ne)
    go (Some why) say d = subst (λ (x : State). Longer s x) (sym d.1) (kept_longer s of l why e ne)
step_longer layout s of l reply next e ne (points, goes, Cut node used done off) = subst (λ (x : State). Longer s x) (sym off.leaves)
    (subst (λ (t : List Record). Grows s.primary.trail t) (sym (fallen_trail node off.rise (after_parts s (parts_unless (refusal layout s l) (parts layout points s l)) done)))
    (every_parts (Longer s) s (parts_unless (refusal layout s l) (parts layout points s l)) done (grows_not s.primary.trail) (parts_longer layout points s of l (refusal layout s l) e)))

-- a line of a session only adds to the trail, also behind what may happen before it
pub line_longer : (layout : Layout) (s mid next : State) (of : Node) (l : Line) (reply : Reply) → goes_in of l ≡ true → l ≢ line.End → Drifts layout s mid → Step layout mid l reply next → Grows s.primary.trail next.primary.trail
line_longer layout s mid next of l reply e ne drifts step = subst (λ (a : Primary). Grows a.trail next.primary.trail) (drifts_primary layout s mid drifts) (step_longer layout mid of l reply next e ne step.1)

-- one on the session's node leaves it

abbrev Still : State → State → Type 0
Still s x = x.primary.trail ≡ s.primary.trail

after_still : (layout : Layout) (points : List ℕ) (s : State) (l : Line) → IsOwnLine l → Still s (after layout points s l)
after_still layout points s (line.Deliver node k) own = refl
after_still layout points s (line.Read node key) own = read_trail layout s key s.session
after_still layout points s (line.Purge node) own = refl
after_still layout points s _ own = absurd own

kept_still : (s : State) (l : Line) (why : NoWhy) → IsOwnLine l → Still s (kept s l why)
kept_still s (line.Deliver node k) why own = refl
kept_still s (line.Read node key) why own = refl
kept_still s (line.Purge node) why own = refl
kept_still s _ why own = absurd own

-- a read uses no disk that a stop could cut it off at
parts_still : (layout : Layout) (points : List ℕ) (s : State) (l : Line) (r : Option NoWhy) (node : Node) → IsOwnLine l → disks_of l ≡ Some node → Every (Still s) (parts_unless r (parts layout points s l))
parts_still layout points s (line.Deliver of k) r node own e = of_backup (Still s) s of _ (λ b. refl) r
parts_still layout points s (line.Read of key) r node own e = none_some e
parts_still layout points s (line.Purge of) r node own e = of_backup (Still s) s of _ (λ b. refl) r
parts_still layout points s _ r node own e = absurd own

step_still : (layout : Layout) (s : State) (l : Line) (reply : Reply) (next : State) → IsOwnLine l → StepEnds layout s l reply next → Still s next
step_still layout s l reply next own (points, goes, Whole done) = go (refusal layout s l) (says layout points s l) done
  where
    go : (o : Option NoWhy) (say : Reply → Type 0) → IsDone o (kept s l) (after layout points s l) say reply next → Still s next
    go None say d = subst (λ (x : State). Still s x) (sym d.1) (after_still layout points s l own)
    go (Some why) say d = subst (λ (x : State). Still s x) (sym d.1) (kept_still s l why own)
step_still layout s l reply next own (points, goes, Cut node used done off) = subst (λ (x : State). Still s x) (sym off.leaves)
    (fallen_trail node off.rise (after_parts s (parts_unless (refusal layout s l) (parts layout points s l)) done)
    ∙ every_parts (Still s) s (parts_unless (refusal layout s l) (parts layout points s l)) done refl (parts_still layout points s l (refusal layout s l) node own used))

pub line_still : (layout : Layout) (s mid next : State) (l : Line) (reply : Reply) → IsOwnLine l → Drifts layout s mid → Step layout mid l reply next → next.primary.trail ≡ s.primary.trail
line_still layout s mid next l reply own drifts step = subst (λ (a : Primary). next.primary.trail ≡ a.trail) (drifts_primary layout s mid drifts) (step_still layout mid l reply next own step.1)
