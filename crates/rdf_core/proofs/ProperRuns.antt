-- Every run keeps the primary proper.
use Rattle.std.proofs.Common.{◌≡◌, ℕ, true, false, List, [], map, length, drop, Option, Some, None, if◌then◌else◌, refl, sym, ap, ◌∙◌, subst, inl, inr}
use Rattle.std.proofs.Math.Seq.{drop-length}
use Rattle.rdf_types.specs.declared.layout.Layout.{Layout}
use Rattle.rdf_types.specs.declared.records.Node.{Node}
use Rattle.rdf_types.specs.declared.records.Node.TheVariants.{A, B, C}
use Rattle.rdf_types.specs.declared.records.RecKey.{RecKey}
use Rattle.rdf_types.specs.declared.records.Record.{Record}
use Rattle.rdf_model.specs.Contents.{nothing}
use Rattle.rdf_model.specs.Legal.{Legal}
use Rattle.plan_lang.specs.declared.lines.Line.{Line}
use Rattle.plan_lang.specs.declared.lines.Line.TheVariants as line
use Rattle.by_node.specs.Each.{at}
use Rattle.rdf_core.specs.MoveLaws.{move_primary}
use Rattle.rdf_core.specs.declared.events.Event.{Event}
use Rattle.rdf_core.specs.declared.events.Event.TheVariants as event
use Rattle.rdf_core.specs.declared.replies.NoWhy.{NoWhy}
use Rattle.rdf_core.specs.declared.replies.Reply.{Reply}
use Rattle.rdf_core.specs.Effects.{after_parts, parts_unless, Whole, Cut}
use Rattle.rdf_core.specs.Primary.{Primary, trail_after, primary_after, primary_parts, grown}
use Rattle.rdf_core.specs.Sessions.{Session, Closed, Refused, Open, is_backup_node, has_halted, met_stop, with_seen}
use Rattle.rdf_core.specs.State.{State, with_primary, with_backup, with_session, fallen, blank}
use Rattle.rdf_core.specs.Lines.{refusal, kept, message, parts, after, says, after_read, after_end, points_of, with_points}
use Rattle.rdf_core.specs.Layouts.{points_at, point_of}
use Rattle.rdf_core.specs.Backup.{with_up, deliver_parts, purge_parts, takeover_parts, copy_parts}
use Rattle.rdf_core.specs.Step.{StepEnds, disks_of, after_apply, after_halt}
use Rattle.rdf_core.specs.Run.{after_move, Run}
use Rattle.rdf_core.specs.Proper.{IsProper, LineKeepsProper, legal_of}
use Rattle.rdf_core.specs.PartLaws.{Every, every_parts, every_map, every_image, refused_or_done}
use Rattle.rdf_core.proofs.ProperSteps.{appended_legal}
use Rattle.rdf_core.proofs.RunLaws.{run_keeps}
use Rattle.rdf_core.specs.GrowthLaws.{after_trail}

pub read_primary : (layout : Layout) (s : State) (key : RecKey) (session : Session) → (after_read layout s key session).primary ≡ s.primary
read_primary layout s key Closed = refl
read_primary layout s key (Refused of why) = refl
read_primary layout s key (Open o) = elim (has_halted o key.vol) as (λ b. (if b then with_backup s o.node (with_up (at s.backups o.node) false) else with_session s (Open (with_seen o key.vol (point_of (points_of layout s o) key.vol)))).primary ≡ s.primary) [ true ↦ refl | false ↦ refl ]

pub end_primary : (layout : Layout) (s : State) (session : Session) → (after_end layout s session).primary ≡ s.primary
end_primary layout s Closed = refl
end_primary layout s (Refused of why) = refl
end_primary layout s (Open o) = elim (met_stop o) as (λ b. (if b then with_session (with_backup s o.node (with_up (at s.backups o.node) false)) Closed else with_session (with_backup s o.node (with_points (at s.backups o.node) (points_at layout (at s.backups o.node).received))) Closed).primary ≡ s.primary) [ true ↦ refl | false ↦ refl ]

same_proper : (a b : Primary) → b ≡ a → IsProper a → IsProper b
same_proper a b e p = subst (λ (x : Primary). IsProper x) (sym e) p

after_keeps : LineKeepsProper → (layout : Layout) (points : List ℕ) (s : State) (l : Line) → refusal layout s l ≡ None → IsProper s.primary → IsProper (after layout points s l).primary
after_keeps keeps layout points s (line.Send node most) e p = p
after_keeps keeps layout points s (line.Rewind node) e p = p
after_keeps keeps layout points s (line.Ack node) e p = p
after_keeps keeps layout points s (line.Deliver node k) e p = p
after_keeps keeps layout points s (line.Session node) e p = p
after_keeps keeps layout points s (line.Read node key) e p = same_proper s.primary (after_read layout s key s.session).primary (read_primary layout s key s.session) p
after_keeps keeps layout points s (line.Purge node) e p = p
after_keeps keeps layout points s line.End e p = same_proper s.primary (after_end layout s s.session).primary (end_primary layout s s.session) p
after_keeps keeps layout points s (line.Takeover node) e p = p
after_keeps keeps layout points s (line.CopyAudit node from) e p = p
after_keeps keeps layout points s (line.List node vol) e p = p
after_keeps keeps layout points s (line.Info node) e p = p
after_keeps keeps layout points s (line.Status node) e p = p
after_keeps keeps layout points s (line.Fuse node disk calls tear) e p = p
after_keeps keeps layout points s (line.Cut A) e p = keeps layout s.primary (line.Cut A) e p
after_keeps keeps layout points s (line.Cut node) e p = p
after_keeps keeps layout points s (line.Restart A) e p = keeps layout s.primary (line.Restart A) e p
after_keeps keeps layout points s (line.Restart node) e p = p
after_keeps keeps layout points s l e p = keeps layout s.primary l e p

pub kept_primary : (s : State) (l : Line) (why : NoWhy) → (kept s l why).primary ≡ s.primary
kept_primary s (line.Session node) why = refl
kept_primary s line.End why = refl
kept_primary s _ why = refl

-- the parts of a line that a stop cuts off

abbrev pub HasLegal : State → Type 0
HasLegal x = Legal nothing x.primary.trail

primary_legal : (layout : Layout) (s : State) (l : Line) → Legal nothing (trail_after s.primary.trail l) → Every HasLegal (map (with_primary s) (primary_parts s.primary l))
primary_legal layout s l h = every_map (λ (x : Primary). Legal nothing x.trail) HasLegal (with_primary s) (primary_parts s.primary l) (λ x g. g) (appended_legal s.primary l h)

now_legal : (s : State) → IsProper s.primary → Legal nothing s.primary.trail
now_legal s p = legal_of s.primary.standing s.primary.trail s.primary.active p

then_legal : (layout : Layout) (s : State) (l : Line) → IsProper (primary_after s.primary l) → Legal nothing (trail_after s.primary.trail l)
then_legal layout s l p = subst (λ t. Legal nothing t) (after_trail s.primary l) (legal_of (primary_after s.primary l).standing (primary_after s.primary l).trail (primary_after s.primary l).active p)

parts_legal : LineKeepsProper → (layout : Layout) (points : List ℕ) (s : State) (l : Line) → refusal layout s l ≡ None → IsProper s.primary → Every HasLegal (parts layout points s l)
parts_legal keeps layout points s (line.Deliver node k) e p = every_image HasLegal (with_backup s node) (deliver_parts layout (message s node k) (at s.backups node)) (λ x. now_legal s p)
parts_legal keeps layout points s (line.Purge node) e p = every_image HasLegal (with_backup s node) (purge_parts layout s.primary.trail points (at s.backups node)) (λ x. now_legal s p)
parts_legal keeps layout points s (line.Takeover node) e p = every_image HasLegal (with_backup s node) (takeover_parts (at s.backups node)) (λ x. now_legal s p)
parts_legal keeps layout points s (line.CopyAudit node from) e p = every_image HasLegal (with_backup s node) (copy_parts layout (at s.backups node) (at s.backups from)) (λ x. now_legal s p)
parts_legal keeps layout points s (line.List A vol) e p = primary_legal layout s (line.List A vol) (now_legal s p)
parts_legal keeps layout points s (line.List node vol) e p = tt
parts_legal keeps layout points s (line.Restart A) e p = primary_legal layout s (line.Restart A) (then_legal layout s (line.Restart A) (keeps layout s.primary (line.Restart A) e p))
parts_legal keeps layout points s (line.Restart node) e p = tt
parts_legal keeps layout points s (line.Begin t) e p = primary_legal layout s (line.Begin t) (now_legal s p)
parts_legal keeps layout points s (line.Insert t k value) e p = primary_legal layout s (line.Insert t k value) (then_legal layout s (line.Insert t k value) (keeps layout s.primary (line.Insert t k value) e p))
parts_legal keeps layout points s (line.Update t k value) e p = primary_legal layout s (line.Update t k value) (then_legal layout s (line.Update t k value) (keeps layout s.primary (line.Update t k value) e p))
parts_legal keeps layout points s (line.Delete t k) e p = primary_legal layout s (line.Delete t k) (then_legal layout s (line.Delete t k) (keeps layout s.primary (line.Delete t k) e p))
parts_legal keeps layout points s (line.Commit t) e p = primary_legal layout s (line.Commit t) (then_legal layout s (line.Commit t) (keeps layout s.primary (line.Commit t) e p))
parts_legal keeps layout points s (line.Abort t) e p = primary_legal layout s (line.Abort t) (then_legal layout s (line.Abort t) (keeps layout s.primary (line.Abort t) e p))
parts_legal keeps layout points s (line.Session node) e p = tt
parts_legal keeps layout points s (line.Info node) e p = tt
parts_legal keeps layout points s (line.Status A) e p = primary_legal layout s (line.Status A) (now_legal s p)
parts_legal keeps layout points s (line.Status node) e p = tt
parts_legal keeps layout points s (line.Fuse A disk calls tear) e p = primary_legal layout s (line.Fuse A disk calls tear) (now_legal s p)
parts_legal keeps layout points s (line.Fuse node disk calls tear) e p = tt
parts_legal keeps layout points s (line.Cut A) e p = primary_legal layout s (line.Cut A) (now_legal s p)
parts_legal keeps layout points s (line.Cut node) e p = tt
parts_legal keeps layout points s l e p = primary_legal layout s l (now_legal s p)

-- the trail of every run is legal, whatever is cut off: a weaker property, that every step and stop keeps with the other
unless_legal : LineKeepsProper → (layout : Layout) (points : List ℕ) (s : State) (l : Line) (r : Option NoWhy) → refusal layout s l ≡ r → IsProper s.primary → Every HasLegal (parts_unless r (parts layout points s l))
unless_legal keeps layout points s l None e p = parts_legal keeps layout points s l e p
unless_legal keeps layout points s l (Some why) e p = tt

-- a stop of the primary
pub cut_of_a : LineKeepsProper → (layout : Layout) (points : List ℕ) (s : State) (l : Line) (done rise : ℕ) → IsProper s.primary → IsProper (fallen A rise (after_parts s (parts_unless (refusal layout s l) (parts layout points s l)) done)).primary
cut_of_a keeps layout points s l done rise p = (every_parts HasLegal s (parts_unless (refusal layout s l) (parts layout points s l)) done (now_legal s p) (unless_legal keeps layout points s l (refusal layout s l) refl p), refl)

-- a stop of a backup

not_a : (node : Node) → is_backup_node node ≡ true → (let x : Option Node = Some A in x) ≡ Some node → ⊥
not_a A b h = cc
not_a B b h = cc
not_a C b h = cc

abbrev pub IsStill : State → State → Type 0
IsStill s x = x.primary ≡ s.primary

none_grown : (s : State) (rs : List Record) → rs ≡ [] → Every (IsStill s) (map (with_primary s) (grown s.primary rs))
none_grown s rs e = subst (λ (xs : List Record). Every (IsStill s) (map (with_primary s) (grown s.primary xs))) (sym e) tt

parts_still : (layout : Layout) (points : List ℕ) (s : State) (l : Line) (node : Node) → is_backup_node node ≡ true → disks_of l ≡ Some node → Every (IsStill s) (parts layout points s l)
parts_still layout points s (line.Deliver of k) node b h = every_image (IsStill s) (with_backup s of) (deliver_parts layout (message s of k) (at s.backups of)) (λ x. refl)
parts_still layout points s (line.Purge of) node b h = every_image (IsStill s) (with_backup s of) (purge_parts layout s.primary.trail points (at s.backups of)) (λ x. refl)
parts_still layout points s (line.Takeover of) node b h = every_image (IsStill s) (with_backup s of) (takeover_parts (at s.backups of)) (λ x. refl)
parts_still layout points s (line.CopyAudit of from) node b h = every_image (IsStill s) (with_backup s of) (copy_parts layout (at s.backups of) (at s.backups from)) (λ x. refl)
parts_still layout points s (line.List A vol) node b h = none_grown s (drop (length s.primary.trail) s.primary.trail) (drop-length s.primary.trail)
parts_still layout points s (line.List at vol) node b h = tt
parts_still layout points s (line.Restart A) node b h = absurd (not_a node b h)
parts_still layout points s (line.Restart at) node b h = tt
parts_still layout points s (line.Insert t k value) node b h = absurd (not_a node b h)
parts_still layout points s (line.Update t k value) node b h = absurd (not_a node b h)
parts_still layout points s (line.Delete t k) node b h = absurd (not_a node b h)
parts_still layout points s (line.Get t k) node b h = absurd (not_a node b h)
parts_still layout points s (line.Commit t) node b h = absurd (not_a node b h)
parts_still layout points s (line.Abort t) node b h = absurd (not_a node b h)
parts_still layout points s _ node b h = cc

pub unless_still : (layout : Layout) (points : List ℕ) (s : State) (l : Line) (node : Node) (r : Option NoWhy) → is_backup_node node ≡ true → disks_of l ≡ Some node → Every (IsStill s) (parts_unless r (parts layout points s l))
unless_still layout points s l node None b h = parts_still layout points s l node b h
unless_still layout points s l node (Some why) b h = tt

cut_keeps : LineKeepsProper → (layout : Layout) (points : List ℕ) (s : State) (l : Line) (node : Node) (done rise : ℕ) → disks_of l ≡ Some node → IsProper s.primary →
    IsProper (fallen node rise (after_parts s (parts_unless (refusal layout s l) (parts layout points s l)) done)).primary
cut_keeps keeps layout points s l A done rise h p = cut_of_a keeps layout points s l done rise p
cut_keeps keeps layout points s l node done rise h p = same_proper s.primary (after_parts s (parts_unless (refusal layout s l) (parts layout points s l)) done).primary (every_parts (IsStill s) s (parts_unless (refusal layout s l) (parts layout points s l)) done refl (unless_still layout points s l node (refusal layout s l) refl h)) p

pub step_proper : LineKeepsProper → (layout : Layout) (old : State) (l : Line) (reply : Reply) (new : State) → StepEnds layout old l reply new → IsProper old.primary → IsProper new.primary
step_proper keeps layout old l reply new (points, goes, Whole d) p =
    elim (refused_or_done (refusal layout old l) (kept old l) (after layout points old l) (says layout points old l) reply new d) [
      | inl ref ↦ same_proper old.primary new.primary (ap (λ (s : State). s.primary) ref.2 ∙ kept_primary old l ref.0) p
      | inr did ↦ subst (λ (s : State). IsProper s.primary) (sym did.2) (after_keeps keeps layout points old l did.0 p)
    ]
step_proper keeps layout old l reply new (points, goes, Cut node of done off) p = subst (λ (s : State). IsProper s.primary) (sym off.leaves) (cut_keeps keeps layout points old l node done off.rise of p)

pub primary_proper : LineKeepsProper → (layout : Layout) (lines : List Line) (replies : List Reply) (last : State) → Run layout lines replies last → IsProper last.primary
primary_proper keeps layout lines replies last r =
    run_keeps (λ (s : State). IsProper s.primary) layout (λ rise s e can p. same_proper s.primary (after_move rise s e).primary (move_primary rise s e) p)
    (λ old l reply new s p. step_proper keeps layout old l reply new s.1 p) lines replies (blank layout) last r (record {
      legal = tt;
      opened = λ t h. cc;
      unended = λ t h. refl;
    })
