-- Every step ages all backups.
use Rattle.std.proofs.Common.{◌≡◌, ℕ, Bool, true, false, not, ◌&&◌, IsTrue, inl, inr, List, [], ◌∷◌, map, Option, Some, None, if◌then◌else◌, refl, sym, ap, ◌∙◌, subst}
use Rattle.std.proofs.lemmas.Bool.{and_parts}
use Rattle.rdf_types.specs.declared.layout.Layout.{Layout}
use Rattle.rdf_types.specs.declared.records.Node.{Node}
use Rattle.rdf_types.specs.declared.records.RecKey.{RecKey}
use Rattle.plan_lang.specs.declared.lines.Line.{Line}
use Rattle.plan_lang.specs.declared.lines.Line.TheVariants as line
use Rattle.by_node.specs.Each.{at, Each, with_at, with_at-keeps}
use Rattle.rdf_core.specs.declared.events.Event.{Event}
use Rattle.rdf_core.specs.declared.events.Event.TheVariants as event
use Rattle.rdf_core.specs.declared.replies.NoWhy.{NoWhy}
use Rattle.rdf_core.specs.declared.replies.NoWhy.TheVariants as no
use Rattle.rdf_core.specs.declared.replies.Reply.{Reply}
use Rattle.rdf_core.specs.Effects.{when, first, after_parts, after_all, parts_unless, Whole, Cut}
use Rattle.rdf_core.specs.Layouts.{point_of, points_at}
use Rattle.rdf_core.specs.Primary.{Primary, primary_parts, primary_fallen}
use Rattle.rdf_core.specs.Backup.{Backup, Volumes, Running, Taking, Taken, is_running, is_taking, is_taken, cannot_take, drops, floor_of, deliver_parts, with_up, purge_parts, takeover_parts, backup_fallen, copy_parts, cut_rule, restart_rule, list_rule, status_rule, fuse_rule}
use Rattle.rdf_core.specs.Sessions.{Session, Closed, Refused, Open, has_halted, met_stop, with_seen, with_cut}
use Rattle.plan_lang.specs.LineText.{same_node}
use Rattle.plan_lang.specs.Sessions.{fits_session}
use Rattle.rdf_core.specs.Allowed.{allowed, has_names, is_backup, open_node}
use Rattle.rdf_core.specs.Rule.{Rule}
use Rattle.rdf_core.specs.State.{State, with_primary, with_backup, with_session, by_node, fallen}
use Rattle.rdf_core.specs.NodeLaws.{by_node-keeps}
use Rattle.rdf_core.specs.Lines.{on_primary, on_backup, restarted, refusal, kept, message, parts, after, says, after_read, after_end, points_of, run_at, with_points}
use Rattle.rdf_core.specs.Step.{Step, StepEnds, with_point, moved_backup, halted_backup, after_apply, after_halt}
use Rattle.rdf_core.specs.Run.{after_move}
use Rattle.rdf_core.proofs.Ages.{Ages, ages_still, ages_points, marks_age, copies_age, deliver_ages}
use Rattle.rdf_core.specs.PartLaws.{Every, every_parts, every_all, every_map, every_image, every_weaker, refused_or_done}

-- a backup ages by what stood at some node, which the layout has as a backup where it has this one
pub record AgesAt (layout : Layout) (old : Each Backup) (node : Node) (new : Backup) : Type 0 where
  pub from : Node
  pub known : is_backup layout node ≡ true → is_backup layout from ≡ true
  pub ages : Ages (at old from) (at old node) new

abbrev pub AllAge : Layout → Each Backup → (Each Backup) → Type 0
AllAge layout old new = (node : Node) → AgesAt layout old node (at new node)

-- by itself
ages_alone : (layout : Layout) (old : Each Backup) (node : Node) (x : Backup) → Ages (at old node) (at old node) x → AgesAt layout old node x
ages_alone layout old node x a = record { from = node; known = λ k. k; ages = a }

pub all_still : (layout : Layout) (old : Each Backup) → AllAge layout old old
all_still layout old node = ages_alone layout old node (at old node) (ages_still (at old node) (at old node) (at old node) refl refl)

-- one more has aged
all_set : (layout : Layout) (old mid : Each Backup) (node : Node) (x : Backup) → AllAge layout old mid → AgesAt layout old node x → AllAge layout old (with_at mid node x)
all_set layout old mid node x all one = with_at-keeps (AgesAt layout old) mid node x all one

all_with : (layout : Layout) (old : Each Backup) (node : Node) (x : Backup) → Ages (at old node) (at old node) x → AllAge layout old (with_at old node x)
all_with layout old node x a = all_set layout old old node x (all_still layout old) (ages_alone layout old node x a)

-- a stop takes a node down, and leaves its volumes
fallen_ages : (layout : Layout) (old : Each Backup) (node : Node) (x : Backup) (n : ℕ) → AgesAt layout old node x → AgesAt layout old node (backup_fallen n x)
fallen_ages layout old node x n a = record { from = a.from; known = a.known; ages = record { rises = a.ages.rises; stays = a.ages.stays; bounded = a.ages.bounded; holds = a.ages.holds } }

all_fallen : (layout : Layout) (old : Each Backup) (s : State) (node : Node) (n : ℕ) → AllAge layout old s.backups → AllAge layout old (fallen node n s).backups
all_fallen layout old s node n all = by_node-keeps (λ (x : State). AllAge layout old x.backups) node (with_primary s (primary_fallen n s.primary))
    (with_session (with_backup s node (backup_fallen n (at s.backups node))) (with_cut s.session node)) all
    (all_set layout old s.backups node (backup_fallen n (at s.backups node)) all (fallen_ages layout old node (at s.backups node) n (all node)))

-- refusals

runs_where : (up : Bool) (v : Volumes) (rest : Option NoWhy) → first (first (when (not up) no.Down ∷ when (is_taking v) no.Taking ∷ when (is_taken v) no.Taken ∷ []) ∷ rest ∷ []) ≡ None → is_running v ≡ true
runs_where false (Running points) rest e = refl
runs_where true (Running points) rest e = refl
runs_where false Taking rest e = cc
runs_where true Taking rest e = cc
runs_where false (Taken upto) rest e = cc
runs_where true (Taken upto) rest e = cc

-- whole lines

up_ages : (b : Backup) (up : Bool) → Ages b b (with_up b up)
up_ages b up = ages_still b b (with_up b up) refl refl

run_at-runs : (points : List ℕ) (v : Volumes) → is_running (run_at points v) ≡ is_running v
run_at-runs points (Running old) = refl
run_at-runs points Taking = refl
run_at-runs points (Taken upto) = refl

points_ages : (b : Backup) (points : List ℕ) → Ages b b (with_points b points)
points_ages b points = ages_points b b (with_points b points) refl (run_at-runs points b.volumes) (λ s h. ap (run_at points) h)

read_ages : (layout : Layout) (s : State) (key : RecKey) (session : Session) → AllAge layout s.backups (after_read layout s key session).backups
read_ages layout s key Closed = all_still layout s.backups
read_ages layout s key (Refused of why) = all_still layout s.backups
read_ages layout s key (Open o) =
    elim (has_halted o key.vol) as (λ m. AllAge layout s.backups (if m then with_backup s o.node (with_up (at s.backups o.node) false) else with_session s (Open (with_seen o key.vol (point_of (points_of layout s o) key.vol)))).backups) [
      | true ↦ all_with layout s.backups o.node (with_up (at s.backups o.node) false) (up_ages (at s.backups o.node) false)
      | false ↦ all_still layout s.backups
    ]

end_ages : (layout : Layout) (s : State) (session : Session) → AllAge layout s.backups (after_end layout s session).backups
end_ages layout s Closed = all_still layout s.backups
end_ages layout s (Refused of why) = all_still layout s.backups
end_ages layout s (Open o) =
    elim (met_stop o) as (λ m. AllAge layout s.backups (if m then with_session (with_backup s o.node (with_up (at s.backups o.node) false)) Closed else with_session (with_backup s o.node (with_points (at s.backups o.node) (points_at layout (at s.backups o.node).received))) Closed).backups) [
      | true ↦ all_with layout s.backups o.node (with_up (at s.backups o.node) false) (up_ages (at s.backups o.node) false)
      | false ↦ all_with layout s.backups o.node (with_points (at s.backups o.node) (points_at layout (at s.backups o.node).received)) (points_ages (at s.backups o.node) (points_at layout (at s.backups o.node).received))
    ]

-- the durable parts of a line on a backup age it
deliver_line : (layout : Layout) (s : State) (node : Node) (k : ℕ) → refusal layout s (line.Deliver node k) ≡ None → Every (AgesAt layout s.backups node) (deliver_parts layout (message s node k) (at s.backups node))
deliver_line layout s node k e = every_weaker (Ages b b) (AgesAt layout s.backups node) (deliver_parts layout (message s node k) b) (ages_alone layout s.backups node)
    (deliver_ages layout b b (message s node k) (runs_where b.up b.volumes (cannot_take b.received (message s node k)) e))
  where
    b : Backup
    b = at s.backups node

purge_line : (layout : Layout) (points : List ℕ) (s : State) (node : Node) → Every (AgesAt layout s.backups node) (purge_parts layout s.primary.trail points (at s.backups node))
purge_line layout points s node = every_image (AgesAt layout s.backups node) (λ starts. record b { starts = starts }) (drops layout.retain (floor_of layout s.primary.trail points b) b.starts)
    (λ starts. ages_alone layout s.backups node (record b { starts = starts }) (ages_still b b (record b { starts = starts }) refl refl))
  where
    b : Backup
    b = at s.backups node

takeover_line : (layout : Layout) (s : State) (node : Node) → Every (AgesAt layout s.backups node) (takeover_parts (at s.backups node))
takeover_line layout s node = every_weaker (Ages (at s.backups node) (at s.backups node)) (AgesAt layout s.backups node) (takeover_parts (at s.backups node)) (ages_alone layout s.backups node)
    (marks_age (at s.backups node) (at s.backups node) (at s.backups node).volumes refl)

-- a copy from another one that the layout has
copy_line : (layout : Layout) (s : State) (node from : Node) → IsTrue (allowed layout s.session (line.CopyAudit node from)) → Every (AgesAt layout s.backups node) (copy_parts layout (at s.backups node) (at s.backups from))
copy_line layout s node from may = every_weaker (Ages (at s.backups from) (at s.backups node)) (AgesAt layout s.backups node) (copy_parts layout (at s.backups node) (at s.backups from))
    (λ x a. record { from = from; known = λ k. named; ages = a }) (copies_age layout (at s.backups from) (at s.backups node))
  where
    named : is_backup layout from ≡ true
    named =
        let names = (and_parts (has_names layout (line.CopyAudit node from)) (fits_session (open_node s.session) (line.CopyAudit node from)) may).0 in
        (and_parts (is_backup layout node) (is_backup layout from) (and_parts (is_backup layout node && is_backup layout from) (not (same_node node from)) names).0).1

-- the whole of them
whole_ages : (layout : Layout) (s : State) (node : Node) (xs : List Backup) → Every (AgesAt layout s.backups node) xs → AllAge layout s.backups (with_backup s node (after_all (at s.backups node) xs)).backups
whole_ages layout s node xs e = all_set layout s.backups s.backups node (after_all (at s.backups node) xs) (all_still layout s.backups)
    (every_all (AgesAt layout s.backups node) (at s.backups node) xs (all_still layout s.backups node) e)

-- each of them
each_ages : (layout : Layout) (s : State) (node : Node) (xs : List Backup) → Every (AgesAt layout s.backups node) xs → Every (λ (x : State). AllAge layout s.backups x.backups) (map (with_backup s node) xs)
each_ages layout s node xs e = every_map (AgesAt layout s.backups node) (λ (x : State). AllAge layout s.backups x.backups) (with_backup s node) xs (λ x a. all_set layout s.backups s.backups node x (all_still layout s.backups) a) e

-- a node that goes down or comes up
up_line : (layout : Layout) (s : State) (node : Node) (up : Bool) (of_primary of_backup : Rule State) → AllAge layout s.backups of_primary.after.backups →
    of_backup.after ≡ with_backup s node (with_up (at s.backups node) up) → AllAge layout s.backups (by_node node of_primary of_backup).after.backups
up_line layout s node up of_primary of_backup still is = by_node-keeps (λ (r : Rule State). AllAge layout s.backups r.after.backups) node of_primary of_backup still
    (subst (λ (x : State). AllAge layout s.backups x.backups) (sym is) (all_with layout s.backups node (with_up (at s.backups node) up) (up_ages (at s.backups node) up)))

after_ages : (layout : Layout) (points : List ℕ) (s : State) (l : Line) → IsTrue (allowed layout s.session l) → refusal layout s l ≡ None → AllAge layout s.backups (after layout points s l).backups
after_ages layout points s (line.Deliver node k) may e = whole_ages layout s node (deliver_parts layout (message s node k) (at s.backups node)) (deliver_line layout s node k e)
after_ages layout points s (line.Read node key) may e = read_ages layout s key s.session
after_ages layout points s (line.Purge node) may e = whole_ages layout s node (purge_parts layout s.primary.trail points (at s.backups node)) (purge_line layout points s node)
after_ages layout points s line.End may e = end_ages layout s s.session
after_ages layout points s (line.Takeover node) may e = whole_ages layout s node (takeover_parts (at s.backups node)) (takeover_line layout s node)
after_ages layout points s (line.CopyAudit node from) may e = whole_ages layout s node (copy_parts layout (at s.backups node) (at s.backups from)) (copy_line layout s node from may)
after_ages layout points s (line.Cut node) may e = up_line layout s node false (on_primary s (line.Cut node)) (on_backup s node cut_rule) (all_still layout s.backups) refl
after_ages layout points s (line.Restart node) may e = up_line layout s node true (record (on_primary s (line.Restart node)) { after = restarted s (line.Restart node) }) (on_backup s node restart_rule) (all_still layout s.backups) refl
after_ages layout points s _ may e = all_still layout s.backups

primary_ages : (layout : Layout) (s : State) (xs : List Primary) → Every (λ (x : State). AllAge layout s.backups x.backups) (map (with_primary s) xs)
primary_ages layout s xs = every_image (λ (x : State). AllAge layout s.backups x.backups) (with_primary s) xs (λ x. all_still layout s.backups)

-- of a line on any node
parts_of_either : (layout : Layout) (s : State) (node : Node) (of_primary of_backup : Rule State) → Every (λ (x : State). AllAge layout s.backups x.backups) of_primary.parts →
    Every (λ (x : State). AllAge layout s.backups x.backups) of_backup.parts → Every (λ (x : State). AllAge layout s.backups x.backups) (by_node node of_primary of_backup).parts
parts_of_either layout s node of_primary of_backup a b = by_node-keeps (λ (r : Rule State). Every (λ (x : State). AllAge layout s.backups x.backups) r.parts) node of_primary of_backup a b

parts_age : (layout : Layout) (points : List ℕ) (s : State) (l : Line) → IsTrue (allowed layout s.session l) → refusal layout s l ≡ None → Every (λ (x : State). AllAge layout s.backups x.backups) (parts layout points s l)
parts_age layout points s (line.Deliver node k) may e = each_ages layout s node (deliver_parts layout (message s node k) (at s.backups node)) (deliver_line layout s node k e)
parts_age layout points s (line.Purge node) may e = each_ages layout s node (purge_parts layout s.primary.trail points (at s.backups node)) (purge_line layout points s node)
parts_age layout points s (line.Takeover node) may e = each_ages layout s node (takeover_parts (at s.backups node)) (takeover_line layout s node)
parts_age layout points s (line.CopyAudit node from) may e = each_ages layout s node (copy_parts layout (at s.backups node) (at s.backups from)) (copy_line layout s node from may)
parts_age layout points s (line.List node vol) may e = parts_of_either layout s node (on_primary s (line.List node vol)) (on_backup s node (list_rule layout s.primary.trail vol)) (primary_ages layout s (primary_parts s.primary (line.List node vol))) tt
parts_age layout points s (line.Restart node) may e = parts_of_either layout s node (record (on_primary s (line.Restart node)) { after = restarted s (line.Restart node) }) (on_backup s node restart_rule)
    (primary_ages layout s (primary_parts s.primary (line.Restart node))) tt
parts_age layout points s (line.Session node) may e = tt
parts_age layout points s (line.Info node) may e = tt
parts_age layout points s (line.Status node) may e = parts_of_either layout s node (on_primary s (line.Status node)) (on_backup s node (status_rule layout s.primary.trail)) (primary_ages layout s (primary_parts s.primary (line.Status node))) tt
parts_age layout points s (line.Fuse node disk calls tear) may e = parts_of_either layout s node (on_primary s (line.Fuse node disk calls tear)) (on_backup s node (fuse_rule layout disk)) (primary_ages layout s (primary_parts s.primary (line.Fuse node disk calls tear))) tt
parts_age layout points s (line.Cut node) may e = parts_of_either layout s node (on_primary s (line.Cut node)) (on_backup s node cut_rule) (primary_ages layout s (primary_parts s.primary (line.Cut node))) tt
parts_age layout points s l may e = primary_ages layout s (primary_parts s.primary l)

kept_backups : (s : State) (l : Line) (why : NoWhy) → (kept s l why).backups ≡ s.backups
kept_backups s (line.Session node) why = refl
kept_backups s line.End why = refl
kept_backups s _ why = refl

unless_age : (layout : Layout) (points : List ℕ) (s : State) (l : Line) (r : Option NoWhy) → IsTrue (allowed layout s.session l) → refusal layout s l ≡ r →
    Every (λ (x : State). AllAge layout s.backups x.backups) (parts_unless r (parts layout points s l))
unless_age layout points s l None may e = parts_age layout points s l may e
unless_age layout points s l (Some why) may e = tt

ends_age : (layout : Layout) (old : State) (l : Line) (reply : Reply) (new : State) → IsTrue (allowed layout old.session l) → StepEnds layout old l reply new → AllAge layout old.backups new.backups
ends_age layout old l reply new may (points, goes, Whole d) =
    elim (refused_or_done (refusal layout old l) (kept old l) (after layout points old l) (says layout points old l) reply new d) [
      | inl ref ↦ subst (λ (each : Each Backup). AllAge layout old.backups each) (sym (ap (λ (s : State). s.backups) ref.2 ∙ kept_backups old l ref.0)) (all_still layout old.backups)
      | inr did ↦ subst (λ (s : State). AllAge layout old.backups s.backups) (sym did.2) (after_ages layout points old l may did.0)
    ]
ends_age layout old l reply new may (points, goes, Cut node of done off) =
    subst (λ (s : State). AllAge layout old.backups s.backups) (sym off.leaves)
    (all_fallen layout old.backups (after_parts old (parts_unless (refusal layout old l) (parts layout points old l)) done) node off.rise
    (every_parts (λ (x : State). AllAge layout old.backups x.backups) old (parts_unless (refusal layout old l) (parts layout points old l)) done (all_still layout old.backups)
    (unless_age layout points old l (refusal layout old l) may refl)))

pub step_ages : (layout : Layout) (old : State) (l : Line) (reply : Reply) (new : State) → Step layout old l reply new → AllAge layout old.backups new.backups
step_ages layout old l reply new s = ends_age layout old l reply new s.0 s.1

-- between lines

with_point-runs : (v : Volumes) (vol upto : ℕ) → is_running (with_point v vol upto) ≡ is_running v
with_point-runs (Running points) vol upto = refl
with_point-runs Taking vol upto = refl
with_point-runs (Taken s) vol upto = refl

moved_ages : (b : Backup) (vol upto : ℕ) → Ages b b (moved_backup b vol upto)
moved_ages b vol upto = ages_points b b (moved_backup b vol upto) refl (with_point-runs b.volumes vol upto) (λ s h. ap (λ v. with_point v vol upto) h)

apply_ages : (layout : Layout) (s : State) (session : Session) (vol upto : ℕ) → AllAge layout s.backups (after_apply s session vol upto).backups
apply_ages layout s Closed vol upto = all_still layout s.backups
apply_ages layout s (Refused of why) vol upto = all_still layout s.backups
apply_ages layout s (Open o) vol upto = all_with layout s.backups o.node (moved_backup (at s.backups o.node) vol upto) (moved_ages (at s.backups o.node) vol upto)

halt_ages : (layout : Layout) (rise : ℕ) (s : State) (session : Session) (vol : ℕ) → AllAge layout s.backups (after_halt rise s session vol).backups
halt_ages layout rise s Closed vol = all_still layout s.backups
halt_ages layout rise s (Refused of why) vol = all_still layout s.backups
halt_ages layout rise s (Open o) vol = all_with layout s.backups o.node (halted_backup rise (at s.backups o.node)) (ages_still (at s.backups o.node) (at s.backups o.node) (halted_backup rise (at s.backups o.node)) refl refl)

pub move_ages : (layout : Layout) (rise : ℕ) (s : State) (e : Event) → AllAge layout s.backups (after_move rise s e).backups
move_ages layout rise s (event.Apply vol upto) = apply_ages layout s s.session vol upto
move_ages layout rise s (event.Halt vol) = halt_ages layout rise s s.session vol
move_ages layout rise s _ = all_still layout s.backups
