-- A line on one part, as a line on the whole.
use Rattle.std.proofs.Common.{◌≡◌, ℕ, true, List, drop, length, Option, Some, None, refl, sym, ap, subst}
use Rattle.rdf_types.specs.declared.layout.Layout.{Layout}
use Rattle.rdf_types.specs.declared.records.Node.{Node}
use Rattle.rdf_types.specs.declared.records.Node.TheVariants.{A}
use Rattle.rdf_types.specs.declared.records.Record.{Record}
use Rattle.plan_lang.specs.declared.lines.Line.{Line}
use Rattle.plan_lang.specs.declared.lines.Line.TheVariants as line
use Rattle.rdf_core.specs.declared.replies.NoWhy.{NoWhy}
use Rattle.rdf_core.specs.declared.replies.Reply.{Reply}
use Rattle.rdf_core.specs.declared.replies.Reply.TheVariants.{Number}
use Rattle.rdf_core.specs.Effects.{IsDone, parts_unless, after_parts}
use Rattle.rdf_core.specs.Primary.{Primary, primary_refusal, primary_after, primary_parts, primary_says, trail_after}
use Rattle.rdf_core.specs.Rule.{Rule, Says}
use Rattle.rdf_core.specs.Backup.{Backup, backup_rule, backup_refusal, backup_after, backup_says}
use Rattle.rdf_core.specs.Sessions.{is_backup_node}
use Rattle.by_node.specs.Each.{at}
use Rattle.rdf_core.specs.State.{State, with_backup, with_primary}
use Rattle.rdf_core.specs.Lines.{around, restarted}
use Rattle.rdf_core.specs.Step.{is_for_backup, is_for_primary, points_now}
use Rattle.rdf_core.specs.Happens.{Does, points_for}
use Rattle.rdf_core.specs.PartLaws.{every_parts}
use Rattle.rdf_core.specs.RowLaws.{primary_done, backup_done}
use Rattle.rdf_core.specs.SessionLaws.{node_same}
use Rattle.rdf_core.specs.GrowthLaws.{Grows, grows_not, trail_grows, parts_grow, after_trail}

-- what the primary does for a line on it alone
pub primary_does : (layout : Layout) (s : State) (l : Line) (reply : Reply) (new : Primary) → is_for_primary l ≡ true →
    IsDone (primary_refusal layout s.primary l) (λ _. s.primary) (primary_after s.primary l) (primary_says s.primary l) reply new → Does layout s l reply (with_primary s new)
primary_does layout s l reply new e d = primary_done layout (points_for layout s l) s l reply new e d

done_by : (r : Option NoWhy) (a : Primary) (l : Line) (reply : Reply) (new : Primary) → IsDone r (λ _. a) (primary_after a l) (primary_says a l) reply new → Grows a.trail new.trail
done_by None a l reply new d = subst (λ (x : Primary). Grows a.trail x.trail) (sym d.1) (subst (λ (t : List Record). Grows a.trail t) (sym (after_trail a l)) (trail_grows a.trail l))
done_by (Some why) a l reply new d = subst (λ (x : Primary). Grows a.trail x.trail) (sym d.1) (grows_not a.trail)

-- a line of the primary only adds records
pub done_grows : (layout : Layout) (a : Primary) (l : Line) (reply : Reply) (new : Primary) →
    IsDone (primary_refusal layout a l) (λ _. a) (primary_after a l) (primary_says a l) reply new → Grows a.trail new.trail
done_grows layout a l reply new d = done_by (primary_refusal layout a l) a l reply new d

-- and so do its first parts
pub parts_grown : (a : Primary) (r : Option NoWhy) (l : Line) (done : ℕ) → Grows a.trail (after_parts a (parts_unless r (primary_parts a l)) done).trail
parts_grown a None l done = every_parts (λ (x : Primary). Grows a.trail x.trail) a (primary_parts a l) done (grows_not a.trail) (parts_grow a.trail a (drop (length a.trail) (trail_after a.trail l)) (grows_not a.trail))
parts_grown a (Some why) l done = grows_not a.trail

module _ (layout : Layout) (s : State) (node : Node) where
  -- a purge alone goes by restart points
  points_same : (b : Backup) (l : Line) → is_for_backup node l ≡ true → backup_rule layout (around (points_now layout s node) s l) b l ≡ backup_rule layout (around (points_for layout s l) s l) b l
  points_same b (line.Purge of) e = ap (λ n. backup_rule layout (around (points_now layout s n) s (line.Purge of)) b (line.Purge of)) (node_same node of e)
  points_same b _ e = refl

  -- what a backup does for a line on it alone
  pub backup_does : (l : Line) (reply : Reply) (new : Backup) → is_backup_node node ≡ true → is_for_backup node l ≡ true →
      (let w = around (points_now layout s node) s l in let b = at s.backups node in IsDone (backup_refusal layout w b l) (λ _. b) (backup_after layout w b l) (backup_says layout w b l) reply new) →
      Does layout s l reply (with_backup s node new)
  backup_does l reply new n e d =
      let b = at s.backups node in
      backup_done layout (points_for layout s l) s l node reply new n e (subst (λ (r : Rule Backup). IsDone (r.refusal layout) (λ _. b) r.after (Says r.answer) reply new) (points_same b l e) d)

-- the restart of the primary, where it is refused
refused_by : (r : Option NoWhy) (s : State) (reply : Reply) (new : Primary) → ((n : ℕ) → reply ≡ Number n → ⊥) →
    IsDone r (λ _. s.primary) (primary_after s.primary (line.Restart A)) (primary_says s.primary (line.Restart A)) reply new →
    IsDone r (λ _. s) (restarted s (line.Restart A)) (primary_says s.primary (line.Restart A)) reply (with_primary s new)
refused_by None s reply new no_number d = absurd (no_number _ d.0)
refused_by (Some why) s reply new no_number d = (d.0, ap (with_primary s) d.1)

pub restart_refused : (layout : Layout) (s : State) (reply : Reply) (new : Primary) → ((n : ℕ) → reply ≡ Number n → ⊥) →
    IsDone (primary_refusal layout s.primary (line.Restart A)) (λ _. s.primary) (primary_after s.primary (line.Restart A)) (primary_says s.primary (line.Restart A)) reply new →
    Does layout s (line.Restart A) reply (with_primary s new)
restart_refused layout s reply new no_number d = refused_by (primary_refusal layout s.primary (line.Restart A)) s reply new no_number d
