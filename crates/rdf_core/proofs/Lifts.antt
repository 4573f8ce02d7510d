-- A step of one part is a step of the whole.
use Rattle.std.proofs.Common.{◌≡◌, ℕ, ◌≤◌, true, List, [], map, length, Option, Some, None, refl, sym, ap, ◌∙◌, subst}
use Rattle.rdf_types.specs.declared.layout.Layout.{Layout}
use Rattle.rdf_types.specs.declared.records.Node.{Node}
use Rattle.rdf_types.specs.declared.records.Node.TheVariants.{A}
use Rattle.plan_lang.specs.declared.lines.Line.{Line}
use Rattle.plan_lang.specs.declared.lines.Line.TheVariants as line
use Rattle.by_node.specs.Each.{at, Each, at-with_at, with_at-again}
use Rattle.rdf_core.specs.declared.replies.NoWhy.{NoWhy}
use Rattle.rdf_core.specs.declared.replies.Reply.{Reply}
use Rattle.rdf_core.specs.declared.replies.Reply.TheVariants.{No}
use Rattle.rdf_core.specs.Effects.{after_parts, parts_unless, IsDone, IsCutOff, Whole, Cut}
use Rattle.rdf_core.specs.Primary.{Primary, primary_refusal, primary_parts, primary_says, primary_fallen}
use Rattle.rdf_core.specs.Backup.{Backup, backup_refusal, backup_parts, backup_after, backup_says, backup_fallen}
use Rattle.rdf_core.specs.Sessions.{is_backup_node, with_cut}
use Rattle.rdf_core.specs.Rule.{Rule}
use Rattle.rdf_core.specs.State.{State, with_primary, with_backup, with_session, fallen}
use Rattle.rdf_core.specs.Lines.{around, kept, parts, restarted}
use Rattle.rdf_core.specs.Step.{StepEnds, Goes, is_for_backup, disks_of}
use Rattle.rdf_core.specs.PartLaws.{lift_cut, map_unless, map_parts}
use Rattle.rdf_core.specs.RowLaws.{put_back, of_backup, backup_row, backup_refused, backup_done, fallen_again}
use Rattle.std.proofs.lemmas.List.{length-map}

-- the state after a stop of a backup
cut_b : (s : State) (node : Node) (r : Option NoWhy) (xs : List Backup) (done : ℕ) (reply : Reply) (new : Backup) → is_backup_node node ≡ true →
    IsCutOff node backup_fallen (at s.backups node) r xs done reply new →
    IsCutOff node (fallen node) s r (map (with_backup s node) xs) done reply (with_session (with_backup s node new) (with_cut s.session node))
cut_b s node r xs done reply new n c = record {
  may = c.may;
  few = subst (λ (ys : List State). done ≤ length ys) (sym (map_unless (with_backup s node) r xs)) (subst (λ k. done ≤ k) (sym (length-map (parts_unless r xs) (with_backup s node))) c.few);
  says = c.says;
  rise = c.rise;
  some = c.some;
  leaves = ap (λ (b : Backup). with_session (with_backup s node b) (with_cut s.session node)) c.leaves
      ∙ sym (fallen_again s node c.rise (after_parts (at s.backups node) (parts_unless r xs) done) n)
      ∙ ap (fallen node c.rise) (sym (map_parts (with_backup s node) (at s.backups node) (parts_unless r xs) done) ∙ ap (λ (x : State). after_parts x (map (with_backup s node) (parts_unless r xs)) done) (put_back s node))
      ∙ ap (λ (ys : List State). fallen node c.rise (after_parts s ys done)) (sym (map_unless (with_backup s node) r xs));
}

module _ (layout : Layout) (points : List ℕ) (s : State) (node : Node) (l : Line) (reply : Reply) (new : Backup) (backup : is_backup_node node ≡ true) (on : is_for_backup node l ≡ true) (goes : Goes layout s l points) where
  -- where the backup does so for the line, the whole does
  pub backup_ends :
      IsDone (backup_refusal layout (around points s l) (at s.backups node) l) (λ why. at s.backups node) (backup_after layout (around points s l) (at s.backups node) l) (backup_says layout (around points s l) (at s.backups node) l) reply new →
      StepEnds layout s l reply (with_backup s node new)
  backup_ends d = (points, goes, Whole (backup_done layout points s l node reply new backup on d))

  -- and where a stop cuts the line off on the backup, it does on the whole
  pub backup_cut_ends : (done : ℕ) → disks_of l ≡ Some node →
      IsCutOff node backup_fallen (at s.backups node) (backup_refusal layout (around points s l) (at s.backups node) l) (backup_parts layout (around points s l) (at s.backups node) l) done reply new →
      StepEnds layout s l reply (with_session (with_backup s node new) (with_cut s.session node))
  backup_cut_ends done of c =
      let after = with_session (with_backup s node new) (with_cut s.session node) in
      let refused = backup_refusal layout (around points s l) (at s.backups node) l in (
        points,
        goes,
        Cut node of done
            (subst (λ (o : Option NoWhy). IsCutOff node (fallen node) s o (parts layout points s l) done reply after) (sym (backup_refused layout points s l node backup on))
            (subst (λ (xs : List State). IsCutOff node (fallen node) s refused xs done reply after) (sym (ap (λ (r : Rule State). r.parts) (backup_row layout points s node backup l on)))
            (cut_b s node refused (backup_parts layout (around points s l) (at s.backups node) l) done reply new backup c))),
      )

-- the restart of the primary also makes the extractors forget how far they were
pub restart_done : (layout : Layout) (s : State) (reply : Reply) → primary_refusal layout s.primary (line.Restart A) ≡ None → primary_says s.primary (line.Restart A) reply →
    StepEnds layout s (line.Restart A) reply (restarted s (line.Restart A))
restart_done layout s reply e d = ([], tt, Whole (done_where (primary_refusal layout s.primary (line.Restart A)) e))
  where
    done_where : (r : Option NoWhy) → r ≡ None → IsDone r (kept s (line.Restart A)) (restarted s (line.Restart A)) (primary_says s.primary (line.Restart A)) reply (restarted s (line.Restart A))
    done_where None f = (d, refl)
    done_where (Some why) f = cc

pub restart_refused : (layout : Layout) (s : State) (why : NoWhy) → primary_refusal layout s.primary (line.Restart A) ≡ Some why → StepEnds layout s (line.Restart A) (No why) s
restart_refused layout s why e = ([], tt, Whole (refused_where (primary_refusal layout s.primary (line.Restart A)) e))
  where
    none_is : (let x : Option NoWhy = None in x) ≡ Some why → ⊥
    none_is f = cc

    some_is : (w : NoWhy) → (let x : Option NoWhy = Some w in x) ≡ Some why → w ≡ why
    some_is w f = cc

    refused_where : (r : Option NoWhy) → r ≡ Some why → IsDone r (kept s (line.Restart A)) (restarted s (line.Restart A)) (primary_says s.primary (line.Restart A)) (No why) s
    refused_where None f = absurd (none_is f)
    refused_where (Some w) f = (ap No (sym (some_is w f)), refl)

pub restart_cut : (layout : Layout) (s : State) (done : ℕ) (reply : Reply) (new : Primary) →
    IsCutOff A primary_fallen s.primary (primary_refusal layout s.primary (line.Restart A)) (primary_parts s.primary (line.Restart A)) done reply new →
    StepEnds layout s (line.Restart A) reply (with_primary s new)
restart_cut layout s done reply new c = (
  [],
  tt,
  Cut A refl done
      (lift_cut (with_primary s) A primary_fallen (fallen A) (λ n x. refl) s.primary (primary_refusal layout s.primary (line.Restart A)) (primary_parts s.primary (line.Restart A)) done reply new c),
)
