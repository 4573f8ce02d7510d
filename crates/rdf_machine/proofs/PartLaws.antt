-- What calls on one part leave of all parts.
use Rattle.std.proofs.Common.{◌≡◌, ℕ, Bool, true, List, Option, Result, Ok, Err, IfOk, OnOk, OnErr, sym, ap, ◌∙◌, subst}
use Rattle.rdf_types.specs.declared.layout.Layout.{Layout}
use Rattle.rdf_types.specs.declared.records.Node.{Node}
use Rattle.rdf_types.specs.declared.records.Record.{Record}
use Rattle.plan_lang.specs.declared.lines.Line.{Line}
use Rattle.plan_lang.specs.declared.lines.Line.TheVariants as line
use Rattle.rdf_core.specs.declared.replies.Reply.{Reply}
use Rattle.rdf_core.specs.Effects.{IsDone}
use Rattle.rdf_core.specs.Primary.{Primary, is_lost, primary_after, primary_refusal, primary_says}
use Rattle.rdf_core.specs.Backup.{Around, Backup, backup_after, backup_refusal, backup_says, points_in}
use Rattle.rdf_core.specs.Sessions.{is_backup_node}
use Rattle.by_node.specs.Each.{at}
use Rattle.rdf_core.specs.State.{State, with_backup, with_primary}
use Rattle.rdf_core.specs.Lines.{around, lead_of, message_of}
use Rattle.rdf_core.specs.Step.{is_for_backup, is_for_primary, points_now}
use Rattle.rdf_core.specs.Happens.{Does}
use Rattle.rdf_core.specs.GrowthLaws.{Grows, grows_not}
use Rattle.backup_machine.specs.declared.line.Outside.{Outside}
use Rattle.backup_machine.specs.declared.backup.BackupState.{BackupState}
use Rattle.backup_machine.specs.Kept.{around_by, backup_of}
use Rattle.backup_machine.specs.Lines.{first_of}
use Rattle.rdf_machine.proofs.MachineLaws.{backup_does, done_grows, primary_does}

-- what a line needs of the rest, as the whole has it
pub around_same : (layout : Layout) (s : State) (l : Line) (outside : Outside) (b : BackupState) (node : Node) → backup_of b ≡ at s.backups node → outside.lost ≡ is_lost s.primary.standing → outside.message ≡ message_of s l →
    around_by layout s.primary.trail outside (lead_of s l) b ≡ around (points_now layout s node) s l
around_same layout s l outside b node is lost message =
    ap (λ (x : Backup). let w : Around = record { trail = s.primary.trail; lost = outside.lost; message = outside.message; lead = lead_of s l; points = points_in layout s.primary.trail x.volumes } in w) is
    ∙ ap (λ (x : Bool). let w : Around = record { trail = s.primary.trail; lost = x; message = outside.message; lead = lead_of s l; points = points_now layout s node } in w) lost
    ∙ ap (λ (x : Option (ℕ × ℕ)). let w : Around = record { trail = s.primary.trail; lost = is_lost s.primary.standing; message = x; lead = lead_of s l; points = points_now layout s node } in w) message

module _ {E : Type 0} (r : Result Reply E) (layout : Layout) (s : State) (l : Line) where
  -- a line on the primary
  pub on_primary : (new : Primary) → is_for_primary l ≡ true → IfOk r (λ reply. IsDone (primary_refusal layout s.primary l) (λ _. s.primary) (primary_after s.primary l) (primary_says s.primary l) reply new) →
      IfOk r (λ reply. Does layout s l reply (with_primary s new))
  on_primary new e h = by_case r h
    where
      by_case : (r : Result Reply E) → IfOk r (λ reply. IsDone (primary_refusal layout s.primary l) (λ _. s.primary) (primary_after s.primary l) (primary_says s.primary l) reply new) → IfOk r (λ reply. Does layout s l reply (with_primary s new))
      by_case (Ok reply) h = primary_does layout s l reply new e h
      by_case (Err x) h = tt

  pub primary_grows : (new : Primary) → IfOk r (λ reply. IsDone (primary_refusal layout s.primary l) (λ _. s.primary) (primary_after s.primary l) (primary_says s.primary l) reply new) → OnErr r (new ≡ s.primary) → Grows s.primary.trail new.trail
  primary_grows new h g = by_case r h g
    where
      by_case : (r : Result Reply E) → IfOk r (λ reply. IsDone (primary_refusal layout s.primary l) (λ _. s.primary) (primary_after s.primary l) (primary_says s.primary l) reply new) → OnErr r (new ≡ s.primary) → Grows s.primary.trail new.trail
      by_case (Ok reply) h g = done_grows layout s.primary l reply new h
      by_case (Err x) h g = subst (λ (a : Primary). Grows s.primary.trail a.trail) (sym g) (grows_not s.primary.trail)

  -- a line on a backup
  pub on_backup : (outside : Outside) (b : BackupState) (node : Node) (new : Backup) → backup_of b ≡ at s.backups node → outside.lost ≡ is_lost s.primary.standing → outside.message ≡ message_of s l → is_backup_node node ≡ true → is_for_backup node l ≡ true →
      IfOk r (λ reply. (lead : Backup) → let w = around_by layout s.primary.trail outside lead b in
      IsDone (backup_refusal layout w (backup_of b) l) (λ _. backup_of b) (backup_after layout w (backup_of b) l) (backup_says layout w (backup_of b) l) reply new) →
      IfOk r (λ reply. Does layout s l reply (with_backup s node new))
  on_backup outside b node new is lost message n e h = by_case r h
    where
      by_case : (r : Result Reply E) → IfOk r (λ reply. (lead : Backup) → let w = around_by layout s.primary.trail outside lead b in
          IsDone (backup_refusal layout w (backup_of b) l) (λ _. backup_of b) (backup_after layout w (backup_of b) l) (backup_says layout w (backup_of b) l) reply new) →
          IfOk r (λ reply. Does layout s l reply (with_backup s node new))
      by_case (Ok reply) h =
          backup_does layout s node l reply new n e
          (subst (λ (x : Backup). IsDone (backup_refusal layout (around (points_now layout s node) s l) x l) (λ _. x) (backup_after layout (around (points_now layout s node) s l) x l) (backup_says layout (around (points_now layout s node) s l) x l) reply new) is
          (subst (λ (w : Around). IsDone (backup_refusal layout w (backup_of b) l) (λ _. backup_of b) (backup_after layout w (backup_of b) l) (backup_says layout w (backup_of b) l) reply new)
          (around_same layout s l outside b node is lost message) (h (lead_of s l))))
      by_case (Err x) h = tt

  -- the same, where the trail was lent
  pub on_backup_over : (trail : List Record) (outside : Outside) (b : BackupState) (node : Node) (new : Backup) → trail ≡ s.primary.trail → backup_of b ≡ at s.backups node → outside.lost ≡ is_lost s.primary.standing → outside.message ≡ message_of s l →
      is_backup_node node ≡ true → is_for_backup node l ≡ true →
      IfOk r (λ reply. (lead : Backup) → let w = around_by layout trail outside lead b in
      IsDone (backup_refusal layout w (backup_of b) l) (λ _. backup_of b) (backup_after layout w (backup_of b) l) (backup_says layout w (backup_of b) l) reply new) →
      IfOk r (λ reply. Does layout s l reply (with_backup s node new))
  on_backup_over trail outside b node new trail_is is lost message n e h =
      on_backup outside b node new is lost message n e
      (subst (λ (t : List Record). IfOk r (λ reply. (lead : Backup) → let w = around_by layout t outside lead b in
      IsDone (backup_refusal layout w (backup_of b) l) (λ _. backup_of b) (backup_after layout w (backup_of b) l) (backup_says layout w (backup_of b) l) reply new)) trail_is h)

-- the first parts of a line on a backup, by what the whole has for it
pub first_over : {E : Type 0} (r : Result (Unit {0}) E) (layout : Layout) (s : State) (l : Line) (trail : List Record) (outside : Outside) (b : BackupState) (node : Node) (new : Backup) (done : ℕ) → trail ≡ s.primary.trail → backup_of b ≡ at s.backups node →
    outside.lost ≡ is_lost s.primary.standing → outside.message ≡ message_of s l → OnOk r ((lead : Backup) → new ≡ first_of layout (around_by layout trail outside lead b) l (backup_of b) done) →
    OnOk r (new ≡ first_of layout (around (points_now layout s node) s l) l (at s.backups node) done)
first_over (Ok u) layout s l trail outside b node new done trail_is is lost message first =
    first (lead_of s l)
    ∙ ap (λ (t : List Record). first_of layout (around_by layout t outside (lead_of s l) b) l (backup_of b) done) trail_is
    ∙ ap (λ (w : Around). first_of layout w l (backup_of b) done) (around_same layout s l outside b node is lost message)
    ∙ ap (λ (x : Backup). first_of layout (around (points_now layout s node) s l) l x done) is
first_over (Err e) layout s l trail outside b node new done trail_is is lost message first = tt
