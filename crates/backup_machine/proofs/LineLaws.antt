-- What each line on one backup does, as a line.
use Rattle.std.proofs.Common.{◌≡◌, ℕ, List, Result, Ok, Err, IfOk, sym, subst}
use Rattle.rdf_types.specs.declared.layout.Layout.{Layout}
use Rattle.rdf_types.specs.declared.records.Node.{Node}
use Rattle.rdf_types.specs.declared.records.Record.{Record}
use Rattle.rdf_disk.specs.declared.fault.Tear.{Tear}
use Rattle.plan_lang.specs.declared.lines.Line.{Line}
use Rattle.plan_lang.specs.declared.lines.Line.TheVariants as line
use Rattle.rdf_core.specs.declared.replies.Reply.{Reply}
use Rattle.rdf_core.specs.declared.replies.Reply.TheVariants.{Number}
use Rattle.rdf_core.specs.Effects.{IsDone, after_all}
use Rattle.rdf_core.specs.Backup.{Around, Backup, backup_after, backup_refusal, backup_says, deliver_parts, deliver_refusal}
use Rattle.backup_machine.specs.declared.backup.BackupState.{BackupState}
use Rattle.backup_machine.specs.declared.line.Outside.{Outside}
use Rattle.backup_machine.specs.Kept.{around_by, backup_of}

abbrev pub DoneBy : Layout → Around → Backup → Line → Reply → Backup → Type 0
DoneBy layout w old l reply new = IsDone (backup_refusal layout w old l) (λ _. old) (backup_after layout w old l) (backup_says layout w old l) reply new

module _ (layout : Layout) (trail : List Record) (outside : Outside) (old : BackupState) (new : Backup) (l : Line) where
  abbrev LineDone : Reply → Type 0
  LineDone reply = (lead : Backup) → DoneBy layout (around_by layout trail outside lead old) (backup_of old) l reply new

  pub delivered : {E : Type 0} (r : Result Reply E) (node : Node) (k : ℕ) → l ≡ line.Deliver node k →
      IfOk r (λ reply. IsDone (deliver_refusal (backup_of old) outside.message) (λ _. backup_of old) (after_all (backup_of old) (deliver_parts layout outside.message (backup_of old)))
      (λ x. x ≡ Number (after_all (backup_of old) (deliver_parts layout outside.message (backup_of old))).received) reply new) → IfOk r LineDone
  delivered (Ok reply) node k is h = λ lead. subst (λ (x : Line). DoneBy layout (around_by layout trail outside lead old) (backup_of old) x reply new) (sym is) h
  delivered (Err x) node k is h = tt

  pub fused : (reply : Reply) (node : Node) (disk calls : ℕ) (tear : Tear) → l ≡ line.Fuse node disk calls tear →
      ((w : Around) (node : Node) (calls : ℕ) (tear : Tear) → DoneBy layout w (backup_of old) (line.Fuse node disk calls tear) reply new) → LineDone reply
  fused reply node disk calls tear is h = λ lead. subst (λ (x : Line). DoneBy layout (around_by layout trail outside lead old) (backup_of old) x reply new) (sym is) (h (around_by layout trail outside lead old) node calls tear)

  pub cut_off : (reply : Reply) (node : Node) → l ≡ line.Cut node → ((w : Around) (node : Node) → DoneBy layout w (backup_of old) (line.Cut node) reply new) → LineDone reply
  cut_off reply node is h = λ lead. subst (λ (x : Line). DoneBy layout (around_by layout trail outside lead old) (backup_of old) x reply new) (sym is) (h (around_by layout trail outside lead old) node)

  pub restarted : (reply : Reply) (node : Node) → l ≡ line.Restart node → ((w : Around) (node : Node) → DoneBy layout w (backup_of old) (line.Restart node) reply new) → LineDone reply
  restarted reply node is h = λ lead. subst (λ (x : Line). DoneBy layout (around_by layout trail outside lead old) (backup_of old) x reply new) (sym is) (h (around_by layout trail outside lead old) node)
