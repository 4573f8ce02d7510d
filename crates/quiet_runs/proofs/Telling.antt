-- What takeovers and copies are answered, by the lines before them and their replies alone.
use Rattle.std.proofs.Common.{◌≡◌, ℕ, ◌-◌, Bool, true, false, ◌||◌, nat_lt, List, if◌then◌else◌, refl, ap, ◌∙◌, subst, sym}
use Rattle.rdf_types.specs.declared.layout.Layout.{Layout}
use Rattle.rdf_types.specs.declared.records.Node.{Node}
use Rattle.plan_lang.specs.declared.lines.Line.{Line}
use Rattle.plan_lang.specs.declared.lines.Line.TheVariants as line
use Rattle.rdf_core.specs.declared.replies.NoWhy.TheVariants as no
use Rattle.rdf_core.specs.declared.replies.Reply.{Reply}
use Rattle.rdf_core.specs.declared.replies.Reply.TheVariants.{Number, No}
use Rattle.rdf_core.specs.Backup.{kept_of}
use Rattle.rdf_core.specs.Sessions.{is_backup_node}
use Rattle.by_node.specs.Each.{at}
use Rattle.rdf_core.specs.State.{State, blank}
use Rattle.rdf_core.specs.Agreement.{is_ok}
use Rattle.quiet_runs.specs.Quiet.{QuietFrom, QuietRun}
use Rattle.quiet_runs.specs.Answers.{IsUpAndTaken, IsAnswered, EachIsAnswered}
use Rattle.quiet_runs.specs.Told.{IsTakenBehind, is_purged, TakeoversAreOk, CopiesAreOk}
use Rattle.quiet_runs.proofs.Nodes.{up_told, taken_told}

-- the law of each line of a run
abbrev EachAnswers : Type 0
EachAnswers = (layout : Layout) (lines : List Line) (replies : List Reply) (start last : State) → QuietFrom layout start lines replies last → EachIsAnswered layout start lines replies last

pub takeovers_ok : EachAnswers → (layout : Layout) (lines : List Line) (replies : List Reply) (last : State) → QuietRun layout lines replies last → TakeoversAreOk lines replies
takeovers_ok each layout lines replies last r = λ before behind answered following node reply e f same b lost up.
    let a : IsAnswered layout (blank layout) before answered (line.Takeover node) reply behind following last =
    each layout lines replies (blank layout) last r before behind answered following (line.Takeover node) reply e f same in
    ap is_ok (a.takeover (a.lost lost) (up_told layout before answered a.step.old node a.step.came b ∙ up))

stands_taken : (layout : Layout) (before : List Line) (answered : List Reply) (old : State) (node : Node) → QuietRun layout before answered old → is_backup_node node ≡ true →
    IsTakenBehind node before answered → IsUpAndTaken (at old.backups node)
stands_taken layout before answered old node r b h = record {
  up = up_told layout before answered old node r b ∙ h.0;
  taken = taken_told layout before answered old node r b h.1;
}

ok_or_purged : (test : Bool) (x n : ℕ) (reply : Reply) → reply ≡ (if test then No (no.Purged x) else Number n) → (is_ok reply || is_purged reply) ≡ true
ok_or_purged true x n reply e = subst (λ (r : Reply). (is_ok r || is_purged r) ≡ true) (sym e) refl
ok_or_purged false x n reply e = subst (λ (r : Reply). (is_ok r || is_purged r) ≡ true) (sym e) refl

pub copies_ok : EachAnswers → (layout : Layout) (lines : List Line) (replies : List Reply) (last : State) → QuietRun layout lines replies last → CopiesAreOk lines replies
copies_ok each layout lines replies last r = λ before behind answered following node from reply e f same b c lag lead.
    let a : IsAnswered layout (blank layout) before answered (line.CopyAudit node from) reply behind following last =
    each layout lines replies (blank layout) last r before behind answered following (line.CopyAudit node from) reply e f same in
    ok_or_purged (nat_lt (at a.step.old.backups node).received (kept_of (at a.step.old.backups from))) (at a.step.old.backups node).received
    ((at a.step.old.backups from).received - (at a.step.old.backups node).received) reply
    (a.copy (stands_taken layout before answered a.step.old node a.step.came b lag) (stands_taken layout before answered a.step.old from a.step.came c lead))
