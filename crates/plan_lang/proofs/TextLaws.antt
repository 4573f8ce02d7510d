-- What the lines of a plan may be.
use Rattle.std.proofs.Common.{◌≡◌, ℕ, List, [], ◌∷◌, ◌++◌, Option, None, IsTrue, refl, subst}
use Rattle.std.specs.List.{AllByRecursion}
use Rattle.std.proofs.lemmas.List.Sums.{AllPass-from_list_all}
use Rattle.rdf_types.specs.declared.records.Node.{Node}
use Rattle.plan_lang.specs.declared.lines.Line.{Line}
use Rattle.plan_lang.specs.declared.lines.Plan.{Plan}
use Rattle.plan_lang.specs.Words.{spaced}
use Rattle.plan_lang.specs.LineText.{line_words, line_text, IsLine, is_printed, IsPrintedLine}
use Rattle.plan_lang.specs.Sessions.{fits_session, session_after, session_behind, KeepSessions}
use Rattle.plan_lang.specs.PlanText.{IsPlan}
use Rattle.plan_lang.proofs.Graphic.{line_graphic}
use Rattle.plan_lang.proofs.Shown.{seen_words}

pub is_printed_line : (backups : ℕ) (l : Line) → IsLine backups l → IsPrintedLine (line_text l)
is_printed_line backups l h = record {
  front = spaced (line_words l);
  parts = refl;
  printed = AllPass-from_list_all is_printed (spaced (line_words l)) (seen_words (line_words l) (line_graphic backups l h));
}

allowed_in : (backups : ℕ) (of : Option Node) (before after : List Line) (l : Line) → AllByRecursion (IsLine backups) (before ++ l ∷ after) → KeepSessions of (before ++ l ∷ after)
    → IsLine backups l × IsTrue (fits_session (session_behind of before) l)
allowed_in backups of [] after l fit sessions = (fit.0, sessions.0)
allowed_in backups of (k ∷ before) after l fit sessions = allowed_in backups (session_after of k) before after l fit.1 sessions.1

pub are_allowed : (plan : Plan) (before after : List Line) (l : Line) → IsPlan plan → plan.lines ≡ before ++ l ∷ after → IsLine plan.layout.backups l × IsTrue (fits_session (session_behind None before) l)
are_allowed plan before after l is e =
    allowed_in plan.layout.backups None before after l (subst (AllByRecursion (IsLine plan.layout.backups)) e is.lines) (subst (KeepSessions None) e is.sessions)
