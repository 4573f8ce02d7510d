-- Replies that are noted one after the other.
use Rattle.std.specs.Prelude.{◌≡◌, List, [], ◌∷◌, ◌++◌}
use Rattle.std.proofs.Common.{sym, subst, append_assoc}
use Rattle.std.proofs.lemmas.List.{append-nil}
use Rattle.plan_lang.specs.declared.lines.Line.{Line}
use Rattle.rdf_core.specs.declared.replies.Reply.{Reply}
use Rattle.rdf_monitor.specs.Output.{Joins}
use Rattle.load_summary.specs.declared.tally.Tally.{Tally}
use Rattle.load_summary.specs.Tallies.{Tallies}
use Rattle.rdf_run.specs.Making.{noted}

tallies-same : (a b : List Line) (p q : List Reply) (t : Tally) → a ≡ b → p ≡ q → Tallies a p t → Tallies b q t
tallies-same a b p q t e f h = subst (λ (x : List Line). Tallies x q t) e (subst (λ (y : List Reply). Tallies a y t) f h)

-- nothing is noted yet
pub note_begins : (a : Tally) → (noted a a).whole [] []
note_begins a = λ first answers h. tallies-same first (first ++ []) answers (answers ++ []) a (sym (append-nil first)) (sym (append-nil answers)) h

-- notes, and one behind them
pub notes_join : (a b c : Tally) → Joins (noted a b) (noted b c) (noted a c)
notes_join a b c = record {
  whole = λ lines replies l reply p q. λ first answers h.
      tallies-same ((first ++ lines) ++ l ∷ []) (first ++ (lines ++ l ∷ [])) ((answers ++ replies) ++ reply ∷ []) (answers ++ (replies ++ reply ∷ [])) c (append_assoc first lines (l ∷ [])) (append_assoc answers replies (reply ∷ []))
      (q (first ++ lines) (answers ++ replies) (p first answers h));
  part = λ lines replies l reply p q. q;
  none = λ lines replies p e. λ first answers h. subst (λ (t : Tally). Tallies (first ++ lines) (answers ++ replies) t) (sym e) (p first answers h);
}
