-- Laws of the lines of a plan, one after another.
use Rattle.std.proofs.Common.{◌≡◌, ℕ, ◌+◌, ◌<◌, true, List, ◌∷◌, ◌++◌, length, take, drop, get_or, Option, sym, ap, ◌∙◌, subst, drop-cons, add-one}
use Rattle.std.proofs.lemmas.List.{take-append-drop}
use Rattle.rdf_types.specs.declared.records.Node.{Node}
use Rattle.plan_lang.specs.declared.lines.Line.{Line}
use Rattle.plan_lang.specs.Sessions.{fits_session, session_after, KeepSessions}

-- the lines before one, that one, and those behind it
pub cut_at : (lines : List Line) (i : ℕ) (l : Line) → i < length lines → l ≡ get_or lines i l → lines ≡ take i lines ++ l ∷ drop (i + 1) lines
cut_at lines i l lt is =
    sym (take-append-drop i lines)
    ∙ ap (λ (rest : List Line). take i lines ++ rest) (drop-cons lines i l lt)
    ∙ ap (λ n. take i lines ++ get_or lines i l ∷ drop n lines) (sym (add-one i))
    ∙ ap (λ (k : Line). take i lines ++ k ∷ drop (i + 1) lines) (sym is)

-- lines that keep to sessions do so from each line on
pub next_kept : (of : Option Node) (lines : List Line) (i : ℕ) (l : Line) → i < length lines → l ≡ get_or lines i l → KeepSessions of (drop i lines) →
    (fits_session of l ≡ true) × KeepSessions (session_after of l) (drop (i + 1) lines)
next_kept of lines i l lt is h = subst (λ (rest : List Line). KeepSessions of rest) rest_is h
  where
    rest_is : drop i lines ≡ l ∷ drop (i + 1) lines
    rest_is =
        drop-cons lines i l lt
        ∙ ap (λ n. get_or lines i l ∷ drop n lines) (sym (add-one i))
        ∙ ap (λ (k : Line). k ∷ drop (i + 1) lines) (sym is)
