use Rattle.std.proofs.Common.{ℕ, List, ◌∷◌, [], ◌++◌, decimal, ap, ◌∙◌, sym}
use Rattle.std.specs.Prelude.{codes}
use Rattle.rdf_core.specs.Text.{phase_words}
use Rattle.rdf_monitor.specs.Words.{with_words}
use Rattle.rdf_monitor.proofs.LineLaws.{text_line_is, with_words-append}
use Rattle.rdf_monitor.proofs.texts.backup_text.Goals as goal

pub returns : goal.returns
returns c =
    c.in_ok-end_line.ensures
    ∙ ap (λ l. l ++ 10 ∷ []) (c.in_ok-push_named-4.ensures
    ∙ ap (λ l. with_words l (codes "open" ∷ decimal c.from-2.result ∷ [])) (c.in_ok-push_named-3.ensures
    ∙ ap (λ l. with_words l (codes "generations" ∷ decimal c.from.result ∷ [])) (c.in_ok-push_named-2.ensures
    ∙ ap (λ l. with_words l (codes "kept" ∷ decimal c.args.kept ∷ [])) (c.in_ok-push_named.ensures
    ∙ ap (λ l. with_words l (codes "received" ∷ decimal c.args.received ∷ [])) (c.in_ok-push_phase.ensures
    ∙ ap (λ l. with_words l (phase_words c.args.phase)) c.in_ok-line.ensures.items)))))
    ∙ ap (λ n. ended n c.from-2.result) c.from.ensures ∙ ap (ended c.args.generations) c.from-2.ensures
    ∙ ap (λ l. l ++ 10 ∷ []) (sym (with_words-append (codes "ok up") (phase_words c.args.phase) (rest c.args.generations c.args.unended)))
    ∙ sym (text_line_is (codes "ok") (codes "up" ∷ phase_words c.args.phase ++ rest c.args.generations c.args.unended))
  where
    rest : ℕ → ℕ → List (List ℕ)
    rest g u = codes "received" ∷ decimal c.args.received ∷ codes "kept" ∷ decimal c.args.kept ∷ codes "generations" ∷ decimal g ∷ codes "open" ∷ decimal u ∷ []

    ended : ℕ → ℕ → List ℕ
    ended g u = with_words (with_words (codes "ok up") (phase_words c.args.phase)) (rest g u) ++ 10 ∷ []
