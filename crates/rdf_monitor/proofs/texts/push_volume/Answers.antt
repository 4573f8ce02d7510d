use Rattle.std.proofs.Common.{ℕ, List, ◌∷◌, [], ◌++◌, decimal, ap, ◌∙◌}
use Rattle.std.specs.Prelude.{codes}
use Rattle.plan_lang.specs.Words.{text_line}
use Rattle.rdf_monitor.specs.Words.{with_words}
use Rattle.rdf_monitor.proofs.LineLaws.{line_behind}
use Rattle.rdf_monitor.proofs.texts.push_volume.Goals as goal

pub returns : goal.returns
returns c =
    c.in_ok-end_line.ensures
    ∙ ap (λ l. l ++ 10 ∷ []) (c.in_ok-push_named-2.ensures
    ∙ ap (λ l. with_words l (codes "at" ∷ decimal c.args.volume.now.at ∷ [])) (c.in_ok-push_word-2.ensures
    ∙ ap (λ l. l ++ 32 ∷ c.flag_word.result.now) (c.in_ok-push_word.ensures
    ∙ ap (λ l. l ++ 32 ∷ codes "protected") (c.in_ok-push_named.ensures
    ∙ ap (λ l. with_words l (codes "trail" ∷ decimal c.from.result ∷ [])) (c.in_ok-push_number.ensures
    ∙ ap (λ l. l ++ 32 ∷ decimal c.args.number) c.in_ok-extend_from_slice.ensures.items)))))
    ∙ line_behind c.args.lines.now.items (codes "volume") (decimal c.args.number ∷ codes "trail" ∷ decimal c.from.result ∷ codes "protected" ∷ c.flag_word.result.now ∷ codes "at" ∷ decimal c.args.volume.now.at ∷ [])
    ∙ ap (λ n. with_flag n c.flag_word.result.now) c.from.ensures
    ∙ ap (with_flag c.args.volume.now.trail) c.flag_word.ensures
  where
    with_flag : ℕ → List ℕ → List ℕ
    with_flag n f = c.args.lines.now.items ++ text_line (codes "volume" ∷ decimal c.args.number ∷ codes "trail" ∷ decimal n ∷ codes "protected" ∷ f ∷ codes "at" ∷ decimal c.args.volume.now.at ∷ [])
