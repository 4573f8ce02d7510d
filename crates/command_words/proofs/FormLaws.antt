-- Lists of words of a length that no form has.
use Rattle.std.proofs.Common.{◌≡◌, ◌≢◌, List, [], ◌∷◌, length, map, string_bytes, None, refl, String, Global}
use Rattle.command_words.specs.Forms.{words_in}

-- words that are neither one nor three
pub no_form : (ws : List (String Global)) → length ws ≢ 1 → length ws ≢ 3 → words_in (map string_bytes ws) ≡ None
no_form [] one three = refl
no_form (w ∷ []) one three = absurd (one refl)
no_form (w ∷ v ∷ []) one three = refl
no_form (w ∷ v ∷ u ∷ []) one three = absurd (three refl)
no_form (w ∷ v ∷ u ∷ t ∷ more) one three = refl
