-- Images that are set back, the last one first.
use Rattle.std.proofs.Common.{◌≡◌, ℕ, ◌+◌, ◌<◌, Bool, true, false, not, cond, List, length, get_or, drop, Option, Some, unwrap_or, refl, sym, ap, ◌∙◌}
use Rattle.rdf_types.specs.declared.records.Record.{Record}
use Rattle.rdf_types.specs.declared.records.RecKey.{RecKey}
use Rattle.rdf_model.specs.Contents.{Contents}
use Rattle.rdf_model.specs.Settled.{set_back}
use Rattle.rdf_model.specs.Trail.{is_ended, is_change, before_of, committed, first_before, raw, undo}
use Rattle.rdf_model.proofs.Turns.{left_more}

set_back_one : (b : Bool) (before at : Option (List ℕ)) (rest : Option (Option (List ℕ))) → cond b before (unwrap_or rest at) ≡ unwrap_or (cond b (Some before) rest) at
set_back_one true before at rest = refl
set_back_one false before at rest = refl

-- one image more is set back
pub back_turn : (who : ℕ → Bool) (q : RecKey) (xs : List Record) (n i : ℕ) (x : Record) (start old new : Contents) → n ≡ i + 1 → i < length xs → x ≡ get_or xs i x →
    old q ≡ unwrap_or (first_before who q (drop n xs)) (start q) → new ≡ set_back who x old → new q ≡ unwrap_or (first_before who q (drop i xs)) (start q)
back_turn who q xs n i x start old new at h e before is =
    ap (λ (f : Contents). f q) is ∙ ap (λ (v : Option (List ℕ)). cond (is_change who q x) (before_of x) v) (before ∙ ap (λ (m : ℕ). unwrap_or (first_before who q (drop m xs)) (start q)) at)
    ∙ set_back_one (is_change who q x) (before_of x) (start q) (first_before who q (drop (i + 1) xs))
    ∙ sym (ap (λ (l : List Record). unwrap_or (first_before who q l) (start q)) (left_more xs i x h e))

-- what stands after the trail, with all images of transactions without outcome set back, is what was committed
pub settles : (base first new : Contents) (trail : List Record) (has : ℕ → Bool) → ((q : RecKey) → unwrap_or (undo trail q) (raw base trail q) ≡ committed base trail q) →
    first ≡ raw base trail → ((t : ℕ) → has t ≡ is_ended t trail) → ((q : RecKey) → new q ≡ unwrap_or (first_before (λ t. not (has t)) q trail) (first q)) → new ≡ committed base trail
settles base first new trail has settle after same back = λ i q. (back q ∙ (λ j. unwrap_or (first_before (λ t. not (same t j)) q trail) (after j q)) ∙ settle q) i
