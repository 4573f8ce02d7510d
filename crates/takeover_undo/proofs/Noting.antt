-- What is noted of the images of a part.
use Rattle.std.proofs.Common.{◌≡◌, ℕ, Bool, true, false, cond, ◌&&◌, List, Option, Some, None, refl, sym, ap, ◌∙◌, is_some}
use Rattle.std.specs.FinMap.{get, get-insert}
use Rattle.rdf_types.specs.declared.records.Record.{Record}
use Rattle.rdf_types.specs.declared.records.Record.TheVariants.{Image}
use Rattle.rdf_types.specs.declared.records.RecKey.{RecKey}
use Rattle.rdf_types.specs.Places.{same_place, same_place-is, place_cmp_total}
use Rattle.rdf_model.specs.Contents.{place}
use Rattle.active_txns.specs.Founds.{FirstBefore, noted}
use Rattle.active_txns.specs.FoundLaws.{noted_new, noted_same}
use Rattle.takeover_undo.specs.Firsts.{or_first, before_in, NotesImage}

-- ---- one image

abbrev pub Value : Type 0
Value = Option (List ℕ)

pub or_none : {X : Type 0} (o : Option X) → or_first o None ≡ o
or_none None = refl
or_none (Some x) = refl

noted_at : (m : FirstBefore) (k q : RecKey) (before : Value) → get (noted m k before) q ≡ or_first (get m q) (cond (same_place q k) (Some before) None)
noted_at m k q before =
    elim (get m k) as (λ o. get m k ≡ o → get (noted m k before) q ≡ or_first (get m q) (cond (same_place q k) (Some before) None)) [
      | None ↦ λ none.
          ap (λ (n : FirstBefore). get n q) (noted_new m k before (ap (λ (o : Option Value). is_some o) none)) ∙ get-insert place_cmp_total m k before q
          ∙ elim (same_place q k) as (λ b. same_place q k ≡ b → cond b (Some before) (get m q) ≡ or_first (get m q) (cond b (Some before) None)) [
            | true ↦ λ same. sym (ap (λ (o : Option Value). or_first o (Some before)) (ap (get m) (same_place-is q k same) ∙ none))
            | false ↦ λ other. sym (or_none (get m q))
          ] refl
      | Some x ↦ λ some.
          ap (λ (n : FirstBefore). get n q) (noted_same m k before (ap (λ (o : Option Value). is_some o) some))
          ∙ elim (same_place q k) as (λ b. same_place q k ≡ b → get m q ≡ or_first (get m q) (cond b (Some before) None)) [
            | true ↦ λ same. let here : get m q ≡ Some x = ap (get m) (same_place-is q k same) ∙ some in here ∙ sym (ap (λ (o : Option Value). or_first o (Some before)) here)
            | false ↦ λ other. sym (or_none (get m q))
          ] refl
    ] refl

-- a place of one volume is none of another
elsewhere_is : (vol : ℕ) (q k : RecKey) → k.vol ≡ vol → (q.vol ≡ vol → ⊥) → same_place q k ≡ false
elsewhere_is vol q k on other =
    elim (same_place q k) as (λ b. same_place q k ≡ b → b ≡ false) [
      | true ↦ λ same. absurd (other (ap (λ (p : RecKey). p.vol) (same_place-is q k same) ∙ on))
      | false ↦ λ e. refl
    ] refl

module _ (vol : ℕ) (who : ℕ → Bool) (rec : Record) (old : FirstBefore) where
  module _ (t on : ℕ) (f k : List ℕ) (before after : Value) (is : rec ≡ Image t on f k before after) where
    pub image_noted : (new : FirstBefore) → on ≡ vol → who t ≡ true → new ≡ noted old (place vol f k) before → NotesImage vol who rec old new
    image_noted new on_it runs done = record {
      here = λ q here.
          ap (λ (m : FirstBefore). get m q) done ∙ noted_at old (place vol f k) q before
          ∙ ap (λ (b : Bool). or_first (get old q) (cond b (Some before) None)) (ap (λ (v : ℕ). same_place q (place v f k)) (sym on_it) ∙ sym (ap (λ (b : Bool). b && same_place q (place on f k)) runs))
          ∙ sym (ap (λ (r : Record). or_first (get old q) (before_in who q r)) is);
      elsewhere = λ q other.
          ap (λ (m : FirstBefore). get m q) done ∙ noted_at old (place vol f k) q before
          ∙ ap (λ (b : Bool). or_first (get old q) (cond b (Some before) None)) (elsewhere_is vol q (place vol f k) refl other)
          ∙ or_none (get old q);
    }

-- no place is noted yet
pub empty_first : (o x : Option Value) → o ≡ None → or_first o x ≡ x
empty_first o x none = ap (λ (p : Option Value). or_first p x) none
