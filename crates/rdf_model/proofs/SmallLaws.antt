-- Prefixes of a legal trail, the bound of the low position, undo place by place, and the images of one volume.
use Rattle.std.proofs.Common.{◌≡◌, ℕ, true, false, cond, ◌==◌, ◌⊎◌, inl, List, [], ◌∷◌, ◌++◌, Option, Some, refl, sym, ap, ◌∙◌, subst}
use Rattle.std.proofs.lemmas.Bool.{eq-eqb}
use Rattle.rdf_types.specs.declared.records.Record.{Record}
use Rattle.rdf_types.specs.declared.records.Record.TheVariants.{Image, Commit, Abort}
use Rattle.rdf_types.specs.declared.records.RecKey.{RecKey}
use Rattle.rdf_types.specs.Places.{same_place, same_place-is}
use Rattle.rdf_model.specs.Contents.{Contents, nothing, with_value, place}
use Rattle.rdf_model.specs.Trail.{raw, undo}
use Rattle.rdf_model.specs.Legal.{CanFollow, Legal}
use Rattle.rdf_model.specs.Window.{images_on, IsHalfUndone}
use Rattle.rdf_model.specs.LegalLaws.{legal_more}
use Rattle.rdf_model.specs.RedoLaws.{raw-local}

pub follower_is_legal : (base : Contents) (trail : List Record) (r : Record) → Legal base trail → CanFollow base trail r → Legal base (trail ++ r ∷ [])
follower_is_legal base trail r legal follows = legal_more base [] trail r legal follows

-- what shows what stands after the trail is half undone, with nothing undone so far
pub half_undone_first : (vol : ℕ) (trail : List Record) (files : Contents) → ((q : RecKey) → q.vol ≡ vol → files q ≡ raw nothing trail q) → IsHalfUndone vol trail files
half_undone_first vol trail files shows q on = inl (shows q on)

-- one more place undone, or put back
pub half_undone_next : (vol : ℕ) (trail : List Record) (files : Contents) (k : RecKey) (value : Option (List ℕ)) → IsHalfUndone vol trail files →
    (value ≡ raw nothing trail k) ⊎ (undo trail k ≡ Some value) → IsHalfUndone vol trail (with_value files k value)
half_undone_next vol trail files k value half is q on =
    elim (same_place q k) as (λ m. same_place q k ≡ m → (cond m value (files q) ≡ raw nothing trail q) ⊎ (undo trail q ≡ Some (cond m value (files q)))) [
      | true ↦ λ s. subst (λ n. (value ≡ raw nothing trail n) ⊎ (undo trail n ≡ Some value)) (sym (same_place-is q k s)) is
      | false ↦ λ s. half q on
    ] refl

elsewhere : (vol : ℕ) (q k : RecKey) → q.vol ≡ vol → (k.vol == vol) ≡ false → same_place q k ≡ false
elsewhere vol q k on e =
    elim (same_place q k) as (λ s. same_place q k ≡ s → s ≡ false) [
      | true ↦ λ s. let here : (k.vol == vol) ≡ true = eq-eqb k.vol vol (ap (λ (p : RecKey). p.vol) (sym (same_place-is q k s)) ∙ on) in cc
      | false ↦ λ s. refl
    ] refl

-- at a place of the volume only the volume's images count
pub own_images : (vol : ℕ) (files : Contents) (trail : List Record) (q : RecKey) → q.vol ≡ vol → raw files (images_on vol trail) q ≡ raw files trail q
own_images vol files [] q on = refl
own_images vol files (Commit t ∷ rest) q on = own_images vol files rest q on
own_images vol files (Abort t ∷ rest) q on = own_images vol files rest q on
own_images vol files (Image t v f k b a ∷ rest) q on =
    elim (v == vol) as (λ m. (v == vol) ≡ m → raw files (cond m (Image t v f k b a ∷ images_on vol rest) (images_on vol rest)) q ≡ raw (with_value files (place v f k) a) rest q) [
      | true ↦ λ s. own_images vol (with_value files (place v f k) a) rest q on
      | false ↦ λ s. own_images vol files rest q on
          ∙ raw-local files (with_value files (place v f k) a) q rest (ap (λ m. cond m a (files q)) (sym (elsewhere vol q (place v f k) on s)))
    ] refl
