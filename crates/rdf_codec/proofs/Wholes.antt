-- Readers of a whole input.
use Rattle.std.proofs.Common.{◌≡◌, ℕ, ◌+◌, ◌<◌, eqb, List, [], ◌++◌, length, Result, Ok, Err, refl, sym, ap, subst, ◌∙◌, append-nil, arith, inl, inr, ◌⊎◌}
use Rattle.std.specs.Prelude.{IfOk, IfErr, MatchResult}
use Rattle.std.proofs.lemmas.Bool.{eqb-true, eqb-false}
use Rattle.std.proofs.lemmas.List.{length-append, nil_from_length}
use Rattle.rdf_codec.specs.declared.fault.CodecFault.{CodecFault}
use Rattle.rdf_codec.specs.declared.fault.CodecFault.TheVariants.{Truncated, BadKind, BadNumber, BadByte, Extra, NoMemory}
use Rattle.rdf_codec.specs.Reading.{Rest, IsAnswer, IsPlacedWithin}
use Rattle.rdf_codec.specs.Lists.{alone, whole}
use Rattle.rdf_codec.proofs.Fields.{IsBytes, chosen, ok_is, placed}
use Rattle.rdf_codec.proofs.Faults.{Placed, fault_is, not_both}
use Rattle.rdf_codec.proofs.Formats.{IsRead}

-- a value is what its spelling reads as, and each fault is in its place
pub record IsWhole {X : Type 0} (of : List ℕ → Result X CodecFault) (spelling : X → List ℕ) (Fits : X → Type 0) : Type 0 where
  pub takes : (bytes : List ℕ) (x : X) → IsBytes bytes → of bytes ≡ Ok x → Fits x × (bytes ≡ spelling x)
  pub again : (x : X) → Fits x → of (spelling x) ≡ Ok x
  pub placing : (bytes : List ℕ) (e : CodecFault) → IsBytes bytes → of bytes ≡ Err e → IsPlacedWithin bytes e

alone_ok : {X : Type 0} (r : Result (X × Rest) CodecFault) (x : X) → alone r ≡ Ok x → (y : X × Rest) × (r ≡ Ok y) × (y.1.bytes ≡ []) × (y.0 ≡ x)
alone_ok (Ok y) x e =
    elim (chosen (eqb (length y.1.bytes) 0) (Ok y.0) (Err (Extra y.1.at)) (Ok x) e) [
      | inl w ↦ (y, refl, nil_from_length y.1.bytes (eqb-true _ _ w.0), ok_is y.0 x w.1)
      | inr w ↦ absurd (not_both x (Extra y.1.at) _ refl (sym w.1))
    ]
alone_ok (Err d) x e = absurd (not_both x d _ refl (sym e))

alone_err : {X : Type 0} (r : Result (X × Rest) CodecFault) (e : CodecFault) → alone r ≡ Err e → (r ≡ Err e) ⊎ ((y : X × Rest) × (r ≡ Ok y) × (0 < length y.1.bytes) × (Extra y.1.at ≡ e))
alone_err {X = X} (Ok y) e h =
    elim (chosen (eqb (length y.1.bytes) 0) (Ok y.0) (Err (Extra y.1.at)) (Err e) h) [
      | inl w ↦ absurd (not_both y.0 e _ refl w.1)
      | inr w ↦
          let some : length y.1.bytes ≡ 0 → ⊥ = eqb-false _ _ w.0 in
          let bad : Result X CodecFault = Err (Extra y.1.at) in
          inr (y, refl, omega (arith, some), fault_is (Extra y.1.at) e bad refl w.1)
    ]
alone_err {X = X} (Err d) e h = let bad : Result X CodecFault = Err d in inl (ap Err (fault_is d e bad refl h))

pub placed_within : (bytes : List ℕ) (e : CodecFault) → Placed (0 + length bytes) e → IsPlacedWithin bytes e
placed_within bytes (Truncated at) h = omega (arith, h)
placed_within bytes (BadKind at) h = omega (arith, h)
placed_within bytes (BadNumber at) h = omega (arith, h)
placed_within bytes (BadByte at) h = omega (arith, h)
placed_within bytes (Extra at) h = absurd h
placed_within bytes NoMemory h = tt

module _ {X : Type 0} (read : Rest → Result (X × Rest) CodecFault) (spelling : X → List ℕ) (Fits : X → Type 0) (is : IsRead read spelling Fits) where
  whole_takes : (bytes : List ℕ) (x : X) → IsBytes bytes → whole read bytes ≡ Ok x → Fits x × (bytes ≡ spelling x)
  whole_takes bytes x fits e =
      let a = alone_ok (read (placed 0 bytes)) x e in
      let t = is.field.takes (placed 0 bytes) a.0 fits a.1 in
      let all : bytes ≡ spelling a.0.0 = t.0.parts ∙ ap (λ (s : List ℕ). spelling a.0.0 ++ s) a.2 ∙ append-nil (spelling a.0.0) in
      subst (λ (y : X). Fits y × (bytes ≡ spelling y)) a.3 (t.1, all)

  whole_again : (x : X) → Fits x → whole read (spelling x) ≡ Ok x
  whole_again x fit =
      ap (λ (s : List ℕ). whole read s) (sym (append-nil (spelling x))) ∙ ap alone (is.field.again x 0 [] fit)

  whole_placed : (bytes : List ℕ) (e : CodecFault) → IsBytes bytes → whole read bytes ≡ Err e → IsPlacedWithin bytes e
  whole_placed bytes e fits h =
      elim (alone_err (read (placed 0 bytes)) e h) [
        | inl w ↦ placed_within bytes e (is.placing (placed 0 bytes) e fits w)
        | inr w ↦
            let t = (is.field.takes (placed 0 bytes) w.0 fits w.1).0 in
            let before : w.0.1.at < length bytes = omega (arith, t.place, ap length t.parts, length-append (spelling w.0.0) w.0.1.bytes, w.2) in
            subst (IsPlacedWithin bytes) w.3 before
      ]

  pub read_whole : IsWhole (whole read) spelling Fits
  read_whole = record { takes = whole_takes; again = whole_again; placing = whole_placed }

-- ---- what a call that answers by such a reader gives

module _ {X : Type 0} (of : List ℕ → Result X CodecFault) (spelling : X → List ℕ) (Fits : X → Type 0) (is : IsWhole of spelling Fits) where
  found_in : (bytes : List ℕ) (given r : Result X CodecFault) → IsBytes bytes → of bytes ≡ given → IsAnswer given r → IfOk r (λ x. Fits x × (bytes ≡ spelling x))
  found_in bytes (Ok x) (Ok y) fits e a = subst (λ (z : X). Fits z × (bytes ≡ spelling z)) (sym a) (is.takes bytes x fits e)
  found_in bytes (Ok x) (Err d) fits e a = tt
  found_in bytes (Err d) (Ok y) fits e a = absurd (not_both y d _ refl a)
  found_in bytes (Err d) (Err f) fits e a = tt

  -- what was read is spelled so
  pub is_found : (bytes : List ℕ) (r : Result X CodecFault) → IsBytes bytes → IsAnswer (of bytes) r → IfOk r (λ x. Fits x × (bytes ≡ spelling x))
  is_found bytes r fits a = found_in bytes (of bytes) r fits refl a

  -- what is spelled so is read, unless memory runs out
  pub is_read : (bytes : List ℕ) (r : Result X CodecFault) → IsAnswer (of bytes) r → (x : X) → Fits x → bytes ≡ spelling x → MatchResult r (λ y. y ≡ x) (λ e. e ≡ NoMemory)
  is_read bytes r a x fit e = subst (λ (t : Result X CodecFault). IsAnswer t r) (ap of e ∙ is.again x fit) a

  placed_in : (bytes : List ℕ) (given r : Result X CodecFault) → IsBytes bytes → of bytes ≡ given → IsAnswer given r → IfErr r (IsPlacedWithin bytes)
  placed_in bytes (Ok x) (Ok y) fits e a = tt
  placed_in bytes (Ok x) (Err d) fits e a = subst (IsPlacedWithin bytes) (sym a) tt
  placed_in bytes (Err d) (Ok y) fits e a = tt
  placed_in bytes (Err d) (Err f) fits e a = is.placing bytes f fits (e ∙ sym a)

  -- a fault is in its place
  pub is_placed : (bytes : List ℕ) (r : Result X CodecFault) → IsBytes bytes → IsAnswer (of bytes) r → IfErr r (IsPlacedWithin bytes)
  is_placed bytes r fits a = placed_in bytes (of bytes) r fits refl a
