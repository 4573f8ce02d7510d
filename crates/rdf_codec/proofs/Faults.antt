-- Where a reader of fields finds a fault.
use Rattle.std.proofs.Common.{◌≡◌, ℕ, ◌+◌, ◌<◌, Bool, not, ◌||◌, cond, eqb, ltb, List, [], ◌∷◌, length, get_or, take, drop, Option, Some, None, Result, Ok, Err, refl, ap, subst, arith, inl, inr, ◌⊎◌}
use Rattle.std.specs.Prelude.{position}
use Rattle.std.specs.Int.{Width, byte_len, from_be_bytes}
use Rattle.std.proofs.lemmas.List.{length-append}
use Rattle.std.proofs.lemmas.List.Quantifiers.{position-Some}
use Rattle.rdf_types.specs.Limits.{is_text_byte}
use Rattle.rdf_codec.specs.declared.fault.CodecFault.{CodecFault}
use Rattle.rdf_codec.specs.declared.fault.CodecFault.TheVariants.{Truncated, BadKind, BadNumber, BadByte, Extra, NoMemory}
use Rattle.rdf_codec.specs.Reading.{Rest, ◌>>=◌, bytes_at, byte_at, number_at, volume_at, judged, sized_at, text_at, value_at, present_at, optional_at}
use Rattle.rdf_codec.proofs.Fields.{IsBytes, chosen, placed, Took, IsField, is_byte}
use Rattle.rdf_codec.proofs.Texts.{sized_takes}

-- the end of the input
abbrev pub end : Rest → ℕ
end i = i.at + length i.bytes

-- a fault that a reader finds
abbrev pub Placed : ℕ → CodecFault → Type 0
Placed at_end (Truncated at) = at ≡ at_end
Placed at_end (BadKind at) = at < at_end
Placed at_end (BadNumber at) = at < at_end
Placed at_end (BadByte at) = at < at_end
Placed at_end (Extra at) = ⊥
Placed at_end NoMemory = ⊥

abbrev pub Placing : {X : Type 0} → (Rest → Result (X × Rest) CodecFault) → Type 0
Placing read = (i : Rest) (e : CodecFault) → IsBytes i.bytes → read i ≡ Err e → Placed (end i) e

pub end_same : (i : Rest) (s : List ℕ) (r : Rest) → Took i s r → end r ≡ end i
end_same i s r t = omega (arith, t.place, ap length t.parts, length-append s r.bytes)

pub fault_is : {A : Type 0} (d e : CodecFault) (r : Result A CodecFault) → r ≡ Err d → r ≡ Err e → d ≡ e
fault_is d e r p q = cc

pub not_both : {A : Type 0} (x : A) (e : CodecFault) (r : Result A CodecFault) → r ≡ Ok x → r ≡ Err e → ⊥
not_both x e r p q = cc

pub bind_err : {A B : Type 0} (r : Result A CodecFault) (f : A → Result B CodecFault) (e : CodecFault) → (r >>= f) ≡ Err e → (r ≡ Err e) ⊎ ((x : A) × (r ≡ Ok x) × (f x ≡ Err e))
bind_err (Ok x) f e h = inr (x, refl, h)
bind_err (Err d) f e h = inl (let g : d ≡ e = cc in ap Err g)

-- a field, and what is read behind it
pub then_placed : {X B : Type 0} (read : Rest → Result (X × Rest) CodecFault) (spelling : X → List ℕ) (Fits : X → Type 0) → IsField read spelling Fits → Placing read
    → (f : X × Rest → Result B CodecFault) (i : Rest) (e : CodecFault) → IsBytes i.bytes
    → ((x : X × Rest) → Took i (spelling x.0) x.1 → f x ≡ Err e → Placed (end i) e) → (read i >>= f) ≡ Err e → Placed (end i) e
then_placed read spelling Fits field placing f i e fits behind h =
    elim (bind_err (read i) f e h) [
      | inl w ↦ placing i e fits w
      | inr w ↦ behind w.0 (field.takes i w.0 fits w.1).0 w.2
    ]

-- what is read behind a part that was taken
pub behind_placed : (i : Rest) (s : List ℕ) (r : Rest) (e : CodecFault) → Took i s r → Placed (end r) e → Placed (end i) e
behind_placed i s r e t p = subst (λ (n : ℕ). Placed n e) (end_same i s r t) p

pub bytes_placed : (n : ℕ) → Placing (bytes_at n)
bytes_placed n i e fits h =
    let made : List ℕ × Rest = (take n i.bytes, placed (i.at + n) (drop n i.bytes)) in
    elim (chosen (ltb (length i.bytes) n) (Err (Truncated (end i))) (Ok made) (Err e) h) [
      | inl w ↦ subst (Placed (end i)) (fault_is (Truncated (end i)) e _ refl w.1) refl
      | inr w ↦ absurd (not_both made e _ refl w.1)
    ]

-- a reader that only makes something of a field
pub made_placed : {X Y : Type 0} (r : Result X CodecFault) (make : X → Y) (e : CodecFault) (at_end : ℕ) → (r ≡ Err e → Placed at_end e) → (r >>= λ x. Ok (make x)) ≡ Err e → Placed at_end e
made_placed {X = X} {Y = Y} r make e at_end known h =
    elim (bind_err r (λ x. Ok (make x)) e h) [
      | inl w ↦ known w
      | inr w ↦ absurd (not_both (make w.0) e _ refl w.2)
    ]

pub byte_placed : Placing byte_at
byte_placed i e fits h = made_placed (bytes_at 1 i) (λ field. (get_or field.0 0 0, field.1)) e (end i) (bytes_placed 1 i e fits) h

pub number_placed : (w : Width) → Placing (number_at w)
number_placed w i e fits h = made_placed (bytes_at (byte_len w) i) (λ field. (from_be_bytes w field.0, field.1)) e (end i) (bytes_placed (byte_len w) i e fits) h

-- a byte that was taken stands before the end
pub first_before : (i : Rest) (b : ℕ) (r : Rest) → Took i (b ∷ []) r → i.at < end i
first_before i b r t = omega (arith, ap length t.parts)

pub volume_placed : Placing volume_at
unfolding volume_at
volume_placed i e fits h =
    then_placed byte_at (λ b. b ∷ []) (λ b. b < 256) is_byte byte_placed (λ vol. cond (ltb vol.0 16) (Ok vol) (Err (BadNumber i.at))) i e fits
    (λ x took g. elim (chosen (ltb x.0 16) (Ok x) (Err (BadNumber i.at)) (Err e) g) [
      | inl w ↦ absurd (not_both x e _ refl w.1)
      | inr w ↦ subst (Placed (end i)) (fault_is (BadNumber i.at) e (Err (BadNumber i.at)) refl w.1) (first_before i x.0 x.1 took)
    ])
    h

pub sized_placed : (limit : ℕ) → Placing (sized_at limit)
unfolding sized_at
sized_placed limit i e fits h =
    then_placed byte_at (λ b. b ∷ []) (λ b. b < 256) is_byte byte_placed (λ len. cond ((eqb len.0 0) || ltb limit len.0) (Err (BadNumber i.at)) (bytes_at len.0 len.1)) i e fits
    (λ x took g. elim (chosen ((eqb x.0 0) || ltb limit x.0) (Err (BadNumber i.at)) (bytes_at x.0 x.1) (Err e) g) [
      | inl w ↦ subst (Placed (end i)) (fault_is (BadNumber i.at) e _ refl w.1) (first_before i x.0 x.1 took)
      | inr w ↦ behind_placed i (x.0 ∷ []) x.1 e took (bytes_placed x.0 x.1 e took.fits w.1)
    ])
    h

pub judged_err : {X : Type 0} (at : ℕ) (bad : Option ℕ) (field : X) (e : CodecFault) → judged at bad field ≡ Err e → (n : ℕ) × (bad ≡ Some n) × (BadByte (at + n) ≡ e)
judged_err at None field e h = absurd (not_both field e _ refl h)
judged_err {X = X} at (Some n) field e h = let none : Result X CodecFault = Err (BadByte (at + n)) in (n, refl, fault_is (BadByte (at + n)) e none refl h)

pub text_placed : (class : ℕ → Bool) (limit : ℕ) → Placing (text_at class limit)
unfolding text_at
text_placed class limit i e fits h =
    elim (bind_err (sized_at limit i) (λ field. judged (i.at + 1) (position (λ b. not (class b)) field.0) field) e h) [
      | inl w ↦ sized_placed limit i e fits w
      | inr w ↦
          let took = (sized_takes limit i w.0 fits w.1).0 in
          let bad = judged_err (i.at + 1) (position (λ b. not (class b)) w.0.0) w.0 e w.2 in
          let within : bad.0 < length w.0.0 = (position-Some (λ b. not (class b)) w.0.0 bad.0 0 bad.1).0 in
          let before : i.at + 1 + bad.0 < end i = omega (arith, ap length took.parts, length-append w.0.0 w.0.1.bytes, within) in
          subst (Placed (end i)) bad.2 before
    ]

pub present_placed : Placing present_at
present_placed i e fits h = made_placed (value_at i) (λ value. (Some value.0, value.1)) e (end i) (text_placed is_text_byte 200 i e fits) h

pub optional_placed : Placing optional_at
unfolding optional_at
optional_placed i e fits h =
    then_placed byte_at (λ b. b ∷ []) (λ b. b < 256) is_byte byte_placed (λ tag. cond (eqb tag.0 0) (Ok (None, tag.1)) (cond (eqb tag.0 1) (present_at tag.1) (Err (BadKind i.at)))) i e fits
    (λ x took g. let made : Option (List ℕ) × Rest = (None, x.1) in
    elim (chosen (eqb x.0 0) (Ok made) (cond (eqb x.0 1) (present_at x.1) (Err (BadKind i.at))) (Err e) g) [
      | inl w ↦ absurd (not_both made e _ refl w.1)
      | inr w ↦ elim (chosen (eqb x.0 1) (present_at x.1) (Err (BadKind i.at)) (Err e) w.1) [
        | inl v ↦ behind_placed i (x.0 ∷ []) x.1 e took (present_placed x.1 e took.fits v.1)
        | inr v ↦ let bad : Result (Option (List ℕ) × Rest) CodecFault = Err (BadKind i.at) in subst (Placed (end i)) (fault_is (BadKind i.at) e bad refl v.1) (first_before i x.0 x.1 took)
      ]
    ])
    h

-- a field, and what is read behind it by its own place
pub next_placed : {X B : Type 0} (read : Rest → Result (X × Rest) CodecFault) (spelling : X → List ℕ) (Fits : X → Type 0) → IsField read spelling Fits → Placing read
    → (f : X × Rest → Result B CodecFault) (i : Rest) (e : CodecFault) → IsBytes i.bytes
    → ((x : X × Rest) → IsBytes x.1.bytes → f x ≡ Err e → Placed (end x.1) e) → (read i >>= f) ≡ Err e → Placed (end i) e
next_placed read spelling Fits field placing f i e fits behind h =
    then_placed read spelling Fits field placing f i e fits (λ x took g. behind_placed i (spelling x.0) x.1 e took (behind x took.fits g)) h
