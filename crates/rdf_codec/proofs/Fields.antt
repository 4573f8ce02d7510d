-- What a field took from the front of an input is its spelling, and what is spelled so is taken, whatever follows.
use Rattle.std.proofs.Common.{◌≡◌, ℕ, ◌+◌, ◌^◌, ◌<◌, ◌≤◌, Bool, true, false, cond, ltb, List, [], ◌∷◌, ◌++◌, length, get_or, take, drop, Result, Ok, Err, refl, sym, ap, subst, ◌∙◌, append_assoc, arith, inl, inr, ◌⊎◌}
use Rattle.std.specs.Int.{Width, w16, w32, w64, byte_len, from_be_bytes, to_be_bytes}
use Rattle.std.proofs.lemmas.Bool.{cases_lt, ltb-false, ltb-true, le-ltb, lt-ltb}
use Rattle.std.proofs.lemmas.List.{take_at, drop_at, take-append-drop, length-append, length-take, get_or-drop, get_or-take, get_or_past}
use Rattle.std.proofs.lemmas.Nat.{be_bytes_2, be_bytes_4, be_bytes_8, from_be_bytes-to_be_bytes_2, from_be_bytes-to_be_bytes_4, from_be_bytes-to_be_bytes_8}
use Rattle.rdf_codec.specs.declared.fault.CodecFault.{CodecFault}
use Rattle.rdf_codec.specs.declared.fault.CodecFault.TheVariants.{Truncated, BadNumber}
use Rattle.rdf_codec.specs.Reading.{Rest, ◌>>=◌, bytes_at, byte_at, number_at, volume_at}

abbrev pub IsBytes : List ℕ → Type 0
IsBytes bytes = (i : ℕ) → get_or bytes i 0 < 256

pub IsBytes-drop : (n : ℕ) (bytes : List ℕ) → IsBytes bytes → IsBytes (drop n bytes)
IsBytes-drop n bytes h i = rw get_or-drop (h (n + i))

IsBytes-take : (n : ℕ) (bytes : List ℕ) → IsBytes bytes → IsBytes (take n bytes)
IsBytes-take n bytes h i =
    elim (cases_lt i n) [
      | inl lt ↦ rw (get_or-take n bytes i 0 lt) (h i)
      | inr le ↦ rw (get_or_past (take n bytes) i 0 (omega (arith, length-take n bytes))) (omega arith)
    ]

-- the value of a step that did not fail
pub bind_ok : {A B : Type 0} (r : Result A CodecFault) (f : A → Result B CodecFault) (y : B) → (r >>= f) ≡ Ok y → (x : A) × (r ≡ Ok x) × (f x ≡ Ok y)
bind_ok (Ok x) f y e = (x, refl, e)
bind_ok (Err d) f y e = absurd cc

-- which way a test went
pub chosen : {A : Type 0} (b : Bool) (x y z : A) → cond b x y ≡ z → ((b ≡ true) × (x ≡ z)) ⊎ ((b ≡ false) × (y ≡ z))
chosen true x y z e = inl (refl, e)
chosen false x y z e = inr (refl, e)

-- a test that did not fail
pub passed : {A : Type 0} (b : Bool) (d : CodecFault) (r : Result A CodecFault) (y : A) → cond b (Err d) r ≡ Ok y → (b ≡ false) × (r ≡ Ok y)
passed true d r y e = absurd cc
passed false d r y e = (refl, e)

abbrev done : {A : Type 0} → A → Result A CodecFault
done x = Ok x

pub ok_is : {A : Type 0} (x y : A) → done x ≡ done y → x ≡ y
ok_is x y e = cc

abbrev pub placed : ℕ → List ℕ → Rest
placed at bytes = record { at = at; bytes = bytes }

-- a spelling was taken from the front
pub record Took (i : Rest) (spelling : List ℕ) (rest : Rest) : Type 0 where
  pub parts : i.bytes ≡ spelling ++ rest.bytes
  pub place : rest.at ≡ i.at + length spelling
  pub fits : IsBytes rest.bytes

pub Took-then : (a : Rest) (x : List ℕ) (b : Rest) (y : List ℕ) (c : Rest) → Took a x b → Took b y c → Took a (x ++ y) c
Took-then a x b y c p q = record {
  parts = p.parts ∙ ap (λ (t : List ℕ). x ++ t) q.parts ∙ sym (append_assoc x y c.bytes);
  place = omega (arith, p.place, q.place, length-append x y);
  fits = q.fits;
}

-- a reader of values that have one spelling each
pub record IsField {X : Type 0} (read : Rest → Result (X × Rest) CodecFault) (spelling : X → List ℕ) (Fits : X → Type 0) : Type 0 where
  pub takes : (i : Rest) (x : X × Rest) → IsBytes i.bytes → read i ≡ Ok x → Took i (spelling x.0) x.1 × Fits x.0
  pub again : (x : X) (at : ℕ) (more : List ℕ) → Fits x → read (placed at (spelling x ++ more)) ≡ Ok (x, placed (at + length (spelling x)) more)

-- no spelling begins another one
pub no_other : {X : Type 0} (read : Rest → Result (X × Rest) CodecFault) (spelling : X → List ℕ) (Fits : X → Type 0) → IsField read spelling Fits → (x y : X) (a b : List ℕ) → Fits x → Fits y
    → spelling x ++ a ≡ spelling y ++ b → (x ≡ y) × (a ≡ b)
no_other {X = X} read spelling Fits field x y a b p q e =
    let one = sym (field.again x 0 a p) ∙ ap (λ (t : List ℕ). read (placed 0 t)) e ∙ field.again y 0 b q in
    let same = ok_is (x, placed (0 + length (spelling x)) a) (y, placed (0 + length (spelling y)) b) one in
    (ap (λ (t : X × Rest). t.0) same, ap (λ (t : X × Rest). t.1.bytes) same)

-- ---- fields of so many bytes

pub bytes_take : (n : ℕ) (i : Rest) (x : List ℕ × Rest) → IsBytes i.bytes → bytes_at n i ≡ Ok x → Took i x.0 x.1 × (length x.0 ≡ n) × IsBytes x.0
bytes_take n i x fits e =
    let made : List ℕ × Rest = (take n i.bytes, placed (i.at + n) (drop n i.bytes)) in
    let g = passed (ltb (length i.bytes) n) (Truncated (i.at + length i.bytes)) (Ok made) x e in
    let long : n ≤ length i.bytes = ltb-false _ _ g.0 in
    let len : length (take n i.bytes) ≡ n = omega (arith, length-take n i.bytes) in
    let took : Took i (take n i.bytes) (placed (i.at + n) (drop n i.bytes)) = record { parts = sym (take-append-drop n i.bytes); place = omega (arith, len); fits = IsBytes-drop n i.bytes fits } in
    subst (λ (y : List ℕ × Rest). Took i y.0 y.1 × (length y.0 ≡ n) × IsBytes y.0) (ok_is made x g.1) (took, len, IsBytes-take n i.bytes fits)

pub bytes_again : (n at : ℕ) (field more : List ℕ) → length field ≡ n → bytes_at n (placed at (field ++ more)) ≡ Ok (field, placed (at + length field) more)
bytes_again n at field more len =
    let long : ltb (length (field ++ more)) n ≡ false = le-ltb _ _ (omega (arith, length-append field more)) in
    rw (long, take_at field more n len, drop_at field more n len, len) refl

-- ---- a byte

one_byte : (bytes : List ℕ) → length bytes ≡ 1 → bytes ≡ get_or bytes 0 0 ∷ []
one_byte [] e = absurd cc
one_byte (b ∷ []) e = refl
one_byte (b ∷ c ∷ bytes) e = absurd (omega arith)

pub byte_takes : (i : Rest) (x : ℕ × Rest) → IsBytes i.bytes → byte_at i ≡ Ok x → Took i (x.0 ∷ []) x.1 × (x.0 < 256)
byte_takes i x fits e =
    let a = bind_ok (bytes_at 1 i) (λ field. Ok (get_or field.0 0 0, field.1)) x e in
    let t = bytes_take 1 i a.0 fits a.1 in
    let made : ℕ × Rest = (get_or a.0.0 0 0, a.0.1) in
    let took : Took i (get_or a.0.0 0 0 ∷ []) a.0.1 = subst (λ (s : List ℕ). Took i s a.0.1) (one_byte a.0.0 t.1) t.0 in
    subst (λ (y : ℕ × Rest). Took i (y.0 ∷ []) y.1 × (y.0 < 256)) (ok_is made x a.2) (took, t.2 0)

pub byte_again : (b at : ℕ) (more : List ℕ) → byte_at (placed at (b ∷ more)) ≡ Ok (b, placed (at + 1) more)
byte_again b at more = rw (bytes_again 1 at (b ∷ []) more refl) refl

pub is_byte : IsField byte_at (λ b. b ∷ []) (λ b. b < 256)
is_byte = record { takes = byte_takes; again = λ b at more lt. byte_again b at more }

-- ---- numbers

pub record IsWide (w : Width) (limit : ℕ) : Type 0 where
  pub len : (n : ℕ) → length (to_be_bytes w n) ≡ byte_len w
  pub back : (bytes : List ℕ) → length bytes ≡ byte_len w → IsBytes bytes → to_be_bytes w (from_be_bytes w bytes) ≡ bytes
  pub again : (n : ℕ) → n < limit → from_be_bytes w (to_be_bytes w n) ≡ n
  pub below : (bytes : List ℕ) → IsBytes bytes → from_be_bytes w bytes < limit

pub wide32 : IsWide w32 (2 ^ 32)
wide32 = record {
  len = λ n. refl;
  back = λ bytes len fits. be_bytes_4 bytes _ len fits refl;
  again = λ n lt. from_be_bytes-to_be_bytes_4 n lt;
  below = λ bytes fits. omega (arith, fits 0, fits 1, fits 2, fits 3);
}

pub wide16 : IsWide w16 (2 ^ 16)
wide16 = record {
  len = λ n. refl;
  back = λ bytes len fits. be_bytes_2 bytes _ len fits refl;
  again = λ n lt. from_be_bytes-to_be_bytes_2 n lt;
  below = λ bytes fits. omega (arith, fits 0, fits 1);
}

pub wide64 : IsWide w64 (2 ^ 64)
wide64 = record {
  len = λ n. refl;
  back = λ bytes len fits. be_bytes_8 bytes _ len fits refl;
  again = λ n lt. from_be_bytes-to_be_bytes_8 n lt;
  below = λ bytes fits. omega (arith, fits 0, fits 1, fits 2, fits 3, fits 4, fits 5, fits 6, fits 7);
}

number_takes : (w : Width) (limit : ℕ) → IsWide w limit → (i : Rest) (x : ℕ × Rest) → IsBytes i.bytes → number_at w i ≡ Ok x → Took i (to_be_bytes w x.0) x.1 × (x.0 < limit)
number_takes w limit wide i x fits e =
    let a = bind_ok (bytes_at (byte_len w) i) (λ field. Ok (from_be_bytes w field.0, field.1)) x e in
    let t = bytes_take (byte_len w) i a.0 fits a.1 in
    let made : ℕ × Rest = (from_be_bytes w a.0.0, a.0.1) in
    let took : Took i (to_be_bytes w (from_be_bytes w a.0.0)) a.0.1 = subst (λ (s : List ℕ). Took i s a.0.1) (sym (wide.back a.0.0 t.1 t.2)) t.0 in
    subst (λ (y : ℕ × Rest). Took i (to_be_bytes w y.0) y.1 × (y.0 < limit)) (ok_is made x a.2) (took, wide.below a.0.0 t.2)

number_again : (w : Width) (limit : ℕ) → IsWide w limit → (n at : ℕ) (more : List ℕ) → n < limit → number_at w (placed at (to_be_bytes w n ++ more)) ≡ Ok (n, placed (at + length (to_be_bytes w n)) more)
number_again w limit wide n at more lt =
    rw (bytes_again (byte_len w) at (to_be_bytes w n) more (wide.len n), wide.again n lt) refl

pub is_number : (w : Width) (limit : ℕ) → IsWide w limit → IsField (number_at w) (to_be_bytes w) (λ n. n < limit)
is_number w limit wide = record { takes = number_takes w limit wide; again = number_again w limit wide }

-- ---- a volume's number

volume_takes : (i : Rest) (x : ℕ × Rest) → IsBytes i.bytes → volume_at i ≡ Ok x → Took i (x.0 ∷ []) x.1 × (x.0 < 16)
unfolding volume_at
volume_takes i x fits e =
    let a = bind_ok (byte_at i) (λ vol. cond (ltb vol.0 16) (Ok vol) (Err (BadNumber i.at))) x e in
    let t = byte_takes i a.0 fits a.1 in
    elim (chosen (ltb a.0.0 16) (Ok a.0) (Err (BadNumber i.at)) (Ok x) a.2) [
      | inl w ↦ subst (λ (y : ℕ × Rest). Took i (y.0 ∷ []) y.1 × (y.0 < 16)) (ok_is a.0 x w.1) (t.0, ltb-true _ _ w.0)
      | inr w ↦ absurd (let e : done x ≡ Err (BadNumber i.at) = sym w.1 in cc)
    ]

volume_again : (n at : ℕ) (more : List ℕ) → n < 16 → volume_at (placed at ((n ∷ []) ++ more)) ≡ Ok (n, placed (at + 1) more)
unfolding volume_at
volume_again n at more lt = rw (byte_again n at more, lt-ltb n 16 lt) refl

pub is_volume : IsField volume_at (λ n. n ∷ []) (λ n. n < 16)
is_volume = record { takes = volume_takes; again = volume_again }
