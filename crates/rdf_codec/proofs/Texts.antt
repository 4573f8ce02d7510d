-- Texts, and values behind a tag.
use Rattle.std.proofs.Common.{◌≡◌, ℕ, ◌+◌, ◌<◌, ◌≤◌, Bool, true, false, not, ◌||◌, cond, eqb, ltb, List, [], ◌∷◌, ◌++◌, length, Option, Some, None, Result, Ok, Err, refl, sym, subst, arith, inl, inr}
use Rattle.std.specs.Prelude.{IfSome, position}
use Rattle.std.specs.List.{AllPass, position_or_len}
use Rattle.std.proofs.lemmas.Bool.{cases_lt, ltb-false, le-ltb, eqb-true, eqb-false, ne_eqb, not-true, not-false, both_ways, or_parts}
use Rattle.std.proofs.lemmas.List.Sums.{fails_before_first, passes_at_first}
use Rattle.rdf_types.specs.Limits.{IsText, IsValue, IsKey, IsFileName, is_text_byte, is_name_byte}
use Rattle.rdf_codec.specs.declared.fault.CodecFault.{CodecFault}
use Rattle.rdf_codec.specs.declared.fault.CodecFault.TheVariants.{BadNumber, BadKind}
use Rattle.rdf_codec.specs.Spelling.{text, optional}
use Rattle.rdf_codec.specs.Reading.{Rest, bytes_at, byte_at, judged, sized_at, text_at, file_at, key_at, value_at, present_at, optional_at}
use Rattle.rdf_codec.proofs.Fields.{IsBytes, bind_ok, chosen, passed, ok_is, placed, Took, Took-then, IsField, bytes_take, bytes_again, byte_takes, byte_again}

-- ---- the bytes of a class

none_from : (b : Bool) (n : ℕ) → cond b (Some n) None ≡ None → b ≡ false
none_from true n e = absurd cc
none_from false n e = refl

no_bad : (class : ℕ → Bool) (bytes : List ℕ) → position (λ b. not (class b)) bytes ≡ None → AllPass class bytes
no_bad class bytes e k d lt =
    let past : length bytes ≤ position_or_len (λ b. not (class b)) bytes = ltb-false _ _ (none_from (ltb (position_or_len (λ b. not (class b)) bytes) (length bytes)) _ e) in
    not-false _ (fails_before_first (λ b. not (class b)) bytes k d (omega arith))

all_good : (class : ℕ → Bool) (bytes : List ℕ) → AllPass class bytes → position (λ b. not (class b)) bytes ≡ None
all_good class bytes all =
    let at : ℕ = position_or_len (λ b. not (class b)) bytes in
    let none : ltb at (length bytes) ≡ false = elim (cases_lt at (length bytes)) [
      | inl lt ↦ absurd (both_ways _ (not-true _ (passes_at_first (λ b. not (class b)) bytes 0 lt)) (all at 0 lt))
      | inr le ↦ le-ltb _ _ le
    ] in
    rw none refl

judged_ok : {X : Type 0} (at : ℕ) (bad : Option ℕ) (field y : X) → judged at bad field ≡ Ok y → (bad ≡ None) × (field ≡ y)
judged_ok at None field y e = (refl, ok_is field y e)
judged_ok at (Some n) field y e = absurd cc

-- ---- a text behind its length

pub sized_takes : (limit : ℕ) (i : Rest) (x : List ℕ × Rest) → IsBytes i.bytes → sized_at limit i ≡ Ok x → Took i (text x.0) x.1 × (0 < length x.0) × (length x.0 ≤ limit)
unfolding sized_at
sized_takes limit i x fits e =
    let a = bind_ok (byte_at i) (λ len. cond ((eqb len.0 0) || ltb limit len.0) (Err (BadNumber i.at)) (bytes_at len.0 len.1)) x e in
    let g = passed ((eqb a.0.0 0) || ltb limit a.0.0) (BadNumber i.at) (bytes_at a.0.0 a.0.1) x a.2 in
    let within = or_parts (eqb a.0.0 0) (ltb limit a.0.0) g.0 in
    let t0 = byte_takes i a.0 fits a.1 in
    let t1 = bytes_take a.0.0 a.0.1 x t0.0.fits g.1 in
    let both = Took-then i (a.0.0 ∷ []) a.0.1 x.0 x.1 t0.0 t1.0 in
    let some : a.0.0 ≡ 0 → ⊥ = eqb-false _ _ within.0 in
    let few : a.0.0 ≤ limit = ltb-false _ _ within.1 in
    (subst (λ (n : ℕ). Took i (n ∷ x.0) x.1) (sym t1.1) both, omega (arith, t1.1, some), omega (arith, t1.1, few))

sized_again : (limit : ℕ) (bytes : List ℕ) (at : ℕ) (more : List ℕ) → 0 < length bytes → length bytes ≤ limit → sized_at limit (placed at (text bytes ++ more)) ≡ Ok (bytes, placed (at + 1 + length bytes) more)
unfolding sized_at
sized_again limit bytes at more some few =
    let filled : eqb (length bytes) 0 ≡ false = ne_eqb _ _ (λ e. omega arith) in
    rw (byte_again (length bytes) at (bytes ++ more), filled, le-ltb limit (length bytes) few, bytes_again (length bytes) (at + 1) bytes more refl) refl

text_takes : (class : ℕ → Bool) (limit : ℕ) (i : Rest) (x : List ℕ × Rest) → IsBytes i.bytes → text_at class limit i ≡ Ok x → Took i (text x.0) x.1 × IsText class limit x.0
unfolding text_at
text_takes class limit i x fits e =
    let a = bind_ok (sized_at limit i) (λ field. judged (i.at + 1) (position (λ b. not (class b)) field.0) field) x e in
    let t = sized_takes limit i a.0 fits a.1 in
    let g = judged_ok (i.at + 1) (position (λ b. not (class b)) a.0.0) a.0 x a.2 in
    subst (λ (y : List ℕ × Rest). Took i (text y.0) y.1 × IsText class limit y.0) g.1 (t.0, record { some = t.1; few = t.2; all = no_bad class a.0.0 g.0 })

text_again : (class : ℕ → Bool) (limit : ℕ) (bytes : List ℕ) (at : ℕ) (more : List ℕ) → IsText class limit bytes → text_at class limit (placed at (text bytes ++ more)) ≡ Ok (bytes, placed (at + length (text bytes)) more)
unfolding text_at
text_again class limit bytes at more is =
    let place : at + 1 + length bytes ≡ at + length (text bytes) = omega arith in
    rw (sized_again limit bytes at more is.some is.few, all_good class bytes is.all, place) refl

pub is_text : (class : ℕ → Bool) (limit : ℕ) → IsField (text_at class limit) text (IsText class limit)
is_text class limit = record { takes = text_takes class limit; again = text_again class limit }

pub is_value : IsField value_at text IsValue
is_value = is_text is_text_byte 200

pub is_key : IsField key_at text IsKey
is_key = is_text is_text_byte 32

pub is_file : IsField file_at text IsFileName
is_file = is_text is_name_byte 16

-- ---- a value behind its tag

abbrev pub IsOptional : Option (List ℕ) → Type 0
IsOptional o = IfSome o IsValue

abbrev Shown : Rest → Option (List ℕ) × Rest → Type 0
Shown i y = Took i (optional y.0) y.1 × IsOptional y.0

present_takes : (i behind : Rest) (x : Option (List ℕ) × Rest) → Took i (1 ∷ []) behind → present_at behind ≡ Ok x → Shown i x
present_takes i behind x tag e =
    let a = bind_ok (value_at behind) (λ value. Ok (Some value.0, value.1)) x e in
    let t = is_value.takes behind a.0 tag.fits a.1 in
    let made : Option (List ℕ) × Rest = (Some a.0.0, a.0.1) in
    subst (Shown i) (ok_is made x a.2) (Took-then i (1 ∷ []) behind (text a.0.0) a.0.1 tag t.0, t.1)

optional_takes : (i : Rest) (x : Option (List ℕ) × Rest) → IsBytes i.bytes → optional_at i ≡ Ok x → Took i (optional x.0) x.1 × IsOptional x.0
unfolding optional_at
optional_takes i x fits e =
    let a = bind_ok (byte_at i) (λ tag. cond (eqb tag.0 0) (Ok (None, tag.1)) (cond (eqb tag.0 1) (present_at tag.1) (Err (BadKind i.at)))) x e in
    let t = (byte_takes i a.0 fits a.1).0 in
    let made : Option (List ℕ) × Rest = (None, a.0.1) in
    let bad : Result (Option (List ℕ) × Rest) CodecFault = Err (BadKind i.at) in
    elim (chosen (eqb a.0.0 0) (Ok made) (cond (eqb a.0.0 1) (present_at a.0.1) bad) (Ok x) a.2) [
      | inl w ↦ subst (Shown i) (ok_is made x w.1) (subst (λ (n : ℕ). Took i (n ∷ []) a.0.1) (eqb-true _ _ w.0) t, tt)
      | inr w ↦ elim (chosen (eqb a.0.0 1) (present_at a.0.1) bad (Ok x) w.1) [
        | inl v ↦ present_takes i a.0.1 x (subst (λ (n : ℕ). Took i (n ∷ []) a.0.1) (eqb-true _ _ v.0) t) v.1
        | inr v ↦ absurd (let e : bad ≡ Ok x = v.1 in cc)
      ]
    ]

optional_again : (o : Option (List ℕ)) (at : ℕ) (more : List ℕ) → IsOptional o → optional_at (placed at (optional o ++ more)) ≡ Ok (o, placed (at + length (optional o)) more)
unfolding optional_at
optional_again None at more is = rw (byte_again 0 at more) refl
optional_again (Some value) at more is =
    let place : at + 1 + length (text value) ≡ at + length (optional (Some value)) = omega arith in
    rw (byte_again 1 at (text value ++ more), is_value.again value (at + 1) more is, place) refl

pub is_optional : IsField optional_at optional IsOptional
is_optional = record { takes = optional_takes; again = optional_again }
