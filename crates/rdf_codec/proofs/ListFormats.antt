-- Lists of entries that are each spelled in one way.
use Rattle.std.proofs.Common.{◌≡◌, ℕ, ◌+◌, ◌<◌, ◌≤◌, ◌^◌, zero, suc, true, ◌&&◌, Bool, List, [], ◌∷◌, ◌++◌, length, Result, Ok, refl, ap, subst, ◌∙◌, append_assoc, arith}
use Rattle.std.specs.Prelude.{nat_le}
use Rattle.std.specs.Int.{w16, to_be_bytes}
use Rattle.std.specs.List.{flat_map}
use Rattle.std.proofs.lemmas.List.{length-append}
use Rattle.std.proofs.lemmas.Bool.Decides.{nat_tests}
use Rattle.rdf_codec.specs.declared.fault.CodecFault.{CodecFault}
use Rattle.rdf_codec.specs.Reading.{Rest, ◌>>=◌, number_at}
use Rattle.rdf_codec.specs.Lists.{count_at, entries_at, counted_at}
use Rattle.rdf_codec.proofs.Fields.{IsBytes, bind_ok, ok_is, placed, Took, Took-then}
use Rattle.rdf_codec.proofs.Faults.{end, Placing, not_both, made_placed, next_placed}
use Rattle.rdf_codec.proofs.Formats.{IsRead, Format, Took-none, only, then, format_read, Passes, tested_read}
use Rattle.rdf_codec.proofs.Records.{u16_read}

pub both_true : (a b : Bool) → a && b ≡ true → (a ≡ true) × (b ≡ true)
both_true a b e = grind (arith)

-- a number of two bytes, from least to most
pub count_read : (least most : ℕ) → IsRead (count_at least most) (to_be_bytes w16) (Passes (number_at w16) (to_be_bytes w16) (λ n. n < 2 ^ 16) (λ n. nat_le least n && nat_le n most))
unfolding count_at
count_read least most = tested_read (number_at w16) (to_be_bytes w16) (λ n. n < 2 ^ 16) (λ n. nat_le least n && nat_le n most) u16_read (λ n fit. omega arith)

module _ {X S : Type 0} (read : S → Rest → Result (X × Rest) CodecFault) (next : X → S) (spelling : X → List ℕ) (Fits : S → X → Type 0) (is : (s : S) → IsRead (read s) spelling (Fits s)) where
  -- each entry fits what the one before it leaves
  abbrev pub Chain : S → List X → Type 0
  Chain s [] = Unit {0}
  Chain s (x ∷ xs) = Fits s x × Chain (next x) xs

  abbrev pub SoMany : ℕ → S → List X → Type 0
  SoMany n s xs = (length xs ≡ n) × Chain s xs

  entries_take : (n : ℕ) (s : S) (i : Rest) (x : List X × Rest) → IsBytes i.bytes → entries_at read next n s i ≡ Ok x → Took i (flat_map spelling x.0) x.1 × SoMany n s x.0
  entries_take zero s i x fits e =
      subst (λ (y : List X × Rest). Took i (flat_map spelling y.0) y.1 × SoMany 0 s y.0) (ok_is ([], i) x e) (Took-none i fits, (refl, tt))
  entries_take (suc n) s i x fits e =
      let a = bind_ok (read s i) (λ entry. entries_at read next n (next entry.0) entry.1 >>= λ others. Ok (entry.0 ∷ others.0, others.1)) x e in
      let b = bind_ok (entries_at read next n (next a.0.0) a.0.1) (λ others. Ok (a.0.0 ∷ others.0, others.1)) x a.2 in
      let t = (is s).field.takes i a.0 fits a.1 in
      let u = entries_take n (next a.0.0) a.0.1 b.0 t.0.fits b.1 in
      let made : List X × Rest = (a.0.0 ∷ b.0.0, b.0.1) in
      let many : length (a.0.0 ∷ b.0.0) ≡ suc n = omega (arith, u.1.0) in
      subst (λ (y : List X × Rest). Took i (flat_map spelling y.0) y.1 × SoMany (suc n) s y.0) (ok_is made x b.2)
      (Took-then i (spelling a.0.0) a.0.1 (flat_map spelling b.0.0) b.0.1 t.0 u.0, (many, (t.1, u.1.1)))

  entries_again : (xs : List X) (s : S) (at : ℕ) (more : List ℕ) → Chain s xs → entries_at read next (length xs) s (placed at (flat_map spelling xs ++ more)) ≡ Ok (xs, placed (at + length (flat_map spelling xs)) more)
  entries_again [] s at more fit = let e : at ≡ at + 0 = omega arith in ap (λ (n : ℕ). Ok ([], placed n more)) e
  entries_again (x ∷ xs) s at more fit =
      let rest = flat_map spelling xs in
      let place : at + length (spelling x) + length rest ≡ at + length (spelling x ++ rest) = omega (arith, length-append (spelling x) rest) in
      ap (λ (t : List ℕ). entries_at read next (suc (length xs)) s (placed at t)) (append_assoc (spelling x) rest more)
      ∙ rw ((is s).field.again x at (rest ++ more) fit.0, entries_again xs (next x) (at + length (spelling x)) more fit.1) (ap (λ (n : ℕ). Ok (x ∷ xs, placed n more)) place)

  entries_placed : (n : ℕ) (s : S) → Placing (entries_at read next n s)
  entries_placed zero s i e fits h = absurd (not_both ([], i) e _ refl h)
  entries_placed (suc n) s i e fits h =
      next_placed (read s) spelling (Fits s) (is s).field (is s).placing (λ entry. entries_at read next n (next entry.0) entry.1 >>= λ others. Ok (entry.0 ∷ others.0, others.1)) i e fits
      (λ x some g. made_placed (entries_at read next n (next x.0) x.1) (λ others. (x.0 ∷ others.0, others.1)) e (end x.1) (entries_placed n (next x.0) x.1 e some) g) h

  pub entries_read : (n : ℕ) (s : S) → IsRead (entries_at read next n s) (flat_map spelling) (SoMany n s)
  entries_read n s = record {
    field = record {
      takes = entries_take n s;
      again = λ xs at more fit. subst (λ (k : ℕ). entries_at read next k s (placed at (flat_map spelling xs ++ more)) ≡ Ok (xs, placed (at + length (flat_map spelling xs)) more)) fit.0 (entries_again xs s at more fit.1);
    };
    placing = entries_placed n s;
  }

  -- from least to most entries
  pub record Counted (least most : ℕ) (s : S) (xs : List X) : Type 0 where
    pub some : least ≤ length xs
    pub few : length xs ≤ most
    pub chain : Chain s xs

  abbrev pub counted_spelling : List X → List ℕ
  counted_spelling xs = to_be_bytes w16 (length xs) ++ flat_map spelling xs

  abbrev counted : ℕ → ℕ → S → Format (List X)
  counted least most s =
      then (count_at least most) (to_be_bytes w16) (Passes (number_at w16) (to_be_bytes w16) (λ n. n < 2 ^ 16) (λ n. nat_le least n && nat_le n most)) (count_read least most)
      (λ n. only (entries_at read next n s) (flat_map spelling) (SoMany n s) (entries_read n s))

  pub counted_read : (least most : ℕ) (s : S) → most < 2 ^ 16 → IsRead (counted_at read next least most s) counted_spelling (Counted least most s)
  counted_read least most s lt = format_read (counted least most s) counted_spelling (Counted least most s) (record {
    made = λ p fit. (
      ap (λ n. to_be_bytes w16 n ++ flat_map spelling p.1) fit.1.0,
      record { some = within least p.0 p.1 fit.1.0 (both_true _ _ fit.0.1).0; few = fewer most p.0 p.1 fit.1.0 (both_true _ _ fit.0.1).1; chain = fit.1.1 },
    );
    parts = λ xs fit. ((length xs, xs), refl, ((omega (arith, fit.few), both_hold least most (length xs) fit.some fit.few), (refl, fit.chain)));
  }) where
    within : (least n : ℕ) (xs : List X) → length xs ≡ n → nat_le least n ≡ true → least ≤ length xs
    within least n xs e h = grind (arith, nat_tests)

    fewer : (most n : ℕ) (xs : List X) → length xs ≡ n → nat_le n most ≡ true → length xs ≤ most
    fewer most n xs e h = grind (arith, nat_tests)

    both_hold : (least most n : ℕ) → least ≤ n → n ≤ most → (nat_le least n && nat_le n most) ≡ true
    both_hold least most n p q = grind (arith, nat_tests)
