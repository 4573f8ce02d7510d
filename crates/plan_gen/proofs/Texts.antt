-- The texts of numbers, as keys and values.
use Rattle.std.proofs.Common.{◌≡◌, ℕ, ◌^◌, ◌<◌, ◌≤◌, Bool, true, false, not, ◌==◌, nat_lt, List, ◌∷◌, length, get_or, Option, Some, None, refl, sym, ap, ◌∙◌, arith}
use Rattle.std.specs.Prelude.{decimal, codes, position}
use Rattle.std.specs.List.{AllPass}
use Rattle.std.proofs.lemmas.Bool.{and_from, ne_eqb, not-true, true≢false}
use Rattle.std.proofs.lemmas.Bool.Decides.{nat_tests}
use Rattle.std.proofs.lemmas.List.Quantifiers.{position-Some}
use Rattle.std.proofs.lemmas.Fmt.{length-decimal-le, decimal_nonempty}
use Rattle.std.proofs.lemmas.List.Sums.{AllPass-from_list_all}
use Rattle.rdf_types.specs.Limits.{is_name_byte, is_text_byte, IsText, IsFileName, IsKey, IsValue}
use Rattle.rdf_types.specs.Names.{text_fault, IsFaultOf, bad_byte}
use Rattle.rdf_types.specs.declared.names.NameFault.{NameFault}
use Rattle.rdf_types.specs.declared.names.NameFault.TheVariants.{Empty, TooLong, BadByte, NoMemory}
use Rattle.plan_lang.specs.GraphicLaws.{decimal_graphic}

small_length : (n : ℕ) → n < 2 ^ 32 → length (decimal n) ≤ 10
small_length n lt = length-decimal-le 10 n (omega arith) (omega arith) (omega arith)

pub key_fits : (letter n : ℕ) → is_text_byte letter ≡ true → n < 2 ^ 32 → IsKey (letter ∷ decimal n)
key_fits letter n e lt = record {
  some = omega arith;
  few = omega (arith, small_length n lt);
  all = AllPass-from_list_all is_text_byte (letter ∷ decimal n) (and_from (is_text_byte letter) _ e (decimal_graphic n lt));
}

pub value_fits : (n : ℕ) → n < 2 ^ 32 → IsValue (decimal n)
value_fits n lt = record {
  some = decimal_nonempty n (omega arith);
  few = omega (arith, small_length n lt);
  all = AllPass-from_list_all is_text_byte (decimal n) (decimal_graphic n lt);
}

pub file_fits : IsFileName (codes "f")
file_fits = record { some = omega arith; few = omega arith; all = AllPass-from_list_all is_name_byte (codes "f") refl }

-- no byte is outside of the class
no_other : (class : ℕ → Bool) (bytes : List ℕ) → AllPass class bytes → position (λ b. not (class b)) bytes ≡ None
no_other class bytes all = from (position (λ b. not (class b)) bytes) refl
  where
    from : (o : Option ℕ) → position (λ b. not (class b)) bytes ≡ o → position (λ b. not (class b)) bytes ≡ None
    from None e = e
    from (Some i) e =
        let found = position-Some (λ b. not (class b)) bytes i 0 e in
        let is : class (get_or bytes i 0) ≡ true = all i 0 found.0 in
        let other : not (class (get_or bytes i 0)) ≡ true = found.1 in
        absurd (true≢false (sym is ∙ not-true (class (get_or bytes i 0)) other))

-- a text within its limits has no fault
no_fault : (class : ℕ → Bool) (limit : ℕ) (bytes : List ℕ) → IsText class limit bytes → text_fault class limit bytes ≡ None
no_fault class limit bytes is =
    let some : length bytes == 0 ≡ false = let s = is.some in ne_eqb (length bytes) 0 (λ e. absurd (omega arith)) in
    let few : nat_lt limit (length bytes) ≡ false = let f = is.few in grind (arith, nat_tests) in
    rw (some, few) (ap bad_byte (no_other class bytes is.all))

wants : (first : Option NameFault) (fault : NameFault) → first ≡ None → IsFaultOf first fault → fault ≡ NoMemory
wants first NoMemory none h = refl
wants first Empty none h = absurd (let no : None ≡ Some Empty = sym none ∙ h in cc)
wants first (TooLong limit) none h = absurd (let no : None ≡ Some (TooLong limit) = sym none ∙ h in cc)
wants first (BadByte at) none h = absurd (let no : None ≡ Some (BadByte at) = sym none ∙ h in cc)

-- so reading it wants memory alone
pub key_wants : (letter n : ℕ) (text : List ℕ) (fault : NameFault) → text ≡ letter ∷ decimal n → is_text_byte letter ≡ true → n < 2 ^ 32
    → IsFaultOf (text_fault is_text_byte 32 text) fault → fault ≡ NoMemory
key_wants letter n text fault same e lt h =
    wants (text_fault is_text_byte 32 text) fault (ap (text_fault is_text_byte 32) same ∙ no_fault is_text_byte 32 (letter ∷ decimal n) (key_fits letter n e lt)) h

pub value_wants : (n : ℕ) (text : List ℕ) (fault : NameFault) → text ≡ decimal n → n < 2 ^ 32 → IsFaultOf (text_fault is_text_byte 200 text) fault → fault ≡ NoMemory
value_wants n text fault same lt h = wants (text_fault is_text_byte 200 text) fault (ap (text_fault is_text_byte 200) same ∙ no_fault is_text_byte 200 (decimal n) (value_fits n lt)) h
