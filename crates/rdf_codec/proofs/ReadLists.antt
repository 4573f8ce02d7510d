-- Entries that are read one after another, with what was read so far.
use Rattle.std.proofs.Common.{◌≡◌, ℕ, ◌+◌, suc, List, [], ◌∷◌, ◌++◌, Result, Ok, Err, refl, sym, ap, ◌∙◌, append_assoc, append-nil, arith}
use Rattle.std.specs.Prelude.{IfOk, IsOkAnd}
use Rattle.std.specs.declared.alloc.Global.{Global}
use Rattle.std.specs.declared.vec.Vec.{Vec}
use Rattle.rdf_codec.specs.declared.fault.CodecFault.{CodecFault}
use Rattle.rdf_codec.specs.Reading.{Rest, ◌>>=◌}
use Rattle.rdf_codec.specs.Lists.{entries_at}

-- what is read behind entries that were read before
abbrev pub behind : {X : Type 0} → List X → Result (List X × Rest) CodecFault → Result (List X × Rest) CodecFault
behind done (Ok x) = Ok (done ++ x.0, x.1)
behind done (Err e) = Err e

behind_none : {X : Type 0} (r : Result (List X × Rest) CodecFault) → behind [] r ≡ r
behind_none (Ok x) = refl
behind_none (Err e) = refl

behind_more : {X : Type 0} (done : List X) (x : X) (r : Result (List X × Rest) CodecFault) → behind done (behind (x ∷ []) r) ≡ behind (done ++ x ∷ []) r
behind_more {X = X} done x (Ok y) = ap (λ (xs : List X). Ok (xs, y.1)) (sym (append_assoc done (x ∷ []) y.0))
behind_more done x (Err e) = refl

module _ {X S : Type 0} (read : S → Rest → Result (X × Rest) CodecFault) (next : X → S) where
  -- reading all comes to reading so many more, from here on, behind those that were read
  pub record SoFar (all : Result (List X × Rest) CodecFault) (done : List X) (left : ℕ) (state : S) (rest : Rest) : Type 0 where
    pub comes_to : all ≡ behind done (entries_at read next left state rest)

  pub started : (n left : ℕ) (s : S) (i : Rest) → left ≡ n → SoFar (entries_at read next n s i) [] left s i
  started n left s i e = record { comes_to = ap (λ (k : ℕ). entries_at read next k s i) (sym e) ∙ sym (behind_none _) }

  one_more : (n : ℕ) (s : S) (i : Rest) (x : X) (rest : Rest) → read s i ≡ Ok (x, rest) → entries_at read next (suc n) s i ≡ behind (x ∷ []) (entries_at read next n (next x) rest)
  one_more n s i x rest e = rw e (as_behind x (entries_at read next n (next x) rest)) where
    as_behind : (x : X) (r : Result (List X × Rest) CodecFault) → (r >>= λ others. Ok (x ∷ others.0, others.1)) ≡ behind (x ∷ []) r
    as_behind x (Ok y) = refl
    as_behind x (Err e) = refl

  pub stepped : (all : Result (List X × Rest) CodecFault) (done : List X) (left fewer : ℕ) (s : S) (i : Rest) (x : X) (rest : Rest)
      → SoFar all done left s i → left ≡ fewer + 1 → read s i ≡ Ok (x, rest) → SoFar all (done ++ x ∷ []) fewer (next x) rest
  stepped all done left fewer s i x rest so_far less e =
      let is : left ≡ suc fewer = omega (arith, less) in
      record {
        comes_to = so_far.comes_to ∙ ap (λ (k : ℕ). behind done (entries_at read next k s i)) is ∙ ap (behind done) (one_more fewer s i x rest e) ∙ behind_more done x _;
      }

  pub failed : (all : Result (List X × Rest) CodecFault) (done : List X) (left fewer : ℕ) (s : S) (i : Rest) (e : CodecFault)
      → SoFar all done left s i → left ≡ fewer + 1 → read s i ≡ Err e → all ≡ Err e
  failed all done left fewer s i e so_far less bad =
      let is : left ≡ suc fewer = omega (arith, less) in
      so_far.comes_to ∙ ap (λ (k : ℕ). behind done (entries_at read next k s i)) is ∙ rw bad refl

  pub finished : (all : Result (List X × Rest) CodecFault) (done : List X) (left : ℕ) (s : S) (i : Rest) → SoFar all done left s i → left ≡ 0 → all ≡ Ok (done, i)
  finished all done left s i so_far none =
      so_far.comes_to ∙ ap (λ (k : ℕ). behind done (entries_at read next k s i)) none ∙ ap (λ (xs : List X). Ok (xs, i)) (append-nil done)

-- the entries that were made are those that were read
pub made : {X E : Type 0} (entries new : Result (Vec X Global) E) (entry : Result X E) (done : List X) (x : X)
    → IfOk entries (λ v. v.items ≡ done) → IfOk entry (λ y. y ≡ x) → IfOk new (λ v. IsOkAnd entries (λ old. IsOkAnd entry (λ y. v.items ≡ old.items ++ y ∷ []))) → IfOk new (λ v. v.items ≡ done ++ x ∷ [])
made (Ok old) (Ok v) (Ok y) done x so_far is h = h ∙ rw (so_far, is) refl
made (Ok old) (Ok v) (Err e) done x so_far is h = absurd h
made (Err d) (Ok v) entry done x so_far is h = absurd h
made entries (Err e) entry done x so_far is h = tt
