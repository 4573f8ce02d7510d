-- Values made of parts that stand one behind the other: what holds of each part holds of the whole.
use Rattle.std.proofs.Common.{◌≡◌, ℕ, ◌+◌, ◌<◌, true, Bool, eqb, List, [], ◌∷◌, ◌++◌, length, Result, Ok, Err, refl, sym, ap, subst, ◌∙◌, append_assoc, arith, inl, inr}
use Rattle.std.proofs.lemmas.Bool.{eqb-true}
use Rattle.std.proofs.lemmas.List.{length-append}
use Rattle.rdf_codec.specs.declared.fault.CodecFault.{CodecFault}
use Rattle.rdf_codec.specs.declared.fault.CodecFault.TheVariants.{BadKind, BadNumber}
use Rattle.rdf_codec.specs.Reading.{Rest, ◌>>=◌, byte_at, allowed, by_kind, tagged_at}
use Rattle.rdf_codec.proofs.Fields.{IsBytes, bind_ok, chosen, ok_is, placed, Took, Took-then, IsField, byte_takes, byte_again, is_byte}
use Rattle.rdf_codec.proofs.Faults.{end, Placed, Placing, fault_is, not_both, then_placed, behind_placed, next_placed, byte_placed, bind_err, first_before}

-- a reader of values that have one spelling each, whose faults are in their places
pub record IsRead {X : Type 0} (read : Rest → Result (X × Rest) CodecFault) (spelling : X → List ℕ) (Fits : X → Type 0) : Type 0 where
  pub field : IsField read spelling Fits
  pub placing : Placing read

-- a value made of parts that are read one after another
pub record Format (Z : Type 0) : Type 1 where
  pub Parts : Type 0
  pub read : Rest → Result (Z × Rest) CodecFault
  pub make : Parts → Z
  pub spelled : Parts → List ℕ
  pub Fits : Parts → Type 0
  pub takes : (i : Rest) (z : Z × Rest) → IsBytes i.bytes → read i ≡ Ok z → (p : Parts) × (make p ≡ z.0) × Took i (spelled p) z.1 × Fits p
  pub again : (p : Parts) (at : ℕ) (more : List ℕ) → Fits p → read (placed at (spelled p ++ more)) ≡ Ok (make p, placed (at + length (spelled p)) more)
  pub placing : Placing read

pub Took-none : (i : Rest) → IsBytes i.bytes → Took i [] i
Took-none i fits = record { parts = refl; place = omega arith; fits = fits }

pub ends_takes : {Z : Type 0} (v : Z) (i : Rest) (z : Z × Rest) → IsBytes i.bytes → ◌≡◌ {A = Result (Z × Rest) CodecFault} (Ok (v, i)) (Ok z) → Unit {0} × (v ≡ z.0) × Took i [] z.1 × Unit {0}
ends_takes {Z = Z} v i z fits e =
    let same = ok_is (v, i) z e in
    (tt, ap (λ (t : Z × Rest). t.0) same, subst (λ (t : Z × Rest). Took i [] t.1) same (Took-none i fits), tt)

-- all parts are read
abbrev pub ends : {Z : Type 0} → Z → Format Z
ends v = record {
  Parts = Unit {0};
  read = λ i. Ok (v, i);
  make = λ _. v;
  spelled = λ _. [];
  Fits = λ _. Unit {0};
  takes = ends_takes v;
  again = λ p at more fits. let e : at ≡ at + 0 = omega arith in ap (λ (n : ℕ). Ok (v, placed n more)) e;
  placing = λ i e fits h. absurd (not_both (v, i) e _ refl h);
}

-- the value is one that a reader gives
abbrev pub only : {X : Type 0} (read : Rest → Result (X × Rest) CodecFault) (spelling : X → List ℕ) (Fits : X → Type 0) → IsRead read spelling Fits → Format X
only {X = X} read spelling Fits is = record {
  Parts = X;
  read = read;
  make = λ x. x;
  spelled = spelling;
  Fits = Fits;
  takes = λ i z fits e. let t = is.field.takes i z fits e in (z.0, refl, t.0, t.1);
  again = is.field.again;
  placing = is.placing;
}

module _ {X Z : Type 0} (read : Rest → Result (X × Rest) CodecFault) (spelling : X → List ℕ) (Fits : X → Type 0) (is : IsRead read spelling Fits) (others : X → Format Z) where
  abbrev pub both : Rest → Result (Z × Rest) CodecFault
  both i = read i >>= λ x. (others x.0).read x.1

  abbrev pub Both : Type 0
  Both = (x : X) × (others x).Parts

  abbrev pub both_spelled : Both → List ℕ
  both_spelled p = spelling p.0 ++ (others p.0).spelled p.1

  abbrev pub BothFit : Both → Type 0
  BothFit p = Fits p.0 × (others p.0).Fits p.1

  abbrev pub made_of : Both → Z
  made_of p = (others p.0).make p.1

  pub both_take : (i : Rest) (z : Z × Rest) → IsBytes i.bytes → both i ≡ Ok z → (p : Both) × (made_of p ≡ z.0) × Took i (both_spelled p) z.1 × BothFit p
  both_take i z fits e =
      let a = bind_ok (read i) (λ x. (others x.0).read x.1) z e in
      let t = is.field.takes i a.0 fits a.1 in
      let b = (others a.0.0).takes a.0.1 z t.0.fits a.2 in
      ((a.0.0, b.0), b.1, Took-then i (spelling a.0.0) a.0.1 ((others a.0.0).spelled b.0) z.1 t.0 b.2, (t.1, b.3))

  pub both_again : (p : Both) (at : ℕ) (more : List ℕ) → BothFit p → both (placed at (both_spelled p ++ more)) ≡ Ok (made_of p, placed (at + length (both_spelled p)) more)
  both_again p at more fit =
      let first = spelling p.0 in
      let second = (others p.0).spelled p.1 in
      let place : at + length first + length second ≡ at + length (first ++ second) = omega (arith, length-append first second) in
      ap (λ (t : List ℕ). both (placed at t)) (append_assoc first second more) ∙ ap (λ r. r >>= λ (x : X × Rest). (others x.0).read x.1) (is.field.again p.0 at (second ++ more) fit.0)
      ∙ (others p.0).again p.1 (at + length first) more fit.1 ∙ ap (λ (n : ℕ). Ok (made_of p, placed n more)) place

  -- one part more in front
  abbrev pub then : Format Z
  then = record {
    Parts = Both;
    read = both;
    make = made_of;
    spelled = both_spelled;
    Fits = BothFit;
    takes = both_take;
    again = both_again;
    placing = λ i e fits h. next_placed read spelling Fits is.field is.placing (λ x. (others x.0).read x.1) i e fits (λ x some g. (others x.0).placing x.1 e some g) h;
  }

-- a format's values and the values that have a spelling are the same
pub record Covers {Z : Type 0} (f : Format Z) (spelling : Z → List ℕ) (Fits : Z → Type 0) : Type 0 where
  pub made : (p : f.Parts) → f.Fits p → (spelling (f.make p) ≡ f.spelled p) × Fits (f.make p)
  pub parts : (z : Z) → Fits z → (p : f.Parts) × (f.make p ≡ z) × f.Fits p

module _ {Z : Type 0} (f : Format Z) (spelling : Z → List ℕ) (Fits : Z → Type 0) (covers : Covers f spelling Fits) where
  format_takes : (i : Rest) (z : Z × Rest) → IsBytes i.bytes → f.read i ≡ Ok z → Took i (spelling z.0) z.1 × Fits z.0
  format_takes i z fits e =
      let t = f.takes i z fits e in
      let c = covers.made t.0 t.3 in
      subst (λ (y : Z). Took i (spelling y) z.1 × Fits y) t.1 (subst (λ (s : List ℕ). Took i s z.1) (sym c.0) t.2, c.1)

  format_again : (z : Z) (at : ℕ) (more : List ℕ) → Fits z → f.read (placed at (spelling z ++ more)) ≡ Ok (z, placed (at + length (spelling z)) more)
  format_again z at more fit =
      let t = covers.parts z fit in
      let c = (covers.made t.0 t.2).0 in
      subst (λ (y : Z). f.read (placed at (spelling y ++ more)) ≡ Ok (y, placed (at + length (spelling y)) more)) t.1
      (subst (λ (s : List ℕ). f.read (placed at (s ++ more)) ≡ Ok (f.make t.0, placed (at + length s) more)) (sym c) (f.again t.0 at more t.2))

  pub format_read : IsRead f.read spelling Fits
  format_read = record { field = record { takes = format_takes; again = format_again }; placing = f.placing }

-- ---- a value that may not stand in its place

module _ {X : Type 0} (read : Rest → Result (X × Rest) CodecFault) (spelling : X → List ℕ) (Fits : X → Type 0) (test : X → Bool) where
  abbrev pub tested : Rest → Result (X × Rest) CodecFault
  tested i = read i >>= λ x. allowed (test x.0) i.at x

  abbrev pub Passes : X → Type 0
  Passes x = Fits x × (test x ≡ true)

  tested_takes : IsRead read spelling Fits → (i : Rest) (x : X × Rest) → IsBytes i.bytes → tested i ≡ Ok x → Took i (spelling x.0) x.1 × Passes x.0
  tested_takes is i x fits e =
      let a = bind_ok (read i) (λ x. allowed (test x.0) i.at x) x e in
      let t = is.field.takes i a.0 fits a.1 in
      elim (chosen (test a.0.0) (Ok a.0) (Err (BadNumber i.at)) (Ok x) a.2) [
        | inl w ↦ subst (λ (y : X × Rest). Took i (spelling y.0) y.1 × Passes y.0) (ok_is a.0 x w.1) (t.0, (t.1, w.0))
        | inr w ↦ absurd (not_both x (BadNumber i.at) _ refl (sym w.1))
      ]

  tested_placed : IsRead read spelling Fits → ((x : X) → Fits x → 0 < length (spelling x)) → Placing tested
  tested_placed is some i e fits h =
      elim (bind_err (read i) (λ x. allowed (test x.0) i.at x) e h) [
        | inl w ↦ is.placing i e fits w
        | inr w ↦
            let t = is.field.takes i w.0 fits w.1 in
            elim (chosen (test w.0.0) (Ok w.0) (Err (BadNumber i.at)) (Err e) w.2) [
              | inl v ↦ absurd (not_both w.0 e _ refl v.1)
              | inr v ↦
                  let bad : Result (X × Rest) CodecFault = Err (BadNumber i.at) in
                  let before : i.at < end i = omega (arith, ap length t.0.parts, length-append (spelling w.0.0) w.0.1.bytes, some w.0.0 t.1) in
                  subst (Placed (end i)) (fault_is (BadNumber i.at) e bad refl v.1) before
            ]
      ]

  -- a reader that refuses values that do not pass, at the first byte of their spelling
  pub tested_read : IsRead read spelling Fits → ((x : X) → Fits x → 0 < length (spelling x)) → IsRead tested spelling Passes
  tested_read is some = record {
    field = record {
      takes = tested_takes is;
      again = λ x at more fit. rw (is.field.again x at more fit.0, fit.1) refl;
    };
    placing = tested_placed is some;
  }

-- ---- tables of kinds

-- the readers of a table
abbrev pub readers : {Z : Type 0} → List (ℕ × Format Z) → List (ℕ × (Rest → Result (Z × Rest) CodecFault))
readers [] = []
readers (k ∷ ks) = (k.0, k.1.read) ∷ readers ks

-- what stands behind each kind is the rest of a spelling
abbrev pub AllSpelled : {Z : Type 0} → (Z → List ℕ) → (Z → Type 0) → List (ℕ × Format Z) → Type 0
AllSpelled spelling Fits [] = Unit {0}
AllSpelled spelling Fits (k ∷ ks) = ((p : k.1.Parts) → k.1.Fits p → (spelling (k.1.make p) ≡ k.0 ∷ k.1.spelled p) × Fits (k.1.make p)) × AllSpelled spelling Fits ks

-- a row of the table that a value is of
pub record IsOfKind {Z : Type 0} (spelling : Z → List ℕ) (table : List (ℕ × Format Z)) (z : Z) : Type 1 where
  pub kind : ℕ
  pub format : Format Z
  pub parts : format.Parts
  pub made : format.make parts ≡ z
  pub fits : format.Fits parts
  pub spelled : spelling z ≡ kind ∷ format.spelled parts
  pub picked : (at : ℕ) (i : Rest) → by_kind (readers table) at kind i ≡ format.read i

module _ {Z : Type 0} (spelling : Z → List ℕ) (Fits : Z → Type 0) where
  kind_takes : (table : List (ℕ × Format Z)) (i : Rest) (kind : ℕ) (behind : Rest) (z : Z × Rest) → AllSpelled spelling Fits table → Took i (kind ∷ []) behind
      → by_kind (readers table) i.at kind behind ≡ Ok z → Took i (spelling z.0) z.1 × Fits z.0
  kind_takes [] i kind behind z all took e = absurd (not_both z (BadKind i.at) _ refl (sym e))
  kind_takes (k ∷ ks) i kind behind z all took e =
      elim (chosen (eqb kind k.0) (k.1.read behind) (by_kind (readers ks) i.at kind behind) (Ok z) e) [
        | inl w ↦
            let t = k.1.takes behind z took.fits w.1 in
            let c = all.0 t.0 t.3 in
            let tag : Took i (k.0 ∷ []) behind = subst (λ (n : ℕ). Took i (n ∷ []) behind) (eqb-true kind k.0 w.0) took in
            let whole = Took-then i (k.0 ∷ []) behind (k.1.spelled t.0) z.1 tag t.2 in
            subst (λ (y : Z). Took i (spelling y) z.1 × Fits y) t.1 (subst (λ (s : List ℕ). Took i s z.1) (sym c.0) whole, c.1)
        | inr w ↦ kind_takes ks i kind behind z all.1 took w.1
      ]

  kind_placed : (table : List (ℕ × Format Z)) (i : Rest) (kind : ℕ) (behind : Rest) (e : CodecFault) → Took i (kind ∷ []) behind → by_kind (readers table) i.at kind behind ≡ Err e → Placed (end i) e
  kind_placed [] i kind behind e took h =
      let bad : Result (Z × Rest) CodecFault = Err (BadKind i.at) in subst (Placed (end i)) (fault_is (BadKind i.at) e bad refl h) (first_before i kind behind took)
  kind_placed (k ∷ ks) i kind behind e took h =
      elim (chosen (eqb kind k.0) (k.1.read behind) (by_kind (readers ks) i.at kind behind) (Err e) h) [
        | inl w ↦ behind_placed i (kind ∷ []) behind e took (k.1.placing behind e took.fits w.1)
        | inr w ↦ kind_placed ks i kind behind e took w.1
      ]

  tagged_again : (table : List (ℕ × Format Z)) (z : Z) (at : ℕ) (more : List ℕ) → IsOfKind spelling table z → tagged_at (readers table) (placed at (spelling z ++ more)) ≡ Ok (z, placed (at + length (spelling z)) more)
  tagged_again table z at more is =
      let rest = is.format.spelled is.parts in
      let place : at + 1 + length rest ≡ at + length (is.kind ∷ rest) = omega arith in
      subst (λ (s : List ℕ). tagged_at (readers table) (placed at (s ++ more)) ≡ Ok (z, placed (at + length s) more)) (sym is.spelled)
      (ap (λ r. r >>= λ (kind : ℕ × Rest). by_kind (readers table) at kind.0 kind.1) (byte_again is.kind at (rest ++ more)) ∙ is.picked at (placed (at + 1) (rest ++ more))
      ∙ is.format.again is.parts (at + 1) more is.fits ∙ ap (λ (y : Z). Ok (y, placed (at + 1 + length rest) more)) is.made ∙ ap (λ (n : ℕ). Ok (z, placed n more)) place)

  -- a reader by a table of kinds
  pub tagged_read : (table : List (ℕ × Format Z)) → AllSpelled spelling Fits table → ((z : Z) → Fits z → IsOfKind spelling table z) → IsRead (tagged_at (readers table)) spelling Fits
  tagged_read table all each = record {
    field = record {
      takes = λ i z fits e.
          let a = bind_ok (byte_at i) (λ kind. by_kind (readers table) i.at kind.0 kind.1) z e in kind_takes table i a.0.0 a.0.1 z all (byte_takes i a.0 fits a.1).0 a.2;
      again = λ z at more fit. tagged_again table z at more (each z fit);
    };
    placing = λ i e fits h.
        then_placed byte_at (λ b. b ∷ []) (λ b. b < 256) is_byte byte_placed (λ kind. by_kind (readers table) i.at kind.0 kind.1) i e fits (λ x took g. kind_placed table i x.0 x.1 e took g) h;
  }
