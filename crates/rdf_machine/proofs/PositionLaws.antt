-- The positions of images: with one record more, below a position, and what the last of them left.
use Rattle.std.proofs.Common.{◌≡◌, ℕ, zero, suc, ◌+◌, ◌-◌, ◌<◌, ◌≤◌, min, Bool, true, false, cond, nat_lt, if◌then◌else◌, List, [], ◌∷◌, ◌++◌, length, take, get_or, filter, Option, Some, refl, sym, ap, ap₂, ◌∙◌, subst, arith, append-nil, append_assoc}
use Rattle.std.specs.List.Sorted.{IsNonDecreasing}
use Rattle.std.proofs.lemmas.Bool.Decides.{nat_tests}
use Rattle.std.proofs.lemmas.List.{length-append, length-take-le, take_min, take-take, take_all}
use Rattle.std.proofs.lemmas.List.Elements.{filter-append}
use Rattle.std.proofs.lemmas.Option.{slice_get-get_or}
use Rattle.std.proofs.Math.Seq.{get_or-append_seam, take-suc}
use Rattle.std.specs.List.{slice_get}
use Rattle.std.proofs.lemmas.Bool.{lt-ltb, le-ltb}
use Rattle.rdf_types.specs.declared.records.RecKey.{RecKey}
use Rattle.rdf_types.specs.declared.records.Record.{Record}
use Rattle.rdf_types.specs.declared.records.Record.TheVariants.{Image, Commit, Abort}
use Rattle.rdf_types.specs.Places.{same_place}
use Rattle.rdf_model.specs.Contents.{Contents, nothing, place}
use Rattle.rdf_model.specs.Trail.{after_record, raw, is_change}
use Rattle.rdf_model.specs.SearchLaws.{raw-more}
use Rattle.backup_machine.specs.Positions.{last_in}
use Rattle.rdf_machine.specs.Images.{ByPlace, here, positions_from, positions_of, positions_in, after_in, left_by, AreImages}

-- one record more
pub positions_more : (q : RecKey) (at : ℕ) (xs : List Record) (r : Record) → positions_from q at (xs ++ r ∷ []) ≡ positions_from q at xs ++ here q (at + length xs) r
positions_more q at [] r = append-nil (here q at r) ∙ ap (λ (n : ℕ). here q n r) (omega arith)
positions_more q at (x ∷ xs) r =
    ap (λ (l : List ℕ). here q at x ++ l) (positions_more q (suc at) xs r ∙ ap (λ (n : ℕ). positions_from q (suc at) xs ++ here q n r) (omega arith))
    ∙ sym (append_assoc (here q at x) (positions_from q (suc at) xs) (here q (at + length (x ∷ xs)) r))

none_here : (b : Bool) (n at : ℕ) → n ≤ at → filter (λ p. nat_lt p n) (if b then at ∷ [] else []) ≡ []
none_here true n at le = ap (λ (t : Bool). cond t (at ∷ []) []) (le-ltb at n le)
none_here false n at le = refl

all_here : (b : Bool) (n at : ℕ) → at < n → filter (λ p. nat_lt p n) (if b then at ∷ [] else []) ≡ (if b then at ∷ [] else [])
all_here true n at lt = ap (λ (t : Bool). cond t (at ∷ []) []) (lt-ltb at n lt)
all_here false n at lt = refl

-- none stands below the first record
none_below : (q : RecKey) (n at : ℕ) (xs : List Record) → n ≤ at → filter (λ p. nat_lt p n) (positions_from q at xs) ≡ []
none_below q n at [] le = refl
none_below q n at (r ∷ rest) le =
    filter-append (λ p. nat_lt p n) (here q at r) (positions_from q (suc at) rest)
    ∙ ap₂ (λ (a b : List ℕ). a ++ b) (none_here (is_change (λ t. true) q r) n at le) (none_below q n (suc at) rest (omega (arith, le)))

-- those below a position are those of the records before it
pub below : (q : RecKey) (n at k : ℕ) (xs : List Record) → n ≡ at + k → filter (λ p. nat_lt p n) (positions_from q at xs) ≡ positions_from q at (take k xs)
below q n at zero [] is = refl
below q n at zero (r ∷ rest) is = none_below q n at (r ∷ rest) (omega (arith, is))
below q n at (suc k) [] is = refl
below q n at (suc k) (r ∷ rest) is =
    filter-append (λ p. nat_lt p n) (here q at r) (positions_from q (suc at) rest)
    ∙ ap₂ (λ (a b : List ℕ). a ++ b) (all_here (is_change (λ t. true) q r) n at (omega (arith, is))) (below q n (suc at) k rest (omega (arith, is)))

abbrev AtLeast : ℕ → List ℕ → Type 0
AtLeast low ps = (j d : ℕ) → j < length ps → low ≤ get_or ps j d

least_step : (b : Bool) (at : ℕ) (ps : List ℕ) → AtLeast (suc at) ps → AtLeast at ((if b then at ∷ [] else []) ++ ps)
least_step true at ps h zero d within = omega arith
least_step true at ps h (suc j) d within = omega (arith, h j d (omega (arith, within)))
least_step false at ps h j d within = omega (arith, h j d within)

none_less : (q : RecKey) (at : ℕ) (xs : List Record) → AtLeast at (positions_from q at xs)
none_less q at [] = λ j d within. absurd (omega (arith, within))
none_less q at (r ∷ rest) = least_step (is_change (λ t. true) q r) at (positions_from q (suc at) rest) (none_less q (suc at) rest)

rise_step : (b : Bool) (at : ℕ) (ps : List ℕ) → AtLeast (suc at) ps → IsNonDecreasing ps → IsNonDecreasing ((if b then at ∷ [] else []) ++ ps)
rise_step true at ps low h zero zero d le within = omega arith
rise_step true at ps low h zero (suc j) d le within = omega (arith, low j d (omega (arith, within)))
rise_step true at ps low h (suc i) zero d le within = absurd (omega (arith, le))
rise_step true at ps low h (suc i) (suc j) d le within = h i j d (omega (arith, le)) (omega (arith, within))
rise_step false at ps low h i j d le within = h i j d le within

-- the positions rise
pub rising : (q : RecKey) (at : ℕ) (xs : List Record) → IsNonDecreasing (positions_from q at xs)
rising q at [] = λ i j d le within. absurd (omega (arith, within))
rising q at (r ∷ rest) = rise_step (is_change (λ t. true) q r) at (positions_from q (suc at) rest) (none_less q (suc at) rest) (rising q (suc at) rest)

last_more : (ps : List ℕ) (p : ℕ) → last_in (ps ++ p ∷ []) ≡ Some p
last_more ps p =
    let long : length (ps ++ p ∷ []) ≡ length ps + 1 = length-append ps (p ∷ []) in
    let at : length (ps ++ p ∷ []) - 1 ≡ length ps = omega (arith, long) in
    ap (slice_get (ps ++ p ∷ [])) at ∙ slice_get-get_or (ps ++ p ∷ []) (length ps) p (omega (arith, long)) ∙ ap Some (get_or-append_seam ps p [] p)

-- one image more of a place, or another record
left_more : (q : RecKey) (trail : List Record) (m : ℕ) (r : Record) (ps : List ℕ) (files : Contents) → slice_get trail m ≡ Some r → left_by trail (last_in ps) ≡ files q → left_by trail (last_in (ps ++ here q m r)) ≡ after_record files r q
left_more q trail m (Image t v f k b a) ps files is h =
    elim (same_place q (place v f k)) as (λ (s : Bool). left_by trail (last_in (ps ++ (if s then m ∷ [] else []))) ≡ (if s then a else files q)) [
      | true ↦ ap (left_by trail) (last_more ps m) ∙ ap after_in is
      | false ↦ ap (λ (l : List ℕ). left_by trail (last_in l)) (append-nil ps) ∙ h
    ]
left_more q trail m (Commit t) ps files is h = ap (λ (l : List ℕ). left_by trail (last_in l)) (append-nil ps) ∙ h
left_more q trail m (Abort t) ps files is h = ap (λ (l : List ℕ). left_by trail (last_in l)) (append-nil ps) ∙ h

-- what stands at a place after so many records is what the last image of it there left
pub left_last : (q : RecKey) (trail : List Record) (m : ℕ) → m ≤ length trail → left_by trail (last_in (positions_of q (take m trail))) ≡ raw nothing (take m trail) q
left_last q trail zero le = start trail
  where
    start : (xs : List Record) → left_by trail (last_in (positions_of q (take zero xs))) ≡ raw nothing (take zero xs) q
    start [] = refl
    start (x ∷ xs) = refl
left_last q trail (suc m) le =
    let r = get_or trail m (Commit 0) in
    let short : length (take m trail) ≡ m = length-take-le m trail (omega (arith, le)) in
    let more : take (suc m) trail ≡ take m trail ++ r ∷ [] = take-suc trail m (Commit 0) (omega (arith, le)) in
    ap (λ (l : List Record). left_by trail (last_in (positions_of q l))) more
    ∙ ap (λ (l : List ℕ). left_by trail (last_in l)) (positions_more q 0 (take m trail) r ∙ ap (λ (n : ℕ). positions_of q (take m trail) ++ here q n r) (omega (arith, short)))
    ∙ left_more q trail m r (positions_of q (take m trail)) (raw nothing (take m trail)) (slice_get-get_or trail m (Commit 0) (omega (arith, le))) (left_last q trail m (omega (arith, le)))
    ∙ ap (λ (files : Contents). files q) (sym (raw-more nothing (take m trail) r))
    ∙ ap (λ (l : List Record). raw nothing l q) (sym more)

-- a first part of the records that are noted
cut_noted : (trail : List Record) (upto noted : ℕ) → min upto (length trail) ≤ noted → take upto (take noted trail) ≡ take (min upto (length trail)) trail
cut_noted trail upto noted far =
    elim (nat_lt noted upto) as (λ (b : Bool). nat_lt noted upto ≡ b → take upto (take noted trail) ≡ take (min upto (length trail)) trail) [
      | true ↦ λ e. ap (take upto) (take_all noted trail (grind (arith, nat_tests, e, far))) ∙ sym (take_min upto trail)
      | false ↦ λ e. take-take upto noted trail (grind (arith, nat_tests, e)) ∙ sym (take_min upto trail)
    ] refl

-- so a value of the past is found by a search among the positions of its place
pub value_is : (q : RecKey) (trail : List Record) (noted upto : ℕ) (images : ByPlace) (last : Option ℕ) → AreImages trail noted images → min upto (length trail) ≤ noted →
    (IsNonDecreasing (positions_in images q) → last ≡ last_in (filter (λ p. nat_lt p upto) (positions_in images q))) → left_by trail last ≡ raw nothing (take upto trail) q
value_is q trail noted upto images last h far search_is =
    let cut = take (min upto (length trail)) trail in
    ap (left_by trail)
    (search_is (subst IsNonDecreasing (sym (h.each q)) (rising q 0 (take noted trail)))
    ∙ ap (λ (l : List ℕ). last_in (filter (λ p. nat_lt p upto) l)) (h.each q)
    ∙ ap last_in (below q upto 0 upto (take noted trail) (omega arith))
    ∙ ap (λ (l : List Record). last_in (positions_of q l)) (cut_noted trail upto noted far))
    ∙ left_last q trail (min upto (length trail)) (omega arith)
    ∙ ap (λ (l : List Record). raw nothing l q) (take_min upto trail)

-- one record more is noted
pub noted_turn : (trail : List Record) (n : ℕ) (r : Record) (old new : ByPlace) → n < length trail → r ≡ get_or trail n r → AreImages trail n old → ((q : RecKey) → positions_in new q ≡ positions_in old q ++ here q n r) → AreImages trail (n + 1) new
noted_turn trail n r old new within is h more = record {
  within = omega (arith, within);
  each = λ q. more q ∙ ap (λ (l : List ℕ). l ++ here q n r) (h.each q) ∙ sym (longer q);
}
  where
    cut_more : take (n + 1) trail ≡ take n trail ++ r ∷ []
    cut_more = let e : n + 1 ≡ suc n = omega arith in ap (λ (m : ℕ). take m trail) e ∙ take-suc trail n r within ∙ ap (λ (x : Record). take n trail ++ x ∷ []) (sym is)

    longer : (q : RecKey) → positions_of q (take (n + 1) trail) ≡ positions_of q (take n trail) ++ here q n r
    longer q =
        ap (positions_of q) cut_more ∙ positions_more q 0 (take n trail) r
        ∙ ap (λ (m : ℕ). positions_of q (take n trail) ++ here q m r) (omega (arith, length-take-le n trail (omega (arith, within))))
