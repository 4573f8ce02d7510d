-- Each part of a store holds what was held before.
use Rattle.std.proofs.Common.{◌≡◌, ◌≢◌, ◌⊎◌, inl, inr, ℕ, zero, suc, ◌+◌, ◌<◌, ◌≤◌, Bool, true, false, ◌&&◌, ◌==◌, nat_le, nat_lt, if◌then◌else◌, List, [], ◌∷◌, ◌++◌, length, slice_get, Option, Some, None, refl, sym, ◌∙◌, ap, ap₂, subst, arith}
use Rattle.std.proofs.lemmas.Bool.{cases_eq, eq-eqb, ne_eqb, le-leb, lt-leb, lt-ltb}
use Rattle.std.proofs.lemmas.Bool.Decides.{nat_tests}
use Rattle.std.proofs.Math.Bool.{and-true, and-false}
use Rattle.rdf_types.specs.declared.records.Record.{Record}
use Rattle.rdf_types.specs.declared.records.Stamped.{Stamped}
use Rattle.image_disks.specs.Blocks.{Plan, is_at, keeps, found, AreEntries, kept_of}
use Rattle.image_disks.specs.Values.{Value, Shipment, received, kept, merged, or_else, with_block, first_of}
use Rattle.image_disks.specs.Held.{is_kept, only_if, concerned, on_trail, Holds, IsPartOf, IsPlan, IsOrderly, SecondaryHolds, MasterHolds, RollHolds}
use Rattle.image_disks.specs.BlockLaws.{found_before, if_both}

module _ (plan : Plan) (t top : ℕ) (s : Stamped) (rest : List Stamped) (i : ℕ) (above : top ≤ i)
    (later : found (kept_of plan t top rest) i ≡ only_if (keeps plan t) (found rest i)) (none_later : s.pos ≡ i → found rest i ≡ None) where
  found-if : (b : Bool) → found (if b then s ∷ kept_of plan t top rest else kept_of plan t top rest) i ≡ (if b then (if s.pos == i then Some s.rec else found (kept_of plan t top rest) i) else found (kept_of plan t top rest) i)
  found-if true = refl
  found-if false = refl

  test_here : s.pos ≡ i → (keeps plan t s.rec && nat_le top s.pos) ≡ keeps plan t s.rec
  test_here here = ap (λ (b : Bool). keeps plan t s.rec && b) (le-leb top s.pos (omega arith)) ∙ and-true (keeps plan t s.rec)

  same_head : (x : Option Record) → s.pos ≡ i → (if s.pos == i then Some s.rec else x) ≡ Some s.rec
  same_head x here = ap (λ (b : Bool). if b then Some s.rec else x) (eq-eqb s.pos i here)

  other_head : (x : Option Record) → s.pos ≢ i → (if s.pos == i then Some s.rec else x) ≡ x
  other_head x other = ap (λ (b : Bool). if b then Some s.rec else x) (ne_eqb s.pos i other)

  head-here : s.pos ≡ i → found (kept_of plan t top (s ∷ rest)) i ≡ only_if (keeps plan t) (found (s ∷ rest) i)
  head-here here =
      found-if (keeps plan t s.rec && nat_le top s.pos)
      ∙ ap₂ (λ (b : Bool) (x : Option Record). if b then x else found (kept_of plan t top rest) i) (test_here here) (same_head (found (kept_of plan t top rest) i) here)
      ∙ ap (λ (x : Option Record). if keeps plan t s.rec then Some s.rec else x) (later ∙ ap (only_if (keeps plan t)) (none_later here))
      ∙ sym (ap (only_if (keeps plan t)) (same_head (found rest i) here))

  head-other : s.pos ≢ i → found (kept_of plan t top (s ∷ rest)) i ≡ only_if (keeps plan t) (found (s ∷ rest) i)
  head-other other =
      found-if (keeps plan t s.rec && nat_le top s.pos)
      ∙ ap (λ (x : Option Record). if keeps plan t s.rec && nat_le top s.pos then x else found (kept_of plan t top rest) i) (other_head (found (kept_of plan t top rest) i) other)
      ∙ if_both (keeps plan t s.rec && nat_le top s.pos) (found (kept_of plan t top rest) i)
      ∙ later
      ∙ sym (ap (only_if (keeps plan t)) (other_head (found rest i) other))

  head : found (kept_of plan t top (s ∷ rest)) i ≡ only_if (keeps plan t) (found (s ∷ rest) i)
  head = elim (cases_eq s.pos i) [ inl here ↦ head-here here | inr other ↦ head-other other ]

-- what a trail keeps of a shipment, at a position
pub found-kept : (plan : Plan) (t top from to : ℕ) (part : List Stamped) (i : ℕ) → AreEntries (λ r. true) from to part → top ≤ i → found (kept_of plan t top part) i ≡ only_if (keeps plan t) (found part i)
found-kept plan t top from to [] i es above = refl
found-kept plan t top from to (s ∷ rest) i es above =
    head plan t top s rest i above (found-kept plan t top (s.pos + 1) to rest i es.3 above) (λ here. found_before (λ r. true) (s.pos + 1) to rest i es.3 (omega arith))

push_if : (f : Record → Bool) (r : Record) (b : Bool) → only_if f (if b then Some r else None) ≡ (if b then (if f r then Some r else None) else None)
push_if f r true = refl
push_if f r false = refl

at_or_none : (r : Record) (h : Option ℕ) (t : ℕ) → (if is_kept h then (if is_at h t then Some r else None) else None) ≡ (if is_at h t then Some r else None)
at_or_none r None t = refl
at_or_none r (Some h) t = refl

-- what a trail keeps of what some trail keeps
pub only-both : (plan : Plan) (t : ℕ) (x : Option Record) → only_if (keeps plan t) (only_if (λ r. is_kept (plan.home r)) x) ≡ only_if (keeps plan t) x
only-both plan t None = refl
only-both plan t (Some r) = push_if (keeps plan t) r (is_kept (plan.home r)) ∙ at_or_none r (plan.home r) t

-- the trails together have what some trail keeps
pub merged-all : (plan : Plan) → IsPlan plan → (x : Option Record) → or_else (only_if (keeps plan 0) x) (or_else (only_if (keeps plan 1) x) (or_else (only_if (keeps plan 2) x) (only_if (keeps plan 3) x))) ≡ only_if (λ r. is_kept (plan.home r)) x
merged-all plan fits None = refl
merged-all plan fits (Some r) = by_home (plan.home r) refl
  where
    at_home : (h : ℕ) → h < 4 → or_else (if h == 0 then Some r else None) (or_else (if h == 1 then Some r else None) (or_else (if h == 2 then Some r else None) (if h == 3 then Some r else None))) ≡ Some r
    at_home zero low = refl
    at_home (suc zero) low = refl
    at_home (suc (suc zero)) low = refl
    at_home (suc (suc (suc zero))) low = refl
    at_home (suc (suc (suc (suc h)))) low = absurd (omega (arith, low))

    by_home : (h : Option ℕ) → plan.home r ≡ h → or_else (if is_at h 0 then Some r else None) (or_else (if is_at h 1 then Some r else None) (or_else (if is_at h 2 then Some r else None) (if is_at h 3 then Some r else None))) ≡ (if is_kept h then Some r else None)
    by_home None e = refl
    by_home (Some h) e = at_home h (fits.homes r h e).0

-- an unused trail keeps nothing
pub unused-none : (plan : Plan) → IsPlan plan → (t : ℕ) → plan.used t ≡ false → (x : Option Record) → only_if (keeps plan t) x ≡ None
unused-none plan fits t unused None = refl
unused-none plan fits t unused (Some r) = by_home plan fits t unused r (plan.home r) refl
  where
    by_home : (plan : Plan) → IsPlan plan → (t : ℕ) → plan.used t ≡ false → (r : Record) (h : Option ℕ) → plan.home r ≡ h → (if is_at h t then Some r else None) ≡ None
    by_home plan fits t unused r None e = refl
    by_home plan fits t unused r (Some h) e =
        elim (cases_eq h t) [
          | inl same ↦ let clash : true ≡ false = sym (fits.homes r h e).1 ∙ ap plan.used same ∙ unused in cc
          | inr other ↦ ap (λ (b : Bool). if b then Some r else None) (ne_eqb h t other)
        ]

-- what a secondary's block adds is the trail's
module _ (plan : Plan) (fits : IsPlan plan) (trail : List Record) (v : Value) (ship : Shipment) (h : Holds plan trail v) (p : IsPartOf plan trail ship)
    (es : AreEntries (λ r. true) ship.from ship.to ship.part) (joins : ship.from ≤ received v) (some : received v < ship.to) where
  pub block-has : (t i : ℕ) → ship.from ≤ v.top t → v.top t ≤ i → i < ship.to → found (kept_of plan t (v.top t) ship.part) i ≡ on_trail plan t trail i
  block-has t i starts above below =
      found-kept plan t (v.top t) ship.from ship.to ship.part i es above
      ∙ ap (only_if (keeps plan t)) (p.part i (omega arith) below)
      ∙ only-both plan t (slice_get trail i)

module _ (plan : Plan) (fits : IsPlan plan) (trail : List Record) (v : Value) (ship : Shipment) (o : IsOrderly plan v) (h : Holds plan trail v) (p : IsPartOf plan trail ship)
    (es : AreEntries (λ r. true) ship.from ship.to ship.part) (joins : ship.from ≤ received v) (some : received v < ship.to) where
  pub entry-other : (t u i : ℕ) → u ≢ t → (with_block plan t ship v).entry u i ≡ v.entry u i
  entry-other t u i other = ap (λ (b : Bool). if b && nat_le (v.top t) i then found (kept_of plan t (v.top t) ship.part) i else v.entry u i) (ne_eqb u t other)

  entry-below : (t u i : ℕ) → i < v.top t → (with_block plan t ship v).entry u i ≡ v.entry u i
  entry-below t u i below = ap (λ (b : Bool). if b then found (kept_of plan t (v.top t) ship.part) i else v.entry u i) (ap (λ (b : Bool). (u == t) && b) (lt-leb (v.top t) i below) ∙ and-false (u == t))

  entry-new : (t i : ℕ) → v.top t ≤ i → (with_block plan t ship v).entry t i ≡ found (kept_of plan t (v.top t) ship.part) i
  entry-new t i above = ap₂ (λ (a b : Bool). if a && b then found (kept_of plan t (v.top t) ship.part) i else v.entry t i) (eq-eqb t t refl) (le-leb (v.top t) i above)

  pub top-new : (t : ℕ) → (with_block plan t ship v).top t ≡ ship.to
  top-new t = ap (λ (b : Bool). if b then ship.to else v.top t) (eq-eqb t t refl)

  pub top-other : (t u : ℕ) → u ≢ t → (with_block plan t ship v).top u ≡ v.top u
  top-other t u other = ap (λ (b : Bool). if b then ship.to else v.top u) (ne_eqb u t other)

  merged_by : (w : Value) (i : ℕ) → ((u : ℕ) → u < 4 → w.entry u i ≡ v.entry u i) → merged w i ≡ merged v i
  merged_by w i same = ap₂ or_else (same 0 (omega arith)) (ap₂ or_else (same 1 (omega arith)) (ap₂ or_else (same 2 (omega arith)) (same 3 (omega arith))))

  -- a secondary's block
  pub holds-second : (t : ℕ) → t < 4 → t ≢ 0 → plan.used t ≡ true → Holds plan trail (with_block plan t ship v)
  holds-second t tl second used = record {
    long = λ u ul uu. elim (cases_eq u t) [
      | inl same ↦ subst (λ (x : ℕ). (with_block plan t ship v).top x ≤ length trail) (sym same) (omega (arith, top-new t, p.long))
      | inr other ↦ omega (arith, top-other t u other, h.long u ul uu)
    ];
    part = λ i above below.
        let zero_top = top-other t 0 (λ e. second (sym e)) in
        let lower : i < received v = omega (arith, below, zero_top) in
        merged_by (with_block plan t ship v) i (λ u ul. entry-below t u i (omega (arith, o.ahead t tl used))) ∙ h.part i above lower;
    ahead = λ u i ul uu above below.
        let zero_top = top-other t 0 (λ e. second (sym e)) in
        let above2 : received v ≤ i = omega (arith, above, zero_top) in
        elim (cases_eq u t) [
          | inl same ↦ subst (λ (x : ℕ). (with_block plan t ship v).entry x i ≡ on_trail plan x trail i) (sym same) (here t tl used i above2 (omega (arith, top-new t, subst (λ (x : ℕ). i < (with_block plan t ship v).top x) same below)))
          | inr other ↦ entry-other t u i other ∙ h.ahead u i ul uu above2 (omega (arith, below, top-other t u other))
        ];
  }
    where
      here : (t : ℕ) → t < 4 → plan.used t ≡ true → (i : ℕ) → received v ≤ i → i < ship.to → (with_block plan t ship v).entry t i ≡ on_trail plan t trail i
      here t tl used i above below =
          elim (cases_below i (v.top t)) [
            | inl lower ↦ entry-below t t i lower ∙ h.ahead t i tl used above lower
            | inr higher ↦ entry-new t i higher ∙ block-has plan fits trail v ship h p es joins some t i (omega (arith, o.ahead t tl used)) higher below
          ]
        where
          cases_below : (a b : ℕ) → (a < b) ⊎ (b ≤ a)
          cases_below a b = elim (nat_lt a b) as (λ c. nat_lt a b ≡ c → (a < b) ⊎ (b ≤ a)) [ true ↦ λ e. inl (grind (arith, nat_tests, e)) | false ↦ λ e. inr (grind (arith, nat_tests, e)) ] refl

  -- the master's block, once each secondary has its own
  pub holds-master : plan.used 0 ≡ true → ((u : ℕ) → u < 4 → plan.used u ≡ true → u ≢ 0 → ship.to ≤ v.top u) → Holds plan trail (with_block plan 0 ship v)
  holds-master used order = record {
    long = λ u ul uu. elim (cases_eq u 0) [
      | inl same ↦ subst (λ (x : ℕ). (with_block plan 0 ship v).top x ≤ length trail) (sym same) p.long
      | inr other ↦ omega (arith, top-other 0 u other, h.long u ul uu)
    ];
    part = λ i above below.
        elim (nat_lt i (received v)) as (λ c. nat_lt i (received v) ≡ c → merged (with_block plan 0 ship v) i ≡ concerned plan trail i) [
          | true ↦ λ e. let lower : i < received v = grind (arith, nat_tests, e) in merged_by (with_block plan 0 ship v) i (λ u ul. entry-below 0 u i lower) ∙ h.part i above lower
          | false ↦ λ e. let higher : received v ≤ i = grind (arith, nat_tests, e) in
              ap₂ or_else (entry-new 0 i higher ∙ block-has plan fits trail v ship h p es joins some 0 i joins higher below)
              (ap₂ or_else (second 1 i (omega arith) (omega arith) higher below) (ap₂ or_else (second 2 i (omega arith) (omega arith) higher below) (second 3 i (omega arith) (omega arith) higher below)))
              ∙ merged-all plan fits (slice_get trail i)
        ] refl;
    ahead = λ u i ul uu above below. elim (cases_eq u 0) [
      | inl same ↦ absurd (omega (arith, subst (λ (x : ℕ). i < (with_block plan 0 ship v).top x) same below, above))
      | inr other ↦ entry-other 0 u i other ∙ h.ahead u i ul uu (omega (arith, above, some)) (omega (arith, below, top-other 0 u other))
    ];
  }
    where
      second : (u i : ℕ) → u < 4 → u ≢ 0 → received v ≤ i → i < ship.to → (with_block plan 0 ship v).entry u i ≡ on_trail plan u trail i
      second u i ul other higher below =
          entry-other 0 u i other
          ∙ elim (plan.used u) as (λ b. plan.used u ≡ b → v.entry u i ≡ on_trail plan u trail i) [
            | true ↦ λ e. h.ahead u i ul e higher (omega (arith, order u ul e other))
            | false ↦ λ e. o.empty u i ul e ∙ sym (unused-none plan fits u e (slice_get trail i))
          ] refl

pub secondary_holds : SecondaryHolds
secondary_holds plan trail v ship t fits o h p es joins some tl second used = holds-second plan fits trail v ship o h p es joins some t tl second used

pub master_holds : MasterHolds
master_holds plan trail v ship fits o h p es joins some order = holds-master plan fits trail v ship o h p es joins some (o-used plan fits) order
  where
    o-used : (plan : Plan) → IsPlan plan → plan.used 0 ≡ true
    o-used plan fits = fits.master

first-more : (l : List ℕ) (x : ℕ) → l ≢ [] → first_of (l ++ x ∷ []) ≡ first_of l
first-more [] x some = absurd (some refl)
first-more (y ∷ l) x some = refl

pub roll_holds : RollHolds
roll_holds plan trail v h some o used = record {
  long = λ t tl tu. h.long 0 (omega arith) used;
  part = λ i above below.
      let above2 : kept v ≤ i = omega (arith, above, first-more v.starts (received v) some) in
      let low : nat_lt i (received v) ≡ true = lt-ltb i (received v) below in
      ap (λ (b : Bool). or_else (if b then v.entry 0 i else None) (or_else (if b then v.entry 1 i else None) (or_else (if b then v.entry 2 i else None) (if b then v.entry 3 i else None)))) low
      ∙ h.part i above2 below;
  ahead = λ t i tl tu above below. absurd (omega (arith, above, below));
}
