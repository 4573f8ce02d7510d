-- Laws of alike values.
use Rattle.std.proofs.Common.{◌≡◌, ◌≢◌, inl, inr, ℕ, ◌+◌, ◌-◌, ◌<◌, ◌≤◌, Bool, true, false, ◌&&◌, ◌==◌, nat_le, nat_lt, if◌then◌else◌, List, [], ◌∷◌, ◌++◌, length, Option, None, refl, sym, ◌∙◌, ap, ap₂, subst, arith}
use Rattle.std.proofs.lemmas.Bool.{cases_eq, eq-eqb}
use Rattle.std.proofs.lemmas.Bool.Decides.{nat_tests}
use Rattle.rdf_types.specs.declared.records.Record.{Record}
use Rattle.image_disks.specs.Blocks.{Plan, found, kept_of}
use Rattle.image_disks.specs.Values.{Value, Alike, Shipment, with_block, written, is_behind, ready, rolls, rolled, received, kept, merged, or_else, first_of, last_of}
use Rattle.image_disks.specs.Held.{Holds}

-- a value is alike to itself
pub alike_itself : (v : Value) → Alike v v
alike_itself v = record { starts = refl; last = refl; phase = refl; top = λ t tl. refl; entry = λ t i tl. refl }

-- alike values are so in either order
pub alike_sym : (v w : Value) → Alike v w → Alike w v
alike_sym v w a = record { starts = sym a.starts; last = sym a.last; phase = sym a.phase; top = λ t tl. sym (a.top t tl); entry = λ t i tl. sym (a.entry t i tl) }

-- a value alike to one that is alike to a third is alike to that
pub alike_trans : (u v w : Value) → Alike u v → Alike v w → Alike u w
alike_trans u v w a b = record {
  starts = a.starts ∙ b.starts;
  last = a.last ∙ b.last;
  phase = a.phase ∙ b.phase;
  top = λ t tl. a.top t tl ∙ b.top t tl;
  entry = λ t i tl. a.entry t i tl ∙ b.entry t i tl;
}

-- a choice between alike values is alike
pub if_alike : (b : Bool) (x y z w : Value) → Alike x z → Alike y w → Alike (if b then x else y) (if b then z else w)
if_alike true x y z w a b = a
if_alike false x y z w a b = b

-- ---- the parts of a store

with_block-alike : (plan : Plan) (ship : Shipment) (t : ℕ) (v w : Value) → t < 4 → Alike v w → Alike (with_block plan t ship v) (with_block plan t ship w)
with_block-alike plan ship t v w tl a = record {
  starts = a.starts;
  last = a.last;
  phase = a.phase;
  top = λ u ul. ap (λ (n : ℕ). if u == t then ship.to else n) (a.top u ul);
  entry = λ u i ul. ap₂ (λ (n : ℕ) (x : Option Record). if (u == t) && nat_le n i then found (kept_of plan t n ship.part) i else x) (a.top t tl) (a.entry u i ul);
}

-- one trail's part doesn't tell alike values apart
pub written-alike : (plan : Plan) (ship : Shipment) (t : ℕ) (v w : Value) → t < 4 → Alike v w → Alike (written plan ship t v) (written plan ship t w)
written-alike plan ship t v w tl a =
    subst (λ (n : ℕ). Alike (written plan ship t v) (if plan.used t && nat_lt n ship.to then with_block plan t ship w else w)) (a.top t tl)
    (if_alike (is_behind plan t ship v) (with_block plan t ship v) v (with_block plan t ship w) w (with_block-alike plan ship t v w tl a) a)

-- after a trail's part it isn't behind
written-top : (plan : Plan) (ship : Shipment) (t : ℕ) (v : Value) → plan.used t ≡ true → ship.to ≤ (written plan ship t v).top t
written-top plan ship t v used =
    elim (is_behind plan t ship v) as (λ b. is_behind plan t ship v ≡ b → ship.to ≤ (if b then with_block plan t ship v else v).top t) [
      | true ↦ λ e. let here : (if t == t then ship.to else v.top t) ≡ ship.to = ap (λ (b : Bool). if b then ship.to else v.top t) (eq-eqb t t refl) in omega (arith, here)
      | false ↦ λ e. not_behind (plan.used t) (v.top t) ship.to used e
    ] refl
  where
    not_behind : (b : Bool) (x y : ℕ) → b ≡ true → (b && nat_lt x y) ≡ false → y ≤ x
    not_behind true x y e f = grind (arith, nat_tests, f)
    not_behind false x y e f = cc

-- and no top falls
written-rises : (plan : Plan) (ship : Shipment) (t u : ℕ) (v : Value) → ship.to ≤ v.top u → ship.to ≤ (written plan ship t v).top u
written-rises plan ship t u v h =
    elim (is_behind plan t ship v) as (λ b. ship.to ≤ (if b then with_block plan t ship v else v).top u) [
      | true ↦ elim (u == t) as (λ b. ship.to ≤ (if b then ship.to else v.top u)) [ true ↦ omega arith | false ↦ h ]
      | false ↦ h
    ]

-- after the secondaries' parts none of them is behind
pub rises_to : (plan : Plan) (ship : Shipment) (v : Value) (u : ℕ) → u < 4 → u ≢ 0 → plan.used u ≡ true → ship.to ≤ (written plan ship 3 (written plan ship 2 (written plan ship 1 v))).top u
rises_to plan ship v u ul second used =
    let v1 = written plan ship 1 v in
    let v2 = written plan ship 2 v1 in
    elim (cases_eq u 1) [
      | inl one ↦ written-rises plan ship 3 u v2 (written-rises plan ship 2 u v1 (subst (λ (x : ℕ). ship.to ≤ (written plan ship 1 v).top x) (sym one) (written-top plan ship 1 v (subst (λ (x : ℕ). plan.used x ≡ true) one used))))
      | inr more ↦ elim (cases_eq u 2) [
        | inl two ↦ written-rises plan ship 3 u v2 (subst (λ (x : ℕ). ship.to ≤ (written plan ship 2 v1).top x) (sym two) (written-top plan ship 2 v1 (subst (λ (x : ℕ). plan.used x ≡ true) two used)))
        | inr last ↦ let three : u ≡ 3 = omega arith in subst (λ (x : ℕ). ship.to ≤ (written plan ship 3 v2).top x) (sym three) (written-top plan ship 3 v2 (subst (λ (x : ℕ). plan.used x ≡ true) three used))
      ]
    ]

rolled-alike : (v w : Value) → Alike v w → Alike (rolled v) (rolled w)
rolled-alike v w a = record {
  starts = ap₂ (λ (l : List ℕ) (n : ℕ). l ++ n ∷ []) a.starts (a.top 0 (omega arith));
  last = ap (λ (n : ℕ). n + 1) a.last;
  phase = a.phase;
  top = λ t tl. a.top 0 (omega arith);
  entry = λ t i tl. ap₂ (λ (n : ℕ) (x : Option Record). if nat_lt i n then x else None) (a.top 0 (omega arith)) (a.entry t i tl);
}

-- making ready doesn't tell alike values apart
pub ready-alike : (plan : Plan) (v w : Value) → Alike v w → Alike (ready plan v) (ready plan w)
ready-alike plan v w a =
    let same : rolls plan v ≡ rolls plan w =
    ap₂ (λ (n k : ℕ). nat_le plan.extent (n - k) && nat_lt v.last 1000000000) (a.top 0 (omega arith)) (ap last_of a.starts) ∙ ap (λ (n : ℕ). nat_le plan.extent (received w - last_of w.starts) && nat_lt n 1000000000) a.last in
    subst (λ (b : Bool). Alike (ready plan v) (if b then rolled w else w)) same
    (if_alike (rolls plan v) (rolled v) v (rolled w) w (rolled-alike v w a) a)

-- ---- what is held

merged_alike : (v w : Value) (i : ℕ) → Alike v w → merged w i ≡ merged v i
merged_alike v w i a = ap₂ or_else (sym (a.entry 0 i (omega arith))) (ap₂ or_else (sym (a.entry 1 i (omega arith))) (ap₂ or_else (sym (a.entry 2 i (omega arith))) (sym (a.entry 3 i (omega arith)))))

-- alike values hold the same trails
pub holds_alike : (plan : Plan) (trail : List Record) (v w : Value) → Alike v w → Holds plan trail v → Holds plan trail w
holds_alike plan trail v w a h =
    let r : received v ≡ received w = a.top 0 (omega arith) in
    let k : kept v ≡ kept w = ap first_of a.starts in
    record {
      long = λ t tl tu. subst (λ (n : ℕ). n ≤ length trail) (a.top t tl) (h.long t tl tu);
      part = λ i above below. merged_alike v w i a ∙ h.part i (omega (arith, above, k)) (omega (arith, below, r));
      ahead = λ t i tl tu above below. sym (a.entry t i tl) ∙ h.ahead t i tl tu (omega (arith, above, r)) (omega (arith, below, a.top t tl));
    }
