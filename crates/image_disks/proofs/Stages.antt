-- All values that a store passes through.
use Rattle.std.proofs.Common.{◌≡◌, ◌≢◌, inl, inr, ℕ, ◌<◌, ◌≤◌, Bool, true, false, ◌&&◌, nat_lt, if◌then◌else◌, List, [], Option, None, refl, sym, ◌∙◌, ap, arith}
use Rattle.std.specs.List.{AllByRecursion}
use Rattle.std.proofs.lemmas.Bool.{cases_eq, eq-eqb, ne_eqb}
use Rattle.rdf_types.specs.declared.records.Record.{Record}
use Rattle.image_disks.specs.Blocks.{Plan, AreEntries}
use Rattle.image_disks.specs.Values.{Value, Shipment, received, with_block, written, is_behind, rolls, rolled, ready, stages}
use Rattle.image_disks.specs.Held.{Holds, IsPartOf, IsPlan, IsOrderly, StoreHolds}
use Rattle.image_disks.specs.ValueLaws.{rises_to}
use Rattle.image_disks.proofs.Holding.{secondary_holds, master_holds, roll_holds, entry-other}

and_left : (a b : Bool) → (a && b) ≡ true → a ≡ true
and_left true b e = refl
and_left false b e = cc

module _ (plan : Plan) (trail : List Record) (ship : Shipment) (fits : IsPlan plan) (p : IsPartOf plan trail ship) (es : AreEntries (λ r. true) ship.from ship.to ship.part) where
  record IsFine (v : Value) : Type 0 where
    holds : Holds plan trail v
    orderly : IsOrderly plan v
    joins : ship.from ≤ received v
    some : received v < ship.to

  second-block : (t : ℕ) (v : Value) → t < 4 → t ≢ 0 → plan.used t ≡ true → IsFine v → IsFine (with_block plan t ship v)
  second-block t v tl second used f =
      let zero_top : (with_block plan t ship v).top 0 ≡ v.top 0 = ap (λ (b : Bool). if b then ship.to else v.top 0) (ne_eqb 0 t (λ e. second (sym e))) in
      record {
        holds = secondary_holds plan trail v ship t fits f.orderly f.holds p es f.joins f.some tl second used;
        orderly = record {
          ahead = λ u ul uu. elim (cases_eq u t) [
            | inl same ↦ let here : (with_block plan t ship v).top u ≡ ship.to = ap (λ (b : Bool). if b then ship.to else v.top u) (eq-eqb u t same) in omega (arith, zero_top, here, f.some)
            | inr other ↦ let here : (with_block plan t ship v).top u ≡ v.top u = ap (λ (b : Bool). if b then ship.to else v.top u) (ne_eqb u t other) in omega (arith, zero_top, here, f.orderly.ahead u ul uu)
          ];
          empty = λ u i ul uu. elim (cases_eq u t) [
            | inl same ↦ let clash : true ≡ false = sym used ∙ ap plan.used (sym same) ∙ uu in cc
            | inr other ↦ entry-other plan fits trail v ship f.orderly f.holds p es f.joins f.some t u i other ∙ f.orderly.empty u i ul uu
          ];
        };
        joins = omega (arith, zero_top, f.joins);
        some = omega (arith, zero_top, f.some);
      }

  second-written : (t : ℕ) (v : Value) → t < 4 → t ≢ 0 → IsFine v → IsFine (written plan ship t v)
  second-written t v tl second f =
      elim (is_behind plan t ship v) as (λ b. is_behind plan t ship v ≡ b → IsFine (if b then with_block plan t ship v else v)) [
        | true ↦ λ e. second-block t v tl second (and_left (plan.used t) (nat_lt (v.top t) ship.to) e) f
        | false ↦ λ e. f
      ] refl

  none_if : (b : Bool) (x : Option Record) → x ≡ None → (if b then x else None) ≡ None
  none_if true x e = e
  none_if false x e = refl

  rolled-fine : (v : Value) → v.starts ≢ [] → IsFine v → IsFine (rolled v)
  rolled-fine v some f = record {
    holds = roll_holds plan trail v f.holds some f.orderly fits.master;
    orderly = record { ahead = λ t tl tu. omega arith; empty = λ t i tl tu. none_if (nat_lt i (received v)) (v.entry t i) (f.orderly.empty t i tl tu) };
    joins = f.joins;
    some = f.some;
  }

  ready-fine : (v : Value) → v.starts ≢ [] → IsFine v → IsFine (ready plan v)
  ready-fine v some f = elim (rolls plan v) as (λ b. IsFine (if b then rolled v else v)) [ true ↦ rolled-fine v some f | false ↦ f ]

  master-written : (v : Value) → ((u : ℕ) → u < 4 → plan.used u ≡ true → u ≢ 0 → ship.to ≤ v.top u) → IsFine v → Holds plan trail (written plan ship 0 v)
  master-written v order f =
      elim (is_behind plan 0 ship v) as (λ b. Holds plan trail (if b then with_block plan 0 ship v else v)) [
        | true ↦ master_holds plan trail v ship fits f.orderly f.holds p es f.joins f.some order
        | false ↦ f.holds
      ]

  all_hold : (v : Value) → v.starts ≢ [] → IsFine v → AllByRecursion (Holds plan trail) (stages plan ship v)
  all_hold v some f =
      let r = ready plan v in
      let fr : IsFine r = ready-fine v some f in
      let f1 = second-written 1 r (omega arith) (omega arith) fr in
      let f2 = second-written 2 (written plan ship 1 r) (omega arith) (omega arith) f1 in
      let f3 = second-written 3 (written plan ship 2 (written plan ship 1 r)) (omega arith) (omega arith) f2 in
      (f.holds, (fr.holds, (f1.holds, (f2.holds, (f3.holds, (master-written (written plan ship 3 (written plan ship 2 (written plan ship 1 r))) (λ u ul uu second. rises_to plan ship r u ul second uu) f3, tt))))))

pub store_holds : StoreHolds
store_holds plan trail v ship fits o h starts p es joins some = all_hold plan trail ship fits p es v starts (record { holds = h; orderly = o; joins = joins; some = some })
