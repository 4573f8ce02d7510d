-- What the calls keep of what was held.
use Rattle.std.proofs.Common.{◌≡◌, ◌≢◌, ◌⊎◌, inl, inr, ⊎_elim, ℕ, zero, suc, ◌<◌, ◌≤◌, Bool, true, false, ◌||◌, ◌==◌, nat_le, nat_lt, if◌then◌else◌, List, [], ◌∷◌, ◌++◌, map, length, get_or, Some, None, refl, sym, ◌∙◌, ap, subst, arith}
use Rattle.std.specs.List.{All, AllByRecursion, list_any}
use Rattle.std.proofs.lemmas.List.Elements.{All-get_or}
use Rattle.std.proofs.lemmas.Bool.Decides.{nat_tests}
use Rattle.std.proofs.lemmas.Bool.{ltb-true, ltb-false, eq-eqb}
use Rattle.rdf_types.specs.Limits.{is_trail}
use Rattle.rdf_types.specs.declared.layout.Layout.{Layout}
use Rattle.rdf_types.specs.declared.records.Record.{Record}
use Rattle.rdf_types.specs.declared.records.Record.TheVariants.{Image, Commit, Abort}
use Rattle.rdf_disk.specs.Files.{Disk, Contents}
use Rattle.rdf_disk.specs.Outcomes.{Durably}
use Rattle.rdf_gatelog.specs.Logs.{Logs}
use Rattle.image_disks.specs.Blocks.{Block, Plan, AreEntries}
use Rattle.image_disks.specs.Values.{Value, Alike, Shipment, received, kept, first_of, second_of, stages, stored, dropped, marked}
use Rattle.image_disks.specs.Standing.{Gen, end_of, first_start, AreGens, value_of, MeansBy, StandsFor, StandsForOne, StandsEither}
use Rattle.rdf_types.specs.declared.records.Phase.{Phase}
use Rattle.image_disks.specs.BlockLaws.{end_no_less}
use Rattle.image_disks.specs.StandingLaws.{start_rises, last_gen}
use Rattle.image_disks.specs.Held.{Holds, IsPartOf, IsPlan, StandingIsOrderly, StoreHolds, DropHolds}
use Rattle.image_disks.specs.ValueLaws.{holds_alike}
use Rattle.image_trails.specs.declared.memory.Memory.{Memory}
use Rattle.image_trails.specs.Memory.{IsInUse, plan_of, plan_in, value_in, files_of, has_files, home_of}
use Rattle.image_trails.specs.Keeps.{StandsHolding}
use Rattle.image_trails.specs.InUseLaws.{means_plain}

-- the layout's plan has a home for each record among the trails that have files
home_in : (l : List ℕ) (i : ℕ) → has_files l (get_or l i 0) ≡ true
home_in l i = go l i
  where
    or_right : (a b : Bool) → b ≡ true → (a || b) ≡ true
    or_right true b e = refl
    or_right false b e = e

    or_left : (a b : Bool) → a ≡ true → (a || b) ≡ true
    or_left true b e = refl
    or_left false b e = cc

    listed : (l : List ℕ) (i : ℕ) → (get_or l i 0 ≡ 0) ⊎ (list_any (λ n. n == get_or l i 0) l ≡ true)
    listed [] zero = inl refl
    listed [] (suc i) = inl refl
    listed (x ∷ l) zero = inr (or_left (x == x) (list_any (λ n. n == x) l) (eq-eqb x x refl))
    listed (x ∷ l) (suc i) = ⊎_elim (λ (e : get_or l i 0 ≡ 0). inl e) (λ (e : list_any (λ n. n == get_or l i 0) l ≡ true). inr (or_right (x == get_or l i 0) (list_any (λ n. n == get_or l i 0) l) e)) (listed l i)

    go : (l : List ℕ) (i : ℕ) → has_files l (get_or l i 0) ≡ true
    go l i = ⊎_elim
        (λ (e : get_or l i 0 ≡ 0). or_left (get_or l i 0 == 0) (list_any (λ n. n == get_or l i 0) l) (subst (λ (n : ℕ). (n == 0) ≡ true) (sym e) refl))
        (λ (e : list_any (λ n. n == get_or l i 0) l ≡ true). or_right (get_or l i 0 == 0) (list_any (λ n. n == get_or l i 0) l) e)
        (listed l i)

pub plan_is : (layout : Layout) → IsPlan (plan_of layout)
plan_is layout = record { master = refl; homes = homes }
  where
    under : (n : ℕ) → nat_le n 3 ≡ true → n < 4
    under n e = grind (arith, nat_tests, e)

    small : (l : List ℕ) (i : ℕ) → All (λ t. is_trail t ≡ true) l → get_or l i 0 < 4
    small l i all =
        elim (nat_lt i (length l)) as (λ b. nat_lt i (length l) ≡ b → get_or l i 0 < 4) [
          | true ↦ λ e. under (get_or l i 0) (All-get_or (λ t. is_trail t ≡ true) l i 0 (ltb-true i (length l) e) all)
          | false ↦ λ e. subst (λ (n : ℕ). n < 4) (sym (beyond l i (ltb-false i (length l) e))) (omega arith)
        ] refl
      where
        beyond : (l : List ℕ) (i : ℕ) → length l ≤ i → get_or l i 0 ≡ 0
        beyond [] zero h = refl
        beyond [] (suc i) h = refl
        beyond (x ∷ l) zero h = absurd (omega (arith, h))
        beyond (x ∷ l) (suc i) h = beyond l i (omega (arith, h))

    some_same : (a b : ℕ) → Some a ≡ Some b → a ≡ b
    some_same a b e = cc

    homes : (r : Record) (h : ℕ) → home_of layout.trail_of layout.protect r ≡ Some h → (h < 4) × (has_files layout.trail_of h ≡ true)
    homes (Image txn vol file key before after) h e =
        elim (get_or layout.protect vol false) as (λ b. (if b then Some (get_or layout.trail_of vol 0) else None) ≡ Some h → (h < 4) × (has_files layout.trail_of h ≡ true)) [
          | true ↦ λ e. let same : get_or layout.trail_of vol 0 ≡ h = some_same (get_or layout.trail_of vol 0) h e in (
            subst (λ (n : ℕ). n < 4) same (small layout.trail_of vol layout.few_trails),
            subst (λ (n : ℕ). has_files layout.trail_of n ≡ true) same (home_in layout.trail_of vol),
          )
          | false ↦ λ e. let clash : ⊥ = cc in absurd clash
        ] e
    homes (Commit txn) h e = let same : 0 ≡ h = some_same 0 h e in (subst (λ (n : ℕ). n < 4) same (omega arith), subst (λ (n : ℕ). has_files layout.trail_of n ≡ true) same refl)
    homes (Abort txn) h e = let same : 0 ≡ h = some_same 0 h e in (subst (λ (n : ℕ). n < 4) same (omega arith), subst (λ (n : ℕ). has_files layout.trail_of n ≡ true) same refl)

-- one for all: each value of the list keeps each trail
each_keeps : (plan : Plan) (H : List Record → Type 0) (vs : List Value) → ((trail : List Record) → H trail → AllByRecursion (Holds plan trail) vs) → AllByRecursion (λ w. (trail : List Record) → H trail → Holds plan trail w) vs
each_keeps plan H [] f = tt
each_keeps plan H (v ∷ vs) f = ((λ trail h. (f trail h).0), each_keeps plan H vs (λ trail h. (f trail h).1))

pub one_holding : (block_of : List ℕ → Block) (plan : Plan) (H : List Record → Type 0) (vs : List Value) (c : Contents) → AllByRecursion (λ w. (trail : List Record) → H trail → Holds plan trail w) vs → StandsForOne block_of plan vs c → StandsHolding block_of plan H c
one_holding block_of plan H [] c all none = absurd none
one_holding block_of plan H (v ∷ vs) c all one = ⊎_elim (λ (h : StandsFor block_of plan v c). (v, h, all.0)) (λ (h : StandsForOne block_of plan vs c). one_holding block_of plan H vs c all.1 h) one

starts_some : (block_of : List ℕ → Block) (plan : Plan) (logs : Logs) (files : List ℕ) (v : Value) → MeansBy block_of plan logs files v → v.starts ≢ []
starts_some block_of plan logs files v (older, last, s, alike, same) e = go older (alike.starts ∙ e)
  where
    go : (older : List Gen) → map (λ (g : Gen). g.start) older ++ last.start ∷ [] ≡ [] → ⊥
    go [] e = cc
    go (g ∷ older) e = cc

last_stored : (plan : Plan) (ship : Shipment) (v : Value) (P : Value → Type 0) → AllByRecursion P (stages plan ship v) → P (stored plan ship v)
last_stored plan ship v P all = all.1.1.1.1.1.0

-- a store keeps each trail of which the shipment is the part
module _ (standing_is_orderly : StandingIsOrderly) (store_holds : StoreHolds) (block_of : List ℕ → Block) (m : Memory) (old : Disk) (ship : Shipment) (use_ : IsInUse block_of m old) (fits : IsPlan (plan_in m))
    (es : AreEntries (λ r. true) ship.from ship.to ship.part) (joins : ship.from ≤ received (value_in m)) (some : received (value_in m) < ship.to) where
  abbrev plan : Plan
  plan = plan_in m

  abbrev v : Value
  v = value_in m

  all : (trail : List Record) → IsPartOf plan trail ship × Holds plan trail v → AllByRecursion (Holds plan trail) (stages plan ship v)
  all trail h =
      store_holds plan trail v ship fits (standing_is_orderly block_of plan use_.logs v refl (means_plain block_of plan use_.logs (files_of m.generations) v use_.means)) h.1
      (starts_some block_of plan use_.logs (files_of m.generations) v use_.means) h.0 es joins some

  pub store_keeps : (w : Value) → Alike w (stored plan ship v) → (trail : List Record) → IsPartOf plan trail ship × Holds plan trail v → Holds plan trail w
  store_keeps w a trail h =
      holds_alike plan trail (stored plan ship v) w
      (record { starts = sym a.starts; last = sym a.last; phase = sym a.phase; top = λ t tl. sym (a.top t tl); entry = λ t i tl. sym (a.entry t i tl) })
      (last_stored plan ship v (Holds plan trail) (all trail h))

  pub store_leaves : (new : Disk) → Durably new (StandsForOne block_of plan (stages plan ship v)) → Durably new (StandsHolding block_of plan (λ trail. IsPartOf plan trail ship × Holds plan trail v))
  store_leaves new one c may = one_holding block_of plan (λ trail. IsPartOf plan trail ship × Holds plan trail v) (stages plan ship v) c
      (each_keeps plan (λ trail. IsPartOf plan trail ship × Holds plan trail v) (stages plan ship v) all) (one c may)

-- what a mark and a drop keep
pub either_holding : (block_of : List ℕ → Block) (plan : Plan) (H : List Record → Type 0) (v w : Value) (new : Disk) → ((trail : List Record) → H trail → Holds plan trail v) → ((trail : List Record) → H trail → Holds plan trail w)
    → Durably new (StandsEither block_of plan v w) → Durably new (StandsHolding block_of plan H)
either_holding block_of plan H v w new hv hw either c may = ⊎_elim (λ (h : StandsFor block_of plan v c). (v, h, hv)) (λ (h : StandsFor block_of plan w c). (w, h, hw)) (either c may)

pub mark_keeps : (plan : Plan) (trail : List Record) (phase : Phase) (v : Value) → Holds plan trail v → Holds plan trail (marked phase v)
mark_keeps plan trail phase v h = record { long = h.long; part = h.part; ahead = h.ahead }

drop_premises : (block_of : List ℕ → Block) (plan : Plan) (logs : Logs) (files : List ℕ) (v : Value) → 2 ≤ length v.starts → MeansBy block_of plan logs files v → (kept v ≤ second_of v.starts) × (second_of v.starts ≤ received v)
drop_premises block_of plan logs files v two (older, last, s, alike, same) = go older s.gens alike
  where
    second_is : (older : List Gen) (n : ℕ) → second_of (n ∷ (map (λ (g : Gen). g.start) older ++ last.start ∷ [])) ≡ first_start older last
    second_is [] n = refl
    second_is (g ∷ older) n = refl

    go : (older : List Gen) → AreGens plan older last → Alike (value_of older last) v → (kept v ≤ second_of v.starts) × (second_of v.starts ≤ received v)
    go [] gens alike = absurd (omega (arith, two, ap length alike.starts))
    go (g ∷ older) gens alike =
        let k : kept v ≡ g.start = ap first_of (sym alike.starts) in
        let n : second_of v.starts ≡ first_start older last = ap second_of (sym alike.starts) ∙ second_is older g.start in
        let up : g.start ≤ end_of g 0 = end_no_less plan 0 g.start (g.blocks 0) (gens.0.in_place 0) in
        let far : last.start ≤ end_of last 0 = end_no_less plan 0 last.start (last.blocks 0) ((last_gen plan older last gens.3).in_place 0) in
        let r : end_of last 0 ≡ received v = alike.top 0 (omega arith) in
        (omega (arith, k, n, up, gens.2), omega (arith, n, r, far, start_rises plan older last gens.3))

pub drop_keeps : DropHolds → (block_of : List ℕ → Block) (plan : Plan) (logs : Logs) (files : List ℕ) (trail : List Record) (v : Value) → 2 ≤ length v.starts → MeansBy block_of plan logs files v → Holds plan trail v → Holds plan trail (dropped v)
drop_keeps drop_holds block_of plan logs files trail v two means h =
    let both = drop_premises block_of plan logs files v two means in
    drop_holds plan trail v h both.0 both.1
