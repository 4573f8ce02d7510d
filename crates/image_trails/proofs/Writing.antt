-- One trail's part of a shipment.
use Rattle.std.proofs.Common.{◌≡◌, ◌≢◌, inl, inr, ℕ, ◌+◌, ◌*◌, ◌<◌, ◌≤◌, max, Bool, true, false, ◌&&◌, ◌==◌, nat_le, nat_lt, if◌then◌else◌, List, [], ◌++◌, length, get_or, set, Option, refl, sym, ◌∙◌, ap, ap₂, subst, arith}
use Rattle.std.proofs.lemmas.Bool.{cases_eq, ne_eqb, eq-eqb, lt-ltb}
use Rattle.std.proofs.lemmas.Bool.Decides.{nat_tests}
use Rattle.std.proofs.lemmas.List.{get_or-set_same, get_or-set_other}
use Rattle.std.proofs.lemmas.List.{length-map}
use Rattle.rdf_types.specs.declared.records.Record.{Record}
use Rattle.rdf_types.specs.declared.records.Stamped.{Stamped}
use Rattle.rdf_disk.specs.Files.{Disk}
use Rattle.rdf_gatelog.specs.Logs.{Logs, pushed}
use Rattle.rdf_gatelog.specs.LogPlace.{LogPlace}
use Rattle.rdf_codec.specs.Ships.{HasShipSpelling}
use Rattle.image_disks.specs.Blocks.{Block, Ship as ShipBlock, Plan, keeps, found, AreEntries, kept_of}
use Rattle.image_disks.specs.Spelled.{block_of}
use Rattle.image_disks.specs.Held.{StandingIsOrderly}
use Rattle.image_disks.specs.Values.{Value, Alike, received, with_block, written, or_else}
use Rattle.image_disks.specs.Standing.{file_of, MeansBy}
use Rattle.image_trails.specs.declared.memory.Memory.{Memory}
use Rattle.rdf_codec.specs.declared.ships.Ship.{Ship}
use Rattle.image_disks.specs.BlockLaws.{found-append, found_before, kept_entries, rise_entries, or_else-none}
use Rattle.image_disks.specs.Steps.{ShipMeans}
use Rattle.image_disks.specs.StandingLaws.{value_behind}
use Rattle.image_trails.specs.Memory.{IsInUse, plan_in, value_in, lists_of, starts_of, files_of, shipment}
use Rattle.image_trails.proofs.InUse.{get_or_any, four_tops, four_ends}
use Rattle.image_trails.proofs.Shipping.{next_is_top}
use Rattle.image_trails.proofs.Sorted.{entries_append, entries_any}

pub four_lists : (m : Memory) → length (lists_of m.entries) ≡ 4
four_lists m = length-map m.entries.items (λ v. v.items) ∙ omega (arith, m.by_entry, m.entries.ok.0)

module _ (block_of : List ℕ → Block) (m : Memory) (ship : Ship) (trail top : ℕ) (u : Bool) (old : Disk) (tl : trail < 4)
    (top_is : top ≡ get_or m.tops.items trail top) (used_is : u ≡ (plan_in m).used trail) (used : u ≡ true) (behind : top < ship.to)
    (es : AreEntries (λ r. true) ship.from ship.to ship.part) where
  abbrev plan : Plan
  plan = plan_in m

  abbrev v : Value
  v = value_in m

  pub used_here : plan.used trail ≡ true
  used_here = sym used_is ∙ used

  pub top_here : v.top trail ≡ top
  top_here = get_or_any m.tops.items trail 0 top (omega (arith, four_tops m)) ∙ sym top_is

  pub is_written : written plan (shipment ship) trail v ≡ with_block plan trail (shipment ship) v
  is_written =
      let less : nat_lt (v.top trail) ship.to ≡ true = ap (λ (n : ℕ). nat_lt n ship.to) top_here ∙ lt-ltb top ship.to behind in
      ap (λ (b : Bool). if b then with_block plan trail (shipment ship) v else v) (ap₂ (λ (a b : Bool). a && b) used_here less)

  pub write_means : ShipMeans → (p : List ℕ) → block_of p ≡ ShipBlock top ship.to (kept_of plan trail top ship.part)
      → (trail ≡ 0 → (w : ℕ) → w < 4 → plan.used w ≡ true → w ≢ 0 → ship.to ≤ v.top w)
      → (logs : Logs) → MeansBy block_of plan logs (files_of m.generations) v → MeansBy block_of plan (pushed logs (file_of m.last trail) p) (files_of m.generations) (written plan (shipment ship) trail v)
  write_means ship_means p spells order logs means =
      subst (MeansBy block_of plan (pushed logs (file_of m.last trail) p) (files_of m.generations)) (sym is_written)
      (ship_means block_of plan logs v (shipment ship) trail p tl used_here
      (spells ∙ ap (λ (n : ℕ). ShipBlock n ship.to (kept_of plan trail n ship.part)) (sym top_here)) es
      (subst (λ (n : ℕ). n < ship.to) (sym top_here) behind) order (files_of m.generations) means)

  abbrev part : List Stamped
  part = kept_of plan trail top ship.part

  abbrev more : List (List Stamped)
  more = set (lists_of m.entries) trail (get_or (lists_of m.entries) trail [] ++ part)

  entry-here : (use_ : IsInUse block_of m old) (i : ℕ) → (if nat_le top i then found part i else v.entry trail i) ≡ found (get_or (lists_of m.entries) trail [] ++ part) i
  entry-here use_ i =
      elim (nat_le top i) as (λ b. nat_le top i ≡ b → (if b then found part i else v.entry trail i) ≡ found (get_or (lists_of m.entries) trail [] ++ part) i) [
        | true ↦ λ e.
            let above : v.top trail ≤ i = grind (arith, nat_tests, e, top_here) in
            sym (found-append (get_or (lists_of m.entries) trail []) part i ∙ ap (λ (x : Option Record). or_else x (found part i)) (value_behind block_of plan use_.logs v trail i tl (files_of m.generations) use_.means above))
        | false ↦ λ e.
            let below : i < top = grind (arith, nat_tests, e) in
            sym (found-append (get_or (lists_of m.entries) trail []) part i
            ∙ ap (λ (x : Option Record). or_else (v.entry trail i) x) (found_before (keeps plan trail) top ship.to part i (kept_entries plan trail top ship.from top ship.to ship.part es (inr (omega arith))) below)
            ∙ or_else-none (v.entry trail i))
      ] refl

  entry-more : (use_ : IsInUse block_of m old) (w i : ℕ) → (if (w == trail) && nat_le (v.top trail) i then found (kept_of plan trail (v.top trail) ship.part) i else v.entry w i) ≡ found (get_or more w []) i
  entry-more use_ w i =
      ap (λ (n : ℕ). if (w == trail) && nat_le n i then found (kept_of plan trail n ship.part) i else v.entry w i) top_here
      ∙ elim (cases_eq w trail) [
        | inl same ↦ subst (λ (x : ℕ). (if (x == trail) && nat_le top i then found part i else v.entry x i) ≡ found (get_or more x []) i) (sym same)
            (ap (λ (b : Bool). if b && nat_le top i then found part i else v.entry trail i) (eq-eqb trail trail refl)
            ∙ entry-here use_ i
            ∙ ap (λ (l : List Stamped). found l i) (sym (get_or-set_same (lists_of m.entries) trail (get_or (lists_of m.entries) trail [] ++ part) [] (omega (arith, four_lists m)))))
        | inr other ↦ ap (λ (b : Bool). if b && nat_le top i then found part i else v.entry w i) (ne_eqb w trail other)
            ∙ ap (λ (l : List Stamped). found l i) (sym (get_or-set_other (lists_of m.entries) trail w (get_or (lists_of m.entries) trail [] ++ part) [] other))
      ]

  top-more : (w : ℕ) → (if w == trail then ship.to else v.top w) ≡ get_or (set m.tops.items trail ship.to) w 0
  top-more w =
      elim (cases_eq w trail) [
        | inl same ↦ subst (λ (x : ℕ). (if x == trail then ship.to else v.top x) ≡ get_or (set m.tops.items trail ship.to) x 0) (sym same)
            (ap (λ (b : Bool). if b then ship.to else v.top trail) (eq-eqb trail trail refl) ∙ sym (get_or-set_same m.tops.items trail ship.to 0 (omega (arith, four_tops m))))
        | inr other ↦ ap (λ (b : Bool). if b then ship.to else v.top w) (ne_eqb w trail other) ∙ sym (get_or-set_other m.tops.items trail w ship.to 0 other)
      ]

  -- what the memory then says
  abbrev pub after : List (List Stamped) → Value
  after lists = record { starts = starts_of m.generations; last = m.last; phase = m.phase; top = λ t. get_or (set m.tops.items trail ship.to) t 0; entry = λ t i. found (get_or lists t []) i }

  pub written_alike : (use_ : IsInUse block_of m old) (lists : List (List Stamped)) → lists ≡ more → Alike (written plan (shipment ship) trail v) (after lists)
  written_alike use_ lists is =
      subst (λ (x : Value). Alike x (after lists)) (sym is_written)
      (record {
        starts = refl;
        last = refl;
        phase = refl;
        top = λ w wl. top-more w;
        entry = λ w i wl. entry-more use_ w i ∙ ap (λ (l : List (List Stamped)). found (get_or l w []) i) (sym is);
      })

  -- the positions of each list still rise
  pub rising_more : (use_ : IsInUse block_of m old) (lists : List (List Stamped)) → lists ≡ more → (w : ℕ) → w < 4 → AreEntries (λ r. true) 0 (get_or (set m.tops.items trail ship.to) w 0) (get_or lists w [])
  rising_more use_ lists is w wl =
      subst (λ (l : List (List Stamped)). AreEntries (λ r. true) 0 (get_or (set m.tops.items trail ship.to) w 0) (get_or l w [])) (sym is)
      (elim (cases_eq w trail) [
        | inl same ↦ subst (λ (x : ℕ). AreEntries (λ r. true) 0 (get_or (set m.tops.items trail ship.to) x 0) (get_or more x [])) (sym same)
            (subst (λ (n : ℕ). AreEntries (λ r. true) 0 n (get_or more trail [])) (sym (get_or-set_same m.tops.items trail ship.to 0 (omega (arith, four_tops m))))
            (subst (λ (l : List Stamped). AreEntries (λ r. true) 0 ship.to l) (sym (get_or-set_same (lists_of m.entries) trail (get_or (lists_of m.entries) trail [] ++ part) [] (omega (arith, four_lists m))))
            (entries_append (λ r. true) 0 top ship.to (get_or (lists_of m.entries) trail []) part (omega arith) (omega (arith, behind))
            (subst (λ (n : ℕ). AreEntries (λ r. true) 0 n (get_or (lists_of m.entries) trail [])) top_here (use_.rising trail tl))
            (entries_any (keeps plan trail) top ship.to part (kept_entries plan trail top ship.from top ship.to ship.part es (inr (omega arith)))))))
        | inr other ↦ subst (λ (n : ℕ). AreEntries (λ r. true) 0 n (get_or more w [])) (sym (get_or-set_other m.tops.items trail w ship.to 0 other))
            (subst (λ (l : List Stamped). AreEntries (λ r. true) 0 (get_or m.tops.items w 0) l) (sym (get_or-set_other (lists_of m.entries) trail w (get_or (lists_of m.entries) trail [] ++ part) [] other))
            (use_.rising w wl))
      ])

-- the place of a trail's next block, in a trail that has files
pub record IsHere (m : Memory) (trail top : ℕ) (place : LogPlace) : Type 0 where
  pub top_is : top ≡ get_or m.tops.items trail top
  pub used : (plan_in m).used trail ≡ true
  pub file_is : place.file ≡ file_of m.last trail
  pub end_is : place.end ≡ get_or m.ends.items trail 0

pub here_is : StandingIsOrderly → (m : Memory) (old : Disk) → IsInUse block_of m old → (trail top : ℕ) (u : Bool) → trail < 4 → top ≡ max (received (value_in m)) ((value_in m).top trail) → u ≡ (plan_in m).used trail → u ≡ true
    → (place : LogPlace) (end : ℕ) → place ≡ record { file = 4 * m.last + trail; end = end } → end ≡ get_or m.ends.items trail end → IsHere m trail top place
here_is standing_is_orderly m old use_ trail top u tl top_is is used place end place_is end_is = record {
  top_is = next_is_top standing_is_orderly m old use_ trail tl (sym is ∙ used) top top_is;
  used = sym is ∙ used;
  file_is = ap (λ (l : LogPlace). l.file) place_is;
  end_is = ap (λ (l : LogPlace). l.end) place_is ∙ end_is ∙ get_or_any m.ends.items trail end 0 (omega (arith, four_ends m, tl));
}

-- what is written there
module _ (m : Memory) (old : Disk) (use_ : IsInUse block_of m old) (ship : Ship) (trail top : ℕ) (place : LogPlace) (tl : trail < 4) (here : IsHere m trail top place) (behind : top < ship.to) (spelled : HasShipSpelling ship) where
  pub es_of : AreEntries (λ r. true) ship.from ship.to ship.part
  es_of = rise_entries ship.from ship.to ship.part spelled.rise

  pub block_means : ShipMeans → (p : List ℕ) → block_of p ≡ ShipBlock top ship.to (kept_of (plan_in m) trail top ship.part) → (trail ≡ 0 → (w : ℕ) → w < 4 → (plan_in m).used w ≡ true → w ≢ 0 → ship.to ≤ (value_in m).top w)
      → (logs : Logs) → MeansBy block_of (plan_in m) logs (files_of m.generations) (value_in m) → MeansBy block_of (plan_in m) (pushed logs (file_of m.last trail) p) (files_of m.generations) (written (plan_in m) (shipment ship) trail (value_in m))
  block_means ship_means p spells order = write_means block_of m ship trail top true old tl here.top_is (sym here.used) refl behind es_of ship_means p spells order

  pub block_alike : (lists : List (List Stamped)) → lists ≡ set (lists_of m.entries) trail (get_or (lists_of m.entries) trail [] ++ kept_of (plan_in m) trail top ship.part)
      → Alike (written (plan_in m) (shipment ship) trail (value_in m)) (after block_of m ship trail top true old tl here.top_is (sym here.used) refl behind es_of lists)
  block_alike lists is = written_alike block_of m ship trail top true old tl here.top_is (sym here.used) refl behind es_of use_ lists is

  pub block_rises : (lists : List (List Stamped)) → lists ≡ set (lists_of m.entries) trail (get_or (lists_of m.entries) trail [] ++ kept_of (plan_in m) trail top ship.part)
      → (w : ℕ) → w < 4 → AreEntries (λ r. true) 0 (get_or (set m.tops.items trail ship.to) w 0) (get_or lists w [])
  block_rises lists is = rising_more block_of m ship trail top true old tl here.top_is (sym here.used) refl behind es_of use_ lists is
