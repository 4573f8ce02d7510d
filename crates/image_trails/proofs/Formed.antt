-- A new image disk.
use Rattle.std.proofs.Common.{◌≡◌, ◌≢◌, inl, inr, ℕ, ◌+◌, ◌<◌, ◌≤◌, Bool, true, if◌then◌else◌, List, [], ◌∷◌, ◌++◌, get_or, Option, Some, refl, sym, ◌∙◌, ap, subst, arith}
use Rattle.std.proofs.lemmas.Bool.{cases_eq, ne_eqb}
use Rattle.rdf_types.specs.declared.layout.Layout.{Layout}
use Rattle.rdf_types.specs.declared.records.Phase.TheVariants.{Running}
use Rattle.rdf_types.specs.declared.records.Stamped.{Stamped}
use Rattle.rdf_disk.specs.Files.{Disk}
use Rattle.rdf_gatelog.specs.Logs.{Logs, Rests, IsOpenIn, no_logs, with_log, payloads_at}
use Rattle.rdf_gatelog.specs.RestLaws.{with_same}
use Rattle.image_disks.specs.Blocks.{Block, Start, Plan, found, AreEntries}
use Rattle.image_disks.specs.Values.{Value, Alike, fresh}
use Rattle.image_disks.specs.Standing.{Gen, file_of, all_blocks, value_of, spelled, IsUnborn, MeansBy}
use Rattle.image_trails.specs.declared.memory.Memory.{Memory}
use Rattle.image_trails.specs.Generations.{with_seconds, begun}
use Rattle.image_trails.specs.Memory.{IsInUse, plan_of, value_in, files_of, lists_of}
use Rattle.image_trails.specs.Rolls.{IsFresh}
use Rattle.image_trails.proofs.Rolled.{begun_above, begun_second, begun_there}

abbrev first_gen : ℕ → Gen
first_gen start = record { number = 0; start = start; phase = Running; blocks = λ t. [] }

module _ (block_of : List ℕ → Block) (plan : Plan) (start : ℕ) (p : List ℕ) (spells : block_of p ≡ Start start Running) where
  abbrev after : Logs
  after = begun plan 0 p no_logs

  master_file : after 0 ≡ Some (p ∷ [])
  master_file =
      let l : Logs = with_log (with_seconds plan 0 no_logs) 0 (Some []) in
      with_same l 0 (Some (payloads_at (l 0) ++ p ∷ [])) ∙ ap (λ (x : Option (List (List ℕ))). Some (payloads_at x ++ p ∷ [])) (with_same (with_seconds plan 0 no_logs) 0 (Some []))

  here : (t : ℕ) → t < 4 → plan.used t ≡ true → spelled block_of (after (file_of 0 t)) ≡ Some (all_blocks (first_gen start) t)
  here t tl tu =
      elim (cases_eq t 0) [
        | inl first ↦ subst (λ (u : ℕ). spelled block_of (after (file_of 0 u)) ≡ Some (all_blocks (first_gen start) u)) (sym first)
            (ap (spelled block_of) master_file ∙ ap (λ (b : Block). Some (b ∷ [])) spells)
        | inr second ↦
            let file : 0 + t ≡ file_of 0 t = omega arith in
            ap (spelled block_of) (sym (ap after file) ∙ begun_there plan 0 t p no_logs tl second tu)
            ∙ ap (λ (b : Bool). Some (if b then Start start Running ∷ [] else [])) (sym (ne_eqb t 0 second))
      ]

  pub fresh_means : (v : Value) → Alike (value_of [] (first_gen start)) v → MeansBy block_of plan after (0 ∷ []) v
  fresh_means v alike = (
    [],
    first_gen start,
    record {
      gens = record { few = omega arith; phase = tt; in_place = λ t. tt; no_shorter = λ t tl tu. omega arith; unused = λ t tu. refl };
      on = here;
      unborn = λ n other. subst IsUnborn (sym (begun_above plan 0 (file_of n 0) p no_logs (far n other) refl)) tt;
    },
    alike,
    refl,
  )
    where
      far : (n : ℕ) → (n ≡ 0 → ⊥) → 0 + 4 ≤ file_of n 0
      far n other = omega arith

pub fresh_alike : (m : Memory) (layout : Layout) (start : ℕ) → IsFresh layout start m → Alike (value_in m) (fresh start)
fresh_alike m layout start h = record {
  starts = h.starts;
  last = h.last;
  phase = h.phase;
  top = λ t tl. h.tops t tl;
  entry = λ t i tl. ap (λ (l : List Stamped). found l i) (h.lists t);
}

-- the disk of a new generation, with the place where its master ends
pub fresh_in_use : (block_of : List ℕ → Block) (m : Memory) (layout : Layout) (start end : ℕ) (p : List ℕ) (new : Disk) → m.layout ≡ layout → Alike (value_in m) (fresh start) → files_of m.generations ≡ 0 ∷ [] → m.last ≡ 0
    → get_or m.ends.items 0 0 ≡ end → ((t : ℕ) → t < 4 → t ≢ 0 → get_or m.ends.items t 0 ≡ 0) → ((t : ℕ) → get_or (lists_of m.entries) t [] ≡ [])
    → block_of p ≡ Start start Running → Rests (begun (plan_of layout) 0 p no_logs) new × IsOpenIn (begun (plan_of layout) 0 p no_logs) 0 end → IsInUse block_of m new
fresh_in_use block_of m layout start end p new same alike files last master seconds lists spells (rests, opened) =
    let plan = plan_of layout in
    let l : Logs = begun plan 0 p no_logs in
    let means : MeansBy block_of plan l (0 ∷ []) (value_in m) = fresh_means block_of plan start p spells (value_in m)
    (record { starts = sym alike.starts; last = sym alike.last; phase = sym alike.phase; top = λ t tl. sym (alike.top t tl); entry = λ t i tl. sym (alike.entry t i tl) }) in
    record {
      logs = l;
      rests = rests;
      means = subst (λ (a : Layout). MeansBy block_of (plan_of a) l (files_of m.generations) (value_in m)) (sym same) (subst (λ (k : List ℕ). MeansBy block_of plan l k (value_in m)) (sym files) means);
      opened = λ t tl tu.
          let tu2 : plan.used t ≡ true = subst (λ (a : Layout). (plan_of a).used t ≡ true) same tu in
          let file : 0 + t ≡ file_of m.last t = omega (arith, last) in
          subst (λ (f : ℕ). IsOpenIn l f (get_or m.ends.items t 0)) file
          (elim (cases_eq t 0) [
            | inl first ↦
                let e : get_or m.ends.items t 0 ≡ end = ap (λ (u : ℕ). get_or m.ends.items u 0) first ∙ master in
                let f : 0 + t ≡ 0 = omega (arith, first) in
                subst (λ (x : ℕ). IsOpenIn l x (get_or m.ends.items t 0)) (sym f) (subst (λ (x : ℕ). IsOpenIn l 0 x) (sym e) opened)
            | inr second ↦ subst (λ (x : ℕ). IsOpenIn l (0 + t) x) (sym (seconds t tl second)) (begun_second plan 0 t p no_logs tl second tu2)
          ]);
      above = λ f far. begun_above plan 0 f p no_logs (omega (arith, far, last)) refl;
      rising = λ t tl. subst (λ (k : List Stamped). AreEntries (λ r. true) 0 (get_or m.tops.items t 0) k) (sym (lists t)) tt;
    }
