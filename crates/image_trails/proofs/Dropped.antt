-- A generation less on the disk and in memory.
use Rattle.std.proofs.Common.{◌≡◌, ◌≢◌, inl, inr, ⊎_elim, ℕ, ◌+◌, ◌<◌, ◌≤◌, Bool, true, false, nat_lt, nat_le, if◌then◌else◌, List, [], ◌∷◌, map, length, get_or, Option, None, refl, sym, ◌∙◌, ap, subst, arith}
use Rattle.std.proofs.lemmas.Bool.Decides.{nat_tests}
use Rattle.rdf_types.specs.declared.layout.Layout.{Layout}
use Rattle.rdf_types.specs.declared.records.Record.{Record}
use Rattle.rdf_types.specs.declared.records.Stamped.{Stamped}
use Rattle.rdf_disk.specs.Files.{Disk}
use Rattle.rdf_disk.specs.Outcomes.{Durably}
use Rattle.rdf_gatelog.specs.Logs.{Logs, Reads, Rests, IsOpenIn, with_log}
use Rattle.rdf_gatelog.specs.RestLaws.{with_other}
use Rattle.image_disks.specs.Blocks.{Block, Plan, found, AreEntries}
use Rattle.image_disks.specs.Values.{Value, Alike, dropped, first_of, rest_of, second_of}
use Rattle.image_disks.specs.Standing.{Gen, file_of, IsNumberOf, AreStanding, value_of, masters_of, MeansBy, StandsEither}
use Rattle.image_disks.specs.StandingLaws.{number_rises, standing-beside, drop_standing, drop_alike, number_above}
use Rattle.image_trails.specs.declared.memory.Generation.{Generation}
use Rattle.image_trails.specs.declared.memory.Memory.{Memory}
use Rattle.image_trails.specs.Generations.{ReadsOne, without_trail, dropped_files, after_drop}
use Rattle.image_trails.specs.Memory.{IsInUse, plan_in, plan_of, value_in, starts_of, files_of, lists_of}
use Rattle.image_trails.specs.Rolls.{HasDropped}
use Rattle.image_trails.proofs.InUse.{means_alike-by}
use Rattle.image_trails.proofs.Generating.{d0, d1, d2, d3, Kept}
use Rattle.image_trails.proofs.Sorted.{entries_kept, found_kept, positions_rise}

-- the first of several generations, and the others
pub record IsFirst (block_of : List ℕ → Block) (plan : Plan) (logs : Logs) (masters : List ℕ) (v : Value) : Type 0 where
  pub first : Gen
  pub older : List Gen
  pub last : Gen
  pub standing : AreStanding block_of plan logs (first ∷ older) last
  pub alike : Alike (value_of (first ∷ older) last) v
  pub files : masters_of (first ∷ older) last ≡ masters

pub first_gen : (block_of : List ℕ → Block) (plan : Plan) (logs : Logs) (masters : List ℕ) (v : Value) → 2 ≤ length v.starts → MeansBy block_of plan logs masters v → IsFirst block_of plan logs masters v
first_gen block_of plan logs masters v two (older, last, s, alike, files) = go older s alike files
  where
    go : (older : List Gen) → AreStanding block_of plan logs older last → Alike (value_of older last) v → masters_of older last ≡ masters → IsFirst block_of plan logs masters v
    go [] s alike files = absurd (omega (arith, two, ap length alike.starts))
    go (g ∷ older) s alike files = record { first = g; older = older; last = last; standing = s; alike = alike; files = files }

-- what the files of a drop mean, one after the other
module _ (block_of : List ℕ → Block) (plan : Plan) (v : Value) (masters : List ℕ) (master : ℕ) (logs : Logs) (f : IsFirst block_of plan logs masters v) (master_is : master ≡ first_of masters) where
  pub number_is : master ≡ file_of f.first.number 0
  number_is = master_is ∙ ap first_of (sym f.files)

  free : IsNumberOf f.first.number f.older f.last → ⊥
  free h = omega (arith, f.standing.gens.1, number_above plan f.older f.last f.first.number f.standing.gens.3 h)

  pub below_last : f.first.number < v.last
  below_last = omega (arith, f.standing.gens.1, number_rises plan f.older f.last f.standing.gens.3, f.alike.last)

  s0 : AreStanding block_of plan (d0 plan master logs) f.older f.last
  s0 = subst (λ (x : ℕ). AreStanding block_of plan (with_log logs x None) f.older f.last) (sym number_is) (drop_standing block_of plan logs f.first f.older f.last f.standing)

  same : Alike (value_of f.older f.last) (dropped v)
  same = drop_alike plan v f.first f.older f.last f.standing.gens.3 f.alike

  stands_without : (t : ℕ) (x : Logs) → t < 4 → AreStanding block_of plan x f.older f.last → AreStanding block_of plan (without_trail plan master t x) f.older f.last
  stands_without t x tl h =
      let file : master + t ≡ file_of f.first.number t = omega (arith, number_is) in
      elim (plan.used t) as (λ b. AreStanding block_of plan (if b then with_log x (master + t) None else x) f.older f.last) [
        | true ↦ subst (λ (k : ℕ). AreStanding block_of plan (with_log x k None) f.older f.last) (sym file) (standing-beside block_of plan x f.first.number t tl None f.older f.last free (λ z. tt) h)
        | false ↦ h
      ]

  s1 : AreStanding block_of plan (d1 plan master logs) f.older f.last
  s1 = stands_without 1 (d0 plan master logs) (omega arith) s0

  s2 : AreStanding block_of plan (d2 plan master logs) f.older f.last
  s2 = stands_without 2 (d1 plan master logs) (omega arith) s1

  s3 : AreStanding block_of plan (d3 plan master logs) f.older f.last
  s3 = stands_without 3 (d2 plan master logs) (omega arith) s2

  pub dropped_means : MeansBy block_of plan (dropped_files plan master logs) (rest_of masters) (dropped v)
  dropped_means = (f.older, f.last, s3, same, ap rest_of f.files)

  pub kept_stands : (new : Disk) → Durably new (Kept plan master logs) → Durably new (StandsEither block_of plan v (dropped v))
  kept_stands new kept c may =
      ⊎_elim
      (λ (h : Reads logs c). inl (logs, h, (f.first ∷ f.older, f.last, f.standing, f.alike)))
      (λ (one : ReadsOne (after_drop plan master logs) c). inr
      (⊎_elim (λ (h : Reads (d0 plan master logs) c). (d0 plan master logs, h, (f.older, f.last, s0, same)))
      (λ (one : ReadsOne (d1 plan master logs ∷ d2 plan master logs ∷ d3 plan master logs ∷ []) c).
      ⊎_elim (λ (h : Reads (d1 plan master logs) c). (d1 plan master logs, h, (f.older, f.last, s1, same)))
      (λ (one : ReadsOne (d2 plan master logs ∷ d3 plan master logs ∷ []) c).
      ⊎_elim (λ (h : Reads (d2 plan master logs) c). (d2 plan master logs, h, (f.older, f.last, s2, same)))
      (λ (one : ReadsOne (d3 plan master logs ∷ []) c).
      ⊎_elim (λ (h : Reads (d3 plan master logs) c). (d3 plan master logs, h, (f.older, f.last, s3, same)))
      (λ (none : ⊥). absurd none) one) one) one) one))
      (kept c may)

  without_other : (t k : ℕ) (x : Logs) → k ≢ master + t → without_trail plan master t x k ≡ x k
  without_other t k x differs =
      elim (plan.used t) as (λ b. (if b then with_log x (master + t) None else x) k ≡ x k) [
        | true ↦ with_other x (master + t) None k differs
        | false ↦ refl
      ]

  -- a file of another generation is left alone
  pub dropped_other : (k : ℕ) → master + 4 ≤ k → dropped_files plan master logs k ≡ logs k
  dropped_other k far =
      without_other 3 k (d2 plan master logs) (λ e. omega (arith, e, far))
      ∙ without_other 2 k (d1 plan master logs) (λ e. omega (arith, e, far))
      ∙ without_other 1 k (d0 plan master logs) (λ e. omega (arith, e, far))
      ∙ with_other logs master None k (λ e. omega (arith, e, far))

-- the memory after a drop says what the disk then stands for
flip_if : (a i : ℕ) (x : Option Record) → (if nat_le a i then x else None) ≡ (if nat_lt i a then None else x)
flip_if a i x =
    elim (nat_lt i a) as (λ b. nat_lt i a ≡ b → (if nat_le a i then x else None) ≡ (if b then None else x)) [
      | true ↦ λ e. ap (λ (c : Bool). if c then x else None) (not_le a i e)
      | false ↦ λ e. ap (λ (c : Bool). if c then x else None) (le_is a i e)
    ] refl
  where
    not_le : (a i : ℕ) → nat_lt i a ≡ true → nat_le a i ≡ false
    not_le a i h = grind (arith, nat_tests, h)

    le_is : (a i : ℕ) → nat_lt i a ≡ false → nat_le a i ≡ true
    le_is a i h = grind (arith, nat_tests, h)

pub dropped_alike : (m n : Memory) → HasDropped m n → ((t : ℕ) → t < 4 → AreEntries (λ r. true) 0 (get_or m.tops.items t 0) (get_or (lists_of m.entries) t [])) → Alike (dropped (value_in m)) (value_in n)
dropped_alike m n h rising =
    let at : ℕ = second_of (starts_of m.generations) in
    record {
      starts = sym h.starts;
      last = sym h.last;
      phase = sym h.phase;
      top = λ t tl. ap (λ v. get_or v.items t 0) (sym h.tops);
      entry = λ t i tl.
          let l : List Stamped = get_or (lists_of m.entries) t [] in
          sym (ap (λ (l : List Stamped). found l i) (h.lists t (positions_rise (λ x. true) 0 (get_or m.tops.items t 0) l (rising t tl))) ∙ found_kept (λ k. nat_le at k) l i ∙ flip_if at i (found l i));
    }

pub dropped_in_use : (block_of : List ℕ → Block) (m n : Memory) (old new : Disk) (master : ℕ) → (use_ : IsInUse block_of m old) → 2 ≤ length (starts_of m.generations) → HasDropped m n
    → master ≡ first_of (files_of m.generations) → Rests (dropped_files (plan_in m) master use_.logs) new → IsInUse block_of n new
dropped_in_use block_of m n old new master use_ two h master_is rests =
    let plan = plan_in m in
    let v = value_in m in
    let f = first_gen block_of plan use_.logs (files_of m.generations) v two use_.means in
    let after : Logs = dropped_files plan master use_.logs in
    let means = dropped_means block_of plan v (files_of m.generations) master use_.logs f master_is in
    let means2 : MeansBy block_of plan after (rest_of (files_of m.generations)) (value_in n) = means_alike-by block_of plan after (rest_of (files_of m.generations)) (dropped v) (value_in n) (dropped_alike m n h use_.rising) means in
    let low : f.first.number < m.last = below_last block_of plan v (files_of m.generations) master use_.logs f master_is in
    let at : master ≡ file_of f.first.number 0 = number_is block_of plan v (files_of m.generations) master use_.logs f master_is in
    record {
      logs = after;
      rests = rests;
      means = subst (λ (a : Layout). MeansBy block_of (plan_of a) after (files_of n.generations) (value_in n)) (sym h.layout) (subst (λ (l : List ℕ). MeansBy block_of plan after l (value_in n)) (sym h.files) means2);
      opened = λ t tl tu.
          let tu2 : plan.used t ≡ true = subst (λ (a : Layout). (plan_of a).used t ≡ true) h.layout tu in
          let o = use_.opened t tl tu2 in
          let file : file_of m.last t ≡ file_of n.last t = omega (arith, h.last) in
          let end_is : get_or m.ends.items t 0 ≡ get_or n.ends.items t 0 = ap (λ v. get_or v.items t 0) (sym h.ends) in
          subst (λ (x : ℕ). IsOpenIn after x (get_or n.ends.items t 0)) file (subst (λ (x : ℕ). IsOpenIn after (file_of m.last t) x) end_is
          (record {
            payloads = o.payloads;
            there = dropped_other block_of plan v (files_of m.generations) master use_.logs f master_is (file_of m.last t) (omega (arith, low, at)) ∙ o.there;
            end_is = o.end_is;
          }));
      above = λ k far. dropped_other block_of plan v (files_of m.generations) master use_.logs f master_is k (omega (arith, low, at, far, h.last)) ∙ use_.above k (omega (arith, far, h.last));
      rising = λ t tl.
          let l : List Stamped = get_or (lists_of m.entries) t [] in
          let tops : get_or m.tops.items t 0 ≡ get_or n.tops.items t 0 = ap (λ v. get_or v.items t 0) (sym h.tops) in
          subst (λ (k : ℕ). AreEntries (λ x. true) 0 k (get_or (lists_of n.entries) t [])) tops
          (subst (λ (x : List Stamped). AreEntries (λ x. true) 0 (get_or m.tops.items t 0) x) (sym (h.lists t (positions_rise (λ x. true) 0 (get_or m.tops.items t 0) l (use_.rising t tl))))
          (entries_kept (λ x. true) (λ k. nat_le (second_of (starts_of m.generations)) k) 0 (get_or m.tops.items t 0) l (use_.rising t tl)));
    }

pub first_master : (l : List Generation) (d : Generation) → 2 ≤ length (map (λ (g : Generation). g.start) l) → d ≡ get_or l 0 d → d.master ≡ first_of (map (λ (g : Generation). g.master) l)
first_master [] d two is = absurd (omega (arith, two))
first_master (g ∷ l) d two is = ap (λ (x : Generation). x.master) is
