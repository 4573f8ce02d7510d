-- A generation more on the disk and in memory.
use Rattle.std.proofs.Common.{◌≡◌, ◌≢◌, inl, inr, ⊎_elim, ℕ, ◌+◌, ◌<◌, ◌≤◌, Bool, true, false, nat_lt, if◌then◌else◌, List, [], ◌∷◌, ◌++◌, get_or, Some, None, refl, sym, ◌∙◌, ap, subst, arith}
use Rattle.std.proofs.lemmas.Bool.{cases_eq}
use Rattle.rdf_types.specs.declared.layout.Layout.{Layout}
use Rattle.rdf_types.specs.declared.records.Stamped.{Stamped}
use Rattle.rdf_disk.specs.Files.{Disk}
use Rattle.rdf_disk.specs.Outcomes.{Durably}
use Rattle.rdf_gatelog.specs.Logs.{Logs, Reads, Rests, IsOpenIn, with_log, payloads_at, pushed}
use Rattle.rdf_gatelog.specs.RestLaws.{with_same, with_other}
use Rattle.image_disks.specs.Blocks.{Block, Start, Plan, found, AreEntries}
use Rattle.image_disks.specs.Values.{Value, Alike, received, rolled}
use Rattle.image_disks.specs.Standing.{file_of, MeansBy, StandsEither}
use Rattle.image_disks.specs.StandingLaws.{roll_beside}
use Rattle.image_disks.specs.Steps.{RollMeans}
use Rattle.image_trails.specs.declared.memory.Memory.{Memory}
use Rattle.image_trails.specs.Generations.{ReadsOne, with_trail, with_seconds, begun, before_start}
use Rattle.image_trails.specs.Memory.{IsInUse, plan_in, plan_of, value_in, files_of, lists_of}
use Rattle.image_trails.specs.Rolls.{HasRolled}
use Rattle.image_trails.specs.InUseLaws.{means_plain, durably_stands}
use Rattle.image_trails.proofs.InUse.{means_alike-by}
use Rattle.image_trails.proofs.Generating.{l1, l2, l3, l4, Left}
use Rattle.image_trails.proofs.Sorted.{entries_cut, positions_rise, found_kept}

trail_here : (plan : Plan) (master t : ℕ) (logs : Logs) → plan.used t ≡ true → with_trail plan master t logs (master + t) ≡ Some []
trail_here plan master t logs used = ap (λ (b : Bool). (if b then with_log logs (master + t) (Some []) else logs) (master + t)) used ∙ with_same logs (master + t) (Some [])

trail_other : (plan : Plan) (master t f : ℕ) (logs : Logs) → f ≢ master + t → with_trail plan master t logs f ≡ logs f
trail_other plan master t f logs differs =
    elim (plan.used t) as (λ b. (if b then with_log logs (master + t) (Some []) else logs) f ≡ logs f) [
      | true ↦ with_other logs (master + t) (Some []) f differs
      | false ↦ refl
    ]

-- the secondaries that a new generation has
pub seconds_made : (plan : Plan) (master t : ℕ) (logs : Logs) → t < 4 → t ≢ 0 → plan.used t ≡ true → with_seconds plan master logs (master + t) ≡ Some []
seconds_made plan master t logs tl second used =
    let a : Logs = with_trail plan master 1 logs in
    let b : Logs = with_trail plan master 2 a in
    elim (cases_eq t 3) [
      | inl three ↦ subst (λ (u : ℕ). with_seconds plan master logs (master + u) ≡ Some []) (sym three) (trail_here plan master 3 b (subst (λ (u : ℕ). plan.used u ≡ true) three used))
      | inr other ↦ trail_other plan master 3 (master + t) b (λ e. other (omega (arith, e)))
          ∙ elim (cases_eq t 2) [
            | inl two ↦ subst (λ (u : ℕ). b (master + u) ≡ Some []) (sym two) (trail_here plan master 2 a (subst (λ (u : ℕ). plan.used u ≡ true) two used))
            | inr more ↦ trail_other plan master 2 (master + t) a (λ e. more (omega (arith, e)))
                ∙ (let one : t ≡ 1 = omega arith in subst (λ (u : ℕ). a (master + u) ≡ Some []) (sym one) (trail_here plan master 1 logs (subst (λ (u : ℕ). plan.used u ≡ true) one used)))
          ]
    ]

-- nothing behind a new generation
pub begun_above : (plan : Plan) (master f : ℕ) (p : List ℕ) (logs : Logs) → master + 4 ≤ f → logs f ≡ None → begun plan master p logs f ≡ None
begun_above plan master f p logs far none =
    with_other (with_log (with_seconds plan master logs) master (Some [])) master (Some (payloads_at (with_log (with_seconds plan master logs) master (Some []) master) ++ p ∷ [])) f (λ e. omega (arith, e, far))
    ∙ with_other (with_seconds plan master logs) master (Some []) f (λ e. omega (arith, e, far))
    ∙ trail_other plan master 3 f (with_trail plan master 2 (with_trail plan master 1 logs)) (λ e. omega (arith, e, far))
    ∙ trail_other plan master 2 f (with_trail plan master 1 logs) (λ e. omega (arith, e, far))
    ∙ trail_other plan master 1 f logs (λ e. omega (arith, e, far))
    ∙ none

-- where a secondary of a new generation ends
pub begun_there : (plan : Plan) (master t : ℕ) (p : List ℕ) (logs : Logs) → t < 4 → t ≢ 0 → plan.used t ≡ true → begun plan master p logs (master + t) ≡ Some []
begun_there plan master t p logs tl second used =
    with_other (with_log (with_seconds plan master logs) master (Some [])) master (Some (payloads_at (with_log (with_seconds plan master logs) master (Some []) master) ++ p ∷ [])) (master + t) (λ e. second (omega (arith, e)))
    ∙ with_other (with_seconds plan master logs) master (Some []) (master + t) (λ e. second (omega (arith, e)))
    ∙ seconds_made plan master t logs tl second used

pub begun_second : (plan : Plan) (master t : ℕ) (p : List ℕ) (logs : Logs) → t < 4 → t ≢ 0 → plan.used t ≡ true → IsOpenIn (begun plan master p logs) (master + t) 0
begun_second plan master t p logs tl second used = record { payloads = []; there = begun_there plan master t p logs tl second used; end_is = refl }

-- what the files of a roll mean, one after the other
module _ (roll_means : RollMeans) (block_of : List ℕ → Block) (plan : Plan) (v : Value) (files : List ℕ) (master : ℕ) (p : List ℕ) (logs : Logs)
    (master_is : master ≡ file_of (v.last + 1) 0) (used : plan.used 0 ≡ true) (more : v.last < 1000000000) (spells : block_of p ≡ Start (received v) v.phase) (means : MeansBy block_of plan logs files v) where
  trail_means : (t : ℕ) (x : Logs) → t < 4 → MeansBy block_of plan x files v → MeansBy block_of plan (with_trail plan master t x) files v
  trail_means t x tl h =
      let file : master + t ≡ file_of (v.last + 1) t = omega (arith, master_is) in
      elim (plan.used t) as (λ b. MeansBy block_of plan (if b then with_log x (master + t) (Some []) else x) files v) [
        | true ↦ subst (λ (f : ℕ). MeansBy block_of plan (with_log x f (Some [])) files v) (sym file) (roll_beside block_of plan x v t (Some []) tl (λ z. refl) files h)
        | false ↦ h
      ]

  m1 : MeansBy block_of plan (l1 plan master p logs) files v
  m1 = trail_means 1 logs (omega arith) means

  m2 : MeansBy block_of plan (l2 plan master p logs) files v
  m2 = trail_means 2 (l1 plan master p logs) (omega arith) m1

  m3 : MeansBy block_of plan (l3 plan master p logs) files v
  m3 = trail_means 3 (l2 plan master p logs) (omega arith) m2

  m4 : MeansBy block_of plan (l4 plan master p logs) files v
  m4 = subst (λ (f : ℕ). MeansBy block_of plan (with_log (l3 plan master p logs) f (Some [])) files v) (sym master_is) (roll_beside block_of plan (l3 plan master p logs) v 0 (Some []) (omega arith) (λ z. refl) files m3)

  pub begun_means : MeansBy block_of plan (begun plan master p logs) (files ++ file_of (v.last + 1) 0 ∷ []) (rolled v)
  begun_means =
      subst (λ (f : ℕ). MeansBy block_of plan (pushed (l4 plan master p logs) f p) (files ++ file_of (v.last + 1) 0 ∷ []) (rolled v)) (sym master_is)
      (roll_means block_of plan (l4 plan master p logs) v p used more spells
      (subst (λ (f : ℕ). l4 plan master p logs f ≡ Some []) master_is (with_same (l3 plan master p logs) master (Some [])))
      (λ t tl second tu.
      let file : master + t ≡ file_of (v.last + 1) t = omega (arith, master_is) in
      subst (λ (f : ℕ). l4 plan master p logs f ≡ Some []) file
      (with_other (l3 plan master p logs) master (Some []) (master + t) (λ e. second (omega (arith, e))) ∙ seconds_made plan master t logs tl second tu))
      files m4)

  pub left_stands : (new : Disk) → Durably new (Left plan master p logs) → Durably new (StandsEither block_of plan v (rolled v))
  left_stands new left c may =
      ⊎_elim
      (λ (one : ReadsOne (before_start plan master logs) c). inl (⊎_elim (λ (h : Reads logs c). (logs, h, means_plain block_of plan logs files v means))
      (λ (one : ReadsOne (l1 plan master p logs ∷ l2 plan master p logs ∷ l3 plan master p logs ∷ l4 plan master p logs ∷ []) c).
      ⊎_elim (λ (h : Reads (l1 plan master p logs) c). (l1 plan master p logs, h, means_plain block_of plan (l1 plan master p logs) files v m1))
      (λ (one : ReadsOne (l2 plan master p logs ∷ l3 plan master p logs ∷ l4 plan master p logs ∷ []) c).
      ⊎_elim (λ (h : Reads (l2 plan master p logs) c). (l2 plan master p logs, h, means_plain block_of plan (l2 plan master p logs) files v m2))
      (λ (one : ReadsOne (l3 plan master p logs ∷ l4 plan master p logs ∷ []) c).
      ⊎_elim (λ (h : Reads (l3 plan master p logs) c). (l3 plan master p logs, h, means_plain block_of plan (l3 plan master p logs) files v m3))
      (λ (one : ReadsOne (l4 plan master p logs ∷ []) c).
      ⊎_elim (λ (h : Reads (l4 plan master p logs) c). (l4 plan master p logs, h, means_plain block_of plan (l4 plan master p logs) files v m4))
      (λ (none : ⊥). absurd none) one) one) one) one) one))
      (λ (h : Reads (begun plan master p logs) c). inr (begun plan master p logs, h, means_plain block_of plan (begun plan master p logs) (files ++ file_of (v.last + 1) 0 ∷ []) (rolled v) begun_means))
      (left c may)

  pub begun_stands : (new : Disk) → Rests (begun plan master p logs) new → Durably new (StandsEither block_of plan v (rolled v))
  begun_stands new rests c may = inr (durably_stands block_of plan (begun plan master p logs) (rolled v) new rests (means_plain block_of plan (begun plan master p logs) (files ++ file_of (v.last + 1) 0 ∷ []) (rolled v) begun_means) c may)

-- the memory after a roll says what the disk then stands for
pub rolled_alike : (m n : Memory) (end : ℕ) → HasRolled m n end → ((t : ℕ) → t < 4 → AreEntries (λ r. true) 0 (get_or m.tops.items t 0) (get_or (lists_of m.entries) t [])) → Alike (rolled (value_in m)) (value_in n)
rolled_alike m n end h rising =
    let r : ℕ = get_or m.tops.items 0 0 in
    record {
      starts = sym h.starts;
      last = sym h.last;
      phase = sym h.phase;
      top = λ t tl. sym (h.tops t tl);
      entry = λ t i tl.
          let l = get_or (lists_of m.entries) t [] in
          sym (ap (λ (l : List Stamped). found l i) (h.lists t (positions_rise (λ x. true) 0 (get_or m.tops.items t 0) l (rising t tl))) ∙ found_kept (λ k. nat_lt k r) l i);
    }

pub rolled_rising : (m n : Memory) (end : ℕ) → HasRolled m n end → ((t : ℕ) → t < 4 → AreEntries (λ r. true) 0 (get_or m.tops.items t 0) (get_or (lists_of m.entries) t []))
    → (t : ℕ) → t < 4 → AreEntries (λ r. true) 0 (get_or n.tops.items t 0) (get_or (lists_of n.entries) t [])
rolled_rising m n end h rising t tl =
    let r : ℕ = get_or m.tops.items 0 0 in
    let l : List Stamped = get_or (lists_of m.entries) t [] in
    subst (λ (k : ℕ). AreEntries (λ x. true) 0 k (get_or (lists_of n.entries) t [])) (sym (h.tops t tl))
    (subst (λ (x : List Stamped). AreEntries (λ x. true) 0 r x) (sym (h.lists t (positions_rise (λ x. true) 0 (get_or m.tops.items t 0) l (rising t tl))))
    (entries_cut (λ x. true) r 0 (get_or m.tops.items t 0) l (rising t tl)))

pub rolled_in_use : RollMeans → (block_of : List ℕ → Block) (m n : Memory) (old new : Disk) (master end : ℕ) (p : List ℕ) → (use_ : IsInUse block_of m old) → n.layout ≡ m.layout → m.last < 1000000000 → HasRolled m n end
    → master ≡ file_of (m.last + 1) 0 → block_of p ≡ Start (received (value_in m)) m.phase
    → Rests (begun (plan_in m) master p use_.logs) new × IsOpenIn (begun (plan_in m) master p use_.logs) master end → IsInUse block_of n new
rolled_in_use roll_means block_of m n old new master end p use_ same more h master_is spells (rests, opened) =
    let plan = plan_in m in
    let after : Logs = begun plan master p use_.logs in
    let means : MeansBy block_of plan after (files_of m.generations ++ file_of (m.last + 1) 0 ∷ []) (rolled (value_in m)) = begun_means roll_means block_of plan (value_in m) (files_of m.generations) master p use_.logs master_is refl more spells use_.means in
    let means2 : MeansBy block_of plan after (files_of m.generations ++ file_of (m.last + 1) 0 ∷ []) (value_in n) = means_alike-by block_of plan after (files_of m.generations ++ file_of (m.last + 1) 0 ∷ []) (rolled (value_in m)) (value_in n) (rolled_alike m n end h use_.rising) means in
    record {
      logs = after;
      rests = rests;
      means = subst (λ (a : Layout). MeansBy block_of (plan_of a) after (files_of n.generations) (value_in n)) (sym same) (subst (λ (l : List ℕ). MeansBy block_of plan after l (value_in n)) (sym h.files) means2);
      opened = λ t tl tu.
          let tu2 : plan.used t ≡ true = subst (λ (a : Layout). (plan_of a).used t ≡ true) same tu in
          let file : master + t ≡ file_of n.last t = omega (arith, master_is, h.last) in
          subst (λ (f : ℕ). IsOpenIn after f (get_or n.ends.items t 0)) file
          (elim (cases_eq t 0) [
            | inl first ↦
                let e : get_or n.ends.items t 0 ≡ end = ap (λ (u : ℕ). get_or n.ends.items u 0) first ∙ h.master in
                let f : master + t ≡ master = omega (arith, first) in
                subst (λ (x : ℕ). IsOpenIn after x (get_or n.ends.items t 0)) (sym f) (subst (λ (x : ℕ). IsOpenIn after master x) (sym e) opened)
            | inr second ↦ subst (λ (x : ℕ). IsOpenIn after (master + t) x) (sym (h.seconds t tl second)) (begun_second plan master t p use_.logs tl second tu2)
          ]);
      above = λ f far. begun_above plan master f p use_.logs (omega (arith, far, h.last, master_is)) (use_.above f (omega (arith, far, h.last)));
      rising = rolled_rising m n end h use_.rising;
    }
