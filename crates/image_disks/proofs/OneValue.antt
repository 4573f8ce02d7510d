-- Which generations stand on a disk is told by its logs, and so is what they stand for.
use Rattle.std.proofs.Common.{◌≡◌, ◌≢◌, ◌⊎◌, inl, inr, ⊎_elim, ℕ, ◌<◌, ◌≤◌, Bool, true, false, nat_lt, if◌then◌else◌, List, [], ◌∷◌, ◌++◌, map, Option, Some, None, refl, sym, ◌∙◌, ap, ap₂, subst, arith}
use Rattle.std.proofs.lemmas.Bool.{cases_eq, ne_eqb}
use Rattle.rdf_types.specs.declared.records.Record.{Record}
use Rattle.rdf_types.specs.declared.records.Phase.{Phase}
use Rattle.rdf_gatelog.specs.Logs.{Logs}
use Rattle.rdf_gatelog.specs.RestLaws.{one_reading}
use Rattle.image_disks.specs.Blocks.{Block, Start, Plan, found, entries, end_after, phase_after}
use Rattle.image_disks.specs.Values.{Value, Alike, first_of}
use Rattle.image_disks.specs.Standing.{Gen, file_of, all_blocks, IsGen, first_start, first_number, AreGens, entry_of, value_of, spelled, IsOn, AreOn, IsNumberOf, IsUnborn, AreStanding, Means, OneValue}
use Rattle.image_disks.specs.Flaws.{Stands}
use Rattle.image_disks.specs.StandingLaws.{number_rises, number_above}
use Rattle.image_disks.specs.ValueLaws.{alike_trans, alike_sym}

-- ---- numbers

pub decide_number : (n : ℕ) (older : List Gen) (last : Gen) → IsNumberOf n older last ⊎ (IsNumberOf n older last → ⊥)
decide_number n [] last = elim (cases_eq n last.number) [ inl same ↦ inl same | inr other ↦ inr (λ e. other e) ]
decide_number n (g ∷ older) last =
    elim (cases_eq n g.number) [
      | inl same ↦ inl (inl same)
      | inr other ↦ elim (decide_number n older last) [
        | inl is ↦ inl (inr is)
        | inr not ↦ inr (λ either. ⊎_elim (λ (e : n ≡ g.number). other e) (λ (h : IsNumberOf n older last). not h) either)
      ]
    ]

pub first_is_number : (older : List Gen) (last : Gen) → IsNumberOf (first_number older last) older last
first_is_number [] last = refl
first_is_number (g ∷ older) last = inl refl

-- ---- a master that begins with a Start

module _ (block_of : List ℕ → Block) (plan : Plan) (logs : Logs) where
  -- what a master that is spelled so has
  pub start_in : (x : Option (List (List ℕ))) (start : ℕ) (phase : Phase) (bs : List Block) → spelled block_of x ≡ Some (Start start phase ∷ bs)
      → (first : List ℕ) × ((rest : List (List ℕ)) × (x ≡ Some (first ∷ rest)) × (block_of first ≡ Start start phase) × (map block_of rest ≡ bs))
  start_in None start phase bs e = cc
  start_in (Some []) start phase bs e = cc
  start_in (Some (p ∷ ps)) start phase bs e = (p, (ps, refl, cc, cc))

  pub born : (k : ℕ) (first : List ℕ) (rest : List (List ℕ)) → logs (file_of k 0) ≡ Some (first ∷ rest) → IsUnborn (logs (file_of k 0)) → ⊥
  born k first rest there unborn = let none : first ∷ rest ≡ [] = subst IsUnborn there unborn in cc

  pub gen_stands : (g : Gen) → plan.used 0 ≡ true → IsOn block_of plan logs g → Stands block_of logs g.number
  gen_stands g used on =
      let f = start_in (logs (file_of g.number 0)) g.start g.phase (g.blocks 0) (on 0 (omega arith) used) in
      (g.start, (g.phase, (f.1.0, record { first = f.0; log = f.1.1; is = f.1.2 })))

  -- what stands is a number
  pub stands_is_number : (older : List Gen) (last : Gen) (n : ℕ) → AreStanding block_of plan logs older last → Stands block_of logs n → IsNumberOf n older last
  stands_is_number older last n s (start, (phase, (rest, h))) =
      elim (decide_number n older last) [
        | inl is ↦ is
        | inr not ↦ absurd (born n h.first rest h.log (s.unborn n not))
      ]

  pub number_stands : (older : List Gen) (last : Gen) (n : ℕ) → plan.used 0 ≡ true → AreOn block_of plan logs older last → IsNumberOf n older last → Stands block_of logs n
  number_stands [] last n used on is = subst (Stands block_of logs) (sym is) (gen_stands last used on)
  number_stands (g ∷ older) last n used on is =
      ⊎_elim (λ (e : n ≡ g.number). subst (Stands block_of logs) (sym e) (gen_stands g used on.0)) (λ (h : IsNumberOf n older last). number_stands older last n used on.1 h) is

  -- ---- one generation by its number

  same_some : {A : Type 0} (x y : A) → ◌≡◌ {A = Option A} (Some x) (Some y) → x ≡ y
  same_some x y e = cc

  same_head : (s t : ℕ) (p q : Phase) (bs cs : List Block) → ◌≡◌ {A = List Block} (Start s p ∷ bs) (Start t q ∷ cs) → (s ≡ t) × (p ≡ q) × (bs ≡ cs)
  same_head s t p q bs cs e = let head : Start s p ≡ Start t q = cc in (cc, cc, cc)

  second_blocks : (g : Gen) (t : ℕ) → t ≢ 0 → all_blocks g t ≡ g.blocks t
  second_blocks g t second = ap (λ (b : Bool). if b then Start g.start g.phase ∷ g.blocks t else g.blocks t) (ne_eqb t 0 second)

  pub same_gen : (g h : Gen) → plan.used 0 ≡ true → g.number ≡ h.number → IsGen plan g → IsGen plan h → IsOn block_of plan logs g → IsOn block_of plan logs h → (g.start ≡ h.start) × (g.phase ≡ h.phase) × ((t : ℕ) → t < 4 → g.blocks t ≡ h.blocks t)
  same_gen g h used same gg gh og oh =
      let there = λ (t : ℕ). ap (λ (n : ℕ). spelled block_of (logs (file_of n t))) same in
      let head = same_head g.start h.start g.phase h.phase (g.blocks 0) (h.blocks 0)
      (same_some (Start g.start g.phase ∷ g.blocks 0) (Start h.start h.phase ∷ h.blocks 0) (sym (og 0 (omega arith) used) ∙ there 0 ∙ oh 0 (omega arith) used)) in (
        head.0,
        head.1,
        λ t tl. elim (cases_eq t 0) [
          | inl zeroth ↦ subst (λ (u : ℕ). g.blocks u ≡ h.blocks u) (sym zeroth) head.2
          | inr second ↦ elim (plan.used t) as (λ b. plan.used t ≡ b → g.blocks t ≡ h.blocks t) [
            | true ↦ λ tu. sym (second_blocks g t second) ∙ same_some (all_blocks g t) (all_blocks h t) (sym (og t tl tu) ∙ there t ∙ oh t tl tu) ∙ second_blocks h t second
            | false ↦ λ tu. gg.unused t tu ∙ sym (gh.unused t tu)
          ] refl
        ],
      )

  -- ---- all of them

  starts_first : (older : List Gen) (last : Gen) → first_of (map (λ (g : Gen). g.start) older ++ last.start ∷ []) ≡ first_start older last
  starts_first [] last = refl
  starts_first (g ∷ older) last = refl

  abbrev Covers : List Gen → Gen → List Gen → Gen → Type 0
  Covers older last others end = (n : ℕ) → IsNumberOf n older last → IsNumberOf n others end

  tail_covers : (g h : Gen) (older others : List Gen) (last end : Gen) → AreGens plan (g ∷ older) last → g.number ≡ h.number → Covers (g ∷ older) last (h ∷ others) end → Covers older last others end
  tail_covers g h older others last end gens same covers n is =
      ⊎_elim (λ (e : n ≡ h.number). absurd (omega (arith, e, same, gens.1, number_above plan older last n gens.3 is))) (λ (k : IsNumberOf n others end). k) (covers n (inr is))

  same_values : (older : List Gen) (last : Gen) (others : List Gen) (end : Gen) → plan.used 0 ≡ true → AreGens plan older last → AreGens plan others end → AreOn block_of plan logs older last → AreOn block_of plan logs others end
      → Covers older last others end → Covers others end older last → Alike (value_of older last) (value_of others end)
  same_values [] last [] end used gl ge ol oe to from =
      let same = same_gen last end used (to last.number refl) gl ge ol oe in
      record {
        starts = ap (λ (n : ℕ). n ∷ []) same.0;
        last = to last.number refl;
        phase = ap₂ phase_after same.1 (same.2 0 (omega arith));
        top = λ t tl. ap₂ end_after same.0 (same.2 t tl);
        entry = λ t i tl. ap (λ (l : List Block). found (entries l) i) (same.2 t tl);
      }
  same_values [] last (h ∷ others) end used gl ge ol oe to from =
      let one : h.number ≡ last.number = from h.number (inl refl) in
      let two : end.number ≡ last.number = from end.number (inr (is_last others end)) in
      absurd (omega (arith, one, two, ge.1, number_rises plan others end ge.3))
    where
      is_last : (others : List Gen) (end : Gen) → IsNumberOf end.number others end
      is_last [] end = refl
      is_last (x ∷ others) end = inr (is_last others end)
  same_values (g ∷ older) last [] end used gl ge ol oe to from =
      let one : g.number ≡ end.number = to g.number (inl refl) in
      let two : last.number ≡ end.number = to last.number (inr (is_last older last)) in
      absurd (omega (arith, one, two, gl.1, number_rises plan older last gl.3))
    where
      is_last : (others : List Gen) (end : Gen) → IsNumberOf end.number others end
      is_last [] end = refl
      is_last (x ∷ others) end = inr (is_last others end)
  same_values (g ∷ older) last (h ∷ others) end used gl ge ol oe to from =
      let above : h.number ≤ g.number = number_above plan (h ∷ others) end g.number ge (to g.number (inl refl)) in
      let below : g.number ≤ h.number = number_above plan (g ∷ older) last h.number gl (from h.number (inl refl)) in
      let number : g.number ≡ h.number = omega (arith, above, below) in
      let same = same_gen g h used number gl.0 ge.0 ol.0 oe.0 in
      let rest = same_values older last others end used gl.3 ge.3 ol.1 oe.1 (tail_covers g h older others last end gl number to) (tail_covers h g others older end last ge (sym number) from) in
      let next : first_start older last ≡ first_start others end = sym (starts_first older last) ∙ ap first_of rest.starts ∙ starts_first others end in
      record {
        starts = ap₂ (λ (n : ℕ) (l : List ℕ). n ∷ l) same.0 rest.starts;
        last = rest.last;
        phase = rest.phase;
        top = rest.top;
        entry = λ t i tl. ap (λ (n : ℕ). if nat_lt i n then found (entries (g.blocks t)) i else entry_of older last t i) next
            ∙ ap₂ (λ (x y : Option Record). if nat_lt i (first_start others end) then x else y) (ap (λ (l : List Block). found (entries l) i) (same.2 t tl)) (rest.entry t i tl);
      }

  pub one_means : (v w : Value) → plan.used 0 ≡ true → Means block_of plan logs v → Means block_of plan logs w → Alike v w
  one_means v w used (older, last, s, a) (others, end, r, b) =
      let same = same_values older last others end used s.gens r.gens s.on r.on
      (λ n is. stands_is_number others end n r (number_stands older last n used s.on is)) (λ n is. stands_is_number older last n s (number_stands others end n used r.on is)) in
      alike_trans v (value_of older last) w (alike_sym (value_of older last) v a) (alike_trans (value_of older last) (value_of others end) w same b)

-- ---- the same logs, given by another function

module _ (block_of : List ℕ → Block) (plan : Plan) (logs others : Logs) (same : (m : ℕ) → logs m ≡ others m) where
  on_same : (g : Gen) → IsOn block_of plan logs g → IsOn block_of plan others g
  on_same g on t tl tu = ap (spelled block_of) (sym (same (file_of g.number t))) ∙ on t tl tu

  all_on_same : (older : List Gen) (last : Gen) → AreOn block_of plan logs older last → AreOn block_of plan others older last
  all_on_same [] last on = on_same last on
  all_on_same (g ∷ older) last on = (on_same g on.0, all_on_same older last on.1)

  pub standing_same : (older : List Gen) (last : Gen) → AreStanding block_of plan logs older last → AreStanding block_of plan others older last
  standing_same older last s = record { gens = s.gens; on = all_on_same older last s.on; unborn = λ n free. subst IsUnborn (same (file_of n 0)) (s.unborn n free) }

  pub means_same : (v : Value) → Means block_of plan logs v → Means block_of plan others v
  means_same v (older, last, s, a) = (older, last, standing_same older last s, a)

pub one_value : OneValue
one_value block_of plan v w c used (logs, reads, means) (others, read, mean) =
    one_means block_of plan others v w used (means_same block_of plan logs others (one_reading logs others c reads read) v means) mean
