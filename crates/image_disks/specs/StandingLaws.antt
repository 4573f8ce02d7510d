-- Laws of the generations that stand on an image disk.
use Rattle.std.proofs.Common.{◌≡◌, ◌≢◌, inl, inr, ⊎_elim, ℕ, ◌+◌, ◌<◌, ◌≤◌, Bool, true, false, nat_lt, if◌then◌else◌, List, [], ◌∷◌, ◌++◌, map, Option, None, refl, sym, ◌∙◌, ap, ap₂, subst, arith}
use Rattle.std.proofs.lemmas.Bool.{cases_eq, le-ltb}
use Rattle.std.proofs.lemmas.Bool.Decides.{nat_tests}
use Rattle.rdf_types.specs.declared.records.Record.{Record}
use Rattle.rdf_disk.specs.Files.{Contents}
use Rattle.rdf_gatelog.specs.Logs.{Logs, with_log}
use Rattle.rdf_gatelog.specs.RestLaws.{with_same, with_other}
use Rattle.image_disks.specs.Blocks.{Block, Plan, found, entries, end_after}
use Rattle.image_disks.specs.Values.{Value, Alike, dropped, rest_of, second_of}
use Rattle.image_disks.specs.Standing.{Gen, file_of, end_of, IsGen, first_start, first_number, AreGens, entry_of, value_of, spelled, IsOn, AreOn, IsNumberOf, IsUnborn, AreStanding, MeansBy, Means, StandsFor}
use Rattle.image_disks.specs.BlockLaws.{file_before, file_behind, end_no_less, if_both}
use Rattle.image_disks.specs.ValueLaws.{alike_trans}

-- ---- numbers and starts

-- the first number isn't above the last
pub number_rises : (plan : Plan) (older : List Gen) (last : Gen) → AreGens plan older last → first_number older last ≤ last.number
number_rises plan [] last gens = omega arith
number_rises plan (g ∷ older) last gens = omega (arith, gens.1, number_rises plan older last gens.3)

-- the first start isn't above the last
pub start_rises : (plan : Plan) (older : List Gen) (last : Gen) → AreGens plan older last → first_start older last ≤ last.start
start_rises plan [] last gens = omega arith
start_rises plan (g ∷ older) last gens = omega (arith, gens.2, end_no_less plan 0 g.start (g.blocks 0) (gens.0.in_place 0), start_rises plan older last gens.3)

-- no number is greater than the last
pub number_below : (plan : Plan) (older : List Gen) (last : Gen) (n : ℕ) → AreGens plan older last → IsNumberOf n older last → n ≤ last.number
number_below plan [] last n gens is = omega arith
number_below plan (g ∷ older) last n gens is = ⊎_elim (λ (e : n ≡ g.number). omega (arith, gens.1, number_rises plan older last gens.3)) (λ (h : IsNumberOf n older last). number_below plan older last n gens.3 h) is

-- no number is less than the first
pub number_above : (plan : Plan) (older : List Gen) (last : Gen) (n : ℕ) → AreGens plan older last → IsNumberOf n older last → first_number older last ≤ n
number_above plan [] last n gens is = omega arith
number_above plan (g ∷ older) last n gens is = ⊎_elim (λ (e : n ≡ g.number). omega arith) (λ (h : IsNumberOf n older last). omega (arith, gens.1, number_above plan older last n gens.3 h)) is

-- the last generation is one
pub last_gen : (plan : Plan) (older : List Gen) (last : Gen) → AreGens plan older last → IsGen plan last
last_gen plan [] last gens = gens
last_gen plan (g ∷ older) last gens = last_gen plan older last gens.3

-- and is on the disk
pub last_on : (block_of : List ℕ → Block) (plan : Plan) (logs : Logs) (older : List Gen) (last : Gen) → AreOn block_of plan logs older last → IsOn block_of plan logs last
last_on block_of plan logs [] last on = on
last_on block_of plan logs (g ∷ older) last on = last_on block_of plan logs older last on.1

-- files of different generations are different
pub file_differs : (g h t u : ℕ) → t < 4 → u < 4 → g ≢ h → file_of g t ≢ file_of h u
file_differs g h t u tl ul differ same = differ (omega arith)

-- files of different trails are different
pub file_differs-trail : (g t u : ℕ) → t ≢ u → file_of g t ≢ file_of g u
file_differs-trail g t u differ same = differ (omega arith)

-- a file of a number that doesn't stand is changed: the standing ones are left alone
module _ (block_of : List ℕ → Block) (plan : Plan) (logs : Logs) (n t : ℕ) (tl : t < 4) (x : Option (List (List ℕ))) where
  on-beside : (g : Gen) → g.number ≢ n → IsOn block_of plan logs g → IsOn block_of plan (with_log logs (file_of n t) x) g
  on-beside g differ on u ul uu = ap (spelled block_of) (with_other logs (file_of n t) x (file_of g.number u) (file_differs g.number n u t ul tl differ)) ∙ on u ul uu

  -- they are on the disk as before
  pub all_on-beside : (older : List Gen) (last : Gen) → (IsNumberOf n older last → ⊥) → AreOn block_of plan logs older last → AreOn block_of plan (with_log logs (file_of n t) x) older last
  all_on-beside [] last not on = on-beside last (λ e. not (sym e)) on
  all_on-beside (g ∷ older) last not on = (on-beside g (λ e. not (inl (sym e))) on.0, all_on-beside older last (λ is. not (inr is)) on.1)

  -- and stand as before
  pub standing-beside : (older : List Gen) (last : Gen) → (IsNumberOf n older last → ⊥) → (t ≡ 0 → IsUnborn x) → AreStanding block_of plan logs older last
      → AreStanding block_of plan (with_log logs (file_of n t) x) older last
  standing-beside older last not born s = record {
    gens = s.gens;
    on = all_on-beside older last not s.on;
    unborn = λ k free. elim (cases_eq (file_of k 0) (file_of n t)) [
      | inl same ↦ let master : t ≡ 0 = omega arith in subst IsUnborn (sym (ap (with_log logs (file_of n t) x) same ∙ with_same logs (file_of n t) x)) (born master)
      | inr other ↦ subst IsUnborn (sym (with_other logs (file_of n t) x (file_of k 0) other)) (s.unborn k free)
    ];
  }

-- a file of the generation behind the last one, which does not stand yet, changes no meaning
pub roll_beside : (block_of : List ℕ → Block) (plan : Plan) (logs : Logs) (v : Value) (t : ℕ) (x : Option (List (List ℕ))) → t < 4 → (t ≡ 0 → IsUnborn x)
    → (masters : List ℕ) → MeansBy block_of plan logs masters v → MeansBy block_of plan (with_log logs (file_of (v.last + 1) t) x) masters v
roll_beside block_of plan logs v t x tl born masters (older, last, s, alike, files) = (
  older,
  last,
  standing-beside block_of plan logs (v.last + 1) t tl x older last (λ h. omega (arith, number_below plan older last (v.last + 1) s.gens h, alike.last)) born s,
  alike,
  files,
)

-- ---- without the first generation

-- nothing stands before the first start
entry_before : (plan : Plan) (older : List Gen) (last : Gen) (t i : ℕ) → AreGens plan older last → i < first_start older last → entry_of older last t i ≡ None
entry_before plan [] last t i gens below = file_before plan t last.start (last.blocks t) i (gens.in_place t) below
entry_before plan (g ∷ older) last t i gens below =
    let no_less : g.start ≤ end_after g.start (g.blocks 0) = end_no_less plan 0 g.start (g.blocks 0) (gens.0.in_place 0) in
    ap₂ (λ (x y : Option Record). if nat_lt i (first_start older last) then x else y) (file_before plan t g.start (g.blocks t) i (gens.0.in_place t) below)
    (entry_before plan older last t i gens.3 (omega (arith, below, gens.2, no_less)))
    ∙ if_both (nat_lt i (first_start older last)) None

entry-dropped : (plan : Plan) (g : Gen) (older : List Gen) (last : Gen) (t i : ℕ) → AreGens plan older last
    → entry_of older last t i ≡ (if nat_lt i (first_start older last) then None else entry_of (g ∷ older) last t i)
entry-dropped plan g older last t i gens =
    elim (nat_lt i (first_start older last)) as (λ b. nat_lt i (first_start older last) ≡ b → entry_of older last t i ≡ (if b then None else (if b then found (entries (g.blocks t)) i else entry_of older last t i))) [
      | true ↦ λ e. entry_before plan older last t i gens (grind (arith, nat_tests, e))
      | false ↦ λ e. refl
    ] refl

second_is : (older : List Gen) (last : Gen) (s : ℕ) → second_of (s ∷ (map (λ (g : Gen). g.start) older ++ last.start ∷ [])) ≡ first_start older last
second_is [] last s = refl
second_is (g ∷ older) last s = refl

-- the removal of the first master, and that alone, drops a generation: its secondaries' files then don't count
pub drop_standing : (block_of : List ℕ → Block) (plan : Plan) (logs : Logs) (g : Gen) (older : List Gen) (last : Gen) → AreStanding block_of plan logs (g ∷ older) last
    → AreStanding block_of plan (with_log logs (file_of g.number 0) None) older last
drop_standing block_of plan logs g older last s =
    let free : IsNumberOf g.number older last → ⊥ = λ h. omega (arith, s.gens.1, number_above plan older last g.number s.gens.3 h) in
    record {
      gens = s.gens.3;
      on = all_on-beside block_of plan logs g.number 0 (omega arith) None older last free s.on.1;
      unborn = λ k not. elim (cases_eq (file_of k 0) (file_of g.number 0)) [
        | inl same ↦ subst IsUnborn (sym (ap (with_log logs (file_of g.number 0) None) same ∙ with_same logs (file_of g.number 0) None)) tt
        | inr other ↦ subst IsUnborn (sym (with_other logs (file_of g.number 0) None (file_of k 0) other))
            (s.unborn k (λ h. ⊎_elim (λ (e : k ≡ g.number). other (ap (λ (n : ℕ). file_of n 0) e)) (λ (h : IsNumberOf k older last). not h) h))
      ];
    }

-- the generations without the first are the value without it
pub drop_alike : (plan : Plan) (v : Value) (g : Gen) (older : List Gen) (last : Gen) → AreGens plan older last → Alike (value_of (g ∷ older) last) v → Alike (value_of older last) (dropped v)
drop_alike plan v g older last gens alike =
    let second : second_of v.starts ≡ first_start older last = ap second_of (sym alike.starts) ∙ second_is older last g.start in
    record {
      starts = ap rest_of alike.starts;
      last = alike.last;
      phase = alike.phase;
      top = alike.top;
      entry = λ t i tl. entry-dropped plan g older last t i gens ∙ ap₂ (λ (n : ℕ) (x : Option Record). if nat_lt i n then None else x) (sym second) (alike.entry t i tl);
    }

-- ---- what is found

-- nothing stands at or behind a trail's top
entry_behind : (plan : Plan) (older : List Gen) (last : Gen) (t i : ℕ) → AreGens plan older last → end_of last t ≤ i → entry_of older last t i ≡ None
entry_behind plan [] last t i gens above = file_behind plan t last.start (last.blocks t) i (gens.in_place t) above
entry_behind plan (g ∷ older) last t i gens above =
    let rises = start_rises plan older last gens.3 in
    let no_less = end_no_less plan t last.start (last.blocks t) ((last_gen plan older last gens.3).in_place t) in
    ap (λ (b : Bool). if b then found (entries (g.blocks t)) i else entry_of older last t i) (le-ltb i (first_start older last) (omega arith))
    ∙ entry_behind plan older last t i gens.3 above

-- so nothing is found there
pub value_behind : (block_of : List ℕ → Block) (plan : Plan) (logs : Logs) (v : Value) (t i : ℕ) → t < 4 → (masters : List ℕ) → MeansBy block_of plan logs masters v → v.top t ≤ i → v.entry t i ≡ None
value_behind block_of plan logs v t i tl masters (older, last, s, alike, files) above = sym (alike.entry t i tl) ∙ entry_behind plan older last t i s.gens (subst (λ (n : ℕ). n ≤ i) (sym (alike.top t tl)) above)

-- ---- alike values

-- what logs mean they mean of a value that is alike
pub means_alike : (block_of : List ℕ → Block) (plan : Plan) (logs : Logs) (v w : Value) → Alike v w → Means block_of plan logs v → Means block_of plan logs w
means_alike block_of plan logs v w alike (older, last, s, a) = (older, last, s, alike_trans _ v w a alike)

-- what stands for a value stands for one that is alike
pub stands_alike : (block_of : List ℕ → Block) (plan : Plan) (v w : Value) (c : Contents) → Alike v w → StandsFor block_of plan v c → StandsFor block_of plan w c
stands_alike block_of plan v w c a (logs, reads, means) = (logs, reads, means_alike block_of plan logs v w a means)
