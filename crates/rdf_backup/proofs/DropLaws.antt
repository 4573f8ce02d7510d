-- Which generations a purge drops, part by part.
use Rattle.std.proofs.Common.{◌≡◌, ℕ, zero, suc, ◌+◌, ◌≤◌, ◌^◌, ◌-◌, min, nat_lt, nat_le, ◌&&◌, if◌then◌else◌, Bool, true, false, List, [], ◌∷◌, ◌++◌, length, length-append, map, get_or, refl, sym, ap, ap₂, ◌∙◌, subst, arith}
use Rattle.std.proofs.lemmas.Bool.{le-ltb}
use Rattle.std.proofs.lemmas.List.{length-map}
use Rattle.image_disks.specs.Blocks.{Plan}
use Rattle.image_disks.specs.Spelled.{block_of}
use Rattle.image_disks.specs.Values.{Value, rest_of}
use Rattle.image_disks.specs.Standing.{MeansBy, Gen, AreGens, first_number, most_generations}
use Rattle.image_trails.specs.declared.memory.Memory.{Memory}
use Rattle.image_trails.specs.Memory.{IsInUse, value_in, plan_in, files_of}
use Rattle.rdf_disk.specs.Files.{Disk}
use Rattle.purger.specs.Purging.{gone, without}
use Rattle.purger.specs.PurgingLaws.{gone_within}
use Rattle.rdf_core.specs.Effects.{after_parts, after_all}
use Rattle.rdf_core.specs.Layouts.{least, point_of}
use Rattle.rdf_core.specs.Backup.{Backup as State, drops}
use Rattle.rdf_backup.specs.Standing.{IsValueOf}
use Rattle.rdf_backup.proofs.Storing.{IsPartway}

-- the starts without so many first ones
abbrev pub left : ℕ → List ℕ → List ℕ
left zero starts = starts
left (suc n) starts = rest_of (left n starts)

left_out : (n s : ℕ) (rest : List ℕ) → left (suc n) (s ∷ rest) ≡ left n rest
left_out zero s rest = refl
left_out (suc n) s rest = ap (λ l. rest_of l) (left_out n s rest)

abbrev pub with_starts : State → List ℕ → State
with_starts b starts = record b { starts = starts }

-- what image trails tell once so many first generations are gone
record AreLess (n : ℕ) (v w : Value) : Type 0 where
  pub starts : w.starts ≡ left n v.starts
  pub last : w.last ≡ v.last
  pub phase : w.phase ≡ v.phase
  pub top : w.top 0 ≡ v.top 0

less : (n : ℕ) (v : Value) → AreLess n v (without n v)
less zero v = record { starts = refl; last = refl; phase = refl; top = refl }
less (suc n) v = let h = less n v in record { starts = ap (λ l. rest_of l) h.starts; last = h.last; phase = h.phase; top = h.top }

pub less_tells : (b : State) (n : ℕ) (v : Value) → IsValueOf b v → IsValueOf (with_starts b (left n b.starts)) (without n v)
less_tells b n v h = let l = less n v in record {
  received_is = l.top ∙ h.received_is;
  starts_are = l.starts ∙ ap (λ starts. left n starts) h.starts_are;
  number_is = l.last ∙ h.number_is;
  phase_is = l.phase ∙ h.phase_is;
}

-- the last generation does not go
last_stays : (retain floor s : ℕ) → 1 ≤ retain → gone retain floor (s ∷ []) ≡ 0
last_stays retain floor s some = ap (λ (c : Bool). if c && nat_le 0 floor then suc 0 else 0) (le-ltb retain 1 some)

module _ (retain floor : ℕ) (some : 1 ≤ retain) (b : State) where
  abbrev states : List ℕ → List State
  states starts = map (λ l. with_starts b l) (drops retain floor starts)

  abbrev test : ℕ → ℕ → List ℕ → Bool
  test s t more = nat_lt retain (length (s ∷ t ∷ more)) && nat_le t floor

  -- as many go as the machine drops
  pub as_many : (starts : List ℕ) → length (states starts) ≡ gone retain floor starts
  as_many [] = refl
  as_many (s ∷ []) = sym (last_stays retain floor s some)
  as_many (s ∷ t ∷ more) = by_case (test s t more) (as_many (t ∷ more))
    where
      by_case : (c : Bool) → length (states (t ∷ more)) ≡ gone retain floor (t ∷ more) → length (map (λ l. with_starts b l) (if c then (t ∷ more) ∷ drops retain floor (t ∷ more) else [])) ≡ (if c then suc (gone retain floor (t ∷ more)) else 0)
      by_case true h = ap suc h
      by_case false h = refl

  -- and each part leaves what is left of them
  pub each_left : (starts : List ℕ) (n : ℕ) → n ≤ gone retain floor starts → after_parts (with_starts b starts) (states starts) n ≡ with_starts b (left n starts)
  each_left [] n few = none_left [] n few
    where
      none_left : (starts : List ℕ) (n : ℕ) → n ≤ 0 → with_starts b starts ≡ with_starts b (left n starts)
      none_left starts n few = ap (λ m. with_starts b (left m starts)) (let e : 0 ≡ n = omega (arith, few) in e)
  each_left (s ∷ []) n few = ap (λ m. with_starts b (left m (s ∷ []))) (let e : 0 ≡ n = omega (arith, few, last_stays retain floor s some) in e)
  each_left (s ∷ t ∷ more) zero few = first (drops retain floor (s ∷ t ∷ more))
    where
      first : (l : List (List ℕ)) → after_parts (with_starts b (s ∷ t ∷ more)) (map (λ l. with_starts b l) l) zero ≡ with_starts b (s ∷ t ∷ more)
      first [] = refl
      first (x ∷ xs) = refl
  each_left (s ∷ t ∷ more) (suc n) few = by_case (test s t more) few (λ h. each_left (t ∷ more) n h)
    where
      by_case : (c : Bool) → suc n ≤ (if c then suc (gone retain floor (t ∷ more)) else 0) →
          (n ≤ gone retain floor (t ∷ more) → after_parts (with_starts b (t ∷ more)) (states (t ∷ more)) n ≡ with_starts b (left n (t ∷ more))) →
          after_parts (with_starts b (s ∷ t ∷ more)) (map (λ l. with_starts b l) (if c then (t ∷ more) ∷ drops retain floor (t ∷ more) else [])) (suc n) ≡ with_starts b (left (suc n) (s ∷ t ∷ more))
      by_case true h more_left = more_left (omega (arith, h)) ∙ ap (λ l. with_starts b l) (sym (left_out n s (t ∷ more)))
      by_case false h more_left = absurd (omega (arith, h))

  pub drops_partway : (n : ℕ) (v : Value) → n ≤ gone retain floor b.starts → IsValueOf b v → IsPartway b (states b.starts) (without n v)
  drops_partway n v few h = (
    n,
    (
      subst (λ m. n ≤ m) (sym (as_many b.starts)) few,
      subst (λ x. IsValueOf x (without n v)) (sym (each_left b.starts n few)) (less_tells b n v h),
    ),
  )

-- the points of protected volumes alone count
pub least_same : (flags : List Bool) (ps qs : List ℕ) (end : ℕ) → length ps ≡ length flags → length qs ≡ length flags → ((v : ℕ) → get_or flags v false ≡ true → point_of ps v ≡ point_of qs v) → least flags ps end ≡ least flags qs end
least_same [] ps qs end few many same = refl
least_same (f ∷ flags) [] qs end few many same = absurd (omega (arith, few))
least_same (f ∷ flags) (p ∷ ps) [] end few many same = absurd (omega (arith, many))
least_same (f ∷ flags) (p ∷ ps) (q ∷ qs) end few many same = by_case f (λ is. same 0 is) (least_same flags ps qs end (omega (arith, few)) (omega (arith, many)) (λ v is. same (suc v) is))
  where
    by_case : (f : Bool) → (f ≡ true → p ≡ q) → least flags ps end ≡ least flags qs end → (if f then min p (least flags ps end) else least flags ps end) ≡ (if f then min q (least flags qs end) else least flags qs end)
    by_case true here rest = ap₂ (λ x y. min x y) (here refl) rest
    by_case false here rest = rest

-- as few generations stand as there are numbers for them
rising_numbers : (plan : Plan) (older : List Gen) (last : Gen) → AreGens plan older last → first_number older last + length older ≤ last.number
rising_numbers plan [] last h = omega arith
rising_numbers plan (g ∷ older) last h = omega (arith, h.1, rising_numbers plan older last h.3)

last_number : (plan : Plan) (older : List Gen) (last : Gen) → AreGens plan older last → last.number ≤ most_generations
last_number plan [] last h = h.few
last_number plan (g ∷ older) last h = last_number plan older last h.3

pub few_starts : (m : Memory) (disk : Disk) → IsInUse block_of m disk → length (value_in m).starts ≤ 1000000001
few_starts m disk h = go h.means
  where
    count : (older : List Gen) (last : Gen) → length (map (λ (g : Gen). g.start) older ++ last.start ∷ []) ≡ length older + 1
    count older last = length-append (map (λ (g : Gen). g.start) older) (last.start ∷ []) ∙ ap (λ n. n + 1) (length-map older (λ g. g.start))

    go : MeansBy block_of (plan_in m) h.logs (files_of m.generations) (value_in m) → length (value_in m).starts ≤ 1000000001
    go (older, last, standing, alike, masters) = omega (arith, ap (λ (l : List ℕ). length l) alike.starts, count older last, rising_numbers (plan_in m) older last standing.gens, last_number (plan_in m) older last standing.gens)

-- so the count of those that go is told in full
pub all_told : (n retain floor : ℕ) (starts : List ℕ) → length starts ≤ 1000000001 → n ≡ min (gone retain floor starts) (2 ^ 32 - 1) → n ≡ gone retain floor starts
all_told n retain floor starts few is = omega (arith, few, is, gone_within retain floor starts)
