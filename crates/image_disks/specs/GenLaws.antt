-- Laws of one generation more behind a last one.
use Rattle.std.proofs.Common.{◌≡◌, inl, inr, ⊎_elim, ℕ, ◌<◌, ◌≤◌, Bool, true, false, nat_lt, if◌then◌else◌, List, [], ◌∷◌, ◌++◌, map, Option, refl, sym, ◌∙◌, ap, ap₂, subst, arith}
use Rattle.std.proofs.lemmas.Bool.Decides.{nat_tests}
use Rattle.rdf_types.specs.declared.records.Record.{Record}
use Rattle.rdf_gatelog.specs.Logs.{Logs}
use Rattle.image_disks.specs.Blocks.{Block, Plan, found, entries}
use Rattle.image_disks.specs.Standing.{Gen, file_of, end_of, IsGen, first_start, first_number, AreGens, entry_of, IsOn, AreOn, IsNumberOf, masters_of}
use Rattle.image_disks.specs.BlockLaws.{end_no_less}
use Rattle.image_disks.specs.StandingLaws.{start_rises, last_gen}

first_start-then : (older : List Gen) (last g : Gen) → first_start (older ++ last ∷ []) g ≡ first_start older last
first_start-then [] last g = refl
first_start-then (h ∷ older) last g = refl

first_number-then : (older : List Gen) (last g : Gen) → first_number (older ++ last ∷ []) g ≡ first_number older last
first_number-then [] last g = refl
first_number-then (h ∷ older) last g = refl

-- it stands in line where it begins where the last one ends
pub gens-then : (plan : Plan) (older : List Gen) (last g : Gen) → AreGens plan older last → IsGen plan g → last.number < g.number → g.start ≡ end_of last 0 → AreGens plan (older ++ last ∷ []) g
gens-then plan [] last g gens is above joins = (gens, above, joins, is)
gens-then plan (h ∷ older) last g gens is above joins = (
  gens.0,
  subst (λ (n : ℕ). h.number < n) (sym (first_number-then older last g)) gens.1,
  first_start-then older last g ∙ gens.2,
  gens-then plan older last g gens.3 is above joins,
)

-- and on the disk where its own files do
pub on-then : (block_of : List ℕ → Block) (plan : Plan) (logs : Logs) (older : List Gen) (last g : Gen) → AreOn block_of plan logs older last → IsOn block_of plan logs g → AreOn block_of plan logs (older ++ last ∷ []) g
on-then block_of plan logs [] last g on here = (on, here)
on-then block_of plan logs (h ∷ older) last g on here = (on.0, on-then block_of plan logs older last g on.1 here)

-- its number is one more of theirs
pub is_number-then : (n : ℕ) (older : List Gen) (last g : Gen) → IsNumberOf n older last → IsNumberOf n (older ++ last ∷ []) g
is_number-then n [] last g is = inl is
is_number-then n (h ∷ older) last g is = ⊎_elim (λ (e : n ≡ h.number). inl e) (λ (k : IsNumberOf n older last). inr (is_number-then n older last g k)) is

pub is_number-last : (older : List Gen) (last g : Gen) → IsNumberOf g.number (older ++ last ∷ []) g
is_number-last [] last g = inr refl
is_number-last (h ∷ older) last g = inr (is_number-last older last g)

-- what was there before its start is there still, and its own from there on
pub entry-then : (plan : Plan) (older : List Gen) (last g : Gen) (t i : ℕ) → AreGens plan older last → g.start ≡ end_of last 0
    → entry_of (older ++ last ∷ []) g t i ≡ (if nat_lt i g.start then entry_of older last t i else found (entries (g.blocks t)) i)
entry-then plan [] last g t i gens joins = refl
entry-then plan (h ∷ older) last g t i gens joins =
    let rises = start_rises plan older last gens.3 in
    let no_less = end_no_less plan 0 last.start (last.blocks 0) ((last_gen plan older last gens.3).in_place 0) in
    let tail : Option Record = found (entries (g.blocks t)) i in
    ap₂ (λ (n : ℕ) (x : Option Record). if nat_lt i n then found (entries (h.blocks t)) i else x) (first_start-then older last g) (entry-then plan older last g t i gens.3 joins)
    ∙ elim (nat_lt i (first_start older last)) as (λ b. nat_lt i (first_start older last) ≡ b
    → (if b then found (entries (h.blocks t)) i else (if nat_lt i g.start then entry_of older last t i else tail)) ≡ (if nat_lt i g.start then (if b then found (entries (h.blocks t)) i else entry_of older last t i) else tail)) [
      | true ↦ λ e. sym (ap (λ (b : Bool). if b then found (entries (h.blocks t)) i else tail) (within i (first_start older last) g.start e (omega (arith, rises, no_less, joins))))
      | false ↦ λ e. refl
    ] refl
  where
    within : (i a b : ℕ) → nat_lt i a ≡ true → a ≤ b → nat_lt i b ≡ true
    within i a b e h = grind (arith, nat_tests)

-- its start and its master stand behind the others
pub starts-then : (older : List Gen) (last : Gen) (x : ℕ) → map (λ (g : Gen). g.start) (older ++ last ∷ []) ++ x ∷ [] ≡ (map (λ (g : Gen). g.start) older ++ last.start ∷ []) ++ x ∷ []
starts-then [] last x = refl
starts-then (h ∷ older) last x = ap (λ (l : List ℕ). h.start ∷ l) (starts-then older last x)

pub masters-then : (older : List Gen) (last g : Gen) → masters_of (older ++ last ∷ []) g ≡ masters_of older last ++ file_of g.number 0 ∷ []
masters-then [] last g = refl
masters-then (h ∷ older) last g = ap (λ (l : List ℕ). file_of h.number 0 ∷ l) (masters-then older last g)
