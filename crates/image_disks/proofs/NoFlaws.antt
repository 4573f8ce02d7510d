-- Contents that stand for a value have no flaw.
use Rattle.std.proofs.Common.{◌≡◌, ◌≢◌, ◌⊎◌, inl, inr, ⊎_elim, ℕ, ◌<◌, ◌≤◌, Bool, true, if◌then◌else◌, List, [], ◌∷◌, ◌++◌, map, Option, Some, None, refl, sym, ◌∙◌, ap, ap₂, subst, arith}
use Rattle.std.proofs.lemmas.Bool.{cases_eq, ne_eqb}
use Rattle.rdf_types.specs.declared.records.Phase.{Phase}
use Rattle.rdf_gatelog.specs.Log.{IsDamaged}
use Rattle.rdf_gatelog.specs.LogLaws.{log_not_damaged}
use Rattle.rdf_gatelog.specs.Logs.{Logs, IsLogOf}
use Rattle.rdf_gatelog.specs.RestLaws.{one_reading}
use Rattle.image_disks.specs.Blocks.{Block, Start, Ship, Mark, Unspelled, Plan, end_after, IsPhaseAt, AreInPlace}
use Rattle.image_disks.specs.Standing.{Gen, file_of, all_blocks, end_of, IsGen, first_start, first_number, AreGens, spelled, IsOn, AreOn, IsNumberOf, AreStanding}
use Rattle.image_disks.specs.Flaws.{HasStart, IsFirstMisplaced, MayStart, IsFlawIn, NoFlaw}
use Rattle.image_disks.specs.StandingLaws.{last_on, number_above}
use Rattle.image_disks.proofs.OneValue.{first_is_number, decide_number, start_in, born, gen_stands, stands_is_number, number_stands, standing_same}

front_in_place : (plan : Plan) (t at : ℕ) (xs ys : List Block) → AreInPlace plan t at (xs ++ ys) → AreInPlace plan t at xs
front_in_place plan t at [] ys here = tt
front_in_place plan t at (Start start q ∷ xs) ys here = here
front_in_place plan t at (Ship from to part ∷ xs) ys here = (here.0, here.1, here.2, front_in_place plan t to xs ys here.3)
front_in_place plan t at (Mark q ∷ xs) ys here = (here.0, here.1, front_in_place plan t at xs ys here.2)
front_in_place plan t at (Unspelled ∷ xs) ys here = here

map_split : (f : List ℕ → Block) (before : List (List ℕ)) (p : List ℕ) (behind : List (List ℕ)) → map f (before ++ p ∷ behind) ≡ map f (before ++ p ∷ []) ++ map f behind
map_split f [] p behind = refl
map_split f (q ∷ before) p behind = ap (λ (l : List Block). f q ∷ l) (map_split f before p behind)

-- the generation is among them
abbrev IsAmong : Gen → List Gen → Gen → Type 0
IsAmong g [] last = g ≡ last
IsAmong g (x ∷ older) last = (g ≡ x) ⊎ IsAmong g older last

by_number : (n : ℕ) (older : List Gen) (last : Gen) → IsNumberOf n older last → (g : Gen) × IsAmong g older last × (g.number ≡ n)
by_number n [] last is = (last, refl, sym is)
by_number n (x ∷ older) last (inl is) = (x, inl refl, sym is)
by_number n (x ∷ older) last (inr is) = let f = by_number n older last is in (f.0, inr f.1, f.2)

number_among : (g : Gen) (older : List Gen) (last : Gen) → IsAmong g older last → IsNumberOf g.number older last
number_among g [] last is = ap (λ (x : Gen). x.number) is
number_among g (x ∷ older) last (inl is) = inl (ap (λ (y : Gen). y.number) is)
number_among g (x ∷ older) last (inr is) = inr (number_among g older last is)

gen_among : (plan : Plan) (g : Gen) (older : List Gen) (last : Gen) → AreGens plan older last → IsAmong g older last → IsGen plan g
gen_among plan g [] last gens is = subst (IsGen plan) (sym is) gens
gen_among plan g (x ∷ older) last gens (inl is) = subst (IsGen plan) (sym is) gens.0
gen_among plan g (x ∷ older) last gens (inr is) = gen_among plan g older last gens.3 is

on_among : (block_of : List ℕ → Block) (plan : Plan) (logs : Logs) (g : Gen) (older : List Gen) (last : Gen) → AreOn block_of plan logs older last → IsAmong g older last → IsOn block_of plan logs g
on_among block_of plan logs g [] last on is = subst (IsOn block_of plan logs) (sym is) on
on_among block_of plan logs g (x ∷ older) last on (inl is) = subst (IsOn block_of plan logs) (sym is) on.0
on_among block_of plan logs g (x ∷ older) last on (inr is) = on_among block_of plan logs g older last on.1 is

-- the one with the first number is the first
first_among : (plan : Plan) (g : Gen) (older : List Gen) (last : Gen) → AreGens plan older last → IsAmong g older last → g.number ≡ first_number older last → g.start ≡ first_start older last
first_among plan g [] last gens is number = ap (λ (x : Gen). x.start) is
first_among plan g (x ∷ older) last gens (inl is) number = ap (λ (y : Gen). y.start) is
first_among plan g (x ∷ older) last gens (inr is) number = absurd (omega (arith, number, gens.1, number_above plan older last g.number gens.3 (number_among g older last is)))

-- each starts where the one before it ends
joins_among : (plan : Plan) (h g : Gen) (older : List Gen) (last : Gen) → AreGens plan older last → IsAmong h older last → IsAmong g older last → h.number < g.number → ((k : ℕ) → h.number < k → k < g.number → IsNumberOf k older last → ⊥)
    → g.start ≡ end_of h 0
joins_among plan h g [] last gens ih ig below none = absurd (omega (arith, below, ap (λ (x : Gen). x.number) ih, ap (λ (x : Gen). x.number) ig))
joins_among plan h g (x ∷ older) last gens (inl ih) (inl ig) below none = absurd (omega (arith, below, ap (λ (y : Gen). y.number) ih, ap (λ (y : Gen). y.number) ig))
joins_among plan h g (x ∷ older) last gens (inl ih) (inr ig) below none =
    let number : h.number ≡ x.number = ap (λ (y : Gen). y.number) ih in
    let least : first_number older last ≤ g.number = number_above plan older last g.number gens.3 (number_among g older last ig) in
    elim (cases_eq g.number (first_number older last)) [
      | inl same ↦ first_among plan g older last gens.3 ig same ∙ gens.2 ∙ ap (λ (y : Gen). end_of y 0) (sym ih)
      | inr other ↦ absurd (none (first_number older last) (omega (arith, number, gens.1)) (omega (arith, least, other)) (inr (first_is_number older last)))
    ]
joins_among plan h g (x ∷ older) last gens (inr ih) (inl ig) below none =
    absurd (omega (arith, below, ap (λ (y : Gen). y.number) ig, gens.1, number_above plan older last h.number gens.3 (number_among h older last ih)))
joins_among plan h g (x ∷ older) last gens (inr ih) (inr ig) below none = joins_among plan h g older last gens.3 ih ig below (λ k above under is. none k above under (inr is))

module _ (block_of : List ℕ → Block) (plan : Plan) (logs : Logs) (used : plan.used 0 ≡ true) (older : List Gen) (last : Gen) (s : AreStanding block_of plan logs older last) where
  -- a standing generation, by its Start
  record IsHere (n start : ℕ) (phase : Phase) (rest : List (List ℕ)) : Type 0 where
    gen : Gen
    among : IsAmong gen older last
    number : gen.number ≡ n
    start_is : gen.start ≡ start
    phase_is : gen.phase ≡ phase
    blocks : gen.blocks 0 ≡ map block_of rest

  same_parts : (a b : List ℕ) (x y : List (List ℕ)) → ◌≡◌ {A = Option (List (List ℕ))} (Some (a ∷ x)) (Some (b ∷ y)) → (a ≡ b) × (x ≡ y)
  same_parts a b x y e = let inner : ◌≡◌ {A = List (List ℕ)} (a ∷ x) (b ∷ y) = cc in (cc, cc)

  same_start : (b : Block) (x y : ℕ) (p q : Phase) → b ≡ Start x p → b ≡ Start y q → (x ≡ y) × (p ≡ q)
  same_start b x y p q e f = let both : Start x p ≡ Start y q = sym e ∙ f in (cc, cc)

  here : (n start : ℕ) (phase : Phase) (rest : List (List ℕ)) → HasStart block_of logs n start phase rest → IsHere n start phase rest
  here n start phase rest h =
      let found_ = by_number n older last (stands_is_number block_of plan logs older last n s (start, (phase, (rest, h)))) in
      let g = found_.0 in
      let f = start_in block_of plan logs (logs (file_of g.number 0)) g.start g.phase (g.blocks 0) (on_among block_of plan logs g older last s.on found_.1 0 (omega arith) used) in
      let parts = same_parts f.0 h.first f.1.0 rest (sym f.1.1 ∙ ap (λ (k : ℕ). logs (file_of k 0)) found_.2 ∙ h.log) in
      let same = same_start (block_of h.first) g.start start g.phase phase (ap block_of (sym parts.0) ∙ f.1.2) h.is in
      record {
        gen = g;
        among = found_.1;
        number = found_.2;
        start_is = same.0;
        phase_is = same.1;
        blocks = sym f.1.3 ∙ ap (λ (l : List (List ℕ)). map block_of l) parts.1;
      }

  no_misplaced : (t start place : ℕ) (ps : List (List ℕ)) (at : ℕ) → AreInPlace plan t start (map block_of ps) → IsFirstMisplaced block_of plan t start place ps at → ⊥
  no_misplaced t start place ps at place_ m =
      m.no_further (front_in_place plan t start (map block_of (m.before ++ m.payload ∷ [])) (map block_of m.behind)
      (subst (AreInPlace plan t start) (ap (λ (l : List (List ℕ)). map block_of l) m.payloads_are ∙ map_split block_of m.before m.payload m.behind) place_))

  second_is : (g : Gen) (t : ℕ) (ps : List (List ℕ)) → t ≢ 0 → spelled block_of (Some ps) ≡ Some (all_blocks g t) → g.blocks t ≡ map block_of ps
  second_is g t ps second e =
      let same : map block_of ps ≡ all_blocks g t = cc in
      sym (same ∙ ap (λ (b : Bool). if b then Start g.start g.phase ∷ g.blocks t else g.blocks t) (ne_eqb t 0 second))

  second_there : (n start : ℕ) (phase : Phase) (rest : List (List ℕ)) (h : IsHere n start phase rest) (t : ℕ) → t < 4 → plan.used t ≡ true → spelled block_of (logs (file_of n t)) ≡ Some (all_blocks h.gen t)
  second_there n start phase rest h t tl tu = ap (λ (k : ℕ). spelled block_of (logs (file_of k t))) (sym h.number) ∙ on_among block_of plan logs h.gen older last s.on h.among t tl tu

  may_start : (n start : ℕ) (phase : Phase) (rest : List (List ℕ)) → IsHere n start phase rest → MayStart block_of logs n start phase
  may_start n start phase rest h =
      let g = gen_among plan h.gen older last s.gens h.among in
      record {
        few = omega (arith, g.few, h.number);
        in_time = subst (λ (k : ℕ). IsPhaseAt k phase) h.start_is (subst (IsPhaseAt h.gen.start) h.phase_is g.phase);
        joins = λ k st p behind below has none.
            let other = here k st p behind has in
            sym h.start_is
            ∙ joins_among plan other.gen h.gen older last s.gens other.among h.among (omega (arith, other.number, h.number, below))
            (λ i above under is. none i (omega (arith, above, other.number)) (omega (arith, under, h.number)) (number_stands block_of plan logs older last i used s.on is))
            ∙ ap₂ end_after other.start_is other.blocks;
      }

  none_there : (x : Option (List (List ℕ))) (bs : List Block) → x ≡ None → spelled block_of x ≡ Some bs → ⊥
  none_there x bs none e = let clash : spelled block_of None ≡ Some bs = subst (λ (y : Option (List (List ℕ))). spelled block_of y ≡ Some bs) none e in cc

  pub flawless : (file at : ℕ) → IsFlawIn block_of plan logs file at → ⊥
  flawless file at (inl m) =
      let h = here m.g m.start m.phase m.rest m.master in
      let g = gen_among plan h.gen older last s.gens h.among in
      no_misplaced 0 m.start _ m.rest at (subst (λ (l : List Block). AreInPlace plan 0 m.start l) h.blocks (subst (λ (k : ℕ). AreInPlace plan 0 k (h.gen.blocks 0)) h.start_is (g.in_place 0))) m.first
  flawless file at (inr (inl m)) =
      let h = here m.g m.start m.phase m.rest m.master in
      let g = gen_among plan h.gen older last s.gens h.among in
      let t = m.t in
      let blocks = second_is h.gen t m.payloads m.second.0 (ap (spelled block_of) (sym (sym (ap logs m.file_is) ∙ m.there)) ∙ second_there m.g m.start m.phase m.rest h t m.second.1 m.second.2) in
      no_misplaced t m.start 0 m.payloads at (subst (λ (l : List Block). AreInPlace plan t m.start l) blocks (subst (λ (k : ℕ). AreInPlace plan t k (h.gen.blocks t)) h.start_is (g.in_place t))) m.first
  flawless file at (inr (inr (inl b))) =
      let there : logs (file_of b.g 0) ≡ Some (b.first ∷ b.rest) = sym (ap logs b.file_is) ∙ b.log in
      elim (decide_number b.g older last) [
        | inl is ↦
            let found_ = by_number b.g older last is in
            let g = found_.0 in
            let f = start_in block_of plan logs (logs (file_of g.number 0)) g.start g.phase (g.blocks 0) (on_among block_of plan logs g older last s.on found_.1 0 (omega arith) used) in
            let parts = same_parts f.0 b.first f.1.0 b.rest (sym f.1.1 ∙ ap (λ (k : ℕ). logs (file_of k 0)) found_.2 ∙ there) in
            let is_start : block_of b.first ≡ Start g.start g.phase = ap block_of (sym parts.0) ∙ f.1.2 in
            let has : HasStart block_of logs b.g g.start g.phase b.rest = record { first = b.first; log = there; is = is_start } in
            b.bad g.start g.phase is_start (may_start b.g g.start g.phase b.rest (here b.g g.start g.phase b.rest has))
        | inr not ↦ born block_of plan logs b.g b.first b.rest there (s.unborn b.g not)
      ]
  flawless file at (inr (inr (inr (inl b)))) =
      let h = here b.g b.start b.phase b.rest b.master in
      let g = gen_among plan h.gen older last s.gens h.among in
      let t = b.t in
      let there = second_there b.g b.start b.phase b.rest h t b.second.1 b.second.2 in
      ⊎_elim
      (λ (none : (logs file ≡ None) × (at ≡ 0)). none_there (logs (file_of b.g t)) (all_blocks h.gen t) (sym (ap logs b.file_is) ∙ none.0) there)
      (λ short.
      let blocks = second_is h.gen t short.0 b.second.0 (ap (spelled block_of) (sym (sym (ap logs b.file_is) ∙ short.1)) ∙ there) in
      omega (arith, g.no_shorter t b.second.1 b.second.2, short.3, ap₂ end_after h.start_is blocks, ap₂ end_after h.start_is h.blocks))
      b.short
  flawless file at (inr (inr (inr (inr e)))) = e.none last.number (gen_stands block_of plan logs last used (last_on block_of plan logs older last s.on))

log_whole : (x : Option (List (List ℕ))) (c : Option (List ℕ)) (at : ℕ) → IsLogOf x c → c ≢ None → IsDamaged c at → ⊥
log_whole None c at is there damaged = there is
log_whole (Some ps) c at is there damaged = log_not_damaged ps c at is damaged

pub no_flaw : NoFlaw
no_flaw block_of plan v c file at used (logs, reads, (older, last, s, alike)) (inl (there, damaged)) = log_whole (logs file) (c file) at (reads file) there damaged
no_flaw block_of plan v c file at used (logs, reads, (older, last, s, alike)) (inr (others, read, flaw)) =
    flawless block_of plan others used older last (standing_same block_of plan logs others (one_reading logs others c reads read) older last s) file at flaw
