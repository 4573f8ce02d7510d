-- The files of one generation, read one after another.
use Rattle.std.proofs.Common.{◌≡◌, ◌≢◌, inl, inr, ℕ, zero, suc, ◌+◌, ◌-◌, ◌*◌, ◌<◌, ◌≤◌, Bool, true, false, ◌&&◌, ◌==◌, nat_lt, if◌then◌else◌, List, [], ◌∷◌, ◌++◌, length, take, drop, get_or, map, Vec, Option, Some, refl, sym, ◌∙◌, ap, ap₂, subst, arith}
use Rattle.std.specs.declared.alloc.Global.{Global}
use Rattle.std.proofs.lemmas.Bool.{cases_eq, cases_lt, ne_eqb, lt-ltb, le-ltb}
use Rattle.std.proofs.lemmas.List.{append-nil, get_or-set_same, get_or-set_other}
use Rattle.rdf_types.specs.declared.records.Stamped.{Stamped}
use Rattle.rdf_types.specs.declared.records.Phase.{Phase}
use Rattle.rdf_gatelog.specs.Log.{open_blocks, payloads_of}
use Rattle.rdf_gatelog.specs.LogLaws.{block_place}
use Rattle.rdf_gatelog.specs.Logs.{Logs, IsOpenIn, payloads_at}
use Rattle.image_disks.specs.Blocks.{Block, Start, Ship, Mark, Unspelled, Plan, keeps, AreEntries, entries, end_after, phase_after, IsPhaseAt, AreInPlace}
use Rattle.image_disks.specs.Flaws.{HasStart, IsFirstMisplaced, IsFlawIn}
use Rattle.image_disks.specs.Spelled.{block_of}
use Rattle.image_disks.specs.Standing.{Gen, file_of, all_blocks, IsGen, spelled, IsOn, most_generations}
use Rattle.image_disks.specs.BlockLaws.{end_no_less}
use Rattle.image_trails.specs.declared.memory.Memory.{Memory}
use Rattle.image_trails.specs.declared.said.Said.{Said}
use Rattle.image_trails.specs.Memory.{plan_in, plan_of, starts_of, files_of, lists_of}
use Rattle.image_trails.specs.Opening.{HasTaken, HasRead, IsSecondRead}
use Rattle.image_trails.proofs.InUse.{four_tops, four_ends}
use Rattle.image_trails.proofs.Sorted.{entries_append, entries_any}
use Rattle.image_trails.proofs.Writing.{four_lists}

-- all payloads but the first
pub rest_is : (v : Vec (Vec ℕ Global) Global) (d : List (Vec ℕ Global)) → d ≡ v.items → map (λ w. w.items) (take (length d - 1) (drop 1 d)) ≡ drop 1 (payloads_of v)
rest_is v d is = go d ∙ ap (λ (l : List (Vec ℕ Global)). drop 1 (map (λ (w : Vec ℕ Global). w.items) l)) is
  where
    take_all : (l : List (Vec ℕ Global)) (n : ℕ) → n ≡ length l → take n l ≡ l
    take_all [] n e = let z : n ≡ 0 = e in ap (λ (k : ℕ). take k []) z
    take_all (x ∷ l) zero e = absurd (omega (arith, e))
    take_all (x ∷ l) (suc n) e = ap (λ (r : List (Vec ℕ Global)). x ∷ r) (take_all l n (omega (arith, e)))

    go : (d : List (Vec ℕ Global)) → map (λ w. w.items) (take (length d - 1) (drop 1 d)) ≡ drop 1 (map (λ (w : Vec ℕ Global). w.items) d)
    go [] = refl
    go (x ∷ d) = ap (λ (l : List (Vec ℕ Global)). map (λ w. w.items) l) (take_all d (length (x ∷ d) - 1) (omega arith))

-- what a generation's files say, by trail
abbrev pub blocks_in : Plan → Logs → ℕ → ℕ → List Block
blocks_in plan logs n t = if plan.used t && nat_lt t 4 then map block_of (drop (if t == 0 then 1 else 0) (payloads_at (logs (file_of n t)))) else []

abbrev pub gen_in : Plan → Logs → ℕ → ℕ → Phase → Gen
gen_in plan logs n start phase = record { number = n; start = start; phase = phase; blocks = λ t. blocks_in plan logs n t }

blocks_unused : (plan : Plan) (logs : Logs) (n t : ℕ) → plan.used t ≡ false → blocks_in plan logs n t ≡ []
blocks_unused plan logs n t e = ap (λ (b : Bool). if b && nat_lt t 4 then map block_of (drop (if t == 0 then 1 else 0) (payloads_at (logs (file_of n t)))) else []) e

blocks_beyond : (plan : Plan) (logs : Logs) (n t : ℕ) → 4 ≤ t → blocks_in plan logs n t ≡ []
blocks_beyond plan logs n t far =
    ap (λ (b : Bool). if plan.used t && b then map block_of (drop (if t == 0 then 1 else 0) (payloads_at (logs (file_of n t)))) else []) (le-ltb t 4 far)
    ∙ elim (plan.used t) as (λ b. (if b && false then map block_of (drop (if t == 0 then 1 else 0) (payloads_at (logs (file_of n t)))) else []) ≡ []) [ true ↦ refl | false ↦ refl ]

blocks_used : (plan : Plan) (logs : Logs) (n t : ℕ) → t < 4 → plan.used t ≡ true → blocks_in plan logs n t ≡ map block_of (drop (if t == 0 then 1 else 0) (payloads_at (logs (file_of n t))))
blocks_used plan logs n t tl used =
    ap₂ (λ (a b : Bool). if a && b then map block_of (drop (if t == 0 then 1 else 0) (payloads_at (logs (file_of n t)))) else []) used (lt-ltb t 4 tl)

pub blocks_master : (plan : Plan) (logs : Logs) (n : ℕ) (ps : List (List ℕ)) → plan.used 0 ≡ true → logs (file_of n 0) ≡ Some ps → blocks_in plan logs n 0 ≡ map block_of (drop 1 ps)
blocks_master plan logs n ps used there = blocks_used plan logs n 0 (omega arith) used ∙ ap (λ (x : Option (List (List ℕ))). map block_of (drop 1 (payloads_at x))) there

pub blocks_second : (plan : Plan) (logs : Logs) (n t : ℕ) (ps : List (List ℕ)) → t ≢ 0 → t < 4 → plan.used t ≡ true → logs (file_of n t) ≡ Some ps → blocks_in plan logs n t ≡ map block_of ps
blocks_second plan logs n t ps second tl used there =
    blocks_used plan logs n t tl used
    ∙ ap₂ (λ (b : Bool) (x : Option (List (List ℕ))). map block_of (drop (if b then 1 else 0) (payloads_at x))) (ne_eqb t 0 second) there
    ∙ ap (λ (l : List (List ℕ)). map block_of l) (drop_none ps)
  where
    drop_none : (l : List (List ℕ)) → drop 0 l ≡ l
    drop_none [] = refl
    drop_none (x ∷ l) = refl

-- a secondary has no marks
pub phase_second : (plan : Plan) (t at : ℕ) (p : Phase) (bs : List Block) → t ≢ 0 → AreInPlace plan t at bs → phase_after p bs ≡ p
phase_second plan t at p [] second here = refl
phase_second plan t at p (Start start q ∷ rest) second here = absurd here
phase_second plan t at p (Ship from to part ∷ rest) second here = phase_second plan t to p rest second here.3
phase_second plan t at p (Mark q ∷ rest) second here = absurd (second here.0)
phase_second plan t at p (Unspelled ∷ rest) second here = absurd here

pub entries_in_place : (plan : Plan) (t at : ℕ) (bs : List Block) → AreInPlace plan t at bs → AreEntries (λ r. true) at (end_after at bs) (entries bs)
entries_in_place plan t at [] here = tt
entries_in_place plan t at (Start start q ∷ rest) here = absurd here
entries_in_place plan t at (Ship from to part ∷ rest) here =
    entries_append (λ r. true) at to (end_after to rest) part (entries rest) (omega (arith, here.0, here.1)) (end_no_less plan t to rest here.3)
    (subst (λ (n : ℕ). AreEntries (λ r. true) n to part) here.0 (entries_any (keeps plan t) from to part here.2)) (entries_in_place plan t to rest here.3)
entries_in_place plan t at (Mark q ∷ rest) here = entries_in_place plan t at rest here.2
entries_in_place plan t at (Unspelled ∷ rest) here = absurd here

-- what was read of one trail
pub record IsTrailRead (plan : Plan) (logs : Logs) (n start t : ℕ) (before m : Memory) : Type 0 where
  pub top : get_or m.tops.items t 0 ≡ end_after start (blocks_in plan logs n t)
  pub list : get_or (lists_of m.entries) t [] ≡ get_or (lists_of before.entries) t [] ++ entries (blocks_in plan logs n t)
  pub in_place : AreInPlace plan t start (blocks_in plan logs n t)
  pub opened : plan.used t ≡ true → IsOpenIn logs (file_of n t) (get_or m.ends.items t 0)
  pub no_shorter : plan.used t ≡ true → end_after start (blocks_in plan logs n 0) ≤ end_after start (blocks_in plan logs n t)

-- what wasn't read yet of one
pub record IsTrailLeft (t : ℕ) (before m : Memory) : Type 0 where
  pub top : get_or m.tops.items t 0 ≡ get_or before.tops.items t 0
  pub list : get_or (lists_of m.entries) t [] ≡ get_or (lists_of before.entries) t []

-- the first so many trails were read
pub record AreTrailsRead (plan : Plan) (logs : Logs) (n start : ℕ) (phase : Phase) (i : ℕ) (before m : Memory) : Type 0 where
  pub layout : m.layout ≡ before.layout
  pub starts : starts_of m.generations ≡ starts_of before.generations
  pub files : files_of m.generations ≡ files_of before.generations
  pub last : m.last ≡ before.last
  pub phase_is : m.phase ≡ phase_after phase (blocks_in plan logs n 0)
  pub done : (t : ℕ) → t < i → IsTrailRead plan logs n start t before m
  pub left : (t : ℕ) → i ≤ t → t < 4 → IsTrailLeft t before m

-- one trail more
module _ (plan : Plan) (logs : Logs) (n start : ℕ) (before m new : Memory) (t : ℕ) (tl : t < 4) (said : Said) (end : ℕ) (taken : HasTaken t said end m new) where
  top_here : get_or new.tops.items t 0 ≡ said.end
  top_here = ap (λ (l : List ℕ). get_or l t 0) taken.tops ∙ get_or-set_same m.tops.items t said.end 0 (omega (arith, four_tops m, tl))

  end_here : get_or new.ends.items t 0 ≡ end
  end_here = ap (λ (l : List ℕ). get_or l t 0) taken.ends ∙ get_or-set_same m.ends.items t end 0 (omega (arith, four_ends m, tl))

  list_here : get_or (lists_of new.entries) t [] ≡ get_or (lists_of m.entries) t [] ++ said.part.items
  list_here = ap (λ (l : List (List Stamped)). get_or l t []) taken.lists ∙ get_or-set_same (lists_of m.entries) t (get_or (lists_of m.entries) t [] ++ said.part.items) [] (omega (arith, four_lists m, tl))

  top_other : (u : ℕ) → u ≢ t → get_or new.tops.items u 0 ≡ get_or m.tops.items u 0
  top_other u other = ap (λ (l : List ℕ). get_or l u 0) taken.tops ∙ get_or-set_other m.tops.items t u said.end 0 other

  end_other : (u : ℕ) → u ≢ t → get_or new.ends.items u 0 ≡ get_or m.ends.items u 0
  end_other u other = ap (λ (l : List ℕ). get_or l u 0) taken.ends ∙ get_or-set_other m.ends.items t u end 0 other

  list_other : (u : ℕ) → u ≢ t → get_or (lists_of new.entries) u [] ≡ get_or (lists_of m.entries) u []
  list_other u other = ap (λ (l : List (List Stamped)). get_or l u []) taken.lists ∙ get_or-set_other (lists_of m.entries) t u (get_or (lists_of m.entries) t [] ++ said.part.items) [] other

  read_here : IsTrailLeft t before m → said.end ≡ end_after start (blocks_in plan logs n t) → said.part.items ≡ entries (blocks_in plan logs n t) → AreInPlace plan t start (blocks_in plan logs n t)
      → IsOpenIn logs (file_of n t) end → end_after start (blocks_in plan logs n 0) ≤ end_after start (blocks_in plan logs n t) → IsTrailRead plan logs n start t before new
  read_here left end_is part_is place opened longer = record {
    top = top_here ∙ end_is;
    list = list_here ∙ ap₂ (λ (x y : List Stamped). x ++ y) left.list part_is;
    in_place = place;
    opened = λ used. subst (IsOpenIn logs (file_of n t)) (sym end_here) opened;
    no_shorter = λ used. longer;
  }

  read_other : (u : ℕ) → u ≢ t → IsTrailRead plan logs n start u before m → IsTrailRead plan logs n start u before new
  read_other u other r = record {
    top = top_other u other ∙ r.top;
    list = list_other u other ∙ r.list;
    in_place = r.in_place;
    opened = λ used. subst (IsOpenIn logs (file_of n u)) (sym (end_other u other)) (r.opened used);
    no_shorter = r.no_shorter;
  }

  left_other : (u : ℕ) → u ≢ t → IsTrailLeft u before m → IsTrailLeft u before new
  left_other u other l = record { top = top_other u other ∙ l.top; list = list_other u other ∙ l.list }

same_phase : (p q : Phase) (a b : List Block) → a ≡ b → p ≡ q → phase_after p a ≡ phase_after q b
same_phase p q a b e f = ap₂ phase_after f e

-- the master first
pub master_taken : (plan : Plan) (logs : Logs) (n start : ℕ) (phase : Phase) (ps : List (List ℕ)) (before new : Memory) → plan_in before ≡ plan → plan.used 0 ≡ true → before.phase ≡ phase → logs (file_of n 0) ≡ Some ps
    → HasRead logs n start 0 (drop 1 ps) before new → AreTrailsRead plan logs n start phase 1 before new
master_taken plan logs n start phase ps before new plan_is used phase_is there r =
    let bs_is : map block_of (drop 1 ps) ≡ blocks_in plan logs n 0 = sym (blocks_master plan logs n ps used there) in
    let left : IsTrailLeft 0 before before = record { top = refl; list = refl } in
    record {
      layout = r.taken.layout;
      starts = r.taken.starts;
      files = r.taken.files;
      last = r.taken.last;
      phase_is = r.taken.phase_is ∙ r.read.phase_is ∙ same_phase before.phase phase (map block_of (drop 1 ps)) (blocks_in plan logs n 0) bs_is phase_is;
      done = λ t below.
          let first : t ≡ 0 = omega (arith, below) in
          subst (λ (u : ℕ). IsTrailRead plan logs n start u before new) (sym first)
          (read_here plan logs n start before before new 0 (omega arith) r.said r.end r.taken left (r.read.end_is ∙ ap (end_after start) bs_is) (r.read.part_is ∙ ap entries bs_is)
          (subst (λ (p : Plan). AreInPlace p 0 start (blocks_in plan logs n 0)) plan_is (subst (AreInPlace (plan_in before) 0 start) bs_is r.read.in_place)) r.opened (omega arith));
      left = λ t above tl. left_other plan logs n start before before new 0 (omega arith) r.said r.end r.taken t (omega (arith, above)) (record { top = refl; list = refl });
    }

-- and then each secondary
pub second_taken : (plan : Plan) (logs : Logs) (n start : ℕ) (phase : Phase) (t : ℕ) (before m new : Memory) → t ≢ 0 → t < 4 → plan_in before ≡ plan → (in_left : (u : ℕ) → u < 4 → get_or before.tops.items u 0 ≡ start)
    → AreTrailsRead plan logs n start phase t before m → IsSecondRead logs n start t m new → AreTrailsRead plan logs n start phase (t + 1) before new
second_taken plan logs n start phase t before m new second tl plan_is tops s (inl (used, h)) =
    let r = h.read in
    let plan_m : plan_in m ≡ plan = ap plan_of s.layout ∙ plan_is in
    let used_here : plan.used t ≡ true = subst (λ (p : Plan). p.used t ≡ true) plan_m used in
    let bs_is : map block_of h.payloads ≡ blocks_in plan logs n t = sym (blocks_second plan logs n t h.payloads second tl used_here h.there) in
    let place : AreInPlace plan t start (blocks_in plan logs n t) = subst (λ (p : Plan). AreInPlace p t start (blocks_in plan logs n t)) plan_m (subst (AreInPlace (plan_in m) t start) bs_is r.read.in_place) in
    let master : get_or m.tops.items 0 0 ≡ end_after start (blocks_in plan logs n 0) = (s.done 0 (omega (arith, second))).top in
    record {
      layout = r.taken.layout ∙ s.layout;
      starts = r.taken.starts ∙ s.starts;
      files = r.taken.files ∙ s.files;
      last = r.taken.last ∙ s.last;
      phase_is = r.taken.phase_is ∙ r.read.phase_is ∙ ap (phase_after m.phase) bs_is ∙ phase_second plan t start m.phase (blocks_in plan logs n t) second place ∙ s.phase_is;
      done = λ u below. elim (cases_eq u t) [
        | inl same ↦ subst (λ (k : ℕ). IsTrailRead plan logs n start k before new) (sym same)
            (read_here plan logs n start before m new t tl r.said r.end r.taken (s.left t (omega arith) tl) (r.read.end_is ∙ ap (end_after start) bs_is) (r.read.part_is ∙ ap entries bs_is) place r.opened
            (omega (arith, h.no_shorter, master, ap (end_after start) bs_is)))
        | inr other ↦ read_other plan logs n start before m new t tl r.said r.end r.taken u other (s.done u (omega (arith, below, other)))
      ];
      left = λ u above ul. left_other plan logs n start before m new t tl r.said r.end r.taken u (λ e. omega (arith, e, above)) (s.left u (omega (arith, above)) ul);
    }
second_taken plan logs n start phase t before m new second tl plan_is tops s (inr (unused, same)) =
    subst (λ (x : Memory). AreTrailsRead plan logs n start phase (t + 1) before x) (sym same)
    (record {
      layout = s.layout;
      starts = s.starts;
      files = s.files;
      last = s.last;
      phase_is = s.phase_is;
      done = λ u below. elim (cases_eq u t) [
        | inl is ↦ subst (λ (k : ℕ). IsTrailRead plan logs n start k before m) (sym is) nothing
        | inr other ↦ s.done u (omega (arith, below, other))
      ];
      left = λ u above ul. s.left u (omega (arith, above)) ul;
    })
  where
    plan_m : plan_in m ≡ plan
    plan_m = ap plan_of s.layout ∙ plan_is

    unused_here : plan.used t ≡ false
    unused_here = subst (λ (p : Plan). p.used t ≡ false) plan_m unused

    none : blocks_in plan logs n t ≡ []
    none = blocks_unused plan logs n t unused_here

    clash : (b : Bool) → b ≡ true → b ≡ false → ⊥
    clash b yes_ no_ = cc

    nothing : IsTrailRead plan logs n start t before m
    nothing = record {
      top = (s.left t (omega arith) tl).top ∙ tops t tl ∙ ap (end_after start) (sym none);
      list = (s.left t (omega arith) tl).list ∙ sym (append-nil (get_or (lists_of before.entries) t [])) ∙ ap (λ (l : List Block). get_or (lists_of before.entries) t [] ++ entries l) (sym none);
      in_place = subst (AreInPlace plan t start) (sym none) tt;
      opened = λ used. absurd (clash (plan.used t) used unused_here);
      no_shorter = λ used. absurd (clash (plan.used t) used unused_here);
    }

-- the generation, once all its files are read
module _ (plan : Plan) (logs : Logs) (n start : ℕ) (phase : Phase) (first : List ℕ) (rest : List (List ℕ)) (before m : Memory) (few : n ≤ most_generations) (in_time : IsPhaseAt start phase) (master_used : plan.used 0 ≡ true)
    (master : logs (file_of n 0) ≡ Some (first ∷ rest)) (starts : block_of first ≡ Start start phase) (s : AreTrailsRead plan logs n start phase 4 before m) where
  abbrev pub gen : Gen
  gen = gen_in plan logs n start phase

  pub gen_is : IsGen plan gen
  gen_is = record {
    few = few;
    phase = in_time;
    in_place = λ t. elim (cases_lt t 4) [
      | inl tl ↦ (s.done t tl).in_place
      | inr far ↦ subst (AreInPlace plan t start) (sym (blocks_beyond plan logs n t far)) tt
    ];
    no_shorter = λ t tl tu. (s.done t tl).no_shorter tu;
    unused = λ t tu. blocks_unused plan logs n t tu;
  }

  pub gen_on : IsOn block_of plan logs gen
  gen_on t tl tu =
      elim (cases_eq t 0) [
        | inl zeroth ↦ subst (λ (u : ℕ). spelled block_of (logs (file_of n u)) ≡ Some (all_blocks gen u)) (sym zeroth)
            (ap (spelled block_of) master ∙ ap₂ (λ (b : Block) (l : List Block). Some (b ∷ l)) starts (sym (blocks_master plan logs n (first ∷ rest) master_used master)))
        | inr second ↦
            let o = (s.done t tl).opened tu in
            ap (spelled block_of) o.there ∙ ap (λ (l : List Block). Some l) (sym (blocks_second plan logs n t o.payloads second tl tu o.there))
            ∙ ap (λ (b : Bool). Some (if b then Start start phase ∷ blocks_in plan logs n t else blocks_in plan logs n t)) (sym (ne_eqb t 0 second))
      ]

-- the first block of a file that has one
pub first_long : (v : Vec (Vec ℕ Global) Global) (x : Vec ℕ Global) → payloads_of v ≢ [] → x ≡ get_or v.items 0 x → length (open_blocks (payloads_of v)) ≡ 5 + length x.items + length (open_blocks (drop 1 (payloads_of v)))
first_long v x some is = go v.items some is
  where
    go : (l : List (Vec ℕ Global)) → map (λ (w : Vec ℕ Global). w.items) l ≢ [] → x ≡ get_or l 0 x → length (open_blocks (map (λ (w : Vec ℕ Global). w.items) l)) ≡ 5 + length x.items + length (open_blocks (drop 1 (map (λ (w : Vec ℕ Global). w.items) l)))
    go [] some is = absurd (some refl)
    go (y ∷ l) some is = block_place [] y.items (map (λ (w : Vec ℕ Global). w.items) l) ∙ ap (λ (z : Vec ℕ Global). 0 + (5 + length z.items) + length (open_blocks (map (λ (w : Vec ℕ Global). w.items) l))) (sym is) ∙ omega arith

pub second_misplaced : (plan : Plan) (logs : Logs) (n start : ℕ) (phase : Phase) (rest : List (List ℕ)) (t f at : ℕ) (ps : List (List ℕ)) → HasStart block_of logs n start phase rest → t ≢ 0 → t < 4 → plan.used t ≡ true
    → logs (4 * n + t) ≡ Some ps → f ≡ 4 * n + t → IsFirstMisplaced block_of plan t start 0 ps at → IsFlawIn block_of plan logs f at
second_misplaced plan logs n start phase rest t f at ps has second tl used there is first = inr (inl (record {
  g = n;
  t = t;
  second = (second, tl, used);
  start = start;
  phase = phase;
  rest = rest;
  master = has;
  file_is = is;
  payloads = ps;
  there = ap logs is ∙ there;
  first = first;
}))
