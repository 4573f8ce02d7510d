-- The generations of a disk, read one after another.
use Rattle.std.proofs.Common.{◌≡◌, ◌≢◌, inl, inr, ⊎_elim, ℕ, ◌+◌, ◌*◌, ◌/◌, ◌%◌, ◌<◌, ◌≤◌, Bool, true, false, ◌&&◌, ◌==◌, nat_lt, if◌then◌else◌, List, [], ◌∷◌, ◌++◌, filter, length, get_or, drop, map, deque_len, Option, Some, None, IfSome, IfNone, refl, sym, ◌∙◌, ap, subst, arith}
use Rattle.std.specs.declared.alloc.Global.{Global}
use Rattle.std.specs.declared.collections.VecDeque.{VecDeque}
use Rattle.std.specs.List.Sorted.{IsNonDecreasingBy}
use Rattle.std.proofs.lemmas.Bool.{cases_eq, cases_lt, ltb-true}
use Rattle.std.proofs.lemmas.Bool.Decides.{nat_tests}
use Rattle.std.proofs.Math.Bool.{and-false}
use Rattle.rdf_types.specs.declared.records.Record.{Record}
use Rattle.rdf_types.specs.declared.records.Stamped.{Stamped}
use Rattle.rdf_types.specs.declared.records.Phase.{Phase}
use Rattle.rdf_gatelog.specs.Logs.{Logs, IsOpenIn}
use Rattle.image_disks.specs.Blocks.{Block, Start, Plan, found, AreEntries, entries, end_after, AreInPlace}
use Rattle.image_disks.specs.Flaws.{HasStart, Stands, IsFirstMisplaced, MayStart, IsFlawIn}
use Rattle.image_disks.specs.Spelled.{block_of}
use Rattle.image_disks.specs.Values.{received, or_else}
use Rattle.image_disks.specs.Standing.{Gen, file_of, end_of, IsGen, spelled, IsOn, IsNumberOf, IsUnborn}
use Rattle.image_trails.specs.declared.memory.Memory.{Memory}
use Rattle.image_trails.specs.declared.memory.Generation.{Generation}
use Rattle.image_trails.specs.Memory.{plan_in, plan_of, value_in, lists_of}
use Rattle.image_trails.specs.Opening.{HasBegun, HasRead, IsSecondRead, IsReadSo, IsNothingRead, IsReadUpTo, IsDiskRead, MayFollow, AreWithin, IsLowest, is_born}
use Rattle.rdf_types.specs.declared.layout.Layout.{Layout}
use Rattle.image_disks.specs.BlockLaws.{end_no_less, found-append, or_else-none, file_before}
use Rattle.image_disks.specs.StandingLaws.{last_on, number_below}
use Rattle.image_disks.specs.GenLaws.{gens-then, on-then, is_number-then, is_number-last, entry-then, starts-then, masters-then}
use Rattle.image_trails.specs.Rolls.{IsEmptyMemory}
use Rattle.image_trails.proofs.Sorted.{entries_append, entries_cut, positions_rise, found_kept}
use Rattle.image_trails.proofs.GenerationReads.{AreTrailsRead, master_taken, second_taken, blocks_master, blocks_in, gen_in, gen_is, gen_on, entries_in_place}

-- ---- what a trail's list says

-- the entries before a start, and a file's from there on
pub joined : (plan : Plan) (t start : ℕ) (l : List Stamped) (bs : List Block) (i : ℕ) → AreInPlace plan t start bs
    → found (filter (λ s. nat_lt s.pos start) l ++ entries bs) i ≡ (if nat_lt i start then found l i else found (entries bs) i)
joined plan t start l bs i place =
    found-append (filter (λ s. nat_lt s.pos start) l) (entries bs) i
    ∙ ap (λ (x : Option Record). or_else x (found (entries bs) i)) (found_kept (λ k. nat_lt k start) l i)
    ∙ elim (nat_lt i start) as (λ b. nat_lt i start ≡ b → or_else (if b then found l i else None) (found (entries bs) i) ≡ (if b then found l i else found (entries bs) i)) [
      | true ↦ λ e. ap (λ (x : Option Record). or_else (found l i) x) (file_before plan t start bs i place (ltb-true i start e)) ∙ or_else-none (found l i)
      | false ↦ λ e. refl
    ] refl

-- ---- one generation more was read
module _ (plan : Plan) (logs : Logs) (n start : ℕ) (phase : Phase) (first : List ℕ) (rest : List (List ℕ)) (old begun new : Memory) (plan_is : plan_in old ≡ plan) (master_used : plan.used 0 ≡ true)
    (master : logs (file_of n 0) ≡ Some (first ∷ rest)) (starts : block_of first ≡ Start start phase) (follows : MayFollow n start phase old) (b : HasBegun n start phase old begun) (s : AreTrailsRead plan logs n start phase 4 begun new) where
  abbrev g : Gen
  g = gen_in plan logs n start phase

  g_is : IsGen plan g
  g_is = gen_is plan logs n start phase first rest begun new follows.few follows.in_time master_used master starts s

  g_on : IsOn block_of plan logs g
  g_on = gen_on plan logs n start phase first rest begun new follows.few follows.in_time master_used master starts s

  list_is : (t : ℕ) → t < 4 → IsNonDecreasingBy (λ x. x.pos) (get_or (lists_of old.entries) t []) → get_or (lists_of new.entries) t [] ≡ filter (λ x. nat_lt x.pos start) (get_or (lists_of old.entries) t []) ++ entries (blocks_in plan logs n t)
  list_is t tl rises = (s.done t tl).list ∙ ap (λ (l : List Stamped). l ++ entries (blocks_in plan logs n t)) (b.lists t rises)

  opened_is : (t : ℕ) → t < 4 → plan.used t ≡ true → IsOpenIn logs (file_of new.last t) (get_or new.ends.items t 0)
  opened_is t tl tu = subst (λ (k : ℕ). IsOpenIn logs (file_of k t) (get_or new.ends.items t 0)) (sym (s.last ∙ b.last)) ((s.done t tl).opened tu)

  rising_is : (t to : ℕ) → t < 4 → AreEntries (λ r. true) 0 to (get_or (lists_of old.entries) t []) → AreEntries (λ r. true) 0 (get_or new.tops.items t 0) (get_or (lists_of new.entries) t [])
  rising_is t to tl es =
      let l = get_or (lists_of old.entries) t [] in
      let bs = blocks_in plan logs n t in
      subst (λ (k : ℕ). AreEntries (λ r. true) 0 k (get_or (lists_of new.entries) t [])) (sym (s.done t tl).top)
      (subst (λ (x : List Stamped). AreEntries (λ r. true) 0 (end_after start bs) x) (sym (list_is t tl (positions_rise (λ r. true) 0 to l es)))
      (entries_append (λ r. true) 0 start (end_after start bs) (filter (λ x. nat_lt x.pos start) l) (entries bs) (omega arith) (end_no_less plan t start bs (s.done t tl).in_place)
      (entries_cut (λ r. true) start 0 to l es) (entries_in_place plan t start bs (s.done t tl).in_place)))

  -- the first one
  first_read : IsNothingRead logs n old → IsReadSo plan logs (n + 1) [] g new
  first_read h = record {
    gens = g_is;
    on = g_on;
    unborn = λ k below other. h.unborn k (omega (arith, below, other_than k other));
    below = omega arith;
    alike = record {
      starts = sym (s.starts ∙ b.starts ∙ ap (λ (l : List Generation). map (λ (x : Generation). x.start) l ++ start ∷ []) h.none);
      last = sym (s.last ∙ b.last);
      phase = sym s.phase_is;
      top = λ t tl. sym (s.done t tl).top;
      entry = λ t i tl. sym (ap (λ (l : List Stamped). found l i)
          (list_is t tl (none_rises t) ∙ ap (λ (l : List Stamped). filter (λ x. nat_lt x.pos start) l ++ entries (blocks_in plan logs n t)) (h.lists t)));
    };
    masters = sym (s.files ∙ b.files ∙ ap (λ (l : List Generation). map (λ (x : Generation). x.master) l ++ file_of n 0 ∷ []) h.none);
    opened = opened_is;
    rising = λ t tl. rising_is t 0 tl (subst (λ (l : List Stamped). AreEntries (λ r. true) 0 0 l) (sym (h.lists t)) tt);
  }
    where
      other_than : (k : ℕ) → (k ≡ n → ⊥) → k ≢ n
      other_than k other e = other e

      none_rises : (t : ℕ) → IsNonDecreasingBy (λ x. x.pos) (get_or (lists_of old.entries) t [])
      none_rises t = subst (λ (l : List Stamped). IsNonDecreasingBy (λ x. x.pos) l) (sym (h.lists t)) (λ i j d le below. absurd (omega (arith, below)))

  -- and one behind a last one
  next_read : (older : List Gen) (last : Gen) → received (value_in old) ≡ start → IsReadSo plan logs n older last old → IsReadSo plan logs (n + 1) (older ++ last ∷ []) g new
  next_read older last joins h =
      let end_is : end_of last 0 ≡ received (value_in old) = h.alike.top 0 (omega arith) in
      let start_is : start ≡ end_of last 0 = sym (end_is ∙ joins) in
      record {
        gens = gens-then plan older last g h.gens g_is h.below start_is;
        on = on-then block_of plan logs older last g h.on g_on;
        unborn = λ k below other. elim (cases_eq k n) [
          | inl same ↦ absurd (other (subst (λ (x : ℕ). IsNumberOf x (older ++ last ∷ []) g) (sym same) (is_number-last older last g)))
          | inr differs ↦ h.unborn k (omega (arith, below, differs)) (λ is. other (is_number-then k older last g is))
        ];
        below = omega arith;
        alike = record {
          starts = starts-then older last start ∙ ap (λ (l : List ℕ). l ++ start ∷ []) h.alike.starts ∙ sym (s.starts ∙ b.starts);
          last = sym (s.last ∙ b.last);
          phase = sym s.phase_is;
          top = λ t tl. sym (s.done t tl).top;
          entry = λ t i tl.
              let l = get_or (lists_of old.entries) t [] in
              entry-then plan older last g t i h.gens start_is
              ∙ ap (λ (x : Option Record). if nat_lt i start then x else found (entries (blocks_in plan logs n t)) i) (h.alike.entry t i tl)
              ∙ sym (ap (λ (l : List Stamped). found l i) (list_is t tl (positions_rise (λ r. true) 0 (get_or old.tops.items t 0) l (h.rising t tl))) ∙ joined plan t start l (blocks_in plan logs n t) i (s.done t tl).in_place);
        };
        masters = masters-then older last g ∙ ap (λ (l : List ℕ). l ++ file_of n 0 ∷ []) h.masters ∙ sym (s.files ∙ b.files);
        opened = opened_is;
        rising = λ t tl. rising_is t (get_or old.tops.items t 0) tl (h.rising t tl);
      }

  pub one_more_read : IsReadUpTo plan logs n old → IsReadUpTo plan logs (n + 1) new
  one_more_read (inl h) = inr ([], (g, first_read h))
  one_more_read (inr (older, (last, h))) = inr (older ++ last ∷ [], (g, next_read older last (⊎_elim (λ (none : old.generations.items ≡ []). absurd (some_there older last (h.alike.starts ∙ ap (λ (l : List Generation). map (λ (x : Generation). x.start) l) none))) (λ (e : received (value_in old) ≡ start). e) follows.joins) h))
    where
      some_there : (older : List Gen) (last : Gen) → map (λ (x : Gen). x.start) older ++ last.start ∷ [] ≡ [] → ⊥
      some_there [] last e = cc
      some_there (x ∷ older) last e = cc

-- ---- the files of a generation on the way

pub split_first : (ps : List (List ℕ)) → ps ≢ [] → ps ≡ get_or ps 0 [] ∷ drop 1 ps
split_first [] some = absurd (some refl)
split_first (p ∷ ps) some = refl

-- a generation that was begun, whose master has this Start
pub record Begins (logs : Logs) (n start : ℕ) (phase : Phase) (ps : List (List ℕ)) (old m : Memory) : Type 0 where
  pub begun : HasBegun n start phase old m
  pub some : ps ≢ []
  pub master : logs (file_of n 0) ≡ Some ps
  pub starts : block_of (get_or ps 0 []) ≡ Start start phase

module _ (logs : Logs) (n start : ℕ) (phase : Phase) (ps : List (List ℕ)) (old m : Memory) (b : Begins logs n start phase ps old m) where
  plan_kept : plan_in m ≡ plan_in old
  plan_kept = ap plan_of b.begun.layout

  pub has_start : HasStart block_of logs n start phase (drop 1 ps)
  has_start = record { first = get_or ps 0 []; log = b.master ∙ ap (λ (l : List (List ℕ)). Some l) (split_first ps b.some); is = b.starts }

  -- its master was read, and then each secondary
  pub read_first : (x : Memory) → HasRead logs n start 0 (drop 1 ps) m x → AreTrailsRead (plan_in old) logs n start phase 1 m x
  read_first x r = master_taken (plan_in old) logs n start phase ps m x plan_kept refl b.begun.phase_is b.master r

  pub read_more : (t : ℕ) (x y : Memory) → t ≢ 0 → t < 4 → AreTrailsRead (plan_in old) logs n start phase t m x → IsSecondRead logs n start t x y → AreTrailsRead (plan_in old) logs n start phase (t + 1) m y
  read_more t x y second tl s r = second_taken (plan_in old) logs n start phase t m x y second tl plan_kept b.begun.tops s r

  -- damage that was told of it
  pub first_flawed : (f at : ℕ) → f ≡ 4 * n → IsFirstMisplaced block_of (plan_in m) 0 start (5 + length (get_or ps 0 [])) (drop 1 ps) at → IsFlawIn block_of (plan_in old) logs f at
  unfolding has_start
  first_flawed f at file first = inl (record {
    g = n;
    start = start;
    phase = phase;
    rest = drop 1 ps;
    master = has_start;
    file_is = omega (arith, file);
    first = subst (λ (p : Plan). IsFirstMisplaced block_of p 0 start (5 + length (get_or ps 0 [])) (drop 1 ps) at) plan_kept first;
  })

  pub more_flawed : (i f at : ℕ) (x : Memory) → 0 < i → AreTrailsRead (plan_in old) logs n start phase i m x
      → (HasStart block_of logs n start phase (drop 1 ps) → received (value_in x) ≡ end_after start (map block_of (drop 1 ps)) → IsFlawIn block_of (plan_in x) logs f at) → IsFlawIn block_of (plan_in old) logs f at
  more_flawed i f at x some s told = subst (λ (p : Plan). IsFlawIn block_of p logs f at) (ap plan_of s.layout ∙ plan_kept)
      (told has_start ((s.done 0 some).top ∙ ap (end_after start) (blocks_master (plan_in old) logs n ps refl b.master)))

-- ---- a Start that may not stand

start_of : (x : Option (List (List ℕ))) (start : ℕ) (phase : Phase) (bs : List Block) → spelled block_of x ≡ Some (Start start phase ∷ bs)
    → (first : List ℕ) × ((rest : List (List ℕ)) × (x ≡ Some (first ∷ rest)) × (block_of first ≡ Start start phase) × (map block_of rest ≡ bs))
start_of None start phase bs e = cc
start_of (Some []) start phase bs e = cc
start_of (Some (p ∷ ps)) start phase bs e = (p, (ps, refl, cc, cc))

unborn_stands : (logs : Logs) (k : ℕ) → IsUnborn (logs (file_of k 0)) → Stands block_of logs k → ⊥
unborn_stands logs k unborn (start, (phase, (rest, h))) = let none : h.first ∷ rest ≡ [] = subst IsUnborn h.log unborn in cc

pub follows_of : (plan : Plan) (logs : Logs) (n start : ℕ) (phase : Phase) (m : Memory) → plan.used 0 ≡ true → IsReadUpTo plan logs n m → MayStart block_of logs n start phase → MayFollow n start phase m
follows_of plan logs n start phase m used (inl h) may = record { few = may.few; in_time = may.in_time; joins = inl h.none }
follows_of plan logs n start phase m used (inr (older, (last, h))) may =
    let found_ = start_of (logs (file_of last.number 0)) last.start last.phase (last.blocks 0) (last_on block_of plan logs older last h.on 0 (omega arith) used) in
    let has : HasStart block_of logs last.number last.start last.phase found_.1.0 = record { first = found_.0; log = found_.1.1; is = found_.1.2 } in
    let between = λ (k : ℕ) (above : last.number < k) (below : k < n) (stands : Stands block_of logs k).
    unborn_stands logs k (h.unborn k below (λ is. omega (arith, above, number_below plan older last k h.gens is))) stands in
    let joins = may.joins last.number last.start last.phase found_.1.0 h.below has between in
    record {
      few = may.few;
      in_time = may.in_time;
      joins = inr (sym (h.alike.top 0 (omega arith)) ∙ ap (end_after last.start) (sym found_.1.3) ∙ sym joins);
    }

pub bad_start : (plan : Plan) (logs : Logs) (n f at : ℕ) (ps : List (List ℕ)) (p : List ℕ) → ps ≢ [] → logs (4 * n) ≡ Some ps → get_or ps 0 [] ≡ p → f ≡ 4 * n → at ≡ 0
    → ((start : ℕ) (phase : Phase) → block_of p ≡ Start start phase → MayStart block_of logs n start phase → ⊥) → IsFlawIn block_of plan logs f at
bad_start plan logs n f at ps p some there first file place bad = inr (inr (inl (record {
  g = n;
  file_is = omega (arith, file);
  at_is = place;
  first = get_or ps 0 [];
  rest = drop 1 ps;
  log = ap logs file ∙ there ∙ ap (λ (l : List (List ℕ)). Some l) (split_first ps some);
  bad = λ start phase e may. bad start phase (ap block_of (sym first) ∙ e) may;
})))

pub none_start : (o : Option (ℕ × Phase)) (P : Type 0) → o ≡ None → IfNone o P → P
none_start None P e h = h
none_start (Some x) P e h = cc

pub some_start : (o : Option (ℕ × Phase)) (s : ℕ) (p : Phase) (bytes : List ℕ) → o ≡ Some (s, p) → IfSome o (λ start. block_of bytes ≡ Start start.0 start.1) → block_of bytes ≡ Start s p
some_start o s p bytes e h = subst (λ (x : Option (ℕ × Phase)). IfSome x (λ start. block_of bytes ≡ Start start.0 start.1)) e h

pub same_start : (b : Block) (s t : ℕ) (p q : Phase) → b ≡ Start s p → b ≡ Start t q → (s ≡ t) × (p ≡ q)
same_start b s t p q e f = let both : Start s p ≡ Start t q = sym e ∙ f in (cc, cc)

-- ---- all of them

pub empty_read : (plan : Plan) (logs : Logs) (first end : ℕ) (layout : Layout) (m : Memory) → IsEmptyMemory layout m → AreWithin first end logs → IsReadUpTo plan logs first m
empty_read plan logs first end layout m h within = inl (record {
  unborn = λ k below. subst IsUnborn (sym (within (file_of k 0) (inl (omega (arith, below))))) tt;
  none = h.none;
  lists = h.lists;
})

some_starts : (older : List Gen) (last : Gen) → map (λ (x : Gen). x.start) older ++ last.start ∷ [] ≡ [] → ⊥
some_starts [] last e = cc
some_starts (x ∷ older) last e = cc

none_beyond : (logs : Logs) (first end k : ℕ) → AreWithin first end logs → end ≤ k → IsUnborn (logs (file_of k 0))
none_beyond logs first end k within far = subst IsUnborn (sym (within (file_of k 0) (inr (omega (arith, far))))) tt

-- none stands
pub none_stand : (plan : Plan) (logs : Logs) (first end n low : ℕ) (m : Memory) → IsReadUpTo plan logs n m → m.generations.items ≡ [] → end ≤ n → AreWithin first end logs → IsLowest low logs → (f at : ℕ) → f ≡ low → at ≡ 0
    → IsFlawIn block_of plan logs f at
none_stand plan logs first end n low m (inl h) none far within lowest f at file place = inr (inr (inr (inr (record {
  none = λ g stands. elim (cases_lt g n) [
    | inl below ↦ unborn_stands logs g (h.unborn g below) stands
    | inr beyond ↦ unborn_stands logs g (none_beyond logs first end g within (omega (arith, beyond, far))) stands
  ];
  at_is = place;
  lowest = λ k there. let l = lowest.least k there in (omega (arith, file, l.0), λ gone. l.1 (sym (ap logs file) ∙ gone));
  blank = λ blank. file ∙ lowest.blank blank;
}))))
none_stand plan logs first end n low m (inr (older, (last, h))) none far within lowest f at file place =
    absurd (some_starts older last (h.alike.starts ∙ ap (λ (l : List Generation). map (λ (x : Generation). x.start) l) none))

unborn_not : (x : Option (List (List ℕ))) → IsUnborn x → is_born x ≡ false
unborn_not None u = refl
unborn_not (Some []) u = refl
unborn_not (Some (p ∷ ps)) u = cc

pub disk_read : (plan : Plan) (logs : Logs) (first end n : ℕ) (m : Memory) → IsReadUpTo plan logs n m → m.generations.items ≢ [] → end ≤ n → AreWithin first end logs → IsDiskRead plan logs m
disk_read plan logs first end n m (inl h) some far within = absurd (some h.none)
disk_read plan logs first end n m (inr (older, (last, h))) some far within =
    let unborn = λ (k : ℕ) (free : IsNumberOf k older last → ⊥). unborn_all k free in
    record {
      means = (older, last, record { gens = h.gens; on = h.on; unborn = unborn }, h.alike, h.masters);
      opened = h.opened;
      rising = h.rising;
      above = λ f beyond.
          let high : last.number < f / 4 = omega (arith, beyond, h.alike.last) in
          ap (λ (b : Bool). plan.used (f % 4) && b) (unborn_not (logs (file_of (f / 4) 0)) (unborn (f / 4) (λ is. omega (arith, high, number_below plan older last (f / 4) h.gens is))))
          ∙ and-false (plan.used (f % 4));
    }
  where
    unborn_all : (k : ℕ) → (IsNumberOf k older last → ⊥) → IsUnborn (logs (file_of k 0))
    unborn_all k free = elim (cases_lt k n) [
      | inl below ↦ h.unborn k below free
      | inr beyond ↦ none_beyond logs first end k within (omega (arith, beyond, far))
    ]

pub none_held : (v : VecDeque Generation Global) (b : Bool) → b ≡ (deque_len v == 0) → b ≡ true → v.items ≡ []
none_held v b is true_ = empty_list v.items (omega (arith, zero_len (deque_len v) (sym is ∙ true_), v.ok.0))
  where
    zero_len : (n : ℕ) → (n == 0) ≡ true → n ≡ 0
    zero_len n e = grind (arith, nat_tests)

    empty_list : (l : List Generation) → length l ≡ 0 → l ≡ []
    empty_list [] e = refl
    empty_list (x ∷ l) e = absurd (omega (arith, e))
