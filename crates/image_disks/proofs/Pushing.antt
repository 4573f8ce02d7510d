-- An image disk with one block more in a file of its last generation.
use Rattle.std.proofs.Common.{◌≡◌, ◌≢◌, ◌⊎◌, inl, inr, ⊎_elim, ℕ, ◌<◌, ◌≤◌, Bool, true, false, ◌&&◌, ◌==◌, nat_le, nat_lt, if◌then◌else◌, List, [], ◌∷◌, ◌++◌, map, Option, Some, None, refl, sym, ◌∙◌, ap, ap₂, subst, arith}
use Rattle.std.proofs.lemmas.Bool.{cases_eq, eq-eqb, ne_eqb}
use Rattle.std.proofs.Math.Bool.{and-false}
use Rattle.std.proofs.lemmas.List.{append-nil}
use Rattle.std.proofs.lemmas.Bool.Decides.{nat_tests}
use Rattle.rdf_types.specs.declared.records.Record.{Record}
use Rattle.rdf_types.specs.declared.records.Stamped.{Stamped}
use Rattle.rdf_types.specs.declared.records.Phase.{Phase}
use Rattle.rdf_gatelog.specs.Logs.{Logs, with_log, payloads_at, pushed}
use Rattle.rdf_gatelog.specs.RestLaws.{with_same, with_other}
use Rattle.image_disks.specs.Blocks.{Block, Start, Ship, Mark, Plan, keeps, found, AreEntries, kept_of, entries, end_after, phase_after, IsPhaseAt, AreInPlace}
use Rattle.image_disks.specs.Values.{or_else}
use Rattle.image_disks.specs.Standing.{Gen, file_of, all_blocks, end_of, IsGen, first_start, first_number, AreGens, entry_of, spelled, IsOn, AreOn, IsNumberOf, IsUnborn, AreStanding, masters_of}
use Rattle.image_disks.specs.Steps.{MarkMeans, ShipMeans}
use Rattle.image_disks.specs.BlockLaws.{or_else-none, end_after-more, phase_after-more, entries-more, in_place-more, end_no_less, found-append, found_before, file_behind, kept_entries}
use Rattle.image_disks.specs.StandingLaws.{number_rises, start_rises, last_gen, file_differs, file_differs-trail}

-- the generation with a block more in that trail's file
abbrev pub with_more : Gen → ℕ → Block → Gen
with_more g t b = record g { blocks = λ u. if u == t then g.blocks u ++ b ∷ [] else g.blocks u }

pub is_number : (older : List Gen) (last : Gen) → IsNumberOf last.number older last
is_number [] last = refl
is_number (g ∷ older) last = inr (is_number older last)

first_start-more : (older : List Gen) (last : Gen) (t : ℕ) (b : Block) → first_start older (with_more last t b) ≡ first_start older last
first_start-more [] last t b = refl
first_start-more (g ∷ older) last t b = refl

first_number-more : (older : List Gen) (last : Gen) (t : ℕ) (b : Block) → first_number older (with_more last t b) ≡ first_number older last
first_number-more [] last t b = refl
first_number-more (g ∷ older) last t b = refl

is_number-more : (n : ℕ) (older : List Gen) (last : Gen) (t : ℕ) (b : Block) → IsNumberOf n older last → IsNumberOf n older (with_more last t b)
is_number-more n [] last t b is = is
is_number-more n (g ∷ older) last t b is = ⊎_elim (λ (h : n ≡ g.number). inl h) (λ (h : IsNumberOf n older last). inr (is_number-more n older last t b h)) is

masters-more : (older : List Gen) (last : Gen) (t : ℕ) (b : Block) → masters_of older (with_more last t b) ≡ masters_of older last
masters-more [] last t b = refl
masters-more (g ∷ older) last t b = ap (λ (l : List ℕ). file_of g.number 0 ∷ l) (masters-more older last t b)

gens-more : (plan : Plan) (older : List Gen) (last : Gen) (t : ℕ) (b : Block) → AreGens plan older last → IsGen plan (with_more last t b) → AreGens plan older (with_more last t b)
gens-more plan [] last t b gens here = here
gens-more plan (g ∷ older) last t b gens here = (
  gens.0,
  subst (λ (n : ℕ). g.number < n) (sym (first_number-more older last t b)) gens.1,
  first_start-more older last t b ∙ gens.2,
  gens-more plan older last t b gens.3 here,
)

module _ (block_of : List ℕ → Block) (plan : Plan) (logs : Logs) (t : ℕ) (tl : t < 4) (used : plan.used t ≡ true) (p : List ℕ) where
  spelled-push : (x : Option (List (List ℕ))) (bs : List Block) → spelled block_of x ≡ Some bs → spelled block_of (Some (payloads_at x ++ p ∷ [])) ≡ Some (bs ++ block_of p ∷ [])
  spelled-push None bs e = cc
  spelled-push (Some ps) bs e = let e2 : map block_of ps ≡ bs = cc in ap (λ (l : List Block). Some l) (map-more ps ∙ ap (λ (l : List Block). l ++ block_of p ∷ []) e2)
    where
      map-more : (ps : List (List ℕ)) → map block_of (ps ++ p ∷ []) ≡ map block_of ps ++ block_of p ∷ []
      map-more [] = refl
      map-more (q ∷ ps) = ap (λ (l : List Block). block_of q ∷ l) (map-more ps)

  all_blocks-more : (g : Gen) (b : Block) → all_blocks (with_more g t b) t ≡ all_blocks g t ++ b ∷ []
  all_blocks-more g b =
      let here : (with_more g t b).blocks t ≡ g.blocks t ++ b ∷ [] = ap (λ (c : Bool). if c then g.blocks t ++ b ∷ [] else g.blocks t) (eq-eqb t t refl) in
      elim (t == 0) as (λ c. (if c then Start g.start g.phase ∷ (with_more g t b).blocks t else (with_more g t b).blocks t) ≡ (if c then Start g.start g.phase ∷ g.blocks t else g.blocks t) ++ b ∷ []) [
        | true ↦ ap (λ (l : List Block). Start g.start g.phase ∷ l) here
        | false ↦ here
      ]

  all_blocks-other : (g : Gen) (b : Block) (u : ℕ) → u ≢ t → all_blocks (with_more g t b) u ≡ all_blocks g u
  all_blocks-other g b u other = ap (λ (l : List Block). if u == 0 then Start g.start g.phase ∷ l else l) (ap (λ (c : Bool). if c then g.blocks u ++ b ∷ [] else g.blocks u) (ne_eqb u t other))

  on-more : (last : Gen) → IsOn block_of plan logs last → IsOn block_of plan (pushed logs (file_of last.number t) p) (with_more last t (block_of p))
  on-more last on u ul uu =
      let file = file_of last.number t in
      elim (cases_eq u t) [
        | inl same ↦ subst (λ (w : ℕ). spelled block_of (pushed logs file p (file_of last.number w)) ≡ Some (all_blocks (with_more last t (block_of p)) w)) (sym same)
            (ap (spelled block_of) (with_same logs file (Some (payloads_at (logs file) ++ p ∷ [])))
            ∙ spelled-push (logs file) (all_blocks last t) (on t tl used)
            ∙ ap (λ (l : List Block). Some l) (sym (all_blocks-more last (block_of p))))
        | inr other ↦ ap (spelled block_of) (with_other logs file (Some (payloads_at (logs file) ++ p ∷ [])) (file_of last.number u) (file_differs-trail last.number u t other))
            ∙ on u ul uu
            ∙ ap (λ (l : List Block). Some l) (sym (all_blocks-other last (block_of p) u other))
      ]

  -- the files of another generation are left alone
  on-left : (g : Gen) (n : ℕ) (x : Option (List (List ℕ))) → g.number ≢ n → IsOn block_of plan logs g → IsOn block_of plan (with_log logs (file_of n t) x) g
  on-left g n x differ on u ul uu = ap (spelled block_of) (with_other logs (file_of n t) x (file_of g.number u) (file_differs g.number n u t ul tl differ)) ∙ on u ul uu

  all_on-more : (older : List Gen) (last : Gen) → AreGens plan older last → AreOn block_of plan logs older last → AreOn block_of plan (pushed logs (file_of last.number t) p) older (with_more last t (block_of p))
  all_on-more [] last gens on = on-more last on
  all_on-more (g ∷ older) last gens on = (
    on-left g last.number (Some (payloads_at (logs (file_of last.number t)) ++ p ∷ [])) (λ e. omega (arith, gens.1, number_rises plan older last gens.3)) on.0,
    all_on-more older last gens.3 on.1,
  )

  pub standing-more : (older : List Gen) (last : Gen) → AreStanding block_of plan logs older last → IsGen plan (with_more last t (block_of p))
      → AreStanding block_of plan (pushed logs (file_of last.number t) p) older (with_more last t (block_of p))
  standing-more older last s here = record {
    gens = gens-more plan older last t (block_of p) s.gens here;
    on = all_on-more older last s.gens s.on;
    unborn = λ n not.
        let other : n ≢ last.number = λ e. not (is_number-more n older last t (block_of p) (subst (λ (m : ℕ). IsNumberOf m older last) (sym e) (is_number older last))) in
        subst IsUnborn (sym (with_other logs (file_of last.number t) (Some (payloads_at (logs (file_of last.number t)) ++ p ∷ [])) (file_of n 0) (file_differs n last.number 0 t (omega arith) tl other)))
        (s.unborn n (λ is. not (is_number-more n older last t (block_of p) is)));
  }

-- a file with one Ship more, at each position
pub found-ship : (plan : Plan) (t at to : ℕ) (bs : List Block) (part : List Stamped) (i : ℕ) → AreInPlace plan t at bs → AreEntries (keeps plan t) (end_after at bs) to part
    → found (entries (bs ++ Ship (end_after at bs) to part ∷ [])) i ≡ (if nat_le (end_after at bs) i then found part i else found (entries bs) i)
found-ship plan t at to bs part i here es =
    ap (λ (l : List Stamped). found l i) (entries-more bs (Ship (end_after at bs) to part) ∙ ap (λ (l : List Stamped). entries bs ++ l) (append-nil part))
    ∙ found-append (entries bs) part i
    ∙ elim (nat_le (end_after at bs) i) as (λ b. nat_le (end_after at bs) i ≡ b → or_else (found (entries bs) i) (found part i) ≡ (if b then found part i else found (entries bs) i)) [
      | true ↦ λ e. ap (λ (x : Option Record). or_else x (found part i)) (file_behind plan t at bs i here (grind (arith, nat_tests, e)))
      | false ↦ λ e. ap (λ (x : Option Record). or_else (found (entries bs) i) x) (found_before (keeps plan t) (end_after at bs) to part i es (grind (arith, nat_tests, e))) ∙ or_else-none (found (entries bs) i)
    ] refl

pub found-mark : (bs : List Block) (phase : Phase) (i : ℕ) → found (entries (bs ++ Mark phase ∷ [])) i ≡ found (entries bs) i
found-mark bs phase i = ap (λ (l : List Stamped). found l i) (entries-more bs (Mark phase) ∙ append-nil (entries bs))

-- a mark on the master
module _ (plan : Plan) (last : Gen) (phase : Phase) where
  blocks-mark : (u : ℕ) → (u ≡ 0) ⊎ ((with_more last 0 (Mark phase)).blocks u ≡ last.blocks u)
  blocks-mark u = elim (cases_eq u 0) [ inl same ↦ inl same | inr other ↦ inr (ap (λ (c : Bool). if c then last.blocks u ++ Mark phase ∷ [] else last.blocks u) (ne_eqb u 0 other)) ]

  end-mark : (u : ℕ) → end_of (with_more last 0 (Mark phase)) u ≡ end_of last u
  end-mark u = ⊎_elim
      (λ (e : u ≡ 0). subst (λ (w : ℕ). end_of (with_more last 0 (Mark phase)) w ≡ end_of last w) (sym e) (end_after-more last.start (last.blocks 0) (Mark phase)))
      (λ (e : (with_more last 0 (Mark phase)).blocks u ≡ last.blocks u). ap (end_after last.start) e) (blocks-mark u)

  found_at-mark : (u i : ℕ) → found (entries ((with_more last 0 (Mark phase)).blocks u)) i ≡ found (entries (last.blocks u)) i
  found_at-mark u i = ⊎_elim
      (λ (e : u ≡ 0). subst (λ (w : ℕ). found (entries ((with_more last 0 (Mark phase)).blocks w)) i ≡ found (entries (last.blocks w)) i) (sym e) (found-mark (last.blocks 0) phase i))
      (λ (e : (with_more last 0 (Mark phase)).blocks u ≡ last.blocks u). ap (λ (l : List Block). found (entries l) i) e) (blocks-mark u)

  entry-mark : (older : List Gen) (u i : ℕ) → entry_of older (with_more last 0 (Mark phase)) u i ≡ entry_of older last u i
  entry-mark [] u i = found_at-mark u i
  entry-mark (g ∷ older) u i =
      ap₂ (λ (n : ℕ) (x : Option Record). if nat_lt i n then found (entries (g.blocks u)) i else x) (first_start-more older last 0 (Mark phase)) (entry-mark older u i)

  gen-mark : plan.used 0 ≡ true → IsGen plan last → IsPhaseAt (end_of last 0) phase → IsGen plan (with_more last 0 (Mark phase))
  gen-mark used g here = record {
    phase = g.phase;
    in_place = λ u. elim (cases_eq u 0) [
      | inl same ↦ subst (λ (w : ℕ). AreInPlace plan w last.start ((with_more last 0 (Mark phase)).blocks w)) (sym same) (in_place-more plan 0 last.start (last.blocks 0) (Mark phase) (g.in_place 0) (refl, here, tt))
      | inr other ↦ subst (λ (l : List Block). AreInPlace plan u last.start l) (sym (ap (λ (c : Bool). if c then last.blocks u ++ Mark phase ∷ [] else last.blocks u) (ne_eqb u 0 other))) (g.in_place u)
    ];
    few = g.few;
    no_shorter = λ u ul uu. omega (arith, g.no_shorter u ul uu, end-mark 0, end-mark u);
    unused = λ u uu. ⊎_elim
        (λ (e : u ≡ 0). let clash : true ≡ false = sym used ∙ ap plan.used (sym e) ∙ uu in cc)
        (λ (e : (with_more last 0 (Mark phase)).blocks u ≡ last.blocks u). e ∙ g.unused u uu) (blocks-mark u);
  }

pub mark_means : MarkMeans
mark_means block_of plan logs v p phase used is here masters (older, last, s, alike, files) =
    let top_is : end_of last 0 ≡ v.top 0 = alike.top 0 (omega arith) in
    let gen : IsGen plan (with_more last 0 (Mark phase)) = gen-mark plan last phase used (last_gen plan older last s.gens) (subst (λ (n : ℕ). IsPhaseAt n phase) (sym top_is) here) in
    let gen2 : IsGen plan (with_more last 0 (block_of p)) = subst (λ (b : Block). IsGen plan (with_more last 0 b)) (sym is) gen in
    let s2 = standing-more block_of plan logs 0 (omega arith) used p older last s gen2 in
    let s3 = subst (λ (b : Block). AreStanding block_of plan (pushed logs (file_of last.number 0) p) older (with_more last 0 b)) is s2 in
    let s4 = subst (λ (n : ℕ). AreStanding block_of plan (pushed logs (file_of n 0) p) older (with_more last 0 (Mark phase))) alike.last s3 in (
      older,
      with_more last 0 (Mark phase),
      s4,
      record {
        starts = alike.starts;
        last = alike.last;
        phase = phase_after-more last.phase (last.blocks 0) (Mark phase);
        top = λ t tl. end-mark plan last phase t ∙ alike.top t tl;
        entry = λ t i tl. entry-mark plan last phase older t i ∙ alike.entry t i tl;
      },
      masters-more older last 0 (Mark phase) ∙ files,
    )

-- a Ship on a trail
module _ (plan : Plan) (last : Gen) (t to : ℕ) (part : List Stamped) (used : plan.used t ≡ true) (gen : IsGen plan last)
    (es : AreEntries (keeps plan t) (end_of last t) to part) (behind : end_of last t < to) where
  abbrev block : Block
  block = Ship (end_of last t) to part

  blocks-here : (with_more last t block).blocks t ≡ last.blocks t ++ block ∷ []
  blocks-here = ap (λ (c : Bool). if c then last.blocks t ++ block ∷ [] else last.blocks t) (eq-eqb t t refl)

  blocks-other : (u : ℕ) → u ≢ t → (with_more last t block).blocks u ≡ last.blocks u
  blocks-other u other = ap (λ (c : Bool). if c then last.blocks u ++ block ∷ [] else last.blocks u) (ne_eqb u t other)

  end-here : end_of (with_more last t block) t ≡ to
  end-here = ap (end_after last.start) blocks-here ∙ end_after-more last.start (last.blocks t) block

  end-ship : (u : ℕ) → end_of (with_more last t block) u ≡ (if u == t then to else end_of last u)
  end-ship u = elim (cases_eq u t) [
    | inl same ↦ subst (λ (w : ℕ). end_of (with_more last t block) w ≡ (if w == t then to else end_of last w)) (sym same) (end-here ∙ sym (ap (λ (b : Bool). if b then to else end_of last t) (eq-eqb t t refl)))
    | inr other ↦ ap (end_after last.start) (blocks-other u other) ∙ sym (ap (λ (b : Bool). if b then to else end_of last u) (ne_eqb u t other))
  ]

  abbrev after : ℕ → ℕ → Option Record → Option Record
  after u i was = if (u == t) && nat_le (end_of last t) i then found part i else was

  found-at : (u i : ℕ) → found (entries ((with_more last t block).blocks u)) i ≡ after u i (found (entries (last.blocks u)) i)
  found-at u i = elim (cases_eq u t) [
    | inl same ↦ subst (λ (w : ℕ). found (entries ((with_more last t block).blocks w)) i ≡ after w i (found (entries (last.blocks w)) i)) (sym same)
        (ap (λ (l : List Block). found (entries l) i) blocks-here ∙ found-ship plan t last.start to (last.blocks t) part i (gen.in_place t) es
        ∙ sym (ap (λ (b : Bool). if b && nat_le (end_of last t) i then found part i else found (entries (last.blocks t)) i) (eq-eqb t t refl)))
    | inr other ↦ ap (λ (l : List Block). found (entries l) i) (blocks-other u other) ∙ sym (ap (λ (b : Bool). if b && nat_le (end_of last t) i then found part i else found (entries (last.blocks u)) i) (ne_eqb u t other))
  ]

  entry-ship : (older : List Gen) → AreGens plan older last → (u i : ℕ) → entry_of older (with_more last t block) u i ≡ after u i (entry_of older last u i)
  entry-ship [] gens u i = found-at u i
  entry-ship (g ∷ older) gens u i =
      let rises : first_start older last ≤ last.start = start_rises plan older last gens.3 in
      let no_less : last.start ≤ end_of last t = end_no_less plan t last.start (last.blocks t) (gen.in_place t) in
      ap₂ (λ (n : ℕ) (x : Option Record). if nat_lt i n then found (entries (g.blocks u)) i else x) (first_start-more older last t block) (entry-ship older gens.3 u i)
      ∙ elim (nat_lt i (first_start older last)) as (λ b. nat_lt i (first_start older last) ≡ b → (if b then found (entries (g.blocks u)) i else after u i (entry_of older last u i)) ≡ after u i (if b then found (entries (g.blocks u)) i else entry_of older last u i)) [
        | true ↦ λ e.
            let low : nat_le (end_of last t) i ≡ false = grind (arith, nat_tests, e, rises, no_less) in
            sym (ap (λ (b : Bool). if b then found part i else found (entries (g.blocks u)) i) (ap (λ (c : Bool). (u == t) && c) low ∙ and-false (u == t)))
        | false ↦ λ e. refl
      ] refl

  no_longer : (u : ℕ) → end_of last u ≤ end_of (with_more last t block) u
  no_longer u =
      elim (cases_eq u t) [
        | inl same ↦ subst (λ (w : ℕ). end_of last w ≤ end_of (with_more last t block) w) (sym same) (omega (arith, end-here, behind))
        | inr other ↦ let e : end_of (with_more last t block) u ≡ end_of last u = ap (end_after last.start) (blocks-other u other) in omega (arith, e)
      ]

  abbrev InOrder : Type 0
  InOrder = t ≡ 0 → (u : ℕ) → u < 4 → plan.used u ≡ true → u ≢ 0 → to ≤ end_of last u

  shorter-master : InOrder → t ≡ 0 → (u : ℕ) → u < 4 → plan.used u ≡ true → end_of (with_more last t block) 0 ≤ end_of (with_more last t block) u
  shorter-master order master u ul uu =
      let zero_end : end_of (with_more last t block) 0 ≡ to = ap (λ (w : ℕ). end_of (with_more last t block) w) (sym master) ∙ end-here in
      elim (cases_eq u 0) [
        | inl first ↦ subst (λ (w : ℕ). end_of (with_more last t block) 0 ≤ end_of (with_more last t block) w) (sym first) (omega arith)
        | inr second ↦ omega (arith, zero_end, order master u ul uu second, no_longer u)
      ]

  shorter : InOrder → (u : ℕ) → u < 4 → plan.used u ≡ true → end_of (with_more last t block) 0 ≤ end_of (with_more last t block) u
  shorter order u ul uu =
      elim (cases_eq t 0) [
        | inl master ↦ shorter-master order master u ul uu
        | inr secondary ↦
            let zero_end : end_of (with_more last t block) 0 ≡ end_of last 0 = ap (end_after last.start) (blocks-other 0 (λ e. secondary (sym e))) in
            omega (arith, zero_end, gen.no_shorter u ul uu, no_longer u)
      ]

  in_place-ship : (u : ℕ) → AreInPlace plan u last.start ((with_more last t block).blocks u)
  in_place-ship u =
      elim (cases_eq u t) [
        | inl same ↦ subst (λ (w : ℕ). AreInPlace plan w last.start ((with_more last t block).blocks w)) (sym same)
            (subst (λ (l : List Block). AreInPlace plan t last.start l) (sym blocks-here) (in_place-more plan t last.start (last.blocks t) block (gen.in_place t) (refl, behind, es, tt)))
        | inr other ↦ subst (λ (l : List Block). AreInPlace plan u last.start l) (sym (blocks-other u other)) (gen.in_place u)
      ]

  unused-ship : (u : ℕ) → plan.used u ≡ false → (with_more last t block).blocks u ≡ []
  unused-ship u uu =
      elim (cases_eq u t) [
        | inl same ↦ let clash : true ≡ false = sym used ∙ ap plan.used (sym same) ∙ uu in cc
        | inr other ↦ blocks-other u other ∙ gen.unused u uu
      ]

  phase-ship : phase_after last.phase ((with_more last t block).blocks 0) ≡ phase_after last.phase (last.blocks 0)
  phase-ship =
      elim (cases_eq 0 t) [
        | inl same ↦ ap (λ (c : Bool). phase_after last.phase (if c then last.blocks 0 ++ block ∷ [] else last.blocks 0)) (eq-eqb 0 t same) ∙ phase_after-more last.phase (last.blocks 0) block
        | inr other ↦ ap (phase_after last.phase) (blocks-other 0 other)
      ]

  gen-ship : InOrder → IsGen plan (with_more last t block)
  gen-ship order = record { few = gen.few; phase = gen.phase; in_place = in_place-ship; no_shorter = shorter order; unused = unused-ship }

pub ship_means : ShipMeans
ship_means block_of plan logs v ship t p tl used is es behind order masters (older, last, s, alike, files) =
    let top_is : v.top t ≡ end_of last t = sym (alike.top t tl) in
    let part : List Stamped = kept_of plan t (end_of last t) ship.part in
    let is2 : block_of p ≡ Ship (end_of last t) ship.to part = is ∙ ap (λ (n : ℕ). Ship n ship.to (kept_of plan t n ship.part)) top_is in
    let gen : IsGen plan last = last_gen plan older last s.gens in
    let here : AreEntries (keeps plan t) (end_of last t) ship.to part = kept_entries plan t (end_of last t) ship.from (end_of last t) ship.to ship.part es (inr (omega arith)) in
    let behind2 : end_of last t < ship.to = subst (λ (n : ℕ). n < ship.to) top_is behind in
    let order2 : (t ≡ 0 → (u : ℕ) → u < 4 → plan.used u ≡ true → u ≢ 0 → ship.to ≤ end_of last u) = λ master u ul uu second. subst (λ (n : ℕ). ship.to ≤ n) (sym (alike.top u ul)) (order master u ul uu second) in
    let more = gen-ship plan last t ship.to part used gen here behind2 order2 in
    let s2 = standing-more block_of plan logs t tl used p older last s (subst (λ (b : Block). IsGen plan (with_more last t b)) (sym is2) more) in
    let s3 = subst (λ (b : Block). AreStanding block_of plan (pushed logs (file_of last.number t) p) older (with_more last t b)) is2 s2 in
    let s4 = subst (λ (n : ℕ). AreStanding block_of plan (pushed logs (file_of n t) p) older (with_more last t (Ship (end_of last t) ship.to part))) alike.last s3 in (
      older,
      with_more last t (Ship (end_of last t) ship.to part),
      s4,
      record {
        starts = alike.starts;
        last = alike.last;
        phase = phase-ship plan last t ship.to part used gen here behind2 ∙ alike.phase;
        top = λ u ul. end-ship plan last t ship.to part used gen here behind2 u ∙ ap (λ (n : ℕ). if u == t then ship.to else n) (alike.top u ul);
        entry = λ u i ul.
            entry-ship plan last t ship.to part used gen here behind2 older s.gens u i
            ∙ ap₂ (λ (n : ℕ) (x : Option Record). if (u == t) && nat_le n i then found (kept_of plan t n ship.part) i else x) (sym top_is) (alike.entry u i ul);
      },
      masters-more older last t (Ship (end_of last t) ship.to part) ∙ files,
    )
