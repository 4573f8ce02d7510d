-- The header of a plan: what is read is within the limits and written so, and what is written is read.
use Rattle.std.proofs.Common.{◌≡◌, ℕ, zero, suc, ◌≤◌, ◌<◌, ◌^◌, Bool, true, false, ◌&&◌, ◌==◌, nat_eq, nat_le, codes, List, [], ◌∷◌, ◌++◌, length, map, Result, Ok, Err, refl, sym, ap, subst, ◌∙◌, arith}
use Rattle.std.specs.Prelude.{decimal}
use Rattle.std.specs.List.{AllByRecursion, list_all}
use Rattle.std.specs.Cmp.Lexicographic.{pointwise}
use Rattle.std.proofs.lemmas.Bool.{and_parts, and_from, eq-eqb, eqb-true, eqb-false}
use Rattle.std.proofs.lemmas.Bool.Decides.{nat_tests}
use Rattle.std.proofs.lemmas.Fmt.{decimal_digit}
use Rattle.std.proofs.lemmas.List.{length-map, nil_from_length}
use Rattle.std.proofs.lemmas.List.Sums.{AllPass-from_list_all, list_all-from_AllPass}
use Rattle.std.proofs.lemmas.Slice.Eq.{bytes_eq-Decides}
use Rattle.rdf_types.specs.Limits.{is_trail}
use Rattle.rdf_types.specs.declared.layout.Layout.{Layout}
use Rattle.plan_lang.specs.declared.why.PlanWhy.{PlanWhy}
use Rattle.plan_lang.specs.declared.why.PlanWhy.TheVariants.{Header}
use Rattle.plan_lang.specs.declared.why.BadLine.{BadLine}
use Rattle.plan_lang.specs.LineText.{Number}
use Rattle.plan_lang.specs.PlanText.{flag_text, header_words}
use Rattle.plan_lang.specs.LineReading.{◌>>=◌, next, number_at}
use Rattle.plan_lang.specs.PlanReading.{Heading, IsHeading, heading_of, is_one}
use Rattle.plan_lang.specs.Words.{is_remark}
use Rattle.plan_lang.specs.Grammar.{next_line, named, numbers_at, or_header, header_line, setting_line, heading_in}
use Rattle.plan_lang.proofs.WordReading.{bind_ok, with_ok, let_through, next_takes, number_reads, number_again_at}
use Rattle.plan_lang.proofs.LineTaken.{nothing_left}
use Rattle.plan_lang.proofs.Graphic.{IsWord}
use Rattle.plan_lang.specs.GraphicLaws.{IsGraphic, decimal_graphic}
use Rattle.plan_lang.specs.LayoutLaws.{layout_from, is_heading}
use Rattle.plan_lang.proofs.NextLaws.{ok_same}
use Rattle.plan_lang.proofs.WordedLines.{Stand, Says, next_says, next_again}
use Rattle.plan_lang.proofs.Shown.{AreWords, AreShown, decimal_some}

-- ---- what is read

or_header_takes : {X : Type 0} (n : ℕ) (r : Result X PlanWhy) (x : X) → or_header n r ≡ Ok x → r ≡ Ok x
or_header_takes n (Ok y) x e = ap (λ z. Ok z) (ok_same y x e)
or_header_takes n (Err why) x e = absurd cc

-- a line of that name, with so many words behind it
named_takes : (name : List ℕ) (count : ℕ) (words rest : List (List ℕ)) → named name count words ≡ Ok rest → (words ≡ name ∷ rest) × (length rest ≡ count)
unfolding named
named_takes name count words rest e =
    let f = bind_ok (next words) _ rest e in
    let g = let_through (pointwise nat_eq f.0.0 name && length f.0.1 == count) f.0.1 rest Header f.2 in
    let t = and_parts (pointwise nat_eq f.0.0 name) (length f.0.1 == count) g.0 in (
      next_takes words f.0 f.1 ∙ ap (λ (w : List ℕ). w ∷ f.0.1) ((bytes_eq-Decides f.0.0 name).0 t.0) ∙ ap (λ (r : List (List ℕ)). name ∷ r) g.1,
      ap length (sym g.1) ∙ eqb-true (length f.0.1) count t.1,
    )

-- a line of the header with a single number, as it was read
record IsSetting (name : List ℕ) (from to n : ℕ) (lines : List (List ℕ)) (x : ℕ × ℕ × List (List ℕ)) : Type 0 where
  low : from ≤ x.0
  high : x.0 ≤ to
  says : Says n lines (name ∷ decimal x.0 ∷ []) x.1 x.2

setting_takes : (name : List ℕ) (from to n : ℕ) (lines : List (List ℕ)) (x : ℕ × ℕ × List (List ℕ)) → setting_line name from to n lines ≡ Ok x → IsSetting name from to n lines x
unfolding setting_line
setting_takes name from to n lines x e =
    let line = bind_ok (next_line n lines) _ x e in
    let number = bind_ok (or_header line.0.number (named name 1 line.0.words >>= number_at from to)) _ x line.2 in
    let words = bind_ok (named name 1 line.0.words) (number_at from to) number.0 (or_header_takes line.0.number (named name 1 line.0.words >>= number_at from to) number.0 number.1) in
    let took = number_reads 0 from to words.0 number.0 words.2 in
    let fits = took.fits.0 in
    let name_is = named_takes name 1 line.0.words words.0 words.1 in
    let are : line.0.words ≡ name ∷ decimal number.0.0 ∷ [] = name_is.0 ∙ ap (λ (r : List (List ℕ)). name ∷ r) (nothing_left 0 words.0 number.0.1 (Number from to number.0.0 ∷ []) name_is.1 took) in
    let whole : IsSetting name from to n lines (number.0.0, line.0.after, line.0.behind) = record { low = fits.0; high = fits.1; says = next_says n lines line.0 name (decimal number.0.0 ∷ []) line.1 are } in
    subst (IsSetting name from to n lines) (ok_same (number.0.0, line.0.after, line.0.behind) x number.2) whole

abbrev AllUpTo : ℕ → List ℕ → Type 0
AllUpTo top digits = list_all (λ d. nat_le d top) digits ≡ true

-- so many numbers, as they were read
record AreNumbers (top n : ℕ) (words : List (List ℕ)) (x : List ℕ) : Type 0 where
  count : length x ≡ n
  all : AllUpTo top x
  are : words ≡ map decimal x

numbers_take : (top n : ℕ) (words : List (List ℕ)) (x : List ℕ) → length words ≡ n → numbers_at 0 top n words ≡ Ok x → AreNumbers top n words x
unfolding numbers_at
numbers_take top zero words x len e = subst (AreNumbers top 0 words) (ok_same [] x e) (record { count = refl; all = refl; are = nil_from_length words len })
numbers_take top (suc n) words x len e =
    let first = bind_ok (number_at 0 top words) _ x e in
    let others = bind_ok (numbers_at 0 top n first.0.1) _ x first.2 in
    let took = number_reads 0 0 top words first.0 first.1 in
    let fits = took.fits.0 in
    let fewer : length first.0.1 ≡ n = let all = ap length took.parts in omega (arith, len, all) in
    let r = numbers_take top n first.0.1 others.0 fewer others.1 in
    let whole : AreNumbers top (suc n) words (first.0.0 ∷ others.0) = record {
      count = ap suc r.count;
      all = and_from (nat_le first.0.0 top) (list_all (λ d. nat_le d top) others.0) (up_to first.0.0 fits.1) r.all;
      are = took.parts ∙ ap (λ (ws : List (List ℕ)). decimal first.0.0 ∷ ws) r.are;
    } in
    subst (AreNumbers top (suc n) words) (ok_same (first.0.0 ∷ others.0) x others.2) whole
  where
    up_to : (d : ℕ) → d ≤ top → nat_le d top ≡ true
    up_to d h = grind (arith, nat_tests)

-- a line of the header with so many numbers, as it was read
record IsNumbers (name : List ℕ) (top many n : ℕ) (lines : List (List ℕ)) (x : List ℕ × ℕ × List (List ℕ)) : Type 0 where
  count : length x.0 ≡ many
  all : AllUpTo top x.0
  says : Says n lines (name ∷ map decimal x.0) x.1 x.2

header_takes : (name : List ℕ) (count top n : ℕ) (lines : List (List ℕ)) (x : List ℕ × ℕ × List (List ℕ)) → header_line name count 0 top n lines ≡ Ok x → IsNumbers name top count n lines x
unfolding header_line
header_takes name count top n lines x e =
    let line = bind_ok (next_line n lines) _ x e in
    let numbers = bind_ok (or_header line.0.number (named name count line.0.words >>= numbers_at 0 top count)) _ x line.2 in
    let words = bind_ok (named name count line.0.words) (numbers_at 0 top count) numbers.0 (or_header_takes line.0.number (named name count line.0.words >>= numbers_at 0 top count) numbers.0 numbers.1) in
    let name_is = named_takes name count line.0.words words.0 words.1 in
    let all = numbers_take top count words.0 numbers.0 name_is.1 words.2 in
    let are : line.0.words ≡ name ∷ map decimal numbers.0 = name_is.0 ∙ ap (λ (r : List (List ℕ)). name ∷ r) all.are in
    let whole : IsNumbers name top count n lines (numbers.0, line.0.after, line.0.behind) = record { count = all.count; all = all.all; says = next_says n lines line.0 name (map decimal numbers.0) line.1 are } in
    subst (IsNumbers name top count n lines) (ok_same (numbers.0, line.0.after, line.0.behind) x numbers.2) whole

length-flags : (f : ℕ → Bool) (digits : List ℕ) → length (map f digits) ≡ length digits
length-flags f digits = length-map digits f

-- ---- flags

abbrev flag_digit : Bool → ℕ
flag_digit true = 1
flag_digit false = 0

flag_words : (flags : List Bool) → map flag_text flags ≡ map decimal (map flag_digit flags)
flag_words [] = refl
flag_words (true ∷ flags) = ap (λ (w : List ℕ). w ∷ map flag_text flags) (sym (decimal_digit 1 (omega arith))) ∙ ap (λ (ws : List (List ℕ)). decimal 1 ∷ ws) (flag_words flags)
flag_words (false ∷ flags) = ap (λ (w : List ℕ). w ∷ map flag_text flags) (sym (decimal_digit 0 (omega arith))) ∙ ap (λ (ws : List (List ℕ)). decimal 0 ∷ ws) (flag_words flags)

digits_of_flags : (flags : List Bool) → map is_one (map flag_digit flags) ≡ flags
digits_of_flags [] = refl
digits_of_flags (true ∷ flags) = ap (λ (fs : List Bool). true ∷ fs) (digits_of_flags flags)
digits_of_flags (false ∷ flags) = ap (λ (fs : List Bool). false ∷ fs) (digits_of_flags flags)

digit_again : (d : ℕ) → nat_le d 1 ≡ true → flag_digit (is_one d) ≡ d
digit_again d h =
    elim (d == 1) as (λ b. (d == 1) ≡ b → flag_digit b ≡ d) [
      | true ↦ λ t. sym (eqb-true d 1 t)
      | false ↦ λ t. other t
    ] refl
  where
    other : (d == 1) ≡ false → 0 ≡ d
    other t = let no = eqb-false d 1 t in grind (arith, nat_tests)

flags_of_digits : (digits : List ℕ) → AllUpTo 1 digits → map flag_digit (map is_one digits) ≡ digits
flags_of_digits [] h = refl
flags_of_digits (d ∷ digits) h =
    let t = and_parts (nat_le d 1) (list_all (λ d. nat_le d 1) digits) h in
    ap (λ (n : ℕ). n ∷ map flag_digit (map is_one digits)) (digit_again d t.0) ∙ ap (λ (ds : List ℕ). d ∷ ds) (flags_of_digits digits t.1)

flags_up_to : (flags : List Bool) → AllUpTo 1 (map flag_digit flags)
flags_up_to [] = refl
flags_up_to (true ∷ flags) = flags_up_to flags
flags_up_to (false ∷ flags) = flags_up_to flags

length-digits : (flags : List Bool) → length (map flag_digit flags) ≡ length flags
length-digits flags = length-map flags flag_digit

-- ---- the header

-- the header with its flags as digits, where the first line and the last one have these numbers
abbrev lines_with : ℕ → Heading → List ℕ → List ℕ → List (List (List ℕ))
lines_with format h flags none =
    (codes "rdfplan" ∷ decimal format ∷ []) ∷ (codes "backups" ∷ decimal h.backups ∷ []) ∷ (codes "volumes" ∷ decimal h.volumes ∷ []) ∷ (codes "trail" ∷ map decimal h.trails) ∷ (codes "protect" ∷ map decimal flags)
    ∷ (codes "extent" ∷ decimal h.extent ∷ []) ∷ (codes "retain" ∷ decimal h.retain ∷ []) ∷ (codes "go" ∷ map decimal none) ∷ []

spelled : (layout : Layout) → header_words layout ≡ lines_with 1 (heading_of layout) (map flag_digit layout.protect) []
spelled layout =
    ap (λ (w : List ℕ). (codes "rdfplan" ∷ w ∷ []) ∷ (codes "backups" ∷ decimal layout.backups ∷ []) ∷ (codes "volumes" ∷ decimal layout.volumes ∷ []) ∷ (codes "trail" ∷ map decimal layout.trail_of) ∷ (codes "protect" ∷ map flag_text layout.protect)
    ∷ (codes "extent" ∷ decimal layout.extent ∷ []) ∷ (codes "retain" ∷ decimal layout.retain ∷ []) ∷ (codes "go" ∷ []) ∷ []) (sym (decimal_digit 1 (omega arith)))
    ∙ ap (λ (ws : List (List ℕ)). (codes "rdfplan" ∷ decimal 1 ∷ []) ∷ (codes "backups" ∷ decimal layout.backups ∷ []) ∷ (codes "volumes" ∷ decimal layout.volumes ∷ []) ∷ (codes "trail" ∷ map decimal layout.trail_of) ∷ (codes "protect" ∷ ws)
    ∷ (codes "extent" ∷ decimal layout.extent ∷ []) ∷ (codes "retain" ∷ decimal layout.retain ∷ []) ∷ (codes "go" ∷ []) ∷ []) (flag_words layout.protect)

-- what is read of a header, and that it says that
pub record IsHeader (n : ℕ) (lines : List (List ℕ)) (x : Heading × ℕ × List (List ℕ)) : Type 0 where
  pub limits : IsHeading x.0
  pub says : (said : List (List (List ℕ))) → Stand x.1 x.2 said → Stand n lines (header_words (layout_from x.0 limits) ++ said)

-- what was read of each line
header_is : (n : ℕ) (lines : List (List ℕ)) (x : Heading × ℕ × List (List ℕ)) (f b v m k : ℕ × ℕ × List (List ℕ)) (t p g : List ℕ × ℕ × List (List ℕ)) → IsSetting (codes "rdfplan") 1 1 n lines f → IsSetting (codes "backups") 1 2 f.1 f.2 b
    → IsSetting (codes "volumes") 1 16 b.1 b.2 v → IsNumbers (codes "trail") 3 v.0 v.1 v.2 t → IsNumbers (codes "protect") 1 v.0 t.1 t.2 p
    → IsSetting (codes "extent") 1 10000 p.1 p.2 m → IsSetting (codes "retain") 2 64 m.1 m.2 k → IsNumbers (codes "go") 0 0 k.1 k.2 g
    → ◌≡◌ {A = Result (Heading × ℕ × List (List ℕ)) BadLine} (Ok (record { backups = b.0; volumes = v.0; trails = t.0; protect = map is_one p.0; extent = m.0; retain = k.0 }, g.1, g.2)) (Ok x) → IsHeader n lines x
header_is n lines x f b v m k t p g format backups volumes trails protect extent retain go e =
    let h : Heading = record { backups = b.0; volumes = v.0; trails = t.0; protect = map is_one p.0; extent = m.0; retain = k.0 } in
    let limits : IsHeading h = record {
      some_backup = backups.low;
      few_backups = backups.high;
      some_volume = volumes.low;
      few_volumes = volumes.high;
      a_trail_each = trails.count;
      few_trails = AllPass-from_list_all is_trail t.0 trails.all;
      a_flag_each = length-flags is_one p.0 ∙ protect.count;
      some_extent = extent.low;
      small_extent = extent.high;
      some_retained = retain.low;
      few_retained = retain.high;
    } in
    let one : f.0 ≡ 1 = let low = format.low in let high = format.high in omega arith in
    let words : lines_with f.0 h p.0 g.0 ≡ header_words (layout_from h limits) =
    ap (λ d. lines_with d h p.0 g.0) one ∙ ap (λ ds. lines_with 1 h ds g.0) (sym (flags_of_digits p.0 protect.all)) ∙ ap (lines_with 1 h (map flag_digit h.protect)) (nil_from_length g.0 go.count) ∙ sym (spelled (layout_from h limits)) in
    let whole : IsHeader n lines (h, g.1, g.2) = record {
      limits = limits;
      says = λ said s. subst (λ ws. Stand n lines (ws ++ said)) words (format.says _ (backups.says _ (volumes.says _ (trails.says _ (protect.says _ (extent.says _ (retain.says _ (go.says said s))))))));
    } in
    subst (IsHeader n lines) (ok_same (h, g.1, g.2) x e) whole

pub heading_takes : (n : ℕ) (lines : List (List ℕ)) (x : Heading × ℕ × List (List ℕ)) → heading_in n lines ≡ Ok x → IsHeader n lines x
unfolding heading_in
heading_takes n lines x e =
    with_ok (IsHeader n lines x) (setting_line (codes "rdfplan") 1 1 n lines) _ x e (λ f fe e1.
    with_ok (IsHeader n lines x) (setting_line (codes "backups") 1 2 f.1 f.2) _ x e1 (λ b be e2.
    with_ok (IsHeader n lines x) (setting_line (codes "volumes") 1 16 b.1 b.2) _ x e2 (λ v ve e3.
    with_ok (IsHeader n lines x) (header_line (codes "trail") v.0 0 3 v.1 v.2) _ x e3 (λ t te e4.
    with_ok (IsHeader n lines x) (header_line (codes "protect") v.0 0 1 t.1 t.2) _ x e4 (λ p pe e5.
    with_ok (IsHeader n lines x) (setting_line (codes "extent") 1 10000 p.1 p.2) _ x e5 (λ m me e6.
    with_ok (IsHeader n lines x) (setting_line (codes "retain") 2 64 m.1 m.2) _ x e6 (λ k ke e7.
    with_ok (IsHeader n lines x) (header_line (codes "go") 0 0 0 k.1 k.2) _ x e7 (λ g ge e8.
    header_is n lines x f b v m k t p g (setting_takes (codes "rdfplan") 1 1 n lines f fe) (setting_takes (codes "backups") 1 2 f.1 f.2 b be) (setting_takes (codes "volumes") 1 16 b.1 b.2 v ve)
    (header_takes (codes "trail") v.0 3 v.1 v.2 t te) (header_takes (codes "protect") v.0 1 t.1 t.2 p pe) (setting_takes (codes "extent") 1 10000 p.1 p.2 m me) (setting_takes (codes "retain") 2 64 m.1 m.2 k ke)
    (header_takes (codes "go") 0 0 k.1 k.2 g ge) e8))))))))

-- ---- what is written

named_again : (name : List ℕ) (count : ℕ) (words : List (List ℕ)) → length words ≡ count → named name count (name ∷ words) ≡ Ok words
unfolding named
named_again name count words len = rw ((bytes_eq-Decides name name).1 refl, eq-eqb (length words) count len) refl

setting_again : (P : Type 0) (name : List ℕ) (from to n v : ℕ) (lines : List (List ℕ)) (said : List (List (List ℕ))) → to < 2 ^ 32 → from ≤ v → v ≤ to → Stand n lines ((name ∷ decimal v ∷ []) ∷ said)
    → ((after : ℕ) (behind : List (List ℕ)) → setting_line name from to n lines ≡ Ok (v, after, behind) → Stand after behind said → P) → P
unfolding setting_line
setting_again P name from to n v lines said small low high at shown =
    next_again P n lines name (decimal v ∷ []) said at (λ number after behind next r.
    shown after behind (rw (next, named_again name 1 (decimal v ∷ []) refl, number_again_at from to v [] small (low, high)) refl) r)

small_digits : (top : ℕ) (digits : List ℕ) → top < 2 ^ 32 → AllUpTo top digits → AllByRecursion (λ d. d ≤ top) digits
small_digits top [] small h = tt
small_digits top (d ∷ digits) small h = let t = and_parts (nat_le d top) (list_all (λ d. nat_le d top) digits) h in (below d t.0, small_digits top digits small t.1)
  where
    below : (d : ℕ) → nat_le d top ≡ true → d ≤ top
    below d q = grind (arith, nat_tests)

numbers_again : (top : ℕ) (digits : List ℕ) → top < 2 ^ 32 → AllByRecursion (λ d. d ≤ top) digits → numbers_at 0 top (length digits) (map decimal digits) ≡ Ok digits
unfolding numbers_at
numbers_again top [] small h = refl
numbers_again top (d ∷ digits) small h = rw (number_again_at 0 top d (map decimal digits) small (omega arith, h.0), numbers_again top digits small h.1) refl

header_again : (P : Type 0) (name : List ℕ) (top count n : ℕ) (digits : List ℕ) (lines : List (List ℕ)) (said : List (List (List ℕ))) → top < 2 ^ 32 → length digits ≡ count → AllUpTo top digits
    → Stand n lines ((name ∷ map decimal digits) ∷ said) → ((after : ℕ) (behind : List (List ℕ)) → header_line name count 0 top n lines ≡ Ok (digits, after, behind) → Stand after behind said → P) → P
unfolding header_line
header_again P name top count n digits lines said small len all at shown =
    let read : numbers_at 0 top count (map decimal digits) ≡ Ok digits = ap (λ m. numbers_at 0 top m (map decimal digits)) (sym len) ∙ numbers_again top digits small (small_digits top digits small all) in
    next_again P n lines name (map decimal digits) said at (λ number after behind next r.
    shown after behind (rw (next, named_again name count (map decimal digits) (length-map digits decimal ∙ len), read) refl) r)

-- the header is read from these lines, and behind it they say this
pub record Heads (n : ℕ) (lines : List (List ℕ)) (h : Heading) (said : List (List (List ℕ))) : Type 0 where
  pub after : ℕ
  pub behind : List (List ℕ)
  pub reads : heading_in n lines ≡ Ok (h, after, behind)
  pub stand : Stand after behind said

heading_with : (h : Heading) (n : ℕ) (lines : List (List ℕ)) (said : List (List (List ℕ))) → IsHeading h → Stand n lines (lines_with 1 h (map flag_digit h.protect) [] ++ said) → Heads n lines h said
unfolding heading_in
heading_with h n lines said is at =
    let flags = map flag_digit h.protect in
    let P = Heads n lines h said in
    setting_again P (codes "rdfplan") 1 1 n 1 lines _ (omega arith) (omega arith) (omega arith) at (λ a1 b1 e1 s1.
    setting_again P (codes "backups") 1 2 a1 h.backups b1 _ (omega arith) is.some_backup is.few_backups s1 (λ a2 b2 e2 s2.
    setting_again P (codes "volumes") 1 16 a2 h.volumes b2 _ (omega arith) is.some_volume is.few_volumes s2 (λ a3 b3 e3 s3.
    header_again P (codes "trail") 3 h.volumes a3 h.trails b3 _ (omega arith) is.a_trail_each (list_all-from_AllPass is_trail h.trails is.few_trails) s3 (λ a4 b4 e4 s4.
    header_again P (codes "protect") 1 h.volumes a4 flags b4 _ (omega arith) (length-digits h.protect ∙ is.a_flag_each) (flags_up_to h.protect) s4 (λ a5 b5 e5 s5.
    setting_again P (codes "extent") 1 10000 a5 h.extent b5 _ (omega arith) is.some_extent is.small_extent s5 (λ a6 b6 e6 s6.
    setting_again P (codes "retain") 2 64 a6 h.retain b6 _ (omega arith) is.some_retained is.few_retained s6 (λ a7 b7 e7 s7.
    header_again P (codes "go") 0 0 a7 [] b7 said (omega arith) refl refl s7 (λ a8 b8 e8 s8.
    record { after = a8; behind = b8; reads = rw (e1, e2, e3, e4, e5, e6, e7, e8, digits_of_flags h.protect) refl; stand = s8 }))))))))

pub heading_again : (layout : Layout) (n : ℕ) (lines : List (List ℕ)) (said : List (List (List ℕ))) → Stand n lines (header_words layout ++ said) → Heads n lines (heading_of layout) said
heading_again layout n lines said at = heading_with (heading_of layout) n lines said (is_heading layout) (subst (λ ws. Stand n lines (ws ++ said)) (spelled layout) at)

-- ---- what was printed

graphic_digits : (top : ℕ) (digits : List ℕ) → top < 2 ^ 32 → AllByRecursion (λ d. d ≤ top) digits → AllByRecursion IsGraphic (map decimal digits)
graphic_digits top [] small h = tt
graphic_digits top (d ∷ digits) small h = (decimal_graphic d (let le : d ≤ top = h.0 in omega arith), graphic_digits top digits small h.1)

some_digits : (top : ℕ) (digits : List ℕ) → top < 2 ^ 32 → AllByRecursion (λ d. d ≤ top) digits → AllByRecursion IsWord (map decimal digits)
some_digits top [] small h = tt
some_digits top (d ∷ digits) small h = (decimal_some d (let le : d ≤ top = h.0 in omega arith), some_digits top digits small h.1)

setting_words : (name : List ℕ) (v : ℕ) → IsGraphic name → IsWord name → is_remark name ≡ false → v < 2 ^ 32 → AreWords name (decimal v ∷ [])
setting_words name v graphic some no_remark lt = record { graphic = (graphic, (decimal_graphic v lt, tt)); some = (some, (decimal_some v lt, tt)); no_remark = no_remark }

digits_words : (name : List ℕ) (top : ℕ) (digits : List ℕ) → IsGraphic name → IsWord name → is_remark name ≡ false → top < 2 ^ 32 → AllUpTo top digits → AreWords name (map decimal digits)
digits_words name top digits graphic some no_remark small all =
    let h = small_digits top digits small all in
    record { graphic = (graphic, graphic_digits top digits small h); some = (some, some_digits top digits small h); no_remark = no_remark }

-- each line of the header may be printed
pub header_shown : (layout : Layout) → AllByRecursion AreShown (header_words layout)
header_shown layout =
    subst (AllByRecursion AreShown) (sym (spelled layout)) (
      setting_words (codes "rdfplan") 1 refl refl refl (omega arith),
      (
        setting_words (codes "backups") layout.backups refl refl refl (let h = layout.few_backups in omega arith),
        (
          setting_words (codes "volumes") layout.volumes refl refl refl (let h = layout.few_volumes in omega arith),
          (
            digits_words (codes "trail") 3 layout.trail_of refl refl refl (omega arith) (list_all-from_AllPass is_trail layout.trail_of layout.few_trails),
            (
              digits_words (codes "protect") 1 (map flag_digit layout.protect) refl refl refl (omega arith) (flags_up_to layout.protect),
              (
                setting_words (codes "extent") layout.extent refl refl refl (let h = layout.small_extent in omega arith),
                (setting_words (codes "retain") layout.retain refl refl refl (let h = layout.few_retained in omega arith), (digits_words (codes "go") 0 [] refl refl refl (omega arith) refl, tt)),
              ),
            ),
          ),
        ),
      ),
    )
