-- What is read as a plan is written as it, and the other way; so is what is printed.
use Rattle.std.proofs.Common.{◌≡◌, ℕ, ◌+◌, ◌≤◌, Bool, true, false, List, [], ◌∷◌, ◌++◌, length, map, Some, None, Result, Ok, Err, IfOk, inl, inr, ◌⊎◌, refl, sym, ap, subst, ◌∙◌, arith}
use Rattle.std.specs.Prelude.{◌↔◌}
use Rattle.std.specs.List.{AllByRecursion, list_all}
use Rattle.std.specs.Result.{is_ok}
use Rattle.std.proofs.lemmas.Bool.{true≢false}
use Rattle.std.proofs.lemmas.List.{length-append, length-map}
use Rattle.std.proofs.lemmas.List.Sums.{AllPass-from_list_all, list_all-from_AllPass}
use Rattle.rdf_types.specs.Filters.{length_filter}
use Rattle.rdf_types.specs.declared.layout.Layout.{Layout}
use Rattle.plan_lang.specs.declared.lines.Line.{Line}
use Rattle.plan_lang.specs.declared.lines.Line.TheVariants as line
use Rattle.plan_lang.specs.declared.lines.Plan.{Plan}
use Rattle.plan_lang.specs.declared.plan_fault.PlanFault.{PlanFault}
use Rattle.plan_lang.specs.declared.plan_fault.PlanFault.TheVariants.{Bad, NoMemory}
use Rattle.plan_lang.specs.declared.why.PlanWhy.{PlanWhy}
use Rattle.plan_lang.specs.declared.why.BadLine.{BadLine}
use Rattle.plan_lang.specs.Words.{spaced, lines_in, words_of}
use Rattle.plan_lang.specs.declared.verbs.Verb.{Verb}
use Rattle.plan_lang.specs.declared.verbs.Verb.TheVariants as verb
use Rattle.plan_lang.specs.Verbs.{verb_of}
use Rattle.plan_lang.specs.LineText.{line_words, is_printed}
use Rattle.plan_lang.specs.PlanText.{header_words, plan_text, IsPlan}
use Rattle.plan_lang.specs.LineReading.{is_known}
use Rattle.plan_lang.specs.PlanReading.{Heading, IsHeading, heading_of}
use Rattle.plan_lang.specs.PlanShown.{Makes, is_fuse, HaveNoFuse}
use Rattle.plan_lang.specs.Grammar.{heading_in, lines_from, plan_in, Reads, IsBad}
use Rattle.plan_lang.specs.Written.{may_stand, has_words, worded, IsWritten}
use Rattle.plan_lang.proofs.WordReading.{bind_ok}
use Rattle.plan_lang.proofs.NextLaws.{ok_same, lines_of_text}
use Rattle.plan_lang.proofs.WordedLines.{Stand, lines_printed}
use Rattle.plan_lang.proofs.Shown.{AreShown, shown_end, shown_printed, shown_worded}
use Rattle.plan_lang.proofs.HeadingLaws.{heading_takes, heading_again, header_shown}
use Rattle.plan_lang.proofs.LinesLaws.{lines_take, lines_again, lines_shown}
use Rattle.plan_lang.specs.LayoutLaws.{same_plan, layout_from, parts_of}

-- ---- what is read

-- the plan of these parts
abbrev plan_from : (h : Heading) → IsHeading h → List Line → Plan
plan_from h is lines = record { layout = layout_from h is; lines = lines }

no_fuse : (l : Line) → is_known false (verb_of l) ≡ true → is_fuse l ≡ false
no_fuse (line.Fuse node disk calls tear) h = absurd cc
no_fuse l h = refl

no_fuses : (lines : List Line) → AllByRecursion (λ l. is_known false (verb_of l) ≡ true) lines → HaveNoFuse lines
no_fuses [] h = tt
no_fuses (l ∷ lines) h = (no_fuse l h.0, no_fuses lines h.1)

-- the lines of a plan's text: eight, and its own
many_lines : (layout : Layout) (lines : List Line) → length (header_words layout ++ map line_words lines) ≡ 8 + length lines
many_lines layout lines = length-append (header_words layout) (map line_words lines) ∙ ap (λ n. 8 + n) (length-map lines line_words)

counted : (layout : Layout) (lines : List Line) (texts : List (List ℕ)) → worded texts ≡ header_words layout ++ map line_words lines → length texts ≤ 20000 → 8 + length lines ≤ 20000
counted layout lines texts e few =
    let kept : length (worded texts) ≤ length (map words_of texts) = length_filter has_words (map words_of texts) in
    omega (arith, length-map texts words_of, many_lines layout lines, kept, ap length e)

-- what was read, as a plan that is written
record IsTaken (fuses : Bool) (bytes : List ℕ) (x : Heading × List Line) : Type 0 where
  limits : IsHeading x.0
  written : IsWritten fuses bytes (plan_from x.0 limits x.1)

plan_takes : (fuses : Bool) (bytes : List ℕ) (x : Heading × List Line) → plan_in fuses bytes ≡ Ok x → IsTaken fuses bytes x
unfolding plan_in
plan_takes fuses bytes x e =
    let h = bind_ok (heading_in 1 (lines_in bytes)) _ x e in
    let l = bind_ok (lines_from fuses h.0.0.backups None 0 h.0.1 h.0.2) _ x h.2 in
    let p = heading_takes 1 (lines_in bytes) h.0 h.1 in
    let q = lines_take fuses h.0.0.backups None 0 h.0.1 h.0.2 l.0 l.1 in
    let s = p.says (map line_words l.0) q.stand in
    let few : length (lines_in bytes) ≤ 20000 = let f = s.few in omega arith in
    let plan : Plan = plan_from h.0.0 p.limits l.0 in
    let written : IsWritten fuses bytes plan = record {
      few = few;
      printed = AllPass-from_list_all may_stand bytes (sym (lines_printed bytes) ∙ s.printed);
      words = s.words;
      has_text = record { lines = q.fit; sessions = q.sessions; few = counted plan.layout l.0 (lines_in bytes) s.words few };
      no_fuse = λ none. no_fuses l.0 (subst (λ f. AllByRecursion (λ k. is_known f (verb_of k) ≡ true) l.0) none q.known);
    } in
    subst (IsTaken fuses bytes) (ok_same (h.0.0, l.0) x l.2) (record { limits = p.limits; written = written })

-- a plan that is read is written so
pub written : (fuses : Bool) (bytes : List ℕ) (plan : Plan) → Reads fuses bytes plan → IsWritten fuses bytes plan
written fuses bytes plan e =
    let t = plan_takes fuses bytes (parts_of plan) e in
    subst (IsWritten fuses bytes) (same_plan (plan_from (heading_of plan.layout) t.limits plan.lines) plan refl) t.written

-- ---- what is written

all_known : (lines : List Line) → AllByRecursion (λ l. is_known true (verb_of l) ≡ true) lines
all_known [] = tt
all_known (l ∷ lines) = (each (verb_of l), all_known lines)
  where
    each : (v : Verb) → is_known true v ≡ true
    each verb.Fuse = refl
    each v = refl

known_unless : (lines : List Line) → HaveNoFuse lines → AllByRecursion (λ l. is_known false (verb_of l) ≡ true) lines
known_unless [] h = tt
known_unless (l ∷ lines) h = (each l h.0, known_unless lines h.1)
  where
    each : (l : Line) → is_fuse l ≡ false → is_known false (verb_of l) ≡ true
    each (line.Fuse node disk calls tear) q = absurd cc
    each l q = refl

known_where : (fuses : Bool) (lines : List Line) → (fuses ≡ false → HaveNoFuse lines) → AllByRecursion (λ l. is_known fuses (verb_of l) ≡ true) lines
known_where true lines h = all_known lines
known_where false lines h = known_unless lines (h refl)

-- a plan that is written is read
pub read_again : (fuses : Bool) (bytes : List ℕ) (plan : Plan) → IsWritten fuses bytes plan → Reads fuses bytes plan
unfolding plan_in
read_again fuses bytes plan w =
    let s : Stand 1 (lines_in bytes) (header_words plan.layout ++ map line_words plan.lines) =
    record { few = let f = w.few in omega arith; printed = lines_printed bytes ∙ list_all-from_AllPass may_stand bytes w.printed; words = w.words } in
    let h = heading_again plan.layout 1 (lines_in bytes) (map line_words plan.lines) s in
    rw (h.reads, lines_again fuses plan.layout.backups None 0 h.after h.behind plan.lines h.stand (known_where fuses plan.lines w.no_fuse) w.has_text.lines w.has_text.sessions) refl

pub both_ways : (fuses : Bool) (bytes : List ℕ) (plan : Plan) → Reads fuses bytes plan ↔ IsWritten fuses bytes plan
both_ways fuses bytes plan = (written fuses bytes plan, read_again fuses bytes plan)

-- bytes are written as one plan
pub one_plan : (fuses : Bool) (bytes : List ℕ) (p q : Plan) → IsWritten fuses bytes p → IsWritten fuses bytes q → p ≡ q
one_plan fuses bytes p q wp wq = same_plan p q (ap (λ x. Some x) (ok_same (parts_of p) (parts_of q) (sym (read_again fuses bytes p wp) ∙ read_again fuses bytes q wq)))

-- ---- what is answered

abbrev pub MakesPlan : Bool → List ℕ → Result Plan PlanFault → Type 0
MakesPlan fuses bytes r = Makes (λ plan. (heading_of plan.layout, plan.lines)) r (plan_in fuses bytes)

pub found : (fuses : Bool) (bytes : List ℕ) (r : Result Plan PlanFault) → MakesPlan fuses bytes r → IfOk r (λ plan. IsPlan plan × Reads fuses bytes plan)
found fuses bytes (Ok plan) given = ((written fuses bytes plan given).has_text, given)
found fuses bytes (Err e) given = tt

pub without_fuses : (bytes : List ℕ) (r : Result Plan PlanFault) → MakesPlan false bytes r → IfOk r (λ plan. HaveNoFuse plan.lines)
without_fuses bytes (Ok plan) given = (written false bytes plan given).no_fuse refl
without_fuses bytes (Err e) given = tt

bad_same : (fuses : Bool) (bytes : List ℕ) (m n : ℕ) (y why : PlanWhy) → ◌≡◌ {A = Result Plan PlanFault} (Err (Bad m y)) (Err (Bad n why)) → IsBad fuses bytes m y → IsBad fuses bytes n why
bad_same fuses bytes m n y why e h =
    let line : m ≡ n = cc in
    let fault : y ≡ why = cc in
    subst (λ z. IsBad fuses bytes n z) fault (subst (λ k. IsBad fuses bytes k y) line h)

pub is_bad : (fuses : Bool) (bytes : List ℕ) (r : Result Plan PlanFault) → MakesPlan fuses bytes r → (n : ℕ) (why : PlanWhy) → r ≡ Err (Bad n why) → IsBad fuses bytes n why
is_bad fuses bytes (Ok plan) given n why e = absurd cc
is_bad fuses bytes (Err (Bad m y)) given n why e = bad_same fuses bytes m n y why e given
is_bad fuses bytes (Err NoMemory) given n why e = absurd cc

there_is : (fuses : Bool) (bytes : List ℕ) (r : Result (Heading × List Line) BadLine) → plan_in fuses bytes ≡ r → is_ok r ≡ true → (plan : Plan) × IsPlan plan × Reads fuses bytes plan
there_is fuses bytes (Err e) is h = absurd cc
there_is fuses bytes (Ok x) is h = let t = plan_takes fuses bytes x is in (plan_from x.0 t.limits x.1, t.written.has_text, is)

pub no_memory : (fuses : Bool) (bytes : List ℕ) (r : Result Plan PlanFault) → MakesPlan fuses bytes r → r ≡ Err NoMemory → (plan : Plan) × IsPlan plan × Reads fuses bytes plan
no_memory fuses bytes (Ok plan) given e = absurd cc
no_memory fuses bytes (Err (Bad m y)) given e = absurd cc
no_memory fuses bytes (Err NoMemory) given e = there_is fuses bytes (plan_in fuses bytes) refl given

-- ---- a plan, or a bad line

-- what bytes are: a plan, or a first bad line
plan_or_bad : (fuses : Bool) (bytes : List ℕ) (r : Result (Heading × List Line) BadLine) → plan_in fuses bytes ≡ r → ((plan : Plan) × IsWritten fuses bytes plan) ⊎ ((n : ℕ) × (why : PlanWhy) × IsBad fuses bytes n why)
plan_or_bad fuses bytes (Ok x) is = let t = plan_takes fuses bytes x is in inl (plan_from x.0 t.limits x.1, t.written)
plan_or_bad fuses bytes (Err e) is = inr (e.line, e.why, is)

pub either : (fuses : Bool) (bytes : List ℕ) → ((plan : Plan) × IsWritten fuses bytes plan) ⊎ ((n : ℕ) × (why : PlanWhy) × IsBad fuses bytes n why)
either fuses bytes = plan_or_bad fuses bytes (plan_in fuses bytes) refl

pub not_both : (fuses : Bool) (bytes : List ℕ) (plan : Plan) (n : ℕ) (why : PlanWhy) → IsWritten fuses bytes plan → IsBad fuses bytes n why → ⊥
not_both fuses bytes plan n why w bad = clash (parts_of plan) (record { line = n; why = why }) (sym (read_again fuses bytes plan w) ∙ bad)
  where
    clash : (x : Heading × List Line) (e : BadLine) → ◌≡◌ {A = Result (Heading × List Line) BadLine} (Ok x) (Err e) → ⊥
    clash x e q = absurd cc

-- ---- what is printed

all_append : {X : Type 0} (P : X → Type 0) (xs ys : List X) → AllByRecursion P xs → AllByRecursion P ys → AllByRecursion P (xs ++ ys)
all_append P [] ys h k = k
all_append P (x ∷ xs) ys h k = (h.0, all_append P xs ys h.1 k)

-- the text of a plan is written as it
pub text_written : (fuses : Bool) (plan : Plan) → IsPlan plan → (fuses ≡ false → HaveNoFuse plan.lines) → IsWritten fuses (plan_text plan) plan
text_written fuses plan is none =
    let all = header_words plan.layout ++ map line_words plan.lines in
    let shown : AllByRecursion AreShown all = all_append AreShown (header_words plan.layout) (map line_words plan.lines) (header_shown plan.layout) (lines_shown plan.layout.backups plan.lines is.lines) in
    let lines : lines_in (plan_text plan) ≡ map spaced all = lines_of_text all (shown_end all shown) in
    let many : length (lines_in (plan_text plan)) ≡ 8 + length plan.lines = ap length lines ∙ length-map all spaced ∙ many_lines plan.layout plan.lines in
    record {
      few = let f = is.few in omega (arith, many);
      printed = AllPass-from_list_all may_stand (plan_text plan) (sym (lines_printed (plan_text plan)) ∙ ap (list_all (list_all is_printed)) lines ∙ shown_printed all shown);
      words = ap worded lines ∙ shown_worded all shown;
      has_text = is;
      no_fuse = none;
    }

text_known : (plan : Plan) → IsPlan plan → IsWritten true (plan_text plan) plan
text_known plan is = text_written true plan is (λ e. absurd (true≢false e))

pub reads : (plan : Plan) → IsPlan plan → Reads true (plan_text plan) plan
reads plan is = read_again true (plan_text plan) plan (text_known plan is)

pub reads_for_predict : (plan : Plan) → IsPlan plan → HaveNoFuse plan.lines → Reads false (plan_text plan) plan
reads_for_predict plan is none = read_again false (plan_text plan) plan (text_written false plan is (λ e. none))

-- plans with one text are one
pub text_tells : (p q : Plan) → IsPlan p → IsPlan q → plan_text p ≡ plan_text q → p ≡ q
text_tells p q is_p is_q e = one_plan true (plan_text q) p q (subst (λ t. IsWritten true t p) e (text_known p is_p)) (text_known q is_q)
