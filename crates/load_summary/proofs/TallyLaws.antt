-- One line more in what is kept of a run.
use Rattle.std.proofs.Common.{◌≡◌, ℕ, suc, ◌+◌, List, [], ◌∷◌, ◌++◌, length, get_or, zip, filter_map, sum_by, Option, Some, None, refl, sym, ap, ◌∙◌, zero-add, arith}
use Rattle.std.specs.Prelude.{unwrap_or}
use Rattle.std.specs.List.{cons_option}
use Rattle.std.proofs.lemmas.List.{append-nil, reverse-append, length-append}
use Rattle.std.proofs.lemmas.List.Elements.{filter_map-append}
use Rattle.std.proofs.lemmas.List.Sums.{sum_by-append}
use Rattle.rdf_types.specs.declared.records.Node.{Node}
use Rattle.rdf_types.specs.declared.records.Node.TheVariants.{B, C}
use Rattle.plan_lang.specs.declared.lines.Line.{Line}
use Rattle.rdf_core.specs.PartLaws.{counted_more}
use Rattle.rdf_core.specs.declared.replies.Reply.{Reply}
use Rattle.load_summary.specs.declared.lists.Listed.{Listed}
use Rattle.load_summary.specs.declared.summary.Counts.{Counts}
use Rattle.load_summary.specs.declared.summary.Taken.{Taken}
use Rattle.load_summary.specs.declared.tally.Tally.{Tally}
use Rattle.rdf_core.specs.Agreement.{takeover_ok}
use Rattle.rdf_core.specs.Effects.{count_u64}
use Rattle.load_summary.specs.Summary.{Step, counts_of, taken_of, rows_in, lists_of, list_in, latest}
use Rattle.load_summary.specs.Tallies.{Tallies}

-- the last number, once there may be one more
last_more : (numbers : List ℕ) (o : Option ℕ) → latest (numbers ++ cons_option o []) ≡ unwrap_or o (latest numbers)
last_more numbers None = ap latest (append-nil numbers)
last_more numbers (Some n) = ap (λ l. get_or l 0 0) (reverse-append numbers (n ∷ []))

-- the last takeover, with one line more
taken_more : (node : Node) (steps : List Step) (l : Line) (r : Reply) →
    latest (filter_map (λ s. takeover_ok node s.0 s.1) (steps ++ (l, r) ∷ [])) ≡ unwrap_or (takeover_ok node l r) (latest (filter_map (λ s. takeover_ok node s.0 s.1) steps))
taken_more node steps l r =
    ap latest (filter_map-append (λ s. takeover_ok node s.0 s.1) steps ((l, r) ∷ []))
    ∙ last_more (filter_map (λ s. takeover_ok node s.0 s.1) steps) (takeover_ok node l r)

-- the rows of lists, with one line more
rows_more : (node : Node) (steps : List Step) (l : Line) (r : Reply) →
    count_u64 (sum_by (λ s. rows_in node s.0 s.1) (steps ++ (l, r) ∷ [])) ≡ count_u64 (count_u64 (sum_by (λ s. rows_in node s.0 s.1) steps) + rows_in node l r)
rows_more node steps l r =
    ap count_u64 (sum_by-append (λ s. rows_in node s.0 s.1) steps ((l, r) ∷ []))
    ∙ ap (λ n. count_u64 (sum_by (λ s. rows_in node s.0 s.1) steps + n)) (zero-add (rows_in node l r))
    ∙ sym (counted_more (sum_by (λ s. rows_in node s.0 s.1) steps) (rows_in node l r))

-- what a backup took over and listed, with one line more
pub taken_with : (node : Node) (old : Taken) (l : Line) (r : Reply) (upto rows : ℕ) → upto ≡ unwrap_or (takeover_ok node l r) old.upto → rows ≡ count_u64 (old.rows + rows_in node l r) →
    (steps : List Step) → old ≡ taken_of node steps → record { upto = upto; rows = rows } ≡ taken_of node (steps ++ (l, r) ∷ [])
taken_with node old l r upto rows taken listed steps h =
    let make : ℕ → ℕ → Taken = λ u n. record { upto = u; rows = n } in
    let new = taken_of node (steps ++ (l, r) ∷ []) in
    let a : upto ≡ new.upto = taken ∙ ap (λ (t : Taken). unwrap_or (takeover_ok node l r) t.upto) h ∙ sym (taken_more node steps l r) in
    let b : rows ≡ new.rows = listed ∙ ap (λ (t : Taken). count_u64 (t.rows + rows_in node l r)) h ∙ sym (rows_more node steps l r) in
    ap (λ u. make u rows) a ∙ ap (make new.upto) b

zip_more : (lines : List Line) (replies : List Reply) (l : Line) (r : Reply) → length lines ≡ length replies →
    zip (lines ++ l ∷ []) (replies ++ r ∷ []) ≡ zip lines replies ++ (l, r) ∷ []
zip_more [] [] l r e = refl
zip_more [] (s ∷ replies) l r e = let both : 0 ≡ suc (length replies) = e in absurd (omega arith)
zip_more (k ∷ lines) [] l r e = let both : suc (length lines) ≡ 0 = e in absurd (omega arith)
zip_more (k ∷ lines) (s ∷ replies) l r e =
    let both : suc (length lines) ≡ suc (length replies) = e in
    let shorter : length lines ≡ length replies = omega arith in
    ap (λ steps. (k, s) ∷ steps) (zip_more lines replies l r shorter)

more_answered : (lines : List Line) (replies : List Reply) (l : Line) (r : Reply) → length lines ≡ length replies →
    length (lines ++ l ∷ []) ≡ length (replies ++ r ∷ [])
more_answered lines replies l r e = length-append lines (l ∷ []) ∙ ap (λ n. n + 1) e ∙ sym (length-append replies (r ∷ []))

-- one more line is noted
pub noted : (old : Tally) (l : Line) (r : Reply) (counts : Counts) (b c : Taken) (lists : List Listed) →
    ((replies : List Reply) → old.counts ≡ counts_of replies → counts ≡ counts_of (replies ++ r ∷ [])) →
    ((steps : List Step) → old.b ≡ taken_of B steps → b ≡ taken_of B (steps ++ (l, r) ∷ [])) →
    ((steps : List Step) → old.c ≡ taken_of C steps → c ≡ taken_of C (steps ++ (l, r) ∷ [])) →
    lists ≡ old.lists ++ lists_of ((l, r) ∷ []) →
    (lines : List Line) (replies : List Reply) → Tallies lines replies old →
    Tallies (lines ++ l ∷ []) (replies ++ r ∷ []) (record { counts = counts; b = b; c = c; lists = lists })
noted old l r counts b c lists counted_on b_on c_on listed lines replies h =
    let more = zip_more lines replies l r h.answered in
    record {
      answered = more_answered lines replies l r h.answered;
      counts = counted_on replies h.counts;
      b = b_on (zip lines replies) h.b ∙ ap (taken_of B) (sym more);
      c = c_on (zip lines replies) h.c ∙ ap (taken_of C) (sym more);
      lists =
          listed
          ∙ ap (λ before. before ++ lists_of ((l, r) ∷ [])) h.lists
          ∙ sym (filter_map-append (λ s. list_in s.0 s.1) (zip lines replies) ((l, r) ∷ []))
          ∙ ap lists_of (sym more);
    }
