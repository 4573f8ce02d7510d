-- Reading lines one after the other, as a loop does.
use Rattle.std.proofs.Common.{◌≡◌, ℕ, ◌+◌, Bool, true, false, cond, ◌==◌, List, [], ◌∷◌, ◌++◌, length, Option, Result, Ok, Err, IfOk, IsOkAnd, refl, sym, ap, subst, ◌∙◌, append_assoc}
use Rattle.std.proofs.lemmas.List.{append-nil}
use Rattle.rdf_types.specs.declared.records.Node.{Node}
use Rattle.plan_lang.specs.declared.lines.Line.{Line}
use Rattle.plan_lang.specs.declared.why.BadLine.{BadLine}
use Rattle.plan_lang.specs.Sessions.{session_after}
use Rattle.plan_lang.specs.LineReading.{◌>>=◌, line_in}
use Rattle.plan_lang.specs.PlanReading.{placed_or}
use Rattle.plan_lang.specs.Grammar.{checked, Next, next_line, since_after, ended, fault_at, lines_from}

abbrev Lines : Type 0
Lines = Result (List Line) BadLine

-- ---- the next line of those that are read

-- what the next line makes of the rest, where it has words
abbrev lines_at : Bool → ℕ → Option Node → ℕ → Next → Result (List Line) BadLine
lines_at fuses backups of since x =
    fault_at x.number (placed_or of (line_in fuses backups x.words)) >>= λ l. lines_from fuses backups (session_after of l) (since_after x.number since l) x.after x.behind >>= λ others. Ok (l ∷ others)

-- and where it may be the end
abbrev lines_or_end : Bool → ℕ → Option Node → ℕ → Next → Result (List Line) BadLine
lines_or_end fuses backups of since x = cond (length x.words == 0) (ended of since) (lines_at fuses backups of since x)

abbrev found : ℕ → List (List ℕ) → List (List ℕ) → Next
found n lines words = record { number = n; words = words; after = n + 1; behind = lines }

by_words : (fuses : Bool) (backups : ℕ) (of : Option Node) (since n : ℕ) (lines : List (List ℕ)) → lines_from fuses backups of since (n + 1) lines ≡ (next_line (n + 1) lines >>= lines_or_end fuses backups of since) → (r : Result (List (List ℕ)) BadLine)
    → (r >>= λ words. cond (length words == 0) (lines_from fuses backups of since (n + 1) lines) (lines_at fuses backups of since (found n lines words)))
    ≡ ((r >>= λ words. cond (length words == 0) (next_line (n + 1) lines) (Ok (found n lines words))) >>= lines_or_end fuses backups of since)
by_words fuses backups of since n lines more (Err e) = refl
by_words fuses backups of since n lines more (Ok words) =
    elim (length words == 0) as (λ b. (length words == 0) ≡ b
    → cond b (lines_from fuses backups of since (n + 1) lines) (lines_at fuses backups of since (found n lines words)) ≡ (cond b (next_line (n + 1) lines) (Ok (found n lines words)) >>= lines_or_end fuses backups of since)) [
      | true ↦ λ t. more
      | false ↦ λ t. sym (ap (λ b. cond b (ended of since) (lines_at fuses backups of since (found n lines words))) t)
    ] refl

lines_next : (fuses : Bool) (backups : ℕ) (of : Option Node) (since n : ℕ) (lines : List (List ℕ)) → lines_from fuses backups of since n lines ≡ (next_line n lines >>= lines_or_end fuses backups of since)
unfolding lines_from next_line
lines_next fuses backups of since n [] = refl
lines_next fuses backups of since n (line ∷ lines) = by_words fuses backups of since n lines (lines_next fuses backups of since (n + 1) lines) (checked n line)

-- ---- the loop

-- what was read before, and what is still read
abbrev pub with_front : List Line → Result (List Line) BadLine → Result (List Line) BadLine
with_front front read = read >>= λ x. Ok (front ++ x)

-- the lines that were read, and what was made of them
pub record SoFar {E : Type 0} (total : Result (List Line) BadLine) (made : Result (List Line) E) (read : Result (List Line) BadLine) : Type 0 where
  pub front : List Line
  pub whole : with_front front read ≡ total
  pub kept : IfOk made (λ lines. lines ≡ front)

regroup : (front : List Line) (l : Line) (read : Lines) → with_front front (read >>= λ x. Ok (l ∷ x)) ≡ with_front (front ++ l ∷ []) read
regroup front l (Ok x) = ap (λ (ls : List Line). let r : Lines = Ok ls in r) (simp append_assoc)
regroup front l (Err e) = refl

begins : (read : Lines) → with_front [] read ≡ read
begins (Ok x) = refl
begins (Err e) = refl

pub starts : {E : Type 0} (read : Result (List Line) BadLine) → SoFar {E = E} read (Ok []) read
starts read = record { front = []; whole = begins read; kept = refl }

more_kept : {E : Type 0} (made more : Result (List Line) E) (front : List Line) (l : Line) → IfOk more (λ m. IsOkAnd made (λ before. m ≡ before ++ l ∷ [])) → IfOk made (λ lines. lines ≡ front) → IfOk more (λ lines. lines ≡ front ++ l ∷ [])
more_kept (Ok before) (Ok m) front l h k = h ∙ ap (λ (ls : List Line). ls ++ l ∷ []) k
more_kept made (Err e) front l h k = tt
more_kept (Err d) (Ok m) front l h k = absurd h

module _ {E : Type 0} (fuses : Bool) (backups : ℕ) (of : Option Node) (since n : ℕ) (lines : List (List ℕ)) (total : Result (List Line) BadLine) (made : Result (List Line) E) where
  -- a bad line ends it
  pub bad_next : (e : BadLine) → next_line n lines ≡ Err e → SoFar total made (lines_from fuses backups of since n lines) → total ≡ Err e
  bad_next e h so_far =
      let one : with_front so_far.front (lines_from fuses backups of since n lines) ≡ Err e = rw (lines_next fuses backups of since n lines, h) refl in
      sym so_far.whole ∙ one

  pub bad_line : (x : Next) (e : BadLine) → next_line n lines ≡ Ok x → (length x.words == 0) ≡ false → fault_at x.number (placed_or of (line_in fuses backups x.words)) ≡ Err e
      → SoFar total made (lines_from fuses backups of since n lines) → total ≡ Err e
  bad_line x e h some bad so_far =
      let one : with_front so_far.front (lines_from fuses backups of since n lines) ≡ Err e = rw (lines_next fuses backups of since n lines, h, some, bad) refl in
      sym so_far.whole ∙ one

  pub goes_on : (x : Next) (l : Line) (more : Result (List Line) E) → next_line n lines ≡ Ok x → (length x.words == 0) ≡ false → fault_at x.number (placed_or of (line_in fuses backups x.words)) ≡ Ok l
      → IfOk more (λ m. IsOkAnd made (λ before. m ≡ before ++ l ∷ [])) → SoFar total made (lines_from fuses backups of since n lines)
      → SoFar total more (lines_from fuses backups (session_after of l) (since_after x.number since l) x.after x.behind)
  goes_on x l more h some read makes so_far =
      let rest = lines_from fuses backups (session_after of l) (since_after x.number since l) x.after x.behind in
      let one : with_front so_far.front (lines_from fuses backups of since n lines) ≡ with_front (so_far.front ++ l ∷ []) rest = rw (lines_next fuses backups of since n lines, h, some, read) (regroup so_far.front l rest) in
      record { front = so_far.front ++ l ∷ []; whole = sym one ∙ so_far.whole; kept = more_kept made more so_far.front l makes so_far.kept }

  -- the end
  pub at_end : (x : Next) → next_line n lines ≡ Ok x → (length x.words == 0) ≡ true → SoFar total made (lines_from fuses backups of since n lines) → SoFar total made (ended of since)
  at_end x h none so_far =
      let one : lines_from fuses backups of since n lines ≡ ended of since = rw (lines_next fuses backups of since n lines, h, none) refl in
      record { front = so_far.front; whole = ap (with_front so_far.front) (sym one) ∙ so_far.whole; kept = so_far.kept }

pub not_ended : {E : Type 0} (of : Option Node) (since : ℕ) (e : BadLine) (total : Result (List Line) BadLine) (made : Result (List Line) E) → ended of since ≡ Err e → SoFar total made (ended of since) → total ≡ Err e
not_ended of since e total made h so_far = sym so_far.whole ∙ ap (with_front so_far.front) h

pub all_read : {E : Type 0} (of : Option Node) (since : ℕ) (total : Result (List Line) BadLine) (made : Result (List Line) E) → ended of since ≡ Ok [] → (so_far : SoFar total made (ended of since)) → total ≡ Ok so_far.front
all_read of since total made h so_far = sym so_far.whole ∙ ap (with_front so_far.front) h ∙ ap (λ (ls : List Line). let r : Lines = Ok ls in r) (append-nil so_far.front)

-- what was made of all lines is what is read
pub finished : {E : Type 0} (of : Option Node) (since : ℕ) (total : Result (List Line) BadLine) (made : Result (List Line) E) (lines : List Line) → ended of since ≡ Ok [] → made ≡ Ok lines → SoFar total made (ended of since) → total ≡ Ok lines
finished {E = E} of since total made lines h is so_far =
    let kept : lines ≡ so_far.front = subst (λ (m : Result (List Line) E). IfOk m (λ ls. ls ≡ so_far.front)) is so_far.kept in
    all_read of since total made h so_far ∙ ap (λ (ls : List Line). let r : Lines = Ok ls in r) (sym kept)
