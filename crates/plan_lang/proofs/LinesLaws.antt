-- The lines of a plan: what is read is allowed where it stands and written so, and what is written is read as these lines.
use Rattle.std.proofs.Common.{◌≡◌, ℕ, ◌+◌, Bool, true, false, cond, ◌==◌, List, [], ◌∷◌, length, map, Option, Some, None, Result, Ok, Err, refl, sym, ap, subst, ◌∙◌}
use Rattle.std.specs.List.{AllByRecursion}
use Rattle.rdf_types.specs.declared.records.Node.{Node}
use Rattle.plan_lang.specs.declared.lines.Line.{Line}
use Rattle.plan_lang.specs.declared.why.PlanWhy.{PlanWhy}
use Rattle.plan_lang.specs.declared.why.PlanWhy.TheVariants.{SessionOpen, NotInSession}
use Rattle.plan_lang.specs.declared.why.BadLine.{BadLine}
use Rattle.plan_lang.specs.Verbs.{verb_text, verb_of}
use Rattle.plan_lang.specs.LineText.{word_text, arguments, line_words, IsLine}
use Rattle.plan_lang.specs.Sessions.{goes_in, goes_outside, fits_session, session_after, KeepSessions}
use Rattle.plan_lang.specs.LineReading.{◌>>=◌, is_known, line_in}
use Rattle.plan_lang.specs.PlanReading.{placed, placed_or}
use Rattle.plan_lang.specs.Words.{words_of}
use Rattle.plan_lang.specs.Grammar.{checked, since_after, ended, fault_at, lines_from}
use Rattle.plan_lang.specs.Written.{worded}
use Rattle.plan_lang.proofs.WordReading.{bind_ok}
use Rattle.plan_lang.proofs.LineTaken.{IsFrom, line_takes}
use Rattle.plan_lang.proofs.LineAgain.{line_again}
use Rattle.plan_lang.proofs.NextLaws.{ok_same, some_test}
use Rattle.plan_lang.proofs.WordedLines.{Stand, end_stands, in_front, stand_more, stand_less}
use Rattle.plan_lang.proofs.Shown.{AreShown, line_shown}

-- ---- where a line may stand

placed_takes : (of : Option Node) (l k : Line) → placed of l ≡ Ok k → (l ≡ k) × (fits_session of l ≡ true)
placed_takes None l k e =
    elim (goes_outside l) as (λ b. cond b (Ok l) (Err NotInSession) ≡ Ok k → (l ≡ k) × (b ≡ true)) [
      | true ↦ λ q. (cc, refl)
      | false ↦ λ q. absurd cc
    ] e
placed_takes (Some of) l k e =
    elim (goes_in of l) as (λ b. cond b (Ok l) (Err SessionOpen) ≡ Ok k → (l ≡ k) × (b ≡ true)) [
      | true ↦ λ q. (cc, refl)
      | false ↦ λ q. absurd cc
    ] e

placed_again : (of : Option Node) (l : Line) → fits_session of l ≡ true → placed of l ≡ Ok l
placed_again None l h = ap (λ b. cond b (Ok l) (Err NotInSession)) h
placed_again (Some of) l h = ap (λ b. cond b (Ok l) (Err SessionOpen)) h

placed_or-takes : (of : Option Node) (r : Result Line PlanWhy) (k : Line) → placed_or of r ≡ Ok k → (r ≡ Ok k) × (fits_session of k ≡ true)
placed_or-takes of (Err e) k q = absurd cc
placed_or-takes of (Ok l) k q = let p = placed_takes of l k q in (ap (λ m. Ok m) p.0, subst (λ m. fits_session of m ≡ true) p.0 p.1)

fault_at-takes : (n : ℕ) (r : Result Line PlanWhy) (l : Line) → fault_at n r ≡ Ok l → r ≡ Ok l
fault_at-takes n (Ok k) l e = ap (λ m. Ok m) (ok_same k l e)
fault_at-takes n (Err why) l e = absurd cc

-- ---- what is read

pub record AreLines (fuses : Bool) (n backups : ℕ) (of : Option Node) (texts : List (List ℕ)) (lines : List Line) : Type 0 where
  pub fit : AllByRecursion (IsLine backups) lines
  pub known : AllByRecursion (λ l. is_known fuses (verb_of l) ≡ true) lines
  pub sessions : KeepSessions of lines
  pub stand : Stand n texts (map line_words lines)

ended_takes : (fuses : Bool) (n backups : ℕ) (of : Option Node) (since : ℕ) (lines : List Line) → ended of since ≡ Ok lines → AreLines fuses n backups of [] lines
ended_takes fuses n backups None since lines e = subst (AreLines fuses n backups None []) (ok_same [] lines e) (record { fit = tt; known = tt; sessions = refl; stand = end_stands n })
ended_takes fuses n backups (Some of) since lines e = absurd cc

-- behind a line without words
earlier : (fuses : Bool) (n backups : ℕ) (of : Option Node) (text : List ℕ) (texts : List (List ℕ)) (lines : List Line) → checked n text ≡ Ok [] → AreLines fuses (n + 1) backups of texts lines → AreLines fuses n backups of (text ∷ texts) lines
earlier fuses n backups of text texts lines h are = record { fit = are.fit; known = are.known; sessions = are.sessions; stand = stand_more n text texts [] (map line_words lines) h are.stand }

one_more : (fuses : Bool) (n backups : ℕ) (of : Option Node) (text : List ℕ) (texts words : List (List ℕ)) (l : Line) (lines : List Line) → checked n text ≡ Ok words → IsFrom fuses backups words l → fits_session of l ≡ true
    → AreLines fuses (n + 1) backups (session_after of l) texts lines → AreLines fuses n backups of (text ∷ texts) (l ∷ lines)
one_more fuses n backups of text texts words l lines h is fits are = record {
  fit = (is.fits, are.fit);
  known = (is.known, are.known);
  sessions = (fits, are.sessions);
  stand = stand_more n text texts (line_words l) (map line_words lines) (h ∙ ap (λ v. Ok v) is.parts) are.stand;
}

-- what is read of a line of these words and the lines behind it
abbrev read_on : Bool → ℕ → Option Node → ℕ → ℕ → List (List ℕ) → List (List ℕ) → Result (List Line) BadLine
read_on fuses backups of since n texts words =
    cond (length words == 0) (lines_from fuses backups of since (n + 1) texts)
    (fault_at n (placed_or of (line_in fuses backups words)) >>= λ l. lines_from fuses backups (session_after of l) (since_after n since l) (n + 1) texts >>= λ others. Ok (l ∷ others))

line_taken : (fuses : Bool) (backups : ℕ) (of : Option Node) (since n : ℕ) (text : List ℕ) (texts : List (List ℕ)) (lines : List Line) (words : List (List ℕ)) → checked n text ≡ Ok words
    → ((of : Option Node) (since : ℕ) (lines : List Line) → lines_from fuses backups of since (n + 1) texts ≡ Ok lines → AreLines fuses (n + 1) backups of texts lines)
    → read_on fuses backups of since n texts words ≡ Ok lines → AreLines fuses n backups of (text ∷ texts) lines
line_taken fuses backups of since n text texts lines [] h later e = earlier fuses n backups of text texts lines h (later of since lines e)
line_taken fuses backups of since n text texts lines (w ∷ ws) h later e =
    let read = fault_at n (placed_or of (line_in fuses backups (w ∷ ws))) >>= λ l. lines_from fuses backups (session_after of l) (since_after n since l) (n + 1) texts >>= λ others. Ok (l ∷ others) in
    let q : read ≡ Ok lines = ap (λ b. cond b (lines_from fuses backups of since (n + 1) texts) read) (sym (some_test w ws)) ∙ e in
    let l = bind_ok (fault_at n (placed_or of (line_in fuses backups (w ∷ ws)))) _ lines q in
    let others = bind_ok (lines_from fuses backups (session_after of l.0) (since_after n since l.0) (n + 1) texts) _ lines l.2 in
    let p = placed_or-takes of (line_in fuses backups (w ∷ ws)) l.0 (fault_at-takes n (placed_or of (line_in fuses backups (w ∷ ws))) l.0 l.1) in
    subst (AreLines fuses n backups of (text ∷ texts)) (ok_same (l.0 ∷ others.0) lines others.2)
    (one_more fuses n backups of text texts (w ∷ ws) l.0 others.0 h (line_takes fuses backups (w ∷ ws) l.0 p.0) p.1 (later (session_after of l.0) (since_after n since l.0) others.0 others.1))

pub lines_take : (fuses : Bool) (backups : ℕ) (of : Option Node) (since n : ℕ) (texts : List (List ℕ)) (lines : List Line) → lines_from fuses backups of since n texts ≡ Ok lines → AreLines fuses n backups of texts lines
unfolding lines_from
lines_take fuses backups of since n [] lines e = ended_takes fuses n backups of since lines e
lines_take fuses backups of since n (text ∷ texts) lines e =
    let c = bind_ok (checked n text) _ lines e in
    line_taken fuses backups of since n text texts lines c.0 c.1 (λ of since lines q. lines_take fuses backups of since (n + 1) texts lines q) c.2

-- ---- what is written

-- the line of a text is read again
text_again : (fuses : Bool) (backups n : ℕ) (of : Option Node) (l : Line) → is_known fuses (verb_of l) ≡ true → IsLine backups l → fits_session of l ≡ true → fault_at n (placed_or of (line_in fuses backups (line_words l))) ≡ Ok l
text_again fuses backups n of l known h fits = ap (λ r. fault_at n (placed_or of r)) (line_again fuses backups l known h) ∙ ap (fault_at n) (placed_again of l fits)

written_on : (fuses : Bool) (backups : ℕ) (of : Option Node) (since n : ℕ) (texts : List (List ℕ)) (lines : List Line) (words : List (List ℕ)) → Stand (n + 1) texts (worded texts) → in_front words (worded texts) ≡ map line_words lines
    → ((of : Option Node) (since : ℕ) (lines : List Line) → Stand (n + 1) texts (map line_words lines) → AllByRecursion (λ l. is_known fuses (verb_of l) ≡ true) lines → AllByRecursion (IsLine backups) lines → KeepSessions of lines
    → lines_from fuses backups of since (n + 1) texts ≡ Ok lines)
    → AllByRecursion (λ l. is_known fuses (verb_of l) ≡ true) lines → AllByRecursion (IsLine backups) lines → KeepSessions of lines → read_on fuses backups of since n texts words ≡ Ok lines
written_on fuses backups of since n texts lines [] at e later known fit sessions = later of since lines (subst (Stand (n + 1) texts) e at) known fit sessions
written_on fuses backups of since n texts [] (w ∷ ws) at e later known fit sessions = absurd cc
written_on fuses backups of since n texts (l ∷ lines) (w ∷ ws) at e later known fit sessions =
    let first : w ∷ ws ≡ line_words l = cc in
    let rest : worded texts ≡ map line_words lines = cc in
    ap (read_on fuses backups of since n texts) first
    ∙ rw (
      some_test (verb_text (verb_of l)) (map word_text (arguments l)),
      text_again fuses backups n of l known.0 fit.0 sessions.0,
      later (session_after of l) (since_after n since l) lines (subst (Stand (n + 1) texts) rest at) known.1 fit.1 sessions.1,
    ) refl

pub lines_again : (fuses : Bool) (backups : ℕ) (of : Option Node) (since n : ℕ) (texts : List (List ℕ)) (lines : List Line) → Stand n texts (map line_words lines) → AllByRecursion (λ l. is_known fuses (verb_of l) ≡ true) lines
    → AllByRecursion (IsLine backups) lines → KeepSessions of lines → lines_from fuses backups of since n texts ≡ Ok lines
unfolding lines_from
lines_again fuses backups of since n [] [] at known fit sessions = ap (λ o. ended o since) sessions
lines_again fuses backups of since n [] (l ∷ lines) at known fit sessions = absurd (let no : [] ≡ line_words l ∷ map line_words lines = at.words in cc)
lines_again fuses backups of since n (text ∷ texts) lines at known fit sessions =
    let t = stand_less n text texts (map line_words lines) at in
    rw t.0 (written_on fuses backups of since n texts lines (words_of text) t.1 at.words (λ of since lines. lines_again fuses backups of since (n + 1) texts lines) known fit sessions)

-- each of them may be printed
pub lines_shown : (backups : ℕ) (lines : List Line) → AllByRecursion (IsLine backups) lines → AllByRecursion AreShown (map line_words lines)
lines_shown backups [] fit = tt
lines_shown backups (l ∷ lines) fit = (line_shown backups l fit.0, lines_shown backups lines fit.1)
