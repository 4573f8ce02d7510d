-- Lines of words that may be printed have these words.
use Rattle.std.proofs.Common.{◌≡◌, ℕ, ◌<◌, ◌^◌, true, false, cond, List, [], ◌∷◌, ◌++◌, length, map, Some, refl, ap, ◌∙◌, arith}
use Rattle.std.specs.Prelude.{decimal}
use Rattle.std.specs.List.{AllByRecursion, list_all}
use Rattle.std.proofs.lemmas.Bool.{and_parts, and_from}
use Rattle.std.proofs.lemmas.Bool.Decides.{nat_tests}
use Rattle.rdf_types.specs.Limits.{is_text_byte}
use Rattle.rdf_types.specs.declared.records.Node.{Node}
use Rattle.rdf_types.specs.declared.records.Node.TheVariants.{A, B, C}
use Rattle.rdf_disk.specs.declared.fault.Tear.{Tear}
use Rattle.rdf_disk.specs.declared.fault.Tear.TheVariants as tear
use Rattle.plan_lang.specs.declared.lines.Line.{Line}
use Rattle.plan_lang.specs.declared.verbs.Verb.{Verb}
use Rattle.plan_lang.specs.declared.verbs.Verb.TheVariants as verb
use Rattle.plan_lang.specs.Words.{spaced, IsWithout, is_remark, words_of}
use Rattle.plan_lang.specs.Numbers.{number_in}
use Rattle.plan_lang.specs.Verbs.{verb_text, verb_of}
use Rattle.rdf_types.specs.Saying.{node_text}
use Rattle.plan_lang.specs.LineText.{Word, Number, File, Key, Value, Backup, AnyNode, Other, TearWord, word_text, tear_text, arguments, FitsWord, IsLine, is_printed}
use Rattle.plan_lang.specs.Written.{has_words, worded}
use Rattle.plan_lang.proofs.NumberLaws.{number_again}
use Rattle.plan_lang.proofs.Graphic.{IsWord, is_small, args_small, small_bound, line_graphic, all_without, spaced_without, split_again}
use Rattle.plan_lang.specs.GraphicLaws.{IsGraphic}

seen : (b : ℕ) → is_text_byte b ≡ true → is_printed b ≡ true
seen b e = grind (arith, nat_tests)

seen_word : (word rest : List ℕ) → IsGraphic word → list_all is_printed rest ≡ true → list_all is_printed (word ++ rest) ≡ true
seen_word [] rest h k = k
seen_word (b ∷ word) rest h k = let t = and_parts (is_text_byte b) (list_all is_text_byte word) h in and_from (is_printed b) (list_all is_printed (word ++ rest)) (seen b t.0) (seen_word word rest t.1 k)

seen_alone : (word : List ℕ) → IsGraphic word → list_all is_printed word ≡ true
seen_alone [] h = refl
seen_alone (b ∷ word) h = let t = and_parts (is_text_byte b) (list_all is_text_byte word) h in and_from (is_printed b) (list_all is_printed word) (seen b t.0) (seen_alone word t.1)

pub seen_words : (words : List (List ℕ)) → AllByRecursion IsGraphic words → list_all is_printed (spaced words) ≡ true
seen_words [] h = refl
seen_words (word ∷ []) h = seen_alone word h.0
seen_words (word ∷ next ∷ words) h = seen_word word (32 ∷ spaced (next ∷ words)) h.0 (seen_words (next ∷ words) h.1)

-- words that may stand in a line, which begins with the first
pub record AreWords (word : List ℕ) (words : List (List ℕ)) : Type 0 where
  pub graphic : AllByRecursion IsGraphic (word ∷ words)
  pub some : AllByRecursion IsWord (word ∷ words)
  pub no_remark : is_remark word ≡ false

remark_first : (word : List ℕ) (words : List (List ℕ)) → IsWord word → is_remark (spaced (word ∷ words)) ≡ is_remark word
remark_first [] words h = absurd cc
remark_first (b ∷ word) [] h = refl
remark_first (b ∷ word) (next ∷ words) h = refl

words_again : (word : List ℕ) (words : List (List ℕ)) → AreWords word words → words_of (spaced (word ∷ words)) ≡ word ∷ words
words_again word words are = rw (remark_first word words are.some.0 ∙ are.no_remark, split_again word words (all_without 32 (word ∷ words) refl are.graphic) are.some) refl

-- the words of a line that may be printed
abbrev pub AreShown : List (List ℕ) → Type 0
AreShown [] = ⊥
AreShown (word ∷ words) = AreWords word words

-- such lines end where they are said to
pub shown_end : (lines : List (List (List ℕ))) → AllByRecursion AreShown lines → AllByRecursion (λ words. IsWithout 10 (spaced words)) lines
shown_end [] h = tt
shown_end ([] ∷ lines) h = absurd h.0
shown_end ((word ∷ words) ∷ lines) h = (spaced_without 10 (word ∷ words) (λ e. absurd (omega arith)) (all_without 10 (word ∷ words) refl h.0.graphic), shown_end lines h.1)

-- each byte of them can be printed
pub shown_printed : (lines : List (List (List ℕ))) → AllByRecursion AreShown lines → list_all (list_all is_printed) (map spaced lines) ≡ true
shown_printed [] h = refl
shown_printed ([] ∷ lines) h = absurd h.0
shown_printed ((word ∷ words) ∷ lines) h = and_from (list_all is_printed (spaced (word ∷ words))) (list_all (list_all is_printed) (map spaced lines)) (seen_words (word ∷ words) h.0.graphic) (shown_printed lines h.1)

-- and they have these words
pub shown_worded : (lines : List (List (List ℕ))) → AllByRecursion AreShown lines → worded (map spaced lines) ≡ lines
shown_worded [] h = refl
shown_worded ([] ∷ lines) h = absurd h.0
shown_worded ((word ∷ words) ∷ lines) h =
    ap (λ ws. cond (has_words ws) (ws ∷ worded (map spaced lines)) (worded (map spaced lines))) (words_again word words h.0) ∙ ap (λ (ls : List (List (List ℕ))). (word ∷ words) ∷ ls) (shown_worded lines h.1)

-- ---- the words of a line

numeral_some : (word : List ℕ) (n : ℕ) → number_in word ≡ Some n → IsWord word
numeral_some [] n e = absurd cc
numeral_some (b ∷ word) n e = refl

pub decimal_some : (n : ℕ) → n < 2 ^ 32 → IsWord (decimal n)
decimal_some n lt = numeral_some (decimal n) n (number_again n lt)

text_some : (word : List ℕ) → 0 < length word → IsWord word
text_some [] h = absurd (omega arith)
text_some (b ∷ word) h = refl

node_some : (node : Node) → IsWord (node_text node)
node_some A = refl
node_some B = refl
node_some C = refl

tear_some : (t : Tear) → IsWord (tear_text t)
tear_some tear.Lose = refl
tear_some tear.Keep = refl
tear_some tear.Mix = refl

word_some : (backups : ℕ) (w : Word) → is_small w ≡ true → FitsWord backups w → IsWord (word_text w)
word_some backups (Number from to n) small h = decimal_some n (small_bound to n small h.1)
word_some backups (File name) small h = text_some name h.some
word_some backups (Key key) small h = text_some key h.some
word_some backups (Value value) small h = text_some value h.some
word_some backups (Backup node) small h = node_some node
word_some backups (AnyNode node) small h = node_some node
word_some backups (Other than node) small h = node_some node
word_some backups (TearWord t) small h = tear_some t

verb_some : (v : Verb) → IsWord (verb_text v)
verb_some verb.Begin = refl
verb_some verb.Insert = refl
verb_some verb.Update = refl
verb_some verb.Delete = refl
verb_some verb.Get = refl
verb_some verb.Commit = refl
verb_some verb.Abort = refl
verb_some verb.Send = refl
verb_some verb.Rewind = refl
verb_some verb.Ack = refl
verb_some verb.Deliver = refl
verb_some verb.Lose = refl
verb_some verb.Session = refl
verb_some verb.Read = refl
verb_some verb.Purge = refl
verb_some verb.End = refl
verb_some verb.Takeover = refl
verb_some verb.CopyAudit = refl
verb_some verb.List = refl
verb_some verb.Info = refl
verb_some verb.Status = refl
verb_some verb.Fuse = refl
verb_some verb.Cut = refl
verb_some verb.Restart = refl

verb_no_remark : (v : Verb) → is_remark (verb_text v) ≡ false
verb_no_remark verb.Begin = refl
verb_no_remark verb.Insert = refl
verb_no_remark verb.Update = refl
verb_no_remark verb.Delete = refl
verb_no_remark verb.Get = refl
verb_no_remark verb.Commit = refl
verb_no_remark verb.Abort = refl
verb_no_remark verb.Send = refl
verb_no_remark verb.Rewind = refl
verb_no_remark verb.Ack = refl
verb_no_remark verb.Deliver = refl
verb_no_remark verb.Lose = refl
verb_no_remark verb.Session = refl
verb_no_remark verb.Read = refl
verb_no_remark verb.Purge = refl
verb_no_remark verb.End = refl
verb_no_remark verb.Takeover = refl
verb_no_remark verb.CopyAudit = refl
verb_no_remark verb.List = refl
verb_no_remark verb.Info = refl
verb_no_remark verb.Status = refl
verb_no_remark verb.Fuse = refl
verb_no_remark verb.Cut = refl
verb_no_remark verb.Restart = refl

args_some : (backups : ℕ) (ws : List Word) → list_all is_small ws ≡ true → AllByRecursion (FitsWord backups) ws → AllByRecursion IsWord (map word_text ws)
args_some backups [] small h = tt
args_some backups (w ∷ ws) small h = let t = and_parts (is_small w) (list_all is_small ws) small in (word_some backups w t.0 h.0, args_some backups ws t.1 h.1)

pub line_shown : (backups : ℕ) (l : Line) → IsLine backups l → AreWords (verb_text (verb_of l)) (map word_text (arguments l))
line_shown backups l h = record {
  graphic = line_graphic backups l h;
  some = (verb_some (verb_of l), args_some backups (arguments l) (args_small l) h);
  no_remark = verb_no_remark (verb_of l);
}
