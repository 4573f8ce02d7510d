-- No space and no end of line stands in a word of a line.
use Rattle.std.proofs.Common.{◌≡◌, ◌≢◌, ℕ, ◌≤◌, ◌<◌, ◌^◌, Bool, true, false, nat_le, List, [], ◌∷◌, ◌++◌, map, Some, None, refl, sym, ap, ◌∙◌, cond, arith}
use Rattle.std.specs.Option.{option_map}
use Rattle.std.specs.List.{AllByRecursion, list_all}
use Rattle.std.proofs.lemmas.Bool.{true≢false, and_parts, ne_eqb}
use Rattle.std.proofs.lemmas.Bool.Decides.{nat_tests}
use Rattle.std.proofs.lemmas.List.Elements.{recursion_from_All}
use Rattle.std.proofs.lemmas.List.Sums.{AllPass-from_list_all, list_all-from_AllPass}
use Rattle.rdf_types.specs.Limits.{is_name_byte, is_text_byte}
use Rattle.rdf_types.specs.declared.records.Node.{Node}
use Rattle.rdf_types.specs.declared.records.Node.TheVariants.{A, B, C}
use Rattle.rdf_disk.specs.declared.fault.Tear.{Tear}
use Rattle.rdf_disk.specs.declared.fault.Tear.TheVariants as tear
use Rattle.plan_lang.specs.declared.lines.Line.{Line}
use Rattle.plan_lang.specs.declared.lines.Line.TheVariants as line
use Rattle.plan_lang.specs.declared.verbs.Verb.{Verb}
use Rattle.plan_lang.specs.declared.verbs.Verb.TheVariants as verb
use Rattle.plan_lang.specs.Words.{word_at, with_byte, IsWithout, spaced, is_word, words_in}
use Rattle.plan_lang.specs.Verbs.{verb_text, verb_of}
use Rattle.rdf_types.specs.Saying.{node_text}
use Rattle.plan_lang.specs.LineText.{Word, Number, File, Key, Value, Backup, AnyNode, Other, TearWord, word_text, tear_text, arguments, FitsWord, line_words, IsLine}
use Rattle.plan_lang.proofs.WordLaws.{word_again}
use Rattle.plan_lang.proofs.PieceLaws.{words_found, words_last}
use Rattle.plan_lang.specs.GraphicLaws.{IsGraphic, decimal_graphic, wider}

-- there is some byte in the word
abbrev pub IsWord : List ℕ → Type 0
IsWord word = is_word word ≡ true

seen_name : (b : ℕ) → is_name_byte b ≡ true → is_text_byte b ≡ true
seen_name b e = grind (arith, nat_tests)

-- the number of a word has at most 32 bits
abbrev pub is_small : Word → Bool
is_small (Number from to n) = nat_le to 4294967295
is_small _ = true

node_graphic : (node : Node) → IsGraphic (node_text node)
node_graphic A = refl
node_graphic B = refl
node_graphic C = refl

tear_graphic : (t : Tear) → IsGraphic (tear_text t)
tear_graphic tear.Lose = refl
tear_graphic tear.Keep = refl
tear_graphic tear.Mix = refl

pub small_bound : (to n : ℕ) → nat_le to 4294967295 ≡ true → n ≤ to → n < 2 ^ 32
small_bound to n e h = grind (arith, nat_tests)

word_graphic : (backups : ℕ) (w : Word) → is_small w ≡ true → FitsWord backups w → IsGraphic (word_text w)
word_graphic backups (Number from to n) small h = decimal_graphic n (small_bound to n small h.1)
word_graphic backups (File name) small h = wider is_name_byte is_text_byte seen_name name (list_all-from_AllPass is_name_byte name h.all)
word_graphic backups (Key key) small h = list_all-from_AllPass is_text_byte key h.all
word_graphic backups (Value value) small h = list_all-from_AllPass is_text_byte value h.all
word_graphic backups (Backup node) small h = node_graphic node
word_graphic backups (AnyNode node) small h = node_graphic node
word_graphic backups (Other than node) small h = node_graphic node
word_graphic backups (TearWord t) small h = tear_graphic t

verb_graphic : (v : Verb) → IsGraphic (verb_text v)
verb_graphic verb.Begin = refl
verb_graphic verb.Insert = refl
verb_graphic verb.Update = refl
verb_graphic verb.Delete = refl
verb_graphic verb.Get = refl
verb_graphic verb.Commit = refl
verb_graphic verb.Abort = refl
verb_graphic verb.Send = refl
verb_graphic verb.Rewind = refl
verb_graphic verb.Ack = refl
verb_graphic verb.Deliver = refl
verb_graphic verb.Lose = refl
verb_graphic verb.Session = refl
verb_graphic verb.Read = refl
verb_graphic verb.Purge = refl
verb_graphic verb.End = refl
verb_graphic verb.Takeover = refl
verb_graphic verb.CopyAudit = refl
verb_graphic verb.List = refl
verb_graphic verb.Info = refl
verb_graphic verb.Status = refl
verb_graphic verb.Fuse = refl
verb_graphic verb.Cut = refl
verb_graphic verb.Restart = refl

pub args_small : (l : Line) → list_all is_small (arguments l) ≡ true
args_small (line.Begin t) = refl
args_small (line.Insert t k value) = refl
args_small (line.Update t k value) = refl
args_small (line.Delete t k) = refl
args_small (line.Get t k) = refl
args_small (line.Commit t) = refl
args_small (line.Abort t) = refl
args_small (line.Send node most) = refl
args_small (line.Rewind node) = refl
args_small (line.Ack node) = refl
args_small (line.Deliver node k) = refl
args_small line.Lose = refl
args_small (line.Session node) = refl
args_small (line.Read node k) = refl
args_small (line.Purge node) = refl
args_small line.End = refl
args_small (line.Takeover node) = refl
args_small (line.CopyAudit node from) = refl
args_small (line.List node vol) = refl
args_small (line.Info node) = refl
args_small (line.Status node) = refl
args_small (line.Fuse node disk calls t) = refl
args_small (line.Cut node) = refl
args_small (line.Restart node) = refl

args_graphic : (backups : ℕ) (ws : List Word) → list_all is_small ws ≡ true → AllByRecursion (FitsWord backups) ws → AllByRecursion IsGraphic (map word_text ws)
args_graphic backups [] small h = tt
args_graphic backups (w ∷ ws) small h = let t = and_parts (is_small w) (list_all is_small ws) small in (word_graphic backups w t.0 h.0, args_graphic backups ws t.1 h.1)

pub line_graphic : (backups : ℕ) (l : Line) → IsLine backups l → AllByRecursion IsGraphic (line_words l)
line_graphic backups l h = (verb_graphic (verb_of l), args_graphic backups (arguments l) (args_small l) h)

-- a byte that cannot be seen stands in no such word
pub graphic_without : (end : ℕ) (word : List ℕ) → is_text_byte end ≡ false → IsGraphic word → IsWithout end word
graphic_without end word bad h = recursion_from_All (λ b. b ≢ end) word (λ k d lt e. true≢false (sym (AllPass-from_list_all is_text_byte word h k d lt) ∙ ap is_text_byte e ∙ bad))

pub all_without : (end : ℕ) (words : List (List ℕ)) → is_text_byte end ≡ false → AllByRecursion IsGraphic words → AllByRecursion (IsWithout end) words
all_without end [] bad h = tt
all_without end (word ∷ words) bad h = (graphic_without end word bad h.0, all_without end words bad h.1)

without-append : (end : ℕ) (xs ys : List ℕ) → IsWithout end xs → IsWithout end ys → IsWithout end (xs ++ ys)
without-append end [] ys h k = k
without-append end (x ∷ xs) ys h k = (h.0, without-append end xs ys h.1 k)

pub spaced_without : (end : ℕ) (words : List (List ℕ)) → 32 ≢ end → AllByRecursion (IsWithout end) words → IsWithout end (spaced words)
spaced_without end [] ne h = tt
spaced_without end (word ∷ []) ne h = h.0
spaced_without end (word ∷ next ∷ words) ne h = without-append end word (32 ∷ spaced (next ∷ words)) h.0 (ne, spaced_without end (next ∷ words) ne h.1)

none_at : (end : ℕ) (bytes : List ℕ) → IsWithout end bytes → word_at end bytes ≡ None
none_at end [] h = refl
none_at end (b ∷ bytes) h = ap (λ t. cond t (Some ([], bytes)) (option_map (with_byte b) (word_at end bytes))) (ne_eqb b end h.0) ∙ ap (option_map (with_byte b)) (none_at end bytes h.1)

-- words with a space between them are these words
pub split_again : (word : List ℕ) (words : List (List ℕ)) → AllByRecursion (IsWithout 32) (word ∷ words) → AllByRecursion IsWord (word ∷ words) → words_in (spaced (word ∷ words)) ≡ word ∷ words
split_again word [] h some = words_last word (sym (none_at 32 word h.0)) some.0
split_again word (next ∷ words) h some =
    words_found (word ++ 32 ∷ spaced (next ∷ words)) word (spaced (next ∷ words)) (sym (word_again 32 word (spaced (next ∷ words)) h.0)) some.0 ∙ ap (λ t. word ∷ t) (split_again next words h.1 some.1)
