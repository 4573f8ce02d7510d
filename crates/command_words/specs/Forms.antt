-- The lists of words that the program takes, and what each asks for.
use Rattle.std.specs.Prelude.{◌≡◌, ℕ, ◌≤◌, ◌==◌, Bool, true, not, ◌&&◌, nat_eq, nat_lt, nat_le, List, [], ◌∷◌, length, slice_index, string_bytes, codes, is_some, Option, Some, None, Result, Ok, Err, if◌then◌else◌}
use Rattle.std.specs.Cmp.Lexicographic.{pointwise}
use Rattle.plan_lang.specs.Numbers.{number_in}
use Rattle.command_words.specs.declared.words.Words.{Words}
use Rattle.command_words.specs.declared.words.Words.TheVariants as words
use Rattle.command_words.specs.declared.words.WordsFault.{WordsFault}
use Rattle.command_words.specs.declared.words.WordsFault.TheVariants.{BadWords, NoMemory}

-- what is asked for: a plan performed in memory, or over the folders of a name; predicted; or generated
pub data Form : Type 0 where
  Run : Form
  RunDir : (dir : List ℕ) → Form
  Predict : Form
  Make : (seed txns : ℕ) → Form

-- the word is this text
abbrev pub is_word : List ℕ → List ℕ → Bool
is_word text word = pointwise nat_eq text word

-- a folder's name: it is not empty and does not begin with a dash
abbrev pub is_folder : List ℕ → Bool
is_folder dir = nat_lt 0 (length dir) && not (slice_index dir 0 == 45)

-- the lists of one word
abbrev pub one_word : List ℕ → Option Form
one_word word = if is_word (codes "run") word then Some Run else (if is_word (codes "predict") word then Some Predict else None)

-- the word behind `run --dir`
abbrev pub folder_in : List ℕ → Option Form
folder_in dir = if is_folder dir then Some (RunDir dir) else None

-- the numbers behind `make`: a seed and a number of transactions, within their ranges
abbrev pub load_in : Option ℕ → Option ℕ → Option Form
load_in (Some seed) (Some txns) = if nat_le seed 2147483647 && (nat_le 1 txns && nat_le txns 2000) then Some (Make seed txns) else None
load_in (Some seed) None = None
load_in None txns = None

-- what a list of words asks for, where the program takes it
abbrev pub words_in : List (List ℕ) → Option Form
words_in [] = None
words_in (word ∷ []) = one_word word
words_in (first ∷ second ∷ []) = None
words_in (first ∷ second ∷ third ∷ []) =
    if is_word (codes "run") first && is_word (codes "--dir") second then folder_in third
    else (if is_word (codes "make") first then load_in (number_in second) (number_in third) else None)
words_in (first ∷ second ∷ third ∷ fourth ∷ more) = None

-- what words that were read ask for
abbrev pub form_of : Words → Form
form_of words.Run = Run
form_of (words.RunDir dir) = RunDir (string_bytes dir)
form_of words.Predict = Predict
form_of (words.Make seed txns) = Make seed txns

-- what was answered to words that ask for a form, or for none: memory may be wanting only for a form
abbrev pub Gives : Result Words WordsFault → Option Form → Type 0
Gives (Ok given) found = found ≡ Some (form_of given)
Gives (Err BadWords) found = found ≡ None
Gives (Err NoMemory) found = is_some found ≡ true

-- of a generated plan: the seed has 31 bits, and there are 1 to 2,000 transactions
abbrev pub IsWithin : Words → Type 0
IsWithin (words.Make seed txns) = (seed ≤ 2147483647) × (1 ≤ txns) × (txns ≤ 2000)
IsWithin words.Run = Unit {0}
IsWithin (words.RunDir dir) = Unit {0}
IsWithin words.Predict = Unit {0}
