-- The faults of words, as they are shown.
use Rattle.std.specs.Prelude.{ℕ, List, codes}
use Rattle.command_words.specs.declared.words.WordsFault.{WordsFault}
use Rattle.command_words.specs.declared.words.WordsFault.TheVariants.{BadWords, NoMemory}

-- why words were not read
abbrev pub words_fault_text : WordsFault → List ℕ
words_fault_text BadWords = codes "bad words"
words_fault_text NoMemory = codes "no memory"
