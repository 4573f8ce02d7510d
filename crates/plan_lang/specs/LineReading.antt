-- Reading a line from its words, from left to right, with the first fault.
use Rattle.std.specs.Prelude.{◌≡◌, ℕ, ◌==◌, Bool, true, not, ◌&&◌, nat_eq, nat_lt, nat_le, List, [], ◌∷◌, length, codes, find, Option, Some, None, Result, Ok, Err, if◌then◌else◌}
use Rattle.std.specs.List.{list_all}
use Rattle.std.specs.Cmp.Lexicographic.{pointwise}
use Rattle.rdf_types.specs.declared.records.Node.{Node}
use Rattle.rdf_types.specs.declared.records.Node.TheVariants.{A, B, C}
use Rattle.rdf_types.specs.declared.records.RecKey.{RecKey}
use Rattle.rdf_types.specs.Limits.{is_name_byte, is_text_byte}
use Rattle.rdf_disk.specs.declared.fault.Tear.{Tear}
use Rattle.rdf_disk.specs.declared.fault.Tear.TheVariants as tear
use Rattle.plan_lang.specs.declared.lines.Line.{Line}
use Rattle.plan_lang.specs.declared.lines.Line.TheVariants as line
use Rattle.plan_lang.specs.declared.verbs.Verb.{Verb}
use Rattle.plan_lang.specs.declared.verbs.Verb.TheVariants as verb
use Rattle.plan_lang.specs.declared.why.PlanWhy.{PlanWhy}
use Rattle.plan_lang.specs.declared.why.PlanWhy.TheVariants as why
use Rattle.plan_lang.specs.declared.line_words.Words.{Words}
use Rattle.plan_lang.specs.Words.{words_in}
use Rattle.plan_lang.specs.Numbers.{number_in}
use Rattle.plan_lang.specs.Verbs.{verb_text, all_verbs}
use Rattle.plan_lang.specs.LineText.{is_node, is_backup, same_node}

infixl 10 ◌>>=◌
-- read on, unless there was a fault
abbrev pub ◌>>=◌ : {X Y E : Type 0} → Result X E → (X → Result Y E) → Result Y E
(Ok x) >>= f = f x
(Err e) >>= f = Err e

-- what a function returned, seen by view, is what reading gives
abbrev pub Gives : {X Y E : Type 0} → (X → Y) → Result X E → Result Y E → Type 0
Gives view (Ok x) read = read ≡ Ok (view x)
Gives view (Err e) read = read ≡ Err e

-- the words that are left to read
abbrev pub words_left : Words → List (List ℕ)
words_left words = words_in words.rest.now

-- a word, and those behind it
abbrev pub next : List (List ℕ) → Result (List ℕ × List (List ℕ)) PlanWhy
next [] = Err why.Count
next (word ∷ rest) = Ok (word, rest)

-- the number, if there is one and it is in the range
abbrev pub number_within : ℕ → ℕ → Option ℕ → List (List ℕ) → Result (ℕ × List (List ℕ)) PlanWhy
number_within from to None rest = Err why.Number
number_within from to (Some n) rest = if nat_le from n && nat_le n to then Ok (n, rest) else Err why.Number

-- a number in a range
unfoldable pub number_at : ℕ → ℕ → List (List ℕ) → Result (ℕ × List (List ℕ)) PlanWhy
number_at from to words = do
  word ← next words
  number_within from to (number_in word.0) word.1

-- at least one byte, at most so many, and all of the class
abbrev pub is_text : (ℕ → Bool) → ℕ → List ℕ → Bool
is_text class limit word = nat_lt 0 (length word) && (nat_le (length word) limit && list_all class word)

-- a text of a class
unfoldable pub text_at : (ℕ → Bool) → ℕ → List (List ℕ) → Result (List ℕ × List (List ℕ)) PlanWhy
text_at class limit words = do
  word ← next words
  if is_text class limit word.0 then Ok word else Err why.Name

-- the node that a word names
abbrev pub node_in : List ℕ → Option Node
node_in word =
    if pointwise nat_eq word (codes "a") then Some A else (if pointwise nat_eq word (codes "b") then Some B else (if pointwise nat_eq word (codes "c") then Some C else None))

-- the node, if there is one and it passes the test
abbrev pub node_within : (Node → Bool) → Option Node → List (List ℕ) → Result (Node × List (List ℕ)) PlanWhy
node_within test None rest = Err why.Name
node_within test (Some node) rest = if test node then Ok (node, rest) else Err why.Name

-- a node of the system
unfoldable pub node_at : ℕ → List (List ℕ) → Result (Node × List (List ℕ)) PlanWhy
node_at backups words = do
  word ← next words
  node_within (is_node backups) (node_in word.0) word.1

-- a backup of the system
unfoldable pub backup_at : ℕ → List (List ℕ) → Result (Node × List (List ℕ)) PlanWhy
backup_at backups words = do
  word ← next words
  node_within (is_backup backups) (node_in word.0) word.1

-- a backup other than this one
unfoldable pub other_at : ℕ → Node → List (List ℕ) → Result (Node × List (List ℕ)) PlanWhy
other_at backups than words = do
  word ← next words
  node_within (λ node. is_backup backups node && not (same_node than node)) (node_in word.0) word.1

-- the tear that a word names
abbrev pub tear_in : List ℕ → Option Tear
tear_in word =
    if pointwise nat_eq word (codes "lose") then Some tear.Lose
    else (if pointwise nat_eq word (codes "keep") then Some tear.Keep else (if pointwise nat_eq word (codes "mix") then Some tear.Mix else None))

-- the tear, if there is one
abbrev pub tear_within : Option Tear → Result Tear PlanWhy
tear_within None = Err why.Name
tear_within (Some t) = Ok t

-- a tear, the last word of its line
unfoldable pub tear_at : List (List ℕ) → Result Tear PlanWhy
tear_at words = do
  word ← next words
  tear_within (tear_in word.0)

-- the place of a row
unfoldable pub place_at : List (List ℕ) → Result (RecKey × List (List ℕ)) PlanWhy
place_at words = do
  vol ← number_at 0 15 words
  file ← text_at is_name_byte 16 vol.1
  key ← text_at is_text_byte 32 file.1
  Ok (record { vol = vol.0; file = file.0; key = key.0 }, key.1)

-- ---- the words of each shape of line, behind the first

-- a line with a transaction
unfoldable pub txn_line : (ℕ → Line) → List (List ℕ) → Result Line PlanWhy
txn_line make words = do
  txn ← number_at 0 4294967295 words
  Ok (make txn.0)

-- a line with a transaction, a place and a value
unfoldable pub change_line : (ℕ → RecKey → List ℕ → Line) → List (List ℕ) → Result Line PlanWhy
change_line make words = do
  txn ← number_at 0 4294967295 words
  place ← place_at txn.1
  value ← text_at is_text_byte 200 place.1
  Ok (make txn.0 place.0 value.0)

-- a line with a transaction and a place
unfoldable pub touch_line : (ℕ → RecKey → Line) → List (List ℕ) → Result Line PlanWhy
touch_line make words = do
  txn ← number_at 0 4294967295 words
  place ← place_at txn.1
  Ok (make txn.0 place.0)

-- a line with a backup
unfoldable pub backup_line : ℕ → (Node → Line) → List (List ℕ) → Result Line PlanWhy
backup_line backups make words = do
  node ← backup_at backups words
  Ok (make node.0)

-- a line with any node
unfoldable pub node_line : ℕ → (Node → Line) → List (List ℕ) → Result Line PlanWhy
node_line backups make words = do
  node ← node_at backups words
  Ok (make node.0)

-- a line with a backup and a number in a range
unfoldable pub shipping_line : ℕ → (Node → ℕ → Line) → ℕ → ℕ → List (List ℕ) → Result Line PlanWhy
shipping_line backups make from to words = do
  node ← backup_at backups words
  number ← number_at from to node.1
  Ok (make node.0 number.0)

-- the line `read`: a backup and a place
unfoldable pub read_line : ℕ → List (List ℕ) → Result Line PlanWhy
read_line backups words = do
  node ← backup_at backups words
  place ← place_at node.1
  Ok (line.Read node.0 place.0)

-- the line `copyaudit`: a backup, and the other one that it copies from
unfoldable pub copy_line : ℕ → List (List ℕ) → Result Line PlanWhy
copy_line backups words = do
  node ← backup_at backups words
  from ← other_at backups node.0 node.1
  Ok (line.CopyAudit node.0 from.0)

-- the line `list`: any node and a volume
unfoldable pub list_line : ℕ → List (List ℕ) → Result Line PlanWhy
list_line backups words = do
  node ← node_at backups words
  vol ← number_at 0 15 node.1
  Ok (line.List node.0 vol.0)

-- the line `fuse`: any node, one of its disks, a number of calls, and a tear
unfoldable pub fuse_line : ℕ → List (List ℕ) → Result Line PlanWhy
fuse_line backups words = do
  node ← node_at backups words
  disk ← number_at 0 16 node.1
  calls ← number_at 0 1000000 disk.1
  tear ← tear_at calls.1
  Ok (line.Fuse node.0 disk.0 calls.0 tear)

-- what stands behind the first word
abbrev pub behind_verb : ℕ → Verb → List (List ℕ) → Result Line PlanWhy
behind_verb backups verb.Begin words = txn_line line.Begin words
behind_verb backups verb.Insert words = change_line line.Insert words
behind_verb backups verb.Update words = change_line line.Update words
behind_verb backups verb.Delete words = touch_line line.Delete words
behind_verb backups verb.Get words = touch_line line.Get words
behind_verb backups verb.Commit words = txn_line line.Commit words
behind_verb backups verb.Abort words = txn_line line.Abort words
behind_verb backups verb.Send words = shipping_line backups line.Send 1 64 words
behind_verb backups verb.Rewind words = backup_line backups line.Rewind words
behind_verb backups verb.Ack words = backup_line backups line.Ack words
behind_verb backups verb.Deliver words = shipping_line backups line.Deliver 0 4294967295 words
behind_verb backups verb.Lose words = Ok line.Lose
behind_verb backups verb.Session words = backup_line backups line.Session words
behind_verb backups verb.Read words = read_line backups words
behind_verb backups verb.Purge words = backup_line backups line.Purge words
behind_verb backups verb.End words = Ok line.End
behind_verb backups verb.Takeover words = backup_line backups line.Takeover words
behind_verb backups verb.CopyAudit words = copy_line backups words
behind_verb backups verb.List words = list_line backups words
behind_verb backups verb.Info words = backup_line backups line.Info words
behind_verb backups verb.Status words = node_line backups line.Status words
behind_verb backups verb.Fuse words = fuse_line backups words
behind_verb backups verb.Cut words = node_line backups line.Cut words
behind_verb backups verb.Restart words = node_line backups line.Restart words

-- how many words stand behind the first
abbrev pub count_behind : Verb → ℕ
count_behind verb.Insert = 5
count_behind verb.Update = 5
count_behind verb.Delete = 4
count_behind verb.Get = 4
count_behind verb.Read = 4
count_behind verb.Fuse = 4
count_behind verb.Send = 2
count_behind verb.Deliver = 2
count_behind verb.CopyAudit = 2
count_behind verb.List = 2
count_behind verb.Lose = 0
count_behind verb.End = 0
count_behind _ = 1

-- the verb begins a line; fuses are known only where disks are
abbrev pub is_known : Bool → Verb → Bool
is_known fuses verb.Fuse = fuses
is_known fuses _ = true

-- the verb that is this word
abbrev pub verb_in : Bool → List ℕ → Option Verb
verb_in fuses word = find (λ v. pointwise nat_eq (verb_text v) word && is_known fuses v) all_verbs

-- the line of a verb, if there is one and just as many words stand behind it as it has
abbrev pub of_verb : ℕ → Option Verb → List (List ℕ) → Result Line PlanWhy
of_verb backups None words = Err why.Word
of_verb backups (Some v) words = if length words == count_behind v then behind_verb backups v words else Err why.Count

-- the line that has these words
unfoldable pub line_in : Bool → ℕ → List (List ℕ) → Result Line PlanWhy
line_in fuses backups words = do
  first ← next words
  of_verb backups (verb_in fuses first.0) first.1
