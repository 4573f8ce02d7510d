-- The words of a line, with their kinds, and its text.
use Rattle.std.specs.Prelude.{◌≡◌, ℕ, ◌≤◌, Bool, true, false, not, ◌&&◌, nat_le, List, [], ◌∷◌, ◌++◌, map, decimal, codes}
use Rattle.std.specs.List.{AllByRecursion, AllPass}
use Rattle.rdf_types.specs.declared.records.Node.{Node}
use Rattle.rdf_types.specs.declared.records.Node.TheVariants.{A, B, C}
use Rattle.rdf_types.specs.declared.records.RecKey.{RecKey}
use Rattle.rdf_types.specs.Saying.{node_text}
use Rattle.rdf_types.specs.Limits.{IsFileName, IsKey, IsValue}
use Rattle.rdf_disk.specs.declared.fault.Tear.{Tear}
use Rattle.rdf_disk.specs.declared.fault.Tear.TheVariants as tear
use Rattle.plan_lang.specs.declared.lines.Line.{Line}
use Rattle.plan_lang.specs.declared.lines.Line.TheVariants as line
use Rattle.plan_lang.specs.Words.{text_line}
use Rattle.plan_lang.specs.Verbs.{verb_text, verb_of}

-- the word of a tear
abbrev pub tear_text : Tear → List ℕ
tear_text tear.Lose = codes "lose"
tear_text tear.Keep = codes "keep"
tear_text tear.Mix = codes "mix"

-- a word behind a line's first: a number in a range, a text, a backup, any node, a backup other than one, a tear
pub data Word : Type 0 where
  Number : (from to n : ℕ) → Word
  File : (name : List ℕ) → Word
  Key : (key : List ℕ) → Word
  Value : (value : List ℕ) → Word
  Backup : (node : Node) → Word
  AnyNode : (node : Node) → Word
  Other : (than node : Node) → Word
  TearWord : (tear : Tear) → Word

-- a word as it is printed
abbrev pub word_text : Word → List ℕ
word_text (Number from to n) = decimal n
word_text (File name) = name
word_text (Key key) = key
word_text (Value value) = value
word_text (Backup node) = node_text node
word_text (AnyNode node) = node_text node
word_text (Other than node) = node_text node
word_text (TearWord t) = tear_text t

-- a transaction's number: any of 32 bits
abbrev pub txn : ℕ → Word
txn t = Number 0 4294967295 t

-- a volume's number
abbrev pub volume : ℕ → Word
volume vol = Number 0 15 vol

-- the place of a row
abbrev pub place : RecKey → List Word
place k = volume k.vol ∷ File k.file ∷ Key k.key ∷ []

-- the words behind the first
abbrev pub arguments : Line → List Word
arguments (line.Begin t) = txn t ∷ []
arguments (line.Insert t k value) = (txn t ∷ place k) ++ Value value ∷ []
arguments (line.Update t k value) = (txn t ∷ place k) ++ Value value ∷ []
arguments (line.Delete t k) = txn t ∷ place k
arguments (line.Get t k) = txn t ∷ place k
arguments (line.Commit t) = txn t ∷ []
arguments (line.Abort t) = txn t ∷ []
arguments (line.Send node most) = Backup node ∷ Number 1 64 most ∷ []
arguments (line.Rewind node) = Backup node ∷ []
arguments (line.Ack node) = Backup node ∷ []
arguments (line.Deliver node k) = Backup node ∷ Number 0 4294967295 k ∷ []
arguments line.Lose = []
arguments (line.Session node) = Backup node ∷ []
arguments (line.Read node k) = Backup node ∷ place k
arguments (line.Purge node) = Backup node ∷ []
arguments line.End = []
arguments (line.Takeover node) = Backup node ∷ []
arguments (line.CopyAudit node from) = Backup node ∷ Other node from ∷ []
arguments (line.List node vol) = AnyNode node ∷ volume vol ∷ []
arguments (line.Info node) = Backup node ∷ []
arguments (line.Status node) = AnyNode node ∷ []
arguments (line.Fuse node disk calls t) = AnyNode node ∷ Number 0 16 disk ∷ Number 0 1000000 calls ∷ TearWord t ∷ []
arguments (line.Cut node) = AnyNode node ∷ []
arguments (line.Restart node) = AnyNode node ∷ []

-- the words of a line
abbrev pub line_words : Line → List (List ℕ)
line_words l = verb_text (verb_of l) ∷ map word_text (arguments l)

-- a line as it is printed
abbrev pub line_text : Line → List ℕ
line_text l = text_line (line_words l)

-- the system has the node; `c` only where it has two backups
abbrev pub is_node : ℕ → Node → Bool
is_node backups A = true
is_node backups B = true
is_node backups C = nat_le 2 backups

-- the node is a backup of the system; `c` only where it has two
abbrev pub is_backup : ℕ → Node → Bool
is_backup backups A = false
is_backup backups B = true
is_backup backups C = nat_le 2 backups

-- both are the same node
abbrev pub same_node : Node → Node → Bool
same_node A A = true
same_node B B = true
same_node C C = true
same_node _ _ = false

-- the word is one of its kind
abbrev pub FitsWord : ℕ → Word → Type 0
FitsWord backups (Number from to n) = (from ≤ n) × (n ≤ to)
FitsWord backups (File name) = IsFileName name
FitsWord backups (Key key) = IsKey key
FitsWord backups (Value value) = IsValue value
FitsWord backups (Backup node) = is_backup backups node ≡ true
FitsWord backups (AnyNode node) = is_node backups node ≡ true
FitsWord backups (Other than node) = (is_backup backups node && not (same_node than node)) ≡ true
FitsWord backups (TearWord t) = Unit {0}

-- a line that a system with so many backups may have
abbrev pub IsLine : ℕ → Line → Type 0
IsLine backups l = AllByRecursion (FitsWord backups) (arguments l)

-- a space, or a byte that can be seen
abbrev pub is_printed : ℕ → Bool
is_printed b = nat_le 32 b && nat_le b 126

-- one line of printable ASCII, and the byte that ends it
pub record IsPrintedLine (text : List ℕ) : Type 0 where
  pub front : List ℕ
  pub parts : text ≡ front ++ 10 ∷ []
  pub printed : AllPass is_printed front
