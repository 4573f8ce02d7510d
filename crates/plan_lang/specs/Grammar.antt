-- The grammar of plans: lines of words, read in their order up to the first bad one.
use Rattle.std.specs.Prelude.{◌≡◌, ℕ, zero, suc, ◌+◌, ◌==◌, Bool, ◌&&◌, nat_eq, nat_lt, List, [], ◌∷◌, length, map, codes, Option, Some, None, Result, Ok, Err, if◌then◌else◌}
use Rattle.std.specs.List.{list_all}
use Rattle.std.specs.Cmp.Lexicographic.{pointwise}
use Rattle.rdf_types.specs.declared.records.Node.{Node}
use Rattle.plan_lang.specs.declared.lines.Line.{Line}
use Rattle.plan_lang.specs.declared.lines.Line.TheVariants as line
use Rattle.plan_lang.specs.declared.lines.Plan.{Plan}
use Rattle.plan_lang.specs.declared.why.PlanWhy.{PlanWhy}
use Rattle.plan_lang.specs.declared.why.PlanWhy.TheVariants.{NotAscii, Header, TooManyLines, SessionOpen}
use Rattle.plan_lang.specs.declared.why.BadLine.{BadLine}
use Rattle.plan_lang.specs.LineText.{is_printed}
use Rattle.plan_lang.specs.Words.{lines_in, words_of}
use Rattle.plan_lang.specs.LineReading.{◌>>=◌, next, number_at, line_in}
use Rattle.plan_lang.specs.Sessions.{session_after}
use Rattle.plan_lang.specs.PlanReading.{Heading, heading_of, is_one, placed_or}

-- the fault of the line of this number
abbrev pub bad : {X : Type 0} → ℕ → PlanWhy → Result X BadLine
bad n why = Err (record { line = n; why = why })

-- the words of the line of this number, if there may be so many lines, and each byte may stand in a plan
unfoldable pub checked : ℕ → List ℕ → Result (List (List ℕ)) BadLine
checked n line = if nat_lt 20000 n then bad n TooManyLines else (if list_all is_printed line then Ok (words_of line) else bad n NotAscii)

-- a line that is no comment, or the end, which has no words; and the lines behind it, with the number of the first
pub record Next : Type 0 where
  pub number : ℕ
  pub words : List (List ℕ)
  pub after : ℕ
  pub behind : List (List ℕ)

-- the next such line of these, the first of which has this number, unless a line before it is bad
unfoldable pub next_line : ℕ → List (List ℕ) → Result Next BadLine
next_line n [] = Ok (record { number = n; words = []; after = n; behind = [] })
next_line n (line ∷ lines) = do
  words ← checked n line
  if length words == 0 then next_line (n + 1) lines else Ok (record { number = n; words = words; after = n + 1; behind = lines })

-- ---- the header

-- the words behind a name, if there are so many
unfoldable pub named : List ℕ → ℕ → List (List ℕ) → Result (List (List ℕ)) PlanWhy
named name count words = do
  first ← next words
  if pointwise nat_eq first.0 name && length first.1 == count then Ok first.1 else Err Header

-- so many numbers of a range
unfoldable pub numbers_at : ℕ → ℕ → ℕ → List (List ℕ) → Result (List ℕ) PlanWhy
numbers_at from to zero words = Ok []
numbers_at from to (suc n) words = do
  first ← number_at from to words
  others ← numbers_at from to n first.1
  Ok (first.0 ∷ others)

-- the number of a range behind a name, and nothing else
abbrev pub number_behind : List ℕ → ℕ → ℕ → List (List ℕ) → Result (ℕ × List (List ℕ)) PlanWhy
number_behind name from to words = named name 1 words >>= number_at from to

-- so many numbers of a range behind a name, and nothing else
abbrev pub numbers_behind : List ℕ → ℕ → ℕ → ℕ → List (List ℕ) → Result (List ℕ) PlanWhy
numbers_behind name count from to words = named name count words >>= numbers_at from to count

-- whatever else stands in a line of the header is that line's one fault
abbrev pub or_header : {X : Type 0} → ℕ → Result X PlanWhy → Result X BadLine
or_header n (Ok x) = Ok x
or_header n (Err why) = bad n Header

-- a line of the header: a name, and so many numbers of a range
unfoldable pub header_line : List ℕ → ℕ → ℕ → ℕ → ℕ → List (List ℕ) → Result (List ℕ × ℕ × List (List ℕ)) BadLine
header_line name count from to n lines = do
  line ← next_line n lines
  numbers ← or_header line.number (numbers_behind name count from to line.words)
  Ok (numbers, line.after, line.behind)

-- one that has a single number
unfoldable pub setting_line : List ℕ → ℕ → ℕ → ℕ → List (List ℕ) → Result (ℕ × ℕ × List (List ℕ)) BadLine
setting_line name from to n lines = do
  line ← next_line n lines
  number ← or_header line.number (number_behind name from to line.words)
  Ok (number.0, line.after, line.behind)

-- the header, and the lines behind it
unfoldable pub heading_in : ℕ → List (List ℕ) → Result (Heading × ℕ × List (List ℕ)) BadLine
heading_in n lines = do
  format ← setting_line (codes "rdfplan") 1 1 n lines
  backups ← setting_line (codes "backups") 1 2 format.1 format.2
  volumes ← setting_line (codes "volumes") 1 16 backups.1 backups.2
  trails ← header_line (codes "trail") volumes.0 0 3 volumes.1 volumes.2
  protect ← header_line (codes "protect") volumes.0 0 1 trails.1 trails.2
  extent ← setting_line (codes "extent") 1 10000 protect.1 protect.2
  retain ← setting_line (codes "retain") 2 64 extent.1 extent.2
  go ← header_line (codes "go") 0 0 0 retain.1 retain.2
  Ok (record { backups = backups.0; volumes = volumes.0; trails = trails.0; protect = map is_one protect.0; extent = extent.0; retain = retain.0 }, go.1, go.2)

-- ---- the lines behind it

-- where the session began that is open behind the line of this number
abbrev pub since_after : ℕ → ℕ → Line → ℕ
since_after n since (line.Session node) = n
since_after n since _ = since

-- at the end no session may be open
abbrev pub ended : Option Node → ℕ → Result (List Line) BadLine
ended None since = Ok []
ended (Some of) since = bad since SessionOpen

-- the fault, if it is one, is that of this line
abbrev pub fault_at : {X : Type 0} → ℕ → Result X PlanWhy → Result X BadLine
fault_at n (Ok x) = Ok x
fault_at n (Err why) = bad n why

-- the lines, where the session of a node is open since a line, or none is
unfoldable pub lines_from : Bool → ℕ → Option Node → ℕ → ℕ → List (List ℕ) → Result (List Line) BadLine
lines_from fuses backups of since n [] = ended of since
lines_from fuses backups of since n (line ∷ lines) = do
  words ← checked n line
  if length words == 0 then lines_from fuses backups of since (n + 1) lines else (do
    l ← fault_at n (placed_or of (line_in fuses backups words))
    others ← lines_from fuses backups (session_after of l) (since_after n since l) (n + 1) lines
    Ok (l ∷ others))

-- ---- plans

-- what a text is read as, or its first bad line and what is bad there
unfoldable pub plan_in : Bool → List ℕ → Result (Heading × List Line) BadLine
plan_in fuses bytes = do
  heading ← heading_in 1 (lines_in bytes)
  lines ← lines_from fuses heading.0.backups None 0 heading.1 heading.2
  Ok (heading.0, lines)

-- the bytes are read as this plan
abbrev pub Reads : Bool → List ℕ → Plan → Type 0
Reads fuses bytes plan = plan_in fuses bytes ≡ Ok (heading_of plan.layout, plan.lines)

-- this line of the bytes is the first bad one, and so it is bad
abbrev pub IsBad : Bool → List ℕ → ℕ → PlanWhy → Type 0
IsBad fuses bytes n why = plan_in fuses bytes ≡ Err (record { line = n; why = why })
