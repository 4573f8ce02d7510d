-- The summary of a run of the generated plan, and its text.
use Rattle.std.specs.Prelude.{ℕ, ◌==◌, Bool, true, false, not, ◌&&◌, List, [], ◌∷◌, ◌++◌, length, reverse, get_or, zip, find, filter_map, sum_by, count_by, decimal, codes, Option, Some, None, if◌then◌else◌}
use Rattle.std.specs.List.{list_all}
use Rattle.std.specs.Option.{option_map, option_and_then}
use Rattle.std.specs.Cmp.Lexicographic.{pointwise}
use Rattle.rdf_types.specs.declared.records.Node.{Node}
use Rattle.rdf_types.specs.declared.records.Node.TheVariants.{B, C}
use Rattle.rdf_types.specs.declared.records.Row.{Row}
use Rattle.plan_lang.specs.declared.lines.Line.{Line}
use Rattle.plan_lang.specs.declared.lines.Line.TheVariants as line
use Rattle.plan_lang.specs.Words.{text_line}
use Rattle.rdf_core.specs.declared.replies.Reply.{Reply}
use Rattle.rdf_core.specs.declared.replies.Reply.TheVariants.{Rows, Stopped, No}
use Rattle.plan_lang.specs.LineText.{same_node}
use Rattle.rdf_core.specs.Agreement.{takeover_ok}
use Rattle.rdf_core.specs.Effects.{count_u64}
use Rattle.load_summary.specs.declared.lists.Listed.{Listed}
use Rattle.load_summary.specs.declared.summary.Counts.{Counts}
use Rattle.load_summary.specs.declared.summary.Taken.{Taken}
use Rattle.load_summary.specs.declared.summary.Summary.{Summary}

-- a line that was answered
abbrev pub Step : Type 0
Step = Line × Reply

-- the reply begins with `no`
abbrev pub is_refused : Reply → Bool
is_refused (No why) = true
is_refused _ = false

-- the reply begins with `stopped`
abbrev pub is_stopped : Reply → Bool
is_stopped (Stopped node) = true
is_stopped _ = false

-- all other replies begin with `ok`
abbrev pub is_done : Reply → Bool
is_done reply = not (is_refused reply) && not (is_stopped reply)

-- how many replies there are, and how many with each first word
abbrev pub counts_of : List Reply → Counts
counts_of replies = record {
  steps = count_u64 (length replies);
  done = count_u64 (count_by is_done replies);
  refused = count_u64 (count_by is_refused replies);
  stopped = count_u64 (count_by is_stopped replies);
}

-- how many rows a reply lists
abbrev pub rows_of : Reply → ℕ
rows_of (Rows at rows) = length rows
rows_of _ = 0

-- how many rows an `ok` to a list of the node has
abbrev pub rows_in : Node → Line → Reply → ℕ
rows_in node (line.List of vol) reply = if same_node of node then rows_of reply else 0
rows_in node _ reply = 0

-- the last number, or 0 where there is none
abbrev pub latest : List ℕ → ℕ
latest numbers = get_or (reverse numbers) 0 0

-- the position of the node's last takeover, and the rows of all its lists
abbrev pub taken_of : Node → List Step → Taken
taken_of node steps = record {
  upto = latest (filter_map (λ s. takeover_ok node s.0 s.1) steps);
  rows = count_u64 (sum_by (λ s. rows_in node s.0 s.1) steps);
}

-- the rows that a reply lists
-- the reply to a list: its rows, or none where it was refused or cut off
abbrev pub list_rows : Reply → Option (Option (List Row))
list_rows (Rows at rows) = Some (Some rows)
list_rows (No why) = Some None
list_rows (Stopped node) = Some None
list_rows _ = None

-- what a line lists
abbrev pub list_in : Line → Reply → Option Listed
list_in (line.List node vol) reply = option_map (λ rows. record { node = node; vol = vol; rows = rows }) (list_rows reply)
list_in _ reply = None

abbrev pub lists_of : List Step → List Listed
lists_of steps = filter_map (λ s. list_in s.0 s.1) steps

-- the list is one of this volume of the node
abbrev pub is_list_of : Node → ℕ → Listed → Bool
is_list_of node vol l = same_node l.node node && l.vol == vol

-- the rows of the last list of a volume, where that list was answered `ok`
abbrev pub last_list : Node → ℕ → List Listed → Option (List Row)
last_list node vol lists = option_and_then (λ (l : Listed). l.rows) (find (is_list_of node vol) (reverse lists))

-- two rows have the same file, key and value
abbrev pub same_row : Row → Row → Bool
same_row r s = pointwise ◌==◌ r.file s.file && (pointwise ◌==◌ r.key s.key && pointwise ◌==◌ r.value s.value)

-- two lists have the same rows in the same order
abbrev pub same_rows : List Row → List Row → Bool
same_rows rows others = pointwise same_row rows others

-- two volumes were both listed, with the same rows
abbrev pub are_same : Option (List Row) → Option (List Row) → Bool
are_same (Some rows) (Some others) = same_rows rows others
are_same (Some rows) None = false
are_same None listed = false

-- each of the eight volumes was listed at both backups, and the rows of `b` are those of `c`
abbrev pub lists_equal : List Listed → Bool
lists_equal lists = list_all (λ vol. are_same (last_list B vol lists) (last_list C vol lists)) (0 ∷ 1 ∷ 2 ∷ 3 ∷ 4 ∷ 5 ∷ 6 ∷ 7 ∷ [])

-- the summary of lines and their replies
abbrev pub summary : List Line → List Reply → Summary
summary lines replies = record {
  counts = counts_of replies;
  b = taken_of B (zip lines replies);
  c = taken_of C (zip lines replies);
  equal = lists_equal (lists_of (zip lines replies));
}

-- a line of a name and a number
abbrev pub named_line : List ℕ → ℕ → List ℕ
named_line name n = text_line (name ∷ decimal n ∷ [])

-- the lines of the replies' first words
abbrev pub counts_text : Counts → List ℕ
counts_text counts =
    named_line (codes "steps") counts.steps ++ named_line (codes "ok") counts.done ++ named_line (codes "no") counts.refused ++ named_line (codes "stopped") counts.stopped

-- the line of a backup
abbrev pub taken_line : List ℕ → Taken → List ℕ
taken_line name taken = text_line (name ∷ decimal taken.upto ∷ codes "rows" ∷ decimal taken.rows ∷ [])

-- the last line
abbrev pub lists_line : Bool → List ℕ
lists_line true = text_line (codes "lists" ∷ codes "equal" ∷ [])
lists_line false = text_line (codes "lists" ∷ codes "differ" ∷ [])

-- the seven lines of a summary
abbrev pub summary_text : Summary → List ℕ
summary_text s = counts_text s.counts ++ taken_line (codes "b") s.b ++ taken_line (codes "c") s.c ++ lists_line s.equal
