-- What the lines of a run and their replies tell, where no disk stops: no state is named.
use Rattle.std.specs.Prelude.{◌≡◌, Bool, true, false, ◌||◌, List, [], ◌∷◌, ◌++◌, length, if◌then◌else◌}
use Rattle.std.specs.List.{All}
use Rattle.rdf_types.specs.declared.records.Node.{Node}
use Rattle.plan_lang.specs.declared.lines.Line.{Line}
use Rattle.plan_lang.specs.declared.lines.Line.TheVariants as line
use Rattle.rdf_core.specs.declared.replies.NoWhy.TheVariants as no
use Rattle.rdf_core.specs.declared.replies.Reply.{Reply}
use Rattle.rdf_core.specs.declared.replies.Reply.TheVariants.{Done, Number, Stopped, No}
use Rattle.rdf_core.specs.Sessions.{is_backup_node}
use Rattle.plan_lang.specs.LineText.{same_node}
use Rattle.rdf_core.specs.Agreement.{is_ok, takes}
use Rattle.rdf_core.specs.Losses.{has_lost}

-- the reply tells that a disk stopped
abbrev pub names_stop : Reply → Bool
names_stop (Stopped node) = true
names_stop _ = false

-- no reply does
abbrev pub NoneNamesStop : List Reply → Type 0
NoneNamesStop replies = All (λ reply. names_stop reply ≡ false) replies

-- whether the backup is up behind the line, by whether it was before
abbrev pub up_behind : Node → Bool → Line → Reply → Bool
up_behind of up (line.Cut node) Done = if same_node of node then false else up
up_behind of up (line.Restart node) (Number n) = if same_node of node then true else up
up_behind of up _ _ = up

-- the same behind several lines
abbrev pub up_behind_all : Node → Bool → List Line → List Reply → Bool
up_behind_all of up [] replies = up
up_behind_all of up (l ∷ lines) [] = up
up_behind_all of up (l ∷ lines) (reply ∷ replies) = up_behind_all of (up_behind of up l reply) lines replies

-- a backup begins up, and each `cut` and `restart` of it that was answered ok changes that
abbrev pub is_up_behind : Node → List Line → List Reply → Bool
is_up_behind of lines replies = up_behind_all of true lines replies

-- a takeover of the backup was answered ok
abbrev pub has_taken_over : Node → List Line → List Reply → Bool
has_taken_over of [] replies = false
has_taken_over of (l ∷ lines) [] = false
has_taken_over of (l ∷ lines) (reply ∷ replies) = takes of l reply || has_taken_over of lines replies

-- up, and taken over
abbrev pub IsTakenBehind : Node → List Line → List Reply → Type 0
IsTakenBehind of lines replies = (is_up_behind of lines replies ≡ true) × (has_taken_over of lines replies ≡ true)

-- the refusal of a copy whose records the leading backup no longer keeps
abbrev pub is_purged : Reply → Bool
is_purged (No (no.Purged first)) = true
is_purged _ = false

-- each takeover of a backup that is up, behind a `lose` that was answered ok, is answered ok
abbrev pub TakeoversAreOk : List Line → List Reply → Type 0
TakeoversAreOk lines replies =
    (before behind : List Line) (answered following : List Reply) (node : Node) (reply : Reply) → lines ≡ before ++ line.Takeover node ∷ behind → replies ≡ answered ++ reply ∷ following → length before ≡ length answered →
    is_backup_node node ≡ true → has_lost before answered ≡ true → is_up_behind node before answered ≡ true → is_ok reply ≡ true

-- each copy between two backups that are up and have taken over is answered ok, or that what it would copy is purged
abbrev pub CopiesAreOk : List Line → List Reply → Type 0
CopiesAreOk lines replies =
    (before behind : List Line) (answered following : List Reply) (node from : Node) (reply : Reply) → lines ≡ before ++ line.CopyAudit node from ∷ behind → replies ≡ answered ++ reply ∷ following →
    length before ≡ length answered → is_backup_node node ≡ true → is_backup_node from ≡ true → IsTakenBehind node before answered → IsTakenBehind from before answered →
    (is_ok reply || is_purged reply) ≡ true
