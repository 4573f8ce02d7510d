-- The bytes of replies.
use Rattle.std.specs.Prelude.{ℕ, Bool, true, false, List, [], ◌∷◌, ◌++◌, length, decimal, codes}
use Rattle.std.specs.List.{flat_map, enumerate_from}
use Rattle.rdf_types.specs.declared.records.Node.{Node}
use Rattle.rdf_types.specs.declared.records.Node.TheVariants.{A, B, C}
use Rattle.rdf_types.specs.declared.records.Phase.{Phase}
use Rattle.rdf_types.specs.declared.records.Phase.TheVariants as phase
use Rattle.rdf_types.specs.declared.records.Row.{Row}
use Rattle.plan_lang.specs.Words.{text_line}
use Rattle.rdf_core.specs.declared.replies.NoWhy.{NoWhy}
use Rattle.rdf_core.specs.declared.replies.NoWhy.TheVariants as no
use Rattle.rdf_core.specs.declared.replies.Reply.{Reply}
use Rattle.rdf_core.specs.declared.replies.Reply.TheVariants.{Done, Number, Got, Sent, NoneSent, Holds, Absent, Rows, Info, PrimaryUp, NodeDown, NodeLost, BackupUp, Stopped, No}
use Rattle.rdf_core.specs.declared.replies.VolInfo.{VolInfo}

-- a node's name
abbrev pub node_word : Node → List ℕ
node_word A = codes "a"
node_word B = codes "b"
node_word C = codes "c"

-- how far a backup's volumes are
abbrev pub phase_words : Phase → List (List ℕ)
phase_words phase.Running = codes "running" ∷ []
phase_words phase.Taking = codes "taking" ∷ []
phase_words (phase.Taken upto) = codes "taken" ∷ decimal upto ∷ []

-- why a line was refused
abbrev pub why_words : NoWhy → List (List ℕ)
why_words no.Lost = codes "lost" ∷ []
why_words no.Down = codes "down" ∷ []
why_words no.Up = codes "up" ∷ []
why_words no.PrimaryUp = codes "primary-up" ∷ []
why_words no.Running = codes "running" ∷ []
why_words no.Taking = codes "taking" ∷ []
why_words no.Taken = codes "taken" ∷ []
why_words no.Used = codes "used" ∷ []
why_words no.Txn = codes "txn" ∷ []
why_words no.Volume = codes "volume" ∷ []
why_words (no.Locked by) = codes "locked" ∷ decimal by ∷ []
why_words no.Exists = codes "exists" ∷ []
why_words no.Missing = codes "missing" ∷ []
why_words no.Message = codes "message" ∷ []
why_words (no.Gap received) = codes "gap" ∷ decimal received ∷ []
why_words (no.Purged first) = codes "purged" ∷ decimal first ∷ []

-- a row that a list shows
abbrev pub row_line : Row → List ℕ
row_line r = text_line (r.file ∷ r.key ∷ r.value ∷ [])

-- a flag of the layout
abbrev pub flag : Bool → List ℕ
flag true = codes "1"
flag false = codes "0"

-- a volume that `info` shows, with its number
abbrev pub volume_line : ℕ × VolInfo → List ℕ
volume_line (n, v) = text_line (codes "volume" ∷ decimal n ∷ codes "trail" ∷ decimal v.trail ∷ codes "protected" ∷ flag v.protect ∷ codes "at" ∷ decimal v.at ∷ [])

-- the text of a reply
abbrev pub text : Reply → List ℕ
text Done = text_line (codes "ok" ∷ [])
text (Number n) = text_line (codes "ok" ∷ decimal n ∷ [])
text (Got value) = text_line (codes "ok" ∷ value ∷ [])
text (Sent k from to) = text_line (codes "ok" ∷ decimal k ∷ decimal from ∷ decimal to ∷ [])
text NoneSent = text_line (codes "ok" ∷ codes "none" ∷ [])
text (Holds at value) = text_line (codes "ok" ∷ decimal at ∷ codes "holds" ∷ value ∷ [])
text (Absent at) = text_line (codes "ok" ∷ decimal at ∷ codes "absent" ∷ [])
text (Rows at rows) = text_line (codes "ok" ∷ decimal at ∷ decimal (length rows) ∷ []) ++ flat_map row_line rows
text (Info volumes) = text_line (codes "ok" ∷ decimal (length volumes) ∷ []) ++ flat_map volume_line (enumerate_from 0 volumes)
text (PrimaryUp len active) = text_line (codes "ok" ∷ codes "up" ∷ codes "trail" ∷ decimal len ∷ codes "open" ∷ decimal active ∷ [])
text NodeDown = text_line (codes "ok" ∷ codes "down" ∷ [])
text NodeLost = text_line (codes "ok" ∷ codes "lost" ∷ [])
text (BackupUp phase received kept generations unended) =
    text_line (codes "ok" ∷ codes "up" ∷ phase_words phase ++ codes "received" ∷ decimal received ∷ codes "kept" ∷ decimal kept ∷ codes "generations" ∷ decimal generations ∷ codes "open" ∷ decimal unended ∷ [])
text (Stopped node) = text_line (codes "stopped" ∷ node_word node ∷ [])
text (No why) = text_line (codes "no" ∷ why_words why)

-- the text of replies, one after another
abbrev pub texts : List Reply → List ℕ
texts replies = flat_map text replies
