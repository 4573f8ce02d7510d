-- The first word of each line.
use Rattle.std.specs.Prelude.{ℕ, List, [], ◌∷◌, codes}
use Rattle.plan_lang.specs.declared.lines.Line.{Line}
use Rattle.plan_lang.specs.declared.lines.Line.TheVariants as line
use Rattle.plan_lang.specs.declared.verbs.Verb.{Verb}
use Rattle.plan_lang.specs.declared.verbs.Verb.TheVariants as verb

-- the word itself
abbrev pub verb_text : Verb → List ℕ
verb_text verb.Begin = codes "begin"
verb_text verb.Insert = codes "insert"
verb_text verb.Update = codes "update"
verb_text verb.Delete = codes "delete"
verb_text verb.Get = codes "get"
verb_text verb.Commit = codes "commit"
verb_text verb.Abort = codes "abort"
verb_text verb.Send = codes "send"
verb_text verb.Rewind = codes "rewind"
verb_text verb.Ack = codes "ack"
verb_text verb.Deliver = codes "deliver"
verb_text verb.Lose = codes "lose"
verb_text verb.Session = codes "session"
verb_text verb.Read = codes "read"
verb_text verb.Purge = codes "purge"
verb_text verb.End = codes "end"
verb_text verb.Takeover = codes "takeover"
verb_text verb.CopyAudit = codes "copyaudit"
verb_text verb.List = codes "list"
verb_text verb.Info = codes "info"
verb_text verb.Status = codes "status"
verb_text verb.Fuse = codes "fuse"
verb_text verb.Cut = codes "cut"
verb_text verb.Restart = codes "restart"

-- every verb
abbrev pub all_verbs : List Verb
all_verbs =
    verb.Begin ∷ verb.Insert ∷ verb.Update ∷ verb.Delete ∷ verb.Get ∷ verb.Commit ∷ verb.Abort ∷ verb.Send ∷ verb.Rewind ∷ verb.Ack ∷ verb.Deliver ∷ verb.Lose
    ∷ verb.Session ∷ verb.Read ∷ verb.Purge ∷ verb.End ∷ verb.Takeover ∷ verb.CopyAudit ∷ verb.List ∷ verb.Info ∷ verb.Status ∷ verb.Fuse ∷ verb.Cut ∷ verb.Restart ∷ []

-- which line a line is
abbrev pub verb_of : Line → Verb
verb_of (line.Begin t) = verb.Begin
verb_of (line.Insert t k value) = verb.Insert
verb_of (line.Update t k value) = verb.Update
verb_of (line.Delete t k) = verb.Delete
verb_of (line.Get t k) = verb.Get
verb_of (line.Commit t) = verb.Commit
verb_of (line.Abort t) = verb.Abort
verb_of (line.Send node most) = verb.Send
verb_of (line.Rewind node) = verb.Rewind
verb_of (line.Ack node) = verb.Ack
verb_of (line.Deliver node k) = verb.Deliver
verb_of line.Lose = verb.Lose
verb_of (line.Session node) = verb.Session
verb_of (line.Read node k) = verb.Read
verb_of (line.Purge node) = verb.Purge
verb_of line.End = verb.End
verb_of (line.Takeover node) = verb.Takeover
verb_of (line.CopyAudit node from) = verb.CopyAudit
verb_of (line.List node vol) = verb.List
verb_of (line.Info node) = verb.Info
verb_of (line.Status node) = verb.Status
verb_of (line.Fuse node disk calls tear) = verb.Fuse
verb_of (line.Cut node) = verb.Cut
verb_of (line.Restart node) = verb.Restart
