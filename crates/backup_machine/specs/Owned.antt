-- The lines on one backup.
use Rattle.std.specs.Prelude.{Bool, true, false}
use Rattle.plan_lang.specs.declared.lines.Line.{Line}
use Rattle.plan_lang.specs.declared.lines.Line.TheVariants as line

-- a line that one backup does alone
abbrev pub is_own : Line → Bool
is_own (line.Deliver node k) = true
is_own (line.Purge node) = true
is_own (line.Takeover node) = true
is_own (line.List node vol) = true
is_own (line.Info node) = true
is_own (line.Status node) = true
is_own (line.Fuse node disk calls tear) = true
is_own (line.Cut node) = true
is_own (line.Restart node) = true
is_own _ = false

-- a line that takes audit from another backup
abbrev pub is_copy : Line → Bool
is_copy (line.CopyAudit node from) = true
is_copy _ = false
