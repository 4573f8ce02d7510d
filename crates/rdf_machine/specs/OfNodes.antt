-- Lines by the node that they are for.
use Rattle.std.specs.Prelude.{Bool, true, false}
use Rattle.rdf_types.specs.declared.records.Node.{Node}
use Rattle.plan_lang.specs.declared.lines.Line.{Line}
use Rattle.plan_lang.specs.declared.lines.Line.TheVariants as line
use Rattle.rdf_core.specs.Sessions.{is_backup_node}
use Rattle.plan_lang.specs.LineText.{same_node}

-- a line of this node that each node has, but for its restart
abbrev pub is_at_node : Line → Node → Bool
is_at_node (line.List node vol) of = same_node node of
is_at_node (line.Status node) of = same_node node of
is_at_node (line.Fuse node disk calls tear) of = same_node node of
is_at_node (line.Cut node) of = same_node node of
is_at_node _ of = false

-- a line that uses the disks of a backup
abbrev pub is_on_backup : Line → Bool
is_on_backup (line.Deliver node k) = true
is_on_backup (line.Purge node) = true
is_on_backup (line.Takeover node) = true
is_on_backup (line.CopyAudit node from) = true
is_on_backup (line.List node vol) = is_backup_node node
is_on_backup (line.Restart node) = is_backup_node node
is_on_backup _ = false
