-- Which lines a plan may have: words that the layout knows, and those that a session lets through.
use Rattle.std.specs.Prelude.{Bool, true, not, ◌&&◌, nat_le, Option, Some, None}
use Rattle.rdf_types.specs.declared.layout.Layout.{Layout}
use Rattle.rdf_types.specs.declared.records.Node.{Node}
use Rattle.plan_lang.specs.declared.lines.Line.{Line}
use Rattle.plan_lang.specs.declared.lines.Line.TheVariants as line
use Rattle.rdf_core.specs.Sessions.{Session, Closed, Refused, Open}
use Rattle.plan_lang.specs.LineText as text
use Rattle.plan_lang.specs.LineText.{same_node}
use Rattle.plan_lang.specs.Sessions.{fits_session}

-- the layout has the node as a backup
abbrev pub is_backup : Layout → Node → Bool
is_backup layout node = text.is_backup layout.backups node

-- the layout has the node
abbrev pub is_node : Layout → Node → Bool
is_node layout node = text.is_node layout.backups node

-- the line's nodes and numbers are in their ranges
abbrev pub has_names : Layout → Line → Bool
has_names layout (line.Send node most) = is_backup layout node && nat_le 1 most && nat_le most 64
has_names layout (line.Rewind node) = is_backup layout node
has_names layout (line.Ack node) = is_backup layout node
has_names layout (line.Deliver node k) = is_backup layout node
has_names layout (line.Session node) = is_backup layout node
has_names layout (line.Read node key) = is_backup layout node
has_names layout (line.Purge node) = is_backup layout node
has_names layout (line.Takeover node) = is_backup layout node
has_names layout (line.CopyAudit node from) = is_backup layout node && is_backup layout from && not (same_node node from)
has_names layout (line.List node vol) = is_node layout node
has_names layout (line.Info node) = is_backup layout node
has_names layout (line.Status node) = is_node layout node
has_names layout (line.Fuse node disk calls tear) = is_node layout node && nat_le disk 16 && nat_le calls 1000000
has_names layout (line.Cut node) = is_node layout node
has_names layout (line.Restart node) = is_node layout node
has_names layout _ = true

-- whose session is open, refused or not
abbrev pub open_node : Session → Option Node
open_node Closed = None
open_node (Refused of why) = Some of
open_node (Open o) = Some o.node

-- the layout knows the line's words, and the session lets it through
abbrev pub allowed : Layout → Session → Line → Bool
allowed layout session l = has_names layout l && fits_session (open_node session) l
