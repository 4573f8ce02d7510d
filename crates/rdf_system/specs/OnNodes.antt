-- Which node a line is on.
use Rattle.std.specs.Prelude.{◌≡◌, Bool, true, false}
use Rattle.rdf_types.specs.declared.records.Node.{Node}
use Rattle.rdf_types.specs.declared.records.Node.TheVariants.{A}
use Rattle.by_node.specs.Each.{at}
use Rattle.rdf_disk.specs.declared.disk.Disk.{Ghosts}
use Rattle.plan_lang.specs.declared.lines.Line.{Line}
use Rattle.plan_lang.specs.declared.lines.Line.TheVariants as line
use Rattle.rdf_core.specs.Step.{is_for_primary}
use Rattle.rdf_system.specs.declared.site.Site.{Site}
use Rattle.rdf_system.specs.declared.system.System.{System}

-- a line on the primary alone, or its restart
abbrev pub is_on_primary : Line → Bool
is_on_primary (line.Restart A) = true
is_on_primary l = is_for_primary l

-- a line on the sender's side of a backup
abbrev pub is_of_sender : Line → Bool
is_of_sender (line.Send node most) = true
is_of_sender (line.Rewind node) = true
is_of_sender (line.Ack node) = true
is_of_sender _ = false

-- a line that changes the backup alone
abbrev pub is_of_backup : Node → Line → Type 0
is_of_backup name (line.Deliver node k) = node ≡ name
is_of_backup name (line.Takeover node) = node ≡ name
is_of_backup name (line.List node vol) = node ≡ name
is_of_backup name (line.Info node) = node ≡ name
is_of_backup name (line.Purge node) = node ≡ name
is_of_backup name (line.Status node) = node ≡ name
is_of_backup name (line.Fuse node disk calls tear) = node ≡ name
is_of_backup name (line.Cut node) = node ≡ name
is_of_backup name (line.Restart node) = node ≡ name
is_of_backup name (line.CopyAudit node from) = node ≡ name
is_of_backup name _ = ⊥

-- the site of a node
abbrev pub site_at : {D : Type 0} {d : Ghosts D} → System D d → Node → Site D d
site_at sys node = at sys.sites node

-- a line that a backup's node does: one that changes the backup alone, one that opens a session, or a read in one
abbrev pub is_done_by : Node → Line → Type 0
is_done_by name (line.Session node) = node ≡ name
is_done_by name (line.Read node key) = node ≡ name
is_done_by name l = is_of_backup name l
