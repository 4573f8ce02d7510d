-- Laws of allowed lines: those of a plan are.
use Rattle.std.proofs.Common.{◌≡◌, true, not, ◌&&◌, nat_le, List, [], ◌∷◌, Some, IsTrue, refl}
use Rattle.std.specs.List.{AllPass, AllByRecursion, list_all}
use Rattle.std.proofs.lemmas.List.Sums.{AllPass-from_list_all}
use Rattle.rdf_types.specs.declared.layout.Layout.{Layout}
use Rattle.plan_lang.specs.declared.lines.Line.{Line}
use Rattle.plan_lang.specs.declared.lines.Line.TheVariants as line
use Rattle.plan_lang.specs.declared.lines.Plan.{Plan}
use Rattle.plan_lang.specs.LineText as text
use Rattle.plan_lang.specs.LineText.{IsLine, same_node}
use Rattle.plan_lang.specs.PlanText.{IsPlan}
use Rattle.plan_lang.specs.Sessions.{goes_in}
use Rattle.rdf_types.specs.declared.records.Node.{Node}
use Rattle.rdf_types.specs.declared.records.Node.TheVariants.{A, B, C}
use Rattle.rdf_core.specs.Allowed.{allowed, is_backup, is_node, has_names}
use Rattle.rdf_core.specs.Sessions.{Opened, Open, is_backup_node}
use Rattle.rdf_core.specs.Step.{disks_of, is_of_session}
use Rattle.std.proofs.lemmas.Bool.{and_from, and_parts, le-leb}

line_named : (layout : Layout) (l : Line) → IsLine layout.backups l → has_names layout l ≡ true
line_named layout (line.Begin t) h = refl
line_named layout (line.Insert t k value) h = refl
line_named layout (line.Update t k value) h = refl
line_named layout (line.Delete t k) h = refl
line_named layout (line.Get t k) h = refl
line_named layout (line.Commit t) h = refl
line_named layout (line.Abort t) h = refl
line_named layout (line.Send node most) h =
    and_from (is_backup layout node && nat_le 1 most) (nat_le most 64) (and_from (is_backup layout node) (nat_le 1 most) h.0 (le-leb 1 most h.1.0.0)) (le-leb most 64 h.1.0.1)
line_named layout (line.Rewind node) h = h.0
line_named layout (line.Ack node) h = h.0
line_named layout (line.Deliver node k) h = h.0
line_named layout line.Lose h = refl
line_named layout (line.Session node) h = h.0
line_named layout (line.Read node k) h = h.0
line_named layout (line.Purge node) h = h.0
line_named layout line.End h = refl
line_named layout (line.Takeover node) h = h.0
line_named layout (line.CopyAudit node from) h =
    and_from (is_backup layout node && is_backup layout from) (not (same_node node from))
    (and_from (is_backup layout node) (is_backup layout from) h.0 (and_parts (text.is_backup layout.backups from) (not (same_node node from)) h.1.0).0)
    (and_parts (text.is_backup layout.backups from) (not (same_node node from)) h.1.0).1
line_named layout (line.List node vol) h = h.0
line_named layout (line.Info node) h = h.0
line_named layout (line.Status node) h = h.0
line_named layout (line.Fuse node disk calls t) h =
    and_from (is_node layout node && nat_le disk 16) (nat_le calls 1000000) (and_from (is_node layout node) (nat_le disk 16) h.0 (le-leb disk 16 h.1.0.1)) (le-leb calls 1000000 h.1.1.0.1)
line_named layout (line.Cut node) h = h.0
line_named layout (line.Restart node) h = h.0

-- in a session, of the disks of its node only those that a `deliver` or a `purge` uses may stop
pub session_stops : (layout : Layout) (o : Opened) (l : Line) → is_backup_node o.node ≡ true → IsTrue (allowed layout (Open o) l) → disks_of l ≡ Some o.node → is_of_session l ≡ true
session_stops layout o l backup may of = used o.node l backup (and_parts (has_names layout l) (goes_in o.node l) may).1 of
  where
    used : (node : Node) (l : Line) → is_backup_node node ≡ true → goes_in node l ≡ true → disks_of l ≡ Some node → is_of_session l ≡ true
    used node (line.Deliver at k) backup fits of = refl
    used node (line.Purge at) backup fits of = refl
    used A l backup fits of = cc
    used B _ backup fits of = cc
    used C _ backup fits of = cc

-- a backup that the layout has is a node of it
pub is_placed : (layout : Layout) (node : Node) → is_backup layout node ≡ true → is_node layout node ≡ true
is_placed layout A e = refl
is_placed layout B e = refl
is_placed layout C e = e

-- the names of lines that a system may have are known
pub all_named : (layout : Layout) (lines : List Line) → AllByRecursion (IsLine layout.backups) lines → list_all (has_names layout) lines ≡ true
all_named layout [] h = refl
all_named layout (l ∷ rest) h = and_from (has_names layout l) (list_all (has_names layout) rest) (line_named layout l h.0) (all_named layout rest h.1)

-- so are those of the lines of a plan
pub plan_named : (plan : Plan) → IsPlan plan → AllPass (has_names plan.layout) plan.lines
plan_named plan is = AllPass-from_list_all (has_names plan.layout) plan.lines (all_named plan.layout plan.lines is.lines)
