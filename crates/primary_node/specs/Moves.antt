-- How the primary's node stands, as far as lines are refused by that, and how lines move it, whatever its disks tell.
use Rattle.std.specs.Prelude.{◌≡◌, Bool, Option, Some, None, Result, IfOk}
use Rattle.rdf_disk.specs.declared.disk.Disk.{Ghosts}
use Rattle.plan_lang.specs.declared.lines.Line.{Line}
use Rattle.plan_lang.specs.declared.lines.Line.TheVariants as line
use Rattle.node_faults.specs.declared.NodeFault.{NodeFault}
use Rattle.rdf_core.specs.declared.events.Standing.{Standing}
use Rattle.rdf_core.specs.declared.events.Standing.TheVariants.{Up, Down, Lost}
use Rattle.rdf_core.specs.declared.replies.Reply.{Reply}
use Rattle.rdf_core.specs.declared.replies.Reply.TheVariants.{Done, Number, Stopped}
use Rattle.rdf_primary.specs.declared.primary.Primary.{Primary}
use Rattle.primary_node.specs.declared.node.PrimaryNode.{PrimaryNode}
use Rattle.primary_node.specs.Nodes.{standing_off}

-- up where there is a primary; a lost one is not up
abbrev pub standing_by : {D : Type 0} {d : Ghosts D} → Option (Primary D d) → Bool → Standing
standing_by None lost = standing_off lost
standing_by (Some p) lost = Up

abbrev pub standing_at : {D : Type 0} {d : Ghosts D} → PrimaryNode D d → Standing
standing_at n = standing_by n.primary n.lost

-- a stop takes the node down, and any other reply leaves it as it stands
abbrev pub stays : Reply → Standing → Standing
stays (Stopped node) old = Down
stays _ old = old

-- so does a cut that is done
abbrev pub falls : Reply → Standing → Standing
falls (Stopped node) old = Down
falls Done old = Down
falls _ old = old

-- a loss that is done loses it
abbrev pub loses : Reply → Standing → Standing
loses (Stopped node) old = Down
loses Done old = Lost
loses _ old = old

-- a restart that is done takes it up
abbrev pub rises : Reply → Standing → Standing
rises (Stopped node) old = Down
rises (Number n) old = Up
rises _ old = old

-- how the node stands behind a line with that reply
abbrev pub standing_behind : Line → Reply → Standing → Standing
standing_behind line.Lose reply old = loses reply old
standing_behind (line.Cut node) reply old = falls reply old
standing_behind (line.Restart node) reply old = rises reply old
standing_behind _ reply old = stays reply old

-- so a line moved it
abbrev pub IsMoved : {D : Type 0} {d : Ghosts D} → Line → Result Reply NodeFault → PrimaryNode D d → PrimaryNode D d → Type 0
IsMoved l result old new = IfOk result (λ reply. standing_at new ≡ standing_behind l reply (standing_at old))
