-- A node's own line is the one that was asked for.
use Rattle.std.proofs.Common.{◌≡◌, ℕ, List, Option, Result, sym, ap, ◌∙◌, subst}
use Rattle.rdf_types.specs.declared.layout.Layout.{Layout}
use Rattle.rdf_types.specs.declared.records.Node.{Node}
use Rattle.rdf_disk.specs.Files.{Disk}
use Rattle.rdf_disk.specs.Counts.{Counts}
use Rattle.rdf_disk.specs.declared.disk.Disk.{Ghosts}
use Rattle.plan_lang.specs.declared.lines.Line.{Line}
use Rattle.node_faults.specs.declared.NodeFault.{NodeFault}
use Rattle.rdf_core.specs.declared.replies.Reply.{Reply}
use Rattle.node_faults.specs.Faults.{IsSound}
use Rattle.backup_node.specs.declared.node.BackupNode.{BackupNode}
use Rattle.backup_node.specs.Nodes.{IsLaid}
use Rattle.backup_node.specs.Lines.{Keeps, Does}
use Rattle.rdf_system.specs.NodeLines.{is_on_backup, LinePerforms, BackupDoes}

-- a line of that name on the node
pub named : {name : Node} {l : Line} (f : Node → Line) (node : Node) → is_on_backup name l → l ≡ f node → (is_on_backup name (f node) → node ≡ name) → l ≡ f name
named {name} {l} f node on e own = e ∙ ap f (own (subst (λ (x : Line). is_on_backup name x) e on))

module _ {D : Type 0} {d : Ghosts D} (tells : Type 0) (files : D → Disk) (counts : D → Counts) (own : Layout) (message : Option (List ℕ)) (result : Result Reply NodeFault) (old new : BackupNode D d) (l x : Line) (is : l ≡ x) where
  -- the node does that line
  abbrev Did : Line → Type 0
  Did y = BackupDoes tells files counts own (LinePerforms files own message y result) y result old new

  pub did : {Goes : Line → Result Reply NodeFault → BackupNode D d → BackupNode D d → Type 0} → Does tells files counts Goes x result old new → (Goes x result old new → LinePerforms files own message x result old new) → Did l
  did h asked = subst (λ (y : Line). Did y) (sym is) (record { performs = λ t. asked (h.performs t); keeps = h.keeps; laid = h.laid own; sound = λ t layout trail b at. h.sound t })

  -- a restart keeps this layout
  pub restarted : (tells → LinePerforms files own message x result old new) → Keeps tells files counts x result old new → (IsLaid own old → IsLaid own new) → (tells → IsSound result) → Did l
  restarted goes keeps laid sound = subst (λ (y : Line). Did y) (sym is) (record { performs = goes; keeps = keeps; laid = laid; sound = λ t layout trail b at. sound t })
