-- The node at a backup's site: it is there where the layout has the backup.
use Rattle.std.proofs.Common.{◌≡◌, not, ◌&&◌, Bool, true, false, Option, Some, None, refl, sym, ap, ◌∙◌}
use Rattle.std.proofs.lemmas.Bool.{and_parts}
use Rattle.std.specs.Prelude.{MatchOption}
use Rattle.rdf_types.specs.declared.layout.Layout.{Layout}
use Rattle.rdf_types.specs.declared.records.Node.{Node}
use Rattle.rdf_types.specs.declared.records.RecKey.{RecKey}
use Rattle.rdf_disk.specs.Files.{Disk}
use Rattle.rdf_disk.specs.Counts.{Counts}
use Rattle.rdf_disk.specs.declared.disk.Disk.{Ghosts}
use Rattle.plan_lang.specs.declared.lines.Line.TheVariants as line
use Rattle.plan_lang.specs.LineText.{same_node}
use Rattle.plan_lang.specs.Sessions.{fits_session}
use Rattle.rdf_core.specs.Allowed.{has_names, is_backup}
use Rattle.by_node.specs.Each.{at}
use Rattle.rdf_core.specs.State.{State as Whole, blank_backup}
use Rattle.backup_node.specs.declared.node.BackupNode.{BackupNode}
use Rattle.backup_node.specs.Nodes.{IsAt as BackupIsAt, IsAtSome, IsLaid}
use Rattle.rdf_system.specs.declared.system.System.{System}
use Rattle.rdf_system.specs.States.{MayServe, IsAtState, IsNodeOf, IsStood, IsSomewhere, IsWholeSite}
use Rattle.rdf_system.specs.NodeLines.{HasNode}
use Rattle.rdf_system.proofs.OnSite.{site_at}
use Rattle.rdf_system.proofs.PlaceLaws.{not_so}
use Rattle.rdf_system.proofs.Telling.{same_is}

-- what holds of it where it is there
module _ {X : Type 0} (b : Bool) (P : X → Type 0) (placed : b ≡ true) where
  of_it : (o : Option X) (Q : X → Type 0) → MatchOption o (b ≡ false) P → ((x : X) → P x → Q x) → MatchOption o ⊥ Q
  of_it None Q h f = not_so (sym h ∙ placed)
  of_it (Some x) Q h f = f x h

  there_too : (o : Option X) (N : Type 0) (Q R : X → Type 0) → MatchOption o (b ≡ false) P → MatchOption o N Q → ((x : X) → Q x → R x) → MatchOption o ⊥ R
  there_too None N Q R h k f = not_so (sym h ∙ placed)
  there_too (Some x) N Q R h k f = f x k

module _ {D : Type 0} {d : Ghosts D} (tells : Type 0) (files : D → Disk) (counts : D → Counts) (sys : System D d) (serves : MayServe tells files counts sys) (name : Node) (placed : is_backup sys.layout name ≡ true) where
  whole : IsWholeSite sys.layout name (site_at sys name)
  whole = serves.whole.sites name

  pub there_at : HasNode (λ n. Unit {0}) (site_at sys name)
  there_at = of_it (is_backup sys.layout name) (IsNodeOf sys.layout name) placed (site_at sys name).node (λ n. Unit {0}) whole.node (λ n h. tt)

  pub sized_at : HasNode (λ n. sys.layout.volumes ≡ n.volumes) (site_at sys name)
  sized_at = of_it (is_backup sys.layout name) (IsNodeOf sys.layout name) placed (site_at sys name).node (λ n. sys.layout.volumes ≡ n.volumes) whole.node (λ n h. sym h.sized)

  pub laid_at : HasNode (IsLaid sys.layout) (site_at sys name)
  laid_at = of_it (is_backup sys.layout name) (IsNodeOf sys.layout name) placed (site_at sys name).node (IsLaid sys.layout) whole.node (λ n h. h.laid)

  pub named_at : HasNode (λ n. n.name ≡ name) (site_at sys name)
  named_at = of_it (is_backup sys.layout name) (IsNodeOf sys.layout name) placed (site_at sys name).node (λ n. n.name ≡ name) whole.node (λ n h. h.named)

  pub was_placed : (layout : Layout) (s : Whole) → IsAtState files layout s sys → HasNode (BackupIsAt files layout s.primary.trail (at s.backups name)) (site_at sys name)
  was_placed layout s is = there_too (is_backup sys.layout name) (IsNodeOf sys.layout name) placed (site_at sys name).node ((at s.backups name) ≡ blank_backup layout)
      (BackupIsAt files layout s.primary.trail (at s.backups name)) (BackupIsAt files layout s.primary.trail (at s.backups name)) whole.node (is.sites name) (λ n h. h)

  -- a system that is where a run leads has the node at some state
  pub somewhere : IsStood files sys → IsSomewhere files sys.layout (site_at sys name)
  somewhere h = go (site_at sys name).node (was_placed sys.layout h.state h.at)
    where
      go : (o : Option (BackupNode D d)) → MatchOption o ⊥ (BackupIsAt files sys.layout h.state.primary.trail (at h.state.backups name)) → MatchOption o ⊥ (IsAtSome files sys.layout)
      go None k = k
      go (Some n) k = (h.state.primary.trail, (at h.state.backups name, k))

-- a read stands in a session of its node
pub read_fits : (of : Option Node) (node : Node) (key : RecKey) → fits_session of (line.Read node key) ≡ true → of ≡ Some node
read_fits None node key e = not_so e
read_fits (Some of) node key e = ap (λ (n : Node). Some n) (same_is of node e)

-- a copy names one backup and the other
module _ (layout : Layout) where
  pub copy_placed : (node from : Node) → has_names layout (line.CopyAudit node from) ≡ true → (is_backup layout node ≡ true) × (is_backup layout from ≡ true)
  copy_placed node from e = and_parts (is_backup layout node) (is_backup layout from) (and_parts (is_backup layout node && is_backup layout from) (not (same_node node from)) e).0

  pub copy_apart : (node from : Node) → has_names layout (line.CopyAudit node from) ≡ true → same_node node from ≡ false
  copy_apart node from e = not_true (same_node node from) (and_parts (is_backup layout node && is_backup layout from) (not (same_node node from)) e).1
    where
      not_true : (b : Bool) → not b ≡ true → b ≡ false
      not_true true h = not_so h
      not_true false h = refl
