-- A backup of the parts that changes, and the state with it.
use Rattle.std.proofs.Common.{◌≡◌, List, [], Result, Ok, Err, OnOk, sym, ap, ◌∙◌, subst}
use Rattle.rdf_types.specs.declared.layout.Layout.{Layout}
use Rattle.rdf_types.specs.declared.records.Node.{Node}
use Rattle.rdf_types.specs.declared.records.Node.TheVariants.{A, B, C}
use Rattle.rdf_types.specs.declared.records.Record.{Record}
use Rattle.by_node.specs.Each.{Each, at, with_at, with_at-keeps, at-map_each, map_each-with_at}
use Rattle.rdf_core.specs.Backup.{Backup}
use Rattle.rdf_core.specs.State.{with_backup}
use Rattle.backup_machine.specs.declared.backup.BackupState.{BackupState}
use Rattle.backup_machine.specs.declared.session.SessionState.{SessionState}
use Rattle.backup_machine.specs.Kept.{IsKept, Keeps, backup_of}
use Rattle.rdf_machine.specs.declared.parts.Parts.{Parts}
use Rattle.rdf_machine.specs.Machines.{AreFollowing, AreKept, state_of}

-- what follows the trail is kept of it
pub kept_of : (layout : Layout) (p : Parts) → AreFollowing layout p → AreKept layout p
kept_of layout p f = record { backups = λ node. (f.backups node).follows.kept; index = f.index }

-- no session has a say in it
pub kept_in : (layout : Layout) (p : Parts) (session : SessionState) → AreKept layout p → AreKept layout (record p { session = session })
kept_in layout p session kept = record { backups = kept.backups; index = kept.index }

-- the backup of a node is the state's
pub backup_at : (p : Parts) (node : Node) (was : BackupState) → was ≡ at p.backups node → backup_of was ≡ at (state_of p).backups node
backup_at p node was is = ap backup_of is ∙ sym (at-map_each backup_of p.backups node)

module _ (p : Parts) (node : Node) (b : BackupState) where
  -- the parts with another backup of the node
  abbrev pub with_one : Parts
  with_one = record p { backups = with_at p.backups node b }

  pub put : state_of with_one ≡ with_backup (state_of p) node (backup_of b)
  put = ap (λ (each : Each Backup). record (state_of p) { backups = each }) (map_each-with_at backup_of p.backups node b)

  -- what the backup became, the state's became
  pub put_on_ok : {E : Type 0} (r : Result (Unit {0}) E) (x : Backup) → OnOk r (backup_of b ≡ x) → OnOk r (state_of with_one ≡ with_backup (state_of p) node x)
  put_on_ok (Ok u) x is = put ∙ ap (with_backup (state_of p) node) is
  put_on_ok (Err e) x is = tt

  -- what was kept stays kept, where it is kept of this backup over the trail that was lent
  pub keep : (layout : Layout) (trail : List Record) → trail ≡ p.primary.trail → AreKept layout p → IsKept layout trail b → AreKept layout with_one
  keep layout trail is kept new = record {
    backups = with_at-keeps (λ _ x. IsKept layout p.primary.trail x) p.backups node b kept.backups (subst (λ (t : List Record). IsKept layout t b) is new);
    index = kept.index;
  }

  -- or where the backup keeps it over any
  pub keep_by : (session : SessionState) (was : BackupState) → was ≡ at p.backups node → Keeps was b → (layout : Layout) → AreKept layout p → AreKept layout (record p { backups = with_at p.backups node b; session = session })
  keep_by session was is keeps layout kept = record {
    backups = with_at-keeps (λ _ x. IsKept layout p.primary.trail x) p.backups node b kept.backups
        (keeps layout p.primary.trail (subst (λ (x : BackupState). IsKept layout p.primary.trail x) (sym is) (kept.backups node)));
    index = kept.index;
  }

-- each of the three that a system starts with is kept of its empty trail
pub kept_first : (layout : Layout) (trail : List Record) (each : Each BackupState) (a b c : BackupState) → trail ≡ [] → each ≡ record { a = a; b = b; c = c } → IsKept layout [] a → IsKept layout [] b → IsKept layout [] c → (node : Node) → IsKept layout trail (at each node)
kept_first layout trail each a b c none is x y z node = subst (λ (t : List Record). IsKept layout t (at each node)) (sym none) (subst (λ (all : Each BackupState). IsKept layout [] (at all node)) (sym is) (go node))
  where
    go : (n : Node) → (let all : Each BackupState = record { a = a; b = b; c = c } in IsKept layout [] (at all n))
    go A = x
    go B = y
    go C = z
