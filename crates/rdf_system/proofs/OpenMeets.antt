-- A line on the session's own node that was answered, by its kind.
use Rattle.std.proofs.Common.{◌≡◌, ℕ, true, List, Option, Result, Ok, sym, ap, ◌∙◌, subst}
use Rattle.rdf_types.specs.declared.layout.Layout.{Layout}
use Rattle.rdf_types.specs.declared.records.Node.{Node}
use Rattle.rdf_disk.specs.Files.{Disk}
use Rattle.rdf_disk.specs.Counts.{Counts}
use Rattle.rdf_disk.specs.declared.disk.Disk.{Ghosts}
use Rattle.plan_lang.specs.declared.lines.Line.{Line}
use Rattle.plan_lang.specs.declared.lines.Line.TheVariants as line
use Rattle.plan_lang.specs.Sessions.{goes_in, fits_session}
use Rattle.node_faults.specs.declared.NodeFault.{NodeFault}
use Rattle.rdf_core.specs.declared.replies.Reply.{Reply}
use Rattle.rdf_core.specs.Allowed.{is_backup}
use Rattle.rdf_backup.specs.Sessions.{Open}
use Rattle.backup_node.specs.declared.node.BackupNode.{BackupNode}
use Rattle.backup_node.specs.Lines.{DoesAt}
use Rattle.rdf_system.specs.declared.session.SessionState.{SessionState}
use Rattle.rdf_system.specs.Lines.{Does}
use Rattle.rdf_system.specs.NodeLines.{BackupDoes}
use Rattle.rdf_system.specs.Noting.{behind}
use Rattle.rdf_system.specs.OpenLines.{DoesOpen, IsOwnLine, MeetsFor}
use Rattle.rdf_system.specs.Opened.{OpenView, shown, IsOpenAt}
use Rattle.rdf_system.specs.Sessions.{node_of}
use Rattle.rdf_system.proofs.OnLines.{Lifts, LiftsCut, PresentGo}
use Rattle.rdf_system.proofs.OnSite.{Beside}
use Rattle.rdf_system.proofs.OpenFeeds.{IsSuited}
use Rattle.rdf_system.proofs.OpenOwn.{own_answers}
use Rattle.rdf_system.proofs.OpenPurges.{purge_open}
use Rattle.rdf_system.proofs.OpenReads.{read_open}
use Rattle.rdf_system.proofs.SessionReads.{Laws}
use Rattle.rdf_system.proofs.SiteValues.{NodesStand}
use Rattle.rdf_system.proofs.Telling.{same_is}

-- what the session's node does the system has from it
site_has : {D : Type 0} {d : Ghosts D} {tells : Type 0} {files : D → Disk} {counts : D → Counts} {own : Layout} {P : BackupNode D d → BackupNode D d → Type 0} {Goes : Line → Result Reply NodeFault → BackupNode D d → BackupNode D d → Type 0} {l : Line} {result : Result Reply NodeFault} {old new : BackupNode D d} →
    (Goes l result old new → P old new) → DoesAt tells files counts Goes l result old new → BackupDoes tells files counts own P l result old new
site_has {own = own} f h = record { performs = λ t. f (h.performs t); keeps = h.keeps; laid = h.laid own; sound = h.sound }

module _ {D : Type 0} {d : Ghosts D} {tells : Type 0} {files : D → Disk} {counts : D → Counts} (x : OpenView D d) (is_open : IsOpenAt tells files counts x) (new : Open D d) (stand : NodesStand d files) (others : tells → Beside files (shown x)) (laws : Laws) (lifts : Lifts) (cuts : LiftsCut) (go_by : PresentGo)
    (message : Option (List ℕ)) (reply : Reply) where
  -- the session behind the line
  abbrev pub behind_it : Line → OpenView D d
  behind_it l = record { session = new; node = x.node; system = record x.system { session = behind x.system.session l reply } }

  fits_here : (l : Line) → goes_in x.node.name l ≡ true → fits_session (node_of x.system.session) l ≡ true
  fits_here l e = ap (λ (ss : SessionState). fits_session (node_of ss) l) is_open.open_is ∙ e

  as_open : (l : Line) → Does tells files counts l (Ok reply) (shown x) (shown (behind_it l)) → DoesOpen tells files counts l (Ok reply) x (behind_it l)
  as_open l h = record { performs = λ t layout s rise some risen fed is. h.performs t layout s rise some risen is; keeps = h.keeps }

  pub own_does : (l : Line) → IsOwnLine l → goes_in x.node.name l ≡ true → IsSuited tells files x message l → MeetsFor tells files counts message l (Ok reply) x.node x.session new → DoesOpen tells files counts l (Ok reply) x (behind_it l)
  own_does (line.Deliver node k) own e suits meets =
      let same : node ≡ x.node.name = sym (same_is x.node.name node e) in
      as_open (line.Deliver node k) (own_answers x is_open new stand message others lifts cuts go_by reply (line.Deliver node k) same (ap (is_backup x.system.layout) same ∙ is_open.placed) (fits_here (line.Deliver node k) e) suits (site_has (λ p. p) (meets same).answered))
  own_does (line.Purge node) own e suits meets =
      let same : node ≡ x.node.name = sym (same_is x.node.name node e) in
      subst (λ (m : Node). DoesOpen tells files counts (line.Purge m) (Ok reply) x (behind_it (line.Purge m))) (sym same) (purge_open x is_open new stand others laws lifts cuts go_by reply (site_has (λ p. p) (meets same).answered))
  own_does (line.Read node key) own e suits meets =
      let same : node ≡ x.node.name = sym (same_is x.node.name node e) in
      subst (λ (m : Node). DoesOpen tells files counts (line.Read m key) (Ok reply) x (behind_it (line.Read m key))) (sym same) (read_open x is_open new stand others laws key reply (site_has (λ p. p) (meets same).answered))
  own_does _ own e suits meets = absurd own
