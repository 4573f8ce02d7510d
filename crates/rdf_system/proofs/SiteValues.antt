-- Sites of backups as values, also those that no memory holds, and lines that leave them.
use Rattle.std.proofs.Common.{◌≡◌, true, List, ◌++◌, Option, Some, None, Result, IfErr, refl, sym, ap, ◌∙◌, subst}
use Rattle.std.specs.Prelude.{MatchOption}
use Rattle.rdf_types.specs.declared.layout.Layout.{Layout}
use Rattle.rdf_types.specs.declared.records.Node.TheVariants.{A}
use Rattle.rdf_types.specs.declared.records.Record.{Record}
use Rattle.rdf_disk.specs.Files.{Disk}
use Rattle.rdf_disk.specs.Counts.{Counts}
use Rattle.rdf_disk.specs.declared.disk.Disk.{Ghosts}
use Rattle.rdf_model.specs.Contents.{nothing}
use Rattle.rdf_model.specs.Legal.{Legal}
use Rattle.plan_lang.specs.declared.lines.Line.{Line}
use Rattle.rdf_core.specs.declared.replies.Reply.{Reply}
use Rattle.plan_lang.specs.Sessions.{fits_session}
use Rattle.rdf_core.specs.Allowed.{has_names}
use Rattle.rdf_core.specs.Backup.{Backup}
use Rattle.rdf_core.specs.Primary.{Primary}
use Rattle.by_node.specs.Each.{Each, at}
use Rattle.rdf_core.specs.State.{State, blank_backup}
use Rattle.rdf_primary.specs.Standing.{PrimaryStandsFor}
use Rattle.rdf_backup.specs.Sessions.{Open, IsFed}
use Rattle.rdf_backup.specs.Standing.{BackupStandsFor}
use Rattle.primary_node.specs.Nodes.{disks_at, IsAt}
use Rattle.backup_node.specs.declared.node.BackupNode.{BackupNode}
use Rattle.backup_node.specs.Nodes.{disks_at as backup_disks, IsAt as BackupIsAt}
use Rattle.backup_node.specs.Open.{in_open}
use Rattle.senders.specs.Sending.{Sending}
use Rattle.rdf_system.specs.declared.fault.StepFault.{StepFault}
use Rattle.rdf_system.specs.declared.site.Site.{Site}
use Rattle.rdf_system.specs.declared.system.System.{System}
use Rattle.rdf_system.specs.Lines.{Does}
use Rattle.rdf_system.specs.Sessions.{node_of}
use Rattle.rdf_system.specs.NodeLines.{with_sites, DoesBeside}
use Rattle.rdf_system.specs.Opened.{shown_in}
use Rattle.rdf_system.specs.States.{layout_of, MayServe, IsAtState, DisksStandFor}
use Rattle.rdf_system.proofs.OnPrimary.{Longer, Stands}
use Rattle.rdf_system.proofs.SiteStates.{Beside}

-- the disks of each node stand for what it is at
abbrev pub NodesStand : {D : Type 0} → Ghosts D → (D → Disk) → Type 0
NodesStand {D = D} d files = (n : BackupNode D d) (layout : Layout) (trail : List Record) (b : Backup) → BackupIsAt files layout trail b n → BackupStandsFor files layout trail b (backup_disks n)

-- each node is at what it is at over a longer trail
abbrev pub NodesGoOn : {D : Type 0} → Ghosts D → (D → Disk) → Type 0
NodesGoOn {D = D} d files = (n : BackupNode D d) (layout : Layout) (trail more : List Record) (b : Backup) → Legal nothing (trail ++ more) → BackupIsAt files layout trail b n → BackupIsAt files layout (trail ++ more) b n

-- the updaters of an open session that are fed with a trail are fed with a longer one
abbrev pub SessionsGoOn : {D : Type 0} → Ghosts D → (D → Disk) → Type 0
SessionsGoOn {D = D} d files = (o : Open D d) (n : BackupNode D d) (layout : Layout) (trail more : List Record) (b : Backup) → BackupIsAt files layout trail b (in_open o n) → IsFed trail o → IsFed (trail ++ more) o

-- the disks of the primary stand for what it is at
abbrev pub PrimaryStands : {D : Type 0} {d : Ghosts D} → (D → Disk) → System D d → Type 0
PrimaryStands files sys = (layout : Layout) (a : Primary) → IsAt files layout a sys.primary → PrimaryStandsFor files layout a (disks_at sys.primary)

module _ {D : Type 0} {d : Ghosts D} (files : D → Disk) where
  pub site_stands : NodesStand d files → (site : Site D d) → Stands files site
  site_stands law site layout trail b h = go site.node h
    where
      go : (o : Option (BackupNode D d)) → MatchOption o (b ≡ blank_backup layout) (BackupIsAt files layout trail b) → MatchOption o (Unit {0}) (λ n. BackupStandsFor files layout trail b (backup_disks n))
      go None k = tt
      go (Some n) k = law n layout trail b k

  pub site_longer : NodesGoOn d files → (site : Site D d) → Longer files site
  site_longer law site layout trail more b legal h = go site.node h
    where
      go : (o : Option (BackupNode D d)) → MatchOption o (b ≡ blank_backup layout) (BackupIsAt files layout trail b) → MatchOption o (b ≡ blank_backup layout) (BackupIsAt files layout (trail ++ more) b)
      go None k = k
      go (Some n) k = law n layout trail more b legal k

  -- how they stand beside the one that does a line
  pub beside : (sys : System D d) → PrimaryStands files sys → NodesStand d files → Beside files sys
  beside sys a law = record { a = a; sites = λ node. site_stands law (at sys.sites node) }

  pub system_stands : (sys : System D d) → PrimaryStands files sys → NodesStand d files → (layout : Layout) (s : State) → IsAtState files layout s sys → DisksStandFor files layout s sys
  system_stands sys a law layout s is = record {
    laid = is.laid;
    primary = a layout s.primary is.primary;
    sites = λ node. site_stands law (at sys.sites node) layout s.primary.trail (at s.backups node) (is.sites node);
  }

-- a line on the sender's side, which leaves the primary's node, whatever the sites are
pub senders_beside : {D : Type 0} {d : Ghosts D} {tells : Type 0} {files : D → Disk} {counts : D → Counts} {Holds : System D d → Type 0} {l : Line} {result : Result Reply StepFault} (old : System D d) (ss : Sending) → IfErr result (λ why. why.node ≡ A) → (tells → PrimaryStands files old) → NodesStand d files →
    ((sites : Each (Site D d)) → Holds (with_sites old sites) → MayServe tells files counts (with_sites old sites) → has_names (layout_of old) l ≡ true → fits_session (node_of old.session) l ≡ true → (tells → (layout : Layout) (s : State) → IsAtState files layout s (with_sites old sites) → DisksStandFor files layout s (with_sites old sites)) →
    Does tells files counts l result (with_sites old sites) (with_sites (record old { senders = ss }) sites)) → DoesBeside tells files counts Holds l result old (record old { senders = ss })
senders_beside {files = files} old ss own a law does = record { rest = refl; serves = λ was. was; own = own; does = λ sites holds serves names fits. does sites holds serves names fits (λ t. system_stands files (with_sites old sites) (a t) law) }

-- a line that leaves the sites, whatever they are

rest_same : {D : Type 0} {d : Ghosts D} (old new : System D d) → new ≡ record old { primary = new.primary; senders = new.senders } → with_sites new old.sites ≡ new
rest_same {D = D} {d = d} old new e = ap (λ (x : System D d). with_sites x old.sites) e ∙ sym e

rest_shown : {D : Type 0} {d : Ghosts D} (o : Open D d) (n : BackupNode D d) (old new : System D d) → new ≡ record old { primary = new.primary; senders = new.senders } → with_sites new (shown_in o n old).sites ≡ shown_in o n new
rest_shown {D = D} {d = d} o n old new e = ap (λ (x : System D d). with_sites x (shown_in o n old).sites) e ∙ sym (ap (λ (x : System D d). shown_in o n x) e)

module _ {D : Type 0} {d : Ghosts D} {tells : Type 0} {files : D → Disk} {counts : D → Counts} {Holds : System D d → Type 0} {l : Line} {result : Result Reply StepFault} {old new : System D d} (h : DoesBeside tells files counts Holds l result old new) where
  -- over the system's own
  pub beside_does : Holds old → MayServe tells files counts old → has_names (layout_of old) l ≡ true → fits_session (node_of old.session) l ≡ true → Does tells files counts l result old new
  beside_does holds serves names fits = subst (λ (x : System D d). Does tells files counts l result old x) (rest_same old new h.rest) (h.does old.sites holds serves names fits)

  -- and as an open session shows them
  pub beside_shown : (o : Open D d) (n : BackupNode D d) → Holds (shown_in o n old) → MayServe tells files counts (shown_in o n old) → has_names (layout_of old) l ≡ true → fits_session (node_of old.session) l ≡ true →
      Does tells files counts l result (shown_in o n old) (shown_in o n new)
  beside_shown o n holds serves names fits = subst (λ (x : System D d). Does tells files counts l result (shown_in o n old) x) (rest_shown o n old new h.rest) (h.does (shown_in o n old).sites holds serves names fits)

-- so it goes wherever more is known of the sites
pub beside_for : {D : Type 0} {d : Ghosts D} {tells : Type 0} {files : D → Disk} {counts : D → Counts} {P Q : System D d → Type 0} {l : Line} {result : Result Reply StepFault} {old new : System D d} →
    ((sys : System D d) → Q sys → P sys) → DoesBeside tells files counts P l result old new → DoesBeside tells files counts Q l result old new
beside_for {old = old} known h = record { rest = h.rest; serves = h.serves; own = h.own; does = λ sites holds. h.does sites (known (with_sites old sites) holds) }
