-- A line that goes in no session, by the node at a backup's site: a takeover, or a copy of audit from the other's.
use Rattle.std.proofs.Common.{◌≡◌, ◌∙◌, true, false, List, Option, Some, None, Result, Ok, Err, refl, sym, ap, subst, Bool}
use Rattle.std.specs.Prelude.{MatchOption}
use Rattle.rdf_types.specs.declared.layout.Layout.{Layout}
use Rattle.rdf_types.specs.declared.records.Node.{Node}
use Rattle.rdf_types.specs.declared.records.Record.{Record}
use Rattle.rdf_disk.specs.Files.{Disk}
use Rattle.rdf_disk.specs.Counts.{Counts}
use Rattle.rdf_disk.specs.declared.disk.Disk.{Ghosts}
use Rattle.node_faults.specs.declared.NodeFault.{NodeFault}
use Rattle.node_disks.specs.Cuts.{IfBoth}
use Rattle.plan_lang.specs.Sessions.{fits_session, goes_in}
use Rattle.plan_lang.specs.declared.lines.Line.{Line}
use Rattle.plan_lang.specs.declared.lines.Line.TheVariants as line
use Rattle.rdf_core.specs.declared.replies.Reply.{Reply}
use Rattle.rdf_core.specs.Allowed.{is_backup, has_names}
use Rattle.rdf_core.specs.Backup.{Around, Backup}
use Rattle.by_node.specs.Each.{at}
use Rattle.rdf_core.specs.State.{State}
use Rattle.rdf_backup.specs.Standing.{BackupStandsFor}
use Rattle.backup_node.specs.Kinds.{IsCopied, IsTakenOver}
use Rattle.backup_node.specs.declared.node.BackupNode.{BackupNode}
use Rattle.backup_node.specs.Nodes.{disks_at, IsAt, IsLaid}
use Rattle.backup_node.specs.Lines.{FromLead, Performs, PerformsWhere, Does as NodeDoes, DoesAt}
use Rattle.rdf_system.proofs.Judging.{copy_judged, lost_is, phase_there, takeover_judged, unlost}
use Rattle.rdf_system.specs.declared.session.SessionState.{SessionState}
use Rattle.rdf_system.specs.declared.session.SessionState.TheVariants.{Closed, Refused, Open}
use Rattle.rdf_system.specs.declared.site.Site.{Site}
use Rattle.rdf_system.specs.declared.system.System.{System}
use Rattle.rdf_system.specs.Lines.{Does}
use Rattle.rdf_system.specs.Noting.{noted}
use Rattle.rdf_system.specs.Sessions.{node_of}
use Rattle.rdf_system.specs.States.{MayServe, IsAtState}
use Rattle.rdf_system.specs.NodeLines.{is_of_backup, AtBackup, BackupDoes, FromSite, HasNode, SiteDoes, about, site_at, with_site}
use Rattle.rdf_system.proofs.OnLines.{Lifts, LiftsCut, PresentGo, plain_answers, plain_fails}
use Rattle.rdf_system.proofs.OnSite.{Beside, at_backup}
use Rattle.rdf_system.proofs.PlaceLaws.{not_so}
use Rattle.rdf_system.proofs.SessionRuns.{back_again, holding, site_with}
use Rattle.rdf_system.proofs.SiteParts.{behind_is}
use Rattle.rdf_system.proofs.SiteValues.{NodesStand, site_stands}
use Rattle.rdf_system.specs.Stances.{IsJudgedBy, stances_of}
use Rattle.plan_lang.specs.LineText.{same_node}
use Rattle.rdf_core.specs.NodeLaws.{at_other}

-- what holds of the node at a site
pub at_node : {D : Type 0} {d : Ghosts D} (P : BackupNode D d → Type 0) (site : Site D d) (n : BackupNode D d) → site.node ≡ Some n → HasNode P site → P n
at_node {D = D} {d = d} P site n is h = subst (λ (o : Option (BackupNode D d)). MatchOption o ⊥ P) is h

-- and what holds of that node holds of the one at the site
pub node_at : {D : Type 0} {d : Ghosts D} (P : BackupNode D d → Type 0) (site : Site D d) (n : BackupNode D d) → site.node ≡ Some n → P n → HasNode P site
node_at {D = D} {d = d} P site n is h = subst (λ (o : Option (BackupNode D d)). MatchOption o ⊥ P) (sym is) h

-- a line on the node of its own name, as one on the backup of that name
module _ {D : Type 0} {d : Ghosts D} (tells : Type 0) (files : D → Disk) (counts : D → Counts) (own : Layout) (Goes : Line → Result Reply NodeFault → BackupNode D d → BackupNode D d → Type 0) (f : Node → Line) (result : Result Reply NodeFault)
    (n new : BackupNode D d) where
  pub node_did : (name : Node) → n.name ≡ name → DoesAt tells files counts Goes (f n.name) result n new → BackupDoes tells files counts own (Goes (f name) result) (f name) result n new
  node_did name same h =
      let does = subst (λ (x : Node). DoesAt tells files counts Goes (f x) result n new) same h in
      record { performs = does.performs; keeps = does.keeps; laid = does.laid own; sound = does.sound }

  -- the same at its site
  pub site_did : (site : Site D d) → site.node ≡ Some n → DoesAt tells files counts Goes (f n.name) result n new → (tells → (layout : Layout) (trail : List Record) (b : Backup) → IsAt files layout trail b new → BackupStandsFor files layout trail b (disks_at new)) →
      (name : Node) → HasNode (λ m. m.name ≡ name) site → SiteDoes tells files counts own (Goes (f name) result) (f name) result site (record site { node = Some new })
  site_did site is h stands name named = record {
    node = subst (λ (o : Option (BackupNode D d)). IfBoth (λ x y. BackupDoes tells files counts own (Goes (f name) result) (f name) result x y) o (Some new)) (sym is) (node_did name (at_node (λ m. m.name ≡ name) site n is named) h);
    spare = refl;
    room = refl;
    stands = stands;
  }

-- where no damage is told, none is told at a state
pub at_state : {D : Type 0} {d : Ghosts D} {tells : Type 0} {files : D → Disk} {counts : D → Counts} {Goes : Line → Result Reply NodeFault → BackupNode D d → BackupNode D d → Type 0} {l : Line} {result : Result Reply NodeFault} {old new : BackupNode D d} →
    NodeDoes tells files counts Goes l result old new → DoesAt tells files counts Goes l result old new
at_state h = record { performs = h.performs; keeps = h.keeps; laid = h.laid; sound = λ t layout trail b at. h.sound t }

-- one layout for both
pub same_layout : {D : Type 0} {d : Ghosts D} (own : BackupNode D d) (lead : Site D d) (n : BackupNode D d) → lead.node ≡ Some n → (layout : Layout) × (IsLaid layout own × HasNode (IsLaid layout) lead) → (layout : Layout) × (IsLaid layout own × IsLaid layout n)
same_layout own lead n is h = (h.0, (h.1.0, at_node (IsLaid h.0) lead n is h.1.1))

-- a copy from the node at a site is one from that site
pub from_site : {D : Type 0} {d : Ghosts D} (tells : Type 0) (files : D → Disk) (counts : D → Counts) (own : Layout) (node from : Node) (lead : Site D d) (n : BackupNode D d) (result : Result Reply NodeFault) (old new : BackupNode D d) → lead.node ≡ Some n →
    BackupDoes tells files counts own (Performs files (FromLead files n) (line.CopyAudit node from) result) (line.CopyAudit node from) result old new →
    BackupDoes tells files counts own (Performs files (FromSite files lead) (line.CopyAudit node from) result) (line.CopyAudit node from) result old new
from_site {D = D} {d = d} tells files counts own node from lead n result old new is h = subst (λ (o : Option (BackupNode D d)). BackupDoes tells files counts own
    (Performs files (λ layout (w : Around). MatchOption o ⊥ (λ m. FromLead files m layout w)) (line.CopyAudit node from) result) (line.CopyAudit node from) result old new) (sym is) h

-- a node that is lent, does a line and is put back
module _ {D : Type 0} {d : Ghosts D} (old lent : System D d) (name : Node) (away : lent ≡ holding old name None) where
  -- the other site is as it was meanwhile
  pub lead_is : (from : Node) → same_node name from ≡ false → (lead : Site D d) → lead ≡ site_at lent from → lead ≡ site_at old from
  lead_is from far lead is = is ∙ ap (λ (y : System D d). site_at y from) away ∙ at_other old.sites name (site_with old name None) from far

  -- it did the line at its site
  pub put_back_did : {tells : Type 0} {files : D → Disk} {counts : D → Counts} {P : BackupNode D d → BackupNode D d → Type 0} (l : Line) (result : Result Reply NodeFault) (was now : BackupNode D d) → (site_at old name).node ≡ Some was → NodesStand d files →
      BackupDoes tells files counts old.layout P l result was now → (new : System D d) → new ≡ holding lent name (Some now) → AtBackup tells files counts P name l result old new
  put_back_did {tells} {files} {counts} {P} l result was now there stand does new is = subst (λ (y : System D d). AtBackup tells files counts P name l result old y)
      (sym (is ∙ ap (λ (y : System D d). holding y name (Some now)) away ∙ back_again old name None (Some now)))
      (at_backup l result old name (site_at old name) (site_with old name (Some now)) refl (record {
        node = subst (λ (o : Option (BackupNode D d)). IfBoth (λ x y. BackupDoes tells files counts old.layout P l result x y) o (Some now)) (sym there) does;
        spare = refl;
        room = refl;
        stands = λ t. site_stands files stand (site_with old name (Some now));
      }))

-- a line that goes in no session leaves the session
closed_is : (session : SessionState) (l : Line) (reply : Reply) → ((of : Node) → goes_in of l ≡ false) → fits_session (node_of session) l ≡ true → noted session reply ≡ session
closed_is Closed l reply none fits = refl
closed_is (Refused of why) l reply none fits = refl
closed_is (Open of stopped) l reply none fits = not_so (sym (none of) ∙ fits)

-- the node at the backup's site did it
module _ {D : Type 0} {d : Ghosts D} {tells : Type 0} {files : D → Disk} {counts : D → Counts} {old new : System D d} (name : Node) (Holds : Layout → Around → Backup → Type 0) {l : Line} (on : is_of_backup name l) (none : (of : Node) → goes_in of l ≡ false)
    (serves : MayServe tells files counts old) (placed : is_backup old.layout name ≡ true) (names : has_names old.layout l ≡ true) (fits : fits_session (node_of old.session) l ≡ true) (beside : tells → Beside files old)
    (suits : tells → (layout : Layout) (s : State) → IsAtState files layout s old → Holds layout (about layout s l) (at s.backups name)) where
  pub closed_answers : (reply : Reply) → IsJudgedBy (stances_of old) l reply → Lifts → LiftsCut → PresentGo → AtBackup tells files counts (PerformsWhere files Holds l (Ok reply)) name l (Ok reply) old new → Does tells files counts l (Ok reply) old new
  closed_answers reply judged lifts cuts go_by h = subst (λ (x : System D d). Does tells files counts l (Ok reply) old x) (sym h.rest)
      (subst (λ (x : SessionState). Does tells files counts l (Ok reply) old (with_site old name (site_at new name) x)) (behind_is old.session name l reply on ∙ closed_is old.session l reply none fits)
      (plain_answers name Holds on serves placed names fits beside suits reply judged lifts cuts go_by h.does))

  pub closed_fails : (why : NodeFault) → AtBackup tells files counts (PerformsWhere files Holds l (Err why)) name l (Err why) old new → Does tells files counts l (Err (record { node = name; fault = why })) old new
  closed_fails why h = subst (λ (x : System D d). Does tells files counts l (Err (record { node = name; fault = why })) old x) (sym h.rest) (plain_fails name Holds on serves placed names fits beside suits why h.does)

-- how a takeover and a copy are answered for how the nodes stand

pub taken_judged : {D : Type 0} {d : Ghosts D} {tells : Type 0} {files : D → Disk} {counts : D → Counts} (old : System D d) (name : Node) → MayServe tells files counts old → is_backup old.layout name ≡ true → (lost : Bool) → lost ≡ old.primary.lost → (reply : Reply) →
    HasNode (IsTakenOver lost (Ok reply)) (site_at old name) → IsJudgedBy (stances_of old) (line.Takeover name) reply
taken_judged {D} {d} {tells} {files} {counts} old name serves placed lost is reply h = by (site_at old name).node refl h
  where
    by : (o : Option (BackupNode D d)) → (site_at old name).node ≡ o → MatchOption o ⊥ (IsTakenOver lost (Ok reply)) → IsJudgedBy (stances_of old) (line.Takeover name) reply
    by None e k = absurd k
    by (Some n) e k = takeover_judged (stances_of old) old.layout name placed n n (phase_there old name n e) lost (lost_is old.primary (unlost tells files counts old.primary serves.primary) ∙ sym is) reply k

pub copied_judged : {D : Type 0} {d : Ghosts D} (old : System D d) (name from : Node) (reply : Reply) → HasNode (λ n. HasNode (λ lead. IsCopied from lead (Ok reply) n) (site_at old from)) (site_at old name) → IsJudgedBy (stances_of old) (line.CopyAudit name from) reply
copied_judged {D} {d} old name from reply h = by (site_at old name).node (site_at old from).node refl refl h
  where
    by : (o m : Option (BackupNode D d)) → (site_at old name).node ≡ o → (site_at old from).node ≡ m → MatchOption o ⊥ (λ n. MatchOption m ⊥ (λ lead. IsCopied from lead (Ok reply) n)) → IsJudgedBy (stances_of old) (line.CopyAudit name from) reply
    by None m e f k = absurd k
    by (Some n) None e f k = absurd k
    by (Some n) (Some lead) e f k = copy_judged (stances_of old) name from n lead (phase_there old name n e) (phase_there old from lead f) reply k
