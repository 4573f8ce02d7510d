-- A line that one backup's node does, whichever it is, as what the system does.
use Rattle.std.proofs.Common.{◌≡◌, ℕ, true, false, List, Option, Some, None, Result, Ok, Err, sym, ◌∙◌, subst}
use Rattle.std.specs.Prelude.{MatchOption}
use Rattle.rdf_types.specs.declared.layout.Layout.{Layout}
use Rattle.rdf_types.specs.declared.records.Node.{Node}
use Rattle.rdf_disk.specs.Files.{Disk}
use Rattle.rdf_disk.specs.Counts.{Counts}
use Rattle.rdf_disk.specs.declared.disk.Disk.{Ghosts}
use Rattle.plan_lang.specs.declared.lines.Line.{Line}
use Rattle.plan_lang.specs.declared.lines.Line.TheVariants as line
use Rattle.plan_lang.specs.Sessions.{fits_session}
use Rattle.node_faults.specs.declared.NodeFault.{NodeFault}
use Rattle.rdf_core.specs.declared.replies.Reply.{Reply}
use Rattle.rdf_core.specs.Allowed.{is_backup, has_names}
use Rattle.by_node.specs.Each.{at}
use Rattle.rdf_core.specs.State.{State}
use Rattle.rdf_system.proofs.Judging.{backup_judged, phase_there}
use Rattle.rdf_system.specs.declared.site.Site.{Site}
use Rattle.rdf_system.specs.declared.system.System.{System}
use Rattle.rdf_system.specs.Sessions.{node_of}
use Rattle.backup_node.specs.declared.node.BackupNode.{BackupNode}
use Rattle.rdf_system.specs.States.{MayServe, IsAtState, IsNodeOf, IsWholeSite}
use Rattle.rdf_system.specs.NodeLines.{is_on_backup, LinePerforms, SiteDoes, Suits, is_of_backup}
use Rattle.rdf_system.specs.Lines.{Does}
use Rattle.rdf_system.specs.Noting.{begun, behind}
use Rattle.rdf_system.proofs.OnLines.{Lifts, LiftsCut, PresentGo, plain_answers, plain_fails}
use Rattle.rdf_system.proofs.OnSite.{Beside, about, site_at, with_site, at_site}
use Rattle.rdf_system.proofs.SessionEnds.{session_answers, session_fails}
use Rattle.rdf_system.specs.Stances.{IsJudgedBy, stances_of}

-- the line is one for the node at the site
pub named_on : {D : Type 0} {d : Ghosts D} (layout : Layout) (name : Node) (site : Site D d) (l : Line) → is_backup layout name ≡ true → IsWholeSite layout name site → is_on_backup name l → MatchOption site.node ⊥ (λ n. is_on_backup n.name l)
named_on {D = D} {d = d} layout name site l placed whole on = go site.node whole.node
  where
    never : false ≡ true → ⊥
    never f = cc

    go : (o : Option (BackupNode D d)) → MatchOption o (is_backup layout name ≡ false) (IsNodeOf layout name) → MatchOption o ⊥ (λ n. is_on_backup n.name l)
    go None h = never (sym h ∙ placed)
    go (Some n) h = subst (λ (x : Node). is_on_backup x l) (sym h.named) on

module _ {D : Type 0} {d : Ghosts D} {tells : Type 0} {files : D → Disk} {counts : D → Counts} {old : System D d} (name : Node) (site : Site D d) (message : Option (List ℕ)) (serves : MayServe tells files counts old) (placed : is_backup old.layout name ≡ true)
    (beside : tells → Beside files old) where
  -- what the line needs of the rest
  abbrev Suited : Line → Type 0
  Suited l = tells → (layout : Layout) (s : State) → IsAtState files layout s old → Suits old.layout l message layout (about layout s l) (at s.backups name)

  -- what the site did
  abbrev Did : Line → Result Reply NodeFault → Type 0
  Did l result = SiteDoes tells files counts old.layout (LinePerforms files old.layout message l result) l result (site_at old name) site

  -- how it is answered for how the nodes stand
  site_judged : (l : Line) → is_of_backup name l → ((from : Node) → l ≡ line.CopyAudit name from → ⊥) → (l ≡ line.Takeover name → ⊥) → (reply : Reply) (Goes : BackupNode D d → BackupNode D d → Type 0) → SiteDoes tells files counts old.layout Goes l (Ok reply) (site_at old name) site → IsJudgedBy (stances_of old) l reply
  site_judged l on copies takes reply Goes does =
      let h = at_site tells files counts old.layout Goes l (Ok reply) name (site_at old name) site placed (serves.sites name) (serves.whole.sites name) does in
      backup_judged (stances_of old) old.layout name placed h.was h.now (phase_there old name h.was h.was-is) l on copies takes reply h.does.kinds

  pub line_answers : Lifts → LiftsCut → PresentGo → (reply : Reply) (l : Line) → is_on_backup name l → has_names old.layout l ≡ true → fits_session (node_of old.session) l ≡ true → Suited l → Did l (Ok reply) → Does tells files counts l (Ok reply) old (with_site old name site (behind old.session l reply))
  line_answers lifts cuts go_by reply (line.Session node) on names fits suits does = subst (λ (x : Node). fits_session (node_of old.session) (line.Session x) ≡ true → Suited (line.Session x) → Did (line.Session x) (Ok reply) → Does tells files counts (line.Session x) (Ok reply) old (with_site old name site (begun x reply))) (sym on)
      (λ f u h. session_answers name site (Suits old.layout (line.Session name) message) serves placed f beside u reply h) fits suits does
  line_answers lifts cuts go_by reply (line.CopyAudit node from) on names fits suits does = absurd on
  line_answers lifts cuts go_by reply (line.Takeover node) on names fits suits does = absurd on
  line_answers lifts cuts go_by reply l on names fits suits does = plain_answers name (Suits old.layout l message) on serves placed names fits beside suits reply
      (site_judged l on (λ from e. cc) (λ e. cc) reply (LinePerforms files old.layout message l (Ok reply)) does) lifts cuts go_by does

  pub line_fails : (why : NodeFault) (l : Line) → is_on_backup name l → has_names old.layout l ≡ true → fits_session (node_of old.session) l ≡ true → Suited l → Did l (Err why) → Does tells files counts l (Err (record { node = name; fault = why })) old (with_site old name site old.session)
  line_fails why (line.Session node) on names fits suits does = subst (λ (x : Node). fits_session (node_of old.session) (line.Session x) ≡ true → Suited (line.Session x) → Did (line.Session x) (Err why) → Does tells files counts (line.Session x) (Err (record { node = name; fault = why })) old (with_site old name site old.session)) (sym on)
      (λ f u h. session_fails name site (Suits old.layout (line.Session name) message) serves placed f beside u why h) fits suits does
  line_fails why (line.CopyAudit node from) on names fits suits does = absurd on
  line_fails why (line.Takeover node) on names fits suits does = absurd on
  line_fails why l on names fits suits does = plain_fails name (Suits old.layout l message) on serves placed names fits beside suits why does
