-- A session that ended behind a line of its own node which was broken off.
use Rattle.std.proofs.Common.{◌≡◌, ◌≢◌, ◌⊎◌, inl, inr, ℕ, ◌<◌, true, false, Option, Some, None, Result, Ok, Err, IsTrue, refl, sym, ◌∙◌, subst, ap}
use Rattle.rdf_types.specs.declared.layout.Layout.{Layout}
use Rattle.rdf_types.specs.declared.records.Node.{Node}
use Rattle.rdf_types.specs.declared.records.RecKey.{RecKey}
use Rattle.rdf_disk.specs.Files.{Disk}
use Rattle.rdf_disk.specs.Counts.{Counts}
use Rattle.rdf_disk.specs.declared.disk.Disk.{Ghosts}
use Rattle.plan_lang.specs.declared.lines.Line.{Line}
use Rattle.plan_lang.specs.declared.lines.Line.TheVariants as line
use Rattle.node_faults.specs.declared.NodeFault.{NodeFault}
use Rattle.node_disks.specs.Counting.{is_fuse}
use Rattle.rdf_core.specs.declared.replies.Reply.{Reply}
use Rattle.rdf_core.specs.declared.replies.Reply.TheVariants.{Stopped}
use Rattle.rdf_core.specs.Backup.{points_in}
use Rattle.rdf_core.specs.Layouts.{protects}
use Rattle.by_node.specs.Each.{at}
use Rattle.rdf_core.specs.State.{State}
use Rattle.rdf_core.specs.Step.{disks_of, is_of_session}
use Rattle.rdf_backup.specs.declared.session.Met.{Met}
use Rattle.rdf_backup.specs.declared.session.Met.TheVariants as met
use Rattle.rdf_backup.specs.Replies.{BreaksTrails}
use Rattle.rdf_backup.specs.SessionLaws.{GoesBy}
use Rattle.rdf_backup.specs.Sessions.{LeavesTrails}
use Rattle.backup_node.specs.declared.node.BackupNode.{BackupNode}
use Rattle.backup_node.specs.Closing.{EndsRisen, around_at}
use Rattle.backup_node.specs.Lines as backup
use Rattle.backup_node.specs.Rising.{ReadEnds, ReadAt, FellRisen}
use Rattle.rdf_system.specs.declared.session.SessionState.{SessionState}
use Rattle.rdf_system.specs.Closing.{IsCausedInSession, DoesInSession, PerformsInSession, told_by, behind_told}
use Rattle.rdf_system.specs.Lines.{Follows}
use Rattle.rdf_system.specs.NodeLines.{is_of_backup, about}
use Rattle.rdf_system.specs.Noting.{noted, noted_node}
use Rattle.rdf_system.specs.OpenLines.{MetOpen, LeftOpen}
use Rattle.rdf_system.specs.Opened.{OpenView, shown, IsFedAt}
use Rattle.rdf_system.specs.Sessions.{node_of, used_by, IsPlacedAt}
use Rattle.rdf_system.specs.States.{IsAtState}
use Rattle.rdf_system.proofs.ClosedLeft.{fell_at, leaves_before, may_stop, none_far}
use Rattle.rdf_system.proofs.ClosedSite.{Ended, site, turned, behind, caused_so, closed_keeps, halted_told, told_sound, halted_moves}
use Rattle.rdf_system.proofs.Judging.{halted_judged, halts_own, told_behind, told_so}
use Rattle.rdf_system.proofs.OnLines.{Lifts, LiftsCut, PresentGo}
use Rattle.rdf_system.proofs.PlaceLaws.{none_some, not_so}
use Rattle.rdf_system.proofs.SessionReads.{read_well, read_cut}
use Rattle.rdf_system.proofs.ShownSites.{up_at}
use Rattle.rdf_system.proofs.RisenSteps.{answered_there, broken_there, own_line}
use Rattle.rdf_system.proofs.MovedLaws.{done_of}
use Rattle.rdf_system.proofs.OpenKeeps.{runs_there}
use Rattle.rdf_system.specs.Stances.{IsJudgedBy, bar_in, stances_of}

own_goes : (layout : Layout) (s : State) (l : Line) → is_of_session l ≡ true → (name : Node) → is_of_backup name l → GoesBy layout (about layout s l) (at s.backups name) l
own_goes layout s (line.Deliver node k) on name of = tt
own_goes layout s (line.Purge node) on name of = subst (λ (n : Node). points_in layout s.primary.trail (at s.backups node).volumes ≡ points_in layout s.primary.trail (at s.backups n).volumes) of refl
own_goes layout s _ on name of = not_so on

own_plain : (l : Line) → is_of_session l ≡ true → is_fuse l ≡ false
own_plain (line.Deliver node k) on = refl
own_plain (line.Purge node) on = refl
own_plain _ on = not_so on

own_noted : (ss : SessionState) (l : Line) (r : Result Reply NodeFault) → is_of_session l ≡ true → node_of (behind_told ss l r) ≡ node_of ss
own_noted ss (line.Deliver node k) (Ok reply) on = noted_node ss reply
own_noted ss (line.Deliver node k) (Err why) on = refl
own_noted ss (line.Purge node) (Ok reply) on = noted_node ss reply
own_noted ss (line.Purge node) (Err why) on = refl
own_noted ss _ r on = not_so on

-- it uses disks of the session's node
own_used : (ss : SessionState) (name : Node) (l : Line) → is_of_session l ≡ true → disks_of l ≡ Some name → used_by ss l ≡ Some name
own_used ss name (line.Deliver node k) on of = of
own_used ss name (line.Purge node) on of = of
own_used ss name _ on of = not_so on

met_some : (m : Option Met) (what : Met) → m ≡ Some what → m ≢ None
met_some m what is none = none_some (sym none ∙ is)

own_behind : (ss : SessionState) (l : Line) (reply : Reply) → is_of_session l ≡ true → behind_told ss l (Ok reply) ≡ noted ss reply
own_behind ss (line.Deliver node k) reply on = refl
own_behind ss (line.Purge node) reply on = refl
own_behind ss _ reply on = not_so on

module _ {D : Type 0} {d : Ghosts D} {tells : Type 0} {files : D → Disk} {counts : D → Counts} {x : OpenView D d} {told : Result Reply NodeFault} {now : BackupNode D d} (ended : Ended tells files counts x told now) (lifts : Lifts) (cuts : LiftsCut) (go_by : PresentGo) where
  abbrev name : Node
  name = x.node.name

  -- ---- a delivery or a purge

  module _ (l : Line) (session : is_of_session l ≡ true) (of : disks_of l ≡ Some name) where
    on : is_of_backup name l
    on = own_line name l session of

    module _ (what : NodeFault) (is_met : x.session.met ≡ Some (met.Trails what)) (left : tells → (layout : Layout) (s : State) → IsAtState files layout s (shown x) → BreaksTrails files (about layout s l) l x.session.shown x.session.disk) where
      -- how it ended on its node
      ends_broken : (t : tells) (layout : Layout) (s : State) (rise : ℕ) → 0 < rise → IsFedAt s x → (is : IsAtState files layout s (shown x)) → EndsRisen files layout (about layout s l) name (at s.backups name) l rise told now
      ends_broken t layout s rise some fed is = ended.ends.broken t what is_met layout (about layout s l) (at s.backups name) l rise some session of (own_goes layout s l session name on) fed (up_at x.node x.system files layout s x.session is) (left t layout s is)

      broken_so : (r : Result Reply NodeFault) → told ≡ r → (t : tells) → PerformsInSession files l (told_by name r) x (behind ended (behind_told x.system.session l r))
      broken_so (Ok reply) e t layout s rise some none fed is =
          let h = ends_broken t layout s rise some fed is in
          subst (λ (ss : SessionState). Follows files layout s (used_by x.system.session l) l rise reply (behind ended ss)) (sym (own_behind x.system.session l reply session))
          (answered_there ended.is_open ended.laws (turned ended) t layout s is h.next h.rise_is ended.beside lifts cuts go_by l session of reply rise none (subst (λ (v : Result Reply NodeFault). backup.Ends files layout (around_at layout (about layout s l) h.next l) name h.next l rise v now) e h.ends))
      broken_so (Err why) e t layout s rise some none fed is = λ more may.
          let h = ends_broken t layout s rise some fed is in
          broken_there ended.is_open ended.laws (turned ended) t layout s is h.next h.rise_is ended.beside lifts cuts go_by l session of (left t layout s is) more (none_far layout name l more may) (subst (λ (v : Result Reply NodeFault). backup.Ends files layout (around_at layout (about layout s l) h.next l) name h.next l rise v now) e h.ends)

      pub broken_does : DoesInSession tells files counts l (told_by name told) x (behind ended (behind_told x.system.session l told))
      broken_does = record {
        performs = λ t. broken_so told refl t;
        keeps = closed_keeps ended (behind_told x.system.session l told) l (told_by name told) (subst (λ (of : Option Node). IsPlacedAt x.system.layout of) (sym (own_noted x.system.session l told session)) ended.is_open.serves.whole.session)
            (own_plain l session) (λ t. told_sound name told (ended.sound t))
            (IsCausedInSession counts name l (told_by name told) (shown x) (behind ended (behind_told x.system.session l told))) (caused_so ended (behind_told x.system.session l told) l (inr session))
            (halted_told ended l (own_used x.system.session name l session of) told (ended.ends.stopped (met_some x.session.met (met.Trails what) is_met)))
            (told_so name (λ reply. IsJudgedBy (stances_of (shown x)) l reply) told (halted_judged (stances_of (shown x)) name (runs_there x ended.is_open.runs) (ap bar_in ended.is_open.open_is) l (halts_own name l session of) told (ended.ends.stopped (met_some x.session.met (met.Trails what) is_met))))
            (halted_moves ended (behind_told x.system.session l told) l (done_of l name on) told ended.keeps.moved (ended.ends.stopped (met_some x.session.met (met.Trails what) is_met)) (told_behind x.system.session l told));
      }

  -- ---- a read

  module _ (key : RecKey) (is_met : x.session.met ≡ Some met.Volume) (left : tells → (layout : Layout) (s : State) → IsAtState files layout s (shown x) → IsTrue (protects layout key.vol)) where
    abbrev read : Line
    read = line.Read name key

    ends_read : (t : tells) (layout : Layout) (s : State) (rise : ℕ) → 0 < rise → IsFedAt s x → (is : IsAtState files layout s (shown x)) → ReadEnds files layout s.primary.trail key name (at s.backups name) rise told now
    ends_read t layout s rise some fed is = ended.ends.read t is_met layout s.primary.trail key (at s.backups name) rise some (left t layout s is) fed (up_at x.node x.system files layout s x.session is)

    read_so : (r : Result Reply NodeFault) → told ≡ r → (t : tells) → PerformsInSession files read (told_by name r) x (behind ended (behind_told x.system.session read r))
    read_so (Ok reply) e t layout s rise some none fed is = go (subst (λ (v : Result Reply NodeFault). ReadEnds files layout s.primary.trail key name (at s.backups name) rise v now) e (ends_read t layout s rise some fed is))
      where
        go : ReadAt files layout s.primary.trail key (at s.backups name) reply now ⊎ ((reply ≡ Stopped name) × IsTrue (protects layout key.vol) × FellRisen files layout s.primary.trail (at s.backups name) rise now) →
            Follows files layout s (Some name) read rise reply (behind ended (noted x.system.session reply))
        go (inl h) = read_well name (site ended) key ended.is_open.serves ended.is_open.placed ended.is_open.open_is ended.beside ended.laws (turned ended) t layout s is reply rise h
        go (inr h) = read_cut name (site ended) key ended.is_open.serves ended.is_open.placed ended.is_open.open_is ended.beside ended.laws (turned ended) t layout s is reply rise some h.0 h.1 h.2
    read_so (Err why) e t layout s rise some none fed is = λ more may. leaves_before ended t layout s is x.system.session read more (none_far layout name read more may) (may_stop layout name read more refl may)
        (fell_at files layout s.primary.trail (at s.backups name) now 0 (subst (λ (v : Result Reply NodeFault). ReadEnds files layout s.primary.trail key name (at s.backups name) rise v now) e (ends_read t layout s rise some fed is)))

    read_placed : (r : Result Reply NodeFault) → node_of (behind_told x.system.session read r) ≡ node_of x.system.session
    read_placed (Ok reply) = noted_node x.system.session reply
    read_placed (Err why) = refl

    pub read_does : DoesInSession tells files counts read (told_by name told) x (behind ended (behind_told x.system.session read told))
    read_does = record {
      performs = λ t. read_so told refl t;
      keeps = closed_keeps ended (behind_told x.system.session read told) read (told_by name told) (subst (λ (of : Option Node). IsPlacedAt x.system.layout of) (sym (read_placed told)) ended.is_open.serves.whole.session)
          refl (λ t. told_sound name told (ended.sound t))
          (IsCausedInSession counts name read (told_by name told) (shown x) (behind ended (behind_told x.system.session read told)))
          (caused_so ended (behind_told x.system.session read told) read (inl (subst (λ (m : Option Met). LeavesTrails m) (sym is_met) tt)))
          (halted_told ended read refl told (ended.ends.stopped (met_some x.session.met met.Volume is_met)))
          (told_so name (λ reply. IsJudgedBy (stances_of (shown x)) read reply) told (halted_judged (stances_of (shown x)) name (runs_there x ended.is_open.runs) (ap bar_in ended.is_open.open_is) read refl told (ended.ends.stopped (met_some x.session.met met.Volume is_met))))
          (halted_moves ended (behind_told x.system.session read told) read refl told ended.keeps.moved (ended.ends.stopped (met_some x.session.met met.Volume is_met)) (told_behind x.system.session read told));
    }

  -- ---- whichever line it was

  pub met_does : (why : NodeFault) (l : Line) → MetOpen why l x → (tells → (layout : Layout) (s : State) → IsAtState files layout s (shown x) → LeftOpen files l x layout s) → DoesInSession tells files counts l (told_by name told) x (behind ended (behind_told x.system.session l told))
  met_does why (line.Read node key) h left = subst (λ (n : Node). DoesInSession tells files counts (line.Read n key) (told_by name told) x (behind ended (behind_told x.system.session (line.Read n key) told))) (sym h.0) (read_does key h.1 left)
  met_does why (line.Deliver node k) h left = broken_does (line.Deliver node k) h.0 h.1 why h.2 left
  met_does why (line.Purge node) h left = broken_does (line.Purge node) h.0 h.1 why h.2 left
  met_does why _ h left = not_so h.0
