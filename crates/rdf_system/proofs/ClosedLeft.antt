-- A session that ended where nothing was met: the line `end`, and what the disks stand for behind its lines.
use Rattle.std.proofs.Common.{◌≡◌, ◌⊎◌, inl, inr, ℕ, zero, suc, ◌+◌, ◌<◌, Bool, true, false, List, ◌++◌, Option, None, Result, Ok, Err, IsTrue, refl, sym, ap, ◌∙◌, subst, arith}
use Rattle.rdf_types.specs.declared.layout.Layout.{Layout}
use Rattle.rdf_types.specs.declared.records.Node.{Node}
use Rattle.rdf_types.specs.declared.records.Record.{Record}
use Rattle.rdf_disk.specs.Files.{Disk}
use Rattle.rdf_disk.specs.Counts.{Counts}
use Rattle.rdf_disk.specs.declared.disk.Disk.{Ghosts}
use Rattle.rdf_model.specs.Contents.{nothing}
use Rattle.rdf_model.specs.Legal.{Legal}
use Rattle.plan_lang.specs.LineText.{same_node}
use Rattle.plan_lang.specs.declared.lines.Line.{Line}
use Rattle.plan_lang.specs.declared.lines.Line.TheVariants as line
use Rattle.node_faults.specs.declared.NodeFault.{NodeFault}
use Rattle.rdf_core.specs.declared.replies.Reply.{Reply}
use Rattle.rdf_core.specs.Backup.{Backup}
use Rattle.rdf_core.specs.Effects.{count_u64}
use Rattle.rdf_core.specs.Layouts.{protects}
use Rattle.rdf_core.specs.Rising.{HasRisen}
use Rattle.rdf_core.specs.Run.{Drifts}
use Rattle.rdf_core.specs.SessionLaws.{same_self}
use Rattle.rdf_core.specs.Sessions.{Session, Open, Opened, met_stop, with_halt, is_backup_node}
use Rattle.by_node.specs.Each.{at}
use Rattle.rdf_core.specs.State.{State, with_backup, with_session}
use Rattle.rdf_core.specs.Step.{is_of_session}
use Rattle.rdf_backup.specs.declared.session.Met.{Met}
use Rattle.rdf_backup.specs.Sessions.{LeavesTrails}
use Rattle.backup_node.specs.declared.node.BackupNode.{BackupNode}
use Rattle.rdf_backup.specs.Standing.{BackupStandsFor}
use Rattle.rdf_backup.specs.States.{value_of}
use Rattle.backup_node.specs.Nodes.{disks_at as backup_disks, IsAt as BackupIsAt}
use Rattle.backup_node.specs.Rising.{EndEnds, FellRisen, caught_up}
use Rattle.rdf_system.specs.declared.session.SessionState.{SessionState}
use Rattle.rdf_system.specs.declared.session.SessionState.TheVariants as system
use Rattle.rdf_system.specs.Closing.{IsCausedInSession, MayCountIn, AreLeft, DoesInSession, PerformsInSession, told_by, behind_told}
use Rattle.rdf_system.specs.Lines.{Before, CountsMore, Leaves, Follows}
use Rattle.rdf_system.specs.Opened.{OpenView, shown, IsOpenAt, IsFedAt}
use Rattle.rdf_system.specs.Sessions.{node_of, used_by, IsPlacedAt}
use Rattle.rdf_system.specs.States.{IsAtState}
use Rattle.rdf_system.proofs.ClosedSite.{Ended, site, turned, behind, caused_so, closed_keeps, end_told, told_sound, end_moves}
use Rattle.rdf_system.proofs.Falling.{backup_turned}
use Rattle.rdf_system.proofs.Judging.{end_judged, told_behind, told_so}
use Rattle.rdf_system.proofs.Leaving.{fell_more, none_more}
use Rattle.rdf_system.proofs.PlaceLaws.{backup_node_is, not_so}
use Rattle.rdf_system.proofs.Reading.{drift_halted, drift_risen}
use Rattle.rdf_system.proofs.SessionEnds.{end_good, end_cut}
use Rattle.rdf_system.proofs.SessionReads.{Laws, OpenIn, open_in, risen_stops}
use Rattle.rdf_system.proofs.ShownSites.{up_at}
use Rattle.rdf_system.proofs.SiteValues.{NodesStand, NodesGoOn}
use Rattle.rdf_system.proofs.SiteStates.{rests, counts_more, disks_stand, leave_far}
use Rattle.rdf_system.specs.Stances.{IsJudgedBy, bar_in, stances_of}
use Rattle.rdf_core.specs.RowLaws.{put_back}
use Rattle.image_disks.specs.Values.{received}

-- volumes of a backup rose between two lines, and so many stops of their disks are counted
pub record LeftRisen (layout : Layout) (s : State) (name : Node) (next : Backup) (more : ℕ) : Type 0 where
  pub session : Session
  pub stops : ℕ
  pub drifts : Drifts layout s (with_session (with_backup s name (record next { stops = stops })) session)
  pub counted : (n : ℕ) → (at s.backups name).stops ≡ count_u64 n → stops ≡ count_u64 (n + more)

pub left_risen : (layout : Layout) (s : State) (o : Opened) → s.session ≡ Open o → (name : Node) → o.node ≡ name → is_backup_node name ≡ true → met_stop o ≡ false → Laws → (next : Backup) → HasRisen layout (at s.backups name) next → (more : ℕ) →
    (more ≡ 0) ⊎ ((vol : ℕ) × IsTrue (protects layout vol)) → LeftRisen layout s name next more
left_risen layout s o of name named placed fine laws next rise zero may = record {
  session = Open o;
  stops = next.stops;
  drifts = drift_risen layout s o of name named placed fine laws.rise next rise;
  counted = λ n e. risen_stops layout (at s.backups name) next rise ∙ e ∙ sym (none_more n 0 refl);
}
left_risen layout s o of name named placed fine laws next rise (suc k) (inl none) = absurd (omega (arith, none))
left_risen layout s o of name named placed fine laws next rise (suc k) (inr (vol, p)) = record {
  session = Open (with_halt o vol);
  stops = count_u64 (next.stops + suc k);
  drifts = drift_halted layout s o of name named placed fine laws.rise laws.stop laws.join next (suc k) vol p (omega arith) rise;
  counted = λ n e. fell_more next.stops n (suc k) (risen_stops layout (at s.backups name) next rise ∙ e);
}

-- a node whose session ended is at a backup whose volumes rose, and which may have fallen
pub record RisenAt {D : Type 0} {d : Ghosts D} (files : D → Disk) (layout : Layout) (trail : List Record) (b : Backup) (now : BackupNode D d) : Type 0 where
  pub next : Backup
  pub rise_is : HasRisen layout b next
  pub up : Bool
  pub stops : ℕ
  pub at : BackupIsAt files layout trail (record next { up = up; stops = stops }) now

pub fell_at : {D : Type 0} {d : Ghosts D} (files : D → Disk) (layout : Layout) (trail : List Record) (b : Backup) (now : BackupNode D d) (rise : ℕ) → FellRisen files layout trail b rise now → RisenAt files layout trail b now
fell_at files layout trail b now rise f = record { next = f.next; rise_is = f.rise_is; up = false; stops = count_u64 (f.next.stops + rise); at = f.at }

-- so it is at the end of a session in which nothing was met, whatever is told
pub end_at : {D : Type 0} {d : Ghosts D} (files : D → Disk) (layout : Layout) (trail : List Record) (name : Node) (b : Backup) (now : BackupNode D d) (rise : ℕ) (told : Result Reply NodeFault) → EndEnds files layout trail name b rise told now → RisenAt files layout trail b now
end_at files layout trail name b now rise (Ok reply) (inl h) = record { next = caught_up layout b; rise_is = h.1; up = (caught_up layout b).up; stops = (caught_up layout b).stops; at = h.2 }
end_at files layout trail name b now rise (Ok reply) (inr h) = fell_at files layout trail b now rise h.1.1.1
end_at files layout trail name b now rise (Err why) f = fell_at files layout trail b now 0 f

module _ {D : Type 0} {d : Ghosts D} {files : D → Disk} (stand : NodesStand d files) (layout : Layout) (trail : List Record) (b : Backup) (now : BackupNode D d) (r : RisenAt files layout trail b now) where
  -- its disks stand for it, however often they stopped
  pub risen_stands : (stops : ℕ) → BackupStandsFor files layout trail (record r.next { stops = stops }) (backup_disks now)
  risen_stands stops = backup_turned files layout trail r.next.up stops (record r.next { up = r.up; stops = r.stops }) (backup_disks now) (stand now layout trail (record r.next { up = r.up; stops = r.stops }) r.at)

-- and it is so over a longer trail
pub risen_longer : {D : Type 0} {d : Ghosts D} {files : D → Disk} → NodesGoOn d files → (layout : Layout) (trail more : List Record) (b : Backup) (now : BackupNode D d) → Legal nothing (trail ++ more) → RisenAt files layout trail b now → RisenAt files layout (trail ++ more) b now
risen_longer law layout trail more b now legal r = record { next = r.next; rise_is = r.rise_is; up = r.up; stops = r.stops; at = law now layout trail more (record r.next { up = r.up; stops = r.stops }) legal r.at }

-- where a stop of the node may be counted at all
pub may_stop : (layout : Layout) (name : Node) (l : Line) (more : Node → ℕ) → is_of_session l ≡ false → MayCountIn layout name l more → (more name ≡ 0) ⊎ ((vol : ℕ) × IsTrue (protects layout vol))
may_stop layout name l more other may = go (may name)
  where
    go : (more name ≡ 0) ⊎ ((name ≡ name) × ((is_of_session l ≡ true) ⊎ ((vol : ℕ) × IsTrue (protects layout vol)))) → (more name ≡ 0) ⊎ ((vol : ℕ) × IsTrue (protects layout vol))
    go (inl none) = inl none
    go (inr (e, inl on)) = not_so (sym other ∙ on)
    go (inr (e, inr some)) = inr some

pub none_far : (layout : Layout) (name : Node) (l : Line) (more : Node → ℕ) → MayCountIn layout name l more → (node : Node) → same_node name node ≡ false → more node ≡ 0
none_far layout name l more may node far = go (may node)
  where
    go : (more node ≡ 0) ⊎ ((node ≡ name) × ((is_of_session l ≡ true) ⊎ ((vol : ℕ) × IsTrue (protects layout vol)))) → more node ≡ 0
    go (inl none) = none
    go (inr h) = not_so (sym far ∙ (ap (λ (x : Node). same_node name x) h.0 ∙ same_self name))

-- where a session is open no disk of its node has stopped
module _ {D : Type 0} {d : Ghosts D} {tells : Type 0} {files : D → Disk} {counts : D → Counts} {x : OpenView D d} (is_open : IsOpenAt tells files counts x) (layout : Layout) (s : State) (is : IsAtState files layout s (shown x)) where
  abbrev name : Node
  name = x.node.name

  pub opened_is : OpenIn layout s name false
  opened_is = open_in layout s name false x.system.session is_open.open_is is.session

  pub is_up : (at s.backups name).up ≡ true
  is_up = opened_is.open_is.up

  pub fine : met_stop opened_is.session ≡ false
  fine = opened_is.open_is.met

  pub placed_too : is_backup_node name ≡ true
  placed_too = backup_node_is x.system.layout name is_open.placed

  -- what the volumes rose to, with so many stops
  pub left_at : Laws → (next : Backup) → HasRisen layout (at s.backups name) next → (more : ℕ) → (more ≡ 0) ⊎ ((vol : ℕ) × IsTrue (protects layout vol)) → LeftRisen layout s name next more
  left_at laws next rise more may = left_risen layout s opened_is.session opened_is.is name opened_is.open_is.node_is placed_too fine laws next rise more may

module _ {D : Type 0} {d : Ghosts D} {tells : Type 0} {files : D → Disk} {counts : D → Counts} {x : OpenView D d} {told : Result Reply NodeFault} {now : BackupNode D d} (ended : Ended tells files counts x told now) (t : tells) (layout : Layout) (s : State) (is : IsAtState files layout s (shown x)) where
  abbrev here : Node
  here = x.node.name

  abbrev b : Backup
  b = at s.backups here

  module _ (ss : SessionState) where
    -- a line that was broken off leaves the state before it, behind what rose
    pub leaves_before : (l : Line) (more : Node → ℕ) → ((node : Node) → same_node here node ≡ false → more node ≡ 0) → (more here ≡ 0) ⊎ ((vol : ℕ) × IsTrue (protects layout vol)) → RisenAt files layout s.primary.trail b now → Leaves files layout s l s more (behind ended ss)
    leaves_before l more far may r =
        let k = left_at ended.is_open layout s is ended.laws r.next r.rise_is (more here) may in
        leave_far (turned ended) layout s (rests here is) ss (ended.beside t) more far (record r.next { stops = k.stops }) k.session (with_session (with_backup s here (record r.next { stops = k.stops })) k.session) k.drifts (Before refl)
        (risen_stands ended.stand layout s.primary.trail b now r k.stops) k.counted

    pub left_behind : (more : Node → ℕ) → ((node : Node) → same_node here node ≡ false → more node ≡ 0) → (more here ≡ 0) ⊎ ((vol : ℕ) × IsTrue (protects layout vol)) → RisenAt files layout s.primary.trail b now → AreLeft files layout s more (behind ended ss)
    left_behind more far may r =
        let k = left_at ended.is_open layout s is ended.laws r.next r.rise_is (more here) may in
        record {
          mid = with_session (with_backup s here (record r.next { stops = k.stops })) k.session;
          drifts = k.drifts;
          stands = disks_stand (turned ended) layout s (rests here is) ss (ended.beside t) (record r.next { stops = k.stops }) k.session (risen_stands ended.stand layout s.primary.trail b now r k.stops);
          stops = subst (λ (y : State). CountsMore more (with_session y s.session) (with_session (with_backup s here (record r.next { stops = k.stops })) k.session)) (put_back s here)
              (counts_more (turned ended) layout s (rests here is) more far b (record r.next { stops = k.stops }) s.session k.session k.counted);
        }

module _ {D : Type 0} {d : Ghosts D} {tells : Type 0} {files : D → Disk} {counts : D → Counts} {x : OpenView D d} {told : Result Reply NodeFault} {now : BackupNode D d} (ended : Ended tells files counts x told now) where
  -- how the session's end ended on its node
  ends_here : (t : tells) → x.session.met ≡ None → (layout : Layout) (s : State) (is : IsAtState files layout s (shown x)) (rise : ℕ) → 0 < rise → IsFedAt s x → EndEnds files layout s.primary.trail x.node.name (at s.backups x.node.name) rise told now
  ends_here t none layout s is rise some fed = ended.ends.unmet t none layout s.primary.trail (at s.backups x.node.name) rise some fed (up_at x.node x.system files layout s x.session is)

  -- what the disks stand for, whatever is told
  pub none_left : tells → x.session.met ≡ None → (layout : Layout) (s : State) (more : Node → ℕ) → IsFedAt s x → IsAtState files layout s (shown x) → MayCountIn layout x.node.name line.End more → (ss : SessionState) → AreLeft files layout s more (behind ended ss)
  none_left t none layout s more fed is may ss = left_behind ended t layout s is ss more (none_far layout x.node.name line.End more may) (may_stop layout x.node.name line.End more refl may) (end_at files layout s.primary.trail x.node.name (at s.backups x.node.name) now 1 told (ends_here t none layout s is 1 (omega arith) fed))

  -- the line `end`
  end_so : (r : Result Reply NodeFault) → told ≡ r → (t : tells) → x.session.met ≡ None → PerformsInSession files line.End (told_by x.node.name r) x (behind ended (behind_told x.system.session line.End r))
  end_so (Ok reply) e t none layout s rise some risen fed is = go (subst (λ (y : Result Reply NodeFault). EndEnds files layout s.primary.trail x.node.name (at s.backups x.node.name) rise y now) e (ends_here t none layout s is rise some fed))
    where
      go : EndEnds files layout s.primary.trail x.node.name (at s.backups x.node.name) rise (Ok reply) now → Follows files layout s (used_by x.system.session line.End) line.End rise reply (behind ended system.Closed)
      go (inl h) = end_good x.node.name (site ended) ended.is_open.serves ended.is_open.placed ended.is_open.open_is ended.beside ended.laws (turned ended) t layout s is reply rise h.0 h.1 h.2
      go (inr h) = end_cut x.node.name (site ended) ended.is_open.serves ended.is_open.placed ended.is_open.open_is ended.beside ended.laws (turned ended) t layout s is reply rise h.1.0 some h.0 h.1.1.0 h.1.1.1
  end_so (Err why) e t none layout s rise some risen fed is = λ more may. leaves_before ended t layout s is x.system.session line.End more (none_far layout x.node.name line.End more may) (may_stop layout x.node.name line.End more refl may)
      (end_at files layout s.primary.trail x.node.name (at s.backups x.node.name) now rise told (ends_here t none layout s is rise some fed))

  end_placed : (r : Result Reply NodeFault) → IsPlacedAt x.system.layout (node_of (behind_told x.system.session line.End r))
  end_placed (Ok reply) = tt
  end_placed (Err why) = ended.is_open.serves.whole.session

  -- where nothing was met the image trails' disk is left
  pub leaves_trails : x.session.met ≡ None → LeavesTrails x.session.met
  leaves_trails none = subst (λ (m : Option Met). LeavesTrails m) (sym none) tt

  pub unmet_does : x.session.met ≡ None → DoesInSession tells files counts line.End (told_by x.node.name told) x (behind ended (behind_told x.system.session line.End told))
  unmet_does none = record {
    performs = λ t. end_so told refl t none;
    keeps = closed_keeps ended (behind_told x.system.session line.End told) line.End (told_by x.node.name told) (end_placed told) refl (λ t. told_sound x.node.name told (ended.sound t))
        (IsCausedInSession counts x.node.name line.End (told_by x.node.name told) (shown x) (behind ended (behind_told x.system.session line.End told)))
        (caused_so ended (behind_told x.system.session line.End told) line.End (inl (leaves_trails none))) (end_told ended told ended.ends.says)
        (told_so x.node.name (λ reply. IsJudgedBy (stances_of (shown x)) line.End reply) told (end_judged (stances_of (shown x)) x.node.name (received (value_of x.session.shown)) (x.session.met ≡ None) (ap bar_in ended.is_open.open_is) told ended.ends.says))
        (end_moves ended (behind_told x.system.session line.End told) told ended.keeps.moved ended.ends.says (told_behind x.system.session line.End told));
  }
