-- A node lends its backup to a session, and is put back behind it.
use Rattle.std.proofs.Common.{◌≡◌, true, false, List, length, Option, Some, None, Result, Err, refl, sym, ap, ap₂, ◌∙◌, subst}
use Rattle.std.specs.Prelude.{MatchOption}
use Rattle.rdf_types.specs.declared.layout.Layout.{Layout}
use Rattle.rdf_types.specs.declared.records.Node.{Node}
use Rattle.rdf_disk.specs.Files.{Disk}
use Rattle.rdf_disk.specs.Counts.{Counts}
use Rattle.rdf_disk.specs.declared.disk.Disk.{Ghosts}
use Rattle.plan_lang.specs.LineText.{same_node}
use Rattle.plan_lang.specs.Sessions.{goes_in}
use Rattle.plan_lang.specs.declared.lines.Line.{Line}
use Rattle.plan_lang.specs.declared.lines.Line.TheVariants as line
use Rattle.node_faults.specs.declared.NodeFault.{NodeFault}
use Rattle.node_faults.specs.Faults.{IsSound as NodeIsSound}
use Rattle.node_disks.specs.Cuts.{Each}
use Rattle.node_disks.specs.CutLaws.{each_same, same_length}
use Rattle.rdf_core.specs.declared.replies.Reply.{Reply}
use Rattle.rdf_core.specs.Allowed.{has_names, is_backup}
use Rattle.rdf_core.specs.Backup.{Backup}
use Rattle.by_node.specs.Each.{Each as EachNode, at, with_at, at-with_at, with_at-again}
use Rattle.rdf_core.specs.State.{State, with_session, blank_backup}
use Rattle.rdf_backup.specs.Sessions.{Open, OnlyProtected}
use Rattle.rdf_backup.specs.States.{layout_of as laid_of}
use Rattle.backup_node.specs.declared.node.BackupNode.{BackupNode}
use Rattle.backup_node.specs.Nodes.{disks_at as backup_disks, IsAt as BackupIsAt, IsLaid, MayServe as BackupMayServe}
use Rattle.backup_node.specs.Closing.{BeginsAt, IsAsBefore, EndsAt, HasRunAt, KeepsInSession}
use Rattle.backup_node.specs.Open.{in_open, Runs}
use Rattle.rdf_system.specs.declared.opened.OpenSystem.{OpenSystem}
use Rattle.rdf_system.specs.declared.session.SessionState.{SessionState}
use Rattle.rdf_system.specs.declared.session.SessionState.TheVariants as system
use Rattle.rdf_system.specs.declared.site.Site.{Site}
use Rattle.rdf_system.specs.declared.system.System.{System}
use Rattle.rdf_system.specs.Closing.{AreLeft, BeginsIn, DoesInSession, HasClosed, HasRunIn, IsUnbegunIn, first_of_both, behind_told, told_by, told_in}
use Rattle.rdf_system.specs.Lines.{Leaves}
use Rattle.rdf_system.specs.NodeLines.{site_at, with_site, HasNode}
use Rattle.rdf_system.specs.OpenLines.{DoesOpen, KeepsLent}
use Rattle.rdf_system.specs.Opened.{OpenView, view_of, shown, site_in, MayLend, MayOpen, IsOpenAt}
use Rattle.rdf_system.specs.Moves.{phase_in}
use Rattle.rdf_system.specs.Place.{AtEach}
use Rattle.rdf_system.specs.Sessions.{used_by, IsSession}
use Rattle.rdf_system.specs.Stances.{stances_of}
use Rattle.rdf_system.specs.States.{disk_of, layout_of, IsAtState, IsNodeOf, MayServe}
use Rattle.rdf_system.proofs.ClosedBroken.{met_does}
use Rattle.rdf_system.proofs.ClosedFailed.{failed_does}
use Rattle.rdf_system.proofs.ClosedLeft.{none_left, unmet_does}
use Rattle.rdf_system.proofs.ClosedSite.{Ended, behind}
use Rattle.rdf_system.proofs.ClosedUnsaid.{unsaid}
use Rattle.rdf_system.proofs.Judging.{runs_on, stands_with}
use Rattle.rdf_system.proofs.Moving.{unused_stay}
use Rattle.rdf_system.proofs.OnLines.{Lifts, LiftsCut, PresentGo}
use Rattle.rdf_system.proofs.PlaceLaws.{not_so}
use Rattle.rdf_system.proofs.SessionReads.{Laws}
use Rattle.rdf_system.proofs.ShownSites.{node_serves as open_serves, shown_with}
use Rattle.rdf_system.proofs.SiteDisks.{Swapped, all_each, moves, serves_on}
use Rattle.rdf_system.proofs.SiteStates.{Beside, Turned, at_state, rests}
use Rattle.rdf_system.proofs.SiteValues.{NodesGoOn, NodesStand, PrimaryStands, beside as nodes_beside, site_stands}
use Rattle.rdf_core.specs.NodeLaws.{at_other}
use Rattle.rdf_core.specs.RowLaws.{put_back}

module _ {D : Type 0} {d : Ghosts D} (sys : System D d) where
  -- the site of a backup with this node, or without one
  abbrev pub site_with : Node → Option (BackupNode D d) → Site D d
  site_with name o = record (site_at sys name) { node = o }

  abbrev pub holding : Node → Option (BackupNode D d) → System D d
  holding name o = with_site sys name (site_with name o) sys.session

  pub holding_session : (name : Node) (o : Option (BackupNode D d)) → (holding name o).session ≡ sys.session
  holding_session name o = refl

  pub holding_laid : (name : Node) (o : Option (BackupNode D d)) → layout_of (holding name o) ≡ layout_of sys
  holding_laid name o = refl

  holding_node : (name : Node) (o : Option (BackupNode D d)) → (site_at (holding name o) name).node ≡ o
  holding_node name o = ap (λ (x : Site D d). x.node) (at-with_at sys.sites name (site_with name o))

-- where a session may be begun there is a node, which runs
pub some_node : {D : Type 0} {d : Ghosts D} (site : Site D d) → HasNode Runs site → HasNode (λ n. Unit {0}) site
some_node {D = D} {d = d} site h = go site.node h
  where
    go : (o : Option (BackupNode D d)) → MatchOption o ⊥ Runs → MatchOption o ⊥ (λ n. Unit {0})
    go None k = absurd k
    go (Some n) k = tt

pub node_runs : {D : Type 0} {d : Ghosts D} (site : Site D d) (n : BackupNode D d) → site.node ≡ Some n → HasNode Runs site → Runs n
node_runs {D = D} {d = d} site n was h = subst (λ (o : Option (BackupNode D d)). MatchOption o ⊥ Runs) was h

-- put back, it is as if it had been changed in its place
pub back_again : {D : Type 0} {d : Ghosts D} (sys : System D d) (name : Node) (o p : Option (BackupNode D d)) → holding (holding sys name o) name p ≡ holding sys name p
back_again {D} {d} sys name o p =
    ap (λ (x : Site D d). with_site (holding sys name o) name (let y : Site D d = record x { node = p } in y) sys.session) (at-with_at sys.sites name (site_with sys name o))
    ∙ ap (λ (sites : EachNode (Site D d)). let y : System D d = record sys { sites = sites } in y) (with_at-again sys.sites name (site_with sys name o) (site_with sys name p))

module _ {D : Type 0} {d : Ghosts D} {tells : Type 0} {files : D → Disk} {counts : D → Counts} (sys : System D d) (name : Node) (n : BackupNode D d) (serves : MayServe tells files counts sys) (placed : is_backup (layout_of sys) name ≡ true) (was : (site_at sys name).node ≡ Some n) where
  pub node_serves : BackupMayServe tells files counts n
  node_serves = subst (λ (o : Option (BackupNode D d)). MatchOption o (Unit {0}) (BackupMayServe tells files counts)) was (serves.sites name)

  pub node_of : IsNodeOf (layout_of sys) name n
  node_of = subst (λ (o : Option (BackupNode D d)). MatchOption o (is_backup (layout_of sys) name ≡ false) (IsNodeOf (layout_of sys) name)) was (serves.whole.sites name).node

  -- the system without it
  abbrev pub away : System D d
  away = holding sys name None

  -- while it is lent
  pub may_lend : MayLend tells files counts n away
  may_lend = record {
    primary = serves.primary;
    away = subst (λ (m : Node). (site_at away m).node ≡ None) (sym node_of.named) (holding_node sys name None);
    others = λ other p far. subst (λ (x : Site D d). HasNode (λ y. Unit {0}) x) (sym (at_other sys.sites name (site_with sys name None) other (subst (λ (m : Node). same_node m other ≡ false) node_of.named far)))
        (there other (site_at sys other).node p (serves.whole.sites other).node);
  }
    where
      there : (m : Node) (o : Option (BackupNode D d)) → is_backup (layout_of sys) m ≡ true → MatchOption o (is_backup (layout_of sys) m ≡ false) (IsNodeOf (layout_of sys) m) → MatchOption o ⊥ (λ other. Unit {0})
      there m None p h = not_so (sym h ∙ p)
      there m (Some x) p h = tt

  -- what the session needs to be driven, with what the lines need
  pub ready_in : (value : BackupNode D d) → value ≡ n → (lent : System D d) → lent ≡ away → (Ready : Layout → Node → Type 0) → Ready (layout_of sys) name → MayLend tells files counts value lent × Ready (layout_of lent) value.name
  ready_in value same lent is Ready ready = subst (λ (m : BackupNode D d). MayLend tells files counts m lent × Ready (layout_of lent) m.name) (sym same)
      (subst (λ (y : System D d). MayLend tells files counts n y × Ready (layout_of y) n.name) (sym is)
      (may_lend, subst (λ (m : Node). Ready (layout_of away) m) (sym node_of.named) (subst (λ (y : Layout). Ready y name) (sym (holding_laid sys name None)) ready)))

  -- another node in its place
  module _ (now : BackupNode D d) (now_serves : BackupMayServe tells files counts now) (now_of : IsNodeOf (layout_of sys) name now) (same : length (backup_disks now) ≡ length (backup_disks n)) where
    pub swapped_for : Swapped tells files counts sys name n now (site_with sys name (Some now))
    swapped_for = record {
      serves = serves;
      placed = placed;
      was-is = was;
      now-is = refl;
      was_serves = node_serves;
      was_of = node_of;
      now_serves = now_serves;
      now_of = now_of;
      same = same;
      spare = refl;
      room = refl;
    }

    pub still_serves : MayServe tells files counts (holding sys name (Some now))
    still_serves = serves_on swapped_for sys.session serves.whole.session

    -- the system is at the state that it was at, where the node is
    module _ (stand : NodesStand d files) (layout : Layout) (s : State) (is : IsAtState files layout s sys) where
      pub node_at : BackupIsAt files layout s.primary.trail (at s.backups name) n
      node_at = subst (λ (o : Option (BackupNode D d)). MatchOption o ((at s.backups name) ≡ blank_backup layout) (BackupIsAt files layout s.primary.trail (at s.backups name))) was (is.sites name)

      pub still_at : BackupIsAt files layout s.primary.trail (at s.backups name) now → IsAtState files layout s (holding sys name (Some now))
      still_at h = subst (λ (y : State). IsAtState files layout (with_session y s.session) (holding sys name (Some now))) (put_back s name)
          (at_state (let turned : Turned tells files sys name (site_with sys name (Some now)) = record { placed = placed; now = now; now-is = refl; stands = λ t. site_stands files stand (site_with sys name (Some now)) } in turned) layout s (rests name is) sys.session (at s.backups name) s.session
          (subst (λ (bs : EachNode Backup). IsSession layout bs s.session sys.session) (sym (ap (λ (y : State). y.backups) (put_back s name))) is.session) h)

  -- no session was begun
  pub unbegun_in : NodesStand d files → (now : BackupNode D d) → IsAsBefore tells files counts n now → IsUnbegunIn tells files counts sys (holding sys name (Some now))
  unbegun_in stand now h =
      let of : IsNodeOf (layout_of sys) name now = record { placed = placed; named = h.named ∙ node_of.named; sized = h.sized ∙ node_of.sized; laid = h.laid (layout_of sys) node_of.laid } in
      let many : length (backup_disks now) ≡ length (backup_disks n) = same_length (λ i x y. counts y ≡ counts x) (backup_disks n) (backup_disks now) h.counts_are in
      record {
        at = λ t layout s is. still_at now h.serves of many stand layout s is (h.at t layout s.primary.trail (at s.backups name) (node_at now h.serves of many stand layout s is));
        serves = still_serves now h.serves of many;
        laid = holding_laid sys name (Some now);
        session_is = holding_session sys name (Some now);
        counts_are = all_each (swapped_for now h.serves of many) sys.session (λ x y. counts y ≡ counts x) (λ x. refl) h.counts_are;
        unused = unused_stay name (backup_disks n) (backup_disks now) sys (holding sys name (Some now)) (moves (swapped_for now h.serves of many) sys.session) many;
      }

  -- and it is put back
  pub unbegun_back : NodesStand d files → (now : BackupNode D d) → IsAsBefore tells files counts n now → (lent : System D d) → lent ≡ away → IsUnbegunIn tells files counts sys (holding lent name (Some now))
  unbegun_back stand now h lent is = subst (λ (y : System D d). IsUnbegunIn tells files counts sys y) (sym (ap (λ (y : System D d). holding y name (Some now)) is ∙ back_again sys name None (Some now))) (unbegun_in stand now h)

  -- the session begins
  module _ (stand : NodesStand d files) (may : MayOpen name sys) (o : Open D d) (h : BeginsAt tells files counts n o) where
    abbrev pub view : OpenView D d
    view = record { session = o; node = n; system = away }

    shown_is : shown view ≡ holding sys name (Some (in_open o n))
    shown_is = subst (λ (m : Node). (let y : System D d = record away { sites = with_at away.sites m (site_in o n (site_at away m)) } in y) ≡ holding sys name (Some (in_open o n))) (sym node_of.named) (back_again sys name None (Some (in_open o n)))

    of : IsNodeOf (layout_of sys) name (in_open o n)
    of = record { placed = placed; named = node_of.named; sized = node_of.sized; laid = h.laid (layout_of sys) node_of.laid }

    many : length (backup_disks (in_open o n)) ≡ length (backup_disks n)
    many = ap (λ (xs : List D). length xs) h.disks

    pub begins_in : BeginsIn tells files counts sys view
    begins_in = record {
      at = λ t layout s is. let was_at = node_at (in_open o n) h.serves of many stand layout s is in
          (subst (λ (y : System D d). IsAtState files layout s y) (sym shown_is) (still_at (in_open o n) h.serves of many stand layout s is (h.at t layout s.primary.trail (at s.backups name) was_at)), h.fed t layout s.primary.trail (at s.backups name) was_at);
      disks = subst (λ (y : System D d). AtEach (λ node i a b. b ≡ a) (disk_of sys) (disk_of y)) (sym shown_is)
          (all_each (swapped_for (in_open o n) h.serves of many) sys.session (λ a b. b ≡ a) (λ a. refl) (subst (λ (xs : List D). Each (λ i a b. b ≡ a) (backup_disks n) xs) (sym h.disks) (each_same (λ i a b. b ≡ a) (backup_disks n) (λ i a. refl))));
      is_open = record {
        serves = subst (λ (y : System D d). MayServe tells files counts y) (sym shown_is) (still_serves (in_open o n) h.serves of many);
        open_is = holding_session sys name None ∙ may.open_is ∙ ap (λ (m : Node). system.Open m false) (sym node_of.named);
        placed = subst (λ (y : Layout). is_backup y n.name ≡ true) (sym (holding_laid sys name None)) (subst (λ (m : Node). is_backup (layout_of sys) m ≡ true) (sym node_of.named) placed);
        runs = runs_on n (in_open o n) h.phase (subst (λ (y : Option (BackupNode D d)). MatchOption y ⊥ Runs) was may.runs);
        since = h.since;
      };
      unmet = h.unmet;
      laid = holding_laid sys name None;
      session_is = holding_session sys name None;
      stands = ap (λ (y : System D d). stances_of y) shown_is ∙ stands_with sys name (site_with sys name (Some (in_open o n))) (h.phase ∙ sym (ap phase_in was));
    }

-- how it was closed

module _ {D : Type 0} {d : Ghosts D} {tells : Type 0} {files : D → Disk} {counts : D → Counts} (x : OpenView D d) (told : Result Reply NodeFault) (now : BackupNode D d) (ends : EndsAt tells files x.session told x.node now)
    (keeps : IsOpenAt tells files counts x → KeepsInSession tells files counts (OnlyProtected (laid_of x.session.shown) x.session.met) told (in_open x.session x.node) now) (laid : IsLaid x.system.layout now) (sound : tells → NodeIsSound told)
    (stand : NodesStand d files) (go_on : NodesGoOn d files) (beside : tells → Beside files (shown x)) (laws : Laws) (lifts : Lifts) (cuts : LiftsCut) (go_by : PresentGo) (is_open : IsOpenAt tells files counts x) where
  abbrev ended : Ended tells files counts x told now
  ended = record { is_open = is_open; ends = ends; keeps = keeps is_open; laid = laid; sound = sound; stand = stand; beside = beside; laws = laws }

  -- the node in its site again
  abbrev pub back : System D d
  back = holding x.system x.node.name (Some now)

  behind_is : (ss : SessionState) → behind ended ss ≡ record back { session = ss }
  behind_is ss = shown_with x.node x.system x.session (record (site_at x.system x.node.name) { node = Some now }) ss

  told_is : (l : Line) → behind ended (behind_told x.system.session l told) ≡ told_in l told back
  told_is l = behind_is (behind_told x.system.session l told) ∙ ap (λ (ss : SessionState). let y : System D d = record back { session = behind_told ss l told } in y) (sym (holding_session x.system x.node.name (Some now)))

  back_is : behind ended x.system.session ≡ back
  back_is = behind_is x.system.session ∙ ap (λ (ss : SessionState). let y : System D d = record back { session = ss } in y) (sym (holding_session x.system x.node.name (Some now)))

  pub has_closed : HasClosed tells files counts x told back
  has_closed = record {
    session_is = holding_session x.system x.node.name (Some now);
    unmet = λ none. subst (λ (y : System D d). DoesInSession tells files counts line.End (told_by x.node.name told) x y) (told_is line.End) (unmet_does ended none);
    left = λ t none layout s more fed is may. subst (λ (y : System D d). AreLeft files layout s more y) back_is (none_left ended t none layout s more fed is may x.system.session);
    failed = λ none before l why same near was_open fails.
        let is : before ≡ record { session = x.session; node = x.node; system = before.system } = ap₂ (λ (o : Open D d) (n : BackupNode D d). let v : OpenView D d = record { session = o; node = n; system = before.system } in v) (sym fails.still) same in
        subst (λ (v : OpenView D d). DoesInSession tells files counts l (Err (first_of_both why x.node.name told)) v back) (sym is)
        (subst (λ (y : System D d). DoesInSession tells files counts l (Err (first_of_both why x.node.name told)) (record { session = x.session; node = x.node; system = before.system }) y) back_is
        (failed_does ended none go_on before.system l near why (subst (λ (v : OpenView D d). IsOpenAt tells files counts v) is was_open) (subst (λ (v : OpenView D d). DoesOpen tells files counts l (Err why) v x) is fails.does) fails.node_is));
    unsaid = λ t none before l reply same open_line ne uncounted answers layout s rise risen fed is f more may.
        subst (λ (y : System D d). Leaves files layout s l f.next more y) back_is
        (unsaid ended none t layout l reply ne s rise (used_by before.system.session l) f (answers.feeds t layout s f.mid f.next is fed f.drifts f.step f.at) more may
        (subst (λ (y : Layout). has_names y l ≡ true) is.laid open_line.names) (subst (λ (n : BackupNode D d). goes_in n.name l ≡ true) same open_line.fits) open_line.unended uncounted);
    broken = λ why l met left. subst (λ (y : System D d). DoesInSession tells files counts l (told_by x.node.name told) x y) (told_is l) (met_does ended lifts cuts go_by why l met left);
    stopped = ends.stopped;
  }

-- a whole session

module _ {D O P : Type 0} {d : Ghosts D} {tells : Type 0} {files : D → Disk} {counts : D → Counts} (sys : System D d) (name : Node) (n : BackupNode D d) (serves : MayServe tells files counts sys) (placed : is_backup (layout_of sys) name ≡ true) (was : (site_at sys name).node ≡ Some n) (may : MayOpen name sys)
    (stand : NodesStand d files) (go_on : NodesGoOn d files) (laws : Laws) (lifts : Lifts) (cuts : LiftsCut) (go_by : PresentGo)
    (before after : OpenSystem D d) (node_is : before.lent.value ≡ n) (system_is : before.system ≡ holding sys name None) (primary_stands : tells → PrimaryStands files after.system)
    (drives : Open D d → O → Open D d → Type 0) (Drives : OpenView D d → P → OpenView D d → Type 0) (out : O) (of : P) (told : Result Reply NodeFault) (now : BackupNode D d) (h : HasRunAt tells files counts drives out told n now)
    (driven : (o c : Open D d) → drives o out c → KeepsLent tells files counts (view_of o before) (view_of c after) × Drives (view_of o before) of (view_of c after)) where
  abbrev opened : OpenView D d
  opened = view_of h.opened before

  abbrev closed : OpenView D d
  closed = view_of h.closed after

  lent : KeepsLent tells files counts opened closed
  lent = (driven h.opened h.closed h.driven).0

  begins : BeginsIn tells files counts sys opened
  begins = subst (λ (m : BackupNode D d). BeginsIn tells files counts sys (record { session = h.opened; node = m; system = before.system })) (sym node_is)
      (subst (λ (y : System D d). BeginsIn tells files counts sys (record { session = h.opened; node = n; system = y })) (sym system_is) (begins_in sys name n serves placed was stand may h.opened h.begins))

  same_node_is : closed.node ≡ n
  same_node_is = lent.lent ∙ node_is

  same_name : closed.node.name ≡ name
  same_name = ap (λ (m : BackupNode D d). m.name) same_node_is ∙ (node_of sys name n serves placed was).named

  same_laid : layout_of after.system ≡ layout_of sys
  same_laid = lent.laid ∙ ap (λ (y : System D d). layout_of y) system_is ∙ holding_laid sys name None

  kept : IsOpenAt tells files counts closed → KeepsInSession tells files counts (OnlyProtected (laid_of h.closed.shown) h.closed.met) told (in_open h.closed closed.node) now
  kept is_open = subst (λ (m : BackupNode D d). KeepsInSession tells files counts (OnlyProtected (laid_of h.closed.shown) h.closed.met) told (in_open h.closed m) now) (sym same_node_is)
      (h.keeps h.closed.shown is_open.since (subst (λ (m : BackupNode D d). BackupMayServe tells files counts (in_open h.closed m)) same_node_is (open_serves closed.node after.system tells files counts h.closed is_open.serves)))

  closes : IsOpenAt tells files counts closed → HasClosed tells files counts closed told (holding after.system name (Some now))
  closes is_open = subst (λ (m : Node). HasClosed tells files counts closed told (holding after.system m (Some now))) same_name
      (has_closed closed told now (subst (λ (m : BackupNode D d). EndsAt tells files h.closed told m now) (sym same_node_is) h.ends) kept
      (subst (λ (y : Layout). IsLaid y now) (sym same_laid) (h.laid (layout_of sys) (node_of sys name n serves placed was).laid)) h.sound
      stand go_on (λ t. nodes_beside files (shown closed) (primary_stands t) stand) laws lifts cuts go_by is_open)

  pub has_run_in : HasRunIn tells files counts Drives of told sys (holding after.system name (Some now))
  has_run_in = record {
    opened = opened;
    closed = closed;
    begins = begins;
    driven = (driven h.opened h.closed h.driven).1;
    lent = lent.lent;
    comes = h.comes;
    closes = closes;
  }
