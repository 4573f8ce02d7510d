-- A session that ended behind a line which was answered, and whose reply found no memory.
use Rattle.std.proofs.Common.{◌≡◌, ◌≢◌, ◌⊎◌, inl, inr, ℕ, ◌+◌, true, false, List, Option, None, Result, refl, sym, ap, ◌∙◌, subst, arith}
use Rattle.rdf_types.specs.declared.layout.Layout.{Layout}
use Rattle.rdf_types.specs.declared.records.Node.{Node}
use Rattle.rdf_types.specs.declared.records.Record.{Record}
use Rattle.rdf_disk.specs.Files.{Disk}
use Rattle.rdf_disk.specs.Counts.{Counts}
use Rattle.rdf_disk.specs.declared.disk.Disk.{Ghosts}
use Rattle.plan_lang.specs.LineText.{same_node}
use Rattle.plan_lang.specs.Sessions.{goes_in}
use Rattle.plan_lang.specs.declared.lines.Line.{Line}
use Rattle.plan_lang.specs.declared.lines.Line.TheVariants as line
use Rattle.node_faults.specs.declared.NodeFault.{NodeFault}
use Rattle.rdf_core.specs.declared.replies.Reply.{Reply}
use Rattle.rdf_core.specs.declared.replies.Reply.TheVariants.{Done, Number}
use Rattle.rdf_core.specs.Allowed.{has_names}
use Rattle.rdf_core.specs.Backup.{Backup}
use Rattle.rdf_core.specs.Effects.{count_u64}
use Rattle.rdf_core.specs.Primary.{Primary, primary_fallen}
use Rattle.rdf_core.specs.Rising.{HasRisen}
use Rattle.rdf_core.specs.Sessions.{is_backup_node}
use Rattle.by_node.specs.Each.{Each, at}
use Rattle.rdf_core.specs.State.{State, with_primary, with_backup, with_session}
use Rattle.rdf_primary.specs.Standing.{PrimaryStandsFor}
use Rattle.rdf_backup.specs.Standing.{BackupStandsFor}
use Rattle.primary_node.specs.Nodes.{disks_at}
use Rattle.backup_node.specs.declared.node.BackupNode.{BackupNode}
use Rattle.backup_node.specs.Nodes.{disks_at as backup_disks}
use Rattle.rdf_system.specs.declared.system.System.{System}
use Rattle.rdf_system.specs.Closing.{MayCountIn}
use Rattle.rdf_system.specs.Lines.{MayLeave, Before, Follows, Leaves, CountsMore}
use Rattle.rdf_system.specs.NodeLines.{site_at}
use Rattle.rdf_system.specs.Opened.{OpenView, shown, IsFedAt}
use Rattle.rdf_system.specs.States.{SiteStandsFor, DisksStandFor}
use Rattle.rdf_system.proofs.ClosedFailed.{by_name, at_with, beside_with, counts_of}
use Rattle.rdf_system.proofs.ClosedLeft.{LeftRisen, RisenAt, end_at, fine, is_up, left_risen, may_stop, none_far, opened_is, placed_too, risen_stands}
use Rattle.rdf_system.proofs.ClosedSite.{Ended, site, behind}
use Rattle.rdf_system.proofs.Falling.{primary_falls}
use Rattle.rdf_system.proofs.NearLines.{near_sides}
use Rattle.rdf_system.proofs.Leaving.{Left, fell_counted, leaving, none_more}
use Rattle.rdf_system.proofs.ShownSites.{up_at}
use Rattle.rdf_system.proofs.SideLeaves.{side_leaves}
use Rattle.rdf_system.proofs.SideStays.{Aside, Stays, WasOpen, near_aside, own_stays}
use Rattle.rdf_system.proofs.SiteValues.{site_stands}
use Rattle.rdf_system.proofs.Telling.{either, is_near}

-- the primary as the line left it, or fallen
abbrev IsOrFell : Primary → Primary → Type 0
IsOrFell left next = (left ≡ next) ⊎ (left ≡ primary_fallen 0 next)

fell_trail : (left next : Primary) → IsOrFell left next → left.trail ≡ next.trail
fell_trail left next (inl e) = ap (λ (a : Primary). a.trail) e
fell_trail left next (inr e) = ap (λ (a : Primary). a.trail) e

fell_stands : {D : Type 0} (files : D → Disk) (layout : Layout) (left next : Primary) (disks : List D) → IsOrFell left next → PrimaryStandsFor files layout next disks → PrimaryStandsFor files layout left disks
fell_stands {D = D} files layout left next disks (inl e) h = subst (λ (a : Primary). PrimaryStandsFor files layout a disks) (sym e) h
fell_stands {D = D} files layout left next disks (inr e) h = subst (λ (a : Primary). PrimaryStandsFor files layout a disks) (sym e) (primary_falls files layout 0 next disks h)

fell_stops : (left next : Primary) → IsOrFell left next → (n : ℕ) → next.stops ≡ count_u64 n → left.stops ≡ count_u64 (n + 0)
fell_stops left next (inl e) n h = ap (λ (a : Primary). a.stops) e ∙ h ∙ sym (none_more n 0 refl)
fell_stops left next (inr e) n h = ap (λ (a : Primary). a.stops) e ∙ fell_counted next.stops n h ∙ sym (none_more n 0 refl)

module _ {D : Type 0} {d : Ghosts D} {tells : Type 0} {files : D → Disk} {counts : D → Counts} {x : OpenView D d} {told : Result Reply NodeFault} {now : BackupNode D d} (ended : Ended tells files counts x told now) (none : x.session.met ≡ None) (t : tells) (layout : Layout) (l : Line) (reply : Reply) (ne : reply ≢ Done) (s : State) (rise : ℕ) (used : Option Node)
    (f : Follows files layout s used l rise reply (shown x)) (fed : IsFedAt f.next x) (more : Node → ℕ) (may : MayCountIn layout x.node.name line.End more) where
  abbrev name : Node
  name = x.node.name

  abbrev next : State
  next = f.next

  abbrev New : System D d
  New = behind ended x.system.session

  risen : RisenAt files layout next.primary.trail (at next.backups name) now
  risen = end_at files layout next.primary.trail name (at next.backups name) now 1 told (ended.ends.unmet t none layout next.primary.trail (at next.backups name) 1 (omega arith) fed (up_at x.node x.system files layout next x.session f.at))

  up : (at next.backups name).up ≡ true
  up = is_up ended.is_open layout next f.at

  placed : is_backup_node name ≡ true
  placed = placed_too ended.is_open layout next f.at

  was : WasOpen next name
  was = record { so_far = (opened_is ended.is_open layout next f.at).session; is = (opened_is ended.is_open layout next f.at).is; of = (opened_is ended.is_open layout next f.at).open_is.node_is; fine = fine ended.is_open layout next f.at }

  far : (node : Node) → same_node name node ≡ false → more node ≡ 0
  far = none_far layout name line.End more may

  -- the line left the backups, and the session but for what was read
  module _ (backups : next.backups ≡ f.mid.backups) (open_is : WasOpen f.mid name) (left : Primary) (is_left : IsOrFell left next.primary) (leaves : (other : State) → other.primary ≡ f.mid.primary → MayLeave layout other l (with_primary other left)) where
    k : LeftRisen layout f.mid name risen.next (more name)
    k = left_risen layout f.mid open_is.so_far open_is.is name open_is.of placed open_is.fine ended.laws risen.next (subst (λ (bs : Each Backup). HasRisen layout (at bs name) risen.next) backups risen.rise_is) (more name) (may_stop layout name line.End more refl may)

    abbrev mid : State
    mid = with_session (with_backup f.mid name (record risen.next { stops = k.stops })) k.session

    same_trail : left.trail ≡ next.primary.trail
    same_trail = fell_trail left next.primary is_left

    stand_left : DisksStandFor files layout (with_primary mid left) New
    stand_left = by_name files layout (with_primary mid left) (shown x) New name (site ended) refl f.at.laid
        (fell_stands files layout left next.primary (disks_at (shown x).primary) is_left ((ended.beside t).a layout next.primary f.at.primary))
        (subst (λ (r : List Record). SiteStandsFor files layout r (at (with_primary mid left).backups name) (site ended)) (sym same_trail)
        (subst (λ (b : Backup). BackupStandsFor files layout next.primary.trail b (backup_disks now)) (sym (at_with f.mid name (record risen.next { stops = k.stops }) k.session (with_primary next left))) (risen_stands ended.stand layout next.primary.trail (at next.backups name) now risen k.stops)))
        (λ node other. subst (λ (r : List Record). SiteStandsFor files layout r (at (with_primary mid left).backups node) (site_at (shown x) node)) (sym same_trail)
        (subst (λ (b : Backup). SiteStandsFor files layout next.primary.trail b (site_at (shown x) node)) (ap (λ (bs : Each Backup). at bs node) backups ∙ sym (beside_with f.mid name (record risen.next { stops = k.stops }) k.session (with_primary next left) node other))
        (site_stands files ended.stand (site_at (shown x) node) layout next.primary.trail (at next.backups node) (f.at.sites node))))

    pub unsaid_leaves : Leaves files layout s l next more New
    unsaid_leaves = record {
      mid = mid;
      drifts = ended.laws.join layout s f.mid mid f.drifts k.drifts;
      left = with_primary mid left;
      leaves = leaves mid refl;
      stands = stand_left;
      stops = subst (λ (bs : Each Backup). CountsMore more (record next { backups = bs }) (with_primary mid left)) (sym backups)
          (counts_of x.system.layout (record next { backups = f.mid.backups }) (with_primary next left) name (record risen.next { stops = k.stops }) k.session more ended.is_open.placed far (fell_stops left next.primary is_left) k.counted);
    }

  module _ (names : has_names layout l ≡ true) (fits : goes_in name l ≡ true) (unended : l ≢ line.End) (uncounted : (n : ℕ) → reply ≡ Number n → ⊥) where
    by_side : (is_near l ≡ true) ⊎ (is_near l ≡ false) → Leaves files layout s l next more New
    by_side (inl near) =
        let aside : Aside f.mid next = near_aside layout f.mid l reply next near f.step.1 in
        let h : Left layout f.mid l next = leaving layout f.mid l reply next near ne f.step.1 in
        unsaid_leaves aside.backups (record { so_far = was.so_far; is = sym aside.session ∙ was.is; of = was.of; fine = was.fine }) h.left.primary h.are.primary (side_leaves layout f.mid l h.left (near_sides l near) h.leaves).again
    by_side (inr own) =
        let stays : Stays f.mid next name = own_stays layout f.mid next name placed reply uncounted was up l fits own unended f.step.1 in
        unsaid_leaves stays.backups stays.was next.primary (inl refl) (λ other e. Before (ap (λ (p : Primary). with_primary other p) (stays.primary ∙ sym e)))

    pub unsaid : Leaves files layout s l next more New
    unsaid = by_side (either (is_near l))
