-- A system over nodes that were just made ready.
use Rattle.std.proofs.Common.{◌≡◌, false, List, [], length, Option, None, refl, sym, ap, ◌∙◌, subst}
use Rattle.std.specs.Prelude.{MatchOption}
use Rattle.std.specs.Global.{Vec}
use Rattle.rdf_types.specs.declared.layout.Layout.{Layout}
use Rattle.rdf_types.specs.declared.records.Node.{Node}
use Rattle.rdf_types.specs.declared.records.Node.TheVariants.{A, B, C}
use Rattle.rdf_disk.specs.Files.{Disk}
use Rattle.rdf_disk.specs.Counts.{Counts}
use Rattle.rdf_disk.specs.declared.disk.Disk.{Ghosts}
use Rattle.by_node.specs.Each.{Each, at}
use Rattle.rdf_core.specs.declared.events.Standing.TheVariants.{Up}
use Rattle.rdf_core.specs.State.{blank, blank_primary, blank_backup}
use Rattle.primary_node.specs.Moves.{standing_at}
use Rattle.primary_node.specs.Nodes.{IsAt, MayServe as PrimaryMayServe}
use Rattle.backup_node.specs.declared.node.BackupNode.{BackupNode}
use Rattle.senders.specs.Sending.{Sending, AreSenders}
use Rattle.rdf_system.specs.declared.session.SessionState.TheVariants.{Closed}
use Rattle.rdf_system.specs.declared.site.Front.{Front}
use Rattle.rdf_system.specs.declared.site.Site.{Site}
use Rattle.rdf_system.specs.declared.system.System.{System}
use Rattle.rdf_system.specs.Place.{HasRoom}
use Rattle.rdf_system.specs.Shelved.{IsWholeFront, front_disks}
use Rattle.rdf_system.specs.Moves.{phase_in}
use Rattle.rdf_system.specs.Stances.{fresh, fresh_at, stances_of}
use Rattle.rdf_system.specs.Starting.{HasStarted}
use Rattle.rdf_system.specs.States.{IsAtSite, IsWholeSite, SiteMayServe, disks_of_node, site_disks}
use Rattle.rdf_system.proofs.Following.{has_started}
use Rattle.rdf_system.proofs.PlaceLaws.{at_three}

module _ {D : Type 0} {d : Ghosts D} (front : Front D d) (b c : Site D d) (senders : Sending) (shelf : Vec (Vec D)) (layout : Layout) where
  abbrev pub made : Each (Site D d) → System D d
  made sites = record { primary = front.node; sites = sites; senders = senders; shelf = shelf; layout = layout; session = Closed }

  abbrev pub made_sites : Each (Site D d)
  made_sites = record { a = front.site; b = b; c = c }

  -- what holds of the disks of each holds of those of the system
  pub of_each : (P : Node → List D → Type 0) → P A (front_disks front) → P B (site_disks b) → P C (site_disks c) → (sites : Each (Site D d)) → sites ≡ made_sites → (node : Node) → P node (disks_of_node (made sites) node)
  of_each P of_a of_b of_c sites is = subst (λ (xs : Each (Site D d)). (node : Node) → P node (disks_of_node (made xs) node)) (sym is) (at_three (λ node. P node (disks_of_node (made made_sites) node)) of_a of_b of_c)

  -- no backup's node stands at the primary's place
  alone : (laid : Layout) → IsWholeFront laid front → (P : Type 0) (Q : BackupNode D d → Type 0) → P → MatchOption front.site.node P Q
  alone laid whole P Q p = subst (λ (o : Option (BackupNode D d)). MatchOption o P Q) (sym whole.alone) p

  -- its nodes are up, and the backups run
  stand : (laid : Layout) → IsWholeFront laid front → standing_at front.node ≡ Up → phase_in b.node ≡ fresh_at laid B → phase_in c.node ≡ fresh_at laid C → (sites : Each (Site D d)) → sites ≡ made_sites → stances_of (made sites) ≡ fresh laid
  stand laid whole p of_b of_c sites is = subst (λ (xs : Each (Site D d)). stances_of (made xs) ≡ fresh laid) (sym is) (λ i. record { primary = p i; phases = record { a = of_a i; b = of_b i; c = of_c i }; session = Closed })
    where
      of_a : phase_in front.site.node ≡ None
      of_a = ap phase_in whole.alone

  module _ {tells : Type 0} {files : D → Disk} {counts : D → Counts} (laid : Layout) (is_laid : layout ≡ laid) (whole : IsWholeFront laid front) (b_whole : IsWholeSite laid B b) (c_whole : IsWholeSite laid C c) where
    pub is_started : (tells → IsAt files laid blank_primary front.node) → (tells → IsAtSite files laid [] (blank_backup laid) b) → (tells → IsAtSite files laid [] (blank_backup laid) c) →
        PrimaryMayServe tells files counts front.node → SiteMayServe tells files counts b → SiteMayServe tells files counts c →
        standing_at front.node ≡ Up → phase_in b.node ≡ fresh_at laid B → phase_in c.node ≡ fresh_at laid C → HasRoom 2 shelf → AreSenders laid [] (blank laid).senders senders →
        (sites : Each (Site D d)) → sites ≡ made_sites → ((node : Node) → length (disks_of_node (made sites) node) ≡ 17) → HasStarted tells files counts laid (made sites)
    is_started a_at b_at c_at a_serves b_serves c_serves standing b_phase c_phase shelf_room sent sites is many = has_started
        (λ t. record {
          laid = is_laid;
          primary = a_at t;
          senders = sent;
          sites = over (λ node site. IsAtSite files laid [] (at (blank laid).backups node) site) (alone laid whole (blank_backup laid ≡ blank_backup laid) _ refl) (b_at t) (c_at t);
          session = tt;
        })
        (record {
          whole = record {
            many = many;
            sized = whole.sized ∙ ap (λ (l : Layout). l.volumes) (sym is_laid);
            sites = over (λ node site. IsWholeSite layout node site) (moved A front.site (record { node = alone laid whole (false ≡ false) _ refl; room = whole.room })) (moved B b b_whole) (moved C c c_whole);
            shelf = shelf_room;
            session = tt;
          };
          primary = a_serves;
          sites = over (λ node site. SiteMayServe tells files counts site) (alone laid whole (Unit {0}) _ tt) b_serves c_serves;
        })
        is_laid refl (stand laid whole standing b_phase c_phase sites is)
      where
        over : (P : Node → Site D d → Type 0) → P A front.site → P B b → P C c → (node : Node) → P node (at sites node)
        over P of_a of_b of_c = subst (λ (xs : Each (Site D d)). (node : Node) → P node (at xs node)) (sym is) (at_three (λ node. P node (at made_sites node)) of_a of_b of_c)

        moved : (node : Node) (site : Site D d) → IsWholeSite laid node site → IsWholeSite layout node site
        moved node site h = subst (λ (l : Layout). IsWholeSite l node site) (sym is_laid) h
