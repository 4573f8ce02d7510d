-- The disks of a system that is closed or shut.
use Rattle.std.proofs.Common.{◌≡◌, ℕ, suc, ◌+◌, true, false, List, [], ◌∷◌, ◌++◌, length, take, Option, Some, None, refl, sym, ap, ◌∙◌, subst, arith}
use Rattle.std.specs.Prelude.{MatchOption}
use Rattle.std.proofs.Math.Seq.{take-append_seam}
use Rattle.std.proofs.lemmas.List.{length-append}
use Rattle.rdf_types.specs.declared.layout.Layout.{Layout}
use Rattle.rdf_types.specs.declared.records.Node.{Node}
use Rattle.rdf_types.specs.declared.records.Node.TheVariants.{A, B, C}
use Rattle.rdf_types.specs.declared.records.Record.{Record}
use Rattle.rdf_disk.specs.Files.{Disk}
use Rattle.rdf_disk.specs.Counts.{Counts, turned_off}
use Rattle.rdf_disk.specs.declared.disk.Disk.{Ghosts}
use Rattle.rdf_core.specs.Allowed.{is_backup, is_node}
use Rattle.rdf_core.specs.Backup.{Backup}
use Rattle.rdf_core.specs.Primary.{Primary}
use Rattle.rdf_core.specs.Sessions.{is_backup_node}
use Rattle.by_node.specs.Each.{at}
use Rattle.rdf_core.specs.State.{State}
use Rattle.rdf_primary.specs.Standing as primary
use Rattle.rdf_primary.specs.Standing.{PrimaryStandsFor}
use Rattle.rdf_backup.specs.Standing as backup
use Rattle.rdf_backup.specs.Standing.{BackupStandsFor}
use Rattle.node_disks.specs.Cuts.{IsCut, AreCut, Each}
use Rattle.node_disks.specs.CutLaws.{same_length, each_same, cut_narrows, still_durably}
use Rattle.primary_node.specs.Nodes.{disks_at}
use Rattle.backup_node.specs.declared.node.BackupNode.{BackupNode}
use Rattle.backup_node.specs.Nodes.{disks_at as backup_disks, MayServe as BackupMayServe}
use Rattle.rdf_system.specs.declared.racks.Racks.{Racks}
use Rattle.rdf_system.specs.declared.shelves.Shelves.{Shelves}
use Rattle.rdf_system.specs.declared.site.Site.{Site}
use Rattle.rdf_system.specs.declared.system.System.{System}
use Rattle.rdf_system.specs.Place.{AtEach, is_used, disk_at, disks_in}
use Rattle.rdf_system.specs.OnNodes.{site_at}
use Rattle.rdf_system.specs.Shelved.{AreShut, disks_on}
use Rattle.rdf_system.specs.States.{DisksStandFor, IsNodeOf, IsWholeSite, MayServe, RacksStandFor, SiteMayServe, SiteStandsFor, WasCut, disk_of, disks_of_node, node_disks, site_disks}
use Rattle.rdf_system.proofs.PlaceLaws.{at_three, at_two, backup_node_is, by_kind, joined_each, used, unused, used_below, unused_beyond, never_used, is_placed, is_absent}
use Rattle.rdf_system.proofs.NodeLaws.{node_many, backup_many, disks_there}

-- those of the node are the first ones
pub own_first : {X : Type 0} (own rest : List X) (n : ℕ) → length own ≡ n → take n (own ++ rest) ≡ own
own_first own rest n many = subst (λ k. take k (own ++ rest) ≡ own) many (take-append_seam own rest)

-- where no backup's node stands, its disks are none
pub alone_is : {D : Type 0} {d : Ghosts D} (own rest : List D) (o : Option (BackupNode D d)) → o ≡ None → own ++ (node_disks o ++ rest) ≡ own ++ rest
alone_is {D} {d} own rest o e = ap (λ (x : Option (BackupNode D d)). own ++ (node_disks x ++ rest)) e

false_true : false ≡ true → ⊥
false_true e = cc

module _ {D : Type 0} (tells : Type 0) (files : D → Disk) (counts : D → Counts) where
  -- disks that are cut stand for what they stood for
  primary_cut : tells → (layout : Layout) (a : Primary) (old new : List D) → AreCut tells files counts old new → PrimaryStandsFor files layout a old → PrimaryStandsFor files layout a new
  primary_cut t layout a old new cut stands = record {
    trail = stands.trail;
    count = same_length (λ i x y. IsCut tells files counts x y) old new cut ∙ stands.count;
    disk = still_durably files (primary.DiskStandsFor a) old new (cut_narrows tells files counts t old new cut) stands.disk;
  }

  backup_cut : tells → (layout : Layout) (trail : List Record) (b : Backup) (old new : List D) → AreCut tells files counts old new → BackupStandsFor files layout trail b old → BackupStandsFor files layout trail b new
  backup_cut t layout trail b old new cut stands = record {
    legal = stands.legal;
    sound = stands.sound;
    count = same_length (λ i x y. IsCut tells files counts x y) old new cut ∙ stands.count;
    disk = still_durably files (backup.DiskStandsFor layout trail b) old new (cut_narrows tells files counts t old new cut) stands.disk;
  }

  module _ (own spare now : List D) (shut : AreShut tells files counts own spare now) where
    as_many : length shut.disks ≡ length own
    as_many = same_length (λ i x y. IsCut tells files counts x y) own shut.disks shut.cut

    -- there are as many disks
    pub shut_many : length now ≡ length own + length spare
    shut_many = ap (λ (l : List D). length l) shut.order ∙ length-append shut.disks spare ∙ ap (λ n. n + length spare) as_many

    -- the used disks were cut
    pub shut_each : (layout : Layout) (node : Node) → is_node layout node ≡ true → length own ≡ suc layout.volumes → Each (WasCut counts layout node) (own ++ spare) now
    shut_each layout node placed many = subst (λ (l : List D). Each (WasCut counts layout node) (own ++ spare) l) (sym shut.order) (joined_each (λ i x y. IsCut tells files counts x y) (WasCut counts layout node) own shut.disks spare shut.cut
        (λ i x y few h. used (λ a b. counts b ≡ turned_off (counts a)) x y (is_used layout node i) (used_below layout node placed i (omega (arith, few, many))) h.counts_are)
        (λ i x far. unused (λ a b. counts b ≡ turned_off (counts a)) x x (is_used layout node i) (unused_beyond layout node placed i (omega (arith, far, many))) refl))

    first_shut : (n : ℕ) → length own ≡ n → take n now ≡ shut.disks
    first_shut n many = ap (λ (l : List D). take n l) shut.order ∙ own_first shut.disks spare n (as_many ∙ many)

    -- and stand for what they stood for
    pub primary_shut : tells → (layout : Layout) (a : Primary) → length own ≡ suc layout.volumes → PrimaryStandsFor files layout a own → PrimaryStandsFor files layout a (take (suc layout.volumes) now)
    primary_shut t layout a many stands = subst (λ (l : List D). PrimaryStandsFor files layout a l) (sym (first_shut (suc layout.volumes) many)) (primary_cut t layout a own shut.disks shut.cut stands)

    pub backup_shut : tells → (layout : Layout) (trail : List Record) (b : Backup) → length own ≡ suc layout.volumes → BackupStandsFor files layout trail b own → BackupStandsFor files layout trail b (take (suc layout.volumes) now)
    backup_shut t layout trail b many stands = subst (λ (l : List D). BackupStandsFor files layout trail b l) (sym (first_shut (suc layout.volumes) many)) (backup_cut t layout trail b own shut.disks shut.cut stands)

-- where there is no node the disks are those beside it
none_there : {D : Type 0} (tells : Type 0) (files : D → Disk) (counts : D → Counts) (spare now : List D) → AreShut tells files counts [] spare now → now ≡ spare
none_there {D = D} tells files counts spare now shut = shut.order ∙ ap (λ (l : List D). l ++ spare) (empty shut.disks (same_length (λ i x y. IsCut tells files counts x y) [] shut.disks shut.cut))
  where
    empty : (l : List D) → length l ≡ 0 → l ≡ []
    empty [] e = refl
    empty (x ∷ xs) e = absurd (omega (arith, e))

-- a site that is closed or shut
module _ {D : Type 0} {d : Ghosts D} (tells : Type 0) (files : D → Disk) (counts : D → Counts) (layout : Layout) (name : Node) where
  own_many : (n : BackupNode D d) → IsNodeOf layout name n → BackupMayServe tells files counts n → length (backup_disks n) ≡ suc layout.volumes
  own_many n whole serves = backup_many tells files counts n serves ∙ ap suc whole.sized

  shut_site : (o : Option (BackupNode D d)) (spare now : List D) → is_backup_node name ≡ true → MatchOption o (is_backup layout name ≡ false) (IsNodeOf layout name) → MatchOption o (Unit {0}) (BackupMayServe tells files counts) →
      AreShut tells files counts (node_disks o) spare now → Each (WasCut counts layout name) (node_disks o ++ spare) now
  shut_site None spare now backup absent serves shut = subst (λ (l : List D). Each (WasCut counts layout name) spare l) (sym (none_there tells files counts spare now shut))
      (each_same (WasCut counts layout name) spare (λ i x. unused (λ a b. counts b ≡ turned_off (counts a)) x x (is_used layout name i) (never_used layout name (is_absent layout name backup absent) i) refl))
  shut_site (Some n) spare now backup whole serves shut = shut_each tells files counts (backup_disks n) spare now shut layout name (is_placed layout name whole.placed) (own_many n whole serves)

  stood_site : (o : Option (BackupNode D d)) (spare now : List D) → MatchOption o (is_backup layout name ≡ false) (IsNodeOf layout name) → MatchOption o (Unit {0}) (BackupMayServe tells files counts) → AreShut tells files counts (node_disks o) spare now →
      tells → (trail : List Record) (b : Backup) → is_backup layout name ≡ true → MatchOption o (Unit {0}) (λ n. BackupStandsFor files layout trail b (backup_disks n)) → BackupStandsFor files layout trail b (take (suc layout.volumes) now)
  stood_site None spare now absent serves shut t trail b placed stands = absurd (false_true (sym absent ∙ placed))
  stood_site (Some n) spare now whole serves shut t trail b placed stands = backup_shut tells files counts (backup_disks n) spare now shut t layout trail b (own_many n whole serves) stands

  closed_site : (o : Option (BackupNode D d)) (spare : List D) → MatchOption o (is_backup layout name ≡ false) (IsNodeOf layout name) → MatchOption o (Unit {0}) (BackupMayServe tells files counts) →
      (trail : List Record) (b : Backup) → is_backup layout name ≡ true → MatchOption o (Unit {0}) (λ n. BackupStandsFor files layout trail b (backup_disks n)) → BackupStandsFor files layout trail b (take (suc layout.volumes) (node_disks o ++ spare))
  closed_site None spare absent serves trail b placed stands = absurd (false_true (sym absent ∙ placed))
  closed_site (Some n) spare whole serves trail b placed stands = subst (λ (l : List D). BackupStandsFor files layout trail b l) (sym (own_first (backup_disks n) spare (suc layout.volumes) (own_many n whole serves))) stands

  module _ (site : Site D d) (whole : IsWholeSite layout name site) (serves : SiteMayServe tells files counts site) where
    pub site_shut : (now : List D) → is_backup_node name ≡ true → AreShut tells files counts (node_disks site.node) site.spare.items now → Each (WasCut counts layout name) (site_disks site) now
    site_shut now backup shut = shut_site site.node site.spare.items now backup whole.node serves shut

    pub site_stood : (now : List D) → AreShut tells files counts (node_disks site.node) site.spare.items now → tells → (trail : List Record) (b : Backup) → is_backup layout name ≡ true → SiteStandsFor files layout trail b site → BackupStandsFor files layout trail b (take (suc layout.volumes) now)
    site_stood now shut = stood_site site.node site.spare.items now whole.node serves shut

    pub site_closed : (trail : List Record) (b : Backup) → is_backup layout name ≡ true → SiteStandsFor files layout trail b site → BackupStandsFor files layout trail b (take (suc layout.volumes) (site_disks site))
    site_closed = closed_site site.node site.spare.items whole.node serves

-- racks whose disks at each node are these
module _ {D : Type 0} (files : D → Disk) (layout : Layout) (s : State) (racks : Racks D) (lists : Node → List D) (places : (node : Node) → disks_in racks node ≡ lists node) where
  pub racks_stand : PrimaryStandsFor files layout s.primary (take (suc layout.volumes) (lists A)) →
      ((node : Node) → is_backup layout node ≡ true → BackupStandsFor files layout s.primary.trail (at s.backups node) (take (suc layout.volumes) (lists node))) → RacksStandFor files layout s racks
  racks_stand a b = record {
    primary = subst (λ (l : List D). PrimaryStandsFor files layout s.primary (take (suc layout.volumes) l)) (sym (places A)) a;
    backup = λ node e. subst (λ (l : List D). BackupStandsFor files layout s.primary.trail (at s.backups node) (take (suc layout.volumes) l)) (sym (places node)) (b node e);
  }

-- a system that is closed or shut
module _ {D : Type 0} {d : Ghosts D} (tells : Type 0) (files : D → Disk) (counts : D → Counts) (sys : System D d) (serves : MayServe tells files counts sys) where
  front_many : length (disks_at sys.primary) ≡ suc sys.layout.volumes
  front_many = node_many tells files counts sys.primary serves.primary ∙ ap suc serves.whole.sized

  -- no backup's node stands at the primary's place
  pub alone : (site_at sys A).node ≡ None
  alone = go (site_at sys A).node (serves.whole.sites A).node
    where
      go : (o : Option (BackupNode D d)) → MatchOption o (is_backup sys.layout A ≡ false) (IsNodeOf sys.layout A) → o ≡ None
      go None h = refl
      go (Some n) h = absurd (false_true h.placed)

  front_is : disks_of_node sys A ≡ disks_at sys.primary ++ (site_at sys A).spare.items
  front_is = alone_is (disks_at sys.primary) (site_at sys A).spare.items (site_at sys A).node alone

  -- there is room for the disks of the primary
  pub front_fits : (got : List D) → got ≡ disks_at sys.primary → length got + length (site_at sys A).spare.items ≡ 17
  front_fits got is = ap (λ (l : List D). length l + length (site_at sys A).spare.items) is ∙ sym (length-append (disks_at sys.primary) (site_at sys A).spare.items) ∙ ap (λ (l : List D). length l) (sym front_is) ∙ serves.whole.many A

  -- the disks of the backups were cut
  abbrev pub BackupsShut : (Node → List D) → Type 0
  BackupsShut lists = (node : Node) → is_backup_node node ≡ true → AreShut tells files counts (node_disks (site_at sys node).node) (site_at sys node).spare.items (lists node)

  -- by the sites that were split
  module _ (x y z : Site D d) (split : (x ≡ site_at sys A) × (y ≡ site_at sys B) × (z ≡ site_at sys C)) where
    pub front_shut : (own now : List D) → own ≡ disks_at sys.primary → AreShut tells files counts own x.spare.items now → AreShut tells files counts (disks_at sys.primary) (site_at sys A).spare.items now
    front_shut own now is h = subst (λ (l : List D). AreShut tells files counts l (site_at sys A).spare.items now) is (subst (λ (s : Site D d). AreShut tells files counts own s.spare.items now) split.0 h)

    pub sites_shut : (shelves : Shelves D) → AreShut tells files counts (node_disks y.node) y.spare.items shelves.b.items → AreShut tells files counts (node_disks z.node) z.spare.items shelves.c.items → BackupsShut (disks_on shelves)
    sites_shut shelves b c = at_two (λ node. AreShut tells files counts (node_disks (site_at sys node).node) (site_at sys node).spare.items (disks_on shelves node))
        (subst (λ (s : Site D d). AreShut tells files counts (node_disks s.node) s.spare.items shelves.b.items) split.1 b)
        (subst (λ (s : Site D d). AreShut tells files counts (node_disks s.node) s.spare.items shelves.c.items) split.2 c)

  module _ (layout : Layout) (s : State) (racks : Racks D) (stands : DisksStandFor files layout s sys) where
    many_in : length (disks_at sys.primary) ≡ suc layout.volumes
    many_in = front_many ∙ ap (λ (l : Layout). suc l.volumes) stands.laid

    whole_at : (node : Node) → IsWholeSite layout node (site_at sys node)
    whole_at node = subst (λ (l : Layout). IsWholeSite l node (site_at sys node)) stands.laid (serves.whole.sites node)

    pub closed_keeps : ((node : Node) → disks_in racks node ≡ disks_of_node sys node) → RacksStandFor files layout s racks
    closed_keeps places = racks_stand files layout s racks (disks_of_node sys) places
        (subst (λ (l : List D). PrimaryStandsFor files layout s.primary l) (sym (own_first (disks_at sys.primary) (site_disks (site_at sys A)) (suc layout.volumes) many_in)) stands.primary)
        (λ node placed. subst (λ (l : List D). BackupStandsFor files layout s.primary.trail (at s.backups node) (take (suc layout.volumes) l)) (sym (disks_there sys node (backup_node_is layout node placed)))
        (site_closed tells files counts layout node (site_at sys node) (whole_at node) (serves.sites node) s.primary.trail (at s.backups node) placed (stands.sites node)))

    pub shut_keeps : tells → (lists : Node → List D) → ((node : Node) → disks_in racks node ≡ lists node) → AreShut tells files counts (disks_at sys.primary) (site_at sys A).spare.items (lists A) → BackupsShut lists → RacksStandFor files layout s racks
    shut_keeps t lists places a b = racks_stand files layout s racks lists places
        (primary_shut tells files counts (disks_at sys.primary) (site_at sys A).spare.items (lists A) a t layout s.primary many_in stands.primary)
        (λ node placed. site_stood tells files counts layout node (site_at sys node) (whole_at node) (serves.sites node) (lists node) (b node (backup_node_is layout node placed)) t s.primary.trail (at s.backups node) placed (stands.sites node))

  module _ (lists : Node → List D) (a : AreShut tells files counts (disks_at sys.primary) (site_at sys A).spare.items (lists A)) (b : BackupsShut lists) where
    pub all_shut : (node : Node) → Each (WasCut counts sys.layout node) (disks_of_node sys node) (lists node)
    all_shut = by_kind (λ node. Each (WasCut counts sys.layout node) (disks_of_node sys node) (lists node))
        (subst (λ (l : List D). Each (WasCut counts sys.layout A) l (lists A)) (sym front_is) (shut_each tells files counts (disks_at sys.primary) (site_at sys A).spare.items (lists A) a sys.layout A refl front_many))
        (λ node e. subst (λ (l : List D). Each (WasCut counts sys.layout node) l (lists node)) (sym (disks_there sys node e))
        (site_shut tells files counts sys.layout node (site_at sys node) (serves.whole.sites node) (serves.sites node) (lists node) e (b node e)))

    pub shut_full : (node : Node) → length (lists node) ≡ 17
    shut_full node = same_length (WasCut counts sys.layout node) (disks_of_node sys node) (lists node) (all_shut node) ∙ serves.whole.many node

    pub shut_places : (racks : Racks D) → ((node : Node) → disks_in racks node ≡ lists node) → AtEach (WasCut counts sys.layout) (disk_of sys) (disk_at racks)
    shut_places racks places node = subst (λ (l : List D). Each (WasCut counts sys.layout node) (disks_of_node sys node) l) (sym (places node)) (all_shut node)

-- the disks of a system that is closed, in their places
module _ {D : Type 0} {d : Ghosts D} (sys : System D d) (x y z : Site D d) (split : (x ≡ site_at sys A) × (y ≡ site_at sys B) × (z ≡ site_at sys C)) where
  pub front_joined : (own now : List D) → (site_at sys A).node ≡ None → own ≡ disks_at sys.primary → now ≡ own ++ x.spare.items → now ≡ disks_of_node sys A
  front_joined own now none is order = order ∙ ap (λ (s : Site D d). own ++ s.spare.items) split.0 ∙ ap (λ (l : List D). l ++ (site_at sys A).spare.items) is
      ∙ sym (alone_is (disks_at sys.primary) (site_at sys A).spare.items (site_at sys A).node none)

  pub front_back : (racks : Racks D) (shelves : Shelves D) → ((node : Node) → disks_in racks node ≡ disks_on shelves node) → (own : List D) → (site_at sys A).node ≡ None → own ≡ disks_at sys.primary → shelves.a.items ≡ own ++ x.spare.items →
      shelves.b.items ≡ site_disks y → shelves.c.items ≡ site_disks z → (node : Node) → disks_in racks node ≡ disks_of_node sys node
  front_back racks shelves places own none is a b c node = places node ∙ at_three (λ node. disks_on shelves node ≡ disks_of_node sys node) (front_joined own shelves.a.items none is a) (b ∙ ap (λ (s : Site D d). site_disks s) split.1) (c ∙ ap (λ (s : Site D d). site_disks s) split.2) node
