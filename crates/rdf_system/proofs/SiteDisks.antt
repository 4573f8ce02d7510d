-- The node of one backup changed at its site, and the rest of the system did not: the disks place by place, and what may be used.
use Rattle.std.proofs.Common.{◌≡◌, ◌⊎◌, inl, inr, suc, true, false, ◌++◌, List, [], length, Option, Some, refl, sym, ap, ◌∙◌, subst}
use Rattle.std.specs.Prelude.{MatchOption}
use Rattle.std.specs.Global.{Vec}
use Rattle.rdf_types.specs.declared.records.Node.{Node}
use Rattle.by_node.specs.Each.{at-with_at, with_at-keeps}
use Rattle.rdf_disk.specs.Files.{Disk}
use Rattle.rdf_disk.specs.Counts.{Counts}
use Rattle.rdf_disk.specs.declared.disk.Disk.{Ghosts}
use Rattle.plan_lang.specs.LineText.{same_node}
use Rattle.node_disks.specs.Cuts.{Each}
use Rattle.node_disks.specs.CutLaws.{each_same}
use Rattle.rdf_core.specs.Allowed.{is_backup}
use Rattle.rdf_core.specs.NodeLaws.{at_other}
use Rattle.rdf_core.specs.State.{by_node}
use Rattle.primary_node.specs.Nodes.{disks_at}
use Rattle.backup_node.specs.declared.node.BackupNode.{BackupNode}
use Rattle.backup_node.specs.Nodes.{disks_at as backup_disks, MayServe as BackupMayServe}
use Rattle.rdf_system.specs.declared.session.SessionState.{SessionState}
use Rattle.rdf_system.specs.declared.site.Site.{Site}
use Rattle.rdf_system.specs.declared.system.System.{System}
use Rattle.rdf_system.specs.NodeLines.{site_at, with_site}
use Rattle.rdf_system.specs.Place.{HasRoom, AtEach}
use Rattle.rdf_system.specs.Sessions.{node_of, IsPlacedAt}
use Rattle.rdf_system.specs.States.{disk_of, disks_of_node, node_disks, site_disks, IsNodeOf, IsWholeSite, SiteMayServe, MayServe}
use Rattle.rdf_system.proofs.Moving.{Moves, many_stay}
use Rattle.rdf_system.proofs.NodeLaws.{backup_many, disks_there}
use Rattle.rdf_system.proofs.PlaceLaws.{backup_node_is, is_placed, joined_each}
use Rattle.rdf_system.proofs.Telling.{either, same_is}

-- the disks of a backup are those of its site
pub of_site : {D : Type 0} {d : Ghosts D} (sys : System D d) (name : Node) → is_backup sys.layout name ≡ true → disks_of_node sys name ≡ site_disks (site_at sys name)
of_site sys name placed = disks_there sys name (backup_node_is sys.layout name placed)

-- at the site of that backup stands this node now, with as many disks, and beside it what stood there
pub record Swapped {D : Type 0} {d : Ghosts D} (tells : Type 0) (files : D → Disk) (counts : D → Counts) (old : System D d) (name : Node) (was now : BackupNode D d) (site : Site D d) : Type 0 where
  pub serves : MayServe tells files counts old
  pub placed : is_backup old.layout name ≡ true
  pub was-is : (site_at old name).node ≡ Some was
  pub now-is : site.node ≡ Some now
  pub was_serves : BackupMayServe tells files counts was
  pub was_of : IsNodeOf old.layout name was
  pub now_serves : BackupMayServe tells files counts now
  pub now_of : IsNodeOf old.layout name now
  pub same : length (backup_disks now) ≡ length (backup_disks was)
  pub spare : site.spare ≡ (site_at old name).spare
  pub room : site.room ≡ (site_at old name).room

module _ {D : Type 0} {d : Ghosts D} {tells : Type 0} {files : D → Disk} {counts : D → Counts} {old : System D d} {name : Node} {was now : BackupNode D d} {site : Site D d} (swapped : Swapped tells files counts old name was now site) where
  now_whole : IsWholeSite old.layout name site
  now_whole = record {
    node = subst (λ (o : Option (BackupNode D d)). MatchOption o (is_backup old.layout name ≡ false) (IsNodeOf old.layout name)) (sym swapped.now-is) swapped.now_of;
    room = subst (λ (v : Vec D). HasRoom 17 v) (sym swapped.room) (swapped.serves.whole.sites name).room;
  }

  site_serves : SiteMayServe tells files counts site
  site_serves = subst (λ (o : Option (BackupNode D d)). MatchOption o (Unit {0}) (BackupMayServe tells files counts)) (sym swapped.now-is) swapped.now_serves

  module _ (ss : SessionState) where
    pub moves : Moves name (backup_disks was) (backup_disks now) old (with_site old name site ss)
    moves = record {
      laid = refl;
      there = is_placed old.layout name swapped.placed;
      many = backup_many tells files counts was swapped.was_serves ∙ ap suc swapped.was_of.sized;
      spare = (site_at old name).spare.items;
      before = of_site old name swapped.placed ∙ ap (λ (o : Option (BackupNode D d)). node_disks o ++ (site_at old name).spare.items) swapped.was-is;
      behind = of_site (with_site old name site ss) name swapped.placed ∙ ap (λ (x : Site D d). site_disks x) (at-with_at old.sites name site)
          ∙ ap (λ (o : Option (BackupNode D d)). node_disks o ++ site.spare.items) swapped.now-is ∙ ap (λ v. backup_disks now ++ v.items) swapped.spare;
      others = λ node far. ap (λ (x : Site D d). by_node node (disks_at old.primary) [] ++ site_disks x) (at_other old.sites name site node far);
    }

    pub serves_on : IsPlacedAt old.layout (node_of ss) → MayServe tells files counts (with_site old name site ss)
    serves_on p = record {
      whole = record {
        many = λ node. many_stay name (backup_disks was) (backup_disks now) old (with_site old name site ss) moves swapped.same node ∙ swapped.serves.whole.many node;
        sized = swapped.serves.whole.sized;
        sites = with_at-keeps (IsWholeSite old.layout) old.sites name site swapped.serves.whole.sites now_whole;
        shelf = swapped.serves.whole.shelf;
        session = p;
      };
      primary = swapped.serves.primary;
      sites = with_at-keeps (λ node. SiteMayServe tells files counts) old.sites name site swapped.serves.sites site_serves;
    }

    abbrev new : System D d
    new = with_site old name site ss

    -- where each disk of the node goes so, and any disk may stay so, each disk of the system goes so
    pub all_each : (R : D → D → Type 0) → ((x : D) → R x x) → Each (λ i x y. R x y) (backup_disks was) (backup_disks now) → AtEach (λ node i x y. R x y) (disk_of old) (disk_of (with_site old name site ss))
    all_each R stays h node = go (either (same_node name node))
      where
        own : Each (λ i x y. R x y) (backup_disks was ++ moves.spare) (backup_disks now ++ moves.spare)
        own = joined_each (λ i x y. R x y) (λ i x y. R x y) (backup_disks was) (backup_disks now) moves.spare h (λ i x y few r. r) (λ i x far. stays x)

        here : Each (λ i x y. R x y) (disks_of_node old name) (disks_of_node new name)
        here = subst (λ (xs : List D). Each (λ i x y. R x y) (disks_of_node old name) xs) (sym moves.behind) (subst (λ (xs : List D). Each (λ i x y. R x y) xs (backup_disks now ++ moves.spare)) (sym moves.before) own)

        far : same_node name node ≡ false → Each (λ i x y. R x y) (disks_of_node old node) (disks_of_node new node)
        far e = subst (λ (xs : List D). Each (λ i x y. R x y) (disks_of_node old node) xs) (sym (moves.others node e)) (each_same (λ i x y. R x y) (disks_of_node old node) (λ i x. stays x))

        go : ((same_node name node ≡ true) ⊎ (same_node name node ≡ false)) → Each (λ i x y. R x y) (disks_of_node old node) (disks_of_node new node)
        go (inl e) = subst (λ (n : Node). Each (λ i x y. R x y) (disks_of_node old n) (disks_of_node new n)) (same_is name node e) here
        go (inr e) = far e
