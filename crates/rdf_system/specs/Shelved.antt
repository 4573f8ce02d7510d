-- The disks of the nodes while they are no system: out of the racks, and beside nodes that are made or closed.
use Rattle.std.specs.Prelude.{◌≡◌, List, ◌++◌, None}
use Rattle.rdf_types.specs.declared.layout.Layout.{Layout}
use Rattle.rdf_types.specs.declared.records.Node.{Node}
use Rattle.rdf_types.specs.declared.records.Node.TheVariants.{A, B, C}
use Rattle.rdf_disk.specs.Files.{Disk}
use Rattle.rdf_disk.specs.Counts.{Counts}
use Rattle.rdf_disk.specs.declared.disk.Disk.{Ghosts}
use Rattle.node_disks.specs.Cuts.{AreCut}
use Rattle.primary_node.specs.Nodes.{disks_at}
use Rattle.rdf_system.specs.declared.shelves.Shelves.{Shelves}
use Rattle.rdf_system.specs.declared.site.Front.{Front}
use Rattle.rdf_system.specs.declared.start.Kept.{Kept}
use Rattle.rdf_system.specs.Place.{HasRoom}
use Rattle.rdf_system.specs.States.{site_disks}

-- the disks of a node
abbrev pub disks_on : {D : Type 0} → Shelves D → Node → List D
disks_on s A = s.a.items
disks_on s B = s.b.items
disks_on s C = s.c.items

-- the disks of the primary's node, and behind them those beside it
abbrev pub front_disks : {D : Type 0} {d : Ghosts D} → Front D d → List D
front_disks front = disks_at front.node ++ site_disks front.site

-- the node has the layout's volumes, no backup's node stands beside it, and there is room to hand its disks back
pub record IsWholeFront {D : Type 0} {d : Ghosts D} (layout : Layout) (front : Front D d) : Type 0 where
  pub sized : front.node.volumes ≡ layout.volumes
  pub alone : front.site.node ≡ None
  pub room : HasRoom 17 front.site.room

-- there is room to hand back the disks of each node, and the layout is this one
pub record IsKept {D : Type 0} (layout : Layout) (kept : Kept D) : Type 0 where
  pub a : HasRoom 17 kept.a
  pub b : HasRoom 17 kept.b
  pub c : HasRoom 17 kept.c
  pub laid : kept.layout ≡ layout

-- disks that were cut, and behind them others as they were
pub record AreShut {D : Type 0} (tells : Type 0) (files : D → Disk) (counts : D → Counts) (own spare now : List D) : Type 0 where
  pub disks : List D
  pub order : now ≡ disks ++ spare
  pub cut : AreCut tells files counts own disks
