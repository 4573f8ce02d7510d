use Rattle.std.proofs.Common.{ℕ, ◌<◌, nat_lt, IfSome}
use Rattle.std.specs.Prelude.{slice_get}
use Rattle.node_disks.specs.Cuts.{Each}
use Rattle.rdf_system.specs.Place.{IfUsed}
use Rattle.rdf_system.specs.Starting.{AreBlankBelow, IsReady, LeftAlone}
use Rattle.rdf_system.proofs.looks.first_refused_of.Given as goal

abbrev pub invariant-loop-number : goal.invariant-loop-number
invariant-loop-number g l = record {
  same : Each (λ i x y. IfUsed (nat_lt i l.number) (LeftAlone g.D.Disk.tells g.D.Disk.files g.D.Disk.counts) x y) l.fn.disks.items l.disks.items;
  blank : g.D.Disk.tells → AreBlankBelow g.D.Disk.files l.number l.fn.disks.items;
  ready : (i : ℕ) → i < l.number → IfSome (slice_get l.disks.items i) (IsReady g.D.Disk.tells g.D.Disk.files g.D.Disk.counts);
}
