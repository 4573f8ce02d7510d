-- The disks of a node that is cut, beside each as it was.
pub use Rattle.node_disks.specs.Cuts.{IfBoth, Each, IsCut, AreCut}
