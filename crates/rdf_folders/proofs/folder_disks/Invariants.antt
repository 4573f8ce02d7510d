use Rattle.std.proofs.Common.{◌≡◌, length}
use Rattle.rdf_folders.specs.FolderNames.{folder_names, folders_of}
use Rattle.rdf_folders.proofs.folder_disks.Given as goal

abbrev pub invariant-loop-disk : goal.invariant-loop-disk
invariant-loop-disk g l = record {
  many : length l.disks.items ≡ l.disk;
  named : folders_of l.disks.items ≡ folder_names l.dir l.node l.disk;
}
