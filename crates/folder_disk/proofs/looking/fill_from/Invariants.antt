use Rattle.std.proofs.Common.{◌≡◌, ◌≤◌, ◌-◌, false, length}
use Rattle.folder_disk.specs.Names.{Still}
use Rattle.folder_disk.specs.Causes.{HasCause}
use Rattle.folder_disk.proofs.Reading.{IsReading}
use Rattle.folder_disk.proofs.looking.fill_from.Given as goal

abbrev pub invariant-loop-filled : goal.invariant-loop-filled
invariant-loop-filled g l =
    (l.filled ≤ length l.into) × (length l.into ≡ length l.fn.into)
    × (g.F.Folder.tells → Still (g.F.Folder.names l.fn.folder) (g.F.Folder.names l.folder))
    × (g.F.Folder.tells → g.F.Folder.lost l.folder ≡ g.F.Folder.lost l.fn.folder)
    × (g.F.Folder.tells → g.F.Folder.lost l.fn.folder ≡ false → HasCause false (g.F.Folder.refusals l.fn.folder) (g.F.Folder.refusals l.folder))
    × (g.F.Folder.tells → g.F.Folder.lost l.fn.folder ≡ false → IsReading (g.F.Folder.names l.fn.folder l.file).file.seen l.at l.fn.into l.filled l.into)

abbrev pub decreases-loop-filled : goal.decreases-loop-filled
decreases-loop-filled g l = length l.into - l.filled
