use Rattle.std.proofs.Common.{◌≡◌, false, take}
use Rattle.folder_disk.specs.Causes.{HasCause}
use Rattle.folder_disk.proofs.Flushes.{IsFlushing}
use Rattle.folder_disk.proofs.tracked.Tracked.flush_all.Given as goal

abbrev pub invariant-loop-i : goal.invariant-loop-i
invariant-loop-i g l =
    (l.self.has_lost ≡ false)
    × (l.self.written ≡ l.fn.self.written) × (l.self.has_moved ≡ l.fn.self.has_moved) × (l.self.is_settled ≡ l.fn.self.is_settled)
    × (g.F.Folder.tells → IsFlushing (g.F.Folder.names l.fn.self.folder) (g.F.Folder.names l.self.folder) (take l.i l.fn.self.written.items))
    × (g.F.Folder.tells → HasCause false (g.F.Folder.refusals l.fn.self.folder) (g.F.Folder.refusals l.self.folder))
