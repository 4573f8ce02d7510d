use Rattle.std.proofs.Common.{◌≡◌, false, nat_lt}
use Rattle.folder_disk.specs.Names.{Still}
use Rattle.folder_disk.specs.Causes.{HasCause}
use Rattle.folder_disk.proofs.tracked.Tracked.fill_some.Given as goal

abbrev pub invariant-loop-turn : goal.invariant-loop-turn
invariant-loop-turn g l =
    (l.self.has_lost ≡ l.fn.self.has_lost) × (l.self.written ≡ l.fn.self.written) × (l.self.grown ≡ l.fn.self.grown)
    × (g.F.Folder.tells → Still (g.F.Folder.names l.fn.self.folder) (g.F.Folder.names l.self.folder))
    × (g.F.Folder.tells → l.fn.self.has_lost ≡ false → HasCause (nat_lt 0 l._turn) (g.F.Folder.refusals l.fn.self.folder) (g.F.Folder.refusals l.self.folder))
    × (l.self.grown.items ≡ l.fn.self.grown.items)
