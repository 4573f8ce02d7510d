use Rattle.std.proofs.Common.{◌≡◌, nat_lt}
use Rattle.folder_disk.specs.Names.{Still}
use Rattle.folder_disk.specs.Causes.{HasCause}
use Rattle.folder_disk.proofs.looking.read_some.Given as goal

abbrev pub invariant-loop-turn : goal.invariant-loop-turn
invariant-loop-turn g l =
    (g.F.Folder.tells → l.into ≡ l.fn.into)
    × (g.F.Folder.tells → Still (g.F.Folder.names l.fn.folder) (g.F.Folder.names l.folder))
    × (g.F.Folder.tells → g.F.Folder.lost l.folder ≡ g.F.Folder.lost l.fn.folder)
    × (g.F.Folder.tells → HasCause (nat_lt 0 l._turn) (g.F.Folder.refusals l.fn.folder) (g.F.Folder.refusals l.folder))
