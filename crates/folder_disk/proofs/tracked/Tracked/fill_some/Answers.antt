use Rattle.std.proofs.Common.{length, ◌+◌}
use Rattle.folder_disk.proofs.Steady.{steady_filled, noted_still}
use Rattle.folder_disk.proofs.tracked.Tracked.fill_some.Goals as goal

pub invariant_of-self-clause-steady : goal.invariant_of-self-clause-steady
invariant_of-self-clause-steady g c tells synced =
    let noted = noted_still c.args.file (c.args.at + length c.args.bytes.now) _ c.loop-turn.self.grown.items _ (g.F.Folder.names c.loop-turn.self.folder) c.loop-turn.invariant.5 (c.loop-turn.invariant.3 tells) (c.requires.due tells).noted in
    steady_filled c.args.file c.args.at c.args.bytes.now (g.F.Folder.names c.loop-turn.self.folder) (g.F.Folder.names c.write.new.self) c.loop-turn.self.grown.items noted (c.loop-turn.self.steady tells synced) c.write.result (c.write.ensures.names tells)
