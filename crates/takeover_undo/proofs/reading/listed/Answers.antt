use Rattle.active_txns.specs.FoundLaws.{fewer}
use Rattle.takeover_undo.proofs.reading.listed.Goals as goal

pub loop-place-smaller : goal.loop-place-smaller
loop-place-smaller c = fewer c.loop-place.befores c.pop.new.self (c.in-Some.place, c.in-Some.before) c.in-Some.ensures.some
