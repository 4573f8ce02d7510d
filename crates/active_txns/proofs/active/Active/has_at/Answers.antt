use Rattle.std.proofs.Common.{ap, ◌∙◌, is_some}
use Rattle.std.specs.FinMap as map
use Rattle.active_txns.specs.Founds.{found_or_none}
use Rattle.active_txns.specs.FoundLaws.{none_there}
use Rattle.active_txns.proofs.active.Active.has_at.Goals as goal

pub returns-in-None : goal.returns-in-None
returns-in-None c = none_there c.args.key.now ∙ ap (λ o. is_some (map.get (found_or_none o) c.args.key.now)) c.in-None.ensures

pub returns-in-Some : goal.returns-in-Some
returns-in-Some c = c.has.ensures ∙ ap (λ o. is_some (map.get (found_or_none o) c.args.key.now)) c.in-Some.ensures
