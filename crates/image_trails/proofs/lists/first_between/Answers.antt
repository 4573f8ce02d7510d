use Rattle.image_trails.proofs.lists.first_between.Goals as goal

pub returns : goal.returns
returns c = λ rises. c.entry_at.ensures.next rises (c.count_before.ensures.behind rises)
