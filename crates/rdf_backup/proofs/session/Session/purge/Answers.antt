use Rattle.rdf_backup.specs.Sessions.{open_of}
use Rattle.rdf_backup.proofs.session.Session.purge.Goals as goal

pub returns-clause-purges : goal.returns-clause-purges
returns-clause-purges g c = record {
  mid = open_of c.rise.new.self;
  going = c.rise.ensures.goes.going;
  rises = c.rise.ensures.rises;
  keeps = c.purge_shown.ensures.keeps;
  ends = c.purge_shown.ensures.ends;
  judged = c.purge_shown.ensures.judged;
}

pub returns-clause-comes : goal.returns-clause-comes
returns-clause-comes g c = λ first come. c.purge_shown.ensures.keeps.comes first (c.rise.ensures.rises.comes first come)
