use Rattle.plan_lang.specs.PlanReading.{heading_read}
use Rattle.plan_lang.specs.Words.{lines_in}
use Rattle.plan_lang.proofs.HeadingLaws.{heading_takes}
use Rattle.plan_lang.proofs.plan_reading.plan_of.Goals as goal

pub layout_of-requires : goal.layout_of-requires
layout_of-requires c = (heading_takes 1 (lines_in c.args.bytes.now) (heading_read c.in_ok-header.header, c.in_ok-header.text.number, lines_in c.in_ok-header.text.rest.now) c.in_ok-header.ensures.value).limits
