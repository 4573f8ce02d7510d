use Rattle.quiet_runs.proofs.Nodes.{up_told, taken_told}
use Rattle.quiet_runs.proofs.Telling.{takeovers_ok, copies_ok}
use Rattle.quiet_runs.proofs.replies_tell.Goals as goal

pub returns : goal.returns
returns c = record { up = up_told; taken = taken_told; takeovers = takeovers_ok c.each_line_is_answered.ensures; copies = copies_ok c.each_line_is_answered.ensures }
