use Rattle.std.proofs.Common.{◌+◌, ◌∙◌, ap}
use Rattle.std.specs.Prelude.{unwrap_or}
use Rattle.rdf_core.specs.Effects.{count_u64}
use Rattle.load_summary.proofs.TallyLaws.{taken_with}
use Rattle.load_summary.proofs.summary.Taken.with.Goals as goal

pub returns : goal.returns
returns c = taken_with c.args.node c.args.self c.args.line.now c.args.reply.now c.unwrap_or.result c.added.result (c.unwrap_or.ensures ∙ ap (λ o. unwrap_or o c.args.self.upto) c.taken_in.ensures) (c.added.ensures ∙ ap (λ n. count_u64 (c.args.self.rows + n)) c.rows_in.ensures)
