-- What is kept of a run so far.
use Rattle.std.specs.Prelude.{◌≡◌, List, length, zip}
use Rattle.rdf_types.specs.declared.records.Node.TheVariants.{B, C}
use Rattle.plan_lang.specs.declared.lines.Line.{Line}
use Rattle.rdf_core.specs.declared.replies.Reply.{Reply}
use Rattle.load_summary.specs.declared.tally.Tally.{Tally}
use Rattle.load_summary.specs.Summary.{counts_of, taken_of, lists_of}

-- just these lines with these replies were noted
pub record Tallies (lines : List Line) (replies : List Reply) (tally : Tally) : Type 0 where
  pub answered : length lines ≡ length replies
  pub counts : tally.counts ≡ counts_of replies
  pub b : tally.b ≡ taken_of B (zip lines replies)
  pub c : tally.c ≡ taken_of C (zip lines replies)
  pub lists : tally.lists ≡ lists_of (zip lines replies)
