use Rattle.std.proofs.Common.{◌∙◌, sym, arith, Ok, refl}
use Rattle.rdf_backup.proofs.Telling.{taking_refused, volume_refused}
use Rattle.rdf_core.specs.declared.replies.NoWhy.TheVariants as no
use Rattle.rdf_core.specs.declared.replies.Reply.TheVariants.{No}
use Rattle.rdf_core.specs.Backup.{list_refusal, listed_at}
use Rattle.rdf_backup.specs.States.{layout_of, state_of}
use Rattle.rdf_backup.specs.Refusals.{AreRowsAt}
use Rattle.rdf_backup.proofs.RefusalLaws.{refused_so, let_through, no_refusal, rows_are, list_barred, list_beyond, list_there}
use Rattle.rdf_backup.proofs.backup.Backup.list.Goals as goal

pub returns-in-Taking-clause-ends : goal.returns-in-Taking-clause-ends
returns-in-Taking-clause-ends g c = λ tells w node serves. taking_refused g.D.Disk.files w node c.args.self.now serves c.args.vol (sym c.phase.ensures ∙ c.in-Taking.is)

pub returns-then-number-len-clause-ends : goal.returns-then-number-len-clause-ends
returns-then-number-len-clause-ends g c = λ tells w node serves. volume_refused g.D.Disk.files w node c.args.self.now serves c.args.vol (λ taking. c.in_default.not-Taking (c.phase.ensures ∙ taking))
    (omega (arith, c.if-number-len.true, c.len.ensures, c.number.ensures.value, c.args.self.now.sized, c.args.self.now.volumes.ok.0))

pub returns-in-Taking-clause-judged : goal.returns-in-Taking-clause-judged
returns-in-Taking-clause-judged g c =
    let old = c.args.self.now in
    refused_so (list_refusal (layout_of old) (state_of 0 old) c.args.vol) no.Taking (AreRowsAt (listed_at (state_of 0 old).volumes c.args.vol)) (Ok (No no.Taking)) old old
    (list_barred old 0 c.args.vol (sym c.phase.ensures ∙ c.in-Taking.is)) refl refl

pub returns-then-number-len-clause-judged : goal.returns-then-number-len-clause-judged
returns-then-number-len-clause-judged g c =
    let old = c.args.self.now in
    refused_so (list_refusal (layout_of old) (state_of 0 old) c.args.vol) no.Volume (AreRowsAt (listed_at (state_of 0 old).volumes c.args.vol)) (Ok (No no.Volume)) old old
    (list_beyond old 0 c.args.vol (λ taking. c.in_default.not-Taking (c.phase.ensures ∙ taking))
    (omega (arith, c.if-number-len.true, c.len.ensures, c.number.ensures.value, c.args.self.now.sized, c.args.self.now.volumes.ok.0))) refl refl

pub returns-clause-refused : goal.returns-clause-refused
returns-clause-refused g c = λ is.
    let at = listed_at (state_of 0 c.args.self.now).volumes c.args.vol in
    absurd (no_refusal (AreRowsAt at) c.rows.result (rows_are at) c.rows.ensures.shown is)

pub returns-clause-judged : goal.returns-clause-judged
returns-clause-judged g c =
    let old = c.args.self.now in
    let_through (list_refusal (layout_of old) (state_of 0 old) c.args.vol) (AreRowsAt (listed_at (state_of 0 old).volumes c.args.vol)) c.rows.result old c.rows.new.self
    (list_there old 0 c.args.vol (λ taking. c.in_default.not-Taking (c.phase.ensures ∙ taking))
    (omega (arith, c.if-number-len.false, c.len.ensures, c.number.ensures.value, c.args.self.now.sized, c.args.self.now.volumes.ok.0))) c.rows.ensures.shown
