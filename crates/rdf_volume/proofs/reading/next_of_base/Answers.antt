use Rattle.std.proofs.Common.{List, sym, ◌∙◌, ap, subst}
use Rattle.std.proofs.lemmas.Result.{IfOk-weaker}
use Rattle.rdf_codec.specs.declared.index_entries.IndexEntry.{IndexEntry}
use Rattle.rdf_codec.specs.declared.volume_blocks.VolumeBlock.TheVariants as block
use Rattle.rdf_volume.specs.Readings.{IsNext}
use Rattle.rdf_volume.proofs.ReadingLaws.{batch_early}
use Rattle.rdf_volume.proofs.reading.next_of_base.Goals as goal

pub returns-in-Index : goal.returns-in-Index
returns-in-Index c = IfOk-weaker c.next_entries.result _ _ (λ found holds before payload n is.
    holds before payload c.args.at (subst (IsNext before payload c.args.at) (c.in-Index.is ∙ ap (λ (es : List IndexEntry). block.Index es) (sym c.as_slice.ensures)) n) is) c.next_entries.ensures

pub returns-in-End : goal.returns-in-End
returns-in-End c = IfOk-weaker c.next_end.result _ _ (λ found holds before payload n is. holds before payload c.args.at (subst (IsNext before payload c.args.at) c.in-End.is n) is) c.next_end.ensures

pub returns-in-Batch : goal.returns-in-Batch
returns-in-Batch c = λ before payload n is. batch_early before payload c.args.at c.args.read is c.in-Batch.restart c.in-Batch.changes (subst (IsNext before payload c.args.at) c.in-Batch.is n)
