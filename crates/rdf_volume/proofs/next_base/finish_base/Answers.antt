use Rattle.std.proofs.Common.{ℕ, sym, subst}
use Rattle.std.proofs.lemmas.Result.{on_err_weaker}
use Rattle.rdf_disk.specs.Outcomes.{Durably}
use Rattle.rdf_model.specs.Rows.{list_of}
use Rattle.keyed_blocks.specs.Writing.{IsWritten, ReadsBaseOrNot}
use Rattle.rdf_volume.proofs.FillingLaws.{both_ok, written_replaces, half_stands}
use Rattle.rdf_volume.proofs.TableLaws.{row_map-list_of}
use Rattle.rdf_volume.proofs.next_base.finish_base.Goals as goal

pub returns-clause-ok : goal.returns-clause-ok
returns-clause-ok g c = λ tells. both_ok c.finish.result (c.finish.ensures.ok tells) c.finish.ensures.file (λ base holds file kept same f.
    written_replaces kept c.args.writer (g.D.Disk.files c.args.disk.now) f (row_map-list_of kept.rows) (g.D.Disk.files c.finish.new.disk) base.0 base.1 file
    (subst (λ (p : ℕ). IsWritten f.logs base.0 base.1 (list_of kept.rows) p (g.D.Disk.files c.finish.new.disk)) (sym same) (holds f.logs (list_of kept.rows) f.writing)))

pub returns-clause-err : goal.returns-clause-err
returns-clause-err g c = λ tells. on_err_weaker c.finish.result (λ holds kept same f.
    half_stands kept c.args.writer (g.D.Disk.files c.args.disk.now) f (row_map-list_of kept.rows) (g.D.Disk.files c.finish.new.disk)
    (subst (λ (p : ℕ). Durably (g.D.Disk.files c.finish.new.disk) (ReadsBaseOrNot f.logs c.args.writer.addition.file (list_of kept.rows) p)) (sym same) (holds f.logs (list_of kept.rows) f.writing))) (c.finish.ensures.err tells)
