use Rattle.std.proofs.Common.{rules, ◌≡◌, ◌++◌, ◌∙◌, [], ap, List, ℕ}
use Rattle.rdf_disk.specs.AnswerLaws.{on_err}
use Rattle.rdf_codec.specs.Spelling.{record_spelling}
use Rattle.audit_trail.specs.InUse.{trail_of}
use Rattle.audit_trail.proofs.TrailLaws.{append_leaves_in}
use Rattle.audit_trail.proofs.trail.AuditTrail.append.Goals as goal

pub returns-in_err-append-clause-err : goal.returns-in_err-append-clause-err
returns-in_err-append-clause-err g c = λ tells.
    let a = c.args.self.now in
    let rec = c.args.rec.now in
    let u = c.requires.in_use tells in
    let empty : c.in_ok-spelling.spelling.items ≡ [] = search rules in
    let same : c.deref.result.now ≡ record_spelling rec = c.deref.ensures.value ∙ c.in_ok-write_record.ensures.ok ∙ ap (λ (l : List ℕ). l ++ record_spelling rec) empty in
    on_err c.from_residual-in_err-append.result _
    (append_leaves_in (trail_of a) rec a.log.file a.log.end c.append.new.self.end c.deref.result.now c.in_err-append.field-0.0 (g.D.Disk.files a.disk) (g.D.Disk.files c.append.new.disk)
    u.file_is same u.log u.records c.write_record.ensures.limits (c.in_err-append.ensures.files tells))
