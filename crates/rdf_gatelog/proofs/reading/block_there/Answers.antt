use Rattle.std.proofs.Common.{rules, ◌≡◌, ◌∙◌, length, take, drop, ap, arith}
use Rattle.std.proofs.lemmas.Result.{err_from_is_err_and}
use Rattle.rdf_disk.specs.Files.{FileState, bytes_of}
use Rattle.rdf_gatelog.proofs.ReadLaws.{head_read, length_read, payload_read, looked}
use Rattle.rdf_gatelog.proofs.reading.block_there.Goals as goal

pub returns-in_err-payload-clause-files : goal.returns-in_err-payload-clause-files
returns-in_err-payload-clause-files g c = λ tells.
    let r = err_from_is_err_and c.from_residual-in_err-payload.result c.from_residual-in_err-payload.ensures.1 in
    looked c.read_part-2.result c.in_err-payload.field-0.0 c.from_residual-in_err-payload.result r.0 _ _ _ (c.in_ok-head.ensures.files tells) (c.read_part-2.ensures.files tells) (c.in_err-payload.was {u = tt}) r.1 r.2

pub returns-then-len-clause-sound : goal.returns-then-len-clause-sound
returns-then-len-clause-sound g c = λ tells payload s f at is.
    let bytes = bytes_of (g.D.Disk.files c.args.disk.now c.args.file).seen in
    let head = head_read bytes c.args.at payload s c.deref.result.now (c.deref.ensures.value ∙ c.in_ok-head.ensures.ok tells) in
    let len_is : c.in-Some.len ≡ length payload = length_read bytes c.args.at payload s c.payload_length.result c.in-Some.len c.in-Some.is (c.payload_length.ensures payload s.fits s.rest head) in
    let same = ap (λ (f : FileState). take c.in-Some.len (drop c.in-Some-checked_add.place (bytes_of f.seen))) (c.in_ok-head.ensures.files tells c.args.file) in
    let read : c.in_ok-payload.payload.items ≡ payload = payload_read bytes c.args.at payload s c.in_ok-payload.payload.items c.in-Some.len c.in-Some-checked_add.place len_is c.in-Some-checked_add.ensures.1 (c.in_ok-payload.ensures.ok tells ∙ same) in
    let counted : c.len.result ≡ length c.in_ok-payload.payload.items = search rules in
    absurd (omega (arith, c.if-len.true, counted, ap length read, len_is))

pub returns-clause-ok : goal.returns-clause-ok
returns-clause-ok g c = λ tells payload s.
    let bytes = bytes_of (g.D.Disk.files c.args.disk.now c.args.file).seen in
    let head = head_read bytes c.args.at payload s c.deref.result.now (c.deref.ensures.value ∙ c.in_ok-head.ensures.ok tells) in
    let len_is : c.in-Some.len ≡ length payload = length_read bytes c.args.at payload s c.payload_length.result c.in-Some.len c.in-Some.is (c.payload_length.ensures payload s.fits s.rest head) in
    let same = ap (λ (f : FileState). take c.in-Some.len (drop c.in-Some-checked_add.place (bytes_of f.seen))) (c.in_ok-head.ensures.files tells c.args.file) in
    payload_read bytes c.args.at payload s c.in_ok-payload.payload.items c.in-Some.len c.in-Some-checked_add.place len_is c.in-Some-checked_add.ensures.1 (c.in_ok-payload.ensures.ok tells ∙ same)
