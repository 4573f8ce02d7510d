use Rattle.std.proofs.Common.{rules, refl, ◌≡◌, ◌∙◌, ◌+◌, ◌∷◌, [], ◌++◌, ℕ, List, length, drop, take, subst, sym, ap}
use Rattle.std.proofs.lemmas.Result.{err_from_is_err_and}
use Rattle.rdf_disk.specs.Files.{FileState, bytes_of}
use Rattle.rdf_gatelog.specs.LogReading.{ReaderPlace, IsReading}
use Rattle.rdf_gatelog.proofs.ReadLaws.{looked}
use Rattle.rdf_gatelog.proofs.ReaderLaws.{gives_one, breaks, head_open, told_damaged}
use Rattle.rdf_gatelog.proofs.reader.LogReader.next.Goals as goal

pub returns-in_err-block-clause-files : goal.returns-in_err-block-clause-files
returns-in_err-block-clause-files g c = λ tells.
    let r = err_from_is_err_and c.from_residual-in_err-block.result c.from_residual-in_err-block.ensures.1 in
    looked c.read_part-2.result c.in_err-block.field-0.0 c.from_residual-in_err-block.result r.0 _ _ _ (c.in_ok-head.ensures.files tells) (c.read_part-2.ensures.files tells) (c.in_err-block.was {u = tt}) r.1 r.2

pub returns-in_default-clause-damaged : goal.returns-in_default-clause-damaged
returns-in_default-clause-damaged g c = λ tells f at told given reading.
    let place : ReaderPlace = record { file = c.self.inside.file; at = c.self.inside.at } in
    let here : IsReading place given (g.D.Disk.files c.args.disk.now) = subst (λ (p : ReaderPlace). IsReading p given (g.D.Disk.files c.args.disk.now)) (sym c.self.view_is) reading in
    let same = c.in_ok-head.ensures.files tells in
    let found = breaks place given (g.D.Disk.files c.args.disk.now) here c.in_ok-head.head.items (c.in_ok-head.ensures.ok tells) (head_open c.in_ok-head.head.items c.deref.result.now c.deref.ensures.value (c.if-not-is_open.ensures.open refl))
    c.in_ok-block.block.items c.wanted.result (c.in_ok-block.ensures.ok tells ∙ ap (λ (f : FileState). take c.wanted.result (drop (c.self.inside.at + 1) (bytes_of f.seen))) (same c.self.inside.file))
    (λ p fits is. c.wanted.ensures p fits (c.deref-2.ensures.value ∙ is))
    (λ p r fits is long. c.in_default.ensures.none p r fits (c.deref-3.ensures.value ∙ is) long) in
    told_damaged c.self.inside.file c.self.inside.at f at (g.D.Disk.files c.args.disk.now) c.args.self.now c.self.view_is told found

pub returns-clause-ok : goal.returns-clause-ok
returns-clause-ok g c = λ tells given reading.
    let place : ReaderPlace = record { file = c.self.inside.file; at = c.self.inside.at } in
    let here : IsReading place given (g.D.Disk.files c.args.disk.now) = subst (λ (p : ReaderPlace). IsReading p given (g.D.Disk.files c.args.disk.now)) (sym c.self.view_is) reading in
    let same = c.in_ok-head.ensures.files tells in
    let payload_is : c.in_ok-given.given.items ≡ c.in-Some.payload.now = search rules in
    let found = gives_one place given (g.D.Disk.files c.args.disk.now) here c.in_ok-head.head.items (c.in_ok-head.ensures.ok tells) (head_open c.in_ok-head.head.items c.deref.result.now c.deref.ensures.value (c.if-not-is_open.ensures.open refl))
    c.in-Some.payload.now c.in_ok-block.block.items c.in-Some.field-0-1.now c.wanted.result (g.D.Disk.files c.read_part-2.new.disk) c.in-Some.ensures.some
    (c.in_ok-block.ensures.ok tells ∙ ap (λ (f : FileState). take c.wanted.result (drop (c.self.inside.at + 1) (bytes_of f.seen))) (same c.self.inside.file))
    (sym c.deref-3.ensures.value ∙ c.in-Some.ensures.split) c.in-Some.ensures.gate (λ m. c.in_ok-block.ensures.files tells m ∙ same m) in
    subst (λ (p : List ℕ). IsReading (record { file = c.self.inside.file; at = c.self.inside.at + 5 + length c.in-Some.payload.now }) (given ++ p ∷ []) (g.D.Disk.files c.read_part-2.new.disk)) (sym payload_is) found
