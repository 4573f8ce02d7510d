use Rattle.std.proofs.Common.{ℕ, List, [], drop, get_or, Some, refl, ◌∙◌, ap, arith}
use Rattle.std.proofs.lemmas.Result.{err_from_is_err_and, on_ok_weaker}
use Rattle.rdf_disk.specs.AnswerLaws.{passed_on}
use Rattle.rdf_gatelog.specs.Log.{payloads_of}
use Rattle.image_trails.specs.DiskFiles.{logs_of}
use Rattle.image_trails.specs.Memory.{plan_in}
use Rattle.image_trails.proofs.NextReads.{Begins, read_first, read_more, first_flawed, more_flawed, one_more_read, split_first}
use Rattle.image_trails.proofs.opening.read_generation.Goals as goal

pub returns-in_err-read_master-clause-damaged : goal.returns-in_err-read_master-clause-damaged
returns-in_err-read_master-clause-damaged c = λ f at is.
    let m = c.args.memory.now in
    let b : Begins (logs_of c.args.files.now) c.args.number c.args.start c.args.phase (payloads_of c.args.log.now.payloads) m c.begin.new.self = record { begun = c.in_ok-begin.ensures; some = c.requires.some; master = c.requires.master; starts = c.requires.starts } in
    let r = err_from_is_err_and c.from_residual-in_err-read_master.result c.from_residual-in_err-read_master.ensures.1 in
    let d = c.in_err-read_master.ensures.damaged f at (passed_on _ _ r.0 _ r.1 r.2 is) in
    first_flawed (logs_of c.args.files.now) c.args.number c.args.start c.args.phase (payloads_of c.args.log.now.payloads) m c.begin.new.self b f at d.0 d.1

pub returns-in_err-read_second-clause-damaged : goal.returns-in_err-read_second-clause-damaged
returns-in_err-read_second-clause-damaged c = λ f at is.
    let m = c.args.memory.now in
    let b : Begins (logs_of c.args.files.now) c.args.number c.args.start c.args.phase (payloads_of c.args.log.now.payloads) m c.begin.new.self = record { begun = c.in_ok-begin.ensures; some = c.requires.some; master = c.requires.master; starts = c.requires.starts } in
    let s1 = read_first (logs_of c.args.files.now) c.args.number c.args.start c.args.phase (payloads_of c.args.log.now.payloads) m c.begin.new.self b c.read_master.new.memory (c.in_ok-read_master.ensures.ok (logs_of c.args.files.now) c.requires.master) in
    let r = err_from_is_err_and c.from_residual-in_err-read_second.result c.from_residual-in_err-read_second.ensures.1 in
    more_flawed (logs_of c.args.files.now) c.args.number c.args.start c.args.phase (payloads_of c.args.log.now.payloads) m c.begin.new.self b 1 f at c.read_master.new.memory (omega arith) s1
    (λ has received. c.in_err-read_second.ensures.damaged c.args.phase (drop 1 (payloads_of c.args.log.now.payloads)) has received f at (passed_on _ _ r.0 _ r.1 r.2 is))

pub returns-in_err-read_second-2-clause-damaged : goal.returns-in_err-read_second-2-clause-damaged
returns-in_err-read_second-2-clause-damaged c = λ f at is.
    let m = c.args.memory.now in
    let b : Begins (logs_of c.args.files.now) c.args.number c.args.start c.args.phase (payloads_of c.args.log.now.payloads) m c.begin.new.self = record { begun = c.in_ok-begin.ensures; some = c.requires.some; master = c.requires.master; starts = c.requires.starts } in
    let s1 = read_first (logs_of c.args.files.now) c.args.number c.args.start c.args.phase (payloads_of c.args.log.now.payloads) m c.begin.new.self b c.read_master.new.memory (c.in_ok-read_master.ensures.ok (logs_of c.args.files.now) c.requires.master) in
    let s2 = read_more (logs_of c.args.files.now) c.args.number c.args.start c.args.phase (payloads_of c.args.log.now.payloads) m c.begin.new.self b 1 c.read_master.new.memory c.read_second.new.memory (omega arith) (omega arith) s1 c.in_ok-read_second.ensures.ok in
    let r = err_from_is_err_and c.from_residual-in_err-read_second-2.result c.from_residual-in_err-read_second-2.ensures.1 in
    more_flawed (logs_of c.args.files.now) c.args.number c.args.start c.args.phase (payloads_of c.args.log.now.payloads) m c.begin.new.self b 2 f at c.read_second.new.memory (omega arith) s2
    (λ has received. c.in_err-read_second-2.ensures.damaged c.args.phase (drop 1 (payloads_of c.args.log.now.payloads)) has received f at (passed_on _ _ r.0 _ r.1 r.2 is))

pub returns-clause-ok : goal.returns-clause-ok
returns-clause-ok c =
    let m = c.args.memory.now in
    let b : Begins (logs_of c.args.files.now) c.args.number c.args.start c.args.phase (payloads_of c.args.log.now.payloads) m c.begin.new.self = record { begun = c.in_ok-begin.ensures; some = c.requires.some; master = c.requires.master; starts = c.requires.starts } in
    let s1 = read_first (logs_of c.args.files.now) c.args.number c.args.start c.args.phase (payloads_of c.args.log.now.payloads) m c.begin.new.self b c.read_master.new.memory (c.in_ok-read_master.ensures.ok (logs_of c.args.files.now) c.requires.master) in
    let s2 = read_more (logs_of c.args.files.now) c.args.number c.args.start c.args.phase (payloads_of c.args.log.now.payloads) m c.begin.new.self b 1 c.read_master.new.memory c.read_second.new.memory (omega arith) (omega arith) s1 c.in_ok-read_second.ensures.ok in
    let s3 = read_more (logs_of c.args.files.now) c.args.number c.args.start c.args.phase (payloads_of c.args.log.now.payloads) m c.begin.new.self b 2 c.read_second.new.memory c.read_second-2.new.memory (omega arith) (omega arith) s2 c.in_ok-read_second-2.ensures.ok in
    on_ok_weaker c.read_second-3.result (λ more so_far.
    one_more_read (plan_in m) (logs_of c.args.files.now) c.args.number c.args.start c.args.phase (get_or (payloads_of c.args.log.now.payloads) 0 []) (drop 1 (payloads_of c.args.log.now.payloads)) m c.begin.new.self c.read_second-3.new.memory refl refl
    (c.requires.master ∙ ap (λ (l : List (List ℕ)). Some l) (split_first (payloads_of c.args.log.now.payloads) c.requires.some)) c.requires.starts c.requires.follows c.in_ok-begin.ensures
    (read_more (logs_of c.args.files.now) c.args.number c.args.start c.args.phase (payloads_of c.args.log.now.payloads) m c.begin.new.self b 3 c.read_second-2.new.memory c.read_second-3.new.memory (omega arith) (omega arith) s3 more) so_far)
    c.read_second-3.ensures.ok

pub returns-clause-layout : goal.returns-clause-layout
returns-clause-layout c =
    let m = c.args.memory.now in
    let b : Begins (logs_of c.args.files.now) c.args.number c.args.start c.args.phase (payloads_of c.args.log.now.payloads) m c.begin.new.self = record { begun = c.in_ok-begin.ensures; some = c.requires.some; master = c.requires.master; starts = c.requires.starts } in
    let s1 = read_first (logs_of c.args.files.now) c.args.number c.args.start c.args.phase (payloads_of c.args.log.now.payloads) m c.begin.new.self b c.read_master.new.memory (c.in_ok-read_master.ensures.ok (logs_of c.args.files.now) c.requires.master) in
    let s2 = read_more (logs_of c.args.files.now) c.args.number c.args.start c.args.phase (payloads_of c.args.log.now.payloads) m c.begin.new.self b 1 c.read_master.new.memory c.read_second.new.memory (omega arith) (omega arith) s1 c.in_ok-read_second.ensures.ok in
    let s3 = read_more (logs_of c.args.files.now) c.args.number c.args.start c.args.phase (payloads_of c.args.log.now.payloads) m c.begin.new.self b 2 c.read_second.new.memory c.read_second-2.new.memory (omega arith) (omega arith) s2 c.in_ok-read_second-2.ensures.ok in
    on_ok_weaker c.read_second-3.result (λ more. (read_more (logs_of c.args.files.now) c.args.number c.args.start c.args.phase (payloads_of c.args.log.now.payloads) m c.begin.new.self b 3 c.read_second-2.new.memory c.read_second-3.new.memory (omega arith) (omega arith) s3 more).layout ∙ c.in_ok-begin.ensures.layout)
    c.read_second-3.ensures.ok

pub returns-clause-damaged : goal.returns-clause-damaged
returns-clause-damaged c = λ f at is.
    let m = c.args.memory.now in
    let b : Begins (logs_of c.args.files.now) c.args.number c.args.start c.args.phase (payloads_of c.args.log.now.payloads) m c.begin.new.self = record { begun = c.in_ok-begin.ensures; some = c.requires.some; master = c.requires.master; starts = c.requires.starts } in
    let s1 = read_first (logs_of c.args.files.now) c.args.number c.args.start c.args.phase (payloads_of c.args.log.now.payloads) m c.begin.new.self b c.read_master.new.memory (c.in_ok-read_master.ensures.ok (logs_of c.args.files.now) c.requires.master) in
    let s2 = read_more (logs_of c.args.files.now) c.args.number c.args.start c.args.phase (payloads_of c.args.log.now.payloads) m c.begin.new.self b 1 c.read_master.new.memory c.read_second.new.memory (omega arith) (omega arith) s1 c.in_ok-read_second.ensures.ok in
    let s3 = read_more (logs_of c.args.files.now) c.args.number c.args.start c.args.phase (payloads_of c.args.log.now.payloads) m c.begin.new.self b 2 c.read_second.new.memory c.read_second-2.new.memory (omega arith) (omega arith) s2 c.in_ok-read_second-2.ensures.ok in
    more_flawed (logs_of c.args.files.now) c.args.number c.args.start c.args.phase (payloads_of c.args.log.now.payloads) m c.begin.new.self b 3 f at c.read_second-2.new.memory (omega arith) s3
    (λ has received. c.read_second-3.ensures.damaged c.args.phase (drop 1 (payloads_of c.args.log.now.payloads)) has received f at is)
