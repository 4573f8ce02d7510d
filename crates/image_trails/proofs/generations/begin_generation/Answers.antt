use Rattle.std.proofs.Common.{ℕ, ◌+◌, sym, ap, subst, arith}
use Rattle.rdf_disk.specs.Outcomes.{Durably}
use Rattle.rdf_disk.specs.AnswerLaws.{on_err}
use Rattle.rdf_gatelog.specs.Logs.{Logs, Rests, ReadsEither, IsOpenIn, pushed}
use Rattle.image_trails.specs.Generations.{IsFreeFrom}
use Rattle.image_trails.specs.Memory.{plan_of}
use Rattle.rdf_gatelog.specs.LogPlace.{LogPlace}
use Rattle.image_trails.proofs.Generating.{at_rest, absent_at, l1, l2, l3, l4, absent_2, absent_3, absent_master, left_1, left_2, left_3, left_4, left_5}
use Rattle.image_trails.proofs.generations.begin_generation.Goals as goal

pub returns-in_err-begin_trail-clause-err : goal.returns-in_err-begin_trail-clause-err
returns-in_err-begin_trail-clause-err g c = λ tells.
    on_err c.from_residual.result _ (λ logs rests free. left_1 (plan_of c.args.layout.now) c.args.master c.args.start.now logs (g.D.Disk.files c.begin_trail.new.disk) (c.in_err-begin_trail.ensures.err tells logs rests (free (c.args.master + 1) (omega arith))))

pub begin_trail-requires-2-clause-absent : goal.begin_trail-requires-2-clause-absent
begin_trail-requires-2-clause-absent g c = λ tells.
    let rests1 = λ (logs : Logs) (rests : Rests logs (g.D.Disk.files c.args.disk.now)) (free : IsFreeFrom c.args.master logs). c.in_ok-begin_trail.ensures.ok tells logs rests (free (c.args.master + 1) (omega arith)) in
    let r = c.requires.absent tells in
    (l1 (plan_of c.args.layout.now) c.args.master c.args.start.now r.0, rests1 r.0 r.1 r.2, absent_2 (plan_of c.args.layout.now) c.args.master c.args.start.now r.0 r.2)

pub returns-in_err-begin_trail-2-clause-err : goal.returns-in_err-begin_trail-2-clause-err
returns-in_err-begin_trail-2-clause-err g c = λ tells.
    let rests1 = λ (logs : Logs) (rests : Rests logs (g.D.Disk.files c.args.disk.now)) (free : IsFreeFrom c.args.master logs). c.in_ok-begin_trail.ensures.ok tells logs rests (free (c.args.master + 1) (omega arith)) in
    on_err c.from_residual-in_err-begin_trail-2.result _ (λ logs rests free. left_2 (plan_of c.args.layout.now) c.args.master c.args.start.now logs (g.D.Disk.files c.begin_trail-2.new.disk) (c.in_err-begin_trail-2.ensures.err tells (l1 (plan_of c.args.layout.now) c.args.master c.args.start.now logs) (rests1 logs rests free) (absent_2 (plan_of c.args.layout.now) c.args.master c.args.start.now logs free)))

pub begin_trail-requires-3-clause-absent : goal.begin_trail-requires-3-clause-absent
begin_trail-requires-3-clause-absent g c = λ tells.
    let rests1 = λ (logs : Logs) (rests : Rests logs (g.D.Disk.files c.args.disk.now)) (free : IsFreeFrom c.args.master logs). c.in_ok-begin_trail.ensures.ok tells logs rests (free (c.args.master + 1) (omega arith)) in
    let rests2 = λ (logs : Logs) (rests : Rests logs (g.D.Disk.files c.args.disk.now)) (free : IsFreeFrom c.args.master logs). c.in_ok-begin_trail-2.ensures.ok tells (l1 (plan_of c.args.layout.now) c.args.master c.args.start.now logs) (rests1 logs rests free) (absent_2 (plan_of c.args.layout.now) c.args.master c.args.start.now logs free) in
    let r = c.requires.absent tells in
    (l2 (plan_of c.args.layout.now) c.args.master c.args.start.now r.0, rests2 r.0 r.1 r.2, absent_3 (plan_of c.args.layout.now) c.args.master c.args.start.now r.0 r.2)

pub returns-in_err-begin_trail-3-clause-err : goal.returns-in_err-begin_trail-3-clause-err
returns-in_err-begin_trail-3-clause-err g c = λ tells.
    let rests1 = λ (logs : Logs) (rests : Rests logs (g.D.Disk.files c.args.disk.now)) (free : IsFreeFrom c.args.master logs). c.in_ok-begin_trail.ensures.ok tells logs rests (free (c.args.master + 1) (omega arith)) in
    let rests2 = λ (logs : Logs) (rests : Rests logs (g.D.Disk.files c.args.disk.now)) (free : IsFreeFrom c.args.master logs). c.in_ok-begin_trail-2.ensures.ok tells (l1 (plan_of c.args.layout.now) c.args.master c.args.start.now logs) (rests1 logs rests free) (absent_2 (plan_of c.args.layout.now) c.args.master c.args.start.now logs free) in
    on_err c.from_residual-in_err-begin_trail-3.result _ (λ logs rests free. left_3 (plan_of c.args.layout.now) c.args.master c.args.start.now logs (g.D.Disk.files c.begin_trail-3.new.disk) (c.in_err-begin_trail-3.ensures.err tells (l2 (plan_of c.args.layout.now) c.args.master c.args.start.now logs) (rests2 logs rests free) (absent_3 (plan_of c.args.layout.now) c.args.master c.args.start.now logs free)))

pub create-requires-clause-absent : goal.create-requires-clause-absent
create-requires-clause-absent g c = λ tells.
    let rests1 = λ (logs : Logs) (rests : Rests logs (g.D.Disk.files c.args.disk.now)) (free : IsFreeFrom c.args.master logs). c.in_ok-begin_trail.ensures.ok tells logs rests (free (c.args.master + 1) (omega arith)) in
    let rests2 = λ (logs : Logs) (rests : Rests logs (g.D.Disk.files c.args.disk.now)) (free : IsFreeFrom c.args.master logs). c.in_ok-begin_trail-2.ensures.ok tells (l1 (plan_of c.args.layout.now) c.args.master c.args.start.now logs) (rests1 logs rests free) (absent_2 (plan_of c.args.layout.now) c.args.master c.args.start.now logs free) in
    let rests3 = λ (logs : Logs) (rests : Rests logs (g.D.Disk.files c.args.disk.now)) (free : IsFreeFrom c.args.master logs). c.in_ok-begin_trail-3.ensures.ok tells (l2 (plan_of c.args.layout.now) c.args.master c.args.start.now logs) (rests2 logs rests free) (absent_3 (plan_of c.args.layout.now) c.args.master c.args.start.now logs free) in
    let r = c.requires.absent tells in
    absent_at (l3 (plan_of c.args.layout.now) c.args.master c.args.start.now r.0) c.args.master (g.D.Disk.files c.begin_trail-3.new.disk) (rests3 r.0 r.1 r.2) (absent_master (plan_of c.args.layout.now) c.args.master c.args.start.now r.0 r.2)

pub returns-in_err-log-clause-err : goal.returns-in_err-log-clause-err
returns-in_err-log-clause-err g c = λ tells.
    let rests1 = λ (logs : Logs) (rests : Rests logs (g.D.Disk.files c.args.disk.now)) (free : IsFreeFrom c.args.master logs). c.in_ok-begin_trail.ensures.ok tells logs rests (free (c.args.master + 1) (omega arith)) in
    let rests2 = λ (logs : Logs) (rests : Rests logs (g.D.Disk.files c.args.disk.now)) (free : IsFreeFrom c.args.master logs). c.in_ok-begin_trail-2.ensures.ok tells (l1 (plan_of c.args.layout.now) c.args.master c.args.start.now logs) (rests1 logs rests free) (absent_2 (plan_of c.args.layout.now) c.args.master c.args.start.now logs free) in
    let rests3 = λ (logs : Logs) (rests : Rests logs (g.D.Disk.files c.args.disk.now)) (free : IsFreeFrom c.args.master logs). c.in_ok-begin_trail-3.ensures.ok tells (l2 (plan_of c.args.layout.now) c.args.master c.args.start.now logs) (rests2 logs rests free) (absent_3 (plan_of c.args.layout.now) c.args.master c.args.start.now logs free) in
    on_err c.from_residual-in_err-log.result _ (λ logs rests free. left_4 (plan_of c.args.layout.now) c.args.master c.args.start.now logs (g.D.Disk.files c.create.new.disk) (c.in_err-log.ensures.err tells (l3 (plan_of c.args.layout.now) c.args.master c.args.start.now logs) (rests3 logs rests free)))

pub append-requires-clause-at_rest : goal.append-requires-clause-at_rest
append-requires-clause-at_rest g c = λ tells.
    let rests1 = λ (logs : Logs) (rests : Rests logs (g.D.Disk.files c.args.disk.now)) (free : IsFreeFrom c.args.master logs). c.in_ok-begin_trail.ensures.ok tells logs rests (free (c.args.master + 1) (omega arith)) in
    let rests2 = λ (logs : Logs) (rests : Rests logs (g.D.Disk.files c.args.disk.now)) (free : IsFreeFrom c.args.master logs). c.in_ok-begin_trail-2.ensures.ok tells (l1 (plan_of c.args.layout.now) c.args.master c.args.start.now logs) (rests1 logs rests free) (absent_2 (plan_of c.args.layout.now) c.args.master c.args.start.now logs free) in
    let rests3 = λ (logs : Logs) (rests : Rests logs (g.D.Disk.files c.args.disk.now)) (free : IsFreeFrom c.args.master logs). c.in_ok-begin_trail-3.ensures.ok tells (l2 (plan_of c.args.layout.now) c.args.master c.args.start.now logs) (rests2 logs rests free) (absent_3 (plan_of c.args.layout.now) c.args.master c.args.start.now logs free) in
    let rests4 = λ (logs : Logs) (rests : Rests logs (g.D.Disk.files c.args.disk.now)) (free : IsFreeFrom c.args.master logs). c.in_ok-log.ensures.ok tells (l3 (plan_of c.args.layout.now) c.args.master c.args.start.now logs) (rests3 logs rests free) in
    let open4 = λ (logs : Logs) (rests : Rests logs (g.D.Disk.files c.args.disk.now)) (free : IsFreeFrom c.args.master logs). subst (λ (f : ℕ). IsOpenIn (l4 (plan_of c.args.layout.now) c.args.master c.args.start.now logs) f c.in_ok-log.log.end) (sym (ap (λ (l : LogPlace). l.file) c.in_ok-log.ensures.place)) (rests4 logs rests free).1 in
    let r = c.requires.absent tells in
    at_rest (l4 (plan_of c.args.layout.now) c.args.master c.args.start.now r.0) c.in_ok-log.log.file c.in_ok-log.log.end (g.D.Disk.files c.create.new.disk) (rests4 r.0 r.1 r.2).0 (open4 r.0 r.1 r.2)

pub returns-in_err-append-clause-err : goal.returns-in_err-append-clause-err
returns-in_err-append-clause-err g c = λ tells.
    let rests1 = λ (logs : Logs) (rests : Rests logs (g.D.Disk.files c.args.disk.now)) (free : IsFreeFrom c.args.master logs). c.in_ok-begin_trail.ensures.ok tells logs rests (free (c.args.master + 1) (omega arith)) in
    let rests2 = λ (logs : Logs) (rests : Rests logs (g.D.Disk.files c.args.disk.now)) (free : IsFreeFrom c.args.master logs). c.in_ok-begin_trail-2.ensures.ok tells (l1 (plan_of c.args.layout.now) c.args.master c.args.start.now logs) (rests1 logs rests free) (absent_2 (plan_of c.args.layout.now) c.args.master c.args.start.now logs free) in
    let rests3 = λ (logs : Logs) (rests : Rests logs (g.D.Disk.files c.args.disk.now)) (free : IsFreeFrom c.args.master logs). c.in_ok-begin_trail-3.ensures.ok tells (l2 (plan_of c.args.layout.now) c.args.master c.args.start.now logs) (rests2 logs rests free) (absent_3 (plan_of c.args.layout.now) c.args.master c.args.start.now logs free) in
    let rests4 = λ (logs : Logs) (rests : Rests logs (g.D.Disk.files c.args.disk.now)) (free : IsFreeFrom c.args.master logs). c.in_ok-log.ensures.ok tells (l3 (plan_of c.args.layout.now) c.args.master c.args.start.now logs) (rests3 logs rests free) in
    let open4 = λ (logs : Logs) (rests : Rests logs (g.D.Disk.files c.args.disk.now)) (free : IsFreeFrom c.args.master logs). subst (λ (f : ℕ). IsOpenIn (l4 (plan_of c.args.layout.now) c.args.master c.args.start.now logs) f c.in_ok-log.log.end) (sym (ap (λ (l : LogPlace). l.file) c.in_ok-log.ensures.place)) (rests4 logs rests free).1 in
    on_err c.from_residual-in_err-append.result _ (λ logs rests free. left_5 (plan_of c.args.layout.now) c.args.master c.args.start.now logs (g.D.Disk.files c.append.new.disk)
    (subst (λ (f : ℕ). Durably (g.D.Disk.files c.append.new.disk) (ReadsEither (l4 (plan_of c.args.layout.now) c.args.master c.args.start.now logs) (pushed (l4 (plan_of c.args.layout.now) c.args.master c.args.start.now logs) f c.args.start.now))) (ap (λ (l : LogPlace). l.file) c.in_ok-log.ensures.place)
    (c.in_err-append.ensures.err tells (l4 (plan_of c.args.layout.now) c.args.master c.args.start.now logs) (rests4 logs rests free).0 (open4 logs rests free))))

pub returns-clause-ok : goal.returns-clause-ok
returns-clause-ok g c = λ tells logs rests free.
    let rests1 = λ (logs : Logs) (rests : Rests logs (g.D.Disk.files c.args.disk.now)) (free : IsFreeFrom c.args.master logs). c.in_ok-begin_trail.ensures.ok tells logs rests (free (c.args.master + 1) (omega arith)) in
    let rests2 = λ (logs : Logs) (rests : Rests logs (g.D.Disk.files c.args.disk.now)) (free : IsFreeFrom c.args.master logs). c.in_ok-begin_trail-2.ensures.ok tells (l1 (plan_of c.args.layout.now) c.args.master c.args.start.now logs) (rests1 logs rests free) (absent_2 (plan_of c.args.layout.now) c.args.master c.args.start.now logs free) in
    let rests3 = λ (logs : Logs) (rests : Rests logs (g.D.Disk.files c.args.disk.now)) (free : IsFreeFrom c.args.master logs). c.in_ok-begin_trail-3.ensures.ok tells (l2 (plan_of c.args.layout.now) c.args.master c.args.start.now logs) (rests2 logs rests free) (absent_3 (plan_of c.args.layout.now) c.args.master c.args.start.now logs free) in
    let rests4 = λ (logs : Logs) (rests : Rests logs (g.D.Disk.files c.args.disk.now)) (free : IsFreeFrom c.args.master logs). c.in_ok-log.ensures.ok tells (l3 (plan_of c.args.layout.now) c.args.master c.args.start.now logs) (rests3 logs rests free) in
    let open4 = λ (logs : Logs) (rests : Rests logs (g.D.Disk.files c.args.disk.now)) (free : IsFreeFrom c.args.master logs). subst (λ (f : ℕ). IsOpenIn (l4 (plan_of c.args.layout.now) c.args.master c.args.start.now logs) f c.in_ok-log.log.end) (sym (ap (λ (l : LogPlace). l.file) c.in_ok-log.ensures.place)) (rests4 logs rests free).1 in
    subst (λ (f : ℕ). Rests (pushed (l4 (plan_of c.args.layout.now) c.args.master c.args.start.now logs) f c.args.start.now) (g.D.Disk.files c.append.new.disk) × IsOpenIn (pushed (l4 (plan_of c.args.layout.now) c.args.master c.args.start.now logs) f c.args.start.now) f c.end.result) (ap (λ (l : LogPlace). l.file) c.in_ok-log.ensures.place)
    (subst (λ (e : ℕ). Rests (pushed (l4 (plan_of c.args.layout.now) c.args.master c.args.start.now logs) c.in_ok-log.log.file c.args.start.now) (g.D.Disk.files c.append.new.disk) × IsOpenIn (pushed (l4 (plan_of c.args.layout.now) c.args.master c.args.start.now logs) c.in_ok-log.log.file c.args.start.now) c.in_ok-log.log.file e) (sym c.end.ensures)
    (c.in_ok-append.ensures.ok tells (l4 (plan_of c.args.layout.now) c.args.master c.args.start.now logs) (rests4 logs rests free).0 (open4 logs rests free)))
