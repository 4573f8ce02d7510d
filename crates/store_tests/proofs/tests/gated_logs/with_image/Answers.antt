use Rattle.std.proofs.Common.{ℕ, [], sym, ap, subst}
use Rattle.rdf_gatelog.specs.Log.{IsAtRest}
use Rattle.rdf_gatelog.specs.LogPlace.{LogPlace}
use Rattle.store_tests.proofs.tests.gated_logs.with_image.Goals as goal

pub returns : goal.returns
returns g c = λ tells.
    let made = c.in_ok-log.ensures.files tells in
    let start : IsAtRest c.in_ok-log.log.file c.in_ok-log.log.end [] (g.D.Disk.files c.create.new.disk) = subst (λ (n : ℕ). IsAtRest n c.in_ok-log.log.end [] (g.D.Disk.files c.create.new.disk)) (sym (ap (λ (l : LogPlace). l.file) c.in_ok-log.ensures.place)) made.log in
    let after = (c.in_ok-append.ensures.files tells).0 [] start in
    (_, subst (λ (n : ℕ). IsAtRest n c.append.new.self.end _ (g.D.Disk.files c.append.new.disk)) (sym c.in_ok-append.ensures.file) after)
