use Rattle.std.proofs.Common.{ℕ, ◌+◌, List, [], ◌∷◌, ◌++◌, length, Option, Vec, sym, ◌∙◌, ap, subst}
use Rattle.std.proofs.lemmas.Result.{err_from_is_err_and}
use Rattle.std.specs.declared.alloc.Global.{Global}
use Rattle.rdf_disk.specs.AnswerLaws.{passed_on}
use Rattle.rdf_gatelog.specs.Log.{IsAtRest}
use Rattle.rdf_gatelog.specs.LogPlace.{LogPlace}
use Rattle.rdf_gatelog.specs.LogReading.{Gives}
use Rattle.rdf_volume.specs.Opening.{IsSeen}
use Rattle.rdf_volume.proofs.LookLaws.{place_behind}
use Rattle.rdf_volume.proofs.mount.look_on.Goals as goal

pub returns-in_err-payload-clause-damaged : goal.returns-in_err-payload-clause-damaged
returns-in_err-payload-clause-damaged g c = λ tells f at is given looking.
    let r = err_from_is_err_and c.from_residual.result c.from_residual.ensures.1 in
    c.in_err-payload.ensures.damaged tells f at (passed_on _ _ r.0 _ r.1 r.2 is) given looking.reading

pub returns-in_ok-at-in-Some-clause-ok : goal.returns-in_ok-at-in-Some-clause-ok
returns-in_ok-at-in-Some-clause-ok g c = λ tells given looking.
    let payload = c.in-Some.payload.items in (
      given ++ payload ∷ [],
      record {
        reading = subst (λ (o : Option (Vec ℕ Global)). Gives c.next.new.self given o (g.D.Disk.files c.next.new.disk)) c.in-Some.is (c.in_ok-payload.ensures.ok tells given looking.reading);
        seen = subst (λ (p : List ℕ). IsSeen c.in_ok-sight-in-Some.sight (given ++ p ∷ [])) c.deref.ensures.value (c.in_ok-sight-in-Some.ensures given looking.seen looking.at_is);
        at_is = place_behind given payload c.args.looking.at c.in_ok-at-in-Some.at looking.at_is
            (c.in_ok-at-in-Some.ensures ∙ ap (λ (p : List ℕ). c.args.looking.at + (5 + length p)) c.deref-in-Some.ensures.value);
      },
    )

pub returns-in-None-clause-ok : goal.returns-in-None-clause-ok
returns-in-None-clause-ok g c = λ tells given looking. (
  subst (λ (p : LogPlace). IsAtRest p.file p.end given (g.D.Disk.files c.next.new.disk)) (sym c.close-log.ensures)
      (subst (λ (o : Option (Vec ℕ Global)). Gives c.next.new.self given o (g.D.Disk.files c.next.new.disk)) c.in-None.is (c.in_ok-payload.ensures.ok tells given looking.reading)),
  looking.seen,
)
