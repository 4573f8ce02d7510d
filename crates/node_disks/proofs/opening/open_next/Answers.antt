use Rattle.std.proofs.Common.{◌≡◌, ◌+◌, suc, [], ◌∷◌, ◌++◌, Some, length, arith, ap, sym, ◌∙◌, subst}
use Rattle.node_faults.specs.Faults.{fault_at}
use Rattle.node_disks.specs.Opening.{AreOpened}
use Rattle.node_disks.specs.OpeningLaws.{one_opened, one_failed, one_kept, many_open}
use Rattle.node_disks.proofs.opening.open_next.Goals as goal

pub returns-in-Some-clause-opens : goal.returns-in-Some-clause-opens
returns-in-Some-clause-opens g c = λ disks is.
    let Opens = g.O.Opener.opens c.args.opener.now in
    let Fails = g.O.Opener.fails c.args.opener.now in
    let old = c.args.opening.now in
    subst (λ l. AreOpened Opens Fails 0 (disks ++ c.args.disk ∷ []) old.opened.items l old.fault) (sym c.push_reserved.ensures.items)
    (subst (λ f. AreOpened Opens Fails 0 (disks ++ c.args.disk ∷ []) old.opened.items (old.left.items ++ c.args.disk ∷ []) f) (sym c.in-Some.is)
    (one_kept Opens Fails 0 disks old.opened.items old.left.items c.args.disk c.in-Some.field-0 (subst (λ f. AreOpened Opens Fails 0 disks old.opened.items old.left.items f) c.in-Some.is is)))

pub returns-in-Ok-clause-opens : goal.returns-in-Ok-clause-opens
returns-in-Ok-clause-opens g c = λ disks is.
    let Opens = g.O.Opener.opens c.args.opener.now in
    let Fails = g.O.Opener.fails c.args.opener.now in
    let old = c.args.opening.now in
    let many = many_open Opens Fails 0 disks old.opened.items old.left.items old.fault c.in-None.is is in
    let len = c.len-place.ensures in
    subst (λ l. AreOpened Opens Fails 0 (disks ++ c.args.disk ∷ []) l old.left.items old.fault) (sym c.push_reserved-in-Ok.ensures.items)
    (subst (λ f. AreOpened Opens Fails 0 (disks ++ c.args.disk ∷ []) (old.opened.items ++ c.in-Ok.one ∷ []) old.left.items f) (sym c.in-None.is)
    (one_opened Opens Fails 0 disks old.opened.items old.left.items c.args.disk c.in-Ok.one (subst (λ f. AreOpened Opens Fails 0 disks old.opened.items old.left.items f) c.in-None.is is)
    (subst (λ n. Opens n c.args.disk c.in-Ok.one) (let e : c.len-place.result ≡ 0 + length disks = omega arith in e) c.in-Ok.ensures)))

pub returns-in-Err-clause-opens : goal.returns-in-Err-clause-opens
returns-in-Err-clause-opens g c = λ disks is.
    let Opens = g.O.Opener.opens c.args.opener.now in
    let Fails = g.O.Opener.fails c.args.opener.now in
    let old = c.args.opening.now in
    let many = many_open Opens Fails 0 disks old.opened.items old.left.items old.fault c.in-None.is is in
    let len = c.len-place.ensures in
    subst (λ l. AreOpened Opens Fails 0 (disks ++ c.args.disk ∷ []) old.opened.items l (Some c.at_disk.result)) (sym c.push_reserved-in-Err.ensures.items)
    (one_failed Opens Fails 0 disks old.opened.items old.left.items c.args.disk c.in-Err.shut.disk c.at_disk.result (subst (λ f. AreOpened Opens Fails 0 disks old.opened.items old.left.items f) c.in-None.is is)
    (record {
      fault = c.in-Err.shut.fault;
      said_is = c.at_disk.ensures ∙ ap (λ n. fault_at n c.in-Err.shut.fault) (let e : c.len-place.result + 1 ≡ suc (0 + length disks) = omega arith in e);
      fails = subst (λ n. Fails n c.args.disk c.in-Err.shut.disk c.in-Err.shut.fault) (let e : c.len-place.result ≡ 0 + length disks = omega arith in e) c.in-Err.ensures;
    }))
