use Rattle.std.proofs.Common.{List, refl, fold, drop, length, ap, sym, subst, ◌∙◌, arith}
use Rattle.rdf_types.specs.declared.records.Record.{Record}
use Rattle.primary_machine.specs.Kept.{Lasts, AreLast}
use Rattle.primary_machine.specs.Backouts.{cut_at, without_aborted}
use Rattle.primary_machine.proofs.BackoutLaws.{begin_way, taken_back, way_longer}
use Rattle.primary_machine.proofs.FoundLaws.{by_parts}
use Rattle.primary_machine.proofs.CutLaws.{ok_holds, err_holds}
use Rattle.rdf_disk.specs.AnswerLaws.{on_err}
use Rattle.primary_machine.proofs.AddedLaws.{Adds, adds_none, aborts_add, cut_adds, found_cut}
use Rattle.primary_machine.proofs.OpenLaws.{backed_out_are}
use Rattle.primary_machine.proofs.aborting.back_out.Goals as goal

pub returns-then-is_err-clause-err : goal.returns-then-is_err-clause-err
returns-then-is_err-clause-err c =
    let trail = c.args.trail.now.items in
    let places = c.args.places.now in
    let r = c.put_all_back-done.result in
    let w = c.put_all_back-done.ensures.way trail places (begin_way trail places c.new-log.result c.new-log.ensures c.requires.last) in
    let back = err_holds _ r c.if-is_err.ensures.value (taken_back r trail c.put_all_back-done.new.trail.items c.truncate.new.self.items places c.put_all_back-done.new.places c.undo.new.places c.put_all_back-done.new.log c.len-len.result
    (c.len-len.ensures ∙ c.args.trail.now.ok.0) c.truncate.ensures.items c.undo.ensures w) in
    on_err r _ back.0

pub returns-then-is_err-clause-last : goal.returns-then-is_err-clause-last
returns-then-is_err-clause-last c =
    let trail = c.args.trail.now.items in
    let places = c.args.places.now in
    let r = c.put_all_back-done.result in
    let w = c.put_all_back-done.ensures.way trail places (begin_way trail places c.new-log.result c.new-log.ensures c.requires.last) in
    let back = err_holds _ r c.if-is_err.ensures.value (taken_back r trail c.put_all_back-done.new.trail.items c.truncate.new.self.items places c.put_all_back-done.new.places c.undo.new.places c.put_all_back-done.new.log c.len-len.result
    (c.len-len.ensures ∙ c.args.trail.now.ok.0) c.truncate.ensures.items c.undo.ensures w) in
    subst (λ (x : List Record). AreLast x c.undo.new.places) (sym back.0) (subst (λ (m : Lasts). AreLast trail m) (sym back.1) c.requires.last)

pub returns-then-is_err-clause-found : goal.returns-then-is_err-clause-found
returns-then-is_err-clause-found c =
    let trail = c.args.trail.now.items in
    let places = c.args.places.now in
    let r = c.put_all_back-done.result in
    let w = c.put_all_back-done.ensures.way trail places (begin_way trail places c.new-log.result c.new-log.ensures c.requires.last) in
    let back = err_holds _ r c.if-is_err.ensures.value (taken_back r trail c.put_all_back-done.new.trail.items c.truncate.new.self.items places c.put_all_back-done.new.places c.undo.new.places c.put_all_back-done.new.log c.len-len.result
    (c.len-len.ensures ∙ c.args.trail.now.ok.0) c.truncate.ensures.items c.undo.ensures w) in
    by_parts trail c.truncate.new.self.items c.args.founds.now c.args.founds.now back.0 refl c.requires.found

pub forget_aborted-requires : goal.forget_aborted-requires
forget_aborted-requires c =
    let trail = c.args.trail.now.items in
    let places = c.args.places.now in
    let w = c.put_all_back-done.ensures.way trail places (begin_way trail places c.new-log.result c.new-log.ensures c.requires.last) in
    let longer = way_longer trail places c.put_all_back-done.new.trail.items c.put_all_back-done.new.places c.put_all_back-done.new.log w in
    omega (arith, longer, c.len-len.ensures, c.args.trail.now.ok.0, ap length c.deref.ensures.value)

pub returns-clause-ok : goal.returns-clause-ok
returns-clause-ok c =
    let trail = c.args.trail.now.items in
    let places = c.args.places.now in
    let log = begin_way trail places c.new-log.result c.new-log.ensures c.requires.last in
    ok_holds _ c.put_all_back-done.result (sym c.if-is_err.ensures.value) (c.put_all_back-done.ensures.ok trail places log c.requires.room)
    ∙ ap (cut_at c.args.most) (backed_out_are c.args.founds.now trail c.args.txns.now c.requires.found c.requires.opened)

pub returns-clause-last : goal.returns-clause-last
returns-clause-last c =
    let trail = c.args.trail.now.items in
    let places = c.args.places.now in
    (c.put_all_back-done.ensures.way trail places (begin_way trail places c.new-log.result c.new-log.ensures c.requires.last)).last

pub returns-clause-found : goal.returns-clause-found
returns-clause-found c =
    let trail = c.args.trail.now.items in
    let places = c.args.places.now in
    let log = begin_way trail places c.new-log.result c.new-log.ensures c.requires.last in
    let new = ok_holds _ c.put_all_back-done.result (sym c.if-is_err.ensures.value) (c.put_all_back-done.ensures.ok trail places log c.requires.room)
    ∙ ap (cut_at c.args.most) (backed_out_are c.args.founds.now trail c.args.txns.now c.requires.found c.requires.opened) in
    let adds = subst (Adds trail) (sym new) (cut_adds c.args.most trail _ c.requires.room (aborts_add trail trail c.args.txns.now (adds_none trail))) in
    found_cut trail c.put_all_back-done.new.trail.items c.args.founds.now c.forget_aborted.new.founds c.len-len.result adds (c.len-len.ensures ∙ c.args.trail.now.ok.0)
    (c.forget_aborted.ensures ∙ ap (λ l. fold without_aborted c.args.founds.now (drop c.len-len.result l)) c.deref.ensures.value) c.requires.found
