use Rattle.std.proofs.Common.{◌≡◌, ◌+◌, ◌∙◌, ℕ, [], List, length, take, drop, ap, subst, sym, arith, rules, vec_len}
use Rattle.std.proofs.lemmas.Bool.{eqb-true}
use Rattle.std.proofs.lemmas.List.{take_rest}
use Rattle.rdf_types.specs.declared.records.Record.{Record}
use Rattle.rdf_disk.specs.Outcomes.{Durably}
use Rattle.rdf_disk.specs.AnswerLaws.{on_err}
use Rattle.rdf_volume.specs.Views.{disk_of, restart_of, rows_of}
use Rattle.rdf_volume.specs.Changes.{changed, changes_on}
use Rattle.rdf_volume.specs.StandingLaws.{in_use_durably}
use Rattle.tmf_recovery.specs.Redone.{redone, StandsRedone}
use Rattle.audit_trail.specs.InUse.{trail_of}
use Rattle.tmf_recovery.proofs.RedoLemmas.{batch_of, read_more, stands_redone, either_redone, none_past, none_left, no_items, shows_all}
use Rattle.tmf_recovery.proofs.volume_redo.redo.Goals as goal

pub returns-in_err-batch : goal.returns-in_err-batch
returns-in_err-batch g c =
    let inv = c.loop-records.invariant in
    let v = c.loop-records.volume in
    let first = c.args.volume.now in
    record { does = record { ok = search rules; err = λ tells. on_err c.from_residual.result _ (subst (λ (ts : List Record). Durably (g.D.Disk.files (disk_of v)) (StandsRedone c.args.vol ts (restart_of first) (rows_of first))) c.records-records.ensures (stands_redone c.args.vol c.records-records.result.now (restart_of first) (rows_of first) (restart_of v) (rows_of v) (g.D.Disk.files (disk_of v)) inv.from inv.upto inv.rows (in_use_durably g.D.Disk.files v (inv.in_use tells)))); cause = search rules }; sound = search rules; rows = search rules; whole = search rules; shows = search rules; from = search rules; upto = search rules }

pub returns-in_err-apply : goal.returns-in_err-apply
returns-in_err-apply g c =
    let inv = c.loop-records.invariant in
    let first = c.args.volume.now in
    let trail = c.records-records.result.now in
    let read = read_more c.args.vol trail (restart_of first) c.restart_point-at.result c.in_ok-batch.gone_over _ (rows_of first) _ _ c.deref.result.now c.restart_point-at.ensures (omega (arith, c.if-at-records.false)) (take_rest trail c.restart_point-at.result) inv.from inv.rows
    c.in_ok-batch.ensures.within (c.deref.ensures.value ∙ c.in_ok-batch.ensures.changes) in
    let files = g.D.Disk.files (disk_of c.apply.new.self) in
    record { does = record { ok = search rules; err = λ tells. on_err c.from_residual-in_err-apply.result _ (subst (λ (ts : List Record). Durably files (StandsRedone c.args.vol ts (restart_of first) (rows_of first))) c.records-records.ensures (either_redone c.args.vol trail (restart_of first) (rows_of first) (restart_of c.loop-records.volume) (c.restart_point-at.result + c.in_ok-batch.gone_over) (rows_of c.loop-records.volume) (changed (rows_of c.loop-records.volume) c.deref.result.now) files inv.from (omega (arith, c.restart_point-at.ensures)) (omega (arith, read.upto)) inv.rows read.more (c.in_err-apply.ensures.err tells))); cause = search rules }; sound = search rules; rows = search rules; whole = search rules; shows = search rules; from = search rules; upto = search rules }

pub loop-records-preserved : goal.loop-records-preserved
loop-records-preserved g c =
    let inv = c.loop-records.invariant in
    let first = c.args.volume.now in
    let trail = c.records-records.result.now in
    let read = read_more c.args.vol trail (restart_of first) c.restart_point-at.result c.in_ok-batch.gone_over _ (rows_of first) _ _ c.deref.result.now c.restart_point-at.ensures (omega (arith, c.if-at-records.false)) (take_rest trail c.restart_point-at.result) inv.from inv.rows
    c.in_ok-batch.ensures.within (c.deref.ensures.value ∙ c.in_ok-batch.ensures.changes) in
    let restart : (restart_of c.apply.new.self) ≡ c.restart_point-at.result + c.in_ok-batch.gone_over = c.in_ok-apply.ensures.restart in
    record {
      in_use = λ tells. c.in_ok-apply.ensures.ok tells;
      from = omega (arith, restart, read.from);
      upto = omega (arith, restart, read.upto);
      rows = c.in_ok-apply.ensures.rows ∙ read.more ∙ ap (λ (q : ℕ). redone c.args.vol trail (restart_of first) q (rows_of first)) (sym restart);
      counts = c.in_ok-apply.ensures.cause ∙ inv.counts;
    }

pub returns-then-at-records : goal.returns-then-at-records
returns-then-at-records g c =
    let inv = c.loop-records.invariant in
    let v = c.loop-records.volume in
    let first = c.args.volume.now in
    let records = c.records-records.result.now in
    let none = none_past c.args.vol records (restart_of v) (omega (arith, c.if-at-records.true, c.restart_point-at.ensures)) in
    record {
      does = search rules;
      sound = search rules;
      rows = search rules;
      whole = subst (λ (ts : List Record). changes_on c.args.vol (drop (restart_of v) ts) ≡ []) c.records-records.ensures none;
      shows = shows_all c.redo_shows.ensures c.nothing_left_shows.ensures c.args.vol (trail_of c.args.trail.now) records (restart_of first) (restart_of v) (rows_of first) (rows_of v) c.records-records.ensures inv.from inv.rows none;
      from = search rules;
      upto = search rules;
    }

pub returns-then-is_empty : goal.returns-then-is_empty
returns-then-is_empty g c =
    let inv = c.loop-records.invariant in
    let v = c.loop-records.volume in
    let first = c.args.volume.now in
    let records = c.records-records.result.now in
    let at = c.restart_point-at.result in
    let n = c.in_ok-batch.gone_over in
    let slice = take_rest records at in
    let zero_long : vec_len c.in_ok-batch.batch ≡ 0 = eqb-true (vec_len c.in_ok-batch.batch) 0 (sym c.is_empty.ensures ∙ c.if-is_empty.true) in
    let none : length c.in_ok-batch.batch.items ≡ 0 = omega (arith, zero_long) in
    let all : n ≡ length (drop at records) = c.in_ok-batch.ensures.all (omega (arith, none)) ∙ ap (λ (l : List Record). length l) slice in
    let batch_is : c.in_ok-batch.batch.items ≡ changes_on c.args.vol (take n (drop at records)) = batch_of c.args.vol n _ (drop at records) _ slice c.in_ok-batch.ensures.changes in
    let over = none_left c.args.vol records at n c.in_ok-batch.batch.items batch_is all (no_items c.in_ok-batch.batch.items none) in
    let none = subst (λ (q : ℕ). changes_on c.args.vol (drop q records) ≡ []) c.restart_point-at.ensures over in
    record { does = search rules; sound = search rules; rows = search rules; whole = subst (λ (ts : List Record). changes_on c.args.vol (drop (restart_of v) ts) ≡ []) c.records-records.ensures none; shows = shows_all c.redo_shows.ensures c.nothing_left_shows.ensures c.args.vol (trail_of c.args.trail.now) records (restart_of first) (restart_of v) (rows_of first) (rows_of v) c.records-records.ensures inv.from inv.rows none; from = search rules; upto = search rules }
