use Rattle.std.proofs.Common.{◌≡◌, ◌≤◌, ◌+◌, ◌∙◌, ℕ, List, [], map, length, take, drop, ap, subst, sym, refl, arith, rules, length-drop}
use Rattle.std.proofs.lemmas.List.{take_rest, take_all, length-map}
use Rattle.std.proofs.lemmas.Result.{err_from_is_err_and}
use Rattle.rdf_types.specs.declared.records.Change.{Change}
use Rattle.rdf_types.specs.declared.records.Stamped.{Stamped}
use Rattle.rdf_model.specs.Window.{records}
use Rattle.rdf_volume.specs.Views.{batches_of, disk_of, file_of, restart_of, rows_of}
use Rattle.rdf_volume.specs.Changes.{changed, changes_on}
use Rattle.rdf_types.specs.Entries.{before}
use Rattle.rdf_types.specs.EntryLaws.{none_before, rise_all}
use Rattle.rdf_disk.specs.AnswerLaws.{on_err}
use Rattle.rdf_gatelog.specs.LogCauses.{NotDamaged}
use Rattle.rdf_volume.specs.StandingLaws.{in_use_durably}
use Rattle.updaters.proofs.Holding.{held_changes}
use Rattle.updaters.proofs.Redoing.{passed_names, rows_more, rows_below, stands_applied, either_applied}
use Rattle.updaters.specs.Batches.{TookBatches}
use Rattle.updaters.proofs.Batching.{full_more, full_rises, is_whole, last_taken, none_taken}
use Rattle.updaters.proofs.redo.redo_images.Given.{Over}
use Rattle.updaters.proofs.redo.redo_images.Goals.{After-deref}
use Rattle.updaters.proofs.redo.redo_images.Goals as goal

-- the entries that are held
abbrev entries_of : (g : Over) → List g.row.E.Denot → List Stamped
entries_of g held = map g.E.Held.stands held

batch_is : (g : Over) (c : After-deref g) → c.deref.result.now ≡ changes_on c.args.vol (records (take c.in_ok-batch.gone_over (drop c.loop-batch.done (entries_of g c.args.images.now))))
batch_is g c =
    c.deref.ensures.value ∙ c.in_ok-batch.ensures.changes
    ∙ ap (λ (l : List g.row.E.Denot). changes_on c.args.vol (map g.E.Entry.holds (take c.in_ok-batch.gone_over l))) (take_rest c.args.images.now c.loop-batch.done)
    ∙ held_changes g.E.Held.stands g.E.Entry.holds g.met.E.Held.same c.args.vol c.loop-batch.done c.in_ok-batch.gone_over c.args.images.now

more : (g : Over) (c : After-deref g) → changed (rows_of c.loop-batch.volume) c.deref.result.now ≡ changed (rows_of c.args.volume.now) (changes_on c.args.vol (records (take (c.loop-batch.done + c.in_ok-batch.gone_over) (entries_of g c.args.images.now))))
more g c = rows_more c.args.vol (entries_of g c.args.images.now) c.loop-batch.done c.in_ok-batch.gone_over (rows_of c.args.volume.now) (rows_of c.loop-batch.volume) c.deref.result.now c.loop-batch.invariant.rows (batch_is g c)

cut : (g : Over) (c : After-deref g) → before c.position_at-restart.result (entries_of g c.args.images.now) ≡ take (c.loop-batch.done + c.in_ok-batch.gone_over) (entries_of g c.args.images.now)
cut g c = c.position_at-restart.ensures.cut (rise_all (restart_of c.args.volume.now) (entries_of g c.args.images.now) c.requires.rising)

pub loop-batch-init : goal.loop-batch-init
loop-batch-init g c = record {
  in_use = c.requires.in_use;
  done = omega arith;
  behind = omega arith;
  within = c.requires.behind;
  cut = none_before (restart_of c.args.volume.now) (entries_of g c.args.images.now) c.requires.rising;
  rows = refl;
  batches = record { count = 0; full = refl; each = refl };
  counts = refl;
}

pub returns-then-at-upto : goal.returns-then-at-upto
returns-then-at-upto g c =
    let first = c.args.volume.now in
    let at : restart_of first ≡ c.args.upto = sym c.restart_point-at.ensures ∙ c.if-at-upto.true in
    let none : entries_of g c.args.images.now ≡ [] = sym c.requires.below ∙ ap (λ (p : ℕ). before p (entries_of g c.args.images.now)) (sym at) ∙ none_before (restart_of first) (entries_of g c.args.images.now) c.requires.rising in
    record {
      does = search rules;
      sound = search rules;
      names = λ damaged at e. cc;
      rows = sym (ap (λ (l : List Stamped). changed (rows_of first) (changes_on c.args.vol (records l))) none);
      restart = at;
      batches = subst (λ (l : List Stamped). TookBatches (length (changes_on c.args.vol (records l))) ((file_of first), (batches_of first)) ((file_of first), (batches_of first))) (sym none) (none_taken ((file_of first), (batches_of first)));
      idle = λ e. refl;
    }

pub returns-in_err-batch : goal.returns-in_err-batch
returns-in_err-batch g c =
    let inv = c.loop-batch.invariant in
    let v = c.loop-batch.volume in
    let first = c.args.volume.now in
    record { does = record { ok = search rules; err = λ tells. on_err c.from_residual.result _ (stands_applied c.args.vol (entries_of g c.args.images.now) (restart_of first) c.args.upto (rows_of first) (restart_of v) (rows_of v) (g.D.Disk.files (disk_of v)) inv.behind inv.within (rows_below c.args.vol (entries_of g c.args.images.now) c.loop-batch.done (restart_of v) (rows_of first) (rows_of v) inv.rows inv.cut) (in_use_durably g.D.Disk.files v (inv.in_use tells))); cause = search rules }; sound = λ tells. calm; names = λ damaged at e. absurd (calm damaged at e); rows = search rules; restart = search rules; batches = search rules; idle = λ e. absurd (omega (arith, c.restart_point-at.ensures, c.if-at-upto.false)) }
  where
    calm : NotDamaged c.from_residual.result
    calm = search rules

pub returns-in_err-apply_batch : goal.returns-in_err-apply_batch
returns-in_err-apply_batch g c =
    let shared = (goal.at.returns-in_err-apply_batch g c).After-deref in
    let inv = c.loop-batch.invariant in
    let v = c.loop-batch.volume in
    let first = c.args.volume.now in
    let entries = entries_of g c.args.images.now in
    let done = c.loop-batch.done in
    let n = c.in_ok-batch.gone_over in
    let p = err_from_is_err_and c.from_residual-in_err-apply_batch.result c.from_residual-in_err-apply_batch.ensures.1 in
    record {
      does = record { ok = search rules; err = λ tells. on_err c.from_residual-in_err-apply_batch.result _ (either_applied c.args.vol entries (restart_of first) c.args.upto (rows_of first) (restart_of v) c.position_at-restart.result (rows_of v) (changed (rows_of v) c.deref.result.now) (g.D.Disk.files (disk_of c.apply_batch.new.volume)) inv.behind inv.within (c.position_at-restart.ensures.behind (restart_of first) c.requires.behind c.requires.rising) c.position_at-restart.ensures.within (rows_below c.args.vol entries done (restart_of v) (rows_of first) (rows_of v) inv.rows inv.cut) (rows_below c.args.vol entries (done + n) c.position_at-restart.result (rows_of first) (changed (rows_of v) c.deref.result.now) (more g shared) (cut g shared)) (c.in_err-apply_batch.ensures.steps.err tells)); cause = search rules };
      sound = search rules;
      names = λ damaged at e. (let own = passed_names (λ d. d ≡ file_of v) c.from_residual-in_err-apply_batch.result p.0 _ p.1 p.2 c.in_err-apply_batch.ensures.steps.names damaged at e in omega (arith, own, full_rises _ _ _ inv.batches));
      rows = search rules;
      restart = search rules;
      batches = search rules;
      idle = λ e. absurd (omega (arith, c.restart_point-at.ensures, c.if-at-upto.false));
    }

pub returns-then-done-images : goal.returns-then-done-images
returns-then-done-images g c =
    let shared = (goal.at.returns-then-done-images g c).After-deref in
    let inv = c.loop-batch.invariant in
    let v = c.loop-batch.volume in
    let first = c.args.volume.now in
    let entries = entries_of g c.args.images.now in
    let done = c.loop-batch.done in
    let n = c.in_ok-batch.gone_over in
    let last = c.apply_batch.new.volume in
    let all : length c.args.images.now ≤ done + n = omega (arith, c.if-done-images.true) in
    let whole : length entries ≤ done + n = omega (arith, all, length-map c.args.images.now g.E.Held.stands) in
    let within : length c.deref.result.now ≤ 64 = omega (arith, ap (λ (cs : List Change). length cs) c.deref.ensures.value, c.in_ok-batch.ensures.few) in
    let steps = c.in_ok-apply_batch.ensures.steps in
    record {
      does = search rules;
      sound = search rules;
      names = λ damaged at e. cc;
      rows = steps.rows ∙ more g shared ∙ ap (λ (l : List Stamped). changed (rows_of first) (changes_on c.args.vol (records l))) (take_all (done + n) entries whole);
      restart = steps.restart ∙ c.position_at-restart.ensures.past all;
      batches =
          subst (λ (l : List Stamped). TookBatches (length (changes_on c.args.vol (records l))) ((file_of first), (batches_of first)) ((file_of last), (batches_of last))) (take_all (done + n) entries whole)
          (last_taken c.args.vol entries done n c.deref.result.now (batch_is g shared) ((file_of first), (batches_of first)) (file_of v) (batches_of v) (file_of last) (batches_of last) inv.batches steps.file steps.batches within);
      idle = λ e. absurd (omega (arith, c.restart_point-at.ensures, c.if-at-upto.false));
    }

pub loop-batch-preserved : goal.loop-batch-preserved
loop-batch-preserved g c =
    let shared = (goal.at.loop-batch-preserved g c).After-deref in
    let inv = c.loop-batch.invariant in
    let v = c.loop-batch.volume in
    let first = c.args.volume.now in
    let entries = entries_of g c.args.images.now in
    let done = c.loop-batch.done in
    let n = c.in_ok-batch.gone_over in
    let next = c.position_at-restart.result in
    let behind = c.position_at-restart.ensures.behind (restart_of first) c.requires.behind c.requires.rising in
    let point : restart_of c.apply_batch.new.volume ≡ next = c.in_ok-apply_batch.ensures.steps.restart in
    let held = c.args.images.now in
    let slice = take_rest held done in
    let last = c.apply_batch.new.volume in
    let within : n ≤ length (drop done held) = subst (λ (l : List g.row.E.Denot). n ≤ length l) slice c.in_ok-batch.ensures.within in
    let whole : length c.deref.result.now ≡ 64 = is_whole (length c.deref.result.now) (length held) done n
    (λ few. c.in_ok-batch.ensures.all (omega (arith, few, ap (λ (cs : List Change). length cs) c.deref.ensures.value)) ∙ ap length slice ∙ length-drop done held)
    (omega (arith, ap (λ (cs : List Change). length cs) c.deref.ensures.value, c.in_ok-batch.ensures.few)) inv.done (λ e. omega (arith, c.if-done-images.false, e)) in
    record {
      in_use = λ tells. c.in_ok-apply_batch.ensures.steps.ok tells;
      done = omega (arith, within, length-drop done held, inv.done);
      behind = omega (arith, point, behind);
      within = omega (arith, point, c.position_at-restart.ensures.within);
      cut = ap (λ (at : ℕ). before at entries) point ∙ cut g shared;
      rows = c.in_ok-apply_batch.ensures.steps.rows ∙ more g shared;
      batches = full_more c.args.vol entries done n c.deref.result.now (batch_is g shared) ((file_of first), (batches_of first)) (file_of v) (batches_of v) (file_of last) (batches_of last) inv.batches c.in_ok-apply_batch.ensures.steps.file c.in_ok-apply_batch.ensures.steps.batches whole;
      counts = c.in_ok-apply_batch.ensures.steps.cause ∙ inv.counts;
    }
