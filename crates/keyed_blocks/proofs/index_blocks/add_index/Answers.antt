use Rattle.std.proofs.Common.{◌≡◌, ◌<◌, ◌++◌, ◌∷◌, [], ℕ, List, length, refl, sym, ◌∙◌, subst, arith, append_assoc}
use Rattle.std.proofs.lemmas.Grind.{common_steps}
use Rattle.std.proofs.lemmas.List.{append-nil}
use Rattle.rdf_disk.specs.AnswerLaws.{on_err}
use Rattle.rdf_gatelog.specs.Adding.{RestsAdding}
use Rattle.keyed_blocks.proofs.AddedLaws.{none_listed, more_listed, all_listed}
use Rattle.keyed_blocks.proofs.index_blocks.add_index.Goals as goal

pub loop-rest-init : goal.loop-rest-init
loop-rest-init g c = record {
  adding = λ tells logs more r. (
    [],
    none_listed c.args.entries.now,
    subst (λ (m : List (List ℕ)). RestsAdding logs c.args.addition.now m (g.D.Disk.files c.args.disk.now)) (sym (append-nil more)) r,
  );
  file = refl;
  counts = refl;
}

pub add_entries-requires-clause-adding : goal.add_entries-requires-clause-adding
add_entries-requires-clause-adding g c = λ tells.
    let s = c.requires.adding tells in
    let a = c.loop-rest.invariant.adding tells s.0 s.1 s.2 in
    (s.0, s.1 ++ a.0, a.2)

pub returns-in_err-add_entries-clause-err : goal.returns-in_err-add_entries-clause-err
returns-in_err-add_entries-clause-err g c = λ tells. on_err c.from_residual.result _ (λ logs more r.
    let a = c.loop-rest.invariant.adding tells logs more r in
    c.in_err-add_entries.ensures.err tells logs (more ++ a.0) a.2)

pub loop-rest-preserved : goal.loop-rest-preserved
loop-rest-preserved g c = record {
  adding = λ tells logs more r.
      let a = c.loop-rest.invariant.adding tells logs more r in
      let b = c.in_ok-add_entries.ensures.ok tells logs (more ++ a.0) a.2 in
      let some : 0 < length c.loop-rest.rest.now = grind (arith, common_steps, c.is_empty.ensures) in (
        a.0 ++ b.0 ∷ [],
        more_listed c.args.entries.now c.loop-rest.rest.now a.0 a.1 c.entries_in_block.result (c.entries_in_block.ensures.some some) c.entries_in_block.ensures.within
            c.split_at.result.0.now c.split_at.result.1.now c.split_at.ensures.front c.split_at.ensures.back b.0 b.1,
        subst (λ (m : List (List ℕ)). RestsAdding logs c.add_entries.new.addition m (g.D.Disk.files c.add_entries.new.disk)) (append_assoc more a.0 (b.0 ∷ [])) b.2,
      );
  file = c.in_ok-add_entries.ensures.file ∙ c.loop-rest.invariant.file;
  counts = c.in_ok-add_entries.ensures.cause ∙ c.loop-rest.invariant.counts;
}

pub returns-clause-ok : goal.returns-clause-ok
returns-clause-ok g c = λ tells logs more r.
    let a = c.loop-rest.invariant.adding tells logs more r in
    let none : length c.loop-rest.rest.now ≡ 0 = grind (arith, common_steps, c.is_empty.ensures) in
    (a.0, all_listed c.args.entries.now c.loop-rest.rest.now a.0 a.1 none, a.2)
