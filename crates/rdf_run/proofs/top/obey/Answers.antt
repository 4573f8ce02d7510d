use Rattle.std.proofs.Common.{◌≡◌, ℕ, Bool, List, Some, refl, rules, ap, ◌∙◌, subst, arith}
use Rattle.std.specs.Prelude.{map, string_bytes}
use Rattle.plan_gen.specs.Generated.{generated_plan}
use Rattle.command_words.specs.declared.words.Words.{Words}
use Rattle.command_words.specs.Forms.{Make, words_in, form_of}
use Rattle.rdf_run.specs.declared.status.Status.{Status}
use Rattle.rdf_run.specs.declared.status.Status.TheVariants as status
use Rattle.rdf_run.specs.Statuses.{IsBegun, SourceAfter}
use Rattle.rdf_run.specs.Calls.{TakesPlan}
use Rattle.rdf_run.specs.Making.{MakesPlan}
use Rattle.rdf_system.specs.Place.{disk_at}
use Rattle.rdf_run.proofs.Completing.{same_load}
use Rattle.rdf_run.proofs.Endings.{returns_back, diskless_sound}
use Rattle.rdf_run.proofs.top.obey.Goals as goal

-- a call that began and leaves the source as it was took nothing from it
began_source : (s : Status) (n : ℕ) → IsBegun s → SourceAfter s n n
began_source status.ReadFault n begun = absurd begun
began_source _ n begun = refl

untaken : {S : Type 0} (tells : Type 0) (left : S → List ℕ) (faults : S → ℕ) (fuses : Bool) (s : Status) (source : S) → IsBegun s → TakesPlan tells left faults fuses s source source
untaken tells left faults fuses s source begun = record {
  bad_plan = λ t line why e. absurd (subst (λ (x : Status). IsBegun x) e begun);
  too_long = λ t e. absurd (subst (λ (x : Status). IsBegun x) e begun);
  took = λ t. (0, omega arith, refl);
  source = began_source s (faults source) begun;
}

pub returns-in-Ok-Make : goal.returns-in-Ok-Make
returns-in-Ok-Make g c =
    let asked = words_in (map string_bytes c.args.words.now) in
    let given : asked ≡ Some (Make c.in-Ok-Make.seed c.in-Ok-Make.txns) = (c.in-Ok-Make.ensures {u = tt}).given ∙ ap (λ (w : Words). Some (form_of w)) c.in-Ok-Make.field-0-is in
    let written = g.K.Sink.written c.args.out.now in
    let now_written = g.K.Sink.written c.make.new.out in
    record {
      performs = search rules;
      predicts = search rules;
      diskless = search rules;
      makes = λ seed txns e. let same = same_load asked c.in-Ok-Make.seed c.in-Ok-Make.txns seed txns given e in (
        subst (λ (n : ℕ). MakesPlan g.K.Sink.tells g.D.Disk.tells g.D.Disk.files g.D.Disk.counts (generated_plan seed n) c.make.result.status written now_written c.args.racks c.make.result.racks) same.1
            (subst (λ (m : ℕ). MakesPlan g.K.Sink.tells g.D.Disk.tells g.D.Disk.files g.D.Disk.counts (generated_plan m c.in-Ok-Make.txns) c.make.result.status written now_written c.args.racks c.make.result.racks) same.0 c.make.ensures.makes),
        refl,
      );
      unbegun = search rules;
      bad_words = search rules;
      known_words = search rules;
      takes = untaken g.S.Source.tells g.S.Source.left g.S.Source.faults _ c.make.result.status c.args.plan.now c.make.ensures.begun;
      returns = search rules;
    }

pub returns-in-Ok-Predict : goal.returns-in-Ok-Predict
returns-in-Ok-Predict g c =
    let back = returns_back g.D.Disk.counts g.D.Disk.tells c.predict_plan.result (g.K.Sink.faults c.args.out.now) (g.K.Sink.faults c.predict_plan.new.out) c.predict_plan.ensures.diskless c.predict_plan.ensures.sink (diskless_sound c.predict_plan.result c.predict_plan.ensures.diskless) (disk_at c.args.racks) in
    search rules

pub returns-in-Err-BadWords : goal.returns-in-Err-BadWords
returns-in-Err-BadWords g c = let back = returns_back g.D.Disk.counts g.D.Disk.tells status.BadWords (g.K.Sink.faults c.args.out.now) (g.K.Sink.faults c.args.out.now) tt refl tt (disk_at c.args.racks) in search rules

pub returns : goal.returns
returns g c = let back = returns_back g.D.Disk.counts g.D.Disk.tells status.NoMemory (g.K.Sink.faults c.args.out.now) (g.K.Sink.faults c.args.out.now) tt refl tt (disk_at c.args.racks) in search rules
