use Rattle.std.proofs.Common.{◌≡◌, inl, inr, ℕ, Bool, true, false, List, length, Option, Some, None, sym, ap, ◌∙◌, subst}
use Rattle.std.proofs.lemmas.Option.{none-some}
use Rattle.rdf_types.specs.declared.records.Node.{Node}
use Rattle.rdf_disk.specs.Files.{Disk}
use Rattle.rdf_disk.specs.Counts.{Counts}
use Rattle.plan_gen.specs.Generated.{generated_plan}
use Rattle.command_words.specs.Forms.{Form, Predict}
use Rattle.rdf_monitor.specs.Output.{Output, texts_out}
use Rattle.rdf_system.specs.declared.racks.Racks.{Racks}
use Rattle.rdf_run.specs.declared.status.Status.{Status}
use Rattle.rdf_run.specs.declared.status.Status.TheVariants as status
use Rattle.rdf_run.specs.Statuses.{IsBegun, NamesUsedDisk}
use Rattle.rdf_run.specs.Plans.{HadBadPlan}
use Rattle.rdf_run.specs.Commands.{knows_fuses}
use Rattle.rdf_run.specs.Calls.{Obeys, IsComplete}
use Rattle.rdf_run.proofs.Completing.{ends_well, not_read, not_written, not_damaged, not_failed, not_stopped, run_names, make_names, runs_not_used, makes_not_used, asks_some, asks_fuses, diskless_failed, diskless_damaged, diskless_blank, diskless_stopped, not_long, not_bad, made_begun}
use Rattle.rdf_run.proofs.top.run_rdf.Goals as goal

never_none : {X : Type 0} (f : Form) (o : Option Form) → o ≡ Some f → o ≡ None → X
never_none f o e h = absurd (none-some _ (sym ((sym e ∙ h))))

begun_not : (s t : Status) → IsBegun s → (IsBegun t → ⊥) → s ≡ t → ⊥
begun_not s t b never e = never (subst (λ (x : Status). IsBegun x) e b)

no_memory_blank : (node : Node) (disk : ℕ) → status.NoMemory ≡ status.NotBlank node disk → ⊥
no_memory_blank node disk e = cc

-- what the program does leaves no other end where nothing fails, stops or is used before
complete : {S K D : Type 0} {source_tells : Type 0} {left : S → List ℕ} {source_faults : S → ℕ} {sink_tells : Type 0} {written : K → List ℕ} {sink_faults : K → ℕ} {tells : Type 0} {files : D → Disk} {counts : D → Counts} {asked : Option Form} {s : Status}
    {plan now_plan : S} {out now_out : K} {racks now_racks : Racks D} → Obeys source_tells left source_faults sink_tells written sink_faults tells files counts asked s plan now_plan out now_out racks now_racks →
    IsComplete source_tells left source_faults sink_faults tells files counts asked s plan now_plan out now_out racks now_racks
complete {source_tells = source_tells} {left = left} {source_faults = source_faults} {sink_tells = sink_tells} {written = written} {sink_faults = sink_faults} {tells = tells} {files = files} {counts = counts} {asked = asked} {s = s}
    {plan = plan} {now_plan = now_plan} {out = out} {now_out = now_out} {racks = racks} {now_racks = now_racks} o = record {
      completes_run = λ st dt asks source sink p has blank well.
          let named : IsBegun s → NamesUsedDisk p.layout s = λ begun. elim (o.performs asks begun) [
            | inl r ↦ run_names texts source_tells tells files counts r.0 p s (left plan) (left now_plan) racks now_racks st r.1 has.reads
            | inr n ↦ subst (λ (x : Status). NamesUsedDisk p.layout x) (sym n.0) tt
          ] in
          ends_well s
          (λ e. asks_some asked asks (o.bad_words e).0)
          (λ line why e. not_bad true (left plan) (left now_plan) p line why has.reads (subst (λ (b : Bool). HadBadPlan b line why (left plan) (left now_plan)) (asks_fuses asked asks) (o.takes.bad_plan st line why e)))
          (not_read s (source_faults plan) (source_faults now_plan) source o.takes.source)
          (not_written s (sink_faults out) (sink_faults now_out) sink o.returns.sink)
          (not_failed counts p.layout s racks now_racks well named o.returns.disks.session o.returns.disks.each)
          (not_damaged s (o.returns.sound dt))
          (λ node disk e. elim (o.performs asks (subst (λ (x : Status). IsBegun x) (sym e) tt)) [
            | inl r ↦ runs_not_used texts source_tells tells files counts r.0 p s (left plan) (left now_plan) racks now_racks node disk st dt e r.1 has.reads blank
            | inr n ↦ no_memory_blank node disk (sym n.0 ∙ e)
          ])
          (λ e. not_long (length (left plan)) has.few (o.takes.too_long st e))
          (not_stopped counts p.layout s racks now_racks well named o.returns.disks.session o.returns.disks.each);
      completes_predict = λ st asks source sink p has.
          let diskless = (o.diskless asks).0 in
          ends_well s
          (λ e. never_none Predict asked asks (o.bad_words e).0)
          (λ line why e. not_bad false (left plan) (left now_plan) p line why has.reads (subst (λ (b : Bool). HadBadPlan b line why (left plan) (left now_plan)) (ap knows_fuses asks) (o.takes.bad_plan st line why e)))
          (not_read s (source_faults plan) (source_faults now_plan) source o.takes.source)
          (not_written s (sink_faults out) (sink_faults now_out) sink o.returns.sink)
          (diskless_failed s diskless)
          (diskless_damaged s diskless)
          (diskless_blank s diskless)
          (λ e. not_long (length (left plan)) has.few (o.takes.too_long st e))
          (diskless_stopped s diskless);
      completes_make = λ dt seed txns asks sink blank well.
          let p = generated_plan seed txns in
          let m = (o.makes seed txns asks).0 in
          let begun = made_begun sink_tells tells files counts p s (written out) (written now_out) racks now_racks m in
          let named : IsBegun s → NamesUsedDisk p.layout s = λ b. make_names sink_tells tells files counts p s (written out) (written now_out) racks now_racks m in
          ends_well s
          (begun_not s status.BadWords begun (λ b. b))
          (λ line why. begun_not s (status.BadPlan line why) begun (λ b. b))
          (begun_not s status.ReadFault begun (λ b. b))
          (not_written s (sink_faults out) (sink_faults now_out) sink o.returns.sink)
          (not_failed counts p.layout s racks now_racks well named o.returns.disks.session o.returns.disks.each)
          (not_damaged s (o.returns.sound dt))
          (λ node disk e. makes_not_used sink_tells tells files counts p s (written out) (written now_out) racks now_racks node disk dt e m blank)
          (begun_not s status.TooLong begun (λ b. b))
          (not_stopped counts p.layout s racks now_racks well named o.returns.disks.session o.returns.disks.each);
    }
  where
    texts : Output
    texts = texts_out sink_tells (written out) (written now_out)

pub returns-clause-complete : goal.returns-clause-complete
returns-clause-complete g c = complete c.obey.ensures
