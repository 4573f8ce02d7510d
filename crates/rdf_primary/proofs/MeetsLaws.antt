-- What each line needs beside what its call does.
use Rattle.std.proofs.Common.{ℕ, true, false, List, Some, None, refl}
use Rattle.std.specs.FinSet as set
use Rattle.rdf_types.specs.declared.records.RecKey.{RecKey}
use Rattle.rdf_types.specs.declared.records.Node.{Node}
use Rattle.rdf_disk.specs.declared.disk.Disk.{Ghosts}
use Rattle.rdf_model.specs.Lines.{after_change, after_commit, after_abort}
use Rattle.plan_lang.specs.declared.lines.Line.TheVariants as line
use Rattle.tmf_core.specs.States.{tmf_trail, tmf_active}
use Rattle.tmf_core.specs.Refusals as ours
use Rattle.rdf_primary.specs.declared.primary.Primary.{Primary}
use Rattle.rdf_primary.specs.States.{IsUp}
use Rattle.rdf_primary.proofs.SameRefusals.{begin_same, insert_same, value_same, end_same, scan_same, early_only, early_at}
use Rattle.rdf_primary.proofs.KindLaws.{begin_kinds, place_kinds, end_kinds, scan_kinds}
use Rattle.rdf_primary.proofs.Answering.{Meets}

module _ {D : Type 0} {d : Ghosts D} (old : Primary D d) (up : IsUp old) where
  pub begins : (t : ℕ) → Meets (line.Begin t) ours.IsOfBegin (ours.begin_refusal old.tmf t) (ours.begin_refusal old.tmf t) (tmf_trail old.tmf) (set.insert (tmf_active old.tmf) t) old
  begins t = record {
    refusal_is = λ layout stops laid. begin_same old layout stops laid up t;
    after_is = λ stops. refl;
    trail_is = refl;
    may = begin_kinds (line.Begin t) refl;
    unrefused = early_only (ours.begin_refusal old.tmf t);
  }

  pub inserts : (t : ℕ) (k : RecKey) (value : List ℕ) → Meets (line.Insert t k value) (ours.IsOfPlace false) (ours.cannot_use old.tmf t k) (ours.place_refusal false old.tmf t k) (after_change (tmf_trail old.tmf) t k (Some value)) (tmf_active old.tmf) old
  inserts t k value = record {
    refusal_is = λ layout stops laid. insert_same old layout stops laid up t k;
    after_is = λ stops. refl;
    trail_is = refl;
    may = place_kinds (line.Insert t k value) false (λ word h. h);
    unrefused = early_at false old.tmf t k;
  }

  pub updates : (t : ℕ) (k : RecKey) (value : List ℕ) → Meets (line.Update t k value) (ours.IsOfPlace true) (ours.cannot_use old.tmf t k) (ours.place_refusal true old.tmf t k) (after_change (tmf_trail old.tmf) t k (Some value)) (tmf_active old.tmf) old
  updates t k value = record {
    refusal_is = λ layout stops laid. value_same old layout stops laid up t k;
    after_is = λ stops. refl;
    trail_is = refl;
    may = place_kinds (line.Update t k value) true (λ word h. h);
    unrefused = early_at true old.tmf t k;
  }

  pub deletes : (t : ℕ) (k : RecKey) → Meets (line.Delete t k) (ours.IsOfPlace true) (ours.cannot_use old.tmf t k) (ours.place_refusal true old.tmf t k) (after_change (tmf_trail old.tmf) t k None) (tmf_active old.tmf) old
  deletes t k = record {
    refusal_is = λ layout stops laid. value_same old layout stops laid up t k;
    after_is = λ stops. refl;
    trail_is = refl;
    may = place_kinds (line.Delete t k) true (λ word h. h);
    unrefused = early_at true old.tmf t k;
  }

  pub gets : (t : ℕ) (k : RecKey) → Meets (line.Get t k) (ours.IsOfPlace true) (ours.cannot_use old.tmf t k) (ours.value_refusal old.tmf t k) (tmf_trail old.tmf) (tmf_active old.tmf) old
  gets t k = record {
    refusal_is = λ layout stops laid. value_same old layout stops laid up t k;
    after_is = λ stops. refl;
    trail_is = refl;
    may = place_kinds (line.Get t k) true (λ word h. h);
    unrefused = early_at true old.tmf t k;
  }

  pub commits : (t : ℕ) → Meets (line.Commit t) ours.IsOfEnd (ours.end_refusal old.tmf t) (ours.end_refusal old.tmf t) (after_commit (tmf_trail old.tmf) t) (set.remove (tmf_active old.tmf) t) old
  commits t = record {
    refusal_is = λ layout stops laid. end_same old layout stops laid up t;
    after_is = λ stops. refl;
    trail_is = refl;
    may = end_kinds (line.Commit t) refl;
    unrefused = early_only (ours.end_refusal old.tmf t);
  }

  pub aborts : (t : ℕ) → Meets (line.Abort t) ours.IsOfEnd (ours.end_refusal old.tmf t) (ours.end_refusal old.tmf t) (after_abort (tmf_trail old.tmf) t) (set.remove (tmf_active old.tmf) t) old
  aborts t = record {
    refusal_is = λ layout stops laid. end_same old layout stops laid up t;
    after_is = λ stops. refl;
    trail_is = refl;
    may = end_kinds (line.Abort t) refl;
    unrefused = early_only (ours.end_refusal old.tmf t);
  }

  pub lists : (node : Node) (vol : ℕ) → Meets (line.List node vol) ours.IsOfScan (ours.scan_refusal old.tmf vol) (ours.scan_refusal old.tmf vol) (tmf_trail old.tmf) (tmf_active old.tmf) old
  lists node vol = record {
    refusal_is = λ layout stops laid. scan_same old layout stops laid up vol;
    after_is = λ stops. refl;
    trail_is = refl;
    may = scan_kinds (line.List node vol) refl;
    unrefused = early_only (ours.scan_refusal old.tmf vol);
  }
