-- A generated plan that was performed, with its summary.
use Rattle.std.proofs.Common.{◌≡◌, ◌≢◌, ◌⊎◌, inl, inr, ℕ, List, [], refl, arith}
use Rattle.rdf_disk.specs.Files.{Disk}
use Rattle.rdf_disk.specs.Counts.{Counts}
use Rattle.plan_lang.specs.declared.lines.Line.{Line}
use Rattle.plan_lang.specs.declared.lines.Plan.{Plan}
use Rattle.rdf_core.specs.declared.replies.Reply.{Reply}
use Rattle.load_summary.specs.declared.tally.Tally.{Tally}
use Rattle.load_summary.specs.Tallies.{Tallies}
use Rattle.rdf_system.specs.declared.racks.Racks.{Racks}
use Rattle.rdf_system.specs.declared.fault.StartFault.{StartFault}
use Rattle.rdf_system.specs.declared.fault.StartFault.TheVariants as start
use Rattle.rdf_system.specs.Place.{disk_at}
use Rattle.rdf_system.specs.States.{RacksStandFor}
use Rattle.rdf_run.specs.declared.status.Status.{Status}
use Rattle.rdf_run.specs.declared.status.Status.TheVariants as status
use Rattle.rdf_run.specs.Statuses.{SinkAfter, NamesUsedDisk}
use Rattle.rdf_run.specs.Agreeing.{AgreeIf}
use Rattle.rdf_run.specs.Going.{BreaksOff}
use Rattle.rdf_run.specs.Making.{noted, silent, MadePart, MakeEnds, MakesPlan, SummaryEnds}
use Rattle.rdf_run.specs.Plans.{IsRefused, IsPerformed, AreOff, status_of_start}

no_done : (why : StartFault) → status.Done ≡ status_of_start why → ⊥
no_done (start.NotBlank node disk) e = cc
no_done (start.Stopped node disk) e = cc
no_done (start.Failed node disk) e = cc
no_done start.NoMemory e = cc

module _ {D : Type 0} (sink_tells tells : Type 0) (files : D → Disk) (counts : D → Counts) (plan : Plan) (racks now_racks : Racks D) (before after : Tally) where
  -- a line was broken off, and nothing is written
  part : (s : Status) (written : List ℕ) (ends : BreaksOff s (noted before after) tells counts plan.layout plan.lines (disk_at racks) (disk_at now_racks) (λ s. RacksStandFor files plan.layout s now_racks)) →
      (tells → AgreeIf files plan.layout ends.before ends.replies now_racks) → AreOff counts plan.layout now_racks → MadePart s (silent written written) tells files counts plan racks now_racks
  part s written ends agree off = record {
    ends = record { before = ends.before; line = ends.line; behind = ends.behind; parts = ends.parts; replies = ends.replies; wrote = refl; went = ends.went; returned = ends.returned };
    agree = agree;
    off = off;
  }

  performed_part : (written : List ℕ) (s : Status) → s ≢ status.Done → IsPerformed (noted before after) tells files counts plan s racks now_racks → MakeEnds s sink_tells tells files counts plan written written racks now_racks
  performed_part written status.Done ne p = absurd (ne refl)
  performed_part written status.WriteFault ne p = absurd p.ends.wrote
  performed_part written (status.DeviceFault node disk) ne p = part (status.DeviceFault node disk) written p.ends p.agree p.off
  performed_part written status.NoMemory ne p = inl (part status.NoMemory written p.ends p.agree p.off)
  performed_part written (status.Damaged node disk file at) ne p = part (status.Damaged node disk file at) written p.ends p.agree p.off
  performed_part written status.BadWords ne p = p.ends
  performed_part written (status.BadPlan line why) ne p = p.ends
  performed_part written status.ReadFault ne p = p.ends
  performed_part written (status.NotBlank node disk) ne p = p.ends
  performed_part written status.TooLong ne p = p.ends
  performed_part written (status.StoppedEarly node disk) ne p = p.ends

  -- the plan was refused, or not performed to its end
  pub part_made : (written : List ℕ) (s : Status) → s ≢ status.Done →
      IsRefused (noted before after) tells files counts plan.layout s racks now_racks ⊎ IsPerformed (noted before after) tells files counts plan s racks now_racks →
      MakesPlan sink_tells tells files counts plan s written written racks now_racks
  part_made written s ne (inl r) = inl (inl (record { why = r.why; is = r.is; named = r.named; unwritten = refl; disks = r.disks; judged = r.judged; still = r.still }))
  part_made written s ne (inr p) = inl (inr (record { blank = p.blank; named = p.named; ends = performed_part written s ne p }))

  summed_ends : (written now_written : List ℕ) (t : Status) (p : IsPerformed (noted before after) tells files counts plan status.Done racks now_racks) →
      SummaryEnds t sink_tells plan.lines p.ends.replies written now_written → MakeEnds t sink_tells tells files counts plan written now_written racks now_racks
  summed_ends written now_written status.Done p s = record { ends = record { replies = p.ends.replies; wrote = s; went = p.ends.went; spared = p.ends.spared }; agree = p.agree; quiet = p.quiet }
  summed_ends written now_written status.WriteFault p s = record { ends = record { replies = p.ends.replies; wrote = s; went = p.ends.went; spared = p.ends.spared }; agree = p.agree; quiet = p.quiet }
  summed_ends written now_written status.NoMemory p s = inr (record { ends = record { replies = p.ends.replies; wrote = s; went = p.ends.went; spared = p.ends.spared }; agree = p.agree; quiet = p.quiet })
  summed_ends written now_written status.BadWords p s = s
  summed_ends written now_written (status.BadPlan line why) p s = s
  summed_ends written now_written status.ReadFault p s = s
  summed_ends written now_written (status.NotBlank node disk) p s = s
  summed_ends written now_written status.TooLong p s = s
  summed_ends written now_written (status.StoppedEarly node disk) p s = s
  summed_ends written now_written _ p s = absurd s

  -- no disk failed
  sum_names : (written now_written : List ℕ) (t : Status) (lines : List Line) (replies : List Reply) → SummaryEnds t sink_tells lines replies written now_written → NamesUsedDisk plan.layout t
  sum_names written now_written status.Done lines replies s = tt
  sum_names written now_written status.WriteFault lines replies s = tt
  sum_names written now_written status.NoMemory lines replies s = tt
  sum_names written now_written status.BadWords lines replies s = tt
  sum_names written now_written (status.BadPlan line why) lines replies s = tt
  sum_names written now_written status.ReadFault lines replies s = tt
  sum_names written now_written status.TooLong lines replies s = tt
  sum_names written now_written _ lines replies s = absurd s

  -- the plan was performed to its end
  pub all_made : (written now_written : List ℕ) (t : Status) → Tallies [] [] before →
      IsRefused (noted before after) tells files counts plan.layout status.Done racks now_racks ⊎ IsPerformed (noted before after) tells files counts plan status.Done racks now_racks →
      ((lines : List Line) (replies : List Reply) → Tallies lines replies after → SummaryEnds t sink_tells lines replies written now_written) →
      MakesPlan sink_tells tells files counts plan t written now_written racks now_racks
  all_made written now_written t fresh (inl r) wrote = absurd (no_done r.why r.is)
  all_made written now_written t fresh (inr p) wrote = let s = wrote plan.lines p.ends.replies (p.ends.wrote [] [] fresh) in inl (inr (record { blank = p.blank; named = sum_names written now_written t plan.lines p.ends.replies s; ends = summed_ends written now_written t p s }))

-- noting touches no sink
pub no_sink : (s : Status) (n : ℕ) → SinkAfter s 0 0 → SinkAfter s n n
no_sink status.Done n h = refl
no_sink status.WriteFault n h = absurd (omega (arith, h.1 (omega arith)))
no_sink (status.DeviceFault node disk) n h = refl
no_sink status.NoMemory n h = refl
no_sink (status.Damaged node disk file at) n h = refl
no_sink status.BadWords n h = refl
no_sink (status.BadPlan line why) n h = refl
no_sink status.ReadFault n h = refl
no_sink (status.NotBlank node disk) n h = refl
no_sink status.TooLong n h = refl
no_sink (status.StoppedEarly node disk) n h = refl
