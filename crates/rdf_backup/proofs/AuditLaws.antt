-- What is kept of the audit: whether its positions rise, its end and its low position.
use Rattle.std.proofs.Common.{◌≡◌, ℕ, ◌-◌, ◌<◌, ◌≤◌, Bool, List, [], length, take, refl, sym, ap, ◌∙◌, subst, arith}
use Rattle.std.proofs.lemmas.List.{length-take, take_all}
use Rattle.rdf_types.specs.declared.layout.Layout.{Layout}
use Rattle.rdf_types.specs.declared.records.Record.{Record}
use Rattle.rdf_types.specs.declared.records.Stamped.{Stamped}
use Rattle.rdf_disk.specs.Files.{Disk}
use Rattle.rdf_disk.specs.declared.disk.Disk.{Ghosts}
use Rattle.rdf_model.specs.Contents.{Contents, nothing}
use Rattle.rdf_model.specs.Legal.{Legal}
use Rattle.rdf_model.specs.Window.{low, part, low_from}
use Rattle.rdf_model.specs.LowLaws.{low_within}
use Rattle.open_txns.specs.Noted.{all_noted, low_of, ProperAfter}
use Rattle.image_disks.specs.Values.{Value, received, kept, merged, listed}
use Rattle.rdf_volume.specs.declared.volume.Volume.{Volume}
use Rattle.takeover_undo.specs.Undo.{Ended}
use Rattle.rdf_core.specs.Layouts.{protects}
use Rattle.rdf_core.specs.Backup.{kept_of}
use Rattle.rdf_backup.specs.declared.backup.Backup.{Backup}
use Rattle.rdf_backup.specs.declared.audit.KeptAudit.{KeptAudit}
use Rattle.rdf_backup.specs.States.{state_by, state_of, layout_of, value_of, AreOver, Serves}
use Rattle.rdf_backup.specs.Taking.{entries_of, IsKeptBy}
use Rattle.rdf_backup.proofs.PartLaws.{since_is_part}
use Rattle.rdf_backup.proofs.RefusalLaws.{first_start}
use Rattle.rdf_backup.proofs.Telling.{PrefixIsLegal, LegalIsProper}

-- a part that is shorter than its bound is whole
pub whole_part : (part all : List Stamped) (most : ℕ) → part ≡ take most all → length part < most → part ≡ all
whole_part part all most is few = is ∙ take_all most all (omega (arith, ap (λ (l : List Stamped). length l) is, length-take most all, few))

abbrev pub LowOfNotes : Type 0
LowOfNotes = (notes : List Stamped) (end : ℕ) → ProperAfter [] notes → low_of (all_noted notes) end ≡ low_from notes end

abbrev pub LowOfPart : Type 0
LowOfPart = (base : Contents) (protects : ℕ → Bool) (trail : List Record) (start : ℕ) → Legal base trail → start ≤ low protects trail → low_from (part protects start trail) (length trail) ≡ low protects trail

-- by what the image trails tell
module _ {D : Type 0} (layout : Layout) (trail : List Record) (v : Value) (volumes : List (Volume D)) (opens : List (ℕ × ℕ)) (over : AreOver layout trail v volumes opens) where
  abbrev cut : List Record
  cut = take (received v) trail

  kept_in : kept v ≡ kept_of (state_by 0 v volumes)
  kept_in = first_start v.starts (state_by 0 v volumes) refl

  cut_length : length cut ≡ received v
  cut_length = omega (arith, length-take (received v) trail, (over.sound 0).within)

  at_most : (a b c e : ℕ) → a ≤ b → b ≤ c → c ≡ e → a ≤ e
  at_most a b c e h g i = omega (arith, h, g, i)

  early : kept v ≤ received v
  early = subst (λ n. n ≤ received v) (sym kept_in)
      (at_most (kept_of (state_by 0 v volumes)) (low (protects layout) cut) (length cut) (received v) (over.sound 0).low (low_within (protects layout) cut) cut_length)

  -- the low position of the open transactions is the trail's
  low_in : PrefixIsLegal → LegalIsProper → LowOfNotes → LowOfPart → low_of opens (received v) ≡ low (protects layout) cut
  low_in prefix proper notes of_part =
      let o = over.open_ones in
      let legal = prefix nothing trail (received v) over.legal in
      ap (λ (l : List (ℕ × ℕ)). low_of l (received v)) o.noted
      ∙ notes (part (protects layout) o.start cut) (received v) (proper nothing (protects layout) cut o.start legal)
      ∙ ap (λ n. low_from (part (protects layout) o.start cut) n) (sym cut_length)
      ∙ of_part nothing (protects layout) cut o.start legal o.early

  pub audit_is : PrefixIsLegal → LegalIsProper → LowOfNotes → LowOfPart → (audit : KeptAudit) → (from : ℕ) → from ≡ kept v → entries_of audit ≡ listed (merged v) from (received v - from) → Ended audit.ended (entries_of audit) →
      audit.upto ≡ received v → audit.low ≡ low_of opens (received v) → IsKeptBy layout trail (state_by 0 v volumes) audit
  audit_is prefix proper notes of_part audit from is_kept entries ended upto is_low = record {
    legal = prefix nothing trail (received v) over.legal;
    within = (over.sound 0).within;
    early = (over.sound 0).low;
    part = entries ∙ ap (λ k. listed (merged v) k (received v - k)) is_kept ∙ since_is_part layout trail v (kept v) over.holds (omega arith) early ∙ ap (λ k. part (protects layout) k cut) kept_in;
    ended = ended;
    upto = upto;
    low = is_low ∙ low_in prefix proper notes of_part;
  }

module _ {D : Type 0} {d : Ghosts D} (files : D → Disk) (trail : List Record) (old : Backup D d) (serves : Serves files trail old) where
  pub kept_same : kept (value_of old) ≡ kept_of (state_of 0 old)
  kept_same = kept_in (layout_of old) trail (value_of old) old.volumes.items old.txns serves.over

  -- what is kept from a position on is the trail's part
  pub since_entries : (entries : List Stamped) (from : ℕ) → entries ≡ listed (merged (value_of old)) from (received (value_of old) - from) → kept (value_of old) ≤ from → from ≤ received (value_of old) →
      entries ≡ part (protects (layout_of old)) from (take (received (value_of old)) trail)
  since_entries entries from is low order = is ∙ since_is_part (layout_of old) trail (value_of old) from serves.over.holds low order

  pub kept_early : kept (value_of old) ≤ received (value_of old)
  kept_early = early (layout_of old) trail (value_of old) old.volumes.items old.txns serves.over

  pub low_is : PrefixIsLegal → LegalIsProper → LowOfNotes → LowOfPart → low_of old.txns (received (value_of old)) ≡ low (protects (layout_of old)) (take (received (value_of old)) trail)
  low_is prefix proper notes of_part = low_in (layout_of old) trail (value_of old) old.volumes.items old.txns serves.over prefix proper notes of_part
