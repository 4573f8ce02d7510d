-- What a backup tells of itself, and lists that are refused.
use Rattle.std.proofs.Common.{◌≡◌, ◌≢◌, ℕ, ◌≤◌, Bool, List, [], length, take, map, refl, ap, ap₂, ◌∙◌}
use Rattle.std.specs.FinSet as set
use Rattle.rdf_types.specs.declared.records.Node.{Node}
use Rattle.rdf_types.specs.declared.records.Phase.{Phase}
use Rattle.rdf_types.specs.declared.records.Phase.TheVariants as phase
use Rattle.rdf_types.specs.declared.records.Record.{Record}
use Rattle.rdf_types.specs.declared.records.Stamped.{Stamped}
use Rattle.rdf_disk.specs.Files.{Disk}
use Rattle.rdf_disk.specs.declared.disk.Disk.{Ghosts}
use Rattle.rdf_model.specs.Contents.{Contents, nothing}
use Rattle.rdf_model.specs.Trail.{open_in}
use Rattle.rdf_model.specs.Legal.{Legal}
use Rattle.rdf_model.specs.Window.{low, part, records, open_on}
use Rattle.open_txns.specs.Noted.{all_noted, ProperAfter}
use Rattle.plan_lang.specs.declared.lines.Line.TheVariants as line
use Rattle.image_disks.specs.Values.{received, kept}
use Rattle.rdf_volume.specs.Views.{restart_of}
use Rattle.rdf_core.specs.declared.replies.NoWhy.TheVariants as no
use Rattle.rdf_core.specs.declared.replies.Reply.{Reply}
use Rattle.rdf_core.specs.declared.replies.Reply.TheVariants.{No, BackupUp}
use Rattle.rdf_core.specs.Effects.{count_u32}
use Rattle.rdf_core.specs.Layouts.{protects}
use Rattle.rdf_core.specs.Backup.{Around, kept_of, phase_of}
use Rattle.rdf_backup.specs.declared.backup.Backup.{Backup}
use Rattle.rdf_backup.specs.States.{state_of, layout_of, value_of, Serves}
use Rattle.rdf_backup.specs.Replies.{Goes}
use Rattle.rdf_backup.specs.Refusals.{IsStatus}
use Rattle.rdf_backup.proofs.RefusalLaws.{first_start, list_barred, list_beyond}
use Rattle.rdf_backup.specs.StandingLaws.{phase_by, serving_stands}
use Rattle.rdf_backup.proofs.Delivering.{refused_goes}

-- the laws that count open transactions
abbrev pub PrefixIsLegal : Type 0
PrefixIsLegal = (base : Contents) (trail : List Record) (m : ℕ) → Legal base trail → Legal base (take m trail)

abbrev pub LegalIsProper : Type 0
LegalIsProper = (base : Contents) (protects : ℕ → Bool) (trail : List Record) (start : ℕ) → Legal base trail → ProperAfter [] (part protects start trail)

abbrev pub CountOfNotes : Type 0
CountOfNotes = (notes : List Stamped) → ProperAfter [] notes → length (all_noted notes) ≡ set.len (open_in (records notes))

abbrev pub CountOfPart : Type 0
CountOfPart = (base : Contents) (protects : ℕ → Bool) (trail : List Record) (start : ℕ) → Legal base trail → start ≤ low protects trail →
    set.len (open_in (records (part protects start trail))) ≡ set.len (open_on protects trail)

-- what a backup that is up tells of itself, over any disks
module _ {D : Type 0} {d : Ghosts D} (old : Backup D d) (p : Phase) (r k gens opens : ℕ) (is_p : p ≡ (value_of old).phase) (is_r : r ≡ received (value_of old)) (is_k : k ≡ kept (value_of old)) (is_gens : gens ≡ count_u32 (length (value_of old).starts)) where
  status_is : BackupUp p r k gens opens ≡ BackupUp (phase_of (state_of 0 old).volumes) (received (value_of old)) (kept_of (state_of 0 old)) (count_u32 (length (value_of old).starts)) opens
  status_is = ap₂ (λ (x : Phase) (y : ℕ). let s : Reply = BackupUp x y k gens opens in s) (is_p ∙ phase_by (value_of old).phase (map (λ volume. restart_of volume) old.volumes.items)) is_r
      ∙ ap₂ (λ (x y : ℕ). let s : Reply = BackupUp (phase_of (state_of 0 old).volumes) (received (value_of old)) x y opens in s) (is_k ∙ first_start (value_of old).starts (state_of 0 old) refl) is_gens

  pub status_said : IsStatus (state_of 0 old) (BackupUp p r k gens opens)
  status_said = (opens, status_is)

module _ {D : Type 0} {d : Ghosts D} (files : D → Disk) (w : Around) (node : Node) (old : Backup D d) (serves : Serves files w.trail old) where
  -- as many transactions are open as the machine has
  pub open_count : PrefixIsLegal → LegalIsProper → CountOfNotes → CountOfPart → length old.txns ≡ set.len (open_on (protects (layout_of old)) (take (received (value_of old)) w.trail))
  open_count prefix proper notes part_count =
      let o = serves.over.open_ones in
      let cut = take (received (value_of old)) w.trail in
      let legal = prefix nothing w.trail (received (value_of old)) serves.over.legal in
      ap (λ (l : List (ℕ × ℕ)). length l) o.noted
      ∙ notes (part (protects (layout_of old)) o.start cut) (proper nothing (protects (layout_of old)) cut o.start legal)
      ∙ part_count nothing (protects (layout_of old)) cut o.start legal o.early

  pub status_goes : (p : Phase) (r k gens opens : ℕ) → p ≡ (value_of old).phase → r ≡ received (value_of old) → k ≡ kept (value_of old) → gens ≡ count_u32 (length (value_of old).starts) →
      opens ≡ count_u32 (set.len (open_on (protects (layout_of old)) (take (received (value_of old)) w.trail))) → Goes files w (line.Status node) (BackupUp p r k gens opens) old old
  status_goes p r k gens opens is_p is_r is_k is_gens is_opens = record {
    answers = λ stops. (
      status_is old p r k gens opens is_p is_r is_k is_gens
          ∙ ap (λ (x : ℕ). let s : Reply = BackupUp (phase_of (state_of stops old).volumes) (received (value_of old)) (kept_of (state_of stops old)) (count_u32 (length (value_of old).starts)) x in s) is_opens,
      refl,
    );
    laid = refl;
    serves = serves;
    stands = serving_stands files w.trail old serves;
  }

  -- lists that are refused

  pub taking_refused : (vol : ℕ) → (value_of old).phase ≡ phase.Taking → Goes files w (line.List node vol) (No no.Taking) old old
  taking_refused vol taking = refused_goes files w node 0 old serves (line.List node vol) old no.Taking
      (λ stops. list_barred old stops vol taking) refl refl refl

  pub volume_refused : (vol : ℕ) → (value_of old).phase ≢ phase.Taking → (layout_of old).volumes ≤ vol → Goes files w (line.List node vol) (No no.Volume) old old
  volume_refused vol still beyond = refused_goes files w node 0 old serves (line.List node vol) old no.Volume (λ stops. list_beyond old stops vol still beyond) refl refl refl
