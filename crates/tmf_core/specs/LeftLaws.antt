-- Laws of what a call left of a store.
use Rattle.std.proofs.Common.{◌≡◌, ℕ, zero, ◌+◌, List, [], ◌++◌, length, take, IfSome, sym, ap, ◌∙◌, subst, arith, length-append, append_assoc, append-nil}
use Rattle.std.specs.Prelude.{slice_get}
use Rattle.std.specs.List.{AllByRecursion}
use Rattle.std.proofs.lemmas.List.{take-append-le, append_cancel_left}
use Rattle.std.proofs.lemmas.Option.{IfSome_then}
use Rattle.std.proofs.Math.Seq.{take-append-add}
use Rattle.rdf_types.specs.declared.records.Record.{Record}
use Rattle.rdf_disk.specs.Files.{Disk, Contents}
use Rattle.rdf_disk.specs.Outcomes.{Durably}
use Rattle.rdf_codec.specs.Spelling.{IsRecord}
use Rattle.rdf_gatelog.specs.Log.{IsAtRest}
use Rattle.audit_trail.specs.InUse.{disk_of as trail_disk}
use Rattle.audit_trail.specs.Spelled.{spellings, Spells, IsAlone}
use Rattle.rdf_volume.specs.declared.volume.Volume.{Volume}
use Rattle.rdf_volume.specs.Standing.{StandsFor}
use Rattle.rdf_volume.specs.Views.{rows_of, restart_of, disk_of, InUse}
use Rattle.tmf_core.specs.declared.store.Store.{Store}
use Rattle.tmf_core.specs.Stores.{trail_in, Shows, Stored, SpellsSome, StandsWithin, Left}

-- the law of the trail's disk: one at rest durably spells its trail
abbrev pub LawSpells : Type 0
LawSpells = (end : ℕ) (trail : List Record) (disk : Disk) → IsAtRest 0 end (spellings trail) disk → AllByRecursion IsRecord trail → IsAlone disk → Durably disk (Spells trail)

-- the law of a volume's disk: one in use durably stands for its rows and its restart point
abbrev pub LawStands : {D : Type 0} → (D → Disk) → Type 0
LawStands {D = D} files = (v : Volume D) → InUse files v → Durably (files (disk_of v)) (StandsFor (rows_of v) (restart_of v))

module _ {D : Type 0} (files : D → Disk) (spells : LawSpells) (stands : LawStands files) where
  -- a volume in use durably stands for what stood after the records below its restart point
  pub volume_stands : (trail : List Record) (v : ℕ) (volume : Volume D) → Shows files trail v volume → Durably (files (disk_of volume)) (StandsWithin v trail)
  volume_stands trail v volume s = λ c may.
      (restart_of volume, (rows_of volume, (s.behind, s.stood, stands volume s.in_use c may)))

  -- so does each volume of a store
  pub volumes_stand : (s : Store D) → Stored files s → (v : ℕ) → IfSome (slice_get s.volumes.items v) (λ volume. Durably (files (disk_of volume)) (StandsWithin v (trail_in s ++ [])))
  volumes_stand s h v = IfSome_then (slice_get s.volumes.items v) {P = λ volume. Shows files (trail_in s) v volume} {Q = λ volume. Durably (files (disk_of volume)) (StandsWithin v (trail_in s ++ []))} (h.volume v)
      (λ volume shows. subst (λ t. Durably (files (disk_of volume)) (StandsWithin v t)) (sym (append-nil (trail_in s))) (volume_stands (trail_in s) v volume shows))

  -- a store where nothing was done yet is what such a call leaves
  pub left_now : (s : Store D) → Stored files s → (more : List Record) → Left files (trail_in s) more s
  left_now s h more = record {
    kept = zero;
    few = omega arith;
    spells = λ c may. (zero, (omega arith, omega arith, subst (λ t. Spells t c) (sym (append-nil (trail_in s))) (spells s.trail.log.end (trail_in s) (files (trail_disk s.trail)) h.in_use.log h.in_use.records h.alone c may)));
    volume = volumes_stand s h;
  }

  -- and so is the same store
  pub left_store : (s new : Store D) → Stored files s → (more : List Record) → new ≡ s → Left files (trail_in s) more new
  left_store s new h more same = subst (λ (n : Store D). Left files (trail_in s) more n) (sym same) (left_now s h more)

module _ {D : Type 0} (files : D → Disk) (s : Store D) (trail : List Record) where
  -- more records were to come
  pub left_more : (done rest : List Record) → Left files trail done s → Left files trail (done ++ rest) s
  left_more done rest h = record {
    kept = h.kept;
    few = let len = length-append done rest in omega (arith, len, h.few);
    spells = λ c may. longer c (h.spells c may);
    volume = subst (λ (l : List Record). (v : ℕ) → IfSome (slice_get s.volumes.items v) (λ volume. Durably (files (disk_of volume)) (StandsWithin v (trail ++ l)))) (sym (take-append-le h.kept done rest h.few)) h.volume;
  }
    where
      longer : (c : Contents) → SpellsSome trail done h.kept c → SpellsSome trail (done ++ rest) h.kept c
      longer c (k, (least, most, spelled)) =
          let len = length-append done rest in
          (k, (least, omega (arith, len, most), subst (λ (l : List Record). Spells (trail ++ l) c) (sym (take-append-le k done rest most)) spelled))

  -- these records had come before
  pub left_behind : (done more : List Record) → Left files (trail ++ done) more s → Left files trail (done ++ more) s
  left_behind done more h = record {
    kept = length done + h.kept;
    few = let len = length-append done more in omega (arith, len, h.few);
    spells = λ c may. longer c (h.spells c may);
    volume = subst (λ (l : List Record). (v : ℕ) → IfSome (slice_get s.volumes.items v) (λ volume. Durably (files (disk_of volume)) (StandsWithin v l))) (same h.kept) h.volume;
  }
    where
      same : (k : ℕ) → (trail ++ done) ++ take k more ≡ trail ++ take (length done + k) (done ++ more)
      same k = append_assoc trail done (take k more) ∙ ap (λ (l : List Record). trail ++ l) (sym (take-append-add done more k))

      longer : (c : Contents) → SpellsSome (trail ++ done) more h.kept c → SpellsSome trail (done ++ more) (length done + h.kept) c
      longer c (k, (least, most, spelled)) =
          let len = length-append done more in
          (length done + k, (omega (arith, least), omega (arith, len, most), subst (λ (l : List Record). Spells l c) (same k) spelled))

-- a call left some of the records that it was to add; others had come before, and more were to come
pub left_within : {D : Type 0} (files : D → Disk) (s : Store D) (trail now done more rest whole all : List Record) → now ≡ trail ++ done → whole ≡ now ++ more → all ≡ whole ++ rest → Left files now more s →
    (records : List Record) → all ≡ trail ++ records → Left files trail records s
left_within files s trail now done more rest whole all now_is whole_is all_is h records records_are =
    subst (λ (l : List Record). Left files trail l s) (append_cancel_left trail ((done ++ more) ++ rest) records (sym spelled ∙ records_are))
    (left_more files s trail (done ++ more) rest (left_behind files s trail done more (subst (λ (l : List Record). Left files l more s) now_is h)))
  where
    spelled : all ≡ trail ++ ((done ++ more) ++ rest)
    spelled =
        all_is ∙ ap (λ (l : List Record). l ++ rest) (whole_is ∙ ap (λ (l : List Record). l ++ more) now_is ∙ append_assoc trail done more) ∙ append_assoc trail (done ++ more) rest
