-- Notes of one record more, and what the notes of all tell.
use Rattle.std.proofs.Common.{◌≡◌, ℕ, suc, ◌+◌, ◌<◌, ◌≤◌, Bool, true, false, cond, if◌then◌else◌, List, [], ◌∷◌, ◌++◌, length, take, get_or, filter, sym, ap, ◌∙◌, subst, arith, append-nil}
use Rattle.std.specs.FinSet.{len}
use Rattle.std.proofs.lemmas.List.{take_more, length-take-le}
use Rattle.std.proofs.lemmas.List.Elements.{filter-append}
use Rattle.std.proofs.lemmas.List.Sums.{fold-append}
use Rattle.rdf_types.specs.declared.layout.Layout.{Layout}
use Rattle.rdf_types.specs.declared.records.Record.{Record}
use Rattle.rdf_types.specs.declared.records.Stamped.{Stamped}
use Rattle.rdf_model.specs.Contents.{Contents, nothing}
use Rattle.rdf_model.specs.Legal.{Legal}
use Rattle.rdf_model.specs.Trail.{open_in}
use Rattle.rdf_model.specs.Window.{concerns, stamped, part, low, low_from, open_on, records}
use Rattle.open_txns.specs.Noted.{noted, all_noted, low_of, ProperAfter}
use Rattle.rdf_core.specs.Effects.{count_u32}
use Rattle.rdf_core.specs.Layouts.{protects}
use Rattle.backup_machine.specs.declared.backup.BackupState.{BackupState}
use Rattle.backup_machine.specs.Kept.{AreNoted, Follows}

stamped_more : (at : ℕ) (xs : List Record) (r : Record) → stamped at (xs ++ r ∷ []) ≡ stamped at xs ++ record { pos = at + length xs; rec = r } ∷ []
stamped_more at [] r = ap (λ (n : ℕ). let s : Stamped = record { pos = n; rec = r } in s ∷ []) (omega arith)
stamped_more at (x ∷ xs) r =
    let first : Stamped = record { pos = at; rec = x } in
    ap (λ (l : List Stamped). first ∷ l) (stamped_more (suc at) xs r ∙ ap (λ (n : ℕ). let s : Stamped = record { pos = n; rec = r } in stamped (suc at) xs ++ s ∷ []) (omega arith))

-- the part with one record more
part_more : (protects : ℕ → Bool) (trail : List Record) (n : ℕ) (r : Record) → n < length trail → r ≡ get_or trail n r →
    part protects 0 (take (n + 1) trail) ≡ part protects 0 (take n trail) ++ cond (concerns protects r) (record { pos = n; rec = r } ∷ []) []
part_more protects trail n r within is =
    ap (λ (l : List Record). filter (λ s. concerns protects s.rec) (stamped 0 l)) (take_more trail n r within ∙ ap (λ (x : Record). take n trail ++ x ∷ []) (sym is))
    ∙ ap (filter (λ s. concerns protects s.rec)) (stamped_more 0 (take n trail) r ∙ ap (λ (m : ℕ). let s : Stamped = record { pos = m; rec = r } in stamped 0 (take n trail) ++ s ∷ []) (length_is))
    ∙ filter-append (λ s. concerns protects s.rec) (stamped 0 (take n trail)) (record { pos = n; rec = r } ∷ [])
  where
    length_is : 0 + length (take n trail) ≡ n
    length_is = omega (arith, length-take-le n trail (omega (arith, within)))

with_note : (test : Bool) (notes : List Stamped) (s : Stamped) → all_noted (notes ++ cond test (s ∷ []) []) ≡ (if test then noted (all_noted notes) s.pos s.rec else all_noted notes)
with_note true notes s = fold-append (λ os x. noted os x.pos x.rec) [] notes (s ∷ [])
with_note false notes s = ap (λ (l : List Stamped). all_noted l) (append-nil notes)

-- one record more is noted
pub noted_turn : (layout : Layout) (trail : List Record) (n : ℕ) (r : Record) (opens after : List (ℕ × ℕ)) → n < length trail → r ≡ get_or trail n r → AreNoted layout trail n opens →
    after ≡ (if concerns (protects layout) r then noted opens n r else opens) → AreNoted layout trail (n + 1) after
noted_turn layout trail n r opens after within is early now =
    now
    ∙ ap (λ (o : List (ℕ × ℕ)). if concerns (protects layout) r then noted o n r else o) early
    ∙ sym (with_note (concerns (protects layout) r) (part (protects layout) 0 (take n trail)) (record { pos = n; rec = r }))
    ∙ ap (λ (l : List Stamped). all_noted l) (sym (part_more (protects layout) trail n r within is))

abbrev pub PrefixIsLegal : Type 0
PrefixIsLegal = (base : Contents) (trail : List Record) (m : ℕ) → Legal base trail → Legal base (take m trail)

abbrev pub LegalIsProper : Type 0
LegalIsProper = (base : Contents) (protects : ℕ → Bool) (trail : List Record) (start : ℕ) → Legal base trail → ProperAfter [] (part protects start trail)

abbrev pub LowOfNotes : Type 0
LowOfNotes = (notes : List Stamped) (end : ℕ) → ProperAfter [] notes → low_of (all_noted notes) end ≡ low_from notes end

abbrev pub LowOfPart : Type 0
LowOfPart = (base : Contents) (protects : ℕ → Bool) (trail : List Record) (start : ℕ) → Legal base trail → start ≤ low protects trail → low_from (part protects start trail) (length trail) ≡ low protects trail

abbrev pub CountOfNotes : Type 0
CountOfNotes = (notes : List Stamped) → ProperAfter [] notes → length (all_noted notes) ≡ len (open_in (records notes))

abbrev pub CountOfPart : Type 0
CountOfPart = (base : Contents) (protects : ℕ → Bool) (trail : List Record) (start : ℕ) → Legal base trail → start ≤ low protects trail → len (open_in (records (part protects start trail))) ≡ len (open_on protects trail)

module _ (layout : Layout) (trail : List Record) (b : BackupState) (f : Follows layout trail b) (all : b.noted ≡ b.received) where
  abbrev arrived : List Record
  arrived = take b.received trail

  opens_are : AreNoted layout trail b.received b.opens
  opens_are = subst (λ n. AreNoted layout trail n b.opens) all f.kept.opens

  arrived_length : length arrived ≡ b.received
  arrived_length = length-take-le b.received trail f.within

  -- the low position of what is noted is that of what was received
  pub low_is : PrefixIsLegal → LegalIsProper → LowOfNotes → LowOfPart → low_of b.opens b.received ≡ low (protects layout) arrived
  low_is prefix proper notes of_part =
      let legal = prefix nothing trail b.received f.legal in
      ap (λ (o : List (ℕ × ℕ)). low_of o b.received) opens_are
      ∙ notes (part (protects layout) 0 arrived) b.received (proper nothing (protects layout) arrived 0 legal)
      ∙ ap (low_from (part (protects layout) 0 arrived)) (sym arrived_length)
      ∙ of_part nothing (protects layout) arrived 0 legal (omega arith)

  -- and so is the number of open transactions
  pub count_is : PrefixIsLegal → LegalIsProper → CountOfNotes → CountOfPart → count_u32 (length b.opens) ≡ count_u32 (len (open_on (protects layout) arrived))
  count_is prefix proper notes of_part =
      let legal = prefix nothing trail b.received f.legal in
      ap count_u32
      (ap (λ (o : List (ℕ × ℕ)). length o) opens_are
      ∙ notes (part (protects layout) 0 arrived) (proper nothing (protects layout) arrived 0 legal)
      ∙ of_part nothing (protects layout) arrived 0 legal (omega arith))
