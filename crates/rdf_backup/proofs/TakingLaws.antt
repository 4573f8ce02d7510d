-- What the redo and the undo of a takeover make of a volume.
use Rattle.std.proofs.Common.{◌≡◌, ℕ, ◌≤◌, min, Bool, true, false, List, ◌++◌, length, take, drop, Result, Ok, Err, OnOk, OnErr, IsTrue, refl, sym, ap, ◌∙◌, subst, arith, ⊎_elim}
use Rattle.std.specs.Borrow.{Bor}
use Rattle.std.proofs.lemmas.List.{length-take, take-take, take-append-drop, drop_all}
use Rattle.rdf_types.specs.declared.layout.Layout.{Layout}
use Rattle.rdf_types.specs.declared.records.Change.{Change}
use Rattle.rdf_types.specs.declared.records.Record.{Record}
use Rattle.rdf_types.specs.declared.records.Stamped.{Stamped}
use Rattle.rdf_disk.specs.Files.{Disk, Contents}
use Rattle.rdf_disk.specs.Outcomes.{Durably}
use Rattle.rdf_model.specs.Contents.{Contents as Values, nothing}
use Rattle.rdf_model.specs.Trail.{raw, committed}
use Rattle.rdf_model.specs.Legal.{Legal}
use Rattle.rdf_model.specs.Volumes.{Rows, AreOn, shown}
use Rattle.rdf_model.specs.Window.{low, part, Fits}
use Rattle.rdf_model.specs.RedoLaws.{raw-local, fits_running, fits_longer}
use Rattle.rdf_model.specs.LowLaws.{low_within}
use Rattle.rdf_model.specs.LegalLaws.{prefix_is_legal}
use Rattle.rdf_volume.specs.Changes.{changed}
use Rattle.rdf_volume.specs.Standing.{StandsFor}
use Rattle.rdf_types.specs.Entries.{since}
use Rattle.updaters.specs.Applied.{applied, StandsApplied}
use Rattle.takeover_undo.specs.Undo.{IsUndo, Ended, lent}
use Rattle.takeover_undo.specs.Undone.{StandsPartly, StandsUndone}
use Rattle.rdf_core.specs.SoundLaws.{at_or_below}
use Rattle.rdf_core.specs.Layouts.{protects}
use Rattle.rdf_core.specs.Backup.{Backup as State, Volumes, Running, Taking, Taken, kept_of}
use Rattle.rdf_core.specs.Sound.{AreSound, IsSound}
use Rattle.rdf_backup.specs.declared.audit.KeptAudit.{KeptAudit}
use Rattle.rdf_backup.specs.Standing.{IsProtected, IsShownIf, IsShown, VolumeStandsFor}
use Rattle.rdf_backup.specs.Taking.{IsKeptBy, entries_of, taking, taken}

-- the undo of what is lent, where the set of the transactions with an outcome is right
pub undo_lent : (audit : KeptAudit) (vol : ℕ) (part : List (Bor Stamped)) → part ≡ audit.part.items → (changes : List Change) → (Ended audit.ended (lent part) → IsUndo vol (lent part) changes) → Ended audit.ended (entries_of audit) → IsUndo vol (entries_of audit) changes
undo_lent audit vol part is changes undo ended = subst (λ l. Ended audit.ended (lent l) → IsUndo vol (lent l) changes) is undo ended

-- the laws of updaters and of the undo
abbrev pub AppliedFits : Type 0
AppliedFits = (protects : ℕ → Bool) (vol : ℕ) (trail : List Record) (start p q : ℕ) (rows : Rows) → IsTrue (protects vol) → start ≤ p → p ≤ q → q ≤ length trail →
    Fits vol trail p (shown rows) → Fits vol trail q (shown (applied vol (since p (part protects start trail)) q rows))

abbrev pub UndoneShows : Type 0
UndoneShows = (protects : ℕ → Bool) (vol : ℕ) (trail : List Record) (start : ℕ) (rows : Rows) (changes : List Change) → IsTrue (protects vol) → Legal nothing trail → start ≤ low protects trail →
    IsUndo vol (part protects start trail) changes → AreOn vol (raw nothing trail) rows → AreOn vol (committed nothing trail) (changed rows changes)

abbrev pub UndoKeepsFit : Type 0
UndoKeepsFit = (protects : ℕ → Bool) (vol : ℕ) (trail : List Record) (start : ℕ) (rows : Rows) (changes : List Change) (count : ℕ) → IsTrue (protects vol) → Legal nothing trail → start ≤ low protects trail →
    IsUndo vol (part protects start trail) changes → AreOn vol (raw nothing trail) rows → Fits vol trail (low protects trail) (shown (changed rows (take count changes)))

pub on_err_so : {T E : Type 0} (r : Result T E) (P Q : Type 0) → OnErr r P → (P → Q) → OnErr r Q
on_err_so (Ok x) P Q h f = tt
on_err_so (Err e) P Q h f = f h

pub on_ok_both : {T E : Type 0} (r : Result T E) (P Q R : Type 0) → OnOk r P → OnOk r Q → (P → Q → R) → OnOk r R
on_ok_both (Ok x) P Q R h g f = f h g
on_ok_both (Err e) P Q R h g f = tt

-- what shows the same on the volume fits the same
fits_same : (vol : ℕ) (trail : List Record) (p : ℕ) (files : Values) (rows : Rows) → AreOn vol files rows → Fits vol trail p files → Fits vol trail p (shown rows)
fits_same vol trail p files rows on h q there = raw-local (shown rows) files q (drop p trail) (on q there) ∙ h q there

-- what a protected volume has to show is what it shows
pub shows_protected : (layout : Layout) (trail : List Record) (x : State) (v : ℕ) (rows : Rows) (at : ℕ) → protects layout v ≡ true → IsProtected layout trail x x.volumes v rows at → IsShown layout trail x v rows at
shows_protected layout trail x v rows at on h = subst (λ p. IsShownIf p layout trail x v rows at) (sym on) h

pub protected_shown : (layout : Layout) (trail : List Record) (x : State) (v : ℕ) (rows : Rows) (at : ℕ) → protects layout v ≡ true → IsShown layout trail x v rows at → IsProtected layout trail x x.volumes v rows at
protected_shown layout trail x v rows at on h = subst (λ p. IsShownIf p layout trail x v rows at) on h

-- a volume that shows what is committed fits from the low position on
abbrev pub FitsTaken : Type 0
FitsTaken = (protects : ℕ → Bool) (vol : ℕ) (trail : List Record) → IsTrue (protects vol) → Legal nothing trail → Fits vol trail (low protects trail) (committed nothing trail)

module _ (layout : Layout) (trail : List Record) (b : State) where
  abbrev cut : List Record
  cut = take b.received trail

  cut_length : b.received ≤ length trail → length cut ≡ b.received
  cut_length within = omega (arith, within, length-take b.received trail)

  -- in each phase redo from the restart point reaches all that was received
  may_take : FitsTaken → Legal nothing trail → IsSound layout trail b → (v : ℕ) (rows : Rows) (at : ℕ) (vs : Volumes) → protects layout v ≡ true → AreSound layout trail b.received (kept_of b) vs →
      IsProtected layout trail b vs v rows at → IsProtected layout trail b Taking v rows at
  may_take law legal sound v rows at (Running points) on s h =
      let high : at ≤ b.received = subst (λ n. n ≤ b.received) (sym h.0) (s.high v on) in
      let same : take at cut ≡ take at trail = take-take at b.received trail high in (
        subst (λ n. kept_of b ≤ n) (sym h.0) (s.low v on),
        high,
        fits_same v cut at (raw nothing (take at trail)) rows h.1 (subst (λ t. Fits v cut at (raw nothing t)) same (fits_running v cut at)),
      )
  may_take law legal sound v rows at Taking on s h = h
  may_take law legal sound v rows at (Taken upto) on s h =
      let early = take upto trail in
      let same : take upto cut ≡ early = take-take upto b.received trail s.0 in
      let whole : early ++ drop upto cut ≡ cut = ap (λ t. t ++ drop upto cut) (sym same) ∙ take-append-drop upto cut in
      let short : at ≤ length early = subst (λ n. n ≤ length early) (sym h.0) (low_within (protects layout) early) in
      let fits : Fits v early at (committed nothing early) = subst (λ n. Fits v early n (committed nothing early)) (sym h.0) (law (protects layout) v early on (prefix_is_legal nothing trail upto legal)) in (
        subst (λ n. kept_of b ≤ n) (sym h.0) (s.1 v on),
        below at (length early) upto b.received short s.0 (length-take upto trail),
        subst (λ t. Fits v t at (shown rows)) whole (fits_longer v early (drop upto cut) at (shown rows) short (fits_same v early at (committed nothing early) rows h.1 fits)),
      )
    where
      below : (a c m r : ℕ) → a ≤ c → m ≤ r → c ≡ min m (length trail) → a ≤ r
      below a c m r h g e = omega (arith, h, g, e)

  pub may_be_taken : FitsTaken → Legal nothing trail → IsSound layout trail b → (v : ℕ) (rows : Rows) (at : ℕ) → IsShown layout trail b v rows at → IsShown layout trail (taking b) v rows at
  may_be_taken law legal sound v rows at h = by_case (protects layout v) refl h
    where
      by_case : (p : Bool) → protects layout v ≡ p → IsShownIf p layout trail b v rows at → IsShownIf p layout trail (taking b) v rows at
      by_case true on g = may_take law legal sound v rows at b.volumes on sound.volumes g
      by_case false off g = g

  module _ (audit : KeptAudit) (is : IsKeptBy layout trail b audit) (v : ℕ) (on : protects layout v ≡ true) where
    -- some of the redo is done
    redone : AppliedFits → (rows : Rows) (at q : ℕ) → IsProtected layout trail b Taking v rows at → at ≤ q → q ≤ b.received → IsProtected layout trail b Taking v (applied v (since at (entries_of audit)) q rows) q
    redone law rows at q h behind within = (
      at_or_below (kept_of b) at q h.0 behind,
      within,
      subst (λ l. Fits v cut q (shown (applied v (since at l) q rows))) (sym is.part)
          (law (protects layout) v cut (kept_of b) at q rows on h.0 behind (subst (λ n. q ≤ n) (sym (cut_length is.within)) within) h.2),
    )

    -- all of it is done
    shows_all : (rows : Rows) → IsProtected layout trail b Taking v rows b.received → AreOn v (raw nothing cut) rows
    shows_all rows h q there = sym (ap (λ xs. raw (shown rows) xs q) (drop_all b.received cut (omega (arith, cut_length is.within)))) ∙ h.2 q there

    undo_is : (changes : List Change) → IsUndo v (entries_of audit) changes → IsUndo v (part (protects layout) (kept_of b) cut) changes
    undo_is changes u = subst (λ l. IsUndo v l changes) is.part u

    -- the undo is done
    undone : UndoneShows → (rows : Rows) (changes : List Change) → IsProtected layout trail b Taking v rows b.received → IsUndo v (entries_of audit) changes → IsProtected layout trail b (Taken b.received) v (changed rows changes) audit.low
    undone law rows changes h u = (is.low, law (protects layout) v cut (kept_of b) rows changes on is.legal is.early (undo_is changes u) (shows_all rows h))

    low_high : audit.low ≤ b.received
    low_high = subst (λ n. n ≤ b.received) (sym is.low) (at_or_below (low (protects layout) cut) (length cut) b.received (low_within (protects layout) cut) (omega (arith, cut_length is.within)))

    -- some of the undo is done
    half_undone : UndoKeepsFit → (rows : Rows) (changes : List Change) (count : ℕ) → IsProtected layout trail b Taking v rows b.received → IsUndo v (entries_of audit) changes → IsProtected layout trail b Taking v (changed rows (take count changes)) audit.low
    half_undone law rows changes count h u = (
      subst (λ n. kept_of b ≤ n) (sym is.low) is.early,
      low_high,
      subst (λ n. Fits v cut n (shown (changed rows (take count changes)))) (sym is.low)
          (law (protects layout) v cut (kept_of b) rows changes count on is.legal is.early (undo_is changes u) (shows_all rows h)),
    )

    -- what a volume that is taken over shows fits, too
    pub taken_fits : FitsTaken → (rows : Rows) (at : ℕ) → IsProtected layout trail b (Taken b.received) v rows at → IsProtected layout trail b Taking v rows at
    taken_fits law rows at h = (
      subst (λ n. kept_of b ≤ n) (sym h.0) is.early,
      subst (λ n. n ≤ b.received) (is.low ∙ sym h.0) low_high,
      subst (λ n. Fits v cut n (shown rows)) (sym h.0) (fits_same v cut (low (protects layout) cut) (committed nothing cut) rows h.1 (law (protects layout) v cut on is.legal)),
    )

    stands : (rows : Rows) (at : ℕ) (c : Contents) → IsProtected layout trail b Taking v rows at → StandsFor rows at c → VolumeStandsFor layout trail (taking b) v c
    stands rows at c h s = record { rows = rows; at = at; shows = shows_protected layout trail (taking b) v rows at on h; stands = s }

    module _ (rows : Rows) (at : ℕ) (h : IsShown layout trail (taking b) v rows at) where
      first : IsProtected layout trail b Taking v rows at
      first = protected_shown layout trail (taking b) v rows at on h

      pub left_before : (disk : Disk) → Durably disk (StandsFor rows at) → Durably disk (VolumeStandsFor layout trail (taking b) v)
      left_before disk g c may = stands rows at c first (g c may)

      pub left_redo : AppliedFits → (disk : Disk) → Durably disk (StandsApplied v (since at (entries_of audit)) at audit.upto rows) → Durably disk (VolumeStandsFor layout trail (taking b) v)
      left_redo law disk g c may =
          let some = g c may in
          stands (applied v (since at (entries_of audit)) some.reached rows) some.reached c
          (redone law rows at some.reached first some.behind (subst (λ n. some.reached ≤ n) is.upto some.within)) some.stands

      module _ (law : AppliedFits) (now : Rows) (point : ℕ) (is_now : now ≡ applied v (since at (entries_of audit)) audit.upto rows) (is_point : point ≡ audit.upto) where
        all_redone : IsProtected layout trail b Taking v now b.received
        all_redone = subst (λ r. IsProtected layout trail b Taking v r b.received) (sym is_now)
            (subst (λ n. IsProtected layout trail b Taking v (applied v (since at (entries_of audit)) n rows) b.received) (sym is.upto) (redone law rows at b.received first first.1 (omega arith)))

        redone_now : IsProtected layout trail b Taking v now point
        redone_now = subst (λ n. IsProtected layout trail b Taking v now n) (sym (is_point ∙ is.upto)) all_redone

        pub left_redone : (disk : Disk) → Durably disk (StandsFor now point) → Durably disk (VolumeStandsFor layout trail (taking b) v)
        left_redone disk g c may = stands now point c redone_now (g c may)

        pub left_undo : UndoKeepsFit → (changes : List Change) → IsUndo v (entries_of audit) changes → (disk : Disk) → Durably disk (StandsUndone now point changes audit.low) → Durably disk (VolumeStandsFor layout trail (taking b) v)
        left_undo keeps changes u disk g c may =
            ⊎_elim (λ (s : StandsFor now point c). stands now point c redone_now s)
            (λ (s : StandsPartly now changes audit.low c). stands (changed now (take s.count changes)) audit.low c (half_undone keeps now changes s.count all_redone u) s.stands) (g c may)

        pub taken_now : UndoneShows → (changes : List Change) → IsUndo v (entries_of audit) changes → (last : Rows) (end : ℕ) → last ≡ changed now changes → end ≡ audit.low → IsShown layout trail (taken b) v last end
        taken_now shows changes u last end is_last is_end =
            subst (λ r. IsShown layout trail (taken b) v r end) (sym is_last) (subst (λ n. IsShown layout trail (taken b) v (changed now changes) n) (sym is_end)
            (shows_protected layout trail (taken b) v (changed now changes) audit.low on (undone shows now changes all_redone u)))
