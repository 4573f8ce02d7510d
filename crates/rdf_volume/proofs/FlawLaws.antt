-- What stands for something has no flaw.
use Rattle.std.proofs.Common.{◌≡◌, ◌≢◌, inl, inr, ⊎_elim, ℕ, ◌+◌, ◌≤◌, true, false, List, [], ◌∷◌, ◌++◌, Option, Some, None, append_assoc, refl, sym, ◌∙◌, ap, arith}
use Rattle.std.proofs.lemmas.Bool.{cases_eq}
use Rattle.rdf_disk.specs.Files.{Contents}
use Rattle.rdf_gatelog.specs.Log.{IsLogFile, IsDamaged}
use Rattle.rdf_gatelog.specs.LogLaws.{log_not_damaged}
use Rattle.rdf_model.specs.Volumes.{Rows}
use Rattle.rdf_gatelog.specs.Logs.{Logs, IsLogOf, Reads}
use Rattle.rdf_gatelog.specs.RestLaws.{no_log_no_file}
use Rattle.rdf_volume.specs.Flaws.{IsFlaw, IsFirstMisplaced}
use Rattle.rdf_volume.specs.Stages.{Stage, Building, Complete, Misplaced, stage_after, unread, stage_of, stage_at, is_building, is_complete, is_misplaced}
use Rattle.rdf_volume.specs.Standing.{IsStanding, StandsFor}
use Rattle.rdf_volume.proofs.AlikeLaws.{log_is}
use Rattle.rdf_volume.proofs.StageLaws.{stage_of-append, stays_misplaced}

-- behind a block that isn't in its place nothing is
lost : (before : List (List ℕ)) (s : Stage) (ps : List (List ℕ)) → is_misplaced s ≡ true → is_misplaced (stage_after before s ps) ≡ true
lost before (Building so_far) ps m = cc
lost before (Complete rows restart batches) ps m = cc
lost before Misplaced ps m = ap is_misplaced (stays_misplaced before ps)

first_loses : (ps : List (List ℕ)) (at : ℕ) → IsFirstMisplaced ps at → is_misplaced (stage_of ps) ≡ true
first_loses ps at f =
    ap (λ (l : List (List ℕ)). is_misplaced (stage_of l)) (f.payloads_are ∙ sym (append_assoc f.before (f.payload ∷ []) f.behind))
    ∙ ap is_misplaced (stage_of-append (f.before ++ f.payload ∷ []) f.behind)
    ∙ lost (f.before ++ f.payload ∷ []) (stage_of (f.before ++ f.payload ∷ [])) f.behind f.no_further

module _ (c : Contents) (logs : Logs) (reads : Reads logs c) (file : ℕ) (rows : Rows) (restart batches : ℕ) (st : IsStanding logs file rows restart batches) where
  -- each block of each file is in its place
  all_in_place : (m : ℕ) → is_misplaced (stage_at (logs m)) ≡ false
  all_in_place m = elim (cases_eq m file) [
    | inl same ↦ ap (λ (k : ℕ). is_misplaced (stage_at (logs k))) same ∙ ap is_misplaced st.this
    | inr apart ↦ elim (cases_eq m st.other) [
      | inl same ↦ ap (λ (k : ℕ). is_misplaced (stage_at (logs k))) same ∙ ⊎_elim
          (λ (b : (st.other ≡ file + 1) × (is_building (stage_at (logs st.other)) ≡ true)). building (stage_at (logs st.other)) b.1)
          (λ (b : (file ≡ st.other + 1) × (is_misplaced (stage_at (logs st.other)) ≡ false)). b.1)
          st.beside
      | inr further ↦ ap (λ (x : Option (List (List ℕ))). is_misplaced (stage_at x)) (st.alone m apart further)
    ]
  ]
    where
      building : (s : Stage) → is_building s ≡ true → is_misplaced s ≡ false
      building (Building so_far) b = refl
      building (Complete r p n) b = refl
      building Misplaced b = cc

  not_broken : (m at : ℕ) (x : Option (List (List ℕ))) → IsLogOf x (c m) → c m ≢ None → IsDamaged (c m) at → ⊥
  not_broken m at None is there damaged = there is
  not_broken m at (Some ps) is there damaged = log_not_damaged ps (c m) at is damaged

  not_misplaced : (m at : ℕ) (ps : List (List ℕ)) → IsLogFile ps (c m) → IsFirstMisplaced ps at → ⊥
  not_misplaced m at ps log first =
      let lost_here : is_misplaced (stage_of ps) ≡ true = first_loses ps at first in
      let placed : is_misplaced (stage_of ps) ≡ false = ap (λ (x : Option (List (List ℕ))). is_misplaced (stage_at x)) (sym (log_is ps (logs m) (c m) (reads m) log)) ∙ all_in_place m in
      cc

  -- the file that it stands by is one of the two highest
  is_high : (n : ℕ) → c n ≢ None → n ≤ file + 1
  is_high n there = elim (cases_eq n file) [
    | inl same ↦ omega (arith, same)
    | inr apart ↦ elim (cases_eq n st.other) [
      | inl same ↦ ⊎_elim
          (λ (b : (st.other ≡ file + 1) × (is_building (stage_at (logs st.other)) ≡ true)). let e : st.other ≡ file + 1 = b.0 in omega (arith, same, e))
          (λ (b : (file ≡ st.other + 1) × (is_misplaced (stage_at (logs st.other)) ≡ false)). let e : file ≡ st.other + 1 = b.0 in omega (arith, same, e))
          st.beside
      | inr further ↦ absurd (there (no_log_no_file (logs n) (c n) (reads n) (st.alone n apart further)))
    ]
  ]

  has_base : (x : Option (List (List ℕ))) → x ≡ logs file → IsLogOf x (c file) → ((ps : List (List ℕ)) → IsLogFile ps (c file) → is_complete (stage_of ps) ≡ false) → ⊥
  has_base None is log none = let clash : unread ≡ Complete rows restart batches = ap stage_at is ∙ st.this in cc
  has_base (Some ps) is log none =
      let complete : is_complete (stage_of ps) ≡ true = ap (λ (x : Option (List (List ℕ))). is_complete (stage_at x)) is ∙ ap is_complete st.this in
      let unfinished : is_complete (stage_of ps) ≡ false = none ps log in
      cc

  flawless : (m at : ℕ) → IsFlaw c m at → ⊥
  flawless m at (inl (there, damaged)) = not_broken m at (logs m) (reads m) there damaged
  flawless m at (inr (inl (ps, log, first))) = not_misplaced m at ps log first
  flawless m at (inr (inr none)) = has_base (logs file) refl (reads file) (λ ps log. none.none file ps is_high log)

pub no_flaw : (c : Contents) (rows : Rows) (restart file at : ℕ) → StandsFor rows restart c → IsFlaw c file at → ⊥
no_flaw c rows restart file at s flaw = flawless c s.1.1.0 s.1.1.1 s.0 rows restart s.1.0 s.1.1.2 file at flaw
