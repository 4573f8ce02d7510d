-- Which file a volume's disk stands in, and taking it.
use Rattle.std.proofs.Common.{◌≡◌, ◌≢◌, inl, inr, ⊎_elim, ℕ, ◌+◌, ◌<◌, ◌≤◌, true, false, List, length, Option, Some, None, refl, sym, ◌∙◌, ap, subst, arith}
use Rattle.std.proofs.lemmas.Bool.{cases_eq}
use Rattle.rdf_disk.specs.SpanLaws.{outside}
use Rattle.rdf_disk.specs.Files.{Disk, settled, IsSpan}
use Rattle.rdf_disk.specs.Outcomes.{Durably, seen_of}
use Rattle.rdf_gatelog.specs.Log.{IsLogFile, open_blocks}
use Rattle.rdf_model.specs.Volumes.{Rows}
use Rattle.rdf_gatelog.specs.Logs.{Logs, Reads, ReadsEither, RestsAt, IsSettled, with_log}
use Rattle.rdf_gatelog.specs.Removal.{Discarded}
use Rattle.rdf_gatelog.specs.RestLaws.{no_file_no_log, no_log_no_file, with_same, with_other, rests_synced}
use Rattle.rdf_volume.specs.declared.table.RowTable.{RowTable}
use Rattle.rdf_volume.specs.Flaws.{HasNoBase}
use Rattle.rdf_volume.specs.InUse.{IsTable, IsTabled, counted}
use Rattle.rdf_volume.specs.Opening.{IsTaken, IsUnfinished}
use Rattle.rdf_volume.specs.Stages.{Stage, Building, Complete, Misplaced, unread, stage_of, stage_at, is_building, is_complete}
use Rattle.rdf_volume.specs.Standing.{IsStanding, StandsFor}
use Rattle.rdf_volume.specs.StandingLaws.{file_durably, stands_alone}

complete_there : (x : Option (List (List ℕ))) (rows : Rows) (restart batches : ℕ) → stage_at x ≡ Complete rows restart batches → x ≢ None
complete_there x rows restart batches is none = let clash : unread ≡ Complete rows restart batches = sym (ap stage_at none) ∙ is in cc

module _ (disk : Disk) (low newest : ℕ) (span : IsSpan disk low (newest + 1)) (logs : Logs) (reads : Reads logs (seen_of disk)) (file : ℕ) (rows : Rows) (restart batches : ℕ) (st : IsStanding logs file rows restart batches) where
  newest_there : logs newest ≢ None
  newest_there none = span.high_is newest refl (no_log_no_file (logs newest) (disk newest).seen (reads newest) none)

  file_within : file < newest + 1
  file_within = (span.within file (λ gone. complete_there (logs file) rows restart batches st.this (no_file_no_log (logs file) (disk file).seen (reads file) gone))).1

  newest_other : newest ≢ file → newest ≡ st.other
  newest_other apart = elim (cases_eq newest st.other) [
    | inl same ↦ same
    | inr other ↦ absurd (newest_there (st.alone newest apart other))
  ]

  -- the newest file is the one, if its base is complete
  pub newest_is : is_complete (stage_at (logs newest)) ≡ true → newest ≡ file
  newest_is complete = elim (cases_eq newest file) [
    | inl same ↦ same
    | inr apart ↦ (let is = newest_other apart in ⊎_elim
        (λ (b : (st.other ≡ file + 1) × (is_building (stage_at (logs st.other)) ≡ true)). absurd (not_both (stage_at (logs newest)) complete (ap (λ (m : ℕ). is_building (stage_at (logs m))) is ∙ b.1)))
        (λ (b : (file ≡ st.other + 1) × _). absurd (let e : file ≡ st.other + 1 = b.0 in omega (arith, file_within, is, e)))
        st.beside)
  ]
    where
      not_both : (s : Stage) → is_complete s ≡ true → is_building s ≡ true → ⊥
      not_both (Building so_far) c b = cc
      not_both (Complete r p n) c b = cc
      not_both Misplaced c b = cc

  pub alone_newest : newest ≡ file → (m : ℕ) → m ≢ newest → m + 1 ≢ newest → logs m ≡ None
  alone_newest is m apart further = elim (cases_eq m st.other) [
    | inl same ↦ ⊎_elim
        (λ (b : (st.other ≡ file + 1) × _). let e : st.other ≡ file + 1 = b.0 in no_file_no_log (logs m) (disk m).seen (reads m) (outside disk low (newest + 1) m span (inr (omega (arith, e, same, is)))))
        (λ (b : (file ≡ st.other + 1) × _). let e : file ≡ st.other + 1 = b.0 in absurd (further (omega (arith, e, same, is))))
        st.beside
    | inr other ↦ st.alone m (λ e. apart (e ∙ sym is)) other
  ]

  -- else it is the one before
  pub before_is : is_complete (stage_at (logs newest)) ≡ false → newest ≡ file + 1
  before_is unfinished =
      let apart : newest ≢ file = λ e. let c : is_complete (stage_at (logs newest)) ≡ true = ap (λ (m : ℕ). is_complete (stage_at (logs m))) e ∙ ap is_complete st.this in cc in
      let is = newest_other apart in
      ⊎_elim
      (λ (b : (st.other ≡ file + 1) × _). is ∙ b.0)
      (λ (b : (file ≡ st.other + 1) × _). absurd (let e : file ≡ st.other + 1 = b.0 in omega (arith, file_within, is, e)))
      st.beside

  pub alone_before : newest ≡ file + 1 → (m : ℕ) → m ≢ file → m ≢ newest → logs m ≡ None
  alone_before is m apart further =
      let behind : newest ≢ file = omega (arith, is) in
      let other : newest ≡ st.other = newest_other behind in
      st.alone m apart (λ e. further (e ∙ sym other))

-- the file is at rest with these payloads, of which the table is kept; only one other file may be there
module _ (disk new : Disk) (file other end : ℕ) (logs : Logs) (payloads : List (List ℕ)) (table : RowTable) (restart count : ℕ) (reads : Reads logs (seen_of disk)) (rests : RestsAt file (logs file) disk)
    (there : logs file ≡ Some payloads) (end_is : end ≡ length (open_blocks payloads)) (is_table : IsTable table payloads) (stage : stage_of payloads ≡ Complete table.shown.rows restart count)
    (apart : other ≢ file) (alone : (m : ℕ) → m ≢ file → m ≢ other → logs m ≡ None) where
  kept_here : with_log logs other None file ≡ logs file
  kept_here = with_other logs other None file (λ e. apart (sym e))

  this : stage_at (logs file) ≡ Complete table.shown.rows restart count
  this = ap stage_at there ∙ stage

  this_kept : stage_at (with_log logs other None file) ≡ Complete table.shown.rows restart count
  this_kept = ap stage_at kept_here ∙ this

  alone_now : (m : ℕ) → m ≢ file → with_log logs other None m ≡ None
  alone_now m away = elim (cases_eq m other) [
    | inl same ↦ ap (with_log logs other None) same ∙ with_same logs other None
    | inr further ↦ with_other logs other None m further ∙ alone m away further
  ]

  -- the other one is removed
  pub other_dropped : Discarded other disk new → IsTabled new file end table restart (counted count)
  other_dropped d = record {
    in_use = record {
      logs = with_log logs other None;
      rests = λ m. elim (cases_eq m file) [
        | inl same ↦ subst (λ (k : ℕ). RestsAt k (with_log logs other None k) new) (sym same)
            (subst (λ (x : Option (List (List ℕ))). RestsAt file x new) (sym kept_here) (rests_synced file (logs file) disk new rests (d.others file (λ e. apart (sym e)))))
        | inr away ↦ subst (λ (x : Option (List (List ℕ))). RestsAt m x new) (sym (alone_now m away)) (gone m away)
      ];
      log = record { payloads = payloads; there = kept_here ∙ there; end_is = end_is };
      number = count;
      this = this_kept;
      batches_are = refl;
      alone = alone_now;
    };
    table_is = is_table;
  }
    where
      gone : (m : ℕ) → m ≢ file → new m ≡ settled None
      gone m away = elim (cases_eq m other) [
        | inl same ↦ ap new same ∙ d.this
        | inr further ↦ d.others m further ∙ ap settled (no_log_no_file (logs m) (disk m).seen (reads m) (alone m away further))
      ]

  -- the other one isn't there
  pub no_other : IsSettled disk → logs other ≡ None → IsTabled disk file end table restart (counted count)
  no_other settled_all absent = record {
    in_use = record {
      logs = logs;
      rests = λ m. elim (cases_eq m file) [
        | inl same ↦ subst (λ (k : ℕ). RestsAt k (logs k) disk) (sym same) rests
        | inr away ↦ subst (λ (x : Option (List (List ℕ))). RestsAt m x disk) (sym (none_at m away)) (settled_all m ∙ ap settled (no_log_no_file (logs m) (disk m).seen (reads m) (none_at m away)))
      ];
      log = record { payloads = payloads; there = there; end_is = end_is };
      number = count;
      this = this;
      batches_are = refl;
      alone = none_at;
    };
    table_is = is_table;
  }
    where
      none_at : (m : ℕ) → m ≢ file → logs m ≡ None
      none_at m away = elim (cases_eq m other) [
        | inl same ↦ ap logs same ∙ absent
        | inr further ↦ alone m away further
      ]

-- the removal of another file was cut off
pub drop_leaves : (new : Disk) (file other : ℕ) (logs : Logs) (rows : Rows) (restart count : ℕ) → IsStanding logs file rows restart count → other ≢ file
    → ((m : ℕ) → m ≢ file → m ≢ other → logs m ≡ None) → Durably new (ReadsEither logs (with_log logs other None)) → Durably new (StandsFor rows restart)
drop_leaves new file other logs rows restart count st apart alone durably c may =
    let kept : stage_at (with_log logs other None file) ≡ Complete rows restart count = ap stage_at (with_other logs other None file (λ e. apart (sym e))) ∙ st.this in
    ⊎_elim
    (λ (before : Reads logs c). (file, (count, (logs, before, st))))
    (λ (after : Reads (with_log logs other None) c). (file, (count, (with_log logs other None, after, stands_alone (with_log logs other None) file rows restart count kept none_now))))
    (durably c may)
  where
    none_now : (m : ℕ) → m ≢ file → with_log logs other None m ≡ None
    none_now m away = elim (cases_eq m other) [
      | inl same ↦ ap (with_log logs other None) same ∙ with_same logs other None
      | inr further ↦ with_other logs other None m further ∙ alone m away further
    ]

-- what was taken is what the disk stood for
pub taken : (disk : Disk) (taken_file end : ℕ) (table : RowTable) (restart count file batches : ℕ) (stood : Rows) (point : ℕ) → IsTabled disk taken_file end table restart (counted count) → taken_file ≡ file
    → Complete table.shown.rows restart count ≡ Complete stood point batches → IsTaken disk taken_file end table restart count file batches stood point
taken disk taken_file end table restart count file batches stood point u file_is same = record {
  tabled = u;
  file_is = file_is;
  rows_are = cc;
  restart_is = cc;
  batches_are = cc;
}

pub taken_durably : (disk : Disk) (taken_file end : ℕ) (table : RowTable) (restart count file batches : ℕ) (stood : Rows) (point : ℕ) → IsTaken disk taken_file end table restart count file batches stood point → Durably disk (StandsFor stood point)
taken_durably disk taken_file end table restart count file batches stood point t c may =
    subst (λ (r : Rows). StandsFor r point c) t.rows_are
    (subst (λ (p : ℕ). StandsFor table.shown.rows p c) t.restart_is (file_durably disk taken_file end table.shown.rows restart (counted count) t.tabled.in_use c may))

-- neither the newest file nor the one before has a complete base
pub no_base : (disk : Disk) (low newest : ℕ) → IsUnfinished disk low newest → ((m : ℕ) (ps : List (List ℕ)) → m + 1 ≡ newest → IsLogFile ps (disk m).seen → is_complete (stage_of ps) ≡ false)
    → HasNoBase (seen_of disk) low 0
no_base disk low newest u before = record {
  none = λ m ps high log.
      let there : (disk m).seen ≢ None = λ gone. subst (IsLogFile ps) gone log in
      let below : m < newest + 1 = (u.span.within m there).1 in
      let near : newest ≤ m + 1 = high newest (u.span.high_is newest refl) in
      elim (cases_eq m newest) [
        | inl same ↦ u.stage ps (subst (λ (k : ℕ). IsLogFile ps (disk k).seen) same log)
        | inr apart ↦ before m ps (omega (arith, below, near, apart)) log
      ];
  lowest = λ m there. ((u.span.within m there).0, (u.span.low_is (omega arith)).1);
  blank = λ gone. absurd (u.span.high_is newest refl (gone newest));
  at_is = refl;
}
