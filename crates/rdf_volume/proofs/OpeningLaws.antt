-- The steps of opening a volume.
use Rattle.std.proofs.Common.{◌≡◌, ◌≢◌, ◌⊎◌, inl, inr, ⊎_elim, ℕ, ◌+◌, ◌-◌, ◌<◌, ◌≤◌, Bool, true, false, List, Option, Some, None, Result, Err, option_map, is_some, not, length, refl, sym, ◌∙◌, ap, subst, arith}
use Rattle.std.proofs.lemmas.Bool.{cases_lt}
use Rattle.rdf_disk.specs.SpanLaws.{outside}
use Rattle.rdf_disk.specs.Calls.{Same}
use Rattle.rdf_disk.specs.Files.{FileState, Disk, IsSpan}
use Rattle.rdf_disk.specs.Outcomes.{Durably, seen_of}
use Rattle.rdf_gatelog.specs.declared.fault.LogFault.{LogFault}
use Rattle.rdf_gatelog.specs.declared.fault.LogFault.TheVariants.{Damaged}
use Rattle.rdf_gatelog.specs.Log.{IsLogFile, IsDamaged}
use Rattle.rdf_gatelog.specs.LogPlace.{LogPlace}
use Rattle.rdf_gatelog.specs.LogLaws.{one_log}
use Rattle.rdf_model.specs.Volumes.{Rows}
use Rattle.rdf_gatelog.specs.Logs.{Logs, IsLogOf, Reads, ReadsEither, RestsAt, IsSettled, with_log}
use Rattle.rdf_gatelog.specs.Removal.{Discarded}
use Rattle.rdf_gatelog.specs.RestLaws.{no_file_no_log}
use Rattle.rdf_volume.specs.declared.reading.TableRead.{TableRead}
use Rattle.rdf_volume.specs.declared.reading.Reading.{Reading}
use Rattle.rdf_volume.specs.declared.reading.Reading.TheVariants as kept
use Rattle.rdf_volume.specs.Flaws.{IsFlaw, IsMisplaced}
use Rattle.rdf_volume.specs.InUse.{IsTabled, counted}
use Rattle.rdf_volume.specs.Opening.{IsLook, IsTaken, IsUnfinished}
use Rattle.rdf_volume.specs.Readings.{IsRead, IsTableRead}
use Rattle.rdf_volume.specs.Stages.{stage_of, stage_at, is_complete}
use Rattle.rdf_volume.specs.Standing.{StandsBy, StandsFor}
use Rattle.rdf_volume.proofs.AlikeLaws.{alike_same, reads_over, here_now, mounted_settled, logs_are, look_rests, look_reads}
use Rattle.rdf_volume.proofs.TakingLaws.{newest_is, alone_newest, before_is, alone_before, other_dropped, no_other, drop_leaves, taken}

-- the two name one place
pub same_damage : {T : Type 0} (f at g place : ℕ) → ◌≡◌ {A = Result T LogFault} (Err (Damaged f at)) (Err (Damaged g place)) → (f ≡ g) × (at ≡ place)
same_damage f at g place e = (cc, cc)

-- the file is there whose length was told
pub told_there : (x : Option (List ℕ)) (len : Option ℕ) (absent : Bool) → len ≡ option_map length x → is_some len ≡ not absent → absent ≡ false → x ≢ None
told_there x len absent len_is some_is told none =
    let some : is_some len ≡ true = some_is ∙ ap not told in
    let gone : is_some len ≡ false = ap is_some (len_is ∙ ap (option_map length) none) in
    cc

-- what a look found damaged is a flaw
pub look_flaw : (disk : Disk) (file f at : ℕ) → (disk file).seen ≢ None → (f ≡ file) × (IsDamaged (disk file).seen at ⊎ IsMisplaced (seen_of disk) file at) → IsFlaw (seen_of disk) f at
look_flaw disk file f at there (same, what) = subst (λ (n : ℕ). IsFlaw (seen_of disk) n at) (sym same) (⊎_elim
    (λ (broken : IsDamaged (disk file).seen at). inl (there, broken))
    (λ (misplaced : IsMisplaced (seen_of disk) file at). inr (inl misplaced))
    what)

-- the file that was looked at has no complete base
pub look_unfinished : (disk0 disk1 disk2 : Disk) (file end : ℕ) (reading : Reading) → Same disk0 disk1 → IsLook file end reading disk1 disk2
    → ((payloads : List (List ℕ)) → IsRead reading payloads → is_complete (stage_of payloads) ≡ false)
    → (m : ℕ) (ps : List (List ℕ)) → m ≡ file → IsLogFile ps (disk0 m).seen → is_complete (stage_of ps) ≡ false
look_unfinished disk0 disk1 disk2 file end reading same l none m ps here log =
    let now : IsLogFile ps (disk1 file).seen = subst (IsLogFile ps) (ap (λ (k : ℕ). (disk0 k).seen) here ∙ ap (λ (f : FileState). f.seen) (sym (same file))) log in
    ap (λ (l : List (List ℕ)). is_complete (stage_of l)) (sym (l.mounted.only ps now)) ∙ none l.payloads l.read

-- and so it is once it was mounted
pub still_unfinished : (disk1 disk2 : Disk) (file end : ℕ) (reading : Reading) → IsLook file end reading disk1 disk2
    → ((payloads : List (List ℕ)) → IsRead reading payloads → is_complete (stage_of payloads) ≡ false)
    → (ps : List (List ℕ)) → IsLogFile ps (disk2 file).seen → is_complete (stage_of ps) ≡ false
still_unfinished disk1 disk2 file end reading l none ps log =
    ap (λ (l : List (List ℕ)). is_complete (stage_of l)) (sym (one_log l.payloads ps (disk2 file).seen (here_now file end l.payloads disk1 disk2 l.mounted) log)) ∙ none l.payloads l.read

unfinished_log : (x : Option (List (List ℕ))) (c : Option (List ℕ)) → IsLogOf x c → ((ps : List (List ℕ)) → IsLogFile ps c → is_complete (stage_of ps) ≡ false) → is_complete (stage_at x) ≡ false
unfinished_log None c is h = refl
unfinished_log (Some ps) c is h = h ps is

-- a file was looked at that is the one which the disk stands by
module _ (disk0 disk1 disk2 disk3 : Disk) (found : ℕ) (place : LogPlace) (place_file : place.file ≡ found) (reading : Reading) (same : Same disk0 disk1) (l : IsLook found place.end reading disk1 disk2)
    (read : TableRead) (whole : reading ≡ kept.Complete read)
    (file batches : ℕ) (rows : Rows) (restart : ℕ) (s : StandsBy file batches rows restart (seen_of disk0)) (is : found ≡ file) where
  reads1 : Reads s.0 (seen_of disk1)
  reads1 = reads_over s.0 (seen_of disk0) (seen_of disk1) (alike_same disk0 disk1 same) s.1

  reads2 : Reads s.0 (seen_of disk2)
  reads2 = look_reads found place.end reading disk1 disk2 l s.0 reads1

  rests2 : RestsAt file (s.0 file) disk2
  rests2 = subst (λ (m : ℕ). RestsAt m (s.0 m) disk2) is (look_rests found place.end reading disk1 disk2 l s.0 reads1)

  there2 : s.0 file ≡ Some l.payloads
  there2 = ap s.0 (sym is) ∙ logs_are found place.end reading disk1 disk2 l s.0 reads1

  table2 : IsTableRead read l.payloads
  table2 = subst (λ (x : Reading). IsRead x l.payloads) whole l.read

  taken_so : (disk : Disk) → IsTabled disk file place.end read.table read.restart (counted read.batches) → IsTaken disk place.file place.end read.table read.restart read.batches file batches rows restart
  taken_so disk u = taken disk place.file place.end read.table read.restart read.batches file batches rows restart
      (subst (λ (m : ℕ). IsTabled disk m place.end read.table read.restart (counted read.batches)) (sym (place_file ∙ is)) u) (place_file ∙ is) (sym table2.stage ∙ ap stage_at (sym there2) ∙ s.2.this)

  module _ (other : ℕ) (apart : other ≢ file) (alone : (m : ℕ) → m ≢ file → m ≢ other → s.0 m ≡ None) where
    -- the other one is removed
    pub taken_dropped : Discarded other disk2 disk3 → IsTaken disk3 place.file place.end read.table read.restart read.batches file batches rows restart
    taken_dropped d = taken_so disk3
        (other_dropped disk2 disk3 file other place.end s.0 l.payloads read.table read.restart read.batches reads2 rests2 there2 l.mounted.log.end_is table2.table table2.stage apart alone d)

    -- the other one isn't there
    pub taken_alone : s.0 other ≡ None → disk3 ≡ disk2 → IsTaken disk3 place.file place.end read.table read.restart read.batches file batches rows restart
    taken_alone absent stays = subst (λ (d : Disk). IsTaken d place.file place.end read.table read.restart read.batches file batches rows restart) (sym stays)
        (taken_so disk2
        (no_other disk2 disk3 file other place.end s.0 l.payloads read.table read.restart read.batches reads2 rests2 there2 l.mounted.log.end_is table2.table table2.stage apart alone
        (mounted_settled found place.end l.payloads disk1 disk2 l.mounted) absent))

    -- the removal was cut off
    pub drop_stands : ((logs : Logs) → IsSettled disk2 → Reads logs (seen_of disk2) → Durably disk3 (ReadsEither logs (with_log logs other None))) → Durably disk3 (StandsFor rows restart)
    drop_stands removed = drop_leaves disk3 file other s.0 rows restart batches s.2 apart alone (removed s.0 (mounted_settled found place.end l.payloads disk1 disk2 l.mounted) reads2)

-- the newest file has a complete base
module _ (disk0 disk1 disk2 disk3 : Disk) (low newest : ℕ) (span : IsSpan disk0 low (newest + 1)) (place : LogPlace) (place_file : place.file ≡ newest) (reading : Reading) (same : Same disk0 disk1) (l : IsLook newest place.end reading disk1 disk2)
    (read : TableRead) (whole : reading ≡ kept.Complete read)
    (file batches : ℕ) (rows : Rows) (restart : ℕ) (s : StandsBy file batches rows restart (seen_of disk0)) where
  here : s.0 newest ≡ Some l.payloads
  here = logs_are newest place.end reading disk1 disk2 l s.0 (reads_over s.0 (seen_of disk0) (seen_of disk1) (alike_same disk0 disk1 same) s.1)

  table_here : IsTableRead read l.payloads
  table_here = subst (λ (x : Reading). IsRead x l.payloads) whole l.read

  is_newest : newest ≡ file
  is_newest = newest_is disk0 low newest span s.0 s.1 file rows restart batches s.2 (ap (λ (x : Option (List (List ℕ))). is_complete (stage_at x)) here ∙ ap is_complete table_here.stage)

  below_alone : 0 < newest → (m : ℕ) → m ≢ file → m ≢ newest - 1 → s.0 m ≡ None
  below_alone some m apart further =
      alone_newest disk0 low newest span s.0 s.1 file rows restart batches s.2 is_newest m (λ e. apart (e ∙ is_newest)) (λ e. further (omega (arith, e)))

  pub newest_taken : ((low < newest) × Discarded (newest - 1) disk2 disk3) ⊎ ((newest ≤ low) × (disk3 ≡ disk2)) → IsTaken disk3 place.file place.end read.table read.restart read.batches file batches rows restart
  newest_taken (inl (below, d)) =
      taken_dropped disk0 disk1 disk2 disk3 newest place place_file reading same l read whole file batches rows restart s is_newest
      (newest - 1) (omega (arith, below, is_newest)) (below_alone (omega (arith, below))) d
  newest_taken (inr (lowest, stays)) =
      let none : (m : ℕ) → m ≢ newest → s.0 m ≡ None = λ m apart. no_file_no_log (s.0 m) (disk0 m).seen (s.1 m) (outside disk0 low (newest + 1) m span (beyond m apart)) in
      taken_alone disk0 disk1 disk2 disk3 newest place place_file reading same l read whole file batches rows restart s is_newest
      (newest + 1) (omega (arith, is_newest)) (λ m apart _. none m (λ e. apart (e ∙ is_newest))) (none (newest + 1) (omega arith)) stays
    where
      beyond : (m : ℕ) → m ≢ newest → (m < low) ⊎ (newest + 1 ≤ m)
      beyond m apart = elim (cases_lt m newest) [
        | inl below ↦ inl (omega (arith, below, lowest))
        | inr above ↦ inr (omega (arith, above, apart))
      ]

  pub newest_stands : low < newest → ((logs : Logs) → IsSettled disk2 → Reads logs (seen_of disk2) → Durably disk3 (ReadsEither logs (with_log logs (newest - 1) None))) → Durably disk3 (StandsFor rows restart)
  newest_stands below removed =
      drop_stands disk0 disk1 disk2 disk3 newest place place_file reading same l read whole file batches rows restart s is_newest
      (newest - 1) (omega (arith, below, is_newest)) (below_alone (omega (arith, below))) removed

-- the file before the newest one has a complete base
module _ (disk0 disk1 disk2 disk3 : Disk) (low newest before : ℕ) (is_before : before + 1 ≡ newest) (u : IsUnfinished disk0 low newest) (place : LogPlace) (place_file : place.file ≡ before) (reading : Reading) (same : Same disk0 disk1) (l : IsLook before place.end reading disk1 disk2)
    (read : TableRead) (whole : reading ≡ kept.Complete read)
    (file batches : ℕ) (rows : Rows) (restart : ℕ) (s : StandsBy file batches rows restart (seen_of disk0)) where
  newest_behind : newest ≡ file + 1
  newest_behind = before_is disk0 low newest u.span s.0 s.1 file rows restart batches s.2 (unfinished_log (s.0 newest) (disk0 newest).seen (s.1 newest) u.stage)

  before_alone : (m : ℕ) → m ≢ file → m ≢ newest → s.0 m ≡ None
  before_alone m apart further = alone_before disk0 low newest u.span s.0 s.1 file rows restart batches s.2 newest_behind m apart further

  pub before_taken : Discarded newest disk2 disk3 → IsTaken disk3 place.file place.end read.table read.restart read.batches file batches rows restart
  before_taken d =
      taken_dropped disk0 disk1 disk2 disk3 before place place_file reading same l read whole file batches rows restart s (omega (arith, is_before, newest_behind))
      newest (omega (arith, newest_behind)) before_alone d

  pub before_stands : ((logs : Logs) → IsSettled disk2 → Reads logs (seen_of disk2) → Durably disk3 (ReadsEither logs (with_log logs newest None))) → Durably disk3 (StandsFor rows restart)
  before_stands removed =
      drop_stands disk0 disk1 disk2 disk3 before place place_file reading same l read whole file batches rows restart s (omega (arith, is_before, newest_behind))
      newest (omega (arith, newest_behind)) before_alone removed
