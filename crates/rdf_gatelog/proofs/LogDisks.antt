-- What the calls of one log do to a disk of logs.
use Rattle.std.proofs.Common.{◌≡◌, ◌≢◌, ◌⊎◌, inl, inr, ⊎_elim, ℕ, List, [], ◌++◌, Option, Some, None, Result, Ok, Err, refl, sym, ◌∙◌, ap, subst, OnErr, OnOk, IfOk, MatchResult}
use Rattle.std.proofs.lemmas.Bool.{cases_eq}
use Rattle.rdf_disk.specs.declared.fault.DiskFault.{DiskFault}
use Rattle.rdf_disk.specs.declared.fault.DiskFault.TheVariants.{Stopped, Failed, NoMemory}
use Rattle.rdf_disk.specs.Files.{FileState, Disk, Contents, settled, gone}
use Rattle.rdf_disk.specs.Outcomes.{May, Surely, Durably, Keeps, IsOutcome, seen_of}
use Rattle.rdf_disk.specs.Calls.{Removes, Syncs}
use Rattle.rdf_disk.specs.OutcomeLaws.{may-settled, removes_narrow, syncs_narrows, narrows_trans}
use Rattle.rdf_gatelog.specs.declared.fault.LogFault.{LogFault}
use Rattle.rdf_gatelog.specs.Log.{IsLogFile, IsAtRest}
use Rattle.rdf_gatelog.specs.LogCalls.{AppendsAll, OthersSynced, OthersNarrow, Created, NotCreated, Mounted, KeepsLogs, SameLog}
use Rattle.rdf_gatelog.specs.Logs.{Logs, IsLogOf, Reads, RestsAt, Rests, IsSettled, with_log, payloads_at, pushed_all, IsOpenIn, ReadsEither, SameLogs, Opened}
use Rattle.rdf_gatelog.specs.Removal.{NotDiscarded}
use Rattle.rdf_gatelog.specs.RestLaws.{with_same, with_other, rests_surely, rests_synced, settled_at, rests_reads, rests_open}

-- one file changed to a log at rest, each other one, which rested, synced
pub rests_beside : (logs : Logs) (file : ℕ) (x : Option (List (List ℕ))) (old new : Disk) → ((m : ℕ) → m ≢ file → RestsAt m (logs m) old) → RestsAt file x new → OthersSynced file old new → Rests (with_log logs file x) new
rests_beside logs file x old new rests here others m =
    elim (cases_eq m file) [
      | inl same ↦ subst (λ (n : ℕ). RestsAt n (with_log logs file x n) new) (sym same) (subst (λ (y : Option (List (List ℕ))). RestsAt file y new) (sym (with_same logs file x)) here)
      | inr other ↦ subst (λ (y : Option (List (List ℕ))). RestsAt m y new) (sym (with_other logs file x m other)) (rests_synced m (logs m) old new (rests m other) (others m other))
    ]

-- the same where all of them rested
pub rests_with : (logs : Logs) (file : ℕ) (x : Option (List (List ℕ))) (old new : Disk) → Rests logs old → RestsAt file x new → OthersSynced file old new → Rests (with_log logs file x) new
rests_with logs file x old new rests here others = rests_beside logs file x old new (λ m other. rests m) here others

-- contents in which one file is this log, and each other one what it was
pub reads_with : (logs : Logs) (file : ℕ) (x : Option (List (List ℕ))) (c : Contents) → IsLogOf x (c file) → ((m : ℕ) → m ≢ file → IsLogOf (logs m) (c m)) → Reads (with_log logs file x) c
reads_with logs file x c here others m =
    elim (cases_eq m file) [
      | inl same ↦ subst (λ (n : ℕ). IsLogOf (with_log logs file x n) (c n)) (sym same) (subst (λ (y : Option (List (List ℕ))). IsLogOf y (c file)) (sym (with_same logs file x)) here)
      | inr other ↦ subst (λ (y : Option (List (List ℕ))). IsLogOf y (c m)) (sym (with_other logs file x m other)) (others m other)
    ]

pub reads_same : (logs : Logs) (file : ℕ) (c : Contents) → IsLogOf (logs file) (c file) → ((m : ℕ) → m ≢ file → IsLogOf (logs m) (c m)) → Reads logs c
reads_same logs file c here others m =
    elim (cases_eq m file) [
      | inl same ↦ subst (λ (n : ℕ). IsLogOf (logs n) (c n)) (sym same) here
      | inr other ↦ others m other
    ]

-- nothing is pending of a disk at rest, and it reads as its logs
pub rests_settled : (logs : Logs) (disk : Disk) → Rests logs disk → IsSettled disk
rests_settled logs disk rests m =
    let was = settled_at m (logs m) disk (rests m) in
    was.1 ∙ ap settled (sym (ap (λ (f : FileState). f.seen) was.1))

-- one file of a disk may be the one log or the other, each other one is surely what it was
pub either_beside : (logs : Logs) (file : ℕ) (x : Option (List (List ℕ))) (new : Disk) → Surely (new file) (λ y. IsLogOf (logs file) y ⊎ IsLogOf x y)
    → ((m : ℕ) → m ≢ file → Surely (new m) (IsLogOf (logs m))) → Durably new (ReadsEither logs (with_log logs file x))
either_beside logs file x new surely beside c may =
    let others : (m : ℕ) → m ≢ file → IsLogOf (logs m) (c m) = λ m other. beside m other (c m) (may m) in
    ⊎_elim
    (λ (before : IsLogOf (logs file) (c file)). inl (reads_same logs file c before others))
    (λ (after : IsLogOf x (c file)). inr (reads_with logs file x c after others))
    (surely (c file) (may file))

-- the same of a disk of which nothing was pending, and whose other files were narrowed
pub either_with : (logs : Logs) (file : ℕ) (x : Option (List (List ℕ))) (old new : Disk) → IsSettled old → Reads logs (seen_of old)
    → Surely (new file) (λ y. IsLogOf (logs file) y ⊎ IsLogOf x y) → OthersNarrow file old new → Durably new (ReadsEither logs (with_log logs file x))
either_with logs file x old new still reads surely narrow = either_beside logs file x new surely (λ m other y may.
    let is : y ≡ (old m).seen = may-settled (old m).seen y (subst (λ (f : FileState). May f y) (still m) (narrow m other y may)) in
    subst (IsLogOf (logs m)) (sym is) (reads m))

-- where a file at rest isn't there, there is no log
pub rests_absent : (m : ℕ) (x : Option (List (List ℕ))) (disk : Disk) → disk m ≡ settled None → RestsAt m x disk → x ≡ None
rests_absent m None disk gone rests = refl
rests_absent m (Some payloads) disk gone rests = let both : settled None ≡ settled (Some rests.bytes) = sym gone ∙ rests.file_is in let seen : None ≡ Some rests.bytes = ap (λ (f : FileState). f.seen) both in cc

module _ (logs : Logs) (file end : ℕ) (more : List (List ℕ)) (old new : Disk) (rests : Rests logs old) (o : IsOpenIn logs file end) where
  abbrev pushed_here : List (List ℕ)
  pushed_here = payloads_at (logs file) ++ more

  pushed_is : pushed_here ≡ o.payloads ++ more
  pushed_is = ap (λ (x : Option (List (List ℕ))). payloads_at x ++ more) o.there

  pub append_ok : {T : Type 0} (new_end : ℕ) (x : T) → AppendsAll {T = T} file end new_end more (Ok x) old new → Rests (pushed_all logs file more) new × IsOpenIn (pushed_all logs file more) file new_end
  append_ok new_end x appends =
      let after : IsAtRest file new_end (o.payloads ++ more) new = appends.0 o.payloads (rests_open logs file end [] old new rests o) in
      let after2 : IsAtRest file new_end pushed_here new = subst (λ (l : List (List ℕ)). IsAtRest file new_end l new) (sym pushed_is) after in (
        rests_with logs file (Some pushed_here) old new rests (subst (λ (e : ℕ). IsAtRest file e pushed_here new) after2.end_is after2) appends.1,
        record { payloads = pushed_here; there = with_same logs file (Some pushed_here); end_is = after2.end_is },
      )

  pub append_err : (T : Type 0) (new_end : ℕ) (e : LogFault) → AppendsAll {T = T} file end new_end more (Err e) old new → Durably new (ReadsEither logs (pushed_all logs file more))
  append_err T new_end e appends = either_with logs file (Some pushed_here) old new (rests_settled logs old rests) (rests_reads logs old rests)
      (λ y may. ⊎_elim
      (λ (before : IsLogFile o.payloads y). inl (subst (λ (x : Option (List (List ℕ))). IsLogOf x y) (sym o.there) before))
      (λ (after : IsLogFile (o.payloads ++ more) y). inr (subst (λ (l : List (List ℕ)). IsLogFile l y) (sym pushed_is) after))
      (appends.0 o.payloads (rests_open logs file end [] old new rests o) y may))
      appends.1

module _ (logs : Logs) (file : ℕ) (old new : Disk) (rests : Rests logs old) where
  pub create_ok : (end : ℕ) → Created file end old new → Rests (with_log logs file (Some [])) new × IsOpenIn (with_log logs file (Some [])) file end
  create_ok end created = (
    rests_with logs file (Some []) old new rests (subst (λ (e : ℕ). IsAtRest file e [] new) created.log.end_is created.log) created.others,
    record { payloads = []; there = with_same logs file (Some []); end_is = created.log.end_is },
  )

  pub create_err : old file ≡ settled None → NotCreated file old new → Durably new (ReadsEither logs (with_log logs file (Some [])))
  create_err gone created =
      let absent : logs file ≡ None = rests_absent file (logs file) old gone (rests file) in
      either_with logs file (Some []) old new (rests_settled logs old rests) (rests_reads logs old rests)
      (λ y may. ⊎_elim
      (λ (none : y ≡ None). inl (subst (λ (x : Option (List (List ℕ))). IsLogOf x y) (sym absent) none))
      (λ (made : IsLogFile [] y). inr made)
      (created.log y may))
      created.others

may_gone : (x y z : Option (List ℕ)) → (z ≡ x) ⊎ (z ≡ None) → May (gone (settled x) z) y → (y ≡ x) ⊎ (y ≡ None)
may_gone None y z shows may = inl (may-settled None y may)
may_gone (Some b) y z shows (inl now) = ⊎_elim (λ (e : z ≡ Some b). inl (now ∙ e)) (λ (e : z ≡ None). inr (now ∙ e)) shows
may_gone (Some b) None z shows (inr left) = inr refl
may_gone (Some b) (Some bytes) z shows (inr left) = inl (sym left)

-- a removal of a file of which nothing is pending
module _ (x : Option (List ℕ)) (file : ℕ) (s0 : Disk) (was : s0 file ≡ settled x) where
  seen_was : (s0 file).seen ≡ x
  seen_was = ap (λ (f : FileState). f.seen) was

  changed : (s1 : Disk) (z : Option (List ℕ)) → (z ≡ x) ⊎ (z ≡ None) → s1 file ≡ gone (s0 file) z → Surely (s1 file) (λ y. (y ≡ x) ⊎ (y ≡ None))
  changed s1 z shows is y may = may_gone x y z shows (subst (λ (f : FileState). May f y) (is ∙ ap (λ (f : FileState). gone f z) was) may)

  pub removed_surely : {T : Type 0} (r : Result T DiskFault) (s1 : Disk) → Removes file r s0 s1 → Surely (s1 file) (λ y. (y ≡ x) ⊎ (y ≡ None))
  removed_surely (Ok v) s1 w y may = changed s1 None (inr refl) w.this y may
  removed_surely (Err Stopped) s1 w y may =
      let is : y ≡ w.this.0 = may-settled w.this.0 y (subst (λ (f : FileState). May f y) w.this.2 may) in
      let left : IsOutcome (gone (settled x) (s0 file).seen) w.this.0 = subst (λ (f : FileState). IsOutcome (gone f (s0 file).seen) w.this.0) was w.this.1 in
      subst (λ (q : Option (List ℕ)). (q ≡ x) ⊎ (q ≡ None)) (sym is) (may_gone x w.this.0 (s0 file).seen (inl seen_was) (inr left))
  removed_surely (Err Failed) s1 w y may = changed s1 w.0 (⊎_elim (λ (e : w.0 ≡ (s0 file).seen). inl (e ∙ seen_was)) (λ (e : w.0 ≡ None). inr e) w.1) w.2.this y may
  removed_surely (Err NoMemory) s1 w y may = inl (may-settled x y (subst (λ (f : FileState). May f y) (w file ∙ was) may))

-- a removal and a sync of a disk of which nothing is pending, and which reads as these logs
module _ (logs : Logs) (file : ℕ) (s0 : Disk) (still : IsSettled s0) (reads : Reads logs (seen_of s0)) where
  gone_either : (s : Disk) → Surely (s file) (λ y. (y ≡ (s0 file).seen) ⊎ (y ≡ None)) → OthersNarrow file s0 s → Durably s (ReadsEither logs (with_log logs file None))
  gone_either s surely narrow = either_with logs file None s0 s still reads
      (λ y may. ⊎_elim (λ (e : y ≡ (s0 file).seen). inl (subst (IsLogOf (logs file)) (sym e) (reads file))) (λ (e : y ≡ None). inr e) (surely y may)) narrow

  pub discard_first : {T : Type 0} (r : Result T DiskFault) (s1 : Disk) → Removes file r s0 s1 → Durably s1 (ReadsEither logs (with_log logs file None))
  discard_first r s1 w = gone_either s1 (removed_surely (s0 file).seen file s0 (still file) r s1 w) (removes_narrow file r s0 s1 w)

  pub discard_sync : {T U : Type 0} (r : Result T DiskFault) (q : Result U DiskFault) (s1 s2 : Disk) → Removes file r s0 s1 → Syncs q s1 s2 → Durably s2 (ReadsEither logs (with_log logs file None))
  discard_sync r q s1 s2 w y = gone_either s2
      (λ x may. removed_surely (s0 file).seen file s0 (still file) r s1 w x (syncs_narrows q s1 s2 y file x may))
      (λ m other. narrows_trans (s0 m) (s1 m) (s2 m) (removes_narrow file r s0 s1 w m other) (syncs_narrows q s1 s2 y m))

-- the same of the file alone
pub not_discarded_first : {T : Type 0} (file : ℕ) (r : Result T DiskFault) (s0 s1 : Disk) → Removes file r s0 s1 → NotDiscarded file s0 s1
not_discarded_first file r s0 s1 w = record { this = λ x was. removed_surely x file s0 was r s1 w; others = removes_narrow file r s0 s1 w }

pub not_discarded_sync : {T U : Type 0} (file : ℕ) (r : Result T DiskFault) (q : Result U DiskFault) (s0 s1 s2 : Disk) → Removes file r s0 s1 → Syncs q s1 s2 → NotDiscarded file s0 s2
not_discarded_sync file r q s0 s1 s2 w y = record {
  this = λ x was z may. removed_surely x file s0 was r s1 w z (syncs_narrows q s1 s2 y file z may);
  others = λ m other. narrows_trans (s0 m) (s1 m) (s2 m) (removes_narrow file r s0 s1 w m other) (syncs_narrows q s1 s2 y m);
}

-- the answers of an append
module _ {T : Type 0} (file end new_end : ℕ) (more : List (List ℕ)) (old new : Disk) where
  pub append_answers_ok : (r : Result T LogFault) → AppendsAll file end new_end more r old new
      → OnOk r ((logs : Logs) → Rests logs old → IsOpenIn logs file end → Rests (pushed_all logs file more) new × IsOpenIn (pushed_all logs file more) file new_end)
  append_answers_ok (Ok x) a = λ logs rests o. append_ok logs file end more old new rests o new_end x a
  append_answers_ok (Err e) a = tt

  pub append_answers_err : (r : Result T LogFault) → AppendsAll file end new_end more r old new
      → OnErr r ((logs : Logs) → Rests logs old → IsOpenIn logs file end → Durably new (ReadsEither logs (pushed_all logs file more)))
  append_answers_err (Ok x) a = tt
  append_answers_err (Err e) a = λ logs rests o. append_err logs file end more old new rests o T new_end e a

-- the answers of a creation
module _ (file : ℕ) (old new : Disk) where
  pub create_answers_err : {L : Type 0} (end_of : L → ℕ) (r : Result L LogFault) → old file ≡ settled None → MatchResult r (λ log. Created file (end_of log) old new) (λ e. NotCreated file old new)
      → OnErr r ((logs : Logs) → Rests logs old → Durably new (ReadsEither logs (with_log logs file (Some []))))
  create_answers_err end_of (Ok log) gone m = tt
  create_answers_err end_of (Err e) gone m = λ logs rests. create_err logs file old new rests gone m

  pub create_answers_ok : {L : Type 0} (end_of : L → ℕ) (r : Result L LogFault) → MatchResult r (λ log. Created file (end_of log) old new) (λ e. NotCreated file old new)
      → IfOk r (λ log. (logs : Logs) → Rests logs old → Rests (with_log logs file (Some [])) new × IsOpenIn (with_log logs file (Some [])) file (end_of log))
  create_answers_ok end_of (Ok log) m = λ logs rests. create_ok logs file old new rests (end_of log) m
  create_answers_ok end_of (Err e) m = tt

-- a log that was opened
some_same : (ps qs : List (List ℕ)) (x : Option (List ℕ)) (log : Option (List (List ℕ))) → IsLogFile ps x → ((others : List (List ℕ)) → IsLogFile others x → ps ≡ others) → IsLogOf log x → log ≡ Some ps
some_same ps qs None log stood only reads = absurd stood
some_same ps qs (Some b) None stood only reads = cc
some_same ps qs (Some b) (Some others) stood only reads = ap Some (sym (only others reads))

module _ (logs : Logs) (file end : ℕ) (payloads : List (List ℕ)) (old new : Disk) (m : Mounted file end payloads old new) (reads : Reads logs (seen_of old)) where
  is : logs file ≡ Some payloads
  is = some_same payloads payloads (old file).seen (logs file) m.stood m.only (reads file)

  here : RestsAt file (logs file) new
  here = subst (λ (x : Option (List (List ℕ))). RestsAt file x new) (sym is) (subst (λ (e : ℕ). IsAtRest file e payloads new) m.log.end_is m.log)

  beside_reads : (n : ℕ) → n ≢ file → IsLogOf (logs n) (new n).seen
  beside_reads n other = subst (IsLogOf (logs n)) (sym (ap (λ (f : FileState). f.seen) (m.others n other))) (reads n)

  reads_after : Reads logs (seen_of new)
  reads_after = reads_same logs file (seen_of new) (rests_surely file (logs file) new here (new file).seen (inl refl)) beside_reads

  settled_after : IsSettled new
  settled_after n =
      elim (cases_eq n file) [
        | inl same ↦ subst (λ (k : ℕ). new k ≡ settled (new k).seen) (sym same) (let was = settled_at file (logs file) new here in was.1 ∙ ap settled (sym (ap (λ (f : FileState). f.seen) was.1)))
        | inr other ↦ m.others n other ∙ ap settled (sym (ap (λ (f : FileState). f.seen) (m.others n other)))
      ]

  none_reads : (x : Option (List (List ℕ))) (y : Option (List ℕ)) → x ≡ None → IsLogOf x y → y ≡ None
  none_reads None y none reads_y = reads_y
  none_reads (Some ps) y none reads_y = cc

  absent_after : (n : ℕ) → logs n ≡ None → RestsAt n (logs n) new
  absent_after n none =
      subst (λ (x : Option (List (List ℕ))). RestsAt n x new) (sym none)
      (settled_after n ∙ ap settled (none_reads (logs n) (new n).seen none (reads_after n)))

  pub opened : Opened logs file end payloads old new
  opened = record {
    payloads_are = is;
    open_at = record { payloads = payloads; there = is; end_is = m.log.end_is };
    rests = here;
    beside = λ n other rests. rests_synced n (logs n) old new rests (m.others n other);
    absent = absent_after;
    reads = reads_after;
    settled = settled_after;
  }

-- whatever there may be of each file is the same log as something that there might have been
log_along : (x : Option (List (List ℕ))) (y z : Option (List ℕ)) → SameLog y z → IsLogOf x y → IsLogOf x z
log_along None y z same reads = same.absent reads
log_along (Some ps) y z same reads = same.logs ps reads

log_back : (x : Option (List (List ℕ))) (y z : Option (List ℕ)) → SameLog y z → IsLogOf x z → IsLogOf x y
log_back None y z same reads = same.absent_back reads
log_back (Some ps) y z same reads = same.logs_back ps reads

pub keeps_logs : (old new : Disk) → KeepsLogs old new → Keeps SameLogs old new
keeps_logs old new keeps d may = (
  λ m. (keeps m (d m) (may m)).0,
  λ m. (keeps m (d m) (may m)).1,
  record {
    logs = λ logs reads m. let k = keeps m (d m) (may m) in log_along (logs m) k.0 (d m) k.2 (reads m);
    logs_back = λ logs reads m. let k = keeps m (d m) (may m) in log_back (logs m) k.0 (d m) k.2 (reads m);
  },
)

-- the answers of a mount
module _ (file : ℕ) (old new : Disk) where
  pub mount_answers_ok : {L : Type 0} (end_of : L → ℕ) (payloads : L → List (List ℕ)) (r : Result L LogFault) → MatchResult r (λ l. Mounted file (end_of l) (payloads l) old new) (λ e. OthersNarrow file old new)
      → IfOk r (λ l. (logs : Logs) → Reads logs (seen_of old) → Opened logs file (end_of l) (payloads l) old new)
  mount_answers_ok end_of payloads (Ok l) m = λ logs reads. opened logs file (end_of l) (payloads l) old new m reads
  mount_answers_ok end_of payloads (Err e) m = tt
