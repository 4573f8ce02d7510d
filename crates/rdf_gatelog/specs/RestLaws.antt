-- Laws of disks of logs: what they rest as, and read as.
use Rattle.std.proofs.Common.{◌≡◌, ◌≢◌, inl, ℕ, Bool, if◌then◌else◌, List, length, Option, Some, None, refl, sym, ◌∙◌, ap, subst}
use Rattle.std.proofs.lemmas.Bool.{eq-eqb, ne_eqb}
use Rattle.rdf_disk.specs.Files.{FileState, Disk, Contents, settled}
use Rattle.rdf_disk.specs.Outcomes.{May, Surely, Durably, Narrows, Keeps, seen_of}
use Rattle.rdf_disk.specs.OutcomeLaws.{may-settled}
use Rattle.rdf_gatelog.specs.Log.{open_blocks, IsLogFile, IsAtRest}
use Rattle.rdf_gatelog.specs.LogLaws.{at_rest_surely, at_rest_same, one_log}
use Rattle.rdf_gatelog.specs.Logs.{Logs, IsLogOf, Reads, RestsAt, Rests, with_log, IsOpenIn, SameLogs}

-- the file that was changed has the new log
pub with_same : (logs : Logs) (file : ℕ) (x : Option (List (List ℕ))) → with_log logs file x file ≡ x
with_same logs file x = ap (λ (b : Bool). if b then x else logs file) (eq-eqb file file refl)

-- each other file has its own
pub with_other : (logs : Logs) (file : ℕ) (x : Option (List (List ℕ))) (m : ℕ) → m ≢ file → with_log logs file x m ≡ logs m
with_other logs file x m other = ap (λ (b : Bool). if b then x else logs m) (ne_eqb m file other)

-- ---- a disk at rest

-- whatever may be of a file at rest is its log
pub rests_surely : (m : ℕ) (x : Option (List (List ℕ))) (disk : Disk) → RestsAt m x disk → Surely (disk m) (IsLogOf x)
rests_surely m None disk rests y may = may-settled None y (subst (λ (f : FileState). May f y) rests may)
rests_surely m (Some payloads) disk rests y may = at_rest_surely m (length (open_blocks payloads)) payloads disk rests y may

-- what a file at rest shows is safe, so after a sync it rests too
pub rests_synced : (m : ℕ) (x : Option (List (List ℕ))) (old new : Disk) → RestsAt m x old → new m ≡ settled (old m).seen → RestsAt m x new
rests_synced m None old new rests synced = synced ∙ ap (λ (f : FileState). settled f.seen) rests
rests_synced m (Some payloads) old new rests synced = record {
  bytes = rests.bytes;
  file_is = synced ∙ ap (λ (f : FileState). settled f.seen) rests.file_is;
  spelled = rests.spelled;
  end_is = rests.end_is;
}

-- a file at rest rests while it is as it was
pub rests_at_same : (m : ℕ) (x : Option (List (List ℕ))) (old new : Disk) → new m ≡ old m → RestsAt m x old → RestsAt m x new
rests_at_same m None old new same rests = same ∙ rests
rests_at_same m (Some payloads) old new same rests = at_rest_same m _ payloads old new same rests

-- what is shown of a file at rest
pub settled_at : (m : ℕ) (x : Option (List (List ℕ))) (disk : Disk) → RestsAt m x disk → (y : Option (List ℕ)) × (disk m ≡ settled y) × IsLogOf x y
settled_at m None disk rests = (None, rests, refl)
settled_at m (Some payloads) disk rests =
    let y : Option (List ℕ) = Some rests.bytes in
    (y, rests.file_is, at_rest_surely m (length (open_blocks payloads)) payloads disk rests y (inl (ap (λ (f : FileState). f.seen) (sym rests.file_is))))

-- a disk at rest reads as its logs
pub rests_reads : (logs : Logs) (disk : Disk) → Rests logs disk → Reads logs (seen_of disk)
rests_reads logs disk rests m = rests_surely m (logs m) disk (rests m) (disk m).seen (inl refl)

-- and does so durably
pub rests_durably : (logs : Logs) (disk : Disk) → Rests logs disk → Durably disk (Reads logs)
rests_durably logs disk rests c may m = rests_surely m (logs m) disk (rests m) (c m) (may m)

-- an open log of a disk at rest is at rest
pub rests_open : (logs : Logs) (file end : ℕ) (p : List ℕ) (old new : Disk) → Rests logs old → (o : IsOpenIn logs file end) → IsAtRest file end o.payloads old
rests_open logs file end p old new rests o =
    subst (λ (e : ℕ). IsAtRest file e o.payloads old) (sym o.end_is) (subst (λ (x : Option (List (List ℕ))). RestsAt file x old) o.there (rests file))

-- ---- what contents read as

one_log_of : (x y : Option (List (List ℕ))) (c : Option (List ℕ)) → IsLogOf x c → IsLogOf y c → x ≡ y
one_log_of None None c p q = refl
one_log_of None (Some ys) None p q = absurd q
one_log_of None (Some ys) (Some b) p q = cc
one_log_of (Some xs) None None p q = absurd p
one_log_of (Some xs) None (Some b) p q = cc
one_log_of (Some xs) (Some ys) c p q = ap Some (one_log xs ys c p q)

-- contents read as one disk of logs at most
pub one_reading : (logs others : Logs) (c : Contents) → Reads logs c → Reads others c → (m : ℕ) → logs m ≡ others m
one_reading logs others c p q m = one_log_of (logs m) (others m) (c m) (p m) (q m)

-- where there is no file, there is no log
pub no_file_no_log : (x : Option (List (List ℕ))) (c : Option (List ℕ)) → IsLogOf x c → c ≡ None → x ≡ None
no_file_no_log None c reads none = refl
no_file_no_log (Some ps) c reads none = absurd (subst (IsLogFile ps) none reads)

-- and where there is no log, there is no file
pub no_log_no_file : (x : Option (List (List ℕ))) (c : Option (List ℕ)) → IsLogOf x c → x ≡ None → c ≡ None
no_log_no_file None c reads none = reads
no_log_no_file (Some ps) c reads none = cc

-- what may be the same logs as before is so over two steps
pub keeps_trans : (a b c : Disk) → Keeps SameLogs a b → Keeps SameLogs b c → Keeps SameLogs a c
keeps_trans a b c ab bc d may =
    let last = bc d may in
    let first = ab last.0 last.1 in (
      first.0,
      first.1,
      record {
        logs = λ logs reads. last.2.logs logs (first.2.logs logs reads);
        logs_back = λ logs reads. first.2.logs_back logs (last.2.logs_back logs reads);
      },
    )

-- where less may be than before, it may be the same logs
pub narrow_keeps : (old new : Disk) → ((m : ℕ) → Narrows (old m) (new m)) → Keeps SameLogs old new
narrow_keeps old new narrow d may = (d, λ m. narrow m (d m) (may m), record { logs = λ logs reads. reads; logs_back = λ logs reads. reads })
