-- Contents whose files are the same logs.
use Rattle.std.proofs.Common.{◌≡◌, inl, inr, ℕ, List, Option, Some, None, refl, sym, ◌∙◌, ap, subst}
use Rattle.std.proofs.lemmas.Bool.{cases_eq}
use Rattle.rdf_disk.specs.Calls.{Same}
use Rattle.rdf_disk.specs.Files.{FileState, Disk, Contents, settled, IsSpan}
use Rattle.rdf_disk.specs.Outcomes.{Durably, Keeps, seen_of}
use Rattle.rdf_gatelog.specs.Log.{IsLogFile, IsAtRest, IsDamaged}
use Rattle.rdf_gatelog.specs.LogCalls.{KeepsLogs, SameLog, Mounted}
use Rattle.rdf_gatelog.specs.LogLaws.{at_rest_surely, one_log, log_not_damaged}
use Rattle.rdf_model.specs.Volumes.{Rows}
use Rattle.rdf_gatelog.specs.Logs.{Logs, IsLogOf, Reads, RestsAt, IsSettled, SameLogs}
use Rattle.rdf_volume.specs.declared.reading.Reading.{Reading}
use Rattle.rdf_volume.specs.Flaws.{IsFlaw, HasNoBase}
use Rattle.rdf_volume.specs.Opening.{IsLook}
use Rattle.rdf_volume.specs.Standing.{StandsFor, SameVolume}

-- file by file what is a log of some payloads stays one, what is absent stays absent, and nothing else is damaged now
pub record IsAlike (x y : Option (List ℕ)) : Type 0 where
  pub same : SameLog x y
  pub damaged : (at : ℕ) → IsDamaged y at → IsDamaged x at

abbrev pub Alike : Contents → Contents → Type 0
Alike c d = (m : ℕ) → IsAlike (c m) (d m)

pub alike_equal : (x y : Option (List ℕ)) → y ≡ x → IsAlike x y
alike_equal x y e = record {
  same = record {
    logs = λ ps is. subst (IsLogFile ps) (sym e) is;
    logs_back = λ ps is. subst (IsLogFile ps) e is;
    absent = λ none. e ∙ none;
    absent_back = λ none. sym e ∙ none;
  };
  damaged = λ at is. subst (λ (z : Option (List ℕ)). IsDamaged z at) e is;
}

pub alike_same : (old new : Disk) → Same old new → Alike (seen_of old) (seen_of new)
alike_same old new same m = alike_equal (old m).seen (new m).seen (ap (λ (f : FileState). f.seen) (same m))

pub alike_trans : (a b c : Contents) → Alike a b → Alike b c → Alike a c
alike_trans a b c ab bc m = record {
  same = record {
    logs = λ ps is. (bc m).same.logs ps ((ab m).same.logs ps is);
    logs_back = λ ps is. (ab m).same.logs_back ps ((bc m).same.logs_back ps is);
    absent = λ none. (bc m).same.absent ((ab m).same.absent none);
    absent_back = λ none. (ab m).same.absent_back ((bc m).same.absent_back none);
  };
  damaged = λ at is. (ab m).damaged at ((bc m).damaged at is);
}

log_over : (x : Option (List (List ℕ))) (b e : Option (List ℕ)) → SameLog b e → IsLogOf x b → IsLogOf x e
log_over None b e same is = same.absent is
log_over (Some ps) b e same is = same.logs ps is

-- contents of which each file is the same log as before read as the same
pub read_same : (c d : Contents) → ((m : ℕ) → SameLog (c m) (d m)) → SameLogs c d
read_same c d same = record {
  logs = λ logs reads m. log_over (logs m) (c m) (d m) (same m) (reads m);
  logs_back = λ logs reads m.
      let s = same m in
      log_over (logs m) (d m) (c m) (record { logs = s.logs_back; logs_back = s.logs; absent = s.absent_back; absent_back = s.absent }) (reads m);
}

-- a call that keeps the log of each file keeps whatever follows from that for the whole contents
pub keeps_whole : (same : Contents → Contents → Type 0) → ((c d : Contents) → ((m : ℕ) → SameLog (c m) (d m)) → same c d) → (old new : Disk) → KeepsLogs old new → Keeps same old new
keeps_whole same whole old new keeps d may =
    let before = λ (m : ℕ). keeps m (d m) (may m) in
    (λ m. (before m).0, λ m. (before m).1, whole (λ m. (before m).0) d (λ m. (before m).2))

pub reads_over : (logs : Logs) (c d : Contents) → Alike c d → Reads logs c → Reads logs d
reads_over logs c d alike reads m = log_over (logs m) (c m) (d m) (alike m).same (reads m)

pub span_over : (old new : Disk) (low above : ℕ) → Alike (seen_of old) (seen_of new) → IsSpan old low above → IsSpan new low above
span_over old new low above alike s = record {
  within = λ m there. s.within m (λ gone. there ((alike m).same.absent gone));
  none = s.none;
  low_is = λ some. ((s.low_is some).0, λ gone. (s.low_is some).1 ((alike low).same.absent_back gone));
  high_is = λ m is gone. s.high_is m is ((alike m).same.absent_back gone);
}

no_base_back : (c d : Contents) (file at : ℕ) → Alike c d → HasNoBase d file at → HasNoBase c file at
no_base_back c d file at alike h = record {
  none = λ m ps high is. h.none m ps (λ n there. high n (λ gone. there ((alike n).same.absent gone))) ((alike m).same.logs ps is);
  lowest = λ m there. let l = h.lowest m (λ gone. there ((alike m).same.absent_back gone)) in (l.0, λ gone. l.1 ((alike file).same.absent gone));
  blank = λ gone. h.blank (λ m. (alike m).same.absent (gone m));
  at_is = h.at_is;
}

-- a flaw that shows afterwards was there before
pub flaw_back : (c d : Contents) (file at : ℕ) → Alike c d → IsFlaw d file at → IsFlaw c file at
flaw_back c d file at alike (inl (there, damaged)) = inl (λ gone. there ((alike file).same.absent gone), (alike file).damaged at damaged)
flaw_back c d file at alike (inr (inl (ps, log, first))) = inr (inl (ps, (alike file).same.logs_back ps log, first))
flaw_back c d file at alike (inr (inr none)) = inr (inr (no_base_back c d file at alike none))

-- a file is the log of its payloads
pub log_is : (ps : List (List ℕ)) (x : Option (List (List ℕ))) (c : Option (List ℕ)) → IsLogOf x c → IsLogFile ps c → x ≡ Some ps
log_is ps None c none log = absurd (subst (IsLogFile ps) none log)
log_is ps (Some qs) c is log = ap Some (one_log qs ps c is log)

-- a file that was mounted
module _ (file end : ℕ) (payloads : List (List ℕ)) (old new : Disk) (m : Mounted file end payloads old new) where
  pub here_now : IsLogFile payloads (new file).seen
  here_now = at_rest_surely file end payloads new m.log (new file).seen (inl refl)

  alike_here : IsAlike (old file).seen (new file).seen
  alike_here = record {
    same = record {
      logs = λ ps was. subst (λ (l : List (List ℕ)). IsLogFile l (new file).seen) (m.only ps was) here_now;
      logs_back = λ ps is. subst (λ (l : List (List ℕ)). IsLogFile l (old file).seen) (one_log payloads ps (new file).seen here_now is) m.stood;
      absent = λ none. absurd (subst (IsLogFile payloads) none m.stood);
      absent_back = λ none. absurd (subst (IsLogFile payloads) none here_now);
    };
    damaged = λ at is. absurd (log_not_damaged payloads (new file).seen at here_now is);
  }

  pub mounted_alike : Alike (seen_of old) (seen_of new)
  mounted_alike n = elim (cases_eq n file) [
    | inl same ↦ subst (λ (k : ℕ). IsAlike (old k).seen (new k).seen) (sym same) alike_here
    | inr other ↦ alike_equal (old n).seen (new n).seen (ap (λ (f : FileState). f.seen) (m.others n other))
  ]

  settled_one : (f : FileState) (x : Option (List ℕ)) → f ≡ settled x → f ≡ settled f.seen
  settled_one f x is = is ∙ ap settled (sym (ap (λ (g : FileState). g.seen) is))

  pub mounted_settled : IsSettled new
  mounted_settled n = elim (cases_eq n file) [
    | inl same ↦ subst (λ (k : ℕ). new k ≡ settled (new k).seen) (sym same) (settled_one (new file) (Some m.log.bytes) m.log.file_is)
    | inr other ↦ settled_one (new n) (old n).seen (m.others n other)
  ]

-- a file that was looked at, on a disk that reads as these logs
module _ (file end : ℕ) (reading : Reading) (old new : Disk) (l : IsLook file end reading old new) (logs : Logs) (reads : Reads logs (seen_of old)) where
  pub logs_are : logs file ≡ Some l.payloads
  logs_are = log_is l.payloads (logs file) (old file).seen (reads file) l.mounted.stood

  pub look_rests : RestsAt file (logs file) new
  look_rests = subst (λ (x : Option (List (List ℕ))). RestsAt file x new) (sym logs_are) (subst (λ (e : ℕ). IsAtRest file e l.payloads new) l.mounted.log.end_is l.mounted.log)

  pub look_reads : Reads logs (seen_of new)
  look_reads = reads_over logs (seen_of old) (seen_of new) (mounted_alike file end l.payloads old new l.mounted) reads

-- what is the same logs stands for the same
pub same_volume : (c d : Contents) → SameLogs c d → SameVolume c d
same_volume c d same rows restart s = (s.0, (s.1.0, (s.1.1.0, same.logs s.1.1.0 s.1.1.1, s.1.1.2)))

pub keeps_volume : (old new : Disk) → Keeps SameLogs old new → Keeps SameVolume old new
keeps_volume old new keeps d may = let k = keeps d may in (k.0, k.1, same_volume k.0 d k.2)

pub keeps_volume_trans : (a b c : Disk) → Keeps SameVolume a b → Keeps SameVolume b c → Keeps SameVolume a c
keeps_volume_trans a b c ab bc d may =
    let last = bc d may in
    let first = ab last.0 last.1 in
    (first.0, first.1, λ rows restart s. last.2 rows restart (first.2 rows restart s))

-- what the disk stood for it durably stands for
pub keeps_durably : (old new : Disk) → ((rows : Rows) (restart : ℕ) → StandsFor rows restart (seen_of old) → Durably new (StandsFor rows restart)) → Keeps SameVolume old new
keeps_durably old new h d may = (seen_of old, λ m. inl refl, λ rows restart s. h rows restart s d may)
