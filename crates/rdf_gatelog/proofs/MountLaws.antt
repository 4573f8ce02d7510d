-- What a stop may leave while a log is mounted.
use Rattle.std.proofs.Common.{◌≡◌, inl, inr, ℕ, ◌≤◌, List, [], ◌∷◌, length, Option, Some, None, Result, refl, sym, ◌∙◌, ap, subst, arith, ◌<◌}
use Rattle.rdf_disk.specs.declared.fault.DiskFault.{DiskFault}
use Rattle.rdf_disk.specs.Files.{FileState, Disk, settled}
use Rattle.rdf_disk.specs.Outcomes.{Surely, Narrows}
use Rattle.rdf_disk.specs.Calls.{Same, Synced, Syncs, Looks}
use Rattle.rdf_disk.specs.OutcomeLaws.{narrows_synced, narrows_trans, syncs_narrows, looks_narrows}
use Rattle.rdf_gatelog.specs.Log.{IsSpelled, IsLogFile, IsBroken, IsDamaged}
use Rattle.rdf_gatelog.specs.LogCalls.{OthersNarrow, SameLog, KeepsLog, KeepsLogs, Mounted, gated}
use Rattle.rdf_gatelog.specs.FirstGate.{GateClosed, StaysShort}
use Rattle.rdf_gatelog.specs.Parsed.{IsParsed}
use Rattle.rdf_gatelog.proofs.FirstGateLaws.{gate_at_rest}
use Rattle.rdf_gatelog.specs.LogLaws.{one_list, short_none, long_spelled}
use Rattle.std.specs.Option.{option_map}
use Rattle.std.proofs.lemmas.Bool.{cases_eq}

pub same_log_refl : (x : Option (List ℕ)) → SameLog x x
same_log_refl x = record { logs = λ ps is. is; logs_back = λ ps is. is; absent = λ none. none; absent_back = λ none. none }

pub keeps_narrows : (s0 s : Disk) → ((m : ℕ) → Narrows (s0 m) (s m)) → KeepsLogs s0 s
keeps_narrows s0 s narrows m y may = (y, narrows m y may, same_log_refl y)

pub narrows_two : (s0 s1 s2 : Disk) → ((m : ℕ) → Narrows (s0 m) (s1 m)) → ((m : ℕ) → Narrows (s1 m) (s2 m)) → (m : ℕ) → Narrows (s0 m) (s2 m)
narrows_two s0 s1 s2 a b m = narrows_trans (s0 m) (s1 m) (s2 m) (a m) (b m)

-- whatever a sync and then a look answered
pub looked : {T U : Type 0} (q : Result T DiskFault) (r : Result U DiskFault) (s0 s1 s2 : Disk) → Syncs q s0 s1 → Looks r s1 s2 → (m : ℕ) → Narrows (s0 m) (s2 m)
looked q r s0 s1 s2 synced looks = narrows_two s0 s1 s2 (syncs_narrows q s0 s1 synced) (looks_narrows r s1 s2 looks)

pub whole_of : (x : Option (List ℕ)) (len : ℕ) → option_map length x ≡ Some len → (b : List ℕ) × (x ≡ Some b) × (length b ≡ len)
whole_of None len is = cc
whole_of (Some b) len is = (b, refl, some_same (length b) len is)
  where
    some_same : (a b : ℕ) → Some a ≡ Some b → a ≡ b
    some_same a b e = cc

short_kept : (b : List ℕ) (y : Option (List ℕ)) → length b ≤ 1 → StaysShort (Some b) y → SameLog (Some b) y
short_kept b None short stays = let none : Some b ≡ None = stays.there refl in cc
short_kept b (Some c) short stays = record {
  logs = λ ps log. inl (stays.short, short_none ps b short log);
  logs_back = λ ps log. inl (short, short_none ps c stays.short log);
  absent = λ none. neither b c none;
  absent_back = λ none. neither c b none;
}
  where
    neither : (x y : List ℕ) → Some x ≡ None → Some y ≡ None
    neither x y e = cc

gated_short : (b : List ℕ) → length b ≤ 1 → gated b ≡ 0 ∷ []
gated_short [] short = refl
gated_short (x ∷ []) short = refl
gated_short (x ∷ y ∷ rest) short = absurd (omega arith)

pub gated_long : (b : List ℕ) → 2 ≤ length b → gated b ≡ b
gated_long [] long = absurd (omega arith)
gated_long (x ∷ []) long = absurd (omega arith)
gated_long (x ∷ y ∷ rest) long = refl

-- the first two calls are Ok
module _ (file : ℕ) (s0 s1 s2 : Disk) (y : Synced s0 s1) (k : Same s1 s2) where
  now_is : (m : ℕ) → s2 m ≡ settled (s0 m).seen
  now_is m = k m ∙ y m

  narrow_now : (m : ℕ) → Narrows (s0 m) (s2 m)
  narrow_now m = narrows_synced (s0 m) (s2 m) (now_is m)

  seen_is : (s1 file).seen ≡ (s0 file).seen
  seen_is = ap (λ (f : FileState). f.seen) (y file)

  -- a short file
  module _ (len : ℕ) (len_is : option_map length (s1 file).seen ≡ Some len) (short : len ≤ 1) where
    whole : (b : List ℕ) × ((s0 file).seen ≡ Some b) × (length b ≡ len)
    whole = whole_of (s0 file).seen len (ap (λ (x : Option (List ℕ)). option_map length x) (sym seen_is) ∙ len_is)

    fits : length whole.0 ≤ 1
    fits = omega (arith, whole.2)

    pub gated_keeps : (s3 : Disk) → OthersNarrow file s2 s3 → Surely (s3 file) (StaysShort (s2 file).seen) → KeepsLogs s0 s3
    gated_keeps s3 others stays m = elim (cases_eq m file) [
      | inl is ↦ subst (λ (n : ℕ). KeepsLog (s0 n) (s3 n)) (sym is)
          (λ z may. (Some whole.0, inl (sym whole.1), short_kept whole.0 z fits (subst (λ (x : Option (List ℕ)). StaysShort x z) (ap (λ (f : FileState). f.seen) (now_is file) ∙ whole.1) (stays z may))))
      | inr other ↦ λ z may. (z, narrow_now m z (others m other z may), same_log_refl z)
    ]

    pub gated_mounted : (s3 : Disk) → GateClosed file s2 s3 → Mounted file 0 [] s0 s3
    gated_mounted s3 closed = record {
      log = gate_at_rest file s2 s3 closed;
      bytes = ap (λ (f : FileState). f.seen) closed.this ∙ sym (ap (λ (x : Option (List ℕ)). option_map gated x) whole.1 ∙ ap (λ (l : List ℕ). Some l) (gated_short whole.0 fits));
      stood = subst (IsLogFile []) (sym whole.1) (inl (fits, refl));
      only = λ qs is. sym (short_none qs whole.0 fits (subst (IsLogFile qs) whole.1 is));
      others = λ m other. closed.others m other ∙ ap (λ (f : FileState). settled f.seen) (now_is m);
    }

  -- a longer file, all of it read
  module _ (bytes : List ℕ) (bytes_are : (s2 file).seen ≡ Some bytes) (long : 2 ≤ length bytes) where
    stood_is : (s0 file).seen ≡ Some bytes
    stood_is = sym (ap (λ (f : FileState). f.seen) (now_is file)) ∙ bytes_are

    pub mounted : (ps : List (List ℕ)) (end : ℕ) (s3 : Disk) → IsParsed bytes ps end → Same s2 s3 → Mounted file end ps s0 s3
    mounted ps end s3 parsed kept = record {
      log = record { bytes = bytes; file_is = kept file ∙ now_is file ∙ ap settled stood_is; spelled = parsed.spelled; end_is = parsed.end_is };
      bytes = ap (λ (f : FileState). f.seen) (kept file ∙ now_is file) ∙ stood_is ∙ sym (ap (λ (x : Option (List ℕ)). option_map gated x) stood_is ∙ ap (λ (l : List ℕ). Some l) (gated_long bytes long));
      stood = subst (IsLogFile ps) (sym stood_is) (inr parsed.spelled);
      only = λ qs is. same_list qs (long_spelled qs bytes long (subst (IsLogFile qs) stood_is is));
      others = λ m other. kept m ∙ now_is m;
    }
      where
        same_list : (qs : List (List ℕ)) → IsSpelled qs bytes → ps ≡ qs
        same_list qs s = one_list ps qs parsed.spelled.gate s.gate parsed.spelled.rest s.rest parsed.spelled.fit s.fit parsed.spelled.shut s.shut (sym parsed.spelled.bytes_are ∙ s.bytes_are)

    pub damaged : (at : ℕ) → IsBroken bytes at → IsDamaged (s0 file).seen at
    damaged at broken = subst (λ (x : Option (List ℕ)). IsDamaged x at) (sym stood_is) (long, broken)

  -- what was read is as long as was told
  pub as_long : (bytes : List ℕ) (len : ℕ) → (s2 file).seen ≡ Some bytes → option_map length (s1 file).seen ≡ Some len → 1 < len → 2 ≤ length bytes
  as_long bytes len bytes_are len_is more =
      let here : option_map length (Some bytes) ≡ Some len = ap (λ (x : Option (List ℕ)). option_map length x) (sym bytes_are ∙ ap (λ (f : FileState). f.seen) (k file)) ∙ len_is in
      let whole_is = whole_of (Some bytes) len here in
      let same : bytes ≡ whole_is.0 = cc in
      omega (arith, ap length same, whole_is.2, more)

  pub gated_others : (s3 : Disk) → OthersNarrow file s2 s3 → OthersNarrow file s0 s3
  gated_others s3 others m other = narrows_trans (s0 m) (s2 m) (s3 m) (narrow_now m) (others m other)
