-- The steps of reading a log block by block.
use Rattle.std.proofs.Common.{◌≡◌, ◌⊎◌, inl, inr, ℕ, ◌+◌, ◌≤◌, ◌<◌, List, [], ◌∷◌, ◌++◌, length, take, drop, Option, Some, None, Result, Err, refl, sym, ◌∙◌, ap, subst, arith, append_assoc, length-append, take-append-drop}
use Rattle.std.proofs.lemmas.List.{take_at, drop_at, drop-drop}
use Rattle.std.specs.Int.{to_be_bytes, w32}
use Rattle.std.specs.Option.{option_map}
use Rattle.rdf_disk.specs.declared.fault.DiskFault.{DiskFault}
use Rattle.rdf_disk.specs.Files.{FileState, Disk, bytes_of, settled}
use Rattle.rdf_disk.specs.Outcomes.{Narrows}
use Rattle.rdf_disk.specs.Calls.{Same, Synced, Looks}
use Rattle.rdf_disk.specs.OutcomeLaws.{looks_narrows, narrows_same, narrows_trans}
use Rattle.rdf_gatelog.specs.declared.fault.LogFault.{LogFault}
use Rattle.rdf_gatelog.specs.declared.fault.LogFault.TheVariants.{Damaged}
use Rattle.rdf_gatelog.specs.Log.{IsPayload, framed, open_blocks, IsLogFile, IsBroken, IsDamaged}
use Rattle.rdf_gatelog.specs.LogCalls.{SameLog, Mounted, gated}
use Rattle.rdf_gatelog.specs.LogLaws.{one_log}
use Rattle.rdf_gatelog.specs.LogReading.{ReaderPlace, IsReading, Begun}
use Rattle.rdf_gatelog.proofs.AppendLaws.{fit-append}
use Rattle.rdf_gatelog.proofs.ParseLaws.{block_behind, length-open_blocks-push}
use Rattle.rdf_gatelog.proofs.MountLaws.{whole_of, gated_long, same_log_refl}

-- ---- the next block

first_open : (rest head : List ℕ) → head ≡ take 5 rest → head ≡ 1 ∷ drop 1 head → rest ≡ 1 ∷ drop 1 rest
first_open [] head is shows = cc
first_open (x ∷ xs) head is shows = let one : x ≡ 1 = cc in ap (λ (y : ℕ). y ∷ xs) one

not_shut : (given : List (List ℕ)) (tail : List ℕ) → open_blocks given ++ 1 ∷ tail ≡ 0 ∷ [] → ⊥
not_shut [] tail is = cc
not_shut (p ∷ given) tail is = cc

-- a block and the gate behind it, cut behind that gate
cut_behind : (p r block : List ℕ) (want : ℕ) → want ≡ 5 + length p → 1 ≤ length r → block ≡ take want (framed p ++ r) → (x : ℕ) × (block ≡ framed p ++ x ∷ [])
cut_behind p [] block want is long cut = absurd (omega (arith, long))
cut_behind p (x ∷ r) block want is long cut = (
  x,
  cut ∙ ap (λ (l : List ℕ). take want l) (sym (append_assoc (framed p) (x ∷ []) r))
      ∙ take_at (framed p ++ x ∷ []) r want (omega (arith, is, length-append (framed p) (x ∷ []), length-append (to_be_bytes w32 (length p)) p)),
)

module _ (place : ReaderPlace) (given : List (List ℕ)) (s0 : Disk) (i : IsReading place given s0) (head : List ℕ)
    (head_is : head ≡ take 5 (drop place.at (bytes_of (s0 place.file).seen))) (shows : head ≡ 1 ∷ drop 1 head) where
  seen_is : bytes_of (s0 place.file).seen ≡ i.bytes
  seen_is = ap (λ (f : FileState). bytes_of f.seen) i.file_is

  rest_is : drop place.at (bytes_of (s0 place.file).seen) ≡ i.rest
  rest_is = ap (λ (l : List ℕ). drop place.at l) (seen_is ∙ i.bytes_are) ∙ drop_at (open_blocks given) i.rest place.at (sym i.at_is)

  abbrev tail : List ℕ
  tail = drop 1 i.rest

  opens : i.rest ≡ 1 ∷ tail
  opens = first_open i.rest head (head_is ∙ ap (λ (l : List ℕ). take 5 l) rest_is) shows

  tail_is : drop (place.at + 1) (bytes_of (s0 place.file).seen) ≡ tail
  tail_is = sym (drop-drop 1 place.at (bytes_of (s0 place.file).seen)) ∙ ap (λ (l : List ℕ). drop 1 l) rest_is

  -- a block stands there
  pub gives_one : (p block behind : List ℕ) (want : ℕ) (s1 : Disk) → IsPayload p → block ≡ take want (drop (place.at + 1) (bytes_of (s0 place.file).seen)) → block ≡ framed p ++ behind → 1 ≤ length behind
      → Same s0 s1 → IsReading (record { file = place.file; at = place.at + 5 + length p }) (given ++ p ∷ []) s1
  gives_one p block behind want s1 fits block_is split gate same =
      let after : tail ≡ framed p ++ (behind ++ drop want tail) =
      sym (take-append-drop want tail) ∙ ap (λ (l : List ℕ). l ++ drop want tail) (ap (λ (l : List ℕ). take want l) (sym tail_is) ∙ sym block_is ∙ split) ∙ append_assoc (framed p) behind (drop want tail) in
      record {
        bytes = i.bytes;
        rest = behind ++ drop want tail;
        file_is = same place.file ∙ i.file_is;
        bytes_are = block_behind i.bytes given p i.rest tail (behind ++ drop want tail) i.bytes_are opens after;
        left = omega (arith, gate, length-append behind (drop want tail));
        whole = i.whole;
        at_is = omega (arith, i.at_is, length-open_blocks-push given p);
        fit = fit-append given p i.fit fits;
      }

  -- no block stands there
  module _ (block : List ℕ) (want : ℕ) (block_is : block ≡ take want (drop (place.at + 1) (bytes_of (s0 place.file).seen)))
      (want_is : (p : List ℕ) → IsPayload p → head ≡ 1 ∷ to_be_bytes w32 (length p) → want ≡ 5 + length p)
      (none : (p r : List ℕ) → IsPayload p → block ≡ framed p ++ r → 1 ≤ length r → ⊥) where
    no_block : (p r : List ℕ) → IsPayload p → tail ≡ framed p ++ r → 1 ≤ length r → ⊥
    no_block p r fits is long =
        let begins : take 4 tail ≡ to_be_bytes w32 (length p) = ap (λ (l : List ℕ). take 4 l) (is ∙ append_assoc (to_be_bytes w32 (length p)) p r) ∙ take_at (to_be_bytes w32 (length p)) (p ++ r) 4 refl in
        let spelled : head ≡ 1 ∷ to_be_bytes w32 (length p) = head_is ∙ ap (λ (l : List ℕ). take 5 l) (rest_is ∙ opens) ∙ ap (λ (l : List ℕ). 1 ∷ l) begins in
        let found = cut_behind p r block want (want_is p fits spelled) long (block_is ∙ ap (λ (l : List ℕ). take want l) (tail_is ∙ is)) in
        none p (found.0 ∷ []) fits found.1 (omega arith)

    pub breaks : IsDamaged (s0 place.file).seen place.at
    breaks = subst (λ (f : FileState). IsDamaged f.seen place.at) (sym i.file_is) (
      long i.whole,
      record {
        payloads = given;
        tail = tail;
        bytes_are = i.bytes_are ∙ ap (λ (l : List ℕ). open_blocks given ++ l) opens;
        at_is = i.at_is;
        fit = i.fit;
        no_block = no_block;
      },
    )
      where
        long : (2 ≤ length i.bytes) ⊎ (i.bytes ≡ 0 ∷ []) → 2 ≤ length i.bytes
        long (inl is) = is
        long (inr is) = absurd (not_shut given tail (sym (i.bytes_are ∙ ap (λ (l : List ℕ). open_blocks given ++ l) opens) ∙ is))

pub head_open : (head now : List ℕ) → now ≡ head → now ≡ 1 ∷ drop 1 now → head ≡ 1 ∷ drop 1 head
head_open head now is shows = subst (λ (l : List ℕ). l ≡ 1 ∷ drop 1 l) is shows

-- the damage that is told is the one that is there
pub told_damaged : {T : Type 0} (file place f at : ℕ) (s0 : Disk) (reader : ReaderPlace) → record { file = file; at = place } ≡ reader → ◌≡◌ {A = Result T LogFault} (Err (Damaged file place)) (Err (Damaged f at))
    → IsDamaged (s0 file).seen place → (f ≡ reader.file) × IsDamaged (s0 reader.file).seen at
told_damaged file place f at s0 reader view told damaged =
    let same_file : f ≡ file = cc in
    let same_place : place ≡ at = cc in
    let here : file ≡ reader.file = ap (λ (r : ReaderPlace). r.file) view in
    (same_file ∙ here, subst (λ (n : ℕ). IsDamaged (s0 n).seen at) here (subst (IsDamaged (s0 file).seen) same_place damaged))

-- ---- the opening

both_logs : (ps : List (List ℕ)) (x y : Option (List ℕ)) → IsLogFile ps x → IsLogFile ps y → SameLog x y
both_logs ps x y px py = record {
  logs = λ qs is. subst (λ (l : List (List ℕ)). IsLogFile l y) (one_log ps qs x px is) py;
  logs_back = λ qs is. subst (λ (l : List (List ℕ)). IsLogFile l x) (one_log ps qs y py is) px;
  absent = λ none. absurd (subst (IsLogFile ps) none px);
  absent_back = λ none. absurd (subst (IsLogFile ps) none py);
}

pub begun_short : (file : ℕ) (s0 s3 : Disk) → Mounted file 0 [] s0 s3 → s3 file ≡ settled (Some (0 ∷ [])) → Begun (record { file = file; at = 0 }) s0 s3
begun_short file s0 s3 m is = record {
  reading = record { bytes = 0 ∷ []; rest = 0 ∷ []; file_is = is; bytes_are = refl; left = omega arith; whole = inr refl; at_is = refl; fit = tt };
  bytes = m.bytes;
  same = both_logs [] (s0 file).seen (s3 file).seen m.stood (subst (λ (f : FileState). IsLogFile [] f.seen) (sym is) (inl (omega arith, refl)));
  others = m.others;
}

pub begun_long : (file : ℕ) (s0 s1 s2 : Disk) → Synced s0 s1 → Same s1 s2 → (len : ℕ) → option_map length (s1 file).seen ≡ Some len → 1 < len → Begun (record { file = file; at = 0 }) s0 s2
begun_long file s0 s1 s2 y k len len_is more =
    let w = whole_of (s1 file).seen len len_is in
    let long : 2 ≤ length w.0 = omega (arith, w.2, more) in
    let stood : (s0 file).seen ≡ Some w.0 = sym (ap (λ (f : FileState). f.seen) (y file)) ∙ w.1 in
    let now : (s2 file).seen ≡ (s0 file).seen = ap (λ (f : FileState). f.seen) (k file ∙ y file) in
    record {
      reading = record { bytes = w.0; rest = w.0; file_is = k file ∙ y file ∙ ap settled stood; bytes_are = refl; left = omega (arith, long); whole = inl long; at_is = refl; fit = tt };
      bytes = now ∙ stood ∙ sym (ap (λ (x : Option (List ℕ)). option_map gated x) stood ∙ ap (λ (l : List ℕ). Some l) (gated_long w.0 long));
      same = subst (λ (x : Option (List ℕ)). SameLog (s0 file).seen x) (sym now) (same_log_refl (s0 file).seen);
      others = λ m other. k m ∙ y m;
    }
