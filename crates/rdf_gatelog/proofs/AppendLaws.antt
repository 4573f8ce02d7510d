-- What a stop may leave within an append.
use Rattle.std.proofs.Common.{◌≡◌, ◌≢◌, ◌⊎◌, inl, inr, ℕ, ◌+◌, ◌≤◌, List, [], ◌∷◌, ◌++◌, length, get_or, take, drop, Option, Some, Result, Ok, Err, refl, sym, ◌∙◌, ap, subst, arith, append_assoc, length-append, take-append-drop}
use Rattle.std.proofs.lemmas.List.{take_at, drop_at, drop_more, append-nil}
use Rattle.std.proofs.lemmas.Bool.{cases_eq}
use Rattle.std.specs.List.{AllByRecursion}
use Rattle.rdf_disk.specs.declared.fault.DiskFault.{DiskFault}
use Rattle.rdf_disk.specs.Files.{FileState, Disk, bytes_of, settled, patched, IsTorn}
use Rattle.rdf_disk.specs.Outcomes.{Surely, Narrows}
use Rattle.rdf_disk.specs.Calls.{Synced, Syncs, Wrote, Writes}
use Rattle.rdf_disk.specs.OutcomeLaws.{write_torn, writes_narrow, syncs_narrows, narrows_synced, narrows_trans}
use Rattle.rdf_gatelog.specs.declared.fault.LogFault.{LogFault}
use Rattle.rdf_gatelog.specs.Log.{IsPayload, framed, open_blocks, IsLog, IsAtRest}
use Rattle.rdf_gatelog.specs.LogCalls.{OthersSynced, OthersNarrow, IsBeforeOrAfterAll, AppendsAll, AreBehind}
use Rattle.rdf_gatelog.specs.LogLaws.{length-framed}

-- blocks behind others, and what follows them
pub open_blocks-join : (ps qs : List (List ℕ)) (rest : List ℕ) → open_blocks (ps ++ qs) ++ rest ≡ open_blocks ps ++ (open_blocks qs ++ rest)
open_blocks-join [] qs rest = refl
open_blocks-join (p ∷ ps) qs rest =
    append_assoc (1 ∷ framed p) (open_blocks (ps ++ qs)) rest
    ∙ ap (λ (l : List ℕ). (1 ∷ framed p) ++ l) (open_blocks-join ps qs rest)
    ∙ sym (append_assoc (1 ∷ framed p) (open_blocks ps) (open_blocks qs ++ rest))

pub fit-join : (ps qs : List (List ℕ)) → AllByRecursion IsPayload ps → AllByRecursion IsPayload qs → AllByRecursion IsPayload (ps ++ qs)
fit-join [] qs fit more = more
fit-join (p ∷ ps) qs fit more = (fit.0, fit-join ps qs fit.1 more)

pub open_blocks-append : (ps : List (List ℕ)) (p rest : List ℕ) → open_blocks (ps ++ p ∷ []) ++ rest ≡ open_blocks ps ++ ((1 ∷ framed p) ++ rest)
open_blocks-append ps p rest = open_blocks-join ps (p ∷ []) rest ∙ ap (λ (l : List ℕ). open_blocks ps ++ (l ++ rest)) (append-nil (1 ∷ framed p))

pub fit-append : (ps : List (List ℕ)) (p : List ℕ) → AllByRecursion IsPayload ps → IsPayload p → AllByRecursion IsPayload (ps ++ p ∷ [])
fit-append ps p fit here = fit-join ps (p ∷ []) fit (here, tt)

module _ (ps more : List (List ℕ)) (block : List ℕ) (fit : AllByRecursion IsPayload ps) (are : AreBehind more block)
    (end : ℕ) (end_is : end ≡ length (open_blocks ps)) (gate : ℕ) (rest : List ℕ) (shut : gate ≢ 1) where
  abbrev old_bytes : List ℕ
  old_bytes = open_blocks ps ++ gate ∷ rest

  abbrev behind : List ℕ
  behind = drop (end + 1 + length block) old_bytes

  -- the file with the block behind the closed gate
  abbrev staged : List ℕ
  staged = open_blocks ps ++ gate ∷ (block ++ behind)

  long : end + 1 ≤ length old_bytes
  long = omega (arith, length-append (open_blocks ps) (gate ∷ rest))

  split : old_bytes ≡ (open_blocks ps ++ gate ∷ []) ++ rest
  split = sym (append_assoc (open_blocks ps) (gate ∷ []) rest)

  front : take (end + 1) old_bytes ≡ open_blocks ps ++ gate ∷ []
  front = ap (λ (l : List ℕ). take (end + 1) l) split ∙ take_at (open_blocks ps ++ gate ∷ []) rest (end + 1) (omega (arith, length-append (open_blocks ps) (gate ∷ [])))

  -- the closed gate stands in each outcome of the first write
  torn_behind : (c : List ℕ) → IsTorn (end + 1) (length block) old_bytes c → IsLog ps c
  torn_behind c torn =
      let whole : c ≡ open_blocks ps ++ gate ∷ drop (end + 1) c =
      sym (take-append-drop (end + 1) c) ∙ ap (λ (l : List ℕ). l ++ drop (end + 1) c) (torn.before ∙ front) ∙ append_assoc (open_blocks ps) (gate ∷ []) (drop (end + 1) c) in
      inr (record { gate = gate; rest = drop (end + 1) c; shut = shut; bytes_are = whole; fit = fit })

  patched_behind : patched old_bytes (end + 1) block ≡ staged
  patched_behind =
      ap (λ (l : List ℕ). l ++ block ++ behind) front
      ∙ append_assoc (open_blocks ps ++ gate ∷ []) block behind
      ∙ append_assoc (open_blocks ps) (gate ∷ []) (block ++ behind)

  staged_front : take end staged ≡ open_blocks ps
  staged_front = take_at (open_blocks ps) (gate ∷ (block ++ behind)) end (sym end_is)

  staged_back : drop (end + 1) staged ≡ block ++ behind
  staged_back =
      ap (λ (l : List ℕ). drop (end + 1) l) (sym (append_assoc (open_blocks ps) (gate ∷ []) (block ++ behind)))
      ∙ drop_at (open_blocks ps ++ gate ∷ []) (block ++ behind) (end + 1) (omega (arith, length-append (open_blocks ps) (gate ∷ [])))

  staged_long : end + 1 ≤ length staged
  staged_long = omega (arith, length-append (open_blocks ps) (gate ∷ (block ++ behind)))

  opened : open_blocks ps ++ 1 ∷ (block ++ behind) ≡ open_blocks (ps ++ more) ++ 0 ∷ behind
  opened =
      ap (λ (l : List ℕ). open_blocks ps ++ (l ++ behind)) are.bytes_are
      ∙ ap (λ (l : List ℕ). open_blocks ps ++ l) (append_assoc (open_blocks more) (0 ∷ []) behind)
      ∙ sym (open_blocks-join ps more (0 ∷ behind))

  -- the block stands whole in each outcome of the second write
  torn_gate : (c : List ℕ) → IsTorn end 1 staged c → IsLog ps c ⊎ IsLog (ps ++ more) c
  torn_gate c torn =
      let x = get_or c end 0 in
      let back : drop end c ≡ x ∷ (block ++ behind) =
      drop_more c end 0 (omega (arith, torn.no_shorter, staged_long)) ∙ ap (λ (l : List ℕ). x ∷ l) (torn.after ∙ staged_back) in
      let whole : c ≡ open_blocks ps ++ x ∷ (block ++ behind) =
      sym (take-append-drop end c) ∙ ap (λ (l : List ℕ). l ++ drop end c) (torn.before ∙ staged_front) ∙ ap (λ (l : List ℕ). open_blocks ps ++ l) back in
      elim (cases_eq x 1) [
        | inl is_open ↦ inr (inr (record { gate = 0; rest = behind; shut = omega arith; bytes_are = whole ∙ ap (λ (y : ℕ). open_blocks ps ++ y ∷ (block ++ behind)) is_open ∙ opened; fit = fit-join ps more fit are.fit }))
        | inr is_shut ↦ inl (inr (record { gate = x; rest = block ++ behind; shut = is_shut; bytes_are = whole; fit = fit }))
      ]

  patched_gate : patched staged end (1 ∷ []) ≡ open_blocks (ps ++ more) ++ 0 ∷ behind
  patched_gate =
      ap (λ (l : List ℕ). l ++ (1 ∷ []) ++ drop (end + 1) staged) staged_front
      ∙ ap (λ (l : List ℕ). open_blocks ps ++ (1 ∷ []) ++ l) staged_back
      ∙ append_assoc (open_blocks ps) (1 ∷ []) (block ++ behind)
      ∙ opened

  -- after the first write, whatever it answers
  pub after_first : {T : Type 0} (file : ℕ) (r : Result T DiskFault) (s0 s1 : Disk)
      → s0 file ≡ settled (Some old_bytes) → Writes file (end + 1) block r s0 s1 → Surely (s1 file) (IsBeforeOrAfterAll ps more)
  after_first file r s0 s1 was w x may =
      let torn = write_torn old_bytes (end + 1) (length block) long file block r s0 s1 refl was w x may in
      subst (IsBeforeOrAfterAll ps more) (sym torn.1) (inl (torn_behind torn.0 torn.2))

  -- after the first write and the sync
  pub is_staged : (file : ℕ) (s0 s1 s2 : Disk)
      → s0 file ≡ settled (Some old_bytes) → Wrote file (end + 1) block s0 s1 → Synced s1 s2 → s2 file ≡ settled (Some staged)
  is_staged file s0 s1 s2 was w y =
      y file
      ∙ ap (λ (f : FileState). settled f.seen) w.this
      ∙ ap (λ (f : FileState). settled (Some (patched (bytes_of f.seen) (end + 1) block))) was
      ∙ ap (λ (l : List ℕ). settled (Some l)) patched_behind

  -- after the second write, whatever it answers
  pub after_second : {T : Type 0} (file : ℕ) (r : Result T DiskFault) (s2 s3 : Disk)
      → s2 file ≡ settled (Some staged) → Writes file end (1 ∷ []) r s2 s3 → Surely (s3 file) (IsBeforeOrAfterAll ps more)
  after_second file r s2 s3 was w x may =
      let torn = write_torn staged end 1 (omega (arith, staged_long)) file (1 ∷ []) r s2 s3 refl was w x may in
      subst (IsBeforeOrAfterAll ps more) (sym torn.1) (torn_gate torn.0 torn.2)

  length-open_blocks-more : length (open_blocks (ps ++ more)) ≡ end + length block
  length-open_blocks-more = omega (arith, ap length opened, length-append (open_blocks ps) (1 ∷ (block ++ behind)), length-append block behind, length-append (open_blocks (ps ++ more)) (0 ∷ behind), end_is)

  -- after the whole append
  pub is_at_rest : (file new_end : ℕ) (s2 s3 s4 : Disk)
      → new_end ≡ end + length block → s2 file ≡ settled (Some staged) → Wrote file end (1 ∷ []) s2 s3 → Synced s3 s4
      → IsAtRest file new_end (ps ++ more) s4
  is_at_rest file new_end s2 s3 s4 new_end_is was w y = record {
    bytes = open_blocks (ps ++ more) ++ 0 ∷ behind;
    spelled = record { gate = 0; rest = behind; shut = omega arith; bytes_are = refl; fit = fit-join ps more fit are.fit };
    file_is =
        y file
        ∙ ap (λ (f : FileState). settled f.seen) w.this
        ∙ ap (λ (f : FileState). settled (Some (patched (bytes_of f.seen) end (1 ∷ [])))) was
        ∙ ap (λ (l : List ℕ). settled (Some l)) patched_gate;
    end_is = omega (arith, length-open_blocks-more);
  }

-- the file of a log at rest
pub file_is_spelled : (file end : ℕ) (ps : List (List ℕ)) (disk : Disk) (a : IsAtRest file end ps disk) → disk file ≡ settled (Some (open_blocks ps ++ a.spelled.gate ∷ a.spelled.rest))
file_is_spelled file end ps disk a = a.file_is ∙ ap (λ (l : List ℕ). settled (Some l)) a.spelled.bytes_are

-- the other files, over the four calls
pub others_synced : (file at : ℕ) (bytes : List ℕ) (s0 s1 s2 : Disk)
    → Wrote file at bytes s0 s1 → Synced s1 s2 → OthersSynced file s0 s2
others_synced file at bytes s0 s1 s2 w y m other = y m ∙ ap (λ (f : FileState). settled f.seen) (w.others m other)

pub synced_twice : (file : ℕ) (s0 s2 s4 : Disk) → OthersSynced file s0 s2 → OthersSynced file s2 s4 → OthersSynced file s0 s4
synced_twice file s0 s2 s4 a b m other = b m other ∙ ap (λ (f : FileState). settled f.seen) (a m other)

pub synced_narrow : (file : ℕ) (s0 s2 : Disk) → OthersSynced file s0 s2 → OthersNarrow file s0 s2
synced_narrow file s0 s2 a m other = narrows_synced (s0 m) (s2 m) (a m other)

pub narrow_trans : (file : ℕ) (s0 s1 s2 : Disk) → OthersNarrow file s0 s1 → OthersNarrow file s1 s2 → OthersNarrow file s0 s2
narrow_trans file s0 s1 s2 a b m other = narrows_trans (s0 m) (s1 m) (s2 m) (a m other) (b m other)

pub then_narrows : (f g : FileState) (P : Option (List ℕ) → Type 0) → Surely f P → Narrows f g → Surely g P
then_narrows f g P surely narrows x may = surely x (narrows x may)

-- an answer that is an error
pub appends_err : {R : Type 0} (file end new_end : ℕ) (more : List (List ℕ)) (r : Result R LogFault) (e : LogFault) (s0 s : Disk) → r ≡ Err e
    → ((ps : List (List ℕ)) → IsAtRest file end ps s0 → Surely (s file) (IsBeforeOrAfterAll ps more)) → OthersNarrow file s0 s → AppendsAll file end new_end more r s0 s
appends_err {R = R} file end new_end more r e s0 s is here others = subst (λ (q : Result R LogFault). AppendsAll file end new_end more q s0 s) (sym is) (here, others)

-- each exit of an append
module _ {R : Type 0} (file end new_end : ℕ) (more : List (List ℕ)) (block : List ℕ) (are : AreBehind more block) (res : Result R LogFault) (e : LogFault) (is : res ≡ Err e) where
  first_written : {T : Type 0} (r : Result T DiskFault) (s0 s1 : Disk) → Writes file (end + 1) block r s0 s1 → (ps : List (List ℕ)) → IsAtRest file end ps s0 → Surely (s1 file) (IsBeforeOrAfterAll ps more)
  first_written r s0 s1 w ps a = after_first ps more block a.spelled.fit are end a.end_is a.spelled.gate a.spelled.rest a.spelled.shut file r s0 s1 (file_is_spelled file end ps s0 a) w

  pub exit_first : {T : Type 0} (r : Result T DiskFault) (s0 s1 : Disk) → Writes file (end + 1) block r s0 s1 → AppendsAll file end new_end more res s0 s1
  exit_first r s0 s1 w = appends_err file end new_end more res e s0 s1 is (first_written r s0 s1 w) (writes_narrow file (end + 1) block r s0 s1 w)

  pub exit_first_sync : {T U : Type 0} (r : Result T DiskFault) (q : Result U DiskFault) (s0 s1 s2 : Disk) → Writes file (end + 1) block r s0 s1 → Syncs q s1 s2 → AppendsAll file end new_end more res s0 s2
  exit_first_sync r q s0 s1 s2 w y =
      appends_err file end new_end more res e s0 s2 is
      (λ ps a. then_narrows (s1 file) (s2 file) (IsBeforeOrAfterAll ps more) (first_written r s0 s1 w ps a) (syncs_narrows q s1 s2 y file))
      (narrow_trans file s0 s1 s2 (writes_narrow file (end + 1) block r s0 s1 w) (λ m other. syncs_narrows q s1 s2 y m))

-- the first two calls are Ok
module _ (file end new_end : ℕ) (more : List (List ℕ)) (block : List ℕ) (are : AreBehind more block) (s0 s1 s2 : Disk)
    (w : Wrote file (end + 1) block s0 s1) (y : Synced s1 s2) where
  others : OthersSynced file s0 s2
  others = others_synced file (end + 1) block s0 s1 s2 w y

  abbrev staged_of : (ps : List (List ℕ)) → IsAtRest file end ps s0 → List ℕ
  staged_of ps a = staged ps more block a.spelled.fit are end a.end_is a.spelled.gate a.spelled.rest a.spelled.shut

  staged_is : (ps : List (List ℕ)) (a : IsAtRest file end ps s0) → s2 file ≡ settled (Some (staged_of ps a))
  staged_is ps a = is_staged ps more block a.spelled.fit are end a.end_is a.spelled.gate a.spelled.rest a.spelled.shut file s0 s1 s2 (file_is_spelled file end ps s0 a) w y

  module _ {R : Type 0} (res : Result R LogFault) (e : LogFault) (is : res ≡ Err e) where
    gate_written : {V : Type 0} (r : Result V DiskFault) (s3 : Disk) → Writes file end (1 ∷ []) r s2 s3 → (ps : List (List ℕ)) → IsAtRest file end ps s0 → Surely (s3 file) (IsBeforeOrAfterAll ps more)
    gate_written r s3 w2 ps a = after_second ps more block a.spelled.fit are end a.end_is a.spelled.gate a.spelled.rest a.spelled.shut file r s2 s3 (staged_is ps a) w2

    narrow : {V : Type 0} (r : Result V DiskFault) (s3 : Disk) → Writes file end (1 ∷ []) r s2 s3 → OthersNarrow file s0 s3
    narrow r s3 w2 = narrow_trans file s0 s2 s3 (synced_narrow file s0 s2 others) (writes_narrow file end (1 ∷ []) r s2 s3 w2)

    pub exit_second : {V : Type 0} (r : Result V DiskFault) (s3 : Disk) → Writes file end (1 ∷ []) r s2 s3 → AppendsAll file end new_end more res s0 s3
    exit_second r s3 w2 = appends_err file end new_end more res e s0 s3 is (gate_written r s3 w2) (narrow r s3 w2)

    pub exit_second_sync : {V W : Type 0} (r : Result V DiskFault) (q : Result W DiskFault) (s3 s4 : Disk) → Writes file end (1 ∷ []) r s2 s3 → Syncs q s3 s4 → AppendsAll file end new_end more res s0 s4
    exit_second_sync r q s3 s4 w2 y2 =
        appends_err file end new_end more res e s0 s4 is
        (λ ps a. then_narrows (s3 file) (s4 file) (IsBeforeOrAfterAll ps more) (gate_written r s3 w2 ps a) (syncs_narrows q s3 s4 y2 file))
        (narrow_trans file s0 s3 s4 (narrow r s3 w2) (λ m other. syncs_narrows q s3 s4 y2 m))

  pub exit_ok : {R : Type 0} (x : R) (s3 s4 : Disk) → new_end ≡ end + length block → Wrote file end (1 ∷ []) s2 s3 → Synced s3 s4 → AppendsAll {T = R} file end new_end more (Ok x) s0 s4
  exit_ok x s3 s4 new_end_is w2 y2 = (
    λ ps a. is_at_rest ps more block a.spelled.fit are end a.end_is a.spelled.gate a.spelled.rest a.spelled.shut file new_end s2 s3 s4 new_end_is (staged_is ps a) w2 y2,
    synced_twice file s0 s2 s4 others (others_synced file end (1 ∷ []) s2 s3 s4 w2 y2),
  )

-- an append of all ended in this place
pub ended_at : {T R : Type 0} (file end new_end here : ℕ) (more : List (List ℕ)) (x : T) (y : R) (s0 s : Disk) → here ≡ new_end → AppendsAll {T = T} file end new_end more (Ok x) s0 s → AppendsAll {T = R} file end here more (Ok y) s0 s
ended_at {R = R} file end new_end here more x y s0 s same a = subst (λ (n : ℕ). AppendsAll {T = R} file end n more (Ok y) s0 s) (sym same) a

-- one block behind its gate
pub one_behind : (p block : List ℕ) → IsPayload p → block ≡ framed p ++ 0 ∷ [] → AreBehind (p ∷ []) block
one_behind p block fits is = record {
  bytes_are = ap (λ (l : List ℕ). 1 ∷ l) is ∙ ap (λ (l : List ℕ). l ++ 0 ∷ []) (sym (append-nil (1 ∷ framed p)));
  fit = (fits, tt);
}

pub length-one_behind : (p block : List ℕ) → block ≡ framed p ++ 0 ∷ [] → length block ≡ 5 + length p
length-one_behind p block is = omega (arith, ap length is, length-append (framed p) (0 ∷ []), length-framed p)
