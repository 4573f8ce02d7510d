-- What the calls of a disk in memory do, as calls of a disk.
use Rattle.std.proofs.Common.{◌≡◌, ◌≢◌, inl, inr, ℕ, ◌≤◌, ◌==◌, nat_eq, if◌then◌else◌, Bool, true, false, List, length, Option, Some, None, Result, Ok, Err, refl, sym, ◌∙◌, ap, subst, arith}
use Rattle.rdf_disk.specs.declared.fault.DiskFault.{DiskFault}
use Rattle.rdf_disk.specs.declared.fault.DiskFault.TheVariants.{Stopped, Failed, NoMemory}
use Rattle.rdf_disk.specs.declared.fault.Tear.{Tear}
use Rattle.rdf_disk.specs.declared.fault.Tear.TheVariants.{Lose, Keep}
use Rattle.rdf_disk.specs.declared.memory.MemDisk.{MemDisk}
use Rattle.rdf_disk.specs.declared.memory_meter.Meter.{Meter}
use Rattle.rdf_disk.specs.declared.memory_meter.Fuse.{Fuse}
use Rattle.std.specs.List.{list_any}
use Rattle.std.proofs.lemmas.Bool.{cases_eq}
use Rattle.std.proofs.lemmas.Bool.Decides.{nat_tests}
use Rattle.rdf_disk.specs.declared.memory_meter.Turn.{Turn}
use Rattle.rdf_disk.specs.declared.memory_meter.Turn.TheVariants.{Go, Fail, Stop, Off}
use Rattle.rdf_disk.specs.Files.{FileState, bytes_of, patched, touched, unlinked, IsTornFile}
use Rattle.rdf_disk.specs.Outcomes.{Settles}
use Rattle.rdf_disk.specs.Counts.{Causes, ending, Faulted, WasStopped}
use Rattle.rdf_disk.specs.Calls.{AllSettle, Looks, Writes, Removes}
use Rattle.rdf_disk.specs.MemoryChanges.{Change, Write, Remove, FailedRemove, ranges, was_removed, Told, quiet, changed, state_of, IsTold}
use Rattle.rdf_disk.specs.MemoryMeters.{counts_of, listed, fused_turn, turn_of, counted, IsAnswer}
use Rattle.rdf_disk.specs.MemoryDisks.{tells_of, files_of, unlinked_by, IsCounted, IsLook, IsWrite, IsRemoval, IsAsBefore, DoesWrite, DoesRemoval}
use Rattle.rdf_disk.specs.OutcomeLaws.{torn_same}
use Rattle.rdf_disk.proofs.EditLaws.{touch_outcome, unlink_outcome}
use Rattle.rdf_disk.proofs.MemoryTears.{left_settles, pad_none}
use Rattle.rdf_disk.proofs.MemoryEdits.{changed_told, begins_write}
use Rattle.rdf_disk.proofs.MemoryFilesLaws.{told_at_is, still}

-- a disk that is off, or stops, tells an outcome of each file
pub stop_settles : (tear : Tear) (old new : MemDisk) → IsLook (Stop tear) old new → AllSettle (files_of old) (files_of new)
stop_settles tear old new look m = left_settles tear (tells_of old m) (tells_of new m) (told_at_is old.files.entries m) (look m)

pub off_settles : (old new : MemDisk) → IsLook Off old new → old.meter.off ≡ true → AllSettle (files_of old) (files_of new)
off_settles old new look off m =
    let t = tells_of old m in
    let is = told_at_is old.files.entries m in
    left_settles Keep t (tells_of new m) is (look m ∙ still Keep t is (old.still off m))

picked : (c b : Bool) (tear : Tear) → (if c then Stop tear else if b then Fail else Go) ≡ Off → ⊥
picked true b tear is = cc
picked false true tear is = cc
picked false false tear is = cc

off_parts : (off : Bool) (fuse : Option Fuse) (b : Bool) → (if off then Off else fused_turn fuse (if b then Fail else Go)) ≡ Off → off ≡ true
off_parts true fuse b is = refl
off_parts false None true is = cc
off_parts false None false is = cc
off_parts false (Some f) b is = absurd (picked (f.left == 0) b f.tear is)

-- only a call on a disk that is off isn't counted
pub off_turn : (m : Meter) → turn_of m ≡ Off → m.off ≡ true
off_turn m is = off_parts m.off m.fuse (list_any (nat_eq m.calls) m.fails.items) is

on_parts : (off : Bool) (rest turn : Turn) → (if off then Off else rest) ≡ turn → turn ≢ Off → off ≡ false
on_parts true rest turn is on = absurd (on (sym is))
on_parts false rest turn is on = refl

pub on_turn : (m : Meter) (turn : Turn) → turn ≡ turn_of m → turn ≢ Off → m.off ≡ false
on_turn m turn is on = on_parts m.off (fused_turn m.fuse (listed m)) turn (sym is) on

pub looks_of : {T : Type 0} (result : Result T DiskFault) (turn : Turn) (old new : MemDisk) → turn ≡ turn_of old.meter → IsAnswer turn result → IsLook turn old new → Looks result (files_of old) (files_of new)
looks_of (Ok x) Go old new is answer look = λ m. ap state_of (look m)
looks_of (Ok x) Fail old new is answer look = absurd answer
looks_of (Ok x) (Stop tear) old new is answer look = absurd answer
looks_of (Ok x) Off old new is answer look = absurd answer
looks_of (Err e) Go old new is answer look = absurd answer
looks_of {T} (Err e) Fail old new is answer look = subst (λ (f : DiskFault). Looks {T = T} (Err f) (files_of old) (files_of new)) (sym answer) (λ m. ap state_of (look m))
looks_of {T} (Err e) (Stop tear) old new is answer look = subst (λ (f : DiskFault). Looks {T = T} (Err f) (files_of old) (files_of new)) (sym answer) (stop_settles tear old new look)
looks_of {T} (Err e) Off old new is answer look = subst (λ (f : DiskFault). Looks {T = T} (Err f) (files_of old) (files_of new)) (sym answer) (off_settles old new look (off_turn old.meter (sym is)))

faulted : (m : Meter) → Faulted (counts_of m) (counts_of (counted Fail m))
faulted m = record { no_less = grind (arith, nat_tests); rose = λ less. grind (arith, nat_tests); stops = refl; fuses = refl; off = refl }

stopped : (tear : Tear) (m : Meter) → m.off ≡ false → WasStopped (counts_of m) (counts_of (counted (Stop tear) m))
stopped tear m on = record { no_less = grind (arith, nat_tests); rose = λ is less. grind (arith, nat_tests); still = λ off. cc; off = refl; faults = refl; fuses = refl }

was_off : (m : Meter) → m.off ≡ true → WasStopped (counts_of m) (counts_of m)
was_off m off = record { no_less = omega arith; rose = λ on. cc; still = λ is. refl; off = off; faults = refl; fuses = refl }

counted_causes : {T : Type 0} (result : Result T DiskFault) (turn : Turn) (m : Meter) → turn ≡ turn_of m → IsAnswer turn result → Causes (ending result) (counts_of m) (counts_of (counted turn m))
counted_causes (Ok x) Go m is answer = refl
counted_causes (Ok x) Fail m is answer = absurd answer
counted_causes (Ok x) (Stop tear) m is answer = absurd answer
counted_causes (Ok x) Off m is answer = absurd answer
counted_causes (Err e) Go m is answer = absurd answer
counted_causes {T} (Err e) Fail m is answer = subst (λ (f : DiskFault). Causes (ending {T = T} (Err f)) (counts_of m) (counts_of (counted Fail m))) (sym answer) (faulted m)
counted_causes {T} (Err e) (Stop tear) m is answer = subst (λ (f : DiskFault). Causes (ending {T = T} (Err f)) (counts_of m) (counts_of (counted (Stop tear) m))) (sym answer) (stopped tear m (on_turn m (Stop tear) is (λ e. cc)))
counted_causes {T} (Err e) Off m is answer = subst (λ (f : DiskFault). Causes (ending {T = T} (Err f)) (counts_of m) (counts_of m)) (sym answer) (was_off m (off_turn m (sym is)))

-- each ending of a counted call has its cause
pub causes_of : {T : Type 0} (result : Result T DiskFault) (old new : Meter) → IsCounted result old new → Causes (ending result) (counts_of old) (counts_of new)
causes_of {T} result old new (answer, is) = subst (λ (m : Meter). Causes (ending result) (counts_of old) (counts_of m)) (sym is) (counted_causes result (turn_of old) old refl answer)

pub looks_as : {T : Type 0} (result : Result T DiskFault) (old new : MemDisk) → IsCounted result old.meter new.meter → IsLook (turn_of old.meter) old new → Looks result (files_of old) (files_of new)
looks_as result old new (answer, is) look = looks_of result (turn_of old.meter) old new refl answer look

torn_itself : (at n : ℕ) (x : Option (List ℕ)) → at ≤ length (bytes_of x) → IsTornFile at n x x
torn_itself at n None within = refl
torn_itself at n (Some b) within = torn_same b at n within

write_by : {T : Type 0} (result : Result T DiskFault) (turn : Turn) (file at : ℕ) (bytes : List ℕ) (old new : MemDisk) → turn ≡ turn_of old.meter → IsAnswer turn result → IsWrite file at bytes turn old new → at ≤ length (bytes_of (tells_of old file).seen)
    → Writes file at bytes result (files_of old) (files_of new)
write_by (Ok x) Go file at bytes old new is answer w within =
    let t = tells_of old file in
    record {
      this = ap state_of w.tells.this ∙ ap (λ (b : List ℕ). touched (state_of t) at (length bytes) (Some (patched b at bytes))) (pad_none (bytes_of t.seen) at within);
      others = λ m other. ap state_of (w.tells.others m other);
    }
write_by (Ok x) Fail file at bytes old new is answer w within = absurd answer
write_by (Ok x) (Stop tear) file at bytes old new is answer w within = absurd answer
write_by (Ok x) Off file at bytes old new is answer w within = absurd answer
write_by (Err e) Go file at bytes old new is answer w within = absurd answer
write_by {T} (Err e) Fail file at bytes old new is answer w within =
    subst (λ (f : DiskFault). Writes {T = T} file at bytes (Err f) (files_of old) (files_of new)) (sym answer)
    ((tells_of old file).seen, torn_itself at (length bytes) (tells_of old file).seen within, record { this = ap state_of w.tells.this; others = λ m other. ap state_of (w.tells.others m other) })
write_by {T} (Err e) (Stop tear) file at bytes old new is answer w within =
    let t = tells_of old file in
    let told = told_at_is old.files.entries file in
    subst (λ (f : DiskFault). Writes {T = T} file at bytes (Err f) (files_of old) (files_of new)) (sym answer)
    (record {
      this = left_settles tear (changed (Write old.files.odd at bytes) t) (tells_of new file) (changed_told (Write old.files.odd at bytes) t told (begins_write old.files.odd at bytes t told within)) w.tells.this;
      others = λ m other. left_settles tear (tells_of old m) (tells_of new m) (told_at_is old.files.entries m) (w.tells.others m other);
    })
write_by {T} (Err e) Off file at bytes old new is answer w within =
    let t = tells_of old file in
    let off = off_turn old.meter (sym is) in
    let stays : (m : ℕ) → Settles (files_of old m) (files_of new m) = λ m. elim (cases_eq m file) [
      | inl same ↦ subst (λ (k : ℕ). Settles (files_of old k) (files_of new k)) (sym same) (left_settles Keep t (tells_of new file) (told_at_is old.files.entries file) (w.tells.this ∙ still Keep t (told_at_is old.files.entries file) (old.still off file)))
      | inr other ↦ left_settles Keep (tells_of old m) (tells_of new m) (told_at_is old.files.entries m) (w.tells.others m other ∙ still Keep (tells_of old m) (told_at_is old.files.entries m) (old.still off m))
    ] in
    subst (λ (f : DiskFault). Writes {T = T} file at bytes (Err f) (files_of old) (files_of new)) (sym answer)
    (record {
      this = ((stays file).0, touch_outcome (ranges t.changes) (was_removed t.changes) t.safe (stays file).0 (at, length bytes) (stays file).1, (stays file).2);
      others = λ m other. stays m;
    })

same_of : (old new : MemDisk) → IsAsBefore old new → (m : ℕ) → files_of new m ≡ files_of old m
same_of old new s m = ap state_of (s.tells m)

pub writes_as : {T : Type 0} (result : Result T DiskFault) (file at : ℕ) (bytes : List ℕ) (old new : MemDisk) → DoesWrite result file at bytes old new → at ≤ length (bytes_of (tells_of old file).seen)
    → Writes file at bytes result (files_of old) (files_of new) × Causes (ending result) (counts_of old.meter) (counts_of new.meter)
writes_as (Ok x) file at bytes old new (counted, w) within = (write_by (Ok x) (turn_of old.meter) file at bytes old new refl counted.0 w within, causes_of (Ok x) old.meter new.meter counted)
writes_as {T} (Err Stopped) file at bytes old new (counted, w) within = (write_by {T = T} (Err Stopped) (turn_of old.meter) file at bytes old new refl counted.0 w within, causes_of {T = T} (Err Stopped) old.meter new.meter counted)
writes_as {T} (Err Failed) file at bytes old new (counted, w) within = (write_by {T = T} (Err Failed) (turn_of old.meter) file at bytes old new refl counted.0 w within, causes_of {T = T} (Err Failed) old.meter new.meter counted)
writes_as (Err NoMemory) file at bytes old new s within = (same_of old new s, ap counts_of s.meter)

-- a removal, by whether the file is there
gone_state : (c : Change) (t : Told) (x y : Option (List ℕ)) → state_of (changed c t) ≡ unlinked (state_of t) x
    → state_of (elim y as (λ _. Told) [ None ↦ t | Some bytes ↦ changed c t ]) ≡ elim y as (λ _. FileState) [ None ↦ state_of t | Some bytes ↦ unlinked (state_of t) x ]
gone_state c t x None is = refl
gone_state c t x (Some b) is = is

gone_told : (c : Change) (t : Told) (y : Option (List ℕ)) → IsTold t → IsTold (changed c t) → IsTold (elim y as (λ _. Told) [ None ↦ t | Some bytes ↦ changed c t ])
gone_told c t None is more = is
gone_told c t (Some b) is more = more

gone_settles : (f g : FileState) (x z y : Option (List ℕ)) → Settles (elim y as (λ _. FileState) [ None ↦ f | Some bytes ↦ unlinked f x ]) g → Settles (elim y as (λ _. FileState) [ None ↦ f | Some bytes ↦ unlinked f z ]) g
gone_settles f g x z None s = s
gone_settles f g x z (Some b) s = s

gone_stays : (f g : FileState) (z y : Option (List ℕ)) → Settles f g → Settles (elim y as (λ _. FileState) [ None ↦ f | Some bytes ↦ unlinked f z ]) g
gone_stays f g z None s = s
gone_stays f g z (Some b) s = (s.0, unlink_outcome f.writes f.removed f.safe s.0 s.1, s.2)

told_removed : (odd : Bool) (t : Told) → IsTold t → IsTold (unlinked_by (Remove odd) t)
told_removed odd t is = gone_told (Remove odd) t t.seen is (changed_told (Remove odd) t is is.begins)

remove_by : {T : Type 0} (result : Result T DiskFault) (turn : Turn) (file : ℕ) (old new : MemDisk) → turn ≡ turn_of old.meter → IsAnswer turn result → IsRemoval file turn old new → Removes file result (files_of old) (files_of new)
remove_by (Ok x) Go file old new is answer w =
    let t = tells_of old file in
    record { this = ap state_of w.tells.this ∙ gone_state (Remove old.files.odd) t None t.seen refl; others = λ m other. ap state_of (w.tells.others m other) }
remove_by (Ok x) Fail file old new is answer w = absurd answer
remove_by (Ok x) (Stop tear) file old new is answer w = absurd answer
remove_by (Ok x) Off file old new is answer w = absurd answer
remove_by (Err e) Go file old new is answer w = absurd answer
remove_by {T} (Err e) Fail file old new is answer w =
    let t = tells_of old file in
    subst (λ (f : DiskFault). Removes {T = T} file (Err f) (files_of old) (files_of new)) (sym answer)
    (t.seen, inl refl, record { this = ap state_of w.tells.this ∙ gone_state FailedRemove t t.seen t.seen refl; others = λ m other. ap state_of (w.tells.others m other) })
remove_by {T} (Err e) (Stop tear) file old new is answer w =
    let t = tells_of old file in
    let u = unlinked_by (Remove old.files.odd) t in
    subst (λ (f : DiskFault). Removes {T = T} file (Err f) (files_of old) (files_of new)) (sym answer)
    (record {
      this = gone_settles (state_of t) (files_of new file) None t.seen t.seen
          (subst (λ (f : FileState). Settles f (files_of new file)) (gone_state (Remove old.files.odd) t None t.seen refl) (left_settles tear u (tells_of new file) (told_removed old.files.odd t (told_at_is old.files.entries file)) w.tells.this));
      others = λ m other. left_settles tear (tells_of old m) (tells_of new m) (told_at_is old.files.entries m) (w.tells.others m other);
    })
remove_by {T} (Err e) Off file old new is answer w =
    let t = tells_of old file in
    let off = off_turn old.meter (sym is) in
    let stays : Settles (state_of t) (files_of new file) = left_settles Keep t (tells_of new file) (told_at_is old.files.entries file) (w.tells.this ∙ still Keep t (told_at_is old.files.entries file) (old.still off file)) in
    subst (λ (f : DiskFault). Removes {T = T} file (Err f) (files_of old) (files_of new)) (sym answer)
    (record {
      this = gone_stays (state_of t) (files_of new file) t.seen t.seen stays;
      others = λ m other. left_settles Keep (tells_of old m) (tells_of new m) (told_at_is old.files.entries m) (w.tells.others m other ∙ still Keep (tells_of old m) (told_at_is old.files.entries m) (old.still off m));
    })

pub removes_as : {T : Type 0} (result : Result T DiskFault) (file : ℕ) (old new : MemDisk) → DoesRemoval result file old new
    → Removes file result (files_of old) (files_of new) × Causes (ending result) (counts_of old.meter) (counts_of new.meter)
removes_as (Ok x) file old new (counted, w) = (remove_by (Ok x) (turn_of old.meter) file old new refl counted.0 w, causes_of (Ok x) old.meter new.meter counted)
removes_as {T} (Err Stopped) file old new (counted, w) = (remove_by {T = T} (Err Stopped) (turn_of old.meter) file old new refl counted.0 w, causes_of {T = T} (Err Stopped) old.meter new.meter counted)
removes_as {T} (Err Failed) file old new (counted, w) = (remove_by {T = T} (Err Failed) (turn_of old.meter) file old new refl counted.0 w, causes_of {T = T} (Err Failed) old.meter new.meter counted)
removes_as (Err NoMemory) file old new s = (same_of old new s, ap counts_of s.meter)

-- a cut
pub cut_settles : (old : MemDisk) (new : ℕ → Told) → ((n : ℕ) → new n ≡ quiet (tells_of old n).safe) → (m : ℕ) → Settles (files_of old m) (state_of (new m))
cut_settles old new lost m = left_settles Lose (tells_of old m) (new m) (told_at_is old.files.entries m) (lost m)
