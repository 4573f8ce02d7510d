-- What a stop may leave while the first gate is written.
use Rattle.std.proofs.Common.{◌≡◌, ◌⊎◌, inl, inr, ℕ, ◌≤◌, List, [], ◌∷◌, length, Option, Some, None, Result, Ok, Err, MatchResult, refl, sym, ap, subst, arith}
use Rattle.std.specs.Result.{IsErrAnd}
use Rattle.rdf_disk.specs.declared.fault.DiskFault.{DiskFault}
use Rattle.rdf_disk.specs.Files.{FileState, Disk, bytes_of, settled}
use Rattle.rdf_disk.specs.Outcomes.{Surely}
use Rattle.rdf_disk.specs.Calls.{Syncs, Writes}
use Rattle.rdf_disk.specs.OutcomeLaws.{Made, write_torn, write_makes, writes_narrow, syncs_narrows}
use Rattle.rdf_gatelog.specs.FirstGate.{GateClosed, StaysShort}
use Rattle.rdf_gatelog.specs.Log.{IsLogFile, IsAtRest}
use Rattle.rdf_gatelog.specs.LogCalls.{OthersNarrow, NotCreated}
use Rattle.rdf_gatelog.proofs.AppendLaws.{narrow_trans, then_narrows}

abbrev IsLittle : ℕ → Disk → Type 0
IsLittle file s0 = (x : Option (List ℕ)) × (s0 file ≡ settled x) × (length (bytes_of x) ≤ 1)

-- after the write, whatever it answers
stays_written : {T : Type 0} (file : ℕ) (r : Result T DiskFault) (s0 s1 : Disk) → IsLittle file s0 → Writes file 0 (0 ∷ []) r s0 s1 → Surely (s1 file) (StaysShort (s0 file).seen)
stays_written file r s0 s1 (None, was, short) w y may =
    let none : (s0 file).seen ≡ None = ap (λ (f : FileState). f.seen) was in
    made y (write_makes 1 file (0 ∷ []) r s0 s1 refl was w y may) none
  where
    made : (y : Option (List ℕ)) → Made 1 y → (s0 file).seen ≡ None → StaysShort (s0 file).seen y
    made y (inl is) none = record { short = subst (λ (x : Option (List ℕ)). length (bytes_of x) ≤ 1) (sym is) (omega arith); there = λ _. none }
    made y (inr (c, is, fits)) none = record { short = subst (λ (x : Option (List ℕ)). length (bytes_of x) ≤ 1) (sym is) fits; there = λ _. none }
stays_written file r s0 s1 (Some b, was, short) w y may =
    let torn = write_torn b 0 1 (omega arith) file (0 ∷ []) r s0 s1 refl was w y may in
    let fits : length torn.0 ≤ 1 = omega (arith, torn.2.no_longer) in
    subst (StaysShort (s0 file).seen) (sym torn.1) (record { short = fits; there = λ none. absurd_some torn.0 none })
  where
    absurd_some : (c : List ℕ) → Some c ≡ None → (s0 file).seen ≡ None
    absurd_some c e = cc

-- after the write and the sync, whatever they answer
pub stays_short : {T U : Type 0} (file : ℕ) (r : Result T DiskFault) (q : Result U DiskFault) (s0 s1 s2 : Disk)
    → IsLittle file s0 → Writes file 0 (0 ∷ []) r s0 s1 → Syncs q s1 s2 → Surely (s2 file) (StaysShort (s0 file).seen)
stays_short file r q s0 s1 s2 little w y = then_narrows (s1 file) (s2 file) (StaysShort (s0 file).seen) (stays_written file r s0 s1 little w) (syncs_narrows q s1 s2 y file)

-- the other files over a write and a sync, whatever they answer
pub others_narrow : {T U : Type 0} (file at : ℕ) (bytes : List ℕ) (r : Result T DiskFault) (q : Result U DiskFault) (s0 s1 s2 : Disk)
    → Writes file at bytes r s0 s1 → Syncs q s1 s2 → OthersNarrow file s0 s2
others_narrow file at bytes r q s0 s1 s2 w y = narrow_trans file s0 s1 s2 (writes_narrow file at bytes r s0 s1 w) (λ m other. syncs_narrows q s1 s2 y m)

-- a closed gate alone is a log without blocks, at rest
pub gate_at_rest : (file : ℕ) (s0 s1 : Disk) → GateClosed file s0 s1 → IsAtRest file 0 [] s1
gate_at_rest file s0 s1 closed = record {
  bytes = 0 ∷ [];
  file_is = closed.this;
  spelled = record { gate = 0; rest = []; shut = omega arith; bytes_are = refl; fit = tt };
  end_is = refl;
}

pub not_created : (file : ℕ) (s0 s1 : Disk) → s0 file ≡ settled None → Surely (s1 file) (StaysShort (s0 file).seen) → OthersNarrow file s0 s1 → NotCreated file s0 s1
not_created file s0 s1 was stays others = record { log = λ x may. no_blocks x (stays x may); others = others }
  where
    no_blocks : (x : Option (List ℕ)) → StaysShort (s0 file).seen x → (x ≡ None) ⊎ IsLogFile [] x
    no_blocks None stays = inl refl
    no_blocks (Some c) stays = inr (inl (stays.short, refl))

-- what holds is so where an Err is passed on
pub refused : {T E : Type 0} (F : E → Type 0) (P : T → Type 0) (X : Type 0) (r : Result T E) → IsErrAnd r F → X → MatchResult r P (λ _. X)
refused F P X (Ok v) err holds = absurd err
refused F P X (Err e) err holds = holds
