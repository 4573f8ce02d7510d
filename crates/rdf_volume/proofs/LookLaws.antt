-- A file that is read block by block.
use Rattle.std.proofs.Common.{◌≡◌, ℕ, ◌+◌, List, [], ◌∷◌, ◌++◌, length, Option, Some, None, Result, Ok, Err, inl, refl, sym, ◌∙◌, ap, subst, arith}
use Rattle.std.specs.Option.{option_map}
use Rattle.rdf_disk.specs.Calls.{Same}
use Rattle.rdf_disk.specs.Files.{FileState, Disk}
use Rattle.rdf_disk.specs.Outcomes.{Narrows, Keeps, seen_of}
use Rattle.rdf_disk.specs.OutcomeLaws.{narrows_same, narrows_settles}
use Rattle.rdf_gatelog.specs.declared.fault.LogFault.{LogFault}
use Rattle.rdf_gatelog.specs.declared.fault.LogFault.TheVariants.{Stopped, Failed, NoMemory, Damaged}
use Rattle.rdf_gatelog.specs.Log.{IsLogFile, IsAtRest, IsDamaged, open_blocks}
use Rattle.rdf_gatelog.specs.LogCalls.{Mounted, OnlyLooks, SameLog, gated}
use Rattle.rdf_gatelog.specs.LogLaws.{at_rest_surely, block_place, one_log}
use Rattle.rdf_gatelog.specs.LogPlace.{LogPlace}
use Rattle.rdf_gatelog.specs.LogReading.{ReaderPlace, Begun}
use Rattle.rdf_gatelog.specs.Logs.{SameLogs}
use Rattle.rdf_gatelog.specs.RestLaws.{narrow_keeps}
use Rattle.rdf_volume.specs.declared.mount.LookStep.{LookStep}
use Rattle.rdf_volume.specs.declared.mount.LookStep.TheVariants as step
use Rattle.rdf_volume.specs.declared.mount.Sight.{Sight}
use Rattle.rdf_volume.specs.declared.mount.Sight.TheVariants as sight
use Rattle.rdf_volume.specs.declared.reading.Reading.{Reading}
use Rattle.rdf_volume.specs.Flaws.{IsMisplaced}
use Rattle.rdf_volume.specs.Opening.{IsLook, IsOpened, IsSeen, LooksOn, file_in}

-- ---- what a call leaves

-- a call that only looks leaves the same logs
pub looks_keep : {T : Type 0} (r : Result T LogFault) (old new : Disk) → OnlyLooks r old new → Keeps SameLogs old new
looks_keep r old new looks = narrow_keeps old new (narrows r looks)
  where
    narrows : {T : Type 0} (r : Result T LogFault) → OnlyLooks r old new → (m : ℕ) → Narrows (old m) (new m)
    narrows (Ok x) same m = narrows_same (old m) (new m) (same m)
    narrows (Err Stopped) settles m = narrows_settles (old m) (new m) (settles m)
    narrows (Err Failed) same m = narrows_same (old m) (new m) (same m)
    narrows (Err NoMemory) same m = narrows_same (old m) (new m) (same m)
    narrows (Err (Damaged file at)) same m = narrows_same (old m) (new m) (same m)

-- ---- a file that was opened

pub begun_opened : (place : ReaderPlace) (file : ℕ) (old new : Disk) → place.file ≡ file → Begun place old new → IsOpened file old new
begun_opened place file old new is b = subst (λ (m : ℕ). IsOpened m old new) is (record { bytes = b.bytes; same = b.same; others = b.others })

pub opened_same : (file : ℕ) (old now new : Disk) → IsOpened file old now → Same now new → IsOpened file old new
opened_same file old now new o same = record {
  bytes = ap (λ (f : FileState). f.seen) (same file) ∙ o.bytes;
  same = subst (λ (f : FileState). SameLog (old file).seen f.seen) (sym (same file)) o.same;
  others = λ m apart. same m ∙ o.others m apart;
}

-- what is broken of it was so before
pub damaged_back : (file at : ℕ) (old new : Disk) → IsOpened file old new → IsDamaged (new file).seen at → IsDamaged (old file).seen at
damaged_back file at old new o damaged = back (old file).seen (subst (λ (x : Option (List ℕ)). IsDamaged x at) o.bytes damaged)
  where
    back : (x : Option (List ℕ)) → IsDamaged (option_map gated x) at → IsDamaged x at
    back None d = d
    back (Some []) (long, broken) = absurd (omega (arith, long))
    back (Some (gate ∷ [])) (long, broken) = absurd (omega (arith, long))
    back (Some (gate ∷ next ∷ rest)) d = d

-- all its blocks were read
module _ (file end : ℕ) (payloads : List (List ℕ)) (old new : Disk) (o : IsOpened file old new) (rest : IsAtRest file end payloads new) where
  here : IsLogFile payloads (new file).seen
  here = at_rest_surely file end payloads new rest (new file).seen (inl refl)

  pub was_log : IsLogFile payloads (old file).seen
  was_log = o.same.logs_back payloads here

  pub read_whole : Mounted file end payloads old new
  read_whole = record {
    log = rest;
    bytes = o.bytes;
    stood = was_log;
    only = λ others was. one_log payloads others (new file).seen here (o.same.logs others was);
    others = o.others;
  }

-- ---- one block more

pub place_behind : (given : List (List ℕ)) (payload : List ℕ) (at next : ℕ) → at ≡ length (open_blocks given) → next ≡ at + (5 + length payload) → next ≡ length (open_blocks (given ++ payload ∷ []))
place_behind given payload at next here moved = omega (arith, here, moved, block_place given payload [])

-- ---- the end of the file

module _ (file reader : ℕ) (old now new : Disk) (opened : IsOpened file old now) (same : Same now new) (given : List (List ℕ)) (found : LookStep) (on : LooksOn given found new)
    (log : LogPlace) (seen : Sight) (is : found ≡ step.Ends log seen) (file_is : file_in found ≡ reader) (reader_is : reader ≡ file) where
  ends : LooksOn given (step.Ends log seen) new
  ends = subst (λ (s : LookStep). LooksOn given s new) is on

  log_file : log.file ≡ file
  log_file = sym (ap file_in is) ∙ file_is ∙ reader_is

  rests : IsAtRest file log.end given new
  rests = subst (λ (m : ℕ). IsAtRest m log.end given new) log_file ends.0

  -- each block is in its place
  pub ended_look : (place : LogPlace) (reading : Reading) → place ≡ log → seen ≡ sight.Says reading → IsLook file place.end reading old new
  ended_look place reading place_is says = record {
    payloads = given;
    mounted = subst (λ (p : LogPlace). Mounted file p.end given old new) (sym place_is) (read_whole file log.end given old new (opened_same file old now new opened same) rests);
    read = subst (λ (s : Sight). IsSeen s given) says ends.1;
  }

  -- one isn't
  pub ended_misplaced : (at : ℕ) → seen ≡ sight.Misplaced at → IsMisplaced (seen_of old) file at
  ended_misplaced at says = (given, was_log file log.end given old new (opened_same file old now new opened same) rests, subst (λ (s : Sight). IsSeen s given) says ends.1)
