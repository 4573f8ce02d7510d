-- What reading one block finds.
use Rattle.std.proofs.Common.{◌≡◌, ℕ, ◌+◌, ◌<◌, ◌^◌, List, [], ◌∷◌, ◌++◌, length, take, drop, Option, Some, Result, Ok, Err, refl, sym, ◌∙◌, ap, subst, arith, append_assoc, length-append}
use Rattle.std.proofs.lemmas.List.{take_at, drop_at}
use Rattle.std.specs.List.{AllByRecursion}
use Rattle.std.specs.Int.{to_be_bytes, w32}
use Rattle.rdf_disk.specs.declared.fault.DiskFault.{DiskFault}
use Rattle.rdf_disk.specs.declared.fault.DiskFault.TheVariants as disk
use Rattle.rdf_disk.specs.Files.{FileState, Disk, bytes_of, settled}
use Rattle.rdf_disk.specs.Outcomes.{Settles, IsOutcome}
use Rattle.rdf_disk.specs.Calls.{Same, Looks}
use Rattle.rdf_gatelog.specs.declared.fault.LogFault.{LogFault}
use Rattle.rdf_gatelog.specs.declared.fault.LogFault.TheVariants.{Stopped, Failed, NoMemory, Damaged}
use Rattle.rdf_gatelog.specs.Log.{IsPayload, IsAtRest, IsBlockAt, StandsAt, framed, open_blocks}
use Rattle.rdf_gatelog.specs.LogCalls.{OnlyLooks}
use Rattle.rdf_gatelog.specs.LogCauses.{log_fault, NotDamaged}
use Rattle.rdf_gatelog.specs.LogLaws.{block_place}
use Rattle.rdf_gatelog.specs.Logs.{Logs, Rests}
use Rattle.rdf_gatelog.specs.RestLaws.{rests_at_same, settled_at}
use Rattle.rdf_gatelog.proofs.AppendLaws.{open_blocks-join}

-- ---- the bytes of one block

module _ (bytes : List ℕ) (at : ℕ) (payload : List ℕ) (s : StandsAt bytes at payload) where
  abbrev head : List ℕ
  head = 1 ∷ to_be_bytes w32 (length payload)

  -- the gate and the length
  pub head_read : (read : List ℕ) → read ≡ take 5 (drop at bytes) → read ≡ take 5 ((1 ∷ framed payload) ++ s.rest)
  head_read read is = is ∙ ap (λ (l : List ℕ). take 5 (drop at l)) s.bytes_are ∙ ap (λ (l : List ℕ). take 5 l) (drop_at s.front ((1 ∷ framed payload) ++ s.rest) at (sym s.at_is))

  split : bytes ≡ (s.front ++ head) ++ (payload ++ s.rest)
  split = s.bytes_are ∙ ap (λ (l : List ℕ). s.front ++ l) (append_assoc head payload s.rest) ∙ sym (append_assoc s.front head (payload ++ s.rest))

  reach : length (s.front ++ head) ≡ at + 5
  reach = omega (arith, length-append s.front head, s.at_is)

  -- the payload, whose length was read behind the gate
  pub length_read : (o : Option ℕ) (len : ℕ) → o ≡ Some len → o ≡ Some (length payload) → len ≡ length payload
  length_read o len told is = let same : Some len ≡ Some (length payload) = sym told ∙ is in cc

  pub payload_read : (read : List ℕ) (len place : ℕ) → len ≡ length payload → place ≡ at + 5 → read ≡ take len (drop place bytes) → read ≡ payload
  payload_read read len place len_is place_is is =
      is
      ∙ ap (λ (n : ℕ). take n (drop place bytes)) len_is
      ∙ ap (λ (l : List ℕ). take (length payload) (drop place l)) split
      ∙ ap (λ (l : List ℕ). take (length payload) l) (drop_at (s.front ++ head) (payload ++ s.rest) place (reach ∙ sym place_is))
      ∙ take_at payload s.rest (length payload) refl

-- ---- a block of a log at rest

all_fit : (before : List (List ℕ)) (p : List ℕ) (after : List (List ℕ)) → AllByRecursion IsPayload (before ++ p ∷ after) → IsPayload p
all_fit [] p after fit = fit.0
all_fit (q ∷ before) p after fit = all_fit before p after fit.1

pub stands : (file end : ℕ) (payloads : List (List ℕ)) (disk : Disk) (at : ℕ) (payload : List ℕ) → IsAtRest file end payloads disk → IsBlockAt payloads at payload → end < 2 ^ 64
    → StandsAt (bytes_of (disk file).seen) at payload
stands file end payloads disk at payload rest block near = record {
  front = open_blocks block.before;
  rest = open_blocks block.after ++ rest.spelled.gate ∷ rest.spelled.rest;
  bytes_are = bytes_are;
  at_is = block.at_is;
  fits = all_fit block.before payload block.after (subst (λ (ps : List (List ℕ)). AllByRecursion IsPayload ps) block.payloads_are rest.spelled.fit);
  near = omega (arith, near, rest.end_is, ap (λ (ps : List (List ℕ)). length (open_blocks ps)) block.payloads_are, block_place block.before payload block.after, block.at_is);
} where
  seen : bytes_of (disk file).seen ≡ rest.bytes
  seen = ap (λ (f : FileState). bytes_of f.seen) rest.file_is

  bytes_are : bytes_of (disk file).seen ≡ open_blocks block.before ++ ((1 ∷ framed payload) ++ (open_blocks block.after ++ rest.spelled.gate ∷ rest.spelled.rest))
  bytes_are =
      seen
      ∙ rest.spelled.bytes_are
      ∙ ap (λ (ps : List (List ℕ)). open_blocks ps ++ rest.spelled.gate ∷ rest.spelled.rest) block.payloads_are
      ∙ open_blocks-join block.before (payload ∷ block.after) (rest.spelled.gate ∷ rest.spelled.rest)
      ∙ ap (λ (l : List ℕ). open_blocks block.before ++ l) (append_assoc (1 ∷ framed payload) (open_blocks block.after) (rest.spelled.gate ∷ rest.spelled.rest))

pub before_end : (file end : ℕ) (payloads : List (List ℕ)) (disk : Disk) (at : ℕ) (payload : List ℕ) → IsAtRest file end payloads disk → IsBlockAt payloads at payload → at < end
before_end file end payloads disk at payload rest block =
    omega (arith, rest.end_is, ap (λ (ps : List (List ℕ)). length (open_blocks ps)) block.payloads_are, block_place block.before payload block.after, block.at_is)

-- no block at rest is one that is damaged
pub none_damaged : {T : Type 0} (file end : ℕ) (payloads : List (List ℕ)) (disk : Disk) (at : ℕ) (payload : List ℕ) (r : Result T LogFault)
    → ((p : List ℕ) → StandsAt (bytes_of (disk file).seen) at p → NotDamaged r) → IsAtRest file end payloads disk → IsBlockAt payloads at payload → end < 2 ^ 64 → NotDamaged r
none_damaged file end payloads disk at payload r sound rest block near = sound payload (stands file end payloads disk at payload rest block near)

-- ---- the files behind it

-- a disk at rest is so behind a call that only looked
pub looked_rests : {T : Type 0} (q : Result T LogFault) (logs : Logs) (old new : Disk) → OnlyLooks q old new → Rests logs old → Rests logs new
looked_rests (Ok x) logs old new same rests m = rests_at_same m (logs m) old new (same m) (rests m)
looked_rests (Err Stopped) logs old new settle rests m =
    let was = settled_at m (logs m) old (rests m) in
    let x = (settle m).0 in
    let left : IsOutcome (settled was.0) x = subst (λ (f : FileState). IsOutcome f x) was.1 (settle m).1 in
    rests_at_same m (logs m) old new ((settle m).2 ∙ ap settled left ∙ sym was.1) (rests m)
looked_rests (Err Failed) logs old new same rests m = rests_at_same m (logs m) old new (same m) (rests m)
looked_rests (Err NoMemory) logs old new same rests m = rests_at_same m (logs m) old new (same m) (rests m)
looked_rests (Err (Damaged file at)) logs old new same rests m = rests_at_same m (logs m) old new (same m) (rests m)

-- a fault of the disk behind a call that only looked
pub looked : {T U : Type 0} (r : Result T DiskFault) (f : DiskFault) (q : Result U LogFault) (e : LogFault) (s0 s1 s2 : Disk)
    → Same s0 s1 → Looks r s1 s2 → r ≡ Err f → q ≡ Err e → e ≡ log_fault f → OnlyLooks q s0 s2
looked {T = T} {U = U} r f q e s0 s1 s2 same looks failed is came =
    let here : Looks {T = T} (Err f) s1 s2 = subst (λ (x : Result T DiskFault). Looks x s1 s2) failed looks in
    subst (λ (x : Result U LogFault). OnlyLooks x s0 s2) (sym (is ∙ ap (λ (x : LogFault). Err x) came)) (by_fault f here)
  where
    by_fault : (f : DiskFault) → Looks {T = T} (Err f) s1 s2 → OnlyLooks {T = U} (Err (log_fault f)) s0 s2
    by_fault disk.Stopped looks = λ m. subst (λ (x : FileState). Settles x (s2 m)) (same m) (looks m)
    by_fault disk.Failed looks = λ m. looks m ∙ same m
    by_fault disk.NoMemory looks = λ m. looks m ∙ same m
