-- Files that aren't needed are removed, one after another.
use Rattle.std.proofs.Common.{◌≡◌, ◌≢◌, ◌⊎◌, inl, inr, ⊎_elim, ℕ, ◌+◌, ◌*◌, ◌/◌, ◌%◌, ◌<◌, ◌≤◌, Bool, true, false, ◌&&◌, List, [], ◌∷◌, Option, Some, None, refl, sym, ◌∙◌, ap, ap₂, subst, arith}
use Rattle.std.proofs.lemmas.Bool.{cases_eq, cases_lt}
use Rattle.rdf_disk.specs.Calls.{Same}
use Rattle.rdf_disk.specs.Files.{FileState, Disk, Contents, settled, IsSpan}
use Rattle.rdf_gatelog.specs.Log.{IsDamaged}
use Rattle.rdf_disk.specs.Outcomes.{Durably, Keeps, seen_of}
use Rattle.rdf_gatelog.specs.Logs.{Logs, Reads, Rests, ReadsEither, SameLogs, with_log}
use Rattle.rdf_gatelog.specs.RestLaws.{one_reading, no_file_no_log, no_log_no_file, with_same, with_other, rests_durably, rests_reads}
use Rattle.image_disks.specs.Blocks.{Block, Start, Plan}
use Rattle.image_disks.specs.Values.{Value}
use Rattle.image_disks.specs.Spelled.{block_of}
use Rattle.image_disks.specs.Standing.{Gen, file_of, spelled, IsOn, AreOn, IsUnborn, AreStanding, Means, MeansBy, StandsFor, SameValues}
use Rattle.image_disks.specs.StandingLaws.{last_on}
use Rattle.image_trails.specs.declared.memory.Memory.{Memory}
use Rattle.image_trails.specs.Memory.{IsInUse, plan_in, value_in, files_of}
use Rattle.image_trails.specs.Opening.{is_born, is_needed, AreWithin, IsLowest, IsDiskRead, IsPruned, ReadsPruned, RestsPruned}
use Rattle.image_trails.specs.InUseLaws.{means_plain}

pruned_with : (plan : Plan) (logs left : Logs) (file : ℕ) → is_needed plan logs file ≡ false → IsPruned plan logs left → IsPruned plan logs (with_log left file None)
pruned_with plan logs left file unneeded p m =
    elim (cases_eq m file) [
      | inl same ↦ inr (ap (with_log left file None) same ∙ with_same left file None, ap (is_needed plan logs) same ∙ unneeded)
      | inr other ↦ subst (λ (x : Option (List (List ℕ))). (x ≡ logs m) ⊎ ((x ≡ None) × (is_needed plan logs m ≡ false))) (sym (with_other left file None m other)) (p m)
    ]

pub prune_one : (plan : Plan) (logs : Logs) (file : ℕ) (old new : Disk) → is_needed plan logs file ≡ false → ((l : Logs) → Rests l old → Rests (with_log l file None) new) → RestsPruned plan logs file old → RestsPruned plan logs (file + 1) new
prune_one plan logs file old new unneeded drops r = record {
  left = with_log r.left file None;
  rests = drops r.left r.rests;
  pruned = pruned_with plan logs r.left file unneeded r.pruned;
  gone = λ m below not. elim (cases_eq m file) [
    | inl same ↦ ap (with_log r.left file None) same ∙ with_same r.left file None
    | inr other ↦ with_other r.left file None m other ∙ r.gone m (omega (arith, below, other)) not
  ];
}

pub prune_err : (plan : Plan) (logs : Logs) (file : ℕ) (old new : Disk) → is_needed plan logs file ≡ false → ((l : Logs) → Rests l old → Durably new (ReadsEither l (with_log l file None))) → RestsPruned plan logs file old
    → Durably new (ReadsPruned plan logs)
prune_err plan logs file old new unneeded drops r c may =
    ⊎_elim
    (λ (h : Reads r.left c). (r.left, h, r.pruned))
    (λ (h : Reads (with_log r.left file None) c). (with_log r.left file None, h, pruned_with plan logs r.left file unneeded r.pruned))
    (drops r.left r.rests c may)

pub none_pruned : (plan : Plan) (logs : Logs) (base : ℕ) (disk : Disk) → ((m : ℕ) → m < base → logs m ≡ None) → Rests logs disk → RestsPruned plan logs base disk
none_pruned plan logs base disk none rests = record { left = logs; rests = rests; pruned = λ m. inl refl; gone = λ m below not. none m below }

-- the files of a standing generation are needed
born_master : (x : Option (List (List ℕ))) (b : Block) (bs : List Block) → spelled block_of x ≡ Some (b ∷ bs) → is_born x ≡ true
born_master None b bs e = cc
born_master (Some []) b bs e = cc
born_master (Some (p ∷ ps)) b bs e = refl

pub needed_files : (plan : Plan) (logs : Logs) (g : Gen) → plan.used 0 ≡ true → IsOn block_of plan logs g → (t : ℕ) → t < 4 → plan.used t ≡ true → is_needed plan logs (file_of g.number t) ≡ true
needed_files plan logs g used on t tl tu =
    let trail : file_of g.number t % 4 ≡ t = omega (arith, tl) in
    let number : file_of g.number t / 4 ≡ g.number = omega (arith, tl) in
    ap₂ (λ (a b : ℕ). plan.used a && is_born (logs (file_of b 0))) trail number
    ∙ ap₂ (λ (a b : Bool). a && b) tu (born_master (logs (file_of g.number 0)) (Start g.start g.phase) (g.blocks 0) (on 0 (omega arith) used))

needed_same : (plan : Plan) (logs x : Logs) (m : ℕ) → IsPruned plan logs x → is_needed plan logs m ≡ true → x m ≡ logs m
needed_same plan logs x m p needed = ⊎_elim (λ (e : x m ≡ logs m). e) (λ (e : (x m ≡ None) × (is_needed plan logs m ≡ false)). absurd (clash (is_needed plan logs m) needed e.1)) (p m)
  where
    clash : (b : Bool) → b ≡ true → b ≡ false → ⊥
    clash b yes_ no_ = cc

on_pruned : (plan : Plan) (logs x : Logs) (g : Gen) → plan.used 0 ≡ true → IsPruned plan logs x → IsOn block_of plan logs g → IsOn block_of plan x g
on_pruned plan logs x g used p on t tl tu = ap (spelled block_of) (needed_same plan logs x (file_of g.number t) p (needed_files plan logs g used on t tl tu)) ∙ on t tl tu

all_on_pruned : (plan : Plan) (logs x : Logs) (older : List Gen) (last : Gen) → plan.used 0 ≡ true → IsPruned plan logs x → AreOn block_of plan logs older last → AreOn block_of plan x older last
all_on_pruned plan logs x [] last used p on = on_pruned plan logs x last used p on
all_on_pruned plan logs x (g ∷ older) last used p on = (on_pruned plan logs x g used p on.0, all_on_pruned plan logs x older last used p on.1)

standing_pruned : (plan : Plan) (logs x : Logs) (older : List Gen) (last : Gen) → plan.used 0 ≡ true → IsPruned plan logs x → AreStanding block_of plan logs older last → AreStanding block_of plan x older last
standing_pruned plan logs x older last used p s = record {
  gens = s.gens;
  on = all_on_pruned plan logs x older last used p s.on;
  unborn = λ n free. ⊎_elim
      (λ (e : x (file_of n 0) ≡ logs (file_of n 0)). subst IsUnborn (sym e) (s.unborn n free))
      (λ (e : (x (file_of n 0) ≡ None) × (is_needed plan logs (file_of n 0) ≡ false)). subst IsUnborn (sym e.0) tt) (p (file_of n 0));
}

pub means_pruned : (plan : Plan) (logs x : Logs) (masters : List ℕ) (v : Value) → plan.used 0 ≡ true → IsPruned plan logs x → MeansBy block_of plan logs masters v → MeansBy block_of plan x masters v
means_pruned plan logs x masters v used p (older, last, s, alike, files) = (older, last, standing_pruned plan logs x older last used p s, alike, files)

plainly_pruned : (plan : Plan) (logs x : Logs) (v : Value) → plan.used 0 ≡ true → IsPruned plan logs x → Means block_of plan logs v → Means block_of plan x v
plainly_pruned plan logs x v used p (older, last, s, alike) = (older, last, standing_pruned plan logs x older last used p s, alike)

-- the same logs, given by another function
pruned_same : (plan : Plan) (logs others x : Logs) → ((m : ℕ) → logs m ≡ others m) → IsPruned plan logs x → IsPruned plan others x
pruned_same plan logs others x same p m =
    ⊎_elim (λ (e : x m ≡ logs m). inl (e ∙ same m))
    (λ (e : (x m ≡ None) × (is_needed plan logs m ≡ false)). inr (e.0, ap (λ (y : Option (List (List ℕ))). plan.used (m % 4) && is_born y) (sym (same (file_of (m / 4) 0))) ∙ e.1)) (p m)

-- what contents stand for, they stand for without the files that aren't needed
pub values_pruned : (plan : Plan) (logs : Logs) (c d : Contents) → plan.used 0 ≡ true → Reads logs c → ReadsPruned plan logs d → SameValues block_of plan c d
values_pruned plan logs c d used reads (x, left, p) v (others, read, means) = (x, left, plainly_pruned plan others x v used (pruned_same plan logs others x (one_reading logs others c reads read) p) means)

-- what is the same logs stands for the same
pub same_values : (plan : Plan) (c d : Contents) → SameLogs c d → SameValues block_of plan c d
same_values plan c d same v (logs, reads, means) = (logs, same.logs logs reads, means)

pub keeps_values : (plan : Plan) (old new : Disk) → Keeps SameLogs old new → Keeps (SameValues block_of plan) old new
keeps_values plan old new keeps d may = let k = keeps d may in (k.0, k.1, same_values plan k.0 d k.2)

pub keeps_values_trans : (plan : Plan) (a b c : Disk) → Keeps (SameValues block_of plan) a b → Keeps (SameValues block_of plan) b c → Keeps (SameValues block_of plan) a c
keeps_values_trans plan a b c ab bc d may =
    let last = bc d may in
    let first = ab last.0 last.1 in
    (first.0, first.1, λ v s. last.2 v (first.2 v s))

pub keeps_pruned : (plan : Plan) (logs : Logs) (old new : Disk) → plan.used 0 ≡ true → Rests logs old → Durably new (ReadsPruned plan logs) → Keeps (SameValues block_of plan) old new
keeps_pruned plan logs old new used rests left d may = (seen_of old, λ m. inl refl, values_pruned plan logs (seen_of old) d used (rests_reads logs old rests) (left d may))

pub rests_pruned : (plan : Plan) (logs : Logs) (upto : ℕ) (disk : Disk) → RestsPruned plan logs upto disk → Durably disk (ReadsPruned plan logs)
rests_pruned plan logs upto disk r c may = (r.left, rests_durably r.left disk r.rests c may, r.pruned)

-- ---- what is left may be used

pub opened_in_use : (plan : Plan) (logs : Logs) (above : ℕ) (m : Memory) (disk : Disk) → plan_in m ≡ plan → plan.used 0 ≡ true → ((k : ℕ) → above ≤ k → logs k ≡ None) → IsDiskRead plan logs m → RestsPruned plan logs above disk → IsInUse block_of m disk
opened_in_use plan logs above m disk same used none h r = record {
  logs = r.left;
  rests = r.rests;
  means = subst (λ (p : Plan). MeansBy block_of p r.left (files_of m.generations) (value_in m)) (sym same) (means_pruned plan logs r.left (files_of m.generations) (value_in m) used r.pruned h.means);
  opened = λ t tl tu.
      let tu2 : plan.used t ≡ true = subst (λ (p : Plan). p.used t ≡ true) same tu in
      let o = h.opened t tl tu2 in
      record { payloads = o.payloads; there = needed_same plan logs r.left (file_of m.last t) r.pruned (last_needed t tl tu2) ∙ o.there; end_is = o.end_is };
  above = λ f far. elim (cases_lt f above) [
    | inl low ↦ r.gone f low (h.above f far)
    | inr high ↦ ⊎_elim (λ (e : r.left f ≡ logs f). e ∙ none f high) (λ (e : (r.left f ≡ None) × (is_needed plan logs f ≡ false)). e.0) (r.pruned f)
  ];
  rising = h.rising;
}
  where
    last_needed : (t : ℕ) → t < 4 → plan.used t ≡ true → is_needed plan logs (file_of m.last t) ≡ true
    last_needed t tl tu = go h.means
      where
        go : MeansBy block_of plan logs (files_of m.generations) (value_in m) → is_needed plan logs (file_of m.last t) ≡ true
        go (older, last, s, alike, files) =
            subst (λ (n : ℕ). is_needed plan logs (file_of n t) ≡ true) alike.last (needed_files plan logs last used (last_on block_of plan logs older last s.on) t tl tu)

pub value_stands : (plan : Plan) (logs : Logs) (c : Contents) (m : Memory) → Reads logs c → IsDiskRead plan logs m → StandsFor block_of plan (value_in m) c
value_stands plan logs c m reads h = (logs, reads, means_plain block_of plan logs (files_of m.generations) (value_in m) h.means)

-- ---- where the files of a disk lie

pub are_within : (logs : Logs) (low above base : ℕ) → base ≡ 4 * (low / 4) → ((k : ℕ) → (k < base) ⊎ (above ≤ k) → logs k ≡ None) → AreWithin (low / 4) (above / 4 + 1) logs
are_within logs low above base is within k (inl below) = within k (inl (omega (arith, below, is)))
are_within logs low above base is within k (inr beyond) = within k (inr (omega (arith, beyond)))

pub is_lowest : (logs : Logs) (disk : Disk) (low above : ℕ) → IsSpan disk low above → Reads logs (seen_of disk) → IsLowest low logs
is_lowest logs disk low above span reads = record {
  least = λ k there.
      let in_span = span.within k (λ gone. there (no_file_no_log (logs k) (disk k).seen (reads k) gone)) in
      let first = span.low_is (omega (arith, in_span.1)) in
      (in_span.0, λ gone. first.1 (no_log_no_file (logs low) (disk low).seen (reads low) gone));
  blank = λ none. elim (cases_lt 0 above) [
    | inl some ↦ absurd ((span.low_is some).1 (no_log_no_file (logs low) (disk low).seen (reads low) (none low)))
    | inr zeroth ↦ span.none (omega (arith, zeroth))
  ];
}

pub seen_back : (old mid new : Disk) (f at : ℕ) → ((k : ℕ) → mid k ≡ settled (old k).seen) → Same mid new → ((new f).seen ≢ None) × IsDamaged (new f).seen at → ((old f).seen ≢ None) × IsDamaged (old f).seen at
seen_back old mid new f at safe same h = subst (λ (x : Option (List ℕ)). (x ≢ None) × IsDamaged x at) (ap (λ (s : FileState). s.seen) (same f) ∙ ap (λ (s : FileState). s.seen) (safe f)) h
