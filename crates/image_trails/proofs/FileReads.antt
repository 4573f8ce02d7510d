-- The logs of a disk's files, opened one after another.
use mathlib.Core.Bool.{not}
use Rattle.std.proofs.Common.{◌≡◌, ◌≢◌, ◌⊎◌, inl, inr, ℕ, zero, suc, ◌+◌, ◌-◌, ◌<◌, ◌≤◌, Bool, true, false, if◌then◌else◌, List, [], ◌∷◌, ◌++◌, length, get_or, Option, Some, None, refl, sym, ◌∙◌, ap, subst, arith, length-append}
use Rattle.std.specs.Option.{is_some, option_map}
use Rattle.std.proofs.lemmas.Bool.{cases_lt, lt-ltb, le-ltb}
use Rattle.rdf_disk.specs.Calls.{Same}
use Rattle.rdf_disk.specs.Files.{FileState, Disk, settled}
use Rattle.rdf_disk.specs.Outcomes.{Keeps, seen_of}
use Rattle.rdf_gatelog.specs.Log.{IsDamaged}
use Rattle.rdf_gatelog.specs.LogLaws.{log_not_damaged}
use Rattle.rdf_gatelog.specs.Logs.{IsLogOf, Reads, RestsAt, Rests, IsSettled, SameLogs}
use Rattle.rdf_gatelog.specs.RestLaws.{rests_at_same, keeps_trans, settled_at}
use Rattle.image_trails.specs.declared.file_log.FileLog.{FileLog}
use Rattle.image_trails.specs.DiskFiles.{payloads_in, no_file, logs_in, IsOpened}

pub open_damaged : (old mid : Disk) (file f at : ℕ) (len : Option ℕ) → Same old mid → len ≡ option_map length (old file).seen → is_some len ≡ true → (f ≡ file) × IsDamaged (mid file).seen at
    → ((old f).seen ≢ None) × IsDamaged (old f).seen at
open_damaged old mid file f at len same len_is some (is, damaged) =
    let there : (old file).seen ≢ None = λ gone. some_none len (len_is ∙ ap (option_map length) gone) some in
    let here : IsDamaged (old file).seen at = subst (λ (s : FileState). IsDamaged s.seen at) (same file) damaged in
    subst (λ (n : ℕ). ((old n).seen ≢ None) × IsDamaged (old n).seen at) (sym is) (there, here)
  where
    some_none : (len : Option ℕ) → len ≡ None → is_some len ≡ true → ⊥
    some_none None e s = cc
    some_none (Some n) e s = cc

-- the files from base on, so many as there are, were opened
pub record IsOpenedSo (base : ℕ) (files : List (Option FileLog)) (old new : Disk) : Type 0 where
  pub reads : (i : ℕ) → i < length files → IsLogOf (payloads_in (get_or files i no_file)) (old (base + i)).seen
  pub rests : (i : ℕ) → i < length files → RestsAt (base + i) (payloads_in (get_or files i no_file)) new
  pub others : (m : ℕ) → (m < base) ⊎ (base + length files ≤ m) → new m ≡ old m
  pub keeps : Keeps SameLogs old new

keeps_itself : (disk : Disk) → Keeps SameLogs disk disk
keeps_itself disk d may = (d, may, record { logs = λ logs reads. reads; logs_back = λ logs reads. reads })

pub none_opened : (base : ℕ) (disk : Disk) → IsOpenedSo base [] disk disk
none_opened base disk = record {
  reads = λ i below. absurd (omega (arith, below));
  rests = λ i below. absurd (omega (arith, below));
  others = λ m out. refl;
  keeps = keeps_itself disk;
}

-- where a number lies
where_is : (base n m : ℕ) → ((m < base) ⊎ (base + n ≤ m)) ⊎ ((i : ℕ) × (i < n) × (m ≡ base + i))
where_is base n m =
    elim (cases_lt m base) [
      | inl low ↦ inl (inl low)
      | inr high ↦ elim (cases_lt m (base + n)) [
        | inl within ↦ inr (m - base, omega arith, omega arith)
        | inr above ↦ inl (inr above)
      ]
    ]

settled_one : (f : FileState) (x : Option (List ℕ)) → f ≡ settled x → f ≡ settled f.seen
settled_one f x is = is ∙ ap settled (sym (ap (λ (g : FileState). g.seen) is))

pub still_settled : (base : ℕ) (files : List (Option FileLog)) (old new : Disk) → IsOpenedSo base files old new → IsSettled old → IsSettled new
still_settled base files old new o s m =
    elim (where_is base (length files) m) [
      | inl out ↦ let same = o.others m out in same ∙ s m ∙ ap (λ (f : FileState). settled f.seen) (sym same)
      | inr (i, below, is) ↦
          let was = settled_at (base + i) (payloads_in (get_or files i no_file)) new (o.rests i below) in
          subst (λ (k : ℕ). new k ≡ settled (new k).seen) (sym is) (settled_one (new (base + i)) was.0 was.1)
    ]

last_place : (files : List (Option FileLog)) (x : Option FileLog) (i : ℕ) → i < length (files ++ x ∷ []) → (i < length files) ⊎ (i ≡ length files)
last_place files x i below = elim (cases_lt i (length files)) [ inl low ↦ inl low | inr high ↦ inr (omega (arith, high, below, length-append files (x ∷ []))) ]

before_last : (files : List (Option FileLog)) (x : Option FileLog) (i : ℕ) → i < length files → get_or (files ++ x ∷ []) i no_file ≡ get_or files i no_file
before_last [] x i below = absurd (omega (arith, below))
before_last (f ∷ files) x zero below = refl
before_last (f ∷ files) x (suc i) below = before_last files x i (omega (arith, below))

at_last : (files : List (Option FileLog)) (x : Option FileLog) → get_or (files ++ x ∷ []) (length files) no_file ≡ x
at_last [] x = refl
at_last (f ∷ files) x = at_last files x

pub one_opened : (base file : ℕ) (files : List (Option FileLog)) (x : Option FileLog) (old mid new : Disk) → file ≡ base + length files → IsOpenedSo base files old mid → IsOpened file (payloads_in x) mid new → Keeps SameLogs mid new
    → IsOpenedSo base (files ++ x ∷ []) old new
one_opened base file files x old mid new file_is o one keeps = record {
  reads = λ i below. elim (last_place files x i below) [
    | inl low ↦ subst (λ (y : Option FileLog). IsLogOf (payloads_in y) (old (base + i)).seen) (sym (before_last files x i low)) (o.reads i low)
    | inr is ↦
        let place : base + i ≡ file = omega (arith, is, file_is) in
        let was : mid file ≡ old file = o.others file (inr (omega (arith, file_is))) in
        subst (λ (k : ℕ). IsLogOf (payloads_in (get_or (files ++ x ∷ []) i no_file)) (old k).seen) (sym place)
        (subst (λ (y : Option FileLog). IsLogOf (payloads_in y) (old file).seen) (sym (ap (λ (k : ℕ). get_or (files ++ x ∷ []) k no_file) is ∙ at_last files x))
        (subst (λ (s : FileState). IsLogOf (payloads_in x) s.seen) was one.reads))
  ];
  rests = λ i below. elim (last_place files x i below) [
    | inl low ↦ subst (λ (y : Option FileLog). RestsAt (base + i) (payloads_in y) new) (sym (before_last files x i low))
        (rests_at_same (base + i) (payloads_in (get_or files i no_file)) mid new (one.others (base + i) (λ e. omega (arith, e, file_is, low))) (o.rests i low))
    | inr is ↦
        let place : base + i ≡ file = omega (arith, is, file_is) in
        subst (λ (k : ℕ). RestsAt k (payloads_in (get_or (files ++ x ∷ []) i no_file)) new) (sym place)
        (subst (λ (y : Option FileLog). RestsAt file (payloads_in y) new) (sym (ap (λ (k : ℕ). get_or (files ++ x ∷ []) k no_file) is ∙ at_last files x)) one.rests)
  ];
  others = λ m out. one.others m (λ e. beyond m e out) ∙ o.others m (within m out);
  keeps = keeps_trans old mid new o.keeps keeps;
}
  where
    more : length (files ++ x ∷ []) ≡ length files + 1
    more = length-append files (x ∷ [])

    beyond : (m : ℕ) → m ≡ file → (m < base) ⊎ (base + length (files ++ x ∷ []) ≤ m) → ⊥
    beyond m e (inl low) = omega (arith, e, file_is, low)
    beyond m e (inr high) = omega (arith, e, file_is, high, more)

    within : (m : ℕ) → (m < base) ⊎ (base + length (files ++ x ∷ []) ≤ m) → (m < base) ⊎ (base + length files ≤ m)
    within m (inl low) = inl low
    within m (inr high) = inr (omega (arith, high, more))

-- what each of the files is, once all of them are opened
beyond_all : (files : List (Option FileLog)) (i : ℕ) → length files ≤ i → get_or files i no_file ≡ no_file
beyond_all [] zero h = refl
beyond_all [] (suc i) h = refl
beyond_all (f ∷ files) zero h = absurd (omega (arith, h))
beyond_all (f ∷ files) (suc i) h = beyond_all files i (omega (arith, h))

low_none : (base : ℕ) (files : List (Option FileLog)) (m : ℕ) → m < base → logs_in base files m ≡ None
low_none base files m low = ap (λ (b : Bool). if b then None else payloads_in (get_or files (m - base) no_file)) (lt-ltb m base low)

within_is : (base : ℕ) (files : List (Option FileLog)) (i : ℕ) → logs_in base files (base + i) ≡ payloads_in (get_or files i no_file)
within_is base files i =
    ap (λ (b : Bool). if b then None else payloads_in (get_or files (base + i - base) no_file)) (le-ltb (base + i) base (omega arith)) ∙ ap (λ (k : ℕ). payloads_in (get_or files k no_file)) (omega arith)

pub out_none : (base : ℕ) (files : List (Option FileLog)) (m : ℕ) → (m < base) ⊎ (base + length files ≤ m) → logs_in base files m ≡ None
out_none base files m (inl low) = low_none base files m low
out_none base files m (inr high) =
    let is : m ≡ base + (m - base) = omega (arith, high) in
    ap (logs_in base files) is ∙ within_is base files (m - base) ∙ ap payloads_in (beyond_all files (m - base) (omega (arith, high)))

module _ (base above : ℕ) (files : List (Option FileLog)) (old new : Disk) (o : IsOpenedSo base files old new) (settled_ : IsSettled old)
    (none : (m : ℕ) → (m < base) ⊎ (above ≤ m) → (old m).seen ≡ None) (all : length files ≡ above - base) where
  out_seen : (m : ℕ) → (m < base) ⊎ (base + length files ≤ m) → (old m).seen ≡ None
  out_seen m (inl low) = none m (inl low)
  out_seen m (inr high) = none m (inr (omega (arith, high, all)))

  pub all_rest : Rests (logs_in base files) new
  all_rest m = elim (where_is base (length files) m) [
    | inl out ↦ subst (λ (x : Option (List (List ℕ))). RestsAt m x new) (sym (out_none base files m out)) (o.others m out ∙ settled_ m ∙ ap settled (out_seen m out))
    | inr (i, below, is) ↦ subst (λ (k : ℕ). RestsAt k (logs_in base files k) new) (sym is) (subst (λ (x : Option (List (List ℕ))). RestsAt (base + i) x new) (sym (within_is base files i)) (o.rests i below))
  ]

  pub all_reads : Reads (logs_in base files) (seen_of old)
  all_reads m = elim (where_is base (length files) m) [
    | inl out ↦ subst (λ (x : Option (List (List ℕ))). IsLogOf x (old m).seen) (sym (out_none base files m out)) (out_seen m out)
    | inr (i, below, is) ↦ subst (λ (k : ℕ). IsLogOf (logs_in base files k) (old k).seen) (sym is) (subst (λ (x : Option (List (List ℕ))). IsLogOf x (old (base + i)).seen) (sym (within_is base files i)) (o.reads i below))
  ]

pub not_none : (len : Option ℕ) (b : Bool) → is_some len ≡ not b → b ≡ false → is_some len ≡ true
not_none len b e f = e ∙ ap not f

-- a file that was opened isn't damaged, and the others are as they were
pub damaged_before : (base : ℕ) (files : List (Option FileLog)) (old mid : Disk) → IsOpenedSo base files old mid → (f at : ℕ) → ((mid f).seen ≢ None) × IsDamaged (mid f).seen at → ((old f).seen ≢ None) × IsDamaged (old f).seen at
damaged_before base files old mid o f at h =
    elim (where_is base (length files) f) [
      | inl out ↦ subst (λ (s : FileState). (s.seen ≢ None) × IsDamaged s.seen at) (o.others f out) h
      | inr (i, below, is) ↦
          let was = settled_at (base + i) (payloads_in (get_or files i no_file)) mid (o.rests i below) in
          let seen : (mid f).seen ≡ was.0 = ap (λ (k : ℕ). (mid k).seen) is ∙ ap (λ (s : FileState). s.seen) was.1 in
          absurd (whole (payloads_in (get_or files i no_file)) was.0 was.2 (subst (λ (x : Option (List ℕ)). (x ≢ None) × IsDamaged x at) seen h))
    ]
  where
    whole : (x : Option (List (List ℕ))) (c : Option (List ℕ)) → IsLogOf x c → (c ≢ None) × IsDamaged c at → ⊥
    whole None c is d = d.0 is
    whole (Some ps) c is d = log_not_damaged ps c at is d.1

pub all_within : (base above : ℕ) (files : List (Option FileLog)) → length files ≡ above - base → base ≤ above → (m : ℕ) → (m < base) ⊎ (above ≤ m) → logs_in base files m ≡ None
all_within base above files all ordered m (inl low) = out_none base files m (inl low)
all_within base above files all ordered m (inr high) = out_none base files m (inr (omega (arith, high, all, ordered)))
