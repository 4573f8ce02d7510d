-- The steps of making and of opening the log of a trail.
use Rattle.std.proofs.Common.{◌≡◌, ◌≢◌, inl, inr, ℕ, ◌<◌, List, [], ◌∷◌, ◌++◌, length, drop, get_or, ◌+◌, Option, Some, None, Vec, refl, sym, ◌∙◌, ap, subst, arith, append_assoc}
use Rattle.std.proofs.lemmas.List.{drop_more}
use Rattle.std.specs.declared.alloc.Global.{Global}
use Rattle.std.specs.List.{AllByRecursion}
use Rattle.rdf_types.specs.declared.records.Record.{Record}
use Rattle.rdf_codec.specs.Spelling.{record_spelling, IsRecord}
use Rattle.rdf_disk.specs.Calls.{Same}
use Rattle.rdf_disk.specs.Files.{FileState, Disk, Contents, IsSpan}
use Rattle.rdf_disk.specs.Outcomes.{Durably, Narrows, seen_of}
use Rattle.rdf_gatelog.specs.Log.{open_blocks, IsLogFile, IsDamaged}
use Rattle.rdf_gatelog.specs.LogLaws.{one_log, log_not_damaged, block_place}
use Rattle.rdf_gatelog.specs.Parsed.{lists_of}
use Rattle.audit_trail.specs.Spelled.{spellings, Spells, WasOrSpells}
use Rattle.audit_trail.specs.Flaws.{IsFirstNoRecord, FlawOf, IsFlaw}
use Rattle.audit_trail.proofs.Spellings.{OneSpelling, spelled_once, spellings-push, no_other_payload}

-- ---- a new log

-- a sync that isn't done leaves what there might have been
pub was_may : (old new : Disk) → ((m : ℕ) → Narrows (old m) (new m)) → Durably new (WasOrSpells old)
was_may old new narrow c may = inl (λ m. narrow m (c m) (may m))

-- ---- what the span says

-- file 0 is there
pub file_there : (disk : Disk) (low above : ℕ) → IsSpan disk low above → low ≡ 0 → above ≢ 0 → (disk 0).seen ≢ None
file_there disk low above span first some = subst (λ (m : ℕ). (disk m).seen ≢ None) first (span.low_is (omega arith)).1

-- ---- damage within file 0

pub broken_is_flaw : (x : Option (List ℕ)) (c : Contents) (file at : ℕ) → x ≢ None → file ≡ 0 → IsDamaged x at → FlawOf x c file at
broken_is_flaw None c file at there first_file damaged = absurd (there refl)
broken_is_flaw (Some bytes) c file at there first_file damaged = (first_file, inl damaged)

pub no_record_is_flaw : (x : Option (List ℕ)) (c : Contents) (payloads : List (List ℕ)) (file at : ℕ) → file ≡ 0 → IsLogFile payloads x → IsFirstNoRecord payloads at → FlawOf x c file at
no_record_is_flaw None c payloads file at first_file log first = absurd log
no_record_is_flaw (Some bytes) c payloads file at first_file log first = (first_file, inr (record { payloads = payloads; log = log; first = first }))

-- contents that spell a trail have no flaw
flawless : (trail : List Record) (x : Option (List ℕ)) (c : Contents) (file at : ℕ) → IsLogFile (spellings trail) x → AllByRecursion IsRecord trail → FlawOf x c file at → ⊥
flawless trail None c file at log records flaw = log
flawless trail (Some bytes) c file at log records (first_file, inl broken) = log_not_damaged (spellings trail) (Some bytes) at log broken
flawless trail (Some bytes) c file at log records (first_file, inr none) =
    no_other_payload trail none.first.before none.first.payload none.first.after records
    (sym none.first.payloads_are ∙ one_log none.payloads (spellings trail) (Some bytes) none.log log)
    none.first.no_record

pub spells_no_flaw : (trail : List Record) (c : Contents) (file at : ℕ) → Spells trail c → IsFlaw c file at → ⊥
spells_no_flaw trail c file at s flaw = flawless trail (c 0) c file at s.log s.records flaw

-- ---- what was opened

-- over a call between that only looked
pub seen_same : (old mid : Disk) (m : ℕ) → Same old mid → (mid m).seen ≡ (old m).seen
seen_same old mid m same = ap (λ (f : FileState). f.seen) (same m)

-- the records are those of the trail that the contents spell
only_trail : OneSpelling → (records trail : List Record) (c : Contents) → IsLogFile (spellings records) (c 0) → AllByRecursion IsRecord records → Spells trail c → records ≡ trail
only_trail law records trail c log fit s = spelled_once law records trail fit s.records (one_log (spellings records) (spellings trail) (c 0) log s.log)

-- ---- the records of the payloads, one after another

-- the payload at the index, and what is behind it
pub next_payload : (payloads : List (Vec ℕ Global)) (done : List Record) (i : ℕ) (item : Vec ℕ Global) → i < length payloads → item ≡ get_or payloads i item
    → lists_of payloads ≡ spellings done ++ lists_of (drop i payloads) → lists_of payloads ≡ spellings done ++ item.items ∷ lists_of (drop (i + 1) payloads)
next_payload payloads done i item below is split =
    let next : drop i payloads ≡ item ∷ drop (i + 1) payloads = drop_more payloads i item below ∙ ap (λ (x : Vec ℕ Global). x ∷ drop (i + 1) payloads) (sym is) in
    split ∙ ap (λ (vs : List (Vec ℕ Global)). spellings done ++ lists_of vs) next

-- one more of them is a record
pub one_more : (payloads : List (List ℕ)) (done : List Record) (rec : Record) (p : List ℕ) (after : List (List ℕ)) → payloads ≡ spellings done ++ p ∷ after → p ≡ record_spelling rec
    → payloads ≡ spellings (done ++ rec ∷ []) ++ after
one_more payloads done rec p after split same =
    split ∙ ap (λ (q : List ℕ). spellings done ++ q ∷ after) same
    ∙ sym (append_assoc (spellings done) (record_spelling rec ∷ []) after)
    ∙ ap (λ (ps : List (List ℕ)). ps ++ after) (sym (spellings-push done rec))

pub place_behind : (done : List Record) (rec : Record) (p : List ℕ) (at : ℕ) → p ≡ record_spelling rec → at ≡ length (open_blocks (spellings done)) → at + (5 + length p) ≡ length (open_blocks (spellings (done ++ rec ∷ [])))
place_behind done rec p at same place =
    let whole : length (open_blocks (spellings done ++ p ∷ [])) ≡ length (open_blocks (spellings done)) + (5 + length p) + 0 = block_place (spellings done) p [] in
    let is : open_blocks (spellings (done ++ rec ∷ [])) ≡ open_blocks (spellings done ++ p ∷ []) = ap open_blocks (spellings-push done rec ∙ ap (λ (q : List ℕ). spellings done ++ q ∷ []) (sym same)) in
    omega (arith, whole, ap length is, place)

-- ---- the answers of an opening

pub log_flaw : (old mid : Disk) (low above file at : ℕ) → IsSpan old low above → Same old mid → low ≡ 0 → above ≢ 0 → (file ≡ 0) × IsDamaged (mid 0).seen at → IsFlaw (seen_of old) file at
log_flaw old mid low above file at span same first some damaged =
    broken_is_flaw (old 0).seen (seen_of old) file at (file_there old low above span first some) damaged.0
    (subst (λ (x : Option (List ℕ)). IsDamaged x at) (seen_same old mid 0 same) damaged.1)

pub record_flaw : (old mid : Disk) (payloads : List (List ℕ)) (file at : ℕ) → Same old mid → IsLogFile payloads (mid 0).seen → (file ≡ 0) × IsFirstNoRecord payloads at → IsFlaw (seen_of old) file at
record_flaw old mid payloads file at same stood damaged =
    no_record_is_flaw (old 0).seen (seen_of old) payloads file at damaged.0 (subst (IsLogFile payloads) (seen_same old mid 0 same) stood) damaged.1

pub only_after : OneSpelling → (old mid : Disk) (payloads : List (List ℕ)) (records trail : List Record) → Same old mid → IsLogFile payloads (mid 0).seen → spellings records ≡ payloads → AllByRecursion IsRecord records
    → Spells trail (seen_of old) → records ≡ trail
only_after law old mid payloads records trail same stood spelled fit spells =
    only_trail law records trail (seen_of old) (subst (IsLogFile (spellings records)) (seen_same old mid 0 same) (subst (λ (ps : List (List ℕ)). IsLogFile ps (mid 0).seen) (sym spelled) stood)) fit spells
