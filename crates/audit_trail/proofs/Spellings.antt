-- Records and the payloads that spell them.
use Rattle.std.proofs.Common.{◌≡◌, ◌≢◌, ◌∙◌, ℕ, List, [], ◌∷◌, ◌++◌, length, Result, Ok, Err, MatchResult, refl, sym, ap, subst, append-nil}
use Rattle.rdf_codec.specs.declared.fault.CodecFault.{CodecFault}
use Rattle.rdf_codec.specs.declared.fault.CodecFault.TheVariants.{NoMemory}
use Rattle.std.specs.List.{AllByRecursion}
use Rattle.std.proofs.lemmas.List.{map-append}
use Rattle.rdf_types.specs.declared.records.Record.{Record}
use Rattle.rdf_codec.specs.Spelling.{record_spelling, IsRecord}
use Rattle.audit_trail.specs.Spelled.{spellings}

-- no spelling of a record begins another one
abbrev pub OneSpelling : Type 0
OneSpelling = (rec other : Record) (x y : List ℕ) → IsRecord rec → IsRecord other → record_spelling rec ++ x ≡ record_spelling other ++ y → (rec ≡ other) × (x ≡ y)

-- a spelling is that of one record
one_record : OneSpelling → (rec other : Record) → IsRecord rec → IsRecord other → record_spelling rec ≡ record_spelling other → rec ≡ other
one_record law rec other p q e = (law rec other [] [] p q (ap (λ (l : List ℕ). l ++ []) e)).0

-- and so the spellings are those of one trail
pub spelled_once : OneSpelling → (trail other : List Record) → AllByRecursion IsRecord trail → AllByRecursion IsRecord other → spellings trail ≡ spellings other → trail ≡ other
spelled_once law [] [] p q e = refl
spelled_once law [] (s ∷ other) p q e = cc
spelled_once law (r ∷ trail) [] p q e = cc
spelled_once law (r ∷ trail) (s ∷ other) p q e =
    let first : record_spelling r ≡ record_spelling s = cc in
    let rest : spellings trail ≡ spellings other = cc in
    let head : r ≡ s = one_record law r s p.0 q.0 first in
    let tail : trail ≡ other = spelled_once law trail other p.1 q.1 rest in
    cc

pub spellings-push : (trail : List Record) (rec : Record) → spellings (trail ++ rec ∷ []) ≡ spellings trail ++ record_spelling rec ∷ []
spellings-push trail rec = map-append record_spelling trail (rec ∷ [])

pub records-push : (trail : List Record) (rec : Record) → AllByRecursion IsRecord trail → IsRecord rec → AllByRecursion IsRecord (trail ++ rec ∷ [])
records-push [] rec fit here = (here, tt)
records-push (r ∷ trail) rec fit here = (fit.0, records-push trail rec fit.1 here)

-- each payload of a trail spells a record
pub no_other_payload : (trail before : List Record) (payload : List ℕ) (after : List (List ℕ)) → AllByRecursion IsRecord trail → spellings before ++ payload ∷ after ≡ spellings trail
    → ((rec : Record) → IsRecord rec → payload ≢ record_spelling rec) → ⊥
no_other_payload [] [] payload after fit is none = cc
no_other_payload [] (b ∷ before) payload after fit is none = cc
no_other_payload (r ∷ trail) [] payload after fit is none = none r fit.0 (let same : payload ≡ record_spelling r = cc in same)
no_other_payload (r ∷ trail) (b ∷ before) payload after fit is none =
    let rest : spellings before ++ payload ∷ after ≡ spellings trail = cc in
    no_other_payload trail before payload after fit.1 rest none

-- what `read_record` says of bytes that a record's spelling begins
abbrev pub ReadsOnly : List ℕ → Result (Record × ℕ) CodecFault → Type 0
ReadsOnly bytes r = (rec : Record) (more : List ℕ) → IsRecord rec → bytes ≡ record_spelling rec ++ more → MatchResult r (λ x. x ≡ (rec, length (record_spelling rec))) (λ e. e ≡ NoMemory)

-- where it reads a part of the payload alone, or finds a fault, the payload is no record's spelling
pub part_alone : (payload : List ℕ) (r : Result (Record × ℕ) CodecFault) (x : Record × ℕ) → ReadsOnly payload r → r ≡ Ok x → x.1 ≢ length payload
    → (rec : Record) → IsRecord rec → payload ≢ record_spelling rec
part_alone payload r x only is part rec fits same =
    let whole : x ≡ (rec, length (record_spelling rec)) = subst (λ (q : Result (Record × ℕ) CodecFault). MatchResult q (λ x. x ≡ (rec, length (record_spelling rec))) (λ e. e ≡ NoMemory)) is (only rec [] fits (same ∙ sym (append-nil (record_spelling rec)))) in
    part (ap (λ (y : Record × ℕ). y.1) whole ∙ sym (ap length same))

pub faulty : (payload : List ℕ) (r : Result (Record × ℕ) CodecFault) (e : CodecFault) → ReadsOnly payload r → r ≡ Err e → e ≢ NoMemory
    → (rec : Record) → IsRecord rec → payload ≢ record_spelling rec
faulty payload r e only is other rec fits same =
    other (subst (λ (q : Result (Record × ℕ) CodecFault). MatchResult q (λ x. x ≡ (rec, length (record_spelling rec))) (λ e. e ≡ NoMemory)) is (only rec [] fits (same ∙ sym (append-nil (record_spelling rec)))))
