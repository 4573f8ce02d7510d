-- What an append leaves, and what calls keep of a trail.
use Rattle.std.proofs.Common.{◌≡◌, ◌≢◌, inl, inr, ⊎_elim, ℕ, List, [], ◌∷◌, ◌++◌, Option, None, Err, sym, subst}
use Rattle.std.specs.List.{AllByRecursion}
use Rattle.rdf_types.specs.declared.records.Record.{Record}
use Rattle.rdf_codec.specs.Spelling.{record_spelling, IsRecord}
use Rattle.rdf_disk.specs.Files.{Disk, Contents}
use Rattle.rdf_disk.specs.Outcomes.{May, Durably, Narrows, Keeps}
use Rattle.rdf_gatelog.specs.declared.fault.LogFault.{LogFault}
use Rattle.rdf_gatelog.specs.Log.{IsLogFile, IsAtRest}
use Rattle.rdf_gatelog.specs.LogCalls.{Appends, SameLog, KeepsLogs}
use Rattle.rdf_gatelog.specs.LogLaws.{one_log}
use Rattle.audit_trail.specs.Spelled.{spellings, Spells, SpellsEither, SameTrail, IsAlone}
use Rattle.audit_trail.specs.SpelledLaws.{none_may}
use Rattle.audit_trail.proofs.Spellings.{OneSpelling, spelled_once, spellings-push, records-push}

-- contents spell one trail at most
pub one_trail_spelled : OneSpelling → (trail other : List Record) (c : Contents) → Spells trail c → Spells other c → trail ≡ other
one_trail_spelled law trail other c p q = spelled_once law trail other p.records q.records (one_log (spellings trail) (spellings other) (c 0) p.log q.log)

-- an append that answers an Err
pub append_leaves : (trail : List Record) (rec : Record) (end new_end : ℕ) (e : LogFault) (old new : Disk)
    → IsAtRest 0 end (spellings trail) old → AllByRecursion IsRecord trail → IsRecord rec → Appends 0 end new_end (record_spelling rec) (Err e) old new → IsAlone old
    → Durably new (SpellsEither trail rec)
append_leaves trail rec end new_end e old new rest records fits appends alone c may =
    let others : (m : ℕ) → m ≢ 0 → c m ≡ None = λ m other. none_may old m (c m) (alone m other) (appends.1 m other (c m) (may m)) in
    ⊎_elim
    (λ (before : IsLogFile (spellings trail) (c 0)). inl (record { log = before; records = records; alone = others }))
    (λ (after : IsLogFile (spellings trail ++ record_spelling rec ∷ []) (c 0)).
    inr (record { log = subst (λ (ps : List (List ℕ)). IsLogFile ps (c 0)) (sym (spellings-push trail rec)) after; records = records-push trail rec records fits; alone = others }))
    (appends.0 (spellings trail) rest (c 0) (may 0))

-- contents whose files are the same logs spell the same
pub same_trail : (c d : Contents) → ((m : ℕ) → SameLog (c m) (d m)) → SameTrail c d
same_trail c d same = record {
  trail = λ trail s. record { log = (same 0).logs (spellings trail) s.log; records = s.records; alone = λ m other. (same m).absent (s.alone m other) };
  trail_back = λ trail s. record { log = (same 0).logs_back (spellings trail) s.log; records = s.records; alone = λ m other. (same m).absent_back (s.alone m other) };
}

-- through calls that narrow what may be
pub narrow_keeps : (old new : Disk) → ((m : ℕ) → Narrows (old m) (new m)) → Keeps SameTrail old new
narrow_keeps old new narrow d may = (d, λ m. narrow m (d m) (may m), record { trail = λ trail s. s; trail_back = λ trail s. s })

-- through such calls and the opening of a log
pub opening_keeps : (old mid new : Disk) → ((m : ℕ) → Narrows (old m) (mid m)) → KeepsLogs mid new → Keeps SameTrail old new
opening_keeps old mid new narrow keeps d may =
    let before : (m : ℕ) → (x : Option (List ℕ)) × May (mid m) x × SameLog x (d m) = λ m. keeps m (d m) (may m) in (
      λ m. (before m).0,
      λ m. narrow m (before m).0 (before m).1,
      same_trail (λ m. (before m).0) d (λ m. (before m).2),
    )

-- the same of a log that is said to be in file 0, and of a payload that is said to spell the record
pub append_leaves_in : (trail : List Record) (rec : Record) (file end new_end : ℕ) (payload : List ℕ) (e : LogFault) (old new : Disk)
    → file ≡ 0 → payload ≡ record_spelling rec
    → IsAtRest 0 end (spellings trail) old → AllByRecursion IsRecord trail → IsRecord rec → Appends file end new_end payload (Err e) old new → IsAlone old
    → Durably new (SpellsEither trail rec)
append_leaves_in trail rec file end new_end payload e old new file_is same rest records fits appends alone =
    append_leaves trail rec end new_end e old new rest records fits
    (subst (λ (n : ℕ). Appends n end new_end (record_spelling rec) (Err e) old new) file_is (subst (λ (p : List ℕ). Appends file end new_end p (Err e) old new) same appends))
    alone
