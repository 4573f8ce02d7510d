-- What an addition to one log does to a disk of logs.
use Rattle.std.proofs.Common.{◌≡◌, ◌≢◌, inl, inr, ⊎_elim, ℕ, List, [], ◌∷◌, ◌++◌, Option, Some, Result, Ok, Err, sym, ap, subst, OnErr, OnOk, IfOk}
use Rattle.rdf_disk.specs.Files.{Disk}
use Rattle.rdf_disk.specs.Outcomes.{Surely, Durably}
use Rattle.rdf_gatelog.specs.declared.fault.LogFault.{LogFault}
use Rattle.rdf_gatelog.specs.Log.{IsLogFile, IsAtRest}
use Rattle.rdf_gatelog.specs.LogCalls.{OthersNarrow}
use Rattle.rdf_gatelog.specs.LogPlace.{LogPlace}
use Rattle.rdf_gatelog.specs.Logs.{Logs, IsLogOf, Reads, RestsOpen, payloads_at, pushed_all, ReadsEither}
use Rattle.rdf_gatelog.specs.RestLaws.{with_same, rests_surely, rests_at_same, rests_open}
use Rattle.rdf_gatelog.specs.Adding.{AdditionPlace, Adds, Finishes, RestsAdding}
use Rattle.rdf_gatelog.proofs.LogDisks.{reads_same, rests_beside, either_beside}
use Rattle.rdf_gatelog.proofs.AdditionLaws.{adds_none}

-- an addition that begins
pub begins_with_none : (logs : Logs) (file end : ℕ) (disk : Disk) → RestsOpen logs file end disk → RestsAdding logs (record { file = file; gate = end; end = end }) [] disk
begins_with_none logs file end disk (rests, o) = record {
  payloads = o.payloads;
  there = o.there;
  adding = adds_none file end o.payloads disk (rests_open logs file end [] disk disk rests o);
  beside = λ m other. rests m;
}

module _ (logs : Logs) (place : AdditionPlace) (more : List (List ℕ)) (old new : Disk) (r : RestsAdding logs place more old) where
  -- each other file is surely what it was
  others_surely : OthersNarrow place.file old new → (m : ℕ) → m ≢ place.file → Surely (new m) (IsLogOf (logs m))
  others_surely narrow m other y may = rests_surely m (logs m) old (r.beside m other) y (narrow m other y may)

  push_ok : {T : Type 0} (end : ℕ) (p : List ℕ) (x : T) → Adds {T = T} place (record place { end = end }) p (Ok x) old new → RestsAdding logs (record place { end = end }) (more ++ p ∷ []) new
  push_ok end p x a = record {
    payloads = r.payloads;
    there = r.there;
    adding = a.0 r.payloads more r.adding;
    beside = λ m other. rests_at_same m (logs m) old new (a.1 m other) (r.beside m other);
  }

  push_err : (T : Type 0) (next : AdditionPlace) (p : List ℕ) (e : LogFault) → Adds {T = T} place next p (Err e) old new → Durably new (Reads logs)
  push_err T next p e a c may = reads_same logs place.file c
      (subst (λ (x : Option (List (List ℕ))). IsLogOf x (c place.file)) (sym r.there) (a.0 r.payloads more r.adding (c place.file) (may place.file)))
      (λ m other. others_surely a.1 m other (c m) (may m))

  module _ (p : List ℕ) where
    abbrev all_here : List (List ℕ)
    all_here = payloads_at (logs place.file) ++ (more ++ p ∷ [])

    all_is : all_here ≡ r.payloads ++ (more ++ p ∷ [])
    all_is = ap (λ (x : Option (List (List ℕ))). payloads_at x ++ (more ++ p ∷ [])) r.there

    finish_ok : {T : Type 0} (end : ℕ) (x : T) → Finishes {T = T} place end p (Ok x) old new → RestsOpen (pushed_all logs place.file (more ++ p ∷ [])) place.file end new
    finish_ok end x a =
        let after : IsAtRest place.file end all_here new = subst (λ (l : List (List ℕ)). IsAtRest place.file end l new) (sym all_is) (a.0 r.payloads more r.adding) in (
          rests_beside logs place.file (Some all_here) old new r.beside (subst (λ (n : ℕ). IsAtRest place.file n all_here new) after.end_is after) a.1,
          record { payloads = all_here; there = with_same logs place.file (Some all_here); end_is = after.end_is },
        )

    finish_err : (T : Type 0) (end : ℕ) (e : LogFault) → Finishes {T = T} place end p (Err e) old new → Durably new (ReadsEither logs (pushed_all logs place.file (more ++ p ∷ [])))
    finish_err T end e a = either_beside logs place.file (Some all_here) new
        (λ y may. ⊎_elim
        (λ (before : IsLogFile r.payloads y). inl (subst (λ (x : Option (List (List ℕ))). IsLogOf x y) (sym r.there) before))
        (λ (after : IsLogFile (r.payloads ++ (more ++ p ∷ [])) y). inr (subst (λ (l : List (List ℕ)). IsLogFile l y) (sym all_is) after))
        (a.0 r.payloads more r.adding y may))
        (others_surely a.1)

-- the answers of a push
module _ {T : Type 0} (place next : AdditionPlace) (end : ℕ) (p : List ℕ) (old new : Disk) where
  pub push_answers_ok : (r : Result T LogFault) → Adds place next p r old new → OnOk r (next ≡ record place { end = end })
      → OnOk r ((logs : Logs) (more : List (List ℕ)) → RestsAdding logs place more old → RestsAdding logs next (more ++ p ∷ []) new)
  push_answers_ok (Ok x) a is = λ logs more rests.
      subst (λ (n : AdditionPlace). RestsAdding logs n (more ++ p ∷ []) new) (sym is) (push_ok logs place more old new rests end p x (subst (λ (n : AdditionPlace). Adds {T = T} place n p (Ok x) old new) is a))
  push_answers_ok (Err e) a is = tt

  pub push_answers_err : (r : Result T LogFault) → Adds place next p r old new → OnErr r ((logs : Logs) (more : List (List ℕ)) → RestsAdding logs place more old → Durably new (Reads logs))
  push_answers_err (Ok x) a = tt
  push_answers_err (Err e) a = λ logs more rests. push_err logs place more old new rests T next p e a

-- the answers of a finish
module _ (place : AdditionPlace) (end : ℕ) (p : List ℕ) (old new : Disk) where
  pub finish_answers_ok : (r : Result LogPlace LogFault) → Finishes place end p r old new → IfOk r (λ log. log ≡ record { file = place.file; end = end })
      → IfOk r (λ log. (logs : Logs) (more : List (List ℕ)) → RestsAdding logs place more old → RestsOpen (pushed_all logs place.file (more ++ p ∷ [])) place.file log.end new)
  finish_answers_ok (Ok log) a is = λ logs more rests.
      subst (λ (l : LogPlace). RestsOpen (pushed_all logs place.file (more ++ p ∷ [])) place.file l.end new) (sym is) (finish_ok logs place more old new rests p end log a)
  finish_answers_ok (Err e) a is = tt

  pub finish_answers_err : (r : Result LogPlace LogFault) → Finishes place end p r old new
      → OnErr r ((logs : Logs) (more : List (List ℕ)) → RestsAdding logs place more old → Durably new (ReadsEither logs (pushed_all logs place.file (more ++ p ∷ []))))
  finish_answers_err (Ok log) a = tt
  finish_answers_err (Err e) a = λ logs more rests. finish_err logs place more old new rests p LogPlace end e a
