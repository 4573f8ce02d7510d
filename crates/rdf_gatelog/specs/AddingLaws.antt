-- Laws of additions to logs.
use Rattle.std.proofs.Common.{◌≡◌, inl, inr, ℕ, ◌+◌, ◌<◌, ◌≤◌, false, List, [], ◌∷◌, ◌++◌, length, get_or, take, drop, Option, Some, None, Result, Ok, Err, refl, sym, ◌∙◌, ap, subst, arith, append_assoc, length-append, length-take, take-append-drop}
use Rattle.std.proofs.lemmas.List.{take_at, take-take, ext_get_or, get_or-take, append-nil}
use Rattle.rdf_disk.specs.declared.fault.DiskFault.{DiskFault}
use Rattle.rdf_disk.specs.declared.fault.DiskFault.TheVariants.{Stopped, Failed, NoMemory}
use Rattle.rdf_disk.specs.Files.{FileState, Disk, bytes_of, settled, patched, touched, IsTorn, IsTornFile}
use Rattle.rdf_disk.specs.Outcomes.{IsOutside, IsRewritten, OutcomeOf, IsOutcome, May, Surely, Durably}
use Rattle.rdf_disk.specs.Calls.{Writes}
use Rattle.rdf_disk.specs.OutcomeLaws.{may-settled, patched_torn}
use Rattle.rdf_gatelog.specs.Log.{framed, open_blocks, IsLogFile}
use Rattle.rdf_gatelog.specs.LogLaws.{length-framed}
use Rattle.rdf_gatelog.specs.Logs.{Logs, IsLogOf, Reads}
use Rattle.rdf_gatelog.specs.RestLaws.{rests_surely}
use Rattle.rdf_gatelog.specs.Adding.{AdditionPlace, added, AreFrom, IsAdding, RestsAdding}
use Rattle.std.proofs.lemmas.Bool.{cases_eq}

-- ---- files that begin with bytes before which nothing is pending

outside : (at : ℕ) (ws : List (ℕ × ℕ)) (i : ℕ) → AreFrom at ws → i < at → IsOutside ws i
outside at [] i from below = tt
outside at (w ∷ ws) i from below = (inl (omega (arith, from.0)), outside at ws i from.1 below)

module _ (front : List ℕ) where
  -- the file is there, and begins with these bytes
  abbrev pub Begins : Option (List ℕ) → Type 0
  Begins x = (tail : List ℕ) × (x ≡ Some (front ++ tail))

  begins_with : (c : List ℕ) → take (length front) c ≡ front → Begins (Some c)
  begins_with c same = (drop (length front) c, ap Some (sym (take-append-drop (length front) c) ∙ ap (λ (l : List ℕ). l ++ drop (length front) c) same))

  torn_begins : (at n : ℕ) (tail c : List ℕ) → length front ≤ at → IsTorn at n (front ++ tail) c → Begins (Some c)
  torn_begins at n tail c behind torn = begins_with c
      (sym (take-take (length front) at c behind) ∙ ap (λ (l : List ℕ). take (length front) l) torn.before ∙ take-take (length front) at (front ++ tail) behind ∙ take_at front tail (length front) refl)

  rewritten_begins : (w : ℕ × ℕ) (ws : List (ℕ × ℕ)) (tail c : List ℕ) → AreFrom (length front) (w ∷ ws) → IsRewritten (w ∷ ws) false (front ++ tail) c → Begins (Some c)
  rewritten_begins w ws tail c from r = begins_with c (ext_get_or 0 (take (length front) c) front long same)
    where
      long : length (take (length front) c) ≡ length front
      long = omega (arith, length-take (length front) c, length-append front tail, r.no_shorter)

      same : (i : ℕ) → i < length (take (length front) c) → get_or (take (length front) c) i 0 ≡ get_or front i 0
      same i below =
          let in_front : i < length front = omega (arith, long) in
          let in_c : i < length c = omega (arith, length-take (length front) c) in
          get_or-take (length front) c i 0 in_front
          ∙ r.same i in_c (outside (length front) (w ∷ ws) i from in_front)
          ∙ sym (get_or-take (length front) (front ++ tail) i 0 in_front)
          ∙ ap (λ (l : List ℕ). get_or l i 0) (take_at front tail (length front) refl)

  outcome_begins : (ws : List (ℕ × ℕ)) (tail : List ℕ) (x : Option (List ℕ)) → AreFrom (length front) ws → OutcomeOf ws false (Some (front ++ tail)) x → Begins x
  outcome_begins [] tail x from is = (tail, is)
  outcome_begins (w ∷ ws) tail None from absent = let there : Some (front ++ tail) ≡ None = absent refl in cc
  outcome_begins (w ∷ ws) tail (Some c) from r = rewritten_begins w ws tail c from r

  -- what is seen begins with them, and so does what is safe, before all writes
  abbrev pub pending : Option (List ℕ) → List ℕ → List (ℕ × ℕ) → FileState
  pending seen tail ws = record { seen = seen; safe = Some (front ++ tail); writes = ws; removed = false }

  may_begin : (seen : Option (List ℕ)) (tail : List ℕ) (ws : List (ℕ × ℕ)) → AreFrom (length front) ws → Begins seen → Surely (pending seen tail ws) Begins
  may_begin seen tail ws from begins x (inl now) = subst Begins (sym now) begins
  may_begin seen tail ws from begins x (inr left) = outcome_begins ws tail x from left

  torn_file_begins : (at n : ℕ) (tail : List ℕ) (x : Option (List ℕ)) → length front ≤ at → IsTornFile at n (Some (front ++ tail)) x → Begins x
  torn_file_begins at n tail None behind absent = cc
  torn_file_begins at n tail (Some c) behind torn = torn_begins at n tail c behind torn

  module _ (tail safe : List ℕ) (ws : List (ℕ × ℕ)) (from : AreFrom (length front) ws) (file at : ℕ) (bytes : List ℕ) (behind : length front ≤ at) (near : at ≤ length (front ++ tail))
      (s0 : Disk) (was : s0 file ≡ pending (Some (front ++ tail)) safe ws) where
    seen_was : (s0 file).seen ≡ Some (front ++ tail)
    seen_was = ap (λ (f : FileState). f.seen) was

    touched_is : (x : Option (List ℕ)) → touched (s0 file) at (length bytes) x ≡ pending x safe ((at, length bytes) ∷ ws)
    touched_is x = ap (λ (f : FileState). touched f at (length bytes) x) was

    touched_begins : (f : FileState) (x : Option (List ℕ)) → f ≡ touched (s0 file) at (length bytes) x → Begins x → Surely f Begins
    touched_begins f x is begins y may = may_begin x safe ((at, length bytes) ∷ ws) (behind, from) begins y (subst (λ (g : FileState). May g y) (is ∙ touched_is x) may)

    settles_begins : (f : FileState) (x y : Option (List ℕ)) → IsOutcome (touched (s0 file) at (length bytes) y) x → f ≡ settled x → Surely f Begins
    settles_begins f x y outcome is z may =
        let same : z ≡ x = may-settled x z (subst (λ (g : FileState). May g z) is may) in
        subst Begins (sym same) (outcome_begins ((at, length bytes) ∷ ws) safe x (behind, from) (subst (λ (g : FileState). IsOutcome g x) (touched_is y) outcome))

    -- whatever a write behind them answers, the file begins with them
    pub write_begins : {T : Type 0} (r : Result T DiskFault) (s1 : Disk) → Writes file at bytes r s0 s1 → Surely (s1 file) Begins
    write_begins (Ok v) s1 w x may =
        let seen : (Some (patched (bytes_of (s0 file).seen) at bytes)) ≡ Some (patched (front ++ tail) at bytes) = ap (λ (x : Option (List ℕ)). Some (patched (bytes_of x) at bytes)) seen_was in
        touched_begins (s1 file) (Some (patched (bytes_of (s0 file).seen) at bytes)) w.this
        (subst Begins (sym seen) (torn_begins at (length bytes) tail (patched (front ++ tail) at bytes) behind (patched_torn (front ++ tail) at (length bytes) near bytes refl))) x may
    write_begins (Err Stopped) s1 w x may = settles_begins (s1 file) w.this.0 (s0 file).seen w.this.1 w.this.2 x may
    write_begins (Err Failed) s1 w x may = touched_begins (s1 file) w.0 w.2.this (torn_file_begins at (length bytes) tail w.0 behind (subst (λ (x : Option (List ℕ)). IsTornFile at (length bytes) x w.0) seen_was w.1)) x may
    write_begins (Err NoMemory) s1 w x may = may_begin (Some (front ++ tail)) safe ws from (tail, refl) x (subst (λ (g : FileState). May g x) (w file ∙ was) may)

-- ---- bytes that are added

pub added-append : (more : List (List ℕ)) (p : List ℕ) → added (more ++ p ∷ []) ≡ added more ++ (framed p ++ 1 ∷ [])
added-append [] p = append-nil (framed p ++ 1 ∷ [])
added-append (q ∷ more) p = ap (λ (l : List ℕ). (framed q ++ 1 ∷ []) ++ l) (added-append more p) ∙ sym (append_assoc (framed q ++ 1 ∷ []) (added more) (framed p ++ 1 ∷ []))

-- behind a gate that is open they are blocks
pub added_blocks : (more : List (List ℕ)) (rest : List ℕ) → 1 ∷ (added more ++ rest) ≡ open_blocks more ++ 1 ∷ rest
added_blocks [] rest = refl
added_blocks (p ∷ more) rest =
    ap (λ (l : List ℕ). 1 ∷ l) (append_assoc (framed p ++ 1 ∷ []) (added more) rest ∙ append_assoc (framed p) (1 ∷ []) (added more ++ rest) ∙ ap (λ (l : List ℕ). framed p ++ l) (added_blocks more rest))
    ∙ sym (append_assoc (1 ∷ framed p) (open_blocks more) (1 ∷ rest))

pub length-added : (more : List (List ℕ)) → length (added more) ≡ length (open_blocks more)
length-added more = omega (arith, ap length (added_blocks more []), ap length (append-nil (added more)), length-append (open_blocks more) (1 ∷ []))

pub length-added-append : (more : List (List ℕ)) (p : List ℕ) → length (added (more ++ p ∷ [])) ≡ length (added more) + (5 + length p)
length-added-append more p = omega (arith, ap length (added-append more p), length-append (added more) (framed p ++ 1 ∷ []), length-append (framed p) (1 ∷ []), length-framed p)

-- ---- a log under addition

module _ (place : AdditionPlace) (payloads more : List (List ℕ)) (s0 : Disk) (a : IsAdding place payloads more s0) where
  -- the log and its closed gate
  abbrev pub front : List ℕ
  front = open_blocks payloads ++ a.shut ∷ []

  abbrev pub seen_bytes : List ℕ
  seen_bytes = front ++ (added more ++ a.rest)

  pub fronted : (tail : List ℕ) → open_blocks payloads ++ a.shut ∷ tail ≡ front ++ tail
  fronted tail = sym (append_assoc (open_blocks payloads) (a.shut ∷ []) tail)

  pub length-front : length front ≡ place.gate + 1
  length-front = omega (arith, a.gate_is, length-append (open_blocks payloads) (a.shut ∷ []))

  pub front_is : s0 place.file ≡ pending front (Some seen_bytes) a.safe_rest a.writes
  front_is =
      let same : record { seen = Some (open_blocks payloads ++ a.shut ∷ (added more ++ a.rest)); safe = Some (open_blocks payloads ++ a.shut ∷ a.safe_rest); writes = a.writes; removed = false }
      ≡ pending front (Some seen_bytes) a.safe_rest a.writes = λ i. record { seen = Some (fronted (added more ++ a.rest) i); safe = Some (fronted a.safe_rest i); writes = a.writes; removed = false } in
      a.file_is ∙ same

  from : AreFrom (length front) a.writes
  from = subst (λ (n : ℕ). AreFrom n a.writes) (sym length-front) a.behind

  is_log : (x : Option (List ℕ)) → Begins front x → IsLogFile payloads x
  is_log x (tail, is) = subst (IsLogFile payloads) (sym is) (inr (record { gate = a.shut; rest = tail; shut = a.is_shut; bytes_are = append_assoc (open_blocks payloads) (a.shut ∷ []) tail; fit = a.fit }))

  -- whatever may be of its file is a log of the payloads that it had
  pub adding_surely : Surely (s0 place.file) (IsLogFile payloads)
  adding_surely x may = is_log x (may_begin front (Some seen_bytes) a.safe_rest a.writes from (added more ++ a.rest, refl) x (subst (λ (f : FileState). May f x) front_is may))

  pub end_at : place.end ≡ place.gate + length (added more)
  end_at = omega (arith, a.end_is, length-added more)

  pub seen_long : place.end + 1 ≤ length seen_bytes
  seen_long = omega (arith, end_at, length-front, length-append front (added more ++ a.rest), length-append (added more) a.rest)

  -- the next write leaves no gap
  pub no_gap : place.end + 1 ≤ length (bytes_of (s0 place.file).seen)
  no_gap = subst (λ (f : FileState). place.end + 1 ≤ length (bytes_of f.seen)) (sym front_is) seen_long

  -- and whatever it answers, the file is that log
  pub written_surely : {T : Type 0} (block : List ℕ) (r : Result T DiskFault) (s1 : Disk) → Writes place.file (place.end + 1) block r s0 s1 → Surely (s1 place.file) (IsLogFile payloads)
  written_surely block r s1 w x may =
      is_log x (write_begins front (added more ++ a.rest) a.safe_rest a.writes from place.file (place.end + 1) block (omega (arith, end_at, length-front)) seen_long s0 front_is r s1 w x may)

-- it goes on while its file stays as it is
pub adding_same : (place : AdditionPlace) (payloads more : List (List ℕ)) (old new : Disk) → new place.file ≡ old place.file → IsAdding place payloads more old → IsAdding place payloads more new
adding_same place payloads more old new same a = record {
  shut = a.shut;
  safe_rest = a.safe_rest;
  rest = a.rest;
  writes = a.writes;
  is_shut = a.is_shut;
  file_is = same ∙ a.file_is;
  behind = a.behind;
  fit = a.fit;
  more_fit = a.more_fit;
  gate_is = a.gate_is;
  end_is = a.end_is;
}

-- and when what is seen of it was made safe
pub adding_synced : (place : AdditionPlace) (payloads more : List (List ℕ)) (old new : Disk) → new place.file ≡ settled (old place.file).seen → IsAdding place payloads more old
    → IsAdding place payloads more new
adding_synced place payloads more old new synced a = record {
  shut = a.shut;
  safe_rest = added more ++ a.rest;
  rest = a.rest;
  writes = [];
  is_shut = a.is_shut;
  file_is = synced ∙ ap (λ (f : FileState). settled f.seen) a.file_is;
  behind = tt;
  fit = a.fit;
  more_fit = a.more_fit;
  gate_is = a.gate_is;
  end_is = a.end_is;
}

-- a disk with an addition to one of its logs durably reads as its logs without the addition
pub adding_durably : (logs : Logs) (place : AdditionPlace) (more : List (List ℕ)) (disk : Disk) → RestsAdding logs place more disk → Durably disk (Reads logs)
adding_durably logs place more disk r c may m =
    elim (cases_eq m place.file) [
      | inl same ↦ subst (λ (n : ℕ). IsLogOf (logs n) (c n)) (sym same)
          (subst (λ (x : Option (List (List ℕ))). IsLogOf x (c place.file)) (sym r.there) (adding_surely place r.payloads more disk r.adding (c place.file) (may place.file)))
      | inr other ↦ rests_surely m (logs m) disk (r.beside m other) (c m) (may m)
    ]
