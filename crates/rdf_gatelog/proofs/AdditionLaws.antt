-- What a stop may leave while blocks are added behind a closed gate.
use Rattle.std.proofs.Common.{◌≡◌, inl, ℕ, ◌+◌, ◌≤◌, false, List, [], ◌∷◌, ◌++◌, length, take, drop, Some, Result, Ok, Err, sym, ◌∙◌, ap, subst, arith, append_assoc, length-append}
use Rattle.std.proofs.lemmas.List.{take_at, drop_at}
use Rattle.std.specs.List.{AllByRecursion}
use Rattle.rdf_disk.specs.declared.fault.DiskFault.{DiskFault}
use Rattle.rdf_disk.specs.Files.{FileState, Disk, bytes_of, settled, patched, touched}
use Rattle.rdf_disk.specs.Outcomes.{Surely}
use Rattle.rdf_disk.specs.Calls.{Synced, Syncs, Wrote, Writes}
use Rattle.rdf_disk.specs.OutcomeLaws.{writes_narrow, syncs_narrows}
use Rattle.rdf_gatelog.specs.declared.fault.LogFault.{LogFault}
use Rattle.rdf_gatelog.specs.Log.{IsPayload, framed, open_blocks, IsLogFile, IsAtRest}
use Rattle.rdf_gatelog.specs.LogCalls.{OthersNarrow, OthersSynced, IsBeforeOrAfterAll, AreBehind}
use Rattle.rdf_gatelog.specs.LogLaws.{length-framed}
use Rattle.rdf_gatelog.specs.Adding.{AdditionPlace, added, IsAdding, Adds, Finishes}
use Rattle.rdf_gatelog.specs.AddingLaws.{pending, added-append, added_blocks, length-added, length-added-append, front, seen_bytes, fronted, length-front, front_is, end_at, adding_surely, written_surely}
use Rattle.rdf_gatelog.proofs.AppendLaws.{open_blocks-append, fit-append, file_is_spelled, others_synced, synced_twice, synced_narrow, narrow_trans, then_narrows, after_second, is_at_rest}

-- the last one behind the others, with a closed gate
pub last_behind : (more : List (List ℕ)) (p block : List ℕ) → AllByRecursion IsPayload more → IsPayload p → block ≡ framed p ++ 0 ∷ [] → AreBehind (more ++ p ∷ []) (added more ++ block)
last_behind more p block fit fits is = record {
  bytes_are = added_blocks more block ∙ ap (λ (l : List ℕ). open_blocks more ++ 1 ∷ l) is ∙ sym (open_blocks-append more p (0 ∷ []));
  fit = fit-append more p fit fits;
}

-- the next block behind the others
module _ (place : AdditionPlace) (payloads more : List (List ℕ)) (s0 : Disk) (a : IsAdding place payloads more s0) where
  abbrev front_here : List ℕ
  front_here = front place payloads more s0 a

  abbrev seen_here : List ℕ
  seen_here = seen_bytes place payloads more s0 a

  fronted_here : (tail : List ℕ) → open_blocks payloads ++ a.shut ∷ tail ≡ front_here ++ tail
  fronted_here = fronted place payloads more s0 a

  front_long : length front_here ≡ place.gate + 1
  front_long = length-front place payloads more s0 a

  ends : place.end ≡ place.gate + length (added more)
  ends = end_at place payloads more s0 a

  module _ (block : List ℕ) where
    abbrev left : List ℕ
    left = drop (place.end + 1 + length block) seen_here

    front_more : take (place.end + 1) seen_here ≡ front_here ++ added more
    front_more =
        ap (λ (l : List ℕ). take (place.end + 1) l) (sym (append_assoc front_here (added more) a.rest))
        ∙ take_at (front_here ++ added more) a.rest (place.end + 1) (omega (arith, length-append front_here (added more), front_long, ends))

    patched_is : patched seen_here (place.end + 1) block ≡ open_blocks payloads ++ a.shut ∷ ((added more ++ block) ++ left)
    patched_is =
        ap (λ (l : List ℕ). l ++ block ++ left) front_more
        ∙ ap (λ (l : List ℕ). l ++ left) (append_assoc front_here (added more) block)
        ∙ append_assoc front_here (added more ++ block) left
        ∙ append_assoc (open_blocks payloads) (a.shut ∷ []) ((added more ++ block) ++ left)

    module _ (s1 : Disk) (w : Wrote place.file (place.end + 1) block s0 s1) where
      written : s1 place.file ≡ touched (pending front_here (Some seen_here) a.safe_rest a.writes) (place.end + 1) (length block) (Some (open_blocks payloads ++ a.shut ∷ ((added more ++ block) ++ left)))
      written =
          w.this
          ∙ ap (λ (f : FileState). touched f (place.end + 1) (length block) (Some (patched (bytes_of f.seen) (place.end + 1) block))) (front_is place payloads more s0 a)
          ∙ ap (λ (l : List ℕ). touched (pending front_here (Some seen_here) a.safe_rest a.writes) (place.end + 1) (length block) (Some l)) patched_is

      -- one payload more
      pub pushed_on : (p : List ℕ) (end : ℕ) → IsPayload p → block ≡ framed p ++ 1 ∷ [] → end ≡ place.end + 5 + length p → IsAdding (record place { end = end }) payloads (more ++ p ∷ []) s1
      pushed_on p end fits is end_is =
          let same : added more ++ block ≡ added (more ++ p ∷ []) = ap (λ (l : List ℕ). added more ++ l) is ∙ sym (added-append more p) in
          record {
            shut = a.shut;
            safe_rest = a.safe_rest;
            rest = left;
            writes = (place.end + 1, length block) ∷ a.writes;
            is_shut = a.is_shut;
            file_is =
                written
                ∙ ap (λ (l : List ℕ). touched (pending front_here (Some seen_here) a.safe_rest a.writes) (place.end + 1) (length block) (Some (open_blocks payloads ++ a.shut ∷ (l ++ left)))) same
                ∙ ap (λ (l : List ℕ). record { seen = Some (open_blocks payloads ++ a.shut ∷ (added (more ++ p ∷ []) ++ left)); safe = Some l; writes = (place.end + 1, length block) ∷ a.writes; removed = false }) (sym (fronted_here a.safe_rest));
            behind = (omega (arith, ends), a.behind);
            fit = a.fit;
            more_fit = fit-append more p a.more_fit fits;
            gate_is = a.gate_is;
            end_is = omega (arith, end_is, ends, length-added-append more p, length-added (more ++ p ∷ []));
          }

      -- the last payload, whose block is safe behind the gate
      module _ (p : List ℕ) (fits : IsPayload p) (is : block ≡ framed p ++ 0 ∷ []) (s2 : Disk) (y : Synced s1 s2) where
        abbrev all : List ℕ
        all = added more ++ block

        are : AreBehind (more ++ p ∷ []) all
        are = last_behind more p block a.more_fit fits is

        abbrev old_bytes : List ℕ
        old_bytes = open_blocks payloads ++ a.shut ∷ (all ++ left)

        left_is : drop (place.gate + 1 + length all) old_bytes ≡ left
        left_is =
            ap (λ (l : List ℕ). drop (place.gate + 1 + length all) l) (fronted_here (all ++ left) ∙ sym (append_assoc front_here all left))
            ∙ drop_at (front_here ++ all) left (place.gate + 1 + length all) (omega (arith, length-append front_here all, front_long))

        staged_is : s2 place.file ≡ settled (Some (open_blocks payloads ++ a.shut ∷ (all ++ drop (place.gate + 1 + length all) old_bytes)))
        staged_is = y place.file ∙ ap (λ (f : FileState). settled f.seen) written ∙ ap (λ (l : List ℕ). settled (Some (open_blocks payloads ++ a.shut ∷ (all ++ l)))) (sym left_is)

        -- its gate leaves no gap
        pub gate_no_gap : place.gate ≤ length (bytes_of (s2 place.file).seen)
        gate_no_gap = subst (λ (f : FileState). place.gate ≤ length (bytes_of f.seen)) (sym staged_is)
            (omega (arith, a.gate_is, length-append (open_blocks payloads) (a.shut ∷ (all ++ drop (place.gate + 1 + length all) old_bytes))))

        -- after the write of the gate, whatever it answers
        pub opened_surely : {T : Type 0} (r : Result T DiskFault) (s3 : Disk) → Writes place.file place.gate (1 ∷ []) r s2 s3 → Surely (s3 place.file) (IsBeforeOrAfterAll payloads (more ++ p ∷ []))
        opened_surely r s3 w2 = after_second payloads (more ++ p ∷ []) all a.fit are place.gate a.gate_is a.shut (all ++ left) a.is_shut place.file r s2 s3 staged_is w2

        -- after all calls
        pub finished : (end : ℕ) (s3 s4 : Disk) → end ≡ place.end + 5 + length p → Wrote place.file place.gate (1 ∷ []) s2 s3 → Synced s3 s4 → IsAtRest place.file end (payloads ++ (more ++ p ∷ [])) s4
        finished end s3 s4 end_is w2 y2 = is_at_rest payloads (more ++ p ∷ []) all a.fit are place.gate a.gate_is a.shut (all ++ left) a.is_shut place.file end s2 s3 s4
            (omega (arith, end_is, ends, length-append (added more) block, ap length is, length-append (framed p) (0 ∷ []), length-framed p)) staged_is w2 y2

-- a log at rest to which nothing was added yet
pub adds_none : (file end : ℕ) (payloads : List (List ℕ)) (disk : Disk) → IsAtRest file end payloads disk → IsAdding (record { file = file; gate = end; end = end }) payloads [] disk
adds_none file end payloads disk r = record {
  shut = r.spelled.gate;
  safe_rest = r.spelled.rest;
  rest = r.spelled.rest;
  writes = [];
  is_shut = r.spelled.shut;
  file_is = file_is_spelled file end payloads disk r;
  behind = tt;
  fit = r.spelled.fit;
  more_fit = tt;
  gate_is = r.end_is;
  end_is = omega arith;
}

-- ---- each exit

module _ {R : Type 0} (place next : AdditionPlace) (p : List ℕ) (res : Result R LogFault) (e : LogFault) (is : res ≡ Err e) where
  adds_err : (s0 s : Disk) → ((payloads more : List (List ℕ)) → IsAdding place payloads more s0 → Surely (s place.file) (IsLogFile payloads)) → OthersNarrow place.file s0 s → Adds place next p res s0 s
  adds_err s0 s here others = subst (λ (q : Result R LogFault). Adds place next p q s0 s) (sym is) (here, others)

  pub adds_nothing : (s0 : Disk) → Adds place next p res s0 s0
  adds_nothing s0 = adds_err s0 s0 (λ payloads more a. adding_surely place payloads more s0 a) (λ m other x may. may)

  pub adds_broken : {T : Type 0} (block : List ℕ) (r : Result T DiskFault) (s0 s1 : Disk) → Writes place.file (place.end + 1) block r s0 s1 → Adds place next p res s0 s1
  adds_broken block r s0 s1 w = adds_err s0 s1 (λ payloads more a. written_surely place payloads more s0 a block r s1 w) (writes_narrow place.file (place.end + 1) block r s0 s1 w)

pub adds_one : {R : Type 0} (place : AdditionPlace) (end : ℕ) (p block : List ℕ) (x : R) (s0 s1 : Disk) → IsPayload p → block ≡ framed p ++ 1 ∷ [] → end ≡ place.end + 5 + length p
    → Wrote place.file (place.end + 1) block s0 s1 → Adds {T = R} place (record place { end = end }) p (Ok x) s0 s1
adds_one place end p block x s0 s1 fits is end_is w = (λ payloads more a. pushed_on place payloads more s0 a block s1 w p end fits is end_is, w.others)

module _ (place : AdditionPlace) (end : ℕ) (p : List ℕ) where
  module _ {R : Type 0} (res : Result R LogFault) (e : LogFault) (is : res ≡ Err e) where
    finishes_err : (s0 s : Disk) → ((payloads more : List (List ℕ)) → IsAdding place payloads more s0 → Surely (s place.file) (IsBeforeOrAfterAll payloads (more ++ p ∷ []))) → OthersNarrow place.file s0 s
        → Finishes place end p res s0 s
    finishes_err s0 s here others = subst (λ (q : Result R LogFault). Finishes place end p q s0 s) (sym is) (here, others)

    pub finishes_nothing : (s0 : Disk) → Finishes place end p res s0 s0
    finishes_nothing s0 = finishes_err s0 s0 (λ payloads more a x may. inl (adding_surely place payloads more s0 a x may)) (λ m other x may. may)

    pub finishes_broken : {T : Type 0} (block : List ℕ) (r : Result T DiskFault) (s0 s1 : Disk) → Writes place.file (place.end + 1) block r s0 s1 → Finishes place end p res s0 s1
    finishes_broken block r s0 s1 w =
        finishes_err s0 s1 (λ payloads more a x may. inl (written_surely place payloads more s0 a block r s1 w x may)) (writes_narrow place.file (place.end + 1) block r s0 s1 w)

    pub finishes_unsynced : {T U : Type 0} (block : List ℕ) (r : Result T DiskFault) (q : Result U DiskFault) (s0 s1 s2 : Disk) → Writes place.file (place.end + 1) block r s0 s1 → Syncs q s1 s2 → Finishes place end p res s0 s2
    finishes_unsynced block r q s0 s1 s2 w y = finishes_err s0 s2
        (λ payloads more a x may. inl (written_surely place payloads more s0 a block r s1 w x (syncs_narrows q s1 s2 y place.file x may)))
        (narrow_trans place.file s0 s1 s2 (writes_narrow place.file (place.end + 1) block r s0 s1 w) (λ m other. syncs_narrows q s1 s2 y m))

  -- all blocks are safe
  module _ (block : List ℕ) (fits : IsPayload p) (is : block ≡ framed p ++ 0 ∷ []) (s0 s1 s2 : Disk) (w : Wrote place.file (place.end + 1) block s0 s1) (y : Synced s1 s2) where
    others : OthersSynced place.file s0 s2
    others = others_synced place.file (place.end + 1) block s0 s1 s2 w y

    module _ {R : Type 0} (res : Result R LogFault) (e : LogFault) (fails : res ≡ Err e) {V : Type 0} (r : Result V DiskFault) (s3 : Disk) (w2 : Writes place.file place.gate (1 ∷ []) r s2 s3) where
      gate_written : (payloads more : List (List ℕ)) → IsAdding place payloads more s0 → Surely (s3 place.file) (IsBeforeOrAfterAll payloads (more ++ p ∷ []))
      gate_written payloads more a = opened_surely place payloads more s0 a block s1 w p fits is s2 y r s3 w2

      narrow : OthersNarrow place.file s0 s3
      narrow = narrow_trans place.file s0 s2 s3 (synced_narrow place.file s0 s2 others) (writes_narrow place.file place.gate (1 ∷ []) r s2 s3 w2)

      pub finishes_shut : Finishes place end p res s0 s3
      finishes_shut = finishes_err res e fails s0 s3 gate_written narrow

      pub finishes_open_unsynced : {W : Type 0} (q : Result W DiskFault) (s4 : Disk) → Syncs q s3 s4 → Finishes place end p res s0 s4
      finishes_open_unsynced q s4 y2 = finishes_err res e fails s0 s4
          (λ payloads more a. then_narrows (s3 place.file) (s4 place.file) (IsBeforeOrAfterAll payloads (more ++ p ∷ [])) (gate_written payloads more a) (syncs_narrows q s3 s4 y2 place.file))
          (narrow_trans place.file s0 s3 s4 narrow (λ m other. syncs_narrows q s3 s4 y2 m))

    pub finishes_all : {R : Type 0} (x : R) (s3 s4 : Disk) → end ≡ place.end + 5 + length p → Wrote place.file place.gate (1 ∷ []) s2 s3 → Synced s3 s4 → Finishes {T = R} place end p (Ok x) s0 s4
    finishes_all x s3 s4 end_is w2 y2 = (
      λ payloads more a. finished place payloads more s0 a block s1 w p fits is s2 y end s3 s4 end_is w2 y2,
      synced_twice place.file s0 s2 s4 others (others_synced place.file place.gate (1 ∷ []) s2 s3 s4 w2 y2),
    )
