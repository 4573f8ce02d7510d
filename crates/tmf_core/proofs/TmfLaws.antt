-- What the calls leave of the transactions of a node.
use Rattle.std.proofs.Common.{◌≡◌, ℕ, Bool, true, false, not, ◌||◌, ◌==◌, List, [], ◌++◌, Option, Some, None, is_some, MatchOption, Result, Ok, Err, length, refl, sym, ap, ◌∙◌, subst, append-nil}
use Rattle.std.specs.Result.{IsErr}
use Rattle.std.specs.Ordering.{nat_cmp}
use Rattle.std.specs.Cmp.{nat_cmp_total}
use Rattle.std.proofs.lemmas.Map.Lookups.{exact_unsigned}
use Rattle.std.specs.FinMap as map
use Rattle.std.specs.FinSet as set
use Rattle.rdf_types.specs.declared.records.Record.{Record}
use Rattle.rdf_disk.specs.Files.{Disk}
use Rattle.rdf_disk.specs.Counts.{Counts}
use Rattle.rdf_disk.specs.Counts.Ending.{Fine}
use Rattle.rdf_types.specs.declared.records.RecKey.{RecKey}
use Rattle.std.proofs.lemmas.Bool.{eqb-true}
use Rattle.rdf_model.specs.Trail.{owner}
use Rattle.node_faults.specs.Faults.{IsSound}
use Rattle.rdf_disk.specs.declared.disk.Disk.{Ghosts}
use Rattle.rdf_model.specs.Running.{IsRunning}
use Rattle.active_txns.specs.Tells.{Tells}
use Rattle.active_txns.specs.declared.table.ActiveTxns.{ActiveTxns}
use Rattle.tmf_core.specs.Stores.{trail_in, Stored, Left, CausedBy, counts_at}
use Rattle.tmf_core.specs.CauseLaws.{same_counts}
use Rattle.tmf_core.specs.declared.store.Store.{Store}
use Rattle.node_faults.specs.declared.NodeFault.{NodeFault}
use Rattle.tmf_core.specs.declared.tmf.Tmf.{Tmf}
use Rattle.tmf_core.specs.declared.fault.TmfFault.{TmfFault}
use Rattle.tmf_core.specs.declared.fault.TmfFault.TheVariants.{Down, TxnUsed, NoTxn, NoVolume, Locked, Exists, Missing, Node}
use Rattle.tmf_core.specs.Refusals.{when, or_else, is_off, is_idle, is_beyond, locked_for, cannot_use}
use Rattle.tmf_core.specs.Answers.{node_fault, added, IsPlain, Falls, Keeps, fault_or_done}
use Rattle.tmf_core.specs.Calls.{Does, Writes}
use Rattle.tmf_core.specs.LeftLaws.{left_more}
use Rattle.tmf_core.specs.States.{tmf_trail, tmf_active, is_down, RunsWith, RunsUnlessDown, Stays}

-- the table has one set of active transactions
pub active_is : (txns : ActiveTxns) (trail : List Record) (active : set.FinSet nat_cmp) → Tells txns trail active → active ≡ set.from_list (map.keys txns.active)
active_is txns trail active h =
    set.same_set nat_cmp_total exact_unsigned active (set.from_list (map.keys txns.active)) (λ q.
    sym (h.exact q) ∙ map.contains_key-keys txns.active q ∙ sym (set.contains-from_list nat_cmp_total (map.keys txns.active) q))

-- what runs, by the trail and the active transactions that the table tells of
pub runs_with : {D : Type 0} {d : Ghosts D} (files : D → Disk) (trail : List Record) (active : set.FinSet nat_cmp) (s : Tmf D d) → tmf_trail s ≡ trail → Stored files s.store → IsRunning trail active → Tells s.txns trail active → RunsWith files trail active s
runs_with files trail active s trail_is stored running tells = record {
  runs = record {
    stored = stored;
    running = subst (λ l. IsRunning l (tmf_active s)) (sym trail_is) (subst (λ m. IsRunning trail m) same running);
    tells = subst (λ l. Tells s.txns l (tmf_active s)) (sym trail_is) (subst (λ m. Tells s.txns trail m) same tells);
  };
  trail_is = trail_is;
  active_is = sym same;
}
  where
    same : active ≡ tmf_active s
    same = active_is s.txns trail active tells

-- a refusal changes nothing
falls_not : {D T : Type 0} {d : Ghosts D} (s : Tmf D d) (why : TmfFault) → IsPlain (is_down s) (Some why) → Falls {T = T} s (Err why) s
falls_not s why plain = record {
  told = plain.told;
  falls = sym (ap (λ o. is_down s || is_some o) plain.none ∙ or_no (is_down s));
  still = λ down. refl;
}
  where
    or_no : (b : Bool) → (b || false) ≡ b
    or_no true = refl
    or_no false = refl

-- a refusal is no fault of a disk
caused_not : {D : Type 0} (counts : D → Counts) (s : Store D) (why : TmfFault) → node_fault why ≡ None → CausedBy counts (fault_or_done (node_fault why)) s s
caused_not counts s why plain = subst (λ o. CausedBy counts (fault_or_done o) s s) (sym plain) (tt, λ disk. same_counts Fine (counts_at counts s disk) refl)

-- what is so where nothing refuses
pub none_first : (a b : Option TmfFault) → or_else a b ≡ None → (a ≡ None) × (b ≡ None)
none_first None b e = (refl, e)
none_first (Some why) b e = cc

pub not_when : (b : Bool) (why : TmfFault) → when b why ≡ None → b ≡ false
not_when true why e = cc
not_when false why e = refl

-- a transaction that may use a record is active, and no other one owns the record
pub record MayUse (trail : List Record) (active : set.FinSet nat_cmp) (t : ℕ) (k : RecKey) : Type 0 where
  pub runs : set.contains active t ≡ true
  pub mine : (u : ℕ) → owner trail k ≡ Some u → u ≡ t

pub may_use : {D : Type 0} {d : Ghosts D} (s : Tmf D d) (t : ℕ) (k : RecKey) → cannot_use s t k ≡ None → MayUse (tmf_trail s) (tmf_active s) t k
may_use s t k e =
    let one = none_first (is_off s) _ e in
    let two = none_first (is_idle s t) _ one.1 in
    let three = none_first (is_beyond s k.vol) _ two.1 in
    let four = none_first (locked_for t (owner (tmf_trail s) k)) _ three.1 in
    record {
      runs = turned (set.contains (tmf_active s) t) (not_when (not (set.contains (tmf_active s) t)) NoTxn two.0);
      mine = λ u is. own u (subst (λ (o : Option ℕ). locked_for t o ≡ None) is four.0);
    }
  where
    turned : (b : Bool) → not b ≡ false → b ≡ true
    turned true e = refl
    turned false e = cc

    own : (u : ℕ) → locked_for t (Some u) ≡ None → u ≡ t
    own u h = eqb-true u t (turned (u == t) (not_when (not (u == t)) (Locked u) h))

-- a call of the store that added nothing, and ended by a fault of the node
pub ended_before : {D : Type 0} (files : D → Disk) (s called new : Store D) (more : List Record) → ((trail more : List Record) → trail_in s ≡ trail ++ more → Left files trail more called) → new ≡ called → Left files (trail_in s) more new
ended_before {D = D} files s called new more left same = subst (λ (n : Store D). Left files (trail_in s) more n) (sym same) (left_more files called (trail_in s) [] more (left (trail_in s) [] (sym (append-nil (trail_in s)))))

-- what is refused first
pub refused_first : (first other : Option TmfFault) (why : TmfFault) → Some why ≡ first → or_else first other ≡ Some why
refused_first first other why is = sym (ap (λ o. or_else o other) is)

module _ {D T : Type 0} {d : Ghosts D} (tells : Type 0) (files : D → Disk) (counts : D → Counts) (IsKind : TmfFault → Type 0) (early refused : Option TmfFault) (after : List Record) (active : set.FinSet nat_cmp) where
  -- a call that is refused by what is judged in memory
  pub not_done : (s : Tmf D d) (why : TmfFault) → (tells → refused ≡ Some why) → (tells → RunsUnlessDown files s) → IsPlain (is_down s) (Some why) → IsKind why → Does {T = T} tells files counts IsKind early refused after active s (Err why) s
  not_done s why is runs plain kind = record {
    judged = λ t. subst (λ o. MatchOption o (refused ≡ Some why) (λ fault. early ≡ None)) (sym plain.none) (is t);
    leaves = λ t. subst (λ o. MatchOption o (Stays files s s) (λ fault. Left files (tmf_trail s) (added refused (tmf_trail s) after) s.store)) (sym plain.none)
        (record { down = λ down. refl; up = λ up. record { runs = runs t up; trail_is = refl; active_is = refl } });
    runs = runs;
    falls = falls_not s why plain;
    kept = same why;
    kinds = kind;
    cause = caused_not counts s.store why plain.none;
    sound = λ t. subst (λ o. IsSound (fault_or_done o)) (sym plain.none) tt;
  }
    where
      same : (w : TmfFault) → Keeps {T = T} s (Err w) s
      same Down = refl
      same TxnUsed = refl
      same NoTxn = refl
      same NoVolume = refl
      same (Locked by) = refl
      same Exists = record { trail = refl; txns = refl; down = refl; many = refl; shown = refl }
      same Missing = record { trail = refl; txns = refl; down = refl; many = refl; shown = refl }
      same (Node fault) = tt

  -- a call that ends by a fault of the node
  pub fell : (old new : Tmf D d) (why : TmfFault) (fault : NodeFault) → why ≡ Node fault → is_down old ≡ false → is_down new ≡ true → (tells → early ≡ None) → (tells → Left files (tmf_trail old) (added refused (tmf_trail old) after) new.store) →
      CausedBy counts (fault_or_done (Some fault)) old.store new.store → (tells → IsSound (fault_or_done (Some fault))) → IsKind (Node fault) → Does {T = T} tells files counts IsKind early refused after active old (Err why) new
  fell old new why fault told up down none left cause sound kind = subst (λ w. Does {T = T} tells files counts IsKind early refused after active old (Err w) new) (sym told) (record {
    judged = none;
    leaves = left;
    runs = λ t off. absurd (both off);
    falls = record { told = sym up; falls = down ∙ sym (ap (λ b. b || true) up); still = λ was. absurd (never was) };
    kept = tt;
    kinds = kind;
    cause = cause;
    sound = sound;
  })
    where
      both : is_down new ≡ false → ⊥
      both e = cc

      never : is_down old ≡ true → ⊥
      never e = cc

module _ {D : Type 0} {d : Ghosts D} {tells : Type 0} {files : D → Disk} {counts : D → Counts} {after : List Record} {active : set.FinSet nat_cmp} {more : List Record} {old new : Tmf D d} where
  -- a part of a call that is done
  pub wrote : {pos : ℕ} → (tells → RunsWith files after active new) → pos ≡ length (tmf_trail new) → is_down new ≡ is_down old → CausedBy counts (Ok pos) old.store new.store → Writes tells files counts after active more old (Ok pos) new
  wrote runs says down cause = record { ok = runs; says = says; err = λ t. tt; down = down; cause = cause; sound = λ t. tt }

  -- a part of a call that ended by a fault
  pub wrote_not : {result : Result ℕ NodeFault} → IsErr result → (tells → Left files (tmf_trail old) more new.store) → is_down new ≡ is_down old → CausedBy counts result old.store new.store → (tells → IsSound result) → Writes tells files counts after active more old result new
  wrote_not {result = Err fault} failed left down cause sound = record { ok = λ t. tt; says = tt; err = left; down = down; cause = cause; sound = sound }
  wrote_not {result = Ok pos} failed left down cause sound = absurd (never failed)
    where
      never : false ≡ true → ⊥
      never e = cc
