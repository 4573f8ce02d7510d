-- The transactions without outcome, backed out one after the other.
use Rattle.std.proofs.Common.{◌≡◌, ℕ, zero, suc, ◌+◌, ◌-◌, ◌==◌, Bool, true, false, not, cond, ◌&&◌, ◌||◌, List, [], ◌∷◌, ◌++◌, length, map, fold, drop, Option, Some, None, Result, OnOk, OnErr, refl, sym, ap, ◌∙◌, subst, arith}
use Rattle.std.specs.Option.{option_map}
use Rattle.std.specs.Prelude.{MatchOption, slice_get}
use Rattle.std.specs.Cmp.{nat_cmp_total}
use Rattle.std.specs.FinSet as set
use Rattle.std.specs.List.{list_any, AllByRecursion}
use Rattle.std.specs.List.Sorted.{IsStrictlySortedBy}
use Rattle.std.specs.Ordering.{nat_cmp, eq_by_cmp}
use Rattle.std.specs.declared.cmp.Ordering.TheVariants.{Less}
use Rattle.std.proofs.Math.Seq.{drop-append_seam}
use Rattle.std.proofs.lemmas.Bool.{eq-eqb, eqb-true}
use Rattle.std.proofs.lemmas.Bool.Decides.{nat_tests}
use Rattle.std.proofs.lemmas.List.Sums.{fold-append}
use Rattle.std.proofs.lemmas.Map.Lookups.{exact_unsigned}
use Rattle.rdf_types.specs.declared.records.Record.{Record}
use Rattle.rdf_disk.specs.Files.{Disk}
use Rattle.rdf_disk.specs.Counts.{Counts, Causes}
use Rattle.rdf_disk.specs.declared.disk.Disk.{Ghosts}
use Rattle.rdf_model.specs.Losers.{losers}
use Rattle.rdf_model.specs.Lines.{after_abort, after_restart}
use Rattle.rdf_model.specs.Trail.{open_in}
use Rattle.rdf_model.specs.LoserLaws.{losers_open}
use Rattle.plan_lang.specs.declared.lines.Line.TheVariants as line
use Rattle.node_faults.specs.declared.NodeFault.{NodeFault}
use Rattle.node_faults.specs.Faults.{ending_for}
use Rattle.tmf_core.specs.declared.store.Store.{Store}
use Rattle.audit_trail.specs.InUse.{disk_of as trail_disk}
use Rattle.audit_trail.specs.SpelledLaws.{trail_durable}
use Rattle.rdf_volume.specs.StandingLaws.{in_use_durably}
use Rattle.rdf_volume.specs.declared.volume.Volume.{Volume}
use Rattle.rdf_volume.specs.Views.{disk_of}
use Rattle.tmf_core.specs.Stores.{trail_in, Stored, Left, CausedBy, CausesIf}
use Rattle.tmf_core.specs.LeftLaws.{left_store, left_within}
use Rattle.tmf_core.specs.declared.fault.TmfFault.{TmfFault}
use Rattle.tmf_core.specs.declared.fault.TmfFault.TheVariants as tmf
use Rattle.tmf_core.specs.declared.tmf.Tmf.{Tmf}
use Rattle.tmf_core.specs.Answers.{fault_or_done}
use Rattle.tmf_core.specs.Refusals.{end_refusal, first, when}
use Rattle.tmf_core.specs.Disks.{disks_of}
use Rattle.tmf_core.specs.States.{tmf_trail, tmf_active, is_down, RunsWith}
use Rattle.rdf_core.specs.GrowthLaws.{Grows, trail_grows, aborts_grow}
use Rattle.node_faults.specs.Openings.{ending_if, Pairs, IsCaused, AreCaused}

-- an active transaction may be aborted
pub may_abort : {D : Type 0} {d : Ghosts D} (s : Tmf D d) (t : ℕ) → is_down s ≡ false → set.contains (tmf_active s) t ≡ true → end_refusal s t ≡ None
may_abort s t up active = ap (λ b. first (when b tmf.Down ∷ when (not (set.contains (tmf_active s) t)) tmf.NoTxn ∷ [])) up ∙ ap (λ b. first (when (not b) tmf.NoTxn ∷ [])) active

-- a call that is not refused is done, or ends by a fault of the node
pub not_refused : (o : Option NodeFault) (refused : Option TmfFault) (why : TmfFault) (E X : Type 0) → refused ≡ None → MatchOption o (refused ≡ Some why) (λ fault. E) → OnOk (fault_or_done o) X
not_refused None refused why E X none is = absurd (no refused none is)
  where
    no : (r : Option TmfFault) → r ≡ None → r ≡ Some why → ⊥
    no r a b = cc
not_refused (Some fault) refused why E X none is = tt

pub left_by : (o : Option NodeFault) (S L : Type 0) → MatchOption o S (λ fault. L) → OnErr (fault_or_done o) L
left_by None S L h = tt
left_by (Some fault) S L h = h

-- each of these is a member, once those before it are gone
abbrev pub AllIn : set.FinSet nat_cmp → List ℕ → Type 0
AllIn s [] = Unit {0}
AllIn s (t ∷ ts) = (set.contains s t ≡ true) × AllIn (set.remove s t) ts

abbrev pub without : set.FinSet nat_cmp → List ℕ → set.FinSet nat_cmp
without s ts = fold set.remove s ts

pub next_in : (s : set.FinSet nat_cmp) (xs rest : List ℕ) (t : ℕ) → AllIn s (xs ++ t ∷ rest) → set.contains (without s xs) t ≡ true
next_in s [] rest t h = h.0
next_in s (x ∷ xs) rest t h = next_in (set.remove s x) xs rest t h.1

same_number : (a b : ℕ) → eq_by_cmp nat_cmp a b ≡ (a == b)
same_number a b = grind (arith, nat_tests)

-- a number below others is none of them
below_others : (t u : ℕ) (ts : List ℕ) → AllByRecursion (λ y. nat_cmp t y ≡ Less) ts → list_any (λ x. u == x) ts ≡ true → (u == t) ≡ false
below_others t u [] h e = absurd (no e)
  where
    no : false ≡ true → ⊥
    no e = cc
below_others t u (y ∷ ts) h e = elim (u == y) as (λ m. (u == y) ≡ m → (m || list_any (λ x. u == x) ts) ≡ true → (u == t) ≡ false) [
  | true ↦ λ is _. subst (λ n. (n == t) ≡ false) (sym (eqb-true u y is)) (apart t y h.0)
  | false ↦ λ _ e. below_others t u ts h.1 e
] refl e
  where
    apart : (t y : ℕ) → nat_cmp t y ≡ Less → (y == t) ≡ false
    apart t y h = grind (arith, nat_tests)

-- rising numbers that are members
pub all_in : (s : set.FinSet nat_cmp) (ts : List ℕ) → IsStrictlySortedBy nat_cmp ts → ((u : ℕ) → list_any (λ x. u == x) ts ≡ true → set.contains s u ≡ true) → AllIn s ts
unfolding IsStrictlySortedBy
all_in s [] sorted h = tt
all_in s (t ∷ ts) sorted h = (
  h t (ap (λ b. b || list_any (λ x. t == x) ts) (eq-eqb t t refl)),
  all_in (set.remove s t) ts sorted.1 (λ u e.
      set.contains-remove nat_cmp_total s t u
      ∙ ap (λ b. not b && set.contains s u) (same_number u t ∙ below_others t u ts sorted.0 e)
      ∙ h u (ap (λ b. (u == t) || b) e ∙ or_true (u == t))),
)
  where
    or_true : (b : Bool) → (b || true) ≡ true
    or_true true = refl
    or_true false = refl

-- what is left of the members
pub without_has : (s : set.FinSet nat_cmp) (ts : List ℕ) (q : ℕ) → set.contains (without s ts) q ≡ (not (list_any (λ x. q == x) ts) && set.contains s q)
without_has s [] q = refl
without_has s (t ∷ ts) q =
    without_has (set.remove s t) ts q
    ∙ ap (λ b. not (list_any (λ x. q == x) ts) && b) (set.contains-remove nat_cmp_total s t q ∙ ap (λ b. not b && set.contains s q) (same_number q t))
    ∙ both (q == t) (list_any (λ x. q == x) ts) (set.contains s q)
  where
    both : (a b c : Bool) → (not b && (not a && c)) ≡ (not (a || b) && c)
    both a b c = grind arith

pub many_gone : (s : set.FinSet nat_cmp) (ts : List ℕ) → AllIn s ts → set.len (without s ts) + length ts ≡ set.len s
many_gone s [] h = let e : set.len s + 0 ≡ set.len s = omega arith in e
many_gone s (t ∷ ts) h =
    let rest = many_gone (set.remove s t) ts h.1 in
    let one : set.len (set.remove s t) ≡ set.len s - 1 = set.len-remove nat_cmp_total s t ∙ ap (λ b. cond b (set.len s - 1) (set.len s)) h.0 in
    let some : 0 ≡ set.len s → ⊥ = λ e. none (ap (λ m. set.contains m t) (set.empty_of_len s (sym e)) ∙ set.contains-empty nat_cmp t) h.0 in
    counted (set.len s) (set.len (set.remove s t)) (set.len (without (set.remove s t) ts)) (length ts) some one rest
  where
    none : {b : Bool} → b ≡ false → b ≡ true → ⊥
    none {b} e f = cc

    counted : (n m k l : ℕ) → (0 ≡ n → ⊥) → m ≡ n - 1 → k + l ≡ m → k + suc l ≡ n
    counted zero m k l some e f = absurd (some refl)
    counted (suc n) m k l some e f = omega arith

-- the losers are all active, and once they are gone none is
pub losers_in : (trail : List Record) → IsStrictlySortedBy nat_cmp (losers trail) → AllIn (open_in trail) (losers trail)
losers_in trail sorted = all_in (open_in trail) (losers trail) sorted (λ u e. sym (losers_open trail u) ∙ e)

pub none_left : (trail : List Record) → without (open_in trail) (losers trail) ≡ set.empty
none_left trail = set.same_set nat_cmp_total exact_unsigned (without (open_in trail) (losers trail)) set.empty (λ q.
    without_has (open_in trail) (losers trail) q
    ∙ ap (λ b. not b && set.contains (open_in trail) q) (losers_open trail q)
    ∙ never (set.contains (open_in trail) q)
    ∙ sym (set.contains-empty nat_cmp q))
  where
    never : (b : Bool) → (not b && b) ≡ false
    never true = refl
    never false = refl

pub losers_many : (trail : List Record) → IsStrictlySortedBy nat_cmp (losers trail) → length (losers trail) ≡ set.len (open_in trail)
losers_many trail sorted =
    let all = many_gone (open_in trail) (losers trail) (losers_in trail sorted) in
    let none : set.len (without (open_in trail) (losers trail)) ≡ 0 = ap set.len (none_left trail) ∙ set.len-empty nat_cmp in
    omega (arith, all, none)

pub grown_is : (trail new : List Record) → Grows trail new → new ≡ trail ++ drop (length trail) new
grown_is trail new g = g.1 ∙ ap (λ (rs : List Record). trail ++ rs) (sym (ap (λ (t : List Record). drop (length trail) t) g.1 ∙ drop-append_seam trail g.0))

-- a backout that was cut off, as one of all
pub left_of_all : {D : Type 0} (files : D → Disk) (s : Store D) (trail : List Record) (all xs rest : List ℕ) (t : ℕ) → all ≡ xs ++ t ∷ rest →
    Left files (fold after_abort trail xs) (drop (length (fold after_abort trail xs)) (after_abort (fold after_abort trail xs) t)) s →
    Left files trail (drop (length trail) (fold after_abort trail all)) s
left_of_all files s trail all xs rest t is h =
    left_within files s trail now done (drop (length now) whole) more whole (fold after_abort trail all) (aborts_grow xs trail).1 (grown_is now whole (trail_grows now (line.Abort t)))
    (ap (λ (ts : List ℕ). fold after_abort trail ts) is ∙ fold-append after_abort trail xs (t ∷ rest) ∙ (aborts_grow rest whole).1) h
    (drop (length trail) (fold after_abort trail all)) (grown_is trail (fold after_abort trail all) (aborts_grow all trail))
  where
    now : List Record
    now = fold after_abort trail xs

    whole : List Record
    whole = after_abort now t

    done : List Record
    done = (aborts_grow xs trail).0

    more : List Record
    more = (aborts_grow rest whole).0

-- one more was backed out
pub runs_on : {D : Type 0} {d : Ghosts D} (files : D → Disk) (trail : List Record) (active : set.FinSet nat_cmp) (xs : List ℕ) (t : ℕ) (now new : Tmf D d) → RunsWith files (fold after_abort trail xs) (without active xs) now →
    RunsWith files (after_abort (tmf_trail now) t) (set.remove (tmf_active now) t) new → RunsWith files (fold after_abort trail (xs ++ t ∷ [])) (fold set.remove active (xs ++ t ∷ [])) new
runs_on files trail active xs t now new w h = record {
  runs = h.runs;
  trail_is = h.trail_is ∙ ap (λ (l : List Record). after_abort l t) w.trail_is ∙ sym (fold-append after_abort trail xs (t ∷ []));
  active_is = h.active_is ∙ ap (λ (s : set.FinSet nat_cmp). set.remove s t) w.active_is ∙ sym (fold-append set.remove active xs (t ∷ []));
}

-- all were
pub runs_idle : {D : Type 0} {d : Ghosts D} (files : D → Disk) (trail : List Record) (xs : List ℕ) (s : Tmf D d) → losers trail ≡ xs → RunsWith files (fold after_abort trail xs) (without (open_in trail) xs) s → RunsWith files (after_restart trail) set.empty s
runs_idle files trail xs s is w = record {
  runs = w.runs;
  trail_is = w.trail_is ∙ ap (λ (ts : List ℕ). fold after_abort trail ts) (sym is);
  active_is = w.active_is ∙ ap (λ (ts : List ℕ). without (open_in trail) ts) (sym is) ∙ none_left trail;
}

-- nothing was done
pub left_before : {D : Type 0} (files : D → Disk) (s : Store D) (more : List Record) → Stored files s → Left files (trail_in s) more s
left_before files s more stored =
    left_store files (λ end trail disk rest records alone. trail_durable end trail disk rest records alone) (λ v h. in_use_durably files v h) s s stored more refl

-- the counts of the disks, one after the other
module _ {D : Type 0} (counts : D → Counts) (f : Option NodeFault) where
  each_caused : (n : ℕ) (xs ys : List (Volume D)) →
      ((v : ℕ) → CausesIf (ending_if (n + v) f) (option_map (λ volume. counts (disk_of volume)) (slice_get xs v)) (option_map (λ volume. counts (disk_of volume)) (slice_get ys v))) →
      Pairs (IsCaused counts) n f (map (λ volume. disk_of volume) xs) (map (λ volume. disk_of volume) ys)
  each_caused n [] [] h = tt
  each_caused n [] (y ∷ ys) h = absurd (no (counts (disk_of y)) (h zero))
    where
      no : (c : Counts) → (let some : Option Counts = Some c in some ≡ None) → ⊥
      no c e = cc
  each_caused n (x ∷ xs) [] h = absurd (h zero)
  each_caused n (x ∷ xs) (y ∷ ys) h = (
    subst (λ m. Causes (ending_if m f) (counts (disk_of x)) (counts (disk_of y))) (let e : n + 0 ≡ n = omega arith in e) (h zero),
    each_caused (suc n) xs ys (λ v. subst (λ m. CausesIf (ending_if m f) (option_map (λ volume. counts (disk_of volume)) (slice_get xs v)) (option_map (λ volume. counts (disk_of volume)) (slice_get ys v))) (let e : n + suc v ≡ suc n + v = omega arith in e) (h (suc v))),
  )

  pub caused_disks : {T : Type 0} (r : Result T NodeFault) (old new : Store D) → ((n : ℕ) → ending_for n r ≡ ending_if n f) → CausedBy counts r old new → AreCaused counts f (disks_of old.trail old.volumes.items) (disks_of new.trail new.volumes.items)
  caused_disks r old new same cause = (
    subst (λ e. Causes e (counts (trail_disk old.trail)) (counts (trail_disk new.trail))) (same zero) (cause.1 zero),
    each_caused 1 old.volumes.items new.volumes.items (λ v.
        subst (λ e. CausesIf e (option_map (λ volume. counts (disk_of volume)) (slice_get old.volumes.items v)) (option_map (λ volume. counts (disk_of volume)) (slice_get new.volumes.items v)))
        (same (suc v) ∙ ap (λ m. ending_if m f) (let e : suc v ≡ 1 + v = omega arith in e)) (cause.1 (suc v))),
  )
