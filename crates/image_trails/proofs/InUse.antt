-- An image disk in use, after one block more.
use Rattle.std.proofs.Common.{◌≡◌, ◌≢◌, inl, inr, ⊎_elim, ℕ, zero, suc, ◌+◌, ◌<◌, ◌≤◌, true, false, nat_lt, List, [], ◌∷◌, ◌++◌, length, get_or, Option, Some, refl, sym, ◌∙◌, subst, arith}
use Rattle.std.specs.List.Sorted.{IsNonDecreasingBy}
use Rattle.std.proofs.lemmas.Bool.{cases_eq, ltb-true, ltb-false}
use Rattle.std.proofs.lemmas.List.{length-map}
use Rattle.rdf_types.specs.declared.records.Stamped.{Stamped}
use Rattle.rdf_disk.specs.Files.{Disk}
use Rattle.rdf_disk.specs.Outcomes.{Durably}
use Rattle.rdf_gatelog.specs.Logs.{Logs, Reads, Rests, ReadsEither, IsOpenIn, with_log, payloads_at, pushed}
use Rattle.rdf_gatelog.specs.RestLaws.{with_other}
use Rattle.image_disks.specs.Blocks.{Block, Plan}
use Rattle.image_disks.specs.Values.{Value, Alike}
use Rattle.image_disks.specs.Standing.{file_of, Means, MeansBy, StandsFor, StandsEither}
use Rattle.image_trails.specs.declared.memory.Memory.{Memory}
use Rattle.image_trails.specs.Lists.{AllRise}
use Rattle.image_trails.proofs.Sorted.{positions_rise}
use Rattle.rdf_types.specs.declared.layout.Layout.{Layout}
use Rattle.image_disks.specs.Blocks.{AreEntries}
use Rattle.image_disks.specs.ValueLaws.{alike_trans}
use Rattle.image_disks.specs.StandingLaws.{file_differs-trail}
use Rattle.image_trails.specs.Memory.{IsInUse, plan_in, plan_of, value_in, files_of, lists_of}
use Rattle.image_trails.specs.InUseLaws.{means_plain}

pub means_alike-by : (block_of : List ℕ → Block) (plan : Plan) (logs : Logs) (masters : List ℕ) (v w : Value) → Alike v w → MeansBy block_of plan logs masters v → MeansBy block_of plan logs masters w
means_alike-by block_of plan logs masters v w alike (older, last, s, a, files) = (older, last, s, alike_trans _ v w a alike, files)

pub still_stands : (block_of : List ℕ → Block) (plan : Plan) (v w : Value) (disk : Disk) → Durably disk (StandsFor block_of plan v) → Durably disk (StandsEither block_of plan v w)
still_stands block_of plan v w disk stands c may = inl (stands c may)

pub either_stands : (block_of : List ℕ → Block) (plan : Plan) (before after : Logs) (v w : Value) (disk : Disk) → Means block_of plan before v → Means block_of plan after w
    → Durably disk (ReadsEither before after) → Durably disk (StandsEither block_of plan v w)
either_stands block_of plan before after v w disk mv mw either c may =
    ⊎_elim
    (λ (reads : Reads before c). inl (before, reads, mv))
    (λ (reads : Reads after c). inr (after, reads, mw))
    (either c may)

pub open-other : (logs : Logs) (file other end : ℕ) (x : Option (List (List ℕ))) → other ≢ file → IsOpenIn logs other end → IsOpenIn (with_log logs file x) other end
open-other logs file other end x differs o = record { payloads = o.payloads; there = with_other logs file x other differs ∙ o.there; end_is = o.end_is }

pub get_or_any : {A : Type 0} (xs : List A) (i : ℕ) (d e : A) → i < length xs → get_or xs i d ≡ get_or xs i e
get_or_any [] i d e below = absurd (omega (arith, below))
get_or_any (x ∷ xs) zero d e below = refl
get_or_any (x ∷ xs) (suc i) d e below = get_or_any xs i d e (omega (arith, below))

pub four_ends : (m : Memory) → length m.ends.items ≡ 4
four_ends m = omega (arith, m.by_end, m.ends.ok.0)

pub four_tops : (m : Memory) → length m.tops.items ≡ 4
four_tops m = omega (arith, m.by_top, m.tops.ok.0)

-- what an append answers, at the trail's file and end as the code has them
module _ (block_of : List ℕ → Block) (m : Memory) (t : ℕ) (p : List ℕ) (v2 : Value) (old new : Disk) (file e0 : ℕ)
    (tl : t < 4) (used : (plan_in m).used t ≡ true) (file_is : file ≡ file_of m.last t) (e0_is : e0 ≡ get_or m.ends.items t 0)
    (means_more : (logs : Logs) → MeansBy block_of (plan_in m) logs (files_of m.generations) (value_in m) → MeansBy block_of (plan_in m) (pushed logs (file_of m.last t) p) (files_of m.generations) v2)
    (use_ : IsInUse block_of m old) where
  opened_here : IsOpenIn use_.logs file e0
  opened_here = subst (λ (f : ℕ). IsOpenIn use_.logs f e0) (sym file_is) (subst (λ (e : ℕ). IsOpenIn use_.logs (file_of m.last t) e) (sym e0_is) (use_.opened t tl used))

  pub either_more : ((logs : Logs) → Rests logs old → IsOpenIn logs file e0 → Durably new (ReadsEither logs (pushed logs file p))) → Durably new (StandsEither block_of (plan_in m) (value_in m) v2)
  either_more answers =
      let here : Durably new (ReadsEither use_.logs (pushed use_.logs (file_of m.last t) p)) = subst (λ (f : ℕ). Durably new (ReadsEither use_.logs (pushed use_.logs f p))) file_is (answers use_.logs use_.rests opened_here) in
      either_stands block_of (plan_in m) use_.logs (pushed use_.logs (file_of m.last t) p) (value_in m) v2 new (means_plain block_of (plan_in m) use_.logs (files_of m.generations) (value_in m) use_.means) (means_plain block_of (plan_in m) (pushed use_.logs (file_of m.last t) p) (files_of m.generations) v2 (means_more use_.logs use_.means)) here

  pub in_use_more : (m2 : Memory) (end : ℕ) → m2.layout ≡ m.layout → m2.last ≡ m.last → files_of m2.generations ≡ files_of m.generations → Alike v2 (value_in m2)
      → ((u : ℕ) → u < 4 → AreEntries (λ r. true) 0 (get_or m2.tops.items u 0) (get_or (lists_of m2.entries) u []))
      → get_or m2.ends.items t 0 ≡ end → ((u : ℕ) → u ≢ t → get_or m2.ends.items u 0 ≡ get_or m.ends.items u 0)
      → ((logs : Logs) → Rests logs old → IsOpenIn logs file e0 → Rests (pushed logs file p) new × IsOpenIn (pushed logs file p) file end)
      → IsInUse block_of m2 new
  in_use_more m2 end same_plan same_last same_files alike rising end_is ends_left answers =
      let after = subst (λ (f : ℕ). Rests (pushed use_.logs f p) new × IsOpenIn (pushed use_.logs f p) f end) file_is (answers use_.logs use_.rests opened_here) in
      let x : Option (List (List ℕ)) = Some (payloads_at (use_.logs (file_of m.last t)) ++ p ∷ []) in
      record {
        logs = pushed use_.logs (file_of m.last t) p;
        rests = after.0;
        means = subst (λ (a : Layout). MeansBy block_of (plan_of a) (pushed use_.logs (file_of m.last t) p) (files_of m2.generations) (value_in m2)) (sym same_plan)
            (subst (λ (l : List ℕ). MeansBy block_of (plan_in m) (pushed use_.logs (file_of m.last t) p) l (value_in m2)) (sym same_files)
            (means_alike-by block_of (plan_in m) (pushed use_.logs (file_of m.last t) p) (files_of m.generations) v2 (value_in m2) alike (means_more use_.logs use_.means)));
        rising = rising;
        opened = λ u ul uu.
            let uu2 : (plan_in m).used u ≡ true = subst (λ (a : Layout). (plan_of a).used u ≡ true) same_plan uu in
            subst (λ (n : ℕ). IsOpenIn (pushed use_.logs (file_of m.last t) p) (file_of n u) (get_or m2.ends.items u 0)) (sym same_last)
            (elim (cases_eq u t) [
              | inl same ↦ subst (λ (w : ℕ). IsOpenIn (pushed use_.logs (file_of m.last t) p) (file_of m.last w) (get_or m2.ends.items w 0)) (sym same)
                  (subst (λ (e : ℕ). IsOpenIn (pushed use_.logs (file_of m.last t) p) (file_of m.last t) e) (sym end_is) after.1)
              | inr other ↦ subst (λ (e : ℕ). IsOpenIn (pushed use_.logs (file_of m.last t) p) (file_of m.last u) e) (sym (ends_left u other))
                  (open-other use_.logs (file_of m.last t) (file_of m.last u) (get_or m.ends.items u 0) x (file_differs-trail m.last u t other) (use_.opened u ul uu2))
            ]);
        above = λ f far.
            let far2 : file_of (m.last + 1) 0 ≤ f = subst (λ (n : ℕ). file_of (n + 1) 0 ≤ f) same_last far in
            with_other use_.logs (file_of m.last t) x f (λ e. omega arith) ∙ use_.above f far2;
      }

-- the positions of the list of each trail rise
pub lists_rise : (block_of : List ℕ → Block) (m : Memory) (disk : Disk) → IsInUse block_of m disk → AllRise (lists_of m.entries)
lists_rise block_of m disk use_ t =
    elim (nat_lt t 4) as (λ b. nat_lt t 4 ≡ b → IsNonDecreasingBy (λ (s : Stamped). s.pos) (get_or (lists_of m.entries) t [])) [
      | true ↦ λ e. positions_rise (λ r. true) 0 (get_or m.tops.items t 0) (get_or (lists_of m.entries) t []) (use_.rising t (ltb-true t 4 e))
      | false ↦ λ e. subst (λ (l : List Stamped). IsNonDecreasingBy (λ (s : Stamped). s.pos) l) (sym (beyond (lists_of m.entries) t (omega (arith, ltb-false t 4 e, length-map m.entries.items (λ v. v.items), m.by_entry, m.entries.ok.0)))) (λ i j d le below. absurd (omega (arith, below)))
    ] refl
  where
    beyond : (l : List (List Stamped)) (t : ℕ) → length l ≤ t → get_or l t [] ≡ []
    beyond [] zero h = refl
    beyond [] (suc t) h = refl
    beyond (x ∷ l) zero h = absurd (omega (arith, h))
    beyond (x ∷ l) (suc t) h = beyond l t (omega (arith, h))
