-- A backout, place by place.
use Rattle.std.proofs.Common.{◌≡◌, ℕ, false, cond, List, [], ◌∷◌, ◌++◌, length, Option, sym, ap, ap₂, ◌∙◌, subst, ◌==◌, append_assoc}
use Rattle.std.specs.FinMap.{entries, len}
use Rattle.std.proofs.lemmas.Bool.{not-false}
use Rattle.rdf_types.specs.declared.records.Record.{Record}
use Rattle.rdf_types.specs.declared.records.Record.TheVariants.{Image, Abort}
use Rattle.rdf_types.specs.declared.records.RecKey.{RecKey}
use Rattle.rdf_model.specs.Contents.{nothing}
use Rattle.rdf_model.specs.Trail.{raw, is_open}
use Rattle.rdf_model.specs.Lines.{after_change, found_by, same_value, put_back, after_abort}
use Rattle.rdf_disk.specs.Files.{Disk}
use Rattle.tmf_core.specs.declared.store.Store.{Store}
use Rattle.active_txns.specs.Founds.{FirstBefore}
use Rattle.active_txns.specs.Tells.{IsWhatWasFound}
use Rattle.tmf_core.specs.Stores.{trail_in, Stored, Left}
use Rattle.tmf_core.specs.LeftLaws.{left_within}
use Rattle.tmf_core.specs.Places.{AreIn}
use Rattle.rdf_model.specs.EndLaws.{put_back_more}

-- a place that shows something else than was found there
pub set_back : (t : ℕ) (trail now : List Record) (k : RecKey) (present first : Option (List ℕ)) → now ≡ trail → present ≡ raw nothing trail k → same_value present first ≡ false →
    put_back t trail ((k, first) ∷ []) ≡ now ++ Image t k.vol k.file k.key present first ∷ []
set_back t trail now k present first now_is reads other =
    ap (λ b. cond b trail (after_change trail t k first)) (ap (λ o. same_value o first) (sym reads) ∙ other)
    ∙ ap₂ (λ (l : List Record) (o : Option (List ℕ)). l ++ Image t k.vol k.file k.key o first ∷ []) (sym now_is) (sym reads)

-- the records that were added to a trail
abbrev pub Added : (trail whole : List Record) → Type 0
Added trail whole = (more : List Record) × (whole ≡ trail ++ more)

put_back_adds : (t : ℕ) (es : List (RecKey × Option (List ℕ))) (trail : List Record) → Added trail (put_back t trail es)
put_back_adds t es trail = let back = put_back_more t trail es in (back.0, back.1)

-- so far some places of a backout were put back, and these are left
pub record PutBack {D : Type 0} (files : D → Disk) (t : ℕ) (start : Store D) (all : List (RecKey × Option (List ℕ))) (now : Store D) (left : List (RecKey × Option (List ℕ))) : Type 0 where
  pub stored : Stored files now
  pub there : AreIn (length now.volumes.items) left
  pub added : Added (trail_in start) (trail_in now)
  pub ends : put_back t (trail_in now) left ≡ put_back t (trail_in start) all

-- one place more was put back
pub one_more : {D : Type 0} (files : D → Disk) (t : ℕ) (start : Store D) (all : List (RecKey × Option (List ℕ))) (now : Store D) (left : List (RecKey × Option (List ℕ))) (e : RecKey × Option (List ℕ)) (rest : List (RecKey × Option (List ℕ))) (new : Store D) →
    PutBack files t start all now left → left ≡ e ∷ rest → Stored files new × (trail_in new ≡ put_back t (trail_in now) (e ∷ [])) → length new.volumes.items ≡ length now.volumes.items → PutBack files t start all new rest
one_more files t start all now left e rest new h is done many = record {
  stored = done.0;
  there = subst (λ n. AreIn n rest) (sym many) (subst (λ es. AreIn (length now.volumes.items) es) is h.there).1;
  added =
      let back = put_back_adds t (e ∷ []) (trail_in now) in
      (h.added.0 ++ back.0, done.1 ∙ back.1 ∙ ap (λ (l : List Record). l ++ back.0) h.added.1 ∙ append_assoc (trail_in start) h.added.0 back.0);
  ends = ap (λ (l : List Record). put_back t l rest) done.1 ∙ ap (λ es. put_back t (trail_in now) es) (sym is) ∙ h.ends;
}

-- what a call left that was to put one place back, as what the backout left
pub left_in_all : {D : Type 0} (files : D → Disk) (s : Store D) (t : ℕ) (trail now : List Record) (all left : List (RecKey × Option (List ℕ))) (e : RecKey × Option (List ℕ)) (rest : List (RecKey × Option (List ℕ))) → Added trail now →
    put_back t now left ≡ put_back t trail all → left ≡ e ∷ rest → ((more : List Record) → put_back t now (e ∷ []) ≡ now ++ more → Left files now more s) →
    (more : List Record) → put_back t trail all ≡ trail ++ more → Left files trail more s
left_in_all files s t trail now all left e rest added ends is h records records_are =
    let one : List Record = put_back t now (e ∷ []) in
    let first : Added now one = put_back_adds t (e ∷ []) now in
    let behind : Added one (put_back t one rest) = put_back_adds t rest one in
    left_within files s trail now added.0 first.0 behind.0 one (put_back t one rest) added.1 first.1 behind.1 (h first.0 first.1) records (ap (λ es. put_back t now es) (sym is) ∙ ends ∙ records_are)

-- a transaction that changed something is open
pub aborted : (trail : List Record) (t : ℕ) (found : FirstBefore) → IsWhatWasFound trail t found → (len found == 0) ≡ false → after_abort trail t ≡ put_back t trail (entries found) ++ Abort t ∷ []
aborted trail t found h some =
    ap (λ b. cond b (put_back t trail (found_by trail t) ++ Abort t ∷ []) trail) (not-false (is_open t trail) (sym h.empty ∙ some))
    ∙ ap (λ es. put_back t trail es ++ Abort t ∷ []) (sym h.listed)
