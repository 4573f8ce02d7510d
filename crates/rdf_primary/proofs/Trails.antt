-- The trail after a line, and its first parts: legal, with each image on a volume of the layout.
use Rattle.std.proofs.Common.{◌≡◌, ℕ, ◌<◌, Bool, true, false, not, nat_lt, List, [], ◌∷◌, ◌++◌, length, drop, fold, if◌then◌else◌, Option, Some, None, refl, sym, ap, ◌∙◌, subst, arith}
use Rattle.std.proofs.lemmas.Bool.Decides.{nat_tests}
use Rattle.std.proofs.Math.Seq.{drop-append_seam}
use Rattle.std.specs.List.{AllByRecursion}
use Rattle.rdf_types.specs.declared.layout.Layout.{Layout}
use Rattle.rdf_types.specs.declared.records.RecKey.{RecKey}
use Rattle.rdf_types.specs.declared.records.Record.{Record}
use Rattle.rdf_types.specs.declared.records.Record.TheVariants.{Image, Commit, Abort}
use Rattle.rdf_model.specs.Contents.{nothing}
use Rattle.rdf_model.specs.Trail.{raw, owner, is_open}
use Rattle.rdf_model.specs.Legal.{Legal}
use Rattle.rdf_model.specs.Lines.{after_change, after_commit, after_abort, put_back, found_by, same_value}
use Rattle.rdf_model.specs.Losers.{losers}
use Rattle.rdf_model.specs.LegalLaws.{legal_first}
use Rattle.plan_lang.specs.declared.lines.Line.{Line}
use Rattle.plan_lang.specs.declared.lines.Line.TheVariants as line
use Rattle.tmf_core.specs.Stores.{IsPlaced}
use Rattle.tmf_core.specs.Places.{AreIn}
use Rattle.tmf_core.specs.PlaceLaws.{found_there}
use Rattle.rdf_core.specs.declared.replies.NoWhy.{NoWhy}
use Rattle.rdf_core.specs.declared.replies.NoWhy.TheVariants as no
use Rattle.rdf_core.specs.Effects.{when, first}
use Rattle.rdf_core.specs.Primary.{Primary, needs_up, needs_active, locked_for, cannot_use, stands, primary_refusal, primary_after, trail_after}
use Rattle.rdf_core.specs.Proper.{IsProper, legal_of, LineKeepsProper}
use Rattle.rdf_core.specs.GrowthLaws.{trail_grows, after_trail}
use Rattle.rdf_primary.specs.Standing.{IsTrailOf}

abbrev ArePlaced : ℕ → List Record → Type 0
ArePlaced n trail = AllByRecursion (λ r. IsPlaced n r) trail

placed_last : (n : ℕ) (xs : List Record) (r : Record) → ArePlaced n xs → IsPlaced n r → ArePlaced n (xs ++ r ∷ [])
placed_last n [] r h one = (one, tt)
placed_last n (x ∷ xs) r h one = (h.0, placed_last n xs r h.1 one)

placed_first : (n : ℕ) (xs ys : List Record) → ArePlaced n (xs ++ ys) → ArePlaced n xs
placed_first n [] ys h = tt
placed_first n (x ∷ xs) ys h = (h.0, placed_first n xs ys h.1)

placed_change : (n : ℕ) (trail : List Record) (t : ℕ) (k : RecKey) (after : Option (List ℕ)) → ArePlaced n trail → k.vol < n → ArePlaced n (after_change trail t k after)
placed_change n trail t k after h there = placed_last n trail (Image t k.vol k.file k.key (raw nothing trail k) after) h there

placed_back : (n t : ℕ) (es : List (RecKey × Option (List ℕ))) (trail : List Record) → ArePlaced n trail → AreIn n es → ArePlaced n (put_back t trail es)
placed_back n t [] trail h f = h
placed_back n t (e ∷ es) trail h f = elim (same_value (raw nothing trail e.0) e.1) as (λ m. ArePlaced n (put_back t (if m then trail else after_change trail t e.0 e.1) es)) [
  | true ↦ placed_back n t es trail h f.1
  | false ↦ placed_back n t es (after_change trail t e.0 e.1) (placed_change n trail t e.0 e.1 h f.0) f.1
]

placed_commit : (n t : ℕ) (trail : List Record) → ArePlaced n trail → ArePlaced n (after_commit trail t)
placed_commit n t trail h = elim (is_open t trail) as (λ m. ArePlaced n (if m then trail ++ Commit t ∷ [] else trail)) [ true ↦ placed_last n trail (Commit t) h tt | false ↦ h ]

placed_abort : (n t : ℕ) (trail : List Record) → ArePlaced n trail → ArePlaced n (after_abort trail t)
placed_abort n t trail h = elim (is_open t trail) as (λ m. ArePlaced n (if m then put_back t trail (found_by trail t) ++ Abort t ∷ [] else trail)) [
  | true ↦ placed_last n (put_back t trail (found_by trail t)) (Abort t) (placed_back n t (found_by trail t) trail h (found_there n t trail h)) tt
  | false ↦ h
]

pub placed_aborts : (n : ℕ) (ts : List ℕ) (trail : List Record) → ArePlaced n trail → ArePlaced n (fold after_abort trail ts)
placed_aborts n [] trail h = h
placed_aborts n (t ∷ ts) trail h = placed_aborts n ts (after_abort trail t) (placed_abort n t trail h)

first_is : (x y : Option NoWhy) → first (x ∷ y ∷ []) ≡ None → x ≡ None
first_is None y e = refl
first_is (Some x) y e = cc

third_is : (x y z w : Option NoWhy) → first (x ∷ y ∷ z ∷ w ∷ []) ≡ None → z ≡ None
third_is None None None w e = refl
third_is None None (Some z) w e = cc
third_is None (Some y) z w e = cc
third_is (Some x) y z w e = cc

within : (b : Bool) → when (not b) no.Volume ≡ None → b ≡ true
within true e = refl
within false e = cc

below : (v n : ℕ) → nat_lt v n ≡ true → v < n
below v n e = grind (arith, nat_tests)

there : (layout : Layout) (a : Primary) (t : ℕ) (k : RecKey) (rest : Option NoWhy) → first (cannot_use layout a t k ∷ rest ∷ []) ≡ None → k.vol < layout.volumes
there layout a t k rest e = below k.vol layout.volumes (within (nat_lt k.vol layout.volumes)
    (third_is (needs_up a) (needs_active a t) (when (not (nat_lt k.vol layout.volumes)) no.Volume) (locked_for t (owner a.trail k)) (first_is (cannot_use layout a t k) rest e)))

placed_after : (layout : Layout) (a : Primary) (l : Line) → primary_refusal layout a l ≡ None → ArePlaced layout.volumes a.trail → ArePlaced layout.volumes (trail_after a.trail l)
placed_after layout a (line.Insert t k value) e h = placed_change layout.volumes a.trail t k (Some value) h (there layout a t k (when (stands a.trail k) no.Exists) e)
placed_after layout a (line.Update t k value) e h = placed_change layout.volumes a.trail t k (Some value) h (there layout a t k (when (not (stands a.trail k)) no.Missing) e)
placed_after layout a (line.Delete t k) e h = placed_change layout.volumes a.trail t k None h (there layout a t k (when (not (stands a.trail k)) no.Missing) e)
placed_after layout a (line.Commit t) e h = placed_commit layout.volumes t a.trail h
placed_after layout a (line.Abort t) e h = placed_abort layout.volumes t a.trail h
placed_after layout a (line.Restart node) e h = placed_aborts layout.volumes (losers a.trail) a.trail h
placed_after layout a _ e h = h

-- the trail after a line that is not refused
pub trail_left : LineKeepsProper → (layout : Layout) (a : Primary) (l : Line) → primary_refusal layout a l ≡ None → IsProper a → ArePlaced layout.volumes a.trail → IsTrailOf layout (trail_after a.trail l)
trail_left keeps layout a l e p h = record {
  legal = subst (λ t. Legal nothing t) (after_trail a l) (legal_of after.standing after.trail after.active (keeps layout a l e p));
  placed = placed_after layout a l e h;
}
  where
    after : Primary
    after = primary_after a l

-- a first part of such a trail
pub trail_first : (layout : Layout) (xs ys : List Record) → IsTrailOf layout (xs ++ ys) → IsTrailOf layout xs
trail_first layout xs ys h = record { legal = legal_first nothing [] xs ys h.legal; placed = placed_first layout.volumes xs ys h.placed }

-- the records that a line adds, behind the trail
pub added_is : (trail : List Record) (l : Line) → trail_after trail l ≡ trail ++ drop (length trail) (trail_after trail l)
added_is trail l =
    let g = trail_grows trail l in
    g.1 ∙ ap (λ rs. trail ++ rs) (sym (ap (λ t. drop (length trail) t) g.1 ∙ drop-append_seam trail g.0))
