-- A line of the primary only adds records to its trail.
use Rattle.std.proofs.Common.{◌≡◌, ℕ, zero, suc, true, false, List, [], ◌∷◌, ◌++◌, fold, Option, Some, None, if◌then◌else◌, refl, sym, ap, ◌∙◌}
use Rattle.std.proofs.lemmas.List.{append_assoc, append-nil}
use Rattle.rdf_types.specs.declared.records.RecKey.{RecKey}
use Rattle.rdf_types.specs.declared.records.Record.{Record}
use Rattle.rdf_types.specs.declared.records.Record.TheVariants.{Image, Commit, Abort}
use Rattle.rdf_model.specs.Contents.{nothing}
use Rattle.rdf_model.specs.Trail.{raw, is_open}
use Rattle.rdf_model.specs.Losers.{losers}
use Rattle.rdf_model.specs.Lines.{after_change, after_commit, after_abort, put_back, found_by, same_value}
use Rattle.plan_lang.specs.declared.lines.Line.{Line}
use Rattle.plan_lang.specs.declared.lines.Line.TheVariants as line
use Rattle.rdf_core.specs.declared.replies.NoWhy.{NoWhy}
use Rattle.rdf_core.specs.Effects.{after_parts, parts_unless}
use Rattle.rdf_core.specs.Primary.{Primary, trail_after, grown, with_record, primary_rule, primary_parts, primary_after}
use Rattle.rdf_core.specs.PartLaws.{Every}

-- the new trail is the old one with records behind it
abbrev pub Grows : List Record → List Record → Type 0
Grows old new = (more : List Record) × (new ≡ old ++ more)

-- none need be added
pub grows_not : (trail : List Record) → Grows trail trail
grows_not trail = ([], sym (append-nil trail))

-- and more behind those
pub grows_on : (a b c : List Record) → Grows a b → Grows b c → Grows a c
grows_on a b c g h = (g.0 ++ h.0, h.1 ∙ ap (λ x. x ++ h.0) g.1 ∙ append_assoc a g.0 h.0)

change_grows : (trail : List Record) (t : ℕ) (k : RecKey) (after : Option (List ℕ)) → Grows trail (after_change trail t k after)
change_grows trail t k after = (Image t k.vol k.file k.key (raw nothing trail k) after ∷ [], refl)

commit_grows : (trail : List Record) (t : ℕ) → Grows trail (after_commit trail t)
commit_grows trail t = elim (is_open t trail) as (λ m. Grows trail (if m then trail ++ Commit t ∷ [] else trail)) [ true ↦ (Commit t ∷ [], refl) | false ↦ grows_not trail ]

put_grows : (t : ℕ) (trail : List Record) (es : List (RecKey × Option (List ℕ))) → Grows trail (put_back t trail es)
put_grows t trail [] = grows_not trail
put_grows t trail (e ∷ rest) =
    elim (same_value (raw nothing trail e.0) e.1) as (λ m. Grows trail (put_back t (if m then trail else after_change trail t e.0 e.1) rest)) [
      | true ↦ put_grows t trail rest
      | false ↦ grows_on trail (after_change trail t e.0 e.1) (put_back t (after_change trail t e.0 e.1) rest) (change_grows trail t e.0 e.1) (put_grows t (after_change trail t e.0 e.1) rest)
    ]

abort_grows : (trail : List Record) (t : ℕ) → Grows trail (after_abort trail t)
abort_grows trail t = elim (is_open t trail) as (λ m. Grows trail (if m then put_back t trail (found_by trail t) ++ Abort t ∷ [] else trail)) [
  | true ↦ grows_on trail (put_back t trail (found_by trail t)) (put_back t trail (found_by trail t) ++ Abort t ∷ []) (put_grows t trail (found_by trail t)) (Abort t ∷ [], refl)
  | false ↦ grows_not trail
]

-- the trail after some backouts
pub aborts_grow : (ts : List ℕ) (trail : List Record) → Grows trail (fold after_abort trail ts)
aborts_grow [] trail = grows_not trail
aborts_grow (t ∷ ts) trail = grows_on trail (after_abort trail t) (fold after_abort (after_abort trail t) ts) (abort_grows trail t) (aborts_grow ts (after_abort trail t))

-- the trail after a line
pub trail_grows : (trail : List Record) (l : Line) → Grows trail (trail_after trail l)
trail_grows trail (line.Insert t k value) = change_grows trail t k (Some value)
trail_grows trail (line.Update t k value) = change_grows trail t k (Some value)
trail_grows trail (line.Delete t k) = change_grows trail t k None
trail_grows trail (line.Commit t) = commit_grows trail t
trail_grows trail (line.Abort t) = abort_grows trail t
trail_grows trail (line.Restart node) = aborts_grow (losers trail) trail
trail_grows trail _ = grows_not trail

-- after each record that is appended
pub parts_grow : (first : List Record) (a : Primary) (rs : List Record) → Grows first a.trail → Every (λ (x : Primary). Grows first x.trail) (grown a rs)
parts_grow first a [] g = tt
parts_grow first a (r ∷ rest) g = (one, parts_grow first (with_record a r) rest one)
  where
    one : Grows first (a.trail ++ r ∷ [])
    one = grows_on first a.trail (a.trail ++ r ∷ []) g (r ∷ [], refl)

-- and no stop is counted by any
grown_stops : (a : Primary) (rs : List Record) (n : ℕ) → (after_parts a (grown a rs) n).stops ≡ a.stops
grown_stops a [] n = refl
grown_stops a (r ∷ rs) zero = refl
grown_stops a (r ∷ rs) (suc n) = grown_stops (with_record a r) rs n

pub parts_stops : (a : Primary) (o : Option NoWhy) (rs : List Record) (n : ℕ) → (after_parts a (parts_unless o (grown a rs)) n).stops ≡ a.stops
parts_stops a None rs n = grown_stops a rs n
parts_stops a (Some why) rs n = refl

-- the trail of what a line leaves of the primary is that after the line
pub after_trail : (a : Primary) (l : Line) → (primary_after a l).trail ≡ trail_after a.trail l
after_trail a (line.Begin t) = refl
after_trail a _ = refl

-- and its stops are as before
pub after_stops : (a : Primary) (l : Line) → (primary_after a l).stops ≡ a.stops
after_stops a (line.Begin t) = refl
after_stops a _ = refl

-- and the parts of its row are the records that it appends
pub parts_are : (a : Primary) (l : Line) → (primary_rule a l).parts ≡ primary_parts a l
parts_are a (line.Begin t) = refl
parts_are a _ = refl
