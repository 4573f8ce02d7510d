-- Who holds a place of a legal trail.
use Rattle.std.specs.Prelude.{◌≡◌, ℕ, Bool, false, not, ◌&&◌, ◌==◌, ◌⊎◌, List, Some, None}
use Rattle.rdf_types.specs.declared.records.Record.{Record}
use Rattle.rdf_types.specs.declared.records.RecKey.{RecKey}
use Rattle.rdf_model.specs.Contents.{Contents}
use Rattle.rdf_model.specs.Trail.{raw, is_ended, images_of, committed, first_before, owner}
use Rattle.rdf_model.specs.Legal.{Legal}

-- the transaction alone
abbrev pub by_one : ℕ → ℕ → Bool
by_one t u = u == t

-- the transactions without outcome
abbrev pub by_running : List Record → ℕ → Bool
by_running trail u = not (is_ended u trail)

-- the transactions without outcome but this one
abbrev pub by_others : List Record → ℕ → ℕ → Bool
by_others trail t u = not (is_ended u trail) && not (u == t)

-- the transaction alone of the open ones has images of the place: the first one found there what is committed, and the last one left what is there
pub record IsHeld (base : Contents) (trail : List Record) (q : RecKey) (t : ℕ) : Type 0 where
  pub running : is_ended t trail ≡ false
  pub mine : first_before (by_one t) q trail ≡ Some (committed base trail q)
  pub alone : first_before (by_others trail t) q trail ≡ None
  pub last : (files : Contents) → raw files (images_of t trail) q ≡ raw base trail q

-- no open transaction has an image of the place, or one of them owns it and holds it alone
abbrev pub HasOneHolder : Contents → List Record → RecKey → Type 0
HasOneHolder base trail q =
    ((owner trail q ≡ None) × (first_before (by_running trail) q trail ≡ None)) ⊎ ((t : ℕ) × (owner trail q ≡ Some t) × IsHeld base trail q t)

-- so it is with each place of a legal trail
abbrev pub OneHolder : Type 0
OneHolder = (base : Contents) (trail : List Record) (q : RecKey) → Legal base trail → HasOneHolder base trail q
