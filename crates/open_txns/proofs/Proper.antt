-- Notes in which no record of a transaction follows its outcome.
use Rattle.std.proofs.Common.{◌≡◌, ℕ, suc, Bool, true, false, not, cond, ◌&&◌, ◌||◌, List, [], ◌∷◌, ◌++◌, drop, take, filter, sym, ap, ◌∙◌, subst, arith, true≢false, append-nil, append_assoc}
use Rattle.std.proofs.lemmas.Bool.{or_left}
use Rattle.std.proofs.lemmas.List.{take-append-drop}
use Rattle.std.proofs.lemmas.List.Sums.{fold-append}
use Rattle.rdf_types.specs.declared.records.Record.{Record}
use Rattle.rdf_types.specs.declared.records.Record.TheVariants.{Image, Commit, Abort}
use Rattle.rdf_types.specs.declared.records.Stamped.{Stamped}
use Rattle.rdf_model.specs.Contents.{Contents}
use Rattle.rdf_model.specs.Trail.{txn_of, has_image, is_ended, is_open, is_outcome_of}
use Rattle.rdf_model.specs.Legal.{CanFollow, LegalAfter, Legal}
use Rattle.rdf_model.specs.Window.{records, concerns, stamped, part}
use Rattle.rdf_model.specs.SearchLaws.{is_ended-more}
use Rattle.rdf_model.specs.LegalLaws.{legal_rest}
use Rattle.open_txns.specs.Noted.{noted, all_noted, ProperAfter}
use Rattle.open_txns.proofs.Firsts.{records-more}

pub next_note : (notes : List Stamped) (s : Stamped) → all_noted (notes ++ s ∷ []) ≡ noted (all_noted notes) s.pos s.rec
next_note notes s = fold-append (λ os x. noted os x.pos x.rec) [] notes (s ∷ [])

proper-more : (before notes : List Stamped) (s : Stamped) → ProperAfter before notes → is_ended (txn_of s.rec) (records (before ++ notes)) ≡ false →
    ProperAfter before (notes ++ s ∷ [])
proper-more before [] s h e = (ap (λ xs. is_ended (txn_of s.rec) (records xs)) (sym (append-nil before)) ∙ e, tt)
proper-more before (x ∷ notes) s h e =
    (h.0, proper-more (before ++ x ∷ []) notes s h.1 (ap (λ xs. is_ended (txn_of s.rec) (records xs)) (append_assoc before (x ∷ []) notes) ∙ e))

pub next_is_proper : (notes : List Stamped) (s : Stamped) → ProperAfter [] notes → is_ended (txn_of s.rec) (records notes) ≡ false → ProperAfter [] (notes ++ s ∷ [])
next_is_proper notes s h e = proper-more [] notes s h e

running_is_not_ended : (t : ℕ) (trail : List Record) → is_open t trail ≡ true → is_ended t trail ≡ false
running_is_not_ended t trail h = not_ended (has_image t trail) (is_ended t trail) h
  where
    not_ended : (i e : Bool) → (i && not e) ≡ true → e ≡ false
    not_ended i e s = grind arith

follows_no_outcome : (base : Contents) (trail : List Record) (r : Record) → CanFollow base trail r → is_ended (txn_of r) trail ≡ false
follows_no_outcome base trail (Image t v f k b a) h = h.running
follows_no_outcome base trail (Commit t) h = running_is_not_ended t trail h
follows_no_outcome base trail (Abort t) h = running_is_not_ended t trail h.running

fewer : (x y : Bool) → (x ≡ true → y ≡ true) → y ≡ false → x ≡ false
fewer x y f e = grind arith

more : (x y o : Bool) → (x ≡ true → y ≡ true) → (x || o) ≡ true → (y || o) ≡ true
more x y o f e = grind arith

proper_part : (base : Contents) (protects : ℕ → Bool) (past : List Record) (before : List Stamped) (at : ℕ) (rest : List Record) → LegalAfter base past rest →
    ((t : ℕ) → is_ended t (records before) ≡ true → is_ended t past ≡ true) → ProperAfter before (filter (λ s. concerns protects s.rec) (stamped at rest))
proper_part base protects past before at [] h f = tt
proper_part base protects past before at (r ∷ rest) h f =
    let s : Stamped = record { pos = at; rec = r } in
    let later : List Stamped = filter (λ x. concerns protects x.rec) (stamped (suc at) rest) in
    elim (concerns protects r) as (λ m. ProperAfter before (cond m (s ∷ later) later)) [
      | true ↦ (
        fewer (is_ended (txn_of r) (records before)) (is_ended (txn_of r) past) (f (txn_of r)) (follows_no_outcome base past r h.0),
        proper_part base protects (past ++ r ∷ []) (before ++ s ∷ []) (suc at) rest h.1
            (λ t e. is_ended-more t past r ∙ more (is_ended t (records before)) (is_ended t past) (is_outcome_of t r || false) (f t)
            (sym (ap (is_ended t) (records-more before s) ∙ is_ended-more t (records before) r) ∙ e)),
      )
      | false ↦ proper_part base protects (past ++ r ∷ []) before (suc at) rest h.1
          (λ t e. is_ended-more t past r ∙ or_left (is_ended t past) (is_outcome_of t r || false) (f t e))
    ]

pub legal_is_proper : (base : Contents) (protects : ℕ → Bool) (trail : List Record) (start : ℕ) → Legal base trail → ProperAfter [] (part protects start trail)
legal_is_proper base protects trail start legal =
    let whole : take start trail ++ drop start trail ≡ trail = take-append-drop start trail in
    proper_part base protects (take start trail) [] start (drop start trail)
    (legal_rest base [] (take start trail) (drop start trail) (subst (LegalAfter base []) (sym whole) legal))
    (λ t e. absurd (true≢false (sym e)))
