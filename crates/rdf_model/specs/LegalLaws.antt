-- Laws of legal trails: one more record, first parts and rests.
use Rattle.std.proofs.Common.{ℕ, List, [], ◌∷◌, ◌++◌, sym, subst, append-nil, append_assoc, take, drop}
use Rattle.rdf_types.specs.declared.records.Record.{Record}
use Rattle.rdf_model.specs.Contents.{Contents}
use Rattle.rdf_model.specs.Legal.{CanFollow, LegalAfter, Legal}
use Rattle.std.proofs.lemmas.List.{take-append-drop}

-- one more record that can follow
pub legal_more : (base : Contents) (trail xs : List Record) (r : Record) → LegalAfter base trail xs → CanFollow base (trail ++ xs) r → LegalAfter base trail (xs ++ r ∷ [])
legal_more base trail [] r h c = (subst (λ t. CanFollow base t r) (append-nil trail) c, tt)
legal_more base trail (x ∷ xs) r h c = (h.0, legal_more base (trail ++ x ∷ []) xs r h.1 (subst (λ t. CanFollow base t r) (sym (append_assoc trail (x ∷ []) xs)) c))

-- the rest of what is legal after a trail is so after the trail and the first part
pub legal_rest : (base : Contents) (trail xs ys : List Record) → LegalAfter base trail (xs ++ ys) → LegalAfter base (trail ++ xs) ys
legal_rest base trail [] ys h = subst (λ t. LegalAfter base t ys) (sym (append-nil trail)) h
legal_rest base trail (r ∷ xs) ys h = subst (λ t. LegalAfter base t ys) (append_assoc trail (r ∷ []) xs) (legal_rest base (trail ++ r ∷ []) xs ys h.1)

-- a first part of what is legal after a trail is so
pub legal_first : (base : Contents) (trail xs ys : List Record) → LegalAfter base trail (xs ++ ys) → LegalAfter base trail xs
legal_first base trail [] ys h = tt
legal_first base trail (r ∷ xs) ys h = (h.0, legal_first base (trail ++ r ∷ []) xs ys h.1)

-- a first part of a legal trail is legal
pub prefix_is_legal : (base : Contents) (trail : List Record) (m : ℕ) → Legal base trail → Legal base (take m trail)
prefix_is_legal base trail m legal = legal_first base [] (take m trail) (drop m trail) (subst (LegalAfter base []) (sym (take-append-drop m trail)) legal)

-- the last record of a legal trail can follow those before it
pub next_follows : (base : Contents) (trail : List Record) (r : Record) → Legal base (trail ++ r ∷ []) → Legal base trail × CanFollow base trail r
next_follows base trail r legal = (legal_first base [] trail (r ∷ []) legal, (legal_rest base [] trail (r ∷ []) legal).0)
