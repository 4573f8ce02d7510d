-- The worked trails of the tests are legal.
use Rattle.std.proofs.Common.{◌≡◌, ◌∙◌, ℕ, List, [], ◌∷◌, ◌++◌, take, true, false, if◌then◌else◌, Some, None, Option, IfSome, refl, sym, subst}
use Rattle.std.specs.FinMap.{empty, get-empty}
use Rattle.rdf_types.specs.Places.{place_cmp, same_place}
use Rattle.rdf_types.specs.declared.records.Record.{Record}
use Rattle.rdf_types.specs.declared.records.Record.TheVariants.{Image, Commit, Abort}
use Rattle.rdf_model.specs.Contents.{Contents, held, nothing, place}
use Rattle.rdf_model.specs.Legal.{CanAbort, Legal}

-- a record more
pub pushed : {old new made : List Record} {rec is : Record} → old ≡ made → rec ≡ is → new ≡ old ++ rec ∷ [] → new ≡ made ++ is ∷ []
pushed same rec_is more = more ∙ λ i. same i ++ rec_is i ∷ []

nothing_held : held empty ≡ nothing
nothing_held = λ i q. get-empty place_cmp q i

-- what is legal over no files is so over an empty map
pub over_map : (trail literal : List Record) → trail ≡ literal → Legal nothing literal → Legal (held empty) trail
over_map trail literal is legal = subst (Legal (held empty)) (sym is) (subst (λ (base : Contents). Legal base literal) (sym nothing_held) legal)

abbrev pub open_trail : List Record
open_trail =
    Image 1 0 (102 ∷ []) (107 ∷ []) None (Some (49 ∷ [])) ∷
    Image 1 0 (102 ∷ []) (107 ∷ []) (Some (49 ∷ [])) (Some (50 ∷ [])) ∷
    Image 1 0 (102 ∷ []) (107 ∷ []) (Some (50 ∷ [])) None ∷
    Image 1 0 (102 ∷ []) (106 ∷ []) None (Some (55 ∷ [])) ∷
    []

pub open_is_legal : Legal nothing open_trail
open_is_legal = (record { reads = refl; locked = refl; running = refl }, (record { reads = refl; locked = refl; running = refl }, (record { reads = refl; locked = refl; running = refl }, (record { reads = refl; locked = refl; running = refl }, tt))))

abbrev pub ended_trail : List Record
ended_trail =
    Image 1 0 (102 ∷ []) (107 ∷ 49 ∷ []) None (Some (49 ∷ 48 ∷ [])) ∷
    Image 1 1 (103 ∷ []) (104 ∷ 49 ∷ []) None (Some (97 ∷ [])) ∷
    Commit 1 ∷
    Image 2 0 (102 ∷ []) (107 ∷ 49 ∷ []) (Some (49 ∷ 48 ∷ [])) (Some (50 ∷ 48 ∷ [])) ∷
    Commit 2 ∷
    []

pub ended_is_legal : Legal nothing ended_trail
ended_is_legal = (record { reads = refl; locked = refl; running = refl }, (record { reads = refl; locked = refl; running = refl }, (refl, (record { reads = refl; locked = refl; running = refl }, (refl, tt)))))

abbrev pub backed_out_trail : List Record
backed_out_trail =
    Image 1 1 (102 ∷ []) (107 ∷ []) None (Some (49 ∷ [])) ∷
    Commit 1 ∷
    Image 2 1 (102 ∷ []) (107 ∷ []) (Some (49 ∷ [])) None ∷
    Image 2 1 (102 ∷ []) (107 ∷ []) None (Some (49 ∷ [])) ∷
    Abort 2 ∷
    Image 3 1 (102 ∷ []) (107 ∷ []) (Some (49 ∷ [])) (Some (51 ∷ [])) ∷
    []

-- the abort finds what its transaction found first
restored : CanAbort nothing (take 4 backed_out_trail) 2
restored = record {
  running = refl;
  restored = λ q.
      elim (same_place q (place 1 (102 ∷ []) (107 ∷ []))) as (λ b. IfSome {T = Option (List ℕ)} (if b then Some (Some (49 ∷ [])) else if b then Some None else None) (λ before. (if b then Some (49 ∷ []) else if b then None else if b then Some (49 ∷ []) else None) ≡ before)) [
        | true ↦ refl
        | false ↦ tt
      ];
}

pub backed_out_is_legal : Legal nothing backed_out_trail
backed_out_is_legal = (record { reads = refl; locked = refl; running = refl }, (refl, (record { reads = refl; locked = refl; running = refl }, (record { reads = refl; locked = refl; running = refl }, (restored, (record { reads = refl; locked = refl; running = refl }, tt))))))
