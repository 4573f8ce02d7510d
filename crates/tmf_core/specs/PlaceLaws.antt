-- Laws of the places that a transaction changed.
use Rattle.std.proofs.Common.{◌≡◌, ℕ, ◌<◌, ◌==◌, Bool, true, false, cond, List, [], ◌∷◌, filter_map, Option, Some, None, refl, sym, ◌∙◌, subst}
use Rattle.std.specs.List.{AllByRecursion, cons_option}
use Rattle.std.specs.FinMap.{find, from_entries, get-entries, get-from_entries}
use Rattle.rdf_types.specs.declared.records.Record.{Record}
use Rattle.rdf_types.specs.declared.records.Record.TheVariants.{Image, Commit, Abort}
use Rattle.rdf_types.specs.declared.records.RecKey.{RecKey}
use Rattle.rdf_types.specs.Places.{same_place, same_place-is, place_cmp, place_cmp_total, place_cmp_exact}
use Rattle.rdf_types.specs.MapViews.{entries_found}
use Rattle.rdf_model.specs.Contents.{place}
use Rattle.rdf_model.specs.Lines.{found_of, found_by}
use Rattle.tmf_core.specs.Stores.{IsPlaced}
use Rattle.tmf_core.specs.Places.{AreIn}

-- a place that was found is on one of the volumes that the images are on
found_placed : (n t : ℕ) (q : RecKey) (b : Option (List ℕ)) (trail : List Record) → AllByRecursion (λ r. IsPlaced n r) trail → find place_cmp q (filter_map (found_of t) trail) ≡ Some b → q.vol < n
found_placed n t q b [] h e = cc
found_placed n t q b (Commit u ∷ xs) h e = found_placed n t q b xs h.1 e
found_placed n t q b (Abort u ∷ xs) h e = found_placed n t q b xs h.1 e
found_placed n t q b (Image u v f k x y ∷ xs) h e = by_txn (found_placed n t q b xs h.1) (u == t) e
  where
    here : (find place_cmp q (filter_map (found_of t) xs) ≡ Some b → q.vol < n) → (m : Bool) → same_place q (place v f k) ≡ m → cond m (Some x) (find place_cmp q (filter_map (found_of t) xs)) ≡ Some b → q.vol < n
    here behind true is found_it = subst (λ (p : RecKey). p.vol < n) (sym (same_place-is q (place v f k) is)) h.0
    here behind false is found_it = behind found_it

    by_txn : (find place_cmp q (filter_map (found_of t) xs) ≡ Some b → q.vol < n) → (m : Bool) → find place_cmp q (cons_option (cond m (Some (place v f k, x)) None) (filter_map (found_of t) xs)) ≡ Some b → q.vol < n
    by_txn behind true found_it = here behind (same_place q (place v f k)) refl found_it
    by_txn behind false found_it = behind found_it

-- each place that the transaction changed is on one of the volumes that the images are on
pub found_there : (n t : ℕ) (trail : List Record) → AllByRecursion (λ r. IsPlaced n r) trail → AreIn n (found_by trail t)
found_there n t trail h = all_there (found_by trail t) (entries_found place_cmp place_cmp_total place_cmp_exact (from_entries (filter_map (found_of t) trail)))
  where
    all_there : (es : List (RecKey × Option (List ℕ))) → AllByRecursion (λ e. find place_cmp e.0 (found_by trail t) ≡ Some e.1) es → AreIn n es
    all_there [] f = tt
    all_there (e ∷ es) f = (
      found_placed n t e.0 e.1 trail h (sym (get-from_entries place_cmp_total (filter_map (found_of t) trail) e.0) ∙ get-entries (from_entries (filter_map (found_of t) trail)) e.0 ∙ f.0),
      all_there es f.1,
    )
