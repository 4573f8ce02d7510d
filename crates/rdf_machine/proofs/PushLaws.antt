-- One image more of a place.
use Rattle.std.proofs.Common.{◌≡◌, ℕ, true, false, cond, Bool, List, [], ◌∷◌, ◌++◌, Option, Some, None, Result, Ok, Err, OnOk, OnErr, refl, sym, ap, ◌∙◌, unwrap_or, append-nil}
use Rattle.std.specs.Ordering.{eq_by_cmp}
use Rattle.std.specs.FinMap.{get, insert, get-insert, same_map}
use Rattle.rdf_types.specs.declared.records.RecKey.{RecKey}
use Rattle.rdf_types.specs.Places.{place_cmp, place_cmp_total, place_cmp_exact, same_place, same_place-is}
use Rattle.rdf_types.specs.declared.records.Record.{Record}
use Rattle.rdf_types.specs.declared.records.Record.TheVariants.{Image}
use Rattle.rdf_model.specs.Contents.{place}
use Rattle.rdf_machine.specs.Images.{ByPlace, here, positions_in}

-- a place that has this already
same_images : (images : ByPlace) (k : RecKey) (ps : List ℕ) → get images k ≡ Some ps → insert images k ps ≡ images
same_images images k ps is =
    same_map place_cmp_total place_cmp_exact _ _ (λ q. get-insert place_cmp_total images k ps q
    ∙ elim (eq_by_cmp place_cmp q k) as (λ b. eq_by_cmp place_cmp q k ≡ b → cond b (Some ps) (get images q) ≡ get images q) [
      | true ↦ λ e. sym is ∙ ap (get images) (sym (same_place-is q k e))
      | false ↦ λ e. refl
    ] refl)

-- the images after one more, or after none where there was no memory
pub record Pushed {E : Type 0} (r : Result Unit E) (images new : ByPlace) (k : RecKey) (pos : ℕ) : Type 0 where
  pub ok : OnOk r (new ≡ insert images k (positions_in images k ++ pos ∷ []))
  pub err : OnErr r (new ≡ images)

pub pushed_more : {E : Type 0} (r : Result Unit E) (images new : ByPlace) (k : RecKey) (pos : ℕ) (old ps : List ℕ) → get images k ≡ Some old → new ≡ insert images k ps →
    OnOk r (ps ≡ old ++ pos ∷ []) → OnErr r (ps ≡ old) → Pushed r images new k pos
pushed_more (Ok u) images new k pos old ps was is ok err =
    record { ok = is ∙ ap (insert images k) (ok ∙ ap (λ (o : Option (List ℕ)). unwrap_or o [] ++ pos ∷ []) (sym was)); err = tt }
pushed_more (Err e) images new k pos old ps was is ok err = record { ok = tt; err = is ∙ ap (insert images k) err ∙ same_images images k old was }

-- the first image of a place
pub first_pushed : {E : Type 0} (r : Result Unit E) (old now new : ByPlace) (k : RecKey) (pos : ℕ) (ps : List ℕ) → now ≡ old → ps ≡ pos ∷ [] → None ≡ get old k →
    OnOk r (new ≡ insert now k ps) → OnOk r (new ≡ insert old k (positions_in old k ++ pos ∷ []))
first_pushed (Ok u) old now new k pos ps same is none ok =
    ok ∙ ap (λ (m : ByPlace). insert m k ps) same ∙ ap (insert old k) (is ∙ ap (λ (o : Option (List ℕ)). unwrap_or o [] ++ pos ∷ []) none)
first_pushed (Err e) old now new k pos ps same is none ok = tt

-- what is noted for each place after one more image
pushed_at : (images : ByPlace) (k : RecKey) (pos : ℕ) (q : RecKey) → positions_in (insert images k (positions_in images k ++ pos ∷ [])) q ≡ positions_in images q ++ cond (same_place q k) (pos ∷ []) []
pushed_at images k pos q =
    ap (λ (o : Option (List ℕ)). unwrap_or o []) (get-insert place_cmp_total images k (positions_in images k ++ pos ∷ []) q)
    ∙ elim (same_place q k) as (λ (b : Bool). same_place q k ≡ b → unwrap_or (cond b (Some (positions_in images k ++ pos ∷ [])) (get images q)) [] ≡ positions_in images q ++ cond b (pos ∷ []) []) [
      | true ↦ λ e. ap (λ (x : RecKey). positions_in images x ++ pos ∷ []) (sym (same_place-is q k e))
      | false ↦ λ e. sym (append-nil (positions_in images q))
    ] refl

pub image_noted : {E : Type 0} (r : Result Unit E) (old new : ByPlace) (k : RecKey) (pos t v : ℕ) (f l : List ℕ) (b a : Option (List ℕ)) (x : Record) → x ≡ Image t v f l b a → k ≡ place v f l →
    OnOk r (new ≡ insert old k (positions_in old k ++ pos ∷ [])) → OnOk r ((q : RecKey) → positions_in new q ≡ positions_in old q ++ here q pos x)
image_noted (Ok u) old new k pos t v f l b a x is at ok = λ q.
    ap (λ (m : ByPlace). positions_in m q) ok ∙ pushed_at old k pos q
    ∙ ap (λ (p : RecKey). positions_in old q ++ cond (same_place q p) (pos ∷ []) []) at
    ∙ ap (λ (y : Record). positions_in old q ++ here q pos y) (sym is)
image_noted (Err e) old new k pos t v f l b a x is at ok = tt
