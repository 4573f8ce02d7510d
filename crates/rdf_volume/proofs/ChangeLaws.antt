-- Changes of a volume's rows, and what they show.
use Rattle.std.proofs.Common.{◌≡◌, ℕ, ◌==◌, Bool, true, false, cond, List, [], ◌∷◌, Option, Some, None, refl, sym, ◌∙◌, ap, subst}
use Rattle.std.specs.FinMap.{get, get-insert, get-remove}
use Rattle.std.specs.List.{cons_option}
use Rattle.std.specs.Ordering.{eq_by_cmp}
use Rattle.std.proofs.lemmas.Bool.{eqb-true, eq-eqb}
use Rattle.rdf_types.specs.declared.records.Change.{Change}
use Rattle.rdf_types.specs.declared.records.RecKey.{RecKey}
use Rattle.rdf_types.specs.declared.records.Record.{Record}
use Rattle.rdf_types.specs.declared.records.Record.TheVariants.{Image, Commit, Abort}
use Rattle.rdf_types.specs.Places.{row_cmp, row_cmp_total, same_place, same_place-is, same_place-on}
use Rattle.rdf_model.specs.Contents.{Contents, with_value, place}
use Rattle.rdf_model.specs.Trail.{raw}
use Rattle.rdf_model.specs.Volumes.{Rows, shown, AreOn}
use Rattle.rdf_volume.specs.Changes.{with_value_at, with_change, changed, changes_on}

gets : (rows : Rows) (p q : List ℕ × List ℕ) (value : Option (List ℕ)) → get (with_value_at rows p value) q ≡ cond (eq_by_cmp row_cmp q p) value (get rows q)
gets rows p q None = get-remove row_cmp_total rows p q
gets rows p q (Some value) = get-insert row_cmp_total rows p value q

-- a change of the rows is the change of the place that they show
pub change_sets : (vol : ℕ) (files : Contents) (rows : Rows) (c : Change) → AreOn vol files rows → AreOn vol (with_value files (place vol c.file c.key) c.after) (with_change rows c)
change_sets vol files rows c on q here =
    gets rows (c.file, c.key) (q.file, q.key) c.after
    ∙ ap (λ (b : Bool). cond b c.after (get rows (q.file, q.key))) (sym (same_place-on vol q (place vol c.file c.key) here refl))
    ∙ ap (cond (same_place q (place vol c.file c.key)) c.after) (on q here)

-- the image of another volume shows nothing here
other_volume : (vol v : ℕ) (files : Contents) (rows : Rows) (file key : List ℕ) (after : Option (List ℕ)) → (v == vol) ≡ false → AreOn vol files rows → AreOn vol (with_value files (place v file key) after) rows
other_volume vol v files rows file key after apart on q here =
    elim (same_place q (place v file key)) as (λ (b : Bool). same_place q (place v file key) ≡ b → shown rows q ≡ cond b after (files q)) [
      | true ↦ λ same. (let e : (v == vol) ≡ true = eq-eqb v vol (sym (ap (λ (k : RecKey). k.vol) (same_place-is q (place v file key) same)) ∙ here) in cc)
      | false ↦ λ same. on q here
    ] refl

-- one image more
one_image : (vol v : ℕ) (files : Contents) (rows : Rows) (txn : ℕ) (file key : List ℕ) (before after : Option (List ℕ)) (rest : List Record) (m : Bool) → (v == vol) ≡ m
    → ((fs : Contents) (rs : Rows) → AreOn vol fs rs → AreOn vol (raw fs rest) (changed rs (changes_on vol rest)))
    → AreOn vol files rows → AreOn vol (raw (with_value files (place v file key) after) rest) (changed rows (cons_option (cond m (Some (record { file = file; key = key; after = after })) None) (changes_on vol rest)))
one_image vol v files rows txn file key before after rest true here go on =
    go (with_value files (place v file key) after) (with_value_at rows (file, key) after)
    (subst (λ (n : ℕ). AreOn vol (with_value files (place n file key) after) (with_value_at rows (file, key) after)) (sym (eqb-true v vol here))
    (change_sets vol files rows (record { file = file; key = key; after = after }) on))
one_image vol v files rows txn file key before after rest false apart go on =
    go (with_value files (place v file key) after) rows (other_volume vol v files rows file key after apart on)

-- the changes of a volume's images show what the images make of the contents
pub images_change : (vol : ℕ) (trail : List Record) (files : Contents) (rows : Rows) → AreOn vol files rows → AreOn vol (raw files trail) (changed rows (changes_on vol trail))
images_change vol [] files rows on = on
images_change vol (Image txn v file key before after ∷ rest) files rows on =
    one_image vol v files rows txn file key before after rest (v == vol) refl (λ fs rs. images_change vol rest fs rs) on
images_change vol (Commit txn ∷ rest) files rows on = images_change vol rest files rows on
images_change vol (Abort txn ∷ rest) files rows on = images_change vol rest files rows on
