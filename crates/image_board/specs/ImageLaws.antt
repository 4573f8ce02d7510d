-- Laws of the images of a volume between two positions.
use Rattle.std.proofs.Common.{◌≡◌, ℕ, suc, ◌+◌, ◌<◌, ◌≤◌, Bool, true, false, nat_le, nat_lt, if◌then◌else◌, List, [], ◌∷◌, ◌++◌, refl, sym, ap, ap₂, ◌∙◌, subst, arith}
use Rattle.std.specs.List.{AllByRecursion}
use Rattle.std.proofs.lemmas.Bool.{lt-ltb, le-ltb, ltb-true, ltb-false, le-leb, lt-leb, leb-true}
use Rattle.std.proofs.lemmas.List.{append-nil}
use Rattle.std.proofs.lemmas.List.Elements.{filter-append}
use Rattle.rdf_types.specs.declared.records.Stamped.{Stamped}
use Rattle.rdf_types.specs.Entries.{RiseFrom, Rises, since, before}
use Rattle.rdf_types.specs.EntryLaws.{rise_low, rise_kept, rise_since, none_before, rises_low}
use Rattle.rdf_model.specs.Window.{is_image_on}
use Rattle.seated_lock.specs.declared.story.Story.{Story}
use Rattle.seated_lock.specs.Stories.{Begins}
use Rattle.image_board.specs.Entries.{own, images_between}

-- ---- what is published later lies beyond

beyond : (p n low high : ℕ) (es : List Stamped) → n ≤ low → Rises low es high → before n (since p es) ≡ []
beyond p n low high [] le rise = refl
beyond p n low high (e ∷ es) le rise =
    let later : before n (since p es) ≡ [] = beyond p n (suc e.pos) high es (omega (arith, le, rise.0)) rise.1 in
    elim (nat_le p e.pos) as (λ b. before n (if b then e ∷ since p es else since p es) ≡ []) [
      | true ↦ ap (λ (b : Bool). if b then e ∷ before n (since p es) else before n (since p es)) (le-ltb e.pos n (omega (arith, le, rise.0))) ∙ later
      | false ↦ later
    ]

between_append : (v p n : ℕ) (xs ys : List Stamped) → images_between v p n (xs ++ ys) ≡ images_between v p n xs ++ images_between v p n ys
between_append v p n xs ys =
    ap (λ (l : List Stamped). own v (before n l)) (filter-append (λ (s : Stamped). nat_le p s.pos) xs ys)
    ∙ ap (own v) (filter-append (λ (s : Stamped). nat_lt s.pos n) (since p xs) (since p ys))
    ∙ filter-append (λ (s : Stamped). is_image_on v s.rec) (before n (since p xs)) (before n (since p ys))

-- two beginnings of a board have the same images below a position that both have reached
pub images_stay : (v p n : ℕ) (b c : Story) → Begins b c → n ≤ b.number → images_between v p n c.entries ≡ images_between v p n b.entries
images_stay v p n b c h le =
    ap (images_between v p n) h.entries ∙ between_append v p n b.entries h.later
    ∙ ap (λ (l : List Stamped). images_between v p n b.entries ++ own v l) (beyond p n b.number c.number h.later le h.rises)
    ∙ append-nil (images_between v p n b.entries)

-- ---- one stretch after the other

keep : (v : ℕ) (e : Stamped) (l m k : List Stamped) → own v l ≡ own v m ++ k → own v (e ∷ l) ≡ own v (e ∷ m) ++ k
keep v e l m k h =
    elim (is_image_on v e.rec) as (λ b. (if b then e ∷ own v l else own v l) ≡ (if b then e ∷ own v m else own v m) ++ k) [
      | true ↦ ap (λ (x : List Stamped). e ∷ x) h
      | false ↦ h
    ]

-- those up to one position, and then those from there on
pub images_split : (v p n q at : ℕ) (es : List Stamped) → p ≤ n → n ≤ q → RiseFrom at es → images_between v p q es ≡ images_between v p n es ++ images_between v n q es
images_split v p n q at [] lo hi rise = refl
images_split v p n q at (e ∷ es) lo hi rise =
    let ih = images_split v p n q (e.pos + 1) es lo hi rise.1 in
    elim (nat_lt e.pos n) as (λ b. nat_lt e.pos n ≡ b → images_between v p q (e ∷ es) ≡ images_between v p n (e ∷ es) ++ images_between v n q (e ∷ es)) [
      | true ↦ λ below.
          let small : e.pos < n = ltb-true e.pos n below in
          let gone : since n (e ∷ es) ≡ since n es = ap (λ (b : Bool). if b then e ∷ since n es else since n es) (lt-leb n e.pos small) in
          let right = ap (λ (l : List Stamped). own v (before q l)) (sym gone) in
          elim (nat_le p e.pos) as (λ b. own v (before q (if b then e ∷ since p es else since p es)) ≡ own v (before n (if b then e ∷ since p es else since p es)) ++ images_between v n q (e ∷ es)) [
            | true ↦
                let big = ap (λ (b : Bool). own v (if b then e ∷ before q (since p es) else before q (since p es))) (lt-ltb e.pos q (omega (arith, small, hi))) in
                let little = ap (λ (b : Bool). own v (if b then e ∷ before n (since p es) else before n (since p es))) below in
                big ∙ keep v e (before q (since p es)) (before n (since p es)) (images_between v n q es) ih
                ∙ ap₂ (λ (x y : List Stamped). x ++ y) (sym little) right
            | false ↦ ih ∙ ap (λ (y : List Stamped). images_between v p n es ++ y) right
          ]
      | false ↦ λ above.
          let large : n ≤ e.pos = ltb-false e.pos n above in
          last v p n q e es large lo rise.1 ih
    ] refl
  where
    cons_own : (v : ℕ) (e : Stamped) (l m : List Stamped) → own v l ≡ own v m → own v (e ∷ l) ≡ own v (e ∷ m)
    cons_own v e l m h = ap (λ (x : List Stamped). if is_image_on v e.rec then e ∷ x else x) h

    last : (v p n q : ℕ) (e : Stamped) (es : List Stamped) → n ≤ e.pos → p ≤ n → RiseFrom (e.pos + 1) es → images_between v p q es ≡ images_between v p n es ++ images_between v n q es → images_between v p q (e ∷ es) ≡ images_between v p n (e ∷ es) ++ images_between v n q (e ∷ es)
    last v p n q e es large lo rise ih =
        let none : before n (since p es) ≡ [] = none_before n (since p es) (rise_low n (e.pos + 1) (since p es) (omega (arith, large)) (rise_kept (λ s. nat_le p s.pos) (e.pos + 1) es rise)) in
        let here : since p (e ∷ es) ≡ e ∷ since p es = ap (λ (b : Bool). if b then e ∷ since p es else since p es) (le-leb p e.pos (omega (arith, large, lo))) in
        let there : since n (e ∷ es) ≡ e ∷ since n es = ap (λ (b : Bool). if b then e ∷ since n es else since n es) (le-leb n e.pos large) in
        let empty : images_between v p n (e ∷ es) ≡ [] =
        ap (λ (l : List Stamped). own v (before n l)) here ∙ ap (λ (b : Bool). own v (if b then e ∷ before n (since p es) else before n (since p es))) (le-ltb e.pos n large) ∙ ap (own v) none in
        let same : own v (before q (since p es)) ≡ own v (before q (since n es)) = ih ∙ ap (λ (l : List Stamped). own v l ++ images_between v n q es) none in
        let both : own v (before q (e ∷ since p es)) ≡ own v (before q (e ∷ since n es)) =
        elim (nat_lt e.pos q) as (λ b. own v (if b then e ∷ before q (since p es) else before q (since p es)) ≡ own v (if b then e ∷ before q (since n es) else before q (since n es))) [
          | true ↦ cons_own v e (before q (since p es)) (before q (since n es)) same
          | false ↦ same
        ] in
        ap (λ (l : List Stamped). own v (before q l)) here ∙ both ∙ ap (λ (l : List Stamped). own v (before q l)) (sym there) ∙ ap (λ (l : List Stamped). l ++ images_between v n q (e ∷ es)) (sym empty)

-- ---- how they rise

rises_on : (v low high : ℕ) (es : List Stamped) → RiseFrom low es → low ≤ high → Rises low (own v (before high es)) high
rises_on v low high [] rise le = le
rises_on v low high (e ∷ es) rise le =
    elim (nat_lt e.pos high) as (λ b. nat_lt e.pos high ≡ b → Rises low (own v (if b then e ∷ before high es else before high es)) high) [
      | true ↦ λ below.
          let later = rises_on v (e.pos + 1) high es rise.1 (omega (arith, ltb-true e.pos high below)) in
          elim (is_image_on v e.rec) as (λ b. Rises low (if b then e ∷ own v (before high es) else own v (before high es)) high) [
            | true ↦ (rise.0, rises_low (suc e.pos) (e.pos + 1) (own v (before high es)) high (omega arith) later)
            | false ↦ rises_low low (e.pos + 1) (own v (before high es)) high (omega (arith, rise.0)) later
          ]
      | false ↦ λ above. subst (λ (l : List Stamped). Rises low (own v l) high) (sym (none_before high es (rise_low high (e.pos + 1) es (omega (arith, ltb-false e.pos high above)) rise.1))) le
    ] refl

-- their positions rise from the one to below the other
pub images_rise : (v n q at : ℕ) (es : List Stamped) → RiseFrom at es → n ≤ q → Rises n (images_between v n q es) q
images_rise v n q at es rise le = rises_on v n q (since n es) (rise_since n at es rise) le

-- each of them lies between the positions
pub images_within : (v n q : ℕ) (es : List Stamped) → AllByRecursion (λ s. (n ≤ s.pos) × (s.pos < q)) (images_between v n q es)
images_within v n q [] = tt
images_within v n q (e ∷ es) =
    let ih = images_within v n q es in
    elim (nat_le n e.pos) as (λ b. nat_le n e.pos ≡ b → AllByRecursion (λ s. (n ≤ s.pos) × (s.pos < q)) (own v (before q (if b then e ∷ since n es else since n es)))) [
      | true ↦ λ up. elim (nat_lt e.pos q) as (λ b. nat_lt e.pos q ≡ b → AllByRecursion (λ s. (n ≤ s.pos) × (s.pos < q)) (own v (if b then e ∷ before q (since n es) else before q (since n es)))) [
        | true ↦ λ below. elim (is_image_on v e.rec) as (λ b. AllByRecursion (λ s. (n ≤ s.pos) × (s.pos < q)) (if b then e ∷ images_between v n q es else images_between v n q es)) [
          | true ↦ ((leb-true n e.pos up, ltb-true e.pos q below), ih)
          | false ↦ ih
        ]
        | false ↦ λ above. ih
      ] refl
      | false ↦ λ under. ih
    ] refl

-- none lies from a position to below itself
pub no_images : (v n : ℕ) (es : List Stamped) → images_between v n n es ≡ []
no_images v n [] = refl
no_images v n (e ∷ es) =
    elim (nat_le n e.pos) as (λ b. nat_le n e.pos ≡ b → own v (before n (if b then e ∷ since n es else since n es)) ≡ []) [
      | true ↦ λ h. ap (λ (b : Bool). own v (if b then e ∷ before n (since n es) else before n (since n es))) (le-ltb e.pos n (leb-true n e.pos h)) ∙ no_images v n es
      | false ↦ λ h. no_images v n es
    ] refl
