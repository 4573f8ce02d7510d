-- The images of a part between two positions, as those of the trail.
use Rattle.std.proofs.Common.{◌≡◌, inl, inr, ℕ, zero, suc, ◌+◌, ◌-◌, ◌<◌, ◌≤◌, Bool, true, false, nat_le, nat_lt, if◌then◌else◌, List, [], ◌∷◌, ◌++◌, length, take, drop, filter, filter_map, Option, Some, None, refl, sym, ◌∙◌, ap, ap₂, subst, arith, take-append-drop}
use Rattle.std.specs.List.{cons_option}
use Rattle.std.proofs.lemmas.Bool.{cases_eq, ne_eqb}
use Rattle.std.proofs.lemmas.Bool.Decides.{nat_tests}
use Rattle.std.proofs.lemmas.List.{take-take}
use Rattle.std.proofs.lemmas.List.Sums.{fold-append}
use Rattle.std.proofs.Math.Seq.{drop-nil}
use Rattle.rdf_types.specs.Places.{same_place}
use Rattle.rdf_types.specs.declared.records.Change.{Change}
use Rattle.rdf_types.specs.declared.records.Record.{Record}
use Rattle.rdf_types.specs.declared.records.Record.TheVariants.{Image, Commit, Abort}
use Rattle.rdf_types.specs.declared.records.RecKey.{RecKey}
use Rattle.rdf_types.specs.declared.records.Stamped.{Stamped}
use Rattle.rdf_model.specs.Contents.{Contents, nothing, place}
use Rattle.rdf_model.specs.Trail.{raw, after_record}
use Rattle.rdf_model.specs.Volumes.{Rows, AreOn, shown}
use Rattle.rdf_model.specs.Window.{part, records, concerns, stamped, is_image_on, Fits}
use Rattle.rdf_volume.specs.Changes.{change_on, changes_on, changed}
use Rattle.rdf_types.specs.Entries.{RiseFrom, since, before}
use Rattle.updaters.specs.Applied.{applied, changes_by}
use Rattle.rdf_volume.specs.Changes.{change_by}
use Rattle.rdf_types.specs.EntryLaws.{rise_kept, rise_low}

-- ---- the positions of a part

stamped_rise : (at : ℕ) (l : List Record) → RiseFrom at (stamped at l)
stamped_rise at [] = tt
stamped_rise at (r ∷ rest) = (omega arith, rise_low (at + 1) (suc at) (stamped (suc at) rest) (omega arith) (stamped_rise (suc at) rest))

pub part_rise : (protects : ℕ → Bool) (start : ℕ) (trail : List Record) → RiseFrom 0 (part protects start trail)
part_rise protects start trail =
    rise_low 0 start (part protects start trail) (omega arith) (rise_kept (λ s. concerns protects s.rec) start (stamped start (drop start trail)) (stamped_rise start (drop start trail)))

-- ---- the changes by a part

-- the change by an entry that stands between the positions
abbrev pub between : ℕ → ℕ → ℕ → Stamped → Option Change
between vol p q s = if nat_le p s.pos then (if nat_lt s.pos q then change_on vol s.rec else None) else None

spread : (vol p q : ℕ) (xs : List Stamped) → changes_on vol (records (before q (since p xs))) ≡ filter_map (between vol p q) xs
spread vol p q [] = refl
spread vol p q (s ∷ rest) =
    let ih = spread vol p q rest in
    elim (nat_le p s.pos) as (λ b. changes_on vol (records (before q (if b then s ∷ since p rest else since p rest))) ≡ cons_option (if b then (if nat_lt s.pos q then change_on vol s.rec else None) else None) (filter_map (between vol p q) rest)) [
      | true ↦ elim (nat_lt s.pos q) as (λ b. changes_on vol (records (if b then s ∷ before q (since p rest) else before q (since p rest))) ≡ cons_option (if b then change_on vol s.rec else None) (filter_map (between vol p q) rest)) [
        | true ↦ ap (λ (cs : List Change). cons_option (change_on vol s.rec) cs) ih
        | false ↦ ih
      ]
      | false ↦ ih
    ]

-- entries that make no change may be left out
without : (f : Stamped → Option Change) (c : Stamped → Bool) → ((s : Stamped) → c s ≡ false → f s ≡ None) → (xs : List Stamped) → filter_map f (filter c xs) ≡ filter_map f xs
without f c none [] = refl
without f c none (s ∷ rest) =
    elim (c s) as (λ b. c s ≡ b → filter_map f (if b then s ∷ filter c rest else filter c rest) ≡ cons_option (f s) (filter_map f rest)) [
      | true ↦ λ e. ap (λ (cs : List Change). cons_option (f s) cs) (without f c none rest)
      | false ↦ λ e. without f c none rest ∙ sym (ap (λ (o : Option Change). cons_option o (filter_map f rest)) (none s e))
    ] refl

no_change : (protects : ℕ → Bool) (vol : ℕ) (r : Record) → protects vol ≡ true → concerns protects r ≡ false → change_on vol r ≡ None
no_change protects vol (Commit t) guarded e = refl
no_change protects vol (Abort t) guarded e = refl
no_change protects vol (Image t v f k b a) guarded e =
    elim (cases_eq v vol) [
      | inl same ↦ absurd (differs (protects vol) guarded (ap protects (sym same) ∙ e))
      | inr other ↦ ap (λ (m : Bool). if m then Some (record { file = f; key = k; after = a }) else None) (ne_eqb v vol other)
    ]
  where
    differs : (b : Bool) → b ≡ true → b ≡ false → ⊥
    differs b t f = cc

none_between : (protects : ℕ → Bool) (vol p q : ℕ) → protects vol ≡ true → (s : Stamped) → concerns protects s.rec ≡ false → between vol p q s ≡ None
none_between protects vol p q guarded s e =
    ap (λ (o : Option Change). if nat_le p s.pos then (if nat_lt s.pos q then o else None) else None) (no_change protects vol s.rec guarded e)
    ∙ all_none (nat_le p s.pos) (nat_lt s.pos q)
  where
    all_none : (a b : Bool) → ◌≡◌ {A = Option Change} (if a then (if b then None else None) else None) None
    all_none true true = refl
    all_none true false = refl
    all_none false b = refl

at_positions : (vol p q a : ℕ) (rs : List Record) → filter_map (between vol p q) (stamped a rs) ≡ changes_on vol (drop (p - a) (take (q - a) rs))
at_positions vol p q a [] = sym (ap (changes_on vol) (none_there (p - a) (q - a)))
  where
    none_there : (m n : ℕ) → ◌≡◌ {A = List Record} (drop m (take n [])) []
    none_there zero zero = refl
    none_there zero (suc n) = refl
    none_there (suc m) zero = refl
    none_there (suc m) (suc n) = refl
at_positions vol p q a (r ∷ rest) =
    let ih = at_positions vol p q (suc a) rest in
    elim (nat_lt a q) as (λ b. nat_lt a q ≡ b → cons_option (if nat_le p a then (if b then change_on vol r else None) else None) (filter_map (between vol p q) (stamped (suc a) rest)) ≡ changes_on vol (drop (p - a) (take (q - a) (r ∷ rest)))) [
      | true ↦ λ e.
          let more : q - a ≡ suc (q - suc a) = omega (arith, is_lt a q e) in
          elim (nat_le p a) as (λ b. nat_le p a ≡ b → cons_option (if b then change_on vol r else None) (filter_map (between vol p q) (stamped (suc a) rest)) ≡ changes_on vol (drop (p - a) (take (q - a) (r ∷ rest)))) [
            | true ↦ λ h.
                let now : p - a ≡ 0 = omega (arith, is_le p a h) in
                let next : p - suc a ≡ 0 = omega (arith, is_le p a h) in
                ap (λ (cs : List Change). cons_option (change_on vol r) cs) (ih ∙ ap (λ (m : ℕ). changes_on vol (drop m (take (q - suc a) rest))) next)
                ∙ sym (ap₂ (λ (m n : ℕ). changes_on vol (drop m (take n (r ∷ rest)))) now more)
            | false ↦ λ h.
                let less : p - a ≡ suc (p - suc a) = omega (arith, not_le p a h) in
                ih ∙ sym (ap₂ (λ (m n : ℕ). changes_on vol (drop m (take n (r ∷ rest)))) less more)
          ] refl
      | false ↦ λ e.
          let over : q - suc a ≡ 0 = omega (arith, not_lt a q e) in
          let over_too : q - a ≡ 0 = omega (arith, not_lt a q e) in
          late (nat_le p a) ∙ ih
          ∙ ap (λ (n : ℕ). changes_on vol (drop (p - suc a) (take n rest))) over
          ∙ ap (changes_on vol) (drop-nil (p - suc a) ∙ sym (drop-nil (p - a)))
          ∙ sym (ap (λ (n : ℕ). changes_on vol (drop (p - a) (take n (r ∷ rest)))) over_too)
    ] refl
  where
    is_lt : (x y : ℕ) → nat_lt x y ≡ true → x < y
    is_lt x y h = grind (arith, nat_tests, h)

    not_lt : (x y : ℕ) → nat_lt x y ≡ false → y ≤ x
    not_lt x y h = grind (arith, nat_tests, h)

    is_le : (x y : ℕ) → nat_le x y ≡ true → x ≤ y
    is_le x y h = grind (arith, nat_tests, h)

    not_le : (x y : ℕ) → nat_le x y ≡ false → y < x
    not_le x y h = grind (arith, nat_tests, h)

    late : (b : Bool) → cons_option (if b then None else None) (filter_map (between vol p q) (stamped (suc a) rest)) ≡ filter_map (between vol p q) (stamped (suc a) rest)
    late true = refl
    late false = refl

-- the rest of a list, in two steps
none_there : (m n : ℕ) → ◌≡◌ {A = List Record} (drop m (take n [])) []
none_there zero zero = refl
none_there zero (suc n) = refl
none_there (suc m) zero = refl
none_there (suc m) (suc n) = refl

pieces : (m m2 n n2 : ℕ) (l : List Record) → m ≡ m2 → n ≡ n2 → drop m (take n l) ≡ drop m2 (take n2 l)
pieces m m2 n n2 l h k = ap₂ (λ (x y : ℕ). drop x (take y l)) h k

behind : (k p q : ℕ) (l : List Record) → k ≤ p → drop (p - k) (take (q - k) (drop k l)) ≡ drop p (take q l)
behind zero p q l le = pieces (p - zero) p (q - zero) q l (omega arith) (omega arith)
behind (suc k) p q [] le = none_there (p - suc k) (q - suc k) ∙ sym (none_there p q)
behind (suc k) zero q (r ∷ l) le = absurd (omega (arith, le))
behind (suc k) (suc p) zero (r ∷ l) le = pieces (suc p - suc k) (p - k) (zero - suc k) (zero - k) (drop k l) (omega arith) (omega arith) ∙ behind k p zero l (omega (arith, le)) ∙ drop-nil p
behind (suc k) (suc p) (suc q) (r ∷ l) le = pieces (suc p - suc k) (p - k) (suc q - suc k) (q - k) (drop k l) (omega arith) (omega arith) ∙ behind k p q l (omega (arith, le))

-- a part that begins no later has the same changes
pub changes_of_part : (protects : ℕ → Bool) (vol : ℕ) (trail : List Record) (start p q : ℕ) → protects vol ≡ true → start ≤ p → changes_on vol (records (before q (since p (part protects start trail)))) ≡ changes_on vol (drop p (take q trail))
changes_of_part protects vol trail start p q guarded le =
    spread vol p q (part protects start trail)
    ∙ without (between vol p q) (λ s. concerns protects s.rec) (none_between protects vol p q guarded) (stamped start (drop start trail))
    ∙ at_positions vol p q start (drop start trail)
    ∙ ap (changes_on vol) (behind start p q trail le)

-- ---- what they show

abbrev pub ImagesChange : Type 0
ImagesChange = (vol : ℕ) (files : Contents) (rows : Rows) (trail : List Record) → AreOn vol files rows → AreOn vol (raw files trail) (changed rows (changes_on vol trail))

abbrev pub FitsRedo : Type 0
FitsRedo = (vol : ℕ) (trail : List Record) (p q : ℕ) (files : Contents) → p ≤ q → q ≤ length trail → Fits vol trail p files → Fits vol trail q (raw files (drop p (take q trail)))

pub part_shows : ImagesChange → (protects : ℕ → Bool) (vol : ℕ) (trail : List Record) (start p q : ℕ) (rows : Rows) → protects vol ≡ true → start ≤ p → p ≤ q → AreOn vol (raw nothing (take p trail)) rows →
    AreOn vol (raw nothing (take q trail)) (applied vol (since p (part protects start trail)) q rows)
part_shows law protects vol trail start p q rows guarded begins from shows =
    let first : take p (take q trail) ≡ take p trail = take-take p q trail from in
    let parts : take q trail ≡ take p trail ++ drop p (take q trail) = sym (take-append-drop p (take q trail)) ∙ ap (λ (rs : List Record). rs ++ drop p (take q trail)) first in
    let folded : raw nothing (take q trail) ≡ raw (raw nothing (take p trail)) (drop p (take q trail)) = ap (raw nothing) parts ∙ fold-append after_record nothing (take p trail) (drop p (take q trail)) in
    subst (λ (cs : List Change). AreOn vol (raw nothing (take q trail)) (changed rows cs)) (sym (changes_of_part protects vol trail start p q guarded begins))
    (subst (λ (files : Contents). AreOn vol files (changed rows (changes_on vol (drop p (take q trail))))) (sym folded) (law vol (raw nothing (take p trail)) rows (drop p (take q trail)) shows))

-- at a place the images of other places do not count
raw_alike : (q : RecKey) (rs : List Record) (f g : Contents) → f q ≡ g q → raw f rs q ≡ raw g rs q
raw_alike q [] f g same = same
raw_alike q (Commit t ∷ rs) f g same = raw_alike q rs f g same
raw_alike q (Abort t ∷ rs) f g same = raw_alike q rs f g same
raw_alike q (Image t v n k b a ∷ rs) f g same =
    raw_alike q rs (after_record f (Image t v n k b a)) (after_record g (Image t v n k b a)) (ap (λ (o : Option (List ℕ)). if same_place q (place v n k) then a else o) same)

pub part_fits : ImagesChange → FitsRedo → (protects : ℕ → Bool) (vol : ℕ) (trail : List Record) (start p q : ℕ) (rows : Rows) → protects vol ≡ true → start ≤ p → p ≤ q → q ≤ length trail → Fits vol trail p (shown rows) →
    Fits vol trail q (shown (applied vol (since p (part protects start trail)) q rows))
part_fits law fits_redo protects vol trail start p q rows guarded begins from within fits =
    subst (λ (cs : List Change). Fits vol trail q (shown (changed rows cs))) (sym (changes_of_part protects vol trail start p q guarded begins))
    (λ k on. raw_alike k (drop q trail) (shown (changed rows (changes_on vol (drop p (take q trail))))) (raw (shown rows) (drop p (take q trail))) (law vol (shown rows) rows (drop p (take q trail)) (λ _ _. refl) k on)
    ∙ fits_redo vol trail p q (shown rows) from within fits k on)

-- ---- the images of one volume

same_change : (vol : ℕ) (r : Record) (b : Bool) → is_image_on vol r ≡ b → change_on vol r ≡ (if b then change_by r else None)
same_change vol (Commit t) true e = refl
same_change vol (Commit t) false e = refl
same_change vol (Abort t) true e = refl
same_change vol (Abort t) false e = refl
same_change vol (Image t v f k b a) m e = ap (λ (x : Bool). if x then Some (record { file = f; key = k; after = a }) else None) e

pub own_changes : (vol : ℕ) (entries : List Stamped) → changes_by (filter (λ s. is_image_on vol s.rec) entries) ≡ changes_on vol (records entries)
own_changes vol [] = refl
own_changes vol (s ∷ rest) =
    let ih = own_changes vol rest in
    elim (is_image_on vol s.rec) as (λ b. is_image_on vol s.rec ≡ b → changes_by (if b then s ∷ filter (λ x. is_image_on vol x.rec) rest else filter (λ x. is_image_on vol x.rec) rest) ≡ cons_option (change_on vol s.rec) (changes_on vol (records rest))) [
      | true ↦ λ e. ap (λ (cs : List Change). cons_option (change_by s.rec) cs) ih ∙ sym (ap (λ (o : Option Change). cons_option o (changes_on vol (records rest))) (same_change vol s.rec true e))
      | false ↦ λ e. ih ∙ sym (ap (λ (o : Option Change). cons_option o (changes_on vol (records rest))) (same_change vol s.rec false e))
    ] refl
