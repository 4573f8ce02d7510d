-- Trails that are cut off at a length.
use Rattle.std.proofs.Common.{◌≡◌, ◌≤◌, ◌<◌, ℕ, zero, suc, ◌+◌, ◌-◌, length-drop, get_or, drop, drop-cons, OnErr, min, nat_le, true, false, List, [], ◌∷◌, ◌++◌, take, length, fold, Option, Some, None, Result, Ok, Err, OnOk, is_err, refl, sym, ap, ◌∙◌, subst, arith, append-nil, append_assoc}
use Rattle.std.proofs.lemmas.Bool.Decides.{nat_tests}
use Rattle.std.proofs.lemmas.List.{take-append-le, length-take, length-take-le, drop_all}
use Rattle.std.specs.FinMap as map
use Rattle.rdf_types.specs.declared.records.RecKey.{RecKey}
use Rattle.rdf_types.specs.declared.records.Record.{Record}
use Rattle.rdf_types.specs.declared.records.Record.TheVariants.{Abort}
use Rattle.rdf_model.specs.Lines.{put_back}
use Rattle.active_txns.specs.Founds.{Founds, found_at}
use Rattle.primary_machine.specs.Backouts.{cut_at, Fits, backed_out}
use Rattle.rdf_model.specs.EndLaws.{put_back_more}

-- it adds records at the end alone
abbrev pub Grows : (List Record → List Record) → Type 0
Grows f = (trail : List Record) → (more : List Record) × (f trail ≡ trail ++ more)

pub take_all : (n : ℕ) (xs : List Record) → length xs ≤ n → take n xs ≡ xs
take_all zero [] h = refl
take_all (suc n) [] h = refl
take_all zero (x ∷ xs) h = absurd (omega (arith, h))
take_all (suc n) (x ∷ xs) h = ap (λ (l : List Record). x ∷ l) (take_all n xs (omega (arith, h)))

pub cut_fits : (most : Option ℕ) (trail : List Record) → Fits most trail → cut_at most trail ≡ trail
cut_fits None trail h = refl
cut_fits (Some n) trail h = take_all n trail h

min_left : (a b : ℕ) → min a b ≤ a
min_left a b = grind arith

pub fits_cut : (most : Option ℕ) (trail : List Record) → Fits most (cut_at most trail)
fits_cut None trail = tt
fits_cut (Some n) trail = subst (λ m. m ≤ n) (sym (length-take n trail)) (min_left n (length trail))

-- what is cut off is not missed by what grows it
pub cut_grows : (most : Option ℕ) (f : List Record → List Record) → Grows f → (trail : List Record) → cut_at most (f (cut_at most trail)) ≡ cut_at most (f trail)
cut_grows None f g trail = refl
cut_grows (Some n) f g trail = elim (nat_le (length trail) n) as (λ m. nat_le (length trail) n ≡ m → take n (f (take n trail)) ≡ take n (f trail)) [
  | true ↦ λ e. ap (λ l. take n (f l)) (take_all n trail (below n (length trail) e))
  | false ↦ λ e.
      let over : n ≤ length trail = above n (length trail) e in
      let whole : length (take n trail) ≡ n = length-take-le n trail over in
      ap (take n) (g (take n trail)).1 ∙ take-append-le n (take n trail) (g (take n trail)).0 (at_most n (length (take n trail)) whole) ∙ take_all n (take n trail) (at_least n (length (take n trail)) whole)
      ∙ sym (ap (take n) (g trail).1 ∙ take-append-le n trail (g trail).0 over)
] refl
  where
    below : (n m : ℕ) → nat_le m n ≡ true → m ≤ n
    below n m e = grind (arith, nat_tests)

    above : (n m : ℕ) → nat_le m n ≡ false → n ≤ m
    above n m e = grind (arith, nat_tests)

    at_most : (n m : ℕ) → m ≡ n → n ≤ m
    at_most n m e = omega (arith, e)

    at_least : (n m : ℕ) → m ≡ n → m ≤ n
    at_least n m e = omega (arith, e)

pub put_back_grows : (t : ℕ) (es : List (RecKey × Option (List ℕ))) → Grows (λ trail. put_back t trail es)
put_back_grows t es trail = let p = put_back_more t trail es in (p.0, p.1)

pub push_grows : (r : Record) → Grows (λ trail. trail ++ r ∷ [])
push_grows r trail = (r ∷ [], refl)

pub backed_out_grows : (founds : Founds) (t : ℕ) → Grows (λ trail. backed_out founds trail t)
backed_out_grows founds t trail = let p = put_back_grows t (map.entries (found_at founds t)) trail in (p.0 ++ Abort t ∷ [], ap (λ (l : List Record). l ++ Abort t ∷ []) p.1 ∙ append_assoc trail p.0 (Abort t ∷ []))

pub fold_grows : (f : List Record → ℕ → List Record) → ((t : ℕ) → Grows (λ trail. f trail t)) → (ts : List ℕ) → Grows (λ trail. fold f trail ts)
fold_grows f g [] trail = ([], sym (append-nil trail))
fold_grows f g (t ∷ ts) trail =
    let p = g t trail in
    let q = fold_grows f g ts (f trail t) in
    (p.0 ++ q.0, q.1 ∙ ap (λ (l : List Record). l ++ q.0) p.1 ∙ append_assoc trail p.0 q.0)

-- the abort after what was set back
pub pushed : {E : Type 0} (r : Result Unit E) (most : Option ℕ) (whole mid new : List Record) (t : ℕ) → mid ≡ cut_at most whole → OnOk r (Fits most mid → new ≡ cut_at most (mid ++ Abort t ∷ [])) → OnOk r (new ≡ cut_at most (whole ++ Abort t ∷ []))
pushed (Err e) most whole mid new t is ok = tt
pushed (Ok u) most whole mid new t is ok =
    ok (subst (Fits most) (sym is) (fits_cut most whole)) ∙ ap (λ (l : List Record). cut_at most (l ++ Abort t ∷ [])) is ∙ cut_grows most (λ l. l ++ Abort t ∷ []) (push_grows (Abort t)) whole

-- one step of many
pub cut_step : (most : Option ℕ) (f : List Record → List Record) (trail new whole all : List Record) → Grows f → new ≡ cut_at most whole → cut_at most (f whole) ≡ all → cut_at most (f new) ≡ all
cut_step most f trail new whole all g is rest = ap (λ (l : List Record). cut_at most (f l)) is ∙ cut_grows most f g whole ∙ rest

pub ok_holds : {T E : Type 0} (P : Type 0) (r : Result T E) → is_err r ≡ false → OnOk r P → P
ok_holds P (Ok v) e p = p
ok_holds P (Err x) e p = cc

-- the abort of a transaction that found nothing
pub pushed_alone : {E : Type 0} (r : Result Unit E) (most : Option ℕ) (trail new : List Record) (founds : Founds) (t : ℕ) → map.entries (found_at founds t) ≡ [] → Fits most trail → OnOk r (Fits most trail → new ≡ cut_at most (trail ++ Abort t ∷ [])) →
    OnOk r (new ≡ cut_at most (backed_out founds trail t))
pushed_alone (Err e) most trail new founds t none h ok = tt
pushed_alone (Ok u) most trail new founds t none h ok = ok h ∙ sym (ap (λ es. cut_at most (put_back t trail es ++ Abort t ∷ [])) none)

-- the next of the transactions, and those behind it
pub next_txn : (ts : List ℕ) (i t : ℕ) → i < length ts → t ≡ get_or ts i t → drop i ts ≡ t ∷ drop (i + 1) ts
next_txn ts i t l is = drop-cons ts i t l ∙ ap (λ n. n ∷ drop (suc i) ts) (sym is) ∙ ap (λ n. t ∷ drop n ts) (one_more i)
  where
    one_more : (i : ℕ) → suc i ≡ i + 1
    one_more i = omega arith

pub last_txns : (ts : List ℕ) (i : ℕ) → length ts ≤ i → drop i ts ≡ []
last_txns ts i l = drop_all i ts l

pub err_holds : {T E : Type 0} (P : Type 0) (r : Result T E) → true ≡ is_err r → OnErr r P → P
err_holds P (Ok v) e p = cc
err_holds P (Err x) e p = p

pub take_rest : (n : ℕ) (xs : List Record) → take (length xs - n) (drop n xs) ≡ drop n xs
take_rest n xs = take_all (length xs - n) (drop n xs) (subst (λ m. m ≤ length xs - n) (sym (length-drop n xs)) (itself (length xs - n)))
  where
    itself : (m : ℕ) → m ≤ m
    itself m = omega arith
