-- Counts of disks after one line more.
use Rattle.std.proofs.Common.{◌≡◌, inl, inr, ℕ, zero, suc, ◌+◌, ◌-◌, ◌<◌, ◌≤◌, min, List, [], ◌∷◌, ◌++◌, length, refl, sym, ap, ◌∙◌, subst, add-zero, zero-add, if◌then◌else◌, arith}
use Rattle.std.proofs.lemmas.Bool.{cases_eq}
use Rattle.rdf_types.specs.Counts.{most, Rose}
use Rattle.rdf_types.specs.declared.records.Node.{Node}
use Rattle.rdf_disk.specs.Counts.{Counts}
use Rattle.plan_lang.specs.declared.lines.Line.{Line}
use Rattle.rdf_core.specs.declared.replies.Reply.{Reply}
use Rattle.rdf_run.specs.Rising.{counted_up, gives_fuse, fuses_given, RoseBy, CountsRose, sum_below}

two_caps : (n x y z m : ℕ) → z ≡ x + y → min (min (n + x) m + y) m ≡ min (n + z) m
two_caps n x y z m e = omega arith

pub one_some : 0 < 1
one_some = omega arith

-- counting up twice
pub counted_up-more : (n a b : ℕ) → counted_up (counted_up n a) b ≡ counted_up n (a + b)
counted_up-more n zero b = ap (counted_up n) (sym (zero-add b))
counted_up-more n (suc a) zero = ap (counted_up n) (sym (add-zero (suc a)))
counted_up-more n (suc a) (suc b) =
    let e : suc (a + suc b) ≡ suc a + suc b = omega arith in
    two_caps n (suc a) (suc b) (suc (a + suc b)) most e ∙ ap (counted_up n) e

add_one_more : (a b c : ℕ) → a + (b + c) ≡ (a + b) + c
add_one_more a b c = omega arith

-- the fuses of one line more
pub fuses_given-snoc : (node : Node) (i : ℕ) (lines : List Line) (replies : List Reply) (l : Line) (reply : Reply) → length replies ≡ length lines →
    fuses_given node i (lines ++ l ∷ []) (replies ++ reply ∷ []) ≡ fuses_given node i lines replies + (if gives_fuse node i l reply then 1 else 0)
fuses_given-snoc node i [] [] l reply e = swapped (if gives_fuse node i l reply then 1 else 0)
  where
    swapped : (n : ℕ) → n + 0 ≡ 0 + n
    swapped n = omega arith
fuses_given-snoc node i [] (r ∷ replies) l reply e = absurd (omega (arith, e))
fuses_given-snoc node i (k ∷ lines) [] l reply e = absurd (omega (arith, e))
fuses_given-snoc node i (k ∷ lines) (r ∷ replies) l reply e =
    let n : ℕ = if gives_fuse node i k r then 1 else 0 in
    let shorter : length replies ≡ length lines = omega (arith, e) in
    ap (λ m. n + m) (fuses_given-snoc node i lines replies l reply shorter) ∙ add_one_more n (fuses_given node i lines replies) (if gives_fuse node i l reply then 1 else 0)

pub rose_none : (old new : ℕ) → new ≡ old → RoseBy 0 old new
rose_none old new e = record { no_less = omega (arith, e); by = λ lt. omega (arith, e) }

pub rose_then : (a b x y z : ℕ) → RoseBy a x y → RoseBy b y z → RoseBy (a + b) x z
rose_then a b x y z p q = record { no_less = omega (arith, p.no_less, q.no_less); by = λ lt. rose_sum a b x y z (q.by lt) (p.by (omega (arith, q.no_less, lt))) }
  where
    rose_sum : (a b x y z : ℕ) → z ≡ y + b → y ≡ x + a → z ≡ x + (a + b)
    rose_sum a b x y z e f = omega arith

-- by how much a count rose that rose: at least by one
abbrev pub rise_of : ℕ → ℕ → ℕ
rise_of old new = (new - (old + 1)) + 1

pub rose_some : (old new : ℕ) → old ≤ new → Rose old new → RoseBy (rise_of old new) old new
rose_some old new le rose = record { no_less = le; by = λ lt. gap old new (rose (below old new most le lt)) }
  where
    below : (a b m : ℕ) → a ≤ b → b < m → a < m
    below a b m p q = omega arith

    gap : (a b : ℕ) → a < b → b ≡ a + ((b - (a + 1)) + 1)
    gap a b lt = omega arith

pub counts_then : (f s g t : ℕ) (a b c : Counts) → CountsRose f s a b → CountsRose g t b c → CountsRose (f + g) (s + t) a c
counts_then f s g t a b c p q = record {
  fuses_are = q.fuses_are ∙ ap (λ n. counted_up n g) p.fuses_are ∙ counted_up-more a.fuses f g;
  stops_are = rose_then s t a.stops b.stops c.stops p.stops_are q.stops_are;
}

add_both : (a b c e : ℕ) → (a + b) + (c + e) ≡ (a + c) + (b + e)
add_both a b c e = omega arith

-- numbers of disks, added disk by disk
pub sum_below-add : (n : ℕ) (f g : ℕ → ℕ) → sum_below n (λ i. f i + g i) ≡ sum_below n f + sum_below n g
sum_below-add zero f g = omega arith
sum_below-add (suc n) f g = ap (λ m. m + (f n + g n)) (sum_below-add n f g) ∙ add_both (sum_below n f) (sum_below n g) (f n) (g n)

pub sum_below-none : (n : ℕ) → sum_below n (λ i. 0) ≡ 0
sum_below-none zero = refl
sum_below-none (suc n) = omega (arith, sum_below-none n)

-- none at each disk
pub sum_below-zero : (n : ℕ) (f : ℕ → ℕ) → ((i : ℕ) → f i ≡ 0) → sum_below n f ≡ 0
sum_below-zero zero f none = refl
sum_below-zero (suc n) f none = omega (arith, sum_below-zero n f none, none n)

-- some at one disk
pub sum_below-some : (n disk : ℕ) (f : ℕ → ℕ) → disk < n → 0 < f disk → 0 < sum_below n f
sum_below-some zero disk f few some = absurd (omega arith)
sum_below-some (suc n) disk f few some =
    elim (cases_eq disk n) [
      | inl e ↦
          let here : 0 < f n = subst (λ m. 0 < f m) e some in
          omega (arith, here)
      | inr ne ↦
          let below : disk < n = omega (arith, ne) in
          omega (arith, sum_below-some n disk f below some)
    ]
