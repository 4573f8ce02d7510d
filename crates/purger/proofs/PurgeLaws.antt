-- Dropping first generations one after the other.
use Rattle.std.proofs.Common.{◌≡◌, refl, ◌∙◌, inl, inr, ℕ, suc, ◌+◌, ◌-◌, ◌^◌, min, true, false, List, [], ◌∷◌, ap, subst, arith, nat_lt, if◌then◌else◌, None}
use Rattle.std.proofs.lemmas.Bool.{false≢true}
use Rattle.image_disks.specs.StandingLaws.{stands_alike}
use Rattle.rdf_types.specs.declared.records.Record.{Record}
use Rattle.rdf_disk.specs.Files.{Contents}
use Rattle.image_disks.specs.Blocks.{Block, Plan}
use Rattle.image_disks.specs.Values.{Value, Alike, rest_of, second_of, dropped}
use Rattle.image_disks.specs.Standing.{StandsEither}
use Rattle.image_trails.specs.Keeps.{StandsHolding}
use Rattle.purger.specs.Purging.{first_may_go, gone, without, StandsWithout}
use Rattle.image_disks.specs.ValueLaws.{alike_trans}

-- values that are alike are so without their first generation
pub dropped_alike : (v w : Value) → Alike v w → Alike (dropped v) (dropped w)
dropped_alike v w a = record {
  starts = ap rest_of a.starts;
  last = a.last;
  phase = a.phase;
  top = a.top;
  entry = λ t i few. ap (λ starts. if nat_lt i (second_of starts) then None else v.entry t i) a.starts ∙ ap (λ e. if nat_lt i (second_of w.starts) then None else e) (a.entry t i few);
}

-- where the first may go, one more goes than without it
pub one_more : (retain floor : ℕ) (starts : List ℕ) → first_may_go retain floor starts ≡ true → gone retain floor starts ≡ suc (gone retain floor (rest_of starts))
one_more retain floor [] e = absurd (false≢true e)
one_more retain floor (s ∷ rest) e = ap (λ b. if b then suc (gone retain floor rest) else 0) e

-- so many first generations of the first value are gone, and the rest of those that go is yet to go
pub record HaveGone (retain floor n went : ℕ) (first now : Value) : Type 0 where
  pub count : went ≡ min n (2 ^ 32 - 1)
  pub left : gone retain floor first.starts ≡ n + gone retain floor now.starts
  pub alike : Alike now (without n first)

pub one_gone : (retain floor n went more : ℕ) (first now next : Value) → first_may_go retain floor now.starts ≡ true → HaveGone retain floor n went first now → Alike next (dropped now) → more ≡ min (went + 1) (2 ^ 32 - 1)
    → HaveGone retain floor (n + 1) more first next
one_gone retain floor n went more first now next e h a m = let one : suc n ≡ n + 1 = omega arith in subst (λ (k : ℕ). HaveGone retain floor k more first next) one (record {
  count = omega (arith, m, h.count);
  left = omega (arith, h.left, one_more retain floor now.starts e, ap (gone retain floor) a.starts);
  alike = alike_trans next (dropped now) (dropped (without n first)) a (dropped_alike now (without n first) h.alike);
})

-- where the first may not go, all that go are gone
none_more : (retain floor : ℕ) (starts : List ℕ) → first_may_go retain floor starts ≡ false → gone retain floor starts ≡ 0
none_more retain floor [] e = refl
none_more retain floor (s ∷ rest) e = ap (λ b. if b then suc (gone retain floor rest) else 0) e

pub all_gone : (retain floor n went : ℕ) (first now : Value) → first_may_go retain floor now.starts ≡ false → HaveGone retain floor n went first now → Alike now (without (gone retain floor first.starts) first) × (went ≡ min (gone retain floor first.starts) (2 ^ 32 - 1))
all_gone retain floor n went first now e h =
    let all : n ≡ gone retain floor first.starts = omega (arith, h.left, none_more retain floor now.starts e) in
    (subst (λ (k : ℕ). Alike now (without k first)) all h.alike, omega (arith, h.count, all))

-- with the first generation or without it: in both cases some first ones of those that go are gone
pub either_gone : (block_of : List ℕ → Block) (plan : Plan) (retain floor n went : ℕ) (first now : Value) (c : Contents) → first_may_go retain floor now.starts ≡ true → HaveGone retain floor n went first now
    → StandsEither block_of plan now (dropped now) c → StandsWithout block_of plan (gone retain floor first.starts) first c
either_gone block_of plan retain floor n went first now c e h (inl s) = (n, omega (arith, h.left), stands_alike block_of plan now (without n first) c h.alike s)
either_gone block_of plan retain floor n went first now c e h (inr s) = (suc n, omega (arith, h.left, one_more retain floor now.starts e), stands_alike block_of plan (dropped now) (without (suc n) first) c (dropped_alike now (without n first) h.alike) s)

-- what holds more holds this too
pub holding_more : (block_of : List ℕ → Block) (plan : Plan) (H K : List Record → Type 0) (c : Contents) → ((trail : List Record) → H trail → K trail) → StandsHolding block_of plan K c → StandsHolding block_of plan H c
holding_more block_of plan H K c so (w, stands, held) = (w, stands, λ trail h. held trail (so trail h))
