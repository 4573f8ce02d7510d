use Rattle.std.proofs.Common.{ℕ, zero, suc, ◌≡◌, ◌+◌, ◌-◌, ◌≤◌, List, [], ◌∷◌, length, deque_len, map, get_or, refl, sym, ◌∙◌, ap, arith}
use Rattle.image_disks.specs.Values.{last_of}
use Rattle.image_trails.specs.declared.memory.Generation.{Generation}
use Rattle.image_trails.proofs.memory.Memory.last_start.Goals as goal

last_is : (l : List Generation) (n : ℕ) (d : Generation) → n + 1 ≡ length l → last_of (map (λ (g : Generation). g.start) l) ≡ (get_or l n d).start
last_is [] n d h = absurd (omega (arith, h))
last_is (g ∷ []) zero d h = refl
last_is (g ∷ []) (suc n) d h = absurd (omega (arith, h))
last_is (g ∷ k ∷ l) zero d h = absurd (omega (arith, h))
last_is (g ∷ k ∷ l) (suc n) d h = last_is (k ∷ l) n d (omega (arith, h))

none_last : (l : List Generation) → length l ≤ 0 → last_of (map (λ (g : Generation). g.start) l) ≡ 0
none_last [] h = refl
none_last (g ∷ l) h = absurd (omega (arith, h))

pub returns-in-Some : goal.returns-in-Some
returns-in-Some c =
    let v = c.args.self.now.generations in
    let item = c.in-Some.ensures.item in
    ap (λ (g : Generation). g.start) item.1
    ∙ sym (last_is v.items (deque_len v - 1) c.in-Some.generation.now (omega (arith, item.3.0, v.ok.0)))

pub returns-in-None : goal.returns-in-None
returns-in-None c = sym (none_last c.args.self.now.generations.items c.in-None.ensures.item.3)
