-- One file after the other.
use Rattle.std.proofs.Common.{◌≡◌, inl, inr, ℕ, ◌+◌, ◌≤◌, length, List, None, refl, sym, ◌∙◌, subst, arith}
use Rattle.std.proofs.lemmas.Bool.{cases_eq, cases_lt}
use Rattle.folder_disk.specs.Names.{Name, Names}
use Rattle.memory_folder.specs.Fakes.{clean_name, name_at, none_past}
use Rattle.memory_folder.specs.Sweeps.{Swept, AreSwept, IsSweeping}
use Rattle.memory_folder.specs.declared.row.Row.{Row}
use Rattle.memory_folder.specs.declared.sweep.Sweep.{Sweep}
use Rattle.memory_folder.specs.declared.sweep.Sweep.TheVariants.{Enter, Rest, Lose}
use Rattle.memory_folder.specs.declared.losses.Loss.TheVariants.{Keep, Lose as AtOnce, Mix}

pub sweeping_start : (sweep : Sweep) (first : Names) → IsSweeping sweep first first 0
sweeping_start sweep first = record { done = λ m below. absurd (omega (arith, below)); still = λ m from. refl }

pub sweeping_step : (sweep : Sweep) (first now next : Names) (place : ℕ) → IsSweeping sweep first now place → AreSwept sweep place now next → IsSweeping sweep first next (place + 1)
sweeping_step sweep first now next place was did = record {
  done = λ m below. elim (cases_eq m place) [
    | inl same ↦ subst (λ (k : ℕ). Swept sweep (first k) (next k)) (sym same) (subst (λ (n : Name). Swept sweep n (next place)) (was.still place (omega arith)) did.this)
    | inr other ↦ subst (λ (n : Name). Swept sweep (first m) n) (sym (did.others m other)) (was.done m (omega (arith, below, other)))
  ];
  still = λ m from. did.others m (λ same. omega (arith, same, from)) ∙ was.still m (omega (arith, from));
}

clean_swept : (sweep : Sweep) → Swept sweep (clean_name None) (clean_name None)
clean_swept Enter = refl
clean_swept Rest = refl
clean_swept (Lose Keep) = record { left = refl; is = refl }
clean_swept (Lose AtOnce) = record { left = refl; is = refl }
clean_swept (Lose (Mix newest)) = record { left = refl; is = refl }

pub all_swept : (sweep : Sweep) (first : List Row) (now : Names) (place : ℕ) → length first ≤ place → IsSweeping sweep (name_at first) now place → (m : ℕ) → Swept sweep (name_at first m) (now m)
all_swept sweep first now place past was m = elim (cases_lt m place) [
  | inl below ↦ was.done m below
  | inr above ↦
      let is : name_at first m ≡ clean_name None = none_past first m (omega (arith, past, above)) in
      subst (λ (n : Name). Swept sweep (name_at first m) n) (sym (was.still m above)) (subst (λ (n : Name). Swept sweep n n) (sym is) (clean_swept sweep))
]
