-- Elements of a list that are set apart by flags, and put back.
use Rattle.std.specs.Prelude.{◌≡◌, ℕ, suc, Bool, true, false, List, [], ◌∷◌, Option, Some, None, Ok}
use Rattle.rdf_backup.specs.FirstFaults.{Answer}

-- Those that are flagged went to the one list, each as the relation says of its place, and the others to the other list, in their order.
abbrev pub Parted : {X W : Type 0} → (ℕ → X → W → Type 0) → ℕ → List Bool → List X → List W → List X → Type 0
Parted R n [] [] [] [] = Unit {0}
Parted R n (true ∷ flags) (x ∷ xs) (w ∷ workers) others = R n x w × Parted R (suc n) flags xs workers others
Parted R n (false ∷ flags) (x ∷ xs) workers (y ∷ others) = (y ≡ x) × Parted R (suc n) flags xs workers others
Parted R n _ _ _ _ = ⊥

-- the two lists are as long as the flags say
abbrev pub Fits : {W X : Type 0} → List Bool → List W → List X → Type 0
Fits [] [] [] = Unit {0}
Fits (true ∷ flags) (w ∷ workers) others = Fits flags workers others
Fits (false ∷ flags) workers (y ∷ others) = Fits flags workers others
Fits _ _ _ = ⊥

-- each of the elements that are flagged
abbrev pub AllFlagged : {X : Type 0} → (X → Type 0) → List Bool → List X → Type 0
AllFlagged P (true ∷ flags) (x ∷ xs) = P x × AllFlagged P flags xs
AllFlagged P (false ∷ flags) (x ∷ xs) = AllFlagged P flags xs
AllFlagged P _ _ = Unit {0}

-- the elements of two lists in the places that the flags say
abbrev pub merged : {X : Type 0} → List Bool → List X → List X → List X
merged (true ∷ flags) (x ∷ xs) others = x ∷ merged flags xs others
merged (false ∷ flags) xs (y ∷ others) = y ∷ merged flags xs others
merged _ _ _ = []

-- the elements of a list in the places that are flagged, and one element in all others
abbrev pub spread : {X : Type 0} → X → List Bool → List X → List X
spread x (true ∷ flags) (y ∷ ys) = y ∷ spread x flags ys
spread x (false ∷ flags) ys = x ∷ spread x flags ys
spread x _ _ = []

-- what has come of the element at a place: of a flagged one as the relation says of its answer; another one is as it was
abbrev pub IfCome : {X : Type 0} → (ℕ → Answer → X → X → Type 0) → ℕ → Bool → Answer → Option X → Option X → Type 0
IfCome R n true answer (Some old) (Some new) = R n answer old new
IfCome R n false answer (Some old) (Some new) = (new ≡ old) × (answer ≡ Ok tt)
IfCome R n false answer None None = answer ≡ Ok tt
IfCome R n _ answer _ _ = ⊥
