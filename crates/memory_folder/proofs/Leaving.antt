-- Which losses of power are outcomes.
use Rattle.std.proofs.Common.{◌≡◌, ◌≢◌, ◌⊎◌, ⊎_elim, ℕ, ◌+◌, ◌-◌, ◌<◌, ◌≤◌, not, Bool, true, false, List, [], ◌∷◌, length, get_or, reverse, zero, suc, Option, Some, None, refl, sym, ◌∙◌, ap, subst, arith}
use Rattle.std.proofs.lemmas.List.{reverse-reverse, get_or-reverse, length-reverse}
use Rattle.rdf_disk.specs.Files.{FileState, bytes_of}
use Rattle.rdf_disk.specs.Outcomes.{IsOutside, furthest, IsRewritten, OutcomeOf, IsOutcome}
use Rattle.folder_disk.specs.Names.{Name, IsLeft, LeftIf, is_whole}
use Rattle.memory_folder.specs.Rows.{content, file_by, seen_by}
use Rattle.memory_folder.specs.Fakes.{name_of, file_of, name_at, none_past, Leaves}
use Rattle.memory_folder.specs.declared.row.Row.{Row}
use Rattle.memory_folder.proofs.Outcomes.{safe_outcome}

pub equal_left : (ws : List (ℕ × ℕ)) (removed : Bool) (safe x : Option (List ℕ)) → x ≡ safe → OutcomeOf (reverse ws) removed safe x
equal_left ws removed safe x same = subst (λ (y : Option (List ℕ)). OutcomeOf (reverse ws) removed safe y) (sym same) (safe_outcome (reverse ws) removed safe)

removed_of : (rs : List (ℕ × ℕ)) (safe : Option (List ℕ)) → OutcomeOf rs true safe None
removed_of [] safe = tt
removed_of (r ∷ rs) safe = λ e. cc

pub removed_left : (ws : List (ℕ × ℕ)) (removed there : Bool) (safe : Option (List ℕ)) (bytes : List ℕ) → there ≡ false → removed ≡ true → OutcomeOf (reverse ws) removed safe (content there bytes)
removed_left ws true false safe bytes gone is = removed_of (reverse ws) safe
removed_left ws false there safe bytes gone is = cc
removed_left ws true true safe bytes gone is = cc

rewritten_of : (rs : List (ℕ × ℕ)) (removed : Bool) (safe : Option (List ℕ)) (bytes : List ℕ) → rs ≢ [] → IsRewritten rs removed (bytes_of safe) bytes → OutcomeOf rs removed safe (Some bytes)
rewritten_of [] removed safe bytes some is = absurd (some refl)
rewritten_of (w ∷ ws) removed safe bytes some is = is

not_empty : (ws : List (ℕ × ℕ)) → ws ≢ [] → reverse ws ≢ []
not_empty ws some none = some (sym (reverse-reverse ws) ∙ ap (λ (l : List (ℕ × ℕ)). reverse l) none)

pub rewritten_left : (ws : List (ℕ × ℕ)) (removed was : Bool) (safe bytes : List ℕ) (there : Bool) → there ≡ true → ws ≢ [] → IsRewritten (reverse ws) removed (bytes_of (content was safe)) bytes → OutcomeOf (reverse ws) removed (content was safe) (content there bytes)
rewritten_left ws removed was safe bytes true is some done = rewritten_of (reverse ws) removed (content was safe) bytes (not_empty ws some) done
rewritten_left ws removed was safe bytes false is some done = cc

-- a write among others
place_of : (ws : List (ℕ × ℕ)) (k : ℕ) → k < length ws → get_or (reverse ws) (length ws - 1 - k) (0, 0) ≡ get_or ws k (0, 0)
place_of ws k below =
    let back : length ws - 1 - (length ws - 1 - k) ≡ k = omega (arith, below) in
    get_or-reverse ws (length ws - 1 - k) (0, 0) (omega (arith, below)) ∙ ap (λ (j : ℕ). get_or ws j (0, 0)) back

outside_at : (ws : List (ℕ × ℕ)) (p j : ℕ) → j < length ws → IsOutside ws p → (p < (get_or ws j (0, 0)).0) ⊎ ((get_or ws j (0, 0)).0 + (get_or ws j (0, 0)).1 ≤ p)
outside_at [] p j below out = absurd (omega (arith, below))
outside_at (w ∷ ws) p zero below out = out.0
outside_at (w ∷ ws) p (suc j) below out = outside_at ws p j (omega (arith, below)) out.1

reach_at : (ws : List (ℕ × ℕ)) (j : ℕ) → j < length ws → (get_or ws j (0, 0)).0 + (get_or ws j (0, 0)).1 ≤ furthest ws
reach_at [] j below = absurd (omega (arith, below))
reach_at (w ∷ ws) zero below = omega arith
reach_at (w ∷ ws) (suc j) below = let more = reach_at ws j (omega (arith, below)) in omega (arith, more)

pub covered : (ws : List (ℕ × ℕ)) (p k : ℕ) → k < length ws → (get_or ws k (0, 0)).0 ≤ p → p - (get_or ws k (0, 0)).0 < (get_or ws k (0, 0)).1 → IsOutside (reverse ws) p → ⊥
covered ws p k below from within out =
    let at : ℕ = length ws - 1 - k in
    let here : (p < (get_or ws k (0, 0)).0) ⊎ ((get_or ws k (0, 0)).0 + (get_or ws k (0, 0)).1 ≤ p) =
    subst (λ (w : ℕ × ℕ). (p < w.0) ⊎ (w.0 + w.1 ≤ p)) (place_of ws k below) (outside_at (reverse ws) p at (omega (arith, below, length-reverse ws)) out) in
    ⊎_elim (λ (before : p < (get_or ws k (0, 0)).0). omega (arith, before, from)) (λ (behind : (get_or ws k (0, 0)).0 + (get_or ws k (0, 0)).1 ≤ p). omega (arith, behind, from, within)) here

pub reached : (ws : List (ℕ × ℕ)) (len k : ℕ) → k < length ws → len ≤ (get_or ws k (0, 0)).0 + (get_or ws k (0, 0)).1 → len ≤ furthest (reverse ws)
reached ws len k below long =
    let far : (get_or ws k (0, 0)).0 + (get_or ws k (0, 0)).1 ≤ furthest (reverse ws) =
    subst (λ (w : ℕ × ℕ). w.0 + w.1 ≤ furthest (reverse ws)) (place_of ws k below) (reach_at (reverse ws) (length ws - 1 - k) (omega (arith, below, length-reverse ws))) in
    omega (arith, long, far)

-- what is left by whether anything waits for a sync
pub left_seen : (b : Bool) (f : FileState) (x : Option (List ℕ)) → IsOutcome f f.seen → x ≡ f.seen → LeftIf b f x
left_seen true f x sound is = is
left_seen false f x sound is = subst (λ (y : Option (List ℕ)). IsOutcome f y) (sym is) sound

pub left_outcome : (b : Bool) (f : FileState) (x : Option (List ℕ)) → b ≡ false → IsOutcome f x → LeftIf b f x
left_outcome true f x pending is = cc
left_outcome false f x pending is = is

-- a row that is left as a read gives it
pub kept_left : (r : Row) (x : Option (List ℕ)) → x ≡ content r.is_there r.bytes.items → IsLeft (name_of r) x
kept_left r x is = left_seen (is_whole (name_of r)) (file_of r) x r.sound (is ∙ sym (seen_by r.is_there r.bytes.items r.is_rested r.was_there r.safe.items (reverse r.writes.items) r.removed))

outcome_by : (there : Bool) (bytes : List ℕ) (rested was : Bool) (safe : List ℕ) (writes : List (ℕ × ℕ)) (removed : Bool) (x : Option (List ℕ)) → rested ≡ false → OutcomeOf writes removed (content was safe) x → IsOutcome (file_by there bytes rested was safe writes removed) x
outcome_by there bytes true was safe writes removed x on is = cc
outcome_by there bytes false was safe writes removed x on is = is

-- a row of which something waits for a sync
pub pending_left : (r : Row) (x : Option (List ℕ)) → r.is_rested ≡ false → is_whole (name_of r) ≡ false → OutcomeOf (reverse r.writes.items) r.removed (content r.was_there r.safe.items) x → IsLeft (name_of r) x
pending_left r x on pending is = left_outcome (is_whole (name_of r)) (file_of r) x pending (outcome_by r.is_there r.bytes.items r.is_rested r.was_there r.safe.items (reverse r.writes.items) r.removed x on is)

-- and what is refused is none
pub kept_safe_only : (ws : List (ℕ × ℕ)) (removed there : Bool) (safe : Option (List ℕ)) (bytes : List ℕ) → (content there bytes ≡ safe → ⊥) → there ≡ false → removed ≡ false → OutcomeOf (reverse ws) removed safe (content there bytes) → ⊥
kept_safe_only ws removed true safe bytes other gone kept is = cc
kept_safe_only ws true false safe bytes other gone kept is = cc
kept_safe_only ws false false safe bytes other gone kept is = other (none_of (reverse ws) is)
  where
    none_of : (rs : List (ℕ × ℕ)) → OutcomeOf rs false safe None → None ≡ safe
    none_of [] is = is
    none_of (r ∷ rs) is = sym (is refl)

pub unwritten_only : (ws : List (ℕ × ℕ)) (removed there : Bool) (safe : Option (List ℕ)) (bytes : List ℕ) → (content there bytes ≡ safe → ⊥) → there ≡ true → length ws ≡ 0 → OutcomeOf (reverse ws) removed safe (content there bytes) → ⊥
unwritten_only (w ∷ ws) removed there safe bytes other is none got = absurd (omega (arith, none))
unwritten_only [] removed false safe bytes other is none got = cc
unwritten_only [] false true safe bytes other is none got = other got
unwritten_only [] true true safe bytes other is none got = other (sym got)

pub rewritten_only : (ws : List (ℕ × ℕ)) (removed was : Bool) (safe bytes : List ℕ) (there : Bool) → there ≡ true → ws ≢ [] → (IsRewritten (reverse ws) removed (bytes_of (content was safe)) bytes → ⊥) → OutcomeOf (reverse ws) removed (content was safe) (content there bytes) → ⊥
rewritten_only ws removed was safe bytes false is some not got = cc
rewritten_only ws removed was safe bytes true is some not got = not (rewritten_by (reverse ws) (not_empty ws some) got)
  where
    rewritten_by : (rs : List (ℕ × ℕ)) → rs ≢ [] → OutcomeOf rs removed (content was safe) (Some bytes) → IsRewritten rs removed (bytes_of (content was safe)) bytes
    rewritten_by [] some is = absurd (some refl)
    rewritten_by (r ∷ rs) some is = is

-- each write of a list, from its other end
each_reversed : (ws : List (ℕ × ℕ)) (P : ℕ × ℕ → Type 0) → ((j : ℕ) → j < length ws → P (get_or ws j (0, 0))) → (j : ℕ) → j < length (reverse ws) → P (get_or (reverse ws) j (0, 0))
each_reversed ws P all j below =
    let within : j < length ws = omega (arith, below, length-reverse ws) in
    subst P (sym (get_or-reverse ws j (0, 0) within)) (all (length ws - 1 - j) (omega (arith, within)))

all_outside : (rs : List (ℕ × ℕ)) (p : ℕ) → ((j : ℕ) → j < length rs → (p < (get_or rs j (0, 0)).0) ⊎ ((get_or rs j (0, 0)).0 + (get_or rs j (0, 0)).1 ≤ p)) → IsOutside rs p
all_outside [] p all = tt
all_outside (r ∷ rs) p all = (all 0 (omega arith), all_outside rs p (λ j below. all (suc j) (omega (arith, below))))

all_below : (rs : List (ℕ × ℕ)) (len : ℕ) → 0 < len → ((j : ℕ) → j < length rs → (get_or rs j (0, 0)).0 + (get_or rs j (0, 0)).1 < len) → furthest rs < len
all_below [] len some all = some
all_below (r ∷ rs) len some all =
    let first : r.0 + r.1 < len = all 0 (omega arith) in
    let rest : furthest rs < len = all_below rs len some (λ j below. all (suc j) (omega (arith, below))) in
    omega (arith, first, rest)

pub none_covers : (ws : List (ℕ × ℕ)) (p k : ℕ) → length ws ≤ k → ((j : ℕ) → j < k → (p < (get_or ws j (0, 0)).0) ⊎ ((get_or ws j (0, 0)).0 + (get_or ws j (0, 0)).1 ≤ p)) → IsOutside (reverse ws) p
none_covers ws p k past all = all_outside (reverse ws) p (each_reversed ws (λ w. (p < w.0) ⊎ (w.0 + w.1 ≤ p)) (λ j below. all j (omega (arith, below, past))))

pub none_reaches : (ws : List (ℕ × ℕ)) (len k : ℕ) → 0 < len → length ws ≤ k → ((j : ℕ) → j < k → (get_or ws j (0, 0)).0 + (get_or ws j (0, 0)).1 < len) → furthest (reverse ws) < len
none_reaches ws len k some past all = all_below (reverse ws) len some (each_reversed ws (λ w. w.0 + w.1 < len) (λ j below. all j (omega (arith, below, past))))

-- what is left of a file is one of these alone
pub kept_only : (r : Row) (x : Option (List ℕ)) → is_whole (name_of r) ≡ true → IsLeft (name_of r) x → x ≡ content r.is_there r.bytes.items
kept_only r x whole left = seen_only (is_whole (name_of r)) (file_of r) x whole left ∙ seen_by r.is_there r.bytes.items r.is_rested r.was_there r.safe.items (reverse r.writes.items) r.removed
  where
    seen_only : (b : Bool) (f : FileState) (x : Option (List ℕ)) → b ≡ true → LeftIf b f x → x ≡ f.seen
    seen_only true f x is left = left
    seen_only false f x is left = cc

pub rested_only : (r : Row) (x : Option (List ℕ)) → r.is_rested ≡ true → IsLeft (name_of r) x → x ≡ content r.is_there r.bytes.items
rested_only r x rested left = rested_by r.is_rested (is_whole (name_of r)) rested left
  where
    rested_by : (on whole : Bool) → on ≡ true → LeftIf whole (file_by r.is_there r.bytes.items on r.was_there r.safe.items (reverse r.writes.items) r.removed) x → x ≡ content r.is_there r.bytes.items
    rested_by true true is left = left
    rested_by true false is left = left
    rested_by false whole is left = cc

pub pending_only : (r : Row) (x : Option (List ℕ)) → r.is_rested ≡ false → is_whole (name_of r) ≡ false → IsLeft (name_of r) x → OutcomeOf (reverse r.writes.items) r.removed (content r.was_there r.safe.items) x
pending_only r x on pending left = pending_by r.is_rested (is_whole (name_of r)) on pending left
  where
    pending_by : (rested whole : Bool) → rested ≡ false → whole ≡ false → LeftIf whole (file_by r.is_there r.bytes.items rested r.was_there r.safe.items (reverse r.writes.items) r.removed) x → OutcomeOf (reverse r.writes.items) r.removed (content r.was_there r.safe.items) x
    pending_by true whole is off left = cc
    pending_by false true is off left = cc
    pending_by false false is off left = left

pub other_there : (there was : Bool) (a b : List ℕ) → there ≡ not was → content there a ≡ content was b → ⊥
other_there true true a b is same = cc
other_there true false a b is same = cc
other_there false true a b is same = cc
other_there false false a b is same = cc

pub other_bytes : (there was : Bool) (a b : List ℕ) → there ≡ true → (was ≡ true → a ≢ b) → content there a ≡ content was b → ⊥
other_bytes true true a b is other same = other refl (some_same same)
  where
    some_same : Some a ≡ Some b → a ≡ b
    some_same same = cc
other_bytes true false a b is other same = cc
other_bytes false was a b is other same = cc

-- a file past the rows is none, and stays so
pub no_row_leaves : (rows : List Row) (file : ℕ) (bytes : List ℕ) (there : Bool) → length rows ≤ file → Leaves (not there) file (content there bytes) (name_at rows) (name_at rows)
no_row_leaves rows file bytes false past = record { this = none_past rows file past; others = λ m other. refl }
no_row_leaves rows file bytes true past = record { this = refl; others = λ m other. refl }

pub no_row_left : (rows : List Row) (file : ℕ) (bytes : List ℕ) (there : Bool) → length rows ≤ file → not there ≡ true → IsLeft (name_at rows file) (content there bytes)
no_row_left rows file bytes false past is = subst (λ (n : Name). IsLeft n None) (sym (none_past rows file past)) refl
no_row_left rows file bytes true past is = cc

pub no_row_only : (rows : List Row) (file : ℕ) (bytes : List ℕ) (there : Bool) → length rows ≤ file → not there ≡ false → IsLeft (name_at rows file) (content there bytes) → ⊥
no_row_only rows file bytes false past is left = cc
no_row_only rows file bytes true past is left = let no : Some bytes ≡ None = subst (λ (n : Name). IsLeft n (Some bytes)) (none_past rows file past) left in cc
