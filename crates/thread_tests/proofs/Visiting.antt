-- Reads of volume 0 in a session.
use Rattle.std.proofs.Common.{◌≡◌, ℕ, ◌<◌, ◌≤◌, List, [], ◌∷◌, set, length, slice_get, Option, Some, Vec, Global, vec_capacity, refl, sym, ap, ◌∙◌, subst, arith}
use Rattle.std.specs.List.{All}
use Rattle.std.proofs.lemmas.List.Elements.{All-from_recursion}
use Rattle.rdf_types.specs.declared.records.RecKey.{RecKey}
use Rattle.rdf_disk.specs.Files.{Disk}
use Rattle.rdf_disk.specs.Counts.{Counts}
use Rattle.rdf_volume.specs.Views.{InUse}
use Rattle.volume_sessions.specs.declared.placed.Placed.{Placed}
use Rattle.volume_sessions.specs.Shown.{Shown}
use Rattle.volume_sessions.specs.Rising.{HasRead, IsPlaced, MayEnter, AreRisen}
use Rattle.thread_tests.specs.Visits.{IsVisited, MayVisit, AreTwo}
use Rattle.rdf_types.specs.declared.records.Stamped.{Stamped}
use Rattle.volume_sessions.specs.Leaving.{IsOpened}

pub placed_there : {D : Type 0} (s : Shown D) (vol : ℕ) → IsVisited s → vol ≡ 0 → IsPlaced vol 0 s
placed_there s vol is zero_is = (is.0, ap (λ l. slice_get l 0) is.2, is.3 ∙ sym zero_is)

pub some_there : {D : Type 0} (s : Shown D) → IsVisited s → 0 < length s.volumes
some_there s is = let many = ap (λ l. length l) is.2 in omega (arith, many)

same_first : {A : Type 0} (x y : A) (o : Option A) → o ≡ Some x → o ≡ Some y → x ≡ y
same_first x y o e f = cc

pub visited_on : {D : Type 0} (tells : Type 0) (files : D → Disk) (counts : D → Counts) (key : RecKey) (value : Option (List ℕ)) (s t : Shown D) → IsVisited s → HasRead tells files counts 0 key value s t → IsVisited t
visited_on tells files counts key value s t is read =
    let was = same_first read.was is.0 (slice_get s.volumes 0) read.there (ap (λ l. slice_get l 0) is.2) in
    let now : Placed _ = record { vol = read.was.vol; volume = read.now } in
    (now, is.1, ap (λ (x : Shown _). x.volumes) read.new_is ∙ ap (λ (l : List (Placed _)). set l 0 now) is.2, ap (λ (p : Placed _). p.vol) was ∙ is.3)

pub two_enter : {D : Type 0} (tells : Type 0) (files : D → Disk) (volumes : List (Placed D)) → AreTwo tells files volumes → All (MayEnter 0 4) volumes
two_enter tells files volumes two =
    let first = two.starts.0 in let second = two.starts.1 in
    subst (All (MayEnter 0 4)) (sym two.are) (All-from_recursion (MayEnter 0 4) (two.first ∷ two.second ∷ []) ((omega arith, omega (arith, first)), ((omega arith, omega (arith, second)), tt)))

pub two_in_use : {D : Type 0} (tells : Type 0) (files : D → Disk) (volumes : List (Placed D)) → AreTwo tells files volumes → tells → All (λ p. InUse files p.volume) volumes
two_in_use tells files volumes two it =
    let in_use = two.in_use it in
    subst (All (λ p. InUse files p.volume)) (sym two.are) (All-from_recursion (λ p. InUse files p.volume) (two.first ∷ two.second ∷ []) (in_use.0, (in_use.1, tt)))

pub visited_as : {D : Type 0} (s t : Shown D) → t.volumes ≡ s.volumes → IsVisited s → IsVisited t
visited_as s t same is = (is.0, is.1, same ∙ is.2, is.3)

pub may_visit : {D : Type 0} (tells : Type 0) (files : D → Disk) (volumes : List (Placed D)) (part : List Stamped) (pos vol : ℕ) (room : Vec Stamped Global) (s : Shown D) → AreTwo tells files volumes → IsOpened volumes 0 part 4 s → pos ≡ 4 → vol ≡ 0 → room.items ≡ [] → 1 ≤ vec_capacity room →
    MayVisit pos vol room s
may_visit tells files volumes part pos vol room s two opened at number empty space =
    record { visited = (two.first, two.second ∷ [], opened.volumes_are ∙ two.are, two.number); end_is = opened.end_is; image = at; key = number; empty = empty; space = space }

pub visited_asked : {D : Type 0} (s t : Shown D) → t ≡ record s { noted = t.noted } → IsVisited s → IsVisited t
visited_asked s t same is = visited_as s t (ap (λ (x : Shown _). x.volumes) same) is

first_risen : {D : Type 0} (tells : Type 0) (files : D → Disk) (counts : D → Counts) (entries : List Stamped) (end : ℕ) (first : Placed D) (rest noted : List (Placed D)) → first.vol ≡ 0 → AreRisen tells files counts entries end (first ∷ rest) noted →
    (now : Placed D) × (more : List (Placed D)) × (noted ≡ now ∷ more) × (now.vol ≡ 0)
first_risen tells files counts entries end first rest [] zero_is risen = absurd risen
first_risen tells files counts entries end first rest (now ∷ more) zero_is risen = (now, more, refl, risen.0.0 ∙ zero_is)

pub visited_noted : {D : Type 0} (tells : Type 0) (files : D → Disk) (counts : D → Counts) (s t u : Shown D) → IsVisited s → AreRisen tells files counts s.entries s.end s.volumes t.noted → u ≡ record t { volumes = t.noted } → IsVisited u
visited_noted tells files counts s t u is risen new_is =
    let r = first_risen tells files counts s.entries s.end is.0 is.1 t.noted is.3 (subst (λ l. AreRisen tells files counts s.entries s.end l t.noted) is.2 risen) in
    (r.0, r.1, ap (λ (x : Shown _). x.volumes) new_is ∙ r.2, r.3)
