-- What a loss of power leaves is one of what the rules allow.
use Rattle.std.proofs.Common.{◌≡◌, ◌⊎◌, inl, inr, ℕ, ◌+◌, ◌-◌, ◌^◌, ◌<◌, ◌≤◌, ◌++◌, min, max, not, nat_lt, Bool, true, false, List, [], ◌∷◌, length, take, drop, reverse, slice_index, zero, suc, if◌then◌else◌, Option, Some, None, refl, sym, ◌∙◌, ap, subst, arith}
use Rattle.std.specs.Prelude.{slice_set}
use Rattle.std.proofs.lemmas.Bool.Decides.{nat_tests}
use Rattle.std.proofs.lemmas.List.{reverse-append, take_more, take_more_set, take_all, drop_more, drop-set-lt, length-set, length-take, append-nil, append_assoc}
use Rattle.std.proofs.Math.Seq.{take-length, drop-length}
use Rattle.rdf_disk.specs.Files.{FileState, bytes_of, settled}
use Rattle.rdf_disk.specs.Outcomes.{IsOutside, furthest, least, IsRewritten, OutcomeOf, IsOutcome}
use Rattle.folder_disk.specs.Names.{Name, IsLeft, LeftIf, is_whole}
use Rattle.memory_folder.specs.Losses.{covers_place, stays_at, stays_to, mixed_from, mixed, mixed_if, left_if, left_by, IsMixing, Lost}
use Rattle.memory_folder.specs.Rows.{content, file_by}
use Rattle.memory_folder.specs.Fakes.{file_of, name_of, clean_name}
use Rattle.memory_folder.specs.declared.row.Row.{Row}
use Rattle.memory_folder.proofs.Outcomes.{safe_outcome}
use Rattle.memory_folder.specs.declared.losses.Loss.{Loss}
use Rattle.memory_folder.specs.declared.losses.Loss.TheVariants.{Keep, Lose, Mix}

-- the newest write and those before it
newest_first : (ws rest : List (ℕ × ℕ)) (w : ℕ × ℕ) → ws ≡ rest ++ (w ∷ []) → reverse ws ≡ w ∷ reverse rest
newest_first ws rest w is = ap (λ (l : List (ℕ × ℕ)). reverse l) is ∙ reverse-append rest (w ∷ [])

pub stays_none : (newest : Bool) (ws : List (ℕ × ℕ)) (i : ℕ) → length ws ≡ 0 → false ≡ stays_at newest (reverse ws) i
stays_none newest [] i none = refl
stays_none newest (w ∷ ws) i none = absurd (omega (arith, none))

pub stays_split : (newest : Bool) (ws rest : List (ℕ × ℕ)) (w : ℕ × ℕ) (i : ℕ) (b : Bool) → ws ≡ rest ++ (w ∷ []) → b ≡ stays_at (not newest) (reverse rest) i →
    (if (if newest then covers_place w i else false) then true else b) ≡ stays_at newest (reverse ws) i
stays_split newest ws rest w i b is other =
    stays_first newest w (reverse rest) other ∙ ap (λ (l : List (ℕ × ℕ)). stays_at newest l i) (sym (newest_first ws rest w is))
  where
    stays_first : (newest : Bool) (w : ℕ × ℕ) (l : List (ℕ × ℕ)) → b ≡ stays_at (not newest) l i → (if (if newest then covers_place w i else false) then true else b) ≡ stays_at newest (w ∷ l) i
    stays_first true w l e = ap (λ (c : Bool). if covers_place w i then true else c) e
    stays_first false w l e = e

pub reach_none : (newest : Bool) (ws : List (ℕ × ℕ)) → length ws ≡ 0 → 0 ≡ min (stays_to newest (reverse ws)) (2 ^ 64 - 1)
reach_none newest [] none = refl
reach_none newest (w ∷ ws) none = absurd (omega (arith, none))

pub reach_split : (newest : Bool) (ws rest : List (ℕ × ℕ)) (w : ℕ × ℕ) (n : ℕ) → ws ≡ rest ++ (w ∷ []) → n ≡ min (stays_to (not newest) (reverse rest)) (2 ^ 64 - 1) →
    (if newest then max (min (w.0 + w.1) (2 ^ 64 - 1)) n else n) ≡ min (stays_to newest (reverse ws)) (2 ^ 64 - 1)
reach_split newest ws rest w n is other =
    reach_first newest w (reverse rest) other ∙ ap (λ (l : List (ℕ × ℕ)). min (stays_to newest l) (2 ^ 64 - 1)) (sym (newest_first ws rest w is))
  where
    reach_first : (newest : Bool) (w : ℕ × ℕ) (l : List (ℕ × ℕ)) → n ≡ min (stays_to (not newest) l) (2 ^ 64 - 1) → (if newest then max (min (w.0 + w.1) (2 ^ 64 - 1)) n else n) ≡ min (stays_to newest (w ∷ l)) (2 ^ 64 - 1)
    reach_first true w l e = omega (arith, e)
    reach_first false w l e = e

-- place by place
mixed_next : (newest : Bool) (ws : List (ℕ × ℕ)) (safe bytes : List ℕ) (i : ℕ) → i < length bytes →
    mixed_from newest ws safe i (drop i bytes) ≡ (if stays_at newest ws i then slice_index bytes i else slice_index safe i) ∷ mixed_from newest ws safe (i + 1) (drop (i + 1) bytes)
mixed_next newest ws safe bytes i below = ap (λ (l : List ℕ). mixed_from newest ws safe i l) (drop_more bytes i 0 below)

mixing_to : (newest : Bool) (ws : List (ℕ × ℕ)) (safe old new : List ℕ) (i v : ℕ) → i < length old → take (i + 1) new ≡ take i old ++ (v ∷ []) → drop (i + 1) new ≡ drop (i + 1) old →
    v ≡ (if stays_at newest ws i then slice_index old i else slice_index safe i) →
    take (i + 1) new ++ mixed_from newest ws safe (i + 1) (drop (i + 1) new) ≡ take i old ++ mixed_from newest ws safe i (drop i old)
mixing_to newest ws safe old new i v below front back is =
    ap (λ (l : List ℕ). l ++ mixed_from newest ws safe (i + 1) (drop (i + 1) new)) front
    ∙ append_assoc (take i old) (v ∷ []) (mixed_from newest ws safe (i + 1) (drop (i + 1) new))
    ∙ ap (λ (l : List ℕ). take i old ++ (v ∷ mixed_from newest ws safe (i + 1) l)) back
    ∙ ap (λ (b : ℕ). take i old ++ (b ∷ mixed_from newest ws safe (i + 1) (drop (i + 1) old))) is
    ∙ sym (ap (λ (l : List ℕ). take i old ++ l) (mixed_next newest ws safe old i below))

-- what stays, and what does not
pub mixed_there : (newest : Bool) (ws : List (ℕ × ℕ)) (safe old : List ℕ) (i : ℕ) → i < length old → stays_at newest ws i ≡ true → IsMixing newest ws safe i old old
mixed_there newest ws safe old i below is = record {
  length = refl;
  same = mixing_to newest ws safe old old i (slice_index old i) below (take_more old i 0 below) refl (ap (λ (b : Bool). if b then slice_index old i else slice_index safe i) (sym is));
}

pub mixed_here : (newest : Bool) (ws : List (ℕ × ℕ)) (safe old : List ℕ) (i v : ℕ) → i < length old → stays_at newest ws i ≡ false → v ≡ slice_index safe i → IsMixing newest ws safe i old (slice_set old i v)
mixed_here newest ws safe old i v below is put = record {
  length = length-set old i v;
  same = mixing_to newest ws safe old (slice_set old i v) i v below (take_more_set old i v below) (drop-set-lt (i + 1) old i v (omega arith)) (put ∙ ap (λ (b : Bool). if b then slice_index old i else slice_index safe i) (sym is));
}

pub mixed_start : (newest : Bool) (ws : List (ℕ × ℕ)) (safe bytes : List ℕ) → take 0 bytes ++ mixed_from newest ws safe 0 (drop 0 bytes) ≡ mixed_from newest ws safe 0 bytes
mixed_start newest ws safe [] = refl
mixed_start newest ws safe (b ∷ bs) = refl

pub mixed_end : (newest : Bool) (ws : List (ℕ × ℕ)) (safe bytes whole : List ℕ) (n : ℕ) → n ≡ length bytes → take n bytes ++ mixed_from newest ws safe n (drop n bytes) ≡ whole → bytes ≡ whole
mixed_end newest ws safe bytes whole n is same =
    let at : take (length bytes) bytes ++ mixed_from newest ws safe (length bytes) (drop (length bytes) bytes) ≡ whole =
    subst (λ (k : ℕ). take k bytes ++ mixed_from newest ws safe k (drop k bytes) ≡ whole) is same in
    let end : take (length bytes) bytes ++ mixed_from newest ws safe (length bytes) (drop (length bytes) bytes) ≡ bytes ++ [] =
    ap (λ (l : List ℕ). take (length bytes) bytes ++ mixed_from newest ws safe (length bytes) l) (drop-length bytes) ∙ ap (λ (l : List ℕ). l ++ []) (take-length bytes) in
    sym (append-nil bytes) ∙ sym end ∙ at

pub cut_so : (bytes : List ℕ) (s r most : ℕ) → length bytes ≤ 2 ^ 64 - 1 → most ≡ max s (min r (2 ^ 64 - 1)) → take most bytes ≡ take (max s r) bytes
cut_so bytes s r most short is = ap (λ (k : ℕ). take k bytes) is ∙ elim (cases_le r) [
  | inl within ↦ ap (λ (k : ℕ). take (max s k) bytes) (omega (arith, within))
  | inr past ↦ take_all (max s (min r (2 ^ 64 - 1))) bytes (omega (arith, short, past)) ∙ sym (take_all (max s r) bytes (omega (arith, short, past)))
]
  where
    cases_le : (r : ℕ) → (r ≤ 2 ^ 64 - 1) ⊎ (2 ^ 64 - 1 ≤ r)
    cases_le r = elim (nat_lt r (2 ^ 64)) as (λ c. nat_lt r (2 ^ 64) ≡ c → (r ≤ 2 ^ 64 - 1) ⊎ (2 ^ 64 - 1 ≤ r)) [ true ↦ λ e. inl (grind (arith, nat_tests, e)) | false ↦ λ e. inr (grind (arith, nat_tests, e)) ] refl

-- what stays lies within what was asked for
stays_inside : (newest : Bool) (ws : List (ℕ × ℕ)) (i : ℕ) → stays_at newest ws i ≡ true → IsOutside ws i → ⊥
stays_inside newest [] i is out = absurd (cc)
stays_inside false (w ∷ ws) i is out = stays_inside true ws i is out.1
stays_inside true (w ∷ ws) i is out = elim (covers_place w i) as (λ c. covers_place w i ≡ c → ⊥) [
  | true ↦ λ e. outside_of w i e out.0
  | false ↦ λ e. stays_inside false ws i (subst (λ (c : Bool). (if c then true else stays_at false ws i) ≡ true) e is) out.1
] refl
  where
    outside_of : (w : ℕ × ℕ) (i : ℕ) → covers_place w i ≡ true → (i < w.0) ⊎ (w.0 + w.1 ≤ i) → ⊥
    outside_of w i e (inl before) = grind (arith, nat_tests, e, before)
    outside_of w i e (inr behind) = grind (arith, nat_tests, e, behind)

stays_within : (newest : Bool) (ws : List (ℕ × ℕ)) → stays_to newest ws ≤ furthest ws
stays_within newest [] = omega arith
stays_within true (w ∷ ws) = let more = stays_within false ws in omega (arith, more)
stays_within false (w ∷ ws) = let more = stays_within true ws in omega (arith, more)

length_mixed : (newest : Bool) (ws : List (ℕ × ℕ)) (safe : List ℕ) (i : ℕ) (bytes : List ℕ) → length (mixed_from newest ws safe i bytes) ≡ length bytes
length_mixed newest ws safe i [] = refl
length_mixed newest ws safe i (b ∷ bs) = ap suc (length_mixed newest ws safe (i + 1) bs)

mixed_at : (newest : Bool) (ws : List (ℕ × ℕ)) (safe : List ℕ) (k : ℕ) (bytes : List ℕ) (i : ℕ) → i < length bytes →
    slice_index (mixed_from newest ws safe k bytes) i ≡ (if stays_at newest ws (k + i) then slice_index bytes i else slice_index safe (k + i))
mixed_at newest ws safe k [] i below = absurd (omega (arith, below))
mixed_at newest ws safe k (b ∷ bs) zero below =
    let here : k ≡ k + 0 = omega arith in
    subst (λ (j : ℕ). (if stays_at newest ws k then b else slice_index safe k) ≡ (if stays_at newest ws j then b else slice_index safe j)) here refl
mixed_at newest ws safe k (b ∷ bs) (suc i) below =
    let there : k + 1 + i ≡ k + suc i = omega arith in
    subst (λ (j : ℕ). slice_index (mixed_from newest ws safe (k + 1) bs) i ≡ (if stays_at newest ws j then slice_index bs i else slice_index safe j)) there (mixed_at newest ws safe (k + 1) bs i (omega (arith, below)))

mixed_same : (newest : Bool) (ws : List (ℕ × ℕ)) (safe bytes : List ℕ) (i : ℕ) → i < length bytes → IsOutside ws i → slice_index (mixed_from newest ws safe 0 bytes) i ≡ slice_index safe i
mixed_same newest ws safe bytes i below out =
    let there : 0 + i ≡ i = omega arith in
    let at : slice_index (mixed_from newest ws safe 0 bytes) i ≡ (if stays_at newest ws i then slice_index bytes i else slice_index safe i) =
    subst (λ (j : ℕ). slice_index (mixed_from newest ws safe 0 bytes) i ≡ (if stays_at newest ws j then slice_index bytes i else slice_index safe j)) there (mixed_at newest ws safe 0 bytes i below) in
    at ∙ elim (stays_at newest ws i) as (λ c. stays_at newest ws i ≡ c → (if c then slice_index bytes i else slice_index safe i) ≡ slice_index safe i) [
      | true ↦ λ e. absurd (stays_inside newest ws i e out)
      | false ↦ λ e. refl
    ] refl

mixed_rewritten : (newest : Bool) (ws : List (ℕ × ℕ)) (removed : Bool) (safe bytes : List ℕ) → IsRewritten ws removed safe bytes → IsRewritten ws removed safe (mixed newest ws safe bytes)
mixed_rewritten newest ws removed safe bytes is =
    let most : ℕ = max (length safe) (stays_to newest ws) in
    let long : length (mixed newest ws safe bytes) ≡ min most (length bytes) = length_mixed newest ws safe 0 (take most bytes) ∙ length-take most bytes in
    let within = stays_within newest ws in
    record {
      no_shorter = no_less removed long is.no_shorter;
      no_longer = omega (arith, long, within);
      same = λ i below out. mixed_same newest ws safe (take most bytes) i (omega (arith, below, length_mixed newest ws safe 0 (take most bytes))) out;
    }
  where
    no_less : (removed : Bool) → {n : ℕ} → n ≡ min (max (length safe) (stays_to newest ws)) (length bytes) → least removed safe ≤ length bytes → least removed safe ≤ n
    no_less true long less = omega arith
    no_less false long less = omega (arith, long, less)

-- nothing was written, so nothing is lost
mixed_whole : (newest : Bool) (k : ℕ) (safe bytes : List ℕ) → ((i : ℕ) → i < length bytes → slice_index safe (k + i) ≡ slice_index bytes i) → mixed_from newest [] safe k bytes ≡ bytes
mixed_whole newest k safe [] same = refl
mixed_whole newest k safe (b ∷ bs) same =
    let first : slice_index safe k ≡ b = subst (λ (j : ℕ). slice_index safe j ≡ b) (omega arith) (same 0 (omega arith)) in
    let rest : mixed_from newest [] safe (k + 1) bs ≡ bs = mixed_whole newest (k + 1) safe bs (λ i below.
    subst (λ (j : ℕ). slice_index safe j ≡ slice_index bs i) (omega arith) (same (suc i) (omega (arith, below)))) in
    ap (λ (x : ℕ). x ∷ mixed_from newest [] safe (k + 1) bs) first ∙ ap (λ (l : List ℕ). b ∷ l) rest

mixed_nothing : (newest : Bool) (b : List ℕ) → mixed newest [] b b ≡ b
mixed_nothing newest b =
    ap (λ (l : List ℕ). mixed_from newest [] b 0 l) (take_all (max (length b) 0) b (omega arith)) ∙ mixed_whole newest 0 b b (λ i below. ap (λ (j : ℕ). slice_index b j) (omega arith))

mixed_outcome : (newest : Bool) (ws : List (ℕ × ℕ)) (removed : Bool) (safe seen : Option (List ℕ)) → OutcomeOf ws removed safe seen →
    OutcomeOf ws removed safe (mixed_if newest (record { seen = seen; safe = safe; writes = ws; removed = removed }) seen)
mixed_outcome newest ws removed safe None is = is
mixed_outcome newest [] false safe (Some b) is = subst (λ (x : Option (List ℕ)). Some (mixed newest [] (bytes_of x) b) ≡ x) is (ap (λ (l : List ℕ). Some l) (mixed_nothing newest b))
mixed_outcome newest [] true safe (Some b) is = subst (λ (x : Option (List ℕ)). x ≡ Some (mixed newest [] (bytes_of x) b)) (sym is) (ap (λ (l : List ℕ). Some l) (sym (mixed_nothing newest b)))
mixed_outcome newest (w ∷ ws) removed safe (Some b) is = mixed_rewritten newest (w ∷ ws) removed (bytes_of safe) b is

left_allowed_if : (loss : Loss) (whole : Bool) (f : FileState) → IsOutcome f f.seen → LeftIf whole f (left_if loss whole f)
left_allowed_if Keep true f sound = refl
left_allowed_if Keep false f sound = sound
left_allowed_if Lose true f sound = refl
left_allowed_if Lose false f sound = safe_outcome f.writes f.removed f.safe
left_allowed_if (Mix newest) true f sound = refl
left_allowed_if (Mix newest) false f sound = mixed_outcome newest f.writes f.removed f.safe f.seen sound

-- a chosen loss leaves what the rules allow
pub left_allowed : (loss : Loss) (n : Name) → IsOutcome n.file n.file.seen → IsLeft n (left_by loss n)
left_allowed loss n sound = left_allowed_if loss (is_whole n) n.file sound

-- a file at rest is left as it is
left_rested : (loss : Loss) (whole : Bool) (x : Option (List ℕ)) → left_if loss whole (settled x) ≡ x
left_rested Keep whole x = refl
left_rested Lose true x = refl
left_rested Lose false x = refl
left_rested (Mix newest) true x = refl
left_rested (Mix newest) false None = refl
left_rested (Mix newest) false (Some b) = ap (λ (l : List ℕ). Some l) (mixed_nothing newest b)

left_whole : (loss : Loss) (whole : Bool) (f : FileState) → whole ≡ true → left_if loss whole f ≡ f.seen
left_whole Keep true f is = refl
left_whole Lose true f is = refl
left_whole (Mix newest) true f is = refl
left_whole chosen false f is = cc

lost_so : (loss : Loss) (r : Row) (n : Name) (x : Option (List ℕ)) → n ≡ clean_name x → left_by loss (name_of r) ≡ x → Lost loss (name_of r) n
lost_so loss r n x is left = record { left = left_allowed loss (name_of r) r.sound; is = is ∙ ap (λ (y : Option (List ℕ)). clean_name y) (sym left) }

pub lost_whole : (loss : Loss) (r : Row) (n : Name) → is_whole (name_of r) ≡ true → n ≡ clean_name (file_of r).seen → Lost loss (name_of r) n
lost_whole loss r n whole is = lost_so loss r n (file_of r).seen is (left_whole loss (is_whole (name_of r)) (file_of r) whole)

pub lost_rested : (loss : Loss) (r : Row) (n : Name) → r.is_rested ≡ true → n ≡ clean_name (file_of r).seen → Lost loss (name_of r) n
lost_rested loss r n rested is = lost_so loss r n (file_of r).seen is (rested_by r.is_rested (is_whole (name_of r)) rested)
  where
    rested_by : (on whole : Bool) → on ≡ true →
        let f : FileState = file_by r.is_there r.bytes.items on r.was_there r.safe.items (reverse r.writes.items) r.removed in left_if loss whole f ≡ f.seen
    rested_by true whole is = left_rested loss whole (content r.is_there r.bytes.items)
    rested_by false whole is = cc

pub lost_keep : (r : Row) (n : Name) → n ≡ clean_name (file_of r).seen → Lost Keep (name_of r) n
lost_keep r n is = lost_so Keep r n (file_of r).seen is refl

pub lost_safe : (r : Row) (n : Name) → is_whole (name_of r) ≡ false → n ≡ clean_name (file_of r).safe → Lost Lose (name_of r) n
lost_safe r n pending is = lost_so Lose r n (file_of r).safe is (ap (λ (b : Bool). left_if Lose b (file_of r)) pending)

pub lost_mixed : (newest : Bool) (r : Row) (n : Name) → is_whole (name_of r) ≡ false → n ≡ clean_name (mixed_if newest (file_of r) (file_of r).seen) → Lost (Mix newest) (name_of r) n
lost_mixed newest r n pending is = lost_so (Mix newest) r n (mixed_if newest (file_of r) (file_of r).seen) is (ap (λ (b : Bool). left_if (Mix newest) b (file_of r)) pending)
