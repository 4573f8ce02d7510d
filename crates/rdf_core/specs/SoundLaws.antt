-- Laws of sound positions.
use Rattle.std.proofs.Common.{◌≡◌, ℕ, zero, suc, ◌+◌, ◌≤◌, ◌<◌, min, Bool, true, false, ◌&&◌, nat_lt, nat_le, List, [], ◌∷◌, ◌++◌, length, take, get_or, IsTrue, if◌then◌else◌, refl, sym, ap, ◌∙◌, subst, arith}
use Rattle.std.proofs.lemmas.Bool.Decides.{nat_tests}
use Rattle.std.proofs.lemmas.Bool.{and_parts}
use Rattle.std.proofs.lemmas.List.{length-append}
use Rattle.std.proofs.Math.ListN.{get_or-append, get_or-map}
use Rattle.rdf_types.specs.declared.layout.Layout.{Layout}
use Rattle.rdf_types.specs.declared.records.Record.{Record}
use Rattle.rdf_model.specs.Window.{low}
use Rattle.rdf_model.specs.LowLaws.{low_rises, low_stays}
use Rattle.rdf_core.specs.Layouts.{protects, point_of, points_at, least}
use Rattle.rdf_core.specs.Backup.{Backup, Volumes, Running, Taking, Taken, kept_of, store_parts, rolled, stored, is_due, purge_parts, drops, floor_of, points_in}
use Rattle.rdf_core.specs.Sound.{AreSound, IsSound, AreBelow}
use Rattle.rdf_core.specs.PartLaws.{Every, every_map}

-- at or below
pub at_or_below : (a b c : ℕ) → a ≤ b → b ≤ c → a ≤ c
at_or_below a b c h g = omega (arith, h, g)

-- a flag that is set stands within the list
pub flag_within : (flags : List Bool) (v : ℕ) → get_or flags v false ≡ true → v < length flags
flag_within [] v e = cc
flag_within (f ∷ flags) zero e = omega arith
flag_within (f ∷ flags) (suc v) e = omega (arith, flag_within flags v e)

volumes_longer : (layout : Layout) (trail more : List Record) (r k : ℕ) (v : Volumes) → r ≤ length trail → AreSound layout trail r k v → AreSound layout (trail ++ more) r k v
volumes_longer layout trail more r k (Running points) w s = s
volumes_longer layout trail more r k Taking w s = tt
volumes_longer layout trail more r k (Taken upto) w s =
    (s.0, λ v p. subst (λ n. k ≤ n) (sym (low_stays (protects layout) trail more upto (at_or_below upto r (length trail) s.0 w))) (s.1 v p))

-- positions stay sound as the trail grows
pub sound_longer : (layout : Layout) (trail more : List Record) (b : Backup) → IsSound layout trail b → IsSound layout (trail ++ more) b
sound_longer layout trail more b s = record {
  within = subst (λ n. b.received ≤ n) (sym (length-append trail more)) (longer b.received (length trail) (length more) s.within);
  some = s.some;
  low = subst (λ n. kept_of b ≤ n) (sym (low_stays (protects layout) trail more b.received s.within)) s.low;
  volumes = volumes_longer layout trail more b.received (kept_of b) b.volumes s.within s.volumes;
}
  where
    longer : (r t m : ℕ) → r ≤ t → r ≤ t + m
    longer r t m h = omega (arith, h)

kept_rolled : (b : Backup) → 0 < length b.starts → kept_of (rolled b) ≡ kept_of b
kept_rolled b s = get_or-append b.starts (b.received ∷ []) 0 0 s

sound_rolled : (layout : Layout) (trail : List Record) (b : Backup) → IsSound layout trail b → IsSound layout trail (rolled b)
sound_rolled layout trail b s = record {
  within = s.within;
  some = subst (λ n. 0 < n) (sym (length-append b.starts (b.received ∷ []))) (more (length b.starts));
  low = subst (λ n. n ≤ low (protects layout) (take b.received trail)) (sym (kept_rolled b s.some)) s.low;
  volumes = subst (λ n. AreSound layout trail b.received n b.volumes) (sym (kept_rolled b s.some)) s.volumes;
}
  where
    more : (n : ℕ) → 0 < n + 1
    more n = omega arith

volumes_stored : (layout : Layout) (trail : List Record) (r to k : ℕ) (v : Volumes) → r ≤ to → AreSound layout trail r k v → AreSound layout trail to k v
volumes_stored layout trail r to k (Running points) l s = record { whole = s.whole; low = s.low; high = λ v p. at_or_below (point_of points v) r to (s.high v p) l }
volumes_stored layout trail r to k Taking l s = tt
volumes_stored layout trail r to k (Taken upto) l s = (at_or_below upto r to s.0 l, s.1)

sound_stored : (layout : Layout) (trail : List Record) (b : Backup) (to : ℕ) → b.received ≤ to → to ≤ length trail → IsSound layout trail b → IsSound layout trail (stored to b)
sound_stored layout trail b to l w s = record {
  within = w;
  some = s.some;
  low = at_or_below (kept_of b) (low (protects layout) (take b.received trail)) (low (protects layout) (take to trail)) s.low (low_rises (protects layout) trail b.received to l w);
  volumes = volumes_stored layout trail b.received to (kept_of b) b.volumes l s.volumes;
}

below : (r t : ℕ) → nat_lt r t ≡ true → r ≤ t
below r t h = grind (arith, nat_tests)

-- positions stay sound as messages are stored
pub sound_store : (layout : Layout) (trail : List Record) (b : Backup) (to : ℕ) → to ≤ length trail → IsSound layout trail b → Every (IsSound layout trail) (store_parts layout to b)
sound_store layout trail b to w s =
    elim (nat_lt b.received to) as (λ m. nat_lt b.received to ≡ m → Every (IsSound layout trail) (if m then (if is_due layout b then rolled b ∷ stored to (rolled b) ∷ [] else stored to b ∷ []) else [])) [
      | true ↦ λ e. elim (is_due layout b) as (λ m. Every (IsSound layout trail) (if m then rolled b ∷ stored to (rolled b) ∷ [] else stored to b ∷ [])) [
        | true ↦ (sound_rolled layout trail b s, (sound_stored layout trail (rolled b) to (below b.received to e) w (sound_rolled layout trail b s), tt))
        | false ↦ (sound_stored layout trail b to (below b.received to e) w s, tt)
      ]
      | false ↦ λ e. tt
    ] refl

-- the least of some points and an end is at most the end
pub least_end : (protect : List Bool) (points : List ℕ) (end : ℕ) → least protect points end ≤ end
least_end [] points end = omega arith
least_end (true ∷ more) [] end = omega arith
least_end (false ∷ more) [] end = least_end more [] end
least_end (true ∷ more) (p ∷ points) end = less p (least more points end) end (least_end more points end)
  where
    less : (p l e : ℕ) → l ≤ e → min p l ≤ e
    less p l e h = grind (arith, h)
least_end (false ∷ more) (p ∷ points) end = least_end more points end

-- and at most each of the points
pub least_point : (protect : List Bool) (points : List ℕ) (end v : ℕ) → get_or protect v false ≡ true → least protect points end ≤ get_or points v 0
least_point [] points end v e = cc
least_point (true ∷ more) [] end v e = omega arith
least_point (false ∷ more) [] end zero e = cc
least_point (false ∷ more) [] end (suc v) e = least_point more [] end v e
least_point (true ∷ more) (p ∷ points) end zero e = left p (least more points end)
  where
    left : (a b : ℕ) → min a b ≤ a
    left a b = grind arith
least_point (true ∷ more) (p ∷ points) end (suc v) e = right p (least more points end) (get_or points v 0) (least_point more points end v e)
  where
    right : (a b c : ℕ) → b ≤ c → min a b ≤ c
    right a b c h = grind (arith, h)
least_point (false ∷ more) (p ∷ points) end zero e = cc
least_point (false ∷ more) (p ∷ points) end (suc v) e = least_point more points end v e

-- starts that are left: some, the first of which lies at or below a floor
pub record IsLeft (floor : ℕ) (starts : List ℕ) : Type 0 where
  pub some : 0 < length starts
  pub under : get_or starts 0 0 ≤ floor

-- so are the starts after each drop
pub drops_left : (retain floor : ℕ) (starts : List ℕ) → Every (IsLeft floor) (drops retain floor starts)
drops_left retain floor [] = tt
drops_left retain floor (s ∷ []) = tt
drops_left retain floor (s ∷ t ∷ more) =
    elim (nat_lt retain (length (s ∷ t ∷ more)) && nat_le t floor) as (λ m. (nat_lt retain (length (s ∷ t ∷ more)) && nat_le t floor) ≡ m → Every (IsLeft floor) (if m then (t ∷ more) ∷ drops retain floor (t ∷ more) else [])) [
      | true ↦ λ e. (record { some = omega arith; under = at (and_parts (nat_lt retain (length (s ∷ t ∷ more))) (nat_le t floor) e).1 }, drops_left retain floor (t ∷ more))
      | false ↦ λ e. tt
    ] refl
  where
    at : nat_le t floor ≡ true → t ≤ floor
    at h = grind (arith, nat_tests)

-- a protected volume's point is where all of them are
pub points_at-of : (layout : Layout) (n v : ℕ) → IsTrue (protects layout v) → point_of (points_at layout n) v ≡ n
points_at-of layout n v p = get_or-map (λ protect. if protect then n else 0) layout.protect v false ∙ ap (λ b. if b then n else 0) p

-- lower starts, that still lie at or below the low position and each restart point
volumes_purged : (layout : Layout) (trail : List Record) (r k f : ℕ) (v : Volumes) → ((u : ℕ) → IsTrue (protects layout u) → f ≤ point_of (points_in layout trail v) u) → AreSound layout trail r k v → AreSound layout trail r f v
volumes_purged layout trail r k f (Running points) h s = record { whole = s.whole; low = h; high = s.high }
volumes_purged layout trail r k f Taking h s = tt
volumes_purged layout trail r k f (Taken upto) h s = (s.0, λ u p. subst (λ n. f ≤ n) (points_at-of layout (low (protects layout) (take upto trail)) u p) (h u p))

-- positions stay sound as starts are dropped
pub sound_purge : (layout : Layout) (trail : List Record) (points : List ℕ) (b : Backup) → AreBelow layout points (points_in layout trail b.volumes) → IsSound layout trail b → Every (IsSound layout trail) (purge_parts layout trail points b)
sound_purge layout trail points b h s =
    every_map (IsLeft floor) (IsSound layout trail) (λ starts. record b { starts = starts }) (drops layout.retain floor b.starts)
    (λ starts l. record {
      within = s.within;
      some = l.some;
      low = at_or_below (get_or starts 0 0) floor bottom l.under (least_end layout.protect points bottom);
      volumes = volumes_purged layout trail b.received (kept_of b) (get_or starts 0 0) b.volumes
          (λ u p. at_or_below (get_or starts 0 0) floor (point_of (points_in layout trail b.volumes) u) l.under
          (at_or_below floor (point_of points u) (point_of (points_in layout trail b.volumes) u) (least_point layout.protect points bottom u p) (h u p))) s.volumes;
    })
    (drops_left layout.retain floor b.starts)
  where
    floor : ℕ
    floor = floor_of layout trail points b

    bottom : ℕ
    bottom = low (protects layout) (take b.received trail)
