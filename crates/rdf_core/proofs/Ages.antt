-- How a backup may change in a step, whatever the step is.
use Rattle.std.proofs.Common.{◌≡◌, ℕ, zero, suc, ◌+◌, ◌-◌, ◌≤◌, ◌<◌, max, min, Bool, true, false, ◌==◌, nat_lt, ◌⊎◌, inl, inr, [], ◌∷◌, map, Option, Some, None, if◌then◌else◌, refl, sym, ap, ◌∙◌, subst, arith}
use Rattle.std.proofs.lemmas.Bool.Decides.{nat_tests}
use Rattle.rdf_types.specs.declared.layout.Layout.{Layout}
use Rattle.rdf_core.specs.Effects.{after_all}
use Rattle.rdf_core.specs.Backup.{Backup, Volumes, Running, Taking, Taken, is_running, marks, with_volumes, store_parts, stores_parts, rolled, stored, is_due, ends, copy_parts, deliver_parts}
use Rattle.rdf_core.specs.PartLaws.{Every, every_all, every_append, every_weaker, all_append}

-- the received prefix does not fall, a takeover that began is not forgotten, from then on the prefix grows to the lead's at most, and a mark stands until it is passed
pub record Ages (lead b new : Backup) : Type 0 where
  pub rises : b.received ≤ new.received
  pub stays : is_running b.volumes ≡ false → is_running new.volumes ≡ false
  pub bounded : is_running b.volumes ≡ false → new.received ≤ max b.received lead.received
  pub holds : (s : ℕ) → b.volumes ≡ Taken s → s ≤ b.received → (new.volumes ≡ Taken s) ⊎ (s < new.received)

pub ages_copy : (lead b new : Backup) → new.volumes ≡ b.volumes → b.received ≤ new.received → new.received ≤ max b.received lead.received → Ages lead b new
ages_copy lead b new same up low = record {
  rises = up;
  stays = λ h. ap is_running same ∙ h;
  bounded = λ h. low;
  holds = λ s h l. inl (same ∙ h);
}

at_most : (a b : ℕ) → a ≤ a
at_most a b = omega arith

max_left : (a b : ℕ) → a ≤ max a b
max_left a b = grind arith

pub ages_still : (lead b new : Backup) → new.received ≡ b.received → new.volumes ≡ b.volumes → Ages lead b new
ages_still lead b new same v = ages_copy lead b new v (subst (λ n. b.received ≤ n) (sym same) (at_most b.received 0)) (subst (λ n. n ≤ max b.received lead.received) (sym same) (max_left b.received lead.received))

pub ages_running : (lead b new : Backup) → is_running b.volumes ≡ true → b.received ≤ new.received → Ages lead b new
ages_running lead b new r up = record {
  rises = up;
  stays = λ h. absurd (no_both (is_running b.volumes) r h);
  bounded = λ h. absurd (no_both (is_running b.volumes) r h);
  holds = λ s h l. absurd (no_both (is_running b.volumes) r (ap is_running h));
}
  where
    no_both : (x : Bool) → x ≡ true → x ≡ false → ⊥
    no_both x e f = cc

pub ages_mark : (lead b new : Backup) → new.received ≡ b.received → is_running new.volumes ≡ false →
    ((s : ℕ) → b.volumes ≡ Taken s → s ≤ b.received → (new.volumes ≡ Taken s) ⊎ (s < b.received)) → Ages lead b new
ages_mark lead b new same runs marked = record {
  rises = subst (λ n. b.received ≤ n) (sym same) (at_most b.received 0);
  stays = λ h. runs;
  bounded = λ h. subst (λ n. n ≤ max b.received lead.received) (sym same) (max_left b.received lead.received);
  holds = λ s h l. subst (λ n. (new.volumes ≡ Taken s) ⊎ (s < n)) (sym same) (marked s h l);
}

-- takeover

taken_is : (u s : ℕ) → Taken u ≡ Taken s → u ≡ s
taken_is u s e = ap upto_of e
  where
    upto_of : Volumes → ℕ
    upto_of (Running points) = 0
    upto_of Taking = 0
    upto_of (Taken n) = n

below : (u s r : ℕ) → (u == r) ≡ false → u ≡ s → s ≤ r → s < r
below u s r e f l = grind (arith, nat_tests)

mark_ages : (lead b : Backup) (v w : Volumes) → b.volumes ≡ v → is_running w ≡ false → ((s : ℕ) → v ≡ Taken s → s ≤ b.received → (w ≡ Taken s) ⊎ (s < b.received)) → Ages lead b (with_volumes b w)
mark_ages lead b v w e runs f = ages_mark lead b (with_volumes b w) refl runs (λ s h l. f s (sym e ∙ h) l)

pub marks_age : (lead b : Backup) (v : Volumes) → b.volumes ≡ v → Every (Ages lead b) (map (with_volumes b) (marks b.received v))
marks_age lead b (Running points) e = (mark_ages lead b (Running points) Taking e refl (λ s h l. cc), (mark_ages lead b (Running points) (Taken b.received) e refl (λ s h l. cc), tt))
marks_age lead b Taking e = (mark_ages lead b Taking (Taken b.received) e refl (λ s h l. cc), tt)
marks_age lead b (Taken u) e =
    elim (u == b.received) as (λ m. (u == b.received) ≡ m → Every (Ages lead b) (map (with_volumes b) (if m then [] else Taking ∷ Taken b.received ∷ []))) [
      | true ↦ λ _. tt
      | false ↦ λ f. (
        mark_ages lead b (Taken u) Taking e refl (λ s h l. inr (below u s b.received f (taken_is u s h) l)),
        (mark_ages lead b (Taken u) (Taken b.received) e refl (λ s h l. inr (below u s b.received f (taken_is u s h) l)), tt),
      )
    ] refl

-- messages

-- a backup that stored messages up to a position
pub record Within (first : Backup) (upto : ℕ) (b : Backup) : Type 0 where
  pub from : first.received ≤ b.received
  pub most : b.received ≤ max first.received upto
  pub volumes : b.volumes ≡ first.volumes

pub within_itself : (b : Backup) (upto : ℕ) → Within b upto b
within_itself b upto = record { from = at_most b.received 0; most = max_left b.received upto; volumes = refl }

within_store : (first b : Backup) (upto to : ℕ) → Within first upto b → nat_lt b.received to ≡ true → to ≤ upto → Within first upto (stored to b)
within_store first b upto to w below l = record {
  from = up first.received b.received to w.from below;
  most = step first.received upto to l;
  volumes = w.volumes;
}
  where
    up : (f r t : ℕ) → f ≤ r → nat_lt r t ≡ true → f ≤ t
    up f r t h g = grind (arith, nat_tests)

    step : (f u t : ℕ) → t ≤ u → t ≤ max f u
    step f u t h = grind arith

pub within_parts : (layout : Layout) (first b : Backup) (upto to : ℕ) → Within first upto b → to ≤ upto → Every (Within first upto) (store_parts layout to b)
within_parts layout first b upto to w l =
    elim (nat_lt b.received to) as (λ m. nat_lt b.received to ≡ m → Every (Within first upto) (if m then (if is_due layout b then rolled b ∷ stored to (rolled b) ∷ [] else stored to b ∷ []) else [])) [
      | true ↦ λ e. elim (is_due layout b) as (λ m. Every (Within first upto) (if m then rolled b ∷ stored to (rolled b) ∷ [] else stored to b ∷ [])) [
        | true ↦ (rolls, (within_store first (rolled b) upto to rolls e l, tt))
        | false ↦ (within_store first b upto to w e l, tt)
      ]
      | false ↦ λ e. tt
    ] refl
  where
    rolls : Within first upto (rolled b)
    rolls = record { from = w.from; most = w.most; volumes = w.volumes }

-- what is received after a message
pub store_ends : (layout : Layout) (b : Backup) (to : ℕ) → (after_all b (store_parts layout to b)).received ≡ (if nat_lt b.received to then to else b.received)
store_ends layout b to =
    elim (nat_lt b.received to) as (λ m. (after_all b (if m then (if is_due layout b then rolled b ∷ stored to (rolled b) ∷ [] else stored to b ∷ []) else [])).received ≡ (if m then to else b.received)) [
      | true ↦ elim (is_due layout b) as (λ m. (after_all b (if m then rolled b ∷ stored to (rolled b) ∷ [] else stored to b ∷ [])).received ≡ to) [ true ↦ refl | false ↦ refl ]
      | false ↦ refl
    ]

within_after : (layout : Layout) (first b : Backup) (upto to : ℕ) → Within first upto b → to ≤ upto → Within first upto (after_all b (store_parts layout to b))
within_after layout first b upto to w l = every_all (Within first upto) b (store_parts layout to b) w (within_parts layout first b upto to w l)

-- several messages, none of which ends above a position
pub within_stores : (layout : Layout) (first b : Backup) (upto n from : ℕ) → Within first upto b → Every (Within first upto) (stores_parts layout (ends n from upto) b)
within_stores layout first b upto zero from w = tt
within_stores layout first b upto (suc n) from w =
    elim (nat_lt from upto) as (λ m. Every (Within first upto) (stores_parts layout (if m then min (from + 64) upto ∷ ends n (min (from + 64) upto) upto else []) b)) [
      | true ↦ every_append (Within first upto) (store_parts layout to b) (stores_parts layout (ends n to upto) (after_all b (store_parts layout to b)))
          (within_parts layout first b upto to w (low from upto))
          (within_stores layout first (after_all b (store_parts layout to b)) upto n to (within_after layout first b upto to w (low from upto)))
      | false ↦ tt
    ]
  where
    to : ℕ
    to = min (from + 64) upto

    low : (f u : ℕ) → min (f + 64) u ≤ u
    low f u = grind arith

-- together they reach the position
pub stores_reach : (layout : Layout) (b : Backup) (upto n from : ℕ) → b.received ≡ from → upto - from ≤ n → upto ≤ (after_all b (stores_parts layout (ends n from upto) b)).received
stores_reach layout b upto zero from e l = subst (λ r. upto ≤ r) (sym e) (none upto from l)
  where
    none : (u f : ℕ) → u - f ≤ 0 → u ≤ f
    none u f h = omega arith
stores_reach layout b upto (suc n) from e l =
    elim (nat_lt from upto) as (λ m. nat_lt from upto ≡ m → upto ≤ (after_all b (stores_parts layout (if m then min (from + 64) upto ∷ ends n (min (from + 64) upto) upto else []) b)).received) [
      | true ↦ λ f. subst (λ (x : Backup). upto ≤ x.received) (sym (all_append b (store_parts layout to b) (stores_parts layout (ends n to upto) (after_all b (store_parts layout to b)))))
          (stores_reach layout (after_all b (store_parts layout to b)) upto n to (store_ends layout b to ∙ reached b.received from upto e f) (less from upto n f l))
      | false ↦ λ f. subst (λ r. upto ≤ r) (sym e) (not_below from upto f)
    ] refl
  where
    to : ℕ
    to = min (from + 64) upto

    reached : (r f u : ℕ) → r ≡ f → nat_lt f u ≡ true → (if nat_lt r (min (f + 64) u) then min (f + 64) u else r) ≡ min (f + 64) u
    reached r f u h g = grind (arith, nat_tests)

    less : (f u k : ℕ) → nat_lt f u ≡ true → u - f ≤ suc k → u - min (f + 64) u ≤ k
    less f u k g h = grind (arith, nat_tests)

    not_below : (f u : ℕ) → nat_lt f u ≡ false → u ≤ f
    not_below f u g = grind (arith, nat_tests)

pub within_ages : (lead b new : Backup) → Within b lead.received new → Ages lead b new
within_ages lead b new w = ages_copy lead b new w.volumes w.from w.most

-- a copy brings the one that is behind to the lead's prefix
pub copies_age : (layout : Layout) (lead b : Backup) → Every (Ages lead b) (copy_parts layout b lead)
copies_age layout lead b = every_weaker (Within b lead.received) (Ages lead b) (copy_parts layout b lead) (within_ages lead b)
    (within_stores layout b b lead.received (lead.received - b.received) b.received (within_itself b lead.received))

pub copy_reaches : (layout : Layout) (lead b : Backup) → lead.received ≤ (after_all b (copy_parts layout b lead)).received
copy_reaches layout lead b = stores_reach layout b lead.received (lead.received - b.received) b.received refl (at_most (lead.received - b.received) 0)

within_running : (lead b new : Backup) (upto : ℕ) → is_running b.volumes ≡ true → Within b upto new → Ages lead b new
within_running lead b new upto r w = ages_running lead b new r w.from

-- a delivery to a running backup
pub deliver_ages : (layout : Layout) (lead b : Backup) (m : Option (ℕ × ℕ)) → is_running b.volumes ≡ true → Every (Ages lead b) (deliver_parts layout m b)
deliver_ages layout lead b None r = tt
deliver_ages layout lead b (Some range) r = every_weaker (Within b range.1) (Ages lead b) (store_parts layout range.1 b) (λ x w. within_running lead b x range.1 r w)
    (within_parts layout b b range.1 range.1 (within_itself b range.1) (at_most range.1 0))

pub ages_points : (lead b new : Backup) → new.received ≡ b.received → is_running new.volumes ≡ is_running b.volumes → ((s : ℕ) → b.volumes ≡ Taken s → new.volumes ≡ Taken s) → Ages lead b new
ages_points lead b new same runs f = record {
  rises = subst (λ n. b.received ≤ n) (sym same) (at_most b.received 0);
  stays = λ h. runs ∙ h;
  bounded = λ h. subst (λ n. n ≤ max b.received lead.received) (sym same) (max_left b.received lead.received);
  holds = λ s h l. inl (f s h);
}
