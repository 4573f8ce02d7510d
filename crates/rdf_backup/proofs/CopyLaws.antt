-- What a copy makes of the state, message by message.
use Rattle.std.proofs.Common.{◌≡◌, ℕ, zero, suc, ◌+◌, ◌≤◌, min, nat_lt, if◌then◌else◌, Bool, true, false, List, [], ◌∷◌, ◌++◌, length, length-append, ◌⊎◌, inl, inr, ⊎_elim, refl, sym, ap, ◌∙◌, subst, arith}
use Rattle.std.proofs.lemmas.Bool.{lt-ltb, ltb-true}
use Rattle.rdf_types.specs.declared.layout.Layout.{Layout}
use Rattle.rdf_types.specs.declared.records.Record.{Record}
use Rattle.rdf_disk.specs.Files.{Contents}
use Rattle.image_disks.specs.Blocks.{Plan}
use Rattle.image_disks.specs.Spelled.{block_of}
use Rattle.image_disks.specs.Values.{Value, received as received_of, stages}
use Rattle.image_disks.specs.Values.{stored as stored_value}
use Rattle.image_disks.specs.Standing.{StandsFor as StandsForValue, StandsForOne}
use Rattle.image_trails.specs.Memory.{plan_of}
use Rattle.copyaudit.specs.Copying.{part_of, copied, copy_stages}
use Rattle.copyaudit.specs.CopyingLaws.{next, none_copied, first_copied, first_stages}
use Rattle.rdf_core.specs.Effects.{after_parts, after_all}
use Rattle.rdf_core.specs.Backup.{Backup as State, store_parts, ends, stores_parts}
use Rattle.rdf_core.specs.Sound.{IsSound}
use Rattle.rdf_core.specs.PartLaws.{Every, none_done, every_all, every_append, every_weaker}
use Rattle.rdf_backup.specs.Standing.{IsValueOf}
use Rattle.rdf_backup.proofs.Storing.{IsPartway, partway_none, after_store, stored_tells, stage_of, stored_stays, parts_keep}

-- parts one after another

after_append : (b : State) (xs ys : List State) → after_all b (xs ++ ys) ≡ after_all (after_all b xs) ys
after_append b [] ys = refl
after_append b (x ∷ xs) ys = after_append x xs ys

first_parts : (b : State) (xs ys : List State) (n : ℕ) → n ≤ length xs → after_parts b (xs ++ ys) n ≡ after_parts b xs n
first_parts b [] ys zero few = none_done b ys
first_parts b [] ys (suc n) few = absurd (omega (arith, few))
first_parts b (x ∷ xs) ys zero few = refl
first_parts b (x ∷ xs) ys (suc n) few = first_parts x xs ys n (omega (arith, few))

rest_parts : (b : State) (xs ys : List State) (n k : ℕ) → k ≡ length xs + n → after_parts b (xs ++ ys) k ≡ after_parts (after_all b xs) ys n
rest_parts b [] ys n k e = ap (λ m. after_parts b ys m) (let f : k ≡ n = omega (arith, e) in f)
rest_parts b (x ∷ xs) ys n zero e = absurd (omega (arith, e))
rest_parts b (x ∷ xs) ys n (suc k) e = rest_parts x xs ys n k (omega (arith, e))

partway_front : (b : State) (xs ys : List State) (v : Value) → IsPartway b xs v → IsPartway b (xs ++ ys) v
partway_front b xs ys v (n, (few, tells)) = (n, (omega (arith, few, length-append xs ys), subst (λ s. IsValueOf s v) (sym (first_parts b xs ys n few)) tells))

partway_behind : (b : State) (xs ys : List State) (v : Value) → IsPartway (after_all b xs) ys v → IsPartway b (xs ++ ys) v
partway_behind b xs ys v (n, (few, tells)) = (length xs + n, (omega (arith, few, length-append xs ys), subst (λ s. IsValueOf s v) (sym (rest_parts b xs ys n (length xs + n) refl)) tells))

-- one of the values in front, or of those behind
split_one : (plan : Plan) (c : Contents) (vs ws : List Value) → StandsForOne block_of plan (vs ++ ws) c → StandsForOne block_of plan vs c ⊎ StandsForOne block_of plan ws c
split_one plan c [] ws one = inr one
split_one plan c (v ∷ vs) ws one =
    ⊎_elim (λ (h : StandsForValue block_of plan v c). inl (inl h))
    (λ (h : StandsForOne block_of plan (vs ++ ws) c). ⊎_elim (λ (g : StandsForOne block_of plan vs c). inl (inr g)) (λ (g : StandsForOne block_of plan ws c). inr g) (split_one plan c vs ws h)) one

-- what no part of a copy changes
pub record Keeps (b x : State) : Type 0 where
  pub up : x.up ≡ b.up
  pub volumes : x.volumes ≡ b.volumes
  pub stops : x.stops ≡ b.stops

module _ (layout : Layout) (lead : Value) (upto : ℕ) where
  abbrev plan : Plan
  plan = plan_of layout

  none_stages : (v : Value) → copy_stages plan lead [] v ≡ v ∷ []
  unfolding copy_stages
  none_stages v = refl

  -- one message

  took_tells : (b : State) (v : Value) (to : ℕ) → IsValueOf b v → nat_lt b.received to ≡ true → IsValueOf (after_all b (store_parts layout to b)) (next plan lead to v)
  took_tells b v to h behind =
      let ship = part_of lead (received_of v) to in
      subst (λ c. IsValueOf (after_all b (store_parts layout to b)) (if c then stored_value plan (part_of lead (received_of v) to) v else v)) (sym (ap (λ n. nat_lt n to) h.received_is ∙ behind)) (stored_tells layout ship b v h behind)

  took_received : (b : State) (to : ℕ) → nat_lt b.received to ≡ true → (after_all b (store_parts layout to b)).received ≡ to
  took_received b to behind = ap (λ (x : State). x.received) (after_store layout (part_of lead 0 to) b behind)

  took_keeps : (b : State) (to : ℕ) → nat_lt b.received to ≡ true → Keeps b (after_all b (store_parts layout to b))
  took_keeps b to behind =
      let s = stored_stays layout (part_of lead 0 to) b in
      subst (λ x. Keeps b x) (sym (after_store layout (part_of lead 0 to) b behind)) (record { up = s.up; volumes = s.volumes; stops = s.stops })

  -- the end of the next message
  abbrev end : ℕ → ℕ
  end from = min (from + 64) upto

  is_behind : (b : State) (from : ℕ) → b.received ≡ from → nat_lt from upto ≡ true → nat_lt b.received (end from) ≡ true
  is_behind b from at some = lt-ltb b.received (end from) (omega (arith, at, ltb-true from upto some))

  abbrev then_ends : ℕ → ℕ → Bool → List ℕ
  then_ends n from c = if c then end from ∷ ends n (end from) upto else []

  -- all of them

  pub copied_tells : (n from : ℕ) (b : State) (v : Value) → b.received ≡ from → IsValueOf b v → IsValueOf (after_all b (stores_parts layout (ends n from upto) b)) (copied plan lead (ends n from upto) v)
  copied_tells zero from b v at h = subst (λ x. IsValueOf b x) (sym (none_copied plan lead v)) h
  copied_tells (suc n) from b v at h = by_case (nat_lt from upto) refl (λ x y is g. copied_tells n (end from) x y is g)
    where
      by_case : (c : Bool) → nat_lt from upto ≡ c → ((x : State) (y : Value) → x.received ≡ end from → IsValueOf x y → IsValueOf (after_all x (stores_parts layout (ends n (end from) upto) x)) (copied plan lead (ends n (end from) upto) y)) → IsValueOf (after_all b (stores_parts layout (then_ends n from c) b)) (copied plan lead (then_ends n from c) v)
      by_case true some more =
          let behind = is_behind b from at some in
          let then_ = after_all b (store_parts layout (end from) b) in
          subst (λ s. IsValueOf s (copied plan lead (end from ∷ ends n (end from) upto) v)) (sym (after_append b (store_parts layout (end from) b) (stores_parts layout (ends n (end from) upto) then_)))
          (subst (λ x. IsValueOf (after_all then_ (stores_parts layout (ends n (end from) upto) then_)) x) (sym (first_copied plan lead (end from) (ends n (end from) upto) v))
          (more then_ (next plan lead (end from) v) (took_received b (end from) behind) (took_tells b v (end from) h behind)))
      by_case false none more = subst (λ x. IsValueOf b x) (sym (none_copied plan lead v)) h

  pub copied_keeps : (n from : ℕ) (b : State) → b.received ≡ from → Keeps b (after_all b (stores_parts layout (ends n from upto) b))
  copied_keeps zero from b at = record { up = refl; volumes = refl; stops = refl }
  copied_keeps (suc n) from b at = by_case (nat_lt from upto) refl (λ x is. copied_keeps n (end from) x is)
    where
      by_case : (c : Bool) → nat_lt from upto ≡ c → ((x : State) → x.received ≡ end from → Keeps x (after_all x (stores_parts layout (ends n (end from) upto) x))) → Keeps b (after_all b (stores_parts layout (then_ends n from c) b))
      by_case true some rest =
          let behind = is_behind b from at some in
          let then_ = after_all b (store_parts layout (end from) b) in
          let one = took_keeps b (end from) behind in
          let more = rest then_ (took_received b (end from) behind) in
          subst (λ s. Keeps b s) (sym (after_append b (store_parts layout (end from) b) (stores_parts layout (ends n (end from) upto) then_)))
          (record { up = more.up ∙ one.up; volumes = more.volumes ∙ one.volumes; stops = more.stops ∙ one.stops })
      by_case false none rest = record { up = refl; volumes = refl; stops = refl }

  -- what a copy passes through tells some first ones of its parts
  pub copy_reached : (n from : ℕ) (b : State) (v : Value) (c : Contents) → b.received ≡ from → IsValueOf b v → StandsForOne block_of plan (copy_stages plan lead (ends n from upto) v) c →
      (x : Value) × (StandsForValue block_of plan x c × IsPartway b (stores_parts layout (ends n from upto) b) x)
  copy_reached zero from b v c at h one = none_reached b v c h one
    where
      none_reached : (b : State) (v : Value) (c : Contents) → IsValueOf b v → StandsForOne block_of plan (copy_stages plan lead [] v) c → (x : Value) × (StandsForValue block_of plan x c × IsPartway b [] x)
      none_reached b v c h one = ⊎_elim (λ (g : StandsForValue block_of plan v c). (v, (g, partway_none b [] v h))) (λ g. absurd g) (subst (λ vs. StandsForOne block_of plan vs c) (none_stages v) one)
  copy_reached (suc n) from b v c at h one = by_case (nat_lt from upto) refl one (λ x y is g stands. copy_reached n (end from) x y c is g stands)
    where
      by_case : (t : Bool) → nat_lt from upto ≡ t → StandsForOne block_of plan (copy_stages plan lead (then_ends n from t) v) c →
          ((x : State) (y : Value) → x.received ≡ end from → IsValueOf x y → StandsForOne block_of plan (copy_stages plan lead (ends n (end from) upto) y) c → (z : Value) × (StandsForValue block_of plan z c × IsPartway x (stores_parts layout (ends n (end from) upto) x) z)) →
          (x : Value) × (StandsForValue block_of plan x c × IsPartway b (stores_parts layout (then_ends n from t) b) x)
      by_case true some one more =
          let behind = is_behind b from at some in
          let then_ = after_all b (store_parts layout (end from) b) in
          ⊎_elim
          (λ (g : StandsForOne block_of plan (stages plan (part_of lead (received_of v) (end from)) v) c).
          let r = stage_of layout (part_of lead (received_of v) (end from)) b v c h behind g in
          (r.0, (r.1.0, partway_front b (store_parts layout (end from) b) (stores_parts layout (ends n (end from) upto) then_) r.0 r.1.1)))
          (λ (g : StandsForOne block_of plan (copy_stages plan lead (ends n (end from) upto) (next plan lead (end from) v)) c).
          let r = more then_ (next plan lead (end from) v) (took_received b (end from) behind) (took_tells b v (end from) h behind) g in
          (r.0, (r.1.0, partway_behind b (store_parts layout (end from) b) (stores_parts layout (ends n (end from) upto) then_) r.0 r.1.1)))
          (split_one plan c (stages plan (part_of lead (received_of v) (end from)) v) (copy_stages plan lead (ends n (end from) upto) (next plan lead (end from) v))
          (subst (λ vs. StandsForOne block_of plan vs c) (first_stages plan lead (end from) (ends n (end from) upto) v) one))
      by_case false none one more = ⊎_elim (λ (g : StandsForValue block_of plan v c). (v, (g, partway_none b [] v h))) (λ g. absurd g) (subst (λ vs. StandsForOne block_of plan vs c) (none_stages v) one)

  -- each part keeps the volumes, and its positions are sound
  module _ (trail : List Record) (within : upto ≤ length trail) where
    near : (from len : ℕ) → upto ≤ len → end from ≤ len
    near from len h = omega (arith, h)

    pub copy_keep : (n from : ℕ) (b x : State) → x.volumes ≡ b.volumes → IsSound layout trail x → Every (λ y. (y.volumes ≡ b.volumes) × IsSound layout trail y) (stores_parts layout (ends n from upto) x)
    copy_keep zero from b x same sound = tt
    copy_keep (suc n) from b x same sound = by_case (nat_lt from upto) (λ y e s. copy_keep n (end from) b y e s)
      where
        first : Every (λ y. (y.volumes ≡ b.volumes) × IsSound layout trail y) (store_parts layout (end from) x)
        first = every_weaker (λ y. (y.volumes ≡ x.volumes) × IsSound layout trail y) (λ y. (y.volumes ≡ b.volumes) × IsSound layout trail y) (store_parts layout (end from) x) (λ y h. (h.0 ∙ same, h.1))
            (parts_keep layout (part_of lead 0 (end from)) x trail (near from (length trail) within) sound)

        by_case : (c : Bool) → ((y : State) → y.volumes ≡ b.volumes → IsSound layout trail y → Every (λ z. (z.volumes ≡ b.volumes) × IsSound layout trail z) (stores_parts layout (ends n (end from) upto) y)) →
            Every (λ y. (y.volumes ≡ b.volumes) × IsSound layout trail y) (stores_parts layout (then_ends n from c) x)
        by_case true more =
            let then_ = after_all x (store_parts layout (end from) x) in
            let after = every_all (λ y. (y.volumes ≡ b.volumes) × IsSound layout trail y) x (store_parts layout (end from) x) (same, sound) first in
            every_append (λ y. (y.volumes ≡ b.volumes) × IsSound layout trail y) (store_parts layout (end from) x) (stores_parts layout (ends n (end from) upto) then_) first
            (more then_ after.0 after.1)
        by_case false more = tt
