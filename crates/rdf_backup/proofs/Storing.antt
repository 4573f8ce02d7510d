-- What a store makes of the state, part by part.
use Rattle.std.proofs.Common.{◌≡◌, ℕ, suc, ◌+◌, ◌-◌, ◌≤◌, nat_lt, nat_le, ◌&&◌, ◌==◌, if◌then◌else◌, Bool, true, false, List, [], ◌∷◌, ◌++◌, length, get_or, refl, sym, ap, ap₂, ◌∙◌, subst, arith, ⊎_elim}
use Rattle.std.specs.List.{AllByRecursion}
use Rattle.rdf_types.specs.declared.layout.Layout.{Layout}
use Rattle.rdf_types.specs.declared.records.Record.{Record}
use Rattle.rdf_disk.specs.Files.{Contents}
use Rattle.image_disks.specs.Blocks.{Plan}
use Rattle.image_disks.specs.Spelled.{block_of}
use Rattle.image_disks.specs.Values.{Value, Shipment, Alike, received as received_of, last_of, is_behind, with_block, written, ready, rolls, stages, stored as stored_value, rolled as rolled_value}
use Rattle.image_disks.specs.Standing.{StandsFor as StandsForValue, StandsForOne}
use Rattle.image_trails.specs.Memory.{plan_of}
use Rattle.rdf_core.specs.Effects.{after_parts, after_all}
use Rattle.rdf_core.specs.Backup.{Backup as State, last_start, is_due, rolled, stored, store_parts}
use Rattle.rdf_core.specs.Sound.{IsSound}
use Rattle.rdf_core.specs.PartLaws.{Every, none_done, all_done}
use Rattle.rdf_core.specs.SoundLaws.{sound_store}
use Rattle.rdf_backup.specs.Standing.{IsValueOf}

last_same : (starts : List ℕ) → last_of starts ≡ last_start starts
last_same [] = refl
last_same (s ∷ []) = refl
last_same (s ∷ t ∷ rest) =
    last_same (t ∷ rest)
    ∙ ap (λ (k : ℕ). get_or (t ∷ rest) k 0) (let e : suc (length rest) - 1 ≡ length rest = omega arith in e)
    ∙ sym (ap (λ (k : ℕ). get_or (s ∷ t ∷ rest) k 0) (let e : suc (suc (length rest)) - 1 ≡ suc (length rest) = omega arith in e))

-- values that are alike tell the same state
pub tells_alike : (b : State) (v w : Value) → Alike v w → IsValueOf b v → IsValueOf b w
tells_alike b v w a h = record {
  received_is = sym (a.top 0 (omega arith)) ∙ h.received_is;
  starts_are = sym a.starts ∙ h.starts_are;
  number_is = sym a.last ∙ h.number_is;
  phase_is = sym a.phase ∙ h.phase_is;
}

-- so many first ones of the parts are durable, as the value tells it
abbrev pub IsPartway : State → List State → Value → Type 0
IsPartway b parts v = (n : ℕ) × ((n ≤ length parts) × IsValueOf (after_parts b parts n) v)

pub partway_alike : (b : State) (parts : List State) (v w : Value) → Alike v w → IsPartway b parts v → IsPartway b parts w
partway_alike b parts v w a (n, (few, tells)) = (n, (few, tells_alike (after_parts b parts n) v w a tells))

pub partway_none : (b : State) (parts : List State) (v : Value) → IsValueOf b v → IsPartway b parts v
partway_none b parts v h = (0, (omega arith, subst (λ s. IsValueOf s v) (sym (none_done b parts)) h))

pub partway_all : (b : State) (parts : List State) (v : Value) → IsValueOf (after_all b parts) v → IsPartway b parts v
partway_all b parts v h = (length parts, (omega arith, subst (λ s. IsValueOf s v) (sym (all_done b parts)) h))

module _ (layout : Layout) (ship : Shipment) (b : State) where
  abbrev plan : Plan
  plan = plan_of layout

  -- a block of a secondary says nothing of the state
  second_tells : (x : State) (v : Value) (t : ℕ) → (0 == t) ≡ false → IsValueOf x v → IsValueOf x (written plan ship t v)
  second_tells x v t other h =
      elim (is_behind plan t ship v) as (λ m. IsValueOf x (if m then with_block plan t ship v else v)) [
        | true ↦ record { received_is = ap (λ (c : Bool). if c then ship.to else v.top 0) other ∙ h.received_is; starts_are = h.starts_are; number_is = h.number_is; phase_is = h.phase_is }
        | false ↦ h
      ]

  -- that of the master moves the received position
  master_tells : (x : State) (v : Value) → nat_lt (received_of v) ship.to ≡ true → IsValueOf x v → IsValueOf (stored ship.to x) (written plan ship 0 v)
  master_tells x v behind h =
      subst (λ m. IsValueOf (stored ship.to x) (if m then with_block plan 0 ship v else v)) (sym behind)
      (record { received_is = refl; starts_are = h.starts_are; number_is = h.number_is; phase_is = h.phase_is })

  same_due : (v : Value) → IsValueOf b v → rolls plan v ≡ is_due layout b
  same_due v h =
      ap (λ r. nat_le layout.extent (r - last_of v.starts) && nat_lt v.last 1000000000) h.received_is
      ∙ ap (λ k. nat_le layout.extent (b.received - k) && nat_lt v.last 1000000000) (last_same v.starts ∙ ap (λ ss. last_start ss) h.starts_are)
      ∙ ap (λ n. nat_le layout.extent (b.received - last_start b.starts) && nat_lt n 1000000000) h.number_is

  -- the state before the block is stored
  abbrev pub begun : State
  begun = if is_due layout b then rolled b else b

  ready_tells : (v : Value) → IsValueOf b v → IsValueOf begun (ready plan v)
  ready_tells v h =
      subst (λ m. IsValueOf begun (if m then rolled_value v else v)) (sym (same_due v h))
      (elim (is_due layout b) as (λ m. IsValueOf (if m then rolled b else b) (if m then rolled_value v else v)) [
        | true ↦ record { received_is = h.received_is; starts_are = ap₂ (λ (ss : List ℕ) (r : ℕ). ss ++ r ∷ []) h.starts_are h.received_is; number_is = ap (λ n. n + 1) h.number_is; phase_is = h.phase_is }
        | false ↦ h
      ])

  begun_received : begun.received ≡ b.received
  begun_received = elim (is_due layout b) as (λ m. (if m then rolled b else b).received ≡ b.received) [ true ↦ refl | false ↦ refl ]

  still_behind : (v : Value) → IsValueOf begun v → nat_lt b.received ship.to ≡ true → nat_lt (received_of v) ship.to ≡ true
  still_behind v h behind = ap (λ n. nat_lt n ship.to) (h.received_is ∙ begun_received) ∙ behind

  -- the value that a store leaves tells the state that it leaves
  stored_begun : (v : Value) → IsValueOf b v → nat_lt b.received ship.to ≡ true → IsValueOf (stored ship.to begun) (stored_value plan ship v)
  stored_begun v h behind =
      let three = second_tells begun (written plan ship 2 (written plan ship 1 (ready plan v))) 3 refl (second_tells begun (written plan ship 1 (ready plan v)) 2 refl (second_tells begun (ready plan v) 1 refl (ready_tells v h))) in
      master_tells begun (written plan ship 3 (written plan ship 2 (written plan ship 1 (ready plan v)))) (still_behind (written plan ship 3 (written plan ship 2 (written plan ship 1 (ready plan v)))) three behind) three

  -- the parts where something is new
  abbrev some_parts : List State
  some_parts = if is_due layout b then rolled b ∷ stored ship.to (rolled b) ∷ [] else stored ship.to b ∷ []

  parts_some : nat_lt b.received ship.to ≡ true → store_parts layout ship.to b ≡ some_parts
  parts_some behind = ap (λ (m : Bool). if m then some_parts else []) behind

  pub none_parts : nat_lt b.received ship.to ≡ false → store_parts layout ship.to b ≡ []
  none_parts known = ap (λ (m : Bool). if m then some_parts else []) known

  pub after_store : nat_lt b.received ship.to ≡ true → after_all b (store_parts layout ship.to b) ≡ stored ship.to begun
  after_store behind =
      ap (λ parts. after_all b parts) (parts_some behind)
      ∙ elim (is_due layout b) as (λ m. after_all b (if m then rolled b ∷ stored ship.to (rolled b) ∷ [] else stored ship.to b ∷ []) ≡ stored ship.to (if m then rolled b else b)) [ true ↦ refl | false ↦ refl ]

  pub stored_tells : (v : Value) → IsValueOf b v → nat_lt b.received ship.to ≡ true → IsValueOf (after_all b (store_parts layout ship.to b)) (stored_value plan ship v)
  stored_tells v h behind = subst (λ s. IsValueOf s (stored_value plan ship v)) (sym (after_store behind)) (stored_begun v h behind)

  begun_partway : (v : Value) → IsValueOf begun v → IsPartway b some_parts v
  begun_partway v h =
      (elim (is_due layout b) as (λ m. IsValueOf (if m then rolled b else b) v → IsPartway b (if m then rolled b ∷ stored ship.to (rolled b) ∷ [] else stored ship.to b ∷ []) v) [
        | true ↦ λ g. (1, (omega arith, g))
        | false ↦ λ g. (0, (omega arith, g))
      ]) h

  -- each value that a store passes through tells some first ones of its parts
  stages_partway : (v : Value) → IsValueOf b v → nat_lt b.received ship.to ≡ true → AllByRecursion (IsPartway b (store_parts layout ship.to b)) (stages plan ship v)
  stages_partway v h behind =
      let r = ready_tells v h in
      let one = second_tells begun (ready plan v) 1 refl r in
      let two = second_tells begun (written plan ship 1 (ready plan v)) 2 refl one in
      let three = second_tells begun (written plan ship 2 (written plan ship 1 (ready plan v))) 3 refl two in (
        partway_none b (store_parts layout ship.to b) v h,
        (
          way (ready plan v) r,
          (
            way (written plan ship 1 (ready plan v)) one,
            (
              way (written plan ship 2 (written plan ship 1 (ready plan v))) two,
              (way (written plan ship 3 (written plan ship 2 (written plan ship 1 (ready plan v)))) three, (partway_all b (store_parts layout ship.to b) (stored_value plan ship v) (stored_tells v h behind), tt)),
            ),
          ),
        ),
      )
    where
      way : (x : Value) → IsValueOf begun x → IsPartway b (store_parts layout ship.to b) x
      way x g = subst (λ parts. IsPartway b parts x) (sym (parts_some behind)) (begun_partway x g)

  pick : (vs : List Value) (c : Contents) → StandsForOne block_of plan vs c → AllByRecursion (IsPartway b (store_parts layout ship.to b)) vs →
      (x : Value) × (StandsForValue block_of plan x c × IsPartway b (store_parts layout ship.to b) x)
  pick [] c none all = absurd none
  pick (v ∷ vs) c one all = ⊎_elim (λ (h : StandsForValue block_of plan v c). (v, (h, all.0))) (λ (h : StandsForOne block_of plan vs c). pick vs c h all.1) one

  pub stage_of : (v : Value) (c : Contents) → IsValueOf b v → nat_lt b.received ship.to ≡ true → StandsForOne block_of plan (stages plan ship v) c →
      (x : Value) × (StandsForValue block_of plan x c × IsPartway b (store_parts layout ship.to b) x)
  stage_of v c h behind one = pick (stages plan ship v) c one (stages_partway v h behind)

  -- no part changes what is said of the volumes, or how often disks stopped
  pub record StaysUp (x : State) : Type 0 where
    pub up : x.up ≡ b.up
    pub volumes : x.volumes ≡ b.volumes
    pub stops : x.stops ≡ b.stops

  pub stored_stays : StaysUp (stored ship.to begun)
  stored_stays = elim (is_due layout b) as (λ m. StaysUp (stored ship.to (if m then rolled b else b))) [
    | true ↦ record { up = refl; volumes = refl; stops = refl }
    | false ↦ record { up = refl; volumes = refl; stops = refl }
  ]

  every_volumes : Every (λ x. x.volumes ≡ b.volumes) (store_parts layout ship.to b)
  every_volumes =
      elim (nat_lt b.received ship.to) as (λ m. Every (λ x. x.volumes ≡ b.volumes) (if m then some_parts else [])) [
        | true ↦ elim (is_due layout b) as (λ m. Every (λ x. x.volumes ≡ b.volumes) (if m then rolled b ∷ stored ship.to (rolled b) ∷ [] else stored ship.to b ∷ [])) [
          | true ↦ (refl, (refl, tt))
          | false ↦ (refl, tt)
        ]
        | false ↦ tt
      ]

  every_both : (P Q : State → Type 0) (xs : List State) → Every P xs → Every Q xs → Every (λ x. P x × Q x) xs
  every_both P Q [] h g = tt
  every_both P Q (x ∷ xs) h g = ((h.0, g.0), every_both P Q xs h.1 g.1)

  -- each part keeps the volumes, and its positions are sound
  pub parts_keep : (trail : List Record) → ship.to ≤ length trail → IsSound layout trail b → Every (λ x. (x.volumes ≡ b.volumes) × IsSound layout trail x) (store_parts layout ship.to b)
  parts_keep trail few sound = every_both (λ x. x.volumes ≡ b.volumes) (IsSound layout trail) (store_parts layout ship.to b) every_volumes (sound_store layout trail b ship.to few sound)
