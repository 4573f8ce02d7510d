-- A store, part by part.
use Rattle.std.proofs.Common.{◌≡◌, inl, inr, ⊎_elim, ℕ, ◌<◌, refl, ◌∙◌, subst}
use Rattle.rdf_types.specs.declared.layout.Layout.{Layout}
use Rattle.rdf_disk.specs.Files.{Disk, Contents}
use Rattle.rdf_disk.specs.Outcomes.{Durably}
use Rattle.image_disks.specs.Blocks.{Plan}
use Rattle.image_disks.specs.Spelled.{block_of}
use Rattle.image_disks.specs.Values.{Value, Alike, Shipment, ready, written, stages}
use Rattle.image_disks.specs.Standing.{StandsFor, StandsEither, StandsForOne}
use Rattle.image_disks.specs.ValueLaws.{alike_itself, alike_trans, ready-alike, written-alike}
use Rattle.image_disks.specs.StandingLaws.{stands_alike}
use Rattle.image_trails.specs.declared.trails.ImageTrails.{ImageTrails}
use Rattle.image_trails.specs.Memory.{plan_of}
use Rattle.image_trails.specs.Trails.{trails_layout, trails_plan, trails_value, AreInUse, LeavesEither, StandAt}

-- the trails have this layout, and stand for that value
pub record AreAt {D : Type 0} (files : D → Disk) (a : Layout) (w : Value) (x : ImageTrails D) : Type 0 where
  pub laid : trails_layout x ≡ a
  pub stand : StandAt files w x

pub first_at : {D : Type 0} (files : D → Disk) (x : ImageTrails D) → AreInUse files x → AreAt files (trails_layout x) (trails_value x) x
first_at files x use_ = record { laid = refl; stand = record { in_use = use_; value = alike_itself (trails_value x) } }

-- one part more, whichever value alike to theirs is gone on from
module _ {D : Type 0} (files : D → Disk) (a : Layout) (w : Value) (x y : ImageTrails D) (at : AreAt files a w x) where
  step_at : (f : Plan → Value → Value) → ((v u : Value) → Alike v u → Alike (f (plan_of a) v) (f (plan_of a) u)) → trails_layout y ≡ trails_layout x → StandAt files (f (trails_plan x) (trails_value x)) y
      → AreAt files a (f (plan_of a) w) y
  step_at f f-alike same stand = record {
    laid = same ∙ at.laid;
    stand = record {
      in_use = stand.in_use;
      value = alike_trans (trails_value y) (f (plan_of a) (trails_value x)) (f (plan_of a) w)
          (subst (λ (b : Layout). Alike (trails_value y) (f (plan_of b) (trails_value x))) at.laid stand.value) (f-alike (trails_value x) w at.stand.value);
    };
  }

  step_left : (f : Plan → Value → Value) → ((v u : Value) → Alike v u → Alike (f (plan_of a) v) (f (plan_of a) u)) → LeavesEither files (f (trails_plan x) (trails_value x)) x y
      → Durably (files y.disk) (StandsEither block_of (plan_of a) w (f (plan_of a) w))
  step_left f f-alike either c may = ⊎_elim
      (λ (h : StandsFor block_of (plan_of a) (trails_value x) c). inl (stands_alike block_of (plan_of a) (trails_value x) w c at.stand.value h))
      (λ (h : StandsFor block_of (plan_of a) (f (plan_of a) (trails_value x)) c). inr (stands_alike block_of (plan_of a) (f (plan_of a) (trails_value x)) (f (plan_of a) w) c (f-alike (trails_value x) w at.stand.value) h))
      (subst (λ (b : Layout). StandsEither block_of (plan_of b) (trails_value x) (f (plan_of b) (trails_value x)) c) at.laid (either c may))

  pub ready_at : trails_layout y ≡ trails_layout x → StandAt files (ready (trails_plan x) (trails_value x)) y → AreAt files a (ready (plan_of a) w) y
  ready_at = step_at (λ p v. ready p v) (λ v u e. ready-alike (plan_of a) v u e)

  pub ready_left : LeavesEither files (ready (trails_plan x) (trails_value x)) x y → Durably (files y.disk) (StandsEither block_of (plan_of a) w (ready (plan_of a) w))
  ready_left = step_left (λ p v. ready p v) (λ v u e. ready-alike (plan_of a) v u e)

  pub written_at : (ship : Shipment) (t : ℕ) → t < 4 → trails_layout y ≡ trails_layout x → StandAt files (written (trails_plan x) ship t (trails_value x)) y → AreAt files a (written (plan_of a) ship t w) y
  written_at ship t tl = step_at (λ p v. written p ship t v) (λ v u e. written-alike (plan_of a) ship t v u tl e)

  pub written_left : (ship : Shipment) (t : ℕ) → t < 4 → LeavesEither files (written (trails_plan x) ship t (trails_value x)) x y → Durably (files y.disk) (StandsEither block_of (plan_of a) w (written (plan_of a) ship t w))
  written_left ship t tl = step_left (λ p v. written p ship t v) (λ v u e. written-alike (plan_of a) ship t v u tl e)

-- a part that was broken off: one of what the store passes through
module _ (plan : Plan) (ship : Shipment) (v : Value) (disk : Disk) where
  abbrev r : Value
  r = ready plan v

  abbrev w1 : Value
  w1 = written plan ship 1 r

  abbrev w2 : Value
  w2 = written plan ship 2 w1

  abbrev w3 : Value
  w3 = written plan ship 3 w2

  pick : (x y : Value) → ((c : Contents) → StandsFor block_of plan x c → StandsForOne block_of plan (stages plan ship v) c) → ((c : Contents) → StandsFor block_of plan y c → StandsForOne block_of plan (stages plan ship v) c)
      → Durably disk (StandsEither block_of plan x y) → Durably disk (StandsForOne block_of plan (stages plan ship v))
  pick x y f g either c may = ⊎_elim (λ (h : StandsFor block_of plan x c). f c h) (λ (h : StandsFor block_of plan y c). g c h) (either c may)

  pub at_ready : Durably disk (StandsEither block_of plan v r) → Durably disk (StandsForOne block_of plan (stages plan ship v))
  at_ready = pick v r (λ c h. inl h) (λ c h. inr (inl h))

  pub at_first : Durably disk (StandsEither block_of plan r w1) → Durably disk (StandsForOne block_of plan (stages plan ship v))
  at_first = pick r w1 (λ c h. inr (inl h)) (λ c h. inr (inr (inl h)))

  pub at_second : Durably disk (StandsEither block_of plan w1 w2) → Durably disk (StandsForOne block_of plan (stages plan ship v))
  at_second = pick w1 w2 (λ c h. inr (inr (inl h))) (λ c h. inr (inr (inr (inl h))))

  pub at_third : Durably disk (StandsEither block_of plan w2 w3) → Durably disk (StandsForOne block_of plan (stages plan ship v))
  at_third = pick w2 w3 (λ c h. inr (inr (inr (inl h)))) (λ c h. inr (inr (inr (inr (inl h)))))

  pub at_master : Durably disk (StandsEither block_of plan w3 (written plan ship 0 w3)) → Durably disk (StandsForOne block_of plan (stages plan ship v))
  at_master = pick w3 (written plan ship 0 w3) (λ c h. inr (inr (inr (inr (inl h))))) (λ c h. inr (inr (inr (inr (inr (inl h))))))
