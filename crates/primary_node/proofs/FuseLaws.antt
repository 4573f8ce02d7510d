-- Fuses of the disks of a node.
use Rattle.std.proofs.Common.{◌≡◌, ℕ, ◌==◌, ◌≤◌, ◌<◌, Bool, true, false, nat_lt, if◌then◌else◌, [], ◌∷◌, length, Option, Some, None, refl, sym, ap, ◌∙◌, subst, arith}
use Rattle.std.specs.Prelude.{slice_get}
use Rattle.std.specs.Option.{option_map}
use Rattle.std.proofs.lemmas.Bool.Decides.{nat_tests}
use Rattle.std.specs.Prelude.{MatchOption, suc}
use Rattle.rdf_types.specs.declared.layout.Layout.{Layout}
use Rattle.rdf_types.specs.declared.records.Node.TheVariants.{A}
use Rattle.rdf_disk.specs.Files.{Disk}
use Rattle.rdf_disk.specs.Outcomes.{Narrows}
use Rattle.rdf_disk.specs.declared.disk.Disk.{Ghosts}
use Rattle.rdf_disk.specs.declared.fault.Tear.{Tear}
use Rattle.plan_lang.specs.declared.lines.Line.TheVariants as line
use Rattle.tmf_core.specs.States.{tmf_volumes, FusedAt}
use Rattle.rdf_core.specs.declared.replies.Reply.TheVariants.{No, Done}
use Rattle.rdf_core.specs.Primary.{Primary as State}
use Rattle.rdf_primary.specs.declared.primary.Primary.{Primary}
use Rattle.rdf_primary.specs.States.{state_of}
use Rattle.rdf_primary.specs.Standing.{VolumeStandsFor}
use Rattle.primary_node.specs.declared.node.PrimaryNode.{PrimaryNode}
use Rattle.primary_node.specs.Nodes.{IsAt, IsUpAt, IsOffAt, HasLayout, MayRest, MayRun, MayServe, standing_off}
use Rattle.primary_node.proofs.NodeLaws.{at_up, at_off, off_at, done_follows, refused_follows}
use Rattle.primary_node.proofs.OffLaws.{lost_at}
use Rattle.rdf_disk.specs.Counts.{Counts, fused}
use Rattle.tmf_core.specs.declared.store.Store.{Store}
use Rattle.tmf_core.specs.Disks.{disks_of}
use Rattle.rdf_core.specs.declared.events.Standing.{Standing}
use Rattle.rdf_core.specs.declared.replies.NoWhy.TheVariants as no
use Rattle.rdf_core.specs.Effects.{when, first}
use Rattle.rdf_core.specs.Primary.{is_lost}
use Rattle.primary_node.specs.Cuts.{IfBoth, Each}
use Rattle.primary_node.specs.Lines.{Follows}
use Rattle.primary_node.proofs.CutLaws.{goes_off}
pub use Rattle.node_disks.specs.FuseLaws.{after_fuse, still_off, fuse_fine, fuse_raises, put_fused, put_narrows}
use Rattle.primary_node.proofs.CauseLaws.{counts_disk}

module _ {D : Type 0} (counts : D → Counts) (disk : ℕ) where
  abbrev Fused : ℕ → D → D → Type 0
  Fused i x y = counts y ≡ after_fuse (i == disk) (counts x)

  of_options : (b : Bool) (x y : Option D) → option_map counts y ≡ (if b then option_map fused (option_map counts x) else option_map counts x) → IfBoth (λ x y. counts y ≡ after_fuse b (counts x)) x y
  of_options b None None e = tt
  of_options true None (Some y) e = absurd (none (counts y) e)
    where
      none : (c : Counts) → (let some : Option Counts = Some c in some ≡ None) → ⊥
      none c g = cc
  of_options false None (Some y) e = absurd (none (counts y) e)
    where
      none : (c : Counts) → (let some : Option Counts = Some c in some ≡ None) → ⊥
      none c g = cc
  of_options true (Some x) None e = some (fused (counts x)) e
    where
      some : (c : Counts) → (let is : Option Counts = Some c in None ≡ is) → ⊥
      some c g = cc
  of_options false (Some x) None e = some (counts x) e
    where
      some : (c : Counts) → (let is : Option Counts = Some c in None ≡ is) → ⊥
      some c g = cc
  of_options true (Some x) (Some y) e = same (counts y) (fused (counts x)) e
    where
      same : (c k : Counts) → Some c ≡ Some k → c ≡ k
      same c k g = cc
  of_options false (Some x) (Some y) e = same (counts y) (counts x) e
    where
      same : (c k : Counts) → Some c ≡ Some k → c ≡ k
      same c k g = cc

  pub fused_each : (old new : Store D) → FusedAt counts disk old new → Each (λ i x y. counts y ≡ after_fuse (i == disk) (counts x)) (disks_of old.trail old.volumes.items) (disks_of new.trail new.volumes.items)
  fused_each old new h = λ i. of_options (i == disk) (slice_get (disks_of old.trail old.volumes.items) i) (slice_get (disks_of new.trail new.volumes.items) i)
      (sym (counts_disk counts new i) ∙ h i ∙ ap (λ o. if i == disk then option_map fused o else o) (counts_disk counts old i))

-- a fuse of a disk that is there is refused by a lost primary alone
pub fuse_allowed : (layout : Layout) (s : Standing) (disk : ℕ) → is_lost s ≡ false → disk ≤ layout.volumes → first (when (is_lost s) no.Lost ∷ when (nat_lt layout.volumes disk) no.Volume ∷ []) ≡ None
fuse_allowed layout s disk lost there = ap (λ b. first (when b no.Lost ∷ when (nat_lt layout.volumes disk) no.Volume ∷ [])) lost ∙ ap (λ b. first (when b no.Volume ∷ [])) (within disk layout.volumes there)
  where
    within : (d v : ℕ) → d ≤ v → nat_lt v d ≡ false
    within d v h = grind (arith, nat_tests)

module _ {D : Type 0} {d : Ghosts D} (files : D → Disk) (layout : Layout) (a : State) (rise disk calls : ℕ) (tear : Tear) (old new : PrimaryNode D d) where
  -- of a node that is down
  pub fuse_off_follows : IsAt files layout a old → old.primary ≡ None → new.primary ≡ None → old.lost ≡ false → new.lost ≡ old.lost → length old.disks.items ≡ suc old.volumes → disk ≤ old.volumes →
      Each (λ i x y. (m : ℕ) → Narrows (files x m) (files y m)) old.disks.items new.disks.items → Follows files layout a (line.Fuse A disk calls tear) rise Done new
  fuse_off_follows at was is not_lost lost many there narrow =
      let h = off_at files layout a old was at in
      let down = h.stood ∙ ap standing_off not_lost in
      done_follows files layout a (line.Fuse A disk calls tear) rise Done new (fuse_allowed layout a.standing disk (ap (λ s. is_lost s) down) (omega (arith, h.stands.count, many, there))) refl
      (at_off files layout a new is (record {
        stood = h.stood ∙ sym (ap standing_off lost);
        none_active = h.none_active;
        stands = goes_off files layout a a old.disks.items new.disks.items refl (λ v c k. subst (λ s. VolumeStandsFor s v a.trail c) (sym down) k) narrow h.stands;
      })) refl

  -- of a primary that is up
  pub fuse_up_follows : (p q : Primary D d) → new.primary ≡ Some q → IsUpAt layout a p → (volumes : ℕ) → tmf_volumes p.tmf ≡ volumes → disk ≤ volumes → tmf_volumes q.tmf ≡ tmf_volumes p.tmf →
      ((stops : ℕ) → state_of stops q ≡ state_of stops p) → Follows files layout a (line.Fuse A disk calls tear) rise Done new
  fuse_up_follows p q e u volumes sized there many same =
      done_follows files layout a (line.Fuse A disk calls tear) rise Done new (fuse_allowed layout a.standing disk (ap (λ (s : State). is_lost s.standing) u.state) (omega (arith, u.laid, sized, there))) refl
      (at_up files layout a new q e (record { laid = u.laid ∙ sym many; state = u.state ∙ sym (same a.stops) })) refl

module _ {D : Type 0} {d : Ghosts D} (tells : Type 0) (files : D → Disk) (counts : D → Counts) (layout : Layout) (a : State) (rise disk calls : ℕ) (tear : Tear) (n : PrimaryNode D d) (serves : MayServe tells files counts n) (at : IsAt files layout a n) where
  pub fuse_lost : n.lost ≡ true → Follows files layout a (line.Fuse A disk calls tear) rise (No no.Lost) n
  fuse_lost lost = refused_follows files layout a (line.Fuse A disk calls tear) rise no.Lost n (ap (λ s. first (when (is_lost s) no.Lost ∷ when (nat_lt layout.volumes disk) no.Volume ∷ [])) (lost_at n tells files counts layout a lost serves at)) at

  abbrev Serves : Option (Primary D d) → Type 0
  Serves o = MatchOption o (MayRest tells files counts n.volumes n.disks.items) (λ p. MayRun tells files counts n.volumes p × (n.lost ≡ false) × HasLayout n.volumes)

  abbrev At : Option (Primary D d) → Type 0
  At o = MatchOption o (IsOffAt files layout a (standing_off n.lost) n.disks.items) (λ p. IsUpAt layout a p)

  not_lost : n.lost ≡ false → is_lost a.standing ≡ false
  not_lost lost = go n.primary at
    where
      go : (o : Option (Primary D d)) → At o → is_lost a.standing ≡ false
      go None h = ap (λ s. is_lost s) (h.stood ∙ ap standing_off lost)
      go (Some p) h = ap (λ (s : State). is_lost s.standing) h.state

  volumes_are : layout.volumes ≡ n.volumes
  volumes_are = go n.primary serves at
    where
      go : (o : Option (Primary D d)) → Serves o → At o → layout.volumes ≡ n.volumes
      go None s h = omega (arith, s.many, h.stands.count)
      go (Some p) s h = h.laid ∙ s.0.sized

  pub fuse_beyond : n.lost ≡ false → n.volumes < disk → Follows files layout a (line.Fuse A disk calls tear) rise (No no.Volume) n
  fuse_beyond lost beyond = refused_follows files layout a (line.Fuse A disk calls tear) rise no.Volume n
      (ap (λ b. first (when b no.Lost ∷ when (nat_lt layout.volumes disk) no.Volume ∷ [])) (not_lost lost) ∙ ap (λ b. first (when b no.Volume ∷ [])) (above layout.volumes disk (omega (arith, volumes_are, beyond)))) at
    where
      above : (v k : ℕ) → v < k → nat_lt v k ≡ true
      above v k h = grind (arith, nat_tests)
