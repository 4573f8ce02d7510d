-- Fuses of the disks of a backup's node.
use Rattle.std.proofs.Common.{◌≡◌, inl, inr, ℕ, suc, ◌==◌, ◌≤◌, ◌<◌, true, false, if◌then◌else◌, List, length, Option, Some, None, Ok, refl, sym, ap, ◌∙◌, subst, arith}
use Rattle.std.specs.Prelude.{MatchOption}
use Rattle.rdf_types.specs.declared.layout.Layout.{Layout}
use Rattle.rdf_types.specs.declared.records.Record.{Record}
use Rattle.rdf_disk.specs.Files.{Disk}
use Rattle.rdf_disk.specs.Counts.{Counts, fused}
use Rattle.rdf_disk.specs.Counts.Ending.{Fine}
use Rattle.rdf_disk.specs.Outcomes.{Narrows}
use Rattle.rdf_disk.specs.declared.disk.Disk.{Ghosts}
use Rattle.rdf_disk.specs.declared.fault.Tear.{Tear}
use Rattle.plan_lang.specs.declared.lines.Line.TheVariants as line
use Rattle.rdf_core.specs.declared.replies.NoWhy.TheVariants as no
use Rattle.rdf_core.specs.declared.replies.Reply.TheVariants.{No, Done}
use Rattle.rdf_core.specs.Backup.{Backup as State, Around}
use Rattle.rdf_backup.specs.declared.backup.Backup.{Backup}
use Rattle.rdf_backup.specs.States.{layout_of, state_of, disks_in, MayUse, Serves, value_of}
use Rattle.rdf_backup.specs.Replies.{FusedAt}
use Rattle.node_disks.specs.Cuts.{Each}
use Rattle.node_disks.specs.Counting.{Tells}
use Rattle.node_disks.specs.CutLaws.{same_length}
use Rattle.node_disks.specs.FuseLaws.{after_fuse, still_off, fuse_fine, fuse_raises}
use Rattle.backup_node.specs.declared.node.BackupNode.{BackupNode}
use Rattle.backup_node.specs.Nodes.{disks_at, IsAt, IsUpAt, IsOffAt, MayRest, MayRun, MayServe}
use Rattle.backup_node.specs.Lines.{Any, Follows, Performs, Does}
use Rattle.backup_node.proofs.LineLaws.{fuse_beyond, fuse_within}
use Rattle.backup_node.proofs.StandLaws.{each_of, still_stands}
use Rattle.backup_node.proofs.NodeLaws.{at_up, at_off, off_at, refused_follows, done_follows}
use Rattle.backup_node.proofs.SettleLaws.{each_off, each_was_off, serves_off, was_off, was_up}
use Rattle.backup_node.proofs.LaidLaws.{laid_off}
use Rattle.backup_node.proofs.KindLaws.{done_kept, fuse_replied}
use Rattle.backup_node.proofs.DoesLaws.{done_no}
use Rattle.backup_node.specs.Moves.{phase_among}

pub fused_each : {D : Type 0} {d : Ghosts D} (counts : D → Counts) (disk : ℕ) (old new : Backup D d) → FusedAt counts disk old new → Each (λ i x y. counts y ≡ after_fuse (i == disk) (counts x)) (disks_in old) (disks_in new)
fused_each counts disk old new h = each_of (λ i x y. counts y ≡ after_fuse (i == disk) (counts x)) (disks_in old) (disks_in new) h

module _ {D : Type 0} {d : Ghosts D} (files : D → Disk) (layout : Layout) (w : Around) (b : State) (rise disk calls : ℕ) (tear : Tear) where
  -- there is no such disk
  pub beyond_follows : (tells : Type 0) (counts : D → Counts) (n : BackupNode D d) → MayServe tells files counts n → IsAt files layout w.trail b n → n.volumes < disk → Follows files layout w n.name b (line.Fuse n.name disk calls tear) rise (No no.Volume) n
  beyond_follows tells counts n serves at far = refused_follows files layout w n.name b (line.Fuse n.name disk calls tear) rise no.Volume n (fuse_beyond layout w b n.name disk calls tear (subst (λ v. v < disk) (sym (volumes_are n.backup serves at)) far)) at
    where
      volumes_are : (o : Option (Backup D d)) → MatchOption o (MayRest counts n.volumes n.disks.items) (λ p. MayRun tells files counts n.volumes p) → MatchOption o (IsOffAt files layout w.trail b n.disks.items) (λ p. IsUpAt files layout w.trail b p) → layout.volumes ≡ n.volumes
      volumes_are None s h = same layout.volumes n.volumes (sym h.stands.count ∙ s.many)
        where
          same : (x y : ℕ) → suc x ≡ suc y → x ≡ y
          same x y e = omega (arith, e)
      volumes_are (Some p) s h = sym (ap (λ (y : Layout). y.volumes) h.laid) ∙ s.sized

  module _ (old new : BackupNode D d) where
    -- of a node that is down
    pub off_follows : IsAt files layout w.trail b old → old.backup ≡ None → new.backup ≡ None → length old.disks.items ≡ suc old.volumes → disk ≤ old.volumes →
        Each (λ i x y. (m : ℕ) → Narrows (files x m) (files y m)) old.disks.items new.disks.items → Follows files layout w old.name b (line.Fuse old.name disk calls tear) rise Done new
    off_follows at was is many there narrow =
        let h = off_at files layout w.trail b old was at in
        let count = h.stands.count in
        done_follows files layout w old.name b (line.Fuse old.name disk calls tear) rise Done new (fuse_within layout w b old.name disk calls tear (omega (arith, count, many, there))) refl
        (at_off files layout w.trail b new is (record { down = h.down; stands = still_stands files layout w.trail b old.disks.items new.disks.items narrow h.stands; at_zero = h.at_zero })) refl

    -- of a backup that is up
    pub up_follows : (p q : Backup D d) → new.backup ≡ Some q → IsUpAt files layout w.trail b p → (volumes : ℕ) → (layout_of p).volumes ≡ volumes → disk ≤ volumes → layout_of q ≡ layout_of p → ((stops : ℕ) → state_of stops q ≡ state_of stops p) →
        ((trail : List Record) → Serves files trail p → Serves files trail q) → Follows files layout w old.name b (line.Fuse old.name disk calls tear) rise Done new
    up_follows p q e u volumes sized there laid same serves =
        done_follows files layout w old.name b (line.Fuse old.name disk calls tear) rise Done new (fuse_within layout w b old.name disk calls tear (subst (λ v. disk ≤ v) (sym sized ∙ ap (λ (y : Layout). y.volumes) u.laid) there)) refl
        (at_up files layout w.trail b new q e (record { laid = laid ∙ u.laid; state = u.state ∙ sym (same b.stops); serves = serves w.trail u.serves })) refl

-- the whole
module _ {D : Type 0} {d : Ghosts D} (tells : Type 0) (files : D → Disk) (counts : D → Counts) (o : BackupNode D d) (serves : MayServe tells files counts o) (disk calls : ℕ) (tear : Tear) (there : disk ≤ o.volumes) where
  abbrev fine : ℕ → D → D → Type 0
  fine i x y = Tells Fine (counts x) (counts y)

  abbrev raised : ℕ → D → D → Type 0
  raised i x y = (counts y).fuses ≡ (if i == disk then (fused (counts x)).fuses else (counts x).fuses)

  -- of a node that is down
  pub off_does : (n : BackupNode D d) → None ≡ o.backup → n.backup ≡ None → n.volumes ≡ o.volumes → n.name ≡ o.name → Each (λ i x y. counts y ≡ after_fuse (i == disk) (counts x)) o.disks.items n.disks.items →
      (tells → Each (λ i x y. (m : ℕ) → Narrows (files x m) (files y m)) o.disks.items n.disks.items) → Does tells files counts (Performs files Any) (line.Fuse o.name disk calls tear) (Ok Done) o n
  off_does n before is sized called put narrow =
      let was = sym before in
      let rests = was_off o tells files counts was serves in
      let xs = o.disks.items in
      let ys = n.disks.items in
      record {
        performs = λ t layout w b rise some any at. off_follows files layout w b rise disk calls tear o n at was is rests.many there (narrow t);
        keeps = record {
          serves = serves_off n tells files counts o.volumes is sized
              (record { many = same_length (λ i x y. counts y ≡ after_fuse (i == disk) (counts x)) xs ys put ∙ rests.many; off = still_off counts disk xs ys put true rests.off });
          sized = sized;
          named = called;
          cause = inl (each_was_off o was fine (disks_at n) (each_off n is fine xs (fuse_fine counts disk xs ys put)), done_no o.name);
          fuses = inr (refl, each_was_off o was raised (disks_at n) (each_off n is raised xs (fuse_raises counts disk xs ys put)));
          kinds = fuse_replied o n disk calls tear there;
          kept = λ h. absurd (done_kept h);
          moved = ap (λ (x : Option (Backup D d)). phase_among x) (is ∙ before);
        };
        laid = λ layout h. laid_off layout n is;
        sound = λ t. tt;
        still = λ h. absurd (done_kept h);
      }

  -- of a backup that is up
  pub up_does : (p q : Backup D d) → Some p ≡ o.backup → (tells → MayUse files q) → layout_of q ≡ layout_of p → ((stops : ℕ) → state_of stops q ≡ state_of stops p) → (tells → (trail : List Record) → Serves files trail p → Serves files trail q) → (value_of q).phase ≡ (value_of p).phase → FusedAt counts disk p q →
      Does tells files counts (Performs files Any) (line.Fuse o.name disk calls tear) (Ok Done) o (record o { backup = Some q })
  up_does p q before use_ laid same serving phase_is given =
      let run = was_up o tells files counts p (sym before) serves in
      let each = fused_each counts disk p q given in
      subst (λ (x : Option (Backup D d)). Does tells files counts (Performs files Any) (line.Fuse o.name disk calls tear) (Ok Done) (record o { backup = x }) (record o { backup = Some q })) before (record {
        performs = λ t layout w b rise some any u. up_follows files layout w b rise disk calls tear (record o { backup = Some p }) (record o { backup = Some q }) p q refl u o.volumes run.sized there laid same (serving t);
        keeps = record {
          serves = record { runs = use_; sized = ap (λ (y : Layout). y.volumes) laid ∙ run.sized; on = still_off counts disk (disks_in p) (disks_in q) each false run.on };
          sized = refl;
          named = refl;
          cause = inl (fuse_fine counts disk (disks_in p) (disks_in q) each, done_no o.name);
          fuses = inr (refl, fuse_raises counts disk (disks_in p) (disks_in q) each);
          kinds = fuse_replied (record o { backup = Some p }) (record o { backup = Some q }) disk calls tear there;
          kept = λ h. absurd (done_kept h);
          moved = ap (λ x. Some x) phase_is;
        };
        laid = λ layout h. laid ∙ h;
        sound = λ t. tt;
        still = λ h. absurd (done_kept h);
      })
