-- The restart of a backup's node.
use Rattle.std.proofs.Common.{◌≡◌, ◌≢◌, inr, ℕ, ◌+◌, ◌<◌, true, false, List, length, Option, Some, None, Result, IsTrue, is_some, refl, sym, ap, ◌∙◌, subst}
use Rattle.std.specs.Prelude.{MatchOption}
use Rattle.rdf_types.specs.declared.layout.Layout.{Layout}
use Rattle.rdf_types.specs.declared.records.Node.{Node}
use Rattle.rdf_disk.specs.Files.{Disk}
use Rattle.rdf_disk.specs.Counts.{Counts}
use Rattle.rdf_disk.specs.Counts.Ending.{Fine}
use Rattle.rdf_disk.specs.declared.disk.Disk.{Ghosts}
use Rattle.plan_lang.specs.declared.lines.Line.TheVariants as line
use Rattle.node_faults.specs.declared.NodeFault.{NodeFault}
use Rattle.node_faults.specs.declared.NodeFault.TheVariants as fault
use Rattle.node_faults.specs.Faults.{ending_at, is_damage}
use Rattle.rdf_core.specs.declared.replies.NoWhy.TheVariants as no
use Rattle.rdf_core.specs.declared.replies.Reply.{Reply}
use Rattle.rdf_core.specs.declared.replies.Reply.TheVariants.{No, Number, Stopped}
use Rattle.rdf_core.specs.Effects.{after_parts, reaches_disks, when, count_u64, Cut}
use Rattle.rdf_core.specs.Backup.{Backup as State, Around, backup_refusal, backup_fallen, with_up}
use Rattle.image_disks.specs.Values.{received}
use Rattle.rdf_backup.specs.declared.backup.Backup.{Backup}
use Rattle.rdf_backup.specs.States.{layout_of, value_of}
use Rattle.rdf_backup.specs.Standing.{BackupStandsFor}
use Rattle.node_faults.specs.Openings.{IsNoDamage, IsRaised, AreRaised}
use Rattle.rdf_backup.specs.Replies.{parts_of}
use Rattle.rdf_backup.specs.Restarting.{IsUpAgain}
use Rattle.node_disks.specs.Cuts.{Each, IsCut, AreCut}
use Rattle.node_disks.specs.Counting.{Tells}
use Rattle.node_disks.specs.CutLaws.{each_so, each_then, same_length}
use Rattle.node_disks.specs.CountLaws.{cut_off}
use Rattle.backup_node.specs.declared.node.BackupNode.{BackupNode}
use Rattle.backup_node.specs.Nodes.{IsAt, IsUpAt, IsOffAt, MayRest}
use Rattle.backup_node.specs.Lines.{Follows, Ends, stop_told}
use Rattle.node_disks.specs.PairLaws.{pairs_each, raised_cut, raised_fuses}
use Rattle.backup_node.proofs.StandLaws.{cut_keeps}
use Rattle.backup_node.proofs.LineLaws.{no_less}
use Rattle.rdf_core.specs.PartLaws.{none_done}
use Rattle.backup_node.proofs.NodeLaws.{at_up, off_at, is_up, refused_follows, done_follows, gone_at, breaks_first, told_as}

-- a node that is down has no backup
pub none_there : {X : Type 0} (o : Option X) → is_some o ≡ false → o ≡ None
none_there None e = refl
none_there (Some x) e = cc

pub number_no : (n : ℕ) (name : Node) → Number n ≢ Stopped name
number_no n name e = cc

pub restart_up : {D : Type 0} {d : Ghosts D} (files : D → Disk) (layout : Layout) (w : Around) (b : State) (rise : ℕ) (n : BackupNode D d) → IsAt files layout w.trail b n → is_some n.backup ≡ true → Follows files layout w n.name b (line.Restart n.name) rise (No no.Up) n
restart_up {D = D} {d = d} files layout w b rise n at up = refused_follows files layout w n.name b (line.Restart n.name) rise no.Up n (ap (λ u. when u no.Up) (go n.backup up at)) at
  where
    go : (o : Option (Backup D d)) → is_some o ≡ true → MatchOption o (IsOffAt files layout w.trail b n.disks.items) (λ p. IsUpAt files layout w.trail b p) → b.up ≡ true
    go None e h = cc
    go (Some p) e h = is_up files layout w.trail b p h

module _ {D : Type 0} {d : Ghosts D} (files : D → Disk) (layout : Layout) (w : Around) (b : State) (rise : ℕ) (old new : BackupNode D d) (was : old.backup ≡ None) (at : IsAt files layout w.trail b old) where
  pub stood : IsOffAt files layout w.trail b old.disks.items
  stood = off_at files layout w.trail b old was at

  allowed : backup_refusal layout w b (line.Restart old.name) ≡ None
  allowed = ap (λ u. when u no.Up) stood.down

  -- the line is done
  pub reopens : (p : Backup D d) (n : ℕ) → new.backup ≡ Some p → layout_of p ≡ layout → IsUpAgain files w.trail b p → n ≡ received (value_of p) → Follows files layout w old.name b (line.Restart old.name) rise (Number n) new
  reopens p n up laid again is = done_follows files layout w old.name b (line.Restart old.name) rise (Number n) new allowed
      (ap (λ (m : ℕ). let reply : Reply = Number m in reply) (is ∙ ap (λ (s : State). s.received) again.state))
      (at_up files layout w.trail (with_up b true) new p up (record { laid = laid; state = sym again.state; serves = again.serves })) refl

  -- a fault cut it off, and the disks are cut
  module _ (tells : Type 0) (counts : D → Counts) (they : tells) (shut : List D) (stands : BackupStandsFor files layout w.trail b shut) (none : new.backup ≡ None) (cut : AreCut tells files counts shut new.disks.items) where
    abbrev parts : List State
    parts = parts_of layout w b (line.Restart old.name)

    stands_there : BackupStandsFor files layout w.trail b new.disks.items
    stands_there = cut_keeps tells files counts they layout w.trail b shut new.disks.items cut stands

    stops : 0 < rise → Follows files layout w old.name b (line.Restart old.name) rise (Stopped old.name) new
    stops some = record {
      next = backup_fallen rise (after_parts b parts 0);
      step = Cut old.name refl 0 (record { may = subst (λ o. IsTrue (reaches_disks o)) (sym allowed) refl; few = no_less (length parts); says = refl; rise = rise; some = some; leaves = refl });
      at = subst (λ s. IsAt files layout w.trail (backup_fallen rise s) new) (sym (none_done b parts)) (gone_at files layout w.trail b new none stands_there stood.at_zero (backup_fallen rise b).stops);
      stops = inr (refl, ap (λ (s : State). count_u64 (s.stops + rise)) (none_done b parts));
    }

    pub shut_ends : 0 < rise → (why : NodeFault) (r : Result Reply NodeFault) → r ≡ stop_told old.name why → Ends files layout w old.name b (line.Restart old.name) rise r new
    shut_ends some why r is = told_as (λ x. Ends files layout w old.name b (line.Restart old.name) rise x new) old.name why r is (stops some) (λ e. breaks_first files layout w old.name b (line.Restart old.name) new none stands_there stood.at_zero refl)

module _ {D : Type 0} (counts : D → Counts) where
  -- the counts of disks that are on again
  pub none_raised : (xs ys : List D) → AreRaised counts None xs ys → Each (λ i x y. Tells Fine (counts x) (counts y)) xs ys
  none_raised xs ys h = each_so (λ i x y. IsRaised counts i None x y) (λ i x y. Tells Fine (counts x) (counts y)) xs ys (λ i x y k. (k.0, k.1)) (pairs_each (IsRaised counts) None xs ys h)

  pub none_given : (xs ys : List D) → AreRaised counts None xs ys → Each (λ i x y. (counts y).fuses ≡ (counts x).fuses) xs ys
  none_given xs ys h = each_so (λ i x y. IsRaised counts i None x y) (λ i x y. (counts y).fuses ≡ (counts x).fuses) xs ys (λ i x y k. k.2) (pairs_each (IsRaised counts) None xs ys h)

  -- and of disks that are cut again
  module _ (tells : Type 0) (files : D → Disk) (why : NodeFault) (xs ys zs : List D) (raised : AreRaised counts (Some why) xs ys) (cut : AreCut tells files counts ys zs) where
    pub raised_fails : Each (λ i x z. Tells (ending_at i why) (counts x) (counts z)) xs zs
    raised_fails = each_then (λ i x y. IsRaised counts i (Some why) x y) (λ i y z. IsCut tells files counts y z) (λ i x z. Tells (ending_at i why) (counts x) (counts z)) xs ys zs
        (λ i x y z h k. raised_cut (ending_at i why) (counts x) (counts y) (counts z) h k.counts_are) (pairs_each (IsRaised counts) (Some why) xs ys raised) cut

    pub raised_fused : Each (λ i x z. (counts z).fuses ≡ (counts x).fuses) xs zs
    raised_fused = each_then (λ i x y. IsRaised counts i (Some why) x y) (λ i y z. IsCut tells files counts y z) (λ i x z. (counts z).fuses ≡ (counts x).fuses) xs ys zs
        (λ i x y z h k. ap (λ c. c.fuses) k.counts_are ∙ raised_fuses (ending_at i why) (counts x) (counts y) h) (pairs_each (IsRaised counts) (Some why) xs ys raised) cut

    pub shut_rests : (volumes : ℕ) → MayRest counts volumes xs → MayRest counts volumes zs
    shut_rests volumes rests = record {
      many = same_length (λ i x y. IsCut tells files counts x y) ys zs cut ∙ same_length (λ i x y. IsRaised counts i (Some why) x y) xs ys (pairs_each (IsRaised counts) (Some why) xs ys raised) ∙ rests.many;
      off = cut_off counts tells files ys zs cut;
    }

-- a fault that is no damage
pub undamaged : (why : NodeFault) → IsNoDamage (Some why) → is_damage why ≡ false
undamaged (fault.Stopped disk) h = refl
undamaged (fault.Failed disk) h = refl
undamaged fault.NoMemory h = refl
undamaged (fault.Damaged disk file at) h = absurd (h disk file at refl)
