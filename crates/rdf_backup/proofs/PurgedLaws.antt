-- A purge in a session.
use Rattle.std.proofs.Common.{◌≡◌, ℕ, zero, suc, List, None, Ok, refl, sym, ap, ◌∙◌, subst, arith}
use Rattle.std.specs.Borrow.{MutBor}
use Rattle.std.specs.declared.snapshot.Snapshot.{Snapshot}
use Rattle.rdf_types.specs.declared.records.Record.{Record}
use Rattle.rdf_disk.specs.Files.{Disk}
use Rattle.rdf_disk.specs.Counts.{Counts}
use Rattle.rdf_disk.specs.declared.disk.Disk.{Ghosts}
use Rattle.image_disks.specs.Values.{Value, Alike, received}
use Rattle.image_trails.specs.declared.trails.ImageTrails.{ImageTrails}
use Rattle.image_trails.specs.Trails.{trails_layout, trails_value, trails_disk, AreInUse}
use Rattle.purger.specs.Purging.{without}
use Rattle.node_faults.specs.declared.NodeFault.{NodeFault}
use Rattle.rdf_core.specs.declared.replies.Reply.TheVariants.{Number}
use Rattle.rdf_backup.specs.declared.backup.Backup.{Backup}
use Rattle.rdf_backup.specs.declared.session.Session.{Session}
use Rattle.rdf_backup.specs.declared.session.Met.{Met}
use Rattle.rdf_backup.specs.States.{layout_of, value_of, MayUse}
use Rattle.rdf_backup.specs.Replies.{HasMoved}
use Rattle.rdf_backup.specs.Raised.{AreBehind}
use Rattle.rdf_backup.specs.Sessions.{trails_by, shown_in, open_of, IsFed, MayGoOn, KeepsSession}
use Rattle.rdf_backup.proofs.OpenLaws.{by_own, same_counts, keeps_done}

-- without some generations the image trails tell of the same phase and received position
same_phase : (n : ℕ) (v : Value) → (without n v).phase ≡ v.phase
same_phase zero v = refl
same_phase (suc n) v = same_phase n v

same_end : (n : ℕ) (v : Value) → received (without n v) ≡ received v
same_end zero v = refl
same_end (suc n) v = same_end n v

pub stays_there : (n : ℕ) (v new : Value) → Alike new (without n v) → HasMoved (received v) v new
stays_there n v new alike = record { received_is = alike.top 0 (omega arith) ∙ same_end n v; phase_is = alike.phase ∙ same_phase n v }

module _ {D : Type 0} {d : Ghosts D} (tells : Type 0) (files : D → Disk) (counts : D → Counts) (s : Session D d) (goes : MayGoOn tells files s) (unmet : s.met ≡ None) (a : Snapshot (ImageTrails D)) (trails : MutBor (ImageTrails D))
    (a_is : a.value ≡ trails.now) (laid : trails_layout trails.now ≡ trails_layout s.trails.now) (ok : tells → AreInUse files trails.now) (moved : tells → HasMoved (received (trails_value s.trails.now)) (trails_value s.trails.now) (trails_value trails.now)) where
  abbrev old : Backup D d
  old = shown_in s

  abbrev next : Session D d
  next = record s { trails_shown = a; trails = trails }

  old_trails : s.trails.now ≡ old.trails
  old_trails = goes.trails_are unmet

  pub new_trails : (shown_in next).trails ≡ trails.now
  new_trails = ap (λ t. trails_by (layout_of old) t) a_is ∙ sym (by_own (layout_of old) trails.now (laid ∙ ap (λ t. trails_layout t) old_trails))

  same_received : tells → received (value_of (shown_in next)) ≡ received (value_of old)
  same_received t = ap (λ x. received (trails_value x)) new_trails ∙ (moved t).received_is ∙ ap (λ x. received (trails_value x)) old_trails

  usable : tells → MayUse files (shown_in next)
  usable t = record { trails = subst (λ x. AreInUse files x) (sym new_trails) (ok t); volume = (goes.going.usable t).volume }

  pub goes_purged : MayGoOn tells files next
  goes_purged = record {
    going = record {
      usable = usable;
      running = λ t. ap (λ x. (trails_value x).phase) new_trails ∙ (moved t).phase_is ∙ ap (λ x. (trails_value x).phase) old_trails ∙ goes.going.running t;
      disk_is = λ none. ap (λ x. trails_disk x) (sym new_trails);
    };
    unlent = goes.unlent;
    rises = goes.rises;
    end_is = λ t. goes.end_is t ∙ sym (same_received t);
    upto = goes.upto;
    laid = laid ∙ goes.laid;
    flags_are = goes.flags_are;
    parted = goes.parted;
    trails_are = λ none. sym new_trails;
    txns_are = goes.txns_are;
  }

  pub keeps_purged : (meets : NodeFault → Met) (n : ℕ) → counts (trails_disk trails.now) ≡ counts (trails_disk s.trails.now) → (trails_value trails.now).phase ≡ (trails_value s.trails.now).phase → KeepsSession tells files counts meets (Ok (Number n)) (open_of s) (open_of next)
  keeps_purged meets n same phase_is = keeps_done tells files counts meets (Number n) (open_of s) (open_of next) unmet unmet (λ node e. cc) (λ why e. cc) usable refl (ap (λ x. trails_disk x) old_trails) (ap (λ x. trails_disk x) (sym new_trails)) same
      (same_counts counts old.volumes.items) (λ first h. h) (ap (λ x. (trails_value x).phase) new_trails ∙ phase_is ∙ ap (λ x. (trails_value x).phase) old_trails)

  pub fed_purged : tells → (trail : List Record) → IsFed trail (open_of s) → IsFed trail (open_of next)
  fed_purged t trail f = record {
    behind = subst (λ r. AreBehind (layout_of old) trail r s.watch.entries old.volumes.items) (sym (same_received t)) f.behind;
    within = omega (arith, f.within, same_received t);
  }
