-- A purge of an open session on the node that lent its backup to it.
use Rattle.std.proofs.Common.{◌≡◌, ℕ, false, List, Option, Some, None, IfSome, Result, Ok, Err, refl, sym, ap, ◌∙◌, subst}
use Rattle.std.specs.Prelude.{slice_get}
use Rattle.rdf_types.specs.declared.layout.Layout.{Layout}
use Rattle.rdf_types.specs.declared.records.Node.{Node}
use Rattle.rdf_types.specs.declared.records.Record.{Record}
use Rattle.rdf_disk.specs.Files.{Disk}
use Rattle.rdf_disk.specs.Counts.{Counts, Causes}
use Rattle.rdf_disk.specs.declared.disk.Disk.{Ghosts}
use Rattle.plan_lang.specs.declared.lines.Line.TheVariants as line
use Rattle.node_faults.specs.declared.NodeFault.{NodeFault}
use Rattle.node_faults.specs.Faults.{ending_for}
use Rattle.image_trails.specs.declared.trails.ImageTrails.{ImageTrails}
use Rattle.image_trails.specs.Trails.{trails_value}
use Rattle.node_disks.specs.CutLaws.{both_then}
use Rattle.node_disks.specs.Cuts.{Each, IfBoth as BothThere}
use Rattle.rdf_core.specs.declared.replies.Reply.{Reply}
use Rattle.rdf_core.specs.Backup.{Backup as State, Around, points_in, needs_volumes}
use Rattle.rdf_core.specs.Rising.{HasRisen}
use Rattle.rdf_backup.specs.declared.backup.Backup.{Backup}
use Rattle.rdf_backup.specs.declared.session.Met.TheVariants as met
use Rattle.rdf_backup.specs.Refusals.{IsCount, IsJudged}
use Rattle.rdf_backup.specs.Replies.{IfBoth, CausedBy, BreaksTrails}
use Rattle.rdf_backup.specs.Sessions.{Open, IsFed, IsShut, HasMet, KeepsSession, EndsOpen, HasRisenOpen, RisesOpen}
use Rattle.rdf_backup.specs.States.{layout_of, state_of, disks_in, Serves, Stands, value_of}
use Rattle.backup_node.specs.declared.node.BackupNode.{BackupNode}
use Rattle.backup_node.specs.Nodes.{IsUpAt, MayServe}
use Rattle.backup_node.specs.Lines.{WithPoints}
use Rattle.backup_node.specs.Open.{in_open, StaysOpen, PurgesIn, IsRisen, MeetsPurge}
use Rattle.backup_node.proofs.NodeLaws.{goes_follows}
use Rattle.backup_node.proofs.KindLaws.{open_kept, open_purged}
use Rattle.backup_node.proofs.DoesLaws.{settled_at}
use Rattle.backup_node.proofs.OpenLaws.{fed_same}

-- lists by places, as the one and as the other relation

both_there : {D : Type 0} (R : D → D → Type 0) (o q : Option D) → IfBoth R o q → BothThere R o q
both_there R None None h = tt
both_there R None (Some y) h = h
both_there R (Some x) None h = h
both_there R (Some x) (Some y) h = h

module _ {D : Type 0} {d : Ghosts D} (tells : Type 0) (files : D → Disk) (counts : D → Counts) (old mid : Open D d) (rises : RisesOpen tells files counts old mid) where
  abbrev Same : D → D → Type 0
  Same x y = counts y ≡ counts x

  -- what a line leaves of the session, behind what its volumes rose
  pub stays_risen : (result : Result Reply NodeFault) (new : Open D d) → StaysOpen counts result mid new → StaysOpen counts result old new
  stays_risen result new s = record {
    unmet = λ unmet. s.unmet (rises.met ∙ unmet);
    shut = λ some. subst (λ (o : Open D d). IsShut result o new) (rises.shut some) s.shut some;
    comes = λ first h. s.comes first (rises.comes first h);
    since = λ unmet. s.since (rises.met ∙ unmet);
  }

  laid : layout_of mid.shown ≡ layout_of old.shown
  laid = ap (λ (t : ImageTrails D). t.memory.layout) rises.trails

  phase_is : (value_of mid.shown).phase ≡ (value_of old.shown).phase
  phase_is = ap (λ (t : ImageTrails D). (trails_value t).phase) rises.trails

  counts_each : Each (λ i x y. Same x y) (disks_in old.shown) (disks_in mid.shown)
  counts_each i = both_there Same (slice_get (disks_in old.shown) i) (slice_get (disks_in mid.shown) i) (rises.counts_are i)

  on_at : (o q : Option D) → IfBoth Same o q → IfSome o (λ disk. (counts disk).off ≡ false) → IfSome q (λ disk. (counts disk).off ≡ false)
  on_at None None h s = tt
  on_at None (Some y) h s = absurd h
  on_at (Some x) None h s = absurd h
  on_at (Some x) (Some y) h s = ap (λ (c : Counts). c.off) h ∙ s

  serves_mid : (n : BackupNode D d) → MayServe tells files counts (in_open old n) → MayServe tells files counts (in_open mid n)
  serves_mid n serves = record {
    runs = rises.usable;
    sized = ap (λ (y : Layout). y.volumes) laid ∙ serves.sized;
    on = λ i. on_at (slice_get (disks_in old.shown) i) (slice_get (disks_in mid.shown) i) (rises.counts_are i) (serves.on i);
  }

  caused_from : (result : Result Reply NodeFault) (new : Backup D d) → CausedBy counts result mid.shown new → CausedBy counts result old.shown new
  caused_from result new caused i = both_then Same (λ x y. Causes (ending_for i result) (counts x) (counts y)) (λ x y. Causes (ending_for i result) (counts x) (counts y))
      (λ x y z same c. subst (λ (k : Counts). Causes (ending_for i result) k (counts z)) same c)
      (slice_get (disks_in old.shown) i) (slice_get (disks_in mid.shown) i) (slice_get (disks_in new) i) (rises.counts_are i) (caused i)

  module _ (unmet : old.met ≡ None) (t : tells) (layout : Layout) (w : Around) (b : State) (u : IsUpAt files layout w.trail b old.shown) (fed : IsFed w.trail old) where
    risen : HasRisenOpen files w.trail old mid
    risen = rises.risen t unmet w.trail u.serves fed

    -- the state of what rose
    abbrev next : State
    next = state_of b.stops mid.shown

    rise_is : HasRisen layout b next
    rise_is = subst (λ (y : Layout). HasRisen y b next) u.laid (subst (λ (s : State). HasRisen (layout_of old.shown) s next) (sym u.state) (risen.rise b.stops))

    up_mid : IsUpAt files layout w.trail next mid.shown
    up_mid = record { laid = laid ∙ u.laid; state = refl; serves = risen.serves }

    abbrev around : Around
    around = record w { points = points_in layout w.trail next.volumes }

    points_are : around.points ≡ points_in (layout_of mid.shown) w.trail (state_of 0 mid.shown).volumes
    points_are = ap (λ (y : Layout). points_in y w.trail next.volumes) (sym (laid ∙ u.laid))

  module _ (n : BackupNode D d) (new : Open D d) (unmet : old.met ≡ None) (serves : MayServe tells files counts (in_open old n)) where
    abbrev Ends : Result Reply NodeFault → Type 0
    Ends result = tells → mid.met ≡ None → (w : Around) (node : Node) → w.points ≡ points_in (layout_of mid.shown) w.trail (state_of 0 mid.shown).volumes → Serves files w.trail mid.shown → EndsOpen files w (line.Purge node) result mid new

    purged_at : (reply : Reply) → Ends (Ok reply) → tells → PurgesIn files old reply (in_open old n) (in_open new n)
    purged_at reply ends t layout w b rise some fed u = record {
      next = next unmet t layout w b u fed;
      rise_is = rise_is unmet t layout w b u fed;
      follows = goes_follows files layout (around unmet t layout w b u fed) n.name (next unmet t layout w b u fed) (line.Purge n.name) rise reply mid.shown new.shown (in_open new n) refl (up_mid unmet t layout w b u fed)
          (ends t (rises.met ∙ unmet) (around unmet t layout w b u fed) n.name (points_are unmet t layout w b u fed) (risen unmet t layout w b u fed).serves).0;
    }

    module _ (why : NodeFault) (m : HasMet counts (met.Trails why) mid new) where
      risen_on : (trail : List Record) → HasRisenOpen files trail old mid → HasRisenOpen files trail old new
      risen_on trail r = record {
        rise = subst (λ (b : Backup D d). (stops : ℕ) → HasRisen (layout_of old.shown) (state_of stops old.shown) (state_of stops b)) (sym m.shown) r.rise;
        serves = subst (λ (b : Backup D d). Serves files trail b) (sym m.shown) r.serves;
        stands = subst (λ (b : Backup D d). Stands files trail b) (sym m.shown) r.stands;
        fed = fed_same trail mid new m.shown m.entries r.fed;
      }

      is_risen : IsRisen tells files counts n old new
      is_risen = record {
        serves = subst (λ (b : Backup D d). MayServe tells files counts (record n { backup = Some b })) (sym m.shown) (serves_mid n serves);
        laid = ap (λ (b : Backup D d). layout_of b) m.shown ∙ laid;
        counts_are = subst (λ (b : Backup D d). Each (λ i x y. Same x y) (disks_in old.shown) (disks_in b)) (sym m.shown) counts_each;
        risen = λ t trail s fed. risen_on trail (rises.risen t unmet trail s fed);
      }

      left_at : Ends (Err why) → tells → (layout : Layout) (w : Around) (b : State) → WithPoints layout w b → IsUpAt files layout w.trail b new.shown → BreaksTrails files w (line.Purge n.name) new.shown new.disk
      left_at ends t layout w b points u =
          let v = subst (λ (x : Backup D d). IsUpAt files layout w.trail b x) m.shown u in
          subst (λ (x : Backup D d). BreaksTrails files w (line.Purge n.name) x new.disk) (sym m.shown)
          (ends t (rises.met ∙ unmet) w n.name (points ∙ ap (λ (s : State). points_in layout w.trail s.volumes) v.state ∙ ap (λ (y : Layout). points_in y w.trail (state_of 0 mid.shown).volumes) (sym v.laid)) v.serves)

    pub meets_purge : (result : Result Reply NodeFault) → KeepsSession tells files counts (λ why. met.Trails why) result mid new → Ends result → (mid.met ≡ None → IsJudged (needs_volumes (state_of 0 mid.shown)) IsCount result mid new) → MeetsPurge tells files counts result n old new
    meets_purge (Ok reply) keeps ends judged =
        let done = keeps.done (rises.met ∙ unmet) in
        record {
          answered =
              settled_at tells files counts (in_open old n) (in_open new n) old.shown new.shown (line.Purge n.name) refl refl serves (Ok reply) (Ok reply) (refl, refl) refl refl
              (caused_from (Ok reply) new.shown done.0.cause) done.0.usable tt done.0.plain (done.0.phase ∙ phase_is) (λ reply p q h. h) (done.0.laid ∙ laid) (open_purged n old new reply mid rises.trails (judged (rises.met ∙ unmet))) (λ l r. PurgesIn files old reply)
              (open_kept n old new reply mid rises.trails keeps.refused) (λ t trail s. tt) (purged_at reply ends);
          risen = tt;
          met = tt;
          left = λ t. tt;
          fed = λ t layout w b u fed. (ends t (rises.met ∙ unmet) (around unmet t layout w b u fed) n.name (points_are unmet t layout w b u fed) (risen unmet t layout w b u fed).serves).1 (risen unmet t layout w b u fed).fed;
        }
    meets_purge (Err why) keeps ends judged =
        let m = keeps.broken (rises.met ∙ unmet) in
        record {
          answered = tt;
          risen = is_risen why m;
          met = m.met;
          left = λ t layout w b points u. left_at why m ends t layout w b points u;
          fed = λ t layout w b u fed. fed_same w.trail mid new m.shown m.entries (risen unmet t layout w b u fed).fed;
        }
