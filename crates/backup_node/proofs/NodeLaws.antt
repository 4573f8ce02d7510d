-- What the node does for a line is a step of the machine.
use Rattle.std.proofs.Common.{◌≡◌, inl, inr, ℕ, ◌+◌, ◌<◌, ◌≤◌, true, List, ◌++◌, length, Option, Some, None, Result, Ok, Err, false, IsTrue, refl, sym, ap, ◌∙◌, subst}
use Rattle.std.proofs.lemmas.Bool.{true≢false}
use Rattle.std.specs.Prelude.{MatchOption}
use Rattle.rdf_types.specs.declared.layout.Layout.{Layout}
use Rattle.rdf_types.specs.declared.records.Node.{Node}
use Rattle.rdf_types.specs.declared.records.Record.{Record}
use Rattle.rdf_disk.specs.Files.{Disk}
use Rattle.rdf_disk.specs.Counts.{Counts}
use Rattle.rdf_disk.specs.declared.disk.Disk.{Ghosts}
use Rattle.rdf_model.specs.Contents.{nothing}
use Rattle.rdf_model.specs.Legal.{Legal}
use Rattle.plan_lang.specs.declared.lines.Line.{Line}
use Rattle.node_faults.specs.declared.NodeFault.{NodeFault}
use Rattle.node_faults.specs.declared.NodeFault.TheVariants as fault
use Rattle.rdf_core.specs.StopLaws.{backup_unstopped, done_unstopped}
use Rattle.rdf_core.specs.declared.replies.NoWhy.{NoWhy}
use Rattle.rdf_core.specs.declared.replies.Reply.{Reply}
use Rattle.rdf_core.specs.declared.replies.Reply.TheVariants.{No, Stopped}
use Rattle.rdf_core.specs.Effects.{IsDone, after_parts, reaches_disks, count_u64, Whole, Cut}
use Rattle.rdf_core.specs.Backup.{Backup as State, Around, backup_refusal, backup_after, backup_says, backup_fallen}
use Rattle.rdf_core.specs.Step.{disks_of}
use Rattle.rdf_backup.specs.declared.backup.Backup.{Backup}
use Rattle.rdf_backup.specs.States.{layout_of, state_of, disks_in}
use Rattle.rdf_backup.specs.Beside.{is_beside}
use Rattle.rdf_backup.specs.Standing.{BackupStandsFor}
use Rattle.rdf_backup.specs.Restarting.{AreAtZero}
use Rattle.rdf_backup.specs.Replies as replies
use Rattle.rdf_backup.specs.Replies.{parts_of}
use Rattle.rdf_backup.specs.StandingLaws.{serving_stands}
use Rattle.rdf_backup.specs.GrowthLaws.{serves_longer}
use Rattle.node_disks.specs.Cuts.{AreCut}
use Rattle.backup_node.specs.declared.node.BackupNode.{BackupNode}
use Rattle.backup_node.specs.Nodes.{IsAt, IsUpAt, IsOffAt, disks_at, disks_among}
use Rattle.backup_node.specs.Lines.{Follows, Breaks, Ends, stop_told}
use Rattle.backup_node.proofs.LineLaws.{no_less, StaysIn}
use Rattle.rdf_core.specs.PartLaws.{none_done}
use Rattle.backup_node.proofs.StandLaws.{turned, some_left, stands_on, stands_turned, serving_zero}

module _ {D : Type 0} {d : Ghosts D} (files : D → Disk) (layout : Layout) (trail : List Record) where
  abbrev AtBy : List D → State → Option (Backup D d) → Type 0
  AtBy disks b o = MatchOption o (IsOffAt files layout trail b disks) (λ up. IsUpAt files layout trail b up)

  pub at_up : (b : State) (n : BackupNode D d) (p : Backup D d) → n.backup ≡ Some p → IsUpAt files layout trail b p → IsAt files layout trail b n
  at_up b n p e h = subst (λ (o : Option (Backup D d)). AtBy n.disks.items b o) (sym e) h

  pub at_off : (b : State) (n : BackupNode D d) → n.backup ≡ None → IsOffAt files layout trail b n.disks.items → IsAt files layout trail b n
  at_off b n e h = subst (λ (o : Option (Backup D d)). AtBy n.disks.items b o) (sym e) h

  pub off_at : (b : State) (n : BackupNode D d) → n.backup ≡ None → IsAt files layout trail b n → IsOffAt files layout trail b n.disks.items
  off_at b n e h = subst (λ (o : Option (Backup D d)). AtBy n.disks.items b o) e h

  pub up_at : (b : State) (n : BackupNode D d) (p : Backup D d) → n.backup ≡ Some p → IsAt files layout trail b n → IsUpAt files layout trail b p
  up_at b n p e h = subst (λ (o : Option (Backup D d)). AtBy n.disks.items b o) e h

  -- a backup that is up stands for its state
  pub up_stands : (b : State) (p : Backup D d) → IsUpAt files layout trail b p → BackupStandsFor files layout trail b (disks_in p)
  up_stands b p u = subst (λ y. BackupStandsFor files y trail b (disks_in p)) u.laid
      (subst (λ s. BackupStandsFor files (layout_of p) trail s (disks_in p)) (sym u.state) (serving_stands files trail p u.serves b.stops))

  -- and so does a node
  pub node_stands : (b : State) (n : BackupNode D d) → IsAt files layout trail b n → BackupStandsFor files layout trail b (disks_at n)
  node_stands b n at = go n.backup at
    where
      go : (o : Option (Backup D d)) → AtBy n.disks.items b o → BackupStandsFor files layout trail b (disks_among o n.disks.items)
      go None h = h.stands
      go (Some p) h = up_stands b p h

  -- a volume that is not protected stands at 0
  pub up_zero : (b : State) (p : Backup D d) → IsUpAt files layout trail b p → AreAtZero layout b.volumes
  up_zero b p u = subst (λ y. AreAtZero y b.volumes) u.laid (subst (λ (s : State). AreAtZero (layout_of p) s.volumes) (sym u.state) (serving_zero files trail p u.serves b.stops))

  -- a node that went down is at the state that its disks stand for, down
  pub gone_at : (b : State) (n : BackupNode D d) → n.backup ≡ None → BackupStandsFor files layout trail b n.disks.items → AreAtZero layout b.volumes → (stops : ℕ) → IsAt files layout trail (turned false stops b) n
  gone_at b n none stands zeros stops = at_off (turned false stops b) n none (record { down = refl; stands = stands_turned files layout trail b false stops n.disks.items stands; at_zero = zeros })

  -- and so it is whatever number of stops is counted
  pub fallen_at : (b : State) (n : BackupNode D d) → n.backup ≡ None → (few : ℕ) → IsAt files layout trail (backup_fallen few b) n → (rise : ℕ) → IsAt files layout trail (backup_fallen rise b) n
  fallen_at b n none few at rise =
      let h = off_at (backup_fallen few b) n none at in
      gone_at (backup_fallen few b) n none h.stands h.at_zero (backup_fallen rise b).stops

  -- whether the machine has it up
  pub is_up : (b : State) (p : Backup D d) → IsUpAt files layout trail b p → b.up ≡ true
  is_up b p u = ap (λ (s : State). s.up) u.state

-- a node that is at a state over a trail is at it over a longer one
pub node_longer : {D : Type 0} {d : Ghosts D} (files : D → Disk) (layout : Layout) (trail more : List Record) (b : State) (n : BackupNode D d) → Legal nothing (trail ++ more) → IsAt files layout trail b n → IsAt files layout (trail ++ more) b n
node_longer {D = D} {d = d} files layout trail more b n legal at = go n.backup at
  where
    go : (o : Option (Backup D d)) → MatchOption o (IsOffAt files layout trail b n.disks.items) (λ up. IsUpAt files layout trail b up) → MatchOption o (IsOffAt files layout (trail ++ more) b n.disks.items) (λ up. IsUpAt files layout (trail ++ more) b up)
    go None h = record { down = h.down; stands = stands_on files layout trail b more n.disks.items legal h.stands; at_zero = h.at_zero }
    go (Some p) h = record { laid = h.laid; state = h.state; serves = serves_longer files trail more p legal h.serves }

-- what is said of the reply that the node stopped, and of each fault, is said of a fault as it is told
pub told_as : (P : Result Reply NodeFault → Type 0) (name : Node) (why : NodeFault) (r : Result Reply NodeFault) → r ≡ stop_told name why → P (Ok (Stopped name)) → ((e : NodeFault) → P (Err e)) → P r
told_as P name why r is stops breaks = subst P (sym is) (by why)
  where
    by : (e : NodeFault) → P (stop_told name e)
    by (fault.Stopped disk) = stops
    by (fault.Failed disk) = breaks (fault.Failed disk)
    by fault.NoMemory = breaks fault.NoMemory
    by (fault.Damaged disk file at) = breaks (fault.Damaged disk file at)

module _ {D : Type 0} {d : Ghosts D} (files : D → Disk) (layout : Layout) (w : Around) (name : Node) where
  -- a line that is done, or refused
  pub whole_follows : (b next : State) (l : Line) (rise : ℕ) (reply : Reply) (new : BackupNode D d) → IsDone (backup_refusal layout w b l) (λ why. b) (backup_after layout w b l) (backup_says layout w b l) reply next →
      IsAt files layout w.trail next new → next.stops ≡ b.stops → Follows files layout w name b l rise reply new
  whole_follows b next l rise reply new done at stops = record { next = next; step = Whole done; at = at; stops = inl (done_unstopped (backup_refusal layout w b l) (λ why. b) (backup_after layout w b l) (backup_says layout w b l) reply next (backup_unstopped layout w b l) done name, stops) }

  pub refused_follows : (b : State) (l : Line) (rise : ℕ) (why : NoWhy) (new : BackupNode D d) → backup_refusal layout w b l ≡ Some why → IsAt files layout w.trail b new → Follows files layout w name b l rise (No why) new
  refused_follows b l rise why new is at = whole_follows b b l rise (No why) new (subst (λ o. IsDone o (λ why. b) (backup_after layout w b l) (backup_says layout w b l) (No why) b) (sym is) (refl, refl)) at refl

  pub done_follows : (b : State) (l : Line) (rise : ℕ) (reply : Reply) (new : BackupNode D d) → backup_refusal layout w b l ≡ None → backup_says layout w b l reply → IsAt files layout w.trail (backup_after layout w b l) new →
      (backup_after layout w b l).stops ≡ b.stops → Follows files layout w name b l rise reply new
  done_follows b l rise reply new is says at stops = whole_follows b (backup_after layout w b l) l rise reply new
      (subst (λ o. IsDone o (λ why. b) (backup_after layout w b l) (backup_says layout w b l) reply (backup_after layout w b l)) (sym is) (says, refl)) at stops

  -- a fault left it down before the first of the line's durable parts
  pub breaks_first : (b : State) (l : Line) (new : BackupNode D d) → new.backup ≡ None → BackupStandsFor files layout w.trail b new.disks.items → AreAtZero layout b.volumes → is_beside l ≡ false → Breaks files layout w b l new
  breaks_first b l new none stands zeros alone = record {
    done = 0;
    few = no_less (length (parts_of layout w b l));
    at = λ rise. subst (λ s. IsAt files layout w.trail (backup_fallen rise s) new) (sym (none_done b (parts_of layout w b l))) (gone_at files layout w.trail b new none stands zeros (backup_fallen rise b).stops);
    before = λ e. subst (λ (o : Option (Backup D d)). BackupStandsFor files layout w.trail b (disks_among o new.disks.items)) (sym none) stands;
    unrefused = λ e. absurd (true≢false (sym e ∙ alone));
  }

  -- the backup answers and is up
  pub goes_follows : (b : State) (l : Line) (rise : ℕ) (reply : Reply) (old new : Backup D d) (n : BackupNode D d) → n.backup ≡ Some new → IsUpAt files layout w.trail b old → replies.Goes files w l reply old new → Follows files layout w name b l rise reply n
  goes_follows b l rise reply old new n e u goes = subst (λ s. Follows files layout w name s l rise reply n) (sym u.state)
      (whole_follows (state_of b.stops old) (state_of b.stops new) l rise reply n
      (subst (λ y. IsDone (backup_refusal y w (state_of b.stops old) l) (λ why. state_of b.stops old) (backup_after y w (state_of b.stops old) l) (backup_says y w (state_of b.stops old) l) reply (state_of b.stops new)) u.laid (goes.answers b.stops))
      (at_up files layout w.trail (state_of b.stops new) n new e (record { laid = goes.laid ∙ u.laid; state = refl; serves = goes.serves })) refl)

  -- the backup falls
  module _ (tells : Type 0) (counts : D → Counts) (they : tells) (b : State) (l : Line) (rise : ℕ) (old new : Backup D d) (n : BackupNode D d) (none : n.backup ≡ None) (u : IsUpAt files layout w.trail b old) (of : disks_of l ≡ Some name)
      (stays : (s : State) → StaysIn (layout_of old) w s l) (broken : replies.Breaks files w l old new) (cut : AreCut tells files counts (disks_in new) n.disks.items) where
    abbrev was : State
    was = state_of b.stops old

    abbrev parts : List State
    parts = parts_of (layout_of old) w was l

    fell : (many : ℕ) → (k : ℕ) × ((k ≤ length parts) × IsAt files (layout_of old) w.trail (backup_fallen many (after_parts was parts k)) n)
    fell many =
        let s = some_left tells files counts they (disks_in new) n.disks.items cut (layout_of old) w.trail (length parts) (λ k. backup_fallen many (after_parts was parts k)) (broken.stands b.stops many) in
        (s.0, (s.1.0, at_off files (layout_of old) w.trail (backup_fallen many (after_parts was parts s.0)) n none (record { down = refl; stands = s.1.1; at_zero = (stays was s.0).1 (serving_zero files w.trail old u.serves b.stops) })))

    breaks : Breaks files layout w b l n
    breaks =
        let f = fell 0 in
        subst (λ y. Breaks files y w b l n) u.laid (subst (λ s. Breaks files (layout_of old) w s l n) (sym u.state) (record {
          done = f.0;
          few = f.1.0;
          at = fallen_at files (layout_of old) w.trail (after_parts was parts f.0) n none 0 f.1.1;
          before = λ e. absurd (none_some (sym e ∙ of));
          unrefused = λ e. broken.unrefused b.stops;
        }))
      where
        none_some : (let x : Option Node = None in x) ≡ Some name → ⊥
        none_some e = cc

    stops : 0 < rise → Follows files layout w name b l rise (Stopped name) n
    stops some =
        let f = fell rise in
        subst (λ y. Follows files y w name b l rise (Stopped name) n) u.laid (subst (λ s. Follows files (layout_of old) w name s l rise (Stopped name) n) (sym u.state) (record {
          next = backup_fallen rise (after_parts was parts f.0);
          step = Cut name of f.0 (record { may = subst (λ o. IsTrue (reaches_disks o)) (sym (broken.unrefused b.stops)) refl; few = f.1.0; says = refl; rise = rise; some = some; leaves = refl });
          at = f.1.1;
          stops = inr (refl, ap (λ m. count_u64 (m + rise)) (stays was f.0).0);
        }))

    -- it ends as its fault is told
    pub told_ends : 0 < rise → (why : NodeFault) (r : Result Reply NodeFault) → r ≡ stop_told name why → Ends files layout w name b l rise r n
    told_ends some why r is = told_as (λ x. Ends files layout w name b l rise x n) name why r is (stops some) (λ e. breaks)
