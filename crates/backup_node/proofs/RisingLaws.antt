-- Reads in a session of a backup's node, and its end, by how the backup that was up ends them.
use Rattle.std.proofs.Common.{◌≡◌, ◌==◌, inl, inr, ℕ, zero, suc, Bool, true, false, List, [], ◌∷◌, length, ◌≤◌, Some, None, Result, Ok, Err, IsTrue, if◌then◌else◌, refl, sym, ap, ◌∙◌, subst, arith}
use Rattle.std.specs.Prelude.{map}
use Rattle.std.proofs.lemmas.Bool.{eq-eqb}
use Rattle.std.proofs.Math.ListN.{get_or-map}
use Rattle.rdf_types.specs.declared.layout.Layout.{Layout}
use Rattle.rdf_types.specs.declared.records.Node.{Node}
use Rattle.rdf_types.specs.declared.records.RecKey.{RecKey}
use Rattle.rdf_types.specs.declared.records.Record.{Record}
use Rattle.rdf_disk.specs.Files.{Disk}
use Rattle.rdf_disk.specs.Counts.{Counts, Ending}
use Rattle.rdf_disk.specs.Counts.Ending.{Fine, Stop}
use Rattle.rdf_disk.specs.declared.disk.Disk.{Ghosts}
use Rattle.node_faults.specs.declared.NodeFault.{NodeFault}
use Rattle.node_faults.specs.declared.NodeFault.TheVariants as fault
use Rattle.node_faults.specs.Faults.{ending_for}
use Rattle.image_disks.specs.Values.{received}
use Rattle.rdf_core.specs.declared.replies.Reply.{Reply}
use Rattle.rdf_core.specs.declared.replies.Reply.TheVariants.{Number}
use Rattle.rdf_core.specs.Backup.{Backup as State, Volumes, Running, Taking, Taken, is_running, backup_fallen, kept_of}
use Rattle.rdf_core.specs.Layouts.{protects, point_of, points_at}
use Rattle.rdf_core.specs.Lines.{run_at}
use Rattle.rdf_core.specs.Rising.{HasRisen}
use Rattle.rdf_core.specs.Sound.{IsSound as IsSoundBackup, AreSound}
use Rattle.rdf_core.specs.SoundLaws.{points_at-of}
use Rattle.rdf_backup.specs.declared.backup.Backup.{Backup}
use Rattle.rdf_backup.specs.Restarting.{AreAtZero}
use Rattle.rdf_backup.specs.Rising.{SomeRisen, HasRead, HasCaughtUp, is_of_protected}
use Rattle.rdf_backup.specs.States.{layout_of, value_of, state_of, disks_in}
use Rattle.node_disks.specs.Cuts.{AreCut}
use Rattle.backup_node.specs.declared.node.BackupNode.{BackupNode}
use Rattle.backup_node.specs.Nodes.{IsAt, IsUpAt}
use Rattle.backup_node.specs.Lines.{stop_told}
use Rattle.backup_node.specs.Rising.{FellRisen, ReadAt, ReadEnds, EndEnds, caught_up}
use Rattle.backup_node.proofs.StandLaws.{risen_left}
use Rattle.backup_node.proofs.NodeLaws.{at_up, up_zero, gone_at, told_as}

-- volumes that are not protected stay at 0
pub risen_zero : (layout : Layout) (b next : State) → HasRisen layout b next → AreAtZero layout b.volumes → AreAtZero layout next.volumes
risen_zero layout b next h zeros = subst (λ (s : State). AreAtZero layout s.volumes) (sym h.is) (λ v off. h.rise.stay v off ∙ (subst (λ vs. AreAtZero layout vs) h.was zeros) v off)

-- the points of a backup that runs rise to what it has received
caught_risen : (layout : Layout) (trail : List Record) (b : State) → IsSoundBackup layout trail b → AreAtZero layout b.volumes → is_running b.volumes ≡ true → HasRisen layout b (caught_up layout b)
caught_risen layout trail b sound zeros run = by b.volumes refl sound.volumes zeros run
  where
    itself : (n : ℕ) → n ≤ n
    itself n = omega arith

    map_length : (f : Bool → ℕ) (xs : List Bool) → length (map f xs) ≡ length xs
    map_length f [] = refl
    map_length f (x ∷ xs) = ap (λ n. suc n) (map_length f xs)

    unmoved : (v : ℕ) → protects layout v ≡ false → point_of (points_at layout b.received) v ≡ 0
    unmoved v off = get_or-map (λ protect. if protect then b.received else 0) layout.protect v false ∙ ap (λ t. if t then b.received else 0) off

    by : (vs : Volumes) → vs ≡ b.volumes → AreSound layout trail b.received (kept_of b) vs → AreAtZero layout vs → is_running vs ≡ true → HasRisen layout b (caught_up layout b)
    by (Running points) is s z e = record {
      points = points;
      now_points = points_at layout b.received;
      was = sym is;
      rise = record {
        many = map_length (λ protect. if protect then b.received else 0) layout.protect ∙ sym s.whole;
        rise = λ v p. (subst (λ n. point_of points v ≤ n) (sym (points_at-of layout b.received v p)) (s.high v p), subst (λ n. n ≤ b.received) (sym (points_at-of layout b.received v p)) (itself b.received));
        stay = λ v off. unmoved v off ∙ sym (z v off);
      };
      is = ap (λ (x : Volumes). let y : State = record b { volumes = run_at (points_at layout b.received) x } in y) (sym is);
    }
    by Taking is s z e = cc
    by (Taken upto) is s z e = cc

module _ {D : Type 0} {d : Ghosts D} (files : D → Disk) (layout : Layout) (trail : List Record) (b : State) (old : Backup D d) (u : IsUpAt files layout trail b old) where
  sound : IsSoundBackup layout trail b
  sound = subst (λ y. IsSoundBackup y trail b) u.laid (subst (λ s. IsSoundBackup (layout_of old) trail s) (sym u.state) (u.serves.over.sound b.stops))

  module _ (new : Backup D d) (n : BackupNode D d) where
    -- a row was read
    pub read_at : (key : RecKey) (reply : Reply) → n.backup ≡ Some new → HasRead files trail key reply old new → ReadAt files layout trail key b reply n
    read_at key reply here h = subst (λ y. ReadAt files y trail key b reply n) u.laid (subst (λ s. ReadAt files (layout_of old) trail key s reply n) (sym u.state) (record {
      next = state_of b.stops new;
      rise_is = h.rise b.stops;
      says = h.says;
      at = at_up files (layout_of old) trail (state_of b.stops new) n new here (record { laid = h.laid; state = refl; serves = h.serves });
    }))

    -- all that was received is shown
    caught_at : n.backup ≡ Some new → HasCaughtUp files trail old new → IsAt files layout trail (caught_up layout b) n
    caught_at here h = subst (λ y. IsAt files y trail (caught_up y b) n) u.laid (subst (λ s. IsAt files (layout_of old) trail (caught_up (layout_of old) s) n) (sym u.state)
        (at_up files (layout_of old) trail (caught_up (layout_of old) (state_of b.stops old)) n new here (record { laid = h.laid; state = sym (h.state b.stops); serves = h.serves })))

    pub caught_told : (name : Node) (rise : ℕ) (x : Result Reply NodeFault) → x ≡ Ok (Number (received (value_of old))) → is_running b.volumes ≡ true → n.backup ≡ Some new → HasCaughtUp files trail old new → EndEnds files layout trail name b rise x n
    caught_told name rise x is run here h = subst (λ z. EndEnds files layout trail name b rise z n) (sym is)
        (inl (ap (λ (t : State). let reply : Reply = Number t.received in reply) (sym u.state), caught_risen layout trail b sound (up_zero files layout trail b old u) run, caught_at here h))

    -- a fault took it down
    module _ (tells : Type 0) (counts : D → Counts) (they : tells) (none : n.backup ≡ None) (cut : AreCut tells files counts (disks_in new) n.disks.items) (some : (stops : ℕ) → SomeRisen files (layout_of old) trail (state_of stops old) (disks_in new)) where
      left : SomeRisen files layout trail b (disks_in new)
      left = subst (λ y. SomeRisen files y trail b (disks_in new)) u.laid (subst (λ s. SomeRisen files (layout_of old) trail s (disks_in new)) (sym u.state) (some b.stops))

      fell : (rise : ℕ) → FellRisen files layout trail b rise n
      fell rise =
          let r = risen_left tells files counts they (disks_in new) n.disks.items cut layout trail b left in
          record {
            next = r.0;
            rise_is = r.1.0;
            at = gone_at files layout trail r.0 n none r.1.1 (risen_zero layout b r.0 r.1.0 (up_zero files layout trail b old u)) (backup_fallen rise r.0).stops;
          }

      pub read_told : (key : RecKey) (name : Node) (rise : ℕ) (why : NodeFault) (x : Result Reply NodeFault) → x ≡ stop_told name why → IsTrue (protects (layout_of old) key.vol) → ReadEnds files layout trail key name b rise x n
      read_told key name rise why x is own = told_as (λ y. ReadEnds files layout trail key name b rise y n) name why x is (inr (refl, subst (λ y. IsTrue (protects y key.vol)) u.laid own, fell rise)) (λ e. fell 0)

      end_told : (name : Node) (rise : ℕ) (why : NodeFault) → ((i : ℕ) → is_of_protected (layout_of old) i ≡ false → ending_for i (let r : Result Reply NodeFault = Err why in r) ≡ Fine) → EndEnds files layout trail name b rise (stop_told name why) n
      end_told name rise (fault.Stopped disk) own = let v = stopped_of disk (own disk) in inr (refl, (v.0, (subst (λ y. IsTrue (protects y v.0)) u.laid v.1, fell rise)))
        where
          not_stop : Stop ≡ Fine → ⊥
          not_stop e = cc

          here : (i : ℕ) (e : Ending) → (if i == i then e else Fine) ≡ e
          here i e = ap (λ t. if t then e else Fine) (eq-eqb i i refl)

          by : (v : ℕ) (p : Bool) → p ≡ protects (layout_of old) v → (p ≡ false → (if suc v == suc v then Stop else Fine) ≡ Fine) → (v : ℕ) × IsTrue (protects (layout_of old) v)
          by v true e h = (v, subst (λ t. IsTrue t) e refl)
          by v false e h = absurd (not_stop (sym (here (suc v) Stop) ∙ h refl))

          stopped_of : (i : ℕ) → (is_of_protected (layout_of old) i ≡ false → (if i == i then Stop else Fine) ≡ Fine) → (v : ℕ) × IsTrue (protects (layout_of old) v)
          stopped_of zero h = absurd (not_stop (sym (here zero Stop) ∙ h refl))
          stopped_of (suc v) h = by v (protects (layout_of old) v) refl h
      end_told name rise (fault.Failed disk) own = fell 0
      end_told name rise fault.NoMemory own = fell 0
      end_told name rise (fault.Damaged disk file at) own = fell 0

      pub fell_told : (name : Node) (rise : ℕ) (why : NodeFault) (x : Result Reply NodeFault) → x ≡ stop_told name why → ((i : ℕ) → is_of_protected (layout_of old) i ≡ false → ending_for i (let r : Result Reply NodeFault = Err why in r) ≡ Fine) → EndEnds files layout trail name b rise x n
      fell_told name rise why x is own = subst (λ z. EndEnds files layout trail name b rise z n) (sym is) (end_told name rise why own)
