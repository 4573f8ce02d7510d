-- The whole of what a node does for a line.
use Rattle.std.proofs.Common.{◌≡◌, ◌≢◌, ◌&&◌, inl, ℕ, true, false, List, Option, Some, None, Result, Ok, OnOk, refl, sym, ap, ◌∙◌, subst}
use Rattle.std.specs.Prelude.{slice_get}
use Rattle.rdf_types.specs.declared.layout.Layout.{Layout}
use Rattle.rdf_types.specs.declared.records.Record.{Record}
use Rattle.rdf_types.specs.declared.records.Node.{Node}
use Rattle.rdf_types.specs.declared.records.Phase.{Phase}
use Rattle.rdf_disk.specs.Files.{Disk}
use Rattle.rdf_disk.specs.Counts.{Counts, Causes}
use Rattle.rdf_disk.specs.Counts.Ending.{Fine}
use Rattle.rdf_disk.specs.declared.disk.Disk.{Ghosts}
use Rattle.plan_lang.specs.declared.lines.Line.{Line}
use Rattle.node_faults.specs.declared.NodeFault.{NodeFault}
use Rattle.node_faults.specs.Faults.{IsSound, NamesOwn}
use Rattle.rdf_core.specs.declared.replies.NoWhy.{NoWhy}
use Rattle.rdf_core.specs.declared.replies.NoWhy.TheVariants as no
use Rattle.rdf_core.specs.declared.replies.Reply.{Reply}
use Rattle.rdf_core.specs.declared.replies.Reply.TheVariants.{No, Done, NodeDown, Stopped}
use Rattle.rdf_core.specs.Backup.{Backup as State, Around, backup_refusal}
use Rattle.rdf_core.specs.Step.{disks_of}
use Rattle.rdf_backup.specs.declared.backup.Backup.{Backup}
use Rattle.rdf_backup.specs.States.{layout_of, disks_in, MayUse, Serves, value_of}
use Rattle.rdf_backup.specs.Replies as replies
use Rattle.rdf_backup.specs.Replies.{CausedBy}
use Rattle.rdf_backup.specs.Answers.{IsPlain}
use Rattle.rdf_backup.specs.Refusals.{IsRefusal}
use Rattle.rdf_backup.specs.Beside.{is_beside}
use Rattle.rdf_backup.specs.Keeping.{KeepsBeside}
use Rattle.node_disks.specs.Counting.{Tells, is_fuse, is_done}
use Rattle.node_disks.specs.CutLaws.{each_same}
use Rattle.backup_node.specs.declared.node.BackupNode.{BackupNode}
use Rattle.backup_node.specs.Nodes.{IsUpAt, MayServe, disks_at}
use Rattle.backup_node.specs.Kinds.{IsKept, IsReplied, own_refusal}
use Rattle.backup_node.specs.Lines.{PerformsWhere, Keeps, Does, DoesAt, Settles}
use Rattle.backup_node.proofs.LineLaws.{StaysIn, when_down}
use Rattle.backup_node.proofs.LaidLaws.{settled_laid}
use Rattle.backup_node.proofs.NodeLaws.{off_at, up_at, goes_follows, refused_follows}
use Rattle.backup_node.proofs.EndLaws.{one_cause, first_cause}
use Rattle.backup_node.proofs.KindLaws.{down_replied, kept_same, kept_so}
use Rattle.backup_node.proofs.SettleLaws.{KeepsCounts, settled_ends, settled_sound, settled_stays, with_reply}
use Rattle.backup_node.specs.Moves.{phase_at, Stays, Moves, IsMoved}
use Rattle.backup_node.specs.MoveLaws.{moves_stopped, moves_no}
use Rattle.backup_node.proofs.MovedLaws.{kept_moved, settled_moved}

pub done_no : (name : Node) → Done ≢ Stopped name
done_no name e = cc

pub no_no : (why : NoWhy) (name : Node) → No why ≢ Stopped name
no_no why name e = cc

pub down_no : (name : Node) → NodeDown ≢ Stopped name
down_no name e = cc

-- no disk of a backup is called
pub same_caused : {D : Type 0} {d : Ghosts D} (counts : D → Counts) (p : Backup D d) → (i : ℕ) → replies.IfBoth (λ x y. Causes Fine (counts x) (counts y)) (slice_get (disks_in p) i) (slice_get (disks_in p) i)
same_caused {D = D} counts p i = go (slice_get (disks_in p) i)
  where
    go : (o : Option D) → replies.IfBoth (λ x y. Causes Fine (counts x) (counts y)) o o
    go None = tt
    go (Some x) = refl

module _ {D : Type 0} {d : Ghosts D} (tells : Type 0) (files : D → Disk) (counts : D → Counts) where
  -- where it does it, no damage is told of it at a state
  pub at_state : {Goes : Line → Result Reply NodeFault → BackupNode D d → BackupNode D d → Type 0} {l : Line} {result : Result Reply NodeFault} {old new : BackupNode D d} → Does tells files counts Goes l result old new → DoesAt tells files counts Goes l result old new
  at_state h = record { performs = h.performs; keeps = h.keeps; laid = h.laid; sound = λ t layout trail b at. h.sound t }

  module _ (n : BackupNode D d) (serves : MayServe tells files counts n) (l : Line) where
    -- a reply that leaves the node as it is
    pub still_keeps : (reply : Reply) → reply ≢ Stopped n.name → (is_fuse l && is_done (Ok reply)) ≡ false → Moves l reply (phase_at n) (phase_at n) → IsReplied l (Ok reply) n n → Keeps tells files counts l (Ok reply) n n
    still_keeps reply plain unfused moved kinds = record {
      serves = serves;
      sized = refl;
      named = refl;
      cause = inl (each_same (λ i x y. Tells Fine (counts x) (counts y)) (disks_at n) (λ i x. (refl, refl)), plain);
      fuses = inl (each_same (λ i x y. (counts y).fuses ≡ (counts x).fuses) (disks_at n) (λ i x. refl), unfused);
      kinds = kinds;
      kept = λ h. kept_same l n;
      moved = moved;
    }

    -- the backup that was taken out of it, or none, is back
    pub still_does : (Goes : Line → Result Reply NodeFault → BackupNode D d → BackupNode D d → Type 0) (reply : Reply) (o : Option (Backup D d)) → o ≡ n.backup → reply ≢ Stopped n.name → (is_fuse l && is_done (Ok reply)) ≡ false → Moves l reply (phase_at n) (phase_at n) → IsReplied l (Ok reply) n n → (tells → Goes l (Ok reply) n n) →
        Does tells files counts Goes l (Ok reply) n (record n { backup = o })
    still_does Goes reply o same plain unfused moved kinds goes = subst (λ (x : Option (Backup D d)). Does tells files counts Goes l (Ok reply) n (record n { backup = x })) (sym same)
        (record { performs = goes; keeps = still_keeps reply plain unfused moved kinds; laid = λ layout h. h; sound = λ t. tt; still = λ h. refl })

    -- a node that is down refuses
    pub down_does : (Holds : Layout → Around → State → Type 0) (o : Option (Backup D d)) → o ≡ None → None ≡ n.backup → is_fuse l ≡ false → ((layout : Layout) (w : Around) (b : State) → backup_refusal layout w (record b { up = false }) l ≡ Some no.Down) → own_refusal (record n { backup = None }) l ≡ Some no.Down →
        Does tells files counts (PerformsWhere files Holds) l (Ok (No no.Down)) n (record n { backup = o })
    down_does Holds o none was unfused refused own = still_does (PerformsWhere files Holds) (No no.Down) o (none ∙ was) (no_no no.Down n.name) (ap (λ b. b && false) unfused) (moves_no l no.Down (phase_at n)) (down_replied n l was own)
        (λ t layout w b rise some holds at. refused_follows files layout w n.name b l rise no.Down n
        (when_down (λ s. backup_refusal layout w s l ≡ Some no.Down) b (off_at files layout w.trail b n (sym was) at).down (refused layout w b)) at)

    replied_at : (p : Backup D d) → Some p ≡ n.backup → (reply : Reply) → IsReplied l (Ok reply) (record n { backup = Some p }) (record n { backup = Some p }) → IsReplied l (Ok reply) n n
    replied_at p was reply kinds = subst (λ (x : Option (Backup D d)). IsReplied l (Ok reply) (record n { backup = x }) (record n { backup = x })) was kinds

    -- a backup that is up answers and is as before
    pub answer_does : (Holds : Layout → Around → State → Type 0) (p : Backup D d) → Some p ≡ n.backup → is_fuse l ≡ false → (reply : Reply) → reply ≢ Stopped n.name → Moves l reply (phase_at n) (phase_at n) → IsReplied l (Ok reply) (record n { backup = Some p }) (record n { backup = Some p }) →
        (tells → (layout : Layout) (w : Around) (b : State) → Holds layout w b → IsUpAt files layout w.trail b p → replies.Goes files w l reply p p) → Does tells files counts (PerformsWhere files Holds) l (Ok reply) n (record n { backup = Some p })
    answer_does Holds p was unfused reply plain moved kinds goes = still_does (PerformsWhere files Holds) reply (Some p) was plain (ap (λ b. b && is_done (Ok reply)) unfused) moved (replied_at p was reply kinds)
        (λ t layout w b rise some holds at. let u = up_at files layout w.trail b n p (sym was) at in goes_follows files layout w n.name b l rise reply p p n (sym was) u (goes t layout w b holds u))

    -- or refuses
    pub refuse_does : (Holds : Layout → Around → State → Type 0) (p : Backup D d) → Some p ≡ n.backup → is_fuse l ≡ false → (why : NoWhy) → IsReplied l (Ok (No why)) (record n { backup = Some p }) (record n { backup = Some p }) →
        ((layout : Layout) (w : Around) (b : State) → Holds layout w b → IsUpAt files layout w.trail b p → backup_refusal layout w b l ≡ Some why) → Does tells files counts (PerformsWhere files Holds) l (Ok (No why)) n (record n { backup = Some p })
    refuse_does Holds p was unfused why kinds refused = still_does (PerformsWhere files Holds) (No why) (Some p) was (no_no why n.name) (ap (λ b. b && false) unfused) (moves_no l why (phase_at n)) (replied_at p was (No why) kinds)
        (λ t layout w b rise some holds at. refused_follows files layout w n.name b l rise why n (refused layout w b holds (up_at files layout w.trail b n p (sym was) at)) at)

  -- a line on a backup that was up, which the node had in it
  module _ (o n : BackupNode D d) (old new : Backup D d) (l : Line) (before : Some old ≡ o.backup) (r x : Result Reply NodeFault) (settles : Settles tells files counts o.name new r x n) (same : layout_of new ≡ layout_of old) where
    abbrev was : BackupNode D d
    was = record o { backup = Some old }

    pub was_serving : MayServe tells files counts o → MayServe tells files counts was
    was_serving serves = subst (λ (p : Option (Backup D d)). MayServe tells files counts (record o { backup = p })) (sym before) serves

    pub kept_does : Keeps tells files counts l x was n → (Goes : Line → Result Reply NodeFault → BackupNode D d → BackupNode D d → Type 0) → (tells → IsSound r) → (IsRefusal x → n ≡ was) → (tells → Goes l x was n) → Does tells files counts Goes l x o n
    kept_does keeps Goes sound still goes = subst (λ (p : Option (Backup D d)). Does tells files counts Goes l x (record o { backup = p }) n) before
        (record { performs = goes; keeps = keeps; laid = settled_laid tells files counts o n old new r x settles same; sound = λ t. settled_sound tells files counts o n old new r x settles (sound t); still = still })

    pub kept_at : Keeps tells files counts l x was n → (Goes : Line → Result Reply NodeFault → BackupNode D d → BackupNode D d → Type 0) → (tells → (trail : List Record) → Serves files trail old → IsSound r) → (tells → Goes l x was n) → DoesAt tells files counts Goes l x o n
    kept_at keeps Goes sound goes = subst (λ (p : Option (Backup D d)). DoesAt tells files counts Goes l x (record o { backup = p }) n) before (record {
      performs = goes;
      keeps = keeps;
      laid = settled_laid tells files counts o n old new r x settles same;
      sound = λ t layout trail b u. settled_sound tells files counts o n old new r x settles (sound t trail u.serves);
    })

  -- one that works the volumes beside each other
  pub beside_at : (o n : BackupNode D d) (old new : Backup D d) (l : Line) → is_fuse l ≡ false → is_beside l ≡ true → Some old ≡ o.backup → MayServe tells files counts o → (r x : Result Reply NodeFault) → Settles tells files counts o.name new r x n → n.volumes ≡ o.volumes → n.name ≡ o.name →
      KeepsBeside tells files counts r old new → ((reply : Reply) → r ≡ Ok reply → Moves l reply (Some (value_of old).phase) (Some (value_of new).phase)) → IsReplied l x (record o { backup = Some old }) n → (IsRefusal x → IsKept l (record o { backup = Some old }) n) → (Goes : Line → Result Reply NodeFault → BackupNode D d → BackupNode D d → Type 0) → (tells → (trail : List Record) → Serves files trail old → IsSound r) → (tells → Goes l x (record o { backup = Some old }) n) → DoesAt tells files counts Goes l x o n
  beside_at o n old new l unfused beside before serves r x settles sized called k moved kinds kept = kept_at o n old new l before r x settles k.laid
      (with_reply (settled_stays tells files counts o n old new l unfused (was_serving o n old new l before r x settles k.laid serves) sized called r x settles (first_cause counts (is_beside l) beside r old new k.cause) k.usable k.named k.plain) kinds kept
      (settled_moved (Moves l) (moves_stopped l) tells files counts o.name (Some (value_of old).phase) new n r x settles moved))

  -- any other one
  module _ (o n : BackupNode D d) (old new : Backup D d) (l : Line) (unfused : is_fuse l ≡ false) (before : Some old ≡ o.backup) (serves : MayServe tells files counts o) (r x : Result Reply NodeFault) (settles : Settles tells files counts o.name new r x n) (sized : n.volumes ≡ o.volumes) (called : n.name ≡ o.name)
      (caused : CausedBy counts r old new) (use_ : tells → OnOk r (MayUse files new)) (fine : NamesOwn (layout_of old).volumes r) (plain : IsPlain r) (phase : OnOk r ((value_of new).phase ≡ (value_of old).phase)) (stays : (reply : Reply) (p q : Option Phase) → Stays reply p q → Moves l reply p q) (same : layout_of new ≡ layout_of old) (kinds : IsReplied l x (record o { backup = Some old }) n) where
    keeps : KeepsCounts tells files counts l x (record o { backup = Some old }) n
    keeps = settled_stays tells files counts o n old new l unfused (was_serving o n old new l before r x settles same serves) sized called r x settles (one_cause counts (is_beside l) r old new caused) use_ fine plain

    moved : IsMoved l x (record o { backup = Some old }) n
    moved = settled_moved (Moves l) (moves_stopped l) tells files counts o.name (Some (value_of old).phase) new n r x settles
        (λ reply is. stays reply (Some (value_of old).phase) (Some (value_of new).phase) (kept_moved r (value_of old).phase (value_of new).phase plain phase reply is))

    pub settled_does : (Goes : Line → Result Reply NodeFault → BackupNode D d → BackupNode D d → Type 0) → (tells → IsSound r) → (IsRefusal x → n ≡ record o { backup = Some old }) → (tells → Goes l x (record o { backup = Some old }) n) → Does tells files counts Goes l x o n
    settled_does Goes sound still = kept_does o n old new l before r x settles same (with_reply keeps kinds (λ h. kept_so l (record o { backup = Some old }) n (still h)) moved) Goes sound still

    pub settled_at : (Goes : Line → Result Reply NodeFault → BackupNode D d → BackupNode D d → Type 0) → (IsRefusal x → IsKept l (record o { backup = Some old }) n) → (tells → (trail : List Record) → Serves files trail old → IsSound r) → (tells → Goes l x (record o { backup = Some old }) n) → DoesAt tells files counts Goes l x o n
    settled_at Goes kept = kept_at o n old new l before r x settles same (with_reply keeps kinds kept moved) Goes

    -- one that ends as the backup ends it
    pub settled_line : (Holds : Layout → Around → State → Type 0) → (tells → IsSound r) → (IsRefusal x → n ≡ record o { backup = Some old }) → disks_of l ≡ Some o.name → ((w : Around) (s : State) → StaysIn (layout_of old) w s l) →
        (tells → (layout : Layout) (w : Around) (b : State) → Holds layout w b → IsUpAt files layout w.trail b old → replies.Ends files w l r old new) → Does tells files counts (PerformsWhere files Holds) l x o n
    settled_line Holds sound still of stays ends = settled_does (PerformsWhere files Holds) sound still
        (λ t layout w b rise some holds u. settled_ends tells files counts o n old new t layout w b l rise some u of (stays w) r x settles (ends t layout w b holds u))
