-- A line on a backup that was up: the backup stays up, or a fault takes it down.
use Rattle.std.proofs.Common.{◌≡◌, ◌≢◌, ◌&&◌, inl, inr, ℕ, suc, ◌<◌, Bool, true, false, List, length, Option, Some, None, Result, Ok, Err, OnOk, refl, sym, ap, ◌∙◌, subst, arith}
use Rattle.std.specs.Prelude.{MatchOption}
use Rattle.rdf_types.specs.declared.layout.Layout.{Layout}
use Rattle.rdf_disk.specs.Files.{Disk}
use Rattle.rdf_disk.specs.Counts.{Counts, Ending, Causes}
use Rattle.rdf_disk.specs.Counts.Ending.{Fine}
use Rattle.rdf_disk.specs.declared.disk.Disk.{Ghosts}
use Rattle.rdf_types.specs.declared.records.Node.{Node}
use Rattle.plan_lang.specs.declared.lines.Line.{Line}
use Rattle.node_faults.specs.declared.NodeFault.{NodeFault}
use Rattle.node_faults.specs.declared.NodeFault.TheVariants as fault
use Rattle.node_faults.specs.Faults.{is_damage, IsSound, IsNamed, NamesOwn}
use Rattle.rdf_core.specs.declared.replies.Reply.{Reply}
use Rattle.rdf_core.specs.declared.replies.Reply.TheVariants.{Stopped}
use Rattle.rdf_core.specs.Backup.{Backup as State, Around}
use Rattle.rdf_core.specs.Step.{disks_of}
use Rattle.rdf_backup.specs.declared.backup.Backup.{Backup}
use Rattle.rdf_backup.specs.States.{layout_of, disks_in, MayUse}
use Rattle.rdf_backup.specs.Replies as replies
use Rattle.rdf_backup.specs.Answers.{IsPlain}
use Rattle.rdf_backup.specs.Refusals.{IsRefusal}
use Rattle.rdf_backup.specs.Beside.{is_beside, MayEnd}
use Rattle.rdf_backup.specs.StandingLaws.{disks_many}
use Rattle.node_disks.specs.Cuts.{Each, IsCut, AreCut}
use Rattle.node_disks.specs.Counting.{Tells, is_fuse, is_done}
use Rattle.node_disks.specs.CutLaws.{same_length}
use Rattle.node_disks.specs.CountLaws.{cut_off, none_fails, none_fuses, still_on}
use Rattle.backup_node.specs.declared.node.BackupNode.{BackupNode}
use Rattle.backup_node.specs.Nodes.{IsUpAt, MayRest, MayRun, MayServe, disks_at, disks_among}
use Rattle.backup_node.specs.Kinds.{IsKept, IsReplied}
use Rattle.backup_node.specs.Moves.{IsMoved}
use Rattle.backup_node.specs.Lines.{Ends, FailsBy, IsCaused, IsFused, Keeps, Settles, stop_told}
use Rattle.backup_node.proofs.LineLaws.{StaysIn}
use Rattle.backup_node.proofs.EndLaws.{HasCause, all_fine, ends_tell, no_fuses}
use Rattle.backup_node.proofs.NodeLaws.{goes_follows, told_ends}

-- a fault that is told has its causes
abbrev stops : NodeFault → Bool
stops (fault.Stopped disk) = true
stops _ = false

no_stop : (why : NodeFault) → stops why ≡ false → (disk : ℕ) → why ≢ fault.Stopped disk
no_stop why e disk f = never (sym e ∙ ap stops f)
  where
    never : false ≡ true → ⊥
    never g = cc

pub told_caused : {D : Type 0} {d : Ghosts D} (counts : D → Counts) (l : Line) (why : NodeFault) (old new : BackupNode D d) → FailsBy counts l why old new → IsCaused counts l (stop_told old.name why) old new
told_caused counts l (fault.Stopped disk) old new h = inr (refl, (disk, h))
told_caused counts l (fault.Failed disk) old new h = (h, no_stop (fault.Failed disk) refl)
told_caused counts l fault.NoMemory old new h = (h, no_stop fault.NoMemory refl)
told_caused counts l (fault.Damaged disk file at) old new h = (h, no_stop (fault.Damaged disk file at) refl)

-- and tells of no damage where it has none
pub told_sound : (name : Node) (why : NodeFault) (r : Result Reply NodeFault) → r ≡ stop_told name why → is_damage why ≡ false → IsSound r
told_sound name why r is h = subst (λ (x : Result Reply NodeFault). IsSound x) (sym is) (by why h)
  where
    by : (y : NodeFault) → is_damage y ≡ false → IsSound (stop_told name y)
    by (fault.Stopped disk) e = tt
    by (fault.Failed disk) e = e
    by fault.NoMemory e = e
    by (fault.Damaged disk file at) e = e

module _ {D : Type 0} {d : Ghosts D} (n : BackupNode D d) where
  -- the disks of a node that is down, or up
  pub each_off : n.backup ≡ None → (R : ℕ → D → D → Type 0) (xs : List D) → Each R xs n.disks.items → Each R xs (disks_at n)
  each_off none R xs h = subst (λ (o : Option (Backup D d)). Each R xs (disks_among o n.disks.items)) (sym none) h

  pub each_up : (q : Backup D d) → n.backup ≡ Some q → (R : ℕ → D → D → Type 0) (xs : List D) → Each R xs (disks_in q) → Each R xs (disks_at n)
  each_up q e R xs h = subst (λ (o : Option (Backup D d)). Each R xs (disks_among o n.disks.items)) (sym e) h

  pub each_was : (q : Backup D d) → n.backup ≡ Some q → (R : ℕ → D → D → Type 0) (ys : List D) → Each R (disks_in q) ys → Each R (disks_at n) ys
  each_was q e R ys h = subst (λ (o : Option (Backup D d)). Each R (disks_among o n.disks.items) ys) (sym e) h

  pub each_was_off : n.backup ≡ None → (R : ℕ → D → D → Type 0) (ys : List D) → Each R n.disks.items ys → Each R (disks_at n) ys
  each_was_off none R ys h = subst (λ (o : Option (Backup D d)). Each R (disks_among o n.disks.items) ys) (sym none) h

  module _ (tells : Type 0) (files : D → Disk) (counts : D → Counts) where
    abbrev By : ℕ → Option (Backup D d) → Type 0
    By volumes o = MatchOption o (MayRest counts volumes n.disks.items) (λ b. MayRun tells files counts volumes b)

    pub serves_off : (volumes : ℕ) → n.backup ≡ None → n.volumes ≡ volumes → MayRest counts volumes n.disks.items → MayServe tells files counts n
    serves_off volumes none same h = subst (λ (v : ℕ). By v n.backup) (sym same) (subst (λ (o : Option (Backup D d)). By volumes o) (sym none) h)

    pub serves_up : (volumes : ℕ) (q : Backup D d) → n.backup ≡ Some q → n.volumes ≡ volumes → MayRun tells files counts volumes q → MayServe tells files counts n
    serves_up volumes q e same h = subst (λ (v : ℕ). By v n.backup) (sym same) (subst (λ (o : Option (Backup D d)). By volumes o) (sym e) h)

    pub was_up : (q : Backup D d) → n.backup ≡ Some q → MayServe tells files counts n → MayRun tells files counts n.volumes q
    was_up q e h = subst (λ (o : Option (Backup D d)). By n.volumes o) e h

    pub was_off : n.backup ≡ None → MayServe tells files counts n → MayRest counts n.volumes n.disks.items
    was_off e h = subst (λ (o : Option (Backup D d)). By n.volumes o) e h

-- what a node keeps at a line, but for its reply, what a refusal leaves, and how the line moves it
pub record KeepsCounts {D : Type 0} {d : Ghosts D} (tells : Type 0) (files : D → Disk) (counts : D → Counts) (l : Line) (result : Result Reply NodeFault) (old new : BackupNode D d) : Type 0 where
  pub serves : MayServe tells files counts new
  pub sized : new.volumes ≡ old.volumes
  pub named : new.name ≡ old.name
  pub cause : IsCaused counts l result old new
  pub fuses : IsFused counts l result old new

-- and with these
pub with_reply : {D : Type 0} {d : Ghosts D} {tells : Type 0} {files : D → Disk} {counts : D → Counts} {l : Line} {result : Result Reply NodeFault} {old new : BackupNode D d} → KeepsCounts tells files counts l result old new → IsReplied l result old new → (IsRefusal result → IsKept l old new) →
    IsMoved l result old new → Keeps tells files counts l result old new
with_reply s kinds kept moved = record { serves = s.serves; sized = s.sized; named = s.named; cause = s.cause; fuses = s.fuses; kinds = kinds; kept = kept; moved = moved }

module _ {D : Type 0} {d : Ghosts D} (tells : Type 0) (files : D → Disk) (counts : D → Counts) where
  -- the disks of a backup that went down
  pub are_off : (p : Backup D d) (volumes : ℕ) (disks : List D) → (layout_of p).volumes ≡ volumes → AreCut tells files counts (disks_in p) disks → MayRest counts volumes disks
  are_off p volumes disks sized cut = record {
    many = same_length (λ i x y. IsCut tells files counts x y) (disks_in p) disks cut ∙ disks_many p ∙ ap suc sized;
    off = cut_off counts tells files (disks_in p) disks cut;
  }

  many_as : (old new : Backup D d) (R : ℕ → D → D → Type 0) → Each R (disks_in old) (disks_in new) → (layout_of new).volumes ≡ (layout_of old).volumes
  many_as old new R each = one_less (layout_of new).volumes (layout_of old).volumes (sym (disks_many new) ∙ same_length R (disks_in old) (disks_in new) each ∙ disks_many old)
    where
      one_less : (x y : ℕ) → suc x ≡ suc y → x ≡ y
      one_less x y e = omega (arith, e)

  module _ (o n : BackupNode D d) (old new : Backup D d) (l : Line) (unfused : is_fuse l ≡ false) (run : MayRun tells files counts o.volumes old) (sized : n.volumes ≡ o.volumes) (called : n.name ≡ o.name) where
    abbrev was : BackupNode D d
    was = record o { backup = Some old }

    -- it stays up
    up_stays : n.backup ≡ Some new → Each (λ i x y. counts y ≡ counts x) (disks_in old) (disks_in new) → (tells → MayUse files new) → (reply : Reply) → reply ≢ Stopped o.name → KeepsCounts tells files counts l (Ok reply) was n
    up_stays up same use_ reply plain = record {
      serves = serves_up n tells files counts o.volumes new up sized (record {
        runs = use_;
        sized = many_as old new (λ i x y. counts y ≡ counts x) same ∙ run.sized;
        on = still_on counts (disks_in old) (disks_in new) same run.on;
      });
      sized = sized;
      named = called;
      cause = inl (each_up n new up (λ i x y. Tells Fine (counts x) (counts y)) (disks_in old) (none_fails counts (disks_in old) (disks_in new) same), plain);
      fuses = inl (each_up n new up (λ i x y. (counts y).fuses ≡ (counts x).fuses) (disks_in old) (none_fuses counts (disks_in old) (disks_in new) same), ap (λ b. b && is_done (Ok reply)) unfused);
    }

    -- it falls
    off_stays : n.backup ≡ None → (why : NodeFault) (ends : ℕ → Ending) → MayEnd (is_beside l) why ends → Each (λ i x y. Causes (ends i) (counts x) (counts y)) (disks_in old) (disks_in new) → AreCut tells files counts (disks_in new) n.disks.items →
        IsNamed (suc (layout_of old).volumes) why → KeepsCounts tells files counts l (stop_told o.name why) was n
    off_stays none why ends may caused cut fine = record {
      serves = serves_off n tells files counts o.volumes none sized (are_off new o.volumes n.disks.items (many_as old new (λ i x y. Causes (ends i) (counts x) (counts y)) caused ∙ run.sized) cut);
      sized = sized;
      named = called;
      cause = told_caused counts l why was n (
        subst (λ m. IsNamed m why) (sym (disks_many old)) fine,
        (ends, (may, each_off n none (λ i x y. Tells (ends i) (counts x) (counts y)) (disks_in old) (ends_tell counts ends (disks_in old) (disks_in new) caused tells files n.disks.items cut run.on))),
      );
      fuses = inl (
        each_off n none (λ i x y. (counts y).fuses ≡ (counts x).fuses) (disks_in old) (no_fuses counts ends (disks_in old) (disks_in new) caused tells files n.disks.items cut run.on),
        ap (λ b. b && is_done (stop_told o.name why)) unfused,
      );
    }

    -- one or the other
    pub settled_stays : (r x : Result Reply NodeFault) → Settles tells files counts o.name new r x n → HasCause counts (is_beside l) r old new → (tells → OnOk r (MayUse files new)) → NamesOwn (layout_of old).volumes r → IsPlain r → KeepsCounts tells files counts l x was n
    settled_stays (Ok reply) x s (ends, (may, caused)) use_ fine plain = subst (λ y. KeepsCounts tells files counts l y was n) (sym s.0)
        (up_stays s.1 (all_fine counts ends (disks_in old) (disks_in new) caused may) use_ reply (plain o.name))
    settled_stays (Err why) x s (ends, (may, caused)) use_ fine plain = subst (λ y. KeepsCounts tells files counts l y was n) (sym s.0)
        (off_stays s.1 why ends may caused s.2 fine)

  module _ (o n : BackupNode D d) (old new : Backup D d) where
    pub settled_ends : (they : tells) (layout : Layout) (w : Around) (b : State) (l : Line) (rise : ℕ) → 0 < rise → IsUpAt files layout w.trail b old → disks_of l ≡ Some o.name → ((s : State) → StaysIn (layout_of old) w s l) → (r x : Result Reply NodeFault) → Settles tells files counts o.name new r x n →
        replies.Ends files w l r old new → Ends files layout w o.name b l rise x n
    settled_ends they layout w b l rise some u of stays (Ok reply) x s ends = subst (λ y. Ends files layout w o.name b l rise y n) (sym s.0) (goes_follows files layout w o.name b l rise reply old new n s.1 u ends)
    settled_ends they layout w b l rise some u of stays (Err why) x s ends = told_ends files layout w o.name tells counts they b l rise old new n s.1 u of stays ends s.2 some why x s.0

    -- it tells of no damage where the fault tells of none
    pub settled_sound : (r x : Result Reply NodeFault) → Settles tells files counts o.name new r x n → IsSound r → IsSound x
    settled_sound (Ok reply) x s h = subst (λ (y : Result Reply NodeFault). IsSound y) (sym s.0) tt
    settled_sound (Err why) x s h = told_sound o.name why x s.0 h

-- a fault of a disk is one of the node's
pub named_off : {D : Type 0} {d : Ghosts D} (n : BackupNode D d) (why : NodeFault) → n.backup ≡ None → length n.disks.items ≡ suc n.volumes → IsNamed (suc n.volumes) why → IsNamed (length (disks_at n)) why
named_off {D = D} {d = d} n why none many few = subst (λ (o : Option (Backup D d)). IsNamed (length (disks_among o n.disks.items)) why) (sym none) (subst (λ m. IsNamed m why) (sym many) few)
