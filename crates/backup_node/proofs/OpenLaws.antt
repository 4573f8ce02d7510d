-- Lines of an open session on the node that lent its backup to it.
use Rattle.std.proofs.Common.{inl, ◌≡◌, ◌≢◌, ℕ, true, false, List, ◌++◌, Option, Some, None, is_some, Result, Ok, Err, IfOk, IfErr, IsTrue, refl, sym, ap, ◌∙◌, subst}
use Rattle.std.specs.Prelude.{slice_get}
use Rattle.std.proofs.lemmas.Bool.{true≢false}
use Rattle.std.proofs.lemmas.List.{take-append-le}
use Rattle.rdf_types.specs.declared.layout.Layout.{Layout}
use Rattle.rdf_types.specs.declared.records.Phase.TheVariants as phase
use Rattle.rdf_types.specs.declared.records.RecKey.{RecKey}
use Rattle.rdf_types.specs.declared.records.Record.{Record}
use Rattle.rdf_types.specs.declared.records.Stamped.{Stamped}
use Rattle.rdf_types.specs.declared.records.Phase.{Phase}
use Rattle.rdf_disk.specs.Files.{Disk}
use Rattle.rdf_disk.specs.Counts.{Counts, Causes}
use Rattle.rdf_disk.specs.declared.disk.Disk.{Ghosts}
use Rattle.plan_lang.specs.declared.lines.Line.{Line}
use Rattle.plan_lang.specs.declared.lines.Line.TheVariants as line
use Rattle.node_faults.specs.declared.NodeFault.{NodeFault}
use Rattle.node_faults.specs.Faults.{ending_for, IsSound, IsNamed}
use Rattle.rdf_model.specs.Window.{part}
use Rattle.image_disks.specs.Values.{received}
use Rattle.image_trails.specs.Trails.{trails_disk}
use Rattle.rdf_volume.specs.declared.volume.Volume.{Volume}
use Rattle.rdf_volume.specs.Views.{disk_of}
use Rattle.rdf_core.specs.declared.replies.NoWhy.TheVariants as no
use Rattle.rdf_core.specs.declared.replies.Reply.{Reply}
use Rattle.rdf_core.specs.declared.replies.Reply.TheVariants.{No}
use Rattle.rdf_core.specs.Backup.{Backup as State, Around}
use Rattle.rdf_core.specs.Layouts.{protects}
use Rattle.rdf_core.specs.Step.{disks_of}
use Rattle.rdf_backup.specs.declared.backup.Backup.{Backup}
use Rattle.rdf_backup.specs.declared.session.Met.{Met}
use Rattle.rdf_backup.specs.declared.session.Met.TheVariants as met
use Rattle.rdf_backup.specs.Replies.{IfBoth}
use Rattle.rdf_backup.specs.Refusals.{IsJudged, read_refusal}
use Rattle.rdf_backup.specs.Sessions.{Open, IsFed, IsFedBy, IsGoing, HasCome, KeepsSession, EndsOpen, IsReadAt, ReadsOpen, LeavesTrails, trails_answer}
use Rattle.rdf_backup.specs.States.{layout_of, value_of, state_of, Serves}
use Rattle.node_disks.specs.Counting.{is_fuse}
use Rattle.backup_node.specs.declared.node.BackupNode.{BackupNode}
use Rattle.backup_node.specs.Nodes.{IsUpAt, MayServe}
use Rattle.backup_node.specs.Kinds.{IsReplied}
use Rattle.backup_node.specs.Lines.{PerformsWhere}
use Rattle.backup_node.specs.Open.{in_open, ByMessage, ReadsIn, Runs, StaysOpen, MeetsTrails, MeetsVolume}
use Rattle.backup_node.proofs.LineLaws.{StaysIn}
use Rattle.backup_node.proofs.NodeLaws.{refused_follows}
use Rattle.backup_node.proofs.DownLaws.{miss_refused}
use Rattle.backup_node.proofs.RisingLaws.{read_at}
use Rattle.backup_node.proofs.KindLaws.{miss_replied, open_read, open_still}
use Rattle.backup_node.proofs.DoesLaws.{at_state, no_no, still_does, settled_line, settled_at}
use Rattle.backup_node.specs.Moves.{Stays, Moves}

-- there is something
pub some_there : {X : Type 0} (o : Option X) → is_some o ≡ true → o ≢ None
some_there {X = X} o on none = true≢false (sym on ∙ ap (λ (x : Option X). is_some x) none)

same_volumes : {D : Type 0} (counts : D → Counts) (o : Option (Volume D)) → IfBoth (λ x y. counts (disk_of y) ≡ counts (disk_of x)) o o
same_volumes counts None = tt
same_volumes counts (Some x) = refl

-- the updaters are fed as before
pub fed_same : {D : Type 0} {d : Ghosts D} (trail : List Record) (old new : Open D d) → new.shown ≡ old.shown → new.entries ≡ old.entries → IsFed trail old → IsFed trail new
fed_same {D = D} {d = d} trail old new shown entries fed =
    let p = subst (λ (b : Backup D d). IsFedBy new.entries trail b) (sym shown) (subst (λ (e : List Stamped). IsFedBy e trail old.shown) (sym entries) (fed.behind, fed.within)) in
    record { behind = p.0; within = p.1 }

-- and with a longer trail
pub fed_longer : {D : Type 0} {d : Ghosts D} (files : D → Disk) (layout : Layout) (trail more : List Record) (b : State) (o : Open D d) → IsUpAt files layout trail b o.shown → IsFed trail o → IsFed (trail ++ more) o
fed_longer files layout trail more b o u fed = record {
  behind = record {
    start = fed.behind.start;
    entries_are = fed.behind.entries_are ∙ ap (λ (t : List Record). part (protects (layout_of o.shown)) fed.behind.start t) (sym (take-append-le (received (value_of o.shown)) trail more (u.serves.over.sound 0).within));
    early = fed.behind.early;
  };
  within = fed.within;
}

module _ {D : Type 0} {d : Ghosts D} (tells : Type 0) (files : D → Disk) (counts : D → Counts) where
  -- an open session in which nothing was met, over the disk that it shows, has come from what it shows
  pub come_so : (o : Open D d) → o.disk ≡ trails_disk o.shown.trails → o.met ≡ None → HasCome counts o.shown o
  come_so o disk unmet = record {
    laid = refl;
    phase = refl;
    volumes = λ v. same_volumes counts (slice_get o.shown.volumes.items v);
    trails = subst (λ (m : Option Met). Causes (ending_for 0 (trails_answer m)) (counts (trails_disk o.shown.trails)) (counts o.disk)) (sym unmet) (ap counts disk);
    own = subst (λ (m : Option Met). IfErr (trails_answer m) (λ why. IsNamed 1 why)) (sym unmet) tt;
    sound = subst (λ (m : Option Met). IsSound (trails_answer m)) (sym unmet) tt;
  }

  itself : (o : Open D d) → IsGoing tells files o → o.met ≡ None → HasCome counts o.shown o
  itself o goes unmet = come_so o (goes.disk_is (subst (λ (m : Option Met). LeavesTrails m) (sym unmet) tt)) unmet

  -- what a line leaves of its session
  pub stays : (meets : NodeFault → Met) (old new : Open D d) → IsGoing tells files old → IsGoing tells files new → (result : Result Reply NodeFault) → KeepsSession tells files counts meets result old new → StaysOpen counts result old new
  stays meets old new was goes (Ok reply) keeps = record {
    unmet = λ unmet. (keeps.done unmet).1;
    shut = keeps.shut;
    comes = keeps.comes;
    since = λ unmet. itself new goes (keeps.done unmet).1;
  }
  stays meets old new was goes (Err why) keeps = record {
    unmet = λ unmet. tt;
    shut = keeps.shut;
    comes = keeps.comes;
    since = λ unmet. subst (λ (b : Backup D d). HasCome counts b new) (sym (keeps.broken unmet).shown) (keeps.comes old.shown (itself old was unmet));
  }

  module _ (n : BackupNode D d) (old new : Open D d) (serves : MayServe tells files counts (in_open old n)) (unmet : old.met ≡ None) where
    -- a line that works the image trails
    pub meets_trails : (Holds : Layout → Around → State → Type 0) (l : Line) → is_fuse l ≡ false → disks_of l ≡ Some n.name → ((w : Around) (s : State) → StaysIn (layout_of old.shown) w s l) → ((reply : Reply) (p q : Option Phase) → Stays reply p q → Moves l reply p q) → (result : Result Reply NodeFault) →
        KeepsSession tells files counts (λ why. met.Trails why) result old new → IfOk result (λ reply. IsReplied l (Ok reply) (in_open old n) (in_open new n)) → (tells → (layout : Layout) (w : Around) (b : State) → Holds layout w b → IsUpAt files layout w.trail b old.shown → EndsOpen files w l result old new) → MeetsTrails tells files counts Holds l result n old new
    meets_trails Holds l unfused of stays moves (Ok reply) keeps kinds ends =
        let done = keeps.done unmet in
        record {
          answered =
              at_state tells files counts (settled_line tells files counts (in_open old n) (in_open new n) old.shown new.shown l unfused refl serves (Ok reply) (Ok reply) (refl, refl) refl refl
              done.0.cause done.0.usable done.0.named done.0.plain done.0.phase moves done.0.laid kinds Holds (λ t. tt) (open_still n old new reply keeps.refused) of stays (λ t layout w b holds u. (ends t layout w b holds u).0));
          broken = tt;
          left = λ t. tt;
          fed = λ t layout w b holds u. (ends t layout w b holds u).1;
        }
    meets_trails Holds l unfused of stays moves (Err why) keeps kinds ends =
        let m = keeps.broken unmet in
        record {
          answered = tt;
          broken = m;
          left = λ t layout w b holds u. ends t layout w b holds u;
          fed = λ t layout w b holds u. fed_same w.trail old new m.shown m.entries;
        }

    -- a read
    pub meets_volume : (key : RecKey) (result : Result Reply NodeFault) → KeepsSession tells files counts (λ why. met.Volume) result old new →
        (tells → (trail : List Record) → Serves files trail old.shown → IsFed trail old → IfOk result (λ reply. ReadsOpen files trail key reply old new)) → IfErr result (λ why. IsTrue (protects (layout_of old.shown) key.vol)) →
        IsJudged (read_refusal (layout_of old.shown) (state_of 0 old.shown) key.vol) (IsReadAt (protects (layout_of old.shown) key.vol) key.vol new) result old new → MeetsVolume tells files counts key result n old new
    meets_volume key (Ok reply) keeps reads own judged =
        let done = keeps.done unmet in
        record {
          answered =
              settled_at tells files counts (in_open old n) (in_open new n) old.shown new.shown (line.Read n.name key) refl refl serves (Ok reply) (Ok reply) (refl, refl) refl refl
              done.0.cause done.0.usable done.0.named done.0.plain done.0.phase (λ reply p q h. h) done.0.laid (open_read n old new reply key serves.sized judged) (λ l. ReadsIn files key old) (open_still n old new reply keeps.refused) (λ t trail s. tt)
              (λ t layout trail b rise some fed u. inl (read_at files layout trail b old.shown u new.shown (in_open new n) key reply refl (reads t trail u.serves fed).read));
          broken = tt;
          left = λ t. tt;
          fed = λ t layout w b any u fed. (reads t w.trail u.serves fed).fed;
        }
    meets_volume key (Err why) keeps reads own judged =
        let m = keeps.broken unmet in
        record {
          answered = tt;
          broken = m;
          left = λ t layout w b any u. subst (λ y. IsTrue (protects y key.vol)) u.laid own;
          fed = λ t layout w b any u. fed_same w.trail old new m.shown m.entries;
        }

  -- a session in which nothing was met stays as it is
  pub stays_none : (o : Open D d) → IsGoing tells files o → o.met ≡ None → (reply : Reply) → StaysOpen counts (Ok reply) o o
  stays_none o goes none reply = record { unmet = λ unmet. unmet; shut = λ met. absurd (met none); comes = λ first h. h; since = λ unmet. itself o goes unmet }

  -- and so does one in which something was met
  pub stays_shut : (o : Open D d) → o.met ≢ None → StaysOpen counts (Ok (No no.Down)) o o
  stays_shut o some = record { unmet = λ unmet. unmet; shut = λ met. (refl, refl); comes = λ first h. h; since = λ unmet. absurd (some unmet) }

  -- a delivery of a message that is not there
  pub meets_none : (n : BackupNode D d) (o : Open D d) → MayServe tells files counts (in_open o n) → IsGoing tells files o → Runs (in_open o n) → (k : ℕ) → MeetsTrails tells files counts (ByMessage None) (line.Deliver n.name k) (Ok (No no.Message)) n o o
  meets_none n o serves goes runs k = record {
    answered =
        at_state tells files counts (still_does tells files counts (in_open o n) serves (line.Deliver n.name k) (PerformsWhere files (ByMessage None)) (No no.Message) (Some o.shown) refl (no_no no.Message n.name) refl refl (miss_replied n o.shown k phase.Running (sym runs) no.Message refl)
        (λ t layout w b rise some none u. refused_follows files layout w n.name b (line.Deliver n.name k) rise no.Message (in_open o n) (miss_refused files layout w b o.shown n.name k u none phase.Running (sym (goes.running t)) no.Message refl) u));
    broken = tt;
    left = λ t. tt;
    fed = λ t layout w b none u fed. fed;
  }
