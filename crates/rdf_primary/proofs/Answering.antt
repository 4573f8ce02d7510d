-- From what a call of the transactions says to what the line says.
use Rattle.std.proofs.Common.{◌≡◌, ℕ, Bool, true, false, ◌||◌, List, [], ◌++◌, length, drop, Option, Some, None, Result, Ok, Err, IfOk, refl, sym, ap, ap₂, ◌∙◌, subst}
use Rattle.std.specs.Ordering.{nat_cmp}
use Rattle.std.specs.FinSet as set
use Rattle.std.proofs.lemmas.List.{append-nil}
use Rattle.rdf_types.specs.declared.layout.Layout.{Layout}
use Rattle.rdf_types.specs.declared.records.Node.{Node}
use Rattle.rdf_types.specs.declared.records.Node.TheVariants.{A}
use Rattle.rdf_types.specs.declared.records.Record.{Record}
use Rattle.rdf_types.specs.declared.records.RecKey.{RecKey}
use Rattle.rdf_disk.specs.Files.{Disk}
use Rattle.rdf_disk.specs.Counts.{Counts}
use Rattle.rdf_disk.specs.Counts.Ending.{Fine}
use Rattle.rdf_disk.specs.declared.disk.Disk.{Ghosts}
use Rattle.plan_lang.specs.declared.lines.Line.{Line}
use Rattle.plan_lang.specs.declared.lines.Line.TheVariants as line
use Rattle.node_faults.specs.declared.NodeFault.{NodeFault}
use Rattle.tmf_core.specs.Stores.{Left, CausedBy, counts_at}
use Rattle.tmf_core.specs.CauseLaws.{same_counts, same_volumes}
use Rattle.tmf_core.specs.declared.fault.TmfFault.{TmfFault}
use Rattle.tmf_core.specs.declared.fault.TmfFault.TheVariants as tmf
use Rattle.tmf_core.specs.declared.tmf.Tmf.{Tmf}
use Rattle.tmf_core.specs.States.{tmf_trail, tmf_active, tmf_volumes, is_down, RunsWith, Stays}
use Rattle.tmf_core.specs.Answers.{added, says_down, node_result, IsLooked, IsOfMemory}
use Rattle.tmf_core.specs.Calls as calls
use Rattle.rdf_core.specs.declared.events.Standing.TheVariants.{Up}
use Rattle.rdf_core.specs.declared.replies.NoWhy.{NoWhy}
use Rattle.rdf_core.specs.declared.replies.NoWhy.TheVariants as no
use Rattle.rdf_core.specs.declared.replies.Reply.{Reply}
use Rattle.rdf_core.specs.declared.replies.Reply.TheVariants.{No, Number, PrimaryUp, Stopped}
use Rattle.rdf_core.specs.Effects.{IsDone, count_u32, after_parts, parts_unless}
use Rattle.rdf_core.specs.Primary.{Primary as State, primary_refusal, primary_after, primary_says, primary_parts, primary_fallen, trail_after, grown}
use Rattle.rdf_core.specs.Proper.{LineKeepsProper}
use Rattle.rdf_core.specs.Step.{disks_of}
use Rattle.rdf_primary.specs.declared.primary.Primary.{Primary}
use Rattle.rdf_primary.specs.States.{state_of, disks_in, IsLaidOut, IsUp, IsRunning}
use Rattle.rdf_primary.specs.Standing.{IsTrailOf, SomeStandsFor}
use Rattle.rdf_primary.specs.Replies.{IsAnswered, reason, refused, told, is_by_volume, Goes, Keeps, WasLooked, primary_parts_of, NoneEarly}
use Rattle.rdf_primary.specs.Kinds.{MayAnswer}
use Rattle.rdf_primary.specs.Lines.{Does}
use Rattle.rdf_primary.specs.StandingLaws.{running_stands}
use Rattle.rdf_primary.proofs.SameRefusals.{reasons}
use Rattle.rdf_primary.proofs.Trails.{trail_left, added_is}
use Rattle.rdf_primary.proofs.Breaking.{left_stands}

-- a reply of a line's own kind: no refusal, and not that the node stopped
abbrev pub is_own : Reply → Bool
is_own (No why) = false
is_own (Stopped node) = false
is_own _ = true

-- what a refusal leaves: by what is judged in memory all as it was, by what a volume shows what a look at it leaves
same_word : (word why : NoWhy) → ◌≡◌ {A = Result Reply NodeFault} (Ok (No word)) (Ok (No why)) → word ≡ why
same_word word why e = cc

not_both : (b : Bool) → b ≡ true → b ≡ false → ⊥
not_both b e f = cc

kept_still : {D : Type 0} {d : Ghosts D} (word : NoWhy) → is_by_volume word ≡ false → (old new : Primary D d) → new.tmf ≡ old.tmf → Keeps WasLooked (Ok (No word)) old new
kept_still {D = D} {d = d} word by old new same = record {
  still = λ why e f. ap (λ (t : Tmf D d). let p : Primary D d = record { tmf = t } in p) same;
  looked = λ why e f. absurd (not_both (is_by_volume why) f (subst (λ w. is_by_volume w ≡ false) (same_word word why e) by));
}

kept_looked : {D : Type 0} {d : Ghosts D} (word : NoWhy) → is_by_volume word ≡ true → (old new : Primary D d) → IsLooked old.tmf new.tmf → Keeps WasLooked (Ok (No word)) old new
kept_looked word by old new looked = record {
  still = λ why e f. absurd (not_both (is_by_volume why) (subst (λ w. is_by_volume w ≡ true) (same_word word why e) by) f);
  looked = λ why e f. looked;
}

-- the state of what runs with this trail and these transactions
pub state_is : {D : Type 0} {d : Ghosts D} (files : D → Disk) (s : Primary D d) (trail : List Record) (active : set.FinSet nat_cmp) (stops : ℕ) → RunsWith files trail active s.tmf →
    state_of stops s ≡ record { trail = trail; active = active; standing = Up; stops = stops }
state_is files s trail active stops w = ap₂ (λ (t : List Record) (m : set.FinSet nat_cmp). let a : State = record { trail = t; active = m; standing = Up; stops = stops } in a) w.trail_is w.active_is

-- what is needed of a line, beside what its call does: its refusal is the call's, and what it leaves; how it may be refused; and that nothing judged in memory refuses it where nothing early refuses the call
pub record Meets {D : Type 0} {d : Ghosts D} (l : Line) (IsKind : TmfFault → Type 0) (early refusal : Option TmfFault) (after : List Record) (active : set.FinSet nat_cmp) (old : Primary D d) : Type 0 where
  pub refusal_is : (layout : Layout) (stops : ℕ) → IsLaidOut layout old → primary_refusal layout (state_of stops old) l ≡ reasons refusal
  pub after_is : (stops : ℕ) → primary_after (state_of stops old) l ≡ record { trail = after; active = active; standing = Up; stops = stops }
  pub trail_is : after ≡ trail_after (tmf_trail old.tmf) l
  pub may : (w : TmfFault) → says_down w ≡ false → IsKind w → IfOk (refused w) (λ reply. MayAnswer l reply)
  pub unrefused : early ≡ None → NoneEarly (reasons refusal)

module _ {D : Type 0} {d : Ghosts D} (keeps : LineKeepsProper) (files : D → Disk) (l : Line) (IsKind : TmfFault → Type 0) (early refusal : Option TmfFault) (after : List Record) (active : set.FinSet nat_cmp) (old new : Primary D d)
    (up : IsUp old) (meets : Meets l IsKind early refusal after active old) where
  -- the line is done
  ends_done : (reply : Reply) → tmf_volumes new.tmf ≡ tmf_volumes old.tmf → refusal ≡ None → RunsWith files after active new.tmf → ((stops : ℕ) → primary_says (state_of stops old) l reply) → Goes files l reply old new
  ends_done reply many none w says = record {
    sized = many;
    answers = λ layout stops laid. subst (λ (o : Option NoWhy). IsDone o (λ _. state_of stops old) (primary_after (state_of stops old) l) (primary_says (state_of stops old) l) reply (state_of stops new))
        (sym (meets.refusal_is layout stops laid ∙ ap reasons none)) (says stops, state_is files new after active stops w ∙ sym (meets.after_is stops));
    runs = w.runs;
    stands = running_stands files new w.runs;
  }

  goes_on : (why : TmfFault) → tmf_volumes new.tmf ≡ tmf_volumes old.tmf → refusal ≡ Some why → Stays files old.tmf new.tmf → Goes files l (No (reason why)) old new
  goes_on why many is stays = record {
    sized = many;
    answers = λ layout stops laid. subst (λ (o : Option NoWhy). IsDone o (λ _. state_of stops old) (primary_after (state_of stops old) l) (primary_says (state_of stops old) l) (No (reason why)) (state_of stops new))
        (sym (meets.refusal_is layout stops laid ∙ ap reasons is)) (refl, state_is files new (tmf_trail old.tmf) (tmf_active old.tmf) stops (stays.up up));
    runs = (stays.up up).runs;
    stands = running_stands files new (stays.up up).runs;
  }

  breaks : IsRunning files old → (layout : Layout) (stops rise : ℕ) → IsLaidOut layout old → IsLaidOut layout new → (o : Option TmfFault) → refusal ≡ o → Left files (tmf_trail old.tmf) (added o (tmf_trail old.tmf) after) new.tmf.store →
      SomeStandsFor files layout (length (primary_parts_of layout (state_of stops old) l)) (λ n. primary_fallen rise (after_parts (state_of stops old) (primary_parts_of layout (state_of stops old) l) n)) (disks_in new)
  breaks runs layout stops rise laid sized None is left = subst Stand (sym parts_are) (left_stands files layout new.tmf.store sized (state_of stops old) rise (drop (length (tmf_trail old.tmf)) after) whole left)
    where
      Stand : List State → Type 0
      Stand parts = SomeStandsFor files layout (length parts) (λ n. primary_fallen rise (after_parts (state_of stops old) parts n)) (disks_in new)

      not_refused : primary_refusal layout (state_of stops old) l ≡ None
      not_refused = meets.refusal_is layout stops laid ∙ ap reasons is

      parts_are : primary_parts_of layout (state_of stops old) l ≡ grown (state_of stops old) (drop (length (tmf_trail old.tmf)) after)
      parts_are = ap (λ (o : Option NoWhy). parts_unless o (primary_parts (state_of stops old) l)) not_refused ∙ ap (λ (t : List Record). grown (state_of stops old) (drop (length (tmf_trail old.tmf)) t)) (sym meets.trail_is)

      whole : IsTrailOf layout (tmf_trail old.tmf ++ drop (length (tmf_trail old.tmf)) after)
      whole = subst (λ (t : List Record). IsTrailOf layout (tmf_trail old.tmf ++ drop (length (tmf_trail old.tmf)) t)) (sym meets.trail_is) (subst (λ (t : List Record). IsTrailOf layout t) (added_is (tmf_trail old.tmf) l)
          (trail_left keeps layout (state_of stops old) l not_refused runs.running (running_stands files old runs layout stops laid).trail.placed))
  breaks runs layout stops rise laid sized (Some why) is left = subst Stand (sym parts_are) (left_stands files layout new.tmf.store sized (state_of stops old) rise [] whole left)
    where
      Stand : List State → Type 0
      Stand parts = SomeStandsFor files layout (length parts) (λ n. primary_fallen rise (after_parts (state_of stops old) parts n)) (disks_in new)

      parts_are : primary_parts_of layout (state_of stops old) l ≡ []
      parts_are = ap (λ (o : Option NoWhy). parts_unless o (primary_parts (state_of stops old) l)) (meets.refusal_is layout stops laid ∙ ap reasons is)

      whole : IsTrailOf layout (tmf_trail old.tmf ++ [])
      whole = subst (λ (t : List Record). IsTrailOf layout t) (sym (append-nil (tmf_trail old.tmf))) (running_stands files old runs layout stops laid).trail

  up_still : is_down new.tmf ≡ (is_down old.tmf || false) → IsUp new
  up_still falls = falls ∙ ap (λ b. b || false) up

  -- the call is refused
  said : (tells : Type 0) (counts : D → Counts) (w : TmfFault) → (tells → refusal ≡ Some w) → (tells → Stays files old.tmf new.tmf) → (many : tmf_volumes new.tmf ≡ tmf_volumes old.tmf) → IsUp new → CausedBy {T = Unit {0}} counts (Ok tt) old.tmf.store new.tmf.store →
      Keeps WasLooked (Ok (No (reason w))) old new → MayAnswer l (No (reason w)) → (disks_of l ≡ None → new.tmf.store ≡ old.tmf.store) → Does tells files counts l (Ok (No (reason w))) old new
  said tells counts w is stays sized on cause kept kind still = record {
    ends = λ t. goes_on w sized (is t) (stays t);
    up = on;
    cause = cause;
    sound = λ t. tt;
    plain = λ e. no_stop (reason w) e;
    kept = kept;
    kinds = kind;
    memory = λ none. tt;
    still = still;
  }
    where
      no_stop : (word : NoWhy) → No word ≡ Stopped A → ⊥
      no_stop word e = cc

  module _ {T : Type 0} (tells : Type 0) (counts : D → Counts) (runs : tells → IsRunning files old) where
    -- a call that ended so
    abbrev Call : Result T TmfFault → Type 0
    Call r = calls.Does tells files counts IsKind early refusal after active old.tmf r new.tmf

    many : (r : Result T TmfFault) → Call r → tmf_volumes new.tmf ≡ tmf_volumes old.tmf
    many r h = same_volumes counts (node_result r) old.tmf.store new.tmf.store h.cause

    -- the call is done
    pub did : (x : T) (reply : Reply) → Call (Ok x) → is_own reply ≡ true → MayAnswer l reply → (tells → (stops : ℕ) → primary_says (state_of stops old) l reply) → (disks_of l ≡ None → new.tmf.store ≡ old.tmf.store) → Does tells files counts l (Ok reply) old new
    did x reply h own kind says still = record {
      ends = λ t. ends_done reply (many (Ok x) h) (h.judged t) (h.leaves t) (says t);
      up = up_still h.falls.falls;
      cause = h.cause;
      sound = λ t. tt;
      plain = λ e. not_own (subst (λ r. is_own r ≡ true) e own);
      kept = record {
        still = λ why e by. absurd (no_refusal why e);
        looked = λ why e by. absurd (no_refusal why e);
      };
      kinds = kind;
      memory = λ none. tt;
      still = still;
    }
      where
        not_own : false ≡ true → ⊥
        not_own e = cc

        no_refusal : (why : NoWhy) → ◌≡◌ {A = Result Reply NodeFault} (Ok reply) (Ok (No why)) → ⊥
        no_refusal why e = not_own (subst (λ r. is_own r ≡ true) (inside e) own)
          where
            inside : ◌≡◌ {A = Result Reply NodeFault} (Ok reply) (Ok (No why)) → reply ≡ No why
            inside f = cc

    -- the call is not done
    pub not_did : (why : TmfFault) (result : Result Reply NodeFault) → result ≡ refused why → Call (Err why) → (disks_of l ≡ None → IsOfMemory {T = T} (Err why)) → (disks_of l ≡ None → new.tmf.store ≡ old.tmf.store) → Does tells files counts l result old new
    not_did why result is h memory still = subst (λ r. Does tells files counts l r old new) (sym is) (by_case why h memory)
      where
        by_case : (w : TmfFault) → Call (Err w) → (disks_of l ≡ None → IsOfMemory {T = T} (Err w)) → Does tells files counts l (refused w) old new
        by_case tmf.Down c m = said tells counts tmf.Down c.judged c.leaves (many (Err tmf.Down) c) (up_still c.falls.falls) c.cause (kept_still no.Down refl old new c.kept) (meets.may tmf.Down (c.falls.told ∙ up) c.kinds) still
        by_case tmf.TxnUsed c m = said tells counts tmf.TxnUsed c.judged c.leaves (many (Err tmf.TxnUsed) c) (up_still c.falls.falls) c.cause (kept_still no.Used refl old new c.kept) (meets.may tmf.TxnUsed (c.falls.told ∙ up) c.kinds) still
        by_case tmf.NoTxn c m = said tells counts tmf.NoTxn c.judged c.leaves (many (Err tmf.NoTxn) c) (up_still c.falls.falls) c.cause (kept_still no.Txn refl old new c.kept) (meets.may tmf.NoTxn (c.falls.told ∙ up) c.kinds) still
        by_case tmf.NoVolume c m = said tells counts tmf.NoVolume c.judged c.leaves (many (Err tmf.NoVolume) c) (up_still c.falls.falls) c.cause (kept_still no.Volume refl old new c.kept) (meets.may tmf.NoVolume (c.falls.told ∙ up) c.kinds) still
        by_case (tmf.Locked by) c m = said tells counts (tmf.Locked by) c.judged c.leaves (many (Err (tmf.Locked by)) c) (up_still c.falls.falls) c.cause (kept_still (no.Locked by) refl old new c.kept) (meets.may (tmf.Locked by) (c.falls.told ∙ up) c.kinds) still
        by_case tmf.Exists c m = said tells counts tmf.Exists c.judged c.leaves (many (Err tmf.Exists) c) (up_still c.falls.falls) c.cause (kept_looked no.Exists refl old new c.kept) (meets.may tmf.Exists (c.falls.told ∙ up) c.kinds) still
        by_case tmf.Missing c m = said tells counts tmf.Missing c.judged c.leaves (many (Err tmf.Missing) c) (up_still c.falls.falls) c.cause (kept_looked no.Missing refl old new c.kept) (meets.may tmf.Missing (c.falls.told ∙ up) c.kinds) still
        by_case (tmf.Node fault) c m = record {
          ends = λ t. record {
            unrefused = λ layout stops laid. subst (λ o. NoneEarly o) (sym (meets.refusal_is layout stops laid)) (meets.unrefused (c.judged t));
            stands = λ layout stops rise laid. breaks (runs t) layout stops rise laid (laid ∙ sym (many (Err (tmf.Node fault)) c)) refusal refl (c.leaves t);
          };
          up = tt;
          cause = c.cause;
          sound = c.sound;
          plain = tt;
          kept = record { still = λ why e by. absurd (no_reply why e); looked = λ why e by. absurd (no_reply why e) };
          kinds = tt;
          memory = m;
          still = still;
        }
          where
            no_reply : (why : NoWhy) → ◌≡◌ {A = Result Reply NodeFault} (Err fault) (Ok (No why)) → ⊥
            no_reply why e = cc

-- a line that uses a disk is none that uses none
pub no_disk : {X : Type 0} {used : Node} → Some used ≡ None → X
no_disk {used = used} e = absurd (differ e)
  where
    differ : Some used ≡ None → ⊥
    differ f = cc

-- a call that answers the trail's length
pub numbers : {D : Type 0} {d : Ghosts D} (keeps : LineKeepsProper) (tells : Type 0) (files : D → Disk) (counts : D → Counts) (l : Line) (IsKind : TmfFault → Type 0) (early refusal : Option TmfFault) (after : List Record) (active : set.FinSet nat_cmp) (old new : Primary D d) →
    IsUp old → (asked : Line) → asked ≡ l → Meets l IsKind early refusal after active old → (tells → IsRunning files old) → (r : Result ℕ TmfFault) (result : Result Reply NodeFault) → result ≡ told (λ n. Number n) r → calls.Adds tells files counts IsKind early refusal after active old.tmf r new.tmf →
    ((n : ℕ) → MayAnswer l (Number n)) → ((n : ℕ) → n ≡ length after → (stops : ℕ) → primary_says (state_of stops old) l (Number n)) → (used : Node) → disks_of l ≡ Some used → Does tells files counts asked result old new
numbers {D = D} {d = d} keeps tells files counts l IsKind early refusal after active old new up asked same meets runs r result is h kind says used of = subst (λ a. Does tells files counts a result old new) (sym same) (subst (λ x. Does tells files counts l x old new) (sym is) (by_case r h))
  where
    uses : {X : Type 0} → disks_of l ≡ None → X
    uses none = no_disk (sym of ∙ none)

    by_case : (x : Result ℕ TmfFault) → calls.Adds tells files counts IsKind early refusal after active old.tmf x new.tmf → Does tells files counts l (told (λ n. Number n) x) old new
    by_case (Ok n) a = did keeps files l IsKind early refusal after active old new up meets tells counts runs n (Number n) a.does refl (kind n) (λ t. says n (a.says ∙ ap (λ (m : List Record). length m) (a.does.leaves t).trail_is)) uses
    by_case (Err why) a = not_did keeps files l IsKind early refusal after active old new up meets tells counts runs why (refused why) refl a.does uses uses

-- the status of a primary that is up
pub status_told : {D : Type 0} {d : Ghosts D} (tells : Type 0) (files : D → Disk) (counts : D → Counts) (s : Primary D d) → IsUp s → (tells → IsRunning files s) → (asked : Line) → asked ≡ line.Status A → (len active : ℕ) →
    len ≡ length (tmf_trail s.tmf) → (tells → active ≡ count_u32 (set.len (tmf_active s.tmf))) → Does tells files counts asked (Ok (PrimaryUp len active)) s s
status_told tells files counts s up runs asked same len active long many = subst (λ a. Does tells files counts a (Ok (PrimaryUp len active)) s s) (sym same) (record {
  ends = λ t. record {
    answers = λ layout stops laid. (ap₂ (λ m n. let r : Reply = PrimaryUp m n in r) long (many t), refl);
    sized = refl;
    runs = runs t;
    stands = running_stands files s (runs t);
  };
  up = up;
  cause = (tt, λ disk. same_counts Fine (counts_at counts s.tmf.store disk) refl);
  sound = λ t. tt;
  plain = λ e. no_stop e;
  kept = record { still = λ why e by. refl; looked = λ why e by. absurd (no_refusal why e) };
  kinds = tt;
  memory = λ none. tt;
  still = λ none. refl;
})
  where
    no_stop : PrimaryUp len active ≡ Stopped A → ⊥
    no_stop e = cc

    no_refusal : (why : NoWhy) → ◌≡◌ {A = Result Reply NodeFault} (Ok (PrimaryUp len active)) (Ok (No why)) → ⊥
    no_refusal why e = cc

-- a line that a primary answers is the status where it is none of the others
pub is_status : (l : Line) → IsAnswered l → ((t : ℕ) → l ≡ line.Begin t → ⊥) → ((t : ℕ) (k : RecKey) (value : List ℕ) → l ≡ line.Insert t k value → ⊥) → ((t : ℕ) (k : RecKey) (value : List ℕ) → l ≡ line.Update t k value → ⊥) → ((t : ℕ) (k : RecKey) → l ≡ line.Delete t k → ⊥) →
    ((t : ℕ) (k : RecKey) → l ≡ line.Get t k → ⊥) → ((t : ℕ) → l ≡ line.Commit t → ⊥) → ((t : ℕ) → l ≡ line.Abort t → ⊥) → ((node : Node) (vol : ℕ) → l ≡ line.List node vol → ⊥) → l ≡ line.Status A
is_status (line.Begin t) h begin insert update delete get commit abort list = absurd (begin t refl)
is_status (line.Insert t k value) h begin insert update delete get commit abort list = absurd (insert t k value refl)
is_status (line.Update t k value) h begin insert update delete get commit abort list = absurd (update t k value refl)
is_status (line.Delete t k) h begin insert update delete get commit abort list = absurd (delete t k refl)
is_status (line.Get t k) h begin insert update delete get commit abort list = absurd (get t k refl)
is_status (line.Commit t) h begin insert update delete get commit abort list = absurd (commit t refl)
is_status (line.Abort t) h begin insert update delete get commit abort list = absurd (abort t refl)
is_status (line.List node vol) h begin insert update delete get commit abort list = absurd (list node vol refl)
is_status (line.Status node) h begin insert update delete get commit abort list = ap (λ n. line.Status n) h
is_status _ h begin insert update delete get commit abort list = absurd h
