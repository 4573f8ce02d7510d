-- What comes of volumes that are taken over beside each other.
use Rattle.std.proofs.Common.{◌≡◌, ℕ, suc, ◌≤◌, Bool, true, false, List, [], ◌∷◌, length, map, get_or, Option, Some, None, IfSome, Result, Ok, Err, IfErr, OnOk, refl, sym, ap, ◌∙◌, subst, arith, ◌⊎◌, inl, inr, ⊎_elim}
use Rattle.std.specs.Prelude.{slice_get}
use Rattle.std.specs.List.{AllZip, AllByRecursion}
use Rattle.std.specs.Option.{option_map}
use Rattle.std.proofs.lemmas.List.{get_or_past}
use Rattle.std.proofs.lemmas.Option.{slice_get-map}
use Rattle.rdf_types.specs.declared.layout.Layout.{Layout}
use Rattle.rdf_types.specs.declared.records.Record.{Record}
use Rattle.rdf_types.specs.Entries.{RiseFrom}
use Rattle.rdf_disk.specs.Files.{Disk}
use Rattle.rdf_disk.specs.Counts.{Counts, Causes}
use Rattle.rdf_disk.specs.Counts.Ending.{Fine}
use Rattle.rdf_backup.specs.Beside.{EndsBeside}
use Rattle.rdf_disk.specs.Outcomes.{Durably}
use Rattle.rdf_gatelog.specs.declared.fault.LogFault.{LogFault}
use Rattle.rdf_gatelog.specs.declared.fault.LogFault.TheVariants as log
use Rattle.rdf_gatelog.specs.LogCauses.{ending}
use Rattle.rdf_volume.specs.declared.volume.Volume.{Volume}
use Rattle.rdf_volume.specs.Views.{rows_of, restart_of, disk_of, InUse}
use Rattle.node_faults.specs.declared.NodeFault.{NodeFault}
use Rattle.node_faults.specs.declared.NodeFault.TheVariants as node
use Rattle.node_faults.specs.Faults.{fault_at, is_damage, IsSound, NamesOwn}
use Rattle.rdf_core.specs.Layouts.{protects}
use Rattle.rdf_core.specs.Backup.{Backup as State}
use Rattle.rdf_backup.specs.declared.audit.KeptAudit.{KeptAudit}
use Rattle.rdf_backup.specs.Damage.{IsWrong}
use Rattle.rdf_backup.specs.FirstFaults.{Answer, answer_at, first_fault, ends_of}
use Rattle.rdf_backup.specs.Parting.{Parted, Fits, merged, spread, IfCome}
use Rattle.rdf_backup.specs.Replies.{IfBoth}
use Rattle.rdf_backup.specs.Standing.{IsShown, VolumeStandsFor}
use Rattle.rdf_backup.specs.Taking.{IsKeptBy, entries_of, taking, taken, AreShown, AreLeft, AreInUse, WhereTaking, MayTake, HasTaken, HaveTaken}
use Rattle.rdf_backup.specs.Walks.{KeepsVolumesBeside}
use Rattle.rdf_backup.proofs.TakingLaws.{FitsTaken}
use Rattle.rdf_backup.proofs.TakingLists.{unprotected, still_fits, in_use_left, each_both}
use Rattle.rdf_backup.proofs.TakeoverCauses.{sound_at, none_risen}
use Rattle.rdf_backup.proofs.DamageLaws.{told_at}
use Rattle.rdf_backup.proofs.RisingStates.{as_many}
use Rattle.rdf_backup.proofs.PartingLaws.{parted_then, parted_all, parted_fits, have_come}
use Rattle.rdf_backup.proofs.FirstFaultLaws.{fine_fault, all_ok, on_ok_when, every, first_beside, own_named}
use Rattle.node_disks.specs.CutLaws.{both_some}

not_told : (file at : ℕ) → (let r : Answer = Err log.NoMemory in r) ≡ Err (log.Damaged file at) → ⊥
not_told file at e = cc

-- a worker that has not run
module _ {D : Type 0} (tells : Type 0) (files : D → Disk) (counts : D → Counts) where
  unrun : (audit : KeptAudit) (n : ℕ) (answer : Answer) (volume : Volume D) → MayTake tells files audit answer volume → HasTaken tells files counts audit n answer volume volume
  unrun audit n answer volume may = subst (λ a. HasTaken tells files counts audit n a volume volume) (sym may.unrun) (record {
    ok = λ t. tt;
    taken = tt;
    err = λ t layout trail b is on shown. in_use_left layout trail b files (taking b) n volume (may.in_use t) shown;
    cause = refl;
    sound = λ t layout trail b is on shown file at e. not_told file at e;
    damaged = tt;
  })

  pub all_unrun : {W : Type 0} (audit_of : W → KeptAudit) (vol_of : W → ℕ) (answer_of : W → Answer) (volume_of : W → Volume D) (ws : List W) → AllByRecursion (λ w. MayTake tells files (audit_of w) (answer_of w) (volume_of w)) ws →
      AllZip (λ w out. HasTaken tells files counts (audit_of w) (vol_of w) (answer_of out) (volume_of w) (volume_of out)) ws ws
  all_unrun audit_of vol_of answer_of volume_of [] may = tt
  all_unrun audit_of vol_of answer_of volume_of (w ∷ ws) may = (unrun (audit_of w) (vol_of w) (answer_of w) (volume_of w) may.0, all_unrun audit_of vol_of answer_of volume_of ws may.1)

  -- the workers of volumes that were taken out of their places
  module _ {W : Type 0} (audit_of : W → KeptAudit) (vol_of : W → ℕ) (answer_of : W → Answer) (volume_of : W → Volume D) (audit : KeptAudit) (flags : List Bool) (olds : List (Volume D)) (ws : List W) (others : List (Volume D))
      (out : Parted (λ n volume w. (volume_of w ≡ volume) × (vol_of w ≡ n) × (audit_of w ≡ audit) × (answer_of w ≡ Err log.NoMemory)) 0 flags olds ws others) where
    abbrev IsOut : ℕ → Volume D → W → Type 0
    IsOut n volume w = (volume_of w ≡ volume) × (vol_of w ≡ n) × (audit_of w ≡ audit) × (answer_of w ≡ Err log.NoMemory)

    may_take : RiseFrom 0 (entries_of audit) → (n : ℕ) (x : Volume D) (w : W) → IsOut n x w → (tells → InUse files x) → MayTake tells files (audit_of w) (answer_of w) (volume_of w)
    may_take rising n x w h use_ = record {
      rising = subst (λ a. RiseFrom 0 (entries_of a)) (sym h.2) rising;
      in_use = λ t. subst (λ v. InUse files v) (sym h.0) (use_ t);
      unrun = h.3;
    }

    when : (o : Option (Volume D)) → (tells → IfSome o (λ v. InUse files v)) → IfSome o (λ v. tells → InUse files v)
    when None h = tt
    when (Some v) h = h

    pub all_ready : RiseFrom 0 (entries_of audit) → (tells → AreInUse files olds) → AllByRecursion (λ w. MayTake tells files (audit_of w) (answer_of w) (volume_of w)) ws
    all_ready rising use_ = parted_all IsOut (λ x. tells → InUse files x) (λ w. MayTake tells files (audit_of w) (answer_of w) (volume_of w)) (may_take rising) 0 flags olds ws others out (λ i. when (slice_get olds i) (λ t. use_ t i))

    has_taken : (n : ℕ) (x : Volume D) (w end : W) → IsOut n x w → HasTaken tells files counts (audit_of w) (vol_of w) (answer_of end) (volume_of w) (volume_of end) → HasTaken tells files counts audit n (answer_of end) x (volume_of end)
    has_taken n x w end is h = subst (λ a. HasTaken tells files counts a n (answer_of end) x (volume_of end)) is.2
        (subst (λ k. HasTaken tells files counts (audit_of w) k (answer_of end) x (volume_of end)) is.1 (subst (λ v. HasTaken tells files counts (audit_of w) (vol_of w) (answer_of end) v (volume_of end)) is.0 h))

    module _ (ended : List W) (ran : AllZip (λ w end. HasTaken tells files counts (audit_of w) (vol_of w) (answer_of end) (volume_of w) (volume_of end)) ws ended) where
      all_ended : Parted (λ n x w. HasTaken tells files counts audit n (answer_of w) x (volume_of w)) 0 flags olds ended others
      all_ended = parted_then IsOut (λ w end. HasTaken tells files counts (audit_of w) (vol_of w) (answer_of end) (volume_of w) (volume_of end)) (λ n x w. HasTaken tells files counts audit n (answer_of w) x (volume_of w)) has_taken 0 flags olds ws ended others out ran

      pub ended_fit : Fits flags ended others
      ended_fit = parted_fits (λ n x w. HasTaken tells files counts audit n (answer_of w) x (volume_of w)) 0 flags olds ended others all_ended

      pub have_taken : (news : List (Volume D)) (result : Result (Unit {0}) NodeFault) → news ≡ merged flags (map volume_of ended) others → result ≡ first_fault 1 (Ok tt) (spread (Ok tt) flags (map answer_of ended)) → HaveTaken tells files counts audit flags result olds news
      have_taken news result is first = record {
        answers = spread (Ok tt) flags (map answer_of ended);
        first = first;
        each = λ i. subst (λ l. IfCome (λ v answer was now. HasTaken tells files counts audit v answer was now) i (get_or flags i false) (get_or (spread (Ok tt) flags (map answer_of ended)) i (Ok tt)) (slice_get olds i) (slice_get l i)) (sym is)
            (have_come (λ v answer was now. HasTaken tells files counts audit v answer was now) volume_of answer_of flags olds ended others all_ended i);
      }

both_map : {X Y : Type 0} (f : X → Y) (R : X → X → Type 0) (S : Y → Y → Type 0) (o p : Option X) → ((x y : X) → R x y → S (f x) (f y)) → IfBoth R o p → IfBoth S (option_map f o) (option_map f p)
both_map f R S None None g h = tt
both_map f R S None (Some y) g h = absurd h
both_map f R S (Some x) None g h = absurd h
both_map f R S (Some x) (Some y) g h = g x y h

-- volumes, of which those that are flagged were worked, and the answers
module _ {D : Type 0} (tells : Type 0) (files : D → Disk) (counts : D → Counts) (audit : KeptAudit) where
  abbrev HasCome : ℕ → Bool → Answer → Volume D → Volume D → Type 0
  HasCome i true answer x y = HasTaken tells files counts audit i answer x y
  HasCome i false answer x y = (y ≡ x) × (answer ≡ Ok tt)

  abbrev Come : ℕ → Bool → Answer → Option (Volume D) → Option (Volume D) → Type 0
  Come i flag answer o p = IfCome (λ v answer was is. HasTaken tells files counts audit v answer was is) i flag answer o p

  become : (n : ℕ) (flag : Bool) (answer : Answer) (o p : Option (Volume D)) → Come n flag answer o p → IfBoth (HasCome n flag answer) o p
  become n true answer (Some x) (Some y) h = h
  become n false answer (Some x) (Some y) h = h
  become n true answer (Some x) None h = h
  become n false answer (Some x) None h = h
  become n true answer None (Some y) h = h
  become n false answer None (Some y) h = h
  become n true answer None None h = tt
  become n false answer None None h = tt

  -- a fault is one of a flagged volume
  cause_of : (n : ℕ) (flag : Bool) (answer : Answer) (o p : Option (Volume D)) → Come n flag answer o p → (answer ≡ Ok tt) ⊎ ((flag ≡ true) × ((x : Volume D) × ((y : Volume D) × ((o ≡ Some x) × HasTaken tells files counts audit n answer x y))))
  cause_of n true answer (Some x) (Some y) h = inr (refl, (x, (y, (refl, h))))
  cause_of n false answer (Some x) (Some y) h = inl h.1
  cause_of n true answer (Some x) None h = absurd h
  cause_of n false answer (Some x) None h = absurd h
  cause_of n true answer None (Some y) h = absurd h
  cause_of n false answer None (Some y) h = absurd h
  cause_of n true answer None None h = absurd h
  cause_of n false answer None None h = inl h

  caused_counts : (i : ℕ) (flag : Bool) (answer : Answer) (x y : Volume D) → HasCome i flag answer x y → Causes (ending answer) (counts (disk_of x)) (counts (disk_of y))
  caused_counts i true answer x y h = h.cause
  caused_counts i false answer x y h = subst (λ a. Causes (ending a) (counts (disk_of x)) (counts (disk_of y))) (sym h.1) (ap (λ v. counts (disk_of v)) h.0)

  ok_of : (answer : Answer) (P : Type 0) → answer ≡ Ok tt → OnOk answer P → P
  ok_of (Ok x) P e h = h
  ok_of (Err f) P e h = absurd (fails f e)
    where
      fails : (f : LogFault) → (let r : Answer = Err f in r) ≡ Ok tt → ⊥
      fails f e = cc

  still_in_use : (i : ℕ) (flag : Bool) (answer : Answer) (x y : Volume D) → tells → answer ≡ Ok tt → HasCome i flag answer x y → InUse files x → InUse files y
  still_in_use i true answer x y t well h use_ = ok_of answer (InUse files y) well (h.ok t)
  still_in_use i false answer x y t well h use_ = subst (λ v. InUse files v) (sym h.0) use_

  module _ (layout : Layout) (trail : List Record) (b : State) (is : IsKeptBy layout trail b audit) where
    abbrev Shown : State → ℕ → Volume D → Type 0
    Shown s i volume = IsShown layout trail s i (rows_of volume) (restart_of volume)

    abbrev Left : ℕ → Volume D → Type 0
    Left i volume = Durably (files (disk_of volume)) (VolumeStandsFor layout trail (taking b) i)

    now_taken : (i : ℕ) (flag : Bool) (answer : Answer) (x y : Volume D) → protects layout i ≡ flag → answer ≡ Ok tt → HasCome i flag answer x y → Shown (taking b) i x → Shown (taken b) i y
    now_taken i true answer x y on well h shown = ok_of answer (Shown (taken b) i y) well (on_ok_so answer h.taken)
      where
        on_ok_so : (a : Answer) → OnOk a ((l : Layout) (t : List Record) (s : State) → IsKeptBy l t s audit → protects l i ≡ true → IsShown l t (taking s) i (rows_of x) (restart_of x) → IsShown l t (taken s) i (rows_of y) (restart_of y)) → OnOk a (Shown (taken b) i y)
        on_ok_so (Ok u) g = g layout trail b is on shown
        on_ok_so (Err f) g = tt
    now_taken i false answer x y off well h shown = subst (λ v. Shown (taken b) i v) (sym h.0) (unprotected layout trail b (taking b) (taken b) i x off shown)

    -- whatever its answer was
    now_left : FitsTaken → tells → (i : ℕ) (flag : Bool) (answer : Answer) (x y : Volume D) → protects layout i ≡ flag → HasCome i flag answer x y → InUse files x × Shown (taking b) i x → Left i y
    now_left law t i true (Ok u) x y on h old = in_use_left layout trail b files (taking b) i y (h.ok t) (still_fits layout trail b law audit is i y (h.taken layout trail b is on old.1))
    now_left law t i true (Err f) x y on h old = h.err t layout trail b is on old.1
    now_left law t i false answer x y off h old = subst (λ v. Left i v) (sym h.0) (in_use_left layout trail b files (taking b) i x old.0 old.1)

  -- there was no room for the lists, and nothing was called
  module _ (layout : Layout) (olds : List (Volume D)) where
    pub no_room_keeps : (result : Result (Unit {0}) NodeFault) (f : NodeFault) → result ≡ Err f → f ≡ node.NoMemory → KeepsVolumesBeside counts result olds olds
    no_room_keeps result f is same = subst (λ r. KeepsVolumesBeside counts r olds olds) (sym (is ∙ ap (λ g. let r : Result (Unit {0}) NodeFault = Err g in r) same)) (record {
      many = refl;
      ends = λ i. Fine;
      beside = λ i e. fine_fault e;
      first = refl;
      cause = λ i. none_risen counts (slice_get (map (λ volume. disk_of volume) olds) i);
      named = tt;
    })

    pub old_left : AreInUse files olds → WhereTaking audit layout olds (λ trail b. AreLeft files layout trail b olds)
    old_left use_ trail b is shown i = each_both (λ v. InUse files v) (λ v. IsShown layout trail (taking b) i (rows_of v) (restart_of v)) (λ v. Durably (files (disk_of v)) (VolumeStandsFor layout trail (taking b) i)) (slice_get olds i)
        (λ v u s. in_use_left layout trail b files (taking b) i v u s) (use_ i) (shown i)

  module _ (layout : Layout) (flags : List Bool) (olds news : List (Volume D)) (result : Result (Unit {0}) NodeFault) (flags_are : flags ≡ layout.protect) (sized : length olds ≡ layout.volumes)
      (have : HaveTaken tells files counts audit flags result olds news) where
    over : HaveTaken tells files counts audit layout.protect result olds news
    over = subst (λ fs. HaveTaken tells files counts audit fs result olds news) flags_are have

    abbrev answers : List Answer
    answers = over.answers

    is_first : result ≡ first_fault 1 (Ok tt) answers
    is_first = over.first

    became_all : (i : ℕ) → IfBoth (HasCome i (protects layout i) (get_or answers i (Ok tt))) (slice_get olds i) (slice_get news i)
    became_all i = become i (protects layout i) (get_or answers i (Ok tt)) (slice_get olds i) (slice_get news i) (over.each i)

    caused_all : (i : ℕ) → (get_or answers i (Ok tt) ≡ Ok tt) ⊎ ((protects layout i ≡ true) × ((x : Volume D) × ((y : Volume D) × ((slice_get olds i ≡ Some x) × HasTaken tells files counts audit i (get_or answers i (Ok tt)) x y))))
    caused_all i = cause_of i (protects layout i) (get_or answers i (Ok tt)) (slice_get olds i) (slice_get news i) (over.each i)

    well : result ≡ Ok tt → (i : ℕ) → get_or answers i (Ok tt) ≡ Ok tt
    well e i = all_ok 1 (Ok tt) answers (sym is_first ∙ e) i

    beyond : (i : ℕ) → length olds ≤ i → get_or answers i (Ok tt) ≡ Ok tt
    beyond i far = ⊎_elim (λ (e : get_or answers i (Ok tt) ≡ Ok tt). e) (λ p. absurd (outside (let o : length layout.protect ≤ i = omega (arith, far, sized, layout.a_flag_each) in o) p.0)) (caused_all i)
      where
        differ : false ≡ true → ⊥
        differ e = cc

        outside : length layout.protect ≤ i → protects layout i ≡ true → ⊥
        outside le on = differ (sym (get_or_past layout.protect i false le) ∙ on)

    pub worked_keeps : KeepsVolumesBeside counts result olds news
    worked_keeps =
        record {
          many = as_many (λ i. HasCome i (protects layout i) (get_or answers i (Ok tt))) olds news became_all;
          ends = ends_of answers;
          beside = subst (λ r. EndsBeside r (ends_of answers)) (sym is_first) (first_beside answers);
          first = refl;
          cause = λ i. caused_at i;
          named = subst (λ r. NamesOwn (length olds) r) (sym is_first) (own_named (length olds) (Ok tt) answers tt beyond);
        }
      where
        caused_at : (i : ℕ) → IfBoth (λ x y. Causes (ends_of answers (suc i)) (counts x) (counts y)) (slice_get (map (λ volume. disk_of volume) olds) i) (slice_get (map (λ volume. disk_of volume) news) i)
        caused_at i =
            let both = both_map (λ (volume : Volume D). disk_of volume) (HasCome i (protects layout i) (get_or answers i (Ok tt))) (λ x y. Causes (ends_of answers (suc i)) (counts x) (counts y)) (slice_get olds i) (slice_get news i)
            (λ x y h. caused_counts i (protects layout i) (get_or answers i (Ok tt)) x y h) (became_all i) in
            subst (λ o. IfBoth (λ x y. Causes (ends_of answers (suc i)) (counts x) (counts y)) o (slice_get (map (λ volume. disk_of volume) news) i)) (sym (slice_get-map (λ volume. disk_of volume) olds i))
            (subst (λ p. IfBoth (λ x y. Causes (ends_of answers (suc i)) (counts x) (counts y)) (option_map (λ volume. disk_of volume) (slice_get olds i)) p) (sym (slice_get-map (λ volume. disk_of volume) news i)) both)

    pub worked_ok : tells → AreInUse files olds → OnOk result (AreInUse files news)
    worked_ok t use_ = on_ok_when result (AreInUse files news) (λ e i. both_some (HasCome i (protects layout i) (get_or answers i (Ok tt))) (λ v. InUse files v) (λ v. InUse files v) (slice_get olds i) (slice_get news i)
        (λ x y h u. still_in_use i (protects layout i) (get_or answers i (Ok tt)) x y t (well e i) h u) (became_all i) (use_ i))

    pub worked_taken : OnOk result (WhereTaking audit layout olds (λ trail b. AreShown layout trail (taken b) news))
    worked_taken = on_ok_when result (WhereTaking audit layout olds (λ trail b. AreShown layout trail (taken b) news)) (λ e trail b is shown i.
        both_some (HasCome i (protects layout i) (get_or answers i (Ok tt))) (Shown layout trail b is (taking b) i) (Shown layout trail b is (taken b) i) (slice_get olds i) (slice_get news i)
        (λ x y h s. now_taken layout trail b is i (protects layout i) (get_or answers i (Ok tt)) x y refl (well e i) h s) (became_all i) (shown i))

    pub worked_left : FitsTaken → tells → AreInUse files olds → WhereTaking audit layout olds (λ trail b. AreLeft files layout trail b news)
    worked_left law t use_ trail b is shown i =
        both_some (HasCome i (protects layout i) (get_or answers i (Ok tt))) (λ v. InUse files v × Shown layout trail b is (taking b) i v) (Left layout trail b is i) (slice_get olds i) (slice_get news i)
        (λ x y h old. now_left layout trail b is law t i (protects layout i) (get_or answers i (Ok tt)) x y refl h old) (became_all i)
        (each_both (λ v. InUse files v) (Shown layout trail b is (taking b) i) (λ v. InUse files v × Shown layout trail b is (taking b) i v) (slice_get olds i) (λ v u s. (u, s)) (use_ i) (shown i))

    -- what is told of each fault
    told_each : (P : NodeFault → Type 0) → ((i : ℕ) (x y : Volume D) (f : LogFault) → protects layout i ≡ true → slice_get olds i ≡ Some x → HasTaken tells files counts audit i (Err f) x y → P (fault_at (suc i) f)) → IfErr result P
    told_each P tell = subst (λ r. IfErr r P) (sym is_first) (every P 1 (Ok tt) answers tt (λ k disk e. subst (λ m. IfErr (answer_at m (get_or answers k (Ok tt))) P) (sym (let s : disk ≡ suc k = omega (arith, e) in s)) (by_cause k (caused_all k))))
      where
        by_answer : (k : ℕ) (a : Answer) (x y : Volume D) → protects layout k ≡ true → slice_get olds k ≡ Some x → HasTaken tells files counts audit k a x y → IfErr (answer_at (suc k) a) P
        by_answer k (Ok u) x y on there h = tt
        by_answer k (Err f) x y on there h = tell k x y f on there h

        by_cause : (k : ℕ) → (get_or answers k (Ok tt) ≡ Ok tt) ⊎ ((protects layout k ≡ true) × ((x : Volume D) × ((y : Volume D) × ((slice_get olds k ≡ Some x) × HasTaken tells files counts audit k (get_or answers k (Ok tt)) x y)))) → IfErr (answer_at (suc k) (get_or answers k (Ok tt))) P
        by_cause k h = ⊎_elim (λ (e : get_or answers k (Ok tt) ≡ Ok tt). subst (λ a. IfErr (answer_at (suc k) a) P) (sym e) tt) (λ p. by_answer k (get_or answers k (Ok tt)) p.1.0 p.1.1.0 p.0 p.1.1.1.0 p.1.1.1.1) h

    pub worked_damaged : IfErr result (IsWrong tells layout audit.upto olds)
    worked_damaged = told_each (IsWrong tells layout audit.upto olds) (λ i x y f on there h. told_at tells layout audit.upto olds i (suc i) f (fault_at (suc i) f) x refl refl on there h.damaged)

    pub worked_sound : tells → WhereTaking audit layout olds (λ trail b. IsSound result)
    worked_sound t trail b is shown = is_sound result (told_each (λ f. is_damage f ≡ false) (λ i x y f on there h.
        sound_at (suc i) f (fault_at (suc i) f) refl (h.sound t layout trail b is on (subst (λ (o : Option (Volume D)). IfSome o (λ v. Shown layout trail b is (taking b) i v)) there (shown i)))))
      where
        is_sound : (r : Result (Unit {0}) NodeFault) → IfErr r (λ f. is_damage f ≡ false) → IsSound r
        is_sound (Ok u) h = tt
        is_sound (Err f) h = h
