-- What a session begins with, and how the volumes are given back where it is not begun.
use Rattle.std.proofs.Common.{◌≡◌, ℕ, zero, suc, ◌≤◌, Bool, true, false, List, [], ◌∷◌, length, map, get_or, Option, Some, None, IfSome, IsTrue, Result, Ok, refl, sym, ap, ◌∙◌, subst, arith}
use Rattle.std.specs.Prelude.{slice_get, MatchOption}
use Rattle.std.specs.List.{AllZip, AllByRecursion}
use Rattle.rdf_types.specs.declared.layout.Layout.{Layout}
use Rattle.rdf_types.specs.declared.records.Phase.TheVariants as phase
use Rattle.rdf_types.specs.declared.records.Record.{Record}
use Rattle.rdf_types.specs.declared.records.Stamped.{Stamped}
use Rattle.rdf_disk.specs.Files.{Disk}
use Rattle.rdf_disk.specs.Counts.{Counts}
use Rattle.rdf_disk.specs.declared.disk.Disk.{Ghosts}
use Rattle.image_disks.specs.Values.{Value, received, kept}
use Rattle.image_trails.specs.declared.trails.ImageTrails.{ImageTrails}
use Rattle.image_trails.specs.Trails.{trails_layout, trails_value, AreInUse}
use Rattle.rdf_volume.specs.declared.volume.Volume.{Volume}
use Rattle.rdf_volume.specs.Views.{rows_of, restart_of, disk_of, InUse}
use Rattle.volume_sessions.specs.Leaving.{IsOpened, HasLeft}
use Rattle.volume_sessions.specs.Rising.{MayEnter, IsAsGiven}
use Rattle.volume_sessions.specs.Shown.{Shown}
use Rattle.volume_sessions.specs.declared.placed.Left.{Left}
use Rattle.volume_sessions.specs.declared.placed.Placed.{Placed}
use Rattle.rdf_core.specs.SoundLaws.{least_end}
use Rattle.rdf_core.specs.Backup.{Backup as State}
use Rattle.rdf_core.specs.Layouts.{least}
use Rattle.rdf_core.specs.Sound.{IsSound}
use Rattle.rdf_core.specs.declared.replies.Reply.{Reply}
use Rattle.node_faults.specs.declared.NodeFault.{NodeFault}
use Rattle.rdf_types.specs.Entries.{Rises}
use Rattle.rdf_backup.specs.declared.backup.Backup.{Backup}
use Rattle.rdf_backup.specs.declared.session.Session.{Session}
use Rattle.rdf_backup.specs.declared.session.Met.{Met}
use Rattle.rdf_backup.specs.FirstFaults.{first_fault}
use Rattle.rdf_backup.specs.Parting.{AllFlagged, Parted, Fits, merged, spread}
use Rattle.rdf_backup.specs.Replies.{IfBoth}
use Rattle.rdf_backup.specs.Standing.{IsShown}
use Rattle.rdf_backup.specs.States.{volumes_by, state_by, state_of, layout_of, value_of, MayUse, AreOver, Serves}
use Rattle.rdf_backup.specs.Sessions.{Open, IsPlaceOf, IsUnbegun, MayOpen, MayBegin, HasRun, HasRunInside, trails_answer, end_of}
use Rattle.rdf_backup.proofs.AuditLaws.{kept_same, kept_early}
use Rattle.rdf_backup.proofs.PartingLaws.{parted_all, parted_fits}
use Rattle.rdf_backup.proofs.RisingStates.{least_kept}
use Rattle.rdf_backup.proofs.RisingLaws.{AppliedShows}
use Rattle.rdf_backup.proofs.LookLaws.{StepApplies}
use Rattle.rdf_backup.proofs.ClosingSession.{ended_fit}
use Rattle.rdf_backup.proofs.RunSession.{has_run}
use Rattle.node_disks.specs.CutLaws.{both_some, both_so}

-- ---- where the entries start

-- the least restart point of a protected volume is a kept position, and one that was received
module _ {D : Type 0} {d : Ghosts D} (files : D → Disk) (trail : List Record) (old : Backup D d) (runs : (value_of old).phase ≡ phase.Running) (serves : Serves files trail old) (from : ℕ) where
  abbrev restart_points : List ℕ
  restart_points = map (λ volume. restart_of volume) old.volumes.items

  module _ (is : from ≡ least (layout_of old).protect restart_points (received (value_of old))) where
    pub least_low : kept (value_of old) ≤ from
    least_low = subst (λ n. kept (value_of old) ≤ n) (sym is) (subst (λ n. n ≤ least (layout_of old).protect restart_points (received (value_of old))) (sym (kept_same files trail old serves))
        (least_kept files trail old runs serves (subst (λ n. n ≤ received (value_of old)) (kept_same files trail old serves) (kept_early files trail old serves))))

    pub least_high : from ≤ received (value_of old)
    least_high = subst (λ n. n ≤ received (value_of old)) (sym is) (least_end (layout_of old).protect restart_points (received (value_of old)))

-- ---- elements that are flagged

not_on : false ≡ true → ⊥
not_on e = cc

-- one that is flagged, by its place
pub flagged_at : {X : Type 0} (P Q : X → Type 0) → ((x : X) → P x → Q x) → (flags : List Bool) (xs : List X) → AllFlagged P flags xs → (i : ℕ) → IsTrue (get_or flags i false) → IfSome (slice_get xs i) Q
flagged_at P Q f [] xs h i on = absurd (not_on on)
flagged_at P Q f (true ∷ flags) [] h i on = tt
flagged_at P Q f (false ∷ flags) [] h i on = tt
flagged_at P Q f (true ∷ flags) (x ∷ xs) h zero on = f x h.0
flagged_at P Q f (true ∷ flags) (x ∷ xs) h (suc i) on = flagged_at P Q f flags xs h.1 i on
flagged_at P Q f (false ∷ flags) (x ∷ xs) h zero on = absurd (not_on on)
flagged_at P Q f (false ∷ flags) (x ∷ xs) h (suc i) on = flagged_at P Q f flags xs h i on

-- those that were flagged, in the list that they went to
pub flagged_all : {X W : Type 0} (R : ℕ → X → W → Type 0) (P : X → Type 0) (Q : W → Type 0) → ((n : ℕ) (x : X) (w : W) → R n x w → P x → Q w) → (n : ℕ) (flags : List Bool) (xs : List X) (ws : List W) (others : List X) →
    Parted R n flags xs ws others → AllFlagged P flags xs → AllByRecursion Q ws
flagged_all R P Q f n [] [] [] others h each = tt
flagged_all R P Q f n [] [] (w ∷ ws) others h each = absurd h
flagged_all R P Q f n [] (x ∷ xs) ws others h each = absurd h
flagged_all R P Q f n (true ∷ flags) [] ws others h each = absurd h
flagged_all R P Q f n (true ∷ flags) (x ∷ xs) [] others h each = tt
flagged_all R P Q f n (true ∷ flags) (x ∷ xs) (w ∷ ws) others h each = (f n x w h.0 each.0, flagged_all R P Q f (suc n) flags xs ws others h.1 each.1)
flagged_all R P Q f n (false ∷ flags) [] ws others h each = absurd h
flagged_all R P Q f n (false ∷ flags) (x ∷ xs) ws [] h each = absurd h
flagged_all R P Q f n (false ∷ flags) (x ∷ xs) ws (y ∷ others) h each = flagged_all R P Q f (suc n) flags xs ws others h.1 each

-- there are no more of them than flags
pub fits_few : {W X : Type 0} (flags : List Bool) (ws : List W) (others : List X) → Fits flags ws others → length ws ≤ length flags
fits_few [] [] [] h = omega arith
fits_few [] [] (y ∷ others) h = absurd h
fits_few [] (w ∷ ws) others h = absurd h
fits_few (true ∷ flags) [] others h = absurd h
fits_few (true ∷ flags) (w ∷ ws) others h = let m = fits_few flags ws others h in omega (arith, m)
fits_few (false ∷ flags) ws [] h = absurd h
fits_few (false ∷ flags) ws (y ∷ others) h = let m = fits_few flags ws others h in omega (arith, m)

-- and in their places they are as many as flags
pub fits_many : {W X : Type 0} (f : W → X) (flags : List Bool) (ws : List W) (others : List X) → Fits flags ws others → length (merged flags (map f ws) others) ≡ length flags
fits_many f [] [] [] h = refl
fits_many f [] [] (y ∷ others) h = absurd h
fits_many f [] (w ∷ ws) others h = absurd h
fits_many f (true ∷ flags) [] others h = absurd h
fits_many f (true ∷ flags) (w ∷ ws) others h = ap suc (fits_many f flags ws others h)
fits_many f (false ∷ flags) ws [] h = absurd h
fits_many f (false ∷ flags) ws (y ∷ others) h = ap suc (fits_many f flags ws others h)

-- those that came back fit as those that went
pub zip_fits : {V W X : Type 0} (S : V → W → Type 0) (flags : List Bool) (vs : List V) (ws : List W) (others : List X) → Fits flags vs others → AllZip S vs ws → Fits flags ws others
zip_fits S [] [] [] [] h g = tt
zip_fits S [] [] ws (y ∷ others) h g = absurd h
zip_fits S [] [] (w ∷ ws) [] h g = absurd g
zip_fits S [] (v ∷ vs) ws others h g = absurd h
zip_fits S (true ∷ flags) [] ws others h g = absurd h
zip_fits S (true ∷ flags) (v ∷ vs) [] others h g = absurd g
zip_fits S (true ∷ flags) (v ∷ vs) (w ∷ ws) others h g = zip_fits S flags vs ws others h g.1
zip_fits S (false ∷ flags) vs ws [] h g = absurd h
zip_fits S (false ∷ flags) vs ws (y ∷ others) h g = zip_fits S flags vs ws others h g

-- ---- the opening

-- the volumes that take part may enter
pub all_enter : {D : Type 0} (start end : ℕ) (flags : List Bool) (xs : List (Volume D)) (ws : List (Placed D)) (others : List (Volume D)) → Parted IsPlaceOf 0 flags xs ws others →
    AllFlagged (λ v. (start ≤ restart_of v) × (restart_of v ≤ end)) flags xs → AllByRecursion (λ w. MayEnter start end w) ws
all_enter {D = D} start end flags xs ws others h each = flagged_all IsPlaceOf (λ v. (start ≤ restart_of v) × (restart_of v ≤ end)) (λ w. MayEnter start end w) enters 0 flags xs ws others h each
  where
    enters : (n : ℕ) (x : Volume D) (w : Placed D) → IsPlaceOf n x w → (start ≤ restart_of x) × (restart_of x ≤ end) → MayEnter start end w
    enters n x w p m = subst (λ (v : Volume D). (start ≤ restart_of v) × (restart_of v ≤ end)) (sym p.0) m

module _ {D : Type 0} {d : Ghosts D} (tells : Type 0) (files : D → Disk) (first : Backup D d) (flags : List Bool) (start : ℕ) (entries : List Stamped) (end : ℕ) (begins : MayBegin tells files first flags start entries end)
    (usable : tells → MayUse files first) (running : (value_of first).phase ≡ phase.Running) where
  -- there is a flag for each volume
  pub as_flagged : (xs : List (Volume D)) → xs ≡ first.volumes.items → length flags ≡ length xs
  as_flagged xs items = ap (λ (l : List Bool). length l) begins.flags_are ∙ (layout_of first).a_flag_each ∙ sym first.sized ∙ ap (λ (l : List (Volume D)). length l) (sym items)

  module _ (xs : List (Volume D)) (placed : List (Placed D)) (apart : List (Volume D)) (items : xs ≡ first.volumes.items) (parted : Parted IsPlaceOf 0 flags xs placed apart) where
    pub placed_fit : Fits flags placed apart
    placed_fit = parted_fits IsPlaceOf 0 flags xs placed apart parted

    -- few volumes take part
    pub few_placed : length placed ≤ 16
    few_placed =
        let few = fits_few flags placed apart placed_fit in
        let many : length flags ≡ (layout_of first).volumes = ap (λ (l : List Bool). length l) begins.flags_are ∙ (layout_of first).a_flag_each in
        omega (arith, few, many, (layout_of first).few_volumes)

    -- each of them may enter
    pub placed_enter : AllByRecursion (λ w. MayEnter start end w) placed
    placed_enter = all_enter start end flags xs placed apart parted (subst (λ l. AllFlagged (λ v. (start ≤ restart_of v) × (restart_of v ≤ end)) flags l) (sym items) begins.enter)

    -- and may be used
    pub placed_used : tells → AllByRecursion (λ w. InUse files w.volume) placed
    placed_used t = parted_all IsPlaceOf (λ x. InUse files x) (λ w. InUse files w.volume) used 0 flags xs placed apart parted (subst (λ l. (v : ℕ) → IfSome (slice_get l v) (λ volume. InUse files volume)) (sym items) (usable t).volume)
      where
        used : (n : ℕ) (x : Volume D) (w : Placed D) → IsPlaceOf n x w → InUse files x → InUse files w.volume
        used n x w p h = subst (λ (v : Volume D). InUse files v) (sym p.0) h

    -- a session may be opened over the volumes that were taken out of their places
    pub may_open : (aside : List (Volume D)) → aside ≡ apart → (trails : ImageTrails D) (txns : List (ℕ × ℕ)) → trails ≡ first.trails → txns ≡ first.txns → (s : Shown D) → IsOpened placed start entries end s →
        MayOpen tells files first flags aside end trails txns s
    may_open aside is trails txns trails_are txns_are s opened = record {
      usable = usable;
      running = running;
      trails_are = trails_are;
      txns_are = txns_are;
      flags_are = begins.flags_are;
      parted = subst (λ others. Parted IsPlaceOf 0 flags first.volumes.items s.volumes others) (sym is)
          (subst (λ ws. Parted IsPlaceOf 0 flags first.volumes.items ws apart) (sym opened.volumes_are) (subst (λ l. Parted IsPlaceOf 0 flags l placed apart) items parted));
      unlent = opened.lent;
      rises = subst (λ n. Rises n s.entries s.end) (sym opened.start_is) (subst (λ l. Rises start l s.end) (sym opened.entries) (subst (λ n. Rises start entries n) (sym opened.end_is) begins.rises));
      upto = opened.end_is;
      end_is = begins.end_is;
    }

-- ---- what was run inside

module _ {D O : Type 0} {d : Ghosts D} (tells : Type 0) (files : D → Disk) (counts : D → Counts) (drives : Open D d → O → Open D d → Type 0) (first : Backup D d) (flags : List Bool) (apart : List (Volume D)) (placed : List (Placed D)) (start : ℕ) (entries : List Stamped) (end : ℕ)
    (ended : List (Left D)) (out : O) (met : Option Met) (trails : ImageTrails D) (txns : List (ℕ × ℕ)) (r : HasRunInside tells files counts drives first flags apart placed start entries end ended out met trails txns) where
  abbrev c : Session D d
  c = r.driven.closed

  -- the volumes that came back fit in their places
  pub run_fits : (others : List (Volume D)) → apart ≡ others → Fits flags ended others
  run_fits others same = subst (λ l. Fits flags ended l) same (subst (λ fs. Fits fs ended apart) r.driven.flags_are (subst (λ xs. Fits c.flags.now ended xs) r.driven.apart_is
      (ended_fit tells files counts c r.driven.goes ended (subst (λ (w : Shown D). AllZip (HasLeft tells files counts w.entries w.end) w.volumes ended) (sym r.driven.watch_is) r.lefts))))

  -- the whole of it, with the answer that was made
  pub run_ends : MayBegin tells files first flags start entries end → AppliedShows → StepApplies → (n : ℕ) → n ≡ received (trails_value trails) → (told fault : Result (Unit {0}) NodeFault) (answer : Result Reply NodeFault) → told ≡ trails_answer met →
      fault ≡ first_fault 1 told (spread (Ok tt) flags (map (λ l. l.answer) ended)) → answer ≡ end_of fault met n → (others : List (Volume D)) → apart ≡ others → (new : Backup D d) → new.trails ≡ trails → new.txns ≡ txns →
      new.volumes.items ≡ merged flags (map (λ l. l.volume) ended) others → HasRun tells files counts drives out answer first new
  run_ends begins law step n is told fault answer told_is fault_is answer_is others same new trails_new txns_new items_new = subst (λ a. HasRun tells files counts drives out a first new)
      (sym (answer_is ∙ ap (λ f. end_of f met n) (fault_is ∙ ap (λ m. first_fault 1 m (spread (Ok tt) flags (map (λ l. l.answer) ended))) told_is)))
      (has_run tells files counts drives first flags apart placed start entries end ended out met trails txns r begins.fed law step n is new trails_new txns_new (items_new ∙ ap (λ l. merged flags (map (λ (x : Left D). x.volume) ended) l) (sym same)))

-- ---- what was left in a place

-- what holds of two values holds of what is the same
pub same_pair : {A B : Type 0} (P : A → B → Type 0) (x y : A) (u v : B) → x ≡ y → u ≡ v → P y v → P x u
same_pair P x y u v e f h = subst (λ a. P a u) (sym e) (subst (λ b. P y b) (sym f) h)

pub match_some : {X : Type 0} (P : X → Type 0) (N : Type 0) (o : Option X) (x : X) → o ≡ Some x → MatchOption o N P → P x
match_some P N o x is h = subst (λ q. MatchOption q N P) is h

pub match_none : {X : Type 0} (P : X → Type 0) (N : Type 0) (o : Option X) → o ≡ None → MatchOption o N P → N
match_none P N o is h = subst (λ q. MatchOption q N P) is h

-- ---- not begun

-- a volume that is as it was, but for where it stands in memory
pub record Same {D : Type 0} (tells : Type 0) (files : D → Disk) (counts : D → Counts) (x y : Volume D) : Type 0 where
  pub rows : rows_of y ≡ rows_of x
  pub restart : restart_of y ≡ restart_of x
  pub in_use : tells → InUse files x → InUse files y
  pub counts_are : counts (disk_of y) ≡ counts (disk_of x)

module _ {D : Type 0} (tells : Type 0) (files : D → Disk) (counts : D → Counts) where
  same_self : (x y : Volume D) → y ≡ x → Same tells files counts x y
  same_self x y e = subst (λ (z : Volume D). Same tells files counts x z) (sym e) (record { rows = refl; restart = refl; in_use = λ t u. u; counts_are = refl })

  same_given : (x : Volume D) (p q : Placed D) → p.volume ≡ x → IsAsGiven tells files counts p q → Same tells files counts x q.volume
  same_given x p q e g = subst (λ (z : Volume D). Same tells files counts z q.volume) e (record { rows = g.rows; restart = g.restart; in_use = λ t u. g.in_use t; counts_are = g.counts_are })

  back_same : (n : ℕ) (flags : List Bool) (xs : List (Volume D)) (ws back : List (Placed D)) (others : List (Volume D)) → Parted IsPlaceOf n flags xs ws others → AllZip (IsAsGiven tells files counts) ws back →
      AllZip (Same tells files counts) xs (merged flags (map (λ w. w.volume) back) others)
  back_same n [] [] [] [] [] h g = tt
  back_same n [] [] [] (q ∷ back) [] h g = absurd g
  back_same n [] [] [] back (y ∷ others) h g = absurd h
  back_same n [] [] (w ∷ ws) back others h g = absurd h
  back_same n [] (x ∷ xs) ws back others h g = absurd h
  back_same n (true ∷ flags) [] ws back others h g = absurd h
  back_same n (true ∷ flags) (x ∷ xs) [] back others h g = absurd h
  back_same n (true ∷ flags) (x ∷ xs) (w ∷ ws) [] others h g = absurd g
  back_same n (true ∷ flags) (x ∷ xs) (w ∷ ws) (q ∷ back) others h g = (same_given x w q h.0.0 g.0, back_same (suc n) flags xs ws back others h.1 g.1)
  back_same n (false ∷ flags) [] ws back others h g = absurd h
  back_same n (false ∷ flags) (x ∷ xs) ws back [] h g = absurd h
  back_same n (false ∷ flags) (x ∷ xs) ws back (y ∷ others) h g = (same_self x y h.0, back_same (suc n) flags xs ws back others h.1 g)

  points_same : (xs ys : List (Volume D)) → AllZip (Same tells files counts) xs ys → map (λ volume. restart_of volume) ys ≡ map (λ volume. restart_of volume) xs
  points_same [] [] h = refl
  points_same [] (y ∷ ys) h = absurd h
  points_same (x ∷ xs) [] h = absurd h
  points_same (x ∷ xs) (y ∷ ys) h = ap (λ n. n ∷ map (λ volume. restart_of volume) ys) h.0.restart ∙ ap (λ l. restart_of x ∷ l) (points_same xs ys h.1)

  both_same : (xs ys : List (Volume D)) → AllZip (Same tells files counts) xs ys → (i : ℕ) → IfBoth (Same tells files counts) (slice_get xs i) (slice_get ys i)
  both_same [] [] h i = tt
  both_same [] (y ∷ ys) h i = absurd h
  both_same (x ∷ xs) [] h i = absurd h
  both_same (x ∷ xs) (y ∷ ys) h zero = h.0
  both_same (x ∷ xs) (y ∷ ys) h (suc i) = both_same xs ys h.1 i

-- the state by the restart points
abbrev by_points : ℕ → Value → List ℕ → State
by_points stops v points = record { up = true; received = received v; starts = v.starts; number = v.last; volumes = volumes_by v.phase points; stops = stops }

module _ {D : Type 0} {d : Ghosts D} (tells : Type 0) (files : D → Disk) (counts : D → Counts) (old new : Backup D d) (trails : new.trails ≡ old.trails) (txns : new.txns ≡ old.txns) (zip : AllZip (Same tells files counts) old.volumes.items new.volumes.items) where
  abbrev xs : List (Volume D)
  xs = old.volumes.items

  abbrev ys : List (Volume D)
  ys = new.volumes.items

  points : map (λ volume. restart_of volume) ys ≡ map (λ volume. restart_of volume) xs
  points = points_same tells files counts xs ys zip

  same_state : (stops : ℕ) → state_of stops new ≡ state_of stops old
  same_state stops = ap (λ t. state_by stops (trails_value t) ys) trails ∙ ap (λ ps. by_points stops (value_of old) ps) points

  usable : tells → MayUse files old → MayUse files new
  usable t u = record {
    trails = subst (λ x. AreInUse files x) (sym trails) u.trails;
    volume = λ v. both_some (Same tells files counts) (λ x. InUse files x) (λ y. InUse files y) (slice_get xs v) (slice_get ys v) (λ x y s h. s.in_use t h) (both_same tells files counts xs ys zip v) (u.volume v);
  }

  shown_same : (layout : Layout) (trail : List Record) (v : Value) (i : ℕ) (x y : Volume D) → Same tells files counts x y → IsShown layout trail (state_by 0 v xs) i (rows_of x) (restart_of x) → IsShown layout trail (state_by 0 v ys) i (rows_of y) (restart_of y)
  shown_same layout trail v i x y s h = subst (λ ps. IsShown layout trail (by_points 0 v ps) i (rows_of y) (restart_of y)) (sym points)
      (subst (λ rows. IsShown layout trail (state_by 0 v xs) i rows (restart_of y)) (sym s.rows) (subst (λ n. IsShown layout trail (state_by 0 v xs) i (rows_of x) n) (sym s.restart) h))

  over_same : (layout : Layout) (trail : List Record) (v : Value) (opens : List (ℕ × ℕ)) → AreOver layout trail v xs opens → AreOver layout trail v ys opens
  over_same layout trail v opens o = record {
    legal = o.legal;
    sound = λ stops. subst (λ ps. IsSound layout trail (by_points stops v ps)) (sym points) (o.sound stops);
    holds = o.holds;
    shown = λ i. both_some (Same tells files counts) (λ x. IsShown layout trail (state_by 0 v xs) i (rows_of x) (restart_of x)) (λ y. IsShown layout trail (state_by 0 v ys) i (rows_of y) (restart_of y)) (slice_get xs i) (slice_get ys i)
        (shown_same layout trail v i) (both_same tells files counts xs ys zip i) (o.shown i);
    open_ones = o.open_ones;
  }

  pub given_back : (tells → MayUse files old) → IsUnbegun tells files counts old new
  given_back u = record {
    usable = λ t. usable t (u t);
    laid = ap (λ t. trails_layout t) trails;
    same = same_state;
    serves = λ t trail serves. record {
      usable = usable t serves.usable;
      over = subst (λ x. AreOver (trails_layout x) trail (trails_value x) ys new.txns) (sym trails) (subst (λ x. AreOver (layout_of old) trail (value_of old) ys x) (sym txns) (over_same (layout_of old) trail (value_of old) old.txns serves.over));
    };
    trails = trails;
    counts_are = λ v. both_so (Same tells files counts) (λ x y. counts (disk_of y) ≡ counts (disk_of x)) (slice_get xs v) (slice_get ys v) (λ x y s. s.counts_are) (both_same tells files counts xs ys zip v);
  }

-- the volumes that were not begun with, in their places again
pub unbegun : {D : Type 0} {d : Ghosts D} (tells : Type 0) (files : D → Disk) (counts : D → Counts) (flags : List Bool) (xs apart : List (Volume D)) (placed back : List (Placed D)) (old new : Backup D d) → (tells → MayUse files old) →
    xs ≡ old.volumes.items → Parted IsPlaceOf 0 flags xs placed apart → AllZip (IsAsGiven tells files counts) placed back → new.trails ≡ old.trails → new.txns ≡ old.txns → new.volumes.items ≡ merged flags (map (λ w. w.volume) back) apart →
    IsUnbegun tells files counts old new
unbegun tells files counts flags xs apart placed back old new usable are parted given trails txns items =
    given_back tells files counts old new trails txns (subst (λ l. AllZip (Same tells files counts) old.volumes.items l) (sym items)
    (subst (λ l. AllZip (Same tells files counts) l (merged flags (map (λ w. w.volume) back) apart)) are (back_same tells files counts 0 flags xs placed back apart parted given))) usable
