-- A primary that was down, opened again.
use Rattle.std.proofs.Common.{◌≡◌, ℕ, zero, suc, ◌+◌, ◌≤◌, false, List, [], ◌∷◌, ◌++◌, length, map, drop, Option, Some, None, IfSome, refl, sym, ap, ◌∙◌, subst, arith}
use Rattle.std.specs.FinSet as set
use Rattle.std.specs.List.{AllByRecursion}
use Rattle.std.specs.Prelude.{slice_get}
use Rattle.rdf_types.specs.Counts.{Rose}
use Rattle.rdf_types.specs.declared.layout.Layout.{Layout}
use Rattle.rdf_types.specs.declared.records.Node.TheVariants.{A}
use Rattle.rdf_types.specs.declared.records.Record.{Record}
use Rattle.rdf_disk.specs.Files.{Disk, Contents}
use Rattle.rdf_disk.specs.Counts.{Counts, Ending, Causes, turned_on}
use Rattle.rdf_disk.specs.Counts.Ending.{Fine, Stop, Fault}
use Rattle.rdf_disk.specs.Outcomes.{Durably, MayAll}
use Rattle.rdf_disk.specs.declared.disk.Disk.{Ghosts}
use Rattle.rdf_gatelog.specs.declared.fault.LogFault.{LogFault}
use Rattle.rdf_model.specs.Contents.{nothing}
use Rattle.rdf_model.specs.Legal.{Legal}
use Rattle.rdf_model.specs.Lines.{after_restart}
use Rattle.rdf_model.specs.Losers.{losers}
use Rattle.rdf_model.specs.Trail.{open_in}
use Rattle.plan_lang.specs.declared.lines.Line.TheVariants as line
use Rattle.audit_trail.specs.SpelledLaws.{trail_durable}
use Rattle.audit_trail.specs.InUse.{trail_of, disk_of as trail_disk}
use Rattle.audit_trail.specs.Spelled.{Spells}
use Rattle.audit_trail.specs.declared.trail.AuditTrail.{AuditTrail}
use Rattle.rdf_volume.specs.declared.volume.Volume.{Volume}
use Rattle.rdf_volume.specs.Views.{disk_of}
use Rattle.node_faults.specs.Faults.{fault_at}
use Rattle.node_faults.specs.FaultLaws.{named_more}
use Rattle.node_faults.specs.declared.NodeFault.{NodeFault}
use Rattle.node_faults.specs.declared.Shut.{Shut}
use Rattle.node_faults.specs.Openings.{IsNoDamage, ending_if, Pairs, IsCaused, Rises, IsRaised}
use Rattle.node_faults.specs.PairLaws.{no_damage}
use Rattle.node_disks.specs.Cuts.{Each}
use Rattle.node_disks.specs.CutLaws.{same_length, each_after}
use Rattle.node_disks.specs.PairLaws.{pairs_each, formatted_on}
use Rattle.node_disks.specs.Opening.{AreOpened, HasNotBegun}
use Rattle.node_disks.specs.OpeningLaws.{no_memory, rises_on, many_open, each_behind, first_named, first_told, whole_named, whole_told, pairs_after, pairs_whole, pairs_begun, pairs_not_whole}
use Rattle.tmf_core.specs.Stores.{StandsWithin}
use Rattle.tmf_core.specs.Stores.{IsPlaced, Left}
use Rattle.tmf_core.specs.declared.store.Store.{Store}
use Rattle.tmf_core.specs.Disks.{disks_of}
use Rattle.tmf_core.specs.States.{tmf_trail, tmf_volumes, RunsWith}
use Rattle.tmf_core.specs.declared.tmf.Tmf.{Tmf}
use Rattle.rdf_core.specs.declared.events.Standing.{Standing}
use Rattle.rdf_core.specs.declared.events.Standing.TheVariants.{Up, Down}
use Rattle.rdf_core.specs.declared.replies.NoWhy.TheVariants as no
use Rattle.rdf_core.specs.Effects.{after_parts, parts_unless, first as first_of, when}
use Rattle.rdf_core.specs.Primary.{Primary as State, primary_after, primary_fallen, primary_parts, grown, is_lost, is_up}
use Rattle.rdf_primary.specs.declared.primary.Primary.{Primary}
use Rattle.rdf_primary.specs.Opening.{IsOpened, IsOldTrail, IsShutTrail, IsOldVolume, IsShutVolume, StandsDown, MayReopen}
use Rattle.rdf_primary.specs.Replies.{primary_parts_of}
use Rattle.rdf_primary.specs.Restarting.{StoodFor, StoodForSome, IsRestarted, BreaksUp, AreUp, AreDown, IsUpAgain, IsStillDown, IsBackedOut, IsCutOff}
use Rattle.rdf_primary.specs.Standing.{IsTrailOf, DiskStandsFor, VolumeStandsFor, PrimaryStandsFor, MayBe, ContentsStandFor, SomeStandsFor}
use Rattle.rdf_primary.specs.States.{state_of, disks_in, IsLaidOut}
use Rattle.rdf_primary.specs.StandingLaws.{running_stands}
use Rattle.rdf_primary.proofs.Answering.{state_is}
use Rattle.rdf_primary.proofs.Breaking.{left_stands}
use Rattle.rdf_core.specs.PartLaws.{none_done}
use Rattle.node_disks.specs.CutLaws.{there_is}
use Rattle.rdf_primary.proofs.OpeningLaws.{shown_within}
use Rattle.rdf_primary.proofs.Trails.{added_is, placed_aborts}

fallen_stands : (standing : Standing) (a : State) (rise i : ℕ) (c : Contents) → a.standing ≡ standing → standing ≡ Down → DiskStandsFor a i c → DiskStandsFor (primary_fallen rise a) i c
fallen_stands standing a rise zero c is down h = h
fallen_stands standing a rise (suc v) c is down h = subst (λ s. VolumeStandsFor s v a.trail c) (is ∙ down) h

-- where nothing durable was done the disks stand for what they stood for
pub breaks_before : {D : Type 0} (files : D → Disk) (layout : Layout) (a : State) (disks : List D) → StoodFor files layout a disks → BreaksUp files layout a disks
breaks_before {D = D} files layout a disks stood rise = record {
  count = stood.stands.count;
  some = λ held may. (zero, (omega arith, subst (λ b. ContentsStandFor layout (primary_fallen rise b) held) (sym (none_done a _)) (at held may)));
}
  where
    at : (held : ℕ → Contents) → MayBe files disks held → ContentsStandFor layout (primary_fallen rise a) held
    at held may = record {
      trail = stood.stands.trail;
      disk = λ i few.
          let one = there_is disks i (subst (λ n. suc i ≤ n) (sym stood.stands.count) (omega (arith, few))) in
          fallen_stands a.standing a rise i (held i) refl stood.down
          (subst (λ (o : Option D). IfSome o (λ d. Durably (files d) (DiskStandsFor a i))) one.1 (stood.stands.disk i) (held i) (subst (λ (o : Option D). IfSome o (λ d. MayAll (files d) (held i))) one.1 (may i)));
    }

-- a backout that was cut off
pub breaks_within : {D : Type 0} → ((trail : List Record) → Legal nothing trail → Legal nothing (after_restart trail)) → (files : D → Disk) (layout : Layout) (a : State) (s : Store D) → layout.volumes ≡ length s.volumes.items → a.standing ≡ Down → IsTrailOf layout a.trail →
    Left files a.trail (drop (length a.trail) (after_restart a.trail)) s → BreaksUp files layout a (disks_of s.trail s.volumes.items)
breaks_within keeps files layout a s sized down of left rise =
    subst (λ (parts : List State). SomeStandsFor files layout (length parts) (λ n. primary_fallen rise (after_parts a parts n)) (disks_of s.trail s.volumes.items)) (sym parts_are)
    (left_stands files layout s sized a rise (drop (length a.trail) (after_restart a.trail)) whole left)
  where
    parts_are : primary_parts_of layout a (line.Restart A) ≡ grown a (drop (length a.trail) (after_restart a.trail))
    parts_are = ap (λ (standing : Standing). parts_unless (first_of (when (is_lost standing) no.Lost ∷ when (is_up standing) no.Up ∷ [])) (primary_parts a (line.Restart A))) down

    is : after_restart a.trail ≡ a.trail ++ drop (length a.trail) (after_restart a.trail)
    is = added_is a.trail (line.Restart A)

    whole : IsTrailOf layout (a.trail ++ drop (length a.trail) (after_restart a.trail))
    whole = subst (λ (t : List Record). IsTrailOf layout t) is (record { legal = keeps a.trail of.legal; placed = placed_aborts layout.volumes (losers a.trail) a.trail of.placed })

as_down : (a : State) (i : ℕ) (c : Contents) → a.standing ≡ Down → DiskStandsFor a i c → StandsDown a.trail i c
as_down a zero c down h = h
as_down a (suc v) c down h = subst (λ s. VolumeStandsFor s v a.trail c) down h

of_down : (a : State) (i : ℕ) (c : Contents) → a.standing ≡ Down → StandsDown a.trail i c → DiskStandsFor a i c
of_down a zero c down h = h
of_down a (suc v) c down h = subst (λ s. VolumeStandsFor s v a.trail c) (sym down) h

-- disks that stand each for what it stood for stand for the same primary
stood_on : {D : Type 0} (files : D → Disk) (layout : Layout) (a : State) (old new : List D) → StoodFor files layout a old → Each (λ i x y. Durably (files x) (StandsDown a.trail i) → Durably (files y) (StandsDown a.trail i)) old new → StoodFor files layout a new
stood_on {D = D} files layout a old new stood each = record {
  down = stood.down;
  stands = record {
    trail = stood.stands.trail;
    count = same_length Keeps old new each ∙ stood.stands.count;
    disk = each_after Keeps (λ i x. Durably (files x) (DiskStandsFor a i)) (λ i y. Durably (files y) (DiskStandsFor a i)) old new (λ i x y keeps h c may. of_down a i c stood.down (keeps (λ e m. as_down a i e stood.down (h e m)) c may)) each stood.stands.disk;
  };
}
  where
    Keeps : ℕ → D → D → Type 0
    Keeps i x y = Durably (files x) (StandsDown a.trail i) → Durably (files y) (StandsDown a.trail i)

-- the trail's disk is the first, and those of the volumes are behind it
module _ {D : Type 0} (files : D → Disk) (all rest : List D) (first : D) (split : all ≡ first ∷ rest) where
  first_spells : (layout : Layout) (a : State) → StoodFor files layout a all → Durably (files first) (Spells a.trail)
  first_spells layout a stood = subst (λ (l : List D). (i : ℕ) → IfSome (slice_get l i) (λ d. Durably (files d) (DiskStandsFor a i))) split stood.stands.disk zero

  rest_many : (layout : Layout) (a : State) → StoodFor files layout a all → length rest ≡ layout.volumes
  rest_many layout a stood =
      let many = ap (λ (l : List D). length l) split in
      let count = stood.stands.count in
      omega arith

  pub may_reopen : (trail : AuditTrail D) → StoodForSome files all → ((t : List Record) → Durably (files first) (Spells t) → IsOpened files t trail) → MayReopen files trail rest
  may_reopen trail (layout, (a, stood)) found =
      let opened = found a.trail (first_spells layout a stood) in
      record {
        in_use = opened.in_use;
        alone = opened.alone;
        legal = subst (λ (t : List Record). Legal nothing t) (sym opened.trail_is) stood.stands.trail.legal;
        placed = subst (λ (t : List Record). AllByRecursion (λ r. IsPlaced (length rest) r) t) (sym opened.trail_is)
            (subst (λ n. AllByRecursion (λ r. IsPlaced n r) a.trail) (sym (rest_many layout a stood)) stood.stands.trail.placed);
        stood = subst (λ (t : List Record). (v : ℕ) → IfSome (slice_get rest v) (λ d. Durably (files d) (StandsWithin v t))) (sym opened.trail_is)
            (subst (λ (s : Standing). (v : ℕ) → IfSome (slice_get rest v) (λ d. Durably (files d) (VolumeStandsFor s v a.trail))) stood.down (each_behind (λ i d. Durably (files d) (DiskStandsFor a i)) all rest first split stood.stands.disk));
      }

-- the restart is done
pub restarted : {D : Type 0} {d : Ghosts D} (files : D → Disk) (layout : Layout) (a : State) (trail : List Record) (many : ℕ) (p : Primary D d) → IsLaidOut layout p → a.trail ≡ trail → RunsWith files (after_restart trail) set.empty p.tmf →
    many ≡ set.len (open_in trail) → IsRestarted files layout a many p
restarted files layout a trail many p laid is w says = record {
  laid = laid;
  state = state;
  stands = subst (λ (b : State). PrimaryStandsFor files layout b (disks_in p)) state (running_stands files p w.runs layout a.stops laid);
  says = says ∙ ap (λ (t : List Record). set.len (open_in t)) (sym is);
}
  where
    state : state_of a.stops p ≡ primary_after a (line.Restart A)
    state = state_is files p (after_restart trail) set.empty a.stops w ∙ ap (λ (t : List Record). let b : State = record { trail = after_restart t; active = set.empty; standing = Up; stops = a.stops } in b) (sym is)

-- the counts of a disk that was turned on, and then rose
rises_then : (e : Ending) (x y z : Counts) → Rises Fine x y → y.off ≡ false → Causes e y z → Rises e x z
rises_then Fine x y z r on c = (ap (λ k. k.faults) c ∙ r.0, ap (λ k. k.stops) c ∙ r.1, ap (λ k. k.fuses) c ∙ r.2)
rises_then Stop x y z r on c = (c.faults ∙ r.0, subst (λ n. n ≤ z.stops) r.1 c.no_less, subst (λ n. Rose n z.stops) r.1 (c.rose on), c.fuses ∙ r.2)
rises_then Fault x y z r on c = (subst (λ n. n ≤ z.faults) r.0 c.no_less, subst (λ n. Rose n z.faults) r.0 c.rose, c.stops ∙ r.1, c.fuses ∙ r.2)

-- so did those of all disks
pairs_then : {D : Type 0} (counts : D → Counts) (n : ℕ) (f : Option NodeFault) (xs ys zs : List D) → Pairs (λ i why x y. counts y ≡ turned_on (counts x)) n None xs ys → Pairs (IsCaused counts) n f ys zs → Pairs (IsRaised counts) n f xs zs
pairs_then counts n f [] [] [] p q = tt
pairs_then counts n f [] [] (z ∷ zs) p q = absurd q
pairs_then counts n f [] (y ∷ ys) zs p q = absurd p
pairs_then counts n f (x ∷ xs) [] zs p q = absurd p
pairs_then counts n f (x ∷ xs) (y ∷ ys) [] p q = absurd q
pairs_then counts n f (x ∷ xs) (y ∷ ys) (z ∷ zs) p q = (rises_then (ending_if n f) (counts x) (counts y) (counts z) (rises_on (counts x) (counts y) p.0) (ap (λ k. k.off) p.0) q.0, pairs_then counts (suc n) f xs ys zs p.1 q.1)

-- the trail could not be opened
pub begun_down : {D : Type 0} (tells : Type 0) (files : D → Disk) (counts : D → Counts) (layout : Layout) (disks : List D) (shut : Shut D) → (tells → StoodForSome files disks) → HasNotBegun (IsShutTrail tells files counts) disks shut → IsStillDown tells files counts layout disks shut
begun_down {D = D} tells files counts layout disks shut some not = record {
  err = λ t l a stood. breaks_before files l a shut.disks.items (stood_on files l a disks shut.disks.items stood (pairs_each (λ n why x y. Durably (files x) (StandsDown a.trail n) → Durably (files y) (StandsDown a.trail n)) (Some shut.fault) disks shut.disks.items
      (pairs_begun (λ n e x y. Durably (files x) (StandsDown a.trail n) → Durably (files y) (StandsDown a.trail n)) (λ n x h. h) (IsShutTrail tells files counts) disks shut (λ x y fault h. h.keeps t a.trail) not)));
  cause = pairs_begun (λ n e x y. Rises e (counts x) (counts y)) (λ n x. (refl, refl, refl)) (IsShutTrail tells files counts) disks shut (λ x y fault h. h.cause) not;
  named = first_named (IsShutTrail tells files counts) disks shut not (suc layout.volumes) (omega arith);
  sound = λ t.
      let s = some t in
      first_told (IsShutTrail tells files counts) disks shut not (λ f. IsNoDamage (Some f)) no_memory
      (λ x y rest fault split h. no_damage 0 fault (fault_at 0 fault) refl (h.sound t s.1.0.trail (first_spells files disks rest x split s.0 s.1.0 s.1.1)));
}

module _ {D : Type 0} (tells : Type 0) (files : D → Disk) (counts : D → Counts) (layout : Layout) (disks rest : List D) (first : D) (split : disks ≡ first ∷ rest) (many : length disks ≡ layout.volumes + 1)
    (a : AuditTrail D) (old : IsOldTrail tells files counts first a) where
  spells_on : tells → (trail : List Record) → Durably (files first) (Spells trail) → Durably (files (trail_disk a)) (Spells trail)
  spells_on t trail h =
      let opened = old.found t trail h in
      subst (λ (l : List Record). Durably (files (trail_disk a)) (Spells l)) opened.trail_is (trail_durable a.log.end (trail_of a) (files (trail_disk a)) opened.in_use.log opened.in_use.records opened.alone)

  -- a volume could not be opened, or there was no memory
  pub reopened_down : (shut : Shut D) → AreDown tells files counts a rest shut → IsStillDown tells files counts layout disks shut
  reopened_down shut down = record {
    err = λ t l b stood.
        let spells = first_spells files disks rest first split l b stood in
        breaks_before files l b shut.disks.items (stood_on files l b disks shut.disks.items stood (pairs_each (λ n why x y. Durably (files x) (StandsDown b.trail n) → Durably (files y) (StandsDown b.trail n)) (Some shut.fault) disks shut.disks.items
        (pairs_not_whole (λ n e x y. Durably (files x) (StandsDown b.trail n) → Durably (files y) (StandsDown b.trail n)) (λ n x h. h) (IsOldVolume tells files counts b.trail) (IsShutVolume tells files counts b.trail) (λ volume. disk_of volume)
        (λ n x v h k. shown_within files b.trail n v (h.shows t)) (λ n x y fault h k. h.keeps t) disks rest first (trail_disk a) down.volumes down.left down.why shut split (spells_on t b.trail)
        (subst (λ (l : List Record). AreOpened (IsOldVolume tells files counts l) (IsShutVolume tells files counts l) 0 rest down.volumes down.left down.why) (old.found t b.trail spells).trail_is down.opened) down.not)));
    cause = pairs_not_whole (λ n e x y. Rises e (counts x) (counts y)) (λ n x. (refl, refl, refl)) Opens Fails (λ volume. disk_of volume) (λ n x v h. rises_on (counts x) (counts (disk_of v)) h.turned) (λ n x y fault h. h.cause)
        disks rest first (trail_disk a) down.volumes down.left down.why shut split (rises_on (counts first) (counts (trail_disk a)) old.turned) down.opened down.not;
    named = whole_named Opens Fails (trail_disk a) rest down.volumes down.left (map (λ volume. disk_of volume) down.volumes ++ down.left) down.why down.opened shut down.not (suc layout.volumes)
        (let more = ap (λ (l : List D). length l) split in omega (arith, many, more));
    sound = λ t. whole_told Opens Fails (trail_disk a) rest down.volumes down.left (map (λ volume. disk_of volume) down.volumes ++ down.left) down.why down.opened shut down.not (λ f. IsNoDamage (Some f)) no_memory
        (λ i x y fault there h. no_damage (suc i) fault (fault_at (suc i) fault) refl (h.sound t));
  }
    where
      Opens : ℕ → D → Volume D → Type 0
      Opens = IsOldVolume tells files counts (trail_of a)

      Fails : ℕ → D → D → LogFault → Type 0
      Fails = IsShutVolume tells files counts (trail_of a)

  module _ {d : Ghosts D} (s : Tmf D d) (up : AreUp tells files counts a rest s) where
    as_many : tmf_volumes s ≡ length rest
    as_many = many_open (IsOldVolume tells files counts (trail_of a)) (IsShutVolume tells files counts (trail_of a)) 0 rest s.store.volumes.items [] None refl up.opened

    turned : Pairs (λ i why x y. counts y ≡ turned_on (counts x)) 0 None disks (disks_of s.store.trail s.store.volumes.items)
    turned = pairs_whole (IsOldVolume tells files counts (trail_of a)) (IsShutVolume tells files counts (trail_of a)) (λ volume. disk_of volume) (λ i why x y. counts y ≡ turned_on (counts x)) (λ n x v h. h.turned) disks rest (disks_of s.store.trail s.store.volumes.items)
        first (trail_disk a) s.store.volumes.items [] None split (ap (λ (t : AuditTrail D). trail_disk t ∷ map (λ volume. disk_of volume) s.store.volumes.items) up.trail) refl old.turned up.opened

    -- all disks are open, and the transactions without outcome are backed out
    pub up_again : (n : ℕ) (p : Primary D d) → IsBackedOut tells files counts s n p → IsUpAgain tells files counts layout disks n p
    up_again n p out = record {
      ok = λ t l b stood. restarted files l b (tmf_trail s) n p (sym (out.sized ∙ as_many ∙ rest_many files disks rest first split l b stood))
          (sym (ap (λ t. trail_of t) up.trail ∙ (old.found t b.trail (first_spells files disks rest first split l b stood)).trail_is)) (out.ok t) out.says;
      up = out.up;
      laid =
          let more = ap (λ (l : List D). length l) split in
          let sized = out.sized in
          omega (arith, many, more, as_many, sized);
      runs = λ t. (out.ok t).runs;
      on = formatted_on counts (disks_of s.store.trail s.store.volumes.items) (disks_in p) out.cause
          (pairs_after (λ i why x y. counts y ≡ turned_on (counts x)) (λ y. (counts y).off ≡ false) None (λ i x y h. ap (λ k. k.off) h) 0 disks (disks_of s.store.trail s.store.volumes.items) turned);
      cause = pairs_then counts 0 None disks (disks_of s.store.trail s.store.volumes.items) (disks_in p) turned out.cause;
    }

    -- all disks are open, and the backout was cut off
    pub cut_down : (shut : Shut D) → IsCutOff tells files counts s shut → IsStillDown tells files counts layout disks shut
    cut_down shut cut = record {
      err = λ t l b stood. cut.err t l b (sym (as_many ∙ rest_many files disks rest first split l b stood)) stood.down
          (sym (ap (λ t. trail_of t) up.trail ∙ (old.found t b.trail (first_spells files disks rest first split l b stood)).trail_is));
      cause = pairs_then counts 0 (Some shut.fault) disks (disks_of s.store.trail s.store.volumes.items) shut.disks.items turned cut.cause;
      named = named_more (suc (tmf_volumes s)) (suc layout.volumes) shut.fault (let more = ap (λ (l : List D). length l) split in omega (arith, many, more, as_many)) cut.named;
      sound = cut.sound;
    }
