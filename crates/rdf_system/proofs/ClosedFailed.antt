-- A session that ended behind a line on the primary or on the sender's side which was broken off.
use Rattle.std.proofs.Common.{◌≡◌, ◌⊎◌, inl, inr, ℕ, suc, ◌+◌, ◌≤◌, Bool, true, false, nat_lt, if◌then◌else◌, List, length, Option, Some, None, Result, Ok, Err, refl, sym, ap, ap₂, ◌∙◌, subst, arith}
use Rattle.std.specs.Prelude.{IfErr}
use Rattle.rdf_types.specs.declared.layout.Layout.{Layout}
use Rattle.rdf_types.specs.declared.records.Node.{Node}
use Rattle.rdf_types.specs.declared.records.Node.TheVariants.{A}
use Rattle.rdf_types.specs.declared.records.Record.{Record}
use Rattle.rdf_types.specs.Counts.{Rose}
use Rattle.rdf_disk.specs.Files.{Disk}
use Rattle.rdf_disk.specs.Counts.{Counts, Ending}
use Rattle.rdf_disk.specs.Counts.Ending.{Fine, Stop, Fault}
use Rattle.rdf_disk.specs.declared.disk.Disk.{Ghosts}
use Rattle.rdf_model.specs.Contents.{nothing}
use Rattle.rdf_model.specs.Legal.{Legal}
use Rattle.plan_lang.specs.LineText.{same_node}
use Rattle.plan_lang.specs.declared.lines.Line.{Line}
use Rattle.plan_lang.specs.declared.lines.Line.TheVariants as line
use Rattle.node_faults.specs.declared.NodeFault.{NodeFault}
use Rattle.node_faults.specs.declared.NodeFault.TheVariants as fault
use Rattle.node_faults.specs.Faults.{ending_at, is_damage, IsSound as NodeIsSound, IsNamed}
use Rattle.node_disks.specs.Cuts.{IfBoth}
use Rattle.node_disks.specs.Counting.{Tells}
use Rattle.rdf_core.specs.declared.replies.Reply.{Reply}
use Rattle.rdf_core.specs.Allowed.{is_backup, is_node}
use Rattle.rdf_core.specs.Backup.{Backup}
use Rattle.rdf_core.specs.Primary.{Primary}
use Rattle.rdf_core.specs.Effects.{count_u64}
use Rattle.rdf_core.specs.GrowthLaws.{Grows}
use Rattle.rdf_core.specs.Sessions.{Session, Open, Opened, is_backup_node}
use Rattle.by_node.specs.Each.{Each, at, with_at, at-with_at}
use Rattle.rdf_core.specs.State.{State, with_primary, with_backup, with_session}
use Rattle.rdf_core.specs.Step.{is_of_session}
use Rattle.rdf_primary.specs.Standing.{PrimaryStandsFor}
use Rattle.rdf_backup.specs.Beside.{MayEnd}
use Rattle.rdf_backup.specs.FirstFaults.{rank}
use Rattle.rdf_backup.specs.Rising.{is_of_protected}
use Rattle.rdf_backup.specs.Standing.{BackupStandsFor}
use Rattle.backup_node.specs.declared.node.BackupNode.{BackupNode}
use Rattle.backup_node.specs.Nodes.{disks_at as backup_disks}
use Rattle.backup_node.specs.Open.{in_open}
use Rattle.primary_node.specs.Nodes.{disks_at}
use Rattle.rdf_system.specs.declared.fault.StepFault.{StepFault}
use Rattle.rdf_system.specs.declared.site.Site.{Site}
use Rattle.rdf_system.specs.declared.system.System.{System}
use Rattle.rdf_system.specs.Closing.{Answers, IsCausedInSession, MayCountIn, DoesInSession, PerformsInSession, first_of_both, told_by, ends_of_both}
use Rattle.rdf_system.specs.Kinds.{AtEnd}
use Rattle.rdf_system.specs.Lines.{EachUsed, IsFused, Leaves, CountsMore, is_beside_at, ends_on, stops_in}
use Rattle.rdf_system.specs.NodeLines.{is_on_primary, is_of_sender, site_at, with_site}
use Rattle.rdf_system.specs.OpenLines.{DoesOpen}
use Rattle.rdf_system.specs.Opened.{OpenView, shown, IsOpenAt, IsFedAt}
use Rattle.rdf_system.specs.Place.{IfUsed, is_used}
use Rattle.rdf_system.specs.States.{disk_of, layout_of, IsAtState, SiteStandsFor, DisksStandFor}
use Rattle.rdf_system.proofs.ClosedLeft.{LeftRisen, RisenAt, end_at, risen_longer, risen_stands, left_at, opened_is, may_stop, none_far, leaves_trails}
use Rattle.rdf_system.proofs.ClosedSite.{Ended, met_there, so, site, behind, moved, ends_each, only_these, serves_behind, fuses_behind, unused_behind}
use Rattle.rdf_system.proofs.Drifting.{drifts_beside, drifts_primary}
use Rattle.rdf_system.proofs.PlaceLaws.{not_so, is_placed, backup_node_is, beside_a}
use Rattle.rdf_system.proofs.ShownSites.{up_at, site_shown}
use Rattle.rdf_system.proofs.SideLeaves.{SideLeaves, side_leaves}
use Rattle.rdf_system.proofs.SiteValues.{NodesGoOn}
use Rattle.rdf_core.specs.NodeLaws.{at_other, put_one}
use Rattle.rdf_core.specs.RowLaws.{of_backup}
use Rattle.rdf_system.proofs.Leaving.{none_more}
use Rattle.rdf_system.proofs.Telling.{either, same_is}

-- ---- the states

-- the site of a backup, and those beside it
pub by_name : {D : Type 0} {d : Ghosts D} (files : D → Disk) (layout : Layout) (left : State) (old new : System D d) (name : Node) (own : Site D d) → new ≡ with_site old name own old.session → layout_of old ≡ layout → PrimaryStandsFor files layout left.primary (disks_at old.primary) →
    SiteStandsFor files layout left.primary.trail (at left.backups name) own → ((node : Node) → same_node name node ≡ false → SiteStandsFor files layout left.primary.trail (at left.backups node) (site_at old node)) → DisksStandFor files layout left new
by_name {D = D} {d = d} files layout left old new name own is laid a h others = subst (λ (x : System D d). DisksStandFor files layout left x) (sym is)
    (record { laid = laid; primary = a; sites = put_one (λ node. SiteStandsFor files layout left.primary.trail (at left.backups node)) old.sites name own others h })

pub at_with : (s : State) (name : Node) (b : Backup) (session : Session) (a : State) → at (with_primary (with_session (with_backup s name b) session) a.primary).backups name ≡ b
at_with s name b session a = at-with_at s.backups name b

pub beside_with : (s : State) (name : Node) (b : Backup) (session : Session) (a : State) (node : Node) → same_node name node ≡ false → at (with_primary (with_session (with_backup s name b) session) a.primary).backups node ≡ at s.backups node
beside_with s name b session a node far = at_other s.backups name b node far

-- the stops of each node: the primary's are those of what the line left, the backup's these, and the other's as before
pub counts_of : (layout : Layout) (s left : State) (name : Node) (b : Backup) (session : Session) (more : Node → ℕ) → is_backup layout name ≡ true → ((node : Node) → same_node name node ≡ false → more node ≡ 0) → ((n : ℕ) → s.primary.stops ≡ count_u64 n → left.primary.stops ≡ count_u64 (n + 0)) →
    ((n : ℕ) → (at s.backups name).stops ≡ count_u64 n → b.stops ≡ count_u64 (n + more name)) → CountsMore more s (with_primary (with_session (with_backup s name b) session) left.primary)
counts_of layout s left name b session more placed far a own node n e = go (either (same_node name node))
  where
    backup : is_backup_node name ≡ true
    backup = backup_node_is layout name placed

    near : stops_in s name ≡ count_u64 n → stops_in (with_primary (with_session (with_backup s name b) session) left.primary) name ≡ count_u64 (n + more name)
    near k = of_backup name left.primary.stops (at (with_at s.backups name b) name).stops backup ∙ ap (λ (x : Backup). x.stops) (at-with_at s.backups name b) ∙ own n (sym (of_backup name s.primary.stops (at s.backups name).stops backup) ∙ k)

    beside : same_node name node ≡ false → (t : Bool) → (if t then (at s.backups node).stops else s.primary.stops) ≡ count_u64 n → (if t then (at (with_at s.backups name b) node).stops else left.primary.stops) ≡ count_u64 (n + more node)
    beside f true k = ap (λ (x : Backup). x.stops) (at_other s.backups name b node f) ∙ k ∙ sym (none_more n (more node) (far node f))
    beside f false k = a n k ∙ ap (λ m. count_u64 (n + m)) (sym (far node f))

    go : ((same_node name node ≡ true) ⊎ (same_node name node ≡ false)) → stops_in (with_primary (with_session (with_backup s name b) session) left.primary) node ≡ count_u64 (n + more node)
    go (inl f) = subst (λ (x : Node). stops_in s x ≡ count_u64 n → stops_in (with_primary (with_session (with_backup s name b) session) left.primary) x ≡ count_u64 (n + more x)) (same_is name node f) near e
    go (inr f) = beside f (is_backup_node node) e

-- ---- the counts

-- how a disk ended in a line, and then at the end of a session
then_fine : (e : Ending) (c m k : Counts) → Tells e c m → Tells Fine m k → Tells e c k
then_fine Fine c m k h f = (f.0 ∙ h.0, f.1 ∙ h.1)
then_fine Stop c m k h f = (f.0 ∙ h.0, subst (λ n. c.stops ≤ n) (sym f.1) h.1, subst (λ n. Rose c.stops n) (sym f.1) h.2)
then_fine Fault c m k h f = (subst (λ n. c.faults ≤ n) (sym f.0) h.0, subst (λ n. Rose c.faults n) (sym f.0) h.1, f.1 ∙ h.2)

fine_then : (e : Ending) (c m k : Counts) → Tells Fine c m → Tells e m k → Tells e c k
fine_then Fine c m k f h = (h.0 ∙ f.0, h.1 ∙ f.1)
fine_then Stop c m k f h = (h.0 ∙ f.0, subst (λ n. n ≤ k.stops) f.1 h.1, subst (λ n. Rose n k.stops) f.1 h.2)
fine_then Fault c m k f h = (subst (λ n. n ≤ k.faults) f.0 h.0, subst (λ n. Rose n k.faults) f.0 h.1, h.2 ∙ f.1)

both_ended : (own a : Bool) (first told ends : Ending) → (own ≡ true → a ≡ false) → first ≡ told → (c m k : Counts) → Tells (if a then first else Fine) c m → Tells (if own then ends else (if a then Fine else Fine)) m k → Tells (if own then ends else (if a then told else Fine)) c k
both_ended true true first told ends apart is c m k h g = not_so (sym (apart refl))
both_ended true false first told ends apart is c m k h g = fine_then ends c m k h g
both_ended false true first told ends apart is c m k h g = then_fine told c m k (subst (λ (e : Ending). Tells e c m) is h) g
both_ended false false first told ends apart is c m k h g = then_fine Fine c m k h g

apart_a : (layout : Layout) (name node : Node) → is_backup layout name ≡ true → same_node name node ≡ true → same_node A node ≡ false
apart_a layout name node p e = subst (λ (n : Node). same_node A n ≡ false) (same_is name node e) (beside_a layout name p)

used_then : {D : Type 0} (u : Bool) (R S T : D → D → Type 0) (x y z : D) → (R x y → S y z → T x z) → IfUsed u R x y → IfUsed u S y z → IfUsed u T x z
used_then true R S T x y z f h k = f h k
used_then false R S T x y z f h k = k ∙ h

both_then : {D : Type 0} (u : Bool) (R S T : D → D → Type 0) (p q r : Option D) → ((x y z : D) → R x y → S y z → T x z) → IfBoth (λ x y. IfUsed u R x y) p q → IfBoth (λ x y. IfUsed u S x y) q r → IfBoth (λ x y. IfUsed u T x y) p r
both_then u R S T None None None f h k = tt
both_then u R S T None None (Some z) f h k = absurd k
both_then u R S T None (Some y) r f h k = absurd h
both_then u R S T (Some x) None r f h k = absurd h
both_then u R S T (Some x) (Some y) None f h k = absurd k
both_then u R S T (Some x) (Some y) (Some z) f h k = used_then u R S T x y z (f x y z) h k

both_so : {D : Type 0} (u : Bool) (R S : D → D → Type 0) (p q : Option D) → ((x y : D) → R x y → S x y) → IfBoth (λ x y. IfUsed u R x y) p q → IfBoth (λ x y. IfUsed u S x y) p q
both_so u R S None None f h = tt
both_so u R S None (Some y) f h = absurd h
both_so u R S (Some x) None f h = absurd h
both_so true R S (Some x) (Some y) f h = f x y h
both_so false R S (Some x) (Some y) f h = h

each_so : {D : Type 0} {d : Ghosts D} (old new : System D d) (R S : Node → ℕ → D → D → Type 0) → ((node : Node) (i : ℕ) (x y : D) → R node i x y → S node i x y) → EachUsed R old new → EachUsed S old new
each_so old new R S f h node i = both_so (is_used (layout_of old) node i) (R node i) (S node i) (disk_of old node i) (disk_of new node i) (f node i) (h node i)

-- what each used disk did from the one system to the next, and on
each_then : {D : Type 0} {d : Ghosts D} (old mid new : System D d) (R S T : Node → ℕ → D → D → Type 0) → layout_of mid ≡ layout_of old → ((node : Node) (i : ℕ) (x y z : D) → R node i x y → S node i y z → T node i x z) → EachUsed R old mid → EachUsed S mid new → EachUsed T old new
each_then {D = D} {d = d} old mid new R S T laid f h k node i = both_then (is_used (layout_of old) node i) (R node i) (S node i) (T node i) (disk_of old node i) (disk_of mid node i) (disk_of new node i) (f node i) (h node i)
    (subst (λ (y : Layout). IfBoth (λ a b. IfUsed (is_used y node i) (λ p q. S node i p q) a b) (disk_of mid node i) (disk_of new node i)) laid (k node i))

-- ---- the answer

last_rank : (why : NodeFault) → nat_lt 3 (rank why) ≡ false
last_rank (fault.Failed disk) = refl
last_rank (fault.Damaged disk file at) = refl
last_rank fault.NoMemory = refl
last_rank (fault.Stopped disk) = refl

-- a line of the primary that was broken off, and what is told at the end of the session
answers_both : (why : StepFault) → why.node ≡ A → (name : Node) (told : Result Reply NodeFault) (met : Result (Unit {0}) NodeFault) → (let ok : Result (Unit {0}) NodeFault = Ok tt in Answers name ok met (told_by name told)) →
    (let broke : Result (Unit {0}) NodeFault = Err why.fault in Answers name broke met (Err (first_of_both why name told)))
answers_both why at_a name (Ok reply) (Ok y) h = ap (λ (n : Node). let f : StepFault = record { node = n; fault = why.fault } in f) at_a
answers_both why at_a name (Ok reply) (Err met) h =
    ap (λ (n : Node). let f : StepFault = record { node = n; fault = why.fault } in f) at_a
    ∙ sym (ap (λ (m : NodeFault). first_of_both (record { node = A; fault = why.fault }) name (Err m)) h.1.1 ∙ ap (λ (b : Bool). let f : StepFault = if b then record { node = name; fault = fault.Stopped h.1.0 } else record { node = A; fault = why.fault } in f) (last_rank why.fault))
answers_both why at_a name (Err told) (Ok y) h = absurd h
answers_both why at_a name (Err told) (Err met) h =
    ap₂ (λ (n : Node) (f : StepFault). first_of_both (record { node = n; fault = why.fault }) name (Err f.fault)) at_a h.0

told_both : (layout : Layout) (why : StepFault) (name : Node) (many : ℕ) (told : Result Reply NodeFault) → is_node layout name ≡ true → many ≡ suc layout.volumes → (is_node layout why.node ≡ true) × IsNamed (suc layout.volumes) why.fault → IfErr told (λ w. IsNamed many w) →
    (is_node layout (first_of_both why name told).node ≡ true) × IsNamed (suc layout.volumes) (first_of_both why name told).fault
told_both layout why name many (Ok reply) there is h k = h
told_both layout why name many (Err told) there is h k = go (nat_lt (rank told) (rank why.fault))
  where
    go : (b : Bool) → (let f : StepFault = if b then record { node = name; fault = told } else why in (is_node layout f.node ≡ true) × IsNamed (suc layout.volumes) f.fault)
    go true = (there, subst (λ n. IsNamed n told) is k)
    go false = h

sound_both : (why : StepFault) (name : Node) (told : Result Reply NodeFault) → is_damage why.fault ≡ false → NodeIsSound told → is_damage (first_of_both why name told).fault ≡ false
sound_both why name (Ok reply) h k = h
sound_both why name (Err told) h k = go (nat_lt (rank told) (rank why.fault))
  where
    go : (b : Bool) → (let f : StepFault = if b then record { node = name; fault = told } else why in is_damage f.fault ≡ false)
    go true = k
    go false = h

-- ---- the whole of it

module _ {D : Type 0} {d : Ghosts D} {tells : Type 0} {files : D → Disk} {counts : D → Counts} {x : OpenView D d} {told : Result Reply NodeFault} {now : BackupNode D d} (ended : Ended tells files counts x told now) (none : x.session.met ≡ None) (go_on : NodesGoOn d files)
    (sys : System D d) (l : Line) (near : (is_on_primary l ≡ true) ⊎ (is_of_sender l ≡ true)) (why : StepFault) where
  -- the same session beside the system as the line found it
  abbrev pub aside : OpenView D d
  aside = record { session = x.session; node = x.node; system = sys }

  abbrev name : Node
  name = x.node.name

  abbrev New : System D d
  New = behind ended x.system.session

  abbrev Told : Result Reply StepFault
  Told = Err (first_of_both why name told)

  module _ (was_open : IsOpenAt tells files counts aside) (fails : DoesOpen tells files counts l (Err why) aside x) (at_a : why.node ≡ A) where
    laid : x.system.layout ≡ sys.layout
    laid = fails.laid

    module _ (t : tells) (layout : Layout) (s : State) (is : IsAtState files layout s (shown aside)) (fed : IsFedAt s aside) (h : Leaves files layout s l s (λ node. 0) (shown x)) (more : Node → ℕ) (may : MayCountIn layout name l more) where
      side : SideLeaves layout h.mid l h.left
      side = side_leaves layout h.mid l h.left near h.leaves

      same_a : h.mid.primary ≡ s.primary
      same_a = drifts_primary layout s h.mid h.drifts

      grows : Grows s.primary.trail h.left.primary.trail
      grows = subst (λ (a : Primary). Grows a.trail h.left.primary.trail) same_a side.grows

      own_stands : BackupStandsFor files layout h.left.primary.trail (at h.left.backups name) (backup_disks (in_open x.session x.node))
      own_stands = subst (λ (v : Site D d). SiteStandsFor files layout h.left.primary.trail (at h.left.backups name) v) (site_shown x.node x.system x.session) (h.stands.sites name)

      -- the session's node over the trail as it is then
      risen : RisenAt files layout h.left.primary.trail (at s.backups name) now
      risen = subst (λ (r : List Record). RisenAt files layout r (at s.backups name) now) (sym grows.1)
          (risen_longer go_on layout s.primary.trail grows.0 (at s.backups name) now (subst (λ (r : List Record). Legal nothing r) grows.1 own_stands.legal)
          (end_at files layout s.primary.trail name (at s.backups name) now 1 told (ended.ends.unmet t none layout s.primary.trail (at s.backups name) 1 (omega arith) fed (up_at x.node sys files layout s x.session is))))

      far : (node : Node) → same_node name node ≡ false → more node ≡ 0
      far = none_far layout name l more may

      k : LeftRisen layout s name risen.next (more name)
      k = left_at was_open layout s is ended.laws risen.next risen.rise_is (more name) (may_stop layout name l more (other_line l near) may)
        where
          other_line : (m : Line) → (is_on_primary m ≡ true) ⊎ (is_of_sender m ≡ true) → is_of_session m ≡ false
          other_line (line.Deliver node i) (inl e) = not_so e
          other_line (line.Deliver node i) (inr e) = not_so e
          other_line (line.Purge node) (inl e) = not_so e
          other_line (line.Purge node) (inr e) = not_so e
          other_line _ e = refl

      abbrev b : Backup
      b = record risen.next { stops = k.stops }

      abbrev mid : State
      mid = with_session (with_backup s name b) k.session

      abbrev left : State
      left = with_primary mid h.left.primary

      beside_same : (node : Node) → same_node name node ≡ false → at h.left.backups node ≡ at s.backups node
      beside_same node f = ap (λ (bs : Each Backup). at bs node) side.backups ∙ drifts_beside layout name s h.mid of h.drifts node f
        where
          of : (o : Opened) → s.session ≡ Open o → o.node ≡ name
          of o e = ap (λ (p : Opened). p.node) (same (sym e ∙ (opened_is was_open layout s is).is)) ∙ (opened_is was_open layout s is).open_is.node_is
            where
              same : Open o ≡ Open (opened_is was_open layout s is).session → o ≡ (opened_is was_open layout s is).session
              same f = cc

      stand_left : DisksStandFor files layout left New
      stand_left = by_name files layout left (shown x) New name (site ended) refl h.stands.laid h.stands.primary
          (subst (λ (y : Backup). BackupStandsFor files layout h.left.primary.trail y (backup_disks now)) (sym (at_with s name b k.session h.left)) (risen_stands ended.stand layout h.left.primary.trail (at s.backups name) now risen k.stops))
          (λ node f. subst (λ (y : Backup). SiteStandsFor files layout h.left.primary.trail y (site_at (shown x) node)) (beside_same node f ∙ sym (beside_with s name b k.session h.left node f)) (h.stands.sites node))

      leaves_on : Leaves files layout s l s more New
      leaves_on = record {
        mid = mid;
        drifts = k.drifts;
        left = left;
        leaves = side.again mid (sym same_a);
        stands = stand_left;
        stops = counts_of sys.layout s h.left name b k.session more was_open.placed far (λ n e. h.stops A n e) k.counted;
      }

    performs : tells → PerformsInSession files l Told aside New
    performs t layout s rise some risen fed is more may = leaves_on t layout s is fed (fails.performs t layout s rise some risen fed is (λ node. 0) (λ node. inl refl)) more may

    -- the counts: those of the primary's disk in the line, and then those of the session's node
    first_each : EachUsed (λ node i a c. Tells (if same_node A node then ending_at i why.fault else Fine) (counts a) (counts c)) (shown aside) (shown x)
    first_each = go fails.cause.0.2.0 fails.cause.0.2.1.0 fails.cause.0.2.1.1
      where
        go : (ends : ℕ → Ending) → MayEnd (is_beside_at why.node l) why.fault ends → EachUsed (λ node i a c. Tells (ends_on why.node ends node i) (counts a) (counts c)) (shown aside) (shown x) →
            EachUsed (λ node i a c. Tells (if same_node A node then ending_at i why.fault else Fine) (counts a) (counts c)) (shown aside) (shown x)
        go ends (inl same) h = each_so (shown aside) (shown x) (λ node i a c. Tells (ends_on why.node ends node i) (counts a) (counts c)) (λ node i a c. Tells (if same_node A node then ending_at i why.fault else Fine) (counts a) (counts c))
            (λ node i a c k. subst (λ (e : Ending). Tells (if same_node A node then e else Fine) (counts a) (counts c)) (same i) (subst (λ (n : Node). Tells (if same_node n node then ends i else Fine) (counts a) (counts c)) at_a k)) h
        go ends (inr several) h = not_so (subst (λ (n : Node). is_beside_at n l ≡ true) at_a several.0)

    all_each : EachUsed (λ node i a c. (let broke : Result (Unit {0}) NodeFault = Err why.fault in Tells (ends_of_both name broke (so ended).ends node i) (counts a) (counts c))) (shown aside) New
    all_each = each_then (shown aside) (shown x) New (λ node i a c. Tells (if same_node A node then ending_at i why.fault else Fine) (counts a) (counts c))
        (λ node i a c. (let ok : Result (Unit {0}) NodeFault = Ok tt in Tells (ends_of_both name ok (so ended).ends node i) (counts a) (counts c)))
        (λ node i a c. (let broke : Result (Unit {0}) NodeFault = Err why.fault in Tells (ends_of_both name broke (so ended).ends node i) (counts a) (counts c)))
        laid
        (λ node i a c e h k. both_ended (same_node name node) (same_node A node) (ending_at i why.fault) (ending_at i why.fault) ((so ended).ends i) (apart_a x.system.layout name node ended.is_open.placed) refl (counts a) (counts c) (counts e) h k)
        first_each (ends_each ended x.system.session)

    cause : IsCausedInSession counts name l Told (shown aside) New
    cause = record {
      line = Err why.fault;
      met = (so ended).met;
      answers = answers_both why at_a name told (so ended).met (so ended).answers;
      named = told_both sys.layout why name (length (backup_disks (in_open x.session x.node))) told (is_placed sys.layout name was_open.placed) ((moved ended x.system.session).many ∙ ap (λ (y : Layout). suc y.volumes) laid) (fails.cause.0.0, fails.cause.0.1) (so ended).named;
      line_unstopped = fails.cause.1;
      met_named = met_there (so ended).met ((moved ended x.system.session).many ∙ ap (λ (y : Layout). suc y.volumes) laid) (so ended).met_named;
      ends = (so ended).ends;
      beside = (so ended).beside;
      volumes = λ i ne. subst (λ (y : Layout). (is_of_session l ≡ true) ⊎ (is_of_protected y i ≡ true)) laid (only_these ended x.system.session l (inl (leaves_trails ended none)) i ne);
      each = all_each;
    }

    fused : IsFused counts l Told (shown aside) New
    fused = go fails.fuses
      where
        go : IsFused counts l (Err why) (shown aside) (shown x) → IsFused counts l Told (shown aside) New
        go (inl h) = inl (
          each_then (shown aside) (shown x) New (λ node i a c. (counts c).fuses ≡ (counts a).fuses) (λ node i a c. (counts c).fuses ≡ (counts a).fuses) (λ node i a c. (counts c).fuses ≡ (counts a).fuses) laid
              (λ node i a c e p q. q ∙ p) h.0 (fuses_behind ended x.system.session),
          h.1,
        )
        go (inr h) = absurd cc

    pub failed_does : DoesInSession tells files counts l Told aside New
    failed_does = record {
      performs = performs;
      keeps = record {
        serves = serves_behind ended x.system.session ended.is_open.serves.whole.session;
        laid = (moved ended x.system.session).laid ∙ laid;
        cause = cause;
        sound = λ t layout s is. sound_both why name told (fails.sound t layout s is) (ended.sound t);
        fuses = fused;
        kinds = AtEnd name was_open.open_is (in_open x.session x.node) (ap (λ (v : Site D d). v.node) (site_shown x.node sys x.session)) refl tt;
        judged = tt;
        moved = tt;
        unused = λ node i free. unused_behind ended x.system.session node i (subst (λ (y : Layout). is_used y node i ≡ false) (sym laid) free) ∙ fails.unused node i free;
      };
    }
