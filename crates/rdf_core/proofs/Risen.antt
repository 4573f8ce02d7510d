-- No restart point falls in an open session, whatever the run.
use Rattle.std.proofs.Common.{◌≡◌, ℕ, zero, suc, ◌≤◌, ◌==◌, max, Bool, true, false, ◌||◌, ◌⊎◌, inl, inr, List, [], ◌∷◌, map, get_or, slice_set, Option, Some, None, if◌then◌else◌, refl, sym, ap, ◌∙◌, subst, arith}
use Rattle.rdf_types.specs.declared.layout.Layout.{Layout}
use Rattle.rdf_types.specs.declared.records.Node.{Node}
use Rattle.rdf_types.specs.declared.records.Node.TheVariants.{A}
use Rattle.rdf_types.specs.declared.records.RecKey.{RecKey}
use Rattle.rdf_types.specs.declared.records.Record.{Record}
use Rattle.plan_lang.specs.declared.lines.Line.{Line}
use Rattle.plan_lang.specs.declared.lines.Line.TheVariants as line
use Rattle.by_node.specs.Each.{at, Each, with_at, at-with_at, with_at-keeps}
use Rattle.rdf_core.specs.declared.events.Event.{Event}
use Rattle.rdf_core.specs.declared.events.Event.TheVariants as event
use Rattle.rdf_core.specs.declared.replies.NoWhy.{NoWhy}
use Rattle.rdf_core.specs.declared.replies.Reply.{Reply}
use Rattle.rdf_core.specs.Effects.{after_parts, after_all, parts_unless, Whole, Cut}
use Rattle.rdf_core.specs.Layouts.{point_of, points_at}
use Rattle.rdf_core.specs.Primary.{Primary, primary_parts, primary_fallen}
use Rattle.rdf_core.specs.Backup.{Backup, Volumes, Running, Taking, Taken, is_running, points_in, deliver_parts, purge_parts, takeover_parts, copy_parts, marks, with_volumes, with_up, drops, floor_of, backup_fallen}
use Rattle.rdf_core.specs.Sessions.{Session, Closed, Refused, Open, Opened, opened, has_halted, met_stop, with_seen, with_cut, with_halt}
use Rattle.plan_lang.specs.LineText.{same_node}
use Rattle.rdf_core.specs.NodeLaws.{by_node-keeps}
use Rattle.rdf_core.specs.State.{State, with_primary, with_backup, with_session, fallen, blank}
use Rattle.rdf_core.specs.Lines.{refusal, kept, message, parts, after, says, after_read, after_end, points_of, with_points}
use Rattle.rdf_core.specs.Step.{StepEnds, CanApply, CanHalt, after_apply, after_halt, with_point, moved_backup, halted_backup}
use Rattle.rdf_core.specs.Run.{CanMove, after_move, Run}
use Rattle.rdf_core.specs.Sound.{HaveRisen, NoneHasFallen}
use Rattle.rdf_core.proofs.RunLaws.{run_keeps}
use Rattle.rdf_core.proofs.Ages.{Within, within_parts, within_stores, within_itself}
use Rattle.rdf_core.specs.PartLaws.{Every, every_parts, every_all, every_map, every_image, every_weaker, refused_or_done}

-- volumes stay as they are, or no longer run
abbrev pub Lasts : Volumes → Volumes → Type 0
Lasts old new = (new ≡ old) ⊎ (is_running new ≡ false)

none_run : (layout : Layout) (o : Opened) (v : Volumes) → is_running v ≡ false → HaveRisen layout o v
none_run layout o (Running points) e = cc
none_run layout o Taking e = tt
none_run layout o (Taken upto) e = tt

risen_on : (layout : Layout) (o : Opened) (old new : Volumes) → Lasts old new → HaveRisen layout o old → HaveRisen layout o new
risen_on layout o old new (inl e) h = subst (λ (v : Volumes). HaveRisen layout o v) (sym e) h
risen_on layout o old new (inr e) h = none_run layout o new e

abbrev pub AllLast : Each Backup → (Each Backup) → Type 0
AllLast old new = (node : Node) → Lasts (at old node).volumes (at new node).volumes

all_same : (old : Each Backup) → AllLast old old
all_same old node = inl refl

all_with : (old : Each Backup) (node : Node) (x : Backup) → Lasts (at old node).volumes x.volumes → AllLast old (with_at old node x)
all_with old node x l = with_at-keeps (λ of (b : Backup). Lasts (at old of).volumes b.volumes) old node x (all_same old) l

-- where the session stays, and volumes last, no point has fallen
kept_risen : (layout : Layout) (old : State) (session : Session) (new : State) → AllLast old.backups new.backups → NoneHasFallen layout old session → NoneHasFallen layout new session
kept_risen layout old Closed new l h = tt
kept_risen layout old (Refused of why) new l h = tt
kept_risen layout old (Open o) new l h = risen_on layout o (at old.backups o.node).volumes (at new.backups o.node).volumes (l o.node) h

-- the parts of lines on a backup

marks_last : (b : Backup) (v : Volumes) → b.volumes ≡ v → Every (λ (x : Backup). Lasts b.volumes x.volumes) (map (with_volumes b) (marks b.received v))
marks_last b (Running points) e = (inr refl, (inr refl, tt))
marks_last b Taking e = (inr refl, tt)
marks_last b (Taken u) e =
    elim (u == b.received) as (λ m. Every (λ (x : Backup). Lasts b.volumes x.volumes) (map (with_volumes b) (if m then [] else Taking ∷ Taken b.received ∷ []))) [
      | true ↦ tt
      | false ↦ (inr refl, (inr refl, tt))
    ]

within_last : (first b : Backup) (upto : ℕ) → Within first upto b → Lasts first.volumes b.volumes
within_last first b upto w = inl w.volumes

deliver_last : (layout : Layout) (b : Backup) (m : Option (ℕ × ℕ)) → Every (λ (x : Backup). Lasts b.volumes x.volumes) (deliver_parts layout m b)
deliver_last layout b None = tt
deliver_last layout b (Some range) = every_weaker (Within b range.1) (λ (x : Backup). Lasts b.volumes x.volumes) (deliver_parts layout (Some range) b) (λ x w. within_last b x range.1 w)
    (within_parts layout b b range.1 range.1 (within_itself b range.1) (itself range.1))
  where
    itself : (n : ℕ) → n ≤ n
    itself n = omega arith

copy_last : (layout : Layout) (b lead : Backup) → Every (λ (x : Backup). Lasts b.volumes x.volumes) (copy_parts layout b lead)
copy_last layout b lead = every_weaker (Within b lead.received) (λ (x : Backup). Lasts b.volumes x.volumes) (copy_parts layout b lead) (λ x w. within_last b x lead.received w)
    (within_stores layout b b lead.received _ b.received (within_itself b lead.received))

purge_last : (layout : Layout) (trail : List Record) (points : List ℕ) (b : Backup) → Every (λ (x : Backup). Lasts b.volumes x.volumes) (purge_parts layout trail points b)
purge_last layout trail points b = every_image (λ (x : Backup). Lasts b.volumes x.volumes) (λ starts. record b { starts = starts }) (drops layout.retain (floor_of layout trail points b) b.starts) (λ starts. inl refl)

-- a state keeps the session, and its volumes last
pub record Stays (old new : State) : Type 0 where
  pub session : new.session ≡ old.session
  pub backups : AllLast old.backups new.backups

each_stays : (s : State) (node : Node) (xs : List Backup) → Every (λ (x : Backup). Lasts (at s.backups node).volumes x.volumes) xs → Every (Stays s) (map (with_backup s node) xs)
each_stays s node xs e = every_map (λ (x : Backup). Lasts (at s.backups node).volumes x.volumes) (Stays s) (with_backup s node) xs (λ x l. record { session = refl; backups = all_with s.backups node x l }) e

primary_stays : (s : State) (xs : List Primary) → Every (Stays s) (map (with_primary s) xs)
primary_stays s xs = every_image (Stays s) (with_primary s) xs (λ x. record { session = refl; backups = all_same s.backups })

parts_stay : (layout : Layout) (points : List ℕ) (s : State) (l : Line) → Every (Stays s) (parts layout points s l)
parts_stay layout points s (line.Deliver node k) = each_stays s node (deliver_parts layout (message s node k) (at s.backups node)) (deliver_last layout (at s.backups node) (message s node k))
parts_stay layout points s (line.Purge node) = each_stays s node (purge_parts layout s.primary.trail points (at s.backups node)) (purge_last layout s.primary.trail points (at s.backups node))
parts_stay layout points s (line.Takeover node) = each_stays s node (takeover_parts (at s.backups node)) (marks_last (at s.backups node) (at s.backups node).volumes refl)
parts_stay layout points s (line.CopyAudit node from) = each_stays s node (copy_parts layout (at s.backups node) (at s.backups from)) (copy_last layout (at s.backups node) (at s.backups from))
parts_stay layout points s (line.List A vol) = primary_stays s (primary_parts s.primary (line.List A vol))
parts_stay layout points s (line.List node vol) = tt
parts_stay layout points s (line.Restart A) = primary_stays s (primary_parts s.primary (line.Restart A))
parts_stay layout points s (line.Restart node) = tt
parts_stay layout points s (line.Session node) = tt
parts_stay layout points s (line.Info node) = tt
parts_stay layout points s (line.Status A) = primary_stays s (primary_parts s.primary (line.Status A))
parts_stay layout points s (line.Status node) = tt
parts_stay layout points s (line.Fuse A disk calls tear) = primary_stays s (primary_parts s.primary (line.Fuse A disk calls tear))
parts_stay layout points s (line.Fuse node disk calls tear) = tt
parts_stay layout points s (line.Cut A) = primary_stays s (primary_parts s.primary (line.Cut A))
parts_stay layout points s (line.Cut node) = tt
parts_stay layout points s l = primary_stays s (primary_parts s.primary l)

unless_stay : (layout : Layout) (points : List ℕ) (s : State) (l : Line) (r : Option NoWhy) → Every (Stays s) (parts_unless r (parts layout points s l))
unless_stay layout points s l None = parts_stay layout points s l
unless_stay layout points s l (Some why) = tt

stays_itself : (s : State) → Stays s s
stays_itself s = record { session = refl; backups = all_same s.backups }

stays_risen : (layout : Layout) (old new : State) → Stays old new → NoneHasFallen layout old old.session → NoneHasFallen layout new new.session
stays_risen layout old new k h = subst (λ (x : Session). NoneHasFallen layout new x) (sym k.session) (kept_risen layout old old.session new k.backups h)

-- whole lines

whole_risen : (layout : Layout) (s : State) (node : Node) (xs : List Backup) → Every (λ (x : Backup). Lasts (at s.backups node).volumes x.volumes) xs → NoneHasFallen layout s s.session →
    NoneHasFallen layout (with_backup s node (after_all (at s.backups node) xs)) s.session
whole_risen layout s node xs e h = kept_risen layout s s.session (with_backup s node (after_all (at s.backups node) xs))
    (all_with s.backups node (after_all (at s.backups node) xs) (every_all (λ (x : Backup). Lasts (at s.backups node).volumes x.volumes) (at s.backups node) xs (inl refl) e)) h

up_risen : (layout : Layout) (s : State) (node : Node) (up : Bool) → NoneHasFallen layout s s.session → NoneHasFallen layout (with_backup s node (with_up (at s.backups node) up)) s.session
up_risen layout s node up h = kept_risen layout s s.session (with_backup s node (with_up (at s.backups node) up)) (all_with s.backups node (with_up (at s.backups node) up) (inl refl)) h

opened_risen : (layout : Layout) (trail : List Record) (node : Node) (v : Volumes) → HaveRisen layout (opened node (points_in layout trail v)) v
opened_risen layout trail node (Running points) = λ v p. itself (point_of points v)
  where
    itself : (n : ℕ) → max n n ≤ n
    itself n = grind arith
opened_risen layout trail node Taking = tt
opened_risen layout trail node (Taken upto) = tt

pub set_or_not : (xs : List ℕ) (v w x : ℕ) → (get_or (slice_set xs v x) w 0 ≡ get_or xs w 0) ⊎ ((v ≡ w) × (get_or (slice_set xs v x) w 0 ≡ x))
set_or_not [] v w x = inl refl
set_or_not (y ∷ xs) zero zero x = inr (refl, refl)
set_or_not (y ∷ xs) zero (suc w) x = inl refl
set_or_not (y ∷ xs) (suc v) zero x = inl refl
set_or_not (y ∷ xs) (suc v) (suc w) x =
    elim (set_or_not xs v w x) [ inl e ↦ inl e | inr e ↦ inr (ap (λ n. suc n) e.0, e.1) ]

read_seen : (layout : Layout) (trail : List Record) (o : Opened) (vol : ℕ) (v : Volumes) → HaveRisen layout o v → HaveRisen layout (with_seen o vol (point_of (points_in layout trail v) vol)) v
read_seen layout trail o vol (Running points) h = λ w p.
    elim (set_or_not o.seen vol w (point_of points vol)) [
      | inl e ↦ subst (λ n. max (point_of o.began w) n ≤ point_of points w) (sym e) (h w p)
      | inr e ↦ subst (λ n. max (point_of o.began w) n ≤ point_of points w) (sym (e.1 ∙ ap (point_of points) e.0)) (both_low (point_of o.began w) (point_of o.seen w) (point_of points w) (h w p))
    ]
  where
    both_low : (a b c : ℕ) → max a b ≤ c → max a c ≤ c
    both_low a b c h = grind (arith, h)
read_seen layout trail o vol Taking h = tt
read_seen layout trail o vol (Taken upto) h = tt

read_risen : (layout : Layout) (s : State) (key : RecKey) (session : Session) → s.session ≡ session → NoneHasFallen layout s session →
    NoneHasFallen layout (after_read layout s key session) (after_read layout s key session).session
read_risen layout s key Closed e h = subst (λ (x : Session). NoneHasFallen layout s x) (sym e) h
read_risen layout s key (Refused of why) e h = subst (λ (x : Session). NoneHasFallen layout s x) (sym e) h
read_risen layout s key (Open o) e h =
    elim (has_halted o key.vol) as (λ m. let x : State = if m then with_backup s o.node (with_up (at s.backups o.node) false) else with_session s (Open (with_seen o key.vol (point_of (points_of layout s o) key.vol))) in NoneHasFallen layout x x.session) [
      | true ↦ up_risen layout s o.node false (subst (λ (x : Session). NoneHasFallen layout s x) (sym e) h)
      | false ↦ read_seen layout s.primary.trail o key.vol (at s.backups o.node).volumes h
    ]

end_risen : (layout : Layout) (s : State) (session : Session) → s.session ≡ session → NoneHasFallen layout s session → NoneHasFallen layout (after_end layout s session) (after_end layout s session).session
end_risen layout s Closed e h = subst (λ (x : Session). NoneHasFallen layout s x) (sym e) h
end_risen layout s (Refused of why) e h = subst (λ (x : Session). NoneHasFallen layout s x) (sym e) h
end_risen layout s (Open o) e h =
    elim (met_stop o) as (λ m. let x : State = if m then with_session (with_backup s o.node (with_up (at s.backups o.node) false)) Closed else with_session (with_backup s o.node (with_points (at s.backups o.node) (points_at layout (at s.backups o.node).received))) Closed in NoneHasFallen layout x x.session) [
      | true ↦ tt
      | false ↦ tt
    ]

same_risen : (layout : Layout) (old new : State) → new.session ≡ old.session → new.backups ≡ old.backups → NoneHasFallen layout old old.session → NoneHasFallen layout new new.session
same_risen layout old new e f h = stays_risen layout old new (record { session = e; backups = subst (λ (x : Each Backup). AllLast old.backups x) (sym f) (all_same old.backups) }) h

after_risen : (layout : Layout) (points : List ℕ) (s : State) (l : Line) → NoneHasFallen layout s s.session → NoneHasFallen layout (after layout points s l) (after layout points s l).session
after_risen layout points s (line.Deliver node k) h = whole_risen layout s node (deliver_parts layout (message s node k) (at s.backups node)) (deliver_last layout (at s.backups node) (message s node k)) h
after_risen layout points s (line.Session node) h = opened_risen layout s.primary.trail node (at s.backups node).volumes
after_risen layout points s (line.Read node key) h = read_risen layout s key s.session refl h
after_risen layout points s (line.Purge node) h = whole_risen layout s node (purge_parts layout s.primary.trail points (at s.backups node)) (purge_last layout s.primary.trail points (at s.backups node)) h
after_risen layout points s line.End h = end_risen layout s s.session refl h
after_risen layout points s (line.Takeover node) h = whole_risen layout s node (takeover_parts (at s.backups node)) (marks_last (at s.backups node) (at s.backups node).volumes refl) h
after_risen layout points s (line.CopyAudit node from) h = whole_risen layout s node (copy_parts layout (at s.backups node) (at s.backups from)) (copy_last layout (at s.backups node) (at s.backups from)) h
after_risen layout points s (line.Cut A) h = same_risen layout s (after layout points s (line.Cut A)) refl refl h
after_risen layout points s (line.Cut node) h = up_risen layout s node false h
after_risen layout points s (line.Restart A) h = same_risen layout s (after layout points s (line.Restart A)) refl refl h
after_risen layout points s (line.Restart node) h = up_risen layout s node true h
after_risen layout points s l h = same_risen layout s (after layout points s l) refl refl h

kept_fine : (layout : Layout) (s : State) (l : Line) (why : NoWhy) → NoneHasFallen layout s s.session → NoneHasFallen layout (kept s l why) (kept s l why).session
kept_fine layout s (line.Session node) why h = tt
kept_fine layout s line.End why h = tt
kept_fine layout s _ why h = h

noted_risen : (layout : Layout) (o : Opened) (cut : Bool) (v : Volumes) → HaveRisen layout o v → HaveRisen layout (record o { cut = cut }) v
noted_risen layout o cut (Running points) r = r
noted_risen layout o cut Taking r = tt
noted_risen layout o cut (Taken upto) r = tt

-- a stop takes a node down, and the session notes it
cut_fine : (layout : Layout) (s : State) (session : Session) (node : Node) (new : State) → AllLast s.backups new.backups → NoneHasFallen layout s session → NoneHasFallen layout new (with_cut session node)
cut_fine layout s Closed node new l h = tt
cut_fine layout s (Refused of why) node new l h = tt
cut_fine layout s (Open o) node new l h = noted_risen layout o (same_node o.node node || o.cut) (at new.backups o.node).volumes (kept_risen layout s (Open o) new l h)

fallen_risen : (layout : Layout) (s : State) (node : Node) (n : ℕ) → NoneHasFallen layout s s.session → NoneHasFallen layout (fallen node n s) (fallen node n s).session
fallen_risen layout s node n h = by_node-keeps (λ (x : State). NoneHasFallen layout x x.session) node down (with_session off (with_cut s.session node)) (same_risen layout s down refl refl h)
    (cut_fine layout s s.session node (with_session off (with_cut s.session node)) (all_with s.backups node (backup_fallen n (at s.backups node)) (inl refl)) h)
  where
    down : State
    down = with_primary s (primary_fallen n s.primary)

    off : State
    off = with_backup s node (backup_fallen n (at s.backups node))

pub step_risen : (layout : Layout) (old : State) (l : Line) (reply : Reply) (new : State) → StepEnds layout old l reply new → NoneHasFallen layout old old.session → NoneHasFallen layout new new.session
step_risen layout old l reply new (points, goes, Whole d) h =
    elim (refused_or_done (refusal layout old l) (kept old l) (after layout points old l) (says layout points old l) reply new d) [
      | inl ref ↦ subst (λ (s : State). NoneHasFallen layout s s.session) (sym ref.2) (kept_fine layout old l ref.0 h)
      | inr did ↦ subst (λ (s : State). NoneHasFallen layout s s.session) (sym did.2) (after_risen layout points old l h)
    ]
step_risen layout old l reply new (points, goes, Cut node of done off) h =
    let mid = after_parts old (parts_unless (refusal layout old l) (parts layout points old l)) done in
    subst (λ (s : State). NoneHasFallen layout s s.session) (sym off.leaves)
    (fallen_risen layout mid node off.rise
    (stays_risen layout old mid (every_parts (Stays old) old (parts_unless (refusal layout old l) (parts layout points old l)) done (stays_itself old) (unless_stay layout points old l (refusal layout old l))) h))

-- between lines

moved_up : (layout : Layout) (trail : List Record) (o : Opened) (vol upto : ℕ) (v : Volumes) → point_of (points_in layout trail v) vol ≤ upto → HaveRisen layout o v → HaveRisen layout o (with_point v vol upto)
moved_up layout trail o vol upto (Running points) up h = λ w p.
    elim (set_or_not points vol w upto) [
      | inl e ↦ subst (λ n. max (point_of o.began w) (point_of o.seen w) ≤ n) (sym e) (h w p)
      | inr e ↦ subst (λ n. max (point_of o.began w) (point_of o.seen w) ≤ n) (sym e.1) (higher (max (point_of o.began w) (point_of o.seen w)) (point_of points w) upto (h w p) (subst (λ n. point_of points n ≤ upto) e.0 up))
    ]
  where
    higher : (a b c : ℕ) → a ≤ b → b ≤ c → a ≤ c
    higher a b c h g = omega (arith, h, g)
moved_up layout trail o vol upto Taking up h = tt
moved_up layout trail o vol upto (Taken s) up h = tt

at_moved : (s : State) (node : Node) (x : Backup) → (at (with_backup s node x).backups node).volumes ≡ x.volumes
at_moved s node x = ap (λ (b : Backup). b.volumes) (at-with_at s.backups node x)

apply_risen : (layout : Layout) (s : State) (session : Session) (vol upto : ℕ) → s.session ≡ session → CanApply layout s session vol upto → NoneHasFallen layout s session →
    NoneHasFallen layout (after_apply s session vol upto) (after_apply s session vol upto).session
apply_risen layout s Closed vol upto e m h = absurd m
apply_risen layout s (Refused of why) vol upto e m h = absurd m
apply_risen layout s (Open o) vol upto e m h =
    subst (λ (x : Session). NoneHasFallen layout (after_apply s (Open o) vol upto) x) (sym e)
    (subst (λ (v : Volumes). HaveRisen layout o v) (sym (at_moved s o.node (moved_backup (at s.backups o.node) vol upto)))
    (moved_up layout s.primary.trail o vol upto (at s.backups o.node).volumes m.rises h))

halted_risen : (layout : Layout) (o : Opened) (vol : ℕ) (v : Volumes) → HaveRisen layout o v → HaveRisen layout (with_halt o vol) v
halted_risen layout o vol (Running points) h = h
halted_risen layout o vol Taking h = tt
halted_risen layout o vol (Taken upto) h = tt

halt_risen : (layout : Layout) (rise : ℕ) (s : State) (session : Session) (vol : ℕ) → CanHalt layout session vol → NoneHasFallen layout s session →
    NoneHasFallen layout (after_halt rise s session vol) (after_halt rise s session vol).session
halt_risen layout rise s Closed vol m h = absurd m
halt_risen layout rise s (Refused of why) vol m h = absurd m
halt_risen layout rise s (Open o) vol m h =
    halted_risen layout o vol (at (with_backup s o.node (halted_backup rise (at s.backups o.node))).backups o.node).volumes
    (subst (λ (v : Volumes). HaveRisen layout o v) (sym (at_moved s o.node (halted_backup rise (at s.backups o.node)))) h)

pub move_risen : (layout : Layout) (rise : ℕ) (s : State) (e : Event) → CanMove layout s e → NoneHasFallen layout s s.session →
    NoneHasFallen layout (after_move rise s e) (after_move rise s e).session
move_risen layout rise s (event.Apply vol upto) m h = apply_risen layout s s.session vol upto refl m h
move_risen layout rise s (event.Halt vol) m h = halt_risen layout rise s s.session vol m h
move_risen layout rise s _ m h = absurd m

pub no_point_falls : (layout : Layout) (lines : List Line) (replies : List Reply) (last : State) → Run layout lines replies last → NoneHasFallen layout last last.session
no_point_falls layout lines replies last r =
    run_keeps (λ (s : State). NoneHasFallen layout s s.session) layout (move_risen layout) (λ old l reply new s h. step_risen layout old l reply new s.1 h) lines replies (blank layout) last r tt
