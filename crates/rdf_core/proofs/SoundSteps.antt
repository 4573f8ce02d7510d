-- Every step, and all that happens between steps, keeps the positions sound.
use Rattle.std.proofs.Common.{◌≡◌, ◌≢◌, ◌==◌, ℕ, zero, suc, ◌+◌, ◌≤◌, ◌<◌, min, Bool, true, false, not, nat_lt, inl, inr, List, [], ◌∷◌, ◌++◌, map, length, drop, take, get_or, slice_get, slice_set, Option, Some, None, IsTrue, if◌then◌else◌, refl, sym, ap, ◌∙◌, subst, arith}
use Rattle.std.proofs.lemmas.List.{length-append, length-take-le, length-set, get_or-set_same, get_or-set_other, length-map}
use Rattle.std.proofs.lemmas.Bool.Decides.{nat_tests}
use Rattle.rdf_types.specs.declared.layout.Layout.{Layout}
use Rattle.rdf_types.specs.declared.records.Node.{Node}
use Rattle.rdf_types.specs.declared.records.Node.TheVariants.{A}
use Rattle.rdf_types.specs.declared.records.RecKey.{RecKey}
use Rattle.rdf_types.specs.declared.records.Record.{Record}
use Rattle.rdf_model.specs.Window.{low, first_place, is_kept_image}
use Rattle.rdf_model.specs.Trail.{is_ended}
use Rattle.plan_lang.specs.declared.lines.Line.{Line}
use Rattle.plan_lang.specs.declared.lines.Line.TheVariants as line
use Rattle.by_node.specs.Each.{at, with_at-keeps, at-map_each, at-every}
use Rattle.rdf_core.specs.declared.replies.NoWhy.{NoWhy}
use Rattle.rdf_core.specs.declared.replies.Reply.{Reply}
use Rattle.rdf_core.specs.Effects.{after_parts, after_all, parts_unless, Whole, Cut}
use Rattle.rdf_core.specs.Layouts.{protects, point_of, points_at}
use Rattle.rdf_core.specs.Primary.{Primary, primary_fallen, trail_after, primary_after, primary_parts}
use Rattle.rdf_core.specs.Sender.{Sender, after_send, after_ack, after_rewind, forgotten}
use Rattle.rdf_core.specs.Backup.{Backup, Volumes, Running, Taking, Taken, kept_of, points_in, deliver_parts, purge_parts, takeover_parts, copy_parts, with_up, backup_fallen}
use Rattle.rdf_core.specs.Sessions.{Session, Closed, Refused, Open, Opened, opened, has_halted, met_stop, with_seen, with_halt, with_cut}
use Rattle.plan_lang.specs.LineText.{same_node}
use Rattle.rdf_core.specs.State.{State, with_primary, with_sender, with_backup, with_session, fallen, blank, blank_backup, idle_sender}
use Rattle.rdf_core.specs.NodeLaws.{by_node-keeps}
use Rattle.rdf_core.specs.Lines.{refusal, kept, message, parts, after, says, after_read, after_end, points_of, run_at, with_points, restarted}
use Rattle.rdf_core.specs.Step.{StepEnds, Goes, MayLearn, MayUse, MayUseOf, CanApply, after_apply, after_halt, with_point, moved_backup, halted_backup}
use Rattle.rdf_core.specs.Run.{CanMove, after_move, Run}
use Rattle.rdf_core.specs.declared.events.Event.{Event}
use Rattle.rdf_core.specs.declared.events.Event.TheVariants as event
use Rattle.rdf_core.specs.Sound.{ArePoints, AreSound, IsSound, AreBelow, EndWithin, AllSound}
use Rattle.rdf_core.specs.PartLaws.{Every, every_parts, every_all, every_map, refused_or_done}
use Rattle.rdf_core.specs.GrowthLaws.{Grows, grows_not, trail_grows, parts_grow, after_trail}
use Rattle.rdf_core.specs.SoundLaws.{points_at-of, sound_longer, sound_store, sound_purge, flag_within}
use Rattle.rdf_core.proofs.SoundLemmas.{sound_copy, sound_marks}
use Rattle.rdf_core.proofs.RunLaws.{run_keeps}

-- a longer trail

ends_longer : (n m : ℕ) (sent : List (ℕ × ℕ)) → n ≤ m → EndWithin n sent → EndWithin m sent
ends_longer n m [] l e = tt
ends_longer n m (range ∷ sent) l e = (on range.1 n m e.0 l, ends_longer n m sent l e.1)
  where
    on : (a b c : ℕ) → a ≤ b → b ≤ c → a ≤ c
    on a b c h g = omega (arith, h, g)

grown_length : (old new : List Record) → Grows old new → length old ≤ length new
grown_length old new g = subst (λ n. length old ≤ n) (sym (ap length g.1 ∙ length-append old g.0)) (more (length old) (length g.0))
  where
    more : (a b : ℕ) → a ≤ a + b
    more a b = omega arith

sound_grown : (layout : Layout) (old new : List Record) (b : Backup) → Grows old new → IsSound layout old b → IsSound layout new b
sound_grown layout old new b g s = subst (λ t. IsSound layout t b) (sym g.1) (sound_longer layout old g.0 b s)

all_grown : (layout : Layout) (s : State) (a : Primary) → AllSound layout s → Grows s.primary.trail a.trail → AllSound layout (with_primary s a)
all_grown layout s a h g = record {
  backups = λ node. sound_grown layout s.primary.trail a.trail (at s.backups node) g (h.backups node);
  sent = λ node. ends_longer (length s.primary.trail) (length a.trail) (at s.senders node).sent (grown_length s.primary.trail a.trail g) (h.sent node);
}

-- one part changes

all_backup : (layout : Layout) (s : State) (node : Node) → AllSound layout s → (x : Backup) → IsSound layout s.primary.trail x → AllSound layout (with_backup s node x)
all_backup layout s node h x y = record { backups = with_at-keeps (λ _. IsSound layout s.primary.trail) s.backups node x h.backups y; sent = h.sent }

all_session : (layout : Layout) (s : State) (session : Session) → AllSound layout s → AllSound layout (with_session s session)
all_session layout s session h = record { backups = h.backups; sent = h.sent }

all_sender : (layout : Layout) (s : State) (node : Node) → AllSound layout s → (x : Sender) → EndWithin (length s.primary.trail) x.sent → AllSound layout (with_sender s node x)
all_sender layout s node h x y = record { backups = h.backups; sent = with_at-keeps (λ _ (z : Sender). EndWithin (length s.primary.trail) z.sent) s.senders node x h.sent y }

ends_push : (n : ℕ) (sent : List (ℕ × ℕ)) (range : ℕ × ℕ) → EndWithin n sent → range.1 ≤ n → EndWithin n (sent ++ range ∷ [])
ends_push n [] range e l = (l, tt)
ends_push n (x ∷ sent) range e l = (e.0, ends_push n sent range e.1 l)

send_ends : (len most : ℕ) (x : Sender) → EndWithin len x.sent → EndWithin len (after_send len most x).sent
send_ends len most x e =
    elim (nat_lt x.next len) as (λ m. EndWithin len (if m then (let y : Sender = record { next = min (x.next + most) len; acked = x.acked; sent = x.sent ++ (x.next, min (x.next + most) len) ∷ [] } in y) else x).sent) [
      | true ↦ ends_push len x.sent (x.next, min (x.next + most) len) e (near (x.next + most) len)
      | false ↦ e
    ]
  where
    near : (a b : ℕ) → min a b ≤ b
    near a b = grind arith

ends_get : (n : ℕ) (sent : List (ℕ × ℕ)) (k : ℕ) (range : ℕ × ℕ) → EndWithin n sent → slice_get sent k ≡ Some range → range.1 ≤ n
ends_get n [] k range e h = cc
ends_get n (x ∷ sent) zero range e h = subst (λ (o : Option (ℕ × ℕ)). end_of o ≤ n) h e.0
  where
    end_of : Option (ℕ × ℕ) → ℕ
    end_of None = 0
    end_of (Some r) = r.1
ends_get n (x ∷ sent) (suc k) range e h = ends_get n sent k range e.1 h

sound_fallen : (layout : Layout) (trail : List Record) (b : Backup) (n : ℕ) → IsSound layout trail b → IsSound layout trail (backup_fallen n b)
sound_fallen layout trail b n s = record { within = s.within; some = s.some; low = s.low; volumes = s.volumes }

all_fallen : (layout : Layout) (s : State) (node : Node) (n : ℕ) → AllSound layout s → AllSound layout (fallen node n s)
all_fallen layout s node n h = by_node-keeps (AllSound layout) node (with_primary s (primary_fallen n s.primary))
    (with_session (with_backup s node (backup_fallen n (at s.backups node))) (with_cut s.session node)) (record { backups = h.backups; sent = h.sent })
    (all_session layout (with_backup s node (backup_fallen n (at s.backups node))) (with_cut s.session node)
    (all_backup layout s node h (backup_fallen n (at s.backups node)) (sound_fallen layout s.primary.trail (at s.backups node) n (h.backups node))))

sound_up : (layout : Layout) (trail : List Record) (b : Backup) (up : Bool) → IsSound layout trail b → IsSound layout trail (with_up b up)
sound_up layout trail b up s = record { within = s.within; some = s.some; low = s.low; volumes = s.volumes }

-- the durable parts of lines on a backup

deliver_sound : (layout : Layout) (trail : List Record) (b : Backup) (m : Option (ℕ × ℕ)) → ((range : ℕ × ℕ) → m ≡ Some range → range.1 ≤ length trail) → IsSound layout trail b → Every (IsSound layout trail) (deliver_parts layout m b)
deliver_sound layout trail b None f s = tt
deliver_sound layout trail b (Some range) f s = sound_store layout trail b range.1 (f range refl) s

deliver_line : (layout : Layout) (s : State) (node : Node) (k : ℕ) → AllSound layout s → Every (IsSound layout s.primary.trail) (deliver_parts layout (message s node k) (at s.backups node))
deliver_line layout s node k h = deliver_sound layout s.primary.trail (at s.backups node) (message s node k) (λ range e. ends_get (length s.primary.trail) (at s.senders node).sent k range (h.sent node) e) (h.backups node)

below_same : (layout : Layout) (now points : List ℕ) → points ≡ now → AreBelow layout points now
below_same layout now points e = λ v p. subst (λ (x : List ℕ). point_of x v ≤ point_of now v) (sym e) (itself (point_of now v))
  where
    itself : (n : ℕ) → n ≤ n
    itself n = omega arith

below_learned : (layout : Layout) (trail : List Record) (o : Opened) (v : Volumes) (points : List ℕ) → MayLearn layout trail o v points → AreBelow layout points (points_in layout trail v)
below_learned layout trail o (Running now) points u = u.high
below_learned layout trail o Taking points u = below_same layout [] points u
below_learned layout trail o (Taken upto) points u = below_same layout (points_in layout trail (Taken upto)) points u

below_of : (layout : Layout) (trail : List Record) (mine : Bool) (o : Opened) (v : Volumes) (points : List ℕ) → MayUseOf layout trail mine o v points → AreBelow layout points (points_in layout trail v)
below_of layout trail true o v points u = below_learned layout trail o v points u
below_of layout trail false o v points u = below_same layout (points_in layout trail v) points u

may_below : (layout : Layout) (trail : List Record) (session : Session) (node : Node) (v : Volumes) (points : List ℕ) → MayUse layout trail session node v points → AreBelow layout points (points_in layout trail v)
may_below layout trail Closed node v points u = below_same layout (points_in layout trail v) points u
may_below layout trail (Refused of why) node v points u = below_same layout (points_in layout trail v) points u
may_below layout trail (Open o) node v points u = below_of layout trail (same_node o.node node) o v points u

purge_line : (layout : Layout) (points : List ℕ) (s : State) (node : Node) → Goes layout s (line.Purge node) points → AllSound layout s → Every (IsSound layout s.primary.trail) (purge_parts layout s.primary.trail points (at s.backups node))
purge_line layout points s node g h = sound_purge layout s.primary.trail points (at s.backups node) (may_below layout s.primary.trail s.session node (at s.backups node).volumes points g) (h.backups node)

takeover_line : (layout : Layout) (s : State) (node : Node) → AllSound layout s → Every (IsSound layout s.primary.trail) (takeover_parts (at s.backups node))
takeover_line layout s node h = sound_marks layout s.primary.trail (at s.backups node) (at s.backups node).volumes (h.backups node)

copy_line : (layout : Layout) (s : State) (node from : Node) → AllSound layout s → Every (IsSound layout s.primary.trail) (copy_parts layout (at s.backups node) (at s.backups from))
copy_line layout s node from h = sound_copy layout s.primary.trail (at s.backups node) (at s.backups from) (h.backups from) (h.backups node)

each_sound : (layout : Layout) (s : State) (node : Node) (xs : List Backup) → AllSound layout s → Every (IsSound layout s.primary.trail) xs → Every (AllSound layout) (map (with_backup s node) xs)
each_sound layout s node xs h e = every_map (IsSound layout s.primary.trail) (AllSound layout) (with_backup s node) xs (all_backup layout s node h) e

whole_sound : (layout : Layout) (s : State) (node : Node) (xs : List Backup) → AllSound layout s → Every (IsSound layout s.primary.trail) xs → AllSound layout (with_backup s node (after_all (at s.backups node) xs))
whole_sound layout s node xs h e = all_backup layout s node h (after_all (at s.backups node) xs) (every_all (IsSound layout s.primary.trail) (at s.backups node) xs (h.backups node) e)

primary_sound : (layout : Layout) (s : State) (l : Line) → AllSound layout s → Every (AllSound layout) (map (with_primary s) (primary_parts s.primary l))
primary_sound layout s l h = every_map (λ (x : Primary). Grows s.primary.trail x.trail) (AllSound layout) (with_primary s) (primary_parts s.primary l) (λ x g. all_grown layout s x h g)
    (parts_grow s.primary.trail s.primary (drop (length s.primary.trail) (trail_after s.primary.trail l)) (grows_not s.primary.trail))

parts_sound : (layout : Layout) (points : List ℕ) (s : State) (l : Line) → Goes layout s l points → AllSound layout s → Every (AllSound layout) (parts layout points s l)
parts_sound layout points s (line.Deliver node k) g h = each_sound layout s node (deliver_parts layout (message s node k) (at s.backups node)) h (deliver_line layout s node k h)
parts_sound layout points s (line.Purge node) g h = each_sound layout s node (purge_parts layout s.primary.trail points (at s.backups node)) h (purge_line layout points s node g h)
parts_sound layout points s (line.Takeover node) g h = each_sound layout s node (takeover_parts (at s.backups node)) h (takeover_line layout s node h)
parts_sound layout points s (line.CopyAudit node from) g h = each_sound layout s node (copy_parts layout (at s.backups node) (at s.backups from)) h (copy_line layout s node from h)
parts_sound layout points s (line.List A vol) g h = primary_sound layout s (line.List A vol) h
parts_sound layout points s (line.List node vol) g h = tt
parts_sound layout points s (line.Restart A) g h = primary_sound layout s (line.Restart A) h
parts_sound layout points s (line.Restart node) g h = tt
parts_sound layout points s (line.Session node) g h = tt
parts_sound layout points s (line.Info node) g h = tt
parts_sound layout points s (line.Status A) g h = primary_sound layout s (line.Status A) h
parts_sound layout points s (line.Status node) g h = tt
parts_sound layout points s (line.Fuse A disk calls tear) g h = primary_sound layout s (line.Fuse A disk calls tear) h
parts_sound layout points s (line.Fuse node disk calls tear) g h = tt
parts_sound layout points s (line.Cut A) g h = primary_sound layout s (line.Cut A) h
parts_sound layout points s (line.Cut node) g h = tt
parts_sound layout points s l g h = primary_sound layout s l h

-- whole lines

first_within : (test : Record → Bool) (trail : List Record) → first_place test trail ≤ length trail
first_within test [] = omega arith
first_within test (r ∷ rest) = elim (test r) as (λ m. (if m then zero else suc (first_place test rest)) ≤ suc (length rest)) [ true ↦ omega arith | false ↦ up (first_place test rest) (length rest) (first_within test rest) ]
  where
    up : (a b : ℕ) → a ≤ b → suc a ≤ suc b
    up a b h = omega (arith, h)

kept_within : (layout : Layout) (trail : List Record) (b : Backup) → IsSound layout trail b → kept_of b ≤ b.received
kept_within layout trail b s = on (kept_of b) (low (protects layout) (take b.received trail)) (length (take b.received trail)) b.received s.low
    (first_within (is_kept_image (protects layout) (λ t. not (is_ended t (take b.received trail)))) (take b.received trail)) (length-take-le b.received trail s.within)
  where
    on : (k l n r : ℕ) → k ≤ l → l ≤ n → n ≡ r → k ≤ r
    on k l n r h g e = omega (arith, h, g, e)

run_sound : (layout : Layout) (trail : List Record) (r k : ℕ) (v : Volumes) → k ≤ r → AreSound layout trail r k v → AreSound layout trail r k (run_at (points_at layout r) v)
run_sound layout trail r k (Running points) l s = record {
  whole = length-map layout.protect (λ protect. if protect then r else 0);
  low = λ v p. subst (λ n. k ≤ n) (sym (points_at-of layout r v p)) l;
  high = λ v p. subst (λ n. n ≤ r) (sym (points_at-of layout r v p)) (itself r);
}
  where
    itself : (n : ℕ) → n ≤ n
    itself n = omega arith
run_sound layout trail r k Taking l s = tt
run_sound layout trail r k (Taken upto) l s = s

sound_end : (layout : Layout) (trail : List Record) (b : Backup) → IsSound layout trail b → IsSound layout trail (with_points b (points_at layout b.received))
sound_end layout trail b s = record { within = s.within; some = s.some; low = s.low; volumes = run_sound layout trail b.received (kept_of b) b.volumes (kept_within layout trail b s) s.volumes }

read_sound : (layout : Layout) (s : State) (key : RecKey) (session : Session) → AllSound layout s → AllSound layout (after_read layout s key session)
read_sound layout s key Closed h = h
read_sound layout s key (Refused of why) h = h
read_sound layout s key (Open o) h =
    elim (has_halted o key.vol) as (λ m. AllSound layout (if m then with_backup s o.node (with_up (at s.backups o.node) false) else with_session s (Open (with_seen o key.vol (point_of (points_of layout s o) key.vol))))) [
      | true ↦ all_backup layout s o.node h (with_up (at s.backups o.node) false) (sound_up layout s.primary.trail (at s.backups o.node) false (h.backups o.node))
      | false ↦ all_session layout s (Open (with_seen o key.vol (point_of (points_of layout s o) key.vol))) h
    ]

end_sound : (layout : Layout) (s : State) (session : Session) → AllSound layout s → AllSound layout (after_end layout s session)
end_sound layout s Closed h = h
end_sound layout s (Refused of why) h = h
end_sound layout s (Open o) h =
    elim (met_stop o) as (λ m. AllSound layout (if m then with_session (with_backup s o.node (with_up (at s.backups o.node) false)) Closed else with_session (with_backup s o.node (with_points (at s.backups o.node) (points_at layout (at s.backups o.node).received))) Closed)) [
      | true ↦ all_session layout (with_backup s o.node (with_up (at s.backups o.node) false)) Closed (all_backup layout s o.node h (with_up (at s.backups o.node) false) (sound_up layout s.primary.trail (at s.backups o.node) false (h.backups o.node)))
      | false ↦ all_session layout (with_backup s o.node (with_points (at s.backups o.node) (points_at layout (at s.backups o.node).received))) Closed
          (all_backup layout s o.node h (with_points (at s.backups o.node) (points_at layout (at s.backups o.node).received)) (sound_end layout s.primary.trail (at s.backups o.node) (h.backups o.node)))
    ]

line_sound : (layout : Layout) (s : State) (l : Line) → AllSound layout s → AllSound layout (with_primary s (primary_after s.primary l))
line_sound layout s l h = all_grown layout s (primary_after s.primary l) h (subst (λ t. Grows s.primary.trail t) (sym (after_trail s.primary l)) (trail_grows s.primary.trail l))

restart_sound : (layout : Layout) (s : State) → AllSound layout s → AllSound layout (restarted s (line.Restart A))
restart_sound layout s h =
    let g = line_sound layout s (line.Restart A) h in
    record { backups = g.backups; sent = λ node. subst (λ (x : Sender). EndWithin (length (primary_after s.primary (line.Restart A)).trail) x.sent) (sym (at-map_each forgotten s.senders node)) (g.sent node) }

after_sound : (layout : Layout) (points : List ℕ) (s : State) (l : Line) → Goes layout s l points → AllSound layout s → AllSound layout (after layout points s l)
after_sound layout points s (line.Send node most) g h = all_sender layout s node h (after_send (length s.primary.trail) most (at s.senders node)) (send_ends (length s.primary.trail) most (at s.senders node) (h.sent node))
after_sound layout points s (line.Rewind node) g h = all_sender layout s node h (after_rewind (at s.senders node)) (h.sent node)
after_sound layout points s (line.Ack node) g h = all_sender layout s node h (after_ack (at s.backups node).received (at s.senders node)) (h.sent node)
after_sound layout points s (line.Deliver node k) g h = whole_sound layout s node (deliver_parts layout (message s node k) (at s.backups node)) h (deliver_line layout s node k h)
after_sound layout points s (line.Session node) g h = all_session layout s (Open (opened node (points_in layout s.primary.trail (at s.backups node).volumes))) h
after_sound layout points s (line.Read node key) g h = read_sound layout s key s.session h
after_sound layout points s (line.Purge node) g h = whole_sound layout s node (purge_parts layout s.primary.trail points (at s.backups node)) h (purge_line layout points s node g h)
after_sound layout points s line.End g h = end_sound layout s s.session h
after_sound layout points s (line.Takeover node) g h = whole_sound layout s node (takeover_parts (at s.backups node)) h (takeover_line layout s node h)
after_sound layout points s (line.CopyAudit node from) g h = whole_sound layout s node (copy_parts layout (at s.backups node) (at s.backups from)) h (copy_line layout s node from h)
after_sound layout points s (line.List node vol) g h = h
after_sound layout points s (line.Info node) g h = h
after_sound layout points s (line.Status node) g h = h
after_sound layout points s (line.Fuse node disk calls tear) g h = h
after_sound layout points s (line.Cut A) g h = line_sound layout s (line.Cut A) h
after_sound layout points s (line.Cut node) g h = all_backup layout s node h (with_up (at s.backups node) false) (sound_up layout s.primary.trail (at s.backups node) false (h.backups node))
after_sound layout points s (line.Restart A) g h = restart_sound layout s h
after_sound layout points s (line.Restart node) g h = all_backup layout s node h (with_up (at s.backups node) true) (sound_up layout s.primary.trail (at s.backups node) true (h.backups node))
after_sound layout points s l g h = line_sound layout s l h

kept_sound : (layout : Layout) (s : State) (l : Line) (why : NoWhy) → AllSound layout s → AllSound layout (kept s l why)
kept_sound layout s (line.Session node) why h = all_session layout s (Refused node why) h
kept_sound layout s line.End why h = all_session layout s Closed h
kept_sound layout s _ why h = h

unless_sound : (layout : Layout) (points : List ℕ) (s : State) (l : Line) (r : Option NoWhy) → Goes layout s l points → AllSound layout s → Every (AllSound layout) (parts_unless r (parts layout points s l))
unless_sound layout points s l None g h = parts_sound layout points s l g h
unless_sound layout points s l (Some why) g h = tt

pub step_sound : (layout : Layout) (old : State) (l : Line) (reply : Reply) (new : State) → StepEnds layout old l reply new → AllSound layout old → AllSound layout new
step_sound layout old l reply new (points, goes, Whole d) h =
    elim (refused_or_done (refusal layout old l) (kept old l) (after layout points old l) (says layout points old l) reply new d) [
      | inl ref ↦ subst (λ (s : State). AllSound layout s) (sym ref.2) (kept_sound layout old l ref.0 h)
      | inr did ↦ subst (λ (s : State). AllSound layout s) (sym did.2) (after_sound layout points old l goes h)
    ]
step_sound layout old l reply new (points, goes, Cut node of done off) h =
    subst (λ (s : State). AllSound layout s) (sym off.leaves)
    (all_fallen layout (after_parts old (parts_unless (refusal layout old l) (parts layout points old l)) done) node off.rise
    (every_parts (AllSound layout) old (parts_unless (refusal layout old l) (parts layout points old l)) done h
    (unless_sound layout points old l (refusal layout old l) goes h)))

-- between lines

moved_points : (layout : Layout) (r k : ℕ) (points : List ℕ) (vol upto : ℕ) → IsTrue (protects layout vol) → point_of points vol ≤ upto → upto ≤ r → ArePoints layout r k points → ArePoints layout r k (slice_set points vol upto)
moved_points layout r k points vol upto p up w s = record {
  whole = length-set points vol upto ∙ s.whole;
  low = λ v q. elim (v == vol) as (λ m. (v == vol) ≡ m → k ≤ point_of (slice_set points vol upto) v) [
    | true ↦ λ e. subst (λ n. k ≤ n) (sym (at_it v e)) (on k (point_of points vol) upto (s.low vol p) up)
    | false ↦ λ e. subst (λ n. k ≤ n) (sym (get_or-set_other points vol v upto 0 (apart v vol e))) (s.low v q)
  ] refl;
  high = λ v q. elim (v == vol) as (λ m. (v == vol) ≡ m → point_of (slice_set points vol upto) v ≤ r) [
    | true ↦ λ e. subst (λ n. n ≤ r) (sym (at_it v e)) w
    | false ↦ λ e. subst (λ n. n ≤ r) (sym (get_or-set_other points vol v upto 0 (apart v vol e))) (s.high v q)
  ] refl;
}
  where
    on : (a b c : ℕ) → a ≤ b → b ≤ c → a ≤ c
    on a b c h g = omega (arith, h, g)

    same : (a b : ℕ) → (a == b) ≡ true → a ≡ b
    same a b h = grind (arith, nat_tests)

    apart : (a b : ℕ) → (a == b) ≡ false → a ≢ b
    apart a b h = λ g. grind (arith, nat_tests)

    at_it : (v : ℕ) → (v == vol) ≡ true → point_of (slice_set points vol upto) v ≡ upto
    at_it v e = ap (λ u. point_of (slice_set points vol upto) u) (same v vol e) ∙ get_or-set_same points vol upto 0 (subst (λ n. vol < n) (sym s.whole) (flag_within layout.protect vol p))

moved_volumes : (layout : Layout) (trail : List Record) (r k : ℕ) (v : Volumes) (vol upto : ℕ) → IsTrue (protects layout vol) → point_of (points_in layout trail v) vol ≤ upto → upto ≤ r → AreSound layout trail r k v → AreSound layout trail r k (with_point v vol upto)
moved_volumes layout trail r k (Running points) vol upto p up w s = moved_points layout r k points vol upto p up w s
moved_volumes layout trail r k Taking vol upto p up w s = tt
moved_volumes layout trail r k (Taken s') vol upto p up w s = s

apply_sound : (layout : Layout) (s : State) (session : Session) (vol upto : ℕ) → CanApply layout s session vol upto → AllSound layout s → AllSound layout (after_apply s session vol upto)
apply_sound layout s Closed vol upto m h = h
apply_sound layout s (Refused of why) vol upto m h = h
apply_sound layout s (Open o) vol upto m h = all_backup layout s o.node h (moved_backup (at s.backups o.node) vol upto) (
    let b = h.backups o.node in
    record { within = b.within; some = b.some; low = b.low; volumes = moved_volumes layout s.primary.trail (at s.backups o.node).received (kept_of (at s.backups o.node)) (at s.backups o.node).volumes vol upto m.protected m.rises m.within b.volumes })

halt_sound : (layout : Layout) (rise : ℕ) (s : State) (session : Session) (vol : ℕ) → AllSound layout s → AllSound layout (after_halt rise s session vol)
halt_sound layout rise s Closed vol h = h
halt_sound layout rise s (Refused of why) vol h = h
halt_sound layout rise s (Open o) vol h = all_session layout (with_backup s o.node (halted_backup rise (at s.backups o.node))) (Open (with_halt o vol)) (all_backup layout s o.node h (halted_backup rise (at s.backups o.node)) (
    let b = h.backups o.node in record { within = b.within; some = b.some; low = b.low; volumes = b.volumes }))

move_sound : (layout : Layout) (rise : ℕ) (s : State) (e : Event) → CanMove layout s e → AllSound layout s → AllSound layout (after_move rise s e)
move_sound layout rise s (event.Apply vol upto) m h = apply_sound layout s s.session vol upto m h
move_sound layout rise s (event.Halt vol) m h = halt_sound layout rise s s.session vol h
move_sound layout rise s _ m h = h

blank_sound : (layout : Layout) → IsSound layout [] (blank_backup layout)
blank_sound layout = record {
  within = omega arith;
  some = omega arith;
  low = omega arith;
  volumes = record {
    whole = length-map layout.protect (λ protect. if protect then 0 else 0);
    low = λ v p. omega arith;
    high = λ v p. subst (λ n. n ≤ 0) (sym (points_at-of layout 0 v p)) (omega arith);
  };
}

pub positions_sound : (layout : Layout) (lines : List Line) (replies : List Reply) (last : State) → Run layout lines replies last → AllSound layout last
positions_sound layout lines replies last r =
    run_keeps (AllSound layout) layout (move_sound layout) (λ old l reply new s h. step_sound layout old l reply new s.1 h) lines replies (blank layout) last r (record {
      backups = λ node. subst (λ (b : Backup). IsSound layout [] b) (sym (at-every (blank_backup layout) node)) (blank_sound layout);
      sent = λ node. subst (λ (x : Sender). EndWithin 0 x.sent) (sym (at-every idle_sender node)) tt;
    })
