-- What a line of an open session leaves where it was answered neither that it is done nor by a number: the backups, and the session but for what was read.
use Rattle.std.proofs.Common.{◌≡◌, ◌≢◌, inl, inr, ℕ, Bool, true, false, List, map, Option, Some, None, if◌then◌else◌, refl, sym, ap, ◌∙◌, subst}
use Rattle.rdf_types.specs.declared.layout.Layout.{Layout}
use Rattle.rdf_types.specs.declared.records.Node.{Node}
use Rattle.rdf_types.specs.declared.records.Node.TheVariants.{A}
use Rattle.rdf_types.specs.declared.records.RecKey.{RecKey}
use Rattle.plan_lang.specs.Sessions.{goes_in}
use Rattle.plan_lang.specs.declared.lines.Line.{Line}
use Rattle.plan_lang.specs.declared.lines.Line.TheVariants as line
use Rattle.rdf_core.specs.declared.replies.NoWhy.{NoWhy}
use Rattle.rdf_core.specs.declared.replies.Reply.{Reply}
use Rattle.rdf_core.specs.declared.replies.Reply.TheVariants.{Number}
use Rattle.rdf_core.specs.Backup.{Backup, with_up, backup_fallen}
use Rattle.rdf_core.specs.Effects.{after_parts, parts_unless, IsDone, IsCutOff, Whole, Cut}
use Rattle.rdf_core.specs.Layouts.{point_of}
use Rattle.rdf_core.specs.Lines.{refusal, parts, points_of, after, says, after_read, read_says, restarted}
use Rattle.rdf_core.specs.PartLaws.{map_parts, map_unless}
use Rattle.rdf_core.specs.Primary.{Primary, primary_parts, primary_fallen}
use Rattle.rdf_core.specs.Sessions.{Session, Closed, Refused, Open, Opened, has_halted, met_stop, is_backup_node, with_seen, with_cut}
use Rattle.by_node.specs.Each.{Each, at, with_at, at-with_at}
use Rattle.rdf_core.specs.State.{State, with_primary, with_backup, with_session, fallen}
use Rattle.rdf_core.specs.Step.{StepEnds}
use Rattle.rdf_system.proofs.PlaceLaws.{not_so, none_some}
use Rattle.rdf_system.proofs.Telling.{is_near, same_is}
use Rattle.rdf_core.specs.RowLaws.{of_backup, primary_did}
use Rattle.rdf_system.specs.NodeLines.{is_of_sender}
use Rattle.rdf_system.proofs.NearLines.{for_or_restart, near_sides, only_a}

-- ---- a line on the primary or on the sender's side

pub record Aside (s next : State) : Type 0 where
  pub backups : next.backups ≡ s.backups
  pub session : next.session ≡ s.session

same_aside : (s next : State) → next ≡ s → Aside s next
same_aside s next e = record { backups = ap (λ (x : State). x.backups) e; session = ap (λ (x : State). x.session) e }

done_aside : (s end next : State) (r : Option NoWhy) (say : Reply → Type 0) (reply : Reply) → end.backups ≡ s.backups → end.session ≡ s.session → IsDone r (λ why. s) end say reply next → Aside s next
done_aside s end next None say reply bs se d = record { backups = ap (λ (x : State). x.backups) d.1 ∙ bs; session = ap (λ (x : State). x.session) d.1 ∙ se }
done_aside s end next (Some why) say reply bs se d = same_aside s next d.1

-- cut off on the primary
cut_aside : (s next : State) (r : Option NoWhy) (ps : List Primary) (node : Node) (done : ℕ) (reply : Reply) → node ≡ A → IsCutOff node (fallen node) s r (map (with_primary s) ps) done reply next → Aside s next
cut_aside s next r ps node done reply e off = record { backups = ap (λ (x : State). x.backups) is; session = ap (λ (x : State). x.session) is }
  where
    is : next ≡ with_primary s (primary_fallen off.rise (after_parts s.primary (parts_unless r ps) done))
    is = off.leaves
        ∙ ap (λ (n : Node). fallen n off.rise (after_parts s (parts_unless r (map (with_primary s) ps)) done)) e
        ∙ ap (λ (xs : List State). fallen A off.rise (after_parts s xs done)) (map_unless (with_primary s) r ps)
        ∙ ap (λ (x : State). fallen A off.rise x) (map_parts (with_primary s) s.primary (parts_unless r ps) done)

no_node : {X : Type 0} (node : Node) → (let x : Option Node = None in x) ≡ Some node → X
no_node node e = none_some e

-- the primary alone changed
primary_aside : (s next : State) (a : Primary) → next ≡ with_primary s a → Aside s next
primary_aside s next a e = record { backups = ap (λ (x : State). x.backups) e; session = ap (λ (x : State). x.session) e }

restart_aside : (layout : Layout) (s : State) (reply : Reply) (next : State) → StepEnds layout s (line.Restart A) reply next → Aside s next
restart_aside layout s reply next (points, goes, Whole d) = done_aside s (restarted s (line.Restart A)) next (refusal layout s (line.Restart A)) (says layout points s (line.Restart A)) reply refl refl d
restart_aside layout s reply next (points, goes, Cut node used done off) = cut_aside s next (refusal layout s (line.Restart A)) (primary_parts s.primary (line.Restart A)) node done reply (only_a (line.Restart A) refl node used) off

sender_aside : (layout : Layout) (s : State) (l : Line) (reply : Reply) (next : State) → is_of_sender l ≡ true → StepEnds layout s l reply next → Aside s next
sender_aside layout s (line.Send of most) reply next e (points, goes, Whole d) = done_aside s (after layout points s (line.Send of most)) next (refusal layout s (line.Send of most)) (says layout points s (line.Send of most)) reply refl refl d
sender_aside layout s (line.Rewind of) reply next e (points, goes, Whole d) = done_aside s (after layout points s (line.Rewind of)) next (refusal layout s (line.Rewind of)) (says layout points s (line.Rewind of)) reply refl refl d
sender_aside layout s (line.Ack of) reply next e (points, goes, Whole d) = done_aside s (after layout points s (line.Ack of)) next (refusal layout s (line.Ack of)) (says layout points s (line.Ack of)) reply refl refl d
sender_aside layout s (line.Send of most) reply next e (points, goes, Cut node used done off) = no_node node used
sender_aside layout s (line.Rewind of) reply next e (points, goes, Cut node used done off) = no_node node used
sender_aside layout s (line.Ack of) reply next e (points, goes, Cut node used done off) = no_node node used
sender_aside layout s _ reply next e step = not_so e

pub near_aside : (layout : Layout) (s : State) (l : Line) (reply : Reply) (next : State) → is_near l ≡ true → StepEnds layout s l reply next → Aside s next
near_aside layout s l reply next e step =
    elim (near_sides l e) [
      | inl on ↦ elim (for_or_restart l on) [
        | inl h ↦ let did = primary_did layout s l reply next h step in primary_aside s next did.0 did.1
        | inr h ↦ restart_aside layout s reply next (subst (λ (k : Line). StepEnds layout s k reply next) h step)
      ]
      | inr of ↦ sender_aside layout s l reply next of step
    ]

-- ---- a line on the session's own node

-- the session before it is of the same node, and met as much
pub record WasOpen (s : State) (name : Node) : Type 0 where
  pub so_far : Opened
  pub is : s.session ≡ Open so_far
  pub of : so_far.node ≡ name
  pub fine : met_stop so_far ≡ false

pub record Stays (s next : State) (name : Node) : Type 0 where
  pub primary : next.primary ≡ s.primary
  pub backups : next.backups ≡ s.backups
  pub was : WasOpen s name

same_stays : (s next : State) (name : Node) → WasOpen next name → next ≡ s → Stays s next name
same_stays s next name was e = record { primary = ap (λ (x : State). x.primary) e; backups = ap (λ (x : State). x.backups) e; was = subst (λ (x : State). WasOpen x name) e was }

refused_stays : (s end next : State) (name : Node) (r : Option NoWhy) (say : Reply → Type 0) (reply : Reply) → WasOpen next name → (say reply → next ≡ end → Stays s next name) → IsDone r (λ why. s) end say reply next → Stays s next name
refused_stays s end next name None say reply was f d = f d.0 d.1
refused_stays s end next name (Some why) say reply was f d = same_stays s next name was d.1

-- a node that falls is down
fallen_down : (name : Node) (n : ℕ) (s : State) → is_backup_node name ≡ true → (at (fallen name n s).backups name).up ≡ false
fallen_down name n s e =
    ap (λ (x : State). (at x.backups name).up) (of_backup name (with_primary s (primary_fallen n s.primary)) (with_session (with_backup s name (backup_fallen n (at s.backups name))) (with_cut s.session name)) e)
    ∙ ap (λ (x : Backup). x.up) (at-with_at s.backups name (backup_fallen n (at s.backups name)))

down_at : (backups : Each Backup) (name : Node) (b : Backup) → (at (with_at backups name (with_up b false)) name).up ≡ false
down_at backups name b = ap (λ (x : Backup). x.up) (at-with_at backups name (with_up b false))

module _ (layout : Layout) (s next : State) (name : Node) (placed : is_backup_node name ≡ true) (reply : Reply) (uncounted : (n : ℕ) → reply ≡ Number n → ⊥) (was : WasOpen next name) (up : (at next.backups name).up ≡ true) where
  cut_never : {X : Type 0} (node of : Node) (rise : ℕ) (x : State) → (let o : Option Node = Some of in o) ≡ Some node → of ≡ name → next ≡ fallen node rise x → X
  cut_never node of rise x e f is = not_so (sym (ap (λ (y : State). (at y.backups name).up) (is ∙ ap (λ (n : Node). fallen n rise x) (same e ∙ f)) ∙ fallen_down name rise x placed) ∙ up)
    where
      same : (let o : Option Node = Some of in o) ≡ Some node → node ≡ of
      same g = cc

  read_stays : (key : RecKey) (session : Session) → s.session ≡ session → read_says layout s key session reply → next ≡ after_read layout s key session → Stays s next name
  read_stays key Closed e say is = absurd say
  read_stays key (Refused node why) e say is = absurd say
  read_stays key (Open o) e say is = go (has_halted o key.vol) is
    where
      go : (b : Bool) → next ≡ (if b then with_backup s o.node (with_up (at s.backups o.node) false) else with_session s (Open (with_seen o key.vol (point_of (points_of layout s o) key.vol)))) → Stays s next name
      go true f = not_so (sym (ap (λ (y : State). (at y.backups name).up) f ∙ subst (λ (n : Node). (at (with_at s.backups o.node (with_up (at s.backups o.node) false)) n).up ≡ false) named (down_at s.backups o.node (at s.backups o.node))) ∙ up)
        where
          named : o.node ≡ name
          named = ap (λ (p : Opened). p.node) (same (sym (ap (λ (y : State). y.session) f ∙ e) ∙ was.is)) ∙ was.of
            where
              same : Open o ≡ Open was.so_far → o ≡ was.so_far
              same g = cc
      go false f = record {
        primary = ap (λ (y : State). y.primary) f;
        backups = ap (λ (y : State). y.backups) f;
        was = record { so_far = o; is = e; of = ap (λ (p : Opened). p.node) seen ∙ was.of; fine = ap (λ (p : Opened). met_stop p) seen ∙ was.fine };
      }
        where
          same : Open (with_seen o key.vol (point_of (points_of layout s o) key.vol)) ≡ Open was.so_far → with_seen o key.vol (point_of (points_of layout s o) key.vol) ≡ was.so_far
          same g = cc

          seen : with_seen o key.vol (point_of (points_of layout s o) key.vol) ≡ was.so_far
          seen = same (sym (ap (λ (y : State). y.session) f) ∙ was.is)

  pub own_stays : (l : Line) → goes_in name l ≡ true → is_near l ≡ false → l ≢ line.End → StepEnds layout s l reply next → Stays s next name
  own_stays (line.Deliver node k) e n ne (points, goes, Whole d) = refused_stays s (after layout points s (line.Deliver node k)) next name (refusal layout s (line.Deliver node k)) (says layout points s (line.Deliver node k)) reply was (λ say is. absurd (uncounted _ say)) d
  own_stays (line.Purge node) e n ne (points, goes, Whole d) = refused_stays s (after layout points s (line.Purge node)) next name (refusal layout s (line.Purge node)) (says layout points s (line.Purge node)) reply was (λ say is. absurd (uncounted _ say)) d
  own_stays (line.Read node key) e n ne (points, goes, Whole d) = refused_stays s (after layout points s (line.Read node key)) next name (refusal layout s (line.Read node key)) (says layout points s (line.Read node key)) reply was (λ say is. read_stays key s.session refl say is) d
  own_stays (line.Deliver node k) e n ne (points, goes, Cut of used done off) = cut_never of node off.rise (after_parts s (parts_unless (refusal layout s (line.Deliver node k)) (parts layout points s (line.Deliver node k))) done) used (sym (same_is name node e)) off.leaves
  own_stays (line.Purge node) e n ne (points, goes, Cut of used done off) = cut_never of node off.rise (after_parts s (parts_unless (refusal layout s (line.Purge node)) (parts layout points s (line.Purge node))) done) used (sym (same_is name node e)) off.leaves
  own_stays (line.Read node key) e n ne (points, goes, Cut of used done off) = no_node of used
  own_stays line.End e n ne step = absurd (ne refl)
  own_stays _ e n ne step = cc
