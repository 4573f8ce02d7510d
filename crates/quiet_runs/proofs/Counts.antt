-- Which steps leave each node's count of stops as it is, and which raise one.
use Rattle.std.proofs.Common.{◌≡◌, ℕ, ◌+◌, ◌-◌, ◌<◌, true, false, nat_lt, inl, inr, List, [], ◌∷◌, drop, length, map, Option, Some, None, if◌then◌else◌, refl, sym, ap, ◌∙◌, subst, arith}
use Rattle.rdf_types.specs.declared.layout.Layout.{Layout}
use Rattle.rdf_types.specs.declared.records.Node.{Node}
use Rattle.rdf_types.specs.declared.records.Node.TheVariants.{A, B, C}
use Rattle.rdf_types.specs.declared.records.RecKey.{RecKey}
use Rattle.rdf_types.specs.declared.records.Record.{Record}
use Rattle.plan_lang.specs.declared.lines.Line.{Line}
use Rattle.plan_lang.specs.declared.lines.Line.TheVariants as line
use Rattle.rdf_core.specs.GrowthLaws.{after_stops}
use Rattle.rdf_core.specs.declared.replies.NoWhy.{NoWhy}
use Rattle.rdf_core.specs.declared.replies.Reply.{Reply}
use Rattle.rdf_core.specs.Effects.{after_parts, after_all, parts_unless, count_u64, IsDone}
use Rattle.rdf_core.specs.Layouts.{point_of, points_at}
use Rattle.rdf_core.specs.Primary.{Primary, primary_after, primary_parts, trail_after, grown, with_record}
use Rattle.rdf_core.specs.Backup.{Backup, with_volumes, with_up, marks, ends, drops, floor_of, is_due, rolled, stored, store_parts, stores_parts, deliver_parts, purge_parts, takeover_parts, copy_parts}
use Rattle.rdf_core.specs.Sessions.{Session, Closed, Refused, Open, has_halted, is_backup_node, met_stop, with_seen, with_halt}
use Rattle.by_node.specs.Each.{at, at-with_at, with_at-keeps}
use Rattle.rdf_core.specs.State.{State, with_primary, with_backup, with_session, fallen}
use Rattle.rdf_core.specs.Lines.{refusal, kept, message, parts, after, says, after_read, after_end, points_of, with_points}
use Rattle.rdf_core.specs.Step.{CanHalt, halted_backup, moved_backup, after_apply, after_halt}
use Rattle.rdf_core.specs.PartLaws.{Every, every_parts, every_all, every_append, every_map, every_image, refused_or_done}
use Rattle.quiet_runs.specs.Quiet.{NoneStopped}

-- each node's count is the same
pub record SameStops (old new : State) : Type 0 where
  pub primary : new.primary.stops ≡ old.primary.stops
  pub backups : (node : Node) → (at new.backups node).stops ≡ (at old.backups node).stops

pub same_itself : (s : State) → SameStops s s
same_itself s = record { primary = refl; backups = λ node. refl }

pub same_then : (old mid new : State) → SameStops old mid → SameStops mid new → SameStops old new
same_then old mid new g h = record { primary = h.primary ∙ g.primary; backups = λ node. h.backups node ∙ g.backups node }

pub none_back : (old new : State) → SameStops old new → NoneStopped new → NoneStopped old
none_back old new g n = record { primary = sym g.primary ∙ n.primary; backups = λ node backup. sym (g.backups node) ∙ n.backups node backup }

pub none_on : (old new : State) → SameStops old new → NoneStopped old → NoneStopped new
none_on old new g n = record { primary = g.primary ∙ n.primary; backups = λ node backup. g.backups node ∙ n.backups node backup }

same_backup : (s : State) (node : Node) (x : Backup) → x.stops ≡ (at s.backups node).stops → SameStops s (with_backup s node x)
same_backup s node x e = record { primary = refl; backups = with_at-keeps (λ of (b : Backup). b.stops ≡ (at s.backups of).stops) s.backups node x (λ of. refl) e }

same_primary : (s : State) (x : Primary) → x.stops ≡ s.primary.stops → SameStops s (with_primary s x)
same_primary s x e = record { primary = e; backups = λ node. refl }

-- durable parts

abbrev Still : Backup → Backup → Type 0
Still first b = b.stops ≡ first.stops

-- what a new generation and a block keep, each part of a delivery and of a copy has
module _ (P : Backup → Type 0) (rolls : (b : Backup) → P b → P (rolled b)) (stores : (b : Backup) (to : ℕ) → P b → P (stored to b)) where
  store_keeps : (layout : Layout) (b : Backup) (to : ℕ) → P b → Every P (store_parts layout to b)
  store_keeps layout b to h =
      elim (nat_lt b.received to) as (λ m. Every P (if m then (if is_due layout b then rolled b ∷ stored to (rolled b) ∷ [] else stored to b ∷ []) else [])) [
        | true ↦ elim (is_due layout b) as (λ m. Every P (if m then rolled b ∷ stored to (rolled b) ∷ [] else stored to b ∷ [])) [
          | true ↦ (rolls b h, (stores (rolled b) to (rolls b h), tt))
          | false ↦ (stores b to h, tt)
        ]
        | false ↦ tt
      ]

  stores_keep : (layout : Layout) (tos : List ℕ) (b : Backup) → P b → Every P (stores_parts layout tos b)
  stores_keep layout [] b h = tt
  stores_keep layout (to ∷ more) b h =
      every_append P (store_parts layout to b) (stores_parts layout more (after_all b (store_parts layout to b))) (store_keeps layout b to h)
      (stores_keep layout more (after_all b (store_parts layout to b)) (every_all P b (store_parts layout to b) h (store_keeps layout b to h)))

  pub deliver_keeps : (layout : Layout) (b : Backup) (m : Option (ℕ × ℕ)) → P b → Every P (deliver_parts layout m b)
  deliver_keeps layout b None h = tt
  deliver_keeps layout b (Some range) h = store_keeps layout b range.1 h

  pub copy_keeps : (layout : Layout) (b lead : Backup) → P b → Every P (copy_parts layout b lead)
  copy_keeps layout b lead h = stores_keep layout (ends (lead.received - b.received) b.received lead.received) b h

deliver_still : (layout : Layout) (b : Backup) (m : Option (ℕ × ℕ)) → Every (Still b) (deliver_parts layout m b)
deliver_still layout b m = deliver_keeps (Still b) (λ x h. h) (λ x to h. h) layout b m refl

copy_still : (layout : Layout) (b lead : Backup) → Every (Still b) (copy_parts layout b lead)
copy_still layout b lead = copy_keeps (Still b) (λ x h. h) (λ x to h. h) layout b lead refl

purge_still : (layout : Layout) (trail : List Record) (points : List ℕ) (b : Backup) → Every (Still b) (purge_parts layout trail points b)
purge_still layout trail points b = every_image (Still b) (λ starts. record b { starts = starts }) (drops layout.retain (floor_of layout trail points b) b.starts) (λ starts. refl)

takeover_still : (b : Backup) → Every (Still b) (takeover_parts b)
takeover_still b = every_image (Still b) (with_volumes b) (marks b.received b.volumes) (λ v. refl)

grown_still : (first a : Primary) (rs : List Record) → a.stops ≡ first.stops → Every (λ (x : Primary). x.stops ≡ first.stops) (grown a rs)
grown_still first a [] e = tt
grown_still first a (r ∷ rest) e = (e, grown_still first (with_record a r) rest e)

-- each part of a line on a backup
each_same : (s : State) (node : Node) (xs : List Backup) → Every (Still (at s.backups node)) xs → Every (SameStops s) (map (with_backup s node) xs)
each_same s node xs e = every_map (Still (at s.backups node)) (SameStops s) (with_backup s node) xs (same_backup s node) e

-- the whole of them
whole_same : (s : State) (node : Node) (xs : List Backup) → Every (Still (at s.backups node)) xs → SameStops s (with_backup s node (after_all (at s.backups node) xs))
whole_same s node xs e = same_backup s node (after_all (at s.backups node) xs) (every_all (Still (at s.backups node)) (at s.backups node) xs refl e)

primary_same : (s : State) (l : Line) → Every (SameStops s) (map (with_primary s) (primary_parts s.primary l))
primary_same s l = every_map (λ (x : Primary). x.stops ≡ s.primary.stops) (SameStops s) (with_primary s) (primary_parts s.primary l) (same_primary s)
    (grown_still s.primary s.primary (drop (length s.primary.trail) (trail_after s.primary.trail l)) refl)

parts_same : (layout : Layout) (points : List ℕ) (s : State) (l : Line) → Every (SameStops s) (parts layout points s l)
parts_same layout points s (line.Deliver node k) = each_same s node (deliver_parts layout (message s node k) (at s.backups node)) (deliver_still layout (at s.backups node) (message s node k))
parts_same layout points s (line.Purge node) = each_same s node (purge_parts layout s.primary.trail points (at s.backups node)) (purge_still layout s.primary.trail points (at s.backups node))
parts_same layout points s (line.Takeover node) = each_same s node (takeover_parts (at s.backups node)) (takeover_still (at s.backups node))
parts_same layout points s (line.CopyAudit node from) = each_same s node (copy_parts layout (at s.backups node) (at s.backups from)) (copy_still layout (at s.backups node) (at s.backups from))
parts_same layout points s (line.List A vol) = primary_same s (line.List A vol)
parts_same layout points s (line.List node vol) = tt
parts_same layout points s (line.Restart A) = primary_same s (line.Restart A)
parts_same layout points s (line.Restart node) = tt
parts_same layout points s (line.Session node) = tt
parts_same layout points s (line.Info node) = tt
parts_same layout points s (line.Status B) = tt
parts_same layout points s (line.Status C) = tt
parts_same layout points s (line.Fuse B disk calls tear) = tt
parts_same layout points s (line.Fuse C disk calls tear) = tt
parts_same layout points s (line.Cut B) = tt
parts_same layout points s (line.Cut C) = tt
parts_same layout points s l = primary_same s l

-- whole lines

read_same : (layout : Layout) (s : State) (key : RecKey) (session : Session) → SameStops s (after_read layout s key session)
read_same layout s key Closed = same_itself s
read_same layout s key (Refused of why) = same_itself s
read_same layout s key (Open o) =
    elim (has_halted o key.vol) as (λ m. SameStops s (if m then with_backup s o.node (with_up (at s.backups o.node) false) else with_session s (Open (with_seen o key.vol (point_of (points_of layout s o) key.vol))))) [
      | true ↦ same_backup s o.node (with_up (at s.backups o.node) false) refl
      | false ↦ record { primary = refl; backups = λ node. refl }
    ]

closed_same : (s new : State) → SameStops s new → SameStops s (with_session new Closed)
closed_same s new g = record { primary = g.primary; backups = g.backups }

end_same : (layout : Layout) (s : State) (session : Session) → SameStops s (after_end layout s session)
end_same layout s Closed = same_itself s
end_same layout s (Refused of why) = same_itself s
end_same layout s (Open o) =
    elim (met_stop o) as (λ m. SameStops s (if m then with_session (with_backup s o.node (with_up (at s.backups o.node) false)) Closed else with_session (with_backup s o.node (with_points (at s.backups o.node) (points_at layout (at s.backups o.node).received))) Closed)) [
      | true ↦ closed_same s (with_backup s o.node (with_up (at s.backups o.node) false)) (same_backup s o.node (with_up (at s.backups o.node) false) refl)
      | false ↦ closed_same s (with_backup s o.node (with_points (at s.backups o.node) (points_at layout (at s.backups o.node).received)))
          (same_backup s o.node (with_points (at s.backups o.node) (points_at layout (at s.backups o.node).received)) refl)
    ]

after_same : (layout : Layout) (points : List ℕ) (s : State) (l : Line) → SameStops s (after layout points s l)
after_same layout points s (line.Send node most) = record { primary = refl; backups = λ node. refl }
after_same layout points s (line.Rewind node) = record { primary = refl; backups = λ node. refl }
after_same layout points s (line.Ack node) = record { primary = refl; backups = λ node. refl }
after_same layout points s (line.Deliver node k) = whole_same s node (deliver_parts layout (message s node k) (at s.backups node)) (deliver_still layout (at s.backups node) (message s node k))
after_same layout points s (line.Session node) = record { primary = refl; backups = λ node. refl }
after_same layout points s (line.Read node key) = read_same layout s key s.session
after_same layout points s (line.Purge node) = whole_same s node (purge_parts layout s.primary.trail points (at s.backups node)) (purge_still layout s.primary.trail points (at s.backups node))
after_same layout points s line.End = end_same layout s s.session
after_same layout points s (line.Takeover node) = whole_same s node (takeover_parts (at s.backups node)) (takeover_still (at s.backups node))
after_same layout points s (line.CopyAudit node from) = whole_same s node (copy_parts layout (at s.backups node) (at s.backups from)) (copy_still layout (at s.backups node) (at s.backups from))
after_same layout points s (line.List node vol) = same_itself s
after_same layout points s (line.Info node) = same_itself s
after_same layout points s (line.Status node) = same_itself s
after_same layout points s (line.Fuse node disk calls tear) = same_itself s
after_same layout points s (line.Cut A) = same_primary s (primary_after s.primary (line.Cut A)) refl
after_same layout points s (line.Cut node) = same_backup s node (with_up (at s.backups node) false) refl
after_same layout points s (line.Restart A) = record { primary = refl; backups = λ node. refl }
after_same layout points s (line.Restart node) = same_backup s node (with_up (at s.backups node) true) refl
after_same layout points s l = same_primary s (primary_after s.primary l) (after_stops s.primary l)

kept_same : (s : State) (l : Line) (why : NoWhy) → SameStops s (kept s l why)
kept_same s (line.Session node) why = record { primary = refl; backups = λ node. refl }
kept_same s line.End why = record { primary = refl; backups = λ node. refl }
kept_same s _ why = same_itself s

pub done_same : (layout : Layout) (points : List ℕ) (old : State) (l : Line) (reply : Reply) (new : State) →
    IsDone (refusal layout old l) (kept old l) (after layout points old l) (says layout points old l) reply new → SameStops old new
done_same layout points old l reply new d =
    elim (refused_or_done (refusal layout old l) (kept old l) (after layout points old l) (says layout points old l) reply new d) [
      | inl ref ↦ subst (SameStops old) (sym ref.2) (kept_same old l ref.0)
      | inr did ↦ subst (SameStops old) (sym did.2) (after_same layout points old l)
    ]

-- between lines

pub apply_same : (s : State) (session : Session) (vol upto : ℕ) → SameStops s (after_apply s session vol upto)
apply_same s Closed vol upto = same_itself s
apply_same s (Refused of why) vol upto = same_itself s
apply_same s (Open o) vol upto = same_backup s o.node (moved_backup (at s.backups o.node) vol upto) refl

-- stops

counted : (n rise : ℕ) → 0 < rise → count_u64 (n + rise) ≡ 0 → ⊥
counted n rise up e = grind (arith, up, e)

pub fallen_counts : (node : Node) (s : State) (rise : ℕ) → 0 < rise → NoneStopped (fallen node rise s) → ⊥
fallen_counts A s rise up n = counted s.primary.stops rise up n.primary
fallen_counts B s rise up n = counted (at s.backups B).stops rise up (n.backups B refl)
fallen_counts C s rise up n = counted (at s.backups C).stops rise up (n.backups C refl)

halted_counts : (node : Node) (s : State) (session : Session) (rise : ℕ) → is_backup_node node ≡ true → 0 < rise → NoneStopped (with_session (with_backup s node (halted_backup rise (at s.backups node))) session) → ⊥
halted_counts node s session rise backup up n =
    counted (at s.backups node).stops rise up (sym (ap (λ (b : Backup). b.stops) (at-with_at s.backups node (halted_backup rise (at s.backups node)))) ∙ n.backups node backup)

pub halt_counts : (layout : Layout) (s : State) (session : Session) (rise vol : ℕ) → 0 < rise → CanHalt layout session vol → NoneStopped (after_halt rise s session vol) → ⊥
halt_counts layout s Closed rise vol up can n = absurd can
halt_counts layout s (Refused of why) rise vol up can n = absurd can
halt_counts layout s (Open o) rise vol up can n = halted_counts o.node s (Open (with_halt o vol)) rise can.2 up n

-- where a stop cuts a line off, none of its parts counts stops
pub cut_same : (layout : Layout) (points : List ℕ) (s : State) (l : Line) (r : Option NoWhy) (done : ℕ) → SameStops s (after_parts s (parts_unless r (parts layout points s l)) done)
cut_same layout points s l None done = every_parts (SameStops s) s (parts layout points s l) done (same_itself s) (parts_same layout points s l)
cut_same layout points s l (Some why) done = same_itself s
