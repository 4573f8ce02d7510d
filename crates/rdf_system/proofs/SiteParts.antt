-- The lines that change one backup alone: whose disks they use, their durable parts, and what these leave of the backup.
use Rattle.std.proofs.Common.{◌≡◌, ◌≢◌, ◌⊎◌, inl, inr, ℕ, ◌-◌, Bool, true, false, nat_lt, List, [], ◌∷◌, map, Option, Some, None, if◌then◌else◌, refl, sym, ap, ◌∙◌, subst}
use Rattle.rdf_types.specs.declared.layout.Layout.{Layout}
use Rattle.rdf_types.specs.declared.records.Node.{Node}
use Rattle.rdf_types.specs.declared.records.Node.TheVariants.{B}
use Rattle.plan_lang.specs.declared.lines.Line.{Line}
use Rattle.plan_lang.specs.declared.lines.Line.TheVariants as line
use Rattle.plan_lang.specs.Sessions.{fits_session}
use Rattle.plan_lang.specs.LineText.{same_node}
use Rattle.rdf_core.specs.declared.replies.NoWhy.{NoWhy}
use Rattle.rdf_core.specs.declared.replies.Reply.{Reply}
use Rattle.rdf_core.specs.declared.replies.Reply.TheVariants.{Stopped}
use Rattle.rdf_core.specs.Backup.{Backup, Around, backup_refusal, backup_parts, backup_after, backup_says, is_due, rolled, store_parts, stores_parts, ends, marks, with_volumes, drops, floor_of}
use Rattle.rdf_core.specs.Effects.{after_parts, after_all, parts_unless, IsDone}
use Rattle.rdf_core.specs.Lines.{refusal, parts}
use Rattle.rdf_core.specs.Happens.{points_for, parts_of}
use Rattle.rdf_core.specs.Sessions.{is_backup_node}
use Rattle.by_node.specs.Each.{at}
use Rattle.rdf_core.specs.State.{State, with_backup}
use Rattle.rdf_core.specs.Step.{disks_of, is_for_backup, is_of_session}
use Rattle.rdf_core.specs.PartLaws.{Every, every_parts, every_all, every_append, every_image, map_unless}
use Rattle.rdf_backup.specs.Replies.{parts_of as backup_parts_of}
use Rattle.rdf_system.specs.declared.session.SessionState.{SessionState}
use Rattle.rdf_system.specs.declared.session.SessionState.TheVariants as system
use Rattle.rdf_system.specs.Sessions.{node_of, used_by}
use Rattle.rdf_system.specs.NodeLines.{is_of_backup}
use Rattle.rdf_system.specs.Noting.{noted, behind}
use Rattle.rdf_system.proofs.OnSite.{IsOwnFuse, about}
use Rattle.rdf_system.proofs.PlaceLaws.{not_so}
use Rattle.rdf_core.specs.SessionLaws.{node_same, same_self}
use Rattle.rdf_system.proofs.Telling.{only_used}
use Rattle.rdf_core.specs.StopLaws.{backup_unstopped, done_unstopped}
use Rattle.rdf_core.specs.RowLaws.{backup_refused, backup_row}
use Rattle.rdf_core.specs.Rule.{Rule}

-- the lines, by the name that they have

pub uses : (name : Node) (l : Line) → is_of_backup name l → (disks_of l ≡ Some name) ⊎ (disks_of l ≡ None)
uses name (line.Deliver node n) e = inl (ap (λ (x : Node). Some x) e)
uses name (line.Takeover node) e = inl (ap (λ (x : Node). Some x) e)
uses name (line.List node vol) e = inl (ap (λ (x : Node). Some x) e)
uses name (line.Info node) e = inr refl
uses name (line.Status node) e = inr refl
uses name (line.Fuse node disk calls tear) e = inr refl
uses name (line.Cut node) e = inr refl
uses name (line.Purge node) e = inl (ap (λ (x : Node). Some x) e)
uses name (line.Restart node) e = inl (ap (λ (x : Node). Some x) e)
uses name (line.CopyAudit node from) e = inl (ap (λ (x : Node). Some x) e)
uses name _ e = absurd e

pub for_backup : (name : Node) (l : Line) → is_of_backup name l → is_for_backup name l ≡ true
for_backup name (line.Deliver node n) e = ap (λ (x : Node). same_node name x) e ∙ same_self name
for_backup name (line.Takeover node) e = ap (λ (x : Node). same_node name x) e ∙ same_self name
for_backup name (line.List node vol) e = ap (λ (x : Node). same_node name x) e ∙ same_self name
for_backup name (line.Info node) e = ap (λ (x : Node). same_node name x) e ∙ same_self name
for_backup name (line.Status node) e = ap (λ (x : Node). same_node name x) e ∙ same_self name
for_backup name (line.Fuse node disk calls tear) e = ap (λ (x : Node). same_node name x) e ∙ same_self name
for_backup name (line.Cut node) e = ap (λ (x : Node). same_node name x) e ∙ same_self name
for_backup name (line.Purge node) e = ap (λ (x : Node). same_node name x) e ∙ same_self name
for_backup name (line.Restart node) e = ap (λ (x : Node). same_node name x) e ∙ same_self name
for_backup name (line.CopyAudit node from) e = ap (λ (x : Node). same_node name x) e ∙ same_self name
for_backup name _ e = absurd e

pub own_fuse : (name : Node) (l : Line) → is_of_backup name l → IsOwnFuse name l
own_fuse name (line.Fuse node disk calls tear) e = e
own_fuse name _ e = tt

pub used_of : (session : SessionState) (name : Node) (l : Line) → is_of_backup name l → used_by session l ≡ disks_of l
used_of session name (line.Read node key) e = absurd e
used_of session name line.End e = absurd e
used_of session name _ e = refl

pub no_end : (name : Node) (l : Line) → is_of_backup name l → l ≡ line.End → ⊥
no_end name l e f = subst (λ (x : Line). is_of_backup name x) f e

pub behind_is : (session : SessionState) (name : Node) (l : Line) (reply : Reply) → is_of_backup name l → behind session l reply ≡ noted session reply
behind_is session name (line.Session node) reply e = absurd e
behind_is session name line.End reply e = absurd e
behind_is session name _ reply e = refl

pub only_name : (name : Node) (l : Line) → is_of_backup name l → (node : Node) → disks_of l ≡ Some node → node ≡ name
only_name name l on = only_used name (disks_of l) (uses name l on)

module _ (layout : Layout) (s : State) (name : Node) (l : Line) (backup : is_backup_node name ≡ true) (on : is_of_backup name l) where
  -- what refuses the line is what refuses it on the backup
  pub lifted_refusal : refusal layout s l ≡ backup_refusal layout (about layout s l) (at s.backups name) l
  lifted_refusal = backup_refused layout (points_for layout s l) s l name backup (for_backup name l on)

  -- the durable parts of the line are those of the backup
  pub lifted_parts : parts_of layout s l ≡ map (with_backup s name) (backup_parts_of layout (about layout s l) (at s.backups name) l)
  lifted_parts =
      ap (λ (o : Option NoWhy). parts_unless o (parts layout (points_for layout s l) s l)) lifted_refusal
      ∙ ap (λ (r : Rule State). parts_unless (backup_refusal layout (about layout s l) (at s.backups name) l) r.parts) (backup_row layout (points_for layout s l) s name backup l (for_backup name l on))
      ∙ map_unless (with_backup s name) (backup_refusal layout (about layout s l) (at s.backups name) l) (backup_parts layout (about layout s l) (at s.backups name) l)

-- a store of a message changes neither of these
module _ (P : Backup → Type 0) (keeps : (b : Backup) (received number : ℕ) (starts : List ℕ) → P b → P (record b { received = received; number = number; starts = starts })) where
  kept_store : (layout : Layout) (to : ℕ) (b : Backup) → P b → Every P (store_parts layout to b)
  kept_store layout to b h = go (nat_lt b.received to) (is_due layout b)
    where
      go : (less due : Bool) → Every P (if less then (if due then rolled b ∷ record (rolled b) { received = to } ∷ [] else record b { received = to } ∷ []) else [])
      go true true = (keeps b (rolled b).received (rolled b).number (rolled b).starts h, (keeps b to (rolled b).number (rolled b).starts h, tt))
      go true false = (keeps b to b.number b.starts h, tt)
      go false due = tt

  kept_stores : (layout : Layout) (tos : List ℕ) (b : Backup) → P b → Every P (stores_parts layout tos b)
  kept_stores layout [] b h = tt
  kept_stores layout (to ∷ tos) b h = every_append P (store_parts layout to b) (stores_parts layout tos (after_all b (store_parts layout to b))) (kept_store layout to b h)
      (kept_stores layout tos (after_all b (store_parts layout to b)) (every_all P b (store_parts layout to b) h (kept_store layout to b h)))

  kept_deliver : (layout : Layout) (message : Option (ℕ × ℕ)) (b : Backup) (w : Around) → P b → Every P (backup_parts layout (record w { message = message }) b (line.Deliver B 0))
  kept_deliver layout None b w h = tt
  kept_deliver layout (Some range) b w h = kept_store layout range.1 b h

  kept_purge : (layout : Layout) (w : Around) (b : Backup) (node : Node) → P b → Every P (backup_parts layout w b (line.Purge node))
  kept_purge layout w b node h = every_image P (λ (starts : List ℕ). record b { starts = starts }) (drops layout.retain (floor_of layout w.trail w.points b) b.starts) (λ starts. keeps b b.received b.number starts h)

-- none of the parts counts a stop

parts_stop : (layout : Layout) (w : Around) (b : Backup) (l : Line) → Every (λ (x : Backup). x.stops ≡ b.stops) (backup_parts layout w b l)
parts_stop layout w b (line.Deliver node k) = kept_deliver (λ (x : Backup). x.stops ≡ b.stops) (λ x received number starts h. h) layout w.message b w refl
parts_stop layout w b (line.Takeover node) = every_image (λ (x : Backup). x.stops ≡ b.stops) (with_volumes b) (marks b.received b.volumes) (λ v. refl)
parts_stop layout w b (line.CopyAudit node from) = kept_stores (λ (x : Backup). x.stops ≡ b.stops) (λ x received number starts h. h) layout (ends (w.lead.received - b.received) b.received w.lead.received) b refl
parts_stop layout w b (line.Purge node) = kept_purge (λ (x : Backup). x.stops ≡ b.stops) (λ x received number starts h. h) layout w b node refl
parts_stop layout w b _ = tt

pub after_stop : (layout : Layout) (w : Around) (b : Backup) (l : Line) (done : ℕ) → (after_parts b (backup_parts_of layout w b l) done).stops ≡ b.stops
after_stop layout w b l done = every_parts (λ (x : Backup). x.stops ≡ b.stops) b (backup_parts_of layout w b l) done refl (unless (backup_refusal layout w b l))
  where
    unless : (r : Option NoWhy) → Every (λ (x : Backup). x.stops ≡ b.stops) (parts_unless r (backup_parts layout w b l))
    unless None = parts_stop layout w b l
    unless (Some why) = tt

-- in a session the backup stays up and in Running

-- the same up and the same volumes
pub record StaysOn (b x : Backup) : Type 0 where
  pub up : x.up ≡ b.up
  pub volumes : x.volumes ≡ b.volumes

stay_self : (b : Backup) → StaysOn b b
stay_self b = record { up = refl; volumes = refl }

parts_on : (layout : Layout) (w : Around) (b : Backup) (l : Line) → is_of_session l ≡ true → Every (StaysOn b) (backup_parts layout w b l)
parts_on layout w b (line.Deliver node k) e = kept_deliver (StaysOn b) (λ x received number starts h. record { up = h.up; volumes = h.volumes }) layout w.message b w (stay_self b)
parts_on layout w b (line.Purge node) e = kept_purge (StaysOn b) (λ x received number starts h. record { up = h.up; volumes = h.volumes }) layout w b node (stay_self b)
parts_on layout w b _ e = not_so e

pub after_on : (layout : Layout) (w : Around) (b : Backup) (l : Line) → is_of_session l ≡ true → (done : ℕ) → StaysOn b (after_parts b (backup_parts_of layout w b l) done)
after_on layout w b l e done = every_parts (StaysOn b) b (backup_parts_of layout w b l) done (stay_self b) (unless (backup_refusal layout w b l))
  where
    unless : (r : Option NoWhy) → Every (StaysOn b) (parts_unless r (backup_parts layout w b l))
    unless None = parts_on layout w b l e
    unless (Some why) = tt

all_on : (layout : Layout) (w : Around) (b : Backup) (l : Line) → is_of_session l ≡ true → StaysOn b (backup_after layout w b l)
all_on layout w b (line.Deliver node k) e = every_all (StaysOn b) b (backup_parts layout w b (line.Deliver node k)) (stay_self b) (parts_on layout w b (line.Deliver node k) e)
all_on layout w b (line.Purge node) e = every_all (StaysOn b) b (backup_parts layout w b (line.Purge node)) (stay_self b) (parts_on layout w b (line.Purge node) e)
all_on layout w b _ e = not_so e

pub done_on : (layout : Layout) (w : Around) (b : Backup) (l : Line) (reply : Reply) (new : Backup) → is_of_session l ≡ true → IsDone (backup_refusal layout w b l) (λ why. b) (backup_after layout w b l) (backup_says layout w b l) reply new → StaysOn b new
done_on layout w b l reply new e = go (backup_refusal layout w b l)
  where
    go : (r : Option NoWhy) → IsDone r (λ why. b) (backup_after layout w b l) (backup_says layout w b l) reply new → StaysOn b new
    go None d = subst (λ (x : Backup). StaysOn b x) (sym d.1) (all_on layout w b l e)
    go (Some why) d = subst (λ (x : Backup). StaysOn b x) (sym d.1) (stay_self b)

-- a line that is refused or done is not told to have stopped

pub done_no_stop : (layout : Layout) (w : Around) (b : Backup) (l : Line) (reply : Reply) (new : Backup) → IsDone (backup_refusal layout w b l) (λ why. b) (backup_after layout w b l) (backup_says layout w b l) reply new → (node : Node) → reply ≢ Stopped node
done_no_stop layout w b l reply new = done_unstopped (backup_refusal layout w b l) (λ why. b) (backup_after layout w b l) (backup_says layout w b l) reply new (backup_unstopped layout w b l)

-- where a line may stand

-- no session is open, or it is of this backup and the line is one for it
abbrev pub Stays : SessionState → Node → Line → Type 0
Stays session name l = (session ≡ system.Closed) ⊎ ((is_of_session l ≡ true) × (node_of session ≡ Some name))

in_it : (session : SessionState) (of name : Node) (l : Line) → node_of session ≡ Some of → is_of_backup name l → fits_session (Some of) l ≡ true → Stays session name l
in_it session of name (line.Deliver node k) s on e = inr (refl, s ∙ ap (λ (x : Node). Some x) (node_same of node e ∙ on))
in_it session of name (line.Purge node) s on e = inr (refl, s ∙ ap (λ (x : Node). Some x) (node_same of node e ∙ on))
in_it session of name (line.Takeover node) s on e = not_so e
in_it session of name (line.List node vol) s on e = not_so e
in_it session of name (line.Info node) s on e = not_so e
in_it session of name (line.Status node) s on e = not_so e
in_it session of name (line.Fuse node disk calls tear) s on e = not_so e
in_it session of name (line.Cut node) s on e = not_so e
in_it session of name (line.Restart node) s on e = not_so e
in_it session of name (line.CopyAudit node from) s on e = not_so e
in_it session of name _ s on e = absurd on

pub stays : (session : SessionState) (name : Node) (l : Line) → is_of_backup name l → fits_session (node_of session) l ≡ true → Stays session name l
stays system.Closed name l on e = inl refl
stays (system.Refused of why) name l on e = in_it (system.Refused of why) of name l refl on e
stays (system.Open of stopped) name l on e = in_it (system.Open of stopped) of name l refl on e
