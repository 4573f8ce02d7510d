-- The refusals, replies and durable parts of lines on a backup.
use Rattle.std.proofs.Common.{◌≡◌, ◌≢◌, ℕ, ◌-◌, ◌<◌, ◌≤◌, Bool, true, false, not, ◌==◌, nat_lt, List, [], ◌∷◌, Option, Some, None, if◌then◌else◌, refl, sym, ap, ◌∙◌, subst, arith}
use Rattle.std.specs.Prelude.{unwrap_or}
use Rattle.std.proofs.lemmas.Bool.Decides.{nat_tests}
use Rattle.rdf_types.specs.declared.layout.Layout.{Layout}
use Rattle.rdf_types.specs.declared.records.Node.{Node}
use Rattle.rdf_types.specs.declared.records.Phase.{Phase}
use Rattle.rdf_types.specs.declared.records.Phase.TheVariants as phase
use Rattle.rdf_disk.specs.declared.fault.Tear.{Tear}
use Rattle.plan_lang.specs.declared.lines.Line.{Line}
use Rattle.plan_lang.specs.declared.lines.Line.TheVariants as line
use Rattle.rdf_core.specs.declared.replies.NoWhy.{NoWhy}
use Rattle.rdf_core.specs.declared.replies.NoWhy.TheVariants as no
use Rattle.rdf_core.specs.declared.replies.Reply.{Reply}
use Rattle.rdf_core.specs.declared.replies.Reply.TheVariants.{No, Stopped, BackupUp, NodeDown}
use Rattle.rdf_core.specs.Effects.{IsDone, after_parts, after_all, parts_unless, when, first}
use Rattle.rdf_core.specs.Backup.{Backup as State, Around, backup_refusal, backup_parts, backup_after, backup_says, is_taking, is_taken, cannot_take, with_volumes, marks, rolled, stored, is_due, deliver_parts, store_parts, stores_parts, ends, drops, floor_of, Volumes, Running, Taking, Taken}
use Rattle.rdf_core.specs.PartLaws.{Every, every_parts, every_image, every_map, every_append, every_weaker, every_all}
use Rattle.rdf_backup.specs.States.{volumes_by}
use Rattle.rdf_backup.specs.Replies.{parts_of, not_running}
use Rattle.rdf_backup.specs.Restarting.{AreAtZero}

-- the durable parts count no stop, and leave volumes that are not protected at 0

abbrev pub Stays : Layout → State → State → Type 0
Stays layout b x = (x.stops ≡ b.stops) × (AreAtZero layout b.volumes → AreAtZero layout x.volumes)

store_stays : (layout : Layout) (grows due : Bool) (to : ℕ) (b : State) → Every (Stays layout b) (if grows then (if due then rolled b ∷ stored to (rolled b) ∷ [] else stored to b ∷ []) else [])
store_stays layout true true to b = ((refl, λ z. z), ((refl, λ z. z), tt))
store_stays layout true false to b = ((refl, λ z. z), tt)
store_stays layout false due to b = tt

marks_at_zero : (layout : Layout) (received : ℕ) (vs : Volumes) → Every (λ v. AreAtZero layout v) (marks received vs)
marks_at_zero layout received (Running points) = (tt, (tt, tt))
marks_at_zero layout received Taking = (tt, tt)
marks_at_zero layout received (Taken upto) = by_case (upto == received)
  where
    by_case : (same : Bool) → Every (λ v. AreAtZero layout v) (if same then [] else Taking ∷ Taken received ∷ [])
    by_case true = tt
    by_case false = (tt, (tt, tt))

abbrev pub StaysIn : Layout → Around → State → Line → Type 0
StaysIn layout w b l = (k : ℕ) → Stays layout b (after_parts b (parts_of layout w b l) k)

unless_stays : (layout : Layout) (b : State) (o : Option NoWhy) (parts : List State) (k : ℕ) → Every (Stays layout b) parts → Stays layout b (after_parts b (parts_unless o parts) k)
unless_stays layout b None parts k h = every_parts (Stays layout b) b parts k (refl, λ z. z) h
unless_stays layout b (Some why) parts k h = (refl, λ z. z)

pub deliver_stays : (layout : Layout) (w : Around) (b : State) (node : Node) (n : ℕ) → StaysIn layout w b (line.Deliver node n)
deliver_stays layout w b node n k = unless_stays layout b (backup_refusal layout w b (line.Deliver node n)) (backup_parts layout w b (line.Deliver node n)) k (go w.message)
  where
    go : (m : Option (ℕ × ℕ)) → Every (Stays layout b) (deliver_parts layout m b)
    go None = tt
    go (Some range) = store_stays layout (nat_lt b.received range.1) (is_due layout b) range.1 b

pub takeover_stays : (layout : Layout) (w : Around) (b : State) (node : Node) → StaysIn layout w b (line.Takeover node)
takeover_stays layout w b node k = unless_stays layout b (backup_refusal layout w b (line.Takeover node)) (backup_parts layout w b (line.Takeover node)) k
    (every_map (λ v. AreAtZero layout v) (Stays layout b) (with_volumes b) (marks b.received b.volumes) (λ v zero. (refl, λ z. zero)) (marks_at_zero layout b.received b.volumes))

pub list_stays : (layout : Layout) (w : Around) (b : State) (node : Node) (vol : ℕ) → StaysIn layout w b (line.List node vol)
list_stays layout w b node vol k = unless_stays layout b (backup_refusal layout w b (line.List node vol)) [] k tt

pub purge_stays : (layout : Layout) (w : Around) (b : State) (node : Node) → StaysIn layout w b (line.Purge node)
purge_stays layout w b node k = unless_stays layout b (backup_refusal layout w b (line.Purge node)) (backup_parts layout w b (line.Purge node)) k
    (every_image (Stays layout b) (λ starts. record b { starts = starts }) (drops layout.retain (floor_of layout w.trail w.points b) b.starts) (λ starts. (refl, λ z. z)))

-- what a copy stores leaves them so too, message by message

stays_then : (layout : Layout) (b c x : State) → Stays layout b c → Stays layout c x → Stays layout b x
stays_then layout b c x h k = (k.0 ∙ h.0, λ z. k.1 (h.1 z))

stores_stays : (layout : Layout) (tos : List ℕ) (b c : State) → Stays layout b c → Every (Stays layout b) (stores_parts layout tos c)
stores_stays layout [] b c h = tt
stores_stays layout (to ∷ more) b c h =
    let here = every_weaker (Stays layout c) (Stays layout b) (store_parts layout to c) (λ x k. stays_then layout b c x h k) (store_stays layout (nat_lt c.received to) (is_due layout c) to c) in
    every_append (Stays layout b) (store_parts layout to c) (stores_parts layout more (after_all c (store_parts layout to c))) here
    (stores_stays layout more b (after_all c (store_parts layout to c)) (every_all (Stays layout b) c (store_parts layout to c) h here))

pub copy_stays : (layout : Layout) (w : Around) (b : State) (node from : Node) → StaysIn layout w b (line.CopyAudit node from)
copy_stays layout w b node from k = unless_stays layout b (backup_refusal layout w b (line.CopyAudit node from)) (backup_parts layout w b (line.CopyAudit node from)) k
    (stores_stays layout (ends (w.lead.received - b.received) b.received w.lead.received) b b (refl, λ z. z))

-- none of the durable parts is done

pub no_less : (n : ℕ) → 0 ≤ n
no_less n = omega arith

-- a backup that is down
pub when_down : (P : State → Type 0) (b : State) → b.up ≡ false → P (record b { up = false }) → P b
when_down P b down h = subst (λ u. P (record b { up = u })) (sym down) h

-- and one that is up, where there is no such message, or the primary is not lost
pub missed : (p : Phase) (points : List ℕ) (received : ℕ) → first (first (None ∷ when (is_taking (volumes_by p points)) no.Taking ∷ when (is_taken (volumes_by p points)) no.Taken ∷ []) ∷ cannot_take received None ∷ []) ≡ Some (unwrap_or (not_running p) no.Message)
missed phase.Running points received = refl
missed phase.Taking points received = refl
missed (phase.Taken upto) points received = refl

pub not_lost : (layout : Layout) (w : Around) (b : State) (node : Node) → b.up ≡ true → w.lost ≡ false → backup_refusal layout w b (line.Takeover node) ≡ Some no.PrimaryUp
not_lost layout w b node up lost = ap (λ u. first (when (not u) no.Down ∷ when (not w.lost) no.PrimaryUp ∷ [])) up ∙ ap (λ l. first (None ∷ when (not l) no.PrimaryUp ∷ [])) lost

-- or the node that a copy is to come from is down
pub lead_off : (layout : Layout) (w : Around) (b : State) (node from : Node) → b.up ≡ true → w.lead.up ≡ false → backup_refusal layout w b (line.CopyAudit node from) ≡ Some no.Down
lead_off layout w b node from up down = subst (λ u. backup_refusal layout w (record b { up = u }) (line.CopyAudit node from) ≡ Some no.Down) (sym up)
    (when_down (λ lead. backup_refusal layout (record w { lead = lead }) (record b { up = true }) (line.CopyAudit node from) ≡ Some no.Down) w.lead down refl)

-- fuses

pub is_above : (v k : ℕ) → v < k → nat_lt v k ≡ true
is_above v k h = grind (arith, nat_tests)

pub is_within : (k v : ℕ) → k ≤ v → nat_lt v k ≡ false
is_within k v h = grind (arith, nat_tests)

pub fuse_beyond : (layout : Layout) (w : Around) (b : State) (node : Node) (disk calls : ℕ) (tear : Tear) → layout.volumes < disk → backup_refusal layout w b (line.Fuse node disk calls tear) ≡ Some no.Volume
fuse_beyond layout w b node disk calls tear far = ap (λ x. when x no.Volume) (is_above layout.volumes disk far)

pub fuse_within : (layout : Layout) (w : Around) (b : State) (node : Node) (disk calls : ℕ) (tear : Tear) → disk ≤ layout.volumes → backup_refusal layout w b (line.Fuse node disk calls tear) ≡ None
fuse_within layout w b node disk calls tear there = ap (λ x. when x no.Volume) (is_within disk layout.volumes there)
