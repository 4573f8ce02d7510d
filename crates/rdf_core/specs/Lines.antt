-- Each line on the whole system: its refusals, its durable parts, its effect and its reply.
use Rattle.std.specs.Prelude.{ℕ, false, not, nat_lt, List, [], ◌∷◌, length, take, map, slice_get, Option, Some, None, if◌then◌else◌}
use Rattle.rdf_types.specs.declared.layout.Layout.{Layout}
use Rattle.rdf_types.specs.declared.records.Node.{Node}
use Rattle.rdf_types.specs.declared.records.Node.TheVariants.{B}
use Rattle.rdf_types.specs.declared.records.RecKey.{RecKey}
use Rattle.rdf_model.specs.Contents.{nothing}
use Rattle.rdf_model.specs.Trail.{raw}
use Rattle.plan_lang.specs.declared.lines.Line.{Line}
use Rattle.plan_lang.specs.declared.lines.Line.TheVariants as line
use Rattle.by_node.specs.Each.{at, map_each}
use Rattle.rdf_core.specs.declared.replies.NoWhy.{NoWhy}
use Rattle.rdf_core.specs.declared.replies.NoWhy.TheVariants as no
use Rattle.rdf_core.specs.declared.replies.Reply.{Reply}
use Rattle.rdf_core.specs.declared.replies.Reply.TheVariants.{Number, Stopped}
use Rattle.rdf_core.specs.Effects.{when, first}
use Rattle.rdf_core.specs.Layouts.{points_at, point_of}
use Rattle.rdf_core.specs.Rule.{Rule, Answer, Tells, Nothing, Says, lift}
use Rattle.rdf_core.specs.Primary as primary
use Rattle.rdf_core.specs.Primary.{primary_rule, primary_after, appends, is_lost}
use Rattle.rdf_core.specs.Sender.{send_reply, after_send, after_ack, after_rewind, forgotten}
use Rattle.rdf_core.specs.Backup.{Backup, Volumes, Running, Taking, Taken, Around, needs_up, points_in, read_reply, with_up, deliver_rule, purge_rule, takeover_rule, copy_rule, session_rule, list_rule, info_rule, status_rule, fuse_rule, cut_rule, restart_rule, backup_refusal}
use Rattle.rdf_core.specs.Sessions.{Session, Closed, Refused, Open, Opened, opened, has_halted, met_stop, with_seen}
use Rattle.rdf_core.specs.State.{State, with_primary, with_sender, with_backup, with_session, by_node}

-- the range of a message that was sent
abbrev pub message : State → Node → ℕ → Option (ℕ × ℕ)
message s node k = slice_get (at s.senders node).sent k

-- the message that a line delivers, where it was sent
abbrev pub message_of : State → Line → Option (ℕ × ℕ)
message_of s (line.Deliver node k) = message s node k
message_of s _ = None

-- the backup that a line copies from
abbrev pub lead_of : State → Line → Backup
lead_of s (line.CopyAudit node from) = at s.backups from
lead_of s _ = at s.backups B

-- what a line on a backup needs of the rest
abbrev pub around : List ℕ → State → Line → Around
around points s l = record { trail = s.primary.trail; lost = is_lost s.primary.standing; message = message_of s l; lead = lead_of s l; points = points }

-- the first refusal of a line on a backup
abbrev pub refusal_at : Layout → State → Node → Line → Option NoWhy
refusal_at layout s node l = backup_refusal layout (around [] s l) (at s.backups node) l

-- the reply that refused the session
abbrev pub session_refusal : Session → Option NoWhy
session_refusal Closed = None
session_refusal (Refused node why) = Some why
session_refusal (Open o) = None

-- volumes that run stand at these points
abbrev pub run_at : List ℕ → Volumes → Volumes
run_at points (Running old) = Running points
run_at points Taking = Taking
run_at points (Taken upto) = Taken upto

-- a backup whose volumes stand there, if they run
abbrev pub with_points : Backup → List ℕ → Backup
with_points b points = record b { volumes = run_at points b.volumes }

-- the restart points of the session's backup
abbrev pub points_of : Layout → State → Opened → List ℕ
points_of layout s o = points_in layout s.primary.trail (at s.backups o.node).volumes

-- a read of the session notes its position; one of a volume whose disk stopped takes the node down
abbrev pub after_read : Layout → State → RecKey → Session → State
after_read layout s key Closed = s
after_read layout s key (Refused node why) = s
after_read layout s key (Open o) =
    if has_halted o key.vol
    then with_backup s o.node (with_up (at s.backups o.node) false)
    else with_session s (Open (with_seen o key.vol (point_of (points_of layout s o) key.vol)))

-- the end of a session: each volume stands at the received prefix, but where a disk stopped, which takes the node down
abbrev pub after_end : Layout → State → Session → State
after_end layout s Closed = s
after_end layout s (Refused node why) = s
after_end layout s (Open o) =
    if met_stop o
    then with_session (with_backup s o.node (with_up (at s.backups o.node) false)) Closed
    else with_session (with_backup s o.node (with_points (at s.backups o.node) (points_at layout (at s.backups o.node).received))) Closed

-- the primary's restart, which also forgets how far the senders were
abbrev pub restarted : State → Line → State
restarted s l = record { primary = primary_after s.primary l; senders = map_each forgotten s.senders; backups = s.backups; session = s.session }

-- what a read of the open session is answered
abbrev pub answer_of_read : Layout → State → RecKey → Session → Answer
answer_of_read layout s key Closed = Nothing
answer_of_read layout s key (Refused node why) = Nothing
answer_of_read layout s key (Open o) =
    let p = point_of (points_of layout s o) key.vol in
    Tells (if has_halted o key.vol then Stopped o.node else read_reply p (raw nothing (take p s.primary.trail) key))

-- the reply is that
abbrev pub read_says : Layout → State → RecKey → Session → Reply → Type 0
read_says layout s key session reply = Says (answer_of_read layout s key session) reply

-- what the end of the open session is answered
abbrev pub answer_of_end : State → Session → Answer
answer_of_end s Closed = Nothing
answer_of_end s (Refused node why) = Nothing
answer_of_end s (Open o) = Tells (if met_stop o then Stopped o.node else Number (at s.backups o.node).received)

-- a row of the primary
abbrev pub on_primary : State → Line → Rule State
on_primary s l = lift (with_primary s) (primary_rule s.primary l)

-- a row of the backup of a node
abbrev pub on_backup : State → Node → (Backup → Rule Backup) → Rule State
on_backup s node rule_of = lift (with_backup s node) (rule_of (at s.backups node))

-- a row without durable parts: the trail gets no record
abbrev pub notes : State → Option NoWhy → State → Answer → Rule State
notes s refusal after answer = record { refusal = λ _. refusal; parts = map (with_primary s) (appends s.primary s.primary.trail); after = after; answer = answer }

-- the row of each line, where a purge goes by these restart points
abbrev pub rule : Layout → List ℕ → State → Line → Rule State
rule layout points s (line.Begin t) = on_primary s (line.Begin t)
rule layout points s (line.Insert t k value) = on_primary s (line.Insert t k value)
rule layout points s (line.Update t k value) = on_primary s (line.Update t k value)
rule layout points s (line.Delete t k) = on_primary s (line.Delete t k)
rule layout points s (line.Get t k) = on_primary s (line.Get t k)
rule layout points s (line.Commit t) = on_primary s (line.Commit t)
rule layout points s (line.Abort t) = on_primary s (line.Abort t)
rule layout points s line.Lose = on_primary s line.Lose
rule layout points s (line.Send node most) =
    notes s (primary.needs_up s.primary) (with_sender s node (after_send (length s.primary.trail) most (at s.senders node)))
    (Tells (send_reply (length s.primary.trail) most (at s.senders node)))
rule layout points s (line.Rewind node) =
    notes s (primary.needs_up s.primary) (with_sender s node (after_rewind (at s.senders node))) (Tells (Number (at s.senders node).acked))
rule layout points s (line.Ack node) =
    notes s (first (primary.needs_up s.primary ∷ needs_up (at s.backups node) ∷ [])) (with_sender s node (after_ack (at s.backups node).received (at s.senders node)))
    (Tells (Number (at s.backups node).received))
rule layout points s (line.Deliver node k) = on_backup s node (deliver_rule layout (message s node k))
rule layout points s (line.Session node) =
    record (on_backup s node session_rule) { after = with_session s (Open (opened node (points_in layout s.primary.trail (at s.backups node).volumes))) }
rule layout points s (line.Read node key) =
    notes s (first (needs_up (at s.backups node) ∷ session_refusal s.session ∷ when (not (nat_lt key.vol layout.volumes)) no.Volume ∷ []))
    (after_read layout s key s.session) (answer_of_read layout s key s.session)
rule layout points s (line.Purge node) = on_backup s node (purge_rule layout s.primary.trail points)
rule layout points s line.End = notes s (session_refusal s.session) (after_end layout s s.session) (answer_of_end s s.session)
rule layout points s (line.Takeover node) = on_backup s node (takeover_rule (is_lost s.primary.standing))
rule layout points s (line.CopyAudit node from) = on_backup s node (copy_rule layout (at s.backups from))
rule layout points s (line.List node vol) =
    record (by_node node (on_primary s (line.List node vol)) (on_backup s node (list_rule layout s.primary.trail vol))) { after = s }
rule layout points s (line.Info node) = record (on_backup s node (info_rule layout s.primary.trail)) { after = s }
rule layout points s (line.Status node) =
    record (by_node node (on_primary s (line.Status node)) (on_backup s node (status_rule layout s.primary.trail))) { after = s }
rule layout points s (line.Fuse node disk calls tear) =
    record (by_node node (on_primary s (line.Fuse node disk calls tear)) (on_backup s node (fuse_rule layout disk))) { after = s }
rule layout points s (line.Cut node) = by_node node (on_primary s (line.Cut node)) (on_backup s node cut_rule)
rule layout points s (line.Restart node) =
    by_node node (record (on_primary s (line.Restart node)) { after = restarted s (line.Restart node) }) (on_backup s node restart_rule)

-- the first refusal of a line
abbrev pub refusal : Layout → State → Line → Option NoWhy
refusal layout s l = (rule layout [] s l).refusal layout

-- what a refused line leaves: a refused `session` opens a session that keeps the refusal, and the `end` of that closes it
abbrev pub kept : State → Line → NoWhy → State
kept s (line.Session node) why = with_session s (Refused node why)
kept s line.End why = with_session s Closed
kept s _ why = s

-- the durable parts of a line, each as the state that it leaves, where a purge goes by these restart points
abbrev pub parts : Layout → List ℕ → State → Line → List State
parts layout points s l = (rule layout points s l).parts

-- the state after a line that is not refused
abbrev pub after : Layout → List ℕ → State → Line → State
after layout points s l = (rule layout points s l).after

-- the reply to a line that is not refused
abbrev pub says : Layout → List ℕ → State → Line → Reply → Type 0
says layout points s l reply = Says (rule layout points s l).answer reply
